-- Paper 01, with A1 and A6 of 02, as rules over the list of accepted samples alone, the newest first: no state, no counter that stops, no array.
-- `before` is the list of the accepted samples before the one at hand. The sections stand in the paper's order; refusals 11 to 21 and the exact
-- average stand with what they speak of. What each sample stands for, "the frames elapsed" (02, A6), is in the list too: `frames`.
use Rattle.std.specs.Prelude.{Bool, true, false, not, ◌&&◌, ◌||◌, cond, List, [], ◌∷◌, ◌++◌, ℕ, ◌+◌, ◌*◌, ◌/◌, ltb, leb, eqb, ℤ, pos, neg_ℤ, nat_abs, ◌+ℤ◌, ◌-ℤ◌, ◌*ℤ◌, take, replicate}
use Rattle.std.specs.Int.Signed.{le_z, lt_z}
use Rattle.frames.specs.Frames.{elapsed, frames_fit}
use Rattle.rounding.specs.Cut.{cut, cut_f}
use Rattle.rounding.specs.Fraction.{Fraction, ◌over◌, ◌-F◌, zero_f, sum_f, times_f, divide_f, round_f, sum_ℤ}
use Rattle.rules.specs.Choice.{neg, first_of, or_else, within, same, smaller, larger, any_of}
use Rattle.rules.specs.declared.Sample.{Sample}

-- ════ A sample ════

-- a range of accepted values, both ends in
pub record Range : Type 0 where
  pub least : ℤ
  pub greatest : ℤ

-- one for each of the ten fields
pub record Ranges : Type 0 where
  pub along : Range
  pub vertical : Range
  pub airspeed : Range
  pub height : Range
  pub pitch : Range
  pub stall : Range
  pub climb : Range
  pub vs1 : Range
  pub mode : Range
  pub deselect : Range

abbrev pub range : ℤ → ℤ → Range
range least greatest = record { least = least; greatest = greatest }

-- the table's column "accepted"
unfoldable pub ranges : Ranges
ranges =
    record {
      along = range (neg 20000) (pos 20000);
      vertical = range (neg 10000) (pos 10000);
      airspeed = range (pos 6000) (pos 60000);
      height = range (neg 20) (pos 5000);
      pitch = range (neg 30000) (pos 30000);
      stall = range (neg 10000) (pos 30000);
      climb = range (neg 10000) (pos 10000);
      vs1 = range (pos 5000) (pos 30000);
      mode = range (pos 0) (pos 1);
      deselect = range (pos 0) (pos 1);
    }

unfoldable pub inside : Range → ℤ → Bool
inside r x = within r.least x r.greatest

-- whether each of the ten fields is accepted by a table of ranges, in table order
unfoldable pub in_range : Ranges → Sample → List Bool
in_range table s =
    inside table.along s.along
    ∷ inside table.vertical s.vertical
    ∷ inside table.airspeed s.airspeed
    ∷ inside table.height s.height
    ∷ inside table.pitch s.pitch
    ∷ inside table.stall s.stall
    ∷ inside table.climb s.climb
    ∷ inside table.vs1 s.vs1
    ∷ inside table.mode s.mode
    ∷ inside table.deselect s.deselect
    ∷ []

-- "Refusal numbers", 11 to 20: the number of the first field that is not accepted, the first field's being n; 0 where all are
unfoldable pub first_bad : ℕ → List Bool → ℕ
first_bad n [] = 0
first_bad n (ok ∷ rest) = first_of ok n (first_bad (n + 1) rest)

unfoldable pub refusal : Sample → ℕ
refusal s = first_bad 11 (in_range ranges s)

-- ════ Frames (02, A6) ════

-- a sample under a number
abbrev pub numbered : ℕ → Sample → Sample
numbered n s =
    record {
      along = s.along;
      vertical = s.vertical;
      airspeed = s.airspeed;
      height = s.height;
      pitch = s.pitch;
      stall = s.stall;
      climb = s.climb;
      vs1 = s.vs1;
      mode = s.mode;
      deselect = s.deselect;
      frame = n;
    }

-- "A sample then stands for the frames elapsed", since the accepted one before it; "The first sample stands for one"
unfoldable pub frames : Sample → List Sample → ℕ
frames s [] = 1
frames s (last ∷ _) = elapsed s.frame last.frame

-- "21 elapsed frames not 1 to 20, after 20 in the same record": of the number found before it, or 0, and of the frames
unfoldable pub then_frames : (earlier frames : ℕ) → ℕ
then_frames earlier n = or_else earlier (first_of (frames_fit n) 21 0)

-- the first number that fits a sample after the accepted ones before it
unfoldable pub refusal_after : Sample → List Sample → ℕ
refusal_after s before = then_frames (refusal s) (frames s before)

-- ════ Shear ════

-- C: "the change of along wind since the last accepted sample (0 at the first)"
unfoldable pub change : Sample → List Sample → ℤ
change s [] = pos 0
change s (last ∷ _) = s.along -ℤ last.along

-- "C × 18,520 / 1,765,197 − vertical wind / airspeed", of an airspeed and frames above 0; "the change of wind divided over" the frames "before the one
-- rounding" (02, A6)
unfoldable pub exact_shear : (c : ℤ) (frames : ℕ) (vertical airspeed : ℤ) → Fraction
exact_shear c frames vertical airspeed = (c *ℤ pos 18520) over (1765197 * frames) -F vertical over nat_abs airspeed

-- "in hundred-thousandths, the whole fraction rounded once to the nearest, ties away from zero"
unfoldable pub held_shear : (c : ℤ) (frames : ℕ) (vertical airspeed : ℤ) → ℤ
held_shear c frames vertical airspeed = round_f (times_f 100000 (exact_shear c frames vertical airspeed))

-- a sample's held shear, which its answer shows; and its exact one, "the formula above, unrounded" (01, "The list in demand 3"), which "takes the
-- same divided change" (02, A6)
unfoldable pub held : Sample → List Sample → ℤ
held s before = held_shear (change s before) (frames s before) s.vertical s.airspeed

unfoldable pub exact : Sample → List Sample → Fraction
exact s before = exact_shear (change s before) (frames s before) s.vertical s.airspeed

-- "the highest instantaneous value the test rows allow (0.2700 plus 0.075)" (02, A1), as held
abbrev pub entry_limit : ℕ
entry_limit = 34500

-- what a sample enters into the windows: "The held shear is cut to between -34,500 and 34,500 before it enters them" (02, A1)
unfoldable pub entry : Sample → List Sample → ℤ
entry s before = cut entry_limit (held s before)

-- and into the exact averages: "exact shears cut at plus and minus 0.34500" (02, A1)
unfoldable pub exact_entry : Sample → List Sample → Fraction
exact_entry s before = cut_f (pos entry_limit over 100000) (exact s before)

-- what the samples of a list have entered, the newest first: each "enters the windows that many times" (02, A6), as many as the frames that it stands
-- for
unfoldable pub entries {ℓ} : {A : Type ℓ} → (Sample → List Sample → A) → List Sample → List A
entries enter [] = []
entries enter (s ∷ before) = replicate (frames s before) (enter s before) ++ entries enter before

-- ════ The six windows ════

pub record Window : Type 0 where
  pub samples : ℕ
  pub value : ℕ

abbrev pub row : ℕ → ℕ → Window
row n v = record { samples = n; value = v }

-- "samples", which are as many entries, and "as held"
unfoldable pub windows : List Window
windows = row 200 10500 ∷ row 180 11660 ∷ row 160 13110 ∷ row 140 14990 ∷ row 120 17480 ∷ row 100 21000 ∷ []

-- "the last that many .., this sample's included; before the first sample they are zero"
unfoldable pub last_of {ℓ} : {A : Type ℓ} → ℕ → A → List A → List A
last_of n missing l = take n (l ++ replicate n missing)

unfoldable pub window_sum : ℕ → List ℤ → ℤ
window_sum n l = sum_ℤ (last_of n (pos 0) l)

-- "The list in demand 3": "the sum of the last that many entries .. divided by that many; entries missing before the first are 0"
unfoldable pub average : ℕ → List Fraction → Fraction
average n l = divide_f (sum_f (last_of n zero_f l)) n

-- "samples × value"
unfoldable pub limit : Window → ℤ
limit w = pos (w.samples * w.value)

-- "met upward when its sum is at least samples × value, downward when the negated sum is"
unfoldable pub met_up : List ℤ → Window → Bool
met_up l w = le_z (limit w) (window_sum w.samples l)

unfoldable pub met_down : List ℤ → Window → Bool
met_down l w = le_z (limit w) (neg_ℤ (window_sum w.samples l))

-- "height 50 to 1,000, both ends in"
unfoldable pub band : Range
band = range (pos 50) (pos 1000)

unfoldable pub in_band : Sample → Bool
in_band s = inside band s.height

-- ".. and some window met upward"; amber: "the same, downward". Both may hold at once. Outside the band the windows still fill: `entries`
-- does not look at the height. A sample's entries are "judged once" (02, A6), when all have come in.
unfoldable pub condition : (List ℤ → Window → Bool) → List Window → List Sample → Bool
condition met table [] = false
condition met table (s ∷ before) = in_band s && any_of (met (entries entry (s ∷ before))) table

unfoldable pub red_condition : List Sample → Bool
red_condition = condition met_up windows

unfoldable pub amber_condition : List Sample → Bool
amber_condition = condition met_down windows

-- ════ Lamps and voice ════

-- For how many frames in a row, a sample's last included, a lamp has been lit; 0 where it is dark. `holds` is its condition, `dark` what keeps it dark.
-- "Holds .. run in frames, read at a sample's last" (02, A6): it comes on at its sample's last frame, which is the first of them, whatever the sample
-- stands for; each later sample adds its frames.
-- "lit at a sample if the .. condition holds, or if it was lit at the sample before and fewer than 60 .. have passed since it came on": at the last of
-- m frames for which it has been lit, m - 1 have passed, so m is at most 60.
unfoldable pub lit_for : (holds dark : List Sample → Bool) → List Sample → ℕ
lit_for holds dark [] = 0
lit_for holds dark (s ∷ before) =
    let n = lit_for holds dark before in
    let m = n + frames s before in
    cond (dark (s ∷ before)) 0 (cond (eqb n 0) (cond (holds (s ∷ before)) 1 0) (cond (holds (s ∷ before) || leb m 60) m 0))

unfoldable pub red_for : List Sample → ℕ
red_for = lit_for red_condition (λ l. false)

unfoldable pub red_lit : List Sample → Bool
red_lit l = ltb 0 (red_for l)

-- lit, and not lit at the sample before: an accepted sample stands for a frame at least
unfoldable pub red_comes_on : List Sample → Bool
red_comes_on l = eqb (red_for l) 1

-- "Amber is dark whenever red is lit. Otherwise it follows the same rule on its own condition."
unfoldable pub amber_for : List Sample → ℕ
amber_for = lit_for amber_condition red_lit

unfoldable pub amber_lit : List Sample → Bool
amber_lit l = ltb 0 (amber_for l)

unfoldable pub amber_comes_on : List Sample → Bool
amber_comes_on l = eqb (amber_for l) 1

-- "The first sample is no mode change."
unfoldable pub mode_change : Sample → List Sample → Bool
mode_change s [] = false
mode_change s (last ∷ _) = not (same s.mode last.mode)

-- For how many frames, a sample's last included, the voice that was given since the last mode change has run or been over; 0 where none was given.
-- "when red comes on and none was given since the last mode change": `comes` says whether red comes on at a list's newest sample. The sample "that
-- starts voice" counts "one of its first 24" (02, A6), whatever it stands for; each later one adds its frames.
unfoldable pub voice_for : (comes : List Sample → Bool) → List Sample → ℕ
voice_for comes [] = 0
voice_for comes (s ∷ before) =
    let n = cond (mode_change s before) 0 (voice_for comes before) in
    cond (eqb n 0) (cond (comes (s ∷ before)) 1 0) (n + frames s before)

-- "three cycles of 24 samples .., counted 1, 2, 3 from that sample; else 0"; in frames (02, A6)
unfoldable pub cycle : ℕ → ℕ
cycle n = cond (leb n 72) ((n + 23) / 24) 0

unfoldable pub voice : List Sample → ℕ
voice l = cycle (voice_for red_comes_on l)

-- ════ Escape pitch ════

-- "the smaller of 27,000 and the stall-warning pitch"
unfoldable pub cap : Sample → ℤ
cap s = smaller (pos 27000) s.stall

-- "towards 15,000 by at most 75"; "the command may move 75 for each" frame (02, A6)
unfoldable pub towards : (frames : ℕ) → ℤ → ℤ
towards frames c = cond (lt_z c (pos 15000)) (smaller (pos 15000) (c +ℤ pos (75 * frames))) (larger (pos 15000) (c -ℤ pos (75 * frames)))

-- "climb above 0 and true airspeed × 10 above Vs1 × 13"
unfoldable pub climbing : Sample → Bool
climbing s = lt_z (pos 0) s.climb && lt_z (s.vs1 *ℤ pos 13) (s.airspeed *ℤ pos 10)

-- off; or on, with the number of frames in a row, this sample's last included, that have counted towards the end, and the command
pub data Guidance : Type 0 where
  off : Guidance
  on : ℕ → ℤ → Guidance

-- a sample that counts adds so many frames; one that does not puts the count to 0
unfoldable pub counted : Sample → (frames : ℕ) → ℕ → ℕ
counted s frames n = cond (climbing s) (n + frames) 0

-- of the frames that a sample stands for, whether red comes on at it, and the guidance at the sample before. "Guidance starts at the sample where red
-- comes on, with the pitch of that sample or the cap if smaller"; "at each later sample the command moves .., then is cut to the cap"; it ends "at the
-- 600th .. in a row, the starting one being the first that can count", and "the 600-count" runs "in frames", of which "the sample that starts guidance
-- counts one" (02, A6); "an end beats a coming-on"; "a coming-on while guidance runs changes nothing in it"
unfoldable pub guided : Sample → (frames : ℕ) → (comes : Bool) → Guidance → Guidance
guided s frames comes off = cond comes (on (counted s 1 0) (smaller s.pitch (cap s))) off
guided s frames comes (on n command) =
    cond (leb 600 (counted s frames n)) off (on (counted s frames n) (smaller (towards frames command) (cap s)))

-- "Guidance ends at a sample with deselect, which beats a start"
unfoldable pub guidance_by : (comes : List Sample → Bool) → List Sample → Guidance
guidance_by comes [] = off
guidance_by comes (s ∷ before) =
    cond (same s.deselect (pos 1)) off (guided s (frames s before) (comes (s ∷ before)) (guidance_by comes before))

unfoldable pub guidance : List Sample → Guidance
guidance = guidance_by red_comes_on

unfoldable pub is_on : Guidance → Bool
is_on off = false
is_on (on n command) = true

-- "While off, the command is 0."
unfoldable pub command_of : Guidance → ℤ
command_of off = pos 0
command_of (on n command) = command
