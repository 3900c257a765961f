-- A state follows the rules where it holds the entries and has the core that the rules give, each counter as it is up to where it stops. Accepted
-- samples, offered one after another, leave such states, and the answers are those of the rules.
use mathlib.Core.Bool.{Bool, true, false, ◌&&◌, ◌||◌, cond}
use mathlib.Core.List.{List, [], ◌∷◌}
use mathlib.Core.Path.{◌≡◌, refl, sym, ap, ◌∙◌}
use Prim.Native.Nat.{ℕ, zero, suc, ◌+◌, ◌-◌, ◌≤◌, ◌<◌, min}
use native.Mathlib.Omega.{arith}
use borrow.Author.Tests.{lt-ltb, le-leb, lt-leb, ne_eqb}
use lib.Dec.{ltb, leb, eqb, lit≤}
use lib.IntN.{ℤ, pos}
use native.Mathlib.Decide.{dec_lt, dec_le}
use Rattle.rounding.specs.Cut.{cut}
use Rattle.rules.specs.Choice.{same, smaller, any_of}
use Rattle.unit.specs.Holds.{HoldsList, EnterHolds}
use Rattle.claims.specs.Claims.{shows}
use Rattle.rules.specs.Rules.{frames, change, held, entry_limit, entry, entries, windows, met_up, met_down, in_band, condition, red_condition, amber_condition, lit_for, red_for, red_lit, red_comes_on, amber_for, amber_lit, mode_change, voice_for, cycle, voice, counted, cap, towards, Guidance, off, on, guided, guidance_by, guidance, is_on, command_of, inside, band}
use Rattle.unit_core.specs.Core.{frames_of, shear_of, entry_of, core_with, lamps_of, voice_of, guide_of, pitch_of, answer_of, shown_by}
use Rattle.unit.specs.Steps.{beside, windows_of, accept_of}
use Rattle.windows.specs.Ring.{sums_of, sum_list, reached, some_reached, met_of}
use Rattle.alerts.specs.Counters.{lamp_next, unless_lit, changed_of, kept_of, voice_next, no_guide, started_of, continued_of, guide_next, alert_of, shown_of}
use Rattle.unit_core.specs.declared.Answer.{Answer}
use Rattle.unit_core.specs.declared.Core.{Core}
use Rattle.rules.specs.declared.Sample.{Sample}
use Rattle.unit.specs.declared.State.{State}
use Rattle.alerts.specs.declared.pitch.Guide.{Guide}
use Rattle.windows.specs.declared.Sums.{Sums}
use Rattle.unit.proofs.Holding.{enter_holds}

-- ════ The core that the rules give ════

abbrev pub last_along : List Sample → ℤ
last_along [] = pos 0
last_along (s ∷ before) = s.along

abbrev pub last_mode : List Sample → ℤ
last_mode [] = pos 0
last_mode (s ∷ before) = s.mode

abbrev pub last_frame : List Sample → ℕ
last_frame [] = 0
last_frame (s ∷ before) = s.frame

abbrev pub seen_of : List Sample → ℕ
seen_of [] = 0
seen_of (s ∷ before) = 1

abbrev pub count_of : Guidance → ℕ
count_of off = 0
count_of (on n command) = n + 1

abbrev pub to_guide : Guidance → Guide
to_guide g = record { count = count_of g; command = command_of g }

-- a core from what it holds
abbrev pub made : Sums → ℕ → (along mode : ℤ) (frame seen red amber voice : ℕ) → Guide → Core
made sums place along mode frame seen red amber voice g =
    record { sums = sums; along = along; mode = mode; command = g.command; seen = seen; red = red; amber = amber; voice = voice; guidance = g.count; place = place; frame = frame }

-- the core that the rules give, at a place of the ring
unfoldable pub core_of : ℕ → List Sample → Core
core_of p l =
    made (sums_of (entries entry l)) p (last_along l) (last_mode l) (last_frame l) (seen_of l) (min (red_for l) 60) (min (amber_for l) 60) (min (voice_for red_comes_on l) 73) (to_guide (guidance l))

-- a state follows the rules: it holds the entries, and its core is the one that the rules give
pub record Follows (t : State) (l : List Sample) : Type 0 where
  pub entered : HoldsList t (entries entry l)
  pub core : t.core ≡ core_of t.core.place l

-- ════ Windows ════

pub frames_follows : (s : Sample) (l : List Sample) (p : ℕ) → frames_of (core_of p l) s ≡ frames s l
unfolding frames_of core_of frames
frames_follows s [] p = refl
frames_follows s (last ∷ l) p = refl

pub shear_follows : (s : Sample) (l : List Sample) (p : ℕ) → shear_of (core_of p l) s ≡ held s l
unfolding shear_of frames_of core_of held change frames
shear_follows s [] p = refl
shear_follows s (last ∷ l) p = refl

pub entry_follows : (s : Sample) (l : List Sample) (p : ℕ) → entry_of (core_of p l) s ≡ entry s l
unfolding entry_of entry
entry_follows s l p = ap (cut entry_limit) (shear_follows s l p)

-- ════ Counters ════

-- a counter that stops at k: none, on its way, or there
data Stand (n k : ℕ) : Type 0 where
  none : n ≡ 0 → Stand n k
  short : 0 < n → n < k → Stand n k
  full : k ≤ n → Stand n k

stand : (n k : ℕ) → Stand n k
stand zero k = none refl
stand (suc n) k = go (dec_lt (suc n) k)
  where
    go : Dec (suc n < k) → Stand (suc n) k
    go (yes h) = short (omega arith) h
    go (no h) = full (omega arith)

pub not_zero : (n : ℕ) → 0 < n → eqb n 0 ≡ false
not_zero n p = ne_eqb n 0 (λ e. positive n p e)
  where
    positive : (n : ℕ) → 0 < n → n ≡ 0 → ⊥
    positive n p e = omega arith

min_at : (n k : ℕ) → k ≤ n → min n k ≡ k
min_at n k h = omega arith

min_below : (n k : ℕ) → n ≤ k → min n k ≡ n
min_below n k h = omega arith

-- what a lamp that has been lit for n frames has been lit for k frames on, by the rules
abbrev lamp_rule : (n k : ℕ) → Bool → ℕ
lamp_rule n k b = cond (eqb n 0) (cond b 1 0) (cond (b || leb (n + k) 60) (n + k) 0)

-- the counter stops at 60: a sample that stands for a frame at least passes it from there
lamp_follows : (n k : ℕ) (b : Bool) → 1 ≤ k → lamp_next (min n 60) k b ≡ min (lamp_rule n k b) 60
unfolding lamp_next
lamp_follows n k b one = go (stand n 60) b
  where
    on_way : (b : Bool) → 0 < n → Dec (n + k ≤ 60)
        → cond (leb (n + k) 60) (n + k) (cond b 60 0) ≡ min (cond (b || leb (n + k) 60) (n + k) 0) 60
    on_way true p (yes h) = rw (le-leb (n + k) 60 h) (sym (min_below (n + k) 60 h))
    on_way false p (yes h) = rw (le-leb (n + k) 60 h) (sym (min_below (n + k) 60 h))
    on_way true p (no h) = rw (lt-leb (n + k) 60 (omega arith)) (sym (min_at (n + k) 60 (omega arith)))
    on_way false p (no h) = rw (lt-leb (n + k) 60 (omega arith))

    go : Stand n 60 → (b : Bool) → lamp_next (min n 60) k b ≡ min (lamp_rule n k b) 60
    go (none e) true = rw e
    go (none e) false = rw e
    go (short p h) b = rw (min_below n 60 (omega arith), not_zero n p) (on_way b p (dec_le (n + k) 60))
    go (full h) true = rw (min_at n 60 h, not_zero n (omega arith), lt-leb (60 + k) 60 (omega arith)) (sym (min_at (n + k) 60 (omega arith)))
    go (full h) false = rw (min_at n 60 h, not_zero n (omega arith), lt-leb (60 + k) 60 (omega arith), lt-leb (n + k) 60 (omega arith))

-- lit, and just come on, seen through the counter
lit_follows : (n k : ℕ) → 0 < k → ltb 0 (min n k) ≡ ltb 0 n
lit_follows zero k p = rw (min_below 0 k (omega arith))
lit_follows (suc n) k p = rw (lt-ltb 0 (suc n) (omega arith)) (lt-ltb 0 (min (suc n) k) (omega arith))

comes_follows : (n : ℕ) → eqb (min n 60) 1 ≡ eqb n 1
comes_follows n = go (stand n 60)
  where
    go : Stand n 60 → eqb (min n 60) 1 ≡ eqb n 1
    go (none e) = rw e
    go (short p h) = rw (min_below n 60 (omega arith))
    go (full h) = rw (min_at n 60 h) (sym (ne_eqb n 1 (many n h)))
      where
        many : (n : ℕ) → 60 ≤ n → n ≡ 1 → ⊥
        many n h e = omega arith

amber_follows : (r n k : ℕ) (b : Bool) → 1 ≤ k
    → unless_lit (min r 60) (lamp_next (min n 60) k b) ≡ min (cond (ltb 0 r) 0 (lamp_rule n k b)) 60
unfolding unless_lit
amber_follows r n k b one = rw (lit_follows r 60 (lit≤ tt), lamp_follows n k b one) (go (ltb 0 r))
  where
    go : (t : Bool) → cond t 0 (min (lamp_rule n k b) 60) ≡ min (cond t 0 (lamp_rule n k b)) 60
    go true = refl
    go false = refl

voice_follows : (n k : ℕ) (b : Bool) → voice_next (min n 73) k b ≡ min (cond (eqb n 0) (cond b 1 0) (n + k)) 73
unfolding voice_next
voice_follows n k b = go (stand n 73) b
  where
    on_way : Dec (n + k ≤ 72) → cond (leb (n + k) 72) (n + k) 73 ≡ min (n + k) 73
    on_way (yes h) = rw (le-leb (n + k) 72 h) (sym (min_below (n + k) 73 (omega arith)))
    on_way (no h) = rw (lt-leb (n + k) 72 (omega arith)) (sym (min_at (n + k) 73 (omega arith)))

    go : Stand n 73 → (b : Bool) → voice_next (min n 73) k b ≡ min (cond (eqb n 0) (cond b 1 0) (n + k)) 73
    go (none e) true = rw e
    go (none e) false = rw e
    go (short p h) b = rw (min_below n 73 (omega arith), not_zero n p) (on_way (dec_le (n + k) 72))
    go (full h) b = rw (min_at n 73 h, not_zero n (omega arith), lt-leb (73 + k) 72 (omega arith)) (sym (min_at (n + k) 73 (omega arith)))

kept_follows : (n : ℕ) (change : Bool) → kept_of (min n 73) change ≡ min (cond change 0 n) 73
unfolding kept_of
kept_follows n true = refl
kept_follows n false = refl

cycle_follows : (n : ℕ) → cycle (min n 73) ≡ cycle n
unfolding cycle
cycle_follows n = go (stand n 73)
  where
    go : Stand n 73 → cycle (min n 73) ≡ cycle n
    go (none e) = rw e
    go (short p h) = rw (min_below n 73 (omega arith))
    go (full h) = rw (min_at n 73 h, lt-leb n 72 (omega arith))

mode_follows : (s : Sample) (l : List Sample) → changed_of (seen_of l) (last_mode l) s.mode ≡ mode_change s l
unfolding changed_of mode_change
mode_follows s [] = refl
mode_follows s (last ∷ l) = refl

-- ════ Guidance ════

guide_follows : (g : Guidance) (s : Sample) (k : ℕ) (comes : Bool)
    → guide_next (to_guide g) s k comes ≡ to_guide (cond (same s.deselect (pos 1)) off (guided s k comes g))
unfolding guide_next no_guide started_of continued_of guided command_of
guide_follows g s k comes = go (same s.deselect (pos 1)) g comes
  where
    later : (n m : ℕ) (c : ℤ) → m ≡ n
        → cond (leb 600 m) no_guide (record { count = m + 1; command = c }) ≡ to_guide (cond (leb 600 n) off (on n c))
    later n m c e = rw e (end (leb 600 n))
      where
        end : (t : Bool) → cond t no_guide (record { count = n + 1; command = c }) ≡ to_guide (cond t off (on n c))
        end true = refl
        end false = refl

    go : (t : Bool) (g : Guidance) (comes : Bool)
        → cond t no_guide (cond (eqb (count_of g) 0) (cond comes (started_of s) no_guide) (continued_of (to_guide g) s k)) ≡ to_guide (cond t off (guided s k comes g))
    go true g comes = refl
    go false off true = refl
    go false off false = refl
    go false (on n c) comes =
        rw (not_zero (n + 1) (omega arith))
        (later (counted s k n) (counted s k (n + 1 - 1)) (smaller (towards k c) (cap s)) (ap (counted s k) (omega arith)))

shown_follows : (g : Guidance) → shown_of (count_of g) ≡ cond (is_on g) 1 0
unfolding shown_of is_on
shown_follows off = refl
shown_follows (on n c) = rw (not_zero (n + 1) (omega arith))

alert_follows : (r n : ℕ) → alert_of (min r 60) (min n 60) ≡ cond (ltb 0 r) 2 (cond (ltb 0 n) 1 0)
unfolding alert_of
alert_follows r n = rw (lit_follows r 60 (lit≤ tt), lit_follows n 60 (lit≤ tt))

pub guide_next_lem : (s : Sample) (l : List Sample) → guide_next (to_guide (guidance l)) s (frames s l) (eqb (min (red_for (s ∷ l)) 60) 1) ≡ to_guide (guidance (s ∷ l))
unfolding guidance guidance_by red_comes_on
guide_next_lem s l = rw (comes_follows (red_for (s ∷ l))) (guide_follows (guidance l) s (frames s l) (red_comes_on (s ∷ l)))

-- answers that differ in nothing
same_answer : {a b v w g h : ℕ} {command shear : ℤ} → a ≡ b → v ≡ w → g ≡ h
    → ◌≡◌ {A = Answer} (record { refusal = 0; alert = a; voice = v; guidance = g; command = command; shear = shear })
    (record { refusal = 0; alert = b; voice = w; guidance = h; command = command; shear = shear })
same_answer p q r = rw (p, q, r)

-- ════ A step ════

-- the windows' sums are met as the windows of all the entries
met_follows : (e : List ℤ) → (met_of true (sums_of e) ≡ any_of (met_up e) windows) × (met_of false (sums_of e) ≡ any_of (met_down e) windows)
unfolding met_of some_reached reached sum_list sums_of met_up met_down windows any_of
met_follows e = (refl, refl)

module _ (s : Sample) (l : List Sample) (p : ℕ) where
  -- the six sums of the entries, this sample's included
  abbrev now_sums : Sums
  now_sums = sums_of (entries entry (s ∷ l))

  filled : core_with now_sums p s (core_of p l)
      ≡ made now_sums p s.along (last_mode l) s.frame (seen_of l) (min (red_for l) 60) (min (amber_for l) 60) (min (voice_for red_comes_on l) 73) (to_guide (guidance l))
  unfolding core_with core_of
  filled = refl

  red_holds : (inside band s.height && met_of true now_sums) ≡ red_condition (s ∷ l)
  unfolding red_condition condition in_band
  red_holds = rw (met_follows (entries entry (s ∷ l))).0 refl

  amber_holds : (inside band s.height && met_of false now_sums) ≡ amber_condition (s ∷ l)
  unfolding amber_condition condition in_band
  amber_holds = rw (met_follows (entries entry (s ∷ l))).1 refl

  red_next : 1 ≤ frames s l → lamp_next (min (red_for l) 60) (frames s l) (red_condition (s ∷ l)) ≡ min (red_for (s ∷ l)) 60
  unfolding red_for lit_for
  red_next = lamp_follows (red_for l) (frames s l) (red_condition (s ∷ l))

  amber_next : 1 ≤ frames s l
      → unless_lit (min (red_for (s ∷ l)) 60) (lamp_next (min (amber_for l) 60) (frames s l) (amber_condition (s ∷ l))) ≡ min (amber_for (s ∷ l)) 60
  unfolding amber_for lit_for red_lit
  amber_next = amber_follows (red_for (s ∷ l)) (amber_for l) (frames s l) (amber_condition (s ∷ l))

  lit : 1 ≤ frames s l
      → lamps_of (made now_sums p s.along (last_mode l) s.frame (seen_of l) (min (red_for l) 60) (min (amber_for l) 60) (min (voice_for red_comes_on l) 73) (to_guide (guidance l))) s.height (frames s l)
      ≡ made now_sums p s.along (last_mode l) s.frame (seen_of l) (min (red_for (s ∷ l)) 60) (min (amber_for (s ∷ l)) 60) (min (voice_for red_comes_on l) 73) (to_guide (guidance l))
  unfolding lamps_of
  lit one = rw (red_holds, amber_holds, red_next one, amber_next one)

  voice_next_lem : voice_next (kept_of (min (voice_for red_comes_on l) 73) (changed_of (seen_of l) (last_mode l) s.mode)) (frames s l) (eqb (min (red_for (s ∷ l)) 60) 1)
      ≡ min (voice_for red_comes_on (s ∷ l)) 73
  unfolding voice_for red_comes_on
  voice_next_lem =
      rw (mode_follows s l, kept_follows (voice_for red_comes_on l) (mode_change s l), comes_follows (red_for (s ∷ l)))
      (voice_follows (cond (mode_change s l) 0 (voice_for red_comes_on l)) (frames s l) (red_comes_on (s ∷ l)))

  spoken : voice_of (made now_sums p s.along (last_mode l) s.frame (seen_of l) (min (red_for (s ∷ l)) 60) (min (amber_for (s ∷ l)) 60) (min (voice_for red_comes_on l) 73) (to_guide (guidance l))) s (frames s l)
      ≡ made now_sums p s.along s.mode s.frame 1 (min (red_for (s ∷ l)) 60) (min (amber_for (s ∷ l)) 60) (min (voice_for red_comes_on (s ∷ l)) 73) (to_guide (guidance l))
  unfolding voice_of
  spoken = rw voice_next_lem

  pitched : pitch_of (made now_sums p s.along s.mode s.frame 1 (min (red_for (s ∷ l)) 60) (min (amber_for (s ∷ l)) 60) (min (voice_for red_comes_on (s ∷ l)) 73) (to_guide (guidance l))) s (frames s l)
      ≡ core_of p (s ∷ l)
  unfolding pitch_of guide_of core_of
  pitched = rw (guide_next_lem s l)

  -- the core after a sample whose windows are filled
  pub core_next : 1 ≤ frames s l → shown_by (core_with now_sums p s (core_of p l)) s (frames s l) ≡ core_of p (s ∷ l)
  unfolding shown_by
  core_next one = rw (filled, lit one, spoken, pitched)

  pub answered : answer_of (core_of p (s ∷ l)) (held s l) ≡ shows s l
  unfolding answer_of core_of shows red_lit amber_lit voice
  answered =
      same_answer {command = command_of (guidance (s ∷ l))} {shear = held s l} (alert_follows (red_for (s ∷ l)) (amber_for (s ∷ l))) (cycle_follows (voice_for red_comes_on (s ∷ l))) (shown_follows (guidance (s ∷ l)))

-- an accepted sample's answer, and the state that it leaves
module _ (s : Sample) (l : List Sample) (t : State) (f : Follows t l) where
  pub frames_are : frames_of t.core s ≡ frames s l
  frames_are = ap (λ c. frames_of c s) f.core ∙ frames_follows s l t.core.place

  entry_is : entry_of t.core s ≡ entry s l
  entry_is = ap (λ c. entry_of c s) f.core ∙ entry_follows s l t.core.place

  shear_is : shear_of t.core s ≡ held s l
  shear_is = ap (λ c. shear_of c s) f.core ∙ shear_follows s l t.core.place

  -- the state once its windows are filled, and the place of this sample's last entry
  abbrev entered_state : State
  entered_state = windows_of t s (frames s l) (entry s l)

  abbrev at : ℕ
  at = entered_state.core.place

  windows_hold : HoldsList entered_state (entries entry (s ∷ l))
  unfolding entries EnterHolds
  windows_hold = enter_holds t (entries entry l) s (frames s l) (entry s l) f.entered

  windows_core : entered_state.core ≡ core_with entered_state.core.sums at s t.core
  unfolding windows_of core_with
  windows_core = refl

  -- a core's place and sums do not outlast new ones
  core_anew : (sums : Sums) (p q : ℕ) → core_with sums q s (core_of p l) ≡ core_with sums q s (core_of q l)
  unfolding core_with core_of
  core_anew sums p q = refl

  end : 1 ≤ frames s l → shown_by entered_state.core s (frames s l) ≡ core_of at (s ∷ l)
  end one =
      ap (λ c. shown_by c s (frames s l))
      (windows_core ∙ ap (λ c. core_with entered_state.core.sums at s c) f.core ∙ core_anew entered_state.core.sums t.core.place at
      ∙ ap (λ sums. core_with sums at s (core_of at l)) windows_hold.sums)
      ∙ core_next s l at one

  pub left : State
  left = beside entered_state.held (core_of at (s ∷ l))

  pub left_follows : Follows left (s ∷ l)
  unfolding left core_of
  left_follows =
      record {
        entered = record { long = windows_hold.long; on_ring = windows_hold.on_ring; ring = windows_hold.ring; sums = refl };
        core = refl;
      }

  pub accept_follows : 1 ≤ frames s l → accept_of t s ≡ record { answer = shows s l; state = left }
  unfolding accept_of left
  accept_follows one = rw (frames_are, entry_is, shear_is, end one, answered s l at)
