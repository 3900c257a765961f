-- The claims on states, and over every list of samples offered in the plain form, each a definition that is proved in proofs/Claims.antt or
-- proofs/ComingOn.antt, or for A9 in proofs/Turned.antt; what a state holds is unit's Holds.antt. A list has the newest sample first. 01: "The list
-- in demand 3" and the last lines of "Refusal numbers".
use Rattle.std.specs.Prelude.{Bool, true, false, not, ◌&&◌, cond, ◌⊎◌, ◌≡◌, ℕ, ◌<◌, eqb, ℤ, pos, length, replicate, ◌≤ℤ◌}
use mathlib.Core.List.{List, [], ◌∷◌, ◌++◌, Memᴰ}
use Rattle.rounding.specs.Fraction.{Fraction, ◌over◌, ◌+F◌, ◌≤F◌, ◌<F◌, AllPositive}
use Rattle.rules.specs.Rules.{refusal_after, held, exact, entry, exact_entry, entries, Window, windows, in_band, average, red_lit, red_comes_on, amber_lit, amber_comes_on, voice, guidance, is_on, command_of}
use Rattle.unit_core.specs.Core.{fresh_core, frames_of, shear_of, entry_of, core_with, shown_by, answer_of, refused_of}
use Rattle.unit.specs.Holds.{HoldsList}
use Rattle.unit.specs.Steps.{fresh_state, passes, refusal_of, offer_of}
use Rattle.windows.specs.Ring.{read_from, sums_of}
use Rattle.unit_core.specs.declared.Answer.{Answer}
use Rattle.unit_core.specs.declared.Core.{Core}
use Rattle.rules.specs.declared.Sample.{Sample}
use Rattle.unit.specs.declared.State.{State}

-- "The first gets the fresh state .. Each later one gets the state that the one before it returned": the state after a list
unfoldable pub state_after : List Sample → State
state_after [] = fresh_state
state_after (s ∷ before) = (offer_of (state_after before) s).state

-- the answer to a sample that is offered after a list
unfoldable pub answer_to : Sample → List Sample → Answer
answer_to s before = (offer_of (state_after before) s).answer

-- "Accepted are exactly the samples that no refusal number fits; 8 never comes here." Whether 21 fits one depends on the accepted one before it
-- (02, A6).
unfoldable pub accepted : List Sample → List Sample
accepted [] = []
accepted (s ∷ before) = cond (eqb (refusal_after s (accepted before)) 0) (s ∷ accepted before) (accepted before)

-- ════ Claims on states and answers ════

-- "The fresh state passes 8": refusal 8 fits no state that such a list leaves, the fresh one included
unfoldable pub StatesPass : Type 0
StatesPass = (l : List Sample) → passes (state_after l) ≡ true

-- "and so does every state left by an accepted sample", whatever state that passes it was offered to
unfoldable pub LeftPasses : Type 0
LeftPasses = (t : State) (s : Sample) → refusal_of t s ≡ 0 → passes (offer_of t s).state ≡ true

-- what the rules show at an accepted sample, as an answer
unfoldable pub shows : Sample → List Sample → Answer
shows s before =
    let now = s ∷ before in
    record {
      refusal = 0;
      alert = cond (red_lit now) 2 (cond (amber_lit now) 1 0);
      voice = voice now;
      guidance = cond (is_on (guidance now)) 1 0;
      command = command_of (guidance now);
      shear = held s before;
    }

-- at each sample: the answer by the rules over the accepted samples alone; or the first number that fits it
unfoldable pub AnswersByRules : Type 0
AnswersByRules =
    (s : Sample) (before : List Sample)
    → answer_to s before
    ≡ cond (eqb (refusal_after s (accepted before)) 0) (shows s (accepted before)) (refused_of (refusal_after s (accepted before)))

-- "A refused sample is as if never offered": whatever is offered before and after it, the next answer and state are those without it
unfoldable pub RefusedIsNothing : Type 0
RefusedIsNothing =
    (before later : List Sample) (bad next : Sample) → ¬ (refusal_after bad (accepted before) ≡ 0)
    → offer_of (state_after (later ++ bad ∷ before)) next ≡ offer_of (state_after (later ++ before)) next

-- A lamp "comes on" where it is lit and was not at the sample before. The rules read that off the frames for which it has been lit, `red_comes_on` and
-- `amber_comes_on`; at an accepted sample the two are one, as it stands for a frame at least (02, A6).
pub record ComesOnOnce : Type 0 where
  pub red : (s : Sample) (before : List Sample) → refusal_after s before ≡ 0 → red_comes_on (s ∷ before) ≡ (red_lit (s ∷ before) && not (red_lit before))
  pub amber :
      (s : Sample) (before : List Sample) → refusal_after s before ≡ 0
      → amber_comes_on (s ∷ before) ≡ (amber_lit (s ∷ before) && not (amber_lit before))

-- ════ A9: a ring with running sums answers as a plain list does ════

-- what samples leave, offered from a fresh start, holds what the accepted ones entered
unfoldable pub StatesHold : Type 0
StatesHold = (l : List Sample) → HoldsList (state_after l) (entries entry (accepted l))

-- The unit without a ring keeps "a plain list of the entries", the newest first. At each sample its core gets the windows' sums anew from that
-- list; all else is as it is with a ring.
pub record ListUnit : Type 0 where
  pub list : List ℤ
  pub core : Core

-- one that has been offered these samples, the newest first, all of them accepted
unfoldable pub list_after : List Sample → ListUnit
list_after [] = record { list = []; core = fresh_core }
list_after (s ∷ before) =
    let u = list_after before in
    let n = frames_of u.core s in
    let list = replicate n (entry_of u.core s) ++ u.list in
    record { list = list; core = shown_by (core_with (sums_of list) 0 s u.core) s n }

unfoldable pub list_answer : Sample → List Sample → Answer
list_answer s before = answer_of (list_after (s ∷ before)).core (shear_of (list_after before).core s)

-- "every answer equals that of windows summed anew from a plain list of the entries, for any accepted samples from a fresh start" (02, A9), in the
-- plain form; host's Anew.antt has it for every history of calls and for runs
unfoldable pub SummedAnew : Type 0
SummedAnew = (s : Sample) (before : List Sample) → refusal_after s (accepted before) ≡ 0 → answer_to s before ≡ list_answer s (accepted before)

-- a core as it is but for its place
unfoldable pub placed : ℕ → Core → Core
placed place c =
    record { sums = c.sums; along = c.along; mode = c.mode; command = c.command; seen = c.seen; red = c.red; amber = c.amber; voice = c.voice; guidance = c.guidance; place = place; frame = c.frame }

-- two states that differ only in how far the ring is turned
pub record Turned (t u : State) : Type 0 where
  pub long : (length t.held ≡ 200) × (length u.held ≡ 200)
  pub on_ring : (t.core.place < 200) × (u.core.place < 200)
  pub ring : read_from t.core.place t.held ≡ read_from u.core.place u.held
  pub core : t.core ≡ placed t.core.place u.core

-- every sample gets the same answer from both, and leaves two that differ only so
unfoldable pub TurnedAlike : Type 0
TurnedAlike = (t u : State) (s : Sample) → Turned t u → ((offer_of t s).answer ≡ (offer_of u s).answer) × Turned (offer_of t s).state (offer_of u s).state

-- ════ Demand 3, for lone samples in the plain form ════

-- The quotes are from the trust's demand 3 where no other paper is named.

-- "0.000005"
unfoldable pub tolerance : Fraction
tolerance = pos 5 over 1000000

-- "Table values are those held, over 100,000." (01)
unfoldable pub table_value : Window → Fraction
table_value w = pos w.value over 100000

-- "the exact average of the shear over each of the six windows, as a fraction, with nothing before the start counted as anything but zero". "Demand 3
-- then reads averages of exact shears cut at plus and minus 0.34500" (02, A1): so of `exact_entry`
unfoldable pub average_of : Window → List Sample → Fraction
average_of w l = average w.samples (entries exact_entry l)

-- an average "is at least its table value plus 0.000005"
unfoldable pub Reaches : List Sample → Window → Type 0
Reaches l w = (table_value w +F tolerance) ≤F average_of w l

-- an average "is below its table value by more than 0.000005"
unfoldable pub Below : List Sample → Window → Type 0
Below l w = (average_of w l +F tolerance) <F table_value w

-- "A fraction here is a whole number over a positive one; two are added and compared by multiplying out" (01): every fraction that `exact_entry`,
-- `Reaches` and `Below` add or compare has a positive divisor
unfoldable pub PositiveDivisors : List Sample → Window → Type 0
PositiveDivisors l w =
    AllPositive (average_of w l ∷ table_value w ∷ tolerance ∷ (table_value w +F tolerance) ∷ (average_of w l +F tolerance) ∷ entries exact_entry l)
    × AllPositive (entries exact l)

-- the alert that the last accepted sample's answer showed; 0 where there was none
unfoldable pub last_alert : List Sample → ℕ
last_alert [] = 0
last_alert (s ∷ before) = cond (eqb (refusal_after s (accepted before)) 0) (answer_to s before).alert (last_alert before)

-- "For every list of samples, offered one after another from a fresh start, whatever they hold and with refused ones among them, this is so at each
-- accepted one": at the accepted sample s, by a table of windows, with the accepted samples before it. `was_red` is whether red was lit at the one
-- before (false where there was none), `red` whether it is lit at this one, `shown` whether the command is shown. It says nothing of counters or
-- arrays: averages come from the list.
pub record Demand3At (table : List Window) (s : Sample) (before : List Sample) (was_red red shown : Bool) (command : ℤ) : Type 0 where
  -- what the averages and the table values are: fractions as 01 has them
  pub positive : (w : Window) → Memᴰ w table → PositiveDivisors (s ∷ before) w
  -- "With height from 50 to 1,000 feet, the red lamp is lit if any average is at least its table value plus 0.000005."
  pub lit : (w : Window) → Memᴰ w table → in_band s ≡ true → Reaches (s ∷ before) w → red ≡ true
  -- "If every average is below its table value by more than 0.000005, or the height is outside that band, a dark red lamp stays dark; it is dark at
  -- the start."
  pub dark : was_red ≡ false → (in_band s ≡ false) ⊎ ((w : Window) → Memᴰ w table → Below (s ∷ before) w) → red ≡ false
  -- "The pitch command, whenever shown, is never above 27 degrees nor above that sample's stall-warning pitch."
  pub capped : shown ≡ true → (command ≤ℤ pos 27000) × (command ≤ℤ s.stall)

-- at every accepted sample of every list: red is alert 2, and the command is shown where guidance is 1
unfoldable pub Demand3Lone : Type 0
Demand3Lone =
    (before : List Sample) (s : Sample) → refusal_after s (accepted before) ≡ 0
    → Demand3At windows s (accepted before) (eqb (last_alert before) 2) (eqb (answer_to s before).alert 2) (eqb (answer_to s before).guidance 1) (answer_to s before).command
