-- Demand 3, whole, in the trust's words: "For every list of samples, offered one after another from a fresh start, whatever they hold and with
-- refused ones among them, this is so at each accepted one. Take the exact average of the shear over each of the six windows, as a fraction, with
-- nothing before the start counted as anything but zero. With height from 50 to 1,000 feet, the red lamp is lit if any average is at least its
-- table value plus 0.000005. If every average is below its table value by more than 0.000005, or the height is outside that band, a dark red lamp
-- stays dark; it is dark at the start. The pitch command, whenever shown, is never above 27 degrees nor above that sample's stall-warning pitch. A
-- refused sample counts for nothing in all this. The same holds at each record of every accepted run."
-- `Demand3At` (the crate `claims`) says what it asks at one accepted sample; 01, "The list in demand 3", says what a list is.
--
-- The claim is over every history of calls, and knows of a call only what the function of its form promises: any answers and any states that meet
-- the promises will do. So it is not a claim about a single call, nor about one way to meet the promises. Averages are of exact shears, unrounded,
-- "cut at plus and minus 0.34500" (02, A1), from the list alone: a unit that rounded, cut or stored them wrongly would still be held to it. Each "takes
-- the same divided change .. and enters that many times", as many as the frames that its sample stands for; averages are read "at judged samples" (02,
-- A6).
use Rattle.std.specs.Prelude.{List, [], ◌∷◌, map, true, cond, ◌≡◌, ℕ, eqb}
use Rattle.host.specs.Lent.{LentPromise}
use Rattle.runfile.specs.Claims.{Demand3Run}
use Rattle.claims.specs.Claims.{accepted, shows, Demand3At}
use Rattle.rules.specs.Rules.{refusal_after, windows}
use Rattle.unit_core.specs.Core.{refused_of}
use Rattle.unit.specs.Steps.{fresh_state, passes, PlainPromise}
use Rattle.unit_core.specs.declared.Answer.{Answer}
use Rattle.rules.specs.declared.Sample.{Sample}
use Rattle.unit.specs.declared.State.{State}

-- The quotes below are from 01, "The list in demand 3", where the trust is not named.

-- "in the plain form or lent, in any mixture"
pub data Form : Type 0 where
  plain lent : Form

-- a call of `windshear_offer` or of `windshear_offer_lent`: the sample that it was offered, the answer that it gave, and the state that it
-- returned or left
pub record Call : Type 0 where
  pub form : Form
  pub sample : Sample
  pub answer : Answer
  pub after : State

-- what the function of a form promises, as its `ensures` says it, of the state that it was given, the sample, its answer and the state after
unfoldable pub Promised : Form → State → Sample → Answer → State → Type 0
Promised plain = PlainPromise
Promised lent = LentPromise

-- the state that a history of calls, the newest first, ends with: "The first gets the fresh state .. Each later one gets the state that the one
-- before it returned or left, and nobody else writes that state meanwhile."
unfoldable pub state_left : List Call → State
state_left [] = fresh_state
state_left (c ∷ before) = c.after

-- each call gave an answer, and returned or left a state, as its form's function promises of the state that it was given
unfoldable pub Meets : List Call → Type 0
Meets [] = Unit {0}
Meets (c ∷ before) = Promised c.form (state_left before) c.sample c.answer c.after × Meets before

-- the samples of a history that are accepted: "exactly the samples that no refusal number fits"; 21 by the accepted one before it (02, A6)
unfoldable pub accepted_of : List Call → List Sample
accepted_of l = accepted (map (λ c. c.sample) l)

-- the alert in the answer to the last accepted sample; 0 where there was none: "it is dark at the start" (the trust)
unfoldable pub alert_shown : List Call → ℕ
alert_shown [] = 0
alert_shown (c ∷ before) = cond (eqb (refusal_after c.sample (accepted_of before)) 0) c.answer.alert (alert_shown before)

pub record Demand3 : Type 0 where
  -- every list of samples, in any mixture of the forms, has such a history: after each, a call of either form with any sample can be answered
  pub goes_on : (before : List Call) → Meets before → (f : Form) (s : Sample) → (a : Answer) × (t : State) × Meets (record { form = f; sample = s; answer = a; after = t } ∷ before)
  -- "8 never comes here"
  pub passing : (l : List Call) → Meets l → passes (state_left l) ≡ true
  -- "that lamp, the command and whether it is shown are those that "Lamps and voice" and "Escape pitch" give for the list"; at a refused sample,
  -- the first number that fits it
  pub rules :
      (c : Call) (before : List Call) → Meets (c ∷ before)
      → c.answer
      ≡ cond (eqb (refusal_after c.sample (accepted_of before)) 0) (shows c.sample (accepted_of before)) (refused_of (refusal_after c.sample (accepted_of before)))
  -- "this is so at each accepted one" (the trust): red is alert 2 and the command is shown where guidance is 1, each in the call's own answer
  pub lone :
      (c : Call) (before : List Call) → Meets (c ∷ before) → refusal_after c.sample (accepted_of before) ≡ 0
      → Demand3At windows c.sample (accepted_of before) (eqb (alert_shown before) 2) (eqb c.answer.alert 2) (eqb c.answer.guidance 1) c.answer.command
  -- "The same holds at each record of every accepted run." (the trust)
  pub run : Demand3Run
