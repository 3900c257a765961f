-- A9, whole: "Prove that every answer equals that of windows summed anew from a plain list of the entries, for any accepted samples from a fresh
-- start." It is of every history of calls, as demand 3 is, and of every accepted run. `list_answer` (the crate `claims`) is the answer of a unit that
-- keeps its entries in a plain list and sums every window anew.
use Rattle.std.specs.Prelude.{List, ◌∷◌, ◌≡◌}
use Rattle.host.specs.Demand3.{Call, Meets, accepted_of}
use Rattle.runfile.specs.Claims.{RunsSummedAnew}
use Rattle.claims.specs.Claims.{list_answer}
use Rattle.rules.specs.Rules.{refusal_after}

pub record AllSummedAnew : Type 0 where
  -- samples offered alone, in the plain form or lent, in any mixture, with refused ones among them
  pub lone : (c : Call) (before : List Call) → Meets (c ∷ before) → refusal_after c.sample (accepted_of before) ≡ 0 → c.answer ≡ list_answer c.sample (accepted_of before)
  pub run : RunsSummedAnew
