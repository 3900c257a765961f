-- The promise of the lent form, of the lent state before the call, the sample, the answer, and the lent state after the call: "keeps one running
-- state and lends it for each sample; the state after the call is fixed" (01, "What the unit covers"). The plain form's is unit's `PlainPromise`.
use Rattle.std.specs.Prelude.{◌≡◌}
use Rattle.unit.specs.Steps.{offer_of}
use Rattle.unit_core.specs.declared.Answer.{Answer}
use Rattle.rules.specs.declared.Sample.{Sample}
use Rattle.unit.specs.declared.State.{State}

unfoldable pub LentPromise : State → Sample → Answer → State → Type 0
LentPromise before s answer after = (answer ≡ (offer_of before s).answer) × (after ≡ (offer_of before s).state)
