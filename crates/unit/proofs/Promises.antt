-- What the promise of the plain form says: of the pair that `offer` hands back, and of an answer and a state apart.
use mathlib.Core.Path.{◌≡◌, ap}
use Rattle.unit.specs.Steps.{offer_of, PlainPromise}
use Rattle.unit_core.specs.declared.Answer.{Answer}
use Rattle.unit.specs.declared.Offered.{Offered}
use Rattle.rules.specs.declared.Sample.{Sample}
use Rattle.unit.specs.declared.State.{State}

pub plain_offered : (t : State) (s : Sample) (r : Offered) → PlainPromise t s r.answer r.state → r ≡ offer_of t s
unfolding PlainPromise
plain_offered t s r e = e

pub plain_says : (t : State) (s : Sample) (a : Answer) (u : State) → PlainPromise t s a u → (a ≡ (offer_of t s).answer) × (u ≡ (offer_of t s).state)
unfolding PlainPromise
plain_says t s a u e = (ap (λ (r : Offered). r.answer) e, ap (λ (r : Offered). r.state) e)
