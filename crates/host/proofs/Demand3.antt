-- Demand 3, whole: a history that meets the promises has the answers and states of its samples offered in the plain form.
use mathlib.Core.Bool.{cond}
use mathlib.Core.List.{List, [], ◌∷◌, map}
use mathlib.Core.Path.{◌≡◌, refl, ap, ◌∙◌}
use lib.Dec.{eqb}
use Rattle.host.specs.Demand3.{Form, plain, lent, Call, Promised, state_left, Meets, accepted_of, alert_shown, Demand3}
use Rattle.host.specs.Lent.{LentPromise}
use Rattle.runfile.proofs.RunClaims.{demand_3_run}
use Rattle.claims.proofs.Claims.{states_pass, answers_by_rules, demand_3_lone}
use Rattle.unit.proofs.Promises.{plain_says}
use Rattle.claims.specs.Claims.{state_after, answer_to, last_alert, StatesPass, AnswersByRules, Demand3Lone}
use Rattle.rules.specs.Rules.{refusal_after}
use Rattle.unit.specs.Steps.{offer_of, PlainPromise}
use Rattle.unit_core.specs.declared.Answer.{Answer}
use Rattle.rules.specs.declared.Sample.{Sample}
use Rattle.unit.specs.declared.State.{State}

abbrev samples : List Call → List Sample
samples l = map (λ c. c.sample) l

-- what either form promises of its answer and of the state after
said : (f : Form) (t : State) (s : Sample) (a : Answer) (u : State) → Promised f t s a u → (a ≡ (offer_of t s).answer) × (u ≡ (offer_of t s).state)
unfolding Promised LentPromise
said plain t s a u p = plain_says t s a u p
said lent t s a u p = p

-- and it can be kept
kept : (f : Form) (t : State) (s : Sample) → Promised f t s (offer_of t s).answer (offer_of t s).state
unfolding Promised PlainPromise LentPromise
kept plain t s = refl
kept lent t s = (refl, refl)

state_same : (l : List Call) → Meets l → state_left l ≡ state_after (samples l)
unfolding Meets state_left state_after
state_same [] m = refl
state_same (c ∷ l) m = (said c.form _ c.sample _ _ m.0).1 ∙ ap (λ t. (offer_of t c.sample).state) (state_same l m.1)

answer_same : (c : Call) (l : List Call) → Meets (c ∷ l) → c.answer ≡ answer_to c.sample (samples l)
unfolding Meets answer_to
answer_same c l m = (said c.form _ c.sample _ _ m.0).0 ∙ ap (λ t. (offer_of t c.sample).answer) (state_same l m.1)

alert_same : (l : List Call) → Meets l → alert_shown l ≡ last_alert (samples l)
unfolding Meets accepted_of alert_shown last_alert
alert_same [] m = refl
alert_same (c ∷ l) m =
    ap (λ a. cond (eqb (refusal_after c.sample (accepted_of l)) 0) a.alert (alert_shown l)) (answer_same c l m)
    ∙ ap (λ n. cond (eqb (refusal_after c.sample (accepted_of l)) 0) (answer_to c.sample (samples l)).alert n) (alert_same l m.1)

pub demand_3 : Demand3
unfolding Meets accepted_of StatesPass AnswersByRules Demand3Lone
demand_3 =
    record {
      goes_on = λ before m f s. (_, _, (kept f (state_left before) s, m));
      passing = λ l m. rw (state_same l m) (states_pass (samples l));
      rules = λ c before m. answer_same c before m ∙ answers_by_rules c.sample (samples before);
      lone = λ c before m e. rw (alert_same before m.1, answer_same c before m) (demand_3_lone (samples before) c.sample e);
      run = demand_3_run;
    }
