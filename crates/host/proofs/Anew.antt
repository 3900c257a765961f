-- A9, whole: what the rules give is what the unit without a ring answers.
use mathlib.Core.List.{List, map}
use mathlib.Core.Path.{sym, ◌∙◌}
use borrow.Author.Tests.{eq-eqb}
use Rattle.host.specs.Anew.{AllSummedAnew}
use Rattle.host.specs.Demand3.{Call, accepted_of}
use Rattle.runfile.proofs.RunClaims.{runs_summed_anew}
use Rattle.claims.proofs.Claims.{AllAccepted, accepted_all, list_answers}
use Rattle.rules.specs.Rules.{refusal_after}
use Rattle.host.proofs.Demand3.{demand_3}

all_accepted : (l : List Call) → AllAccepted (accepted_of l)
unfolding accepted_of
all_accepted l = accepted_all (map (λ c. c.sample) l)

pub all_summed_anew : AllSummedAnew
all_summed_anew =
    record {
      lone = λ c before m e.
          (rw (eq-eqb (refusal_after c.sample (accepted_of before)) 0 e) at (demand_3.rules c before m))
          ∙ sym (list_answers c.sample (accepted_of before) (e, all_accepted before));
      run = runs_summed_anew;
    }
