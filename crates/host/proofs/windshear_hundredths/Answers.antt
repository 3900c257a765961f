-- `host::windshear_hundredths` meets its contract where the float is not finite: each field of the default is 0.
use mathlib.Core.Path.{ap, ◌∙◌}
use Rattle.host.specs.Exported.{converted_numbers}
use Rattle.host.proofs.windshear_hundredths.Goals as goal

pub returns-in-None : goal.returns-in-None
unfolding converted_numbers
returns-in-None c =
    let zero = c.default.ensures in
    (λ i. record { finite = zero.0 i; exact = zero.1.0 i; cut = zero.1.1.0 i; hundredths = zero.1.1.1 i }) ∙ ap converted_numbers c.in-None.ensures
