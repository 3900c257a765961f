-- `panel::windshear_round` meets its contract: it promises what `rounding::round` does.
use mathlib.Core.Path.{ap, ◌∙◌}
use borrow.Author.Rules.{rules}
use lib.IntN.{ℤ}
use mir.Syntax.{w64}
use mir.Facts.{to_z-of_z}
use Rattle.rounding.specs.Rounding.{round_away}
use Rattle.panel.proofs.windshear_round.Goals as goal

pub returns : goal.returns
returns c =
    to_z-of_z {w = w64} (record { sfits = c.round.type_inv }) ∙ c.round.ensures
    ∙ ap (λ (x : ℤ). round_away x c.before.args.den) (to_z-of_z c.before.ranges.num)
