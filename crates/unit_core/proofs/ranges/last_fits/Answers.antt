-- `unit_core::ranges::last_fits` meets its contract: where the first two tests join.
use Rattle.std.proofs.Common.{rules}
use Rattle.unit_core.proofs.ranges.last_fits.Goals as goal
use Rattle.unit_core.proofs.ranges.last_fits.Goals.{then-contains, else-contains}
use Rattle.unit_core.specs.Core.{last_fits}
use Rattle.rules.specs.Rules.{inside, ranges}
use Rattle.rules.specs.Choice.{within}

pub returns-then-contains-2 : goal.returns-then-contains-2
unfolding last_fits inside ranges within
returns-then-contains-2 c = elim c.if-contains.branch [ then-contains w ↦ search rules | else-contains w ↦ search rules ]

pub returns-else-contains-2 : goal.returns-else-contains-2
unfolding last_fits inside ranges within
returns-else-contains-2 c = elim c.if-contains.branch [ then-contains w ↦ search rules | else-contains w ↦ search rules ]
