-- `unit_core::Core::lamps` meets its contract: where the two tests of the band join.
use Rattle.std.proofs.Common.{rules}
use Rattle.rules.specs.Choice.{within}
use Rattle.rules.specs.Rules.{inside, band}
use Rattle.unit_core.specs.Core.{lamps_of}
use Rattle.unit_core.proofs.Core.lamps.Goals as goal
use Rattle.unit_core.proofs.Core.lamps.Goals.{then-band, else-band, then-band-2, else-band-2}

pub returns : goal.returns
unfolding lamps_of inside band within
returns c =
    elim c.if-band.branch [
      | then-band u ↦ elim c.if-band-2.branch [ then-band-2 w ↦ search rules | else-band-2 w ↦ search rules ]
      | else-band u ↦ elim c.if-band-2.branch [ then-band-2 w ↦ search rules | else-band-2 w ↦ search rules ]
    ]
