-- `unit::pushed` meets its contract: what `enter` and `back` ensure.
use mir.Facts.{to_z-of_z}
use Rattle.unit_core.specs.Core.{core_at}
use Rattle.unit.specs.Steps.{push_of}
use Rattle.unit.proofs.ValidLaws.{ring_holds}
use Rattle.unit.proofs.pushed.Goals as goal

pub enter-core-requires : goal.enter-core-requires
enter-core-requires c = let a = ring_holds _ c.requires in (a.sums_le, a.on_ring)

pub back-requires : goal.back-requires
back-requires c = (ring_holds _ c.requires).on_ring

pub returns : goal.returns
unfolding push_of core_at
returns c = rw (c.enter-core.ensures.0, c.enter-core.ensures.1, c.back.ensures.0, to_z-of_z c.ranges.entry)
