-- `unit::State::ring_fits` meets its contract: the ring is whole, the branch leaves a place on it, and sums are equal where each is the other's.
use mathlib.Core.Bool.{Bool, ◌&&◌}
use mathlib.Core.Path.{◌≡◌}
use native.Mathlib.Omega.{arith}
use lib.ListN.{length}
use borrow.Author.Rules.{rules}
use Rattle.std.proofs.Common.{int_eq}
use Rattle.rules.proofs.Choices.{int_eq_same}
use Rattle.windows.specs.Ring.{same_sums}
use Rattle.windows.specs.declared.Sums.{Sums}
use Rattle.unit.proofs.PassLaws.{on_ring}
use Rattle.unit.proofs.State.ring_fits.Goals as goal

equal : (a b : Sums) {r : Bool}
    → r ≡ (int_eq a.s200 b.s200 && (int_eq a.s180 b.s180 && (int_eq a.s160 b.s160 && (int_eq a.s140 b.s140 && (int_eq a.s120 b.s120 && int_eq a.s100 b.s100)))))
    → r ≡ same_sums a b
unfolding same_sums
equal a b e = grind (arith, int_eq_same)

pub returns : goal.returns
returns c =
    let long : length c.args.self.now.held ≡ 200 = search rules in
    on_ring c.args.self.now.held c.args.self.now.core long c.if-place-ge200.false c.sums.ensures (equal _ c.sums.result c.eq.ensures)
