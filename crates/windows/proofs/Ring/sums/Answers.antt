-- `windows::Ring::sums` meets its contract: each sum goes on from the one before, and the ring fills every window.
use mathlib.Core.Path.{◌≡◌, sym, ◌∙◌}
use Prim.Native.Nat.{ℕ, ◌*◌, ◌≤◌, ◌<◌, ◌^◌}
use native.Mathlib.Omega.{arith}
use lib.Dec.{lit≤}
use lib.IntN.{ℤ, nat_abs}
use lib.ListN.{take}
use lib.Signed.{mag}
use mir.Syntax.{w64}
use mir.Val.{to_z, of_z}
use mir.Facts.{to_z-of_z}
use Rattle.rounding.specs.Fraction.{sum_ℤ}
use Rattle.rules.specs.Rules.{window_sum}
use Rattle.windows.specs.Ring.{read_from, sums_of}
use Rattle.windows.specs.declared.Ring.{Ring}
use Rattle.windows.proofs.RingLaws.{read_length}
use Rattle.windows.proofs.WindowLaws.{window_sum_take}
use Rattle.windows.proofs.Ring.sums.Goals as goal

-- a window's sum, of what a call ensures
window : (k : Ring) (n : ℕ) {r : ℤ} → n ≤ 200 → mag r < 2 ^ 63
    → let entries = read_from k.place k.held.now in
    (r ≡ sum_ℤ (take n entries)) × (nat_abs r ≤ n * 2147483648) → to_z w64 (of_z w64 r) ≡ window_sum n entries
window k n h ok s =
    let l = read_length k.held.now k.place k.whole k.on_ring in
    to_z-of_z {w = w64} (record { sfits = ok }) ∙ s.0 ∙ sym (window_sum_take n (read_from k.place k.held.now) (omega (arith, l)))

pub returns : goal.returns
unfolding sums_of
returns c =
    let k = c.args.self in
    rw (
      window k 200 (lit≤ tt) c.sum_on.type_inv c.sum_on.ensures,
      window k 180 (lit≤ tt) c.sum_on-s180.type_inv c.sum_on-s180.ensures,
      window k 160 (lit≤ tt) c.sum_on-s160.type_inv c.sum_on-s160.ensures,
      window k 140 (lit≤ tt) c.sum_on-s140.type_inv c.sum_on-s140.ensures,
      window k 120 (lit≤ tt) c.sum_on-s120.type_inv c.sum_on-s120.ensures,
      window k 100 (lit≤ tt) c.sum_on-s100.type_inv c.sum_on-s100.ensures,
    )
