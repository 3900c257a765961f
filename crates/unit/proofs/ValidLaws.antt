-- A state that passes is what the arithmetic leans on (`Valid`): each sum is its window's, of entries that 8 holds to 50,000,000.
use mathlib.Core.Bool.{true}
use mathlib.Core.List.{List}
use mathlib.Core.Path.{◌≡◌, refl, ◌∙◌}
use Prim.Native.Nat.{ℕ, ◌*◌, ◌≤◌, ◌<◌}
use native.Mathlib.Omega.{arith}
use lib.Dec.{lit≤}
use lib.IntN.{ℤ, pos, nat_abs}
use lib.ListN.{length}
use Rattle.rules.specs.Choice.{neg, within, every}
use Rattle.rules.specs.Rules.{ranges, window_sum}
use Rattle.windows.specs.Ring.{read_from, sums_of, SumsWithin}
use Rattle.unit_core.specs.Core.{guide_of}
use Rattle.unit.specs.Steps.{held_fits, passes, RingValid, Valid}
use Rattle.unit.specs.declared.State.{State}
use Rattle.unit.proofs.Holding.{fits_holds}
use Rattle.rules.proofs.RangeLaws.{every_at, every_turn, bounds, inside_bounds, size-le}
use Rattle.unit.proofs.PassLaws.{passing}
use Rattle.windows.proofs.RingLaws.{read_length}
use Rattle.windows.proofs.WindowLaws.{sum_le, window_sum_take}

-- what stands past the end
zero_in : within (neg 50000000) (pos 0) (pos 50000000) ≡ true
unfolding within
zero_in = refl

module _ (e : List ℤ) (long : length e ≡ 200) (fits : every (λ x. within (neg 50000000) x (pos 50000000)) e ≡ true) where
  window_within : (n : ℕ) → n ≤ 200 → nat_abs (window_sum n e) ≤ 10000000000
  window_within n h =
      rw (window_sum_take n e (omega arith))
      (least n h (sum_le 50000000 e n (λ k. size-le 50000000 (bounds (every_at _ e (pos 0) fits zero_in k)) tt tt)))
    where
      least : (n : ℕ) → n ≤ 200 → {a : ℕ} → a ≤ n * 50000000 → a ≤ 10000000000
      least n h k = omega arith

  pub sums_within : SumsWithin (sums_of e)
  unfolding sums_of
  sums_within =
      record {
        s200 = window_within 200 (lit≤ tt);
        s180 = window_within 180 (lit≤ tt);
        s160 = window_within 160 (lit≤ tt);
        s140 = window_within 140 (lit≤ tt);
        s120 = window_within 120 (lit≤ tt);
        s100 = window_within 100 (lit≤ tt);
      }

-- what a ring that passes is, as a store and the sums lean on it
pub record RingHolds (t : State) : Type 0 where
  pub long : length t.held ≡ 200
  pub on_ring : t.core.place < 200
  pub sums_le : SumsWithin t.core.sums

pub ring_holds : (t : State) → RingValid t → RingHolds t
unfolding read_from held_fits
ring_holds t v =
    let h = fits_holds.holds t v.ring_in in
    let place = t.core.place in
    let all = every_turn _ place t.held ∙ v.held_in in
    record { long = h.long; on_ring = h.on_ring; sums_le = rw h.sums (sums_within (read_from place t.held) (read_length t.held place h.long h.on_ring) all) }

pub valid : (t : State) → passes t ≡ true → Valid t
unfolding ranges guide_of held_fits
valid t e =
    let p = passing t e in
    record {
      ring = record { held_in = p.held_in; ring_in = p.ring_in };
      along_le = size-le 20000 (inside_bounds p.along_in) tt tt;
      guide = record { count_le = p.guidance_le; command_le = size-le 30000 (bounds p.command_in_lem) tt tt };
    }
