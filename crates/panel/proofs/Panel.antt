-- The wall panel's figures hold: each is computed, but that the gust's shear is the same at any airspeed.
use mathlib.Core.List.{[], ◌∷◌}
use mathlib.Core.Path.{◌≡◌, refl, ap}
use Prim.Native.Nat.{ℕ, ◌*◌}
use native.Mathlib.Omega.{arith}
use lib.IntN.{ℤ, pos, nat_abs, ◌-ℤ◌, ◌*ℤ◌}
use Rattle.rounding.proofs.Difference.{nat, -D, *D, eq_d}
use Rattle.rounding.specs.Rounding.{nearest, round_away}
use Rattle.rules.specs.Rules.{exact_shear}
use Rattle.panel.specs.Panel.{panel, PanelHolds}

-- the airspeed is a common factor of the gust's fraction
at_any : (n : ℕ) → (pos 37040000 *ℤ pos n -ℤ pos 0 *ℤ pos 1765197) *ℤ pos 100000 *ℤ pos 1765197 ≡ pos 3704000000000 *ℤ pos (1765197 * n)
at_any n =
    eq_d (*D (*D (-D (*D (nat 37040000) (nat n)) (*D (nat 0) (nat 1765197))) (nat 100000)) (nat 1765197)) (*D (nat 3704000000000) (nat (1765197 * n))) (omega arith)

pub panel_holds : PanelHolds
unfolding nearest round_away exact_shear panel
panel_holds =
    record { draft_figures = refl; gust_figure = refl; shears = refl; gust_any = λ a. ap (λ (x : ℤ). x ∷ []) (at_any (nat_abs a)); decimals_are = refl; below_are = refl; raised_are = refl; dropped = refl; halves = refl; sums = refl; divided = refl; signs = refl; rule = refl }
