-- `rounding::round` meets its contract: the rule on the size, and the sign put back.
use mathlib.Core.Path.{◌≡◌, sym, ap, ◌∙◌}
use mathlib.Core.Bool.{true, false}
use Prim.Native.Nat.{ℕ, ◌+◌, ◌*◌, ◌/◌, ◌≤◌, ◌<◌, ◌^◌}
use native.Mathlib.Nat.{le_trans, lt_of_le_of_lt}
use native.Mathlib.Omega.{arith}
use lib.IntN.{pos, neg_ℤ, nat_abs}
use lib.Signed.{lt_z, nat_abs-le, mag}
use mir.Syntax.{w64}
use mir.Facts.{to_z-of_z, to_z_pos}
use Rattle.rounding.specs.Rounding.{nearest}
use Rattle.rounding.proofs.Fits.{natural}
use Rattle.rounding.proofs.Rounding.{nearest_half, added_le, round_negative, round_natural}
use Rattle.rounding.proofs.round.Goals as goal
use Rattle.rounding.proofs.round.Goals.{After-unsigned_abs-size, Else-num-lt0}

-- the size that was taken
taken : (c : After-unsigned_abs-size) → c.unsigned_abs-size.result ≡ nat_abs c.before.before.args.num
taken c = c.unsigned_abs-size.ensures.value ∙ ap nat_abs (to_z-of_z c.before.before.ranges.num)

positive : (c : After-unsigned_abs-size) → 0 < c.before.before.args.den
positive c = omega (arith, c.before.if-den-eq0.false)

-- h added to the size, and then divided: at most the size where h is below the divisor, and the nearest where h is half of it. Each need below says
-- which h the code adds.
small : (c : After-unsigned_abs-size) (h : ℕ) → h < c.before.before.args.den → (c.unsigned_abs-size.result + h) / c.before.before.args.den ≤ nat_abs c.before.before.args.num
small c h l = omega (arith, added_le c.unsigned_abs-size.result c.before.before.args.den h l, taken c)

half_up : (c : After-unsigned_abs-size) (h : ℕ) → 2 * h ≤ c.before.before.args.den → c.before.before.args.den < 2 * h + 2
    → (c.unsigned_abs-size.result + h) / c.before.before.args.den ≡ nearest (nat_abs c.before.before.args.num) c.before.before.args.den
half_up c h a b = let d = c.before.before.args.den in nearest_half c.unsigned_abs-size.result d h (positive c) a b ∙ ap (λ (n : ℕ). nearest n d) (taken c)

pub minus-requires : goal.minus-requires
minus-requires c =
    let k = c.before.before.before in
    le_trans (small c.before _ (omega (arith, positive c.before))) (nat_abs-le k.args.num k.ranges.num.sfits)

pub returns-then-num-lt0 : goal.returns-then-num-lt0
returns-then-num-lt0 c =
    let k = c.before.before.before.before in
    let t : lt_z k.args.num (pos 0) ≡ true = rw (to_z-of_z k.ranges.num) at c.before.if-num-lt0.true in
    to_z-of_z {w = w64} (record { sfits = c.minus.type_inv }) ∙ c.minus.ensures
    ∙ ap (λ (m : ℕ). neg_ℤ (pos m)) (half_up c.before.before _ (omega arith) (omega arith)) ∙ sym (round_negative k.args.num k.args.den t)

-- a number that is not negative is below 2 ^ 63, and so is what the rule gives
test : (c : Else-num-lt0) → lt_z c.before.before.before.args.num (pos 0) ≡ false
test c = rw (to_z-of_z c.before.before.before.ranges.num) at c.if-num-lt0.false

below : (c : Else-num-lt0) → nat_abs c.before.before.before.args.num < 2 ^ 63
below c =
    let k = c.before.before.before in
    let m : mag k.args.num ≡ nat_abs k.args.num = rw (natural k.args.num (test c)) in
    omega (arith, k.ranges.num.sfits)

pub overflow_cast-result : goal.overflow_cast-result
overflow_cast-result c = record { sfits = lt_of_le_of_lt (small c.before _ (omega (arith, positive c.before))) (below c) }

pub returns-else-num-lt0 : goal.returns-else-num-lt0
returns-else-num-lt0 c =
    let k = c.before.before.before in
    to_z_pos w64 (overflow_cast-result c).sfits ∙ ap pos (half_up c.before _ (omega arith) (omega arith)) ∙ sym (round_natural k.args.num k.args.den (test c))
