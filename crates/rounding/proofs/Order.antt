-- The tests of order on signed numbers, to and from the orders that they decide.
use mathlib.Core.Path.{◌≡◌, refl, sym, subst}
use mathlib.Core.Bool.{Bool, true, false, not}
use native.Mathlib.Omega.{arith}
use lib.Dec.{T}
use lib.IntN.{ℤ}
use lib.Signed.{le_z, lt_z, ◌≤ℤ◌, ◌<ℤ◌, le_z_yes, lt_z_yes, lt_z_no, clash_ℤ}
use Rattle.rounding.proofs.Difference.{any, le_d, of_lt}

is_true : (b : Bool) → T b → b ≡ true
is_true true t = refl
is_true false t = absurd t

is_false : (b : Bool) → (T b → ⊥) → b ≡ false
is_false true f = absurd (f tt)
is_false false f = refl

pub lt_lt_z : {a b : ℤ} → a <ℤ b → lt_z a b ≡ true
lt_lt_z {a} {b} h = is_true (lt_z a b) h.lt

pub le_lt_z : {a b : ℤ} → b ≤ℤ a → lt_z a b ≡ false
le_lt_z {a} {b} h = is_false (lt_z a b) (λ t. clash_ℤ (lt_z_yes t) h)

pub le_le_z : {a b : ℤ} → a ≤ℤ b → le_z a b ≡ true
le_le_z {a} {b} h = is_true (le_z a b) h.le

pub lt_le_z : {a b : ℤ} → b <ℤ a → le_z a b ≡ false
lt_le_z {a} {b} h = is_false (le_z a b) (λ t. clash_ℤ h (le_z_yes t))

pub lt_z_true : (a b : ℤ) → lt_z a b ≡ true → a <ℤ b
lt_z_true a b e = lt_z_yes (subst T (sym e) tt)

pub lt_z_le : (a b : ℤ) → lt_z a b ≡ true → a ≤ℤ b
lt_z_le a b e = le_d (any a) (any b) (omega (arith, of_lt (lt_z_true a b e) (any a) (any b)))

pub lt_z_false : (a b : ℤ) → lt_z a b ≡ false → b ≤ℤ a
lt_z_false a b e = lt_z_no (subst (λ (t : Bool). T (not t)) (sym e) tt)
