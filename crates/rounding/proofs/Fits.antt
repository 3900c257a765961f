-- Signed machine arithmetic by size. `Holds g x m`: what is read back, g, is the exact number x, whose size is at most m.
-- The proof of an expression mirrors it: `times`, `plus`, `minus` at an operation, `kept` at a local, `sfits` at a need that a result fits.
use mathlib.Core.Path.{◌≡◌, refl, ◌∙◌, subst}
use mathlib.Core.Bool.{true, false}
use Prim.Native.Nat.{ℕ, zero, suc, ◌+◌, ◌*◌, ◌≤◌, ◌<◌, ◌^◌}
use native.Mathlib.Nat.{le_refl, le_trans, lt_of_le_of_lt, mul-le-mul, add-le-add}
use native.Mathlib.Omega.{arith}
use borrow.Author.Tests.{ltb-true}
use lib.Dec.{T, leb→le}
use lib.IntN.{ℤ, pos, negsuc, neg_ℤ, nat_abs, ◌+ℤ◌, ◌-ℤ◌, ◌*ℤ◌}
use lib.Signed.{mag, non_neg, lt_z, ◌≤ℤ◌}
use mir.Syntax.{Width}
use mir.Val.{SFits, Fits, to_z, of_z, hbits, bits}
use mir.Facts.{to_z-of_z, to_z_pos}
use Rattle.rounding.proofs.Difference.{any, +D, size_d, of_size}

pub size_neg : (x : ℤ) → nat_abs (neg_ℤ x) ≡ nat_abs x
size_neg (pos zero) = refl
size_neg (pos (suc n)) = refl
size_neg (negsuc n) = refl

pub size_mul : (x y : ℤ) → nat_abs (x *ℤ y) ≡ nat_abs x * nat_abs y
size_mul (pos a) (pos b) = refl
size_mul (pos a) (negsuc b) = size_neg (pos (a * suc b))
size_mul (negsuc a) (pos b) = size_neg (pos (suc a * b))
size_mul (negsuc a) (negsuc b) = refl

pub size_add : (x y : ℤ) → nat_abs (x +ℤ y) ≤ nat_abs x + nat_abs y
size_add x y =
    let a = of_size 1 {k = nat_abs x} (omega arith) (any x) in
    let b = of_size 1 {k = nat_abs y} (omega arith) (any y) in
    let s = size_d 1 {k = nat_abs x + nat_abs y} (+D (any x) (any y)) (omega arith) (omega arith) in
    omega arith

mag_le : (x : ℤ) → mag x ≤ nat_abs x
mag_le (pos n) = le_refl n
mag_le (negsuc n) = omega arith

pub record Holds (g x : ℤ) (m : ℕ) : Type 0 where
  pub is : g ≡ x
  pub le : nat_abs x ≤ m

pub lit : (n : ℕ) → Holds (pos n) (pos n) n
lit n = record { is = refl; le = le_refl n }

pub exact : (x : ℤ) {m : ℕ} → nat_abs x ≤ m → Holds x x m
exact x h = record { is = refl; le = h }

pub sfits : (w : Width) {g x : ℤ} {m : ℕ} → Holds g x m → m < 2 ^ hbits w → SFits w g
sfits w {g} {x} {m} h k =
    record { sfits = rw h.is (lt_of_le_of_lt (mag_le x) (lt_of_le_of_lt h.le k)) }

-- stored to a local of width w and read back
pub kept : (w : Width) {g x : ℤ} {m : ℕ} → Holds g x m → m < 2 ^ hbits w → Holds (to_z w (of_z w g)) x m
kept w h k = record { is = to_z-of_z (sfits w h k) ∙ h.is; le = h.le }

-- a parameter or an element of width w, read back: of any size that the width has
pub read : (w : Width) {x : ℤ} → SFits w x → Holds (to_z w (of_z w x)) x (2 ^ hbits w)
read w {x} h = record { is = to_z-of_z h; le = size x h.sfits }
  where
    size : (x : ℤ) {k : ℕ} → mag x < k → nat_abs x ≤ k
    size (pos n) l = omega arith
    size (negsuc n) l = omega arith

pub times : {g x h y : ℤ} {m n : ℕ} → Holds g x m → Holds h y n → Holds (g *ℤ h) (x *ℤ y) (m * n)
times {g} {x} {h} {y} {m} {n} p q = record { is = cc; le = rw size_mul (mul-le-mul p.le q.le) }

pub plus : {g x h y : ℤ} {m n : ℕ} → Holds g x m → Holds h y n → Holds (g +ℤ h) (x +ℤ y) (m + n)
plus {g} {x} {h} {y} {m} {n} p q = record { is = cc; le = le_trans (size_add x y) (add-le-add p.le q.le) }

pub minus : {g x h y : ℤ} {m n : ℕ} → Holds g x m → Holds h y n → Holds (g -ℤ h) (x -ℤ y) (m + n)
minus {g} {x} {h} {y} {m} {n} p q =
    record { is = cc; le = le_trans (size_add x (neg_ℤ y)) (add-le-add p.le (rw size_neg q.le)) }

-- cast to an unsigned type, of a number that is not negative; and to a signed type, of a natural
pub cast_u : (w : Width) {g x : ℤ} {m : ℕ} → Holds g x m → T (non_neg x) → m < 2 ^ bits w → T (non_neg g) × Fits w (nat_abs g)
cast_u w h p k = rw h.is (p, record { fits = lt_of_le_of_lt h.le k })

pub cast_s : (w : Width) {n m : ℕ} → n ≤ m → m < 2 ^ hbits w → Holds (to_z w n) (pos n) m
cast_s w h k = record { is = to_z_pos w (lt_of_le_of_lt h k); le = h }

pub below : {g x : ℤ} {m : ℕ} (k : ℕ) → Holds g x m → m < k → nat_abs g < k
below k h l = rw h.is (lt_of_le_of_lt h.le l)

-- a number by the test of its sign
pub negative : (x : ℤ) → lt_z x (pos 0) ≡ true → x ≡ negsuc (mag x)
negative (pos n) e = absurd (none n (ltb-true n 0 e))
  where
    none : (n : ℕ) → n < 0 → ⊥
    none n h = omega arith
negative (negsuc n) e = refl

pub natural : (x : ℤ) → lt_z x (pos 0) ≡ false → x ≡ pos (nat_abs x)
natural (pos n) e = refl
natural (negsuc n) e = absurd (subst T e tt)

-- a number that is at least a natural
pub non_neg_of : {k : ℕ} (x : ℤ) → pos k ≤ℤ x → T (non_neg x)
non_neg_of (pos n) h = tt
non_neg_of (negsuc n) h = h.le

pub size_ge : {k : ℕ} (x : ℤ) → pos k ≤ℤ x → k ≤ nat_abs x
size_ge {k} (pos n) h = leb→le k n h.le
size_ge (negsuc n) h = absurd h.le

pub non_neg_mul : (n : ℕ) (x : ℤ) → T (non_neg x) → T (non_neg (pos n *ℤ x))
non_neg_mul n (pos k) h = tt
non_neg_mul n (negsuc k) h = absurd h
