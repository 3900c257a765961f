-- Laws of the choices and comparisons that the rules are written with.
use mathlib.Core.Path.{◌≡◌, refl}
use mathlib.Core.Bool.{Bool, true, false, not, ◌&&◌, and-eq-true_iff, cond}
use Prim.Native.Nat.{ℕ, zero, suc}
use native.Mathlib.Nat.{suc-ne-zero}
use native.Mathlib.Omega.{arith}
use borrow.Author.Tests.{ne_eqb, lt-ltb, le-ltb, leb-true, leb-false}
use lib.Dec.{ltb, leb}
use lib.IntN.{ℤ, pos, negsuc}
use lib.Signed.{lt_z, le_z, ◌≤ℤ◌, ≤ℤ_refl}
use Rattle.rounding.proofs.Difference.{any, le_d, of_le}
use Rattle.rounding.proofs.Order.{lt_z_le, lt_z_false}
use Rattle.rules.specs.Choice.{first_of, or_else, same, smaller, larger}
use Rattle.std.proofs.Common.{Less, Equal, Greater, is_eq, int_eq}

-- what holds of each of two, where the test picks it, holds of the one that is picked
pub cond_has {ℓ} : {A : Type ℓ} (P : A → Type 0) (t : Bool) {a b : A} → (t ≡ true → P a) → (t ≡ false → P b) → P (cond t a b)
cond_has P true f g = f refl
cond_has P false f g = g refl

-- both halves of a test
pub both_true : (a b : Bool) → (a && b) ≡ true → (a ≡ true) × (b ≡ true)
both_true a b = (and-eq-true_iff a b).0

-- no number of a test and what comes later: it held, and nothing later is refused
pub passed : (ok : Bool) (n later : ℕ) → first_of ok (suc n) later ≡ 0 → (ok ≡ true) × (later ≡ 0)
passed true n later e = (refl, e)
passed false n later e = absurd (suc-ne-zero n e)

-- no number found, and none that comes later
pub none_found : (earlier later : ℕ) → or_else earlier later ≡ 0 → (earlier ≡ 0) × (later ≡ 0)
unfolding or_else
none_found zero later e = (refl, e)
none_found (suc n) later e = absurd (suc-ne-zero n (rw (ne_eqb (suc n) 0 (suc-ne-zero n)) at e))

-- the one order by the other
ltb_not : (a b : ℕ) → ltb a b ≡ not (leb b a)
ltb_not a b = go (leb b a) refl
  where
    go : (t : Bool) → leb b a ≡ t → ltb a b ≡ not t
    go true e = le-ltb a b (leb-true b a e)
    go false e = lt-ltb a b (leb-false b a e)

pub lt_z_not : (a b : ℤ) → lt_z a b ≡ not (le_z b a)
lt_z_not (pos a) (pos b) = ltb_not a b
lt_z_not (pos a) (negsuc b) = refl
lt_z_not (negsuc a) (pos b) = refl
lt_z_not (negsuc a) (negsuc b) = ltb_not b a

-- what `==` answers of two signed numbers
pub int_eq_same : (a b : ℤ) → int_eq a b ≡ same a b
unfolding same
int_eq_same a b = rw (lt_z_not a b, lt_z_not b a) (go (le_z a b) (le_z b a))
  where
    go : (s t : Bool) → is_eq (cond (not t) Less (cond (not s) Greater Equal)) ≡ (s && t)
    go true true = refl
    go true false = refl
    go false true = refl
    go false false = refl

pub ≤ℤ-trans : {a b c : ℤ} → a ≤ℤ b → b ≤ℤ c → a ≤ℤ c
≤ℤ-trans {a} {b} {c} h k = le_d (any a) (any c) (omega (arith, of_le h (any a) (any b), of_le k (any b) (any c)))

pub smaller_le_left : (a b : ℤ) → smaller a b ≤ℤ a
unfolding smaller
smaller_le_left a b = cond_has (λ (x : ℤ). x ≤ℤ a) (lt_z a b) (λ e. ≤ℤ_refl a) (lt_z_false a b)

pub smaller_le_right : (a b : ℤ) → smaller a b ≤ℤ b
unfolding smaller
smaller_le_right a b = cond_has (λ (x : ℤ). x ≤ℤ b) (lt_z a b) (lt_z_le a b) (λ e. ≤ℤ_refl b)

pub smaller_ge : {m a b : ℤ} → m ≤ℤ a → m ≤ℤ b → m ≤ℤ smaller a b
unfolding smaller
smaller_ge {m} {a} {b} h k = cond_has (λ (x : ℤ). m ≤ℤ x) (lt_z a b) (λ e. h) (λ e. k)

pub larger_ge_left : (a b : ℤ) → a ≤ℤ larger a b
unfolding larger
larger_ge_left a b = cond_has (λ (x : ℤ). a ≤ℤ x) (lt_z a b) (lt_z_le a b) (λ e. ≤ℤ_refl a)
