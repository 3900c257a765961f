-- Laws of the windows: a sum an element at a time, six sums as they are read back, and a limit that is reached upward or downward.
use mathlib.Core.Path.{◌≡◌, refl, sym, ap, ◌∙◌}
use mathlib.Core.Bool.{Bool, true, false}
use mathlib.Core.List.{List, [], ◌∷◌, ◌++◌}
use Prim.Native.Nat.{ℕ, zero, suc, ◌+◌, ◌*◌, ◌≤◌, ◌<◌, ◌^◌}
use native.Mathlib.Numerals.{add-one}
use native.Mathlib.Omega.{arith}
use lib.Dec.{T, lit<}
use lib.IntN.{ℤ, pos, neg_ℤ, nat_abs, ◌+ℤ◌, ◌-ℤ◌, +ℤ_idl, +ℤ_idr, +ℤ_assoc}
use lib.ListN.{length, take, get_or, replicate}
use lib.Seq.{take-suc, take-append-le}
use lib.Signed.{le_z, le_z_yes}
use mir.Syntax.{w32, w64}
use mir.Val.{SFits, to_z, of_z}
use Rattle.rounding.specs.Fraction.{sum_ℤ}
use Rattle.rounding.proofs.Difference.{any, nat, neg_d, -D, le_d, of_le}
use Rattle.rounding.proofs.Fits.{Holds, read, kept, size_add}
use Rattle.rules.specs.Rules.{last_of, window_sum}
use Rattle.windows.specs.declared.Sums.{Sums}

-- one element more of a sum
sum_snoc : (l : List ℤ) (x : ℤ) → sum_ℤ (l ++ (x ∷ [])) ≡ sum_ℤ l +ℤ x
sum_snoc [] x = +ℤ_idr x ∙ sym (+ℤ_idl x)
sum_snoc (y ∷ l) x = ap (λ (t : ℤ). y +ℤ t) (sum_snoc l x) ∙ sym (+ℤ_assoc y (sum_ℤ l) x)

pub sum_more : (l : List ℤ) (i : ℕ) → i < length l → sum_ℤ (take (i + 1) l) ≡ sum_ℤ (take i l) +ℤ get_or l i (pos 0)
sum_more l i h = rw (add-one, take-suc l i (pos 0) h) (sum_snoc (take i l) (get_or l i (pos 0)))

-- a sum of numbers of which each is at most k in size
pub sum_le : (k : ℕ) (l : List ℤ) (n : ℕ) → ((j : ℕ) → nat_abs (get_or l j (pos 0)) ≤ k) → nat_abs (sum_ℤ (take n l)) ≤ n * k
sum_le k l zero h = omega arith
sum_le k [] (suc n) h = omega arith
sum_le k (x ∷ l) (suc n) h = omega (arith, size_add x (sum_ℤ (take n l)), h 0, sum_le k l n (λ j. h (suc j)))

-- a window that the list fills
pub window_sum_take : (n : ℕ) (l : List ℤ) → n ≤ length l → window_sum n l ≡ sum_ℤ (take n l)
unfolding window_sum last_of
window_sum_take n l h = rw (take-append-le n l (replicate n (pos 0)) h)

-- an entry of 32 bits that is made one of 64
pub widened : {x r : ℤ} → SFits w32 x → r ≡ to_z w32 (of_z w32 x) → Holds (to_z w64 (of_z w64 r)) x (2 ^ 31)
widened f e = let h = read w32 f in kept w64 (record { is = e ∙ h.is; le = h.le }) (lit< tt)

-- six sums of 64 bits, each of which is read back as it is
pub record SumsFit (s : Sums) : Type 0 where
  pub s200 : SFits w64 s.s200
  pub s180 : SFits w64 s.s180
  pub s160 : SFits w64 s.s160
  pub s140 : SFits w64 s.s140
  pub s120 : SFits w64 s.s120
  pub s100 : SFits w64 s.s100

-- two tests of which each follows from the other
same_test : (a b : Bool) → (T a → T b) → (T b → T a) → a ≡ b
same_test true true f g = refl
same_test true false f g = absurd (f tt)
same_test false true f g = absurd (g tt)
same_test false false f g = refl

-- x is at most the opposite of y just where y is at most that of x
pub le_turn : (x y : ℤ) → le_z x (pos 0 -ℤ y) ≡ le_z y (neg_ℤ x)
le_turn x y =
    same_test (le_z x (pos 0 -ℤ y)) (le_z y (neg_ℤ x))
    (λ t. (le_d (any y) (neg_d (any x)) (omega (arith, of_le (le_z_yes t) (any x) (-D (nat 0) (any y))))).le)
    (λ t. (le_d (any x) (-D (nat 0) (any y)) (omega (arith, of_le (le_z_yes t) (any y) (neg_d (any x))))).le)
