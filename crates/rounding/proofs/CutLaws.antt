-- Laws of the cut: what it gives, that a test against a number within the bound comes out the same, and that it may come before rounding or after.
use mathlib.Core.Path.{◌≡◌, refl, sym, ap, ◌∙◌}
use mathlib.Core.Bool.{Bool, true, false, cond}
use Prim.Native.Nat.{ℕ, suc, ◌+◌, ◌*◌, ◌≤◌, ◌<◌}
use native.Mathlib.Nat.{le_refl, mul-le-mul_right, mul-lt-mul_of_pos_right}
use native.Mathlib.Omega.{arith}
use lib.IntN.{ℤ, pos, negsuc, neg_ℤ, nat_abs, ◌*ℤ◌}
use lib.Signed.{le_z, lt_z, ◌≤ℤ◌}
use Rattle.rounding.specs.Claims.{RoundsTurned, RoundsInOrder, RoundsThenCuts}
use Rattle.rounding.specs.Cut.{cut, cut_f}
use Rattle.rounding.specs.Fraction.{Fraction, ◌over◌, neg_f, times_f, lt_f, round_f, Positive}
use Rattle.rounding.proofs.Difference.{up, down, any, nat, neg_d, *D, eq_d, le_d, lt_d, of_le, of_lt, size_d, of_size}
use Rattle.rounding.proofs.Fits.{size_neg}
use Rattle.rounding.proofs.Order.{lt_lt_z, le_lt_z, le_le_z, lt_le_z, lt_z_true, lt_z_le, lt_z_false}
use Rattle.rounding.proofs.Rounding.{round_whole, rounds_turned, rounds_in_order}

-- ════ Where a number lies ════

-- at the lower bound or below it, at the upper one or above it, or between them
data Side (k : ℕ) (x : ℤ) : Type 0 where
  low : x ≤ℤ neg_ℤ (pos k) → Side k x
  high : pos k ≤ℤ x → Side k x
  between : neg_ℤ (pos k) ≤ℤ x → x ≤ℤ pos k → Side k x

side : (k : ℕ) (x : ℤ) → Side k x
side k x = go (lt_z x (neg_ℤ (pos k))) (lt_z (pos k) x) refl refl
  where
    go : (s t : Bool) → lt_z x (neg_ℤ (pos k)) ≡ s → lt_z (pos k) x ≡ t → Side k x
    go true t e f = low (lt_z_le x (neg_ℤ (pos k)) e)
    go false true e f = high (lt_z_le (pos k) x f)
    go false false e f = between (lt_z_false x (neg_ℤ (pos k)) e) (lt_z_false (pos k) x f)

-- ════ What the cut gives ════

pub cut_between : (k : ℕ) (x : ℤ) → neg_ℤ (pos k) ≤ℤ x → x ≤ℤ pos k → cut k x ≡ x
unfolding cut
cut_between k x h l = rw (le_lt_z h, le_lt_z l)

pub cut_low : (k : ℕ) (x : ℤ) → x ≤ℤ neg_ℤ (pos k) → cut k x ≡ neg_ℤ (pos k)
unfolding cut
cut_low k x h = go (lt_z x (neg_ℤ (pos k))) refl
  where
    go : (t : Bool) → lt_z x (neg_ℤ (pos k)) ≡ t → cut k x ≡ neg_ℤ (pos k)
    go true e = rw e
    go false e =
        let a = of_le h (any x) (neg_d (nat k)) in
        let b = of_le (lt_z_false x (neg_ℤ (pos k)) e) (neg_d (nat k)) (any x) in
        cut_between k x (lt_z_false x (neg_ℤ (pos k)) e) (le_d (any x) (nat k) (omega (arith, a))) ∙ eq_d (any x) (neg_d (nat k)) (omega (arith, a, b))

pub cut_high : (k : ℕ) (x : ℤ) → pos k ≤ℤ x → cut k x ≡ pos k
unfolding cut
cut_high k x h = go (lt_z (pos k) x) refl
  where
    above : neg_ℤ (pos k) ≤ℤ x
    above = le_d (neg_d (nat k)) (any x) (omega (arith, of_le h (nat k) (any x)))

    go : (t : Bool) → lt_z (pos k) x ≡ t → cut k x ≡ pos k
    go true e = rw (le_lt_z above, e)
    go false e =
        let a = of_le h (nat k) (any x) in
        let b = of_le (lt_z_false (pos k) x e) (any x) (nat k) in
        cut_between k x above (lt_z_false (pos k) x e) ∙ eq_d (any x) (nat k) (omega (arith, a, b))

-- a number no larger than the bound stays
pub cut_small : (k : ℕ) (x : ℤ) → nat_abs x ≤ k → cut k x ≡ x
cut_small k x h =
    let s = of_size 1 {k = k} (omega (arith, h)) (any x) in
    cut_between k x (le_d (neg_d (nat k)) (any x) (omega (arith, s.1))) (le_d (any x) (nat k) (omega (arith, s.0)))

-- and what is cut is no larger
pub cut_le : (k : ℕ) (x : ℤ) → nat_abs (cut k x) ≤ k
cut_le k x = go (side k x)
  where
    go : Side k x → nat_abs (cut k x) ≤ k
    go (low h) = rw (cut_low k x h, size_neg (pos k)) (le_refl k)
    go (high h) = rw (cut_high k x h) (le_refl k)
    go (between h l) =
        let a = of_le h (neg_d (nat k)) (any x) in
        let b = of_le l (any x) (nat k) in
        let s = size_d 1 {k = k} (any x) (omega (arith, b)) (omega (arith, a)) in
        rw (cut_between k x h l) (omega (arith, s))

-- a multiple of a number that is cut is cut to the same
pub cut_times : (k : ℕ) (x : ℤ) (m : ℕ) → k ≤ nat_abs x → 0 < m → cut k (x *ℤ pos m) ≡ cut k x
cut_times k (pos n) m h p =
    let l = mul-le-mul_right n p in
    cut_high k (pos n *ℤ pos m) (le_d (nat k) (nat (n * m)) (omega (arith, h, l))) ∙ sym (cut_high k (pos n) (le_d (nat k) (nat n) (omega (arith, h))))
cut_times k (negsuc n) m h p =
    let l = mul-le-mul_right (suc n) p in
    cut_low k (negsuc n *ℤ pos m) (le_d (*D (any (negsuc n)) (nat m)) (neg_d (nat k)) (omega (arith, h, l)))
    ∙ sym (cut_low k (negsuc n) (le_d (any (negsuc n)) (neg_d (nat k)) (omega (arith, h))))

-- a test against a number that is smaller than the bound answers the same of a number that is cut
pub within_cut : (k : ℕ) (lo hi x : ℤ) → nat_abs lo < k → nat_abs hi < k
    → (le_z lo (cut k x) ≡ le_z lo x) × (le_z (cut k x) hi ≡ le_z x hi)
within_cut k lo hi x h l = go (of_size 1 {k = nat_abs lo} (omega arith) (any lo)) (of_size 1 {k = nat_abs hi} (omega arith) (any hi)) (side k x)
  where
    go : (1 * up lo ≤ 1 * down lo + nat_abs lo) × (1 * down lo ≤ 1 * up lo + nat_abs lo) → (1 * up hi ≤ 1 * down hi + nat_abs hi) × (1 * down hi ≤ 1 * up hi + nat_abs hi)
        → Side k x → (le_z lo (cut k x) ≡ le_z lo x) × (le_z (cut k x) hi ≡ le_z x hi)
    go a b (low s) =
        let t = of_le s (any x) (neg_d (nat k)) in
        rw (cut_low k x s) (
          lt_le_z (lt_d (neg_d (nat k)) (any lo) (omega (arith, h, a.1))) ∙ sym (lt_le_z (lt_d (any x) (any lo) (omega (arith, h, a.1, t)))),
          le_le_z (le_d (neg_d (nat k)) (any hi) (omega (arith, l, b.1))) ∙ sym (le_le_z (le_d (any x) (any hi) (omega (arith, l, b.1, t)))),
        )
    go a b (high s) =
        let t = of_le s (nat k) (any x) in
        rw (cut_high k x s) (
          le_le_z (le_d (any lo) (nat k) (omega (arith, h, a.0))) ∙ sym (le_le_z (le_d (any lo) (any x) (omega (arith, h, a.0, t)))),
          lt_le_z (lt_d (any hi) (nat k) (omega (arith, l, b.0))) ∙ sym (lt_le_z (lt_d (any hi) (any x) (omega (arith, l, b.0, t)))),
        )
    go a b (between s t) = rw (cut_between k x s t) (refl, refl)

-- ════ Fractions ════

-- what is cut keeps a positive divisor
pub cut_positive : (b f : Fraction) → Positive b → Positive f → Positive (cut_f b f)
unfolding cut_f
cut_positive b f p q = go (lt_f f (neg_f b)) (lt_f b f)
  where
    go : (s t : Bool) → Positive (cond s (neg_f b) (cond t b f))
    go true t = p
    go false true = p
    go false false = q

-- a fraction cut and then multiplied is the same multiple cut at that multiple of the bound
pub times_cut : (m : ℕ) (b f : Fraction) → 0 < m → times_f m (cut_f b f) ≡ cut_f (times_f m b) (times_f m f)
unfolding cut_f
times_cut m b f p = go (lt_f f (neg_f b)) (lt_f b f) (ap (lt_f (times_f m f)) turned ∙ same f (neg_f b)) (same b f)
  where
    turned : neg_f (times_f m b) ≡ times_f m (neg_f b)
    turned = ap (λ (x : ℤ). x over b.den) (eq_d (neg_d (*D (any b.num) (nat m))) (*D (neg_d (any b.num)) (nat m)) (omega arith))

    same : (a c : Fraction) → lt_f (times_f m a) (times_f m c) ≡ lt_f a c
    same a c = test (lt_f a c) refl
      where
        test : (t : Bool) → lt_f a c ≡ t → lt_f (times_f m a) (times_f m c) ≡ t
        test true e =
            let h = of_lt (lt_z_true _ _ e) (*D (any a.num) (nat c.den)) (*D (any c.num) (nat a.den)) in
            lt_lt_z
            (lt_d (*D (*D (any a.num) (nat m)) (nat c.den)) (*D (*D (any c.num) (nat m)) (nat a.den)) (omega (arith, mul-lt-mul_of_pos_right h p)))
        test false e =
            let h = of_le (lt_z_false _ _ e) (*D (any c.num) (nat a.den)) (*D (any a.num) (nat c.den)) in
            le_lt_z
            (le_d (*D (*D (any c.num) (nat m)) (nat a.den)) (*D (*D (any a.num) (nat m)) (nat c.den)) (omega (arith, mul-le-mul_right m h)))

    go : (s t : Bool) {r u : Bool} → r ≡ s → u ≡ t
        → times_f m (cond s (neg_f b) (cond t b f)) ≡ cond r (neg_f (times_f m b)) (cond u (times_f m b) (times_f m f))
    go true t d e = rw d (sym turned)
    go false true d e = rw (d, e)
    go false false d e = rw (d, e)

pub rounds_then_cuts : RoundsThenCuts
unfolding RoundsThenCuts RoundsTurned RoundsInOrder cut_f
rounds_then_cuts k d f p q = go (lt_f f (neg_f b)) (lt_f b f) refl refl
  where
    b : Fraction
    b = pos (k * d) over d

    whole : round_f b ≡ pos k
    whole = round_whole (pos k) d p

    turned : round_f (neg_f b) ≡ neg_ℤ (pos k)
    turned = rounds_turned b p ∙ ap neg_ℤ whole

    go : (s t : Bool) → lt_f f (neg_f b) ≡ s → lt_f b f ≡ t → cut k (round_f f) ≡ round_f (cond s (neg_f b) (cond t b f))
    go true t e g = cut_low k (round_f f) (rw turned at (rounds_in_order f (neg_f b) q p (lt_z_le _ _ e))) ∙ sym turned
    go false true e g = cut_high k (round_f f) (rw whole at (rounds_in_order b f p q (lt_z_le _ _ g))) ∙ sym whole
    go false false e g =
        cut_between k (round_f f) (rw turned at (rounds_in_order (neg_f b) f p q (lt_z_false _ _ e))) (rw whole at (rounds_in_order f b q p (lt_z_false _ _ g)))
