-- Laws of the rounding rule. `nearest-*` are of sizes, `round-*` of signed numbers.
use mathlib.Core.Path.{◌≡◌, refl, sym, ap, ◌∙◌}
use mathlib.Core.Bool.{true, false}
use Prim.Native.Nat.{ℕ, zero, suc, ◌+◌, ◌*◌, ◌-◌, ◌/◌, ◌≤◌, ◌<◌}
use native.Mathlib.Nat.{div-eq_of_lt-le, div-mul-le_self, lt-div-mul-add, div-lt_iff_lt-mul, le-div_iff_mul-le, div-zero, mul-pos, mul-le-mul_right, le_of_mul-le-mul_right, le-mul_of_pos_right, mul-div-mul_right}
use native.Mathlib.Decide.{dec_lt}
use native.Mathlib.Omega.{arith}
use lib.IntN.{ℤ, pos, negsuc, neg_ℤ, nat_abs, neg_ℤ-neg_ℤ, ◌-ℤ◌, ◌*ℤ◌}
use lib.Signed.{lt_z, ◌≤ℤ◌}
use Rattle.rounding.specs.Claims.{RoundsTurned, RoundsInOrder}
use Rattle.rounding.specs.Rounding.{nearest, round_away, NearestAway}
use Rattle.rounding.proofs.Difference.{up, down, any, nat, neg_d, -D, *D, size_d, le_d, of_le}
use Rattle.rounding.proofs.Fits.{size_neg, negative, natural}

-- half the divisor added as a whole number, h, and then divided: nothing is doubled
pub nearest_half : (n d h : ℕ) → 0 < d → 2 * h ≤ d → d < 2 * h + 2 → (n + h) / d ≡ nearest n d
unfolding nearest
nearest_half n d h p a b =
    let low = div-mul-le_self (n + h) d in
    let high = lt-div-mul-add {a = n + h} {b = d} p in
    sym (div-eq_of_lt-le (2 * d) (omega (arith, low)) (omega (arith, high)))

-- less than the divisor added, and then divided: no larger than it was
pub added_le : (n d h : ℕ) → h < d → (n + h) / d ≤ n
added_le n d h l =
    let p : 0 < d = omega arith in
    let q : (n + h) / d < n + 1 = (div-lt_iff_lt-mul p).1 (omega (arith, le-mul_of_pos_right n p)) in
    omega arith

-- the whole number below, plus one half of the divisor
near_low : (n d : ℕ) → nearest n d * (2 * d) ≤ 2 * n + d
unfolding nearest
near_low n d = div-mul-le_self (2 * n + d) (2 * d)

near_high : (n d : ℕ) → 0 < d → 2 * n + d < nearest n d * (2 * d) + 2 * d
unfolding nearest
near_high n d p = lt-div-mul-add (omega arith)

-- at most k, where the fraction is
pub nearest_le : (n d k : ℕ) → 0 < d → n ≤ k * d → nearest n d ≤ k
unfolding nearest
nearest_le n d k p h = let q : 0 < 2 * d = omega arith in let l : (2 * n + d) / (2 * d) < k + 1 = (div-lt_iff_lt-mul q).1 (omega arith) in omega arith

pub nearest_over_zero : (n : ℕ) → nearest n 0 ≡ 0
unfolding nearest
nearest_over_zero n = div-zero (2 * n + 0)

pub nearest_zero : (d : ℕ) → nearest 0 d ≡ 0
nearest_zero zero = nearest_over_zero 0
nearest_zero (suc d) = le_zero (nearest_le 0 (suc d) 0 (omega arith) (omega arith))
  where
    le_zero : {n : ℕ} → n ≤ 0 → n ≡ 0
    le_zero h = omega arith

-- a common factor goes
pub nearest_scale : (n d k : ℕ) → 0 < k → nearest (n * k) (d * k) ≡ nearest n d
unfolding nearest
nearest_scale n d k p = go (2 * (n * k) + d * k) (2 * (d * k)) (omega arith) (omega arith)
  where
    go : (a b : ℕ) → a ≡ (2 * n + d) * k → b ≡ 2 * d * k → a / b ≡ (2 * n + d) / (2 * d)
    go a b e f = rw (e, f) (mul-div-mul_right (2 * n + d) (2 * d) p)

-- a whole number stays
nearest_whole : (k d : ℕ) → 0 < d → nearest (k * d) d ≡ k
unfolding nearest
nearest_whole k d p = div-eq_of_lt-le (2 * d) (omega arith) (omega arith)

-- a larger fraction, multiplied out, is no smaller when it is rounded
nearest_order : (n d m e : ℕ) → 0 < d → 0 < e → n * e ≤ m * d → nearest n d ≤ nearest m e
unfolding nearest
nearest_order n d m e p q h =
    let low = mul-le-mul_right e (near_low n d) in
    (le-div_iff_mul-le {k = 2 * e} {x = nearest n d} {y = 2 * m + e} (omega arith)).1
    (le_of_mul-le-mul_right {m = nearest n d * (2 * e)} {n = 2 * m + e} {k = d} (omega (arith, low, h)) p)

-- the rule keeps the sign
pub round_size : (x : ℤ) (d : ℕ) → nat_abs (round_away x d) ≡ nearest (nat_abs x) d
unfolding round_away
round_size (pos n) d = refl
round_size (negsuc n) d = size_neg (pos (nearest (suc n) d))

pub round_negative : (x : ℤ) (d : ℕ) → lt_z x (pos 0) ≡ true → round_away x d ≡ neg_ℤ (pos (nearest (nat_abs x) d))
unfolding round_away
round_negative x d t = rw (negative x t)

pub round_natural : (x : ℤ) (d : ℕ) → lt_z x (pos 0) ≡ false → round_away x d ≡ pos (nearest (nat_abs x) d)
unfolding round_away
round_natural x d t = rw (natural x t)

pub round_over_zero : (x : ℤ) → round_away x 0 ≡ pos 0
unfolding round_away
round_over_zero (pos n) = ap pos (nearest_over_zero n)
round_over_zero (negsuc n) = ap (λ (m : ℕ). neg_ℤ (pos m)) (nearest_over_zero (suc n))

pub round_le : (x : ℤ) (d k : ℕ) → 0 < d → nat_abs x ≤ k * d → nat_abs (round_away x d) ≤ k
round_le x d k p h = rw round_size (nearest_le (nat_abs x) d k p h)

-- the sign turned, over any divisor
pub round_neg : (x : ℤ) (d : ℕ) → round_away (neg_ℤ x) d ≡ neg_ℤ (round_away x d)
unfolding round_away
round_neg (pos zero) d = rw (nearest_zero d)
round_neg (pos (suc n)) d = refl
round_neg (negsuc n) d = sym (neg_ℤ-neg_ℤ (pos (nearest (suc n) d)))

pub round_scale : (x : ℤ) (d k : ℕ) → 0 < k → round_away (x *ℤ pos k) (d * k) ≡ round_away x d
unfolding round_away
round_scale (pos n) d k p = ap pos (nearest_scale n d k p)
round_scale (negsuc n) d k p =
    round_neg (pos (suc n * k)) (d * k) ∙ ap (λ (m : ℕ). neg_ℤ (pos m)) (nearest_scale (suc n) d k p)

pub round_whole : (x : ℤ) (d : ℕ) → 0 < d → round_away (x *ℤ pos d) d ≡ x
unfolding round_away
round_whole (pos n) d p = ap pos (nearest_whole n d p)
round_whole (negsuc n) d p = round_neg (pos (suc n * d)) d ∙ ap (λ (m : ℕ). neg_ℤ (pos m)) (nearest_whole (suc n) d p)

pub rounds_turned : RoundsTurned
unfolding RoundsTurned
rounds_turned f p = round_neg f.num f.den

pub rounds_in_order : RoundsInOrder
unfolding RoundsInOrder round_away
rounds_in_order a b p q h = go a.num b.num (omega (arith, of_le h (*D (any a.num) (nat b.den)) (*D (any b.num) (nat a.den))))
  where
    go : (x y : ℤ) → up x * b.den + down y * a.den ≤ up y * a.den + down x * b.den → round_away x a.den ≤ℤ round_away y b.den
    go (pos n) (pos m) k = le_d (nat (nearest n a.den)) (nat (nearest m b.den)) (omega (arith, nearest_order n a.den m b.den p q (omega arith)))
    go (pos n) (negsuc m) k = absurd (let z : ⊥ = omega (arith, mul-pos {m = suc m} (omega arith) p) in z)
    go (negsuc n) (pos m) k = le_d (neg_d (nat (nearest (suc n) a.den))) (nat (nearest m b.den)) (omega arith)
    go (negsuc n) (negsuc m) k =
        le_d (neg_d (nat (nearest (suc n) a.den))) (neg_d (nat (nearest (suc m) b.den)))
        (omega (arith, nearest_order (suc m) b.den (suc n) a.den q p (omega arith)))

-- twice the distance from the exact fraction is at most one
pub round_error : (x : ℤ) (d : ℕ) → 0 < d → 2 * nat_abs (round_away x d *ℤ pos d -ℤ x) ≤ d
unfolding round_away
round_error (pos n) d p =
    size_d 2 (-D (*D (nat (nearest n d)) (nat d)) (nat n)) (omega (arith, near_low n d)) (omega (arith, near_high n d p))
round_error (negsuc n) d p =
    size_d 2 (-D (*D (neg_d (nat (nearest (suc n) d))) (nat d)) (any (negsuc n))) (omega (arith, near_high (suc n) d p)) (omega (arith, near_low (suc n) d))

-- at just one half, the rounded number is farther from zero than the fraction
away : (x : ℤ) (d : ℕ) → 0 < d → 2 * nat_abs (round_away x d *ℤ pos d -ℤ x) ≡ d → nat_abs x < nat_abs (round_away x d) * d
unfolding round_away
away x d p e = rw round_size (go x (dec_lt (nat_abs x) (nearest (nat_abs x) d * d)) e)
  where
    closer : (m d : ℕ) → 0 < d → 2 * m ≤ d - 1 → 2 * m ≡ d → ⊥
    closer m d p l e = omega arith

    go : (x : ℤ) → Dec (nat_abs x < nearest (nat_abs x) d * d) → 2 * nat_abs (round_away x d *ℤ pos d -ℤ x) ≡ d → nat_abs x < nearest (nat_abs x) d * d
    go x (yes h) e = h
    go (pos n) (no f) e =
        let l : nearest n d * d ≤ n = omega arith in
        absurd (closer _ d p (size_d 2 {k = d - 1} (-D (*D (nat (nearest n d)) (nat d)) (nat n)) (omega arith) (omega (arith, near_high n d p))) e)
    go (negsuc n) (no f) e =
        let l : nearest (suc n) d * d ≤ suc n = omega arith in
        absurd (closer _ d p (size_d 2 {k = d - 1} (-D (*D (neg_d (nat (nearest (suc n) d))) (nat d)) (any (negsuc n))) (omega (arith, near_high (suc n) d p)) (omega arith)) e)

pub round_is_nearest : (x : ℤ) (d : ℕ) → 0 < d → NearestAway x d (round_away x d)
round_is_nearest x d p = record { near = round_error x d p; away = away x d p }
