-- The float nearest to a / 100, in units of 2 ^ -149, of which every binary32 has a whole number.
use mathlib.Core.Path.{◌≡◌}
use mathlib.Core.Bool.{Bool, not}
use Prim.Native.Nat.{ℕ, zero, suc, ◌+◌, ◌-◌, ◌*◌, ◌/◌, ◌%◌, ◌^◌, ◌≤◌, ◌<◌, compare, Ordering}
use native.Mathlib.Nat.{mul-pos, lt_of_lt_of_le, lt_of_le_of_lt, div-add-mod', mod-lt, mul-le-mul_left, mul-le-mul_right, div-lt_iff_lt-mul}
use native.Mathlib.Omega.{arith}
use lib.Dec.{T, lit<, lit≤, leb→le, nleb→lt, eqb→eq, is_le, compare_is_eq}
use lib.Pow.{pow_pos, pow_mono}
use lib.Ieee.{binary32, nearest, round, size}
use lib.Ieee.Digits.{size-le, size_reaches}
use lib.Ieee.Exact.{HasValue, units_val}
use lib.Ieee.Fits.{round_is}
use lib.Ieee.Nearest.{closest}
use Rattle.float.specs.Float.{nearest_limit}

-- ════ To the nearest multiple, ties to even ════

-- q × u is at most one half of u from n
pub record Near (q u n : ℕ) : Type 0 where
  pub under : 2 * n ≤ 2 * (q * u) + u
  pub over : 2 * (q * u) ≤ 2 * n + u

pub closest_near : (n u : ℕ) → 0 < u → Near (closest n u) u n
closest_near n u p =
    go (compare (r * 2) u) (leb→le (r * 2) u) (nleb→lt (r * 2) u) (eqb→eq (r * 2) u) (mod-lt n p) (div-add-mod' n u)
  where
    w : ℕ
    w = n / u

    r : ℕ
    r = n % u

    even : (p : ℕ) → p < 2 → r * 2 ≡ u → w * u + r ≡ n → Near (w + p) u n
    even zero l d h = record { under = omega arith; over = omega arith }
    even (suc zero) l d h = record { under = omega arith; over = omega arith }
    even (suc (suc p)) l d h = absurd (let z : ⊥ = omega arith in z)

    go : (o : Ordering) → (T (is_le o) → r * 2 ≤ u) → (T (not (is_le o)) → u < r * 2) → (T (compare_is_eq o) → r * 2 ≡ u) → r < u → w * u + r ≡ n → Near (nearest w o) u n
    go Ordering.lt f g e l h = let k = f tt in record { under = omega arith; over = omega arith }
    go Ordering.eq f g e l h = even (w % 2) (omega arith) (e tt) h
    go Ordering.gt f g e l h = let k = g tt in record { under = omega arith; over = omega arith }

-- ════ The float ════

-- it is q × 2 ^ k units, where q × 2 ^ k is nearest to a / 100 among the multiples of 2 ^ k; k is above 0 only where a / 100 has 24 digits and more
pub record Rounded (s : Bool) (a : ℕ) : Type 0 where
  pub q : ℕ
  pub k : ℕ
  pub place : k ≤ 135
  pub small : 100 * 2 ^ k < 2 ^ 149
  pub top : 0 < k → 2 ^ (23 + k) ≤ a * 2 ^ 149 / 100
  pub near : Near q (100 * 2 ^ k) (a * 2 ^ 149)
  pub value : HasValue (round binary32 s a 100) s (q * 2 ^ k) (2 ^ 149)

-- a / 100 is below 2 ^ 10, so its last place is at most 2 ^ 135 units
last_place : (a : ℕ) → a ≤ nearest_limit → size (a * 2 ^ 149 / 100) - 24 ≤ 135
last_place a h =
    let l : a * 2 ^ 149 < 2 ^ 159 * 100 = lt_of_le_of_lt (mul-le-mul_right (2 ^ 149) h) (lit< tt) in
    let z : size (a * 2 ^ 149 / 100) ≤ 159 = size-le (a * 2 ^ 149 / 100) 159 ((div-lt_iff_lt-mul (lit< tt)).1 l) in
    omega arith

-- and it is far below the largest binary32; a unit is 1 / P, and 2 ^ k is K
in_range_lem : (a q K P : ℕ) → a ≤ nearest_limit → 100 * K < P → Near q (100 * K) (a * P) → q * K < 601 * P
in_range_lem a q K P h k n =
    let l : a * P ≤ nearest_limit * P = mul-le-mul_right P h in
    omega (arith, n.over)

pub rounded : (s : Bool) (a : ℕ) → a ≤ nearest_limit → Rounded s a
rounded s a h =
    let k : ℕ = size (a * 2 ^ 149 / 100) - 24 in
    let q : ℕ = closest (a * 2 ^ 149) (100 * 2 ^ k) in
    let l : 100 * 2 ^ k < 2 ^ 149 = lt_of_le_of_lt (mul-le-mul_left 100 (pow_mono {i = k} {j = 135} (last_place a h))) (lit< tt) in
    let n : Near q (100 * 2 ^ k) (a * 2 ^ 149) = closest_near (a * 2 ^ 149) (100 * 2 ^ k) (mul-pos (lit< tt) (pow_pos k)) in
    let b : q * 2 ^ k < 2 ^ 277 = lt_of_lt_of_le (in_range_lem a q (2 ^ k) (2 ^ 149) h l n) (lit≤ tt) in
    record {
      q = q;
      k = k;
      place = last_place a h;
      small = l;
      top = λ p. size_reaches (a * 2 ^ 149 / 100) (23 + k) (digits (size (a * 2 ^ 149 / 100)) p);
      near = n;
      value = rw (round_is binary32 s a 100) (units_val binary32 s q k b);
    }
  where
    digits : (z : ℕ) → 0 < z - 24 → 23 + (z - 24) < z
    digits z h = omega arith
