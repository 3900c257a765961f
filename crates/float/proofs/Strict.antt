-- The float nearest to a / 100 is strictly nearest, in units of 2 ^ -149, among the numbers of units that a binary32 can have: hundredths never lie halfway.
use mathlib.Core.Path.{◌≡◌, refl, sym, ap, ◌∙◌, subst}
use mathlib.Core.Bool.{Bool, ◌&&◌}
use mathlib.Core.Logic.{◌⊎◌, inl, inr}
use Prim.Native.Nat.{ℕ, zero, suc, ◌+◌, ◌-◌, ◌*◌, ◌%◌, ◌^◌, ◌≤◌, ◌<◌}
use native.Mathlib.Nat.{not-le_of_lt, mul_assoc, mul-one, lt_of_lt_of_le, mul-le-mul_right, eq_of_mul-eq-mul_right, le-div_iff_mul-le}
use native.Mathlib.Decide.{dec_le, dec_lt}
use native.Mathlib.Omega.{arith}
use lib.Dec.{T, eqb, ltb, leb, lit<, ltb→lt, leb→le}
use lib.IntN.{ℤ, pos, negsuc}
use lib.Pow.{pow_pos, pow_mono, pow-add, pow-lt, shl_lt}
use lib.Ieee.{Float, nan, inf, fin, binary32, up, down, fits}
use lib.Ieee.Exact.{HasValue}
use lib.Ieee.Fits.{and_l, and_r}
use lib.Ieee.Scale.{finite}
use Rattle.float.proofs.Units.{Near, Rounded}

-- ════ Numbers ════

-- how far two are apart
abbrev pub off : ℕ → ℕ → ℕ
off a b = (a - b) + (b - a)

-- q × u is less than one half of u from n
record Nearer (q u n : ℕ) : Type 0 where
  under : 2 * n < 2 * (q * u) + u
  over : 2 * (q * u) < 2 * n + u

-- so it is nearer to n than every other multiple
other : (q K n i : ℕ) → Nearer q (100 * K) n → (i ≡ q) ⊎ (off n (100 * (q * K)) < off n (100 * (i * K)))
other q K n i h = elim (dec_lt i q) [
  | yes l ↦ let m : suc i * K ≤ q * K = mul-le-mul_right K l in inr (omega (arith, h.under, h.over))
  | no l ↦ elim (dec_lt q i) [
    | yes k ↦ let m : suc q * K ≤ i * K = mul-le-mul_right K k in inr (omega (arith, h.under, h.over))
    | no k ↦ inl (omega arith)
  ]
]

-- and than every number w below a multiple b that is itself not above n
below : (q K n i b w : ℕ) → Nearer q (100 * K) n → b ≡ i * K → b * 100 ≤ n → w < b → off n (100 * (q * K)) < off n (100 * w)
below q K n i b w h e l k = elim (other q K n i h) [
  | inl x ↦ let y : i * K ≡ q * K = ap (λ (z : ℕ). z * K) x in omega arith
  | inr x ↦ omega arith
]

-- Halfway, 2 × n × 16,384 × R would be an odd number of hundreds. A unit is 1 / (K × 16,384 × R).
strict : (n q K R : ℕ) → 0 < K → Near q (100 * K) (n * (K * (16384 * R))) → Nearer q (100 * K) (n * (K * (16384 * R)))
strict n q K R p h =
    let a : (32768 * (n * R) + 100) * K ≡ 200 * q * K → ⊥ = λ e. above (n * R) q (eq_of_mul-eq-mul_right K p (32768 * (n * R) + 100) (200 * q) e) in
    let b : (200 * q + 100) * K ≡ 32768 * (n * R) * K → ⊥ = λ e. beneath (n * R) q (eq_of_mul-eq-mul_right K p (200 * q + 100) (32768 * (n * R)) e) in
    record { under = omega (arith, h.under); over = omega (arith, h.over) }
  where
    above : (z q : ℕ) → 32768 * z + 100 ≡ 200 * q → ⊥
    above z q h = omega arith

    beneath : (z q : ℕ) → 200 * q + 100 ≡ 32768 * z → ⊥
    beneath z q h = omega arith

-- ════ Any binary32 in units ════

-- it has m × 2 ^ j of them, with m below 2 ^ 24
pub record InUnits (x : Float) : Type 0 where
  pub s : Bool
  pub m : ℕ
  pub j : ℕ
  pub small : m < 2 ^ 24
  pub value : HasValue x s (m * 2 ^ j) (2 ^ 149)

parts : (s : Bool) (m : ℕ) (e : ℤ) → T (fits binary32 (fin s (suc m) e)) → (suc m < 2 ^ 24) × (down e ≤ 2 ^ 149)
unfolding fits
parts s m e f =
    let A = eqb (suc m % 2) 1 in
    let B = ltb (suc m) (2 ^ 24) in
    let C = leb (down e) (2 ^ 149) in
    let g : T (A && B && C) = and_l (A && B && C) (ltb (suc m * up e) (2 ^ 128 * down e)) f in
    (ltb→lt (suc m) (2 ^ 24) (and_r A B (and_l (A && B) C g)), leb→le (down e) (2 ^ 149) (and_r (A && B) C g))

pub in_units : (x : Float) → T (fits binary32 x) → T (finite x) → InUnits x
in_units nan f n = absurd n
in_units (inf s) f n = absurd n
in_units (fin s zero e) f n = record { s = s; m = 0; j = 0; small = lit< tt; value = (refl, nothing (up e) (2 ^ 149) (down e)) }
  where
    nothing : (a b c : ℕ) → 0 * a * b ≡ 0 * 2 ^ 0 * c
    nothing a b c = omega arith
in_units (fin s (suc m) (pos k)) f n =
    record {
      s = s;
      m = suc m;
      j = k + 149;
      small = (parts s m (pos k) f).0;
      value = (refl, mul_assoc (suc m) (2 ^ k) (2 ^ 149) ∙ ap (λ (z : ℕ). suc m * z) (sym (pow-add 2 k 149)) ∙ sym (mul-one (suc m * 2 ^ (k + 149))));
    }
in_units (fin s (suc m) (negsuc k)) f n =
    let l : suc k ≤ 149 = low_exponent (dec_le (suc k) 149) (parts s m (negsuc k) f).1 in
    let i : 149 - suc k + suc k ≡ 149 = omega arith in
    let p : 2 ^ (149 - suc k) * 2 ^ suc k ≡ 2 ^ 149 = sym (pow-add 2 (149 - suc k) (suc k)) ∙ ap (λ (z : ℕ). 2 ^ z) i in
    record {
      s = s;
      m = suc m;
      j = 149 - suc k;
      small = (parts s m (negsuc k) f).0;
      value = (refl, ap (λ (z : ℕ). z * 2 ^ 149) (mul-one (suc m)) ∙ ap (λ (z : ℕ). suc m * z) (sym p) ∙ sym (mul_assoc (suc m) (2 ^ (149 - suc k)) (2 ^ suc k)));
    }
  where
    low_exponent : Dec (suc k ≤ 149) → 2 ^ suc k ≤ 2 ^ 149 → suc k ≤ 149
    low_exponent (yes l) h = l
    low_exponent (no l) h = absurd (not-le_of_lt (pow-lt {i = 149} {j = suc k} (omega arith)) h)

-- ════ The float against any other ════

module _ (s : Bool) (a : ℕ) (r : Rounded s a) where
  abbrev K : ℕ
  K = 2 ^ r.k

  -- its units, and those of a, of which it has a hundredth
  abbrev pub G : ℕ
  G = r.q * K

  abbrev pub N : ℕ
  N = a * 2 ^ 149

  nearer : Nearer r.q (100 * K) N
  nearer =
      let i : 149 ≡ r.k + (14 + (135 - r.k)) = omega (arith, r.place) in
      let unit : 2 ^ 149 ≡ K * (16384 * 2 ^ (135 - r.k)) =
      ap (λ (z : ℕ). 2 ^ z) i ∙ pow-add 2 r.k (14 + (135 - r.k)) ∙ ap (λ (z : ℕ). K * z) (pow-add 2 14 (135 - r.k)) in
      subst (λ (z : ℕ). Nearer r.q (100 * K) (a * z)) (sym unit)
      (strict a r.q K (2 ^ (135 - r.k)) (pow_pos r.k) (subst (λ (z : ℕ). Near r.q (100 * K) (a * z)) unit r.near))

  pub beside : (m j : ℕ) → m < 2 ^ 24 → (m * 2 ^ j ≡ G) ⊎ (off N (100 * G) < off N (100 * (m * 2 ^ j)))
  beside m j h = elim (dec_le r.k j) [
    | yes l ↦ multiple l
    | no l ↦ inr (lower (omega arith))
  ]
    where
      multiple : r.k ≤ j → (m * 2 ^ j ≡ G) ⊎ (off N (100 * G) < off N (100 * (m * 2 ^ j)))
      multiple l =
          let c = m * 2 ^ (j - r.k) in
          let i : j ≡ j - r.k + r.k = omega arith in
          let e : m * 2 ^ j ≡ c * K =
          ap (λ (z : ℕ). m * 2 ^ z) i ∙ ap (λ (z : ℕ). m * z) (pow-add 2 (j - r.k) r.k) ∙ sym (mul_assoc m (2 ^ (j - r.k)) K) in
          elim (other r.q K N c nearer) [
            | inl x ↦ inl (e ∙ ap (λ (z : ℕ). z * K) x)
            | inr x ↦ inr (subst (λ (z : ℕ). off N (100 * G) < off N (100 * z)) (sym e) x)
          ]

      lower : j < r.k → off N (100 * G) < off N (100 * (m * 2 ^ j))
      lower l =
          below r.q K N (2 ^ 23) (2 ^ (23 + r.k)) (m * 2 ^ j) nearer (pow-add 2 23 r.k)
          ((le-div_iff_mul-le (lit< tt)).0 (r.top (omega arith)))
          (lt_of_lt_of_le (shl_lt 24 j h) (pow_mono {i = 24 + j} {j = 23 + r.k} (omega arith)))
