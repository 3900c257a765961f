-- Whether a float is exact, by its hundredths and by quarters of a knot; what its cut tells; and whether it is exact by the fields of its pattern:
-- the sign s, the exponent's field e and the digits t. Where e is neither 0 nor 255 the number is ± (8388608 + t) × 2 ^ e / 2 ^ 150.
use mathlib.Core.Path.{◌≡◌, refl, sym, ap, ◌∙◌}
use mathlib.Core.Bool.{Bool, true, false}
use Prim.Native.Nat.{ℕ, zero, suc, ◌+◌, ◌-◌, ◌*◌, ◌/◌, ◌%◌, ◌^◌, ◌≤◌, ◌<◌}
use native.Mathlib.Nat.{pow-succ', add-zero, mod-eq_of_lt, mul-mod_left, mul_right_comm, mul-pos, one-mul, div-add-mod', eq_of_mul-eq-mul_right, lt_of_lt_of_le}
use native.Mathlib.Decide.{dec_lt}
use native.Mathlib.Omega.{arith}
use borrow.Author.Tests.{eq-eqb, ne_eqb, eqb-true, lt-ltb, ltb-true, ltb-false}
use lib.Dec.{eqb, ltb, leb, lit<, lit≤}
use lib.Pow.{pow_pos, pow_mono, pow-add, shl_lt, shl_exact}
use lib.Ieee.{Float, nan, inf, fin, binary32, up, down, odd, of_fields, of_bits}
use lib.Ieee.Exact.{HasValue, odd_sign}
use lib.Ieee.Fits.{down_pos}
use lib.IntN.{ℤ, pos, negsuc, nat_abs, ◌*ℤ◌}
use Rattle.rounding.specs.Cut.{cut}
use Rattle.rounding.specs.Rounding.{round_away}
use Rattle.rounding.proofs.CutLaws.{cut_small}
use Rattle.rounding.proofs.Fits.{size_mul}
use Rattle.rounding.proofs.Rounding.{round_whole}
use Rattle.float.specs.Claims.{HundredthsAre, ExactKeeps, ExactQuarters, ToldWhenCut}
use Rattle.float.specs.Float.{converted, hundredths_of, exact_float, hundredths_limit, cut_off, converted_of}
use Rattle.float.specs.declared.Converted.{Converted}
use Rattle.std.specs.Prelude.{Some}
use Rattle.float.proofs.Fields.{signed, signed_size, signed_times}

-- ════ Fractions ════

-- one that is whole is its quotient
whole_is : (n d : ℕ) → n % d ≡ 0 → n / d * d ≡ n
whole_is n d z = sym (add-zero (n / d * d)) ∙ ap (λ (r : ℕ). n / d * d + r) (sym z) ∙ div-add-mod' n d

-- of two equal fractions both are whole or neither
whole_too : (n d k f : ℕ) → 0 < d → n * f ≡ k * d → n % d ≡ 0 → k % f ≡ 0
whole_too n d k f p h z =
    let q = n / d in
    let e : n ≡ q * d = sym (whole_is n d z) in
    let g : k ≡ q * f = eq_of_mul-eq-mul_right d p k (q * f) (sym h ∙ ap (λ (x : ℕ). x * f) e ∙ mul_right_comm q d f) in
    ap (λ (x : ℕ). x % f) g ∙ mul-mod_left q f

whole_same : (n d k f : ℕ) → 0 < d → 0 < f → n * f ≡ k * d → eqb (n % d) 0 ≡ eqb (k % f) 0
whole_same n d k f p q h = grind (arith, whole_too n d k f p h, whole_too k f n d q (sym h))

-- one below 1 that is not 0 is not whole
fraction : (n d : ℕ) → 0 < n → n < d → eqb (n % d) 0 ≡ false
fraction n d p h = ap (λ (r : ℕ). eqb r 0) (mod-eq_of_lt h) ∙ ne_eqb n 0 (λ e. omega arith)

-- ════ By the hundredths ════

keeps : (s : Bool) (m : ℕ) (e : ℤ) → exact_float (fin s m e) ≡ true → HundredthsAre (hundredths_of s m e) s m e
unfolding exact_float hundredths_of HundredthsAre
keeps s m e h =
    let n = 100 * (m * up e) in
    let d = down e in
    let q = n / d in
    let whole : signed s q *ℤ pos d ≡ signed s n = signed_times s q d ∙ ap (signed s) (whole_is n d (eqb-true (n % d) 0 h)) in
    ap (λ (x : ℤ). round_away x d *ℤ pos d) (sym whole) ∙ ap (λ (x : ℤ). x *ℤ pos d) (round_whole (signed s q) d (down_pos e)) ∙ whole

only : (s : Bool) (m : ℕ) (e h : ℤ) → HundredthsAre h s m e → exact_float (fin s m e) ≡ true
unfolding exact_float HundredthsAre
only s m e h l =
    let n = 100 * (m * up e) in
    let d = down e in
    let z : nat_abs h * d ≡ n = sym (size_mul h (pos d)) ∙ ap nat_abs l ∙ signed_size s n in
    eq-eqb (n % d) 0 (ap (λ (x : ℕ). x % d) (sym z) ∙ mul-mod_left (nat_abs h) d)

pub exact_keeps : ExactKeeps
exact_keeps = record { keeps = keeps; only = only }

-- ════ By the cut ════

whole : (s : Bool) (m : ℕ) (e n : ℤ) (exact : Bool) → converted_of (fin s m e) ≡ Some (converted n exact false) → n ≡ hundredths_of s m e
unfolding converted_of cut_off
whole s m e n exact c =
    let h = hundredths_of s m e in
    let given : converted n exact false ≡ cut_off h (exact_float (fin s m e)) = cc in
    let same : n ≡ cut hundredths_limit h = ap (λ (r : Converted). r.number) given in
    let uncut : ltb hundredths_limit (nat_abs h) ≡ false = ap (λ (r : Converted). r.cut) (sym given) in
    same ∙ cut_small hundredths_limit h (ltb-false hundredths_limit (nat_abs h) uncut)

beyond : (s : Bool) (m : ℕ) (e n : ℤ) (exact : Bool) → converted_of (fin s m e) ≡ Some (converted n exact true) → hundredths_limit < nat_abs (hundredths_of s m e)
unfolding converted_of cut_off
beyond s m e n exact c =
    let h = hundredths_of s m e in
    let given : converted n exact true ≡ cut_off h (exact_float (fin s m e)) = cc in
    let far : ltb hundredths_limit (nat_abs h) ≡ true = ap (λ (r : Converted). r.cut) (sym given) in
    ltb-true hundredths_limit (nat_abs h) far

pub told_when_cut : ToldWhenCut
told_when_cut = record { whole = whole; beyond = beyond }

-- ════ By quarters ════

-- what is whole over a power of two 25 times is whole once
once : (k y q : ℕ) → 25 * y ≡ q * 2 ^ k → y % 2 ^ k ≡ 0
once zero y q h = omega arith
once (suc k) y q h =
    let p : 2 ^ suc k ≡ 2 ^ k * 2 = rw pow-succ' (omega arith) in
    let even : 25 * y ≡ 2 * (q * 2 ^ k) = h ∙ rw p (omega arith) in
    let z = q * 2 ^ k - 12 * y in
    let half : y ≡ 2 * z = omega arith in
    let less : 25 * z ≡ q * 2 ^ k = omega arith in
    let w : z / 2 ^ k * 2 ^ k ≡ z = whole_is z (2 ^ k) (once k z q less) in
    let e : y ≡ z / 2 ^ k * 2 ^ suc k = rw p (omega arith) in
    ap (λ (n : ℕ). n % 2 ^ suc k) e ∙ mul-mod_left (z / 2 ^ k) (2 ^ suc k)

over : (k x : ℕ) → eqb (100 * x % 2 ^ k) 0 ≡ eqb (4 * x % 2 ^ k) 0
over k x = go (eqb (100 * x % d) 0) (eqb (4 * x % d) 0) refl refl
  where
    d : ℕ
    d = 2 ^ k

    go : (a b : Bool) → eqb (100 * x % d) 0 ≡ a → eqb (4 * x % d) 0 ≡ b → a ≡ b
    go true b u v =
        let w = whole_is (100 * x) d (eqb-true (100 * x % d) 0 u) in
        sym (eq-eqb (4 * x % d) 0 (once k (4 * x) (100 * x / d) (omega (arith, w)))) ∙ v
    go false true u v =
        let w = whole_is (4 * x) d (eqb-true (4 * x % d) 0 v) in
        let e : 100 * x ≡ 25 * (4 * x / d) * d = omega (arith, w) in
        sym u ∙ eq-eqb (100 * x % d) 0 (ap (λ (n : ℕ). n % d) e ∙ mul-mod_left (25 * (4 * x / d)) d)
    go false false u v = refl

pub exact_quarters : ExactQuarters
unfolding ExactQuarters exact_float
exact_quarters s m (pos k) = over 0 (m * up (pos k))
exact_quarters s m (negsuc k) = over (suc k) (m * up (negsuc k))

-- ════ By the value, and by the fields ════

by_value : (v : Float) (s : Bool) (a c : ℕ) → 0 < c → HasValue v s a c → exact_float v ≡ eqb (100 * a % c) 0
unfolding exact_float
by_value nan s a c p h = absurd h
by_value (inf t) s a c p h = absurd h
by_value (fin t m e) s a c p h = whole_same (100 * (m * up e)) (down e) (100 * a) c (down_pos e) p (omega (arith, h.1))

none : (s : Bool) → exact_float (of_fields binary32 s 0 0) ≡ true
unfolding of_fields exact_float
none s = refl

subnormal : (s : Bool) (t : ℕ) → 0 < t → t < 8388608 → exact_float (of_fields binary32 s 0 t) ≡ false
unfolding of_fields
subnormal s t p h =
    by_value (odd 24 s t 0 149) s (t * 2 ^ 0) (2 ^ 149) (pow_pos 149) (odd_sign 24 s t 0 149)
    ∙ fraction (100 * (t * 1)) (2 ^ 149) (omega arith)
    (let l : 100 * (t * 1) < 2 ^ 30 = omega arith in lt_of_lt_of_le l (pow_mono {i = 30} {j = 149} (lit≤ tt)))

normal : (s : Bool) (x t : ℕ) → x < 254 → exact_float (of_fields binary32 s (suc x) t) ≡ eqb (100 * ((8388608 + t) * 2 ^ x) % 2 ^ 149) 0
unfolding of_fields
normal s x t h =
    rw (ne_eqb (suc x) 255 (λ e. omega arith))
    (by_value (odd 24 s (8388608 + t) x 149) s ((8388608 + t) * 2 ^ x) (2 ^ 149) (pow_pos 149) (odd_sign 24 s (8388608 + t) x 149))

small : (s : Bool) (x t : ℕ) → x < 118 → t < 8388608 → exact_float (of_fields binary32 s (suc x) t) ≡ false
small s x t h k =
    let q = 8388608 + t in
    let a : 100 * q < 2 ^ 31 = omega arith in
    let b : 100 * q * 2 ^ x < 2 ^ 149 = lt_of_lt_of_le (shl_lt 31 x a) (pow_mono {i = 31 + x} {j = 149} (omega arith)) in
    let e : 100 * (q * 2 ^ x) ≡ 100 * q * 2 ^ x = omega arith in
    normal s x t (omega arith) ∙ rw e (fraction (100 * q * 2 ^ x) (2 ^ 149) (mul-pos (omega arith) (pow_pos x)) b)

middle : (s : Bool) (x t : ℕ) → x < 149 → exact_float (of_fields binary32 s (suc x) t) ≡ eqb (100 * (8388608 + t) % 2 ^ (149 - x)) 0
middle s x t k =
    let q = 8388608 + t in
    let i : x + (149 - x) ≡ 149 = omega arith in
    let p : 2 ^ x * 2 ^ (149 - x) ≡ 2 ^ 149 = sym (pow-add 2 x (149 - x)) ∙ ap (λ (j : ℕ). 2 ^ j) i in
    normal s x t (omega arith)
    ∙ whole_same (100 * (q * 2 ^ x)) (2 ^ 149) (100 * q) (2 ^ (149 - x)) (pow_pos 149) (pow_pos (149 - x))
    (cross q (2 ^ x) (2 ^ (149 - x)) ∙ ap (λ (z : ℕ). 100 * q * z) p)
  where
    cross : (q a b : ℕ) → 100 * (q * a) * b ≡ 100 * q * (a * b)
    cross q a b = omega arith

large : (s : Bool) (x t : ℕ) → 149 ≤ x → x < 254 → exact_float (of_fields binary32 s (suc x) t) ≡ true
large s x t h k =
    let q = 8388608 + t in
    let i : x ≡ x - 149 + 149 = omega arith in
    let p : 2 ^ x ≡ 2 ^ (x - 149) * 2 ^ 149 = ap (λ (j : ℕ). 2 ^ j) i ∙ pow-add 2 (x - 149) 149 in
    let e : 100 * (q * 2 ^ x) ≡ 100 * q * 2 ^ (x - 149) * 2 ^ 149 = rw p (times q (2 ^ (x - 149)) (2 ^ 149)) in
    normal s x t k ∙ eq-eqb (100 * (q * 2 ^ x) % 2 ^ 149) 0 (ap (λ (n : ℕ). n % 2 ^ 149) e ∙ mul-mod_left (100 * q * 2 ^ (x - 149)) (2 ^ 149))
  where
    times : (q a b : ℕ) → 100 * (q * (a * b)) ≡ 100 * q * a * b
    times q a b = omega arith

no_number : (s : Bool) (t : ℕ) → exact_float (of_fields binary32 s 255 t) ≡ false
unfolding of_fields exact_float
no_number s t = grind arith

-- ════ By the pattern b, in the four ways of the code ════

module _ (b : ℕ) where
  abbrev s : Bool
  s = leb 2147483648 b

  abbrev e : ℕ
  e = b % 2147483648 / 8388608

  abbrev t : ℕ
  t = b % 8388608

  pub of_zero : b % 2147483648 ≡ 0 → true ≡ exact_float (of_bits binary32 b)
  unfolding of_bits
  of_zero h =
      let x : e ≡ 0 = omega arith in
      let y : t ≡ 0 = omega arith in
      sym (rw (x, y) (none s))

  under : (x : ℕ) → x ≡ e → e < 119 → (b % 2147483648 ≡ 0 → ⊥) → false ≡ exact_float (of_fields binary32 s x t)
  under zero h k n = sym (subnormal s t (omega arith) (omega arith))
  under (suc x) h k n = sym (small s x t (omega arith) (omega arith))

  pub of_small : e < 119 → (b % 2147483648 ≡ 0 → ⊥) → false ≡ exact_float (of_bits binary32 b)
  unfolding of_bits
  of_small = under e refl

  inside : (x : ℕ) → x ≡ e → 119 ≤ e → e ≤ 149 → eqb (100 * (8388608 + t) % (1 * 2 ^ (150 - x) % 4294967296)) 0 ≡ exact_float (of_fields binary32 s x t)
  inside zero h k l = absurd (let z : ⊥ = omega arith in z)
  inside (suc x) h k l =
      let d : 150 - suc x ≡ 149 - x = omega arith in
      let w : 1 * 2 ^ (149 - x) % 2 ^ 32 ≡ 2 ^ (149 - x) = shl_exact {a = 1} 1 (149 - x) 32 (lit< tt) (omega arith) ∙ one-mul (2 ^ (149 - x)) in
      rw (d, w) (sym (middle s x t (omega arith)))

  pub of_middle : 119 ≤ e → e ≤ 149 → eqb (100 * (8388608 + t) % (1 * 2 ^ (150 - e) % 4294967296)) 0 ≡ exact_float (of_bits binary32 b)
  unfolding of_bits
  of_middle = inside e refl

  ones : (x : ℕ) → x ≡ 255 → ltb x 255 ≡ exact_float (of_fields binary32 s x t)
  ones x h = rw h (sym (no_number s t))

  above : (x : ℕ) → x ≡ e → 149 < e → ltb x 255 ≡ exact_float (of_fields binary32 s x t)
  above zero h k = absurd (let z : ⊥ = omega arith in z)
  above (suc x) h k = elim (dec_lt (suc x) 255) [
    | yes l ↦ lt-ltb (suc x) 255 l ∙ sym (large s x t (omega arith) (omega arith))
    | no l ↦ ones (suc x) (omega arith)
  ]

  pub of_large : 149 < e → ltb e 255 ≡ exact_float (of_bits binary32 b)
  unfolding of_bits
  of_large = above e refl

-- a divisor that is a power of two, none of it shifted out
pub divisor : (k : ℕ) → k < 32 → 0 < 1 * 2 ^ k % 4294967296
divisor k h = rw (shl_exact {a = 1} 1 k 32 (lit< tt) (omega arith), one-mul) (pow_pos k)
