-- Laws of texts and of buffers: that texts written one after the other are one text, how long a number's text is, and which bytes it has not.
use mathlib.Core.Bool.{Bool, true, false, not, ◌&&◌, ◌||◌, cond}
use mathlib.Core.List.{List, [], ◌∷◌, ◌++◌, append_assoc}
use mathlib.Core.Path.{◌≡◌, refl, sym, ap, ◌∙◌, subst}
use Prim.Native.Nat.{ℕ, zero, suc, ◌+◌, ◌/◌, ◌%◌, ◌^◌, ◌≤◌, ◌<◌}
use native.Mathlib.Numerals.{add-one}
use native.Mathlib.Omega.{arith}
use borrow.Author.Tests.{lt-ltb, le-ltb, le-leb, ltb-true, ne_eqb}
use lib.Dec.{T, ltb, leb, eqb}
use lib.IntN.{ℤ, pos, negsuc, nat_abs}
use lib.Signed.{lt_z}
use lib.ListN.{length, take, drop, set, length-append, length-drop}
use lib.Seq.{length-take-le, take_at, drop-append-add, drop-drop, set_split}
use Rattle.text.specs.Text.{ascii, absent, digit, digits, decimal, hundredths, signed_by, signed, knots, written}

-- ════ Buffers ════

-- the front of a buffer, and a text after it
front : (old : List ℕ) (at : ℕ) (text : List ℕ) → at + length text ≤ length old → length (take at old ++ text) ≡ at + length text
front old at text h =
    let k : length (take at old) ≡ at = length-take-le at old (omega arith) in
    length-append (take at old) text ∙ ap (λ (n : ℕ). n + length text) k

-- a buffer with a text in it: the front with the text, and what was behind it
split : (old : List ℕ) (at : ℕ) (text : List ℕ) → written old at text ≡ take at old ++ text ++ drop (at + length text) old
unfolding written
split old at text = sym (append_assoc (take at old) text (drop (at + length text) old))

pub length_written : (old : List ℕ) (at : ℕ) (text : List ℕ) → at + length text ≤ length old → length (written old at text) ≡ length old
length_written old at text h =
    let e = front old at text h in
    rw (split, length-append, e, length-drop) (omega arith)

pub written_then : (old : List ℕ) (at : ℕ) (a b : List ℕ) → at + length a + length b ≤ length old
    → written (written old at a) (at + length a) b ≡ written old at (a ++ b)
written_then old at a b h =
    let p : List ℕ = take at old ++ a in
    let rest : List ℕ = drop (at + length a) old in
    let e : length p ≡ at + length a = front old at a (omega arith) in
    let n : at + length (a ++ b) ≡ at + length a + length b = simp length-append (omega arith) in
    let behind = (rw e at (drop-append-add p rest (length b))) ∙ drop-drop (length b) (at + length a) old in
    rw (split old at a, split (p ++ rest), take_at p rest (at + length a) e, behind, split, n, append_assoc (take at old) a b)

-- a store is a text of one byte
pub written_byte : (old : List ℕ) (at b : ℕ) → at < length old → set old at b ≡ written old at (b ∷ [])
unfolding written
written_byte old at b h = rw add-one (set_split old at b h)

-- ════ Numbers ════

-- where `most` digits are enough, one more changes nothing
digits_enough : (most n : ℕ) → n < 10 ^ suc most → digits (suc most) n ≡ digits (suc (suc most)) n
unfolding digits
digits_enough zero n h = rw (lt-ltb n 10 (omega arith))
digits_enough (suc most) n h =
    ap (λ (high : List ℕ). cond (ltb n 10) (digit n) (high ++ digit (n % 10))) (digits_enough most (n / 10) (omega arith))

pub decimal_one : (n : ℕ) → n < 10 → decimal n ≡ digit n
unfolding decimal digits
decimal_one n h = rw (lt-ltb n 10 h)

pub decimal_more : (n : ℕ) → 10 ≤ n → n < 10 ^ 10 → decimal n ≡ decimal (n / 10) ++ digit (n % 10)
unfolding decimal digits
decimal_more n h k =
    ap (λ (small : Bool). cond small (digit n) (digits 9 (n / 10) ++ digit (n % 10))) (le-ltb n 10 h)
    ∙ ap (λ (high : List ℕ). high ++ digit (n % 10)) (digits_enough 8 (n / 10) (omega arith))

-- a choice of two texts is no longer than the longer
pub either : {m : ℕ} (first : Bool) (a b : List ℕ) → length a ≤ m → length b ≤ m → length (cond first a b) ≤ m
either true a b h k = h
either false a b h k = k

digits_length : (most n : ℕ) → length (digits most n) ≤ most
unfolding digits digit
digits_length zero n = omega arith
digits_length (suc most) n =
    either (ltb n 10) (digit n) (digits most (n / 10) ++ digit (n % 10)) (omega arith)
    (rw length-append (omega (arith, digits_length most (n / 10))))

-- a number of at most so many digits has no more
digits_short : (k most n : ℕ) → n < 10 ^ suc k → length (digits most n) ≤ suc k
unfolding digits digit
digits_short k zero n h = omega arith
digits_short zero (suc most) n h = rw (lt-ltb n 10 (omega arith)) (omega arith)
digits_short (suc k) (suc most) n h =
    either (ltb n 10) (digit n) (digits most (n / 10) ++ digit (n % 10)) (omega arith)
    (rw length-append (omega (arith, digits_short k most (n / 10) (omega arith))))

-- a u16
pub decimal_five : (n : ℕ) → n < 65536 → length (decimal n) ≤ 5
unfolding decimal
decimal_five n h = digits_short 4 10 n (omega arith)

pub decimal_length : (n : ℕ) → length (decimal n) ≤ 10
unfolding decimal
decimal_length n = digits_length 10 n

-- one digit more than n / 10 has
pub decimal_longer : (n : ℕ) → 10 ≤ n → n < 10 ^ 10 → length (decimal n) ≡ length (decimal (n / 10)) + 1
unfolding digit
decimal_longer n h k = ap length (decimal_more n h k) ∙ length-append (decimal (n / 10)) (digit (n % 10))

-- a digit at least
pub decimal_some : (n : ℕ) → 0 < length (decimal n)
unfolding decimal digits digit
decimal_some n = go (ltb n 10)
  where
    go : (small : Bool) → 0 < length (cond small (digit n) (digits 9 (n / 10) ++ digit (n % 10)))
    go true = omega arith
    go false = rw length-append (omega arith)

-- ════ Signs ════

-- the minus before a negative number
abbrev pub sign_text : ℤ → List ℕ
sign_text x = cond (lt_z x (pos 0)) (ascii "-") []

-- a number's text is its sign and its size
pub signed_by_lem : (size : ℕ → List ℕ) (x : ℤ) → signed_by size x ≡ sign_text x ++ size (nat_abs x)
unfolding signed_by
signed_by_lem size (pos n) = rw (le-ltb n 0 (omega arith))
signed_by_lem size (negsuc n) = refl

-- so it is as long as both
pub signed_by_length : (size : ℕ → List ℕ) (x : ℤ) → length (signed_by size x) ≡ length (sign_text x) + length (size (nat_abs x))
signed_by_length size x = ap length (signed_by_lem size x) ∙ length-append (sign_text x) (size (nat_abs x))

pub sign_length_lem : (x : ℤ) → length (sign_text x) ≤ 1
sign_length_lem x = either (lt_z x (pos 0)) (ascii "-") [] (omega arith) (omega arith)

pub signed_length : (x : ℤ) → length (signed x) ≤ 11
unfolding signed
signed_length x = omega (arith, signed_by_length decimal x, sign_length_lem x, decimal_length (nat_abs x))

-- ════ Knots ════

-- the whole knots, the point and two decimals
pub hundredths_length : (n : ℕ) → length (hundredths n) ≡ length (decimal (n / 100)) + 3
unfolding hundredths digit
hundredths_length n = length-append (decimal (n / 100)) _

pub knots_length : (x : ℤ) → length (knots x) ≤ 14
unfolding knots
knots_length x =
    omega (arith, signed_by_length hundredths x, sign_length_lem x, hundredths_length (nat_abs x), decimal_length (nat_abs x / 100))

-- of an i32
pub knots_twelve : (x : ℤ) → nat_abs x < 10 ^ 10 → length (knots x) ≤ 12
unfolding knots decimal
knots_twelve x h =
    let short = digits_short 7 10 (nat_abs x / 100) (omega arith) in
    omega (arith, signed_by_length hundredths x, sign_length_lem x, hundredths_length (nat_abs x))

-- ════ Bytes that stand nowhere in a text ════

pub absent_append : (b : ℕ) (a c : List ℕ) → absent b (a ++ c) ≡ (absent b a && absent b c)
unfolding absent
absent_append b [] c = refl
absent_append b (x ∷ a) c = go (eqb x b) (absent_append b a c)
  where
    go : (t : Bool) → absent b (a ++ c) ≡ (absent b a && absent b c) → (not t && absent b (a ++ c)) ≡ ((not t && absent b a) && absent b c)
    go true e = refl
    go false e = e

pub absent_either : (b : ℕ) (first : Bool) (a c : List ℕ) → absent b a ≡ true → absent b c ≡ true → absent b (cond first a c) ≡ true
absent_either b true a c h k = h
absent_either b false a c h k = k

-- whether a number's text can have a byte: "-", "." and "0" to "9" are bytes 45, 46 and 48 to 57
abbrev pub in_number : ℕ → Bool
in_number b = eqb b 45 || eqb b 46 || (leb 48 b && leb b 57)

digit_in_number : (n : ℕ) → n < 10 → in_number (48 + n) ≡ true
digit_in_number n h =
    rw (ne_eqb (48 + n) 45 (λ e. omega arith), ne_eqb (48 + n) 46 (λ e. omega arith), le-leb 48 (48 + n) (omega arith), le-leb (48 + n) 57 (omega arith))

module _ (b : ℕ) (out : in_number b ≡ false) where
  -- a byte that it can have is another one
  other : (x : ℕ) → in_number x ≡ true → eqb x b ≡ false
  other x h = ne_eqb x b (λ e. subst T (sym h ∙ ap in_number e ∙ out) tt)

  absent_digit : (n : ℕ) → n < 10 → absent b (digit n) ≡ true
  unfolding absent digit
  absent_digit n h = rw (other (48 + n) (digit_in_number n h))

  absent_digits : (most n : ℕ) → absent b (digits most n) ≡ true
  unfolding absent digits
  absent_digits zero n = refl
  absent_digits (suc most) n = go (ltb n 10) refl (absent_digits most (n / 10))
    where
      go : (small : Bool) → ltb n 10 ≡ small → absent b (digits most (n / 10)) ≡ true
          → absent b (cond small (digit n) (digits most (n / 10) ++ digit (n % 10))) ≡ true
      go true e high = absent_digit n (ltb-true n 10 e)
      go false e high = rw (absent_append b (digits most (n / 10)) (digit (n % 10)), high) (absent_digit (n % 10) (omega arith))

  pub absent_decimal : (n : ℕ) → absent b (decimal n) ≡ true
  unfolding decimal
  absent_decimal n = absent_digits 10 n

  absent_sign : (x : ℤ) → absent b (sign_text x) ≡ true
  unfolding absent
  absent_sign x = absent_either b (lt_z x (pos 0)) (ascii "-") [] (rw (other 45 refl)) refl

  absent_hundredths : (n : ℕ) → absent b (hundredths n) ≡ true
  unfolding hundredths absent
  absent_hundredths n =
      rw (absent_append b (decimal (n / 100)) _, absent_decimal (n / 100), other 46 refl, absent_append b (digit (n / 10 % 10)) (digit (n % 10)))
      (rw (absent_digit (n / 10 % 10) (omega arith)) (absent_digit (n % 10) (omega arith)))

  pub absent_signed : (x : ℤ) → absent b (signed x) ≡ true
  unfolding signed
  absent_signed x = rw (signed_by_lem decimal x, absent_append b (sign_text x) (decimal (nat_abs x)), absent_sign x) (absent_decimal (nat_abs x))

  pub absent_knots : (x : ℤ) → absent b (knots x) ≡ true
  unfolding knots
  absent_knots x = rw (signed_by_lem hundredths x, absent_append b (sign_text x) (hundredths (nat_abs x)), absent_sign x) (absent_hundredths (nat_abs x))
