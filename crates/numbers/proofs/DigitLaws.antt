-- Laws of digits: read one after the other, and cut as they are read; and those of a number that is written.
use mathlib.Core.Bool.{Bool, true, false, cond, ◌&&◌}
use mathlib.Core.List.{List, [], ◌∷◌, ◌++◌}
use mathlib.Core.Path.{◌≡◌, refl, sym, ap, ◌∙◌, subst}
use Prim.Native.Nat.{ℕ, zero, suc, ◌+◌, ◌-◌, ◌*◌, ◌/◌, ◌%◌, ◌^◌, ◌≤◌, ◌<◌, min}
use native.Mathlib.Numerals.{add-one}
use native.Mathlib.Omega.{arith}
use borrow.Author.Tests.{le-leb, ltb-true, ltb-false, leb-true}
use lib.Dec.{T, leb, ltb}
use lib.ListN.{length, drop, get_or, length-append, get_or-append}
use lib.Seq.{drop-cons, drop-length}
use Rattle.std.proofs.Common.{Some, None}
use Rattle.std.specs.Char.{is_ascii_digit}
use Rattle.numbers.specs.Number.{all_digits, value_from, digits_from, number_limit, cut_size}
use Rattle.text.specs.Text.{digit, digits, decimal}

-- ════ Digits that are read ════

-- a list of digits: the first one, and the others
pub record Digit (b : ℕ) (l : List ℕ) : Type 0 where
  pub low : 48 ≤ b
  pub high : b ≤ 57
  pub rest : all_digits l ≡ true

pub first : (b : ℕ) (l : List ℕ) → all_digits (b ∷ l) ≡ true → Digit b l
unfolding all_digits
first b l e = go (leb 48 b) (leb b 57) (all_digits l) refl refl refl e
  where
    no : false ≡ true → ⊥
    no e = let z : ◌≡◌ {A = ℕ} 0 1 = cc in omega arith

    go : (p q r : Bool) → leb 48 b ≡ p → leb b 57 ≡ q → all_digits l ≡ r → (p && q && r) ≡ true → Digit b l
    go true true true x y z e = record { low = leb-true 48 b x; high = leb-true b 57 y; rest = z }
    go true true false x y z e = absurd (no e)
    go true false r x y z e = absurd (no e)
    go false q r x y z e = absurd (no e)

pub all_append : (a b : List ℕ) → all_digits a ≡ true → all_digits b ≡ true → all_digits (a ++ b) ≡ true
unfolding all_digits
all_append [] b p q = q
all_append (x ∷ a) b p q =
    let d = first x a p in
    rw (le-leb 48 x d.low, le-leb x 57 d.high) (all_append a b d.rest q)

pub value_append : (n : ℕ) (a b : List ℕ) → value_from (value_from n a) b ≡ value_from n (a ++ b)
unfolding value_from
value_append n [] b = refl
value_append n (x ∷ a) b = value_append (10 * n + (x - 48)) a b

pub value_ge : (l : List ℕ) (n : ℕ) → n ≤ value_from n l
unfolding value_from
value_ge [] n = omega arith
value_ge (b ∷ l) n = omega (arith, value_ge l (10 * n + (b - 48)))

-- a number that is cut before more digits follow is cut to the same
same_cut : (n d : ℕ) → min (10 * min n number_limit + d) number_limit ≡ min (10 * n + d) number_limit
same_cut n d = omega arith

pub cut_from : (l : List ℕ) (n : ℕ) → min (value_from (min n number_limit) l) number_limit ≡ min (value_from n l) number_limit
unfolding value_from
cut_from [] n = omega arith
cut_from (b ∷ l) n =
    sym (cut_from l (10 * min n number_limit + (b - 48))) ∙ ap (λ (m : ℕ). min (value_from m l) number_limit) (same_cut n (b - 48))
    ∙ cut_from l (10 * n + (b - 48))

pub cut_digits : (n : ℕ) (l : List ℕ) → cut_size (digits_from (min n number_limit) l) ≡ cut_size (digits_from n l)
unfolding cut_size digits_from
cut_digits n l = go (all_digits l)
  where
    go : (t : Bool) → cut_size (cond t (Some (value_from (min n number_limit) l)) None) ≡ cut_size (cond t (Some (value_from n l)) None)
    go true = ap Some (cut_from l n)
    go false = refl

-- from the limit on another digit changes nothing
pub longer_cut : (n d : ℕ) (l : List ℕ) → cut_size (digits_from (cond (ltb n number_limit) (10 * n + d) n) l) ≡ cut_size (digits_from (min (10 * n + d) number_limit) l)
longer_cut n d l = go (ltb n number_limit) refl
  where
    go : (t : Bool) → ltb n number_limit ≡ t → cut_size (digits_from (cond t (10 * n + d) n) l) ≡ cut_size (digits_from (min (10 * n + d) number_limit) l)
    go true e = sym (cut_digits (10 * n + d) l)
    go false e =
        let h = ltb-false n number_limit e in
        let m : min n number_limit ≡ min (10 * n + d) number_limit = omega arith in
        sym (cut_digits n l) ∙ ap (λ (k : ℕ). cut_size (digits_from k l)) m

pub longer_below : (n d : ℕ) → n < 10 * number_limit → d < 10 → cond (ltb n number_limit) (10 * n + d) n < 10 * number_limit
longer_below n d h k = go (ltb n number_limit) refl
  where
    go : (t : Bool) → ltb n number_limit ≡ t → cond t (10 * n + d) n < 10 * number_limit
    go true e = let l = ltb-true n number_limit e in omega arith
    go false e = h

-- ════ The digits from the i-th on, as the loop meets them ════

module _ (n : ℕ) (s : List ℕ) (i : ℕ) (h : i < length s) where
  pub digits_other : is_ascii_digit (get_or s i 0) ≡ false → None ≡ cut_size (digits_from n (drop i s))
  unfolding cut_size digits_from all_digits
  digits_other e = rw (drop-cons s i 0 h) (go (leb 48 (get_or s i 0)) (leb (get_or s i 0) 57) e)
    where
      go : (p q : Bool) → (p && q) ≡ false → None ≡ cut_size (cond (p && q && all_digits (drop (suc i) s)) (Some (value_from n (get_or s i 0 ∷ drop (suc i) s))) None)
      go true true e = absurd (subst T e tt)
      go true false e = refl
      go false q e = refl

  one_more : 48 ≤ get_or s i 0 → get_or s i 0 ≤ 57 → digits_from n (drop i s) ≡ digits_from (10 * n + (get_or s i 0 - 48)) (drop (i + 1) s)
  unfolding digits_from all_digits value_from
  one_more l k = rw (add-one, drop-cons s i 0 h, le-leb 48 (get_or s i 0) l, le-leb (get_or s i 0) 57 k)

  pub digits_next : 48 ≤ get_or s i 0 → get_or s i 0 ≤ 57
      → cut_size (digits_from (cond (ltb n number_limit) (10 * n + (get_or s i 0 - 48)) n) (drop (i + 1) s)) ≡ cut_size (digits_from n (drop i s))
  digits_next l k =
      longer_cut n (get_or s i 0 - 48) (drop (i + 1) s) ∙ cut_digits (10 * n + (get_or s i 0 - 48)) (drop (i + 1) s) ∙ ap cut_size (sym (one_more l k))

pub digits_end : (n : ℕ) (s : List ℕ) (i : ℕ) → i ≤ length s → length s ≤ i → Some (min n number_limit) ≡ cut_size (digits_from n (drop i s))
unfolding cut_size digits_from all_digits value_from
digits_end n s i k l =
    let e : i ≡ length s = omega arith in
    rw (e, drop-length s) refl

-- ════ Digits that are written ════

pub is_digit : (n : ℕ) → n < 10 → all_digits (digit n) ≡ true
unfolding all_digits digit
is_digit n h = rw (le-leb 48 (48 + n) (omega arith), le-leb (48 + n) 57 (omega arith))

-- a text of digits that spell a number, a zero first in that of 0 alone
pub record Spells (l : List ℕ) (n : ℕ) : Type 0 where
  pub all : all_digits l ≡ true
  pub value : value_from 0 l ≡ n
  pub some : 0 < length l
  pub leads : get_or l 0 0 ≡ 48 → n ≡ 0

one : (n : ℕ) → n < 10 → Spells (digit n) n
unfolding value_from digit
one n h = record { all = is_digit n h; value = omega arith; some = omega arith; leads = λ e. omega arith }

more : (l : List ℕ) (m n : ℕ) → n / 10 ≡ m → 10 ≤ n → Spells l m → Spells (l ++ digit (n % 10)) n
unfolding value_from digit
more l m n e k h =
    let v : value_from 0 l ≡ m = h.value in
    record {
      all = all_append l (digit (n % 10)) h.all (is_digit (n % 10) (omega arith));
      value = sym (value_append 0 l (digit (n % 10))) ∙ omega arith;
      some = rw length-append (omega arith);
      leads = λ f. let z : m ≡ 0 = h.leads (sym (get_or-append l (digit (n % 10)) 0 0 h.some) ∙ f) in omega arith;
    }

-- by whether one digit is enough
spells_by : (n : ℕ) (l : List ℕ) (b : Bool) → ltb n 10 ≡ b → (10 ≤ n → Spells l (n / 10)) → Spells (cond b (digit n) (l ++ digit (n % 10))) n
spells_by n l true e g = one n (ltb-true n 10 e)
spells_by n l false e g = let k : 10 ≤ n = ltb-false n 10 e in more l (n / 10) n refl k (g k)

spells : (most n : ℕ) → n < 10 ^ suc most → Spells (digits (suc most) n) n
unfolding digits
spells zero n h = spells_by n [] (ltb n 10) refl (λ k. absurd (let z : ⊥ = omega arith in z))
spells (suc most) n h = spells_by n (digits (suc most) (n / 10)) (ltb n 10) refl (λ k. spells most (n / 10) (omega arith))

pub decimal_spells : (n : ℕ) → n < 10 ^ 10 → Spells (decimal n) n
unfolding decimal
decimal_spells n h = spells 9 n h
