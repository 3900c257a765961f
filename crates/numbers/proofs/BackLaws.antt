-- Writing a number that was read gives the same text, where nothing in it was needless.
use mathlib.Core.Bool.{Bool, true, false}
use mathlib.Core.List.{List, [], ◌∷◌, ◌++◌, append_assoc, append-nil}
use mathlib.Core.Path.{◌≡◌, refl, sym, ap, ◌∙◌}
use Prim.Native.Nat.{ℕ, zero, suc, ◌+◌, ◌-◌, ◌*◌, ◌/◌, ◌%◌, ◌^◌, ◌≤◌, ◌<◌}
use native.Mathlib.Omega.{arith}
use borrow.Author.Tests.{eqb-true, ne_eqb}
use lib.IntN.{ℤ, pos, negsuc, nat_abs}
use lib.ListN.{length, drop, get_or}
use lib.Seq.{drop-cons, drop-length, length-take-le, get_or-take}
use Rattle.std.proofs.Common.{Option, Some, None}
use Rattle.numbers.specs.Claims.{WritesReadNumbers}
use Rattle.numbers.specs.Number.{all_digits, value_from, whole_size, knots_size, minus, sign_length, with_sign, whole_of, knots_of, number_limit}
use Rattle.numbers.specs.Plain.{Plain}
use Rattle.text.specs.Text.{digit, decimal, hundredths, signed_by, signed, knots}
use Rattle.numbers.proofs.DigitLaws.{first, value_append, value_ge}
use Rattle.text.proofs.TextLaws.{decimal_one, decimal_more}
use Rattle.numbers.proofs.SizeLaws.{front, back, is_whole, is_knots, at_point, no_number, same_number}

-- ════ Digits ════

one_digit : (b : ℕ) → 48 ≤ b → digit (b - 48) ≡ b ∷ []
unfolding digit
one_digit b h = let e : 48 + (b - 48) ≡ b = omega arith in rw e

next_digit : (n b : ℕ) → 0 < n → 48 ≤ b → b ≤ 57 → 10 * n + (b - 48) < 10 ^ 10 → decimal (10 * n + (b - 48)) ≡ decimal n ++ (b ∷ [])
next_digit n b p h k l =
    let q : (10 * n + (b - 48)) / 10 ≡ n = omega arith in
    let r : (10 * n + (b - 48)) % 10 ≡ b - 48 = omega arith in
    decimal_more (10 * n + (b - 48)) (omega arith) l ∙ rw (q, r, one_digit b h)

-- digits after a number that is not zero
grow : (l : List ℕ) (n : ℕ) → 0 < n → all_digits l ≡ true → value_from n l < 10 ^ 10 → decimal (value_from n l) ≡ decimal n ++ l
unfolding value_from
grow [] n p e h = sym (append-nil (decimal n))
grow (b ∷ l) n p e h =
    let d = first b l e in
    let g : 10 * n + (b - 48) < 10 ^ 10 = omega (arith, value_ge l (10 * n + (b - 48))) in
    grow l (10 * n + (b - 48)) (omega arith) d.rest h
    ∙ ap (λ (t : List ℕ). t ++ l) (next_digit n b p d.low d.high g) ∙ append_assoc (decimal n) (b ∷ []) l

alone : (b : ℕ) → 48 ≤ b → b ≤ 57 → decimal (10 * 0 + (b - 48)) ≡ b ∷ []
alone b h k =
    let x : 10 * 0 + (b - 48) ≡ b - 48 = omega arith in
    rw x (decimal_one (b - 48) (omega arith) ∙ one_digit b h)

-- with no zero before them
plain_digits : (u : List ℕ) → 0 < length u → all_digits u ≡ true → (get_or u 0 0 ≡ 48 → length u ≡ 1) → value_from 0 u < 10 ^ 10 → decimal (value_from 0 u) ≡ u
unfolding value_from
plain_digits [] h e z l = absurd (let z : ⊥ = omega arith in z)
plain_digits (b ∷ []) h e z l = let d = first b [] e in alone b d.low d.high
plain_digits (b ∷ c ∷ m) h e z l =
    let d = first b (c ∷ m) e in
    let n : b ≡ 48 → ⊥ = λ e. omega (arith, z e) in
    let p : 0 < 10 * 0 + (b - 48) = omega (arith, d.low) in
    grow (c ∷ m) (10 * 0 + (b - 48)) p d.rest l ∙ ap (λ (t : List ℕ). t ++ (c ∷ m)) (alone b d.low d.high)

-- ════ Sizes ════

whole_text : (u : List ℕ) (v : ℕ) → whole_size u ≡ Some v → v ≤ number_limit → (get_or u 0 0 ≡ 48 → length u ≡ 1) → decimal v ≡ u
whole_text u v e h z =
    let w = is_whole u v e in
    let l : value_from 0 u < 10 ^ 10 = omega (arith, w.value) in
    ap decimal (sym w.value) ∙ plain_digits u w.some w.all z l

-- the last two bytes
ends : (u : List ℕ) → 4 ≤ length u → back u ≡ get_or u (length u - 2) 0 ∷ get_or u (length u - 1) 0 ∷ []
ends u h =
    let a : suc (length u - 2) ≡ length u - 1 = omega arith in
    let b : suc (length u - 1) ≡ length u = omega arith in
    rw (drop-cons u (length u - 2) 0 (omega arith), a, drop-cons u (length u - 1) 0 (omega arith), b, drop-length u)

-- what the digits spell, taken apart again
module _ (n x y : ℕ) (hx : x ≤ 9) (hy : y ≤ 9) where
  whole_part : (10 * (10 * n + x) + y) / 100 ≡ n
  whole_part = omega arith

  tenth : (10 * (10 * n + x) + y) / 10 % 10 ≡ x
  tenth = let e : (10 * (10 * n + x) + y) / 10 ≡ 10 * n + x = omega arith in rw e (omega arith)

  last : (10 * (10 * n + x) + y) % 10 ≡ y
  last = omega arith

spelt : (a : List ℕ) (x y : ℕ) → all_digits (x ∷ y ∷ []) ≡ true → decimal (value_from 0 a) ≡ a
    → hundredths (value_from 0 (a ++ (x ∷ y ∷ []))) ≡ a ++ (46 ∷ x ∷ y ∷ [])
unfolding hundredths value_from
spelt a x y e h =
    let d = first x (y ∷ []) e in
    let f = first y [] d.rest in
    let n = value_from 0 a in
    let p : x - 48 ≤ 9 = omega arith in
    let q : y - 48 ≤ 9 = omega arith in
    rw (← value_append 0 a (x ∷ y ∷ []), whole_part n (x - 48) (y - 48) p q, tenth n (x - 48) (y - 48) p q, last n (x - 48) (y - 48) p q)
    (rw (h, one_digit x d.low, one_digit y f.low))

knots_text : (u : List ℕ) (v : ℕ) → knots_size u ≡ Some v → v ≤ number_limit → (get_or u 0 0 ≡ 48 → length u ≡ 4) → hundredths v ≡ u
knots_text u v e h z =
    let k = is_knots u v e in
    let n : length (front u) ≡ length u - 3 = length-take-le (length u - 3) u (omega arith) in
    let f : get_or (front u) 0 0 ≡ get_or u 0 0 = get_or-take (length u - 3) u 0 0 (omega (arith, k.long)) in
    let g : value_from 0 (front u) ≤ value_from 0 (front u ++ back u) = rw value_append at (value_ge (back u) (value_from 0 (front u))) in
    let w = plain_digits (front u) (omega (arith, k.long)) k.before_point (λ d. omega (arith, z (sym f ∙ d), k.long)) (omega (arith, k.value)) in
    let t : back u ≡ get_or u (length u - 2) 0 ∷ get_or u (length u - 1) 0 ∷ [] = ends u k.long in
    ap hundredths (sym k.value ∙ ap (λ (b : List ℕ). value_from 0 (front u ++ b)) t)
    ∙ spelt (front u) (get_or u (length u - 2) 0) (get_or u (length u - 1) 0) (ap all_digits (sym t) ∙ k.behind_point) w
    ∙ ap (λ (b : List ℕ). front u ++ (46 ∷ b)) (sym t) ∙ sym (at_point u v k)

-- ════ With the sign ════

no_sign : (s : List ℕ) → (get_or s 0 0 ≡ 43 → ⊥) → minus s ≡ false → sign_length s ≡ 0
unfolding sign_length
no_sign s n p = rw (ne_eqb (get_or s 0 0) 43 n, p)

a_minus : (s : List ℕ) → minus s ≡ true → sign_length s ≡ 1
unfolding sign_length
a_minus s p = rw (eqb-true (get_or s 0 0) 45 p)

after_minus : (s : List ℕ) → minus s ≡ true → 45 ∷ drop 1 s ≡ s
after_minus [] p = let z : ◌≡◌ {A = ℕ} 0 45 = eqb-true 0 45 p in absurd (omega arith)
after_minus (b ∷ l) p = ap (λ (x : ℕ). x ∷ l) (sym (eqb-true b 45 p))

module _ (size : List ℕ → Option ℕ) (text : ℕ → List ℕ) (fewest : ℕ)
    (unsigned : (u : List ℕ) (v : ℕ) → size u ≡ Some v → v ≤ number_limit → (get_or u 0 0 ≡ 48 → length u ≡ fewest) → text v ≡ u) where
  -- by the sign m, its length n and the size z
  by_sign : (s : List ℕ) (h : ℤ) (m : Bool) (n : ℕ) (z : Option ℕ) → minus s ≡ m → sign_length s ≡ n → size (drop n s) ≡ z → with_sign m z ≡ Some h
      → nat_abs h ≤ number_limit → Plain fewest s h → signed_by text h ≡ s
  unfolding with_sign signed_by
  by_sign s h m n None p q r e k g = absurd (no_number e)
  by_sign s h false n (Some v) p q r e k g =
      let t : pos v ≡ h = same_number e in
      let o : sign_length s ≡ 0 = no_sign s g.no_plus p in
      let y : size s ≡ Some v = (rw (sym q ∙ o) at r) in
      rw (← t) (unsigned s v y (rw (← t) at k) (rw o at g.no_zero))
  by_sign s h true n (Some zero) p q r e k g = absurd (g.no_minus (sym (same_number e)) (eqb-true _ 45 p))
  by_sign s h true n (Some (suc v)) p q r e k g =
      let t : negsuc v ≡ h = same_number e in
      let o : sign_length s ≡ 1 = a_minus s p in
      let y : size (drop 1 s) ≡ Some (suc v) = (rw (sym q ∙ o) at r) in
      rw (← t, unsigned (drop 1 s) (suc v) y (rw (← t) at k) (rw o at g.no_zero)) (after_minus s p)

  signed_back : (s : List ℕ) (h : ℤ) → with_sign (minus s) (size (drop (sign_length s) s)) ≡ Some h
      → nat_abs h ≤ number_limit → Plain fewest s h → signed_by text h ≡ s
  signed_back s h e = by_sign s h (minus s) (sign_length s) (size (drop (sign_length s) s)) refl refl refl e

pub whole_back : (s : List ℕ) (h : ℤ) → whole_of s ≡ Some h → nat_abs h ≤ number_limit → Plain 1 s h → signed h ≡ s
unfolding whole_of signed
whole_back = signed_back whole_size decimal 1 whole_text

pub knots_back : (s : List ℕ) (h : ℤ) → knots_of s ≡ Some h → nat_abs h ≤ number_limit → Plain 4 s h → knots h ≡ s
unfolding knots_of knots
knots_back = signed_back knots_size hundredths 4 knots_text

pub writes_read_numbers : WritesReadNumbers
writes_read_numbers = record { of_whole = whole_back; of_knots = knots_back }
