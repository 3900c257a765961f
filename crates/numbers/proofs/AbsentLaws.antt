-- The bytes of a number's text: digits, a sign, a point, and no others.
use mathlib.Core.Bool.{Bool, true, false, cond, ◌||◌}
use mathlib.Core.List.{List, [], ◌∷◌, ◌++◌, append-nil}
use mathlib.Core.Path.{◌≡◌, refl, sym, ap, ◌∙◌, subst}
use Prim.Native.Nat.{ℕ}
use borrow.Author.Tests.{le-leb, ne_eqb, eqb-true}
use lib.Dec.{T, eqb}
use lib.IntN.{ℤ}
use lib.ListN.{drop}
use Rattle.std.proofs.Common.{Option, Some, None}
use Rattle.numbers.specs.Number.{all_digits, whole_size, knots_size, minus, sign_length, with_sign, whole_of, knots_of, number_byte}
use Rattle.text.specs.Text.{absent}
use Rattle.numbers.proofs.DigitLaws.{first}
use Rattle.numbers.proofs.SizeLaws.{front, back, is_whole, is_knots, at_point, no_number}

module _ (b : ℕ) (o : number_byte b ≡ false) where
  other : (x : ℕ) → number_byte x ≡ true → eqb x b ≡ false
  other x h = ne_eqb x b (λ e. subst T (sym h ∙ ap number_byte e ∙ o) tt)

  next : (x : ℕ) (l : List ℕ) → number_byte x ≡ true → absent b l ≡ true → absent b (x ∷ l) ≡ true
  unfolding absent
  next x l h k = rw (other x h, k)

  of_digits : (l r : List ℕ) → all_digits l ≡ true → absent b r ≡ true → absent b (l ++ r) ≡ true
  of_digits [] r e k = k
  of_digits (x ∷ l) r e k =
      let d = first x l e in
      next x (l ++ r) (rw (le-leb 48 x d.low, le-leb x 57 d.high)) (of_digits l r d.rest k)

  of_whole : (u : List ℕ) (v : ℕ) → whole_size u ≡ Some v → absent b u ≡ true
  unfolding absent
  of_whole u v e = ap (absent b) (sym (append-nil u)) ∙ of_digits u [] (is_whole u v e).all refl

  of_knots : (u : List ℕ) (v : ℕ) → knots_size u ≡ Some v → absent b u ≡ true
  unfolding absent
  of_knots u v e =
      let k = is_knots u v e in
      let r : absent b (back u) ≡ true = ap (absent b) (sym (append-nil (back u))) ∙ of_digits (back u) [] k.behind_point refl in
      ap (absent b) (at_point u v k) ∙ of_digits (front u) (46 ∷ back u) k.before_point (next 46 (back u) refl r)

  module _ (size : List ℕ → Option ℕ) (of_size : (u : List ℕ) (v : ℕ) → size u ≡ Some v → absent b u ≡ true) where
    unsigned : (u : List ℕ) (h : ℤ) (m : Bool) → with_sign m (size u) ≡ Some h → absent b u ≡ true
    unfolding with_sign
    unsigned u h m e = go (size u) refl e
      where
        go : (z : Option ℕ) → size u ≡ z → with_sign m z ≡ Some h → absent b u ≡ true
        go (Some v) p e = of_size u v p
        go None p e = absurd (no_number e)

    of_signed : (s : List ℕ) (h : ℤ) → with_sign (minus s) (size (drop (sign_length s) s)) ≡ Some h → absent b s ≡ true
    unfolding sign_length absent
    of_signed [] h e = refl
    of_signed (x ∷ l) h e = go (eqb x 43) (eqb x 45) refl refl e
      where
        go : (p q : Bool) → eqb x 43 ≡ p → eqb x 45 ≡ q → with_sign q (size (drop (cond (p || q) 1 0) (x ∷ l))) ≡ Some h → absent b (x ∷ l) ≡ true
        go true q f g e = next x l (ap number_byte (eqb-true x 43 f)) (unsigned l h q e)
        go false true f g e = next x l (ap number_byte (eqb-true x 45 g)) (unsigned l h true e)
        go false false f g e = unsigned (x ∷ l) h false e

pub whole_absent : (b : ℕ) → number_byte b ≡ false → (s : List ℕ) (h : ℤ) → whole_of s ≡ Some h → absent b s ≡ true
unfolding whole_of
whole_absent b o = of_signed b o whole_size (of_whole b o)

pub knots_absent : (b : ℕ) → number_byte b ≡ false → (s : List ℕ) (h : ℤ) → knots_of s ≡ Some h → absent b s ≡ true
unfolding knots_of
knots_absent b o = of_signed b o knots_size (of_knots b o)
