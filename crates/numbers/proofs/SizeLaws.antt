-- Laws of the sizes and of signs, one for each way that the code returns; and that the size may be cut before its sign is put to it.
use mathlib.Core.Bool.{Bool, true, false, cond, ◌&&◌}
use mathlib.Core.List.{List, ◌∷◌, ◌++◌}
use mathlib.Core.Path.{◌≡◌, refl, sym, ap, ◌∙◌}
use Prim.Native.Nat.{ℕ, suc, ◌-◌, ◌≤◌, ◌<◌, min}
use native.Mathlib.Omega.{arith}
use borrow.Author.Tests.{lt-ltb, le-ltb, eq-eqb, ne_eqb, ltb-true, ltb-false, eqb-true}
use lib.Dec.{ltb, eqb}
use lib.IntN.{ℤ, pos, negsuc, neg_ℤ, nat_abs}
use lib.ListN.{length, take, drop, get_or, take-append-drop}
use lib.Seq.{drop-cons}
use Rattle.std.proofs.Common.{Option, Some, None}
use Rattle.rounding.proofs.CutLaws.{cut_small, cut_low, cut_high}
use Rattle.rounding.proofs.Difference.{nat, neg_d, le_d}
use Rattle.rounding.proofs.Fits.{size_neg}
use Rattle.rounding.specs.Cut.{cut}
use Rattle.numbers.specs.Number.{all_digits, value_from, digits_from, whole_size, two_decimals, knots_size, minus, sign_length, with_sign, number_limit, cut_number, cut_size}
use Rattle.numbers.proofs.DigitLaws.{cut_digits, value_append}

-- a text has a size or none, and no two; so it is with numbers
no_size : {v : ℕ} → None ≡ Some v → ⊥
no_size e = let z : ◌≡◌ {A = ℕ} 0 1 = cc in omega arith

same_size : {v w : ℕ} → Some v ≡ Some w → v ≡ w
same_size e = cc

pub no_number : {h : ℤ} → None ≡ Some h → ⊥
no_number e = let z : ◌≡◌ {A = ℕ} 0 1 = cc in omega arith

pub same_number : {h k : ℤ} → Some h ≡ Some k → h ≡ k
same_number e = cc

-- ════ Whole numbers ════

pub whole_none : (u : List ℕ) → length u ≡ 0 → None ≡ cut_size (whole_size u)
unfolding whole_size cut_size
whole_none u h = rw h

pub whole_some : (u : List ℕ) → (length u ≡ 0 → ⊥) → digits_from 0 u ≡ whole_size u
unfolding whole_size digits_from
whole_some u h = rw (lt-ltb 0 (length u) (omega arith))

-- ════ Knots ════

-- what stands before the point, and behind it
abbrev pub front : List ℕ → List ℕ
front u = take (length u - 3) u

abbrev pub back : List ℕ → List ℕ
back u = drop (length u - 2) u

module _ (u : List ℕ) where
  pub knots_short : length u < 4 → None ≡ cut_size (knots_size u)
  unfolding knots_size two_decimals cut_size
  knots_short h = rw (le-ltb 3 (length u) (omega arith))

  -- by the four tests
  tests : (a b c d : Bool) → ltb 3 (length u) ≡ a → all_digits (front u) ≡ b → eqb (get_or u (length u - 3) 0) 46 ≡ c → all_digits (back u) ≡ d
      → knots_size u ≡ cond (a && b && c && d) (Some (value_from 0 (front u ++ back u))) None
  unfolding knots_size two_decimals
  tests a b c d p q r s = rw (p, q, r, s)

  pub no_point : (get_or u (length u - 3) 0 ≡ 46 → ⊥) → None ≡ cut_size (knots_size u)
  unfolding cut_size
  no_point h =
      sym
      (ap cut_size (tests (ltb 3 (length u)) (all_digits (front u)) false (all_digits (back u)) refl refl (ne_eqb _ 46 h) refl)
      ∙ none (ltb 3 (length u)) (all_digits (front u)))
    where
      none : (a b : Bool) → cut_size (cond (a && b && false && all_digits (back u)) (Some (value_from 0 (front u ++ back u))) None) ≡ None
      none true true = refl
      none true false = refl
      none false b = refl

  module _ (h : 4 ≤ length u) (p : get_or u (length u - 3) 0 ≡ 46) where
    -- the digits before the point, and those behind it after them
    pub parts : (b d : Bool) → all_digits (front u) ≡ b → all_digits (back u) ≡ d
        → knots_size u ≡ cond (b && d) (Some (value_from (value_from 0 (front u)) (back u))) None
    parts true true q r = tests true true true true (lt-ltb 3 (length u) h) q (eq-eqb _ 46 p) r ∙ ap Some (sym (value_append 0 (front u) (back u)))
    parts true false q r = tests true true true false (lt-ltb 3 (length u) h) q (eq-eqb _ 46 p) r
    parts false d q r = tests true false true d (lt-ltb 3 (length u) h) q (eq-eqb _ 46 p) r

    pub front_bad : None ≡ cut_size (digits_from 0 (front u)) → None ≡ cut_size (knots_size u)
    unfolding digits_from cut_size
    front_bad e = go (all_digits (front u)) refl e
      where
        go : (b : Bool) → all_digits (front u) ≡ b → None ≡ cut_size (cond b (Some (value_from 0 (front u))) None) → None ≡ cut_size (knots_size u)
        go true q e = absurd (no_size e)
        go false q e = sym (ap cut_size (parts false (all_digits (back u)) q refl))

    pub knots_is : (v : ℕ) → Some v ≡ cut_size (digits_from 0 (front u)) → cut_size (digits_from v (back u)) ≡ cut_size (knots_size u)
    unfolding digits_from cut_size
    knots_is v e = go (all_digits (front u)) refl e
      where
        go : (b : Bool) → all_digits (front u) ≡ b → Some v ≡ cut_size (cond b (Some (value_from 0 (front u))) None)
            → cut_size (digits_from v (back u)) ≡ cut_size (knots_size u)
        go true q e =
            let w : v ≡ min (value_from 0 (front u)) number_limit = same_size e in
            rw w (cut_digits (value_from 0 (front u)) (back u) ∙ ap cut_size (sym (parts true (all_digits (back u)) q refl)))
        go false q e = absurd (no_size (sym e))

-- ════ What was tested of a text that has a size ════

pub record Whole (u : List ℕ) (v : ℕ) : Type 0 where
  pub some : 0 < length u
  pub all : all_digits u ≡ true
  pub value : value_from 0 u ≡ v

pub is_whole : (u : List ℕ) (v : ℕ) → whole_size u ≡ Some v → Whole u v
unfolding whole_size
is_whole u v e = go (ltb 0 (length u)) (all_digits u) refl refl e
  where
    go : (a b : Bool) → ltb 0 (length u) ≡ a → all_digits u ≡ b → cond (a && b) (Some (value_from 0 u)) None ≡ Some v → Whole u v
    go true true p q e = record { some = ltb-true 0 (length u) p; all = q; value = same_size e }
    go true false p q e = absurd (no_size e)
    go false b p q e = absurd (no_size e)

pub record Knots (u : List ℕ) (v : ℕ) : Type 0 where
  pub long : 4 ≤ length u
  pub before_point : all_digits (front u) ≡ true
  pub point : get_or u (length u - 3) 0 ≡ 46
  pub behind_point : all_digits (back u) ≡ true
  pub value : value_from 0 (front u ++ back u) ≡ v

pub is_knots : (u : List ℕ) (v : ℕ) → knots_size u ≡ Some v → Knots u v
unfolding knots_size two_decimals
is_knots u v e = go (ltb 3 (length u)) (all_digits (front u)) (eqb (get_or u (length u - 3) 0) 46) (all_digits (back u)) refl refl refl refl e
  where
    go : (a b c d : Bool) → ltb 3 (length u) ≡ a → all_digits (front u) ≡ b → eqb (get_or u (length u - 3) 0) 46 ≡ c → all_digits (back u) ≡ d
        → cond (a && b && c && d) (Some (value_from 0 (front u ++ back u))) None ≡ Some v → Knots u v
    go true true true true p q r s e =
        record {
          long = ltb-true 3 (length u) p;
          before_point = q;
          point = eqb-true (get_or u (length u - 3) 0) 46 r;
          behind_point = s;
          value = same_size e;
        }
    go true true true false p q r s e = absurd (no_size e)
    go true true false d p q r s e = absurd (no_size e)
    go true false c d p q r s e = absurd (no_size e)
    go false b c d p q r s e = absurd (no_size e)

-- a text is what stands before its point, the point, and what stands behind
pub at_point : (u : List ℕ) (v : ℕ) → Knots u v → u ≡ front u ++ (46 ∷ back u)
at_point u v k =
    let a : suc (length u - 3) ≡ length u - 2 = omega (arith, k.long) in
    sym (take-append-drop (length u - 3) u)
    ∙ ap (λ (t : List ℕ). front u ++ t) (rw (drop-cons u (length u - 3) 0 (omega (arith, k.long)), a, k.point))

-- ════ What is cut ════

pub size-le : (v : ℕ) (z : Option ℕ) → Some v ≡ cut_size z → v ≤ number_limit
unfolding cut_size
size-le v (Some n) e = let w : v ≡ min n number_limit = same_size e in omega arith
size-le v None e = absurd (no_size (sym e))

-- a size with its sign: within the limit it stays, beyond it the limit stands with that sign
abbrev sized : Bool → ℕ → ℤ
sized negative n = cond negative (neg_ℤ (pos n)) (pos n)

within : (negative : Bool) (n : ℕ) → n ≤ number_limit → cut number_limit (sized negative n) ≡ sized negative n
within true n h = cut_small number_limit (neg_ℤ (pos n)) (rw size_neg h)
within false n h = cut_small number_limit (pos n) h

beyond : (negative : Bool) (n : ℕ) → number_limit ≤ n → cut number_limit (sized negative n) ≡ sized negative number_limit
beyond true n h = cut_low number_limit (neg_ℤ (pos n)) (le_d (neg_d (nat n)) (neg_d (nat number_limit)) (omega arith))
beyond false n h = cut_high number_limit (pos n) (le_d (nat number_limit) (nat n) (omega arith))

cut_sized : (negative : Bool) (n : ℕ) → sized negative (min n number_limit) ≡ cut number_limit (sized negative n)
cut_sized negative n = go (ltb n number_limit) refl
  where
    go : (t : Bool) → ltb n number_limit ≡ t → sized negative (min n number_limit) ≡ cut number_limit (sized negative n)
    go true e =
        let h = ltb-true n number_limit e in
        let m : min n number_limit ≡ n = omega arith in
        rw m (sym (within negative n (omega arith)))
    go false e =
        let h = ltb-false n number_limit e in
        let m : min n number_limit ≡ number_limit = omega arith in
        rw m (sym (beyond negative n h))

pub sign_cut : (negative : Bool) (z : Option ℕ) → with_sign negative (cut_size z) ≡ cut_number (with_sign negative z)
unfolding with_sign cut_size cut_number
sign_cut negative (Some n) = ap Some (cut_sized negative n)
sign_cut negative None = refl

-- what is cut is as large as the limit
cut_large : (n : ℤ) → number_limit < nat_abs n → nat_abs (cut number_limit n) ≡ number_limit
cut_large (pos n) h = rw (beyond false n (omega arith))
cut_large (negsuc n) h = rw (beyond true (suc n) (omega arith))

-- so a smaller number was not cut
pub uncut : (x : Option ℤ) (h : ℤ) → cut_number x ≡ Some h → nat_abs h < number_limit → x ≡ Some h
unfolding cut_number
uncut None h e k = e
uncut (Some n) h e k = go (ltb number_limit (nat_abs n)) refl
  where
    go : (t : Bool) → ltb number_limit (nat_abs n) ≡ t → Some n ≡ Some h
    go true f =
        let z : nat_abs h ≡ number_limit = ap nat_abs (sym (same_number e)) ∙ cut_large n (ltb-true number_limit (nat_abs n) f) in
        absurd (omega arith)
    go false f = ap Some (sym (cut_small number_limit n (ltb-false number_limit (nat_abs n) f))) ∙ e

-- ════ With the sign ════

-- of either kind of size
pub joined : (size : List ℕ → Option ℕ) (s u : List ℕ) (z : Option ℕ) → z ≡ cut_size (size u) → u ≡ drop (sign_length s) s
    → with_sign (minus s) z ≡ cut_number (with_sign (minus s) (size (drop (sign_length s) s)))
joined size s u z p q = rw (p, q) (sign_cut (minus s) (size (drop (sign_length s) s)))
