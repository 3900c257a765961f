-- Laws of a text cut at a byte and joined again, and of a line by its fields.
use mathlib.Core.Bool.{Bool, true, false, not, cond, ◌&&◌}
use mathlib.Core.List.{List, [], ◌∷◌, ◌++◌, map, append_assoc}
use mathlib.Core.Path.{◌≡◌, refl, sym, ap, ◌∙◌, subst}
use Prim.Native.Nat.{ℕ, zero, suc, ◌-◌}
use native.Mathlib.Omega.{arith}
use borrow.Author.Tests.{eqb-true, eq-eqb, not-true}
use lib.Dec.{T, ltb, eqb}
use lib.ListN.{length, take, get_or, length-append}
use lib.Seq.{split_at, drop-length, take_at, get_or_at}
use Rattle.text.specs.Text.{absent}
use Rattle.text.proofs.TextLaws.{absent_append}
use Rattle.rules.proofs.Choices.{both_true}
use Rattle.rules.specs.Choice.{AllOf}
use Rattle.exchange.specs.Claims.{NoneQuoted}
use Rattle.csv_rows.specs.Csv.{comma, quote, cr, lf, split, longer, quoted, unquoted, ends_in_cr, fields_of}
use Rattle.export.specs.Export.{line}

-- what holds of each element, by what else does
pub all_so {ℓ} : {A : Type ℓ} {P Q : A → Type 0} (l : List A) → ((a : A) → P a → Q a) → AllOf P l → AllOf Q l
all_so [] f h = tt
all_so (a ∷ l) f h = (f a h.0, all_so l f h.1)

-- the pieces of a text with the byte b between
unfoldable pub joined : (b : ℕ) → List (List ℕ) → List ℕ
joined b [] = []
joined b (p ∷ []) = p
joined b (p ∷ next ∷ more) = p ++ (b ∷ joined b (next ∷ more))

-- a byte stands nowhere in each of them
abbrev pub AllAbsent : (b : ℕ) → List (List ℕ) → Type 0
AllAbsent b pieces = AllOf (λ p. absent b p ≡ true) pieces

-- there is one at least
pub record Some (pieces : List (List ℕ)) : Type 0 where
  pub first : List ℕ
  pub more : List (List ℕ)
  pub is : pieces ≡ first ∷ more

pub split_some : (b : ℕ) (l : List ℕ) → Some (split b l)
unfolding split longer
split_some b [] = record { first = []; more = []; is = refl }
split_some b (x ∷ l) = go (eqb x b) (split_some b l)
  where
    go : (t : Bool) → Some (split b l) → Some (cond t ([] ∷ split b l) (longer x (split b l)))
    go true s = record { first = []; more = split b l; is = refl }
    go false s = record { first = x ∷ s.first; more = s.more; is = ap (longer x) s.is }

-- ════ Cut, then joined ════

pub joined_more : (b : ℕ) (p : List ℕ) (pieces : List (List ℕ)) → Some pieces → joined b (p ∷ pieces) ≡ p ++ (b ∷ joined b pieces)
unfolding joined
joined_more b p pieces s = rw s.is

joined_longer : (b x : ℕ) (pieces : List (List ℕ)) → Some pieces → joined b (longer x pieces) ≡ x ∷ joined b pieces
unfolding joined longer
joined_longer b x pieces s = rw s.is (go s.first s.more)
  where
    go : (p : List ℕ) (more : List (List ℕ)) → joined b ((x ∷ p) ∷ more) ≡ x ∷ joined b (p ∷ more)
    go p [] = refl
    go p (next ∷ more) = refl

pub joined_split : (b : ℕ) (l : List ℕ) → joined b (split b l) ≡ l
unfolding joined split
joined_split b [] = refl
joined_split b (x ∷ l) = go (eqb x b) refl (joined_split b l)
  where
    go : (t : Bool) → eqb x b ≡ t → joined b (split b l) ≡ l → joined b (cond t ([] ∷ split b l) (longer x (split b l))) ≡ x ∷ l
    go true e h = joined_more b [] (split b l) (split_some b l) ∙ rw (h, eqb-true x b e)
    go false e h = joined_longer b x (split b l) (split_some b l) ∙ ap (λ t. x ∷ t) h

-- ════ Joined, then cut ════

module _ (b : ℕ) where
  pub split_first : (a rest : List ℕ) → absent b a ≡ true → split b (a ++ (b ∷ rest)) ≡ a ∷ split b rest
  unfolding split longer absent
  split_first [] rest h = rw (eq-eqb b b refl)
  split_first (x ∷ a) rest h =
      let p = both_true (not (eqb x b)) (absent b a) h in
      rw (not-true (eqb x b) p.0) (ap (longer x) (split_first a rest p.1))

  split_last : (a : List ℕ) → absent b a ≡ true → split b a ≡ a ∷ []
  unfolding split longer absent
  split_last [] h = refl
  split_last (x ∷ a) h =
      let p = both_true (not (eqb x b)) (absent b a) h in
      rw (not-true (eqb x b) p.0) (ap (longer x) (split_last a p.1))

  pieces_again : (p : List ℕ) (more : List (List ℕ)) → AllAbsent b (p ∷ more) → split b (joined b (p ∷ more)) ≡ p ∷ more
  unfolding joined
  pieces_again p [] h = split_last p h.0
  pieces_again p (next ∷ more) h = split_first p (joined b (next ∷ more)) h.0 ∙ ap (λ t. p ∷ t) (pieces_again next more h.1)

  pub split_joined : (pieces : List (List ℕ)) → Some pieces → AllAbsent b pieces → split b (joined b pieces) ≡ pieces
  split_joined [] s h = let i = s.is in let z : ◌≡◌ {A = ℕ} 0 1 = cc in absurd (omega arith)
  split_joined (p ∷ more) s h = pieces_again p more h

-- ════ Bytes that stand nowhere ════

module _ (c : ℕ) where
  absent_next : (x : ℕ) (l : List ℕ) → absent c (x ∷ l) ≡ true → (eqb x c ≡ false) × (absent c l ≡ true)
  unfolding absent
  absent_next x l h = let p = both_true (not (eqb x c)) (absent c l) h in (not-true (eqb x c) p.0, p.1)

  absent_add : (x : ℕ) (l : List ℕ) → eqb x c ≡ false → absent c l ≡ true → absent c (x ∷ l) ≡ true
  unfolding absent
  absent_add x l e h = rw (e, h)

  absent_none : absent c [] ≡ true
  unfolding absent
  absent_none = refl

  -- of a part of the text
  absent_take : (n : ℕ) (l : List ℕ) → absent c l ≡ true → absent c (take n l) ≡ true
  absent_take zero l h = absent_none
  absent_take (suc n) [] h = absent_none
  absent_take (suc n) (x ∷ l) h = let p = absent_next x l h in absent_add x (take n l) p.0 (absent_take n l p.1)

  pub absent_split : (b : ℕ) (l : List ℕ) → absent c l ≡ true → AllAbsent c (split b l)
  unfolding split longer
  absent_split b [] h = (absent_none, tt)
  absent_split b (x ∷ l) h = let p = absent_next x l h in go (eqb x b) (split b l) p.0 (absent_split b l p.1)
    where
      go : (t : Bool) (m : List (List ℕ)) → eqb x c ≡ false → AllAbsent c m → AllAbsent c (cond t ([] ∷ m) (longer x m))
      go true m e s = (absent_none, s)
      go false [] e s = tt
      go false (first ∷ more) e s = (absent_add x first e s.0, s.1)

  -- of pieces, and of all of them joined
  pub absent_joined : (b : ℕ) (pieces : List (List ℕ)) → eqb b c ≡ false → AllAbsent c pieces → absent c (joined b pieces) ≡ true
  unfolding joined
  absent_joined b [] e h = absent_none
  absent_joined b (p ∷ []) e h = h.0
  absent_joined b (p ∷ next ∷ more) e h =
      absent_append c p (b ∷ joined b (next ∷ more))
      ∙ rw (h.0, absent_add b (joined b (next ∷ more)) e (absent_joined b (next ∷ more) e h.1))

-- ════ Quotes ════

pub not_quoted : (f : List ℕ) → absent quote f ≡ true → quoted f ≡ false
unfolding quoted
not_quoted [] h = refl
not_quoted (x ∷ l) h = rw (absent_next quote x l h).0 (none (ltb 1 (suc (length l))))
  where
    none : (t : Bool) → (t && false) ≡ false
    none true = refl
    none false = refl

unquoted_same : (fields : List (List ℕ)) → AllOf (λ f. quoted f ≡ false) fields → map unquoted fields ≡ fields
unfolding unquoted
unquoted_same [] h = refl
unquoted_same (f ∷ fields) h = rw (h.0, unquoted_same fields h.1)

pub none_quoted : (text : List ℕ) → absent quote text ≡ true → NoneQuoted text
unfolding NoneQuoted
none_quoted text h =
    all_so (split lf text)
    (λ line a. all_so (split comma (take (length line - 1) line)) not_quoted (absent_split quote comma (take (length line - 1) line) (absent_take quote (length line - 1) line a)))
    (absent_split quote lf text h)

-- ════ A line by its fields ════

pub line_joined : (fields : List (List ℕ)) → line fields ≡ joined comma fields ++ (cr ∷ lf ∷ [])
unfolding line joined
line_joined [] = refl
line_joined (f ∷ []) = refl
line_joined (f ∷ next ∷ more) =
    ap (λ t. f ++ (comma ∷ t)) (line_joined (next ∷ more)) ∙ sym (append_assoc f (comma ∷ joined comma (next ∷ more)) (cr ∷ lf ∷ []))

-- what stands before a line feed and is a line ends with a carriage return
ended : (l : List ℕ) → ends_in_cr l ≡ true → l ≡ take (length l - 1) l ++ (cr ∷ [])
unfolding ends_in_cr
ended [] e = absurd (subst T (sym e) tt)
ended (x ∷ l) e =
    let n : suc (length l) - 1 ≡ length l = omega arith in
    let r : get_or (x ∷ l) (length l) 0 ≡ cr = eqb-true _ cr (rw n at e) in
    split_at (x ∷ l) (length l) 0 (omega arith) ∙ rw (n, r, drop-length (x ∷ l))

-- a line that has fields, none of them quoted, is what they are written as
pub line_back : (l : List ℕ) → AllOf (λ f. quoted f ≡ false) (split comma (take (length l - 1) l)) → Some (fields_of l) → line (fields_of l) ≡ l ++ (lf ∷ [])
unfolding fields_of
line_back l h = go (ends_in_cr l) refl
  where
    body : List ℕ
    body = take (length l - 1) l

    go : (t : Bool) → ends_in_cr l ≡ t → Some (cond t (map unquoted (split comma body)) []) → line (cond t (map unquoted (split comma body)) []) ≡ l ++ (lf ∷ [])
    go false r s = let i = s.is in let z : ◌≡◌ {A = ℕ} 0 1 = cc in absurd (omega arith)
    go true r s =
        line_joined (map unquoted (split comma body))
        ∙ ap (λ m. joined comma m ++ (cr ∷ lf ∷ [])) (unquoted_same (split comma body) h)
        ∙ ap (λ t. t ++ (cr ∷ lf ∷ [])) (joined_split comma body)
        ∙ sym (append_assoc body (cr ∷ []) (lf ∷ []))
        ∙ ap (λ t. t ++ (lf ∷ [])) (sym (ended l r))

-- a field as it is written: no comma, quote or line feed in it
pub record Field (f : List ℕ) : Type 0 where
  pub no_comma : absent comma f ≡ true
  pub no_quote : absent quote f ≡ true
  pub no_feed : absent lf f ≡ true

-- what fields are written as, up to the line feed
unfoldable pub piece_of : List (List ℕ) → List ℕ
piece_of fields = joined comma fields ++ (cr ∷ [])

module _ (fields : List (List ℕ)) (some : Some fields) (h : AllOf Field fields) where
  -- its fields are those
  pub fields_again : fields_of (piece_of fields) ≡ fields
  unfolding fields_of ends_in_cr piece_of
  fields_again =
      let body = joined comma fields in
      let n : length (body ++ (cr ∷ [])) - 1 ≡ length body = omega (arith, length-append body (cr ∷ [])) in
      rw (n, get_or_at body cr [] 0 (length body) refl, take_at body (cr ∷ []) (length body) refl, split_joined comma fields some (all_so fields (λ f k. k.no_comma) h))
      (unquoted_same fields (all_so fields (λ f k. not_quoted f k.no_quote) h))

  pub split_line : (rest : List ℕ) → split lf (line fields ++ rest) ≡ piece_of fields ∷ split lf rest
  unfolding piece_of absent
  split_line rest =
      let body = joined comma fields in
      let piece = body ++ (cr ∷ []) in
      let a : absent lf piece ≡ true =
      absent_append lf body (cr ∷ []) ∙ rw (absent_joined lf comma fields refl (all_so fields (λ f k. k.no_feed) h)) in
      ap (λ t. split lf (t ++ rest)) (line_joined fields ∙ sym (append_assoc body (cr ∷ []) (lf ∷ [])))
      ∙ ap (split lf) (append_assoc piece (lf ∷ []) rest) ∙ split_first lf piece rest a

  pub line_no_quote : absent quote (line fields) ≡ true
  unfolding absent
  line_no_quote =
      ap (absent quote) (line_joined fields) ∙ absent_append quote (joined comma fields) (cr ∷ lf ∷ [])
      ∙ rw (absent_joined quote comma fields refl (all_so fields (λ f k. k.no_quote) h))
