-- Laws of a line's numbers and their texts: what was read is written back where nothing was needless, and what is written is read again.
use mathlib.Core.Bool.{Bool, true, false}
use mathlib.Core.List.{List, [], ◌∷◌}
use mathlib.Core.Path.{◌≡◌, refl, sym, ap, ◌∙◌, subst}
use Prim.Native.Nat.{ℕ, zero, suc, ◌+◌, ◌≤◌}
use native.Mathlib.Omega.{arith}
use lib.IntN.{ℤ, pos, nat_abs}
use lib.ListN.{length, drop, get_or, drop_of_length-le}
use lib.Seq.{drop-cons}
use Rattle.std.proofs.Common.{Option, Some, None}
use Rattle.numbers.specs.Number.{number_limit}
use Rattle.numbers.specs.Plain.{Plain}
use Rattle.numbers.proofs.AgainLaws.{whole_again, knots_again, plain_signed, plain_knots}
use Rattle.numbers.proofs.BackLaws.{whole_back, knots_back}
use Rattle.text.proofs.TextLaws.{absent_signed, absent_knots}
use Rattle.rules.specs.Choice.{AllOf}
use Rattle.rules.specs.declared.Sample.{Sample}
use Rattle.exchange.specs.Claims.{fewest, PlainFields}
use Rattle.csv_rows.specs.Csv.{Numbers, speeds, comma, quote, lf, number_in, and_then, numbers_of, sample_from, numbers_in}
use Rattle.export.specs.Export.{number_text, field_texts}
use Rattle.exchange.proofs.JoinLaws.{Field}
use Rattle.exchange.proofs.JoinLaws.{Some as SomePieces}

-- each number is one that its text gives back
abbrev pub Limited : List ℤ → Type 0
Limited n = AllOf (λ x. nat_abs x ≤ number_limit) n

-- ════ One number ════

number_back : (s : Bool) (f : List ℕ) (x : ℤ) → number_in s f ≡ Some x → nat_abs x ≤ number_limit → Plain (fewest s) f x → number_text s x ≡ f
unfolding number_in number_text
number_back true f x e h p = knots_back f x e h p
number_back false f x e h p = whole_back f x e h p

number_again : (s : Bool) (x : ℤ) → nat_abs x ≤ number_limit → number_in s (number_text s x) ≡ Some x
unfolding number_in number_text
number_again true x h = knots_again x h
number_again false x h = whole_again x h

number_plain : (s : Bool) (x : ℤ) → nat_abs x ≤ number_limit → Plain (fewest s) (number_text s x) x
unfolding number_text
number_plain true x h = plain_knots x h
number_plain false x h = plain_signed x h

number_field : (s : Bool) (x : ℤ) → Field (number_text s x)
unfolding number_text
number_field true x = record { no_comma = absent_knots comma refl x; no_quote = absent_knots quote refl x; no_feed = absent_knots lf refl x }
number_field false x = record { no_comma = absent_signed comma refl x; no_quote = absent_signed quote refl x; no_feed = absent_signed lf refl x }

same_number : {x y : ℤ} → Some x ≡ Some y → x ≡ y
same_number e = cc

-- ════ A line's ════

no_numbers : {n : List ℤ} → Numbers.malformed ≡ Numbers.are n → ⊥
no_numbers e = let z : ◌≡◌ {A = ℕ} 0 1 = cc in omega arith

-- the numbers of fields: the first field's, and those of the later ones
record Then (s : Bool) (cols : List Bool) (f : List ℕ) (fields : List (List ℕ)) (n : List ℤ) : Type 0 where
  first : ℤ
  later : List ℤ
  is : n ≡ first ∷ later
  of_first : number_in s f ≡ Some first
  of_later : numbers_of cols fields ≡ Numbers.are later

then : (s : Bool) (cols : List Bool) (f : List ℕ) (fields : List (List ℕ)) (n : List ℤ) → numbers_of (s ∷ cols) (f ∷ fields) ≡ Numbers.are n → Then s cols f fields n
unfolding numbers_of and_then
then s cols f fields n = go (number_in s f) (numbers_of cols fields) refl refl
  where
    go : (x : Option ℤ) (l : Numbers) → number_in s f ≡ x → numbers_of cols fields ≡ l → and_then x l ≡ Numbers.are n → Then s cols f fields n
    go None l p q e = absurd (no_numbers e)
    go (Some x) Numbers.malformed p q e = absurd (no_numbers e)
    go (Some x) (Numbers.are later) p q e = record { first = x; later = later; is = cc; of_first = p; of_later = q }

pub numbers_length : (cols : List Bool) (fields : List (List ℕ)) (n : List ℤ) → numbers_of cols fields ≡ Numbers.are n → length n ≡ length cols
unfolding numbers_of
numbers_length [] [] n e = let i : n ≡ [] = cc in ap length i
numbers_length [] (f ∷ fields) n e = absurd (no_numbers e)
numbers_length (s ∷ cols) [] n e = absurd (no_numbers e)
numbers_length (s ∷ cols) (f ∷ fields) n e =
    let t = then s cols f fields n e in
    ap length t.is ∙ ap suc (numbers_length cols fields t.later t.of_later)

pub texts_back : (cols : List Bool) (fields : List (List ℕ)) (n : List ℤ) → numbers_of cols fields ≡ Numbers.are n → Limited n → PlainFields cols fields
    → field_texts cols n ≡ fields
unfolding numbers_of field_texts PlainFields
texts_back [] [] n e h p = refl
texts_back [] (f ∷ fields) n e h p = absurd (no_numbers e)
texts_back (s ∷ cols) [] n e h p = absurd (no_numbers e)
texts_back (s ∷ cols) (f ∷ fields) n e h p =
    let t = then s cols f fields n e in
    let g = subst Limited t.is h in
    rw (t.is, number_back s f t.first t.of_first g.0 (p.0 t.first t.of_first), texts_back cols fields t.later t.of_later g.1 p.1)

pub texts_again : (cols : List Bool) (n : List ℤ) → length n ≡ length cols → Limited n → numbers_of cols (field_texts cols n) ≡ Numbers.are n
unfolding numbers_of field_texts and_then
texts_again [] [] l h = refl
texts_again [] (x ∷ n) l h = absurd (let z : ⊥ = omega arith in z)
texts_again (s ∷ cols) [] l h = absurd (let z : ⊥ = omega arith in z)
texts_again (s ∷ cols) (x ∷ n) l h = rw (number_again s x h.0, texts_again cols n (omega arith) h.1)

pub texts_plain : (cols : List Bool) (n : List ℤ) → Limited n → PlainFields cols (field_texts cols n)
unfolding PlainFields field_texts
texts_plain [] n h = tt
texts_plain (s ∷ cols) [] h = tt
texts_plain (s ∷ cols) (x ∷ n) h =
    ((λ y e. subst (Plain (fewest s) (number_text s x)) (same_number (sym (number_again s x h.0) ∙ e)) (number_plain s x h.0)), texts_plain cols n h.1)

texts_fields : (cols : List Bool) (n : List ℤ) → AllOf Field (field_texts cols n)
unfolding field_texts
texts_fields [] n = tt
texts_fields (s ∷ cols) [] = tt
texts_fields (s ∷ cols) (x ∷ n) = (number_field s x, texts_fields cols n)

-- ════ A sample's ════

-- k numbers from the i-th on
unfoldable spelt : ℕ → ℕ → List ℤ → List ℤ
spelt zero i l = []
spelt (suc k) i l = get_or l i (pos 0) ∷ spelt k (suc i) l

all_spelt : (k i : ℕ) (l : List ℤ) → i + k ≡ length l → drop i l ≡ spelt k i l
unfolding spelt
all_spelt zero i l e = drop_of_length-le l {i = i} (omega arith)
all_spelt (suc k) i l e = drop-cons l i (pos 0) (omega arith) ∙ ap (λ t. get_or l i (pos 0) ∷ t) (all_spelt k (suc i) l (omega arith))

-- ten numbers are those of their sample
ten : (n : List ℤ) → length n ≡ 10 → numbers_in (sample_from n) ≡ n
unfolding numbers_in sample_from spelt
ten n h = sym (all_spelt 10 0 n (sym h))

pub numbers_same : (fields : List (List ℕ)) (n : List ℤ) → numbers_of speeds fields ≡ Numbers.are n → numbers_in (sample_from n) ≡ n
unfolding speeds
numbers_same fields n e = ten n (numbers_length speeds fields n e)

-- the texts of its ten numbers
unfoldable pub sample_texts : Sample → List (List ℕ)
sample_texts s = field_texts speeds (numbers_in s)

pub some_texts : (s : Sample) → SomePieces (sample_texts s)
unfolding sample_texts field_texts speeds numbers_in
some_texts s = record { first = _; more = _; is = refl }

pub all_fields : (s : Sample) → AllOf Field (sample_texts s)
unfolding sample_texts
all_fields s = texts_fields speeds (numbers_in s)

pub sample_again : (s : Sample) → Limited (numbers_in s) → numbers_of speeds (sample_texts s) ≡ Numbers.are (numbers_in s)
unfolding sample_texts speeds numbers_in
sample_again s h = texts_again speeds (numbers_in s) refl h

pub sample_plain : (s : Sample) → Limited (numbers_in s) → PlainFields speeds (sample_texts s)
unfolding sample_texts
sample_plain s h = texts_plain speeds (numbers_in s) h
