-- A number that is written is read as itself, up to a million either way, and nothing in its text is needless.
use mathlib.Core.Bool.{true, false}
use mathlib.Core.List.{List, [], ◌∷◌, ◌++◌}
use mathlib.Core.Path.{◌≡◌, refl, sym, ap, ◌∙◌}
use Prim.Native.Nat.{ℕ, suc, ◌+◌, ◌-◌, ◌*◌, ◌/◌, ◌%◌, ◌≤◌, ◌<◌}
use native.Mathlib.Nat.{div-div-eq-div-mul}
use native.Mathlib.Omega.{arith}
use borrow.Author.Tests.{ne_eqb}
use lib.Dec.{eqb}
use lib.IntN.{ℤ, pos, negsuc, nat_abs}
use lib.ListN.{length, drop, get_or, length-append, get_or-append}
use lib.Seq.{take_at, drop-append-add, get_or-append-add}
use Rattle.std.proofs.Common.{Option, Some}
use Rattle.numbers.specs.Claims.{ReadsWrittenNumbers}
use Rattle.numbers.specs.Number.{all_digits, value_from, digits_from, whole_size, knots_size, minus, sign_length, with_sign, whole_of, knots_of, number_limit}
use Rattle.numbers.specs.Plain.{Plain}
use Rattle.text.specs.Text.{digit, digits, decimal, hundredths, signed_by, signed, knots}
use Rattle.numbers.proofs.DigitLaws.{first, all_append, is_digit, Spells, decimal_spells}
use Rattle.numbers.proofs.SizeLaws.{front, back, whole_some, parts}

-- what is proved of the text of a size: its size is read again, it starts with a digit, and with a zero only where it has to
record Again (size : List ℕ → Option ℕ) (fewest n : ℕ) (text : List ℕ) : Type 0 where
  pub again : size text ≡ Some n
  pub starts : 48 ≤ get_or text 0 0
  pub leads : get_or text 0 0 ≡ 48 → length text ≡ fewest

-- digits that spell a number start with one
starts_so : (a : List ℕ) (n : ℕ) → Spells a n → 48 ≤ get_or a 0 0
starts_so [] n d = absurd (let z : ⊥ = omega (arith, d.some) in z)
starts_so (x ∷ a) n d = (first x a d.all).low

-- ════ Whole numbers ════

whole_size_lem : (n : ℕ) → n ≤ number_limit → Again whole_size 1 n (decimal n)
unfolding digits_from decimal digits digit
whole_size_lem n h =
    let d = decimal_spells n (omega arith) in
    record {
      again = sym (whole_some (decimal n) (λ e. omega (arith, d.some))) ∙ rw (d.all, d.value);
      starts = starts_so (decimal n) n d;
      leads = λ e. rw (d.leads e);
    }

-- ════ Knots ════

-- digits, the point and two digits
module _ (a : List ℕ) (m x y : ℕ) (d : Spells a m) (w : Again whole_size 1 m a) (hx : x < 10) (hy : y < 10) where
  abbrev e : List ℕ
  e = (48 + x) ∷ (48 + y) ∷ []

  abbrev u : List ℕ
  u = a ++ (46 ∷ e)

  long : length u ≡ length a + 3
  long = length-append a (46 ∷ e)

  before : front u ≡ a
  before = take_at a (46 ∷ e) (length u - 3) (omega (arith, long))

  point : get_or u (length u - 3) 0 ≡ 46
  point = let i : length u - 3 ≡ length a + 0 = omega (arith, long) in rw i (get_or-append-add a (46 ∷ e) 0 0)

  behind : back u ≡ e
  behind = let i : length u - 2 ≡ length a + 1 = omega (arith, long) in rw i (drop-append-add a (46 ∷ e) 1)

  two : all_digits e ≡ true
  unfolding digit
  two = all_append (digit x) (digit y) (is_digit x hx) (is_digit y hy)

  value : value_from (value_from 0 a) e ≡ 10 * (10 * m + x) + y
  unfolding value_from
  value = rw d.value (omega arith)

  places : knots_size u ≡ Some (10 * (10 * m + x) + y)
  places =
      parts u (omega (arith, long, d.some)) point true true (ap all_digits before ∙ d.all) (ap all_digits behind ∙ two)
      ∙ ap Some (rw (before, behind) value)

  places_again : (n : ℕ) → 10 * (10 * m + x) + y ≡ n → Again knots_size 4 n u
  places_again n j =
      let b : get_or u 0 0 ≡ get_or a 0 0 = get_or-append a (46 ∷ e) 0 0 d.some in
      record {
        again = places ∙ ap Some j;
        starts = rw b w.starts;
        leads = λ f. omega (arith, long, w.leads (sym b ∙ f));
      }

-- a number from its hundreds and its last two digits
joined : (n q c : ℕ) → q ≡ n / 10 → c ≡ q / 10 → 10 * (10 * c + q % 10) + n % 10 ≡ n
joined n q c e f = let g : 10 * c + q % 10 ≡ q = omega arith in rw g (omega arith)

knots_size_lem : (n : ℕ) → n ≤ number_limit → Again knots_size 4 n (hundredths n)
unfolding hundredths digit
knots_size_lem n h =
    places_again (decimal (n / 100)) (n / 100) (n / 10 % 10) (n % 10)
    (decimal_spells (n / 100) (omega arith)) (whole_size_lem (n / 100) (omega arith)) (omega arith) (omega arith)
    n (joined n (n / 10) (n / 100) refl (sym (div-div-eq-div-mul n 10 10)))

-- ════ With the sign: what starts with a digit has none ════

module _ (size : List ℕ → Option ℕ) (fewest : ℕ) (text : ℕ → List ℕ) (of : (n : ℕ) → n ≤ number_limit → Again size fewest n (text n)) where
  other : (n : ℕ) → n ≤ number_limit → (b : ℕ) → b < 48 → eqb (get_or (text n) 0 0) b ≡ false
  other n k b h = let l = (of n k).starts in ne_eqb (get_or (text n) 0 0) b (λ e. omega arith)

  signed_again : (h : ℤ) → nat_abs h ≤ number_limit
      → with_sign (minus (signed_by text h)) (size (drop (sign_length (signed_by text h)) (signed_by text h))) ≡ Some h
  unfolding signed_by with_sign sign_length
  signed_again (pos n) k = rw (other n k 43 (omega arith), other n k 45 (omega arith), (of n k).again)
  signed_again (negsuc n) k = rw (of (suc n) k).again

  signed_plain : (h : ℤ) → nat_abs h ≤ number_limit → Plain fewest (signed_by text h) h
  unfolding signed_by sign_length
  signed_plain (pos n) k =
      let l = (of n k).starts in
      record {
        no_zero = rw (other n k 43 (omega arith), other n k 45 (omega arith)) (of n k).leads;
        no_plus = λ e. omega arith;
        no_minus = λ z e. omega arith;
      }
  signed_plain (negsuc n) k =
      record {
        no_zero = (of (suc n) k).leads;
        no_plus = λ e. omega arith;
        no_minus = λ z e. let y : ◌≡◌ {A = ℕ} 0 1 = cc in omega arith;
      }

pub whole_again : (h : ℤ) → nat_abs h ≤ number_limit → whole_of (signed h) ≡ Some h
unfolding whole_of signed
whole_again = signed_again whole_size 1 decimal whole_size_lem

pub knots_again : (h : ℤ) → nat_abs h ≤ number_limit → knots_of (knots h) ≡ Some h
unfolding knots_of knots
knots_again = signed_again knots_size 4 hundredths knots_size_lem

pub plain_signed : (h : ℤ) → nat_abs h ≤ number_limit → Plain 1 (signed h) h
unfolding signed
plain_signed = signed_plain whole_size 1 decimal whole_size_lem

pub plain_knots : (h : ℤ) → nat_abs h ≤ number_limit → Plain 4 (knots h) h
unfolding knots
plain_knots = signed_plain knots_size 4 hundredths knots_size_lem

pub reads_written_numbers : ReadsWrittenNumbers
reads_written_numbers = record { of_whole = λ h k. (whole_again h k, plain_signed h k); of_knots = λ h k. (knots_again h k, plain_knots h k) }
