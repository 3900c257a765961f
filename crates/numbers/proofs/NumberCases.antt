-- Texts read as numbers, worked out from the definitions: one list, one claim.
use mathlib.Core.List.{List, [], ◌∷◌, map}
use mathlib.Core.Path.{◌≡◌, refl}
use Prim.Native.String.{String}
use lib.IntN.{ℤ, pos, neg_ℤ}
use Rattle.std.proofs.Common.{Option, Some, None}
use Rattle.rounding.specs.Cut.{cut}
use Rattle.numbers.specs.Number.{all_digits, value_from, whole_size, two_decimals, knots_size, sign_length, with_sign, whole_of, knots_of, cut_number}
use Rattle.text.specs.Text.{ascii}

abbrev whole : String → Option ℤ
whole text = whole_of (ascii text)

abbrev knots : String → Option ℤ
knots text = knots_of (ascii text)

-- what a text is read as, and what it should be
abbrev pub cases : List (Option ℤ × Option ℤ)
cases =
    (whole "0", Some (pos 0))
    ∷ (whole "-20", Some (neg_ℤ (pos 20)))
    ∷ (whole "+007", Some (pos 7))
    ∷ (whole "-0", Some (pos 0))
    -- of many digits: exact, and cut as the code holds it
    ∷ (whole "-123456789012345678901234567890", Some (neg_ℤ (pos 123456789012345678901234567890)))
    ∷ (cut_number (whole "-123456789012345678901234567890"), Some (neg_ℤ (pos 1000000)))
    ∷ (cut_number (whole "1000001"), Some (pos 1000000))
    ∷ (cut_number (whole "999999"), Some (pos 999999))
    ∷ (whole "", None)
    ∷ (whole "+", None)
    ∷ (whole "-", None)
    ∷ (whole "--1", None)
    ∷ (whole "+-1", None)
    ∷ (whole "1-", None)
    ∷ (whole "1 ", None)
    ∷ (whole " 1", None)
    ∷ (whole "1.00", None)
    -- "/" and ":" stand before "0" and after "9"
    ∷ (whole "1/", None)
    ∷ (whole ":1", None)
    ∷ (knots "12.30", Some (pos 1230))
    ∷ (knots "-0.50", Some (neg_ℤ (pos 50)))
    ∷ (knots "+007.00", Some (pos 700))
    ∷ (knots "-0.00", Some (pos 0))
    ∷ (knots "99999999999.99", Some (pos 9999999999999))
    ∷ (cut_number (knots "99999999999.99"), Some (pos 1000000))
    ∷ (knots "", None)
    ∷ (knots "+", None)
    ∷ (knots "-", None)
    ∷ (knots "1", None)
    ∷ (knots "100", None)
    ∷ (knots "1.5", None)
    ∷ (knots "1.500", None)
    ∷ (knots "1.", None)
    ∷ (knots ".50", None)
    ∷ (knots "-.50", None)
    ∷ (knots "1,50", None)
    ∷ (knots "1..50", None)
    ∷ (knots "1.5 ", None)
    ∷ (knots "1.-5", None)
    ∷ (knots " 1.00", None)
    ∷ (knots "--1.00", None)
    ∷ []

pub all_are : map (λ (c : Option ℤ × Option ℤ). c.0) cases ≡ map (λ (c : Option ℤ × Option ℤ). c.1) cases
unfolding all_digits value_from whole_size two_decimals knots_size sign_length with_sign whole_of knots_of cut_number cut
all_are = refl
