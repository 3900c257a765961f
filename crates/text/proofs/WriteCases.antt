-- Numbers as text, worked out: zero, less than a knot, a decimal that is 0, numbers below 0, and the longest that an i32 has, of 12 bytes.
use mathlib.Core.List.{List, [], ◌∷◌}
use mathlib.Core.Path.{◌≡◌, refl}
use Prim.Native.Nat.{ℕ}
use Prim.Native.String.{String}
use lib.IntN.{pos, neg_ℤ}
use Rattle.text.specs.Text.{ascii, digit, digits, decimal, hundredths, signed_by, knots}

-- each text is what is printed beside it
abbrev pub AllAre : List (List ℕ × String) → Type 0
AllAre [] = Unit
AllAre (row ∷ rows) = (row.0 ≡ ascii row.1) × AllAre rows

abbrev pub cases : List (List ℕ × String)
cases =
    (knots (pos 0), "0.00")
    ∷ (knots (pos 5), "0.05")
    ∷ (knots (neg_ℤ (pos 5)), "-0.05")
    ∷ (knots (pos 14010), "140.10")
    ∷ (knots (neg_ℤ (pos 2940)), "-29.40")
    ∷ (knots (neg_ℤ (pos 2147483648)), "-21474836.48")
    ∷ []

pub all_are : AllAre cases
unfolding digit digits decimal hundredths signed_by knots
all_are = (refl, (refl, (refl, (refl, (refl, (refl, tt))))))
