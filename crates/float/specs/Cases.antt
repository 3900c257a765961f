-- Worked cases of the float of so many hundredths, as one list with one claim. A new case is a new row.
use Rattle.std.specs.Prelude.{List, [], ◌∷◌, map, ◌≡◌, ℕ, ℤ, pos, neg_ℤ}
use Rattle.std.specs.Float.{binary32}
use Rattle.std.specs.Float.Ieee.{to_bits}
use Rattle.float.specs.Float.{nearest_float}

-- hundredths, and the pattern of the float nearest to them: 0, 0.01, -0.01, 123.45 and 600.00; 140.10 and -29.40
abbrev pub nearest_cases : List (ℤ × ℕ)
nearest_cases =
    (pos 0, 0)
    ∷ (pos 1, 0x3c23d70a)
    ∷ (neg_ℤ (pos 1), 0xbc23d70a)
    ∷ (pos 12345, 0x42f6e666)
    ∷ (pos 60000, 0x44160000)
    ∷ (pos 14010, 0x430c199a)
    ∷ (neg_ℤ (pos 2940), 0xc1eb3333)
    ∷ []

unfoldable pub NearestCases : Type 0
NearestCases = map (λ (c : ℤ × ℕ). to_bits binary32 (nearest_float c.0)) nearest_cases ≡ map (λ (c : ℤ × ℕ). c.1) nearest_cases
