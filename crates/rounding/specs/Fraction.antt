-- Fractions: "a whole number over a positive one; two are added and compared by multiplying out" (01, "The list in demand 3").
use Rattle.std.specs.Prelude.{Bool, List, [], ◌∷◌, ℕ, ◌*◌, ◌<◌, ℤ, pos, neg_ℤ, ◌+ℤ◌, ◌-ℤ◌, ◌*ℤ◌, ◌≤ℤ◌, ◌<ℤ◌}
use Rattle.std.specs.Int.Signed.{lt_z}
use Rattle.rounding.specs.Rounding.{round_away}

pub record Fraction : Type 0 where
  pub num : ℤ
  pub den : ℕ

infix 65 ◌over◌
abbrev pub ◌over◌ : ℤ → ℕ → Fraction
n over d = record { num = n; den = d }

infixl 60 ◌+F◌ ◌-F◌
abbrev pub ◌+F◌ : Fraction → Fraction → Fraction
a +F b = (a.num *ℤ pos b.den +ℤ b.num *ℤ pos a.den) over (a.den * b.den)

abbrev pub ◌-F◌ : Fraction → Fraction → Fraction
a -F b = (a.num *ℤ pos b.den -ℤ b.num *ℤ pos a.den) over (a.den * b.den)

abbrev pub neg_f : Fraction → Fraction
neg_f f = neg_ℤ f.num over f.den

abbrev pub zero_f : Fraction
zero_f = pos 0 over 1

abbrev pub sum_f : List Fraction → Fraction
sum_f [] = zero_f
sum_f (f ∷ l) = f +F sum_f l

-- k times a fraction, and a fraction divided by k
abbrev pub times_f : ℕ → Fraction → Fraction
times_f k f = (f.num *ℤ pos k) over f.den

abbrev pub divide_f : Fraction → ℕ → Fraction
divide_f f k = f.num over (f.den * k)

infix 50 ◌≤F◌ ◌<F◌
abbrev pub ◌≤F◌ : Fraction → Fraction → Type 0
a ≤F b = (a.num *ℤ pos b.den) ≤ℤ (b.num *ℤ pos a.den)

abbrev pub ◌<F◌ : Fraction → Fraction → Type 0
a <F b = (a.num *ℤ pos b.den) <ℤ (b.num *ℤ pos a.den)

-- the test of it
abbrev pub lt_f : Fraction → Fraction → Bool
lt_f a b = lt_z (a.num *ℤ pos b.den) (b.num *ℤ pos a.den)

-- to the nearest whole number, ties away from zero
abbrev pub round_f : Fraction → ℤ
round_f f = round_away f.num f.den

-- the divisor is positive: of one fraction, and of each of a list
abbrev pub Positive : Fraction → Type 0
Positive f = 0 < f.den

abbrev pub AllPositive : List Fraction → Type 0
AllPositive [] = Unit {0}
AllPositive (f ∷ l) = Positive f × AllPositive l

abbrev pub sum_ℤ : List ℤ → ℤ
sum_ℤ [] = pos 0
sum_ℤ (x ∷ l) = x +ℤ sum_ℤ l
