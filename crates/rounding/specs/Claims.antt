-- What is proved of every fraction that is rounded or cut, each a definition that is proved in proofs/CutLaws.antt or proofs/Rounding.antt.
use Rattle.std.specs.Prelude.{◌≡◌, ℕ, ◌*◌, ◌<◌, pos, neg_ℤ, ◌≤ℤ◌}
use Rattle.rounding.specs.Cut.{cut, cut_f}
use Rattle.rounding.specs.Fraction.{Fraction, ◌over◌, ◌≤F◌, neg_f, Positive, round_f}

-- "a fraction with its sign turned gives the same number with its sign turned" (02, A5)
unfoldable pub RoundsTurned : Type 0
RoundsTurned = (f : Fraction) → Positive f → round_f (neg_f f) ≡ neg_ℤ (round_f f)

-- "a larger fraction never gives a smaller number" (02, A5), the two compared by multiplying out
unfoldable pub RoundsInOrder : Type 0
RoundsInOrder = (a b : Fraction) → Positive a → Positive b → a ≤F b → round_f a ≤ℤ round_f b

-- A fraction rounded and then cut at whole numbers is the fraction cut there and then rounded. The bound is any whole number k, as a fraction over
-- any divisor.
unfoldable pub RoundsThenCuts : Type 0
RoundsThenCuts = (k d : ℕ) (f : Fraction) → 0 < d → Positive f → cut k (round_f f) ≡ round_f (cut_f (pos (k * d) over d) f)
