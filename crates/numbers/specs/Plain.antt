-- A number's text with nothing needless in it: "no number had a needless leading zero, a plus or a minus before zero" (02, A3).
use Rattle.std.specs.Prelude.{List, ◌≡◌, ℕ, ℤ, pos, length, drop, get_or}
use Rattle.numbers.specs.Number.{sign_length}

-- how long the shortest text without a sign is: `0`, and `0.00` of knots
abbrev pub fewest_whole : ℕ
fewest_whole = 1

abbrev pub fewest_knots : ℕ
fewest_knots = 4

-- of the text s of the number h, by the length of the shortest
pub record Plain (fewest : ℕ) (s : List ℕ) (h : ℤ) : Type 0 where
  pub no_zero : get_or (drop (sign_length s) s) 0 0 ≡ 48 → length (drop (sign_length s) s) ≡ fewest
  pub no_plus : get_or s 0 0 ≡ 43 → ⊥
  pub no_minus : h ≡ pos 0 → get_or s 0 0 ≡ 45 → ⊥
