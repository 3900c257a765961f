-- What is proved of numbers read and written, each a record that is proved in proofs/BackLaws.antt or proofs/AgainLaws.antt.
use Rattle.std.specs.Prelude.{List, ◌≡◌, ℕ, ◌≤◌, ℤ, nat_abs, Some}
use Rattle.numbers.specs.Number.{whole_of, knots_of, number_limit}
use Rattle.numbers.specs.Plain.{Plain, fewest_whole, fewest_knots}
use Rattle.text.specs.Text.{signed, knots}

-- A number that was read is written back as it stood, "where .. no number had a needless leading zero, a plus or a minus before zero" (02, A3).
pub record WritesReadNumbers : Type 0 where
  pub of_whole : (s : List ℕ) (h : ℤ) → whole_of s ≡ Some h → nat_abs h ≤ number_limit → Plain fewest_whole s h → signed h ≡ s
  pub of_knots : (s : List ℕ) (h : ℤ) → knots_of s ≡ Some h → nat_abs h ≤ number_limit → Plain fewest_knots s h → knots h ≡ s

-- A number that was written is read as itself, and nothing in its text is needless.
pub record ReadsWrittenNumbers : Type 0 where
  pub of_whole : (h : ℤ) → nat_abs h ≤ number_limit → (whole_of (signed h) ≡ Some h) × Plain fewest_whole (signed h) h
  pub of_knots : (h : ℤ) → nat_abs h ≤ number_limit → (knots_of (knots h) ≡ Some h) × Plain fewest_knots (knots h) h
