-- What is cut at the limit, as the code keeps it in 64 bits and then in 32.
use mathlib.Core.Path.{◌≡◌, ap, ◌∙◌}
use lib.Dec.{lit<}
use lib.IntN.{ℤ}
use mir.Facts.{to_z-of_z}
use mir.Syntax.{w32, w64}
use mir.Val.{SFits, to_z, of_z}
use Rattle.rounding.specs.Cut.{cut}
use Rattle.rounding.proofs.CutLaws.{cut_le}
use Rattle.rounding.proofs.Fits.{exact, sfits}
use Rattle.float.specs.Float.{hundredths_limit}

module _ (r x : ℤ) (f : SFits w64 x) (h : r ≡ cut hundredths_limit (to_z w64 (of_z w64 x))) where
  is : r ≡ cut hundredths_limit x
  is = h ∙ ap (cut hundredths_limit) (to_z-of_z f)

  kept : to_z w64 (of_z w64 r) ≡ cut hundredths_limit x
  kept = rw is (to_z-of_z (sfits w64 (exact (cut hundredths_limit x) (cut_le hundredths_limit x)) (lit< tt)))

  pub cut_fits : SFits w32 (to_z w64 (of_z w64 r))
  cut_fits = rw kept (sfits w32 (exact (cut hundredths_limit x) (cut_le hundredths_limit x)) (lit< tt))

  pub cut_number : to_z w32 (of_z w32 (to_z w64 (of_z w64 r))) ≡ cut hundredths_limit x
  cut_number = rw (to_z-of_z cut_fits) kept
