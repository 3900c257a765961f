-- The cut at a bound either way, of whole numbers and of fractions (02, A1; the run file's hundredths, and a text's numbers).
use Rattle.std.specs.Prelude.{cond, ℕ, ℤ, pos, neg_ℤ}
use Rattle.std.specs.Int.Signed.{lt_z}
use Rattle.rounding.specs.Fraction.{Fraction, neg_f, lt_f}

-- a whole number cut to between -k and k
unfoldable pub cut : ℕ → ℤ → ℤ
cut k x = cond (lt_z x (neg_ℤ (pos k))) (neg_ℤ (pos k)) (cond (lt_z (pos k) x) (pos k) x)

-- a fraction cut to between -b and b
unfoldable pub cut_f : Fraction → Fraction → Fraction
cut_f b f = cond (lt_f f (neg_f b)) (neg_f b) (cond (lt_f b f) b f)
