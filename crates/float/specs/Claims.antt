-- The claims on a float's conversion (02, A2), proved in proofs/Exactness.antt, and on the float of so many hundredths (02, A3), proved in
-- proofs/NearestLaws.antt and proofs/Closest.antt.
use Rattle.std.specs.Prelude.{Bool, true, false, cond, ◌≡◌, ℕ, ◌*◌, ◌%◌, ◌≤◌, ◌<◌, T, eqb, Float, ℤ, pos, neg_ℤ, nat_abs, ◌*ℤ◌, Some}
use Rattle.std.specs.Float.{nan, inf, fin, binary32}
use Rattle.std.specs.Float.Ieee.{up, down, ne, fits}
use Rattle.std.specs.Float.Ieee.Scale.{finite}
use Rattle.rounding.specs.Fraction.{Fraction, ◌over◌, ◌-F◌, ◌<F◌, zero_f}
use Rattle.float.specs.Float.{converted, hundredths_of, exact_float, hundredths_limit, converted_of, nearest_float, nearest_limit}

-- ════ A float that was exact ════

-- so many hundredths are the exact value of ± m × 2 ^ e, multiplied out: nothing is rounded
unfoldable pub HundredthsAre : (hundredths : ℤ) (negative : Bool) (m : ℕ) (e : ℤ) → Type 0
HundredthsAre h negative m e = h *ℤ pos (down e) ≡ cond negative (neg_ℤ (pos (100 * (m * up e)))) (pos (100 * (m * up e)))

-- "which figures in a run were exact hundredths in the file" (02, A2): where a float is exact its hundredths are its value, and it is exact where
-- any whole number of hundredths is
pub record ExactKeeps : Type 0 where
  pub keeps : (s : Bool) (m : ℕ) (e : ℤ) → exact_float (fin s m e) ≡ true → HundredthsAre (hundredths_of s m e) s m e
  pub only : (s : Bool) (m : ℕ) (e h : ℤ) → HundredthsAre h s m e → exact_float (fin s m e) ≡ true

-- a float is binary, so the exact ones are the whole quarters of a knot: 4 times the value is a whole number
unfoldable pub ExactQuarters : Type 0
ExactQuarters = (s : Bool) (m : ℕ) (e : ℤ) → exact_float (fin s m e) ≡ eqb (4 * (m * up e) % down e) 0

-- ════ A float that was cut ════

-- hundredths that are not said to have been cut are the float's own; where they are said to have been, the float's own are beyond the limit
pub record ToldWhenCut : Type 0 where
  pub whole : (s : Bool) (m : ℕ) (e n : ℤ) (exact : Bool) → converted_of (fin s m e) ≡ Some (converted n exact false) → n ≡ hundredths_of s m e
  pub beyond : (s : Bool) (m : ℕ) (e n : ℤ) (exact : Bool) → converted_of (fin s m e) ≡ Some (converted n exact true) → hundredths_limit < nat_abs (hundredths_of s m e)

-- ════ The float of so many hundredths ════

-- how far two fractions are apart
abbrev pub apart_f : Fraction → Fraction → Fraction
apart_f a b = pos (nat_abs (a -F b).num) over (a -F b).den

-- how far a float is from h / 100. One that is not finite is at no distance that is a number, and 0 stands here.
unfoldable pub distance : ℤ → Float → Fraction
distance h nan = zero_f
distance h (inf s) = zero_f
distance h (fin s m e) = apart_f (cond s (neg_ℤ (pos (m * up e))) (pos (m * up e)) over down e) (h over 100)

-- x is a finite binary32, and every finite binary32 that does not equal it (minus zero equals zero) is farther from h / 100
pub record Nearest (h : ℤ) (x : Float) : Type 0 where
  pub held : T (fits binary32 x)
  pub number : T (finite x)
  pub farther : (y : Float) → T (fits binary32 y) → T (finite y) → T (ne y x) → distance h x <F distance h y

-- "the binary32 nearest the decimal" (02, A3), by distances alone. No two are equally near, so that "ties to even" has nothing to decide
-- among hundredths up to the limit.
unfoldable pub NearestIs : Type 0
NearestIs = (h : ℤ) → nat_abs h ≤ nearest_limit → Nearest h (nearest_float h)

-- x is a number, and its hundredths are h
pub record ReadAs (h : ℤ) (x : Float) : Type 0 where
  pub s : Bool
  pub m : ℕ
  pub e : ℤ
  pub is : x ≡ fin s m e
  pub back : hundredths_of s m e ≡ h

-- "so that the reader finds the same hundredths" (02, A3)
unfoldable pub HundredthsBack : Type 0
HundredthsBack = (h : ℤ) → nat_abs h ≤ nearest_limit → ReadAs h (nearest_float h)
