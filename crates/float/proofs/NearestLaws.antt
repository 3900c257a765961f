-- The hundredths of the float of h hundredths are h: it is off by less than half a hundredth. And what every user of that float needs.
use mathlib.Core.Path.{◌≡◌, refl, sym, ap, ◌∙◌, subst}
use mathlib.Core.Bool.{Bool, true, false, not}
use Prim.Native.Nat.{ℕ, suc, ◌*◌, ◌^◌, ◌≤◌, ◌<◌}
use native.Mathlib.Nat.{div-eq_of_lt-le}
use native.Mathlib.Omega.{arith}
use lib.Dec.{T}
use lib.IntN.{ℤ, pos, negsuc, nat_abs}
use lib.Pow.{pow_pos}
use lib.Ieee.{Float, nan, inf, fin, binary32, fits, is_nan, of_bits, round, to_bits}
use lib.Ieee.Bits.{of_bits-to_bits}
use lib.Ieee.Exact.{HasValue}
use lib.Ieee.Fits.{round-fits}
use lib.Ieee.Scale.{finite}
use Rattle.rounding.specs.Rounding.{nearest}
use Rattle.float.specs.Claims.{ReadAs, HundredthsBack}
use Rattle.float.specs.Float.{nearest_float, nearest_limit}
use Rattle.float.proofs.Fields.{signed, round_signed, hundredths_value}
use Rattle.float.proofs.Units.{Near, Rounded, rounded}

-- a / 100 to the nearest multiple q of K units of 1 / P: with K below P / 100, 100 times it rounds to a
within_half : (a q K P : ℕ) → 0 < P → 100 * K < P → Near q (100 * K) (a * P) → nearest (100 * (q * K)) P ≡ a
unfolding nearest
within_half a q K P p k n = div-eq_of_lt-le (2 * P) (omega (arith, n.under)) (omega (arith, n.over))

of_rounded : (s : Bool) (a : ℕ) → a ≤ nearest_limit → ReadAs (signed s a) (round binary32 s a 100)
of_rounded s a h = read (round binary32 s a 100) r.value
  where
    r : Rounded s a
    r = rounded s a h

    w : ℕ
    w = r.q * 2 ^ r.k

    read : (x : Float) → HasValue x s w (2 ^ 149) → ReadAs (signed s a) x
    read nan v = absurd v
    read (inf t) v = absurd v
    read (fin t m e) v =
        record {
          s = t;
          m = m;
          e = e;
          is = refl;
          back =
              hundredths_value t m e s w (2 ^ 149) (pow_pos 149) v
              ∙ round_signed s (100 * w) (2 ^ 149)
              ∙ ap (signed s) (within_half a r.q (2 ^ r.k) (2 ^ 149) (pow_pos 149) r.small r.near);
        }

pub hundredths_back : HundredthsBack
unfolding HundredthsBack nearest_float
hundredths_back (pos n) k = of_rounded false n k
hundredths_back (negsuc n) k = of_rounded true (suc n) k

-- ════ What else a user needs of it ════

pub nearest_fits : (h : ℤ) → T (fits binary32 (nearest_float h))
unfolding nearest_float
nearest_fits (pos n) = round-fits binary32 false n 100
nearest_fits (negsuc n) = round-fits binary32 true (suc n) 100

pub nearest_finite : (h : ℤ) → nat_abs h ≤ nearest_limit → T (finite (nearest_float h))
unfolding HundredthsBack
nearest_finite h k = subst (λ (x : Float). T (finite x)) (sym (hundredths_back h k).is) tt

pub nearest_not_nan : (h : ℤ) → nat_abs h ≤ nearest_limit → T (not (is_nan (nearest_float h)))
unfolding HundredthsBack is_nan
nearest_not_nan h k = subst (λ (x : Float). T (not (is_nan x))) (sym (hundredths_back h k).is) tt

-- its pattern stands for it
pub nearest_bits : (h : ℤ) → of_bits binary32 (to_bits binary32 (nearest_float h)) ≡ nearest_float h
nearest_bits h = of_bits-to_bits binary32 (nearest_float h) (nearest_fits h)

-- zero is plus zero, whose pattern is 0
pub nearest_of_zero : nearest_float (pos 0) ≡ of_bits binary32 0
unfolding nearest_float round of_bits
nearest_of_zero = refl
