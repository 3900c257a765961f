-- The float of h hundredths is the one binary32 nearest to h / 100.
use mathlib.Core.Path.{◌≡◌, refl, sym, ap, ◌∙◌, subst}
use mathlib.Core.Bool.{Bool, true, false, not, ◌||◌, beq}
use mathlib.Core.Logic.{◌⊎◌, inl, inr}
use Prim.Native.Nat.{ℕ, ◌+◌, ◌*◌, ◌^◌, ◌≤◌, ◌<◌}
use native.Mathlib.Nat.{lt_of_mul-lt-mul_right, mul-lt-mul_of_pos_right, mul_comm, mul_assoc, mul_right_comm, mul-pos, eq_of_mul-eq-mul_right}
use native.Mathlib.Decide.{dec_lt}
use native.Mathlib.Omega.{arith}
use lib.Dec.{T, eqb, lit<}
use lib.IntN.{ℤ, pos, negsuc, nat_abs, ◌-ℤ◌, ◌*ℤ◌}
use lib.Pow.{pow_pos}
use lib.Ieee.{Float, nan, inf, fin, binary32, up, down, round, eq, ne, fits}
use lib.Ieee.Exact.{HasValue}
use lib.Ieee.Fits.{down_pos, and_i, eq→eqb}
use lib.Ieee.Scale.{finite}
use Rattle.rounding.specs.Fraction.{◌<F◌}
use Rattle.rounding.proofs.Difference.{Diff, any, nat, neg_d, -D, *D, eq_d, lt_d}
use Rattle.rounding.proofs.Fits.{size_mul}
use Rattle.float.specs.Claims.{distance, NearestIs}
use Rattle.float.specs.Float.{nearest_float, nearest_limit}
use Rattle.float.proofs.Fields.{signed}
use Rattle.float.proofs.NearestLaws.{nearest_fits, nearest_finite}
use Rattle.float.proofs.Strict.{off, InUnits, in_units, G, N, beside}
use Rattle.float.proofs.Units.{Rounded, rounded}

-- ════ Distances ════

-- how far ± a / c is from h / 100, in parts of 100 × c
abbrev miss : ℤ → Bool → ℕ → ℕ → ℕ
miss h s a c = nat_abs (signed s a *ℤ pos 100 -ℤ h *ℤ pos c)

-- of equal fractions it is the same, in other parts
miss_same : (h : ℤ) (s : Bool) (a c b d : ℕ) → a * d ≡ b * c → miss h s a c * d ≡ miss h s b d * c
miss_same h s a c b d e = sym (size_mul (signed s a *ℤ pos 100 -ℤ h *ℤ pos c) (pos d)) ∙ ap nat_abs (same s) ∙ size_mul (signed s b *ℤ pos 100 -ℤ h *ℤ pos d) (pos c)
  where
    same : (s : Bool) → (signed s a *ℤ pos 100 -ℤ h *ℤ pos c) *ℤ pos d ≡ (signed s b *ℤ pos 100 -ℤ h *ℤ pos d) *ℤ pos c
    same true =
        eq_d (*D (-D (*D (neg_d (nat a)) (nat 100)) (*D (any h) (nat c))) (nat d)) (*D (-D (*D (neg_d (nat b)) (nat 100)) (*D (any h) (nat d))) (nat c)) (omega arith)
    same false =
        eq_d (*D (-D (*D (nat a) (nat 100)) (*D (any h) (nat c))) (nat d)) (*D (-D (*D (nat b) (nat 100)) (*D (any h) (nat d))) (nat c)) (omega arith)

size_off : {z : ℤ} {p n : ℕ} → Diff z p n → nat_abs z ≡ off p n
size_off {z = pos k} h = omega (arith, h.diff)
size_off {z = negsuc k} h = omega (arith, h.diff)

abbrev negative : ℤ → Bool
negative (pos n) = false
negative (negsuc n) = true

-- with the sign of h, and with the other
like : (h : ℤ) (a c : ℕ) → miss h (negative h) a c ≡ off (nat_abs h * c) (100 * a)
like (pos n) a c = omega (arith, size_off (-D (*D (nat a) (nat 100)) (*D (nat n) (nat c))))
like (negsuc n) a c = omega (arith, size_off (-D (*D (neg_d (nat a)) (nat 100)) (*D (any (negsuc n)) (nat c))))

signs : (h : ℤ) (s : Bool) → (s ≡ negative h) ⊎ ((a c : ℕ) → miss h s a c ≡ nat_abs h * c + 100 * a)
signs (pos n) true = inr (λ a c. omega (arith, size_off (-D (*D (neg_d (nat a)) (nat 100)) (*D (nat n) (nat c)))))
signs (pos n) false = inl refl
signs (negsuc n) true = inl refl
signs (negsuc n) false = inr (λ a c. omega (arith, size_off (-D (*D (nat a) (nat 100)) (*D (any (negsuc n)) (nat c)))))

-- floats by their values in parts of P: the nearer one
nearer : (h : ℤ) (x y : Float) (s t : Bool) (a b P : ℕ) → HasValue x s a P → HasValue y t b P → miss h s a P < miss h t b P → distance h x <F distance h y
unfolding distance
nearer h nan y s t a b P p q l = elim p [ ]
nearer h (inf _) y s t a b P p q l = elim p [ ]
nearer h (fin u m e) nan s t a b P p q l = elim q [ ]
nearer h (fin u m e) (inf _) s t a b P p q l = elim q [ ]
nearer h (fin u m e) (fin v n d) s t a b P p q l =
    let i = miss h u (m * up e) (down e) in
    let j = miss h v (n * up d) (down d) in
    let k = crossed i (down e) j (down d) (miss h s a P) (miss h t b P) (down_pos e) (down_pos d) in
    lt_d (nat (i * (down d * 100))) (nat (j * (down e * 100)))
    (omega (arith, k (rw (← p.0) (miss_same h u (m * up e) (down e) a P p.1)) (rw (← q.0) (miss_same h v (n * up d) (down d) b P q.1)) l))
  where
    -- i / c < j / f, where i × P is a × c and j × P is b × f
    crossed : (i c j f a b : ℕ) → 0 < c → 0 < f → i * P ≡ a * c → j * P ≡ b * f → a < b → i * f < j * c
    crossed i c j f a b k l p q h =
        lt_of_mul-lt-mul_right P
        (let z : a * (c * f) < b * (c * f) = mul-lt-mul_of_pos_right h (mul-pos k l) in
        let x : i * f * P ≡ a * (c * f) = mul_right_comm i f P ∙ ap (λ (z : ℕ). z * f) p ∙ mul_assoc a c f in
        let y : j * c * P ≡ b * (c * f) = mul_right_comm j c P ∙ ap (λ (z : ℕ). z * c) q ∙ mul_assoc b f c ∙ ap (λ (z : ℕ). b * z) (mul_comm f c) in
        rw (x, y) z)

-- and two of one value, which are equal if their signs are or the value is 0
equal : (x y : Float) (s t : Bool) (a P : ℕ) → 0 < P → HasValue x s a P → HasValue y t a P → (s ≡ t) ⊎ (a ≡ 0) → T (eq x y)
unfolding eq
equal nan _ s t a P p x y c = elim x [ ]
equal (inf _) _ s t a P p x y c = elim x [ ]
equal (fin u m e) nan s t a P p x y c = elim y [ ]
equal (fin u m e) (inf _) s t a P p x y c = elim y [ ]
equal (fin u m e) (fin v n d) s t a P p x y c =
    let l : m * up e * down d * P ≡ a * down e * down d = mul_right_comm (m * up e) (down d) P ∙ ap (λ (z : ℕ). z * down d) x.1 in
    let r : n * up d * down e * P ≡ a * down e * down d = mul_right_comm (n * up d) (down e) P ∙ ap (λ (z : ℕ). z * down e) y.1 ∙ mul_right_comm a (down d) (down e) in
    let q : m * up e * down d ≡ n * up d * down e = eq_of_mul-eq-mul_right P p (m * up e * down d) (n * up d * down e) (l ∙ sym r) in
    and_i (eqb (m * up e * down d) (n * up d * down e)) (beq u v || eqb (m * up e * down d) 0) (eq→eqb q)
    (elim c [
      | inl z ↦ subst (λ (b : Bool). T (beq u b || eqb (m * up e * down d) 0)) (x.0 ∙ z ∙ sym y.0) (itself u)
      | inr z ↦ or_r (beq u v) (eqb (m * up e * down d) 0) (eq→eqb (eq_of_mul-eq-mul_right P p (m * up e * down d) 0 (l ∙ rw z (nothing (down e) (down d)))))
    ])
  where
    itself : (u : Bool) → T (beq u u || eqb (m * up e * down d) 0)
    itself true = tt
    itself false = tt

    or_r : (a b : Bool) → T b → T (a || b)
    or_r true b h = tt
    or_r false b h = h

    nothing : (a b : ℕ) → 0 * a * b ≡ 0 * P
    nothing a b = omega arith

-- ════ The law ════

module _ (h : ℤ) (k : nat_abs h ≤ nearest_limit) where
  abbrev float : Float
  float = round binary32 (negative h) (nat_abs h) 100

  abbrev r : Rounded (negative h) (nat_abs h)
  r = rounded (negative h) (nat_abs h) k

  -- in units of 2 ^ -149: those of the float, and those of h
  abbrev g : ℕ
  g = G (negative h) (nat_abs h) r

  abbrev n : ℕ
  n = N (negative h) (nat_abs h) r

  module _ (x : Float) (u : InUnits x) where
    abbrev w : ℕ
    w = u.m * 2 ^ u.j

    closer : off n (100 * g) < miss h u.s w (2 ^ 149) → distance h float <F distance h x
    closer l = nearer h float x (negative h) u.s g w (2 ^ 149) r.value u.value (rw (like h g (2 ^ 149)) l)

    same : w ≡ g → (u.s ≡ negative h) ⊎ (w ≡ 0) → T (eq x float)
    same e = equal x float u.s (negative h) w (2 ^ 149) (pow_pos 149) u.value (subst (λ (z : ℕ). HasValue float (negative h) z (2 ^ 149)) (sym e) r.value)

    against : (m j : ℕ) → m < 2 ^ 24 → (m * 2 ^ j ≡ g) ⊎ (off n (100 * g) < off n (100 * (m * 2 ^ j)))
    against = beside (negative h) (nat_abs h) r

    -- on the other side of zero it is farther than zero, or zero
    chosen : T (eq x float) ⊎ (distance h float <F distance h x)
    chosen = elim (signs h u.s) [
      | inl e ↦ elim (against u.m u.j u.small) [
        | inl z ↦ inl (same z (inl e))
        | inr l ↦ inr (closer (rw (e, like) l))
      ]
      | inr far ↦ elim (against 0 0 (lit< tt)) [
        | inl z ↦ elim (dec_lt 0 w) [
          | yes p ↦ inr (closer (rw far (beyond n g w z p)))
          | no p ↦ inl (same (none w g p z) (inr (none w 0 p refl)))
        ]
        | inr l ↦ inr (closer (rw far (beyond_zero n g w l)))
      ]
    ]
      where
        beyond : (n g w : ℕ) → 0 * 2 ^ 0 ≡ g → 0 < w → off n (100 * g) < n + 100 * w
        beyond n g w e p = omega arith

        beyond_zero : (n g w : ℕ) → off n (100 * g) < off n (100 * (0 * 2 ^ 0)) → off n (100 * g) < n + 100 * w
        beyond_zero n g w l = omega arith

        none : (w g : ℕ) → (0 < w → ⊥) → 0 * 2 ^ 0 ≡ g → w ≡ g
        none w g p e = omega arith

    unequal : T (ne x float) → distance h float <F distance h x
    unfolding ne
    unequal d = elim chosen [
      | inl e ↦ absurd (not_both (eq x float) e d)
      | inr l ↦ l
    ]
      where
        not_both : (b : Bool) → T b → T (not b) → ⊥
        not_both true h k = k
        not_both false h k = h

by_sign : (h : ℤ) → nearest_float h ≡ round binary32 (negative h) (nat_abs h) 100
unfolding nearest_float
by_sign (pos n) = refl
by_sign (negsuc n) = refl

pub nearest_is : NearestIs
unfolding NearestIs
nearest_is h k =
    record {
      held = nearest_fits h;
      number = nearest_finite h k;
      farther = subst (λ (x : Float). (y : Float) → T (fits binary32 y) → T (finite y) → T (ne y x) → distance h x <F distance h y) (sym (by_sign h))
          (λ y f p. unequal h k y (in_units y f p));
    }
