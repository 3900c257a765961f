-- The figures of the wall panel, docs/rounding.md (02, A5): shears that 01 stars, each worked by the steps of the rule. Proved in proofs/Panel.antt.
use Rattle.std.specs.Prelude.{cond, List, [], ◌∷◌, map, ◌≡◌, ℕ, ◌+◌, ◌*◌, ◌/◌, ℤ, pos, nat_abs, ◌*ℤ◌, take, drop}
use Rattle.std.specs.Int.Signed.{lt_z}
use Rattle.rounding.specs.Fraction.{Fraction, ◌over◌, times_f, round_f}
use Rattle.rules.specs.Choice.{neg}
use Rattle.cases.specs.Figures.{shear, shear_any, starred}
use Rattle.rules.specs.Rules.{exact_shear}

-- What the panel shows of one shear.
pub record Worked : Type 0 where
  -- C, vertical wind and airspeed, as 01's table has them
  pub c : ℤ
  pub vertical : ℤ
  pub airspeed : ℤ
  -- the shear in hundred-thousandths, as a fraction
  pub num : ℤ
  pub den : ℕ
  -- its size in hundredths, the rest dropped: two decimals; and the whole number below it
  pub decimals : ℕ
  pub below : ℕ
  -- a half more, in hundredths
  pub raised : ℕ
  -- half of the divisor, a whole number; and the size of num with it added
  pub half : ℕ
  pub sum : ℕ
  -- the size rounded, and the shear held
  pub rounded : ℕ
  pub held : ℤ

abbrev pub worked : (c vertical airspeed num : ℤ) (den decimals below raised half sum rounded : ℕ) (held : ℤ) → Worked
worked c v a n d p b r h s k x =
    record { c = c; vertical = v; airspeed = a; num = n; den = d; decimals = p; below = b; raised = r; half = h; sum = s; rounded = k; held = x }

-- in sinking air; a tie in sinking air and in rising air; and a gust of 20 knots, with the airspeed of 01's listing
unfoldable pub panel : List Worked
panel =
    worked (pos 0) (neg 1000) (pos 14000) (pos 100000000) 14000 714285 7142 714335 7000 100007000 7143 (pos 7143)
    ∷ worked (pos 0) (neg 3) (pos 8000) (pos 300000) 8000 3750 37 3800 4000 304000 38 (pos 38)
    ∷ worked (pos 0) (pos 3) (pos 8000) (neg 300000) 8000 3750 37 3800 4000 304000 38 (neg 38)
    ∷ worked (pos 2000) (pos 0) (pos 14000) (pos 3704000000000) 1765197 209834936 2098349 209834986 882598 3704000882598 2098349 (pos 2098349)
    ∷ []

-- the shear of a row's winds over one frame, in hundred-thousandths: at an airspeed, and at its own
abbrev pub shear_at : ℤ → Worked → Fraction
shear_at a w = times_f 100000 (exact_shear w.c 1 w.vertical a)

abbrev pub shear_of : Worked → Fraction
shear_of w = shear_at w.airspeed w

-- two values are equal in each row
abbrev pub InEach : {A : Type 0} → (Worked → A) → (Worked → A) → Type 0
InEach f g = map f panel ≡ map g panel

-- what is claimed of them, with the page's words for the steps
pub record PanelHolds : Type 0 where
  -- the shears are the second to the fifth of those that 01 stars, the gust's at any airspeed
  pub draft_figures : map (λ w. shear w.c w.vertical w.airspeed w.held) (take 3 panel) ≡ take 3 (drop 1 starred)
  pub gust_figure : map (λ w. shear_any w.c w.held) (drop 3 panel) ≡ take 1 (drop 4 starred)
  -- the fraction is the shear of the row's winds at its airspeed, by multiplying out
  pub shears : InEach (λ w. (shear_of w).num *ℤ pos w.den) (λ w. w.num *ℤ pos (shear_of w).den)
  -- and the gust's is at any airspeed
  pub gust_any : (a : ℤ) → map (λ w. (shear_at a w).num *ℤ pos w.den) (drop 3 panel) ≡ map (λ w. w.num *ℤ pos (shear_at a w).den) (drop 3 panel)
  -- "take the size"
  pub decimals_are : InEach (λ w. 100 * nat_abs w.num / w.den) (λ w. w.decimals)
  pub below_are : InEach (λ w. w.decimals / 100) (λ w. w.below)
  -- "round it: add a half", and "drop what follows the point"
  pub raised_are : InEach (λ w. w.decimals + 50) (λ w. w.raised)
  pub dropped : InEach (λ w. w.raised / 100) (λ w. w.rounded)
  -- the same with whole numbers, as the code has it
  pub halves : InEach (λ w. w.den / 2) (λ w. w.half)
  pub sums : InEach (λ w. nat_abs w.num + w.half) (λ w. w.sum)
  pub divided : InEach (λ w. w.sum / w.den) (λ w. w.rounded)
  -- "put the sign back"
  pub signs : InEach (λ w. cond (lt_z w.num (pos 0)) (neg w.rounded) (pos w.rounded)) (λ w. w.held)
  -- and that is what the rule gives
  pub rule : InEach (λ w. round_f (w.num over w.den)) (λ w. w.held)
