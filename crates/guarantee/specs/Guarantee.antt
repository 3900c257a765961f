-- A4 of 02, sentence by sentence, over the list of samples from a fresh start alone, the newest first: no state, no counter. "Shops ask what
-- we promise beyond nine rows tried. Prove it for every waveform." A waveform is a list of held shears, which are what `held` of Rules.antt gives, each
-- as often as its sample stands for frames: A4 reads "the entries at judged samples" (A6). The samples are the accepted ones, though no claim here needs
-- that. Answers.antt says the same of what users see. Proved in proofs/GuaranteeClaims.antt.
use Rattle.std.specs.Prelude.{Bool, true, false, ◌&&◌, ◌≡◌, ℕ, ◌+◌, min, ltb, leb, eqb, ℤ, pos, neg_ℤ, take, ◌≤ℤ◌}
use mathlib.Core.List.{List, [], ◌∷◌, ◌++◌, map, Memᴰ}
use Rattle.rounding.specs.Fraction.{Fraction, ◌over◌, ◌≤F◌, sum_ℤ}
use Rattle.rules.specs.Choice.{AllOf, any_of, every}
use Rattle.cases.specs.Figures.{Figure, exposure, unstarred}
use Rattle.rules.specs.Rules.{frames, held, entry_limit, entries, last_of, in_band, red_condition, red_lit, amber_lit}
use Rattle.rules.specs.declared.Sample.{Sample}

-- ════ The nine rows of 000, appendix 1, 4.d.(7) and (8) ════

-- "f_av,x", in hundred-thousandths as a shear is held; "Time of Exposure"; and "Alert Within", for amber by 4.d.(7), for red by (8). The words are
-- 003's; the times are in frames, twenty to a second.
pub record TestRow : Type 0 where
  pub value : ℕ
  pub exposure : ℕ
  pub caution : ℕ
  pub warning : ℕ

abbrev pub test_row : (value exposure caution warning : ℕ) → TestRow
test_row v e c w = record { value = v; exposure = e; caution = c; warning = w }

-- "no alert": both times are the exposure, as in Figures.antt
abbrev pub no_alert : (value exposure : ℕ) → TestRow
no_alert v e = test_row v e e e

unfoldable pub quiet_rows : List TestRow
quiet_rows = no_alert 2000 400 ∷ no_alert 4000 400 ∷ []

-- "rows from 0.1050 up"
unfoldable pub alert_rows : List TestRow
alert_rows =
    test_row 10500 200 200 200
    ∷ test_row 11660 180 180 180
    ∷ test_row 13110 160 160 160
    ∷ test_row 14990 140 140 140
    ∷ test_row 17480 120 124 132
    ∷ test_row 21000 100 114 124
    ∷ test_row 27000 100 100 114
    ∷ []

-- "above 8,000"
abbrev pub quiet_limit : ℕ
quiet_limit = 8000

-- the highest value that note (1) lets a row's waveform have: "restricted to 0.075 or 100 percent of f_av,x above the average shear value f_av,x,
-- whichever is less" (003)
unfoldable pub highest : TestRow → ℕ
highest r = r.value + min 7500 r.value

-- a row as 01's figures have it: a flat exposure, with an alert within the limits or without
abbrev pub flat : Bool → TestRow → Figure
flat alert r = exposure r.value r.exposure r.caution r.warning alert

-- what makes the table the one that A4 and the sheet speak of
pub record RowFacts : Type 0 where
  -- the nine rows are those of 01's figures
  pub figures : take 9 unstarred ≡ map (flat false) quiet_rows ++ map (flat true) alert_rows
  -- those that call for an alert are those "from 0.1050 up"
  pub up : every (λ r. leb 10500 r.value) alert_rows ≡ true
  pub below : every (λ r. ltb r.value 10500) quiet_rows ≡ true
  -- an average over an exposure has a positive divisor
  pub positive : every (λ r. ltb 0 r.exposure) (quiet_rows ++ alert_rows) ≡ true
  -- an exposure ends in time for either lamp
  pub in_time : every (λ r. leb r.exposure r.caution && leb r.exposure r.warning) alert_rows ≡ true
  -- "With A1's cut, waveforms lie within it": what note (1) allows does, and A1's bound is the highest of it
  pub within : every (λ r. leb (highest r) entry_limit) (quiet_rows ++ alert_rows) ≡ true
  pub highest_is : any_of (λ r. eqb (highest r) entry_limit) alert_rows ≡ true
  -- and in the rows of no alert it is not above 8,000
  pub quiet : every (λ r. leb (highest r) quiet_limit) quiet_rows ≡ true

-- ════ Waveforms: held shears, the newest first ════

-- "signs turned"
abbrev pub turned : List ℤ → List ℤ
turned = map neg_ℤ

-- the average of the last n held shears, as a fraction; "before the first sample they are zero" (01)
unfoldable pub average_over : ℕ → List ℤ → Fraction
average_over n shears = sum_ℤ (last_of n (pos 0) shears) over n

-- "no held shear is above" a number
unfoldable pub NoneAbove : ℕ → List ℤ → Type 0
NoneAbove k = AllOf (λ x. x ≤ℤ pos k)

-- "the last samples of a row's exposure have an average held shear at or above the row's value". "With A1's cut, waveforms lie within it": it is
-- enough that none is above it, as a shear below it enters the windows higher than it is.
pub record ReachesRow (r : TestRow) (shears : List ℤ) : Type 0 where
  pub average : pos r.value over 1 ≤F average_over r.exposure shears
  pub within : NoneAbove entry_limit (last_of r.exposure (pos 0) shears)

-- ════ The claims ════

-- "If the last samples of a row's exposure have an average held shear at or above the row's value, for rows from 0.1050 up, and the height is in the
-- band at its end, red is lit at that end."
unfoldable pub RedAtRow : Type 0
RedAtRow =
    (r : TestRow) → Memᴰ r alert_rows → (s : Sample) (before : List Sample)
    → ReachesRow r (entries held (s ∷ before)) → in_band s ≡ true
    → red_lit (s ∷ before) ≡ true

-- "If from a fresh start no held shear is above 8,000, red never comes on.": it is dark at the end of every such list, so at each sample of one.
-- Shears may lie as far below as they like, also below -34,500.
unfoldable pub RedNever : Type 0
RedNever = (l : List Sample) → NoneAbove quiet_limit (entries held l) → red_lit l ≡ false

-- "The same with signs turned for amber, where red is dark."
unfoldable pub AmberAtRow : Type 0
AmberAtRow =
    (r : TestRow) → Memᴰ r alert_rows → (s : Sample) (before : List Sample)
    → ReachesRow r (turned (entries held (s ∷ before))) → in_band s ≡ true → red_lit (s ∷ before) ≡ false
    → amber_lit (s ∷ before) ≡ true

-- red is left free here: amber is dark whether red is lit or not
unfoldable pub AmberNever : Type 0
AmberNever = (l : List Sample) → NoneAbove quiet_limit (turned (entries held l)) → amber_lit l ≡ false

-- "two runs with equal heights and modes, if each held shear of one is at least the other's", "with equal frames" (A6): sample by sample, the one first
unfoldable pub AtLeast : (one other : List Sample) → Type 0
AtLeast [] [] = Unit {0}
AtLeast [] (t ∷ other) = ⊥
AtLeast (s ∷ one) [] = ⊥
AtLeast (s ∷ one) (t ∷ other) =
    (s.height ≡ t.height) × (s.mode ≡ t.mode) × (frames s one ≡ frames t other) × (held t other ≤ℤ held s one) × AtLeast one other

-- ".. the red condition holds in it wherever it holds in the other.": the lists are the two runs' up to any one place. Shears beyond the cut are
-- allowed, and no rule of the red condition reads the mode.
unfoldable pub RedInOrder : Type 0
RedInOrder = (one other : List Sample) → AtLeast one other → red_condition other ≡ true → red_condition one ≡ true

-- A4, whole
pub record Guarantee : Type 0 where
  pub rows : RowFacts
  pub red_at_row : RedAtRow
  pub red_never : RedNever
  pub amber_at_row : AmberAtRow
  pub amber_never : AmberNever
  pub red_in_order : RedInOrder
