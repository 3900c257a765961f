-- Laws of waveforms, which are lists of held shears, as they enter the windows by the cut: an average at or above a row's value meets a window that
-- covers the row, low shears meet none, larger ones meet what smaller ones do, and turned signs meet upward what was met downward. Each is over any
-- window; a table comes last.
use mathlib.Core.Bool.{Bool, true, false, ◌&&◌, ◌||◌, or-true}
use mathlib.Core.List.{List, [], ◌∷◌, ◌++◌, map}
use mathlib.Core.Path.{◌≡◌, refl, sym, ap, ◌∙◌}
use Prim.Native.Nat.{ℕ, zero, suc, ◌*◌, ◌≤◌, ◌<◌}
use native.Mathlib.Nat.{mul-le-mul_left, mul-lt-mul_of_pos_left}
use native.Mathlib.Omega.{arith}
use borrow.Author.Tests.{eqb-true, leb-true, ltb-true}
use lib.Dec.{T, ltb, leb, eqb}
use lib.IntN.{ℤ, pos, neg_ℤ, neg_ℤ-neg_ℤ}
use lib.ListN.{take, replicate}
use lib.Signed.{le_z, lt_z, ◌≤ℤ◌, ≤ℤ_refl, le_z_yes}
use Rattle.guarantee.specs.Guarantee.{TestRow, turned, average_over, ReachesRow, NoneAbove}
use Rattle.rounding.specs.Cut.{cut}
use Rattle.rounding.specs.Fraction.{sum_ℤ}
use Rattle.rounding.proofs.CutLaws.{cut_between, cut_low, cut_high, cut_le}
use Rattle.rounding.proofs.Difference.{any, nat, neg_d, +D, *D, eq_d, le_d, lt_d, of_le, of_size}
use Rattle.rounding.proofs.Order.{le_le_z, lt_le_z, lt_z_le, lt_z_false}
use Rattle.rules.specs.Choice.{any_of, every}
use Rattle.rules.specs.Rules.{entry_limit, Window, last_of, window_sum, limit, met_up, met_down}
use Rattle.rules.proofs.Choices.{cond_has, both_true, ≤ℤ-trans}

-- ════ The cut ════

-- what is at least a number, and at least the lower bound, is at least that number cut
cut_most : (k : ℕ) (x y : ℤ) → x ≤ℤ y → neg_ℤ (pos k) ≤ℤ y → cut k x ≤ℤ y
unfolding cut
cut_most k x y h l =
    cond_has (λ c. c ≤ℤ y) (lt_z x (neg_ℤ (pos k))) (λ e. l)
    (λ e. cond_has (λ c. c ≤ℤ y) (lt_z (pos k) x) (λ f. ≤ℤ-trans (lt_z_le (pos k) x f) h) (λ f. h))

cut_least : (k : ℕ) (x y : ℤ) → y ≤ℤ x → y ≤ℤ pos k → y ≤ℤ cut k x
unfolding cut
cut_least k x y h l =
    cond_has (λ c. y ≤ℤ c) (lt_z x (neg_ℤ (pos k))) (λ e. ≤ℤ-trans h (lt_z_le x (neg_ℤ (pos k)) e))
    (λ e. cond_has (λ c. y ≤ℤ c) (lt_z (pos k) x) (λ f. l) (λ f. h))

-- what is cut lies within the bounds
cut_ends : (k : ℕ) (x : ℤ) → (neg_ℤ (pos k) ≤ℤ cut k x) × (cut k x ≤ℤ pos k)
cut_ends k x =
    let s = of_size 1 {k = k} (omega (arith, cut_le k x)) (any (cut k x)) in
    (le_d (neg_d (nat k)) (any (cut k x)) (omega (arith, s.1)), le_d (any (cut k x)) (nat k) (omega (arith, s.0)))

-- a larger number is never cut to a smaller one
cut_order : (k : ℕ) (x y : ℤ) → x ≤ℤ y → cut k x ≤ℤ cut k y
cut_order k x y h = go (lt_z x (neg_ℤ (pos k))) refl
  where
    go : (t : Bool) → lt_z x (neg_ℤ (pos k)) ≡ t → cut k x ≤ℤ cut k y
    go true e = rw (cut_low k x (lt_z_le x (neg_ℤ (pos k)) e)) (cut_ends k y).0
    go false e = cut_least k y (cut k x) (≤ℤ-trans (cut_most k x x (≤ℤ_refl x) (lt_z_false x (neg_ℤ (pos k)) e)) h) (cut_ends k x).1

-- a number with its sign turned is cut to the same with its sign turned
cut_turned : (k : ℕ) (x : ℤ) → cut k (neg_ℤ x) ≡ neg_ℤ (cut k x)
cut_turned k x = go (lt_z x (neg_ℤ (pos k))) (lt_z (pos k) x) refl refl
  where
    go : (s t : Bool) → lt_z x (neg_ℤ (pos k)) ≡ s → lt_z (pos k) x ≡ t → cut k (neg_ℤ x) ≡ neg_ℤ (cut k x)
    go true t e f =
        let h = lt_z_le x (neg_ℤ (pos k)) e in
        cut_high k (neg_ℤ x) (le_d (nat k) (neg_d (any x)) (omega (arith, of_le h (any x) (neg_d (nat k)))))
        ∙ sym (ap neg_ℤ (cut_low k x h) ∙ neg_ℤ-neg_ℤ (pos k))
    go false true e f =
        let h = lt_z_le (pos k) x f in
        cut_low k (neg_ℤ x) (le_d (neg_d (any x)) (neg_d (nat k)) (omega (arith, of_le h (nat k) (any x)))) ∙ sym (ap neg_ℤ (cut_high k x h))
    go false false e f =
        let l = lt_z_false x (neg_ℤ (pos k)) e in
        let h = lt_z_false (pos k) x f in
        cut_between k (neg_ℤ x) (le_d (neg_d (nat k)) (neg_d (any x)) (omega (arith, of_le h (any x) (nat k))))
        (le_d (neg_d (any x)) (nat k) (omega (arith, of_le l (neg_d (nat k)) (any x))))
        ∙ sym (ap neg_ℤ (cut_between k x l h))

-- ════ The last entries ════

-- what enters the windows of a waveform
abbrev pub entered : List ℤ → List ℤ
entered = map (cut entry_limit)

-- what is done to each number, and nothing to zero, is done to each of the last
module _ (f : ℤ → ℤ) (zero-stays : f (pos 0) ≡ pos 0) where
  map_take : (n m : ℕ) (l : List ℤ) → take n (map f l ++ replicate m (pos 0)) ≡ map f (take n (l ++ replicate m (pos 0)))
  map_take zero m l = refl
  map_take (suc n) zero [] = refl
  map_take (suc n) (suc m) [] = ap (λ t. pos 0 ∷ t) (map_take n m []) ∙ ap (λ x. x ∷ map f (take n (replicate m (pos 0)))) (sym zero-stays)
  map_take (suc n) m (x ∷ l) = ap (λ t. f x ∷ t) (map_take n m l)

  map_last : (n : ℕ) (l : List ℤ) → last_of n (pos 0) (map f l) ≡ map f (last_of n (pos 0) l)
  unfolding last_of
  map_last n l = map_take n n l

-- the sum of the last n numbers, of which none is above k
sum_most : (k n m : ℕ) (l : List ℤ) → NoneAbove k l → sum_ℤ (take n (l ++ replicate m (pos 0))) ≤ℤ pos (n * k)
unfolding NoneAbove
sum_most k zero m l h = le_d (nat 0) (nat (0 * k)) (omega arith)
sum_most k (suc n) zero [] h = le_d (nat 0) (nat (suc n * k)) (omega arith)
sum_most k (suc n) (suc m) [] h =
    let t = sum_ℤ (take n (replicate m (pos 0))) in
    le_d (+D (nat 0) (any t)) (nat (suc n * k)) (omega (arith, of_le (sum_most k n m [] h) (any t) (nat (n * k))))
sum_most k (suc n) m (x ∷ l) h =
    let t = sum_ℤ (take n (l ++ replicate m (pos 0))) in
    le_d (+D (any x) (any t)) (nat (suc n * k)) (omega (arith, of_le h.0 (any x) (nat k), of_le (sum_most k n m l h.1) (any t) (nat (n * k))))

-- a shear as often as it enters, each changed alike
pub map_times {ℓ κ} : {A : Type ℓ} {B : Type κ} (f : A → B) (n : ℕ) (x : A) (l : List A) → map f (replicate n x ++ l) ≡ replicate n (f x) ++ map f l
map_times f zero x l = refl
map_times f (suc n) x l = ap (λ t. f x ∷ t) (map_times f n x l)

-- none is above k without the newest either
pub none_later : (k n : ℕ) (x : ℤ) (l : List ℤ) → NoneAbove k (replicate n x ++ l) → NoneAbove k l
unfolding NoneAbove
none_later k zero x l h = h
none_later k (suc n) x l h = none_later k n x l h.1

-- two waveforms, number by number, the smaller first
abbrev pub Ordered : List ℤ → List ℤ → Type 0
Ordered [] [] = Unit {0}
Ordered [] (y ∷ m) = ⊥
Ordered (x ∷ l) [] = ⊥
Ordered (x ∷ l) (y ∷ m) = (x ≤ℤ y) × Ordered l m

pub ordered_times : (n : ℕ) (x y : ℤ) (l m : List ℤ) → x ≤ℤ y → Ordered l m → Ordered (replicate n x ++ l) (replicate n y ++ m)
ordered_times zero x y l m h k = k
ordered_times (suc n) x y l m h k = (h, ordered_times n x y l m h k)

sum_order : (n k : ℕ) (l m : List ℤ) → Ordered l m → sum_ℤ (take n (l ++ replicate k (pos 0))) ≤ℤ sum_ℤ (take n (m ++ replicate k (pos 0)))
sum_order zero k l m h = ≤ℤ_refl (pos 0)
sum_order (suc n) k [] [] h = ≤ℤ_refl _
sum_order (suc n) k [] (y ∷ m) h = elim h [ ]
sum_order (suc n) k (x ∷ l) [] h = elim h [ ]
sum_order (suc n) k (x ∷ l) (y ∷ m) h =
    let s = sum_ℤ (take n (l ++ replicate k (pos 0))) in
    let t = sum_ℤ (take n (m ++ replicate k (pos 0))) in
    le_d (+D (any x) (any s)) (+D (any y) (any t)) (omega (arith, of_le h.0 (any x) (any y), of_le (sum_order n k l m h.1) (any s) (any t)))

entered_order : (l m : List ℤ) → Ordered l m → Ordered (entered l) (entered m)
entered_order [] [] h = tt
entered_order [] (y ∷ m) h = elim h [ ]
entered_order (x ∷ l) [] h = elim h [ ]
entered_order (x ∷ l) (y ∷ m) h = (cut_order entry_limit x y h.0, entered_order l m h.1)

entered_most : (k : ℕ) (l : List ℤ) → NoneAbove k l → NoneAbove k (entered l)
unfolding NoneAbove
entered_most k [] h = tt
entered_most k (x ∷ l) h = (cut_most entry_limit x (pos k) h.0 (le_d (neg_d (nat entry_limit)) (nat k) (omega arith)), entered_most k l h.1)

-- shears of which none is above the cut enter with no smaller sum
entered_raised : (l : List ℤ) → NoneAbove entry_limit l → sum_ℤ l ≤ℤ sum_ℤ (entered l)
unfolding NoneAbove
entered_raised [] h = ≤ℤ_refl (pos 0)
entered_raised (x ∷ l) h =
    let c = cut entry_limit x in
    let t = sum_ℤ (entered l) in
    let a = of_le (cut_least entry_limit x x (≤ℤ_refl x) h.0) (any x) (any c) in
    let b = of_le (entered_raised l h.1) (any (sum_ℤ l)) (any t) in
    le_d (+D (any x) (any (sum_ℤ l))) (+D (any c) (any t)) (omega (arith, a, b))

-- ════ Signs turned ════

sum_turned : (l : List ℤ) → sum_ℤ (turned l) ≡ neg_ℤ (sum_ℤ l)
sum_turned [] = refl
sum_turned (x ∷ l) = rw (sum_turned l) (eq_d (+D (neg_d (any x)) (neg_d (any (sum_ℤ l)))) (neg_d (+D (any x) (any (sum_ℤ l)))) (omega arith))

entered_turned : (l : List ℤ) → entered (turned l) ≡ turned (entered l)
entered_turned [] = refl
entered_turned (x ∷ l) = rw (cut_turned entry_limit x, entered_turned l)

-- ════ Windows ════

module _ (w : Window) where
  row_met : (r : TestRow) (l : List ℤ) → w.samples ≡ r.exposure → w.value ≤ r.value → ReachesRow r l → met_up (entered l) w ≡ true
  unfolding met_up limit window_sum average_over cut
  row_met r l e v h =
      let n = w.samples in
      let last = last_of n (pos 0) l in
      let a = of_le (rw (← e) at h.average) (*D (nat r.value) (nat n)) (*D (any (sum_ℤ last)) (nat 1)) in
      let b = of_le (entered_raised last (rw e h.within)) (any (sum_ℤ last)) (any (sum_ℤ (entered last))) in
      rw (map_last (cut entry_limit) refl n l) (le_le_z (le_d (nat (n * w.value)) (any (sum_ℤ (entered last))) (omega (arith, a, b, mul-le-mul_left n v))))

  none_met : (k : ℕ) (l : List ℤ) → 0 < w.samples → k < w.value → NoneAbove k l → met_up (entered l) w ≡ false
  unfolding met_up limit window_sum last_of
  none_met k l p v h =
      let n = w.samples in
      let t = window_sum n (entered l) in
      lt_le_z (lt_d (any t) (nat (n * w.value)) (omega (arith, of_le (sum_most k n n (entered l) (entered_most k l h)) (any t) (nat (n * k)), mul-lt-mul_of_pos_left v p)))

  order_met : (l m : List ℤ) → Ordered l m → met_up (entered l) w ≡ true → met_up (entered m) w ≡ true
  unfolding met_up limit window_sum last_of
  order_met l m h e =
      let n = w.samples in
      let t : T (le_z (limit w) (window_sum n (entered l))) = rw e tt in
      le_le_z {a = limit w} (≤ℤ-trans (le_z_yes t) (sum_order n n (entered l) (entered m) (entered_order l m h)))

  turned_met : (l : List ℤ) → met_down (entered l) w ≡ met_up (entered (turned l)) w
  unfolding met_up met_down window_sum
  turned_met l =
      let n = w.samples in
      ap (le_z (limit w)) (sym (ap sum_ℤ (ap (last_of n (pos 0)) (entered_turned l) ∙ map_last neg_ℤ refl n (entered l)) ∙ sum_turned (last_of n (pos 0) (entered l))))

-- ════ Tables ════

module _ {ℓ} {A : Type ℓ} (f g : A → Bool) where
  any_same : ((a : A) → f a ≡ g a) → (l : List A) → any_of f l ≡ any_of g l
  unfolding any_of
  any_same h [] = refl
  any_same h (a ∷ l) = rw (h a, any_same h l)

  -- some passes the second test where some passes the first
  any_follows : ((a : A) → f a ≡ true → g a ≡ true) → (l : List A) → any_of f l ≡ true → any_of g l ≡ true
  unfolding any_of
  any_follows h [] e = e
  any_follows h (a ∷ l) e = go (f a) refl (any_follows h l) e
    where
      go : (t : Bool) → f a ≡ t → (any_of f l ≡ true → any_of g l ≡ true) → (t || any_of f l) ≡ true → (g a || any_of g l) ≡ true
      go true d k e = rw (h a d)
      go false d k e = rw (k e) (or-true (g a))

  -- none passes the second where all pass the first
  any_none : ((a : A) → f a ≡ true → g a ≡ false) → (l : List A) → every f l ≡ true → any_of g l ≡ false
  unfolding any_of every
  any_none h [] e = refl
  any_none h (a ∷ l) e = let b = both_true (f a) (every f l) e in rw (h a b.0, any_none h l b.1)

-- a window covers a row: it is as long as the row's exposure, and its value is not above the row's
abbrev pub covers : TestRow → Window → Bool
covers r w = eqb w.samples r.exposure && leb w.value r.value

-- a window lies above a number
abbrev pub above : ℕ → Window → Bool
above k w = ltb 0 w.samples && ltb k w.value

module _ (table : List Window) where
  -- some window is met upward by a waveform
  abbrev pub meets : List ℤ → Bool
  meets l = any_of (met_up (entered l)) table

  pub row_meets : (r : TestRow) (l : List ℤ) → any_of (covers r) table ≡ true → ReachesRow r l → meets l ≡ true
  row_meets r l c h = any_follows (covers r) (met_up (entered l)) met table c
    where
      met : (w : Window) → covers r w ≡ true → met_up (entered l) w ≡ true
      met w e =
          let b = both_true (eqb w.samples r.exposure) (leb w.value r.value) e in
          row_met w r l (eqb-true w.samples r.exposure b.0) (leb-true w.value r.value b.1) h

  pub none_meets : (k : ℕ) (l : List ℤ) → every (above k) table ≡ true → NoneAbove k l → meets l ≡ false
  none_meets k l c h = any_none (above k) (met_up (entered l)) unmet table c
    where
      unmet : (w : Window) → above k w ≡ true → met_up (entered l) w ≡ false
      unmet w e =
          let b = both_true (ltb 0 w.samples) (ltb k w.value) e in
          none_met w k l (ltb-true 0 w.samples b.0) (ltb-true k w.value b.1) h

  pub order_meets : (l m : List ℤ) → Ordered l m → meets l ≡ true → meets m ≡ true
  order_meets l m h = any_follows (met_up (entered l)) (met_up (entered m)) (λ w. order_met w l m h) table

  pub turned_meets : (l : List ℤ) → any_of (met_down (entered l)) table ≡ meets (turned l)
  turned_meets l = any_same (met_down (entered l)) (met_up (entered (turned l))) (λ w. turned_met w l) table
