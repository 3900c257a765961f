-- The window argument, over the window's length, any value and any table: a held sum is within half its length of the exact one, so an exact
-- average that reaches the value and 0.000005 more meets the window, and one that lies more than 0.000005 below does not. What enters the windows
-- is what enters the exact averages, held, though the one is cut after it is rounded and the other before (`entry_is`).
use mathlib.Core.Bool.{Bool, true, false, ◌||◌}
use mathlib.Core.List.{List, [], ◌∷◌, ◌++◌, map, Memᴰ}
use mathlib.Core.Path.{◌≡◌, refl, sym, ap, ◌∙◌}
use Prim.Native.Nat.{ℕ, zero, suc, ◌+◌, ◌*◌, ◌≤◌, ◌<◌}
use native.Mathlib.Nat.{zero-mul, le_of_mul-le-mul_right, lt_of_mul-lt-mul_left, mul-pos}
use native.Mathlib.Omega.{arith}
use borrow.Author.Tests.{ltb-true}
use lib.Dec.{ltb, lit<}
use lib.IntN.{ℤ, pos, nat_abs, ◌-ℤ◌, ◌*ℤ◌}
use lib.ListN.{length, take, replicate, length-append, length-replicate}
use lib.Seq.{length-take-le}
use lib.Signed.{◌≤ℤ◌, ◌<ℤ◌}
use Rattle.rounding.specs.Claims.{RoundsThenCuts}
use Rattle.rounding.specs.Cut.{cut, cut_f}
use Rattle.rounding.specs.Fraction.{Fraction, ◌over◌, ◌+F◌, ◌≤F◌, ◌<F◌, zero_f, sum_f, times_f, round_f, AllPositive, Positive, sum_ℤ}
use Rattle.rounding.specs.Rounding.{nearest, round_away}
use Rattle.rounding.proofs.CutLaws.{cut_positive, times_cut, rounds_then_cuts}
use Rattle.rounding.proofs.Difference.{up, down, any, nat, +D, -D, *D, eq_d, le_d, lt_d, of_le, of_lt, of_size}
use Rattle.rounding.proofs.Order.{le_le_z, lt_le_z}
use Rattle.rounding.proofs.Sums.{sum_error, sum_positive}
use Rattle.rules.specs.Choice.{any_of, every}
use Rattle.claims.specs.Claims.{tolerance, table_value, average_of, Reaches, Below, PositiveDivisors}
use Rattle.rules.specs.Rules.{frames, held, held_shear, exact, entry_limit, entry, exact_entry, entries, Window, last_of, window_sum, average, limit, met_up}
use Rattle.rules.specs.declared.Sample.{Sample}
use Rattle.rules.proofs.RangeLaws.{every_member}

-- ════ Scaled sums ════

-- hundred-thousandths, rounded
abbrev hold : Fraction → ℤ
hold f = round_f (times_f 100000 f)

sum_scale : (k : ℕ) (l : List Fraction) → sum_f (map (times_f k) l) ≡ times_f k (sum_f l)
sum_scale k [] = ap (λ (n : ℕ). pos n over 1) (sym (zero-mul k))
sum_scale k (f ∷ l) =
    rw (sum_scale k l)
    (ap (λ (x : ℤ). x over (f.den * (sum_f l).den))
    (eq_d (+D (*D (*D (any f.num) (nat k)) (nat (sum_f l).den)) (*D (*D (any (sum_f l).num) (nat k)) (nat f.den)))
    (*D (+D (*D (any f.num) (nat (sum_f l).den)) (*D (any (sum_f l).num) (nat f.den))) (nat k)) (omega arith)))

positive_scale : (k : ℕ) (l : List Fraction) → AllPositive l → AllPositive (map (times_f k) l)
positive_scale k [] h = tt
positive_scale k (f ∷ l) h = (h.0, positive_scale k l h.1)

map_hold : (l : List Fraction) → map round_f (map (times_f 100000) l) ≡ map hold l
map_hold [] = refl
map_hold (f ∷ l) = ap (λ (t : List ℤ). hold f ∷ t) (map_hold l)

length-map : (l : List Fraction) → length (map (times_f 100000) l) ≡ length l
length-map [] = refl
length-map (f ∷ l) = ap suc (length-map l)

hold_error : (l : List Fraction) → AllPositive l
    → 2 * nat_abs (sum_ℤ (map hold l) *ℤ pos (sum_f l).den -ℤ (sum_f l).num *ℤ pos 100000) ≤ length l * (sum_f l).den
hold_error l h = rw (sum_scale 100000 l, map_hold l, length-map l) at (sum_error (map (times_f 100000) l) (positive_scale 100000 l h))

-- ════ From averages to sums ════

-- H is the held sum of n entries, N / D the exact one
module _ (H N : ℤ) (D n v : ℕ) (p : 0 < D) (near : 2 * nat_abs (H *ℤ pos D -ℤ N *ℤ pos 100000) ≤ n * D) where
  sum_reaches : (pos v over 100000 +F pos 5 over 1000000) ≤F (N over (D * n)) → pos (n * v) ≤ℤ H
  sum_reaches h =
      let a = of_le h (*D (+D (*D (nat v) (nat 1000000)) (*D (nat 5) (nat 100000))) (nat (D * n))) (*D (any N) (nat 100000000000)) in
      let b = of_size 2 near (-D (*D (any H) (nat D)) (*D (any N) (nat 100000))) in
      le_d (nat (n * v)) (any H) (le_of_mul-le-mul_right {m = n * v + down H} {n = up H + 0} {k = D} (omega (arith, a, b.1)) p)

  sum_below : (N over (D * n) +F pos 5 over 1000000) <F (pos v over 100000) → H <ℤ pos (n * v)
  sum_below h =
      let a = of_lt h (*D (+D (*D (any N) (nat 1000000)) (*D (nat 5) (nat (D * n)))) (nat 100000)) (*D (nat v) (nat (D * n * 1000000))) in
      let b = of_size 2 near (-D (*D (any H) (nat D)) (*D (any N) (nat 100000))) in
      lt_d (any H) (nat (n * v)) (lt_of_mul-lt-mul_left D {m = up H + 0} {n = n * v + down H} (omega (arith, a, b.0)))

-- ════ The entries ════

all_take : (n : ℕ) (l : List Fraction) → AllPositive l → AllPositive (take n l)
all_take zero l h = tt
all_take (suc n) [] h = tt
all_take (suc n) (f ∷ l) h = (h.0, all_take n l h.1)

all_zeros : (l : List Fraction) (n : ℕ) → AllPositive l → AllPositive (l ++ replicate n zero_f)
all_zeros [] zero h = tt
all_zeros [] (suc n) h = (lit< tt, all_zeros [] n h)
all_zeros (f ∷ l) n h = (h.0, all_zeros l n h.1)

map_take : (n : ℕ) (l : List Fraction) → take n (map hold l) ≡ map hold (take n l)
map_take zero l = refl
map_take (suc n) [] = refl
map_take (suc n) (f ∷ l) = ap (λ (t : List ℤ). hold f ∷ t) (map_take n l)

map_zeros : (l : List Fraction) (n : ℕ) → map hold l ++ replicate n (pos 0) ≡ map hold (l ++ replicate n zero_f)
unfolding nearest round_away
map_zeros [] zero = refl
map_zeros [] (suc n) = ap (λ (t : List ℤ). pos 0 ∷ t) (map_zeros [] n)
map_zeros (f ∷ l) n = ap (λ (t : List ℤ). hold f ∷ t) (map_zeros l n)

-- a fraction cut and then held is the fraction held and then cut
hold_cut : (f : Fraction) → Positive f → cut entry_limit (hold f) ≡ hold (cut_f (pos entry_limit over 100000) f)
unfolding RoundsThenCuts
hold_cut f p =
    rounds_then_cuts entry_limit 100000 (times_f 100000 f) (lit< tt) p ∙ ap round_f (sym (times_cut 100000 (pos entry_limit over 100000) f (lit< tt)))

-- what enters the windows is what enters the exact averages, held
entry_is : (s : Sample) (l : List Sample) → Positive (exact s l) → entry s l ≡ hold (exact_entry s l)
unfolding entry exact_entry held held_shear exact
entry_is s l p = hold_cut (exact s l) p

-- entries that come in more than once: each of them, and then the rest
all_again : (n : ℕ) (f g : Fraction) (l m : List Fraction) → (Positive f → Positive g) → (AllPositive l → AllPositive m)
    → AllPositive (replicate n f ++ l) → AllPositive (replicate n g ++ m)
all_again zero f g l m p q h = q h
all_again (suc n) f g l m p q h = (p h.0, all_again n f g l m p q h.1)

held_again : (n : ℕ) (x : ℤ) (f g : Fraction) (e : List ℤ) (l m : List Fraction) → (Positive f → x ≡ hold g) → (AllPositive l → e ≡ map hold m)
    → AllPositive (replicate n f ++ l) → replicate n x ++ e ≡ map hold (replicate n g ++ m)
held_again zero x f g e l m p q h = q h
held_again (suc n) x f g e l m p q h = rw (held_again n x f g e l m p q h.1, p h.0)

entries_are : (l : List Sample) → AllPositive (entries exact l) → entries entry l ≡ map hold (entries exact_entry l)
unfolding entries
entries_are [] h = refl
entries_are (s ∷ l) h = held_again (frames s l) (entry s l) (exact s l) (exact_entry s l) (entries entry l) (entries exact l) (entries exact_entry l) (entry_is s l) (entries_are l) h

cut_entries : (l : List Sample) → AllPositive (entries exact l) → AllPositive (entries exact_entry l)
unfolding entries exact_entry
cut_entries [] h = tt
cut_entries (s ∷ l) h = all_again (frames s l) (exact s l) (exact_entry s l) (entries exact l) (entries exact_entry l) (cut_positive (pos entry_limit over 100000) (exact s l) (lit< tt)) (cut_entries l) h

-- a window's sum is that of the exact entries, each held
window_is : (n : ℕ) (l : List Sample) → AllPositive (entries exact l)
    → window_sum n (entries entry l) ≡ sum_ℤ (map hold (last_of n zero_f (entries exact_entry l)))
unfolding window_sum last_of
window_is n l h =
    rw (entries_are l h, map_zeros (entries exact_entry l) n, map_take n (entries exact_entry l ++ replicate n zero_f))

length_last : (n : ℕ) (l : List Fraction) → length (last_of n zero_f l) ≡ n
unfolding last_of
length_last n l = length-take-le n (l ++ replicate n zero_f) (rw (length-append, length-replicate) (omega arith))

-- ════ Windows and tables ════

last_positive : (n : ℕ) (l : List Fraction) → AllPositive l → AllPositive (last_of n zero_f l)
unfolding last_of
last_positive n l h = all_take n (l ++ replicate n zero_f) (all_zeros l n h)

-- the exact sum of a window
abbrev exact_sum : ℕ → List Sample → Fraction
exact_sum n l = sum_f (last_of n zero_f (entries exact_entry l))

module _ (l : List Sample) (ok : AllPositive (entries exact l)) where
  positive_entries : AllPositive (entries exact_entry l)
  positive_entries = cut_entries l ok

  near : (n : ℕ) → 2 * nat_abs (window_sum n (entries entry l) *ℤ pos (exact_sum n l).den -ℤ (exact_sum n l).num *ℤ pos 100000) ≤ n * (exact_sum n l).den
  near n =
      rw (window_is n l ok)
      (rw (length_last n (entries exact_entry l)) at (hold_error (last_of n zero_f (entries exact_entry l)) (last_positive n (entries exact_entry l) positive_entries)))

  divisor : (n : ℕ) → 0 < (exact_sum n l).den
  divisor n = sum_positive (last_of n zero_f (entries exact_entry l)) (last_positive n (entries exact_entry l) positive_entries)

  -- the fractions of a table whose windows are not empty have positive divisors
  pub table_positive : (table : List Window) → every (λ w. ltb 0 w.samples) table ≡ true → (w : Window) → Memᴰ w table → PositiveDivisors l w
  unfolding PositiveDivisors average_of average table_value tolerance
  table_positive table e w m =
      let n : 0 < w.samples = ltb-true 0 w.samples (every_member _ table w e m) in
      let d = mul-pos (divisor w.samples) n in
      ((d, (lit< tt, (lit< tt, (lit< tt, (mul-pos d (lit< tt), positive_entries))))), ok)

  reached_met : (w : Window) → Reaches l w → met_up (entries entry l) w ≡ true
  unfolding Reaches table_value tolerance average_of average met_up limit
  reached_met w h =
      let n = w.samples in
      le_le_z (sum_reaches (window_sum n (entries entry l)) (exact_sum n l).num (exact_sum n l).den n w.value (divisor n) (near n) h)

  below_unmet : (w : Window) → Below l w → met_up (entries entry l) w ≡ false
  unfolding Below table_value tolerance average_of average met_up limit
  below_unmet w h =
      let n = w.samples in
      lt_le_z (sum_below (window_sum n (entries entry l)) (exact_sum n l).num (exact_sum n l).den n w.value (divisor n) (near n) h)

  -- some window of a table reaches its value: some window is met; all lie below: none is
  pub table_met : (table : List Window) (w : Window) → Memᴰ w table → Reaches l w → any_of (met_up (entries entry l)) table ≡ true
  unfolding any_of
  table_met [] w m h = elim m [ ]
  table_met (x ∷ table) w (Memᴰ.head e) h = rw (ap (met_up (entries entry l)) (sym e) ∙ reached_met w h)
  table_met (x ∷ table) w (Memᴰ.tail m) h = rw (table_met table w m h) (or-true (met_up (entries entry l) x))
    where
      or-true : (b : Bool) → (b || true) ≡ true
      or-true true = refl
      or-true false = refl

  pub table_unmet : (table : List Window) → ((w : Window) → Memᴰ w table → Below l w) → any_of (met_up (entries entry l)) table ≡ false
  unfolding any_of
  table_unmet [] f = refl
  table_unmet (x ∷ table) f =
      rw (below_unmet x (f x (Memᴰ.head refl)), table_unmet table (λ w m. f w (Memᴰ.tail m)))
