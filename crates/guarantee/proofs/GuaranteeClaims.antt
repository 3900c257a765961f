-- A4's claims over lists. Red's and amber's are one argument: amber's waveform is red's with its signs turned (`amber_is`).
use mathlib.Core.Bool.{Bool, true, false, ◌&&◌, cond, and-false}
use mathlib.Core.List.{List, [], ◌∷◌, ◌++◌, Memᴰ}
use mathlib.Core.Path.{◌≡◌, refl, sym, ap, ◌∙◌}
use Prim.Native.Nat.{ℕ, zero, suc, ◌+◌}
use native.Mathlib.Omega.{arith}
use borrow.Author.Tests.{lt-ltb}
use lib.Dec.{ltb, eqb}
use lib.IntN.{ℤ, neg_ℤ}
use lib.ListN.{replicate}
use Rattle.guarantee.specs.Guarantee.{TestRow, quiet_rows, alert_rows, quiet_limit, highest, RowFacts, turned, ReachesRow, NoneAbove, RedAtRow, RedNever, AmberAtRow, AmberNever, AtLeast, RedInOrder, Guarantee}
use Rattle.guarantee.proofs.WaveLaws.{entered, map_times, none_later, Ordered, ordered_times, covers, above, meets, row_meets, none_meets, order_meets, turned_meets}
use Rattle.rounding.specs.Cut.{cut}
use Rattle.rules.proofs.Choices.{both_true}
use Rattle.claims.proofs.Follow.{not_zero}
use Rattle.rules.proofs.RangeLaws.{every_member}
use Rattle.rules.specs.Choice.{any_of, every}
use Rattle.rules.specs.Rules.{frames, held, entry_limit, entry, entries, windows, met_up, met_down, inside, band, in_band, condition, red_condition, amber_condition, lit_for, red_for, red_lit, amber_for, amber_lit}
use Rattle.rules.specs.declared.Sample.{Sample}

-- ════ The table ════

-- each row that calls for an alert is covered by some window
rows_covered : every (λ r. any_of (covers r) windows) alert_rows ≡ true
unfolding windows alert_rows every any_of
rows_covered = refl

-- every window lies above 8,000
windows_above : every (above quiet_limit) windows ≡ true
unfolding windows every
windows_above = refl

row_facts : RowFacts
unfolding quiet_rows alert_rows highest every any_of
row_facts = record { figures = refl; up = refl; below = refl; positive = refl; in_time = refl; within = refl; highest_is = refl; quiet = refl }

-- ════ The conditions by waveforms ════

entries_are : (l : List Sample) → entries entry l ≡ entered (entries held l)
unfolding entries entry
entries_are [] = refl
entries_are (s ∷ l) =
    ap (λ t. replicate (frames s l) (entry s l) ++ t) (entries_are l) ∙ sym (map_times (cut entry_limit) (frames s l) (held s l) (entries held l))

red_is : (s : Sample) (l : List Sample) → red_condition (s ∷ l) ≡ (in_band s && meets windows (entries held (s ∷ l)))
unfolding red_condition condition
red_is s l = ap (λ t. in_band s && any_of (met_up t) windows) (entries_are (s ∷ l))

amber_is : (s : Sample) (l : List Sample) → amber_condition (s ∷ l) ≡ (in_band s && meets windows (turned (entries held (s ∷ l))))
unfolding amber_condition condition
amber_is s l =
    ap (λ t. in_band s && any_of (met_down t) windows) (entries_are (s ∷ l)) ∙ ap (λ b. in_band s && b) (turned_meets windows (entries held (s ∷ l)))

-- ════ The lamps, over any condition and what keeps it dark ════

module _ (holds dark : List Sample → Bool) where
  pub lit_now : (s : Sample) (l : List Sample) → holds (s ∷ l) ≡ true → dark (s ∷ l) ≡ false → ltb 0 (lit_for holds dark (s ∷ l)) ≡ true
  unfolding lit_for
  lit_now s l h d = rw (d, h) (go (lit_for holds dark l))
    where
      go : (n : ℕ) → ltb 0 (cond (eqb n 0) 1 (n + frames s l)) ≡ true
      go zero = refl
      go (suc n) = rw (not_zero (suc n) (omega arith)) (lt-ltb 0 (suc n + frames s l) (omega arith))

  pub stays_dark : (s : Sample) (l : List Sample) → holds (s ∷ l) ≡ false → lit_for holds dark l ≡ 0 → lit_for holds dark (s ∷ l) ≡ 0
  unfolding lit_for
  stays_dark s l h d = rw (h, d) (zeros (dark (s ∷ l)))
    where
      zeros : (b : Bool) → ◌≡◌ {A = ℕ} (cond b 0 0) 0
      zeros true = refl
      zeros false = refl

  -- the condition holds in the band where a waveform meets some window
  module _ (wave : List Sample → List ℤ) (is : (s : Sample) (l : List Sample) → holds (s ∷ l) ≡ (in_band s && meets windows (wave (s ∷ l)))) where
    lit_at_row : (r : TestRow) → Memᴰ r alert_rows → (s : Sample) (l : List Sample) → ReachesRow r (wave (s ∷ l)) → in_band s ≡ true → dark (s ∷ l) ≡ false
        → ltb 0 (lit_for holds dark (s ∷ l)) ≡ true
    lit_at_row r m s l h b d =
        let covered = every_member (λ r. any_of (covers r) windows) alert_rows r rows_covered m in
        lit_now s l (is s l ∙ rw (b, row_meets windows r (wave (s ∷ l)) covered h)) d

    -- a list without its newest sample has a waveform without what that one entered
    never_lit : ((s : Sample) (l : List Sample) → NoneAbove quiet_limit (wave (s ∷ l)) → NoneAbove quiet_limit (wave l))
        → (l : List Sample) → NoneAbove quiet_limit (wave l) → lit_for holds dark l ≡ 0
    unfolding lit_for
    never_lit back [] h = refl
    never_lit back (s ∷ l) h =
        stays_dark s l (is s l ∙ rw (none_meets windows quiet_limit (wave (s ∷ l)) windows_above h) (and-false (in_band s))) (never_lit back l (back s l h))

-- ════ The claims ════

pub red_at_row : RedAtRow
unfolding RedAtRow red_lit red_for
red_at_row r m s before h b = lit_at_row red_condition (λ l. false) (entries held) red_is r m s before h b refl

pub amber_at_row : AmberAtRow
unfolding AmberAtRow amber_lit amber_for
amber_at_row = lit_at_row amber_condition red_lit (λ l. turned (entries held l)) amber_is

pub red_never : RedNever
unfolding RedNever red_lit red_for entries
red_never l h = rw (never_lit red_condition (λ l. false) (entries held) red_is (λ s l. none_later quiet_limit (frames s l) (held s l) (entries held l)) l h)

pub amber_never : AmberNever
unfolding AmberNever amber_lit amber_for entries
amber_never l h = rw (never_lit amber_condition red_lit (λ l. turned (entries held l)) amber_is back l h)
  where
    back : (s : Sample) (l : List Sample) → NoneAbove quiet_limit (turned (entries held (s ∷ l))) → NoneAbove quiet_limit (turned (entries held l))
    back s l q =
        none_later quiet_limit (frames s l) (neg_ℤ (held s l)) (turned (entries held l)) (rw (map_times neg_ℤ (frames s l) (held s l) (entries held l)) at q)

ordered : (one other : List Sample) → AtLeast one other → Ordered (entries held other) (entries held one)
unfolding AtLeast entries
ordered [] [] h = tt
ordered [] (t ∷ other) h = elim h [ ]
ordered (s ∷ one) [] h = elim h [ ]
ordered (s ∷ one) (t ∷ other) h =
    rw h.2 (ordered_times (frames t other) (held t other) (held s one) (entries held other) (entries held one) h.3 (ordered one other h.4))

same_band : (s t : Sample) (one other : List Sample) → AtLeast (s ∷ one) (t ∷ other) → in_band s ≡ in_band t
unfolding AtLeast in_band
same_band s t one other h = ap (inside band) h.0

pub red_in_order : RedInOrder
unfolding RedInOrder AtLeast
red_in_order [] [] h e = e
red_in_order [] (t ∷ other) h e = elim h [ ]
red_in_order (s ∷ one) [] h e = elim h [ ]
red_in_order (s ∷ one) (t ∷ other) h e =
    let a = both_true (in_band t) (meets windows (entries held (t ∷ other))) (sym (red_is t other) ∙ e) in
    let met = order_meets windows (entries held (t ∷ other)) (entries held (s ∷ one)) (ordered (s ∷ one) (t ∷ other) h) a.1 in
    red_is s one ∙ rw (same_band s t one other h ∙ a.0, met)

pub guarantee : Guarantee
guarantee =
    record { rows = row_facts; red_at_row = red_at_row; red_never = red_never; amber_at_row = amber_at_row; amber_never = amber_never; red_in_order = red_in_order }
