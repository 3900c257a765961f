-- A state holds a list of entries (`HoldsList`): an entry that comes in is held too, and refusal 8 passes the ring of a state just where it holds some
-- list. One law over a window's length, `window_moves`, serves the six running sums.
use mathlib.Core.Bool.{Bool, true, false, ◌&&◌}
use mathlib.Core.List.{List, [], ◌∷◌, ◌++◌, append_assoc, append-nil}
use mathlib.Core.Path.{◌≡◌, refl, sym, ap, ◌∙◌}
use Prim.Native.Nat.{ℕ, zero, suc, ◌+◌, ◌-◌, ◌≤◌, ◌<◌}
use native.Mathlib.Nat.{not-suc-le-zero, suc-ne-zero}
use native.Mathlib.Numerals.{add-one}
use native.Mathlib.Omega.{arith}
use borrow.Author.Tests.{eqb-true, eq-eqb, ne_eqb, ltb-true, lt-ltb}
use lib.Dec.{T, lit<, lit≤}
use lib.IntN.{ℤ, pos, ◌+ℤ◌, ◌-ℤ◌}
use lib.ListN.{length, take, drop, set, get_or, replicate, length-append, length-drop, length-set, length-replicate, drop_of_length-le, replicate-append-replicate}
use lib.Seq.{take-suc, take-take, take_all, get_or-take, set_split, take-append_seam, take-append-le, drop-append_seam, length-take-le, take-set-le}
use lib.Signed.{le_z, le_z_yes, ≤ℤ_refl}
use Rattle.rounding.specs.Fraction.{sum_ℤ}
use Rattle.rounding.proofs.Difference.{any, +D, -D, eq_d, of_le}
use Rattle.rules.specs.Choice.{same}
use Rattle.unit.specs.Holds.{HoldsList, EnterHolds, FitsHolds}
use Rattle.rules.specs.Rules.{last_of, window_sum}
use Rattle.windows.specs.Ring.{read_from, back_of, moved_of, moved_sums, sums_of, same_sums}
use Rattle.unit_core.specs.Core.{frames_of, entry_of, core_at, core_with, lamps_of, voice_of, pitch_of, shown_by, fresh_core}
use Rattle.unit.specs.Steps.{push_of, push_times, windows_of, accept_of, fresh_state, entry_fits, held_fits, ring_fits, RingValid}
use Rattle.rules.specs.declared.Sample.{Sample}
use Rattle.unit.specs.declared.State.{State}
use Rattle.windows.specs.declared.Sums.{Sums}
use Rattle.rules.proofs.Choices.{both_true}
use Rattle.rules.proofs.RangeLaws.{every_set}
use Rattle.windows.proofs.RingLaws.{read_length}
use Rattle.windows.proofs.WindowLaws.{sum_more}

-- ════ A place back ════

back_zero : back_of 0 ≡ 199
unfolding back_of
back_zero = refl

back_suc : (p : ℕ) → back_of (suc p) ≡ p
unfolding back_of
back_suc p = rw (ne_eqb (suc p) 0 (suc-ne-zero p)) (omega arith)

pub back_on_ring : (p : ℕ) → p < 200 → back_of p < 200
back_on_ring zero h = rw back_zero (lit< tt)
back_on_ring (suc p) h = rw (back_suc p) (omega arith)

-- a store at q, read from q on
read_set : (held : List ℤ) (q : ℕ) (x : ℤ) → q < length held → read_from q (set held q x) ≡ x ∷ (drop (suc q) held ++ take q held)
unfolding read_from
read_set held q x h =
    let e = set_split held q x h in
    let n = length-take-le q held (omega arith) in
    let d : drop q (set held q x) ≡ x ∷ drop (suc q) held = rw e (rw n at (drop-append_seam (take q held) (x ∷ drop (suc q) held))) in
    rw (d, take-set-le q held q x (omega arith))

-- stored one place back, x comes in front, and the oldest goes
pub read_push : (held : List ℤ) (p : ℕ) (x : ℤ) → length held ≡ 200 → p < 200
    → read_from (back_of p) (set held (back_of p) x) ≡ x ∷ take 199 (read_from p held)
unfolding read_from
read_push held zero x long h =
    rw back_zero
    (read_set held 199 x (omega arith) ∙ ap (λ (l : List ℤ). x ∷ l) (rw (drop_of_length-le held {i = 200} (omega arith), append-nil held)))
read_push held (suc q) x long h =
    rw (back_suc q) (read_set held q x (omega arith) ∙ ap (λ (l : List ℤ). x ∷ l) (sym rest))
  where
    kept : length (drop (suc q) held ++ take q held) ≡ 199
    kept = rw (length-append, length-drop, length-take-le q held (omega arith)) (omega arith)

    rest : take 199 (drop (suc q) held ++ take (suc q) held) ≡ drop (suc q) held ++ take q held
    rest =
        rw (take-suc held q (pos 0) (omega arith), ← append_assoc (drop (suc q) held) (take q held) (get_or held q (pos 0) ∷ []))
        (rw kept at (take-append_seam (drop (suc q) held ++ take q held) (get_or held q (pos 0) ∷ [])))

-- ════ The plain list ════

last_push : (e : List ℤ) (x : ℤ) → x ∷ take 199 (last_of 200 (pos 0) e) ≡ last_of 200 (pos 0) (x ∷ e)
unfolding last_of
last_push e x = ap (λ (t : List ℤ). x ∷ t) (take-take 199 200 (e ++ replicate 200 (pos 0)) (lit≤ tt))

-- zeros behind a list change no entry
zero_at : (k m : ℕ) → get_or (replicate k (pos 0)) m (pos 0) ≡ pos 0
zero_at zero m = refl
zero_at (suc k) zero = refl
zero_at (suc k) (suc m) = zero_at k m

zeros_at : (e : List ℤ) (k m : ℕ) → get_or (e ++ replicate k (pos 0)) m (pos 0) ≡ get_or e m (pos 0)
zeros_at [] k m = zero_at k m
zeros_at (x ∷ e) k zero = refl
zeros_at (x ∷ e) k (suc m) = zeros_at e k m

last_at : (e : List ℤ) (m : ℕ) → m < 200 → get_or (last_of 200 (pos 0) e) m (pos 0) ≡ get_or e m (pos 0)
unfolding last_of
last_at e m h = get_or-take 200 (e ++ replicate 200 (pos 0)) m (pos 0) h ∙ zeros_at e 200 m

gain_lose : (s x y : ℤ) → ((s +ℤ y) +ℤ x) -ℤ y ≡ x +ℤ s
gain_lose s x y = eq_d (-D (+D (+D (any s) (any y)) (any x)) (any y)) (+D (any x) (any s)) (omega arith)

-- a window's sum, moved as x enters: the window's sum of the list with x
pub window_moves : (n : ℕ) (e : List ℤ) (x : ℤ) → 0 < n → n ≤ 200 → moved_of n (last_of 200 (pos 0) e) x (window_sum n e) ≡ window_sum n (x ∷ e)
unfolding moved_of window_sum last_of
window_moves zero e x h k = absurd (not-suc-le-zero h)
window_moves (suc m) e x h k =
    let i : suc m - 1 ≡ m = omega arith in
    let n : m < length (e ++ replicate (suc m) (pos 0)) = rw (length-append, length-replicate) (omega arith) in
    let more = rw add-one at (sum_more (e ++ replicate (suc m) (pos 0)) m n) in
    rw (i, last_at e m (omega arith), more, zeros_at e (suc m) m) (gain_lose (sum_ℤ (take m (e ++ replicate (suc m) (pos 0)))) x (get_or e m (pos 0)))

-- the newest n, whatever number of zeros stands behind them
take_zeros : (e : List ℤ) (n k : ℕ) → take n (e ++ replicate (n + k) (pos 0)) ≡ take n (e ++ replicate n (pos 0))
take_zeros e n k =
    rw (← replicate-append-replicate n k (pos 0), ← append_assoc e (replicate n (pos 0)) (replicate k (pos 0)))
    (take-append-le n (e ++ replicate n (pos 0)) (replicate k (pos 0)) (rw (length-append, length-replicate) (omega arith)))

-- a window of the last two hundred is that of the list
window_last : (e : List ℤ) (n k : ℕ) → n + k ≡ 200 → window_sum n (last_of 200 (pos 0) e) ≡ window_sum n e
unfolding window_sum last_of
window_last e n k h =
    let long : length (take 200 (e ++ replicate 200 (pos 0))) ≡ 200 =
    length-take-le 200 (e ++ replicate 200 (pos 0)) (rw (length-append, length-replicate) (omega arith)) in
    ap sum_ℤ
    (take-append-le n (take 200 (e ++ replicate 200 (pos 0))) (replicate n (pos 0)) (omega arith)
    ∙ take-take n 200 (e ++ replicate 200 (pos 0)) (omega arith)
    ∙ (rw h at (take_zeros e n k)))

-- ════ The six sums ════

sums_move : (e : List ℤ) (x : ℤ) → moved_sums (last_of 200 (pos 0) e) x (sums_of e) ≡ sums_of (x ∷ e)
unfolding moved_sums sums_of
sums_move e x =
    rw (
      window_moves 200 e x (lit< tt) (lit≤ tt),
      window_moves 180 e x (lit< tt) (lit≤ tt),
      window_moves 160 e x (lit< tt) (lit≤ tt),
      window_moves 140 e x (lit< tt) (lit≤ tt),
      window_moves 120 e x (lit< tt) (lit≤ tt),
      window_moves 100 e x (lit< tt) (lit≤ tt),
    )

sums_last : (e : List ℤ) → sums_of (last_of 200 (pos 0) e) ≡ sums_of e
unfolding sums_of
sums_last e =
    rw (window_last e 200 0 refl, window_last e 180 20 refl, window_last e 160 40 refl, window_last e 140 60 refl, window_last e 120 80 refl, window_last e 100 100 refl)

-- ════ A state holds a list ════

pub fresh_holds : HoldsList fresh_state []
unfolding fresh_state fresh_core read_from last_of sums_of window_sum
fresh_holds = record { long = refl; on_ring = lit< tt; ring = refl; sums = refl }

-- and with one entry more where that entry comes in
pub push_holds : (t : State) (e : List ℤ) (x : ℤ) → HoldsList t e → HoldsList (push_of t x) (x ∷ e)
unfolding push_of core_at
push_holds t e x h =
    let p = t.core.place in
    record {
      long = length-set t.held (back_of p) x ∙ h.long;
      on_ring = back_on_ring p h.on_ring;
      ring = read_push t.held p x h.long h.on_ring ∙ ap (λ (l : List ℤ). x ∷ take 199 l) h.ring ∙ last_push e x;
      sums = rw (h.ring, h.sums) (sums_move e x);
    }

-- and with it as often as it comes in
pub times_hold : (n : ℕ) (t : State) (e : List ℤ) (x : ℤ) → HoldsList t e → HoldsList (push_times n t x) (replicate n x ++ e)
unfolding push_times
times_hold zero t e x h = h
times_hold (suc n) t e x h = push_holds (push_times n t x) (replicate n x ++ e) x (times_hold n t e x h)

pub enter_holds : EnterHolds
unfolding EnterHolds windows_of core_with
enter_holds t e s n x h =
    let w = times_hold n t e x h in
    record { long = w.long; on_ring = w.on_ring; ring = w.ring; sums = w.sums }

-- lamps, voice and pitch leave the ring and the sums alone
pub accept_holds : (t : State) (s : Sample) (e : List ℤ) → HoldsList t e
    → HoldsList (accept_of t s).state (replicate (frames_of t.core s) (entry_of t.core s) ++ e)
unfolding EnterHolds accept_of shown_by lamps_of voice_of pitch_of
accept_holds t s e h =
    let w = enter_holds t e s (frames_of t.core s) (entry_of t.core s) h in
    record { long = w.long; on_ring = w.on_ring; ring = w.ring; sums = w.sums }

-- ════ Refusal 8's test of the ring ════

same_self : (x : ℤ) → same x x ≡ true
unfolding same
same_self x = go (le_z x x) (≤ℤ_refl x).le
  where
    go : (b : Bool) → T b → (b && b) ≡ true
    go true t = refl
    go false t = absurd t

same_is : (x y : ℤ) → same x y ≡ true → x ≡ y
unfolding same
same_is x y e =
    let b = both_true (le_z x y) (le_z y x) e in
    let p = of_le (le_z_yes (rw b.0 tt)) (any x) (any y) in
    let q = of_le (le_z_yes (rw b.1 tt)) (any y) (any x) in
    eq_d (any x) (any y) (omega (arith, p, q))

sums_same : (a : Sums) → same_sums a a ≡ true
unfolding same_sums
sums_same a = rw (same_self a.s200, same_self a.s180, same_self a.s160, same_self a.s140, same_self a.s120, same_self a.s100)

-- sums that differ in none
same_fields : {a b c d e f g h i j k l : ℤ} → a ≡ b → c ≡ d → e ≡ f → g ≡ h → i ≡ j → k ≡ l
    → ◌≡◌ {A = Sums} (record { s200 = a; s180 = c; s160 = e; s140 = g; s120 = i; s100 = k }) (record { s200 = b; s180 = d; s160 = f; s140 = h; s120 = j; s100 = l })
same_fields p q r s t u = rw (p, q, r, s, t, u)

sums_are : (a b : Sums) → same_sums a b ≡ true → a ≡ b
unfolding same_sums
sums_are a b e =
    let t5 = both_true _ _ e in
    let t4 = both_true _ _ t5.0 in
    let t3 = both_true _ _ t4.0 in
    let t2 = both_true _ _ t3.0 in
    let t1 = both_true _ _ t2.0 in
    same_fields (same_is a.s200 b.s200 t1.0) (same_is a.s180 b.s180 t1.1) (same_is a.s160 b.s160 t2.1) (same_is a.s140 b.s140 t3.1) (same_is a.s120 b.s120 t4.1) (same_is a.s100 b.s100 t5.1)

holds_ring : (t : State) (e : List ℤ) → HoldsList t e → ring_fits t ≡ true
unfolding ring_fits
holds_ring t e h =
    rw (eq-eqb (length t.held) 200 h.long, lt-ltb t.core.place 200 h.on_ring, h.ring, h.sums, sums_last e) (sums_same (sums_of e))

-- two hundred entries are their own last two hundred
whole : (e : List ℤ) → length e ≡ 200 → e ≡ last_of 200 (pos 0) e
unfolding last_of
whole e h = sym (take-append-le 200 e (replicate 200 (pos 0)) (omega arith) ∙ take_all 200 e (omega arith))

ring_holds : (t : State) → ring_fits t ≡ true → HoldsList t (read_from t.core.place t.held)
unfolding ring_fits
ring_holds t e =
    let b = both_true _ _ e in
    let a = both_true _ _ b.0 in
    let long : length t.held ≡ 200 = eqb-true (length t.held) 200 a.0 in
    let on : t.core.place < 200 = ltb-true t.core.place 200 a.1 in
    record { long = long; on_ring = on; ring = whole (read_from t.core.place t.held) (read_length t.held t.core.place long on); sums = sums_are _ _ b.1 }

pub fits_holds : FitsHolds
fits_holds = record { holds = ring_holds; fits = holds_ring }

-- ════ A ring that passes 8 ════

-- it does with one entry more that fits, and with that entry as often as it comes in
pub push_valid : (t : State) (x : ℤ) → entry_fits x ≡ true → RingValid t → RingValid (push_of t x)
unfolding held_fits push_of
push_valid t x f v =
    record {
      held_in = every_set entry_fits t.held (back_of t.core.place) x v.held_in f;
      ring_in = holds_ring (push_of t x) _ (push_holds t _ x (ring_holds t v.ring_in));
    }

pub times_valid : (n : ℕ) (t : State) (x : ℤ) → entry_fits x ≡ true → RingValid t → RingValid (push_times n t x)
unfolding push_times
times_valid zero t x f v = v
times_valid (suc n) t x f v = push_valid (push_times n t x) x f (times_valid n t x f v)
