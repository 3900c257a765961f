-- States that differ only in how far the ring is turned are answered alike.
use mathlib.Core.Bool.{Bool, true, false, cond}
use mathlib.Core.List.{List, ◌∷◌}
use mathlib.Core.Path.{◌≡◌, refl, sym, ap, ◌∙◌}
use Prim.Native.Nat.{ℕ, zero, suc}
use borrow.Author.Tests.{eq-eqb, lt-ltb}
use lib.Dec.{eqb}
use lib.IntN.{ℤ}
use lib.ListN.{take, length-set}
use Rattle.rounding.specs.Cut.{cut}
use Rattle.claims.specs.Claims.{placed, Turned, TurnedAlike}
use Rattle.rules.specs.Rules.{entry_limit}
use Rattle.unit_core.specs.Core.{frames_of, shear_of, entry_of, core_at, core_with, lamps_of, voice_of, guide_of, pitch_of, answer_of, shown_by, counters_fit, last_fits, refused_of, refusal_by}
use Rattle.unit.specs.Steps.{beside, push_of, push_times, windows_of, accept_of, held_fits, ring_fits, passes, refusal_of, offer_of}
use Rattle.windows.specs.Ring.{read_from, back_of, moved_sums}
use Rattle.unit_core.specs.declared.Core.{Core}
use Rattle.rules.specs.declared.Sample.{Sample}
use Rattle.unit.specs.declared.State.{State}
use Rattle.windows.specs.declared.Sums.{Sums}
use Rattle.unit.proofs.Holding.{read_push, back_on_ring}
use Rattle.rules.proofs.RangeLaws.{every_turn}

-- the entries of a ring, in whatever order they are read
fits_read : (p : ℕ) (held : List ℤ) → held_fits (read_from p held) ≡ held_fits held
unfolding held_fits read_from
fits_read p held = every_turn _ p held

-- a place that differs is read by nothing but the windows
module _ (p : ℕ) (c : Core) (s : Sample) where
  frames_placed : frames_of (placed p c) s ≡ frames_of c s
  unfolding frames_of placed
  frames_placed = refl

  shear_placed : shear_of (placed p c) s ≡ shear_of c s
  unfolding shear_of frames_of placed
  shear_placed = refl

  shown_placed : (n : ℕ) → shown_by (placed p c) s n ≡ placed p (shown_by c s n)
  unfolding shown_by lamps_of voice_of pitch_of guide_of placed
  shown_placed n = refl

  answer_placed : (x : ℤ) → answer_of (placed p c) x ≡ answer_of c x
  unfolding answer_of placed
  answer_placed x = refl

  fits_placed : (counters_fit (placed p c) ≡ counters_fit c) × (last_fits (placed p c) ≡ last_fits c)
  unfolding counters_fit last_fits placed
  fits_placed = (refl, refl)

sums_alike : (t u : State) → Turned t u → t.core.sums ≡ u.core.sums
unfolding placed
sums_alike t u h = ap (λ (c : Core). c.sums) h.core

-- an entry comes into both, and as often as it does
push_alike : (t u : State) (x : ℤ) → Turned t u → Turned (push_of t x) (push_of u x)
unfolding push_of core_at placed
push_alike t u x h =
    let p = t.core.place in
    let q = u.core.place in
    record {
      long = (length-set t.held (back_of p) x ∙ h.long.0, length-set u.held (back_of q) x ∙ h.long.1);
      on_ring = (back_on_ring p h.on_ring.0, back_on_ring q h.on_ring.1);
      ring = read_push t.held p x h.long.0 h.on_ring.0 ∙ ap (λ (l : List ℤ). x ∷ take 199 l) h.ring ∙ sym (read_push u.held q x h.long.1 h.on_ring.1);
      core =
          ap (λ (l : List ℤ). core_at (moved_sums l x t.core.sums) (back_of p) t.core) h.ring
          ∙ ap (λ (sums : Sums). core_at (moved_sums (read_from q u.held) x sums) (back_of p) t.core) (sums_alike t u h)
          ∙ ap (λ (c : Core). core_at (moved_sums (read_from q u.held) x u.core.sums) (back_of p) c) h.core;
    }

times_alike : (n : ℕ) (t u : State) (x : ℤ) → Turned t u → Turned (push_times n t x) (push_times n u x)
unfolding push_times
times_alike zero t u x h = h
times_alike (suc n) t u x h = push_alike (push_times n t x) (push_times n u x) x (times_alike n t u x h)

module _ (t u : State) (s : Sample) (h : Turned t u) where
  abbrev p : ℕ
  p = t.core.place

  abbrev q : ℕ
  q = u.core.place

  -- 8 fits both or neither
  ring_alike : ring_fits t ≡ ring_fits u
  unfolding ring_fits
  ring_alike =
      rw (eq-eqb _ _ h.long.0, eq-eqb _ _ h.long.1, lt-ltb _ _ h.on_ring.0, lt-ltb _ _ h.on_ring.1, h.ring, sums_alike t u h)

  passes_alike : passes t ≡ passes u
  unfolding passes
  passes_alike =
      let f = fits_placed p u.core s in
      rw (
        sym (fits_read p t.held) ∙ ap held_fits h.ring ∙ fits_read q u.held,
        ap counters_fit h.core ∙ f.0,
        ap last_fits h.core ∙ f.1,
        ring_alike,
      )

  frames_alike : frames_of t.core s ≡ frames_of u.core s
  frames_alike = ap (λ c. frames_of c s) h.core ∙ frames_placed p u.core s

  refusal_alike : refusal_of t s ≡ refusal_of u s
  unfolding refusal_of refusal_by
  refusal_alike = rw (passes_alike, frames_alike)

  shear_alike : shear_of t.core s ≡ shear_of u.core s
  shear_alike = ap (λ c. shear_of c s) h.core ∙ shear_placed p u.core s

  entry_alike : entry_of t.core s ≡ entry_of u.core s
  unfolding entry_of
  entry_alike = ap (cut entry_limit) shear_alike

  -- the windows filled by one entry, as often as the sample stands for frames
  module _ (n : ℕ) (x : ℤ) where
    -- the place of the last of them
    abbrev at : ℕ
    at = (push_times n t x).core.place

    core_alike : (windows_of t s n x).core ≡ placed at (windows_of u s n x).core
    unfolding windows_of core_with placed
    core_alike =
        ap (λ (sums : Sums). core_with sums at s t.core) (sums_alike (push_times n t x) (push_times n u x) (times_alike n t u x h))
        ∙ ap (λ (c : Core). core_with (push_times n u x).core.sums at s c) h.core

    end_alike : shown_by (windows_of t s n x).core s n ≡ placed at (shown_by (windows_of u s n x).core s n)
    end_alike = ap (λ c. shown_by c s n) core_alike ∙ shown_placed at (windows_of u s n x).core s n

    left_alike : Turned (beside (windows_of t s n x).held (shown_by (windows_of t s n x).core s n)) (beside (windows_of u s n x).held (shown_by (windows_of u s n x).core s n))
    unfolding windows_of core_with shown_by lamps_of voice_of pitch_of
    left_alike =
        let w = times_alike n t u x h in
        record { long = w.long; on_ring = w.on_ring; ring = w.ring; core = end_alike }

  accept_alike : ((accept_of t s).answer ≡ (accept_of u s).answer) × Turned (accept_of t s).state (accept_of u s).state
  unfolding accept_of
  accept_alike =
      let n = frames_of u.core s in
      let x = entry_of u.core s in
      rw (frames_alike, entry_alike, shear_alike) (
        ap (λ c. answer_of c (shear_of u.core s)) (end_alike n x) ∙ answer_placed (at n x) (shown_by (windows_of u s n x).core s n) s (shear_of u.core s),
        left_alike n x,
      )

pub turned_alike : TurnedAlike
unfolding TurnedAlike offer_of
turned_alike t u s h = rw (refusal_alike t u s h) (go (eqb (refusal_of u s) 0))
  where
    go : (b : Bool)
        → ((cond b (accept_of t s) (record { answer = refused_of (refusal_of u s); state = t })).answer ≡ (cond b (accept_of u s) (record { answer = refused_of (refusal_of u s); state = u })).answer)
        × Turned (cond b (accept_of t s) (record { answer = refused_of (refusal_of u s); state = t })).state (cond b (accept_of u s) (record { answer = refused_of (refusal_of u s); state = u })).state
    go true = accept_alike t u s h
    go false = (refl, h)
