-- What one method does to one state: what the clauses of src/ cite. What it does to the core beside the ring is core's Core.antt.
use Rattle.std.specs.Prelude.{Bool, true, ◌&&◌, cond, List, ◌≡◌, ℕ, zero, suc, ◌≤◌, ltb, eqb, ℤ, pos, nat_abs, length, set, replicate}
use Rattle.alerts.specs.Counters.{GuideValid}
use Rattle.unit_core.specs.Core.{fresh_core, frames_of, shear_of, entry_of, core_at, core_with, guide_of, answer_of, refused_of, shown_by, counters_fit, last_fits, refusal_by}
use Rattle.unit_core.specs.declared.Answer.{Answer}
use Rattle.unit_core.specs.declared.Core.{Core}
use Rattle.rules.specs.Choice.{neg, first_of, within, every}
use Rattle.rules.specs.declared.Sample.{Sample}
use Rattle.unit.specs.declared.Offered.{Offered}
use Rattle.unit.specs.declared.State.{State}
use Rattle.windows.specs.Ring.{read_from, back_of, moved_sums, sums_of, same_sums}

-- a state of a ring's entries and the core beside them
abbrev pub beside : List ℤ → Core → State
beside held core = record { held = held; core = core }

unfoldable pub fresh_state : State
fresh_state = beside (replicate 200 (pos 0)) fresh_core

-- ════ Windows: "keep the history as a ring with a place, and a running sum per window" (02, A9) ════

-- an entry stored one place back, and every sum moved; and the same entry so many times
unfoldable pub push_of : State → ℤ → State
push_of t entry =
    let c = t.core in
    beside (set t.held (back_of c.place) entry) (core_at (moved_sums (read_from c.place t.held) entry c.sums) (back_of c.place) c)

unfoldable pub push_times : ℕ → State → ℤ → State
push_times zero t entry = t
push_times (suc n) t entry = push_of (push_times n t entry) entry

-- the entry has come in as many times as the sample stands for frames
unfoldable pub windows_of : State → Sample → (frames : ℕ) → ℤ → State
windows_of t s frames entry =
    let u = push_times frames t entry in
    beside u.held (core_with u.core.sums u.core.place s t.core)

-- ════ The answer and the step ════

unfoldable pub accept_of : State → Sample → Offered
accept_of t s =
    let n = frames_of t.core s in
    let filled = windows_of t s n (entry_of t.core s) in
    let end = shown_by filled.core s n in
    record { answer = answer_of end (shear_of t.core s); state = beside filled.held end }

-- ════ Refusal 8 ════

-- "a held shear beyond 50,000,000 either way"
abbrev pub entry_fits : ℤ → Bool
entry_fits x = within (neg 50000000) x (pos 50000000)

unfoldable pub held_fits : List ℤ → Bool
held_fits held = every entry_fits held

-- "a place off the ring or a sum not its window's" (02, A9); the ring is the array's two hundred entries
unfoldable pub ring_fits : State → Bool
ring_fits t = eqb (length t.held) 200 && ltb t.core.place 200 && same_sums t.core.sums (sums_of (read_from t.core.place t.held))

unfoldable pub passes : State → Bool
passes t = held_fits t.held && counters_fit t.core && last_fits t.core && ring_fits t

-- "A lone sample meets 8, then 11 to 20"; "and meets 21" (02, A6)
unfoldable pub refusal_of : State → Sample → ℕ
refusal_of t s = first_of (passes t) 8 (refusal_by t.core s)

-- "A refused sample is as if never offered."
unfoldable pub offer_of : State → Sample → Offered
offer_of t s = cond (eqb (refusal_of t s) 0) (accept_of t s) (record { answer = refused_of (refusal_of t s); state = t })

-- The promise of the plain form, of the state before, the sample, the answer and the state after: "a state in and a state out" (01, "What the
-- unit covers").
unfoldable pub PlainPromise : State → Sample → Answer → State → Type 0
PlainPromise t s a u = ◌≡◌ {A = Offered} (record { answer = a; state = u }) (offer_of t s)

-- ════ What the private functions ask ════

-- a ring that passes 8, which an entry may come into
pub record RingValid (t : State) : Type 0 where
  pub held_in : held_fits t.held ≡ true
  pub ring_in : ring_fits t ≡ true

-- a state that passes, as far as the arithmetic leans on it
pub record Valid (t : State) : Type 0 where
  pub ring : RingValid t
  pub along_le : nat_abs t.core.along ≤ 20000
  pub guide : GuideValid (guide_of t.core)
