-- The claims on a state that holds a list of entries (02, A9), proved in proofs/Holding.antt. A list has the newest entry first.
use Rattle.std.specs.Prelude.{true, List, ◌++◌, ◌≡◌, ℕ, ◌<◌, ℤ, pos, length, replicate}
use Rattle.rules.specs.Rules.{last_of}
use Rattle.rules.specs.declared.Sample.{Sample}
use Rattle.unit.specs.Steps.{windows_of, ring_fits}
use Rattle.unit.specs.declared.State.{State}
use Rattle.windows.specs.Ring.{read_from, sums_of}

-- a state holds a list of entries, the newest first: its ring read from its place is the list's last two hundred, and its sums are the windows'
-- sums of the list
pub record HoldsList (t : State) (entries : List ℤ) : Type 0 where
  pub long : length t.held ≡ 200
  pub on_ring : t.core.place < 200
  pub ring : read_from t.core.place t.held ≡ last_of 200 (pos 0) entries
  pub sums : t.core.sums ≡ sums_of entries

-- an entry that comes in, as often as the sample stands for frames (02, A6), is held that often, on top of the list that the state held before it
unfoldable pub EnterHolds : Type 0
EnterHolds =
    (t : State) (l : List ℤ) (s : Sample) (frames : ℕ) (entry : ℤ) → HoldsList t l
    → HoldsList (windows_of t s frames entry) (replicate frames entry ++ l)

-- refusal 8 passes the ring of a state exactly where it holds a list: that of its ring, read from its place
pub record FitsHolds : Type 0 where
  pub holds : (t : State) → ring_fits t ≡ true → HoldsList t (read_from t.core.place t.held)
  pub fits : (t : State) (l : List ℤ) → HoldsList t l → ring_fits t ≡ true
