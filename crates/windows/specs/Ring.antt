-- The ring and its running sums: what the clauses of src/ cite (01, "The six windows"; 02, A9: "keep the history as a ring with a place, and a running
-- sum per window").
use Rattle.std.specs.Prelude.{Bool, false, ◌&&◌, ◌||◌, cond, List, [], ◌∷◌, ◌++◌, ℕ, ◌+◌, ◌-◌, ◌≤◌, ltb, eqb, ℤ, pos, neg_ℤ, nat_abs, ◌+ℤ◌, ◌-ℤ◌, get_or, take, drop}
use Rattle.std.specs.Int.Signed.{le_z}
use Rattle.rules.specs.Choice.{same}
use Rattle.rules.specs.Rules.{Window, windows, window_sum, limit}
use Rattle.windows.specs.declared.Sums.{Sums}

-- a ring read from a place on, round: the newest entry first
unfoldable pub read_from : ℕ → List ℤ → List ℤ
read_from place held = drop place held ++ take place held

-- one place back, round, which is where the next entry goes; and n places on, round
unfoldable pub back_of : ℕ → ℕ
back_of place = cond (eqb place 0) 199 (place - 1)

unfoldable pub on_of : ℕ → ℕ → ℕ
on_of place n = cond (ltb (place + n) 200) (place + n) (place + n - 200)

-- the running sum of a window of n as x enters in front of the entries: it gains x, and loses the entry that was its oldest
unfoldable pub moved_of : ℕ → List ℤ → ℤ → ℤ → ℤ
moved_of n entries x sum = (sum +ℤ x) -ℤ get_or entries (n - 1) (pos 0)

unfoldable pub moved_sums : List ℤ → ℤ → Sums → Sums
moved_sums entries x s =
    record {
      s200 = moved_of 200 entries x s.s200;
      s180 = moved_of 180 entries x s.s180;
      s160 = moved_of 160 entries x s.s160;
      s140 = moved_of 140 entries x s.s140;
      s120 = moved_of 120 entries x s.s120;
      s100 = moved_of 100 entries x s.s100;
    }

-- every window summed anew from a list of entries, the newest first
unfoldable pub sums_of : List ℤ → Sums
sums_of entries =
    record {
      s200 = window_sum 200 entries;
      s180 = window_sum 180 entries;
      s160 = window_sum 160 entries;
      s140 = window_sum 140 entries;
      s120 = window_sum 120 entries;
      s100 = window_sum 100 entries;
    }

-- the six sums in the order of the windows' table
unfoldable pub sum_list : Sums → List ℤ
sum_list s = s.s200 ∷ s.s180 ∷ s.s160 ∷ s.s140 ∷ s.s120 ∷ s.s100 ∷ []

-- whether a sum, or its opposite, reaches a window's limit
unfoldable pub reached : Bool → Window → ℤ → Bool
reached up w sum = le_z (limit w) (cond up sum (neg_ℤ sum))

-- whether some window of a table is reached by the sum that stands at its place
unfoldable pub some_reached : Bool → List Window → List ℤ → Bool
some_reached up [] sums = false
some_reached up (w ∷ table) [] = false
some_reached up (w ∷ table) (sum ∷ sums) = reached up w sum || some_reached up table sums

unfoldable pub met_of : Bool → Sums → Bool
met_of up s = some_reached up windows (sum_list s)

-- whether two are the same, sum by sum
unfoldable pub same_sums : Sums → Sums → Bool
same_sums a b =
    same a.s200 b.s200 && same a.s180 b.s180 && same a.s160 b.s160 && same a.s140 b.s140 && same a.s120 b.s120 && same a.s100 b.s100

-- ════ What the functions ask ════

-- two hundred entries of 50,000,000 at most
pub record SumsWithin (s : Sums) : Type 0 where
  pub s200 : nat_abs s.s200 ≤ 10000000000
  pub s180 : nat_abs s.s180 ≤ 10000000000
  pub s160 : nat_abs s.s160 ≤ 10000000000
  pub s140 : nat_abs s.s140 ≤ 10000000000
  pub s120 : nat_abs s.s120 ≤ 10000000000
  pub s100 : nat_abs s.s100 ≤ 10000000000
