-- A text written into a lent buffer, at the writer's place.
use Rattle.std.specs.Prelude.{List, ◌++◌, ◌≡◌, ℕ, ◌+◌, ◌≤◌, length, take, drop}
use Rattle.text.specs.declared.Writer.{Writer}

-- room for so many bytes more
abbrev pub HasRoom : Writer → ℕ → Type 0
HasRoom w n = w.at + n ≤ length w.out.now

-- what a function that writes a text leaves: it follows the bytes before the place, the place is after it, and the rest stays
pub record Puts (old : Writer) (text : List ℕ) (new : Writer) : Type 0 where
  pub same_buffer : new.out.ghost_name ≡ old.out.ghost_name
  pub size : length new.out.now ≡ length old.out.now
  pub place : new.at ≡ old.at + length text
  pub before : take new.at new.out.now ≡ take old.at old.out.now ++ text
  pub behind : drop new.at new.out.now ≡ drop (length text) (drop old.at old.out.now)
