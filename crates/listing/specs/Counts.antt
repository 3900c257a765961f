-- What the program's clauses say of a count of a buffer's bytes.
use Rattle.std.specs.Prelude.{ℕ, ◌≤◌, List, length, take, ◌≡◌}

-- the first n of them are in the buffer, and they are n; std has the same word, in a library that a program cannot name
abbrev pub IsPrefixLen : ℕ → List ℕ → Type 0
IsPrefixLen n xs = (n ≤ length xs) × (n ≡ length (take n xs))
