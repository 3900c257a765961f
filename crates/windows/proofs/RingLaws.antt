-- Laws of the ring as it is read from its place on, newest first: where an entry stands, and how many there are.
use mathlib.Core.Bool.{cond}
use mathlib.Core.List.{List, ◌++◌}
use mathlib.Core.Path.{◌≡◌, ap, ◌∙◌}
use Prim.Native.Nat.{ℕ, ◌+◌, ◌-◌, ◌<◌}
use native.Mathlib.Omega.{arith}
use native.Mathlib.Decide.{dec_lt}
use borrow.Author.Tests.{lt-ltb, le-ltb}
use lib.Dec.{ltb}
use lib.IntN.{ℤ, pos}
use lib.ListN.{length, take, drop, get_or, length-append, length-drop, get_or-append}
use lib.Seq.{get_or-take, get_or-drop, get_or-append-add, length-take-le}
use Rattle.windows.specs.Ring.{read_from, on_of}

-- the entry that is k-th when read from the place on stands k places on
pub read_at : (held : List ℤ) (p k : ℕ) → length held ≡ 200 → p < 200 → k < 200
    → get_or (read_from p held) k (pos 0) ≡ get_or held (on_of p k) (pos 0)
unfolding read_from on_of
read_at held p k long hp hk = go (dec_lt (p + k) 200)
  where
    dropped : length (drop p held) ≡ 200 - p
    dropped = rw (length-drop, long)

    go : Dec (p + k < 200) → get_or (drop p held ++ take p held) k (pos 0) ≡ get_or held (cond (ltb (p + k) 200) (p + k) (p + k - 200)) (pos 0)
    go (yes h) =
        rw (lt-ltb (p + k) 200 h) (get_or-append (drop p held) (take p held) (pos 0) k (omega (arith, dropped)) ∙ get_or-drop p held k (pos 0))
    go (no h) =
        let j : k ≡ length (drop p held) + (p + k - 200) = omega (arith, dropped) in
        rw (le-ltb (p + k) 200 (omega arith))
        (ap (λ (i : ℕ). get_or (drop p held ++ take p held) i (pos 0)) j
        ∙ get_or-append-add (drop p held) (take p held) (p + k - 200) (pos 0) ∙ get_or-take p held (p + k - 200) (pos 0) (omega arith))

pub read_length : (held : List ℤ) (p : ℕ) → length held ≡ 200 → p < 200 → length (read_from p held) ≡ 200
unfolding read_from
read_length held p long h = rw (length-append, length-drop, length-take-le p held (omega arith)) (omega arith)
