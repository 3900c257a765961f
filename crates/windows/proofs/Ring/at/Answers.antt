-- `windows::Ring::at` meets its contract: the entry so many places on.
use mathlib.Core.Path.{sym, ap, ◌∙◌}
use Prim.Native.Nat.{ℕ}
use borrow.Author.Rules.{rules}
use lib.IntN.{pos}
use lib.ListN.{get_or}
use mir.Syntax.{w32}
use mir.Facts.{to_z-of_z}
use Rattle.windows.proofs.RingLaws.{read_at}
use Rattle.windows.proofs.Ring.at.Goals as goal

pub returns : goal.returns
returns c =
    let ring = c.args.self in
    to_z-of_z {w = w32} (search rules) ∙ ap (λ (i : ℕ). get_or ring.held.now i (pos 0)) c.on.ensures.0
    ∙ sym (read_at ring.held.now ring.place c.args.n ring.whole ring.on_ring c.requires)
