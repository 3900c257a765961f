-- `raw::record_bytes` meets its contract: a finite float is no NaN, and each field's bytes stand in their place.
use mathlib.Core.Path.{◌≡◌, ap, ◌∙◌}
use mathlib.Core.List.{List, ◌∷◌, ◌++◌}
use Prim.Native.Nat.{ℕ}
use borrow.Author.Rules.{rules}
use lib.IntN.{ℤ}
use mir.Syntax.{w16}
use mir.Val.{SFits, to_z, of_z}
use mir.Facts.{to_z-of_z}
use Rattle.header.specs.Words.{bytes16, unsigned16}
use Rattle.header.proofs.Digits.{spelt}
use Rattle.header.proofs.Signed16.{unsigned_is}
use Rattle.raw.specs.Record.{field_bytes, record_bytes}
use Rattle.raw.proofs.Patterns.{no_nan}
use Rattle.raw.proofs.record_bytes.Goals as goal

pub to_le_bytes-requires : goal.to_le_bytes-requires
to_le_bytes-requires c = no_nan _ c.requires.along

pub to_le_bytes-requires-2 : goal.to_le_bytes-requires-2
to_le_bytes-requires-2 c = no_nan _ c.requires.vertical

pub to_le_bytes-requires-3 : goal.to_le_bytes-requires-3
to_le_bytes-requires-3 c = no_nan _ c.requires.airspeed

-- the bytes of a field with a sign, kept in 16 bits
signed : {x : ℤ} {l : List ℕ} → SFits w16 x → l ≡ bytes16 (of_z w16 (to_z w16 (of_z w16 x))) → l ≡ bytes16 (unsigned16 x)
signed {x} f e = e ∙ ap bytes16 (ap (of_z w16) (to_z-of_z f) ∙ unsigned_is x f)

pub returns : goal.returns
unfolding record_bytes field_bytes spelt
returns c i =
    let r = c.args.r in
    spelt 4 0 (c.to_le_bytes.ensures i)
    ++ (spelt 4 0 (c.to_le_bytes-2.ensures i)
    ++ (spelt 4 0 (c.to_le_bytes-3.ensures i)
    ++ (spelt 2 0 (signed {x = r.height} (search rules) c.to_le_bytes-4.ensures i)
    ++ (spelt 2 0 (signed {x = r.pitch} (search rules) c.to_le_bytes-5.ensures i)
    ++ (spelt 2 0 (signed {x = r.stall} (search rules) c.to_le_bytes-6.ensures i)
    ++ (spelt 2 0 (signed {x = r.climb} (search rules) c.to_le_bytes-7.ensures i)
    ++ (spelt 2 0 (c.to_le_bytes-8.ensures i)
    ++ (r.mode ∷ r.deselect ∷ spelt 2 0 (c.to_le_bytes-9.ensures i)))))))))
