-- `Writer::word` meets its contract: the word is copied in at the writer's place.
use mathlib.Core.Path.{refl}
use native.Mathlib.Omega.{arith}
use Rattle.text.proofs.WriterLaws.{copied}
use Rattle.text.proofs.Writer.word.Goals as goal

pub returns : goal.returns
returns c = copied {x = _} c.requires c.copy_from_slice.ensures.after (omega arith) refl refl refl
