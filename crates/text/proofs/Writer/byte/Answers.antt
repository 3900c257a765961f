-- `Writer::byte` meets its contract: the byte is stored at the writer's place.
use mathlib.Core.Path.{refl}
use Rattle.text.proofs.WriterLaws.{stored}
use Rattle.text.proofs.Writer.byte.Goals as goal

pub returns : goal.returns
returns c = stored {x = _} c.requires refl refl refl
