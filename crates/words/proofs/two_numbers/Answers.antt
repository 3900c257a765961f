-- `words::two_numbers` meets its contract: its texts, one after another.
use Rattle.text.proofs.WriterLaws.{then}
use Rattle.words.proofs.two_numbers.Goals as goal

pub returns : goal.returns
returns c = then (then (then (then c.word.ensures c.number.ensures) c.word-2.ensures) c.number-2.ensures) c.byte.ensures
