-- `Line::write` meets its contract: its texts, one after another.
use borrow.Author.Rules.{rules}
use mir.Syntax.{w32}
use mir.Val.{SFits}
use mir.Facts.{to_z-of_z}
use Rattle.words.specs.Text.{line_text}
use Rattle.text.proofs.WriterLaws.{then}
use Rattle.words.proofs.Line.write.Goals as goal

pub returns : goal.returns
unfolding line_text
returns c =
    let fits : SFits w32 c.args.self.shear = search rules in
    let place = then c.number.ensures c.byte.ensures in
    let shear = then (then place (rw to_z-of_z at c.signed.ensures)) c.byte-2.ensures in
    let alert = then (then shear c.alert_word.ensures) c.byte-3.ensures in
    let voice = then (then alert (rw c.from.ensures at c.number-2.ensures)) c.byte-4.ensures in
    let command = then (then voice c.command_or_off.ensures) c.byte-5.ensures in
    then (then command c.float_word.ensures) c.byte-6.ensures
