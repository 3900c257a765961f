-- `host::windshear_write_record` meets its contract: it promises what `write` does, by the number of what it answers.
use mathlib.Core.Path.{◌≡◌, ◌∙◌}
use lib.ListN.{length}
use Rattle.rules.specs.Refusal.{number_of}
use Rattle.format.specs.Refusal.{write_record_refusal, written_record}
use Rattle.host.proofs.windshear_write_record.Goals as goal

pub returns : goal.returns
returns c =
    let w : record { refusal : number_of c.write.result ≡ write_record_refusal c.args.version c.args.record (length c.args.buf.now); bytes : c.write.new.buf ≡ written_record c.args.version c.args.record c.args.buf.now } = c.write.ensures in
    (c.number_of.ensures ∙ w.refusal, w.bytes)
