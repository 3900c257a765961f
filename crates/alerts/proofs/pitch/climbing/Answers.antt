-- `alerts::pitch::climbing` meets its contract: both products are within 32 bits.
use borrow.Author.Rules.{rules}
use lib.Dec.{lit<}
use mir.Syntax.{w32}
use mir.Val.{SFits}
use mir.Facts.{to_z-of_z}
use Rattle.rounding.proofs.Fits.{lit, exact, kept, times}
use Rattle.rules.specs.Rules.{climbing}
use Rattle.alerts.proofs.pitch.climbing.Goals as goal

pub returns-then-s-gt0 : goal.returns-then-s-gt0
unfolding climbing
returns-then-s-gt0 c =
    let climb : SFits w32 c.args.s.sample.climb = search rules in
    let need = kept w32 (times (kept w32 (exact c.args.s.sample.vs1 c.args.s.in_range.vs1_le) (lit< tt)) (lit 13)) (lit< tt) in
    let have = kept w32 (times (kept w32 (exact c.args.s.sample.airspeed c.args.s.in_range.airspeed_le) (lit< tt)) (lit 10)) (lit< tt) in
    let t = simp to_z-of_z at c.if-s-gt0.true in
    rw (need.is, have.is, t)
