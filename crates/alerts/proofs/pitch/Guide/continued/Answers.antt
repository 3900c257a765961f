-- `alerts::pitch::Guide::continued` meets its contract: what the calls ensure, each result as it is read back.
use mathlib.Core.Path.{◌≡◌, refl, ◌∙◌}
use Prim.Native.Nat.{◌<◌}
use native.Mathlib.Omega.{arith}
use borrow.Author.Rules.{rules}
use mir.Syntax.{w32}
use mir.Val.{SFits}
use mir.Facts.{to_z-of_z}
use Rattle.rules.specs.Choice.{smaller}
use Rattle.rules.specs.Rules.{cap, towards}
use Rattle.alerts.proofs.CounterLaws.{goes_on, guide_is}
use Rattle.alerts.proofs.pitch.Guide.continued.Goals as goal

pub returns : goal.returns
unfolding smaller
returns c =
    let command : SFits w32 c.args.self.command = search rules in
    let moved : SFits w32 c.towards.result = record { sfits = c.towards.type_inv } in
    let top : SFits w32 c.cap-top.result = record { sfits = c.cap-top.type_inv } in
    let below : c.counted-count.result < 600 = omega (arith, c) in
    let d = simp to_z-of_z at c.towards.ensures in
    let e = simp to_z-of_z at c.min.ensures.value in
    let cut : smaller c.towards.result c.cap-top.result ≡ smaller (towards c.args.s.frames c.args.self.command) (cap c.args.s.sample) = rw (d, c.cap-top.ensures) refl in
    goes_on c.args.self c.args.s.sample c.args.s.frames c.counted-count.ensures below
    (guide_is refl (to_z-of_z {w = w32} (record { sfits = c.min.type_inv }) ∙ e ∙ cut))
