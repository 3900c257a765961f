-- `windows::Sums::met` meets its contract: the six tests, each joined with those before it.
use mathlib.Core.Path.{◌≡◌}
use mathlib.Core.Bool.{◌||◌}
use borrow.Author.Rules.{rules}
use Rattle.rules.specs.Rules.{row, windows}
use Rattle.windows.specs.Ring.{sum_list, reached, some_reached, met_of}
use Rattle.windows.proofs.Sums.met.Goals as goal
use Rattle.windows.proofs.Sums.met.Goals.{then-reaches, else-reaches, then-reaches-2, else-reaches-2, then-reaches-3, else-reaches-3, then-reaches-4, else-reaches-4}

pub returns-then-reaches-5 : goal.returns-then-reaches-5
unfolding met_of some_reached sum_list windows
returns-then-reaches-5 c =
    let e1 : c.if-reaches.value ≡ (reached c.args.up (row 200 10500) c.args.self.s200 || reached c.args.up (row 180 11660) c.args.self.s180) = elim c.if-reaches.branch [ then-reaches w ↦ search rules | else-reaches w ↦ search rules ] in
    let e2 : c.if-reaches-2.value ≡ (c.if-reaches.value || reached c.args.up (row 160 13110) c.args.self.s160) = elim c.if-reaches-2.branch [ then-reaches-2 w ↦ search rules | else-reaches-2 w ↦ search rules ] in
    let e3 : c.if-reaches-3.value ≡ (c.if-reaches-2.value || reached c.args.up (row 140 14990) c.args.self.s140) = elim c.if-reaches-3.branch [ then-reaches-3 w ↦ search rules | else-reaches-3 w ↦ search rules ] in
    let e4 : c.if-reaches-4.value ≡ (c.if-reaches-3.value || reached c.args.up (row 120 17480) c.args.self.s120) = elim c.if-reaches-4.branch [ then-reaches-4 w ↦ search rules | else-reaches-4 w ↦ search rules ] in
    search rules

pub returns-else-reaches-5 : goal.returns-else-reaches-5
unfolding met_of some_reached sum_list windows
returns-else-reaches-5 c =
    let e1 : c.if-reaches.value ≡ (reached c.args.up (row 200 10500) c.args.self.s200 || reached c.args.up (row 180 11660) c.args.self.s180) = elim c.if-reaches.branch [ then-reaches w ↦ search rules | else-reaches w ↦ search rules ] in
    let e2 : c.if-reaches-2.value ≡ (c.if-reaches.value || reached c.args.up (row 160 13110) c.args.self.s160) = elim c.if-reaches-2.branch [ then-reaches-2 w ↦ search rules | else-reaches-2 w ↦ search rules ] in
    let e3 : c.if-reaches-3.value ≡ (c.if-reaches-2.value || reached c.args.up (row 140 14990) c.args.self.s140) = elim c.if-reaches-3.branch [ then-reaches-3 w ↦ search rules | else-reaches-3 w ↦ search rules ] in
    let e4 : c.if-reaches-4.value ≡ (c.if-reaches-3.value || reached c.args.up (row 120 17480) c.args.self.s120) = elim c.if-reaches-4.branch [ then-reaches-4 w ↦ search rules | else-reaches-4 w ↦ search rules ] in
    search rules
