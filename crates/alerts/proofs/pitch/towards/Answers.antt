-- `alerts::pitch::towards` meets its contract: each move as the definition unfolds.
use Rattle.std.proofs.Common.{rules}
use Rattle.rules.specs.Rules.{towards}
use Rattle.rules.specs.Choice.{smaller, larger}
use Rattle.alerts.proofs.pitch.towards.Goals as goal

pub returns-then-c-lt15000 : goal.returns-then-c-lt15000
unfolding towards smaller
returns-then-c-lt15000 c = search rules

pub returns-else-c-lt15000 : goal.returns-else-c-lt15000
unfolding towards larger
returns-else-c-lt15000 c = search rules
