-- `unit::State::held_fits` meets its contract: the library's fold over every element is the spec's test of them.
use mathlib.Core.List.{List, [], ◌∷◌}
use mathlib.Core.Bool.{Bool, true, false, ◌&&◌}
use mathlib.Core.Path.{◌≡◌, refl, ◌∙◌}
use lib.IntN.{ℤ}
use borrow.Author.Rules.{rules}
use Rattle.std.specs.Prelude.{fold}
use Rattle.std.proofs.Common.{tests}
use Rattle.std.proofs.lemmas.Iterator.{YieldsList-from_slice}
use Rattle.std.proofs.lemmas.Iterator.Consumers.{fold_from_yields_List}
use Rattle.rules.specs.Choice.{within, every}
use Rattle.unit.specs.Steps.{entry_fits, held_fits}
use Rattle.unit.proofs.State.held_fits.Goals as goal

both : Bool → ℤ → Bool
both fits x = fits && entry_fits x

none_fit : (l : List ℤ) → fold both false l ≡ false
unfolding both
none_fit [] = refl
none_fit (x ∷ l) = none_fit l

all_fit : (l : List ℤ) → fold both true l ≡ held_fits l
unfolding both held_fits every
all_fit [] = refl
all_fit (x ∷ l) = first (entry_fits x) (all_fit l)
  where
    first : (b : Bool) → fold both true l ≡ held_fits l → fold both b l ≡ (b && held_fits l)
    first true e = e
    first false e = none_fit l

pub returns : goal.returns
unfolding within both
returns c =
    fold_from_yields_List _ both true c.fold.result c.fold.ensures.ran (YieldsList-from_slice c.args.self.now.held cc) (λ a x b q k. search (rules, tests))
    ∙ all_fit c.args.self.now.held
