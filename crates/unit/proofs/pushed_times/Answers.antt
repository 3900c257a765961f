-- `unit::pushed_times` meets its contract: after so many turns the entry has come in so often.
use mathlib.Core.Path.{refl, sym, ap, ◌∙◌, subst}
use native.Mathlib.Numerals.{add-one}
use mir.Syntax.{w32}
use mir.Val.{to_z, of_z}
use mir.Facts.{to_z-of_z}
use Rattle.unit.specs.Steps.{beside, push_of, push_times, RingValid}
use Rattle.unit.specs.declared.State.{State}
use Rattle.unit.proofs.Holding.{push_valid}
use Rattle.unit.proofs.pushed_times.Goals as goal

pub loop-init : goal.loop-init
unfolding push_times
loop-init c = record { fits = rw (to_z-of_z c.ranges.entry) c.requires.1; ring = c.requires.0; times = refl }

pub loop-preserved : goal.loop-preserved
unfolding push_times
loop-preserved c =
    let i = c.loop.invariant in
    let x = to_z w32 (of_z w32 c.args.entry) in
    let e = c.pushed-core.ensures in
    record {
      fits = i.fits;
      ring = subst RingValid (sym e) (push_valid (beside c.loop.held c.loop.core) x i.fits i.ring);
      times = e ∙ ap (λ (t : State). push_of t x) i.times ∙ rw (add-one c.loop.counter);
    }
