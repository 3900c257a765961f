use mathlib.Core.Bool.{true}
use mathlib.Core.Path.{◌≡◌}
use Rattle.unit.specs.Steps.{beside, entry_fits, push_times, RingValid}
use Rattle.unit.proofs.pushed_times.Given as goal

-- after so many turns the entry has come in so often, into a ring that passes 8
abbrev pub invariant-loop : goal.invariant-loop
invariant-loop l =
    record {
      fits : entry_fits l.entry ≡ true;
      ring : RingValid (beside l.held l.core);
      times : beside l.held l.core ≡ push_times l.counter (beside l.initial.held l.initial.core) l.entry;
    }
