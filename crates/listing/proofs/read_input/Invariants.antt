use Prim.Native.Nat.{◌≤◌}
use lib.ListN.{length}
use Rattle.listing.proofs.read_input.Given as goal

abbrev pub invariant-loop : goal.invariant-loop
invariant-loop l = l.done ≤ length l.file
