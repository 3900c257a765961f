use Rattle.std.proofs.Common.{◌≡◌, ◌*◌, ◌<◌, drop}
use Rattle.numbers.specs.Number.{digits_from, number_limit, cut_size}
use Rattle.numbers.proofs.read.digits.Given as goal

-- n with the digits from b on is cut to what the whole is cut to
abbrev pub invariant-loop-b : goal.invariant-loop-b
invariant-loop-b l = (l.n < 10 * number_limit) × (cut_size (digits_from l.n (drop l.b-index l.s)) ≡ cut_size (digits_from l.start l.s))
