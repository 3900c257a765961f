-- The worked cases hold, as one list.
use mathlib.Core.Path.{refl}
use lib.Ieee.{round, to_bits}
use Rattle.float.specs.Cases.{NearestCases}
use Rattle.float.specs.Float.{nearest_float}

pub nearest_cases_lem : NearestCases
unfolding NearestCases nearest_float round to_bits
nearest_cases_lem = refl
