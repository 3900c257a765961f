-- What the functions of this crate and of those above it ask of a sample.
use Rattle.std.specs.Prelude.{◌≤◌, pos, nat_abs, ◌≤ℤ◌}
use Rattle.rules.specs.declared.Sample.{Sample}

-- a sample that no number fits, as far as the arithmetic leans on it
pub record InRange (s : Sample) : Type 0 where
  pub along_le : nat_abs s.along ≤ 20000
  pub vertical_le : nat_abs s.vertical ≤ 10000
  pub airspeed_ge : pos 6000 ≤ℤ s.airspeed
  pub airspeed_le : nat_abs s.airspeed ≤ 60000
  pub vs1_le : nat_abs s.vs1 ≤ 30000
