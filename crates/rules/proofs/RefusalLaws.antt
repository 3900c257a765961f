-- The refusals' numbers: none is 0, which stands for nothing refused.
use Prim.Native.Nat.{◌<◌}
use lib.Dec.{lit<}
use Rattle.rules.specs.Refusal.{refusal_number}
use Rattle.rules.specs.declared.refusal.Refusal.{Refusal}
use Rattle.rules.specs.declared.refusal.Refusal.TheVariants.{Short, Mark, Version, Zero, Count, Length, Buffer, State, Along, Vertical, Airspeed, Height, Pitch, Stall, Climb, Vs1, Mode, Deselect, Frames, HeaderLine, Line}

pub number_positive : (why : Refusal) → 0 < refusal_number why
number_positive Short = lit< tt
number_positive Mark = lit< tt
number_positive Version = lit< tt
number_positive Zero = lit< tt
number_positive Count = lit< tt
number_positive Length = lit< tt
number_positive Buffer = lit< tt
number_positive State = lit< tt
number_positive Along = lit< tt
number_positive Vertical = lit< tt
number_positive Airspeed = lit< tt
number_positive Height = lit< tt
number_positive Pitch = lit< tt
number_positive Stall = lit< tt
number_positive Climb = lit< tt
number_positive Vs1 = lit< tt
number_positive Mode = lit< tt
number_positive Deselect = lit< tt
number_positive Frames = lit< tt
number_positive HeaderLine = lit< tt
number_positive Line = lit< tt
