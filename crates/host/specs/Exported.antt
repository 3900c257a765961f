-- What the C functions answer in numbers, where the crates below answer by cases.
use Rattle.std.specs.Prelude.{pos, Option, None, Some}
use Rattle.host.specs.declared.ConvertedFloat.{ConvertedFloat}
use Rattle.format.specs.Reading.{flag}
use Rattle.float.specs.declared.Converted.{Converted}

-- 1, whether it was exact and whether it was cut, and the hundredths; or all 0: a float that is not finite is neither exact nor rounded
unfoldable pub converted_numbers : Option Converted → ConvertedFloat
converted_numbers (Some c) = record { finite = 1; exact = flag c.exact; cut = flag c.cut; hundredths = c.number }
converted_numbers None = record { finite = 0; exact = 0; cut = 0; hundredths = pos 0 }
