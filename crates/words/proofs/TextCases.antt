-- The listing that 01 works out, as A1 and A2 of 02 change it, line by line, from the definitions: one list, one claim. Then a line and a total with
-- red, a refusal, numbers below 0, the greatest u32 with the least i32, and the longest line that the code can be asked for, of 55 bytes.
use mathlib.Core.Bool.{true, false}
use Rattle.std.specs.Prelude.{Some, None}
use mathlib.Core.List.{List, [], ◌∷◌}
use mathlib.Core.Path.{refl}
use Prim.Native.Nat.{ℕ}
use Prim.Native.String.{String}
use lib.IntN.{pos, neg_ℤ}
use Rattle.text.specs.Text.{digit, digits, decimal, signed_by, signed}
use Rattle.text.proofs.WriteCases.{AllAre}
use Rattle.words.specs.Text.{alert_word, command_text, float_word, header_text, line_text, total_text, refused_text}

abbrev pub cases : List (List ℕ × String)
cases =
    (header_text, "sample shear alert voice command float\n")
    ∷ (line_text 0 (pos 0) 0 0 None true, "0 0 none 0 off exact\n")
    ∷ (line_text 1 (pos 2098349) 0 0 None true, "1 2098349 none 0 off exact\n")
    ∷ (line_text 2 (pos 7143) 0 0 None true, "2 7143 none 0 off exact\n")
    ∷ (total_text 0 0, "red 0 amber 0\n")
    ∷ (line_text 60 (pos 71429) 2 1 (Some (pos 5000)) false, "60 71429 red 1 5000 rounded\n")
    ∷ (total_text 1 0, "red 1 amber 0\n")
    ∷ (refused_text 13 2, "refused 13 at 2\n")
    ∷ (line_text 10 (neg_ℤ (pos 38)) 1 0 (Some (neg_ℤ (pos 30000))) true, "10 -38 amber 0 -30000 exact\n")
    ∷ (line_text 4294967295 (neg_ℤ (pos 2147483648)) 2 3 None true, "4294967295 -2147483648 red 3 off exact\n")
    ∷ (line_text 4294967295 (neg_ℤ (pos 2147483648)) 1 65535 (Some (neg_ℤ (pos 2147483648))) false, "4294967295 -2147483648 amber 65535 -2147483648 rounded\n")
    ∷ []

pub all_are : AllAre cases
unfolding digit digits decimal signed_by signed alert_word command_text float_word header_text line_text total_text refused_text
all_are = (refl, (refl, (refl, (refl, (refl, (refl, (refl, (refl, (refl, (refl, (refl, tt)))))))))))
