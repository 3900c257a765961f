-- Texts worked out from the definitions: one list, one claim.
use mathlib.Core.List.{List, [], ◌∷◌, ◌++◌, map}
use mathlib.Core.Path.{◌≡◌, refl}
use Prim.Native.Nat.{ℕ}
use Prim.Native.String.{String}
use lib.IntN.{pos, neg_ℤ}
use lib.ListN.{replicate}
use Rattle.header.specs.Header.{most_records}
use Rattle.numbers.specs.Number.{all_digits, value_from, whole_size, two_decimals, knots_size, sign_length, with_sign, whole_of, knots_of}
use Rattle.text.specs.Text.{ascii}
use Rattle.rules.specs.Choice.{within}
use Rattle.rules.specs.Rules.{ranges, inside, in_range, first_bad, refusal}
use Rattle.rules.specs.declared.Sample.{Sample}
use Rattle.csv_rows.specs.Csv.{names, speeds, longer, split, quoted, unquoted, ends_in_cr, fields_of, same, named, number_in, and_then, numbers_of, sample_from, numbers_in, row_then, last_of, rows_of}
use Rattle.import.specs.Import.{Tested, refused, accepted, first_refused, tested_samples, tested_rows, tested_lines, tested_text}

abbrev crlf : List ℕ
crlf = 13 ∷ 10 ∷ []

abbrev head : List ℕ
head = ascii "along wind,vertical wind,true airspeed,height above ground,pitch,stall-warning pitch,climb,stall speed Vs1,mode,deselect"

abbrev good : Sample
good = sample_from (pos 2010 ∷ neg_ℤ (pos 2940) ∷ pos 14000 ∷ pos 400 ∷ pos 5000 ∷ pos 20000 ∷ neg_ℤ (pos 700) ∷ pos 10000 ∷ pos 1 ∷ pos 0 ∷ [])

abbrev one : Tested
one = accepted (good ∷ [])

abbrev zeros : Tested
zeros = accepted (sample_from (pos 0 ∷ pos 0 ∷ pos 14000 ∷ pos 0 ∷ pos 5000 ∷ pos 20000 ∷ pos 0 ∷ pos 10000 ∷ pos 1 ∷ pos 0 ∷ []) ∷ [])

abbrev line : String → List ℕ
line s = head ++ (crlf ++ (ascii s ++ crlf))

abbrev pub cases : List (List ℕ × Tested)
cases =
    (head ++ crlf, accepted [])
    ∷ ([], refused 23 0)
    ∷ (crlf, refused 23 0)
    ∷ (head, refused 23 0)
    ∷ (head ++ (13 ∷ []), refused 23 0)
    ∷ (head ++ (10 ∷ []), refused 23 0)
    ∷ (head ++ (13 ∷ 13 ∷ 10 ∷ []), refused 23 0)
    ∷ (head ++ (ascii "," ++ crlf), refused 23 0)
    ∷ (ascii " " ++ (head ++ crlf), refused 23 0)
    ∷ (0xef ∷ 0xbb ∷ 0xbf ∷ (head ++ crlf), refused 23 0)
    ∷ (ascii "\"along wind\",\"vertical wind\",\"true airspeed\",\"height above ground\",\"pitch\",\"stall-warning pitch\",\"climb\",\"stall speed Vs1\",\"mode\",\"deselect\"" ++ crlf, accepted [])
    ∷ (head ++ (crlf ++ crlf), refused 24 0)
    ∷ (line "20.10,-29.40,140.00,400,5000,20000,-700,100.00,1,0", one)
    ∷ (line "\"20.10\",\"-29.40\",140.00,400,\"5000\",20000,-700,100.00,1,\"0\"", one)
    ∷ (line "+20.10,-29.40,140.00,+400,005000,20000,-700,00100.00,+1,-0", one)
    ∷ (line "-0.00,+0.00,140.00,-0,5000,20000,+0,100.00,1,0", zeros)
    ∷ (line "20.10,-29.40,140.00,400,5000,20000,-700,100.00,1,0,", refused 24 0)
    ∷ (line "20.10,-29.40,140.00,400,5000,20000,-700,100.00,1", refused 24 0)
    ∷ (line "20\"10,-29.40,140.00,400,5000,20000,-700,100.00,1,0", refused 24 0)
    ∷ (line "\"20.10\" ,-29.40,140.00,400,5000,20000,-700,100.00,1,0", refused 24 0)
    ∷ (line "\"\"\"20.10\"\"\",-29.40,140.00,400,5000,20000,-700,100.00,1,0", refused 24 0)
    ∷ (line "\",-29.40,140.00,400,5000,20000,-700,100.00,1,0", refused 24 0)
    ∷ (line "\"\",-29.40,140.00,400,5000,20000,-700,100.00,1,0", refused 24 0)
    ∷ (line ".50,-29.40,140.00,400,5000,20000,-700,100.00,1,0", refused 24 0)
    ∷ (head ++ (crlf ++ (ascii "20.10,-29.40,140.00,400,5000,20000,-700,100.00,1,0" ++ (10 ∷ []))), refused 24 0)
    ∷ (head ++ (crlf ++ (ascii "20.10,-29.40,140.00,400,5000,20000,-700,100.00,1,0" ++ (13 ∷ 13 ∷ 10 ∷ []))), refused 24 0)
    ∷ (head ++ (crlf ++ (ascii "20.10,-29.40,140.00,400,5000,20000,-700,100.00,1,0" ++ (13 ∷ []))), refused 24 0)
    ∷ (head ++ (crlf ++ ascii "20.10,-29.40,140.00,400,5000,20000,-700,100.00,1,0"), refused 24 0)
    ∷ (head ++ (crlf ++ (ascii "20.10,-29.40,140.00,4" ++ (13 ∷ (ascii "00,5000,20000,-700,100.00,1,0" ++ crlf)))), refused 24 0)
    -- a malformed last line beats a number out of range in the first
    ∷ (line "20.10,-29.40,140.00,400,5000,20000,-700,100.00,2,0" ++ crlf, refused 24 0)
    ∷ (line "20.10,-29.40,140.00,400,5000,20000,-700,100.00,2,-1", refused 19 0)
    ∷ (line "20.10,-29.40,140.00,400,5000,20000,-700,100.00,1,0" ++ (ascii "20.10,-29.40,140.00,400,5000,20000,-700,-100.00,2,0" ++ crlf), refused 18 1)
    ∷ (head ++ (crlf ++ (replicate 5000 57 ++ (ascii ".00,-29.40,140.00,400,5000,20000,-700,100.00,1,0" ++ crlf))), refused 11 0)
    ∷ []

pub all_are : map (λ (c : List ℕ × Tested). tested_text c.0) cases ≡ map (λ (c : List ℕ × Tested). c.1) cases
unfolding within ranges inside in_range first_bad refusal all_digits value_from whole_size two_decimals knots_size sign_length with_sign whole_of knots_of names speeds longer split quoted unquoted ends_in_cr fields_of same named number_in and_then numbers_of sample_from numbers_in row_then last_of rows_of first_refused tested_samples tested_rows tested_lines tested_text most_records
all_are = refl

-- ════ Many lines: 11 to 20 come before 5, with places beyond 2,600 ════

abbrev bad : Sample
bad = sample_from []

abbrev pub counts : List (List Sample × Tested)
counts =
    (replicate 2600 good, accepted (replicate 2600 good))
    ∷ (replicate 2601 good, refused 5 0)
    ∷ (replicate 2700 good ++ (bad ∷ bad ∷ []), refused 13 2700)
    ∷ []

pub all_counted : map (λ (c : List Sample × Tested). tested_samples c.0) counts ≡ map (λ (c : List Sample × Tested). c.1) counts
unfolding within ranges inside in_range first_bad refusal sample_from first_refused tested_samples most_records
all_counted = refl
