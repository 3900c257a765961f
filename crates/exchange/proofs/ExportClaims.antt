-- What was imported is exported as it was, and what was exported is imported with the same samples.
use mathlib.Core.Bool.{true, false, ◌&&◌, cond}
use mathlib.Core.List.{List, [], ◌∷◌, ◌++◌, map, append_assoc}
use mathlib.Core.Path.{◌≡◌, refl, sym, ap, ◌∙◌, subst}
use Prim.Native.Nat.{ℕ, zero, suc, ◌+◌, ◌-◌, ◌≤◌, ◌<◌}
use native.Mathlib.Omega.{arith}
use borrow.Author.Tests.{eqb-true, eq-eqb}
use lib.Dec.{T, eqb}
use lib.IntN.{ℤ}
use lib.ListN.{length, take, drop, length-map, drop_of_length-le, take-append-drop}
use lib.Seq.{drop-drop}
use Rattle.format.specs.Claims.{Bytes, WritesReadAt}
use Rattle.header.specs.Header.{header_size, header, most_records, version_in, count_in, header_bytes, record_start, bytes_at, record_size}
use Rattle.format.specs.Reading.{found_record}
use Rattle.raw.specs.Record.{parse_of, record_bytes}
use Rattle.format.specs.Refusal.{sample_of, record_refusal}
use Rattle.raw.specs.declared.Record.{Record}
use Rattle.std.specs.Prelude.{Ok}
use Rattle.format.specs.declared.reading.Reading.{Reading}
use Rattle.header.proofs.Headers.{header_counted, written_read_header}
use Rattle.format.proofs.ReadingClaims.{finds_readable, writes_read_at}
use Rattle.tested.specs.Tested.{records_of}
use Rattle.runfile.specs.Run.{samples_in}
use Rattle.tested.proofs.TestedLaws.{records_length, left, left_all, left_more, left_none}
use Rattle.text.specs.Text.{absent}
use Rattle.text.proofs.TextLaws.{absent_append}
use Rattle.rules.proofs.Choices.{both_true}
use Rattle.rules.specs.Choice.{AllOf, every}
use Rattle.rules.specs.Rules.{refusal}
use Rattle.rules.specs.declared.Sample.{Sample}
use Rattle.exchange.specs.Claims.{NoneQuoted, PlainFields, PlainText, ExportsImported, ImportsExported, PlainExported, NearestSpeeds, SameBytes}
use Rattle.csv_rows.specs.Csv.{Numbers, Rows, names, speeds, comma, quote, lf, split, quoted, ends_in_cr, fields_of, same, named, numbers_of, sample_from, numbers_in, row_then, last_of, rows_of}
use Rattle.export.specs.Export.{line, sample_line, sample_lines, csv_text, export_text, export_tested, export_needs}
use Rattle.import.specs.Import.{accepted, refused, tested_rows, tested_lines, tested_text, nearest_record, records_file, run_file, imported_file}
use Rattle.export.proofs.ExportLaws.{needs_tested}
use Rattle.import.proofs.AcceptedLaws.{GoodRun, AcceptedText, accepted_text, good_accepted, in_limit, imported}
use Rattle.exchange.proofs.ImportClaims.{file_version, import_reads}
use Rattle.exchange.proofs.JoinLaws.{Some, Field, split_some, joined, joined_split, none_quoted, line_back, piece_of, fields_again, split_line, line_no_quote}
use Rattle.exchange.proofs.RowLaws.{numbers_same, texts_back, sample_texts, some_texts, all_fields, sample_again, sample_plain}
use Rattle.export.proofs.VersionLaws.{Unrefused, samples_unrefused, record_unnumbered, tested_one, Exportable, exportable}
use Rattle.csv_rows.proofs.SampleLaws.{AllInRange, Unnumbered, numbered_zero}

-- ════ The lines of a text, written back ════

-- no field on the line is quoted, as it stands before its line feed
abbrev Bare : List ℕ → Type 0
Bare l = AllOf (λ f. quoted f ≡ false) (split comma (take (length l - 1) l))

line_texts : (s : Sample) → sample_line s ≡ line (sample_texts s)
unfolding sample_line sample_texts
line_texts s = refl

row_back : (l : List ℕ) (s : Sample) (n : List ℤ) → Bare l → PlainFields speeds (fields_of l) → numbers_of speeds (fields_of l) ≡ Numbers.are n → sample_from n ≡ s → refusal s ≡ 0
    → sample_line s ≡ l ++ (lf ∷ [])
unfolding sample_texts
row_back l s n q p e i ok =
    let m : numbers_in s ≡ n = ap numbers_in (sym i) ∙ numbers_same (fields_of l) n e in
    let t : sample_texts s ≡ fields_of l =
    texts_back speeds (fields_of l) (numbers_in s) (e ∙ ap Numbers.are (sym m)) (in_limit s ok) p in
    line_texts s ∙ ap line t ∙ line_back l q (subst Some t (some_texts s))

no_rows : {samples : List Sample} → Rows.malformed ≡ Rows.are samples → ⊥
no_rows e = let z : ◌≡◌ {A = ℕ} 0 1 = cc in omega arith

-- the samples of pieces: the first piece's, and those of the later ones
record Then (l : List ℕ) (pieces : List (List ℕ)) (samples : List Sample) : Type 0 where
  numbers : List ℤ
  later : List Sample
  is : samples ≡ sample_from numbers ∷ later
  of_first : numbers_of speeds (fields_of l) ≡ Numbers.are numbers
  of_later : rows_of pieces ≡ Rows.are later

then : (l next : List ℕ) (more : List (List ℕ)) (samples : List Sample) → rows_of (l ∷ next ∷ more) ≡ Rows.are samples → Then l (next ∷ more) samples
unfolding rows_of row_then
then l next more samples = go (numbers_of speeds (fields_of l)) (rows_of (next ∷ more)) refl refl
  where
    go : (n : Numbers) (r : Rows) → numbers_of speeds (fields_of l) ≡ n → rows_of (next ∷ more) ≡ r → row_then n r ≡ Rows.are samples → Then l (next ∷ more) samples
    go Numbers.malformed r p q e = absurd (no_rows e)
    go (Numbers.are n) Rows.malformed p q e = absurd (no_rows e)
    go (Numbers.are n) (Rows.are later) p q e = record { numbers = n; later = later; is = cc; of_first = p; of_later = q }

rows_back : (pieces : List (List ℕ)) (samples : List Sample) → AllOf Bare pieces → AllOf (λ l. PlainFields speeds (fields_of l)) pieces → rows_of pieces ≡ Rows.are samples
    → AllInRange samples → joined lf pieces ≡ sample_lines samples
unfolding rows_of last_of joined sample_lines
rows_back [] samples q p e g = absurd (no_rows e)
rows_back ([] ∷ []) samples q p e g = let i : samples ≡ [] = cc in rw i
rows_back ((x ∷ l) ∷ []) samples q p e g = absurd (no_rows e)
rows_back (l ∷ next ∷ more) samples q p e g =
    let t = then l next more samples e in
    let g = subst AllInRange t.is g in
    let r = rows_back (next ∷ more) t.later q.1 p.1 t.of_later g.1 in
    ap (λ b. l ++ (lf ∷ b)) r
    ∙ sym (append_assoc l (lf ∷ []) (sample_lines t.later))
    ∙ ap (λ a. a ++ sample_lines t.later) (sym (row_back l (sample_from t.numbers) t.numbers q.0 p.0 t.of_first refl g.0))
    ∙ ap sample_lines (sym t.is)

-- ════ The header line ════

same_is : (a b : List ℕ) → same a b ≡ true → a ≡ b
unfolding same
same_is [] [] h = refl
same_is [] (y ∷ b) h = absurd (subst T (sym h) tt)
same_is (x ∷ a) [] h = absurd (subst T (sym h) tt)
same_is (x ∷ a) (y ∷ b) h = let p = both_true (eqb x y) (same a b) h in rw (eqb-true x y p.0, same_is a b p.1)

named_is : (l fields : List (List ℕ)) → named l fields ≡ true → l ≡ fields
unfolding named
named_is [] [] h = refl
named_is [] (f ∷ fields) h = absurd (subst T (sym h) tt)
named_is (n ∷ l) [] h = absurd (subst T (sym h) tt)
named_is (n ∷ l) (f ∷ fields) h = let p = both_true (same n f) (named l fields) h in rw (same_is n f p.0, named_is l fields p.1)

some_names : Some names
unfolding names
some_names = record { first = _; more = _; is = refl }

header_back : (l : List ℕ) → Bare l → named names (fields_of l) ≡ true → line names ≡ l ++ (lf ∷ [])
header_back l q h =
    let e : names ≡ fields_of l = named_is names (fields_of l) h in
    ap line e ∙ line_back l q (subst Some e some_names)

-- ════ "Exporting what was imported gives the same text" ════

text_back : (text : List ℕ) (samples : List Sample) → AcceptedText text samples → NoneQuoted text → PlainText text → csv_text samples ≡ text
unfolding csv_text NoneQuoted PlainText joined
text_back text samples a q p =
    let bare = subst (AllOf Bare) a.cut q in
    let plain = subst (λ pieces. AllOf (λ l. PlainFields speeds (fields_of l)) (drop 1 pieces)) a.cut p in
    let rows = rows_back (a.first ∷ a.more) samples bare.1 plain a.rows a.good.all in
    ap (λ t. t ++ sample_lines samples) (header_back a.header bare.0 a.named_so)
    ∙ append_assoc a.header (lf ∷ []) (sample_lines samples)
    ∙ ap (λ t. a.header ++ (lf ∷ t)) (sym rows)
    ∙ ap (joined lf) (sym a.cut) ∙ joined_split lf text

imported_tested : (text : List ℕ) (samples : List Sample) → tested_text text ≡ accepted samples → (export_tested (imported_file text)).refusal ≡ 0
imported_tested text samples e =
    let one = ap version_in (imported text samples e) ∙ file_version samples (accepted_text text samples e).good in
    rw (tested_one (imported_file text) one) (import_reads.unrefused text samples e)

pub exports_imported : ExportsImported
unfolding export_text export_needs
exports_imported =
    record {
      same_text = λ text samples e q p.
          ap csv_text (import_reads.same_samples text samples e) ∙ text_back text samples (accepted_text text samples e) q p;
      unrefused = λ text samples e. rw (eq-eqb (export_tested (imported_file text)).refusal 0 (imported_tested text samples e));
      no_quote = none_quoted;
    }

-- ════ The lines that are written, read again ════

rows_more : (l : List ℕ) (pieces : List (List ℕ)) → Some pieces → rows_of (l ∷ pieces) ≡ row_then (numbers_of speeds (fields_of l)) (rows_of pieces)
unfolding rows_of
rows_more l pieces s = rw s.is

lines_more : (l : List ℕ) (pieces : List (List ℕ)) → Some pieces → tested_lines (l ∷ pieces) ≡ cond (named names (fields_of l)) (tested_rows (rows_of pieces)) (refused 23 0)
unfolding tested_lines
lines_more l pieces s = rw s.is

module _ (s : Sample) where
  split_row : (rest : List ℕ) → split lf (sample_line s ++ rest) ≡ piece_of (sample_texts s) ∷ split lf rest
  split_row rest = ap (λ t. split lf (t ++ rest)) (line_texts s) ∙ split_line (sample_texts s) (some_texts s) (all_fields s) rest

  row_fields : fields_of (piece_of (sample_texts s)) ≡ sample_texts s
  row_fields = fields_again (sample_texts s) (some_texts s) (all_fields s)

rows_again : (samples : List Sample) → AllInRange samples → Unnumbered samples → rows_of (split lf (sample_lines samples)) ≡ Rows.are samples
unfolding rows_of last_of split sample_lines row_then sample_from numbers_in
rows_again [] h u = refl
rows_again (s ∷ later) h u =
    ap rows_of (split_row s (sample_lines later))
    ∙ rows_more (piece_of (sample_texts s)) (split lf (sample_lines later)) (split_some lf (sample_lines later))
    ∙ rw (row_fields s, sample_again s (in_limit s h.0), rows_again later h.1 u.1) (ap (λ (t : Sample). Rows.are (t ∷ later)) (numbered_zero s u.0))

-- by one computed test
tested_fields : (l : List (List ℕ)) → every (λ f. absent comma f && (absent quote f && absent lf f)) l ≡ true → AllOf Field l
unfolding every
tested_fields [] h = tt
tested_fields (f ∷ l) h =
    let p = both_true (absent comma f && (absent quote f && absent lf f)) (every _ l) h in
    let q = both_true (absent comma f) (absent quote f && absent lf f) p.0 in
    let r = both_true (absent quote f) (absent lf f) q.1 in
    (record { no_comma = q.0; no_quote = r.0; no_feed = r.1 }, tested_fields l p.1)

name_fields : AllOf Field names
unfolding names absent every
name_fields = tested_fields names refl

names_named : named names names ≡ true
unfolding named names same
names_named = refl

text_again : (samples : List Sample) → GoodRun samples → tested_text (csv_text samples) ≡ accepted samples
unfolding tested_text csv_text tested_rows
text_again samples g =
    ap tested_lines (split_line names some_names name_fields (sample_lines samples))
    ∙ lines_more (piece_of names) (split lf (sample_lines samples)) (split_some lf (sample_lines samples))
    ∙ rw (fields_again names some_names name_fields, names_named, rows_again samples g.all g.unnumbered) (good_accepted samples g)

-- ════ What was exported is imported with the same samples ════

-- an accepted file has accepted samples, and not too many
pub samples_counted : (file : List ℕ) → length (samples_in file) ≡ count_in file
unfolding samples_in records_of
samples_counted file = length-map (records_of file) sample_of ∙ records_length (version_in file) (count_in file) (drop header_size file)

good_run : (file : List ℕ) → Exportable file → GoodRun (samples_in file)
unfolding samples_in most_records
good_run file a =
    record {
      all = samples_unrefused (records_of file) a.all;
      most = omega (arith, samples_counted file, a.count, a.most);
      unnumbered = a.unnumbered;
    }

pub unrefused_file : (file : List ℕ) → (export_needs file).refusal ≡ 0 → Exportable file
unrefused_file file ok = exportable file (needs_tested file ok)

exported : (file : List ℕ) → (export_needs file).refusal ≡ 0 → tested_text (export_text file) ≡ accepted (samples_in file)
unfolding export_text
exported file ok = text_again (samples_in file) (good_run file (unrefused_file file ok))

pub imports_exported : ImportsExported
imports_exported =
    record {
      unrefused = exported;
      same_samples = λ file ok. import_reads.same_samples (export_text file) (samples_in file) (exported file ok);
    }

-- ════ What is exported is plain ════

rows_plain : (samples : List Sample) → AllInRange samples → AllOf (λ l. PlainFields speeds (fields_of l)) (split lf (sample_lines samples))
unfolding split sample_lines fields_of ends_in_cr PlainFields speeds
rows_plain [] h = (tt, tt)
rows_plain (s ∷ later) h =
    rw (split_row s (sample_lines later)) (rw (row_fields s) (sample_plain s (in_limit s h.0)), rows_plain later h.1)

text_plain : (samples : List Sample) → AllInRange samples → PlainText (csv_text samples)
unfolding PlainText csv_text
text_plain samples h = rw (split_line names some_names name_fields (sample_lines samples)) (rows_plain samples h)

lines_no_quote : (samples : List Sample) → absent quote (sample_lines samples) ≡ true
unfolding absent sample_lines
lines_no_quote [] = refl
lines_no_quote (s ∷ later) =
    absent_append quote (sample_line s) (sample_lines later)
    ∙ rw (line_texts s, line_no_quote (sample_texts s) (some_texts s) (all_fields s), lines_no_quote later)

text_no_quote : (samples : List Sample) → absent quote (csv_text samples) ≡ true
unfolding csv_text
text_no_quote samples =
    absent_append quote (line names) (sample_lines samples) ∙ rw (line_no_quote names some_names name_fields, lines_no_quote samples)

pub plain_exported : PlainExported
unfolding export_text
plain_exported =
    record {
      no_quote = λ file. text_no_quote (samples_in file);
      plain = λ file ok. text_plain (samples_in file) (good_run file (unrefused_file file ok)).all;
      same_text = λ file ok. ap csv_text (imports_exported.same_samples file ok);
    }

-- ════ And with the same bytes ════

record_same : (r : Record) → NearestSpeeds r → r.frame ≡ 0 → nearest_record (sample_of r) ≡ r
unfolding nearest_record sample_of
record_same r n e i =
    record {
      along = sym n.along i;
      vertical = sym n.vertical i;
      airspeed = sym n.airspeed i;
      height = r.height;
      pitch = r.pitch;
      stall = r.stall;
      climb = r.climb;
      vs1 = r.vs1;
      mode = r.mode;
      deselect = r.deselect;
      frame = sym e i;
    }

module _ (file : List ℕ) (a : Exportable file) (bytes : Bytes file) where
  abbrev count : ℕ
  count = count_in file

  -- the record at a place, written as it stands in the file
  bytes_same : (i : ℕ) → i < count → record_refusal (parse_of 1 (bytes_at 1 file i)) ≡ 0 → record_bytes 1 (parse_of 1 (bytes_at 1 file i)) ≡ bytes_at 1 file i
  unfolding WritesReadAt found_record
  bytes_same i below ok =
      let good = subst (λ (v : ℕ). record_refusal (parse_of v (bytes_at v file i)) ≡ 0) (sym a.version) ok in
      let f = finds_readable.finds file i (record { header = a.header; below = below; unrefused = good }) in
      subst (λ (v : ℕ). record_bytes v (parse_of v (bytes_at v file i)) ≡ bytes_at v file i) a.version
      (ap (λ (x : Reading). record_bytes (version_in file) x.«record») (sym f) ∙ writes_read_at file i bytes (ap (λ (x : Reading). x.found) f))

  -- those from a place on
  rest_same : (k i : ℕ) → k + i ≡ count → Unrefused (left 1 file count i) → AllOf NearestSpeeds (left 1 file count i)
      → records_file (map sample_of (left 1 file count i)) ≡ drop (record_start 1 i) file
  unfolding records_file record_size
  rest_same zero i e g n =
      let l : length file ≤ record_start 1 i = omega (arith, a.size, a.count) in
      ap (λ m. records_file (map sample_of m)) (left_none 1 file count i (omega arith)) ∙ sym (drop_of_length-le file {i = record_start 1 i} l)
  rest_same (suc k) i e g n =
      let below : i < count = omega arith in
      let m = left_more 1 file count i below in
      let g = subst Unrefused m g in
      let n = subst (AllOf NearestSpeeds) m n in
      let b = bytes_at 1 file i in
      let d : record_start 1 i + record_size 1 ≡ record_start 1 (i + 1) = omega arith in
      ap (λ t. records_file (map sample_of t)) m
      ∙ ap (λ r. record_bytes 1 r ++ records_file (map sample_of (left 1 file count (i + 1)))) (record_same (parse_of 1 b) n.0 (record_unnumbered b))
      ∙ rw (bytes_same i below g.0, rest_same k (i + 1) (omega arith) g.1 n.1)
      (ap (λ t. b ++ t) (ap (λ j. drop j file) (sym d) ∙ sym (drop-drop (record_size 1) (record_start 1 i) file)) ∙ take-append-drop (record_size 1) (drop (record_start 1 i) file))

pub same_bytes : SameBytes
unfolding SameBytes run_file samples_in record_size
same_bytes file ok bytes near =
    let a = unrefused_file file ok in
    let count = count_in file in
    let all = left_all 1 file count ∙ sym a.records_are in
    imported (export_text file) (samples_in file) (exported file ok)
    ∙ ap (λ c. header_bytes 1 c ++ records_file (samples_in file)) (samples_counted file)
    ∙ ap (λ h. h ++ records_file (samples_in file))
    (sym (written_read_header file 1 count bytes (header_counted file a.header ∙ ap (λ (v : ℕ). Ok (header v count)) a.version)))
    ∙ ap (λ t. take header_size file ++ t)
    (ap (λ m. records_file (map sample_of m)) (sym all) ∙ rest_same file a bytes count 0 (omega arith) (subst Unrefused (sym all) a.all) (subst (AllOf NearestSpeeds) (sym all) near))
    ∙ take-append-drop header_size file
