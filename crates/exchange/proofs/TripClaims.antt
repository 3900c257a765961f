-- The round trips by what calls promise: a call that is answered 0 left what the definitions say.
use mathlib.Core.Bool.{Bool, true, false, cond}
use mathlib.Core.List.{List}
use mathlib.Core.Path.{◌≡◌, refl, sym, ap, ◌∙◌}
use Prim.Native.Nat.{ℕ, ◌+◌, ◌*◌}
use native.Mathlib.Omega.{arith}
use borrow.Author.Tests.{eqb-true, eqb-false, eq-eqb}
use lib.Dec.{eqb}
use lib.ListN.{length}
use Rattle.header.specs.Header.{header_size, record_size}
use Rattle.tested.specs.Tested.{tested_of}
use Rattle.runfile.specs.Run.{samples_in}
use Rattle.rules.specs.declared.Sample.{Sample}
use Rattle.exchange.specs.Claims.{SameBytes, Imports, Exports, RoundTrips}
use Rattle.export.specs.Export.{export_text, export_needs}
use Rattle.import.specs.Import.{accepted, tested_text, imported_file, needed_by, import_needs}
use Rattle.csv_rows.specs.Answer.{exchanged_by, left_by}
use Rattle.csv_rows.specs.declared.Exchanged.{Exchanged}
use Rattle.csv_rows.specs.declared.Needed.{Needed}
use Rattle.exchange.proofs.ExportClaims.{exports_imported, imports_exported, unrefused_file, same_bytes, samples_counted}
use Rattle.import.proofs.AcceptedLaws.{taken}
use Rattle.exchange.proofs.ImportClaims.{import_reads}

-- ════ A call that is answered 0 ════

-- nothing refuses what comes in, and the buffer has the output's length
answered : (n : Needed) (size : ℕ) → (exchanged_by n size).refusal ≡ 0 → (n.refusal ≡ 0) × (size ≡ n.length)
unfolding exchanged_by
answered n size = go (eqb n.refusal 0) (eqb size n.length) refl refl
  where
    go : (t fits : Bool) → eqb n.refusal 0 ≡ t → eqb size n.length ≡ fits
        → (cond {A = Exchanged} t (cond fits (record { place = 0; refusal = 0 }) (record { place = 0; refusal = 7 })) (record { place = n.place; refusal = n.refusal })).refusal ≡ 0
        → (n.refusal ≡ 0) × (size ≡ n.length)
    go true true e f k = (eqb-true n.refusal 0 e, eqb-true size n.length f)
    go true false e f k = absurd (omega arith)
    go false fits e f k = absurd (eqb-false n.refusal 0 e k)

-- and where that is so it is answered 0, and the buffer holds the output
done : (n : Needed) (size : ℕ) → n.refusal ≡ 0 → size ≡ n.length → (exchanged_by n size).refusal ≡ 0
unfolding exchanged_by
done n size e f = rw (eq-eqb n.refusal 0 e, eq-eqb size n.length f)

output : (n : Needed) (out buf : List ℕ) → (exchanged_by n (length buf)).refusal ≡ 0 → left_by n out buf ≡ out
unfolding left_by
output n out buf e = rw (eq-eqb (exchanged_by n (length buf)).refusal 0 e)

-- ════ Import ════

record Imported (text file : List ℕ) : Type 0 where
  samples : List Sample
  tested : tested_text text ≡ accepted samples
  is : file ≡ imported_file text

imported : {text file : List ℕ} → Imports text file → Imported text file
imported {text} {file} c =
    let e : (exchanged_by (import_needs text) (length c.before)).refusal ≡ 0 = ap (λ (x : Exchanged). x.refusal) (sym c.promise.answered) ∙ c.done in
    let t = taken text (answered (import_needs text) (length c.before) e).0 in
    record { samples = t.samples; tested = t.tested; is = c.promise.left ∙ output (import_needs text) (imported_file text) c.before e }

-- ════ Export ════

record Exported (file text : List ℕ) : Type 0 where
  unrefused : (export_needs file).refusal ≡ 0
  is : text ≡ export_text file

exported : {file text : List ℕ} → Exports file text → Exported file text
exported {file} {text} c =
    let e : (exchanged_by (export_needs file) (length c.before)).refusal ≡ 0 = ap (λ (x : Exchanged). x.refusal) (sym c.promise.answered) ∙ c.done in
    record {
      unrefused = (answered (export_needs file) (length c.before) e).0;
      is = c.promise.left ∙ output (export_needs file) (export_text file) c.before e;
    }

-- ════ Both ════

reads : (text file : List ℕ) → Imports text file → ((tested_of file).refusal ≡ 0) × (tested_text text ≡ accepted (samples_in file))
reads text file c =
    let i = imported c in
    let same : samples_in file ≡ i.samples = ap samples_in i.is ∙ import_reads.same_samples text i.samples i.tested in
    (rw i.is (import_reads.unrefused text i.samples i.tested), i.tested ∙ ap accepted (sym same))

-- what is imported of an export
again : {file text back : List ℕ} → Exports file text → Imports text back → back ≡ imported_file (export_text file)
again x c = (imported c).is ∙ ap imported_file (exported x).is

needs_none : (text : List ℕ) (samples : List Sample) → tested_text text ≡ accepted samples → (import_needs text).refusal ≡ 0
unfolding import_needs needed_by
needs_none text samples e = rw e

needs_all : (text : List ℕ) (samples : List Sample) → tested_text text ≡ accepted samples → (import_needs text).length ≡ header_size + 24 * length samples
unfolding import_needs needed_by record_size
needs_all text samples e = rw e

pub round_trips : RoundTrips
unfolding SameBytes
round_trips =
    record {
      reads = reads;
      text_back = λ text file back c x q p.
          let i = imported c in
          (exported x).is ∙ ap export_text i.is ∙ exports_imported.same_text text i.samples i.tested q p;
      samples_back = λ file text back x c. ap samples_in (again x c) ∙ imports_exported.same_samples file (exported x).unrefused;
      bytes_back = λ file text back x c bytes near. again x c ∙ same_bytes file (exported x).unrefused bytes near;
      exports = λ text file c before after e p room.
          let i = imported c in
          let n : (export_needs file).refusal ≡ 0 = rw i.is (exports_imported.unrefused text i.samples i.tested) in
          ap (λ (a : Exchanged). a.refusal) p.answered ∙ done (export_needs file) (length before) n room;
      imports = λ file text x before after e p room.
          let o = exported x in
          let t : tested_text text ≡ accepted (samples_in file) = rw o.is (imports_exported.unrefused file o.unrefused) in
          let a = unrefused_file file o.unrefused in
          let l : length file ≡ (import_needs text).length =
          a.size ∙ ap (λ n. header_size + 24 * n) (a.count ∙ sym (samples_counted file)) ∙ sym (needs_all text (samples_in file) t) in
          ap (λ (a : Exchanged). a.refusal) p.answered ∙ done (import_needs text) (length before) (needs_none text (samples_in file) t) (room ∙ l);
    }
