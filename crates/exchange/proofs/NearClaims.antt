-- The floats of an imported file: the nearest to their decimals, zero as plus zero, so that the file comes back with the same bytes.
use mathlib.Core.List.{List, [], ◌∷◌, map}
use mathlib.Core.Path.{◌≡◌, sym, ap, subst, ◌∙◌}
use Prim.Native.Nat.{ℕ, ◌≤◌}
use native.Mathlib.Omega.{arith}
use lib.IntN.{ℤ, nat_abs}
use Rattle.float.specs.Claims.{NearestIs}
use Rattle.float.specs.Float.{nearest_float, nearest_limit}
use Rattle.float.proofs.Closest.{nearest_is}
use Rattle.float.proofs.NearestLaws.{nearest_of_zero}
use Rattle.tested.specs.Tested.{records_of}
use Rattle.rules.specs.Choice.{AllOf}
use Rattle.rules.specs.Rules.{refusal}
use Rattle.rules.specs.declared.Sample.{Sample}
use Rattle.exchange.specs.Claims.{Written, WrittenSpeeds, AllWritten, ImportNearest, NearestSpeeds, NearImported}
use Rattle.import.specs.Import.{accepted, tested_text, nearest_record, imported_file, file_of}
use Rattle.exchange.proofs.ExportClaims.{exports_imported, imports_exported}
use Rattle.import.proofs.AcceptedLaws.{sizes, accepted_text, imported, speed_back}
use Rattle.exchange.proofs.ImportClaims.{records_of_lem, import_reads}
use Rattle.csv_rows.proofs.SampleLaws.{AllInRange}

-- ════ A sample's floats ════

written : (h : ℤ) → nat_abs h ≤ nearest_limit → Written h (nearest_float h)
unfolding NearestIs
written h k = record { near = nearest_is h k; plus_zero = λ e. ap nearest_float e ∙ nearest_of_zero }

written_speeds : (s : Sample) → refusal s ≡ 0 → WrittenSpeeds s (nearest_record s)
unfolding nearest_record
written_speeds s e =
    let z = sizes s e in
    record {
      along = written s.along (omega (arith, z.along));
      vertical = written s.vertical (omega (arith, z.vertical));
      airspeed = written s.airspeed z.airspeed;
    }

nearest_speeds : (s : Sample) → refusal s ≡ 0 → NearestSpeeds (nearest_record s)
unfolding nearest_record
nearest_speeds s e =
    let z = sizes s e in
    record {
      along = ap nearest_float (sym (speed_back s.along (omega (arith, z.along))));
      vertical = ap nearest_float (sym (speed_back s.vertical (omega (arith, z.vertical))));
      airspeed = ap nearest_float (sym (speed_back s.airspeed z.airspeed));
    }

-- ════ A file's ════

all_written : (samples : List Sample) → AllInRange samples → AllWritten samples (map nearest_record samples)
unfolding AllWritten
all_written [] h = tt
all_written (s ∷ later) h = (written_speeds s h.0, all_written later h.1)

all_nearest : (samples : List Sample) → AllInRange samples → AllOf NearestSpeeds (map nearest_record samples)
all_nearest [] h = tt
all_nearest (s ∷ later) h = (nearest_speeds s h.0, all_nearest later h.1)

imported_records : (text : List ℕ) (samples : List Sample) → tested_text text ≡ accepted samples → records_of (imported_file text) ≡ map nearest_record samples
imported_records text samples e = ap records_of (imported text samples e) ∙ records_of_lem samples (accepted_text text samples e).good

pub import_nearest : ImportNearest
unfolding ImportNearest
import_nearest text samples e =
    subst (AllWritten samples) (sym (imported_records text samples e)) (all_written samples (accepted_text text samples e).good.all)

pub near_imported : NearImported
unfolding imported_file
near_imported =
    record {
      near = λ text samples e. subst (AllOf NearestSpeeds) (sym (imported_records text samples e)) (all_nearest samples (accepted_text text samples e).good.all);
      same_bytes = λ text samples e.
          ap file_of
          (imports_exported.unrefused (imported_file text) (exports_imported.unrefused text samples e)
          ∙ ap accepted (import_reads.same_samples text samples e)
          ∙ sym e);
    }
