-- A4 of 02, said of what users see: the alert that an answer shows, 2 for red and 1 for amber. It is of every history of calls that meet the
-- promises, in the plain form or lent in any mixture, with refused samples among them, as demand 3 is (host's Demand3.antt), and of each record of
-- every accepted run (runfile's Claims.antt). Proved in proofs/AnswerClaims.antt from the claims that answers are the rules'.
use Rattle.std.specs.Prelude.{true, cond, ◌≡◌, ℕ, ltb, ℤ, pos, ◌-ℤ◌, length}
use mathlib.Core.List.{List, ◌∷◌, ◌++◌, Memᴰ}
use Rattle.guarantee.specs.Guarantee.{TestRow, alert_rows, quiet_limit, turned, ReachesRow, NoneAbove, AtLeast}
use Rattle.header.specs.Words.{le32}
use Rattle.raw.specs.declared.Record.{Record}
use Rattle.host.specs.Demand3.{Call, Meets, accepted_of, alert_shown}
use Rattle.runfile.specs.Claims.{sample_at, samples_before, ten_at, alert_in, alert_before}
use Rattle.tested.specs.Tested.{records_of}
use Rattle.runfile.specs.Run.{RunPromise}
use Rattle.tested.specs.declared.Outcome.{Outcome}
use Rattle.rules.specs.Rules.{refusal_after, held, entries, in_band, red_condition}
use Rattle.rules.specs.declared.Sample.{Sample}

-- what A4 promises of the alert in the answer to an accepted sample, with the accepted samples before it, the newest first
pub record GuaranteedAt (s : Sample) (before : List Sample) (alert : ℕ) : Type 0 where
  -- "red is lit at that end"
  pub red : (r : TestRow) → Memᴰ r alert_rows → ReachesRow r (entries held (s ∷ before)) → in_band s ≡ true → alert ≡ 2
  -- "red never comes on"
  pub never_red : NoneAbove quiet_limit (entries held (s ∷ before)) → ¬ (alert ≡ 2)
  -- "The same with signs turned for amber, where red is dark."
  pub amber :
      (r : TestRow) → Memᴰ r alert_rows → ReachesRow r (turned (entries held (s ∷ before))) → in_band s ≡ true → ¬ (alert ≡ 2) → alert ≡ 1
  pub never_amber : NoneAbove quiet_limit (turned (entries held (s ∷ before))) → ¬ (alert ≡ 1)
  -- so where both are so, "no alert", as in 000's first two rows
  pub no_alert : NoneAbove quiet_limit (entries held (s ∷ before)) → NoneAbove quiet_limit (turned (entries held (s ∷ before))) → alert ≡ 0

-- Two runs, the one `AtLeast` the other up to here: t and `other` are the other's samples; alert1 is the one's alert here, alert2 the other's, and
-- before2 the other's at the accepted sample before (0 where there was none).
pub record InOrderAt (t : Sample) (other : List Sample) (alert1 alert2 before2 : ℕ) : Type 0 where
  -- where the red condition holds in the other, both show red (`RedInOrder`: it holds in the one too)
  pub holds : red_condition (t ∷ other) ≡ true → (alert1 ≡ 2) × (alert2 ≡ 2)
  -- so where red comes on in the other, the one shows red
  pub comes_on : ¬ (before2 ≡ 2) → alert2 ≡ 2 → alert1 ≡ 2

-- ════ Samples offered alone ════

pub record LoneGuaranteed : Type 0 where
  -- the held shears are those that the answers show
  pub shear : (c : Call) (before : List Call) → Meets (c ∷ before) → refusal_after c.sample (accepted_of before) ≡ 0 → c.answer.shear ≡ held c.sample (accepted_of before)
  pub accepted :
      (c : Call) (before : List Call) → Meets (c ∷ before) → refusal_after c.sample (accepted_of before) ≡ 0
      → GuaranteedAt c.sample (accepted_of before) c.answer.alert
  -- a refused sample shows no alert, and `accepted_of` leaves it out
  pub refused : (c : Call) (before : List Call) → Meets (c ∷ before) → ¬ (refusal_after c.sample (accepted_of before) ≡ 0) → c.answer.alert ≡ 0
  -- two histories, each up to an accepted sample
  pub in_order :
      (c d : Call) (one other : List Call) → Meets (c ∷ one) → Meets (d ∷ other) → refusal_after c.sample (accepted_of one) ≡ 0 → refusal_after d.sample (accepted_of other) ≡ 0
      → AtLeast (c.sample ∷ accepted_of one) (d.sample ∷ accepted_of other)
      → InOrderAt d.sample (accepted_of other) c.answer.alert d.answer.alert (alert_shown other)

-- ════ Runs ════

-- a call of `run` that accepts the file: the lent buffer before it and after it
pub record AcceptedRun (file after : List ℕ) : Type 0 where
  pub before : List ℕ
  pub outcome : Outcome
  pub promise : RunPromise file before outcome after
  pub accepted : outcome.refusal ≡ 0

-- a record of a file: those before it, and it
pub record RecordAt (file : List ℕ) (earlier : List Record) (r : Record) : Type 0 where
  pub later : List Record
  pub split : records_of file ≡ earlier ++ r ∷ later

-- of the ten answer bytes at a record's place, the alert, and the "signed 32-bit held shear" (01)
unfoldable pub alert_at : List ℕ → List Record → ℕ
alert_at answers earlier = alert_in (ten_at answers (length earlier))

unfoldable pub signed32 : ℕ → ℤ
signed32 n = cond (ltb n 2147483648) (pos n) (pos n -ℤ pos 4294967296)

unfoldable pub shear_at : List ℕ → List Record → ℤ
shear_at answers earlier = signed32 (le32 (ten_at answers (length earlier)) 4)

pub record RunsGuaranteed : Type 0 where
  -- the held shears are those in the records' answer bytes
  pub shear :
      (file after : List ℕ) → AcceptedRun file after → (earlier : List Record) (r : Record) → RecordAt file earlier r
      → shear_at after earlier ≡ held (sample_at file earlier r) (samples_before file earlier)
  pub each :
      (file after : List ℕ) → AcceptedRun file after → (earlier : List Record) (r : Record) → RecordAt file earlier r
      → GuaranteedAt (sample_at file earlier r) (samples_before file earlier) (alert_at after earlier)
  -- two runs, each up to a record; `AtLeast` has as many samples in both, so the records stand at one place
  pub in_order :
      (file1 after1 file2 after2 : List ℕ) → AcceptedRun file1 after1 → AcceptedRun file2 after2
      → (one other : List Record) (r q : Record) → RecordAt file1 one r → RecordAt file2 other q
      → AtLeast (sample_at file1 one r ∷ samples_before file1 one) (sample_at file2 other q ∷ samples_before file2 other)
      → InOrderAt (sample_at file2 other q) (samples_before file2 other) (alert_at after1 one) (alert_at after2 other) (alert_before after2 (length other))

-- A4, whole, for what users see
pub record AllGuaranteed : Type 0 where
  pub lone : LoneGuaranteed
  pub run : RunsGuaranteed
