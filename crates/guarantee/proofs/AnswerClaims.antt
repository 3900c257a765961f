-- A4's claims on answers. Each follows from the claims over lists, since an answer shows what the rules show: `rules` of demand 3, `RunsByRules`.
use mathlib.Core.Bool.{Bool, true, false, cond}
use mathlib.Core.List.{List, [], ◌∷◌, ◌++◌, append_assoc}
use mathlib.Core.Path.{◌≡◌, refl, sym, ap, ◌∙◌}
use Prim.Native.Nat.{ℕ, ◌+◌, ◌-◌, ◌≤◌}
use native.Mathlib.Omega.{arith}
use borrow.Author.Tests.{eq-eqb, ne_eqb, eqb-true, ltb-false, lt-ltb, le-ltb}
use lib.Dec.{eqb}
use lib.IntN.{ℤ, pos, negsuc, nat_abs}
use lib.ListN.{length, length-append}
use Rattle.guarantee.specs.Answers.{GuaranteedAt, InOrderAt, LoneGuaranteed, AcceptedRun, RecordAt, alert_at, signed32, shear_at, RunsGuaranteed, AllGuaranteed}
use Rattle.guarantee.specs.Guarantee.{AtLeast, RedAtRow, RedNever, AmberAtRow, AmberNever, RedInOrder}
use Rattle.guarantee.proofs.GuaranteeClaims.{lit_now, stays_dark, red_at_row, red_never, amber_at_row, amber_never, red_in_order}
use Rattle.header.specs.Header.{version_in}
use Rattle.format.specs.Reading.{taken_as}
use Rattle.header.specs.Words.{le32, bytes32}
use Rattle.format.specs.Refusal.{sample_of}
use Rattle.raw.specs.declared.Record.{Record}
use Rattle.header.proofs.Digits.{four_back}
use Rattle.host.specs.Demand3.{Call, Meets, accepted_of, alert_shown}
use Rattle.host.proofs.Demand3.{demand_3}
use Rattle.runfile.specs.Claims.{newest_first, sample_at, samples_before, ten_at, alert_in, alert_before, RunsByRules}
use Rattle.rounding.proofs.Difference.{any, nat, -D, eq_d}
use Rattle.rounding.proofs.Fits.{exact, minus, size_ge}
use Rattle.runfile.specs.Run.{unsigned32, answer_bytes}
use Rattle.runfile.proofs.RunClaims.{all_accepted, runs_by_rules}
use Rattle.runfile.proofs.RunLaws.{run_tested}
use Rattle.claims.proofs.Claims.{AllAccepted}
use Rattle.rules.proofs.HeldShear.{shear_le}
use Rattle.rules.proofs.RangeLaws.{in_range_lem, none_after, frame_at_least}
use Rattle.claims.specs.Claims.{accepted, shows}
use Rattle.rules.specs.Rules.{frames, refusal_after, change, held, red_condition, lit_for, red_for, red_lit, amber_lit}
use Rattle.unit_core.specs.Core.{refused_of}
use Rattle.unit_core.specs.declared.Answer.{Answer}
use Rattle.rules.specs.declared.Sample.{Sample}

-- ════ The alert that the rules show, by the lamps ════

abbrev alert_of : (red amber : Bool) → ℕ
alert_of red amber = cond red 2 (cond amber 1 0)

shows_alert : (s : Sample) (l : List Sample) → (shows s l).alert ≡ alert_of (red_lit (s ∷ l)) (amber_lit (s ∷ l))
unfolding shows
shows_alert s l = refl

-- two only where red is lit, one only where amber is
dark_two : (a : Bool) → alert_of false a ≡ 2 → ⊥
dark_two true e = omega arith
dark_two false e = omega arith

dark_one : (r : Bool) → alert_of r false ≡ 1 → ⊥
dark_one true e = omega arith
dark_one false e = omega arith

not_two : (r a : Bool) → ¬ (alert_of r a ≡ 2) → r ≡ false
not_two true a h = absurd (h refl)
not_two false a h = refl

-- ════ One answer ════

module _ (s : Sample) (before : List Sample) (alert : ℕ) (e : alert ≡ alert_of (red_lit (s ∷ before)) (amber_lit (s ∷ before))) where
  red_shown : red_lit (s ∷ before) ≡ true → alert ≡ 2
  red_shown h = e ∙ rw h

  red_dark : red_lit (s ∷ before) ≡ false → ¬ (alert ≡ 2)
  red_dark h two = dark_two (amber_lit (s ∷ before)) (rw h at (sym e ∙ two))

  guaranteed_at : GuaranteedAt s before alert
  unfolding RedAtRow RedNever AmberAtRow AmberNever
  guaranteed_at =
      record {
        red = λ r m h b. red_shown (red_at_row r m s before h b);
        never_red = λ h. red_dark (red_never (s ∷ before) h);
        amber = λ r m h b k.
            let dark = not_two (red_lit (s ∷ before)) (amber_lit (s ∷ before)) (λ two. k (e ∙ two)) in
            e ∙ rw (dark, amber_at_row r m s before h b dark);
        never_amber = λ h one. dark_one (red_lit (s ∷ before)) (rw (amber_never (s ∷ before) h) at (sym e ∙ one));
        no_alert = λ h k. e ∙ rw (red_never (s ∷ before) h, amber_never (s ∷ before) k);
      }

-- ════ Two answers ════

red_lit_lem : (s : Sample) (l : List Sample) → red_condition (s ∷ l) ≡ true → red_lit (s ∷ l) ≡ true
unfolding red_lit red_for
red_lit_lem s l h = lit_now red_condition (λ l. false) s l h refl

-- red that was dark is lit by its condition alone
red_stays : (s : Sample) (l : List Sample) → red_condition (s ∷ l) ≡ false → red_lit l ≡ false → red_lit (s ∷ l) ≡ false
unfolding red_lit red_for
red_stays s l h d = rw (stays_dark red_condition (λ l. false) s l h (omega (arith, ltb-false 0 (lit_for red_condition (λ l. false) l) d)))

module _ (s t : Sample) (one other : List Sample) (at_least_lem : AtLeast (s ∷ one) (t ∷ other)) (a b : ℕ)
    (shown-a : a ≡ alert_of (red_lit (s ∷ one)) (amber_lit (s ∷ one))) (shown_b : b ≡ alert_of (red_lit (t ∷ other)) (amber_lit (t ∷ other))) where
  both_red : red_condition (t ∷ other) ≡ true → (a ≡ 2) × (b ≡ 2)
  unfolding RedInOrder
  both_red c =
      (red_shown s one a shown-a (red_lit_lem s one (red_in_order (s ∷ one) (t ∷ other) at_least_lem c)), red_shown t other b shown_b (red_lit_lem t other c))

  in_order_at : (last : ℕ) → (¬ (last ≡ 2) → red_lit other ≡ false) → InOrderAt t other a b last
  in_order_at last dark = record { holds = both_red; comes_on = λ k two. go (dark k) two (red_condition (t ∷ other)) refl }
    where
      go : red_lit other ≡ false → b ≡ 2 → (c : Bool) → red_condition (t ∷ other) ≡ c → a ≡ 2
      go d two true e = (both_red e).0
      go d two false e = absurd (red_dark t other b shown_b (red_stays t other e d) two)

-- ════ Samples offered alone ════

-- an accepted sample's answer is what the rules show
by_rules : (c : Call) (before : List Call) → Meets (c ∷ before) → refusal_after c.sample (accepted_of before) ≡ 0 → c.answer ≡ shows c.sample (accepted_of before)
by_rules c before m ok = demand_3.rules c before m ∙ rw (eq-eqb (refusal_after c.sample (accepted_of before)) 0 ok)

answer_shown : (c : Call) (before : List Call) → Meets (c ∷ before) → refusal_after c.sample (accepted_of before) ≡ 0
    → c.answer.alert ≡ alert_of (red_lit (c.sample ∷ accepted_of before)) (amber_lit (c.sample ∷ accepted_of before))
answer_shown c before m ok = ap (λ a. a.alert) (by_rules c before m ok) ∙ shows_alert c.sample (accepted_of before)

shear_shown : (c : Call) (before : List Call) → Meets (c ∷ before) → refusal_after c.sample (accepted_of before) ≡ 0 → c.answer.shear ≡ held c.sample (accepted_of before)
unfolding shows
shear_shown c before m ok = ap (λ a. a.shear) (by_rules c before m ok)

refused_dark : (c : Call) (before : List Call) → Meets (c ∷ before) → ¬ (refusal_after c.sample (accepted_of before) ≡ 0) → c.answer.alert ≡ 0
unfolding refused_of
refused_dark c before m bad =
    let n = refusal_after c.sample (accepted_of before) in
    ap (λ a. a.alert) (demand_3.rules c before m) ∙ ap (λ t. (cond t (shows c.sample (accepted_of before)) (refused_of n)).alert) (ne_eqb n 0 bad)

-- where the last alert shown is not red, red was dark at the last accepted sample
shown_dark : (l : List Call) → Meets l → ¬ (alert_shown l ≡ 2) → red_lit (accepted_of l) ≡ false
unfolding Meets alert_shown accepted_of accepted red_lit red_for lit_for
shown_dark [] m k = refl
shown_dark (c ∷ l) m k = go (shown_dark l m.1) (eqb (refusal_after c.sample (accepted_of l)) 0) refl k
  where
    go : (¬ (alert_shown l ≡ 2) → red_lit (accepted_of l) ≡ false) → (t : Bool) → eqb (refusal_after c.sample (accepted_of l)) 0 ≡ t
        → ¬ (cond t c.answer.alert (alert_shown l) ≡ 2) → red_lit (cond t (c.sample ∷ accepted_of l) (accepted_of l)) ≡ false
    go rest true e k =
        not_two (red_lit (c.sample ∷ accepted_of l)) (amber_lit (c.sample ∷ accepted_of l))
        (λ two. k (answer_shown c l m (eqb-true (refusal_after c.sample (accepted_of l)) 0 e) ∙ two))
    go rest false e k = rest k

lone_guaranteed : LoneGuaranteed
unfolding Meets
lone_guaranteed =
    record {
      shear = shear_shown;
      accepted = λ c before m ok. guaranteed_at c.sample (accepted_of before) c.answer.alert (answer_shown c before m ok);
      refused = refused_dark;
      in_order = λ c d one other m k ok fine h.
          in_order_at c.sample d.sample (accepted_of one) (accepted_of other) h c.answer.alert d.answer.alert (answer_shown c one m ok)
          (answer_shown d other k fine) (alert_shown other) (shown_dark other k.1);
    }

-- ════ Runs ════

byte_alert : (r a : Bool) (answer : Answer) → answer.alert ≡ alert_of r a → alert_in (answer_bytes answer) ≡ alert_of r a
unfolding alert_in answer_bytes
byte_alert true a answer e = rw e
byte_alert false true answer e = rw e
byte_alert false false answer e = rw e

-- the wind of accepted samples changes by at most 40,000
change_size : (s : Sample) (l : List Sample) → AllAccepted (s ∷ l) → nat_abs (change s l) ≤ 40000
unfolding change
change_size s [] h = omega arith
change_size s (p ∷ l) h =
    let a = in_range_lem s (none_after s (p ∷ l) h.0).0 in
    let b = in_range_lem p (none_after p l h.1.0).0 in
    (minus (exact s.along a.along_le) (exact p.along b.along_le)).le

-- a held shear of accepted samples is within 50,000,000, and 32 bits with a sign give it back
held_size : (s : Sample) (l : List Sample) → AllAccepted (s ∷ l) → nat_abs (held s l) ≤ 50000000
unfolding held
held_size s l h =
    let a = in_range_lem s (none_after s l h.0).0 in
    shear_le (change s l) (frames s l) s.vertical s.airspeed (change_size s l h) (frame_at_least s l h.0) a.vertical_le
    (size_ge s.airspeed a.airspeed_ge)

shear_back : (x : ℤ) → nat_abs x ≤ 50000000 → signed32 (le32 (bytes32 (unsigned32 x)) 0) ≡ x
unfolding signed32 unsigned32
shear_back (pos n) h = rw (four_back n (omega arith), lt-ltb n 2147483648 (omega arith))
shear_back (negsuc k) h =
    let n = 4294967295 - k in
    rw (four_back n (omega arith), le-ltb n 2147483648 (omega arith)) (eq_d (-D (nat n) (nat 4294967296)) (any (negsuc k)) (omega (arith, h)))

module _ (file after : List ℕ) (run : AcceptedRun file after) (earlier : List Record) (r : Record) (at : RecordAt file earlier r) where
  abbrev here : Sample
  here = sample_at file earlier r

  abbrev behind : List Sample
  behind = samples_before file earlier

  ten_by_rules : ten_at after (length earlier) ≡ answer_bytes (shows here behind)
  unfolding RunsByRules
  ten_by_rules = runs_by_rules file run.before after run.outcome run.promise run.accepted earlier at.later r at.split

  record_shown : alert_at after earlier ≡ alert_of (red_lit (here ∷ behind)) (amber_lit (here ∷ behind))
  unfolding alert_at
  record_shown = ap alert_in ten_by_rules ∙ byte_alert (red_lit (here ∷ behind)) (amber_lit (here ∷ behind)) (shows here behind) (shows_alert here behind)

  shear_in : shear_at after earlier ≡ held here behind
  unfolding shear_at answer_bytes shows
  shear_in =
      let all = all_accepted file earlier at.later r (run_tested run.promise run.accepted) at.split in
      ap (λ t. signed32 (le32 t 4)) ten_by_rules ∙ shear_back (held here behind) (held_size here behind all)

-- the last of the records before one
last_of : (p : Record) (l : List Record) → (earlier : List Record) × (q : Record) × (p ∷ l ≡ earlier ++ q ∷ [])
last_of p [] = ([], p, refl)
last_of p (q ∷ l) = let e = last_of q l in (p ∷ e.0, e.1, ap (λ t. p ∷ t) e.2)

-- with one record more, at place j
newest_more : (version i j : ℕ) (l : List Record) (q : Record) (before : List Sample) → j ≡ i + length l
    → newest_first version i (l ++ q ∷ []) before ≡ taken_as version j (sample_of q) ∷ newest_first version i l before
unfolding newest_first
newest_more version i j [] q before at =
    let e : j ≡ i = omega arith in
    rw e
newest_more version i j (p ∷ l) q before at = newest_more version (i + 1) j l q (taken_as version i (sample_of p) ∷ before) (omega arith)

before_more : (file : List ℕ) (l : List Record) (q : Record) → samples_before file (l ++ q ∷ []) ≡ sample_at file l q ∷ samples_before file l
unfolding sample_at samples_before
before_more file l q = newest_more (version_in file) 0 (length l) l q [] (omega arith)

-- where the alert of the record before is not red, red was dark at it
record_dark : (file after : List ℕ) → AcceptedRun file after → (earlier : List Record) (r : Record) → RecordAt file earlier r
    → ¬ (alert_before after (length earlier) ≡ 2) → red_lit (samples_before file earlier) ≡ false
unfolding alert_before alert_at samples_before newest_first red_lit red_for lit_for
record_dark file after run [] r at k = refl
record_dark file after run (p ∷ l) r at k = go (last_of p l).0 (last_of p l).1 (last_of p l).2
  where
    go : (earlier : List Record) (q : Record) → p ∷ l ≡ earlier ++ q ∷ [] → red_lit (samples_before file (p ∷ l)) ≡ false
    go earlier q e =
        let n : length l ≡ length earlier = omega (arith, ap length e ∙ length-append earlier (q ∷ [])) in
        let split = at.split ∙ ap (λ t. t ++ r ∷ at.later) e ∙ append_assoc earlier (q ∷ []) (r ∷ at.later) in
        let shown = record_shown file after run earlier q (record { later = r ∷ at.later; split = split }) in
        let now = sample_at file earlier q ∷ samples_before file earlier in
        ap red_lit (ap (samples_before file) e ∙ before_more file earlier q)
        ∙ not_two (red_lit now) (amber_lit now) (λ two. k (ap (λ i. alert_in (ten_at after i)) n ∙ shown ∙ two))

runs_guaranteed : RunsGuaranteed
runs_guaranteed =
    record {
      shear = shear_in;
      each = λ file after run earlier r at.
          guaranteed_at (sample_at file earlier r) (samples_before file earlier) (alert_at after earlier) (record_shown file after run earlier r at);
      in_order = λ file1 after1 file2 after2 run1 run2 one other r q at1 at2 h.
          in_order_at (sample_at file1 one r) (sample_at file2 other q) (samples_before file1 one) (samples_before file2 other) h (alert_at after1 one)
          (alert_at after2 other) (record_shown file1 after1 run1 one r at1) (record_shown file2 after2 run2 other q at2) (alert_before after2 (length other))
          (record_dark file2 after2 run2 other q at2);
    }

pub all_guaranteed : AllGuaranteed
all_guaranteed = record { lone = lone_guaranteed; run = runs_guaranteed }
