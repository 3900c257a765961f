-- The claims of specs/Claims.antt, proved: the state follows the rules (Follow.antt) and passes refusal 8, so every answer is the rules'; and the
-- window argument (Averages.antt) gives demand 3.
use mathlib.Core.Bool.{Bool, true, false, ◌&&◌, ◌||◌, cond}
use mathlib.Core.List.{List, [], ◌∷◌, ◌++◌, Memᴰ}
use mathlib.Core.Logic.{◌⊎◌, ⊎_elim}
use mathlib.Core.Path.{◌≡◌, refl, sym, ap, ◌∙◌, subst}
use Prim.Native.Nat.{ℕ, zero, suc, ◌+◌, ◌≤◌, min}
use native.Mathlib.Nat.{mul-pos}
use native.Mathlib.Omega.{arith}
use borrow.Author.Tests.{eqb-true, eqb-false, eq-eqb, ne_eqb, lt-ltb, ltb-false}
use lib.Dec.{ltb, leb, eqb, lit<, lit≤}
use lib.IntN.{pos}
use lib.ListN.{replicate}
use lib.Signed.{◌≤ℤ◌, le_z_yes}
use Rattle.rounding.specs.Fraction.{Fraction, Positive, AllPositive}
use Rattle.rounding.proofs.Fits.{size_ge}
use Rattle.rules.specs.Choice.{neg, first_of, within, same, any_of, every}
use Rattle.claims.specs.Claims.{state_after, answer_to, accepted, StatesPass, LeftPasses, shows, AnswersByRules, RefusedIsNothing, StatesHold, list_after, list_answer, SummedAnew, Reaches, Below, PositiveDivisors, last_alert, Demand3Lone}
use Rattle.rules.specs.Rules.{ranges, inside, refusal, frames, then_frames, refusal_after, exact_shear, exact, entry, entries, Window, windows, in_band, last_of, window_sum, met_up, condition, red_condition, lit_for, red_for, red_lit, amber_for, amber_lit, voice_for, guidance, Guidance, off, on, is_on, command_of, guidance_by}
use Rattle.unit_core.specs.Core.{fresh_core, frames_of, shear_of, entry_of, core_with, lamps_of, voice_of, guide_of, pitch_of, shown_by, counters_fit, last_fits, refused_of, refusal_by}
use Rattle.unit.specs.Steps.{fresh_state, windows_of, accept_of, held_fits, ring_fits, passes, refusal_of, offer_of, RingValid}
use Rattle.windows.specs.Ring.{read_from, sums_of, same_sums}
use Rattle.unit_core.specs.declared.Answer.{Answer}
use Rattle.unit.specs.declared.Offered.{Offered}
use Rattle.rules.specs.declared.Sample.{Sample}
use Rattle.unit.specs.declared.State.{State}
use Rattle.alerts.specs.declared.pitch.Guide.{Guide}
use Rattle.claims.proofs.Averages.{table_positive, table_met, table_unmet}
use Rattle.rules.proofs.Choices.{cond_has, passed}
use Rattle.claims.proofs.Follow.{core_of, Follows, to_guide, count_of, not_zero, frames_follows, shear_follows, entry_follows, guide_next_lem, core_next, answered, frames_are, left, left_follows, accept_follows}
use Rattle.unit.proofs.Holding.{fresh_holds, accept_holds, fits_holds, times_valid}
use Rattle.alerts.proofs.CounterLaws.{lamp_le, unless_le, voice_le, count_le, command_ge, command_le, command_cap}
use Rattle.rules.proofs.RangeLaws.{within_of, bounds, inside_bounds, in_range_fields, in_range_lem, frames_passed, none_after, frame_at_least}
use Rattle.unit.proofs.PassLaws.{cut_fits, Passing, passing, passes_of}

-- ════ Accepted samples ════

abbrev pub AllAccepted : List Sample → Type 0
AllAccepted [] = Unit {0}
AllAccepted (s ∷ l) = (refusal_after s l ≡ 0) × AllAccepted l

cond_accepted : (s : Sample) (l : List Sample) (t : Bool) → eqb (refusal_after s l) 0 ≡ t → AllAccepted l → AllAccepted (cond t (s ∷ l) l)
cond_accepted s l true e h = (eqb-true (refusal_after s l) 0 e, h)
cond_accepted s l false e h = h

pub accepted_all : (l : List Sample) → AllAccepted (accepted l)
unfolding accepted
accepted_all [] = tt
accepted_all (s ∷ l) = cond_accepted s (accepted l) (eqb (refusal_after s (accepted l)) 0) refl (accepted_all l)

pub accepted_same : (l : List Sample) → AllAccepted l → accepted l ≡ l
unfolding accepted
accepted_same [] h = refl
accepted_same (s ∷ l) h = rw (accepted_same l h.1, eq-eqb (refusal_after s l) 0 h.0)

-- ════ What an accepted sample leaves passes 8 ════

at_most : {n k : ℕ} → n ≤ k → k ≤ 600 → n ≤ 600
at_most h k = omega (arith, h, k)

next_passing : (t : State) (s : Sample) → Passing t → refusal s ≡ 0 → Passing (accept_of t s).state
unfolding ranges accept_of entry_of windows_of core_with shown_by lamps_of voice_of pitch_of guide_of held_fits
next_passing t s p h =
    let f = in_range_fields s h in
    let ring : RingValid t = record { held_in = p.held_in; ring_in = p.ring_in } in
    record {
      held_in = (times_valid (frames_of t.core s) t (entry_of t.core s) (cut_fits (shear_of t.core s)) ring).held_in;
      seen_le = lit≤ tt;
      red_le = at_most (lamp_le _ _ _) (lit≤ tt);
      amber_le = at_most (unless_le _ _) (at_most (lamp_le _ _ _) (lit≤ tt));
      voice_le = at_most (voice_le _ _ _) (lit≤ tt);
      guidance_le = count_le _ s _ _;
      command_in_lem = within_of (command_ge _ s _ _ (bounds p.command_in_lem).0 (inside_bounds f.pitch_in).0 (inside_bounds f.stall_in).0) (command_le _ s _ _);
      along_in = f.along_in;
      mode_in = f.mode_in;
      ring_in = fits_holds.fits (accept_of t s).state _ (accept_holds t s _ (fits_holds.holds t p.ring_in));
    }

pub left_passes : LeftPasses
unfolding LeftPasses offer_of refusal_of refusal_by
left_passes t s e =
    let b = passed (passes t) 7 (then_frames (refusal s) (frames_of t.core s)) e in
    let r = frames_passed (refusal s) (frames_of t.core s) b.1 in
    rw (eq-eqb (first_of (passes t) 8 (then_frames (refusal s) (frames_of t.core s))) 0 e)
    (passes_of (accept_of t s).state (next_passing t s (passing t b.0) r.0))

-- ════ The claims on states and answers ════

-- a refused sample is handed the state back
offer_refused : (t : State) (s : Sample) → ¬ (refusal_of t s ≡ 0) → (offer_of t s).state ≡ t
unfolding offer_of
offer_refused t s h = rw (ne_eqb (refusal_of t s) 0 h)

offer_passes : (t : State) (s : Sample) → passes t ≡ true → passes (offer_of t s).state ≡ true
unfolding LeftPasses
offer_passes t s p = go (eqb (refusal_of t s) 0) refl
  where
    go : (b : Bool) → eqb (refusal_of t s) 0 ≡ b → passes (offer_of t s).state ≡ true
    go true e = left_passes t s (eqb-true (refusal_of t s) 0 e)
    go false e = rw (offer_refused t s (eqb-false (refusal_of t s) 0 e)) p

pub fresh_passes : passes fresh_state ≡ true
unfolding passes fresh_state fresh_core held_fits every within counters_fit last_fits inside ranges ring_fits same_sums same sums_of window_sum last_of read_from
fresh_passes = refl

pub states_pass : StatesPass
unfolding StatesPass state_after
states_pass [] = fresh_passes
states_pass (s ∷ l) = offer_passes (state_after l) s (states_pass l)

fresh_follows : Follows fresh_state []
unfolding fresh_state fresh_core core_of entries red_for lit_for amber_for voice_for guidance guidance_by command_of sums_of window_sum last_of
fresh_follows = record { entered = fresh_holds; core = refl }

-- what a state that follows the rules and passes is answered, and what it becomes
module _ (t : State) (s : Sample) (l : List Sample) (f : Follows t l) (p : passes t ≡ true) where
  -- where it is accepted, and where it is refused
  abbrev taken : Offered
  taken = record { answer = shows s l; state = left s l t f }

  abbrev kept : Offered
  kept = record { answer = refused_of (refusal_after s l); state = t }

  refusal_is : refusal_of t s ≡ refusal_after s l
  unfolding refusal_of refusal_by refusal_after
  refusal_is = rw (p, frames_are s l t f)

  offered : offer_of t s ≡ cond (eqb (refusal_after s l) 0) taken kept
  unfolding offer_of
  offered = rw refusal_is (go (eqb (refusal_after s l) 0) refl)
    where
      go : (b : Bool) → eqb (refusal_after s l) 0 ≡ b → cond b (accept_of t s) kept ≡ cond b taken kept
      go true e = accept_follows s l t f (frame_at_least s l (eqb-true (refusal_after s l) 0 e))
      go false e = refl

  offer_answers : (offer_of t s).answer ≡ cond (eqb (refusal_after s l) 0) (shows s l) (refused_of (refusal_after s l))
  offer_answers = ap (λ (r : Offered). r.answer) offered ∙ go (eqb (refusal_after s l) 0)
    where
      go : (b : Bool) → (cond {A = Offered} b taken kept).answer ≡ cond b (shows s l) (refused_of (refusal_after s l))
      go true = refl
      go false = refl

  offer_follows : Follows (offer_of t s).state (cond (eqb (refusal_after s l) 0) (s ∷ l) l)
  offer_follows = rw offered (go (eqb (refusal_after s l) 0))
    where
      go : (b : Bool) → Follows (cond {A = Offered} b taken kept).state (cond b (s ∷ l) l)
      go true = left_follows s l t f
      go false = f

state_follows : (l : List Sample) → Follows (state_after l) (accepted l)
unfolding state_after accepted StatesPass
state_follows [] = fresh_follows
state_follows (s ∷ l) = offer_follows (state_after l) s (accepted l) (state_follows l) (states_pass l)

pub answers_by_rules : AnswersByRules
unfolding AnswersByRules answer_to StatesPass
answers_by_rules s before = offer_answers (state_after before) s (accepted before) (state_follows before) (states_pass before)

-- where a number fits the sample after the accepted ones before it, the state is as it was
refused_skips : (before : List Sample) (bad : Sample) → ¬ (refusal_after bad (accepted before) ≡ 0) → (offer_of (state_after before) bad).state ≡ state_after before
unfolding StatesPass
refused_skips before bad h =
    let e = refusal_is (state_after before) bad (accepted before) (state_follows before) (states_pass before) in
    offer_refused (state_after before) bad (λ z. h (sym e ∙ z))

state_skips : (later before : List Sample) (bad : Sample) → ¬ (refusal_after bad (accepted before) ≡ 0)
    → state_after (later ++ bad ∷ before) ≡ state_after (later ++ before)
unfolding state_after
state_skips [] before bad h = refused_skips before bad h
state_skips (s ∷ later) before bad h = ap (λ t. (offer_of t s).state) (state_skips later before bad h)

pub refused_is_nothing : RefusedIsNothing
unfolding RefusedIsNothing
refused_is_nothing before later bad next h = ap (λ t. offer_of t next) (state_skips later before bad h)

-- ════ Demand 3 ════

-- an entry that comes in more than once, and then the rest
all_times : (n : ℕ) (f : Fraction) (l : List Fraction) → Positive f → AllPositive l → AllPositive (replicate n f ++ l)
all_times zero f l p h = h
all_times (suc n) f l p h = (p, all_times n f l p h)

shear_positive : (s : Sample) (l : List Sample) → refusal_after s l ≡ 0 → Positive (exact s l)
unfolding exact exact_shear
shear_positive s l e =
    let a = size_ge s.airspeed (in_range_lem s (none_after s l e).0).airspeed_ge in
    mul-pos (mul-pos {m = 1765197} (lit< tt) (frame_at_least s l e)) (omega arith)

exact_positive : (l : List Sample) → AllAccepted l → AllPositive (entries exact l)
unfolding entries
exact_positive [] h = tt
exact_positive (s ∷ l) h = all_times (frames s l) (exact s l) (entries exact l) (shear_positive s l h.0) (exact_positive l h.1)

-- the alert that the rules show, and when it is red
alert_of_lem : List Sample → ℕ
alert_of_lem [] = 0
alert_of_lem (s ∷ l) = (shows s l).alert

not_two : (b : Bool) → ◌≡◌ {A = ℕ} (cond b 1 0) 2 → ⊥
not_two true e = omega arith
not_two false e = omega arith

red_two : (s : Sample) (l : List Sample) → red_lit (s ∷ l) ≡ true → (shows s l).alert ≡ 2
unfolding shows
red_two s l e = rw e

dark_not : (s : Sample) (l : List Sample) → red_lit (s ∷ l) ≡ false → (shows s l).alert ≡ 2 → ⊥
unfolding shows
dark_not s l e h = not_two (amber_lit (s ∷ l)) (rw e at h)

two_red : (l : List Sample) → (alert_of_lem l ≡ 2 → ⊥) → red_lit l ≡ false
unfolding alert_of_lem red_lit red_for lit_for
two_red [] f = refl
two_red (s ∷ l) f = go (red_lit (s ∷ l)) refl
  where
    go : (t : Bool) → red_lit (s ∷ l) ≡ t → red_lit (s ∷ l) ≡ false
    go true e = absurd (f (red_two s l e))
    go false e = e

pub answer_is : (s : Sample) (before : List Sample) → refusal_after s (accepted before) ≡ 0 → answer_to s before ≡ shows s (accepted before)
unfolding AnswersByRules
answer_is s before e = answers_by_rules s before ∙ rw (eq-eqb (refusal_after s (accepted before)) 0 e)

last_is : (l : List Sample) → last_alert l ≡ alert_of_lem (accepted l)
unfolding last_alert accepted alert_of_lem
last_is [] = refl
last_is (s ∷ l) = go (last_is l) (eqb (refusal_after s (accepted l)) 0) refl
  where
    go : last_alert l ≡ alert_of_lem (accepted l) → (t : Bool) → eqb (refusal_after s (accepted l)) 0 ≡ t
        → cond t (answer_to s l).alert (last_alert l) ≡ alert_of_lem (cond t (s ∷ accepted l) (accepted l))
    go h true e = ap (λ a. a.alert) (answer_is s l (eqb-true (refusal_after s (accepted l)) 0 e))
    go h false e = h

-- red is lit where its condition holds; dark before and without its condition, it stays dark
red_step : (s : Sample) (l : List Sample)
    → red_for (s ∷ l)
    ≡ cond (eqb (red_for l) 0) (cond (red_condition (s ∷ l)) 1 0) (cond (red_condition (s ∷ l) || leb (red_for l + frames s l) 60) (red_for l + frames s l) 0)
unfolding red_for lit_for
red_step s l = refl

lit_by : (s : Sample) (l : List Sample) → red_condition (s ∷ l) ≡ true → red_lit (s ∷ l) ≡ true
unfolding red_lit
lit_by s l e = rw (red_step s l, e) (go (red_for l))
  where
    go : (n : ℕ) → ltb 0 (cond (eqb n 0) 1 (n + frames s l)) ≡ true
    go zero = refl
    go (suc n) = rw (not_zero (suc n) (omega arith)) (lt-ltb 0 (suc n + frames s l) (omega arith))

stays_dark : (s : Sample) (l : List Sample) → red_lit l ≡ false → red_condition (s ∷ l) ≡ false → red_lit (s ∷ l) ≡ false
unfolding red_lit
stays_dark s l d e =
    let none : red_for l ≡ 0 = omega (arith, ltb-false 0 (red_for l) d) in
    let z : red_for (s ∷ l) ≡ 0 = red_step s l ∙ rw (none, e) in
    rw z

condition_in : (s : Sample) (l : List Sample) → red_condition (s ∷ l) ≡ (in_band s && any_of (met_up (entries entry (s ∷ l))) windows)
unfolding red_condition condition
condition_in s l = refl

-- where guidance is shown it is on
on_counts : (g : Guidance) → ◌≡◌ {A = ℕ} (cond (is_on g) 1 0) 1 → count_of g ≡ 0 → ⊥
unfolding is_on
on_counts off e z = omega arith
on_counts (on n c) e z = omega arith

-- the command after a sample is at most 27,000 and, where guidance is on, at most the sample's stall-warning pitch
command_caps : (s : Sample) (l : List Sample)
    → (command_of (guidance (s ∷ l)) ≤ℤ pos 27000) × ((count_of (guidance (s ∷ l)) ≡ 0 → ⊥) → command_of (guidance (s ∷ l)) ≤ℤ s.stall)
command_caps s l =
    let comes = eqb (min (red_for (s ∷ l)) 60) 1 in
    let g = to_guide (guidance l) in
    subst (λ (r : Guide). (r.command ≤ℤ pos 27000) × ((r.count ≡ 0 → ⊥) → r.command ≤ℤ s.stall)) (guide_next_lem s l) (command_le g s (frames s l) comes, command_cap g s (frames s l) comes)

module _ (before : List Sample) (s : Sample) (e : refusal_after s (accepted before) ≡ 0) where
  -- the answer is the rules' over the accepted samples, all of which have a positive airspeed
  alert_is : (answer_to s before).alert ≡ (shows s (accepted before)).alert
  alert_is = ap (λ a. a.alert) (answer_is s before e)

  positive_shears : AllPositive (entries exact (s ∷ accepted before))
  positive_shears = exact_positive (s ∷ accepted before) (e, accepted_all before)

  positive : (w : Window) → Memᴰ w windows → PositiveDivisors (s ∷ accepted before) w
  unfolding windows every
  positive = table_positive (s ∷ accepted before) positive_shears windows refl

  lit : (w : Window) → Memᴰ w windows → in_band s ≡ true → Reaches (s ∷ accepted before) w → eqb (answer_to s before).alert 2 ≡ true
  lit w m b h =
      eq-eqb _ 2 (alert_is ∙ red_two s (accepted before) (lit_by s (accepted before)
      (condition_in s (accepted before) ∙ rw (b, table_met (s ∷ accepted before) positive_shears windows w m h))))

  dark : eqb (last_alert before) 2 ≡ false → (in_band s ≡ false) ⊎ ((w : Window) → Memᴰ w windows → Below (s ∷ accepted before) w)
      → eqb (answer_to s before).alert 2 ≡ false
  dark d why =
      ne_eqb _ 2 (λ two. dark_not s (accepted before)
      (stays_dark s (accepted before) (two_red (accepted before) (λ k. eqb-false _ 2 d (last_is before ∙ k)))
      (condition_in s (accepted before) ∙ ⊎_elim (λ b. rw b) (λ f. rw (table_unmet (s ∷ accepted before) positive_shears windows f) (and-false (in_band s))) why))
      (sym alert_is ∙ two))
    where
      and-false : (b : Bool) → (b && false) ≡ false
      and-false true = refl
      and-false false = refl

  capped : eqb (answer_to s before).guidance 1 ≡ true → ((answer_to s before).command ≤ℤ pos 27000) × ((answer_to s before).command ≤ℤ s.stall)
  unfolding shows
  capped g =
      let c = command_caps s (accepted before) in
      let e = answer_is s before e in
      rw e (c.0, c.1 (on_counts (guidance (s ∷ accepted before)) (sym (ap (λ a. a.guidance) e) ∙ eqb-true _ 1 g)))

pub demand_3_lone : Demand3Lone
unfolding Demand3Lone
demand_3_lone before s e = record { positive = positive before s e; lit = lit before s e; dark = dark before s e; capped = capped before s e }

-- ════ A9: a ring with running sums answers as a plain list does ════

pub states_hold : StatesHold
unfolding StatesHold
states_hold l = (state_follows l).entered

-- the unit without a ring follows the rules too
fresh_core_lem : fresh_core ≡ core_of 0 []
unfolding fresh_core core_of entries red_for lit_for amber_for voice_for guidance guidance_by command_of sums_of window_sum last_of
fresh_core_lem = refl

list_entered : (l : List Sample) → (list_after l).core ≡ core_of 0 l → (list_after l).list ≡ entries entry l → (s : Sample)
    → replicate (frames_of (list_after l).core s) (entry_of (list_after l).core s) ++ (list_after l).list ≡ entries entry (s ∷ l)
unfolding entries
list_entered l c e s = rw (c, e, frames_follows s l 0, entry_follows s l 0)

list_follows : (l : List Sample) → AllAccepted l → ((list_after l).list ≡ entries entry l) × ((list_after l).core ≡ core_of 0 l)
unfolding list_after entries
list_follows [] a = (refl, fresh_core_lem)
list_follows (s ∷ l) a =
    let h = list_follows l a.1 in
    let e = list_entered l h.1 h.0 s in
    let n = frames_of (list_after l).core s in (
      e,
      ap (λ list. shown_by (core_with (sums_of list) 0 s (list_after l).core) s n) e
          ∙ ap (λ c. shown_by (core_with (sums_of (entries entry (s ∷ l))) 0 s c) s (frames_of c s)) h.1
          ∙ ap (λ n. shown_by (core_with (sums_of (entries entry (s ∷ l))) 0 s (core_of 0 l)) s n) (frames_follows s l 0)
          ∙ core_next s l 0 (frame_at_least s l a.0),
    )

pub list_answers : (s : Sample) (l : List Sample) → AllAccepted (s ∷ l) → list_answer s l ≡ shows s l
unfolding list_answer
list_answers s l a = rw ((list_follows (s ∷ l) a).1, (list_follows l a.1).1, shear_follows s l 0) (answered s l 0)

pub summed_anew : SummedAnew
unfolding SummedAnew
summed_anew s before e = answer_is s before e ∙ sym (list_answers s (accepted before) (e, accepted_all before))

-- ════ What is shown fits its bytes ════

record GuideFits (l : List Sample) : Type 0 where
  count : count_of (guidance l) ≤ 600
  low : neg 30000 ≤ℤ command_of (guidance l)
  high : command_of (guidance l) ≤ℤ pos 27000

guide_fits : (l : List Sample) → AllAccepted l → GuideFits l
unfolding ranges guidance guidance_by command_of
guide_fits [] h = record { count = lit≤ tt; low = le_z_yes tt; high = le_z_yes tt }
guide_fits (s ∷ l) h =
    let g = guide_fits l h.1 in
    let f = in_range_fields s (none_after s l h.0).0 in
    let comes = eqb (min (red_for (s ∷ l)) 60) 1 in
    let e = guide_next_lem s l in
    record {
      count = subst (λ (r : Guide). r.count ≤ 600) e (count_le (to_guide (guidance l)) s (frames s l) comes);
      low = subst (λ (r : Guide). neg 30000 ≤ℤ r.command) e (command_ge (to_guide (guidance l)) s (frames s l) comes g.low (inside_bounds f.pitch_in).0 (inside_bounds f.stall_in).0);
      high = subst (λ (r : Guide). r.command ≤ℤ pos 27000) e (command_le (to_guide (guidance l)) s (frames s l) comes);
    }

pub record AnswerFits (a : Answer) : Type 0 where
  pub alert_le : a.alert ≤ 2
  pub guidance_le : a.guidance ≤ 1
  pub command_ge : neg 30000 ≤ℤ a.command
  pub command_le : a.command ≤ℤ pos 27000

pub shows_fits : (s : Sample) (l : List Sample) → AllAccepted (s ∷ l) → AnswerFits (shows s l)
unfolding shows
shows_fits s l h =
    let g = guide_fits (s ∷ l) h in
    record {
      alert_le = cond_has (λ (n : ℕ). n ≤ 2) (red_lit (s ∷ l)) (λ e. lit≤ tt) (λ e. cond_has (λ (n : ℕ). n ≤ 2) (amber_lit (s ∷ l)) (λ k. lit≤ tt) (λ k. lit≤ tt));
      guidance_le = cond_has (λ (n : ℕ). n ≤ 1) (is_on (guidance (s ∷ l))) (λ e. lit≤ tt) (λ e. lit≤ tt);
      command_ge = g.low;
      command_le = g.high;
    }
