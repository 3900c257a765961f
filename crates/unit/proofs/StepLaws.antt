-- A step as its methods, one after another, over plain values: a lone sample's step and a run's both rest on it.
use mathlib.Core.Bool.{true}
use mathlib.Core.List.{List}
use mathlib.Core.Path.{◌≡◌, ap, ◌∙◌}
use Prim.Native.Nat.{ℕ}
use native.Mathlib.Omega.{arith}
use borrow.Author.Tests.{eq-eqb, ne_eqb}
use lib.IntN.{ℤ}
use Rattle.rounding.specs.Cut.{cut}
use Rattle.frames.specs.Frames.{frames_fit}
use Rattle.rules.specs.Rules.{refusal, entry_limit}
use Rattle.unit_core.specs.Core.{frames_of, shear_of, entry_of, core_with, lamps_of, voice_of, guide_of, pitch_of, answer_of, refused_of, shown_by, refusal_by}
use Rattle.unit.specs.Steps.{beside, push_times, entry_fits, windows_of, accept_of, passes, refusal_of, offer_of, PlainPromise, Valid}
use Rattle.windows.specs.declared.Sums.{Sums}
use Rattle.alerts.specs.Counters.{GuideValid}
use Rattle.rules.specs.Needs.{InRange}
use Rattle.unit_core.specs.declared.Answer.{Answer}
use Rattle.unit_core.specs.declared.Core.{Core}
use Rattle.unit.specs.declared.Offered.{Offered}
use Rattle.rules.specs.Refusal.{refusal_number}
use Rattle.rules.specs.declared.Sample.{Sample}
use Rattle.rules.specs.declared.refusal.Refusal.{Refusal}
use Rattle.unit.specs.declared.State.{State}
use Rattle.rules.proofs.Choices.{passed}
use Rattle.rules.proofs.RefusalLaws.{number_positive}
use Rattle.unit.proofs.PassLaws.{cut_fits}
use Rattle.rules.proofs.RangeLaws.{frames_passed, in_range_lem}
use Rattle.unit.proofs.ValidLaws.{valid}

-- two states that are one have one ring and one core
pub one_ring : {t u : State} → t ≡ u → t.held ≡ u.held
one_ring e = ap (λ (t : State). t.held) e

pub one_core : {t u : State} → t ≡ u → t.core ≡ u.core
one_core e = ap (λ (t : State). t.core) e

-- no number fits: the state, the sample and its frames are what the arithmetic leans on
pub leans : (t : State) (s : Sample) → refusal_of t s ≡ 0 → Valid t × InRange s × (frames_fit (frames_of t.core s) ≡ true)
unfolding refusal_of refusal_by
leans t s e =
    let p = passed (passes t) 7 (refusal_by t.core s) e in
    let q = frames_passed (refusal s) (frames_of t.core s) p.1 in
    (valid t p.0, in_range_lem s q.0, q.1)

-- the entry has come in as often as the sample stands for frames, and the sample's along wind and number are kept
pub entered_is : (t : State) (s : Sample) (n : ℕ) (x : ℤ) {held : List ℤ} {c : Core} → beside held c ≡ push_times n t x
    → beside held (core_with c.sums c.place s t.core) ≡ windows_of t s n x
unfolding windows_of
entered_is t s n x e = ap (λ (u : State). beside u.held (core_with u.core.sums u.core.place s t.core)) e

-- the lamps and the voice leave guidance as it was, whatever the windows' sums and place are
pub guide_kept : (t : State) (s : Sample) (n : ℕ) (height : ℤ) (sums : Sums) (place : ℕ) {lit spoken : Core}
    → lit ≡ lamps_of (core_with sums place s t.core) height n → spoken ≡ voice_of lit s n → Valid t → GuideValid (guide_of spoken)
unfolding core_with lamps_of voice_of guide_of
guide_kept t s n height sums place l v h = rw (v, l) h.guide

-- and so where they are those of the filled windows
pub guide_kept_entered : (t : State) (s : Sample) (n : ℕ) (x height : ℤ) {held : List ℤ} {entered lit spoken : Core}
    → beside held entered ≡ windows_of t s n x → lit ≡ lamps_of entered height n → spoken ≡ voice_of lit s n → Valid t → GuideValid (guide_of spoken)
unfolding windows_of
guide_kept_entered t s n x height w l v h =
    let c = (push_times n t x).core in
    guide_kept t s n height c.sums c.place (l ∙ ap (λ (e : Core). lamps_of e height n) (one_core w)) v h

-- the methods one after another are the step
pub chain : (t : State) (s : Sample) {n : ℕ} {x entry : ℤ} {held : List ℤ} {entered lit spoken end : Core} {a : Answer}
    → n ≡ frames_of t.core s → x ≡ shear_of t.core s → entry ≡ cut entry_limit x → beside held entered ≡ windows_of t s n entry
    → lit ≡ lamps_of entered s.height n → spoken ≡ voice_of lit s n → end ≡ pitch_of spoken s n → a ≡ answer_of end x
    → ◌≡◌ {A = Offered} (record { answer = a; state = beside held end }) (accept_of t s)
unfolding accept_of entry_of shown_by
chain t s f e c w l v p a = rw (a, p, v, l, one_core w, one_ring w, c, e, f)

-- a cut shear may come into a ring
pub entry_fits_lem : (x : ℤ) {entry : ℤ} → entry ≡ cut entry_limit x → entry_fits entry ≡ true
entry_fits_lem x e = rw e (cut_fits x)

-- what is accepted keeps the promise of the plain form
pub promised : (t : State) (s : Sample) {a : Answer} {u : State} → refusal_of t s ≡ 0 → ◌≡◌ {A = Offered} (record { answer = a; state = u }) (accept_of t s)
    → PlainPromise t s a u
unfolding PlainPromise offer_of
promised t s z e = rw (eq-eqb _ _ z) e

-- a refusal is answered by its number, with zeros beside it
pub refused : (t : State) (s : Sample) (r : Refusal) → refusal_number r ≡ refusal_of t s → PlainPromise t s (refused_of (refusal_number r)) t
unfolding PlainPromise offer_of
refused t s r e = let p = number_positive r in rw (← e, ne_eqb (refusal_number r) 0 (λ z. omega arith))
