-- Bounds of the lamps' and the voice's counters and of escape guidance after a sample, which refusal 8 asks of a state; and the cap.
use mathlib.Core.Path.{◌≡◌, refl, sym, ap, ◌∙◌}
use mathlib.Core.Bool.{Bool, true, false, cond}
use Prim.Native.Nat.{ℕ, ◌+◌, ◌-◌, ◌*◌, ◌≤◌, ◌<◌, zero-le}
use native.Mathlib.Nat.{le_refl}
use native.Mathlib.Omega.{arith}
use borrow.Author.Tests.{leb-true, leb-false, le-leb, lt-leb, eq-eqb, ne_eqb, eqb-true}
use lib.Dec.{ltb, leb, eqb, lit<}
use lib.IntN.{ℤ, pos, ◌-ℤ◌}
use lib.Signed.{lt_z, ◌≤ℤ◌, le_z_yes}
use mir.Syntax.{w32}
use mir.Val.{SFits, to_z, of_z}
use mir.Facts.{to_z-of_z}
use Rattle.std.specs.Bool.{one_answer}
use Rattle.std.proofs.lemmas.Bool.Decides.{Decides-int_eq}
use Rattle.rounding.proofs.Difference.{any, nat, +D, le_d, of_le}
use Rattle.rules.specs.Choice.{neg, same, smaller}
use Rattle.rules.specs.Rules.{cap, towards, climbing, counted}
use Rattle.alerts.specs.Counters.{lamp_next, unless_lit, voice_next, no_guide, started_of, continued_of, guide_next}
use Rattle.rules.specs.declared.Sample.{Sample}
use Rattle.alerts.specs.declared.pitch.Guide.{Guide}
use Rattle.rules.proofs.Choices.{cond_has, int_eq_same, ≤ℤ-trans, smaller_le_left, smaller_le_right, smaller_ge, larger_ge_left}

-- ════ A field that equals another ════

-- the code compares two numbers of 32 bits by their bits
pub code_same : {a b : ℤ} → SFits w32 a → SFits w32 b → eqb (of_z w32 a) (of_z w32 b) ≡ same a b
code_same {a} {b} f g =
    one_answer {P = a ≡ b} (eqb (of_z w32 a) (of_z w32 b)) (same a b)
    (λ t. sym (to_z-of_z f) ∙ ap (to_z w32) (eqb-true _ _ t) ∙ to_z-of_z g, λ e. eq-eqb _ _ (ap (of_z w32) e))
    (rw (← int_eq_same a b) (Decides-int_eq a b))

pub is_one : {x : ℤ} → SFits w32 x → of_z w32 x ≡ 1 → same x (pos 1) ≡ true
is_one f e = sym (code_same f (record { sfits = lit< tt })) ∙ eq-eqb _ _ e

pub not_one : {x : ℤ} → SFits w32 x → (of_z w32 x ≡ 1 → ⊥) → same x (pos 1) ≡ false
not_one f e = sym (code_same f (record { sfits = lit< tt })) ∙ ne_eqb _ _ e

-- ════ Lamps and voice ════

cond_le : (t : Bool) {a b : ℕ} (m : ℕ) → (t ≡ true → a ≤ m) → (t ≡ false → b ≤ m) → cond t a b ≤ m
cond_le t m = cond_has (λ (n : ℕ). n ≤ m) t

pub lamp_le : (n frames : ℕ) (on : Bool) → lamp_next n frames on ≤ 60
unfolding lamp_next
lamp_le n frames on = grind arith

pub unless_le : (red amber : ℕ) → unless_lit red amber ≤ amber
unfolding unless_lit
unless_le red amber = cond_le (ltb 0 red) amber (λ e. zero-le) (λ e. le_refl amber)

pub voice_le : (n frames : ℕ) (comes : Bool) → voice_next n frames comes ≤ 73
unfolding voice_next
voice_le n frames comes =
    cond_le (eqb n 0) 73 (λ e. cond_le comes 73 (λ k. omega arith) (λ k. zero-le))
    (λ e. cond_le (leb (n + frames) 72) 73 (λ k. omega (arith, leb-true (n + frames) 72 k)) (λ k. le_refl 73))

-- ════ Escape pitch ════

-- a guide by its fields
pub guide_is : {n m : ℕ} {x y : ℤ} → n ≡ m → x ≡ y → ◌≡◌ {A = Guide} (record { count = n + 1; command = x }) (record { count = m + 1; command = y })
guide_is e f = rw (e, f)

pub counted_le : (s : Sample) (frames n : ℕ) → counted s frames n ≤ n + frames
unfolding counted
counted_le s frames n = cond_le (climbing s) (n + frames) (λ e. le_refl (n + frames)) (λ e. zero-le)

-- guidance that is on ends where the count has reached 600, and else goes on
pub ends : (g : Guide) (s : Sample) (frames : ℕ) {n : ℕ} {r : Guide} → n ≡ counted s frames (g.count - 1) → 600 ≤ n → r ≡ no_guide
    → r ≡ continued_of g s frames
unfolding continued_of
ends g s frames e le p = rw (← e, le-leb 600 _ le) p

pub goes_on : (g : Guide) (s : Sample) (frames : ℕ) {n : ℕ} {r : Guide} → n ≡ counted s frames (g.count - 1) → n < 600
    → r ≡ record { count = n + 1; command = smaller (towards frames g.command) (cap s) } → r ≡ continued_of g s frames
unfolding continued_of
goes_on g s frames e lt p = rw (← e, lt-leb 600 _ lt) p

-- after a sample guidance is off, or has started, or goes on with a count below 600
next_has : (P : Guide → Type 0) (g : Guide) (s : Sample) (frames : ℕ) (comes : Bool) → P no_guide → P (started_of s)
    → (counted s frames (g.count - 1) < 600
    → P (record { count = counted s frames (g.count - 1) + 1; command = smaller (towards frames g.command) (cap s) }))
    → P (guide_next g s frames comes)
unfolding guide_next continued_of
next_has P g s frames comes none start more =
    cond_has P (same s.deselect (pos 1)) (λ e. none)
    (λ e.
    cond_has P (eqb g.count 0) (λ f. cond_has P comes (λ k. start) (λ k. none))
    (λ f. cond_has P (leb 600 (counted s frames (g.count - 1))) (λ k. none) (λ k. more (leb-false 600 _ k))))

pub count_le : (g : Guide) (s : Sample) (frames : ℕ) (comes : Bool) → (guide_next g s frames comes).count ≤ 600
unfolding no_guide started_of
count_le g s frames comes =
    next_has (λ (r : Guide). r.count ≤ 600) g s frames comes zero-le (omega (arith, counted_le s 1 0)) (λ k. omega (arith, k))

towards_ge : (frames : ℕ) (c : ℤ) → neg 30000 ≤ℤ c → neg 30000 ≤ℤ towards frames c
unfolding towards
towards_ge frames c h =
    cond_has (λ (x : ℤ). neg 30000 ≤ℤ x) (lt_z c (pos 15000))
    (λ e. smaller_ge (le_z_yes tt) (le_d (any (neg 30000)) (+D (any c) (nat (75 * frames))) (omega (arith, of_le h (any (neg 30000)) (any c)))))
    (λ e. ≤ℤ-trans (le_z_yes tt) (larger_ge_left (pos 15000) (c -ℤ pos (75 * frames))))

cap_ge : (s : Sample) → neg 10000 ≤ℤ s.stall → neg 30000 ≤ℤ cap s
unfolding cap
cap_ge s h = smaller_ge (le_z_yes tt) (≤ℤ-trans {b = neg 10000} (le_z_yes tt) h)

pub command_ge : (g : Guide) (s : Sample) (frames : ℕ) (comes : Bool) → neg 30000 ≤ℤ g.command → neg 30000 ≤ℤ s.pitch → neg 10000 ≤ℤ s.stall
    → neg 30000 ≤ℤ (guide_next g s frames comes).command
unfolding no_guide started_of
command_ge g s frames comes hg hp hs =
    next_has (λ (r : Guide). neg 30000 ≤ℤ r.command) g s frames comes (le_z_yes tt) (smaller_ge hp (cap_ge s hs)) (λ k. smaller_ge (towards_ge frames g.command hg) (cap_ge s hs))

-- what is cut to the cap is at most the cap's bound
cut_le : (x : ℤ) (s : Sample) → smaller x (cap s) ≤ℤ pos 27000
unfolding cap
cut_le x s = ≤ℤ-trans (smaller_le_right x (cap s)) (smaller_le_left (pos 27000) s.stall)

pub command_le : (g : Guide) (s : Sample) (frames : ℕ) (comes : Bool) → (guide_next g s frames comes).command ≤ℤ pos 27000
unfolding no_guide started_of
command_le g s frames comes =
    next_has (λ (r : Guide). r.command ≤ℤ pos 27000) g s frames comes (le_z_yes tt) (cut_le s.pitch s) (λ k. cut_le (towards frames g.command) s)

-- while guidance runs, the command is at most the stall-warning pitch
cut_stall : (x : ℤ) (s : Sample) → smaller x (cap s) ≤ℤ s.stall
unfolding cap
cut_stall x s = ≤ℤ-trans (smaller_le_right x (cap s)) (smaller_le_right (pos 27000) s.stall)

pub command_cap : (g : Guide) (s : Sample) (frames : ℕ) (comes : Bool) → ((guide_next g s frames comes).count ≡ 0 → ⊥)
    → (guide_next g s frames comes).command ≤ℤ s.stall
unfolding no_guide started_of
command_cap g s frames comes =
    next_has (λ (r : Guide). (r.count ≡ 0 → ⊥) → r.command ≤ℤ s.stall) g s frames comes (λ h. absurd (h refl)) (λ h. cut_stall s.pitch s)
    (λ k h. cut_stall (towards frames g.command) s)
