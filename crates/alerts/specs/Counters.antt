-- The counters of the lamps, the voice and escape guidance, from one sample to the next: what the clauses of src/ cite (01, "Lamps and voice" and
-- "Escape pitch"; 02, A6). They stop where they no longer matter.
use Rattle.std.specs.Prelude.{Bool, false, not, cond, ℕ, ◌+◌, ◌-◌, ◌≤◌, ltb, leb, eqb, ℤ, pos, nat_abs}
use Rattle.alerts.specs.declared.lamps.AlertLevel.{AlertLevel}
use Rattle.alerts.specs.declared.lamps.AlertLevel.TheVariants.{None, Amber, Red}
use Rattle.alerts.specs.declared.pitch.Guide.{Guide}
use Rattle.rules.specs.Choice.{same, smaller}
use Rattle.rules.specs.Rules.{cap, towards, counted}
use Rattle.rules.specs.declared.Sample.{Sample}

-- ════ Lamps ════

-- a lamp's counter of frames, which stops at 60
unfoldable pub lamp_next : ℕ → (frames : ℕ) → Bool → ℕ
lamp_next n frames on = cond (eqb n 0) (cond on 1 0) (cond (leb (n + frames) 60) (n + frames) (cond on 60 0))

unfoldable pub unless_lit : ℕ → ℕ → ℕ
unless_lit red amber = cond (ltb 0 red) 0 amber

abbrev pub alert_number : AlertLevel → ℕ
alert_number None = 0
alert_number Amber = 1
alert_number Red = 2

-- 2 red, 1 amber, 0 none
unfoldable pub alert_of : ℕ → ℕ → ℕ
alert_of red amber = cond (ltb 0 red) 2 (cond (ltb 0 amber) 1 0)

-- ════ Voice ════

unfoldable pub changed_of : ℕ → ℤ → ℤ → Bool
changed_of seen last mode = cond (eqb seen 0) false (not (same mode last))

unfoldable pub kept_of : ℕ → Bool → ℕ
kept_of n change = cond change 0 n

-- the voice's counter of frames, which stops at 73
unfoldable pub voice_next : ℕ → (frames : ℕ) → Bool → ℕ
voice_next n frames comes = cond (eqb n 0) (cond comes 1 0) (cond (leb (n + frames) 72) (n + frames) 73)

-- ════ Escape pitch ════

unfoldable pub no_guide : Guide
no_guide = record { count = 0; command = pos 0 }

unfoldable pub started_of : Sample → Guide
started_of s = record { count = counted s 1 0 + 1; command = smaller s.pitch (cap s) }

unfoldable pub continued_of : Guide → Sample → (frames : ℕ) → Guide
continued_of g s frames =
    let n = counted s frames (g.count - 1) in
    cond (leb 600 n) no_guide (record { count = n + 1; command = smaller (towards frames g.command) (cap s) })

unfoldable pub guide_next : Guide → Sample → (frames : ℕ) → Bool → Guide
guide_next g s frames comes =
    cond (same s.deselect (pos 1)) no_guide
    (cond (eqb g.count 0) (cond comes (started_of s) no_guide) (continued_of g s frames))

unfoldable pub shown_of : ℕ → ℕ
shown_of count = cond (eqb count 0) 0 1

-- what the functions ask of guidance
pub record GuideValid (g : Guide) : Type 0 where
  pub count_le : g.count ≤ 600
  pub command_le : nat_abs g.command ≤ 30000
