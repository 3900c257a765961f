-- What one method does to one core: what the clauses of src/ and unit's Steps.antt cite. The counters stop where they no longer matter; that this is harmless is
-- shown by the claims, which say the answers by the rules alone.
use Rattle.std.specs.Prelude.{Bool, true, false, ◌&&◌, cond, ℕ, ltb, leb, eqb, ℤ, pos, ◌-ℤ◌}
use Rattle.alerts.specs.Counters.{lamp_next, unless_lit, alert_of, changed_of, kept_of, voice_next, guide_next, shown_of}
use Rattle.alerts.specs.declared.pitch.Guide.{Guide}
use Rattle.unit_core.specs.declared.Answer.{Answer}
use Rattle.unit_core.specs.declared.Core.{Core}
use Rattle.frames.specs.Frames.{elapsed}
use Rattle.rounding.specs.Cut.{cut}
use Rattle.rules.specs.Choice.{neg, within}
use Rattle.rules.specs.Rules.{ranges, inside, refusal, then_frames, band, held_shear, entry_limit, cycle}
use Rattle.rules.specs.declared.Sample.{Sample}
use Rattle.windows.specs.Ring.{met_of}
use Rattle.windows.specs.declared.Sums.{Sums}

-- "no sample: windows zero, lamps dark, no voice, guidance off" (01, "The list in demand 3")
unfoldable pub fresh_core : Core
fresh_core =
    record {
      sums = record { s200 = pos 0; s180 = pos 0; s160 = pos 0; s140 = pos 0; s120 = pos 0; s100 = pos 0 };
      along = pos 0;
      mode = pos 0;
      command = pos 0;
      seen = 0;
      red = 0;
      amber = 0;
      voice = 0;
      guidance = 0;
      place = 0;
      frame = 0;
    }

-- ════ Frames, shear, and what enters the windows ════

-- the frames that a sample stands for: those elapsed since the last accepted one's number; one where there was none (02, A6)
unfoldable pub frames_of : Core → Sample → ℕ
frames_of c s = cond (ltb 0 c.seen) (elapsed s.frame c.frame) 1

unfoldable pub shear_of : Core → Sample → ℤ
shear_of c s = held_shear (cond (ltb 0 c.seen) (s.along -ℤ c.along) (pos 0)) (frames_of c s) s.vertical s.airspeed

-- what the sample enters into the windows: its held shear, cut
unfoldable pub entry_of : Core → Sample → ℤ
entry_of c s = cut entry_limit (shear_of c s)

-- the core with new sums and a new place
unfoldable pub core_at : Sums → ℕ → Core → Core
core_at sums place c =
    record { sums = sums; along = c.along; mode = c.mode; command = c.command; seen = c.seen; red = c.red; amber = c.amber; voice = c.voice; guidance = c.guidance; place = place; frame = c.frame }

-- the core with new sums, a new place, and the sample's along wind and number
unfoldable pub core_with : Sums → ℕ → Sample → Core → Core
core_with sums place s c =
    record { sums = sums; along = s.along; mode = c.mode; command = c.command; seen = c.seen; red = c.red; amber = c.amber; voice = c.voice; guidance = c.guidance; place = place; frame = s.frame }

-- ════ Lamps ════

unfoldable pub lamps_of : Core → ℤ → (frames : ℕ) → Core
lamps_of c height frames =
    let red = lamp_next c.red frames (inside band height && met_of true c.sums) in
    let amber = lamp_next c.amber frames (inside band height && met_of false c.sums) in
    record {
      sums = c.sums;
      along = c.along;
      mode = c.mode;
      command = c.command;
      seen = c.seen;
      red = red;
      amber = unless_lit red amber;
      voice = c.voice;
      guidance = c.guidance;
      place = c.place;
      frame = c.frame;
    }

-- ════ Voice ════

-- a lamp that comes on has its counter at 1
unfoldable pub voice_of : Core → Sample → (frames : ℕ) → Core
voice_of c s frames =
    let voice = voice_next (kept_of c.voice (changed_of c.seen c.mode s.mode)) frames (eqb c.red 1) in
    record {
      sums = c.sums;
      along = c.along;
      mode = s.mode;
      command = c.command;
      seen = 1;
      red = c.red;
      amber = c.amber;
      voice = voice;
      guidance = c.guidance;
      place = c.place;
      frame = c.frame;
    }

-- ════ Escape pitch ════

unfoldable pub guide_of : Core → Guide
guide_of c = record { count = c.guidance; command = c.command }

unfoldable pub pitch_of : Core → Sample → (frames : ℕ) → Core
pitch_of c s frames =
    let g = guide_next (guide_of c) s frames (eqb c.red 1) in
    record {
      sums = c.sums;
      along = c.along;
      mode = c.mode;
      command = g.command;
      seen = c.seen;
      red = c.red;
      amber = c.amber;
      voice = c.voice;
      guidance = g.count;
      place = c.place;
      frame = c.frame;
    }

-- ════ The answer ════

unfoldable pub answer_of : Core → ℤ → Answer
answer_of c x =
    record { refusal = 0; alert = alert_of c.red c.amber; voice = cycle c.voice; guidance = shown_of c.guidance; command = c.command; shear = x }

unfoldable pub refused_of : ℕ → Answer
refused_of n = record { refusal = n; alert = 0; voice = 0; guidance = 0; command = pos 0; shear = pos 0 }

-- what follows once the windows are filled: the lamps, the voice and the pitch, one after another
unfoldable pub shown_by : Core → Sample → (frames : ℕ) → Core
shown_by c s frames = pitch_of (voice_of (lamps_of c s.height frames) s frames) s frames

-- ════ Refusal 8 ════

-- "a counter above 600"; "the kept frame number is no counter in 8" (02, A6)
unfoldable pub counters_fit : Core → Bool
counters_fit c = leb c.seen 600 && leb c.red 600 && leb c.amber 600 && leb c.voice 600 && leb c.guidance 600

-- "a command outside -30,000 to 27,000, or a last along wind or last mode outside its range above"
unfoldable pub last_fits : Core → Bool
last_fits c = within (neg 30000) c.command (pos 27000) && inside ranges.along c.along && inside ranges.mode c.mode

-- 11 to 20, then 21
unfoldable pub refusal_by : Core → Sample → ℕ
refusal_by c s = then_frames (refusal s) (frames_of c s)
