-- `unit_core::Core::shear` meets its contract: the change of along wind is in range, and the call gives the held shear with its bound.
use mathlib.Core.Path.{◌≡◌, ◌∙◌}
use Prim.Native.Nat.{ℕ, ◌≤◌}
use borrow.Author.Tests.{lt-ltb, le-ltb}
use lib.Dec.{lit<, lit≤}
use lib.IntN.{ℤ, pos, nat_abs, ◌-ℤ◌}
use lib.Signed.{◌≤ℤ◌}
use mir.Syntax.{w32}
use mir.Facts.{to_z-of_z}
use Rattle.rounding.proofs.Fits.{Holds, exact, kept}
use Rattle.rules.specs.Rules.{held_shear}
use Rattle.unit_core.specs.Core.{shear_of}
use Rattle.unit_core.proofs.ShearLaws.{back, change}
use Rattle.unit_core.proofs.Core.shear.Goals as goal

size : {g x : ℤ} {m : ℕ} → Holds g x m → nat_abs g ≤ m
size h = rw h.is h.le

-- what the call asks of the two fields, as they are read back
fields : (v a : ℤ) → nat_abs v ≤ 10000 → pos 6000 ≤ℤ a → nat_abs a ≤ 60000
    → (nat_abs (back v) ≤ 10000) × (pos 6000 ≤ℤ back a) × (nat_abs (back a) ≤ 60000)
fields v a hv ge ha =
    let r = kept w32 (exact a ha) (lit< tt) in
    (size (kept w32 (exact v hv) (lit< tt)), rw r.is ge, size r)

-- the call's result as it is read back
pub returns-then-self-gt0 : goal.returns-then-self-gt0
unfolding shear_of
returns-then-self-gt0 c =
    let k = c.before.before.before.before.before.before.before.before.before in
    let r = k.args.s.in_range in
    let d = kept w32 (change k.args.s.sample.along k.args.self.along r.along_le k.requires.0) (lit< tt) in
    let v = kept w32 (exact k.args.s.sample.vertical r.vertical_le) (lit< tt) in
    let a = kept w32 (exact k.args.s.sample.airspeed r.airspeed_le) (lit< tt) in
    let e = to_z-of_z {w = w32} (record { sfits = c.held.type_inv }) in
    let told
    : c.held.result ≡ held_shear (back (back k.args.s.sample.along -ℤ back k.args.self.along)) k.args.s.frames (back k.args.s.sample.vertical) (back k.args.s.sample.airspeed)
    = c.held.ensures.0 in
    (e ∙ told ∙ rw (d.is, v.is, a.is, ← k.requires.1, lt-ltb _ _ c.before.before.before.before.before.if-self-gt0.true), rw e c.held.ensures.1)

pub held-requires : goal.held-requires
held-requires c =
    let k = c.before.before.before.before.before.before.before.before in
    let r = k.args.s.in_range in
    let f = fields k.args.s.sample.vertical k.args.s.sample.airspeed r.vertical_le r.airspeed_ge r.airspeed_le in
    (size (kept w32 (change k.args.s.sample.along k.args.self.along r.along_le k.requires.0) (lit< tt)), f.0, f.1, f.2, k.requires.2, k.args.s.frames_le)

pub returns : goal.returns
unfolding shear_of
returns c =
    let k = c.before.before.before.before.before in
    let r = k.args.s.in_range in
    let v = kept w32 (exact k.args.s.sample.vertical r.vertical_le) (lit< tt) in
    let a = kept w32 (exact k.args.s.sample.airspeed r.airspeed_le) (lit< tt) in
    let e = to_z-of_z {w = w32} (record { sfits = c.held-2.type_inv }) in
    (e ∙ c.held-2.ensures.0 ∙ rw (v.is, a.is, ← k.requires.1, le-ltb _ _ c.before.if-self-gt0.false), rw e c.held-2.ensures.1)

pub held-requires-2 : goal.held-requires-2
held-requires-2 c =
    let k = c.before.before.before.before in
    let r = k.args.s.in_range in
    let f = fields k.args.s.sample.vertical k.args.s.sample.airspeed r.vertical_le r.airspeed_ge r.airspeed_le in
    (lit≤ tt, f.0, f.1, f.2, k.requires.2, k.args.s.frames_le)
