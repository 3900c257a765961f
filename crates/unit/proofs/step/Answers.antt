-- `unit::step` meets its contract: the methods one after another; no number fits, so each may be called.
use borrow.Author.Rules.{rules}
use mir.Syntax.{w32}
use mir.Val.{SFits}
use mir.Facts.{to_z-of_z}
use Rattle.frames.proofs.FrameLaws.{fit_bounds}
use Rattle.unit.specs.Steps.{beside}
use Rattle.unit.proofs.StepLaws.{leans, entry_fits_lem, guide_kept_entered, chain, promised}
use Rattle.unit.proofs.step.Goals as goal

pub returns : goal.returns
returns c =
    let before = beside c.args.held.now c.args.core in
    let x : SFits w32 c.shear-x.result = record { sfits = c.shear-x.type_inv } in
    let y : SFits w32 c.entry-entry.result = record { sfits = c.entry-entry.type_inv } in
    let h : SFits w32 c.args.s.height = search rules in
    let entry = simp to_z-of_z at c.entry-entry.ensures in
    let entered = simp to_z-of_z at c.entered-filled.ensures in
    let lit = simp to_z-of_z at c.lamps-lit.ensures in
    let a = simp to_z-of_z at c.answer.ensures in
    promised before c.args.s c.requires
    (chain before c.args.s c.frames-n.ensures c.shear-x.ensures.0 entry entered lit c.voice-spoken.ensures c.pitch-end.ensures a)

pub invariant_of-accepted : goal.invariant_of-accepted
invariant_of-accepted c =
    let a = leans (beside c.args.held.now c.args.core) c.args.s c.requires in
    record { in_range = a.1; frames_le = rw c.frames-n.ensures (fit_bounds _ a.2).1 }

pub shear-x-requires : goal.shear-x-requires
shear-x-requires c =
    let a = leans (beside c.args.held.now c.args.core) c.args.s c.requires in
    let e = c.frames-n.ensures in
    (a.0.along_le, e, rw e (fit_bounds _ a.2).0)

pub entered-filled-requires : goal.entered-filled-requires
entered-filled-requires c =
    let y : SFits w32 c.entry-entry.result = record { sfits = c.entry-entry.type_inv } in
    ((leans (beside c.args.held.now c.args.core) c.args.s c.requires).0.ring, rw (to_z-of_z y) (entry_fits_lem _ c.entry-entry.ensures))

pub pitch-end-requires : goal.pitch-end-requires
pitch-end-requires c =
    let before = beside c.args.held.now c.args.core in
    let h : SFits w32 c.args.s.height = search rules in
    let lit = simp to_z-of_z at c.lamps-lit.ensures in
    let a = leans before c.args.s c.requires in
    guide_kept_entered before c.args.s _ _ _ c.entered-filled.ensures lit c.voice-spoken.ensures a.0
