-- `unit::State::accept` meets its contract: the methods one after another.
use mathlib.Core.List.{List}
use mathlib.Core.Path.{◌≡◌, sym, ◌∙◌, subst}
use borrow.Author.Rules.{rules}
use lib.IntN.{ℤ}
use mir.Syntax.{w32}
use mir.Val.{SFits}
use mir.Facts.{to_z-of_z}
use Rattle.frames.proofs.FrameLaws.{fit_bounds}
use Rattle.unit.specs.Steps.{beside, accept_of}
use Rattle.unit.proofs.StepLaws.{one_ring, one_core, entry_fits_lem, guide_kept_entered, chain}
use Rattle.unit.proofs.State.accept.Goals as goal

pub returns : goal.returns
returns c =
    let x : SFits w32 c.shear-x.result = record { sfits = c.shear-x.type_inv } in
    let y : SFits w32 c.entry-entry.result = record { sfits = c.entry-entry.type_inv } in
    let h : SFits w32 c.args.s.height = search rules in
    let entry = simp to_z-of_z at c.entry-entry.ensures in
    let entered = simp to_z-of_z at c.windows-full.ensures in
    let lit = simp to_z-of_z at c.lamps-lit.ensures in
    let spoken = c.voice-spoken.ensures in
    let end = c.pitch-end.ensures in
    let a = simp to_z-of_z at c.answer.ensures in
    let ring = one_ring end ∙ one_ring spoken ∙ one_ring lit in
    let done = chain c.args.self c.args.s c.frames-n.ensures c.shear-x.ensures.0 entry entered (one_core lit) (one_core spoken) (one_core end) a in
    subst (λ (held : List ℤ). record { answer = c.answer.result; state = beside held c.pitch-end.result.core } ≡ accept_of c.args.self c.args.s) (sym ring) done

pub invariant_of-accepted : goal.invariant_of-accepted
invariant_of-accepted c = record { in_range = c.requires.1; frames_le = rw c.frames-n.ensures (fit_bounds _ c.requires.2).1 }

pub shear-x-requires : goal.shear-x-requires
shear-x-requires c =
    let e = c.frames-n.ensures in
    (c.requires.0.along_le, e, rw e (fit_bounds _ c.requires.2).0)

pub windows-full-requires : goal.windows-full-requires
windows-full-requires c =
    let y : SFits w32 c.entry-entry.result = record { sfits = c.entry-entry.type_inv } in
    (c.requires.0.ring, rw (to_z-of_z y) (entry_fits_lem _ c.entry-entry.ensures))

pub pitch-end-requires : goal.pitch-end-requires
pitch-end-requires c =
    guide_kept_entered c.args.self c.args.s _ _ _ c.windows-full.ensures (one_core c.lamps-lit.ensures) (one_core c.voice-spoken.ensures) c.requires.0
