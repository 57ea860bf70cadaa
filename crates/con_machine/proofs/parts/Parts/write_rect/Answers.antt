use Rattle.std.proofs.Common.{◌≡◌, List, Ok, Err, Some, true, sym, ap, subst, ◌∙◌}
use Rattle.con_handles.specs.declared.handle.Kind.TheVariants as kind
use Rattle.con_handles.specs.declared.handle.Object.TheVariants as object
use Rattle.con_screens.specs.Buffers.{Buffers}
use Rattle.con_rects.specs.Rules.{rect_written}
use Rattle.con_units.specs.Glyph.{Glyph}
use Rattle.con_machine.specs.CellCalls.{are_cells}
use Rattle.con_machine.specs.Words.CellCalls.{cells_at, cells_left, wrote_rect}
use Rattle.con_machine.specs.Held.{Held, state_of}
use Rattle.con_machine.specs.Outcome.{Outcome, guard}
use Rattle.con_machine.proofs.Choices.{rect_is_by}
use Rattle.con_machine.specs.Rooms.{IsRectRoom}
use Rattle.con_machine.proofs.Pairs.{cells_full}
use Rattle.con_machine.proofs.parts.Parts.write_rect.Goals as goal

pub write_rect-requires-clause-full : goal.write_rect-requires-clause-full
write_rect-requires-clause-full c =
    let are : are_cells c.args.rect c.args.units.now c.args.words.now ≡ true = sym c.are_cells.ensures ∙ c.if-not-are_cells.false in
    let room : IsRectRoom (Some c.in-Some.room) c.args.units.now c.args.words.now = rw c.in-Some.is at c.requires.room are in
    cells_full c.args.rect c.args.units.now c.args.words.now c.as_slice.result.now are (c.as_slice.ensures.value ∙ room.0)

pub returns-clause-state : goal.returns-clause-state
returns-clause-state c =
    let s = state_of c.self.inside in
    let b = c.self.inside.screens in
    let k = c.in-Ok.id.0 in
    let serves = subst (λ (v : Held). guard v.state c.args.p c.args.h kind.Output 2 ≡ Ok (object.Output c.in-Ok.id))
    (sym c.self.view_is) c.in-Ok.ensures.is in
    let are : are_cells c.args.rect c.args.units.now c.args.words.now ≡ true = sym c.are_cells.ensures ∙ c.if-not-are_cells.false in
    let room : IsRectRoom (Some c.in-Some.room) c.args.units.now c.args.words.now = rw c.in-Some.is at c.requires.room are in
    subst (λ (v : Held). state_of (record c.self.inside { screens = c.write_rect.new.screens }) ≡
    (wrote_rect v.state c.args.p c.args.h c.args.rect c.args.units.now c.args.words.now).after)
    c.self.view_is
    (ap (λ (x : Buffers). state_of (record c.self.inside { screens = x }))
    (c.in-Ok-write_rect.ensures.changed ∙ ap (λ (gs : List Glyph). cells_left b k (rect_written (cells_at b k) c.args.rect gs))
    (c.as_slice.ensures.value ∙ room.0))
    ∙ sym (ap (λ (o : Outcome). o.after)
    (rect_is_by s c.args.p c.args.h c.args.rect c.args.units.now c.args.words.now c.in-Ok.id
    (Ok c.in-Ok-write_rect.used) serves are c.in-Ok-write_rect.ensures.answer)))

pub returns-in-Err-write_rect-clause-state : goal.returns-in-Err-write_rect-clause-state
returns-in-Err-write_rect-clause-state c =
    let s = state_of c.self.inside in
    let serves = subst (λ (v : Held). guard v.state c.args.p c.args.h kind.Output 2 ≡ Ok (object.Output c.in-Ok.id))
    (sym c.self.view_is) c.in-Ok.ensures.is in
    let are : are_cells c.args.rect c.args.units.now c.args.words.now ≡ true = sym c.are_cells.ensures ∙ c.if-not-are_cells.false in
    subst (λ (v : Held). state_of (record c.self.inside { screens = c.write_rect.new.screens }) ≡
    (wrote_rect v.state c.args.p c.args.h c.args.rect c.args.units.now c.args.words.now).after)
    c.self.view_is
    (ap (λ (x : Buffers). state_of (record c.self.inside { screens = x })) c.in-Err-write_rect.ensures.refused
    ∙ sym (ap (λ (o : Outcome). o.after)
    (rect_is_by s c.args.p c.args.h c.args.rect c.args.units.now c.args.words.now c.in-Ok.id
    (Err c.in-Err-write_rect.code) serves are c.in-Err-write_rect.ensures.answer)))
