use Rattle.std.proofs.Common.{◌≡◌, ℕ, true, Some, replicate, ap, subst, ◌∙◌}
use Rattle.con_units.specs.declared.view.View.{View}
use Rattle.con_machine.specs.Held.{Held, state_of}
use Rattle.con_machine.specs.Marks.{seen_at, IsPaintRoom}
use Rattle.con_machine.specs.declared.rooms.paint_room.PaintRoom.{PaintRoom}
use Rattle.con_machine.specs.Painting.{view_now}
use Rattle.con_machine.proofs.Knows.{marks_are, all_moved}
use Rattle.con_machine.proofs.parts.Parts.paint_room.Goals as goal

pub returns-clause-room : goal.returns-clause-room
returns-clause-room c =
    let view : c.in_ok-view.view ≡ view_now (state_of c.self.inside) = c.in_ok-view.ensures.view in
    let r : PaintRoom = record { view = c.in_ok-view.view; kept = c.in_ok-kept.kept; marks = c.in_ok-marks.marks; fresh = c.is_fresh-fresh.result } in
    subst (λ (v : Held). IsPaintRoom v.state r) c.self.view_is (record {
      view = view;
      kept = c.in_ok-kept.ensures ∙ view;
      marks = marks_are (state_of c.self.inside) c.self.inside.seen c.in_ok-view.view.size.h c.in_ok-marks.marks c.is_fresh-fresh.result
          c.is_known-known.result c.marks_all-all.result c.self.invariant.buffers c.self.invariant.seen_was (ap (λ (v : View). v.size.h) view)
          c.is_fresh-fresh.ensures c.is_known-known.ensures c.marks_all-all.ensures c.in_ok-marks.ensures.count c.in_ok-marks.ensures.all
          c.in_ok-marks.ensures.same;
      fresh = c.is_fresh-fresh.ensures;
    })

pub returns-clause-moved : goal.returns-clause-moved
returns-clause-moved c =
    let view : c.in_ok-view.view ≡ view_now (state_of c.self.inside) = c.in_ok-view.ensures.view in
    let P : Held → Type 0 = λ v. (v.seen ≡ Some (seen_at v.state.buffers) → ⊥) → c.in_ok-marks.marks ≡ replicate (view_now v.state).size.h true in
    subst P c.self.view_is (λ moved.
    c.in_ok-marks.ensures.all (c.marks_all-all.ensures ∙ all_moved c.self.inside.seen c.self.inside.screens c.is_fresh-fresh.result c.is_known-known.result
    c.is_known-known.ensures moved)
    ∙ ap (λ (n : ℕ). replicate n true) (ap (λ (v : View). v.size.h) view))
