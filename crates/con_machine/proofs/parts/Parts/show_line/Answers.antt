use Rattle.std.proofs.Common.{◌≡◌, refl, sym, ap, ◌∙◌}
use Rattle.con_cooked.specs.Cooked.{line_of}
use Rattle.con_readers.specs.Lines.{line_text}
use Rattle.con_screen.specs.Echo.{Echoed, echoed}
use Rattle.con_page.specs.declared.origin.Origin.{Origin}
use Rattle.con_screens.specs.Buffers.{screen_at}
use Rattle.con_machine.specs.Held.{state_of}
use Rattle.con_machine.specs.Kept.{Noting}
use Rattle.con_machine.specs.Serving.{note_changed}
use Rattle.con_machine.proofs.Followed.{shown_is}
use Rattle.con_machine.proofs.parts.Parts.show_line.Goals as goal

pub returns-then-shows_line-clause-state : goal.returns-then-shows_line-clause-state
returns-then-shows_line-clause-state c = λ old new e text.
    (let same = rw (← c.self.view_is) at text in
    let whole : c.head_text-text.result.now ≡ line_text new = c.head_text-text.ensures.text ∙ same in
    let shown : Echoed = echoed (screen_at c.self.inside.screens c.in-Some.note.buffer.0) c.in-Some.note.origin (line_text old) (line_text new) (line_of new).line.caret in
    let notes : c.set_origin.new.self.list ≡ note_changed (λ m. record m { origin = shown.origin }) c.self.inside.notes.list c.in-Some.note.process =
    ap (λ (x : Noting). x.list) c.set_origin.ensures ∙ ap (λ (o : Origin). note_changed (λ m. record m { origin = o }) c.self.inside.notes.list c.in-Some.note.process) (c.show-origin.ensures.origin old new e whole) in
    rw (← c.self.view_is) (shown_is (state_of c.self.inside) c.args.p c.in-Some.note old new shown c.show-origin.new.screens c.set_origin.new.self.list c.in-Some.ensures (sym c.if-shows_line.ensures.is) refl (c.show-origin.ensures.screen old new e whole) notes))
