-- What a byte gives fits, and is taken.
use Rattle.std.proofs.Common.{◌≡◌, ◌∙◌, ◌++◌, List, Option, ap, sym}
use Rattle.con_units.specs.Split.{next}
use Rattle.con_records.specs.declared.record.Key.{Key}
use Rattle.con_mouse.specs.declared.report.Report.{Report}
use Rattle.con_vtin.specs.Words.Keys.{grammar}
use Rattle.con_machine.specs.Feeding.{byte_taken, report_taken_in}
use Rattle.con_machine.specs.Held.{state_of}
use Rattle.con_machine.specs.State.{State}
use Rattle.con_machine.proofs.Arriving.{byte_fits, first_fits, then_fits, all_fits, byte_state, byte_held}
use Rattle.con_machine.proofs.parts.Parts.take_byte.Goals as goal

pub take_keys-requires : goal.take_keys-requires
take_keys-requires c =
    let room = rw (← c.self.view_is) at c.requires.room in
    first_fits (record (state_of c.self.inside) { held = c.feed.new.self.held }) c.as_slice.result.now _ _ _ _ (byte_fits (record (state_of c.self.inside) { held = c.feed.new.self.held }) c.self.inside.keys.held c.feed.new.self.held c.args.byte c.as_slice.result.now c.feed.new.out.items c.clear.new.self.items c.feed.new.self.ended _ _ c.as_slice.ensures.value c.clear.ensures.items c.feed.ensures.keys c.feed.ensures.held c.feed.ensures.ended c.as_slice.ensures.len c.clear.ensures.len c.feed.ensures.few (c.feed.ensures.units c.self.inside.cursor_keys)) room

pub take_report-requires-clause-room : goal.take_report-requires-clause-room
take_report-requires-clause-room c =
    let room = rw (← c.self.view_is) at c.requires.room in
    then_fits (record (state_of c.self.inside) { held = c.feed.new.self.held }) c.as_slice.result.now _ _ _ _ _ _ (byte_fits (record (state_of c.self.inside) { held = c.feed.new.self.held }) c.self.inside.keys.held c.feed.new.self.held c.args.byte c.as_slice.result.now c.feed.new.out.items c.clear.new.self.items c.feed.new.self.ended _ _ c.as_slice.ensures.value c.clear.ensures.items c.feed.ensures.keys c.feed.ensures.held c.feed.ensures.ended c.as_slice.ensures.len c.clear.ensures.len c.feed.ensures.few (c.feed.ensures.units c.self.inside.cursor_keys)) c.ended_report-report.ensures.is room c.take_keys.ensures.spare

pub returns-clause-state : goal.returns-clause-state
returns-clause-state c = rw (← c.self.view_is) (byte_state (state_of c.self.inside) c.take_keys.new.self.state c.take_report.new.self.state c.args.byte c.as_slice.result.now c.feed.new.self.held c.feed.new.self.ended c.is_read_in_pieces.ensures (c.as_slice.ensures.value ∙ c.feed.ensures.keys ∙ ap (λ (l : List Key). l ++ (next grammar c.self.inside.keys.held c.args.byte).items) c.clear.ensures.items) c.feed.ensures.held c.feed.ensures.ended c.take_keys.ensures.state (c.take_report.ensures.state ∙ ap (λ (r : Option Report). report_taken_in c.take_keys.new.self.state r) c.ended_report-report.ensures.is))

pub returns-clause-spare : goal.returns-clause-spare
returns-clause-spare c =
    let now : c.take_report.new.self.state ≡ byte_taken (state_of c.self.inside) c.args.byte = (byte_state (state_of c.self.inside) c.take_keys.new.self.state c.take_report.new.self.state c.args.byte c.as_slice.result.now c.feed.new.self.held c.feed.new.self.ended c.is_read_in_pieces.ensures (c.as_slice.ensures.value ∙ c.feed.ensures.keys ∙ ap (λ (l : List Key). l ++ (next grammar c.self.inside.keys.held c.args.byte).items) c.clear.ensures.items) c.feed.ensures.held c.feed.ensures.ended c.take_keys.ensures.state (c.take_report.ensures.state ∙ ap (λ (r : Option Report). report_taken_in c.take_keys.new.self.state r) c.ended_report-report.ensures.is)) in
    let left = ap (λ (x : State). x.held) now ∙ byte_held (state_of c.self.inside) c.args.byte c.is_read_in_pieces.ensures ∙ sym c.feed.ensures.held in
    rw (← c.self.view_is) (all_fits (record (state_of c.self.inside) { held = c.feed.new.self.held }) c.as_slice.result.now _ _ _ _ _ _ _ _ (byte_fits (record (state_of c.self.inside) { held = c.feed.new.self.held }) c.self.inside.keys.held c.feed.new.self.held c.args.byte c.as_slice.result.now c.feed.new.out.items c.clear.new.self.items c.feed.new.self.ended _ _ c.as_slice.ensures.value c.clear.ensures.items c.feed.ensures.keys c.feed.ensures.held c.feed.ensures.ended c.as_slice.ensures.len c.clear.ensures.len c.feed.ensures.few (c.feed.ensures.units c.self.inside.cursor_keys)) c.ended_report-report.ensures.is c.take_keys.ensures.spare c.take_report.ensures.spare left)
