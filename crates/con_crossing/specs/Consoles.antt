-- A console may be sent to another thread, and be shared by threads, part by part.
use denote.Param.Send.{IsSend, IsSync, sendable}
use Rattle.std.proofs.Crossing.{crosses}
use Rattle.con_grid.proofs.ring.Ring.TheSendSync as grid_ring
use Rattle.con_grid.proofs.stamps.Stamps.TheSendSync as grid_stamps
use Rattle.con_page.proofs.margins.Margins.TheSendSync as screen_margins
use Rattle.con_cooked.proofs.recall.EditedLine.TheSendSync as cooked_editedline
use Rattle.con_readers.proofs.wants_records.WantsRecords.TheSendSync as readers_wantsrecords
use Rattle.con_readers.proofs.wants_units.WantsUnits.TheSendSync as readers_wantsunits
use Rattle.con_records.proofs.taken.Taken.TheSendSync as records_taken
use Rattle.con_units.proofs.lists.Units.TheSendSync as units_units
use Rattle.con_handles.proofs.handles.Handles.TheSendSync as handles_handles
use Rattle.con_procs.proofs.procs.Procs.TheSendSync as procs_procs
use Rattle.con_machine.proofs.reads.notes.Notes.TheSendSync as machine_notes
use Rattle.con_machine.proofs.reads.rests.Rests.TheSendSync as machine_rests
use Rattle.con_records.proofs.records.Records.TheSendSync as records_records
use Rattle.con_history.proofs.histories.Histories.TheSendSync as history_histories
use Rattle.con_alias.proofs.aliases.Aliases.TheSendSync as alias_aliases
use Rattle.con_vtin.proofs.reader.KeyReader.TheSendSync as vtin_keyreader
use Rattle.con_machine.proofs.title.Title.TheSendSync as machine_title
use Rattle.con_units.proofs.view.View.TheSendSync as units_view
use Rattle.con_machine.proofs.painting.seen.Seen.TheSendSync as machine_seen
use Rattle.con_vtgram.specs.contracts.splitter.Splitter as splitter
use Rattle.con_grid.specs.contracts.grid.Grid as grid
use Rattle.con_page.specs.contracts.page.Page as page
use Rattle.con_screen.specs.contracts.screen.Screen as screen
use Rattle.con_screens.specs.contracts.buffer.Buffer as buffer
use Rattle.con_screens.specs.contracts.screens.Screens as screens
use Rattle.con_readers.specs.contracts.readers.Readers as readers
use Rattle.con_machine.specs.contracts.parts.Parts as parts
use Rattle.con_console.specs.contracts.console.Console as console

pub splitter_send : IsSend splitter.the_row
splitter_send = search (sendable, crosses) depth 40

pub grid_send : IsSend grid.the_row
grid_send = search (sendable, crosses, grid_ring.the_send, grid_stamps.the_send) depth 40

pub page_send : IsSend page.the_row
page_send = search (sendable, crosses, screen_margins.the_send, grid_send) depth 40

pub screen_send : IsSend screen.the_row
screen_send = search (sendable, crosses, splitter_send, page_send) depth 40

pub buffer_send : IsSend buffer.the_row
buffer_send = search (sendable, crosses, screen_send) depth 40

pub screens_send : IsSend screens.the_row
screens_send = search (sendable, crosses, buffer_send) depth 40

pub readers_send : IsSend readers.the_row
readers_send =
    search
    (sendable, crosses, cooked_editedline.the_send, readers_wantsrecords.the_send, readers_wantsunits.the_send, records_taken.the_send, units_units.the_send)
    depth 40

-- what a console has of clients, of its input and its lines, and of what is shown
ruleset clients_send = (handles_handles.the_send, procs_procs.the_send, machine_notes.the_send, machine_rests.the_send)

ruleset lines_send = (records_records.the_send, history_histories.the_send, alias_aliases.the_send, vtin_keyreader.the_send)

ruleset shown_send = (machine_title.the_send, units_view.the_send, machine_seen.the_send)

pub parts_send : IsSend parts.the_row
parts_send = search (sendable, crosses, clients_send, lines_send, shown_send, screens_send, readers_send) depth 40

pub console_send : IsSend console.the_row
console_send = search (sendable, crosses, parts_send) depth 40

pub splitter_sync : IsSync splitter.the_row
splitter_sync = search (sendable, crosses) depth 40

pub grid_sync : IsSync grid.the_row
grid_sync = search (sendable, crosses, grid_ring.the_sync, grid_stamps.the_sync) depth 40

pub page_sync : IsSync page.the_row
page_sync = search (sendable, crosses, screen_margins.the_sync, grid_sync) depth 40

pub screen_sync : IsSync screen.the_row
screen_sync = search (sendable, crosses, splitter_sync, page_sync) depth 40

pub buffer_sync : IsSync buffer.the_row
buffer_sync = search (sendable, crosses, screen_sync) depth 40

pub screens_sync : IsSync screens.the_row
screens_sync = search (sendable, crosses, buffer_sync) depth 40

pub readers_sync : IsSync readers.the_row
readers_sync =
    search
    (sendable, crosses, cooked_editedline.the_sync, readers_wantsrecords.the_sync, readers_wantsunits.the_sync, records_taken.the_sync, units_units.the_sync)
    depth 40

-- what a console has of clients, of its input and its lines, and of what is shown
ruleset clients_sync = (handles_handles.the_sync, procs_procs.the_sync, machine_notes.the_sync, machine_rests.the_sync)

ruleset lines_sync = (records_records.the_sync, history_histories.the_sync, alias_aliases.the_sync, vtin_keyreader.the_sync)

ruleset shown_sync = (machine_title.the_sync, units_view.the_sync, machine_seen.the_sync)

pub parts_sync : IsSync parts.the_row
parts_sync = search (sendable, crosses, clients_sync, lines_sync, shown_sync, screens_sync, readers_sync) depth 40

pub console_sync : IsSync console.the_row
console_sync = search (sendable, crosses, parts_sync) depth 40
