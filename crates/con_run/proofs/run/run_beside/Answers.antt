use denote.Exit.{no}
use denote.Param.{param}
use denote.Param.Object.{Vt, ghosts_of}
use denote.Param.Send.{mut_slice_send, sendable, shr_send}
use denote.Ref.{ShrRef}
use denote.Slice.{MutSlice}
use mir.Syntax.{named}
use Rattle.std.proofs.Common.{◌∷◌, []}
use Rattle.con_book.specs.contracts.book.Book as book
use Rattle.con_events.specs.contracts.event.Event as event
use Rattle.con_machine.specs.contracts.rooms.room.Room as room
use Rattle.con_actors.specs.contracts.desk.Brief as brief
use Rattle.con_threads.specs.contracts.client.ClientThread as client
use Rattle.con_threads.specs.contracts.ledger.Ledger as ledger
use Rattle.con_threads.specs.contracts.ledger.LedgerMachine.TheImpl as machine
use Rattle.con_threads.specs.contracts.ledger.LedgerView as page
use Rattle.con_threads.specs.contracts.ledger.Told as told
use Rattle.con_run.specs.contracts.run.run_beside.dyn-1 as dyn
use Rattle.con_threads.specs.contracts.signals.Signals as signals
use Rattle.con_crossing.specs.Closures.{closure_send}
use Rattle.con_run.proofs.Crewing.{served_lent}
use Rattle.con_run.proofs.Crosses.{book_sync, client_send, signals_sync}
use Rattle.con_run.proofs.run.run_beside.Goals as goal

pub beside-requires-send-F : goal.beside-requires-send-F
beside-requires-send-F g c κs within = closure_send 1 _ no _ (
    ShrRef (named 7) κs.1.1.1.1.1.1.1.0 (param 0 g.row.R)
    ∷ ShrRef (named 8) κs.1.1.1.1.1.1.1.1.0 (book.the_row ledger.the_row page.the_row event.the_row told.the_row brief.the_row room.the_row machine.ghosts)
    ∷ ShrRef (named 9) κs.1.1.1.1.1.1.1.1.1.0 signals.the_row
    ∷ ShrRef (named 10) κs.1.1.1.1.1.1.1.1.1.1.0 (param 3 g.row.G)
    ∷ MutSlice (named 11) κs.1.1.1.1.1.1.1.1.1.1.1.0
    (client.the_row (record { mir = named 12; lft = κs.1.1.1.1.1.1.1.1.1.1.1.1.0 }) (Vt (dyn.slots g.row.R g.row.I g.row.O g.row.G) g.dyn-1.0) (ghosts_of (dyn.slots g.row.R g.row.I g.row.O g.row.G) g.dyn-1.0 g.dyn-1.1))
    ∷ []) (
      shr_send _ _ _ c.type_bounds.sync-R,
      (shr_send _ _ _ book_sync, (shr_send _ _ _ signals_sync, (shr_send _ _ _ c.type_bounds.sync-G, (mut_slice_send _ _ _ (client_send (Vt (dyn.slots g.row.R g.row.I g.row.O g.row.G) g.dyn-1.0) (ghosts_of (dyn.slots g.row.R g.row.I g.row.O g.row.G) g.dyn-1.0 g.dyn-1.1) g.dyn-1.2 (search sendable depth 20) _), tt)))),
    )

pub returns-clause-clients : goal.returns-clause-clients
returns-clause-clients g c = let m = c.beside.ensures.0.met in served_lent _ _ _ _ _ _ m.0.4 c.clients-1.given.1.1 m.1
