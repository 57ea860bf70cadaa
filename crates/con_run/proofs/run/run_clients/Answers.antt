use denote.Exit.{no}
use denote.Param.{param}
use denote.Param.Object.{Vt, ghosts_of}
use denote.Param.Send.{arg_send, param_send, sendable, shr_sync}
use denote.Ref.{ShrRef}
use mir.Syntax.{named}
use Rattle.std.proofs.Common.{rules, ◌∷◌, []}
use Rattle.con_book.specs.contracts.book.Book as book
use Rattle.con_events.specs.contracts.event.Event as event
use Rattle.con_machine.specs.contracts.rooms.room.Room as room
use Rattle.con_actors.specs.contracts.desk.Brief as brief
use Rattle.con_threads.specs.Clients.{seen_of}
use Rattle.con_run.proofs.Crewing.{served_as}
use Rattle.con_threads.specs.contracts.client.ClientThread as client
use Rattle.con_threads.specs.contracts.ledger.Ledger as ledger
use Rattle.con_threads.specs.contracts.ledger.LedgerMachine.TheImpl as machine
use Rattle.con_threads.specs.contracts.ledger.LedgerView as page
use Rattle.con_threads.specs.contracts.ledger.Told as told
use Rattle.con_run.specs.contracts.run.run_clients.dyn-1 as dyn
use Rattle.con_threads.specs.contracts.signals.Signals as signals
use Rattle.con_crossing.specs.Closures.{closure_sync}
use Rattle.con_run.proofs.Crosses.{book_sync, client_send, signals_sync}
use Rattle.con_run.proofs.run.run_clients.Goals as goal

pub each_beside-requires-send-T : goal.each_beside-requires-send-T
each_beside-requires-send-T g c κs within =
    param_send 1 _
    (arg_send _ no (client.the_row (record { mir = named 5; lft = κs.1.1.1.1.1.0 }) (Vt (dyn.slots g.row.R g.row.G) g.dyn-1.0) (ghosts_of (dyn.slots g.row.R g.row.G) g.dyn-1.0 g.dyn-1.1)) (client_send (Vt (dyn.slots g.row.R g.row.G) g.dyn-1.0) (ghosts_of (dyn.slots g.row.R g.row.G) g.dyn-1.0 g.dyn-1.1) g.dyn-1.2 (search sendable depth 20) _))

pub each_beside-requires-sync-F : goal.each_beside-requires-sync-F
each_beside-requires-sync-F g c κs within = closure_sync 2 _ no _ (
    ShrRef (named 7) κs.1.1.1.1.1.1.1.0 (param 0 g.row.R)
    ∷ ShrRef (named 8) κs.1.1.1.1.1.1.1.1.0 (book.the_row ledger.the_row page.the_row event.the_row told.the_row brief.the_row room.the_row machine.ghosts)
    ∷ ShrRef (named 9) κs.1.1.1.1.1.1.1.1.1.0 signals.the_row
    ∷ ShrRef (named 10) κs.1.1.1.1.1.1.1.1.1.1.0 (param 1 g.row.G)
    ∷ []) (shr_sync _ _ _ c.type_bounds.sync-R, (shr_sync _ _ _ book_sync, (shr_sync _ _ _ signals_sync, (shr_sync _ _ _ c.type_bounds.sync-G, tt))))

pub returns : goal.returns
returns g c = record {
  len = search rules;
  each = λ i d lt.
      let h = c.each_beside.ensures i d lt in
      let call = h.1.call in
      served_as (seen_of (λ z. (goal.CtrlHandler-dyn g z).memory z.1)) h.1.argument.now h.1.after_call.now _ _ h.1.argument_is h.1.left (search rules);
}
