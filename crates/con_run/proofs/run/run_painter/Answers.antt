use denote.Exit.{no}
use denote.Param.{param}
use denote.Param.Send.{mut_send, shr_send, sendable}
use denote.Ref.{MutRef, ShrRef}
use mir.Syntax.{named}
use Rattle.std.proofs.Common.{◌∷◌, []}
use Rattle.std.proofs.Crossing.{crosses}
use Rattle.std.specs.contracts.alloc.Global as Global
use Rattle.con_book.specs.contracts.book.Book as book
use Rattle.con_events.specs.contracts.event.Event as event
use Rattle.con_machine.specs.contracts.rooms.room.Room as room
use Rattle.con_actors.specs.contracts.desk.Brief as brief
use Rattle.con_threads.specs.contracts.ledger.Ledger as ledger
use Rattle.con_threads.specs.contracts.ledger.LedgerMachine.TheImpl as machine
use Rattle.con_threads.specs.contracts.ledger.LedgerView as page
use Rattle.con_threads.specs.contracts.ledger.Told as told
use Rattle.con_pipe.specs.contracts.put.PipeIn as put
use Rattle.con_threads.specs.contracts.painter.PainterThread as painter_thread
use Rattle.con_threads.specs.contracts.signals.Signals as signals
use Rattle.con_crossing.specs.Closures.{closure_send}
use Rattle.con_run.proofs.Crosses.{book_sync, painter_thread_send, put_send, signals_sync}
use Rattle.con_run.proofs.run.run_painter.Goals as goal

pub beside-requires-send-F : goal.beside-requires-send-F
beside-requires-send-F g c κs within = closure_send 1 _ no _ (
    MutRef (named 7) κs.1.1.1.1.1.1.1.0 painter_thread.the_row
    ∷ ShrRef (named 8) κs.1.1.1.1.1.1.1.1.0 (param 0 g.row.R)
    ∷ ShrRef (named 9) κs.1.1.1.1.1.1.1.1.1.0 Global.the_row
    ∷ ShrRef (named 10) κs.1.1.1.1.1.1.1.1.1.1.0 (book.the_row ledger.the_row page.the_row event.the_row told.the_row brief.the_row room.the_row machine.ghosts)
    ∷ ShrRef (named 11) κs.1.1.1.1.1.1.1.1.1.1.1.0 signals.the_row
    ∷ MutRef (named 12) κs.1.1.1.1.1.1.1.1.1.1.1.1.0 put.the_row
    ∷ []) (
      mut_send _ _ _ painter_thread_send,
      (shr_send _ _ _ c.type_bounds.sync-R, (search (sendable, crosses) depth 40, (shr_send _ _ _ book_sync, (shr_send _ _ _ signals_sync, (mut_send _ _ _ put_send, tt))))),
    )
