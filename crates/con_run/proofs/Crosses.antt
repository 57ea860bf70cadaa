-- What the threads of a session have may cross threads, and be shared by them: so a ledger, its book and its passes.
use denote.Param.Send.{IsSend, IsSync, sendable}
use denote.Param.Object.{Ghosts, table_of}
use denote.Param.SendFields.{declared_send, declared_sync}
use denote.Param.Sent.{Sends}
use denote.RattleType.{RattleType}
use denote.Ref.{NamedLft}
use Rattle.std.proofs.Crossing.{Vec-send, crosses, dyn_box_send}
use Rattle.std.specs.contracts.alloc.Global as Global
use Rattle.std.specs.contracts.dyn_box.DynBox as DynBox
use Rattle.std.specs.contracts.impls.GlobalAllocator.TheImpl as allocator
use Rattle.std.specs.contracts.option.Option as Option
use Rattle.con_book.proofs.bell.Bell.TheSendSync as book_bell
use Rattle.con_book.proofs.book.Book.TheSendSync as book_book
use Rattle.con_book.proofs.kept.Kept.TheSendSync as book_kept
use Rattle.atomic_table.proofs.shared.Seat.TheSendSync as table_seat
use Rattle.con_events.proofs.entry.Entry.TheSendSync as events_entry
use Rattle.con_events.proofs.event.Event.TheSendSync as events_event
use Rattle.con_events.proofs.reply.Reply.TheSendSync as events_reply
use Rattle.con_events.proofs.script.Step.TheSendSync as events_step
use Rattle.con_link.proofs.reader.LinkReader.TheSendSync as link_reader
use Rattle.con_pipe.proofs.put.PipeIn.TheSendSync as pipe_in
use Rattle.con_actors.proofs.side.Side.TheSendSync as session_side
use Rattle.con_actors.proofs.worker.Worker.TheSendSync as session_worker
use Rattle.con_paint.specs.contracts.painter.Painter as painter
use Rattle.con_book.specs.contracts.bell.Bell as bell
use Rattle.con_book.specs.contracts.book.Book as book
use Rattle.con_events.specs.contracts.event.Event as event
use Rattle.con_events.specs.contracts.script.Step as step
use Rattle.con_handlers.specs.contracts.chain.Chain as chain
use Rattle.con_link.specs.contracts.reader.LinkReader as reader
use Rattle.con_machine.specs.contracts.rooms.room.Room as room
use Rattle.con_pipe.specs.contracts.put.PipeIn as put
use Rattle.con_actors.specs.contracts.desk.Brief as brief
use Rattle.con_actors.specs.contracts.hands.Hands as hands
use Rattle.con_actors.specs.contracts.seat.Seat as seat
use Rattle.con_actors.specs.contracts.side.Side as side
use Rattle.con_actors.specs.contracts.worker.Worker as worker
use Rattle.con_threads.specs.contracts.ledger.LedgerMachine.TheImpl as machine
use Rattle.con_threads.specs.contracts.ledger.LedgerView as ledger_page
use Rattle.con_threads.specs.contracts.ledger.Told as told
use Rattle.con_threads.specs.contracts.painter.PainterThread as painter_thread
use Rattle.con_threads.specs.contracts.side.SideThread as side_thread
use Rattle.con_threads.specs.contracts.signals.Signals as signals
use Rattle.con_threads.specs.contracts.client.ClientThread as client
use Rattle.con_threads.specs.contracts.ledger.Ledger as ledger
use Rattle.con_threads.specs.contracts.scribe.Scribe as scribe
use Rattle.con_crossing.specs.Consoles.{console_send, console_sync}

pub ledger_send : IsSend ledger.the_row
ledger_send = search (sendable, crosses, console_send, events_reply.the_send, events_entry.the_send) depth 40

pub ledger_sync : IsSync ledger.the_row
ledger_sync = search (sendable, crosses, console_sync, events_reply.the_sync, events_entry.the_sync) depth 40

pub scribe_send : IsSend scribe.the_row
scribe_send = search (sendable, crosses, ledger_send, table_seat.the_send, book_kept.the_send, events_event.the_send) depth 40

pub painter_send : IsSend painter.the_row
painter_send = search (sendable, crosses) depth 40

pub bell_sync : IsSync bell.the_row
bell_sync = search (sendable, crosses, book_bell.the_sync) depth 40

pub signals_sync : IsSync signals.the_row
signals_sync =
    declared_sync signals.the_type
    (bell_sync, (search (sendable, crosses) depth 20, (search (sendable, crosses) depth 20, (search (sendable, crosses) depth 20, (search (sendable, crosses) depth 20, tt)))))

pub book_sync : IsSync (book.the_row ledger.the_row ledger_page.the_row event.the_row told.the_row brief.the_row room.the_row machine.ghosts)
book_sync =
    book_book.the_sync ledger.the_row ledger_page.the_row event.the_row told.the_row brief.the_row room.the_row machine.ghosts ledger_send events_event.the_send

pub put_send : IsSend put.the_row
put_send = search (sendable, crosses, pipe_in.the_send) depth 40

pub reader_send : IsSend reader.the_row
reader_send = search (sendable, crosses, link_reader.the_send) depth 40

pub side_send : IsSend side.the_row
side_send = search (sendable, crosses, session_side.the_send) depth 40

pub step_sync : IsSync step.the_row
step_sync = search (sendable, crosses, events_step.the_sync) depth 40

pub painter_thread_send : IsSend painter_thread.the_row
painter_thread_send =
    declared_send painter_thread.the_type
    (scribe_send, (painter_send, ((search (sendable, crosses) depth 20), ((search (sendable, crosses) depth 20), ((search (sendable, crosses) depth 20), tt)))))

pub side_thread_send : IsSend side_thread.the_row
side_thread_send =
    declared_send side_thread.the_type
    (scribe_send, (reader_send, (side_send, ((search (sendable, crosses) depth 20), ((search (sendable, crosses) depth 20), tt)))))

pub worker_send : IsSend worker.the_row
worker_send = search (sendable, crosses, session_worker.the_send) depth 40

-- a client's thread crosses where its handlers do
module _ (D : RattleType) (g : Ghosts D.Denot) (s : Sends (table_of D.Denot g)) (d : IsSend D) where
  box_send : IsSend (DynBox.the_row D Global.the_row g allocator.ghosts)
  box_send = dyn_box_send D g s d

  maybe_send : IsSend (Option.the_row (DynBox.the_row D Global.the_row g allocator.ghosts))
  maybe_send = search (sendable, box_send) depth 40

  chain_send : IsSend (chain.the_row D g)
  chain_send = declared_send (chain.the_type D g) (Vec-send _ box_send, tt)

  hands_send : IsSend (hands.the_row D g)
  hands_send = declared_send (hands.the_type D g) (chain_send, (search (sendable, crosses) depth 20, (Vec-send _ maybe_send, tt)))

  seat_send : IsSend (seat.the_row D g)
  seat_send = declared_send (seat.the_type D g) (worker_send, (hands_send, tt))

  pub client_send : (a : NamedLft) → IsSend (client.the_row a D g)
  client_send a =
      declared_send (client.the_type a D g)
      (scribe_send, (seat_send, (search (sendable, step_sync) depth 20, (search sendable depth 20, (search sendable depth 20, tt)))))
