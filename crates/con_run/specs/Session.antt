-- A session by threads, when its threads run and when they have returned.
use Rattle.std.specs.Prelude.{◌≡◌, ℕ, ◌+◌, ◌<◌, ◌≤◌, Bool, true, false, List, [], ◌∷◌, length, map, Option}
use Rattle.con_paint.specs.Painter.{Kept}
use Rattle.con_events.specs.declared.actor.Actor.TheVariants as actors
use Rattle.con_events.specs.declared.entry.Entry.{Entry}
use Rattle.con_events.specs.declared.event.Event.{Event}
use Rattle.con_events.specs.declared.event.Event.TheVariants as events
use Rattle.con_events.specs.declared.reply.Reply.{Reply}
use Rattle.con_machine.specs.Client.{Gone}
use Rattle.con_machine.specs.Follows.{are_of_session}
use Rattle.con_machine.specs.History.{run, is_legal, replies_of}
use Rattle.con_laws.specs.Rounds.{Begun, client_at}
use Rattle.con_machine.specs.Step.{is_ready}
use Rattle.con_actors.specs.Desk.{listed}
use Rattle.con_actors.specs.Painting.{CanvasIs, CanvasEnds}
use Rattle.con_actors.specs.Words.Sender.{LinkIs, LinkEnds}
use Rattle.con_actors.specs.Solo.{AsksStand}
use Rattle.con_actors.specs.Standing.{ClientStands}
use Rattle.con_actors.specs.declared.side.Side.{Side}
use Rattle.con_pipe.specs.PipeEnds.{pieces_put, pieces_taken, has_ended, IsPipe}
use Rattle.con_pipe.specs.declared.put.PipeIn.{PipeIn}
use Rattle.con_book.specs.Passes.{BookId, view_of}
use Rattle.con_book.specs.declared.machine.Machine.{Ghosts}
use Rattle.con_book.specs.declared.pass.Pass.{Pass}
use Rattle.con_threads.specs.Clients.{ClientView}
use Rattle.con_run.specs.Crews.{IsAt, IsCrew, IsOpening, down_from}
use Rattle.con_threads.specs.Painters.{IsPainterThread, PainterGoes}
use Rattle.con_threads.specs.Scribe.{history}
use Rattle.con_threads.specs.Sides.{IsSideThread, SideGoes}
use Rattle.con_threads.specs.Writers.{Writes}
use Rattle.con_threads.specs.declared.ledger.LedgerView.{LedgerView}
use Rattle.con_threads.specs.declared.painter.PainterThread.{PainterThread}
use Rattle.con_threads.specs.declared.side.SideThread.{SideThread}
use Rattle.con_threads.specs.declared.writer.WriterThread.{WriterThread}

-- how many clients a session has
abbrev pub clients_in : Begun → ℕ
clients_in b = length b.session.scripts

-- All but the clients, at a book that began so. Side and painter have passes of their own, and the two ends are of one pipe.
pub record AreMade (id : BookId) (start : LedgerView) (side : SideThread) (painter : PainterThread) (put : PipeIn) (writer : WriterThread) : Type 0 where
  pub side_at : IsAt id start 1000 side.scribe
  pub side_is : IsSideThread side
  pub painter_at : IsAt id start 1001 painter.scribe
  pub painter_is : IsPainterThread painter
  pub pipe : IsPipe put writer.take

-- They go as the session's beginning says: of the link this was left at the beginning, and is now, and this was written at the beginning, and is now.
pub record EdgesGo (b : Begun) (before left old now : Option (List ℕ)) (side : SideThread) (painter : PainterThread) (put : PipeIn)
    (writer : WriterThread) : Type 0 where
  pub side' : SideGoes b (history side.scribe) side.side side.hung side.broken before left side.reader
  pub painter' : PainterGoes b (history painter.scribe) b.session.size painter.painter (pieces_put put) painter.ends.items painter.end painter.broken
  pub writer' : Writes old now (pieces_taken writer.take) writer.failed writer.broken

module _ {M R A Room : Type 0} {g : Ghosts M LedgerView Event R A Room} where
  -- all threads of n clients have returned
  pub record AreBack {C : Type 0} (view : C
      → ClientView) (id : BookId) (n : ℕ) (opening : Pass M LedgerView Event R A Room g) (side : SideThread) (painter : PainterThread)
      (put : PipeIn) (writer : WriterThread) (cs : List C) : Type 0 where
    pub opening' : IsOpening id (view_of opening).start (1001 ∷ 1000 ∷ down_from n) opening
    pub none_before : (view_of opening).start.replies ≡ []
    pub edges : AreMade id (view_of opening).start side painter put writer
    pub ended : has_ended writer.take ≡ true
    pub clients : IsCrew view id (view_of opening).start cs
    pub len : length cs ≡ n
    pub few : n ≤ 64

-- ---- the end

-- a session whose threads did all that they do, before its end is told
pub record IsDone (b : Begun) (h : List Entry) (rs : List Reply) (es : List ℕ) (side : Side) (hung failed : Bool)
    (before left old now : Option (List ℕ)) : Type 0 where
  pub legal : is_legal b.state h ≡ true
  pub replies : rs ≡ map listed (replies_of b.state h)
  pub numbered : are_of_session (clients_in b) h ≡ true
  pub clients : (k : ℕ) → k < clients_in b → ClientStands b h (k + 1)
  pub gone : (k : ℕ) → k < clients_in b → (client_at b h (k + 1)).stance ≡ Gone
  pub taken : ℕ
  pub link : LinkIs h side hung before left taken
  pub ended : side.ended ≡ true
  pub hung' : hung ≡ true → failed ≡ true
  pub asks : AsksStand b h hung
  pub kept : Kept
  pub pieces : List (List ℕ)
  pub end : ℕ
  pub canvas : CanvasIs b h b.session.size kept pieces es end old now failed
  pub idle : failed ≡ false → is_ready (run b.state h) actors.Painter events.Paint ≡ false

-- one in which there was no memory
pub record IsBroken (b : Begun) (h : List Entry) (rs : List Reply) (es : List ℕ) (before left old now : Option (List ℕ)) : Type 0 where
  pub legal : is_legal b.state h ≡ true
  pub replies : rs ≡ map listed (replies_of b.state h)
  pub numbered : are_of_session (clients_in b) h ≡ true
  pub clients : (k : ℕ) → k < clients_in b → ClientStands b h (k + 1)
  pub link : LinkEnds h before left
  pub canvas : CanvasEnds b h b.session.size es old now
