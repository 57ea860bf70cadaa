-- Threads that have returned.
use Rattle.std.proofs.Common.{◌≡◌, ℕ, zero, suc, ◌+◌, ◌<◌, ◌≤◌, Bool, true, false, ◌||◌, List, [], ◌∷◌, length, map, Option, Some, None, Ok, Err, sym, refl, ap, ◌∙◌, subst, All, arith}
use Rattle.std.specs.Prelude.{slice_get}
use Rattle.std.proofs.lemmas.List.{length-map}
use Rattle.std.proofs.lemmas.Option.{slice_get_within, get_or_from_slice_get}
use Rattle.con_units.specs.declared.code.OutOfMemory.{OutOfMemory}
use Rattle.con_events.specs.Session.{Clients}
use Rattle.con_events.specs.declared.actor.Actor.{Actor}
use Rattle.con_events.specs.declared.actor.Actor.TheVariants as actors
use Rattle.con_events.specs.declared.end.End.{End}
use Rattle.con_events.specs.declared.end.End.TheVariants as ends
use Rattle.con_events.specs.declared.entry.Entry.{Entry}
use Rattle.con_events.specs.declared.event.Event.{Event}
use Rattle.con_events.specs.declared.event.Event.TheVariants as events
use Rattle.con_events.specs.declared.reply.Reply.{Reply}
use Rattle.con_machine.specs.Client.{Stance, GoesOn, MayLeave, MustLeave, Gone}
use Rattle.con_machine.specs.Follows.{are_of_session, session_start}
use Rattle.con_machine.specs.History.{is_legal, replies_of, run}
use Rattle.con_machine.specs.Numbered as numbers
use Rattle.con_laws.specs.Rounds.{Begun, client_at}
use Rattle.con_machine.specs.State.{State}
use Rattle.con_machine.specs.Step.{is_ready}
use Rattle.con_paint.specs.Painter.{Kept}
use Rattle.con_actors.specs.Desk.{listed}
use Rattle.con_actors.specs.OpeningLaws.{get_map, some_at}
use Rattle.con_actors.specs.Painting.{CanvasIs, CanvasEnds, IsTied}
use Rattle.con_link.specs.declared.fault.LinkFault.{LinkFault}
use Rattle.con_link.specs.declared.fault.LinkFault.TheVariants as faults
use Rattle.con_machine.specs.Follows.{is_cut}
use Rattle.con_actors.specs.Words.Sender.{end_for}
use Rattle.con_actors.specs.declared.side.Side.{Side}
use Rattle.con_actors.specs.Outcome.{Leaves}
use Rattle.con_actors.specs.Solo.{begins, end_by}
use Rattle.con_actors.specs.Standing.{ClientStands}
use Rattle.con_actors.specs.Words.Worker.{IsStance}
use Rattle.con_book.specs.History.{own}
use Rattle.con_book.specs.Lock.{joined}
use Rattle.con_book.specs.Passes.{BookId, pass_id, view_of, actor_of, seen}
use Rattle.con_book.specs.declared.machine.Machine.{Ghosts}
use Rattle.con_book.specs.declared.pass.Pass.{Pass}
use Rattle.con_book.specs.declared.view.Joined.{Joined}
use Rattle.con_book.specs.declared.view.PassView.{PassView}
use Rattle.con_pipe.specs.PipeEnds.{pieces_put, pieces_taken, IsPipe, IsSameIn, IsSameOut}
use Rattle.con_pipe.specs.declared.put.PipeIn.{PipeIn}
use Rattle.con_pipe.specs.declared.take.PipeOut.{PipeOut}
use Rattle.con_threads.specs.Clients.{ClientGoes, ClientView}
use Rattle.con_run.specs.Crews.{AllServed, CrewGoes, IsAt, IsCrew, IsOpening, down_from}
use Rattle.con_threads.specs.Ledger.{logged_entries}
use Rattle.con_threads.specs.Painters.{HasDrawn, HasFinished, IsPainterThread}
use Rattle.con_threads.specs.Scribe.{IsScribe, IsSameScribe, SeesMore, history, opened}
use Rattle.con_run.specs.Session.{AreBack, AreMade, EdgesGo, IsBroken, IsDone, clients_in}
use Rattle.con_threads.specs.Sides.{HasSentOn, SideGoes}
use Rattle.con_run.specs.Taking.{AreOf, Covers, HasTaken, IsGathered, IsHistory, IsOf, MayClose, kept_all}
use Rattle.con_threads.specs.Writers.{HasWritten}
use Rattle.con_threads.specs.declared.ledger.LedgerView.{LedgerView}
use Rattle.con_threads.specs.declared.painter.PainterThread.{PainterThread}
use Rattle.con_threads.specs.declared.scribe.Scribe.{Scribe}
use Rattle.con_threads.specs.declared.side.SideThread.{SideThread}
use Rattle.con_threads.specs.declared.writer.WriterThread.{WriterThread}
use Rattle.con_run.proofs.ClientEntries.{goes_sees}
use Rattle.con_run.proofs.Crewing.{served_at, served_crew}
use Rattle.con_run.proofs.Ending.{leaves_broken, leaves_done}
use Rattle.con_threads.proofs.Painting.{canvas_sees, tied_sees}
use Rattle.con_run.proofs.Lessening.{less_sees}
use Rattle.con_run.proofs.SideLaws.{goes_seen}
use Rattle.con_run.proofs.Taking.{covers_more}
use Rattle.con_run.proofs.WholeLog.{down_length, kept_length, sees_raw}
use Rattle.con_run.proofs.Written.{piped, piped_less}

-- ---- a painter whose pass has taken others in

-- what the pass has seen more of is nothing of its own
taken_sees : (s t : Scribe) (ks : List (Joined Event)) → IsScribe s → s.actor ≡ actors.Painter → HasTaken ks s.pass t.pass
    → SeesMore (opened s) actors.Painter (history s) (history t)
taken_sees s t ks is e h =
    let n = actor_of s.pass in
    let P : State → Type 0 = λ z. SeesMore (opened s) actors.Painter (history s) (logged_entries z (seen t.pass)) in
    subst P (ap (λ (p : LedgerView). p.state) (sym h.start))
    (sees_raw n actors.Painter (opened s) (seen s.pass) (seen t.pass) (view_of s.pass).mine (is.named ∙ ap Some e) h.seen (ap (λ (z : ℕ). own z (seen t.pass)) (sym h.actor) ∙ (h.own_mine ∙ h.mine)) is.own_mine)

taken_scribe : (s t : Scribe) (ks : List (Joined Event)) → IsScribe s → t.actor ≡ s.actor → HasTaken ks s.pass t.pass → IsScribe t
taken_scribe s t ks is e h = record {
  named = ap numbers.actor_of h.actor ∙ (is.named ∙ ap Some (sym e));
  single = h.opens ∙ is.single;
  own_mine = h.own_mine;
  none_before = ap (λ (p : LedgerView). p.replies) h.start ∙ is.none_before;
}

pub taken_painter : (old new : PainterThread) (ks : List (Joined Event)) → IsPainterThread old → HasTaken ks old.scribe.pass new.scribe.pass
    → new.scribe.actor ≡ old.scribe.actor → new.painter ≡ old.painter → new.broken ≡ old.broken → IsPainterThread new
taken_painter old new ks is h actor kept broken = record {
  is_scribe = taken_scribe old.scribe new.scribe ks is.is_scribe actor h;
  actor = actor ∙ is.actor;
  tied = λ e.
      let P : State → Type 0 = λ z. IsTied (run z (history new.scribe)) old.painter in
      let K : Kept → Type 0 = λ z. IsTied (run (opened new.scribe) (history new.scribe)) z in
      subst K (sym kept) (subst P (ap (λ (p : LedgerView). p.state) (sym h.start))
      (tied_sees (opened old.scribe) (history old.scribe) (history new.scribe) old.painter (taken_sees old.scribe new.scribe ks is.is_scribe is.actor h) (is.tied (sym broken ∙ e))));
}

-- ---- the whole history

mapped_get : {A B : Type 0} (f : A → B) (xs : List A) (k : ℕ) (y : B) → slice_get (map f xs) k ≡ Some y → (x : A) × (slice_get xs k ≡ Some x) × (f x ≡ y)
mapped_get f [] k y e = absurd (cc)
mapped_get f (x ∷ xs) zero y e = (x, refl, (let q : f x ≡ y = cc in q))
mapped_get f (x ∷ xs) (suc k) y e = mapped_get f xs k y e

at_of : (id : BookId) (start : LedgerView) (n : ℕ) (s : Scribe) → IsAt id start n s → IsScribe s → IsOf start n (view_of s.pass)
at_of id start n s a is = record { start' = a.begins; actor = a.actor'; own_mine = is.own_mine }

is_gone : (s : Stance) (leaving gone : Bool) → IsStance s leaving gone → gone ≡ true → s ≡ Gone
is_gone GoesOn leaving gone k e = absurd (let z = sym e ∙ k.1 in cc)
is_gone MayLeave leaving gone k e = absurd (let z = sym e ∙ k in cc)
is_gone MustLeave leaving gone k e = absurd (let z = sym e ∙ k.1 in cc)
is_gone Gone leaving gone k e = refl

or_none : (failed broken : Bool) → broken ≡ false → (failed || broken) ≡ failed
or_none true broken e = refl
or_none false broken e = e

module _ {C : Type 0} (view : C → ClientView) (id : BookId) (n : ℕ) (opener : Scribe) (side : SideThread) (painter : PainterThread) (put : PipeIn)
    (writer : WriterThread) (cs : List C)
    (back : AreBack view id n opener.pass side painter put writer cs) where
  abbrev pub start : LedgerView
  start = (view_of opener.pass).start

  abbrev pub sv : PassView LedgerView Event
  sv = view_of side.scribe.pass

  abbrev pub vs : List (PassView LedgerView Event)
  vs = map (λ c. view_of (view c).scribe.pass) cs

  vs_are : AreOf start vs
  vs_are = λ k w e. let (c, at, same) = mapped_get (λ (x : C). view_of (view x).scribe.pass) cs k w e in
      let b = back.clients k c at in subst (λ (z : PassView LedgerView Event). IsOf start (k + 1) z) same (at_of id start (k + 1) (view c).scribe b.at b.is.scribe)

  client_there : (k : ℕ) → k < n → (c : C) × (slice_get cs k ≡ Some c)
  client_there k lt = some_at cs k (let e = back.len in omega arith)

  module _ (p1 p2 : PainterThread) (taken : HasTaken (joined sv ∷ kept_all vs []) painter.scribe.pass p1.scribe.pass) (same : IsSameScribe p1.scribe p2.scribe)
      (is : IsScribe p2.scribe) (covers : Covers (view_of p1.scribe.pass)) where
    kept_is : (view_of p2.scribe.pass).kept ≡ joined sv ∷ kept_all vs []
    kept_is = same.pass.1.4 ∙ taken.kept_is

    start_is : (view_of p2.scribe.pass).start ≡ start
    start_is = same.pass.1.0 ∙ (taken.start ∙ back.edges.painter_at.begins)

    book_is : pass_id p2.scribe.pass ≡ id
    book_is = same.pass.0 ∙ (taken.book ∙ back.edges.painter_at.book)

    pub may_close : MayClose id opener.pass p2.scribe.pass
    may_close = record {
      book = (back.opening'.book, book_is);
      opens = back.opening'.opens;
      single = is.single;
      count =
          let a : length (view_of p2.scribe.pass).kept ≡ suc (length (kept_all vs [])) = ap length kept_is in
          let b : length (kept_all vs []) ≡ length vs + 0 = kept_length vs [] in
          let c : length vs ≡ length cs = length-map cs (λ (x : C). view_of (view x).scribe.pass) in
          let d : length cs ≡ n = back.len in
          let m : length (view_of opener.pass).made ≡ suc (suc (length (down_from n))) = ap length back.opening'.made' in
          let l : length (down_from n) ≡ n = down_length n in
          let o : length (view_of opener.pass).kept ≡ 0 = ap length back.opening'.none_kept in
          omega arith;
      none_before = back.none_before;
    }

    pub gathered : IsGathered id start n opener.pass p2.scribe.pass sv vs
    gathered = record {
      opening' = back.opening';
      book = book_is;
      single = is.single;
      painter = record { start' = start_is; actor = same.pass.1.1 ∙ (taken.actor ∙ back.edges.painter_at.actor'); own_mine = is.own_mine };
      side' = at_of id start 1000 side.scribe back.edges.side_at back.edges.side_is.scribe;
      clients' = vs_are;
      len = length-map cs (λ (x : C). view_of (view x).scribe.pass) ∙ back.len;
      few = back.few;
      kept = kept_is;
      covers = covers_more (view_of p1.scribe.pass) (view_of p2.scribe.pass) covers same.pass.1.4 same.more;
      none_before = back.none_before;
    }

    module _ (session : Clients) (racks : List (List ℕ)) (before left old was now : Option (List ℕ)) (begins_so : start.state ≡ session_start session racks)
        (count : length session.scripts ≡ n)
        (edges : EdgesGo (begins session racks None) before left old was side painter put writer) (crew : CrewGoes view (begins session racks None) cs)
        (all : pieces_taken writer.take ≡ pieces_put put)
        (kept_as : p1.painter ≡ painter.painter) (ends_as : p1.ends.items ≡ painter.ends.items) (end_as : p1.end ≡ painter.end)
        (whole_as : p1.broken ≡ painter.broken)
        (h : List Entry) (rs : List Reply) (hist : IsHistory start n (view_of p2.scribe.pass) sv vs h rs) where
      abbrev b : Begun
      b = begins session racks None

      opened_is : opened p2.scribe ≡ b.state
      opened_is = ap (λ (p : LedgerView). p.state) start_is ∙ begins_so

      pub opened_then : opened p1.scribe ≡ b.state
      opened_then = ap (λ (p : LedgerView). p.state) (taken.start ∙ back.edges.painter_at.begins) ∙ begins_so

      opened_first : opened painter.scribe ≡ b.state
      opened_first = ap (λ (p : LedgerView). p.state) back.edges.painter_at.begins ∙ begins_so

      history_is : history p2.scribe ≡ h
      history_is = ap (λ (s : State). logged_entries s (seen p2.scribe.pass)) (ap (λ (p : LedgerView). p.state) start_is) ∙ sym hist.whole

      legal_is : is_legal b.state h ≡ true
      legal_is = ap (λ (s : State). is_legal s h) (sym begins_so) ∙ hist.legal

      replies_are : rs ≡ map listed (replies_of b.state h)
      replies_are = hist.replies ∙ ap (λ (s : State). map listed (replies_of s h)) begins_so

      numbered_are : are_of_session (clients_in b) h ≡ true
      numbered_are = ap (λ (z : ℕ). are_of_session z h) count ∙ hist.numbered

      -- what a scribe had seen, and the whole
      sees_whole : (m : ℕ) (a : Actor) (s : Scribe) → IsAt id start m s → SeesMore start.state a (logged_entries start.state (seen s.pass)) h
          → SeesMore b.state a (history s) h
      sees_whole m a s at k =
          subst (λ (z : State × State). SeesMore z.0 a (logged_entries z.1 (seen s.pass)) h) (λ i. (begins_so i, (ap (λ (p : LedgerView). p.state) (sym at.begins)) i)) k

      client_goes : (k : ℕ) → k < n
          → (c : C) × (slice_get cs k ≡ Some c)
          × ClientGoes b (k + 1) h (view c).steps (view c).broken (view c).worker (view c).places (view c).memories (view c).slots
      client_goes k lt =
          let (c, at) = client_there k lt in
          let v = view c in
          let l = back.clients k c at in
          let sees =
          sees_whole (k + 1) (actors.Client (k + 1)) v.scribe l.at
          (hist.clients' k (view_of v.scribe.pass) (get_map (λ (x : C). view_of (view x).scribe.pass) cs k c at)) in
          let own : ClientGoes b (k + 1) (history v.scribe) v.steps v.broken v.worker v.places v.memories v.slots =
          subst (λ (z : ℕ). ClientGoes b z (history v.scribe) v.steps v.broken v.worker v.places v.memories v.slots) l.number' (crew k c at) in
          (c, at, goes_sees b (k + 1) b.state (history v.scribe) h v.steps v.broken v.worker v.places v.memories v.slots sees own)

      clients_stand : (k : ℕ) → k < clients_in b → ClientStands b h (k + 1)
      clients_stand k lt = (client_goes k (let e = count in omega arith)).2.stands

      side_goes : SideGoes b h side.side side.hung side.broken before left side.reader
      side_goes =
          goes_seen b b.state (history side.scribe) h side.side side.hung side.broken before left side.reader
          (sees_whole 1000 actors.Terminal side.scribe back.edges.side_at hist.side') edges.side'

      painter_sees : SeesMore b.state actors.Painter (history painter.scribe) (history p1.scribe)
      painter_sees =
          subst (λ (z : State). SeesMore z actors.Painter (history painter.scribe) (history p1.scribe)) opened_first
          (taken_sees painter.scribe p1.scribe (joined sv ∷ kept_all vs []) back.edges.painter_is.is_scribe back.edges.painter_is.actor taken)

      -- the pieces that were put are written
      pub canvas_whole : painter.broken ≡ false → writer.broken ≡ false
          → CanvasIs b (history p1.scribe) session.size p1.painter (pieces_put put) p1.ends.items p1.end old was writer.failed
      canvas_whole e f =
          let first =
          piped b (history painter.scribe) session.size painter.painter (pieces_put put) (pieces_taken writer.take) painter.ends.items painter.end old was
          writer.failed writer.broken all (edges.painter'.draws e) edges.writer' in
          let F : Bool
          → Type 0 = λ z. CanvasIs b (history painter.scribe) session.size painter.painter (pieces_put put) painter.ends.items painter.end old was z in
          let K : Kept → Type 0 = λ z. CanvasIs b (history p1.scribe) session.size z (pieces_put put) painter.ends.items painter.end old was writer.failed in
          let E : List ℕ → Type 0 = λ z. CanvasIs b (history p1.scribe) session.size p1.painter (pieces_put put) z painter.end old was writer.failed in
          let N : ℕ → Type 0 = λ z. CanvasIs b (history p1.scribe) session.size p1.painter (pieces_put put) p1.ends.items z old was writer.failed in
          subst N (sym end_as) (subst E (sym ends_as) (subst K (sym kept_as)
          (canvas_sees b (history painter.scribe) (history p1.scribe) session.size painter.painter (pieces_put put) painter.ends.items painter.end old was writer.failed painter_sees (subst F (or_none writer.failed writer.broken f) first))))

      pub canvas_less : CanvasEnds b (history p1.scribe) session.size p1.ends.items old was
      canvas_less =
          let less =
          less_sees b (history painter.scribe) (history p1.scribe) session.size (pieces_put put) painter.ends.items painter_sees edges.painter'.less in
          let E : List ℕ → Type 0 = λ z. CanvasEnds b (history p1.scribe) session.size z old was in
          subst E (sym ends_as)
          (piped_less b (history p1.scribe) session.size (pieces_put put) (pieces_taken writer.take) painter.ends.items old was writer.failed writer.broken all less edges.writer')

      -- where there was no memory
      pub broken_off : (es : List ℕ) → CanvasEnds b (history p2.scribe) session.size es old now → IsBroken b h rs es before left old now
      broken_off es canvas = record {
        legal = legal_is;
        replies = replies_are;
        numbered = numbered_are;
        clients = clients_stand;
        link = side_goes.link_ends;
        canvas = subst (λ (z : List Entry). CanvasEnds b z session.size es old now) history_is canvas;
      }

      pub done_all : (later : Bool) → (qs : List (List ℕ)) × CanvasIs b (history p2.scribe) session.size p2.painter qs p2.ends.items p2.end old now later
          → side.broken ≡ false → side.side.ended ≡ true → (side.hung ≡ true → later ≡ true)
          → All (λ c. ((view c).worker.gone ≡ true) × ((view c).broken ≡ false)) cs
          → (later ≡ false → is_ready (run (opened p2.scribe) (history p2.scribe)) actors.Painter events.Paint ≡ false)
          → IsDone b h rs p2.ends.items side.side side.hung later before left old now
      done_all later (qs, canvas) fine ended hung gone idle = record {
        legal = legal_is;
        replies = replies_are;
        numbered = numbered_are;
        clients = clients_stand;
        gone = λ k lt.
            let m : k < n = let e = count in omega arith in
            let (c, at, goes) = client_goes k m in
            let inside : k < length cs = slice_get_within cs k c at in
            let G : C → Type 0 = λ z. ((view z).worker.gone ≡ true) × ((view z).broken ≡ false) in
            let q : G c = subst G (get_or_from_slice_get cs k c c at) (gone k c inside) in
            is_gone (client_at b h (k + 1)).stance (view c).worker.leaving (view c).worker.gone (goes.worker q.1).stance q.0;
        taken = side.reader;
        link = side_goes.link fine;
        ended = ended;
        hung' = hung;
        asks = side_goes.asks;
        kept = p2.painter;
        pieces = qs;
        end = p2.end;
        canvas = subst (λ (z : List Entry). CanvasIs b z session.size p2.painter qs p2.ends.items p2.end old now later) history_is canvas;
        idle = λ e. ap (λ (z : State × List Entry). is_ready (run z.0 z.1) actors.Painter events.Paint) (λ i. (sym opened_is i, sym history_is i)) ∙ idle e;
      }

      pub leaves_memory : (es : List ℕ) (end' : End) → es ≡ p2.ends.items → end' ≡ ends.Memory
          → CanvasEnds b (history p2.scribe) session.size p2.ends.items old now → Leaves session racks h rs es end' before left old now
      leaves_memory es end' same is canvas =
          subst (λ (z : List ℕ × End). Leaves session racks h rs z.0 z.1 before left old now) (λ i. (sym same i, sym is i))
          (leaves_broken session racks h rs p2.ends.items before left old now (broken_off p2.ends.items canvas))

      pub leaves_finished : (es : List ℕ) (end' : End) (later : Bool) → es ≡ p2.ends.items → end' ≡ end_by later side.side.end
          → (qs : List (List ℕ)) × CanvasIs b (history p2.scribe) session.size p2.painter qs p2.ends.items p2.end old now later → side.broken ≡ false
          → side.side.ended ≡ true → (side.hung ≡ true → later ≡ true)
          → All (λ c. ((view c).worker.gone ≡ true) × ((view c).broken ≡ false)) cs
          → (later ≡ false → is_ready (run (opened p2.scribe) (history p2.scribe)) actors.Painter events.Paint ≡ false)
          → Leaves session racks h rs es end' before left old now
      leaves_finished es end' later same is canvas fine ended hung gone idle =
          subst (λ (z : List ℕ × End). Leaves session racks h rs z.0 z.1 before left old now) (λ i. (sym same i, sym is i))
          (leaves_done session racks h rs p2.ends.items side.side side.hung later before left old now (done_all later canvas fine ended hung gone idle))

      -- the painter painted until no Paint was due, or the terminal failed
      pub leaves_ok : (es : List ℕ) (end' : End) (later : Bool) → es ≡ p2.ends.items → end' ≡ end_by later side.side.end
          → HasFinished (Ok later) p1 p2 was now writer.failed → painter.broken ≡ false → writer.broken ≡ false → side.broken ≡ false → side.side.ended ≡ true
          → (side.hung ≡ true → later ≡ true) → All (λ c. ((view c).worker.gone ≡ true) × ((view c).broken ≡ false)) cs
          → (later ≡ false → is_ready (run (opened p2.scribe) (history p2.scribe)) actors.Painter events.Paint ≡ false)
          → Leaves session racks h rs es end' before left old now
      leaves_ok es end' later as' ends' f pb wb sb ended hung gone idle =
          leaves_finished es end' later as' ends' (f b session.size old (pieces_put put) opened_then (canvas_whole pb wb)) sb ended hung gone idle

      -- or there was no memory for it
      pub leaves_err : (es : List ℕ) (end' : End) (e : OutOfMemory) → es ≡ p2.ends.items → end' ≡ ends.Memory → HasFinished (Err e) p1 p2 was now writer.failed
          → painter.broken ≡ false → writer.broken ≡ false → Leaves session racks h rs es end' before left old now
      leaves_err es end' e as' ends' f pb wb = leaves_memory es end' as' ends' (f b session.size old (pieces_put put) opened_then (canvas_whole pb wb))

      -- or there was none before
      pub leaves_early : (es : List ℕ) (end' : End) → es ≡ p2.ends.items → end' ≡ ends.Memory → history p2.scribe ≡ history p1.scribe
          → p2.ends.items ≡ p1.ends.items → was ≡ now → Leaves session racks h rs es end' before left old now
      leaves_early es end' as' ends' hh he wn =
          leaves_memory es end' as' ends'
          (subst (λ (z : List Entry × List ℕ × Option (List ℕ)). CanvasEnds b z.0 session.size z.1 old z.2) (λ i. (sym hh i, sym he i, wn i)) canvas_less)

-- ---- from their beginning on

pub pipe_then : (put put' : PipeIn) (take take' : PipeOut) → IsPipe put take → IsSameIn put put' → IsSameOut take take' → IsPipe put' take'
pipe_then put put' take take' p i o = (o.0.0 ∙ (p.0 ∙ sym i.0.0), o.0.1 ∙ (p.1 ∙ sym i.0.1), o.0.2 ∙ (p.2 ∙ sym i.0.2), o.0.3 ∙ (p.3 ∙ sym i.0.3))

pub edges_made : (id : BookId) (start : LedgerView) (side side' : SideThread) (painter painter' : PainterThread) (put put' : PipeIn) (writer writer' : WriterThread)
    (left left' was now : Option (List ℕ)) (c d : ℕ)
    → AreMade id start side painter put writer
    → HasSentOn side side' left left' → HasDrawn painter painter' put put' → HasWritten writer writer' was now c d
    → AreMade id start side' painter' put' writer'
edges_made id start side side' painter painter' put put' writer writer' left left' was now c d m hs hp hw = record {
  side_at = served_at id start 1000 side.scribe side'.scribe m.side_at hs.same;
  side_is = hs.is;
  painter_at = served_at id start 1001 painter.scribe painter'.scribe m.painter_at hp.same;
  painter_is = hp.is_painter;
  pipe = pipe_then put put' writer.take writer'.take m.pipe hp.pipe hw.pipe;
}

pub edges_go_on : (bg : Begun) (id : BookId) (start : LedgerView) (side side' : SideThread) (painter painter' : PainterThread) (put put' : PipeIn)
    (writer writer' : WriterThread) (before left left' old was now : Option (List ℕ)) (c d : ℕ)
    → start.state ≡ bg.state → AreMade id start side painter put writer
    → HasSentOn side side' left left' → HasDrawn painter painter' put put' → HasWritten writer writer' was now c d
    → EdgesGo bg before left old was side painter put writer → EdgesGo bg before left' old now side' painter' put' writer'
edges_go_on bg id start side side' painter painter' put put' writer writer' before left left' old was now c d e m hs hp hw k = record {
  side' = hs.goes bg before (ap (λ (p : LedgerView). p.state) m.side_at.begins ∙ e) k.side';
  painter' = hp.drawn bg bg.session.size (ap (λ (p : LedgerView). p.state) m.painter_at.begins ∙ e) k.painter';
  writer' = hw.wrote old k.writer';
}

-- a session ends with Term only where the terminal failed

not_term : (f : LinkFault) → ends.Term ≡ end_for f → ⊥
not_term faults.Failed e = cc
not_term faults.TooLong e = cc
not_term (faults.Bad place kind) e = cc
not_term faults.OutOfMemory e = cc

pub side_not_term : (b : Begun) (h : List Entry) (side : Side) (hung broken : Bool) (before left : Option (List ℕ)) (taken : ℕ)
    → SideGoes b h side hung broken before left taken → side.end ≡ ends.Term → broken ≡ false → ⊥
side_not_term b h side hung broken before left taken k t e = let q = (k.link e).fault (ap is_cut t) in not_term q.0 (sym t ∙ q.2)

pub all_back : {M R A Room : Type 0} {g : Ghosts M LedgerView Event R A Room} {C : Type 0} (view : C → ClientView) (id : BookId) (n : ℕ)
    (opening : Pass M LedgerView Event R A Room g) (side side' : SideThread) (painter painter' : PainterThread) (put put' : PipeIn) (writer writer' : WriterThread)
    (os cs : List C)
    (left left' was now : Option (List ℕ)) (c d : ℕ) → IsOpening id (view_of opening).start (1001 ∷ 1000 ∷ down_from n) opening
    → (view_of opening).start.replies ≡ [] → AreMade id (view_of opening).start side painter put writer
    → HasSentOn side side' left left' → HasDrawn painter painter' put put' → HasWritten writer writer' was now c d → IsCrew view id (view_of opening).start os
    → AllServed view os cs → length os ≡ n → n ≤ 64
    → AreBack view id n opening side' painter' put' writer' cs
all_back view id n opening side side' painter painter' put put' writer writer' os cs left left' was now c d o none m hs hp hw crew all len few = record {
  opening' = o;
  none_before = none;
  edges = edges_made id (view_of opening).start side side' painter painter' put put' writer writer' left left' was now c d m hs hp hw;
  ended = hw.ended;
  clients = served_crew view id (view_of opening).start os cs all crew;
  len = all.len ∙ len;
  few = few;
}

-- a painter with another scribe
abbrev pub with_scribe : PainterThread → Scribe → PainterThread
with_scribe t s = record t { scribe = s }
