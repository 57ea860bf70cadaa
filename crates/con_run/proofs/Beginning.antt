-- The edges of a session that have done nothing.
use Rattle.std.proofs.Common.{◌≡◌, ℕ, ◌<◌, Bool, true, false, ◌||◌, List, [], ◌∷◌, Option, Some, None, sym, ap, ◌∙◌, subst, All, arith}
use Rattle.std.proofs.lemmas.List.Elements.{All-cons}
use Rattle.con_events.specs.Session.{Clients}
use Rattle.con_events.specs.declared.entry.Entry.{Entry}
use Rattle.con_laws.specs.OpeningLaws.{opens}
use Rattle.con_machine.specs.Words.Painting.{is_fresh}
use Rattle.con_machine.specs.History.{run}
use Rattle.con_machine.specs.State.{State}
use Rattle.con_paint.specs.Painter.{Kept}
use Rattle.con_actors.specs.LinkLaws.{link_stays}
use Rattle.con_actors.specs.OpeningLaws.{open_canvas, open_link, side_first}
use Rattle.con_actors.specs.Painting.{IsTied, Written}
use Rattle.con_actors.specs.Solo.{begins}
use Rattle.con_actors.specs.declared.side.Side.{Side}
use Rattle.con_pipe.specs.PipeEnds.{pieces_put, pieces_taken}
use Rattle.con_pipe.specs.declared.put.PipeIn.{PipeIn}
use Rattle.con_run.specs.Crews.{down_from}
use Rattle.con_threads.specs.Painters.{PainterGoes}
use Rattle.con_threads.specs.Scribe.{history}
use Rattle.con_run.specs.Session.{EdgesGo}
use Rattle.con_threads.specs.Sides.{SideGoes}
use Rattle.con_threads.specs.Writers.{Writes}
use Rattle.con_threads.specs.declared.painter.PainterThread.{PainterThread}
use Rattle.con_threads.specs.declared.side.SideThread.{SideThread}
use Rattle.con_threads.specs.declared.writer.WriterThread.{WriterThread}
use Rattle.con_run.proofs.Crewing.{down_below}
use Rattle.con_threads.proofs.Painting.{drawn_less}

side_begins : (session : Clients) (racks : List (List ℕ)) (before : Option (List ℕ)) (broken : Bool)
    → SideGoes (begins session racks None) [] side_first false broken before before 0
side_begins session racks before broken = record {
  link = λ e. open_link before false;
  link_ends = link_stays [] side_first false before before 0 (open_link before false);
  asks = record { answered = λ l i. tt; asked' = sym (opens session racks).asked };
}

painter_begins : (session : Clients) (racks : List (List ℕ)) (kept : Kept) (broken : Bool)
    → PainterGoes (begins session racks None) [] session.size kept [] [] 0 broken
painter_begins session racks kept broken =
    let k = open_canvas session racks None kept (Some []) false in
    record { draws = λ e. k; less = drawn_less (begins session racks None) [] session.size kept [] [] 0 k }

writer_begins : (session : Clients) (racks : List (List ℕ)) (kept : Kept) (old : Option (List ℕ)) (failed broken : Bool) → failed ≡ false → broken ≡ false
    → Writes old old [] failed broken
writer_begins session racks kept old failed broken f e =
    let P : Bool → Type 0 = λ z. Written old old [] z in subst P ((λ i. (sym f i || sym e i))) (open_canvas session racks None kept old false).written

pub edges_begin : (session : Clients) (racks : List (List ℕ)) (before old : Option (List ℕ)) (side : SideThread) (painter : PainterThread) (put : PipeIn)
    (writer : WriterThread)
    → history side.scribe ≡ [] → side.side ≡ side_first → side.hung ≡ false → side.reader ≡ 0
    → history painter.scribe ≡ [] → painter.ends.items ≡ [] → painter.end ≡ 0 → pieces_put put ≡ [] → pieces_taken writer.take ≡ [] → writer.failed ≡ false
    → writer.broken ≡ false → EdgesGo (begins session racks None) before before old old side painter put writer
edges_begin session racks before old side painter put writer hs es hu re hp en ed pp pt wf wb =
    let b = begins session racks None in
    record {
      side' =
          subst (λ (z : List Entry × Side × Bool × ℕ). SideGoes b z.0 z.1 z.2 side.broken before before z.3) (λ i. (sym hs i, sym es i, sym hu i, sym re i))
          (side_begins session racks before side.broken);
      painter' =
          subst (λ (z : List Entry × List (List ℕ) × List ℕ × ℕ). PainterGoes b z.0 session.size painter.painter z.1 z.2 z.3 painter.broken)
          (λ i. (sym hp i, sym pp i, sym en i, sym ed i)) (painter_begins session racks painter.painter painter.broken);
      writer' =
          let P : List (List ℕ) → Type 0 = λ z. Writes old old z writer.failed writer.broken in
          subst P (sym pt) (writer_begins session racks painter.painter old writer.failed writer.broken wf wb);
    }

-- nothing was painted yet
pub fresh_tied : (s : State) (h : List Entry) (kept : Kept) → is_fresh s ≡ true → h ≡ [] → IsTied (run s h) kept
fresh_tied s h kept f e =
    let g : is_fresh (run s h) ≡ true = ap (λ (z : List Entry). is_fresh (run s z)) e ∙ f in
    record {
      known = λ x. absurd (let z = sym g ∙ x in cc);
      cells = λ x. absurd (let z = sym g ∙ x in cc);
      wide = λ x. absurd (let z = sym g ∙ x in cc);
      high = λ x. absurd (let z = sym g ∙ x in cc);
    }

pub below_terminal : (n : ℕ) → n < 1000 → All (λ a. a < 1000) (down_from n)
below_terminal n l = down_below n 1000 l

pub below_painter : (n : ℕ) → n < 1000 → All (λ a. a < 1001) (1000 ∷ down_from n)
below_painter n l = All-cons (λ a. a < 1001) 1000 (down_from n) (omega arith) (down_below n 1001 (omega arith))
