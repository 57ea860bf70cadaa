-- A frame, played on any terminal that the painter allows.
use Rattle.std.proofs.Common.{◌∙◌, ap, sym, refl, length}
use Rattle.con_paint.specs.Painter.{Kept}
use Rattle.con_paint.proofs.PlayLemmas.{appends, caret_inside, ends_in_pen, ends_inside, framed, painted, silent, now_shown, some_frame}
use Rattle.con_paint.proofs.painter.Painter.paint.Goals as goal

pub returns-clause-paints : goal.returns-clause-paints
returns-clause-paints c =
    let p = c.self.inside in
    rw (← c.self.view_is) (λ t ok. painted p.size.w p.size.h p.attr c.begin-lifting.result.attr c.args.view.now p.shadow.items c.begin-lifting.new.shadow.items c.keep.new.shadow.items p.known c.begin-lifting.result.lifted p.visible c.begin-lifting.result.rows
    c.args.out.now.items c.begin-lifting.new.out.items c.draw-end.new.out.items p.spot c.spot_if-at.result c.begin-lifting.result.spot c.draw-end.result c.caret_of-caret.result (c.requires.size.0 ∙ ap (λ (k : Kept). k.w) (sym c.self.view_is)) (c.requires.size.1 ∙ ap (λ (k : Kept). k.h) (sym c.self.view_is)) (c.keep.ensures ∙ c.as_slice-cells.ensures)
    c.caret_of-caret.ensures c.draw-end.ensures.spot (rw c.as_slice-cells.ensures at c.begin-lifting.ensures.lifts) t ok
    (framed p.size.w p.size.h p.attr c.begin-lifting.result.attr c.args.view.now.rows p.shadow.items c.begin-lifting.new.shadow.items p.known c.begin-lifting.result.lifted p.visible c.begin-lifting.result.rows
    c.args.out.now.items c.begin-lifting.new.out.items c.draw-end.new.out.items p.spot c.spot_if-at.result c.begin-lifting.result.spot c.draw-end.result c.caret_of-caret.result (caret_inside p.size.w p.size.h c.args.view.now c.caret_of-caret.result (c.requires.size.0 ∙ ap (λ (k : Kept). k.w) (sym c.self.view_is)) (c.requires.size.1 ∙ ap (λ (k : Kept). k.h) (sym c.self.view_is)) c.caret_of-caret.ensures) c.spot_if-at.ensures.there
    (rw c.as_slice-cells.ensures at c.begin-lifting.ensures.lifts) (rw (c.as_slice-cells.ensures, c.as_slice-2.ensures.value) at c.draw-end.ensures.drawn) t ok))

pub returns-clause-quiet : goal.returns-clause-quiet
returns-clause-quiet c =
    let p = c.self.inside in
    rw (← c.self.view_is) (λ shown. silent p.size.w p.size.h p.attr c.begin-lifting.result.attr c.args.view.now p.shadow.items c.begin-lifting.new.shadow.items p.known c.begin-lifting.result.lifted p.visible c.begin-lifting.result.rows
    c.args.out.now.items c.begin-lifting.new.out.items c.draw-end.new.out.items p.spot c.spot_if-at.result c.begin-lifting.result.spot c.caret_of-caret.result c.caret_of-caret.ensures shown c.spot_if-at.ensures.same (rw c.as_slice-cells.ensures at c.begin-lifting.ensures.lifts)
    (rw (c.as_slice-cells.ensures, c.as_slice-2.ensures.value) at c.draw-end.ensures.quiet))

pub returns-clause-shown : goal.returns-clause-shown
returns-clause-shown c = now_shown c.self.inside.size.w c.self.inside.size.h c.draw-end.result.attr c.args.view.now c.keep.new.shadow.items c.draw-end.result.spot c.caret_of-caret.result (c.keep.ensures ∙ c.as_slice-cells.ensures) c.caret_of-caret.ensures c.draw-end.ensures.spot

pub returns-clause-appends : goal.returns-clause-appends
returns-clause-appends c =
    let p = c.self.inside in
    let ew = c.requires.size.0 ∙ ap (λ (k : Kept). k.w) (sym c.self.view_is) in
    let eh = c.requires.size.1 ∙ ap (λ (k : Kept). k.h) (sym c.self.view_is) in
    appends p.size.w p.size.h _ c.args.view.now.rows c.caret_of-caret.result c.draw-end.result c.args.out.now.items c.draw-end.new.out.items _
    (some_frame p.size.w p.size.h p.attr c.begin-lifting.result.attr c.args.view.now.rows p.shadow.items c.begin-lifting.new.shadow.items p.known c.begin-lifting.result.lifted p.visible c.begin-lifting.result.rows
    c.args.out.now.items c.begin-lifting.new.out.items c.draw-end.new.out.items p.spot c.spot_if-at.result c.begin-lifting.result.spot c.draw-end.result c.caret_of-caret.result c.self.invariant.kept (caret_inside p.size.w p.size.h c.args.view.now c.caret_of-caret.result ew eh c.caret_of-caret.ensures) c.spot_if-at.ensures.there
    (rw c.as_slice-cells.ensures at c.begin-lifting.ensures.lifts) (rw (c.as_slice-cells.ensures, c.as_slice-2.ensures.value) at c.draw-end.ensures.drawn))

pub invariant_of-self : goal.invariant_of-self
invariant_of-self c =
    let p = c.self.inside in
    let ew = c.requires.size.0 ∙ ap (λ (k : Kept). k.w) (sym c.self.view_is) in
    let eh = c.requires.size.1 ∙ ap (λ (k : Kept). k.h) (sym c.self.view_is) in
    let r = (some_frame p.size.w p.size.h p.attr c.begin-lifting.result.attr c.args.view.now.rows p.shadow.items c.begin-lifting.new.shadow.items p.known c.begin-lifting.result.lifted p.visible c.begin-lifting.result.rows
    c.args.out.now.items c.begin-lifting.new.out.items c.draw-end.new.out.items p.spot c.spot_if-at.result c.begin-lifting.result.spot c.draw-end.result c.caret_of-caret.result c.self.invariant.kept (caret_inside p.size.w p.size.h c.args.view.now c.caret_of-caret.result ew eh c.caret_of-caret.ensures) c.spot_if-at.ensures.there
    (rw c.as_slice-cells.ensures at c.begin-lifting.ensures.lifts) (rw (c.as_slice-cells.ensures, c.as_slice-2.ensures.value) at c.draw-end.ensures.drawn)) in
    record {
      kept = record {
        window = c.self.invariant.kept.window;
        cells = ap length (c.keep.ensures ∙ c.as_slice-cells.ensures) ∙ c.requires.view.cells ∙ rw (ew, eh) refl;
        place = ends_inside p.size.w p.size.h _ c.args.view.now.rows c.caret_of-caret.result c.draw-end.result c.args.out.now.items c.draw-end.new.out.items _ r;
        pen = ends_in_pen p.size.w p.size.h _ c.args.view.now.rows c.caret_of-caret.result c.draw-end.result c.args.out.now.items c.draw-end.new.out.items _ r;
      };
      summed = record { long = c.count-rows.ensures.summed.long; now = λ k y x lt. rw c.keep.ensures (c.count-rows.ensures.summed.now y x lt) };
    }
