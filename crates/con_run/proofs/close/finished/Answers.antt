use Rattle.std.proofs.Common.{rules, refl, sym, ◌∙◌}
use Rattle.con_events.specs.declared.actor.Actor.TheVariants as actors
use Rattle.con_threads.specs.ScribeLaws.{same_self}
use Rattle.con_threads.specs.declared.painter.PainterThread.{PainterThread}
use Rattle.con_threads.specs.declared.scribe.Scribe.{Scribe}
use Rattle.con_run.proofs.Crewing.{crew_books, crew_single}
use Rattle.con_run.proofs.Returning.{gathered, leaves_early, leaves_err, leaves_ok, may_close, taken_painter, with_scribe}
use Rattle.con_run.proofs.close.finished.Goals as goal

pub gather_all-gone-requires-clause-books : goal.gather_all-gone-requires-clause-books
gather_all-gone-requires-clause-books g c = crew_books _ _ _ _ c.requires.back.clients

pub gather_all-gone-requires-clause-single : goal.gather_all-gone-requires-clause-single
gather_all-gone-requires-clause-single g c = crew_single _ _ _ _ c.requires.back.clients

pub paint_due-requires-clause-is : goal.paint_due-requires-clause-is
paint_due-requires-clause-is g c =
    let first = c.args.edges.painter in
    let last : PainterThread = with_scribe first (record first.scribe { pass = c.gather_all-gone.new.into }) in
    taken_painter first last _ c.requires.back.edges.painter_is c.gather_all-gone.ensures.into refl refl refl

pub left-requires : goal.left-requires
left-requires g c =
    let back = c.requires.back in
    let opener : Scribe = record { pass = c.args.opening; actor = actors.Terminal } in
    let first = c.args.edges.painter in
    let last : PainterThread = with_scribe first (record first.scribe { pass = c.gather_all-gone.new.into }) in
    let took = c.gather_all-gone.ensures.into in
    let covers = c.gather_all-gone.ensures.covers in
    let is = taken_painter first last _ back.edges.painter_is took refl refl refl in
    may_close _ _ _ opener _ _ _ _ _ back last last took (same_self last.scribe) is.is_scribe covers

pub left-requires-then-is_astray : goal.left-requires-then-is_astray
left-requires-then-is_astray g c =
    let back = c.requires.back in
    let opener : Scribe = record { pass = c.args.opening; actor = actors.Terminal } in
    let first = c.args.edges.painter in
    let last : PainterThread = with_scribe first (record first.scribe { pass = c.gather_all-gone.new.into }) in
    let took = c.gather_all-gone.ensures.into in
    let covers = c.gather_all-gone.ensures.covers in
    let is = taken_painter first last _ back.edges.painter_is took refl refl refl in
    may_close _ _ _ opener _ _ _ _ _ back last last took (same_self last.scribe) is.is_scribe covers

pub left-requires-in-Ok : goal.left-requires-in-Ok
left-requires-in-Ok g c =
    let back = c.requires.back in
    let opener : Scribe = record { pass = c.args.opening; actor = actors.Terminal } in
    let first = c.args.edges.painter in
    let last : PainterThread = with_scribe first (record first.scribe { pass = c.gather_all-gone.new.into }) in
    let took = c.gather_all-gone.ensures.into in
    let covers = c.gather_all-gone.ensures.covers in
    may_close _ _ _ opener _ _ _ _ _ back last c.paint_due.new.painter took c.paint_due.ensures.same c.paint_due.ensures.is.is_scribe covers

pub left-requires-in-Err : goal.left-requires-in-Err
left-requires-in-Err g c =
    let back = c.requires.back in
    let opener : Scribe = record { pass = c.args.opening; actor = actors.Terminal } in
    let first = c.args.edges.painter in
    let last : PainterThread = with_scribe first (record first.scribe { pass = c.gather_all-gone.new.into }) in
    let took = c.gather_all-gone.ensures.into in
    let covers = c.gather_all-gone.ensures.covers in
    may_close _ _ _ opener _ _ _ _ _ back last c.paint_due.new.painter took c.paint_due.ensures.same c.paint_due.ensures.is.is_scribe covers

pub returns-then-not-are_whole-clause-outcome : goal.returns-then-not-are_whole-clause-outcome
returns-then-not-are_whole-clause-outcome g c = λ session racks before left old e n edges crew.
    let back = c.requires.back in
    let opener : Scribe = record { pass = c.args.opening; actor = actors.Terminal } in
    let first = c.args.edges.painter in
    let last : PainterThread = with_scribe first (record first.scribe { pass = c.gather_all-gone.new.into }) in
    let took = c.gather_all-gone.ensures.into in
    let covers = c.gather_all-gone.ensures.covers in
    let is = taken_painter first last _ back.edges.painter_is took refl refl refl in
    let end = (c.meet.ensures.all (c.meet.ensures.take.2 ∙ c.requires.back.ended)).0 in
    let pieces = sym c.meet.ensures.take.1 ∙ (end ∙ c.meet.ensures.put.1) in
    let history = c.left.ensures.history c.args.clients _ _
    (gathered _ _ _ opener _ _ _ _ _ back last last took (same_self last.scribe) is.is_scribe covers) in
    leaves_early _ _ _ opener _ _ _ _ _ back last last took (same_self last.scribe) is.is_scribe covers
    session racks before left old _ _ e n edges crew pieces refl refl refl refl _ _ history _ _
    c.left.ensures.ends c.left.ensures.end refl refl refl

pub returns-then-is_astray-clause-outcome : goal.returns-then-is_astray-clause-outcome
returns-then-is_astray-clause-outcome g c = λ session racks before left old e n edges crew.
    let back = c.requires.back in
    let opener : Scribe = record { pass = c.args.opening; actor = actors.Terminal } in
    let first = c.args.edges.painter in
    let last : PainterThread = with_scribe first (record first.scribe { pass = c.gather_all-gone.new.into }) in
    let took = c.gather_all-gone.ensures.into in
    let covers = c.gather_all-gone.ensures.covers in
    let is = taken_painter first last _ back.edges.painter_is took refl refl refl in
    let end = (c.meet.ensures.all (c.meet.ensures.take.2 ∙ c.requires.back.ended)).0 in
    let pieces = sym c.meet.ensures.take.1 ∙ (end ∙ c.meet.ensures.put.1) in
    let history = c.left-then-is_astray.ensures.history c.args.clients _ _
    (gathered _ _ _ opener _ _ _ _ _ back last last took (same_self last.scribe) is.is_scribe covers) in
    leaves_early _ _ _ opener _ _ _ _ _ back last last took (same_self last.scribe) is.is_scribe covers
    session racks before left old _ _ e n edges crew pieces refl refl refl refl _ _ history _ _
    c.left-then-is_astray.ensures.ends c.left-then-is_astray.ensures.end refl refl refl

pub returns-in-Ok-clause-outcome : goal.returns-in-Ok-clause-outcome
returns-in-Ok-clause-outcome g c = λ session racks before left old e n edges crew.
    let w = c.are_whole.ensures (search rules) in
    let back = c.requires.back in
    let opener : Scribe = record { pass = c.args.opening; actor = actors.Terminal } in
    let first = c.args.edges.painter in
    let last : PainterThread = with_scribe first (record first.scribe { pass = c.gather_all-gone.new.into }) in
    let took = c.gather_all-gone.ensures.into in
    let covers = c.gather_all-gone.ensures.covers in
    let end = (c.meet.ensures.all (c.meet.ensures.take.2 ∙ c.requires.back.ended)).0 in
    let pieces = sym c.meet.ensures.take.1 ∙ (end ∙ c.meet.ensures.put.1) in
    let history = c.left-in-Ok.ensures.history c.args.clients _ _
    (gathered _ _ _ opener _ _ _ _ _ back last c.paint_due.new.painter took c.paint_due.ensures.same c.paint_due.ensures.is.is_scribe covers) in
    leaves_ok _ _ _ opener _ _ _ _ _ back last c.paint_due.new.painter took c.paint_due.ensures.same c.paint_due.ensures.is.is_scribe covers
    session racks before left old _ _ e n edges crew pieces refl refl refl refl _ _ history _ _ c.in-Ok.failed
    c.left-in-Ok.ensures.ends (c.left-in-Ok.ensures.end ∙ c.end_by.ensures) c.in-Ok.ensures.finished w.3 w.4 w.2 w.1
    (λ h. c.in-Ok.ensures.stays (c.is_astray.ensures (search rules) h)) (c.gather_all-gone.ensures.gone w.0) c.in-Ok.ensures.idle

pub returns-clause-outcome : goal.returns-clause-outcome
returns-clause-outcome g c = λ session racks before left old e n edges crew.
    let w = c.are_whole.ensures (search rules) in
    let back = c.requires.back in
    let opener : Scribe = record { pass = c.args.opening; actor = actors.Terminal } in
    let first = c.args.edges.painter in
    let last : PainterThread = with_scribe first (record first.scribe { pass = c.gather_all-gone.new.into }) in
    let took = c.gather_all-gone.ensures.into in
    let covers = c.gather_all-gone.ensures.covers in
    let end = (c.meet.ensures.all (c.meet.ensures.take.2 ∙ c.requires.back.ended)).0 in
    let pieces = sym c.meet.ensures.take.1 ∙ (end ∙ c.meet.ensures.put.1) in
    let history = c.left-in-Err.ensures.history c.args.clients _ _
    (gathered _ _ _ opener _ _ _ _ _ back last c.paint_due.new.painter took c.paint_due.ensures.same c.paint_due.ensures.is.is_scribe covers) in
    leaves_err _ _ _ opener _ _ _ _ _ back last c.paint_due.new.painter took c.paint_due.ensures.same c.paint_due.ensures.is.is_scribe covers
    session racks before left old _ _ e n edges crew pieces refl refl refl refl _ _ history _ _ _
    c.left-in-Err.ensures.ends c.left-in-Err.ensures.end c.in-Err.ensures.finished w.3 w.4
