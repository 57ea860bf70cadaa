use Rattle.std.proofs.Common.{◌∙◌}
use Rattle.con_book.specs.Passes.{book_id, view_of}
use Rattle.con_threads.specs.Ledger.{page_of}
use Rattle.con_run.proofs.WholeLog.{history, log_is, may_close}
use Rattle.con_run.proofs.closing.closed.Goals as goal

pub close-machine-requires : goal.close-machine-requires
close-machine-requires c =
    let t = c.take_in.ensures.taken in
    let h = c.requires in
    record { book = t.book ∙ h.book.0; opening = t.opens ∙ h.opens; whole = may_close _ c.args.opening c.take_in.new.into c.args.last h t }

pub left-requires : goal.left-requires
left-requires c =
    ((view_of c.args.opening).start, log_is page_of _ c.args.opening c.take_in.new.into _ _ c.take_in.ensures.taken c.requires.none_before c.close-machine.ensures)

pub returns : goal.returns
returns c = λ n side clients h.
    let t = c.take_in.ensures.taken in
    let start = (view_of c.args.opening).start in
    let is =
    log_is page_of _ c.args.opening c.take_in.new.into c.close-machine.result.log.items c.close-machine.result.machine t c.requires.none_before
    c.close-machine.ensures in
    history page_of
    (book_id c.args.book) n c.args.opening c.take_in.new.into c.args.last side clients h t c.close-machine.result.log.items c.close-machine.result.machine
    c.close-machine.ensures _ _
    (c.left.ensures.entries start is) (c.left.ensures.replies start is)
