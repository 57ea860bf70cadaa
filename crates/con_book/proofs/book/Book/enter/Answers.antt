use Rattle.std.proofs.Common.{rules, ◌∙◌, sym}
use Rattle.con_book.specs.Lock.{moving}
use Rattle.con_book.proofs.Steps.{draws}
use Rattle.con_book.proofs.Entering.{looks_at, found, holds}
use Rattle.con_book.proofs.book.Book.enter.Goals as goal

pub fetch_add-ticket-requires : goal.fetch_add-ticket-requires
fetch_add-ticket-requires g c = (search rules, search rules, draws _ _ _ _ _ _ c.requires.idle.2 c.requires.idle.0)

pub load-served-requires : goal.load-served-requires
load-served-requires g c = (search rules, search rules, looks_at _ _ _ _ _ _ c.args.seat.now.me.0 _ c.requires.idle.2 c.loop.invariant.1.1)

pub exchange-requires : goal.exchange-requires
exchange-requires g c =
    let f = found g.M.Machine.state (moving g.M.Machine.next g.M.Machine.is_ready g.M.Machine.blank) c.loop.seat.me c.load-served.new.seat.me c.args.seat.now.me.0 c.loop.invariant.1.0 c.load-served.result c.loop.invariant.1.1 (c.if-served-ticket.true ∙ sym c.loop.invariant.1.2) c.load-served.ensures.2.0 in
    (search rules, holds g.M.Machine.state (moving g.M.Machine.next g.M.Machine.is_ready g.M.Machine.blank) c.args.seat.now.me.0 c.loop.invariant.1.0 c.load-served.new.seat.me f)
