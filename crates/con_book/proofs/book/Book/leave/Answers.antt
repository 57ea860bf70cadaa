use Rattle.std.proofs.Common.{rules}
use Rattle.con_book.specs.Lock.{moving}
use Rattle.con_book.proofs.Entering.{puts, serves_at, leaves}
use Rattle.con_book.proofs.book.Book.leave.Goals as goal

pub fetch_add-requires : goal.fetch_add-requires
fetch_add-requires g c =
    let m = c.args.seat.now.me in
    let n = c.exchange.new.seat.me in
    let p = puts g.M.Machine.state (moving g.M.Machine.next g.M.Machine.is_ready g.M.Machine.blank) m n c.requires.place.0 c.args.kept c.requires.place.1 c.exchange.ensures.3 in
    (search rules, search rules, serves_at g.M.Machine.state (moving g.M.Machine.next g.M.Machine.is_ready g.M.Machine.blank) _ _ _ n m.0 _ c.args.kept p c.requires.live (search rules) c.requires.machine)

pub returns-clause-place : goal.returns-clause-place
returns-clause-place g c =
    let m = c.args.seat.now.me in
    let n = c.exchange.new.seat.me in
    let p = puts g.M.Machine.state (moving g.M.Machine.next g.M.Machine.is_ready g.M.Machine.blank) m n c.requires.place.0 c.args.kept c.requires.place.1 c.exchange.ensures.3 in
    leaves g.M.Machine.state (moving g.M.Machine.next g.M.Machine.is_ready g.M.Machine.blank) n c.fetch_add.new.seat.me m.0 c.requires.place.0 c.args.kept p c.fetch_add.ensures.2
