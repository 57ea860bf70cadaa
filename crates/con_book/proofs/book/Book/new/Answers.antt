use Rattle.std.proofs.Common.{sym, ap}
use Rattle.con_book.specs.Lock.{moving}
use Rattle.con_book.proofs.Opening.{opens_at}
use Rattle.con_book.proofs.book.Book.new.Goals as goal

pub new-requires : goal.new-requires
new-requires g c =
    opens_at g.M.Machine.state (moving g.M.Machine.next g.M.Machine.is_ready g.M.Machine.blank) (g.M.Machine.state c.of-start.result.value) (record { machine = c.args.machine; log = c.new-log.result }) c.push_reserved.new.self.items c.in-Ok.slots.items
    c.push_reserved.ensures.items c.in-Ok.ensures.items c.new-log.ensures.items (ap g.M.Machine.state (sym c.of-start.ensures))
