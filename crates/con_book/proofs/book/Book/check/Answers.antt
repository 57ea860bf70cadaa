use Rattle.std.proofs.Common.{rules, refl, ap}
use Rattle.con_book.specs.Lock.{moving}
use Rattle.con_book.proofs.Turns.{looks}
use Rattle.con_book.proofs.book.Book.check.Goals as goal

pub returns-clause-seen : goal.returns-clause-seen
returns-clause-seen g c = looks g.M.Machine.state (moving g.M.Machine.next g.M.Machine.is_ready g.M.Machine.blank) c.args.pass.now.seat.me.0 c.enter-kept.result c.enter-kept.new.seat.me c.enter-kept.ensures.entered _ _ refl (ap (λ m. m.0) c.leave.ensures.place)

pub returns-clause-ready : goal.returns-clause-ready
returns-clause-ready g c = search rules
