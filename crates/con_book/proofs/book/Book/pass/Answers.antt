use Rattle.std.proofs.Common.{rules, ap}
use Rattle.con_book.specs.Lock.{moving}
use Rattle.con_book.proofs.Passes.{minds, minded_mine}
use Rattle.con_book.proofs.book.Book.pass.Goals as goal

pub load-requires : goal.load-requires
load-requires g c = (search rules, search rules, minds g.M.Machine.state (moving g.M.Machine.next g.M.Machine.is_ready g.M.Machine.blank) _ _ _ c.cut-seat.result.me (ap (λ m. m.0.live) c.cut-seat.ensures.right.1))

pub returns-clause-mine : goal.returns-clause-mine
returns-clause-mine g c = minded_mine g.M.Machine.state (moving g.M.Machine.next g.M.Machine.is_ready g.M.Machine.blank) (g.M.Machine.state c.args.self.now.table.shared.key.value) c.cut-seat.result.me c.load.new.seat.me c.load.ensures.2
