use Rattle.std.proofs.Common.{rules, ap, ◌∙◌}
use Rattle.con_book.specs.Lock.{moving}
use Rattle.con_book.proofs.Passes.{joins, empty, minds, learned, minded_mine}
use Rattle.con_book.proofs.book.Book.join.Goals as goal

pub join_seat-requires : goal.join_seat-requires
join_seat-requires g c = (
  search rules,
  search rules,
  empty c.args.other.seat.me.1 c.args.other.is_idle.2,
  search rules,
  joins g.M.Machine.state (moving g.M.Machine.next g.M.Machine.is_ready g.M.Machine.blank) _ _ c.args.into.now.seat.me.0 _ c.args.other.seat.me.0 c.args.into.now.is_idle.3 c.args.other.is_idle.3 c.args.into.now.is_idle.1 c.args.other.is_idle.1 c.requires.other,
)

pub load-requires : goal.load-requires
load-requires g c =
    (search rules, search rules, minds g.M.Machine.state (moving g.M.Machine.next g.M.Machine.is_ready g.M.Machine.blank) _ _ _ c.join_seat.new.seat.me (ap (λ m. m.0.live) c.join_seat.ensures.2 ∙ c.args.into.now.is_idle.3))

pub returns-clause-seen : goal.returns-clause-seen
returns-clause-seen g c = learned g.M.Machine.state (moving g.M.Machine.next g.M.Machine.is_ready g.M.Machine.blank) (g.M.Machine.state c.args.self.now.table.shared.key.value) c.join_seat.new.seat.me c.load.new.seat.me c.args.into.now.seat.me.0 c.args.other.seat.me.0 _ c.join_seat.ensures.2 c.load.ensures.2

pub returns-clause-mine : goal.returns-clause-mine
returns-clause-mine g c = minded_mine g.M.Machine.state (moving g.M.Machine.next g.M.Machine.is_ready g.M.Machine.blank) (g.M.Machine.state c.args.self.now.table.shared.key.value) c.join_seat.new.seat.me c.load.new.seat.me c.load.ensures.2
