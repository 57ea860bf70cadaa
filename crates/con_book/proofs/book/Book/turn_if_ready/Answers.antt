use Rattle.std.proofs.Common.{rules, refl, sym, ap}
use Rattle.con_book.specs.Lock.{moving}
use Rattle.con_book.proofs.Turns.{looks, blocked}
use Rattle.con_book.proofs.book.Book.turn_if_ready.Goals as goal

pub returns-then-not-ready-clause-blocked : goal.returns-then-not-ready-clause-blocked
returns-then-not-ready-clause-blocked g c =
    let m = moving g.M.Machine.next g.M.Machine.is_ready g.M.Machine.blank in
    let v = c.args.pass.now.seat.me.0 in
    let e = c.enter-kept.ensures.entered in
    let left = ap (λ m. m.0) c.leave.ensures.place in
    (looks g.M.Machine.state m v c.enter-kept.result c.enter-kept.new.seat.me e _ _ refl left, blocked g.M.Machine.state m v c.enter-kept.result c.enter-kept.new.seat.me e _ c.args.event _ c.ready.result (sym c.args.pass.now.is_idle.0) c.ready.ensures (search rules) left)
