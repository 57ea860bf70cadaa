use Rattle.std.proofs.Common.{sym, ◌∙◌}
use Rattle.std.specs.Slots.{slots_items}
use Rattle.con_book.specs.Lock.{moving}
use Rattle.con_book.proofs.Closing.{ends, ends_some, some_is, ends_at}
use Rattle.con_book.proofs.book.Book.finish.Goals as goal

pub unwrap-requires : goal.unwrap-requires
unwrap-requires g c =
    let m = moving g.M.Machine.next g.M.Machine.is_ready g.M.Machine.blank in
    let start = g.M.Machine.state c.args.self.table.shared.key.value in
    let e = ends g.M.Machine.state m start c.args.last.seat.id c.args.last.seat.me.0 _ _ c.args.last.is_idle.3 c.requires.opening c.requires.whole c.args.last.is_idle.1 c.close_with-closed.ensures.values.2 in
    some_is g.M.Machine.state m start c.take-slot.result e.0 (ends_some g.M.Machine.state m start e.0 (slots_items c.close_with-closed.result.slots) c.take-slot.result e.1 c.take-slot.ensures.value)

pub returns : goal.returns
returns g c =
    let m = moving g.M.Machine.next g.M.Machine.is_ready g.M.Machine.blank in
    let start = g.M.Machine.state c.args.self.table.shared.key.value in
    let e = ends g.M.Machine.state m start c.args.last.seat.id c.args.last.seat.me.0 _ _ c.args.last.is_idle.3 c.requires.opening c.requires.whole c.args.last.is_idle.1 c.close_with-closed.ensures.values.2 in
    let got = ends_some g.M.Machine.state m start e.0 (slots_items c.close_with-closed.result.slots) c.take-slot.result e.1 c.take-slot.ensures.value in
    ends_at g.M.Machine.state m start c.args.last.seat.me.0 e.0 c.unwrap.result (sym got ∙ c.unwrap.ensures) e.2
