use Rattle.std.proofs.Common.{rules, ◌∷◌}
use Rattle.con_book.specs.Lock.{moving}
use Rattle.con_book.proofs.Passes.{splits_at}
use Rattle.con_book.proofs.Among.{not_among}
use Rattle.con_book.proofs.book.Book.cut.Goals as goal

pub split_seat-requires : goal.split_seat-requires
split_seat-requires g c =
    (search rules, search rules, splits_at g.M.Machine.state (moving g.M.Machine.next g.M.Machine.is_ready g.M.Machine.blank) _ _ _ c.args.actor _ c.requires.actor c.requires.fresh.0 c.requires.fresh.1 (search rules) (not_among c.args.actor (0 ∷ c.args.seat.now.me.0.made) c.requires.fresh.2))
