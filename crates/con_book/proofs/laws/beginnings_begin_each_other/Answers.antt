use Rattle.con_book.specs.Laws.{begin_each_other}
use Rattle.con_book.proofs.laws.beginnings_begin_each_other.Goals as goal

pub returns : goal.returns
returns g c = λ zs xs ys p q. begin_each_other zs xs ys p q
