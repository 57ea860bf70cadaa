use Rattle.con_page.proofs.FitLemmas.{moved_keeps}
use Rattle.con_page.proofs.page.Page.resize.Goals as goal

pub show_cursor-requires : goal.show_cursor-requires
show_cursor-requires c = record { page = rw c.take_fit.ensures (moved_keeps c.args.self.now c.args.fit c.requires.page c.requires.fit) }
