-- Nothing, or a run in the cursor's row.
use Rattle.std.proofs.Common.{rules}
use Rattle.con_term.specs.PageView.{page_of}
use Rattle.con_term.proofs.RunLemmas.{none_printed, run_printed}
use Rattle.con_term.proofs.page.Page.print_run.Goals as goal

pub returns-then-self-clause-printed : goal.returns-then-self-clause-printed
returns-then-self-clause-printed c = none_printed _

pub returns-clause-printed : goal.returns-clause-printed
returns-clause-printed c = rw (← c.self.view_is) (run_printed (page_of c.self.inside) _ c.args.bytes.now c.write_run-count.result c.index-at.result c.attr-attr.result c.write_run-count.new.self (rw (← c.self.view_is) at c.index-at.ensures.place) c.attr-attr.ensures c.if-self.false c.self.invariant.page.column (search rules) (search rules) (search rules) c.write_run-count.ensures.cells c.go_on.ensures)
