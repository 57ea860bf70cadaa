use Rattle.std.proofs.Common.{◌≡◌, sym, ◌∙◌}
use Rattle.con_page.specs.Echo.{rows_past}
use Rattle.con_page.proofs.EchoLemmas.{none_scrolled}
use Rattle.con_page.proofs.page.Page.bring_in.Goals as goal

pub returns-then-past-eq0-clause-effect : goal.returns-then-past-eq0-clause-effect
returns-then-past-eq0-clause-effect c =
    let none : rows_past c.args.self.now c.args.origin c.args.end ≡ 0 = rw (← c.row_of.ensures.row, ← c.height-height.ensures.height) (sym c.saturating_sub-past.ensures ∙ c.if-past-eq0.true) in
    none_scrolled c.args.self.now c.args.origin c.args.end c.requires.page none
