-- The rows are there, or some go up.
use Rattle.std.proofs.Common.{sym, ap, ◌∙◌}
use Rattle.con_page.specs.Page.{Page, rows_up}
use Rattle.con_page.specs.PageView.{page_of}
use Rattle.con_page.proofs.EndLemmas.{fed_inside, fed_past}
use Rattle.con_page.proofs.page.Page.feed.Goals as goal

pub returns-then-n-room-clause-effect : goal.returns-then-n-room-clause-effect
returns-then-n-room-clause-effect c =
    let high = c.height-height.ensures.height ∙ ap (λ (q : Page). q.grid.height) (sym c.self.view_is) in
    rw (← c.self.view_is) (fed_inside (page_of c.self.inside) c.args.n c.height-height.result (rw c.self.view_is c.requires.page) high c.if-n-room.true)

pub returns-clause-effect : goal.returns-clause-effect
returns-clause-effect c =
    let high = c.height-height.ensures.height ∙ ap (λ (q : Page). q.grid.height) (sym c.self.view_is) in
    rw (← c.self.view_is)
    (fed_past (page_of c.self.inside) (page_of c.self-2.inside) c.args.n c.height-height.result _ (rw c.self.view_is c.requires.page) high c.if-n-room.false c.min.ensures
    (c.self-2.view_is ∙ c.rows_up.ensures.effect ∙ ap (λ (q : Page). rows_up q 0 c.height-height.result c.min.result) (sym c.self.view_is)))
