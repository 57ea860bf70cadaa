use Rattle.std.proofs.Common.{◌≡◌, sym, ap, ◌∙◌}
use Rattle.con_page.specs.Page.{place, attr}
use Rattle.con_page.specs.PageView.{page_of}
use Rattle.con_page.proofs.RunLemmas.{ran_put}
use Rattle.con_page.proofs.page.Page.write_any.Goals as goal

pub returns-clause-effect : goal.returns-clause-effect
returns-clause-effect c =
    let at : c.place-at.result ≡ place (page_of c.self.inside) = c.place-at.ensures.place ∙ ap place (sym c.self.view_is) in
    let attr_is : c.attr-attr.result ≡ attr (page_of c.self.inside) = c.attr-attr.ensures in
    rw (← c.self.view_is, c.put_units.ensures.grid)
    (ran_put (page_of c.self.inside) c.args.units.now c.place-at.result c.attr-attr.result (rw c.self.view_is c.requires.page) (rw c.self.view_is c.requires.given) at attr_is)
