use Rattle.std.proofs.Common.{◌≡◌, ◌*◌, replicate, List, ap, ap₂, sym, subst, ◌∙◌}
use Rattle.con_units.specs.Glyph.{Glyph}
use Rattle.con_page.specs.Page.{Page, blank}
use Rattle.con_page.specs.Words.Page.{IsPage}
use Rattle.con_page.specs.PageView.{page_of}
use Rattle.con_page.specs.Setters.{default_tabs}
use Rattle.con_page.specs.Alternate.{alternate_page}
use Rattle.con_page.proofs.AlternateLemmas.{begun_is, begun_page, filled_whole}
use Rattle.con_page.proofs.page.Page.begin_alternate.Goals as goal

pub returns-clause-effect : goal.returns-clause-effect
returns-clause-effect c =
    let p : Page = page_of c.self.inside in
    let m : Page = page_of c.main.inside in
    let ok : IsPage p = subst (λ (q : Page). IsPage q) (sym c.self.view_is) c.requires.page in
    let cell : c.blank-cell.result ≡ blank m = c.blank-cell.ensures ∙ ap blank (sym c.main.view_is) in
    let grid : c.fill.new.self ≡ record p.grid { cells = replicate (p.grid.width * p.grid.height) (blank m) } = c.fill.ensures.grid
    ∙ ap (λ (l : List Glyph). record p.grid { cells = l }) (filled_whole p.grid c.count-count.result c.blank-cell.result ok.grid c.count-count.ensures.count ∙ ap (λ g. replicate (p.grid.width * p.grid.height) g) cell) in
    let stops : c.reset_stops.new.tabs.items ≡ default_tabs p.grid.width = c.reset_stops.ensures ∙ ap (λ n. default_tabs n) ok.tabs in
    begun_is p m c.fill.new.self c.reset_stops.new.tabs.items grid stops ∙ ap₂ alternate_page c.self.view_is c.main.view_is

pub returns-clause-page : goal.returns-clause-page
returns-clause-page c = subst (λ (q : Page). IsPage q) (sym (returns-clause-effect c)) (begun_page c.args.self.now c.args.main.now c.requires.page c.requires.main)
