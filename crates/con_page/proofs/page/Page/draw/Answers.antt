use Rattle.std.proofs.Common.{rules, w32, to_z, of_z, to_z-of_z, ◌≡◌, ℕ, ◌+◌, ◌-◌, ◌*◌, ◌<◌, min, length, ap, sym, subst, ◌∙◌, refl}
use Rattle.con_units.specs.Natural.{natural}
use Rattle.con_page.specs.Page.{Page, attr}
use Rattle.con_page.specs.PageView.{page_of}
use Rattle.con_page.specs.Echo.{rows_above}
use Rattle.con_page.proofs.EchoLemmas.{drawn_so}
use Rattle.con_page.proofs.page.Page.draw.Goals as goal

pub returns-clause-effect : goal.returns-clause-effect
returns-clause-effect c =
    let p : Page = page_of c.self.inside in
    let start : ℕ = natural c.args.origin.y * p.grid.width + c.args.origin.x + c.args.offset in
    let hidden : ℕ = rows_above c.args.origin.y * p.grid.width in
    let wide : c.width-width.result ≡ p.grid.width = c.width-width.ensures.width ∙ ap (λ (q : Page). q.grid.width) (sym c.self.view_is) in
    let row : to_z w32 (of_z w32 c.args.origin.y) ≡ c.args.origin.y = to_z-of_z {w = w32} {z = c.args.origin.y} (search rules) in
    let start_is : c.natural_of.result * c.width-width.result + c.args.origin.x + c.args.offset ≡ start = rw (wide, c.natural_of.ensures.value, row) refl in
    let hidden_is : c.rows_above.result * c.width-width.result ≡ hidden = rw (wide, c.rows_above.ensures.value, row) refl in
    let end_is : c.natural_of.result * c.width-width.result + c.args.origin.x + c.args.offset + length c.args.units.now ≡ start + length c.args.units.now = ap (λ n. n + length c.args.units.now) start_is in
    let room : natural c.args.origin.y * p.grid.width + c.args.origin.x + (c.args.offset + length c.args.units.now) < length p.grid.cells + hidden =
    subst (λ (q : Page). natural c.args.origin.y * q.grid.width + c.args.origin.x + (c.args.offset + length c.args.units.now) < length q.grid.cells + rows_above c.args.origin.y * q.grid.width) (sym c.self.view_is) c.requires.inside in
    let at : c.saturating_sub-2.result ≡ start - hidden = c.saturating_sub-2.ensures ∙ rw (start_is, hidden_is) refl in
    let skip : c.min-skipped.result ≡ min (hidden - start) (length c.args.units.now) = c.min-skipped.ensures ∙ rw (c.saturating_sub.ensures, start_is, hidden_is) refl in
    let from : c.saturating_sub-3.result ≡ start + length c.args.units.now - hidden = c.saturating_sub-3.ensures ∙ rw (end_is, hidden_is) refl in
    let upto : c.min.result ≡ min (start + length c.args.units.now + c.args.blanks - hidden) (length p.grid.cells) = c.min.ensures ∙ rw (c.saturating_sub-4.ensures, c.count-count.ensures.cells, end_is, hidden_is) refl in
    let attr_is : c.attr-attr.result ≡ attr p = c.attr-attr.ensures in
    rw (c.erase.ensures.effect, c.put_units.ensures.grid, ← c.self.view_is)
    (drawn_so p c.args.origin c.args.offset c.args.blanks c.args.units.now _ c.saturating_sub-2.result c.min-skipped.result c.saturating_sub-3.result c.min.result c.attr-attr.result
    room at skip refl from upto attr_is)
