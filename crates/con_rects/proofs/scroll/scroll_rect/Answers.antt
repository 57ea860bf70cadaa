use Rattle.std.proofs.Common.{arith, ◌≡◌, ◌∙◌, ap, ap₂}
use Rattle.con_grid.specs.Picture.{Picture}
use Rattle.con_rects.specs.Parts.{area_in}
use Rattle.con_rects.specs.Rules.{redrawn}
use Rattle.con_rects.specs.Scroll.{scrolled}
use Rattle.con_rects.specs.Moves.{clip_area, common, shifted, shift_to, move_rule, free_rule}
use Rattle.con_rects.specs.declared.area.Area.{Area}
use Rattle.con_rects.proofs.AreaLemmas.{area_in_same}
use Rattle.con_rects.proofs.DrawLemmas.{shape-redrawn}
use Rattle.con_rects.proofs.ScrollLemmas.{scrolled_is}
use Rattle.con_rects.proofs.scroll.scroll_rect.Goals as goal

pub fill_out-requires-clause-right : goal.fill_out-requires-clause-right
fill_out-requires-clause-right c =
    let a = c.area_of-area.ensures ∙ area_in_same c.args.source c.size-size.ensures.width c.size-size.ensures.height in
    let same : c.move_into.new.grid.width ≡ c.args.grid.now.width = ap (λ (p : Picture). p.width) c.move_into.ensures.grid ∙ ap (λ (p : Picture). p.width) (shape-redrawn c.args.grid.now (move_rule c.args.grid.now c.common_of-to.result c.shift_from-shift.result)) in
    omega (arith, same, ap (λ (b : Area). b.right) a, ap (λ (b : Area). b.right) c.common_of-from.ensures)

pub fill_out-requires-clause-bottom : goal.fill_out-requires-clause-bottom
fill_out-requires-clause-bottom c =
    let a = c.area_of-area.ensures ∙ area_in_same c.args.source c.size-size.ensures.width c.size-size.ensures.height in
    let same : c.move_into.new.grid.height ≡ c.args.grid.now.height = ap (λ (p : Picture). p.height) c.move_into.ensures.grid ∙ ap (λ (p : Picture). p.height) (shape-redrawn c.args.grid.now (move_rule c.args.grid.now c.common_of-to.result c.shift_from-shift.result)) in
    omega (arith, same, ap (λ (b : Area). b.bottom) a, ap (λ (b : Area). b.bottom) c.common_of-from.ensures)

pub returns-clause-grid : goal.returns-clause-grid
returns-clause-grid c =
    let p = c.args.grid.now in
    let s = c.shift_from-shift.ensures.shift in
    let a : c.area_of-area.result ≡ area_in c.args.source p.width p.height = c.area_of-area.ensures ∙ area_in_same c.args.source c.size-size.ensures.width c.size-size.ensures.height in
    let limits : c.clip_of-limits.result ≡ clip_area c.args.clip p.width p.height = c.clip_of-limits.ensures ∙ ap (λ n. clip_area c.args.clip n c.size-size.result.h) c.size-size.ensures.width ∙ ap (λ n. clip_area c.args.clip p.width n) c.size-size.ensures.height in
    let moved : c.shifted_by-moved.result ≡ shifted (area_in c.args.source p.width p.height) (shift_to c.args.source c.args.dest) = c.shifted_by-moved.ensures ∙ ap₂ shifted a s in
    let to : c.common_of-to.result ≡ common (shifted (area_in c.args.source p.width p.height) (shift_to c.args.source c.args.dest)) (clip_area c.args.clip p.width p.height) = c.common_of-to.ensures ∙ ap₂ common moved limits in
    let from : c.common_of-from.result ≡ common (area_in c.args.source p.width p.height) (clip_area c.args.clip p.width p.height) = c.common_of-from.ensures ∙ ap₂ common a limits in
    let mid = c.move_into.ensures.grid ∙ ap₂ (λ t u. redrawn p (move_rule p t u)) to s in
    let after : Picture → Area → Area → Picture = λ q f t. redrawn q (free_rule q f t c.plain.result) in
    c.fill_out.ensures.grid ∙ ap (λ q. after q c.common_of-from.result c.common_of-to.result) mid ∙ ap₂ (after _) from to ∙ scrolled_is p c.args.source c.args.clip c.args.dest c.plain.result c.size-size.ensures.picture ∙ ap (λ g. scrolled p c.args.source c.args.clip c.args.dest g) c.plain.ensures
