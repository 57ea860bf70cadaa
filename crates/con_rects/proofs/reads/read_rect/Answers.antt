use Rattle.std.proofs.Common.{arith, ◌≡◌, ◌≤◌, ap, sym, ◌∙◌}
use Rattle.con_rects.specs.Parts.{area_in, rect_of, area_size, area_cells, as_read}
use Rattle.con_rects.specs.Area.{used_size}
use Rattle.con_rects.proofs.AreaLemmas.{area_in_same}
use Rattle.con_rects.proofs.UsedLemmas.{used_rect_is, used_size_is}
use Rattle.con_rects.proofs.ReadLemmas.{rect_cells_is, no_cells}
use Rattle.con_rects.proofs.reads.read_rect.Goals as goal
use Rattle.con_rects.proofs.reads.read_rect.Goals.{then-has_cells, else-has_cells}

pub returns-clause-done : goal.returns-clause-done
returns-clause-done c =
    let p = c.args.grid.now in
    let a : c.area_of-area.result ≡ area_in c.args.rect p.width p.height = c.area_of-area.ensures ∙ area_in_same c.args.rect c.size-size.ensures.width c.size-size.ensures.height in
    let few : used_size c.args.rect p.width p.height ≤ 16384 = omega (arith, used_size_is c.args.rect p.width p.height, sym (ap area_size a), c.count.ensures, c.if-count-gt16384.false) in
    let cells : c.if-has_cells.out.items ≡ area_cells (as_read p) c.area_of-area.result = elim c.if-has_cells.branch [
      | then-has_cells w ↦ ap (λ (v : _). v.items) w.out-is ∙ w.read_area.ensures.cells
      | else-has_cells w ↦ ap (λ (v : _). v.items) w.out-is ∙ c.requires.empty ∙ sym (no_cells (as_read p) c.area_of-area.result (sym w.if-has_cells.ensures))
    ] in
    (few, c.rect.ensures ∙ ap rect_of a ∙ sym (used_rect_is c.args.rect p.width p.height), cells ∙ ap (area_cells (as_read p)) a ∙ rect_cells_is p c.args.rect)
