use Rattle.std.proofs.Common.{arith, ◌<◌, ◌+◌, List, ◌∷◌, [], ◌++◌, length, take, drop, sym, ap, ◌∙◌, length-drop}
use Rattle.std.proofs.lemmas.List.{take_more, get_or-drop}
use Rattle.std.proofs.lemmas.Option.{get_or_from_slice_get, slice_get_within}
use Rattle.con_units.specs.Glyph.{Glyph}
use Rattle.con_rects.specs.Parts.{blank, as_read}
use Rattle.con_rects.proofs.reads.read_cells.Goals as goal

pub loop-k-preserved : goal.loop-k-preserved
loop-k-preserved c =
    let cells = (as_read c.args.grid.now).cells in
    let k = c.loop-k.k in
    let within : c.args.from + k < length cells = slice_get_within cells (c.args.from + k) c.read_cell.result c.read_cell.ensures in
    let inside : k < length (drop c.args.from cells) = omega (arith, length-drop c.args.from cells, within) in
    let got = get_or-drop c.args.from cells k blank ∙ get_or_from_slice_get cells (c.args.from + k) c.read_cell.result blank c.read_cell.ensures in (
      c.push_reserved.ensures.items ∙ ap (λ (l : List Glyph). l ++ c.read_cell.result ∷ []) c.loop-k.invariant.0 ∙ ap (λ g. take k (drop c.args.from cells) ++ g ∷ []) (sym got) ∙ sym (take_more (drop c.args.from cells) k blank inside),
      c.push_reserved.ensures.capacity ∙ c.loop-k.invariant.1,
    )
