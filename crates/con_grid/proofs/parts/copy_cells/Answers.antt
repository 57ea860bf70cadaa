use Rattle.std.proofs.Common.{rules, arith, ◌≡◌, ◌<◌, ◌+◌, ◌*◌, ◌/◌, ◌%◌, length, sym, ◌∙◌, ℕ}
use Rattle.std.proofs.lemmas.Nat.{mul-add-lt}
use Rattle.std.proofs.lemmas.Option.{get_or_from_slice_get}
use Rattle.std.proofs.lemmas.List.Edits.{fill_by_more}
use Rattle.std.proofs.lemmas.List.FromFn.{fill_by_all}
use Rattle.con_units.specs.Glyph.{Glyph}
use Rattle.con_grid.specs.Picture.{resized_cells}
use Rattle.con_grid.specs.Words.Picture.{cell_of}
use Rattle.con_grid.proofs.ResizedLemmas.{cell_of_inside, cell_of_right, cell_of_below}
use Rattle.con_grid.proofs.parts.copy_cells.Goals as goal
use Rattle.con_grid.proofs.parts.copy_cells.Goals.{then-x-old_width+then-y-old_height, else-x-old_width, else-x-old_width-via-then-x-old_width+else-y-old_height, else-x-old_width-via-else-x-old_width}

pub get-requires : goal.get-requires
get-requires c = rw c.requires.old (mul-add-lt (c.loop-i.i / c.args.width + c.args.lost) c.args.old_width (c.loop-i.i % c.args.width) c.args.old_height c.if-y-old_height.true c.if-x-old_width.true)

pub loop-i-preserved : goal.loop-i-preserved
loop-i-preserved c =
    let x : ℕ = c.loop-i.i % c.args.width in
    let y : ℕ = c.loop-i.i / c.args.width + c.args.lost in
    let f : ℕ → Glyph = λ k. cell_of c.args.old.now c.args.old_width (k % c.args.width) (k / c.args.width + c.args.lost) c.args.blank in
    let is : c.if-x-old_width.cells ≡ f c.loop-i.i =
    elim c.if-x-old_width.branch [
      | then-x-old_width+then-y-old_height w ↦
          w.cells-is ∙ cell_of_inside c.args.old.now c.args.old_width x y c.args.blank w.get.result w.if-x-old_width.true
          (rw c.requires.old (mul-add-lt y c.args.old_width x c.args.old_height w.if-y-old_height.true w.if-x-old_width.true)) (sym (get_or_from_slice_get c.args.old.now (y * c.args.old_width + x) w.get.result w.get.result w.get.ensures))
      | else-x-old_width w ↦
          w.cells-is ∙ elim w.else-x-old_width.branch [
            | else-x-old_width-via-then-x-old_width+else-y-old_height v ↦ cell_of_below c.args.old.now c.args.old_width c.args.old_height x y c.args.blank c.requires.old v.if-y-old_height.false
            | else-x-old_width-via-else-x-old_width v ↦ cell_of_right c.args.old.now c.args.old_width x y c.args.blank v.if-x-old_width.false
          ]
    ] in
    let within : c.loop-i.i < length c.loop-i.cells = search rules in
    rw is (fill_by_more f c.loop-i.cells c.loop-i.i c.args.blank within c.loop-i.invariant)

pub returns : goal.returns
unfolding resized_cells
returns c = λ h long.
    let f : ℕ → Glyph = λ k. cell_of c.args.old.now c.args.old_width (k % c.args.width) (k / c.args.width + c.args.lost) c.args.blank in
    fill_by_all f c.loop-i.cells (c.args.width * h) c.args.blank (c.loop-i.auto.cells ∙ long)
    (λ k k_in. c.loop-i.invariant k (omega (arith, long, c.loop-i-test.false, k_in)))
