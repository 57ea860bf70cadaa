-- Parts of rows that are what they were.
use Rattle.std.proofs.Common.{◌≡◌, ℕ, ◌+◌, ◌≤◌, List, take, drop, sym, ap, ◌∙◌, arith, Option, Some, None}
use Rattle.std.proofs.lemmas.List.{same_lists, places}
use Rattle.con_units.specs.Glyph.{Glyph}
use Rattle.con_units.specs.View.{row_of, row_part}
use Rattle.con_grid.specs.Words.Picture.{IsRowOf}
use Rattle.con_grid.specs.Parts.{IsPartOf, PartsFollowRows}

-- a part of a row is a part of the list that the row is
pub part_of_row : (w : ℕ) (xs : List Glyph) (left n y : ℕ) → left + n ≤ w → row_part w xs left n y ≡ take n (drop left (row_of w xs y))
part_of_row w xs left n y inside = same_lists _ _ (grind (arith, places)) (λ k d h. grind (arith, places))

part_follows : (before : Option (List Glyph)) (w : ℕ) (cells : List Glyph) (left n y : ℕ) → IsRowOf before w cells y → left + n ≤ w → IsPartOf before w cells left n y
part_follows None w cells left n y h inside = h
part_follows (Some before) w cells left n y h inside =
    part_of_row w cells left n y inside ∙ ap (λ (row : List Glyph). take n (drop left row)) h ∙ sym (part_of_row w before left n y inside)

pub parts_follow_rows : PartsFollowRows
parts_follow_rows p left n y h inside = part_follows p.moment p.width p.cells left n y h inside
