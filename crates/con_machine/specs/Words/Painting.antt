-- The words of the code and of laws about Painting, which a reader need not believe.
use Rattle.std.specs.Prelude.{ℕ, ◌+◌, ◌==◌, ◌&&◌, ◌||◌, Bool, true, not, List, Option, is_none, nat_lt, if◌then◌else◌}
use Rattle.std.specs.Cmp.Lexicographic.{pointwise}
use Rattle.std.specs.Option.{option_map_or}
use Rattle.con_units.specs.Attr.{Attribute}
use Rattle.con_units.specs.Glyph.{Glyph}
use Rattle.con_units.specs.declared.view.View.{View}
use Rattle.con_machine.specs.State.{State}
use Rattle.con_machine.specs.Painting.{same_shade, same_cell, same_view, painted}

abbrev pub same_attribute : Attribute → Attribute → Bool
same_attribute a b = (a.word == b.word) && same_shade a.fore b.fore && same_shade a.back b.back

abbrev pub same_cells : List Glyph → List Glyph → Bool
same_cells cs bs = pointwise same_cell cs bs

abbrev pub same_bool : Bool → Bool → Bool
same_bool a b = if a then b else not b

abbrev pub differs : View → Option View → Bool
differs view painted = option_map_or (λ last. not (same_view view last)) painted true

-- nothing was painted on a terminal of this size: at the first Paint, and where a Resize stands after the last one
abbrev pub is_fresh : State → Bool
is_fresh s = s.resized || is_none s.painted

-- the number that a screen's rows are stamped with from this Paint on; the greatest one stays
abbrev pub next_number : ℕ → ℕ
next_number n = if nat_lt n 0xFFFFFFFFFFFFFFFF then n + 1 else n
