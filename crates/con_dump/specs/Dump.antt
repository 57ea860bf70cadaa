-- The text that tells what a page shows.
use Rattle.std.specs.Prelude.{ℕ, ◌+◌, ◌/◌, ◌%◌, ◌==◌, ◌||◌, List, [], ◌∷◌, ◌++◌, map, flat_map, codes, if◌then◌else◌}
use Rattle.std.specs.Char.{digit_char}
use Rattle.std.specs.List.{range_with_len}
use Rattle.con_units.specs.Attr.{Attribute, plain}
use Rattle.con_units.specs.Decimal.{decimal}
use Rattle.con_units.specs.Glyph.{Glyph}
use Rattle.con_units.specs.View.{row_of}
use Rattle.con_units.specs.declared.shade.Shade.{Shade}
use Rattle.con_units.specs.declared.shade.Shade.TheVariants.{Plain, Index}
use Rattle.con_term.specs.Page.{Page}
use Rattle.con_term.specs.Same.{same_attr}

unfoldable pub hex_word : ℕ → List ℕ
hex_word w = digit_char (w / 4096) ∷ digit_char (w / 256 % 16) ∷ digit_char (w / 16 % 16) ∷ digit_char (w % 16) ∷ []

-- `WxH cursor X,Y` or `WxH cursor hidden`
unfoldable pub head_line : Page → List ℕ
head_line s = decimal s.w ++ 0x78 ∷ [] ++ decimal s.h ++ codes " cursor "
    ++ (if s.visible then decimal s.x ++ 0x2C ∷ [] ++ decimal s.y else codes "hidden") ++ 0x0A ∷ []

-- a row's units between bars
abbrev pub row_line : List Glyph → List ℕ
row_line row = 0x7C ∷ map (λ c. c.unit) row ++ 0x7C ∷ 0x0A ∷ []

-- a space, `f` or `b`, and the index, where a layer has one
unfoldable pub shade_text : ℕ → Shade → List ℕ
shade_text letter Plain = []
shade_text letter (Index n) = 0x20 ∷ letter ∷ decimal n

-- `@Y,X+N WORD` for a run, WORD in four hexadecimal digits, and its shades; nothing for plain 0007 or no cell
unfoldable pub run_line : ℕ → ℕ → ℕ → Attribute → List ℕ
run_line y x n attr =
    if same_attr attr (plain 7) || (n == 0) then []
    else 0x40 ∷ [] ++ decimal y ++ 0x2C ∷ [] ++ decimal x ++ 0x2B ∷ [] ++ decimal n ++ 0x20 ∷ []
    ++ hex_word attr.word ++ shade_text 0x66 attr.fore ++ shade_text 0x62 attr.back ++ 0x0A ∷ []

-- the runs of a row's cells, where n cells before them from column x on have this attribute
unfoldable pub run_lines : ℕ → ℕ → ℕ → Attribute → List Glyph → List ℕ
run_lines y x n attr [] = run_line y x n attr
run_lines y x n attr (c ∷ cs) = if same_attr c.attr attr then run_lines y x (n + 1) attr cs else run_line y x n attr ++ run_lines y (x + n) 1 c.attr cs

-- the lines of the first rows, and those of their runs
unfoldable pub rows_text : ℕ → List Glyph → ℕ → List ℕ
rows_text w cells h = flat_map (λ y. row_line (row_of w cells y)) (range_with_len 0 h)

unfoldable pub runs_text : ℕ → List Glyph → ℕ → List ℕ
runs_text w cells h = flat_map (λ y. run_lines y 0 0 (plain 7) (row_of w cells y)) (range_with_len 0 h)

unfoldable pub dump : Page → List ℕ
dump s = head_line s ++ rows_text s.w s.cells s.h ++ runs_text s.w s.cells s.h
