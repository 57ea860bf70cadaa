-- Lines that are edited, worked out by hand from the rule of echoes.
use Rattle.std.specs.Prelude.{ℕ, pos, negsuc, List, [], ◌∷◌, ◌++◌, map, replicate, codes}
use Rattle.con_page.specs.Echo.{ended}
use Rattle.con_page.specs.Setters.{cursor_set, pen_of_word}
use Rattle.con_page.specs.declared.origin.Origin.{Origin}
use Rattle.con_screen.specs.Screen.{Screen}
use Rattle.con_screen.specs.Echo.{Echoed}
use Rattle.con_screen.specs.Words.Echo.{part_echoed}
use Rattle.tests_screens.specs.Screens.{Seen, seen, showing, new_screen, with_text, escape, letters, erased, at}

-- ---- a line changes

-- where a line begins, its offset, its units from there on, the blanks behind them, and its caret; what is shown then, and where the line begins
pub record Change : Type 0 where
  pub origin : Origin
  pub offset : ℕ
  pub units : List ℕ
  pub blanks : ℕ
  pub caret : ℕ
  pub shown : Seen
  pub moved : Origin

abbrev pub change : Origin → ℕ → List ℕ → ℕ → ℕ → Seen → Origin → Change
change origin offset units blanks caret shown moved =
    record { origin = origin; offset = offset; units = units; blanks = blanks; caret = caret; shown = shown; moved = moved }

pub record Left : Type 0 where
  pub shown : Seen
  pub origin : Origin

abbrev pub left_by : Screen → Change → Left
left_by s c = let e : Echoed = part_echoed s c.origin c.offset c.units c.blanks c.caret in record { shown = seen e.screen; origin = e.origin }

abbrev pub to_be_left : Change → Left
to_be_left c = record { shown = c.shown; origin = c.moved }

-- in five columns
abbrev pub thirteen : Screen
thirteen = erased 7 (codes "ABCDEFGHIJKLM")

abbrev pub changes : List Change
changes =
    change (at 3 (pos 0)) 0 (codes "abcdef") 0 6 (showing (codes "ABCabcdefJKLM  ") 0 0 4 1) (at 3 (pos 0))
    -- up to the last cell, and one, two and four rows too few
    ∷ change (at 3 (pos 2)) 0 (codes "a") 0 1 (showing (codes "ABCDEFGHIJKLMa ") 0 0 4 2) (at 3 (pos 2))
    ∷ change (at 3 (pos 2)) 1 (codes "b") 0 2 (showing (codes "FGHIJKLM b     ") 0 0 0 2) (at 3 (pos 1))
    ∷ change (at 3 (pos 2)) 0 (codes "abcdefg") 0 7 (showing (codes "KLMabcdefg     ") 0 0 0 2) (at 3 (pos 0))
    ∷ change (at 3 (pos 2)) 0 (codes "abcdefghijklmnopq") 0 17 (showing (codes "hijklmnopq     ") 0 0 0 2) (at 3 (negsuc 1))
    -- the origin lies above the first row
    ∷ change (at 3 (negsuc 0)) 0 (codes "abcdefg") 0 7 (showing (codes "cdefgFGHIJKLM  ") 0 0 0 1) (at 3 (negsuc 0))
    ∷ change (at 3 (negsuc 0)) 1 (codes "XY") 0 1 (showing (codes "YBCDEFGHIJKLM  ") 0 0 4 0) (at 3 (negsuc 0))
    ∷ change (at 0 (negsuc 399999)) 0 (codes "abc") 3 3 (showing (codes "ABCDEFGHIJKLM  ") 0 0 3 0) (at 0 (negsuc 399999))
    -- the caret alone moves in a line of two rows: cells that another writer overwrote stay
    ∷ change (at 3 (pos 0)) 7 [] 0 4 (showing (codes "ABCDEFGHIJKLM  ") 0 0 2 1) (at 3 (pos 0))
    ∷ change (at 0 (pos 0)) 3 (codes "d") 0 2 (showing (codes "ABCdEFGHIJKLM  ") 0 0 2 0) (at 0 (pos 0))
    -- the line becomes shorter
    ∷ change (at 1 (pos 0)) 2 [] 3 2 (showing (codes "ABC   GHIJKLM  ") 0 0 3 0) (at 1 (pos 0))
    ∷ change (at 1 (pos 0)) 1 (codes "xy") 1 1 (showing (codes "ABxy FGHIJKLM  ") 0 0 2 0) (at 1 (pos 0))
    ∷ change (at 4 (negsuc 0)) 0 [] 3 0 (showing (codes "  CDEFGHIJKLM  ") 0 0 4 0) (at 4 (negsuc 0))
    -- the buffer became smaller: the origin, the old text and a caret past its end
    ∷ change (at 9 (pos 9)) 0 (codes "a") 0 1 (showing (codes "FGHIJKLM a     ") 0 0 0 2) (at 4 (pos 1))
    ∷ change (at 0 (pos 2)) 1 [] 50 1 (showing (codes "ABCDEFGHIJK    ") 0 0 1 2) (at 0 (pos 2))
    ∷ change (at 0 (pos 0)) 0 [] 0 101 (showing (codes "ABCDEFGHIJKLM  ") 0 0 1 2) (at 0 (pos 0))
    ∷ []

-- ---- a line ends

-- where a line begins, its length, and what is shown behind its end
pub record End : Type 0 where
  pub origin : Origin
  pub length : ℕ
  pub shown : Seen

abbrev pub end : Origin → ℕ → Seen → End
end origin length shown = record { origin = origin; length = length; shown = shown }

abbrev pub with_end : Screen → Origin → ℕ → Screen
with_end s o n = record s { page = ended s.page o n }

abbrev pub seen_behind : Screen → End → Seen
seen_behind s e = seen (with_end s e.origin e.length)

-- on the same cells, with margins in the first two rows
abbrev pub within_margins : Screen
within_margins = erased 15 (codes "ABCDEFGHIJKLM" ++ escape (codes "[1;2r"))

abbrev pub ends : List End
ends =
    end (at 3 (pos 0)) 1 (showing (codes "ABCDEFGHIJKLM  ") 0 0 0 1)
    -- in the last row of the margins, and in the last row of the buffer
    ∷ end (at 3 (pos 0)) 2 (showing (codes "ABCDEFGHIJKLM  ") 0 0 0 2)
    ∷ end (at 3 (pos 0)) 7 (showing (codes "FGHIJKLM       ") 0 0 0 2)
    -- the place is past the end of a buffer that became smaller, or above the first row
    ∷ end (at 3 (pos 0)) 99 (showing (codes "FGHIJKLM       ") 0 0 0 2)
    ∷ end (at 3 (negsuc 3)) 2 (showing (codes "ABCDEFGHIJKLM  ") 0 0 0 1)
    ∷ []

-- ---- lines from their first key to their end

abbrev pub echoed_on : Echoed → ℕ → List ℕ → ℕ → Echoed
echoed_on e offset units caret = part_echoed e.screen e.origin offset units 0 caret

-- a line of four keys in the last row
abbrev pub four_keys : Echoed
four_keys = let s = new_screen 10 2 10 2 in
    echoed_on (echoed_on (echoed_on (echoed_on (record { screen = record s { page = cursor_set s.page 8 1 }; origin = at 8 (pos 1) })
    0 (codes "a") 1) 1 (codes "b") 2) 2 (codes "c") 3) 3 (codes "d") 4

-- five letters leave a wrap due; an echo of no unit behind them, and a letter
abbrev pub printed_behind : Screen
printed_behind = with_text (part_echoed (erased 15 (codes "ABCDE")) (at 4 (pos 0)) 0 [] 0 0).screen (codes "x")

-- a letter in a buffer that is larger than its window
abbrev pub followed : Screen
followed = (part_echoed (new_screen 6 4 3 2) (at 4 (pos 2)) 0 (codes "a") 0 1).screen

-- a line of half of a character and a letter, in the word of the pen
abbrev pub worded : Screen
worded = (part_echoed (let s = letters 7 in record s { page = record s.page { pen = pen_of_word 0x001E } }) (at 3 (pos 2)) 0 (0xD83D ∷ 0x61 ∷ []) 0 2).screen

abbrev pub words : Screen → List ℕ
words s = map (λ c. c.attr.word) s.page.grid.cells
