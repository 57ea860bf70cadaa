-- Which lines are as a wanted one. A text is its bytes; what the signs below stand for is ASCII, so no other character has a byte of theirs.
use Rattle.std.specs.Prelude.{ℕ, ◌≡◌, ◌+◌, ◌-◌, ◌≤◌, MatchBool, string_bytes, Bool, true, false, ◌&&◌, ◌||◌, ◌==◌, nat_lt, nat_eq, List, [], ◌∷◌, length, take, drop, if◌then◌else◌}
use Rattle.std.specs.Char.{is_ascii_digit}
use Rattle.std.specs.List.{prefix_len, list_all}
use Rattle.std.specs.Cmp.Lexicographic.{pointwise}
use Rattle.con_units.specs.Units.{is_space}
use Rattle.case_lines.specs.declared.wanted.Way.{Way}
use Rattle.case_lines.specs.declared.wanted.Way.TheVariants as way
use Rattle.case_lines.specs.declared.wanted.Wanted.{Wanted}

-- ---- texts

abbrev pub is_nothing : List ℕ → Bool
is_nothing [] = true
is_nothing (c ∷ cs) = false

-- a text begins with this byte
abbrev pub begins : ℕ → List ℕ → Bool
begins c [] = false
begins c (d ∷ ds) = c == d

-- its last byte is this one
abbrev pub ends : ℕ → List ℕ → Bool
ends c text = pointwise nat_eq (drop (length text - 1) text) (c ∷ [])

-- a text without its last byte
abbrev pub front : List ℕ → List ℕ
front text = take (length text - 1) text

-- a text begins with another
abbrev pub starts : List ℕ → List ℕ → Bool
starts other text = pointwise nat_eq (take (length other) text) other

-- spaces, and behind them this byte, the last one
abbrev pub is_blank_up_to : ℕ → List ℕ → Bool
is_blank_up_to c text = ends c text && list_all is_space (front text)

-- how long the number is that a text begins with: all digits up to the first other byte; 0 where there is none
abbrev pub number_len : List ℕ → ℕ
number_len text = prefix_len is_ascii_digit text

-- ---- lines

-- A wanted line of a report, where the byte 0 stands for any number, whole, and any other byte for itself.
abbrev pub is_told : List ℕ → List ℕ → Bool
is_told [] line = is_nothing line
is_told (c ∷ cs) line =
    if c == 0 then nat_lt 0 (number_len line) && is_told cs (drop (number_len line) line)
    else begins c line && is_told cs (drop 1 line)

-- A wanted line of a dump. Where `>` (62) ends it, the line begins with what stands before that, and goes on with spaces up to a `|` (124),
-- with which it ends; any other line stands for itself.
abbrev pub is_shown : List ℕ → List ℕ → Bool
is_shown wanted line =
    if ends 62 wanted then starts (front wanted) line && is_blank_up_to 124 (drop (length (front wanted)) line)
    else pointwise nat_eq wanted line

-- a row of spaces, between `|` and either `|` or, in a wanted dump, `>`
abbrev pub is_blank : List ℕ → Bool
is_blank [] = false
is_blank (c ∷ cs) = (c == 124) && (is_blank_up_to 124 cs || is_blank_up_to 62 cs)

abbrev pub is_line : Way → List ℕ → List ℕ → Bool
is_line way.Report wanted line = is_told wanted line
is_line way.Dump wanted line = is_shown wanted line
is_line way.Picture wanted line = pointwise nat_eq wanted line

-- ---- lists of lines

-- the first of some lines is the wanted one
abbrev pub first_is : Way → List ℕ → List (List ℕ) → Bool
first_is w wanted [] = false
first_is w wanted (line ∷ lines) = is_line w wanted line

-- lines begin with those that are wanted, one behind another
abbrev pub begins_with : Way → List (List ℕ) → List (List ℕ) → Bool
begins_with w [] lines = true
begins_with w (one ∷ more) lines = first_is w one lines && begins_with w more (drop 1 lines)

-- how many wanted lines, from the first one on, they begin with
abbrev pub same_len : Way → List (List ℕ) → List (List ℕ) → ℕ
same_len w [] lines = 0
same_len w (one ∷ more) lines = if first_is w one lines then 1 + same_len w more (drop 1 lines) else 0

-- ---- gaps

-- a wanted line is `...`, which stands for any number of lines
unfoldable pub is_any : Wanted → Bool
is_any one = pointwise nat_eq one.line.text.now (46 ∷ 46 ∷ 46 ∷ [])

-- how many wanted lines stand before the first `...`; all, where there is none
abbrev pub block_len : List Wanted → ℕ
block_len [] = 0
block_len (one ∷ more) = if is_any one then 0 else 1 + block_len more

-- wanted lines from the first `...` on
abbrev pub from_gap : List Wanted → List Wanted
from_gap wanted = drop (block_len wanted) wanted

-- Of lines it holds behind some of them, or behind none.
abbrev pub BehindSome : (List (List ℕ) → Type 0) → List (List ℕ) → Type 0
BehindSome P lines = (k : ℕ) × (k ≤ length lines) × P (drop k lines)

-- Lines are as wanted. Where none is wanted, there is none. A wanted line `...` stands for any number of lines, none too, and any other one for
-- the first line; what stands behind them is as wanted by the others.
abbrev pub IsAsWanted : Way → List Wanted → List (List ℕ) → Type 0
IsAsWanted w [] lines = length lines ≡ 0
IsAsWanted w (one ∷ more) lines = MatchBool (is_any one)
    (BehindSome (IsAsWanted w more) lines)
    ((first_is w (string_bytes one.text) lines ≡ true) × IsAsWanted w more (drop 1 lines))
