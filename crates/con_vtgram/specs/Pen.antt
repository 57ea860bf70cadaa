-- The pen, its attribute, and what a parameter of SGR makes of it: ECMA-48 8.3.117, and the Console API, "Console Virtual
-- Terminal Sequences", Text Formatting and Extended Colors.
use Rattle.std.specs.Prelude.{ℕ, nat_lt, ◌+◌, ◌-◌, ◌*◌, ◌/◌, ◌%◌, ◌<◌, true, false, ◌==◌, if◌then◌else◌}
use Rattle.std.specs.Int.{is_in_range}
use Rattle.con_units.specs.Attr.{Attribute, shaded}
use Rattle.con_units.specs.Shade.{near, IsNearest}
use Rattle.con_units.specs.declared.shade.Shade.TheVariants as shade
use Rattle.con_vtgram.specs.declared.pen.Layer.{Layer}
use Rattle.con_vtgram.specs.declared.pen.Layer.TheVariants.{Fore, Back}
use Rattle.con_vtgram.specs.declared.pen.Pen.{Pen}

-- the nibble of one of sixteen colours: bits 0 and 2, red and blue of a parameter, change places; green and the intensity stay
abbrev pub nibble : ℕ → ℕ
nibble n = n / 8 * 8 + n % 2 * 4 + n / 2 % 2 * 2 + n / 4 % 2

-- the bits of a pen, by the table of attribute words: a bold foreground is a bright one
abbrev pub word_of : Pen → ℕ
word_of p = (if p.bold then p.foreground % 8 + 8 else p.foreground) + 16 * p.background + (if p.negative then 0x4000 else 0) + (if p.underline then 0x8000 else 0)

-- what cells are written in: the word with the two shades
abbrev pub attr_of : Pen → Attribute
attr_of p = shaded (word_of p) p.fore p.back

abbrev pub starting_pen : Pen
starting_pen = record { foreground = 7; background = 0; fore = shade.Plain; back = shade.Plain; bold = false; underline = false; negative = false }

-- a layer in one of the sixteen colours, which makes its shade plain
abbrev pub in_colour : Pen → Layer → ℕ → Pen
in_colour p Fore n = record p { foreground = n; fore = shade.Plain }
in_colour p Back n = record p { background = n; back = shade.Plain }

-- a layer in the colour of an index of 16 to 255
abbrev pub in_shade : Pen → Layer → ℕ → Pen
in_shade p Fore n = record p { foreground = near n; fore = shade.Index n }
in_shade p Back n = record p { background = near n; back = shade.Index n }

-- a layer in colour n of the table of 256: the sixteen first, then the indices; nothing above 255
unfoldable pub indexed : Pen → Layer → ℕ → Pen
indexed p layer n = if nat_lt n 16 then in_colour p layer (nibble n) else if nat_lt n 256 then in_shade p layer n else p

-- a parameter that may name a colour
abbrev pub coloured : Pen → ℕ → Pen
coloured p n =
    if is_in_range 30 37 n then in_colour p Fore (nibble (n - 30))
    else if n == 39 then in_colour p Fore 7
    else if is_in_range 40 47 n then in_colour p Back (nibble (n - 40))
    else if n == 49 then in_colour p Back 0
    else if is_in_range 90 97 n then in_colour p Fore (nibble (n - 82))
    else if is_in_range 100 107 n then in_colour p Back (nibble (n - 92))
    else p

-- one parameter by itself
unfoldable pub pen_after : Pen → ℕ → Pen
pen_after p n =
    if n == 0 then starting_pen
    else if n == 1 then record p { bold = true }
    else if n == 22 then record p { bold = false }
    else if n == 4 then record p { underline = true }
    else if n == 24 then record p { underline = false }
    else if n == 7 then record p { negative = true }
    else if n == 27 then record p { negative = false }
    else coloured p n

-- both colours are one of sixteen, and the nearest to their shades
pub record IsPen (p : Pen) : Type 0 where
  pub foreground : p.foreground < 16
  pub background : p.background < 16
  pub fore : IsNearest p.fore p.foreground
  pub back : IsNearest p.back p.background
