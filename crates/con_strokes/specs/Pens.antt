-- The numbers of CSI m that change one pen into another.
use Rattle.std.specs.Prelude.{ℕ, ◌+◌, ◌-◌, ◌/◌, ◌%◌, ◌≡◌, Bool, true, false, nat_lt, nat_le, ◌==◌, ◌&&◌, ◌||◌, List, [], ◌∷◌, ◌++◌, if◌then◌else◌}
use Rattle.con_units.specs.Attr.{Attribute, plain}
use Rattle.con_units.specs.Words.Attr.{foreground, background}
use Rattle.con_units.specs.Words.Attr as attrs
use Rattle.con_units.specs.declared.shade.Shade.{Shade}
use Rattle.con_units.specs.declared.shade.Shade.TheVariants.{Plain, Index}
use Rattle.con_vtgram.specs.Pen.{nibble}
use Rattle.con_strokes.specs.Bytes.{part, parts}
use Rattle.con_strokes.specs.Ink.{bold_for}
use Rattle.con_strokes.specs.declared.pen.Changes.{Changes}

-- the number of CSI m for one of sixteen colours
unfoldable pub colour_number : ℕ → ℕ → ℕ → ℕ
colour_number dark bright c = if nat_lt c 8 then dark + nibble c else bright + nibble (c - 8)

abbrev pub is_plain : Shade → Bool
is_plain Plain = true
is_plain (Index n) = false

-- whether both colours are those that a terminal starts with
abbrev pub is_default : Attribute → Bool
is_default a = (a.word % 256 == 7) && is_plain a.fore && is_plain a.back

abbrev pub is_bold : Attribute → Bool
is_bold a = bold_for a.fore (foreground a.word)

abbrev pub bold_number : Attribute → ℕ
bold_number a = if is_bold a then 1 else 22

abbrev pub underline_number : Attribute → ℕ
underline_number a = if nat_le 0x8000 a.word then 4 else 24

abbrev pub negative_number : Attribute → ℕ
negative_number a = if a.word / 0x4000 % 2 == 1 then 7 else 27

unfoldable pub foreground_number : Attribute → ℕ
foreground_number a = if is_default a then 39 else colour_number 30 90 (foreground a.word)

unfoldable pub background_number : Attribute → ℕ
background_number a = if is_default a then 49 else colour_number 40 100 (background a.word)

-- a colour's own number, or the three of an index
abbrev pub colour_numbers : ℕ → Shade → ℕ → List ℕ
colour_numbers layer Plain n = n ∷ []
colour_numbers layer (Index i) n = layer ∷ 5 ∷ i ∷ []

abbrev pub foreground_numbers : Attribute → List ℕ
foreground_numbers a = colour_numbers 38 a.fore (foreground_number a)

abbrev pub background_numbers : Attribute → List ℕ
background_numbers a = colour_numbers 48 a.back (background_number a)

-- the numbers that these changes are sent by
unfoldable pub numbers_of : Changes → Attribute → List ℕ
numbers_of c a = part c.reset 0 ++ part c.bold (bold_number a) ++ part c.underline (underline_number a) ++ part c.negative (negative_number a)
    ++ parts c.foreground (foreground_numbers a) ++ parts c.background (background_numbers a)

-- some part is changed
abbrev pub is_some : Changes → Bool
is_some c = c.reset || c.bold || c.underline || c.negative || c.foreground || c.background

-- the changes make the pen of one attribute that of the other: what is not changed is the same, and there is a change
pub record IsEnough (c : Changes) (before a : Attribute) : Type 0 where
  pub from : Attribute
  pub starts : c.reset ≡ true → from ≡ plain 7
  pub goes_on : c.reset ≡ false → from ≡ before
  pub bold : c.bold ≡ false → is_bold from ≡ is_bold a
  pub underline : c.underline ≡ false → nat_le 0x8000 from.word ≡ nat_le 0x8000 a.word
  pub negative : c.negative ≡ false → (from.word / 0x4000 % 2 == 1) ≡ (a.word / 0x4000 % 2 == 1)
  pub foreground : c.foreground ≡ false → (attrs.foreground from.word ≡ attrs.foreground a.word) × (from.fore ≡ a.fore)
  pub background : c.background ≡ false → (attrs.background from.word ≡ attrs.background a.word) × (from.back ≡ a.back)
  pub some : is_some c ≡ true
