-- The words of the code and of laws about Attr, which a reader need not believe.
use Rattle.std.specs.Prelude.{ℕ, ◌≡◌, ◌/◌, ◌%◌, bit_and}
use Rattle.con_units.specs.declared.shade.Shade.{Shade}
use Rattle.con_units.specs.Shade.{IsNearest}
use Rattle.con_units.specs.Words.Shade.{IsNearestOrBright}
use Rattle.con_units.specs.Attr.{Attribute}

-- a word's colours, 0 to 15
abbrev pub foreground : ℕ → ℕ
foreground word = word % 16

abbrev pub background : ℕ → ℕ
background word = word / 16 % 16

-- the word with the bits of 0xC0FF alone
abbrev pub masked : ℕ → ℕ
masked word = bit_and word 0xC0FF

-- the shades stand beside the word's colours
pub record IsShaded (word : ℕ) (fore back : Shade) : Type 0 where
  pub of_foreground : IsNearestOrBright fore (foreground word)
  pub of_background : IsNearest back (background word)

-- no bit outside 0xC0FF is set, and the shades stand beside the word's colours
pub record IsAttribute (a : Attribute) : Type 0 where
  pub word : masked a.word ≡ a.word
  pub shades : IsShaded a.word a.fore a.back
