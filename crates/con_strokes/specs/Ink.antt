-- The pen that a cell is printed with.
use Rattle.std.specs.Prelude.{ℕ, ◌/◌, ◌%◌, Bool, false, nat_le, ◌==◌, not}
use Rattle.con_units.specs.Attr.{Attribute}
use Rattle.con_units.specs.Words.Attr.{foreground, background}
use Rattle.con_units.specs.Shade.{near}
use Rattle.con_units.specs.declared.shade.Shade.{Shade}
use Rattle.con_units.specs.declared.shade.Shade.TheVariants.{Plain, Index}
use Rattle.con_vtgram.specs.declared.pen.Pen.{Pen}

-- a pen's foreground for a word's: beside an index the one that stands for it
abbrev pub fore_for : Shade → ℕ → ℕ
fore_for Plain colour = colour
fore_for (Index n) colour = near n

-- whether the pen is bold: where a word's foreground beside an index is not the one that stands for it, but that one with its intensity set
abbrev pub bold_for : Shade → ℕ → Bool
bold_for Plain colour = false
bold_for (Index n) colour = not (colour == near n)

-- the pen that writes an attribute
abbrev pub pen_for : Attribute → Pen
pen_for a = record {
  foreground = fore_for a.fore (foreground a.word);
  background = background a.word;
  fore = a.fore;
  back = a.back;
  bold = bold_for a.fore (foreground a.word);
  underline = nat_le 0x8000 a.word;
  negative = a.word / 0x4000 % 2 == 1;
}
