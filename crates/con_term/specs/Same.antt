-- Attributes that are the same.
use Rattle.std.specs.Prelude.{Bool, true, false, ◌==◌, ◌&&◌}
use Rattle.con_units.specs.Attr.{Attribute}
use Rattle.con_units.specs.declared.shade.Shade.{Shade}
use Rattle.con_units.specs.declared.shade.Shade.TheVariants.{Plain, Index}

abbrev pub same_shade : Shade → Shade → Bool
same_shade Plain Plain = true
same_shade (Index m) (Index n) = m == n
same_shade _ _ = false

unfoldable pub same_attr : Attribute → Attribute → Bool
same_attr a b = (a.word == b.word) && same_shade a.fore b.fore && same_shade a.back b.back
