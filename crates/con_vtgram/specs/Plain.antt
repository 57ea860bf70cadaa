-- Printable ASCII.
use Rattle.std.specs.Prelude.{◌≡◌, ℕ, true, List, [], map}
use Rattle.std.specs.List.{list_all}
use Rattle.con_units.specs.Plain.{is_plain}
use Rattle.con_units.specs.Split.{split}
use Rattle.con_vtgram.specs.Text.{grammar}
use Rattle.con_vtgram.specs.Spoken.{Spoken, spoken}
use Rattle.con_vtgram.specs.declared.item.Item.TheVariants as items

abbrev pub spoken_print : ℕ → Spoken
spoken_print u = record { item = items.Print u; title = [] }

-- each of the units is an item by itself
pub record ArePrints (units : List ℕ) : Type 0 where
  pub items : split grammar units ≡ record { items = map (λ u. items.Print u) units; tail = [] }
  pub spoken : split spoken units ≡ record { items = map spoken_print units; tail = [] }

-- printable ASCII is printed, unit by unit
abbrev pub PlainIsPrinted : Type 0
PlainIsPrinted = (units : List ℕ) → list_all is_plain units ≡ true → ArePrints units
