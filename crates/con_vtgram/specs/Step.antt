-- What one unit does to the state.
use Rattle.std.specs.Prelude.{◌≡◌, ℕ, List, Option, option_to_list}
use Rattle.con_units.specs.Split.{begun, next}
use Rattle.con_vtgram.specs.Text.{grammar}
use Rattle.con_vtgram.specs.Reading.{Holds}
use Rattle.con_vtgram.specs.declared.item.Item.{Item}
use Rattle.con_vtgram.specs.State.{State}

-- the unit begins a sequence or is an item
pub record Begins (after : State) (item : Option Item) (u : ℕ) : Type 0 where
  pub items : option_to_list item ≡ (begun grammar u).items
  pub holds : Holds after (begun grammar u).tail

-- the unit comes after this unfinished text
pub record Gives (after : State) (item : Option Item) (tail : List ℕ) (u : ℕ) : Type 0 where
  pub items : option_to_list item ≡ (next grammar tail u).items
  pub holds : Holds after (next grammar tail u).tail
