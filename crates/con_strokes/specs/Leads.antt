-- What bytes that were appended do to a terminal that is between sequences.
use Rattle.std.specs.Prelude.{◌≡◌, ℕ, List, ◌++◌, fold}
use Rattle.con_vtgram.specs.declared.item.Item.{Item}
use Rattle.con_term.specs.Page.{Page}
use Rattle.con_term.specs.Effect.{effect}
use Rattle.con_term.specs.Cost.{costs}
use Rattle.con_strokes.specs.Spells.{Spells}

-- the bytes behind the old ones lead from one page to the other, and print or erase n cells
pub record Leads (old new : List ℕ) (s t : Page) (n : ℕ) : Type 0 where
  pub bytes : List ℕ
  pub items : List Item
  pub appended : new ≡ old ++ bytes
  pub spelled : Spells bytes items
  pub page : fold effect s items ≡ t
  pub count : costs s items ≡ n
