-- Items with the text of a title.
use Rattle.std.specs.Prelude.{ℕ, List, [], take, drop, map, Option, None, Some}
use Rattle.con_units.specs.Split.{Grammar}
use Rattle.con_vtgram.specs.Text.{is_front, whole, kept, front_while, stays, string_text}
use Rattle.con_vtgram.specs.declared.item.Item.{Item}
use Rattle.con_vtgram.specs.declared.item.Item.TheVariants as items

-- An item. A title has its text, and every other item none.
pub record Spoken : Type 0 where
  pub item : Item
  pub title : List ℕ

abbrev pub title_if : Item → List ℕ → List ℕ
title_if items.Title t = t
title_if (items.Print u) t = []
title_if (items.Control u) t = []
title_if (items.Escape u) t = []
title_if (items.Charset u) t = []
title_if (items.Csi c) t = []

-- the item, whose text is t where it is a title
abbrev pub spoken_by : List ℕ → Item → Spoken
spoken_by t item = record { item = item; title = title_if item t }

-- the text of a title: the first 255 units behind its number and semicolon
abbrev pub text_of : List ℕ → List ℕ
text_of body = take 255 (drop 2 (string_text body))

-- the text of the title that these units of a whole sequence are
abbrev pub title_in : List ℕ → List ℕ
title_in units = text_of (front_while stays (drop 2 units))

abbrev pub voiced : List ℕ → Option (List Item) → Option (List Spoken)
voiced units None = None
voiced units (Some is) = Some (map (spoken_by (title_in units)) is)

-- the grammar of texts, where titles have their text
abbrev pub spoken : Grammar Spoken
spoken = record { is_front = is_front; whole = λ units. voiced units (whole units); broken = λ _. []; kept = kept }
