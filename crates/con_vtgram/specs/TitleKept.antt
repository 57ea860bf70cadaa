-- What a splitter keeps of a title.
use Rattle.std.specs.Prelude.{ℕ, ◌≡◌, Bool, true, false, List, [], ◌∷◌, ◌++◌, drop, Option, None, Some}
use Rattle.con_units.specs.Split.{next}
use Rattle.con_vtgram.specs.Text.{grammar}
use Rattle.con_vtgram.specs.Spoken.{text_of, title_in}
use Rattle.con_vtgram.specs.declared.item.Item.{Item}
use Rattle.con_vtgram.specs.declared.item.Item.TheVariants as items
use Rattle.con_vtgram.specs.State.{State}
use Rattle.con_vtgram.specs.State.{Ground, Escape, Nested, Open, First, Second, Text, TextEscape}
use Rattle.con_vtgram.specs.declared.automaton.Name.{Name}
use Rattle.con_vtgram.specs.declared.automaton.Name.TheVariants as names

-- the text of the title that these unfinished units begin
abbrev pub pending : List ℕ → List ℕ
pending tail = text_of (drop 2 tail)

abbrev pub is_title_name : Name → Bool
is_title_name names.Title = true
is_title_name names.Start = false
is_title_name names.Digit = false
is_title_name names.Other = false

abbrev pub is_title_phase : State → Bool
is_title_phase (Text name) = is_title_name name
is_title_phase (TextEscape name) = is_title_name name
is_title_phase Ground = false
is_title_phase Escape = false
is_title_phase (Nested paren) = false
is_title_phase Open = false
is_title_phase (First p single i) = false
is_title_phase (Second p single i) = false

abbrev pub is_title_item : Option Item → Bool
is_title_item None = false
is_title_item (Some items.Title) = true
is_title_item (Some (items.Print u)) = false
is_title_item (Some (items.Control u)) = false
is_title_item (Some (items.Escape u)) = false
is_title_item (Some (items.Charset u)) = false
is_title_item (Some (items.Csi c)) = false

-- neither in a title nor one
pub record IsQuiet (after : State) (item : Option Item) : Type 0 where
  pub outside : is_title_phase after ≡ false
  pub none : is_title_item item ≡ false

-- the text so far of a title is kept
abbrev pub KeepsTitle : State → List ℕ → List ℕ → Type 0
KeepsTitle phase tail title = is_title_phase phase ≡ true → title ≡ pending tail

-- what is kept once a unit was read
pub record Titles (after : State) (item : Option Item) (tail : List ℕ) (u : ℕ) (title : List ℕ) : Type 0 where
  pub keeps : KeepsTitle after (next grammar tail u).tail title
  pub says : is_title_item item ≡ true → title ≡ title_in (tail ++ u ∷ [])
