-- What the state of a splitter says of the text that is no item yet.
use Rattle.std.specs.Prelude.{◌≡◌, ◌≢◌, ℕ, Bool, true, false, ◌==◌, ◌&&◌, ◌||◌, if◌then◌else◌, nat_lt, min, List, [], ◌∷◌, ◌++◌, length}
use Rattle.std.specs.List.{list_all}
use Rattle.con_vtgram.specs.Numbers.{parameters}
use Rattle.con_vtgram.specs.Text.{is_intermediate, is_parameter_unit, is_digit_or_semicolon, is_question, after_question}
use Rattle.con_vtgram.specs.Text.{only_intermediate, sixteen, opens_string, stays, string_text}
use Rattle.con_vtgram.specs.State.{Parameters}
use Rattle.con_vtgram.specs.State.{State}
use Rattle.con_vtgram.specs.State.{Ground, Escape, Nested, Open, First, Second, Text, TextEscape}
use Rattle.con_vtgram.specs.declared.automaton.Name.{Name}
use Rattle.con_vtgram.specs.declared.automaton.Name.TheVariants as names

-- the numbers so far are those of this text of digits and semicolons
pub record Counts (p : Parameters) (body : List ℕ) : Type 0 where
  pub plain : p.plain ≡ list_all is_digit_or_semicolon body
  pub count : p.plain ≡ true → p.count ≡ min 17 (length (parameters body))
  pub values : p.plain ≡ true → p.values ≡ sixteen (parameters body)

-- the parameters so far are those of the first part of a control sequence
pub record Reads (p : Parameters) (first : List ℕ) : Type 0 where
  pub units : list_all is_parameter_unit first ≡ true
  pub private : p.private ≡ is_question first
  pub counts : Counts p (after_question first)

-- the intermediates so far
pub record Follows (single : Bool) (intermediate : ℕ) (intermediates : List ℕ) : Type 0 where
  pub units : list_all is_intermediate intermediates ≡ true
  pub some : intermediates ≢ []
  pub few : single ≡ nat_lt (length intermediates) 2
  pub first : intermediate ≡ only_intermediate intermediates

abbrev pub is_paren : List ℕ → Bool
is_paren [] = false
is_paren (u ∷ []) = u == 0x28
is_paren (u ∷ v ∷ us) = false

-- what a string has so far of the front of a title
abbrev pub name_of : ℕ → List ℕ → Name
name_of opener [] = if opener == 0x5D then names.Start else names.Other
name_of opener (a ∷ []) = if (opener == 0x5D) && ((a == 0x30) || (a == 0x32)) then names.Digit else names.Other
name_of opener (a ∷ b ∷ us) = if (opener == 0x5D) && (((a == 0x30) || (a == 0x32)) && (b == 0x3B)) then names.Title else names.Other

-- the units so far of a string
pub record Inside (name : Name) (opener : ℕ) (body : List ℕ) : Type 0 where
  pub opens : opens_string opener ≡ true
  pub units : list_all stays body ≡ true
  pub is_named : name ≡ name_of opener (string_text body)

-- the units are what the state was left by
abbrev pub Holds : State → List ℕ → Type 0
Holds Ground tail = tail ≡ []
Holds Escape tail = tail ≡ 0x1B ∷ []
Holds (Nested paren) tail = (is : List ℕ) × (tail ≡ 0x1B ∷ is) × (list_all is_intermediate is ≡ true) × (is ≢ []) × (paren ≡ is_paren is)
Holds Open tail = tail ≡ 0x1B ∷ 0x5B ∷ []
Holds (First p single i) tail = (first : List ℕ) × (tail ≡ 0x1B ∷ 0x5B ∷ first) × (first ≢ []) × Reads p first × (single ≡ true) × (i ≡ 0)
Holds (Second p single i) tail = (first : List ℕ) × (is : List ℕ) × (tail ≡ 0x1B ∷ 0x5B ∷ (first ++ is)) × Reads p first × Follows single i is
Holds (Text name) tail = (opener : ℕ) × (body : List ℕ) × (tail ≡ 0x1B ∷ opener ∷ body) × Inside name opener body
Holds (TextEscape name) tail = (opener : ℕ) × (body : List ℕ) × (tail ≡ 0x1B ∷ opener ∷ (body ++ 0x1B ∷ [])) × Inside name opener body
