-- What stands in the unfinished text of a splitter.
use Rattle.std.specs.Prelude.{ℕ, Bool, true, false, List, Option, None, Some}
use Rattle.con_vtgram.specs.declared.item.Csi.{Csi}
use Rattle.con_vtgram.specs.declared.item.Item.{Item}
use Rattle.con_vtgram.specs.declared.item.Item.TheVariants as items
use Rattle.con_vtgram.specs.declared.found.Found.{Found}
use Rattle.con_vtgram.specs.declared.found.Found.TheVariants as founds
use Rattle.con_vtgram.specs.declared.automaton.Name.{Name}
use Rattle.con_vtgram.specs.declared.automaton.Phase.{Phase}
use Rattle.con_vtgram.specs.declared.automaton.Phase.TheVariants as phases
use Rattle.con_vtgram.specs.declared.automaton.Sequence.{Sequence}

-- the parameters of a control sequence so far
pub record Parameters : Type 0 where
  pub private : Bool
  pub plain : Bool
  pub count : ℕ
  pub values : List ℕ

-- nothing, or the front of a sequence
pub data State : Type 0 where
  Ground : State
  Escape : State
  Nested : (paren : Bool) → State
  Open : State
  First : (p : Parameters) (single : Bool) (intermediate : ℕ) → State
  Second : (p : Parameters) (single : Bool) (intermediate : ℕ) → State
  Text : (name : Name) → State
  TextEscape : (name : Name) → State

abbrev pub parameters_of : Sequence → Parameters
parameters_of s = record { private = s.csi.private; plain = s.plain; count = s.csi.count; values = s.csi.params }

abbrev pub state_of : Phase → Sequence → State
state_of phases.Ground s = Ground
state_of phases.Escape s = Escape
state_of phases.Paren s = Nested true
state_of phases.Nested s = Nested false
state_of phases.Open s = Open
state_of phases.First s = First (parameters_of s) s.single s.csi.inter
state_of phases.Second s = Second (parameters_of s) s.single s.csi.inter
state_of (phases.Text name) s = Text name
state_of (phases.TextEscape name) s = TextEscape name

-- the item of a kind that a unit completes, with the control sequence
abbrev pub item_of : Found → ℕ → Csi → Option Item
item_of founds.Nothing u c = None
item_of founds.Print u c = Some (items.Print u)
item_of founds.Control u c = Some (items.Control u)
item_of founds.Escape u c = Some (items.Escape u)
item_of founds.Charset u c = Some (items.Charset u)
item_of founds.Sequence u c = Some (items.Csi c)
item_of founds.Title u c = Some items.Title
