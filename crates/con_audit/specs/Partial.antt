-- A partial terminal: a terminal, of which what is known counts, and what is known of it.
use Rattle.std.specs.Prelude.{ℕ, ◌≡◌, true, false, List, []}
use Rattle.std.specs.List.{list_all}
use Rattle.con_units.specs.declared.view.View.{View}
use Rattle.con_term.specs.Page.{blank_page}
use Rattle.con_term.specs.Play.{sequences, play}
use Rattle.con_term.specs.Terminal.{Terminal, Shows}
use Rattle.con_audit.specs.Known.{Known, no_marks, is_sure, all_learned}

pub record Partial : Type 0 where
  pub terminal : Terminal
  pub known : Known

-- nothing is known of it but its size, and that it is between sequences
abbrev pub unknown : ℕ → ℕ → Partial
unknown w h = record {
  terminal = record { page = blank_page w h; bytes = []; units = [] };
  known = record { marks = no_marks (blank_page w h); pen = false; visible = false; cursor = false };
}

-- after bytes, by the items that they complete
unfoldable pub played : Partial → List ℕ → Partial
played p bytes = let t = p.terminal in record { terminal = play t bytes; known = all_learned t.page p.known (sequences t.bytes t.units bytes).items }

-- it is known that the terminal shows the view: all that a view tells is known, and it is so
pub record IsKnown (p : Partial) (v : View) : Type 0 where
  pub cells : list_all is_sure p.known.marks ≡ true
  pub visible : p.known.visible ≡ true
  pub cursor : v.visible ≡ true → p.known.cursor ≡ true
  pub shows : Shows p.terminal v
