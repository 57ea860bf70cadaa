-- What a changed line does to the screen that it is typed on.
use Rattle.std.specs.Prelude.{ℕ, List, length}
use Rattle.con_page.specs.Echo.{origin_after, texts_rule, changed}
use Rattle.con_page.specs.declared.origin.Origin.{Origin}
use Rattle.con_screen.specs.Screen.{Screen}

pub record Echoed : Type 0 where
  pub screen : Screen
  pub origin : Origin

-- a line whose text was `old` and is `new`
abbrev pub echoed : Screen → Origin → List ℕ → List ℕ → ℕ → Echoed
echoed s o old new caret = record {
  screen = record s { page = changed s.page o (length new) (texts_rule s.page old new) caret };
  origin = origin_after s.page o (length new);
}
