-- What the item tells that a unit completes, if it completes one.
use Rattle.std.specs.Prelude.{ℕ, Bool, false, List, Option, None, Some}
use Rattle.con_vtgram.specs.declared.item.Item.{Item}
use Rattle.con_vtgram.specs.Spoken.{spoken_by}
use Rattle.con_page.specs.Page.{Page}
use Rattle.con_screen.specs.Told.{Told, told_after, is_switch}

-- where a title's text is t
abbrev pub told_if : Page → Told → List ℕ → Option Item → Told
told_if p told t None = told
told_if p told t (Some item) = told_after p told (spoken_by t item)

abbrev pub switch_if : Option Item → Bool
switch_if None = false
switch_if (Some item) = is_switch item
