-- What the item does that a unit completes, if it completes one.
use Rattle.std.specs.Prelude.{Option, None, Some}
use Rattle.con_vtgram.specs.declared.item.Item.{Item}
use Rattle.con_page.specs.Page.{Page}
use Rattle.con_page.specs.Effect.{effect}

abbrev pub effect_if : Page → Option Item → Page
effect_if p None = p
effect_if p (Some item) = effect p item
