-- The words of the code and of laws about Written, which a reader need not believe.
use Rattle.std.specs.Prelude.{ℕ, Bool, List, []}
use Rattle.std.specs.List.{list_any}
use Rattle.con_vtgram.specs.Spoken.{Spoken, spoken_by}
use Rattle.con_screen.specs.Parts.{item_alone}
use Rattle.con_screen.specs.Told.{is_switch}
use Rattle.con_page.specs.declared.mode.Mode.{Mode}

abbrev pub spoken_alone : Mode → ℕ → Spoken
spoken_alone m u = spoken_by [] (item_alone m u)

abbrev pub any_switch : List Spoken → Bool
any_switch items = list_any (λ i. is_switch i.item) items
