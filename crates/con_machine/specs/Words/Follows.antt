-- The words of the code and of laws about Follows, which a reader need not believe.
use Rattle.std.specs.Prelude.{Bool, Option, List, [], drop}
use Rattle.std.specs.Option.{option_map_or}
use Rattle.con_units.specs.declared.view.Frame.{Frame}
use Rattle.con_events.specs.declared.entry.Entry.{Entry}
use Rattle.con_events.specs.declared.script.Script.{Script}
use Rattle.con_events.specs.declared.script.Step.{Step}
use Rattle.con_machine.specs.Follows.{asks_by}

abbrev pub steps_in : Option Script → List Step
steps_in script = option_map_or (λ x. x.steps) script []

abbrev pub behind : List Frame → List Frame
behind fs = drop 1 fs

abbrev pub asks : Bool → Entry → Bool
asks out x = asks_by out x.event
