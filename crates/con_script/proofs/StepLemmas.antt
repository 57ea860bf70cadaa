-- What a call's row reads as a step's.
use Rattle.std.proofs.Common.{◌≡◌, List, refl, Option, Some, None, ap, ◌∙◌}
use Rattle.std.specs.Prelude.{option_map}
use Rattle.con_events.specs.declared.call.Call.{Call}
use Rattle.con_events.specs.declared.script.Step.{Step}
use Rattle.con_events.specs.declared.script.Step.TheVariants as steps
use Rattle.con_events.specs.Words.Table.{Row}
use Rattle.con_events.specs.Reading.{Item, row_from, args_from}
use Rattle.con_document.specs.Steps.{as_step}

mapped : {A B C : Type 0} (f : A → B) (g : B → C) (o : Option A) → option_map (λ a. g (f a)) o ≡ option_map g (option_map f o)
mapped f g None = refl
mapped f g (Some a) = refl

abbrev step_of : Call × List Item → Step × List Item
step_of p = (steps.Call p.0, p.1)

row_is : (r : Option (Row Call)) (ds : List Item) → row_from (as_step r) ds ≡ option_map step_of (row_from r ds)
row_is None ds = refl
row_is (Some r) ds = mapped (λ p. (r.make p.0, p.1)) step_of (args_from r.kinds ds)

pub step_found : (r : Option (Row Call)) (ds rest : List Item) (c : Call) → row_from r ds ≡ Some (c, rest) → row_from (as_step r) ds ≡ Some (steps.Call c, rest)
step_found r ds rest c h = row_is r ds ∙ ap (option_map step_of) h

pub step_lost : (r : Option (Row Call)) (ds : List Item) → row_from r ds ≡ None → row_from (as_step r) ds ≡ None
step_lost r ds h = row_is r ds ∙ ap (option_map step_of) h
