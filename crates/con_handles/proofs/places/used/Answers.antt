use Rattle.std.proofs.Common.{ap, ◌∙◌}
use Rattle.std.specs.Prelude.{is_some}
use Rattle.con_handles.specs.Handles.{is_at}
use Rattle.con_handles.specs.Places.{listed}
use Rattle.con_handles.proofs.Listed.{used_found}
use Rattle.con_handles.proofs.places.used.Goals as goal

pub returns : goal.returns
returns c = c.is_some.ensures ∙ ap is_some c.found.ensures.is ∙ used_found (is_at c.args.process c.args.number) (listed 0 c.args.places.now)
