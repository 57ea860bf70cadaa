use Rattle.con_script.proofs.GeneratedLemmas.{colour_call}
use Rattle.con_script.proofs.draws.colour_step.Goals as goal

pub returns-clause-made : goal.returns-clause-made
returns-clause-made c = colour_call c.in_ok-units.field-0 c.draw.result _ c.in_ok-units.ensures c.draw.ensures.value c.draw.ensures.less
