use Rattle.con_script.proofs.GeneratedLemmas.{never_outside, is_drawn}
use Rattle.con_script.proofs.generator.generated.Goals as goal

pub unreachable-requires : goal.unreachable-requires
unreachable-requires c = never_outside c.args.seed c.in_ok-scripts.scripts c.in_ok-scripts.ensures c.in-None.ensures

pub returns : goal.returns
returns c = is_drawn c.args.seed c.in_ok-scripts.scripts c.in-Some.session c.in_ok-scripts.ensures c.in-Some.ensures
