use Rattle.con_machine.specs.SizeLaws.{step_keeps_size}
use Rattle.con_machine.proofs.view_laws.an_event_sizes_the_window.Goals as goal

pub returns : goal.returns
returns c = step_keeps_size
