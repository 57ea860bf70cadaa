use Rattle.con_text.proofs.WindowLemmas.{opened_is}
use Rattle.con_text.proofs.typing.opened.Goals as goal

pub returns-clause-buffers : goal.returns-clause-buffers
returns-clause-buffers c = opened_is _ _ _ c.in_ok-screens.ensures.buffers c.screen_mut.ensures.shown c.in-Ok.ensures.set.1
