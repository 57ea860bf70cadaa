use Rattle.std.proofs.Common.{◌∙◌}
use Rattle.con_text.proofs.WindowLemmas.{ok_mapped, shows_buffers, prints_few}
use Rattle.con_text.proofs.typing.framed.Goals as goal

pub returns-clause-shows : goal.returns-clause-shows
returns-clause-shows c = ok_mapped c.frame.result _ _ (λ bytes shows. shows_buffers c.args.screens.now c.view-view.result bytes.items c.requires.buffers.active c.view-view.ensures.shown (c.view-view.ensures.size.0 ∙ c.requires.sides.0, c.view-view.ensures.size.1 ∙ c.requires.sides.1) shows) c.frame.ensures.shows

pub returns-clause-few : goal.returns-clause-few
returns-clause-few c = ok_mapped c.frame.result _ _ (λ bytes few. prints_few c.view-view.result bytes.items (c.view-view.ensures.size.0 ∙ c.requires.sides.0, c.view-view.ensures.size.1 ∙ c.requires.sides.1) few) c.frame.ensures.few
