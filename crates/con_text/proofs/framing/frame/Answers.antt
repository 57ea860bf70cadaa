use Rattle.con_text.proofs.WindowLemmas.{first_frame}
use Rattle.con_text.proofs.framing.frame.Goals as goal

pub returns-clause-shows : goal.returns-clause-shows
returns-clause-shows c = λ t terminal. first_frame _ _ c.args.view.now t _ c.paint.new.out.items c.in_ok-painter.ensures c.in-Ok-with_capacity.ensures.items terminal c.paint.ensures.paints
