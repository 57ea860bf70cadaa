use Rattle.std.proofs.Common.{◌∙◌}
use Rattle.con_words.proofs.Numbers.{side_is}
use Rattle.con_words.proofs.words.side.Goals as goal

pub returns-clause-side : goal.returns-clause-side
returns-clause-side c = c.side_within.ensures.side ∙ side_is c.args.digits.now c.args.most c.requires
