use Rattle.std.proofs.Common.{◌∙◌}
use Rattle.con_words.proofs.Numbers.{seed_is}
use Rattle.con_words.proofs.words.seed_in.Goals as goal

pub returns : goal.returns
returns c = c.seed.ensures ∙ seed_is c.args.word.now
