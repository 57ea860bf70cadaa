-- Three bytes.
use Rattle.std.proofs.Common.{sym, ◌∙◌, arith}
use Rattle.con_term.proofs.FrontLemmas.{three_front}
use Rattle.con_term.proofs.front.three.Goals as goal

pub returns : goal.returns
returns c = three_front c.args.bytes.now (omega (arith, c.if-bytes-lt3.false)) (sym c.is_within.ensures ∙ c.if-not-is_within.false) (sym c.follows.ensures ∙ c.if-not-follows.false) (sym c.is_within-2.ensures ∙ c.if-not-is_within-2.false)
