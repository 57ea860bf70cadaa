-- Two bytes.
use Rattle.std.proofs.Common.{sym, ◌∙◌, arith}
use Rattle.con_term.proofs.FrontLemmas.{two_front}
use Rattle.con_term.proofs.front.two.Goals as goal

pub returns : goal.returns
returns c = two_front c.args.bytes.now (omega (arith, c.if-bytes-lt2.false)) (sym c.is_within.ensures ∙ c.if-not-is_within.false) (sym c.is_within-2.ensures ∙ c.if-not-is_within-2.false)
