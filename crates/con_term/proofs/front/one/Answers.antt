-- A byte by itself.
use Rattle.std.proofs.Common.{sym, ◌∙◌, arith}
use Rattle.con_term.proofs.FrontLemmas.{one_front}
use Rattle.con_term.proofs.front.one.Goals as goal

pub returns : goal.returns
returns c = one_front c.args.bytes.now (omega (arith, c.if-bytes-lt1.false)) (omega (arith, c.if-a-lt128.false)) (sym c.is_within.ensures ∙ c.if-is_within.false)
