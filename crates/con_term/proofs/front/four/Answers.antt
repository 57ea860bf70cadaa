-- Four bytes.
use Rattle.std.proofs.Common.{sym, ◌∙◌, arith}
use Rattle.con_term.proofs.FrontLemmas.{four_front}
use Rattle.con_term.proofs.front.four.Goals as goal

pub returns : goal.returns
returns c = four_front c.args.bytes.now (omega (arith, c.if-bytes-lt4.false)) (sym c.begins_four.ensures ∙ c.if-not-begins_four.false) (sym c.follows.ensures ∙ c.if-not-follows.false) (sym c.continues.ensures ∙ c.if-not-continues.false)
    (sym c.continues-2.ensures ∙ c.if-not-continues-2.false)
