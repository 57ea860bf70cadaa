-- The text of the first one that is not done, or none.
use Rattle.std.proofs.Common.{◌∙◌, sym}
use Rattle.con_readers.proofs.First.{head-first, head-none}
use Rattle.con_readers.proofs.readers.first_text.Goals as goal

pub returns-then-i-reads-clause-text : goal.returns-then-i-reads-clause-text
returns-then-i-reads-clause-text c =
    c.text.ensures.text ∙ sym (head-first c.first_open-i.result c.args.reads.now c.index-reads-i.result c.first_open-i.ensures.before c.if-i-reads.true c.index-reads-i.is (c.first_open-i.ensures.here c.index-reads-i.result c.if-i-reads.true c.index-reads-i.is))

pub returns-else-i-reads-clause-text : goal.returns-else-i-reads-clause-text
returns-else-i-reads-clause-text c = sym (head-none c.first_open-i.result c.args.reads.now c.first_open-i.ensures.before c.if-i-reads.false)
