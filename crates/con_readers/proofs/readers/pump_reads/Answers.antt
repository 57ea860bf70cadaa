-- The first one that is not done moves on, or there is none.
use Rattle.std.proofs.Common.{◌∙◌, ap, slice_set, refl}
use Rattle.con_readers.specs.Words.Act.{told}
use Rattle.con_readers.specs.Words.Reads.{Pumped}
use Rattle.con_readers.proofs.First.{stepped, at_first, pumped-none}
use Rattle.con_readers.proofs.readers.pump_reads.Goals as goal

pub returns-then-i-reads-clause-reads : goal.returns-then-i-reads-clause-reads
unfolding stepped
returns-then-i-reads-clause-reads c = ap (slice_set c.args.reads.now c.first_open-i.result) c.advance.ensures.one ∙ ap (λ (q : Pumped). q.reads) (at_first c.args.aliases.now.programs c.first_open-i.result c.args.reads.now c.index-reads-i.result c.args.records.now.items c.args.histories.now c.first_open-i.ensures.before c.if-i-reads.true c.index-reads-i.is c.first_open-i.ensures.here)

pub returns-then-i-reads-clause-records : goal.returns-then-i-reads-clause-records
unfolding stepped
returns-then-i-reads-clause-records c = c.advance.ensures.records ∙ ap (λ (q : Pumped). record c.args.records.now { items = q.records }) (at_first c.args.aliases.now.programs c.first_open-i.result c.args.reads.now c.index-reads-i.result c.args.records.now.items c.args.histories.now c.first_open-i.ensures.before c.if-i-reads.true c.index-reads-i.is c.first_open-i.ensures.here)

pub returns-then-i-reads-clause-histories : goal.returns-then-i-reads-clause-histories
unfolding stepped
returns-then-i-reads-clause-histories c = c.advance.ensures.histories ∙ ap (λ (q : Pumped). q.histories) (at_first c.args.aliases.now.programs c.first_open-i.result c.args.reads.now c.index-reads-i.result c.args.records.now.items c.args.histories.now c.first_open-i.ensures.before c.if-i-reads.true c.index-reads-i.is c.first_open-i.ensures.here)

pub returns-then-i-reads-clause-step : goal.returns-then-i-reads-clause-step
unfolding stepped
returns-then-i-reads-clause-step c = c.advance.ensures.step ∙ ap (λ (q : Pumped). told q.act) (at_first c.args.aliases.now.programs c.first_open-i.result c.args.reads.now c.index-reads-i.result c.args.records.now.items c.args.histories.now c.first_open-i.ensures.before c.if-i-reads.true c.index-reads-i.is c.first_open-i.ensures.here)

pub returns-else-i-reads-clause-reads : goal.returns-else-i-reads-clause-reads
returns-else-i-reads-clause-reads c = rw (pumped-none c.args.aliases.now.programs c.first_open-i.result c.args.reads.now c.args.records.now.items c.args.histories.now c.first_open-i.ensures.before c.if-i-reads.false) refl

pub returns-else-i-reads-clause-records : goal.returns-else-i-reads-clause-records
returns-else-i-reads-clause-records c = rw (pumped-none c.args.aliases.now.programs c.first_open-i.result c.args.reads.now c.args.records.now.items c.args.histories.now c.first_open-i.ensures.before c.if-i-reads.false) refl

pub returns-else-i-reads-clause-histories : goal.returns-else-i-reads-clause-histories
returns-else-i-reads-clause-histories c = rw (pumped-none c.args.aliases.now.programs c.first_open-i.result c.args.reads.now c.args.records.now.items c.args.histories.now c.first_open-i.ensures.before c.if-i-reads.false) refl

pub returns-else-i-reads-clause-step : goal.returns-else-i-reads-clause-step
returns-else-i-reads-clause-step c = rw (pumped-none c.args.aliases.now.programs c.first_open-i.result c.args.reads.now c.args.records.now.items c.args.histories.now c.first_open-i.ensures.before c.if-i-reads.false) refl
