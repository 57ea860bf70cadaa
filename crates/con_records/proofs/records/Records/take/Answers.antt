-- One more is gone.
use Rattle.std.proofs.Common.{ap, ◌∙◌, List}
use Rattle.std.proofs.lemmas.List.{drop-drop}
use Rattle.con_records.specs.Queue.{Queue, without_first}
use Rattle.con_records.specs.declared.record.Record.{Record}
use Rattle.con_records.proofs.records.Records.take.Goals as goal

pub loop-i-preserved : goal.loop-i-preserved
loop-i-preserved c = c.pop.ensures.rest ∙ ap (λ (q : Queue). without_first q 1) c.loop-i.invariant ∙ ap (λ (rs : List Record). record c.args.self.now { items = rs }) (drop-drop 1 c.loop-i.i c.args.self.now.items)
