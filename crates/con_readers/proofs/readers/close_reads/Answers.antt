-- One more is closed.
use Rattle.std.proofs.Common.{◌∙◌, sym, ap, slice_set}
use Rattle.std.proofs.lemmas.List.Edits.{map_over_more}
use Rattle.con_readers.specs.Words.Reads.{closed_one}
use Rattle.con_readers.specs.declared.open.Open.{Open}
use Rattle.con_readers.proofs.readers.close_reads.Goals as goal

pub loop-i-preserved : goal.loop-i-preserved
loop-i-preserved c =
    ap (slice_set c.loop-i.reads c.loop-i.i) (c.close.ensures ∙ ap (λ (o : Open). closed_one o) (sym c.index-reads-i.is))
    ∙ map_over_more closed_one c.args.reads.now c.loop-i.reads c.loop-i.i c.index-reads-i.result c.loop-i-test.true c.loop-i.invariant c.index-reads-i.is
