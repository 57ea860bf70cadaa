-- The first line read, or none.
use Rattle.std.proofs.Common.{◌∙◌, sym, ap, slice_set, ℕ}
use Rattle.con_units.specs.Units.{changed_at}
use Rattle.con_units.specs.declared.code.Code.TheVariants as code
use Rattle.con_readers.specs.Reads.{failed}
use Rattle.con_readers.specs.declared.open.Open.{Open}
use Rattle.con_readers.proofs.Places.{set_changed, changed_past}
use Rattle.con_readers.proofs.readers.abort_first_line.Goals as goal

pub returns-then-i-reads : goal.returns-then-i-reads
returns-then-i-reads c =
    ap (slice_set c.args.reads.now c.find_line-i.result) (c.end.ensures ∙ ap (λ (o : Open). failed code.Aborted o) (sym c.index-reads-i.is))
    ∙ set_changed (λ (o : Open). failed code.Aborted o) c.args.reads.now c.find_line-i.result c.index-reads-i.result c.index-reads-i.is
    ∙ ap (λ (k : ℕ). changed_at (failed code.Aborted) c.args.reads.now k) c.find_line-i.ensures

pub returns-else-i-reads : goal.returns-else-i-reads
returns-else-i-reads c =
    changed_past (failed code.Aborted) c.args.reads.now c.find_line-i.result c.if-i-reads.false
    ∙ ap (λ (k : ℕ). changed_at (failed code.Aborted) c.args.reads.now k) c.find_line-i.ensures
