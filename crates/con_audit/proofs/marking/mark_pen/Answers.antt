-- The pen of marks that are known, or the one that it is.
use Rattle.std.proofs.Common.{◌∙◌, sym}
use Rattle.con_audit.specs.Known.{resets}
use Rattle.con_audit.proofs.MarkLemmas.{pen_known, pen_kept}
use Rattle.con_audit.proofs.marking.mark_pen.Goals as goal

pub returns-then-becomes_known : goal.returns-then-becomes_known
returns-then-becomes_known c = pen_known c.args.marks.now _ _ c.args.flags.pen (resets c.args.csi.now) c.requires c.plain.ensures (sym c.becomes_known.ensures ∙ c.if-becomes_known.true) c.apply.ensures

pub returns-else-becomes_known : goal.returns-else-becomes_known
returns-else-becomes_known c = pen_kept c.args.marks.now c.args.flags.pen (resets c.args.csi.now) c.requires (sym c.becomes_known.ensures ∙ c.if-becomes_known.false)
