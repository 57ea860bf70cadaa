-- One sequence, or none.
use Rattle.std.proofs.Common.{sym, ◌∙◌}
use Rattle.con_units.specs.Attr.{plain}
use Rattle.con_strokes.proofs.SameLemmas.{attrs_same, never_same}
use Rattle.con_strokes.proofs.LeadLemmas.{chooses, chooses_plain, chooses_none}
use Rattle.con_strokes.proofs.pen.choose.Goals as goal

pub returns-then-is_same_attr-clause-leads : goal.returns-then-is_same_attr-clause-leads
returns-then-is_same_attr-clause-leads c = λ s p. chooses_none _ c.args.before c.args.attr s p (attrs_same c.args.before c.args.attr (sym c.is_same_attr.ensures.value ∙ c.if-is_same_attr.true))

pub returns-then-is_same_attr-2-clause-leads : goal.returns-then-is_same_attr-2-clause-leads
returns-then-is_same_attr-2-clause-leads c = λ s p. rw (attrs_same c.args.attr (plain 7) (rw c.plain_attr.ensures at (sym c.is_same_attr-2.ensures.value ∙ c.if-is_same_attr-2.true))) (chooses_plain _ _ s c.append.ensures.bytes)

pub returns-then-is_same_attr-2-clause-quiet : goal.returns-then-is_same_attr-2-clause-quiet
returns-then-is_same_attr-2-clause-quiet c = λ e. absurd (never_same c.args.before c.args.attr (sym c.is_same_attr.ensures.value ∙ c.if-is_same_attr.false) e)

pub returns-else-is_same_attr-2-clause-leads : goal.returns-else-is_same_attr-2-clause-leads
returns-else-is_same_attr-2-clause-leads c = λ s p. chooses _ _ c.changes_of-changes.result c.args.before c.args.attr s p c.is_same_attr.ensures.kept.1.0 c.changes_of-changes.ensures c.pen_bytes.ensures.bytes

pub returns-else-is_same_attr-2-clause-quiet : goal.returns-else-is_same_attr-2-clause-quiet
returns-else-is_same_attr-2-clause-quiet c = λ e. absurd (never_same c.args.before c.args.attr (sym c.is_same_attr.ensures.value ∙ c.if-is_same_attr.false) e)
