use Rattle.std.proofs.Common.{◌≡◌, sym, subst}
use Rattle.std.specs.Prelude.{Some, None, IfOk, IfErr}
use Rattle.con_events.specs.Reading.{IsForm}
use Rattle.con_lines.specs.Told.{said_items}
use Rattle.con_lines.proofs.Shapes.{four_items, less, not_less, said_short, said_long}
use Rattle.con_lines.proofs.saying.four.Goals.{in_default-via-then-items-lt4, in_default-via-else-items-lt4+else-items-lt5}
use Rattle.con_lines.proofs.saying.four.Goals as goal

pub returns-in_default-clause-form : goal.returns-in_default-clause-form
returns-in_default-clause-form c = elim c.in_default.branch [
  | in_default-via-then-items-lt4 w ↦ λ _. sym (said_short c.args.items.now (less _ _ w.if-items-lt4-1.true))
  | in_default-via-else-items-lt4+else-items-lt5 w ↦ λ _. sym (said_long c.args.items.now (not_less _ _ w.if-items-lt5-1.false))
]

pub returns-in-len4-clause-ok : goal.returns-in-len4-clause-ok
returns-in-len4-clause-ok c = subst (λ is. IfOk c.said_by_parts.result (λ s. said_items is ≡ Some s))
    (four_items c.args.items.now c.who-item.result c.name-item.result c.arguments-item.result c.answer-item.result c.in-len4.len_at_least c.in-len4.len_below
    c.who-item.is c.name-item.is c.arguments-item.is c.answer-item.is) c.said_by_parts.ensures.ok

pub returns-in-len4-clause-form : goal.returns-in-len4-clause-form
returns-in-len4-clause-form c = subst (λ is. IfErr c.said_by_parts.result (λ e. IsForm e → said_items is ≡ None))
    (four_items c.args.items.now c.who-item.result c.name-item.result c.arguments-item.result c.answer-item.result c.in-len4.len_at_least c.in-len4.len_below
    c.who-item.is c.name-item.is c.arguments-item.is c.answer-item.is) c.said_by_parts.ensures.form
