use Rattle.std.proofs.Common.{◌∙◌}
use Rattle.con_lines.proofs.Shapes.{less, not_less, ending_of_two, ending_of_three, ending_of_four, ending_short, ending_long}
use Rattle.con_lines.proofs.last.last_of_items.Goals.{in_default-via-then-items-lt2, in_default-via-else-items-lt2+else-items-lt3+else-items-lt4+else-items-lt5}
use Rattle.con_lines.proofs.last.last_of_items.Goals as goal

pub returns-in-len2-clause-told : goal.returns-in-len2-clause-told
returns-in-len2-clause-told c = c.of_status.ensures.told
    ∙ ending_of_two c.args.items.now c.alone-item.result c.in-len2.len_at_least c.in-len2.len_below c.alone-item.is

pub returns-in-len3-clause-told : goal.returns-in-len3-clause-told
returns-in-len3-clause-told c = c.of_text.ensures.told
    ∙ ending_of_three c.args.items.now c.status-item.result c.text-item.result c.in-len3.len_at_least c.in-len3.len_below c.status-item.is c.text-item.is

pub returns-in-len4-clause-told : goal.returns-in-len4-clause-told
returns-in-len4-clause-told c = c.of_frame.ensures.told
    ∙ ending_of_four c.args.items.now c.place-item.result c.word-item.result c.in-len4.len_at_least c.in-len4.len_below c.place-item.is c.word-item.is

pub returns-in_default-clause-told : goal.returns-in_default-clause-told
returns-in_default-clause-told c = elim c.in_default.branch [
  | in_default-via-then-items-lt2 w ↦ ending_short c.args.items.now (less _ _ w.if-items-lt2-1.true)
  | in_default-via-else-items-lt2+else-items-lt3+else-items-lt4+else-items-lt5 w ↦ ending_long c.args.items.now (not_less _ _ w.if-items-lt5-1.false)
]
