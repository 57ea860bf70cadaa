use Rattle.std.proofs.Common.{arith, sym}
use Rattle.con_telling.proofs.TellLemmas.{cut_step, stop_step, writes_step}
use Rattle.con_telling.proofs.telling.write_lines.Goals as goal

pub returns-then-not-has_end-clause-front : goal.returns-then-not-has_end-clause-front
returns-then-not-has_end-clause-front g c =
    (stop_step _ _ _ c.loop-coming.coming.now c.loop-coming.answers.now c.loop-coming.lengths.now _ _ c.loop-coming.invariant.writes).0

pub returns-then-not-has_end-clause-told : goal.returns-then-not-has_end-clause-told
returns-then-not-has_end-clause-told g c =
    (stop_step _ _ _ c.loop-coming.coming.now c.loop-coming.answers.now c.loop-coming.lengths.now _ _ c.loop-coming.invariant.writes).1

pub returns-in_err-write_entry-clause-front : goal.returns-in_err-write_entry-clause-front
returns-in_err-write_entry-clause-front g c =
    (cut_step _ _ _ c.loop-coming.coming.now c.loop-coming.answers.now c.loop-coming.lengths.now c.entry-item.result c.reply-item.result _ _ _ _ c.in-len1-up.len_at_least c.in-len1-up-answers.len_at_least
    c.entry-item.is c.reply-item.is c.loop-coming.invariant.writes (sym c.if-not-has_end.ensures) c.end_after-end.ensures c.write_entry.ensures.front).0

pub returns-in_err-write_entry-clause-told : goal.returns-in_err-write_entry-clause-told
returns-in_err-write_entry-clause-told g c =
    (cut_step _ _ _ c.loop-coming.coming.now c.loop-coming.answers.now c.loop-coming.lengths.now c.entry-item.result c.reply-item.result _ _ _ _ c.in-len1-up.len_at_least c.in-len1-up-answers.len_at_least
    c.entry-item.is c.reply-item.is c.loop-coming.invariant.writes (sym c.if-not-has_end.ensures) c.end_after-end.ensures c.write_entry.ensures.front).1

pub loop-coming-preserved : goal.loop-coming-preserved
loop-coming-preserved g c = record {
  writes = writes_step _ _ _ c.loop-coming.coming.now c.loop-coming.answers.now c.loop-coming.lengths.now c.entry-item.result c.reply-item.result _ _ _ _ _ c.in-len1-up.len_at_least c.in-len1-up-answers.len_at_least
      c.entry-item.is c.reply-item.is c.loop-coming.invariant.writes (sym c.if-not-has_end.ensures) c.end_after-end.ensures c.behind-lengths.ensures c.in_ok-write_entry.ensures.whole;
  never_falls = omega (arith, c.loop-coming.invariant.never_falls, c.write_entry.ensures.never_falls);
}
