-- A Paint is played and compared, and a Resize begins anew.
use Rattle.con_audit.proofs.Behind.{seen_paint, seen_other, watched_paint, watched_size, watched_other, size_within}
use Rattle.con_audit.proofs.judge.see.Goals as goal

pub returns-in-Paint-clause-seen : goal.returns-in-Paint-clause-seen
returns-in-Paint-clause-seen c = λ s pic. seen_paint c.args.event.now c.args.answer.now s c.args.stream.now c.args.watch.now _ _ c.in-Paint.is pic c.paint.ensures c.is_seen.ensures

pub returns-in-Paint-clause-watch : goal.returns-in-Paint-clause-watch
returns-in-Paint-clause-watch c = λ s pic. watched_paint c.args.event.now s c.args.stream.now c.args.watch.now _ c.in-Paint.is c.paint.ensures

pub resize-requires-clause-some : goal.resize-requires-clause-some
resize-requires-clause-some c = (size_within _ (c.requires.size _ c.in-Resize.is)).0

pub resize-requires-clause-few : goal.resize-requires-clause-few
resize-requires-clause-few c = (size_within _ (c.requires.size _ c.in-Resize.is)).1

pub returns-in_ok-resize-in-Resize-clause-watch : goal.returns-in_ok-resize-in-Resize-clause-watch
returns-in_ok-resize-in-Resize-clause-watch c = λ s pic. watched_size c.args.event.now s c.args.stream.now c.args.watch.now _ _ c.in-Resize.is (c.in_ok-resize-in-Resize.ensures c.args.stream.now)

pub returns-in_default-clause-seen : goal.returns-in_default-clause-seen
returns-in_default-clause-seen c = λ s pic. seen_other c.args.event.now s c.args.stream.now c.args.watch.now c.in_default.not-Paint c.in_default.not-Resize

pub returns-in_default-clause-watch : goal.returns-in_default-clause-watch
returns-in_default-clause-watch c = λ s pic. watched_other c.args.event.now s c.args.stream.now c.args.watch.now c.in_default.not-Paint c.in_default.not-Resize
