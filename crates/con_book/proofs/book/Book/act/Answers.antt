use Rattle.std.proofs.Common.{◌∙◌, ap, ◌++◌, ◌∷◌, []}
use Rattle.con_book.specs.History.{entry}
use Rattle.con_book.specs.Lock.{moving}
use Rattle.con_book.proofs.Turns.{actor_is, puts_next, looks, enters}
use Rattle.con_book.proofs.book.Book.act.Goals as goal

pub leave-requires-in-Ok-clause-machine : goal.leave-requires-in-Ok-clause-machine
leave-requires-in-Ok-clause-machine g c =
    let m = (moving g.M.Machine.next g.M.Machine.is_ready g.M.Machine.blank) in
    let v = c.requires.entered.0 in
    let e = c.requires.entered.1 in
    puts_next g.M.Machine.state m v c.args.kept c.args.seat.now.me e (record { machine = c.apply-reply.new.self; log = c.push_reserved.new.self }) _ _ _ (c.requires.actor ∙ actor_is g.M.Machine.state m v c.args.kept c.args.seat.now.me e)
    (c.push_reserved.ensures.items ∙ ap (λ l. l ++ entry c.args.actor c.args.event ∷ []) c.reserve.ensures.items) c.prepare.ensures.same (ap (λ s. g.M.Machine.is_ready s c.args.actor c.args.event) c.prepare.ensures.same ∙ c.requires.ready) c.apply-reply.ensures.next

pub returns-in-Ok-clause-entered : goal.returns-in-Ok-clause-entered
returns-in-Ok-clause-entered g c = λ v e.
    let m = (moving g.M.Machine.next g.M.Machine.is_ready g.M.Machine.blank) in (
      enters g.M.Machine.state m v c.args.kept c.args.seat.now.me e g.M.Machine.answer g.M.Machine.answer_to g.M.Machine.tells _ _ _ _ _ _ (c.requires.actor ∙ actor_is g.M.Machine.state m v c.args.kept c.args.seat.now.me e)
          (c.push_reserved.ensures.items ∙ ap (λ l. l ++ entry c.args.actor c.args.event ∷ []) c.reserve.ensures.items) c.prepare.ensures.same (ap (λ s. g.M.Machine.is_ready s c.args.actor c.args.event) c.prepare.ensures.same ∙ c.requires.ready) c.apply-reply.ensures.answer c.apply-reply.ensures.tells (ap (λ m. m.0) c.leave-in-Ok.ensures.place),
      tt,
    )

pub returns-in-Err-clause-entered : goal.returns-in-Err-clause-entered
returns-in-Err-clause-entered g c = λ v e.
    (tt, looks g.M.Machine.state (moving g.M.Machine.next g.M.Machine.is_ready g.M.Machine.blank) v c.args.kept c.args.seat.now.me e _ _ c.reserve.ensures.items (ap (λ m. m.0) c.leave-in-Err.ensures.place))

pub returns-then-is_err-clause-entered : goal.returns-then-is_err-clause-entered
returns-then-is_err-clause-entered g c = λ v e.
    (tt, looks g.M.Machine.state (moving g.M.Machine.next g.M.Machine.is_ready g.M.Machine.blank) v c.args.kept c.args.seat.now.me e _ _ c.reserve.ensures.items (ap (λ m. m.0) c.leave.ensures.place))
