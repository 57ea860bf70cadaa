-- The other parts in their order.
use Rattle.std.proofs.Common.{refl, ◌∙◌, ◌++◌, ◌∷◌, []}
use Rattle.con_audit.proofs.Behind.{tries_ready, tries_reply, tries_follows, tries_end, tries_shows, pictures, clients_own, stands_still, stands_one}
use Rattle.con_audit.proofs.Found.{not_said, not_following, not_ended, not_shown, nothing_found}
use Rattle.con_audit.proofs.judge.Judge.found.Goals as goal

pub returns-then-not-is_said : goal.returns-then-not-is_said
returns-then-not-is_said c = λ s g frames h b f at a. let x = c.args.entry.now in
    not_said g frames h x _ _ (tries_ready s _ _ _ g frames h x _ b refl) a.ready
    (tries_reply s _ _ _ g frames h x _ _ _ b at a.reply a.client c.is_said.ensures) c.if-not-is_said.true

pub returns-then-not-may_stand : goal.returns-then-not-may_stand
returns-then-not-may_stand c = λ s g frames h b f at a. let x = c.args.entry.now in
    not_following g frames h x _ _ _ (tries_ready s _ _ _ g frames h x _ b refl) a.ready
    (tries_reply s _ _ _ g frames h x _ _ _ b at a.reply a.client c.is_said.ensures) c.if-not-is_said.false
    (tries_follows s _ _ _ g frames h x _ b (rw c.as_slice.ensures.value at c.may_stand.ensures)) c.if-not-may_stand.true

pub returns-then-not-has_end : goal.returns-then-not-has_end
returns-then-not-has_end c = λ s g frames h b f at a. let x = c.args.entry.now in
    not_ended g frames h x _ _ _ _ (tries_ready s _ _ _ g frames h x _ b refl) a.ready
    (tries_reply s _ _ _ g frames h x _ _ _ b at a.reply a.client c.is_said.ensures) c.if-not-is_said.false
    (tries_follows s _ _ _ g frames h x _ b (rw c.as_slice.ensures.value at c.may_stand.ensures)) c.if-not-may_stand.false
    (tries_end s _ _ _ g frames h x _ _ b f c.has_end.ensures) c.if-not-has_end.true

pub returns-then-not-shown : goal.returns-then-not-shown
returns-then-not-shown c = λ s g frames h b f at a. let x = c.args.entry.now in
    not_shown g frames h x _ _ _ _ _ (tries_ready s _ _ _ g frames h x _ b refl) a.ready
    (tries_reply s _ _ _ g frames h x _ _ _ b at a.reply a.client c.is_said.ensures) c.if-not-is_said.false
    (tries_follows s _ _ _ g frames h x _ b (rw c.as_slice.ensures.value at c.may_stand.ensures)) c.if-not-may_stand.false
    (tries_end s _ _ _ g frames h x _ _ b f c.has_end.ensures) c.if-not-has_end.false
    (tries_shows s _ _ _ g frames h x _ _ b f (c.in_ok-shown.ensures.seen s (pictures s x.actor x.event _ a.reply))) c.if-not-shown.true

pub see-requires-clause-size : goal.see-requires-clause-size
see-requires-clause-size c = c.requires

pub see-requires-clause-end : goal.see-requires-clause-end
see-requires-clause-end c = c.has_end.ensures.0 c.if-not-has_end.false

pub note-requires : goal.note-requires
note-requires c = rw c.as_slice.ensures.value at (c.may_stand.ensures.0 c.if-not-may_stand.false)

pub returns : goal.returns
returns c = λ s g frames h b f at a. let x = c.args.entry.now in
    let may = rw c.as_slice.ensures.value at (c.may_stand.ensures.0 c.if-not-may_stand.false) in
    let seen = pictures s x.actor x.event c.args.answer.now a.reply in (
      nothing_found g frames h x _ _ _ _ _ (tries_ready s _ _ _ g frames h x _ b refl) a.ready
          (tries_reply s _ _ _ g frames h x _ _ _ b at a.reply a.client c.is_said.ensures) c.if-not-is_said.false
          (tries_follows s _ _ _ g frames h x _ b (rw c.as_slice.ensures.value at c.may_stand.ensures)) c.if-not-may_stand.false
          (tries_end s _ _ _ g frames h x _ _ b f c.has_end.ensures) c.if-not-has_end.false
          (tries_shows s _ _ _ g frames h x _ _ b f (c.in_ok-shown.ensures.seen s seen)) c.if-not-shown.false,
      stands_still _ _ _ _ _ g frames (h ++ x ∷ []) c.note.ensures.console
          (stands_one s _ _ _ _ _ _ _ g frames h x c.args.answer.now c.args.stream.now b f may a.state (clients_own s x.actor x.event c.args.answer.now a.ready a.client)
          c.in_ok-note.ensures.tracks c.in_ok-note.ensures.side (c.note.ensures.watch ∙ c.in_ok-shown.ensures.watch s seen)),
    )
