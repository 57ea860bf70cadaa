use Rattle.std.proofs.Common.{refl, sym, ap, ◌∙◌, subst}
use Rattle.con_book.specs.Passes.{book_id, pass_id}
use Rattle.con_threads.specs.Scribe.{IsSameScribe, IsScribe}
use Rattle.con_threads.specs.ScribeLaws.{same_self}
use Rattle.con_threads.specs.declared.scribe.Scribe.{Scribe}
use Rattle.con_threads.proofs.Posting.{turned_at}
use Rattle.con_threads.proofs.client.ClientThread.turn.Goals as goal

pub act-done-requires-clause-serves : goal.act-done-requires-clause-serves
act-done-requires-clause-serves g c = λ _ _.
    let now = c.at-post.ensures.scribe.0 in
    let P : Scribe → Type 0 = λ z. IsScribe z in
    (ap (λ (z : Scribe). pass_id z.pass) now ∙ (c.requires.book ∙ ap (λ z. book_id z) (sym c.at-post.ensures.book)), subst P (sym now) c.requires.is.scribe, ap (λ (z : Scribe). z.actor) now ∙ c.requires.is.actor)

pub returns-clause-same : goal.returns-clause-same
returns-clause-same g c =
    let s = c.act-done.ensures.stands c.at-post.result.scribe (same_self _, refl) in
    let P : Scribe → Type 0 = λ z. IsSameScribe z c.act-done.new.door.scribe.now in
    subst P c.at-post.ensures.scribe.0 s.0

pub returns-clause-turned : goal.returns-clause-turned
returns-clause-turned g c =
    λ b. turned_at _ _ b _ _ _ _ _ _ _ _ _ _ _ _ _ c.at-post.ensures.scribe.0 (λ i. c.act-done.ensures.turned c.at-post.result.scribe b (same_self _, refl) i)

pub shape_of-self : goal.shape_of-self
shape_of-self g c = sym ((c.act-done.ensures.stands c.at-post.result.scribe (same_self _, refl)).1 ∙ c.at-post.ensures.scribe.1)
