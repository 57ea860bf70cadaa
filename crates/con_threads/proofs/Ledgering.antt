-- A ledger behind one more event.
use Rattle.std.proofs.Common.{◌≡◌, true, false, List, [], ◌∷◌, ◌++◌, length, Option, Some, None, arith, refl, sym, ap, ◌∙◌}
use Rattle.con_units.specs.Words.Limits.{IsWindow}
use Rattle.con_units.specs.Words.View.{IsWhole}
use Rattle.con_events.specs.declared.actor.Actor.{Actor}
use Rattle.con_events.specs.declared.actor.Actor.TheVariants as actors
use Rattle.con_events.specs.declared.event.Event.{Event}
use Rattle.con_events.specs.declared.event.Event.TheVariants as events
use Rattle.con_events.specs.declared.reply.Reply.{Reply}
use Rattle.con_events.specs.declared.reply.Reply.TheVariants as replies
use Rattle.con_machine.specs.Marks.{told}
use Rattle.con_machine.specs.Numbered.{next_of, answer_of, tells_of, ready_of}
use Rattle.con_machine.specs.Painting.{view_now}
use Rattle.con_laws.specs.PictureLaws.{paint_answers}
use Rattle.con_machine.specs.State.{State}
use Rattle.con_machine.specs.Step.{step, is_ready}
use Rattle.con_actors.specs.Desk.{listed}
use Rattle.con_actors.specs.Words.Desk.{brief_of}
use Rattle.con_actors.specs.PaintTurns.{picture_of, whole_of, window_of}
use Rattle.con_actors.specs.Replying.{listed_by, brief_by, view_is}
use Rattle.con_threads.specs.Ledger.{logged_front, paged, brief_told, told_of, TellsPicture}
use Rattle.con_threads.specs.Ledger as ledger
use Rattle.con_threads.specs.LedgerLaws.{front_whole}
use Rattle.con_threads.specs.declared.ledger.LedgerView.{LedgerView}

pub no_items : {A : Type 0} (xs : List A) → length xs ≡ 0 → xs ≡ []
no_items [] e = refl
no_items (x ∷ xs) e = absurd (omega arith)

listed_is : (r q : Reply) → told r ≡ q → listed r ≡ listed q
listed_is r q e = listed_by false r q (λ k. absurd (let j : false ≡ true = k in cc)) (λ k. e)

brief_is : (r q : Reply) → told r ≡ q → brief_of r ≡ brief_of q
brief_is r q e = brief_by false r q (λ k. absurd (let j : false ≡ true = k in cc)) (λ k. e)

-- the console's next state, and one reply more
pub page_on : (s t : State) (rs qs : List Reply) (o : Option Actor) (e : Event) (r : Reply) → ready_of s o e ≡ true → t ≡ next_of s o e
    → told r ≡ answer_of s o e → qs ≡ rs ++ listed r ∷ []
    → (let p : LedgerView = record { state = t; replies = qs } in p) ≡ paged (record { state = s; replies = rs }) (logged_front s o e)
page_on s t rs qs None e r ready next answer put = absurd (let k : false ≡ true = ready in cc)
page_on s t rs qs (Some a) e r ready next answer put =
    let replied : qs ≡ rs ++ listed (step s a e).reply ∷ [] = put ∙ ap (λ (q : Reply). rs ++ q ∷ []) (listed_is r (step s a e).reply answer) in
    (λ i. record { state = next i; replies = replied i })
    ∙ ap (λ h. paged (record { state = s; replies = rs }) h) (sym (front_whole s (Some a) e ready))

briefly : (r : Reply) → brief_told (told_of r) ≡ brief_of r
briefly (replies.View v marks fresh) = refl
briefly replies.Done = refl
briefly (replies.Fail why) = refl
briefly (replies.Number n) = refl
briefly (replies.Numbers ns) = refl
briefly (replies.Units us) = refl
briefly (replies.Records rs) = refl
briefly (replies.Cells rect cells) = refl
briefly (replies.Lines ls) = refl
briefly (replies.Ctrl n) = refl

pub brief_on : (s : State) (o : Option Actor) (e : Event) (r : Reply) → ready_of s o e ≡ true → told r ≡ answer_of s o e
    → brief_told (told_of r) ≡ ledger.brief_by s o e
brief_on s None e r ready answer = absurd (let k : false ≡ true = ready in cc)
brief_on s (Some a) e r ready answer = briefly r ∙ brief_is r (step s a e).reply answer

-- only the painter paints
painter_paints : (s : State) (a : Actor) → is_ready s a events.Paint ≡ true → a ≡ actors.Painter
unfolding is_ready
painter_paints s (actors.Client p) r = absurd (let k : false ≡ true = r in cc)
painter_paints s actors.Terminal r = absurd (let k : false ≡ true = r in cc)
painter_paints s actors.Painter r = refl

module _ (s : State) (whole : IsWhole (view_now s)) (wide : (view_now s).size.w ≡ s.buffers.w) (high : (view_now s).size.h ≡ s.buffers.h)
    (window : IsWindow s.buffers.w s.buffers.h) where
  pictured : (a : Actor) (r : Reply) → is_ready s a events.Paint ≡ true → told r ≡ (step s a events.Paint).reply → tells_of r s (Some a) events.Paint
      → TellsPicture (told_of r) s (Some a) events.Paint
  pictured a (replies.View v marks fresh) ready answer tells =
      let answered : (step s a events.Paint).reply ≡ replies.View (view_now s) [] false =
      ap (λ (b : Actor). (step s b events.Paint).reply) (painter_paints s a ready)
      ∙ paint_answers s in
      let shown : v ≡ view_now s = view_is v (view_now s) marks fresh (step s a events.Paint).reply answer answered in
      (picture_of s s v fresh refl shown tells.0 wide high, whole_of s v shown whole, window_of s v shown wide high window, tells.1)
  pictured a replies.Done ready answer tells = absurd tells
  pictured a (replies.Fail why) ready answer tells = absurd tells
  pictured a (replies.Number n) ready answer tells = absurd tells
  pictured a (replies.Numbers ns) ready answer tells = absurd tells
  pictured a (replies.Units us) ready answer tells = absurd tells
  pictured a (replies.Records rs) ready answer tells = absurd tells
  pictured a (replies.Cells rect cells) ready answer tells = absurd tells
  pictured a (replies.Lines ls) ready answer tells = absurd tells
  pictured a (replies.Ctrl n) ready answer tells = absurd tells

  pub tells_on : (o : Option Actor) (e : Event) (r : Reply) → ready_of s o e ≡ true → told r ≡ answer_of s o e → tells_of r s o e
      → TellsPicture (told_of r) s o e
  tells_on None e r ready answer tells = tt
  tells_on (Some a) events.Paint r ready answer tells = pictured a r ready answer tells
  tells_on (Some a) _ r ready answer tells = tt
