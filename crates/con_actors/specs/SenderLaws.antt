-- The terminal's side behind one more entry.
use Rattle.std.proofs.Common.{◌≡◌, ◌⊎◌, ℕ, Bool, true, false, List, [], ◌∷◌, ◌++◌, Option, Some, None, refl, sym, ap, ◌∙◌}
use Rattle.std.proofs.Common.{subst, append_assoc, append-nil, inl, inr, arith}
use Rattle.std.specs.Prelude.{not, ◌&&◌, nat_le, ◌+◌, map}
use Rattle.std.proofs.lemmas.Bool.Decides.{nat_tests}
use Rattle.con_units.specs.declared.view.Frame.{Frame}
use Rattle.con_units.specs.declared.view.Frame.TheVariants as frames
use Rattle.con_link.specs.Frames.{ends_link, is_frame}
use Rattle.con_events.specs.Session.{is_size}
use Rattle.con_events.specs.declared.actor.Actor.TheVariants as actors
use Rattle.con_events.specs.declared.entry.Entry.{Entry}
use Rattle.con_events.specs.declared.event.Event.{Event}
use Rattle.con_events.specs.declared.event.Event.TheVariants as events
use Rattle.con_machine.specs.Along.{Along}
use Rattle.con_machine.specs.Words.Along.{after}
use Rattle.con_machine.specs.Follows.{FollowsLink, Sender, MaySend, sent_one, sent_by}
use Rattle.con_machine.specs.HistoryLaws.{after-append, along-one, sent-other, sent-own, has_ended-one}
use Rattle.con_laws.specs.Rounds.{Begun}
use Rattle.con_laws.specs.RoundWords.{IsTurn, SideTurn, is_failed}
use Rattle.con_machine.specs.State.{State}
use Rattle.con_machine.specs.Step.{is_ready, is_due}
use Rattle.con_machine.specs.Turns.{sent, is_terminal, is_last_sent, has_ended, paints}
use Rattle.con_actors.specs.Words.Desk.{entry}
use Rattle.con_actors.specs.Words.Sender.{SideStands, FailsBy, hung}

pub ends_same : (f : Frame) → is_last_sent (sent_by f) ≡ ends_link f
ends_same (frames.Bytes bytes) = refl
ends_same frames.Quiet = refl
ends_same (frames.Resize z) = refl
ends_same frames.Ask = refl
ends_same frames.Hangup = refl
ends_same frames.End = refl

pub record SideStandsOf (es : List Event) (coming : List Frame) (cut ended : Bool) : Type 0 where
  pub follows : (c : Bool) → (cut ≡ true → c ≡ true) → (more : List Frame) → FollowsLink c (coming ++ more) es
  pub after' : ended ≡ false → (more : List Frame)
      → after sent_one (record { coming = coming ++ more; ended = false }) es ≡ record { coming = more; ended = false }
  pub ended' : has_ended false es ≡ ended
  pub all' : es ≡ map sent_by coming ++ hung cut

pub to_side : (h : List Entry) (coming : List Frame) (cut ended : Bool) → SideStandsOf (sent h) coming cut ended → SideStands h coming cut ended
to_side h coming cut ended k = record { follows = k.follows; after' = k.after'; ended' = k.ended'; all' = k.all' }

-- another's entry
pub side_other : (h : List Entry) (x : Entry) (coming : List Frame) (cut ended : Bool) → is_terminal x.actor ≡ false → SideStands h coming cut ended
    → SideStands (h ++ x ∷ []) coming cut ended
side_other h x coming cut ended n k =
    let P : List Event → Type 0 = λ es. SideStandsOf es coming cut ended in
    to_side (h ++ x ∷ []) coming cut ended
    (subst P (sym (sent-other h x n)) (record { follows = k.follows; after' = k.after'; ended' = k.ended'; all' = k.all' }))

-- a frame's event
pub one_more : (coming : List Frame) (f : Frame) (more : List Frame) → (coming ++ f ∷ []) ++ more ≡ coming ++ f ∷ more
one_more coming f more = append_assoc coming (f ∷ []) more

pub mapped_more : (coming : List Frame) (f : Frame) → map sent_by (coming ++ f ∷ []) ≡ map sent_by coming ++ sent_by f ∷ []
mapped_more [] f = refl
mapped_more (x ∷ xs) f = ap (λ (es : List Event). sent_by x ∷ es) (mapped_more xs f)

abbrev pub sender : List Frame → Bool → Sender
sender coming ended = record { coming = coming; ended = ended }

pub frame_follows : (es : List Event) (coming : List Frame) (f : Frame) → SideStandsOf es coming false false
    → SideStandsOf (es ++ sent_by f ∷ []) (coming ++ f ∷ []) false (is_last_sent (sent_by f))
frame_follows es coming f k = record {
  follows = λ c i more. let begun : Sender = record { coming = coming ++ f ∷ more; ended = false } in
      let P : List Frame → Type 0 = λ fs. Along (MaySend c) sent_one (record { coming = fs; ended = false }) (es ++ sent_by f ∷ []) in
      let Q : Sender → Type 0 = λ s. MaySend c s (sent_by f) in
      subst P (sym (one_more coming f more))
      (along-one (MaySend c) sent_one begun es (sent_by f) (k.follows c i (f ∷ more)) (subst Q (sym (k.after' refl (f ∷ more))) (refl, inl refl)));
  after' = λ n more. let begun : Sender = record { coming = coming ++ f ∷ more; ended = false } in
      ap (λ (fs : List Frame). after sent_one (record { coming = fs; ended = false }) (es ++ sent_by f ∷ [])) (one_more coming f more)
      ∙ (after-append sent_one begun es (sent_by f ∷ [])
      ∙ (ap (λ (s : Sender). sent_one s (sent_by f)) (k.after' refl (f ∷ more)) ∙ ap (λ (b : Bool). sender more b) n));
  ended' = has_ended-one false es (sent_by f);
  all' = ap (λ (x : List Event). x ++ sent_by f ∷ []) (k.all' ∙ append-nil (map sent_by coming))
      ∙ (sym (mapped_more coming f) ∙ sym (append-nil (map sent_by (coming ++ f ∷ []))));
}

pub side_frame : (h : List Entry) (coming : List Frame) (f : Frame) → SideStands h coming false false
    → SideStands (h ++ entry actors.Terminal (sent_by f) ∷ []) (coming ++ f ∷ []) false (ends_link f)
side_frame h coming f k =
    let x = entry actors.Terminal (sent_by f) in
    let P : List Event → Type 0 = λ es. SideStandsOf es (coming ++ f ∷ []) false (is_last_sent (sent_by f)) in
    let Q : Bool → Type 0 = λ b. SideStands (h ++ x ∷ []) (coming ++ f ∷ []) false b in
    subst Q (ends_same f) (to_side (h ++ x ∷ []) (coming ++ f ∷ []) false (is_last_sent (sent_by f)) (subst P (sym (sent-own h x refl))
    (frame_follows (sent h) coming f (record { follows = k.follows; after' = k.after'; ended' = k.ended'; all' = k.all' }))))

-- a Hangup that is no frame
pub hang_follows : (es : List Event) (coming : List Frame) → SideStandsOf es coming false false → SideStandsOf (es ++ events.Hangup ∷ []) coming true true
hang_follows es coming k = record {
  follows = λ c i more. let begun : Sender = record { coming = coming ++ more; ended = false } in
      let Q : Sender → Type 0 = λ s. MaySend c s events.Hangup in
      along-one (MaySend c) sent_one begun es events.Hangup (k.follows c (λ e. absurd (cc)) more)
      (subst Q (sym (k.after' refl more)) (refl, inr (i refl, refl)));
  after' = λ n more. absurd (cc);
  ended' = has_ended-one false es events.Hangup;
  all' = ap (λ (x : List Event). x ++ events.Hangup ∷ []) (k.all' ∙ append-nil (map sent_by coming));
}

pub side_hung : (h : List Entry) (coming : List Frame) → SideStands h coming false false
    → SideStands (h ++ entry actors.Terminal events.Hangup ∷ []) coming true true
side_hung h coming k =
    let x = entry actors.Terminal events.Hangup in
    let P : List Event → Type 0 = λ es. SideStandsOf es coming true true in
    to_side (h ++ x ∷ []) coming true true
    (subst P (sym (sent-own h x refl)) (hang_follows (sent h) coming (record { follows = k.follows; after' = k.after'; ended' = k.ended'; all' = k.all' })))

-- ---- the turn of the terminal's side

-- the event of a frame is ready where no Ask is out
pub both_true : (a b : Bool) → a ≡ true → b ≡ true → (a && b) ≡ true
both_true a b e f = rw (e, f) refl

pub frame_ready : (s : State) (f : Frame) → is_frame f ≡ true → s.asked ≡ false → is_ready s actors.Terminal (sent_by f) ≡ true
unfolding is_ready is_due
frame_ready s (frames.Bytes bytes) i a = ap not a
frame_ready s frames.Quiet i a = ap not a
frame_ready s (frames.Resize z) i a = both_true (is_size z) (not s.asked) i (ap not a)
frame_ready s frames.Ask i a = ap not a
frame_ready s frames.Hangup i a = refl
frame_ready s frames.End i a = ap not a

pub hangup_ready : (s : State) → is_ready s actors.Terminal events.Hangup ≡ true
unfolding is_ready is_due
hangup_ready s = refl

pub failed_now : (n : ℕ) → nat_le n n ≡ true
failed_now n = grind (arith, nat_tests)

pub ended_turn : (ended failed : Bool) → ended ≡ true → SideTurn ended failed None
ended_turn true failed e = refl
ended_turn false failed e = absurd (cc)

pub hung_turn : (ended failed : Bool) → ended ≡ false → failed ≡ true → SideTurn ended failed (Some events.Hangup)
hung_turn false true e f = refl
hung_turn false false e f = tt
hung_turn true failed e f = absurd (cc)

pub sent_turn : (ended failed : Bool) (ev : Event) → ended ≡ false → failed ≡ false → SideTurn ended failed (Some ev)
sent_turn false false ev e f = tt
sent_turn false true ev e f = absurd (cc)
sent_turn true failed ev e f = absurd (cc)

pub fails_true : (failed : Bool) (f : Option ℕ) (n : ℕ) → failed ≡ true → FailsBy failed f n → is_failed f n ≡ true
fails_true true f n e k = ap (λ (o : Option ℕ). is_failed o n) k ∙ failed_now n
fails_true false f n e k = absurd (cc)

pub fails_false : (failed : Bool) (f : Option ℕ) (n : ℕ) → failed ≡ false → FailsBy failed f n → is_failed f n ≡ false
fails_false false f n e k = k
fails_false true f n e k = absurd (cc)

pub ended_idles : (b : Begun) (h : List Entry) (ended : Bool) → has_ended false (sent h) ≡ ended → ended ≡ true → IsTurn b h actors.Terminal None
ended_idles b h ended e i = ended_turn (has_ended false (sent h)) (is_failed b.failed (paints h)) (e ∙ i)

pub hangs : (b : Begun) (h : List Entry) (ended failed : Bool) → has_ended false (sent h) ≡ ended → ended ≡ false → failed ≡ true
    → FailsBy failed b.failed (paints h) → IsTurn b h actors.Terminal (Some events.Hangup)
hangs b h ended failed e i f k = hung_turn (has_ended false (sent h)) (is_failed b.failed (paints h)) (e ∙ i) (fails_true failed b.failed (paints h) f k)

pub sends : (b : Begun) (h : List Entry) (ended failed : Bool) (ev : Event)
    → has_ended false (sent h) ≡ ended → ended ≡ false → failed ≡ false → FailsBy failed b.failed (paints h) → IsTurn b h actors.Terminal (Some ev)
sends b h ended failed ev e i f k = sent_turn (has_ended false (sent h)) (is_failed b.failed (paints h)) ev (e ∙ i) (fails_false failed b.failed (paints h) f k)

pub none_asked : (a f : Bool) → (a ≡ false) ⊎ (f ≡ true) → f ≡ false → a ≡ false
none_asked a f (inl e) n = e
none_asked a true (inr e) n = absurd (cc)
none_asked a false (inr e) n = absurd (cc)
