-- What the terminal's side makes of what was read of the link, in either way of reading it.
use Rattle.std.proofs.Common.{◌≡◌, ◌⊎◌, ℕ, ◌+◌, ◌≤◌, Bool, true, false, List, [], ◌∷◌, ◌++◌, length}
use Rattle.std.proofs.Common.{Option, Some, None, Result, Ok, Err, refl, sym, ap, ◌∙◌, subst, inl, inr}
use Rattle.std.specs.Prelude.{IfOk}
use Rattle.std.specs.Result.{IsErr}
use Rattle.con_units.specs.declared.code.OutOfMemory.{OutOfMemory}
use Rattle.con_units.specs.declared.place.Size.{Size}
use Rattle.con_units.specs.declared.view.Frame.{Frame}
use Rattle.con_outside.specs.Outside.{then_left}
use Rattle.con_link.specs.Frames.{ends_link, is_frame}
use Rattle.con_link.specs.LinkReading.{LinkReading, plainly, AnswersBy}
use Rattle.con_link.specs.declared.fault.LinkFault.{LinkFault}
use Rattle.con_link.specs.declared.fault.LinkFault.TheVariants as faults
use Rattle.con_paint.specs.Painter.{Kept}
use Rattle.con_events.specs.declared.actor.Actor.TheVariants as actors
use Rattle.con_events.specs.declared.end.End.{End}
use Rattle.con_events.specs.declared.end.End.TheVariants as ends
use Rattle.con_events.specs.declared.entry.Entry.{Entry}
use Rattle.con_events.specs.declared.event.Event.{Event}
use Rattle.con_events.specs.declared.event.Event.TheVariants as events
use Rattle.con_events.specs.declared.reply.Reply.{Reply}
use Rattle.con_machine.specs.Follows.{sent_by}
use Rattle.con_laws.specs.Rounds.{Begun}
use Rattle.con_machine.specs.State.{State}
use Rattle.con_machine.specs.Step.{is_ready}
use Rattle.con_machine.specs.Turns.{sent, has_ended, paints}
use Rattle.con_actors.specs.CanvasLaws.{ends_as}
use Rattle.con_actors.specs.Words.Desk.{Enters, Rests, entry}
use Rattle.con_actors.specs.LinkLaws.{failed_for}
use Rattle.con_actors.specs.LinkedLaws.{linked_frame, linked_fault, linked_stops}
use Rattle.con_actors.specs.Painting.{CanvasEnds, EntersPaint, PaintTurn, acted}
use Rattle.con_actors.specs.Words.Sender.{FailsBy, Hears, LinkBy, LinkEndsBy, LinkIs, LinkTurn, LinkTurnBy, NoMore, SenderTurn, end_for, plain_of}
use Rattle.con_actors.specs.SenderLaws.{frame_ready, hangup_ready, none_asked, sends}
use Rattle.con_actors.specs.declared.desk.Picture.{Picture}
use Rattle.con_actors.specs.declared.side.Side.{Side}

-- what was read of the link, and how far the reader is then
abbrev pub Took : (R : LinkReading) → Result R.One LinkFault → Option (List ℕ) → Option (List ℕ) → ℕ → ℕ → Type 0
Took R read old now taken later = (text : List ℕ) × (old ≡ then_left text now) × (later ≡ taken + length text) × AnswersBy R read taken text now

as_read : (read : Result Frame LinkFault) → plain_of plainly read ≡ read
as_read (Ok f) = refl
as_read (Err e) = refl

pub read_frame : (read : Result Frame LinkFault) (old now : Option (List ℕ)) (taken later : ℕ) → Took plainly read old now taken later
    → IfOk read (λ f. is_frame f ≡ true)
read_frame (Ok f) old now taken later (text, l, c, a) = a.1
read_frame (Err e) old now taken later took = tt

-- a frame's event is ready where no Ask is out
pub event_ready : (s : State) (read : Result Frame LinkFault) (f : Frame) (ev : Event)
    → read ≡ Ok f → ev ≡ sent_by f → IfOk read (λ g. is_frame g ≡ true) → s.asked ≡ false → is_ready s actors.Terminal ev ≡ true
event_ready s (Ok g) f ev i e k a =
    let q : g ≡ f = cc in
    let P : Event → Type 0 = λ x. is_ready s actors.Terminal x ≡ true in
    let Q : Frame → Type 0 = λ x. is_frame x ≡ true in
    subst P (sym e) (frame_ready s f (subst Q q k) a)
event_ready s (Err x) f ev i e k a = absurd (cc)

-- what was entered is what was heard
pub hears_frame : (read : Result Frame LinkFault) (f : Frame) (ev : Event) (ended : Bool) (was side : Side) (s t : State) (h g : List Entry)
    (rs qs : List Reply) → read ≡ Ok f → ev ≡ sent_by f → ended ≡ ends_link f → side ≡ record { ended = ended; end = was.end }
    → Enters s t h g rs qs actors.Terminal ev → Hears (Ok true) read was side s t h g rs qs
hears_frame (Ok x) f ev ended was side s t h g rs qs i e d q k =
    let same : x ≡ f = cc in
    let P : Event → Type 0 = λ z. Enters s t h g rs qs actors.Terminal z in
    (refl, subst P (e ∙ ap sent_by (sym same)) k, q ∙ ap (λ (b : Bool). let z : Side = record { ended = b; end = was.end } in z) (d ∙ ap ends_link (sym same)))
hears_frame (Err x) f ev ended was side s t h g rs qs i e d q k = absurd (cc)

pub hears_fault : (read : Result Frame LinkFault) (f : LinkFault) (end : End) (was side : Side) (s t : State) (h g : List Entry) (rs qs : List Reply)
    → read ≡ Err f → end ≡ end_for f → side ≡ record { ended = true; end = end }
    → Enters s t h g rs qs actors.Terminal events.Hangup → Hears (Ok true) read was side s t h g rs qs
hears_fault (Ok x) f end was side s t h g rs qs i e q k = absurd (cc)
hears_fault (Err x) f end was side s t h g rs qs i e q k =
    let same : x ≡ f = cc in
    (refl, k, q ∙ ap (λ (z : End). let y : Side = record { ended = true; end = z } in y) (e ∙ ap end_for (sym same)))

-- ---- the turn

pub heard_turn : (read : Result Frame LinkFault) (result : Result Bool OutOfMemory) (was side : Side) (b : Begun) (s t : State) (h g : List Entry)
    (rs qs : List Reply) (failed : Bool)
    → was.ended ≡ false → failed ≡ false → (s.asked ≡ false) ⊎ (failed ≡ true) → IfOk read (λ f. is_frame f ≡ true) → Hears result read was side s t h g rs qs
    → FailsBy failed b.failed (paints h) → has_ended false (sent h) ≡ was.ended → SenderTurn result b s t h g rs qs
heard_turn (Ok f) (Ok true) was side b s t h g rs qs failed n m o i (a, enters, e) k j = record {
  event = sent_by f;
  enters = enters;
  ready = frame_ready s f i (none_asked s.asked failed o m);
  turn = sends b h was.ended failed (sent_by f) j n m k;
}
heard_turn (Err x) (Ok true) was side b s t h g rs qs failed n m o i (a, enters, e) k j =
    record { event = events.Hangup; enters = enters; ready = hangup_ready s; turn = sends b h was.ended failed events.Hangup j n m k }
heard_turn (Ok f) (Ok false) was side b s t h g rs qs failed n m o i (a, enters, e) k j = absurd (cc)
heard_turn (Err x) (Ok false) was side b s t h g rs qs failed n m o i (a, enters, e) k j = absurd (cc)
heard_turn (Ok f) (Err lack) was side b s t h g rs qs failed n m o i (rests, same) k j = rests
heard_turn (Err x) (Err lack) was side b s t h g rs qs failed n m o i (rests, same) k j = rests

-- the link behind it, and what more is known of its frames
pub heard_by : (R : LinkReading) (M0 M1 Then : List R.One → List Entry → Type 0) (read : Result R.One LinkFault) (result : Result Bool OutOfMemory)
    (was side : Side) (s t : State) (h g : List Entry) (rs qs : List Reply) (failed : Bool) (before old now : Option (List ℕ)) (taken later : ℕ)
    → was.ended ≡ false → Hears result (plain_of R read) was side s t h g rs qs → Took R read old now taken later
    → ((f : R.One) → read ≡ Ok f → g ≡ h ++ entry actors.Terminal (sent_by (R.plain f)) ∷ [] → (fs : List R.One) → M0 fs h → M1 (fs ++ f ∷ []) g)
    → ((e : LinkFault) → read ≡ Err e → side.ended ≡ true → g ≡ h ++ entry actors.Terminal events.Hangup ∷ [] → (fs : List R.One) → M0 fs h → M1 fs g)
    → (g ≡ h → (fs : List R.One) → M0 fs h → Then fs g)
    → LinkBy R M0 h was failed before old taken → LinkTurnBy R M1 Then result g side failed before now later
heard_by R M0 M1 Then (Ok f) (Ok a) was side s t h g rs qs failed before old now taken later n (i, enters, e) took grows hangs stops k =
    let P : Side → Type 0 = λ z. LinkBy R M1 g z failed before now later in
    subst P (sym e)
    (linked_frame R M0 M1 h g was failed before old now taken later f (ends_link (R.plain f)) n enters.entries refl took (grows f refl enters.entries) k)
heard_by R M0 M1 Then (Err x) (Ok a) was side s t h g rs qs failed before old now taken later n (i, enters, e) took grows hangs stops k =
    let P : Side → Type 0 = λ z. LinkBy R M1 g z failed before now later in
    subst P (sym e) (linked_fault R M0 M1 h g was failed before old now taken later x (end_for x) n enters.entries refl took
    (hangs x refl (ap (λ (z : Side). z.ended) e) enters.entries) k)
heard_by R M0 M1 Then (Ok f) (Err lack) was side s t h g rs qs failed before old now taken later n (rests, same) took grows hangs stops k =
    let P : List Entry → Type 0 = λ z. ((fs : List R.One) → M0 fs h → Then fs z) → LinkEndsBy R Then z before now in
    subst P (sym rests.entries) (λ m. linked_stops R M0 Then h was failed before old now taken later (Ok f) n took m k) (stops rests.entries)
heard_by R M0 M1 Then (Err x) (Err lack) was side s t h g rs qs failed before old now taken later n (rests, same) took grows hangs stops k =
    let P : List Entry → Type 0 = λ z. ((fs : List R.One) → M0 fs h → Then fs z) → LinkEndsBy R Then z before now in
    subst P (sym rests.entries) (λ m. linked_stops R M0 Then h was failed before old now taken later (Err x) n took m k) (stops rests.entries)

-- no more bytes were taken than a link may have, while it goes on
pub heard_few : (R : LinkReading) (read : Result R.One LinkFault) (result : Result Bool OutOfMemory) (was side : Side) (s t : State) (h g : List Entry)
    (rs qs : List Reply) (old now : Option (List ℕ)) (taken later : ℕ)
    → Hears result (plain_of R read) was side s t h g rs qs → Took R read old now taken later → IfOk result (λ _. side.ended ≡ false → later ≤ 16777216)
heard_few R (Ok f) (Ok a) was side s t h g rs qs old now taken later hears (text, l, c, answered) = λ e.
    let b : taken + length text ≤ 16777216 = answered.3 in
    let P : ℕ → Type 0 = λ z. z ≤ 16777216 in subst P (sym c) b
heard_few R (Err x) (Ok a) was side s t h g rs qs old now taken later (i, enters, e) took =
    λ n. absurd (let z : true ≡ false = sym (ap (λ (y : Side). y.ended) e) ∙ n in cc)
heard_few R (Ok f) (Err lack) was side s t h g rs qs old now taken later hears took = tt
heard_few R (Err x) (Err lack) was side s t h g rs qs old now taken later hears took = tt

-- only a failed source ends a session with Link
pub heard_failed : (R : LinkReading) (P : Type 0) (read : Result R.One LinkFault) (result : Result Bool OutOfMemory) (was side : Side) (s t : State)
    (h g : List Entry) (rs qs : List Reply)
    → Hears result (plain_of R read) was side s t h g rs qs → (read ≡ Err faults.Failed → P) → side.end ≡ ends.Link → (was.end ≡ ends.Link) ⊎ P
heard_failed R P (Ok f) (Ok a) was side s t h g rs qs (i, enters, e) rose l = inl (sym (ap (λ (y : Side). y.end) e) ∙ l)
heard_failed R P (Err x) (Ok a) was side s t h g rs qs (i, enters, e) rose l = inr (rose (failed_is x (failed_for x (sym (ap (λ (y : Side). y.end) e) ∙ l))))
  where
    failed_is : (z : LinkFault) → z ≡ faults.Failed → (let r : Result R.One LinkFault = Err z in r) ≡ Err faults.Failed
    failed_is z q = ap (λ (y : LinkFault). let r : Result R.One LinkFault = Err y in r) q
heard_failed R P (Ok f) (Err lack) was side s t h g rs qs (rests, same) rose l = inl (sym (ap (λ (y : Side). y.end) same) ∙ l)
heard_failed R P (Err x) (Err lack) was side s t h g rs qs (rests, same) rose l = inl (sym (ap (λ (y : Side). y.end) same) ∙ l)

-- ---- of a link with no second terminal

as_heard : (read : Result Frame LinkFault) (result : Result Bool OutOfMemory) (was side : Side) (s t : State) (h g : List Entry) (rs qs : List Reply)
    → Hears result read was side s t h g rs qs → Hears result (plain_of plainly read) was side s t h g rs qs
as_heard read result was side s t h g rs qs k =
    let P : Result Frame LinkFault → Type 0 = λ z. Hears result z was side s t h g rs qs in subst P (sym (as_read read)) k

pub heard_link : (read : Result Frame LinkFault) (result : Result Bool OutOfMemory) (was side : Side) (s t : State) (h g : List Entry)
    (rs qs : List Reply) (failed : Bool) (before old now : Option (List ℕ)) (taken later : ℕ)
    → was.ended ≡ false → Hears result read was side s t h g rs qs → Took plainly read old now taken later → LinkIs h was failed before old taken
    → LinkTurn result g side failed before now later
heard_link read result was side s t h g rs qs failed before old now taken later n hears took k =
    heard_by plainly NoMore NoMore NoMore read result was side s t h g rs qs failed before old now taken later n
    (as_heard read result was side s t h g rs qs hears) took (λ f i e fs m. tt) (λ x i d e fs m. tt) (λ e fs m. tt) k

pub plain_few : (read : Result Frame LinkFault) (result : Result Bool OutOfMemory) (was side : Side) (s t : State) (h g : List Entry)
    (rs qs : List Reply) (old now : Option (List ℕ)) (taken later : ℕ)
    → Hears result read was side s t h g rs qs → Took plainly read old now taken later → IfOk result (λ _. side.ended ≡ false → later ≤ 16777216)
plain_few read result was side s t h g rs qs old now taken later hears took =
    heard_few plainly read result was side s t h g rs qs old now taken later (as_heard read result was side s t h g rs qs hears) took

pub plain_failed : (P : Type 0) (read : Result Frame LinkFault) (result : Result Bool OutOfMemory) (was side : Side) (s t : State)
    (h g : List Entry) (rs qs : List Reply)
    → Hears result read was side s t h g rs qs → (read ≡ Err faults.Failed → P) → side.end ≡ ends.Link → (was.end ≡ ends.Link) ⊎ P
plain_failed P read result was side s t h g rs qs hears rose l =
    heard_failed plainly P read result was side s t h g rs qs (as_heard read result was side s t h g rs qs hears) rose l

-- ---- whether it was painted

pub painted_ok : (P : Type 0) (painted : Result (Option Picture) OutOfMemory) (result : Result Bool OutOfMemory)
    → result ≡ acted painted → IfOk painted (λ _. P) → IfOk result (λ _. P)
painted_ok P painted result e k = let Q : Result Bool OutOfMemory → Type 0 = λ r. IfOk r (λ _. P) in subst Q (sym e) (by_case painted k)
  where
    by_case : (z : Result (Option Picture) OutOfMemory) → IfOk z (λ _. P) → IfOk (acted z) (λ _. P)
    by_case (Ok (Some p)) i = i
    by_case (Ok None) i = i
    by_case (Err x) i = tt

-- an answer that is no value
pub paint_lacks : (b : Begun) (s t : State) (h g : List Entry) (rs qs : List Reply) (size : Size) (kept : Kept) (ps : List (List ℕ)) (es : List ℕ)
    (end : ℕ) (before now : Option (List ℕ)) (failed : Bool) (result : Result (Option Picture) OutOfMemory) → IsErr result
    → (Rests s t h g rs qs ⊎ EntersPaint s t h g rs qs) → (old : List ℕ) → es ≡ old → CanvasEnds b g size old before now
    → PaintTurn (acted result) b s t h g rs qs size kept ps es end before now failed
paint_lacks b s t h g rs qs size kept ps es end before now failed (Ok x) i e old same k = absurd (cc)
paint_lacks b s t h g rs qs size kept ps es end before now failed (Err x) i e old same k = (e, ends_as b g size es old before now same k)
