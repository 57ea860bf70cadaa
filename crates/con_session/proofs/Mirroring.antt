-- A round of a session with a second terminal: what is known of that terminal behind each turn.
use Rattle.std.proofs.Common.{◌≡◌, ◌⊎◌, ℕ, ◌≤◌, Bool, true, false, List, [], ◌∷◌, ◌++◌, Option}
use Rattle.std.proofs.Common.{Some, None, Result, Ok, Err, refl, sym, ap, ◌∙◌, subst, inl, inr}
use Rattle.std.specs.Prelude.{IfOk, IfSome, is_some}
use Rattle.std.specs.Result.{IsErr}
use Rattle.con_units.specs.Words.View.{IsWhole}
use Rattle.con_units.specs.declared.code.OutOfMemory.{OutOfMemory}
use Rattle.con_units.specs.declared.place.Size.{Size}
use Rattle.con_units.specs.declared.view.Frame.{Frame}
use Rattle.con_link.specs.Frames.{is_frame}
use Rattle.con_link.specs.Words.Mirrored.{is_mirror_frame}
use Rattle.con_link.specs.LinkReading.{mirrored}
use Rattle.con_link.specs.declared.fault.LinkFault.{LinkFault}
use Rattle.con_link.specs.declared.fault.LinkFault.TheVariants as faults
use Rattle.con_link.specs.declared.mirror.MirrorFrame.{MirrorFrame}
use Rattle.con_link.specs.declared.mirror.MirrorFrame.TheVariants.{Plain, Attach, Detach}
use Rattle.con_paint.specs.Painter.{Kept}
use Rattle.con_events.specs.declared.actor.Actor.TheVariants as actors
use Rattle.con_events.specs.declared.end.End.TheVariants as ends
use Rattle.con_events.specs.declared.entry.Entry.{Entry}
use Rattle.con_events.specs.declared.event.Event.TheVariants as events
use Rattle.con_events.specs.declared.reply.Reply.{Reply}
use Rattle.con_machine.specs.Follows.{sent_by}
use Rattle.con_machine.specs.History.{run}
use Rattle.con_machine.specs.Painting.{view_now}
use Rattle.con_laws.specs.Rounds.{Begun}
use Rattle.con_machine.specs.State.{State}
use Rattle.con_machine.specs.Turns.{is_terminal, is_paint}
use Rattle.con_actors.specs.Words.Desk.{entry}
use Rattle.con_actors.specs.LinkedLaws.{linked_hung, linked_stays, linked_stops}
use Rattle.con_actors.specs.Painting.{PaintTurn, PainterActs, PainterFails, Pictured, acted}
use Rattle.con_actors.specs.Second.{Mirrors}
use Rattle.con_actors.specs.Words.Second.{FollowTurn, MirrorLinkIs, SecondIs, Seconded, kept_behind}
use Rattle.con_session.proofs.SecondLaws.{second_ends, second_frame, second_hung, second_other, second_past}
use Rattle.con_actors.specs.Words.Sender.{Hears, LinkEndsBy, LinkTurnBy, plain_of}
use Rattle.con_actors.specs.declared.desk.Picture.{Picture}
use Rattle.con_actors.specs.declared.side.Side.{Side}
use Rattle.con_session.proofs.Hearing.{Took, heard_by, heard_failed, heard_few}

-- what an outcome has of the second terminal, where there was no memory
abbrev pub Lacks : State → Size → List ℕ → Option (List ℕ) → Option (List ℕ) → Bool → List MirrorFrame → List Entry → Type 0
Lacks s size es was now lost frames h = Mirrors s frames size es was now lost true h

-- ---- what goes on, and what is left

pub closed_by : (s : State) (ended : Bool) (kept : Option Kept) (es : List ℕ) (end : ℕ) (was now : Option (List ℕ)) (lost : Bool)
    (fs : List MirrorFrame) (h : List Entry) (x : Entry) → is_terminal x.actor ≡ false → is_paint x.event ≡ false
    → Seconded s ended kept es end was now lost fs h → Seconded s ended kept es end was now lost fs (h ++ x ∷ [])
closed_by s ended kept es end was now lost fs h x n p (ps, q) = (ps, second_other s ended kept ps es end was now lost fs h (h ++ x ∷ []) x refl n p q)

pub ends_by : (s : State) (ended : Bool) (kept : Option Kept) (es : List ℕ) (end : ℕ) (was now : Option (List ℕ)) (lost memory : Bool) (size : Size)
    (fs : List MirrorFrame) (h : List Entry)
    → Seconded s ended kept es end was now lost fs h → Mirrors s fs size es was now lost memory h
ends_by s ended kept es end was now lost memory size fs h (ps, q) = second_ends s ended kept ps es end was now lost lost memory size fs h (λ l m. l) q

pub past_by : (s : State) (ended : Bool) (kept : Option Kept) (es : List ℕ) (end : ℕ) (was now : Option (List ℕ)) (lost : Bool) (size : Size)
    (fs : List MirrorFrame) (h : List Entry)
    → Seconded s ended kept es end was now lost fs h → Mirrors s fs size es was now lost true (h ++ entry actors.Painter events.Paint ∷ [])
past_by s ended kept es end was now lost size fs h (ps, q) =
    second_past s ended kept ps es end was now lost lost size fs h (h ++ entry actors.Painter events.Paint ∷ []) refl q

-- ---- the turn of the terminal's side

pub mirror_frames : (read : Result MirrorFrame LinkFault) (old now : Option (List ℕ)) (taken later : ℕ) → Took mirrored read old now taken later
    → IfOk read (λ f. is_mirror_frame f ≡ true)
mirror_frames (Ok f) old now taken later (text, l, c, a) = a.1
mirror_frames (Err e) old now taken later took = tt

plain_frames : (read : Result MirrorFrame LinkFault) → IfOk read (λ f. is_mirror_frame f ≡ true) → IfOk (plain_of mirrored read) (λ f. is_frame f ≡ true)
plain_frames (Ok (Plain f)) k = k
plain_frames (Ok (Attach z)) k = refl
plain_frames (Ok Detach) k = refl
plain_frames (Err e) k = tt

pub plain_frame : (read : Result MirrorFrame LinkFault) (heard' : Result Frame LinkFault) (old now : Option (List ℕ)) (taken later : ℕ)
    → heard' ≡ plain_of mirrored read → Took mirrored read old now taken later → IfOk heard' (λ f. is_frame f ≡ true)
plain_frame read heard' old now taken later e took = let P : Result Frame LinkFault → Type 0 = λ z. IfOk z (λ f. is_frame f ≡ true) in
    subst P (sym e) (plain_frames read (mirror_frames read old now taken later took))

heard_as : (read : Result MirrorFrame LinkFault) (heard' : Result Frame LinkFault) (result : Result Bool OutOfMemory) (was side : Side) (s t : State)
    (h g : List Entry) (rs qs : List Reply) → heard' ≡ plain_of mirrored read
    → Hears result heard' was side s t h g rs qs → Hears result (plain_of mirrored read) was side s t h g rs qs
heard_as read heard' result was side s t h g rs qs e k = let P : Result Frame LinkFault → Type 0 = λ z. Hears result z was side s t h g rs qs in subst P e k

pub mirror_few : (read : Result MirrorFrame LinkFault) (heard' : Result Frame LinkFault) (result : Result Bool OutOfMemory) (was side : Side)
    (s t : State) (h g : List Entry) (rs qs : List Reply) (old now : Option (List ℕ)) (taken later : ℕ) → heard' ≡ plain_of mirrored read
    → Hears result heard' was side s t h g rs qs → Took mirrored read old now taken later → IfOk result (λ _. side.ended ≡ false → later ≤ 16777216)
mirror_few read heard' result was side s t h g rs qs old now taken later e hears took =
    heard_few mirrored read result was side s t h g rs qs old now taken later (heard_as read heard' result was side s t h g rs qs e hears) took

pub mirror_failed : (P : Type 0) (read : Result MirrorFrame LinkFault) (heard' : Result Frame LinkFault) (result : Result Bool OutOfMemory)
    (was side : Side) (s t : State) (h g : List Entry) (rs qs : List Reply) → heard' ≡ plain_of mirrored read
    → Hears result heard' was side s t h g rs qs → (read ≡ Err faults.Failed → P) → side.end ≡ ends.Link → (was.end ≡ ends.Link) ⊎ P
mirror_failed P read heard' result was side s t h g rs qs e hears rose l =
    heard_failed mirrored P read result was side s t h g rs qs (heard_as read heard' result was side s t h g rs qs e hears) rose l

-- a frame or a fault was heard
pub mirror_heard : (read : Result MirrorFrame LinkFault) (heard' : Result Frame LinkFault) (result : Result Bool OutOfMemory) (was side : Side)
    (s t : State) (h g : List Entry) (rs qs : List Reply) (failed : Bool) (old left : Option (List ℕ)) (taken later : ℕ) (kept new : Option Kept)
    → heard' ≡ plain_of mirrored read → was.ended ≡ false → Hears result heard' was side s t h g rs qs → Took mirrored read old left taken later
    → new ≡ kept_behind kept read
    → (b : State) (size : Size) (es : List ℕ) (end : ℕ) (before' now : Option (List ℕ)) (lost : Bool) (before : Option (List ℕ))
    → MirrorLinkIs b kept es end before' now lost h was failed before old taken
    → LinkTurnBy mirrored (Seconded b side.ended new es end before' now lost)
    (λ frames z. Mirrors b frames size es before' now lost true z) result g side failed before left later
mirror_heard read heard' result was side s t h g rs qs failed old left taken later kept new e n hears took attends b size es end before' now lost before k =
    let M : Bool → Option Kept → List MirrorFrame → List Entry → Type 0 = λ ended o fs z. Seconded b ended o es end before' now lost fs z in
    heard_by mirrored (M was.ended kept) (M side.ended new) (Lacks b size es before' now lost) read result was side s t h g rs qs failed before old left
    taken later n (heard_as read heard' result was side s t h g rs qs e hears) took
    (λ f i d fs m. attends_frame f i d fs m) (λ x i c d fs m. attends_none x i c d fs m) (λ d fs m. stops_here d fs m) k
  where
    attends_frame : (f : MirrorFrame) → read ≡ Ok f → g ≡ h ++ entry actors.Terminal (sent_by (mirrored.plain f)) ∷ [] → (fs : List MirrorFrame)
        → Seconded b was.ended kept es end before' now lost fs h → Seconded b side.ended new es end before' now lost (fs ++ f ∷ []) g
    attends_frame f i d fs (ps, q) =
        let P : Option Kept → Type 0 = λ z. SecondIs b side.ended z ps es end before' now lost (fs ++ f ∷ []) g in
        let Q : Bool → Type 0 = λ z. SecondIs b z kept ps es end before' now lost fs h in (
          ps,
          subst P (sym (attends ∙ ap (λ (z : Result MirrorFrame LinkFault). kept_behind kept z) i))
              (second_frame b side.ended kept ps es end before' now lost fs h g f d (subst Q n q)),
        )

    attends_none : (x : LinkFault) → read ≡ Err x → side.ended ≡ true → g ≡ h ++ entry actors.Terminal events.Hangup ∷ [] → (fs : List MirrorFrame)
        → Seconded b was.ended kept es end before' now lost fs h → Seconded b side.ended new es end before' now lost fs g
    attends_none x i c d fs (ps, q) =
        let P : Option Kept → Type 0 = λ z. SecondIs b side.ended z ps es end before' now lost fs g in
        let Q : Bool → Type 0 = λ z. SecondIs b z kept ps es end before' now lost fs g in (
          ps,
          subst P (sym (attends ∙ ap (λ (z : Result MirrorFrame LinkFault). kept_behind kept z) i))
              (subst Q (sym c) (second_hung b kept ps es end before' now lost fs h g was.ended d q)),
        )

    stops_here : g ≡ h → (fs : List MirrorFrame) → Seconded b was.ended kept es end before' now lost fs h → Mirrors b fs size es before' now lost true g
    stops_here d fs m = let P : List Entry → Type 0 = λ z. Mirrors b fs size es before' now lost true z in
        subst P (sym d) (ends_by b was.ended kept es end before' now lost true size fs h m)

-- the hangup where the terminal has failed
pub mirror_hung : (s : State) (kept : Option Kept) (es : List ℕ) (end : ℕ) (was now : Option (List ℕ)) (lost : Bool) (h g : List Entry) (side : Side)
    (failed : Bool) (before left : Option (List ℕ)) (taken : ℕ) → side.ended ≡ false → failed ≡ true → g ≡ h ++ entry actors.Terminal events.Hangup ∷ []
    → MirrorLinkIs s kept es end was now lost h side failed before left taken
    → MirrorLinkIs s kept es end was now lost g (record { ended = true; end = side.end }) failed before left taken
mirror_hung s kept es end was now lost h g side failed before left taken n f e k =
    linked_hung mirrored (Seconded s side.ended kept es end was now lost) (Seconded s true kept es end was now lost) h g side failed before left taken n f e
    (λ fs (ps, q). (ps, second_hung s kept ps es end was now lost fs h g side.ended e q)) k

-- where there was no memory, before and behind what was read
pub mirror_stays : (s : State) (kept : Option Kept) (es : List ℕ) (end : ℕ) (was now : Option (List ℕ)) (lost : Bool) (size : Size) (h : List Entry)
    (side : Side) (failed : Bool) (before left : Option (List ℕ)) (taken : ℕ)
    → MirrorLinkIs s kept es end was now lost h side failed before left taken → LinkEndsBy mirrored (Lacks s size es was now lost) h before left
mirror_stays s kept es end was now lost size h side failed before left taken k =
    linked_stays mirrored (Seconded s side.ended kept es end was now lost) (Lacks s size es was now lost) h side failed before left taken
    (λ fs m. ends_by s side.ended kept es end was now lost true size fs h m) k

pub mirror_stops : (s : State) (kept : Option Kept) (es : List ℕ) (end : ℕ) (was now : Option (List ℕ)) (lost : Bool) (size : Size) (h : List Entry)
    (side : Side) (failed : Bool) (before old left : Option (List ℕ)) (taken later : ℕ) (read : Result MirrorFrame LinkFault) → side.ended ≡ false
    → Took mirrored read old left taken later → MirrorLinkIs s kept es end was now lost h side failed before old taken
    → LinkEndsBy mirrored (Lacks s size es was now lost) h before left
mirror_stops s kept es end was now lost size h side failed before old left taken later read n took k =
    linked_stops mirrored (Seconded s side.ended kept es end was now lost) (Lacks s size es was now lost) h side failed before old left taken later read
    n took (λ fs m. ends_by s side.ended kept es end was now lost true size fs h m) k

-- ---- the painter's turn

-- by whether a Paint was entered
pub by_some : (P : Result Bool OutOfMemory → Type 0) (o : Option Picture) (a : Bool) → a ≡ is_some o → P (acted (Ok o)) → P (Ok a)
by_some P (Some p) a e k = let Q : Bool → Type 0 = λ z. P (Ok z) in subst Q (sym e) k
by_some P None a e k = let Q : Bool → Type 0 = λ z. P (Ok z) in subst Q (sym e) k

pub pictured_whole : (o : Option Picture) (s t : State) (h g : List Entry) (rs qs : List Reply) → Pictured (Ok o) s t h g rs qs → IfSome o (λ p. IsWhole p.view)
pictured_whole (Some p) s t h g rs qs k = k.1
pictured_whole None s t h g rs qs k = tt

pictured_view : (o : Option Picture) (start s t : State) (h g : List Entry) (rs qs : List Reply) → s ≡ run start h → Pictured (Ok o) s t h g rs qs
    → IfSome o (λ p. p.view ≡ view_now (run start h))
pictured_view (Some p) start s t h g rs qs i k = k.0.view ∙ ap (λ (z : State). view_now z) i
pictured_view None start s t h g rs qs i k = tt

-- the second terminal behind it
pub followed_by : (o : Option Picture) (a : Bool) (start s t : State) (h g : List Entry) (rs qs : List Reply) (ended : Bool) (kept new : Option Kept)
    (es xs : List ℕ) (end upto : ℕ) (was now later : Option (List ℕ)) (lost more : Bool)
    → Pictured (Ok o) s t h g rs qs
    → ((ps : List (List ℕ)) (fs : List MirrorFrame) → IfSome o (λ p. p.view ≡ view_now (run start h))
    → SecondIs start ended kept ps es end was now lost fs h → FollowTurn (Ok a) o start ended new xs upto was later more fs h)
    → s ≡ run start h → (fs : List MirrorFrame) → Seconded start ended kept es end was now lost fs h → Seconded start ended new xs upto was later more fs g
followed_by (Some p) a start s t h g rs qs ended kept new es xs end upto was now later lost more pic turn i fs (ps, q) =
    let P : List Entry → Type 0 = λ z. Seconded start ended new xs upto was later more fs z in
    subst P (sym pic.2.enters.entries) (turn ps fs (pictured_view (Some p) start s t h g rs qs i pic) q)
followed_by None a start s t h g rs qs ended kept new es xs end upto was now later lost more pic turn i fs (ps, q) =
    let P : List Entry → Type 0 = λ z. Seconded start ended new xs upto was later more fs z in
    subst P (sym pic.entries) (turn ps fs tt q)

-- where there was no memory in it
pub followed_none : (o : Option Picture) (start s t : State) (h g : List Entry) (rs qs : List Reply) (ended : Bool) (kept : Option Kept)
    (es xs : List ℕ) (end : ℕ) (was now later : Option (List ℕ)) (lost more : Bool) (size : Size)
    → is_some o ≡ true → Pictured (Ok o) s t h g rs qs
    → ((ps : List (List ℕ)) (fs : List MirrorFrame) → IfSome o (λ p. p.view ≡ view_now (run start h)) → SecondIs start ended kept ps es end was now lost fs h
    → (z : Size) → Mirrors start fs z xs was later more true (h ++ entry actors.Painter events.Paint ∷ []))
    → s ≡ run start h → (fs : List MirrorFrame) → Seconded start ended kept es end was now lost fs h → Mirrors start fs size xs was later more true g
followed_none None start s t h g rs qs ended kept es xs end was now later lost more size some pic turn i fs m = absurd (cc)
followed_none (Some p) start s t h g rs qs ended kept es xs end was now later lost more size some pic turn i fs (ps, q) =
    let P : List Entry → Type 0 = λ z. Mirrors start fs size xs was later more true z in
    subst P (sym pic.2.enters.entries) (turn ps fs (pictured_view (Some p) start s t h g rs qs i pic) q size)

-- ---- what the painter's turn says, by whether a Paint was entered

pub fails_some : (o : Option Picture) (a : Bool) (old new : Bool) → a ≡ is_some o → PainterFails (acted (Ok o)) old new → PainterFails (Ok a) old new
fails_some o a old new e k = by_some (λ r. PainterFails r old new) o a e k

pub acts_some : (o : Option Picture) (a : Bool) (b : Begun) (h : List Entry) → a ≡ is_some o → PainterActs (acted (Ok o)) b h → PainterActs (Ok a) b h
acts_some o a b h e k = by_some (λ r. PainterActs r b h) o a e k

pub paint_some : (o : Option Picture) (a : Bool) (b : Begun) (s t : State) (h g : List Entry) (rs qs : List Reply) (size : Size) (kept : Kept)
    (ps : List (List ℕ)) (es : List ℕ) (end : ℕ) (before now : Option (List ℕ)) (failed : Bool) → a ≡ is_some o
    → PaintTurn (acted (Ok o)) b s t h g rs qs size kept ps es end before now failed → PaintTurn (Ok a) b s t h g rs qs size kept ps es end before now failed
paint_some o a b s t h g rs qs size kept ps es end before now failed e k =
    by_some (λ r. PaintTurn r b s t h g rs qs size kept ps es end before now failed) o a e k

-- ---- the cause of a failure

pub cause_now : (P : Type 0) (was new failed : Bool) → was ≡ false → (new ≡ true → (was ≡ true) ⊎ P) → failed ≡ new → failed ≡ true → P
cause_now P was new failed w f e t = elim (f (sym e ∙ t)) [ inl x ↦ absurd (let z = sym w ∙ x in cc) | inr p ↦ p ]

-- ---- the second terminal's part of it

pub view_in : (o : Option Picture) (p : Picture) (s : State) (h : List Entry)
    → o ≡ Some p → IfSome o (λ q. q.view ≡ view_now (run s h)) → p.view ≡ view_now (run s h)
view_in (Some q) p s h e k = let i : q ≡ p = cc in let P : Picture → Type 0 = λ z. z.view ≡ view_now (run s h) in subst P i k
view_in None p s h e k = absurd (cc)

pub follow_some : (a : Bool) (o : Option Picture) (p : Picture) (s : State) (ended : Bool) (kept : Option Kept) (es : List ℕ) (end : ℕ)
    (before now : Option (List ℕ)) (failed : Bool) (fs : List MirrorFrame) (h : List Entry) → o ≡ Some p
    → Seconded s ended kept es end before now failed fs (h ++ entry actors.Painter events.Paint ∷ [])
    → FollowTurn (Ok a) o s ended kept es end before now failed fs h
follow_some a (Some q) p s ended kept es end before now failed fs h e k = k
follow_some a None p s ended kept es end before now failed fs h e k = absurd (cc)

pub follow_none : (a : Bool) (o : Option Picture) (s : State) (ended : Bool) (kept : Option Kept) (es : List ℕ) (end : ℕ) (before now : Option (List ℕ))
    (failed : Bool) (fs : List MirrorFrame) (h : List Entry) → o ≡ None
    → Seconded s ended kept es end before now failed fs h → FollowTurn (Ok a) o s ended kept es end before now failed fs h
follow_none a None s ended kept es end before now failed fs h e k = k
follow_none a (Some q) s ended kept es end before now failed fs h e k = absurd (cc)

pub follow_err : (result : Result Bool OutOfMemory) (o : Option Picture) (s : State) (ended : Bool) (kept : Option Kept) (es : List ℕ) (end : ℕ)
    (before now : Option (List ℕ)) (failed : Bool) (fs : List MirrorFrame) (h : List Entry) → IsErr result
    → ((size : Size) → Mirrors s fs size es before now failed true (h ++ entry actors.Painter events.Paint ∷ []))
    → FollowTurn result o s ended kept es end before now failed fs h
follow_err (Ok a) o s ended kept es end before now failed fs h i k = absurd (cc)
follow_err (Err e) o s ended kept es end before now failed fs h i k = k
