-- What was read of a link with no second terminal behind one more turn, and what a turn answers of it.
use Rattle.std.specs.Prelude.{◌≡◌, ℕ, ◌+◌, Bool, true, false, List, [], ◌∷◌, ◌++◌, length, Option, Result, Ok, Err, IfOk}
use Rattle.std.proofs.Common.{refl}
use Rattle.std.specs.Result.{IsErr}
use Rattle.con_units.specs.declared.code.OutOfMemory.{OutOfMemory}
use Rattle.con_units.specs.declared.view.Frame.{Frame}
use Rattle.con_outside.specs.Outside.{then_left}
use Rattle.con_link.specs.Plainly.{Answers}
use Rattle.con_link.specs.Frames.{ends_link}
use Rattle.con_link.specs.LinkReading.{plainly}
use Rattle.con_link.specs.declared.fault.LinkFault.{LinkFault}
use Rattle.con_link.specs.declared.fault.LinkFault.TheVariants as faults
use Rattle.con_events.specs.declared.actor.Actor.TheVariants as actors
use Rattle.con_events.specs.declared.end.End.{End}
use Rattle.con_events.specs.declared.end.End.TheVariants as ends
use Rattle.con_events.specs.declared.entry.Entry.{Entry}
use Rattle.con_events.specs.declared.event.Event.TheVariants as events
use Rattle.con_events.specs.declared.reply.Reply.{Reply}
use Rattle.con_machine.specs.Follows.{sent_by}
use Rattle.con_machine.specs.Turns.{is_terminal}
use Rattle.con_laws.specs.Rounds.{Begun}
use Rattle.con_machine.specs.State.{State}
use Rattle.con_actors.specs.Words.Desk.{Rests, entry}
use Rattle.con_actors.specs.LinkedLaws.{linked_other, linked_failed, linked_hung, linked_frame, linked_fault, linked_stays, linked_stops}
use Rattle.con_actors.specs.Words.Sender.{LinkIs, LinkEnds, NoMore, SenderTurn, end_for}
use Rattle.con_actors.specs.declared.side.Side.{Side}

-- another's entry
pub link_other : (h g : List Entry) (x : Entry) (side : Side) (failed : Bool) (before now : Option (List ℕ)) (taken : ℕ)
    → g ≡ h ++ x ∷ [] → is_terminal x.actor ≡ false → LinkIs h side failed before now taken → LinkIs g side failed before now taken
link_other h g x side failed before now taken e n k = linked_other plainly NoMore h g x side failed before now taken e n (λ fs m. tt) k

-- the terminal has failed
pub link_failed : (h : List Entry) (side : Side) (failed more : Bool) (before now : Option (List ℕ)) (taken : ℕ)
    → (failed ≡ true → more ≡ true) → LinkIs h side failed before now taken → LinkIs h side more before now taken
link_failed h side failed more before now taken i k = linked_failed plainly NoMore NoMore h side failed more before now taken i (λ fs m. tt) k

pub link_hung : (h g : List Entry) (side : Side) (failed : Bool) (before now : Option (List ℕ)) (taken : ℕ)
    → side.ended ≡ false → failed ≡ true → g ≡ h ++ entry actors.Terminal events.Hangup ∷ [] → LinkIs h side failed before now taken
    → LinkIs g (record { ended = true; end = side.end }) failed before now taken
link_hung h g side failed before now taken n f e k = linked_hung plainly NoMore NoMore h g side failed before now taken n f e (λ fs m. tt) k

pub link_frame : (h g : List Entry) (side : Side) (failed : Bool) (before old now : Option (List ℕ)) (taken later : ℕ) (f : Frame) (ended : Bool)
    → side.ended ≡ false → g ≡ h ++ entry actors.Terminal (sent_by f) ∷ [] → ended ≡ ends_link f
    → ((text : List ℕ) × (old ≡ then_left text now) × (later ≡ taken + length text) × Answers (Ok f) taken text now)
    → LinkIs h side failed before old taken → LinkIs g (record { ended = ended; end = side.end }) failed before now later
link_frame h g side failed before old now taken later f ended n e d took k =
    linked_frame plainly NoMore NoMore h g side failed before old now taken later f ended n e d took (λ fs m. tt) k

pub link_fault : (h g : List Entry) (side : Side) (failed : Bool) (before old now : Option (List ℕ)) (taken later : ℕ) (f : LinkFault) (end : End)
    → side.ended ≡ false → g ≡ h ++ entry actors.Terminal events.Hangup ∷ [] → end ≡ end_for f
    → ((text : List ℕ) × (old ≡ then_left text now) × (later ≡ taken + length text) × Answers (Err f) taken text now)
    → LinkIs h side failed before old taken → LinkIs g (record { ended = true; end = end }) failed before now later
link_fault h g side failed before old now taken later f end n e d took k =
    linked_fault plainly NoMore NoMore h g side failed before old now taken later f end n e d took (λ fs m. tt) k

-- only a failed source ends a session with Link
pub failed_for : (f : LinkFault) → end_for f ≡ ends.Link → f ≡ faults.Failed
failed_for faults.Failed e = refl
failed_for faults.TooLong e = absurd (cc)
failed_for (faults.Bad place kind) e = absurd (cc)
failed_for faults.OutOfMemory e = absurd (cc)

-- ---- where there is no memory

pub link_stays : (h : List Entry) (side : Side) (failed : Bool) (before now : Option (List ℕ)) (taken : ℕ)
    → LinkIs h side failed before now taken → LinkEnds h before now
link_stays h side failed before now taken k = linked_stays plainly NoMore NoMore h side failed before now taken (λ fs m. tt) k

-- what was taken behind the frames
pub link_stops : (h : List Entry) (side : Side) (failed : Bool) (before old now : Option (List ℕ)) (taken later : ℕ) (r : Result Frame LinkFault)
    → side.ended ≡ false
    → ((text : List ℕ) × (old ≡ then_left text now) × (later ≡ taken + length text) × Answers r taken text now) → LinkIs h side failed before old taken
    → LinkEnds h before now
link_stops h side failed before old now taken later r n took k =
    linked_stops plainly NoMore NoMore h side failed before old now taken later r n took (λ fs m. tt) k

pub sender_err : (b : Begun) (s t : State) (h g : List Entry) (rs qs : List Reply) (result : Result Bool OutOfMemory)
    → IsErr result → Rests s t h g rs qs → SenderTurn result b s t h g rs qs
sender_err b s t h g rs qs (Ok x) i r = absurd (cc)
sender_err b s t h g rs qs (Err x) i r = r

pub no_ok : (P : Bool → Type 0) (result : Result Bool OutOfMemory) → IsErr result → IfOk result P
no_ok P (Ok x) i = absurd (cc)
no_ok P (Err x) i = tt
