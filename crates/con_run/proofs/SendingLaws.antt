-- The thread of the terminal's side behind a turn, and behind several.
use Rattle.std.proofs.Common.{◌≡◌, ℕ, ◌+◌, ◌≤◌, Bool, true, false, List, ◌++◌, length, Option, Result, Ok, Err, refl, sym, ap, ◌∙◌, subst}
use Rattle.std.specs.Prelude.{not}
use Rattle.con_units.specs.declared.view.Frame.{Frame}
use Rattle.con_outside.specs.Outside.{then_left}
use Rattle.con_link.specs.Plainly.{Answers}
use Rattle.con_link.specs.Frames.{ends_link}
use Rattle.con_link.specs.declared.fault.LinkFault.{LinkFault}
use Rattle.con_events.specs.declared.actor.Actor.TheVariants as actors
use Rattle.con_events.specs.declared.end.End.{End}
use Rattle.con_events.specs.declared.entry.Entry.{Entry}
use Rattle.con_events.specs.declared.event.Event.{Event}
use Rattle.con_events.specs.declared.event.Event.TheVariants as events
use Rattle.con_machine.specs.Follows.{sent_by}
use Rattle.con_machine.specs.History.{run}
use Rattle.con_laws.specs.Rounds.{Begun}
use Rattle.con_machine.specs.State.{State}
use Rattle.con_machine.specs.Step.{is_ready}
use Rattle.con_actors.specs.Words.Sender.{end_for}
use Rattle.con_actors.specs.SenderLaws.{frame_ready}
use Rattle.con_threads.specs.Scribe.{IsScribe, IsSameScribe, SeesMore, history, opened}
use Rattle.con_threads.specs.ScribeLaws.{same_opened, same_then}
use Rattle.con_threads.specs.Sides.{IsSending, HasSentOn, IsSideThread, SideGoes, ThreadGoes}
use Rattle.con_threads.specs.declared.scribe.Scribe.{Scribe}
use Rattle.con_threads.specs.declared.side.SideThread.{SideThread}
use Rattle.con_run.proofs.SideLaws.{fault_goes, frame_goes, goes_on, goes_seen, hung_goes, served_then, stops_goes}

-- ---- several turns

pub sent_then : (s t u : SideThread) (was mid left : Option (List ℕ)) → HasSentOn s t was mid → HasSentOn t u mid left → HasSentOn s u was left
sent_then s t u was mid left j k = record {
  same = same_then s.scribe t.scribe u.scribe j.same k.same;
  is = k.is;
  goes = λ x before e g. k.goes x before (same_opened s.scribe t.scribe j.same ∙ e) (j.goes x before e g);
}

-- ---- a turn

-- a thread that has seen more, and so much of the link
abbrev pub with_scribe : SideThread → Scribe → Bool → ℕ → SideThread
with_scribe t s broken taken = record { scribe = s; reader = taken; side = t.side; hung = t.hung; broken = broken }

is_with : (t : SideThread) (s : Scribe) (broken : Bool) (taken : ℕ) → IsSideThread t → IsSameScribe t.scribe s → IsScribe s
    → (t.side.ended ≡ false → broken ≡ false → taken ≤ 16777216) → IsSideThread (with_scribe t s broken taken)
is_with t s broken taken i m n f = record { scribe = n; actor = m.actor ∙ i.actor; few = f }

-- it has seen more, and did nothing
pub saw : (t : SideThread) (s : Scribe) (left : Option (List ℕ)) → IsSideThread t → IsSameScribe t.scribe s → IsScribe s
    → SeesMore (opened t.scribe) actors.Terminal (history t.scribe) (history s) → HasSentOn t (with_scribe t s t.broken t.reader) left left
saw t s left i m k more = record {
  same = m;
  is = is_with t s t.broken t.reader i m k i.few;
  goes = λ b before e g. goes_seen b (opened t.scribe) (history t.scribe) (history s) t.side t.hung t.broken before left t.reader more g;
}

-- it hung up, since the terminal has failed
pub hung_up : (t : SideThread) (s : Scribe) (left : Option (List ℕ)) → t.side.ended ≡ false → t.broken ≡ false → IsSideThread t → IsSameScribe t.scribe s
    → IsScribe s → IsSending (opened t.scribe) events.Hangup (history t.scribe) (history s)
    → HasSentOn t (record { scribe = s; reader = t.reader; side = record { ended = true; end = t.side.end }; hung = true; broken = t.broken }) left left
hung_up t s left open' whole i m k r = record {
  same = m;
  is = record { scribe = k; actor = m.actor ∙ i.actor; few = λ e. absurd (cc) };
  goes = λ b before e g.
      let P : Bool → Type 0 = λ z. SideGoes b (history t.scribe) t.side t.hung z before left t.reader in
      let Q : Bool → Type 0 = λ z. SideGoes b (history s) (record { ended = true; end = t.side.end }) true z before left t.reader in
      let R : List Entry → Type 0 = λ z. SideGoes b z (record { ended = true; end = t.side.end }) true false before left t.reader in
      let on = goes_on b (history t.scribe) r.between t.side t.hung false before left t.reader r.others (subst P whole g) in
      subst Q (sym whole) (subst R (sym r.entries') (hung_goes b (history t.scribe ++ r.between) t.side t.hung before left t.reader open' on));
}

-- what is read of a link
abbrev pub Took : Result Frame LinkFault → Option (List ℕ) → Option (List ℕ) → ℕ → ℕ → Type 0
Took r was left taken later = (text : List ℕ) × (was ≡ then_left text left) × (later ≡ taken + length text) × Answers r taken text left

few_behind : (f : Frame) (was left : Option (List ℕ)) (taken later : ℕ) → Took (Ok f) was left taken later → later ≤ 16777216
few_behind f was left taken later (text, l, c, a) = let b : taken + length text ≤ 16777216 = a.3 in let P : ℕ → Type 0 = λ z. z ≤ 16777216 in subst P (sym c) b

-- nothing is asked for
pub served_by : (asked served : Bool) → served ≡ not asked → served ≡ true → asked ≡ false
served_by true served e f = absurd (let both : true ≡ false = sym f ∙ e in cc)
served_by false served e f = refl

-- what is known of a thread that looks whether anything is asked for, and reads on where nothing is
pub record Looked (t : SideThread) (s : Scribe) : Type 0 where
  pub open' : t.side.ended ≡ false
  pub whole : t.broken ≡ false
  pub was : IsSideThread t
  pub same : IsSameScribe t.scribe s
  pub is : IsScribe s
  pub sees : SeesMore (opened t.scribe) actors.Terminal (history t.scribe) (history s)
  pub served : (run (opened s) (history s)).asked ≡ false

pub looked : (t : SideThread) (s : Scribe) (answer : Bool) → t.side.ended ≡ false → t.broken ≡ false → IsSideThread t → IsSameScribe t.scribe s → IsScribe s
    → SeesMore (opened t.scribe) actors.Terminal (history t.scribe) (history s) → answer ≡ not (run (opened s) (history s)).asked → answer ≡ true → Looked t s
looked t s answer o w i m n more e f = record {
  open' = o;
  whole = w;
  was = i;
  same = m;
  is = n;
  sees = more;
  served = served_by (run (opened s) (history s)).asked answer e f;
}

-- what it was goes on to the moment of the look
looked_goes : (t : SideThread) (s : Scribe) (b : Begun) (before was : Option (List ℕ)) → Looked t s → opened t.scribe ≡ b.state → ThreadGoes b t before was
    → SideGoes b (history s) t.side t.hung false before was t.reader
looked_goes t s b before was k e g =
    let P : Bool → Type 0 = λ z. SideGoes b (history s) t.side t.hung z before was t.reader in
    subst P k.whole (goes_seen b (opened t.scribe) (history t.scribe) (history s) t.side t.hung t.broken before was t.reader k.sees g)

looked_start : (t : SideThread) (s : Scribe) (b : Begun) → Looked t s → opened t.scribe ≡ b.state → opened s ≡ b.state
looked_start t s b k e = same_opened t.scribe s k.same ∙ e

-- nothing was asked for when its own event was entered
still_served : (s : Scribe) (b : Begun) (event : Event) (g : List Entry) → opened s ≡ b.state → (run (opened s) (history s)).asked ≡ false
    → (r : IsSending (opened s) event (history s) g) → (run b.state (history s ++ r.between)).asked ≡ false
still_served s b event g e n r =
    let P : State → Type 0 = λ z. (run z (history s ++ r.between)).asked ≡ false in
    subst P e (served_then (opened s) (history s) r.between r.others r.legal n)

-- the event of a frame is ready then
pub never_blocked : (s u : Scribe) (event : Event) (f : Frame) (was left : Option (List ℕ)) (taken later : ℕ) → IsSameScribe s u
    → (run (opened s) (history s)).asked ≡ false → SeesMore (opened s) actors.Terminal (history s) (history u) → event ≡ sent_by f
    → Took (Ok f) was left taken later → is_ready (run (opened u) (history u)) actors.Terminal event ≡ false → ⊥
never_blocked s u event f was left taken later same n more e (text, l, c, a) blocked =
    let there : (run (opened s) (history u)).asked ≡ false = ap (λ (z : List Entry). (run (opened s) z).asked) more.entries'
    ∙ served_then (opened s) (history s) more.between more.others more.legal n in
    let now : (run (opened u) (history u)).asked ≡ false = ap (λ (z : State). (run z (history u)).asked) (same_opened s u same) ∙ there in
    let ready : is_ready (run (opened u) (history u)) actors.Terminal event ≡ true =
    ap (λ (z : Event). is_ready (run (opened u) (history u)) actors.Terminal z) e
    ∙ frame_ready (run (opened u) (history u)) f a.1 now in
    let both : true ≡ false = sym ready ∙ blocked in cc

-- it entered the event of a frame
pub passed_on : (t : SideThread) (s u : Scribe) (was left : Option (List ℕ)) (later : ℕ) (f : Frame) (event : Event) (ended : Bool) → Looked t s
    → IsSameScribe s u → IsScribe u → event ≡ sent_by f → IsSending (opened s) event (history s) (history u)
    → ended ≡ ends_link f → Took (Ok f) was left t.reader later
    → HasSentOn t (record { scribe = u; reader = later; side = record { ended = ended; end = t.side.end }; hung = t.hung; broken = false }) was left
passed_on t s u was left later f event ended k same is e r d took = record {
  same = same_then t.scribe s u k.same same;
  is = record { scribe = is; actor = same.actor ∙ (k.same.actor ∙ k.was.actor); few = λ x y. few_behind f was left t.reader later took };
  goes = λ b before start g.
      let R : List Entry → Type 0 = λ z. SideGoes b z (record { ended = ended; end = t.side.end }) t.hung false before left later in
      let E : Event → Type 0 = λ z. IsSending (opened s) z (history s) (history u) in
      let sent = subst E e r in
      let on = goes_on b (history s) sent.between t.side t.hung false before was t.reader sent.others (looked_goes t s b before was k start g) in
      subst R (sym sent.entries')
      (frame_goes b (history s ++ sent.between) t.side t.hung ended before was left t.reader later f k.open' (still_served s b (sent_by f) (history u) (looked_start t s b k start) k.served sent) d took on);
}

-- it hung up where no frame was read
pub gave_up : (t : SideThread) (s u : Scribe) (was left : Option (List ℕ)) (later : ℕ) (f : LinkFault) (end : End) → Looked t s → IsSameScribe s u → IsScribe u
    → IsSending (opened s) events.Hangup (history s) (history u)
    → end ≡ end_for f → Took (Err f) was left t.reader later
    → HasSentOn t (record { scribe = u; reader = later; side = record { ended = true; end = end }; hung = t.hung; broken = false }) was left
gave_up t s u was left later f end k same is r d took = record {
  same = same_then t.scribe s u k.same same;
  is = record { scribe = is; actor = same.actor ∙ (k.same.actor ∙ k.was.actor); few = λ x. absurd (cc) };
  goes = λ b before start g.
      let R : List Entry → Type 0 = λ z. SideGoes b z (record { ended = true; end = end }) t.hung false before left later in
      let on = goes_on b (history s) r.between t.side t.hung false before was t.reader r.others (looked_goes t s b before was k start g) in
      subst R (sym r.entries')
      (fault_goes b (history s ++ r.between) t.side t.hung before was left t.reader later f end k.open' (still_served s b events.Hangup (history u) (looked_start t s b k start) k.served r) d took on);
}

-- it had no memory behind what it took
pub stopped : (t : SideThread) (s u : Scribe) (was left : Option (List ℕ)) (later : ℕ) (read : Result Frame LinkFault) → Looked t s → IsSameScribe s u
    → IsScribe u → SeesMore (opened s) actors.Terminal (history s) (history u)
    → Took read was left t.reader later → HasSentOn t (with_scribe t u true later) was left
stopped t s u was left later read k same is more took = record {
  same = same_then t.scribe s u k.same same;
  is = record { scribe = is; actor = same.actor ∙ (k.same.actor ∙ k.was.actor); few = λ x y. absurd (cc) };
  goes = λ b before start g.
      goes_seen b (opened s) (history s) (history u) t.side t.hung true before left later more
      (stops_goes b (history s) t.side t.hung before was left t.reader later read k.open' took (looked_goes t s b before was k start g));
}
