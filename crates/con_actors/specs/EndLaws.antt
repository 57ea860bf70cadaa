-- What is left at the end of a session, in whatever order its turns went: who has left, the bytes of the terminal, and the frames of the link.
use Rattle.std.proofs.Common.{◌≡◌, ◌⊎◌, ℕ, zero, suc, ◌+◌, ◌<◌, ◌≤◌, Bool, true, false, List, [], ◌∷◌, ◌++◌, length, map, append-nil}
use Rattle.std.proofs.Common.{take, Option, Some, None, Err, refl, sym, ap, ◌∙◌, subst, inl, inr, arith, length-append}
use Rattle.std.specs.Prelude.{flat_map, if◌then◌else◌}
use Rattle.con_units.specs.declared.place.Size.{Size}
use Rattle.con_units.specs.declared.view.View.{View}
use Rattle.con_units.specs.declared.view.Frame.{Frame}
use Rattle.con_units.specs.declared.view.Sight.{Sight}
use Rattle.con_units.specs.declared.view.Sight.TheVariants as sights
use Rattle.con_outside.specs.Outside.{then_written}
use Rattle.con_outside.specs.Laws.{WroteFront-nothing, then_written-none, then_left-none}
use Rattle.con_link.specs.LinkReading.{LinkReading, plainly, AnswersBy, all_go_on}
use Rattle.con_link.specs.declared.fault.LinkFault.{LinkFault}
use Rattle.con_link.specs.declared.fault.LinkFault.TheVariants as faults
use Rattle.con_term.specs.Play.{play}
use Rattle.con_term.specs.Terminal.{Terminal, IsTerminal}
use Rattle.con_events.specs.Session.{Clients}
use Rattle.con_events.specs.declared.actor.Actor.{Actor}
use Rattle.con_events.specs.declared.actor.Actor.TheVariants as actors
use Rattle.con_events.specs.declared.end.End.{End}
use Rattle.con_events.specs.declared.end.End.TheVariants as ends
use Rattle.con_events.specs.declared.entry.Entry.{Entry}
use Rattle.con_events.specs.declared.event.Event.{Event}
use Rattle.con_events.specs.declared.event.Event.TheVariants as events
use Rattle.con_events.specs.declared.reply.Reply.{Reply}
use Rattle.con_events.specs.declared.script.Script.{Script}
use Rattle.con_procs.specs.Procs.{is_attached}
use Rattle.con_readers.specs.Reads.{is_open, has_done}
use Rattle.con_machine.specs.Along.{Along}
use Rattle.con_laws.specs.ClosingLaws.{none_waits}
use Rattle.con_machine.specs.Client.{Client, Stance, GoesOn, MayLeave, MustLeave, Gone, next_event}
use Rattle.con_machine.specs.Follows.{are_of_session, FollowsLink, MayAct, session_start, is_cut, is_lost, sent_by}
use Rattle.con_machine.specs.Words.Follows.{asks}
use Rattle.con_machine.specs.History.{run, is_legal, replies_of}
use Rattle.con_laws.specs.Opens.{WaitsOrGone}
use Rattle.con_laws.specs.Rounds.{Begun, client_at}
use Rattle.con_laws.specs.RoundWords.{ClientTurn, ClientTurnBy, IsTurn}
use Rattle.con_laws.specs.ShowingLaws.{painted_shows}
use Rattle.con_machine.specs.Sights.{sights_of}
use Rattle.con_machine.specs.State.{State}
use Rattle.con_machine.specs.Step.{is_ready}
use Rattle.con_machine.specs.Turns.{sent, has_ended, is_pending, paints}
use Rattle.con_laws.specs.Whole.{HaveAllLeft}
use Rattle.con_actors.specs.Desk.{listed}
use Rattle.con_actors.specs.Outcome.{Leaves, LeavesBy, IsCutBy, HasSentBy, last_end}
use Rattle.con_actors.specs.Watched.{end_of}
use Rattle.con_actors.specs.Painting.{CanvasEnds}
use Rattle.con_laws.specs.TerminalRuns.{EachRun, ShowsView}
use Rattle.con_actors.specs.Runs.{PrintsFew, PrintsNewRows}
use Rattle.con_actors.specs.Words.Runs.{EachPiece, Painted, joined, ends_from}
use Rattle.con_actors.specs.Words.Sender.{LinkBy, LinkEnds, LinkEndsBy, NoMore, end_for, hung}
use Rattle.con_actors.specs.Solo.{Moment, Holds, HoldsBy, begins, end_by}
use Rattle.con_actors.specs.Standing.{ClientStands, is_here}
use Rattle.con_actors.specs.declared.side.Side.{Side}
use Rattle.con_actors.specs.CanvasLaws.{painted_count, take_all}
use Rattle.con_actors.specs.LinkedLaws.{linked_going}
use Rattle.con_actors.specs.StreamLaws.{run_by_pieces}

-- ---- who has left

pub waits_by : (pending open' done : Bool) (e : Event) → None
    ≡ (if pending then Some events.TakeCtrl else if open' then (if done then Some events.Collect else None) else Some e) → (open' ≡ true) × (done ≡ false)
waits_by true open' done e t = absurd (cc)
waits_by false false done e t = absurd (cc)
waits_by false true true e t = absurd (cc)
waits_by false true false e t = (refl, refl)

pub waits_stance : (st : Stance) (s : State) (p : ℕ) (c : Client) → is_here st ≡ true → ClientTurnBy st s p c None
    → (is_open s.reads p ≡ true) × (has_done s.reads p ≡ false)
waits_stance GoesOn s p c i t = waits_by (is_pending s p) (is_open s.reads p) (has_done s.reads p) (next_event c.left) t
waits_stance MayLeave s p c i t =
    elim t [ inl e ↦ absurd (cc) | inr e ↦ waits_by (is_pending s p) (is_open s.reads p) (has_done s.reads p) (next_event c.left) e ]
waits_stance MustLeave s p c i t = absurd (cc)
waits_stance Gone s p c i t = absurd (cc)

pub waits_attached : (there : Bool) (s : State) (p : ℕ) (c : Client)
    → is_attached s.procs p ≡ there → there ≡ is_here c.stance → ClientTurn there s p c None → WaitsOrGone s p
waits_attached false s p c a h t = inl a
waits_attached true s p c a h t = inr (waits_stance c.stance s p c (sym h) t)

pub waits_or_gone : (b : Begun) (h : List Entry) (p : ℕ) → ClientStands b h p → IsTurn b h (actors.Client p) None → WaitsOrGone (run b.state h) p
waits_or_gone b h p k t = waits_attached (is_attached (run b.state h).procs p) (run b.state h) p (client_at b h p) refl k.here t

pub gone_is : (s : Stance) → is_here s ≡ false → s ≡ Gone
gone_is GoesOn e = absurd (cc)
gone_is MayLeave e = absurd (cc)
gone_is MustLeave e = absurd (cc)
gone_is Gone e = refl

-- by numbers from 1
pub by_number : (P : ℕ → Type 0) (n : ℕ) → ((k : ℕ) → k < n → P (k + 1)) → (p : ℕ) → 0 < p → p ≤ n → P p
by_number P n f zero l m = absurd (let none : 0 < 0 = l in omega arith)
by_number P n f (suc k) l m = let e : k + 1 ≡ suc k = omega arith in subst P e (f k (omega arith))

pub each_number : (session : Clients) (racks : List (List ℕ)) (f : Option ℕ) (h : List Entry)
    → ((k : ℕ) → k < length session.scripts → ClientStands (begins session racks f) h (k + 1))
    → (p : ℕ) → 0 < p → p ≤ length session.scripts → ClientStands (begins session racks f) h p
each_number session racks f h k = by_number (λ p. ClientStands (begins session racks f) h p) (length session.scripts) k

-- the terminal's side has ended, and each client waits for a read or is gone: then all are gone
pub left_by_waits : (session : Clients) (racks : List (List ℕ)) (f : Option ℕ) (h : List Entry)
    → ((k : ℕ) → k < length session.scripts → ClientStands (begins session racks f) h (k + 1))
    → ((k : ℕ) → k < length session.scripts → WaitsOrGone (run (session_start session racks) h) (k + 1)) → has_ended false (sent h) ≡ true
    → HaveAllLeft (session_start session racks) h session racks
left_by_waits session racks f h k wait ended = λ p l m.
    let b = begins session racks f in
    let gone = none_waits session racks h ended (by_number (λ q. WaitsOrGone (run b.state h) q) (length session.scripts) wait) p l m in
    gone_is (client_at b h p).stance (sym (each_number session racks f h k p l m).here ∙ gone)

-- ---- the stream

pub last_by : (n : ℕ) (ps : List (List ℕ)) → end_of n (ends_from n ps) ≡ n + length (joined ps)
last_by n [] = let e : n ≡ n + 0 = omega arith in e
last_by n (p ∷ ps) = last_by (n + length p) ps
    ∙ (let e : n + length p + length (joined ps) ≡ n + length (p ++ joined ps) = omega (arith, length-append p (joined ps)) in e)

pub ends_count : (n : ℕ) (ps : List (List ℕ)) → length (ends_from n ps) ≡ length ps
ends_count n [] = refl
ends_count n (p ∷ ps) = ap suc (ends_count (n + length p) ps)

pub each_map : (from to : Option View → View → List ℕ → Terminal → Type 0)
    → ((l : Option View) (v : View) (p : List ℕ) (t : Terminal) → from l v p t → to l v p t)
    → (t : Terminal) (last : Option View) (ss : List Sight) (ps : List (List ℕ)) → EachPiece from t last ss ps → EachPiece to t last ss ps
each_map from to f t last [] ps e = tt
each_map from to f t last (sights.Resize z ∷ ss) ps e = λ u i. each_map from to f u None ss ps (e u i)
each_map from to f t last (sights.Paint v ∷ ss) [] e = tt
each_map from to f t last (sights.Paint v ∷ ss) (p ∷ ps) e = (f last v p t e.0, each_map from to f (play t p) (Some v) ss ps e.1)

pub stream_run : (to : Option View → View → List ℕ → Terminal → Type 0)
    → ((l : Option View) (v : View) (p : List ℕ) (t : Terminal) → Painted l v p t → to l v p t)
    → (size : Size) (ss : List Sight) (ps : List (List ℕ)) (n : ℕ) (es : List ℕ) → es ≡ ends_from 0 ps
    → ((t : Terminal) → IsTerminal size.w size.h t → EachPiece Painted t None ss ps) → EachRun to size (take n (joined ps)) ss es
stream_run to f size ss ps n es e k = let P : List ℕ → Type 0 = λ z. EachRun to size (take n (joined ps)) ss z in
    subst P (sym e) (run_by_pieces to size ss ps n (λ t i. each_map Painted to f t None ss ps (k t i)))

pub last_joined : (es : List ℕ) (ps : List (List ℕ)) → es ≡ ends_from 0 ps → last_end es ≡ length (joined ps)
last_joined es ps e = ap (λ (z : List ℕ). end_of 0 z) e ∙ (last_by 0 ps ∙ (let z : 0 + length (joined ps) ≡ length (joined ps) = omega arith in z))

-- ---- the link

pub not_failed : (f : LinkFault) → ends.Link ≡ end_for f → f ≡ faults.Failed
not_failed faults.Failed e = refl
not_failed faults.TooLong e = absurd (cc)
not_failed (faults.Bad place kind) e = absurd (cc)
not_failed faults.OutOfMemory e = absurd (cc)

pub too_long : (f : LinkFault) → ends.TooLong ≡ end_for f → f ≡ faults.TooLong
too_long faults.TooLong e = refl
too_long faults.Failed e = absurd (cc)
too_long (faults.Bad place kind) e = absurd (cc)
too_long faults.OutOfMemory e = absurd (cc)

pub bad_at : (place : ℕ) (kind : Rattle.con_units.specs.declared.view.FrameFault.FrameFault) (f : LinkFault)
    → ends.Bad place kind ≡ end_for f → f ≡ faults.Bad place kind
bad_at place kind (faults.Bad p k) e = cc
bad_at place kind faults.Failed e = absurd (cc)
bad_at place kind faults.TooLong e = absurd (cc)
bad_at place kind faults.OutOfMemory e = absurd (cc)

pub sent_cut : (R : LinkReading) (frames : List R.One) (es : List Event) (cut : Bool)
    → cut ≡ true → all_go_on R frames ≡ true → es ≡ map sent_by (R.plains frames) ++ hung cut → IsCutBy R frames es
sent_cut R frames es cut c g e = (g, e ∙ ap (λ (z : Bool). map sent_by (R.plains frames) ++ hung z) c)

pub answer_of : (R : LinkReading) (f g : LinkFault) (n : ℕ) (text : List ℕ) (left : Option (List ℕ))
    → f ≡ g → AnswersBy R (Err f) n text left → AnswersBy R (Err g) n text left
answer_of R f g n text left e a = let P : LinkFault → Type 0 = λ z. AnswersBy R (Err z) n text left in subst P e a

pub no_cut : (cut failed is : Bool) → (cut ≡ true → (failed ≡ true) ⊎ (is ≡ true)) → failed ≡ false → is ≡ false → cut ≡ false
no_cut false failed is w f i = refl
no_cut true failed is w f i = absurd (elim (w refl) [ inl e ↦ let z = sym e ∙ f in cc | inr e ↦ let z = sym e ∙ i in cc ])

pub sent_by_end : (R : LinkReading) (More : List R.One → List Entry → Type 0) (end : End) (h : List Entry) (side : Side) (failed : Bool)
    (before left : Option (List ℕ)) (taken : ℕ) (k : LinkBy R More h side failed before left taken) → side.end ≡ end → side.ended ≡ true → failed ≡ false
    → HasSentBy R end k.frames k.extra left (sent h)
sent_by_end R More ends.Done h side failed before left taken k i e f =
    let c = no_cut k.cut failed (is_cut side.end) (λ x. (k.why x).1) f (ap is_cut i) in
    let w = k.whole c e in
    (w.0, w.1, w.2, k.stands.all' ∙ (ap (λ (z : Bool). map sent_by (R.plains k.frames) ++ hung z) c ∙ append-nil (map sent_by (R.plains k.frames))))
sent_by_end R More ends.Link h side failed before left taken k i e f =
    let (g, c, j, a) = k.fault (ap is_cut i) in (
      sent_cut R k.frames (sent h) k.cut c (k.why c).0 k.stands.all',
      answer_of R g faults.Failed (length (flat_map R.spelling k.frames)) k.extra left (not_failed g (sym i ∙ j)) a,
    )
sent_by_end R More ends.TooLong h side failed before left taken k i e f =
    let (g, c, j, a) = k.fault (ap is_cut i) in (
      sent_cut R k.frames (sent h) k.cut c (k.why c).0 k.stands.all',
      answer_of R g faults.TooLong (length (flat_map R.spelling k.frames)) k.extra left (too_long g (sym i ∙ j)) a,
    )
sent_by_end R More (ends.Bad place kind) h side failed before left taken k i e f =
    let (g, c, j, a) = k.fault (ap is_cut i) in (
      sent_cut R k.frames (sent h) k.cut c (k.why c).0 k.stands.all',
      answer_of R g (faults.Bad place kind) (length (flat_map R.spelling k.frames)) k.extra left (bad_at place kind g (sym i ∙ j)) a,
    )
sent_by_end R More ends.Term h side failed before left taken k i e f = tt
sent_by_end R More ends.Memory h side failed before left taken k i e f = tt

pub link_sent : (R : LinkReading) (More : List R.One → List Entry → Type 0) (failed : Bool) (h : List Entry) (side : Side) (before left : Option (List ℕ))
    (taken : ℕ) (k : LinkBy R More h side failed before left taken) → side.ended ≡ true → HasSentBy R (end_by failed side.end) k.frames k.extra left (sent h)
link_sent R More true h side before left taken k e = tt
link_sent R More false h side before left taken k e = sent_by_end R More side.end h side false before left taken k refl e refl

pub cut_at_end : (cut failed : Bool) (end : End) → (cut ≡ true → (failed ≡ true) ⊎ (is_cut end ≡ true)) → cut ≡ true → is_cut (end_by failed end) ≡ true
cut_at_end cut true end w c = refl
cut_at_end cut false end w c = elim (w c) [ inl e ↦ absurd (cc) | inr e ↦ e ]

pub lost_at_end : (failed : Bool) (end : End) → failed ≡ true → is_lost (end_by failed end) ≡ true
lost_at_end true end f = refl
lost_at_end false end f = absurd (cc)

pub whole_at_end : (failed : Bool) (end : End) → is_lost (end_by failed end) ≡ false → failed ≡ false
whole_at_end false end f = refl
whole_at_end true end f = absurd (cc)

-- what was asked for may be missing
pub answered_lost : (out : Bool) (h : List Entry) → Along (λ out x. MayAct true out x.actor) asks out h
answered_lost out [] = tt
answered_lost out (x ∷ xs) = (may_lost out x.actor, answered_lost (asks out x) xs)
  where
    may_lost : (out : Bool) (a : Actor) → MayAct true out a
    may_lost true (actors.Client p) = tt
    may_lost true actors.Terminal = refl
    may_lost true actors.Painter = tt
    may_lost false a = tt

-- ---- the whole

-- nobody has anything left to do
pub leaves_whole_by : (R : LinkReading) (More Then : List R.One → List Entry → Type 0) (session : Clients) (racks : List (List ℕ)) (f : Option ℕ)
    (scripts : List Script) (before old : Option (List ℕ)) (m : Moment) → HoldsBy R More (begins session racks f) scripts before old m
    → ((k : ℕ) → k < length session.scripts → ClientStands (begins session racks f) m.entries (k + 1)) → has_ended false (sent m.entries) ≡ true
    → HaveAllLeft (session_start session racks) m.entries session racks
    → (m.failed ≡ false → is_ready (run (session_start session racks) m.entries) actors.Painter events.Paint ≡ false)
    → ((fs : List R.One) → More fs m.entries → Then fs m.entries)
    → LeavesBy R Then session racks m.entries m.replies m.ends (end_by m.failed m.side.end) before m.left old m.written
leaves_whole_by R More Then session racks f scripts before old m k stands ended left idle then' =
    let n = paints m.entries in
    let b = begins session racks f in
    let end = end_by m.failed m.side.end in
    let w = k.canvas.written in
    let total = last_joined m.ends k.pieces k.canvas.ends' in
    let count : length m.ends ≡ n = ap (λ (z : List ℕ). length z) k.canvas.ends'
    ∙ (ends_count 0 k.pieces ∙ painted_count b m.entries session.size m.kept k.pieces k.canvas.stands) in
    let F : List Frame → Type 0 = λ z. FollowsLink (is_cut end) z (sent m.entries) in
    let ss = sights_of (session_start session racks) m.entries in
    record {
      legal = k.stands.legal;
      replies = k.stands.replies;
      frames = k.link.frames;
      text = k.link.extra;
      frames' = k.link.frames';
      taken = k.link.read;
      going = linked_going R More m.entries m.side m.failed before m.left m.taken k.link;
      behind = k.link.behind;
      side = link_sent R More m.failed m.entries m.side before m.left m.taken k.link (sym k.link.stands.ended' ∙ ended);
      more = then' k.link.frames k.link.more;
      follows = record {
        actors = k.numbered;
        clients = λ p l i. (each_number session racks f m.entries stands p l i).follows;
        link = subst F (append-nil (R.plains k.link.frames))
            (k.link.stands.follows (is_cut end) (cut_at_end k.link.cut m.failed m.side.end (λ c. (k.link.why c).1)) []);
        answered = k.asks.answered (is_lost end) (lost_at_end m.failed m.side.end);
      };
      built = joined k.pieces;
      long = sym total;
      front = (w.count, w.most, w.front);
      all' = λ i. w.front ∙ ap (λ (x : List ℕ). then_written old x)
          (ap (λ (c : ℕ). take c (joined k.pieces)) (w.whole (whole_at_end m.failed m.side.end i)) ∙ take_all (joined k.pieces));
      ends' = λ i. count;
      but_last = inl count;
      shows = λ n. stream_run ShowsView (λ l v p t x. x.shows) session.size ss k.pieces n m.ends k.canvas.ends' k.canvas.stands.each;
      few = λ n. stream_run PrintsFew (λ l v p t x. x.few) session.size ss k.pieces n m.ends k.canvas.ends' k.canvas.stands.each;
      new_rows = λ n. stream_run PrintsNewRows (λ l v p t x. x.new_rows) session.size ss k.pieces n m.ends k.canvas.ends' k.canvas.stands.each;
      left' = λ i. left;
      ended = λ i. ended;
      whole = λ i. record {
        clients = left;
        ended = ended;
        shown = painted_shows session racks m.entries (idle (whole_at_end m.failed m.side.end i));
      };
    }

-- there was no memory
pub leaves_stops_by : (R : LinkReading) (More : List R.One → List Entry → Type 0) (session : Clients) (racks : List (List ℕ)) (f : Option ℕ)
    (before old left written : Option (List ℕ)) (h : List Entry) (rs : List Reply) (es : List ℕ)
    → is_legal (session_start session racks) h ≡ true → rs ≡ map listed (replies_of (session_start session racks) h)
    → are_of_session (length session.scripts) h ≡ true
    → ((k : ℕ) → k < length session.scripts → ClientStands (begins session racks f) h (k + 1)) → LinkEndsBy R More h before left
    → CanvasEnds (begins session racks f) h session.size es old written
    → LeavesBy R More session racks h rs es ends.Memory before left old written
leaves_stops_by R More session racks f before old left written h rs es legal answers numbered stands link canvas =
    let w = canvas.written in
    let ps = canvas.pieces in
    let total = last_joined es ps canvas.ends' in
    let count : length es ≡ length ps = ap (λ (z : List ℕ). length z) canvas.ends' ∙ ends_count 0 ps in
    let F : List Frame → Type 0 = λ z. FollowsLink true z (sent h) in
    let ss = sights_of (session_start session racks) h in
    record {
      legal = legal;
      replies = answers;
      frames = link.frames;
      text = link.extra;
      frames' = link.frames';
      taken = link.read;
      going = link.going;
      behind = link.behind;
      side = tt;
      more = link.more;
      follows = record {
        actors = numbered;
        clients = λ p l i. (each_number session racks f h stands p l i).follows;
        link = subst F (append-nil (R.plains link.frames)) (link.stands.follows true (λ c. refl) []);
        answered = answered_lost false h;
      };
      built = joined ps;
      long = sym total;
      front = (w.count, w.most, w.front);
      all' = λ i. absurd (cc);
      ends' = λ i. absurd (cc);
      but_last = elim canvas.count [ inl e ↦ inl (count ∙ e) | inr e ↦ inr (ap (λ (z : ℕ). z + 1) count ∙ e) ];
      shows = λ n. stream_run ShowsView (λ l v p t x. x.shows) session.size ss ps n es canvas.ends' canvas.each;
      few = λ n. stream_run PrintsFew (λ l v p t x. x.few) session.size ss ps n es canvas.ends' canvas.each;
      new_rows = λ n. stream_run PrintsNewRows (λ l v p t x. x.new_rows) session.size ss ps n es canvas.ends' canvas.each;
      left' = λ i. absurd (cc);
      ended = λ i. absurd (cc);
      whole = λ i. absurd (cc);
    }

-- there was none to begin with
pub leaves_none_by : (R : LinkReading) (More : List R.One → List Entry → Type 0) (session : Clients) (racks : List (List ℕ)) (before old : Option (List ℕ))
    → More [] [] → LeavesBy R More session racks [] [] [] ends.Memory before before old old
leaves_none_by R More session racks before old more = record {
  legal = refl;
  replies = refl;
  frames = [];
  text = [];
  frames' = refl;
  taken = then_left-none before;
  going = inl refl;
  behind = inl refl;
  side = tt;
  more = more;
  follows = record { actors = refl; clients = λ p l i. tt; link = tt; answered = tt };
  built = [];
  long = refl;
  front = WroteFront-nothing [] old;
  all' = λ i. then_written-none old;
  ends' = λ i. refl;
  but_last = inl refl;
  shows = λ n. stream_run ShowsView (λ l v p t x. x.shows) session.size [] [] n [] refl (λ t i. tt);
  few = λ n. stream_run PrintsFew (λ l v p t x. x.few) session.size [] [] n [] refl (λ t i. tt);
  new_rows = λ n. stream_run PrintsNewRows (λ l v p t x. x.new_rows) session.size [] [] n [] refl (λ t i. tt);
  left' = λ i. absurd (cc);
  ended = λ i. absurd (cc);
  whole = λ i. absurd (cc);
}

-- ---- of a session with no second terminal

pub leaves_whole : (session : Clients) (racks : List (List ℕ)) (f : Option ℕ) (scripts : List Script) (before old : Option (List ℕ)) (m : Moment)
    → Holds (begins session racks f) scripts before old m
    → ((k : ℕ) → k < length session.scripts → ClientStands (begins session racks f) m.entries (k + 1)) → has_ended false (sent m.entries) ≡ true
    → HaveAllLeft (session_start session racks) m.entries session racks
    → (m.failed ≡ false → is_ready (run (session_start session racks) m.entries) actors.Painter events.Paint ≡ false)
    → Leaves session racks m.entries m.replies m.ends (end_by m.failed m.side.end) before m.left old m.written
leaves_whole session racks f scripts before old m k stands ended left idle =
    leaves_whole_by plainly NoMore NoMore session racks f scripts before old m k stands ended left idle (λ fs x. tt)

pub leaves_stops : (session : Clients) (racks : List (List ℕ)) (f : Option ℕ) (before old left written : Option (List ℕ))
    (h : List Entry) (rs : List Reply) (es : List ℕ)
    → is_legal (session_start session racks) h ≡ true → rs ≡ map listed (replies_of (session_start session racks) h)
    → are_of_session (length session.scripts) h ≡ true
    → ((k : ℕ) → k < length session.scripts → ClientStands (begins session racks f) h (k + 1)) → LinkEnds h before left
    → CanvasEnds (begins session racks f) h session.size es old written
    → Leaves session racks h rs es ends.Memory before left old written
leaves_stops session racks f before old left written h rs es legal answers numbered stands link canvas =
    leaves_stops_by plainly NoMore session racks f before old left written h rs es legal answers numbered stands link canvas

pub leaves_none : (session : Clients) (racks : List (List ℕ)) (before old : Option (List ℕ)) → Leaves session racks [] [] [] ends.Memory before before old old
leaves_none session racks before old = leaves_none_by plainly NoMore session racks before old tt
