-- One walk over all events and calls: what each leaves of pictures and sizes, processes, reads, rests and racks.
use Rattle.std.proofs.Common.{◌≡◌, ℕ, zero, suc, Bool, true, false, List, [], ◌∷◌, ◌++◌, Option, Some, None, Result, Ok, Err, refl, sym, ap, subst, ◌∙◌}
use Rattle.std.specs.Prelude.{if◌then◌else◌, fold, ◌&&◌, ◌||◌, ◌==◌, nat_lt, nat_le, not, length, filter, is_some, slice_get}
use Rattle.std.specs.List.{remove, position_or_len}
use Rattle.con_units.specs.Split.{split_after}
use Rattle.con_units.specs.Units.{changed_at}
use Rattle.con_units.specs.declared.code.Code.{Code}
use Rattle.con_units.specs.declared.code.Code.TheVariants as code
use Rattle.con_units.specs.declared.view.View.{View}
use Rattle.con_events.specs.declared.actor.Actor.{Actor}
use Rattle.con_events.specs.declared.call.Call.{Call}
use Rattle.con_events.specs.declared.call.Call.TheVariants as calls
use Rattle.con_events.specs.declared.event.Event.{Event}
use Rattle.con_events.specs.declared.event.Event.TheVariants as events
use Rattle.con_events.specs.declared.event.Wanted.{Wanted}
use Rattle.con_events.specs.declared.event.Wanted.TheVariants as wanted
use Rattle.con_events.specs.declared.reply.Reply.TheVariants as replies
use Rattle.con_handles.specs.Handles.{is_owned, look}
use Rattle.con_handles.specs.declared.handle.Handle.{Handle}
use Rattle.con_handles.specs.declared.handle.Kind.TheVariants as kind
use Rattle.con_handles.specs.declared.handle.Object.{Object}
use Rattle.con_history.specs.declared.histories.Histories.{Histories}
use Rattle.con_alias.specs.Aliases.{AliasList}
use Rattle.con_records.specs.declared.record.Key.{Key}
use Rattle.con_records.specs.declared.record.Record.{Record}
use Rattle.con_mouse.specs.Reports.{report_of}
use Rattle.con_mouse.specs.declared.report.Report.{Report}
use Rattle.con_vtin.specs.Keys.{quieted}
use Rattle.con_vtin.specs.Pieces.{Piece, Typed, Ended, piece_grammar}
use Rattle.con_procs.specs.Procs.{is_attached, signalled, ids_of, ignoring, first_pending, place_in, is_fresh, is_chained, program_of, add_answer}
use Rattle.con_procs.specs.Procs.{handler_added, remove_answer, handler_removed}
use Rattle.con_procs.specs.declared.proc.Proc.{Proc}
use Rattle.con_procs.specs.declared.rack.Place.TheVariants as place
use Rattle.con_readers.proofs.Distinctness.{settled-processes, closed-processes, aborted-processes}
use Rattle.con_readers.specs.Act.{Act, began as started, typed, passed, ended, woke}
use Rattle.con_readers.specs.Distinct.{processes_in, times_in}
use Rattle.con_readers.specs.Lines.{line_text}
use Rattle.con_readers.specs.Reads.{settled, is_open, is_open_line, line_aborted, all_closed, failed, without, place_of, begun, answer_in}
use Rattle.con_readers.specs.Serving.{is_done}
use Rattle.con_readers.specs.declared.answer.Answer.{Answer}
use Rattle.con_readers.specs.declared.answer.Answer.TheVariants as answers
use Rattle.con_readers.specs.declared.open.Open.{Open}
use Rattle.con_readers.specs.declared.open.OpenRead.{OpenRead}
use Rattle.con_readers.specs.declared.open.OpenRead.TheVariants as reads
use Rattle.con_cooked.specs.Cooked.{line_of}
use Rattle.con_cooked.specs.declared.cooked.Cooked.{Cooked}
use Rattle.con_page.specs.Echo.{ended as line_ended}
use Rattle.con_screen.specs.Echo.{Echoed, echoed}
use Rattle.con_screens.specs.Buffers.{Buffers, screen_at}
use Rattle.con_screens.specs.Resize.{all_resized}
use Rattle.con_machine.specs.State.{State, rest_in, noted_of, without_noted}
use Rattle.con_machine.specs.Outcome.{Outcome, refused, answered, done, by_answer, while_open, guard, buffer_of, has_bit}
use Rattle.con_machine.specs.Words.Outcome.{guarded, with_object}
use Rattle.con_machine.specs.Words.HandleCalls.{owned, handle_closed, released}
use Rattle.con_machine.specs.ScreenCalls.{page_of, with_page}
use Rattle.con_machine.specs.Words.ScreenCalls.{written_to}
use Rattle.con_machine.specs.ProcessCalls.{is_no_signal}
use Rattle.con_machine.specs.Words.ProcessCalls.{on_place}
use Rattle.con_machine.specs.Call.{called}
use Rattle.con_machine.specs.Serving.{followed, settled_state}
use Rattle.con_machine.specs.Words.Serving.{line_shown, line_finished, shows_line, with_echo}
use Rattle.con_machine.specs.Signals.{signalled_to}
use Rattle.con_machine.specs.Closing.{hung_up, closing, all_wait}
use Rattle.con_machine.specs.Reads as waits
use Rattle.con_machine.specs.Words.Reads as waits_words
use Rattle.con_machine.specs.Reads.{began, began_line, answered_with, line_begun, with_read, front_of}
use Rattle.con_machine.specs.Words.Reads.{began_units, rest_answered, is_empty, history_used, read_answer, records_answer, is_no_initial}
use Rattle.con_machine.specs.Terminal.{key_taken, is_break, records_of, piece_taken, fed, quiet, resized, size_record}
use Rattle.con_machine.specs.Words.Terminal.{by_report, size_told, asked, drained}
use Rattle.con_machine.specs.Painting.{painted}
use Rattle.con_machine.specs.Step.{step, effect, is_outside, is_clients, finished, client_of}
use Rattle.con_machine.specs.Client.{is_fail}
use Rattle.con_machine.specs.Moves.{resizes_by, painted_by, drains_by}
use Rattle.con_machine.specs.Follows.{asks_by}
use Rattle.con_machine.specs.Sizes.{width_by, height_by}
use Rattle.con_machine.specs.Added.{is_added, was_added, place_in_call}
use Rattle.con_machine.specs.CallLaws.{Parts, parts, stands, released_is}
use Rattle.con_machine.specs.ProcLaws.{ProcsGo, same_procs, then_procs, signalled_go, changed_go, placed_go, changed_same, signalled_same, removed_same}
use Rattle.con_machine.specs.declared.reads.noted.Noted.{Noted}
use Rattle.con_machine.specs.declared.reads.rest.Rest.{Rest}

-- ---- reads that are all done

abbrev pub AreDone : List Open → Type 0
AreDone [] = Unit {0}
AreDone (o ∷ os) = (is_done o.read ≡ true) × AreDone os

pub removed_done : (os : List Open) (k : ℕ) → AreDone os → AreDone (remove os k)
removed_done [] zero d = tt
removed_done [] (suc k) d = tt
removed_done (o ∷ os) zero d = d.1
removed_done (o ∷ os) (suc k) d = (d.0, removed_done os k d.1)

closed_is : (o : Open) (b : Bool) → is_done o.read ≡ b → is_done (if b then o else failed code.Closed o).read ≡ true
closed_is o true e = e
closed_is o false e = refl

closed_done : (os : List Open) → AreDone (all_closed os)
closed_done [] = tt
closed_done (o ∷ os) = (closed_is o (is_done o.read) refl, closed_done os)

aborted_done : (os : List Open) (k : ℕ) → AreDone os → AreDone (changed_at (failed code.Aborted) os k)
aborted_done [] k d = tt
aborted_done (o ∷ os) zero d = (refl, d.1)
aborted_done (o ∷ os) (suc k) d = (d.0, aborted_done os k d.1)

-- what is done is served no more
served_no_more : (al : List AliasList) (o : Open) (os : List Open) (rs : List Record) (hs : Histories) → is_done o.read ≡ true
    → (settled al (o ∷ os) rs hs).reads ≡ o ∷ (settled al os rs hs).reads
unfolding settled
served_no_more al o os rs hs d = rw d refl

settled_done : (al : List AliasList) (os : List Open) (rs : List Record) (hs : Histories) → AreDone os → AreDone (settled al os rs hs).reads
unfolding settled
settled_done al [] rs hs d = tt
settled_done al (o ∷ os) rs hs d = subst AreDone (sym (served_no_more al o os rs hs d.0)) (d.0, settled_done al os rs hs d.1)

-- a closed console has no read that waits
abbrev pub IsQuiet : State → Type 0
IsQuiet s = s.closed ≡ true → AreDone s.reads

-- ---- what is said of a console

-- of its pictures, its size, and the link's end
pub record Frame : Type 0 where
  pub wide : ℕ
  pub high : ℕ
  pub drained : Bool
  pub painted : Option View
  pub resized : Bool
  pub asked : Bool

abbrev pub frame_of : State → Frame
frame_of s = record { wide = s.buffers.w; high = s.buffers.h; drained = s.drained; painted = s.painted; resized = s.resized; asked = s.asked }

-- what an event makes of it
abbrev pub frame_by : State → Event → Frame
frame_by s e = record {
  wide = width_by s.buffers.w e;
  high = height_by s.buffers.h e;
  drained = drains_by s.drained e;
  painted = painted_by s e;
  resized = resizes_by s.resized e;
  asked = asks_by s.asked e;
}

pub record Core : Type 0 where
  pub frame : Frame
  pub procs : List Proc
  pub reads : List Open
  pub rests : List Rest
  pub closed : Bool

abbrev pub core : State → Core
core s = record { frame = frame_of s; procs = s.procs; reads = s.reads; rests = s.rests; closed = s.closed }

abbrev core_of : Parts → Core
core_of p = record {
  frame = record { wide = p.wide; high = p.high; drained = p.drained; painted = p.painted; resized = p.resized; asked = p.asked };
  procs = p.procs;
  reads = p.reads;
  rests = p.rests;
  closed = p.closed;
}

-- other buffers, of the same sides
framed_same : (f : Frame) (w h : ℕ) → w ≡ f.wide → h ≡ f.high → (let g : Frame = record f { wide = w; high = h } in g) ≡ f
framed_same f w h e g = ap (λ (n : ℕ). let x : Frame = record f { wide = n; high = h } in x) e ∙ ap (λ (n : ℕ). let x : Frame = record f { high = n } in x) g

-- Processes, and the readers of reads, are as they were; a closed console stays closed, and no read of it waits.
pub record Folk (s t : State) : Type 0 where
  pub procs : ProcsGo s.procs t.procs
  pub times : (p : ℕ) → times_in p (processes_in t.reads) ≡ times_in p (processes_in s.reads)
  pub closed : s.closed ≡ true → t.closed ≡ true
  pub quiet : IsQuiet s → IsQuiet t

-- nothing of it changes
pub record Walk (s t : State) : Type 0 where
  pub frame : frame_of t ≡ frame_of s
  pub folk : Folk s t
  pub added : (p i : ℕ) → was_added t p i ≡ was_added s p i
  pub rests : t.rests ≡ s.rests

still : (s : State) → Walk s s
still s = record {
  frame = refl;
  folk = record { procs = same_procs s.procs; times = λ p. refl; closed = λ h. h; quiet = λ q. q };
  added = λ p i. refl;
  rests = refl;
}

then_folk : (s t u : State) → Folk s t → Folk t u → Folk s u
then_folk s t u k l = record {
  procs = then_procs s.procs t.procs u.procs k.procs l.procs;
  times = λ p. l.times p ∙ k.times p;
  closed = λ h. l.closed (k.closed h);
  quiet = λ q. l.quiet (k.quiet q);
}

pub then_walk : (s t u : State) → Walk s t → Walk t u → Walk s u
then_walk s t u k l = record {
  frame = l.frame ∙ k.frame;
  folk = then_folk s t u k.folk l.folk;
  added = λ p i. l.added p i ∙ k.added p i;
  rests = l.rests ∙ k.rests;
}

or_walk : (s : State) (b : Bool) (t u : State) → Walk s t → Walk s u → Walk s (if b then t else u)
or_walk s true t u k l = k
or_walk s false t u k l = l

-- the same processes, reads and closing
folk_same : (s t : State) → t.procs ≡ s.procs → t.reads ≡ s.reads → t.closed ≡ s.closed → Folk s t
folk_same s t procs os closed = record {
  procs = record {
    count = ap (λ (ps : List Proc). length ps) procs;
    attached = λ p. ap (λ (ps : List Proc). is_attached ps p) procs;
    waits = λ p h. ap (λ (ps : List Proc). is_some (first_pending ps p)) procs ∙ h;
  };
  times = λ p. ap (λ (xs : List Open). times_in p (processes_in xs)) os;
  closed = λ h. closed ∙ h;
  quiet = λ q h. subst AreDone (sym os) (q (sym closed ∙ h));
}

-- the same core
alike : (s t : State) → core t ≡ core s → Walk s t
alike s t e = record {
  frame = ap (λ (c : Core). c.frame) e;
  folk = folk_same s t (ap (λ (c : Core). c.procs) e) (ap (λ (c : Core). c.reads) e) (ap (λ (c : Core). c.closed) e);
  added = λ p i. ap (λ (c : Core). is_added (place_in c.procs p i)) e;
  rests = ap (λ (c : Core). c.rests) e;
}

or_core : (b : Bool) (x y : State) (c : Core) → core x ≡ c → core y ≡ c → core (if b then x else y) ≡ c
or_core true x y c h k = h
or_core false x y c h k = k

-- other processes
procs_folk : (s : State) (ps : List Proc) → ProcsGo s.procs ps → Folk s (record s { procs = ps })
procs_folk s ps k = record { procs = k; times = λ p. refl; closed = λ h. h; quiet = λ q. q }

fold_walk : {A : Type 0} (f : State → A → State) → ((s : State) (x : A) → Walk s (f s x)) → (s : State) (xs : List A) → Walk s (fold f s xs)
fold_walk f w s [] = still s
fold_walk f w s (x ∷ xs) = then_walk s (f s x) (fold f (f s x) xs) (w s x) (fold_walk f w (f s x) xs)

-- ---- signals

signal_walk : (s : State) (event group : ℕ) → Walk s (record s { procs = signalled s.procs event group })
signal_walk s event group = record {
  frame = refl;
  folk = procs_folk s (signalled s.procs event group) (signalled_go s.procs event group);
  added = λ p i. signalled_same s.procs event group p i;
  rests = refl;
}

break_walk : (s : State) (event group : ℕ) → Walk s (record s { procs = signalled s.procs event group; reads = line_aborted s.reads })
break_walk s event group = record {
  frame = refl;
  folk = record {
    procs = signalled_go s.procs event group;
    times = λ p. ap (λ (ps : List ℕ). times_in p ps) (aborted-processes s.reads);
    closed = λ h. h;
    quiet = λ q h. aborted_done s.reads (position_or_len is_open_line s.reads) (q h);
  };
  added = λ p i. signalled_same s.procs event group p i;
  rests = refl;
}

pub signalled_walk : (s : State) (event group : ℕ) → Walk s (signalled_to s event group)
signalled_walk s event group =
    or_walk s ((event == 0) && (group == 0)) (record s { procs = signalled s.procs event group; reads = line_aborted s.reads })
    (record s { procs = signalled s.procs event group }) (break_walk s event group) (signal_walk s event group)

-- ---- reads are served, and the console closes

-- what shows of it leaves all but buffers and notes
pub record Shows (s t : State) : Type 0 where
  pub is : t ≡ (let u : State = record s { buffers = t.buffers; noted = t.noted } in u)
  pub wide : t.buffers.w ≡ s.buffers.w
  pub high : t.buffers.h ≡ s.buffers.h

shows : (s : State) → Shows s s
shows s = record { is = refl; wide = refl; high = refl }

then_shows : (s t u : State) → Shows s t → Shows t u → Shows s u
then_shows s t u k l = record {
  is = l.is ∙ ap (λ (x : State). let y : State = record x { buffers = u.buffers; noted = u.noted } in y) k.is;
  wide = l.wide ∙ k.wide;
  high = l.high ∙ k.high;
}

or_shows : (s : State) (b : Bool) (t u : State) → Shows s t → Shows s u → Shows s (if b then t else u)
or_shows s true t u k l = k
or_shows s false t u k l = l

shown_shows : (s : State) (n : Option Noted) (old new : Cooked) → Shows s (line_shown s n old new)
shown_shows s None old new = shows s
shown_shows s (Some n) old new =
    let e : Echoed = echoed (screen_at s.buffers n.buffer.0) n.origin (line_text old) (line_text new) (line_of new).line.caret in
    or_shows s (shows_line s.buffers n) (with_echo s n e) s (record { is = refl; wide = refl; high = refl }) (shows s)

finished_shows : (s : State) (n : Option Noted) (len : ℕ) → Shows s (line_finished s n len)
finished_shows s None len = shows s
finished_shows s (Some n) len = or_shows s (shows_line s.buffers n) (with_page s n.buffer.0 (line_ended (page_of s n.buffer.0) n.origin len)) s
    (record { is = refl; wide = refl; high = refl }) (shows s)

followed_shows : (s : State) (a : Act) → Shows s (followed s a)
followed_shows s (started p) = record { is = refl; wide = refl; high = refl }
followed_shows s (typed p old new) = shown_shows s (noted_of s.noted p) old new
followed_shows s (passed p) = shows s
followed_shows s (ended p read len) = finished_shows s (noted_of s.noted p) len
followed_shows s (woke p line) = record { is = refl; wide = refl; high = refl }

all_show : (s : State) (acts : List Act) → Shows s (fold followed s acts)
all_show s [] = shows s
all_show s (a ∷ acts) = then_shows s (followed s a) (fold followed (followed s a) acts) (followed_shows s a) (all_show (followed s a) acts)

-- before what shows of it
abbrev pub served_first : State → State
served_first s = let t = settled s.aliases s.reads s.records s.histories in record s { reads = t.reads; records = t.records; histories = t.histories }

pub settled_shows : (s : State) → Shows (served_first s) (settled_state s)
unfolding settled_state
settled_shows s = all_show (served_first s) (settled s.aliases s.reads s.records s.histories).acts

core_shown : (s t : State) → Shows s t → core t ≡ core s
core_shown s t k = ap core k.is ∙ ap (λ (f : Frame). let c : Core = record (core s) { frame = f } in c)
    (framed_same (frame_of s) t.buffers.w t.buffers.h k.wide k.high)

served_walk : (s : State) → Walk s (served_first s)
served_walk s = record {
  frame = refl;
  folk = record {
    procs = same_procs s.procs;
    times = λ p. ap (λ (ps : List ℕ). times_in p ps) (settled-processes s.aliases s.reads s.records s.histories);
    closed = λ h. h;
    quiet = λ q h. settled_done s.aliases s.reads s.records s.histories (q h);
  };
  added = λ p i. refl;
  rests = refl;
}

pub settled_walk : (s : State) → Walk s (settled_state s)
settled_walk s = then_walk s (served_first s) (settled_state s) (served_walk s)
    (alike (served_first s) (settled_state s) (core_shown (served_first s) (settled_state s) (settled_shows s)))

pub hung_walk : (s : State) → Walk s (hung_up s)
hung_walk s = or_walk s s.closed s (record s { closed = true; procs = signalled s.procs 2 0; reads = all_closed s.reads }) (still s) (record {
  frame = refl;
  folk = record {
    procs = signalled_go s.procs 2 0;
    times = λ p. ap (λ (ps : List ℕ). times_in p ps) (closed-processes s.reads);
    closed = λ h. refl;
    quiet = λ q h. closed_done s.reads;
  };
  added = λ p i. signalled_same s.procs 2 0 p i;
  rests = refl;
})

pub closing_walk : (s : State) → Walk s (closing s)
unfolding closing
closing_walk s = or_walk s (s.drained && all_wait s.reads (ids_of s.procs)) (hung_up s) s (hung_walk s) (still s)

pub finished_walk : (o : Outcome) → Walk o.after (finished o).after
finished_walk o = then_walk o.after (settled_state o.after) (closing (settled_state o.after)) (settled_walk o.after) (closing_walk (settled_state o.after))

-- ---- the terminal's side

key_walk : (s : State) (k : Key) → Walk s (key_taken s k)
key_walk s k =
    let t : State = record s { records = s.records ++ records_of s k } in
    or_walk s (is_break s k) (signalled_to (settled_state s) 0 0) t
    (then_walk s (settled_state s) (signalled_to (settled_state s) 0 0) (settled_walk s) (signalled_walk (settled_state s) 0 0)) (alike s t refl)

report_core : (s : State) (r : Option Report) → core (by_report s r) ≡ core s
report_core s None = refl
report_core s (Some r) = refl

piece_walk : (s : State) (x : Piece) → Walk s (piece_taken s x)
piece_walk s (Typed k) = key_walk s k
piece_walk s (Ended bytes) = alike s (if has_bit s.mode 0x10 then by_report s (report_of bytes) else s)
    (or_core (has_bit s.mode 0x10) (by_report s (report_of bytes)) s (core s) (report_core s (report_of bytes)) refl)

pub fed_walk : (s : State) (bytes : List ℕ) → Walk s (fed s bytes)
unfolding fed
fed_walk s bytes =
    let parts = split_after piece_grammar s.held bytes in
    let u : State = record s { held = parts.tail } in
    then_walk s u (fold piece_taken u parts.items) (alike s u refl) (fold_walk piece_taken piece_walk u parts.items)

pub quiet_walk : (s : State) → Walk s (quiet s)
unfolding quiet
quiet_walk s =
    let u : State = record s { held = [] } in
    then_walk s u (fold key_taken u (quieted s.held)) (alike s u refl) (fold_walk key_taken key_walk u (quieted s.held))

pub size_core : (s : State) → core (size_told s) ≡ core s
size_core s = or_core (has_bit s.mode 8) (record s { records = s.records ++ size_record s ∷ [] }) s (core s) refl refl

-- ---- choices of calls

either : (Q : State → Type 0) (b : Bool) (x y : Outcome) → Q x.after → Q y.after → Q (if b then x else y).after
either Q true x y k l = k
either Q false x y k l = l

opened_or : (Q : State → Type 0) (s : State) (o : Outcome) → Q s → Q o.after → Q (while_open s o).after
opened_or Q s o k l = either Q s.closed (refused s code.Closed) o k l

answer_or : (Q : State → Type 0) (s : State) (r : Result (Unit {0}) Code) (t : State) → Q s → Q t → Q (by_answer s r t).after
answer_or Q s (Err why) t k l = k
answer_or Q s (Ok u) t k l = l

object_or : (Q : State → Type 0) (s : State) (r : Result Object Code) (f : Object → Outcome) → Q s → ((o : Object) → Q (f o).after)
    → Q (with_object s r f).after
object_or Q s (Err why) f k l = k
object_or Q s (Ok o) f k l = l o

-- on a place of a rack
rack_or : (Q : State → Type 0) (s : State) (at : ℕ) (r : Result (Unit {0}) Code) (t : State) → Q s → Q t
    → Q (while_open s (on_place s at (by_answer s r t))).after
rack_or Q s at r t k l = opened_or Q s (on_place s at (by_answer s r t)) k
    (either Q (nat_le at 255) (by_answer s r t) (refused s code.BadArgument) (answer_or Q s r t k l) k)

-- ---- calls

abbrev pub is_close : Call → Bool
is_close (calls.Close h) = true
is_close _ = false

-- a call changes nothing of it, but that a rest may go with its handle, and a place may be added
pub record CallWalk (s : State) (x : Call) (t : State) : Type 0 where
  pub frame : frame_of t ≡ frame_of s
  pub folk : Folk s t
  pub added : place_in_call x ≡ None → (p i : ℕ) → was_added t p i ≡ was_added s p i
  pub rests : is_close x ≡ false → t.rests ≡ s.rests

walked : (s : State) (x : Call) (t : State) → Walk s t → CallWalk s x t
walked s x t k = record { frame = k.frame; folk = k.folk; added = λ n. k.added; rests = λ n. k.rests }

close_call : (s : State) (p h : ℕ) → CallWalk s (calls.Close h) (called s p (calls.Close h)).after
unfolding called
close_call s p h =
    let Q : State → Type 0 = λ t. CallWalk s (calls.Close h) t in
    object_or Q s (owned s p h) (λ o. done (handle_closed s p h o)) (walked s (calls.Close h) s (still s)) (λ o. record {
      frame = framed_same (frame_of s) (released o s.buffers).w (released o s.buffers).h (released_is o s.buffers (λ b. b.w) (λ id. refl) (λ id n. refl))
          (released_is o s.buffers (λ b. b.h) (λ id. refl) (λ id n. refl));
      folk = record { procs = same_procs s.procs; times = λ q. refl; closed = λ c. c; quiet = λ q. q };
      added = λ n q i. refl;
      rests = λ n. absurd (cc);
    })

write_call : (s : State) (p h : ℕ) (text : List ℕ) → core (called s p (calls.Write h text)).after ≡ core s
unfolding called
write_call s p h text =
    let Q : State → Type 0 = λ t. core t ≡ core s in
    let done_on : Object → Outcome = λ o. answered (written_to s (buffer_of o) text) (replies.Number (length text)) in
    object_or Q s (guard s p h kind.Output 2) (λ o. if nat_lt 16384 (length text) then refused s code.Limit else done_on o) refl
    (λ o. either Q (nat_lt 16384 (length text)) (refused s code.Limit) (done_on o) refl refl)

input_call : (s : State) (p h : ℕ) (rs : List Record) → core (called s p (calls.WriteInput h rs)).after ≡ core s
unfolding called
input_call s p h rs =
    let Q : State → Type 0 = λ t. core t ≡ core s in
    let t : State = record s { records = s.records ++ rs } in
    let o : Outcome = if nat_lt 1024 (length rs) then refused s code.Limit else answered t (replies.Number (length rs)) in
    object_or Q s (guard s p h kind.Input 2) (λ _. o) refl
    (λ _. either Q (nat_lt 1024 (length rs)) (refused s code.Limit) (answered t (replies.Number (length rs))) refl refl)

flush_call : (s : State) (p h : ℕ) → core (called s p (calls.Flush h)).after ≡ core s
unfolding called
flush_call s p h = object_or (λ t. core t ≡ core s) s (guard s p h kind.Input 2) (λ _. done (record s { records = [] })) refl (λ _. refl)

signal_call : (s : State) (p event group : ℕ) → Walk s (called s p (calls.Signal event group)).after
unfolding called
signal_call s p event group =
    let Q : State → Type 0 = λ t. Walk s t in
    let o : Outcome = if is_no_signal s.procs event group then refused s code.BadArgument else done (signalled_to s event group) in
    opened_or Q s o (still s) (either Q (is_no_signal s.procs event group) (refused s code.BadArgument) (done (signalled_to s event group)) (still s)
    (signalled_walk s event group))

ignore_call : (s : State) (p : ℕ) (on : Bool) → Walk s (called s p (calls.Ignore on)).after
unfolding called
ignore_call s p on = opened_or (λ t. Walk s t) s (done (record s { procs = ignoring s.procs p on })) (still s) (record {
  frame = refl;
  folk = procs_folk s (ignoring s.procs p on) (changed_go (λ x. record x { ignore = on }) (λ x. refl) (λ x h. h) s.procs p);
  added = λ q i. changed_same (λ x. record x { ignore = on }) (λ x i. refl) s.procs p q i;
  rests = refl;
})

add_call : (s : State) (p at : ℕ) → CallWalk s (calls.HandlerAdd at) (called s p (calls.HandlerAdd at)).after
unfolding called
add_call s p at = rack_or (λ t. CallWalk s (calls.HandlerAdd at) t) s at (add_answer s.procs p at) (record s { procs = handler_added s.procs p at })
    (walked s (calls.HandlerAdd at) s (still s)) (record {
      frame = refl;
      folk = procs_folk s (handler_added s.procs p at) (placed_go s.procs p at place.Chained (is_fresh (place_in s.procs p at)));
      added = λ n. absurd (cc);
      rests = λ n. refl;
    })

remove_call : (s : State) (p at : ℕ) → Walk s (called s p (calls.HandlerRemove at)).after
unfolding called
remove_call s p at = rack_or (λ t. Walk s t) s at (remove_answer s.procs p at) (record s { procs = handler_removed s.procs p at }) (still s) (record {
  frame = refl;
  folk = procs_folk s (handler_removed s.procs p at) (placed_go s.procs p at place.Removed (is_chained (place_in s.procs p at)));
  added = λ q i. removed_same s.procs p at q i;
  rests = refl;
})

by_parts : (s : State) (p : ℕ) (x : Call) → parts (called s p x).after ≡ parts s → CallWalk s x (called s p x).after
by_parts s p x e = walked s x (called s p x).after (alike s (called s p x).after (ap core_of e))

pub call_walk : (s : State) (p : ℕ) (x : Call) → CallWalk s x (called s p x).after
call_walk s p (calls.Close h) = close_call s p h
call_walk s p (calls.Write h text) = walked s (calls.Write h text) (called s p (calls.Write h text)).after
    (alike s (called s p (calls.Write h text)).after (write_call s p h text))
call_walk s p (calls.WriteInput h rs) = walked s (calls.WriteInput h rs) (called s p (calls.WriteInput h rs)).after
    (alike s (called s p (calls.WriteInput h rs)).after (input_call s p h rs))
call_walk s p (calls.Flush h) = walked s (calls.Flush h) (called s p (calls.Flush h)).after (alike s (called s p (calls.Flush h)).after (flush_call s p h))
call_walk s p (calls.Signal event group) = walked s (calls.Signal event group) (called s p (calls.Signal event group)).after (signal_call s p event group)
call_walk s p (calls.Ignore on) = walked s (calls.Ignore on) (called s p (calls.Ignore on)).after (ignore_call s p on)
call_walk s p (calls.HandlerAdd at) = add_call s p at
call_walk s p (calls.HandlerRemove at) = walked s (calls.HandlerRemove at) (called s p (calls.HandlerRemove at)).after (remove_call s p at)
call_walk s p x = by_parts s p x (stands s p x refl).is

-- ---- a client's other events

-- what neither a rest nor a note is of
abbrev pub Seats : Type 0
Seats = Frame × List Proc × List Open × Bool

abbrev pub seats : State → Seats
seats s = (frame_of s, s.procs, s.reads, s.closed)

-- a read that was not refused goes behind the open ones, its process having had none, in an open console
pub record IsBegun (s : State) (q : ℕ) (t : State) : Type 0 where
  pub none : is_open s.reads q ≡ false
  pub now : s.closed ≡ false
  pub read : OpenRead
  pub is : seats t ≡ (frame_of s, s.procs, s.reads ++ begun q read ∷ [], s.closed)

abbrev pub BeginsBy : Bool → State → ℕ → State → Type 0
BeginsBy true s q t = t ≡ s
BeginsBy false s q t = IsBegun s q t

begin_by : (s : State) (q : ℕ) (r : Result (Unit {0}) Code) (t : State) → ((u : Unit {0}) → r ≡ Ok u → IsBegun s q t)
    → BeginsBy (is_fail (by_answer s r t).reply) s q (by_answer s r t).after
begin_by s q (Err why) t h = refl
begin_by s q (Ok u) t h = h u refl

pick : (s : State) (q : ℕ) (b : Bool) (x y : State) → IsBegun s q x → IsBegun s q y → IsBegun s q (if b then x else y)
pick s q true x y h g = h
pick s q false x y h g = g

-- what a check of a read that passes says
may_begin : (c : Bool) (g : Result Object Code) (x b d : Bool) (u : Unit {0})
    → guarded (if c then Err code.Closed else g) (if x || b then Err code.BadArgument else if d then Err code.Limit else Ok tt) ≡ Ok u
    → (c ≡ false) × (x ≡ false)
may_begin true g x b d u h = absurd (cc)
may_begin false (Err why) x b d u h = absurd (cc)
may_begin false (Ok o) true b d u h = absurd (cc)
may_begin false (Ok o) false b d u h = (refl, refl)

read_is : (s : State) (q h n : ℕ) (initial : List ℕ) (mask : ℕ) → (s.closed ≡ false) × (is_open s.reads q ≡ false)
    → IsBegun s q (if has_bit s.mode 2 then began_line (history_used s q) q h n initial mask else began_units s q n)
read_is s q h n initial mask may =
    let t : State = history_used s q in
    let rest : List ℕ = rest_in s.rests q h in
    let text : Cooked = record { program = program_of s.procs q; insert = has_bit s.mode 0x20; initial = initial; mask = mask; presses = [] } in
    let line : OpenRead = reads.Line text in
    pick s q (has_bit s.mode 2) (began_line t q h n initial mask) (began_units s q n)
    (pick s q (n == 0) (answered_with t q []) (if is_empty rest then line_begun t q h n initial mask else rest_answered t q h n rest)
    (record { none = may.1; now = may.0; read = reads.Done (answers.Units []); is = refl })
    (pick s q (is_empty rest) (line_begun t q h n initial mask) (rest_answered t q h n rest) (record { none = may.1; now = may.0; read = line; is = refl })
    (record { none = may.1; now = may.0; read = reads.Done (answers.Units (front_of n rest)); is = refl })))
    (pick s q (n == 0) (answered_with s q []) (with_read s q (reads.Units n))
    (record { none = may.1; now = may.0; read = reads.Done (answers.Units []); is = refl })
    (record { none = may.1; now = may.0; read = reads.Units n; is = refl }))

pub begin_is : (s : State) (q : ℕ) (w : Wanted) → BeginsBy (is_fail (began s q w).reply) s q (began s q w).after
unfolding began
begin_is s q (wanted.Read h n) = begin_by s q (read_answer s q h n []) _
    (λ u e. read_is s q h n [] 0 (may_begin s.closed (look s.handles q h kind.Input 1) (is_open s.reads q) (is_no_initial [] n) (nat_lt 16384 n) u e))
begin_is s q (wanted.ReadWith h n initial mask) = begin_by s q (read_answer s q h n initial) _
    (λ u e. read_is s q h n initial mask (may_begin s.closed (look s.handles q h kind.Input 1) (is_open s.reads q) (is_no_initial initial n)
    (nat_lt 16384 n) u e))
begin_is s q (wanted.ReadInput h n) = begin_by s q (records_answer s q h n) _ (λ u e. (
    let may = may_begin s.closed (look s.handles q h kind.Input 1) (is_open s.reads q) (n == 0) (nat_lt 1024 n) u e in
    record { none = may.1; now = may.0; read = reads.Records n; is = refl }))

told_seats : (s : State) (n : Option Noted) (a : Answer) → seats (waits.answer_told s n a).after ≡ seats s
told_seats s None (answers.Units units) = refl
told_seats s (Some n) (answers.Units units) = refl
told_seats s n (answers.Records records) = refl
told_seats s n (answers.Fail why) = refl

pub collected_seats : (s : State) (q : ℕ) → seats (waits.collected s q).after ≡ (frame_of s, s.procs, without s.reads q, s.closed)
unfolding waits.collected
collected_seats s q = told_seats (record s { reads = without s.reads q; noted = without_noted s.noted q }) (noted_of s.noted q)
    (answer_in (slice_get s.reads (place_of s.reads q)))

all_released : (b : Buffers) (hs : List Handle) (f : Buffers → ℕ) → ((x : Buffers) (o : Object) → f (released o x) ≡ f x) → f (waits_words.released_all b hs) ≡ f b
all_released b [] f k = refl
all_released b (h ∷ hs) f k = all_released (released h.object b) hs f k ∙ k b h.object

left_frame : (s : State) (q status : ℕ) → frame_of (waits.left s q status) ≡ frame_of s
unfolding waits.left
left_frame s q status =
    let hs : List Handle = filter (is_owned q) s.handles in
    framed_same (frame_of s) (waits_words.released_all s.buffers hs).w (waits_words.released_all s.buffers hs).h
    (all_released s.buffers hs (λ b. b.w) (λ x o. released_is o x (λ b. b.w) (λ id. refl) (λ id n. refl)))
    (all_released s.buffers hs (λ b. b.h) (λ x o. released_is o x (λ b. b.h) (λ id. refl) (λ id n. refl)))

-- ---- each event

begun_frame : (s : State) (q : ℕ) (b : Bool) (t : State) → BeginsBy b s q t → frame_of t ≡ frame_of s
begun_frame s q true t k = ap frame_of k
begun_frame s q false t k = ap (λ (x : Seats). x.0) k.is

event_frame : (s : State) (p : ℕ) (e : Event) → frame_of (effect s p e).after ≡ frame_by s e
unfolding effect resized painted waits.took_ctrl
event_frame s p (events.Call x) = (call_walk s p x).frame
event_frame s p (events.Begin w) = begun_frame s p (is_fail (began s p w).reply) (began s p w).after (begin_is s p w)
event_frame s p events.Collect = ap (λ (x : Seats). x.0) (collected_seats s p)
event_frame s p events.TakeCtrl = refl
event_frame s p (events.Exit status) = left_frame s p status
event_frame s p (events.Feed bytes) = (fed_walk s bytes).frame
event_frame s p events.Quiet = (quiet_walk s).frame
event_frame s p (events.Resize size) = ap (λ (c : Core). c.frame) (size_core (record s { buffers = all_resized s.buffers size; resized = true }))
event_frame s p events.Ask = refl
event_frame s p events.Hangup = (hung_walk s).frame
event_frame s p events.Drained = refl
event_frame s p events.Paint = refl

-- an event that is refused is a client's
outside_frame : (s : State) (e : Event) → is_clients e ≡ true → frame_of s ≡ frame_by s e
outside_frame s (events.Call x) c = refl
outside_frame s (events.Begin w) c = refl
outside_frame s events.Collect c = refl
outside_frame s events.TakeCtrl c = refl
outside_frame s (events.Exit status) c = refl
outside_frame s e c = absurd (cc)

first_of : (a b : Bool) → (a && b) ≡ true → a ≡ true
first_of true b e = refl
first_of false b e = e

-- what every event makes of pictures, sizes and the link's end
pub step_frame : (s : State) (a : Actor) (e : Event) → frame_of (step s a e).after ≡ frame_by s e
unfolding step
step_frame s a e = by (is_outside s a e) refl
  where
    by : (b : Bool) → is_outside s a e ≡ b → frame_of (if b then refused s code.BadHandle else finished (effect s (client_of a) e)).after ≡ frame_by s e
    by true out = outside_frame s e (first_of (is_clients e) (not (is_attached s.procs (client_of a))) out)
    by false out = (finished_walk (effect s (client_of a) e)).frame ∙ event_frame s (client_of a) e

-- an event that begins a read or takes one away, takes a control event, or leaves
abbrev pub is_personal : Event → Bool
is_personal (events.Begin w) = true
is_personal events.Collect = true
is_personal events.TakeCtrl = true
is_personal (events.Exit status) = true
is_personal _ = false

-- every other event leaves processes and whose reads there are
pub event_folk : (s : State) (p : ℕ) (e : Event) → is_personal e ≡ false → Folk s (effect s p e).after
unfolding effect resized painted
event_folk s p (events.Call x) n = (call_walk s p x).folk
event_folk s p (events.Begin w) n = absurd (cc)
event_folk s p events.Collect n = absurd (cc)
event_folk s p events.TakeCtrl n = absurd (cc)
event_folk s p (events.Exit status) n = absurd (cc)
event_folk s p (events.Feed bytes) n = (fed_walk s bytes).folk
event_folk s p events.Quiet n = (quiet_walk s).folk
event_folk s p (events.Resize size) n =
    let e = size_core (record s { buffers = all_resized s.buffers size; resized = true }) in
    folk_same s (resized s size) (ap (λ (c : Core). c.procs) e) (ap (λ (c : Core). c.reads) e) (ap (λ (c : Core). c.closed) e)
event_folk s p events.Ask n = folk_same s (asked s) refl refl refl
event_folk s p events.Hangup n = (hung_walk s).folk
event_folk s p events.Drained n = folk_same s (drained s) refl refl refl
event_folk s p events.Paint n = folk_same s (painted s) refl refl refl
