-- Who takes records while events happen: the open reads alone, each its own.
use Rattle.std.proofs.Common.{◌≡◌, ℕ, Bool, cond, subst, true≢false, List, [], ◌∷◌, ◌++◌, true, false, refl, ap, ◌∙◌, sym, length, Result, Ok, Err, Option, Some, None}
use Rattle.std.specs.Prelude.{◌==◌, ◌&&◌, ◌||◌, nat_lt, nat_le, fold, slice_get, if◌then◌else◌}
use Rattle.std.specs.List.{find, list_any}
use Rattle.std.proofs.lemmas.Bool.{eqb-true}
use Rattle.con_units.specs.Split.{split_after}
use Rattle.con_units.specs.declared.code.Code.{Code}
use Rattle.con_units.specs.declared.code.Code.TheVariants as code
use Rattle.con_units.specs.declared.place.Size.{Size}
use Rattle.con_events.specs.declared.call.Call.{Call}
use Rattle.con_events.specs.declared.call.Call.TheVariants as calls
use Rattle.con_events.specs.declared.event.Event.{Event}
use Rattle.con_events.specs.declared.event.Event.TheVariants as events
use Rattle.con_events.specs.declared.reply.Reply.{Reply}
use Rattle.con_handles.specs.declared.handle.Kind.TheVariants as kind
use Rattle.con_handles.specs.declared.handle.Object.{Object}
use Rattle.con_alias.specs.Aliases.{AliasList}
use Rattle.con_history.specs.Histories.{LineHistories}
use Rattle.con_procs.specs.Procs.{ids_of, signalled, add_answer as add_handler_answer, remove_answer as remove_handler_answer}
use Rattle.con_mouse.specs.Reports.{report_of}
use Rattle.con_mouse.specs.declared.report.Report.{Report}
use Rattle.con_readers.specs.Pieces.{front}
use Rattle.con_readers.specs.Reads.{settled, is_open, is_open_line, all_closed, line_aborted, answer_in, without, place_of}
use Rattle.con_readers.specs.Serving.{is_done, served}
use Rattle.con_readers.specs.declared.open.OpenRead.{OpenRead}
use Rattle.con_readers.specs.declared.answer.Answer.{Answer}
use Rattle.con_readers.specs.declared.answer.Answer.TheVariants as answers
use Rattle.con_readers.specs.declared.open.Open.{Open}
use Rattle.con_records.specs.declared.record.Key.{Key}
use Rattle.con_records.specs.declared.record.Record.{Record}
use Rattle.con_vtin.specs.Keys.{quieted}
use Rattle.con_vtin.specs.Pieces.{Piece as Bytes, Typed, Ended, piece_grammar}
use Rattle.con_machine.specs.State.{State, noted_of, without_noted}
use Rattle.con_machine.specs.Outcome.{Outcome, refused, done, by_answer, while_open, guard, has_bit}
use Rattle.con_machine.specs.Words.Outcome.{by_result, with_object}
use Rattle.con_machine.specs.Words.HandleCalls.{closed_handle, owned as object_owned}
use Rattle.con_machine.specs.Words.ScreenCalls.{wrote}
use Rattle.con_machine.specs.InputCalls.{wrote_input}
use Rattle.con_machine.specs.ProcessCalls.{is_no_signal}
use Rattle.con_machine.specs.Words.ProcessCalls.{on_place, sent_signal, set_ignore, added_handler, removed_handler}
use Rattle.con_machine.specs.Call.{called}
use Rattle.con_machine.specs.Serving.{settled_state}
use Rattle.con_machine.specs.Signals.{signalled_to}
use Rattle.con_machine.specs.Closing.{closing, hung_up, all_wait}
use Rattle.con_machine.specs.Reads.{collected, took_ctrl, left, answer_told}
use Rattle.con_machine.specs.Painting.{painted}
use Rattle.con_machine.specs.Terminal.{fed, quiet, resized, is_break, records_of, key_taken, piece_taken}
use Rattle.con_machine.specs.Words.Terminal.{by_report, sequence_taken, asked, drained}
use Rattle.con_machine.specs.Step.{effect, finished}
use Rattle.con_machine.specs.declared.reads.noted.Noted.{Noted}
use Rattle.con_machine.specs.CallLaws.{Parts, stands}
use Rattle.con_machine.specs.EventLaws.{settled_shows}
use Rattle.con_laws.specs.Walks.{Begin, read_of, Begins, by_read, taken_by, interrupted, interrupted_by, cut_off, hung_pieces, closing_pieces, signal_pieces, end_pieces, served_pieces, flushed_pieces, call_pieces, key_pieces, keys_pieces, bytes_pieces, all_bytes_pieces, fed_pieces, effect_pieces}
use Rattle.con_laws.specs.Fates.{Earlier, is_taker, How, Served, Emptied, Interrupted, CutOff, Taker, Begun, Flushed, Piece}
use Rattle.con_laws.specs.AnswerWalks.{by_how, read_after}
use Rattle.con_laws.proofs.Woken.{NoteTold, told_of, waked, waked_none, waked_on, woke_of, settled_note, without_other, without_own}
use Rattle.con_laws.proofs.Acts.{wakes_one, wakes, wakes-append, wakes_none, settled_wakes}
use Rattle.con_laws.proofs.FateLists.{log, log-append, log_none, none_or}
use Rattle.con_laws.proofs.Served.{UnitsPiece, IsProper}
use Rattle.con_laws.proofs.Mine.{Apart, own, own-append, own_none, Mine, Becomes, becomes_on, nothing_done, proper_after, settled_mine, settled_open, none_taken, gone_mine, without_open, cut_mine, closed_open, none_cut, struck_mine, aborted_open, none_struck, removed_mine, removed_open}

unfoldable pub is_flush : Taker → Bool
is_flush (Begun n) = false
is_flush (Flushed n) = true
is_flush (Earlier p) = false

unfoldable pub Misses : Begins → Taker → Type 0
Misses begins t = (q : ℕ) → is_taker t (read_of q (begins q)) ≡ false

missed_one : (begins : Begins) (t : Taker) → Misses begins t → (how : How) (q : ℕ) (rs : List Record) (ps : List Piece) → log t ps ≡ [] → log t (by_read begins how q rs ∷ ps) ≡ []
unfolding log Misses
missed_one begins t m how q rs ps h = rw (m q) h

missed_taken : (begins : Begins) (t : Taker) → Misses begins t → (al : List AliasList) (os : List Open) (rs : List Record) (hs : LineHistories) → log t (taken_by begins al os rs hs) ≡ []
unfolding taken_by
missed_taken begins t m al [] rs hs = log_none t
missed_taken begins t m al (o ∷ os) rs hs =
    let s = served o.process al o.read rs hs in
    none_or t (is_done o.read) (taken_by begins al os rs hs) (by_read begins (Served hs al) o.process (front rs s.records) ∷ (if is_done s.read then taken_by begins al os s.records s.histories else []))
    (missed_taken begins t m al os rs hs)
    (missed_one begins t m (Served hs al) o.process (front rs s.records) (if is_done s.read then taken_by begins al os s.records s.histories else [])
    (none_or t (is_done s.read) (taken_by begins al os s.records s.histories) [] (missed_taken begins t m al os s.records s.histories) (log_none t)))

missed_cut : (begins : Begins) (t : Taker) → Misses begins t → (os : List Open) → log t (cut_off begins os) ≡ []
unfolding cut_off
missed_cut begins t m [] = log_none t
missed_cut begins t m (o ∷ os) = none_or t (is_done o.read) (cut_off begins os) (by_read begins CutOff o.process [] ∷ cut_off begins os) (missed_cut begins t m os) (missed_one begins t m CutOff o.process [] (cut_off begins os) (missed_cut begins t m os))

missed_struck : (begins : Begins) (t : Taker) → Misses begins t → (os : List Open) → log t (interrupted begins os) ≡ []
unfolding interrupted
missed_struck begins t m os = by (find is_open_line os)
  where
    by : (o : Option Open) → log t (interrupted_by begins o) ≡ []
    by None = log_none t
    by (Some o) = missed_one begins t m Interrupted o.process [] [] (log_none t)

-- what is noted of a process's read
unfoldable pub noted_at : State → ℕ → Option NoteTold
noted_at s p = told_of (noted_of s.noted p)

-- nothing is noted of a process without a read
unfoldable pub Bare : State → Type 0
Bare s = (p : ℕ) → is_open s.reads p ≡ false → noted_at s p ≡ None

-- What is done for reads between two consoles: a process's read becomes what its own pieces make of it, and one that has none gets none.
pub record Goes (begins : Begins) (s : State) (ps : List Piece) (t : State) : Type 0 where
  pub read : (p : ℕ) (r : OpenRead) → IsProper r → Mine p r s.reads → Becomes p r (own begins p ps) t.reads
  pub none : (p : ℕ) → is_open s.reads p ≡ false → (is_open t.reads p ≡ false) × (own begins p ps ≡ [])
  pub miss : (u : Taker) → Misses begins u → is_flush u ≡ false → log u ps ≡ []
  pub note : (p : ℕ) (r : OpenRead) → IsProper r → Mine p r s.reads → is_open t.reads p ≡ true → noted_at t p ≡ waked (wakes p r (own begins p ps)) (noted_at s p)
  pub bare : Bare s → Bare t

both_none : (xs ys : List Piece) → xs ≡ [] → ys ≡ [] → xs ++ ys ≡ []
both_none xs ys h g = ap (λ (zs : List Piece). zs ++ ys) h ∙ g

note_on : (begins : Begins) (s t u : State) (ps qs : List Piece) (p : ℕ) (r : OpenRead) (b : Bool) → is_open t.reads p ≡ b → Goes begins s ps t → Goes begins t qs u → IsProper r → Mine p r s.reads → is_open u.reads p ≡ true
    → noted_at u p ≡ waked (wakes p r (own begins p (ps ++ qs))) (noted_at s p)
unfolding Becomes
note_on begins s t u ps qs p r false e h g proper mine kept = absurd (true≢false (sym kept ∙ (g.none p e).0))
note_on begins s t u ps qs p r true e h g proper mine kept =
    let xs : List Piece = own begins p ps in
    let ys : List Piece = own begins p qs in
    let r1 : OpenRead = read_after p r xs in
    g.note p r1 (proper_after p r xs proper) (h.read p r proper mine).1 kept
    ∙ ap (waked (wakes p r1 ys)) (h.note p r proper mine e)
    ∙ waked_on (wakes p r xs) (wakes p r1 ys) (noted_at s p)
    ∙ ap (λ (b : Bool). waked b (noted_at s p)) (sym (wakes-append p r xs ys) ∙ ap (wakes p r) (sym (own-append begins p ps qs)))

pub goes_on : (begins : Begins) (s t u : State) (ps qs : List Piece) → Goes begins s ps t → Goes begins t qs u → Goes begins s (ps ++ qs) u
unfolding Becomes
goes_on begins s t u ps qs h g = record {
  read = λ p r proper mine. (let a = h.read p r proper mine in
      subst (λ (x : List Piece). Becomes p r x u.reads) (sym (own-append begins p ps qs))
      (becomes_on p r (own begins p ps) (own begins p qs) u.reads a.0 (g.read p (read_after p r (own begins p ps)) (proper_after p r (own begins p ps) proper) a.1)));
  none = λ p none. (let a = h.none p none in let b = g.none p a.0 in (b.0, own-append begins p ps qs ∙ both_none (own begins p ps) (own begins p qs) a.1 b.1));
  miss = λ r m f. log-append r ps qs ∙ both_none (log r ps) (log r qs) (h.miss r m f) (g.miss r m f);
  note = λ p r proper mine kept. note_on begins s t u ps qs p r (is_open t.reads p) refl h g proper mine kept;
  bare = λ b. g.bare (h.bare b);
}

-- what is noted stays where no piece is of a serving
same_note : (p : ℕ) (r : OpenRead) (xs : List Piece) (o n : Option NoteTold) → wakes p r xs ≡ false → n ≡ o → n ≡ waked (wakes p r xs) o
unfolding waked
same_note p r xs o n none e = rw none e

moves : (begins : Begins) (s t : State) → ((p : ℕ) (r : OpenRead) → Mine p r s.reads → Mine p r t.reads) → ((p : ℕ) → is_open s.reads p ≡ false → is_open t.reads p ≡ false)
    → ((p : ℕ) (r : OpenRead) → Mine p r s.reads → is_open t.reads p ≡ true → noted_at t p ≡ noted_at s p) → (Bare s → Bare t) → Goes begins s [] t
moves begins s t mine none note bare = record {
  read = λ p r proper h. nothing_done begins p r t.reads [] (own_none begins p) (mine p r h);
  none = λ p h. (none p h, own_none begins p);
  miss = λ u m f. log_none u;
  note = λ p r proper h kept. same_note p r (own begins p []) (noted_at s p) (noted_at t p) (wakes_none p r (own begins p []) (own_none begins p)) (note p r h kept);
  bare = bare;
}

-- the reads, and what is noted of them
abbrev pub held : State → List Open × List Noted
held s = (s.reads, s.noted)

abbrev held_of : Parts → List Open × List Noted
held_of x = (x.reads, x.noted)

pub stays : (begins : Begins) (s t : State) → held t ≡ held s → Goes begins s [] t
unfolding noted_at Bare
stays begins s t same =
    let reads_same : t.reads ≡ s.reads = ap (λ (x : List Open × List Noted). x.0) same in
    let noted_same : t.noted ≡ s.noted = ap (λ (x : List Open × List Noted). x.1) same in
    moves begins s t (λ p r mine. subst (λ (os : List Open). Mine p r os) (sym reads_same) mine) (λ p none. ap (λ (os : List Open). is_open os p) reads_same ∙ none)
    (λ p r mine kept. ap (λ (ns : List Noted). told_of (noted_of ns p)) noted_same)
    (λ bare p none. ap (λ (ns : List Noted). told_of (noted_of ns p)) noted_same ∙ bare p (sym (ap (λ (os : List Open). is_open os p) reads_same) ∙ none))

-- the choice of the pieces is that of the console
chooses : (begins : Begins) (s : State) (b : Bool) (ps qs : List Piece) (x y : State) → Goes begins s ps x → Goes begins s qs y → Goes begins s (if b then ps else qs) (if b then x else y)
chooses begins s true ps qs x y h g = h
chooses begins s false ps qs x y h g = g

-- ---- serving, and ends

pub settled_reads : (s : State) → (settled_state s).reads ≡ (settled s.aliases s.reads s.records s.histories).reads
settled_reads s = ap (λ (x : State). x.reads) (settled_shows s).is

served_goes : UnitsPiece → (begins : Begins) → Apart begins → (s : State) → Goes begins s (served_pieces begins s) (settled_state s)
unfolding served_pieces noted_at Bare
served_goes w begins sure s = record {
  read = λ p r proper mine. subst (λ (os : List Open). Becomes p r (own begins p (taken_by begins s.aliases s.reads s.records s.histories)) os) (sym (settled_reads s)) (settled_mine w begins sure s.aliases s.reads s.records s.histories p r proper mine);
  none = λ p none. (ap (λ (os : List Open). is_open os p) (settled_reads s) ∙ settled_open s.aliases s.reads s.records s.histories p ∙ none, none_taken begins sure s.aliases s.reads s.records s.histories p none);
  miss = λ u m f. missed_taken begins u m s.aliases s.reads s.records s.histories;
  note = λ p r proper mine kept. settled_note s p ∙ ap (λ (b : Bool). waked b (noted_at s p)) (settled_wakes begins sure s.aliases s.reads s.records s.histories p r mine);
  bare = λ bare p none. (let w : Bool = list_any (woke_of p) (settled s.aliases s.reads s.records s.histories).acts in
      settled_note s p ∙ ap (waked w) (bare p (sym (ap (λ (os : List Open). is_open os p) (settled_reads s) ∙ settled_open s.aliases s.reads s.records s.histories p) ∙ none)) ∙ waked_none w);
}

-- pieces by which no read is served
unfoldable IsStill : List Piece → Type 0
IsStill [] = Unit {0}
IsStill (x ∷ xs) = ((p : ℕ) (r : OpenRead) → wakes_one p r x.0.how x.1 ≡ false) × IsStill xs

still_by : (b : Bool) (x : Piece) (ys : List Piece) (p : ℕ) (r : OpenRead) → wakes_one p r x.0.how x.1 ≡ false → ((q : OpenRead) → wakes p q ys ≡ false) → wakes p r (cond b (x ∷ ys) ys) ≡ false
unfolding wakes
still_by true x ys p r h rest = ap (λ (b : Bool). b || wakes p (by_how p r x.0.how x.1) ys) h ∙ rest (by_how p r x.0.how x.1)
still_by false x ys p r h rest = rest r

still_wakes : (t : Taker) (xs : List Piece) (p : ℕ) (r : OpenRead) → IsStill xs → wakes p r (log t xs) ≡ false
unfolding IsStill log
still_wakes t [] p r h = wakes_none p r [] refl
still_wakes t (x ∷ xs) p r h = still_by (is_taker t x.0.taker) x (log t xs) p r (h.0 p r) (λ q. still_wakes t xs p q h.1)

one_still : (b : Bool) (x : Piece) (xs : List Piece) → ((p : ℕ) (r : OpenRead) → wakes_one p r x.0.how x.1 ≡ false) → IsStill xs → IsStill (if b then xs else (x ∷ xs))
unfolding IsStill
one_still true x xs h g = g
one_still false x xs h g = (h, g)

cut_still : (begins : Begins) (os : List Open) → IsStill (cut_off begins os)
unfolding cut_off IsStill wakes_one
cut_still begins [] = tt
cut_still begins (o ∷ os) = one_still (is_done o.read) (by_read begins CutOff o.process []) (cut_off begins os) (λ p r. refl) (cut_still begins os)

struck_by : (begins : Begins) (o : Option Open) → IsStill (interrupted_by begins o)
unfolding IsStill wakes_one
struck_by begins None = tt
struck_by begins (Some o) = ((λ p r. refl), tt)

struck_still : (begins : Begins) (os : List Open) → IsStill (interrupted begins os)
unfolding interrupted
struck_still begins os = struck_by begins (find is_open_line os)

cut_goes : (begins : Begins) → Apart begins → (s t : State) → t.reads ≡ all_closed s.reads → t.noted ≡ s.noted → Goes begins s (cut_off begins s.reads) t
unfolding noted_at Bare own
cut_goes begins sure s t same noted = record {
  read = λ p r proper mine. subst (λ (os : List Open). Becomes p r (own begins p (cut_off begins s.reads)) os) (sym same) (cut_mine begins sure s.reads p r mine);
  none = λ p none. (ap (λ (os : List Open). is_open os p) same ∙ closed_open s.reads p ∙ none, none_cut begins sure s.reads p none);
  miss = λ u m f. missed_cut begins u m s.reads;
  note = λ p r proper mine kept. same_note p r (own begins p (cut_off begins s.reads)) (noted_at s p) (noted_at t p) (still_wakes (read_of p (begins p)) (cut_off begins s.reads) p r (cut_still begins s.reads)) (ap (λ (ns : List Noted). told_of (noted_of ns p)) noted);
  bare = λ bare p none. ap (λ (ns : List Noted). told_of (noted_of ns p)) noted ∙ bare p (sym (ap (λ (os : List Open). is_open os p) same ∙ closed_open s.reads p) ∙ none);
}

struck_goes : (begins : Begins) → Apart begins → (s t : State) → t.reads ≡ line_aborted s.reads → t.noted ≡ s.noted → Goes begins s (interrupted begins s.reads) t
unfolding noted_at Bare own
struck_goes begins sure s t same noted = record {
  read = λ p r proper mine. subst (λ (os : List Open). Becomes p r (own begins p (interrupted begins s.reads)) os) (sym same) (struck_mine begins sure s.reads p r mine);
  none = λ p none. (ap (λ (os : List Open). is_open os p) same ∙ aborted_open s.reads p ∙ none, none_struck begins sure s.reads p none);
  miss = λ u m f. missed_struck begins u m s.reads;
  note = λ p r proper mine kept. same_note p r (own begins p (interrupted begins s.reads)) (noted_at s p) (noted_at t p) (still_wakes (read_of p (begins p)) (interrupted begins s.reads) p r (struck_still begins s.reads)) (ap (λ (ns : List Noted). told_of (noted_of ns p)) noted);
  bare = λ bare p none. ap (λ (ns : List Noted). told_of (noted_of ns p)) noted ∙ bare p (sym (ap (λ (os : List Open). is_open os p) same ∙ aborted_open s.reads p) ∙ none);
}

hung_goes : (begins : Begins) → Apart begins → (s : State) → Goes begins s (hung_pieces begins s) (hung_up s)
hung_goes begins sure s =
    let t : State = record s { closed = true; procs = signalled s.procs 2 0; reads = all_closed s.reads } in
    chooses begins s s.closed [] (cut_off begins s.reads) s t (stays begins s s refl) (cut_goes begins sure s t refl refl)

closing_goes : (begins : Begins) → Apart begins → (s : State) → Goes begins s (closing_pieces begins s) (closing s)
unfolding closing closing_pieces
closing_goes begins sure s = chooses begins s (s.drained && all_wait s.reads (ids_of s.procs)) (hung_pieces begins s) [] (hung_up s) s (hung_goes begins sure s) (stays begins s s refl)

signalled_goes : (begins : Begins) → Apart begins → (s : State) (event group : ℕ) → Goes begins s (if (event == 0) && (group == 0) then interrupted begins s.reads else []) (signalled_to s event group)
signalled_goes begins sure s event group =
    let t : State = record s { procs = signalled s.procs event group; reads = line_aborted s.reads } in
    let u : State = record s { procs = signalled s.procs event group } in
    chooses begins s ((event == 0) && (group == 0)) (interrupted begins s.reads) [] t u (struck_goes begins sure s t refl refl) (stays begins s u refl)

-- ---- keys, and the mouse

key_goes : UnitsPiece → (begins : Begins) → Apart begins → (s : State) (k : Key) (b : Bool)
    → Goes begins s (if b then served_pieces begins s ++ interrupted begins (settled_state s).reads else []) (if b then signalled_to (settled_state s) 0 0 else record s { records = s.records ++ records_of s k })
key_goes w begins sure s k true = goes_on begins s (settled_state s) (signalled_to (settled_state s) 0 0) (served_pieces begins s) (interrupted begins (settled_state s).reads) (served_goes w begins sure s) (signalled_goes begins sure (settled_state s) 0 0)
key_goes w begins sure s k false = stays begins s (record s { records = s.records ++ records_of s k }) refl

keys_go : UnitsPiece → (begins : Begins) → Apart begins → (s : State) (ks : List Key) → Goes begins s (keys_pieces begins s ks) (fold key_taken s ks)
unfolding keys_pieces
keys_go w begins sure s [] = stays begins s s refl
keys_go w begins sure s (k ∷ ks) = goes_on begins s (key_taken s k) (fold key_taken (key_taken s k) ks) (key_pieces begins s k) (keys_pieces begins (key_taken s k) ks) (key_goes w begins sure s k (is_break s k)) (keys_go w begins sure (key_taken s k) ks)

alike_held : (b : Bool) (x y : State) (h : List Open × List Noted) → held x ≡ h → held y ≡ h → held (if b then x else y) ≡ h
alike_held true x y same h k = h
alike_held false x y same h k = k

report_reads : (s : State) (r : Option Report) → held (by_report s r) ≡ held s
report_reads s None = refl
report_reads s (Some r) = refl

bytes_go : UnitsPiece → (begins : Begins) → Apart begins → (s : State) (b : Bytes) → Goes begins s (bytes_pieces begins s b) (piece_taken s b)
bytes_go w begins sure s (Typed k) = key_goes w begins sure s k (is_break s k)
bytes_go w begins sure s (Ended bytes) = stays begins s (sequence_taken s bytes) (alike_held (has_bit s.mode 0x10) (by_report s (report_of bytes)) s (held s) (report_reads s (report_of bytes)) refl)

all_bytes_go : UnitsPiece → (begins : Begins) → Apart begins → (s : State) (bs : List Bytes) → Goes begins s (all_bytes_pieces begins s bs) (fold piece_taken s bs)
unfolding all_bytes_pieces
all_bytes_go w begins sure s [] = stays begins s s refl
all_bytes_go w begins sure s (b ∷ bs) = goes_on begins s (piece_taken s b) (fold piece_taken (piece_taken s b) bs) (bytes_pieces begins s b) (all_bytes_pieces begins (piece_taken s b) bs) (bytes_go w begins sure s b) (all_bytes_go w begins sure (piece_taken s b) bs)

held_goes : (begins : Begins) (s t : State) (held : List ℕ) (ps : List Piece) → Goes begins (record s { held = held }) ps t → Goes begins s ps t
unfolding noted_at Bare
held_goes begins s t held ps h = record { read = h.read; none = h.none; miss = h.miss; note = h.note; bare = h.bare }

fed_goes : UnitsPiece → (begins : Begins) → Apart begins → (s : State) (bytes : List ℕ) → Goes begins s (fed_pieces begins s bytes) (fed s bytes)
unfolding fed_pieces fed
fed_goes w begins sure s bytes =
    let parts = split_after piece_grammar s.held bytes in
    held_goes begins s (fold piece_taken (record s { held = parts.tail }) parts.items) parts.tail (all_bytes_pieces begins (record s { held = parts.tail }) parts.items) (all_bytes_go w begins sure (record s { held = parts.tail }) parts.items)

quiet_goes : UnitsPiece → (begins : Begins) → Apart begins → (s : State) → Goes begins s (keys_pieces begins (record s { held = [] }) (quieted s.held)) (quiet s)
unfolding quiet
quiet_goes w begins sure s = held_goes begins s (fold key_taken (record s { held = [] }) (quieted s.held)) [] (keys_pieces begins (record s { held = [] }) (quieted s.held)) (keys_go w begins sure (record s { held = [] }) (quieted s.held))

resized_reads : (s : State) (size : Size) → held (resized s size) ≡ held s
unfolding resized
resized_reads s size = alike_held (has_bit s.mode 8) _ _ (held s) refl refl

-- ---- calls

either : (b : Bool) (x y : Outcome) (h : List Open × List Noted) → held x.after ≡ h → held y.after ≡ h → held (if b then x else y).after ≡ h
either true x y same h k = h
either false x y same h k = k

open_reads : (s : State) (o : Outcome) → held o.after ≡ held s → held (while_open s o).after ≡ held s
open_reads s o h = either s.closed (refused s code.Closed) o (held s) refl h

object_reads : (s : State) (g : Result Object Code) (f : Object → Outcome) → ((o : Object) → held (f o).after ≡ held s) → held (with_object s g f).after ≡ held s
object_reads s (Err why) f h = refl
object_reads s (Ok o) f h = h o

answer_reads : (s : State) (r : Result (Unit {0}) Code) (t : State) → held t ≡ held s → held (by_answer s r t).after ≡ held s
answer_reads s (Err why) t h = refl
answer_reads s (Ok u) t h = h

result_reads : {A : Type 0} → (s : State) (r : Result A Code) (t : State) (f : A → Reply) → held t ≡ held s → held (by_result s r t f).after ≡ held s
result_reads s (Err why) t f h = refl
result_reads s (Ok a) t f h = h

place_reads : (s : State) (place : ℕ) (o : Outcome) → held o.after ≡ held s → held (on_place s place o).after ≡ held s
place_reads s place o h = either (nat_le place 255) o (refused s code.BadArgument) (held s) h refl

flushed_none : (place : ℕ) (rs : List Record) (p : ℕ) (o : Option Begin) → log (read_of p o) ((record { taker = Flushed place; how = Emptied }, rs) ∷ []) ≡ []
unfolding log
flushed_none place rs p None = refl
flushed_none place rs p (Some b) = refl

flush_missed : (place : ℕ) (rs : List Record) (t : Taker) → is_flush t ≡ false → log t ((record { taker = Flushed place; how = Emptied }, rs) ∷ []) ≡ []
unfolding log is_flush
flush_missed place rs (Begun n) f = refl
flush_missed place rs (Earlier p) f = refl
flush_missed place rs (Flushed n) f = absurd (true≢false f)

flush_goes : (begins : Begins) (place : ℕ) (s : State) (g : Result Object Code) → Goes begins s (flushed_pieces place s g) (with_object s g (λ _. done (record s { records = [] }))).after
unfolding own noted_at Bare
flush_goes begins place s (Err why) = stays begins s s refl
flush_goes begins place s (Ok o) = record {
  read = λ p r proper mine. nothing_done begins p r s.reads ((record { taker = Flushed place; how = Emptied }, s.records) ∷ []) (flushed_none place s.records p (begins p)) mine;
  none = λ p none. (none, flushed_none place s.records p (begins p));
  miss = λ u m f. flush_missed place s.records u f;
  note = λ p r proper mine kept. same_note p r (own begins p ((record { taker = Flushed place; how = Emptied }, s.records) ∷ [])) (noted_at s p) (noted_at s p) (wakes_none p r (own begins p ((record { taker = Flushed place; how = Emptied }, s.records) ∷ [])) (flushed_none place s.records p (begins p))) refl;
  bare = λ bare. bare;
}

sent_by : (begins : Begins) → Apart begins → (s : State) (event group : ℕ) (closed wrong : Bool)
    → Goes begins s (if closed then [] else if wrong then [] else if (event == 0) && (group == 0) then interrupted begins s.reads else []) (if closed then refused s code.Closed else if wrong then refused s code.BadArgument else done (signalled_to s event group)).after
sent_by begins sure s event group true wrong = stays begins s s refl
sent_by begins sure s event group false true = stays begins s s refl
sent_by begins sure s event group false false = signalled_goes begins sure s event group

sent_goes : (begins : Begins) → Apart begins → (s : State) (event group : ℕ) → Goes begins s (signal_pieces begins s event group) (sent_signal s event group).after
sent_goes begins sure s event group = sent_by begins sure s event group s.closed (is_no_signal s.procs event group)

call_goes : (begins : Begins) → Apart begins → (place : ℕ) (s : State) (p : ℕ) (c : Call) → Goes begins s (call_pieces begins place s p c) (called s p c).after
unfolding called
call_goes begins sure place s p (calls.Close h) = stays begins s (closed_handle s p h).after (object_reads s (object_owned s p h) _ (λ o. refl))
call_goes begins sure place s p (calls.Write h units) = stays begins s (wrote s p h units).after (object_reads s (guard s p h kind.Output 2) _ (λ o. either (nat_lt 16384 (length units)) (refused s code.Limit) _ (held s) refl refl))
call_goes begins sure place s p (calls.WriteInput h records) = stays begins s (wrote_input s p h records).after (object_reads s (guard s p h kind.Input 2) _ (λ o. either (nat_lt 1024 (length records)) (refused s code.Limit) _ (held s) refl refl))
call_goes begins sure place s p (calls.Flush h) = flush_goes begins place s (guard s p h kind.Input 2)
call_goes begins sure place s p (calls.Signal event group) = sent_goes begins sure s event group
call_goes begins sure place s p (calls.Ignore on) = stays begins s (set_ignore s p on).after (open_reads s _ refl)
call_goes begins sure place s p (calls.HandlerAdd k) = stays begins s (added_handler s p k).after (open_reads s _ (place_reads s k _ (answer_reads s (add_handler_answer s.procs p k) _ refl)))
call_goes begins sure place s p (calls.HandlerRemove k) = stays begins s (removed_handler s p k).after (open_reads s _ (place_reads s k _ (answer_reads s (remove_handler_answer s.procs p k) _ refl)))
call_goes begins sure place s p c = stays begins s (called s p c).after (ap held_of (stands s p c refl).is)

-- ---- events, but for a Begin

told_reads : (s : State) (n : Option Noted) (a : Answer) → (answer_told s n a).after.reads ≡ s.reads
told_reads s None (answers.Units units) = refl
told_reads s (Some n) (answers.Units units) = refl
told_reads s n (answers.Records records) = refl
told_reads s n (answers.Fail why) = refl

gone_note : (s t : State) (p q : ℕ) (r : OpenRead) (b : Bool) → (p == q) ≡ b → t.reads ≡ without s.reads p → t.noted ≡ without_noted s.noted p → Mine q r s.reads → is_open t.reads q ≡ true → noted_at t q ≡ noted_at s q
unfolding noted_at
gone_note s t p q r true e same noted mine kept =
    let is : p ≡ q = eqb-true p q e in
    absurd (true≢false (sym kept ∙ ap (λ (os : List Open). is_open os q) same ∙ ap (λ (k : ℕ). is_open (without s.reads k) q) is ∙ gone_mine s.reads q r mine))
gone_note s t p q r false e same noted mine kept = ap (λ (ns : List Noted). told_of (noted_of ns q)) noted ∙ ap told_of (without_other s.noted p q e)

gone_bare : (s t : State) (p q : ℕ) (b : Bool) → (p == q) ≡ b → t.reads ≡ without s.reads p → t.noted ≡ without_noted s.noted p → Bare s → is_open t.reads q ≡ false → noted_at t q ≡ None
unfolding noted_at Bare told_of
gone_bare s t p q true e same noted bare none =
    let is : q ≡ p = sym (eqb-true p q e) in
    ap (λ (ns : List Noted). told_of (noted_of ns q)) noted ∙ ap (λ (k : ℕ). told_of (noted_of (without_noted s.noted p) k)) is ∙ ap told_of (without_own s.noted p)
gone_bare s t p q false e same noted bare none =
    ap (λ (ns : List Noted). told_of (noted_of ns q)) noted ∙ ap told_of (without_other s.noted p q e) ∙ bare q (sym (ap (λ (os : List Open). is_open os q) same ∙ without_open s.reads p q e) ∙ none)

gone_goes : (begins : Begins) (s t : State) (p : ℕ) → t.reads ≡ without s.reads p → t.noted ≡ without_noted s.noted p → Goes begins s [] t
unfolding Bare
gone_goes begins s t p same noted =
    moves begins s t (λ q r mine. subst (λ (os : List Open). Mine q r os) (sym same) (removed_mine s.reads (place_of s.reads p) q r mine)) (λ q none. ap (λ (os : List Open). is_open os q) same ∙ removed_open s.reads (place_of s.reads p) q none)
    (λ q r mine kept. gone_note s t p q r (p == q) refl same noted mine kept) (λ bare q none. gone_bare s t p q (p == q) refl same noted bare none)

told_noted : (s : State) (n : Option Noted) (a : Answer) → (answer_told s n a).after.noted ≡ s.noted
told_noted s None (answers.Units units) = refl
told_noted s (Some n) (answers.Units units) = refl
told_noted s n (answers.Records records) = refl
told_noted s n (answers.Fail why) = refl

collected_noted : (s : State) (p : ℕ) → (collected s p).after.noted ≡ without_noted s.noted p
unfolding collected
collected_noted s p = told_noted (record s { reads = without s.reads p; noted = without_noted s.noted p }) (noted_of s.noted p) (answer_in (slice_get s.reads (place_of s.reads p)))

pub collected_reads : (s : State) (p : ℕ) → (collected s p).after.reads ≡ without s.reads p
unfolding collected
collected_reads s p = told_reads (record s { reads = without s.reads p; noted = without_noted s.noted p }) (noted_of s.noted p) (answer_in (slice_get s.reads (place_of s.reads p)))

collect_goes : (begins : Begins) (s : State) (p : ℕ) → Goes begins s [] (collected s p).after
collect_goes begins s p = gone_goes begins s (collected s p).after p (collected_reads s p) (collected_noted s p)

ctrl_goes : (begins : Begins) (s : State) (p : ℕ) → Goes begins s [] (took_ctrl s p).after
unfolding took_ctrl
ctrl_goes begins s p = stays begins s (took_ctrl s p).after refl

left_goes : (begins : Begins) (s : State) (p status : ℕ) → Goes begins s [] (left s p status)
unfolding left
left_goes begins s p status = gone_goes begins s (left s p status) p refl refl

painted_goes : (begins : Begins) (s : State) → Goes begins s [] (painted s)
unfolding painted
painted_goes begins s = stays begins s (painted s) refl

unfoldable pub is_begin : Event → Bool
is_begin (events.Begin w) = true
is_begin _ = false

pub event_goes : UnitsPiece → (begins : Begins) → Apart begins → (place : ℕ) (s : State) (p : ℕ) (e : Event) → is_begin e ≡ false → Goes begins s (effect_pieces begins place s p e) (effect s p e).after
unfolding effect is_begin
event_goes w begins sure place s p (events.Call c) n = call_goes begins sure place s p c
event_goes w begins sure place s p (events.Begin wanted) n = absurd (true≢false n)
event_goes w begins sure place s p events.Collect n = collect_goes begins s p
event_goes w begins sure place s p events.TakeCtrl n = ctrl_goes begins s p
event_goes w begins sure place s p (events.Exit status) n = left_goes begins s p status
event_goes w begins sure place s p (events.Feed bytes) n = fed_goes w begins sure s bytes
event_goes w begins sure place s p events.Quiet n = quiet_goes w begins sure s
event_goes w begins sure place s p (events.Resize size) n = stays begins s (resized s size) (resized_reads s size)
event_goes w begins sure place s p events.Ask n = stays begins s (asked s) refl
event_goes w begins sure place s p events.Hangup n = hung_goes begins sure s
event_goes w begins sure place s p events.Drained n = stays begins s (drained s) refl
event_goes w begins sure place s p events.Paint n = painted_goes begins s

-- at the end reads are served, and the console may close
pub ends_goes : UnitsPiece → (begins : Begins) → Apart begins → (o : Outcome) → Goes begins o.after (end_pieces begins o.after) (finished o).after
ends_goes w begins sure o =
    let t : State = settled_state o.after in
    goes_on begins o.after t (closing t) (served_pieces begins o.after) (closing_pieces begins t) (served_goes w begins sure o.after) (closing_goes begins sure t)
