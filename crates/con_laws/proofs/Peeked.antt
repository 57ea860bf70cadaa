-- A peek changes no fate, and a fate stays.
use Rattle.std.proofs.Common.{◌≡◌, ◌-◌, ℕ, Bool, true, false, List, [], ◌∷◌, ◌++◌, refl, ap, ◌∙◌, sym, subst, length, append-nil, Option, None, Some, nat_lt, true≢false, ◌⊎◌, inl, inr, arith, Result, Ok, Err}
use Rattle.std.specs.Prelude.{◌&&◌, if◌then◌else◌}
use Rattle.std.proofs.lemmas.Bool.Decides.{nat_tests}
use Rattle.con_units.specs.declared.code.Code.{Code}
use Rattle.con_alias.specs.Aliases.{AliasList}
use Rattle.con_cooked.specs.Cooked.{is_return}
use Rattle.con_cooked.specs.Keys.{key_of}
use Rattle.con_cooked.specs.Mask.{is_masked}
use Rattle.con_cooked.specs.declared.cooked.Cooked.{Cooked}
use Rattle.con_events.specs.declared.actor.Actor.TheVariants as actors
use Rattle.con_events.specs.declared.call.Call.TheVariants as calls
use Rattle.con_events.specs.declared.entry.Entry.{Entry}
use Rattle.con_events.specs.declared.event.Event.TheVariants as events
use Rattle.con_events.specs.declared.reply.Reply.{Reply}
use Rattle.con_handles.specs.declared.handle.Kind.TheVariants as kind
use Rattle.con_handles.specs.declared.handle.Object.{Object}
use Rattle.con_history.specs.Histories.{LineHistories}
use Rattle.con_procs.specs.Procs.{ids_of, signalled}
use Rattle.con_readers.specs.Words.Lines.{line_after}
use Rattle.con_readers.specs.Pieces.{joined}
use Rattle.con_readers.specs.Words.Pieces.{pieces_of}
use Rattle.con_readers.specs.Reads.{settled, all_closed}
use Rattle.con_readers.specs.Words.Reads.{closed_one}
use Rattle.con_readers.specs.Serving.{Served as Serving, is_done, served, served_line}
use Rattle.con_readers.specs.Words.Serving.{took_units, served_on}
use Rattle.con_readers.specs.Wants.{units_of}
use Rattle.con_readers.specs.declared.open.Open.{Open}
use Rattle.con_readers.specs.declared.open.OpenRead.{OpenRead}
use Rattle.con_readers.specs.declared.open.OpenRead.TheVariants as reads
use Rattle.con_records.specs.declared.record.Record.{Record}
use Rattle.con_machine.specs.State.{State}
use Rattle.con_machine.specs.History.{run}
use Rattle.con_machine.specs.Outcome.{guard, answered}
use Rattle.con_machine.specs.Words.Outcome.{with_object}
use Rattle.con_machine.specs.Call.{called}
use Rattle.con_machine.specs.Closing.{closing, hung_up, all_wait}
use Rattle.con_machine.specs.InputCalls.{peeked, peek_told}
use Rattle.con_machine.specs.Serving.{settled_state}
use Rattle.con_machine.specs.Step.{step, effect, is_outside, client_of}
use Rattle.con_laws.specs.Fates.{Taker, Piece}
use Rattle.con_laws.specs.Walks.{Begins, no_begins, taken_by, served_pieces, closing_pieces, step_pieces, begins_from, begins_after, pieces_from, pieces, fate_in, fate}
use Rattle.con_laws.proofs.Conserved.{WholeReads, joined-append, served_keeps, settled_records, closing-none}
use Rattle.con_laws.proofs.Takes.{settled_reads}
use Rattle.con_laws.proofs.Fated.{pieces-append, place_after}

-- ---- nothing is left to serve: no record is there, or every read is done

unfoldable AllDone : List Open → Type 0
AllDone [] = Unit {0}
AllDone (o ∷ os) = (is_done o.read ≡ true) × AllDone os

Rests : List Open → List Record → Type 0
Rests os rs = (rs ≡ []) ⊎ AllDone os

on_left : (p : ℕ) (al : List AliasList) (line line' : Cooked) (rs : List Record) (hs : LineHistories) (later : Serving) (masked returned : Bool) → (is_done later.read ≡ false → later.records ≡ [])
    → is_done (served_on p al line line' rs hs later masked returned).read ≡ false → (served_on p al line line' rs hs later masked returned).records ≡ []
on_left p al line line' rs hs later true returned ih d = absurd (true≢false d)
on_left p al line line' rs hs later false true ih d = absurd (true≢false d)
on_left p al line line' rs hs later false false ih d = ih d

line_left : (p : ℕ) (al : List AliasList) (line : Cooked) (rs : List Record) (hs : LineHistories) → is_done (served_line p al line rs hs).read ≡ false → (served_line p al line rs hs).records ≡ []
line_left p al line [] hs d = refl
line_left p al line (r ∷ rs) hs d =
    on_left p al line (line_after line r hs) rs hs (served_line p al (line_after line r hs) rs hs) (is_masked line.mask r) (is_return (key_of r))
    (line_left p al (line_after line r hs) rs hs) d

units_left : (p n : ℕ) (rs : List Record) (hs : LineHistories) (us : List ℕ) → is_done (took_units p n rs hs us).read ≡ false → (took_units p n rs hs us).records ≡ []
units_left p n rs hs [] d = refl
units_left p n rs hs (u ∷ us) d = absurd (true≢false d)

-- a read that is not done left no record
pub none_left : (p : ℕ) (al : List AliasList) (read : OpenRead) (rs : List Record) (hs : LineHistories) → is_done read ≡ false → is_done (served p al read rs hs).read ≡ false → (served p al read rs hs).records ≡ []
unfolding served
none_left p al (reads.Line line) rs hs n d = line_left p al line rs hs d
none_left p al (reads.Units n) [] hs m d = refl
none_left p al (reads.Units n) (r ∷ rs) hs m d = units_left p n (r ∷ rs) hs (units_of n (r ∷ rs)) d
none_left p al (reads.Records n) [] hs m d = refl
none_left p al (reads.Records n) (r ∷ rs) hs m d = absurd (true≢false d)
none_left p al (reads.Done a) rs hs n d = absurd (true≢false n)

rests_more : (o : Open) (os : List Open) (rs : List Record) → is_done o.read ≡ true → Rests os rs → Rests (o ∷ os) rs
unfolding Rests AllDone
rests_more o os rs d (inl h) = inl h
rests_more o os rs d (inr h) = inr (d, h)

rests_by : (al : List AliasList) (o : Open) (os : List Open) (rs : List Record) (hs : LineHistories) (a b : Bool) → is_done o.read ≡ a → is_done (served o.process al o.read rs hs).read ≡ b
    → (let t = settled al os rs hs in Rests t.reads t.records) → (let s = served o.process al o.read rs hs in let t = settled al os s.records s.histories in Rests t.reads t.records) → (let t = settled al (o ∷ os) rs hs in Rests t.reads t.records)
unfolding settled Rests
rests_by al o os rs hs true b d e now later = rw d (rests_more o (settled al os rs hs).reads (settled al os rs hs).records d now)
rests_by al o os rs hs false true d e now later =
    let s = served o.process al o.read rs hs in
    let t = settled al os s.records s.histories in
    rw (d, e) (rests_more (record o { read = s.read; started = true }) t.reads t.records e later)
rests_by al o os rs hs false false d e now later = rw (d, e) (inl (none_left o.process al o.read rs hs d e))

settled_rests : (al : List AliasList) (os : List Open) (rs : List Record) (hs : LineHistories) → (let t = settled al os rs hs in Rests t.reads t.records)
unfolding settled AllDone Rests
settled_rests al [] rs hs = inr tt
settled_rests al (o ∷ os) rs hs =
    let s = served o.process al o.read rs hs in
    rests_by al o os rs hs (is_done o.read) (is_done s.read) refl refl (settled_rests al os rs hs) (settled_rests al os s.records s.histories)

closed_done : (o : Open) (b : Bool) → is_done o.read ≡ b → is_done (closed_one o).read ≡ true
closed_done o true e = rw e e
closed_done o false e = rw e refl

closed_all : (os : List Open) → AllDone (all_closed os)
unfolding AllDone
closed_all [] = tt
closed_all (o ∷ os) = (closed_done o (is_done o.read) refl, closed_all os)

StateRests : State → Type 0
StateRests s = Rests s.reads s.records

rests_or : (b : Bool) (x y : State) → StateRests x → StateRests y → StateRests (if b then x else y)
rests_or true x y h g = h
rests_or false x y h g = g

hung_rests : (s : State) → StateRests s → StateRests (hung_up s)
unfolding StateRests Rests
hung_rests s h =
    let t : State = record s { closed = true; procs = signalled s.procs 2 0; reads = all_closed s.reads } in
    rests_or s.closed s t h (inr (closed_all s.reads))

closing_rests : (s : State) → StateRests s → StateRests (closing s)
unfolding closing
closing_rests s h = rests_or (s.drained && all_wait s.reads (ids_of s.procs)) (hung_up s) s (hung_rests s h) h

state_rests : (s : State) → StateRests (settled_state s)
unfolding StateRests
state_rests s =
    let t = settled s.aliases s.reads s.records s.histories in
    subst (λ (os : List Open). Rests os (settled_state s).records) (sym (settled_reads s)) (subst (λ (rs : List Record). Rests t.reads rs) (sym (settled_records s)) (settled_rests s.aliases s.reads s.records s.histories))

step_rests : (s : State) (x : Entry) (b : Bool) → is_outside s x.actor x.event ≡ b → StateRests s → StateRests (step s x.actor x.event).after
unfolding step
step_rests s x true out h = rw out h
step_rests s x false out h =
    let o = effect s (client_of x.actor) x.event in
    rw out (closing_rests (settled_state o.after) (state_rests o.after))

run_rests : (h : List Entry) (s : State) → StateRests s → StateRests (run s h)
run_rests [] s r = r
run_rests (x ∷ xs) s r = run_rests xs (step s x.actor x.event).after (step_rests s x (is_outside s x.actor x.event) refl r)

-- ---- so nothing is taken

done_none : (begins : Begins) (al : List AliasList) (os : List Open) (rs : List Record) (hs : LineHistories) → AllDone os → taken_by begins al os rs hs ≡ []
unfolding AllDone taken_by
done_none begins al [] rs hs h = refl
done_none begins al (o ∷ os) rs hs h = rw h.0 (done_none begins al os rs hs h.1)

first_none : (xs ys : List Record) → xs ++ ys ≡ [] → xs ≡ []
first_none [] ys h = refl
first_none (x ∷ xs) ys h = cc

serves_none : WholeReads → (begins : Begins) (s : State) → StateRests s → joined (served_pieces begins s) ≡ []
unfolding StateRests Rests served_pieces joined
serves_none w begins s (inl h) = first_none (joined (served_pieces begins s)) (settled_state s).records (served_keeps w begins s ∙ h)
serves_none w begins s (inr h) = ap joined (done_none begins s.aliases s.reads s.records s.histories h)

-- ---- fates

piece_none : (p : Piece) (ps : List Piece) → p.1 ++ joined ps ≡ [] → (p.1 ≡ []) × (joined ps ≡ [])
piece_none p ps h = by p.1 h
  where
    by : (rs : List Record) → rs ++ joined ps ≡ [] → (rs ≡ []) × (joined ps ≡ [])
    by [] h = (refl, h)
    by (r ∷ rs) h = cc

past_by : (p : Piece) (o : Option Taker) (k : ℕ) → p.1 ≡ [] → (if nat_lt k (length p.1) then Some p.0.taker else o) ≡ o
past_by p o k e =
    let none : nat_lt k (length p.1) ≡ false = ap (λ (rs : List Record). nat_lt k (length rs)) e ∙ below k in
    rw none refl
  where
    below : (k : ℕ) → nat_lt k 0 ≡ false
    below k = grind (arith, nat_tests)

fate_none : (ps : List Piece) (k : ℕ) → joined ps ≡ [] → fate_in ps k ≡ None
unfolding joined
fate_none [] k h = refl
fate_none (p ∷ ps) k h = let parts = piece_none p ps h in past_by p (fate_in ps (k - length p.1)) k parts.0 ∙ fate_none ps (k - length p.1) parts.1

same_or : (b : Bool) (o : Option Taker) (x y : Option Taker) → x ≡ y → (if b then o else x) ≡ (if b then o else y)
same_or true o x y h = refl
same_or false o x y h = h

fate-same : (ps qs : List Piece) (k : ℕ) → joined qs ≡ [] → fate_in (ps ++ qs) k ≡ fate_in ps k
fate-same [] qs k h = fate_none qs k h
fate-same (p ∷ ps) qs k h = same_or (nat_lt k (length p.1)) (Some p.0.taker) (fate_in (ps ++ qs) (k - length p.1)) (fate_in ps (k - length p.1)) (fate-same ps qs (k - length p.1) h)

stays_by : (b : Bool) (o x y : Option Taker) (t : Taker) → (x ≡ Some t → y ≡ Some t) → (if b then o else x) ≡ Some t → (if b then o else y) ≡ Some t
stays_by true o x y t ih h = h
stays_by false o x y t ih h = ih h

fate-stays : (ps qs : List Piece) (k : ℕ) (t : Taker) → fate_in ps k ≡ Some t → fate_in (ps ++ qs) k ≡ Some t
fate-stays [] qs k t h = cc
fate-stays (p ∷ ps) qs k t h = stays_by (nat_lt k (length p.1)) (Some p.0.taker) (fate_in ps (k - length p.1)) (fate_in (ps ++ qs) (k - length p.1)) t (fate-stays ps qs (k - length p.1) t) h

-- ---- a peek

peek_after : (s : State) (g : Result Object Code) (reply : Reply) → (with_object s g (λ _. answered s reply)).after ≡ s
peek_after s (Err why) reply = refl
peek_after s (Ok o) reply = refl

peek_by : ℕ → ℕ → ℕ → Entry
peek_by p hd n = record { actor = actors.Client p; event = events.Call (calls.Peek hd n) }

peek_pieces : WholeReads → (begins : Begins) (place : ℕ) (s : State) (p hd n : ℕ) (b : Bool) → is_outside s (actors.Client p) (events.Call (calls.Peek hd n)) ≡ b → StateRests s → joined (step_pieces begins place s (peek_by p hd n)) ≡ []
unfolding step_pieces effect called peek_by joined
peek_pieces w begins place s p hd n true out rests = rw out refl
peek_pieces w begins place s p hd n false out rests =
    let t : State = (peeked s p hd n).after in
    let same : t ≡ s = peek_after s (guard s p hd kind.Input 1) (peek_told s.records n) in
    rw out (joined-append (served_pieces begins t) (closing_pieces begins (settled_state t)) ∙ ap (λ (rs : List Record). joined (served_pieces begins t) ++ rs) (closing-none begins (settled_state t)) ∙ append-nil (joined (served_pieces begins t))
    ∙ ap (λ (u : State). joined (served_pieces begins u)) same ∙ serves_none w begins s rests)

peek_same : WholeReads → (s : State) (h : List Entry) (p hd n k : ℕ) → s.reads ≡ [] → fate s (h ++ peek_by p hd n ∷ []) k ≡ fate s h k
unfolding StateRests Rests AllDone
peek_same w s h p hd n k none =
    let x : Entry = peek_by p hd n in
    let u : State = run s h in
    let before : Begins = begins_from no_begins 0 s h in
    let place : ℕ = place_after 0 h in
    let now : Begins = begins_after before place u x in
    let first : StateRests s = inr (subst AllDone (sym none) tt) in
    let rests : StateRests u = run_rests h s first in
    let nothing : joined (step_pieces now place u x ++ []) ≡ [] = ap joined (append-nil (step_pieces now place u x)) ∙ peek_pieces w now place u p hd n (is_outside u (actors.Client p) (events.Call (calls.Peek hd n))) refl rests in
    ap (λ (ps : List Piece). fate_in ps k) (pieces-append h (x ∷ []) no_begins 0 s) ∙ fate-same (pieces s h) (step_pieces now place u x ++ []) k nothing

pub peeks : ((al : List AliasList) (os : List Open) (rs : List Record) (hs : LineHistories) → joined (pieces_of al os rs hs) ++ (settled al os rs hs).records ≡ rs)
    → (s : State) (h : List Entry) (p hd n k : ℕ) → s.reads ≡ [] → (let x : Entry = record { actor = actors.Client p; event = events.Call (calls.Peek hd n) } in fate s (h ++ x ∷ []) k ≡ fate s h k)
unfolding WholeReads peek_by
peeks w s h p hd n k none = peek_same w s h p hd n k none

pub stays : (s : State) (h later : List Entry) (k : ℕ) (t : Taker) → fate s h k ≡ Some t → fate s (h ++ later) k ≡ Some t
stays s h later k t e = ap (λ (ps : List Piece). fate_in ps k) (pieces-append h later no_begins 0 s) ∙ fate-stays (pieces s h) (pieces_from (begins_from no_begins 0 s h) (place_after 0 h) (run s h) later) k t e
