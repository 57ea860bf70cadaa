-- However the terminal's bytes are cut, the same comes in.
use Rattle.std.proofs.Common.{◌≡◌, ℕ, zero, suc, Bool, true, false, ◌&&◌, List, [], ◌∷◌, ◌++◌, map, Option, None, Some, refl, sym, ap, subst, ◌∙◌, append_assoc, append-nil}
use Rattle.std.specs.Prelude.{fold, if◌then◌else◌}
use Rattle.std.specs.List.{position_or_len}
use Rattle.std.proofs.lemmas.List.{map-append}
use Rattle.std.proofs.lemmas.List.Sums.{fold-append}
use Rattle.con_units.specs.Split.{Split, split_after}
use Rattle.con_units.specs.SplitLaws.{split_after-append}
use Rattle.con_units.specs.Units.{changed_at}
use Rattle.con_units.specs.declared.code.Code.TheVariants as code
use Rattle.con_alias.specs.Aliases.{AliasList}
use Rattle.con_cooked.specs.declared.cooked.Cooked.{Cooked}
use Rattle.con_history.specs.Histories.{LineHistories}
use Rattle.con_mouse.specs.Presses.{held_after, record_of}
use Rattle.con_mouse.specs.Reports.{report_of}
use Rattle.con_mouse.specs.declared.buttons.Buttons.{Buttons}
use Rattle.con_mouse.specs.declared.report.Report.{Report}
use Rattle.con_procs.specs.Procs.{ids_of, signalled}
use Rattle.con_readers.specs.Act.{Act, began, typed, passed, ended, woke}
use Rattle.con_readers.specs.Reads.{Settled, settled, all_closed, line_aborted, failed, is_open_line}
use Rattle.con_readers.specs.declared.open.Open.{Open}
use Rattle.con_records.specs.declared.record.Key.{Key}
use Rattle.con_records.specs.declared.record.Mouse.{Mouse}
use Rattle.con_records.specs.declared.record.Record.{Record}
use Rattle.con_page.specs.Page.{Page}
use Rattle.con_screens.specs.Buffers.{Buffers}
use Rattle.con_vtin.specs.Pieces.{Piece, Typed, Ended, piece_grammar}
use Rattle.con_machine.specs.State.{State, noted_of}
use Rattle.con_machine.specs.Outcome.{has_bit}
use Rattle.con_machine.specs.ScreenCalls.{page_of}
use Rattle.con_machine.specs.Words.ScreenCalls.{page_at}
use Rattle.con_machine.specs.Closing.{closing, hung_up, all_wait}
use Rattle.con_machine.specs.Signals.{signalled_to}
use Rattle.con_machine.specs.Serving.{followed, settled_state, note_changed, started_on}
use Rattle.con_machine.specs.Words.Serving.{settled_from, line_shown, line_finished}
use Rattle.con_machine.specs.Terminal.{is_break, key_taken, records_of, mouse_records, piece_taken, fed}
use Rattle.con_machine.specs.Words.Terminal.{by_report}
use Rattle.con_machine.specs.Step.{step, effect}
use Rattle.con_machine.specs.History.{run}
use Rattle.con_machine.specs.EventLaws.{AreDone, Frame, served_first, settled_shows, fed_walk}
use Rattle.con_laws.specs.Walks.{key_arrivals, report_arrivals, bytes_arrivals, all_bytes_arrivals, fed_arrivals, step_arrivals, arrived}
use Rattle.con_laws.specs.Cut.{feed, in_two, in_one, unplaced, AreLines, CutAnywhere}
use Rattle.con_machine.specs.declared.reads.noted.Noted.{Noted}
use Rattle.con_machine.specs.FeedingLaws.{fed_by_bytes, settled_held}
use Rattle.con_laws.proofs.Idling.{settled_again}
use Rattle.con_laws.proofs.LineCuts.{pushed, pushed_settled, state_lines, aborted_lines}
use Rattle.con_machine.specs.Feeding.{byte_taken}

-- ---- before reads are served

taken_cut : (s : State) (a b : List ℕ) → fed (fed s a) b ≡ fed s (a ++ b)
taken_cut s a b =
    fed_by_bytes (fed s a) b ∙ ap (λ (t : State). fold byte_taken t b) (fed_by_bytes s a)
    ∙ sym (fold-append byte_taken s a b) ∙ sym (fed_by_bytes s (a ++ b))

-- ---- what pieces of bytes are read by

record Input : Type 0 where
  mode : ℕ
  keys : Bool
  buttons : Buttons

abbrev input : State → Input
input s = record { mode = s.mode; keys = s.cursor_keys; buttons = s.buttons }

-- and the bytes that are held
abbrev Both : Type 0
Both = Input × List ℕ

abbrev both : State → Both
both s = (input s, s.held)

abbrev by_told : Input → Option Report → Input
by_told i None = i
by_told i (Some r) = record i { buttons = held_after i.buttons r }

abbrev input_after : Input → Piece → Input
input_after i (Typed k) = i
input_after i (Ended bytes) = if has_bit i.mode 0x10 then by_told i (report_of bytes) else i

or_both : (b : Bool) (x y : State) (i : Both) → both x ≡ i → both y ≡ i → both (if b then x else y) ≡ i
or_both true x y i h k = h
or_both false x y i h k = k

settled_both : (s : State) → both (settled_state s) ≡ both s
settled_both s = ap both (settled_shows s).is

hung_both : (s : State) → both (hung_up s) ≡ both s
hung_both s = or_both s.closed s (record s { closed = true; procs = signalled s.procs 2 0; reads = all_closed s.reads }) (both s) refl refl

closing_both : (s : State) → both (closing s) ≡ both s
unfolding closing
closing_both s = or_both (s.drained && all_wait s.reads (ids_of s.procs)) (hung_up s) s (both s) (hung_both s) refl

key_both : (s : State) (k : Key) → both (key_taken s k) ≡ both s
key_both s k = or_both (is_break s k) (signalled_to (settled_state s) 0 0) (record s { records = s.records ++ records_of s k }) (both s) (settled_both s) refl

report_both : (s : State) (r : Option Report) → both (by_report s r) ≡ (by_told (input s) r, s.held)
report_both s None = refl
report_both s (Some r) = refl

piece_both : (s : State) (p : Piece) → both (piece_taken s p) ≡ (input_after (input s) p, s.held)
piece_both s (Typed k) = key_both s k
piece_both s (Ended bytes) = by (has_bit s.mode 0x10)
  where
    by : (b : Bool) → both (if b then by_report s (report_of bytes) else s) ≡ (if b then by_told (input s) (report_of bytes) else input s, s.held)
    by true = report_both s (report_of bytes)
    by false = refl

pieces_both : (s : State) (ps : List Piece) → both (fold piece_taken s ps) ≡ (fold input_after (input s) ps, s.held)
pieces_both s [] = refl
pieces_both s (p ∷ ps) = pieces_both (piece_taken s p) ps ∙ ap (λ (x : Both). let y : Both = (fold input_after x.0 ps, x.1) in y) (piece_both s p)

-- bytes, by what they are read by alone
abbrev both_fed : Both → List ℕ → Both
both_fed x bytes = let parts : Split Piece = split_after piece_grammar x.1 bytes in (fold input_after x.0 parts.items, parts.tail)

fed_both : (s : State) (bytes : List ℕ) → both (fed s bytes) ≡ both_fed (both s) bytes
unfolding fed
fed_both s bytes = let parts : Split Piece = split_after piece_grammar s.held bytes in pieces_both (record s { held = parts.tail }) parts.items

-- the console behind a Feed
behind : State → List ℕ → State
behind s bytes = (step s (feed bytes).actor (feed bytes).event).after

behind_is : (s : State) (bytes : List ℕ) → behind s bytes ≡ closing (settled_state (fed s bytes))
unfolding behind step effect
behind_is s bytes = refl

behind_both : (s : State) (bytes : List ℕ) → both (behind s bytes) ≡ both (fed s bytes)
behind_both s bytes = ap both (behind_is s bytes) ∙ closing_both (settled_state (fed s bytes)) ∙ settled_both (fed s bytes)

one_is : (s : State) (bytes : List ℕ) → run s (feed bytes ∷ []) ≡ behind s bytes
unfolding behind
one_is s bytes = refl

two_is : (s : State) (a b : List ℕ) → run s (in_two a b) ≡ behind (behind s a) b
unfolding behind
two_is s a b = refl

cut_both : (s : State) (a b : List ℕ) → both (run s (in_two a b)) ≡ both (run s (in_one a b))
cut_both s a b =
    let u : State = behind s a in
    ap both (two_is s a b) ∙ behind_both u b ∙ fed_both u b ∙ ap (λ (x : Both). both_fed x b) (behind_both s a)
    ∙ sym (fed_both (fed s a) b) ∙ ap both (taken_cut s a b) ∙ sym (behind_both s (a ++ b)) ∙ sym (ap both (one_is s (a ++ b)))

-- ---- the records that arrive

-- what two consoles have in common, so that the same arrives in both
record Agrees (f : Record → Record) (R : State → State → Type 0) : Type 0 where
  arrives : (s t : State) (p : Piece) → R s t → map f (bytes_arrivals s p) ≡ map f (bytes_arrivals t p)
  goes : (s t : State) (p : Piece) → R s t → R (piece_taken s p) (piece_taken t p)

two_parts : (f : Record → Record) (xs ys zs ws : List Record) → map f xs ≡ map f zs → map f ys ≡ map f ws → map f (xs ++ ys) ≡ map f (zs ++ ws)
two_parts f xs ys zs ws e g = map-append f xs ys ∙ ap (λ (l : List Record). l ++ map f ys) e ∙ ap (λ (l : List Record). map f zs ++ l) g
    ∙ sym (map-append f zs ws)

all_arrive : (f : Record → Record) (R : State → State → Type 0) → Agrees f R → (s t : State) (ps : List Piece) → R s t
    → map f (all_bytes_arrivals s ps) ≡ map f (all_bytes_arrivals t ps)
unfolding all_bytes_arrivals
all_arrive f R k s t [] r = refl
all_arrive f R k s t (p ∷ ps) r =
    two_parts f (bytes_arrivals s p) (all_bytes_arrivals (piece_taken s p) ps) (bytes_arrivals t p) (all_bytes_arrivals (piece_taken t p) ps)
    (k.arrives s t p r) (all_arrive f R k (piece_taken s p) (piece_taken t p) ps (k.goes s t p r))

arrivals_append : (s : State) (ps qs : List Piece) → all_bytes_arrivals s (ps ++ qs) ≡ all_bytes_arrivals s ps ++ all_bytes_arrivals (fold piece_taken s ps) qs
unfolding all_bytes_arrivals
arrivals_append s [] qs = refl
arrivals_append s (p ∷ ps) qs =
    ap (λ (l : List Record). bytes_arrivals s p ++ l) (arrivals_append (piece_taken s p) ps qs)
    ∙ sym (append_assoc (bytes_arrivals s p) (all_bytes_arrivals (piece_taken s p) ps) (all_bytes_arrivals (fold piece_taken (piece_taken s p) ps) qs))

arrived_is : (s : State) (bytes : List ℕ) → step_arrivals s (feed bytes) ≡ fed_arrivals s bytes
unfolding step_arrivals
arrived_is s bytes = refl

fed_arrivals_is : (s : State) (bytes : List ℕ) → fed_arrivals s bytes ≡ (let parts : Split Piece = split_after piece_grammar s.held bytes in all_bytes_arrivals (record s { held = parts.tail }) parts.items)
unfolding fed_arrivals
fed_arrivals_is s bytes = refl

-- bytes in one piece, by the pieces of both parts
whole_arrivals : (s : State) (a b : List ℕ) → (let p : Split Piece = split_after piece_grammar s.held a in let q : Split Piece = split_after piece_grammar p.tail b in
    let t : State = record s { held = q.tail } in fed_arrivals s (a ++ b) ≡ all_bytes_arrivals t p.items ++ all_bytes_arrivals
    (fold piece_taken t p.items) q.items)
whole_arrivals s a b =
    let p : Split Piece = split_after piece_grammar s.held a in
    let q : Split Piece = split_after piece_grammar p.tail b in
    fed_arrivals_is s (a ++ b) ∙ ap (λ (n : Split Piece). all_bytes_arrivals (record s { held = n.tail }) n.items) (split_after-append piece_grammar s.held a b)
    ∙ arrivals_append (record s { held = q.tail }) p.items q.items

-- where both consoles agree at the cut
cut_arrivals : (f : Record → Record) (R : State → State → Type 0) → Agrees f R → (s : State) (a b : List ℕ)
    → ((h k : List ℕ) → R (record s { held = h }) (record s { held = k }))
    → ((h : List ℕ) → (let p : Split Piece = split_after piece_grammar s.held a in R (record (behind s a) { held = h })
    (fold piece_taken (record s { held = h }) p.items)))
    → map f (arrived s (in_two a b)) ≡ map f (arrived s (in_one a b))
unfolding behind
cut_arrivals f R k s a b same at =
    let u : State = behind s a in
    let p : Split Piece = split_after piece_grammar s.held a in
    let q : Split Piece = split_after piece_grammar p.tail b in
    let t : State = record s { held = q.tail } in
    let held : u.held ≡ p.tail = ap (λ (x : Both). x.1) (behind_both s a ∙ fed_both s a) in
    let later : fed_arrivals u b ≡ all_bytes_arrivals (record u { held = q.tail }) q.items =
    fed_arrivals_is u b ∙ ap (λ (h : List ℕ). let n : Split Piece = split_after piece_grammar h b in all_bytes_arrivals
    (record u { held = n.tail }) n.items) held in
    let first : map f (fed_arrivals s a) ≡ map f (all_bytes_arrivals t p.items) =
    ap (map f) (fed_arrivals_is s a) ∙ all_arrive f R k (record s { held = p.tail }) t p.items (same p.tail q.tail) in
    let behind_it : map f (fed_arrivals u b) ≡ map f (all_bytes_arrivals (fold piece_taken t p.items) q.items) =
    ap (map f) later ∙ all_arrive f R k (record u { held = q.tail }) (fold piece_taken t p.items) q.items (at q.tail) in
    let two : arrived s (in_two a b) ≡ fed_arrivals s a ++ fed_arrivals u b =
    ap (λ (l : List Record). l ++ (step_arrivals u (feed b) ++ [])) (arrived_is s a)
    ∙ ap (λ (l : List Record). fed_arrivals s a ++ l) (append-nil (step_arrivals u (feed b)) ∙ arrived_is u b) in
    let one : arrived s (in_one a b) ≡ fed_arrivals s (a ++ b) = append-nil (step_arrivals s (feed (a ++ b))) ∙ arrived_is s (a ++ b) in
    ap (map f) two ∙ two_parts f (fed_arrivals s a) (fed_arrivals u b) (all_bytes_arrivals t p.items)
    (all_bytes_arrivals (fold piece_taken t p.items) q.items) first behind_it
    ∙ ap (map f) (sym (whole_arrivals s a b)) ∙ sym (ap (map f) one)

-- ---- but for places

key_same : (s t : State) (k : Key) → input s ≡ input t → key_arrivals s k ≡ key_arrivals t k
key_same s t k e = ap (λ (i : Input). key_arrivals (record s { mode = i.mode; cursor_keys = i.keys }) k) e

mouse_unplaced : (p q : Page) (m : Option Mouse) → map unplaced (mouse_records p m) ≡ map unplaced (mouse_records q m)
mouse_unplaced p q None = refl
mouse_unplaced p q (Some m) = refl

report_unplaced : (s t : State) (r : Option Report) → input s ≡ input t → map unplaced (report_arrivals s r) ≡ map unplaced (report_arrivals t r)
report_unplaced s t None e = refl
report_unplaced s t (Some r) e =
    ap (λ (i : Input). map unplaced (mouse_records (page_of s s.buffers.active) (record_of i.buttons r))) e
    ∙ mouse_unplaced (page_of s s.buffers.active) (page_of t t.buffers.active) (record_of t.buttons r)

ended_unplaced : (s t : State) (bytes : List ℕ) → input s ≡ input t
    → map unplaced (bytes_arrivals s (Ended bytes)) ≡ map unplaced (bytes_arrivals t (Ended bytes))
ended_unplaced s t bytes e = ap (λ (i : Input). map unplaced (if has_bit i.mode 0x10 then report_arrivals s (report_of bytes) else [])) e
    ∙ by (has_bit t.mode 0x10)
  where
    by : (b : Bool) → map unplaced (if b then report_arrivals s (report_of bytes) else []) ≡ map unplaced
        (if b then report_arrivals t (report_of bytes) else [])
    by true = report_unplaced s t (report_of bytes) e
    by false = refl

AreAlike : State → State → Type 0
AreAlike s t = input s ≡ input t

unplaced_agrees : Agrees unplaced AreAlike
unfolding AreAlike
unplaced_agrees = record { arrives = arrives; goes = goes }
  where
    arrives : (s t : State) (p : Piece) → input s ≡ input t → map unplaced (bytes_arrivals s p) ≡ map unplaced (bytes_arrivals t p)
    arrives s t (Typed k) e = ap (map unplaced) (key_same s t k e)
    arrives s t (Ended bytes) e = ended_unplaced s t bytes e

    goes : (s t : State) (p : Piece) → input s ≡ input t → input (piece_taken s p) ≡ input (piece_taken t p)
    goes s t p e = ap (λ (x : Both). x.0) (piece_both s p) ∙ ap (λ (i : Input). input_after i p) e ∙ sym (ap (λ (x : Both). x.0) (piece_both t p))

cut_at : (s : State) (a h : List ℕ) → (let p : Split Piece = split_after piece_grammar s.held a in input (record (behind s a) { held = h }) ≡ input
    (fold piece_taken (record s { held = h }) p.items))
cut_at s a h =
    let p : Split Piece = split_after piece_grammar s.held a in
    ap (λ (x : Both). x.0) (behind_both s a ∙ fed_both s a) ∙ sym (ap (λ (x : Both). x.0) (pieces_both (record s { held = h }) p.items))

cut_records : (s : State) (a b : List ℕ) → map unplaced (arrived s (in_two a b)) ≡ map unplaced (arrived s (in_one a b))
unfolding AreAlike
cut_records s a b = cut_arrivals unplaced AreAlike unplaced_agrees s a b (λ h k. refl) (cut_at s a)

-- ---- with the places, where no line is read

-- nothing shows
record Unseen (s t : State) : Type 0 where
  noted : t.noted ≡ []
  buffers : t.buffers ≡ s.buffers

unseen : (s : State) → s.noted ≡ [] → Unseen s s
unseen s e = record { noted = e; buffers = refl }

then_unseen : (s t u : State) → Unseen s t → Unseen t u → Unseen s u
then_unseen s t u k l = record { noted = l.noted; buffers = l.buffers ∙ k.buffers }

or_unseen : (s : State) (b : Bool) (x y : State) → Unseen s x → Unseen s y → Unseen s (if b then x else y)
or_unseen s true x y h k = h
or_unseen s false x y h k = k

shown_unseen : (s : State) (n : Option Noted) (old new : Cooked) → s.noted ≡ [] → n ≡ None → Unseen s (line_shown s n old new)
shown_unseen s None old new e none = unseen s e
shown_unseen s (Some n) old new e none = absurd (cc)

finished_unseen : (s : State) (n : Option Noted) (len : ℕ) → s.noted ≡ [] → n ≡ None → Unseen s (line_finished s n len)
finished_unseen s None len e none = unseen s e
finished_unseen s (Some n) len e none = absurd (cc)

followed_unseen : (s : State) (a : Act) → s.noted ≡ [] → Unseen s (followed s a)
followed_unseen s (began p) e = record { noted = ap (λ (ns : List Noted). note_changed (started_on s.buffers) ns p) e; buffers = refl }
followed_unseen s (typed p old new) e = shown_unseen s (noted_of s.noted p) old new e (ap (λ (ns : List Noted). noted_of ns p) e)
followed_unseen s (passed p) e = unseen s e
followed_unseen s (ended p read len) e = finished_unseen s (noted_of s.noted p) len e (ap (λ (ns : List Noted). noted_of ns p) e)
followed_unseen s (woke p line) e = record { noted = ap (λ (ns : List Noted). note_changed (λ n. record n { woken = true }) ns p) e; buffers = refl }

all_unseen : (s : State) (acts : List Act) → s.noted ≡ [] → Unseen s (fold followed s acts)
all_unseen s [] e = unseen s e
all_unseen s (a ∷ acts) e =
    let k = followed_unseen s a e in
    then_unseen s (followed s a) (fold followed (followed s a) acts) k (all_unseen (followed s a) acts k.noted)

settled_unseen : (s : State) → s.noted ≡ [] → Unseen s (settled_state s)
unfolding settled_state
settled_unseen s e =
    let k = all_unseen (served_first s) (settled s.aliases s.reads s.records s.histories).acts e in
    record { noted = k.noted; buffers = k.buffers }

hung_unseen : (s : State) → s.noted ≡ [] → Unseen s (hung_up s)
hung_unseen s e = or_unseen s s.closed s (record s { closed = true; procs = signalled s.procs 2 0; reads = all_closed s.reads }) (unseen s e)
    (record { noted = e; buffers = refl })

closing_unseen : (s : State) → s.noted ≡ [] → Unseen s (closing s)
unfolding closing
closing_unseen s e = or_unseen s (s.drained && all_wait s.reads (ids_of s.procs)) (hung_up s) s (hung_unseen s e) (unseen s e)

key_unseen : (s : State) (k : Key) → s.noted ≡ [] → Unseen s (key_taken s k)
key_unseen s k e =
    let settles = settled_unseen s e in
    or_unseen s (is_break s k) (signalled_to (settled_state s) 0 0) (record s { records = s.records ++ records_of s k })
    (record { noted = settles.noted; buffers = settles.buffers }) (record { noted = e; buffers = refl })

report_unseen : (s : State) (r : Option Report) → s.noted ≡ [] → Unseen s (by_report s r)
report_unseen s None e = unseen s e
report_unseen s (Some r) e = record { noted = e; buffers = refl }

piece_unseen : (s : State) (p : Piece) → s.noted ≡ [] → Unseen s (piece_taken s p)
piece_unseen s (Typed k) e = key_unseen s k e
piece_unseen s (Ended bytes) e = or_unseen s (has_bit s.mode 0x10) (by_report s (report_of bytes)) s (report_unseen s (report_of bytes) e) (unseen s e)

pieces_unseen : (s : State) (ps : List Piece) → s.noted ≡ [] → Unseen s (fold piece_taken s ps)
pieces_unseen s [] e = unseen s e
pieces_unseen s (p ∷ ps) e = let k = piece_unseen s p e in then_unseen s (piece_taken s p) (fold piece_taken (piece_taken s p) ps) k
    (pieces_unseen (piece_taken s p) ps k.noted)

behind_unseen : (s : State) (bytes : List ℕ) → s.noted ≡ [] → Unseen s (behind s bytes)
unfolding fed
behind_unseen s bytes e =
    let p : Split Piece = split_after piece_grammar s.held bytes in
    let k = pieces_unseen (record s { held = p.tail }) p.items e in
    let m = settled_unseen (fed s bytes) k.noted in
    let l = closing_unseen (settled_state (fed s bytes)) m.noted in
    subst (Unseen s) (sym (behind_is s bytes)) (record { noted = l.noted; buffers = l.buffers ∙ m.buffers ∙ k.buffers })

-- the same is read by, in the same window, and nothing shows
record InOneWindow (s t : State) : Type 0 where
  input' : input s ≡ input t
  buffers : s.buffers ≡ t.buffers
  first : s.noted ≡ []
  second : t.noted ≡ []

report_placed : (s t : State) (r : Option Report) → InOneWindow s t → report_arrivals s r ≡ report_arrivals t r
report_placed s t None w = refl
report_placed s t (Some r) w =
    ap (λ (i : Input). mouse_records (page_of s s.buffers.active) (record_of i.buttons r)) w.input'
    ∙ ap (λ (b : Buffers). mouse_records (page_at b b.active) (record_of t.buttons r)) w.buffers

ended_placed : (s t : State) (bytes : List ℕ) → InOneWindow s t → bytes_arrivals s (Ended bytes) ≡ bytes_arrivals t (Ended bytes)
ended_placed s t bytes w = ap (λ (i : Input). if has_bit i.mode 0x10 then report_arrivals s (report_of bytes) else []) w.input' ∙ by (has_bit t.mode 0x10)
  where
    by : (b : Bool) → (if b then report_arrivals s (report_of bytes) else []) ≡ (if b then report_arrivals t (report_of bytes) else [])
    by true = report_placed s t (report_of bytes) w
    by false = refl

itself : Record → Record
itself r = r

placed_agrees : Agrees itself InOneWindow
placed_agrees = record { arrives = λ s t p w. ap (map itself) (arrives s t p w); goes = goes }
  where
    arrives : (s t : State) (p : Piece) → InOneWindow s t → bytes_arrivals s p ≡ bytes_arrivals t p
    arrives s t (Typed k) w = key_same s t k w.input'
    arrives s t (Ended bytes) w = ended_placed s t bytes w

    goes : (s t : State) (p : Piece) → InOneWindow s t → InOneWindow (piece_taken s p) (piece_taken t p)
    goes s t p w =
        let k = piece_unseen s p w.first in
        let l = piece_unseen t p w.second in
        record {
          input' = ap (λ (x : Both). x.0) (piece_both s p) ∙ ap (λ (i : Input). input_after i p) w.input' ∙ sym (ap (λ (x : Both). x.0) (piece_both t p));
          buffers = k.buffers ∙ w.buffers ∙ sym l.buffers;
          first = k.noted;
          second = l.noted;
        }

each_itself : (rs : List Record) → map itself rs ≡ rs
unfolding itself
each_itself [] = refl
each_itself (r ∷ rs) = ap (λ (l : List Record). r ∷ l) (each_itself rs)

cut_places : (s : State) (a b : List ℕ) → s.noted ≡ [] → arrived s (in_two a b) ≡ arrived s (in_one a b)
cut_places s a b e =
    sym (each_itself (arrived s (in_two a b)))
    ∙ cut_arrivals itself InOneWindow placed_agrees s a b (λ h k. record { input' = refl; buffers = refl; first = e; second = e }) at
    ∙ each_itself (arrived s (in_one a b))
  where
    at : (h : List ℕ) → (let p : Split Piece = split_after piece_grammar s.held a in InOneWindow (record (behind s a) { held = h })
        (fold piece_taken (record s { held = h }) p.items))
    at h =
        let p : Split Piece = split_after piece_grammar s.held a in
        let k = behind_unseen s a e in
        let l = pieces_unseen (record s { held = h }) p.items e in
        record { input' = cut_at s a h; buffers = k.buffers ∙ sym l.buffers; first = k.noted; second = l.noted }

-- ---- all of the console, where no read waits

aborted_done : (os : List Open) (k : ℕ) → AreDone os → AreDone (changed_at (failed code.Aborted) os k)
aborted_done [] k d = tt
aborted_done (o ∷ os) zero d = (refl, d.1)
aborted_done (o ∷ os) (suc k) d = (d.0, aborted_done os k d.1)

settled_is : (al : List AliasList) (os : List Open) (rs : List Record) (hs : LineHistories) → AreDone os
    → settled al os rs hs ≡ record { reads = os; records = rs; histories = hs; acts = [] }
unfolding settled
settled_is al [] rs hs d = refl
settled_is al (o ∷ os) rs hs d = rw d.0 (ap (λ (t : Settled). let u : Settled = record t { reads = o ∷ t.reads } in u) (settled_is al os rs hs d.1))

pub rests : (s : State) → AreDone s.reads → settled_state s ≡ s
unfolding settled_state
rests s d = ap (settled_from s) (settled_is s.aliases s.reads s.records s.histories d)

or_done : (b : Bool) (x y : State) → AreDone x.reads → AreDone y.reads → AreDone (if b then x else y).reads
or_done true x y h k = h
or_done false x y h k = k

key_done : (s : State) (k : Key) → AreDone s.reads → AreDone (key_taken s k).reads
key_done s k d = or_done (is_break s k) (signalled_to (settled_state s) 0 0) (record s { records = s.records ++ records_of s k })
    (subst (λ (os : List Open). AreDone (line_aborted os)) (sym (ap (λ (t : State). t.reads) (rests s d)))
    (aborted_done s.reads (position_or_len is_open_line s.reads) d)) d

report_done : (s : State) (r : Option Report) → AreDone s.reads → AreDone (by_report s r).reads
report_done s None d = d
report_done s (Some r) d = d

piece_done : (s : State) (p : Piece) → AreDone s.reads → AreDone (piece_taken s p).reads
piece_done s (Typed k) d = key_done s k d
piece_done s (Ended bytes) d = or_done (has_bit s.mode 0x10) (by_report s (report_of bytes)) s (report_done s (report_of bytes) d) d

pieces_done : (s : State) (ps : List Piece) → AreDone s.reads → AreDone (fold piece_taken s ps).reads
pieces_done s [] d = d
pieces_done s (p ∷ ps) d = pieces_done (piece_taken s p) ps (piece_done s p d)

fed_done : (s : State) (bytes : List ℕ) → AreDone s.reads → AreDone (fed s bytes).reads
unfolding fed
fed_done s bytes d = let p : Split Piece = split_after piece_grammar s.held bytes in pieces_done (record s { held = p.tail }) p.items d

stays_open : (s : State) → s.drained ≡ false → closing s ≡ s
unfolding closing
stays_open s e = rw e refl

behind_whole : (s : State) (bytes : List ℕ) → AreDone s.reads → s.drained ≡ false → behind s bytes ≡ fed s bytes
behind_whole s bytes d e =
    let t : State = fed s bytes in
    let open' : t.drained ≡ false = ap (λ (f : Frame). f.drained) (fed_walk s bytes).frame ∙ e in
    behind_is s bytes ∙ ap closing (rests t (fed_done s bytes d)) ∙ stays_open t open'

cut_whole : (s : State) (a b : List ℕ) → AreDone s.reads → s.drained ≡ false → run s (in_two a b) ≡ run s (in_one a b)
cut_whole s a b d e =
    two_is s a b ∙ ap (λ (t : State). behind t b) (behind_whole s a d e)
    ∙ behind_is (fed s a) b ∙ ap (λ (t : State). closing (settled_state t)) (taken_cut s a b) ∙ sym (behind_is s (a ++ b)) ∙ sym (one_is s (a ++ b))

-- ---- all of the console, where line reads alone wait, and no report of the mouse is asked for

-- reads are done or of lines, and no report of the mouse is asked for
record OnLines (s : State) : Type 0 where
  lines : AreLines s.reads
  off : has_bit s.mode 0x10 ≡ false

same_mode : (s t : State) → both t ≡ both s → has_bit s.mode 0x10 ≡ false → has_bit t.mode 0x10 ≡ false
same_mode s t e off = ap (λ (x : Both). has_bit x.0.mode 0x10) e ∙ off

key_lines : (s : State) (k : Key) → AreLines s.reads → AreLines (key_taken s k).reads
key_lines s k l = by (is_break s k)
  where
    by : (b : Bool) → AreLines (if b then signalled_to (settled_state s) 0 0 else record s { records = s.records ++ records_of s k }).reads
    by true = aborted_lines (settled_state s).reads (state_lines s l)
    by false = l

key_on : (s : State) (k : Key) → OnLines s → OnLines (key_taken s k)
key_on s k o = record { lines = key_lines s k o.lines; off = same_mode s (key_taken s k) (key_both s k) o.off }

unasked : (s : State) (bytes : List ℕ) → has_bit s.mode 0x10 ≡ false → piece_taken s (Ended bytes) ≡ s
unasked s bytes off = rw off refl

piece_on : (s : State) (p : Piece) → OnLines s → OnLines (piece_taken s p)
piece_on s (Typed k) o = key_on s k o
piece_on s (Ended bytes) o = subst OnLines (sym (unasked s bytes o.off)) o

pieces_on : (s : State) (ps : List Piece) → OnLines s → OnLines (fold piece_taken s ps)
pieces_on s [] o = o
pieces_on s (p ∷ ps) o = pieces_on (piece_taken s p) ps (piece_on s p o)

fed_on : (s : State) (bytes : List ℕ) → OnLines s → OnLines (fed s bytes)
unfolding fed
fed_on s bytes o = let p : Split Piece = split_after piece_grammar s.held bytes in pieces_on (record s { held = p.tail }) p.items
    (record { lines = o.lines; off = o.off })

-- consoles that are the same once reads are served
record ServedAlike (s t : State) : Type 0 where
  settled' : settled_state s ≡ settled_state t
  input' : both s ≡ both t
  first : OnLines s
  second : OnLines t

push_alike : (s t : State) (rs : List Record) → ServedAlike s t → settled_state (pushed s rs) ≡ settled_state (pushed t rs)
push_alike s t rs k =
    sym (pushed_settled s rs k.first.lines) ∙ ap (λ (u : State). settled_state (pushed u rs)) k.settled' ∙ pushed_settled t rs k.second.lines

key_alike : (s t : State) (k : Key) (b : Bool) → is_break s k ≡ b → ServedAlike s t → settled_state (key_taken s k) ≡ settled_state (key_taken t k)
key_alike s t k b e a = by b e (sym (ap (λ (x : Both). is_break (record s { mode = x.0.mode }) k) a.input') ∙ e)
  where
    by : (b : Bool) → is_break s k ≡ b → is_break t k ≡ b → settled_state (key_taken s k) ≡ settled_state (key_taken t k)
    by true e f = rw (e, f) (ap (λ (u : State). settled_state (signalled_to u 0 0)) a.settled')
    by false e f =
        rw (e, f) (push_alike s t (records_of s k) a ∙ ap (λ (x : Both). settled_state
        (pushed t (records_of (record s { mode = x.0.mode; cursor_keys = x.0.keys }) k))) a.input')

piece_alike : (s t : State) (p : Piece) → ServedAlike s t → ServedAlike (piece_taken s p) (piece_taken t p)
piece_alike s t (Typed k) a = record {
  settled' = key_alike s t k (is_break s k) refl a;
  input' = key_both s k ∙ a.input' ∙ sym (key_both t k);
  first = key_on s k a.first;
  second = key_on t k a.second;
}
piece_alike s t (Ended bytes) a =
    subst (λ (u : State). ServedAlike u (piece_taken t (Ended bytes))) (sym (unasked s bytes a.first.off))
    (subst (λ (u : State). ServedAlike s u) (sym (unasked t bytes a.second.off)) a)

pieces_alike : (s t : State) (ps : List Piece) → ServedAlike s t → ServedAlike (fold piece_taken s ps) (fold piece_taken t ps)
pieces_alike s t [] a = a
pieces_alike s t (p ∷ ps) a = pieces_alike (piece_taken s p) (piece_taken t p) ps (piece_alike s t p a)

-- bytes that come once the others were served
served_alike : (t : State) (h : List ℕ) → OnLines t → ServedAlike (record (settled_state t) { held = h }) (record t { held = h })
served_alike t h o = record {
  settled' = settled_held (settled_state t) h ∙ ap (λ (u : State). let v : State = record u { held = h } in v) (settled_again t) ∙ sym (settled_held t h);
  input' = ap (λ (x : Both). let y : Both = (x.0, h) in y) (settled_both t);
  first = record { lines = state_lines t o.lines; off = same_mode t (settled_state t) (settled_both t) o.off };
  second = record { lines = o.lines; off = o.off };
}

later_alike : (t : State) (b : List ℕ) → OnLines t → settled_state (fed (settled_state t) b) ≡ settled_state (fed t b)
unfolding fed
later_alike t b o =
    let p : Split Piece = split_after piece_grammar t.held b in
    ap (λ (h : List ℕ). let q : Split Piece = split_after piece_grammar h b in settled_state
    (fold piece_taken (record (settled_state t) { held = q.tail }) q.items)) (ap (λ (x : Both). x.1) (settled_both t))
    ∙ (pieces_alike (record (settled_state t) { held = p.tail }) (record t { held = p.tail }) p.items (served_alike t p.tail o)).settled'

cut_lines : (s : State) (a b : List ℕ) → AreLines s.reads → has_bit s.mode 0x10 ≡ false → s.drained ≡ false → run s (in_two a b) ≡ run s (in_one a b)
cut_lines s a b l off e =
    let t : State = fed s a in
    let on : OnLines t = fed_on s a (record { lines = l; off = off }) in
    let open' : (settled_state t).drained ≡ false = ap (λ (x : State). x.drained) (settled_shows t).is ∙ ap (λ (f : Frame). f.drained) (fed_walk s a).frame
    ∙ e in
    two_is s a b ∙ ap (λ (u : State). behind u b) (behind_is s a ∙ stays_open (settled_state t) open')
    ∙ behind_is (settled_state t) b ∙ ap closing (later_alike t b on) ∙ ap (λ (u : State). closing (settled_state u)) (taken_cut s a b)
    ∙ sym (behind_is s (a ++ b)) ∙ sym (one_is s (a ++ b))

-- ---- all of it

pub cut_anywhere : (s : State) (a b : List ℕ) → CutAnywhere s a b
cut_anywhere s a b = record {
  taken = taken_cut s a b;
  held = ap (λ (x : Both). x.1) (cut_both s a b);
  buttons = ap (λ (x : Both). x.0.buttons) (cut_both s a b);
  records = cut_records s a b;
  places = cut_places s a b;
  whole = cut_whole s a b;
  lines = cut_lines s a b;
}
