-- Bytes from the terminal one after the other, and that what comes looks at no bytes that are held.
use Rattle.std.proofs.Common.{◌≡◌, ℕ, Bool, true, false, cond, List, [], ◌∷◌, ◌++◌, Option, None, Some, refl, sym, ap, ◌∙◌}
use Rattle.std.specs.Prelude.{fold}
use Rattle.std.proofs.lemmas.List.Sums.{fold-append}
use Rattle.con_units.specs.Split.{Split, next, split_after}
use Rattle.con_units.specs.Words.Split.{read_on}
use Rattle.con_records.specs.declared.record.Key.{Key}
use Rattle.con_cooked.specs.declared.cooked.Cooked.{Cooked}
use Rattle.con_mouse.specs.Reports.{report_of}
use Rattle.con_mouse.specs.declared.report.Report.{Report}
use Rattle.con_readers.specs.Act.{Act, began, typed, passed, ended, woke}
use Rattle.con_readers.specs.Reads.{settled}
use Rattle.con_vtin.specs.Pieces.{Piece, Typed, Ended, piece_grammar}
use Rattle.con_machine.specs.State.{State, noted_of}
use Rattle.con_machine.specs.Outcome.{has_bit}
use Rattle.con_machine.specs.Serving.{followed, settled_state}
use Rattle.con_machine.specs.Words.Serving.{line_shown, line_finished, shows_line}
use Rattle.con_machine.specs.Signals.{signalled_to}
use Rattle.con_machine.specs.Terminal.{is_break, key_taken, piece_taken, records_of, fed}
use Rattle.con_machine.specs.Words.Terminal.{by_report, sequence_taken}
use Rattle.con_machine.specs.Feeding.{byte_taken}
use Rattle.con_machine.specs.declared.reads.noted.Noted.{Noted}

-- ---- the bytes that are held are looked at by nothing else

shown_held : (s : State) (h : List ℕ) (n : Option Noted) (old new : Cooked)
    → line_shown (record s { held = h }) n old new ≡ record (line_shown s n old new) { held = h }
shown_held s h None old new = refl
shown_held s h (Some n) old new = by_test (shows_line s.buffers n) refl
  where
    by_test : (t : Bool) → shows_line s.buffers n ≡ t
        → line_shown (record s { held = h }) (Some n) old new ≡ record (line_shown s (Some n) old new) { held = h }
    by_test true e = rw e refl
    by_test false e = rw e refl

finished_held : (s : State) (h : List ℕ) (n : Option Noted) (len : ℕ)
    → line_finished (record s { held = h }) n len ≡ record (line_finished s n len) { held = h }
finished_held s h None len = refl
finished_held s h (Some n) len = by_test (shows_line s.buffers n) refl
  where
    by_test : (t : Bool) → shows_line s.buffers n ≡ t → line_finished (record s { held = h }) (Some n) len ≡ record (line_finished s (Some n) len) { held = h }
    by_test true e = rw e refl
    by_test false e = rw e refl

followed_held : (s : State) (h : List ℕ) (a : Act) → followed (record s { held = h }) a ≡ record (followed s a) { held = h }
followed_held s h (began p) = refl
followed_held s h (typed p old new) = shown_held s h (noted_of s.noted p) old new
followed_held s h (passed p) = refl
followed_held s h (ended p read len) = finished_held s h (noted_of s.noted p) len
followed_held s h (woke p line) = refl

all_followed_held : (s : State) (h : List ℕ) (acts : List Act) → fold followed (record s { held = h }) acts ≡ record (fold followed s acts) { held = h }
all_followed_held s h [] = refl
all_followed_held s h (a ∷ rest) = ap (λ (t : State). fold followed t rest) (followed_held s h a) ∙ all_followed_held (followed s a) h rest

pub settled_held : (s : State) (h : List ℕ) → settled_state (record s { held = h }) ≡ record (settled_state s) { held = h }
unfolding settled_state
settled_held s h =
    let t = settled s.aliases s.reads s.records s.histories in
    all_followed_held (record s { reads = t.reads; records = t.records; histories = t.histories }) h t.acts

key_held : (s : State) (h : List ℕ) (k : Key) → key_taken (record s { held = h }) k ≡ record (key_taken s k) { held = h }
key_held s h k = by_test (is_break s k)
  where
    by_test : (t : Bool) → cond t (signalled_to (settled_state (record s { held = h })) 0 0) (record s { held = h; records = s.records ++ records_of s k })
        ≡ record (cond t (signalled_to (settled_state s) 0 0) (record s { records = s.records ++ records_of s k })) { held = h }
    by_test true = ap (λ (x : State). signalled_to x 0 0) (settled_held s h)
    by_test false = refl

report_held : (s : State) (h : List ℕ) (r : Option Report) → by_report (record s { held = h }) r ≡ record (by_report s r) { held = h }
report_held s h None = refl
report_held s h (Some r) = refl

sequence_held : (s : State) (h bytes : List ℕ) → sequence_taken (record s { held = h }) bytes ≡ record (sequence_taken s bytes) { held = h }
sequence_held s h bytes = by_test (has_bit s.mode 0x10)
  where
    by_test : (t : Bool) → cond t (by_report (record s { held = h }) (report_of bytes)) (record s { held = h })
        ≡ record (cond t (by_report s (report_of bytes)) s) { held = h }
    by_test true = report_held s h (report_of bytes)
    by_test false = refl

piece_held : (s : State) (h : List ℕ) (p : Piece) → piece_taken (record s { held = h }) p ≡ record (piece_taken s p) { held = h }
piece_held s h (Typed k) = key_held s h k
piece_held s h (Ended bytes) = sequence_held s h bytes

pub pieces_held : (s : State) (h : List ℕ) (ps : List Piece) → fold piece_taken (record s { held = h }) ps ≡ record (fold piece_taken s ps) { held = h }
pieces_held s h [] = refl
pieces_held s h (p ∷ ps) = ap (λ (t : State). fold piece_taken t ps) (piece_held s h p) ∙ pieces_held (piece_taken s p) h ps

-- ---- bytes one after the other

one_byte : (s : State) (h : List ℕ) (is : List Piece) (b : ℕ)
    → fold piece_taken (record s { held = (next piece_grammar h b).tail }) (is ++ (next piece_grammar h b).items)
    ≡ byte_taken (fold piece_taken (record s { held = h }) is) b
unfolding byte_taken
one_byte s h is b =
    let n : Split Piece = next piece_grammar h b in
    let before : State = fold piece_taken s is in
    let here : fold piece_taken (record s { held = h }) is ≡ record before { held = h } = pieces_held s h is in
    let left : fold piece_taken (record s { held = n.tail }) (is ++ n.items) ≡ fold piece_taken (record before { held = n.tail }) n.items =
    fold-append piece_taken (record s { held = n.tail }) is n.items ∙ ap (λ (t : State). fold piece_taken t n.items) (pieces_held s n.tail is) in
    left ∙ sym (ap (λ (t : State). let m : Split Piece = next piece_grammar t.held b in fold piece_taken (record t { held = m.tail }) m.items) here)

all_bytes : (s : State) (h : List ℕ) (is : List Piece) (bytes : List ℕ)
    → (let t : Split Piece = fold (read_on piece_grammar) (record { items = is; tail = h }) bytes in fold piece_taken (record s { held = t.tail }) t.items)
    ≡ fold byte_taken (fold piece_taken (record s { held = h }) is) bytes
all_bytes s h is [] = refl
all_bytes s h is (b ∷ bs) =
    let n : Split Piece = next piece_grammar h b in
    all_bytes s n.tail (is ++ n.items) bs ∙ ap (λ (t : State). fold byte_taken t bs) (one_byte s h is b)

pub fed_by_bytes : (s : State) (bytes : List ℕ) → fed s bytes ≡ fold byte_taken s bytes
unfolding fed split_after
fed_by_bytes s bytes = all_bytes s s.held [] bytes
