-- What comes from the terminal leaves alone, and bytes one after the other.
use Rattle.std.proofs.Common.{◌≡◌, ℕ, suc, ◌+◌, ◌-◌, ◌*◌, ◌<◌, ◌≤◌, Bool, true, false, not, ◌&&◌, cond, List, [], ◌∷◌, ◌++◌, length, map, drop, get_or, Option, None, Some, refl, sym, ap, ◌∙◌, arith, length-append}
use Rattle.std.specs.Prelude.{fold, option_to_list, if◌then◌else◌}
use Rattle.std.proofs.Math.Seq.{drop-cons}
use Rattle.std.proofs.lemmas.List.{length-map, drop_all}
use Rattle.std.proofs.lemmas.List.Sums.{fold-append}
use Rattle.con_units.specs.Split.{Split, next}
use Rattle.con_units.specs.Words.Split.{ended as split_ended}
use Rattle.con_records.specs.declared.record.Key.{Key}
use Rattle.con_records.specs.declared.record.Record.{Record}
use Rattle.con_records.specs.declared.record.Record.TheVariants as kinds
use Rattle.con_cooked.specs.declared.cooked.Cooked.{Cooked}
use Rattle.con_mouse.specs.Reports.{report_of}
use Rattle.con_mouse.specs.declared.report.Report.{Report}
use Rattle.con_readers.specs.Act.{Act, began, typed, passed, ended, woke}
use Rattle.con_readers.specs.Reads.{settled}
use Rattle.con_vtin.specs.Keys.{is_front, whole}
use Rattle.con_vtin.specs.Words.Keys.{grammar}
use Rattle.con_vtin.specs.Pieces.{Piece, piece_grammar, typed as keys_typed, is_control, gives_none}
use Rattle.con_vtin.specs.Words.Pieces.{ended_piece, ended_by, IsReadInPieces}
use Rattle.con_vtin.specs.Sequences.{key_units}
use Rattle.con_vtin.specs.Words.Sequences.{sent}
use Rattle.con_machine.specs.State.{State, noted_of}
use Rattle.con_machine.specs.Outcome.{has_bit}
use Rattle.con_machine.specs.ScreenCalls.{reported}
use Rattle.con_machine.specs.Serving.{followed, settled_state}
use Rattle.con_machine.specs.Words.Serving.{line_shown, line_finished, shows_line}
use Rattle.con_machine.specs.Signals.{signalled_to}
use Rattle.con_machine.specs.Terminal.{is_break, key_taken, piece_taken, records_of}
use Rattle.con_machine.specs.Words.Terminal.{released_key}
use Rattle.con_machine.specs.Feeding.{byte_taken, stored_count, told_report, report_taken_in}
use Rattle.con_machine.specs.declared.reads.noted.Noted.{Noted}
use Rattle.con_machine.specs.FeedingLaws.{pieces_held}

-- ---- modes stay

shown_modes : (s : State) (n : Option Noted) (old new : Cooked) → ((line_shown s n old new).mode ≡ s.mode) × ((line_shown s n old new).cursor_keys ≡ s.cursor_keys)
shown_modes s None old new = (refl, refl)
shown_modes s (Some n) old new = by_test (shows_line s.buffers n) refl
  where
    by_test : (t : Bool) → shows_line s.buffers n ≡ t → ((line_shown s (Some n) old new).mode ≡ s.mode) × ((line_shown s (Some n) old new).cursor_keys ≡ s.cursor_keys)
    by_test true e = rw e (refl, refl)
    by_test false e = rw e (refl, refl)

finished_modes : (s : State) (n : Option Noted) (len : ℕ) → ((line_finished s n len).mode ≡ s.mode) × ((line_finished s n len).cursor_keys ≡ s.cursor_keys)
finished_modes s None len = (refl, refl)
finished_modes s (Some n) len = by_test (shows_line s.buffers n) refl
  where
    by_test : (t : Bool) → shows_line s.buffers n ≡ t → ((line_finished s (Some n) len).mode ≡ s.mode) × ((line_finished s (Some n) len).cursor_keys ≡ s.cursor_keys)
    by_test true e = rw e (refl, refl)
    by_test false e = rw e (refl, refl)

followed_modes : (s : State) (a : Act) → ((followed s a).mode ≡ s.mode) × ((followed s a).cursor_keys ≡ s.cursor_keys)
followed_modes s (began p) = (refl, refl)
followed_modes s (typed p old new) = shown_modes s (noted_of s.noted p) old new
followed_modes s (passed p) = (refl, refl)
followed_modes s (ended p read len) = finished_modes s (noted_of s.noted p) len
followed_modes s (woke p line) = (refl, refl)

all_followed_modes : (s : State) (acts : List Act) → ((fold followed s acts).mode ≡ s.mode) × ((fold followed s acts).cursor_keys ≡ s.cursor_keys)
all_followed_modes s [] = (refl, refl)
all_followed_modes s (a ∷ rest) =
    let one = followed_modes s a in
    let more = all_followed_modes (followed s a) rest in
    (more.0 ∙ one.0, more.1 ∙ one.1)

settled_modes : (s : State) → ((settled_state s).mode ≡ s.mode) × ((settled_state s).cursor_keys ≡ s.cursor_keys)
unfolding settled_state
settled_modes s =
    let t = settled s.aliases s.reads s.records s.histories in
    all_followed_modes (record s { reads = t.reads; records = t.records; histories = t.histories }) t.acts

pub key_modes : (s : State) (k : Key) → ((key_taken s k).mode ≡ s.mode) × ((key_taken s k).cursor_keys ≡ s.cursor_keys)
key_modes s k = by_test (is_break s k)
  where
    by_test : (t : Bool) → ((cond t (signalled_to (settled_state s) 0 0) (record s { records = s.records ++ records_of s k })).mode ≡ s.mode)
        × ((cond t (signalled_to (settled_state s) 0 0) (record s { records = s.records ++ records_of s k })).cursor_keys ≡ s.cursor_keys)
    by_test true = settled_modes s
    by_test false = (refl, refl)

-- ---- how many records keys are stored as

stored_as : ℕ → Bool → Key → List Record
stored_as mode keys k = if has_bit mode 0x200 then map reported (key_units k keys) else kinds.Key k ∷ kinds.Key (released_key k) ∷ []

count_as : ℕ → Bool → List Key → ℕ
count_as mode keys [] = 0
count_as mode keys (k ∷ ks) = length (stored_as mode keys k) + count_as mode keys ks

count_is : (s : State) (ks : List Key) → stored_count s ks ≡ count_as s.mode s.cursor_keys ks
unfolding count_as stored_as
count_is s [] = refl
count_is s (k ∷ ks) = ap (λ (n : ℕ). length (records_of s k) + n) (count_is s ks)

pub count_keeps : (s : State) (k : Key) (ks : List Key) → stored_count (key_taken s k) ks ≡ stored_count s ks
count_keeps s k ks =
    let same = key_modes s k in
    count_is (key_taken s k) ks ∙ ap (λ (m : ℕ). count_as m (key_taken s k).cursor_keys ks) same.0 ∙ ap (λ (b : Bool). count_as s.mode b ks) same.1 ∙ sym (count_is s ks)

sent_many : (keys : Bool) (m : ℕ) (ks : List Key) → has_bit m 0x200 ≡ true → count_as m keys ks ≡ length (sent ks keys)
unfolding count_as stored_as
sent_many keys m [] e = refl
sent_many keys m (k ∷ ks) e =
    let here : length (stored_as m keys k) ≡ length (key_units k keys) = rw e (length-map (key_units k keys) reported) in
    ap (λ (n : ℕ). n + count_as m keys ks) here ∙ ap (λ (n : ℕ). length (key_units k keys) + n) (sent_many keys m ks e) ∙ sym (length-append (key_units k keys) (sent ks keys))

two_each : (keys : Bool) (m : ℕ) (ks : List Key) → has_bit m 0x200 ≡ false → count_as m keys ks ≡ 2 * length ks
unfolding count_as stored_as
two_each keys m [] e = refl
two_each keys m (k ∷ ks) e =
    let here : length (stored_as m keys k) ≡ 2 = rw e refl in
    let more : count_as m keys ks ≡ 2 * length ks = two_each keys m ks e in
    omega (arith, here, more)

-- at most two for each key and for each unit that is sent
pub stored_few : (s : State) (ks : List Key) (n : ℕ) → length ks ≤ n → length (sent ks s.cursor_keys) ≤ n → stored_count s ks ≤ 2 * n
stored_few s ks n few units = by_test (has_bit s.mode 0x200) refl
  where
    by_test : (t : Bool) → has_bit s.mode 0x200 ≡ t → stored_count s ks ≤ 2 * n
    by_test true e = let is : stored_count s ks ≡ length (sent ks s.cursor_keys) = count_is s ks ∙ sent_many s.cursor_keys s.mode ks e in omega (arith, is, units)
    by_test false e = let is : stored_count s ks ≡ 2 * length ks = count_is s ks ∙ two_each s.cursor_keys s.mode ks e in omega (arith, is, few)

-- ---- one byte

-- a sequence that gives no key gives nothing
pub ended_nothing : (held : List ℕ) (b : ℕ) (bs : List ℕ) → ended_by held b ≡ Some bs → ((next grammar held b).items ≡ []) × ((next grammar held b).tail ≡ [])
unfolding next
ended_nothing [] u bs e = absurd (by_front (is_front (u ∷ [])) e)
  where
    by_front : (f : Bool) → cond (not f && false) (Some (u ∷ [])) None ≡ Some bs → ⊥
    by_front true e = cc
    by_front false e = cc
ended_nothing (v ∷ front) u bs e = by_whole (is_front (v ∷ front ++ u ∷ [])) (is_control (v ∷ front ++ u ∷ [])) (whole (v ∷ front ++ u ∷ [])) e
  where
    by_whole : (f c : Bool) (o : Option (List Key)) → cond (not f && (c && gives_none o)) (Some (v ∷ front ++ u ∷ [])) None ≡ Some bs
        → let s : Split Key = cond f (record { items = []; tail = v ∷ front ++ u ∷ [] }) (split_ended grammar (v ∷ front) u o) in (s.items ≡ []) × (s.tail ≡ [])
    by_whole true c o e = absurd (cc)
    by_whole false true None e = absurd (cc)
    by_whole false true (Some []) e = (refl, refl)
    by_whole false true (Some (k ∷ ks)) e = absurd (cc)
    by_whole false false o e = absurd (cc)

typed_taken : (s : State) (ks : List Key) → fold piece_taken s (keys_typed ks) ≡ fold key_taken s ks
typed_taken s [] = refl
typed_taken s (k ∷ ks) = typed_taken (key_taken s k) ks

piece_ended : (s : State) (e : Option (List ℕ)) → fold piece_taken s (ended_piece e) ≡ report_taken_in s (told_report e)
piece_ended s None = by_test (has_bit s.mode 0x10)
  where
    by_test : (t : Bool) → s ≡ cond t s s
    by_test true = refl
    by_test false = refl
piece_ended s (Some bytes) = refl

-- a byte's keys are taken, and then the report that it ended
pub byte_is : (s : State) (b : ℕ) (keys : Split Key) (e : Option (List ℕ)) → keys ≡ next grammar s.held b → e ≡ ended_by s.held b → IsReadInPieces
    → byte_taken s b ≡ report_taken_in (fold key_taken (record s { held = keys.tail }) keys.items) (told_report e)
unfolding byte_taken
byte_is s b keys e is at pieces =
    let both : next piece_grammar s.held b ≡ record { items = keys_typed keys.items ++ ended_piece e; tail = keys.tail } =
    pieces s.held b ∙ rw (is, at) refl in
    ap (λ (n : Split Piece). fold piece_taken (record s { held = n.tail }) n.items) both
    ∙ fold-append piece_taken (record s { held = keys.tail }) (keys_typed keys.items) (ended_piece e)
    ∙ ap (λ (t : State). fold piece_taken t (ended_piece e)) (typed_taken (record s { held = keys.tail }) keys.items)
    ∙ piece_ended (fold key_taken (record s { held = keys.tail }) keys.items) e

-- and what is held then is what the byte leaves
pub byte_held : (s : State) (b : ℕ) → IsReadInPieces → (byte_taken s b).held ≡ (next grammar s.held b).tail
unfolding byte_taken
byte_held s b read =
    let n : Split Piece = next piece_grammar s.held b in
    let kept : fold piece_taken (record s { held = n.tail }) n.items ≡ record (fold piece_taken (record s { held = n.tail }) n.items) { held = n.tail } = pieces_held (record s { held = n.tail }) n.tail n.items in
    ap (λ (t : State). t.held) kept ∙ ap (λ (m : Split Piece). m.tail) (read s.held b)

-- ---- keys in their order

pub record AreTaken (s t : State) (keys : List Key) (i a b : ℕ) : Type 0 where
  pub state : fold key_taken t (drop i keys) ≡ fold key_taken s keys
  pub modes : (ks : List Key) → stored_count t ks ≡ stored_count s ks
  pub spare : a + stored_count s (drop i keys) ≤ b + stored_count s keys

pub taken_fits : (s t : State) (keys : List Key) (i a b : ℕ) (k : Key) → AreTaken s t keys i a b → drop i keys ≡ k ∷ drop (i + 1) keys → stored_count s keys ≤ a → length (records_of t k) ≤ b
taken_fits s t keys i a b k so_far is fits =
    let e : stored_count s (drop i keys) ≡ length (records_of t k) + stored_count t (drop (i + 1) keys) = ap (stored_count s) is ∙ sym (so_far.modes (k ∷ drop (i + 1) keys)) in
    let more = so_far.spare in
    omega (arith, e, more, fits)

pub taken_next : (s t u : State) (keys : List Key) (i a b c : ℕ) (k : Key) → AreTaken s t keys i a b → drop i keys ≡ k ∷ drop (i + 1) keys → u ≡ key_taken t k → b ≤ c + length (records_of t k) → AreTaken s u keys (i + 1) a c
taken_next s t u keys i a b c k so_far is now spare = record {
  state = ap (λ (x : State). fold key_taken x (drop (i + 1) keys)) now ∙ sym (ap (λ (l : List Key). fold key_taken t l) is) ∙ so_far.state;
  modes = λ ks. ap (λ (x : State). stored_count x ks) now ∙ count_keeps t k ks ∙ so_far.modes ks;
  spare =
      let e : stored_count s (drop i keys) ≡ length (records_of t k) + stored_count t (drop (i + 1) keys) = ap (stored_count s) is ∙ sym (so_far.modes (k ∷ drop (i + 1) keys)) in
      let f : stored_count t (drop (i + 1) keys) ≡ stored_count s (drop (i + 1) keys) = so_far.modes (drop (i + 1) keys) in
      let more = so_far.spare in
      omega (arith, e, f, more, spare);
}

pub next_of : {A : Type 0} (xs : List A) (i : ℕ) (d : A) → i < length xs → drop i xs ≡ get_or xs i d ∷ drop (i + 1) xs
next_of xs i d below = let same : suc i ≡ i + 1 = omega arith in drop-cons xs i d below ∙ ap (λ (k : ℕ). get_or xs i d ∷ drop k xs) same

pub none_left : {A : Type 0} (xs : List A) (i : ℕ) → length xs ≤ i → drop i xs ≡ []
none_left xs i past = drop_all i xs past

-- ---- bytes in their order

pub record AreFed (s t : State) (bytes : List ℕ) (i a : ℕ) : Type 0 where
  pub state : fold byte_taken t (drop i bytes) ≡ fold byte_taken s bytes
  pub room : 2 * (length (drop i bytes) + length t.held) ≤ a

pub fed_next : (s t u : State) (bytes : List ℕ) (i a c b : ℕ) → AreFed s t bytes i a → drop i bytes ≡ b ∷ drop (i + 1) bytes → u ≡ byte_taken t b → a + 2 * length u.held ≤ c + 2 * (length t.held + 1) → AreFed s u bytes (i + 1) c
fed_next s t u bytes i a c b so_far is now spare = record {
  state = ap (λ (x : State). fold byte_taken x (drop (i + 1) bytes)) now ∙ sym (ap (λ (l : List ℕ). fold byte_taken t l) is) ∙ so_far.state;
  room =
      let more = so_far.room in
      let one : length (drop i bytes) ≡ length (drop (i + 1) bytes) + 1 = ap (λ (l : List ℕ). length l) is ∙ (omega arith) in
      omega (arith, more, one, spare);
}

pub fed_fits : (s t : State) (bytes : List ℕ) (i a b : ℕ) → AreFed s t bytes i a → drop i bytes ≡ b ∷ drop (i + 1) bytes → 2 * (length t.held + 1) ≤ a
fed_fits s t bytes i a b so_far is =
    let more = so_far.room in
    let one : length (drop i bytes) ≡ length (drop (i + 1) bytes) + 1 = ap (λ (l : List ℕ). length l) is ∙ (omega arith) in
    omega (arith, more, one)

-- ---- room for what a byte gives

one_at_most : (r : Option Report) → length (option_to_list r) ≤ 1
one_at_most None = omega arith
one_at_most (Some r) = omega arith

pub byte_room : (s : State) (held tail : List ℕ) (b : ℕ) (ks : List Key) (e : Option (List ℕ)) → ks ≡ (next grammar held b).items → tail ≡ (next grammar held b).tail → e ≡ ended_by held b
    → length ks + length tail ≤ length held + 1 → length (sent ks s.cursor_keys) + length tail ≤ length held + 1
    → stored_count s ks + length (option_to_list (told_report e)) + 2 * length tail ≤ 2 * (length held + 1)
byte_room s held tail b ks None is left at few units =
    let n : ℕ = length held + 1 - length tail in
    let stored : stored_count s ks ≤ 2 * n = stored_few s ks n (omega (arith, few)) (omega (arith, units)) in
    omega (arith, stored, few)
byte_room s held tail b ks (Some bytes) is left at few units =
    let nothing = ended_nothing held b bytes (sym at) in
    let none : stored_count s ks ≡ 0 = ap (stored_count s) (is ∙ nothing.0) in
    let gone : length tail ≡ 0 = ap (λ (l : List ℕ). length l) (left ∙ nothing.1) in
    let one = one_at_most (report_of bytes) in
    omega (arith, none, gone, one)

split_from : (items others : List Key) (tail rest : List ℕ) → items ≡ others → tail ≡ rest → ◌≡◌ {A = Split Key} (record { items = items; tail = tail }) (record { items = others; tail = rest })
split_from items others tail rest d e = rw (d, e) refl

pub byte_state : (s t u : State) (b : ℕ) (ks : List Key) (tail : List ℕ) (e : Option (List ℕ)) → IsReadInPieces → ks ≡ (next grammar s.held b).items → tail ≡ (next grammar s.held b).tail → e ≡ ended_by s.held b
    → t ≡ fold key_taken (record s { held = tail }) ks → u ≡ report_taken_in t (told_report e) → u ≡ byte_taken s b
byte_state s t u b ks tail e read is left at keys report =
    report ∙ ap (λ (x : State). report_taken_in x (told_report e)) keys
    ∙ sym (byte_is s b (record { items = ks; tail = tail }) e (split_from ks (next grammar s.held b).items tail (next grammar s.held b).tail is left) at read)

-- what a byte gives, and the report that it ends, fit
pub byte_fits : (s : State) (held tail : List ℕ) (b : ℕ) (ks os old : List Key) (e : Option (List ℕ)) (k l : ℕ) → ks ≡ os → old ≡ [] → os ≡ old ++ (next grammar held b).items → tail ≡ (next grammar held b).tail → e ≡ ended_by held b
    → length ks ≡ k → l ≡ 0 → k + length tail ≤ l + length held + 1 → length (sent os s.cursor_keys) + length tail ≤ length (sent old s.cursor_keys) + length held + 1
    → stored_count s ks + length (option_to_list (told_report e)) + 2 * length tail ≤ 2 * (length held + 1)
byte_fits s held tail b ks os old e k l is none at_keys left at count nothing few units =
    let keys : ks ≡ (next grammar held b).items = is ∙ at_keys ∙ ap (λ (xs : List Key). xs ++ (next grammar held b).items) none in
    let sent_none : length (sent old s.cursor_keys) ≡ 0 = ap (λ (xs : List Key). length (sent xs s.cursor_keys)) none in
    let same : length (sent ks s.cursor_keys) ≡ length (sent os s.cursor_keys) = ap (λ (xs : List Key). length (sent xs s.cursor_keys)) is in
    byte_room s held tail b ks e keys left at (omega (arith, count, nothing, few)) (omega (arith, same, sent_none, units))

pub first_fits : (s : State) (ks : List Key) (o t n m : ℕ) → stored_count s ks + o + 2 * t ≤ 2 * n → 2 * n ≤ m → stored_count s ks ≤ m
first_fits s ks o t n m fits room = omega (arith, fits, room)

pub then_fits : (s : State) (ks : List Key) (r q : Option Report) (t n m a : ℕ) → stored_count s ks + length (option_to_list q) + 2 * t ≤ 2 * n → r ≡ q → 2 * n ≤ m → m ≤ a + stored_count s ks → length (option_to_list r) ≤ a
then_fits s ks r q t n m a fits is room keys =
    let same : length (option_to_list r) ≡ length (option_to_list q) = ap (λ (o : Option Report). length (option_to_list o)) is in
    omega (arith, fits, room, keys, same)

pub all_fits : (s : State) (ks : List Key) (r q : Option Report) (held tail : List ℕ) (n m a b : ℕ) → stored_count s ks + length (option_to_list q) + 2 * length tail ≤ 2 * n → r ≡ q → m ≤ a + stored_count s ks → a ≤ b + length (option_to_list r) → held ≡ tail → m + 2 * length held ≤ b + 2 * n
all_fits s ks r q held tail n m a b fits is keys report left =
    let same : length (option_to_list r) ≡ length (option_to_list q) = ap (λ (o : Option Report). length (option_to_list o)) is in
    let long : length held ≡ length tail = ap (λ (xs : List ℕ). length xs) left in
    omega (arith, fits, keys, report, same, long)

-- the keys of what was held fit
pub quiet_fits : (s : State) (ks os old : List Key) (k l n m : ℕ) → ks ≡ os → old ≡ [] → length ks ≡ k → l ≡ 0 → k ≤ l + n → length (sent os s.cursor_keys) ≤ length (sent old s.cursor_keys) + n → 2 * n ≤ m → stored_count s ks ≤ m
quiet_fits s ks os old k l n m is none count nothing few units room =
    let sent_none : length (sent old s.cursor_keys) ≡ 0 = ap (λ (xs : List Key). length (sent xs s.cursor_keys)) none in
    let same : length (sent ks s.cursor_keys) ≡ length (sent os s.cursor_keys) = ap (λ (xs : List Key). length (sent xs s.cursor_keys)) is in
    let stored : stored_count s ks ≤ 2 * n = stored_few s ks n (omega (arith, count, nothing, few)) (omega (arith, same, sent_none, units)) in
    omega (arith, stored, room)
