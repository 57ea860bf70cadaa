-- What is promised of records, who took them and what came in, is what the proofs walk.
use Rattle.std.proofs.Common.{◌≡◌, ◌⊎◌, ℕ, Bool, List, [], ◌∷◌, ◌++◌, true, false, refl, ap, ◌∙◌, sym, subst, length, map, filter, append_assoc, Result, Ok, Err, Option, Some, None, inl, inr, suc, zero, arith, cond, drop, drop_at, length-append}
use Rattle.std.specs.Prelude.{◌+◌, ◌-◌, ◌==◌, ◌&&◌, ◌≤◌, not, nat_lt, slice_get, option_map, if◌then◌else◌}
use Rattle.std.specs.List.{find, zip, flat_map}
use Rattle.std.specs.Option.{option_map_or}
use Rattle.std.specs.Result.{is_ok}
use Rattle.std.proofs.lemmas.Bool.Decides.{nat_tests}
use Rattle.con_units.specs.Split.{split_after}
use Rattle.con_units.specs.declared.code.Code.{Code}
use Rattle.con_events.specs.declared.call.Call.{Call}
use Rattle.con_events.specs.declared.call.Call.TheVariants as calls
use Rattle.con_events.specs.declared.entry.Entry.{Entry}
use Rattle.con_events.specs.declared.event.Event.{Event}
use Rattle.con_events.specs.declared.event.Event.TheVariants as events
use Rattle.con_events.specs.declared.event.Wanted.{Wanted}
use Rattle.con_events.specs.declared.reply.Reply.{Reply}
use Rattle.con_handles.specs.declared.handle.Kind.TheVariants as kind
use Rattle.con_handles.specs.declared.handle.Object.{Object}
use Rattle.con_alias.specs.Aliases.{AliasList}
use Rattle.con_history.specs.Histories.{LineHistories}
use Rattle.con_procs.specs.Procs.{ids_of}
use Rattle.con_readers.specs.Pieces.{front, joined}
use Rattle.con_readers.specs.Words.Pieces.{pieces_of}
use Rattle.con_readers.specs.Reads.{settled, is_open_line}
use Rattle.con_readers.specs.Serving.{is_done, served}
use Rattle.con_readers.specs.declared.open.Open.{Open}
use Rattle.con_records.specs.declared.record.Key.{Key}
use Rattle.con_records.specs.declared.record.Record.{Record}
use Rattle.con_vtin.specs.Keys.{quieted}
use Rattle.con_vtin.specs.Pieces.{Piece as Bytes, Typed, Ended, piece_grammar}
use Rattle.con_machine.specs.State.{State}
use Rattle.con_machine.specs.Outcome.{guard}
use Rattle.con_machine.specs.ProcessCalls.{is_no_signal}
use Rattle.con_machine.specs.Serving.{settled_state}
use Rattle.con_machine.specs.Closing.{all_wait}
use Rattle.con_machine.specs.Terminal.{is_break, key_taken, piece_taken}
use Rattle.con_machine.specs.Step.{effect, step, is_outside, client_of}
use Rattle.con_machine.specs.Turns.{moved}
use Rattle.con_machine.specs.Client.{is_fail}
use Rattle.con_laws.specs.Fates.{Taker, Begun, Flushed, Earlier, How, Served, Emptied, Interrupted, CutOff, Deed, Piece, is_taker, done_for, came, bytes_from, bytes_of, event_arrivals, is_begun, reader_after, readers_from, undone}
use Rattle.con_laws.specs.Fates.{taken_by as takes_by, event_pieces, step_pieces as pieces_at, pieces_from as pieces_on, arrived as has_arrived}
use Rattle.con_laws.specs.Fates as now
use Rattle.con_laws.specs.Walks.{Begin, Begins, no_begins, begin_or, begin_at, begins_after, begins_from, read_of, by_read, taken_by, served_pieces, interrupted_by, interrupted, cut_off, hung_pieces, closing_pieces, signal_pieces, flushed_pieces, call_pieces, keys_pieces, bytes_pieces, all_bytes_pieces, fed_pieces, effect_pieces, end_pieces, step_pieces, pieces_from, pieces, keys_arrivals, bytes_arrivals, all_bytes_arrivals, fed_arrivals, effect_arrivals, step_arrivals, arrived, call_arrivals, fate_in, fate, last_begin}
use Rattle.con_laws.proofs.Conserved.{WholeReads, Kept, bytes_keep, effect_keeps}

-- ---- what came in

none_left : (n : ℕ) (xs : List Record) → length xs ≤ n → drop n xs ≡ []
none_left zero [] h = refl
none_left (suc n) [] h = refl
none_left zero (x ∷ xs) h = absurd (omega (arith, h))
none_left (suc n) (x ∷ xs) h = none_left n xs (omega (arith, h))

-- what came in, where nothing was taken, or nothing came in
came_by : (r a j t : List Record) → r ++ a ≡ j ++ t → (j ≡ []) ⊎ (a ≡ []) → drop (length r) t ≡ a
came_by r a j t e (inl none) =
    let is : t ≡ r ++ a = sym (e ∙ ap (λ (x : List Record). x ++ t) none) in
    ap (drop (length r)) is ∙ drop_at r a (length r) refl
came_by r a j t e (inr none) =
    let size : length r + length a ≡ length j + length t = sym (length-append r a) ∙ (ap length e ∙ length-append j t) in
    let zero' : length a ≡ 0 = ap length none in
    none_left (length r) t (omega (arith, size, zero')) ∙ sym none

either_none : (b : Bool) (ps : List Piece) (rs : List Record) → (joined (if b then ps else []) ≡ []) ⊎ ((if b then [] else rs) ≡ [])
unfolding joined
either_none true ps rs = inr refl
either_none false ps rs = inl refl

bytes_none : (begins : Begins) (s : State) (b : Bytes) → (joined (bytes_pieces begins s b) ≡ []) ⊎ (bytes_arrivals s b ≡ [])
unfolding joined
bytes_none begins s (Typed k) = either_none (is_break s k) _ _
bytes_none begins s (Ended bytes) = inl refl

came_bytes : WholeReads → (s : State) (b : Bytes) → came s (piece_taken s b) ≡ bytes_arrivals s b
came_bytes w s b = came_by s.records (bytes_arrivals s b) (joined (bytes_pieces no_begins s b)) (piece_taken s b).records (bytes_keep w no_begins s b) (bytes_none no_begins s b)

both : {A : Type 0} (a b c d : List A) → a ≡ b → c ≡ d → a ++ c ≡ b ++ d
both a b c d e f = ap (λ x. x ++ c) e ∙ ap (λ x. b ++ x) f

came_all : WholeReads → (s : State) (bs : List Bytes) → flat_map (λ x. came x.0 (piece_taken x.0 x.1)) (bytes_from s bs) ≡ all_bytes_arrivals s bs
unfolding bytes_from all_bytes_arrivals
came_all w s [] = refl
came_all w s (b ∷ bs) = both _ _ _ _ (came_bytes w s b) (came_all w (piece_taken s b) bs)

came_keys : WholeReads → (s : State) (ks : List Key) → flat_map (λ x. came x.0 (piece_taken x.0 x.1)) (bytes_from s (map Typed ks)) ≡ keys_arrivals s ks
unfolding bytes_from keys_arrivals
came_keys w s [] = refl
came_keys w s (k ∷ ks) = both _ _ _ _ (came_bytes w s (Typed k)) (came_keys w (key_taken s k) ks)

kept_of : (begins : Begins) (place : ℕ) (s : State) (p : ℕ) (e : Event) → Kept begins place s p e
    → s.records ++ effect_arrivals s p e ≡ joined (effect_pieces begins place s p e) ++ (effect s p e).after.records
unfolding Kept
kept_of begins place s p e k = k

came_event : WholeReads → (s : State) (p : ℕ) (e : Event) → (joined (effect_pieces no_begins 0 s p e) ≡ []) ⊎ (effect_arrivals s p e ≡ [])
    → came s (effect s p e).after ≡ effect_arrivals s p e
came_event w s p e none = came_by s.records (effect_arrivals s p e) (joined (effect_pieces no_begins 0 s p e)) (effect s p e).after.records
    (kept_of no_begins 0 s p e (effect_keeps w no_begins 0 s p e)) none

call_none : (s : State) (p : ℕ) (c : Call) → (joined (call_pieces no_begins 0 s p c) ≡ []) ⊎ (call_arrivals s p c ≡ [])
unfolding joined
call_none s p (calls.Flush h) = inr refl
call_none s p (calls.Signal event group) = inr refl
call_none s p c = inl refl

arrivals_same : WholeReads → (s : State) (p : ℕ) (e : Event) → event_arrivals s p e ≡ effect_arrivals s p e
unfolding event_arrivals bytes_of fed_arrivals joined
arrivals_same w s p (events.Feed bytes) = let parts = split_after piece_grammar s.held bytes in came_all w (record s { held = parts.tail }) parts.items
arrivals_same w s p events.Quiet = came_keys w (record s { held = [] }) (quieted s.held)
arrivals_same w s p (events.Call c) = came_event w s p (events.Call c) (call_none s p c)
arrivals_same w s p events.Hangup = came_event w s p events.Hangup (inr refl)
arrivals_same w s p e = came_event w s p e (inl refl)

pub arrived_same : ((al : List AliasList) (os : List Open) (rs : List Record) (hs : LineHistories) → joined (pieces_of al os rs hs) ++ (settled al os rs hs).records ≡ rs)
    → (s : State) (h : List Entry) → has_arrived s h ≡ arrived s h
unfolding has_arrived WholeReads step_arrivals
arrived_same w s [] = refl
arrived_same w s (x ∷ xs) = both _ _ _ _
    (ap (λ (rs : List Record). if is_outside s x.actor x.event then [] else rs) (arrivals_same w s (client_of x.actor) x.event)) (arrived_same w (moved s x) xs)

-- ---- whose read it is

abbrev reads_of : Begins → ℕ → Taker
reads_of begins p = read_of p (begins p)

begun_same : (place p : ℕ) (e : Event) (reply : Reply) (o : Option Begin)
    → (if is_begun e reply then Begun place else read_of p o) ≡ read_of p (begin_or (if is_fail reply then None else begin_at place e) o)
begun_same place p (events.Begin w) reply o = by (is_fail reply)
  where
    by : (f : Bool) → (if not f then Begun place else read_of p o) ≡ read_of p (begin_or (if f then None else begin_at place (events.Begin w)) o)
    by true = refl
    by false = refl
begun_same place p e reply o = by (is_fail reply)
  where
    by : (f : Bool) → read_of p o ≡ read_of p (begin_or (if f then None else None) o)
    by true = refl
    by false = refl

point_same : (c : Bool) (place p : ℕ) (e : Event) (reply : Reply) (o : Option Begin)
    → (if c && is_begun e reply then Begun place else read_of p o) ≡ read_of p (if c then begin_or (if is_fail reply then None else begin_at place e) o else o)
point_same true place p e reply o = begun_same place p e reply o
point_same false place p e reply o = refl

after_same : (begins : Begins) (place : ℕ) (s : State) (x : Entry) → reader_after (reads_of begins) place s x ≡ reads_of (begins_after begins place s x)
after_same begins place s x = λ i p. point_same (p == client_of x.actor) place p x.event (step s x.actor x.event).reply (begins p) i

readers_same : (begins : Begins) (place : ℕ) (s : State) (h : List Entry) → readers_from (reads_of begins) place s h ≡ reads_of (begins_from begins place s h)
unfolding readers_from
readers_same begins place s [] = refl
readers_same begins place s (x ∷ xs) =
    ap (λ (w : ℕ → Taker). readers_from w (place + 1) (moved s x) xs) (after_same begins place s x)
    ∙ readers_same (begins_after begins place s x) (place + 1) (moved s x) xs

earlier : Earlier ≡ reads_of no_begins
earlier = λ i p. Earlier p

-- ---- what is done

test_same : (begins : Begins) (al : List AliasList) (os : List Open) (rs : List Record) (hs : LineHistories) → takes_by (reads_of begins) al (undone os) rs hs ≡ taken_by begins al os rs hs
unfolding takes_by taken_by
test_same begins al [] rs hs = refl
test_same begins al (o ∷ os) rs hs = by (is_done o.read) (test_same begins al os)
  where
    next : (d : Bool) (ss : List Record) (hh : LineHistories) → takes_by (reads_of begins) al (undone os) ss hh ≡ taken_by begins al os ss hh
        → (if d then takes_by (reads_of begins) al (undone os) ss hh else []) ≡ (if d then taken_by begins al os ss hh else [])
    next true ss hh e = e
    next false ss hh e = refl

    by : (b : Bool) → ((ss : List Record) (hh : LineHistories) → takes_by (reads_of begins) al (undone os) ss hh ≡ taken_by begins al os ss hh)
        → takes_by (reads_of begins) al (cond (not b) (o ∷ undone os) (undone os)) rs hs
        ≡ (if b then taken_by begins al os rs hs
        else (let s = served o.process al o.read rs hs in
        by_read begins (Served hs al) o.process (front rs s.records) ∷ (if is_done s.read then taken_by begins al os s.records s.histories else [])))
    by true e = e rs hs
    by false e = let s = served o.process al o.read rs hs in
        ap (λ (ps : List Piece). by_read begins (Served hs al) o.process (front rs s.records) ∷ ps) (next (is_done s.read) s.records s.histories (e s.records s.histories))

served_same : (begins : Begins) (s : State) → now.served_pieces (reads_of begins) s ≡ served_pieces begins s
unfolding served_pieces
served_same begins s = test_same begins s.aliases s.reads s.records s.histories

interrupted_same : (begins : Begins) (s : State) → now.interrupted (reads_of begins) s ≡ interrupted begins s.reads
unfolding interrupted
interrupted_same begins s = by (find is_open_line s.reads)
  where
    by : (o : Option Open) → option_map_or (λ o. now.by_read (reads_of begins) Interrupted o.process [] ∷ []) o [] ≡ interrupted_by begins o
    by None = refl
    by (Some o) = refl

cut_same : (begins : Begins) (os : List Open) → map (λ o. now.by_read (reads_of begins) CutOff o.process []) (undone os) ≡ cut_off begins os
unfolding cut_off
cut_same begins [] = refl
cut_same begins (o ∷ os) = by (is_done o.read) (cut_same begins os)
  where
    by : (b : Bool) → map (λ o. now.by_read (reads_of begins) CutOff o.process []) (undone os) ≡ cut_off begins os
        → map (λ o. now.by_read (reads_of begins) CutOff o.process []) (cond (not b) (o ∷ undone os) (undone os))
        ≡ (if b then cut_off begins os else (by_read begins CutOff o.process [] ∷ cut_off begins os))
    by true e = e
    by false e = ap (λ (ps : List Piece). by_read begins CutOff o.process [] ∷ ps) e

hung_same : (begins : Begins) (s : State) → now.hung_pieces (reads_of begins) s ≡ hung_pieces begins s
hung_same begins s = ap (λ (ps : List Piece). if s.closed then [] else ps) (cut_same begins s.reads)

bytes_same : (begins : Begins) (s : State) (b : Bytes) → now.key_pieces (reads_of begins) s b ≡ bytes_pieces begins s b
bytes_same begins s (Typed k) =
    ap (λ (ps : List Piece). if is_break s k then ps else []) (both _ _ _ _ (served_same begins s) (interrupted_same begins (settled_state s)))
bytes_same begins s (Ended bytes) = refl

all_same : (begins : Begins) (s : State) (bs : List Bytes) → flat_map (λ x. now.key_pieces (reads_of begins) x.0 x.1) (bytes_from s bs) ≡ all_bytes_pieces begins s bs
unfolding bytes_from all_bytes_pieces
all_same begins s [] = refl
all_same begins s (b ∷ bs) = both _ _ _ _ (bytes_same begins s b) (all_same begins (piece_taken s b) bs)

keys_same : (begins : Begins) (s : State) (ks : List Key) → flat_map (λ x. now.key_pieces (reads_of begins) x.0 x.1) (bytes_from s (map Typed ks)) ≡ keys_pieces begins s ks
unfolding bytes_from keys_pieces
keys_same begins s [] = refl
keys_same begins s (k ∷ ks) = both _ _ _ _ (bytes_same begins s (Typed k)) (keys_same begins (key_taken s k) ks)

flushed_same : (place : ℕ) (s : State) (g : Result Object Code)
    → (if is_ok g then (let d : Deed = record { taker = Flushed place; how = Emptied } in (d, s.records)) ∷ [] else []) ≡ flushed_pieces place s g
flushed_same place s (Err why) = refl
flushed_same place s (Ok o) = refl

-- ctrl+C to all can be sent
sent : (s : State) (event group : ℕ) → ((event == 0) && (group == 0)) ≡ true → is_no_signal s.procs event group ≡ false
sent s event group e = let is : event ≡ 0 = first (event == 0) (group == 0) refl e in rw is refl
  where
    first : (a b : Bool) → (event == 0) ≡ a → (a && b) ≡ true → event ≡ 0
    first true b t e = grind (arith, nat_tests)
    first false b t e = absurd (cc)

signal_same : (begins : Begins) (s : State) (event group : ℕ)
    → (if not s.closed && ((event == 0) && (group == 0)) then now.interrupted (reads_of begins) s else []) ≡ signal_pieces begins s event group
signal_same begins s event group =
    ap (λ (ps : List Piece). if not s.closed && ((event == 0) && (group == 0)) then ps else []) (interrupted_same begins s)
    ∙ by s.closed (is_no_signal s.procs event group) ((event == 0) && (group == 0)) (sent s event group) (interrupted begins s.reads)
  where
    by : (c n b : Bool) → (b ≡ true → n ≡ false) → (ps : List Piece) → (if not c && b then ps else []) ≡ (if c then [] else if n then [] else if b then ps else [])
    by true n b h ps = refl
    by false true true h ps = let f : true ≡ false = h refl in absurd (cc)
    by false true false h ps = refl
    by false false b h ps = refl

calls_same : (begins : Begins) (place : ℕ) (s : State) (p : ℕ) (c : Call) → event_pieces (reads_of begins) place s p (events.Call c) ≡ call_pieces begins place s p c
unfolding event_pieces bytes_of
calls_same begins place s p (calls.Flush h) = flushed_same place s (guard s p h kind.Input 2)
calls_same begins place s p (calls.Signal event group) = signal_same begins s event group
calls_same begins place s p c = refl

effects_same : (begins : Begins) (place : ℕ) (s : State) (p : ℕ) (e : Event) → event_pieces (reads_of begins) place s p e ≡ effect_pieces begins place s p e
unfolding event_pieces bytes_of fed_pieces
effects_same begins place s p (events.Call c) = calls_same begins place s p c
effects_same begins place s p (events.Feed bytes) = let parts = split_after piece_grammar s.held bytes in all_same begins (record s { held = parts.tail }) parts.items
effects_same begins place s p events.Quiet = keys_same begins (record s { held = [] }) (quieted s.held)
effects_same begins place s p events.Hangup = hung_same begins s
effects_same begins place s p e = refl

end_same : (begins : Begins) (t : State) → now.end_pieces (reads_of begins) t (settled_state t) ≡ end_pieces begins t
unfolding closing_pieces
end_same begins t = let u = settled_state t in
    both _ _ _ _ (served_same begins t) (ap (λ (ps : List Piece). if u.drained && all_wait u.reads (ids_of u.procs) then ps else []) (hung_same begins u))

step_same : (begins : Begins) (place : ℕ) (s : State) (x : Entry) → pieces_at (reads_of begins) place s x ≡ step_pieces begins place s x
unfolding pieces_at step_pieces
step_same begins place s x =
    ap (λ (ps : List Piece). if is_outside s x.actor x.event then [] else ps)
    (both _ _ _ _ (effects_same begins place s (client_of x.actor) x.event) (end_same begins (effect s (client_of x.actor) x.event).after))

from_same : (begins : Begins) (place : ℕ) (s : State) (h : List Entry) → pieces_on (reads_of begins) place s h ≡ pieces_from begins place s h
unfolding pieces_on
from_same begins place s [] = refl
from_same begins place s (x ∷ xs) =
    let b : Begins = begins_after begins place s x in
    ap (λ (w : ℕ → Taker). pieces_at w place s x ++ pieces_on w (place + 1) (moved s x) xs) (after_same begins place s x)
    ∙ both _ _ _ _ (step_same b place s x) (from_same b (place + 1) (moved s x) xs)

pub pieces_same : (s : State) (h : List Entry) → now.pieces s h ≡ pieces s h
pieces_same s h = ap (λ (w : ℕ → Taker). pieces_on w 0 s h) earlier ∙ from_same no_begins 0 s h

-- ---- fates

taker_at : (t : Taker) (rs : List Record) (more : List Taker) (k : ℕ) → slice_get (map (λ r. t) rs ++ more) k ≡ (if nat_lt k (length rs) then Some t else slice_get more (k - length rs))
taker_at t [] more k =
    let past : nat_lt k 0 ≡ false = grind (arith, nat_tests) in
    let same : k - 0 ≡ k = omega arith in
    rw (past, same) refl
taker_at t (r ∷ rs) more zero =
    let there : nat_lt 0 (suc (length rs)) ≡ true = grind (arith, nat_tests) in
    rw there refl
taker_at t (r ∷ rs) more (suc k) =
    let less : nat_lt (suc k) (suc (length rs)) ≡ nat_lt k (length rs) = less_same k (length rs) (nat_lt k (length rs)) refl in
    let same : suc k - suc (length rs) ≡ k - length rs = omega arith in
    rw (less, same) (taker_at t rs more k)
  where
    less_same : (k n : ℕ) (b : Bool) → nat_lt k n ≡ b → nat_lt (suc k) (suc n) ≡ b
    less_same k n true e = grind (arith, nat_tests)
    less_same k n false e = grind (arith, nat_tests)

abbrev takers_of : List Piece → List Taker
takers_of ps = flat_map (λ p. map (λ r. p.0.taker) p.1) ps

fates_at : (ps : List Piece) (k : ℕ) → slice_get (takers_of ps) k ≡ fate_in ps k
fates_at [] k = refl
fates_at (p ∷ ps) k =
    taker_at p.0.taker p.1 (takers_of ps) k
    ∙ ap (λ (o : Option Taker). if nat_lt k (length p.1) then Some p.0.taker else o) (fates_at ps (k - length p.1))

pub fate_same : (s : State) (h : List Entry) (k : ℕ) → now.fate s h k ≡ fate s h k
fate_same s h k = ap (λ (ps : List Piece). slice_get (takers_of ps) k) (pieces_same s h) ∙ fates_at (pieces s h) k

abbrev of_fate : Taker → List Record → List Taker → List Record
of_fate t rs ts = map (λ x. x.0) (filter (λ x. is_taker t x.1) (zip rs ts))

one_more : (b : Bool) (r : Record) (u : Taker) (more : List (Record × Taker)) (rs last : List Record) → map (λ x. x.0) more ≡ cond b rs [] ++ last
    → map (λ x. x.0) (cond b ((r, u) ∷ more) more) ≡ cond b (r ∷ rs) [] ++ last
one_more true r u more rs last e = ap (λ (xs : List Record). r ∷ xs) e
one_more false r u more rs last e = e

of_piece : (t u : Taker) (rs xs : List Record) (ts : List Taker) → of_fate t (rs ++ xs) (map (λ r. u) rs ++ ts) ≡ cond (is_taker t u) rs [] ++ of_fate t xs ts
of_piece t u [] xs ts = nothing (is_taker t u)
  where
    nothing : (b : Bool) → of_fate t xs ts ≡ cond b [] [] ++ of_fate t xs ts
    nothing true = refl
    nothing false = refl
of_piece t u (r ∷ rs) xs ts = one_more (is_taker t u) r u (filter (λ x. is_taker t x.1) (zip (rs ++ xs) (map (λ r. u) rs ++ ts))) rs (of_fate t xs ts) (of_piece t u rs xs ts)

none_behind : (t : Taker) (xs : List Record) → of_fate t xs [] ≡ []
none_behind t [] = refl
none_behind t (x ∷ xs) = refl

of_pieces : (t : Taker) (ps : List Piece) (rest : List Record) → of_fate t (joined ps ++ rest) (takers_of ps) ≡ joined (done_for t ps)
unfolding joined
of_pieces t [] rest = none_behind t rest
of_pieces t (p ∷ ps) rest =
    ap (λ (rs : List Record). of_fate t rs (takers_of (p ∷ ps))) (append_assoc p.1 (joined ps) rest)
    ∙ (of_piece t p.0.taker p.1 (joined ps ++ rest) (takers_of ps)
    ∙ (ap (λ (rs : List Record). cond (is_taker t p.0.taker) p.1 [] ++ rs) (of_pieces t ps rest) ∙ by (is_taker t p.0.taker)))
  where
    by : (b : Bool) → cond b p.1 [] ++ joined (done_for t ps) ≡ joined (cond b (p ∷ done_for t ps) (done_for t ps))
    by true = refl
    by false = refl

pub fated_same : (s : State) (h : List Entry) (t : Taker) (rest : List Record) → s.records ++ has_arrived s h ≡ joined (now.pieces s h) ++ rest
    → now.fated s h t ≡ joined (done_for t (now.pieces s h))
fated_same s h t rest e = ap (λ (rs : List Record). of_fate t rs (takers_of (now.pieces s h))) e ∙ of_pieces t (now.pieces s h) rest

-- ---- the last Begin

-- a Begin stands at its place
BeginsAt : ℕ → List Entry → Begin → Type 0
BeginsAt place h b = (k : ℕ) × (b.place ≡ place + k) × (option_map (λ x. x.event) (slice_get h k) ≡ Some (events.Begin b.wanted))

one_begun : (place : ℕ) (x : Entry) (xs : List Entry) (e : Event) (f : Bool) (o : Option Begin) (b : Begin) → x.event ≡ e
    → begin_or (if f then None else begin_at place e) o ≡ Some b → (o ≡ Some b) ⊎ BeginsAt place (x ∷ xs) b
unfolding BeginsAt
one_begun place x xs e true o b is at = inl at
one_begun place x xs (events.Begin w) false o b is at =
    let c : Begin = record { place = place; wanted = w } in
    let same : c ≡ b = ap (λ (o : Option Begin). option_map_or (λ z. z) o c) at in
    inr (0, (let p : place ≡ b.place = ap (λ (z : Begin). z.place) same in omega (arith, p)), ap (λ (z : Event). Some z) (is ∙ ap (λ (z : Begin). events.Begin z.wanted) same))
one_begun place x xs e false o b is at = inl at

entry_begun : (begins : Begins) (place : ℕ) (s : State) (x : Entry) (xs : List Entry) (p : ℕ) (b : Begin) → begins_after begins place s x p ≡ Some b
    → (begins p ≡ Some b) ⊎ BeginsAt place (x ∷ xs) b
entry_begun begins place s x xs p b at = by (p == client_of x.actor) at
  where
    by : (c : Bool) → (if c then begin_or (if is_fail (step s x.actor x.event).reply then None else begin_at place x.event) (begins p) else begins p) ≡ Some b
        → (begins p ≡ Some b) ⊎ BeginsAt place (x ∷ xs) b
    by true at = one_begun place x xs x.event (is_fail (step s x.actor x.event).reply) (begins p) b refl at
    by false at = inl at

later_begun : (place : ℕ) (x : Entry) (xs : List Entry) (b : Begin) → BeginsAt (place + 1) xs b → BeginsAt place (x ∷ xs) b
unfolding BeginsAt
later_begun place x xs b (k, is, at) = (suc k, omega (arith, is), at)

all_begun : (h : List Entry) (begins : Begins) (place : ℕ) (s : State) (p : ℕ) (b : Begin) → begins_from begins place s h p ≡ Some b
    → (begins p ≡ Some b) ⊎ BeginsAt place h b
all_begun [] begins place s p b at = inl at
all_begun (x ∷ xs) begins place s p b at =
    elim (all_begun xs (begins_after begins place s x) (place + 1) (moved s x) p b at) [
      | inl e ↦ entry_begun begins place s x xs p b e
      | inr e ↦ inr (later_begun place x xs b e)
    ]

abbrev place_of : Taker → ℕ → ℕ
place_of (Begun k) d = k
place_of _ d = d

abbrev wanted_of : Option Event → Wanted → Wanted
wanted_of (Some (events.Begin w)) d = w
wanted_of _ d = d

last_at : (s : State) (before : List Entry) (p place : ℕ) (w : Wanted) (o : Option Begin) → o ≡ last_begin s before p → read_of p o ≡ Begun place
    → option_map (λ x. x.event) (slice_get before place) ≡ Some (events.Begin w) → last_begin s before p ≡ Some (let b : Begin = record { place = place; wanted = w } in b)
unfolding BeginsAt
last_at s before p place w None is e at = absurd (cc)
last_at s before p place w (Some b) is e at =
    elim (all_begun before no_begins 0 s p b (sym is)) [
      | inl n ↦ absurd (let z : None ≡ Some b = n in cc)
      | inr (k, from, there) ↦
          (let placed : b.place ≡ place = ap (λ (t : Taker). place_of t place) e in
          let same : k ≡ place = omega (arith, from, placed) in
          let here : option_map (λ x. x.event) (slice_get before place) ≡ Some (events.Begin b.wanted) = subst (λ (i : ℕ). option_map (λ x. x.event) (slice_get before i) ≡ Some (events.Begin b.wanted)) same there in
          let wants : b.wanted ≡ w = ap (λ (o : Option Event). wanted_of o w) (sym here ∙ at) in
          sym is ∙ (λ i. Some (let c : Begin = record { place = placed i; wanted = wants i } in c)))
    ]

pub last_same : (s : State) (before : List Entry) (p place : ℕ) (w : Wanted) → readers_from Earlier 0 s before p ≡ Begun place
    → option_map (λ x. x.event) (slice_get before place) ≡ Some (events.Begin w) → last_begin s before p ≡ Some (let b : Begin = record { place = place; wanted = w } in b)
last_same s before p place w last at =
    last_at s before p place w (last_begin s before p) refl
    (sym (ap (λ (f : ℕ → Taker). f p) (ap (λ (f : ℕ → Taker). readers_from f 0 s before) earlier ∙ readers_same no_begins 0 s before)) ∙ last) at
