-- A read of records answers what it took, over every history.
use Rattle.std.proofs.Common.{◌≡◌, ◌==◌, ◌+◌, ◌<◌, ◌≤◌, ℕ, suc, Bool, true, false, List, [], ◌∷◌, ◌++◌, refl, ap, ◌∙◌, sym, subst, take, append-nil, append_assoc, Option, None, Some, slice_get, true≢false, arith, ◌⊎◌, inl, inr}
use Rattle.std.specs.Prelude.{if◌then◌else◌}
use Rattle.std.proofs.lemmas.Bool.{eqb-true, eq-eqb}
use Rattle.std.proofs.lemmas.Bool.Decides.{nat_tests}
use Rattle.con_units.specs.declared.code.Code.TheVariants as code
use Rattle.con_alias.specs.Aliases.{AliasList}
use Rattle.con_events.specs.declared.actor.Actor.TheVariants as actors
use Rattle.con_history.specs.Histories.{LineHistories}
use Rattle.con_events.specs.declared.entry.Entry.{Entry}
use Rattle.con_events.specs.declared.event.Event.TheVariants as events
use Rattle.con_events.specs.declared.event.Wanted.{Wanted}
use Rattle.con_events.specs.declared.event.Wanted.TheVariants as wanted
use Rattle.con_events.specs.declared.reply.Reply.{Reply}
use Rattle.con_procs.specs.Procs.{is_attached}
use Rattle.con_readers.specs.Pieces.{front, joined}
use Rattle.con_readers.specs.Words.Pieces.{pieces_of}
use Rattle.con_readers.specs.Serving.{is_done, served}
use Rattle.con_readers.specs.Wants.{units_of}
use Rattle.con_readers.specs.Reads.{settled, is_open, without, answer_in, answer_of, place_of, has_done}
use Rattle.con_readers.specs.Words.Reads.{done_in}
use Rattle.con_readers.specs.declared.answer.Answer.{Answer}
use Rattle.con_readers.specs.declared.answer.Answer.TheVariants as answers
use Rattle.con_readers.specs.declared.open.Open.{Open}
use Rattle.con_readers.specs.declared.open.OpenRead.{OpenRead}
use Rattle.con_readers.specs.declared.open.OpenRead.TheVariants as reads
use Rattle.con_records.specs.declared.record.Record.{Record}
use Rattle.con_machine.specs.State.{State, noted_of, without_noted}
use Rattle.con_machine.specs.Outcome.{Outcome}
use Rattle.con_machine.specs.Client.{is_fail}
use Rattle.con_machine.specs.History.{run}
use Rattle.con_machine.specs.Reads.{collected, answer_told}
use Rattle.con_machine.specs.Step.{effect, step, is_outside, client_of, finished}
use Rattle.con_laws.specs.Fates.{Taker, Begun, How, Served, Emptied, Interrupted, CutOff, Piece, is_taker, done_for}
use Rattle.con_laws.specs.Walks.{Begin, Begins, no_begins, begin_at, begins_after, begins_from, last_begin, read_of, wants_records, end_pieces, step_pieces, pieces_from, pieces, fate, fated, records_with, AnswersRecords}
use Rattle.con_laws.specs.Words.Answers.{opens}
use Rattle.con_laws.specs.AnswerWalks.{console_before, by_how, read_after}
use Rattle.con_laws.proofs.FateLists.{log, log-append, log_none, taken, fated_taken}
use Rattle.con_laws.proofs.Conserved.{WholeReads, conserved}
use Rattle.con_laws.proofs.Served.{UnitsPiece, IsProper, TakesAll}
use Rattle.con_laws.proofs.Mine.{Apart, own, Fits, Right, Mine, Becomes, Found, becomes_on, proper_after, done_rest, begun_mine, begun_open, beside_mine, found_mine, gone_mine}
use Rattle.con_laws.proofs.Takes.{is_flush, Goes, Misses, ends_goes, collected_reads}
use Rattle.con_machine.specs.declared.reads.noted.Noted.{Noted}
use Rattle.con_laws.proofs.Entries.{IsBegun, opens_note, after_begin, now_same, begin_of, EntryGoes, Cases, each_entry}

-- ---- what is known of the open reads and of what was done for them

-- the consoles before the entries of a history, by their places
unfoldable pub At : (ℕ → State) → ℕ → State → List Entry → Type 0
At at place s [] = Unit {0}
At at place s (x ∷ xs) = (at place ≡ s) × At at (place + 1) (step s x.actor x.event).after xs

-- the process's read is what its last Begin opened, after what was done for it
pub record MineBy (at : ℕ → State) (p : ℕ) (b : Begin) (ps : List Piece) (os : List Open) : Type 0 where
  pub proper : IsProper (opens (at b.place) p b.wanted)
  pub becomes : Becomes p (opens (at b.place) p b.wanted) (log (Begun b.place) ps) os

pub record Known (at : ℕ → State) (begins : Begins) (place : ℕ) (ps : List Piece) (s : State) : Type 0 where
  pub sure : Apart begins
  pub below : (p : ℕ) (b : Begin) → begins p ≡ Some b → b.place < place
  pub mine : (p : ℕ) (b : Begin) → begins p ≡ Some b → MineBy at p b ps s.reads
  pub fresh : (n : ℕ) → place ≤ n → log (Begun n) ps ≡ []

above : (n place q : ℕ) (o : Option Begin) → ((b : Begin) → o ≡ Some b → b.place < place) → place ≤ n → is_taker (Begun n) (read_of q o) ≡ false
above n place q None below le = refl
above n place q (Some b) below le = let lt : b.place < place = below b refl in grind (arith, nat_tests)

pub own_is : (begins : Begins) (p : ℕ) (b : Begin) (ps : List Piece) → begins p ≡ Some b → own begins p ps ≡ log (Begun b.place) ps
unfolding own
own_is begins p b ps e = ap (λ (o : Option Begin). log (read_of p o) ps) e

mine_on : (at : ℕ → State) (now : Begins) (p : ℕ) (b : Begin) (ps qs : List Piece) (s t : State) → now p ≡ Some b → MineBy at p b ps s.reads → Goes now s qs t → MineBy at p b (ps ++ qs) t.reads
unfolding Becomes
mine_on at now p b ps qs s t e mine goes =
    let r : OpenRead = opens (at b.place) p b.wanted in
    let before : List Piece = log (Begun b.place) ps in
    let more = goes.read p (read_after p r before) (proper_after p r before mine.proper) mine.becomes.1 in
    record {
      proper = mine.proper;
      becomes = subst (λ (xs : List Piece). Becomes p r xs t.reads) (sym (log-append (Begun b.place) ps qs))
          (becomes_on p r before (log (Begun b.place) qs) t.reads mine.becomes.0 (subst (λ (xs : List Piece). Becomes p (read_after p r before) xs t.reads) (own_is now p b qs e) more));
    }

-- what pieces leave known
known_then : (at : ℕ → State) (now : Begins) (place : ℕ) (ps qs : List Piece) (s t : State) → Apart now → ((p : ℕ) (b : Begin) → now p ≡ Some b → b.place < place + 1) → ((p : ℕ) (b : Begin) → now p ≡ Some b → MineBy at p b ps s.reads)
    → ((n : ℕ) → place ≤ n → log (Begun n) ps ≡ []) → Goes now s qs t → Known at now (place + 1) (ps ++ qs) t
unfolding Misses is_flush
known_then at now place ps qs s t sure below mine fresh goes = record {
  sure = sure;
  below = below;
  mine = λ p b e. mine_on at now p b ps qs s t e (mine p b e) goes;
  fresh = λ n le. (let less : place ≤ n = omega (arith, le) in log-append (Begun n) ps qs ∙ ap (λ (x : List Piece). x ++ log (Begun n) qs) (fresh n less) ∙ goes.miss (Begun n) (λ q. above n (place + 1) q (now q) (below q) le) refl);
}

pub known_apart : (at : ℕ → State) (begins : Begins) (c place : ℕ) (ps : List Piece) (s : State) → Known at begins place ps s → Apart (after_begin None c begins)
known_apart at begins c place ps s k = record { apart = λ p q b d hb hd e. k.sure.apart p q b d (sym (now_same begins c p) ∙ hb) (sym (now_same begins c q) ∙ hd) e }

known_same : (at : ℕ → State) (begins : Begins) (c place : ℕ) (ps qs : List Piece) (s t : State) → Known at begins place ps s → Goes (after_begin None c begins) s qs t → Known at (after_begin None c begins) (place + 1) (ps ++ qs) t
known_same at begins c place ps qs s t k goes =
    known_then at (after_begin None c begins) place ps qs s t (known_apart at begins c place ps s k)
    (λ p b h. let lt : b.place < place = k.below p b (sym (now_same begins c p) ∙ h) in omega (arith, lt))
    (λ p b h. k.mine p b (sym (now_same begins c p) ∙ h)) k.fresh goes

pub turned : (c p : ℕ) → (p == c) ≡ false → (c == p) ≡ false
turned c p e = by (c == p) refl
  where
    by : (b : Bool) → (c == p) ≡ b → b ≡ false
    by false h = refl
    by true h = absurd (true≢false (sym (eq-eqb p c (sym (eqb-true c p h))) ∙ e))

pub some_is : (a b : Begin) → Some a ≡ Some b → a ≡ b
some_is a b h = cc

place_or : Option Begin → ℕ
place_or None = 0
place_or (Some b) = b.place

new_apart : (begins : Begins) (c place : ℕ) (new b d : Begin) (p q : ℕ) (x y : Bool) → new.place ≡ place → Apart begins → ((p : ℕ) (b : Begin) → begins p ≡ Some b → b.place < place) → (p == c) ≡ x → (q == c) ≡ y
    → (if x then Some new else begins p) ≡ Some b → (if y then Some new else begins q) ≡ Some d → (d.place == b.place) ≡ true → q ≡ p
unfolding place_or
new_apart begins c place new b d p q true true at sure below ex ey hb hd e = eqb-true q c ey ∙ sym (eqb-true p c ex)
new_apart begins c place new b d p q true false at sure below ex ey hb hd e =
    let lt : d.place < place = below q d hd in let same : d.place ≡ b.place = eqb-true d.place b.place e in let is : new.place ≡ b.place = ap place_or hb in absurd (omega (arith, lt, same, is, at))
new_apart begins c place new b d p q false true at sure below ex ey hb hd e =
    let lt : b.place < place = below p b hb in let same : d.place ≡ b.place = eqb-true d.place b.place e in let is : new.place ≡ d.place = ap place_or hd in absurd (omega (arith, lt, same, is, at))
new_apart begins c place new b d p q false false at sure below ex ey hb hd e = sure.apart p q b d hb hd e

new_below : (begins : Begins) (c place : ℕ) (new b : Begin) (p : ℕ) (x : Bool) → new.place ≡ place → ((p : ℕ) (b : Begin) → begins p ≡ Some b → b.place < place) → (if x then Some new else begins p) ≡ Some b → b.place < place + 1
unfolding place_or
new_below begins c place new b p true at below hb = let is : new.place ≡ b.place = ap place_or hb in omega (arith, is, at)
new_below begins c place new b p false at below hb = let lt : b.place < place = below p b hb in omega (arith, lt)

new_mine : (at : ℕ → State) (begins : Begins) (c place : ℕ) (w : Wanted) (ps : List Piece) (s t : State) (p : ℕ) (b : Begin) (x : Bool) → (p == c) ≡ x → at place ≡ s → Known at begins place ps s → IsBegun s c (opens s c w) (opens_note s c w) t
    → (if x then Some (begin_of place w) else begins p) ≡ Some b → MineBy at p b ps t.reads
unfolding begin_of Becomes Right
new_mine at begins c place w ps s t p b true ex here k is h =
    let new : Begin = record { place = place; wanted = w } in
    let now : log (Begun place) ps ≡ [] = k.fresh place (omega arith) in
    let mine : Mine c (opens s c w) t.reads = subst (λ (os : List Open). Mine c (opens s c w) os) (sym is.reads) (begun_mine s.reads c (opens s c w) is.none) in
    let by : MineBy at c new ps t.reads = record {
      proper = subst (λ (u : State). IsProper (opens u c w)) (sym here) is.proper;
      becomes = subst (λ (xs : List Piece). Becomes c (opens (at place) c w) xs t.reads) (sym now) (tt, subst (λ (u : State). Mine c (opens u c w) t.reads) (sym here) mine);
    } in
    subst (λ (d : Begin). MineBy at p d ps t.reads) (some_is new b h) (subst (λ (q : ℕ). MineBy at q new ps t.reads) (sym (eqb-true p c ex)) by)
new_mine at begins c place w ps s t p b false ex here k is h =
    let old : MineBy at p b ps s.reads = k.mine p b h in
    let r : OpenRead = opens (at b.place) p b.wanted in
    record {
      proper = old.proper;
      becomes = (old.becomes.0, subst (λ (os : List Open). Mine p (read_after p r (log (Begun b.place) ps)) os) (sym is.reads) (beside_mine s.reads p c (opens s c w) (read_after p r (log (Begun b.place) ps)) (turned c p ex) old.becomes.1));
    }

pub known_apart_new : (at : ℕ → State) (begins : Begins) (c place : ℕ) (w : Wanted) (ps : List Piece) (s : State) → Known at begins place ps s → Apart (after_begin (Some (begin_of place w)) c begins)
unfolding after_begin begin_of
known_apart_new at begins c place w ps s k = record { apart = λ p q b d hb hd e. new_apart begins c place (record { place = place; wanted = w }) b d p q (p == c) (q == c) refl k.sure k.below refl refl hb hd e }

known_begun : (at : ℕ → State) (begins : Begins) (c place : ℕ) (w : Wanted) (ps qs : List Piece) (s t u : State) → at place ≡ s → Known at begins place ps s → IsBegun s c (opens s c w) (opens_note s c w) t → Goes (after_begin (Some (begin_of place w)) c begins) t qs u
    → Known at (after_begin (Some (begin_of place w)) c begins) (place + 1) (ps ++ qs) u
unfolding after_begin begin_of
known_begun at begins c place w ps qs s t u here k is goes =
    known_then at (after_begin (Some (begin_of place w)) c begins) place ps qs t u (known_apart_new at begins c place w ps s k)
    (λ p b h. new_below begins c place (record { place = place; wanted = w }) b p (p == c) refl k.below h)
    (λ p b h. new_mine at begins c place w ps s t p b (p == c) refl here k is h) k.fresh goes

-- ---- one entry

After : (ℕ → State) → Begins → ℕ → List Piece → State → Entry → Option Begin → Type 0
After at begins place ps s x m = Known at (after_begin m (client_of x.actor) begins) (place + 1) (ps ++ step_pieces (after_begin m (client_of x.actor) begins) place s x) (step s x.actor x.event).after

known_cases : (at : ℕ → State) (begins : Begins) (place : ℕ) (ps : List Piece) (s : State) (x : Entry) → at place ≡ s → Known at begins place ps s → Cases begins place s x (After at begins place ps s x)
unfolding After EntryGoes
known_cases at begins place ps s x here k =
    let c : ℕ = client_of x.actor in
    record {
      sure = known_apart at begins c place ps s k;
      sure_new = λ w. known_apart_new at begins c place w ps s k;
      none = λ goes. known_same at begins c place ps (step_pieces (after_begin None c begins) place s x) s (step s x.actor x.event).after k goes;
      new = λ w t is goes. known_begun at begins c place w ps (step_pieces (after_begin (Some (begin_of place w)) c begins) place s x) s t (step s x.actor x.event).after here k is goes;
    }

pub step_known : UnitsPiece → (at : ℕ → State) (begins : Begins) (place : ℕ) (ps : List Piece) (s : State) (x : Entry) → at place ≡ s → Known at begins place ps s
    → Known at (begins_after begins place s x) (place + 1) (ps ++ step_pieces (begins_after begins place s x) place s x) (step s x.actor x.event).after
unfolding After after_begin
step_known w at begins place ps s x here k = each_entry w begins place s x (After at begins place ps s x) (known_cases at begins place ps s x here k)

-- ---- a history

pub place_after : ℕ → List Entry → ℕ
place_after place [] = place
place_after place (x ∷ xs) = place_after (place + 1) xs

pub known_all : UnitsPiece → (at : ℕ → State) (h : List Entry) (begins : Begins) (place : ℕ) (ps : List Piece) (s : State) → At at place s h → Known at begins place ps s
    → Known at (begins_from begins place s h) (place_after place h) (ps ++ pieces_from begins place s h) (run s h)
unfolding place_after At
known_all w at [] begins place ps s here k = subst (λ (xs : List Piece). Known at begins place xs s) (sym (append-nil ps)) k
known_all w at (x ∷ xs) begins place ps s here k =
    let now : Begins = begins_after begins place s x in
    let t : State = (step s x.actor x.event).after in
    subst (λ (ys : List Piece). Known at (begins_from now (place + 1) t xs) (place_after (place + 1) xs) ys (run t xs)) (append_assoc ps (step_pieces now place s x) (pieces_from now (place + 1) t xs))
    (known_all w at xs now (place + 1) (ps ++ step_pieces now place s x) t here.1 (step_known w at begins place ps s x here.0 k))

-- the consoles before the entries, by the beginnings of the history
at_run : (at : ℕ → State) (h : List Entry) (place : ℕ) (s : State) → ((k : ℕ) → at (place + k) ≡ run s (take k h)) → At at place s h
unfolding At
at_run at [] place s is = tt
at_run at (x ∷ xs) place s is =
    let here : place + 0 ≡ place = omega arith in
    (ap at (sym here) ∙ is 0, at_run at xs (place + 1) (step s x.actor x.event).after (λ k. let on : place + 1 + k ≡ place + suc k = omega arith in ap at on ∙ is (suc k)))

pub pieces-append : (h g : List Entry) (begins : Begins) (place : ℕ) (s : State) → pieces_from begins place s (h ++ g) ≡ pieces_from begins place s h ++ pieces_from (begins_from begins place s h) (place_after place h) (run s h) g
unfolding place_after
pieces-append [] g begins place s = refl
pieces-append (x ∷ xs) g begins place s =
    let now : Begins = begins_after begins place s x in
    let t : State = (step s x.actor x.event).after in
    ap (λ (ps : List Piece). step_pieces now place s x ++ ps) (pieces-append xs g now (place + 1) t)
    ∙ sym (append_assoc (step_pieces now place s x) (pieces_from now (place + 1) t xs) (pieces_from (begins_from now (place + 1) t xs) (place_after (place + 1) xs) (run t xs) g))

pub known_first : (at : ℕ → State) (s : State) → Known at no_begins 0 [] s
known_first at s = record {
  sure = record { apart = λ p q b d hb hd e. (let no : None ≡ Some b = hb in cc) };
  below = λ p b hb. (let no : None ≡ Some b = hb in cc);
  mine = λ p b hb. absurd (let no : None ≡ Some b = hb in cc);
  fresh = λ n le. log_none (Begun n);
}

-- ---- a read that is gone takes no more

-- of the Begin at place B, by process p: it is p's last one, and p has no open read; or it is nobody's last one
Gone : Begins → ℕ → ℕ → State → Type 0
Gone begins B p s = ((b : Begin) × ((begins p ≡ Some b) × (b.place ≡ B) × (is_open s.reads p ≡ false))) ⊎ Misses begins (Begun B)

-- after an entry it is so, and that entry took nothing for it
Rests : Begins → ℕ → State → Entry → ℕ → ℕ → Option Begin → Type 0
Rests begins place s x B p m = (let now : Begins = after_begin m (client_of x.actor) begins in Gone now B p (step s x.actor x.event).after × (log (Begun B) (step_pieces now place s x) ≡ []))

none_rests : (begins : Begins) (c B p : ℕ) (qs : List Piece) (s t : State) → Gone begins B p s → Goes (after_begin None c begins) s qs t → Gone (after_begin None c begins) B p t × (log (Begun B) qs ≡ [])
unfolding Gone Misses is_flush own
none_rests begins c B p qs s t (inl g) goes =
    let now : Begins = after_begin None c begins in
    let last : now p ≡ Some g.0 = now_same begins c p ∙ g.1.0 in
    let r = goes.none p g.1.2 in
    let mine : read_of p (now p) ≡ Begun B = ap (read_of p) last ∙ ap (λ (n : ℕ). Begun n) g.1.1 in
    (inl (g.0, (last, g.1.1, r.0)), ap (λ (u : Taker). log u qs) (sym mine) ∙ r.1)
none_rests begins c B p qs s t (inr g) goes =
    let misses : (q : ℕ) → is_taker (Begun B) (read_of q (after_begin None c begins q)) ≡ false = λ q. ap (λ (o : Option Begin). is_taker (Begun B) (read_of q o)) (now_same begins c q) ∙ g q in
    (inr misses, goes.miss (Begun B) misses refl)

new_misses : (begins : Begins) (c place B q : ℕ) (w : Wanted) (x : Bool) → (q == c) ≡ x → B < place → (x ≡ false → is_taker (Begun B) (read_of q (begins q)) ≡ false) → is_taker (Begun B) (read_of q (if x then Some (begin_of place w) else begins q)) ≡ false
unfolding begin_of
new_misses begins c place B q w true e lt old = grind (arith, nat_tests)
new_misses begins c place B q w false e lt old = old refl

-- another process's last Begin stands elsewhere
old_misses : (begins : Begins) (B p q : ℕ) (b : Begin) (o : Option Begin) → Apart begins → begins p ≡ Some b → b.place ≡ B → begins q ≡ o → (q == p) ≡ false → is_taker (Begun B) (read_of q o) ≡ false
old_misses begins B p q b None sure last at is other = refl
old_misses begins B p q b (Some d) sure last at is other = by (d.place == B) refl
  where
    by : (t : Bool) → (d.place == B) ≡ t → t ≡ false
    by false e = refl
    by true e = absurd (true≢false (sym (eq-eqb q p (sure.apart p q b d last is (eq-eqb d.place b.place (eqb-true d.place B e ∙ sym at)))) ∙ other))

new_rests : (begins : Begins) (c place B p : ℕ) (w : Wanted) (qs : List Piece) (s t u : State) (x : Bool) → (p == c) ≡ x → Apart begins → B < place → Gone begins B p s → IsBegun s c (opens s c w) (opens_note s c w) t → Goes (after_begin (Some (begin_of place w)) c begins) t qs u
    → Gone (after_begin (Some (begin_of place w)) c begins) B p u × (log (Begun B) qs ≡ [])
unfolding Gone Misses is_flush after_begin own
new_rests begins c place B p w qs s t u x e sure lt (inr g) is goes =
    let misses : (q : ℕ) → is_taker (Begun B) (read_of q (after_begin (Some (begin_of place w)) c begins q)) ≡ false = λ q. new_misses begins c place B q w (q == c) refl lt (λ n. g q) in
    (inr misses, goes.miss (Begun B) misses refl)
new_rests begins c place B p w qs s t u true e sure lt (inl g) is goes =
    let misses : (q : ℕ) → is_taker (Begun B) (read_of q (after_begin (Some (begin_of place w)) c begins q)) ≡ false =
    λ q. new_misses begins c place B q w (q == c) refl lt (λ n. old_misses begins B p q g.0 (begins q) sure g.1.0 g.1.1 refl (ap (λ (k : ℕ). q == k) (eqb-true p c e) ∙ n)) in
    (inr misses, goes.miss (Begun B) misses refl)
new_rests begins c place B p w qs s t u false e sure lt (inl g) is goes =
    let now : Begins = after_begin (Some (begin_of place w)) c begins in
    let last : now p ≡ Some g.0 = ap (λ (b : Bool). if b then Some (begin_of place w) else begins p) e ∙ g.1.0 in
    let without_one : is_open t.reads p ≡ false = ap (λ (os : List Open). is_open os p) is.reads ∙ begun_open s.reads p c (opens s c w) (turned c p e) g.1.2 in
    let r = goes.none p without_one in
    let mine : read_of p (now p) ≡ Begun B = ap (read_of p) last ∙ ap (λ (n : ℕ). Begun n) g.1.1 in
    (inl (g.0, (last, g.1.1, r.0)), ap (λ (v : Taker). log v qs) (sym mine) ∙ r.1)

rest_cases : (at : ℕ → State) (begins : Begins) (place : ℕ) (ps : List Piece) (s : State) (x : Entry) (B p : ℕ) → Known at begins place ps s → B < place → Gone begins B p s → Cases begins place s x (Rests begins place s x B p)
unfolding Rests EntryGoes
rest_cases at begins place ps s x B p k lt gone =
    let c : ℕ = client_of x.actor in
    record {
      sure = known_apart at begins c place ps s k;
      sure_new = λ w. known_apart_new at begins c place w ps s k;
      none = λ goes. none_rests begins c B p (step_pieces (after_begin None c begins) place s x) s (step s x.actor x.event).after gone goes;
      new = λ w t is goes. new_rests begins c place B p w (step_pieces (after_begin (Some (begin_of place w)) c begins) place s x) s t (step s x.actor x.event).after (p == c) refl k.sure lt gone is goes;
    }

step_rests : UnitsPiece → (at : ℕ → State) (begins : Begins) (place : ℕ) (ps : List Piece) (s : State) (x : Entry) (B p : ℕ) → Known at begins place ps s → B < place → Gone begins B p s
    → Gone (begins_after begins place s x) B p (step s x.actor x.event).after × (log (Begun B) (step_pieces (begins_after begins place s x) place s x) ≡ [])
unfolding Rests after_begin
step_rests w at begins place ps s x B p k lt gone = each_entry w begins place s x (Rests begins place s x B p) (rest_cases at begins place ps s x B p k lt gone)

none_more : UnitsPiece → (at : ℕ → State) (h : List Entry) (begins : Begins) (place : ℕ) (ps : List Piece) (s : State) (B p : ℕ) → At at place s h → Known at begins place ps s → B < place → Gone begins B p s → log (Begun B) (pieces_from begins place s h) ≡ []
unfolding At
none_more w at [] begins place ps s B p here k lt gone = log_none (Begun B)
none_more w at (x ∷ xs) begins place ps s B p here k lt gone =
    let now : Begins = begins_after begins place s x in
    let t : State = (step s x.actor x.event).after in
    let r = step_rests w at begins place ps s x B p k lt gone in
    let later : log (Begun B) (pieces_from now (place + 1) t xs) ≡ [] = none_more w at xs now (place + 1) (ps ++ step_pieces now place s x) t B p here.1 (step_known w at begins place ps s x here.0 k) (omega (arith, lt)) r.0 in
    log-append (Begun B) (step_pieces now place s x) (pieces_from now (place + 1) t xs) ∙ ap (λ (rs : List Piece). rs ++ log (Begun B) (pieces_from now (place + 1) t xs)) r.1 ∙ later

-- ---- what is collected

unfoldable pub Told : Answer → List Record → Type 0
Told a t = (a ≡ answers.Records t) ⊎ ((a ≡ answers.Fail code.Closed) × (t ≡ []))

records_in : (n : ℕ) (rs : List Record) (p : ℕ) (how : How) (xs : List Piece) → ((p n : ℕ) (ys : List Piece) → Right p (reads.Records n) ys → is_done (read_after p (reads.Records n) ys) ≡ true → xs ≡ ys → Told (answer_of (read_after p (reads.Records n) ys)) (joined ys))
    → Fits p (reads.Records n) how rs → Right p (by_how p (reads.Records n) how rs) xs → is_done (read_after p (by_how p (reads.Records n) how rs) xs) ≡ true → Told (answer_of (read_after p (by_how p (reads.Records n) how rs) xs)) (rs ++ joined xs)
unfolding Fits Told TakesAll served joined
records_in n [] p (Served hs al) xs ih fits right d = ih p n xs right d refl
records_in n (r ∷ rs) p (Served hs al) xs ih fits right d =
    let none : xs ≡ [] = done_rest p (reads.Done (answers.Records (take n (r ∷ rs)))) xs refl right in
    rw none (inl (ap (λ (ys : List Record). answers.Records ys) (fits.1 ∙ sym (append-nil (r ∷ rs)))))
records_in n rs p Emptied xs ih fits right d = absurd fits
records_in n rs p Interrupted xs ih fits right d = absurd (true≢false (sym fits.0))
records_in n rs p CutOff xs ih fits right d =
    let none : xs ≡ [] = done_rest p (reads.Done (answers.Fail code.Closed)) xs refl right in
    rw none (inr (refl, ap (λ (ys : List Record). ys ++ []) fits.1))

-- a read of records that is done answers all that it took, or that the console closed before it took one
pub records_told : (p n : ℕ) (xs : List Piece) → Right p (reads.Records n) xs → is_done (read_after p (reads.Records n) xs) ≡ true → Told (answer_of (read_after p (reads.Records n) xs)) (joined xs)
unfolding Right joined
records_told p n [] right d = absurd (true≢false (sym d))
records_told p n (x ∷ xs) right d = records_in n x.1 p x.0.how xs (λ q m ys r e is. subst (λ (zs : List Piece). Told (answer_of (read_after q (reads.Records m) zs)) (joined zs)) is (records_told q m xs (subst (λ (zs : List Piece). Right q (reads.Records m) zs) (sym is) r) (subst (λ (zs : List Piece). is_done (read_after q (reads.Records m) zs) ≡ true) (sym is) e))) right.0 right.1 d

-- the read that is found is done, so it is what its process's read became
found_done : (r : OpenRead) (o : Option Open) → Found r o → done_in o ≡ true → (is_done r ≡ true) × (answer_in o ≡ answer_of r)
unfolding Found
found_done r None found d = absurd (true≢false (sym d))
found_done r (Some o) found d = (ap is_done (sym found) ∙ d, ap answer_of found)

answer_records : (s : State) (n : Option Noted) (a : Answer) (t : List Record) → Told a t → AnswersRecords (answer_told s n a).reply t
unfolding Told
answer_records s n a t (inl h) = inl (ap (λ (x : Answer). (answer_told s n x).reply) h)
answer_records s n a t (inr h) = inr (ap (λ (x : Answer). (answer_told s n x).reply) h.0, h.1)

-- what the process's read became is what is collected
pub collected_is : (s : State) (p : ℕ) (r : OpenRead) → Mine p r s.reads → has_done s.reads p ≡ true
    → (is_done r ≡ true) × ((collected s p).reply ≡ (answer_told (record s { reads = without s.reads p; noted = without_noted s.noted p }) (noted_of s.noted p) (answer_of r)).reply)
unfolding collected
collected_is s p r mine done =
    let is = found_done r (slice_get s.reads (place_of s.reads p)) (found_mine s.reads p r mine) done in
    (is.0, ap (λ (a : Answer). (answer_told (record s { reads = without s.reads p; noted = without_noted s.noted p }) (noted_of s.noted p) a).reply) is.1)

collected_records : (s : State) (p n : ℕ) (xs : List Piece) → Becomes p (reads.Records n) xs s.reads → has_done s.reads p ≡ true → AnswersRecords (collected s p).reply (joined xs)
unfolding Becomes
collected_records s p n xs becomes done =
    let is = collected_is s p (read_after p (reads.Records n) xs) becomes.1 done in
    subst (λ (r : Reply). AnswersRecords r (joined xs)) (sym is.1) (answer_records (record s { reads = without s.reads p; noted = without_noted s.noted p }) (noted_of s.noted p) (answer_of (read_after p (reads.Records n) xs)) (joined xs) (records_told p n xs becomes.0 is.0))

attached_inside : (s : State) (p : ℕ) → is_attached s.procs p ≡ true → is_outside s (actors.Client p) events.Collect ≡ false
attached_inside s p h = rw h refl

pub collect_reply : (s : State) (p : ℕ) → is_attached s.procs p ≡ true → (step s (actors.Client p) events.Collect).reply ≡ (collected s p).reply
unfolding step effect
collect_reply s p h = rw (attached_inside s p h) refl

fated_is : WholeReads → (s : State) (h : List Entry) (t : Taker) → fated s h t ≡ taken t (pieces s h)
unfolding WholeReads
fated_is w s h t = ap (λ (rs : List Record). records_with (fate s h) t 0 rs) (conserved w s h) ∙ fated_taken t (pieces s h) (run s h).records

unfoldable pub collect_by : ℕ → Entry
collect_by p = record { actor = actors.Client p; event = events.Collect }

collect_pieces : (now : Begins) (place : ℕ) (s : State) (p : ℕ) → is_attached s.procs p ≡ true → step_pieces now place s (collect_by p) ≡ end_pieces now (collected s p).after
unfolding step_pieces effect collect_by
collect_pieces now place s p h = rw (attached_inside s p h) refl

collect_after : (s : State) (p : ℕ) → is_attached s.procs p ≡ true → (step s (actors.Client p) events.Collect).after ≡ (finished (collected s p)).after
unfolding step effect
collect_after s p h = rw (attached_inside s p h) refl

no_begin : (place p : ℕ) (b : Bool) → (if b then None else begin_at place events.Collect) ≡ None
no_begin place p true = refl
no_begin place p false = refl

-- once it is collected it is gone
collect_rests : UnitsPiece → (at : ℕ → State) (begins : Begins) (place : ℕ) (ps : List Piece) (s : State) (p : ℕ) (b : Begin) → Known at begins place ps s → begins p ≡ Some b → is_attached s.procs p ≡ true → Rests begins place s (collect_by p) b.place p None
unfolding Rests Gone collect_by own Becomes
collect_rests w at begins place ps s p b k last attached =
    let now : Begins = after_begin None p begins in
    let o : Outcome = collected s p in
    let goes = ends_goes w now (known_apart at begins p place ps s k) o in
    let is : now p ≡ Some b = now_same begins p p ∙ last in
    let mine = k.mine p b last in
    let r = goes.none p (ap (λ (os : List Open). is_open os p) (collected_reads s p) ∙ gone_mine s.reads p (read_after p (opens (at b.place) p b.wanted) (log (Begun b.place) ps)) mine.becomes.1) in
    let without_one : is_open (step s (actors.Client p) events.Collect).after.reads p ≡ false = ap (λ (t : State). is_open t.reads p) (collect_after s p attached) ∙ r.0 in
    (inl (b, (is, refl, without_one)), ap (log (Begun b.place)) (collect_pieces now place s p attached) ∙ ap (λ (u : Taker). log u (end_pieces now o.after)) (sym (ap (read_of p) is)) ∙ r.1)

collect_gone : UnitsPiece → (at : ℕ → State) (begins : Begins) (place : ℕ) (ps : List Piece) (s : State) (p : ℕ) (b : Begin) → Known at begins place ps s → begins p ≡ Some b → is_attached s.procs p ≡ true
    → (let x : Entry = collect_by p in Gone (begins_after begins place s x) b.place p (step s x.actor x.event).after × (log (Begun b.place) (step_pieces (begins_after begins place s x) place s x) ≡ []))
unfolding Rests after_begin collect_by
collect_gone w at begins place ps s p b k last attached =
    subst (Rests begins place s (collect_by p) b.place p) (sym (no_begin place p (is_fail (step s (actors.Client p) events.Collect).reply))) (collect_rests w at begins place ps s p b k last attached)

-- so all that was done for it was done before
none_later : UnitsPiece → (at : ℕ → State) (begins : Begins) (place : ℕ) (ps : List Piece) (s : State) (later : List Entry) (p : ℕ) (b : Begin) → At at place s (collect_by p ∷ later) → Known at begins place ps s → begins p ≡ Some b → is_attached s.procs p ≡ true
    → log (Begun b.place) (pieces_from begins place s (collect_by p ∷ later)) ≡ []
unfolding At
none_later w at begins place ps s later p b here k last attached =
    let x : Entry = collect_by p in
    let now : Begins = begins_after begins place s x in
    let t : State = (step s x.actor x.event).after in
    let lt : b.place < place = k.below p b last in
    let r = collect_gone w at begins place ps s p b k last attached in
    log-append (Begun b.place) (step_pieces now place s x) (pieces_from now (place + 1) t later)
    ∙ ap (λ (xs : List Piece). xs ++ log (Begun b.place) (pieces_from now (place + 1) t later)) r.1
    ∙ none_more w at later now (place + 1) (ps ++ step_pieces now place s x) t b.place p here.1 (step_known w at begins place ps s x here.0 k) (omega (arith, lt)) r.0

pub at-append : (at : ℕ → State) (h g : List Entry) (place : ℕ) (s : State) → At at place s (h ++ g) → At at place s h × At at (place_after place h) (run s h) g
unfolding At place_after
at-append at [] g place s here = (tt, here)
at-append at (x ∷ xs) g place s here = let r = at-append at xs g (place + 1) (step s x.actor x.event).after here.1 in ((here.0, r.0), r.1)

pub at_before : (s : State) (h : List Entry) → At (console_before s h) 0 s h
at_before s h = at_run (λ n. run s (take n h)) h 0 s (λ k. let same : 0 + k ≡ k = omega arith in ap (λ (n : ℕ). run s (take n h)) same)

-- what is known once a read can be collected
pub record Collects (s : State) (h later : List Entry) (p : ℕ) (b : Begin) : Type 0 where
  pub becomes : Becomes p (opens (console_before s (h ++ collect_by p ∷ later) b.place) p b.wanted) (log (Begun b.place) (pieces s h)) (run s h).reads
  pub below : b.place < place_after 0 h
  pub no_more : log (Begun b.place) (pieces s (h ++ collect_by p ∷ later)) ≡ log (Begun b.place) (pieces s h)

pub collects : UnitsPiece → (s : State) (h later : List Entry) (p : ℕ) (b : Begin) → last_begin s h p ≡ Some b → is_attached (run s h).procs p ≡ true → Collects s h later p b
collects w s h later p b last attached =
    let all : List Entry = h ++ collect_by p ∷ later in
    let at : ℕ → State = console_before s all in
    let here = at-append at h (collect_by p ∷ later) 0 s (at_before s all) in
    let k = known_all w at h no_begins 0 [] s here.0 (known_first at s) in
    let rest : List Piece = pieces_from (begins_from no_begins 0 s h) (place_after 0 h) (run s h) (collect_by p ∷ later) in
    let mine = k.mine p b last in
    record {
      becomes = mine.becomes;
      below = k.below p b last;
      no_more = ap (log (Begun b.place)) (pieces-append h (collect_by p ∷ later) no_begins 0 s) ∙ log-append (Begun b.place) (pieces s h) rest
          ∙ ap (λ (xs : List Piece). log (Begun b.place) (pieces s h) ++ xs) (none_later w at (begins_from no_begins 0 s h) (place_after 0 h) (pieces s h) (run s h) later p b here.1 k last attached)
          ∙ append-nil (log (Begun b.place) (pieces s h));
    }

pub fated_before : WholeReads → (s : State) (h later : List Entry) (p : ℕ) (b : Begin) → Collects s h later p b → fated s (h ++ collect_by p ∷ later) (Begun b.place) ≡ joined (log (Begun b.place) (pieces s h))
unfolding taken
fated_before whole s h later p b c = fated_is whole s (h ++ collect_by p ∷ later) (Begun b.place) ∙ ap joined c.no_more

opens_records : (s : State) (p : ℕ) (w : Wanted) → wants_records w ≡ true → (n : ℕ) × (opens s p w ≡ reads.Records n)
unfolding opens
opens_records s p (wanted.ReadInput h n) e = (n, refl)
opens_records s p (wanted.Read h n) e = absurd (true≢false (sym e))
opens_records s p (wanted.ReadWith h n initial mask) e = absurd (true≢false (sym e))

all_answered : WholeReads → UnitsPiece → (s : State) (h later : List Entry) (p : ℕ) (b : Begin) → last_begin s h p ≡ Some b → wants_records b.wanted ≡ true → is_attached (run s h).procs p ≡ true → has_done (run s h).reads p ≡ true
    → AnswersRecords (step (run s h) (actors.Client p) events.Collect).reply (fated s (h ++ collect_by p ∷ later) (Begun b.place))
all_answered whole w s h later p b last records attached done =
    let c = collects w s h later p b last attached in
    let o = opens_records (console_before s (h ++ collect_by p ∷ later) b.place) p b.wanted records in
    let xs : List Piece = log (Begun b.place) (pieces s h) in
    subst (λ (r : Reply). AnswersRecords r (fated s (h ++ collect_by p ∷ later) (Begun b.place))) (sym (collect_reply (run s h) p attached))
    (subst (λ (rs : List Record). AnswersRecords (collected (run s h) p).reply rs) (sym (fated_before whole s h later p b c))
    (collected_records (run s h) p o.0 xs (subst (λ (r : OpenRead). Becomes p r xs (run s h).reads) o.1 c.becomes) done))

pub answered : ((al : List AliasList) (os : List Open) (rs : List Record) (hs : LineHistories) → joined (pieces_of al os rs hs) ++ (settled al os rs hs).records ≡ rs)
    → ((p n : ℕ) (al : List AliasList) (rs : List Record) (hs : LineHistories) → is_done (served p al (reads.Units n) rs hs).read ≡ true
    → (served p al (reads.Units n) rs hs).read ≡ reads.Done (answers.Units (units_of n (front rs (served p al (reads.Units n) rs hs).records))))
    → (s : State) (h later : List Entry) (p : ℕ) (b : Begin) → last_begin s h p ≡ Some b → wants_records b.wanted ≡ true → is_attached (run s h).procs p ≡ true → has_done (run s h).reads p ≡ true
    → (let x : Entry = record { actor = actors.Client p; event = events.Collect } in AnswersRecords (step (run s h) x.actor x.event).reply (fated s (h ++ x ∷ later) (Begun b.place)))
unfolding WholeReads UnitsPiece collect_by
answered whole w s h later p b last records attached done = all_answered whole w s h later p b last records attached done

pub fates_are : ((al : List AliasList) (os : List Open) (rs : List Record) (hs : LineHistories) → joined (pieces_of al os rs hs) ++ (settled al os rs hs).records ≡ rs)
    → (s : State) (h : List Entry) (t : Taker) → fated s h t ≡ joined (done_for t (pieces s h))
unfolding WholeReads taken log
fates_are w s h t = fated_is w s h t
