-- What is noted of a process's read, over every history.
use Rattle.std.proofs.Common.{◌≡◌, ◌==◌, ◌||◌, ◌+◌, ℕ, Bool, true, false, List, [], ◌∷◌, ◌++◌, refl, ap, ◌∙◌, sym, subst, append-nil, append_assoc, Option, None, Some, true≢false, arith}
use Rattle.std.specs.Prelude.{if◌then◌else◌}
use Rattle.std.proofs.lemmas.Bool.{or_parts, eqb-true, eq-eqb}
use Rattle.con_events.specs.declared.entry.Entry.{Entry}
use Rattle.con_events.specs.declared.event.Wanted.{Wanted}
use Rattle.con_readers.specs.Reads.{begun, is_open}
use Rattle.con_readers.specs.declared.open.Open.{Open}
use Rattle.con_readers.specs.declared.open.OpenRead.{OpenRead}
use Rattle.con_machine.specs.State.{State, noted_of}
use Rattle.con_machine.specs.History.{run}
use Rattle.con_machine.specs.Step.{step, client_of}
use Rattle.con_laws.specs.Fates.{Begun, Piece}
use Rattle.con_laws.specs.Walks.{Begin, Begins, no_begins, begins_after, begins_from, step_pieces, pieces_from, pieces, last_begin}
use Rattle.con_laws.specs.Words.Answers.{opens}
use Rattle.con_laws.specs.AnswerWalks.{console_before, read_after}
use Rattle.con_machine.specs.declared.reads.noted.Noted.{Noted}
use Rattle.con_laws.proofs.FateLists.{log, log-append}
use Rattle.con_laws.proofs.Served.{UnitsPiece, IsProper}
use Rattle.con_laws.proofs.Mine.{Mine, Becomes, proper_after, begun_mine, begun_open, beside_mine}
use Rattle.con_laws.proofs.Woken.{NoteTold, told_of, waked, waked_on}
use Rattle.con_laws.proofs.Acts.{wakes, wakes-append, wakes_none}
use Rattle.con_laws.proofs.Takes.{noted_at, Bare, Goes}
use Rattle.con_laws.proofs.Entries.{IsBegun, opens_note, after_begin, now_same, begin_of, EntryGoes, Cases, each_entry}
use Rattle.con_laws.proofs.Fated.{At, Known, own_is, known_apart, known_apart_new, step_known, turned, some_is, at_before, at-append, known_first, collect_by}

pub record Notes (at : ℕ → State) (begins : Begins) (ps : List Piece) (s : State) : Type 0 where
  pub bare : Bare s
  pub note : (p : ℕ) (b : Begin) → begins p ≡ Some b → is_open s.reads p ≡ true → noted_at s p ≡ waked (wakes p (opens (at b.place) p b.wanted) (log (Begun b.place) ps)) (opens_note (at b.place) p b.wanted)

-- it has one after pieces, so it had one before
open_before : (now : Begins) (s t : State) (qs : List Piece) (p : ℕ) (b : Bool) → is_open s.reads p ≡ b → Goes now s qs t → is_open t.reads p ≡ true → is_open s.reads p ≡ true
open_before now s t qs p true e goes kept = e
open_before now s t qs p false e goes kept = absurd (true≢false (sym kept ∙ (goes.none p e).0))

note_then : (now : Begins) (s t : State) (p : ℕ) (b : Begin) (r : OpenRead) (xs qs : List Piece) (o : Option NoteTold) → now p ≡ Some b → Goes now s qs t → IsProper r → Mine p (read_after p r xs) s.reads → noted_at s p ≡ waked (wakes p r xs) o → is_open t.reads p ≡ true
    → noted_at t p ≡ waked (wakes p r (xs ++ log (Begun b.place) qs)) o
note_then now s t p b r xs qs o e goes proper mine note kept =
    let ys : List Piece = log (Begun b.place) qs in
    let r1 : OpenRead = read_after p r xs in
    goes.note p r1 (proper_after p r xs proper) mine kept
    ∙ ap (λ (zs : List Piece). waked (wakes p r1 zs) (noted_at s p)) (own_is now p b qs e)
    ∙ ap (waked (wakes p r1 ys)) note
    ∙ waked_on (wakes p r xs) (wakes p r1 ys) o
    ∙ ap (λ (c : Bool). waked c o) (sym (wakes-append p r xs ys))

same_notes : (at : ℕ → State) (begins : Begins) (c place : ℕ) (ps qs : List Piece) (s t : State) → Known at begins place ps s → Notes at begins ps s → Goes (after_begin None c begins) s qs t → Notes at (after_begin None c begins) (ps ++ qs) t
unfolding Becomes
same_notes at begins c place ps qs s t k n goes =
    let now : Begins = after_begin None c begins in
    record {
      bare = goes.bare n.bare;
      note = λ p b e kept. (let last : begins p ≡ Some b = sym (now_same begins c p) ∙ e in
          let mine = k.mine p b last in
          let r : OpenRead = opens (at b.place) p b.wanted in
          let o : Option NoteTold = opens_note (at b.place) p b.wanted in
          note_then now s t p b r (log (Begun b.place) ps) qs o e goes mine.proper mine.becomes.1 (n.note p b last (open_before now s t qs p (is_open s.reads p) refl goes kept)) kept
          ∙ ap (λ (xs : List Piece). waked (wakes p r xs) o) (sym (log-append (Begun b.place) ps qs)));
    }

-- ---- a Begin

behind_open : (os : List Open) (p q : ℕ) (read : OpenRead) → is_open (os ++ begun p read ∷ []) q ≡ false → is_open os q ≡ false
behind_open [] p q read none = refl
behind_open (o ∷ os) p q read none = let parts = or_parts (o.process == q) (is_open (os ++ begun p read ∷ []) q) none in rw parts.0 (behind_open os p q read parts.1)

or_true : (b : Bool) → (b || true) ≡ true
or_true true = refl
or_true false = refl

begun_there : (os : List Open) (p : ℕ) (read : OpenRead) → is_open (os ++ begun p read ∷ []) p ≡ true
begun_there [] p read = rw (eq-eqb p p refl) refl
begun_there (o ∷ os) p read = ap (λ (b : Bool). (o.process == p) || b) (begun_there os p read) ∙ or_true (o.process == p)

begun_bare : (s : State) (c : ℕ) (r : OpenRead) (o : Option NoteTold) (t : State) (q : ℕ) (b : Bool) → (c == q) ≡ b → IsBegun s c r o t → Bare s → is_open t.reads q ≡ false → noted_at t q ≡ None
unfolding Bare
begun_bare s c r o t q true e is bare none =
    let same : c ≡ q = eqb-true c q e in
    absurd (true≢false (sym (begun_there s.reads c r) ∙ sym (ap (λ (os : List Open). is_open os c) is.reads) ∙ ap (λ (k : ℕ). is_open t.reads k) same ∙ none))
begun_bare s c r o t q false e is bare none = is.others q e ∙ bare q (behind_open s.reads c q r (sym (ap (λ (os : List Open). is_open os q) is.reads) ∙ none))

open_was : (s : State) (c : ℕ) (r : OpenRead) (t : State) (p : ℕ) (b : Bool) → is_open s.reads p ≡ b → (c == p) ≡ false → t.reads ≡ s.reads ++ begun c r ∷ [] → is_open t.reads p ≡ true → is_open s.reads p ≡ true
open_was s c r t p true e other same there = e
open_was s c r t p false e other same there = absurd (true≢false (sym there ∙ ap (λ (os : List Open). is_open os p) same ∙ begun_open s.reads p c r other e))

new_note : (at : ℕ → State) (begins : Begins) (c place : ℕ) (w : Wanted) (ps qs : List Piece) (s t u : State) (p : ℕ) (b : Begin) (x : Bool) → (p == c) ≡ x → at place ≡ s → Known at begins place ps s → Notes at begins ps s → IsBegun s c (opens s c w) (opens_note s c w) t
    → Goes (after_begin (Some (begin_of place w)) c begins) t qs u → after_begin (Some (begin_of place w)) c begins p ≡ Some b → (if x then Some (begin_of place w) else begins p) ≡ Some b → is_open u.reads p ≡ true
    → noted_at u p ≡ waked (wakes p (opens (at b.place) p b.wanted) (log (Begun b.place) ps ++ log (Begun b.place) qs)) (opens_note (at b.place) p b.wanted)
unfolding begin_of Becomes Bare waked
new_note at begins c place w ps qs s t u p b true ex here k n is goes e h kept =
    let new : Begin = record { place = place; wanted = w } in
    let same : p ≡ c = eqb-true p c ex in
    let now : Begins = after_begin (Some new) c begins in
    let of_new : new ≡ b = some_is new b h in
    let first : log (Begun place) ps ≡ [] = k.fresh place (omega arith) in
    let last : now c ≡ Some new = ap now (sym same) ∙ e ∙ ap (λ (d : Begin). Some d) (sym of_new) in
    let opened : is_open u.reads c ≡ true = ap (λ (q : ℕ). is_open u.reads q) (sym same) ∙ kept in
    let r : OpenRead = opens s c w in
    let o : Option NoteTold = opens_note s c w in
    let mine : Mine c r t.reads = subst (λ (os : List Open). Mine c r os) (sym is.reads) (begun_mine s.reads c r is.none) in
    let told : noted_at t c ≡ waked (wakes c r []) o = is.note (n.bare c is.none) ∙ sym (ap (λ (x : Bool). waked x o) (wakes_none c r [] refl)) in
    let end : noted_at u c ≡ waked (wakes c r ([] ++ log (Begun place) qs)) o = note_then now t u c new r [] qs o last goes is.proper mine told opened in
    let at_place : noted_at u c ≡ waked (wakes c (opens (at place) c w) (log (Begun place) ps ++ log (Begun place) qs)) (opens_note (at place) c w) =
    subst (λ (v : State). noted_at u c ≡ waked (wakes c (opens v c w) (log (Begun place) ps ++ log (Begun place) qs)) (opens_note v c w)) (sym here)
    (subst (λ (xs : List Piece). noted_at u c ≡ waked (wakes c r (xs ++ log (Begun place) qs)) o) (sym first) end) in
    subst (λ (d : Begin). noted_at u p ≡ waked (wakes p (opens (at d.place) p d.wanted) (log (Begun d.place) ps ++ log (Begun d.place) qs)) (opens_note (at d.place) p d.wanted)) of_new
    (subst (λ (q : ℕ). noted_at u q ≡ waked (wakes q (opens (at place) q w) (log (Begun place) ps ++ log (Begun place) qs)) (opens_note (at place) q w)) (sym same) at_place)
new_note at begins c place w ps qs s t u p b false ex here k n is goes e h kept =
    let now : Begins = after_begin (Some (record { place = place; wanted = w })) c begins in
    let mine = k.mine p b h in
    let r : OpenRead = opens (at b.place) p b.wanted in
    let xs : List Piece = log (Begun b.place) ps in
    let o : Option NoteTold = opens_note (at b.place) p b.wanted in
    let other : (c == p) ≡ false = turned c p ex in
    let there : is_open t.reads p ≡ true = open_before now t u qs p (is_open t.reads p) refl goes kept in
    let was : is_open s.reads p ≡ true = open_was s c (opens s c w) t p (is_open s.reads p) refl other is.reads there in
    let beside : Mine p (read_after p r xs) t.reads = subst (λ (os : List Open). Mine p (read_after p r xs) os) (sym is.reads) (beside_mine s.reads p c (opens s c w) (read_after p r xs) other mine.becomes.1) in
    note_then now t u p b r xs qs o e goes mine.proper beside (is.others p other ∙ n.note p b h was) kept

begun_notes : (at : ℕ → State) (begins : Begins) (c place : ℕ) (w : Wanted) (ps qs : List Piece) (s t u : State) → at place ≡ s → Known at begins place ps s → Notes at begins ps s → IsBegun s c (opens s c w) (opens_note s c w) t
    → Goes (after_begin (Some (begin_of place w)) c begins) t qs u → Notes at (after_begin (Some (begin_of place w)) c begins) (ps ++ qs) u
unfolding after_begin Bare
begun_notes at begins c place w ps qs s t u here k n is goes = record {
  bare = goes.bare (λ q none. begun_bare s c (opens s c w) (opens_note s c w) t q (c == q) refl is n.bare none);
  note = λ p b e kept. new_note at begins c place w ps qs s t u p b (p == c) refl here k n is goes e e kept
      ∙ ap (λ (xs : List Piece). waked (wakes p (opens (at b.place) p b.wanted) xs) (opens_note (at b.place) p b.wanted)) (sym (log-append (Begun b.place) ps qs));
}

-- ---- one entry, and a history

After : (ℕ → State) → Begins → ℕ → List Piece → State → Entry → Option Begin → Type 0
After at begins place ps s x m = Notes at (after_begin m (client_of x.actor) begins) (ps ++ step_pieces (after_begin m (client_of x.actor) begins) place s x) (step s x.actor x.event).after

note_cases : (at : ℕ → State) (begins : Begins) (place : ℕ) (ps : List Piece) (s : State) (x : Entry) → at place ≡ s → Known at begins place ps s → Notes at begins ps s → Cases begins place s x (After at begins place ps s x)
unfolding After EntryGoes
note_cases at begins place ps s x here k n =
    let c : ℕ = client_of x.actor in
    record {
      sure = known_apart at begins c place ps s k;
      sure_new = λ w. known_apart_new at begins c place w ps s k;
      none = λ goes. same_notes at begins c place ps (step_pieces (after_begin None c begins) place s x) s (step s x.actor x.event).after k n goes;
      new = λ w t is goes. begun_notes at begins c place w ps (step_pieces (after_begin (Some (begin_of place w)) c begins) place s x) s t (step s x.actor x.event).after here k n is goes;
    }

step_notes : UnitsPiece → (at : ℕ → State) (begins : Begins) (place : ℕ) (ps : List Piece) (s : State) (x : Entry) → at place ≡ s → Known at begins place ps s → Notes at begins ps s
    → Notes at (begins_after begins place s x) (ps ++ step_pieces (begins_after begins place s x) place s x) (step s x.actor x.event).after
unfolding After after_begin
step_notes w at begins place ps s x here k n = each_entry w begins place s x (After at begins place ps s x) (note_cases at begins place ps s x here k n)

pub all_notes : UnitsPiece → (at : ℕ → State) (h : List Entry) (begins : Begins) (place : ℕ) (ps : List Piece) (s : State) → At at place s h → Known at begins place ps s → Notes at begins ps s → Notes at (begins_from begins place s h) (ps ++ pieces_from begins place s h) (run s h)
unfolding At
all_notes w at [] begins place ps s here k n = subst (λ (xs : List Piece). Notes at begins xs s) (sym (append-nil ps)) n
all_notes w at (x ∷ xs) begins place ps s here k n =
    let now : Begins = begins_after begins place s x in
    let t : State = (step s x.actor x.event).after in
    subst (λ (ys : List Piece). Notes at (begins_from now (place + 1) t xs) ys (run t xs)) (append_assoc ps (step_pieces now place s x) (pieces_from now (place + 1) t xs))
    (all_notes w at xs now (place + 1) (ps ++ step_pieces now place s x) t here.1 (step_known w at begins place ps s x here.0 k) (step_notes w at begins place ps s x here.0 k n))

pub first_notes : (at : ℕ → State) (s : State) → s.noted ≡ [] → Notes at no_begins [] s
unfolding Bare noted_at told_of
first_notes at s none = record {
  bare = λ p kept. ap (λ (ns : List Noted). told_of (noted_of ns p)) none;
  note = λ p b hb. absurd (let no : None ≡ Some b = hb in cc);
}

-- what is noted of a read that can be collected
pub collects_notes : UnitsPiece → (s : State) (h later : List Entry) (p : ℕ) (b : Begin) → s.noted ≡ [] → last_begin s h p ≡ Some b → is_open (run s h).reads p ≡ true
    → (let at = console_before s (h ++ collect_by p ∷ later) b.place in noted_at (run s h) p ≡ waked (wakes p (opens at p b.wanted) (log (Begun b.place) (pieces s h))) (opens_note at p b.wanted))
collects_notes w s h later p b none last kept =
    let all : List Entry = h ++ collect_by p ∷ later in
    let at : ℕ → State = console_before s all in
    let here = at-append at h (collect_by p ∷ later) 0 s (at_before s all) in
    let n = all_notes w at h no_begins 0 [] s here.0 (known_first at s) (first_notes at s none) in
    n.note p b last kept
