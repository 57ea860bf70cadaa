-- What one entry does to the open reads, and who takes records in it.
use Rattle.std.proofs.Common.{◌≡◌, ◌==◌, ◌||◌, ℕ, Bool, true, false, List, [], ◌∷◌, ◌++◌, refl, ap, sym, subst, true≢false, Option, None, Some, Result, Ok, Err, ◌∙◌}
use Rattle.std.specs.Prelude.{nat_lt, option_map, if◌then◌else◌}
use Rattle.std.specs.List.{find}
use Rattle.std.proofs.lemmas.Bool.{or_parts, eq-eqb}
use Rattle.con_units.specs.declared.code.Code.{Code}
use Rattle.con_units.specs.declared.code.Code.TheVariants as code
use Rattle.con_events.specs.declared.actor.Actor.{Actor}
use Rattle.con_events.specs.declared.entry.Entry.{Entry}
use Rattle.con_events.specs.declared.event.Event.{Event}
use Rattle.con_events.specs.declared.event.Event.TheVariants as events
use Rattle.con_events.specs.declared.event.Wanted.{Wanted}
use Rattle.con_events.specs.declared.event.Wanted.TheVariants as wanted
use Rattle.con_events.specs.declared.reply.Reply.{Reply}
use Rattle.con_handles.specs.declared.handle.Kind.TheVariants as kind
use Rattle.con_handles.specs.declared.handle.Object.{Object}
use Rattle.con_readers.specs.Reads.{begun, is_open}
use Rattle.con_readers.specs.declared.answer.Answer.TheVariants as answers
use Rattle.con_readers.specs.declared.open.Open.{Open}
use Rattle.con_readers.specs.declared.open.OpenRead.{OpenRead}
use Rattle.con_readers.specs.declared.open.OpenRead.TheVariants as reads
use Rattle.con_machine.specs.State.{State, noted_of, rest_in}
use Rattle.con_machine.specs.Outcome.{Outcome, by_answer, guard, has_bit}
use Rattle.con_machine.specs.Words.Outcome.{guarded}
use Rattle.con_machine.specs.Client.{is_fail}
use Rattle.con_machine.specs.Reads.{began, began_line, answered_with, line_begun, with_read, front_of, first_note, line_opened}
use Rattle.con_machine.specs.Words.Reads.{began_units, rest_answered, is_empty, history_used, read_answer, records_answer, is_no_initial, line_read, units_read}
use Rattle.con_machine.specs.Step.{effect, step, is_outside, client_of, finished}
use Rattle.con_laws.specs.Walks.{Begin, Begins, begin_at, begin_or, begun_by, effect_pieces, end_pieces, step_pieces}
use Rattle.con_laws.specs.Answers.{read_opened}
use Rattle.con_laws.specs.Words.Answers.{opens, opens_text}
use Rattle.con_laws.proofs.Served.{UnitsPiece, IsProper}
use Rattle.con_laws.proofs.Woken.{NoteTold, told_of, behind_own, behind_other}
use Rattle.con_machine.specs.declared.reads.noted.Noted.{Noted}
use Rattle.con_laws.proofs.Mine.{Apart}
use Rattle.con_laws.proofs.Takes.{noted_at, held, Goes, goes_on, stays, is_begin, event_goes, ends_goes}

-- ---- a Begin

-- a read that was not refused goes behind the open ones, its process having had none; what is noted of it is new
pub record IsBegun (s : State) (p : ℕ) (read : OpenRead) (told : Option NoteTold) (t : State) : Type 0 where
  pub none : is_open s.reads p ≡ false
  pub reads : t.reads ≡ s.reads ++ begun p read ∷ []
  pub proper : IsProper read
  pub note : noted_at s p ≡ None → noted_at t p ≡ told
  pub others : (q : ℕ) → (p == q) ≡ false → noted_at t q ≡ noted_at s q

-- what is noted of a line
unfoldable pub line_note : ℕ → ℕ → Option NoteTold
line_note h n = Some (record { handle = h; n = n; woken = false })

abbrev text_note : State → ℕ → ℕ → ℕ → Option NoteTold
text_note s p h n = if has_bit s.mode 2 then (if n == 0 then None else if is_empty (rest_in s.rests p h) then line_note h n else None) else None

unfoldable pub opens_note : State → ℕ → Wanted → Option NoteTold
opens_note s p (wanted.Read h n) = text_note s p h n
opens_note s p (wanted.ReadWith h n initial mask) = text_note s p h n
opens_note s p (wanted.ReadInput h n) = None

BeginsBy : Bool → State → ℕ → OpenRead → Option NoteTold → State → Type 0
BeginsBy true s p read told t = t ≡ s
BeginsBy false s p read told t = IsBegun s p read told t

begin_by : (s : State) (p : ℕ) (read : OpenRead) (told : Option NoteTold) (r : Result (Unit {0}) Code) (t : State) → ((u : Unit {0}) → r ≡ Ok u → IsBegun s p read told t) → BeginsBy (is_fail (by_answer s r t).reply) s p read told (by_answer s r t).after
unfolding BeginsBy
begin_by s p read told (Err why) t h = refl
begin_by s p read told (Ok u) t h = h u refl

pick : (s : State) (p : ℕ) (b : Bool) (q r : OpenRead) (m n : Option NoteTold) (x y : State) → IsBegun s p q m x → IsBegun s p r n y → IsBegun s p (if b then q else r) (if b then m else n) (if b then x else y)
pick s p true q r m n x y h g = h
pick s p false q r m n x y h g = g

-- nothing is noted of a read that is no line
plain_begun : (s : State) (p : ℕ) (read : OpenRead) (t : State) → is_open s.reads p ≡ false → t.reads ≡ s.reads ++ begun p read ∷ [] → IsProper read → t.noted ≡ s.noted → IsBegun s p read None t
unfolding noted_at
plain_begun s p read t none reads_are proper same = record {
  none = none;
  reads = reads_are;
  proper = proper;
  note = λ e. ap (λ (ns : List Noted). told_of (noted_of ns p)) same ∙ e;
  others = λ q e. ap (λ (ns : List Noted). told_of (noted_of ns q)) same;
}

untold : (o : Option Noted) → told_of o ≡ None → o ≡ None
unfolding told_of
untold None e = refl
untold (Some n) e = cc

line_is : (s : State) (p h n : ℕ) (initial : List ℕ) (mask : ℕ) → is_open s.reads p ≡ false → IsBegun s p (line_opened s p initial mask) (line_note h n) (line_begun (history_used s p) p h n initial mask)
unfolding noted_at IsProper told_of line_note
line_is s p h n initial mask none =
    let m : Noted = first_note (history_used s p) p h n initial in
    record {
      none = none;
      reads = refl;
      proper = tt;
      note = λ e. ap told_of (behind_own s.noted m (untold (noted_of s.noted p) e));
      others = λ q e. ap told_of (behind_other s.noted m q e);
    }

none_of : (g : Result Object Code) (x b c : Bool) (u : Unit {0}) → guarded g (if x || b then Err code.BadArgument else if c then Err code.Limit else Ok tt) ≡ Ok u → x ≡ false
none_of (Err why) x b c u h = cc
none_of (Ok o) true b c u h = cc
none_of (Ok o) false b c u h = refl

some_of : (g : Result Object Code) (x b c : Bool) (u : Unit {0}) → guarded g (if x || b then Err code.BadArgument else if c then Err code.Limit else Ok tt) ≡ Ok u → b ≡ false
some_of (Err why) x b c u h = cc
some_of (Ok o) true b c u h = cc
some_of (Ok o) false true c u h = cc
some_of (Ok o) false false c u h = refl

units_by : (s : State) (p n : ℕ) (b : Bool) → is_open s.reads p ≡ false → IsBegun s p (if b then reads.Done (answers.Units []) else reads.Units n) None (if b then answered_with s p [] else with_read s p (reads.Units n))
unfolding IsProper
units_by s p n true none = plain_begun s p (reads.Done (answers.Units [])) (answered_with s p []) none refl tt refl
units_by s p n false none = plain_begun s p (reads.Units n) (with_read s p (reads.Units n)) none refl tt refl

units_is : (s : State) (p n : ℕ) → is_open s.reads p ≡ false → IsBegun s p (units_read n) None (began_units s p n)
units_is s p n none = units_by s p n (n == 0) none

read_is : (s : State) (p h n : ℕ) (initial : List ℕ) (mask : ℕ) → is_open s.reads p ≡ false
    → IsBegun s p (opens_text s p h n initial mask) (text_note s p h n) (if has_bit s.mode 2 then began_line (history_used s p) p h n initial mask else began_units s p n)
unfolding IsProper
read_is s p h n initial mask none =
    let t : State = history_used s p in
    let rest : List ℕ = rest_in s.rests p h in
    let nothing : OpenRead = reads.Done (answers.Units []) in
    let some : OpenRead = reads.Done (answers.Units (front_of n rest)) in
    let line : OpenRead = line_opened s p initial mask in
    let later : OpenRead = if is_empty rest then line else some in
    let later_note : Option NoteTold = if is_empty rest then line_note h n else None in
    let line_then : Option NoteTold = if n == 0 then None else later_note in
    pick s p (has_bit s.mode 2) (line_read s p n (rest_in s.rests p h) initial mask) (units_read n) line_then None (began_line t p h n initial mask) (began_units s p n)
    (pick s p (n == 0) nothing later None later_note (answered_with t p []) (if is_empty rest then line_begun t p h n initial mask else rest_answered t p h n rest) (plain_begun s p nothing (answered_with t p []) none refl tt refl)
    (pick s p (is_empty rest) line some (line_note h n) None (line_begun t p h n initial mask) (rest_answered t p h n rest) (line_is s p h n initial mask none) (plain_begun s p some (rest_answered t p h n rest) none refl tt refl)))
    (units_is s p n none)

begin_is : (s : State) (p : ℕ) (w : Wanted) → BeginsBy (is_fail (began s p w).reply) s p (opens s p w) (opens_note s p w) (began s p w).after
unfolding began opens opens_note IsProper
begin_is s p (wanted.Read h n) = begin_by s p (opens_text s p h n [] 0) (text_note s p h n) (read_answer s p h n []) _ (λ u e. read_is s p h n [] 0 (none_of (guard s p h kind.Input 1) (is_open s.reads p) (is_no_initial [] n) (nat_lt 16384 n) u e))
begin_is s p (wanted.ReadWith h n initial mask) = begin_by s p (opens_text s p h n initial mask) (text_note s p h n) (read_answer s p h n initial) _ (λ u e. read_is s p h n initial mask (none_of (guard s p h kind.Input 1) (is_open s.reads p) (is_no_initial initial n) (nat_lt 16384 n) u e))
begin_is s p (wanted.ReadInput h n) = begin_by s p (reads.Records n) None (records_answer s p h n) (with_read s p (reads.Records n))
    (λ u e. plain_begun s p (reads.Records n) (with_read s p (reads.Records n)) (none_of (guard s p h kind.Input 1) (is_open s.reads p) (n == 0) (nat_lt 1024 n) u e) refl (some_of (guard s p h kind.Input 1) (is_open s.reads p) (n == 0) (nat_lt 1024 n) u e) refl)

-- ---- the read that it opens

found_last : (os : List Open) (p : ℕ) (read : OpenRead) → is_open os p ≡ false → find (λ o. o.process == p) (os ++ begun p read ∷ []) ≡ Some (begun p read)
found_last [] p read none = rw (eq-eqb p p refl) refl
found_last (o ∷ os) p read none = let parts = or_parts (o.process == p) (is_open os p) none in rw parts.0 (found_last os p read parts.1)

opened_by : (s : State) (p : ℕ) (read : OpenRead) (told : Option NoteTold) (t : State) (fail : Bool) → fail ≡ false → BeginsBy fail s p read told t
    → option_map (λ (o : Open). o.read) (find (λ (o : Open). o.process == p) t.reads) ≡ Some read
unfolding BeginsBy
opened_by s p read told t true e is = absurd (true≢false e)
opened_by s p read told t false e is =
    ap (λ (os : List Open). option_map (λ (o : Open). o.read) (find (λ (o : Open). o.process == p) os)) is.reads
    ∙ ap (λ (o : Option Open). option_map (λ (x : Open). x.read) o) (found_last s.reads p read is.none)

began_opens : (s : State) (p : ℕ) (w : Wanted) → is_fail (began s p w).reply ≡ false → read_opened s p w ≡ Some (opens s p w)
began_opens s p w done = opened_by s p (opens s p w) (opens_note s p w) (began s p w).after (is_fail (began s p w).reply) done (begin_is s p w)

-- ---- the last Begins after an entry

unfoldable pub after_begin : Option Begin → ℕ → Begins → Begins
after_begin m c begins p = if p == c then begin_or m (begins p) else begins p

same_begins : (begins : Begins) (c p : ℕ) (b : Bool) → (if b then begin_or None (begins p) else begins p) ≡ begins p
same_begins begins c p true = refl
same_begins begins c p false = refl

pub now_same : (begins : Begins) (c p : ℕ) → after_begin None c begins p ≡ begins p
unfolding after_begin
now_same begins c p = same_begins begins c p (p == c)

unfoldable pub begin_of : ℕ → Wanted → Begin
begin_of place w = record { place = place; wanted = w }

-- ---- one entry

fails : (b : Bool) (o : Option Begin) → o ≡ None → (if b then None else o) ≡ None
fails true o h = refl
fails false o h = h

entry : Actor → Event → Entry
entry a e = record { actor = a; event = e }

outside_none : (place : ℕ) (s : State) (x : Entry) → is_outside s x.actor x.event ≡ true → begun_by place x (step s x.actor x.event).reply ≡ None
unfolding step
outside_none place s x out = rw out refl

inside_reply : (s : State) (x : Entry) → is_outside s x.actor x.event ≡ false → (step s x.actor x.event).reply ≡ (effect s (client_of x.actor) x.event).reply
unfolding step
inside_reply s x out = rw out refl

outside_fails : (s : State) (a : Actor) (e : Event) → is_outside s a e ≡ true → is_fail (step s a e).reply ≡ true
unfolding step
outside_fails s a e out = rw out refl

opens_by : (s : State) (a : Actor) (w : Wanted) (out : Bool) → is_outside s a (events.Begin w) ≡ out → is_fail (step s a (events.Begin w)).reply ≡ false
    → read_opened s (client_of a) w ≡ Some (opens s (client_of a) w)
unfolding effect entry
opens_by s a w true out done = absurd (true≢false (sym (outside_fails s a (events.Begin w) out) ∙ done))
opens_by s a w false out done = began_opens s (client_of a) w (ap is_fail (sym (inside_reply s (entry a (events.Begin w)) out)) ∙ done)

-- what the entry of a Begin that was not refused opens
pub step_opens : (s : State) (a : Actor) (w : Wanted) → is_fail (step s a (events.Begin w)).reply ≡ false → read_opened s (client_of a) w ≡ Some (opens s (client_of a) w)
step_opens s a w done = opens_by s a w (is_outside s a (events.Begin w)) refl done

-- from this console on, with these last Begins
unfoldable pub EntryGoes : Begins → ℕ → State → Entry → State → Type 0
EntryGoes now place s x from = Goes now from (step_pieces now place s x) (step s x.actor x.event).after

outside_goes : (now : Begins) (place : ℕ) (s : State) (x : Entry) → is_outside s x.actor x.event ≡ true → EntryGoes now place s x s
unfolding EntryGoes step step_pieces
outside_goes now place s x out = rw out (stays now s s refl)

inside_goes : (now : Begins) (place : ℕ) (s : State) (x : Entry) (from : State) → is_outside s x.actor x.event ≡ false
    → Goes now from (effect_pieces now place s (client_of x.actor) x.event ++ end_pieces now (effect s (client_of x.actor) x.event).after) (finished (effect s (client_of x.actor) x.event)).after → EntryGoes now place s x from
unfolding EntryGoes step step_pieces
inside_goes now place s x from out goes = rw out goes

-- What is shown for an entry that begins no read, and for one that does, holds of each entry.
pub record Cases (begins : Begins) (place : ℕ) (s : State) (x : Entry) (P : Option Begin → Type 0) : Type 0 where
  pub sure : Apart (after_begin None (client_of x.actor) begins)
  pub sure_new : (w : Wanted) → Apart (after_begin (Some (begin_of place w)) (client_of x.actor) begins)
  pub none : EntryGoes (after_begin None (client_of x.actor) begins) place s x s → P None
  pub new : (w : Wanted) (t : State) → IsBegun s (client_of x.actor) (opens s (client_of x.actor) w) (opens_note s (client_of x.actor) w) t → EntryGoes (after_begin (Some (begin_of place w)) (client_of x.actor) begins) place s x t → P (Some (begin_of place w))

quiet_case : UnitsPiece → (begins : Begins) (place : ℕ) (s : State) (x : Entry) (P : Option Begin → Type 0) → Cases begins place s x P → is_outside s x.actor x.event ≡ false → is_begin x.event ≡ false → begin_at place x.event ≡ None
    → P (begun_by place x (step s x.actor x.event).reply)
quiet_case w begins place s x P cases out none at =
    let c : ℕ = client_of x.actor in
    let now : Begins = after_begin None c begins in
    let o : Outcome = effect s c x.event in
    subst P (sym (fails (is_fail (step s x.actor x.event).reply) (begin_at place x.event) at))
    (cases.none (inside_goes now place s x s out (goes_on now s o.after (finished o).after (effect_pieces now place s c x.event) (end_pieces now o.after) (event_goes w now cases.sure place s c x.event none) (ends_goes w now cases.sure o))))

begin_goes : UnitsPiece → (now : Begins) → Apart now → (place : ℕ) (s : State) (a : Actor) (wanted : Wanted) (from : State) → is_outside s a (events.Begin wanted) ≡ false → held (began s (client_of a) wanted).after ≡ held from → EntryGoes now place s (entry a (events.Begin wanted)) from
unfolding effect entry
begin_goes w now sure place s a wanted from out same =
    let o : Outcome = began s (client_of a) wanted in
    inside_goes now place s (entry a (events.Begin wanted)) from out (goes_on now from o.after (finished o).after [] (end_pieces now o.after) (stays now from o.after same) (ends_goes w now sure o))

begin_by_fail : UnitsPiece → (begins : Begins) (place : ℕ) (s : State) (a : Actor) (wanted : Wanted) (P : Option Begin → Type 0) (fail : Bool) → Cases begins place s (entry a (events.Begin wanted)) P → is_outside s a (events.Begin wanted) ≡ false
    → BeginsBy fail s (client_of a) (opens s (client_of a) wanted) (opens_note s (client_of a) wanted) (began s (client_of a) wanted).after → P (if fail then None else Some (begin_of place wanted))
unfolding BeginsBy entry
begin_by_fail w begins place s a wanted P true cases out same = cases.none (begin_goes w (after_begin None (client_of a) begins) cases.sure place s a wanted s out (ap held same))
begin_by_fail w begins place s a wanted P false cases out is =
    cases.new wanted (began s (client_of a) wanted).after is (begin_goes w (after_begin (Some (begin_of place wanted)) (client_of a) begins) (cases.sure_new wanted) place s a wanted (began s (client_of a) wanted).after out refl)

begin_case : UnitsPiece → (begins : Begins) (place : ℕ) (s : State) (a : Actor) (wanted : Wanted) (P : Option Begin → Type 0) → Cases begins place s (entry a (events.Begin wanted)) P → is_outside s a (events.Begin wanted) ≡ false
    → P (begun_by place (entry a (events.Begin wanted)) (effect s (client_of a) (events.Begin wanted)).reply)
unfolding effect entry begin_of
begin_case w begins place s a wanted P cases out = begin_by_fail w begins place s a wanted P (is_fail (began s (client_of a) wanted).reply) cases out (begin_is s (client_of a) wanted)

event_case : UnitsPiece → (begins : Begins) (place : ℕ) (s : State) (a : Actor) (e : Event) (P : Option Begin → Type 0) → Cases begins place s (entry a e) P → is_outside s a e ≡ false → P (begun_by place (entry a e) (step s a e).reply)
unfolding entry is_begin
event_case w begins place s a (events.Begin wanted) P cases out = subst (λ (r : Reply). P (begun_by place (entry a (events.Begin wanted)) r)) (sym (inside_reply s (entry a (events.Begin wanted)) out)) (begin_case w begins place s a wanted P cases out)
event_case w begins place s a (events.Call c) P cases out = quiet_case w begins place s (entry a (events.Call c)) P cases out refl refl
event_case w begins place s a events.Collect P cases out = quiet_case w begins place s (entry a events.Collect) P cases out refl refl
event_case w begins place s a events.TakeCtrl P cases out = quiet_case w begins place s (entry a events.TakeCtrl) P cases out refl refl
event_case w begins place s a (events.Exit status) P cases out = quiet_case w begins place s (entry a (events.Exit status)) P cases out refl refl
event_case w begins place s a (events.Feed bytes) P cases out = quiet_case w begins place s (entry a (events.Feed bytes)) P cases out refl refl
event_case w begins place s a events.Quiet P cases out = quiet_case w begins place s (entry a events.Quiet) P cases out refl refl
event_case w begins place s a (events.Resize size) P cases out = quiet_case w begins place s (entry a (events.Resize size)) P cases out refl refl
event_case w begins place s a events.Ask P cases out = quiet_case w begins place s (entry a events.Ask) P cases out refl refl
event_case w begins place s a events.Hangup P cases out = quiet_case w begins place s (entry a events.Hangup) P cases out refl refl
event_case w begins place s a events.Drained P cases out = quiet_case w begins place s (entry a events.Drained) P cases out refl refl
event_case w begins place s a events.Paint P cases out = quiet_case w begins place s (entry a events.Paint) P cases out refl refl

by_outside : UnitsPiece → (begins : Begins) (place : ℕ) (s : State) (x : Entry) (P : Option Begin → Type 0) (out : Bool) → is_outside s x.actor x.event ≡ out → Cases begins place s x P → P (begun_by place x (step s x.actor x.event).reply)
unfolding entry
by_outside w begins place s x P true out cases = subst P (sym (outside_none place s x out)) (cases.none (outside_goes (after_begin None (client_of x.actor) begins) place s x out))
by_outside w begins place s x P false out cases = event_case w begins place s x.actor x.event P cases out

pub each_entry : UnitsPiece → (begins : Begins) (place : ℕ) (s : State) (x : Entry) (P : Option Begin → Type 0) → Cases begins place s x P → P (begun_by place x (step s x.actor x.event).reply)
each_entry w begins place s x P cases = by_outside w begins place s x P (is_outside s x.actor x.event) refl cases
