-- What is seen of a step leaves the reads, the records, the histories and the aliases alone.
use Rattle.std.proofs.Common.{◌≡◌, ℕ, Bool, true, false, cond, List, ◌∷◌, Option, None, Some, refl, sym, ap, subst, ◌∙◌}
use Rattle.std.specs.Prelude.{◌<◌, fold, not, is_some}
use Rattle.con_cooked.specs.declared.cooked.Cooked.{Cooked}
use Rattle.con_cooked.specs.declared.progress.Echo.{Echo}
use Rattle.con_cooked.specs.Cooked.{line_of}
use Rattle.con_cooked.specs.Words.Cooked.{echo_between}
use Rattle.con_records.specs.declared.record.Record.{Record}
use Rattle.con_history.specs.Histories.{LineHistories}
use Rattle.con_alias.specs.Aliases.{AliasList}
use Rattle.con_readers.specs.Act.{Act, began, typed, passed, ended, woke}
use Rattle.con_readers.specs.Words.Act.{IsOf}
use Rattle.con_readers.specs.Lines.{line_text}
use Rattle.con_readers.specs.Reads.{Settled, settled}
use Rattle.con_readers.specs.Words.Reads.{Pumped, settled_after, after_act, before, head_text, work}
use Rattle.con_readers.specs.declared.step.ReadStep.{ReadStep}
use Rattle.con_readers.specs.declared.step.ReadStep.TheVariants as steps
use Rattle.con_readers.specs.declared.open.Open.{Open}
use Rattle.con_page.specs.Echo.{ended as line_ended}
use Rattle.con_screen.specs.Echo.{Echoed, echoed}
use Rattle.con_screens.specs.Buffers.{Buffers, screen_at}
use Rattle.con_screens.specs.Lending.{screen_left}
use Rattle.con_machine.specs.State.{State, noted_of}
use Rattle.con_machine.specs.ScreenCalls.{page_of, with_page}
use Rattle.con_machine.specs.Serving.{followed, note_changed, settled_state}
use Rattle.con_machine.specs.Words.Serving.{line_shown, line_finished, shows_line, with_echo, settled_from}
use Rattle.con_machine.specs.Pumping.{pumped_of, with_pumped, followed_by, stepped, IsTold}
use Rattle.con_machine.specs.declared.reads.noted.Noted.{Noted}

-- the same console with other reads, records, histories and aliases
abbrev pub other : State → List Open → List Record → LineHistories → List AliasList → State
other s os rs hs al = record s { reads = os; records = rs; histories = hs; aliases = al }

either : (b : Bool) (x y : State) (os : List Open) (rs : List Record) (hs : LineHistories) (al : List AliasList) (v w : State) → v ≡ other x os rs hs al → w ≡ other y os rs hs al → cond b v w ≡ other (cond b x y) os rs hs al
either true x y os rs hs al v w p q = p
either false x y os rs hs al v w p q = q

shown_apart : (s : State) (n : Option Noted) (old new : Cooked) (os : List Open) (rs : List Record) (hs : LineHistories) (al : List AliasList) → line_shown (other s os rs hs al) n old new ≡ other (line_shown s n old new) os rs hs al
shown_apart s None old new os rs hs al = refl
shown_apart s (Some n) old new os rs hs al =
    either (shows_line s.buffers n) (with_echo s n (echoed (screen_at s.buffers n.buffer.0) n.origin (line_text old) (line_text new) (line_of new).line.caret)) s os rs hs al _ _ refl refl

finished_apart : (s : State) (n : Option Noted) (len : ℕ) (os : List Open) (rs : List Record) (hs : LineHistories) (al : List AliasList) → line_finished (other s os rs hs al) n len ≡ other (line_finished s n len) os rs hs al
finished_apart s None len os rs hs al = refl
finished_apart s (Some n) len os rs hs al =
    either (shows_line s.buffers n) (with_page s n.buffer.0 (line_ended (page_of s n.buffer.0) n.origin len)) s os rs hs al _ _ refl refl

pub followed_apart : (s : State) (a : Act) (os : List Open) (rs : List Record) (hs : LineHistories) (al : List AliasList) → followed (other s os rs hs al) a ≡ other (followed s a) os rs hs al
followed_apart s (began p) os rs hs al = refl
followed_apart s (typed p old new) os rs hs al = shown_apart s (noted_of s.noted p) old new os rs hs al
followed_apart s (passed p) os rs hs al = refl
followed_apart s (ended p read len) os rs hs al = finished_apart s (noted_of s.noted p) len os rs hs al
followed_apart s (woke p line) os rs hs al = refl

-- a step, what is seen of it, and then serving, is serving
pub settled_next : (s : State) (p : Pumped) (a : Act) → settled s.aliases s.reads s.records s.histories ≡ settled_after s.aliases p → p.act ≡ Some a → settled_state (followed (with_pumped s p) a) ≡ settled_state s
unfolding settled_state settled_after before
settled_next s p a e act =
    let t : Settled = settled s.aliases p.reads p.records p.histories in
    let u : State = followed (with_pumped s p) a in
    let same : u ≡ other u p.reads p.records p.histories s.aliases = followed_apart (with_pumped s p) a p.reads p.records p.histories s.aliases in
    let first : settled_state s ≡ settled_from s (record t { acts = a ∷ t.acts }) = ap (settled_from s) (e ∙ ap (λ (o : Option Act). after_act o p t) act) in
    let served : settled u.aliases u.reads u.records u.histories ≡ t = ap (λ (v : State). settled v.aliases v.reads v.records v.histories) same in
    let alike : record u { reads = t.reads; records = t.records; histories = t.histories } ≡ other u t.reads t.records t.histories s.aliases = ap (λ (v : State). other u t.reads t.records t.histories v.aliases) same in
    let apart : followed (other (with_pumped s p) t.reads t.records t.histories s.aliases) a ≡ other u t.reads t.records t.histories s.aliases = followed_apart (with_pumped s p) a t.reads t.records t.histories s.aliases in
    ap (settled_from u) served ∙ ap (λ (v : State). fold followed v t.acts) (alike ∙ sym apart) ∙ sym first

-- where no step is left, the console is served
pub settled_last : (s : State) (p : Pumped) → settled s.aliases s.reads s.records s.histories ≡ settled_after s.aliases p → p.act ≡ None → with_pumped s p ≡ settled_state s
unfolding settled_state settled_after before
settled_last s p e act = sym (ap (settled_from s) (e ∙ ap (λ (o : Option Act). after_act o p (settled s.aliases p.reads p.records p.histories)) act))

-- ---- a line that shows

pub shown_is : (s : State) (p : ℕ) (n : Noted) (old new : Cooked) (e : Echoed) (b : Buffers) (ns : List Noted) → Some n ≡ noted_of s.noted p → shows_line s.buffers n ≡ true → e ≡ echoed (screen_at s.buffers n.buffer.0) n.origin (line_text old) (line_text new) (line_of new).line.caret
    → b ≡ screen_left s.buffers n.buffer.0 e.screen → ns ≡ note_changed (λ m. record m { origin = e.origin }) s.noted n.process → record s { buffers = b; noted = ns } ≡ line_shown s (noted_of s.noted p) old new
shown_is s p n old new e b ns found shows is left notes = by_note (noted_of s.noted p) found
  where
    by_test : (t : Bool) → t ≡ true → record s { buffers = b; noted = ns } ≡ cond t (with_echo s n (echoed (screen_at s.buffers n.buffer.0) n.origin (line_text old) (line_text new) (line_of new).line.caret)) s
    by_test true h = ap (λ (x : Buffers). record s { buffers = x; noted = ns }) left ∙ ap (λ (x : List Noted). record s { buffers = screen_left s.buffers n.buffer.0 e.screen; noted = x }) notes ∙ ap (with_echo s n) is
    by_test false h = cc

    by_note : (o : Option Noted) → Some n ≡ o → record s { buffers = b; noted = ns } ≡ line_shown s o old new
    by_note None h = cc
    by_note (Some m) h =
        let same : n ≡ m = cc in
        subst (λ (x : Noted). record s { buffers = b; noted = ns } ≡ line_shown s (Some x) old new) same (by_test (shows_line s.buffers n) shows)

-- what shows of an echo that a step tells
pub echo_follows : (s t : State) (p : ℕ) (echo : Echo) (step : ReadStep) (act : Option Act) → step ≡ steps.Echo p echo → IsOf step act → IsTold act s.reads
    → ((old new : Cooked) → echo ≡ echo_between (line_of old).line (line_of new).line → head_text s.reads ≡ line_text new → t ≡ line_shown s (noted_of s.noted p) old new)
    → t ≡ followed_by s act
echo_follows s t p echo step act is of told shown = by_act (subst (λ (x : ReadStep). IsOf x act) is of)
  where
    by_act : IsOf (steps.Echo p echo) act → t ≡ followed_by s act
    by_act one = subst (λ (a : Option Act). t ≡ followed_by s a) (sym one.2) (shown one.0 one.1 one.3 (told p one.0 one.1 one.2))

-- ---- one step

pub stepped_is : (s t u : State) (step : ReadStep) → t ≡ with_pumped s (pumped_of s) → ((act : Option Act) → IsOf step act → IsTold act t.reads → u ≡ followed_by t act) → IsOf step (pumped_of s).act → IsTold (pumped_of s).act (pumped_of s).reads → u ≡ stepped s
stepped_is s t u step pump follow tells told =
    follow (pumped_of s).act tells (subst (λ (x : State). IsTold (pumped_of s).act x.reads) (sym pump) told) ∙ ap (λ (x : State). followed_by x (pumped_of s).act) pump

pub stepped_goes : (s u : State) → u ≡ stepped s → settled s.aliases s.reads s.records s.histories ≡ settled_after s.aliases (pumped_of s) → is_some (pumped_of s).act ≡ true → settled_state u ≡ settled_state s
stepped_goes s u is settles some = ap settled_state is ∙ by_act (pumped_of s).act refl some
  where
    by_act : (o : Option Act) → (pumped_of s).act ≡ o → is_some o ≡ true → settled_state (followed_by (with_pumped s (pumped_of s)) o) ≡ settled_state s
    by_act None e h = cc
    by_act (Some a) e h = settled_next s (pumped_of s) a settles e

pub stepped_ends : (s u : State) → u ≡ stepped s → settled s.aliases s.reads s.records s.histories ≡ settled_after s.aliases (pumped_of s) → is_some (pumped_of s).act ≡ false → u ≡ settled_state s
stepped_ends s u is settles none = is ∙ by_act (pumped_of s).act refl none
  where
    by_act : (o : Option Act) → (pumped_of s).act ≡ o → is_some o ≡ false → followed_by (with_pumped s (pumped_of s)) o ≡ settled_state s
    by_act None e h = settled_last s (pumped_of s) settles e
    by_act (Some a) e h = cc

pub stepped_less : (s u : State) → u ≡ stepped s → (is_some (pumped_of s).act ≡ true → work (pumped_of s).reads (pumped_of s).records < work s.reads s.records) → is_some (pumped_of s).act ≡ true → work u.reads u.records < work s.reads s.records
stepped_less s u is less some = subst (λ (n : ℕ). n < work s.reads s.records) (sym (ap (λ (x : State). work x.reads x.records) (is ∙ by_act (pumped_of s).act))) (less some)
  where
    by_act : (o : Option Act) → followed_by (with_pumped s (pumped_of s)) o ≡ other (followed_by (with_pumped s (pumped_of s)) o) (pumped_of s).reads (pumped_of s).records (pumped_of s).histories s.aliases
    by_act None = refl
    by_act (Some a) = followed_apart (with_pumped s (pumped_of s)) a (pumped_of s).reads (pumped_of s).records (pumped_of s).histories s.aliases

pub is_more : (r b : Bool) → r ≡ not b → not r ≡ true → b ≡ true
is_more true true e h = cc
is_more true false e h = cc
is_more false true e h = refl
is_more false false e h = cc

pub is_none_more : (r b : Bool) → r ≡ not b → not r ≡ false → b ≡ false
is_none_more true true e h = cc
is_none_more true false e h = refl
is_none_more false true e h = cc
is_none_more false false e h = cc
