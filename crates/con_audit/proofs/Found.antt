-- What is found of an entry, and of the end.
use Rattle.std.proofs.Common.{◌≡◌, inl, inr, ℕ, ◌<◌, ◌≤◌, ◌==◌, Bool, true, false, not, ◌&&◌, List, length, take, get_or, refl, sym, ap, ◌∙◌, subst, arith}
use Rattle.std.specs.Prelude.{◌↔◌, slice_get, Some}
use Rattle.std.proofs.lemmas.Bool.{and_parts}
use Rattle.std.proofs.lemmas.Bool.Decides.{nat_tests}
use Rattle.std.proofs.lemmas.List.{length-take-le, take_all}
use Rattle.std.proofs.lemmas.Option.{slice_get_read}
use Rattle.con_units.specs.declared.view.Frame.{Frame}
use Rattle.con_events.specs.declared.actor.Actor.TheVariants as actors
use Rattle.con_events.specs.declared.entry.Entry.{Entry}
use Rattle.con_events.specs.declared.event.Event.TheVariants as events
use Rattle.con_events.specs.declared.reply.Reply.{Reply}
use Rattle.con_machine.specs.Client.{Client}
use Rattle.con_machine.specs.State.{State}
use Rattle.con_machine.specs.Step.{is_ready}
use Rattle.con_machine.specs.Turns.{sent, has_ended}
use Rattle.con_audit.specs.Audit.{Given, Holds, Passes, last_end, parts}
use Rattle.con_audit.specs.OneMore.{Keeps, client_now}
use Rattle.con_audit.specs.Side.{Side}
use Rattle.con_audit.specs.Watching.{Watch}
use Rattle.con_audit.specs.Judging.{Stands, Reads, FailsToKeep, KeepAll, all_gone}
use Rattle.con_audit.specs.declared.verdict.What.TheVariants as what
use Rattle.con_audit.proofs.Behind.{ended_is}
use Rattle.con_audit.proofs.Ending.{IsDone, done_is_whole, whole_is_done}
use Rattle.con_audit.proofs.Tracks.{all_left, left_all}

-- ---- of an entry

pub fails : {A : Type 0} (b : Bool) → (b ≡ true) ↔ A → b ≡ false → A → ⊥
fails b i n a = let e : true ≡ false = sym (i.1 a) ∙ n in absurd (cc)

pub not_ready : (g : Given) (frames : List Frame) (h : List Entry) (x : Entry) (a : Bool) → (a ≡ true) ↔ Keeps what.Ready g frames h x → a ≡ false → FailsToKeep parts what.Ready g frames h x
not_ready g frames h x a i n = inl (refl, fails a i n)

pub not_said : (g : Given) (frames : List Frame) (h : List Entry) (x : Entry) (a b : Bool) → (a ≡ true) ↔ Keeps what.Ready g frames h x → a ≡ true
    → (b ≡ true) ↔ Keeps what.Reply g frames h x → b ≡ false → FailsToKeep parts what.Reply g frames h x
not_said g frames h x a b i e j n = inr (i.0 e, inl (refl, fails b j n))

pub not_following : (g : Given) (frames : List Frame) (h : List Entry) (x : Entry) (a b c : Bool) → (a ≡ true) ↔ Keeps what.Ready g frames h x → a ≡ true
    → (b ≡ true) ↔ Keeps what.Reply g frames h x → b ≡ true → (c ≡ true) ↔ Keeps what.Follows g frames h x → c ≡ false → FailsToKeep parts what.Follows g frames h x
not_following g frames h x a b c i e j f k n = inr (i.0 e, inr (j.0 f, inl (refl, fails c k n)))

pub not_ended : (g : Given) (frames : List Frame) (h : List Entry) (x : Entry) (a b c d : Bool) → (a ≡ true) ↔ Keeps what.Ready g frames h x → a ≡ true
    → (b ≡ true) ↔ Keeps what.Reply g frames h x → b ≡ true → (c ≡ true) ↔ Keeps what.Follows g frames h x → c ≡ true
    → (d ≡ true) ↔ Keeps what.End g frames h x → d ≡ false → FailsToKeep parts what.End g frames h x
not_ended g frames h x a b c d i e j f k y l n = inr (i.0 e, inr (j.0 f, inr (k.0 y, inl (refl, fails d l n))))

pub not_shown : (g : Given) (frames : List Frame) (h : List Entry) (x : Entry) (a b c d s : Bool) → (a ≡ true) ↔ Keeps what.Ready g frames h x → a ≡ true
    → (b ≡ true) ↔ Keeps what.Reply g frames h x → b ≡ true → (c ≡ true) ↔ Keeps what.Follows g frames h x → c ≡ true
    → (d ≡ true) ↔ Keeps what.End g frames h x → d ≡ true → (s ≡ true) ↔ Keeps what.Shows g frames h x → s ≡ false → FailsToKeep parts what.Shows g frames h x
not_shown g frames h x a b c d s i e j f k y l z m n = inr (i.0 e, inr (j.0 f, inr (k.0 y, inr (l.0 z, inl (refl, fails s m n)))))

pub nothing_found : (g : Given) (frames : List Frame) (h : List Entry) (x : Entry) (a b c d s : Bool) → (a ≡ true) ↔ Keeps what.Ready g frames h x → a ≡ true
    → (b ≡ true) ↔ Keeps what.Reply g frames h x → b ≡ true → (c ≡ true) ↔ Keeps what.Follows g frames h x → c ≡ true
    → (d ≡ true) ↔ Keeps what.End g frames h x → d ≡ true → (s ≡ true) ↔ Keeps what.Shows g frames h x → s ≡ true → KeepAll parts g frames h x
nothing_found g frames h x a b c d s i e j f k y l z m n = (i.0 e, (j.0 f, (k.0 y, (l.0 z, (m.0 n, tt)))))

-- ---- of all entries

-- the reply that stands beside an entry
pub reply_at : (g : Given) (stream : List ℕ) (entries : List Entry) (answers : List Reply) (ends : List ℕ) (k : ℕ) (r : Reply) → Reads g stream entries answers ends
    → length answers ≡ length entries → k < length entries → r ≡ get_or answers k r → slice_get g.replies (length (take k g.entries)) ≡ Some r
reply_at g stream entries answers ends k r is same lt e =
    let at : length (take k g.entries) ≡ k = ap (λ (es : List Entry). length (take k es)) is.entries' ∙ length-take-le k entries (omega (arith, lt)) in
    ap (slice_get g.replies) at ∙ ap (λ (rs : List Reply). slice_get rs k) is.replies ∙ slice_get_read answers (length entries) k r (sym same) lt e

equal : (a b : ℕ) → a ≡ b → (a == b) ≡ true
equal a b e = grind (arith, nat_tests)

equal_is : (a b : ℕ) → (a == b) ≡ true → a ≡ b
equal_is a b e = grind (arith, nat_tests)

not_is : (b : Bool) → not b ≡ true → b ≡ false
not_is true e = absurd (cc)
not_is false e = refl

all_true : (a b c d : Bool) → a ≡ true → b ≡ true → c ≡ true → d ≡ false → (a && (b && (c && not d))) ≡ true
all_true a b c d e f k l = rw (e, f, k, l) refl

abbrev side_ended : Side → Bool
side_ended side = side.sender.ended

ended_at : (frames : List Frame) (s : State) (tracks : List Client) (side : Side) (watch : Watch) (g : Given) → Stands s tracks side watch g frames g.entries → side.sender.ended ≡ has_ended false (sent g.entries)
ended_at frames s tracks side watch g b = ap side_ended b.side' ∙ ended_is _ (sent g.entries)

pub tries_whole : (s : State) (tracks : List Client) (side : Side) (watch : Watch) (g : Given) (frames : List Frame) (stream ends : List ℕ) (b : Bool)
    → Stands s tracks side watch g frames g.entries → Passes g frames g.entries → g.stream ≡ stream → g.ends ≡ ends
    → b ≡ ((last_end 0 ends == length stream) && (all_gone tracks && (side.sender.ended && not (is_ready s actors.Painter events.Paint))))
    → (b ≡ true) ↔ Holds what.Whole g frames g.entries
tries_whole s tracks side watch g frames stream ends b a p d e is = (
  (λ y.
      let t = and_parts (last_end 0 ends == length stream) (all_gone tracks && (side.sender.ended && not (is_ready s actors.Painter events.Paint))) (sym is ∙ y) in
      let u = and_parts (all_gone tracks) (side.sender.ended && not (is_ready s actors.Painter events.Paint)) t.1 in
      let v = and_parts side.sender.ended (not (is_ready s actors.Painter events.Paint)) u.1 in
      done_is_whole g frames (record {
        ends = ap (last_end 0) e ∙ equal_is (last_end 0 ends) (length stream) t.0 ∙ ap length (sym d);
        left = all_left (length g.session.scripts) (client_now g g.entries) tracks a.clients u.0;
        ended = sym (ended_at frames s tracks side watch g a) ∙ v.0;
        quiet = ap (λ (r : State). is_ready r actors.Painter events.Paint) (sym a.console) ∙ not_is (is_ready s actors.Painter events.Paint) v.1;
      })),
  (λ y.
      let w = whole_is_done g frames p y in
      is ∙ all_true (last_end 0 ends == length stream) (all_gone tracks) side.sender.ended (is_ready s actors.Painter events.Paint)
      (equal (last_end 0 ends) (length stream) (ap (last_end 0) (sym e) ∙ w.ends ∙ ap length d))
      (left_all (length g.session.scripts) (client_now g g.entries) tracks a.clients w.left)
      (ended_at frames s tracks side watch g a ∙ w.ended)
      (ap (λ (r : State). is_ready r actors.Painter events.Paint) a.console ∙ w.quiet)),
)

-- behind all entries
pub whole_at : (s : State) (tracks : List Client) (side : Side) (watch : Watch) (g : Given) (frames : List Frame) (stream ends : List ℕ) (b : Bool) (k : ℕ) → length g.entries ≤ k
    → Stands s tracks side watch g frames (take k g.entries) → Passes g frames (take k g.entries) → g.stream ≡ stream → g.ends ≡ ends
    → b ≡ ((last_end 0 ends == length stream) && (all_gone tracks && (side.sender.ended && not (is_ready s actors.Painter events.Paint))))
    → (b ≡ true) ↔ Holds what.Whole g frames g.entries
whole_at s tracks side watch g frames stream ends b k le a p d e is =
    tries_whole s tracks side watch g frames stream ends b (subst (Stands s tracks side watch g frames) (take_all k g.entries le) a) (subst (Passes g frames) (take_all k g.entries le) p) d e is
