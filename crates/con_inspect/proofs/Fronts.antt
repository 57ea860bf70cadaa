-- A front of entries that pass passes, so an audit finds a yes or a no, and never both.
use Rattle.std.proofs.Common.{◌≡◌, inl, inr, refl, sym, ap, ◌∙◌, subst, append_assoc, ℕ, ◌+◌, ◌≤◌, Bool, true, false, List, [], ◌∷◌, ◌++◌, length, take, drop}
use Rattle.std.proofs.lemmas.Bool.{and_parts}
use Rattle.std.proofs.lemmas.List.{take-append-drop}
use Rattle.std.specs.Prelude.{if◌then◌else◌}
use Rattle.con_units.specs.declared.view.Frame.{Frame}
use Rattle.con_units.specs.declared.view.Sight.{Sight}
use Rattle.con_events.specs.declared.end.End.TheVariants as ends
use Rattle.con_events.specs.declared.entry.Entry.{Entry}
use Rattle.con_events.specs.declared.reply.Reply.{Reply}
use Rattle.con_machine.specs.Along.{Along}
use Rattle.con_machine.specs.Client.{moved_on, starting}
use Rattle.con_machine.specs.Words.Client.{May}
use Rattle.con_machine.specs.Follows.{MaySend, sent_one, MayAct, are_of_session, session_start, is_cut, is_lost, is_one_of, steps_of, kinds_of}
use Rattle.con_machine.specs.Words.Follows.{asks}
use Rattle.con_machine.specs.History.{is_legal}
use Rattle.con_machine.specs.Sights.{sights_of, sights_at}
use Rattle.con_machine.specs.State.{State}
use Rattle.con_machine.specs.Step.{is_ready}
use Rattle.con_machine.specs.Turns.{turns, turn_of, sent, moved, is_client, is_terminal}
use Rattle.con_link.specs.Only.{OneAnswer}
use Rattle.con_audit.specs.Audit.{Given, AreReplied, Holds, FirstFails, Passes, IsAudited, parts}
use Rattle.con_audit.specs.Verdicts.{HoldAll, Stops}
use Rattle.con_audit.specs.Watching.{Watch, watching, watched, HasEnd, IsSeen}
use Rattle.con_audit.specs.declared.verdict.What.{What}
use Rattle.con_audit.specs.declared.verdict.What.TheVariants as what
use Rattle.con_audit.specs.declared.verdict.Verdict.TheVariants as verdicts
use Rattle.con_inspect.proofs.OneList.{one_list}

-- ---- fronts

along_front : {S X : Type 0} (may : S → X → Type 0) (move : S → X → S) (s : S) (xs ys : List X) → Along may move s (xs ++ ys) → Along may move s xs
along_front may move s [] ys a = tt
along_front may move s (x ∷ xs) ys a = (a.0, along_front may move (move s x) xs ys a.1)

legal_front : (s : State) (xs ys : List Entry) → is_legal s (xs ++ ys) ≡ true → is_legal s xs ≡ true
legal_front s [] ys e = refl
legal_front s (x ∷ xs) ys e =
    let p = and_parts (is_ready s x.actor x.event) (is_legal (moved s x) (xs ++ ys)) e in
    let q = legal_front (moved s x) xs ys p.1 in rw (p.0, q) refl

replied_front : (s : State) (xs ys : List Entry) (rs : List Reply) → AreReplied s (xs ++ ys) rs → AreReplied s xs rs
replied_front s [] ys rs a = tt
replied_front s (x ∷ xs) ys [] a = a
replied_front s (x ∷ xs) ys (r ∷ rs) a = (a.0, replied_front (moved s x) xs ys rs a.1)

of_session_front : (n : ℕ) (xs ys : List Entry) → are_of_session n (xs ++ ys) ≡ true → are_of_session n xs ≡ true
of_session_front n [] ys e = refl
of_session_front n (x ∷ xs) ys e =
    let p = and_parts (is_one_of n x.actor) (are_of_session n (xs ++ ys)) e in
    let q = of_session_front n xs ys p.1 in rw (p.0, q) refl

-- these items stand at the front of those
abbrev IsFront : {X : Type 0} → List X → List X → Type 0
IsFront {X} xs all = (rest : List X) × (all ≡ xs ++ rest)

one_before : {X : Type 0} (b : Bool) (x : X) (xs all : List X) → IsFront xs all → IsFront (if b then x ∷ xs else xs) (if b then x ∷ all else all)
one_before true x xs all f = (f.0, ap (λ zs. x ∷ zs) f.1)
one_before false x xs all f = f

turns_front : (s : State) (p : ℕ) (xs ys : List Entry) → IsFront (turns s p xs) (turns s p (xs ++ ys))
turns_front s p [] ys = (turns s p ys, refl)
turns_front s p (x ∷ xs) ys =
    one_before (is_client p x.actor) (turn_of s p x) (turns (moved s x) p xs) (turns (moved s x) p (xs ++ ys)) (turns_front (moved s x) p xs ys)

sent_front : (xs ys : List Entry) → IsFront (sent xs) (sent (xs ++ ys))
sent_front [] ys = (sent ys, refl)
sent_front (x ∷ xs) ys = one_before (is_terminal x.actor) x.event (sent xs) (sent (xs ++ ys)) (sent_front xs ys)

sights_front : (s : State) (xs ys : List Entry) → IsFront (sights_of s xs) (sights_of s (xs ++ ys))
sights_front s [] ys = (sights_of s ys, refl)
sights_front s (x ∷ xs) ys =
    let f = sights_front (moved s x) xs ys in
    (f.0, ap (λ (ss : List Sight). sights_at s x.event ++ ss) f.1 ∙ sym (append_assoc (sights_at s x.event) (sights_of (moved s x) xs) f.0))

along_of : {S X : Type 0} (may : S → X → Type 0) (move : S → X → S) (s : S) (xs all : List X) → IsFront xs all → Along may move s all → Along may move s xs
along_of may move s xs all f a = along_front may move s xs f.0 (subst (Along may move s) f.1 a)

-- ---- fronts that pass

module _ (g : Given) (frames : List Frame) (h more : List Entry) where
  abbrev first : State
  first = session_start g.session g.racks

  follows_front : Holds what.Follows g frames (h ++ more) → Holds what.Follows g frames h
  follows_front f = record {
    actors = of_session_front (length g.session.scripts) h more f.actors;
    clients = λ p low high.
        along_of May moved_on (starting (steps_of g.session p) (kinds_of g.racks p)) (turns first p h) (turns first p (h ++ more))
        (turns_front first p h more) (f.clients p low high);
    link = along_of (MaySend (is_cut ends.Done)) sent_one (record { coming = frames; ended = false }) (sent h) (sent (h ++ more)) (sent_front h more) f.link;
    answered = along_front (λ out x. MayAct (is_lost ends.Done) out x.actor) asks false h more f.answered;
  }

  sights_along : (may : Watch → Sight → Type 0) → Along may (watched g.stream) (watching g.session.size g.ends) (sights_of first (h ++ more))
      → Along may (watched g.stream) (watching g.session.size g.ends) (sights_of first h)
  sights_along may a = along_of may (watched g.stream) (watching g.session.size g.ends) (sights_of first h) (sights_of first (h ++ more)) (sights_front first h more) a

  pub passes_front : Passes g frames (h ++ more) → Passes g frames h
  passes_front p = (
    legal_front first h more p.0,
    (
      replied_front first h more g.replies p.1.0,
      (
        follows_front p.1.1.0,
        (
          sights_along (HasEnd g.stream) p.1.1.1.0,
          (
            sights_along (IsSeen g.stream) p.1.1.1.1.0,
            tt,
          ),
        ),
      ),
    ),
  )

-- of parts that all hold none is the first that fails
none_fails : (ws : List What) (w : What) (g : Given) (frames : List Frame) (h : List Entry) → HoldAll ws g frames h → FirstFails ws w g frames h → ⊥
none_fails [] w g frames h all fails = fails
none_fails (v ∷ vs) w g frames h all fails = elim fails [
  | inl f ↦ f.1 all.0
  | inr f ↦ none_fails vs w g frames h all.1 f.1
]

split : (k : ℕ) (es : List Entry) → es ≡ take k es ++ drop k es
split k es = sym (take-append-drop k es)

not_both : (g : Given) (frames : List Frame) (k : ℕ) (w : What) → Passes g frames g.entries → Holds what.Whole g frames g.entries → Stops g frames k w → ⊥
not_both g frames k w passes whole stops = elim stops.1 [
  | inl s ↦ none_fails parts w g frames (take (k + 1) g.entries)
      (passes_front g frames (take (k + 1) g.entries) (drop (k + 1) g.entries) (subst (Passes g frames) (split (k + 1) g.entries) passes)) s.1
  | inr s ↦ s.2 whole
]

-- an audit that finds a yes finds no no
pub yes_or_no : OneAnswer → (g : Given) (k : ℕ) (w : What) → length g.link ≤ 16777216 → IsAudited g verdicts.Yes → IsAudited g (verdicts.No k w) → ⊥
yes_or_no law g k w few y n =
    let same = one_list law g.link n.0 y.0 few n.1 y.1 in
    not_both g y.0 k w y.2.0 y.2.1 (subst (λ (fs : List Frame). Stops g fs k w) same n.2)
