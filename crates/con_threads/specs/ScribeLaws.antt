-- What an actor has seen, put together, and what it is to each kind of actor.
use Rattle.std.proofs.Common.{◌≡◌, ℕ, Bool, true, false, ◌&&◌, List, [], ◌∷◌, ◌++◌, Some, refl, sym, ap, ◌∙◌, subst, append_assoc, append-nil}
use Rattle.std.specs.Prelude.{not, eqb}
use Rattle.std.specs.List.{list_all}
use Rattle.std.proofs.lemmas.Bool.{eq-eqb, eqb-true}
use Rattle.std.proofs.lemmas.List.Folds.{list_all-append}
use Rattle.con_book.specs.Laws.{begins_itself, begins_further}
use Rattle.con_book.specs.Passes.{seen}
use Rattle.con_events.specs.declared.actor.Actor.{Actor}
use Rattle.con_events.specs.declared.actor.Actor.TheVariants as actors
use Rattle.con_events.specs.declared.entry.Entry.{Entry}
use Rattle.con_events.specs.declared.event.Event.{Event}
use Rattle.con_machine.specs.History.{run, is_legal}
use Rattle.con_machine.specs.HistoryLaws.{run-append, legal-append, legal-one}
use Rattle.con_machine.specs.State.{State}
use Rattle.con_machine.specs.Step.{step, is_ready}
use Rattle.con_machine.specs.Turns.{is_client, is_terminal}
use Rattle.con_actors.specs.Words.Desk.{brief_of, entry, is_painter, Ran}
use Rattle.con_threads.specs.Ledger.{brief_told, TellsPicture}
use Rattle.con_threads.specs.Scribe.{opened, is_same, IsSameScribe, SeesMore, HasEntered}
use Rattle.con_threads.specs.declared.ledger.LedgerView.{LedgerView}
use Rattle.con_threads.specs.declared.ledger.Told.{Told}
use Rattle.con_threads.specs.declared.scribe.Scribe.{Scribe}

both_true : (a b : Bool) → a ≡ true → b ≡ true → (a && b) ≡ true
both_true a b e f = rw (e, f) refl

-- ---- the same scribe

pub same_self : (s : Scribe) → IsSameScribe s s
same_self s = record { pass = (refl, (refl, refl, refl, refl, refl, refl)); actor = refl; more = begins_itself (seen s.pass) }

pub same_then : (s t u : Scribe) → IsSameScribe s t → IsSameScribe t u → IsSameScribe s u
same_then s t u x y = record {
  pass = (
    y.pass.0 ∙ x.pass.0,
    (
      y.pass.1.0 ∙ x.pass.1.0,
      y.pass.1.1 ∙ x.pass.1.1,
      y.pass.1.2 ∙ x.pass.1.2,
      y.pass.1.3
          ∙ x.pass.1.3,
      y.pass.1.4 ∙ x.pass.1.4,
      y.pass.1.5 ∙ x.pass.1.5,
    ),
  );
  actor = y.actor ∙ x.actor;
  more = begins_further (seen u.pass) (seen t.pass) (seen s.pass) y.more x.more;
}

-- the console began as it did
pub same_opened : (s t : Scribe) → IsSameScribe s t → opened t ≡ opened s
same_opened s t x = ap (λ (p : LedgerView). p.state) x.pass.1.0

-- ---- more was seen, and then more

pub sees_here : (s : State) (a : Actor) (h : List Entry) → SeesMore s a h h
sees_here s a h = record { between = []; others = refl; legal = refl; entries' = sym (append-nil h) }

pub sees_run : (s : State) (a : Actor) (h g : List Entry) (x : SeesMore s a h g) → run s g ≡ run (run s h) x.between
sees_run s a h g x = ap (λ (z : List Entry). run s z) x.entries' ∙ run-append s h x.between

-- a history that is legal stays so
pub sees_legal : (s : State) (a : Actor) (h g : List Entry) → SeesMore s a h g → is_legal s h ≡ true → is_legal s g ≡ true
sees_legal s a h g x l = ap (λ (z : List Entry). is_legal s z) x.entries'
    ∙ (legal-append s h x.between ∙ both_true (is_legal s h) (is_legal (run s h) x.between) l x.legal)

-- entries of others behind entries of others
pub others_then : (a : Actor) (xs ys : List Entry) → list_all (λ z. not (is_same a z.actor)) xs ≡ true
    → list_all (λ z. not (is_same a z.actor)) ys ≡ true → list_all (λ z. not (is_same a z.actor)) (xs ++ ys) ≡ true
others_then a xs ys e f = list_all-append (λ z. not (is_same a z.actor)) xs ys
    ∙ both_true (list_all (λ z. not (is_same a z.actor)) xs) (list_all (λ z. not (is_same a z.actor)) ys) e f

legal_then : (s : State) (a : Actor) (h g : List Entry) (x : SeesMore s a h g) (ys : List Entry) → is_legal (run s g) ys ≡ true
    → is_legal (run s h) (x.between ++ ys) ≡ true
legal_then s a h g x ys l =
    legal-append (run s h) x.between ys
    ∙ both_true (is_legal (run s h) x.between) (is_legal (run (run s h) x.between) ys) x.legal
    (ap (λ (t : State). is_legal t ys) (sym (sees_run s a h g x)) ∙ l)

-- the entries between, behind those that were there
between_then : (s : State) (a : Actor) (h g : List Entry) (x : SeesMore s a h g) (ys : List Entry) → g ++ ys ≡ h ++ (x.between ++ ys)
between_then s a h g x ys = ap (λ (z : List Entry). z ++ ys) x.entries' ∙ append_assoc h x.between ys

pub sees_then : (s : State) (a : Actor) (h g k : List Entry) → SeesMore s a h g → SeesMore s a g k → SeesMore s a h k
sees_then s a h g k x y = record {
  between = x.between ++ y.between;
  others = others_then a x.between y.between x.others y.others;
  legal = legal_then s a h g x y.between y.legal;
  entries' = y.entries' ∙ between_then s a h g x y.between;
}

pub sees_entered : (s : State) (a : Actor) (e : Event) (t : Told) (h g k : List Entry) → SeesMore s a h g → HasEntered s a e t g k → HasEntered s a e t h k
sees_entered s a e t h g k x y =
    let there : g ++ y.between ≡ h ++ (x.between ++ y.between) = between_then s a h g x y.between in
    let R : List Entry → Type 0 = λ z. is_ready (run s z) a e ≡ true in
    let B : List Entry → Type 0 = λ z. brief_told t ≡ brief_of (step (run s z) a e).reply in
    let T : List Entry → Type 0 = λ z. TellsPicture t (run s z) (Some a) e in
    record {
      between = x.between ++ y.between;
      others = others_then a x.between y.between x.others y.others;
      legal = legal_then s a h g x y.between y.legal;
      entries' = y.entries' ∙ ap (λ (z : List Entry). z ++ entry a e ∷ []) there;
      ready = subst R there y.ready;
      brief = subst B there y.brief;
      tells = subst T there y.tells;
    }

-- ---- an entry of its own: what was there before it, and behind it

pub entered_sees : (s : State) (a : Actor) (e : Event) (t : Told) (h g : List Entry) (x : HasEntered s a e t h g) → SeesMore s a h (h ++ x.between)
entered_sees s a e t h g x = record { between = x.between; others = x.others; legal = x.legal; entries' = refl }

pub entered_run : (s : State) (a : Actor) (e : Event) (t : Told) (h g : List Entry) (x : HasEntered s a e t h g)
    → run s g ≡ (step (run s (h ++ x.between)) a e).after
entered_run s a e t h g x = ap (λ (z : List Entry). run s z) x.entries' ∙ run-append s (h ++ x.between) (entry a e ∷ [])

pub entered_legal : (s : State) (a : Actor) (e : Event) (t : Told) (h g : List Entry) → HasEntered s a e t h g → is_legal s h ≡ true → is_legal s g ≡ true
entered_legal s a e t h g x l =
    ap (λ (z : List Entry). is_legal s z) x.entries'
    ∙ legal-one s (h ++ x.between) (entry a e) (sees_legal s a h (h ++ x.between) (entered_sees s a e t h g x) l) x.ready

-- ---- what entries of others are to each kind of actor

same_tests : (p q : Entry → Bool) → ((x : Entry) → p x ≡ q x) → (xs : List Entry) → list_all (λ x. not (p x)) xs ≡ list_all (λ x. not (q x)) xs
same_tests p q same [] = refl
same_tests p q same (x ∷ xs) = λ i. not (same x i) && same_tests p q same xs i

equal_by : (p q : ℕ) (b c : Bool) → eqb p q ≡ b → eqb q p ≡ c → b ≡ c
equal_by p q true true e f = refl
equal_by p q true false e f = absurd (let k : true ≡ false = sym (eq-eqb q p (sym (eqb-true p q e))) ∙ f in cc)
equal_by p q false true e f = absurd (let k : true ≡ false = sym (eq-eqb p q (sym (eqb-true q p f))) ∙ e in cc)
equal_by p q false false e f = refl

same_client : (p : ℕ) (a : Actor) → is_same (actors.Client p) a ≡ is_client p a
same_client p (actors.Client q) = equal_by p q (eqb p q) (eqb q p) refl refl
same_client p actors.Terminal = refl
same_client p actors.Painter = refl

same_terminal : (a : Actor) → is_same actors.Terminal a ≡ is_terminal a
same_terminal (actors.Client q) = refl
same_terminal actors.Terminal = refl
same_terminal actors.Painter = refl

same_painter : (a : Actor) → is_same actors.Painter a ≡ is_painter a
same_painter (actors.Client q) = refl
same_painter actors.Terminal = refl
same_painter actors.Painter = refl

pub no_client : (p : ℕ) (xs : List Entry) → list_all (λ x. not (is_same (actors.Client p) x.actor)) xs ≡ true
    → list_all (λ x. not (is_client p x.actor)) xs ≡ true
no_client p xs e = sym (same_tests (λ x. is_same (actors.Client p) x.actor) (λ x. is_client p x.actor) (λ x. same_client p x.actor) xs) ∙ e

pub no_terminal : (xs : List Entry) → list_all (λ x. not (is_same actors.Terminal x.actor)) xs ≡ true → list_all (λ x. not (is_terminal x.actor)) xs ≡ true
no_terminal xs e = sym (same_tests (λ x. is_same actors.Terminal x.actor) (λ x. is_terminal x.actor) (λ x. same_terminal x.actor) xs) ∙ e

pub no_painter : (xs : List Entry) → list_all (λ x. not (is_same actors.Painter x.actor)) xs ≡ true → list_all (λ x. not (is_painter x.actor)) xs ≡ true
no_painter xs e = sym (same_tests (λ x. is_same actors.Painter x.actor) (λ x. is_painter x.actor) (λ x. same_painter x.actor) xs) ∙ e

-- to the painter the console ran on
pub sees_ran : (s : State) (h g : List Entry) → SeesMore s actors.Painter h g → Ran (run s h) (run s g) h g
sees_ran s h g x = record {
  entries = x.between;
  after' = x.entries';
  state = sees_run s actors.Painter h g x;
  legal = x.legal;
  others =
      no_painter x.between x.others;
}
