-- What is noted of a process's line read while reads are served: whether a masked control ended it, and nothing else moves.
use Rattle.std.proofs.Common.{◌≡◌, ◌==◌, ◌||◌, ℕ, Bool, true, false, cond, List, [], ◌∷◌, ◌++◌, refl, ap, ◌∙◌, sym, Option, None, Some, true≢false}
use Rattle.std.specs.Prelude.{fold, if◌then◌else◌}
use Rattle.std.specs.List.{list_any}
use Rattle.std.proofs.lemmas.Bool.{eqb-true, eq-eqb}
use Rattle.con_cooked.specs.declared.cooked.Cooked.{Cooked}
use Rattle.con_readers.specs.Act.{Act, began, typed, passed, ended, woke}
use Rattle.con_readers.specs.Reads.{settled}
use Rattle.con_machine.specs.State.{State, noted_of, without_noted}
use Rattle.con_machine.specs.Serving.{settled_state, followed, started_on, note_changed}
use Rattle.con_machine.specs.Words.Serving.{line_shown, line_finished, shows_line}
use Rattle.con_machine.specs.declared.reads.noted.Noted.{Noted}

-- what a Collect looks at
pub record NoteTold : Type 0 where
  pub handle : ℕ
  pub n : ℕ
  pub woken : Bool

unfoldable pub told_of : Option Noted → Option NoteTold
told_of None = None
told_of (Some n) = Some (record { handle = n.handle; n = n.n; woken = n.woken })

unfoldable pub waked : Bool → Option NoteTold → Option NoteTold
waked false o = o
waked true None = None
waked true (Some t) = Some (record t { woken = true })

pub waked_none : (b : Bool) → waked b None ≡ None
unfolding waked
waked_none true = refl
waked_none false = refl

pub waked_on : (a b : Bool) (o : Option NoteTold) → waked b (waked a o) ≡ waked (a || b) o
unfolding waked
waked_on false b o = refl
waked_on true false o = refl
waked_on true true None = refl
waked_on true true (Some t) = refl

-- ---- one note is changed

same_by : (f : Noted → Noted) (n : Noted) (ns : List Noted) (q p : ℕ) (a b : Bool) → (n.process == q) ≡ a → (n.process == p) ≡ b → told_of (Some (f n)) ≡ told_of (Some n) → (f n).process ≡ n.process
    → told_of (noted_of (note_changed f ns q) p) ≡ told_of (noted_of ns p) → told_of (noted_of (note_changed f (n ∷ ns) q) p) ≡ told_of (noted_of (n ∷ ns) p)
unfolding told_of
same_by f n ns q p true true ea eb told process ih = rw ea (rw process (rw eb told))
same_by f n ns q p true false ea eb told process ih = rw ea (rw process (rw eb refl))
same_by f n ns q p false true ea eb told process ih = rw (ea, eb) refl
same_by f n ns q p false false ea eb told process ih = rw (ea, eb) ih

change_same : (f : Noted → Noted) → ((n : Noted) → told_of (Some (f n)) ≡ told_of (Some n)) → ((n : Noted) → (f n).process ≡ n.process) → (ns : List Noted) (q p : ℕ) → told_of (noted_of (note_changed f ns q) p) ≡ told_of (noted_of ns p)
change_same f told process [] q p = refl
change_same f told process (n ∷ ns) q p = same_by f n ns q p (n.process == q) (n.process == p) refl refl (told n) (process n) (change_same f told process ns q p)

abbrev wake : Noted → Noted
wake n = record n { woken = true }

wake_by : (n : Noted) (ns : List Noted) (q p : ℕ) (a b c : Bool) → (n.process == q) ≡ a → (n.process == p) ≡ b → (q == p) ≡ c → told_of (noted_of (note_changed wake ns q) p) ≡ waked (q == p) (told_of (noted_of ns p))
    → told_of (noted_of (note_changed wake (n ∷ ns) q) p) ≡ waked (q == p) (told_of (noted_of (n ∷ ns) p))
unfolding told_of waked
wake_by n ns q p true true c ea eb ec ih =
    let e : (q == p) ≡ true = ap (λ (k : ℕ). k == p) (sym (eqb-true n.process q ea)) ∙ eb in
    rw (ea, eb, e) refl
wake_by n ns q p true false c ea eb ec ih =
    let e : (q == p) ≡ false = ap (λ (k : ℕ). k == p) (sym (eqb-true n.process q ea)) ∙ eb in
    rw (ea, eb, e) refl
wake_by n ns q p false true false ea eb ec ih = rw (ea, eb, ec) refl
wake_by n ns q p false true true ea eb ec ih = absurd (true≢false (sym (eq-eqb n.process q (eqb-true n.process p eb ∙ sym (eqb-true q p ec))) ∙ ea))
wake_by n ns q p false false c ea eb ec ih = rw (ea, eb) ih

wake_one : (ns : List Noted) (q p : ℕ) → told_of (noted_of (note_changed wake ns q) p) ≡ waked (q == p) (told_of (noted_of ns p))
unfolding told_of
wake_one [] q p = sym (waked_none (q == p))
wake_one (n ∷ ns) q p = wake_by n ns q p (n.process == q) (n.process == p) (q == p) refl refl refl (wake_one ns q p)

-- ---- a step of serving

unfoldable pub woke_of : ℕ → Act → Bool
woke_of p (woke q line) = q == p
woke_of p (began q) = false
woke_of p (typed q old new) = false
woke_of p (passed q) = false
woke_of p (ended q read len) = false

either : (b : Bool) (x y : State) (p : ℕ) (o : Option NoteTold) → told_of (noted_of x.noted p) ≡ o → told_of (noted_of y.noted p) ≡ o → told_of (noted_of (if b then x else y).noted p) ≡ o
either true x y p o h g = h
either false x y p o h g = g

shown_note : (s : State) (n : Option Noted) (old new : Cooked) (p : ℕ) → told_of (noted_of (line_shown s n old new).noted p) ≡ told_of (noted_of s.noted p)
unfolding told_of
shown_note s None old new p = refl
shown_note s (Some n) old new p = either (shows_line s.buffers n) _ s p (told_of (noted_of s.noted p)) (change_same _ (λ m. refl) (λ m. refl) s.noted n.process p) refl

finished_note : (s : State) (n : Option Noted) (len p : ℕ) → told_of (noted_of (line_finished s n len).noted p) ≡ told_of (noted_of s.noted p)
finished_note s None len p = refl
finished_note s (Some n) len p = either (shows_line s.buffers n) _ s p (told_of (noted_of s.noted p)) refl refl

followed_note : (s : State) (a : Act) (p : ℕ) → told_of (noted_of (followed s a).noted p) ≡ waked (woke_of p a) (told_of (noted_of s.noted p))
unfolding woke_of waked told_of
followed_note s (began q) p = change_same (started_on s.buffers) (λ m. refl) (λ m. refl) s.noted q p
followed_note s (typed q old new) p = shown_note s (noted_of s.noted q) old new p
followed_note s (passed q) p = refl
followed_note s (ended q read len) p = finished_note s (noted_of s.noted q) len p
followed_note s (woke q line) p = wake_one s.noted q p

all_followed : (s : State) (acts : List Act) (p : ℕ) → told_of (noted_of (fold followed s acts).noted p) ≡ waked (list_any (woke_of p) acts) (told_of (noted_of s.noted p))
unfolding waked
all_followed s [] p = refl
all_followed s (a ∷ acts) p = all_followed (followed s a) acts p ∙ ap (waked (list_any (woke_of p) acts)) (followed_note s a p) ∙ waked_on (woke_of p a) (list_any (woke_of p) acts) (told_of (noted_of s.noted p))

pub settled_note : (s : State) (p : ℕ) → told_of (noted_of (settled_state s).noted p) ≡ waked (list_any (woke_of p) (settled s.aliases s.reads s.records s.histories).acts) (told_of (noted_of s.noted p))
unfolding settled_state
settled_note s p = let t = settled s.aliases s.reads s.records s.histories in all_followed (record s { reads = t.reads; records = t.records; histories = t.histories }) t.acts p

-- ---- notes go, and come

without_by : (n : Noted) (ns : List Noted) (p q : ℕ) (a b : Bool) → (n.process == p) ≡ a → (n.process == q) ≡ b → (p == q) ≡ false → noted_of (without_noted ns p) q ≡ noted_of ns q → noted_of (without_noted (n ∷ ns) p) q ≡ noted_of (n ∷ ns) q
without_by n ns p q true true ea eb other ih = absurd (true≢false (sym (eq-eqb p q (sym (eqb-true n.process p ea) ∙ eqb-true n.process q eb)) ∙ other))
without_by n ns p q true false ea eb other ih = rw (ea, eb) ih
without_by n ns p q false true ea eb other ih = rw ea (rw eb refl)
without_by n ns p q false false ea eb other ih = rw ea (rw eb ih)

pub without_other : (ns : List Noted) (p q : ℕ) → (p == q) ≡ false → noted_of (without_noted ns p) q ≡ noted_of ns q
without_other [] p q other = refl
without_other (n ∷ ns) p q other = without_by n ns p q (n.process == p) (n.process == q) refl refl other (without_other ns p q other)

gone_by : (n : Noted) (ns : List Noted) (p : ℕ) (a : Bool) → (n.process == p) ≡ a → noted_of (without_noted ns p) p ≡ None → noted_of (without_noted (n ∷ ns) p) p ≡ None
gone_by n ns p true e ih = rw e ih
gone_by n ns p false e ih = rw e (rw e ih)

pub without_own : (ns : List Noted) (p : ℕ) → noted_of (without_noted ns p) p ≡ None
without_own [] p = refl
without_own (n ∷ ns) p = gone_by n ns p (n.process == p) refl (without_own ns p)

behind_by : (m : Noted) (ns : List Noted) (n : Noted) (q : ℕ) (b : Bool) → (m.process == q) ≡ b → noted_of (ns ++ n ∷ []) q ≡ noted_of ns q → noted_of (m ∷ (ns ++ n ∷ [])) q ≡ noted_of (m ∷ ns) q
behind_by m ns n q true e ih = rw e refl
behind_by m ns n q false e ih = rw e ih

-- a note behind the others
pub behind_other : (ns : List Noted) (n : Noted) (q : ℕ) → (n.process == q) ≡ false → noted_of (ns ++ n ∷ []) q ≡ noted_of ns q
behind_other [] n q other = rw other refl
behind_other (m ∷ ns) n q other = behind_by m ns n q (m.process == q) refl (behind_other ns n q other)

is_own : (m : Noted) (ns : List Noted) (n : Noted) (b : Bool) → (m.process == n.process) ≡ b → noted_of (m ∷ ns) n.process ≡ None → (noted_of ns n.process ≡ None → noted_of (ns ++ n ∷ []) n.process ≡ Some n) → noted_of (m ∷ (ns ++ n ∷ [])) n.process ≡ Some n
is_own m ns n true e none ih = let no : Some m ≡ None = sym (ap (λ (b : Bool). cond b (Some m) (noted_of ns n.process)) e) ∙ none in cc
is_own m ns n false e none ih = rw e (ih (sym (ap (λ (b : Bool). cond b (Some m) (noted_of ns n.process)) e) ∙ none))

pub behind_own : (ns : List Noted) (n : Noted) → noted_of ns n.process ≡ None → noted_of (ns ++ n ∷ []) n.process ≡ Some n
behind_own [] n none = rw (eq-eqb n.process n.process refl) refl
behind_own (m ∷ ns) n none = is_own m ns n (m.process == n.process) refl none (behind_own ns n)
