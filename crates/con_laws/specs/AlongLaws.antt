-- One item more, or an entry more, behind what stands as it may.
use Rattle.std.proofs.Common.{◌≡◌, ℕ, Bool, true, false, ◌&&◌, List, [], ◌∷◌, ◌++◌, refl, sym, subst, ◌∙◌}
use Rattle.con_units.specs.declared.view.Frame.{Frame}
use Rattle.con_events.specs.declared.entry.Entry.{Entry}
use Rattle.con_events.specs.declared.script.Step.{Step}
use Rattle.con_machine.specs.State.{State}
use Rattle.con_machine.specs.Step.{is_ready}
use Rattle.con_machine.specs.Along.{Along}
use Rattle.con_machine.specs.Words.Along.{after}
use Rattle.con_machine.specs.History.{run, is_legal}
use Rattle.con_machine.specs.HistoryLaws.{legal-append, along-one, turns-own, sent-own}
use Rattle.con_machine.specs.Turns.{turns, turn_of, sent, is_client, is_terminal}
use Rattle.con_machine.specs.Client.{moved_on, starting, FollowsScript, client_after}
use Rattle.con_machine.specs.Words.Client.{May}
use Rattle.con_machine.specs.Follows.{is_one_of, are_of_session, Sender, MaySend, sent_one, FollowsLink, MayAct, AreAnswered}
use Rattle.con_machine.specs.Words.Follows.{asks}

-- ---- lists that go on as they may

-- the last one may stand where it stands
pub along-last : {S X : Type 0} (may : S → X → Type 0) (move : S → X → S) (s : S) (xs : List X) (x : X) → Along may move s (xs ++ x ∷ [])
    → may (after move s xs) x
along-last may move s [] x a = a.0
along-last may move s (y ∷ ys) x a = along-last may move (move s y) ys x a.1

pub along-append : {S X : Type 0} (may : S → X → Type 0) (move : S → X → S) (s : S) (xs ys : List X) → Along may move s xs
    → Along may move (after move s xs) ys → Along may move s (xs ++ ys)
along-append may move s [] ys a b = b
along-append may move s (x ∷ xs) ys a b = (a.0, along-append may move (move s x) xs ys a.1 b)

pub along-back : {S X : Type 0} (may : S → X → Type 0) (move : S → X → S) (s : S) (xs ys : List X) → Along may move s (xs ++ ys)
    → Along may move (after move s xs) ys
along-back may move s [] ys a = a
along-back may move s (x ∷ xs) ys a = along-back may move (move s x) xs ys a.1

-- ---- an entry more is ready

second : (a b c : Bool) → a ≡ true → (a && (b && c)) ≡ true → b ≡ true
second true true c e h = refl
second true false c e h = absurd (cc)
second false b c e h = absurd (cc)

pub legal-last : (s : State) (h : List Entry) (x : Entry) → is_legal s h ≡ true → is_legal s (h ++ x ∷ []) ≡ true → is_ready (run s h) x.actor x.event ≡ true
legal-last s h x l e = second (is_legal s h) (is_ready (run s h) x.actor x.event) true l (sym (legal-append s h (x ∷ [])) ∙ e)

-- ---- its actor is of the session

pub session-one : (n : ℕ) (h : List Entry) (x : Entry) → are_of_session n h ≡ true → is_one_of n x.actor ≡ true → are_of_session n (h ++ x ∷ []) ≡ true
session-one n [] x a o = rw o refl
session-one n (y ∷ ys) x a o = by (is_one_of n y.actor) (are_of_session n ys) refl a (λ k. session-one n ys x k o)
  where
    by : (b c : Bool) → are_of_session n ys ≡ c → (b && c) ≡ true → (are_of_session n ys ≡ true → are_of_session n (ys ++ x ∷ []) ≡ true)
        → (b && are_of_session n (ys ++ x ∷ [])) ≡ true
    by true c e k f = f (e ∙ k)
    by false c e k f = absurd (cc)

pub session-last : (n : ℕ) (h : List Entry) (x : Entry) → are_of_session n (h ++ x ∷ []) ≡ true → is_one_of n x.actor ≡ true
session-last n [] x a = by (is_one_of n x.actor) a
  where
    by : (b : Bool) → (b && true) ≡ true → b ≡ true
    by true e = refl
    by false e = absurd (cc)
session-last n (y ∷ ys) x a = session-last n ys x (by (is_one_of n y.actor) (are_of_session n (ys ++ x ∷ [])) a)
  where
    by : (b c : Bool) → (b && c) ≡ true → c ≡ true
    by true c e = e
    by false c e = absurd (cc)

-- ---- it follows the script, the link, and what was asked for

-- the frames of a link, none of them sent yet
abbrev pub all_coming : List Frame → Sender
all_coming frames = record { coming = frames; ended = false }

pub script-one : (s : State) (steps : List Step) (kinds : List ℕ) (h : List Entry) (x : Entry) (p : ℕ) → is_client p x.actor ≡ true
    → FollowsScript steps kinds (turns s p h) → May (client_after steps kinds (turns s p h)) (turn_of (run s h) p x)
    → FollowsScript steps kinds (turns s p (h ++ x ∷ []))
script-one s steps kinds h x p o f m = subst (FollowsScript steps kinds) (sym (turns-own s p h x o))
    (along-one May moved_on (starting steps kinds) (turns s p h) (turn_of (run s h) p x) f m)

pub script-last : (s : State) (steps : List Step) (kinds : List ℕ) (h : List Entry) (x : Entry) (p : ℕ) → is_client p x.actor ≡ true
    → FollowsScript steps kinds (turns s p (h ++ x ∷ [])) → May (client_after steps kinds (turns s p h)) (turn_of (run s h) p x)
script-last s steps kinds h x p o f = along-last May moved_on (starting steps kinds) (turns s p h) (turn_of (run s h) p x)
    (subst (FollowsScript steps kinds) (turns-own s p h x o) f)

pub link-one : (cut : Bool) (frames : List Frame) (h : List Entry) (x : Entry) → is_terminal x.actor ≡ true → FollowsLink cut frames (sent h)
    → MaySend cut (after sent_one (all_coming frames) (sent h)) x.event → FollowsLink cut frames (sent (h ++ x ∷ []))
link-one cut frames h x o f m = subst (FollowsLink cut frames) (sym (sent-own h x o))
    (along-one (MaySend cut) sent_one (all_coming frames) (sent h) x.event f m)

pub link-last : (cut : Bool) (frames : List Frame) (h : List Entry) (x : Entry) → is_terminal x.actor ≡ true → FollowsLink cut frames (sent (h ++ x ∷ []))
    → MaySend cut (after sent_one (all_coming frames) (sent h)) x.event
link-last cut frames h x o f = along-last (MaySend cut) sent_one (all_coming frames) (sent h) x.event (subst (FollowsLink cut frames) (sent-own h x o) f)

pub answered-one : (lost : Bool) (h : List Entry) (x : Entry) → AreAnswered lost h → MayAct lost (after asks false h) x.actor → AreAnswered lost (h ++ x ∷ [])
answered-one lost h x a m = along-one (λ out y. MayAct lost out y.actor) asks false h x a m

pub answered-last : (lost : Bool) (h : List Entry) (x : Entry) → AreAnswered lost (h ++ x ∷ []) → MayAct lost (after asks false h) x.actor
answered-last lost h x a = along-last (λ out y. MayAct lost out y.actor) asks false h x a
