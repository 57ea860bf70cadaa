-- The last Begin of a process that was not refused opened the read that the process had then.
use Rattle.std.proofs.Common.{◌≡◌, ◌==◌, ◌+◌, ℕ, Bool, true, false, List, [], ◌∷◌, ◌++◌, refl, ap, sym, subst, take, Option, None, Some}
use Rattle.std.specs.Prelude.{if◌then◌else◌}
use Rattle.std.specs.Option.{option_map_or}
use Rattle.std.proofs.lemmas.Bool.{eqb-true}
use Rattle.con_events.specs.declared.actor.Actor.{Actor}
use Rattle.con_events.specs.declared.entry.Entry.{Entry}
use Rattle.con_events.specs.declared.event.Event.{Event}
use Rattle.con_events.specs.declared.event.Event.TheVariants as events
use Rattle.con_machine.specs.State.{State}
use Rattle.con_machine.specs.Client.{is_fail}
use Rattle.con_machine.specs.History.{run}
use Rattle.con_machine.specs.Step.{step, client_of}
use Rattle.con_laws.specs.Answers.{read_opened}
use Rattle.con_laws.specs.Words.Answers.{opens}
use Rattle.con_laws.specs.AnswerWalks.{console_before}
use Rattle.con_laws.specs.Walks.{Begin, Begins, no_begins, begin_or, begin_at, begins_after, begins_from, last_begin}
use Rattle.con_laws.proofs.Entries.{step_opens}
use Rattle.con_laws.proofs.Fated.{At, at_before, at-append}

-- in the console before it
Opened : (ℕ → State) → ℕ → Begin → Type 0
Opened at p b = read_opened (at b.place) p b.wanted ≡ Some (opens (at b.place) p b.wanted)

entry_opened : (at : ℕ → State) (place : ℕ) (s : State) (a : Actor) (e : Event) (p : ℕ) (fail : Bool) (o : Option Begin) (b : Begin) → at place ≡ s → client_of a ≡ p → is_fail (step s a e).reply ≡ fail
    → ((d : Begin) → o ≡ Some d → Opened at p d) → begin_or (if fail then None else begin_at place e) o ≡ Some b → Opened at p b
unfolding Opened
entry_opened at place s a e p true o b here of fails old is = old b is
entry_opened at place s a (events.Begin w) p false o b here of done old is =
    let c : Begin = record { place = place; wanted = w } in
    let same : c ≡ b = ap (λ (x : Option Begin). option_map_or (λ z. z) x c) is in
    subst (λ (d : Begin). read_opened (at d.place) p d.wanted ≡ Some (opens (at d.place) p d.wanted)) same
    (subst (λ (t : State). read_opened t p w ≡ Some (opens t p w)) (sym here)
    (subst (λ (q : ℕ). read_opened s q w ≡ Some (opens s q w)) of (step_opens s a w done)))
entry_opened at place s a e p false o b here of done old is = old b is

begun_opened : (at : ℕ → State) (begins : Begins) (place : ℕ) (s : State) (x : Entry) (p : ℕ) → at place ≡ s → ((d : Begin) → begins p ≡ Some d → Opened at p d)
    → (b : Begin) → begins_after begins place s x p ≡ Some b → Opened at p b
begun_opened at begins place s x p here old b is = by (p == client_of x.actor) refl is
  where
    by : (c : Bool) → (p == client_of x.actor) ≡ c
        → (if c then begin_or (if is_fail (step s x.actor x.event).reply then None else begin_at place x.event) (begins p) else begins p) ≡ Some b → Opened at p b
    by true e now =
        entry_opened at place s x.actor x.event p (is_fail (step s x.actor x.event).reply) (begins p) b here (sym (eqb-true p (client_of x.actor) e)) refl old now
    by false e now = old b now

all_opened : (at : ℕ → State) (h : List Entry) (begins : Begins) (place : ℕ) (s : State) (p : ℕ) → At at place s h → ((d : Begin) → begins p ≡ Some d → Opened at p d)
    → (b : Begin) → begins_from begins place s h p ≡ Some b → Opened at p b
unfolding At
all_opened at [] begins place s p here old b is = old b is
all_opened at (x ∷ xs) begins place s p here old b is =
    all_opened at xs (begins_after begins place s x) (place + 1) (step s x.actor x.event).after p here.1 (λ d e. begun_opened at begins place s x p here.0 old d e) b is

pub last_opened : (s : State) (before later : List Entry) (p : ℕ) (b : Begin) → last_begin s before p ≡ Some b
    → (let t = run s (take b.place (before ++ later)) in read_opened t p b.wanted ≡ Some (opens t p b.wanted))
unfolding Opened
last_opened s before later p b is =
    let at : ℕ → State = console_before s (before ++ later) in
    all_opened at before no_begins 0 s p (at-append at before later 0 s (at_before s (before ++ later))).0 (λ d e. absurd (let none : None ≡ Some d = e in cc)) b is
