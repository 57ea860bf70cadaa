-- A history that was entered in part.
use Rattle.std.specs.Prelude.{◌≡◌, ◌+◌, ◌<◌, ◌&&◌, ◌++◌, ℕ, Bool, true, false, List, [], ◌∷◌, length, map, take, drop}
use Rattle.std.proofs.Common.{suc, get_or, append_assoc, arith, refl, ap, sym, ◌∙◌}
use Rattle.std.proofs.Math.Seq.{drop-cons}
use Rattle.std.proofs.lemmas.List.{map-append, take_more}
use Rattle.con_events.specs.declared.entry.Entry.{Entry}
use Rattle.con_events.specs.declared.reply.Reply.{Reply}
use Rattle.con_machine.specs.State.{State}
use Rattle.con_machine.specs.Step.{step, is_ready}
use Rattle.con_machine.specs.History.{run, replies_of, is_legal}
use Rattle.con_machine.specs.Marks.{told}
use Rattle.con_machine.specs.HistoryLaws.{run-append}

-- one more of its events
pub front_more : (s t : State) (es : List Entry) (i : ℕ) (e : Entry) → i < length es → e ≡ get_or es i e → t ≡ run s (take i es) → (step t e.actor e.event).after ≡ run s (take (i + 1) es)
front_more s t es i e inside is before =
    ap (λ (z : State). (step z e.actor e.event).after) before
    ∙ ap (λ (x : Entry). (step (run s (take i es)) x.actor x.event).after) is
    ∙ sym (ap (run s) (take_more es i e inside) ∙ run-append s (take i es) (get_or es i e ∷ []))

-- ---- what is still to come

next_is : (es : List Entry) (i : ℕ) (e : Entry) → i < length es → e ≡ get_or es i e → drop i es ≡ e ∷ drop (i + 1) es
next_is es i e inside is =
    let more : suc i ≡ i + 1 = omega arith in
    drop-cons es i e inside ∙ ap (λ (x : Entry). x ∷ drop (suc i) es) (sym is) ∙ ap (λ (k : ℕ). e ∷ drop k es) more

first_of : (a b : Bool) → (a && b) ≡ true → a ≡ true
first_of true b e = refl
first_of false b e = e

second_of : (a b : Bool) → (a && b) ≡ true → b ≡ true
second_of true b e = e
second_of false b e = absurd (cc)

legal_now : (s : State) (es : List Entry) (i : ℕ) (e : Entry) → i < length es → e ≡ get_or es i e → is_legal s (drop i es) ≡ true
    → (is_ready s e.actor e.event && is_legal (step s e.actor e.event).after (drop (i + 1) es)) ≡ true
legal_now s es i e inside is legal = sym (ap (is_legal s) (next_is es i e inside is)) ∙ legal

-- the next event is ready
pub ready_now : (s t : State) (es : List Entry) (i : ℕ) (e : Entry) → i < length es → e ≡ get_or es i e → t ≡ s → is_legal s (drop i es) ≡ true
    → is_ready t e.actor e.event ≡ true
ready_now s t es i e inside is same legal =
    ap (λ (x : State). is_ready x e.actor e.event) same
    ∙ first_of (is_ready s e.actor e.event) (is_legal (step s e.actor e.event).after (drop (i + 1) es)) (legal_now s es i e inside is legal)

-- and so are those behind it
pub legal_more : (s u : State) (es : List Entry) (i : ℕ) (e : Entry) → i < length es → e ≡ get_or es i e → u ≡ (step s e.actor e.event).after
    → is_legal s (drop i es) ≡ true → is_legal u (drop (i + 1) es) ≡ true
legal_more s u es i e inside is now legal =
    ap (λ (x : State). is_legal x (drop (i + 1) es)) now
    ∙ second_of (is_ready s e.actor e.event) (is_legal (step s e.actor e.event).after (drop (i + 1) es)) (legal_now s es i e inside is legal)

pub state_more : (s u z : State) (es : List Entry) (i : ℕ) (e : Entry) → i < length es → e ≡ get_or es i e → u ≡ (step s e.actor e.event).after
    → run s (drop i es) ≡ z → run u (drop (i + 1) es) ≡ z
state_more s u z es i e inside is now before =
    ap (λ (x : State). run x (drop (i + 1) es)) now ∙ sym (ap (run s) (next_is es i e inside is)) ∙ before

pub replies_more : (s u : State) (es : List Entry) (i : ℕ) (e : Entry) (rs more all : List Reply) (r : Reply) → i < length es → e ≡ get_or es i e
    → u ≡ (step s e.actor e.event).after → more ≡ rs ++ r ∷ [] → told r ≡ (step s e.actor e.event).reply → map told rs ++ replies_of s (drop i es) ≡ all
    → map told more ++ replies_of u (drop (i + 1) es) ≡ all
replies_more s u es i e rs more all r inside is now pushed tells before =
    let rest : List Reply = replies_of (step s e.actor e.event).after (drop (i + 1) es) in
    ap (λ (x : State). map told more ++ replies_of x (drop (i + 1) es)) now
    ∙ ap (λ (l : List Reply). map told l ++ rest) pushed
    ∙ ap (λ (l : List Reply). l ++ rest) (map-append told rs (r ∷ []))
    ∙ append_assoc (map told rs) (told r ∷ []) rest
    ∙ ap (λ (x : Reply). map told rs ++ x ∷ rest) tells
    ∙ ap (λ (l : List Entry). map told rs ++ replies_of s l) (sym (next_is es i e inside is))
    ∙ before
