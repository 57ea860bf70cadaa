-- From entry to entry to a verdict.
use Rattle.std.proofs.Common.{◌≡◌, inl, inr, ℕ, ◌+◌, ◌<◌, ◌≤◌, List, [], ◌∷◌, ◌++◌, length, take, get_or, refl, sym, ap, ◌∙◌, subst, arith}
use Rattle.std.specs.Prelude.{Option, Some, None, Result, Ok, Err, IfOk}
use Rattle.std.proofs.lemmas.List.{take_more, take_all}
use Rattle.con_units.specs.declared.code.OutOfMemory.{OutOfMemory}
use Rattle.con_units.specs.declared.view.Frame.{Frame}
use Rattle.con_events.specs.declared.entry.Entry.{Entry}
use Rattle.con_audit.specs.Audit.{Given, Holds, FirstFails, Passes, AreFrames, IsVerdict, IsAudited, parts}
use Rattle.con_audit.specs.Verdicts.{HoldAll, Stops}
use Rattle.con_audit.specs.Judging.{KeepAll, FailsToKeep, Judges}
use Rattle.con_audit.specs.declared.verdict.What.{What}
use Rattle.con_audit.specs.declared.verdict.What.TheVariants as what
use Rattle.con_audit.specs.declared.verdict.Verdict.{Verdict}
use Rattle.con_audit.specs.declared.verdict.Verdict.TheVariants as verdicts
use Rattle.con_audit.proofs.OneMore.{one_more, last_one}

-- none of these is the end's
abbrev Entries' : List What → Type 0
Entries' [] = Unit {0}
Entries' (w ∷ ws) = (w ≡ what.Whole → ⊥) × Entries' ws

parts_are : Entries' parts
parts_are = ((λ e. cc), ((λ e. cc), ((λ e. cc), ((λ e. cc), ((λ e. cc), tt)))))

all_keep : (ws : List What) (g : Given) (frames : List Frame) (h : List Entry) (x : Entry) → Entries' ws → HoldAll ws g frames h → KeepAll ws g frames h x
    → HoldAll ws g frames (h ++ x ∷ [])
all_keep [] g frames h x n a k = tt
all_keep (w ∷ ws) g frames h x n a k = (one_more w g frames h x n.0 a.0 k.0, all_keep ws g frames h x n.1 a.1 k.1)

first_fails : (ws : List What) (w : What) (g : Given) (frames : List Frame) (h : List Entry) (x : Entry) → Entries' ws → HoldAll ws g frames h
    → FailsToKeep ws w g frames h x → FirstFails ws w g frames (h ++ x ∷ [])
first_fails [] w g frames h x n a f = f
first_fails (v ∷ vs) w g frames h x n a f = elim f [
  | inl e ↦ inl (e.0, λ b. e.1 (last_one v g frames h x n.0 a.0 b))
  | inr e ↦ inr (one_more v g frames h x n.0 a.0 e.0, first_fails vs w g frames h x n.1 a.1 e.1)
]

passes_more : (g : Given) (frames : List Frame) (h : List Entry) (x : Entry) → Passes g frames h → KeepAll parts g frames h x → Passes g frames (h ++ x ∷ [])
passes_more g frames h x a k = all_keep parts g frames h x parts_are a k

-- the front with entry k
front : (es : List Entry) (k : ℕ) (x : Entry) → k < length es → x ≡ get_or es k x → take (k + 1) es ≡ take k es ++ x ∷ []
front es k x lt e = take_more es k x lt ∙ ap (λ y. take k es ++ y ∷ []) (sym e)

passes_at : (g : Given) (frames : List Frame) (es : List Entry) (k : ℕ) (x : Entry) → k < length es → x ≡ get_or es k x → Passes g frames (take k es)
    → KeepAll parts g frames (take k es) x → Passes g frames (take (k + 1) es)
passes_at g frames es k x lt e a q = subst (Passes g frames) (sym (front es k x lt e)) (passes_more g frames (take k es) x a q)

pub stops_at : (g : Given) (frames : List Frame) (k : ℕ) (x : Entry) (w : What) (es : List Entry) → g.entries ≡ es → k < length es → x ≡ get_or es k x
    → Passes g frames (take k g.entries) → FailsToKeep parts w g frames (take k g.entries) x → Stops g frames k w
stops_at g frames k x w es d lt e a f =
    let lt' : k < length g.entries = subst (λ (q : List Entry). k < length q) (sym d) lt in
    let e' : x ≡ get_or g.entries k x = subst (λ (q : List Entry). x ≡ get_or q k x) (sym d) e in
    (a, inl (lt', subst (FirstFails parts w g frames) (sym (front g.entries k x lt' e')) (first_fails parts w g frames (take k g.entries) x parts_are a f)))

-- where nothing is found
pub goes_at : (g : Given) (frames : List Frame) (k : ℕ) (x : Entry) (found : Option What) (es : List Entry) (Knows : List Entry → Type 0) → g.entries ≡ es
    → k < length es → x ≡ get_or es k x → ((w : What) → found ≡ Some w → ⊥)
    → Passes g frames (take k g.entries) → Judges found g frames (take k g.entries) x Knows → Passes g frames (take (k + 1) g.entries) × Knows (take (k + 1) g.entries)
goes_at g frames k x None es Knows d lt e n a j =
    let lt' : k < length g.entries = subst (λ (q : List Entry). k < length q) (sym d) lt in
    let e' : x ≡ get_or g.entries k x = subst (λ (q : List Entry). x ≡ get_or q k x) (sym d) e in
    (passes_at g frames g.entries k x lt' e' a j.0, subst Knows (sym (front g.entries k x lt' e')) j.1)
goes_at g frames k x (Some w) es Knows d lt e n a j = absurd (n w refl)

pub is_yes : (g : Given) (frames : List Frame) (k : ℕ) → length g.entries ≤ k → Passes g frames (take k g.entries) → Holds what.Whole g frames g.entries
    → IsVerdict g frames verdicts.Yes
is_yes g frames k le a h = (subst (Passes g frames) (take_all k g.entries le) a, h)

pub stops_at_end : (g : Given) (frames : List Frame) (k : ℕ) → k ≡ length g.entries → Passes g frames (take k g.entries) → (Holds what.Whole g frames g.entries → ⊥)
    → Stops g frames k what.Whole
stops_at_end g frames k e a n = (a, inr (e, refl, n))

pub nothing_passes : (g : Given) (frames : List Frame) → Passes g frames []
nothing_passes g frames = (refl, (tt, (record { actors = refl; clients = λ p some few. tt; link = tt; answered = tt }, (tt, (tt, tt)))))

-- behind all entries
pub stops_behind : (g : Given) (frames : List Frame) (k n : ℕ) → length g.entries ≤ k → n ≡ length g.entries → Passes g frames (take k g.entries) → (Holds what.Whole g frames g.entries → ⊥)
    → Stops g frames n what.Whole
stops_behind g frames k n le e a h =
    let all' : length g.entries ≤ n = omega (arith, e) in
    stops_at_end g frames n e (subst (Passes g frames) (take_all k g.entries le ∙ sym (take_all n g.entries all')) a) h

-- a verdict by the link's frames is one by its bytes
pub audited_by : (g : Given) (frames : List Frame) (r : Result Verdict OutOfMemory) → AreFrames g.link frames → IfOk r (λ v. IsVerdict g frames v) → IfOk r (λ v. IsAudited g v)
audited_by g frames (Ok v) a i = (frames, a, i)
audited_by g frames (Err e) a i = tt
