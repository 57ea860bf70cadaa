-- Handlers one by one.
use Rattle.std.proofs.Common.{◌≡◌, ℕ, zero, suc, ◌+◌, ◌<◌, ◌≤◌, Bool, true, false, List, [], ◌∷◌, length, take, get_or, set, refl, sym, ap, ◌∙◌, arith, add-one}
use Rattle.std.specs.Prelude.{Option, Some, ◌==◌, not, filter, if◌then◌else◌}
use Rattle.con_handlers.specs.Answers.{answer, raised}
use Rattle.con_handlers.specs.Delivery.{newest}
use Rattle.con_handlers.specs.Words.Delivery.{newer_or}
use Rattle.con_machine.specs.Chain.{Handler, answers_to, asked_once}
use Rattle.con_machine.specs.Words.Chain.{without_handler}
use Rattle.con_audit.specs.Links.{handler_of, handlers_of}
use Rattle.con_audit.specs.declared.chain.Link.{Link}

abbrev pub newest_of : ℕ → List Link → Option ℕ
newest_of event ls = newest (answers_to event (handlers_of ls))

newer : (b x : Bool) (o : Option ℕ) (n : ℕ) → newer_or b (if x then Some n else o) ≡ (if x then Some (n + 1) else newer_or b o)
newer b true o n = refl
newer b false o n = refl

-- the newest of a front with one more
newest_more : (event : ℕ) (ls : List Link) (k : ℕ) (d : Link) → k < length ls → newest_of event (take (suc k) ls) ≡ (if answer (get_or ls k d).kind (get_or ls k d).asked event then Some k else newest_of event (take k ls))
newest_more event [] k d lt = absurd (omega arith)
newest_more event (l ∷ ls) zero d lt = refl
newest_more event (l ∷ ls) (suc k) d lt =
    ap (newer_or (answer l.kind l.asked event)) (newest_more event ls k d (omega arith)) ∙ newer (answer l.kind l.asked event) (answer (get_or ls k d).kind (get_or ls k d).asked event) (newest_of event (take k ls)) k
    ∙ ap (λ n. if answer (get_or ls k d).kind (get_or ls k d).asked event then Some n else newer_or (answer l.kind l.asked event) (newest_of event (take k ls))) (add-one k)

front_is : (event : ℕ) (ls : List Link) (n k : ℕ) (d : Link) → n ≡ k + 1 → k < length ls → newest_of event (take n ls) ≡ (if answer (get_or ls k d).kind (get_or ls k d).asked event then Some k else newest_of event (take k ls))
front_is event ls n k d e lt = ap (λ m. newest_of event (take m ls)) (e ∙ add-one k) ∙ newest_more event ls k d lt

pub is_newest : (event : ℕ) (ls : List Link) (n k : ℕ) (d : Link) (b : Bool) → n ≡ k + 1 → k < length ls → b ≡ answer (get_or ls k d).kind (get_or ls k d).asked event → b ≡ true
    → newest_of event (take n ls) ≡ newest_of event ls → Some k ≡ newest_of event ls
is_newest event ls n k d b some lt e t h = sym (front_is event ls n k d some lt ∙ ap (λ x. if x then Some k else newest_of event (take k ls)) (sym e ∙ t)) ∙ h

pub is_older : (event : ℕ) (ls : List Link) (n k : ℕ) (d : Link) (b : Bool) → n ≡ k + 1 → k < length ls → b ≡ answer (get_or ls k d).kind (get_or ls k d).asked event → b ≡ false
    → newest_of event (take n ls) ≡ newest_of event ls → newest_of event (take k ls) ≡ newest_of event ls
is_older event ls n k d b some lt e t h = sym (front_is event ls n k d some lt ∙ ap (λ x. if x then Some k else newest_of event (take k ls)) (sym e ∙ t)) ∙ h

-- ---- asked once more

abbrev pub once : Link → Link
once l = record l { asked = raised l.asked }

-- those from one place up to another were asked once more
abbrev pub asked_to : ℕ → ℕ → List Link → List Link
asked_to f a [] = []
asked_to f zero (l ∷ ls) = l ∷ ls
asked_to zero (suc a) (l ∷ ls) = once l ∷ asked_to zero a ls
asked_to (suc f) (suc a) (l ∷ ls) = l ∷ asked_to f a ls

pub asked_none : (f : ℕ) (ls : List Link) → ls ≡ asked_to f f ls
asked_none f [] = refl
asked_none zero (l ∷ ls) = refl
asked_none (suc f) (l ∷ ls) = ap (λ xs. l ∷ xs) (asked_none f ls)

asked_next : (f a : ℕ) (ls : List Link) (d : Link) → f ≤ a → a < length ls → set (asked_to f a ls) a (once (get_or (asked_to f a ls) a d)) ≡ asked_to f (suc a) ls
asked_next f a [] d le lt = absurd (omega arith)
asked_next zero zero (l ∷ []) d le lt = refl
asked_next zero zero (l ∷ m ∷ ls) d le lt = refl
asked_next (suc f) zero (l ∷ ls) d le lt = absurd (omega arith)
asked_next zero (suc a) (l ∷ ls) d le lt = ap (λ xs. once l ∷ xs) (asked_next zero a ls d (omega arith) (omega arith))
asked_next (suc f) (suc a) (l ∷ ls) d le lt = ap (λ xs. l ∷ xs) (asked_next f a ls d (omega arith) (omega arith))

pub asked_more : (f a : ℕ) (ls now : List Link) (d x : Link) → f ≤ a → a < length ls → now ≡ asked_to f a ls → x ≡ once (get_or now a d) → set now a x ≡ asked_to f (a + 1) ls
asked_more f a ls now d x le lt e is = rw (is, e, add-one a) (asked_next f a ls d le lt)

pub asked_all : (f a : ℕ) (ls : List Link) → length ls ≤ a → handlers_of (asked_to f a ls) ≡ asked_once f (handlers_of ls)
asked_all f a [] le = refl
asked_all f zero (l ∷ ls) le = absurd (omega arith)
asked_all zero (suc a) (l ∷ ls) le = ap (λ (hs : List Handler). handler_of (once l) ∷ hs) (asked_all zero a ls (omega arith))
asked_all (suc f) (suc a) (l ∷ ls) le = ap (λ (hs : List Handler). handler_of l ∷ hs) (asked_all f a ls (omega arith))

-- ---- one that goes

pub without_is : (place : ℕ) (ls : List Link) → handlers_of (filter (λ l. not (l.place == place)) ls) ≡ without_handler (handlers_of ls) place
without_is place [] = refl
without_is place (l ∷ ls) = by (not (l.place == place)) (without_is place ls)
  where
    by : (b : Bool) → handlers_of (filter (λ (l : Link). not (l.place == place)) ls) ≡ without_handler (handlers_of ls) place
        → handlers_of (if b then l ∷ filter (λ (l : Link). not (l.place == place)) ls else filter (λ (l : Link). not (l.place == place)) ls) ≡ (if b then handler_of l ∷ without_handler (handlers_of ls) place else without_handler (handlers_of ls) place)
    by true e = ap (λ (hs : List Handler). handler_of l ∷ hs) e
    by false e = e
