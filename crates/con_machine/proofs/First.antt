-- The standard handles of the clients.
use Rattle.std.proofs.Common.{◌≡◌, ◌≢◌, ℕ, zero, suc, ◌+◌, ◌<◌, ◌≤◌, Bool, true, false, List, [], ◌∷◌, ◌++◌, length, drop, get_or, Option, None, Ok, refl, sym, ap, subst, ◌∙◌, arith, append_assoc, append-nil}
use Rattle.std.specs.Prelude.{◌==◌, ◌&&◌, nat_lt, nat_le, replicate, Result, Err, OnOk}
use Rattle.std.specs.Option.{option_map_or}
use Rattle.std.proofs.lemmas.Bool.Decides.{nat_tests}
use Rattle.std.proofs.Math.Seq.{drop-cons}
use Rattle.std.proofs.lemmas.Bool.{and_parts}
use Rattle.con_events.specs.Session.{is_within}
use Rattle.con_events.specs.Words.Session.{all_scripts, step_count, are_scripts}
use Rattle.con_events.specs.declared.script.Script.{Script}
use Rattle.con_handles.specs.Handles.{entered, free_from, new_number}
use Rattle.con_handles.specs.Words.Handles.{is_used, opened_at}
use Rattle.con_handles.specs.Tables.{tally, on}
use Rattle.con_handles.specs.declared.handle.Handle.{Handle}
use Rattle.con_handles.specs.declared.handle.Object.{Object}
use Rattle.con_handles.specs.declared.handle.Object.TheVariants as object
use Rattle.con_procs.specs.declared.proc.ProcStart.{ProcStart}
use Rattle.con_screens.specs.Buffers.{Buffers, first_buffers, handles_of}
use Rattle.con_screens.specs.declared.buffer.Buffer.{Buffer}
use Rattle.con_machine.specs.Opened.{AreBefore, opened_ones}
use Rattle.con_machine.specs.Sound.{AreCounted, stands_for}
use Rattle.con_machine.specs.State.{handles_from, id_of, starts_of}
use Rattle.con_machine.specs.Words.State.{first_handles, start_of, first_or_none, behind_first}

abbrev one : ℕ → ℕ → Object → Handle
one p n o = record { process = p; number = n; object = o; rights = 3 }

-- behind handles of processes before it
used_behind : (p n : ℕ) (hs us : List Handle) → AreBefore p hs → is_used (hs ++ us) p n ≡ is_used us p n
used_behind p n [] us before = refl
used_behind p n (h ∷ hs) us before =
    let lower : h.process < p = before.0 in
    let other : (h.process == p) ≡ false = grind (arith, nat_tests) in
    rw other (used_behind p n hs us before.1)

entered_behind : (p : ℕ) (h : Handle) (hs us : List Handle) → AreBefore p hs → h.process ≡ p → entered h (hs ++ us) ≡ hs ++ entered h us
entered_behind p h [] us before is = refl
entered_behind p h (g ∷ gs) us before is =
    let lower : g.process < p = before.0 in
    let first : nat_lt g.process h.process ≡ true = grind (arith, nat_tests) in
    rw first (ap (λ (xs : List Handle). g ∷ xs) (entered_behind p h gs us before.1 is))

num1 : (hs : List Handle) (p : ℕ) → is_used hs p 1 ≡ false → new_number hs p ≡ Ok 1
unfolding free_from
num1 hs p a = rw a refl

num2 : (hs : List Handle) (p : ℕ) → is_used hs p 1 ≡ true → is_used hs p 2 ≡ false → new_number hs p ≡ Ok 2
unfolding free_from
num2 hs p a b = rw (a, b) refl

num3 : (hs : List Handle) (p : ℕ) → is_used hs p 1 ≡ true → is_used hs p 2 ≡ true → is_used hs p 3 ≡ false → new_number hs p ≡ Ok 3
unfolding free_from
num3 hs p a b c = rw (a, b, c) refl

opened_as : (p n : ℕ) (o : Object) (hs : List Handle) → new_number hs p ≡ Ok n → opened_ones p o hs ≡ entered (one p n o) hs
opened_as p n o hs e = ap (λ r. (opened_at r (record { open_ones = hs; spare = 1 }) p o 3).open_ones) e

one_more : (p n : ℕ) (o : Object) (hs us : List Handle) → AreBefore p hs → new_number (hs ++ us) p ≡ Ok n → entered (one p n o) us ≡ us ++ one p n o ∷ [] → opened_ones p o (hs ++ us) ≡ hs ++ (us ++ one p n o ∷ [])
one_more p n o hs us before number last = opened_as p n o (hs ++ us) number ∙ entered_behind p (one p n o) hs us before refl ∙ ap (λ (xs : List Handle). hs ++ xs) last

-- the three, in turn
pub first_three : (p : ℕ) (hs t1 t2 t3 : List Handle) → AreBefore p hs → t1 ≡ opened_ones p object.Input hs → t2 ≡ opened_ones p (object.Output (id_of 0)) t1 → t3 ≡ opened_ones p (object.Output (id_of 0)) t2 → t3 ≡ hs ++ first_handles p
first_three p hs t1 t2 t3 before e1 e2 e3 =
    let h1 : Handle = one p 1 object.Input in
    let h2 : Handle = one p 2 (object.Output (id_of 0)) in
    let h3 : Handle = one p 3 (object.Output (id_of 0)) in
    let itself : (p == p) ≡ true = grind (arith, nat_tests) in
    let below : nat_lt p p ≡ false = grind (arith, nat_tests) in
    let n1 : new_number (hs ++ []) p ≡ Ok 1 = num1 (hs ++ []) p (used_behind p 1 hs [] before) in
    let a1 : t1 ≡ hs ++ h1 ∷ [] = e1 ∙ ap (opened_ones p object.Input) (sym (append-nil hs)) ∙ one_more p 1 object.Input hs [] before n1 refl in
    let n2 : new_number (hs ++ h1 ∷ []) p ≡ Ok 2 = num2 (hs ++ h1 ∷ []) p (used_behind p 1 hs (h1 ∷ []) before ∙ rw itself refl) (used_behind p 2 hs (h1 ∷ []) before ∙ rw itself refl) in
    let a2 : t2 ≡ hs ++ h1 ∷ h2 ∷ [] = e2 ∙ ap (opened_ones p (object.Output (id_of 0))) a1 ∙ one_more p 2 (object.Output (id_of 0)) hs (h1 ∷ []) before n2 (rw (below, itself) refl) in
    let n3 : new_number (hs ++ h1 ∷ h2 ∷ []) p ≡ Ok 3 = num3 (hs ++ h1 ∷ h2 ∷ []) p (used_behind p 1 hs (h1 ∷ h2 ∷ []) before ∙ rw itself refl) (used_behind p 2 hs (h1 ∷ h2 ∷ []) before ∙ rw itself refl) (used_behind p 3 hs (h1 ∷ h2 ∷ []) before ∙ rw itself refl) in
    e3 ∙ ap (opened_ones p (object.Output (id_of 0))) a2 ∙ one_more p 3 (object.Output (id_of 0)) hs (h1 ∷ h2 ∷ []) before n3 (rw (below, itself) refl)

-- ---- all of them

before_weaker : (p : ℕ) (hs : List Handle) → AreBefore p hs → AreBefore (p + 1) hs
before_weaker p [] before = tt
before_weaker p (h ∷ hs) before = (let lower : h.process < p = before.0 in omega arith, before_weaker p hs before.1)

before_first : (p : ℕ) (hs : List Handle) → AreBefore p hs → AreBefore (p + 1) (hs ++ first_handles p)
before_first p [] before = (omega arith, (omega arith, (omega arith, tt)))
before_first p (h ∷ hs) before = (let lower : h.process < p = before.0 in omega arith, before_first p hs before.1)

pub before_next : (p : ℕ) (hs us : List Handle) → AreBefore p hs → us ≡ hs ++ first_handles p → AreBefore (p + 1) us
before_next p hs us before is = subst (AreBefore (p + 1)) (sym is) (before_first p hs before)

pub all_next : (scripts : List Script) (i : ℕ) (hs us whole : List Handle) → i < length scripts → us ≡ hs ++ first_handles (i + 1) → hs ++ handles_from (i + 1) (drop i scripts) ≡ whole → us ++ handles_from (i + 1 + 1) (drop (i + 1) scripts) ≡ whole
all_next scripts i hs us whole within is before = by_cons (drop i scripts) refl
  where
    by_cons : (xs : List Script) → drop i scripts ≡ xs → us ++ handles_from (i + 1 + 1) (drop (i + 1) scripts) ≡ whole
    by_cons xs e =
        let s : Script = record { program = []; group = 0; steps = [] } in
        let next : suc i ≡ i + 1 = omega arith in
        let front : drop i scripts ≡ get_or scripts i s ∷ drop (i + 1) scripts = drop-cons scripts i s within ∙ ap (λ k. get_or scripts i s ∷ drop k scripts) next in
        let all : hs ++ (first_handles (i + 1) ++ handles_from (i + 1 + 1) (drop (i + 1) scripts)) ≡ whole = sym (ap (λ (ys : List Script). hs ++ handles_from (i + 1) ys) front) ∙ before in
        ap (λ (ys : List Handle). ys ++ handles_from (i + 1 + 1) (drop (i + 1) scripts)) is ∙ append_assoc hs (first_handles (i + 1)) (handles_from (i + 1 + 1) (drop (i + 1) scripts)) ∙ all

-- ---- they count for no buffer but the main one

tally_append : (t : Handle → Bool) (xs ys : List Handle) → tally t (xs ++ ys) ≡ tally t xs + tally t ys
tally_append t [] ys = omega arith
tally_append t (x ∷ xs) ys = let rest = tally_append t xs ys in omega (arith, rest)

none_on : (id p : ℕ) (scripts : List Script) → id ≢ 0 → tally (on (stands_for id)) (handles_from p scripts) ≡ 0
none_on id p [] other = refl
none_on id p (s ∷ ss) other =
    let main : (0 == id) ≡ false = grind (arith, nat_tests) in
    let first : tally (on (stands_for id)) (first_handles p) ≡ 0 = rw main refl in
    let rest = none_on id (p + 1) ss other in
    let both = tally_append (on (stands_for id)) (first_handles p) (handles_from (p + 1) ss) in
    omega (arith, first, rest, both)

abbrev nobody : Option Buffer
nobody = None

none_at : (n k : ℕ) → option_map_or (λ b. b.handles) (get_or (replicate n nobody) k nobody) 0 ≡ 0
none_at zero k = refl
none_at (suc n) zero = refl
none_at (suc n) (suc k) = none_at n k

handles_first : (w h id : ℕ) → id ≢ 0 → handles_of (first_buffers w h) id ≡ 0
handles_first w h zero other = absurd (other refl)
handles_first w h (suc k) other = none_at 7 k

pub first_counted : (w h : ℕ) (scripts : List Script) (hs : List Handle) → hs ≡ handles_from 1 scripts → AreCounted (first_buffers w h) hs
first_counted w h scripts hs is = subst (AreCounted (first_buffers w h)) (sym is) (record { each = λ id other. handles_first w h id other ∙ sym (none_on id 1 scripts other) })

-- ---- the processes

rack_first : (racks : List ℕ) (i : ℕ) → first_or_none (drop i racks) ≡ get_or racks i 0
rack_first [] zero = refl
rack_first [] (suc i) = refl
rack_first (r ∷ racks) zero = refl
rack_first (r ∷ racks) (suc i) = rack_first racks i

rack_rest : (racks : List ℕ) (i : ℕ) → behind_first (drop i racks) ≡ drop (suc i) racks
rack_rest [] zero = refl
rack_rest [] (suc i) = refl
rack_rest (r ∷ racks) zero = refl
rack_rest (r ∷ racks) (suc i) = rack_rest racks i

pub three_ok : {E : Type 0} (r : Result (Unit {0}) E) (p : ℕ) (hs t1 t2 t3 : List Handle) → AreBefore p hs → t1 ≡ opened_ones p object.Input hs → t2 ≡ opened_ones p (object.Output (id_of 0)) t1 → OnOk r (t3 ≡ opened_ones p (object.Output (id_of 0)) t2) → OnOk r (t3 ≡ hs ++ first_handles p)
three_ok (Ok u) p hs t1 t2 t3 before e1 e2 e3 = first_three p hs t1 t2 t3 before e1 e2 e3
three_ok (Err e) p hs t1 t2 t3 before e1 e2 e3 = tt

pub start_next : (scripts : List Script) (racks : List ℕ) (i r : ℕ) (s : ProcStart) (was now whole : List ProcStart) (d : Script) → i < length scripts → r ≡ get_or racks i 0 → s ≡ start_of (get_or scripts i d) r → now ≡ was ++ s ∷ [] → was ++ starts_of (drop i scripts) (drop i racks) ≡ whole → now ++ starts_of (drop (i + 1) scripts) (drop (i + 1) racks) ≡ whole
start_next scripts racks i r s was now whole d within rack is pushed before =
    let next : suc i ≡ i + 1 = omega arith in
    let front : drop i scripts ≡ get_or scripts i d ∷ drop (i + 1) scripts = drop-cons scripts i d within ∙ ap (λ k. get_or scripts i d ∷ drop k scripts) next in
    let rest : behind_first (drop i racks) ≡ drop (i + 1) racks = rack_rest racks i ∙ ap (λ k. drop k racks) next in
    let first : start_of (get_or scripts i d) (first_or_none (drop i racks)) ≡ s = ap (start_of (get_or scripts i d)) (rack_first racks i ∙ sym rack) ∙ sym is in
    let all : starts_of (drop i scripts) (drop i racks) ≡ s ∷ starts_of (drop (i + 1) scripts) (drop (i + 1) racks) =
    ap (λ (ss : List Script). starts_of ss (drop i racks)) front ∙ ap (λ (x : ProcStart). x ∷ starts_of (drop (i + 1) scripts) (behind_first (drop i racks))) first ∙ ap (λ (rs : List ℕ). s ∷ starts_of (drop (i + 1) scripts) rs) rest in
    ap (λ (xs : List ProcStart). xs ++ starts_of (drop (i + 1) scripts) (drop (i + 1) racks)) pushed ∙ append_assoc was (s ∷ []) (starts_of (drop (i + 1) scripts) (drop (i + 1) racks)) ∙ sym (ap (λ (xs : List ProcStart). was ++ xs) all) ∙ before

pub opening_counted : (b : Buffers) (w h : ℕ) (scripts : List Script) (hs : List Handle) → b ≡ first_buffers w h → hs ≡ handles_from 1 scripts → AreCounted b hs
opening_counted b w h scripts hs made is = subst (λ (x : Buffers). AreCounted x hs) (sym made) (first_counted w h scripts hs is)

starts_length : (scripts : List Script) (racks : List ℕ) → length (starts_of scripts racks) ≡ length scripts
starts_length [] racks = refl
starts_length (s ∷ ss) racks = ap suc (starts_length ss (behind_first racks))

pub starts_few : (scripts : List Script) (racks : List ℕ) (starts : List ProcStart) → are_scripts scripts ≡ true → starts ≡ starts_of scripts racks → length starts ≤ 255
starts_few scripts racks starts are is =
    let parts = and_parts (is_within 1 64 (length scripts) && all_scripts scripts) (nat_le (step_count scripts) 16384) are in
    let within = and_parts (is_within 1 64 (length scripts)) (all_scripts scripts) parts.0 in
    let both = and_parts (nat_le 1 (length scripts)) (nat_le (length scripts) 64) within.0 in
    let most : nat_le (length scripts) 64 ≡ true = both.1 in
    let few : length scripts ≤ 64 = grind (arith, nat_tests) in
    let same : length starts ≡ length scripts = ap length is ∙ starts_length scripts racks in
    omega (arith, few, same)
