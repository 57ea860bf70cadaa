-- The turns of the clients, one after another.
use Rattle.std.proofs.Common.{◌≡◌, ◌⊎◌, ℕ, zero, suc, ◌+◌, ◌<◌, ◌≤◌, Bool, true, false, List, [], ◌∷◌, ◌++◌, length, Option, Some, append-nil}
use Rattle.std.proofs.Common.{None, refl, sym, ap, ◌∙◌, subst, append_assoc, inl, inr, map, Result, Ok, Err, arith, add-one}
use Rattle.std.specs.Prelude.{◌-◌, slice_get, slice_set, slice_index_or, ◌==◌, ◌||◌, not}
use Rattle.std.specs.Result.{IsErr}
use Rattle.std.proofs.lemmas.Bool.Decides.{nat_tests}
use Rattle.con_units.specs.declared.code.OutOfMemory.{OutOfMemory}
use Rattle.con_events.specs.declared.actor.Actor.{Actor}
use Rattle.con_events.specs.declared.actor.Actor.TheVariants as actors
use Rattle.con_events.specs.declared.entry.Entry.{Entry}
use Rattle.con_events.specs.declared.event.Event.{Event}
use Rattle.con_events.specs.declared.reply.Reply.{Reply}
use Rattle.con_events.specs.declared.script.Script.{Script}
use Rattle.con_events.specs.declared.script.Step.{Step}
use Rattle.con_handlers.specs.Memory.{Memory}
use Rattle.con_machine.specs.Client.{Client, Stance, GoesOn, MayLeave, MustLeave, Gone, MayBy}
use Rattle.con_laws.specs.RoundLaws.{turns_more, entries_more, broken_off}
use Rattle.con_laws.specs.Rounds.{Begun, client_at}
use Rattle.con_laws.specs.RoundWords.{AreTurns, IsTurn, clients_from, entry_of, round_entries, is_nobody}
use Rattle.con_machine.specs.State.{State}
use Rattle.con_machine.specs.Turns.{is_client}
use Rattle.con_actors.specs.Words.Desk.{Enters, Rests, Stands, entry}
use Rattle.con_actors.specs.Seats.{Seated, AllStandBy, HaveTurns, AllFollow, ClientsTurnBy}
use Rattle.con_actors.specs.Standing.{ClientStands, is_here}
use Rattle.con_actors.specs.Words.Worker.{IsWorker, HandsStandBy, ClientIs, Acts, HandsTurnBy}
use Rattle.con_actors.specs.declared.worker.Worker.{Worker}
use Rattle.con_actors.specs.DeskLaws.{entered_run, stands_one, stands_still}
use Rattle.con_actors.specs.RackLaws.{hands_other}
use Rattle.con_actors.specs.DoorEntries.{client_other, stands_other}
use Rattle.con_actors.specs.StandingLaws.{stands_own}

-- ---- one seat

-- a seat that another's entry leaves alone
pub seated_other : (b : Begun) (k : ℕ) (s t : State) (h g : List Entry) (rs qs : List Reply) (a : Actor) (e : Event) (script : Script) (w : Worker)
    (places : List ℕ) (ms : List Memory) (slots : List ℕ) → is_client (k + 1) a ≡ false → Enters s t h g rs qs a e
    → Seated b k s h script w places ms slots → Seated b k t g script w places ms slots
seated_other b k s t h g rs qs a e script w places ms slots n en c =
    let x = entry a e in
    let same : client_at b g (k + 1) ≡ client_at b h (k + 1) = ap (λ (z : List Entry). client_at b z (k + 1)) en.entries ∙ client_other b h x (k + 1) n in
    let P : List Entry → Type 0 = λ z. ClientStands b z (k + 1) in
    let Q : Client → Type 0 = λ z. IsWorker z script.steps w in
    let R : List Entry → Type 0 = λ z. HandsStandBy b (k + 1) z places ms slots in
    record {
      is = record {
        state = entered_run b.state s t h g rs qs a e c.is.state en;
        stands = subst P (sym en.entries) (stands_other b h x (k + 1) n c.is.stands);
        worker = subst Q (sym same) c.is.worker;
      };
      hands = subst R (sym en.entries) (hands_other b (k + 1) h x places ms slots n c.hands);
    }

may_here : (c : Client) (e : Event) (s : Stance) → MayBy s c e → is_here s ≡ true
may_here c e GoesOn m = refl
may_here c e MayLeave m = refl
may_here c e MustLeave m = refl
may_here c e Gone m = absurd m

-- a client that acts stands behind its entry
acted_stands : (b : Begun) (p : ℕ) (s t : State) (h g : List Entry) (rs qs : List Reply) → Acts b p s t h g rs qs → ClientStands b h p → ClientStands b g p
acted_stands b p s t h g rs qs a c =
    let P : List Entry → Type 0 = λ z. ClientStands b z p in
    subst P (sym a.enters.entries) (stands_own b h p a.event c (c.here ∙ may_here (client_at b h p) a.event (client_at b h p).stance a.may) a.may)

-- its own entry
seated_own : (b : Begun) (k : ℕ) (s t : State) (h g : List Entry) (rs qs : List Reply) (script : Script) (w v : Worker) (places xs : List ℕ)
    (ms m : List Memory) (slots ys : List ℕ) → Seated b k s h script w places ms slots
    → Acts b (k + 1) s t h g rs qs → IsWorker (client_at b g (k + 1)) script.steps v → HandsStandBy b (k + 1) g xs m ys → Seated b k t g script v xs m ys
seated_own b k s t h g rs qs script w v places xs ms m slots ys c a i are = record {
  is = record {
    state = entered_run b.state s t h g rs qs (actors.Client (k + 1)) a.event c.is.state a.enters;
    stands = acted_stands b (k + 1) s t h g rs qs a c.is.stands;
    worker = i;
  };
  hands = are;
}

-- nothing was entered
pub seated_still : (b : Begun) (k : ℕ) (s t : State) (h g : List Entry) (rs qs : List Reply) (script : Script) (w : Worker) (places : List ℕ)
    (ms : List Memory) (slots : List ℕ) → Rests s t h g rs qs → Seated b k s h script w places ms slots → Seated b k t g script w places ms slots
seated_still b k s t h g rs qs script w places ms slots r c =
    let P : State → Type 0 = λ z. Seated b k z g script w places ms slots in
    let Q : List Entry → Type 0 = λ z. Seated b k s z script w places ms slots in
    subst P (sym r.state) (subst Q (sym r.entries) c)

-- ---- all seats, behind entries of others and behind none

-- a client's number is none of the other actors'
abbrev pub is_no_client : Actor → Bool
is_no_client (actors.Client p) = false
is_no_client actors.Terminal = true
is_no_client actors.Painter = true

no_client : (a : Actor) (p : ℕ) → is_no_client a ≡ true → is_client p a ≡ false
no_client (actors.Client q) p n = absurd (cc)
no_client actors.Terminal p n = refl
no_client actors.Painter p n = refl

pub all_other : (b : Begun) (s t : State) (h g : List Entry) (rs qs : List Reply) (a : Actor) (e : Event) (scripts : List Script) (ws : List Worker)
    (places : List (List ℕ)) (ms : List (List Memory)) (slots : List (List ℕ)) → is_no_client a ≡ true → Enters s t h g rs qs a e
    → AllStandBy b s h scripts ws places ms slots → AllStandBy b t g scripts ws places ms slots
all_other b s t h g rs qs a e scripts ws places ms slots n en all =
    λ k script w xs m ys i j l o q. seated_other b k s t h g rs qs a e script w xs m ys (no_client a (k + 1) n) en (all k script w xs m ys i j l o q)

pub all_still : (b : Begun) (s t : State) (h g : List Entry) (rs qs : List Reply) (scripts : List Script) (ws : List Worker) (places : List (List ℕ))
    (ms : List (List Memory)) (slots : List (List ℕ)) → Rests s t h g rs qs
    → AllStandBy b s h scripts ws places ms slots → AllStandBy b t g scripts ws places ms slots
all_still b s t h g rs qs scripts ws places ms slots r all =
    λ k script w xs m ys i j l o q. seated_still b k s t h g rs qs script w xs m ys r (all k script w xs m ys i j l o q)

-- ---- lists with one place written

get_set_other : {A : Type 0} (xs : List A) (k j : ℕ) (x : A) → (k ≡ j → ⊥) → slice_get (slice_set xs k x) j ≡ slice_get xs j
get_set_other [] k j x n = refl
get_set_other (y ∷ ys) zero zero x n = absurd (n refl)
get_set_other (y ∷ ys) zero (suc j) x n = refl
get_set_other (y ∷ ys) (suc k) zero x n = refl
get_set_other (y ∷ ys) (suc k) (suc j) x n = get_set_other ys k j x (λ e. n (ap suc e))

get_set_here : {A : Type 0} (xs : List A) (k : ℕ) (x : A) → k < length xs → slice_get (slice_set xs k x) k ≡ Some x
get_set_here [] k x l = absurd (let none : k < 0 = l in omega arith)
get_set_here (y ∷ ys) zero x l = refl
get_set_here (y ∷ ys) (suc k) x l = get_set_here ys k x (omega arith)

get_at : {A : Type 0} (xs : List A) (k : ℕ) (x : A) → k < length xs → x ≡ slice_index_or xs k x → slice_get xs k ≡ Some x
get_at [] k x l e = absurd (let none : k < 0 = l in omega arith)
get_at (y ∷ ys) zero x l e = ap (λ (z : _). Some z) (sym e)
get_at (y ∷ ys) (suc k) x l e = get_at ys k x (omega arith) e

get_some : {A : Type 0} (xs : List A) (k : ℕ) → k < length xs → (x : A) × (slice_get xs k ≡ Some x)
get_some [] k l = absurd (let none : k < 0 = l in omega arith)
get_some (y ∷ ys) zero l = (y, refl)
get_some (y ∷ ys) (suc k) l = get_some ys k (omega arith)

get_map : {A B : Type 0} (f : A → B) (xs : List A) (k : ℕ) (x : A) → slice_get xs k ≡ Some x → slice_get (map f xs) k ≡ Some (f x)
get_map f [] k x e = absurd (cc)
get_map f (y ∷ ys) zero x e = let q : y ≡ x = cc in ap (λ (z : _). Some (f z)) q
get_map f (y ∷ ys) (suc k) x e = get_map f ys k x e

get_back : {A B : Type 0} (f : A → B) (xs : List A) (k : ℕ) (y : B) → slice_get (map f xs) k ≡ Some y → (x : A) × (slice_get xs k ≡ Some x)
get_back f [] k y e = absurd (cc)
get_back f (z ∷ zs) zero y e = (z, refl)
get_back f (z ∷ zs) (suc k) y e = get_back f zs k y e

same_place : (k j : ℕ) → (k == j) ≡ true → k ≡ j
same_place k j e = grind (arith, nat_tests)

other_place : (k j : ℕ) → (k == j) ≡ false → k ≡ j → ⊥
other_place k j e = grind (arith, nat_tests)

other_client : (k j : ℕ) → (k == j) ≡ false → (k + 1 == j + 1) ≡ false
other_client k j e = grind (arith, nat_tests)

-- what holds of the place that was written, and of the others, holds of all
set_by : {A : Type 0} (P : ℕ → A → Type 0) (xs : List A) (k : ℕ) (new : A) → k < length xs → P k new
    → ((j : ℕ) (x : A) → (k == j) ≡ false → slice_get xs j ≡ Some x → P j x)
    → (j : ℕ) (x : A) → slice_get (slice_set xs k new) j ≡ Some x → (c : Bool) → (k == j) ≡ c → P j x
set_by {A} P xs k new l here others j x e true c =
    let q = same_place k j c in
    let Q : ℕ → Type 0 = λ i. slice_get (slice_set xs k new) i ≡ Some x in
    let at_k : Q k = subst Q (sym q) e in
    let v : new ≡ x = let i = get_set_here xs k new l in cc in
    let R : ℕ → Type 0 = λ i. P i x in
    let S : A → Type 0 = λ y. P k y in
    subst R q (subst S v here)
set_by {A} P xs k new l here others j x e false c = others j x c (sym (get_set_other xs k j new (other_place k j c)) ∙ e)

-- ---- all seats, as any list with these parts

abbrev pub AllOf : {A : Type 0} → (A → Worker) → (A → List ℕ) → (A → List Memory) → (A → List ℕ) → Begun → State → List Entry → List Script → List A → Type 0
AllOf {A} worker places mems slots b s h scripts seats = (k : ℕ) (x : A) → slice_get seats k ≡ Some x → (script : Script)
    → slice_get scripts k ≡ Some script → Seated b k s h script (worker x) (places x) (mems x) (slots x)

from_all : {A : Type 0} (worker : A → Worker) (places : A → List ℕ) (mems : A → List Memory) (slots : A → List ℕ) (b : Begun) (s : State)
    (h : List Entry) (scripts : List Script) (seats : List A)
    → AllStandBy b s h scripts (map worker seats) (map places seats) (map mems seats) (map slots seats) → AllOf worker places mems slots b s h scripts seats
from_all worker places mems slots b s h scripts seats all = λ k x e script i. all k script (worker x) (places x) (mems x) (slots x) i
    (get_map worker seats k x e) (get_map places seats k x e) (get_map mems seats k x e) (get_map slots seats k x e)

to_all : {A : Type 0} (worker : A → Worker) (places : A → List ℕ) (mems : A → List Memory) (slots : A → List ℕ) (b : Begun) (s : State) (h : List Entry)
    (scripts : List Script) (seats : List A)
    → AllOf worker places mems slots b s h scripts seats → AllStandBy b s h scripts (map worker seats) (map places seats) (map mems seats) (map slots seats)
to_all {A} worker places mems slots b s h scripts seats all = λ k script w xs m ys i ew ep em es.
    let f = get_back worker seats k w ew in
    let x : A = f.0 in let e : slice_get seats k ≡ Some x = f.1 in
    let q0 : worker x ≡ w = let z = get_map worker seats k x e in cc in
    let q1 : places x ≡ xs = let z = get_map places seats k x e in cc in
    let q2 : mems x ≡ m = let z = get_map mems seats k x e in cc in
    let q3 : slots x ≡ ys = let z = get_map slots seats k x e in cc in
    let P : Worker → Type 0 = λ z. Seated b k s h script z (places x) (mems x) (slots x) in
    let Q : List ℕ → Type 0 = λ z. Seated b k s h script w z (mems x) (slots x) in
    let R : List Memory → Type 0 = λ z. Seated b k s h script w xs z (slots x) in let S : List ℕ → Type 0 = λ z. Seated b k s h script w xs m z in
    subst S q3 (subst R q2 (subst Q q1 (subst P q0 (all k x e script i))))

-- behind a turn of client k + 1
all_acted : {A : Type 0} (worker : A → Worker) (places : A → List ℕ) (mems : A → List Memory) (slots : A → List ℕ) (b : Begun) (s t : State)
    (h g : List Entry) (rs qs : List Reply) (k : ℕ) (scripts : List Script) (seats : List A) (old new : A) (script : Script) (entered : Bool)
    → k < length seats → slice_get scripts k ≡ Some script → slice_get seats k ≡ Some old → AllOf worker places mems slots b s h scripts seats
    → HandsTurnBy (Ok entered) b (k + 1) s t h g rs qs script.steps (worker new) (places new) (mems new) (slots new)
    → AllOf worker places mems slots b t g scripts (slice_set seats k new)
all_acted {A} worker places mems slots b s t h g rs qs k scripts seats old new script true l gs go all (a, i, are) = λ j x e.
    let P : ℕ → A → Type 0 = λ j y. (other : Script) → slice_get scripts j ≡ Some other → Seated b j t g other (worker y) (places y) (mems y) (slots y) in
    let here : P k new = λ other f. let q : script ≡ other = cc in
    let S : Script → Type 0 = λ z. Seated b k t g z (worker new) (places new) (mems new) (slots new) in
    subst S q (seated_own b k s t h g rs qs script (worker old) (worker new) (places old) (places new) (mems old) (mems new) (slots old) (slots new)
    (all k old go script gs) a i are) in
    set_by P seats k new l here (λ j y n f other o. seated_other b j s t h g rs qs (actors.Client (k + 1)) a.event other (worker y) (places y) (mems y)
    (slots y) (other_client k j n) a.enters (all j y f other o)) j x e (k == j) refl
all_acted {A} worker places mems slots b s t h g rs qs k scripts seats old new script false l gs go all (r, idle, i, are) = λ j x e.
    let P : ℕ → A → Type 0 = λ j y. (other : Script) → slice_get scripts j ≡ Some other → Seated b j t g other (worker y) (places y) (mems y) (slots y) in
    let was = all k old go script gs in
    let now : Seated b k s h script (worker new) (places new) (mems new)
    (slots new) = record { is = record { state = was.is.state; stands = was.is.stands; worker = i }; hands = are } in
    let here : P k new = λ other f. let q : script ≡ other = cc in
    let S : Script → Type 0 = λ z. Seated b k t g z (worker new) (places new) (mems new) (slots new) in
    subst S q (seated_still b k s t h g rs qs script (worker new) (places new) (mems new) (slots new) r now) in
    set_by P seats k new l here
    (λ j y n f other o. seated_still b j s t h g rs qs other (worker y) (places y) (mems y) (slots y) r (all j y f other o)) j x e (k == j) refl

-- ---- the turns of the first clients

-- the clients from k + 1 on
clients_more : (from n : ℕ) → clients_from from (suc n) ≡ clients_from from n ++ actors.Client (from + n + 1) ∷ []
clients_more from zero = ap (λ (m : ℕ). actors.Client (m + 1) ∷ []) (let e : from ≡ from + 0 = omega arith in e)
clients_more from (suc n) = ap (λ (as' : List Actor). actors.Client (from + 1) ∷ as') (clients_more (from + 1) n
    ∙ ap (λ (m : ℕ). clients_from (from + 1) n ++ actors.Client (m + 1) ∷ []) (let e : from + 1 + n ≡ from + suc n = omega arith in e))

clients_next : (k : ℕ) → clients_from 0 (k + 1) ≡ clients_from 0 k ++ actors.Client (k + 1) ∷ []
clients_next k = ap (λ (n : ℕ). clients_from 0 n) (add-one k)
    ∙ (clients_more 0 k ∙ ap (λ (n : ℕ). clients_from 0 k ++ actors.Client n ∷ []) (let e : 0 + k + 1 ≡ k + 1 = omega arith in e))

clients_split : (from n m : ℕ) → clients_from from (n + m) ≡ clients_from from n ++ clients_from (from + n) m
clients_split from zero m = ap (λ (i : ℕ). clients_from from i) (let e : 0 + m ≡ m = omega arith in e)
    ∙ ap (λ (i : ℕ). clients_from i m) (let e : from ≡ from + 0 = omega arith in e)
clients_split from (suc n) m =
    ap (λ (i : ℕ). clients_from from i) (let e : suc n + m ≡ suc (n + m) = omega arith in e)
    ∙ ap (λ (as' : List Actor). actors.Client (from + 1) ∷ as')
    (clients_split (from + 1) n m ∙ ap (λ (i : ℕ). clients_from (from + 1) n ++ clients_from i m) (let e : from + 1 + n ≡ from + suc n = omega arith in e))

-- one more client had its turn
abbrev had_more : (b : Begun) (s0 s t : State) (h0 h g : List Entry) (rs0 rs qs : List Reply) (k : ℕ) (o : Option Event)
    → IsTurn b h (actors.Client (k + 1)) o → g ≡ h ++ entry_of (actors.Client (k + 1)) o → (Stands b.state s h rs → Stands b.state t g qs)
    → HaveTurns false b s0 s h0 h rs0 rs k → HaveTurns false b s0 t h0 g rs0 qs (k + 1)
had_more b s0 s t h0 h g rs0 rs qs k o is e on had =
    let a = actors.Client (k + 1) in
    let by = clients_from 0 k in
    let T : List Actor → Type 0 = λ z. AreTurns false b h0 z (had.turns ++ o ∷ []) in
    let I : List Entry → Type 0 = λ z. IsTurn b z a o in
    record {
      turns = had.turns ++ o ∷ [];
      are = subst T (sym (clients_next k)) (turns_more b h0 by had.turns a o had.are (subst I had.entries is));
      entries = e ∙ (ap (λ (z : List Entry). z ++ entry_of a o) had.entries ∙ (append_assoc h0 (round_entries by had.turns) (entry_of a o)
          ∙ (ap (λ (z : List Entry). h0 ++ z) (sym (entries_more b h0 by had.turns a o had.are))
          ∙ ap (λ (z : List Actor). h0 ++ round_entries z (had.turns ++ o ∷ [])) (sym (clients_next k)))));
      stands = λ k0. on (had.stands k0);
    }

nobody_more : (ts : List (Option Event)) → is_nobody (ts ++ None ∷ []) ≡ is_nobody ts
nobody_more [] = refl
nobody_more (None ∷ ts) = nobody_more ts
nobody_more (Some e ∷ ts) = refl

somebody_more : (ts : List (Option Event)) (e : Event) → is_nobody (ts ++ Some e ∷ []) ≡ false
somebody_more [] e = refl
somebody_more (None ∷ ts) e = somebody_more ts e
somebody_more (Some f ∷ ts) e = refl

or_true : (b : Bool) → (b || true) ≡ true
or_true true = refl
or_true false = refl

or_false : (b : Bool) → (b || false) ≡ b
or_false true = refl
or_false false = refl

-- the turn of client k + 1 behind those before it
step_by : {A : Type 0} (worker : A → Worker) (places : A → List ℕ) (mems : A → List Memory) (slots : A → List ℕ) (b : Begun) (s0 s t : State)
    (h0 h g : List Entry) (rs0 rs qs : List Reply) (k : ℕ) (scripts : List Script) (script : Script) (seats : List A) (old new : A) (acted entered : Bool)
    → k < length seats → slice_get scripts k ≡ Some script → slice_get seats k ≡ Some old → (had : HaveTurns false b s0 s h0 h rs0 rs k)
    → is_nobody had.turns ≡ not acted → AllOf worker places mems slots b s h scripts seats
    → HandsTurnBy (Ok entered) b (k + 1) s t h g rs qs script.steps (worker new) (places new) (mems new) (slots new)
    → ClientsTurnBy (Ok (acted || entered)) b s0 t h0 g rs0 qs (k + 1) scripts (map worker (slice_set seats k new)) (map places (slice_set seats k new))
    (map mems (slice_set seats k new)) (map slots (slice_set seats k new))
step_by worker places mems slots b s0 s t h0 h g rs0 rs qs k scripts script seats old new acted true l gs go had n all turn =
    let a = turn.0 in (
      had_more b s0 s t h0 h g rs0 rs qs k (Some a.event) a.turn a.enters.entries
          (stands_one b.state s t h g rs qs (actors.Client (k + 1)) a.event a.enters a.ready) had,
      somebody_more had.turns a.event ∙ ap not (sym (or_true acted)),
      to_all worker places mems slots b t g scripts (slice_set seats k new)
          (all_acted worker places mems slots b s t h g rs qs k scripts seats old new script true l gs go all turn),
    )
step_by worker places mems slots b s0 s t h0 h g rs0 rs qs k scripts script seats old new acted false l gs go had n all turn =
    let r = turn.0 in (
      had_more b s0 s t h0 h g rs0 rs qs k None turn.1 (r.entries ∙ sym (append-nil h)) (stands_still b.state s t h g rs qs r) had,
      nobody_more had.turns ∙ (n ∙ ap not (sym (or_false acted))),
      to_all worker places mems slots b t g scripts (slice_set seats k new)
          (all_acted worker places mems slots b s t h g rs qs k scripts seats old new script false l gs go all turn),
    )

-- ---- the loop

pub clients_step : {A : Type 0} (worker : A → Worker) (places : A → List ℕ) (mems : A → List Memory) (slots : A → List ℕ) (b : Begun) (s0 s t : State)
    (h0 h g : List Entry) (rs0 rs qs : List Reply) (k : ℕ) (scripts : List Script) (script : Script) (steps : List Step) (seats : List A)
    (old new : A) (acted entered : Bool)
    → k < length seats → k < length scripts → old ≡ slice_index_or seats k old → script ≡ slice_index_or scripts k script → steps ≡ script.steps
    → (ClientIs b (k + 1) s h steps (worker (slice_index_or seats k old))
    → HandsStandBy b (k + 1) h (places (slice_index_or seats k old)) (mems (slice_index_or seats k old)) (slots (slice_index_or seats k old))
    → HandsTurnBy (Ok entered) b (k + 1) s t h g rs qs steps (worker new) (places new) (mems new) (slots new))
    → ClientsTurnBy (Ok acted) b s0 s h0 h rs0 rs k scripts (map worker seats) (map places seats) (map mems seats) (map slots seats)
    → ClientsTurnBy (Ok (acted || entered)) b s0 t h0 g rs0 qs (k + 1) scripts (map worker (slice_set seats k new)) (map places (slice_set seats k new))
    (map mems (slice_set seats k new)) (map slots (slice_set seats k new))
clients_step {A} worker places mems slots b s0 s t h0 h g rs0 rs qs k scripts script steps seats old new acted entered ls lc io ic is turn (had, n, all) =
    let gs = get_at scripts k script lc ic in let go = get_at seats k old ls io in
    let Y : A → Type 0 = λ y. ClientIs b (k + 1) s h steps (worker y) → HandsStandBy b (k + 1) h (places y) (mems y) (slots y)
    → HandsTurnBy (Ok entered) b (k + 1) s t h g rs qs steps (worker new) (places new) (mems new) (slots new) in
    let Z : List Step → Type 0 = λ z. ClientIs b (k + 1) s h z (worker old) → HandsStandBy b (k + 1) h (places old) (mems old) (slots old)
    → HandsTurnBy (Ok entered) b (k + 1) s t h g rs qs z (worker new) (places new) (mems new) (slots new) in
    let each = from_all worker places mems slots b s h scripts seats all in
    let one = each k old go script gs in
    step_by worker places mems slots b s0 s t h0 h g rs0 rs qs k scripts script seats old new acted entered ls gs go had n each
    (subst Z is (subst Y (sym io) turn) one.is one.hands)

-- ---- for want of memory, perhaps behind an entry

entries_front : (b : Begun) (h : List Entry) (by more : List Actor) (ts : List (Option Event)) → AreTurns false b h by ts
    → round_entries (by ++ more) ts ≡ round_entries by ts
entries_front b h [] [] [] are = refl
entries_front b h [] (a ∷ as') [] are = refl
entries_front b h [] more (u ∷ us) are = absurd are
entries_front b h (c ∷ cs) more [] are = absurd (let e : false ≡ true = are in cc)
entries_front b h (c ∷ cs) more (u ∷ us) are = ap (λ (es : List Entry). entry_of c u ++ es) (entries_front b (h ++ entry_of c u) cs more us are.1)

-- the turns of the first of them are those of a round that breaks off
had_broken : (b : Begun) (s t : State) (h g : List Entry) (rs qs : List Reply) (k m : ℕ) → HaveTurns false b s t h g rs qs k
    → HaveTurns true b s t h g rs qs (k + m)
had_broken b s t h g rs qs k m had =
    let by = clients_from 0 k in let more = clients_from (0 + k) m in
    let T : List Actor → Type 0 = λ z. AreTurns true b h z had.turns in
    record {
      turns = had.turns;
      are = subst T (sym (clients_split 0 k m)) (broken_off b h by more had.turns had.are);
      entries = had.entries ∙ (ap (λ (z : List Entry). h ++ z) (sym (entries_front b h by more had.turns had.are))
          ∙ ap (λ (z : List Actor). h ++ round_entries z had.turns) (sym (clients_split 0 k m)));
      stands = had.stands;
    }

broken_to : (b : Begun) (s t : State) (h g : List Entry) (rs qs : List Reply) (k n : ℕ)
    → k ≤ n → HaveTurns false b s t h g rs qs k → HaveTurns true b s t h g rs qs n
broken_to b s t h g rs qs k n l had =
    let P : ℕ → Type 0 = λ z. HaveTurns true b s t h g rs qs z in let e : k + (n - k) ≡ n = omega arith in subst P e (had_broken b s t h g rs qs k (n - k) had)

-- each client follows its script
follow_by : {A : Type 0} (worker : A → Worker) (places : A → List ℕ) (mems : A → List Memory) (slots : A → List ℕ) (b : Begun) (s : State) (h : List Entry)
    (scripts : List Script) (seats : List A) → length scripts ≡ length seats → AllOf worker places mems slots b s h scripts seats → AllFollow b h (length seats)
follow_by worker places mems slots b s h scripts seats e all = λ k l.
    let x = get_some seats k l in let script = get_some scripts k (omega (arith, e)) in
    (all k x.0 x.1 script.0 script.1).is.stands

-- behind an entry of client k + 1
follow_acted : (b : Begun) (k n : ℕ) (s t : State) (h g : List Entry) (rs qs : List Reply)
    → Acts b (k + 1) s t h g rs qs → AllFollow b h n → (j : ℕ) → j < n → (c : Bool) → (k == j) ≡ c → ClientStands b g (j + 1)
follow_acted b k n s t h g rs qs a all j l true c =
    let q = same_place k j c in
    let P : ℕ → Type 0 = λ i. ClientStands b h (i + 1) in let Q : ℕ → Type 0 = λ i. ClientStands b g (i + 1) in
    subst Q q (acted_stands b (k + 1) s t h g rs qs a (subst P (sym q) (all j l)))
follow_acted b k n s t h g rs qs a all j l false c =
    let P : List Entry → Type 0 = λ z. ClientStands b z (j + 1) in
    subst P (sym a.enters.entries) (stands_other b h (entry (actors.Client (k + 1)) a.event) (j + 1) (other_client k j c) (all j l))

clients_stop : (b : Begun) (s0 s t : State) (h0 h g : List Entry) (rs0 rs qs : List Reply) (k n : ℕ)
    → k + 1 ≤ n → (Rests s t h g rs qs ⊎ Acts b (k + 1) s t h g rs qs) → HaveTurns false b s0 s h0 h rs0 rs k → AllFollow b h n
    → HaveTurns true b s0 t h0 g rs0 qs n × AllFollow b g n
clients_stop b s0 s t h0 h g rs0 rs qs k n l (inl r) had all =
    let had' : HaveTurns false b s0 t h0 g rs0 qs k = record {
      turns = had.turns;
      are = had.are;
      entries = r.entries ∙ had.entries;
      stands = λ k0. stands_still b.state s t h g rs qs r (had.stands k0);
    } in (
      broken_to b s0 t h0 g rs0 qs k n (omega arith) had',
      λ j m. let P : List Entry → Type 0 = λ z. ClientStands b z (j + 1) in subst P (sym r.entries) (all j m),
    )
clients_stop b s0 s t h0 h g rs0 rs qs k n l (inr a) had all = (
  broken_to b s0 t h0 g rs0 qs (k + 1) n l (had_more b s0 s t h0 h g rs0 rs qs k (Some a.event) a.turn a.enters.entries
      (stands_one b.state s t h g rs qs (actors.Client (k + 1)) a.event a.enters a.ready) had),
  λ j m. follow_acted b k n s t h g rs qs a all j m (k == j) refl,
)

stopped : (b : Begun) (s t : State) (h g : List Entry) (rs qs : List Reply) (n : ℕ) (scripts : List Script) (ws : List Worker)
    (places : List (List ℕ)) (ms : List (List Memory)) (slots : List (List ℕ)) (result : Result Bool OutOfMemory)
    → IsErr result → HaveTurns true b s t h g rs qs n × AllFollow b g n → ClientsTurnBy result b s t h g rs qs n scripts ws places ms slots
stopped b s t h g rs qs n scripts ws places ms slots (Ok acted) i x = absurd (cc)
stopped b s t h g rs qs n scripts ws places ms slots (Err e) i x = x

pub clients_fail : {A : Type 0} (worker : A → Worker) (places : A → List ℕ) (mems : A → List Memory) (slots : A → List ℕ) (b : Begun)
    (s0 s t : State) (h0 h g : List Entry) (rs0 rs qs : List Reply) (k : ℕ) (scripts : List Script) (script : Script) (steps : List Step)
    (seats : List A) (old : A) (acted : Bool)
    (n : ℕ) (ws : List Worker) (pls : List (List ℕ)) (mss : List (List Memory)) (sls : List (List ℕ)) (result : Result Bool OutOfMemory) → IsErr result
    → n ≡ length seats → length scripts ≡ length seats
    → k < length seats → k < length scripts → old ≡ slice_index_or seats k old → script ≡ slice_index_or scripts k script → steps ≡ script.steps
    → (ClientIs b (k + 1) s h steps (worker (slice_index_or seats k old))
    → HandsStandBy b (k + 1) h (places (slice_index_or seats k old)) (mems (slice_index_or seats k old)) (slots (slice_index_or seats k old))
    → Rests s t h g rs qs ⊎ Acts b (k + 1) s t h g rs qs)
    → ClientsTurnBy (Ok acted) b s0 s h0 h rs0 rs k scripts (map worker seats) (map places seats) (map mems seats) (map slots seats)
    → ClientsTurnBy result b s0 t h0 g rs0 qs n scripts ws pls mss sls
clients_fail {A} worker places mems slots b s0 s t h0 h g rs0 rs qs k scripts script steps seats old acted n ws pls mss sls result err en el ls
    lc io ic is turn (had, nobody, all) =
    let gs = get_at scripts k script lc ic in let go = get_at seats k old ls io in
    let Y : A → Type 0 = λ y. ClientIs b (k + 1) s h steps (worker y) → HandsStandBy b (k + 1) h (places y) (mems y) (slots y)
    → Rests s t h g rs qs ⊎ Acts b (k + 1) s t h g rs qs in
    let Z : List Step → Type 0 = λ z. ClientIs b (k + 1) s h z (worker old) → HandsStandBy b (k + 1) h (places old) (mems old) (slots old)
    → Rests s t h g rs qs ⊎ Acts b (k + 1) s t h g rs qs in
    let N : ℕ → Type 0 = λ z. HaveTurns true b s0 t h0 g rs0 qs z × AllFollow b g z in
    let each = from_all worker places mems slots b s h scripts seats all in
    let one = each k old go script gs in
    let last = subst Z is (subst Y (sym io) turn) one.is one.hands in
    stopped b s0 t h0 g rs0 qs n scripts ws pls mss sls result err (subst N (sym en)
    (clients_stop b s0 s t h0 h g rs0 rs qs k (length seats) (omega arith) last had (follow_by worker places mems slots b s h scripts seats el each)))

-- before the first turn, and behind the last one

pub clients_none : (b : Begun) (s : State) (h : List Entry) (rs : List Reply) (scripts : List Script) (ws : List Worker)
    (places : List (List ℕ)) (ms : List (List Memory)) (slots : List (List ℕ)) → AllStandBy b s h scripts ws places ms slots
    → ClientsTurnBy (Ok false) b s s h h rs rs 0 scripts ws places ms slots
clients_none b s h rs scripts ws places ms slots all = (record { turns = []; are = tt; entries = sym (append-nil h); stands = λ k. k }, refl, all)

pub clients_done : (b : Begun) (s t : State) (h g : List Entry) (rs qs : List Reply) (acted : Bool) (k n : ℕ) (scripts : List Script) (ws : List Worker)
    (places : List (List ℕ)) (ms : List (List Memory)) (slots : List (List ℕ)) → k ≡ n → ClientsTurnBy (Ok acted) b s t h g rs qs k scripts ws places ms slots
    → ClientsTurnBy (Ok acted) b s t h g rs qs n scripts ws places ms slots
clients_done b s t h g rs qs acted k n scripts ws places ms slots e x =
    let P : ℕ → Type 0 = λ z. ClientsTurnBy (Ok acted) b s t h g rs qs z scripts ws places ms slots in subst P e x
