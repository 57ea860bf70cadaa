-- Clients in a row, before they run and when they have returned.
use Rattle.std.proofs.Common.{◌≡◌, ℕ, ◌+◌, ◌<◌, zero, suc, add-one, Bool, true, false, List, [], ◌∷◌, ◌++◌, length, get_or, map, Some, None, sym, refl, ap, ◌∙◌, subst, arith, All, ⊎_elim, ◌⊎◌, inl, inr, append-nil, length-append, take, drop}
use Rattle.std.proofs.lemmas.List.Elements.{All-cons, All-nil}
use Rattle.std.proofs.lemmas.List.{drop_all, length-map, take_all}
use Rattle.std.proofs.lemmas.Option.{slice_get-get_or, slice_get_within, get_or_from_slice_get}
use Rattle.std.proofs.lemmas.Bool.Decides.{nat_tests}
use Rattle.std.specs.Prelude.{slice_get, nat_lt, if◌then◌else◌, ◌&&◌, ◌==◌}
use Rattle.con_events.specs.Session.{Clients}
use Rattle.con_events.specs.declared.actor.Actor.TheVariants as actors
use Rattle.con_events.specs.declared.entry.Entry.{Entry}
use Rattle.con_events.specs.declared.script.Script.{Script}
use Rattle.con_events.specs.declared.event.Event.{Event}
use Rattle.con_events.specs.declared.script.Step.{Step}
use Rattle.con_handlers.specs.Memory.{Memory}
use Rattle.con_machine.specs.Follows.{kinds_of}
use Rattle.con_machine.specs.Numbered.{actor_of}
use Rattle.con_laws.specs.Rounds.{Begun}
use Rattle.con_actors.specs.Opening.{AreFreshBy, fresh}
use Rattle.con_actors.specs.OpeningLaws.{get_below, seated_fresh}
use Rattle.con_actors.specs.Solo.{begins}
use Rattle.con_actors.specs.Words.Worker.{HandsStandBy}
use Rattle.con_actors.specs.declared.worker.Worker.{Worker}
use Rattle.con_book.specs.Lock.{gave, newcomer}
use Rattle.con_book.specs.Passes.{BookId, pass_id, view_of}
use Rattle.con_book.specs.declared.machine.Machine.{Ghosts}
use Rattle.con_book.specs.declared.pass.Pass.{Pass}
use Rattle.con_threads.specs.Clients.{ClientGoes, ClientView, HasServedBy, IsClientThreadBy, ViewGoes}
use Rattle.con_run.specs.Crews.{AllServed, AreNew, Begins, Belongs, CrewGoes, IsAt, IsCrew, IsOpening, down_from}
use Rattle.con_threads.specs.Scribe.{IsSameScribe, IsScribe, history}
use Rattle.con_threads.specs.declared.ledger.LedgerView.{LedgerView}
use Rattle.con_threads.specs.declared.scribe.Scribe.{Scribe}

pub down_below : (n m : ℕ) → n < m → All (λ a. a < m) (down_from n)
down_below zero m lt = All-nil (λ a. a < m)
down_below (suc n) m lt = All-cons (λ a. a < m) (suc n) (down_from n) lt (down_below n m (omega arith))

pub down_next : (k : ℕ) → (k + 1) ∷ down_from k ≡ down_from (k + 1)
down_next k = rw add-one refl

module _ {M S E R A Room : Type 0} {g : Ghosts M S E R A Room} where
  -- one more actor was given a pass
  pub opening_more : (id : BookId) (start : S) (n : ℕ) (made more : List ℕ) (p q : Pass M S E R A Room g) → IsOpening id start made p → pass_id q ≡ pass_id p
      → view_of q ≡ gave n (view_of p) → n ∷ made ≡ more → IsOpening id start more q
  opening_more id start n made more p q h is view all = record {
    book = is ∙ h.book;
    start' = (λ i. (view i).start) ∙ h.start';
    opens = (λ i. (view i).opens) ∙ h.opens;
    none_seen = (λ i. (view i).seen) ∙ h.none_seen;
    made' = (λ i. (view i).made) ∙ ((λ i. n ∷ h.made' i) ∙ all);
    none_kept = (λ i. (view i).kept) ∙ h.none_kept;
    mine = (λ i. (view i).mine) ∙ h.mine;
    actor = (λ i. (view i).actor) ∙ h.actor;
  }

module _ {X : Type 0} where
  pub get_push : (xs : List X) (x y : X) (k : ℕ) → slice_get (xs ++ x ∷ []) k ≡ Some y → (slice_get xs k ≡ Some y) ⊎ ((k ≡ length xs) × (y ≡ x))
  get_push [] x y zero h = inr (refl, cc)
  get_push [] x y (suc k) h = cc
  get_push (z ∷ zs) x y zero h = inl h
  get_push (z ∷ zs) x y (suc k) h = ⊎_elim inl (λ e. inr (ap suc e.0, e.1)) (get_push zs x y k h)

-- the same scribe
pub served_at : (id : BookId) (start : LedgerView) (n : ℕ) (s t : Scribe) → IsAt id start n s → IsSameScribe s t → IsAt id start n t
served_at id start n s t a same = record {
  book = same.pass.0 ∙ a.book;
  actor' = same.pass.1.1 ∙ a.actor';
  begins = same.pass.1.0 ∙ a.begins;
  none_kept = same.pass.1.4 ∙ a.none_kept;
}

-- a new client, at its place
abbrev pub IsNew : BookId → LedgerView → List Script → ℕ → ClientView → Type 0
IsNew id start scripts k v = (script : Script) × (slice_get scripts k ≡ Some script) × Begins id start script (k + 1) v

module _ {C : Type 0} (view : C → ClientView) (id : BookId) (start : LedgerView) where
  pub new_none : (scripts : List Script) → AreNew view id start scripts []
  new_none scripts k c e = absurd (cc)

  pub new_more : (scripts : List Script) (cs ds : List C) (c : C) (n : ℕ) (script : Script) → ds ≡ cs ++ c ∷ [] → n ≡ length cs
      → slice_get scripts n ≡ Some script → Begins id start script (n + 1) (view c) → AreNew view id start scripts cs → AreNew view id start scripts ds
  new_more scripts cs ds c n script e len is new all = subst (λ (z : List C). AreNew view id start scripts z) (sym e)
      (λ k d at. ⊎_elim (λ old. all k d old) (λ q. subst (λ (z : ℕ × C). IsNew id start scripts z.0 (view z.1)) (λ i. ((len ∙ sym q.0) i, sym q.1 i)) (script, is, new)) (get_push cs c d k at))

  -- each belongs
  pub new_belongs : (scripts : List Script) (cs : List C) → AreNew view id start scripts cs → IsCrew view id start cs
  new_belongs scripts cs all = λ k c e. let b = (all k c e).2 in record { at = b.at; number' = b.number'; is = b.is }

  -- and still does when it has returned
  pub served_belongs : (k : ℕ) (v w : ClientView) → Belongs id start k v → HasServedBy v w → Belongs id start k w
  served_belongs k v w b h = record { at = served_at id start (k + 1) v.scribe w.scribe b.at h.same; number' = h.number ∙ b.number'; is = h.is }

  -- a client that returned, and what it was before
  pub served_one : (os cs : List C) (k : ℕ) (c : C) → AllServed view os cs → slice_get cs k ≡ Some c
      → (o : C) × (slice_get os k ≡ Some o) × HasServedBy (view o) (view c)
  served_one os cs k c all is =
      let inside : k < length cs = slice_get_within cs k c is in
      let lt : k < length os = let e = all.len in omega arith in
      (get_or os k c, slice_get-get_or os k c lt, subst (λ (z : C). HasServedBy (view (get_or os k c)) (view z)) (get_or_from_slice_get cs k c c is) (all.each k c lt))

  pub served_crew : (os cs : List C) → AllServed view os cs → IsCrew view id start os → IsCrew view id start cs
  served_crew os cs all crew = λ k c is. let (o, at, h) = served_one os cs k c all is in served_belongs k (view o) (view c) (crew k o at) h

  pub served_goes : (b : Begun) (os cs : List C) → start.state ≡ b.state → AllServed view os cs → IsCrew view id start os → CrewGoes view b os
      → CrewGoes view b cs
  served_goes b os cs e all crew goes =
      λ k c is. let (o, at, h) = served_one os cs k c all is in h.goes b (ap (λ (p : LedgerView). p.state) (crew k o at).at.begins ∙ e) (goes k o at)

  -- they may work
  pub crew_works : (cs : List C) → IsCrew view id start cs → All (λ c. (pass_id (view c).scribe.pass ≡ id) × IsClientThreadBy (view c)) cs
  crew_works cs crew k d lt = let b = crew k (get_or cs k d) (slice_get-get_or cs k d lt) in (b.at.book, b.is)

  pub crew_books : (cs : List C) → IsCrew view id start cs → All (λ c. pass_id (view c).scribe.pass ≡ id) cs
  crew_books cs crew k d lt = (crew k (get_or cs k d) (slice_get-get_or cs k d lt)).at.book

  pub crew_single : (cs : List C) → IsCrew view id start cs
      → All (λ c. ((view_of (view c).scribe.pass).opens ≡ false) × ((view_of (view c).scribe.pass).kept ≡ [])) cs
  crew_single cs crew k d lt = let b = crew k (get_or cs k d) (slice_get-get_or cs k d lt) in (b.is.scribe.single, b.at.none_kept)

-- ---- how they go

-- of clients with seats, in a row
pub fresh_of : {A B : Type 0} (worker : A → Worker) (places : A → List ℕ) (mems : A → List Memory) (slots : A → List ℕ) (f : B → A) (racks : List (List ℕ))
    (k : ℕ) (xs : List B)
    → AreFreshBy worker places mems slots racks k (map f xs)
    → AreFreshBy (λ x. worker (f x)) (λ x. places (f x)) (λ x. mems (f x)) (λ x. slots (f x)) racks k xs
fresh_of worker places mems slots f racks k [] a = tt
fresh_of worker places mems slots f racks k (x ∷ xs) (u, v, a) = (u, v, fresh_of worker places mems slots f racks (k + 1) xs a)

fresh_get : {A : Type 0} (worker : A → Worker) (places : A → List ℕ) (mems : A → List Memory) (slots : A → List ℕ) (racks : List (List ℕ)) (k : ℕ)
    (xs : List A) (j : ℕ) (x : A)
    → AreFreshBy worker places mems slots racks k xs → slice_get xs j ≡ Some x
    → (worker x ≡ fresh) × ((b : Begun) (p : ℕ) → kinds_of b.racks p ≡ get_or racks (k + j) [] → HandsStandBy b p [] (places x) (mems x) (slots x))
fresh_get worker places mems slots racks k [] j x a e = absurd (cc)
fresh_get {A} worker places mems slots racks k (y ∷ ys) zero x (u, v, a) e =
    let q : y ≡ x = cc in
    let P : A
    → Type 0 = λ z. (worker z ≡ fresh)
    × ((b : Begun) (p : ℕ) → kinds_of b.racks p ≡ get_or racks (k + 0) [] → HandsStandBy b p [] (places z) (mems z) (slots z)) in
    let N : ℕ → Type 0 = λ z. (b : Begun) (p : ℕ) → kinds_of b.racks p ≡ get_or racks z [] → HandsStandBy b p [] (places y) (mems y) (slots y) in
    subst P q (u, subst N (let i : k ≡ k + 0 = omega arith in i) v)
fresh_get worker places mems slots racks k (y ∷ ys) (suc j) x (u, v, a) e =
    let r = fresh_get worker places mems slots racks (k + 1) ys j x a e in
    let N : ℕ → Type 0 = λ z. (b : Begun) (p : ℕ) → kinds_of b.racks p ≡ get_or racks z [] → HandsStandBy b p [] (places x) (mems x) (slots x) in
    (r.0, subst N (let i : k + 1 + j ≡ k + suc j = omega arith in i) r.1)

-- a client that has done nothing
new_goes : (session : Clients) (racks : List (List ℕ)) (k : ℕ) (script : Script) (v : ClientView) → slice_get session.scripts k ≡ Some script → v.number ≡ k + 1
    → v.steps ≡ script.steps → history v.scribe ≡ [] → v.worker ≡ fresh
    → ((b : Begun) (p : ℕ) → kinds_of b.racks p ≡ get_or racks (0 + k) [] → HandsStandBy b p [] v.places v.memories v.slots)
    → ViewGoes (begins session racks None) v
new_goes session racks k script v is number steps none worker hands =
    let b = begins session racks None in
    let s = seated_fresh session racks None k script fresh v.places v.memories v.slots (get_below session.scripts k script is) is refl hands in
    let first : ClientGoes b (k + 1) [] script.steps v.broken fresh v.places v.memories v.slots =
    record { stands = s.is.stands; worker = λ e. s.is.worker; hands = λ e h. s.hands; dropped = λ e. absurd (cc) } in
    subst (λ (z : ℕ × List Entry × List Step × Worker). ClientGoes b z.0 z.1 z.2 v.broken z.3 v.places v.memories v.slots)
    (λ i. (sym number i, sym none i, sym steps i, sym worker i)) first

pub all_new_go : {C : Type 0} (view : C → ClientView) (id : BookId) (start : LedgerView) (session : Clients) (racks : List (List ℕ)) (scripts : List Script)
    (cs : List C)
    → scripts ≡ session.scripts → AreNew view id start scripts cs
    → AreFreshBy (λ c. (view c).worker) (λ c. (view c).places) (λ c. (view c).memories) (λ c. (view c).slots) racks 0 cs
    → CrewGoes view (begins session racks None) cs
all_new_go view id start session racks scripts cs e new are = λ k c is.
    let (script, at, b) = new k c is in
    let f = fresh_get (λ c. (view c).worker) (λ c. (view c).places) (λ c. (view c).memories) (λ c. (view c).slots) racks 0 cs k c are is in
    new_goes session racks k script (view c) (ap (λ (z : List Script). slice_get z k) (sym e) ∙ at) b.number' b.steps' b.none f.0 f.1

-- ---- one seat after another

-- a front that is as long as the whole
front_whole : {T : Type 0} (xs rest ys : List T) → xs ++ rest ≡ ys → length xs ≡ length ys → xs ≡ ys
front_whole xs [] ys e len = sym (append-nil xs) ∙ e
front_whole {T} xs (r ∷ rest) ys e len =
    absurd (let n : length xs + length (r ∷ rest) ≡ length ys = sym (length-append xs (r ∷ rest)) ∙ ap (λ (l : List T). length l) e in omega (arith, n, len))

seats_on : {C T : Type 0} (seat : C → T) (cs : List C) (c : C) (rest : List T) → map seat (cs ++ c ∷ []) ++ rest ≡ map seat cs ++ seat c ∷ rest
seats_on seat [] c rest = refl
seats_on {C} {T} seat (d ∷ ds) c rest = ap (λ (l : List T). seat d ∷ l) (seats_on seat ds c rest)

module _ {C T M R A Room : Type 0} {g : Ghosts M LedgerView Event R A Room} (view : C → ClientView) (seat : C → T) (id : BookId) (start : LedgerView)
    (scripts : List Script)
    (seats : List T) where
  -- the clients of the first seats were made
  pub record AreSeated (opening : Pass M LedgerView Event R A Room g) (crew : List C) (rest : List T) : Type 0 where
    pub opening' : IsOpening id start (down_from (length crew)) opening
    pub seats' : map seat crew ++ rest ≡ seats
    pub crew' : AreNew view id start scripts crew

  pub seated_first : (opening : Pass M LedgerView Event R A Room g) (crew : List C) (rest : List T) → crew ≡ [] → rest ≡ seats → IsOpening id start [] opening
      → AreSeated opening crew rest
  seated_first opening crew rest none is h = record {
    opening' = subst (λ (l : List C). IsOpening id start (down_from (length l)) opening) (sym none) h;
    seats' = ap (λ (l : List C). map seat l ++ rest) none ∙ is;
    crew' = subst (λ (l : List C). AreNew view id start scripts l) (sym none) (new_none view id start scripts);
  }

  pub seated_next : (opening new : Pass M LedgerView Event R A Room g) (crew more : List C) (rest rest' : List T) (c : C) (x : T) (n m : ℕ) (script : Script)
      → rest ≡ x ∷ rest' → seat c ≡ x → n ≡ length crew → m ≡ n + 1 → slice_get scripts n ≡ Some script → more ≡ crew ++ c ∷ []
      → pass_id new ≡ pass_id opening → view_of new ≡ gave m (view_of opening) → Begins (pass_id opening) (view_of opening).start script m (view c)
      → AreSeated opening crew rest → AreSeated new more rest'
  seated_next opening new crew more rest rest' c x n m script is same len next at push book gives begins h = record {
    opening' = opening_more id start m (down_from (length crew)) (down_from (length more)) opening new h.opening' book gives
        (ap (λ (z : ℕ). z ∷ down_from (length crew)) (next ∙ ap (λ (z : ℕ). z + 1) len) ∙ (down_next (length crew) ∙ ap down_from (let e : length crew + 1 ≡ length more = sym (ap (λ (l : List C). length l) push ∙ length-append crew (c ∷ [])) in e)));
    seats' =
        ap (λ (l : List C). map seat l ++ rest') push
        ∙ (seats_on seat crew c rest' ∙ (ap (λ (z : T). map seat crew ++ z ∷ rest') same ∙ (ap (λ (l : List T). map seat crew ++ l) (sym is) ∙ h.seats')));
    crew' =
        new_more view id start scripts crew more c n script push len at
        (subst (λ (z : BookId × LedgerView × ℕ). Begins z.0 z.1 script z.2 (view c)) (λ i. (h.opening'.book i, h.opening'.start' i, next i)) begins) h.crew';
  }

  pub seated_last : (opening : Pass M LedgerView Event R A Room g) (crew : List C) (rest : List T) → length crew ≡ length seats → AreSeated opening crew rest
      → map seat crew ≡ seats
  seated_last opening crew rest len h = front_whole (map seat crew) rest seats h.seats' (length-map crew seat ∙ len)

  pub seated_as : (opening : Pass M LedgerView Event R A Room g) (crew : List C) (rest : List T) (n : ℕ) → length crew ≡ n → AreSeated opening crew rest
      → IsOpening id start (down_from n) opening
  seated_as opening crew rest n e h = subst (λ (z : ℕ). IsOpening id start (down_from z) opening) e h.opening'

-- ---- one client

-- the number of a client, as a book has it
pub client_named : (n : ℕ) → 0 < n → n < 256 → actor_of n ≡ Some (actors.Client n)
client_named n a b =
    let named : (nat_lt 0 n && nat_lt n 256) ≡ true = grind (arith, nat_tests) in
    ap (λ (z : Bool). if z then Some (actors.Client n) else if n == 1000 then Some actors.Terminal else if n == 1001 then Some actors.Painter else None) named

module _ {M R A Room : Type 0} {g : Ghosts M LedgerView Event R A Room} where
  -- a scribe with a pass of its own
  pub scribe_at : (id : BookId) (start : LedgerView) (n : ℕ) (opening : Pass M LedgerView Event R A Room g) (s : Scribe) → pass_id opening ≡ id
      → (view_of opening).start ≡ start → pass_id s.pass ≡ pass_id opening → view_of s.pass ≡ newcomer n (view_of opening) → IsAt id start n s
  scribe_at id start n opening s there begun' book view = record {
    book = book ∙ there;
    actor' = λ i. (view i).actor;
    begins = (λ i. (view i).start) ∙ begun';
    none_kept = λ i. (view i).kept;
  }

  pub client_begins : (n : ℕ) (opening : Pass M LedgerView Event R A Room g) (script : Script) (v : ClientView) → 0 < n → pass_id v.scribe.pass ≡ pass_id opening
      → view_of v.scribe.pass ≡ newcomer n (view_of opening) → IsScribe v.scribe → v.scribe.actor ≡ actors.Client n
      → history v.scribe ≡ [] → v.number ≡ n → v.steps ≡ script.steps → v.broken ≡ false → Begins (pass_id opening) (view_of opening).start script n v
  client_begins n opening script v real book view is actor none number steps whole = record {
    at = scribe_at (pass_id opening) (view_of opening).start n opening v.scribe refl refl book view;
    number' = number;
    is = record { scribe = is; actor = actor ∙ ap (λ (z : ℕ). actors.Client z) (sym number); real = let e : v.number ≡ n = number in omega arith };
    steps' = steps;
    whole = whole;
    none = none;
  }

-- ---- while they run

pub served_as : {C : Type 0} (view : C → ClientView) (x y a b : C) → x ≡ a → y ≡ b → HasServedBy (view x) (view y) → HasServedBy (view a) (view b)
served_as {C} view x y a b p q h = subst (λ (z : C × C). HasServedBy (view z.0) (view z.1)) (λ i. (p i, q i)) h

rest_none : {C : Type 0} (xs : List C) (n : ℕ) → n ≡ length xs → drop n xs ≡ []
rest_none xs n is = drop_all n xs (omega arith)

all_there : {C : Type 0} (new rest : List C) (n : ℕ) → n ≡ length new → rest ≡ [] → take n (new ++ rest) ≡ new
all_there {C} new rest n is none = ap (λ (l : List C). take n (new ++ l)) none ∙ (ap (λ (l : List C). take n l) (append-nil new) ∙ take_all n new (omega arith))

-- a vector whose slice was lent
pub served_slice : {C : Type 0} (view : C → ClientView) (os slice new now : List C) (n : ℕ) → slice ≡ os → AllServed view slice new → n ≡ length os
    → now ≡ take n (new ++ drop (length new) os) → AllServed view os now
served_slice {C} view os slice new now n is ran len lent =
    let len' : length new ≡ length os = ran.len ∙ ap (λ (l : List C). length l) is in
    let whole : now ≡ new = lent ∙ all_there new (drop (length new) os) n (omega arith) (rest_none os (length new) (omega arith)) in
    subst (λ (z : List C × List C). AllServed view z.0 z.1) (λ i. (is i, sym whole i)) ran

-- a slice that was lent to a closure, which has ended
pub served_lent : {C N : Type 0} (view : C → ClientView) (old now new : List C) (n n' : N) → n' ≡ n → (n ≡ n' → now ≡ new) → AllServed view old new
    → AllServed view old now
served_lent {C} {N} view old now new n n' e f ran = subst (λ (z : List C). AllServed view old z) (sym (f (sym e))) ran
