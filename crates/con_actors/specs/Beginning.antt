-- Clients that have entered nothing, and a session that begins.
use Rattle.std.proofs.Common.{◌≡◌, ℕ, zero, suc, ◌+◌, ◌<◌, ◌≤◌, Bool, false, List, [], ◌∷◌, ◌++◌, length, map, take}
use Rattle.std.proofs.Common.{drop, Option, Some, None, get_or, refl, sym, ap, ◌∙◌, subst, inl, arith, length-append}
use Rattle.std.specs.Prelude.{◌-◌, slice_get}
use Rattle.con_handlers.specs.Memory.{Memory}
use Rattle.con_link.specs.LinkReading.{LinkReading}
use Rattle.con_paint.specs.Painter.{Kept}
use Rattle.con_events.specs.Session.{Clients}
use Rattle.con_events.specs.declared.end.End.TheVariants as ends
use Rattle.con_events.specs.declared.entry.Entry.{Entry}
use Rattle.con_events.specs.declared.reply.Reply.{Reply}
use Rattle.con_events.specs.declared.script.Script.{Script}
use Rattle.con_machine.specs.Follows.{session_start, kinds_of}
use Rattle.con_laws.specs.OpeningLaws.{opens}
use Rattle.con_laws.specs.Rounds.{Begun}
use Rattle.con_machine.specs.State.{State, opening}
use Rattle.con_machine.specs.Turns.{paints}
use Rattle.con_actors.specs.Opening.{AreFreshBy, fresh}
use Rattle.con_actors.specs.Seats.{AllStandBy, AllFollow}
use Rattle.con_actors.specs.Words.Sender.{FailsBy}
use Rattle.con_actors.specs.Solo.{GoesBy, Moment, begins, fails_at}
use Rattle.con_actors.specs.Words.Worker.{HandsStandBy}
use Rattle.con_actors.specs.declared.side.Side.{Side}
use Rattle.con_actors.specs.declared.worker.Worker.{Worker}
use Rattle.con_actors.specs.OpeningLaws.{seated_fresh, get_below, open_link_by, open_canvas, some_at, get_map, fresh_as, side_first}

-- ---- clients that have entered nothing

-- one more
pub fresh_more : {A : Type 0} (worker : A → Worker) (places : A → List ℕ) (mems : A → List Memory) (slots : A → List ℕ) (racks : List (List ℕ)) (k : ℕ)
    (xs : List A) (x : A) → AreFreshBy worker places mems slots racks k xs
    → worker x ≡ fresh → ((b : Begun) (p : ℕ) → kinds_of b.racks p ≡ get_or racks (k + length xs) [] → HandsStandBy b p [] (places x) (mems x) (slots x))
    → AreFreshBy worker places mems slots racks k (xs ++ x ∷ [])
fresh_more worker places mems slots racks k [] x f w h =
    let P : ℕ → Type 0 = λ z. (b : Begun) (p : ℕ) → kinds_of b.racks p ≡ get_or racks z [] → HandsStandBy b p [] (places x) (mems x) (slots x) in
    (w, subst P (let e : k + 0 ≡ k = omega arith in e) h, tt)
fresh_more worker places mems slots racks k (y ∷ ys) x (u, v, f) w h =
    let P : ℕ → Type 0 = λ z. (b : Begun) (p : ℕ) → kinds_of b.racks p ≡ get_or racks z [] → HandsStandBy b p [] (places x) (mems x) (slots x) in
    (u, v, fresh_more worker places mems slots racks (k + 1) ys x f w (subst P (let e : k + suc (length ys) ≡ k + 1 + length ys = omega arith in e) h))

-- the first of them
pub fresh_take : {A : Type 0} (worker : A → Worker) (places : A → List ℕ) (mems : A → List Memory) (slots : A → List ℕ) (racks : List (List ℕ)) (k : ℕ)
    (xs : List A) (n : ℕ) → AreFreshBy worker places mems slots racks k xs → AreFreshBy worker places mems slots racks k (take n xs)
fresh_take worker places mems slots racks k [] zero f = tt
fresh_take worker places mems slots racks k [] (suc n) f = tt
fresh_take worker places mems slots racks k (x ∷ xs) zero f = tt
fresh_take worker places mems slots racks k (x ∷ xs) (suc n) (u, v, f) = (u, v, fresh_take worker places mems slots racks (k + 1) xs n f)

-- each of them
pub fresh_at : {A : Type 0} (worker : A → Worker) (places : A → List ℕ) (mems : A → List Memory) (slots : A → List ℕ) (racks : List (List ℕ)) (k : ℕ)
    (xs : List A) → AreFreshBy worker places mems slots racks k xs
    → (j : ℕ) (w : Worker) (ps : List ℕ) (m : List Memory) (ys : List ℕ) → slice_get (map worker xs) j ≡ Some w → slice_get (map places xs) j ≡ Some ps
    → slice_get (map mems xs) j ≡ Some m → slice_get (map slots xs) j ≡ Some ys
    → (w ≡ fresh) × ((b : Begun) (p : ℕ) → kinds_of b.racks p ≡ get_or racks (k + j) [] → HandsStandBy b p [] ps m ys)
fresh_at worker places mems slots racks k [] f j w ps m ys a b c d = absurd (cc)
fresh_at worker places mems slots racks k (x ∷ xs) (u, v, f) zero w ps m ys a b c d =
    let q0 : worker x ≡ w = cc in let q1 : places x ≡ ps = cc in let q2 : mems x ≡ m = cc in let q3 : slots x ≡ ys = cc in
    let P : ℕ → Type 0 = λ z. (b : Begun) (p : ℕ) → kinds_of b.racks p ≡ get_or racks z [] → HandsStandBy b p [] (places x) (mems x) (slots x) in
    let A : List ℕ → Type 0 = λ z. (b : Begun) (p : ℕ) → kinds_of b.racks p ≡ get_or racks (k + 0) [] → HandsStandBy b p [] z (mems x) (slots x) in
    let B : List Memory → Type 0 = λ z. (b : Begun) (p : ℕ) → kinds_of b.racks p ≡ get_or racks (k + 0) [] → HandsStandBy b p [] ps z (slots x) in
    let C : List ℕ → Type 0 = λ z. (b : Begun) (p : ℕ) → kinds_of b.racks p ≡ get_or racks (k + 0) [] → HandsStandBy b p [] ps m z in
    (sym q0 ∙ u, subst C q3 (subst B q2 (subst A q1 (subst P (let e : k ≡ k + 0 = omega arith in e) v))))
fresh_at worker places mems slots racks k (x ∷ xs) (u, v, f) (suc j) w ps m ys a b c d =
    let r = fresh_at worker places mems slots racks (k + 1) xs f j w ps m ys a b c d in
    let P : ℕ → Type 0 = λ z. (b : Begun) (p : ℕ) → kinds_of b.racks p ≡ get_or racks z [] → HandsStandBy b p [] ps m ys in
    (r.0, subst P (let e : k + 1 + j ≡ k + suc j = omega arith in e) r.1)

-- ---- the session

pub all_fresh : {A : Type 0} (worker : A → Worker) (places : A → List ℕ) (mems : A → List Memory) (slots : A → List ℕ) (session : Clients)
    (racks : List (List ℕ)) (f : Option ℕ) (seats : List A) → AreFreshBy worker places mems slots racks 0 seats
    → AllStandBy (begins session racks f) (session_start session racks) [] session.scripts (map worker seats) (map places seats) (map mems seats)
    (map slots seats)
all_fresh worker places mems slots session racks f seats are = λ k script w xs m ys e a b c d.
    let q = fresh_at worker places mems slots racks 0 seats are k w xs m ys a b c d in
    seated_fresh session racks f k script w xs m ys (get_below session.scripts k script e) e q.0 q.1

-- what is seen of a session, by its parts
abbrev pub moment_of : State → List Entry → List Reply → List Worker → List (List ℕ) → List (List Memory) → List (List ℕ) → Side → ℕ → Option (List ℕ)
    → Kept → List ℕ → ℕ → Bool → Option (List ℕ) → Moment
moment_of s h rs ws places ms slots side taken left kept es end failed written = record {
  state = s;
  entries = h;
  replies = rs;
  workers = ws;
  places = places;
  memories = ms;
  slots = slots;
  side = side;
  taken = taken;
  left = left;
  kept = kept;
  ends = es;
  end = end;
  failed = failed;
  written = written;
}

-- a session begins
pub opens_goes : {A : Type 0} (R : LinkReading) (More : List R.One → List Entry → Type 0) (worker : A → Worker) (places : A → List ℕ) (mems : A → List Memory)
    (slots : A → List ℕ) (session : Clients) (racks : List (List ℕ)) (f : Option ℕ) (before old : Option (List ℕ)) (seats : List A) (kept : Kept) (s : State)
    → s ≡ session_start session racks → AreFreshBy worker places mems slots racks 0 seats → More [] []
    → GoesBy R More (begins session racks f) session.scripts before old
    (moment_of s [] [] (map worker seats) (map places seats) (map mems seats) (map slots seats)
    (record { ended = false; end = ends.Done }) 0 before kept [] 0 false old)
opens_goes R More worker places mems slots session racks f before old seats kept s e are more =
    let b = begins session racks f in
    let o = opens session racks in
    let A : State → Type 0 = λ z. AllStandBy b z [] session.scripts (map worker seats) (map places seats) (map mems seats) (map slots seats) in
    record {
      holds = record {
        scripts' = refl;
        stands = record { state = e; replies = refl; legal = refl };
        numbered = refl;
        clients = subst A (sym e) (all_fresh worker places mems slots session racks f seats are);
        link = open_link_by R More before false more;
        asks = record { answered = λ l i. tt; asked' = sym o.asked };
        pieces = [];
        canvas = open_canvas session racks f kept old false;
        some = λ z. absurd (cc);
      };
      served = inl (ap (λ (z : State). z.asked) e ∙ o.asked);
      rounds = ([], tt, refl);
    }

-- ---- each client follows its script

pub all_follow : {A : Type 0} (worker : A → Worker) (places : A → List ℕ) (mems : A → List Memory) (slots : A → List ℕ) (scripts : List Script) (seats : List A)
    → length scripts ≡ length seats → (b : Begun) (s : State) (h : List Entry)
    → AllStandBy b s h scripts (map worker seats) (map places seats) (map mems seats) (map slots seats) → AllFollow b h (length scripts)
all_follow worker places mems slots scripts seats e b s h all = λ k l.
    let (script, i) = some_at scripts k l in
    let (x, j) = some_at seats k (omega (arith, e)) in
    (all k script (worker x) (places x) (mems x) (slots x) i (get_map worker seats k x j) (get_map places seats k x j) (get_map mems seats k x j)
    (get_map slots seats k x j)).is.stands

-- ---- racks

pub told_at : {A : Type 0} (f : A → List ℕ) (n : ℕ) (xs : List A) (x : A) (rest : List A) → x ∷ rest ≡ drop n xs → get_or (map f xs) (0 + n) [] ≡ f x
told_at f zero [] x rest e = absurd (cc)
told_at f zero (y ∷ ys) x rest e = let q : x ≡ y = cc in ap f (sym q)
told_at f (suc n) [] x rest e = absurd (cc)
told_at f (suc n) (y ∷ ys) x rest e = ap (λ (z : ℕ). get_or (map f (y ∷ ys)) z []) (let q : 0 + suc n ≡ suc n = omega arith in q)
    ∙ (ap (λ (z : ℕ). get_or (map f ys) z []) (let q : n ≡ 0 + n = omega arith in q) ∙ told_at f n ys x rest e)

pub rest_at : {A : Type 0} (n : ℕ) (xs : List A) (x : A) (rest : List A) → x ∷ rest ≡ drop n xs → rest ≡ drop (n + 1) xs
rest_at zero [] x rest e = absurd (cc)
rest_at zero (y ∷ ys) x rest e = cc
rest_at (suc n) [] x rest e = absurd (cc)
rest_at (suc n) (y ∷ ys) x rest e = rest_at n ys x rest e ∙ ap (λ (z : ℕ). drop z (y ∷ ys)) (let q : suc (n + 1) ≡ suc n + 1 = omega arith in q)

pub none_past : (xs : List (List ℕ)) (n : ℕ) → length xs ≤ n → get_or xs n [] ≡ []
none_past [] n l = refl
none_past (y ∷ ys) zero l = absurd (let none : length ys < 0 = l in omega arith)
none_past (y ∷ ys) (suc n) l = none_past ys n (omega arith)

pub pushed : {A : Type 0} (xs ys zs : List A) (x : A) → zs ≡ ys ++ x ∷ [] → ys ≡ xs → zs ≡ xs ++ x ∷ []
pushed {A} xs ys zs x e i = let P : List A → Type 0 = λ z. zs ≡ z ++ x ∷ [] in subst P i e

pub pushed_length : {A : Type 0} (xs zs : List A) (x : A) → zs ≡ xs ++ x ∷ [] → length zs ≡ length xs + 1
pushed_length {A} xs zs x e = ap (λ (z : List A). length z) e ∙ length-append xs (x ∷ [])

pub fresh_pushed : {A : Type 0} (worker : A → Worker) (places : A → List ℕ) (mems : A → List Memory) (slots : A → List ℕ) (racks : List (List ℕ))
    (xs zs : List A) (x : A) → zs ≡ xs ++ x ∷ [] → AreFreshBy worker places mems slots racks 0 xs
    → worker x ≡ fresh → ((b : Begun) (p : ℕ) → kinds_of b.racks p ≡ get_or racks (0 + length xs) [] → HandsStandBy b p [] (places x) (mems x) (slots x))
    → AreFreshBy worker places mems slots racks 0 zs
fresh_pushed {A} worker places mems slots racks xs zs x e f w h =
    let P : List A → Type 0 = λ z. AreFreshBy worker places mems slots racks 0 z in subst P (sym e) (fresh_more worker places mems slots racks 0 xs x f w h)

pub fresh_cut : {A : Type 0} (worker : A → Worker) (places : A → List ℕ) (mems : A → List Memory) (slots : A → List ℕ) (racks : List (List ℕ))
    (xs zs : List A) (n : ℕ) → zs ≡ take n xs → AreFreshBy worker places mems slots racks 0 xs → AreFreshBy worker places mems slots racks 0 zs
fresh_cut {A} worker places mems slots racks xs zs n e f =
    let P : List A → Type 0 = λ z. AreFreshBy worker places mems slots racks 0 z in subst P (sym e) (fresh_take worker places mems slots racks 0 xs n f)

pub rest_behind : {A : Type 0} (n m : ℕ) (xs : List A) (x : A) (rest : List A) → x ∷ rest ≡ drop n xs → m ≡ n + 1 → rest ≡ drop m xs
rest_behind n m xs x rest e i = rest_at n xs x rest e ∙ ap (λ (z : ℕ). drop z xs) (sym i)

pub told_none : {A : Type 0} (f : A → ℕ) (xs : List A) → xs ≡ [] → [] ≡ map f xs
told_none {A} f xs e = sym (ap (λ (z : List A). map f z) e)

pub length_mapped : {A : Type 0} (f : A → List ℕ) (xs : List A) → length (map f xs) ≡ length xs
length_mapped f [] = refl
length_mapped f (y ∷ ys) = ap suc (length_mapped f ys)

-- a session begins, as its parts were made
pub goes_open : {A : Type 0} (R : LinkReading) (More : List R.One → List Entry → Type 0) (worker : A → Worker) (places : A → List ℕ) (mems : A → List Memory)
    (slots : A → List ℕ) (session : Clients) (racks : List (List ℕ)) (sizes : List ℕ) (before old : Option (List ℕ)) (seats slice : List A) (kept : Kept)
    (s : State) (h : List Entry) (rs : List Reply) (side : Side) (taken : ℕ) (es : List ℕ) (end : ℕ) (failed : Bool) (scripts : List Script)
    → s ≡ opening session sizes → map (λ ys. length ys) racks ≡ sizes → (h ≡ []) × (rs ≡ []) → (side ≡ side_first) × (taken ≡ 0)
    → (es ≡ []) × (end ≡ 0) × (failed ≡ false) → AreFreshBy worker places mems slots racks 0 seats → slice ≡ seats → scripts ≡ session.scripts → More [] []
    → (f : Option ℕ) → GoesBy R More (begins session racks f) scripts before old
    (moment_of s h rs (map worker slice) (map places slice) (map mems slice) (map slots slice) side taken before kept es end failed old)
goes_open {A} R More worker places mems slots session racks sizes before old seats slice kept s h rs side taken es end failed scripts e z (eh, er)
    (ed, et) (es', en, ef) are el ec more f =
    let first = opens_goes R More worker places mems slots session racks f before old slice kept s (e ∙ ap (λ (ns : List ℕ). opening session ns) (sym z))
    (fresh_as worker places mems slots racks seats slice el are) more in
    let P0 : List Entry → Type 0 = λ x. GoesBy R More (begins session racks f) session.scripts before old
    (moment_of s x [] (map worker slice) (map places slice) (map mems slice) (map slots slice) side_first 0 before kept [] 0 false old) in
    let P1 : List Reply → Type 0 = λ x. GoesBy R More (begins session racks f) session.scripts before old
    (moment_of s h x (map worker slice) (map places slice) (map mems slice) (map slots slice) side_first 0 before kept [] 0 false old) in
    let P2 : Side → Type 0 = λ x. GoesBy R More (begins session racks f) session.scripts before old
    (moment_of s h rs (map worker slice) (map places slice) (map mems slice) (map slots slice) x 0 before kept [] 0 false old) in
    let P3 : ℕ → Type 0 = λ x. GoesBy R More (begins session racks f) session.scripts before old
    (moment_of s h rs (map worker slice) (map places slice) (map mems slice) (map slots slice) side x before kept [] 0 false old) in
    let P4 : List ℕ → Type 0 = λ x. GoesBy R More (begins session racks f) session.scripts before old
    (moment_of s h rs (map worker slice) (map places slice) (map mems slice) (map slots slice) side taken before kept x 0 false old) in
    let P5 : ℕ → Type 0 = λ x. GoesBy R More (begins session racks f) session.scripts before old
    (moment_of s h rs (map worker slice) (map places slice) (map mems slice) (map slots slice) side taken before kept es x false old) in
    let P6 : Bool → Type 0 = λ x. GoesBy R More (begins session racks f) session.scripts before old
    (moment_of s h rs (map worker slice) (map places slice) (map mems slice) (map slots slice) side taken before kept es end x old) in
    let P7 : List Script → Type 0 = λ x. GoesBy R More (begins session racks f) x before old
    (moment_of s h rs (map worker slice) (map places slice) (map mems slice) (map slots slice) side taken before kept es end failed old) in
    subst P7 (sym ec)
    (subst P6 (sym ef) (subst P5 (sym en) (subst P4 (sym es') (subst P3 (sym et) (subst P2 (sym ed) (subst P1 (sym er) (subst P0 (sym eh) first)))))))

pub going_open : (R : LinkReading) (More : List R.One → List Entry → Type 0) (session : Clients) (racks : List (List ℕ)) (before old : Option (List ℕ))
    (scripts : List Script) (m : Moment)
    → ((f : Option ℕ) → GoesBy R More (begins session racks f) scripts before old m) → (b : Begun) × (x : Option (List ℕ)) × (y : Option (List ℕ))
    × ((f : Option ℕ) → FailsBy m.failed f (paints m.entries) → GoesBy R More (fails_at b f) scripts x y m)
going_open R More session racks before old scripts m all = (begins session racks None, before, old, λ f k. all f)

pub count_of : {A B : Type 0} (scripts all : List B) (xs ys zs : List A)
    → scripts ≡ all → length xs ≡ length all → ys ≡ xs → length zs ≡ length ys → length scripts ≡ length zs
count_of {A} {B} scripts all xs ys zs e c v n = ap (λ (z : List B). length z) e ∙ (sym c ∙ (sym (ap (λ (z : List A). length z) v) ∙ sym n))
