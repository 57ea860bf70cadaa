-- Clients at the beginning of a session, and a session there.
use Rattle.std.proofs.Common.{◌≡◌, ℕ, zero, suc, ◌+◌, ◌<◌, Bool, true, false, List, [], ◌∷◌, length}
use Rattle.std.proofs.Common.{map, Option, Some, get_or, refl, sym, ap, ◌∙◌, subst, inl, arith}
use Rattle.std.specs.Prelude.{◌-◌, ◌&&◌, nat_lt, nat_le, slice_get}
use Rattle.std.proofs.lemmas.Bool.Decides.{nat_tests}
use Rattle.con_handlers.specs.Memory.{Memory}
use Rattle.con_units.specs.declared.view.Frame.{Frame}
use Rattle.con_outside.specs.Laws.{then_left-none, then_written-none}
use Rattle.con_link.specs.LinkReading.{LinkReading, plainly}
use Rattle.con_term.specs.Terminal.{Terminal, IsTerminal}
use Rattle.con_paint.specs.Painter.{Kept}
use Rattle.con_events.specs.Session.{Clients}
use Rattle.con_events.specs.declared.end.End.TheVariants as ends
use Rattle.con_events.specs.declared.entry.Entry.{Entry}
use Rattle.con_events.specs.declared.script.Script.{Script}
use Rattle.con_machine.specs.Follows.{session_start, kinds_of, steps_of}
use Rattle.con_machine.specs.Words.Follows.{steps_in}
use Rattle.con_laws.specs.OpeningLaws.{opens}
use Rattle.con_laws.specs.PresenceLaws.{single_none}
use Rattle.con_laws.specs.Rounds.{Begun, client_at}
use Rattle.con_actors.specs.Opening.{AreFreshBy, fresh}
use Rattle.con_actors.specs.Painting.{CanvasIs}
use Rattle.con_actors.specs.Seats.{Seated}
use Rattle.con_actors.specs.Words.Sender.{LinkBy, LinkIs, NoMore, SideStands}
use Rattle.con_actors.specs.Solo.{begins}
use Rattle.con_actors.specs.Standing.{ClientStands}
use Rattle.con_actors.specs.Words.Worker.{HandsStandBy, IsWorker}
use Rattle.con_actors.specs.declared.side.Side.{Side}
use Rattle.con_actors.specs.declared.worker.Worker.{Worker}

-- ---- the sizes of racks

pub sizes_same : {A B : Type 0} (f : A → List B) (g : B → ℕ) (xs : List A) → map (λ ys. length ys) (map (λ x. map g (f x)) xs) ≡ map (λ x. length (f x)) xs
sizes_same f g [] = refl
sizes_same f g (x ∷ xs) = ap (λ (n : ℕ). n ∷ map (λ ys. length ys) (map (λ x. map g (f x)) xs)) (length_map g (f x))
    ∙ ap (λ (ns : List ℕ). length (f x) ∷ ns) (sizes_same f g xs)
  where
    length_map : {C : Type 0} (h : C → ℕ) (ys : List C) → length (map h ys) ≡ length ys
    length_map h [] = refl
    length_map h (y ∷ ys) = ap suc (length_map h ys)

-- ---- the session

one_of : (n k : ℕ) → k < n → (nat_lt 0 (k + 1) && nat_le (k + 1) n) ≡ true
one_of n k l = grind (arith, nat_tests)

pub opens_stands : (session : Clients) (racks : List (List ℕ)) (f : Option ℕ) (k : ℕ) → k < length session.scripts
    → ClientStands (begins session racks f) [] (k + 1)
opens_stands session racks f k l =
    let o = opens session racks in
    record {
      follows = tt;
      here = o.attached (k + 1) ∙ one_of (length session.scripts) k l;
      reading = λ e. o.read (k + 1);
      single = single_none (session_start session racks) (k + 1) refl;
      pending = λ e. absurd (cc);
    }

pub seated_fresh : (session : Clients) (racks : List (List ℕ)) (f : Option ℕ) (k : ℕ) (script : Script) (w : Worker) (places : List ℕ)
    (ms : List Memory) (slots : List ℕ) → k < length session.scripts → slice_get session.scripts k ≡ Some script → w ≡ fresh
    → ((b : Begun) (p : ℕ) → kinds_of b.racks p ≡ get_or racks (0 + k) [] → HandsStandBy b p [] places ms slots)
    → Seated (begins session racks f) k (session_start session racks) [] script w places ms slots
seated_fresh session racks f k script w places ms slots l e i hands =
    let b = begins session racks f in
    let n : k + 1 - 1 ≡ k = omega arith in
    let steps : steps_of session (k + 1) ≡ script.steps = ap (λ (z : ℕ). steps_in (slice_get session.scripts z)) n ∙ ap steps_in e in
    let W : Worker → Type 0 = λ z. IsWorker (client_at b [] (k + 1)) script.steps z in
    record {
      is = record {
        state = refl;
        stands = opens_stands session racks f k l;
        worker = subst W (sym i) (record { left = steps; reading = refl; stance = (refl, refl) });
      };
      hands = hands b (k + 1) (ap (λ (z : ℕ). get_or racks z []) (let z : k + 1 - 1 ≡ 0 + k = omega arith in z));
    }

pub get_below : {A : Type 0} (xs : List A) (k : ℕ) (x : A) → slice_get xs k ≡ Some x → k < length xs
get_below [] k x e = absurd (cc)
get_below (y ∷ ys) zero x e = omega arith
get_below (y ∷ ys) (suc k) x e = let l = get_below ys k x e in omega arith

pub open_link_by : (R : LinkReading) (More : List R.One → List Entry → Type 0) (before : Option (List ℕ)) (failed : Bool) → More [] []
    → LinkBy R More [] (record { ended = false; end = ends.Done }) failed before before 0
open_link_by R More before failed more =
    let P : List Frame → Type 0 = λ z. SideStands [] z false false in
    record {
      frames = [];
      extra = [];
      cut = false;
      stands = subst P (sym R.none) (record { follows = λ c i rest. tt; after' = λ e rest. refl; ended' = refl; all' = refl });
      frames' = refl;
      read = then_left-none before;
      open' = λ e. refl;
      place = λ e. (refl, refl, refl, omega arith, refl);
      why = λ e. absurd (cc);
      fault = λ e. absurd (cc);
      whole = λ c e. absurd (cc);
      behind = inl refl;
      more = more;
    }

pub open_link : (before : Option (List ℕ)) (failed : Bool) → LinkIs [] (record { ended = false; end = ends.Done }) failed before before 0
open_link before failed = open_link_by plainly NoMore before failed tt

pub open_canvas : (session : Clients) (racks : List (List ℕ)) (f : Option ℕ) (kept : Kept) (old : Option (List ℕ)) (failed : Bool)
    → CanvasIs (begins session racks f) [] session.size kept [] [] 0 old old failed
open_canvas session racks f kept old failed =
    let o = opens session racks in
    let s = session_start session racks in
    record {
      stands = record {
        matched = tt;
        each = λ t i. tt;
        reach = λ t i u l r. record {
          fresh = λ e. (
            let P : Terminal → Type 0 = λ z. IsTerminal s.buffers.w s.buffers.h z in subst P (sym r.0)
                (let W : ℕ → Type 0 = λ z. IsTerminal z s.buffers.h t in let H : ℕ → Type 0 = λ z. IsTerminal session.size.w z t in
                subst W (sym o.wide) (subst H (sym o.high) i)),
            r.1,
          );
          allowed = λ e. absurd (let z = sym o.fresh ∙ e in cc);
        };
        keeps = λ e. absurd (let z = sym o.fresh ∙ e in cc);
      };
      written = record { count = 0; most = omega arith; front = then_written-none old; whole = λ e. refl };
      ends' = refl;
      end' = refl;
    }

-- ---- each client follows its script

pub some_at : {A : Type 0} (xs : List A) (k : ℕ) → k < length xs → (x : A) × (slice_get xs k ≡ Some x)
some_at [] k l = absurd (let none : k < 0 = l in omega arith)
some_at (x ∷ xs) zero l = (x, refl)
some_at (x ∷ xs) (suc k) l = some_at xs k (omega arith)

pub get_map : {A B : Type 0} (f : A → B) (xs : List A) (k : ℕ) (x : A) → slice_get xs k ≡ Some x → slice_get (map f xs) k ≡ Some (f x)
get_map f [] k x e = absurd (cc)
get_map f (y ∷ ys) zero x e = let q : y ≡ x = cc in ap (λ (z : _). Some (f z)) q
get_map f (y ∷ ys) (suc k) x e = get_map f ys k x e

-- ---- racks

pub fresh_as : {A : Type 0} (worker : A → Worker) (places : A → List ℕ) (mems : A → List Memory) (slots : A → List ℕ) (racks : List (List ℕ)) (xs zs : List A)
    → zs ≡ xs → AreFreshBy worker places mems slots racks 0 xs → AreFreshBy worker places mems slots racks 0 zs
fresh_as {A} worker places mems slots racks xs zs e f = let P : List A → Type 0 = λ z. AreFreshBy worker places mems slots racks 0 z in subst P (sym e) f

abbrev pub side_first : Side
side_first = record { ended = false; end = ends.Done }
