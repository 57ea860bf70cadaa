-- What holds of a session behind one more turn.
use Rattle.std.proofs.Common.{◌≡◌, ◌⊎◌, ℕ, zero, suc, ◌+◌, ◌<◌, ◌≤◌, Bool, true, false, List, [], ◌∷◌, ◌++◌, length, append-nil}
use Rattle.std.proofs.Common.{Option, Some, None, Ok, refl, sym, ap, ◌∙◌, subst, append_assoc, inl, inr, arith}
use Rattle.std.specs.Prelude.{not, ◌&&◌, nat_lt, nat_le}
use Rattle.std.proofs.lemmas.Bool.{and_parts}
use Rattle.std.proofs.lemmas.Bool.Decides.{nat_tests}
use Rattle.con_handlers.specs.Memory.{Memory}
use Rattle.con_units.specs.declared.place.Size.{Size}
use Rattle.con_link.specs.LinkReading.{LinkReading}
use Rattle.con_paint.specs.Painter.{Kept}
use Rattle.con_events.specs.declared.actor.Actor.TheVariants as actors
use Rattle.con_events.specs.declared.entry.Entry.{Entry}
use Rattle.con_events.specs.declared.event.Event.{Event}
use Rattle.con_events.specs.declared.event.Event.TheVariants as events
use Rattle.con_events.specs.declared.reply.Reply.{Reply}
use Rattle.con_events.specs.declared.script.Script.{Script}
use Rattle.con_machine.specs.Follows.{are_of_session, is_one_of}
use Rattle.con_machine.specs.History.{run, is_legal}
use Rattle.con_machine.specs.HistoryLaws.{legal-append}
use Rattle.con_laws.specs.Rounds.{Begun}
use Rattle.con_laws.specs.RoundWords.{clients_from, entry_of, round_entries, is_nobody, IsTurn}
use Rattle.con_machine.specs.State.{State}
use Rattle.con_machine.specs.Step.{is_ready}
use Rattle.con_machine.specs.Turns.{moved, paints, is_paint, is_terminal}
use Rattle.con_actors.specs.Words.Desk.{Stands, entry}
use Rattle.con_actors.specs.Painting.{CanvasIs, PaintTurn, PainterFails, PainterActs}
use Rattle.con_actors.specs.Seats.{ClientsTurnBy, HaveTurns}
use Rattle.con_actors.specs.Words.Sender.{LinkBy, SenderTurn}
use Rattle.con_actors.specs.Solo.{AsksStand, HoldsBy, Moment}
use Rattle.con_actors.specs.declared.side.Side.{Side}
use Rattle.con_actors.specs.declared.worker.Worker.{Worker}
use Rattle.con_actors.specs.AskLaws.{asks_other, asks_own, asks_lost}
use Rattle.con_actors.specs.DeskLaws.{stands_one, stands_still}
use Rattle.con_actors.specs.LinkedLaws.{linked_other, linked_failed, linked_paint}
use Rattle.con_actors.specs.PaintCounts.{no_paint, paints_same, paints_next}
use Rattle.con_actors.specs.PaintingLaws.{painter_other}
use Rattle.con_actors.specs.SeatLaws.{all_other, all_still}
use Rattle.con_actors.specs.TiedLaws.{served_paint, served_still}

-- ---- the actors' numbers

numbered_more : (n : ℕ) (h : List Entry) (x : Entry) → are_of_session n h ≡ true → is_one_of n x.actor ≡ true → are_of_session n (h ++ x ∷ []) ≡ true
numbered_more n [] x a o = ap (λ (b : Bool). b && true) o
numbered_more n (y ∷ ys) x a o =
    let p = and_parts (is_one_of n y.actor) (are_of_session n ys) a in
    ap (λ (b : Bool). b && are_of_session n (ys ++ x ∷ [])) p.0 ∙ numbered_more n ys x p.1 o

pub numbered_on : (n : ℕ) (h g : List Entry) (x : Entry) → g ≡ h ++ x ∷ [] → are_of_session n h ≡ true → is_one_of n x.actor ≡ true → are_of_session n g ≡ true
numbered_on n h g x e a o = ap (λ (z : List Entry). are_of_session n z) e ∙ numbered_more n h x a o

-- ---- Asks

pub asks_on : (b : Begun) (h g : List Entry) (x : Entry) (lost : Bool) → g ≡ h ++ x ∷ [] → is_terminal x.actor ≡ false → AsksStand b h lost → AsksStand b g lost
asks_on b h g x lost e n k = let P : List Entry → Type 0 = λ z. AsksStand b z lost in subst P (sym e) (asks_other b h x lost n k)

asks_sent : (b : Begun) (s : State) (h g : List Entry) (ev : Event) (lost : Bool)
    → s ≡ run b.state h → (s.asked ≡ false) ⊎ (lost ≡ true) → g ≡ h ++ entry actors.Terminal ev ∷ [] → AsksStand b h lost → AsksStand b g lost
asks_sent b s h g ev lost i served e k =
    let P : List Entry → Type 0 = λ z. AsksStand b z lost in
    let out : (run b.state h).asked ≡ s.asked = ap (λ (z : State). z.asked) (sym i) in
    subst P (sym e) (asks_own b h ev lost (elim served [ inl n ↦ inl (out ∙ n) | inr f ↦ inr f ]) k)

-- ---- the painter

pub canvas_on : (b : Begun) (h g : List Entry) (x : Entry) (size : Size) (kept : Kept) (ps : List (List ℕ)) (es : List ℕ) (end : ℕ)
    (old now : Option (List ℕ)) (failed : Bool) → g ≡ h ++ x ∷ [] → is_paint x.event ≡ false
    → CanvasIs b h size kept ps es end old now failed → CanvasIs b g size kept ps es end old now failed
canvas_on b h g x size kept ps es end old now failed e n k =
    record { stands = painter_other b h g x size kept ps n e k.stands; written = k.written; ends' = k.ends'; end' = k.end' }

pub some_on : (failed : Bool) (h g : List Entry) (x : Entry)
    → g ≡ h ++ x ∷ [] → is_paint x.event ≡ false → (failed ≡ true → 0 < paints h) → failed ≡ true → 0 < paints g
some_on failed h g x e n k f = let P : ℕ → Type 0 = λ z. 0 < z in subst P (sym (paints_same h g x e n)) (k f)

-- ---- the turn of the terminal's side

no_client_ready : (s : State) (ev : Event) → is_ready s actors.Terminal ev ≡ true → is_paint ev ≡ false
no_client_ready s ev r = no_paint s actors.Terminal ev r (λ e. absurd (cc))

pub sent_holds : (R : LinkReading) (M0 M1 : List R.One → List Entry → Type 0) (b : Begun) (scripts : List Script) (before old : Option (List ℕ))
    (m : Moment) (t : State) (g : List Entry) (qs : List Reply) (side : Side) (taken : ℕ) (left : Option (List ℕ)) (sent' : Bool)
    → (m.state.asked ≡ false) ⊎ (m.failed ≡ true) → SenderTurn (Ok sent') b m.state t m.entries g m.replies qs → LinkBy R M1 g side m.failed before left taken
    → HoldsBy R M0 b scripts before old m
    → HoldsBy R M1 b scripts before old (record m { state = t; entries = g; replies = qs; side = side; taken = taken; left = left })
sent_holds R M0 M1 b scripts before old m t g qs side taken left true served x link k =
    let n = x.enters in let q = no_client_ready m.state x.event x.ready in let y = entry actors.Terminal x.event in
    record {
      scripts' = k.scripts';
      stands = stands_one b.state m.state t m.entries g m.replies qs actors.Terminal x.event n x.ready k.stands;
      numbered = numbered_on (length b.session.scripts) m.entries g y n.entries k.numbered refl;
      clients = all_other b m.state t m.entries g m.replies qs actors.Terminal x.event scripts m.workers m.places m.memories m.slots refl n k.clients;
      link = link;
      asks = asks_sent b m.state m.entries g x.event m.failed k.stands.state served n.entries k.asks;
      pieces = k.pieces;
      canvas = canvas_on b m.entries g y b.session.size m.kept k.pieces m.ends m.end old m.written m.failed n.entries q k.canvas;
      some = some_on m.failed m.entries g y n.entries q k.some;
    }
sent_holds R M0 M1 b scripts before old m t g qs side taken left false served (r, idle) link k =
    let A : List Entry → Type 0 = λ z. AsksStand b z m.failed in
    let C : List Entry → Type 0 = λ z. CanvasIs b z b.session.size m.kept k.pieces m.ends m.end old m.written m.failed in
    let S : List Entry → Type 0 = λ z. m.failed ≡ true → 0 < paints z in
    record {
      scripts' = k.scripts';
      stands = stands_still b.state m.state t m.entries g m.replies qs r k.stands;
      numbered = ap (λ (z : List Entry). are_of_session (length b.session.scripts) z) r.entries ∙ k.numbered;
      clients = all_still b m.state t m.entries g m.replies qs scripts m.workers m.places m.memories m.slots r k.clients;
      link = link;
      asks = subst A (sym r.entries) k.asks;
      pieces = k.pieces;
      canvas = subst C (sym r.entries) k.canvas;
      some = subst S (sym r.entries) k.some;
    }

-- the turn itself
pub sent_turn : (b : Begun) (s t : State) (h g : List Entry) (rs qs : List Reply) (sent' : Bool) → SenderTurn (Ok sent') b s t h g rs qs
    → (t1 : Option Event) × IsTurn b h actors.Terminal t1 × (g ≡ h ++ entry_of actors.Terminal t1) × (is_nobody (t1 ∷ []) ≡ not sent')
sent_turn b s t h g rs qs true x = (Some x.event, x.turn, x.enters.entries, refl)
sent_turn b s t h g rs qs false (r, idle) = (None, idle, r.entries ∙ sym (append-nil h), refl)

-- ---- the turns of the clients

-- entries of clients of so many
abbrev pub FromClients : ℕ → List Entry → Type 0
FromClients n [] = Unit {0}
FromClients n (x ∷ xs) = (is_terminal x.actor ≡ false) × (is_one_of n x.actor ≡ true) × (x.actor ≡ actors.Painter → ⊥) × FromClients n xs

one_of : (n p : ℕ) → p + 1 ≤ n → (nat_lt 0 (p + 1) && nat_le (p + 1) n) ≡ true
one_of n p l = grind (arith, nat_tests)

from_clients : (all from n : ℕ) (ts : List (Option Event)) → from + n ≤ all → FromClients all (round_entries (clients_from from n) ts)
from_clients all from zero ts l = tt
from_clients all from (suc n) [] l = tt
from_clients all from (suc n) (None ∷ ts) l = from_clients all (from + 1) n ts (omega arith)
from_clients all from (suc n) (Some e ∷ ts) l = (refl, one_of all from (omega arith), (λ i. absurd (cc)), from_clients all (from + 1) n ts (omega arith))

-- what each of them keeps
along_clients : (n : ℕ) (start : State) (P : List Entry → Type 0)
    → ((h : List Entry) (x : Entry) → is_terminal x.actor ≡ false → is_one_of n x.actor ≡ true → is_paint x.event ≡ false → P h → P (h ++ x ∷ []))
    → (h r : List Entry) → is_legal start (h ++ r) ≡ true → FromClients n r → P h → P (h ++ r)
along_clients n start P one h [] l f k = subst P (sym (append-nil h)) k
along_clients n start P one h (x ∷ xs) l (a, c, d, f) k =
    let q = and_parts (is_legal start h) (is_legal (run start h) (x ∷ xs)) (sym (legal-append start h (x ∷ xs)) ∙ l) in
    let r = and_parts (is_ready (run start h) x.actor x.event) (is_legal (moved (run start h) x) xs) q.1 in
    let e : (h ++ x ∷ []) ++ xs ≡ h ++ x ∷ xs = append_assoc h (x ∷ []) xs in
    subst P e (along_clients n start P one (h ++ x ∷ []) xs (ap (λ (z : List Entry). is_legal start z) e ∙ l) f
    (one h x a c (no_paint (run start h) x.actor x.event r.0 d) k))

-- what the clients' turns keep
pub clients_keep : (broken : Bool) (b : Begun) (s t : State) (h g : List Entry) (rs qs : List Reply) (n all : ℕ) (P : List Entry → Type 0) → n ≤ all
    → Stands b.state s h rs
    → ((k : List Entry) (x : Entry) → is_terminal x.actor ≡ false → is_one_of all x.actor ≡ true → is_paint x.event ≡ false → P k → P (k ++ x ∷ []))
    → HaveTurns broken b s t h g rs qs n → P h → P g
clients_keep broken b s t h g rs qs n all P l st one had k =
    let Q : List Entry → Type 0 = λ z. is_legal b.state z ≡ true in
    let r = round_entries (clients_from 0 n) had.turns in
    subst P (sym had.entries) (along_clients all b.state P one h r (subst Q had.entries (had.stands st).legal) (from_clients all 0 n had.turns (omega arith)) k)

pub entered_holds : (R : LinkReading) (M : List R.One → List Entry → Type 0) (b : Begun) (scripts : List Script) (before old : Option (List ℕ))
    (m : Moment) (t : State) (g : List Entry) (qs : List Reply) (ws : List Worker) (places : List (List ℕ)) (ms : List (List Memory))
    (slots : List (List ℕ)) (n : ℕ) (entered : Bool)
    → n ≡ length scripts → ClientsTurnBy (Ok entered) b m.state t m.entries g m.replies qs n scripts ws places ms slots
    → ((fs : List R.One) (h : List Entry) (x : Entry) → is_terminal x.actor ≡ false → is_paint x.event ≡ false → M fs h → M fs (h ++ x ∷ []))
    → HoldsBy R M b scripts before old m
    → HoldsBy R M b scripts before old (record m { state = t; entries = g; replies = qs; workers = ws; places = places; memories = ms; slots = slots })
entered_holds R M b scripts before old m t g qs ws places ms slots n entered e (had, nobody, all) closed k =
    let count = length b.session.scripts in
    let l : n ≤ count = omega (arith, e, ap (λ (z : List Script). length z) k.scripts') in
    let keep : (P : List Entry → Type 0) → ((h : List Entry) (x : Entry) → is_terminal x.actor ≡ false → is_one_of count x.actor ≡ true
    → is_paint x.event ≡ false → P h → P (h ++ x ∷ [])) → P m.entries → P g
    = λ P one. clients_keep false b m.state t m.entries g m.replies qs n count P l k.stands one had in
    record {
      scripts' = k.scripts';
      stands = had.stands k.stands;
      numbered = keep (λ h. are_of_session count h ≡ true) (λ h x a c d i. numbered_on count h (h ++ x ∷ []) x refl i c) k.numbered;
      clients = all;
      link = keep (λ h. LinkBy R M h m.side m.failed before m.left m.taken)
          (λ h x a c d i. linked_other R M h (h ++ x ∷ []) x m.side m.failed before m.left m.taken refl a (λ fs q. closed fs h x a d q) i) k.link;
      asks = keep (λ h. AsksStand b h m.failed) (λ h x a c d i. asks_on b h (h ++ x ∷ []) x m.failed refl a i) k.asks;
      pieces = k.pieces;
      canvas = keep (λ h. CanvasIs b h b.session.size m.kept k.pieces m.ends m.end old m.written m.failed)
          (λ h x a c d i. canvas_on b h (h ++ x ∷ []) x b.session.size m.kept k.pieces m.ends m.end old m.written m.failed refl d i) k.canvas;
      some = keep (λ h. m.failed ≡ true → 0 < paints h) (λ h x a c d i. some_on m.failed h (h ++ x ∷ []) x refl d i) k.some;
    }

pub entered_paints : (broken : Bool) (b : Begun) (s t : State) (h g : List Entry) (rs qs : List Reply) (n : ℕ)
    → Stands b.state s h rs → HaveTurns broken b s t h g rs qs n → paints g ≡ paints h
entered_paints broken b s t h g rs qs n st had =
    clients_keep broken b s t h g rs qs n n (λ z. paints z ≡ paints h) (omega arith) st (λ k x a c d i. paints_same k (k ++ x ∷ []) x refl d ∙ i) had refl

-- ---- the turn of the painter

failed_later : (was now : Bool) → was ≡ false → was ≡ true → now ≡ true
failed_later was now e i = absurd (let z = sym e ∙ i in cc)

pub painted_holds : (R : LinkReading) (M1 M2 : List R.One → List Entry → Type 0) (b : Begun) (scripts : List Script) (before old : Option (List ℕ)) (m : Moment)
    (t : State) (g : List Entry) (qs : List Reply) (kept : Kept) (es : List ℕ) (end : ℕ) (failed : Bool) (written : Option (List ℕ)) (painted : Bool)
    → PainterFails (Ok painted) m.failed failed
    → ((ps : List (List ℕ)) → CanvasIs b m.entries b.session.size m.kept ps m.ends m.end old m.written m.failed
    → PaintTurn (Ok painted) b m.state t m.entries g m.replies qs b.session.size kept ps es end old written failed)
    → (m.state ≡ run b.state m.entries → (fs : List R.One) → M1 fs m.entries → M2 fs g)
    → HoldsBy R M1 b scripts before old m → HoldsBy R M2 b scripts before old
    (record m { state = t; entries = g; replies = qs; kept = kept; ends = es; end = end; failed = failed; written = written })
painted_holds R M1 M2 b scripts before old m t g qs kept es end failed written true f turn follow k =
    let (x, (p, c)) = turn k.pieces k.canvas in
    let n = x.enters in let y = entry actors.Painter events.Paint in
    record {
      scripts' = k.scripts';
      stands = stands_one b.state m.state t m.entries g m.replies qs actors.Painter events.Paint n x.ready k.stands;
      numbered = numbered_on (length b.session.scripts) m.entries g y n.entries k.numbered refl;
      clients = all_other b m.state t m.entries g m.replies qs actors.Painter events.Paint scripts m.workers m.places m.memories m.slots refl n k.clients;
      link = linked_paint R M1 M2 m.entries g y m.side m.failed failed before m.left m.taken n.entries refl
          (failed_later m.failed failed f) (follow k.stands.state) k.link;
      asks = asks_lost b g m.failed failed (failed_later m.failed failed f) (asks_on b m.entries g y m.failed n.entries refl k.asks);
      pieces = k.pieces ++ p ∷ [];
      canvas = c;
      some = λ z. let e = paints_next m.entries g n.entries in omega arith;
    }
painted_holds R M1 M2 b scripts before old m t g qs kept es end failed written false f turn follow k =
    let (r, why, c) = turn k.pieces k.canvas in
    let A : List Entry → Type 0 = λ z. AsksStand b z failed in
    let L : List Entry → Type 0 = λ z. ((fs : List R.One) → M1 fs m.entries → M2 fs z) → LinkBy R M2 z m.side failed before m.left m.taken in
    let S : List Entry → Type 0 = λ z. failed ≡ true → 0 < paints z in
    record {
      scripts' = k.scripts';
      stands = stands_still b.state m.state t m.entries g m.replies qs r k.stands;
      numbered = ap (λ (z : List Entry). are_of_session (length b.session.scripts) z) r.entries ∙ k.numbered;
      clients = all_still b m.state t m.entries g m.replies qs scripts m.workers m.places m.memories m.slots r k.clients;
      link = subst L (sym r.entries) (λ q. linked_failed R M1 M2 m.entries m.side m.failed failed before m.left m.taken (λ e. f ∙ e) q k.link)
          (follow k.stands.state);
      asks = subst A (sym r.entries) (asks_lost b m.entries m.failed failed (λ e. f ∙ e) k.asks);
      pieces = k.pieces;
      canvas = c;
      some = subst S (sym r.entries) (λ e. k.some (sym f ∙ e));
    }

-- no Ask is out behind it
pub painted_serves : (b : Begun) (s t : State) (h g : List Entry) (rs qs : List Reply) (size : Size) (kept : Kept) (ps : List (List ℕ)) (es : List ℕ)
    (end : ℕ) (old written : Option (List ℕ)) (failed painted : Bool)
    → PaintTurn (Ok painted) b s t h g rs qs size kept ps es end old written failed → (t.asked ≡ false) ⊎ (failed ≡ true)
painted_serves b s t h g rs qs size kept ps es end old written failed true (x, more) = inl (served_paint s t h g rs qs x.enters)
painted_serves b s t h g rs qs size kept ps es end old written failed false (r, why, c) =
    elim why [ inl f ↦ inr f | inr n ↦ inl (ap (λ (z : State). z.asked) r.state ∙ served_still s n) ]

-- how many Paints there are then
pub painted_count : (b : Begun) (s t : State) (h g : List Entry) (rs qs : List Reply) (size : Size) (kept : Kept) (ps : List (List ℕ)) (es : List ℕ)
    (end : ℕ) (old written : Option (List ℕ)) (failed painted : Bool)
    → PaintTurn (Ok painted) b s t h g rs qs size kept ps es end old written failed
    → (painted ≡ true → paints g ≡ paints h + 1) × (painted ≡ false → paints g ≡ paints h)
painted_count b s t h g rs qs size kept ps es end old written failed true (x, more) = ((λ e. paints_next h g x.enters.entries), (λ e. absurd (cc)))
painted_count b s t h g rs qs size kept ps es end old written failed false (r, why, c) = ((λ e. absurd (cc)), (λ e. ap paints r.entries))

-- the turn itself
pub painted_turn : (b : Begun) (s t : State) (h g : List Entry) (rs qs : List Reply) (size : Size) (kept : Kept) (ps : List (List ℕ)) (es : List ℕ)
    (end : ℕ) (old written : Option (List ℕ)) (failed painted : Bool)
    → PainterActs (Ok painted) b h → PaintTurn (Ok painted) b s t h g rs qs size kept ps es end old written failed
    → (tp : Option Event) × IsTurn b h actors.Painter tp × (g ≡ h ++ entry_of actors.Painter tp) × (is_nobody (tp ∷ []) ≡ not painted)
painted_turn b s t h g rs qs size kept ps es end old written failed true acts (x, more) = (Some events.Paint, acts, x.enters.entries, refl)
painted_turn b s t h g rs qs size kept ps es end old written failed false acts (r, why, c) = (None, acts, r.entries ∙ sym (append-nil h), refl)

pub sent_paints : (b : Begun) (s t : State) (h g : List Entry) (rs qs : List Reply) (sent' : Bool) → SenderTurn (Ok sent') b s t h g rs qs → paints g ≡ paints h
sent_paints b s t h g rs qs true x = paints_same h g (entry actors.Terminal x.event) x.enters.entries (no_client_ready s x.event x.ready)
sent_paints b s t h g rs qs false (r, idle) = ap paints r.entries
