-- A round of a session, whole or broken off.
use Rattle.std.proofs.Common.{◌≡◌, ◌⊎◌, ℕ, ◌+◌, ◌<◌, ◌≤◌, Bool, true, false, List, [], ◌∷◌, ◌++◌, length, append-nil}
use Rattle.std.proofs.Common.{Option, Some, None, Result, Ok, Err, refl, sym, ap, ◌∙◌, subst, inl, inr, arith}
use Rattle.std.specs.Prelude.{not, ◌||◌}
use Rattle.std.specs.Result.{IsErr}
use Rattle.con_handlers.specs.Memory.{Memory}
use Rattle.con_units.specs.declared.code.OutOfMemory.{OutOfMemory}
use Rattle.con_units.specs.declared.place.Size.{Size}
use Rattle.con_outside.specs.Outside.{Rose}
use Rattle.con_link.specs.LinkReading.{LinkReading}
use Rattle.con_paint.specs.Painter.{Kept}
use Rattle.con_events.specs.declared.actor.Actor.{Actor}
use Rattle.con_events.specs.declared.actor.Actor.TheVariants as actors
use Rattle.con_events.specs.declared.entry.Entry.{Entry}
use Rattle.con_events.specs.declared.event.Event.{Event}
use Rattle.con_events.specs.declared.event.Event.TheVariants as events
use Rattle.con_events.specs.declared.reply.Reply.{Reply}
use Rattle.con_events.specs.declared.script.Script.{Script}
use Rattle.con_machine.specs.Follows.{are_of_session, is_one_of}
use Rattle.con_machine.specs.History.{run}
use Rattle.con_laws.specs.Rounds.{Begun}
use Rattle.con_laws.specs.RoundWords.{AreTurns, IsTurn, clients_from, all_order, round_entries, entry_of, is_nobody, is_failed}
use Rattle.con_machine.specs.State.{State}
use Rattle.con_machine.specs.Turns.{paints, sent, has_ended, is_terminal, is_paint}
use Rattle.con_actors.specs.Words.Desk.{Rests, Stands, entry}
use Rattle.con_actors.specs.Painting.{CanvasIs, CanvasEnds, EntersPaint, PaintTurn, PainterFails, PainterActs}
use Rattle.con_actors.specs.Seats.{AllStandBy, AllFollow, ClientsTurnBy}
use Rattle.con_actors.specs.Words.Sender.{LinkBy, LinkEndsBy, SenderTurn, FailsBy}
use Rattle.con_actors.specs.Beginning.{moment_of}
use Rattle.con_actors.specs.Solo.{AllIdle, Moment, HoldsBy, GoesBy, HasRounds, BreaksOff, StopsBy, RoundTurnBy, RoundsTurnBy, fails_at}
use Rattle.con_actors.specs.declared.side.Side.{Side}
use Rattle.con_actors.specs.declared.worker.Worker.{Worker}
use Rattle.con_actors.specs.CanvasLaws.{canvas_ends}
use Rattle.con_actors.specs.DeskLaws.{stands_one, stands_still}
use Rattle.con_actors.specs.LinkedLaws.{linked_other, linked_paint, linked_stays}
use Rattle.con_actors.specs.PaintCounts.{paints_next}
use Rattle.con_session.proofs.Rounding.{not_yet, fails_before, whole_round, broken_round, broken_all, nobody_all, nobody_none, one_round, round_longer}
use Rattle.con_actors.specs.SeatLaws.{all_other, all_still}
use Rattle.con_session.proofs.Turning.{sent_holds, sent_turn, sent_paints, entered_holds, entered_paints, painted_holds}
use Rattle.con_session.proofs.Turning.{painted_serves, painted_turn, painted_count, clients_keep, numbered_on, canvas_on, some_on}

-- ---- from which Paint on the terminal counts as failed

abbrev pub failing : Bool → ℕ → Option ℕ
failing true n = Some n
failing false n = None

pub fails_now : (failed : Bool) (n : ℕ) → FailsBy failed (failing failed n) n
fails_now true n = refl
fails_now false n = refl

-- ---- the turns of a round

-- what the turns of a round promise, from a moment on
pub record Turned (R : LinkReading) (M0 M1 M2 : List R.One → List Entry → Type 0) (start : State) (scripts : List Script) (m : Moment) (s1 : State)
    (h1 : List Entry) (r1 : List Reply) (side : Side) (taken : ℕ) (left : Option (List ℕ)) (s2 : State) (h2 : List Entry) (r2 : List Reply)
    (ws : List Worker) (places : List (List ℕ)) (ms : List (List Memory)) (slots : List (List ℕ)) (n : ℕ) (s3 : State) (h3 : List Entry)
    (r3 : List Reply) (kept : Kept) (es : List ℕ) (end : ℕ) (failed : Bool) (written : Option (List ℕ)) (sent' entered painted : Bool) : Type 0 where
  pub count : n ≡ length scripts
  pub sends : (b : Begun) → FailsBy m.failed b.failed (paints m.entries) → has_ended false (sent m.entries) ≡ m.side.ended
      → SenderTurn (Ok sent') b m.state s1 m.entries h1 m.replies r1
  pub link : (before : Option (List ℕ)) → LinkBy R M0 m.entries m.side m.failed before m.left m.taken → LinkBy R M1 h1 side m.failed before left taken
  -- what more is known of the frames goes on behind the clients' entries, and becomes this behind the painter's turn
  pub closed : (fs : List R.One) (h : List Entry) (x : Entry) → is_terminal x.actor ≡ false → is_paint x.event ≡ false → M1 fs h → M1 fs (h ++ x ∷ [])
  pub follow : s2 ≡ run start h2 → (fs : List R.One) → M1 fs h2 → M2 fs h3
  pub enter : (b : Begun) → AllStandBy b s1 h1 scripts m.workers m.places m.memories m.slots
      → ClientsTurnBy (Ok entered) b s1 s2 h1 h2 r1 r2 n scripts ws places ms slots
  pub fails : PainterFails (Ok painted) m.failed failed
  pub acts : (b : Begun) → s2 ≡ run b.state h2 → FailsBy m.failed b.failed (paints h2) → PainterActs (Ok painted) b h2
  pub paint : (b : Begun) (size : Size) (old : Option (List ℕ)) (ps : List (List ℕ)) → s2 ≡ run b.state h2
      → CanvasIs b h2 size m.kept ps m.ends m.end old m.written m.failed → PaintTurn (Ok painted) b s2 s3 h2 h3 r2 r3 size kept ps es end old written failed

-- what comes of them
pub record Comes (R : LinkReading) (M : List R.One → List Entry → Type 0) (b : Begun) (scripts : List Script) (before old : Option (List ℕ))
    (h : List Entry) (m : Moment) (acted painted : Bool) : Type 0 where
  pub holds : HoldsBy R M b scripts before old m
  pub served : (m.state.asked ≡ false) ⊎ (m.failed ≡ true)
  pub one : List (Option Event)
  pub are : AreTurns false b h (all_order b) one
  pub entries : m.entries ≡ h ++ round_entries (all_order b) one
  pub nobody : is_nobody one ≡ not acted
  pub more : painted ≡ true → paints m.entries ≡ paints h + 1
  pub same : painted ≡ false → paints m.entries ≡ paints h

count_is : (b : Begun) (scripts : List Script) (n : ℕ) → n ≡ length scripts → scripts ≡ b.session.scripts → n ≡ length b.session.scripts
count_is b scripts n e i = e ∙ ap (λ (z : List Script). length z) i

comes : (R : LinkReading) (M0 M1 M2 : List R.One → List Entry → Type 0) (b : Begun) (scripts : List Script) (before old : Option (List ℕ)) (m : Moment)
    (s1 : State) (h1 : List Entry) (r1 : List Reply) (side : Side) (taken : ℕ) (left : Option (List ℕ)) (s2 : State) (h2 : List Entry) (r2 : List Reply)
    (ws : List Worker) (places : List (List ℕ)) (ms : List (List Memory)) (slots : List (List ℕ)) (n : ℕ) (s3 : State) (h3 : List Entry)
    (r3 : List Reply) (kept : Kept) (es : List ℕ) (end : ℕ) (failed : Bool) (written : Option (List ℕ)) (sent' entered painted : Bool)
    → Turned R M0 M1 M2 b.state scripts m s1 h1 r1 side taken left s2 h2 r2 ws places ms slots n s3 h3 r3 kept es end failed written sent' entered painted
    → FailsBy m.failed b.failed (paints m.entries) → GoesBy R M0 b scripts before old m
    → Comes R M2 b scripts before old m.entries (moment_of s3 h3 r3 ws places ms slots side taken left kept es end failed written)
    (sent' || (entered || painted)) painted
comes R M0 M1 M2 b scripts before old m s1 h1 r1 side taken left s2 h2 r2 ws places ms slots n s3 h3 r3 kept es end failed written sent' entered painted t f k =
    let k0 = k.holds in
    let x = t.sends b f k0.link.stands.ended' in
    let k1 = sent_holds R M0 M1 b scripts before old m s1 h1 r1 side taken left sent' k.served x (t.link before k0.link) k0 in
    let c = t.enter b k1.clients in
    let k2 = entered_holds R M1 b scripts before old (record m { state = s1; entries = h1; replies = r1; side = side; taken = taken; left = left }) s2
    h2 r2 ws places ms slots n entered t.count c t.closed k1 in
    let same1 = sent_paints b m.state s1 m.entries h1 m.replies r1 sent' x in
    let same2 : paints h2 ≡ paints m.entries = entered_paints false b s1 s2 h1 h2 r1 r2 n k1.stands c.0 ∙ same1 in
    let F : ℕ → Type 0 = λ z. FailsBy m.failed b.failed z in
    let p = t.paint b b.session.size old k2.pieces k2.stands.state k2.canvas in
    let k3 = painted_holds R M1 M2 b scripts before old (record m {
      state = s2;
      entries = h2;
      replies = r2;
      side = side;
      taken = taken;
      left = left;
      workers = ws;
      places = places;
      memories = ms;
      slots = slots;
    }) s3 h3 r3 kept es end failed written painted t.fails
    (λ ps q. t.paint b b.session.size old ps k2.stands.state q) t.follow k2 in
    let (t1, u1, e1, n1) = sent_turn b m.state s1 m.entries h1 m.replies r1 sent' x in
    let (tp, up, ep, np) = painted_turn b s2 s3 h2 h3 r2 r3 b.session.size kept k2.pieces es end old written failed painted
    (t.acts b k2.stands.state (subst F (sym same2) f)) p in
    let q = count_is b scripts n t.count k0.scripts' in
    let A : ℕ → Type 0 = λ z. AreTurns false b h1 (clients_from 0 z) c.0.turns in
    let E : ℕ → Type 0 = λ z. h2 ≡ h1 ++ round_entries (clients_from 0 z) c.0.turns in
    let w = whole_round b m.entries h1 h2 h3 t1 c.0.turns tp (clients_from 0 (length b.session.scripts)) u1 e1
    (subst A q c.0.are) (subst E q c.0.entries) up ep in
    let z = painted_count b s2 s3 h2 h3 r2 r3 b.session.size kept k2.pieces es end old written failed painted p in
    record {
      holds = k3;
      served = painted_serves b s2 s3 h2 h3 r2 r3 b.session.size kept k2.pieces es end old written failed painted p;
      one = t1 ∷ (c.0.turns ++ tp ∷ []);
      are = w.0;
      entries = w.1;
      nobody = nobody_all t1 c.0.turns tp sent' entered painted n1 c.1 np;
      more = λ e. z.0 e ∙ ap (λ (y : ℕ). y + 1) same2;
      same = λ e. z.1 e ∙ same2;
    }

turn_by : (R : LinkReading) (M : List R.One → List Entry → Type 0) (b : Begun) (scripts : List Script) (before old : Option (List ℕ)) (h : List Entry)
    (m : Moment) (acted painted : Bool) → HasRounds b h → (x : Comes R M b scripts before old h m acted painted) → (a : Bool) → is_nobody x.one ≡ not a
    → RoundTurnBy R M M (Ok a) b scripts before old h m
turn_by R M b scripts before old h m acted painted k x true n = (
  record { holds = x.holds; served = x.served; rounds = one_round b h m.entries x.one k x.are n x.entries },
  round_longer b h m.entries (all_order b) x.one x.are n x.entries,
)
turn_by R M b scripts before old h m acted painted k x false n =
    let e : m.entries ≡ h = x.entries ∙ (ap (λ (z : List Entry). h ++ z) (nobody_none (all_order b) x.one n) ∙ append-nil h) in
    let A : List Entry → Type 0 = λ z. AreTurns false b z (all_order b) x.one in
    let W : List Entry → Type 0 = λ z. HasRounds b z in
    (record { holds = x.holds; served = x.served; rounds = subst W (sym e) k }, (x.one, subst A (sym e) x.are, n))

-- a whole round
pub round_ok : (R : LinkReading) (M0 M1 M2 : List R.One → List Entry → Type 0) (b : Begun) (scripts : List Script) (before old : Option (List ℕ)) (m : Moment)
    (s1 : State) (h1 : List Entry) (r1 : List Reply) (side : Side) (taken : ℕ) (left : Option (List ℕ)) (s2 : State) (h2 : List Entry) (r2 : List Reply)
    (ws : List Worker) (places : List (List ℕ)) (ms : List (List Memory)) (slots : List (List ℕ)) (n : ℕ) (s3 : State) (h3 : List Entry)
    (r3 : List Reply) (kept : Kept) (es : List ℕ) (end : ℕ) (failed : Bool) (written : Option (List ℕ)) (sent' entered painted acted : Bool)
    → acted ≡ (sent' || (entered || painted))
    → Turned R M0 M1 M2 b.state scripts m s1 h1 r1 side taken left s2 h2 r2 ws places ms slots n s3 h3 r3 kept es end failed written sent' entered painted
    → ((f : Option ℕ) → FailsBy m.failed f (paints m.entries) → GoesBy R M0 (fails_at b f) scripts before old m) → (f : Option ℕ) → FailsBy failed f (paints h3)
    → RoundTurnBy R M2 M2 (Ok acted) (fails_at b f) scripts before old m.entries
    (moment_of s3 h3 r3 ws places ms slots side taken left kept es end failed written)
round_ok R M0 M1 M2 b scripts before old m s1 h1 r1 side taken left s2 h2 r2 ws places ms slots n s3 h3 r3 kept es end failed written
    sent' entered painted acted a t all f k =
    let g = failing m.failed (paints m.entries) in
    let now = fails_now m.failed (paints m.entries) in
    let one = comes R M0 M1 M2 (fails_at b g) scripts before old m s1 h1 r1 side taken left s2 h2 r2 ws places ms slots n s3 h3 r3 kept es end failed
    written sent' entered painted t now (all g now) in
    let was = fails_before painted m.failed failed f (paints m.entries) (paints h3) t.fails one.more one.same k in
    let x = comes R M0 M1 M2 (fails_at b f) scripts before old m s1 h1 r1 side taken left s2 h2 r2 ws places ms slots n s3 h3 r3 kept es end failed
    written sent' entered painted t was (all f was) in
    turn_by R M2 (fails_at b f) scripts before old m.entries (moment_of s3 h3 r3 ws places ms slots side taken left kept es end failed written)
    (sent' || (entered || painted)) painted (all f was).rounds x acted (x.nobody ∙ ap not (sym a))

-- ---- where there was no memory

broken_by : (b : Begun) (h g : List Entry) (last : List (Option Event))
    → HasRounds b h → AreTurns true b h (all_order b) last → g ≡ h ++ round_entries (all_order b) last → BreaksOff b g
broken_by b h g last (rounds, are, e) t i =
    let P : List Entry → Type 0 = λ z. AreTurns true b z (all_order b) last in
    (rounds, last, are, subst P e t, i ∙ ap (λ (z : List Entry). z ++ round_entries (all_order b) last) e)

-- before anything was entered
pub sent_err : (R : LinkReading) (M0 Then : List R.One → List Entry → Type 0) (b : Begun) (scripts : List Script) (before old : Option (List ℕ))
    (m : Moment) (s : State) (h : List Entry) (rs : List Reply) (left : Option (List ℕ)) (e : OutOfMemory)
    → ((c : Begun) → FailsBy m.failed c.failed (paints m.entries) → has_ended false (sent m.entries) ≡ m.side.ended
    → SenderTurn (Err e) c m.state s m.entries h m.replies rs)
    → ((z : Option (List ℕ)) → LinkBy R M0 m.entries m.side m.failed z m.left m.taken → LinkEndsBy R Then h z left)
    → ((c : Begun) → AllStandBy c m.state m.entries scripts m.workers m.places m.memories m.slots → AllFollow c m.entries (length scripts))
    → ((f : Option ℕ) → FailsBy m.failed f (paints m.entries) → GoesBy R M0 (fails_at b f) scripts before old m) → (f : Option ℕ)
    → FailsBy m.failed f (paints h)
    → StopsBy R Then (fails_at b f) before old h rs m.ends left m.written m.failed
sent_err R M0 Then b scripts before old m s h rs left e turn link follow all f k =
    let g = failing m.failed (paints m.entries) in
    let now = fails_now m.failed (paints m.entries) in
    let r = turn (fails_at b g) now (all g now).holds.link.stands.ended' in
    let F : List Entry → Type 0 = λ z. FailsBy m.failed f (paints z) in
    let was = subst F r.entries k in
    let x = (all f was).holds in
    let c = fails_at b f in
    let st = stands_still c.state m.state s m.entries h m.replies rs r x.stands in
    let P : List Entry → Type 0 = λ z. (j : ℕ) → j < length b.session.scripts → Rattle.con_actors.specs.Standing.ClientStands c z (j + 1) in
    let N : ℕ → Type 0 = λ z. AllFollow c m.entries z in
    let C : List Entry → Type 0 = λ z. CanvasEnds c z b.session.size m.ends old m.written in
    let S : List Entry → Type 0 = λ z. m.failed ≡ true → 0 < paints z in
    record {
      legal = st.legal;
      replies = st.replies;
      numbered = ap (λ (z : List Entry). are_of_session (length b.session.scripts) z) r.entries ∙ x.numbered;
      clients = subst P (sym r.entries) (subst N (ap (λ (z : List Script). length z) x.scripts') (follow c x.clients));
      link = link before x.link;
      canvas = subst C (sym r.entries) (canvas_ends c m.entries b.session.size m.kept x.pieces m.ends m.end old m.written m.failed x.canvas);
      some = subst S (sym r.entries) x.some;
      rounds = broken_by c m.entries h [] (all f was).rounds refl (r.entries ∙ sym (append-nil m.entries));
    }

-- among the clients
pub entered_err : (R : LinkReading) (M0 M1 Then : List R.One → List Entry → Type 0) (b : Begun) (scripts : List Script) (before old : Option (List ℕ)) (m : Moment)
    (s1 : State) (h1 : List Entry) (r1 : List Reply) (side : Side) (taken : ℕ) (left : Option (List ℕ)) (s2 : State) (h2 : List Entry) (r2 : List Reply)
    (ws : List Worker) (places : List (List ℕ)) (ms : List (List Memory)) (slots : List (List ℕ)) (n : ℕ) (sent' : Bool) (e : OutOfMemory) → n ≡ length scripts
    → ((c : Begun) → FailsBy m.failed c.failed (paints m.entries) → has_ended false (sent m.entries) ≡ m.side.ended
    → SenderTurn (Ok sent') c m.state s1 m.entries h1 m.replies r1)
    → ((z : Option (List ℕ)) → LinkBy R M0 m.entries m.side m.failed z m.left m.taken → LinkBy R M1 h1 side m.failed z left taken)
    → ((fs : List R.One) (h : List Entry) (x : Entry) → is_terminal x.actor ≡ false → is_paint x.event ≡ false → M1 fs h → M1 fs (h ++ x ∷ []))
    → ((fs : List R.One) (h : List Entry) → M1 fs h → Then fs h)
    → ((c : Begun) → AllStandBy c s1 h1 scripts m.workers m.places m.memories m.slots → ClientsTurnBy (Err e) c s1 s2 h1 h2 r1 r2 n scripts ws places ms slots)
    → ((f : Option ℕ) → FailsBy m.failed f (paints m.entries) → GoesBy R M0 (fails_at b f) scripts before old m) → (f : Option ℕ)
    → FailsBy m.failed f (paints h2)
    → StopsBy R Then (fails_at b f) before old h2 r2 m.ends left m.written m.failed
entered_err R M0 M1 Then b scripts before old m s1 h1 r1 side taken left s2 h2 r2 ws places ms slots n sent' e count turn link closed ends enter all f k =
    let g = failing m.failed (paints m.entries) in
    let now = fails_now m.failed (paints m.entries) in
    let c0 = fails_at b g in
    let x0 = turn c0 now (all g now).holds.link.stands.ended' in
    let y0 = sent_holds R M0 M1 c0 scripts before old m s1 h1 r1 side taken left sent' (all g now).served x0
    (link before (all g now).holds.link) (all g now).holds in
    let d0 = enter c0 y0.clients in
    let same : paints h2 ≡ paints m.entries = entered_paints true c0 s1 s2 h1 h2 r1 r2 n y0.stands d0.0
    ∙ sent_paints c0 m.state s1 m.entries h1 m.replies r1 sent' x0 in
    let F : ℕ → Type 0 = λ z. FailsBy m.failed f z in
    let was = subst F same k in
    let c = fails_at b f in
    let x = turn c was (all f was).holds.link.stands.ended' in
    let y = sent_holds R M0 M1 c scripts before old m s1 h1 r1 side taken left sent' (all f was).served x
    (link before (all f was).holds.link) (all f was).holds in
    let (had, follow) = enter c y.clients in
    let size' = length b.session.scripts in
    let q : n ≡ size' = count_is c scripts n count y.scripts' in
    let l : n ≤ size' = omega (arith, q) in
    let keep : (P : List Entry → Type 0) → ((h : List Entry) (z : Entry) → is_terminal z.actor ≡ false → is_one_of size' z.actor ≡ true
    → is_paint z.event ≡ false → P h → P (h ++ z ∷ [])) → P h1 → P h2
    = λ P one. clients_keep true c s1 s2 h1 h2 r1 r2 n size' P l y.stands one had in
    let st = had.stands y.stands in
    let N : ℕ → Type 0 = λ z. AllFollow c h2 z in
    let A : ℕ → Type 0 = λ z. AreTurns true c h1 (clients_from 0 z) had.turns in
    let E : ℕ → Type 0 = λ z. h2 ≡ h1 ++ round_entries (clients_from 0 z) had.turns in
    let (t1, u1, e1, n1) = sent_turn c m.state s1 m.entries h1 m.replies r1 sent' x in
    let w = broken_round c m.entries h1 h2 t1 had.turns (clients_from 0 size') u1 e1 (subst A q had.are) (subst E q had.entries) in
    record {
      legal = st.legal;
      replies = st.replies;
      numbered = keep (λ h. are_of_session size' h ≡ true) (λ h z a i d p. numbered_on size' h (h ++ z ∷ []) z refl p i) y.numbered;
      clients = subst N q follow;
      link = linked_stays R M1 Then h2 side m.failed before left taken (λ fs q. ends fs h2 q) (keep (λ h. LinkBy R M1 h side m.failed before left taken)
          (λ h z a i d p. linked_other R M1 h (h ++ z ∷ []) z side m.failed before left taken refl a (λ fs q. closed fs h z a d q) p) y.link);
      canvas = canvas_ends c h2 b.session.size m.kept y.pieces m.ends m.end old m.written m.failed
          (keep (λ h. CanvasIs c h b.session.size m.kept y.pieces m.ends m.end old m.written m.failed)
          (λ h z a i d p. canvas_on c h (h ++ z ∷ []) z b.session.size m.kept y.pieces m.ends m.end old m.written m.failed refl d p) y.canvas);
      some = keep (λ h. m.failed ≡ true → 0 < paints h) (λ h z a i d p. some_on m.failed h (h ++ z ∷ []) z refl d p) y.some;
      rounds = broken_by c m.entries h2 (t1 ∷ had.turns) (all f was).rounds w.0 w.1;
    }

-- where the painter's turn broke off: nothing was entered, or a Paint
broken_paint : (b : Begun) (s t : State) (h h1 h2 g : List Entry) (rs qs : List Reply) (t1 : Option Event) (tc : List (Option Event)) (by : List Actor)
    → IsTurn b h actors.Terminal t1 → h1 ≡ h ++ entry_of actors.Terminal t1 → AreTurns false b h1 by tc → h2 ≡ h1 ++ round_entries by tc
    → IsTurn b h2 actors.Painter (Some events.Paint) → (Rests s t h2 g rs qs ⊎ EntersPaint s t h2 g rs qs)
    → (last : List (Option Event)) × AreTurns true b h (actors.Terminal ∷ (by ++ actors.Painter ∷ [])) last
    × (g ≡ h ++ round_entries (actors.Terminal ∷ (by ++ actors.Painter ∷ [])) last)
broken_paint b s t h h1 h2 g rs qs t1 tc by u e v i w (inl r) =
    let k = broken_round b h h1 h2 t1 tc by u e (broken_all b h1 by tc v) i in (t1 ∷ tc, k.0, r.entries ∙ k.1)
broken_paint b s t h h1 h2 g rs qs t1 tc by u e v i w (inr x) =
    let k = whole_round b h h1 h2 g t1 tc (Some events.Paint) by u e v i w x.enters.entries in
    (t1 ∷ (tc ++ Some events.Paint ∷ []), broken_all b h (actors.Terminal ∷ (by ++ actors.Painter ∷ [])) (t1 ∷ (tc ++ Some events.Paint ∷ [])) k.0, k.1)

stands_either : (b : Begun) (s t : State) (h g : List Entry) (rs qs : List Reply)
    → (Rests s t h g rs qs ⊎ EntersPaint s t h g rs qs) → Stands b.state s h rs → Stands b.state t g qs
stands_either b s t h g rs qs (inl r) k = stands_still b.state s t h g rs qs r k
stands_either b s t h g rs qs (inr x) k = stands_one b.state s t h g rs qs actors.Painter events.Paint x.enters x.ready k

numbered_either : (n : ℕ) (s t : State) (h g : List Entry) (rs qs : List Reply)
    → (Rests s t h g rs qs ⊎ EntersPaint s t h g rs qs) → are_of_session n h ≡ true → are_of_session n g ≡ true
numbered_either n s t h g rs qs (inl r) k = ap (λ (z : List Entry). are_of_session n z) r.entries ∙ k
numbered_either n s t h g rs qs (inr x) k = numbered_on n h g (entry actors.Painter events.Paint) x.enters.entries k refl

all_either : (b : Begun) (s t : State) (h g : List Entry) (rs qs : List Reply) (scripts : List Script) (ws : List Worker) (places : List (List ℕ))
    (ms : List (List Memory)) (slots : List (List ℕ)) → (Rests s t h g rs qs ⊎ EntersPaint s t h g rs qs)
    → AllStandBy b s h scripts ws places ms slots → AllStandBy b t g scripts ws places ms slots
all_either b s t h g rs qs scripts ws places ms slots (inl r) k = all_still b s t h g rs qs scripts ws places ms slots r k
all_either b s t h g rs qs scripts ws places ms slots (inr x) k =
    all_other b s t h g rs qs actors.Painter events.Paint scripts ws places ms slots refl x.enters k

link_either : (R : LinkReading) (M Then : List R.One → List Entry → Type 0) (s t : State) (h g : List Entry) (rs qs : List Reply) (side : Side)
    (failed : Bool) (before left : Option (List ℕ)) (taken : ℕ) → (Rests s t h g rs qs ⊎ EntersPaint s t h g rs qs)
    → ((fs : List R.One) (z : List Entry) → M fs z → Then fs z)
    → ((fs : List R.One) (z : List Entry) → M fs z → Then fs (z ++ entry actors.Painter events.Paint ∷ []))
    → LinkBy R M h side failed before left taken → LinkEndsBy R Then g before left
link_either R M Then s t h g rs qs side failed before left taken (inl r) ends past k =
    let L : List Entry → Type 0 = λ z. LinkEndsBy R Then z before left in
    subst L (sym r.entries) (linked_stays R M Then h side failed before left taken (λ fs q. ends fs h q) k)
link_either R M Then s t h g rs qs side failed before left taken (inr x) ends past k =
    let y = entry actors.Painter events.Paint in
    let L : List Entry → Type 0 = λ z. LinkEndsBy R Then z before left in
    subst L (sym x.enters.entries) (linked_stays R Then Then (h ++ y ∷ []) side failed before left taken (λ fs q. q)
    (linked_paint R M Then h (h ++ y ∷ []) y side failed failed before left taken refl refl (λ e. e) (λ fs q. past fs h q) k))

-- the number of Paints is the same or one more
failed_either : (s t : State) (h g : List Entry) (rs qs : List Reply) (f : Option ℕ)
    → (Rests s t h g rs qs ⊎ EntersPaint s t h g rs qs) → is_failed f (paints g) ≡ false → is_failed f (paints h) ≡ false
failed_either s t h g rs qs f (inl r) k = ap (λ (z : List Entry). is_failed f (paints z)) (sym r.entries) ∙ k
failed_either s t h g rs qs f (inr x) k = not_yet f (paints h) (paints g) (let e = paints_next h g x.enters.entries in omega arith) k

pub painted_err : (R : LinkReading) (M0 M1 Then : List R.One → List Entry → Type 0) (b : Begun) (scripts : List Script) (before old : Option (List ℕ)) (m : Moment)
    (s1 : State) (h1 : List Entry) (r1 : List Reply) (side : Side) (taken : ℕ) (left : Option (List ℕ)) (s2 : State) (h2 : List Entry) (r2 : List Reply)
    (ws : List Worker) (places : List (List ℕ)) (ms : List (List Memory)) (slots : List (List ℕ)) (n : ℕ) (s3 : State) (h3 : List Entry) (r3 : List Reply)
    (kept : Kept) (es : List ℕ) (end : ℕ) (failed : Bool) (written : Option (List ℕ)) (sent' entered : Bool) (e : OutOfMemory) → n ≡ length scripts
    → ((c : Begun) → FailsBy m.failed c.failed (paints m.entries) → has_ended false (sent m.entries) ≡ m.side.ended
    → SenderTurn (Ok sent') c m.state s1 m.entries h1 m.replies r1)
    → ((z : Option (List ℕ)) → LinkBy R M0 m.entries m.side m.failed z m.left m.taken → LinkBy R M1 h1 side m.failed z left taken)
    → ((fs : List R.One) (h : List Entry) (x : Entry) → is_terminal x.actor ≡ false → is_paint x.event ≡ false → M1 fs h → M1 fs (h ++ x ∷ []))
    → ((fs : List R.One) (h : List Entry) → M1 fs h → Then fs h)
    → ((fs : List R.One) (h : List Entry) → M1 fs h → Then fs (h ++ entry actors.Painter events.Paint ∷ []))
    → ((c : Begun) → AllStandBy c s1 h1 scripts m.workers m.places m.memories m.slots
    → ClientsTurnBy (Ok entered) c s1 s2 h1 h2 r1 r2 n scripts ws places ms slots)
    → PainterFails (Err e) m.failed failed
    → ((c : Begun) → s2 ≡ run c.state h2 → FailsBy m.failed c.failed (paints h2) → PainterActs (Err e) c h2)
    → ((c : Begun) (size : Size) (z : Option (List ℕ)) (ps : List (List ℕ)) → s2 ≡ run c.state h2
    → CanvasIs c h2 size m.kept ps m.ends m.end z m.written m.failed → PaintTurn (Err e) c s2 s3 h2 h3 r2 r3 size kept ps es end z written failed)
    → ((c : Begun) (s : State) (h : List Entry) → AllStandBy c s h scripts ws places ms slots → AllFollow c h (length scripts))
    → ((f : Option ℕ) → FailsBy m.failed f (paints m.entries) → GoesBy R M0 (fails_at b f) scripts before old m) → (f : Option ℕ) → FailsBy failed f (paints h3)
    → StopsBy R Then (fails_at b f) before old h3 r3 es left written failed
painted_err R M0 M1 Then b scripts before old m s1 h1 r1 side taken left s2 h2 r2 ws places ms slots n s3 h3 r3 kept es end failed written sent' entered
    e count turn link closed ends past enter fails acts paint follow all f k =
    let g = failing m.failed (paints m.entries) in
    let now = fails_now m.failed (paints m.entries) in
    let c0 = fails_at b g in
    let x0 = turn c0 now (all g now).holds.link.stands.ended' in
    let y0 = sent_holds R M0 M1 c0 scripts before old m s1 h1 r1 side taken left sent' (all g now).served x0
    (link before (all g now).holds.link) (all g now).holds in
    let d0 = enter c0 y0.clients in
    let same : paints h2 ≡ paints m.entries = entered_paints false c0 s1 s2 h1 h2 r1 r2 n y0.stands d0.0
    ∙ sent_paints c0 m.state s1 m.entries h1 m.replies r1 sent' x0 in
    let z0 = entered_holds R M1 c0 scripts before old (record m { state = s1; entries = h1; replies = r1; side = side; taken = taken; left = left }) s2
    h2 r2 ws places ms slots n entered count d0 closed y0 in
    let either = (paint c0 b.session.size old z0.pieces z0.stands.state z0.canvas).0 in
    let B : Bool → Type 0 = λ z. FailsBy z f (paints h3) in
    let D : Bool → Type 0 = λ z. FailsBy z f (paints h2) in
    let then' : FailsBy m.failed f (paints h2) = subst D (sym fails.0) (failed_either s2 s3 h2 h3 r2 r3 f either (subst B fails.1 k)) in
    let F : ℕ → Type 0 = λ z. FailsBy m.failed f z in
    let was = subst F same then' in
    let c = fails_at b f in
    let x = turn c was (all f was).holds.link.stands.ended' in
    let y = sent_holds R M0 M1 c scripts before old m s1 h1 r1 side taken left sent' (all f was).served x
    (link before (all f was).holds.link) (all f was).holds in
    let d = enter c y.clients in
    let z = entered_holds R M1 c scripts before old (record m { state = s1; entries = h1; replies = r1; side = side; taken = taken; left = left }) s2 h2
    r2 ws places ms slots n entered count d closed y in
    let (o, canvas) = paint c b.session.size old z.pieces z.stands.state z.canvas in
    let q = count_is c scripts n count z.scripts' in
    let st = stands_either c s2 s3 h2 h3 r2 r3 o z.stands in
    let N : ℕ → Type 0 = λ j. AllFollow c h3 j in
    let A : ℕ → Type 0 = λ j. AreTurns false c h1 (clients_from 0 j) d.0.turns in
    let E : ℕ → Type 0 = λ j. h2 ≡ h1 ++ round_entries (clients_from 0 j) d.0.turns in
    let (t1, u1, e1, n1) = sent_turn c m.state s1 m.entries h1 m.replies r1 sent' x in
    let (last, are, parts) = broken_paint c s2 s3 m.entries h1 h2 h3 r2 r3 t1 d.0.turns (clients_from 0 (length b.session.scripts)) u1 e1
    (subst A q d.0.are) (subst E q d.0.entries) (acts c z.stands.state then') o in
    record {
      legal = st.legal;
      replies = st.replies;
      numbered = numbered_either (length b.session.scripts) s2 s3 h2 h3 r2 r3 o z.numbered;
      clients =
          subst N (ap (λ (j : List Script). length j) z.scripts') (follow c s3 h3 (all_either c s2 s3 h2 h3 r2 r3 scripts ws places ms slots o z.clients));
      link = link_either R M1 Then s2 s3 h2 h3 r2 r3 side m.failed before left taken o ends past z.link;
      canvas = canvas;
      some = λ i. absurd (let j = sym fails.1 ∙ i in cc);
      rounds = broken_by c m.entries h3 last (all f was).rounds are parts;
    }

-- the second terminal's part of the painter's turn: the Paint has its frame
pub followed_err : (R : LinkReading) (M0 M1 Then : List R.One → List Entry → Type 0) (b : Begun) (scripts : List Script) (before old : Option (List ℕ)) (m : Moment)
    (s1 : State) (h1 : List Entry) (r1 : List Reply) (side : Side) (taken : ℕ) (left : Option (List ℕ)) (s2 : State) (h2 : List Entry) (r2 : List Reply)
    (ws : List Worker) (places : List (List ℕ)) (ms : List (List Memory)) (slots : List (List ℕ)) (n : ℕ) (s3 : State) (h3 : List Entry)
    (r3 : List Reply) (kept : Kept) (es : List ℕ) (end : ℕ) (failed : Bool) (written : Option (List ℕ)) (sent' entered painted : Bool)
    → Turned R M0 M1 Then b.state scripts m s1 h1 r1 side taken left s2 h2 r2 ws places ms slots n s3 h3 r3 kept es end failed written sent' entered painted
    → ((c : Begun) (s : State) (h : List Entry) → AllStandBy c s h scripts ws places ms slots → AllFollow c h (length scripts))
    → ((f : Option ℕ) → FailsBy m.failed f (paints m.entries) → GoesBy R M0 (fails_at b f) scripts before old m) → (f : Option ℕ) → FailsBy failed f (paints h3)
    → StopsBy R Then (fails_at b f) before old h3 r3 es left written failed
followed_err R M0 M1 Then b scripts before old m s1 h1 r1 side taken left s2 h2 r2 ws places ms slots n s3 h3 r3 kept es end failed written
    sent' entered painted t stand all f k =
    let g = failing m.failed (paints m.entries) in
    let now = fails_now m.failed (paints m.entries) in
    let one = comes R M0 M1 Then (fails_at b g) scripts before old m s1 h1 r1 side taken left s2 h2 r2 ws places ms slots n s3 h3 r3 kept es end failed
    written sent' entered painted t now (all g now) in
    let was = fails_before painted m.failed failed f (paints m.entries) (paints h3) t.fails one.more one.same k in
    let c = fails_at b f in
    let x = comes R M0 M1 Then c scripts before old m s1 h1 r1 side taken left s2 h2 r2 ws places ms slots n s3 h3 r3 kept es end failed written sent'
    entered painted t was (all f was) in
    let y = x.holds in
    let N : ℕ → Type 0 = λ j. AllFollow c h3 j in
    record {
      legal = y.stands.legal;
      replies = y.stands.replies;
      numbered = y.numbered;
      clients = subst N (ap (λ (j : List Script). length j) y.scripts') (stand c s3 h3 y.clients);
      link = linked_stays R Then Then h3 side failed before left taken (λ fs q. q) y.link;
      canvas = canvas_ends c h3 b.session.size kept y.pieces es end old written failed y.canvas;
      some = y.some;
      rounds = broken_by c m.entries h3 x.one (all f was).rounds (broken_all c m.entries (all_order c) x.one x.are) x.entries;
    }

-- ---- answers

pub round_err : (R : LinkReading) (M Then : List R.One → List Entry → Type 0) (b : Begun) (scripts : List Script) (before old : Option (List ℕ)) (h : List Entry)
    (m : Moment) (result : Result Bool OutOfMemory) → IsErr result → StopsBy R Then b before old m.entries m.replies m.ends m.left m.written m.failed
    → RoundTurnBy R M Then result b scripts before old h m
round_err R M Then b scripts before old h m (Ok x) i k = absurd (cc)
round_err R M Then b scripts before old h m (Err x) i k = k

-- one round more

pub goes_on : (R : LinkReading) (M : List R.One → List Entry → Type 0) (b : Begun) (scripts : List Script) (before old : Option (List ℕ)) (h : List Entry)
    (m : Moment) (acted : Bool) → RoundTurnBy R M M (Ok acted) b scripts before old h m → GoesBy R M b scripts before old m
goes_on R M b scripts before old h m true k = k.0
goes_on R M b scripts before old h m false k = k.0

pub goes_longer : (R : LinkReading) (M : List R.One → List Entry → Type 0) (b : Begun) (scripts : List Script) (before old : Option (List ℕ))
    (h : List Entry) (m : Moment) (acted : Bool) → acted ≡ true → RoundTurnBy R M M (Ok acted) b scripts before old h m → length h < length m.entries
goes_longer R M b scripts before old h m true e k = k.1
goes_longer R M b scripts before old h m false e k = absurd (cc)

pub goes_idle : (R : LinkReading) (M : List R.One → List Entry → Type 0) (b : Begun) (scripts : List Script) (before old : Option (List ℕ))
    (h : List Entry) (m : Moment) (acted : Bool) → acted ≡ false → RoundTurnBy R M M (Ok acted) b scripts before old h m
    → GoesBy R M b scripts before old m × AllIdle b m.entries
goes_idle R M b scripts before old h m false e k = k
goes_idle R M b scripts before old h m true e k = absurd (cc)

pub rounds_err : (R : LinkReading) (M Then : List R.One → List Entry → Type 0) (b : Begun) (scripts : List Script) (before old : Option (List ℕ)) (m : Moment)
    (result : Result (Unit {0}) OutOfMemory) → IsErr result → StopsBy R Then b before old m.entries m.replies m.ends m.left m.written m.failed
    → RoundsTurnBy R M Then result b scripts before old m
rounds_err R M Then b scripts before old m (Ok x) i k = absurd (cc)
rounds_err R M Then b scripts before old m (Err x) i k = k

rose_later : (a b c : ℕ) → Rose a b → b ≤ c → Rose a c
rose_later a b c (inl l) m = inl (omega arith)
rose_later a b c (inr l) m = inr (omega arith)

rose_sooner : (a b c : ℕ) → a ≤ b → Rose b c → Rose a c
rose_sooner a b c l (inl m) = inl (omega arith)
rose_sooner a b c l (inr m) = inr m

-- a cause that was there, or came now
pub cause_more : (P Q R : Type 0) (a b c : ℕ) → (Q → P ⊎ Rose a b) → (R → Q ⊎ Rose b c) → a ≤ b → b ≤ c → R → P ⊎ Rose a c
cause_more P Q R a b c f g l m r =
    elim (g r) [ inl q ↦ elim (f q) [ inl p ↦ inl p | inr x ↦ inr (rose_later a b c x m) ] | inr x ↦ inr (rose_sooner a b c l x) ]
