-- Rounds that go on.
use Rattle.std.proofs.Common.{◌≡◌, ℕ, zero, suc, ◌+◌, ◌<◌, Bool, length, map, Some, None, true, false, List, [], ◌∷◌, ◌++◌, refl, sym, ap, ◌∙◌, subst, append_assoc}
use Rattle.std.specs.Prelude.{Option, nat_le}
use Rattle.std.specs.List.{list_all, flat_map, range_with_len, AllByRecursion}
use Rattle.std.specs.Option.{option_map_or, is_none}
use Rattle.con_events.specs.Session.{Clients}
use Rattle.con_events.specs.declared.actor.Actor.TheVariants as actors
use Rattle.con_events.specs.declared.end.End.{End}
use Rattle.con_procs.specs.Procs.{is_attached}
use Rattle.con_machine.specs.State.{State}
use Rattle.con_machine.specs.History.{run}
use Rattle.con_machine.specs.Client.{Client, Stance, GoesOn, MayLeave, MustLeave, Gone}
use Rattle.con_machine.specs.Turns.{sent, has_ended, paints}
use Rattle.con_machine.specs.Follows.{is_lost}
use Rattle.con_laws.specs.Rounds as now
use Rattle.con_events.specs.declared.actor.Actor.{Actor}
use Rattle.con_events.specs.declared.entry.Entry.{Entry}
use Rattle.con_events.specs.declared.event.Event.{Event}
use Rattle.con_laws.specs.Rounds.{Begun, client_turn, client_at, is_memory}
use Rattle.con_laws.specs.RoundWords.{AreTurns, IsTurn, AreRounds, IsLast, MayFail, Rounds, SideTurn, ClientTurn, ClientTurnBy, painter_turn, is_failed, entry_of, round_entries, all_entries, all_order, order, clients_from, is_nobody}

append_none : {A : Type 0} (xs : List A) → xs ++ [] ≡ xs
append_none [] = refl
append_none (x ∷ xs) = ap (λ ys. x ∷ ys) (append_none xs)

-- one more actor has its turn
pub turns_more : (b : Begun) (h : List Entry) (by : List Actor) (ts : List (Option Event)) (a : Actor) (t : Option Event)
    → AreTurns false b h by ts → IsTurn b (h ++ round_entries by ts) a t → AreTurns false b h (by ++ a ∷ []) (ts ++ t ∷ [])
turns_more b h [] [] a t are is = let Q : List Entry → Type 0 = λ q. IsTurn b q a t in (subst Q (append_none h) is, tt)
turns_more b h [] (u ∷ us) a t are is = absurd are
turns_more b h (c ∷ cs) [] a t are is = absurd (let e : false ≡ true = are in cc)
turns_more b h (c ∷ cs) (u ∷ us) a t are is =
    let Q : List Entry → Type 0 = λ q. IsTurn b q a t in
    (are.0, turns_more b (h ++ entry_of c u) cs us a t are.1 (subst Q (sym (append_assoc h (entry_of c u) (round_entries cs us))) is))

-- and what is entered in its turn stands last
pub entries_more : (b : Begun) (h : List Entry) (by : List Actor) (ts : List (Option Event)) (a : Actor) (t : Option Event)
    → AreTurns false b h by ts → round_entries (by ++ a ∷ []) (ts ++ t ∷ []) ≡ round_entries by ts ++ entry_of a t
entries_more b h [] [] a t are = append_none (entry_of a t)
entries_more b h [] (u ∷ us) a t are = absurd are
entries_more b h (c ∷ cs) [] a t are = absurd (let e : false ≡ true = are in cc)
entries_more b h (c ∷ cs) (u ∷ us) a t are =
    ap (λ es. entry_of c u ++ es) (entries_more b (h ++ entry_of c u) cs us a t are.1) ∙ sym (append_assoc (entry_of c u) (round_entries cs us) (entry_of a t))

-- a round that may break off is the turns of those that come first
pub broken_off : (b : Begun) (h : List Entry) (by more : List Actor) (ts : List (Option Event)) → AreTurns false b h by ts → AreTurns true b h (by ++ more) ts
broken_off b h [] [] [] are = tt
broken_off b h [] (a ∷ as') [] are = refl
broken_off b h [] more (u ∷ us) are = absurd are
broken_off b h (c ∷ cs) more [] are = absurd (let e : false ≡ true = are in cc)
broken_off b h (c ∷ cs) more (u ∷ us) are = (are.0, broken_off b (h ++ entry_of c u) cs more us are.1)

-- one more round in which somebody acts
pub rounds_more : (b : Begun) (h : List Entry) (rounds : List (List (Option Event))) (one : List (Option Event))
    → AreRounds b h rounds → AreTurns false b (h ++ all_entries (all_order b) rounds) (all_order b) one → is_nobody one ≡ false
    → AreRounds b h (rounds ++ one ∷ [])
rounds_more b h [] one are t n = let Q : List Entry → Type 0 = λ q. AreTurns false b q (all_order b) one in (subst Q (append_none h) t, n, tt)
rounds_more b h (first ∷ rounds) one (u, v, more) t n =
    let Q : List Entry → Type 0 = λ q. AreTurns false b q (all_order b) one in (
      u,
      v,
      rounds_more b (h ++ round_entries (all_order b) first) rounds one more
          (subst Q (sym (append_assoc h (round_entries (all_order b) first) (all_entries (all_order b) rounds))) t) n,
    )

-- and what is entered in it stands last
pub all_entries_more : (by : List Actor) (rounds : List (List (Option Event))) (one : List (Option Event))
    → all_entries by (rounds ++ one ∷ []) ≡ all_entries by rounds ++ round_entries by one
all_entries_more by [] one = append_none (round_entries by one)
all_entries_more by (first ∷ rounds) one = ap (λ es. round_entries by first ++ es) (all_entries_more by rounds one)
    ∙ sym (append_assoc (round_entries by first) (all_entries by rounds) (round_entries by one))

-- ---- that they are the promised ones

-- in a round that does not break off each actor has its turn
as_many : (b : Begun) (h : List Entry) (by : List Actor) (ts : List (Option Event)) → AreTurns false b h by ts → length ts ≡ length by
as_many b h [] [] are = refl
as_many b h [] (t ∷ ts) are = absurd are
as_many b h (a ∷ by) [] are = absurd (let e : false ≡ true = are in cc)
as_many b h (a ∷ by) (t ∷ ts) are = ap suc (as_many b (h ++ entry_of a t) by ts are.1)

failed_same : (o : Option ℕ) (n : ℕ) → is_failed o n ≡ option_map_or (λ k. nat_le k n) o false
failed_same None n = refl
failed_same (Some k) n = refl

side_is : (ended failed : Bool) (t : Option Event) → SideTurn ended failed t → now.SideTurn ended failed t
side_is true failed t is = is
side_is false true t is = is
side_is false false None is = absurd is
side_is false false (Some e) is = refl

client_by : (st : Stance) (s : State) (p : ℕ) (c : Client) (t : Option Event) → ClientTurnBy st s p c t → now.ClientTurn true st (client_turn s p c) t
client_by GoesOn s p c t is = is
client_by MayLeave s p c t is = is
client_by MustLeave s p c t is = is
client_by Gone s p c t is = is

client_is : (attached : Bool) (s : State) (p : ℕ) (c : Client) (t : Option Event) → ClientTurn attached s p c t → now.ClientTurn attached c.stance (client_turn s p c) t
client_is true s p c t is = client_by c.stance s p c t is
client_is false s p c t is = is

pub turn_is : (b : Begun) (h : List Entry) (a : Actor) (t : Option Event) → IsTurn b h a t → now.IsTurn b h a t
turn_is b h actors.Terminal t is =
    let Q : Bool → Type 0 = λ f. now.SideTurn (has_ended false (sent h)) f t in
    subst Q (failed_same b.failed (paints h)) (side_is (has_ended false (sent h)) (is_failed b.failed (paints h)) t is)
turn_is b h (actors.Client p) t is = client_is (is_attached (run b.state h).procs p) (run b.state h) p (client_at b h p) t is
turn_is b h actors.Painter t is = is ∙ ap (λ f. painter_turn (run b.state h) f) (failed_same b.failed (paints h))

-- turns behind others
after_turns : (b : Begun) (h : List Entry) (by more : List Actor) (ts us : List (Option Event)) (g : List Entry)
    → AreTurns false b h by ts → now.AreTurns b (h ++ round_entries by ts) more us g → now.AreTurns b h (by ++ more) (ts ++ us) g
after_turns b h [] more [] us g are rest = let Q : List Entry → Type 0 = λ q. now.AreTurns b q more us g in subst Q (append_none h) rest
after_turns b h [] more (t ∷ ts) us g are rest = absurd are
after_turns b h (a ∷ by) more [] us g are rest = absurd (let e : false ≡ true = are in cc)
after_turns b h (a ∷ by) more (None ∷ ts) us g are rest =
    let A : List Entry → Type 0 = λ q. AreTurns false b q by ts in
    (turn_is b h a None are.0, after_turns b h by more ts us g (subst A (append_none h) are.1) rest)
after_turns b h (a ∷ by) more (Some e ∷ ts) us g are rest =
    let Q : List Entry → Type 0 = λ q. now.AreTurns b q more us g in (
      turn_is b h a (Some e) are.0,
      after_turns b (h ++ entry_of a (Some e)) by more ts us g are.1
          (subst Q (sym (append_assoc h (entry_of a (Some e)) (round_entries by ts))) rest),
    )

-- the last ones
last_turns : (broken : Bool) (b : Begun) (h : List Entry) (by : List Actor) (ts : List (Option Event)) → AreTurns broken b h by ts
    → now.AreTurns b h by ts (h ++ round_entries by ts)
last_turns broken b h [] [] are = append_none h
last_turns broken b h [] (t ∷ ts) are = absurd are
last_turns broken b h (a ∷ by) [] are = append_none h
last_turns broken b h (a ∷ by) (None ∷ ts) are =
    let A : List Entry → Type 0 = λ q. AreTurns broken b q by ts in
    (turn_is b h a None are.0, last_turns broken b h by ts (subst A (append_none h) are.1))
last_turns broken b h (a ∷ by) (Some e ∷ ts) are =
    let Q : List Entry → Type 0 = λ q. now.AreTurns b (h ++ entry_of a (Some e)) by ts q in (
      turn_is b h a (Some e) are.0,
      subst Q (append_assoc h (entry_of a (Some e)) (round_entries by ts))
          (last_turns broken b (h ++ entry_of a (Some e)) by ts are.1),
    )

-- whole rounds, and what stands behind them
all_turns : (b : Begun) (h : List Entry) (rounds : List (List (Option Event))) (more : List Actor) (us : List (Option Event)) (g : List Entry)
    → AreRounds b h rounds → now.AreTurns b (h ++ all_entries (all_order b) rounds) more us g
    → now.AreTurns b h (flat_map (λ one. all_order b) rounds ++ more) (flat_map (λ one. one) rounds ++ us) g
all_turns b h [] more us g are rest = let Q : List Entry → Type 0 = λ q. now.AreTurns b q more us g in subst Q (append_none h) rest
all_turns b h (one ∷ rounds) more us g (u, v, are) rest =
    let O = all_order b in
    let B = flat_map (λ (x : List (Option Event)). O) rounds in
    let T = flat_map (λ (x : List (Option Event)). x) rounds in
    let Q : List Entry → Type 0 = λ q. now.AreTurns b q more us g in
    let P : List Actor → Type 0 = λ q. now.AreTurns b h q ((one ++ T) ++ us) g in
    let R : List (Option Event) → Type 0 = λ q. now.AreTurns b h (O ++ (B ++ more)) q g in
    subst P (sym (append_assoc O B more)) (subst R (sym (append_assoc one T us)) (after_turns b h O (B ++ more) one (T ++ us) g u
    (all_turns b (h ++ round_entries O one) rounds more us g are (subst Q (sym (append_assoc h (round_entries O one) (all_entries O rounds))) rest))))

clients_same : (k n : ℕ) → clients_from k n ≡ map (λ p. actors.Client p) (range_with_len (k + 1) n)
clients_same k zero = refl
clients_same k (suc n) = ap (λ (xs : List Actor). actors.Client (k + 1) ∷ xs) (clients_same (k + 1) n)

order_same : (n : ℕ) → order n ≡ now.order n
order_same n = ap (λ (xs : List Actor). actors.Terminal ∷ (xs ++ actors.Painter ∷ [])) (clients_same 0 n)

each_round : (b : Begun) (h : List Entry) (rounds : List (List (Option Event))) → AreRounds b h rounds
    → AllByRecursion (λ one. (length one ≡ length (all_order b)) × (list_all is_none one ≡ false)) rounds
each_round b h [] are = tt
each_round b h (one ∷ rounds) (u, v, are) = ((as_many b h (all_order b) one u, v), each_round b (h ++ round_entries (all_order b) one) rounds are)

fails_so : (lost : Bool) (n : ℕ) (o : Option ℕ) → MayFail lost n o → (k : ℕ) → o ≡ Some k → (lost ≡ true) × (0 < n) × (k ≡ n)
fails_so lost n None may k e = absurd (cc)
fails_so lost n (Some j) may k e = let same : k ≡ j = ap (λ (o : Option ℕ). option_map_or (λ i. i) o 0) (sym e) in (may.0, may.1, same ∙ may.2)

last_so : (memory : Bool) (b : Begun) (h : List Entry) (last : List (Option Event)) → IsLast memory b h last
    → now.AreTurns b h (all_order b) last (h ++ round_entries (all_order b) last)
last_so true b h last is = last_turns true b h (all_order b) last is
last_so false b h last is = last_turns false b h (all_order b) last is.0

nobody_so : (memory : Bool) (b : Begun) (h : List Entry) (last : List (Option Event)) → IsLast memory b h last → memory ≡ false
    → (length last ≡ length (all_order b)) × (list_all is_none last ≡ true)
nobody_so true b h last is e = absurd (cc)
nobody_so false b h last is e = (as_many b h (all_order b) last is.0, is.1)

-- rounds that are walked are those that are promised
pub rounds_are : (s : State) (h : List Entry) (session : Clients) (racks : List (List ℕ)) (end : End) → Rounds s h session racks end → now.Rounds s h session racks end
rounds_are s h session racks end k =
    let b : Begun = record { state = s; session = session; racks = racks; failed = k.failed } in
    let O = all_order b in
    let same : O ≡ now.order (length session.scripts) = order_same (length session.scripts) in
    let E : List Actor → Type 0 = λ o. AllByRecursion (λ one. (length one ≡ length o) × (list_all is_none one ≡ false)) k.rounds in
    let N : List Actor → Type 0 = λ o. (length k.last ≡ length o) × (list_all is_none k.last ≡ true) in
    let T : List Actor → Type 0 = λ o. now.AreTurns b [] (flat_map (λ one. o) k.rounds ++ o) (flat_map (λ one. one) k.rounds ++ k.last) h in
    let G : List Entry → Type 0 = λ g. now.AreTurns b (all_entries O k.rounds) O k.last g in record {
      failed = k.failed;
      fails = fails_so (is_lost end) (paints h) k.failed k.fails;
      rounds = k.rounds;
      last = k.last;
      each = subst E same (each_round b [] k.rounds k.turns_are);
      none = λ e. subst N same (nobody_so (is_memory end) b (all_entries O k.rounds) k.last k.last_is e);
      turns_are = subst T same (all_turns b [] k.rounds O k.last h k.turns_are
          (subst G (sym k.parts) (last_so (is_memory end) b (all_entries O k.rounds) k.last k.last_is)));
    }
