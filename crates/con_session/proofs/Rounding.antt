-- The turns of a round, one after another.
use Rattle.std.proofs.Common.{◌≡◌, ℕ, zero, suc, ◌+◌, ◌<◌, ◌≤◌, Bool, true, false, List, [], ◌∷◌, ◌++◌, Option, Some, append-nil}
use Rattle.std.proofs.Common.{None, Ok, refl, sym, ap, ◌∙◌, subst, append_assoc, arith, length, length-append}
use Rattle.std.specs.Prelude.{not, ◌&&◌, ◌||◌, nat_le}
use Rattle.std.proofs.lemmas.Bool.Decides.{nat_tests}
use Rattle.con_events.specs.declared.actor.Actor.{Actor}
use Rattle.con_events.specs.declared.actor.Actor.TheVariants as actors
use Rattle.con_events.specs.declared.entry.Entry.{Entry}
use Rattle.con_events.specs.declared.event.Event.{Event}
use Rattle.con_laws.specs.RoundLaws.{turns_more, entries_more, rounds_more, all_entries_more}
use Rattle.con_laws.specs.Rounds.{Begun}
use Rattle.con_laws.specs.RoundWords.{AreTurns, IsTurn, clients_from, entry_of, round_entries, all_order, is_failed, is_nobody}
use Rattle.con_actors.specs.Painting.{PainterFails}
use Rattle.con_actors.specs.Words.Sender.{FailsBy}
use Rattle.con_actors.specs.Solo.{HasRounds}

-- ---- from which Paint on the terminal counts as failed

pub not_yet : (f : Option ℕ) (n m : ℕ) → n ≤ m → is_failed f m ≡ false → is_failed f n ≡ false
not_yet None n m l e = refl
not_yet (Some k) n m l e = grind (arith, nat_tests)

later : (n m : ℕ) → n < m → nat_le m n ≡ false
later n m l = grind (arith, nat_tests)

-- what is known behind a turn of the painter was so before it
pub fails_before : (painted old new : Bool) (f : Option ℕ) (n m : ℕ)
    → PainterFails (Ok painted) old new → (painted ≡ true → m ≡ n + 1) → (painted ≡ false → m ≡ n) → FailsBy new f m → FailsBy old f n
fails_before false old new f n m e p q k =
    let A : Bool → Type 0 = λ z. FailsBy z f n in let B : ℕ → Type 0 = λ z. FailsBy new f z in
    subst A e (subst B (q refl) k)
fails_before true old new f n m e p q k =
    let A : Bool → Type 0 = λ z. FailsBy z f n in
    subst A (sym e) (by_new new k)
  where
    by_new : (b : Bool) → FailsBy b f m → is_failed f n ≡ false
    by_new false i = not_yet f n m (let e1 : m ≡ n + 1 = p refl in omega arith) i
    by_new true i = ap (λ (o : Option ℕ). is_failed o n) i ∙ later n m (let e1 : m ≡ n + 1 = p refl in omega arith)

-- ---- a whole round

pub whole_round : (b : Begun) (h h1 h2 h3 : List Entry) (t1 : Option Event) (tc : List (Option Event)) (tp : Option Event) (by : List Actor)
    → IsTurn b h actors.Terminal t1 → h1 ≡ h ++ entry_of actors.Terminal t1 → AreTurns false b h1 by tc → h2 ≡ h1 ++ round_entries by tc
    → IsTurn b h2 actors.Painter tp → h3 ≡ h2 ++ entry_of actors.Painter tp
    → AreTurns false b h (actors.Terminal ∷ (by ++ actors.Painter ∷ [])) (t1 ∷ (tc ++ tp ∷ []))
    × (h3 ≡ h ++ round_entries (actors.Terminal ∷ (by ++ actors.Painter ∷ [])) (t1 ∷ (tc ++ tp ∷ [])))
whole_round b h h1 h2 h3 t1 tc tp by u e1 v e2 w e3 =
    let sent = h ++ entry_of actors.Terminal t1 in
    let A : List Entry → Type 0 = λ z. AreTurns false b z by tc in
    let v' : AreTurns false b sent by tc = subst A e1 v in
    let I : List Entry → Type 0 = λ z. IsTurn b z actors.Painter tp in
    let e2' : h2 ≡ sent ++ round_entries by tc = e2 ∙ ap (λ (z : List Entry). z ++ round_entries by tc) e1 in
    let m = entries_more b sent by tc actors.Painter tp v' in (
      (u, turns_more b sent by tc actors.Painter tp v' (subst I e2' w)),
      e3 ∙ (ap (λ (z : List Entry). z ++ entry_of actors.Painter tp) e2' ∙ (append_assoc sent (round_entries by tc) (entry_of actors.Painter tp)
          ∙ (ap (λ (z : List Entry). sent ++ z) (sym m)
          ∙ append_assoc h (entry_of actors.Terminal t1) (round_entries (by ++ actors.Painter ∷ []) (tc ++ tp ∷ []))))),
    )

-- ---- one that breaks off

pub broken_all : (b : Begun) (h : List Entry) (by : List Actor) (ts : List (Option Event)) → AreTurns false b h by ts → AreTurns true b h by ts
broken_all b h [] [] are = tt
broken_all b h [] (u ∷ us) are = absurd are
broken_all b h (c ∷ cs) [] are = refl
broken_all b h (c ∷ cs) (u ∷ us) are = (are.0, broken_all b (h ++ entry_of c u) cs us are.1)

broken_front : (b : Begun) (h : List Entry) (by more : List Actor) (ts : List (Option Event)) → AreTurns true b h by ts
    → AreTurns true b h (by ++ more) ts × (round_entries (by ++ more) ts ≡ round_entries by ts)
broken_front b h [] [] [] are = (tt, refl)
broken_front b h [] (a ∷ rest) [] are = (refl, refl)
broken_front b h [] more (u ∷ us) are = absurd are
broken_front b h (c ∷ cs) more [] are = (refl, refl)
broken_front b h (c ∷ cs) more (u ∷ us) are =
    let k = broken_front b (h ++ entry_of c u) cs more us are.1 in
    ((are.0, k.0), ap (λ (es : List Entry). entry_of c u ++ es) k.1)

-- it breaks off among the clients
pub broken_round : (b : Begun) (h h1 h2 : List Entry) (t1 : Option Event) (tc : List (Option Event)) (by : List Actor)
    → IsTurn b h actors.Terminal t1 → h1 ≡ h ++ entry_of actors.Terminal t1 → AreTurns true b h1 by tc → h2 ≡ h1 ++ round_entries by tc
    → AreTurns true b h (actors.Terminal ∷ (by ++ actors.Painter ∷ [])) (t1 ∷ tc)
    × (h2 ≡ h ++ round_entries (actors.Terminal ∷ (by ++ actors.Painter ∷ [])) (t1 ∷ tc))
broken_round b h h1 h2 t1 tc by u e1 v e2 =
    let sent = h ++ entry_of actors.Terminal t1 in
    let A : List Entry → Type 0 = λ z. AreTurns true b z by tc in
    let k = broken_front b sent by (actors.Painter ∷ []) tc (subst A e1 v) in (
      (u, k.0),
      e2 ∙ (ap (λ (z : List Entry). z ++ round_entries by tc) e1 ∙ (append_assoc h (entry_of actors.Terminal t1) (round_entries by tc)
          ∙ ap (λ (z : List Entry). h ++ (entry_of actors.Terminal t1 ++ z)) (sym k.1))),
    )

-- ---- whether anybody acts

nobody_more : (ts : List (Option Event)) (t : Option Event) → is_nobody (ts ++ t ∷ []) ≡ (is_nobody ts && is_nobody (t ∷ []))
nobody_more [] t = refl
nobody_more (None ∷ ts) t = nobody_more ts t
nobody_more (Some e ∷ ts) t = refl

nobody_one : (t : Option Event) (ts : List (Option Event)) → is_nobody (t ∷ ts) ≡ (is_nobody (t ∷ []) && is_nobody ts)
nobody_one None ts = refl
nobody_one (Some e) ts = refl

none_by : (a b c : Bool) → (not a && (not b && not c)) ≡ not (a || (b || c))
none_by true b c = refl
none_by false true c = refl
none_by false false c = refl

pub nobody_all : (t1 : Option Event) (tc : List (Option Event)) (tp : Option Event) (sent entered painted : Bool)
    → is_nobody (t1 ∷ []) ≡ not sent → is_nobody tc ≡ not entered → is_nobody (tp ∷ []) ≡ not painted
    → is_nobody (t1 ∷ (tc ++ tp ∷ [])) ≡ not (sent || (entered || painted))
nobody_all t1 tc tp sent entered painted a b c =
    nobody_one t1 (tc ++ tp ∷ []) ∙ (ap (λ (x : Bool). is_nobody (t1 ∷ []) && x) (nobody_more tc tp)
    ∙ (ap (λ (x : Bool). x && (is_nobody tc && is_nobody (tp ∷ []))) a ∙ (ap (λ (x : Bool). not sent && (x && is_nobody (tp ∷ []))) b
    ∙ (ap (λ (x : Bool). not sent && (not entered && x)) c ∙ none_by sent entered painted))))

pub nobody_none : (by : List Actor) (ts : List (Option Event)) → is_nobody ts ≡ true → round_entries by ts ≡ []
nobody_none [] ts n = refl
nobody_none (a ∷ rest) [] n = refl
nobody_none (a ∷ rest) (None ∷ ts) n = nobody_none rest ts n
nobody_none (a ∷ rest) (Some e ∷ ts) n = absurd (cc)

-- ---- each of them has nothing to do

abbrev pub AllRest : Begun → List Entry → List Actor → Type 0
AllRest b h [] = Unit {0}
AllRest b h (a ∷ rest) = IsTurn b h a None × AllRest b h rest

pub all_rest : (b : Begun) (h : List Entry) (by : List Actor) (ts : List (Option Event)) → AreTurns false b h by ts → is_nobody ts ≡ true → AllRest b h by
all_rest b h [] ts are n = tt
all_rest b h (a ∷ rest) [] are n = absurd (let e : false ≡ true = are in cc)
all_rest b h (a ∷ rest) (None ∷ ts) are n =
    (are.0, let P : List Entry → Type 0 = λ z. AreTurns false b z rest ts in all_rest b h rest ts (subst P (append-nil h) are.1) n)
all_rest b h (a ∷ rest) (Some e ∷ ts) are n = absurd (cc)

pub client_rests : (b : Begun) (h : List Entry) (from n : ℕ) (more : List Actor) → AllRest b h (clients_from from n ++ more) → (j : ℕ) → j < n
    → IsTurn b h (actors.Client (from + j + 1)) None
client_rests b h from zero more k j l = absurd (let none : j < 0 = l in omega arith)
client_rests b h from (suc n) more k zero l =
    let P : ℕ → Type 0 = λ z. IsTurn b h (actors.Client (z + 1)) None in subst P (let e : from ≡ from + 0 = omega arith in e) k.0
client_rests b h from (suc n) more k (suc j) l =
    let P : ℕ → Type 0 = λ z. IsTurn b h (actors.Client (z + 1)) None in
    subst P (let e : from + 1 + j ≡ from + suc j = omega arith in e) (client_rests b h (from + 1) n more k.1 j (omega arith))

pub painter_rests : (b : Begun) (h : List Entry) (from n : ℕ) → AllRest b h (clients_from from n ++ actors.Painter ∷ []) → IsTurn b h actors.Painter None
painter_rests b h from zero k = k.0
painter_rests b h from (suc n) k = painter_rests b h (from + 1) n k.1

-- ---- one more round

pub one_round : (b : Begun) (h g : List Entry) (one : List (Option Event))
    → HasRounds b h → AreTurns false b h (all_order b) one → is_nobody one ≡ false → g ≡ h ++ round_entries (all_order b) one → HasRounds b g
one_round b h g one (rounds, are, e) t n i =
    let P : List Entry → Type 0 = λ z. AreTurns false b z (all_order b) one in (
      rounds ++ one ∷ [],
      rounds_more b [] rounds one are (subst P e t) n,
      i ∙ (ap (λ (z : List Entry). z ++ round_entries (all_order b) one) e ∙ sym (all_entries_more (all_order b) rounds one)),
    )

some_entry : (b : Begun) (h : List Entry) (by : List Actor) (ts : List (Option Event))
    → AreTurns false b h by ts → is_nobody ts ≡ false → 0 < length (round_entries by ts)
some_entry b h [] [] are n = absurd (cc)
some_entry b h [] (u ∷ us) are n = absurd are
some_entry b h (c ∷ cs) [] are n = absurd (cc)
some_entry b h (c ∷ cs) (None ∷ us) are n = some_entry b (h ++ []) cs us are.1 n
some_entry b h (c ∷ cs) (Some e ∷ us) are n = omega arith

-- and it has more entries
pub round_longer : (b : Begun) (h g : List Entry) (by : List Actor) (ts : List (Option Event))
    → AreTurns false b h by ts → is_nobody ts ≡ false → g ≡ h ++ round_entries by ts → length h < length g
round_longer b h g by ts are n e = let l = some_entry b h by ts are n in omega (arith, ap (λ (z : List Entry). length z) e, length-append h (round_entries by ts))
