-- What is left of a rack, and the handlers after one more entry.
use Rattle.std.proofs.Common.{◌≡◌, ℕ, zero, suc, Bool, true, false, cond, List, [], ◌∷◌, ◌++◌, get_or, refl, sym, ap, ◌∙◌, subst, eq-eqb, arith}
use Rattle.std.specs.Prelude.{◌==◌, ◌&&◌, ◌||◌, not, filter}
use Rattle.std.specs.List.{list_all, list_any}
use Rattle.std.proofs.lemmas.Bool.Decides.{nat_tests}
use Rattle.std.proofs.lemmas.List.Folds.{list_all-append}
use Rattle.con_events.specs.declared.actor.Actor.TheVariants as actors
use Rattle.con_events.specs.declared.entry.Entry.{Entry}
use Rattle.con_events.specs.declared.event.Event.{Event}
use Rattle.con_events.specs.declared.reply.Reply.{Reply}
use Rattle.con_handlers.specs.Delivery.{asked_from}
use Rattle.con_handlers.specs.Memory.{Memory}
use Rattle.con_machine.specs.Added.{adds, has_added}
use Rattle.con_machine.specs.Chain.{Handler, answers_to, asked_once}
use Rattle.con_machine.specs.Words.Chain.{delivered_to}
use Rattle.con_machine.specs.Client.{Client, client_after}
use Rattle.con_machine.specs.Follows.{steps_of, kinds_of}
use Rattle.con_laws.specs.HandlerLaws.{has_added-append}
use Rattle.con_machine.specs.History.{run}
use Rattle.con_machine.specs.HistoryLaws.{turns-own, turns-other}
use Rattle.con_laws.specs.Rounds.{Begun, client_at}
use Rattle.con_machine.specs.State.{State}
use Rattle.con_machine.specs.Turns.{Turn, turns, turn_of, is_client}
use Rattle.con_actors.specs.Words.Desk.{Enters, entry}
use Rattle.con_actors.specs.Words.Worker.{HandsAreBy, IsRack, HandsStandBy, Keeps, places_in, stand_once}

-- ---- the rack after one more entry

or_none : (b : Bool) → (b || false) ≡ b
or_none true = refl
or_none false = refl

-- what was added is what was, and what the entry adds
pub added_one : (i : ℕ) (ts : List Turn) (t : Turn) → has_added i (ts ++ t ∷ []) ≡ (has_added i ts || adds i t.event t.reply)
added_one i ts t = has_added-append i ts (t ∷ []) ∙ ap (λ (b : Bool). has_added i ts || b) (or_none (adds i t.event t.reply))

neither : (a b : Bool) → (a || b) ≡ false → (a ≡ false) × (b ≡ false)
neither true b e = absurd (cc)
neither false true e = absurd (cc)
neither false false e = (refl, refl)

pub not_before : (i : ℕ) (ts : List Turn) (t : Turn) → has_added i (ts ++ t ∷ []) ≡ false → (has_added i ts ≡ false) × (adds i t.event t.reply ≡ false)
not_before i ts t n = neither (has_added i ts) (adds i t.event t.reply) (sym (added_one i ts t) ∙ n)

or_left : (a b : Bool) → a ≡ true → (a || b) ≡ true
or_left true b e = refl
or_left false b e = absurd (cc)

or_right : (a b : Bool) → b ≡ true → (a || b) ≡ true
or_right true b e = refl
or_right false b e = e

both : (a b : Bool) → a ≡ true → b ≡ true → (a && b) ≡ true
both a b e f = rw (e, f) refl

apart : (a b : Bool) → (a && b) ≡ true → (a ≡ true) × (b ≡ true)
apart true b e = (refl, e)
apart false b e = absurd (cc)

pub still_added : (ts : List Turn) (t : Turn) (xs : List ℕ) → list_all (λ i. has_added i ts) xs ≡ true → list_all (λ i. has_added i (ts ++ t ∷ [])) xs ≡ true
still_added ts t [] a = refl
still_added ts t (x ∷ xs) a =
    let k = apart (has_added x ts) (list_all (λ i. has_added i ts) xs) a in
    both (has_added x (ts ++ t ∷ [])) (list_all (λ i. has_added i (ts ++ t ∷ [])) xs)
    (added_one x ts t ∙ or_left (has_added x ts) (adds x t.event t.reply) k.0) (still_added ts t xs k.1)

pub rack_more : (ts : List Turn) (t : Turn) (kinds slots places : List ℕ) → IsRack ts kinds slots places → IsRack (ts ++ t ∷ []) kinds slots places
rack_more ts t kinds slots places k = record {
  left = λ i n. k.left i (not_before i ts t n).0;
  added = still_added ts t places k.added;
  once = k.once;
}

-- a place that none of them is
none_among : (ts : List Turn) (i : ℕ) (xs : List ℕ) → list_all (λ j. has_added j ts) xs ≡ true → has_added i ts ≡ false → list_any (λ y. i == y) xs ≡ false
none_among ts i [] a n = refl
none_among ts i (x ∷ xs) a n =
    let k = apart (has_added x ts) (list_all (λ j. has_added j ts) xs) a in
    by (i == x) refl (none_among ts i xs k.1 n)
  where
    by : (b : Bool) → (i == x) ≡ b → list_any (λ y. i == y) xs ≡ false → (b || list_any (λ y. i == y) xs) ≡ false
    by true e m = let same : i ≡ x = grind (arith, nat_tests) in let P : ℕ → Type 0 = λ z. has_added z ts ≡ true in
        let yes = subst P (sym same) (apart (has_added x ts) (list_all (λ j. has_added j ts) xs) a).0 in absurd (cc)
    by false e m = m

pub any_append : (p : ℕ → Bool) (xs : List ℕ) (y : ℕ) → list_any p (xs ++ y ∷ []) ≡ (list_any p xs || p y)
any_append p [] y = or_none (p y)
any_append p (x ∷ xs) y = ap (λ (b : Bool). p x || b) (any_append p xs y) ∙ or_assoc (p x) (list_any p xs) (p y)
  where
    or_assoc : (a b c : Bool) → (a || (b || c)) ≡ ((a || b) || c)
    or_assoc true b c = refl
    or_assoc false b c = refl

pub once_more : (xs : List ℕ) (i : ℕ) → stand_once xs ≡ true → list_any (λ y. i == y) xs ≡ false → stand_once (xs ++ i ∷ []) ≡ true
once_more [] i o n = refl
once_more (x ∷ xs) i o n =
    let k = apart (not (list_any (λ y. y == x) xs)) (stand_once xs) o in
    let m = neither (i == x) (list_any (λ y. i == y) xs) n in
    both (not (list_any (λ y. y == x) (xs ++ i ∷ []))) (stand_once (xs ++ i ∷ []))
    (ap not (any_append (λ y. y == x) xs i ∙ ap (λ (b : Bool). list_any (λ y. y == x) xs || b) m.0 ∙ or_none (list_any (λ y. y == x) xs)) ∙ k.0)
    (once_more xs i k.1 m.1)

-- a place is added
pub rack_added : (ts : List Turn) (t : Turn) (kinds slots left places : List ℕ) (i : ℕ)
    → has_added i ts ≡ false → ((j : ℕ) → adds j t.event t.reply ≡ (i == j)) → ((j : ℕ) → (j == i) ≡ false → get_or left j 0 ≡ get_or slots j 0)
    → IsRack ts kinds slots places → IsRack (ts ++ t ∷ []) kinds left (places ++ i ∷ [])
rack_added ts t kinds slots left places i n a same k = record {
  left = λ j m. let z = not_before j ts t m in same j (flipped j (sym (a j) ∙ z.1)) ∙ k.left j z.0;
  added = list_all-append (λ j. has_added j (ts ++ t ∷ [])) places (i ∷ [])
      ∙ both (list_all (λ j. has_added j (ts ++ t ∷ [])) places) (has_added i (ts ++ t ∷ []) && true) (still_added ts t places k.added)
      (both (has_added i (ts ++ t ∷ [])) true (added_one i ts t ∙ or_right (has_added i ts) (adds i t.event t.reply) (a i ∙ eq-eqb i i refl)) refl);
  once = once_more places i k.once (none_among ts i places k.added n);
}
  where
    flipped : (j : ℕ) → (i == j) ≡ false → (j == i) ≡ false
    flipped j e = grind (arith, nat_tests)

-- a place is removed
abbrev pub without : ℕ → List ℕ → List ℕ
without i xs = filter (λ x. not (x == i)) xs

pub all_without : (p : ℕ → Bool) (i : ℕ) (xs : List ℕ) → list_all p xs ≡ true → list_all p (without i xs) ≡ true
all_without p i [] a = refl
all_without p i (x ∷ xs) a = let k = apart (p x) (list_all p xs) a in by (not (x == i)) k.0 (all_without p i xs k.1)
  where
    by : (b : Bool) → p x ≡ true → list_all p (without i xs) ≡ true → list_all p (cond b (x ∷ without i xs) (without i xs)) ≡ true
    by true e m = both (p x) (list_all p (without i xs)) e m
    by false e m = m

pub any_without : (p : ℕ → Bool) (i : ℕ) (xs : List ℕ) → list_any p xs ≡ false → list_any p (without i xs) ≡ false
any_without p i [] a = refl
any_without p i (x ∷ xs) a = let k = neither (p x) (list_any p xs) a in by (not (x == i)) k.0 (any_without p i xs k.1)
  where
    by : (b : Bool) → p x ≡ false → list_any p (without i xs) ≡ false → list_any p (cond b (x ∷ without i xs) (without i xs)) ≡ false
    by true e m = rw (e, m) refl
    by false e m = m

not_true : (b : Bool) → not b ≡ true → b ≡ false
not_true true e = absurd (cc)
not_true false e = refl

pub once_without : (i : ℕ) (xs : List ℕ) → stand_once xs ≡ true → stand_once (without i xs) ≡ true
once_without i [] o = refl
once_without i (x ∷ xs) o =
    let k = apart (not (list_any (λ y. y == x) xs)) (stand_once xs) o in
    by (not (x == i)) (any_without (λ y. y == x) i xs (not_true (list_any (λ y. y == x) xs) k.0)) (once_without i xs k.1)
  where
    by : (b : Bool) → list_any (λ y. y == x) (without i xs) ≡ false → stand_once (without i xs) ≡ true
        → stand_once (cond b (x ∷ without i xs) (without i xs)) ≡ true
    by true e m = rw (e, m) refl
    by false e m = m

pub rack_removed : (ts : List Turn) (t : Turn) (kinds slots places : List ℕ) (i : ℕ) → IsRack ts kinds slots places
    → IsRack (ts ++ t ∷ []) kinds slots (without i places)
rack_removed ts t kinds slots places i k =
    rack_more ts t kinds slots (without i places)
    (record { left = k.left; added = all_without (λ j. has_added j ts) i places k.added; once = once_without i places k.once })

-- ---- the same along a history

pub own_turns : (b : Begun) (p : ℕ) (s t : State) (h g : List Entry) (rs qs : List Reply) (e : Event) → Enters s t h g rs qs (actors.Client p) e
    → turns b.state p g ≡ turns b.state p h ++ turn_of (run b.state h) p (entry (actors.Client p) e) ∷ []
own_turns b p s t h g rs qs e n = ap (turns b.state p) n.entries ∙ turns-own b.state p h (entry (actors.Client p) e) (eq-eqb p p refl)

-- an entry that leaves the chain alone
pub hands_keep : (b : Begun) (p : ℕ) (s t : State) (h g : List Entry) (rs qs : List Reply) (e : Event) (places : List ℕ) (ms : List Memory) (slots : List ℕ)
    → Enters s t h g rs qs (actors.Client p) e
    → Keeps (client_at b h p) (client_at b g p) → HandsStandBy b p h places ms slots → HandsStandBy b p g places ms slots
hands_keep b p s t h g rs qs e places ms slots n k a =
    let c = client_at b h p in
    let d = client_at b g p in
    let x = turn_of (run b.state h) p (entry (actors.Client p) e) in
    let P : List Turn → Type 0 = λ ts. IsRack ts c.kinds slots (places_in c.chain) in
    let Q : List ℕ → Type 0 = λ kinds. IsRack (turns b.state p g) kinds slots (places_in c.chain) in
    let R : List Handler → Type 0 = λ hs. IsRack (turns b.state p g) d.kinds slots (places_in hs) in
    let H : List Handler → Type 0 = λ hs. HandsAreBy hs c.doubtful places ms in
    let D : Bool → Type 0 = λ y. HandsAreBy d.chain y places ms in record {
      chain = subst D (sym k.doubtful) (subst H (sym k.chain) a.chain);
      rack = subst R (sym k.chain)
          (subst Q (sym k.kinds) (subst P (sym (own_turns b p s t h g rs qs e n)) (rack_more (turns b.state p h) x c.kinds slots (places_in c.chain) a.rack)));
    }

-- an entry of another
pub hands_other : (b : Begun) (p : ℕ) (h : List Entry) (x : Entry) (places : List ℕ) (ms : List Memory) (slots : List ℕ)
    → is_client p x.actor ≡ false → HandsStandBy b p h places ms slots → HandsStandBy b p (h ++ x ∷ []) places ms slots
hands_other b p h x places ms slots n a =
    let e = turns-other b.state p h x n in
    let at : List Turn → Client = λ ts. client_after (steps_of b.session p) (kinds_of b.racks p) ts in
    let P : List Turn → Type 0 = λ ts. HandsAreBy (at ts).chain (at ts).doubtful places ms in
    let Q : List Turn → Type 0 = λ ts. IsRack ts (at ts).kinds slots (places_in (at ts).chain) in
    record { chain = subst P (sym e) a.chain; rack = subst Q (sym e) a.rack }

-- a delivery leaves the places
pub once_places : (k : ℕ) (hs : List Handler) → places_in (asked_once k hs) ≡ places_in hs
once_places k [] = refl
once_places zero (h ∷ hs) = ap (λ (xs : List ℕ). h.place ∷ xs) (once_places zero hs)
once_places (suc k) (h ∷ hs) = ap (λ (xs : List ℕ). h.place ∷ xs) (once_places k hs)

pub rack_delivered : (b : Begun) (p : ℕ) (s t : State) (h g : List Entry) (rs qs : List Reply) (e : Event) (event : ℕ) (slots : List ℕ)
    → Enters s t h g rs qs (actors.Client p) e
    → IsRack (turns b.state p h) (client_at b h p).kinds slots (places_in (client_at b h p).chain)
    → IsRack (turns b.state p g) (client_at b h p).kinds slots (places_in (delivered_to (client_at b h p).chain event))
rack_delivered b p s t h g rs qs e event slots n k =
    let c = client_at b h p in
    let P : List Turn → Type 0 = λ ts. IsRack ts c.kinds slots (places_in c.chain) in
    let Q : List ℕ → Type 0 = λ xs. IsRack (turns b.state p g) c.kinds slots xs in
    subst Q (sym (once_places (asked_from (answers_to event c.chain)) c.chain))
    (subst P (sym (own_turns b p s t h g rs qs e n))
    (rack_more (turns b.state p h) (turn_of (run b.state h) p (entry (actors.Client p) e)) c.kinds slots (places_in c.chain) k))
