-- Each step keeps the rule of a book's table.
use Rattle.std.proofs.Common.{◌≡◌, ◌≢◌, ℕ, ◌+◌, ◌%◌, ◌^◌, ◌<◌, ◌≤◌, Bool, true, false, List, [], ◌∷◌, ◌++◌, get_or, sym, refl, ap, ◌∙◌, subst, ⊎_elim, arith, length-set, get_or-set_other, get_or-set_same, append_assoc, append-nil, Option, Some, ◌⊎◌, inl, inr}
use Rattle.std.proofs.Math.Nat.{mod-add-mod}
use mathlib.Core.Logic.{dite}
use mathlib.Core.Option.{some, none, some-injective}
use native.Mathlib.Decide.{ℕ_discrete}
use lib.ListN.{get_elem?}
use Rattle.std.specs.Option.{unwrap_or}
use Rattle.atomic_table.specs.Table.{State, step, keeps, takes, gives, Allows}
use Rattle.atomic_table.proofs.Lists.{set_here, set_again, one_turn}
use Rattle.con_book.specs.History.{StartsWith, after, own, is_legal}
use Rattle.con_book.specs.Lock.{Status, fresh, live, closed, HasTicket, tickets, Stands, staged, knowing, spent, Fits, Apart, SomeDue, Moves, Follows, Orderly, total}
use Rattle.con_book.specs.Plays.{Sat, Draws, Looks, Serves}
use Rattle.con_book.specs.Held.{MayPut}
use Rattle.con_book.specs.declared.view.Joined.{Joined}
use Rattle.con_book.specs.declared.kept.Kept.{Kept}
use Rattle.con_book.specs.declared.history.Logged.{Logged}
use Rattle.con_book.specs.declared.view.PassView.{PassView}
use Rattle.con_book.specs.declared.view.Stage.{Stage}
use Rattle.con_book.specs.declared.view.Stage.TheVariants.{Idle, Waiting, Due}
use Rattle.con_book.proofs.Views.{at_below, total_set, total_le, stays, apart_set, due_set}

-- a ticket that is out is one of those drawn and not yet served
held_below : (served drawn t : ℕ) (W : Type 0) (st : Stage) → served ≤ drawn → Stands served drawn W st → HasTicket t st → (served ≤ t) × (t < drawn)
held_below served drawn t W Idle le k h = absurd h
held_below served drawn t W (Waiting u) le k h = let a : served ≤ u = k.0 in let b : u < drawn = k.1 in let e : u ≡ t = h in (omega arith, omega arith)
held_below served drawn t W (Due u) le k h = let a : u ≡ served = k.0 in let b : u < drawn = k.1 in let e : u ≡ t = h in (omega arith, omega arith)

more_drawn : (served drawn : ℕ) (W : Type 0) (st : Stage) → Stands served drawn W st → Stands served (drawn + 1) W st
more_drawn served drawn W Idle k = tt
more_drawn served drawn W (Waiting u) k = let b : u < drawn = k.1 in (k.0, omega arith)
more_drawn served drawn W (Due u) k = let b : u < drawn = k.1 in (k.0, omega arith, k.2)

-- the stage of another seat, once the seat that was due is served
one_served : (served drawn : ℕ) (W W' : Type 0) (st : Stage) → (HasTicket served st → ⊥) → Stands served drawn W st → Stands (served + 1) drawn W' st
one_served served drawn W W' Idle other k = tt
one_served served drawn W W' (Waiting u) other k = let a : served ≤ u = k.0 in let b : u < drawn = k.1 in let n : u ≢ served = other in (omega arith, omega arith)
one_served served drawn W W' (Due u) other k = absurd (other k.0)

one_ticket : (st : Stage) → tickets st ≤ 1
one_ticket Idle = omega arith
one_ticket (Waiting u) = omega arith
one_ticket (Due u) = omega arith

abbrev held_of : {A : Type 0} → A → List (ℕ × Option A) → A
held_of d [] = d
held_of d (c ∷ cs) = unwrap_or c.1 d

pub not_due : (st : Stage) (t : ℕ) → tickets st ≡ 0 → st ≡ Due t → ⊥
not_due st t idle e = let p : tickets st ≡ 1 = ap tickets e in omega arith

module _ {M S E : Type 0} (state : M → S) (moves : Moves S E) (start : S) where
  abbrev pub V : Type 0
  V = PassView S E

  abbrev pub Rule : State (Option (Kept M E)) V → Type 0
  Rule = Orderly state moves start

  abbrev pub Known : ℕ → ℕ → List (Logged E) → (ℕ → Status) → ℕ → V → Type 0
  Known served drawn log status j v = (v ≡ spent moves.blank) ⊎ Fits start served drawn log status j v

  abbrev pub out_tickets : V → ℕ
  out_tickets v = tickets v.stage

  -- a live seat is not spent
  pub alive : (served drawn : ℕ) (log : List (Logged E)) (status : ℕ → Status) (j : ℕ) (v : V) → v.live ≡ true → Known served drawn log status j v → Fits start served drawn log status j v
  alive served drawn log status j v is_live k = ⊎_elim (λ e. let z : v.live ≡ false = ap (λ (x : V). x.live) e in cc) (λ f. f) k

  -- a spent seat stands anywhere
  pub stands_of : (served drawn : ℕ) (log : List (Logged E)) (status : ℕ → Status) (j : ℕ) (v : V) → Known served drawn log status j v → Stands served drawn (v.seen ≡ log) v.stage
  stands_of served drawn log status j v k = ⊎_elim (λ e. subst (λ (x : V). Stands served drawn (x.seen ≡ log) x.stage) (sym e) tt) (λ f. f.stands) k

  pub in_order : (s : State (Option (Kept M E)) V) (r : Rule s) → r.served ≤ r.drawn
  in_order s r = let c : r.served + total out_tickets s.views ≡ r.drawn = r.counted in omega arith

  -- no more tickets are out than there are parts
  few : (s : State (Option (Kept M E)) V) (r : Rule s) → r.drawn ≤ r.served + 4294967296
  few s r = let c : r.served + total out_tickets s.views ≡ r.drawn = r.counted in
      let p = r.parts in
      let l = total_le out_tickets (λ v. v.parts) s.views
      (λ j v e. ⊎_elim (λ q. let z : tickets v.stage ≡ 0 = ap (λ (x : V). tickets x.stage) q in omega arith) (λ k. let h = k.some_part in let o = one_ticket v.stage in omega arith) (r.each j v e)) in
      omega arith

  pub draws : (slots id : ℕ) (m : Sat M S E) → m.0.live ≡ true → tickets m.0.stage ≡ 0 → Allows Rule slots id m 1 (λ n. (n + 1) % 2 ^ 64) (Draws (step slots 1 1 0 none) m)
  draws slots id m is_live idle s r wide at small =
      let w : V = staged m.0 (Waiting r.drawn) in
      let x : ℕ = (get_or s.words 1 0 + 1) % 2 ^ 64 in
      let long = r.wide in
      let fit = alive r.served r.drawn r.log r.status id m.0 is_live (r.each id m.0 at) in
      let le = in_order s r in (
        w,
        keeps,
        tt,
        record {
          served = r.served;
          drawn = r.drawn + 1;
          log = r.log;
          status = r.status;
          busy = r.busy;
          wide = length-set s.words 1 x ∙ r.wide;
          drawn_word = get_or-set_same s.words 1 x 0 (omega arith) ∙ (ap (λ (n : ℕ). (n + 1) % 2 ^ 64) r.drawn_word ∙ mod-add-mod r.drawn (2 ^ 64) 1);
          served_word = get_or-set_other s.words 1 2 x 0 (λ e. omega arith) ∙ r.served_word;
          counted = let c : r.served + total out_tickets s.views ≡ r.drawn = r.counted in let t = total_set out_tickets s.views id m.0 w at in omega arith;
          parts = let c = r.parts in let t = total_set (λ (v : V). v.parts) s.views id m.0 w at in omega arith;
          each = stays (Known r.served (r.drawn + 1) r.log r.status) s.views id w
              (inr (record { starts = fit.starts; seen = fit.seen; had = fit.had; mine = fit.mine; mine_seen = fit.mine_seen; some_part = fit.some_part; counts = fit.counts; is_live = fit.is_live; opens_first = fit.opens_first; keeps = fit.keeps; stands = (le, omega arith) }))
              (λ j v other e. ⊎_elim inl
              (λ f. inr (record { starts = f.starts; seen = f.seen; had = f.had; mine = f.mine; mine_seen = f.mine_seen; some_part = f.some_part; counts = f.counts; is_live = f.is_live; opens_first = f.opens_first; keeps = f.keeps; stands = more_drawn r.served r.drawn (v.seen ≡ r.log) v.stage f.stands }))
              (r.each j v e));
          apart = apart_set s.views id w r.apart
              (λ j v t other e h h'. let b = held_below r.served r.drawn t (v.seen ≡ r.log) v.stage le (stands_of r.served r.drawn r.log r.status j v (r.each j v e)) h in let e' : r.drawn ≡ t = h' in omega arith);
          strangers = r.strangers;
          out = λ b. due_set s.views id m.0 w at (λ t. not_due m.0.stage t idle) (r.out b);
          home = r.home;
        },
        (r.drawn, refl, sym r.drawn_word),
      )

  -- who waits for the turn that is served next finds the slot at home
  at_home : (s : State (Option (Kept M E)) V) (r : Rule s) (id t : ℕ) (v : V) → get_elem? s.views id ≡ some v → v.stage ≡ Waiting t → t ≡ r.served → (b : Bool) → r.busy ≡ b
      → (x : Kept M E) × (get_elem? s.homes 0 ≡ some (some (Some x))) × Follows state moves start r.log x
  at_home s r id t v at waits here false is = r.home is
  at_home s r id t v at waits here true is =
      let d = r.out is in
      let k : Stands r.served r.drawn (d.1.seen ≡ r.log) (Due d.2) = subst (λ (z : Stage). Stands r.served r.drawn (d.1.seen ≡ r.log) z) d.4 (stands_of r.served r.drawn r.log r.status d.0 d.1 (r.each d.0 d.1 d.3)) in
      let same : d.0 ≡ id = r.apart d.0 id d.1 v t d.3 at (subst (HasTicket t) (sym d.4) (k.0 ∙ sym here)) (subst (HasTicket t) (sym waits) refl) in
      let one : d.1 ≡ v = some-injective d.1 v (sym d.3 ∙ subst (λ (n : ℕ). get_elem? s.views n ≡ some v) (sym same) at) in
      let e : Due d.2 ≡ Waiting t = sym d.4 ∙ (ap (λ (z : V). z.stage) one ∙ waits) in
      cc

  pub looks : (slots id : ℕ) (v : V) (t : ℕ) → v.live ≡ true → Allows Rule slots id (staged v (Waiting t), []) 2 (λ n. n) (Looks state moves (step slots 2 0 0 none) (staged v (Waiting t), []))
  looks slots id v t is_live s r wide at small =
      let v' : V = staged v (Waiting t) in
      let x : ℕ = get_or s.words 2 0 in
      let long = r.wide in
      let known = r.each id v' at in
      let fit = alive r.served r.drawn r.log r.status id v' is_live known in
      let place = fit.stands in
      let le = in_order s r in
      let drawn_word = get_or-set_other s.words 2 1 x 0 (λ e. omega arith) ∙ r.drawn_word in
      let served_word = get_or-set_same s.words 2 x 0 (omega arith) ∙ r.served_word in
      let K : ℕ → V → Type 0 = Known r.served r.drawn r.log r.status in
      dite (ℕ_discrete x (t % 2 ^ 64))
      (λ hit.
      let f = few s r in
      let low : r.served ≤ t = place.0 in
      let high : t < r.drawn = place.1 in
      let here : r.served ≡ t = one_turn r.served t (2 ^ 64) low (omega arith) (sym r.served_word ∙ hit) in
      let h = at_home s r id t v' at refl (sym here) r.busy refl in
      let log : List (Logged E) = h.0.log.items in
      let w : V = knowing v log v.mine (Due t) in
      let logged : log ≡ r.log = h.2.0 in
      let start_is : v.start ≡ start = fit.starts in (
        w,
        takes 0 (Some h.0),
        h.1,
        record {
          served = r.served;
          drawn = r.drawn;
          log = r.log;
          status = r.status;
          busy = true;
          wide = length-set s.words 2 x ∙ r.wide;
          drawn_word = drawn_word;
          served_word = served_word;
          counted = let c : r.served + total out_tickets s.views ≡ r.drawn = r.counted in let n = total_set out_tickets s.views id v' w at in omega arith;
          parts = let c = r.parts in let n = total_set (λ (z : V). z.parts) s.views id v' w at in omega arith;
          each = stays K s.views id w
              (inr (record {
                starts = fit.starts;
                seen = ([], sym logged ∙ sym (append-nil log));
                had = fit.had;
                mine = fit.mine;
                mine_seen = ap (own v.actor) logged ∙ fit.mine;
                some_part = fit.some_part;
                counts = fit.counts;
                is_live = fit.is_live;
                opens_first = fit.opens_first;
                keeps = fit.keeps;
                stands = (sym here, high, logged);
              }))
              (λ j z other e. r.each j z e);
          apart = apart_set s.views id w r.apart (λ j z n other e h h'. other (r.apart j id z v' n e at h h'));
          strangers = r.strangers;
          out = λ b. (id, w, t, set_here s.views id w (at_below s.views id v' at), refl);
          home = λ b. cc;
        },
        (
          (λ e. (
            h.0,
            refl,
            (
              (refl, h.2.1 ∙ (λ i. after moves.next (sym start_is i) (sym logged i)), (λ i. is_legal moves.next moves.is_ready (start_is i) (logged i)) ∙ h.2.2),
              subst (λ (l : List (Logged E)). StartsWith l v.seen) (sym logged) fit.seen,
              ap (own v.actor) logged ∙ fit.mine,
              fit.mine_seen,
            ),
          )),
          (λ e. absurd (e hit)),
        ),
      ))
      (λ miss. let same = sym (set_again s.views id v' at) in (
        v',
        keeps,
        tt,
        record {
          served = r.served;
          drawn = r.drawn;
          log = r.log;
          status = r.status;
          busy = r.busy;
          wide = length-set s.words 2 x ∙ r.wide;
          drawn_word = drawn_word;
          served_word = served_word;
          counted = subst (λ (l : List V). r.served + total out_tickets l ≡ r.drawn) same r.counted;
          parts = subst (λ (l : List V). total (λ (z : V). z.parts) l ≡ 4294967296) same r.parts;
          each = stays K s.views id v' known (λ j z other e. r.each j z e);
          apart = subst Apart same r.apart;
          strangers = r.strangers;
          out = λ b. subst SomeDue same (r.out b);
          home = r.home;
        },
        ((λ e. absurd (miss e)), (λ e. refl)),
      ))

  pub longer_seen : (log more xs : List (Logged E)) (x : List (Logged E)) → x ≡ log ++ more → StartsWith log xs → StartsWith x xs
  longer_seen log more xs x is p = (p.0 ++ more, is ∙ (ap (λ (l : List (Logged E)). l ++ more) p.1 ∙ append_assoc xs p.0 more))

  pub serves : (slots id : ℕ) (v : V) (t : ℕ) (x : Kept M E) → v.live ≡ true → slots ≡ 1 → MayPut state moves v x
      → Allows Rule slots id (staged v (Due t), (0, Some x) ∷ []) 2 (λ n. (n + 1) % 2 ^ 64) (Serves (step slots 2 1 0 none) (staged v (Due t), (0, Some x) ∷ []))
  serves slots id v t x is_live one may s r wide at small =
      let v' : V = staged v (Due t) in
      let n : ℕ = (get_or s.words 2 0 + 1) % 2 ^ 64 in
      let log : List (Logged E) = x.log.items in
      let w : V = knowing v log (own v.actor log) Idle in
      let long = r.wide in
      let fit = alive r.served r.drawn r.log r.status id v' is_live (r.each id v' at) in
      let place = fit.stands in
      let here : t ≡ r.served = place.0 in
      let seen_is : v.seen ≡ r.log = place.2 in
      let start_is : v.start ≡ start = fit.starts in
      let grown : log ≡ r.log ++ may.0.0 = may.0.1 ∙ ap (λ (l : List (Logged E)). l ++ may.0.0) seen_is in
      let others : (a : ℕ) → a ≢ v.actor → own a log ≡ own a r.log = λ a ne. may.1 a ne ∙ ap (own a) seen_is in
      let keeps : (k : Joined E) → (r.status k.actor ≡ closed) × (own k.actor r.log ≡ k.mine) × StartsWith r.log k.seen → (r.status k.actor ≡ closed) × (own k.actor log ≡ k.mine) × StartsWith log k.seen =
      λ k q. (q.0, others k.actor (λ e. let p : closed ≡ live id = sym q.0 ∙ (ap r.status e ∙ fit.is_live) in cc) ∙ q.1, longer_seen r.log may.0.0 k.seen log grown q.2) in (
        w,
        gives,
        tt,
        record {
          served = r.served + 1;
          drawn = r.drawn;
          log = log;
          status = r.status;
          busy = false;
          wide = length-set s.words 2 n ∙ r.wide;
          drawn_word = get_or-set_other s.words 2 1 n 0 (λ e. omega arith) ∙ r.drawn_word;
          served_word = get_or-set_same s.words 2 n 0 (omega arith) ∙ (ap (λ (k : ℕ). (k + 1) % 2 ^ 64) r.served_word ∙ mod-add-mod r.served (2 ^ 64) 1);
          counted = let c : r.served + total out_tickets s.views ≡ r.drawn = r.counted in let k = total_set out_tickets s.views id v' w at in omega arith;
          parts = let c = r.parts in let k = total_set (λ (z : V). z.parts) s.views id v' w at in omega arith;
          each = stays (Known (r.served + 1) r.drawn log r.status) s.views id w
              (inr (record {
                starts = fit.starts;
                seen = ([], sym (append-nil log));
                had = longer_seen r.log may.0.0 v.had log grown fit.had;
                mine = refl;
                mine_seen = refl;
                some_part = fit.some_part;
                counts = fit.counts;
                is_live = fit.is_live;
                opens_first = fit.opens_first;
                keeps = λ k q. keeps k (fit.keeps k q);
                stands = tt;
              }))
              (λ j z other e. ⊎_elim inl
              (λ f. inr (record {
                starts = f.starts;
                seen = longer_seen r.log may.0.0 z.seen log grown f.seen;
                had = longer_seen r.log may.0.0 z.had log grown f.had;
                mine = others z.actor (λ q. let p : live j ≡ live id = sym f.is_live ∙ (ap r.status q ∙ fit.is_live) in other cc) ∙ f.mine;
                mine_seen = f.mine_seen;
                some_part = f.some_part;
                counts = f.counts;
                is_live = f.is_live;
                opens_first = f.opens_first;
                keeps = λ k q. keeps k (f.keeps k q);
                stands = one_served r.served r.drawn (z.seen ≡ r.log) (z.seen ≡ log) z.stage (λ h. other (r.apart j id z v' r.served e at h here)) f.stands;
              }))
              (r.each j z e));
          apart = apart_set s.views id w r.apart (λ j z k other e h h'. h');
          strangers = λ a q. others a (λ e. let p : fresh ≡ live id = sym q ∙ (ap r.status e ∙ fit.is_live) in cc) ∙ r.strangers a q;
          out = λ b. cc;
          home = λ b. (x, set_here s.homes 0 (some (Some x)) (omega arith), (refl, may.2.1 ∙ ap (λ (z : S). after moves.next z log) start_is, ap (λ (z : S). is_legal moves.next moves.is_ready z log) (sym start_is) ∙ may.2.2));
        },
        (refl, λ y e. let q : x ≡ y = ap (held_of x) e in ap (λ (z : Kept M E). knowing v z.log.items (own v.actor z.log.items) Idle) q),
      )
