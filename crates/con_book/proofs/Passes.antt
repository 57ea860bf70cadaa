-- A new pass, and a pass that is joined into another one, keep the rule of a book's table.
use Rattle.std.proofs.Common.{◌≡◌, ◌≢◌, ℕ, suc, ◌+◌, ◌-◌, ◌<◌, ◌≤◌, Bool, true, false, cond, eqb, ltb, List, [], ◌∷◌, ◌++◌, length, get_or, set, sym, refl, ap, ◌∙◌, subst, ⊎_elim, ◌⊎◌, inl, inr, arith, length-set, length-append, append_assoc, append-nil, Option, MatchBool, eq-eqb, ne_eqb, lt_of_not-le}
use Rattle.std.proofs.lemmas.List.{append_cancel_left}
use Rattle.std.proofs.lemmas.Bool.{le-ltb, lt-ltb}
use mathlib.Core.Logic.{dite}
use mathlib.Core.Option.{some, none}
use native.Mathlib.Decide.{ℕ_discrete, dec_le}
use lib.ListN.{get_elem?}
use lib.Seq.{set-get_or}
use Rattle.atomic_table.specs.Table.{State, step, keeps, stepped, Allows, Splits, Joins}
use Rattle.atomic_table.proofs.Lists.{set_else, set_again, at_longer}
use Rattle.con_book.specs.History.{StartsWith, own, In}
use Rattle.con_book.specs.Lock.{Status, fresh, live, closed, HasTicket, tickets, Stands, longer, spent, gave, newcomer, joined, both, Moves, total}
use Rattle.con_book.specs.Plays.{Sat, Minds}
use Rattle.con_book.specs.Turn.{IsLonger}
use Rattle.con_book.specs.declared.kept.Kept.{Kept}
use Rattle.con_book.specs.declared.history.Logged.{Logged}
use Rattle.con_book.specs.declared.view.Joined.{Joined}
use Rattle.con_book.specs.declared.view.PassView.{PassView}
use Rattle.con_book.specs.declared.view.Stage.{Stage}
use Rattle.con_book.specs.declared.view.Stage.TheVariants.{Idle, Waiting, Due}
use Rattle.con_book.proofs.Views.{total_set, total_append, at_end, stays, apart_set, apart_end, due_set, due_stays}
use Rattle.con_book.proofs.Steps.{alive, Known, Rule, not_due}
use Rattle.con_book.specs.Laws.{own-append}
use Rattle.con_book.proofs.Pigeons.{pigeons}

pub empty : {A : Type 0} (xs : List A) → length xs ≡ 0 → xs ≡ []
empty [] e = refl
empty (x ∷ xs) e = absurd (omega arith)

nil_left : {A : Type 0} (xs ys : List A) → xs ++ ys ≡ [] → xs ≡ []
nil_left [] ys e = refl
nil_left (x ∷ xs) ys e = cc

-- of two beginnings of one list the shorter begins the longer
begins : {A : Type 0} (xs ys r q : List A) → xs ++ r ≡ ys ++ q → length xs ≤ length ys → StartsWith ys xs
begins [] ys r q e le = (ys, refl)
begins (x ∷ xs) [] r q e le = absurd (omega arith)
begins (x ∷ xs) (y ∷ ys) r q e le =
    let h : x ≡ y = cc in
    let t : xs ++ r ≡ ys ++ q = cc in
    let p = begins xs ys r q t (omega arith) in
    (p.0, λ i. sym h i ∷ p.1 i)

longer_elim : {A : Type 0} (P : List A → Type 0) (xs ys : List A) → (length ys ≤ length xs → P xs) → (length xs ≤ length ys → P ys) → P (longer xs ys)
longer_elim P xs ys first second =
    let b : Bool = ltb (length xs) (length ys) in
    dite (dec_le (length ys) (length xs))
    (λ le. subst (λ (c : Bool). P (cond c ys xs)) (sym (le-ltb (length xs) (length ys) le)) (first le))
    (λ gt. subst (λ (c : Bool). P (cond c ys xs)) (sym (lt-ltb (length xs) (length ys) (lt_of_not-le gt))) (second (omega arith)))

no_ticket : (st : Stage) (t : ℕ) → tickets st ≡ 0 → HasTicket t st → ⊥
no_ticket Idle t e h = h
no_ticket (Waiting u) t e h = omega arith
no_ticket (Due u) t e h = omega arith

idle_stands : (served drawn : ℕ) (W : Type 0) (st : Stage) → tickets st ≡ 0 → Stands served drawn W st
idle_stands served drawn W Idle e = tt
idle_stands served drawn W (Waiting u) e = absurd (omega arith)
idle_stands served drawn W (Due u) e = absurd (omega arith)

pub match_true : (b : Bool) (P Q : Type 0) → b ≡ true → MatchBool b P Q → P
match_true true P Q e h = h
match_true false P Q e h = cc

true_match : (b : Bool) (P Q : Type 0) → b ≡ true → P → MatchBool b P Q
true_match true P Q e h = h
true_match false P Q e h = cc

match_false : (b : Bool) (P Q : Type 0) → b ≡ false → MatchBool b P Q → Q
match_false true P Q e h = cc
match_false false P Q e h = h

both_count : (b : Bool) (p q made kept more all : ℕ) → all ≡ 1 + (more + kept) → MatchBool b (p + made ≡ 4294967296 + kept) (p ≡ 1 + kept) → q ≡ 1 + more → MatchBool b ((p + q) + made ≡ 4294967296 + all) (p + q ≡ 1 + all)
both_count true p q made kept more all n h e = omega arith
both_count false p q made kept more all n h e = omega arith

in_append : {A : Type 0} (x : A) (xs ys : List A) → In x (xs ++ ys) → In x xs ⊎ In x ys
in_append x [] ys h = inr h
in_append x (y ∷ xs) ys h = ⊎_elim (λ e. inl (inl e)) (λ k. ⊎_elim (λ t. inl (inr t)) (λ t. inr t) (in_append x xs ys k)) h

-- the status of one actor changes
abbrev changed : (ℕ → Status) → ℕ → Status → ℕ → Status
changed status a new b = cond (eqb b a) new (status b)

changed_here : (status : ℕ → Status) (a : ℕ) (new : Status) → changed status a new a ≡ new
changed_here status a new = ap (λ c. cond c new (status a)) (eq-eqb a a refl)

changed_else : (status : ℕ → Status) (a : ℕ) (new : Status) (b : ℕ) → b ≢ a → changed status a new b ≡ status b
changed_else status a new b ne = ap (λ c. cond c new (status b)) (ne_eqb b a ne)

module _ {M S E : Type 0} (state : M → S) (moves : Moves S E) (start : S) where
  pub splits : (id : ℕ) (v : PassView S E) (a : ℕ) → v.opens ≡ true → v.live ≡ true → a < 4294967296 → ¬ In a (0 ∷ v.made) → Splits (Rule {M = M} state moves start) id v (gave a v) (newcomer a v)
  splits id v a opens is_live small new s r at =
      let n : ℕ = length s.views in
      let left : PassView S E = gave a v in
      let right : PassView S E = newcomer a v in
      let views : List (PassView S E) = set s.views id left in
      let status : ℕ → Status = changed r.status a (live n) in
      let fit = alive state moves start r.served r.drawn r.log r.status id v is_live (r.each id v at) in
      let first = fit.opens_first opens in
      let count = match_true v.opens (v.parts + length v.made ≡ 4294967296 + length v.kept) (v.parts ≡ 1 + length v.kept) opens fit.counts in
      let room = pigeons 4294967296 (a ∷ 0 ∷ v.made) (new, first.2) (λ c h. ⊎_elim (λ q. omega arith) (λ q. first.3 c q) h) in
      let room' : suc (suc (length v.made)) ≤ 4294967296 = room in
      let some_parts : 1 < v.parts = omega arith in
      let was : r.status a ≡ fresh = first.1 a new in
      let none_yet : own a r.log ≡ [] = r.strangers a was in
      let else : (b : ℕ) → b ≢ a → status b ≡ r.status b = changed_else r.status a (live n) in
      let long : length views ≡ n = length-set s.views id left in
      let old_live : (b j : ℕ) → r.status b ≡ live j → status b ≡ live j = λ b j e. else b (λ q. let p : fresh ≡ live j = sym was ∙ (ap r.status (sym q) ∙ e) in cc) ∙ e in
      let old_closed : (b : ℕ) → r.status b ≡ closed → status b ≡ closed = λ b e. else b (λ q. let p : fresh ≡ closed = sym was ∙ (ap r.status (sym q) ∙ e) in cc) ∙ e in
      let K : ℕ → PassView S E → Type 0 = Known state moves start r.served r.drawn r.log status in
      let olds = stays K s.views id left
      (inr (record {
        starts = fit.starts;
        seen = fit.seen;
        had = fit.had;
        mine = fit.mine;
        mine_seen = fit.mine_seen;
        some_part = omega arith;
        counts = true_match v.opens ((v.parts - 1) + length (a ∷ v.made) ≡ 4294967296 + length v.kept) (v.parts - 1 ≡ 1 + length v.kept) opens (omega arith);
        is_live = old_live v.actor id fit.is_live;
        opens_first = λ b. (
          first.0,
          (λ c other. else c (λ q. other (inr (inl q))) ∙ first.1 c (λ h. other (⊎_elim (λ z. inl z) (λ z. inr (inr z)) h))),
          ((λ h. ⊎_elim (λ q. new (inl (sym q))) (λ q. first.2.0 q) h), ((λ h. new (inr h)), first.2.1)),
          (λ c h. ⊎_elim (λ q. first.3 c (inl q)) (λ t. ⊎_elim (λ q. omega arith) (λ q. first.3 c (inr q)) t) h),
        );
        keeps = λ k h. let q = fit.keeps k h in (old_closed k.actor q.0, q.1, q.2);
        stands = fit.stands;
      }))
      (λ j z other e. ⊎_elim inl
      (λ f. inr (record {
        starts = f.starts;
        seen = f.seen;
        had = f.had;
        mine = f.mine;
        mine_seen = f.mine_seen;
        some_part = f.some_part;
        counts = f.counts;
        is_live = old_live z.actor j f.is_live;
        opens_first = λ b. absurd (other ((f.opens_first b).0 ∙ sym first.0));
        keeps = λ k h. let q = f.keeps k h in (old_closed k.actor q.0, q.1, q.2);
        stands = f.stands;
      }))
      (r.each j z e)) in
      let here : K n right = inr (record {
        starts = fit.starts;
        seen = fit.seen;
        had = (r.log, refl);
        mine = none_yet;
        mine_seen = nil_left (own a v.seen) (own a fit.seen.0) (sym (own-append a v.seen fit.seen.0) ∙ (ap (own a) (sym fit.seen.1) ∙ none_yet));
        some_part = omega arith;
        counts = refl;
        is_live = changed_here r.status a (live n);
        opens_first = λ b. cc;
        keeps = λ k h. absurd h;
        stands = tt;
      }) in
      record {
        served = r.served;
        drawn = r.drawn;
        log = r.log;
        status = status;
        busy = r.busy;
        wide = r.wide;
        drawn_word = r.drawn_word;
        served_word = r.served_word;
        counted = let c : r.served + total (λ (z : PassView S E). tickets z.stage) s.views ≡ r.drawn = r.counted in
            let k = total_set (λ (z : PassView S E). tickets z.stage) s.views id v left at in let t = total_append (λ (z : PassView S E). tickets z.stage) views (right ∷ []) in omega arith;
        parts = let c = r.parts in let k = total_set (λ (z : PassView S E). z.parts) s.views id v left at in let t = total_append (λ (z : PassView S E). z.parts) views (right ∷ []) in omega arith;
        each = λ j w e. ⊎_elim (λ p. olds j w p) (λ p. subst (λ (z : ℕ × PassView S E). K z.0 z.1) (λ i. (sym (p.0 ∙ long) i, p.1 i)) here) (at_end views right j w e);
        apart = apart_end views right (apart_set s.views id left r.apart (λ j z t other e h h'. other (r.apart j id z v t e at h h'))) (λ t h. h);
        strangers = λ b e. dite (ℕ_discrete b a) (λ q. let p : live n ≡ fresh = sym (changed_here r.status a (live n)) ∙ (ap status (sym q) ∙ e) in cc) (λ ne. r.strangers b (sym (else b ne) ∙ e));
        out = λ b. let d = due_stays s.views id v left at refl (r.out b) in (d.0, d.1, d.2, at_longer views (right ∷ []) d.0 d.1 d.3, d.4);
        home = r.home;
      }

  pub splits_at : (id : ℕ) (v : PassView S E) (a b : ℕ) → a ≡ b → v.opens ≡ true → v.live ≡ true → a < 4294967296 → ¬ In a (0 ∷ v.made) → Splits (Rule {M = M} state moves start) id v (gave b v) (newcomer b v)
  splits_at id v a b same opens is_live small new = subst (λ (c : ℕ). Splits (Rule {M = M} state moves start) id v (gave c v) (newcomer c v)) same (splits id v a opens is_live small new)

  -- a step that leaves its word and its view as they were leaves the table as it was
  unmoved : (s : State (Option (Kept M E)) (PassView S E)) (i id : ℕ) (c : List (ℕ × Option (Kept M E))) (v : PassView S E) → get_elem? s.views id ≡ some v → stepped s i (get_or s.words i 0) id c v keeps ≡ s
  unmoved s i id c v at = λ j. record { words = set-get_or s.words i 0 j; homes = s.homes; views = set_again s.views id v at j }

  pub minds : (slots id : ℕ) (m : Sat M S E) → m.0.live ≡ true → Allows (Rule {M = M} state moves start) slots id m 0 (λ n. n) (Minds (step slots 0 0 0 none) m)
  minds slots id m is_live s r wide at small =
      let fit = alive state moves start r.served r.drawn r.log r.status id m.0 is_live (r.each id m.0 at) in
      (m.0, keeps, tt, subst (Rule {M = M} state moves start) (sym (unmoved s 0 id m.1 m.0 at)) r, (refl, (r.log, fit.seen, fit.had, λ k h. (fit.keeps k h).2), fit.mine_seen))

  -- what is in between two histories with the same events of one actor has these events too
  between : (a : ℕ) (mine : List E) (log xs ys : List (Logged E)) → StartsWith log xs → StartsWith log ys → length xs ≤ length ys → own a log ≡ mine → own a xs ≡ mine → own a ys ≡ mine
  between a mine log xs ys p q le whole part =
      let more : StartsWith ys xs = begins xs ys p.0 q.0 (sym p.1 ∙ q.1) le in
      let split : own a ys ≡ mine ++ own a more.0 = ap (own a) more.1 ∙ (own-append a xs more.0 ∙ ap (λ l. l ++ own a more.0) part) in
      let all : mine ++ (own a more.0 ++ own a q.0) ≡ mine ++ [] =
      sym (append_assoc mine (own a more.0) (own a q.0)) ∙ (ap (λ l. l ++ own a q.0) (sym split) ∙ (sym (own-append a ys q.0) ∙ (ap (own a) (sym q.1) ∙ (whole ∙ sym (append-nil mine))))) in
      split ∙ (ap (λ l. mine ++ l) (nil_left (own a more.0) (own a q.0) (append_cancel_left mine (own a more.0 ++ own a q.0) [] all)) ∙ append-nil mine)

  pub joins : (id : ℕ) (v : PassView S E) (other : ℕ) (w : PassView S E) → v.live ≡ true → w.live ≡ true → tickets v.stage ≡ 0 → tickets w.stage ≡ 0 → w.opens ≡ false
      → Joins (Rule {M = M} state moves start) id v other w (both v w) (spent moves.blank)
  joins id v other w is_live is_live' idle idle' plain s r at apart there' =
      let gone : PassView S E = spent moves.blank in
      let left : PassView S E = both v w in
      let views : List (PassView S E) = set s.views id left in
      let there : get_elem? s.views other ≡ some w = sym (set_else s.views id other left apart) ∙ there' in
      let status : ℕ → Status = changed r.status w.actor closed in
      let fit = alive state moves start r.served r.drawn r.log r.status id v is_live (r.each id v at) in
      let fit' = alive state moves start r.served r.drawn r.log r.status other w is_live' (r.each other w there) in
      let else : (b : ℕ) → b ≢ w.actor → status b ≡ r.status b = changed_else r.status w.actor closed in
      let old_live : (b j : ℕ) → j ≢ other → r.status b ≡ live j → status b ≡ live j =
      λ b j ne e. else b (λ q. let p : live j ≡ live other = sym e ∙ (ap r.status q ∙ fit'.is_live) in ne cc) ∙ e in
      let old_closed : (b : ℕ) → r.status b ≡ closed → status b ≡ closed = λ b e. else b (λ q. let p : closed ≡ live other = sym e ∙ (ap r.status q ∙ fit'.is_live) in cc) ∙ e in
      let old_fresh : (b : ℕ) → r.status b ≡ fresh → status b ≡ fresh = λ b e. else b (λ q. let p : fresh ≡ live other = sym e ∙ (ap r.status q ∙ fit'.is_live) in cc) ∙ e in
      let K : ℕ → PassView S E → Type 0 = Known state moves start r.served r.drawn r.log status in
      let keeps : (l : List (Joined E)) → ((k : Joined E) → In k l → (r.status k.actor ≡ closed) × (own k.actor r.log ≡ k.mine) × StartsWith r.log k.seen)
      → (k : Joined E) → In k l → (status k.actor ≡ closed) × (own k.actor r.log ≡ k.mine) × StartsWith r.log k.seen = λ l f k h. let q = f k h in (old_closed k.actor q.0, q.1, q.2) in
      let more : w.parts ≡ 1 + length w.kept = match_false w.opens (w.parts + length w.made ≡ 4294967296 + length w.kept) (w.parts ≡ 1 + length w.kept) plain fit'.counts in
      let here : K id left = inr (record {
        starts = fit.starts;
        seen = longer_elim (StartsWith r.log) v.seen w.seen (λ le. fit.seen) (λ le. fit'.seen);
        had = fit.seen;
        mine = fit.mine;
        mine_seen = longer_elim (λ l. own v.actor l ≡ v.mine) v.seen w.seen (λ le. fit.mine_seen) (λ le. between v.actor v.mine r.log v.seen w.seen fit.seen fit'.seen le fit.mine fit.mine_seen);
        some_part = let p = fit.some_part in omega arith;
        counts = both_count v.opens v.parts w.parts (length v.made) (length v.kept) (length w.kept) (length (joined w ∷ w.kept ++ v.kept)) (omega (arith, length-append w.kept v.kept)) fit.counts more;
        is_live = old_live v.actor id (λ e. apart (sym e)) fit.is_live;
        opens_first = λ b. let f = fit.opens_first b in (f.0, (λ c h. old_fresh c (f.1 c h)), f.2, f.3);
        keeps = λ k h. ⊎_elim
            (λ e. subst (λ (z : Joined E). (status z.actor ≡ closed) × (own z.actor r.log ≡ z.mine) × StartsWith r.log z.seen) (sym e) (changed_here r.status w.actor closed, fit'.mine, fit'.seen))
            (λ t. ⊎_elim (λ p. keeps w.kept fit'.keeps k p) (λ p. keeps v.kept fit.keeps k p) (in_append k w.kept v.kept t))
            h;
        stands = idle_stands r.served r.drawn (longer v.seen w.seen ≡ r.log) v.stage idle;
      }) in
      let total_of : (f : PassView S E → ℕ) → (total f (set views other gone) + f w) + f v ≡ (total f s.views + f left) + f gone =
      λ f. let a = total_set f s.views id v left at in let b = total_set f views other w gone there' in omega arith in
      record {
        served = r.served;
        drawn = r.drawn;
        log = r.log;
        status = status;
        busy = r.busy;
        wide = r.wide;
        drawn_word = r.drawn_word;
        served_word = r.served_word;
        counted = let c : r.served + total (λ (z : PassView S E). tickets z.stage) s.views ≡ r.drawn = r.counted in let k = total_of (λ (z : PassView S E). tickets z.stage) in omega arith;
        parts = let c = r.parts in let k = total_of (λ (z : PassView S E). z.parts) in omega arith;
        each = stays K views other gone (inl refl)
            (λ j z ne e. stays (λ j z. j ≢ other → K j z) s.views id left (λ _. here)
            (λ j z ne' e ne. ⊎_elim inl
            (λ f. inr (record {
              starts = f.starts;
              seen = f.seen;
              had = f.had;
              mine = f.mine;
              mine_seen = f.mine_seen;
              some_part = f.some_part;
              counts = f.counts;
              is_live = old_live z.actor j ne f.is_live;
              opens_first = λ b. let g = f.opens_first b in (g.0, (λ c h. old_fresh c (g.1 c h)), g.2, g.3);
              keeps = keeps z.kept f.keeps;
              stands = f.stands;
            }))
            (r.each j z e))
            j z e ne);
        apart = apart_set views other gone (apart_set s.views id left r.apart (λ j z t ne e h h'. no_ticket v.stage t idle h')) (λ j z t ne e h h'. h');
        strangers = λ b e. r.strangers b (sym (else b (λ q. let p : closed ≡ fresh = sym (changed_here r.status w.actor closed) ∙ (ap status (sym q) ∙ e) in cc)) ∙ e);
        out = λ b. due_set views other w gone there' (λ t. not_due w.stage t idle') (due_set s.views id v left at (λ t. not_due v.stage t idle) (r.out b));
        home = r.home;
      }

  pub longer_of : (v w : PassView S E) (log : List (Logged E)) → StartsWith log (longer v.seen w.seen) → StartsWith log v.seen → StartsWith log w.seen → IsLonger v w (both v w)
  longer_of v w log l p q = longer_elim (λ z. ((z ≡ v.seen) ⊎ (z ≡ w.seen)) × StartsWith z v.seen × StartsWith z w.seen) v.seen w.seen
      (λ le. (inl refl, ([], sym (append-nil v.seen)), begins w.seen v.seen q.0 p.0 (sym q.1 ∙ p.1) le))
      (λ le. (inr refl, begins v.seen w.seen p.0 q.0 (sym p.1 ∙ q.1) le, ([], sym (append-nil w.seen))))

  pub learned : (m n : Sat M S E) (v w : PassView S E) (c : List (ℕ × Option (Kept M E))) → m ≡ (both v w, c)
      → (n ≡ m) × ((log : List (Logged E)) × StartsWith log m.0.seen × StartsWith log m.0.had × ((k : Joined E) → In k m.0.kept → StartsWith log k.seen)) × (own m.0.actor m.0.seen ≡ m.0.mine) → IsLonger v w n.0
  learned m n v w c is tells =
      let k = subst (λ (z : Sat M S E). (n ≡ z) × ((log : List (Logged E)) × StartsWith log z.0.seen × StartsWith log z.0.had × ((k : Joined E) → In k z.0.kept → StartsWith log k.seen)) × (own z.0.actor z.0.seen ≡ z.0.mine)) is tells in
      subst (λ (z : Sat M S E). IsLonger v w z.0) (sym k.0) (longer_of v w k.1.0 k.1.1 k.1.2 (k.1.3 (joined w) (inl refl)))

  -- what a step that changes nothing tells of the own entries
  pub minded_mine : (m n : Sat M S E) → (n ≡ m) × ((log : List (Logged E)) × StartsWith log m.0.seen × StartsWith log m.0.had × ((k : Joined E) → In k m.0.kept → StartsWith log k.seen)) × (own m.0.actor m.0.seen ≡ m.0.mine) → own n.0.actor n.0.seen ≡ n.0.mine
  minded_mine m n tells = subst (λ (z : Sat M S E). own z.0.actor z.0.seen ≡ z.0.mine) (sym tells.0) tells.2
