-- Taking passes in, one after another.
use Rattle.std.proofs.Common.{◌≡◌, Bool, true, false, List, [], ◌∷◌, ◌++◌, sym, refl, ap, ◌∙◌, subst, All, map, inl, inr, ⊎_elim, ◌⊎◌}
use Rattle.std.proofs.lemmas.List.Elements.{All-cons, All-head, All-nil, All-tail}
use Rattle.con_book.specs.History.{StartsWith, In}
use Rattle.con_book.specs.Laws.{begins_itself, begins_further}
use Rattle.con_book.specs.Lock.{joined}
use Rattle.con_book.specs.Passes.{pass_id, view_of}
use Rattle.con_book.specs.Turn.{OwnIsMine, IsLonger}
use Rattle.con_book.specs.declared.machine.Machine.{Ghosts}
use Rattle.con_book.specs.declared.pass.Pass.{Pass}
use Rattle.con_book.specs.declared.view.Joined.{Joined}
use Rattle.con_book.specs.declared.view.PassView.{PassView}
use Rattle.con_run.specs.Taking.{HasTaken, Covers, kept_all}

module _ {M S E R A Room : Type 0} {g : Ghosts M S E R A Room} where
  pub taken_none : (p : Pass M S E R A Room g) → OwnIsMine (view_of p) → HasTaken (view_of p).kept p p
  taken_none p mine =
      record {
        book = refl;
        start = refl;
        actor = refl;
        opens = refl;
        made = refl;
        mine = refl;
        kept_is = refl;
        seen = begins_itself (view_of p).seen;
        own_mine = mine;
      }

  pub taken_on : (p q r : Pass M S E R A Room g) (ks ls : List (Joined E)) → HasTaken ks p q → HasTaken ls q r → HasTaken ls p r
  taken_on p q r ks ls a b = record {
    book = b.book ∙ a.book;
    start = b.start ∙ a.start;
    actor = b.actor ∙ a.actor;
    opens = b.opens ∙ a.opens;
    made = b.made ∙ a.made;
    mine = b.mine ∙ a.mine;
    kept_is = b.kept_is;
    seen = begins_further (view_of r).seen (view_of q).seen (view_of p).seen b.seen a.seen;
    own_mine = b.own_mine;
  }

  pub taken_is : (p q : Pass M S E R A Room g) (ks : List (Joined E)) → HasTaken ks p q → HasTaken (view_of q).kept p q
  taken_is p q ks h =
      record {
        book = h.book;
        start = h.start;
        actor = h.actor;
        opens = h.opens;
        made = h.made;
        mine = h.mine;
        kept_is = refl;
        seen = h.seen;
        own_mine = h.own_mine;
      }

  pub taken_as : (p q : Pass M S E R A Room g) (ks ls : List (Joined E)) → ks ≡ ls → HasTaken ks p q → HasTaken ls p q
  taken_as p q ks ls e h =
      record {
        book = h.book;
        start = h.start;
        actor = h.actor;
        opens = h.opens;
        made = h.made;
        mine = h.mine;
        kept_is = h.kept_is ∙ e;
        seen = h.seen;
        own_mine = h.own_mine;
      }

in_split : {A : Type 0} (k : A) (xs ys : List A) → In k (xs ++ ys) → In k xs ⊎ In k ys
in_split k [] ys h = inr h
in_split k (x ∷ xs) ys h = ⊎_elim (λ e. inl (inl e)) (λ t. ⊎_elim (λ p. inl (inr p)) inr (in_split k xs ys t)) h

module _ {S E : Type 0} where
  -- a pass that had taken in none
  pub kept_step : (w : PassView S E) (ks : List (Joined E)) → w.kept ≡ [] → joined w ∷ w.kept ++ ks ≡ joined w ∷ ks
  kept_step w ks none = ap (λ (l : List (Joined E)). joined w ∷ l ++ ks) none

  pub covers_none : (v : PassView S E) → v.kept ≡ [] → Covers v
  covers_none v none k h = absurd (subst (λ (l : List (Joined E)). In k l) none h)

  pub covers_both : (v w z : PassView S E) → Covers w → Covers v → z.kept ≡ joined w ∷ w.kept ++ v.kept → IsLonger v w z → Covers z
  covers_both v w z cw cv kept longer = λ k h.
      ⊎_elim
      (λ e. subst (λ (j : Joined E). StartsWith z.seen j.seen) (sym e) longer.2)
      (λ t. ⊎_elim (λ p. begins_further z.seen w.seen k.seen longer.2 (cw k p)) (λ p. begins_further z.seen v.seen k.seen longer.1 (cv k p)) (in_split k w.kept v.kept t))
      (subst (λ (l : List (Joined E)). In k l) kept h)

  -- it has seen more
  pub covers_more : (v w : PassView S E) → Covers v → w.kept ≡ v.kept → StartsWith w.seen v.seen → Covers w
  covers_more v w cv kept more = λ k h. begins_further w.seen v.seen k.seen more (cv k (subst (λ (l : List (Joined E)). In k l) kept h))

-- ---- of workers in a row, one after another

module _ {C M S E R A Room : Type 0} {g : Ghosts M S E R A Room} (pass : C → Pass M S E R A Room g) (gone broken : C → Bool) where
  -- the passes of all but the rest were taken in
  pub record Gathers (first into : Pass M S E R A Room g) (all : Bool) (rest items : List C) : Type 0 where
    pub taken : HasTaken (view_of into).kept first into
    pub covers : Covers (view_of first) → Covers (view_of into)
    pub kept : kept_all (map (λ c. view_of (pass c)) rest) (view_of into).kept ≡ kept_all (map (λ c. view_of (pass c)) items) (view_of first).kept
    pub books : All (λ c. pass_id (pass c) ≡ pass_id first) rest
    pub single : All (λ c. ((view_of (pass c)).opens ≡ false) × ((view_of (pass c)).kept ≡ [])) rest
    pub whole : all ≡ true → All (λ c. (gone c ≡ true) × (broken c ≡ false)) rest → All (λ c. (gone c ≡ true) × (broken c ≡ false)) items

  pub gather_first : (first : Pass M S E R A Room g) (rest items : List C) → OwnIsMine (view_of first) → All (λ c. pass_id (pass c) ≡ pass_id first) items
      → All (λ c. ((view_of (pass c)).opens ≡ false) × ((view_of (pass c)).kept ≡ [])) items
      → rest ≡ items → Gathers first first true rest items
  gather_first first rest items mine books single is = record {
    taken = taken_none first mine;
    covers = λ h. h;
    kept = ap (λ (l : List C). kept_all (map (λ c. view_of (pass c)) l) (view_of first).kept) is;
    books = subst (λ (l : List C). All (λ c. pass_id (pass c) ≡ pass_id first) l) (sym is) books;
    single = subst (λ (l : List C). All (λ c. ((view_of (pass c)).opens ≡ false) × ((view_of (pass c)).kept ≡ [])) l) (sym is) single;
    whole = λ e all. subst (λ (l : List C). All (λ c. (gone c ≡ true) × (broken c ≡ false)) l) is all;
  }

  -- the first of the rest
  pub gather_book : (first into : Pass M S E R A Room g) (all : Bool) (rest more items : List C) (x : C) → rest ≡ x ∷ more → Gathers first into all rest items
      → pass_id (pass x) ≡ pass_id first
  gather_book first into all rest more items x is h =
      All-head (λ c. pass_id (pass c) ≡ pass_id first) x more (subst (λ (l : List C). All (λ c. pass_id (pass c) ≡ pass_id first) l) is h.books)

  pub gather_single : (first into : Pass M S E R A Room g) (all : Bool) (rest more items : List C) (x : C) → rest ≡ x ∷ more → Gathers first into all rest items
      → ((view_of (pass x)).opens ≡ false) × ((view_of (pass x)).kept ≡ [])
  gather_single first into all rest more items x is h =
      All-head (λ c. ((view_of (pass c)).opens ≡ false) × ((view_of (pass c)).kept ≡ [])) x more
      (subst (λ (l : List C). All (λ c. ((view_of (pass c)).opens ≡ false) × ((view_of (pass c)).kept ≡ [])) l) is h.single)

  pub gather_next : (first into new : Pass M S E R A Room g) (all still : Bool) (rest more items : List C) (x : C) → rest ≡ x ∷ more
      → Gathers first into all rest items
      → HasTaken (joined (view_of (pass x)) ∷ (view_of (pass x)).kept ++ (view_of into).kept) into new
      → (Covers (view_of (pass x)) → Covers (view_of into) → Covers (view_of new))
      → (still ≡ true → (all ≡ true) × (gone x ≡ true) × (broken x ≡ false)) → Gathers first new still more items
  gather_next first into new all still rest more items x is h taken covers keeps =
      let single = gather_single first into all rest more items x is h in
      record {
        taken =
            taken_is first new (joined (view_of (pass x)) ∷ (view_of (pass x)).kept ++ (view_of into).kept)
            (taken_on first into new (view_of into).kept (joined (view_of (pass x)) ∷ (view_of (pass x)).kept ++ (view_of into).kept) h.taken taken);
        covers = λ k. covers (covers_none (view_of (pass x)) single.1) (h.covers k);
        kept =
            ap (λ (ks : List (Joined E)). kept_all (map (λ c. view_of (pass c)) more) ks)
            (taken.kept_is ∙ kept_step (view_of (pass x)) (view_of into).kept single.1)
            ∙ (sym (ap (λ (l : List C). kept_all (map (λ c. view_of (pass c)) l) (view_of into).kept) is) ∙ h.kept);
        books = All-tail (λ c. pass_id (pass c) ≡ pass_id first) x more (subst (λ (l : List C). All (λ c. pass_id (pass c) ≡ pass_id first) l) is h.books);
        single =
            All-tail (λ c. ((view_of (pass c)).opens ≡ false) × ((view_of (pass c)).kept ≡ [])) x more
            (subst (λ (l : List C). All (λ c. ((view_of (pass c)).opens ≡ false) × ((view_of (pass c)).kept ≡ [])) l) is h.single);
        whole =
            λ e rest'. let s =
            keeps e in h.whole s.0
            (subst (λ (l : List C). All (λ c. (gone c ≡ true) × (broken c ≡ false)) l) (sym is) (All-cons (λ c. (gone c ≡ true) × (broken c ≡ false)) x more (s.1, s.2) rest'));
      }

  -- none is left
  pub gather_taken : (first into : Pass M S E R A Room g) (all : Bool) (rest items : List C) → rest ≡ [] → Gathers first into all rest items
      → HasTaken (kept_all (map (λ c. view_of (pass c)) items) (view_of first).kept) first into
  gather_taken first into all rest items none h = taken_as first into (view_of into).kept (kept_all (map (λ c. view_of (pass c)) items) (view_of first).kept)
      (sym (ap (λ (l : List C). kept_all (map (λ c. view_of (pass c)) l) (view_of into).kept) none) ∙ h.kept) h.taken

  pub gather_gone : (first into : Pass M S E R A Room g) (all : Bool) (rest items : List C) → rest ≡ [] → Gathers first into all rest items → all ≡ true
      → All (λ c. (gone c ≡ true) × (broken c ≡ false)) items
  gather_gone first into all rest items none h e =
      h.whole e (subst (λ (l : List C). All (λ c. (gone c ≡ true) × (broken c ≡ false)) l) (sym none) (All-nil (λ c. (gone c ≡ true) × (broken c ≡ false))))

module _ {M S E R A Room : Type 0} {g : Ghosts M S E R A Room} where
  -- these, and one more
  pub all_taken : (into mid new : Pass M S E R A Room g) (ws : List (PassView S E)) (w : PassView S E) → HasTaken (kept_all ws (view_of into).kept) into mid
      → HasTaken (joined w ∷ w.kept ++ (view_of mid).kept) mid new
      → (view_of into).kept ≡ [] → w.kept ≡ [] → HasTaken (joined w ∷ kept_all ws []) into new
  all_taken into mid new ws w a b none one = taken_as into new (joined w ∷ w.kept ++ (view_of mid).kept) (joined w ∷ kept_all ws [])
      (kept_step w (view_of mid).kept one ∙ ap (λ (ks : List (Joined E)). joined w ∷ ks) (a.kept_is ∙ ap (λ (ks : List (Joined E)). kept_all ws ks) none))
      (taken_on into mid new (kept_all ws (view_of into).kept) (joined w ∷ w.kept ++ (view_of mid).kept) a b)
