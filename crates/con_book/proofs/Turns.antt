-- What a seat may put back, and what a pass then knows.
use Rattle.std.proofs.Common.{◌≡◌, ◌≢◌, ℕ, eqb, cond, Bool, true, false, ◌&&◌, List, [], ◌∷◌, ◌++◌, sym, refl, ap, ◌∙◌, subst, append-nil, eq-eqb, ne_eqb}
use Rattle.std.proofs.lemmas.List.{append_cancel_left}
use Rattle.con_book.specs.History.{after, own, entry, is_legal}
use Rattle.con_book.specs.Laws.{own-append, after-append}
use Rattle.con_book.specs.Lock.{Moves, knowing}
use Rattle.con_book.specs.Plays.{Sat}
use Rattle.con_book.specs.Held.{Entered, MayPut}
use Rattle.con_book.specs.Turn.{SeesOthers, IsSame, Enters}
use Rattle.con_book.specs.declared.kept.Kept.{Kept}
use Rattle.con_book.specs.declared.history.Logged.{Logged}
use Rattle.con_book.specs.declared.view.PassView.{PassView}
use Rattle.con_book.specs.declared.view.Stage.TheVariants.{Idle, Due}

left_true : (a b : Bool) → (a && b) ≡ true → a ≡ true
left_true true b h = refl
left_true false b h = cc

right_true : (a b : Bool) → (a && b) ≡ true → b ≡ true
right_true true b h = h
right_true false b h = cc

both_true : (a b : Bool) → a ≡ true → b ≡ true → (a && b) ≡ true
both_true true b p q = q
both_true false b p q = p

module _ {E : Type 0} where
  pub own_here : (a : ℕ) (e : E) → own a (entry a e ∷ []) ≡ e ∷ []
  own_here a e = ap (λ b. cond b (e ∷ []) []) (eq-eqb a a refl)

  pub own_else : (a b : ℕ) (e : E) → a ≢ b → own a (entry b e ∷ []) ≡ []
  own_else a b e ne = ap (λ c. cond c (e ∷ []) []) (ne_eqb b a (λ q. ne (sym q)))

  -- what comes after all that was seen has none of one's own
  pub no_more : (a : ℕ) (mine : List E) (log seen rest : List (Logged E)) → log ≡ seen ++ rest → own a log ≡ mine → own a seen ≡ mine → own a rest ≡ []
  no_more a mine log seen rest is all some =
      append_cancel_left (own a seen) (own a rest) [] (sym (own-append a seen rest) ∙ (ap (own a) (sym is) ∙ (all ∙ (sym some ∙ sym (append-nil (own a seen))))))

module _ {S E : Type 0} (next : S → ℕ → E → S) (is_ready : S → ℕ → E → Bool) where
  -- one more event that is ready keeps a history legal
  pub legal-push : (s : S) (xs : List (Logged E)) (b : ℕ) (e : E) → is_legal next is_ready s xs ≡ true → is_ready (after next s xs) b e ≡ true → is_legal next is_ready s (xs ++ entry b e ∷ []) ≡ true
  legal-push s [] b e all one = ap (λ (c : Bool). c && true) one
  legal-push s (x ∷ xs) b e all one = both_true (is_ready s x.actor x.event) (is_legal next is_ready (next s x.actor x.event) (xs ++ entry b e ∷ [])) (left_true (is_ready s x.actor x.event) (is_legal next is_ready (next s x.actor x.event) xs) all)
      (legal-push (next s x.actor x.event) xs b e (right_true (is_ready s x.actor x.event) (is_legal next is_ready (next s x.actor x.event) xs) all) one)

module _ {M S E : Type 0} (state : M → S) (moves : Moves S E) (v : PassView S E) (x : Kept M E) (m : Sat M S E) (entered : Entered state moves v x m) where
  abbrev log : List (Logged E)
  log = x.log.items

  abbrev next : S → ℕ → E → S
  next = moves.next

  pub at : m.0 ≡ knowing v log v.mine (Due entered.0.0)
  at = ap (λ (z : Sat M S E). z.0) entered.0.1

  pub start_is : m.0.start ≡ v.start
  start_is = ap (λ (z : PassView S E). z.start) at

  pub actor_is : m.0.actor ≡ v.actor
  actor_is = ap (λ (z : PassView S E). z.actor) at

  seen_is : m.0.seen ≡ log
  seen_is = ap (λ (z : PassView S E). z.seen) at

  -- the machine may be put back as it was, as far as contracts see
  pub puts_same : (y : Kept M E) → y.log.items ≡ log → state y.machine ≡ state x.machine → MayPut state moves m.0 y
  puts_same y is same = (
    ([], is ∙ (sym seen_is ∙ sym (append-nil m.0.seen))),
    (λ a ne. ap (own a) (is ∙ sym seen_is)),
    (refl, same ∙ (entered.1.0.1 ∙ (λ i. after next (sym start_is i) (sym is i))), (λ i. is_legal next moves.is_ready (start_is i) (is i)) ∙ entered.1.0.2),
  )

  -- it may be put back after an event that was ready
  pub puts_next : (y : Kept M E) (b : ℕ) (e : E) (p : S) → b ≡ v.actor → y.log.items ≡ log ++ entry b e ∷ [] → p ≡ state x.machine → moves.is_ready p b e ≡ true → state y.machine ≡ next p b e → MayPut state moves m.0 y
  puts_next y b e p same is before ready now = (
    (entry b e ∷ [], is ∙ ap (λ l. l ++ entry b e ∷ []) (sym seen_is)),
    (λ a ne. ap (own a) is ∙ (own-append a log (entry b e ∷ []) ∙ (ap (λ l. own a log ++ l) (own_else a b e (λ q. ne (q ∙ (same ∙ sym actor_is)))) ∙ (append-nil (own a log) ∙ ap (own a) (sym seen_is))))),
    (
      refl,
      now ∙ (ap (λ s. next s b e) (before ∙ entered.1.0.1) ∙ (sym (after-append next v.start log (entry b e ∷ [])) ∙ (λ i. after next (sym start_is i) (sym is i)))),
      (λ i. is_legal next moves.is_ready (start_is i) (is i)) ∙ legal-push next moves.is_ready v.start log b e entered.1.0.2 (ap (λ s. moves.is_ready s b e) (sym (before ∙ entered.1.0.1)) ∙ ready),
    ),
  )

  abbrev pub Left : PassView S E → List (Logged E) → Type 0
  Left w ks = w ≡ knowing m.0 ks (own m.0.actor ks) Idle

  pub same : (w : PassView S E) (ks : List (Logged E)) → Left w ks → IsSame v w
  same w ks left = (
    ap (λ (z : PassView S E). z.start) left ∙ start_is,
    ap (λ (z : PassView S E). z.actor) left ∙ actor_is,
    ap (λ (z : PassView S E). z.opens) left ∙ ap (λ (z : PassView S E). z.opens) at,
    ap (λ (z : PassView S E). z.made) left ∙ ap (λ (z : PassView S E). z.made) at,
    ap (λ (z : PassView S E). z.kept) left ∙ ap (λ (z : PassView S E). z.kept) at,
    ap (λ (z : PassView S E). z.live) left ∙ ap (λ (z : PassView S E). z.live) at,
  )

  -- nothing was entered
  pub looks : (w : PassView S E) (ks : List (Logged E)) → ks ≡ log → Left w ks → SeesOthers v w
  looks w ks is left =
      let rest : List (Logged E) = entered.1.1.0 in (
        rest,
        no_more v.actor v.mine log v.seen rest entered.1.1.1 entered.1.2 entered.1.3,
        ap (λ (z : PassView S E). z.seen) left ∙ (is ∙ entered.1.1.1),
        ap (λ (z : PassView S E). z.mine) left ∙ ((λ i. own (actor_is i) (is i)) ∙ entered.1.2),
      )

  pub blocked : (w : PassView S E) (e : E) (b : ℕ) (r : Bool) → b ≡ v.actor → r ≡ moves.is_ready (state x.machine) b e → r ≡ false → Left w log → moves.is_ready (after next w.start w.seen) w.actor e ≡ false
  blocked w e b r same tells refused left =
      let s : w.start ≡ v.start = ap (λ (z : PassView S E). z.start) left ∙ start_is in
      let l : w.seen ≡ log = ap (λ (z : PassView S E). z.seen) left in
      let a : w.actor ≡ b = ap (λ (z : PassView S E). z.actor) left ∙ (actor_is ∙ sym same) in
      (λ i. moves.is_ready (after next (s i) (l i)) (a i) e) ∙ (ap (λ (z : S). moves.is_ready z b e) (sym entered.1.0.1) ∙ (sym tells ∙ refused))

  pub answers : (w : PassView S E) (e : E) (b : ℕ) (r : Bool) → b ≡ v.actor → r ≡ moves.is_ready (state x.machine) b e → Left w log → r ≡ moves.is_ready (after next w.start w.seen) w.actor e
  answers w e b r same tells left =
      let s : w.start ≡ v.start = ap (λ (z : PassView S E). z.start) left ∙ start_is in
      let l : w.seen ≡ log = ap (λ (z : PassView S E). z.seen) left in
      let a : w.actor ≡ b = ap (λ (z : PassView S E). z.actor) left ∙ (actor_is ∙ sym same) in
      tells ∙ (ap (λ (z : S). moves.is_ready z b e) entered.1.0.1 ∙ (λ i. moves.is_ready (after next (sym s i) (sym l i)) (sym a i) e))

  pub enters : {R A : Type 0} (answer : R → A) (answer_to : S → ℕ → E → A) (tells : R → S → ℕ → E → Type 0) (w : PassView S E) (ks : List (Logged E)) (b : ℕ) (e : E) (p : S) (reply : R) → b ≡ v.actor
      → ks ≡ log ++ entry b e ∷ [] → p ≡ state x.machine → moves.is_ready p b e ≡ true → answer reply ≡ answer_to p b e → tells reply p b e → Left w ks → Enters next moves.is_ready answer answer_to tells v e reply w
  enters answer answer_to tells w ks b e p reply same is before ready answered told left =
      let rest : List (Logged E) = entered.1.1.0 in
      let whole : ks ≡ (v.seen ++ rest) ++ entry v.actor e ∷ [] = is ∙ (λ i. entered.1.1.1 i ++ entry (same i) e ∷ []) in
      let mine : w.mine ≡ own v.actor ks = ap (λ (z : PassView S E). z.mine) left ∙ ap (λ a. own a ks) actor_is in
      let here : p ≡ after next v.start (v.seen ++ rest) = before ∙ (entered.1.0.1 ∙ ap (after next v.start) entered.1.1.1) in
      record {
        between = rest;
        others = no_more v.actor v.mine log v.seen rest entered.1.1.1 entered.1.2 entered.1.3;
        seen = ap (λ (z : PassView S E). z.seen) left ∙ whole;
        mine = mine ∙ (ap (own v.actor) is ∙ (own-append v.actor log (entry b e ∷ []) ∙ (λ i. entered.1.2 i ++ own v.actor (entry (same i) e ∷ [])) ∙ ap (λ l. v.mine ++ l) (own_here v.actor e)));
        all_mine = ap (λ (z : PassView S E). own v.actor z.seen) left ∙ sym mine;
        was_ready = (λ i. moves.is_ready (sym here i) (sym same i) e) ∙ ready;
        reply_is = answered ∙ (λ i. answer_to (here i) (same i) e);
        told = subst (λ (z : S × ℕ). tells reply z.0 z.1 e) (λ i. (here i, same i)) told;
      }
