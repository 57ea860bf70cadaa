-- What a closed book says of all threads.
use Rattle.std.proofs.Common.{◌≡◌, ℕ, ◌+◌, ◌<◌, ◌≤◌, zero, suc, eqb, cond, Bool, true, false, ◌||◌, ◌&&◌, List, [], ◌∷◌, ◌++◌, length, map, Option, Some, None, sym, refl, ap, ◌∙◌, subst, append-nil, append_assoc, inl, inr, ⊎_elim, ◌⊎◌, arith, eq-eqb, length-append}
use Rattle.std.specs.Prelude.{slice_get, nat_lt, if◌then◌else◌}
use Rattle.std.proofs.lemmas.Bool.Decides.{nat_tests}
use Rattle.std.proofs.lemmas.List.{append_cancel_left}
use Rattle.std.proofs.lemmas.Option.{slice_get_cases, slice_get_within}
use Rattle.con_events.specs.declared.actor.Actor.{Actor}
use Rattle.con_events.specs.declared.actor.Actor.TheVariants as actors
use Rattle.con_events.specs.declared.entry.Entry.{Entry}
use Rattle.con_events.specs.declared.event.Event.{Event}
use Rattle.con_machine.specs.Follows.{are_of_session, is_one_of}
use Rattle.con_events.specs.declared.reply.Reply.{Reply}
use Rattle.con_machine.specs.History.{run, replies_of}
use Rattle.con_machine.specs.Numbered as numbers
use Rattle.con_machine.specs.State.{State}
use Rattle.con_machine.specs.Step.{is_ready}
use Rattle.con_actors.specs.Desk.{listed}
use Rattle.con_actors.specs.Words.Desk.{entry}
use Rattle.con_book.specs.History.{StartsWith, own, In, is_among}
use Rattle.con_book.specs.History as book
use Rattle.con_book.specs.Laws.{own-append}
use Rattle.con_book.specs.Lock.{joined}
use Rattle.con_book.specs.Passes.{BookId, view_of}
use Rattle.con_book.specs.Turn.{Ends, has_pass}
use Rattle.con_book.specs.declared.machine.Machine.{Ghosts}
use Rattle.con_book.specs.declared.pass.Pass.{Pass}
use Rattle.con_book.specs.declared.history.Logged.{Logged}
use Rattle.con_book.specs.declared.view.Joined.{Joined}
use Rattle.con_book.specs.declared.view.PassView.{PassView}
use Rattle.con_run.specs.Crews.{down_from}
use Rattle.con_threads.specs.Ledger.{IsLogOf, logged_entries, logged_front, next_page, page_ready}
use Rattle.con_threads.specs.LedgerLaws.{logged_entries-append, history_legal, others_entered}
use Rattle.con_threads.specs.Scribe.{SeesMore}
use Rattle.con_run.specs.Taking.{HasTaken, IsGathered, IsHistory, IsOf, MayClose, kept_all}
use Rattle.con_threads.specs.declared.ledger.LedgerView.{LedgerView}

module _ {E : Type 0} where
  nil_right : (xs ys : List E) → xs ++ ys ≡ [] → ys ≡ []
  nil_right [] ys h = h
  nil_right (x ∷ xs) ys h = cc

  -- behind all that was seen there is nothing of an actor whose events were all seen
  pub no_rest : (a : ℕ) (log seen rest : List (Logged E)) (mine : List E) → log ≡ seen ++ rest → own a log ≡ mine → own a seen ≡ mine → own a rest ≡ []
  no_rest a log seen rest mine is all some =
      append_cancel_left (own a seen) (own a rest) []
      (sym (own-append a seen rest) ∙ (ap (own a) (sym is) ∙ (all ∙ (sym some ∙ sym (append-nil (own a seen))))))

  no_rest_after : (a : ℕ) (log seen part rest : List (Logged E)) (mine : List E) → log ≡ seen ++ rest → StartsWith seen part → own a log ≡ mine
      → own a part ≡ mine → own a rest ≡ []
  no_rest_after a log seen part rest mine is more all some =
      nil_right (own a more.0) (own a rest)
      (sym (own-append a more.0 rest) ∙ no_rest a log part (more.0 ++ rest) mine (is ∙ (ap (λ l. l ++ rest) more.1 ∙ append_assoc part more.0 rest)) all some)

  none_at_all : (xs : List (Logged E)) → ((a : ℕ) → own a xs ≡ []) → xs ≡ []
  none_at_all [] h = refl
  none_at_all (x ∷ xs) h =
      let e : cond (eqb x.actor x.actor) (x.event ∷ own x.actor xs) (own x.actor xs) ≡ x.event ∷ own x.actor xs =
      ap (λ b. cond b (x.event ∷ own x.actor xs) (own x.actor xs)) (eq-eqb x.actor x.actor refl) in
      let k : x.event ∷ own x.actor xs ≡ [] = sym e ∙ h x.actor in cc

-- what a scribe sees more of, by its pass
pub sees_raw : (n : ℕ) (a : Actor) (s : State) (seen log : List (Logged Event)) (mine : List Event) → numbers.actor_of n ≡ Some a → StartsWith log seen
    → own n log ≡ mine → own n seen ≡ mine → SeesMore s a (logged_entries s seen) (logged_entries s log)
sees_raw n a s seen log mine is more all some =
    let none = no_rest n log seen more.0 mine more.1 all some in
    let t = run s (logged_entries s seen) in
    record {
      between = logged_entries t more.0;
      others = others_entered n a t more.0 is none;
      legal = history_legal t more.0;
      entries' = ap (logged_entries s) more.1 ∙ logged_entries-append s seen more.0;
    }

in_later : (k : Joined Event) (ws : List (PassView LedgerView Event)) (ks : List (Joined Event)) → In k ks → In k (kept_all ws ks)
in_later k [] ks h = h
in_later k (w ∷ ws) ks h = in_later k ws (joined w ∷ ks) (inr h)

in_crew : (ws : List (PassView LedgerView Event)) (ks : List (Joined Event)) (k : ℕ) (w : PassView LedgerView Event) → slice_get ws k ≡ Some w → In (joined w) (kept_all ws ks)
in_crew [] ks k w h = cc
in_crew (d ∷ ds) ks zero w h = let same : w ≡ d = cc in in_later (joined w) ds (joined d ∷ ks) (inl (ap (λ (z : PassView LedgerView Event). joined z) same))
in_crew (d ∷ ds) ks (suc k) w h = in_crew ds (joined d ∷ ks) k w h

-- who is among n, .. 1
counted_by : (a n : ℕ) (b : Bool) → eqb a (suc n) ≡ b → (cond b true (is_among a (down_from n))) ≡ true
    → (is_among a (down_from n) ≡ true → (j : ℕ) × (j < n) × (a ≡ j + 1)) → (j : ℕ) × (j < suc n) × (a ≡ j + 1)
counted_by a n true is h rest = (n, omega arith, (let e : a ≡ suc n = grind (arith, nat_tests) in omega arith))
counted_by a n false is h rest = let r = rest h in let lt : r.0 < n = r.1 in (r.0, omega arith, r.2)

or_cond : (x y : Bool) → (x || y) ≡ true → cond x true y ≡ true
or_cond true y h = refl
or_cond false y h = h

counted : (a n : ℕ) → is_among a (down_from n) ≡ true → (j : ℕ) × (j < n) × (a ≡ j + 1)
counted a zero h = cc
counted a (suc n) h = counted_by a n (eqb a (suc n)) refl (or_cond (eqb a (suc n)) (is_among a (down_from n)) h) (counted a n)

or_cases : (a b : Bool) → (a || b) ≡ true → (a ≡ true) ⊎ (b ≡ true)
or_cases true b h = inl refl
or_cases false b h = inr h

test_is : (a n : ℕ) → eqb a n ≡ true → a ≡ n
test_is a n h = grind (arith, nat_tests)

pub kept_length : (ws : List (PassView LedgerView Event)) (ks : List (Joined Event)) → length (kept_all ws ks) ≡ length ws + length ks
kept_length [] ks = omega arith
kept_length (w ∷ ws) ks = let e = kept_length ws (joined w ∷ ks) in omega (arith, e)

pub down_length : (n : ℕ) → length (down_from n) ≡ n
down_length zero = refl
down_length (suc n) = let e = down_length n in omega (arith, e)

client_number : (j : ℕ) → j < 64 → numbers.actor_of (j + 1) ≡ Some (actors.Client (j + 1))
client_number j lt =
    let a : (nat_lt 0 (j + 1) && nat_lt (j + 1) 256) ≡ true = grind (arith, nat_tests) in
    rw a refl

-- ---- whose the entries are

both_true : (a b : Bool) → a ≡ true → b ≡ true → (a && b) ≡ true
both_true true b p q = q
both_true false b p q = p

client_one : (n p : ℕ) → 0 < p → p ≤ n → is_one_of n (actors.Client p) ≡ true
client_one n p l m = grind (arith, nat_tests)

-- each number that has an entry is an actor of the session
abbrev AreOurs : ℕ → List (Logged Event) → Type 0
AreOurs n log = (x : Logged Event) → In x log → (a : Actor) → numbers.actor_of x.actor ≡ Some a → is_one_of n a ≡ true

front_by : (n : ℕ) (a : Actor) (e : Event) (rest : List Entry) (b : Bool) → is_one_of n a ≡ true → are_of_session n rest ≡ true
    → are_of_session n ((if b then entry a e ∷ [] else []) ++ rest) ≡ true
front_by n a e rest true one k = both_true (is_one_of n a) (are_of_session n rest) one k
front_by n a e rest false one k = k

front_ours : (n : ℕ) (s : State) (o : Option Actor) (e : Event) → ((a : Actor) → o ≡ Some a → is_one_of n a ≡ true) → (rest : List Entry)
    → are_of_session n rest ≡ true → are_of_session n (logged_front s o e ++ rest) ≡ true
front_ours n s None e f rest k = k
front_ours n s (Some a) e f rest k = front_by n a e rest (is_ready s a e) (f a refl) k

all_ours : (n : ℕ) (s : State) (log : List (Logged Event)) → AreOurs n log → are_of_session n (logged_entries s log) ≡ true
all_ours n s [] f = refl
all_ours n s (x ∷ xs) f =
    let front = logged_front s (numbers.actor_of x.actor) x.event in
    front_ours n s (numbers.actor_of x.actor) x.event (f x (inl refl)) (logged_entries (run s front) xs) (all_ours n (run s front) xs (λ y i. f y (inr i)))

own_later : (a : ℕ) (y : Logged Event) (ys : List (Logged Event)) (b : Bool) → (own a ys ≡ [] → ⊥) → cond b (y.event ∷ own a ys) (own a ys) ≡ [] → ⊥
own_later a y ys true some h = cc
own_later a y ys false some h = some h

own_first : (x y : Logged Event) (ys : List (Logged Event)) → x ≡ y → own x.actor (y ∷ ys) ≡ [] → ⊥
own_first x y ys e h =
    let i : cond (eqb y.actor y.actor) (y.event ∷ own y.actor ys) (own y.actor ys) ≡ y.event ∷ own y.actor ys =
    ap (λ b. cond b (y.event ∷ own y.actor ys) (own y.actor ys)) (eq-eqb y.actor y.actor refl) in
    let k : y.event ∷ own y.actor ys ≡ [] = sym i ∙ (ap (λ (z : Logged Event). own z.actor (y ∷ ys)) (sym e) ∙ h) in cc

own_in : (x : Logged Event) (xs : List (Logged Event)) → In x xs → own x.actor xs ≡ [] → ⊥
own_in x [] i h = i
own_in x (y ∷ ys) i h = ⊎_elim (λ e. own_first x y ys e h) (λ t. own_later x.actor y ys (eqb y.actor x.actor) (own_in x ys t) h) i

some_is : (a b : Actor) (o : Option Actor) → o ≡ Some a → o ≡ Some b → b ≡ a
some_is a b o p q = let e : Some b ≡ Some a = sym q ∙ p in cc

module _ {M R A Room : Type 0} {g : Ghosts M LedgerView Event R A Room} (state : M → LedgerView) (id : BookId) (n : ℕ) (opening new last : Pass M LedgerView Event R A Room g)
    (side : PassView LedgerView Event) (clients : List (PassView LedgerView Event))
    (h : IsGathered id (view_of opening).start n opening last side clients) (taken : HasTaken (joined (view_of last) ∷ (view_of last).kept ++ (view_of opening).kept) opening new)
    (log : List (Logged Event)) (machine : M) (ends : Ends state next_page page_ready (view_of new) log machine) where
  abbrev start : LedgerView
  start = (view_of opening).start

  abbrev pv : PassView LedgerView Event
  pv = view_of last

  kept_is : (view_of new).kept ≡ joined pv ∷ pv.kept
  kept_is =
      taken.kept_is
      ∙
      (ap (λ (l : List (Joined Event)). joined pv ∷ pv.kept ++ l) h.opening'.none_kept ∙ ap (λ (l : List (Joined Event)). joined pv ∷ l) (append-nil pv.kept))

  own_log : (k : Joined Event) → In k (joined pv ∷ pv.kept) → own k.actor log ≡ k.mine
  own_log k i = ends.joined_mine k (subst (λ (l : List (Joined Event)). In k l) (sym kept_is) i)

  seen_log : (k : Joined Event) → In k (joined pv ∷ pv.kept) → StartsWith log k.seen
  seen_log k i = ends.joined_seen k (subst (λ (l : List (Joined Event)). In k l) (sym kept_is) i)

  in_side : In (joined side) pv.kept
  in_side = subst (λ (l : List (Joined Event)). In (joined side) l) (sym h.kept) (inl refl)

  in_client : (k : ℕ) (w : PassView LedgerView Event) → slice_get clients k ≡ Some w → In (joined w) pv.kept
  in_client k w is = subst (λ (l : List (Joined Event)). In (joined w) l) (sym h.kept) (inr (in_crew clients [] k w is))

  client_there : (k : ℕ) → k < n → (w : PassView LedgerView Event) × (slice_get clients k ≡ Some w)
  client_there k lt = ⊎_elim (λ e. (e.0, e.2)) (λ e. let le : length clients ≤ k = e.0 in let m = h.len in absurd (omega arith)) (slice_get_cases clients k).1

  seen_is : StartsWith log pv.seen
  seen_is = seen_log (joined pv) (inl refl)

  -- the painter has seen all
  of_none : (a : ℕ) → own a log ≡ [] → own a seen_is.0 ≡ []
  of_none a none = nil_right (own a pv.seen) (own a seen_is.0) (sym (own-append a pv.seen seen_is.0) ∙ (ap (own a) (sym seen_is.1) ∙ none))

  of_kept : (k : Joined Event) → In k pv.kept → own k.actor k.seen ≡ k.mine → own k.actor seen_is.0 ≡ []
  of_kept k i some = no_rest_after k.actor log pv.seen k.seen seen_is.0 k.mine seen_is.1 (h.covers k i) (own_log k (inr i)) some

  of_client : (a j : ℕ) → j < n → a ≡ j + 1 → own a seen_is.0 ≡ []
  of_client a j lt is =
      let f = client_there j lt in
      let b = h.clients' j f.0 f.1 in
      ap (λ (m : ℕ). own m seen_is.0) (is ∙ sym b.actor) ∙ of_kept (joined f.0) (in_client j f.0 f.1) b.own_mine

  of_made : (a : ℕ) → is_among a (1001 ∷ 1000 ∷ down_from n) ≡ true → own a seen_is.0 ≡ []
  of_made a m = ⊎_elim
      (λ e. ap (λ (z : ℕ). own z seen_is.0) (test_is a 1001 e ∙ sym h.painter.actor) ∙ no_rest pv.actor log pv.seen seen_is.0 pv.mine seen_is.1 (own_log (joined pv) (inl refl)) h.painter.own_mine)
      (λ t. ⊎_elim
      (λ e. ap (λ (z : ℕ). own z seen_is.0) (test_is a 1000 e ∙ sym h.side'.actor) ∙ of_kept (joined side) in_side h.side'.own_mine)
      (λ u. let r = counted a n u in of_client a r.0 r.1 r.2)
      (or_cases (eqb a 1000) (is_among a (down_from n)) t))
      (or_cases (eqb a 1001) (is_among a (1000 ∷ down_from n)) m)

  made_is : (view_of new).made ≡ 1001 ∷ 1000 ∷ down_from n
  made_is = taken.made ∙ h.opening'.made'

  of_first : own 0 log ≡ []
  of_first = ap (λ (z : ℕ). own z log) (sym (taken.actor ∙ h.opening'.actor)) ∙ (ends.mine ∙ (taken.mine ∙ h.opening'.mine))

  of_any : (a : ℕ) (b : Bool) → has_pass a (view_of new) ≡ b → own a seen_is.0 ≡ []
  of_any a false is = of_none a (ends.no_others a is)
  of_any a true is = ⊎_elim
      (λ e. of_none a (ap (λ (z : ℕ). own z log) (test_is a 0 e) ∙ of_first))
      (λ m. of_made a (ap (is_among a) (sym made_is) ∙ m))
      (or_cases (eqb a 0) (is_among a (view_of new).made) is)

  pub all_seen : log ≡ pv.seen
  all_seen =
      seen_is.1 ∙ (ap (λ (l : List (Logged Event)). pv.seen ++ l) (none_at_all seen_is.0 (λ a. of_any a (has_pass a (view_of new)) refl)) ∙ append-nil pv.seen)

  -- whose the entries are
  ours_made : (a : ℕ) (b : Actor) → numbers.actor_of a ≡ Some b → is_among a (1001 ∷ 1000 ∷ down_from n) ≡ true → is_one_of n b ≡ true
  ours_made a b is m = ⊎_elim
      (λ e. ap (is_one_of n) (some_is actors.Painter b (numbers.actor_of a) (ap numbers.actor_of (test_is a 1001 e)) is))
      (λ t. ⊎_elim
      (λ e. ap (is_one_of n) (some_is actors.Terminal b (numbers.actor_of a) (ap numbers.actor_of (test_is a 1000 e)) is))
      (λ u. let r = counted a n u in
      let lt : r.0 < n = r.1 in
      let few = h.few in
      ap (is_one_of n) (some_is (actors.Client (r.0 + 1)) b (numbers.actor_of a) (ap numbers.actor_of r.2 ∙ client_number r.0 (omega arith)) is)
      ∙ client_one n (r.0 + 1) (omega arith) (omega arith))
      (or_cases (eqb a 1000) (is_among a (down_from n)) t))
      (or_cases (eqb a 1001) (is_among a (1000 ∷ down_from n)) m)

  ours_by : (x : Logged Event) → In x log → (b : Actor) → numbers.actor_of x.actor ≡ Some b → (c : Bool) → has_pass x.actor (view_of new) ≡ c
      → is_one_of n b ≡ true
  ours_by x i b is false e = absurd (own_in x log i (ends.no_others x.actor e))
  ours_by x i b is true e = ⊎_elim
      (λ z. absurd (own_in x log i (ap (λ (m : ℕ). own m log) (test_is x.actor 0 z) ∙ of_first)))
      (λ m. ours_made x.actor b is (ap (is_among x.actor) (sym made_is) ∙ m))
      (or_cases (eqb x.actor 0) (is_among x.actor (view_of new).made) e)

  numbered : are_of_session n (logged_entries start.state log) ≡ true
  numbered = all_ours n start.state log (λ x i b is. ours_by x i b is (has_pass x.actor (view_of new)) refl)

  sees : (m : ℕ) (a : Actor) (w : PassView LedgerView Event) → In (joined w) pv.kept → IsOf start m w → numbers.actor_of m ≡ Some a
      → SeesMore start.state a (logged_entries start.state w.seen) (logged_entries start.state log)
  sees m a w i k is =
      sees_raw m a start.state w.seen log w.mine is (seen_log (joined w) (inr i)) (ap (λ (z : ℕ). own z log) (sym k.actor) ∙ own_log (joined w) (inr i))
      (ap (λ (z : ℕ). own z w.seen) (sym k.actor) ∙ k.own_mine)

  -- all that is said of it
  pub history : (es : List Entry) (rs : List Reply) → es ≡ logged_entries start.state log → rs ≡ map listed (replies_of start.state (logged_entries start.state log))
      → IsHistory start n pv side clients es rs
  history es rs e r =
      let P : List Entry → Type 0 = λ z. IsHistory start n pv side clients z rs in
      subst P (sym e) (record {
        whole = ap (logged_entries start.state) all_seen;
        legal = history_legal start.state log;
        replies = r;
        numbered = numbered;
        side' = sees 1000 actors.Terminal side in_side h.side' refl;
        clients' =
            λ k w is. let lt : k < length clients =
            slice_get_within clients k w is in let m =
            h.len in let few = h.few in sees (k + 1) (actors.Client (k + 1)) w (in_client k w is) (h.clients' k w is) (client_number k (omega arith));
      })

-- as many passes were taken in as were given
pub may_close : {M R A Room : Type 0} {g : Ghosts M LedgerView Event R A Room} (id : BookId) (opening new last : Pass M LedgerView Event R A Room g)
    → MayClose id opening last → HasTaken (joined (view_of last) ∷ (view_of last).kept ++ (view_of opening).kept) opening new
    → length (view_of new).kept ≡ length (view_of new).made
may_close id opening new last h taken =
    let ks = (view_of last).kept in
    let ls = (view_of opening).kept in
    let a : length (view_of new).kept ≡ suc (length (ks ++ ls)) = ap length taken.kept_is in
    let b : length (ks ++ ls) ≡ length ks + length ls = length-append ks ls in
    let m : length (view_of new).made ≡ length (view_of opening).made = ap length taken.made in
    let n = h.count in
    omega (arith, a, b, m, n)

-- the log of the ledger that a closed book leaves
pub log_is : {M R A Room : Type 0} {g : Ghosts M LedgerView Event R A Room} (state : M → LedgerView) (ks : List (Joined Event))
    (opening new : Pass M LedgerView Event R A Room g) (log : List (Logged Event)) (machine : M)
    → HasTaken ks opening new → (view_of opening).start.replies ≡ []
    → Ends state next_page page_ready (view_of new) log machine → IsLogOf (view_of opening).start log (state machine)
log_is state ks opening new log machine taken none ends = record {
  none_before = none;
  page' = ends.machine_is ∙ ap (λ (s : LedgerView). book.after next_page s log) taken.start;
  legal = ap (λ (s : LedgerView). book.is_legal next_page page_ready s log) (sym taken.start) ∙ ends.legal;
}
