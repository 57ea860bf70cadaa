-- Logs and their entries: one log behind another, what is ready, and whose entries they are.
use Rattle.std.proofs.Common.{◌≡◌, ℕ, Bool, true, false, ◌&&◌, List, [], ◌∷◌, ◌++◌, length, map, Option, Some, None, refl, sym, ap, ◌∙◌, append_assoc, append-nil, arith}
use Rattle.std.specs.Prelude.{not, ◌==◌, nat_lt, if◌then◌else◌}
use Rattle.std.specs.List.{list_all}
use Rattle.std.proofs.lemmas.Bool.{eq-eqb, eqb-true}
use Rattle.std.proofs.lemmas.List.{length-map, map-append}
use Rattle.std.proofs.lemmas.List.Folds.{list_all-append}
use Rattle.con_book.specs.History.{after, own}
use Rattle.con_book.specs.History as book
use Rattle.con_book.specs.declared.history.Logged.{Logged}
use Rattle.con_events.specs.declared.actor.Actor.{Actor}
use Rattle.con_events.specs.declared.actor.Actor.TheVariants as actors
use Rattle.con_events.specs.declared.entry.Entry.{Entry}
use Rattle.con_events.specs.declared.event.Event.{Event}
use Rattle.con_events.specs.declared.reply.Reply.{Reply}
use Rattle.con_machine.specs.History.{run, replies_of, is_legal}
use Rattle.con_machine.specs.HistoryLaws.{run-append, replies-append, legal-append}
use Rattle.con_machine.specs.Numbered.{actor_of, ready_of}
use Rattle.con_machine.specs.State.{State}
use Rattle.con_machine.specs.Step.{step, is_ready}
use Rattle.con_actors.specs.Desk.{listed}
use Rattle.con_actors.specs.Words.Desk.{entry}
use Rattle.con_threads.specs.Ledger.{logged_front, logged_entries, paged, next_page, page_ready, entry_by, actor_or, IsLogOf}
use Rattle.con_threads.specs.Scribe.{is_same}
use Rattle.con_threads.specs.declared.ledger.LedgerView.{LedgerView}

-- ---- one log behind another

pub logged_entries-append : (s : State) (xs ys : List (Logged Event)) → logged_entries s (xs ++ ys)
    ≡ logged_entries s xs ++ logged_entries (run s (logged_entries s xs)) ys
logged_entries-append s [] ys = refl
logged_entries-append s (x ∷ xs) ys =
    let f : List Entry = logged_front s (actor_of x.actor) x.event in
    let t : State = run s f in
    ap (λ (es : List Entry). f ++ es) (logged_entries-append t xs ys)
    ∙ (sym (append_assoc f (logged_entries t xs) (logged_entries (run t (logged_entries t xs)) ys))
    ∙ ap (λ (u : State). (f ++ logged_entries t xs) ++ logged_entries u ys) (sym (run-append s f (logged_entries t xs))))

-- a console and what it answered, after some entries and then more
pub paged_paged : (p : LedgerView) (h g : List Entry) → paged (paged p h) g ≡ paged p (h ++ g)
paged_paged p h g =
    let answered : (p.replies ++ map listed (replies_of p.state h)) ++ map listed (replies_of (run p.state h) g) ≡ p.replies
    ++ map listed (replies_of p.state (h ++ g)) =
    append_assoc p.replies (map listed (replies_of p.state h)) (map listed (replies_of (run p.state h) g))
    ∙ ap (λ (rs : List Reply). p.replies ++ rs) (sym (map-append listed (replies_of p.state h) (replies_of (run p.state h) g))
    ∙ ap (λ (rs : List Reply). map listed rs) (sym (replies-append p.state h g))) in
    λ i. record { state = sym (run-append p.state h g) i; replies = answered i }

pub paged_none : (p : LedgerView) → p ≡ paged p []
paged_none p = λ i. record { state = p.state; replies = sym (append-nil p.replies) i }

-- a book's log leads where its entries lead
pub after_paged : (p : LedgerView) (log : List (Logged Event)) → after next_page p log ≡ paged p (logged_entries p.state log)
after_paged p [] = paged_none p
after_paged p (x ∷ xs) =
    let f : List Entry = logged_front p.state (actor_of x.actor) x.event in
    after_paged (paged p f) xs ∙ paged_paged p f (logged_entries (run p.state f) xs)

pub after_state : (p : LedgerView) (log : List (Logged Event)) → (after next_page p log).state ≡ run p.state (logged_entries p.state log)
after_state p log = ap (λ (q : LedgerView). q.state) (after_paged p log)

pub after_replies : (p : LedgerView) (log : List (Logged Event))
    → (after next_page p log).replies ≡ p.replies ++ map listed (replies_of p.state (logged_entries p.state log))
after_replies p log = ap (λ (q : LedgerView). q.replies) (after_paged p log)

-- ---- each entry was ready where it stands

both_true : (a b : Bool) → a ≡ true → b ≡ true → (a && b) ≡ true
both_true a b e f = rw (e, f) refl

front_legal_by : (s : State) (a : Actor) (e : Event) (b : Bool) → is_ready s a e ≡ b → is_legal s (if b then entry a e ∷ [] else []) ≡ true
front_legal_by s a e true i = ap (λ (c : Bool). c && true) i
front_legal_by s a e false i = refl

front_legal : (s : State) (o : Option Actor) (e : Event) → is_legal s (logged_front s o e) ≡ true
front_legal s None e = refl
front_legal s (Some a) e = front_legal_by s a e (is_ready s a e) refl

pub history_legal : (s : State) (log : List (Logged Event)) → is_legal s (logged_entries s log) ≡ true
history_legal s [] = refl
history_legal s (x ∷ xs) =
    let f : List Entry = logged_front s (actor_of x.actor) x.event in
    legal-append s f (logged_entries (run s f) xs)
    ∙ both_true (is_legal s f) (is_legal (run s f) (logged_entries (run s f) xs)) (front_legal s (actor_of x.actor) x.event) (history_legal (run s f) xs)

-- ---- a log in which each event was ready

pub and_left : (a b : Bool) → (a && b) ≡ true → a ≡ true
and_left true b e = refl
and_left false b e = e

pub and_right : (a b : Bool) → (a && b) ≡ true → b ≡ true
and_right true b e = e
and_right false b e = absurd (let k : false ≡ true = e in cc)

-- an event that is ready has its entry
pub front_whole : (s : State) (o : Option Actor) (e : Event) → ready_of s o e ≡ true → logged_front s o e ≡ entry (actor_or o) e ∷ []
front_whole s None e r = absurd (let k : false ≡ true = r in cc)
front_whole s (Some a) e r = ap (λ (b : Bool). if b then entry a e ∷ [] else []) r

-- so each event of it has one
pub each_entered : (p : LedgerView) (log : List (Logged Event)) → book.is_legal next_page page_ready p log ≡ true
    → logged_entries p.state log ≡ map (λ x. entry_by x.actor x.event) log
each_entered p [] l = refl
each_entered p (x ∷ xs) l =
    let f : List Entry = logged_front p.state (actor_of x.actor) x.event in
    let q : LedgerView = next_page p x.actor x.event in
    let one : f ≡ entry_by x.actor x.event
    ∷ [] = front_whole p.state (actor_of x.actor) x.event (and_left (page_ready p x.actor x.event) (book.is_legal next_page page_ready q xs) l) in
    ap (λ (es : List Entry). es ++ logged_entries (run p.state f) xs) one
    ∙ ap (λ (es : List Entry). entry_by x.actor x.event
    ∷ es) (each_entered q xs (and_right (page_ready p x.actor x.event) (book.is_legal next_page page_ready q xs) l))

length_replies : (s : State) (h : List Entry) → length (replies_of s h) ≡ length h
length_replies s [] = refl
length_replies s (x ∷ xs) = let e = length_replies (step s x.actor x.event).after xs in omega (arith, e)

pub log_entries : (start : LedgerView) (log : List (Logged Event)) (page : LedgerView) → IsLogOf start log page
    → map (λ x. entry_by x.actor x.event) log ≡ logged_entries start.state log
log_entries start log page is = sym (each_entered start log is.legal)

pub log_replies : (start : LedgerView) (log : List (Logged Event)) (page : LedgerView) → IsLogOf start log page
    → page.replies ≡ map listed (replies_of start.state (logged_entries start.state log))
log_replies start log page is =
    ap (λ (q : LedgerView). q.replies) is.page' ∙ (after_replies start log
    ∙ ap (λ (rs : List Reply). rs ++ map listed (replies_of start.state (logged_entries start.state log))) is.none_before)

-- a reply for each event of it
pub log_counted : (start : LedgerView) (log : List (Logged Event)) (page : LedgerView) → IsLogOf start log page → length log ≡ length page.replies
log_counted start log page is =
    let h : List Entry = logged_entries start.state log in
    let a : length page.replies ≡ length (map listed (replies_of start.state h)) = ap length (log_replies start log page is) in
    let b : length (map listed (replies_of start.state h)) ≡ length (replies_of start.state h) = length-map (replies_of start.state h) listed in
    let c : length (replies_of start.state h) ≡ length h = length_replies start.state h in
    let d : length h ≡ length (map (λ (x : Logged Event). entry_by x.actor x.event) log) = ap length (each_entered start log is.legal) in
    let e : length (map (λ (x : Logged Event). entry_by x.actor x.event) log) ≡ length log = length-map log (λ x. entry_by x.actor x.event) in
    sym (a ∙ (b ∙ (c ∙ (d ∙ e))))

-- ---- whose entries they are

number_of : Actor → ℕ
number_of (actors.Client p) = p
number_of actors.Terminal = 1000
number_of actors.Painter = 1001

number_by : (n : ℕ) (a : Actor) (b c d : Bool) → (n == 1000) ≡ c → (n == 1001) ≡ d
    → (if b then Some (actors.Client n) else if c then Some actors.Terminal else if d then Some actors.Painter else None) ≡ Some a → n ≡ number_of a
unfolding number_of
number_by n a true c d e f h = let k : actors.Client n ≡ a = cc in ap number_of k
number_by n a false true d e f h = let k : actors.Terminal ≡ a = cc in eqb-true n 1000 e ∙ ap number_of k
number_by n a false false true e f h = let k : actors.Painter ≡ a = cc in eqb-true n 1001 f ∙ ap number_of k
number_by n a false false false e f h = absurd (let k : None ≡ Some a = h in cc)

-- an actor has one number
number_is : (n : ℕ) (a : Actor) → actor_of n ≡ Some a → n ≡ number_of a
number_is n a h = number_by n a (nat_lt 0 n && nat_lt n 256) (n == 1000) (n == 1001) refl refl h

same_numbers : (a b : Actor) → is_same a b ≡ true → number_of a ≡ number_of b
unfolding number_of
same_numbers (actors.Client p) (actors.Client q) r = eqb-true p q r
same_numbers actors.Terminal actors.Terminal r = refl
same_numbers actors.Painter actors.Painter r = refl
same_numbers _ _ r = absurd (let k : false ≡ true = r in cc)

not_same_by : (n m : ℕ) (a b : Actor) (same : Bool) → is_same a b ≡ same → actor_of n ≡ Some a → actor_of m ≡ Some b → (m == n) ≡ false → same ≡ false
not_same_by n m a b true is i j ne =
    let e : m ≡ n = number_is m b j ∙ (sym (same_numbers a b is) ∙ sym (number_is n a i)) in
    absurd (let k : true ≡ false = sym (eq-eqb m n e) ∙ ne in cc)
not_same_by n m a b false is i j ne = refl

not_same : (n m : ℕ) (a b : Actor) → actor_of n ≡ Some a → actor_of m ≡ Some b → (m == n) ≡ false → is_same a b ≡ false
not_same n m a b i j ne = not_same_by n m a b (is_same a b) refl i j ne

front_others_by : (s : State) (a b : Actor) (e : Event) (r : Bool) → is_same a b ≡ false
    → list_all (λ x. not (is_same a x.actor)) (if r then entry b e ∷ [] else []) ≡ true
front_others_by s a b e true n = ap (λ (c : Bool). not c && true) n
front_others_by s a b e false n = refl

front_others : (s : State) (n m : ℕ) (a : Actor) (o : Option Actor) (e : Event) → actor_of n ≡ Some a → actor_of m ≡ o → (m == n) ≡ false
    → list_all (λ x. not (is_same a x.actor)) (logged_front s o e) ≡ true
front_others s n m a None e i j ne = refl
front_others s n m a (Some b) e i j ne = front_others_by s a b e (is_ready s b e) (not_same n m a b i j ne)

not_own : (b : Bool) (e : Event) (es : List Event) → (if b then e ∷ es else es) ≡ [] → b ≡ false
not_own true e es h = absurd (let k : e ∷ es ≡ [] = h in cc)
not_own false e es h = refl

own_tail : (b : Bool) (e : Event) (es : List Event) → (if b then e ∷ es else es) ≡ [] → es ≡ []
own_tail true e es h = absurd (let k : e ∷ es ≡ [] = h in cc)
own_tail false e es h = h

-- events of other numbers are entries of other actors
pub others_entered : (n : ℕ) (a : Actor) (s : State) (log : List (Logged Event)) → actor_of n ≡ Some a → own n log ≡ []
    → list_all (λ x. not (is_same a x.actor)) (logged_entries s log) ≡ true
others_entered n a s [] i none = refl
others_entered n a s (x ∷ xs) i none =
    let f : List Entry = logged_front s (actor_of x.actor) x.event in
    let g : List Entry = logged_entries (run s f) xs in
    list_all-append (λ z. not (is_same a z.actor)) f g
    ∙ both_true (list_all (λ z. not (is_same a z.actor)) f) (list_all (λ z. not (is_same a z.actor)) g)
    (front_others s n x.actor a (actor_of x.actor) x.event i refl (not_own (x.actor == n) x.event (own n xs) none))
    (others_entered n a (run s f) xs i (own_tail (x.actor == n) x.event (own n xs) none))
