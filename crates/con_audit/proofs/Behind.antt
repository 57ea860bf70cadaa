-- The judge stands behind one entry more, and what it tries is what the entry must keep.
use Rattle.std.proofs.Common.{◌≡◌, ◌⊎◌, inl, inr, ℕ, ◌<◌, ◌≤◌, ◌==◌, nat_le, Bool, true, false, ◌&&◌, ◌-◌, List, [], ◌∷◌, ◌++◌, length, map, get_or, refl, sym, ap, ◌∙◌, subst, arith}
use Rattle.std.specs.Prelude.{◌↔◌, slice_get, Option, Some}
use Rattle.std.proofs.lemmas.Bool.{and_parts}
use Rattle.std.proofs.lemmas.Bool.Decides.{nat_tests}
use Rattle.con_units.specs.declared.place.Size.{Size}
use Rattle.con_units.specs.declared.view.Frame.{Frame}
use Rattle.con_units.specs.declared.view.View.{View}
use Rattle.con_events.specs.Session.{Clients, is_size, is_within as is_within'}
use Rattle.con_events.specs.declared.actor.Actor.{Actor}
use Rattle.con_events.specs.declared.actor.Actor.TheVariants as actors
use Rattle.con_events.specs.declared.entry.Entry.{Entry}
use Rattle.con_events.specs.declared.event.Event.{Event}
use Rattle.con_events.specs.declared.event.Event.TheVariants as events
use Rattle.con_events.specs.declared.reply.Reply.{Reply}
use Rattle.con_events.specs.declared.reply.Reply.TheVariants as replies
use Rattle.con_machine.specs.Along.{Along}
use Rattle.con_machine.specs.Words.Along.{after}
use Rattle.con_machine.specs.Client.{Client, MayBy, starting, moved_on, client_after}
use Rattle.con_machine.specs.Follows.{session_start, is_one_of, steps_of, kinds_of, MaySend, Sender, sent_one, asks_by}
use Rattle.con_machine.specs.Words.Follows.{asks}
use Rattle.con_machine.specs.History.{run}
use Rattle.con_machine.specs.HistoryLaws.{after-append, run-append, turns-own, turns-other, sent-own, sent-other, sights-one}
use Rattle.con_machine.specs.Marks.{told}
use Rattle.con_machine.specs.Painting.{view_now}
use Rattle.con_machine.specs.Sights.{sights_of, sights_at}
use Rattle.con_machine.specs.State.{State, opening}
use Rattle.con_machine.specs.Step.{step, effect, is_ready, is_due, is_actors, is_clients}
use Rattle.con_machine.specs.Words.Step.{is_served}
use Rattle.con_machine.specs.Turns.{moved, turns, turn_of, is_pending, is_paint, is_client, is_terminal, sent, has_ended}
use Rattle.con_audit.specs.Audit.{Given}
use Rattle.con_audit.specs.Verdicts.{IsReplied}
use Rattle.con_audit.specs.OneMore.{state_after, client_now, sender_after, asks_after, watch_after, HasReply, Keeps, MayEnter}
use Rattle.con_audit.specs.Side.{Side}
use Rattle.con_audit.specs.Track.{turn}
use Rattle.con_audit.specs.Watching.{Watch, watching, watched, painted_to, HasEnd, IsSeen}
use Rattle.con_audit.specs.Partial.{Partial, IsKnown}
use Rattle.con_audit.specs.Judging.{AreTracks, Stands, client_at, side_after, IsSaid, MayStand, EndsAt, Pictures, entered_by, side_by}
use Rattle.con_audit.specs.declared.verdict.What.TheVariants as what
use Rattle.con_audit.proofs.OneMore.{is_within}
use Rattle.con_audit.proofs.Tracks.{tracks_set, tracks_same, read_at}

-- ---- an entry more

own_turn : (g : Given) (h : List Entry) (x : Entry) (q : ℕ) → is_client q x.actor ≡ true → client_now g (h ++ x ∷ []) q ≡ moved_on (client_now g h q) (turn_of (state_after g h) q x)
own_turn g h x q o =
    ap (client_after (steps_of g.session q) (kinds_of g.racks q)) (turns-own (session_start g.session g.racks) q h x o)
    ∙ after-append moved_on (starting (steps_of g.session q) (kinds_of g.racks q)) (turns (session_start g.session g.racks) q h) (turn_of (state_after g h) q x ∷ [])

others_turn : (g : Given) (h : List Entry) (x : Entry) (p : ℕ) → is_client p x.actor ≡ false → client_now g (h ++ x ∷ []) p ≡ client_now g h p
others_turn g h x p o = ap (client_after (steps_of g.session p) (kinds_of g.racks p)) (turns-other (session_start g.session g.racks) p h x o)

-- the same client is answered the same
moves_alike : (c d : Client) (e : Event) (r q : Reply) (b f : Bool) → c ≡ d → r ≡ q → b ≡ f → moved_on c (turn e r b) ≡ moved_on d (turn e q f)
moves_alike c d e r q b f i j k = rw (i, j, k) refl

itself : (q : ℕ) → (q == q) ≡ true
itself q = grind (arith, nat_tests)

clients_one : (s : State) (tracks : List Client) (g : Given) (h : List Entry) (a : Actor) (e : Event) (answer : Reply) (t : State) (side : Side) → s ≡ state_after g h
    → AreTracks (length g.session.scripts) (client_now g h) tracks → MayStand tracks side a e → t ≡ (step s a e).after
    → ((p : ℕ) → a ≡ actors.Client p → answer ≡ (step s a e).reply)
    → (let x : Entry = record { actor = a; event = e } in AreTracks (length g.session.scripts) (client_now g (h ++ x ∷ [])) (entered_by tracks a e answer (is_pending t)))
clients_one s tracks g h (actors.Client q) e answer t side is a m next reply =
    let x : Entry = record { actor = actors.Client q; event = e } in
    let n = length g.session.scripts in
    let w = is_within (length tracks) q m.0 in
    let high : q ≤ n = subst (λ k. q ≤ k) a.count w.1 in
    let state : t ≡ moved (state_after g h) x = next ∙ ap (λ (r : State). (step r (actors.Client q) e).after) is in
    let said : answer ≡ (step (state_after g h) (actors.Client q) e).reply = reply q refl ∙ ap (λ (r : State). (step r (actors.Client q) e).reply) is in
    tracks_set n (client_now g h) (client_now g (h ++ x ∷ [])) tracks q _ a w.0 high
    (moves_alike (client_at tracks q) (client_now g h q) e answer _ (is_pending t q) _ (a.each q w.0 high) said (ap (λ (r : State). is_pending r q) state)
    ∙ sym (own_turn g h x q (itself q)))
    (λ p o. others_turn g h x p o)
clients_one s tracks g h actors.Terminal e answer t side is a m next reply =
    let x : Entry = record { actor = actors.Terminal; event = e } in
    tracks_same (length g.session.scripts) (client_now g h) (client_now g (h ++ x ∷ [])) tracks a (λ p. others_turn g h x p refl)
clients_one s tracks g h actors.Painter e answer t side is a m next reply =
    let x : Entry = record { actor = actors.Painter; event = e } in
    tracks_same (length g.session.scripts) (client_now g h) (client_now g (h ++ x ∷ [])) tracks a (λ p. others_turn g h x p refl)

abbrev all_to_come : List Frame → Sender
all_to_come frames = record { coming = frames; ended = false }

side_from : (s r : Sender) (a b : Bool) → s ≡ r → a ≡ b → ◌≡◌ {A = Side} (record { sender = s; asked = a }) (record { sender = r; asked = b })
side_from s r a b e f = rw (e, f) refl

asked_one : (h : List Entry) (x : Entry) → asks_after (h ++ x ∷ []) ≡ asks_by (asks_after h) x.event
asked_one h x = after-append asks false h (x ∷ [])

sender_same : (frames : List Frame) (h : List Entry) (x : Entry) → is_terminal x.actor ≡ false → sender_after frames (h ++ x ∷ []) ≡ sender_after frames h
sender_same frames h x o = ap (after sent_one (all_to_come frames)) (sent-other h x o)

sender_one : (frames : List Frame) (h : List Entry) (x : Entry) → is_terminal x.actor ≡ true → sender_after frames (h ++ x ∷ []) ≡ sent_one (sender_after frames h) x.event
sender_one frames h x o = ap (after sent_one (all_to_come frames)) (sent-own h x o) ∙ after-append sent_one (all_to_come frames) (sent h) (x.event ∷ [])

side_one : (frames : List Frame) (h : List Entry) (a : Actor) (e : Event)
    → (let x : Entry = record { actor = a; event = e } in side_after frames (h ++ x ∷ []) ≡ side_by (side_after frames h) a e)
side_one frames h (actors.Client p) e = let x : Entry = record { actor = actors.Client p; event = e } in side_from _ _ _ _ (sender_same frames h x refl) (asked_one h x)
side_one frames h actors.Terminal e = let x : Entry = record { actor = actors.Terminal; event = e } in side_from _ _ _ _ (sender_one frames h x refl) (asked_one h x)
side_one frames h actors.Painter e = let x : Entry = record { actor = actors.Painter; event = e } in side_from _ _ _ _ (sender_same frames h x refl) (asked_one h x)

watch_one : (g : Given) (h : List Entry) (x : Entry) → watch_after g (h ++ x ∷ []) ≡ after (watched g.stream) (watch_after g h) (sights_at (state_after g h) x.event)
watch_one g h x = ap (after (watched g.stream) (watching g.session.size g.ends)) (sights-one (session_start g.session g.racks) h x) ∙ after-append (watched g.stream) (watching g.session.size g.ends) (sights_of (session_start g.session g.racks) h) (sights_at (state_after g h) x.event)

-- nothing is entered yet
pub stands_still : (s t : State) (tracks : List Client) (side : Side) (watch : Watch) (g : Given) (frames : List Frame) (h : List Entry) → t ≡ s
    → Stands s tracks side watch g frames h → Stands t tracks side watch g frames h
stands_still s t tracks side watch g frames h e b = record { console = e ∙ b.console; clients = b.clients; side' = b.side'; watch' = b.watch' }

pub stands_one : (s t : State) (tracks tracks' : List Client) (side side' : Side) (watch watch' : Watch) (g : Given) (frames : List Frame) (h : List Entry) (x : Entry) (answer : Reply) (stream : List ℕ)
    → Stands s tracks side watch g frames h → g.stream ≡ stream → MayStand tracks side x.actor x.event → t ≡ (step s x.actor x.event).after
    → ((p : ℕ) → x.actor ≡ actors.Client p → answer ≡ (step s x.actor x.event).reply)
    → tracks' ≡ entered_by tracks x.actor x.event answer (is_pending t) → side' ≡ side_by side x.actor x.event → watch' ≡ after (watched stream) watch (sights_at s x.event)
    → Stands t tracks' side' watch' g frames (h ++ x ∷ [])
stands_one s t tracks tracks' side side' watch watch' g frames h x answer stream b f m next reply one two three = record {
  console = next ∙ ap (λ (r : State). (step r x.actor x.event).after) b.console ∙ sym (run-append (session_start g.session g.racks) h (x ∷ []));
  clients = subst (AreTracks (length g.session.scripts) (client_now g (h ++ x ∷ []))) (sym one)
      (clients_one s tracks g h x.actor x.event answer t side b.console b.clients m next reply);
  side' = two ∙ ap (λ (r : Side). side_by r x.actor x.event) b.side' ∙ sym (side_one frames h x.actor x.event);
  watch' = three ∙ ap (λ (bytes : List ℕ). after (watched bytes) watch (sights_at s x.event)) (sym f)
      ∙ ap (λ (w : Watch). after (watched g.stream) w (sights_at s x.event)) b.watch'
      ∙ ap (λ (r : State). after (watched g.stream) (watch_after g h) (sights_at r x.event)) b.console ∙ sym (watch_one g h x);
}

-- ---- what is tried

pub tries_ready : (s : State) (tracks : List Client) (side : Side) (watch : Watch) (g : Given) (frames : List Frame) (h : List Entry) (x : Entry) (b : Bool)
    → Stands s tracks side watch g frames h → b ≡ is_ready s x.actor x.event → (b ≡ true) ↔ Keeps what.Ready g frames h x
tries_ready s tracks side watch g frames h x b a e =
    let same : b ≡ is_ready (state_after g h) x.actor x.event = e ∙ ap (λ (r : State). is_ready r x.actor x.event) a.console in
    ((λ y. sym same ∙ y), (λ y. same ∙ y))

-- an answer that tells no more than Done is that
is_done : (r : Reply) → told r ≡ replies.Done → r ≡ replies.Done
is_done replies.Done e = refl
is_done (replies.Fail c) e = absurd (cc)
is_done (replies.Number n) e = absurd (cc)
is_done (replies.Numbers ns) e = absurd (cc)
is_done (replies.Units us) e = absurd (cc)
is_done (replies.Records rs) e = absurd (cc)
is_done (replies.Cells r cs) e = absurd (cc)
is_done (replies.Lines ls) e = absurd (cc)
is_done (replies.Ctrl n) e = absurd (cc)
is_done (replies.View v ms b) e = absurd (cc)

-- but for a Paint, an answer that tells the step's reply is the reply
is_answer : (s : State) (a : Actor) (e : Event) (answer : Reply) → told answer ≡ (step s a e).reply → (is_clients e ≡ true → answer ≡ (step s a e).reply) → is_paint e ≡ false → answer ≡ (step s a e).reply
unfolding step effect
is_answer s a (events.Call c) answer t f n = f refl
is_answer s a (events.Begin w) answer t f n = f refl
is_answer s a events.Collect answer t f n = f refl
is_answer s a events.TakeCtrl answer t f n = f refl
is_answer s a (events.Exit k) answer t f n = f refl
is_answer s a (events.Feed b) answer t f n = is_done answer t
is_answer s a events.Quiet answer t f n = is_done answer t
is_answer s a (events.Resize z) answer t f n = is_done answer t
is_answer s a events.Ask answer t f n = is_done answer t
is_answer s a events.Hangup answer t f n = is_done answer t
is_answer s a events.Drained answer t f n = is_done answer t
is_answer s a events.Paint answer t f n = absurd (cc)

says : (b : Bool) (r answer reply : Reply) → (b ≡ false → answer ≡ reply) → ((b ≡ true) ⊎ (r ≡ answer)) ↔ ((b ≡ true) ⊎ (r ≡ reply))
says true r answer reply f = ((λ y. inl refl), (λ y. inl refl))
says false r answer reply f = ((λ y. elim y [ inl e ↦ inl e | inr e ↦ inr (e ∙ f refl) ]), (λ y. elim y [ inl e ↦ inl e | inr e ↦ inr (e ∙ sym (f refl)) ]))

pub tries_reply : (s : State) (tracks : List Client) (side : Side) (watch : Watch) (g : Given) (frames : List Frame) (h : List Entry) (x : Entry) (answer r : Reply) (b : Bool)
    → Stands s tracks side watch g frames h → slice_get g.replies (length h) ≡ Some r → told answer ≡ (step s x.actor x.event).reply
    → (is_clients x.event ≡ true → answer ≡ (step s x.actor x.event).reply) → (b ≡ true) ↔ IsSaid x.event answer r → (b ≡ true) ↔ Keeps what.Reply g frames h x
tries_reply s tracks side watch g frames h x answer r b a at t f i =
    let Q : State → Type 0 = λ z. (b ≡ true) ↔ IsReplied z x r in
    let k = says (is_paint x.event) r answer (step s x.actor x.event).reply (is_answer s x.actor x.event answer t f) in
    let both : (b ≡ true) ↔ IsReplied (state_after g h) x r = subst Q a.console ((λ y. k.0 (i.0 y)), (λ y. i.1 (k.1 y))) in
    let R : Option Reply → Type 0 = λ o. (b ≡ true) ↔ HasReply (state_after g h) x o in
    subst R (sym at) both

enters : (s : State) (tracks : List Client) (side : Side) (watch : Watch) (g : Given) (frames : List Frame) (h : List Entry) (a : Actor) (e : Event)
    → Stands s tracks side watch g frames h
    → (let x : Entry = record { actor = a; event = e } in MayStand tracks side a e ↔ ((is_one_of (length g.session.scripts) a ≡ true) × MayEnter g frames h x a))
enters s tracks side watch g frames h (actors.Client p) e b = (
  (λ y.
      let o : is_one_of (length g.session.scripts) (actors.Client p) ≡ true = subst (λ n. is_one_of n (actors.Client p) ≡ true) b.clients.count y.0 in
      let w = is_within (length g.session.scripts) p o in
      (o, subst (λ (c : Client). MayBy c.stance c e) (b.clients.each p w.0 w.1) y.1)),
  (λ y.
      let w = is_within (length g.session.scripts) p y.0 in
      (subst (λ n. is_one_of n (actors.Client p) ≡ true) (sym b.clients.count) y.0, subst (λ (c : Client). MayBy c.stance c e) (sym (b.clients.each p w.0 w.1)) y.1)),
)
enters s tracks side watch g frames h actors.Terminal e b =
    let Q : Side → Type 0 = λ r. MaySend false r.sender e × (r.asked ≡ false) in
    ((λ y. (refl, subst Q b.side' y)), (λ y. subst Q (sym b.side') y.1))
enters s tracks side watch g frames h actors.Painter e b = ((λ y. (refl, tt)), (λ y. tt))

-- a client of another session may enter nothing
pub no_client : (tracks : List Client) (side : Side) (p : ℕ) (e : Event) (b : Bool) → b ≡ is_one_of (length tracks) (actors.Client p) → b ≡ false → (false ≡ true) ↔ MayStand tracks side (actors.Client p) e
no_client tracks side p e b is n = ((λ y. absurd (cc)), (λ y. let k : true ≡ false = sym y.0 ∙ sym is ∙ n in absurd (cc)))

pub client_may : (tracks : List Client) (side : Side) (p : ℕ) (e : Event) (b r : Bool) (c : Client) → b ≡ is_one_of (length tracks) (actors.Client p) → b ≡ true → c ≡ get_or tracks (p - 1) c
    → (r ≡ true) ↔ MayBy c.stance c e → (r ≡ true) ↔ MayStand tracks side (actors.Client p) e
client_may tracks side p e b r c is y at i =
    let o : is_one_of (length tracks) (actors.Client p) ≡ true = sym is ∙ y in
    let w = is_within (length tracks) p o in
    let same = read_at tracks p c w.0 w.1 at in
    ((λ k. (o, subst (λ (d : Client). MayBy d.stance d e) (sym same) (i.0 k))), (λ k. i.1 (subst (λ (d : Client). MayBy d.stance d e) same k.1)))

pub may_bounds : (tracks : List Client) (side : Side) (a : Actor) (e : Event) (p : ℕ) → a ≡ actors.Client p → MayStand tracks side a e → (0 < p) × (p ≤ length tracks)
may_bounds tracks side a e p is m =
    let k : MayStand tracks side (actors.Client p) e = subst (λ (y : Actor). MayStand tracks side y e) is m in is_within (length tracks) p k.0

pub tries_follows : (s : State) (tracks : List Client) (side : Side) (watch : Watch) (g : Given) (frames : List Frame) (h : List Entry) (x : Entry) (b : Bool)
    → Stands s tracks side watch g frames h → (b ≡ true) ↔ MayStand tracks side x.actor x.event → (b ≡ true) ↔ Keeps what.Follows g frames h x
tries_follows s tracks side watch g frames h x b a i =
    let k = enters s tracks side watch g frames h x.actor x.event a in ((λ y. k.0 (i.0 y)), (λ y. i.1 (k.1 y)))

ends_along : (stream : List ℕ) (w : Watch) (s : State) (e : Event) → EndsAt stream w e ↔ Along (HasEnd stream) (watched stream) w (sights_at s e)
ends_along stream w s (events.Call c) = ((λ y. tt), (λ y. tt))
ends_along stream w s (events.Begin k) = ((λ y. tt), (λ y. tt))
ends_along stream w s events.Collect = ((λ y. tt), (λ y. tt))
ends_along stream w s events.TakeCtrl = ((λ y. tt), (λ y. tt))
ends_along stream w s (events.Exit n) = ((λ y. tt), (λ y. tt))
ends_along stream w s (events.Feed b) = ((λ y. tt), (λ y. tt))
ends_along stream w s events.Quiet = ((λ y. tt), (λ y. tt))
ends_along stream w s (events.Resize z) = ((λ y. (tt, tt)), (λ y. tt))
ends_along stream w s events.Ask = ((λ y. tt), (λ y. tt))
ends_along stream w s events.Hangup = ((λ y. tt), (λ y. tt))
ends_along stream w s events.Drained = ((λ y. tt), (λ y. tt))
ends_along stream w s events.Paint = ((λ y. (y, tt)), (λ y. y.0))

-- where there is no Paint, nothing ends
pub ends_free : (stream : List ℕ) (w : Watch) (e : Event) → (e ≡ events.Paint → ⊥) → EndsAt stream w e
ends_free stream w (events.Call c) n = tt
ends_free stream w (events.Begin k) n = tt
ends_free stream w events.Collect n = tt
ends_free stream w events.TakeCtrl n = tt
ends_free stream w (events.Exit k) n = tt
ends_free stream w (events.Feed b) n = tt
ends_free stream w events.Quiet n = tt
ends_free stream w (events.Resize z) n = tt
ends_free stream w events.Ask n = tt
ends_free stream w events.Hangup n = tt
ends_free stream w events.Drained n = tt
ends_free stream w events.Paint n = absurd (n refl)

pub tries_end : (s : State) (tracks : List Client) (side : Side) (watch : Watch) (g : Given) (frames : List Frame) (h : List Entry) (x : Entry) (stream : List ℕ) (b : Bool)
    → Stands s tracks side watch g frames h → g.stream ≡ stream → (b ≡ true) ↔ EndsAt stream watch x.event → (b ≡ true) ↔ Keeps what.End g frames h x
tries_end s tracks side watch g frames h x stream b a f i =
    let k = ends_along stream watch s x.event in
    let Q : List ℕ → Type 0 = λ bytes. (b ≡ true) ↔ Along (HasEnd bytes) (watched bytes) watch (sights_at s x.event) in
    let R : Watch → Type 0 = λ w. (b ≡ true) ↔ Along (HasEnd g.stream) (watched g.stream) w (sights_at s x.event) in
    let S : State → Type 0 = λ r. (b ≡ true) ↔ Along (HasEnd g.stream) (watched g.stream) (watch_after g h) (sights_at r x.event) in
    subst S a.console (subst R a.watch' (subst Q (sym f) ((λ y. k.0 (i.0 y)), (λ y. i.1 (k.1 y)))))

pub tries_shows : (s : State) (tracks : List Client) (side : Side) (watch : Watch) (g : Given) (frames : List Frame) (h : List Entry) (x : Entry) (stream : List ℕ) (b : Bool)
    → Stands s tracks side watch g frames h → g.stream ≡ stream → (b ≡ true) ↔ Along (IsSeen stream) (watched stream) watch (sights_at s x.event) → (b ≡ true) ↔ Keeps what.Shows g frames h x
tries_shows s tracks side watch g frames h x stream b a f i =
    let Q : List ℕ → Type 0 = λ bytes. (b ≡ true) ↔ Along (IsSeen bytes) (watched bytes) watch (sights_at s x.event) in
    let R : Watch → Type 0 = λ w. (b ≡ true) ↔ Along (IsSeen g.stream) (watched g.stream) w (sights_at s x.event) in
    let S : State → Type 0 = λ r. (b ≡ true) ↔ Along (IsSeen g.stream) (watched g.stream) (watch_after g h) (sights_at r x.event) in
    subst S a.console (subst R a.watch' (subst Q (sym f) i))

-- ---- a Paint's view, and a Resize's size

-- an answer that tells a view has it
pub view_told : (w : View) (marks : List Bool) (fresh : Bool) (v : View) → told (replies.View w marks fresh) ≡ replies.View v [] false → w ≡ v
view_told w marks fresh v e = cc

pub not_view : (r : Reply) (v : View) → ((w : View) (marks : List Bool) (fresh : Bool) → r ≡ replies.View w marks fresh → ⊥) → told r ≡ replies.View v [] false → ⊥
not_view replies.Done v n e = absurd (cc)
not_view (replies.Fail c) v n e = absurd (cc)
not_view (replies.Number k) v n e = absurd (cc)
not_view (replies.Numbers ns) v n e = absurd (cc)
not_view (replies.Units us) v n e = absurd (cc)
not_view (replies.Records rs) v n e = absurd (cc)
not_view (replies.Cells r cs) v n e = absurd (cc)
not_view (replies.Lines ls) v n e = absurd (cc)
not_view (replies.Ctrl k) v n e = absurd (cc)
not_view (replies.View w ms b) v n e = absurd (n w ms b refl)

-- what a Paint answers is the view
pub pictures : (s : State) (a : Actor) (e : Event) (answer : Reply) → told answer ≡ (step s a e).reply → Pictures e answer s
unfolding step effect
pictures s a (events.Call c) answer t = tt
pictures s a (events.Begin w) answer t = tt
pictures s a events.Collect answer t = tt
pictures s a events.TakeCtrl answer t = tt
pictures s a (events.Exit k) answer t = tt
pictures s a (events.Feed b) answer t = tt
pictures s a events.Quiet answer t = tt
pictures s a (events.Resize z) answer t = tt
pictures s a events.Ask answer t = tt
pictures s a events.Hangup answer t = tt
pictures s a events.Drained answer t = tt
pictures s a events.Paint answer t = t

pub seen_view : (answer : Reply) (w : View) (marks : List Bool) (fresh : Bool) (v : View) (b : Bool) (p : Partial) → answer ≡ replies.View w marks fresh
    → told answer ≡ replies.View v [] false → (b ≡ true) ↔ IsKnown p w → (b ≡ true) ↔ IsKnown p v
seen_view answer w marks fresh v b p is t i =
    let k : told (replies.View w marks fresh) ≡ replies.View v [] false = subst (λ (r : Reply). told r ≡ replies.View v [] false) is t in
    subst (λ (u : View). (b ≡ true) ↔ IsKnown p u) (view_told w marks fresh v k) i

pub none_seen : (answer : Reply) (v : View) (p : Partial) → ((w : View) (marks : List Bool) (fresh : Bool) → answer ≡ replies.View w marks fresh → ⊥)
    → told answer ≡ replies.View v [] false → (false ≡ true) ↔ IsKnown p v
none_seen answer v p n t = ((λ y. absurd (cc)), (λ y. absurd (not_view answer v n t)))

pub ready_size : (s : State) (a : Actor) (e : Event) (z : Size) → is_ready s a e ≡ true → e ≡ events.Resize z → is_size z ≡ true
unfolding is_ready is_due
ready_size s a e z r is =
    let k : (is_actors a (events.Resize z) && (is_size z && is_served s)) ≡ true = subst (λ (y : Event). is_ready s a y ≡ true) is r in
    (and_parts (is_size z) (is_served s) (and_parts (is_actors a (events.Resize z)) (is_size z && is_served s) k).1).0

-- a client's events are clients'
pub clients_own : (s : State) (a : Actor) (e : Event) (answer : Reply) → is_ready s a e ≡ true → (is_clients e ≡ true → answer ≡ (step s a e).reply)
    → (p : ℕ) → a ≡ actors.Client p → answer ≡ (step s a e).reply
unfolding is_ready
clients_own s (actors.Client q) e answer r f p i = f (and_parts (is_clients e) _ r).0
clients_own s actors.Terminal e answer r f p i = absurd (cc)
clients_own s actors.Painter e answer r f p i = absurd (cc)

seen_at_paint : (answer : Reply) (s : State) (stream : List ℕ) (w next : Watch) (b : Bool) → Pictures events.Paint answer s → next ≡ painted_to stream w w.ends
    → ((v : View) → told answer ≡ replies.View v [] false → (b ≡ true) ↔ IsKnown next.partial v)
    → (b ≡ true) ↔ Along (IsSeen stream) (watched stream) w (sights_at s events.Paint)
seen_at_paint answer s stream w next b pic is f =
    let Q : Watch → Type 0 = λ r. (b ≡ true) ↔ IsKnown r.partial (view_now s) in
    let k = subst Q is (f (view_now s) pic) in ((λ y. (k.0 y, tt)), (λ y. k.1 y.0))

pub seen_paint : (e : Event) (answer : Reply) (s : State) (stream : List ℕ) (w next : Watch) (b : Bool) → e ≡ events.Paint → Pictures e answer s → next ≡ painted_to stream w w.ends
    → ((v : View) → told answer ≡ replies.View v [] false → (b ≡ true) ↔ IsKnown next.partial v)
    → (b ≡ true) ↔ Along (IsSeen stream) (watched stream) w (sights_at s e)
seen_paint e answer s stream w next b is pic p f =
    let Q : Event → Type 0 = λ y. Pictures y answer s → (b ≡ true) ↔ Along (IsSeen stream) (watched stream) w (sights_at s y) in
    subst Q (sym is) (λ q. seen_at_paint answer s stream w next b q p f) pic

pub watched_paint : (e : Event) (s : State) (stream : List ℕ) (w next : Watch) → e ≡ events.Paint → next ≡ painted_to stream w w.ends → next ≡ after (watched stream) w (sights_at s e)
watched_paint e s stream w next is p = subst (λ (y : Event). next ≡ after (watched stream) w (sights_at s y)) (sym is) p

-- where there is no Paint, nothing is to be seen
pub seen_size : (e : Event) (s : State) (stream : List ℕ) (w : Watch) (z : Size) → e ≡ events.Resize z → (true ≡ true) ↔ Along (IsSeen stream) (watched stream) w (sights_at s e)
seen_size e s stream w z is =
    let Q : Event → Type 0 = λ y. (true ≡ true) ↔ Along (IsSeen stream) (watched stream) w (sights_at s y) in subst Q (sym is) ((λ y. (tt, tt)), (λ y. refl))

pub watched_size : (e : Event) (s : State) (stream : List ℕ) (w next : Watch) (z : Size) → e ≡ events.Resize z → next ≡ after (watched stream) w (sights_at s (events.Resize z))
    → next ≡ after (watched stream) w (sights_at s e)
watched_size e s stream w next z is p = subst (λ (y : Event). next ≡ after (watched stream) w (sights_at s y)) (sym is) p

no_sight : (e : Event) (s : State) → (e ≡ events.Paint → ⊥) → ((z : Size) → e ≡ events.Resize z → ⊥) → sights_at s e ≡ []
no_sight (events.Call c) s n m = refl
no_sight (events.Begin w) s n m = refl
no_sight events.Collect s n m = refl
no_sight events.TakeCtrl s n m = refl
no_sight (events.Exit k) s n m = refl
no_sight (events.Feed b) s n m = refl
no_sight events.Quiet s n m = refl
no_sight (events.Resize z) s n m = absurd (m z refl)
no_sight events.Ask s n m = refl
no_sight events.Hangup s n m = refl
no_sight events.Drained s n m = refl
no_sight events.Paint s n m = absurd (n refl)

pub seen_other : (e : Event) (s : State) (stream : List ℕ) (w : Watch) → (e ≡ events.Paint → ⊥) → ((z : Size) → e ≡ events.Resize z → ⊥)
    → (true ≡ true) ↔ Along (IsSeen stream) (watched stream) w (sights_at s e)
seen_other e s stream w n m = rw (no_sight e s n m) ((λ y. tt), (λ y. refl))

pub watched_other : (e : Event) (s : State) (stream : List ℕ) (w : Watch) → (e ≡ events.Paint → ⊥) → ((z : Size) → e ≡ events.Resize z → ⊥) → w ≡ after (watched stream) w (sights_at s e)
watched_other e s stream w n m = rw (no_sight e s n m) refl

-- ---- the terminal's side at the end

pub ended_is : (s : Sender) (es : List Event) → (after sent_one s es).ended ≡ has_ended s.ended es
ended_is s [] = refl
ended_is s (e ∷ es) = ended_is (sent_one s e) es

-- ---- before the first entry

begun_alike : (c d : Clients) (r q : List (List ℕ)) → c ≡ d → r ≡ q → session_start c r ≡ session_start d q
begun_alike c d r q e f = rw (e, f) refl

watching_alike : (c d : Clients) (es fs : List ℕ) → c ≡ d → es ≡ fs → watching c.size es ≡ watching d.size fs
watching_alike c d es fs e f = rw (e, f) refl

pub stands_first : (s : State) (tracks : List Client) (side : Side) (watch : Watch) (g : Given) (frames : List Frame) (session : Clients) (racks : List (List ℕ)) (counts ends : List ℕ)
    → g.session ≡ session → g.racks ≡ racks → g.ends ≡ ends → s ≡ opening session counts → counts ≡ map (λ kinds. length kinds) racks
    → AreTracks (length session.scripts) (λ p. starting (steps_of session p) (kinds_of racks p)) tracks → side ≡ record { sender = all_to_come frames; asked = false }
    → watch ≡ watching session.size ends → Stands s tracks side watch g frames []
stands_first s tracks side watch g frames session racks counts ends a b c one two three four five =
    let Q : Clients → Type 0 = λ z. AreTracks (length z.scripts) (λ p. starting (steps_of z p) (kinds_of racks p)) tracks in
    let R : List (List ℕ) → Type 0 = λ rs. AreTracks (length g.session.scripts) (λ p. starting (steps_of g.session p) (kinds_of rs p)) tracks in
    record {
      console = one ∙ ap (opening session) two ∙ begun_alike session g.session racks g.racks (sym a) (sym b);
      clients = subst R (sym b) (subst Q (sym a) three);
      side' = four;
      watch' = five ∙ watching_alike session g.session ends g.ends (sym a) (sym c);
    }

-- the sides of a window
pub size_within : (z : Size) → is_size z ≡ true → ((0 < z.w) × (0 < z.h)) × ((z.w ≤ 512) × (z.h ≤ 256))
size_within z is =
    let sides = and_parts (is_within' 1 512 z.w) (is_within' 1 256 z.h) is in
    let w = and_parts (nat_le 1 z.w) (nat_le z.w 512) sides.0 in
    let h = and_parts (nat_le 1 z.h) (nat_le z.h 256) sides.1 in
    ((at_least z.w w.0, at_least z.h h.0), (at_most z.w 512 w.1, at_most z.h 256 h.1))
  where
    at_least : (n : ℕ) → nat_le 1 n ≡ true → 0 < n
    at_least n e = grind (arith, nat_tests)

    at_most : (n most : ℕ) → nat_le n most ≡ true → n ≤ most
    at_most n most e = grind (arith, nat_tests)
