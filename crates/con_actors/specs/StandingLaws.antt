-- How a client stands behind one more entry.
use Rattle.std.proofs.Common.{◌≡◌, ℕ, Bool, true, false, List, [], ◌∷◌, ◌++◌, refl, sym, ap, ◌∙◌, subst, inl, inr, eq-eqb}
use Rattle.std.specs.Prelude.{◌==◌, if◌then◌else◌, not, drop}
use Rattle.con_procs.specs.Procs.{is_attached}
use Rattle.con_readers.specs.Reads.{is_open}
use Rattle.con_events.specs.declared.actor.Actor.TheVariants as actors
use Rattle.con_events.specs.declared.call.Call.{Call}
use Rattle.con_events.specs.declared.call.Call.TheVariants as calls
use Rattle.con_events.specs.declared.entry.Entry.{Entry}
use Rattle.con_events.specs.declared.event.Event.{Event}
use Rattle.con_events.specs.declared.event.Event.TheVariants as events
use Rattle.con_events.specs.declared.event.Wanted.{Wanted}
use Rattle.con_events.specs.declared.reply.Reply.{Reply}
use Rattle.con_events.specs.declared.reply.Reply.TheVariants as replies
use Rattle.con_machine.specs.Along.{Along}
use Rattle.con_machine.specs.Words.Chain.{is_handled}
use Rattle.con_machine.specs.Client.{Client, Stance, GoesOn, MayLeave, MustLeave, Gone, client_after, starting, MayBy, MayGoOn, moved_on, entered, took, chained, next_event, is_fail}
use Rattle.con_machine.specs.Words.Client.{May}
use Rattle.con_machine.specs.Follows.{steps_of, kinds_of}
use Rattle.con_machine.specs.History.{run}
use Rattle.con_machine.specs.HistoryLaws.{after-append, along-one, turns-own}
use Rattle.con_laws.specs.Presence.{IsSingle, attached_by, reads_by}
use Rattle.con_laws.specs.PresenceLaws.{own_does, single_step}
use Rattle.con_laws.specs.Rounds.{Begun, client_at}
use Rattle.con_machine.specs.State.{State}
use Rattle.con_machine.specs.Step.{step}
use Rattle.con_machine.specs.Turns.{Turn, turns, turn_of, is_client, is_pending}
use Rattle.con_actors.specs.Words.Desk.{Enters, entry}
use Rattle.con_actors.specs.Standing.{ClientStands, is_here}
use Rattle.con_actors.specs.DeskLaws.{run_one}

-- ---- the client's own record

-- the client's own record is moved by its own entry
pub client_own : (b : Begun) (h : List Entry) (x : Entry) (p : ℕ) → is_client p x.actor ≡ true
    → client_at b (h ++ x ∷ []) p ≡ moved_on (client_at b h p) (turn_of (run b.state h) p x)
client_own b h x p n = ap (client_after (steps_of b.session p) (kinds_of b.racks p)) (turns-own b.state p h x n)
    ∙ after-append moved_on (starting (steps_of b.session p) (kinds_of b.racks p)) (turns b.state p h) (turn_of (run b.state h) p x ∷ [])

-- the client after an entry of its own, as a desk gives it
pub own_is : (b : Begun) (p : ℕ) (s t : State) (h g : List Entry) (rs qs : List Reply) (e : Event) → s ≡ run b.state h
    → Enters s t h g rs qs (actors.Client p) e
    → client_at b g p ≡ record (entered (client_at b h p) e (step s (actors.Client p) e).reply) { pending = is_pending ((step s (actors.Client p) e).after) p }
own_is b p s t h g rs qs e i n =
    let n' = eq-eqb p p refl in
    let P : State → Type 0 = λ z. client_at b g p
    ≡ record (entered (client_at b h p) e (step z (actors.Client p) e).reply) { pending = is_pending ((step z (actors.Client p) e).after) p } in
    subst P (sym i) (ap (λ k. client_at b k p) n.entries ∙ client_own b h (entry (actors.Client p) e) p n')

-- ---- a client that is there and does not go stays

pub here_verdict : (a d f : Bool) → is_here (if a then MustLeave else if d then MayLeave else if f then GoesOn else MustLeave) ≡ true
here_verdict true d f = refl
here_verdict false true f = refl
here_verdict false false true = refl
here_verdict false false false = refl

pub here_took : (c : Client) (r : Reply) → is_here c.stance ≡ true → is_here (took c r).stance ≡ true
here_took c (replies.Ctrl event) i = here_verdict (event == 2) c.doubtful (is_handled c.chain event)
here_took c replies.Done i = i
here_took c (replies.Fail code) i = i
here_took c (replies.Number n) i = i
here_took c (replies.Units us) i = i
here_took c (replies.View v marks fresh) i = i
here_took c (replies.Numbers ns) i = i
here_took c (replies.Records rs) i = i
here_took c (replies.Cells rect cells) i = i
here_took c (replies.Lines ls) i = i

-- handlers alone change
pub record Alone (c d : Client) : Type 0 where
  pub stance : d.stance ≡ c.stance
  pub reading : d.reading ≡ c.reading

pub alone : (d : Client) (call : Call) → Alone d (chained d call)
alone x (calls.BufferCreate a) = record { stance = refl; reading = refl }
alone x (calls.OpenOut a) = record { stance = refl; reading = refl }
alone x (calls.OpenIn a) = record { stance = refl; reading = refl }
alone x (calls.Close a) = record { stance = refl; reading = refl }
alone x (calls.Duplicate a b) = record { stance = refl; reading = refl }
alone x (calls.Activate a) = record { stance = refl; reading = refl }
alone x (calls.Mode a) = record { stance = refl; reading = refl }
alone x (calls.SetMode a b) = record { stance = refl; reading = refl }
alone x (calls.Info a) = record { stance = refl; reading = refl }
alone x (calls.SetSize a b c) = record { stance = refl; reading = refl }
alone x (calls.SetCursor a b c) = record { stance = refl; reading = refl }
alone x (calls.CursorInfo a) = record { stance = refl; reading = refl }
alone x (calls.SetCursorInfo a b c) = record { stance = refl; reading = refl }
alone x (calls.SetOrigin a b c) = record { stance = refl; reading = refl }
alone x (calls.SetAttr a b) = record { stance = refl; reading = refl }
alone x calls.Title = record { stance = refl; reading = refl }
alone x (calls.SetTitle a) = record { stance = refl; reading = refl }
alone x (calls.Write a b) = record { stance = refl; reading = refl }
alone x (calls.RectRead a b) = record { stance = refl; reading = refl }
alone x (calls.RectWrite a b c d) = record { stance = refl; reading = refl }
alone x (calls.RunReadUnits a b c d) = record { stance = refl; reading = refl }
alone x (calls.RunReadAttrs a b c d) = record { stance = refl; reading = refl }
alone x (calls.RunWriteUnits a b c d) = record { stance = refl; reading = refl }
alone x (calls.RunWriteAttrs a b c d) = record { stance = refl; reading = refl }
alone x (calls.FillUnits a b c d f) = record { stance = refl; reading = refl }
alone x (calls.FillAttrs a b c d f) = record { stance = refl; reading = refl }
alone x (calls.Scroll a b c d f g i) = record { stance = refl; reading = refl }
alone x (calls.Peek a b) = record { stance = refl; reading = refl }
alone x (calls.WriteInput a b) = record { stance = refl; reading = refl }
alone x (calls.Count a) = record { stance = refl; reading = refl }
alone x (calls.Flush a) = record { stance = refl; reading = refl }
alone x calls.HistoryInfo = record { stance = refl; reading = refl }
alone x (calls.SetHistory a b c) = record { stance = refl; reading = refl }
alone x calls.HistoryList = record { stance = refl; reading = refl }
alone x calls.HistoryClear = record { stance = refl; reading = refl }
alone x (calls.AliasAdd a b c) = record { stance = refl; reading = refl }
alone x (calls.AliasRemove a b) = record { stance = refl; reading = refl }
alone x (calls.AliasGet a b) = record { stance = refl; reading = refl }
alone x (calls.AliasList a) = record { stance = refl; reading = refl }
alone x calls.Processes = record { stance = refl; reading = refl }
alone x (calls.Signal a b) = record { stance = refl; reading = refl }
alone x (calls.Ignore a) = record { stance = refl; reading = refl }
alone x (calls.HandlerAdd a) = record { stance = refl; reading = refl }
alone x (calls.HandlerRemove a) = record { stance = refl; reading = refl }

pub alone_by : (d : Client) (call : Call) (b : Bool) → Alone d (if b then d else chained d call)
alone_by d call true = record { stance = refl; reading = refl }
alone_by d call false = alone d call

pub here_after : (c : Client) (e : Event) (r : Reply) → is_here c.stance ≡ true → attached_by e ≡ is_here (entered c e r).stance
here_after c (events.Call call) r i = sym (ap is_here (alone_by (record c { left = drop 1 c.left; stance = GoesOn }) call (is_fail r)).stance)
here_after c (events.Begin w) r i = refl
here_after c events.Collect r i = refl
here_after c events.TakeCtrl r i = sym (here_took c r i)
here_after c (events.Exit status) r i = refl
here_after c (events.Feed bs) r i = sym i
here_after c events.Quiet r i = sym i
here_after c (events.Resize z) r i = sym i
here_after c events.Ask r i = sym i
here_after c events.Hangup r i = sym i
here_after c events.Drained r i = sym i
here_after c events.Paint r i = sym i

-- ---- a read is due only where none is open

pub begin_due : (c : Client) (w : Wanted) (reading : Bool) → events.Begin w ≡ (if reading then events.Collect else next_event c.left) → reading ≡ false
begin_due c w true e = absurd (cc)
begin_due c w false e = refl

pub begin_goes : (c : Client) (w : Wanted) (b : Bool) → MayGoOn b c (events.Begin w) → c.reading ≡ false
begin_goes c w true m = absurd (cc)
begin_goes c w false m = elim m [ inl e ↦ absurd (cc) | inr e ↦ begin_due c w c.reading e ]

pub begin_by : (c : Client) (w : Wanted) (s : Stance) → MayBy s c (events.Begin w) → c.reading ≡ false
begin_by c w GoesOn m = begin_goes c w c.pending m
begin_by c w MayLeave m = elim m [ inl e ↦ absurd (cc) | inr g ↦ begin_goes c w c.pending g ]
begin_by c w MustLeave m = absurd (cc)
begin_by c w Gone m = absurd m

pub read_took : (c : Client) (r : Reply) → (took c r).reading ≡ c.reading
read_took c (replies.Ctrl event) = refl
read_took c replies.Done = refl
read_took c (replies.Fail code) = refl
read_took c (replies.Number n) = refl
read_took c (replies.Units us) = refl
read_took c (replies.View v marks fresh) = refl
read_took c (replies.Numbers ns) = refl
read_took c (replies.Records rs) = refl
read_took c (replies.Cells rect cells) = refl
read_took c (replies.Lines ls) = refl

pub read_begin : (r refused : Bool) → r ≡ false → (if refused then r else true) ≡ not refused
read_begin r true e = e
read_begin r false e = refl

pub read_after : (c : Client) (e : Event) (r : Reply) → MayBy c.stance c e → attached_by e ≡ true → reads_by c.reading e (is_fail r) ≡ (entered c e r).reading
read_after c (events.Call call) r m a = sym (alone_by (record c { left = drop 1 c.left; stance = GoesOn }) call (is_fail r)).reading
read_after c (events.Begin w) r m a = read_begin c.reading (is_fail r) (begin_by c w c.stance m)
read_after c events.Collect r m a = refl
read_after c events.TakeCtrl r m a = sym (read_took c r)
read_after c (events.Exit status) r m a = absurd (cc)
read_after c (events.Feed bs) r m a = refl
read_after c events.Quiet r m a = refl
read_after c (events.Resize z) r m a = refl
read_after c events.Ask r m a = refl
read_after c events.Hangup r m a = refl
read_after c events.Drained r m a = refl
read_after c events.Paint r m a = refl

-- ---- its own entry

pub stands_own : (b : Begun) (h : List Entry) (p : ℕ) (e : Event) → ClientStands b h p → is_attached (run b.state h).procs p ≡ true
    → MayBy (client_at b h p).stance (client_at b h p) e
    → ClientStands b (h ++ record { actor = actors.Client p; event = e } ∷ []) p
stands_own b h p e c a m =
    let x : Entry = record { actor = actors.Client p; event = e } in
    let s = run b.state h in
    let n = eq-eqb p p refl in
    let k = own_does s p e a c.single in
    let r = run_one b.state h x in
    let d = client_at b h p in
    let f = client_own b h x p n in
    let reply = (step s (actors.Client p) e).reply in
    record {
      follows = let P : List Turn → Type 0 = λ ts. Along May moved_on (starting (steps_of b.session p) (kinds_of b.racks p)) ts in
          subst P (sym (turns-own b.state p h x n))
          (along-one May moved_on (starting (steps_of b.session p) (kinds_of b.racks p)) (turns b.state p h) (turn_of s p x) c.follows m);
      here = ap (λ (t : State). is_attached t.procs p) r
          ∙ (k.attached ∙ (here_after d e reply (sym c.here ∙ a) ∙ ap (λ (y : Client). is_here y.stance) (sym f)));
      reading = λ g. ap (λ (t : State). is_open t.reads p) r ∙ (k.reading ∙ (ap (λ (y : Bool). reads_by y e (is_fail reply)) (c.reading a)
          ∙ (read_after d e reply m (sym k.attached ∙ (ap (λ (t : State). is_attached t.procs p) (sym r) ∙ g)) ∙ ap (λ (y : Client). y.reading) (sym f))));
      single = let P : State → Type 0 = λ t. IsSingle t p in subst P (sym r) (single_step s (actors.Client p) e p c.single);
      pending = λ g. ap (λ (t : State). is_pending t p) r ∙ (ap (λ (y : Client). y.pending) (sym f) ∙ g);
    }
