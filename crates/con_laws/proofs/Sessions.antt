-- Worked sessions, and small changes of them that follow no session: computed on the definitions.
use Rattle.std.proofs.Common.{inl, inr, subst, sym, ap, ◌∙◌, arith}
use Rattle.std.specs.Prelude.{ℕ, ◌≡◌, ◌⊎◌, ◌<◌, ◌≤◌, ◌||◌, ◌&&◌, if◌then◌else◌, pos, refl, Bool, true, false, take, List, [], ◌∷◌, ◌++◌, codes, Some, None}
use Rattle.con_units.specs.Split.{next, split_after}
use Rattle.con_units.specs.declared.view.Frame.{Frame}
use Rattle.con_units.specs.declared.view.Frame.TheVariants as frames
use Rattle.con_events.specs.Session.{Clients}
use Rattle.con_events.specs.declared.actor.Actor.TheVariants as actors
use Rattle.con_events.specs.declared.call.Call.TheVariants as calls
use Rattle.con_events.specs.declared.end.End.TheVariants as ends
use Rattle.con_events.specs.declared.entry.Entry.{Entry}
use Rattle.con_events.specs.declared.event.Event.{Event}
use Rattle.con_events.specs.declared.event.Event.TheVariants as events
use Rattle.con_events.specs.declared.event.Wanted.TheVariants as wanted
use Rattle.con_events.specs.declared.reply.Reply.{Reply}
use Rattle.con_events.specs.declared.reply.Reply.TheVariants as replies
use Rattle.con_events.specs.declared.script.Script.{Script}
use Rattle.con_events.specs.declared.script.Step.{Step}
use Rattle.con_events.specs.declared.script.Step.TheVariants as steps
use Rattle.con_records.specs.declared.record.Record.TheVariants as kinds
use Rattle.con_vtin.specs.Keys.{is_front, whole, broken}
use Rattle.con_grid.specs.Picture.{part_lifted, lifted, filled}
use Rattle.con_vtgram.specs.Text as text
use Rattle.con_page.specs.Effect as screen
use Rattle.con_page.specs.Print.{printed, advanced, put, wrapped}
use Rattle.con_screen.specs.Told.{is_switch, told_after}
use Rattle.con_page.specs.Echo.{drawn_by, changed, ended}
use Rattle.con_page.specs.Page.{down, shown}
use Rattle.con_screen.specs.Written.{written, heard, split_in, switches}
use Rattle.con_page.specs.Fit.{refitted}
use Rattle.con_screens.specs.Buffer.{written_on, unit_written}
use Rattle.con_handles.specs.Handles.{free_from}
use Rattle.con_procs.specs.Procs.{ids_from}
use Rattle.con_readers.specs.Reads.{settled}
use Rattle.con_readers.specs.Serving.{served}
use Rattle.con_readers.specs.Wants.{units_of, rest_of}
use Rattle.con_machine.specs.State.{State}
use Rattle.con_machine.specs.Step.{step, effect, is_due, is_ready}
use Rattle.con_machine.specs.History.{run, is_legal}
use Rattle.con_machine.specs.Call.{called}
use Rattle.con_machine.specs.Serving.{settled_state}
use Rattle.con_machine.specs.Closing.{closing}
use Rattle.con_machine.specs.Reads.{began, collected, took_ctrl, left, line_front}
use Rattle.con_machine.specs.Terminal.{fed, quiet, resized}
use Rattle.con_machine.specs.Painting.{painted, same_view, view_now}
use Rattle.con_machine.specs.Words.Painting.{differs}
use Rattle.con_machine.specs.Turns.{turns, sent, Turn}
use Rattle.con_machine.specs.Client.{FollowsScript, GoesOn, Gone, client_after}
use Rattle.con_machine.specs.Follows.{Follows, session_start, FollowsLink, AreAnswered, are_of_session, steps_of, kinds_of}
use Rattle.con_laws.specs.Whole.{IsWhole}
use Rattle.con_laws.specs.WholeWords.{HasLeft}
use Rattle.con_laws.specs.RoundWords.{Rounds, SideTurn, painter_turn}
use Rattle.con_laws.specs.Rounds.{client_turn, client_at}
use Rattle.con_machine.specs.SameViews.{shows_same}

abbrev by : ℕ → Event → Entry
by p e = record { actor = actors.Client p; event = e }

abbrev side : Event → Entry
side e = record { actor = actors.Terminal; event = e }

abbrev paint : Entry
paint = record { actor = actors.Painter; event = events.Paint }

abbrev script : List Step → Script
script list = record { program = codes "sh"; group = 1; steps = list }

abbrev session : List Script → Clients
session list = record { size = record { w = 12; h = 3 }; scripts = list }

-- ---- helps

-- a session of one client
one_client : (P : ℕ → Type 0) → P 1 → (p : ℕ) → 0 < p → p ≤ 1 → P p
one_client P h p l m = let e : 1 ≡ p = omega arith in subst P e h

neither : {A B : Type 0} → (A → ⊥) → (B → ⊥) → A ⊎ B → ⊥
neither f g (inl a) = f a
neither f g (inr b) = g b

both : {a b : Bool} → a ≡ true → b ≡ true → (a && b) ≡ true
both {a} {b} e f = rw (e, f) refl

turn_by : (x y d : Bool) → x ≡ false → y ≡ false → d ≡ false → None ≡ (if x || y || d then Some events.Paint else None)
turn_by x y d e f g = rw (e, f, g) refl

-- the painter does nothing where the view is the one painted last
idles : (s t : State) → s.resized ≡ false → s.asked ≡ false → s.painted ≡ Some (view_now t) → view_now s ≡ view_now t → None ≡ painter_turn s false
unfolding is_ready is_due
idles s t r a p v =
    let same : differs (view_now t) (Some (view_now t)) ≡ false = sym (shows_same true (view_now t) (view_now t) (λ e. refl, λ e. refl)) in
    turn_by s.resized s.asked (differs (view_now s) s.painted) r a (ap (λ o. differs (view_now s) o) p ∙ ap (λ w. differs w (Some (view_now t))) v ∙ same)

due_by : (x y d : Bool) → x ≡ false → y ≡ false → d ≡ true → (x || y || d) ≡ true
due_by x y d e f g = rw (e, f, g) refl

-- a Paint is ready where the view is another one
is_due_at : (s t : State) → s.resized ≡ false → s.asked ≡ false → s.painted ≡ Some (view_now t) → (view_now s ≡ view_now t → ⊥) → is_ready s actors.Painter events.Paint ≡ true
unfolding is_ready is_due
is_due_at s t r a p n =
    let other : differs (view_now s) (Some (view_now t)) ≡ true = sym (shows_same false (view_now s) (view_now t) (λ e. absurd (let wrong : false ≡ true = e in cc), λ e. absurd (n e))) in
    due_by s.resized s.asked (differs (view_now s) s.painted) r a (ap (λ o. differs (view_now s) o) p ∙ other)

turn_of : (b : Bool) → b ≡ true → Some events.Paint ≡ (if b then Some events.Paint else None)
turn_of b e = rw e refl

paints : (s : State) → is_ready s actors.Painter events.Paint ≡ true → Some events.Paint ≡ painter_turn s false
paints s e = turn_of (is_ready s actors.Painter events.Paint) e

-- ---- ctrl+C where one handler stands in the chain

abbrev counting : Clients
counting = session (script (steps.Call (calls.HandlerAdd 0) ∷ steps.Call (calls.Count 1) ∷ []) ∷ [])

-- the client's rack has one handler of this kind
abbrev rack : ℕ → List (List ℕ)
rack kind = (kind ∷ []) ∷ []

abbrev break_key : List Frame
break_key = frames.Quiet ∷ frames.Bytes (0x03 ∷ []) ∷ frames.End ∷ []

-- it answers false, and the client leaves
abbrev noted : List Entry
noted = side events.Quiet ∷ by 1 (events.Call (calls.HandlerAdd 0)) ∷ paint ∷ side (events.Feed (0x03 ∷ [])) ∷ by 1 events.TakeCtrl ∷ side events.Drained ∷ by 1 (events.Exit 3221225786) ∷ []

noted_legal : is_legal (session_start counting (rack 2)) noted ≡ true
unfolding step effect called settled_state closing began collected took_ctrl left fed quiet resized painted is_due is_ready line_front settled served units_of rest_of next split_after is_front whole broken same_view ids_from drawn_by changed ended down shown part_lifted lifted filled written_on unit_written written heard split_in switches is_switch screen.effect screen.follow screen.act printed advanced put wrapped told_after refitted free_from
noted_legal = refl

noted_client : FollowsScript (steps_of counting 1) (2 ∷ []) (turns (session_start counting (rack 2)) 1 noted)
unfolding step effect called settled_state closing began collected took_ctrl left fed quiet resized painted is_due is_ready line_front settled served units_of rest_of next split_after is_front whole broken same_view ids_from drawn_by changed ended down shown part_lifted lifted filled written_on unit_written written heard split_in switches is_switch screen.effect screen.follow screen.act printed advanced put wrapped told_after refitted free_from
noted_client = (inr refl, (inl refl, (refl, tt)))

noted_follows : Follows (session_start counting (rack 2)) noted counting (rack 2) break_key ends.Done
unfolding step effect called settled_state closing began collected took_ctrl left fed quiet resized painted is_due is_ready line_front settled served units_of rest_of next split_after is_front whole broken same_view ids_from drawn_by changed ended down shown part_lifted lifted filled written_on unit_written written heard split_in switches is_switch screen.effect screen.follow screen.act printed advanced put wrapped told_after refitted free_from
noted_follows = record {
  actors = refl;
  clients = one_client (λ p. FollowsScript (steps_of counting p) (kinds_of (rack 2) p) (turns (session_start counting (rack 2)) p noted)) noted_client;
  link = ((refl, inl refl), ((refl, inl refl), ((refl, inl refl), tt)));
  answered = (tt, (tt, (tt, (tt, (tt, (tt, (tt, tt)))))));
}

-- after so many entries of it the painter does nothing
abbrev noted_at : ℕ → State
noted_at n = run (session_start counting (rack 2)) (take n noted)

noted_idles : (n : ℕ) → (noted_at n).resized ≡ false → (noted_at n).asked ≡ false → (noted_at n).painted ≡ Some (view_now (session_start counting (rack 2))) → view_now (noted_at n) ≡ view_now (session_start counting (rack 2)) → None ≡ painter_turn (noted_at n) false
noted_idles n r a p v = idles (noted_at n) (session_start counting (rack 2)) r a p v

noted_rounds : Rounds (session_start counting (rack 2)) noted counting (rack 2) ends.Done
unfolding step effect called settled_state closing began collected took_ctrl left fed quiet resized painted is_due is_ready line_front settled served units_of rest_of next split_after is_front whole broken same_view ids_from drawn_by changed ended down shown part_lifted lifted filled written_on unit_written written heard split_in switches is_switch screen.effect screen.follow screen.act printed advanced put wrapped told_after refitted free_from
noted_rounds = record {
  failed = None;
  fails = tt;
  rounds = (Some events.Quiet ∷ Some (events.Call (calls.HandlerAdd 0)) ∷ Some events.Paint ∷ [])
      ∷ (Some (events.Feed (0x03 ∷ [])) ∷ Some events.TakeCtrl ∷ None ∷ [])
      ∷ (Some events.Drained ∷ Some (events.Exit 3221225786) ∷ None ∷ []) ∷ [];
  last = None ∷ None ∷ None ∷ [];
  parts = refl;
  turns_are = (
    (tt, (refl, (refl, tt))),
    refl,
    ((tt, (refl, (noted_idles 5 refl refl refl refl, tt))), refl, ((tt, (refl, (noted_idles 7 refl refl refl refl, tt))), refl, tt)),
  );
  last_is = ((refl, (refl, (noted_idles 7 refl refl refl refl, tt))), refl);
}

-- it answers true, and the client goes on
abbrev swallowed : List Entry
swallowed = side events.Quiet ∷ by 1 (events.Call (calls.HandlerAdd 0)) ∷ paint ∷ side (events.Feed (0x03 ∷ [])) ∷ by 1 events.TakeCtrl ∷ side events.Drained ∷ by 1 (events.Call (calls.Count 1)) ∷ by 1 (events.Exit 0) ∷ []

swallowed_legal : is_legal (session_start counting (rack 1)) swallowed ≡ true
unfolding step effect called settled_state closing began collected took_ctrl left fed quiet resized painted is_due is_ready line_front settled served units_of rest_of next split_after is_front whole broken same_view ids_from drawn_by changed ended down shown part_lifted lifted filled written_on unit_written written heard split_in switches is_switch screen.effect screen.follow screen.act printed advanced put wrapped told_after refitted free_from
swallowed_legal = refl

swallowed_client : FollowsScript (steps_of counting 1) (1 ∷ []) (turns (session_start counting (rack 1)) 1 swallowed)
unfolding step effect called settled_state closing began collected took_ctrl left fed quiet resized painted is_due is_ready line_front settled served units_of rest_of next split_after is_front whole broken same_view ids_from drawn_by changed ended down shown part_lifted lifted filled written_on unit_written written heard split_in switches is_switch screen.effect screen.follow screen.act printed advanced put wrapped told_after refitted free_from
swallowed_client = (inr refl, (inl refl, (inr refl, (inr refl, tt))))

swallowed_follows : Follows (session_start counting (rack 1)) swallowed counting (rack 1) break_key ends.Done
unfolding step effect called settled_state closing began collected took_ctrl left fed quiet resized painted is_due is_ready line_front settled served units_of rest_of next split_after is_front whole broken same_view ids_from drawn_by changed ended down shown part_lifted lifted filled written_on unit_written written heard split_in switches is_switch screen.effect screen.follow screen.act printed advanced put wrapped told_after refitted free_from
swallowed_follows = record {
  actors = refl;
  clients = one_client (λ p. FollowsScript (steps_of counting p) (kinds_of (rack 1) p) (turns (session_start counting (rack 1)) p swallowed)) swallowed_client;
  link = ((refl, inl refl), ((refl, inl refl), ((refl, inl refl), tt)));
  answered = (tt, (tt, (tt, (tt, (tt, (tt, (tt, (tt, tt))))))));
}

-- after so many entries of it the painter does nothing
abbrev swallowed_at : ℕ → State
swallowed_at n = run (session_start counting (rack 1)) (take n swallowed)

swallowed_idles : (n : ℕ) → (swallowed_at n).resized ≡ false → (swallowed_at n).asked ≡ false → (swallowed_at n).painted ≡ Some (view_now (session_start counting (rack 1))) → view_now (swallowed_at n) ≡ view_now (session_start counting (rack 1)) → None ≡ painter_turn (swallowed_at n) false
swallowed_idles n r a p v = idles (swallowed_at n) (session_start counting (rack 1)) r a p v

swallowed_rounds : Rounds (session_start counting (rack 1)) swallowed counting (rack 1) ends.Done
unfolding step effect called settled_state closing began collected took_ctrl left fed quiet resized painted is_due is_ready line_front settled served units_of rest_of next split_after is_front whole broken same_view ids_from drawn_by changed ended down shown part_lifted lifted filled written_on unit_written written heard split_in switches is_switch screen.effect screen.follow screen.act printed advanced put wrapped told_after refitted free_from
swallowed_rounds = record {
  failed = None;
  fails = tt;
  rounds = (Some events.Quiet ∷ Some (events.Call (calls.HandlerAdd 0)) ∷ Some events.Paint ∷ [])
      ∷ (Some (events.Feed (0x03 ∷ [])) ∷ Some events.TakeCtrl ∷ None ∷ [])
      ∷ (Some events.Drained ∷ Some (events.Call (calls.Count 1)) ∷ None ∷ [])
      ∷ (None ∷ Some (events.Exit 0) ∷ None ∷ []) ∷ [];
  last = None ∷ None ∷ None ∷ [];
  parts = refl;
  turns_are = (
    (tt, (refl, (refl, tt))),
    refl,
    ((tt, (refl, (swallowed_idles 5 refl refl refl refl, tt))), refl, ((tt, (refl, (swallowed_idles 7 refl refl refl refl, tt))), refl, ((refl, (refl, (swallowed_idles 8 refl refl refl refl, tt))), refl, tt))),
  );
  last_is = ((refl, (refl, (swallowed_idles 8 refl refl refl refl, tt))), refl);
}

-- it answered false, and the client goes on: this follows no script
goes_on_unhandled : FollowsScript (steps_of counting 1) (2 ∷ []) (turns (session_start counting (rack 2)) 1 swallowed) → ⊥
unfolding step effect called settled_state closing began collected took_ctrl left fed quiet resized painted is_due is_ready line_front settled served units_of rest_of next split_after is_front whole broken same_view ids_from drawn_by changed ended down shown part_lifted lifted filled written_on unit_written written heard split_in switches is_switch screen.effect screen.follow screen.act printed advanced put wrapped told_after refitted free_from
goes_on_unhandled f = let e : events.Call (calls.Count 1) ≡ events.Exit 3221225786 = f.1.1.0 in cc

-- it answered true, and the client leaves
leaves_though_handled : FollowsScript (steps_of counting 1) (1 ∷ []) (turns (session_start counting (rack 1)) 1 noted) → ⊥
unfolding step effect called settled_state closing began collected took_ctrl left fed quiet resized painted is_due is_ready line_front settled served units_of rest_of next split_after is_front whole broken same_view ids_from drawn_by changed ended down shown part_lifted lifted filled written_on unit_written written heard split_in switches is_switch screen.effect screen.follow screen.act printed advanced put wrapped told_after refitted free_from
leaves_though_handled f = neither (λ e. let d : events.Exit 3221225786 ≡ events.TakeCtrl = e in cc) (λ e. let d : events.Exit 3221225786 ≡ events.Call (calls.Count 1) = e in cc) f.1.1.0

-- it tells nothing of its answers: both follow
noted_in_doubt : FollowsScript (steps_of counting 1) (0 ∷ []) (turns (session_start counting (rack 0)) 1 noted)
unfolding step effect called settled_state closing began collected took_ctrl left fed quiet resized painted is_due is_ready line_front settled served units_of rest_of next split_after is_front whole broken same_view ids_from drawn_by changed ended down shown part_lifted lifted filled written_on unit_written written heard split_in switches is_switch screen.effect screen.follow screen.act printed advanced put wrapped told_after refitted free_from
noted_in_doubt = (inr refl, (inl refl, (inl refl, tt)))

swallowed_in_doubt : FollowsScript (steps_of counting 1) (0 ∷ []) (turns (session_start counting (rack 0)) 1 swallowed)
unfolding step effect called settled_state closing began collected took_ctrl left fed quiet resized painted is_due is_ready line_front settled served units_of rest_of next split_after is_front whole broken same_view ids_from drawn_by changed ended down shown part_lifted lifted filled written_on unit_written written heard split_in switches is_switch screen.effect screen.follow screen.act printed advanced put wrapped told_after refitted free_from
swallowed_in_doubt = (inr refl, (inl refl, (inr (inr refl), (inr refl, tt))))

-- ---- the link fails behind two Asks

abbrev silent : Clients
silent = session (script [] ∷ [])

abbrev two_asks : List Frame
two_asks = frames.Ask ∷ frames.Ask ∷ []

abbrev asked_twice : List Entry
asked_twice = side events.Ask ∷ by 1 (events.Exit 0) ∷ paint ∷ side events.Ask ∷ paint ∷ side events.Hangup ∷ []

asked_twice_legal : is_legal (session_start silent []) asked_twice ≡ true
unfolding step effect called settled_state closing began collected took_ctrl left fed quiet resized painted is_due is_ready line_front settled served units_of rest_of next split_after is_front whole broken same_view ids_from drawn_by changed ended down shown part_lifted lifted filled written_on unit_written written heard split_in switches is_switch screen.effect screen.follow screen.act printed advanced put wrapped told_after refitted free_from
asked_twice_legal = refl

asked_twice_client : FollowsScript (steps_of silent 1) [] (turns (session_start silent []) 1 asked_twice)
unfolding step effect called settled_state closing began collected took_ctrl left fed quiet resized painted is_due is_ready line_front settled served units_of rest_of next split_after is_front whole broken same_view ids_from drawn_by changed ended down shown part_lifted lifted filled written_on unit_written written heard split_in switches is_switch screen.effect screen.follow screen.act printed advanced put wrapped told_after refitted free_from
asked_twice_client = (inr refl, tt)

asked_twice_follows : Follows (session_start silent []) asked_twice silent [] two_asks ends.Link
unfolding step effect called settled_state closing began collected took_ctrl left fed quiet resized painted is_due is_ready line_front settled served units_of rest_of next split_after is_front whole broken same_view ids_from drawn_by changed ended down shown part_lifted lifted filled written_on unit_written written heard split_in switches is_switch screen.effect screen.follow screen.act printed advanced put wrapped told_after refitted free_from
asked_twice_follows = record {
  actors = refl;
  clients = one_client (λ p. FollowsScript (steps_of silent p) (kinds_of [] p) (turns (session_start silent []) p asked_twice)) asked_twice_client;
  link = ((refl, inl refl), ((refl, inl refl), ((refl, inr (refl, refl)), tt)));
  answered = (tt, (tt, (tt, (tt, (tt, (tt, tt))))));
}

asked_twice_rounds : Rounds (session_start silent []) asked_twice silent [] ends.Link
unfolding step effect called settled_state closing began collected took_ctrl left fed quiet resized painted is_due is_ready line_front settled served units_of rest_of next split_after is_front whole broken same_view ids_from drawn_by changed ended down shown part_lifted lifted filled written_on unit_written written heard split_in switches is_switch screen.effect screen.follow screen.act printed advanced put wrapped told_after refitted free_from
asked_twice_rounds = record {
  failed = None;
  fails = tt;
  rounds = (Some events.Ask ∷ Some (events.Exit 0) ∷ Some events.Paint ∷ [])
      ∷ (Some events.Ask ∷ None ∷ Some events.Paint ∷ [])
      ∷ (Some events.Hangup ∷ None ∷ None ∷ []) ∷ [];
  last = None ∷ None ∷ None ∷ [];
  parts = refl;
  turns_are = ((tt, (refl, (refl, tt))), refl, ((tt, (refl, (refl, tt))), refl, ((tt, (refl, (idles (run (session_start silent []) asked_twice) (session_start silent []) refl refl refl refl, tt))), refl, tt)));
  last_is = ((refl, (refl, (idles (run (session_start silent []) asked_twice) (session_start silent []) refl refl refl refl, tt))), refl);
}

-- nothing failed: the Hangup is no frame
hangs_up_unasked : FollowsLink false two_asks (sent asked_twice) → ⊥
hangs_up_unasked f = neither (λ n. n) (λ c. let e : false ≡ true = c.0 in cc) f.1.1.0.1

-- a second one stands nowhere
hangs_up_twice : (cut : Bool) → FollowsLink cut (frames.Hangup ∷ []) (events.Hangup ∷ events.Hangup ∷ []) → ⊥
hangs_up_twice cut f = let e : true ≡ false = f.1.0.0 in cc

-- a frame is left out
skips_a_frame : FollowsLink true break_key (events.Feed (0x03 ∷ []) ∷ []) → ⊥
skips_a_frame f = neither (λ n. let e : events.Feed (0x03 ∷ []) ≡ events.Quiet = n in cc) (λ c. let e : events.Feed (0x03 ∷ []) ≡ events.Hangup = c.1 in cc) f.0.1

-- the second Ask is not painted: this may be where the terminal failed, and nowhere else
abbrev unpainted : List Entry
unpainted = side events.Ask ∷ by 1 (events.Exit 0) ∷ paint ∷ side events.Ask ∷ side events.Hangup ∷ []

asks_in_vain : AreAnswered false unpainted → ⊥
asks_in_vain f = let e : false ≡ true = f.1.1.1.1.0 in cc

asks_of_a_lost_terminal : AreAnswered true unpainted
asks_of_a_lost_terminal = (tt, (tt, (tt, (tt, (refl, tt)))))

-- a client that is none of the session's
acts_from_outside : are_of_session 1 (by 2 (events.Exit 0) ∷ []) ≡ false
acts_from_outside = refl

-- ---- two clients wait for input, and a third one gives one record: the other is woken where the console closes

abbrev waiting : Clients
waiting = session (script (steps.Begin (wanted.ReadInput 1 1) ∷ []) ∷ script (steps.Begin (wanted.ReadInput 1 1) ∷ []) ∷ script (steps.Call (calls.WriteInput 1 (kinds.Focus true ∷ [])) ∷ steps.Exit 0 ∷ []) ∷ [])

-- up to the second client's Collect
abbrev all_closed : List Entry
all_closed = by 1 (events.Begin (wanted.ReadInput 1 1)) ∷ by 2 (events.Begin (wanted.ReadInput 1 1)) ∷ by 3 (events.Call (calls.WriteInput 1 (kinds.Focus true ∷ []))) ∷ by 3 (events.Exit 0) ∷ by 1 events.Collect ∷ side events.Drained ∷ by 1 (events.Exit 0) ∷ by 2 events.Collect ∷ []

abbrev woken : List Entry
woken = all_closed ++ by 2 events.TakeCtrl ∷ by 2 (events.Exit 3221225786) ∷ []

woken_legal : is_legal (session_start waiting []) woken ≡ true
unfolding step effect called settled_state closing began collected took_ctrl left fed quiet resized painted is_due is_ready line_front settled served units_of rest_of next split_after is_front whole broken same_view ids_from drawn_by changed ended down shown part_lifted lifted filled written_on unit_written written heard split_in switches is_switch screen.effect screen.follow screen.act printed advanced put wrapped told_after refitted free_from
woken_legal = refl

woken_first : FollowsScript (steps_of waiting 1) [] (turns (session_start waiting []) 1 woken)
unfolding step effect called settled_state closing began collected took_ctrl left fed quiet resized painted is_due is_ready line_front settled served units_of rest_of next split_after is_front whole broken same_view ids_from drawn_by changed ended down shown part_lifted lifted filled written_on unit_written written heard split_in switches is_switch screen.effect screen.follow screen.act printed advanced put wrapped told_after refitted free_from
woken_first = (inr refl, (inr refl, (inr refl, tt)))

woken_second : FollowsScript (steps_of waiting 2) [] (turns (session_start waiting []) 2 woken)
unfolding step effect called settled_state closing began collected took_ctrl left fed quiet resized painted is_due is_ready line_front settled served units_of rest_of next split_after is_front whole broken same_view ids_from drawn_by changed ended down shown part_lifted lifted filled written_on unit_written written heard split_in switches is_switch screen.effect screen.follow screen.act printed advanced put wrapped told_after refitted free_from
woken_second = (inr refl, (inr refl, (refl, (refl, tt))))

woken_third : FollowsScript (steps_of waiting 3) [] (turns (session_start waiting []) 3 woken)
unfolding step effect called settled_state closing began collected took_ctrl left fed quiet resized painted is_due is_ready line_front settled served units_of rest_of next split_after is_front whole broken same_view ids_from drawn_by changed ended down shown part_lifted lifted filled written_on unit_written written heard split_in switches is_switch screen.effect screen.follow screen.act printed advanced put wrapped told_after refitted free_from
woken_third = (inr refl, (inr refl, tt))

-- it goes on though an event is pending at the end of its Collect
leaves_an_event : FollowsScript (steps_of waiting 2) [] (turns (session_start waiting []) 2 (all_closed ++ by 2 (events.Exit 0) ∷ [])) → ⊥
unfolding step effect called settled_state closing began collected took_ctrl left fed quiet resized painted is_due is_ready line_front settled served units_of rest_of next split_after is_front whole broken same_view ids_from drawn_by changed ended down shown part_lifted lifted filled written_on unit_written written heard split_in switches is_switch screen.effect screen.follow screen.act printed advanced put wrapped told_after refitted free_from
leaves_an_event f = let e : events.Exit 0 ≡ events.TakeCtrl = f.1.1.0 in cc

-- it goes on behind the close event
goes_on_behind_close : FollowsScript (steps_of waiting 2) [] (turns (session_start waiting []) 2 (all_closed ++ by 2 events.TakeCtrl ∷ by 2 (events.Exit 0) ∷ [])) → ⊥
unfolding step effect called settled_state closing began collected took_ctrl left fed quiet resized painted is_due is_ready line_front settled served units_of rest_of next split_after is_front whole broken same_view ids_from drawn_by changed ended down shown part_lifted lifted filled written_on unit_written written heard split_in switches is_switch screen.effect screen.follow screen.act printed advanced put wrapped told_after refitted free_from
goes_on_behind_close f = let e : events.Exit 0 ≡ events.Exit 3221225786 = f.1.1.1.0 in grind arith

-- it leaves before it has collected
leaves_before_collect : FollowsScript (steps_of waiting 1) [] (turns (session_start waiting []) 1 (by 1 (events.Begin (wanted.ReadInput 1 1)) ∷ by 1 (events.Exit 0) ∷ [])) → ⊥
unfolding step effect called settled_state closing began collected took_ctrl left fed quiet resized painted is_due is_ready line_front settled served units_of rest_of next split_after is_front whole broken same_view ids_from drawn_by changed ended down shown part_lifted lifted filled written_on unit_written written heard split_in switches is_switch screen.effect screen.follow screen.act printed advanced put wrapped told_after refitted free_from
leaves_before_collect f = neither (λ n. let e : events.Exit 0 ≡ events.TakeCtrl = n in cc) (λ n. let e : events.Exit 0 ≡ events.Collect = n in cc) f.1.0

-- a step is left out
skips_a_step : FollowsScript (steps_of waiting 3) [] (turns (session_start waiting []) 3 (by 3 (events.Exit 0) ∷ [])) → ⊥
unfolding step effect called settled_state closing began collected took_ctrl left fed quiet resized painted is_due is_ready line_front settled served units_of rest_of next split_after is_front whole broken same_view ids_from drawn_by changed ended down shown part_lifted lifted filled written_on unit_written written heard split_in switches is_switch screen.effect screen.follow screen.act printed advanced put wrapped told_after refitted free_from
skips_a_step f = neither (λ n. let e : events.Exit 0 ≡ events.TakeCtrl = n in cc) (λ n. let e : events.Exit 0 ≡ events.Call (calls.WriteInput 1 (kinds.Focus true ∷ [])) = n in cc) f.0

-- nothing follows an exit
acts_behind_exit : FollowsScript (steps_of waiting 3) [] (turns (session_start waiting []) 3 (all_closed ++ by 3 events.Collect ∷ [])) → ⊥
unfolding step effect called settled_state closing began collected took_ctrl left fed quiet resized painted is_due is_ready line_front settled served units_of rest_of next split_after is_front whole broken same_view ids_from drawn_by changed ended down shown part_lifted lifted filled written_on unit_written written heard split_in switches is_switch screen.effect screen.follow screen.act printed advanced put wrapped told_after refitted free_from
acts_behind_exit f = f.1.1.0

-- ---- two handlers: the newest is asked first

abbrev turn : Event → Reply → Bool → Turn
turn e reply pending = record { event = e; reply = reply; pending = pending }

-- both are added, ctrl+C comes, the handler at this place is removed, ctrl+C comes again, and the client goes on
abbrev removing : ℕ → List Step
removing place = steps.Call (calls.HandlerAdd 0) ∷ steps.Call (calls.HandlerAdd 1) ∷ steps.Call (calls.HandlerRemove place) ∷ steps.Exit 5 ∷ []

abbrev broken_twice : ℕ → List Turn
broken_twice place = turn (events.Call (calls.HandlerAdd 0)) replies.Done false ∷ turn (events.Call (calls.HandlerAdd 1)) replies.Done true ∷ turn events.TakeCtrl (replies.Ctrl 0) false
    ∷ turn (events.Call (calls.HandlerRemove place)) replies.Done true ∷ turn events.TakeCtrl (replies.Ctrl 0) false ∷ turn (events.Exit 5) replies.Done false ∷ []

-- Once was added before Swallow, which answered first: so it answers true the second time
asked_second : FollowsScript (removing 1) (3 ∷ 1 ∷ []) (broken_twice 1)
asked_second = (inr refl, (inr refl, (refl, (inr refl, (refl, (inr refl, tt))))))

-- Once was added behind Swallow, and answered first: it does not answer true again
asked_in_the_wrong_order : FollowsScript (removing 0) (1 ∷ 3 ∷ []) (broken_twice 0) → ⊥
asked_in_the_wrong_order f = let e : events.Exit 5 ≡ events.Exit 3221225786 = f.1.1.1.1.1.0 in grind arith

-- ---- a shell reads a line

abbrev shell : Clients
shell = session (script (steps.Call (calls.SetMode 2 7) ∷ steps.Call (calls.AliasAdd (codes "sh") (codes "ls") (codes "dir $*")) ∷ steps.Call (calls.Write 2 (codes "$ ")) ∷ steps.Begin (wanted.Read 1 200) ∷ steps.Call (calls.Write 2 (codes "f")) ∷ steps.Call (calls.SetTitle (codes "t")) ∷ steps.Exit 0 ∷ []) ∷ [])

abbrev typed : List ℕ
typed = codes "ls -l" ++ 0x0D ∷ []

abbrev typing : List Frame
typing = frames.Bytes typed ∷ frames.Ask ∷ frames.End ∷ []

abbrev listing : List Entry
listing = side (events.Feed typed) ∷ by 1 (events.Call (calls.SetMode 2 7)) ∷ paint
    ∷ side events.Ask ∷ by 1 (events.Call (calls.AliasAdd (codes "sh") (codes "ls") (codes "dir $*"))) ∷ paint
    ∷ side events.Drained ∷ by 1 (events.Call (calls.Write 2 (codes "$ "))) ∷ paint
    ∷ by 1 (events.Begin (wanted.Read 1 200)) ∷ paint
    ∷ by 1 events.Collect
    ∷ by 1 (events.Call (calls.Write 2 (codes "f"))) ∷ paint
    ∷ by 1 (events.Call (calls.SetTitle (codes "t")))
    ∷ by 1 (events.Exit 0) ∷ []

abbrev listing_at : ℕ → State
listing_at n = run (session_start shell []) (take n listing)

-- the prompt, the line and what is written behind it are each to be painted
prompt_due : is_ready (listing_at 8) actors.Painter events.Paint ≡ true
unfolding step effect called settled_state closing began collected took_ctrl left fed quiet resized painted is_due is_ready line_front settled served units_of rest_of next split_after is_front whole broken same_view ids_from drawn_by changed ended down shown part_lifted lifted filled written_on unit_written written heard split_in switches is_switch screen.effect screen.follow screen.act printed advanced put wrapped told_after refitted free_from text.is_front text.whole
prompt_due = is_due_at (listing_at 8) (listing_at 5) refl refl refl (λ e. let x : pos 2 ≡ pos 0 = ap (λ v. v.cursor.x) e in cc)

line_due : is_ready (listing_at 10) actors.Painter events.Paint ≡ true
unfolding step effect called settled_state closing began collected took_ctrl left fed quiet resized painted is_due is_ready line_front settled served units_of rest_of next split_after is_front whole broken same_view ids_from drawn_by changed ended down shown part_lifted lifted filled written_on unit_written written heard split_in switches is_switch screen.effect screen.follow screen.act printed advanced put wrapped told_after refitted free_from text.is_front text.whole
line_due = is_due_at (listing_at 10) (listing_at 8) refl refl refl (λ e. let x : pos 0 ≡ pos 2 = ap (λ v. v.cursor.x) e in cc)

output_due : is_ready (listing_at 13) actors.Painter events.Paint ≡ true
unfolding step effect called settled_state closing began collected took_ctrl left fed quiet resized painted is_due is_ready line_front settled served units_of rest_of next split_after is_front whole broken same_view ids_from drawn_by changed ended down shown part_lifted lifted filled written_on unit_written written heard split_in switches is_switch screen.effect screen.follow screen.act printed advanced put wrapped told_after refitted free_from text.is_front text.whole
output_due = is_due_at (listing_at 13) (listing_at 10) refl refl refl (λ e. let x : pos 1 ≡ pos 0 = ap (λ v. v.cursor.x) e in cc)

listing_legal : is_legal (session_start shell []) listing ≡ true
unfolding step effect called settled_state closing began collected took_ctrl left fed quiet resized painted is_due is_ready line_front settled served units_of rest_of next split_after is_front whole broken same_view ids_from drawn_by changed ended down shown part_lifted lifted filled written_on unit_written written heard split_in switches is_switch screen.effect screen.follow screen.act printed advanced put wrapped told_after refitted free_from text.is_front text.whole
listing_legal = both refl (both refl (both refl (both refl (both refl (both refl (both refl (both refl (both prompt_due (both refl (both line_due (both refl (both refl (both output_due (both refl (both refl refl)))))))))))))))

listing_client : FollowsScript (steps_of shell 1) [] (turns (session_start shell []) 1 listing)
unfolding step effect called settled_state closing began collected took_ctrl left fed quiet resized painted is_due is_ready line_front settled served units_of rest_of next split_after is_front whole broken same_view ids_from drawn_by changed ended down shown part_lifted lifted filled written_on unit_written written heard split_in switches is_switch screen.effect screen.follow screen.act printed advanced put wrapped told_after refitted free_from text.is_front text.whole
listing_client = (inr refl, (inr refl, (inr refl, (inr refl, (inr refl, (inr refl, (inr refl, (inr refl, tt))))))))

listing_follows : Follows (session_start shell []) listing shell [] typing ends.Done
unfolding step effect called settled_state closing began collected took_ctrl left fed quiet resized painted is_due is_ready line_front settled served units_of rest_of next split_after is_front whole broken same_view ids_from drawn_by changed ended down shown part_lifted lifted filled written_on unit_written written heard split_in switches is_switch screen.effect screen.follow screen.act printed advanced put wrapped told_after refitted free_from text.is_front text.whole
listing_follows = record {
  actors = refl;
  clients = one_client (λ p. FollowsScript (steps_of shell p) (kinds_of [] p) (turns (session_start shell []) p listing)) listing_client;
  link = ((refl, inl refl), ((refl, inl refl), ((refl, inl refl), tt)));
  answered = (tt, (tt, (tt, (tt, (tt, (tt, (tt, (tt, (tt, (tt, (tt, (tt, (tt, (tt, (tt, (tt, tt))))))))))))))));
}

-- the first frame is left out
skips_the_first_frame : FollowsLink false typing (sent (by 1 (events.Call (calls.SetMode 2 7)) ∷ side events.Ask ∷ [])) → ⊥
skips_the_first_frame f = neither (λ n. let e : events.Ask ≡ events.Feed typed = n in cc) (λ c. let e : false ≡ true = c.0 in cc) f.0.1

-- in rounds the painter cannot wait with what is due
waits_with_the_prompt : painter_turn (listing_at 8) false ≡ None → ⊥
waits_with_the_prompt e = let wrong : Some events.Paint ≡ None = paints (listing_at 8) prompt_due ∙ e in cc

-- nor the client with a control event
waits_with_an_event : client_turn (noted_at 4) 1 (client_at (record { state = session_start counting (rack 2); session = counting; racks = rack 2; failed = None }) (take 4 noted) 1) ≡ Some (events.Call (calls.Count 1)) → ⊥
unfolding step effect called settled_state closing began collected took_ctrl left fed quiet resized painted is_due is_ready line_front settled served units_of rest_of next split_after is_front whole broken same_view ids_from drawn_by changed ended down shown part_lifted lifted filled written_on unit_written written heard split_in switches is_switch screen.effect screen.follow screen.act printed advanced put wrapped told_after refitted free_from text.is_front text.whole
waits_with_an_event e = let wrong : Some events.TakeCtrl ≡ Some (events.Call (calls.Count 1)) = e in cc

-- ---- the terminal fails at the first Paint of the shell

abbrev lost : List Entry
lost = side (events.Feed typed) ∷ by 1 (events.Call (calls.SetMode 2 7)) ∷ paint ∷ side events.Hangup ∷ by 1 events.TakeCtrl ∷ by 1 (events.Exit 3221225786) ∷ []

lost_legal : is_legal (session_start shell []) lost ≡ true
unfolding step effect called settled_state closing began collected took_ctrl left fed quiet resized painted is_due is_ready line_front settled served units_of rest_of next split_after is_front whole broken same_view ids_from drawn_by changed ended down shown part_lifted lifted filled written_on unit_written written heard split_in switches is_switch screen.effect screen.follow screen.act printed advanced put wrapped told_after refitted free_from text.is_front text.whole
lost_legal = refl

lost_client : FollowsScript (steps_of shell 1) [] (turns (session_start shell []) 1 lost)
unfolding step effect called settled_state closing began collected took_ctrl left fed quiet resized painted is_due is_ready line_front settled served units_of rest_of next split_after is_front whole broken same_view ids_from drawn_by changed ended down shown part_lifted lifted filled written_on unit_written written heard split_in switches is_switch screen.effect screen.follow screen.act printed advanced put wrapped told_after refitted free_from text.is_front text.whole
lost_client = (inr refl, (inl refl, (refl, tt)))

lost_follows : Follows (session_start shell []) lost shell [] typing ends.Term
unfolding step effect called settled_state closing began collected took_ctrl left fed quiet resized painted is_due is_ready line_front settled served units_of rest_of next split_after is_front whole broken same_view ids_from drawn_by changed ended down shown part_lifted lifted filled written_on unit_written written heard split_in switches is_switch screen.effect screen.follow screen.act printed advanced put wrapped told_after refitted free_from text.is_front text.whole
lost_follows = record {
  actors = refl;
  clients = one_client (λ p. FollowsScript (steps_of shell p) (kinds_of [] p) (turns (session_start shell []) p lost)) lost_client;
  link = ((refl, inl refl), ((refl, inr (refl, refl)), tt));
  answered = (tt, (tt, (tt, (tt, (tt, (tt, tt))))));
}

lost_rounds : Rounds (session_start shell []) lost shell [] ends.Term
unfolding step effect called settled_state closing began collected took_ctrl left fed quiet resized painted is_due is_ready line_front settled served units_of rest_of next split_after is_front whole broken same_view ids_from drawn_by changed ended down shown part_lifted lifted filled written_on unit_written written heard split_in switches is_switch screen.effect screen.follow screen.act printed advanced put wrapped told_after refitted free_from text.is_front text.whole
lost_rounds = record {
  failed = Some 1;
  fails = (refl, (let l : 0 < 1 = omega arith in l), refl);
  rounds = (Some (events.Feed typed) ∷ Some (events.Call (calls.SetMode 2 7)) ∷ Some events.Paint ∷ [])
      ∷ (Some events.Hangup ∷ Some events.TakeCtrl ∷ None ∷ [])
      ∷ (None ∷ Some (events.Exit 3221225786) ∷ None ∷ []) ∷ [];
  last = None ∷ None ∷ None ∷ [];
  parts = refl;
  turns_are = ((tt, (refl, (refl, tt))), refl, ((refl, (refl, (refl, tt))), refl, ((refl, (refl, (refl, tt))), refl, tt)));
  last_is = ((refl, (refl, (refl, tt))), refl);
}

-- once it failed no frame is read
reads_on : SideTurn false true (Some events.Ask) → ⊥
reads_on e = cc

-- ---- a client waits for input, by rounds

abbrev reader : Clients
reader = session (script (steps.Begin (wanted.ReadInput 1 1) ∷ []) ∷ [])

abbrev late_key : List Frame
late_key = frames.Quiet ∷ frames.Quiet ∷ frames.Bytes (0x61 ∷ []) ∷ frames.End ∷ []

-- in the second round the read is not done, and the client does nothing
abbrev waited : List Entry
waited = side events.Quiet ∷ by 1 (events.Begin (wanted.ReadInput 1 1)) ∷ paint ∷ side events.Quiet ∷ side (events.Feed (0x61 ∷ [])) ∷ by 1 events.Collect ∷ side events.Drained ∷ by 1 (events.Exit 0) ∷ []

abbrev waited_at : ℕ → State
waited_at n = run (session_start reader []) (take n waited)

waited_legal : is_legal (session_start reader []) waited ≡ true
unfolding step effect called settled_state closing began collected took_ctrl left fed quiet resized painted is_due is_ready line_front settled served units_of rest_of next split_after is_front whole broken same_view ids_from drawn_by changed ended down shown part_lifted lifted filled written_on unit_written written heard split_in switches is_switch screen.effect screen.follow screen.act printed advanced put wrapped told_after refitted free_from
waited_legal = refl

waited_client : FollowsScript (steps_of reader 1) [] (turns (session_start reader []) 1 waited)
unfolding step effect called settled_state closing began collected took_ctrl left fed quiet resized painted is_due is_ready line_front settled served units_of rest_of next split_after is_front whole broken same_view ids_from drawn_by changed ended down shown part_lifted lifted filled written_on unit_written written heard split_in switches is_switch screen.effect screen.follow screen.act printed advanced put wrapped told_after refitted free_from
waited_client = (inr refl, (inr refl, (inr refl, tt)))

waited_follows : Follows (session_start reader []) waited reader [] late_key ends.Done
unfolding step effect called settled_state closing began collected took_ctrl left fed quiet resized painted is_due is_ready line_front settled served units_of rest_of next split_after is_front whole broken same_view ids_from drawn_by changed ended down shown part_lifted lifted filled written_on unit_written written heard split_in switches is_switch screen.effect screen.follow screen.act printed advanced put wrapped told_after refitted free_from
waited_follows = record {
  actors = refl;
  clients = one_client (λ p. FollowsScript (steps_of reader p) (kinds_of [] p) (turns (session_start reader []) p waited)) waited_client;
  link = ((refl, inl refl), ((refl, inl refl), ((refl, inl refl), ((refl, inl refl), tt))));
  answered = (tt, (tt, (tt, (tt, (tt, (tt, (tt, (tt, tt))))))));
}

waited_rounds : Rounds (session_start reader []) waited reader [] ends.Done
unfolding step effect called settled_state closing began collected took_ctrl left fed quiet resized painted is_due is_ready line_front settled served units_of rest_of next split_after is_front whole broken same_view ids_from drawn_by changed ended down shown part_lifted lifted filled written_on unit_written written heard split_in switches is_switch screen.effect screen.follow screen.act printed advanced put wrapped told_after refitted free_from
waited_rounds = record {
  failed = None;
  fails = tt;
  rounds = (Some events.Quiet ∷ Some (events.Begin (wanted.ReadInput 1 1)) ∷ Some events.Paint ∷ [])
      ∷ (Some events.Quiet ∷ None ∷ None ∷ [])
      ∷ (Some (events.Feed (0x61 ∷ [])) ∷ Some events.Collect ∷ None ∷ [])
      ∷ (Some events.Drained ∷ Some (events.Exit 0) ∷ None ∷ []) ∷ [];
  last = None ∷ None ∷ None ∷ [];
  parts = refl;
  turns_are = (
    (tt, (refl, (refl, tt))),
    refl,
    (
      (tt, (refl, (idles (waited_at 4) (session_start reader []) refl refl refl refl, tt))),
      refl,
      ((tt, (refl, (idles (waited_at 6) (session_start reader []) refl refl refl refl, tt))), refl, ((tt, (refl, (idles (waited_at 8) (session_start reader []) refl refl refl refl, tt))), refl, tt)),
    ),
  );
  last_is = ((refl, (refl, (idles (waited_at 8) (session_start reader []) refl refl refl refl, tt))), refl);
}

waited_whole : IsWhole (session_start reader []) waited reader []
unfolding step effect called settled_state closing began collected took_ctrl left fed quiet resized painted is_due is_ready line_front settled served units_of rest_of next split_after is_front whole broken same_view ids_from drawn_by changed ended down shown part_lifted lifted filled written_on unit_written written heard split_in switches is_switch screen.effect screen.follow screen.act printed advanced put wrapped told_after refitted free_from
waited_whole = record {
  clients = one_client (λ p. HasLeft (client_after (steps_of reader p) (kinds_of [] p) (turns (session_start reader []) p waited))) refl;
  ended = refl;
  shown = record {
    front = take 2 waited;
    last = paint;
    back = side events.Quiet ∷ side (events.Feed (0x61 ∷ [])) ∷ by 1 events.Collect ∷ side events.Drained ∷ by 1 (events.Exit 0) ∷ [];
    parts = refl;
    paint = refl;
    none = refl;
    view = refl;
  };
}

-- without its Exit the client has not left
stays : HasLeft (client_after (steps_of reader 1) [] (turns (session_start reader []) 1 (take 7 waited))) → ⊥
unfolding step effect called settled_state closing began collected took_ctrl left fed quiet resized painted is_due is_ready line_front settled served units_of rest_of next split_after is_front whole broken same_view ids_from drawn_by changed ended down shown part_lifted lifted filled written_on unit_written written heard split_in switches is_switch screen.effect screen.follow screen.act printed advanced put wrapped told_after refitted free_from
stays e = let wrong : GoesOn ≡ Gone = e in cc
