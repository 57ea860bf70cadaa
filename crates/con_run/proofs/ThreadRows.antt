-- Worked threads: a client, the terminal's side, the painter and the writer behind small histories, computed on the definitions.
use Rattle.std.proofs.Common.{subst, ap, inl, inr, arith}
use Rattle.std.specs.Prelude.{ℕ, ◌+◌, ◌≡◌, ◌⊎◌, refl, ◌≤◌, Bool, true, false, List, [], ◌∷◌, ◌++◌, codes, map, flat_map, length, take, Option, Some, None}
use Rattle.con_units.specs.Split.{next, split_after}
use Rattle.con_units.specs.declared.view.Frame.{Frame}
use Rattle.con_units.specs.declared.view.Frame.TheVariants as frames
use Rattle.con_outside.specs.Outside.{then_left, then_written}
use Rattle.con_link.specs.Frames.{spelling}
use Rattle.con_paint.specs.Painter.{Kept}
use Rattle.con_events.specs.Session.{Clients}
use Rattle.con_events.specs.declared.actor.Actor.TheVariants as actors
use Rattle.con_events.specs.declared.call.Call.TheVariants as calls
use Rattle.con_events.specs.declared.end.End.TheVariants as ends
use Rattle.con_events.specs.declared.entry.Entry.{Entry}
use Rattle.con_events.specs.declared.event.Event.{Event}
use Rattle.con_events.specs.declared.event.Event.TheVariants as events
use Rattle.con_events.specs.declared.script.Step.{Step}
use Rattle.con_events.specs.declared.script.Step.TheVariants as steps
use Rattle.con_vtin.specs.Keys.{is_front, whole, broken}
use Rattle.con_grid.specs.Picture.{part_lifted, lifted, filled}
use Rattle.con_page.specs.Echo.{drawn_by, changed, ended}
use Rattle.con_page.specs.Page.{down, shown}
use Rattle.con_screen.specs.Written.{written, heard, split_in, switches}
use Rattle.con_page.specs.Fit.{refitted}
use Rattle.con_screens.specs.Buffer.{written_on, unit_written}
use Rattle.con_handles.specs.Handles.{free_from}
use Rattle.con_procs.specs.Procs.{ids_from}
use Rattle.con_readers.specs.Reads.{settled}
use Rattle.con_readers.specs.Serving.{served}
use Rattle.con_readers.specs.Wants.{units_of, rest_of}
use Rattle.con_machine.specs.Step.{step, effect, is_due, is_ready}
use Rattle.con_machine.specs.Call.{called}
use Rattle.con_machine.specs.Serving.{settled_state}
use Rattle.con_machine.specs.Closing.{closing}
use Rattle.con_machine.specs.Follows.{sent_by}
use Rattle.con_machine.specs.Reads.{began, collected, took_ctrl, left, line_front}
use Rattle.con_laws.specs.Rounds.{Begun}
use Rattle.con_machine.specs.Terminal.{fed, quiet, resized}
use Rattle.con_machine.specs.Painting.{painted, same_view}
use Rattle.con_actors.specs.Words.Runs.{ends_from}
use Rattle.con_actors.specs.Words.Sender.{LinkIs, hung}
use Rattle.con_actors.specs.Solo.{AsksStand, begins}
use Rattle.con_actors.specs.declared.side.Side.{Side}
use Rattle.con_actors.specs.declared.worker.Worker.{Worker}
use Rattle.con_threads.specs.Clients.{ClientGoes}
use Rattle.con_threads.specs.Painters.{Draws, DrawsLess}
use Rattle.con_threads.specs.Post.{AreOthers}
use Rattle.con_threads.specs.Sides.{IsSending, SideGoes}
use Rattle.con_threads.specs.Writers.{Writes}

abbrev by : Event → Entry
by e = record { actor = actors.Client 1; event = e }

abbrev side : Event → Entry
side e = record { actor = actors.Terminal; event = e }

abbrev paints : Entry
paints = record { actor = actors.Painter; event = events.Paint }

abbrev count : Event
count = events.Call (calls.Count 1)

-- a window of 10 by 3, and one client, which counts the records of its input
abbrev session : Clients
session = record { size = record { w = 10; h = 3 }; scripts = record { program = codes "a"; group = 1; steps = steps.Call (calls.Count 1) ∷ [] } ∷ [] }

abbrev counting : Begun
counting = begins session ([] ∷ []) None

-- ---- what others enter between two events of an actor

of_others : AreOthers (actors.Client 1) (side events.Quiet ∷ paints ∷ record { actor = actors.Client 2; event = count } ∷ [])
of_others = refl

one_of_its_own : AreOthers (actors.Client 1) (side events.Quiet ∷ by count ∷ paints ∷ []) → ⊥
one_of_its_own e = absurd (let wrong : false ≡ true = e in cc)

-- ---- a client

abbrev worker : ℕ → Bool → Worker
worker n gone = record { at = n; reading = false; leaving = false; gone = gone }

abbrev session_steps : List Step
session_steps = steps.Call (calls.Count 1) ∷ []

-- it counted and left
abbrev whole_script : List Entry
whole_script = by count ∷ side events.Quiet ∷ by (events.Exit 0) ∷ []

-- while it is here a step is still to come
here_goes : ClientGoes counting 1 (by count ∷ side events.Quiet ∷ []) session_steps false (worker 1 false) [] [] []
unfolding step effect called settled_state closing began collected took_ctrl left fed quiet resized painted is_due is_ready line_front settled served units_of
    rest_of is_front whole broken next split_after drawn_by changed ended down shown part_lifted lifted written_on unit_written written heard split_in switches
    refitted filled free_from ids_from same_view
here_goes = record {
  stands = record {
    follows = (inr refl, tt);
    here = refl;
    reading = λ e. refl;
    single = let few : 0 ≤ 1 = omega arith in few;
    pending = λ e. absurd (let wrong : false ≡ true = e in cc);
  };
  worker = λ e. record { left = refl; reading = refl; stance = (refl, refl) };
  hands = λ e f. record {
    chain = record { places' = λ d. refl; kinds = λ d. refl; asked = λ d. refl; known = λ d. refl };
    rack = record { left = λ i d. refl; added = refl; once = refl };
  };
  dropped = λ e. absurd (let wrong : false ≡ true = e in cc);
}

gone_goes : ClientGoes counting 1 whole_script session_steps false (worker 1 true) [] [] []
unfolding step effect called settled_state closing began collected took_ctrl left fed quiet resized painted is_due is_ready line_front settled served units_of
    rest_of is_front whole broken next split_after drawn_by changed ended down shown part_lifted lifted written_on unit_written written heard split_in switches
    refitted filled free_from ids_from same_view
gone_goes = record {
  stands = record {
    follows = (inr refl, (inr refl, tt));
    here = refl;
    reading = λ e. absurd (let wrong : false ≡ true = e in cc);
    single = let few : 0 ≤ 1 = omega arith in few;
    pending = λ e. absurd (let wrong : false ≡ true = e in cc);
  };
  worker = λ e. record { left = refl; reading = refl; stance = refl };
  hands = λ e f. absurd (let wrong : true ≡ false = f in cc);
  dropped = λ e. (refl, refl);
}

-- a thread that is gone has entered its exit
gone_too_early : ClientGoes counting 1 (by count ∷ []) session_steps false (worker 1 true) [] [] [] → ⊥
unfolding step effect called settled_state closing began collected took_ctrl left fed quiet resized painted is_due is_ready line_front settled served units_of
    rest_of is_front whole broken next split_after drawn_by changed ended down shown part_lifted lifted written_on unit_written written heard split_in switches
    refitted filled free_from ids_from same_view
gone_too_early x = let wrong : true ≡ false = (x.worker refl).stance.1 in absurd (cc)

-- and knows which step comes next
a_step_again : ClientGoes counting 1 (by count ∷ []) session_steps false (worker 0 false) [] [] [] → ⊥
unfolding step effect called settled_state closing began collected took_ctrl left fed quiet resized painted is_due is_ready line_front settled served units_of
    rest_of is_front whole broken next split_after drawn_by changed ended down shown part_lifted lifted written_on unit_written written heard split_in switches
    refitted filled free_from ids_from same_view
a_step_again x = let wrong : [] ≡ session_steps = (x.worker refl).left in absurd (cc)

-- and keeps no handlers
handlers_kept : (slot : ℕ) → ClientGoes counting 1 whole_script session_steps false (worker 1 true) [] [] (slot ∷ []) → ⊥
handlers_kept slot x = let wrong : slot ∷ [] ≡ [] = (x.dropped refl).1 in absurd (cc)

-- ---- the terminal's side

sent_behind : IsSending counting.state (events.Feed (codes "x")) [] (by count ∷ side (events.Feed (codes "x")) ∷ [])
unfolding step effect called settled_state closing began collected took_ctrl left fed quiet resized painted is_due is_ready line_front settled served units_of
    rest_of is_front whole broken next split_after drawn_by changed ended down shown part_lifted lifted written_on unit_written written heard split_in switches
    refitted filled free_from ids_from same_view
sent_behind = record { between = by count ∷ []; others = refl; legal = refl; entries' = refl }

-- it hung up while an Ask stood without its Paint, which it may once the terminal has failed
abbrev asked_and_gone : List Entry
asked_and_gone = side events.Ask ∷ side events.Hangup ∷ []

hung_up_early : AsksStand counting asked_and_gone false → ⊥
hung_up_early x = let wrong : false ≡ true = (x.answered false (λ e. e)).1.0 in absurd (cc)

hung_up_failed : AsksStand counting asked_and_gone true
unfolding step effect called settled_state closing began collected took_ctrl left fed quiet resized painted is_due is_ready line_front settled served units_of
    rest_of is_front whole broken next split_after drawn_by changed ended down shown part_lifted lifted written_on unit_written written heard split_in switches
    refitted filled free_from ids_from same_view
hung_up_failed = record { answered = λ l e. (tt, (e refl, tt)); asked' = refl }

-- It hung up behind the frame of the link's one byte, though the link was no longer than that: the end is none of a whole link.
abbrev quiet_and_gone : List Entry
quiet_and_gone = side events.Quiet ∷ side events.Hangup ∷ []

abbrev over : Side
over = record { ended = true; end = ends.Done }

quiet_frame : (f : Frame) → events.Quiet ≡ sent_by f → spelling f ≡ 81 ∷ []
quiet_frame (frames.Bytes bytes) e = absurd (cc)
quiet_frame frames.Quiet e = refl
quiet_frame (frames.Resize size) e = absurd (cc)
quiet_frame frames.Ask e = absurd (cc)
quiet_frame frames.Hangup e = absurd (cc)
quiet_frame frames.End e = absurd (cc)

hangup_frame : (f : Frame) → events.Hangup ≡ sent_by f → spelling f ≡ 88 ∷ []
hangup_frame (frames.Bytes bytes) e = absurd (cc)
hangup_frame frames.Quiet e = absurd (cc)
hangup_frame (frames.Resize size) e = absurd (cc)
hangup_frame frames.Ask e = absurd (cc)
hangup_frame frames.Hangup e = refl
hangup_frame frames.End e = absurd (cc)

-- two frames of a byte are no link of one
one_byte : (xs ys more extra : List ℕ) → xs ≡ 81 ∷ [] → ys ≡ 88 ∷ [] → Some (81 ∷ []) ≡ Some (((xs ++ (ys ++ more)) ++ extra) ++ []) → ⊥
one_byte xs ys more extra e f r =
    let read : List ℕ × List ℕ → Type 0 = λ z. Some (81 ∷ []) ≡ Some (((z.0 ++ (z.1 ++ more)) ++ extra) ++ []) in
    let wrong : read (81 ∷ [], 88 ∷ []) = subst read (λ i. (e i, f i)) r in absurd (cc)

neither : (false ≡ true) ⊎ (false ≡ true) → ⊥
neither (inl e) = absurd (cc)
neither (inr e) = absurd (cc)

no_link : (cut : Bool) (fs : List Frame) (extra : List ℕ) → events.Quiet ∷ events.Hangup ∷ [] ≡ map sent_by fs ++ hung cut
    → Some (81 ∷ []) ≡ then_left (flat_map spelling fs ++ extra) (Some []) → (cut ≡ true → (false ≡ true) ⊎ (false ≡ true)) → ⊥
no_link true fs extra a r why = neither (why refl)
no_link false [] extra a r why = absurd (cc)
no_link false (f ∷ []) extra a r why = absurd (cc)
no_link false (f ∷ g ∷ gs) extra a r why =
    let q : events.Quiet ≡ sent_by f = cc in
    let h : events.Hangup ≡ sent_by g = cc in one_byte (spelling f) (spelling g) (flat_map spelling gs) extra (quiet_frame f q) (hangup_frame g h) r

not_done : LinkIs quiet_and_gone over false (Some (81 ∷ [])) (Some []) 1 → ⊥
not_done x = no_link x.cut x.frames x.extra x.stands.all' x.read (λ e. (x.why e).1)

side_not_done : SideGoes counting quiet_and_gone over false false (Some (81 ∷ [])) (Some []) 1 → ⊥
side_not_done x = not_done (x.link refl)

-- ---- the painter

-- a Paint without its frame, where there was no memory
one_unpainted : DrawsLess counting (paints ∷ []) session.size [] []
unfolding step effect called settled_state closing began collected took_ctrl left fed quiet resized painted is_due is_ready line_front settled served units_of
    rest_of is_front whole broken next split_after drawn_by changed ended down shown part_lifted lifted written_on unit_written written heard split_in switches
    refitted filled free_from ids_from same_view
one_unpainted = record {
  canvas = record {
    pieces = [];
    each = λ t is. tt;
    ends' = refl;
    count = inr refl;
    failed = false;
    written = record { count = 0; most = let none : 0 ≤ 0 = omega arith in none; front = refl; whole = λ e. refl };
  };
  pieces' = refl;
}

-- and not two of them
two_counts : (ps : List (List ℕ)) → [] ≡ ends_from 0 ps → (length ps ≡ 2) ⊎ (length ps + 1 ≡ 2) → ⊥
two_counts [] e (inl n) = absurd (omega arith)
two_counts [] e (inr n) = absurd (omega arith)
two_counts (p ∷ ps) e n = absurd (cc)

two_unpainted : DrawsLess counting (paints ∷ side events.Ask ∷ paints ∷ []) session.size [] [] → ⊥
two_unpainted x = two_counts x.canvas.pieces x.canvas.ends' x.canvas.count

-- where there was memory each Paint has its frame
frame_dropped : (kept : Kept) → Draws counting (paints ∷ []) session.size kept [] [] 0 → ⊥
unfolding step effect called settled_state closing began collected took_ctrl left fed quiet resized painted is_due is_ready line_front settled served units_of
    rest_of is_front whole broken next split_after drawn_by changed ended down shown part_lifted lifted written_on unit_written written heard split_in switches
    refitted filled free_from ids_from same_view
frame_dropped kept x = x.stands.matched

-- ---- the writer

abbrev pieces : List (List ℕ)
pieces = (1 ∷ 2 ∷ []) ∷ (3 ∷ []) ∷ []

wrote_all : Writes (Some (9 ∷ [])) (Some (9 ∷ 1 ∷ 2 ∷ 3 ∷ [])) pieces false false
wrote_all = record { count = 3; most = let all : 3 ≤ 3 = omega arith in all; front = refl; whole = λ e. refl }

-- a front of them, where the sink failed or there was no memory
wrote_less : Writes (Some (9 ∷ [])) (Some (9 ∷ 1 ∷ [])) pieces true false × Writes (Some (9 ∷ [])) (Some (9 ∷ [])) pieces false true
wrote_less = (
  record { count = 1; most = let few : 1 ≤ 3 = omega arith in few; front = refl; whole = λ e. absurd (let wrong : true ≡ false = e in cc) },
  record { count = 0; most = let few : 0 ≤ 3 = omega arith in few; front = refl; whole = λ e. absurd (let wrong : true ≡ false = e in cc) },
)

abbrev how_many : Option (List ℕ) → ℕ
how_many None = 0
how_many (Some xs) = length xs

-- and there alone
wrote_too_few : Writes (Some []) (Some (1 ∷ 2 ∷ [])) pieces false false → ⊥
wrote_too_few x =
    let front : ℕ → Type 0 = λ n. Some (1 ∷ 2 ∷ []) ≡ then_written (Some []) (take n (1 ∷ 2 ∷ 3 ∷ [])) in
    let wrong : 2 ≡ 3 = ap how_many (subst front (x.whole refl) x.front) in omega (arith, wrong)
