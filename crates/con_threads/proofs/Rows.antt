-- Worked logs, and what an actor has seen of them: computed on the definitions.
use Rattle.std.proofs.Common.{subst, sym, ap}
use Rattle.std.specs.Prelude.{ℕ, ◌≡◌, refl, Bool, true, false, not, List, [], ◌∷◌, ◌++◌, codes}
use Rattle.std.specs.List.{list_all}
use Rattle.con_units.specs.Split.{next, split_after}
use Rattle.con_units.specs.declared.code.Code.TheVariants as code
use Rattle.con_units.specs.declared.view.View.{View}
use Rattle.con_events.specs.declared.actor.Actor.TheVariants as actors
use Rattle.con_events.specs.declared.call.Call.TheVariants as calls
use Rattle.con_events.specs.declared.entry.Entry.{Entry}
use Rattle.con_events.specs.declared.event.Event.{Event}
use Rattle.con_events.specs.declared.event.Event.TheVariants as events
use Rattle.con_events.specs.declared.reply.Reply.TheVariants as replies
use Rattle.con_events.specs.declared.script.Script.{Script}
use Rattle.con_vtin.specs.Keys.{is_front, whole, broken}
use Rattle.con_grid.specs.Picture.{part_lifted, lifted, filled}
use Rattle.con_page.specs.Echo.{drawn_by, changed, ended}
use Rattle.con_page.specs.Page.{down, shown}
use Rattle.con_screen.specs.Written.{written, heard, split_in, switches}
use Rattle.con_page.specs.Fit.{refitted}
use Rattle.con_screens.specs.Buffer.{written_on, unit_written}
use Rattle.con_handles.specs.Handles.{free_from}
use Rattle.con_procs.specs.Procs.{ids_from}
use Rattle.con_readers.specs.Reads.{settled}
use Rattle.con_readers.specs.Serving.{served}
use Rattle.con_readers.specs.Wants.{units_of, rest_of}
use Rattle.con_machine.specs.State.{State, opening}
use Rattle.con_machine.specs.History.{run, is_legal}
use Rattle.con_machine.specs.Step.{step, effect, is_due, is_ready}
use Rattle.con_machine.specs.Call.{called}
use Rattle.con_machine.specs.Serving.{settled_state}
use Rattle.con_machine.specs.Closing.{closing}
use Rattle.con_machine.specs.Reads.{began, collected, took_ctrl, left, line_front}
use Rattle.con_machine.specs.Terminal.{fed, quiet, resized}
use Rattle.con_machine.specs.Painting.{painted, same_view}
use Rattle.con_actors.specs.Words.Desk.{brief_of}
use Rattle.con_actors.specs.declared.desk.Brief.{Brief}
use Rattle.con_actors.specs.declared.desk.Brief.TheVariants as briefs
use Rattle.con_book.specs.History.{after}
use Rattle.con_book.specs.declared.history.Logged.{Logged}
use Rattle.con_threads.specs.Ledger.{IsLogOf, logged_entries, entry_by, next_page, page_brief, page_ready, told_of}
use Rattle.con_threads.specs.Scribe.{HasEntered, SeesMore, is_same}
use Rattle.con_threads.specs.declared.ledger.LedgerView.{LedgerView}
use Rattle.con_threads.specs.declared.ledger.Told.TheVariants as tolds

abbrev script : List ℕ → ℕ → Script
script program group = record { program = program; group = group; steps = [] }

-- a window of 10 by 3, and one client
abbrev one : State
one = opening (record { size = record { w = 10; h = 3 }; scripts = script (codes "a") 1 ∷ [] }) (0 ∷ [])

abbrev start : LedgerView
start = record { state = one; replies = [] }

abbrev logged : {E : Type 0} → ℕ → E → Logged E
logged n e = record { actor = n; event = e }

abbrev by : ℕ → Event → Entry
by p e = record { actor = actors.Client p; event = e }

abbrev side : Event → Entry
side e = record { actor = actors.Terminal; event = e }

abbrev paints : Entry
paints = record { actor = actors.Painter; event = events.Paint }

-- how many records stand in the input
abbrev count : Event
count = events.Call (calls.Count 1)

-- ---- a log

-- No read was begun: nothing is collected. A Paint is due at first, and behind an Ask, and until then the terminal's side waits. The painter calls
-- nothing, and 300 is nobody. Who has left is refused, and may be refused at any time.
abbrev tried : List (Logged Event)
tried =
    logged 1 events.Collect ∷ logged 1 count ∷ logged 1001 events.Paint ∷ logged 1000 events.Ask ∷ logged 1000
    (events.Feed (codes "x")) ∷ logged 1001 events.Paint ∷ logged 1001 count ∷ logged 300 events.Ask ∷ logged 1
    (events.Exit 0) ∷ logged 1 events.Collect ∷ []

-- those of them that are ready where they stand
abbrev taken : List (Logged Event)
taken = logged 1 count ∷ logged 1001 events.Paint ∷ logged 1000 events.Ask ∷ logged 1001 events.Paint ∷ logged 1 (events.Exit 0) ∷ logged 1 events.Collect ∷ []

abbrev entered : List Entry
entered = by 1 count ∷ paints ∷ side events.Ask ∷ paints ∷ by 1 (events.Exit 0) ∷ by 1 events.Collect ∷ []

tried_entries : logged_entries one tried ≡ entered
unfolding step effect called settled_state closing began collected took_ctrl left fed quiet resized painted is_due is_ready line_front settled served units_of
    rest_of is_front whole broken next split_after drawn_by changed ended down shown part_lifted lifted written_on unit_written written heard split_in switches
    refitted filled free_from ids_from same_view
tried_entries = refl

taken_entries : logged_entries one taken ≡ entered
unfolding step effect called settled_state closing began collected took_ctrl left fed quiet resized painted is_due is_ready line_front settled served units_of
    rest_of is_front whole broken next split_after drawn_by changed ended down shown part_lifted lifted written_on unit_written written heard split_in switches
    refitted filled free_from ids_from same_view
taken_entries = refl

-- a Paint is listed as done
tried_replies : (after next_page start tried).replies
    ≡ replies.Number 0 ∷ replies.Done ∷ replies.Done ∷ replies.Done ∷ replies.Done ∷ replies.Fail code.BadHandle ∷ []
unfolding step effect called settled_state closing began collected took_ctrl left fed quiet resized painted is_due is_ready line_front settled served units_of
    rest_of is_front whole broken next split_after drawn_by changed ended down shown part_lifted lifted written_on unit_written written heard split_in switches
    refitted filled free_from ids_from same_view
tried_replies = refl

taken_is_log : IsLogOf start taken (record {
  state = run one entered;
  replies = replies.Number 0 ∷ replies.Done ∷ replies.Done ∷ replies.Done ∷ replies.Done ∷ replies.Fail code.BadHandle ∷ [];
})
unfolding step effect called settled_state closing began collected took_ctrl left fed quiet resized painted is_due is_ready line_front settled served units_of
    rest_of is_front whole broken next split_after drawn_by changed ended down shown part_lifted lifted written_on unit_written written heard split_in switches
    refitted filled free_from ids_from same_view
taken_is_log = record { none_before = refl; page' = refl; legal = refl }

tried_is_none : (page : LedgerView) → IsLogOf start tried page → ⊥
unfolding step effect called settled_state closing began collected took_ctrl left fed quiet resized painted is_due is_ready line_front settled served units_of
    rest_of is_front whole broken next split_after drawn_by changed ended down shown part_lifted lifted written_on unit_written written heard split_in switches
    refitted filled free_from ids_from same_view
tried_is_none page x = absurd (let wrong : false ≡ true = x.legal in cc)

-- ---- what is ready, what is told, and whose entry it is

ready_first : page_ready start 1 events.Collect ∷ page_ready start 1 count ∷ page_ready start 2 events.Collect ∷ page_ready start 1000 events.Paint
    ∷ page_ready start 1000 events.Quiet ∷ page_ready start 1001 events.Paint ∷ page_ready start 1001 count ∷ page_ready start 300 count ∷ []
    ≡ false ∷ true ∷ true ∷ false ∷ true ∷ true ∷ false ∷ false ∷ []
unfolding step effect called settled_state closing began collected took_ctrl left fed quiet resized painted is_due is_ready line_front settled served units_of
    rest_of is_front whole broken next split_after drawn_by changed ended down shown part_lifted lifted written_on unit_written written heard split_in switches
    refitted filled free_from ids_from same_view
ready_first = refl

brief_first : page_brief start 1 count ∷ page_brief start 1 (events.Call (calls.Count 9)) ∷ page_brief start 2 count ∷ page_brief start 300 count ∷ []
    ≡ briefs.Fine ∷ briefs.Refused ∷ briefs.Refused ∷ briefs.Fine ∷ []
unfolding step effect called settled_state closing began collected took_ctrl left fed quiet resized painted is_due is_ready line_front settled served units_of
    rest_of is_front whole broken next split_after drawn_by changed ended down shown part_lifted lifted written_on unit_written written heard split_in switches
    refitted filled free_from ids_from same_view
brief_first = refl

told_each : told_of (replies.Fail code.Closed) ∷ told_of (replies.Ctrl 1) ∷ told_of (replies.Number 5) ∷ []
    ≡ tolds.Brief briefs.Refused ∷ tolds.Brief (briefs.Ctrl 1) ∷ tolds.Brief briefs.Fine ∷ []
told_each = refl

told_picture : (v : View) (marks : List Bool) (fresh : Bool)
    → told_of (replies.View v marks fresh) ≡ tolds.Picture (record { view = v; marks = marks; fresh = fresh })
told_picture v marks fresh = refl

-- 1 to 255 are clients
entries_each : entry_by 1 count ∷ entry_by 255 count ∷ entry_by 256 count ∷ entry_by 1000 count ∷ entry_by 1001 count ∷ entry_by 0 count ∷ []
    ≡ by 1 count ∷ by 255 count ∷ side count ∷ side count ∷ record { actor = actors.Painter; event = count } ∷ side count ∷ []
entries_each = refl

-- ---- what an actor has seen

same_each : is_same (actors.Client 1) (actors.Client 1) ∷ is_same (actors.Client 1) (actors.Client 2) ∷ is_same actors.Terminal actors.Terminal
    ∷ is_same actors.Painter actors.Terminal ∷ is_same actors.Terminal (actors.Client 1) ∷ []
    ≡ true ∷ false ∷ true ∷ false ∷ false ∷ []
same_each = refl

sees_paint : SeesMore one (actors.Client 1) (by 1 count ∷ []) (by 1 count ∷ paints ∷ [])
unfolding step effect called settled_state closing began collected took_ctrl left fed quiet resized painted is_due is_ready line_front settled served units_of
    rest_of is_front whole broken next split_after drawn_by changed ended down shown part_lifted lifted written_on unit_written written heard split_in switches
    refitted filled free_from ids_from same_view
sees_paint = record { between = paints ∷ []; others = refl; legal = refl; entries' = refl }

-- not an entry of its own
sees_own : SeesMore one (actors.Client 1) [] (by 1 count ∷ []) → ⊥
sees_own x =
    let none : List Entry → Type 0 = λ z. list_all (λ y. not (is_same (actors.Client 1) y.actor)) z ≡ true in
    let wrong : false ≡ true = subst none (sym x.entries') x.others in absurd (cc)

-- nor one that was not ready: behind an Ask the terminal's side waits
sees_unready : SeesMore one (actors.Client 1) [] (paints ∷ side events.Ask ∷ side events.Quiet ∷ []) → ⊥
unfolding step effect called settled_state closing began collected took_ctrl left fed quiet resized painted is_due is_ready line_front settled served units_of
    rest_of is_front whole broken next split_after drawn_by changed ended down shown part_lifted lifted written_on unit_written written heard split_in switches
    refitted filled free_from ids_from same_view
sees_unready x = let wrong : false ≡ true = subst (λ (z : List Entry). is_legal one z ≡ true) (sym x.entries') x.legal in absurd (cc)

-- ctrl+C is typed, and the client takes it
abbrev broken_in : List Entry
broken_in = side (events.Feed (3 ∷ [])) ∷ by 1 events.TakeCtrl ∷ []

takes_ctrl : HasEntered one (actors.Client 1) events.TakeCtrl (tolds.Brief (briefs.Ctrl 0)) [] broken_in
unfolding step effect called settled_state closing began collected took_ctrl left fed quiet resized painted is_due is_ready line_front settled served units_of
    rest_of is_front whole broken next split_after drawn_by changed ended down shown part_lifted lifted written_on unit_written written heard split_in switches
    refitted filled free_from ids_from same_view
takes_ctrl = record { between = side (events.Feed (3 ∷ [])) ∷ []; others = refl; legal = refl; entries' = refl; ready = refl; brief = refl; tells = tt }

front_of_two : (a b c : Entry) (xs : List Entry) → a ∷ b ∷ [] ≡ xs ++ c ∷ [] → xs ≡ a ∷ []
front_of_two a b c [] e = absurd (cc)
front_of_two a b c (x ∷ []) e = let q : x ≡ a = cc in ap (λ (z : Entry). z ∷ []) q
front_of_two a b c (x ∷ y ∷ []) e = absurd (cc)
front_of_two a b c (x ∷ y ∷ z ∷ zs) e = absurd (cc)

-- it has no reply that the console did not give it
takes_another : (reply : Brief) → HasEntered one (actors.Client 1) events.TakeCtrl (tolds.Brief reply) [] broken_in → reply ≡ briefs.Ctrl 0
unfolding step effect called settled_state closing began collected took_ctrl left fed quiet resized painted is_due is_ready line_front settled served units_of
    rest_of is_front whole broken next split_after drawn_by changed ended down shown part_lifted lifted written_on unit_written written heard split_in switches
    refitted filled free_from ids_from same_view
takes_another reply x =
    let gave : List Entry → Type 0 = λ z. reply ≡ brief_of (step (run one z) (actors.Client 1) events.TakeCtrl).reply in
    subst gave (front_of_two _ _ _ x.between x.entries') x.brief

-- a painter is told a picture
paints_blind : (reply : Brief) → HasEntered one actors.Painter events.Paint (tolds.Brief reply) [] (paints ∷ []) → ⊥
paints_blind reply x = x.tells
