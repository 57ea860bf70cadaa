-- Worked histories with the fates of their records, computed on the definitions.
use Rattle.std.specs.Prelude.{ℕ, ◌≡◌, refl, true, List, [], ◌∷◌, ◌++◌, length, map, codes, Option, Some, None, false}
use Rattle.std.specs.Prelude.{ℕ, ◌≡◌, refl, true, List, ◌∷◌, ◌++◌, codes, Some, None}
use Rattle.con_units.specs.Split.{next, split_after}
use Rattle.con_units.specs.declared.code.Code.TheVariants as code
use Rattle.con_events.specs.declared.actor.Actor.TheVariants as actors
use Rattle.con_events.specs.declared.call.Call.{Call}
use Rattle.con_events.specs.declared.call.Call.TheVariants as calls
use Rattle.con_events.specs.declared.entry.Entry.{Entry}
use Rattle.con_events.specs.declared.event.Event.{Event}
use Rattle.con_events.specs.declared.event.Event.TheVariants as events
use Rattle.con_events.specs.declared.event.Wanted.TheVariants as wanted
use Rattle.con_events.specs.declared.reply.Reply.TheVariants as replies
use Rattle.con_events.specs.declared.script.Script.{Script}
use Rattle.con_records.specs.declared.record.Record.{Record}
use Rattle.con_records.specs.declared.record.Record.TheVariants as kinds
use Rattle.con_vtin.specs.Keys.{is_front, whole, broken}
use Rattle.con_grid.specs.Picture.{part_lifted, lifted, filled}
use Rattle.con_page.specs.Echo.{drawn_by, changed, ended}
use Rattle.con_page.specs.Page.{down, shown}
use Rattle.con_screen.specs.Written.{written, heard, split_in, switches}
use Rattle.con_page.specs.Fit.{refitted}
use Rattle.con_screens.specs.Buffer.{written_on, unit_written}
use Rattle.con_handles.specs.Handles.{free_from}
use Rattle.con_procs.specs.Procs.{ids_from}
use Rattle.con_readers.specs.Reads.{settled}
use Rattle.con_readers.specs.Serving.{served}
use Rattle.con_readers.specs.Wants.{units_of, rest_of}
use Rattle.con_machine.specs.History.{replies_of}
use Rattle.con_machine.specs.Step.{step, effect, is_due, is_ready}
use Rattle.con_machine.specs.Call.{called}
use Rattle.con_machine.specs.Serving.{settled_state}
use Rattle.con_machine.specs.Closing.{closing}
use Rattle.con_machine.specs.Reads.{began, collected, took_ctrl, left, line_front}
use Rattle.con_machine.specs.Terminal.{fed, quiet, resized}
use Rattle.con_machine.specs.Painting.{painted, same_view}
use Rattle.con_readers.specs.Pieces.{joined}
use Rattle.con_machine.specs.State.{State, opening}
use Rattle.con_laws.specs.AnswerWalks.{was_interrupted, was_cut_off}
use Rattle.con_laws.specs.Fates.{Taker, Begun, Flushed}
use Rattle.con_laws.specs.Walks.{arrived, pieces, fate, fated, step_arrivals, keys_arrivals, all_bytes_arrivals, fed_arrivals, size_arrivals, step_pieces, served_pieces, taken_by, interrupted, cut_off, closing_pieces, keys_pieces, all_bytes_pieces, fed_pieces}

abbrev script : ℕ → Script
script group = record { program = codes "p"; group = group; steps = [] }

-- a window of 10 by 3, and two clients, or three
abbrev two : State
two = opening (record { size = record { w = 10; h = 3 }; scripts = script 1 ∷ script 2 ∷ [] }) (0 ∷ 1 ∷ [])

abbrev three : State
three = opening (record { size = record { w = 10; h = 3 }; scripts = script 1 ∷ script 2 ∷ script 3 ∷ [] }) []

abbrev by : ℕ → Event → Entry
by p e = record { actor = actors.Client p; event = e }

abbrev asks : ℕ → Call → Entry
asks p c = by p (events.Call c)

abbrev side : Event → Entry
side e = record { actor = actors.Terminal; event = e }

abbrev sized : ℕ → Record
sized w = kinds.Size (record { w = w; h = 1 })

-- the fates of the first records, and how many arrived
abbrev fates : State → List Entry → List ℕ → List (Option Taker)
fates s h ks = map (fate s h) ks

abbrev begun : ℕ → Option Taker
begun place = Some (Begun place)

-- ctrl+C ends the read that took what was typed before it; the two records of the key behind it are there
broken_off : fates two (asks 1 (calls.Ignore true) ∷ asks 2 (calls.HandlerAdd 0) ∷ by 1 (events.Begin (wanted.Read 1 100)) ∷ side (events.Feed (codes "ab" ++ 0x03 ∷ codes "c")) ∷ by 1 events.Collect ∷ []) (0 ∷ 1 ∷ 2 ∷ 3 ∷ 4 ∷ 5 ∷ [])
    ≡ begun 2 ∷ begun 2 ∷ begun 2 ∷ begun 2 ∷ None ∷ None ∷ []
unfolding step effect called settled_state closing began collected took_ctrl left fed quiet resized painted is_due is_ready line_front settled served units_of rest_of is_front whole broken next split_after drawn_by changed ended down shown part_lifted lifted written_on unit_written written heard split_in switches refitted filled free_from ids_from same_view joined step_arrivals keys_arrivals all_bytes_arrivals fed_arrivals size_arrivals step_pieces served_pieces taken_by interrupted cut_off closing_pieces keys_pieces all_bytes_pieces fed_pieces
broken_off = refl

broken_off_arrived : length (arrived two (asks 1 (calls.Ignore true) ∷ asks 2 (calls.HandlerAdd 0) ∷ by 1 (events.Begin (wanted.Read 1 100)) ∷ side (events.Feed (codes "ab" ++ 0x03 ∷ codes "c")) ∷ by 1 events.Collect ∷ [])) ≡ 6
unfolding step effect called settled_state closing began collected took_ctrl left fed quiet resized painted is_due is_ready line_front settled served units_of rest_of is_front whole broken next split_after drawn_by changed ended down shown part_lifted lifted written_on unit_written written heard split_in switches refitted filled free_from ids_from same_view joined step_arrivals keys_arrivals all_bytes_arrivals fed_arrivals size_arrivals step_pieces served_pieces taken_by interrupted cut_off closing_pieces keys_pieces all_bytes_pieces fed_pieces
broken_off_arrived = refl

-- of two reads the first one takes the one record that is written, and the other none
one_of_two : fates three (by 1 (events.Begin (wanted.ReadInput 1 1)) ∷ by 2 (events.Begin (wanted.ReadInput 1 1)) ∷ asks 3 (calls.WriteInput 1 (sized 7 ∷ [])) ∷ by 3 (events.Exit 0) ∷ by 1 events.Collect ∷ side events.Drained ∷ by 1 (events.Exit 0) ∷ by 2 events.Collect ∷ []) (0 ∷ [])
    ≡ begun 0 ∷ []
unfolding step effect called settled_state closing began collected took_ctrl left fed quiet resized painted is_due is_ready line_front settled served units_of rest_of is_front whole broken next split_after drawn_by changed ended down shown part_lifted lifted written_on unit_written written heard split_in switches refitted filled free_from ids_from same_view joined step_arrivals keys_arrivals all_bytes_arrivals fed_arrivals size_arrivals step_pieces served_pieces taken_by interrupted cut_off closing_pieces keys_pieces all_bytes_pieces fed_pieces
one_of_two = refl

one_of_two_arrived : length (arrived three (by 1 (events.Begin (wanted.ReadInput 1 1)) ∷ by 2 (events.Begin (wanted.ReadInput 1 1)) ∷ asks 3 (calls.WriteInput 1 (sized 7 ∷ [])) ∷ by 3 (events.Exit 0) ∷ by 1 events.Collect ∷ side events.Drained ∷ by 1 (events.Exit 0) ∷ by 2 events.Collect ∷ [])) ≡ 1
unfolding step effect called settled_state closing began collected took_ctrl left fed quiet resized painted is_due is_ready line_front settled served units_of rest_of is_front whole broken next split_after drawn_by changed ended down shown part_lifted lifted written_on unit_written written heard split_in switches refitted filled free_from ids_from same_view joined step_arrivals keys_arrivals all_bytes_arrivals fed_arrivals size_arrivals step_pieces served_pieces taken_by interrupted cut_off closing_pieces keys_pieces all_bytes_pieces fed_pieces
one_of_two_arrived = refl

-- each client reads what the other one wrote
each_others : fates two (by 1 (events.Begin (wanted.ReadInput 1 1)) ∷ asks 2 (calls.WriteInput 1 (sized 7 ∷ [])) ∷ by 1 events.Collect ∷ by 2 (events.Begin (wanted.ReadInput 1 1)) ∷ asks 1 (calls.WriteInput 1 (sized 8 ∷ [])) ∷ by 2 events.Collect ∷ []) (0 ∷ 1 ∷ [])
    ≡ begun 0 ∷ begun 3 ∷ []
unfolding step effect called settled_state closing began collected took_ctrl left fed quiet resized painted is_due is_ready line_front settled served units_of rest_of is_front whole broken next split_after drawn_by changed ended down shown part_lifted lifted written_on unit_written written heard split_in switches refitted filled free_from ids_from same_view joined step_arrivals keys_arrivals all_bytes_arrivals fed_arrivals size_arrivals step_pieces served_pieces taken_by interrupted cut_off closing_pieces keys_pieces all_bytes_pieces fed_pieces
each_others = refl

each_others_arrived : length (arrived two (by 1 (events.Begin (wanted.ReadInput 1 1)) ∷ asks 2 (calls.WriteInput 1 (sized 7 ∷ [])) ∷ by 1 events.Collect ∷ by 2 (events.Begin (wanted.ReadInput 1 1)) ∷ asks 1 (calls.WriteInput 1 (sized 8 ∷ [])) ∷ by 2 events.Collect ∷ [])) ≡ 2
unfolding step effect called settled_state closing began collected took_ctrl left fed quiet resized painted is_due is_ready line_front settled served units_of rest_of is_front whole broken next split_after drawn_by changed ended down shown part_lifted lifted written_on unit_written written heard split_in switches refitted filled free_from ids_from same_view joined step_arrivals keys_arrivals all_bytes_arrivals fed_arrivals size_arrivals step_pieces served_pieces taken_by interrupted cut_off closing_pieces keys_pieces all_bytes_pieces fed_pieces
each_others_arrived = refl

-- a line takes all up to the return key's going down; its going up is there
up_to_return : fates two (asks 1 (calls.BufferCreate 3) ∷ asks 1 (calls.Activate 4) ∷ asks 2 (calls.OpenOut 3) ∷ asks 1 (calls.Close 4) ∷ by 1 (events.Begin (wanted.Read 1 100)) ∷ side (events.Feed (codes "a")) ∷ asks 2 (calls.Close 4) ∷ side (events.Feed (codes "b" ++ 0x0D ∷ [])) ∷ by 1 events.Collect ∷ []) (0 ∷ 1 ∷ 2 ∷ 3 ∷ 4 ∷ 5 ∷ [])
    ≡ begun 4 ∷ begun 4 ∷ begun 4 ∷ begun 4 ∷ begun 4 ∷ None ∷ []
unfolding step effect called settled_state closing began collected took_ctrl left fed quiet resized painted is_due is_ready line_front settled served units_of rest_of is_front whole broken next split_after drawn_by changed ended down shown part_lifted lifted written_on unit_written written heard split_in switches refitted filled free_from ids_from same_view joined step_arrivals keys_arrivals all_bytes_arrivals fed_arrivals size_arrivals step_pieces served_pieces taken_by interrupted cut_off closing_pieces keys_pieces all_bytes_pieces fed_pieces
up_to_return = refl

up_to_return_arrived : length (arrived two (asks 1 (calls.BufferCreate 3) ∷ asks 1 (calls.Activate 4) ∷ asks 2 (calls.OpenOut 3) ∷ asks 1 (calls.Close 4) ∷ by 1 (events.Begin (wanted.Read 1 100)) ∷ side (events.Feed (codes "a")) ∷ asks 2 (calls.Close 4) ∷ side (events.Feed (codes "b" ++ 0x0D ∷ [])) ∷ by 1 events.Collect ∷ [])) ≡ 6
unfolding step effect called settled_state closing began collected took_ctrl left fed quiet resized painted is_due is_ready line_front settled served units_of rest_of is_front whole broken next split_after drawn_by changed ended down shown part_lifted lifted written_on unit_written written heard split_in switches refitted filled free_from ids_from same_view joined step_arrivals keys_arrivals all_bytes_arrivals fed_arrivals size_arrivals step_pieces served_pieces taken_by interrupted cut_off closing_pieces keys_pieces all_bytes_pieces fed_pieces
up_to_return_arrived = refl

-- a peek takes nothing, a refused flush neither, and a flush all that is there; a read takes what comes behind it
pub flushed : fates two (asks 1 (calls.WriteInput 1 (sized 7 ∷ sized 8 ∷ [])) ∷ asks 2 (calls.Peek 1 9) ∷ asks 2 (calls.Flush 9) ∷ asks 2 (calls.Flush 1) ∷ asks 1 (calls.WriteInput 1 (sized 9 ∷ [])) ∷ by 2 (events.Begin (wanted.ReadInput 1 5)) ∷ []) (0 ∷ 1 ∷ 2 ∷ [])
    ≡ Some (Flushed 3) ∷ Some (Flushed 3) ∷ begun 5 ∷ []
unfolding step effect called settled_state closing began collected took_ctrl left fed quiet resized painted is_due is_ready line_front settled served units_of rest_of is_front whole broken next split_after drawn_by changed ended down shown part_lifted lifted written_on unit_written written heard split_in switches refitted filled free_from ids_from same_view joined step_arrivals keys_arrivals all_bytes_arrivals fed_arrivals size_arrivals step_pieces served_pieces taken_by interrupted cut_off closing_pieces keys_pieces all_bytes_pieces fed_pieces
flushed = refl

flushed_arrived : length (arrived two (asks 1 (calls.WriteInput 1 (sized 7 ∷ sized 8 ∷ [])) ∷ asks 2 (calls.Peek 1 9) ∷ asks 2 (calls.Flush 9) ∷ asks 2 (calls.Flush 1) ∷ asks 1 (calls.WriteInput 1 (sized 9 ∷ [])) ∷ by 2 (events.Begin (wanted.ReadInput 1 5)) ∷ [])) ≡ 3
unfolding step effect called settled_state closing began collected took_ctrl left fed quiet resized painted is_due is_ready line_front settled served units_of rest_of is_front whole broken next split_after drawn_by changed ended down shown part_lifted lifted written_on unit_written written heard split_in switches refitted filled free_from ids_from same_view joined step_arrivals keys_arrivals all_bytes_arrivals fed_arrivals size_arrivals step_pieces served_pieces taken_by interrupted cut_off closing_pieces keys_pieces all_bytes_pieces fed_pieces
flushed_arrived = refl

-- what the records of a fate are, in order
of_each_begin : map (fated three (by 1 (events.Begin (wanted.ReadInput 1 1)) ∷ by 2 (events.Begin (wanted.ReadInput 1 1)) ∷ asks 3 (calls.WriteInput 1 (sized 7 ∷ [])) ∷ by 3 (events.Exit 0) ∷ by 1 events.Collect ∷ side events.Drained ∷ by 1 (events.Exit 0) ∷ by 2 events.Collect ∷ [])) (Begun 0 ∷ Begun 1 ∷ Flushed 2 ∷ [])
    ≡ (sized 7 ∷ []) ∷ [] ∷ [] ∷ []
unfolding step effect called settled_state closing began collected took_ctrl left fed quiet resized painted is_due is_ready line_front settled served units_of rest_of is_front whole broken next split_after drawn_by changed ended down shown part_lifted lifted written_on unit_written written heard split_in switches refitted filled free_from ids_from same_view joined step_arrivals keys_arrivals all_bytes_arrivals fed_arrivals size_arrivals step_pieces served_pieces taken_by interrupted cut_off closing_pieces keys_pieces all_bytes_pieces fed_pieces
of_each_begin = refl

-- the first read answers its record, and the other one that the console closed
of_each_answer : replies_of three (by 1 (events.Begin (wanted.ReadInput 1 1)) ∷ by 2 (events.Begin (wanted.ReadInput 1 1)) ∷ asks 3 (calls.WriteInput 1 (sized 7 ∷ [])) ∷ by 3 (events.Exit 0) ∷ by 1 events.Collect ∷ side events.Drained ∷ by 1 (events.Exit 0) ∷ by 2 events.Collect ∷ [])
    ≡ replies.Done ∷ replies.Done ∷ replies.Number 1 ∷ replies.Done ∷ replies.Records (sized 7 ∷ []) ∷ replies.Done ∷ replies.Done ∷ replies.Fail code.Closed ∷ []
unfolding step effect called settled_state closing began collected took_ctrl left fed quiet resized painted is_due is_ready line_front settled served units_of rest_of is_front whole broken next split_after drawn_by changed ended down shown part_lifted lifted written_on unit_written written heard split_in switches refitted filled free_from ids_from same_view joined step_arrivals keys_arrivals all_bytes_arrivals fed_arrivals size_arrivals step_pieces served_pieces taken_by interrupted cut_off closing_pieces keys_pieces all_bytes_pieces fed_pieces
of_each_answer = refl

-- ctrl+C came while the line was the first one, and the console did not close
broken_off_by : was_interrupted (Begun 2) (pieces two (asks 1 (calls.Ignore true) ∷ asks 2 (calls.HandlerAdd 0) ∷ by 1 (events.Begin (wanted.Read 1 100)) ∷ side (events.Feed (codes "ab" ++ 0x03 ∷ codes "c")) ∷ by 1 events.Collect ∷ [])) ∷ was_cut_off (Begun 2) (pieces two (asks 1 (calls.Ignore true) ∷ asks 2 (calls.HandlerAdd 0) ∷ by 1 (events.Begin (wanted.Read 1 100)) ∷ side (events.Feed (codes "ab" ++ 0x03 ∷ codes "c")) ∷ by 1 events.Collect ∷ [])) ∷ [] ≡ true ∷ false ∷ []
unfolding step effect called settled_state closing began collected took_ctrl left fed quiet resized painted is_due is_ready line_front settled served units_of rest_of is_front whole broken next split_after drawn_by changed ended down shown part_lifted lifted written_on unit_written written heard split_in switches refitted filled free_from ids_from same_view joined step_arrivals keys_arrivals all_bytes_arrivals fed_arrivals size_arrivals step_pieces served_pieces taken_by interrupted cut_off closing_pieces keys_pieces all_bytes_pieces fed_pieces
broken_off_by = refl

-- the console closed while the second read was not done, and the first one was
pub one_of_two_by : was_cut_off (Begun 0) (pieces three (by 1 (events.Begin (wanted.ReadInput 1 1)) ∷ by 2 (events.Begin (wanted.ReadInput 1 1)) ∷ asks 3 (calls.WriteInput 1 (sized 7 ∷ [])) ∷ by 3 (events.Exit 0) ∷ by 1 events.Collect ∷ side events.Drained ∷ by 1 (events.Exit 0) ∷ by 2 events.Collect ∷ [])) ∷ was_cut_off (Begun 1) (pieces three (by 1 (events.Begin (wanted.ReadInput 1 1)) ∷ by 2 (events.Begin (wanted.ReadInput 1 1)) ∷ asks 3 (calls.WriteInput 1 (sized 7 ∷ [])) ∷ by 3 (events.Exit 0) ∷ by 1 events.Collect ∷ side events.Drained ∷ by 1 (events.Exit 0) ∷ by 2 events.Collect ∷ [])) ∷ was_interrupted (Begun 1) (pieces three (by 1 (events.Begin (wanted.ReadInput 1 1)) ∷ by 2 (events.Begin (wanted.ReadInput 1 1)) ∷ asks 3 (calls.WriteInput 1 (sized 7 ∷ [])) ∷ by 3 (events.Exit 0) ∷ by 1 events.Collect ∷ side events.Drained ∷ by 1 (events.Exit 0) ∷ by 2 events.Collect ∷ [])) ∷ [] ≡ false ∷ true ∷ false ∷ []
unfolding step effect called settled_state closing began collected took_ctrl left fed quiet resized painted is_due is_ready line_front settled served units_of rest_of is_front whole broken next split_after drawn_by changed ended down shown part_lifted lifted written_on unit_written written heard split_in switches refitted filled free_from ids_from same_view joined step_arrivals keys_arrivals all_bytes_arrivals fed_arrivals size_arrivals step_pieces served_pieces taken_by interrupted cut_off closing_pieces keys_pieces all_bytes_pieces fed_pieces
one_of_two_by = refl
