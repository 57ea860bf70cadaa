-- Worked histories, computed on the definitions.
use Rattle.std.specs.Prelude.{ℕ, ℤ, pos, negsuc, ◌≡◌, refl, true, false, List, [], ◌∷◌, ◌++◌, codes}
use Rattle.con_units.specs.Split.{next, split_after}
use Rattle.con_units.specs.declared.code.Code.TheVariants as code
use Rattle.con_events.specs.declared.actor.Actor.TheVariants as actors
use Rattle.con_events.specs.declared.call.Call.{Call}
use Rattle.con_events.specs.declared.call.Call.TheVariants as calls
use Rattle.con_events.specs.declared.entry.Entry.{Entry}
use Rattle.con_events.specs.declared.event.Event.{Event}
use Rattle.con_events.specs.declared.event.Event.TheVariants as events
use Rattle.con_events.specs.declared.event.Wanted.TheVariants as wanted
use Rattle.con_events.specs.declared.reply.Reply.TheVariants as replies
use Rattle.con_events.specs.declared.script.Script.{Script}
use Rattle.con_records.specs.declared.record.Record.{Record}
use Rattle.con_records.specs.declared.record.Record.TheVariants as kinds
use Rattle.con_vtin.specs.Keys.{is_front, whole, broken}
use Rattle.con_grid.specs.Picture.{part_lifted, lifted, filled}
use Rattle.con_rects.specs.Rules.{rect_cells}
use Rattle.con_vtgram.specs.Text as text
use Rattle.con_vtgram.specs.Numbers as numbers
use Rattle.con_page.specs.Effect as screen
use Rattle.con_page.specs.Print.{printed, advanced, put, wrapped}
use Rattle.con_screen.specs.Told.{is_switch, told_after, csi_told}
use Rattle.con_page.specs.Echo.{drawn_by, changed, ended}
use Rattle.con_page.specs.Page.{down, shown}
use Rattle.con_screen.specs.Written.{written, heard, split_in, switches}
use Rattle.con_page.specs.Fit.{refitted}
use Rattle.con_screens.specs.Buffer.{written_on, unit_written}
use Rattle.con_handles.specs.Handles.{free_from}
use Rattle.con_procs.specs.Procs.{ids_from}
use Rattle.con_readers.specs.Reads.{settled}
use Rattle.con_readers.specs.Serving.{served}
use Rattle.con_readers.specs.Wants.{units_of, rest_of}
use Rattle.con_machine.specs.State.{State, opening}
use Rattle.con_machine.specs.History.{replies_of, is_legal}
use Rattle.con_machine.specs.Step.{step, effect, is_due, is_ready}
use Rattle.con_machine.specs.Call.{called}
use Rattle.con_machine.specs.Serving.{settled_state}
use Rattle.con_machine.specs.Closing.{closing}
use Rattle.con_machine.specs.Reads.{began, collected, took_ctrl, left, line_front}
use Rattle.con_machine.specs.Terminal.{fed, quiet, resized}
use Rattle.con_machine.specs.Painting.{painted, same_view}

abbrev script : List ℕ → ℕ → Script
script program group = record { program = program; group = group; steps = [] }

-- a window of w by h, and two clients, the second of which has a rack of one handler
abbrev two : ℕ → ℕ → State
two w h = opening (record { size = record { w = w; h = h }; scripts = script (codes "a") 1 ∷ script (codes "b") 2 ∷ [] }) (0 ∷ 1 ∷ [])

abbrev by : ℕ → Event → Entry
by p e = record { actor = actors.Client p; event = e }

abbrev asks : ℕ → Call → Entry
asks p c = by p (events.Call c)

abbrev side : Event → Entry
side e = record { actor = actors.Terminal; event = e }

abbrev esc : List ℕ → List ℕ
esc us = 0x1B ∷ us

abbrev unit_key : ℕ → Record
unit_key u = kinds.Key (record { down = true; repeat = 1; vk = 0; scan = 0; unit = u; state = 0 })

abbrev mouse : ℤ → ℤ → ℕ → ℕ → ℕ → Record
mouse x y buttons state flags = kinds.Mouse (record { x = x; y = y; buttons = buttons; state = state; flags = flags })

-- no units are done at once; no records, echo without lines, and an unknown alias are refused
nothing_asked : replies_of (two 10 3) (by 1 (events.Begin (wanted.Read 1 0)) ∷ by 1 events.Collect ∷ by 1 (events.Begin (wanted.ReadInput 1 0)) ∷ asks 1 (calls.SetMode 1 4) ∷ asks 1 (calls.AliasGet (codes "x") (codes "y")) ∷ [])
    ≡ replies.Done ∷ replies.Units [] ∷ replies.Fail code.BadArgument ∷ replies.Fail code.BadArgument ∷ replies.Fail code.NoAlias ∷ []
unfolding step effect called settled_state closing began collected took_ctrl left fed quiet resized painted is_due is_ready line_front settled served units_of rest_of is_front whole broken next split_after drawn_by changed ended down shown part_lifted lifted written_on unit_written written heard split_in switches refitted filled free_from ids_from same_view
nothing_asked = refl

-- a line is typed, one unit is taken back, and return ends it
line_read : replies_of (two 10 3) (by 1 (events.Begin (wanted.Read 1 100)) ∷ side (events.Feed (codes "dir" ++ 0x7F ∷ 0x0D ∷ [])) ∷ by 1 events.Collect ∷ [])
    ≡ replies.Done ∷ replies.Done ∷ replies.Units (0x64 ∷ 0x69 ∷ 0x0D ∷ 0x0A ∷ []) ∷ []
unfolding step effect called settled_state closing began collected took_ctrl left fed quiet resized painted is_due is_ready line_front settled served units_of rest_of is_front whole broken next split_after drawn_by changed ended down shown part_lifted lifted written_on unit_written written heard split_in switches refitted filled free_from ids_from same_view
line_read = refl

-- what is left of it answers the next read at once
line_read_in_parts : replies_of (two 10 3) (by 1 (events.Begin (wanted.Read 1 2)) ∷ side (events.Feed (codes "dir" ++ 0x7F ∷ 0x0D ∷ [])) ∷ by 1 events.Collect ∷ by 1 (events.Begin (wanted.Read 1 100)) ∷ by 1 events.Collect ∷ [])
    ≡ replies.Done ∷ replies.Done ∷ replies.Units (codes "di") ∷ replies.Done ∷ replies.Units (0x0D ∷ 0x0A ∷ []) ∷ []
unfolding step effect called settled_state closing began collected took_ctrl left fed quiet resized painted is_due is_ready line_front settled served units_of rest_of is_front whole broken next split_after drawn_by changed ended down shown part_lifted lifted written_on unit_written written heard split_in switches refitted filled free_from ids_from same_view
line_read_in_parts = refl

-- ctrl+C ends the line read; the first client ignores the event, the second has it pending; what was typed behind it stays
break_while_typing : replies_of (two 10 3) (asks 1 (calls.Ignore true) ∷ asks 2 (calls.HandlerAdd 0) ∷ by 1 (events.Begin (wanted.Read 1 100)) ∷ side (events.Feed (codes "ab" ++ 0x03 ∷ codes "c")) ∷ by 1 events.Collect ∷ asks 1 (calls.Count 1) ∷ by 2 events.TakeCtrl ∷ [])
    ≡ replies.Done ∷ replies.Done ∷ replies.Done ∷ replies.Done ∷ replies.Fail code.Aborted ∷ replies.Number 2 ∷ replies.Ctrl 0 ∷ []
unfolding step effect called settled_state closing began collected took_ctrl left fed quiet resized painted is_due is_ready line_front settled served units_of rest_of is_front whole broken next split_after drawn_by changed ended down shown part_lifted lifted written_on unit_written written heard split_in switches refitted filled free_from ids_from same_view
break_while_typing = refl

-- a buffer goes with its last handle while a line is typed on it, and the main one is active then
buffer_gone_while_typing : replies_of (two 10 3) (asks 1 (calls.BufferCreate 3) ∷ asks 1 (calls.Activate 4) ∷ asks 2 (calls.OpenOut 3) ∷ asks 1 (calls.Close 4) ∷ by 1 (events.Begin (wanted.Read 1 100)) ∷ side (events.Feed (codes "a")) ∷ asks 2 (calls.Close 4) ∷ side (events.Feed (codes "b" ++ 0x0D ∷ [])) ∷ by 1 events.Collect ∷ asks 1 (calls.Info 2) ∷ [])
    ≡ replies.Number 4 ∷ replies.Done ∷ replies.Number 4 ∷ replies.Done ∷ replies.Done ∷ replies.Done ∷ replies.Done ∷ replies.Done ∷ replies.Units (0x61 ∷ 0x62 ∷ 0x0D ∷ 0x0A ∷ []) ∷ replies.Numbers (pos 10 ∷ pos 3 ∷ pos 0 ∷ pos 0 ∷ pos 7 ∷ pos 0 ∷ pos 0 ∷ pos 9 ∷ pos 2 ∷ []) ∷ []
unfolding step effect called settled_state closing began collected took_ctrl left fed quiet resized painted is_due is_ready line_front settled served units_of rest_of is_front whole broken next split_after drawn_by changed ended down shown part_lifted lifted written_on unit_written written heard split_in switches refitted filled free_from ids_from same_view
buffer_gone_while_typing = refl

-- the link ends while both wait: the console closes
closed_while_all_wait : replies_of (two 10 3) (by 1 (events.Begin (wanted.ReadInput 1 1)) ∷ by 2 (events.Begin (wanted.ReadInput 1 1)) ∷ side events.Drained ∷ by 2 events.Collect ∷ by 2 events.TakeCtrl ∷ asks 1 (calls.Count 1) ∷ [])
    ≡ replies.Done ∷ replies.Done ∷ replies.Done ∷ replies.Fail code.Closed ∷ replies.Ctrl 2 ∷ replies.Fail code.Closed ∷ []
unfolding step effect called settled_state closing began collected took_ctrl left fed quiet resized painted is_due is_ready line_front settled served units_of rest_of is_front whole broken next split_after drawn_by changed ended down shown part_lifted lifted written_on unit_written written heard split_in switches refitted filled free_from ids_from same_view
closed_while_all_wait = refl

-- a line begins with a text that stands on the screen, and a masked tab ends it at the caret
line_woken : replies_of (two 80 25) (asks 1 (calls.Write 2 (codes "$ ab")) ∷ by 1 (events.Begin (wanted.ReadWith 1 100 (codes "ab") 512)) ∷ side (events.Feed (codes "c" ++ esc (codes "[D") ++ 0x09 ∷ [])) ∷ by 1 events.Collect ∷ asks 1 (calls.Info 2) ∷ [])
    ≡ replies.Number 4 ∷ replies.Done ∷ replies.Done ∷ replies.Units (0x61 ∷ 0x62 ∷ 0x09 ∷ 0x63 ∷ []) ∷ replies.Numbers (pos 80 ∷ pos 25 ∷ pos 4 ∷ pos 0 ∷ pos 7 ∷ pos 0 ∷ pos 0 ∷ pos 79 ∷ pos 24 ∷ []) ∷ []
unfolding step effect called settled_state closing began collected took_ctrl left fed quiet resized painted is_due is_ready line_front settled served units_of rest_of is_front whole broken next split_after drawn_by changed ended down shown part_lifted lifted written_on unit_written written heard split_in switches refitted filled free_from ids_from same_view is_switch screen.effect screen.follow screen.act printed advanced put wrapped told_after
line_woken = refl

-- the same in two parts
line_woken_in_parts : replies_of (two 80 25) (asks 1 (calls.Write 2 (codes "$ ab")) ∷ by 1 (events.Begin (wanted.ReadWith 1 2 (codes "ab") 512)) ∷ side (events.Feed (codes "c" ++ esc (codes "[D") ++ 0x09 ∷ [])) ∷ by 1 events.Collect ∷ by 1 (events.Begin (wanted.Read 1 100)) ∷ by 1 events.Collect ∷ [])
    ≡ replies.Number 4 ∷ replies.Done ∷ replies.Done ∷ replies.Units (codes "ab") ∷ replies.Done ∷ replies.Units (0x09 ∷ 0x63 ∷ []) ∷ []
unfolding step effect called settled_state closing began collected took_ctrl left fed quiet resized painted is_due is_ready line_front settled served units_of rest_of is_front whole broken next split_after drawn_by changed ended down shown part_lifted lifted written_on unit_written written heard split_in switches refitted filled free_from ids_from same_view is_switch screen.effect screen.follow screen.act printed advanced put wrapped told_after
line_woken_in_parts = refl

-- an initial text longer than what is asked for, and more units than a read may have
initial_refused : replies_of (two 10 3) (by 1 (events.Begin (wanted.ReadWith 1 1 (codes "ab") 0)) ∷ by 1 (events.Begin (wanted.ReadWith 1 20000 [] 0)) ∷ [])
    ≡ replies.Fail code.BadArgument ∷ replies.Fail code.Limit ∷ []
unfolding step effect called settled_state closing began collected took_ctrl left fed quiet resized painted is_due is_ready line_front settled served units_of rest_of is_front whole broken next split_after drawn_by changed ended down shown part_lifted lifted written_on unit_written written heard split_in switches refitted filled free_from ids_from same_view
initial_refused = refl

-- a button goes down and up, where the mouse is asked for
mouse_button : replies_of (two 80 25) (side (events.Feed (esc (codes "[<0;5;3M") ++ esc (codes "[<0;5;3m"))) ∷ by 1 (events.Begin (wanted.ReadInput 1 10)) ∷ by 1 events.Collect ∷ [])
    ≡ replies.Done ∷ replies.Done ∷ replies.Records (mouse (pos 4) (pos 2) 1 0 0 ∷ mouse (pos 4) (pos 2) 0 0 0 ∷ []) ∷ []
unfolding step effect called settled_state closing began collected took_ctrl left fed quiet resized painted is_due is_ready line_front settled served units_of rest_of is_front whole broken next split_after drawn_by changed ended down shown part_lifted lifted written_on unit_written written heard split_in switches refitted filled free_from ids_from same_view
mouse_button = refl

-- the wheel with ctrl, the wheel, and a button outside the window
mouse_wheel : replies_of (two 80 25) (side (events.Feed (esc (codes "[<80;1;1M") ++ esc (codes "[<65;1;1M") ++ esc (codes "[<0;200;1M"))) ∷ by 1 (events.Begin (wanted.ReadInput 1 10)) ∷ by 1 events.Collect ∷ [])
    ≡ replies.Done ∷ replies.Done ∷ replies.Records (mouse (pos 0) (pos 0) 7864320 8 4 ∷ mouse (pos 0) (pos 0) 4287102976 0 4 ∷ mouse (pos 79) (pos 0) 1 0 0 ∷ []) ∷ []
unfolding step effect called settled_state closing began collected took_ctrl left fed quiet resized painted is_due is_ready line_front settled served units_of rest_of is_front whole broken next split_after drawn_by changed ended down shown part_lifted lifted written_on unit_written written heard split_in switches refitted filled free_from ids_from same_view
mouse_wheel = refl

-- keys as sequences, in both cursor key modes
keys_as_sequences : replies_of (two 10 3) (asks 1 (calls.SetMode 1 0x200) ∷ side (events.Feed (esc (codes "[A"))) ∷ by 1 (events.Begin (wanted.ReadInput 1 9)) ∷ by 1 events.Collect ∷ asks 1 (calls.SetMode 2 7) ∷ asks 1 (calls.Write 2 (esc (codes "[?1h"))) ∷ side (events.Feed (esc (codes "[A"))) ∷ by 1 (events.Begin (wanted.ReadInput 1 9)) ∷ by 1 events.Collect ∷ [])
    ≡ replies.Done ∷ replies.Done ∷ replies.Done ∷ replies.Records (unit_key 0x1B ∷ unit_key 0x5B ∷ unit_key 0x41 ∷ []) ∷ replies.Done ∷ replies.Number 5 ∷ replies.Done ∷ replies.Done ∷ replies.Records (unit_key 0x1B ∷ unit_key 0x4F ∷ unit_key 0x41 ∷ []) ∷ []
unfolding step effect called settled_state closing began collected took_ctrl left fed quiet resized painted is_due is_ready line_front settled served units_of rest_of is_front whole broken next split_after drawn_by changed ended down shown part_lifted lifted written_on unit_written written heard split_in switches refitted filled free_from ids_from same_view text.is_front text.whole text.csi_items text.sixteen numbers.parameters numbers.pieces told_after csi_told
keys_as_sequences = refl

-- a rectangle outside the buffer has no cell, and one of 16,385 cells is too large
rectangles : replies_of (two 80 25) (asks 1 (calls.SetSize 2 512 256) ∷ asks 1 (calls.RectRead 2 (record { left = pos 600; top = pos 0; right = pos 610; bottom = pos 3 })) ∷ asks 1 (calls.RectRead 2 (record { left = pos 0; top = pos 0; right = pos 144; bottom = pos 112 })) ∷ [])
    ≡ replies.Done ∷ replies.Cells (record { left = pos 0; top = pos 0; right = negsuc 0; bottom = negsuc 0 }) [] ∷ replies.Fail code.Limit ∷ []
unfolding step effect called settled_state closing began collected took_ctrl left fed quiet resized painted is_due is_ready line_front settled served units_of rest_of is_front whole broken next split_after drawn_by changed ended down shown part_lifted lifted written_on unit_written written heard split_in switches refitted filled free_from ids_from same_view rect_cells
rectangles = refl

-- a console that is closed, no such handle, a right that lacks: the first that holds is answered
refusals_in_order : replies_of (two 10 3) (asks 1 (calls.Duplicate 2 1) ∷ asks 1 (calls.SetSize 4 0 0) ∷ asks 1 (calls.SetSize 9 0 0) ∷ asks 1 (calls.SetSize 2 0 0) ∷ asks 1 (calls.Duplicate 4 2) ∷ asks 1 (calls.Duplicate 4 4) ∷ side events.Hangup ∷ asks 1 (calls.SetSize 9 0 0) ∷ asks 3 (calls.Title) ∷ [])
    ≡ replies.Number 4 ∷ replies.Fail code.Denied ∷ replies.Fail code.BadHandle ∷ replies.Fail code.BadArgument ∷ replies.Fail code.Denied ∷ replies.Fail code.BadArgument ∷ replies.Done ∷ replies.Fail code.Closed ∷ replies.Fail code.BadHandle ∷ []
unfolding step effect called settled_state closing began collected took_ctrl left fed quiet resized painted is_due is_ready line_front settled served units_of rest_of is_front whole broken next split_after drawn_by changed ended down shown part_lifted lifted written_on unit_written written heard split_in switches refitted filled free_from ids_from same_view
refusals_in_order = refl

-- an ask, its paint, and the terminal's side goes on
asked_and_painted : is_legal (two 10 3) (side events.Ask ∷ record { actor = actors.Painter; event = events.Paint } ∷ side events.Quiet ∷ []) ≡ true
unfolding step effect called settled_state closing began collected took_ctrl left fed quiet resized painted is_due is_ready line_front settled served units_of rest_of is_front whole broken next split_after drawn_by changed ended down shown part_lifted lifted written_on unit_written written heard split_in switches refitted filled free_from ids_from same_view
asked_and_painted = refl

-- while an ask is out the terminal's side waits, and without a change nothing is to be painted
not_painted : is_legal (two 10 3) (side events.Ask ∷ side events.Quiet ∷ []) ≡ false
unfolding step effect called settled_state closing began collected took_ctrl left fed quiet resized painted is_due is_ready line_front settled served units_of rest_of is_front whole broken next split_after drawn_by changed ended down shown part_lifted lifted written_on unit_written written heard split_in switches refitted filled free_from ids_from same_view
not_painted = refl
