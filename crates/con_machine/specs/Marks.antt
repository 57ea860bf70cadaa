-- What the answer of a Paint tells beside the view.
use Rattle.std.specs.Prelude.{ℕ, ◌≡◌, ◌<◌, Bool, true, false, List, [], length, replicate, Option, None, Some, slice_index_or}
use Rattle.con_units.specs.View.{row_of}
use Rattle.con_units.specs.declared.view.View.{View}
use Rattle.con_events.specs.declared.event.Event.{Event}
use Rattle.con_events.specs.declared.event.Event.TheVariants as events
use Rattle.con_events.specs.declared.reply.Reply.{Reply}
use Rattle.con_events.specs.declared.reply.Reply.TheVariants as replies
use Rattle.con_screens.specs.Buffers.{Buffers, is_alternate}
use Rattle.con_machine.specs.State.{State, id_of}
use Rattle.con_machine.specs.Words.ScreenCalls.{page_at}
use Rattle.con_machine.specs.Painting.{view_now}
use Rattle.con_machine.specs.Words.Painting.{is_fresh}
use Rattle.con_machine.specs.declared.painting.seen.Seen.{Seen}
use Rattle.con_machine.specs.declared.rooms.paint_room.PaintRoom.{PaintRoom}

-- where the console's view is seen: the active buffer, which of its screens, and the window's place
abbrev pub seen_at : Buffers → Seen
seen_at b = record { buffer = id_of b.active; alternate = is_alternate b b.active; left = (page_at b b.active).left; top = (page_at b b.active).top }

-- row y of a view is as it was in the view at the last Paint
abbrev pub IsSameRow : Option View → View → ℕ → Type 0
IsSameRow None v y = ⊥
IsSameRow (Some last) v y = row_of v.size.w v.rows y ≡ row_of v.size.w last.rows y

-- A mark for each row of the view, from the top. Each row that differs from what it was at the last Paint has it, and all
-- rows have it where nothing was painted on a terminal of this size.
pub record AreMarks (s : State) (marks : List Bool) : Type 0 where
  pub count : length marks ≡ (view_now s).size.h
  pub fresh : is_fresh s ≡ true → marks ≡ replicate (view_now s).size.h true
  pub same : (y : ℕ) → y < (view_now s).size.h → slice_index_or marks y true ≡ false → IsSameRow s.painted (view_now s) y

-- what is made ready for a Paint: the view twice, its marks, and whether nothing was painted on a terminal of this size
pub record IsPaintRoom (s : State) (r : PaintRoom) : Type 0 where
  pub view : r.view ≡ view_now s
  pub kept : r.kept ≡ view_now s
  pub marks : AreMarks s r.marks
  pub fresh : r.fresh ≡ is_fresh s

-- ---- a reply, and what it tells

-- a reply as the console's step gives it: of a Paint, the view alone
abbrev pub told : Reply → Reply
told (replies.View v marks fresh) = replies.View v [] false
told replies.Done = replies.Done
told (replies.Fail why) = replies.Fail why
told (replies.Number n) = replies.Number n
told (replies.Numbers ns) = replies.Numbers ns
told (replies.Units us) = replies.Units us
told (replies.Records rs) = replies.Records rs
told (replies.Cells rect cells) = replies.Cells rect cells
told (replies.Lines ls) = replies.Lines ls
told (replies.Ctrl n) = replies.Ctrl n

-- the answer of a Paint has marks, and says whether nothing was painted on a terminal of this size
abbrev pub TellsPaint : State → Reply → Type 0
TellsPaint s (replies.View v marks fresh) = (fresh ≡ is_fresh s) × AreMarks s marks
TellsPaint s replies.Done = ⊥
TellsPaint s (replies.Fail why) = ⊥
TellsPaint s (replies.Number n) = ⊥
TellsPaint s (replies.Numbers ns) = ⊥
TellsPaint s (replies.Units us) = ⊥
TellsPaint s (replies.Records rs) = ⊥
TellsPaint s (replies.Cells rect cells) = ⊥
TellsPaint s (replies.Lines ls) = ⊥
TellsPaint s (replies.Ctrl n) = ⊥

abbrev pub Tells : State → Event → Reply → Type 0
Tells s events.Paint r = TellsPaint s r
Tells s (events.Call call) r = Unit {0}
Tells s (events.Begin w) r = Unit {0}
Tells s events.Collect r = Unit {0}
Tells s events.TakeCtrl r = Unit {0}
Tells s (events.Exit status) r = Unit {0}
Tells s (events.Feed bytes) r = Unit {0}
Tells s events.Quiet r = Unit {0}
Tells s (events.Resize size) r = Unit {0}
Tells s events.Ask r = Unit {0}
Tells s events.Hangup r = Unit {0}
Tells s events.Drained r = Unit {0}
