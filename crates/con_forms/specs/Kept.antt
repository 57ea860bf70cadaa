-- What the types of entries, answers, lengths and an end keep, whatever happened.
use Rattle.std.specs.Prelude.{◌≡◌, ℕ, ◌<◌, List, [], ◌∷◌}
use Rattle.con_units.specs.Words.Attr.{masked}
use Rattle.con_units.specs.Glyph.{Glyph}
use Rattle.con_units.specs.Stored.{stored_unit}
use Rattle.con_events.specs.Fits.{AreUnits, RectFits}
use Rattle.con_events.specs.Words.Fits.{RecordsFit}
use Rattle.con_events.specs.declared.actor.Actor.{Actor}
use Rattle.con_events.specs.declared.actor.Actor.TheVariants as actor
use Rattle.con_events.specs.declared.end.End.{End}
use Rattle.con_events.specs.declared.end.End.TheVariants as ends
use Rattle.con_events.specs.declared.entry.Entry.{Entry}
use Rattle.con_events.specs.declared.reply.Reply.{Reply}
use Rattle.con_events.specs.declared.reply.Reply.TheVariants as reply
use Rattle.con_lines.specs.Fits.{EventFits}
use Rattle.con_lines.specs.Words.Fits.{AreWhole, AreTexts}
use Rattle.con_lines.specs.Shown.{cell_words}

abbrev pub ActorKeeps : Actor → Type 0
ActorKeeps (actor.Client p) = p < 256
ActorKeeps actor.Terminal = Unit {0}
ActorKeeps actor.Painter = Unit {0}

abbrev pub EntryKeeps : Entry → Type 0
EntryKeeps x = ActorKeeps x.actor × EventFits x.event

abbrev pub EntriesKeep : List Entry → Type 0
EntriesKeep [] = Unit {0}
EntriesKeep (x ∷ xs) = EntryKeeps x × EntriesKeep xs

-- units that cells hold, and words of the bits that words have
abbrev pub AreCells : List Glyph → Type 0
AreCells [] = Unit {0}
AreCells (g ∷ gs) = (stored_unit g.unit ≡ g.unit) × (masked g.attr.word ≡ g.attr.word) × AreCells gs

abbrev pub ReplyKeeps : Reply → Type 0
ReplyKeeps reply.Done = Unit {0}
ReplyKeeps (reply.Fail c) = Unit {0}
ReplyKeeps (reply.Number n) = n < 4294967296
ReplyKeeps (reply.Numbers zs) = AreWhole zs
ReplyKeeps (reply.Units us) = AreUnits us
ReplyKeeps (reply.Records rs) = RecordsFit rs
ReplyKeeps (reply.Cells r gs) = RectFits r × AreUnits (cell_words gs) × AreCells gs
ReplyKeeps (reply.Lines ls) = AreTexts ls
ReplyKeeps (reply.Ctrl n) = n < 4294967296
ReplyKeeps (reply.View v marks fresh) = Unit {0}

abbrev pub RepliesKeep : List Reply → Type 0
RepliesKeep [] = Unit {0}
RepliesKeep (r ∷ rs) = ReplyKeeps r × RepliesKeep rs

-- numbers of 64 bits
abbrev pub EndsKeep : List ℕ → Type 0
EndsKeep [] = Unit {0}
EndsKeep (n ∷ ns) = (n < 18446744073709551616) × EndsKeep ns

-- a place of 64 bits
abbrev pub EndKeeps : End → Type 0
EndKeeps (ends.Bad place kind) = place < 18446744073709551616
EndKeeps other = Unit {0}

pub record Kept (es : List Entry) (rs : List Reply) (ns : List ℕ) (last : End) : Type 0 where
  pub entries : EntriesKeep es
  pub replies : RepliesKeep rs
  pub ends : EndsKeep ns
  pub end : EndKeeps last
