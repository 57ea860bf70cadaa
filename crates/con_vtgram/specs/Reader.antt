-- A splitter as contracts see it.
use Rattle.std.specs.Prelude.{◌≤◌, length, vec_capacity}
use Rattle.con_units.specs.Split.{split}
use Rattle.con_vtgram.specs.Text.{grammar}
use Rattle.con_vtgram.specs.Reading.{Holds}
use Rattle.con_vtgram.specs.TitleKept.{KeepsTitle}
use Rattle.con_vtgram.specs.State.{state_of}
use Rattle.con_vtgram.specs.Reads.{Reader}
use Rattle.con_vtgram.specs.declared.splitter.Splitter.TheInside.{Inside}

abbrev pub reader_of : Inside → Reader
reader_of s = record { tail = (split grammar s.past).tail; title = s.title.items; sequence = s.sequence.csi }

pub record IsReader (s : Inside) : Type 0 where
  pub holds : Holds (state_of s.phase s.sequence) (split grammar s.past).tail
  pub title : KeepsTitle (state_of s.phase s.sequence) (split grammar s.past).tail s.title.items
  pub room : 255 ≤ vec_capacity s.title
  pub short : length s.title.items ≤ 255
