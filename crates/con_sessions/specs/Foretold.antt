-- What the bytes of a link say of a session's end.
use Rattle.std.specs.Prelude.{◌≡◌, ℕ, ◌≤◌, true, List, ◌++◌, flat_map, length, Option, Some, Result, Ok, Err}
use Rattle.std.specs.List.{list_all}
use Rattle.con_units.specs.declared.view.FrameFault.{FrameFault}
use Rattle.con_link.specs.Frames.{ends_link}
use Rattle.con_link.specs.LinkReading.{LinkReading, plainly, mirrored, AnswersBy, all_go_on}
use Rattle.con_link.specs.declared.fault.LinkFault.{LinkFault}
use Rattle.con_link.specs.declared.fault.LinkFault.TheVariants as faults
use Rattle.con_events.specs.Session.{Clients}
use Rattle.con_events.specs.declared.end.End.{End}
use Rattle.con_events.specs.declared.end.End.TheVariants as ends
use Rattle.con_document.specs.Document.{IsDocument}

-- The link's bytes, read in this way, are frames, one after another from its first byte and none of them an X, and behind them stands what is answered so.
pub record StandsBy (R : LinkReading) (link : List ℕ) (answer : Result R.One LinkFault) : Type 0 where
  pub frames : List R.One
  pub text : List ℕ
  pub rest : List ℕ
  pub spelled : link ≡ flat_map R.spelling frames ++ (text ++ rest)
  pub are_frames : list_all R.is_one frames ≡ true
  pub going : all_go_on R frames ≡ true
  pub answers : AnswersBy R answer (length (flat_map R.spelling frames)) text (Some rest)

-- Done: whole frames through the first X, or to the link's end, of at most 16,777,216 bytes. Bad: no frame at that place, which is the first such one. Too
-- long: more bytes than that without an end or a fault.
abbrev pub ForetellsBy : (R : LinkReading) → List ℕ → End → Type 0
ForetellsBy R link ends.Done = (last : R.One) × (ends_link (R.plain last) ≡ true) × StandsBy R link (Ok last)
ForetellsBy R link (ends.Bad place kind) = StandsBy R link (Err (faults.Bad place kind))
ForetellsBy R link ends.TooLong = StandsBy R link (Err faults.TooLong)
ForetellsBy R link _ = ⊥

-- some frame is missing at some place
abbrev pub HasNoFrameBy : (R : LinkReading) → List ℕ → Type 0
HasNoFrameBy R link = (place : ℕ) × (kind : FrameFault) × ForetellsBy R link (ends.Bad place kind)

-- of a link with no second terminal
abbrev pub Foretells : List ℕ → End → Type 0
Foretells link end = ForetellsBy plainly link end

abbrev pub HasNoFrame : List ℕ → Type 0
HasNoFrame link = HasNoFrameBy plainly link

-- of a link that may have one, where A and D are frames too
abbrev pub MirrorForetells : List ℕ → End → Type 0
MirrorForetells link end = ForetellsBy mirrored link end

abbrev pub HasNoMirrorFrame : List ℕ → Type 0
HasNoMirrorFrame link = HasNoFrameBy mirrored link

-- files are told, and the one of this name is this session
abbrev pub IsSession : Option (List ℕ → Option (List ℕ)) → List ℕ → Clients → Type 0
IsSession files name session = (find : List ℕ → Option (List ℕ)) × (bytes : List ℕ) × (files ≡ Some find) × (find name ≡ Some bytes)
    × (length bytes ≤ 16777216) × IsDocument bytes (Ok session)
