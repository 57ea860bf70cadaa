-- How playing ends.
use Rattle.std.specs.Prelude.{◌≡◌, ℕ, ◌≤◌, ◌⊎◌, List, [], length, Option, IfSome, codes, flat_map}
use Rattle.con_text.specs.Encoded.{unit_bytes}
use Rattle.con_units.specs.declared.place.Size.{Size}
use Rattle.con_term.specs.Page.{blank_page}
use Rattle.con_dump.specs.Dump.{dump}
use Rattle.con_term.specs.Play.{play}
use Rattle.con_lines.specs.Ending.{worded}
use Rattle.con_ending.specs.Ending.{Reported, Tells}
use Rattle.con_text.specs.Link.{IsTooLong}

-- the text was read to the link's end, and is not too long
abbrev pub IsWhole : List ℕ → Option (List ℕ) → Type 0
IsWhole text left = (length text ≤ 16777216) × IfSome left (λ rest. rest ≡ [])

-- the dump of a blank terminal of this size that was played the text, in UTF-8
abbrev pub dump_after : Size → List ℕ → List ℕ
dump_after size text = flat_map unit_bytes (dump (play (record { page = blank_page size.w size.h; bytes = []; units = [] }) text).page)

-- What may have happened, by what was taken from the link and what is left of it, and by what the report has:
-- - there was no memory (9), and nothing was written; at most one piece more than a link may have was taken;
-- - the link was read to its end, and the report is the dump, whole (0), or a part of it, since the report failed (6) or there was no memory (9);
-- - the link failed (4) or has too many bytes (10), and the last line alone tells which.
abbrev pub Played : ℕ → Size → List ℕ → Option (List ℕ) → Option (List ℕ) → Option (List ℕ) → Type 0 → Type 0
Played status size text left before now failed =
    ((status ≡ 9) × (now ≡ before) × (length text ≤ 16781312))
    ⊎ ((IsWhole text left × Reported status 0 (dump_after size text) before now failed)
    ⊎ (((length text ≤ 16777216) × Tells status (worded 4 (codes "link")) before now failed)
    ⊎ (IsTooLong text × Tells status (worded 10 (codes "too long")) before now failed)))
