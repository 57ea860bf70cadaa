-- The words of the code and of laws about Told, which a reader need not believe.
use Rattle.std.specs.Prelude.{ℕ, ◌≤◌, ◌==◌, ◌&&◌, List, [], ◌∷◌, length, IfSome, if◌then◌else◌}
use Rattle.con_vtgram.specs.declared.item.Csi.{Csi}
use Rattle.con_page.specs.Page.{Page}
use Rattle.con_page.specs.Effect.{first}
use Rattle.con_page.specs.Kinds.{report_row, report_column}
use Rattle.con_screen.specs.Told.{Told, cursor_report, reported, switched}

-- the answers of a write, and for how many further units they have room
pub record Answered : Type 0 where
  pub told : Told
  pub room : ℕ

-- ---- bounds

-- a title that was told has at most 255 units
abbrev pub HasShortTitle : Told → Type 0
HasShortTitle t = IfSome t.title (λ x. length x ≤ 255)

-- ---- as the code tells it

-- DA, "Query State": ESC [ ? 1 ; 0 c
abbrev pub device_report : List ℕ
device_report = 0x1B ∷ 0x5B ∷ 0x3F ∷ 0x31 ∷ 0x3B ∷ 0x30 ∷ 0x63 ∷ []

abbrev pub plain_told : Page → Told → Csi → Told
plain_told p t c =
    if (c.last == 0x6E) && (first c == 6) then reported t (cursor_report (report_row p) (report_column p))
    else if (c.last == 0x63) && (first c == 0) then reported t device_report
    else t

abbrev pub private_told : Told → Csi → Told
private_told t c =
    if first c == 1 then record t { keys = switched c t.keys }
    else if first c == 1049 then record t { alternate = switched c t.alternate }
    else t
