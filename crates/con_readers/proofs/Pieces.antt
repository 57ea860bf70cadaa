-- The pieces, and what is left, are all of the records.
use Rattle.std.proofs.Common.{◌≡◌, ◌-◌, ℕ, Bool, List, [], ◌∷◌, ◌++◌, zero, suc, true, false, arith, refl, ap, ◌∙◌, sym, length, length-append, take, drop, append_assoc, append-nil}
use Rattle.std.specs.Prelude.{◌==◌, if◌then◌else◌}
use Rattle.std.proofs.lemmas.List.{take-append-drop, take_at}
use Rattle.con_records.specs.declared.record.Record.{Record}
use Rattle.con_history.specs.declared.histories.Histories.{Histories}
use Rattle.con_alias.specs.Aliases.{AliasList}
use Rattle.con_readers.specs.declared.open.Open.{Open}
use Rattle.con_cooked.specs.declared.cooked.Cooked.{Cooked}
use Rattle.con_cooked.specs.Cooked.{is_return}
use Rattle.con_cooked.specs.Keys.{key_of}
use Rattle.con_cooked.specs.Mask.{is_masked}
use Rattle.con_readers.specs.Wants.{typed_unit, units_of, rest_of}
use Rattle.con_readers.specs.Words.Lines.{line_after}
use Rattle.con_readers.specs.Serving.{is_done, Served, served, served_line}
use Rattle.con_readers.specs.Words.Serving.{took_units, served_on}
use Rattle.con_readers.specs.Reads.{settled}
use Rattle.con_readers.specs.Pieces.{front, joined}
use Rattle.con_readers.specs.Words.Pieces.{pieces_of}
use Rattle.con_readers.specs.declared.answer.Answer.TheVariants as answers
use Rattle.con_readers.specs.declared.open.OpenRead.{OpenRead}
use Rattle.con_readers.specs.declared.open.OpenRead.TheVariants as reads

-- the second list is an end of the first
pub EndsWith : List Record → List Record → Type 0
EndsWith rs rest = (f : List Record) × (rs ≡ f ++ rest)

ends_front : (rs rest : List Record) → EndsWith rs rest → front rs rest ++ rest ≡ rs
unfolding EndsWith
ends_front rs rest h =
    let n : length rs - length rest ≡ length h.0 = rw h.1 (omega (arith, length-append h.0 rest)) in
    let t : take (length rs - length rest) rs ≡ h.0 = rw (n, h.1) (take_at h.0 rest (length h.0) refl) in
    rw t (sym h.1)

pub front_is : (rs f rest : List Record) → rs ≡ f ++ rest → front rs rest ≡ f
front_is rs f rest h =
    let n : length rs - length rest ≡ length f = rw h (omega (arith, length-append f rest)) in
    rw (n, h) (take_at f rest (length f) refl)

pub records_piece : (p n : ℕ) (al : List AliasList) (r : Record) (rs : List Record) (hs : Histories) → (served p al (reads.Records n) (r ∷ rs) hs).read ≡ reads.Done (answers.Records (front (r ∷ rs) (served p al (reads.Records n) (r ∷ rs) hs).records))
unfolding served
records_piece p n al r rs hs = ap (λ (qs : List Record). reads.Done (answers.Records qs)) (sym (front_is (r ∷ rs) (take n (r ∷ rs)) (drop n (r ∷ rs)) (sym (take-append-drop n (r ∷ rs)))))

ends_more : (r : Record) (rs rest : List Record) → EndsWith rs rest → EndsWith (r ∷ rs) rest
unfolding EndsWith
ends_more r rs rest h = (r ∷ h.0, ap (λ (qs : List Record). r ∷ qs) h.1)

-- a record more before
pub front_more : (r : Record) (rs rest : List Record) → EndsWith rs rest → front (r ∷ rs) rest ≡ r ∷ front rs rest
unfolding EndsWith
front_more r rs rest h =
    front_is (r ∷ rs) (r ∷ h.0) rest (ap (λ (qs : List Record). r ∷ qs) h.1) ∙ ap (λ (qs : List Record). r ∷ qs) (sym (front_is rs h.0 rest h.1))

ends_same : (rs : List Record) → EndsWith rs rs
unfolding EndsWith
ends_same rs = ([], refl)

ends_all : (rs : List Record) → EndsWith rs []
unfolding EndsWith
ends_all rs = (rs, rw append-nil refl)

ends_drop : (n : ℕ) (rs : List Record) → EndsWith rs (drop n rs)
unfolding EndsWith
ends_drop n rs = (take n rs, sym (take-append-drop n rs))

ends_rest : (n : ℕ) (rs : List Record) → EndsWith rs (rest_of n rs)
unfolding rest_of
ends_rest n [] = ends_same []
ends_rest zero (r ∷ rs) = ends_same (r ∷ rs)
ends_rest (suc n) (r ∷ rs) =
    let P : Bool → Type 0 = λ b. EndsWith (r ∷ rs) (if b then rest_of (suc n) rs else rest_of n rs) in
    let a = ends_more r rs _ (ends_rest (suc n) rs) in
    let b = ends_more r rs _ (ends_rest n rs) in
    elim (typed_unit r == 0) as P [ true ↦ a | false ↦ b ]

ends_on : (p : ℕ) (al : List AliasList) (line line' : Cooked) (r : Record) (rs : List Record) (hs : Histories) (later : Served) (masked returned : Bool) → EndsWith rs later.records
    → EndsWith (r ∷ rs) (served_on p al line line' rs hs later masked returned).records
ends_on p al line line' r rs hs later true returned h = ends_more r rs rs (ends_same rs)
ends_on p al line line' r rs hs later false true h = ends_more r rs rs (ends_same rs)
ends_on p al line line' r rs hs later false false h = ends_more r rs later.records h

pub ends_line : (p : ℕ) (al : List AliasList) (line : Cooked) (rs : List Record) (hs : Histories) → EndsWith rs (served_line p al line rs hs).records
ends_line p al line [] hs = ends_same []
ends_line p al line (r ∷ rs) hs =
    ends_on p al line (line_after line r hs) r rs hs (served_line p al (line_after line r hs) rs hs) (is_masked line.mask r) (is_return (key_of r))
    (ends_line p al (line_after line r hs) rs hs)

ends_units : (p n : ℕ) (rs : List Record) (hs : Histories) (us : List ℕ) → EndsWith rs (took_units p n rs hs us).records
ends_units p n rs hs [] = ends_all rs
ends_units p n rs hs (u ∷ us) = ends_rest n rs

ends_served : (p : ℕ) (al : List AliasList) (read : OpenRead) (rs : List Record) (hs : Histories) → EndsWith rs (served p al read rs hs).records
unfolding served
ends_served p al (reads.Line line) rs hs = ends_line p al line rs hs
ends_served p al (reads.Units n) [] hs = ends_same []
ends_served p al (reads.Units n) (r ∷ rs) hs = ends_units p n (r ∷ rs) hs (units_of n (r ∷ rs))
ends_served p al (reads.Records n) [] hs = ends_same []
ends_served p al (reads.Records n) (r ∷ rs) hs = ends_drop n (r ∷ rs)
ends_served p al (reads.Done a) rs hs = ends_same rs

Whole : List AliasList → List Open → List Record → Histories → Type 0
Whole al os rs hs = joined (pieces_of al os rs hs) ++ (settled al os rs hs).records ≡ rs

whole_by : (al : List AliasList) (o : Open) (os : List Open) (rs : List Record) (hs : Histories) (a b : Bool) → is_done o.read ≡ a → is_done (served o.process al o.read rs hs).read ≡ b → Whole al os rs hs → Whole al os (served o.process al o.read rs hs).records (served o.process al o.read rs hs).histories → Whole al (o ∷ os) rs hs
unfolding Whole joined pieces_of settled
whole_by al o os rs hs true b e d now later = rw e now
whole_by al o os rs hs false true e d now later = rw (e, d, append_assoc) (ap (λ (qs : List Record). front rs (served o.process al o.read rs hs).records ++ qs) later ∙ ends_front rs _ (ends_served o.process al o.read rs hs))
whole_by al o os rs hs false false e d now later = rw (e, d, append-nil) (ends_front rs _ (ends_served o.process al o.read rs hs))

pub whole : (al : List AliasList) (os : List Open) (rs : List Record) (hs : Histories) → joined (pieces_of al os rs hs) ++ (settled al os rs hs).records ≡ rs
unfolding Whole joined pieces_of settled
whole al [] rs hs = refl
whole al (o ∷ os) rs hs = whole_by al o os rs hs (is_done o.read) (is_done (served o.process al o.read rs hs).read) refl refl (whole al os rs hs) (whole al os (served o.process al o.read rs hs).records (served o.process al o.read rs hs).histories)
