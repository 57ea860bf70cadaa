-- A read that is served with what it takes, and no more, is the same.
use Rattle.std.proofs.Common.{◌≡◌, ◌-◌, ◌==◌, ◌≤◌, ℕ, Bool, true, false, List, [], ◌∷◌, ◌++◌, zero, suc, refl, ap, ◌∙◌, sym, length, length-append, take, drop, append-nil, true≢false, arith}
use Rattle.std.proofs.lemmas.List.{take-append-drop, take-take, take_at}
use Rattle.con_alias.specs.Aliases.{AliasList}
use Rattle.con_cooked.specs.Cooked.{is_return}
use Rattle.con_cooked.specs.Keys.{key_of}
use Rattle.con_cooked.specs.Mask.{is_masked}
use Rattle.con_cooked.specs.declared.cooked.Cooked.{Cooked}
use Rattle.con_history.specs.Histories.{LineHistories}
use Rattle.con_readers.specs.Act.{typed}
use Rattle.con_readers.specs.Words.Lines.{line_after}
use Rattle.con_readers.specs.Pieces.{front}
use Rattle.con_readers.specs.Serving.{is_done, Served, served, served_line}
use Rattle.con_readers.specs.Words.Serving.{took_units, served_on}
use Rattle.con_readers.specs.Wants.{units_of}
use Rattle.con_readers.specs.declared.answer.Answer.TheVariants as answers
use Rattle.con_readers.specs.declared.open.OpenRead.{OpenRead}
use Rattle.con_readers.specs.declared.open.OpenRead.TheVariants as reads
use Rattle.con_records.specs.declared.record.Record.{Record}

front_is : (rs f rest : List Record) → rs ≡ f ++ rest → front rs rest ≡ f
front_is rs f rest h =
    let n : length rs - length rest ≡ length f = rw h (omega (arith, length-append f rest)) in
    rw (n, h) (take_at f rest (length f) refl)

-- ---- a line

on_shorter : (p : ℕ) (al : List AliasList) (line line' : Cooked) (r : Record) (rs : List Record) (hs : LineHistories) (later : Served) (masked returned : Bool) → length later.records ≤ length rs
    → length (served_on p al line line' rs hs later masked returned).records ≤ length (r ∷ rs)
on_shorter p al line line' r rs hs later true returned le = omega arith
on_shorter p al line line' r rs hs later false true le = omega arith
on_shorter p al line line' r rs hs later false false le = omega (arith, le)

shorter : (p : ℕ) (al : List AliasList) (line : Cooked) (rs : List Record) (hs : LineHistories) → length (served_line p al line rs hs).records ≤ length rs
shorter p al line [] hs = omega arith
shorter p al line (r ∷ rs) hs =
    on_shorter p al line (line_after line r hs) r rs hs (served_line p al (line_after line r hs) rs hs) (is_masked line.mask r) (is_return (key_of r))
    (shorter p al (line_after line r hs) rs hs)

front_more : (r : Record) (rs rest : List Record) → length rest ≤ length rs → front (r ∷ rs) rest ≡ r ∷ front rs rest
front_more r rs rest le =
    let e : length (r ∷ rs) - length rest ≡ suc (length rs - length rest) = omega (arith, le) in
    ap (λ (n : ℕ). take n (r ∷ rs)) e

front_one : (r : Record) (rs : List Record) → front (r ∷ rs) rs ≡ r ∷ []
front_one r rs = front_is (r ∷ rs) (r ∷ []) rs refl

unfoldable pub Alone : ℕ → List AliasList → Cooked → List Record → LineHistories → Type 0
Alone p al line rs hs = (let s = served_line p al line rs hs in served_line p al line (front rs s.records) hs ≡ record s { records = [] })

alone_by : (p : ℕ) (al : List AliasList) (line : Cooked) (r : Record) (rs : List Record) (hs : LineHistories) (masked returned : Bool) → is_masked line.mask r ≡ masked → is_return (key_of r) ≡ returned
    → length (served_line p al (line_after line r hs) rs hs).records ≤ length rs → Alone p al (line_after line r hs) rs hs → Alone p al line (r ∷ rs) hs
unfolding Alone
alone_by p al line r rs hs true returned m e le ih = rw m (rw (front_one r rs) (rw m refl))
alone_by p al line r rs hs false true m e le ih = rw (m, e) (rw (front_one r rs) (rw (m, e) refl))
alone_by p al line r rs hs false false m e le ih =
    let later : Served = served_line p al (line_after line r hs) rs hs in
    rw (m, e) (rw (front_more r rs later.records le) (rw (m, e) (ap (λ (x : Served). record x { acts = typed p line (line_after line r hs) ∷ x.acts }) ih)))

pub alone : (p : ℕ) (al : List AliasList) (line : Cooked) (rs : List Record) (hs : LineHistories) → Alone p al line rs hs
unfolding Alone
alone p al line [] hs = refl
alone p al line (r ∷ rs) hs =
    alone_by p al line r rs hs (is_masked line.mask r) (is_return (key_of r)) refl refl (shorter p al (line_after line r hs) rs hs) (alone p al (line_after line r hs) rs hs)

-- ---- units

-- con_readers says of a read of units that it answers the units of just what it took
unfoldable pub UnitsPiece : Type 0
UnitsPiece = (p n : ℕ) (al : List AliasList) (rs : List Record) (hs : LineHistories) → is_done (served p al (reads.Units n) rs hs).read ≡ true
    → (served p al (reads.Units n) rs hs).read ≡ reads.Done (answers.Units (units_of n (front rs (served p al (reads.Units n) rs hs).records)))

units_in : OpenRead → List ℕ
units_in (reads.Done (answers.Units us)) = us
units_in (reads.Done (answers.Records rs)) = []
units_in (reads.Done (answers.Fail why)) = []
units_in (reads.Line line) = []
units_in (reads.Units n) = []
units_in (reads.Records n) = []

-- where units are found they are the answer
units_found : (p n : ℕ) (al : List AliasList) (piece : List Record) (hs : LineHistories) (u : ℕ) (us : List ℕ) → units_of n piece ≡ u ∷ us → (served p al (reads.Units n) piece hs).read ≡ reads.Done (answers.Units (u ∷ us))
unfolding served units_of
units_found p n al [] hs u us h = cc
units_found p n al (q ∷ qs) hs u us h = rw h refl

units_by : UnitsPiece → (p n : ℕ) (al : List AliasList) (r : Record) (rs : List Record) (hs : LineHistories) (us : List ℕ) → units_of n (r ∷ rs) ≡ us
    → (served p al (reads.Units n) (front (r ∷ rs) (served p al (reads.Units n) (r ∷ rs) hs).records) hs).read ≡ (served p al (reads.Units n) (r ∷ rs) hs).read
unfolding UnitsPiece served units_in units_of
units_by w p n al r rs hs [] is =
    let all : front (r ∷ rs) [] ≡ r ∷ rs = front_is (r ∷ rs) (r ∷ rs) [] (sym (append-nil (r ∷ rs))) in
    rw is (rw all (rw is refl))
units_by w p n al r rs hs (u ∷ us) is =
    let now : (served p al (reads.Units n) (r ∷ rs) hs).read ≡ reads.Done (answers.Units (u ∷ us)) = units_found p n al (r ∷ rs) hs u us is in
    let done : is_done (served p al (reads.Units n) (r ∷ rs) hs).read ≡ true = ap is_done now in
    let piece : List Record = front (r ∷ rs) (served p al (reads.Units n) (r ∷ rs) hs).records in
    let same : u ∷ us ≡ units_of n piece = ap units_in (sym now ∙ w p n al (r ∷ rs) hs done) in
    units_found p n al piece hs u us (sym same) ∙ sym now

-- ---- any read

-- a read of records asks for one at least
unfoldable pub IsProper : OpenRead → Type 0
IsProper (reads.Line line) = Unit {0}
IsProper (reads.Units n) = Unit {0}
IsProper (reads.Records n) = (n == 0) ≡ false
IsProper (reads.Done a) = Unit {0}

-- these records are all that it takes of them
unfoldable pub TakesAll : ℕ → List AliasList → OpenRead → List Record → LineHistories → Type 0
TakesAll p al (reads.Line line) rs hs = (served_line p al line rs hs).records ≡ []
TakesAll p al (reads.Units n) rs hs = Unit {0}
TakesAll p al (reads.Records n) rs hs = take n rs ≡ rs
TakesAll p al (reads.Done a) rs hs = Unit {0}

taken_records : (n : ℕ) (rs : List Record) → front rs (drop n rs) ≡ take n rs
taken_records n rs = front_is rs (take n rs) (drop n rs) (sym (take-append-drop n rs))

records_alone : (p n : ℕ) (al : List AliasList) (r : Record) (rs : List Record) (hs : LineHistories) → (n == 0) ≡ false
    → (served p al (reads.Records n) (front (r ∷ rs) (served p al (reads.Records n) (r ∷ rs) hs).records) hs).read ≡ (served p al (reads.Records n) (r ∷ rs) hs).read
unfolding served
records_alone p zero al r rs hs h = absurd (true≢false h)
records_alone p (suc n) al r rs hs h =
    rw (taken_records (suc n) (r ∷ rs)) (ap (λ (x : List Record). reads.Done (answers.Records (r ∷ x))) (take-take n n rs (omega arith)))

pub same_alone : UnitsPiece → (p : ℕ) (al : List AliasList) (read : OpenRead) (rs : List Record) (hs : LineHistories) → IsProper read → is_done read ≡ false
    → (served p al read (front rs (served p al read rs hs).records) hs).read ≡ (served p al read rs hs).read
unfolding IsProper served Alone
same_alone w p al (reads.Line line) rs hs proper d = ap (λ (x : Served). x.read) (alone p al line rs hs)
same_alone w p al (reads.Units n) [] hs proper d = refl
same_alone w p al (reads.Units n) (r ∷ rs) hs proper d = units_by w p n al r rs hs (units_of n (r ∷ rs)) refl
same_alone w p al (reads.Records n) [] hs proper d = refl
same_alone w p al (reads.Records n) (r ∷ rs) hs proper d = records_alone p n al r rs hs proper
same_alone w p al (reads.Done a) rs hs proper d = absurd (true≢false d)

take_none : (n : ℕ) → take n (front [] []) ≡ front [] []
take_none zero = refl
take_none (suc n) = refl

pub takes_all : (p : ℕ) (al : List AliasList) (read : OpenRead) (rs : List Record) (hs : LineHistories) → TakesAll p al read (front rs (served p al read rs hs).records) hs
unfolding TakesAll served Alone
takes_all p al (reads.Line line) rs hs = ap (λ (x : Served). x.records) (alone p al line rs hs)
takes_all p al (reads.Units n) rs hs = tt
takes_all p al (reads.Records n) [] hs = take_none n
takes_all p al (reads.Records n) (r ∷ rs) hs = rw (taken_records n (r ∷ rs)) (take-take n n (r ∷ rs) (omega arith))
takes_all p al (reads.Done a) rs hs = tt

-- it stays so while it is served
on_proper : (p : ℕ) (al : List AliasList) (line line' : Cooked) (rs : List Record) (hs : LineHistories) (later : Served) (masked returned : Bool) → IsProper later.read → IsProper (served_on p al line line' rs hs later masked returned).read
unfolding IsProper
on_proper p al line line' rs hs later true returned h = tt
on_proper p al line line' rs hs later false true h = tt
on_proper p al line line' rs hs later false false h = h

line_proper : (p : ℕ) (al : List AliasList) (line : Cooked) (rs : List Record) (hs : LineHistories) → IsProper (served_line p al line rs hs).read
unfolding IsProper
line_proper p al line [] hs = tt
line_proper p al line (r ∷ rs) hs =
    on_proper p al line (line_after line r hs) rs hs (served_line p al (line_after line r hs) rs hs) (is_masked line.mask r) (is_return (key_of r))
    (line_proper p al (line_after line r hs) rs hs)

units_proper : (p n : ℕ) (rs : List Record) (hs : LineHistories) (us : List ℕ) → IsProper (took_units p n rs hs us).read
unfolding IsProper
units_proper p n rs hs [] = tt
units_proper p n rs hs (u ∷ us) = tt

pub still_proper : (p : ℕ) (al : List AliasList) (read : OpenRead) (rs : List Record) (hs : LineHistories) → IsProper read → IsProper (served p al read rs hs).read
unfolding IsProper served
still_proper p al (reads.Line line) rs hs proper = line_proper p al line rs hs
still_proper p al (reads.Units n) [] hs proper = tt
still_proper p al (reads.Units n) (r ∷ rs) hs proper = units_proper p n (r ∷ rs) hs (units_of n (r ∷ rs))
still_proper p al (reads.Records n) [] hs proper = proper
still_proper p al (reads.Records n) (r ∷ rs) hs proper = tt
still_proper p al (reads.Done a) rs hs proper = tt
