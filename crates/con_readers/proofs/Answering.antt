-- A read of units, and one of a line, answer their pieces.
use Rattle.std.proofs.Common.{◌≡◌, ◌==◌, ◌||◌, ℕ, Bool, true, false, List, [], ◌∷◌, ◌++◌, zero, suc, refl, ap, ◌∙◌, sym}
use Rattle.std.specs.List.{list_any}
use Rattle.con_records.specs.declared.record.Record.{Record}
use Rattle.con_history.specs.declared.histories.Histories.{Histories}
use Rattle.con_alias.specs.Aliases.{AliasList}
use Rattle.con_cooked.specs.declared.cooked.Cooked.{Cooked}
use Rattle.con_cooked.specs.Keys.{key_of}
use Rattle.con_cooked.specs.Mask.{is_masked}
use Rattle.con_cooked.specs.Cooked.{is_return}
use Rattle.con_readers.specs.Wants.{typed_unit, units_of, rest_of}
use Rattle.con_readers.specs.Words.Lines.{line_after}
use Rattle.con_readers.specs.Act.{Act, typed}
use Rattle.con_readers.specs.Serving.{is_done, Served, served, served_line}
use Rattle.con_readers.specs.Words.Serving.{took_units, served_on}
use Rattle.con_readers.specs.Pieces.{front}
use Rattle.con_readers.specs.Answering.{is_line_end}
use Rattle.con_readers.specs.Words.Answering.{EndsLine}
use Rattle.con_readers.proofs.Pieces.{EndsWith, front_is, ends_line, front_more}
use Rattle.con_readers.specs.declared.answer.Answer.TheVariants as answers
use Rattle.con_readers.specs.declared.open.OpenRead.TheVariants as reads

-- what was taken has the same units
record Split (n : ℕ) (rs : List Record) : Type 0 where
  piece : List Record
  whole : rs ≡ piece ++ rest_of n rs
  same : units_of n piece ≡ units_of n rs

split_by : (n : ℕ) (r : Record) (rs : List Record) (b : Bool) → (typed_unit r == 0) ≡ b → Split (suc n) rs → Split n rs → Split (suc n) (r ∷ rs)
unfolding units_of rest_of
split_by n r rs true e on less = record {
  piece = r ∷ on.piece;
  whole = rw e (ap (λ (qs : List Record). r ∷ qs) on.whole);
  same = rw e on.same;
}
split_by n r rs false e on less = record {
  piece = r ∷ less.piece;
  whole = rw e (ap (λ (qs : List Record). r ∷ qs) less.whole);
  same = rw e (ap (λ (us : List ℕ). typed_unit r ∷ us) less.same);
}

split : (n : ℕ) (rs : List Record) → Split n rs
unfolding units_of rest_of
split n [] = record { piece = []; whole = refl; same = refl }
split zero (r ∷ rs) = record { piece = []; whole = refl; same = refl }
split (suc n) (r ∷ rs) = split_by n r rs (typed_unit r == 0) refl (split (suc n) rs) (split n rs)

units_front : (n : ℕ) (rs : List Record) → units_of n (front rs (rest_of n rs)) ≡ units_of n rs
units_front n rs = let s = split n rs in ap (units_of n) (front_is rs s.piece (rest_of n rs) s.whole) ∙ s.same

units_by : (p n : ℕ) (rs : List Record) (hs : Histories) (us : List ℕ) → units_of n rs ≡ us → is_done (took_units p n rs hs us).read ≡ true
    → (took_units p n rs hs us).read ≡ reads.Done (answers.Units (units_of n (front rs (took_units p n rs hs us).records)))
units_by p n rs hs [] is d = cc
units_by p n rs hs (u ∷ us) is d = ap (λ (vs : List ℕ). reads.Done (answers.Units vs)) (sym is ∙ sym (units_front n rs))

pub units-piece : (p n : ℕ) (al : List AliasList) (rs : List Record) (hs : Histories) → is_done (served p al (reads.Units n) rs hs).read ≡ true
    → (served p al (reads.Units n) rs hs).read ≡ reads.Done (answers.Units (units_of n (front rs (served p al (reads.Units n) rs hs).records)))
unfolding served
units-piece p n al [] hs d = cc
units-piece p n al (r ∷ rs) hs d = units_by p n (r ∷ rs) hs (units_of n (r ∷ rs)) refl d

-- whether a record ends a line, by whether it is a masked control, and else whether it is return
unmasked_end : (mask : ℕ) (r : Record) (returned : Bool) → is_masked mask r ≡ false → is_return (key_of r) ≡ returned → is_line_end mask r ≡ returned
unmasked_end mask r returned m e = ap (λ (b : Bool). b || is_return (key_of r)) m ∙ e

-- a record before
goes_on : (al : List AliasList) (line : Cooked) (r : Record) (rs : List Record) (hs : Histories) (s : Served) (a : Act) → is_line_end line.mask r ≡ false → EndsWith rs s.records
    → EndsLine al (line_after line r hs) rs hs s → EndsLine al line (r ∷ rs) hs (record s { acts = a ∷ s.acts })
goes_on al line r rs hs s a going ends e = record {
  before = r ∷ e.before;
  last = e.last;
  piece = front_more r rs s.records ends ∙ ap (λ (qs : List Record). r ∷ qs) e.piece;
  goes = ap (λ b. b || list_any (is_line_end line.mask) e.before) going ∙ e.goes;
  ends = e.ends;
  answer = e.answer;
}

ends_by : (p : ℕ) (al : List AliasList) (line : Cooked) (r : Record) (rs : List Record) (hs : Histories) (later : Served) (masked returned : Bool) → is_masked line.mask r ≡ masked → is_return (key_of r) ≡ returned → EndsWith rs later.records
    → (is_done later.read ≡ true → EndsLine al (line_after line r hs) rs hs later) → is_done (served_on p al line (line_after line r hs) rs hs later masked returned).read ≡ true
    → EndsLine al line (r ∷ rs) hs (served_on p al line (line_after line r hs) rs hs later masked returned)
ends_by p al line r rs hs later true returned m e ends ih d = record {
  before = [];
  last = r;
  piece = front_is (r ∷ rs) (r ∷ []) rs refl;
  goes = refl;
  ends = ap (λ (b : Bool). b || is_return (key_of r)) m;
  answer = refl;
}
ends_by p al line r rs hs later false true m e ends ih d = record {
  before = [];
  last = r;
  piece = front_is (r ∷ rs) (r ∷ []) rs refl;
  goes = refl;
  ends = unmasked_end line.mask r true m e;
  answer = refl;
}
ends_by p al line r rs hs later false false m e ends ih d =
    goes_on al line r rs hs later (typed p line (line_after line r hs)) (unmasked_end line.mask r false m e) ends (ih d)

line_ends : (p : ℕ) (al : List AliasList) (line : Cooked) (rs : List Record) (hs : Histories) → is_done (served_line p al line rs hs).read ≡ true → EndsLine al line rs hs (served_line p al line rs hs)
line_ends p al line [] hs d = cc
line_ends p al line (r ∷ rs) hs d =
    ends_by p al line r rs hs (served_line p al (line_after line r hs) rs hs) (is_masked line.mask r) (is_return (key_of r)) refl refl (ends_line p al (line_after line r hs) rs hs)
    (λ k. line_ends p al (line_after line r hs) rs hs k) d

pub line-piece : (p : ℕ) (al : List AliasList) (line : Cooked) (rs : List Record) (hs : Histories) → is_done (served p al (reads.Line line) rs hs).read ≡ true → EndsLine al line rs hs (served p al (reads.Line line) rs hs)
unfolding served
line-piece p al line rs hs d = line_ends p al line rs hs d
