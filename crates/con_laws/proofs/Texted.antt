-- The text of a read is that of the records that it took.
use Rattle.std.proofs.Common.{◌≡◌, ◌-◌, ◌==◌, ◌||◌, ℕ, Bool, true, false, cond, List, [], ◌∷◌, ◌++◌, zero, suc, refl, ap, ◌∙◌, sym, subst, length, take, append-nil, append_assoc, true≢false, inl, inr, arith}
use Rattle.std.proofs.lemmas.List.{take_at}
use Rattle.std.specs.List.{list_any}
use Rattle.con_units.specs.declared.code.Code.{Code}
use Rattle.con_units.specs.declared.code.Code.TheVariants as code
use Rattle.con_alias.specs.Aliases.{AliasList}
use Rattle.con_cooked.specs.Cooked.{Moment, is_return}
use Rattle.con_cooked.specs.Keys.{key_of}
use Rattle.con_cooked.specs.Mask.{is_masked}
use Rattle.con_cooked.specs.declared.cooked.Cooked.{Cooked}
use Rattle.con_history.specs.Histories.{LineHistories, lines_of}
use Rattle.con_readers.specs.Answering.{is_line_end}
use Rattle.con_readers.specs.Words.Answering.{line_through, EndsLine}
use Rattle.con_readers.specs.Words.Lines.{line_after, line_answer}
use Rattle.con_readers.specs.Pieces.{front, joined}
use Rattle.con_readers.specs.Reads.{answer_of}
use Rattle.con_readers.specs.Serving.{Served as Serving, is_done, served, served_line}
use Rattle.con_readers.specs.Words.Serving.{took_units, served_on}
use Rattle.con_readers.specs.Wants.{typed_unit, units_of}
use Rattle.con_readers.specs.declared.answer.Answer.{Answer}
use Rattle.con_readers.specs.declared.answer.Answer.TheVariants as answers
use Rattle.con_readers.specs.declared.open.OpenRead.{OpenRead}
use Rattle.con_readers.specs.declared.open.OpenRead.TheVariants as reads
use Rattle.con_records.specs.declared.record.Record.{Record}
use Rattle.con_laws.specs.Fates.{How, Served, Emptied, Interrupted, CutOff, Piece}
use Rattle.con_laws.specs.AnswerWalks.{by_how, read_after}
use Rattle.con_laws.specs.Texts.{lines_at, aliases_at}
use Rattle.con_laws.specs.TextWalks.{moments, presses_of, aliases_after, EndsText}
use Rattle.con_laws.proofs.Served.{TakesAll}
use Rattle.con_laws.proofs.Mine.{Fits, Right, done_rest}
use Rattle.con_laws.proofs.Fated.{Told, records_told}

-- ---- a line goes on

-- con_readers says of a line that is done that it took the records up to the first one that ends a line
unfoldable pub EndsPiece : Type 0
EndsPiece = (p : ℕ) (al : List AliasList) (line : Cooked) (rs : List Record) (hs : LineHistories) → is_done (served p al (reads.Line line) rs hs).read ≡ true → EndsLine al line rs hs (served p al (reads.Line line) rs hs)

pub through_is : (line : Cooked) (rs : List Record) (hs : LineHistories) → line_through line rs hs ≡ record line { presses = line.presses ++ moments (lines_of hs line.program) rs }
through_is line [] hs = ap (λ (ms : List Moment). let l : Cooked = record line { presses = ms } in l) (sym (append-nil line.presses))
through_is line (r ∷ rs) hs =
    let m : Moment = record { pressed = r; lines = lines_of hs line.program } in
    through_is (line_after line r hs) rs hs
    ∙ ap (λ (ms : List Moment). let l : Cooked = record line { presses = ms } in l) (append_assoc line.presses (m ∷ []) (moments (lines_of hs line.program) rs))

pub record GoesOn (line : Cooked) (rs : List Record) (hs : LineHistories) (s : Serving) : Type 0 where
  pub read : s.read ≡ reads.Line (line_through line rs hs)
  pub none : list_any (is_line_end line.mask) rs ≡ false

on_goes : (p : ℕ) (al : List AliasList) (line : Cooked) (r : Record) (rs : List Record) (hs : LineHistories) (later : Serving) (masked returned : Bool) → is_masked line.mask r ≡ masked → is_return (key_of r) ≡ returned
    → (is_done later.read ≡ false → GoesOn (line_after line r hs) rs hs later)
    → is_done (served_on p al line (line_after line r hs) rs hs later masked returned).read ≡ false → GoesOn line (r ∷ rs) hs (served_on p al line (line_after line r hs) rs hs later masked returned)
on_goes p al line r rs hs later true returned m e ih d = absurd (true≢false d)
on_goes p al line r rs hs later false true m e ih d = absurd (true≢false d)
on_goes p al line r rs hs later false false m e ih d =
    let g = ih d in
    let here : is_line_end line.mask r ≡ false = ap (λ (b : Bool). b || is_return (key_of r)) m ∙ e in
    record { read = g.read; none = ap (λ (b : Bool). b || list_any (is_line_end line.mask) rs) here ∙ g.none }

pub goes_on : (p : ℕ) (al : List AliasList) (line : Cooked) (rs : List Record) (hs : LineHistories) → is_done (served_line p al line rs hs).read ≡ false → GoesOn line rs hs (served_line p al line rs hs)
goes_on p al line [] hs d = record { read = refl; none = refl }
goes_on p al line (r ∷ rs) hs d =
    on_goes p al line r rs hs (served_line p al (line_after line r hs) rs hs) (is_masked line.mask r) (is_return (key_of r)) refl refl (goes_on p al (line_after line r hs) rs hs) d

-- ---- a line, piece by piece

first_or : (b c : Bool) → (b || c) ≡ false → (b ≡ false) × (c ≡ false)
first_or true c h = absurd (true≢false h)
first_or false c h = (refl, h)

any-append : (f : Record → Bool) (xs ys : List Record) → list_any f xs ≡ false → list_any f (xs ++ ys) ≡ list_any f ys
any-append f [] ys h = refl
any-append f (x ∷ xs) ys h = let parts = first_or (f x) (list_any f xs) h in ap (λ (b : Bool). b || list_any f (xs ++ ys)) parts.0 ∙ any-append f xs ys parts.1

-- as EndsText, by presses and aliases
record EndsSo (line : Cooked) (ms : List Moment) (al : List AliasList) (records : List Record) (text : List ℕ) : Type 0 where
  before : List Record
  last : Record
  took : records ≡ before ++ last ∷ []
  goes : list_any (is_line_end line.mask) before ≡ false
  ends : is_line_end line.mask last ≡ true
  text' : text ≡ line_answer (record line { presses = line.presses ++ ms }) al

units_in : OpenRead → List ℕ
units_in (reads.Done (answers.Units us)) = us
units_in (reads.Done (answers.Records rs)) = []
units_in (reads.Done (answers.Fail why)) = []
units_in (reads.Line line) = []
units_in (reads.Units n) = []
units_in (reads.Records n) = []

front_all : (rs : List Record) → front rs [] ≡ rs
front_all rs =
    let n : length rs - length {A = Record} [] ≡ length rs = omega arith in
    ap (λ (k : ℕ). take k rs) n ∙ ap (take (length rs)) (sym (append-nil rs)) ∙ take_at rs [] (length rs) refl

LineTold : List AliasList → ℕ → Cooked → List Piece → List ℕ → Type 0
LineTold al p line xs text = Right p (reads.Line line) xs → read_after p (reads.Line line) xs ≡ reads.Done (answers.Units text) → EndsSo line (presses_of line.program xs) (aliases_after al xs) (joined xs) text

-- it ends with this piece
ends_here : (al : List AliasList) (line : Cooked) (rs : List Record) (hs : LineHistories) (text : List ℕ) (s : Serving) → EndsLine al line rs hs s → s.records ≡ [] → s.read ≡ reads.Done (answers.Units text)
    → EndsSo line (moments (lines_of hs line.program) rs ++ []) al (rs ++ []) text
unfolding units_in
ends_here al line rs hs text s e none is =
    let whole : rs ≡ e.before ++ e.last ∷ [] = sym (front_all rs) ∙ ap (front rs) (sym none) ∙ e.piece in
    let ms : List Moment = moments (lines_of hs line.program) rs in
    record {
      before = e.before;
      last = e.last;
      took = append-nil rs ∙ whole;
      goes = e.goes;
      ends = e.ends;
      text' = ap units_in (sym is ∙ e.answer) ∙ ap (λ (xs : List Record). line_answer (line_through line xs hs) al) (sym whole) ∙ ap (λ (l : Cooked). line_answer l al) (through_is line rs hs)
          ∙ ap (λ (xs : List Moment). line_answer (record line { presses = line.presses ++ xs }) al) (sym (append-nil ms));
    }

-- it goes on
ends_later : (al : List AliasList) (line : Cooked) (rs : List Record) (ms more : List Moment) (records : List Record) (text : List ℕ) → list_any (is_line_end line.mask) rs ≡ false → EndsSo (record line { presses = line.presses ++ ms }) more al records text
    → EndsSo line (ms ++ more) al (rs ++ records) text
ends_later al line rs ms more records text none e = record {
  before = rs ++ e.before;
  last = e.last;
  took = ap (λ (xs : List Record). rs ++ xs) e.took ∙ sym (append_assoc rs e.before (e.last ∷ []));
  goes = any-append (is_line_end line.mask) rs e.before none ∙ e.goes;
  ends = e.ends;
  text' = e.text' ∙ ap (λ (xs : List Moment). line_answer (record line { presses = xs }) al) (append_assoc line.presses ms more);
}

piece_by : EndsPiece → (al : List AliasList) (p : ℕ) (line : Cooked) (hs : LineHistories) (rs : List Record) (xs : List Piece) (text : List ℕ) (b : Bool) → is_done (served_line p al line rs hs).read ≡ b → (served_line p al line rs hs).records ≡ []
    → ((l : Cooked) → LineTold al p l xs text) → Right p (served_line p al line rs hs).read xs → read_after p (served_line p al line rs hs).read xs ≡ reads.Done (answers.Units text)
    → EndsSo line (moments (lines_of hs line.program) rs ++ presses_of line.program xs) (aliases_after al xs) (rs ++ joined xs) text
unfolding LineTold EndsPiece served joined
piece_by w al p line hs rs xs text true d none ih right is =
    let s : Serving = served_line p al line rs hs in
    let nothing : xs ≡ [] = done_rest p s.read xs d right in
    subst (λ (zs : List Piece). EndsSo line (moments (lines_of hs line.program) rs ++ presses_of line.program zs) (aliases_after al zs) (rs ++ joined zs) text) (sym nothing)
    (ends_here al line rs hs text s (w p al line rs hs d) none (subst (λ (zs : List Piece). read_after p s.read zs ≡ reads.Done (answers.Units text)) nothing is))
piece_by w al p line hs rs xs text false d none ih right is =
    let g = goes_on p al line rs hs d in
    let ms : List Moment = moments (lines_of hs line.program) rs in
    let e = ih (line_through line rs hs) (subst (λ (r : OpenRead). Right p r xs) g.read right) (subst (λ (r : OpenRead). read_after p r xs ≡ reads.Done (answers.Units text)) g.read is) in
    ends_later (aliases_after al xs) line rs ms (presses_of line.program xs) (joined xs) text g.none
    (subst (λ (l : Cooked). EndsSo l (presses_of l.program xs) (aliases_after al xs) (joined xs) text) (through_is line rs hs) e)

pub failed_no : (p : ℕ) (why : Code) (xs : List Piece) (text : List ℕ) → Right p (reads.Done (answers.Fail why)) xs → read_after p (reads.Done (answers.Fail why)) xs ≡ reads.Done (answers.Units text) → ⊥
failed_no p why xs text right is =
    let none : xs ≡ [] = done_rest p (reads.Done (answers.Fail why)) xs refl right in
    let no : reads.Done (answers.Fail why) ≡ reads.Done (answers.Units text) = subst (λ (zs : List Piece). read_after p (reads.Done (answers.Fail why)) zs ≡ reads.Done (answers.Units text)) none is in
    cc

line_piece : EndsPiece → (p : ℕ) (line : Cooked) (how : How) (rs : List Record) (xs : List Piece) (text : List ℕ) → ((al : List AliasList) (l : Cooked) → LineTold al p l xs text) → Fits p (reads.Line line) how rs
    → Right p (by_how p (reads.Line line) how rs) xs → read_after p (by_how p (reads.Line line) how rs) xs ≡ reads.Done (answers.Units text)
    → EndsSo line (moments (lines_at line.program how) rs ++ presses_of line.program xs) (aliases_after (aliases_at how) xs) (rs ++ joined xs) text
unfolding Fits TakesAll served
line_piece w p line (Served hs al) rs xs text ih fits right is = piece_by w al p line hs rs xs text (is_done (served_line p al line rs hs).read) refl fits.1 (ih al) right is
line_piece w p line Emptied rs xs text ih fits right is = absurd fits
line_piece w p line Interrupted rs xs text ih fits right is = absurd (failed_no p code.Aborted xs text right is)
line_piece w p line CutOff rs xs text ih fits right is = absurd (failed_no p code.Closed xs text right is)

line_told : EndsPiece → (p : ℕ) (xs : List Piece) (text : List ℕ) (al : List AliasList) (line : Cooked) → LineTold al p line xs text
unfolding LineTold Right joined
line_told w p [] text al line = λ right is. cc
line_told w p (x ∷ xs) text al line = λ right is. line_piece w p line x.0.how x.1 xs text (λ d l. line_told w p xs text d l) right.0 right.1 is

-- ---- units

zero_units : (rs : List Record) → units_of zero rs ≡ []
unfolding units_of
zero_units [] = refl
zero_units (r ∷ rs) = refl

skip_by : (n : ℕ) (r : Record) (rs ts : List Record) (b : Bool) → (typed_unit r == 0) ≡ b → units_of (suc n) (r ∷ rs) ≡ [] → (units_of (suc n) rs ≡ [] → units_of (suc n) (rs ++ ts) ≡ units_of (suc n) ts) → units_of (suc n) (r ∷ (rs ++ ts)) ≡ units_of (suc n) ts
unfolding units_of
skip_by n r rs ts true e h ih = rw e (ih (sym (ap (λ (c : Bool). cond c (units_of (suc n) rs) (typed_unit r ∷ units_of n rs)) e) ∙ h))
skip_by n r rs ts false e h ih = let no : typed_unit r ∷ units_of n rs ≡ [] = sym (ap (λ (c : Bool). cond c (units_of (suc n) rs) (typed_unit r ∷ units_of n rs)) e) ∙ h in cc

units_skip : (n : ℕ) (rs ts : List Record) → units_of n rs ≡ [] → units_of n (rs ++ ts) ≡ units_of n ts
unfolding units_of
units_skip n [] ts h = refl
units_skip zero (r ∷ rs) ts h = sym (zero_units ts)
units_skip (suc n) (r ∷ rs) ts h = skip_by n r rs ts (typed_unit r == 0) refl h (units_skip (suc n) rs ts)

UnitsTold : ℕ → ℕ → List Piece → List ℕ → Type 0
UnitsTold p n xs text = Right p (reads.Units n) xs → read_after p (reads.Units n) xs ≡ reads.Done (answers.Units text) → text ≡ units_of n (joined xs)

units_by : (p n : ℕ) (rs : List Record) (hs : LineHistories) (us : List ℕ) (xs : List Piece) (text : List ℕ) → units_of n rs ≡ us → UnitsTold p n xs text → Right p (took_units p n rs hs us).read xs
    → read_after p (took_units p n rs hs us).read xs ≡ reads.Done (answers.Units text) → text ≡ units_of n (rs ++ joined xs)
unfolding UnitsTold joined units_in
units_by p n rs hs [] xs text none ih right is = ih right is ∙ sym (units_skip n rs (joined xs) none)
units_by p n rs hs (u ∷ us) xs text some ih right is =
    let none : xs ≡ [] = done_rest p (reads.Done (answers.Units (u ∷ us))) xs refl right in
    let last : reads.Done (answers.Units (u ∷ us)) ≡ reads.Done (answers.Units text) = subst (λ (zs : List Piece). read_after p (reads.Done (answers.Units (u ∷ us))) zs ≡ reads.Done (answers.Units text)) none is in
    subst (λ (zs : List Piece). text ≡ units_of n (rs ++ joined zs)) (sym none) (sym (ap units_in last) ∙ sym some ∙ ap (units_of n) (sym (append-nil rs)))

units_piece : (p n : ℕ) (how : How) (rs : List Record) (xs : List Piece) (text : List ℕ) → UnitsTold p n xs text → Fits p (reads.Units n) how rs
    → Right p (by_how p (reads.Units n) how rs) xs → read_after p (by_how p (reads.Units n) how rs) xs ≡ reads.Done (answers.Units text) → text ≡ units_of n (rs ++ joined xs)
unfolding Fits served UnitsTold
units_piece p n (Served hs al) [] xs text ih fits right is = ih right is
units_piece p n (Served hs al) (r ∷ rs) xs text ih fits right is = units_by p n (r ∷ rs) hs (units_of n (r ∷ rs)) xs text refl ih right is
units_piece p n Emptied rs xs text ih fits right is = absurd fits
units_piece p n Interrupted rs xs text ih fits right is = absurd (failed_no p code.Aborted xs text right is)
units_piece p n CutOff rs xs text ih fits right is = absurd (failed_no p code.Closed xs text right is)

units_told : (p n : ℕ) (xs : List Piece) (text : List ℕ) → UnitsTold p n xs text
unfolding UnitsTold Right joined
units_told p n [] text = λ right is. cc
units_told p n (x ∷ xs) text = λ right is. units_piece p n x.0.how x.1 xs text (units_told p n xs text) right.0 right.1 is

-- ---- any read

-- the text of a read that began so
unfoldable pub TextBy : OpenRead → List Piece → List Record → List ℕ → Type 0
TextBy (reads.Line line) xs records text = EndsText line xs records text
TextBy (reads.Units n) xs records text = text ≡ units_of n records
TextBy (reads.Records n) xs records text = ⊥
TextBy (reads.Done (answers.Units us)) xs records text = (text ≡ us) × (records ≡ [])
TextBy (reads.Done (answers.Records rs)) xs records text = ⊥
TextBy (reads.Done (answers.Fail why)) xs records text = ⊥

records_no : (rs : List Record) (a : Answer) (text : List ℕ) → a ≡ answers.Units text → Told a rs → ⊥
unfolding Told
records_no rs a text e (inl h) = let no : answers.Units text ≡ answers.Records rs = sym e ∙ h in cc
records_no rs a text e (inr h) = let no : answers.Units text ≡ answers.Fail code.Closed = sym e ∙ h.0 in cc

done_text : (p : ℕ) (a : Answer) (xs : List Piece) (text : List ℕ) → Right p (reads.Done a) xs → read_after p (reads.Done a) xs ≡ reads.Done (answers.Units text) → TextBy (reads.Done a) xs (joined xs) text
unfolding TextBy joined units_in
done_text p (answers.Units us) xs text right is =
    let none : xs ≡ [] = done_rest p (reads.Done (answers.Units us)) xs refl right in
    let last : reads.Done (answers.Units us) ≡ reads.Done (answers.Units text) = subst (λ (zs : List Piece). read_after p (reads.Done (answers.Units us)) zs ≡ reads.Done (answers.Units text)) none is in
    (sym (ap units_in last), ap joined none)
done_text p (answers.Records rs) xs text right is =
    let none : xs ≡ [] = done_rest p (reads.Done (answers.Records rs)) xs refl right in
    let no : reads.Done (answers.Records rs) ≡ reads.Done (answers.Units text) = subst (λ (zs : List Piece). read_after p (reads.Done (answers.Records rs)) zs ≡ reads.Done (answers.Units text)) none is in
    cc
done_text p (answers.Fail why) xs text right is = failed_no p why xs text right is

pub text_is : EndsPiece → (p : ℕ) (r : OpenRead) (xs : List Piece) (text : List ℕ) → Right p r xs → read_after p r xs ≡ reads.Done (answers.Units text) → TextBy r xs (joined xs) text
unfolding LineTold UnitsTold TextBy
text_is w p (reads.Line line) xs text right is =
    let e = line_told w p xs text [] line right is in
    record { before = e.before; last = e.last; took = e.took; goes = e.goes; ends = e.ends; text' = e.text' }
text_is w p (reads.Units n) xs text right is = units_told p n xs text right is
text_is w p (reads.Records n) xs text right is =
    let d : is_done (read_after p (reads.Records n) xs) ≡ true = ap is_done is in
    records_no (joined xs) (answer_of (read_after p (reads.Records n) xs)) text (ap answer_of is) (records_told p n xs right d)
text_is w p (reads.Done a) xs text right is = done_text p a xs text right is
