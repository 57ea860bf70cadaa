-- What is told fits: it is within what types keep, and of its event's form.
use Rattle.std.proofs.Common.{◌≡◌, refl, ap, ◌∙◌, arith, ℕ, zero, suc, ◌<◌, List, [], ◌∷◌, map, Option, Some, None}
use Rattle.std.specs.Prelude.{IfSome, option_map, option_and_then}
use Rattle.std.specs.Str.{bytes_eq}
use Rattle.std.proofs.lemmas.Bool.{cond_both}
use Rattle.con_events.specs.declared.call.Call.{Call}
use Rattle.con_events.specs.declared.call.Words.TheVariants.{One, Each}
use Rattle.con_events.specs.Words.Arg as arg
use Rattle.con_events.specs.Arg.{Arg, Number, Signed, OneUnit, Text, Area, Clip, WordsOf, WordList, Records}
use Rattle.con_events.specs.Words.Arg.{Kind, kind_of, the_number, the_signed, the_list, the_rect, the_clip, the_words, the_records}
use Rattle.con_events.specs.Words.Table.{args_of, nth, Row, find, row_of, handles_rows, screens_rows, cells_rows, lines_rows, processes_rows, row_of_handles, row_of_screens, row_of_cells, row_of_lines, row_of_processes}
use Rattle.con_events.specs.RecordTable.{record_rows, row_of_record}
use Rattle.con_events.specs.Reading.{Item, first, others, args_from, row_from, call_from, nothing_left, whole}
use Rattle.con_events.specs.Fits.{AreUnits, RectFits, RecordFits, ArgFits}
use Rattle.con_events.specs.Words.Fits.{IsSmall, RecordsFit, ArgsFit}

-- ---- facts of what is there

pub and_then_keeps : {A B : Type 0} (o : Option A) (f : A → Option B) (P : A → Type 0) (Q : B → Type 0) → IfSome o P → ((a : A) → P a → IfSome (f a) Q) → IfSome (option_and_then f o) Q
and_then_keeps None f P Q p h = tt
and_then_keeps (Some a) f P Q p h = h a p

pub map_keeps : {A B : Type 0} (o : Option A) (f : A → B) (P : A → Type 0) (Q : B → Type 0) → IfSome o P → ((a : A) → P a → Q (f a)) → IfSome (option_map f o) Q
map_keeps None f P Q p h = tt
map_keeps (Some a) f P Q p h = h a p

-- ---- arguments of a kind, wherever they stand

fit_nth : (k : ℕ) (xs : List Arg) → ArgsFit xs → ArgFits (nth k xs)
fit_nth k [] f = omega arith
fit_nth zero (a ∷ xs) f = f.0
fit_nth (suc k) (a ∷ xs) f = fit_nth k xs f.1

abbrev kind_at : ℕ → List Kind → Kind
kind_at k [] = arg.number
kind_at zero (d ∷ ds) = d
kind_at (suc k) (d ∷ ds) = kind_at k ds

kind_nth : (k : ℕ) (xs : List Arg) → kind_of (nth k xs) ≡ kind_at k (map kind_of xs)
kind_nth k [] = refl
kind_nth zero (a ∷ xs) = refl
kind_nth (suc k) (a ∷ xs) = kind_nth k xs

fit_number : (a : Arg) → ArgFits a → the_number a < 4294967296
fit_number (Number n) p = p
fit_number (OneUnit u) p = omega (arith, p)
fit_number other p = omega arith

fit_unit : (a : Arg) → kind_of a ≡ arg.unit → ArgFits a → the_number a < 65536
fit_unit (OneUnit u) e p = p
fit_unit (Number n) e p = absurd (cc)
fit_unit other e p = omega arith

fit_signed : (a : Arg) → ArgFits a → IsSmall (the_signed a)
fit_signed (Signed z) p = p
fit_signed other p = omega arith

fit_list : (a : Arg) → ArgFits a → AreUnits (the_list a)
fit_list (Text us) p = p
fit_list (WordList ws) p = p
fit_list other p = tt

fit_rect : (a : Arg) → ArgFits a → RectFits (the_rect a)
fit_rect (Area r) p = p
fit_rect other p = (omega arith, omega arith, omega arith, omega arith)

fit_clip : (a : Arg) → ArgFits a → ArgFits (Clip (the_clip a))
fit_clip (Clip None) p = tt
fit_clip (Clip (Some r)) p = p
fit_clip other p = tt

fit_words : (a : Arg) → ArgFits a → ArgFits (WordsOf (the_words a))
fit_words (WordsOf (One w)) p = p
fit_words (WordsOf (Each ws)) p = p
fit_words other p = tt

fit_records : (a : Arg) → ArgFits a → RecordsFit (the_records a)
fit_records (Records rs) p = p
fit_records other p = tt

num : (k : ℕ) (xs : List Arg) → ArgsFit xs → the_number (nth k xs) < 4294967296
num k xs f = fit_number (nth k xs) (fit_nth k xs f)

uni : (k : ℕ) (xs : List Arg) → kind_of (nth k xs) ≡ arg.unit → ArgsFit xs → the_number (nth k xs) < 65536
uni k xs e f = fit_unit (nth k xs) e (fit_nth k xs f)

sig : (k : ℕ) (xs : List Arg) → ArgsFit xs → IsSmall (the_signed (nth k xs))
sig k xs f = fit_signed (nth k xs) (fit_nth k xs f)

lis : (k : ℕ) (xs : List Arg) → ArgsFit xs → AreUnits (the_list (nth k xs))
lis k xs f = fit_list (nth k xs) (fit_nth k xs f)

are : (k : ℕ) (xs : List Arg) → ArgsFit xs → RectFits (the_rect (nth k xs))
are k xs f = fit_rect (nth k xs) (fit_nth k xs f)

cli : (k : ℕ) (xs : List Arg) → ArgsFit xs → ArgFits (Clip (the_clip (nth k xs)))
cli k xs f = fit_clip (nth k xs) (fit_nth k xs f)

wor : (k : ℕ) (xs : List Arg) → ArgsFit xs → ArgFits (WordsOf (the_words (nth k xs)))
wor k xs f = fit_words (nth k xs) (fit_nth k xs f)

rcs : (k : ℕ) (xs : List Arg) → ArgsFit xs → RecordsFit (the_records (nth k xs))
rcs k xs f = fit_records (nth k xs) (fit_nth k xs f)

-- ---- rows of a table

abbrev pub RowKeeps : {A : Type 0} → (A → Type 0) → Row A → Type 0
RowKeeps Q r = (xs : List Arg) → map kind_of xs ≡ r.kinds → ArgsFit xs → Q (r.make xs)

abbrev pub RowsKeep : {A : Type 0} → (A → Type 0) → List (Row A) → Type 0
RowsKeep Q [] = Unit {0}
RowsKeep Q (r ∷ rs) = RowKeeps Q r × RowsKeep Q rs

find_keeps : {A : Type 0} (Q : A → Type 0) (n : List ℕ) (rs : List (Row A)) (other : Option (Row A)) → RowsKeep Q rs → IfSome other (RowKeeps Q) → IfSome (find n rs other) (RowKeeps Q)
find_keeps Q n [] other p q = q
find_keeps Q n (r ∷ rs) other p q = cond_both (bytes_eq n r.name) (Some r) (find n rs other) (λ o. IfSome o (RowKeeps Q)) (λ h. p.0) (λ h. find_keeps Q n rs other p.1 q)

-- what stands at each place fits, as any kind
abbrev pub ItemFits : Item → Type 0
ItemFits d = (k : Kind) → IfSome (d k) (λ a. (kind_of a ≡ k) × ArgFits a)

abbrev pub ItemsFit : List Item → Type 0
ItemsFit [] = Unit {0}
ItemsFit (d ∷ ds) = ItemFits d × ItemsFit ds

first_fits : (ds : List Item) (k : Kind) → ItemsFit ds → IfSome (first ds k) (λ a. (kind_of a ≡ k) × ArgFits a)
first_fits [] k p = tt
first_fits (d ∷ ds) k p = p.0 k

others_fit : (ds : List Item) → ItemsFit ds → ItemsFit (others ds)
others_fit [] p = tt
others_fit (d ∷ ds) p = p.1

args_fit : (ks : List Kind) (ds : List Item) → ItemsFit ds → IfSome (args_from ks ds) (λ p. (map kind_of p.0 ≡ ks) × ArgsFit p.0)
args_fit [] ds p = (refl, tt)
args_fit (k ∷ ks) ds p = and_then_keeps (first ds k) _ (λ a. (kind_of a ≡ k) × ArgFits a) _ (first_fits ds k p)
    (λ a q. map_keeps (args_from ks (others ds)) _ (λ r. (map kind_of r.0 ≡ ks) × ArgsFit r.0) _ (args_fit ks (others ds) (others_fit ds p))
    (λ r s. (rw (q.0, s.0) refl, (q.1, s.1))))

pub row_fits : {A : Type 0} (Q : A → Type 0) (o : Option (Row A)) (ds : List Item) → IfSome o (RowKeeps Q) → ItemsFit ds → IfSome (row_from o ds) (λ p. Q p.0)
row_fits Q None ds p q = tt
row_fits Q (Some r) ds p q = map_keeps (args_from r.kinds ds) _ (λ s. (map kind_of s.0 ≡ r.kinds) × ArgsFit s.0) _ (args_fit r.kinds ds q) (λ s t. p s.0 t.0 t.1)

pub whole_fits : {A : Type 0} (Q : A → Type 0) (o : Option (A × List Item)) → IfSome o (λ p. Q p.0) → IfSome (whole o) Q
whole_fits Q None p = tt
whole_fits Q (Some s) p = cond_both (nothing_left s.1) (Some s.0) None (λ o. IfSome o Q) (λ h. p) (λ h. tt)

-- ---- the table of calls

abbrev CallFits : Call → Type 0
CallFits c = ArgsFit (args_of c)

processes_keep : RowsKeep CallFits processes_rows
processes_keep = (
  (λ xs e f. tt),
  (
    (λ xs e f. (num 0 xs f, (num 1 xs f, tt))),
    (
      (λ xs e f. (tt, tt)),
      (
        (λ xs e f. (num 0 xs f, tt)),
        (
          (λ xs e f. (num 0 xs f, tt)),
          tt,
        ),
      ),
    ),
  ),
)

lines_keep : RowsKeep CallFits lines_rows
lines_keep = (
  (λ xs e f. (num 0 xs f, (num 1 xs f, tt))),
  (
    (λ xs e f. (num 0 xs f, (rcs 1 xs f, tt))),
    (
      (λ xs e f. (num 0 xs f, tt)),
      (
        (λ xs e f. (num 0 xs f, tt)),
        (
          (λ xs e f. tt),
          (
            (λ xs e f. (num 0 xs f, (num 1 xs f, (num 2 xs f, tt)))),
            (
              (λ xs e f. tt),
              (
                (λ xs e f. tt),
                (
                  (λ xs e f. (lis 0 xs f, (lis 1 xs f, (lis 2 xs f, tt)))),
                  (
                    (λ xs e f. (lis 0 xs f, (lis 1 xs f, tt))),
                    (
                      (λ xs e f. (lis 0 xs f, (lis 1 xs f, tt))),
                      (
                        (λ xs e f. (lis 0 xs f, tt)),
                        tt,
                      ),
                    ),
                  ),
                ),
              ),
            ),
          ),
        ),
      ),
    ),
  ),
)

cells_keep : RowsKeep CallFits cells_rows
cells_keep = (
  (λ xs e f. (num 0 xs f, (lis 1 xs f, tt))),
  (
    (λ xs e f. (num 0 xs f, (are 1 xs f, tt))),
    (
      (λ xs e f. (num 0 xs f, (are 1 xs f, (lis 2 xs f, (wor 3 xs f, tt))))),
      (
        (λ xs e f. (num 0 xs f, (sig 1 xs f, (sig 2 xs f, (num 3 xs f, tt))))),
        (
          (λ xs e f. (num 0 xs f, (sig 1 xs f, (sig 2 xs f, (num 3 xs f, tt))))),
          (
            (λ xs e f. (num 0 xs f, (sig 1 xs f, (sig 2 xs f, (lis 3 xs f, tt))))),
            (
              (λ xs e f. (num 0 xs f, (sig 1 xs f, (sig 2 xs f, (lis 3 xs f, tt))))),
              (
                (λ xs e f. (num 0 xs f, (sig 1 xs f, (sig 2 xs f, (num 3 xs f, (uni 4 xs (kind_nth 4 xs ∙ ap (kind_at 4) e) f, tt)))))),
                (
                  (λ xs e f. (num 0 xs f, (sig 1 xs f, (sig 2 xs f, (num 3 xs f, (uni 4 xs (kind_nth 4 xs ∙ ap (kind_at 4) e) f, tt)))))),
                  (
                    (λ xs e f. (num 0 xs f, (are 1 xs f, (cli 2 xs f, (sig 3 xs f, (sig 4 xs f, (uni 5 xs (kind_nth 5 xs ∙ ap (kind_at 5) e) f, (uni 6 xs (kind_nth 6 xs ∙ ap (kind_at 6) e) f, tt)))))))),
                    tt,
                  ),
                ),
              ),
            ),
          ),
        ),
      ),
    ),
  ),
)

screens_keep : RowsKeep CallFits screens_rows
screens_keep = (
  (λ xs e f. (num 0 xs f, tt)),
  (
    (λ xs e f. (num 0 xs f, (num 1 xs f, (num 2 xs f, tt)))),
    (
      (λ xs e f. (num 0 xs f, (sig 1 xs f, (sig 2 xs f, tt)))),
      (
        (λ xs e f. (num 0 xs f, tt)),
        (
          (λ xs e f. (num 0 xs f, (num 1 xs f, (tt, tt)))),
          (
            (λ xs e f. (num 0 xs f, (sig 1 xs f, (sig 2 xs f, tt)))),
            (
              (λ xs e f. (num 0 xs f, (uni 1 xs (kind_nth 1 xs ∙ ap (kind_at 1) e) f, tt))),
              (
                (λ xs e f. tt),
                (
                  (λ xs e f. (lis 0 xs f, tt)),
                  tt,
                ),
              ),
            ),
          ),
        ),
      ),
    ),
  ),
)

handles_keep : RowsKeep CallFits handles_rows
handles_keep = (
  (λ xs e f. (num 0 xs f, tt)),
  (
    (λ xs e f. (num 0 xs f, tt)),
    (
      (λ xs e f. (num 0 xs f, tt)),
      (
        (λ xs e f. (num 0 xs f, tt)),
        (
          (λ xs e f. (num 0 xs f, (num 1 xs f, tt))),
          (
            (λ xs e f. (num 0 xs f, tt)),
            (
              (λ xs e f. (num 0 xs f, tt)),
              (
                (λ xs e f. (num 0 xs f, (num 1 xs f, tt))),
                tt,
              ),
            ),
          ),
        ),
      ),
    ),
  ),
)

processes_kept : (n : List ℕ) → IfSome (row_of_processes n) (RowKeeps CallFits)
unfolding row_of_processes
processes_kept n = find_keeps CallFits n processes_rows None processes_keep tt

lines_kept : (n : List ℕ) → IfSome (row_of_lines n) (RowKeeps CallFits)
unfolding row_of_lines
lines_kept n = find_keeps CallFits n lines_rows (row_of_processes n) lines_keep (processes_kept n)

cells_kept : (n : List ℕ) → IfSome (row_of_cells n) (RowKeeps CallFits)
unfolding row_of_cells
cells_kept n = find_keeps CallFits n cells_rows (row_of_lines n) cells_keep (lines_kept n)

screens_kept : (n : List ℕ) → IfSome (row_of_screens n) (RowKeeps CallFits)
unfolding row_of_screens
screens_kept n = find_keeps CallFits n screens_rows (row_of_cells n) screens_keep (cells_kept n)

handles_kept : (n : List ℕ) → IfSome (row_of_handles n) (RowKeeps CallFits)
unfolding row_of_handles
handles_kept n = find_keeps CallFits n handles_rows (row_of_screens n) handles_keep (screens_kept n)

pub call_fits : (n : List ℕ) (ds : List Item) → ItemsFit ds → IfSome (whole (call_from n ds)) (λ c. ArgsFit (args_of c))
call_fits n ds p = whole_fits CallFits (call_from n ds) (row_fits CallFits (row_of n) ds (handles_kept n) p)

-- ---- the table of records

records_keep : RowsKeep RecordFits record_rows
records_keep = (
  (λ xs e f. (uni 1 xs (kind_nth 1 xs ∙ ap (kind_at 1) e) f, uni 2 xs (kind_nth 2 xs ∙ ap (kind_at 2) e) f, uni 3 xs (kind_nth 3 xs ∙ ap (kind_at 3) e) f, uni 4 xs (kind_nth 4 xs ∙ ap (kind_at 4) e) f, num 5 xs f)),
  (
    (λ xs e f. (sig 0 xs f, sig 1 xs f, num 2 xs f, num 3 xs f, num 4 xs f)),
    (
      (λ xs e f. (uni 0 xs (kind_nth 0 xs ∙ ap (kind_at 0) e) f, uni 1 xs (kind_nth 1 xs ∙ ap (kind_at 1) e) f)),
      (
        (λ xs e f. num 0 xs f),
        (
          (λ xs e f. tt),
          tt,
        ),
      ),
    ),
  ),
)

pub record_fits : (n : List ℕ) (ds : List Item) → ItemsFit ds → IfSome (whole (row_from (row_of_record n) ds)) RecordFits
unfolding row_of_record
record_fits n ds p = whole_fits RecordFits (row_from (row_of_record n) ds) (row_fits RecordFits (row_of_record n) ds (find_keeps RecordFits n record_rows None records_keep tt) p)
