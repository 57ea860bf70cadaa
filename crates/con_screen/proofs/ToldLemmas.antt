-- What a text tells is within bounds.
use Rattle.std.proofs.Common.{ℕ, ◌+◌, ◌*◌, ◌≤◌, Bool, true, false, not, cond, ◌==◌, ◌&&◌, nat_lt, List, [], ◌∷◌, ◌++◌, map, length, arith, length-append}
use Rattle.std.specs.Prelude.{fold, ◌/◌, ◌%◌, if◌then◌else◌}
use Rattle.std.proofs.lemmas.List.{length-map}
use Rattle.con_vtgram.specs.declared.item.Csi.{Csi}
use Rattle.con_vtgram.specs.declared.item.Item.{Item}
use Rattle.con_vtgram.specs.declared.item.Item.TheVariants as items
use Rattle.con_vtgram.specs.Few.{HaveShortTitles, AreFew}
use Rattle.con_vtgram.specs.Spoken.{Spoken, spoken_by}
use Rattle.con_units.specs.Split.{Split}
use Rattle.con_page.specs.Page.{Page}
use Rattle.con_page.specs.Effect.{first, is_reset}
use Rattle.con_units.specs.Decimal.{decimal}
use Rattle.con_page.specs.Kinds.{report_row, report_column}
use Rattle.con_screen.specs.Told.{Told, cursor_report, reported, csi_told, told_by, told_after}
use Rattle.con_screen.specs.Words.Told.{device_report, private_told, HasShortTitle}
use Rattle.con_screen.specs.Parts.{has_sequences, item_alone}
use Rattle.con_screen.specs.Written.{split_in, split_on, Heard, heard, written}
use Rattle.con_screen.specs.Words.Written.{spoken_alone}
use Rattle.con_screen.specs.Laws.{IsToldWithin}
use Rattle.con_page.specs.declared.mode.Mode.{Mode}

-- n units told u after t
record Within (n : ℕ) (t u : Told) : Type 0 where
  reports : length u.reports ≤ length t.reports + 10 * n
  title : HasShortTitle t → HasShortTitle u

within_if : (b : Bool) (n : ℕ) (t x y : Told) → Within n t x → Within n t y → Within n t (cond b x y)
within_if true n t x y h k = h
within_if false n t x y h k = k

within_none : (n : ℕ) (t : Told) → Within n t t
within_none n t = record { reports = omega arith; title = λ h. h }

within_then : (m n : ℕ) (t u v : Told) → Within m t u → Within n u v → Within (m + n) t v
within_then m n t u v h k = record { reports = let a = h.reports in let b = k.reports in omega (arith, a, b); title = λ s. k.title (h.title s) }

-- ---- an item

digits_short : (a b : Bool) (x y z : ℕ) → length ((if a then [] else x ∷ []) ++ (if b then [] else y ∷ []) ++ z ∷ []) ≤ 3
digits_short true true x y z = omega arith
digits_short true false x y z = omega arith
digits_short false true x y z = omega arith
digits_short false false x y z = omega arith

decimal_short : (n : ℕ) → length (decimal n) ≤ 3
unfolding decimal
decimal_short n = digits_short (nat_lt n 100) (nat_lt n 10) (0x30 + n / 100) (0x30 + n / 10 % 10) (0x30 + n % 10)

cursor_short : (row column : ℕ) → length (cursor_report row column) ≤ 10
unfolding cursor_report
cursor_short row column =
    let a = decimal_short row in
    let b = decimal_short column in
    let x = length-append (decimal row) (0x3B ∷ (decimal column ++ 0x52 ∷ [])) in
    let y = length-append (decimal column) (0x52 ∷ []) in
    omega (arith, a, b, x, y)

within_report : (t : Told) (report : List ℕ) → length report ≤ 10 → Within 1 t (reported t report)
within_report t report h = record { reports = let a = length-append t.reports report in omega (arith, a, h); title = λ s. s }

device_short : length device_report ≤ 10
device_short = omega arith

private_within : (t : Told) (c : Csi) → Within 1 t (private_told t c)
private_within t c = within_if (first c == 1) 1 t _ _ (record { reports = omega arith; title = λ h. h })
    (within_if (first c == 1049) 1 t _ _ (record { reports = omega arith; title = λ h. h }) (within_none 1 t))

csi_within : (p : Page) (t : Told) (c : Csi) → Within 1 t (csi_told p t c)
unfolding csi_told
csi_within p t c = within_if (is_reset c) 1 t _ _ (record { reports = omega arith; title = λ h. h })
    (within_if (not (c.inter == 0)) 1 t _ _ (within_none 1 t)
    (within_if c.private 1 t _ _ (private_within t c)
    (within_if ((c.last == 0x6E) && (first c == 6)) 1 t _ _ (within_report t _ (cursor_short (report_row p) (report_column p)))
    (within_if ((c.last == 0x63) && (first c == 0)) 1 t _ _ (within_report t device_report device_short) (within_none 1 t)))))

item_within : (p : Page) (t : Told) (title : List ℕ) (i : Item) → length title ≤ 255 → Within 1 t (told_by p t title i)
item_within p t title (items.Print u) h = within_none 1 t
item_within p t title (items.Control u) h = within_none 1 t
item_within p t title (items.Csi c) h = csi_within p t c
item_within p t title (items.Escape u) h = within_none 1 t
item_within p t title (items.Charset u) h = within_none 1 t
item_within p t title items.Title h = record { reports = omega arith; title = λ s. h }

heard_within : (b : Heard) (s : Spoken) → length s.title ≤ 255 → Within 1 b.told (heard b s).told
unfolding heard told_after
heard_within b s h = item_within b.page b.told s.title s.item h

-- ---- a text

fold_within : (b : Heard) (is : List Spoken) → HaveShortTitles is → Within (length is) b.told (fold heard b is).told
fold_within b [] h = within_none 0 b.told
fold_within b (i ∷ is) h =
    let one = heard_within b i h.0 in
    let more = fold_within (heard b i) is h.1 in
    let both = within_then 1 (length is) b.told (heard b i).told (fold heard (heard b i) is).told one more in
    record { reports = let a = both.reports in omega (arith, a); title = both.title }

record FewIn (us : List ℕ) (is : List Spoken) : Type 0 where
  few : length is ≤ length us
  short : HaveShortTitles is

alone_title : (i : Item) → length (spoken_by [] i).title ≤ 255
alone_title (items.Print u) = omega arith
alone_title (items.Control u) = omega arith
alone_title (items.Csi c) = omega arith
alone_title (items.Escape u) = omega arith
alone_title (items.Charset u) = omega arith
alone_title items.Title = omega arith

alone_short : (m : Mode) (us : List ℕ) → HaveShortTitles (map (spoken_alone m) us)
alone_short m [] = tt
alone_short m (u ∷ us) = (alone_title (item_alone m u), alone_short m us)

few_if : (b : Bool) (us : List ℕ) (x y : Split Spoken) → FewIn us x.items → FewIn us y.items → FewIn us (cond b x y).items
few_if true us x y h k = h
few_if false us x y h k = k

split_few : AreFew → (m : Mode) (tail us : List ℕ) → FewIn us (split_in m tail us).items
unfolding split_in
split_few law m tail us = few_if (has_sequences m) us _ _
    (record { few = law.items tail us; short = law.titles tail us })
    (record { few = rw (length-map us (spoken_alone m)) (omega arith); short = alone_short m us })

pub told_within : AreFew → IsToldWithin
unfolding written
told_within law = record {
  reports = λ s t us.
      let few = split_few law s.page.mode s.text us in
      let told = fold_within (record { page = s.page; told = t }) (split_on s us).items few.short in
      let a = few.few in
      let b = told.reports in
      omega (arith, a, b);
  title = λ s t us h. (fold_within (record { page = s.page; told = t }) (split_on s us).items (split_few law s.page.mode s.text us).short).title h;
}
