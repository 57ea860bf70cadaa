-- What a row reads is told by the row's name and by what it was read of, and the other way round.
use Rattle.std.proofs.Common.{◌≡◌, refl, sym, ap, subst, ◌∙◌, ℕ, suc, List, [], ◌∷◌, map, true, false, Option, Some, None}
use Rattle.std.specs.Prelude.{codes, IfSome}
use Rattle.std.specs.List.{AllZip, AllByRecursion}
use Rattle.std.specs.Str.{bytes_eq}
use Rattle.std.proofs.lemmas.Bool.{cond_both, and_parts, false≢true, false_from_ne_true}
use Rattle.std.proofs.lemmas.Slice.Eq.{bytes_eq-Decides}
use Rattle.con_events.specs.declared.call.Call.{Call}
use Rattle.con_events.specs.declared.event.Wanted.TheVariants.{Read, ReadInput, ReadWith}
use Rattle.con_events.specs.declared.script.Step.{Step}
use Rattle.con_events.specs.declared.script.Step.TheVariants as steps
use Rattle.con_events.specs.Words.Arg as arg
use Rattle.con_events.specs.Arg.{Arg, Number, Signed, OneUnit, Flag, Text, Area, Clip, WordsOf, WordList, Records}
use Rattle.con_events.specs.Words.Arg.{Kind, kind_of, the_number, the_signed, the_flag, the_list, the_rect, the_clip, the_words, the_records}
use Rattle.con_events.specs.Fits.{ArgFits}
use Rattle.con_events.specs.Words.Fits.{ArgsFit}
use Rattle.con_events.specs.Reading.{Item, args_from, row_from, nothing_left, whole}
use Rattle.con_events.specs.Words.Table.{name_of, args_of, nth, Row, find, row_of, Tells, handles_rows, screens_rows, cells_rows, lines_rows, processes_rows, row_of_handles, row_of_screens, row_of_cells, row_of_lines, row_of_processes}
use Rattle.con_events.specs.TableLaws.{Makes, row_tells}
use Rattle.con_lines.specs.Shown.{shown}
use Rattle.con_lines.specs.Words.Shown.{items}
use Rattle.serde_json.specs.Data.{Data, Items, no_items, item}
use Rattle.con_document.specs.declared.version.Version.{Version}
use Rattle.con_document.specs.declared.version.Version.TheVariants.{One, Two}
use Rattle.con_document.specs.Steps.{as_step, waits_rows, later_rows, row_in_one, row_in_two, step_row}
use Rattle.con_document.specs.Readers.{step_told}
use Rattle.con_document.specs.PlainLaws.{is_plain, are_plain, and_then_keeps, map_keeps}

-- ---- arguments by their kinds

-- an argument of a kind, of what an argument has of it
abbrev rebuilt : Kind → Arg → Arg
rebuilt arg.number a = Number (the_number a)
rebuilt arg.signed a = Signed (the_signed a)
rebuilt arg.unit a = OneUnit (the_number a)
rebuilt arg.flag a = Flag (the_flag a)
rebuilt arg.text a = Text (the_list a)
rebuilt arg.rect a = Area (the_rect a)
rebuilt arg.clip a = Clip (the_clip a)
rebuilt arg.words a = WordsOf (the_words a)
rebuilt arg.list a = WordList (the_list a)
rebuilt arg.records a = Records (the_records a)

rebuilt_same : (a : Arg) → rebuilt (kind_of a) a ≡ a
rebuilt_same (Number n) = refl
rebuilt_same (Signed z) = refl
rebuilt_same (OneUnit u) = refl
rebuilt_same (Flag b) = refl
rebuilt_same (Text us) = refl
rebuilt_same (Area r) = refl
rebuilt_same (Clip r) = refl
rebuilt_same (WordsOf w) = refl
rebuilt_same (WordList ws) = refl
rebuilt_same (Records rs) = refl

-- arguments of these kinds, of those from a place on
abbrev pub rebuilt_all : List Kind → ℕ → List Arg → List Arg
rebuilt_all [] i xs = []
rebuilt_all (k ∷ ks) i xs = rebuilt k (nth i xs) ∷ rebuilt_all ks (suc i) xs

one_later : (ks : List Kind) (i : ℕ) (a : Arg) (xs : List Arg) → rebuilt_all ks (suc i) (a ∷ xs) ≡ rebuilt_all ks i xs
one_later [] i a xs = refl
one_later (k ∷ ks) i a xs = ap (λ (ys : List Arg). rebuilt k (nth i xs) ∷ ys) (one_later ks (suc i) a xs)

all_same : (xs : List Arg) → rebuilt_all (map kind_of xs) 0 xs ≡ xs
all_same [] = refl
all_same (a ∷ xs) =
    let rest : rebuilt_all (map kind_of xs) 1 (a ∷ xs) ≡ xs = one_later (map kind_of xs) 0 a xs ∙ all_same xs in
    λ i. rebuilt_same a i ∷ rest i

-- ---- values, and arguments that are written of them

-- whatever is read of a value as a kind is of this kind, and is written so
abbrev pub ReadsAs : (Data → Item) → (Arg → Data → Type 0) → Data → Type 0
ReadsAs seen R d = (k : Kind) → IfSome (seen d k) (λ a. (kind_of a ≡ k) × R a d)

args_read : (seen : Data → Item) (R : Arg → Data → Type 0) (ks : List Kind) (ds : List Data) → AllByRecursion (ReadsAs seen R) ds
    → IfSome (args_from ks (map seen ds)) (λ p. nothing_left p.1 ≡ true → (map kind_of p.0 ≡ ks) × AllZip R p.0 ds)
args_read seen R [] [] p = λ e. (refl, tt)
args_read seen R [] (d ∷ ds) p = λ e. absurd (cc)
args_read seen R (k ∷ ks) [] p = tt
args_read seen R (k ∷ ks) (d ∷ ds) p = and_then_keeps (seen d k) _ (λ a. (kind_of a ≡ k) × R a d) _ (p.0 k)
    (λ a q. map_keeps (args_from ks (map seen ds)) _ (λ r. nothing_left r.1 ≡ true → (map kind_of r.0 ≡ ks) × AllZip R r.0 ds) _ (args_read seen R ks ds p.1)
    (λ r s e. ((λ i. q.0 i ∷ (s e).0 i), (q.1, (s e).1))))

args_back : (seen : Data → Item) (R : Arg → Data → Type 0) → ((a : Arg) (d : Data) → R a d → seen d (kind_of a) ≡ Some a) → (xs : List Arg) (ds : List Data)
    → AllZip R xs ds → args_from (map kind_of xs) (map seen ds) ≡ Some (xs, [])
args_back seen R back [] [] z = refl
args_back seen R back [] (d ∷ ds) z = absurd z
args_back seen R back (a ∷ xs) [] z = absurd z
args_back seen R back (a ∷ xs) (d ∷ ds) z = rw (back a d z.0, args_back seen R back xs ds z.1) refl

-- the items as a list
abbrev pub listed : Items → List Data
listed no_items = []
listed (item d ds) = d ∷ listed ds

pub items_listed : (ds : Items) → items (listed ds) ≡ ds
items_listed no_items = refl
items_listed (item d ds) = ap (item d) (items_listed ds)

pub all_read : (seen : Data → Item) (R : Arg → Data → Type 0) → ((d : Data) → is_plain d ≡ true → ReadsAs seen R d) → (ds : Items) → are_plain ds ≡ true
    → AllByRecursion (ReadsAs seen R) (listed ds)
all_read seen R each no_items p = tt
all_read seen R each (item d ds) p = let parts = and_parts (is_plain d) (are_plain ds) p in (each d parts.0, all_read seen R each ds parts.1)

-- as a report shows it, within its limits
abbrev pub IsShown : Arg → Data → Type 0
IsShown a d = (d ≡ shown a) × ArgFits a

pub zip_shown : (xs : List Arg) (ds : List Data) → AllZip IsShown xs ds → (ds ≡ map shown xs) × ArgsFit xs
zip_shown [] [] z = (refl, tt)
zip_shown [] (d ∷ ds) z = absurd z
zip_shown (a ∷ xs) [] z = absurd z
zip_shown (a ∷ xs) (d ∷ ds) z = let rest = zip_shown xs ds z.1 in ((λ i. z.0.0 i ∷ rest.0 i), (z.0.1, rest.1))

-- ---- rows

-- a row tells what it makes by its name and by what it makes it of
abbrev RowTells : {A : Type 0} → (A → List ℕ × List Arg) → Row A → Type 0
RowTells told r = (xs : List Arg) → told (r.make xs) ≡ (r.name, rebuilt_all r.kinds 0 xs)

abbrev pub RowsTell : {A : Type 0} → (A → List ℕ × List Arg) → List (Row A) → Type 0
RowsTell told [] = Unit {0}
RowsTell told (r ∷ rs) = RowTells told r × RowsTell told rs

-- and it is the row of a name
abbrev pub Names : {A : Type 0} → (A → List ℕ × List Arg) → List ℕ → Row A → Type 0
Names told n r = (n ≡ r.name) × RowTells told r

pub find_tells : {A : Type 0} (told : A → List ℕ × List Arg) (n : List ℕ) (rs : List (Row A)) (other : Option (Row A)) → RowsTell told rs
    → IfSome other (Names told n) → IfSome (find n rs other) (Names told n)
find_tells told n [] other p q = q
find_tells told n (r ∷ rs) other p q = cond_both (bytes_eq n r.name) (Some r) (find n rs other) (λ o. IfSome o (Names told n))
    (λ h. ((bytes_eq-Decides n r.name).0 h, p.0)) (λ h. find_tells told n rs other p.1 q)

whole_keeps : {A : Type 0} (Q : A → Type 0) (o : Option (A × List Item)) → IfSome o (λ p. nothing_left p.1 ≡ true → Q p.0) → IfSome (whole o) Q
whole_keeps Q None p = tt
whole_keeps Q (Some s) p = cond_both (nothing_left s.1) (Some s.0) None (λ o. IfSome o Q) (λ h. p h) (λ h. tt)

made : {A : Type 0} (told : A → List ℕ × List Arg) (R : Arg → Data → Type 0) (n : List ℕ) (r : Row A) (ds : List Data) → Names told n r
    → (xs : List Arg) → map kind_of xs ≡ r.kinds → AllZip R xs ds → ((told (r.make xs)).0 ≡ n) × AllZip R (told (r.make xs)).1 ds
made told R n r ds p xs is z =
    let same : rebuilt_all r.kinds 0 xs ≡ xs = ap (λ (ks : List Kind). rebuilt_all ks 0 xs) (sym is) ∙ all_same xs in
    let tells = p.1 xs in (
      ap (λ (t : List ℕ × List Arg). t.0) tells ∙ sym p.0,
      subst (λ (ys : List Arg). AllZip R ys ds) (sym (ap (λ (t : List ℕ × List Arg). t.1) tells ∙ same)) z,
    )

-- what a row reads has its name, and is told by what was read
pub row_read : {A : Type 0} (told : A → List ℕ × List Arg) (seen : Data → Item) (R : Arg → Data → Type 0) (n : List ℕ) (o : Option (Row A)) (ds : List Data)
    → IfSome o (Names told n) → AllByRecursion (ReadsAs seen R) ds
    → IfSome (whole (row_from o (map seen ds))) (λ s. ((told s).0 ≡ n) × AllZip R (told s).1 ds)
row_read told seen R n None ds p q = tt
row_read {A} told seen R n (Some r) ds p q = whole_keeps (λ (s : A). ((told s).0 ≡ n) × AllZip R (told s).1 ds) (row_from (Some r) (map seen ds))
    (map_keeps (args_from r.kinds (map seen ds)) _ (λ t. nothing_left t.1 ≡ true → (map kind_of t.0 ≡ r.kinds) × AllZip R t.0 ds) _
    (args_read seen R r.kinds ds q) (λ t f e. made told R n r ds p t.0 (f e).0 (f e).1))

pub row_back : {A : Type 0} (seen : Data → Item) (R : Arg → Data → Type 0) → ((a : Arg) (d : Data) → R a d → seen d (kind_of a) ≡ Some a)
    → (s : A) (xs : List Arg) (o : Option (Row A)) (ds : List Data) → Makes s xs o → AllZip R xs ds → whole (row_from o (map seen ds)) ≡ Some s
row_back seen R back s xs None ds t z = absurd t
row_back seen R back s xs (Some r) ds t z = rw (t.0, args_back seen R back xs ds z, t.1) refl

-- ---- the rows of calls

abbrev call_told : Call → List ℕ × List Arg
call_told c = (name_of c, args_of c)

processes_tell : RowsTell call_told processes_rows
processes_tell = ((λ xs. refl), ((λ xs. refl), ((λ xs. refl), ((λ xs. refl), ((λ xs. refl), tt)))))

lines_tell : RowsTell call_told lines_rows
lines_tell = (
  (λ xs. refl),
  (
    (λ xs. refl),
    (
      (λ xs. refl),
      (
        (λ xs. refl),
        (
          (λ xs. refl),
          (
            (λ xs. refl),
            (
              (λ xs. refl),
              (
                (λ xs. refl),
                ((λ xs. refl), ((λ xs. refl), ((λ xs. refl), ((λ xs. refl), tt)))),
              ),
            ),
          ),
        ),
      ),
    ),
  ),
)

cells_tell : RowsTell call_told cells_rows
cells_tell = (
  (λ xs. refl),
  (
    (λ xs. refl),
    (
      (λ xs. refl),
      (
        (λ xs. refl),
        (
          (λ xs. refl),
          (
            (λ xs. refl),
            (
              (λ xs. refl),
              (
                (λ xs. refl),
                ((λ xs. refl), ((λ xs. refl), tt)),
              ),
            ),
          ),
        ),
      ),
    ),
  ),
)

screens_tell : RowsTell call_told screens_rows
screens_tell = (
  (λ xs. refl),
  (
    (λ xs. refl),
    (
      (λ xs. refl),
      (
        (λ xs. refl),
        (
          (λ xs. refl),
          (
            (λ xs. refl),
            (
              (λ xs. refl),
              (
                (λ xs. refl),
                ((λ xs. refl), tt),
              ),
            ),
          ),
        ),
      ),
    ),
  ),
)

handles_tell : RowsTell call_told handles_rows
handles_tell = ((λ xs. refl), ((λ xs. refl), ((λ xs. refl), ((λ xs. refl), ((λ xs. refl), ((λ xs. refl), ((λ xs. refl), ((λ xs. refl), tt))))))))

processes_named : (n : List ℕ) → IfSome (row_of_processes n) (Names call_told n)
unfolding row_of_processes
processes_named n = find_tells call_told n processes_rows None processes_tell tt

lines_named : (n : List ℕ) → IfSome (row_of_lines n) (Names call_told n)
unfolding row_of_lines
lines_named n = find_tells call_told n lines_rows (row_of_processes n) lines_tell (processes_named n)

cells_named : (n : List ℕ) → IfSome (row_of_cells n) (Names call_told n)
unfolding row_of_cells
cells_named n = find_tells call_told n cells_rows (row_of_lines n) cells_tell (lines_named n)

screens_named : (n : List ℕ) → IfSome (row_of_screens n) (Names call_told n)
unfolding row_of_screens
screens_named n = find_tells call_told n screens_rows (row_of_cells n) screens_tell (cells_named n)

calls_named : (n : List ℕ) → IfSome (row_of n) (Names call_told n)
unfolding row_of_handles
calls_named n = find_tells call_told n handles_rows (row_of_screens n) handles_tell (screens_named n)

-- ---- the rows of steps

as_step_named : (n : List ℕ) (o : Option (Row Call)) → IfSome o (Names call_told n) → IfSome (as_step o) (Names step_told n)
as_step_named n None p = tt
as_step_named n (Some r) p = p

waits_tell : RowsTell step_told waits_rows
waits_tell = ((λ xs. refl), ((λ xs. refl), ((λ xs. refl), tt)))

later_tell : RowsTell step_told later_rows
later_tell = ((λ xs. refl), tt)

one_named : (n : List ℕ) → IfSome (row_in_one n) (Names step_told n)
unfolding row_in_one
one_named n = find_tells step_told n waits_rows (as_step (row_of n)) waits_tell (as_step_named n (row_of n) (calls_named n))

two_named : (n : List ℕ) → IfSome (row_in_two n) (Names step_told n)
unfolding row_in_two
two_named n = find_tells step_told n later_rows (row_in_one n) later_tell (one_named n)

pub steps_named : (v : Version) (n : List ℕ) → IfSome (step_row v n) (Names step_told n)
steps_named One n = one_named n
steps_named Two n = two_named n

-- version 1 has no such name
pub none_in_one : row_in_one (codes "read-with") ≡ None
unfolding row_in_one row_of_handles row_of_screens row_of_cells row_of_lines row_of_processes
none_in_one = refl

-- ---- the row of a step

other : (n k : List ℕ) → (n ≡ k → ⊥) → bytes_eq n k ≡ false
other n k not = false_from_ne_true (bytes_eq n k) (λ is. not ((bytes_eq-Decides n k).0 is))

differ : (n k : List ℕ) → bytes_eq n k ≡ false → n ≡ k → ⊥
differ n k not is = false≢true (sym not ∙ (bytes_eq-Decides n k).1 is)

pub of_calls : (n : List ℕ) → (n ≡ codes "read" → ⊥) → (n ≡ codes "read-input" → ⊥) → (n ≡ codes "exit" → ⊥) → row_in_one n ≡ as_step (row_of n)
unfolding row_in_one
of_calls n a b c = rw (other n (codes "read") a, other n (codes "read-input") b, other n (codes "exit") c) refl

pub of_the_first : (n : List ℕ) → (n ≡ codes "read-with" → ⊥) → row_in_two n ≡ row_in_one n
unfolding row_in_two
of_the_first n a = rw (other n (codes "read-with") a) refl

-- steps that are no calls have names of their own
no_call : (n : List ℕ) → row_of n ≡ None → (c : Call) → name_of c ≡ n → ⊥
no_call n none c is = subst (λ (o : Option (Row Call)). Tells c o) none (subst (λ (m : List ℕ). Tells c (row_of m)) is (row_tells c))

no_read : row_of (codes "read") ≡ None
unfolding row_of_handles row_of_screens row_of_cells row_of_lines row_of_processes
no_read = refl

no_read_input : row_of (codes "read-input") ≡ None
unfolding row_of_handles row_of_screens row_of_cells row_of_lines row_of_processes
no_read_input = refl

no_read_with : row_of (codes "read-with") ≡ None
unfolding row_of_handles row_of_screens row_of_cells row_of_lines row_of_processes
no_read_with = refl

no_exit : row_of (codes "exit") ≡ None
unfolding row_of_handles row_of_screens row_of_cells row_of_lines row_of_processes
no_exit = refl

as_step_makes : (c : Call) (o : Option (Row Call)) → Tells c o → Makes (steps.Call c) (args_of c) (as_step o)
as_step_makes c None t = absurd t
as_step_makes c (Some r) t = (t.0, ap (λ (x : Call). steps.Call x) t.1)

call_makes : (c : Call) → Makes (steps.Call c) (args_of c) (row_in_one (name_of c))
call_makes c =
    let row = of_calls (name_of c) (no_call (codes "read") no_read c) (no_call (codes "read-input") no_read_input c) (no_call (codes "exit") no_exit c) in
    subst (λ (o : Option (Row Step)). Makes (steps.Call c) (args_of c) o) (sym row) (as_step_makes c (row_of (name_of c)) (row_tells c))

one_makes : (s : Step) → ((step_told s).0 ≡ codes "read-with" → ⊥) → Makes s (step_told s).1 (row_in_one (step_told s).0)
unfolding row_in_one
one_makes (steps.Call c) not = call_makes c
one_makes (steps.Begin (Read h n)) not = (refl, refl)
one_makes (steps.Begin (ReadInput h n)) not = (refl, refl)
one_makes (steps.Begin (ReadWith h n us mask)) not = absurd (not refl)
one_makes (steps.Exit n) not = (refl, refl)

two_makes : (s : Step) → Makes s (step_told s).1 (row_in_two (step_told s).0)
unfolding row_in_two
two_makes (steps.Call c) = subst (λ (o : Option (Row Step)). Makes (steps.Call c) (args_of c) o)
    (sym (of_the_first (name_of c) (no_call (codes "read-with") no_read_with c))) (call_makes c)
two_makes (steps.Begin (Read h n)) = one_makes (steps.Begin (Read h n)) (differ (codes "read") (codes "read-with") refl)
two_makes (steps.Begin (ReadInput h n)) = one_makes (steps.Begin (ReadInput h n)) (differ (codes "read-input") (codes "read-with") refl)
two_makes (steps.Begin (ReadWith h n us mask)) = (refl, refl)
two_makes (steps.Exit n) = one_makes (steps.Exit n) (differ (codes "exit") (codes "read-with") refl)

-- the row of a step's name makes it of its arguments
pub step_makes : (v : Version) (s : Step) → ((step_told s).0 ≡ codes "read-with" → v ≡ Two) → Makes s (step_told s).1 (step_row v (step_told s).0)
step_makes One s later = one_makes s (λ e. let bad : One ≡ Two = later e in absurd (cc))
step_makes Two s later = two_makes s
