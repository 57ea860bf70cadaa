-- Line feeds and carriage returns that act at once.
use Rattle.std.proofs.Common.{◌≡◌, ℕ, ◌+◌, ◌-◌, ◌*◌, ◌<◌, ◌≤◌, Bool, true, false, cond, ◌==◌, ◌&&◌, nat_lt, min, inl, inr, None, List, [], ◌∷◌, ◌++◌, length, take, drop, replicate, get_or, fold, refl, sym, ap, ◌∙◌, append_assoc, arith, length-drop}
use Rattle.std.specs.List.{list_all}
use Rattle.std.proofs.lemmas.List.{take_more, drop-append-le, drop-replicate, replicate-append-replicate, drop_all, length-take-le}
use Rattle.std.proofs.lemmas.Grind.{common_steps}
use Rattle.std.proofs.lemmas.List.Sums.{fold-append}
use Rattle.std.proofs.lemmas.Bool.{and_parts, cases_lt}
use Rattle.std.proofs.lemmas.Bool.Decides.{nat_tests}
use Rattle.std.proofs.Math.Nat.{mul-le-mul_right}
use Rattle.con_units.specs.Glyph.{Glyph}
use Rattle.con_vtgram.specs.declared.item.Item.TheVariants as items
use Rattle.con_grid.specs.Picture.{lifted, part_lifted}
use Rattle.con_grid.specs.Words.Picture.{part_of}
use Rattle.con_page.specs.Page.{Page, blank, rows_up, down_in, down, least_shift, shown}
use Rattle.con_page.specs.Words.Page.{IsPage}
use Rattle.con_page.specs.Effect.{control_effect, act, follow, effect}
use Rattle.con_page.specs.Ends.{is_end, act_next, all_ended, one_more, feeds_in, CanEnd, fed, goes_back, ended}
use Rattle.con_page.proofs.RunLemmas.{still}

-- ---- one unit more

pub none_fed : 0 ≡ feeds_in []
unfolding feeds_in
none_fed = refl

pub feeds_next : (units : List ℕ) (at feeds one : ℕ) → at < length units → feeds ≡ feeds_in (take at units) → one ≡ feeds_in (get_or units at 0 ∷ []) → feeds + one ≡ feeds_in (take (at + 1) units)
unfolding feeds_in
feeds_next units at feeds one lt h k = rw (take_more units at 0 lt, fold-append one_more 0 (take at units) (get_or units at 0 ∷ []), ← h, k) (by (get_or units at 0 == 10))
  where
    by : (b : Bool) → feeds + cond b 1 0 ≡ cond b (feeds + 1) feeds
    by true = refl
    by false = omega arith

-- ---- rows that go up

abbrev up : List Glyph → ℕ → Glyph → List Glyph
up xs n c = drop n xs ++ replicate n c

two_steps : (n m : ℕ) (xs : List Glyph) → drop m (drop n xs) ≡ drop (n + m) xs
two_steps n m xs = grind (arith, common_steps)

up_more : (xs : List Glyph) (n m : ℕ) (c : Glyph) → n + m ≤ length xs → up (up xs n c) m c ≡ up xs (n + m) c
up_more xs n m c h =
    ap (λ ys. ys ++ replicate m c) (drop-append-le m (drop n xs) (replicate n c) (omega (arith, h, length-drop {A = Glyph} n xs)) ∙ ap (λ ys. ys ++ replicate n c) (two_steps n m xs))
    ∙ append_assoc (drop (n + m) xs) (replicate n c) (replicate m c)
    ∙ ap (λ ys. drop (n + m) xs ++ ys) (replicate-append-replicate n m c)

all_up : (xs : List Glyph) (n : ℕ) (c : Glyph) → length xs ≤ n → up xs n c ≡ replicate n c
all_up xs n c h = ap (λ ys. ys ++ replicate n c) (drop_all n xs h)

up_again : (xs : List Glyph) (n m : ℕ) (c : Glyph) → length xs ≤ n → m ≤ n → up (up xs n c) m c ≡ up xs n c
up_again xs n m c h k =
    ap (λ ys. up ys m c) (all_up xs n c h)
    ∙ ap (λ ys. ys ++ replicate m c) (drop-replicate m n c) ∙ replicate-append-replicate (n - m) m c ∙ ap (λ j. replicate j c) (omega (arith, k))
    ∙ sym (all_up xs n c h)

row_more_by : (xs : List Glyph) (w h n : ℕ) (c : Glyph) (b : Bool) → nat_lt n h ≡ b → length xs ≡ h * w → 0 < h → up (up xs (min n h * w) c) w c ≡ up xs (min (n + 1) h * w) c
row_more_by xs w h n c true e long some =
    let this : min n h ≡ n = grind (arith, nat_tests) in
    let next : min (n + 1) h ≡ n + 1 = grind (arith, nat_tests) in
    let fits : (n + 1) * w ≤ h * w = mul-le-mul_right w (grind (arith, nat_tests)) in
    let same : (n + 1) * w ≡ n * w + w = omega arith in
    rw (this, next) (up_more xs (n * w) w c (omega (arith, fits, same, long)) ∙ ap (λ j. up xs j c) (sym same))
row_more_by xs w h n c false e long some =
    let this : min n h ≡ h = grind (arith, nat_tests) in
    let next : min (n + 1) h ≡ h = grind (arith, nat_tests) in
    let fits : 1 * w ≤ h * w = mul-le-mul_right w some in
    rw (this, next) (up_again xs (h * w) w c (omega (arith, long)) (omega (arith, fits)))

part_whole : (xs : List Glyph) (by : ℕ) (c : Glyph) → part_lifted xs 0 (length xs) by c ≡ lifted xs by c
unfolding part_lifted
part_whole xs by c =
    let part : part_of xs 0 (length xs) ≡ xs = grind (arith, common_steps) in
    let past : drop (length xs) xs ≡ [] = grind (arith, common_steps) in
    rw (part, past) (append_none (lifted xs by c))
  where
    append_none : (zs : List Glyph) → zs ++ [] ≡ zs
    append_none zs = grind (arith, common_steps)

lifted_up : (xs : List Glyph) (n : ℕ) (c : Glyph) → n ≤ length xs → lifted xs n c ≡ up xs n c
unfolding lifted
lifted_up xs n c h = ap (λ k. drop n xs ++ replicate k c) (omega (arith, h))

length_up : (xs : List Glyph) (n : ℕ) (c : Glyph) → n ≤ length xs → length (up xs n c) ≡ length xs
length_up xs n c h = grind (arith, common_steps)

-- all rows, of which there are h of w cells
whole_up : (xs : List Glyph) (w h n : ℕ) (c : Glyph) → length xs ≡ h * w → n ≤ h * w → part_lifted xs (0 * w) (h * w) n c ≡ up xs n c
whole_up xs w h n c long few =
    let none : 0 * w ≡ 0 = omega arith in
    rw (none, ← long) (part_whole xs n c ∙ lifted_up xs n c (omega (arith, long, few)))

row_more : (xs : List Glyph) (w h n : ℕ) (c : Glyph) → length xs ≡ h * w → 0 < h
    → part_lifted (part_lifted xs (0 * w) (h * w) (min n h * w) c) (0 * w) (h * w) (1 * w) c ≡ part_lifted xs (0 * w) (h * w) (min (n + 1) h * w) c
row_more xs w h n c long some =
    let one : 1 * w ≡ w = omega arith in
    let row : 1 * w ≤ h * w = mul-le-mul_right w some in
    let fits : w ≤ h * w = omega (arith, row) in
    let low : min n h * w ≤ h * w = mul-le-mul_right w (omega arith) in
    let less : min (n + 1) h * w ≤ h * w = mul-le-mul_right w (omega arith) in
    let same : length (up xs (min n h * w) c) ≡ h * w = length_up xs (min n h * w) c (omega (arith, low, long)) ∙ long in
    rw (one, whole_up xs w h (min n h * w) c long low, whole_up xs w h (min (n + 1) h * w) c long less)
    (whole_up (up xs (min n h * w) c) w h w c same fits ∙ row_more_by xs w h n c (nat_lt n h) refl long some)

none_up : (xs : List Glyph) (w h n : ℕ) (c : Glyph) → length xs ≡ h * w → n ≡ 0 → part_lifted xs (0 * w) (h * w) (n * w) c ≡ xs
none_up xs w h n c long none =
    let at : n * w ≡ 0 = rw none (omega arith) in
    rw at (whole_up xs w h 0 c long (omega arith) ∙ append_none xs)
  where
    append_none : (zs : List Glyph) → zs ++ [] ≡ zs
    append_none zs = grind (arith, common_steps)

-- ---- the window

above : (from size at : ℕ) → from + size ≤ at → least_shift from size at ≡ at + 1 - size
above from size at h = let a : nat_lt at from ≡ false = grind (arith, nat_tests) in let b : nat_lt at (from + size) ≡ false = grind (arith, nat_tests) in rw (a, b) refl

at_start : (from size : ℕ) → 0 < size → least_shift from size 0 ≡ 0
at_start from size some = by (nat_lt 0 from) refl
  where
    by : (b : Bool) → nat_lt 0 from ≡ b → cond b 0 (cond (nat_lt 0 (from + size)) from (0 + 1 - size)) ≡ 0
    by true e = refl
    by false e = let none : from ≡ 0 = grind (arith, nat_tests) in let on : nat_lt 0 (from + size) ≡ true = grind (arith, nat_tests) in rw on none

-- the window shows what it was moved for
shows_by : (from size at : ℕ) (a b : Bool) → nat_lt at from ≡ a → nat_lt at (from + size) ≡ b → 0 < size → (cond a at (cond b from (at + 1 - size)) ≤ at) × (at < cond a at (cond b from (at + 1 - size)) + size)
shows_by from size at true b e f some = (omega arith, omega (arith, some))
shows_by from size at false true e f some = (grind (arith, nat_tests), grind (arith, nat_tests))
shows_by from size at false false e f some = (omega (arith, some), omega (arith, some))

same_again : (from size at : ℕ) → 0 < size → least_shift (least_shift from size at) size at ≡ least_shift from size at
same_again from size at some = let s = shows_by from size at (nat_lt at from) (nat_lt at (from + size)) refl refl some in still (least_shift from size at) size at s.0 s.1

further : (from size a b : ℕ) → 0 < size → from ≤ a → a ≤ b → least_shift (least_shift from size a) size b ≡ least_shift from size b
further from size a b some low order = elim (cases_lt a (from + size)) [
  | inl inside ↦ ap (λ f. least_shift f size b) (still from size a low inside)
  | inr past ↦ ap (λ f. least_shift f size b) (above from size a past) ∙ go (nat_lt a b) refl past
]
  where
    go : (c : Bool) → nat_lt a b ≡ c → from + size ≤ a → least_shift (a + 1 - size) size b ≡ least_shift from size b
    go true e past = above (a + 1 - size) size b (grind (arith, nat_tests)) ∙ sym (above from size b (omega (arith, past, order)))
    go false e past = let same : b ≡ a = grind (arith, nat_tests) in rw same (still (a + 1 - size) size a (omega (arith, some)) (omega (arith, some, past)) ∙ sym (above from size a past))

-- ---- one unit more

-- the page with these cells and the cursor there, in the window
abbrev stood : Page → List Glyph → ℕ → ℕ → Page
stood p cells x y = record p { grid = record p.grid { cells = cells }; x = x; y = y; late = false; left = least_shift p.left p.w x; top = least_shift p.top p.h y }

-- the same with other cells and the cursor elsewhere, before the window follows
abbrev gone : Page → List Glyph → ℕ → ℕ → Page
gone q cells x y = record q { grid = record q.grid { cells = cells }; x = x; y = y; late = false }

followed_by : (p : Page) (cells now : List Glyph) (x x' y y' : ℕ) (b : Bool) → ((x' == x) && (y' == y)) ≡ b → 0 < p.w → 0 < p.h
    → cond b (gone (stood p cells x y) now x' y') (shown (gone (stood p cells x y) now x' y')) ≡ shown (gone (stood p cells x y) now x' y')
unfolding shown
followed_by p cells now x x' y y' true e wide tall =
    let column : x' ≡ x = grind (arith, nat_tests) in
    let row : y' ≡ y = grind (arith, nat_tests) in
    rw (column, row, same_again p.left p.w x wide, same_again p.top p.h y tall) refl
followed_by p cells now x x' y y' false e wide tall = refl

followed : (p : Page) (cells now : List Glyph) (x x' y y' : ℕ) → 0 < p.w → 0 < p.h
    → least_shift (least_shift p.left p.w x) p.w x' ≡ least_shift p.left p.w x' → least_shift (least_shift p.top p.h y) p.h y' ≡ least_shift p.top p.h y'
    → follow (stood p cells x y) (gone (stood p cells x y) now x' y') ≡ stood p now x' y'
unfolding follow shown
followed p cells now x x' y y' wide tall column row = followed_by p cells now x x' y y' ((x' == x) && (y' == y)) refl wide tall ∙ rw (column, row) refl

abbrev unlate : Page → Page
unlate q = record q { late = false }

abbrev fed_cells : Page → Bool → List Glyph
fed_cells q b = cond b (part_lifted q.grid.cells (0 * q.grid.width) (q.grid.height * q.grid.width) (1 * q.grid.width) (blank q)) q.grid.cells

feed_column : (q : Page) (k : Bool) → q.mode.keeps_column ≡ k → control_effect q 10 ≡ unlate (down (record q { x = cond k q.x 0 }))
unfolding control_effect
feed_column q true e = rw e refl
feed_column q false e = rw e refl

feed_row : (q : Page) → q.margins ≡ None → down q ≡ down_in q None
unfolding down
feed_row q none = ap (down_in q) none

feed_is : (q : Page) → q.margins ≡ None → control_effect q 10 ≡ gone q (fed_cells q (q.y + 1 == q.grid.height)) (cond q.mode.keeps_column q.x 0) (cond (q.y + 1 == q.grid.height) q.y (q.y + 1))
feed_is q none = feed_column q q.mode.keeps_column refl ∙ ap unlate (feed_row (record q { x = cond q.mode.keeps_column q.x 0 }) none) ∙ by (q.y + 1 == q.grid.height)
  where
    by : (b : Bool) → unlate (cond b (rows_up (record q { x = cond q.mode.keeps_column q.x 0 }) 0 q.grid.height 1) (record q { x = cond q.mode.keeps_column q.x 0; y = q.y + 1 })) ≡ gone q (fed_cells q b) (cond q.mode.keeps_column q.x 0) (cond b q.y (q.y + 1))
    by true = refl
    by false = refl

return_is : (q : Page) → control_effect q 13 ≡ gone q q.grid.cells 0 q.y
unfolding control_effect
return_is q = refl

-- ---- several

abbrev cells_at : Page → ℕ → List Glyph
cells_at p n = part_lifted p.grid.cells (0 * p.grid.width) (p.grid.height * p.grid.width) (min (p.y + n - (p.grid.height - 1)) p.grid.height * p.grid.width) (blank p)

abbrev row_at : Page → ℕ → ℕ
row_at p n = min (p.y + n) (p.grid.height - 1)

abbrev column_at : Page → ℕ → ℕ → ℕ
column_at p count n = cond (goes_back p.mode.keeps_column count n) 0 p.x

ended_by : (p : Page) (n : ℕ) (b : Bool) → shown (fed (cond b (record p { x = 0 }) p) n) ≡ stood p (cells_at p n) (cond b 0 p.x) (row_at p n)
unfolding shown
ended_by p n true = refl
ended_by p n false = refl

ended_is : (p : Page) (count n : ℕ) → ended p count n ≡ stood p (cells_at p n) (column_at p count n) (row_at p n)
unfolding ended
ended_is p count n = ended_by p n (goes_back p.mode.keeps_column count n)

long_cells : (p : Page) → IsPage p → length p.grid.cells ≡ p.grid.height * p.grid.width
long_cells p ok = ok.grid.cells ∙ omega arith

cells_more : (p : Page) (n : ℕ) (b : Bool) → (row_at p n + 1 == p.grid.height) ≡ b → IsPage p
    → cond b (part_lifted (cells_at p n) (0 * p.grid.width) (p.grid.height * p.grid.width) (1 * p.grid.width) (blank p)) (cells_at p n) ≡ cells_at p (n + 1)
cells_more p n true e ok =
    let row : p.y < p.grid.height = ok.row in
    let more : p.y + (n + 1) - (p.grid.height - 1) ≡ p.y + n - (p.grid.height - 1) + 1 = grind (arith, nat_tests) in
    rw more (row_more p.grid.cells p.grid.width p.grid.height (p.y + n - (p.grid.height - 1)) (blank p) (long_cells p ok) (omega (arith, row)))
cells_more p n false e ok =
    let row : p.y < p.grid.height = ok.row in
    let this : p.y + n - (p.grid.height - 1) ≡ 0 = grind (arith, nat_tests) in
    let next : p.y + (n + 1) - (p.grid.height - 1) ≡ 0 = grind (arith, nat_tests) in
    rw (this, next) refl

row_next : (p : Page) (n : ℕ) (b : Bool) → (row_at p n + 1 == p.grid.height) ≡ b → IsPage p → cond b (row_at p n) (row_at p n + 1) ≡ row_at p (n + 1)
row_next p n true e ok = let row : p.y < p.grid.height = ok.row in grind (arith, nat_tests)
row_next p n false e ok = let row : p.y < p.grid.height = ok.row in grind (arith, nat_tests)

same_test : (n c : ℕ) → nat_lt n c ≡ nat_lt (n + 1) (c + 1)
same_test n c = by (nat_lt n c) refl
  where
    by : (b : Bool) → nat_lt n c ≡ b → b ≡ nat_lt (n + 1) (c + 1)
    by true e = sym (grind (arith, nat_tests))
    by false e = sym (grind (arith, nat_tests))

column_next : (k : Bool) (x count n : ℕ) → cond k (cond (goes_back k count n) 0 x) 0 ≡ cond (goes_back k (count + 1) (n + 1)) 0 x
column_next true x count n = ap (λ b. cond b 0 x) (same_test n count)
column_next false x count n = let on : nat_lt 0 (count + 1) ≡ true = grind (arith, nat_tests) in rw on refl

column_back : (k : Bool) (x count n : ℕ) → n ≤ count → 0 ≡ cond (goes_back k (count + 1) n) 0 x
column_back true x count n h = let on : nat_lt n (count + 1) ≡ true = grind (arith, nat_tests) in rw on refl
column_back false x count n h = let on : nat_lt 0 (count + 1) ≡ true = grind (arith, nat_tests) in rw on refl

-- the window's column, where the column stays or becomes 0
left_next : (k : Bool) (from size x : ℕ) → 0 < size → least_shift (least_shift from size x) size (cond k x 0) ≡ least_shift from size (cond k x 0)
left_next true from size x some = same_again from size x some
left_next false from size x some = at_start (least_shift from size x) size some ∙ sym (at_start from size some)

feed_more : (p : Page) (count n : ℕ) → IsPage p → CanEnd p → effect (stood p (cells_at p n) (column_at p count n) (row_at p n)) (items.Control 10) ≡ stood p (cells_at p (n + 1)) (column_at p (count + 1) (n + 1)) (row_at p (n + 1))
unfolding effect act
feed_more p count n ok can =
    let x : ℕ = column_at p count n in
    let y : ℕ = row_at p n in
    let q : Page = stood p (cells_at p n) x y in
    let b : Bool = row_at p n + 1 == p.grid.height in
    let low : p.y < p.grid.height = ok.row in
    let row : cond b y (y + 1) ≡ row_at p (n + 1) = row_next p n b refl ok in
    ap (follow q) (feed_is q can.margins)
    ∙ followed p (cells_at p n) (fed_cells q b) x (cond p.mode.keeps_column x 0) y (cond b y (y + 1)) ok.wide ok.tall
    (left_next p.mode.keeps_column p.left p.w x ok.wide)
    (further p.top p.h y (cond b y (y + 1)) ok.tall (omega (arith, can.top, low)) (rw row (omega arith)))
    ∙ rw (cells_more p n b refl ok, column_next p.mode.keeps_column p.x count n, row) refl

return_more : (p : Page) (count n : ℕ) → IsPage p → CanEnd p → n ≤ count → effect (stood p (cells_at p n) (column_at p count n) (row_at p n)) (items.Control 13) ≡ stood p (cells_at p n) (column_at p (count + 1) n) (row_at p n)
unfolding effect act
return_more p count n ok can h =
    let x : ℕ = column_at p count n in
    let y : ℕ = row_at p n in
    let q : Page = stood p (cells_at p n) x y in
    ap (follow q) (return_is q)
    ∙ followed p (cells_at p n) (cells_at p n) x 0 y y ok.wide ok.tall (left_next false p.left p.w x ok.wide) (same_again p.top p.h y ok.tall)
    ∙ rw (← column_back p.mode.keeps_column p.x count n h) refl

is_one_of : (u : ℕ) → is_end u ≡ true → (u == 10) ≡ false → u ≡ 13
is_one_of u h e = grind (arith, nat_tests)

one_more_by : (p : Page) (u count n : ℕ) (b : Bool) → (u == 10) ≡ b → IsPage p → CanEnd p → is_end u ≡ true → n ≤ count → effect (ended p count n) (items.Control u) ≡ ended p (count + 1) (cond b (n + 1) n)
one_more_by p u count n true e ok can h k = let same : u ≡ 10 = grind (arith, nat_tests) in
    rw (same, ended_is p count n, ended_is p (count + 1) (n + 1)) (feed_more p count n ok can)
one_more_by p u count n false e ok can h k = let same : u ≡ 13 = is_one_of u h e in
    rw (same, ended_is p count n, ended_is p (count + 1) n) (return_more p count n ok can k)

few_more : (b : Bool) (count n : ℕ) → n ≤ count → cond b (n + 1) n ≤ count + 1
few_more true count n h = omega (arith, h)
few_more false count n h = omega (arith, h)

row_ends : (p : Page) (us : List ℕ) (count n : ℕ) → IsPage p → CanEnd p → list_all is_end us ≡ true → n ≤ count → fold act_next (ended p count n) us ≡ ended p (count + length us) (fold one_more n us)
row_ends p [] count n ok can h k = ap (λ j. ended p j n) (omega arith)
row_ends p (u ∷ us) count n ok can h k = let both = and_parts (is_end u) (list_all is_end us) h in
    ap (λ q. fold act_next q us) (one_more_by p u count n (u == 10) refl ok can both.0 k)
    ∙ row_ends p us (count + 1) (one_more n u) ok can both.1 (few_more (u == 10) count n k)
    ∙ ap (λ j. ended p j (fold one_more (one_more n u) us)) (omega arith)

-- where none went before
at_first : (k : Bool) (x : ℕ) → cond (goes_back k 0 0) 0 x ≡ x
at_first true x = refl
at_first false x = refl

still_there : (p : Page) → IsPage p → CanEnd p → ended p 0 0 ≡ record p { late = false }
still_there p ok can =
    let low : p.y < p.grid.height = ok.row in
    let none : min (p.y + 0 - (p.grid.height - 1)) p.grid.height ≡ 0 = omega (arith, low) in
    let here : min (p.y + 0) (p.grid.height - 1) ≡ p.y = omega (arith, low) in
    let cells : cells_at p 0 ≡ p.grid.cells = none_up p.grid.cells p.grid.width p.grid.height _ (blank p) (long_cells p ok) none in
    ended_is p 0 0
    ∙ rw (cells, at_first p.mode.keeps_column p.x, here, still p.left p.w p.x can.left can.right, still p.top p.h p.y can.top can.bottom) refl

first_feed : (p : Page) → p.margins ≡ None → effect p (items.Control 10) ≡ effect (record p { late = false }) (items.Control 10)
unfolding effect act follow
first_feed p none = rw (feed_is p none, feed_is (record p { late = false }) none) refl

first_return : (p : Page) → effect p (items.Control 13) ≡ effect (record p { late = false }) (items.Control 13)
unfolding effect act follow
first_return p = rw (return_is p, return_is (record p { late = false })) refl

first_by : (p : Page) (u : ℕ) (b : Bool) → (u == 10) ≡ b → p.margins ≡ None → is_end u ≡ true → effect p (items.Control u) ≡ effect (record p { late = false }) (items.Control u)
first_by p u true e none h = let same : u ≡ 10 = grind (arith, nat_tests) in rw same (first_feed p none)
first_by p u false e none h = let same : u ≡ 13 = is_one_of u h e in rw same (first_return p)

any_ends : (p : Page) (us : List ℕ) → IsPage p → CanEnd p → 0 < length us → list_all is_end us ≡ true → fold act_next p us ≡ ended p (length us) (fold one_more 0 us)
any_ends p [] ok can some h = absurd (omega arith)
any_ends p (u ∷ us) ok can some h = let both = and_parts (is_end u) (list_all is_end us) h in
    ap (λ q. fold act_next q us) (first_by p u (u == 10) refl can.margins both.0 ∙ ap (λ q. effect q (items.Control u)) (sym (still_there p ok can)))
    ∙ row_ends p (u ∷ us) 0 0 ok can h (omega arith) ∙ ap (λ j. ended p j (fold one_more 0 (u ∷ us))) (omega arith)

pub ends_done : (p after : Page) (units : List ℕ) (count feeds : ℕ) → IsPage p → CanEnd p → 0 < count → count ≤ length units → list_all is_end (take count units) ≡ true → feeds ≡ feeds_in (take count units) → after ≡ ended p count feeds → after ≡ all_ended p (take count units)
unfolding all_ended feeds_in
ends_done p after units count feeds ok can some few all n e =
    let long : length (take count units) ≡ count = length-take-le count units few in
    e ∙ ap (ended p count) n ∙ sym (any_ends p (take count units) ok can (omega (arith, long, some)) all ∙ ap (λ j. ended p j (fold one_more 0 (take count units))) long)

pub none_ended : (p : Page) → p ≡ all_ended p []
unfolding all_ended
none_ended p = refl

-- ---- as code has it

-- fewer rows than there are below
pub fed_inside : (p : Page) (n h : ℕ) → IsPage p → h ≡ p.grid.height → n ≤ h - 1 - p.y → record p { y = p.y + n; late = false } ≡ fed p n
fed_inside p n h ok high few =
    let low : p.y < p.grid.height = ok.row in
    let none : min (p.y + n - (p.grid.height - 1)) p.grid.height ≡ 0 = omega (arith, low, few, high) in
    let row : min (p.y + n) (p.grid.height - 1) ≡ p.y + n = omega (arith, low, few, high) in
    rw (none_up p.grid.cells p.grid.width p.grid.height _ (blank p) (long_cells p ok) none, row) refl

pub fed_past : (p after : Page) (n h by : ℕ) → IsPage p → h ≡ p.grid.height → h - 1 - p.y < n → by ≡ min (n - (h - 1 - p.y)) h → after ≡ rows_up p 0 h by → record after { y = h - 1; late = false } ≡ fed p n
fed_past p after n h by ok high many is e =
    let low : p.y < p.grid.height = ok.row in
    let rows : by ≡ min (p.y + n - (p.grid.height - 1)) p.grid.height = omega (arith, low, many, high, is) in
    let row : p.grid.height - 1 ≡ min (p.y + n) (p.grid.height - 1) = omega (arith, low, many, high) in
    rw (e, high, ← rows, ← row) refl
