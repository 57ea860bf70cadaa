-- Line feeds and carriage returns in a row.
use Rattle.std.proofs.Common.{◌≡◌, ℕ, ◌+◌, ◌-◌, ◌*◌, ◌<◌, ◌≤◌, Bool, true, false, cond, ◌==◌, nat_lt, min, List, [], ◌∷◌, ◌++◌, length, map, take, drop, replicate, get_or, fold, refl, sym, ap, ◌∙◌, append_assoc, arith, length-drop}
use Rattle.std.specs.List.{list_all}
use Rattle.std.proofs.lemmas.List.{take_more, drop-append-le, drop-replicate, replicate-append-replicate, drop_all, length-take-le}
use Rattle.std.proofs.lemmas.List.Sums.{fold-append}
use Rattle.std.proofs.lemmas.Bool.{and_parts}
use Rattle.std.proofs.lemmas.Bool.Decides.{nat_tests}
use Rattle.std.proofs.Math.Nat.{mul-le-mul_right}
use Rattle.con_units.specs.Glyph.{Glyph}
use Rattle.con_units.specs.Split.{split, with_items, split_after}
use Rattle.con_units.specs.ReadLaws.{read_so}
use Rattle.con_vtgram.specs.Text.{grammar, is_front, whole, is_acting}
use Rattle.con_vtgram.specs.declared.item.Item.TheVariants.{Control}
use Rattle.con_term.specs.Ascii.{is_ascii_byte}
use Rattle.con_term.specs.Page.{Page, IsPage, blank, raised, lowered}
use Rattle.con_term.specs.Effect.{control_effect, unpended, effect}
use Rattle.con_term.specs.Ends.{is_end, all_done, one_more, feeds_in, ended}
use Rattle.con_term.specs.Terminal.{Terminal}
use Rattle.con_term.specs.Play.{play}
use Rattle.con_term.specs.Steps.{typed}
use Rattle.con_term.proofs.BlockLemmas.{two_steps}
use Rattle.con_term.proofs.FillLemmas.{append_none}
use Rattle.con_term.proofs.AsciiLemmas.{ascii_split, ascii_units}

-- ---- rows that go up

abbrev up : List Glyph → ℕ → Glyph → List Glyph
up xs n c = drop n xs ++ replicate n c

up_more : (xs : List Glyph) (n m : ℕ) (c : Glyph) → n + m ≤ length xs → up (up xs n c) m c ≡ up xs (n + m) c
up_more xs n m c h =
    ap (λ ys. ys ++ replicate m c) (drop-append-le m (drop n xs) (replicate n c) (omega (arith, h, length-drop {A = Glyph} n xs)) ∙ ap (λ ys. ys ++ replicate n c) (two_steps n m (n + m) xs refl))
    ∙ append_assoc (drop (n + m) xs) (replicate n c) (replicate m c)
    ∙ ap (λ ys. drop (n + m) xs ++ ys) (replicate-append-replicate n m c)

all_up : (xs : List Glyph) (n : ℕ) (c : Glyph) → length xs ≤ n → up xs n c ≡ replicate n c
all_up xs n c h = ap (λ ys. ys ++ replicate n c) (drop_all n xs h)

up_again : (xs : List Glyph) (n m : ℕ) (c : Glyph) → length xs ≤ n → m ≤ n → up (up xs n c) m c ≡ up xs n c
up_again xs n m c h k =
    ap (λ ys. up ys m c) (all_up xs n c h)
    ∙ ap (λ ys. ys ++ replicate m c) (drop-replicate m n c) ∙ replicate-append-replicate (n - m) m c ∙ ap (λ j. replicate j c) (omega (arith, k))
    ∙ sym (all_up xs n c h)

row_more_by : (xs : List Glyph) (w h n : ℕ) (c : Glyph) (b : Bool) → nat_lt n h ≡ b → length xs ≡ h * w → 0 < h → up (up xs (min n h * w) c) w c ≡ up xs (min (n + 1) h * w) c
row_more_by xs w h n c true e long some =
    let this : min n h ≡ n = grind (arith, nat_tests) in
    let next : min (n + 1) h ≡ n + 1 = grind (arith, nat_tests) in
    let fits : (n + 1) * w ≤ h * w = mul-le-mul_right w (grind (arith, nat_tests)) in
    let same : (n + 1) * w ≡ n * w + w = omega arith in
    rw (this, next) (up_more xs (n * w) w c (omega (arith, fits, same, long)) ∙ ap (λ j. up xs j c) (sym same))
row_more_by xs w h n c false e long some =
    let this : min n h ≡ h = grind (arith, nat_tests) in
    let next : min (n + 1) h ≡ h = grind (arith, nat_tests) in
    let fits : 1 * w ≤ h * w = mul-le-mul_right w some in
    rw (this, next) (up_again xs (h * w) w c (omega (arith, long)) (omega (arith, fits)))

row_more : (xs : List Glyph) (w h n : ℕ) (c : Glyph) → length xs ≡ h * w → 0 < h → up (up xs (min n h * w) c) w c ≡ up xs (min (n + 1) h * w) c
row_more xs w h n c long some = row_more_by xs w h n c (nat_lt n h) refl long some

none_up : (xs : List Glyph) (n : ℕ) (c : Glyph) → n ≡ 0 → up xs n c ≡ xs
none_up xs n c h = rw h (append_none xs)

-- ---- one unit more

changed : (s : Page) (cells cells' : List Glyph) (x x' y y' : ℕ) → cells ≡ cells' → x ≡ x' → y ≡ y' → record s { cells = cells; x = x; y = y; pending = false } ≡ record s { cells = cells'; x = x'; y = y'; pending = false }
changed s cells cells' x x' y y' a b c = rw (a, b, c) refl

feed_by : (s : Page) (count n : ℕ) (b : Bool) → nat_lt (min (s.y + n) (s.h - 1) + 1) s.h ≡ b → IsPage s → cond b (record (ended s count n) { y = min (s.y + n) (s.h - 1) + 1 }) (record (ended s count n) { cells = up (ended s count n).cells s.w (blank s) }) ≡ ended s (count + 1) (n + 1)
feed_by s count n true e p =
    let row : s.y < s.h = p.row in
    let this : min (s.y + n - (s.h - 1)) s.h ≡ 0 = grind (arith, nat_tests) in
    let next : min (s.y + (n + 1) - (s.h - 1)) s.h ≡ 0 = grind (arith, nat_tests) in
    changed s _ _ _ _ _ _ (ap (λ k. up s.cells (k * s.w) (blank s)) (this ∙ sym next)) (ap (λ b. cond b 0 s.x) (grind (arith, nat_tests))) (grind (arith, nat_tests))
feed_by s count n false e p =
    let row : s.y < s.h = p.row in
    let more : s.y + (n + 1) - (s.h - 1) ≡ s.y + n - (s.h - 1) + 1 = grind (arith, nat_tests) in
    changed s _ _ _ _ _ _ (row_more s.cells s.w s.h (s.y + n - (s.h - 1)) (blank s) p.cells (omega (arith, row)) ∙ ap (λ k. up s.cells (min k s.h * s.w) (blank s)) (sym more)) (ap (λ b. cond b 0 s.x) (grind (arith, nat_tests))) (grind (arith, nat_tests))

feed_more : (s : Page) (count n : ℕ) → IsPage s → control_effect (ended s count n) 10 ≡ ended s (count + 1) (n + 1)
unfolding lowered
feed_more s count n p = go (nat_lt (min (s.y + n) (s.h - 1) + 1) s.h) refl
  where
    go : (b : Bool) → nat_lt (min (s.y + n) (s.h - 1) + 1) s.h ≡ b → unpended (cond b (record (ended s count n) { y = min (s.y + n) (s.h - 1) + 1 }) (record (ended s count n) { cells = up (ended s count n).cells s.w (blank s) })) ≡ ended s (count + 1) (n + 1)
    go true e = feed_by s count n true e p
    go false e = feed_by s count n false e p

return_more : (s : Page) (count n : ℕ) → n ≤ count → control_effect (ended s count n) 13 ≡ ended s (count + 1) n
return_more s count n h = changed s _ _ _ _ _ _ refl (ap (λ b. cond b 0 s.x) (sym (before (nat_lt n (count + 1)) refl))) refl
  where
    before : (b : Bool) → nat_lt n (count + 1) ≡ b → nat_lt n (count + 1) ≡ true
    before true e = e
    before false e = absurd (grind (arith, nat_tests))

-- ---- in a row

is_one_of : (u : ℕ) → is_end u ≡ true → (u == 10) ≡ false → u ≡ 13
is_one_of u h e = grind (arith, nat_tests)

one_more_by : (s : Page) (u count n : ℕ) (b : Bool) → (u == 10) ≡ b → IsPage s → is_end u ≡ true → n ≤ count → control_effect (ended s count n) u ≡ ended s (count + 1) (one_more n u)
one_more_by s u count n true e p h k = let same : u ≡ 10 = grind (arith, nat_tests) in rw same (feed_more s count n p)
one_more_by s u count n false e p h k = let same : u ≡ 13 = is_one_of u h e in rw same (return_more s count n k)

few_more : (u count n : ℕ) (b : Bool) → (u == 10) ≡ b → n ≤ count → cond b (n + 1) n ≤ count + 1
few_more u count n true e h = omega (arith, h)
few_more u count n false e h = omega (arith, h)

few_still : (u count n : ℕ) → n ≤ count → one_more n u ≤ count + 1
few_still u count n h = few_more u count n (u == 10) refl h

row_ends : (s : Page) (us : List ℕ) (count n : ℕ) → IsPage s → list_all is_end us ≡ true → n ≤ count → fold control_effect (ended s count n) us ≡ ended s (count + length us) (fold one_more n us)
row_ends s [] count n p h k = ap (λ j. ended s j n) (omega arith)
row_ends s (u ∷ us) count n p h k = let both = and_parts (is_end u) (list_all is_end us) h in
    ap (λ t. fold control_effect t us) (one_more_by s u count n (u == 10) refl p both.0 k)
    ∙ row_ends s us (count + 1) (one_more n u) p both.1 (few_still u count n k)
    ∙ ap (λ j. ended s j (fold one_more (one_more n u) us)) (omega arith)

-- where none went before
still_ended : (s : Page) → IsPage s → ended s 0 0 ≡ record s { pending = false }
still_ended s p =
    let row : s.y < s.h = p.row in
    let none : min (s.y + 0 - (s.h - 1)) s.h ≡ 0 = grind (arith, nat_tests) in
    let here : min (s.y + 0) (s.h - 1) ≡ s.y = grind (arith, nat_tests) in
    changed s _ _ _ _ _ _ (none_up s.cells (min (s.y + 0 - (s.h - 1)) s.h * s.w) (blank s) (rw none (omega arith))) refl here

lowered_unpended : (s : Page) (b : Bool) → unpended (cond b (record s { y = s.y + 1 }) (raised s s.w)) ≡ unpended (cond b (record s { y = s.y + 1; pending = false }) (raised (record s { pending = false }) s.w))
lowered_unpended s true = refl
lowered_unpended s false = refl

first_feed : (s : Page) → control_effect s 10 ≡ control_effect (record s { pending = false }) 10
unfolding lowered
first_feed s = lowered_unpended s (nat_lt (s.y + 1) s.h)

first_by : (s : Page) (u : ℕ) (b : Bool) → (u == 10) ≡ b → is_end u ≡ true → control_effect s u ≡ control_effect (record s { pending = false }) u
first_by s u true e h = let same : u ≡ 10 = grind (arith, nat_tests) in rw same (first_feed s)
first_by s u false e h = let same : u ≡ 13 = is_one_of u h e in rw same refl

any_ends : (s : Page) (us : List ℕ) → IsPage s → 0 < length us → list_all is_end us ≡ true → fold control_effect s us ≡ ended s (length us) (fold one_more 0 us)
any_ends s [] p some h = absurd (omega arith)
any_ends s (u ∷ us) p some h = let both = and_parts (is_end u) (list_all is_end us) h in
    ap (λ t. fold control_effect t us) (first_by s u (u == 10) refl both.0 ∙ ap (λ t. control_effect t u) (sym (still_ended s p)))
    ∙ row_ends s (u ∷ us) 0 0 p h (omega arith) ∙ ap (λ j. ended s j (fold one_more 0 (u ∷ us))) (omega arith)

pub ends_done : (s after : Page) (bytes : List ℕ) (count feeds : ℕ) → IsPage s → 0 < count → count ≤ length bytes → list_all is_end (take count bytes) ≡ true → feeds ≡ feeds_in (take count bytes) → after ≡ ended s count feeds → after ≡ all_done s (take count bytes)
unfolding all_done feeds_in
ends_done s after bytes count feeds p some few h n e =
    let long : length (take count bytes) ≡ count = length-take-le count bytes few in
    e ∙ ap (ended s count) n ∙ sym (any_ends s (take count bytes) p (omega (arith, long, some)) h ∙ ap (λ j. ended s j (fold one_more 0 (take count bytes))) long)

pub none_done : (s : Page) → s ≡ all_done s []
unfolding all_done
none_done s = refl

-- ---- one byte more

pub none_fed : 0 ≡ feeds_in []
unfolding feeds_in
none_fed = refl

pub feeds_next : (bytes : List ℕ) (at feeds one : ℕ) → at < length bytes → feeds ≡ feeds_in (take at bytes) → one ≡ feeds_in (get_or bytes at 0 ∷ []) → feeds + one ≡ feeds_in (take (at + 1) bytes)
unfolding feeds_in
feeds_next bytes at feeds one lt h k = rw (take_more bytes at 0 lt, fold-append one_more 0 (take at bytes) (get_or bytes at 0 ∷ []), ← h, k) (by (get_or bytes at 0 == 10))
  where
    by : (b : Bool) → feeds + cond b 1 0 ≡ cond b (feeds + 1) feeds
    by true = refl
    by false = omega arith

-- ---- as bytes of a text

end_ascii : (u : ℕ) → is_end u ≡ true → is_ascii_byte u ≡ true
end_ascii u h = grind (arith, nat_tests)

no_escape : (u : ℕ) → is_end u ≡ true → (u == 0x1B) ≡ false
no_escape u h = grind (arith, nat_tests)

acting : (u : ℕ) → is_end u ≡ true → is_acting u ≡ true
acting u h = grind (arith, nat_tests)

end_items : (us : List ℕ) → list_all is_end us ≡ true → split grammar us ≡ record { items = map (λ u. Control u) us; tail = [] }
unfolding split_after is_front whole
end_items [] h = refl
end_items (u ∷ us) h = let k = and_parts (is_end u) (list_all is_end us) h in
    (read_so grammar).whole [] us u (Control u ∷ []) tt (rw (no_escape u k.0) refl) (rw (no_escape u k.0, acting u k.0) refl)
    ∙ ap (with_items (Control u ∷ [])) (end_items us k.1)

controls_fold : (s : Page) (us : List ℕ) → fold effect s (map (λ u. Control u) us) ≡ all_done s us
unfolding effect all_done
controls_fold s [] = refl
controls_fold s (u ∷ us) = controls_fold (control_effect s u) us

pub ends_run : (t : Terminal) (page : Page) (bytes : List ℕ) → t.bytes ≡ [] → t.units ≡ [] → list_all is_end bytes ≡ true → page ≡ all_done t.page bytes → record t { page = page } ≡ play t bytes
unfolding play typed
ends_run t page bytes none rest h e =
    whole_is t page none rest
    ∙ sym (rw (none, rest, ascii_split is_end end_ascii bytes h, ascii_units is_end end_ascii bytes h, end_items bytes h) (ap (λ s. record t { page = s; bytes = []; units = [] }) (controls_fold t.page bytes ∙ sym e)))
  where
    whole_is : (t : Terminal) (page : Page) → t.bytes ≡ [] → t.units ≡ [] → record t { page = page } ≡ record t { page = page; bytes = []; units = [] }
    whole_is t page none rest = rw (none, rest) refl
