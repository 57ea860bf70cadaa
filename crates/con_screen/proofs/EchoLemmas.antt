-- What a change of a line's whole text does, by its part that changed.
use Rattle.std.proofs.Common.{◌≡◌, ℕ, ◌+◌, ◌-◌, ◌*◌, ◌≤◌, Bool, true, false, cond, nat_eq, nat_lt, List, map, length, take, drop, get_or, None, refl, ap, ◌∙◌, arith}
use Rattle.std.specs.List.{range_with_len}
use Rattle.std.proofs.lemmas.Bool.Decides.{nat_tests}
use Rattle.std.proofs.lemmas.List.{length-drop, get_or-drop, take_all}
use Rattle.std.proofs.lemmas.List.FromFn.{fill_by_all, get_or-map-range_with_len, length-map-range_with_len}
use Rattle.std.proofs.lemmas.List.Sums.{common_prefix_len-le}
use Rattle.con_units.specs.Glyph.{Glyph, cell_of}
use Rattle.con_units.specs.Natural.{natural}
use Rattle.con_units.specs.Words.Units.{first_difference}
use Rattle.con_page.specs.Page.{Page, attr, blank, shown}
use Rattle.con_page.specs.Sides.{sides}
use Rattle.con_page.specs.SidesLaws.{down_in_sides}
use Rattle.con_page.specs.Echo.{origin_in, origin_after, cursor_at, rows_above, ruled, drawn_by, texts_rule, changed, ended}
use Rattle.con_page.specs.Words.Echo.{scrolled, part_rule}
use Rattle.con_page.specs.declared.origin.Origin.{Origin}
use Rattle.con_screen.specs.Echo.{echoed}
use Rattle.con_screen.specs.Words.Echo.{part_echoed}
use Rattle.con_screen.specs.Screen.{Screen}

no_lt : (a b : ℕ) → nat_lt a b ≡ false → b ≤ a
no_lt a b e = grind (arith, nat_tests)

pub changed_sides : (p : Page) (o : Origin) (end : ℕ) (rule : ℕ → Glyph → Glyph) (caret : ℕ) → sides (changed p o end rule caret) ≡ sides p
unfolding changed drawn_by shown
changed_sides p o end rule caret = refl

pub ended_sides : (p : Page) (o : Origin) (end : ℕ) → sides (ended p o end) ≡ sides p
unfolding ended shown
ended_sides p o end = down_in_sides (record (cursor_at p (origin_in p o) end) { x = 0 }) None

-- ---- the part of a text that changed

same_drawn : (p : Page) (o : Origin) (f g : ℕ → Glyph → Glyph) → ((k : ℕ) (was : Glyph) → f k was ≡ g k was) → drawn_by p o f ≡ drawn_by p o g
unfolding drawn_by
same_drawn p o f g same =
    let n : ℕ = length p.grid.cells in
    let was : ℕ → Glyph = λ i. get_or p.grid.cells i (blank p) in
    let one : ℕ → Glyph = λ i. ruled p o f i (was i) in
    let other : ℕ → Glyph = λ i. ruled p o g i (was i) in
    let both : (i : ℕ) → one i ≡ other i = λ i. ap (λ c. cond (nat_lt (i + rows_above o.y * p.grid.width) (natural o.y * p.grid.width + o.x)) (was i) c) (same (i + rows_above o.y * p.grid.width - (natural o.y * p.grid.width + o.x)) (was i)) in
    let cells : map one (range_with_len 0 n) ≡ map other (range_with_len 0 n) = fill_by_all other (map one (range_with_len 0 n)) n (blank p) (length-map-range_with_len one 0 n) (λ i h. get_or-map-range_with_len one 0 n i i (blank p) h (omega arith) ∙ both i) in
    ap (λ (c : List Glyph). record p { grid = record p.grid { cells = c } }) cells

same_changed : (p : Page) (o : Origin) (f g : ℕ → Glyph → Glyph) (end caret : ℕ) → ((k : ℕ) (was : Glyph) → f k was ≡ g k was) → changed p o end f caret ≡ changed p o end g caret
unfolding changed
same_changed p o f g end caret same =
    let at : Origin = origin_after p o end in
    ap (λ (q : Page). shown (cursor_at q at caret)) (same_drawn (scrolled p (origin_in p o) end) at f g same)

-- the changed part of a new text
abbrev changed_part : List ℕ → List ℕ → List ℕ
changed_part old new = take (length new - first_difference old new) (drop (first_difference old new) new)

part_is : (old new : List ℕ) → changed_part old new ≡ drop (first_difference old new) new
part_is old new = take_all (length new - first_difference old new) (drop (first_difference old new) new) (omega (arith, length-drop (first_difference old new) new))

first_inside : (old new : List ℕ) → first_difference old new ≤ length new
first_inside old new = (common_prefix_len-le nat_eq old new).1

part_ends : (old new : List ℕ) → first_difference old new + length (changed_part old new) ≡ length new
part_ends old new = rw (part_is old new, length-drop (first_difference old new) new) (omega (arith, first_inside old new))

choose : (t : Bool) (x x' y y' : Glyph) → (t ≡ true → x ≡ x') → (t ≡ false → y ≡ y') → cond t x y ≡ cond t x' y'
choose true x x' y y' f g = f refl
choose false x x' y y' f g = g refl

rest_test : (k old new : ℕ) → new ≤ k → nat_lt k (new + (old - new)) ≡ nat_lt k old
rest_test k old new h = grind (arith, nat_tests)

part_at : (old new : List ℕ) (k : ℕ) → first_difference old new ≤ k → get_or (changed_part old new) (k - first_difference old new) 0 ≡ get_or new k 0
part_at old new k h =
    let d : ℕ = first_difference old new in
    let here : d + (k - d) ≡ k = omega (arith, h) in
    rw (part_is old new) (get_or-drop d new (k - d) 0 ∙ ap (λ n. get_or new n 0) here)

-- place by place, the part and the whole texts have the same rule
same_rules : (p : Page) (old new : List ℕ) (k : ℕ) (was : Glyph) → part_rule p (first_difference old new) (changed_part old new) (length old - length new) k was ≡ texts_rule p old new k was
same_rules p old new k was =
    let d : ℕ = first_difference old new in
    let old_end : ℕ = length new + (length old - length new) in
    rw (part_ends old new)
    (choose (nat_lt k d) was was
    (cond (nat_lt k (length new)) (cell_of (get_or (changed_part old new) (k - d) 0) (attr p)) (cond (nat_lt k old_end) (blank p) was))
    (cond (nat_lt k (length new)) (cell_of (get_or new k 0) (attr p)) (cond (nat_lt k (length old)) (blank p) was))
    (λ e. refl)
    (λ e. choose (nat_lt k (length new)) (cell_of (get_or (changed_part old new) (k - d) 0) (attr p)) (cell_of (get_or new k 0) (attr p))
    (cond (nat_lt k old_end) (blank p) was)
    (cond (nat_lt k (length old)) (blank p) was)
    (λ f. ap (λ u. cell_of u (attr p)) (part_at old new k (no_lt k d e)))
    (λ f. ap (λ t. cond t (blank p) was) (rest_test k (length old) (length new) (no_lt k (length new) f)))))

pub echoed_by_part : (s : Screen) (o : Origin) (old new : List ℕ) (caret : ℕ) → part_echoed s o (first_difference old new) (changed_part old new) (length old - length new) caret ≡ echoed s o old new caret
echoed_by_part s o old new caret =
    let rule : ℕ → Glyph → Glyph = part_rule s.page (first_difference old new) (changed_part old new) (length old - length new) in
    ap (λ end. record { screen = record s { page = changed s.page o end rule caret }; origin = origin_after s.page o end }) (part_ends old new)
    ∙ ap (λ (p : Page). record { screen = record s { page = p }; origin = origin_after s.page o (length new) }) (same_changed s.page o rule (texts_rule s.page old new) (length new) caret (same_rules s.page old new))
