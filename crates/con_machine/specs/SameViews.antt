-- That two views are the same is a test.
use Rattle.std.proofs.Common.{◌≡◌, ℕ, ℤ, Bool, true, false, not, ◌&&◌, List, [], ◌∷◌, Some, refl, ap, arith}
use Rattle.std.specs.Prelude.{◌==◌, ◌↔◌, int_le}
use Rattle.std.proofs.lemmas.Bool.{and_parts, eqb-true, eq-eqb}
use Rattle.std.proofs.lemmas.Int.{ints}
use Rattle.con_units.specs.Attr.{Attribute}
use Rattle.con_units.specs.Glyph.{Glyph}
use Rattle.con_units.specs.declared.shade.Shade.{Shade}
use Rattle.con_units.specs.declared.shade.Shade.TheVariants as shade
use Rattle.con_units.specs.declared.view.View.{View}
use Rattle.con_machine.specs.Painting.{same_shade, same_cell, same_number, same_view}
use Rattle.con_machine.specs.Words.Painting.{same_attribute, same_cells, same_bool, differs}

-- ---- what is the same is equal

shade_is : (a b : Shade) → same_shade a b ≡ true → a ≡ b
shade_is shade.Plain shade.Plain e = refl
shade_is shade.Plain (shade.Index n) e = cc
shade_is (shade.Index m) shade.Plain e = cc
shade_is (shade.Index m) (shade.Index n) e = ap (λ (k : ℕ). shade.Index k) (eqb-true m n e)

attribute_from : (w v : ℕ) (f g p q : Shade) → w ≡ v → f ≡ g → p ≡ q
    → ◌≡◌ {A = Attribute} (record { word = w; fore = f; back = p }) (record { word = v; fore = g; back = q })
attribute_from w v f g p q d e h = rw (d, e, h) refl

attribute_is : (a b : Attribute) → same_attribute a b ≡ true → a ≡ b
attribute_is a b e =
    let p = and_parts ((a.word == b.word) && same_shade a.fore b.fore) (same_shade a.back b.back) e in
    let q = and_parts (a.word == b.word) (same_shade a.fore b.fore) p.0 in
    attribute_from a.word b.word a.fore b.fore a.back b.back (eqb-true a.word b.word q.0) (shade_is a.fore b.fore q.1) (shade_is a.back b.back p.1)

cell_from : (u v : ℕ) (a b : Attribute) → u ≡ v → a ≡ b → ◌≡◌ {A = Glyph} (record { unit = u; attr = a }) (record { unit = v; attr = b })
cell_from u v a b d e = rw (d, e) refl

cell_is : (a b : Glyph) → same_cell a b ≡ true → a ≡ b
cell_is a b e =
    let p = and_parts (a.unit == b.unit) (same_attribute a.attr b.attr) e in
    cell_from a.unit b.unit a.attr b.attr (eqb-true a.unit b.unit p.0) (attribute_is a.attr b.attr p.1)

cells_from : (a b : Glyph) (cs bs : List Glyph) → a ≡ b → cs ≡ bs → a ∷ cs ≡ b ∷ bs
cells_from a b cs bs d e = rw (d, e) refl

cells_is : (cs bs : List Glyph) → same_cells cs bs ≡ true → cs ≡ bs
cells_is [] [] e = refl
cells_is [] (b ∷ bs) e = cc
cells_is (a ∷ rest) [] e = cc
cells_is (a ∷ rest) (b ∷ bs) e =
    let p = and_parts (same_cell a b) (same_cells rest bs) e in
    cells_from a b rest bs (cell_is a b p.0) (cells_is rest bs p.1)

le_from : (a b : ℤ) → int_le a b ≡ true → int_le b a ≡ true → a ≡ b
le_from a b d e = grind (arith, ints)

number_is : (a b : ℤ) → same_number a b ≡ true → a ≡ b
number_is a b e = let p = and_parts (int_le a b) (int_le b a) e in le_from a b p.0 p.1

bool_is : (a b : Bool) → same_bool a b ≡ true → a ≡ b
bool_is true true e = refl
bool_is true false e = cc
bool_is false true e = cc
bool_is false false e = refl

view_from : (w v h k : ℕ) (cs bs : List Glyph) (x p y q : ℤ) (s t : Bool) → w ≡ v → h ≡ k → cs ≡ bs → x ≡ p → y ≡ q → s ≡ t
    → ◌≡◌ {A = View} (record { size = record { w = w; h = h }; rows = cs; cursor = record { x = x; y = y }; visible = s })
    (record { size = record { w = v; h = k }; rows = bs; cursor = record { x = p; y = q }; visible = t })
view_from w v h k cs bs x p y q s t a b c d e f = rw (a, b, c, d, e, f) refl

pub view_is : (a b : View) → same_view a b ≡ true → a ≡ b
unfolding same_view
view_is a b e =
    let p =
    and_parts
    ((a.size.w == b.size.w) && (a.size.h == b.size.h) && same_cells a.rows b.rows && same_number a.cursor.x b.cursor.x
    && same_number a.cursor.y b.cursor.y) (same_bool a.visible b.visible) e in
    let q =
    and_parts ((a.size.w == b.size.w) && (a.size.h == b.size.h) && same_cells a.rows b.rows && same_number a.cursor.x b.cursor.x)
    (same_number a.cursor.y b.cursor.y) p.0 in
    let r = and_parts ((a.size.w == b.size.w) && (a.size.h == b.size.h) && same_cells a.rows b.rows) (same_number a.cursor.x b.cursor.x) q.0 in
    let s = and_parts ((a.size.w == b.size.w) && (a.size.h == b.size.h)) (same_cells a.rows b.rows) r.0 in
    let t = and_parts (a.size.w == b.size.w) (a.size.h == b.size.h) s.0 in
    view_from a.size.w b.size.w a.size.h b.size.h a.rows b.rows a.cursor.x b.cursor.x a.cursor.y b.cursor.y a.visible b.visible
    (eqb-true a.size.w b.size.w t.0) (eqb-true a.size.h b.size.h t.1) (cells_is a.rows b.rows s.1) (number_is a.cursor.x b.cursor.x r.1)
    (number_is a.cursor.y b.cursor.y q.1) (bool_is a.visible b.visible p.1)

-- ---- and what is equal is the same

shade_self : (a : Shade) → same_shade a a ≡ true
shade_self shade.Plain = refl
shade_self (shade.Index n) = eq-eqb n n refl

cell_self : (a : Glyph) → same_cell a a ≡ true
cell_self a = rw (eq-eqb a.unit a.unit refl, eq-eqb a.attr.word a.attr.word refl, shade_self a.attr.fore, shade_self a.attr.back) refl

cells_self : (cs : List Glyph) → same_cells cs cs ≡ true
cells_self [] = refl
cells_self (a ∷ rest) = rw (cell_self a, cells_self rest) refl

number_self : (a : ℤ) → same_number a a ≡ true
number_self a = let e : int_le a a ≡ true = grind (arith, ints) in rw e refl

bool_self : (a : Bool) → same_bool a a ≡ true
bool_self true = refl
bool_self false = refl

view_self : (a : View) → same_view a a ≡ true
unfolding same_view
view_self a =
    rw (
      eq-eqb a.size.w a.size.w refl,
      eq-eqb a.size.h a.size.h refl,
      cells_self a.rows,
      number_self a.cursor.x,
      number_self a.cursor.y,
      bool_self a.visible,
    ) refl

-- ---- a test that decides whether two views are equal

pub shows_same : (r : Bool) (a b : View) → ((r ≡ true) ↔ (a ≡ b)) → not r ≡ differs a (Some b)
shows_same true a b is = let e : a ≡ b = is.0 refl in rw e (rw (view_self b) refl)
shows_same false a b is = by_test (same_view a b) refl
  where
    by_test : (t : Bool) → same_view a b ≡ t → true ≡ not t
    by_test true e = absurd (let wrong : false ≡ true = is.1 (view_is a b e) in cc)
    by_test false e = refl
