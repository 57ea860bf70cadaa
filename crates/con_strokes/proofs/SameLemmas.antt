-- Rows of cells that are the same.
use Rattle.std.proofs.Common.{◌≡◌, ◌↔◌, ℕ, ◌+◌, ◌<◌, ◌≤◌, Bool, true, false, ◌==◌, ◌&&◌, List, [], ◌∷◌, ◌++◌, length, take, get_or, refl, sym, ap, ◌∙◌, arith, zero, suc}
use Rattle.std.proofs.lemmas.List.{length-take-le, take_all, take_more}
use Rattle.std.proofs.lemmas.Bool.Decides.{nat_tests}
use Rattle.con_units.specs.Attr.{Attribute}
use Rattle.con_units.specs.Glyph.{Glyph}
use Rattle.con_units.specs.declared.shade.Shade.{Shade}
use Rattle.con_units.specs.declared.shade.Shade.TheVariants.{Plain, Index}
use Rattle.con_term.specs.Same.{same_attr, same_shade}
use Rattle.con_strokes.specs.Compared.{same_cell, same_cells}

pub both : (a b : Bool) → (a && b) ≡ true → (a ≡ true) × (b ≡ true)
both true b h = (refl, h)
both false b h = cc

shades_same : (a b : Shade) → same_shade a b ≡ true → a ≡ b
shades_same Plain Plain h = refl
shades_same Plain (Index n) h = cc
shades_same (Index m) Plain h = cc
shades_same (Index m) (Index n) h = let e : m ≡ n = grind (arith, nat_tests) in ap Index e

pub attrs_same : (a b : Attribute) → same_attr a b ≡ true → a ≡ b
unfolding same_attr
attrs_same a b h =
    let k = both ((a.word == b.word) && same_shade a.fore b.fore) (same_shade a.back b.back) h in
    let l = both (a.word == b.word) (same_shade a.fore b.fore) k.0 in
    let same = l.0 in
    let w : a.word ≡ b.word = grind (arith, nat_tests) in
    ap (λ n. record a { word = n }) w ∙ ap (λ x. record a { word = b.word; fore = x }) (shades_same a.fore b.fore l.1) ∙ ap (λ x. record b { back = x }) (shades_same a.back b.back k.1)

same_number : (n : ℕ) → (n == n) ≡ true
same_number n = grind (arith, nat_tests)

shade_itself : (a : Shade) → same_shade a a ≡ true
shade_itself Plain = refl
shade_itself (Index n) = same_number n

pub attr_itself : (a : Attribute) → same_attr a a ≡ true
unfolding same_attr
attr_itself a = rw (same_number a.word, shade_itself a.fore, shade_itself a.back) refl

pub never_same : (a b : Attribute) → same_attr a b ≡ false → a ≡ b → ⊥
never_same a b f e = let t : same_attr a b ≡ true = ap (same_attr a) (sym e) ∙ attr_itself a in let c : true ≡ false = sym t ∙ f in cc

pub one_same : (a b : Glyph) → same_cell a b ≡ true → a ≡ b
one_same a b h = let k = both (a.unit == b.unit) (same_attr a.attr b.attr) h in
    let u : a.unit ≡ b.unit = grind (arith, nat_tests) in
    ap (λ n. record a { unit = n }) u ∙ ap (λ x. record b { attr = x }) (attrs_same a.attr b.attr k.1)

pub are_same : (xs ys : List Glyph) → same_cells xs ys ≡ true → xs ≡ ys
are_same [] [] h = refl
are_same [] (y ∷ ys) h = cc
are_same (x ∷ xs) [] h = cc
are_same (x ∷ xs) (y ∷ ys) h = let k = both (same_cell x y) (same_cells xs ys) h in rw (one_same x y k.0, are_same xs ys k.1) refl

self_same : (xs : List Glyph) → same_cells xs xs ≡ true
self_same [] = refl
self_same (x ∷ xs) = rw (same_number x.unit, attr_itself x.attr) (self_same xs)

self_one : (x : Glyph) → same_cell x x ≡ true
self_one x = rw (same_number x.unit, attr_itself x.attr) refl

pub same_as : (x y : Glyph) (t : Bool) → (t ≡ true) ↔ (x ≡ y) → t ≡ same_cell x y
same_as x y t e = by_test t (same_cell x y) (λ h. ap (same_cell x) (sym (e.0 h)) ∙ self_one x) (λ h. e.1 (one_same x y h))
  where
    by_test : (p q : Bool) → (p ≡ true → q ≡ true) → (q ≡ true → p ≡ true) → p ≡ q
    by_test true q f g = sym (f refl)
    by_test false true f g = g refl
    by_test false false f g = refl

pub same_by : (xs ys : List Glyph) → xs ≡ ys → same_cells xs ys ≡ true
same_by xs ys e = rw e (self_same ys)

pub same-more : (xs ys : List Glyph) (x y : Glyph) → length xs ≡ length ys → same_cells (xs ++ x ∷ []) (ys ++ y ∷ []) ≡ (same_cells xs ys && same_cell x y)
same-more [] [] x y h = by_test (same_cell x y)
  where
    by_test : (b : Bool) → (b && true) ≡ b
    by_test true = refl
    by_test false = refl
same-more [] (b ∷ ys) x y h = absurd (omega arith)
same-more (a ∷ xs) [] x y h = absurd (omega arith)
same-more (a ∷ xs) (b ∷ ys) x y h = by_test (same_cell a b) _ (same_cells xs ys) (same_cell x y) (same-more xs ys x y (omega arith))
  where
    by_test : (t p q r : Bool) → p ≡ (q && r) → (t && p) ≡ (t && q && r)
    by_test true p q r e = e
    by_test false p q r e = refl

pub same_turn : (a b : List Glyph) (i : ℕ) (x y : Glyph) → i < length a → length a ≡ length b → x ≡ get_or a i x → y ≡ get_or b i y → same_cells (take (i + 1) a) (take (i + 1) b) ≡ (same_cells (take i a) (take i b) && same_cell x y)
same_turn a b i x y lt e ex ey =
    let inside : i < length b = omega arith in
    let ma : take (i + 1) a ≡ take i a ++ x ∷ [] = take_more a i x lt ∙ ap (λ z. take i a ++ z ∷ []) (sym ex) in
    let mb : take (i + 1) b ≡ take i b ++ y ∷ [] = take_more b i y inside ∙ ap (λ z. take i b ++ z ∷ []) (sym ey) in
    rw (ma, mb) (same-more (take i a) (take i b) x y (length-take-le i a (omega arith) ∙ sym (length-take-le i b (omega arith))))

pub same_more : (a b : List Glyph) (i : ℕ) (x y : Glyph) (t : Bool) → i < length a → length a ≡ length b → x ≡ get_or a i x → y ≡ get_or b i y → same_cells (take i a) (take i b) ≡ true → t ≡ same_cell x y → t ≡ true → same_cells (take (i + 1) a) (take (i + 1) b) ≡ true
same_more a b i x y t lt e ex ey h k one = same_turn a b i x y lt e ex ey ∙ rw h (sym k ∙ one)

pub any_default : (xs : List Glyph) (i : ℕ) (d e : Glyph) → i < length xs → get_or xs i d ≡ get_or xs i e
any_default [] i d e lt = absurd (omega arith)
any_default (x ∷ xs) zero d e lt = refl
any_default (x ∷ xs) (suc i) d e lt = any_default xs i d e (omega arith)

pub differ_at : (a b : List Glyph) (i : ℕ) (x y : Glyph) (t : Bool) → i < length a → x ≡ get_or a i x → y ≡ get_or b i y → t ≡ same_cell x y → t ≡ false → false ≡ same_cells a b
differ_at a b i x y t lt ex ey k f = by_test (same_cells a b) refl
  where
    by_test : (s : Bool) → same_cells a b ≡ s → false ≡ s
    by_test false e = refl
    by_test true e =
        let ab : a ≡ b = are_same a b e in
        let xy : x ≡ y = ex ∙ any_default a i x y lt ∙ ap (λ zs. get_or zs i y) ab ∙ sym ey in
        let one : same_cell x y ≡ true = ap (same_cell x) (sym xy) ∙ self_one x in
        sym f ∙ k ∙ one

pub same_at_end : (a b : List Glyph) (i : ℕ) → length a ≤ i → length a ≡ length b → same_cells (take i a) (take i b) ≡ true → true ≡ same_cells a b
same_at_end a b i le e h = sym (rw (take_all i a le, take_all i b (omega (arith, le, e))) at h)
