-- Units and their words as cells.
use Rattle.std.proofs.Common.{◌≡◌, ℕ, suc, zero, ◌+◌, ◌<◌, true, List, [], ◌∷◌, ◌++◌, length, map, take, get_or, refl, sym, ap, ◌∙◌, arith}
use Rattle.std.specs.Prelude.{replicate, ◌==◌, Vec, Result, Ok, Err, IfOk}
use Rattle.std.specs.declared.alloc.Global.{Global}
use Rattle.std.proofs.lemmas.Bool.{and_parts}
use Rattle.std.proofs.lemmas.Bool.Decides.{nat_tests}
use Rattle.con_units.specs.Attr.{Attribute, plain}
use Rattle.con_units.specs.Glyph.{Glyph, cell_of}
use Rattle.con_units.specs.declared.place.Rect.{Rect}
use Rattle.con_events.specs.declared.call.Words.{Words}
use Rattle.con_events.specs.declared.call.Words.TheVariants as words
use Rattle.con_rects.specs.Area.{cell_count}
use Rattle.con_machine.specs.CellCalls.{cells_for, are_words, are_cells}
use Rattle.con_machine.specs.Words.CellCalls.{paired}

pub one_word : (us : List ℕ) (w : ℕ) → map (λ u. cell_of u (plain w)) us ≡ paired us (replicate (length us) w)
one_word [] w = refl
one_word (u ∷ us) w = ap (λ (cs : List Glyph). cell_of u (plain w) ∷ cs) (one_word us w)

pair_next : (us ws : List ℕ) (i d e : ℕ) → length ws ≡ length us → i < length us → paired (take i us) (take i ws) ++ cell_of (get_or us i d) (plain (get_or ws i e)) ∷ [] ≡ paired (take (suc i) us) (take (suc i) ws)
pair_next [] ws i d e same within = absurd (omega arith)
pair_next (u ∷ us) [] i d e same within = absurd (omega arith)
pair_next (u ∷ us) (w ∷ ws) zero d e same within = refl
pair_next (u ∷ us) (w ∷ ws) (suc i) d e same within = ap (λ (cs : List Glyph). cell_of u (plain w) ∷ cs) (pair_next us ws i d e (omega arith) (omega arith))

pub pair_more : (us ws : List ℕ) (i d e : ℕ) → length ws ≡ length us → i < length us → paired (take i us) (take i ws) ++ cell_of (get_or us i d) (plain (get_or ws i e)) ∷ [] ≡ paired (take (i + 1) us) (take (i + 1) ws)
pair_more us ws i d e same within = let next : suc i ≡ i + 1 = omega arith in pair_next us ws i d e same within ∙ ap (λ k. paired (take k us) (take k ws)) next

pub paired_length : (us ws : List ℕ) → length ws ≡ length us → length (paired us ws) ≡ length us
paired_length [] ws same = refl
paired_length (u ∷ us) [] same = absurd (omega arith)
paired_length (u ∷ us) (w ∷ ws) same = ap suc (paired_length us ws (omega arith))

cells_length : (us : List ℕ) (ws : Words) → are_words ws (length us) ≡ true → length (cells_for us ws) ≡ length us
cells_length us (words.One w) e = ap length (sym (one_word us w)) ∙ map_length us
  where
    map_length : (us : List ℕ) → length (map (λ u. cell_of u (plain w)) us) ≡ length us
    map_length [] = refl
    map_length (u ∷ us) = ap suc (map_length us)
cells_length us (words.Each ws) e = paired_length us ws (let same : length ws ≡ length us = grind (arith, nat_tests) in same)

-- there are as many as the rectangle has
pub cells_full : (r : Rect) (us : List ℕ) (ws : Words) (cells : List Glyph) → are_cells r us ws ≡ true → cells ≡ cells_for us ws → length cells ≡ cell_count r
cells_full r us ws cells are is =
    let parts = and_parts (length us == cell_count r) (are_words ws (length us)) are in
    let count : (length us == cell_count r) ≡ true = parts.0 in
    let many : length us ≡ cell_count r = grind (arith, nat_tests) in
    ap length is ∙ cells_length us ws parts.1 ∙ many

-- one cell more
pub pair_pushed : (us ws : List ℕ) (i d e : ℕ) (cells : List Glyph) (a : Attribute) (g : Glyph) → length ws ≡ length us → i < length us → cells ≡ paired (take i us) (take i ws) → a ≡ plain (get_or ws i e) → g ≡ cell_of (get_or us i d) a
    → cells ++ g ∷ [] ≡ paired (take (i + 1) us) (take (i + 1) ws)
pair_pushed us ws i d e cells a g same within before word is =
    let one : g ≡ cell_of (get_or us i d) (plain (get_or ws i e)) = is ∙ ap (cell_of (get_or us i d)) word in
    ap (λ (cs : List Glyph). cs ++ g ∷ []) before ∙ ap (λ (c : Glyph). paired (take i us) (take i ws) ++ c ∷ []) one ∙ pair_more us ws i d e same within

-- units in one word
pub one_ok : {E : Type 0} (r : Result (Vec Glyph Global) E) (us vs : List ℕ) (w : ℕ) (ws : Words) → ws ≡ words.One w → vs ≡ us → IfOk r (λ c. c.items ≡ map (λ u. cell_of u (plain w)) vs) → IfOk r (λ c. c.items ≡ cells_for us ws)
one_ok (Ok c) us vs w ws is same made = made ∙ ap (map (λ u. cell_of u (plain w))) same ∙ one_word us w ∙ ap (cells_for us) (sym is)
one_ok (Err e) us vs w ws is same made = tt
