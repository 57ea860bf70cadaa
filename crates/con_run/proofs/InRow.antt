-- A row in two parts, and one of a single value.
use Rattle.std.proofs.Common.{◌≡◌, ℕ, ◌+◌, ◌-◌, ◌<◌, List, ◌++◌, length, get_or, set, refl, sym, ap, ◌∙◌, subst, arith, ⊎_elim, length-append, length-set, get_or-set_same, get_or-append-add}
use Rattle.std.proofs.lemmas.Bool.{cases_lt}
use Rattle.std.proofs.lemmas.List.{get_or_append_left, get_or_default}
use Rattle.con_run.specs.Abreast.{AllAre, AllBecame}

module _ {X : Type 0} where
  -- at a place of the first part
  at_front : (all xs ys : List X) (k : ℕ) (d : X) → all ≡ xs ++ ys → k < length xs → get_or all k d ≡ get_or xs k d
  at_front all xs ys k d e lt = ap (λ z. get_or z k d) e ∙ get_or_append_left xs ys d k lt

  at_back : (all xs ys : List X) (low k : ℕ) (d : X) → all ≡ xs ++ ys → length xs ≡ low → get_or all (low + k) d ≡ get_or ys k d
  at_back all xs ys low k d e len = ap (λ z. get_or z (low + k) d) e ∙ (ap (λ n. get_or (xs ++ ys) (n + k) d) (sym len) ∙ get_or-append-add xs ys k d)

  -- so are those of the second part
  pub back_are : (P : ℕ → X → Type 0) (base low : ℕ) (all xs ys : List X) → all ≡ xs ++ ys → length xs ≡ low → AllAre P base all → AllAre P (base + low) ys
  back_are P base low all xs ys e len h =
      let n : length all ≡ length xs + length ys = ap length e ∙ length-append xs ys in
      let r = h.room in
      record {
        room = omega arith;
        each = λ k d lt.
            let i : base + (low + k) ≡ base + low + k = omega arith in
            let in_all : low + k < length all = omega arith in
            subst (λ (z : ℕ × X). P z.0 z.1) (λ j. (i j, at_back all xs ys low k d e len j)) (h.each (low + k) d in_all);
      }

  -- both parts became others
  pub both_became : (R : ℕ → X → X → Type 0) (base low : ℕ) (all xs ys us vs : List X) → all ≡ xs ++ ys → length xs ≡ low → AllBecame R base xs us
      → AllBecame R (base + low) ys vs → AllBecame R base all (us ++ vs)
  both_became R base low all xs ys us vs e len a b =
      let n : length all ≡ length xs + length ys = ap length e ∙ length-append xs ys in
      let m : length (us ++ vs) ≡ length us + length vs = length-append us vs in
      let p = a.len in let q = b.len in
      let lows : length us ≡ low = p ∙ len in
      record {
        len = omega arith;
        each = λ k d lt. ⊎_elim
            (λ front. subst (λ (z : X × X). R (base + k) z.0 z.1) (λ j. (sym (at_front all xs ys k d e front) j, sym (at_front (us ++ vs) us vs k d refl (omega arith)) j)) (a.each k d front))
            (λ back.
            let f : ℕ = k - length xs in
            let is : k ≡ low + f = omega arith in
            let place : base + low + f ≡ base + k = omega arith in
            let inside : f < length ys = omega arith in
            subst (λ (z : ℕ × (X × X)). R z.0 z.1.0 z.1.1)
            (λ j. (place j, ((sym (at_back all xs ys low f d e len) ∙ ap (λ i. get_or all i d) (sym is)) j, (sym (at_back (us ++ vs) us vs low f d refl lows) ∙ ap (λ i. get_or (us ++ vs) i d) (sym is)) j)))
            (b.each f d inside))
            (cases_lt k (length xs));
      }

  -- the only one became another
  pub one_became : (R : ℕ → X → X → Type 0) (base : ℕ) (xs : List X) (y e : X) → length xs ≡ 1 → R base (get_or xs 0 e) y → AllBecame R base xs (set xs 0 y)
  one_became R base xs y e len r = record {
    len = length-set xs 0 y;
    each = λ k d lt.
        let first : 0 ≡ k = omega arith in
        let place : base ≡ base + k = omega arith in
        subst (λ (z : ℕ × (X × X)). R z.0 z.1.0 z.1.1)
        (λ j. (place j, ((get_or_default xs 0 e d (omega arith) ∙ ap (λ i. get_or xs i d) first) j, (sym (get_or-set_same xs 0 y d (omega arith)) ∙ ap (λ i. get_or (set xs 0 y) i d) first) j)))
        r;
  }

  -- each of a row that begins at 0
  pub became_at : (R : ℕ → X → X → Type 0) (xs ys : List X) (i : ℕ) (d : X) → i < length xs → AllBecame R 0 xs ys → R i (get_or xs i d) (get_or ys i d)
  became_at R xs ys i d lt h = let at : 0 + i ≡ i = omega arith in subst (λ (k : ℕ). R k (get_or xs i d) (get_or ys i d)) at (h.each i d lt)
