-- A list that is told item by item.
use Rattle.std.proofs.Common.{◌≡◌, ℕ, ◌+◌, ◌<◌, List, [], ◌∷◌, ◌++◌, length, take, get_or, map, append_assoc, refl, ap, sym, ◌∙◌}
use Rattle.std.proofs.lemmas.List.{take_more, map_more}
use Rattle.con_alias.specs.Aliases.{Entry}
use Rattle.con_alias.specs.Words.Aliases.{entry_of}
use Rattle.con_machine.specs.LineCalls.{pair_of}

-- one item more
pub told_more : {X : Type 0} (xs ys zs : List X) (k : ℕ) (x : X) → k < length xs → x ≡ get_or xs k x → ys ≡ take k xs → zs ≡ ys ++ x ∷ [] → zs ≡ take (k + 1) xs
told_more xs ys zs k x inside is before pushed =
    pushed ∙ ap (λ l. l ++ x ∷ []) before ∙ ap (λ y. take k xs ++ y ∷ []) is ∙ sym (take_more xs k x inside)

-- one item more of a list that is copied
pub copied_more : {X : Type 0} (xs ys zs : List X) (k : ℕ) (d y : X) → ys ≡ take k xs → zs ≡ ys ++ y ∷ [] → y ≡ get_or xs k d → k < length xs
    → zs ≡ take (k + 1) xs
copied_more xs ys zs k d y before pushed is inside =
    pushed ∙ ap (λ l. l ++ y ∷ []) before ∙ ap (λ x. take k xs ++ x ∷ []) is ∙ sym (take_more xs k d inside)

-- one item more of a list that is copied behind a front and a mark
pub behind_more : {X : Type 0} (front : List X) (mark : X) (xs ys zs : List X) (k : ℕ) (d y : X) → ys ≡ front ++ mark ∷ take k xs → zs ≡ ys ++ y ∷ []
    → y ≡ get_or xs k d → k < length xs → zs ≡ front ++ mark ∷ take (k + 1) xs
behind_more front mark xs ys zs k d y before pushed is inside =
    pushed ∙ ap (λ l. l ++ y ∷ []) before ∙ append_assoc front (mark ∷ take k xs) (y ∷ [])
    ∙ ap (λ l. front ++ mark ∷ l) (copied_more xs (take k xs) (take k xs ++ y ∷ []) k d y refl refl is inside)

-- one item more of a list that each item gives one of
pub mapped_more : {X Y : Type 0} (f : X → Y) (xs : List X) (ys zs : List Y) (k : ℕ) (d : X) (y : Y) → ys ≡ map f (take k xs) → zs ≡ ys ++ y ∷ []
    → y ≡ f (get_or xs k d) → k < length xs → zs ≡ map f (take (k + 1) xs)
mapped_more f xs ys zs k d y before pushed is inside =
    pushed ∙ ap (λ l. l ++ y ∷ []) before ∙ ap (λ x. map f (take k xs) ++ x ∷ []) is ∙ sym (map_more f xs k d inside)

entry_is : (e : Entry) (source target : List ℕ) → source ≡ e.source → target ≡ e.target → entry_of source target ≡ e
entry_is e source target s t = ap (λ x. entry_of x target) s ∙ ap (λ x. entry_of e.source x) t

-- one alias more
pub pairs_more : (es : List Entry) (ys zs : List (List ℕ)) (k : ℕ) (source target : List ℕ) → k < length es
    → source ≡ (get_or es k (entry_of source target)).source → target ≡ (get_or es k (entry_of source target)).target
    → ys ≡ map pair_of (take k es) → zs ≡ ys ++ pair_of (entry_of source target) ∷ [] → zs ≡ map pair_of (take (k + 1) es)
pairs_more es ys zs k source target inside s t before pushed =
    let one : Entry = get_or es k (entry_of source target) in
    pushed ∙ ap (λ l. l ++ pair_of (entry_of source target) ∷ []) before
    ∙ ap (λ e. map pair_of (take k es) ++ pair_of e ∷ []) (entry_is one source target s t)
    ∙ sym (map_more pair_of es k (entry_of source target) inside)
