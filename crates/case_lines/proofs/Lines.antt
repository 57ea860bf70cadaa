-- Lines from a place on.
use Rattle.std.proofs.Common.{◌≡◌, ℕ, ◌+◌, ◌<◌, true, ◌&&◌, List, [], ◌∷◌, length, map, drop, get_or, ap, sym, ◌∙◌, arith}
use Rattle.std.specs.Prelude.{if◌then◌else◌}
use Rattle.std.proofs.lemmas.List.{drop-map, drop-drop, drop_all, drop_more}
use Rattle.case_lines.specs.Wanted.{first_is, begins_with, same_len}
use Rattle.case_lines.specs.declared.wanted.Way.{Way}

-- one place on
pub one_on : {X Y : Type 0} (g : X → Y) (i : ℕ) (xs : List X) → drop 1 (map g (drop i xs)) ≡ map g (drop (i + 1) xs)
one_on g i xs = drop-map g 1 (drop i xs) ∙ ap (map g) (drop-drop 1 i xs)

-- none behind the last
pub none_from : {X Y : Type 0} (g : X → Y) (i : ℕ) (xs : List X) → length xs < i → map g (drop i xs) ≡ []
none_from g i xs far = ap (map g) (drop_all i xs (omega arith))

-- an element, and those behind it
pub from_place : {X : Type 0} (i : ℕ) (xs : List X) (x : X) → i < length xs → x ≡ get_or xs i x → drop i xs ≡ x ∷ drop (i + 1) xs
from_place i xs x within is = drop_more xs i x within ∙ ap (λ y. y ∷ drop (i + 1) xs) (sym is)

-- where the line at a place is the wanted one, those behind it tell what those from it on do
pub begins_on : {X Y : Type 0} (f : X → List ℕ) (g : Y → List ℕ) (w : Way) (i : ℕ) (ws : List X) (ls : List Y) (x : X)
    → drop i ws ≡ x ∷ drop (i + 1) ws
    → first_is w (f x) (map g (drop i ls)) ≡ true
    → begins_with w (map f (drop i ws)) (map g (drop i ls)) ≡ begins_with w (map f (drop (i + 1) ws)) (map g (drop (i + 1) ls))
begins_on f g w i ws ls x e t =
    ap (λ xs. begins_with w (map f xs) (map g (drop i ls))) e
    ∙ ap (λ b. b && begins_with w (map f (drop (i + 1) ws)) (drop 1 (map g (drop i ls)))) t
    ∙ ap (λ ys. begins_with w (map f (drop (i + 1) ws)) ys) (one_on g i ls)

-- and how many there are is one less
pub same_on : {X Y : Type 0} (f : X → List ℕ) (g : Y → List ℕ) (w : Way) (i : ℕ) (ws : List X) (ls : List Y) (x : X)
    → drop i ws ≡ x ∷ drop (i + 1) ws
    → first_is w (f x) (map g (drop i ls)) ≡ true
    → same_len w (map f (drop i ws)) (map g (drop i ls)) ≡ 1 + same_len w (map f (drop (i + 1) ws)) (map g (drop (i + 1) ls))
same_on f g w i ws ls x e t =
    ap (λ xs. same_len w (map f xs) (map g (drop i ls))) e
    ∙ ap (λ b. if b then 1 + same_len w (map f (drop (i + 1) ws)) (drop 1 (map g (drop i ls))) else 0) t
    ∙ ap (λ ys. 1 + same_len w (map f (drop (i + 1) ws)) ys) (one_on g i ls)
