-- Items that become one item.
use Rattle.std.proofs.Common.{◌≡◌, ℕ, suc, ◌+◌, ◌-◌, ◌<◌, ◌≤◌, List, [], ◌∷◌, ◌++◌, length, get_or, set, take, drop, replicate, ◌∙◌, append_assoc, arith, add-one, map}
use Rattle.std.proofs.lemmas.Grind.{common_steps, replicate_next}
use Rattle.std.proofs.lemmas.List.{length-replicate, length-take-le, length-map, map-append, take_more}
use Rattle.std.proofs.Math.Seq.{set-append_seam, drop-cons}

set_at : {X : Type 0} (xs : List X) (y : X) (ys : List X) (c : X) (n : ℕ) → length xs ≡ n → set (xs ++ y ∷ ys) n c ≡ xs ++ c ∷ ys
set_at xs y ys c n h = rw (← h) (set-append_seam xs y ys c)

regroup : {X : Type 0} (xs ys zs : List X) (c : X) → (xs ++ ys) ++ c ∷ zs ≡ xs ++ ((ys ++ c ∷ []) ++ zs)
regroup xs ys zs c = simp append_assoc

pub fill-none : {X : Type 0} (xs : List X) (from : ℕ) (c : X) → xs ≡ take from xs ++ (replicate (from - from) c ++ drop from xs)
fill-none xs from c = grind (arith, common_steps)

pub fill-more : {X : Type 0} (xs : List X) (from at : ℕ) (c : X) → from ≤ at → at < length xs → set (take from xs ++ (replicate (at - from) c ++ drop at xs)) at c ≡ take from xs ++ (replicate (at + 1 - from) c ++ drop (at + 1) xs)
fill-more xs from at c order inside =
    let front : length (take from xs ++ replicate (at - from) c) ≡ at = grind (arith, common_steps, length-replicate, length-take-le) in
    let more : at + 1 - from ≡ (at - from) + 1 = omega arith in
    rw (← append_assoc (take from xs) (replicate (at - from) c) (drop at xs), drop-cons xs at c inside, more, replicate_next (at - from) c, add-one)
    (set_at (take from xs ++ replicate (at - from) c) (get_or xs at c) (drop (suc at) xs) c at front ∙ regroup (take from xs) (replicate (at - from) c) (drop (suc at) xs) c)

-- one more of a list's items is mapped over a row of the same length
pub show-more : {X : Type 0} (f : ℕ → X) (us : List ℕ) (row : List X) (k : ℕ) → k < length us → k < length row → set (map f (take k us) ++ drop k row) k (f (get_or us k 0)) ≡ map f (take (k + 1) us) ++ drop (k + 1) row
show-more f us row k inside here =
    let front : length (map f (take k us)) ≡ k = length-map (take k us) f ∙ length-take-le k us (omega arith) in
    let one = map-append f (take k us) (get_or us k 0 ∷ []) in
    let d = f 0 in
    rw (take_more us k 0 inside, one, drop-cons row k d here, add-one)
    (set_at (map f (take k us)) (get_or row k d) (drop (suc k) row) (f (get_or us k 0)) k front ∙ group (map f (take k us)) (drop (suc k) row) (f (get_or us k 0)))
  where
    group : {X : Type 0} (xs ys : List X) (c : X) → xs ++ c ∷ ys ≡ (xs ++ c ∷ []) ++ ys
    group xs ys c = simp append_assoc
