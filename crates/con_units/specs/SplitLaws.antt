-- Laws of the split, whatever the sequences are: however a text is cut, its items are those of the whole.
use Rattle.std.proofs.Common.{◌≡◌, ℕ, List, [], ◌∷◌, ◌++◌, refl, sym, ap, ◌∙◌, append_assoc}
use Rattle.std.specs.Prelude.{fold}
use Rattle.std.proofs.lemmas.List.Sums.{fold-append}
use Rattle.con_units.specs.Split.{Grammar, Split, next, with_items, split_after}
use Rattle.con_units.specs.Words.Split.{read_on}

pub append_none : {A : Type 0} (xs : List A) → xs ++ [] ≡ xs
append_none [] = refl
append_none (x ∷ xs) = ap (λ zs. x ∷ zs) (append_none xs)

from_items : {A : Type 0} (g : Grammar A) (items more : List A) (tail us : List ℕ)
    → fold (read_on g) (record { items = items ++ more; tail = tail }) us ≡ with_items items (fold (read_on g) (record { items = more; tail = tail }) us)
from_items g items more tail [] = refl
from_items g items more tail (u ∷ us) =
    rw (append_assoc items more (next g tail u).items) (from_items g items (more ++ (next g tail u).items) (next g tail u).tail us)

from_split : {A : Type 0} (g : Grammar A) (s : Split A) (us : List ℕ) → fold (read_on g) s us ≡ with_items s.items (split_after g s.tail us)
unfolding split_after
from_split g s us = ap (λ items. fold (read_on g) (record { items = items; tail = s.tail }) us) (sym (append_none s.items)) ∙ from_items g s.items [] s.tail us

pub split_after-append : {A : Type 0} (g : Grammar A) (tail xs ys : List ℕ)
    → split_after g tail (xs ++ ys) ≡ with_items (split_after g tail xs).items (split_after g (split_after g tail xs).tail ys)
unfolding split_after
split_after-append g tail xs ys = fold-append (read_on g) (record { items = []; tail = tail }) xs ys
    ∙ from_split g (fold (read_on g) (record { items = []; tail = tail }) xs) ys

pub split_after-one : {A : Type 0} (g : Grammar A) (tail : List ℕ) (u : ℕ) → split_after g tail (u ∷ []) ≡ next g tail u
unfolding split_after
split_after-one g tail u = refl
