-- Texts of units, compared.
use Rattle.std.specs.Prelude.{ℕ, zero, suc, Bool, not, ◌==◌, List, [], ◌∷◌, if◌then◌else◌}

abbrev pub is_space : ℕ → Bool
is_space u = u == 32

-- a unit that is no space
abbrev pub is_other : ℕ → Bool
is_other u = not (u == 32)

-- the first item that meets the test, changed
abbrev pub changed_where : {A : Type 0} → (A → Bool) → (A → A) → List A → List A
changed_where test f [] = []
changed_where test f (x ∷ xs) = if test x then f x ∷ xs else x ∷ changed_where test f xs

-- the item at a place, changed
abbrev pub changed_at : {A : Type 0} → (A → A) → List A → ℕ → List A
changed_at f [] k = []
changed_at f (x ∷ xs) zero = f x ∷ xs
changed_at f (x ∷ xs) (suc k) = x ∷ changed_at f xs k
