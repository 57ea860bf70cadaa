-- A history: a list of entries, oldest first, and what follows from it.
use Rattle.std.specs.Prelude.{◌≡◌, ℕ, List, [], ◌∷◌, ◌++◌, if◌then◌else◌, ◌==◌, Bool, true, false, ◌&&◌, ◌||◌, ◌⊎◌}
use Rattle.con_book.specs.declared.history.Logged.{Logged}

abbrev pub entry : {E : Type 0} → ℕ → E → Logged E
entry actor event = record { actor = actor; event = event }

abbrev pub StartsWith : {A : Type 0} → List A → List A → Type 0
StartsWith {A} xs ys = (rest : List A) × (xs ≡ ys ++ rest)

-- the state after a history
abbrev pub after : {S E : Type 0} → (S → ℕ → E → S) → S → List (Logged E) → S
after next s [] = s
after next s (x ∷ xs) = after next (next s x.actor x.event) xs

-- the events of one actor
abbrev pub own : {E : Type 0} → ℕ → List (Logged E) → List E
own actor [] = []
own actor (x ∷ xs) = if x.actor == actor then x.event ∷ own actor xs else own actor xs

-- each event is ready where it stands
abbrev pub is_legal : {S E : Type 0} → (S → ℕ → E → S) → (S → ℕ → E → Bool) → S → List (Logged E) → Bool
is_legal next is_ready s [] = true
is_legal next is_ready s (x ∷ xs) = is_ready s x.actor x.event && is_legal next is_ready (next s x.actor x.event) xs

abbrev pub In : {A : Type 0} → A → List A → Type 0
In x [] = ⊥
In x (y ∷ ys) = (x ≡ y) ⊎ In x ys

-- the same of numbers, as a test
abbrev pub is_among : ℕ → List ℕ → Bool
is_among n [] = false
is_among n (x ∷ xs) = (n == x) || is_among n xs
