-- That no process has two reads.
use Rattle.std.specs.Prelude.{ℕ, ◌+◌, ◌≤◌, ◌==◌, List, [], ◌∷◌, map, if◌then◌else◌}
use Rattle.con_readers.specs.declared.open.Open.{Open}

-- whose reads they are, in order
abbrev pub processes_in : List Open → List ℕ
processes_in = map (λ o. o.process)

-- how often a number stands in a list
abbrev pub times_in : ℕ → List ℕ → ℕ
times_in p [] = 0
times_in p (q ∷ qs) = (if q == p then 1 else 0) + times_in p qs

abbrev pub AreDistinct : List Open → Type 0
AreDistinct os = (p : ℕ) → times_in p (processes_in os) ≤ 1
