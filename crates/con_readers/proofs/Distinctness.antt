-- Whose reads there are, after each change.
use Rattle.std.proofs.Common.{◌≡◌, ◌==◌, ◌+◌, ◌≤◌, ◌||◌, ℕ, Bool, true, false, cond, List, [], ◌∷◌, ◌++◌, zero, suc, refl, ap, ◌∙◌, sym, arith}
use Rattle.std.specs.List.{remove, position_or_len}
use Rattle.std.proofs.lemmas.Bool.{eqb-true}
use Rattle.con_units.specs.Units.{changed_at}
use Rattle.con_units.specs.declared.code.Code.TheVariants as code
use Rattle.con_records.specs.declared.record.Record.{Record}
use Rattle.con_history.specs.declared.histories.Histories.{Histories}
use Rattle.con_alias.specs.Aliases.{AliasList}
use Rattle.con_readers.specs.Serving.{is_done, served}
use Rattle.con_readers.specs.Reads.{settled, all_closed, failed, line_aborted, is_open_line, is_open, place_of, without, begun}
use Rattle.con_readers.specs.Words.Reads.{pumped, moved, closed_one}
use Rattle.con_readers.specs.Distinct.{processes_in, times_in, AreDistinct}
use Rattle.con_readers.specs.declared.open.Open.{Open}
use Rattle.con_readers.specs.declared.open.OpenRead.{OpenRead}

moved_by : (al : List AliasList) (o : Open) (b : Bool) (rs : List Record) (hs : Histories) → o.started ≡ b → (moved al o rs hs).one.process ≡ o.process
moved_by al o false rs hs e = rw e refl
moved_by al o true [] hs e = rw e refl
moved_by al o true (r ∷ rs) hs e = rw e refl

pumped_by : (al : List AliasList) (o : Open) (os : List Open) (rs : List Record) (hs : Histories) (b : Bool) → is_done o.read ≡ b → processes_in (pumped al os rs hs).reads ≡ processes_in os
    → processes_in (pumped al (o ∷ os) rs hs).reads ≡ processes_in (o ∷ os)
pumped_by al o os rs hs true e ih = rw e (ap (λ (ps : List ℕ). o.process ∷ ps) ih)
pumped_by al o os rs hs false e ih = rw e (ap (λ p. p ∷ processes_in os) (moved_by al o o.started rs hs refl))

pub pumped-processes : (al : List AliasList) (os : List Open) (rs : List Record) (hs : Histories) → processes_in (pumped al os rs hs).reads ≡ processes_in os
pumped-processes al [] rs hs = refl
pumped-processes al (o ∷ os) rs hs = pumped_by al o os rs hs (is_done o.read) refl (pumped-processes al os rs hs)

Settles : List AliasList → List Open → List Record → Histories → Type 0
Settles al os rs hs = processes_in (settled al os rs hs).reads ≡ processes_in os

settled_by : (al : List AliasList) (o : Open) (os : List Open) (rs : List Record) (hs : Histories) (a b : Bool) → is_done o.read ≡ a → is_done (served o.process al o.read rs hs).read ≡ b → Settles al os rs hs
    → Settles al os (served o.process al o.read rs hs).records (served o.process al o.read rs hs).histories → Settles al (o ∷ os) rs hs
unfolding Settles settled
settled_by al o os rs hs true b e d now later = rw e (ap (λ (ps : List ℕ). o.process ∷ ps) now)
settled_by al o os rs hs false true e d now later = rw (e, d) (ap (λ (ps : List ℕ). o.process ∷ ps) later)
settled_by al o os rs hs false false e d now later = rw (e, d) refl

settles : (al : List AliasList) (os : List Open) (rs : List Record) (hs : Histories) → Settles al os rs hs
unfolding Settles settled
settles al [] rs hs = refl
settles al (o ∷ os) rs hs =
    settled_by al o os rs hs (is_done o.read) (is_done (served o.process al o.read rs hs).read) refl refl (settles al os rs hs)
    (settles al os (served o.process al o.read rs hs).records (served o.process al o.read rs hs).histories)

pub settled-processes : (al : List AliasList) (os : List Open) (rs : List Record) (hs : Histories) → processes_in (settled al os rs hs).reads ≡ processes_in os
unfolding Settles
settled-processes al os rs hs = settles al os rs hs

closed_by : (o : Open) (b : Bool) → is_done o.read ≡ b → (closed_one o).process ≡ o.process
closed_by o true e = rw e refl
closed_by o false e = rw e refl

pub closed-processes : (os : List Open) → processes_in (all_closed os) ≡ processes_in os
closed-processes [] = refl
closed-processes (o ∷ os) = ap (λ p. p ∷ processes_in (all_closed os)) (closed_by o (is_done o.read) refl) ∙ ap (λ (ps : List ℕ). o.process ∷ ps) (closed-processes os)

changed-processes : (os : List Open) (k : ℕ) → processes_in (changed_at (failed code.Aborted) os k) ≡ processes_in os
changed-processes [] k = refl
changed-processes (o ∷ os) zero = refl
changed-processes (o ∷ os) (suc k) = ap (λ (ps : List ℕ). o.process ∷ ps) (changed-processes os k)

pub aborted-processes : (os : List Open) → processes_in (line_aborted os) ≡ processes_in os
aborted-processes os = changed-processes os (position_or_len is_open_line os)

-- so are they distinct where they were
same_distinct : (os ns : List Open) → processes_in ns ≡ processes_in os → AreDistinct os → AreDistinct ns
same_distinct os ns same all = λ p. let e : times_in p (processes_in ns) ≡ times_in p (processes_in os) = ap (times_in p) same in omega (arith, e, all p)

pub pumped-distinct : (al : List AliasList) (os : List Open) (rs : List Record) (hs : Histories) → AreDistinct os → AreDistinct (pumped al os rs hs).reads
pumped-distinct al os rs hs all = same_distinct os (pumped al os rs hs).reads (pumped-processes al os rs hs) all

pub settled-distinct : (al : List AliasList) (os : List Open) (rs : List Record) (hs : Histories) → AreDistinct os → AreDistinct (settled al os rs hs).reads
settled-distinct al os rs hs all = same_distinct os (settled al os rs hs).reads (settled-processes al os rs hs) all

pub closed-distinct : (os : List Open) → AreDistinct os → AreDistinct (all_closed os)
closed-distinct os all = same_distinct os (all_closed os) (closed-processes os) all

pub aborted-distinct : (os : List Open) → AreDistinct os → AreDistinct (line_aborted os)
aborted-distinct os all = same_distinct os (line_aborted os) (aborted-processes os) all

abbrev one_if : Bool → ℕ
one_if b = cond b 1 0

last_times : (p q : ℕ) (read : OpenRead) (os : List Open) → times_in p (processes_in (os ++ begun q read ∷ [])) ≡ times_in p (processes_in os) + one_if (q == p)
last_times p q read [] = omega arith
last_times p q read (o ∷ os) = omega (arith, last_times p q read os)

none_step : (b : Bool) (n : ℕ) (rest : Bool) → (b || rest) ≡ false → (rest ≡ false → n ≡ 0) → one_if b + n ≡ 0
none_step true n rest h ih = cc
none_step false n rest h ih = let e : n ≡ 0 = ih h in omega (arith, e)

none_times : (p : ℕ) (os : List Open) → is_open os p ≡ false → times_in p (processes_in os) ≡ 0
none_times p [] h = refl
none_times p (o ∷ os) h = none_step (o.process == p) (times_in p (processes_in os)) (is_open os p) h (λ e. none_times p os e)

same_process : (p q : ℕ) → (p == q) ≡ true → p ≡ q
same_process p q h = eqb-true p q h

begun_step : (os : List Open) (p q : ℕ) (b : Bool) → (p == q) ≡ b → is_open os p ≡ false → AreDistinct os → times_in q (processes_in os) + one_if b ≤ 1
begun_step os p q false e none all = omega (arith, all q)
begun_step os p q true e none all =
    let same : p ≡ q = same_process p q e in
    let zero_times : times_in q (processes_in os) ≡ 0 = ap (λ x. times_in x (processes_in os)) (sym same) ∙ none_times p os none in
    omega (arith, zero_times)

pub begun-distinct : (os : List Open) (p : ℕ) (read : OpenRead) → is_open os p ≡ false → AreDistinct os → AreDistinct (os ++ begun p read ∷ [])
begun-distinct os p read none all = λ q. omega (arith, last_times q p read os, begun_step os p q (p == q) refl none all)

removed_times : (q : ℕ) (os : List Open) (k : ℕ) → times_in q (processes_in (remove os k)) ≤ times_in q (processes_in os)
removed_times q [] zero = omega arith
removed_times q [] (suc k) = omega arith
removed_times q (o ∷ os) zero = omega arith
removed_times q (o ∷ os) (suc k) = let e : times_in q (processes_in (remove os k)) ≤ times_in q (processes_in os) = removed_times q os k in omega (arith, e)

pub gone-distinct : (os : List Open) (p : ℕ) → AreDistinct os → AreDistinct (without os p)
gone-distinct os p all = λ q. omega (arith, removed_times q os (place_of os p), all q)
