-- A seat that has the machine, and one that has given it back.
use Rattle.std.specs.Prelude.{◌≡◌, ◌≢◌, ℕ, List, [], ◌∷◌, Option, None, Result, IfOk, IfErr}
use Rattle.atomic_table.specs.Table.{Me}
use Rattle.con_book.specs.History.{StartsWith, own}
use Rattle.con_book.specs.Lock.{Moves, staged, knowing, Follows}
use Rattle.con_book.specs.Plays.{Finds}
use Rattle.con_book.specs.Turn.{SeesOthers, Enters}
use Rattle.con_book.specs.declared.kept.Kept.{Kept}
use Rattle.con_book.specs.declared.history.Logged.{Logged}
use Rattle.con_book.specs.declared.view.PassView.{PassView}
use Rattle.con_book.specs.declared.view.Stage.TheVariants.{Idle, Due}

-- the seat is due, has seen this log, and has taken the machine out of its slot
abbrev pub IsAt : {M S E : Type 0} → PassView S E → List (Logged E) → Me (Option (Kept M E)) (PassView S E) → Type 0
IsAt v log m = (t : ℕ) × (m ≡ (knowing v log v.mine (Due t), (0, None) ∷ []))

abbrev pub Entered : {M S E : Type 0} → (M → S) → Moves S E → PassView S E → Kept M E → Me (Option (Kept M E)) (PassView S E) → Type 0
Entered state moves v x m = IsAt v x.log.items m × Finds state moves v x

-- the seat is due and has taken the machine
abbrev pub IsDue : {M S E : Type 0} → Me (Option (Kept M E)) (PassView S E) → Type 0
IsDue m = (t : ℕ) × (m ≡ (staged m.0 (Due t), (0, None) ∷ []))

-- what may be put back: a machine whose log goes on from what the seat has seen, by events of its actor alone
abbrev pub MayPut : {M S E : Type 0} → (M → S) → Moves S E → PassView S E → Kept M E → Type 0
MayPut state moves v x = StartsWith x.log.items v.seen × ((a : ℕ) → a ≢ v.actor → own a x.log.items ≡ own a v.seen) × Follows state moves v.start x.log.items x

-- the seat has given the slot back, with this log
abbrev pub HasLeft : {M S E : Type 0} → PassView S E → List (Logged E) → Me (Option (Kept M E)) (PassView S E) → Type 0
HasLeft v log m = m ≡ (knowing v log (own v.actor log) Idle, [])

abbrev pub HasLeftWith : {M S E : Type 0} → PassView S E → Me (Option (Kept M E)) (PassView S E) → Type 0
HasLeftWith {M} {S} {E} v m = (log : List (Logged E)) × HasLeft v log m

-- some view has entered
abbrev pub HasEntered : {M S E : Type 0} → (M → S) → Moves S E → Kept M E → Me (Option (Kept M E)) (PassView S E) → Type 0
HasEntered {M} {S} {E} state moves x m = (v : PassView S E) × Entered state moves v x m

-- whichever view has entered, it has then taken its turn, or seen others'
abbrev pub Acts : {M S E R A X : Type 0} → (M → S) → Moves S E → (R → A) → (S → ℕ → E → A) → (R → S → ℕ → E → Type 0)
    → Kept M E → E → Result R X → Me (Option (Kept M E)) (PassView S E) → Me (Option (Kept M E)) (PassView S E) → Type 0
Acts {M} {S} {E} state moves answer answer_to tells x event result m n =
    (v : PassView S E) → Entered state moves v x m
    → IfOk result (λ reply. Enters moves.next moves.is_ready answer answer_to tells v event reply n.0) × IfErr result (λ _. SeesOthers v n.0)
