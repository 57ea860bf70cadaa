-- What each step on a book's table tells: of the step, the seat before, the number found and the seat after.
use Rattle.std.specs.Prelude.{◌≡◌, ◌≢◌, ℕ, ◌%◌, ◌^◌, List, ◌∷◌, Option, Some}
use Rattle.atomic_table.specs.Table.{Me, Step, rest}
use Rattle.con_book.specs.History.{StartsWith, own, In}
use Rattle.con_book.specs.Lock.{Moves, staged, knowing, number, Follows}
use Rattle.con_book.specs.declared.kept.Kept.{Kept}
use Rattle.con_book.specs.declared.history.Logged.{Logged}
use Rattle.con_book.specs.declared.view.Joined.{Joined}
use Rattle.con_book.specs.declared.view.PassView.{PassView}
use Rattle.con_book.specs.declared.view.Stage.TheVariants.{Idle, Waiting, Due}

abbrev pub Sat : Type 0 → Type 0 → Type 0 → Type 0
Sat M S E = Me (Option (Kept M E)) (PassView S E)

module _ {M S E : Type 0} where
  -- the seat has a ticket, whose number was found
  abbrev pub Draws : Step (Option (Kept M E)) → Sat M S E → ℕ → Sat M S E → Type 0
  Draws st m r n = (t : ℕ) × (n ≡ (staged m.0 (Waiting t), m.1)) × (t % 2 ^ 64 ≡ r)

  -- a view that has found this machine at home: it begins the log, and the events of its actor are its own, in what it has seen and in the log
  abbrev pub Finds : (M → S) → Moves S E → PassView S E → Kept M E → Type 0
  Finds state moves v x = Follows state moves v.start x.log.items x × StartsWith x.log.items v.seen × (own v.actor x.log.items ≡ v.mine)
      × (own v.actor v.seen ≡ v.mine)

  -- the seat has the slot and is due
  abbrev pub Comes : (M → S) → Moves S E → Sat M S E → Sat M S E → Type 0
  Comes state moves m n = (x : Kept M E) × (n ≡ (knowing m.0 x.log.items m.0.mine (Due (number m.0.stage)), (0, Some x) ∷ m.1)) × Finds state moves m.0 x

  abbrev pub Looks : (M → S) → Moves S E → Step (Option (Kept M E)) → Sat M S E → ℕ → Sat M S E → Type 0
  Looks state moves st m r n = (r ≡ number m.0.stage % 2 ^ 64 → Comes state moves m n) × (r ≢ number m.0.stage % 2 ^ 64 → n ≡ m)

  -- the seat has given the slot back, and knows the log that it left there
  abbrev pub Serves : Step (Option (Kept M E)) → Sat M S E → ℕ → Sat M S E → Type 0
  Serves st m r n = (n.1 ≡ rest m.1) × ((x : Kept M E) → m.1 ≡ (0, Some x) ∷ rest m.1 → n.0 ≡ knowing m.0 x.log.items (own m.0.actor x.log.items) Idle)

  -- nothing has changed, and all that the view has seen begins one log
  abbrev pub Minds : Step (Option (Kept M E)) → Sat M S E → ℕ → Sat M S E → Type 0
  Minds st m r n = (n ≡ m) × ((log : List (Logged E)) × StartsWith log m.0.seen × StartsWith log m.0.had × ((k : Joined E) → In k m.0.kept → StartsWith log k.seen))
      × (own m.0.actor m.0.seen ≡ m.0.mine)
