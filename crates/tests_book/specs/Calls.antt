-- What the callers promise.
use Rattle.std.specs.Prelude.{◌≡◌, ℕ, List, [], ◌∷◌, ◌++◌, Bool, true}
use Rattle.con_book.specs.History.{after, entry}
use Rattle.con_book.specs.Passes.{BookId, pass_id}
use Rattle.con_book.specs.declared.machine.Machine.{Ghosts}
use Rattle.con_book.specs.declared.history.Logged.{Logged}
use Rattle.con_book.specs.declared.pass.Pass.{Pass}
use Rattle.con_book.specs.declared.view.PassView.{PassView}

-- the last entry that was seen is this event, which was ready after those before it
pub record WasReady {S E : Type 0} (next : S → ℕ → E → S) (is_ready : S → ℕ → E → Bool) (v : PassView S E) (event : E) : Type 0 where
  pub before : List (Logged E)
  pub seen : v.seen ≡ before ++ entry v.actor event ∷ []
  pub was_ready : is_ready (after next v.start before) v.actor event ≡ true

module _ {M S E R A Room : Type 0} {g : Ghosts M S E R A Room} where
  -- it is a pass of this book
  abbrev pub AtBook : BookId → Pass M S E R A Room g → Type 0
  AtBook id pass = pass_id pass ≡ id
