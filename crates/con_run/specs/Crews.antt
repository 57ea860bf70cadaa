-- The clients of a session, before and after they ran.
use Rattle.std.specs.Prelude.{◌≡◌, ℕ, ◌+◌, ◌<◌, get_or, zero, suc, true, false, List, [], ◌∷◌, slice_get, Some, length}
use Rattle.con_events.specs.declared.script.Script.{Script}
use Rattle.con_laws.specs.Rounds.{Begun}
use Rattle.con_book.specs.Passes.{BookId, pass_id, view_of, actor_of}
use Rattle.con_book.specs.declared.machine.Machine.{Ghosts}
use Rattle.con_book.specs.declared.pass.Pass.{Pass}
use Rattle.con_threads.specs.Clients.{ClientView, ViewGoes, IsClientThreadBy, HasServedBy}
use Rattle.con_threads.specs.Scribe.{history}
use Rattle.con_threads.specs.declared.ledger.LedgerView.{LedgerView}
use Rattle.con_threads.specs.declared.scribe.Scribe.{Scribe}

-- the scribe of this actor at this book, which began so; its pass has taken in none
pub record IsAt (id : BookId) (start : LedgerView) (number : ℕ) (s : Scribe) : Type 0 where
  pub book : pass_id s.pass ≡ id
  pub actor' : actor_of s.pass ≡ number
  pub begins : (view_of s.pass).start ≡ start
  pub none_kept : (view_of s.pass).kept ≡ []

-- the client of this number and script, which has done nothing
pub record Begins (id : BookId) (start : LedgerView) (script : Script) (number : ℕ) (v : ClientView) : Type 0 where
  pub at : IsAt id start number v.scribe
  pub number' : v.number ≡ number
  pub is : IsClientThreadBy v
  pub steps' : v.steps ≡ script.steps
  pub whole : v.broken ≡ false
  pub none : history v.scribe ≡ []

-- client k + 1 at this book
pub record Belongs (id : BookId) (start : LedgerView) (k : ℕ) (v : ClientView) : Type 0 where
  pub at : IsAt id start (k + 1) v.scribe
  pub number' : v.number ≡ k + 1
  pub is : IsClientThreadBy v

module _ {C : Type 0} (view : C → ClientView) where
  -- each is the client of its place, and has done nothing
  abbrev pub AreNew : BookId → LedgerView → List Script → List C → Type 0
  AreNew id start scripts cs = (k : ℕ) (c : C) → slice_get cs k ≡ Some c → (script : Script) × (slice_get scripts k ≡ Some script)
      × Begins id start script (k + 1) (view c)

  abbrev pub IsCrew : BookId → LedgerView → List C → Type 0
  IsCrew id start cs = (k : ℕ) (c : C) → slice_get cs k ≡ Some c → Belongs id start k (view c)

  -- each goes as its script and the session's beginning say
  abbrev pub CrewGoes : Begun → List C → Type 0
  CrewGoes b cs = (k : ℕ) (c : C) → slice_get cs k ≡ Some c → ViewGoes b (view c)

  -- each was at work
  pub record AllServed (old new : List C) : Type 0 where
    pub len : length new ≡ length old
    pub each : (i : ℕ) (d : C) → i < length old → HasServedBy (view (get_or old i d)) (view (get_or new i d))

-- n, n - 1, .. 1
abbrev pub down_from : ℕ → List ℕ
down_from zero = []
down_from (suc n) = suc n ∷ down_from n

module _ {M S E R A Room : Type 0} {g : Ghosts M S E R A Room} where
  -- an opening pass that has seen and taken in nothing, and gave these actors a pass
  pub record IsOpening (id : BookId) (start : S) (made : List ℕ) (p : Pass M S E R A Room g) : Type 0 where
    pub book : pass_id p ≡ id
    pub start' : (view_of p).start ≡ start
    pub opens : (view_of p).opens ≡ true
    pub none_seen : (view_of p).seen ≡ []
    pub made' : (view_of p).made ≡ made
    pub none_kept : (view_of p).kept ≡ []
    pub mine : (view_of p).mine ≡ []
    pub actor : (view_of p).actor ≡ 0
