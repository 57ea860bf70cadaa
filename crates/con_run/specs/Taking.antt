-- Passes that were taken in, and what a closed book says of all of them.
use Rattle.std.specs.Prelude.{◌≡◌, ℕ, ◌+◌, ◌≤◌, true, false, List, [], ◌∷◌, map, slice_get, Some, length}
use Rattle.con_events.specs.declared.actor.Actor.TheVariants as actors
use Rattle.con_events.specs.declared.entry.Entry.{Entry}
use Rattle.con_events.specs.declared.event.Event.{Event}
use Rattle.con_events.specs.declared.reply.Reply.{Reply}
use Rattle.con_machine.specs.Follows.{are_of_session}
use Rattle.con_machine.specs.History.{is_legal, replies_of}
use Rattle.con_actors.specs.Desk.{listed}
use Rattle.con_book.specs.History.{StartsWith, In}
use Rattle.con_book.specs.Lock.{joined}
use Rattle.con_book.specs.Passes.{BookId, pass_id, view_of}
use Rattle.con_book.specs.Turn.{OwnIsMine}
use Rattle.con_book.specs.declared.machine.Machine.{Ghosts}
use Rattle.con_book.specs.declared.pass.Pass.{Pass}
use Rattle.con_book.specs.declared.view.Joined.{Joined}
use Rattle.con_book.specs.declared.view.PassView.{PassView}
use Rattle.con_run.specs.Crews.{IsOpening, down_from}
use Rattle.con_threads.specs.Ledger.{logged_entries}
use Rattle.con_threads.specs.Scribe.{SeesMore}
use Rattle.con_threads.specs.declared.ledger.LedgerView.{LedgerView}

-- the passes with these views, the last one first, and then these
abbrev pub kept_all : {S E : Type 0} → List (PassView S E) → List (Joined E) → List (Joined E)
kept_all [] ks = ks
kept_all (w ∷ ws) ks = kept_all ws (joined w ∷ ks)

-- all that the passes that it took in had seen begins what it has seen
abbrev pub Covers : {S E : Type 0} → PassView S E → Type 0
Covers {S} {E} v = (k : Joined E) → In k v.kept → StartsWith v.seen k.seen

module _ {M S E R A Room : Type 0} {g : Ghosts M S E R A Room} where
  -- it has taken in such passes, and all else that it knew of itself is the same
  pub record HasTaken (kept : List (Joined E)) (old new : Pass M S E R A Room g) : Type 0 where
    pub book : pass_id new ≡ pass_id old
    pub start : (view_of new).start ≡ (view_of old).start
    pub actor : (view_of new).actor ≡ (view_of old).actor
    pub opens : (view_of new).opens ≡ (view_of old).opens
    pub made : (view_of new).made ≡ (view_of old).made
    pub mine : (view_of new).mine ≡ (view_of old).mine
    pub kept_is : (view_of new).kept ≡ kept
    pub seen : StartsWith (view_of new).seen (view_of old).seen
    pub own_mine : OwnIsMine (view_of new)

-- a pass's view, of a book that began so
pub record IsOf (start : LedgerView) (number : ℕ) (w : PassView LedgerView Event) : Type 0 where
  pub start' : w.start ≡ start
  pub actor : w.actor ≡ number
  pub own_mine : OwnIsMine w

-- the views of the clients 1 to n
abbrev pub AreOf : LedgerView → List (PassView LedgerView Event) → Type 0
AreOf start ws = (k : ℕ) (w : PassView LedgerView Event) → slice_get ws k ≡ Some w → IsOf start (k + 1) w

module _ {M R A Room : Type 0} {g : Ghosts M LedgerView Event R A Room} where
  -- the book may be closed with the one, once it has taken in the other: as many passes were taken in as were given
  pub record MayClose (id : BookId) (opening last : Pass M LedgerView Event R A Room g) : Type 0 where
    pub book : (pass_id opening ≡ id) × (pass_id last ≡ id)
    pub opens : (view_of opening).opens ≡ true
    pub single : (view_of last).opens ≡ false
    pub count : length (view_of last).kept + 1 + length (view_of opening).kept ≡ length (view_of opening).made
    pub none_before : (view_of opening).start.replies ≡ []

  -- The painter's pass has taken in those of the terminal's side and of n clients, and nobody else has a pass but the opening one.
  pub record IsGathered (id : BookId) (start : LedgerView) (n : ℕ) (opening last : Pass M LedgerView Event R A Room g) (side : PassView LedgerView Event)
      (clients : List (PassView LedgerView Event)) : Type 0 where
    pub opening' : IsOpening id start (1001 ∷ 1000 ∷ down_from n) opening
    pub book : pass_id last ≡ id
    pub single : (view_of last).opens ≡ false
    pub painter : IsOf start 1001 (view_of last)
    pub side' : IsOf start 1000 side
    pub clients' : AreOf start clients
    pub len : length clients ≡ n
    pub few : n ≤ 64
    pub kept : (view_of last).kept ≡ joined side ∷ kept_all clients []
    pub covers : Covers (view_of last)
    pub none_before : start.replies ≡ []

-- The whole history and its replies, once the book is closed: the painter had seen all of it, and the others all of their own entries.
pub record IsHistory (start : LedgerView) (n : ℕ) (painter side : PassView LedgerView Event) (clients : List (PassView LedgerView Event)) (h : List Entry)
    (rs : List Reply) : Type 0 where
  pub whole : h ≡ logged_entries start.state painter.seen
  pub legal : is_legal start.state h ≡ true
  pub replies : rs ≡ map listed (replies_of start.state h)
  pub numbered : are_of_session n h ≡ true
  pub side' : SeesMore start.state actors.Terminal (logged_entries start.state side.seen) h
  pub clients' : (k : ℕ) (w : PassView LedgerView Event) → slice_get clients k ≡ Some w
      → SeesMore start.state (actors.Client (k + 1)) (logged_entries start.state w.seen) h
