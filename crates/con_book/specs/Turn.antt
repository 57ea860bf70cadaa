-- What a pass knows before and after a turn, and what a closed book tells.
use Rattle.std.specs.Prelude.{◌≡◌, ℕ, List, [], ◌∷◌, ◌++◌, Bool, true, false, ◌⊎◌}
use Rattle.con_book.specs.History.{StartsWith, after, own, entry, is_legal, In, is_among}
use Rattle.con_book.specs.declared.history.Logged.{Logged}
use Rattle.con_book.specs.declared.view.Joined.{Joined}
use Rattle.con_book.specs.declared.view.PassView.{PassView}

-- the entries of its actor that a view has seen are its own events
abbrev pub OwnIsMine : {S E : Type 0} → PassView S E → Type 0
OwnIsMine v = own v.actor v.seen ≡ v.mine

-- it is the same pass, with all that it gave and took in
abbrev pub IsSame : {S E : Type 0} → PassView S E → PassView S E → Type 0
IsSame v w = (w.start ≡ v.start) × (w.actor ≡ v.actor) × (w.opens ≡ v.opens) × (w.made ≡ v.made) × (w.kept ≡ v.kept) × (w.live ≡ v.live)

-- it has seen more entries, none of them of its own actor
abbrev pub SeesOthers : {S E : Type 0} → PassView S E → PassView S E → Type 0
SeesOthers {S} {E} v w = (between : List (Logged E)) × (own v.actor between ≡ []) × (w.seen ≡ v.seen ++ between) × (w.mine ≡ v.mine)

-- it has seen more entries of others, and then its own event, which was ready there. The reply is the machine's after all the entries
-- before that event
pub record Enters {S E R A : Type 0} (next : S → ℕ → E → S) (is_ready : S → ℕ → E → Bool) (answer : R → A) (answer_to : S → ℕ → E → A) (tells : R → S → ℕ → E → Type 0)
    (v : PassView S E) (event : E) (reply : R) (w : PassView S E) : Type 0 where
  pub between : List (Logged E)
  pub others : own v.actor between ≡ []
  pub seen : w.seen ≡ (v.seen ++ between) ++ entry v.actor event ∷ []
  pub mine : w.mine ≡ v.mine ++ event ∷ []
  pub all_mine : own v.actor w.seen ≡ w.mine
  pub was_ready : is_ready (after next v.start (v.seen ++ between)) v.actor event ≡ true
  pub reply_is : answer reply ≡ answer_to (after next v.start (v.seen ++ between)) v.actor event
  pub told : tells reply (after next v.start (v.seen ++ between)) v.actor event

-- the event is not ready in the machine after what was seen
abbrev pub IsBlocked : {S E : Type 0} → (S → ℕ → E → S) → (S → ℕ → E → Bool) → PassView S E → E → Type 0
IsBlocked next is_ready w event = is_ready (after next w.start w.seen) w.actor event ≡ false

-- what the opening pass of a new book knows
abbrev pub Opens : {S E : Type 0} → S → PassView S E → Type 0
Opens start v = (v.start ≡ start) × (v.actor ≡ 0) × (v.seen ≡ []) × (v.mine ≡ []) × (v.opens ≡ true) × (v.made ≡ []) × (v.kept ≡ [])

-- the actor is that of the opening pass, or was given a pass by it
abbrev pub has_pass : {S E : Type 0} → ℕ → PassView S E → Bool
has_pass actor v = is_among actor (0 ∷ v.made)

-- the longer of two lists of entries, which the other one begins
abbrev pub IsLonger : {S E : Type 0} → PassView S E → PassView S E → PassView S E → Type 0
IsLonger v w z = ((z.seen ≡ v.seen) ⊎ (z.seen ≡ w.seen)) × StartsWith z.seen v.seen × StartsWith z.seen w.seen

-- what is left of a book: the machine after a log in which each event was ready where it stands, and which begins with all that any
-- pass had seen. The log's entries of each actor are the own events of its pass, and an actor without a pass has none
pub record Ends {M S E : Type 0} (state : M → S) (next : S → ℕ → E → S) (is_ready : S → ℕ → E → Bool) (v : PassView S E)
    (log : List (Logged E)) (machine : M) : Type 0 where
  pub machine_is : state machine ≡ after next v.start log
  pub legal : is_legal next is_ready v.start log ≡ true
  pub seen : StartsWith log v.seen
  pub mine : own v.actor log ≡ v.mine
  pub joined_seen : (k : Joined E) → In k v.kept → StartsWith log k.seen
  pub joined_mine : (k : Joined E) → In k v.kept → own k.actor log ≡ k.mine
  pub no_others : (a : ℕ) → has_pass a v ≡ false → own a log ≡ []
