-- The rule of the lock. Word 1 counts the tickets drawn, and word 2 the turns served. The one slot holds the machine and its log, unless a seat holds it.
use Rattle.std.specs.Prelude.{◌≡◌, ℕ, ◌+◌, ◌-◌, ◌%◌, ◌^◌, ◌<◌, ◌≤◌, Bool, true, false, List, [], ◌∷◌, ◌++◌, length, slice_index, Option, Some, ◌⊎◌, MatchBool, if◌then◌else◌, nat_lt}
use mathlib.Core.Option.{some}
use lib.ListN.{get_elem?}
use Rattle.atomic_table.specs.Table.{State}
use Rattle.con_book.specs.History.{StartsWith, after, own, is_legal, In}
use Rattle.con_book.specs.declared.kept.Kept.{Kept}
use Rattle.con_book.specs.declared.history.Logged.{Logged}
use Rattle.con_book.specs.declared.view.Joined.{Joined}
use Rattle.con_book.specs.declared.view.PassView.{PassView}
use Rattle.con_book.specs.declared.view.Stage.{Stage}
use Rattle.con_book.specs.declared.view.Stage.TheVariants.{Idle, Waiting, Due}

abbrev pub total : {A : Type 0} → (A → ℕ) → List A → ℕ
total f [] = 0
total f (x ∷ xs) = f x + total f xs

abbrev pub Distinct : {A : Type 0} → List A → Type 0
Distinct [] = Unit {0}
Distinct (x ∷ xs) = ¬ In x xs × Distinct xs

-- an actor has no pass yet, or the pass of this seat, or its pass was joined
pub data Status : Type 0 where
  fresh : Status
  live : ℕ → Status
  closed : Status

abbrev pub HasTicket : ℕ → Stage → Type 0
HasTicket t Idle = ⊥
HasTicket t (Waiting u) = u ≡ t
HasTicket t (Due u) = u ≡ t

-- the number of the ticket, if there is one
abbrev pub number : Stage → ℕ
number Idle = 0
number (Waiting t) = t
number (Due t) = t

abbrev pub tickets : Stage → ℕ
tickets Idle = 0
tickets (Waiting u) = 1
tickets (Due u) = 1

-- the stage fits the counts of turns served and tickets drawn, and a seat that is due has seen the whole log
abbrev pub Stands : ℕ → ℕ → Type 0 → Stage → Type 0
Stands served drawn whole Idle = Unit {0}
Stands served drawn whole (Waiting t) = (served ≤ t) × (t < drawn)
Stands served drawn whole (Due t) = (t ≡ served) × (t < drawn) × whole

abbrev pub longer : {A : Type 0} → List A → List A → List A
longer xs ys = if nat_lt (length xs) (length ys) then ys else xs

module _ {S E : Type 0} where
  abbrev pub staged : PassView S E → Stage → PassView S E
  staged v stage = record v { stage = stage }

  -- it has seen this log, in which the events of its actor are these
  abbrev pub knowing : PassView S E → List (Logged E) → List E → Stage → PassView S E
  knowing v seen mine stage = record v { seen = seen; mine = mine; stage = stage }

  abbrev pub opener : S → PassView S E
  opener start = record {
    start = start;
    actor = 0;
    seen = [];
    had = [];
    mine = [];
    live = true;
    opens = true;
    made = [];
    kept = [];
    parts = 4294967296;
    stage = Idle;
  }

  abbrev pub spent : S → PassView S E
  spent start = record { start = start; actor = 0; seen = []; had = []; mine = []; live = false; opens = false; made = []; kept = []; parts = 0; stage = Idle }

  -- a view after it gave an actor a pass, and the new pass's view
  abbrev pub gave : ℕ → PassView S E → PassView S E
  gave actor v = record v { made = actor ∷ v.made; parts = v.parts - 1 }

  abbrev pub newcomer : ℕ → PassView S E → PassView S E
  newcomer actor v = record {
    start = v.start;
    actor = actor;
    seen = v.seen;
    had = [];
    mine = [];
    live = true;
    opens = false;
    made = [];
    kept = [];
    parts = 1;
    stage = Idle;
  }

  abbrev pub joined : PassView S E → Joined E
  joined w = record { actor = w.actor; seen = w.seen; mine = w.mine }

  -- a view that has taken in another one
  abbrev pub both : PassView S E → PassView S E → PassView S E
  both v w = record v { seen = longer v.seen w.seen; had = v.seen; kept = joined w ∷ w.kept ++ v.kept; parts = v.parts + w.parts }

  -- the parts are as many as the passes that it stands for
  abbrev pub Counts : PassView S E → Type 0
  Counts v = MatchBool v.opens (v.parts + length v.made ≡ 4294967296 + length v.kept) (v.parts ≡ 1 + length v.kept)

  -- a view knows a beginning of the log, and its own events are all that the log has of its actor. The same holds of those that it keeps
  pub record Fits (start : S) (served drawn : ℕ) (log : List (Logged E)) (status : ℕ → Status) (j : ℕ) (v : PassView S E) : Type 0 where
    pub starts : v.start ≡ start
    pub seen : StartsWith log v.seen
    pub had : StartsWith log v.had
    pub mine : own v.actor log ≡ v.mine
    pub mine_seen : own v.actor v.seen ≡ v.mine
    pub some_part : 0 < v.parts
    pub counts : Counts v
    pub is_live : status v.actor ≡ live j
    pub opens_first : v.opens ≡ true → (j ≡ 0) × ((a : ℕ) → ¬ In a (0 ∷ v.made) → status a ≡ fresh) × Distinct (0 ∷ v.made)
        × ((a : ℕ) → In a (0 ∷ v.made) → a < 4294967296)
    pub keeps : (k : Joined E) → In k v.kept → (status k.actor ≡ closed) × (own k.actor log ≡ k.mine) × StartsWith log k.seen
    pub stands : Stands served drawn (v.seen ≡ log) v.stage

  abbrev pub Apart : List (PassView S E) → Type 0
  Apart views = (i j : ℕ) (v w : PassView S E) (t : ℕ) → get_elem? views i ≡ some v → get_elem? views j ≡ some w
      → HasTicket t v.stage → HasTicket t w.stage → i ≡ j

  abbrev pub SomeDue : List (PassView S E) → Type 0
  SomeDue views = (j : ℕ) × (v : PassView S E) × (t : ℕ) × (get_elem? views j ≡ some v) × (v.stage ≡ Due t)

-- how a machine moves
pub record Moves (S E : Type 0) : Type 0 where
  pub next : S → ℕ → E → S
  pub is_ready : S → ℕ → E → Bool
  pub blank : S

abbrev pub moving : {S E : Type 0} → (S → ℕ → E → S) → (S → ℕ → E → Bool) → S → Moves S E
moving next is_ready blank = record { next = next; is_ready = is_ready; blank = blank }

module _ {M S E : Type 0} (state : M → S) (moves : Moves S E) (start : S) where
  -- what is kept is the machine after this log, in which each event was ready where it stands
  abbrev pub Follows : List (Logged E) → Kept M E → Type 0
  Follows log x = (x.log.items ≡ log) × (state x.machine ≡ after moves.next start log) × (is_legal moves.next moves.is_ready start log ≡ true)

  pub record Orderly (s : State (Option (Kept M E)) (PassView S E)) : Type 0 where
    pub served : ℕ
    pub drawn : ℕ
    pub log : List (Logged E)
    pub status : ℕ → Status
    pub busy : Bool
    pub wide : length s.words ≡ 3
    pub drawn_word : slice_index s.words 1 ≡ drawn % 2 ^ 64
    pub served_word : slice_index s.words 2 ≡ served % 2 ^ 64
    pub counted : served + total (λ (v : PassView S E). tickets v.stage) s.views ≡ drawn
    pub parts : total (λ (v : PassView S E). v.parts) s.views ≡ 4294967296
    pub each : (j : ℕ) (v : PassView S E) → get_elem? s.views j ≡ some v → (v ≡ spent moves.blank) ⊎ Fits start served drawn log status j v
    pub apart : Apart s.views
    pub strangers : (a : ℕ) → status a ≡ fresh → own a log ≡ []
    pub out : busy ≡ true → SomeDue s.views
    pub home : busy ≡ false → (x : Kept M E) × (get_elem? s.homes 0 ≡ some (some (Some x))) × Follows log x
