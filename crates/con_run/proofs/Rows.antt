-- Many actors, and passes that were taken in: computed on the definitions.
use Rattle.std.proofs.Common.{subst, sym, ap, inl, inr, arith}
use Rattle.std.specs.Prelude.{ℕ, ◌≡◌, refl, List, [], ◌∷◌, codes, None}
use Rattle.con_events.specs.Session.{Clients}
use Rattle.con_events.specs.declared.call.Call.TheVariants as calls
use Rattle.con_events.specs.declared.event.Event.{Event}
use Rattle.con_events.specs.declared.event.Event.TheVariants as events
use Rattle.con_machine.specs.State.{State, opening}
use Rattle.con_laws.specs.Rounds.{Begun}
use Rattle.con_actors.specs.Solo.{begins}
use Rattle.con_book.specs.History.{StartsWith, own}
use Rattle.con_book.specs.Lock.{joined, newcomer, opener}
use Rattle.con_book.specs.declared.history.Logged.{Logged}
use Rattle.con_book.specs.declared.view.Joined.{Joined}
use Rattle.con_book.specs.declared.view.PassView as known
use Rattle.con_threads.specs.Clients.{ClientView}
use Rattle.con_threads.specs.declared.ledger.LedgerView.{LedgerView}
use Rattle.con_run.specs.Crews.{AllServed, down_from}
use Rattle.con_run.specs.Session.{clients_in}
use Rattle.con_run.specs.Taking.{Covers, IsOf, kept_all}

-- a window of 10 by 3, and one client
abbrev session : Clients
session = record { size = record { w = 10; h = 3 }; scripts = record { program = codes "a"; group = 1; steps = [] } ∷ [] }

abbrev counting : Begun
counting = begins session ([] ∷ []) None

abbrev one : State
one = opening session (0 ∷ [])

abbrev start : LedgerView
start = record { state = one; replies = [] }

abbrev logged : {E : Type 0} → ℕ → E → Logged E
logged n e = record { actor = n; event = e }

-- how many records stand in the input
abbrev count : Event
count = events.Call (calls.Count 1)

one_client : clients_in counting ≡ 1
one_client = refl

three_down : down_from 3 ≡ 3 ∷ 2 ∷ 1 ∷ []
three_down = refl

-- none of a crew is lost
one_lost : (view : ℕ → ClientView) → AllServed view (1 ∷ 2 ∷ []) (1 ∷ []) → ⊥
one_lost view x = let wrong : 1 ≡ 2 = x.len in omega (arith, wrong)

-- a pass that has seen this
abbrev knows : ℕ → List (Logged ℕ) → known.PassView ℕ ℕ
knows n seen = record (newcomer n (opener 0)) { seen = seen; mine = own n seen }

last_first : kept_all (knows 1 (logged 1 7 ∷ []) ∷ knows 2 [] ∷ []) [] ≡ joined (knows 2 []) ∷ joined (knows 1 (logged 1 7 ∷ [])) ∷ []
last_first = refl

joined_one : joined (knows 1 (logged 1 7 ∷ logged 3 8 ∷ [])) ≡ record { actor = 1; seen = logged 1 7 ∷ logged 3 8 ∷ []; mine = 7 ∷ [] }
joined_one = refl

-- what a pass that was taken in had seen begins what is seen
abbrev took_in : List (Logged ℕ) → known.PassView ℕ ℕ
took_in seen = record (knows 3 seen) { kept = joined (knows 1 (logged 1 7 ∷ [])) ∷ [] }

covers_front : Covers (took_in (logged 1 7 ∷ logged 3 8 ∷ []))
covers_front k (inl e) = subst (λ (z : Joined ℕ). StartsWith (logged 1 7 ∷ logged 3 8 ∷ []) z.seen) (sym e) (logged 3 8 ∷ [], refl)
covers_front k (inr none) = absurd none

abbrev actor_first : List (Logged ℕ) → ℕ
actor_first [] = 0
actor_first (x ∷ xs) = x.actor

covers_other : Covers (took_in (logged 3 8 ∷ [])) → ⊥
covers_other c = let (rest, e) = c (joined (knows 1 (logged 1 7 ∷ []))) (inl refl) in let wrong : 3 ≡ 1 = ap actor_first e in omega (arith, wrong)

-- each event of its own is one that the pass entered
abbrev client_knows : List Event → known.PassView LedgerView Event
client_knows mine = record (newcomer 1 (opener start)) { seen = logged 1 count ∷ logged 1001 events.Paint ∷ []; mine = mine }

client_of : IsOf start 1 (client_knows (count ∷ []))
client_of = record { start' = refl; actor = refl; own_mine = refl }

client_forgets : IsOf start 1 (client_knows []) → ⊥
client_forgets x = let wrong : count ∷ [] ≡ [] = x.own_mine in absurd (cc)
