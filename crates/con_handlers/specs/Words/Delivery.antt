-- The words of the code and of laws about Delivery, which a reader need not believe.
use Rattle.std.specs.Prelude.{ℕ, zero, suc, ◌+◌, Bool, List, [], ◌∷◌, Option, Some, None, if◌then◌else◌, map, nat_lt, take, ◌≡◌, true, Result, Ok, Err}
use Rattle.con_units.specs.declared.code.Code.{Code}
use Rattle.con_units.specs.declared.code.Code.TheVariants as code
use Rattle.std.specs.List.{list_all}
use Rattle.std.specs.Option.{option_map_or}
use Rattle.con_handlers.specs.Answers.{answer}
use Rattle.con_handlers.specs.Memory.{Memory}
use Rattle.con_handlers.specs.Words.Memory.{after_event}
use Rattle.con_handlers.specs.Delivery.{newest, asked_from}
use Rattle.con_handlers.specs.declared.chain.Delivered.{Delivered}
use Rattle.con_handlers.specs.declared.chain.Delivered.TheVariants as outcome

-- one handler before the others
abbrev pub newer_or : Bool → Option ℕ → Option ℕ
newer_or b o = option_map_or (λ i. Some (i + 1)) o (if b then Some 0 else None)

abbrev pub delivered_by : Option ℕ → Delivered
delivered_by None = outcome.Unhandled
delivered_by (Some i) = outcome.Handled i

-- what a delivery answers, by what each would answer
abbrev pub delivered : List Bool → Delivered
delivered bs = delivered_by (newest bs)

abbrev pub remembered : ℕ → ℕ → List Memory → List Memory
remembered event k [] = []
remembered event zero (m ∷ ms) = after_event event m ∷ remembered event zero ms
remembered event (suc k) (m ∷ ms) = m ∷ remembered event k ms

-- each handler tells of its kind
abbrev pub is_known : List Memory → Bool
is_known ms = list_all (λ m. nat_lt 0 m.kind) ms

-- what handlers of known kinds answer
abbrev pub answers : ℕ → List Memory → List Bool
answers event ms = map (λ m. answer m.kind m.asked event) ms

-- what a delivery does to a chain, by what each handler will answer and remembers
pub record Delivers {B : Type 0} (will : B → Bool) (memory : B → Memory) (event : ℕ) (old new : List B) (result : Delivered) : Type 0 where
  -- the newest that answers true handled it
  pub answer : result ≡ delivered (map will old)
  -- from the newest down to that one each was asked once with the event
  pub asked : map memory new ≡ remembered event (asked_from (map will old)) (map memory old)
  -- the others are as before
  pub others : take (asked_from (map will old)) new ≡ take (asked_from (map will old)) old
  -- where all tell of their kinds, these say who handles it
  pub by_kind : is_known (map memory old) ≡ true → newest (map will old) ≡ newest (answers event (map memory old))

-- whether a chain of so many handlers has one at the index
abbrev pub removal : ℕ → ℕ → Result (Unit {0}) Code
removal len index = if nat_lt index len then Ok tt else Err code.BadArgument
