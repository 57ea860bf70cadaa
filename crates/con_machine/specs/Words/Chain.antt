-- The words of the code and of laws about Chain, which a reader need not believe.
use Rattle.std.specs.Prelude.{ℕ, ◌==◌, Bool, not, List, [], ◌∷◌, ◌++◌, filter, is_some}
use Rattle.con_handlers.specs.Delivery.{newest, asked_from}
use Rattle.con_machine.specs.Chain.{Handler, answers_to, asked_once}

-- a handler that was added stands last, and was never asked
abbrev pub with_handler : List Handler → ℕ → ℕ → List Handler
with_handler hs place kind = hs ++ (let h : Handler = record { place = place; kind = kind; asked = 0 } in h) ∷ []

abbrev pub without_handler : List Handler → ℕ → List Handler
without_handler hs place = filter (λ h. not (h.place == place)) hs

-- from the last one down to the first that answers true each is asked
abbrev pub delivered_to : List Handler → ℕ → List Handler
delivered_to hs event = asked_once (asked_from (answers_to event hs)) hs

-- one of them answers true
abbrev pub is_handled : List Handler → ℕ → Bool
is_handled hs event = is_some (newest (answers_to event hs))
