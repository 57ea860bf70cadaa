-- The session that bytes are, or the path of the first fault.
use Rattle.std.specs.Prelude.{◌≡◌, ℕ, suc, ◌==◌, cond, if◌then◌else◌, List, [], ◌∷◌, ◌++◌, length, sum_by, nat_le, codes, decimal}
use Rattle.std.specs.Prelude.{Option, Some, None, ok_or, option_map, option_and_then, is_none, Result, Ok, Err, find}
use Rattle.std.specs.List.{list_any}
use Rattle.std.specs.Option.{option_map_or, option_or}
use Rattle.std.specs.Result.{result_map_both}
use Rattle.std.specs.Str.{bytes_eq, is_utf8}
use Rattle.con_units.specs.declared.place.Size.{Size}
use Rattle.con_events.specs.declared.script.Step.{Step}
use Rattle.con_events.specs.declared.script.Script.{Script}
use Rattle.con_events.specs.Session.{Clients, is_within}
use Rattle.serde_json.specs.Data.{Data, object, Items, no_items, item, Members, no_members, member}
use Rattle.serde_json.specs.Events.{items_len}
use Rattle.serde_json.specs.Find.{get, get_member, as_number, as_u64, as_str, as_array}
use Rattle.serde_json.specs.Read.{read}
use Rattle.con_document.specs.Units.{text_units}
use Rattle.con_document.specs.Readers.{Reads}

-- the value of JSON (RFC 8259) that bytes are in UTF-8, nested to depth 127
abbrev pub json_of : List ℕ → Option Data
json_of bytes = if is_utf8 bytes then read bytes else None

-- ---- values within limits

-- a whole number from the first to the second
abbrev pub between : ℕ → ℕ → Data → Option ℕ
between low high d = option_and_then (λ n. if is_within low high n then Some n else None) (option_and_then as_u64 (as_number d))

-- an array whose length is within limits, tried before its items
abbrev pub array_of : ℕ → ℕ → Data → Option Items
array_of low high d = option_and_then (λ ds. if is_within low high (items_len ds) then Some ds else None) (as_array d)

-- a text of 1 to 255 units
abbrev pub program_in : Data → Option (List ℕ)
program_in d = option_and_then (λ us. if is_within 1 255 (length us) then Some us else None) (option_map text_units (as_str d))

-- a window's width and height
abbrev pub sides_of : Items → Option Size
sides_of (item w (item h no_items)) = option_and_then (λ width. option_map (λ height. record { w = width; h = height }) (between 1 256 h)) (between 1 512 w)
sides_of _ = None

-- ---- reading in order

-- the first fault, or what the next one makes of the value
abbrev pub and_then : {A B E : Type 0} → Result A E → (A → Result B E) → Result B E
and_then (Ok a) f = f a
and_then (Err e) f = Err e

-- the items in order, each with its number
abbrev pub each_from : {A E : Type 0} → (ℕ → Data → Result A E) → ℕ → Items → Result (List A) E
each_from f i no_items = Ok []
each_from f i (item d ds) = and_then (f i d) (λ a. and_then (each_from f (suc i) ds) (λ more. Ok (a ∷ more)))

-- the members stand in the order of their keys' bytes, so that the first is the least
abbrev pub first_other : List (List ℕ) → Members → Option (List ℕ)
first_other ks no_members = None
first_other ks (member name d ms) = cond (list_any (λ k. bytes_eq k name) ks) (first_other ks ms) (Some name)

-- the path of a fault of the keys: no object, or a missing key in the order of the format, or the least unknown key
abbrev pub keys_fault : List ℕ → List (List ℕ) → Data → Option (List ℕ)
keys_fault dot ks (object ms) = option_map (λ k. dot ++ k) (option_or (find (λ k. is_none (get_member k ms)) ks) (first_other ks ms))
keys_fault dot ks _ = Some []

-- ---- a client, and a document

-- a client's script, or the rest of the path of its first fault; a fault anywhere inside a call is the call's
unfoldable pub script_of : (Data → Option Step) → Data → Result Script (List ℕ)
script_of reader d = option_map_or Err (keys_fault (codes ".") (codes "program" ∷ codes "group" ∷ codes "calls" ∷ []) d) (
    and_then (ok_or (option_and_then program_in (get (codes "program") d)) (codes ".program")) (λ program.
    and_then (ok_or (option_and_then (between 1 4294967295) (get (codes "group") d)) (codes ".group")) (λ group.
    and_then (ok_or (option_and_then (array_of 0 1024) (get (codes "calls") d)) (codes ".calls")) (λ calls.
    and_then (each_from (λ i c. ok_or (reader c) (codes ".calls[" ++ (decimal i ++ codes "]"))) 0 calls) (λ steps.
    Ok (record { program = program; group = group; steps = steps }))))))

-- a session, or the path of the first fault: in version 1 at most 16 clients, in version 2 at most 64; at most 16,384 calls over all clients
unfoldable pub document_of : (ℕ → Data → Option Step) → Data → Result Clients (List ℕ)
document_of reader d = option_map_or Err (keys_fault [] (codes "version" ∷ codes "size" ∷ codes "clients" ∷ []) d) (
    and_then (ok_or (option_and_then (between 1 2) (get (codes "version") d)) (codes "version")) (λ v.
    and_then (ok_or (option_and_then (λ s. option_and_then sides_of (as_array s)) (get (codes "size") d)) (codes "size")) (λ size.
    and_then (ok_or (option_and_then (array_of 1 (if v == 1 then 16 else 64)) (get (codes "clients") d)) (codes "clients")) (λ clients.
    and_then (each_from (λ i c. result_map_both (λ s. s) (λ at. codes "clients[" ++ (decimal i ++ (codes "]" ++ at))) (script_of (reader v) c)) 0 clients)
    (λ scripts.
    if nat_le (sum_by (λ s. length s.steps) scripts) 16384 then Ok (record { size = size; scripts = scripts }) else Err (codes "clients"))))))

-- what bytes of JSON are, where steps are read so: a session, or the path of its first fault
unfoldable pub IsDocument : List ℕ → Result Clients (List ℕ) → Type 0
IsDocument bytes r = (reader : ℕ → Data → Option Step) × Reads reader × (option_map (document_of reader) (json_of bytes) ≡ Some r)
