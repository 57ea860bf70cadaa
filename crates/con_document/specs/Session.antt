-- The code's own words: the session that a value of JSON is, or the place of its first fault, by a reader of steps; `SessionLaws` has that this is the
-- session that the document is, and the path of its fault.
use Rattle.std.specs.Prelude.{ℕ, suc, ◌||◌, ◌==◌, Bool, false, cond, if◌then◌else◌, List, [], ◌∷◌, ◌++◌, nat_le, codes, decimal, unwrap_or}
use Rattle.std.specs.Prelude.{Option, Some, None, option_map, option_and_then, is_some, Result, Ok, Err}
use Rattle.std.specs.Str.{bytes_eq}
use Rattle.con_units.specs.declared.place.Size.{Size}
use Rattle.con_events.specs.declared.script.Step.{Step}
use Rattle.con_events.specs.declared.script.Script.{Script}
use Rattle.con_events.specs.Session.{Clients, is_within}
use Rattle.con_events.specs.Words.Session.{step_count}
use Rattle.serde_json.specs.Data.{Data, null, boolean, number, string, array, object, Items, no_items, item, Members, no_members, member}
use Rattle.serde_json.specs.Find.{get, as_number, as_u64, as_array}
use Rattle.con_document.specs.declared.version.Version.{Version}
use Rattle.con_document.specs.declared.version.Version.TheVariants.{One, Two}
use Rattle.con_values.specs.Values.{below}
use Rattle.con_document.specs.Units.{text_units}
pub use Rattle.con_document.specs.Document.{between, program_in, and_then, each_from}

-- ---- places, and reading in order

-- where in a client a fault stands: the client itself, one of its keys, one of its calls
pub data Spot : Type 0 where
  whole : Spot
  key : List ℕ → Spot
  call : ℕ → Spot

-- where in a document a fault stands: the document itself, one of its keys, in one of its clients
pub data Where : Type 0 where
  all : Where
  key_of : List ℕ → Where
  client : ℕ → Spot → Where

abbrev pub or_fault : {A E : Type 0} → E → Option A → Result A E
or_fault e None = Err e
or_fault e (Some a) = Ok a

abbrev pub unless : {A E : Type 0} → Option E → Result A E → Result A E
unless None r = r
unless (Some e) r = Err e

abbrev pub with_fault : {A E F : Type 0} → (E → F) → Result A E → Result A F
with_fault f (Ok a) = Ok a
with_fault f (Err e) = Err (f e)

-- an array whose length is within the limits, tried before its items
abbrev pub count : Items → ℕ
count no_items = 0
count (item d ds) = suc (count ds)

abbrev pub within : ℕ → ℕ → Items → Option Items
within low high ds = if is_within low high (count ds) then Some ds else None

abbrev pub array_within : ℕ → ℕ → Data → Option Items
array_within low high d = option_and_then (within low high) (as_array d)

-- ---- keys

abbrev pub first_missing : List (List ℕ) → Data → Option (List ℕ)
first_missing [] d = None
first_missing (k ∷ ks) d = cond (is_some (get k d)) (first_missing ks d) (Some k)

abbrev pub is_among : List (List ℕ) → List ℕ → Bool
is_among [] name = false
is_among (k ∷ ks) name = bytes_eq k name || is_among ks name

-- the members stand in the order of their keys' bytes, so that the first is the least
abbrev pub first_unknown : List (List ℕ) → Members → Option (List ℕ)
first_unknown ks no_members = None
first_unknown ks (member name d ms) = cond (is_among ks name) (first_unknown ks ms) (Some name)

abbrev pub or_else : {A : Type 0} → Option A → Option A → Option A
or_else None other = other
or_else (Some a) other = Some a

-- a fault of the keys: no object, or a missing key in the order of the format, or the least unknown key
abbrev pub keys_spot : List (List ℕ) → Data → Option Spot
keys_spot ks null = Some whole
keys_spot ks (boolean b) = Some whole
keys_spot ks (number n) = Some whole
keys_spot ks (string s) = Some whole
keys_spot ks (array ds) = Some whole
keys_spot ks (object ms) = option_map key (or_else (first_missing ks (object ms)) (first_unknown ks ms))

abbrev pub member_at : List ℕ → Data → Data
member_at k d = unwrap_or (get k d) null

-- ---- a client

abbrev pub client_keys : List (List ℕ)
client_keys = codes "program" ∷ codes "group" ∷ codes "calls" ∷ []

-- 1 to 4,294,967,295
abbrev pub group_in : Data → Option ℕ
group_in d = option_and_then (λ n. if nat_le 1 n then Some n else None) (below 4294967296 d)

-- a fault anywhere inside a call is the call's
abbrev pub call_at : (Data → Option Step) → ℕ → Data → Result Step Spot
call_at read i d = or_fault (call i) (read d)

unfoldable pub calls_in : (Data → Option Step) → Data → Result (List Step) Spot
calls_in read d = and_then (or_fault (key (codes "calls")) (array_within 0 1024 d)) (each_from (call_at read) 0)

unfoldable pub script_in : (Data → Option Step) → Data → Result Script Spot
script_in read d = unless (keys_spot client_keys d)
    (and_then (or_fault (key (codes "program")) (program_in (member_at (codes "program") d))) (λ program.
    and_then (or_fault (key (codes "group")) (group_in (member_at (codes "group") d))) (λ group.
    and_then (calls_in read (member_at (codes "calls") d)) (λ steps.
    Ok (record { program = program; group = group; steps = steps })))))

-- ---- a document

abbrev pub top_keys : List (List ℕ)
top_keys = codes "version" ∷ codes "size" ∷ codes "clients" ∷ []

abbrev pub version_of : ℕ → Option Version
version_of n = if n == 1 then Some One else (if n == 2 then Some Two else None)

abbrev pub version_in : Data → Option Version
version_in d = option_and_then version_of (option_and_then as_u64 (as_number d))

abbrev pub size_of : Option ℕ → Option ℕ → Option Size
size_of w h = option_and_then (λ width. option_map (λ height. record { w = width; h = height }) h) w

abbrev pub size_items : Items → Option Size
size_items no_items = None
size_items (item w no_items) = None
size_items (item w (item h no_items)) = size_of (between 1 512 w) (between 1 256 h)
size_items (item w (item h (item more ds))) = None

abbrev pub size_in : Data → Option Size
size_in d = option_and_then size_items (as_array d)

abbrev pub most_clients : Version → ℕ
most_clients One = 16
most_clients Two = 64

abbrev pub client_at : (Data → Option Step) → ℕ → Data → Result Script Where
client_at read i d = with_fault (client i) (script_in read d)

unfoldable pub clients_in : (Version → Data → Option Step) → Version → Data → Result (List Script) Where
clients_in read v d = and_then (or_fault (key_of (codes "clients")) (array_within 1 (most_clients v) d)) (each_from (client_at (read v)) 0)

abbrev pub as_where : Spot → Where
as_where whole = all
as_where (key k) = key_of k
as_where (call i) = all

-- at most 16,384 calls over all clients
abbrev pub few_calls : List Script → Bool
few_calls scripts = nat_le (step_count scripts) 16384

abbrev pub of_scripts : Size → List Script → Result Clients Where
of_scripts size scripts = if few_calls scripts then Ok (record { size = size; scripts = scripts }) else Err (key_of (codes "clients"))

unfoldable pub session_in : (Version → Data → Option Step) → Data → Result Clients Where
session_in read d = unless (option_map as_where (keys_spot top_keys d))
    (and_then (or_fault (key_of (codes "version")) (version_in (member_at (codes "version") d))) (λ v.
    and_then (or_fault (key_of (codes "size")) (size_in (member_at (codes "size") d))) (λ size.
    and_then (clients_in read v (member_at (codes "clients") d)) (of_scripts size))))

-- keys are joined by `.`, and places are written `[i]`
abbrev pub path_bytes : Where → List ℕ
path_bytes all = []
path_bytes (key_of k) = k
path_bytes (client i whole) = codes "clients[" ++ (decimal i ++ codes "]")
path_bytes (client i (key k)) = codes "clients[" ++ (decimal i ++ (codes "]." ++ k))
path_bytes (client i (call j)) = codes "clients[" ++ (decimal i ++ (codes "].calls[" ++ (decimal j ++ codes "]")))

-- the path's UTF-16 units
abbrev pub path : Where → List ℕ
path w = text_units (path_bytes w)
