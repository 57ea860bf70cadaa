-- The code's places, without where they lie in memory, and what the code's answers say.
use Rattle.std.specs.Prelude.{◌≡◌, ℕ, List, Result, Ok, Err, Option, Some, None, string_bytes}
use Rattle.con_script.specs.declared.place.Place.{Place}
use Rattle.con_script.specs.declared.place.Place.TheVariants as places
use Rattle.con_script.specs.declared.place.Site.{Site}
use Rattle.con_script.specs.declared.place.Site.TheVariants as sites
use Rattle.con_script.specs.declared.place.Halt.{Halt}
use Rattle.con_script.specs.declared.place.Halt.TheVariants as halts
use Rattle.con_script.specs.declared.place.Stop.{Stop}
use Rattle.con_script.specs.declared.place.Stop.TheVariants as stops
use Rattle.con_script.specs.declared.place.SessionFault.{SessionFault}
use Rattle.con_script.specs.declared.place.SessionFault.TheVariants as faults
use Rattle.con_document.specs.Session.{Spot, whole, key, call, Where, all, key_of, client}

abbrev pub seen : Place → Spot
seen places.Whole = whole
seen (places.Key k) = key (string_bytes k)
seen (places.Call i) = call i

abbrev pub stands : Site → Where
stands sites.All = all
stands (sites.Key k) = key_of (string_bytes k)
stands (sites.Client i place) = client i (seen place)

-- the answer is the one of the definition, but for want of memory
abbrev pub Gives : {A : Type 0} → Result A Halt → Result A Spot → Type 0
Gives (Ok a) r = r ≡ Ok a
Gives (Err (halts.At place)) r = r ≡ Err (seen place)
Gives (Err halts.OutOfMemory) r = Unit {0}

abbrev pub Answers : {A : Type 0} → Result A Stop → Result A Where → Type 0
Answers (Ok a) r = r ≡ Ok a
Answers (Err (stops.At site)) r = r ≡ Err (stands site)
Answers (Err stops.OutOfMemory) r = Unit {0}

-- a fact of a document that is no JSON
abbrev pub IsJson : SessionFault → Type 0 → Type 0
IsJson faults.Json P = P
IsJson (faults.At path) P = Unit {0}
IsJson faults.OutOfMemory P = Unit {0}

-- a fact of a refusal with a path
abbrev pub IsAt : SessionFault → (List ℕ → Type 0) → Type 0
IsAt faults.Json P = Unit {0}
IsAt (faults.At path) P = P path
IsAt faults.OutOfMemory P = Unit {0}

-- nothing is amiss, or this is
abbrev pub Keeps : Result (Unit {0}) Halt → Option Spot → Type 0
Keeps (Ok u) o = o ≡ None
Keeps (Err (halts.At place)) o = o ≡ Some (seen place)
Keeps (Err halts.OutOfMemory) o = Unit {0}

-- a refusal at a key, but for want of memory
abbrev pub HaltsAt : List ℕ → Halt → Type 0
HaltsAt k (halts.At place) = seen place ≡ key k
HaltsAt k halts.OutOfMemory = Unit {0}

abbrev pub StopsAt : List ℕ → Stop → Type 0
StopsAt k (stops.At site) = stands site ≡ key_of k
StopsAt k stops.OutOfMemory = Unit {0}

abbrev pub KeepsAll : Result (Unit {0}) Stop → Option Where → Type 0
KeepsAll (Ok u) o = o ≡ None
KeepsAll (Err (stops.At site)) o = o ≡ Some (stands site)
KeepsAll (Err stops.OutOfMemory) o = Unit {0}
