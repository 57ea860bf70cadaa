-- What boxes of handlers remember. A struct that holds such boxes is named with the table of their types and the values of
-- each; as implicit arguments these are never written by who uses a word about it.
use Rattle.std.specs.declared.alloc.Global.{Global}
use Rattle.std.specs.declared.dyn_box.DynBox.{DynBox}
use Rattle.con_handlers.specs.Memory.{Memory}

-- what a box remembers: the ghost member `memory` in the crate that declares the struct
abbrev pub Remembers : (X : Type 0) → (X → Type 0) → Type 0
Remembers X V = DynBox X Global V → Memory

-- the same of a table and a value in it: `memory` in the crates above that one
abbrev pub Recalls : (X : Type 0) → (X → Type 0) → Type 0
Recalls X V = ((x : X) × V x) → Memory

abbrev pub boxed : {X : Type 0} {V : X → Type 0} → Recalls X V → Remembers X V
boxed memory b = memory (b.vtable, b.value)
