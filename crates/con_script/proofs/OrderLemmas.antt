-- The first fault of a client and of a document, step by step.
use Rattle.std.proofs.Common.{◌≡◌, ℕ, List, refl, Option, Some, None, ap, sym, ◌∙◌}
use Rattle.std.specs.Prelude.{Result, Ok, Err, codes, option_map}
use Rattle.std.specs.Result.{IsErrAnd}
use Rattle.con_units.specs.declared.place.Size.{Size}
use Rattle.con_events.specs.declared.script.Step.{Step}
use Rattle.con_events.specs.declared.script.Script.{Script}
use Rattle.con_events.specs.Words.Session.{session_of}
use Rattle.serde_json.specs.Data.{Data}
use Rattle.con_document.specs.declared.version.Version.{Version}
use Rattle.con_script.specs.declared.place.Halt.{Halt}
use Rattle.con_script.specs.declared.place.Halt.TheVariants as halts
use Rattle.con_script.specs.declared.place.Stop.{Stop}
use Rattle.con_script.specs.declared.place.Stop.TheVariants as stops
use Rattle.con_script.specs.Places.{Gives, Answers, Keeps, KeepsAll, StopsAt, seen, stands}
use Rattle.con_script.proofs.LimitLemmas.{last_test}
use Rattle.con_document.specs.Session.{Spot, key, Where, key_of, or_fault, as_where, keys_spot, client_keys, top_keys, member_at, program_in, group_in, calls_in, script_in, version_in, size_in, clients_in, session_in}

-- a refusal that is handed on
abbrev Through : {B : Type 0} {F : Type 0} → Result B F → F → Type 0
Through res h = IsErrAnd res (λ e. e ≡ h)

pub halted : {A B : Type 0} (h : Halt) (res : Result B Halt) (r : Result A Spot) (s : Result B Spot) → ((e : Spot) → r ≡ Err e → s ≡ Err e) → Through res h → Gives {A = A} (Err h) r → Gives {A = B} res s
halted h (Ok b) r s f t g = absurd t
halted (halts.At place) (Err e) r s f t g = rw t (f (seen place) g)
halted halts.OutOfMemory (Err e) r s f t g = rw t tt

pub halted_keys : {B : Type 0} (h : Halt) (res : Result B Halt) (o : Option Spot) (s : Result B Spot) → ((e : Spot) → o ≡ Some e → s ≡ Err e) → Through res h → Keeps (Err h) o → Gives {A = B} res s
halted_keys h (Ok b) o s f t g = absurd t
halted_keys (halts.At place) (Err e) o s f t g = rw t (f (seen place) g)
halted_keys halts.OutOfMemory (Err e) o s f t g = rw t tt

pub stopped : {A B : Type 0} (h : Stop) (res : Result B Stop) (r : Result A Where) (s : Result B Where) → ((e : Where) → r ≡ Err e → s ≡ Err e) → Through res h → Answers {A = A} (Err h) r → Answers {A = B} res s
stopped h (Ok b) r s f t g = absurd t
stopped (stops.At site) (Err e) r s f t g = rw t (f (stands site) g)
stopped stops.OutOfMemory (Err e) r s f t g = rw t tt

pub stopped_keys : {B : Type 0} (h : Stop) (res : Result B Stop) (o : Option Where) (s : Result B Where) → ((e : Where) → o ≡ Some e → s ≡ Err e) → Through res h → KeepsAll (Err h) o → Answers {A = B} res s
stopped_keys h (Ok b) o s f t g = absurd t
stopped_keys (stops.At site) (Err e) o s f t g = rw t (f (stands site) g)
stopped_keys stops.OutOfMemory (Err e) o s f t g = rw t tt

pub stopped_at : {B : Type 0} (k : List ℕ) (h : Stop) (s : Result B Where) → s ≡ Err (key_of k) → StopsAt k h → Answers {A = B} (Err h) s
stopped_at k (stops.At site) s e g = e ∙ ap Err (sym g)
stopped_at k stops.OutOfMemory s e g = g

-- ---- a client

abbrev program_of : Data → Result (List ℕ) Spot
program_of d = or_fault (key (codes "program")) (program_in (member_at (codes "program") d))

abbrev group_of : Data → Result ℕ Spot
group_of d = or_fault (key (codes "group")) (group_in (member_at (codes "group") d))

abbrev steps_of : (Data → Option Step) → Data → Result (List Step) Spot
steps_of read d = calls_in read (member_at (codes "calls") d)

pub script_keys : (read : Data → Option Step) (d : Data) (e : Spot) → keys_spot client_keys d ≡ Some e → script_in read d ≡ Err e
unfolding script_in
script_keys read d e p = rw p refl

pub script_program : (read : Data → Option Step) (d : Data) (e : Spot) → keys_spot client_keys d ≡ None → program_of d ≡ Err e → script_in read d ≡ Err e
unfolding script_in
script_program read d e k p = rw (k, p) refl

pub script_group : (read : Data → Option Step) (d : Data) (us : List ℕ) (e : Spot) → keys_spot client_keys d ≡ None → program_of d ≡ Ok us → group_of d ≡ Err e → script_in read d ≡ Err e
unfolding script_in
script_group read d us e k p g = rw (k, p, g) refl

pub script_steps : (read : Data → Option Step) (d : Data) (us : List ℕ) (n : ℕ) (e : Spot) → keys_spot client_keys d ≡ None → program_of d ≡ Ok us → group_of d ≡ Ok n → steps_of read d ≡ Err e → script_in read d ≡ Err e
unfolding script_in
script_steps read d us n e k p g s = rw (k, p, g, s) refl

pub script_ok : (read : Data → Option Step) (d : Data) (us : List ℕ) (n : ℕ) (steps : List Step) → keys_spot client_keys d ≡ None → program_of d ≡ Ok us → group_of d ≡ Ok n → steps_of read d ≡ Ok steps → script_in read d ≡ Ok (record { program = us; group = n; steps = steps })
unfolding script_in
script_ok read d us n steps k p g s = rw (k, p, g, s) refl

-- ---- a document

abbrev version_at : Data → Result Version Where
version_at d = or_fault (key_of (codes "version")) (version_in (member_at (codes "version") d))

abbrev size_at : Data → Result Size Where
size_at d = or_fault (key_of (codes "size")) (size_in (member_at (codes "size") d))

abbrev scripts_at : (Version → Data → Option Step) → Version → Data → Result (List Script) Where
scripts_at read v d = clients_in read v (member_at (codes "clients") d)

abbrev top_where : Data → Option Where
top_where d = option_map as_where (keys_spot top_keys d)

pub session_keys : (read : Version → Data → Option Step) (d : Data) (e : Where) → top_where d ≡ Some e → session_in read d ≡ Err e
unfolding session_in
session_keys read d e p = rw p refl

pub session_version : (read : Version → Data → Option Step) (d : Data) (e : Where) → top_where d ≡ None → version_at d ≡ Err e → session_in read d ≡ Err e
unfolding session_in
session_version read d e k p = rw (k, p) refl

pub session_size : (read : Version → Data → Option Step) (d : Data) (v : Version) (e : Where) → top_where d ≡ None → version_at d ≡ Ok v → size_at d ≡ Err e → session_in read d ≡ Err e
unfolding session_in
session_size read d v e k p s = rw (k, p, s) refl

pub session_clients : (read : Version → Data → Option Step) (d : Data) (v : Version) (size : Size) (e : Where) → top_where d ≡ None → version_at d ≡ Ok v → size_at d ≡ Ok size → scripts_at read v d ≡ Err e → session_in read d ≡ Err e
unfolding session_in
session_clients read d v size e k p s c = rw (k, p, s, c) refl

pub session_whole : (read : Version → Data → Option Step) (d : Data) (v : Version) (size : Size) (scripts : List Script) → top_where d ≡ None → version_at d ≡ Ok v → size_at d ≡ Ok size → scripts_at read v d ≡ Ok scripts → session_in read d ≡ or_fault (key_of (codes "clients")) (session_of size scripts)
unfolding session_in
session_whole read d v size scripts k p s c = rw (k, p, s, c) (last_test read v (member_at (codes "size") d) (member_at (codes "clients") d) size scripts s c)
