-- What all aliases become, and what the calls answer.
use Rattle.std.proofs.Common.{◌≡◌, ℕ, Bool, true, false, cond, not, List, [], ◌∷◌, ◌++◌, Option, Some, None, is_some, Result, Ok, Err, Vec, refl, sym, ap, ◌∙◌}
use Rattle.std.specs.declared.alloc.Global.{Global}
use Rattle.std.specs.Map.{lookup, set_value}
use Rattle.std.specs.Prelude.{remove}
use Rattle.std.specs.List.{position_or_len}
use Rattle.con_units.specs.declared.code.Code.{Code}
use Rattle.con_units.specs.declared.code.Code.TheVariants as code
use Rattle.con_alias.proofs.Removal.{removed-first}
use Rattle.con_alias.specs.Aliases.{Entry, AliasList, same_name, find_entry, is_full, with_entry, entries_in, changed_in, is_bad, is_no_source, alias_at, added, removed, add_answer, remove_answer}
use Rattle.con_alias.specs.Words.Aliases.{entry_of, empty_list, without_entry, is_known, is_over}
use Rattle.con_alias.specs.Room.{AliasTable, Listed, Prepared, listed, lists_of, places_of, room_for}
use Rattle.con_alias.proofs.Lists.{Lists, sought, places, known-none, entries-found, entries-none, changed-lists, changed-none, same_some, pushed-lists, places-same}

abbrev pub table : Lists → ℕ → AliasTable
table es spare = record { programs = lists_of es; places = places es spare }

abbrev with_lists : AliasTable → List AliasList → AliasTable
with_lists s l = record s { programs = l }

-- an alias of a program went
pub removed-found : (es xs : Lists) (spare : ℕ) (p source : List ℕ) (was w : Listed) → is_no_source source ≡ false → lookup (sought p) es ≡ Some was → xs ≡ set_value (sought p) es w
    → w ≡ (let l : Listed = record was { entries = without_entry was.entries source } in l) → table xs spare ≡ with_lists (table es spare) (removed (lists_of es) p source)
removed-found es xs spare p source was w good h is say =
    let f : List Entry → List Entry = λ es. remove es (position_or_len (λ e. same_name e.source source) es) in
    let lists : lists_of xs ≡ removed (lists_of es) p source =
    ap lists_of is ∙ changed-lists f es p was w h (ap (λ (l : Listed). l.entries) say ∙ sym (removed-first was.entries source)) ∙ sym (ap (λ (b : Bool). cond b (lists_of es) (changed_in f (lists_of es) p)) good) in
    let kept : places_of xs ≡ places_of es = ap places_of is ∙ places-same es p was w h (ap (λ (l : Listed). l.spare) say) in
    ap (λ ls. let t : AliasTable = record { programs = ls; places = places xs spare } in t) lists
    ∙ ap (λ ps. let t : AliasTable = record { programs = removed (lists_of es) p source; places = record { lists = ps; spare = spare } } in t) kept

pub removed-none : (es : Lists) (spare : ℕ) (p source : List ℕ) → is_no_source source ≡ false → lookup (sought p) es ≡ None → table es spare ≡ with_lists (table es spare) (removed (lists_of es) p source)
removed-none es spare p source good h =
    let f : List Entry → List Entry = λ es. remove es (position_or_len (λ e. same_name e.source source) es) in
    ap (with_lists (table es spare)) (sym (changed-none f es p h) ∙ sym (ap (λ (b : Bool). cond b (lists_of es) (changed_in f (lists_of es) p)) good))

-- the alias that a source names
pub alias_at-found : (es : Lists) (p source : List ℕ) (l : Listed) → is_no_source source ≡ false → lookup (sought p) es ≡ Some l → alias_at (lists_of es) p source ≡ find_entry l.entries source
alias_at-found es p source l good h = ap (λ b. cond b None (find_entry (entries_in (lists_of es) p) source)) good ∙ ap (λ ls. find_entry ls source) (entries-found es p l h)

pub alias_at-none : (es : Lists) (p source : List ℕ) → is_no_source source ≡ false → lookup (sought p) es ≡ None → alias_at (lists_of es) p source ≡ None
alias_at-none es p source good h = ap (λ b. cond b None (find_entry (entries_in (lists_of es) p) source)) good ∙ ap (λ ls. find_entry ls source) (entries-none es p h)

abbrev answered : Bool → Code → Result (Unit {0}) Code
answered ok why = cond ok (Ok tt) (Err why)

pub remove_answer-found : (es : Lists) (p source : List ℕ) (l : Listed) (b : Bool) → is_no_source source ≡ false → lookup (sought p) es ≡ Some l
    → b ≡ is_some (find_entry l.entries source) → answered b code.NoAlias ≡ remove_answer (lists_of es) p source
remove_answer-found es p source l b good h is = ap (λ (x : Bool). answered x code.NoAlias) (is ∙ ap is_some (sym (alias_at-found es p source l good h)))

pub remove_answer-none : (es : Lists) (p source : List ℕ) → is_no_source source ≡ false → lookup (sought p) es ≡ None → answered false code.NoAlias ≡ remove_answer (lists_of es) p source
remove_answer-none es p source good h = ap (λ (o : Option Entry). answered (is_some o) code.NoAlias) (sym (alias_at-none es p source good h))

-- what the room holds
room_for-good : (ls : List AliasList) (p source target : List ℕ) → is_bad p source target ≡ false
    → room_for ls p source target ≡ (let r : Prepared = record { new = Some (entry_of source target); list = cond (is_known ls p) None (Some (empty_list p)) } in r)
room_for-good ls p source target good =
    ap (λ (b : Bool). cond b (let r : Prepared = record { new = None; list = None } in r)
    (let r : Prepared = record { new = Some (entry_of source target); list = cond (is_known ls p) None (Some (empty_list p)) } in r)) good

pub room_for-new : (ls : List AliasList) (p source target : List ℕ) (room : Prepared) (new : Entry) → is_bad p source target ≡ false → room ≡ room_for ls p source target → room.new ≡ Some new → new ≡ entry_of source target
room_for-new ls p source target room new good is has = same_some (sym has ∙ ap (λ (r : Prepared). r.new) (is ∙ room_for-good ls p source target good))

pub room_for-list : (ls : List AliasList) (p source target : List ℕ) (room : Prepared) → is_bad p source target ≡ false → is_known ls p ≡ false → room ≡ room_for ls p source target → room.list ≡ Some (empty_list p)
room_for-list ls p source target room good fresh is =
    ap (λ (r : Prepared). r.list) (is ∙ room_for-good ls p source target good) ∙ ap (λ (b : Bool). cond b None (Some (empty_list p))) fresh

abbrev fresh_list : List ℕ → List ℕ → List ℕ → AliasList
fresh_list p source target = record { program = p; entries = with_entry [] (entry_of source target) }

added-is : (b k : Bool) (ls : List AliasList) (p source target : List ℕ) → is_bad p source target ≡ b → is_known ls p ≡ k
    → added ls p source target ≡ cond b ls (cond k (changed_in (λ es. with_entry es (entry_of source target)) ls p) (ls ++ fresh_list p source target ∷ []))
added-is b k ls p source target bad known = rw (bad, known) refl

pub added-found : (es xs : Lists) (p source target : List ℕ) (was w : Listed) (new : Entry) → is_bad p source target ≡ false → is_known (lists_of es) p ≡ true → new ≡ entry_of source target
    → lookup (sought p) es ≡ Some was → xs ≡ set_value (sought p) es w → w.entries ≡ with_entry was.entries new → lists_of xs ≡ added (lists_of es) p source target
added-found es xs p source target was w new good known entry h is say =
    ap lists_of is
    ∙ changed-lists (λ l. with_entry l (entry_of source target)) es p was w h (say ∙ ap (with_entry was.entries) entry)
    ∙ sym (added-is false true (lists_of es) p source target good known)

pub added-none : (es xs : Lists) (p source target : List ℕ) (k : Vec ℕ Global) (list w : Listed) (new : Entry) → is_bad p source target ≡ false → new ≡ entry_of source target
    → lookup (sought p) es ≡ None → xs ≡ es ++ (k, w) ∷ [] → listed k.items list ≡ empty_list p → w.entries ≡ with_entry list.entries new
    → lists_of xs ≡ added (lists_of es) p source target
added-none es xs p source target k list w new good entry h is empty say =
    let named : k.items ≡ p = ap (λ (l : AliasList). l.program) empty in
    let none : list.entries ≡ [] = ap (λ (l : AliasList). l.entries) empty in
    let first : w.entries ≡ with_entry [] (entry_of source target) = say ∙ ap (λ l. with_entry l new) none ∙ ap (with_entry []) entry in
    let last : listed k.items w ≡ fresh_list p source target = ap (λ q. let l : AliasList = record { program = q; entries = w.entries } in l) named ∙ ap (λ x. let l : AliasList = record { program = p; entries = x } in l) first in
    ap lists_of is ∙ pushed-lists es k w ∙ ap (λ l. lists_of es ++ l ∷ []) last ∙ sym (added-is false false (lists_of es) p source target good (known-none es p h))

add_answer-list : (ls : List AliasList) (p source target : List ℕ) (es : List Entry) → is_bad p source target ≡ false → es ≡ entries_in ls p
    → cond (is_full es source) (Err code.Limit) (Ok tt) ≡ add_answer ls p source target
add_answer-list ls p source target es good is =
    ap (λ (l : List Entry). let r : Result (Unit {0}) Code = cond (is_full l source) (Err code.Limit) (Ok tt) in r) is
    ∙ sym (ap (λ (b : Bool). let r : Result (Unit {0}) Code = cond b (Err code.BadArgument) (cond (is_over ls p source) (Err code.Limit) (Ok tt)) in r) good)

turned : (b : Bool) → answered (not b) code.Limit ≡ cond b (Err code.Limit) (Ok tt)
turned true = refl
turned false = refl

pub add_answer-found : (es : Lists) (p source target : List ℕ) (was : Listed) (b : Bool) (new : Entry) → is_bad p source target ≡ false → new ≡ entry_of source target
    → lookup (sought p) es ≡ Some was → b ≡ not (is_full was.entries new.source) → answered b code.Limit ≡ add_answer (lists_of es) p source target
add_answer-found es p source target was b new good entry h is =
    ap (λ (x : Bool). answered x code.Limit) (is ∙ ap (λ (e : Entry). not (is_full was.entries e.source)) entry)
    ∙ turned (is_full was.entries source)
    ∙ add_answer-list (lists_of es) p source target was.entries good (sym (entries-found es p was h))

pub add_answer-none : (es : Lists) (p source target : List ℕ) → is_bad p source target ≡ false → lookup (sought p) es ≡ None
    → (let r : Result (Unit {0}) Code = Ok tt in r) ≡ add_answer (lists_of es) p source target
add_answer-none es p source target good h = add_answer-list (lists_of es) p source target [] good (sym (entries-none es p h))

pub room-known : (ls : List AliasList) (p source target : List ℕ) (new : Entry) → is_bad p source target ≡ false → is_known ls p ≡ true → new ≡ entry_of source target
    → (let r : Prepared = record { new = Some new; list = None } in r) ≡ room_for ls p source target
room-known ls p source target new good known entry =
    ap (λ (e : Entry). let r : Prepared = record { new = Some e; list = None } in r) entry
    ∙ sym (room_for-good ls p source target good ∙ ap (λ (b : Bool). let r : Prepared = record { new = Some (entry_of source target); list = cond b None (Some (empty_list p)) } in r) known)

pub room-fresh : (ls : List AliasList) (p source target : List ℕ) (new : Entry) (list : AliasList) → is_bad p source target ≡ false → is_known ls p ≡ false → new ≡ entry_of source target
    → list ≡ empty_list p → (let r : Prepared = record { new = Some new; list = Some list } in r) ≡ room_for ls p source target
room-fresh ls p source target new list good fresh entry empty =
    ap (λ (e : Entry). let r : Prepared = record { new = Some e; list = Some list } in r) entry
    ∙ ap (λ (l : AliasList). let r : Prepared = record { new = Some (entry_of source target); list = Some l } in r) empty
    ∙ sym (room_for-good ls p source target good ∙ ap (λ (b : Bool). let r : Prepared = record { new = Some (entry_of source target); list = cond b None (Some (empty_list p)) } in r) fresh)
