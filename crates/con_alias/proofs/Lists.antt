-- What a map from programs to lists says of the table that it holds.
use Rattle.std.proofs.Common.{◌≡◌, ℕ, ◌<◌, ◌||◌, Bool, true, false, cond, nat_lt, List, [], ◌∷◌, ◌++◌, Option, Some, None, is_some, Result, Ok, Err, Vec, IsTrue, max, refl, sym, ap, ◌∙◌, true≢false, arith, OnErr, Bor, MatchOption}
use Rattle.std.specs.Option.{option_copied}
use Rattle.std.proofs.lemmas.Bool.{ltb-true, lt-ltb}
use Rattle.std.specs.declared.alloc.Global.{Global}
use Rattle.std.specs.Cmp.{nat_eq_equiv}
use Rattle.std.specs.Cmp.Lexicographic.{lists_equiv}
use Rattle.std.specs.Map.{lookup, set_value}
use Rattle.con_units.specs.Words.Units.{same_units}
use Rattle.con_alias.specs.Aliases.{Entry, AliasList, entries_in, changed_in}
use Rattle.con_alias.specs.Words.Aliases.{is_known}
use Rattle.con_alias.specs.Room.{ListPlaces, Places, Listed, listed, lists_of, places_of, places_for, has_room}

-- what such a map holds
abbrev pub Lists : Type 0
Lists = List (Vec ℕ Global × Listed)

-- how a program is looked up
abbrev pub sought : List ℕ → Vec ℕ Global → Bool
sought p k = same_units p k.items

abbrev pub places : Lists → ℕ → Places
places es spare = record { lists = places_of es; spare = spare }

units_symm : (a b : List ℕ) → same_units a b ≡ same_units b a
units_symm = (lists_equiv nat_eq_equiv).symm

none_is_some : {A : Type 0} {x : A} → None ≡ Some x → ⊥
none_is_some e = true≢false (sym (ap is_some e))

pub same_some : {X : Type 0} {x y : X} → Some x ≡ Some y → x ≡ y
same_some h = cc

known_step : (b known : Bool) (l : Listed) (o : Option Listed) → known ≡ is_some o → (b || known) ≡ is_some (cond b (Some l) o)
known_step true known l o h = refl
known_step false known l o h = h

pub known-lists : (es : Lists) (p : List ℕ) → is_known (lists_of es) p ≡ is_some (lookup (sought p) es)
known-lists [] p = refl
known-lists (e ∷ es) p =
    ap (λ b. b || is_known (lists_of es) p) (units_symm e.0.items p)
    ∙ known_step (same_units p e.0.items) (is_known (lists_of es) p) e.1 (lookup (sought p) es) (known-lists es p)

abbrev entries_by : Option Listed → List Entry
entries_by None = []
entries_by (Some l) = l.entries

entries_step : (b : Bool) (l : Listed) (o : Option Listed) (r : List Entry) → r ≡ entries_by o → cond b l.entries r ≡ entries_by (cond b (Some l) o)
entries_step true l o r h = refl
entries_step false l o r h = h

entries-lists : (es : Lists) (p : List ℕ) → entries_in (lists_of es) p ≡ entries_by (lookup (sought p) es)
entries-lists [] p = refl
entries-lists (e ∷ es) p =
    ap (λ b. cond b e.1.entries (entries_in (lists_of es) p)) (units_symm e.0.items p)
    ∙ entries_step (same_units p e.0.items) e.1 (lookup (sought p) es) (entries_in (lists_of es) p) (entries-lists es p)

-- the aliases of a program are those of its list
pub entries-found : (es : Lists) (p : List ℕ) (l : Listed) → lookup (sought p) es ≡ Some l → entries_in (lists_of es) p ≡ l.entries
entries-found es p l h = entries-lists es p ∙ ap entries_by h

pub entries-none : (es : Lists) (p : List ℕ) → lookup (sought p) es ≡ None → entries_in (lists_of es) p ≡ []
entries-none es p h = entries-lists es p ∙ ap entries_by h

abbrev spare_by : ℕ → Option Listed → ℕ
spare_by spare None = spare
spare_by spare (Some l) = l.spare

spare_step : (b : Bool) (spare : ℕ) (l : Listed) (o : Option Listed) (r : ℕ) → r ≡ spare_by spare o → cond b l.spare r ≡ spare_by spare (cond b (Some l) o)
spare_step true spare l o r h = refl
spare_step false spare l o r h = h

spare-lists : (es : Lists) (spare : ℕ) (p : List ℕ) → places_for (places_of es) spare p ≡ spare_by spare (lookup (sought p) es)
spare-lists [] spare p = refl
spare-lists (e ∷ es) spare p =
    ap (λ b. cond b e.1.spare (places_for (places_of es) spare p)) (units_symm e.0.items p)
    ∙ spare_step (same_units p e.0.items) spare e.1 (lookup (sought p) es) (places_for (places_of es) spare p) (spare-lists es spare p)

pub known-found : (es : Lists) (p : List ℕ) (l : Listed) → lookup (sought p) es ≡ Some l → is_known (lists_of es) p ≡ true
known-found es p l h = known-lists es p ∙ ap is_some h

pub known-none : (es : Lists) (p : List ℕ) → lookup (sought p) es ≡ None → is_known (lists_of es) p ≡ false
known-none es p h = known-lists es p ∙ ap is_some h

-- the room is in the program's list, or for one
room-found-is : (es : Lists) (spare : ℕ) (p : List ℕ) (l : Listed) → lookup (sought p) es ≡ Some l → has_room (places es spare) p ≡ nat_lt 0 l.spare
room-found-is es spare p l h = ap (nat_lt 0) (spare-lists es spare p ∙ ap (spare_by spare) h)

room-none-is : (es : Lists) (spare : ℕ) (p : List ℕ) → lookup (sought p) es ≡ None → has_room (places es spare) p ≡ nat_lt 0 spare
room-none-is es spare p h = ap (nat_lt 0) (spare-lists es spare p ∙ ap (spare_by spare) h)

pub room-found : (es : Lists) (spare : ℕ) (p : List ℕ) (l : Listed) → lookup (sought p) es ≡ Some l → IsTrue (has_room (places es spare) p) → 0 < l.spare
room-found es spare p l h has = ltb-true 0 l.spare (sym (room-found-is es spare p l h) ∙ has)

pub room-none : (es : Lists) (spare : ℕ) (p : List ℕ) → lookup (sought p) es ≡ None → IsTrue (has_room (places es spare) p) → 0 < spare
room-none es spare p h has = ltb-true 0 spare (sym (room-none-is es spare p h) ∙ has)

abbrev with_entries : List ℕ → List Entry → AliasList
with_entries program entries = record { program = program; entries = entries }

changed_step : (b : Bool) (f : List Entry → List Entry) (e : Vec ℕ Global × Listed) (es xs : Lists) (was w : Listed) (o : Option Listed) (r : List AliasList) → cond b (Some e.1) o ≡ Some was
    → w.entries ≡ f was.entries → (o ≡ Some was → lists_of xs ≡ r)
    → lists_of (cond b ((e.0, w) ∷ es) (e ∷ xs)) ≡ cond b (with_entries e.0.items (f e.1.entries) ∷ lists_of es) (listed e.0.items e.1 ∷ r)
changed_step true f e es xs was w o r h is rest =
    let same : e.1 ≡ was = same_some h in
    ap (λ l. with_entries e.0.items l ∷ lists_of es) (is ∙ ap (λ (l : Listed). f l.entries) (sym same))
changed_step false f e es xs was w o r h is rest = ap (λ l. listed e.0.items e.1 ∷ l) (rest h)

-- a list that was written in its place is a change of the program's list
pub changed-lists : (f : List Entry → List Entry) (es : Lists) (p : List ℕ) (was w : Listed) → lookup (sought p) es ≡ Some was → w.entries ≡ f was.entries
    → lists_of (set_value (sought p) es w) ≡ changed_in f (lists_of es) p
changed-lists f [] p was w h is = absurd (none_is_some h)
changed-lists f (e ∷ es) p was w h is =
    changed_step (same_units p e.0.items) f e es (set_value (sought p) es w) was w (lookup (sought p) es) (changed_in f (lists_of es) p) h is (λ k. changed-lists f es p was w k is)
    ∙ ap (λ b. cond b (with_entries e.0.items (f e.1.entries) ∷ lists_of es) (listed e.0.items e.1 ∷ changed_in f (lists_of es) p)) (units_symm p e.0.items)

unchanged_step : (b : Bool) (l : Listed) (h g : AliasList) (hs r : List AliasList) (o : Option Listed) → cond b (Some l) o ≡ None → (o ≡ None → r ≡ hs) → cond b (g ∷ hs) (h ∷ r) ≡ h ∷ hs
unchanged_step true l h g hs r o is rest = absurd (none_is_some (sym is))
unchanged_step false l h g hs r o is rest = ap (λ l. h ∷ l) (rest is)

-- where there is none, nothing changes
pub changed-none : (f : List Entry → List Entry) (es : Lists) (p : List ℕ) → lookup (sought p) es ≡ None → changed_in f (lists_of es) p ≡ lists_of es
changed-none f [] p h = refl
changed-none f (e ∷ es) p h =
    ap (λ b. cond b (with_entries e.0.items (f e.1.entries) ∷ lists_of es) (listed e.0.items e.1 ∷ changed_in f (lists_of es) p)) (units_symm e.0.items p)
    ∙ unchanged_step (same_units p e.0.items) e.1 (listed e.0.items e.1) (with_entries e.0.items (f e.1.entries)) (lists_of es) (changed_in f (lists_of es) p) (lookup (sought p) es) h (changed-none f es p)

places_step : (b : Bool) (e : Vec ℕ Global × Listed) (es xs : Lists) (was w : Listed) (o : Option Listed) (r : List ListPlaces) → cond b (Some e.1) o ≡ Some was
    → w.spare ≡ was.spare → (o ≡ Some was → places_of xs ≡ r)
    → places_of (cond b ((e.0, w) ∷ es) (e ∷ xs)) ≡ (let l : ListPlaces = record { program = e.0.items; spare = e.1.spare } in cond b (l ∷ places_of es) (l ∷ r))
places_step true e es xs was w o r h is rest =
    let same : e.1 ≡ was = same_some h in
    ap (λ n. (let l : ListPlaces = record { program = e.0.items; spare = n } in l) ∷ places_of es) (is ∙ ap (λ (l : Listed). l.spare) (sym same))
places_step false e es xs was w o r h is rest = ap (λ l. (let l : ListPlaces = record { program = e.0.items; spare = e.1.spare } in l) ∷ l) (rest h)

same_cond : {A : Type 0} (b : Bool) (x : A) → cond b x x ≡ x
same_cond true x = refl
same_cond false x = refl

-- a list that was written with as much memory leaves the places as they are
pub places-same : (es : Lists) (p : List ℕ) (was w : Listed) → lookup (sought p) es ≡ Some was → w.spare ≡ was.spare → places_of (set_value (sought p) es w) ≡ places_of es
places-same [] p was w h is = absurd (none_is_some h)
places-same (e ∷ es) p was w h is =
    places_step (same_units p e.0.items) e es (set_value (sought p) es w) was w (lookup (sought p) es) (places_of es) h is (λ k. places-same es p was w k is)
    ∙ same_cond (same_units p e.0.items) (places_of (e ∷ es))

-- a new list goes last
pub pushed-lists : (es : Lists) (k : Vec ℕ Global) (l : Listed) → lists_of (es ++ (k, l) ∷ []) ≡ lists_of es ++ listed k.items l ∷ []
pushed-lists [] k l = refl
pushed-lists (e ∷ es) k l = ap (λ ls. listed e.0.items e.1 ∷ ls) (pushed-lists es k l)

-- a list that is written again is what it was
same_step : (b : Bool) (e : Vec ℕ Global × Listed) (es xs : Lists) (was : Listed) (o : Option Listed) → cond b (Some e.1) o ≡ Some was → (o ≡ Some was → xs ≡ es)
    → cond b ((e.0, was) ∷ es) (e ∷ xs) ≡ e ∷ es
same_step true e es xs was o h rest =
    let same : e.1 ≡ was = same_some h in
    ap (λ (l : Listed). (e.0, l) ∷ es) (sym same)
same_step false e es xs was o h rest = ap (λ l. e ∷ l) (rest h)

pub written-same : (es : Lists) (p : List ℕ) (was : Listed) → lookup (sought p) es ≡ Some was → set_value (sought p) es was ≡ es
written-same [] p was h = absurd (none_is_some h)
written-same (e ∷ es) p was h = same_step (same_units p e.0.items) e es (set_value (sought p) es was) was (lookup (sought p) es) h (written-same es p was)

read_step : (b : Bool) (e : Vec ℕ Global × Listed) (es xs : Lists) (was w : Listed) (o r : Option Listed) → cond b (Some e.1) o ≡ Some was → (o ≡ Some was → r ≡ Some w)
    → cond b (Some w) r ≡ Some w
read_step true e es xs was w o r h rest = refl
read_step false e es xs was w o r h rest = rest h

written_step : (b : Bool) (p : List ℕ) (e : Vec ℕ Global × Listed) (es xs : Lists) (w : Listed) → same_units p e.0.items ≡ b → lookup (sought p) (cond b ((e.0, w) ∷ es) (e ∷ xs)) ≡ cond b (Some w) (lookup (sought p) xs)
written_step true p e es xs w is = ap (λ b. cond b (Some w) (lookup (sought p) es)) is
written_step false p e es xs w is = ap (λ b. cond b (Some e.1) (lookup (sought p) xs)) is

-- and what was written is found
pub written-found : (es : Lists) (p : List ℕ) (was w : Listed) → lookup (sought p) es ≡ Some was → lookup (sought p) (set_value (sought p) es w) ≡ Some w
written-found [] p was w h = absurd (none_is_some h)
written-found (e ∷ es) p was w h =
    written_step (same_units p e.0.items) p e es (set_value (sought p) es w) w refl
    ∙ read_step (same_units p e.0.items) e es (set_value (sought p) es w) was w (lookup (sought p) es) (lookup (sought p) (set_value (sought p) es w)) h (λ k. written-found es p was w k)

pub one_more : (n : ℕ) → IsTrue (nat_lt 0 (max n 1))
one_more n = lt-ltb 0 (max n 1) (omega arith)

pub has-found : (es xs : Lists) (spare : ℕ) (p : List ℕ) (was w : Listed) → lookup (sought p) es ≡ Some was → xs ≡ set_value (sought p) es w → w.spare ≡ max was.spare 1
    → IsTrue (has_room (places xs spare) p)
has-found es xs spare p was w h is say =
    let there : lookup (sought p) xs ≡ Some w = ap (lookup (sought p)) is ∙ written-found es p was w h in
    room-found-is xs spare p w there ∙ ap (nat_lt 0) say ∙ one_more was.spare

pub has-none : (es : Lists) (spare : ℕ) (p : List ℕ) → lookup (sought p) es ≡ None → IsTrue (has_room (places es (max spare 1)) p)
has-none es spare p h = room-none-is es (max spare 1) p h ∙ one_more spare

kept_step : (b : Bool) (l : AliasList) (ls r : List AliasList) → r ≡ ls → cond b (l ∷ ls) (l ∷ r) ≡ l ∷ ls
kept_step true l ls r h = refl
kept_step false l ls r h = ap (λ rs. l ∷ rs) h

unchanged_in : (ls : List AliasList) (p : List ℕ) → changed_in (λ x. x) ls p ≡ ls
unchanged_in [] p = refl
unchanged_in (l ∷ ls) p = kept_step (same_units l.program p) l ls (changed_in (λ x. x) ls p) (unchanged_in ls p)

-- a list that was written with the same aliases leaves all aliases as they are
pub lists-same : (es : Lists) (p : List ℕ) (was w : Listed) → lookup (sought p) es ≡ Some was → w.entries ≡ was.entries → lists_of (set_value (sought p) es w) ≡ lists_of es
lists-same es p was w h is = changed-lists (λ x. x) es p was w h is ∙ unchanged_in (lists_of es) p

pub on_err : {X E P : Type 0} (r : Result X E) → P → OnErr r P
on_err (Ok x) h = tt
on_err (Err e) h = h

-- a list that was lent has the program's aliases, and where none was, there are none
pub lent-lists : (es : Lists) (p : List ℕ) (o : Option (Bor Listed)) → option_copied o ≡ lookup (sought p) es
    → MatchOption o (entries_in (lists_of es) p ≡ []) (λ l. l.now.entries ≡ entries_in (lists_of es) p)
lent-lists es p None h = entries-none es p (sym h)
lent-lists es p (Some l) h = sym (entries-found es p l.now (sym h))
