-- What a map from sources to targets says of the aliases that it holds.
use Rattle.std.proofs.Common.{◌≡◌, ℕ, ◌+◌, ◌≤◌, ◌<◌, ◌&&◌, ◌==◌, nat_le, Bool, true, false, cond, not, List, [], ◌∷◌, length, drop, get_or, slice_get, Option, Some, None, is_some, refl, sym, ap, ◌∙◌, arith}
use Rattle.std.proofs.lemmas.List.{drop_more, length-map, get_or-map}
use Rattle.std.proofs.lemmas.Bool.{le-leb, lt-leb}
use Rattle.std.proofs.lemmas.Option.{get_or_from_slice_get}
use Rattle.std.proofs.Math.ListN.{drop_of_length-le}
use Rattle.std.specs.Option.{option_map}
use Rattle.std.specs.Map.{lookup}
use Rattle.indexmap.specs.IndexMap.{insert_entry, shift_remove_entry}
use Rattle.con_alias.specs.Aliases.{Entry, same_name, folded_unit, find_entry, put_entry, is_full, with_entry}
use Rattle.con_alias.specs.Words.Aliases.{entry_of, without_entry}
use Rattle.con_alias.specs.Room.{entries_of}
use Rattle.con_alias.specs.Hashed.{name_equiv}

-- texts of different lengths are not the same
pub same_name-longer : (a b : List ℕ) → (length a ≡ length b → ⊥) → same_name a b ≡ false
same_name-longer [] [] h = absurd (h refl)
same_name-longer [] (y ∷ ys) h = refl
same_name-longer (x ∷ xs) [] h = refl
same_name-longer (x ∷ xs) (y ∷ ys) h = longer_step (folded_unit x == folded_unit y) (same_name xs ys) (same_name-longer xs ys (λ e. h (omega arith)))
  where
    longer_step : (p q : Bool) → q ≡ false → (p && q) ≡ false
    longer_step true q e = e
    longer_step false q e = refl

-- one place more
pub same_name-more : (a b : List ℕ) (i : ℕ) → i < length a → i < length b → same_name (drop i a) (drop i b) ≡ (folded_unit (get_or a i 0) == folded_unit (get_or b i 0) && same_name (drop (i + 1) a) (drop (i + 1) b))
same_name-more a b i h k = ap (λ (l : List ℕ). same_name l (drop i b)) (drop_more a i 0 h) ∙ ap (λ (l : List ℕ). same_name (get_or a i 0 ∷ drop (i + 1) a) l) (drop_more b i 0 k)

-- at the end they are the same
pub same_name-ended : (a b : List ℕ) (i : ℕ) → length a ≤ i → length b ≤ i → same_name (drop i a) (drop i b) ≡ true
same_name-ended a b i h k = ap (λ (l : List ℕ). same_name l (drop i b)) (drop_of_length-le a h) ∙ ap (λ (l : List ℕ). same_name [] l) (drop_of_length-le b k)

put_step : (b : Bool) (s t u : List ℕ) (es xs : List (List ℕ × List ℕ)) (r : List Entry) → entries_of xs ≡ r
    → entries_of (cond b ((s, t) ∷ es) ((s, u) ∷ xs)) ≡ cond b (entry_of s t ∷ entries_of es) (entry_of s u ∷ r)
put_step true s t u es xs r h = refl
put_step false s t u es xs r h = ap (λ l. entry_of s u ∷ l) h

-- a present source keeps its place and its spelling, and a new one goes last
pub put-entries : (es : List (List ℕ × List ℕ)) (s t : List ℕ) → entries_of (insert_entry same_name es s t) ≡ put_entry (entries_of es) (entry_of s t)
put-entries [] s t = refl
put-entries (e ∷ es) s t =
    ap (λ b. entries_of (cond b ((e.0, t) ∷ es) (e ∷ insert_entry same_name es s t))) (name_equiv.symm s e.0)
    ∙ put_step (same_name e.0 s) e.0 t e.1 es (insert_entry same_name es s t) (put_entry (entries_of es) (entry_of s t)) (put-entries es s t)

find_step : (b : Bool) (e : Entry) (o : Option (List ℕ)) (r : Option Entry) → o ≡ option_map (λ e. e.target) r → cond b (Some e.target) o ≡ option_map (λ e. e.target) (cond b (Some e) r)
find_step true e o r h = refl
find_step false e o r h = h

-- the target that is looked up is that of the source's alias
pub find-entries : (es : List (List ℕ × List ℕ)) (s : List ℕ) → lookup (same_name s) es ≡ option_map (λ e. e.target) (find_entry (entries_of es) s)
find-entries [] s = refl
find-entries (e ∷ es) s =
    ap (λ b. cond b (Some e.1) (lookup (same_name s) es)) (name_equiv.symm s e.0)
    ∙ find_step (same_name e.0 s) (entry_of e.0 e.1) (lookup (same_name s) es) (find_entry (entries_of es) s) (find-entries es s)

some_map : (o : Option Entry) → is_some (option_map (λ e. e.target) o) ≡ is_some o
some_map None = refl
some_map (Some e) = refl

-- so it is there where the alias is
pub known-entries : (es : List (List ℕ × List ℕ)) (s : List ℕ) → is_some (lookup (same_name s) es) ≡ is_some (find_entry (entries_of es) s)
known-entries es s = ap is_some (find-entries es s) ∙ some_map (find_entry (entries_of es) s)

without_step : (b : Bool) (e : List ℕ × List ℕ) (es xs : List (List ℕ × List ℕ)) (r : List Entry) → entries_of xs ≡ r
    → entries_of (cond b es (e ∷ xs)) ≡ cond b (entries_of es) (entry_of e.0 e.1 ∷ r)
without_step true e es xs r h = refl
without_step false e es xs r h = ap (λ l. entry_of e.0 e.1 ∷ l) h

-- the alias of a source goes
pub without-entries : (es : List (List ℕ × List ℕ)) (s : List ℕ) → entries_of (shift_remove_entry (same_name s) es) ≡ without_entry (entries_of es) s
without-entries [] s = refl
without-entries (e ∷ es) s =
    ap (λ b. entries_of (cond b es (e ∷ shift_remove_entry (same_name s) es))) (name_equiv.symm s e.0)
    ∙ without_step (same_name e.0 s) e es (shift_remove_entry (same_name s) es) (without_entry (entries_of es) s) (without-entries es s)

pub length-entries : (es : List (List ℕ × List ℕ)) → length (entries_of es) ≡ length es
length-entries es = length-map es (λ p. entry_of p.0 p.1)

-- the alias at a place
pub at-entries : (es : List (List ℕ × List ℕ)) (k : ℕ) (s t : List ℕ) (d : Entry) → k < length es → slice_get es k ≡ Some (s, t) → get_or (entries_of es) k d ≡ entry_of s t
at-entries es k s t d within is =
    get_or-map (λ p. entry_of p.0 p.1) es k (s, t) d within ∙ ap (λ (p : List ℕ × List ℕ). entry_of p.0 p.1) (get_or_from_slice_get es k (s, t) (s, t) is)

-- 256 are there, and the source is new
pub full-new : (es : List (List ℕ × List ℕ)) (s : List ℕ) → 256 ≤ length es → is_some (lookup (same_name s) es) ≡ false → is_full (entries_of es) s ≡ true
full-new es s many none =
    ap (λ b. b && not (is_some (find_entry (entries_of es) s))) (le-leb 256 (length (entries_of es)) (omega (arith, many, length-entries es)))
    ∙ ap not (sym (known-entries es s) ∙ none)

-- fewer are there
pub full-fewer : (es : List (List ℕ × List ℕ)) (s : List ℕ) → length es < 256 → is_full (entries_of es) s ≡ false
full-fewer es s few = ap (λ b. b && not (is_some (find_entry (entries_of es) s))) (lt-leb 256 (length (entries_of es)) (omega (arith, few, length-entries es)))

-- or the source is known
pub full-known : (es : List (List ℕ × List ℕ)) (s : List ℕ) → is_some (lookup (same_name s) es) ≡ true → is_full (entries_of es) s ≡ false
full-known es s known =
    ap (λ b. nat_le 256 (length (entries_of es)) && not b) (sym (known-entries es s) ∙ known) ∙ and_no (nat_le 256 (length (entries_of es)))
  where
    and_no : (b : Bool) → (b && false) ≡ false
    and_no true = refl
    and_no false = refl

pub with-full : (es : List Entry) (new : Entry) → is_full es new.source ≡ true → es ≡ with_entry es new
with-full es new full = sym (ap (λ (b : Bool). cond b es (put_entry es new)) full)

pub with-placed : (es : List Entry) (new : Entry) → is_full es new.source ≡ false → put_entry es new ≡ with_entry es new
with-placed es new few = sym (ap (λ (b : Bool). cond b es (put_entry es new)) few)
