-- The grammar of texts with titles gives the same items, and the text of a title.
use Rattle.std.proofs.Common.{◌≡◌, ℕ, Bool, true, false, not, cond, ◌==◌, ◌&&◌, ◌⊎◌, inl, inr, List, [], ◌∷◌, ◌++◌, map, Option, Some, None, refl, sym, ap, ◌∙◌}
use Rattle.std.specs.Prelude.{option_to_list}
use Rattle.con_units.specs.Stored.{is_control}
use Rattle.con_units.specs.Split.{Split, next, begun}
use Rattle.con_units.specs.Words.Split.{begun_again, begun_after, ended, items_or_none}
use Rattle.con_vtgram.specs.Text.{is_front, whole, kept, grammar, opens_string, stays, skip_while, escapes, is_intermediate, is_acting, ends_escape, alone, nested_ends}
use Rattle.con_vtgram.specs.Spoken.{Spoken, spoken, spoken_by, voiced, title_in}
use Rattle.con_vtgram.specs.TitleKept.{is_title_item}
use Rattle.con_vtgram.specs.declared.item.Item.{Item}
use Rattle.con_vtgram.specs.declared.item.Item.TheVariants as items

-- no title is among the items
abbrev AreQuiet : List Item → Type 0
AreQuiet is = (s t : List ℕ) → map (spoken_by s) is ≡ map (spoken_by t) is

abbrev IsQuietly : Option (List Item) → Type 0
IsQuietly None = Unit {0}
IsQuietly (Some is) = AreQuiet is

alone_quiet : (u : ℕ) → AreQuiet (alone u)
alone_quiet u = by_tests (is_acting u) (is_control u)
  where
    by_tests : (a b : Bool) → AreQuiet (cond a (items.Control u ∷ []) (cond b [] (items.Print u ∷ [])))
    by_tests true b = λ s t. refl
    by_tests false true = λ s t. refl
    by_tests false false = λ s t. refl

quietly_if : (b : Bool) (x y : Option (List Item)) → IsQuietly x → IsQuietly y → IsQuietly (cond b x y)
quietly_if true x y h k = h
quietly_if false x y h k = k

one_quiet : (u : ℕ) → IsQuietly (whole (u ∷ []))
unfolding whole
one_quiet u = quietly_if (u == 0x1B) None (Some (alone u)) tt (alone_quiet u)

-- a sequence of two units is no title
two_quiet : (x u : ℕ) → IsQuietly (whole (x ∷ u ∷ []))
unfolding whole
two_quiet x u = quietly_if (x == 0x1B) _ _
    (quietly_if (u == 0x5B) _ _ tt
    (nested (is_intermediate u) _
    (quietly_if (opens_string u) _ _ tt
    (quietly_if (ends_escape u && not (opens_string u)) (Some (items.Escape u ∷ [])) None (λ s t. refl) tt)))) tt
  where
    nested : (b : Bool) (y : Option (List Item)) → IsQuietly y → IsQuietly (cond b (nested_ends (cond b (u ∷ []) []) (cond b [] (u ∷ []))) y)
    nested true y h = tt
    nested false y h = h

voiced_items : (units t : List ℕ) (w : Option (List Item)) → IsQuietly w → items_or_none (voiced units w) ≡ map (spoken_by t) (items_or_none w)
voiced_items units t None h = refl
voiced_items units t (Some is) h = h (title_in units) t

-- the same items, and the same tail
pub record Voices (t : List ℕ) (s : Split Spoken) (plain : Split Item) : Type 0 where
  pub items : s.items ≡ map (spoken_by t) plain.items
  pub tail : s.tail ≡ plain.tail

voices_if : (b : Bool) (t rest : List ℕ) (s : Split Spoken) (plain : Split Item) → Voices t s plain → Voices t (cond b (record { items = []; tail = rest }) s) (cond b (record { items = []; tail = rest }) plain)
voices_if true t rest s plain h = record { items = refl; tail = refl }
voices_if false t rest s plain h = h

begun_voices : (t : List ℕ) (u : ℕ) → Voices t (begun spoken u) (begun grammar u)
begun_voices t u = voices_if (is_front (u ∷ [])) t (u ∷ []) _ _ (record { items = voiced_items (u ∷ []) t (whole (u ∷ [])) (one_quiet u); tail = refl })

again_voices : (t units : List ℕ) (u : ℕ) (w : Option (List Item)) → IsQuietly w → Voices t (begun_again spoken u (voiced units w)) (begun_again grammar u w)
again_voices t units u None h = begun_voices t u
again_voices t units u (Some is) h = record { items = h (title_in units) t; tail = refl }

-- at most one unit begins the next sequence
abbrev IsShort : List ℕ → Type 0
IsShort xs = (xs ≡ []) ⊎ ((x : ℕ) × (xs ≡ x ∷ []))

kept_short : (front : List ℕ) → IsShort (kept front)
unfolding kept
kept_short [] = inl refl
kept_short (e ∷ []) = inl refl
kept_short (e ∷ u ∷ us) = by_test (opens_string u) (skip_while stays us)
  where
    by_test : (b : Bool) (xs : List ℕ) → IsShort (cond b (escapes xs) [])
    by_test true [] = inl refl
    by_test true (x ∷ xs) = inr (x, refl)
    by_test false xs = inl refl

after_voices : (t ks : List ℕ) (u : ℕ) → IsShort ks → Voices t (begun_after spoken ks u) (begun_after grammar ks u)
after_voices t ks u short = elim short [
  | inl none ↦ rw none (begun_voices t u)
  | inr one ↦ rw one.1 (voices_if (is_front (one.0 ∷ u ∷ [])) t (one.0 ∷ u ∷ []) _ _ (again_voices t (one.0 ∷ u ∷ []) u (whole (one.0 ∷ u ∷ [])) (two_quiet one.0 u)))
]

ended_voices : (t front : List ℕ) (u : ℕ) (units : List ℕ) (w : Option (List Item)) → ((is : List Item) → w ≡ Some is → map (spoken_by (title_in units)) is ≡ map (spoken_by t) is) → Voices t (ended spoken front u (voiced units w)) (ended grammar front u w)
ended_voices t front u units None h = let v = after_voices t (kept front) u (kept_short front) in record { items = v.items; tail = v.tail }
ended_voices t front u units (Some is) h = record { items = h is refl; tail = refl }

pub next_voices : (t tail : List ℕ) (u : ℕ) → t ≡ title_in (tail ++ u ∷ []) → Voices t (next spoken tail u) (next grammar tail u)
unfolding next
next_voices t [] u e = begun_voices t u
next_voices t (v ∷ front) u e = voices_if (is_front (v ∷ front ++ u ∷ [])) t (v ∷ front ++ u ∷ []) _ _
    (ended_voices t (v ∷ front) u (v ∷ front ++ u ∷ []) (whole (v ∷ front ++ u ∷ [])) (λ is _. ap (λ s. map (spoken_by s) is) (sym e)))

pub next_tail : (tail : List ℕ) (u : ℕ) → (next spoken tail u).tail ≡ (next grammar tail u).tail
next_tail tail u = (next_voices (title_in (tail ++ u ∷ [])) tail u refl).tail

-- an item that is no title has no text
quiet_item : (item : Option Item) (s t : List ℕ) → is_title_item item ≡ false → map (spoken_by s) (option_to_list item) ≡ map (spoken_by t) (option_to_list item)
quiet_item None s t h = refl
quiet_item (Some (items.Print u)) s t h = refl
quiet_item (Some (items.Control u)) s t h = refl
quiet_item (Some (items.Escape u)) s t h = refl
quiet_item (Some (items.Charset u)) s t h = refl
quiet_item (Some (items.Csi c)) s t h = refl
quiet_item (Some items.Title) s t h = cc

pub next_items : (item : Option Item) (t tail : List ℕ) (u : ℕ) → option_to_list item ≡ (next grammar tail u).items → (is_title_item item ≡ true → t ≡ title_in (tail ++ u ∷ [])) → map (spoken_by t) (option_to_list item) ≡ (next spoken tail u).items
next_items item t tail u e says = by_kind (is_title_item item) refl ∙ ap (map (spoken_by (title_in (tail ++ u ∷ [])))) e ∙ sym (next_voices (title_in (tail ++ u ∷ [])) tail u refl).items
  where
    by_kind : (b : Bool) → is_title_item item ≡ b → map (spoken_by t) (option_to_list item) ≡ map (spoken_by (title_in (tail ++ u ∷ []))) (option_to_list item)
    by_kind true h = ap (λ s. map (spoken_by s) (option_to_list item)) (says h)
    by_kind false h = quiet_item item t (title_in (tail ++ u ∷ [])) h
