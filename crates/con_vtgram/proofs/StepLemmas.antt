-- What comes after an unfinished sequence.
use Rattle.std.proofs.Common.{◌≡◌, ◌≢◌, ℕ, Bool, true, false, cond, ◌==◌, ◌||◌, ◌&&◌, List, [], ◌∷◌, ◌++◌, Option, Some, None, length, refl, sym, ap, ◌∙◌, arith, append_assoc, length-append, nat_lt, min}
use Rattle.std.specs.Prelude.{option_to_list}
use Rattle.std.specs.List.{list_all}
use Rattle.std.proofs.lemmas.Bool.Decides.{nat_tests}
use Rattle.con_units.specs.Split.{next}
use Rattle.con_units.specs.Words.Split.{ended}
use Rattle.con_vtgram.specs.Text.{is_front, whole, kept, grammar, opens_string, skip_while, front_while, is_empty, is_intermediate, is_parameter_unit, ends_control, ends_escape, csi_is_front, csi_whole, csi_items, csi_of, is_digit_or_semicolon, escape_is_front, escape_whole, nested_items, is_question, after_question, only_intermediate}
use Rattle.con_vtgram.specs.SequenceLaws.{skip_all, front_all, first-is_front, first-whole}
use Rattle.con_vtgram.specs.Reading.{Holds, Counts, Reads, Follows, is_paren}
use Rattle.con_vtgram.specs.Step.{Begins, Gives}
use Rattle.con_vtgram.specs.declared.item.Item.{Item}
use Rattle.con_vtgram.specs.State.{State}
use Rattle.con_vtgram.specs.State.{Ground, Nested}
use Rattle.con_vtgram.specs.declared.item.Item.TheVariants.{Charset}
use Rattle.con_vtgram.specs.declared.item.Item.TheVariants as items
use Rattle.con_vtgram.specs.Numbers.{parameters}
use Rattle.con_vtgram.specs.State.{Parameters}

both : (a b : Bool) → (a && b) ≡ true → (a ≡ true) × (b ≡ true)
both true b h = (refl, h)
both false b h = cc

append_none : (xs : List ℕ) → xs ++ [] ≡ xs
append_none [] = refl
append_none (x ∷ xs) = ap (λ zs. x ∷ zs) (append_none xs)

none_left : (u : ℕ) (b : Bool) → is_empty (cond b [] (u ∷ [])) ≡ b
none_left u true = refl
none_left u false = refl

-- ---- after ESC [ and the first part

-- the front goes on
pub first_goes_on : (after : State) (first : List ℕ) (u : ℕ) → list_all is_parameter_unit first ≡ true → (is_parameter_unit u || is_intermediate u) ≡ true → Holds after (0x1B ∷ 0x5B ∷ (first ++ u ∷ [])) → Gives after None (0x1B ∷ 0x5B ∷ first) u
unfolding next is_front
first_goes_on after first u h on holds = let e = first-is_front first u h ∙ on in record { items = rw e refl; holds = rw e holds }

finished : (u : ℕ) (tail : List ℕ) (items : List Item) (b : Bool) → b ≡ true → ended grammar tail u (cond b (Some items) None) ≡ record { items = items; tail = [] }
finished u tail items b h = rw h refl

-- a whole sequence
pub first_ends : (item : Option Item) (first : List ℕ) (u : ℕ) → list_all is_parameter_unit first ≡ true → is_parameter_unit u ≡ false → is_intermediate u ≡ false → ends_control u ≡ true → option_to_list item ≡ csi_items first [] u → Gives Ground item (0x1B ∷ 0x5B ∷ first) u
unfolding next is_front whole
first_ends item first u h a b c items =
    let e : (is_parameter_unit u || is_intermediate u) ≡ false = rw (a, b) refl in
    record { items = rw (first-is_front first u h, e, first-whole first u h a b, c) items; holds = rw (first-is_front first u h, e, first-whole first u h a b, c) refl }

pub first_breaks : (after : State) (item : Option Item) (first : List ℕ) (u : ℕ) → list_all is_parameter_unit first ≡ true → is_parameter_unit u ≡ false → is_intermediate u ≡ false → ends_control u ≡ false → Begins after item u → Gives after item (0x1B ∷ 0x5B ∷ first) u
unfolding next is_front whole kept
first_breaks after item first u h a b c begins =
    let e : (is_parameter_unit u || is_intermediate u) ≡ false = rw (a, b) refl in
    record { items = rw (first-is_front first u h, e, first-whole first u h a b, c) begins.items; holds = rw (first-is_front first u h, e, first-whole first u h a b, c) begins.holds }

-- ---- after ESC [, the first part and intermediates

no_parameter : (i : ℕ) → is_intermediate i ≡ true → is_parameter_unit i ≡ false
no_parameter i h = grind (arith, nat_tests)

no_bracket : (i : ℕ) → is_intermediate i ≡ true → (i == 0x5B) ≡ false
no_bracket i h = grind (arith, nat_tests)

second-rest : (first is : List ℕ) (u : ℕ) → list_all is_parameter_unit first ≡ true → list_all is_intermediate is ≡ true → is ≢ [] → skip_while is_parameter_unit ((first ++ is) ++ u ∷ []) ≡ is ++ u ∷ []
second-rest first [] u h k some = absurd (some refl)
second-rest first (i ∷ is) u h k some = rw (append_assoc first (i ∷ is) (u ∷ []), skip_all is_parameter_unit first ((i ∷ is) ++ u ∷ []) h, no_parameter i (both (is_intermediate i) (list_all is_intermediate is) k).0) refl

second-first : (first is : List ℕ) (u : ℕ) → list_all is_parameter_unit first ≡ true → list_all is_intermediate is ≡ true → is ≢ [] → front_while is_parameter_unit ((first ++ is) ++ u ∷ []) ≡ first
second-first first [] u h k some = absurd (some refl)
second-first first (i ∷ is) u h k some = rw (append_assoc first (i ∷ is) (u ∷ []), front_all is_parameter_unit first ((i ∷ is) ++ u ∷ []) h, no_parameter i (both (is_intermediate i) (list_all is_intermediate is) k).0) (append_none first)

pub second-is_front : (first is : List ℕ) (u : ℕ) → list_all is_parameter_unit first ≡ true → list_all is_intermediate is ≡ true → is ≢ [] → csi_is_front ((first ++ is) ++ u ∷ []) ≡ is_intermediate u
second-is_front first is u h k some = rw (second-rest first is u h k some, skip_all is_intermediate is (u ∷ []) k) (none_left u (is_intermediate u))

pub second-whole : (first is : List ℕ) (u : ℕ) → list_all is_parameter_unit first ≡ true → list_all is_intermediate is ≡ true → is ≢ [] → is_intermediate u ≡ false → csi_whole ((first ++ is) ++ u ∷ []) ≡ cond (ends_control u) (Some (csi_items first is u)) None
second-whole first is u h k some b = rw (second-first first is u h k some, second-rest first is u h k some, skip_all is_intermediate is (u ∷ []) k, front_all is_intermediate is (u ∷ []) k, b, append_none is) refl

pub second_goes_on : (after : State) (first is : List ℕ) (u : ℕ) → list_all is_parameter_unit first ≡ true → list_all is_intermediate is ≡ true → is ≢ [] → is_intermediate u ≡ true → Holds after (0x1B ∷ 0x5B ∷ (first ++ (is ++ u ∷ []))) → Gives after None (0x1B ∷ 0x5B ∷ (first ++ is)) u
unfolding next is_front
second_goes_on after first is u h k some on holds = let e = second-is_front first is u h k some ∙ on in
    record { items = rw e refl; holds = rw (e, append_assoc first is (u ∷ [])) holds }

pub second_ends : (item : Option Item) (first is : List ℕ) (u : ℕ) → list_all is_parameter_unit first ≡ true → list_all is_intermediate is ≡ true → is ≢ [] → is_intermediate u ≡ false → ends_control u ≡ true → option_to_list item ≡ csi_items first is u → Gives Ground item (0x1B ∷ 0x5B ∷ (first ++ is)) u
unfolding next is_front whole
second_ends item first is u h k some b c items = let e = second-is_front first is u h k some ∙ b in
    record { items = rw (e, second-whole first is u h k some b, c) items; holds = rw (e, second-whole first is u h k some b, c) refl }

pub second_breaks : (after : State) (item : Option Item) (first is : List ℕ) (u : ℕ) → list_all is_parameter_unit first ≡ true → list_all is_intermediate is ≡ true → is ≢ [] → is_intermediate u ≡ false → ends_control u ≡ false → Begins after item u → Gives after item (0x1B ∷ 0x5B ∷ (first ++ is)) u
unfolding next is_front whole kept
second_breaks after item first is u h k some b c begins = let e = second-is_front first is u h k some ∙ b in
    record { items = rw (e, second-whole first is u h k some b, c) begins.items; holds = rw (e, second-whole first is u h k some b, c) begins.holds }

-- ---- after ESC and intermediates

pub nested-is_front : (is : List ℕ) (u : ℕ) → list_all is_intermediate is ≡ true → is ≢ [] → escape_is_front (is ++ u ∷ []) ≡ is_intermediate u
nested-is_front [] u h some = absurd (some refl)
nested-is_front (i ∷ is) u h some = let k = both (is_intermediate i) (list_all is_intermediate is) h in
    rw (no_bracket i k.0, k.0, skip_all is_intermediate is (u ∷ []) k.1) (none_left u (is_intermediate u))

pub nested-whole : (is : List ℕ) (u : ℕ) → list_all is_intermediate is ≡ true → is ≢ [] → is_intermediate u ≡ false → escape_whole (is ++ u ∷ []) ≡ cond (ends_escape u) (Some (nested_items is u)) None
nested-whole [] u h some b = absurd (some refl)
nested-whole (i ∷ is) u h some b = let k = both (is_intermediate i) (list_all is_intermediate is) h in
    rw (no_bracket i k.0, k.0, skip_all is_intermediate is (u ∷ []) k.1, front_all is_intermediate is (u ∷ []) k.1, b, append_none is) refl

pub nested_goes_on : (after : State) (is : List ℕ) (u : ℕ) → list_all is_intermediate is ≡ true → is ≢ [] → is_intermediate u ≡ true → Holds after (0x1B ∷ (is ++ u ∷ [])) → Gives after None (0x1B ∷ is) u
unfolding next is_front
nested_goes_on after is u h some on holds = let e = nested-is_front is u h some ∙ on in record { items = rw e refl; holds = rw e holds }

pub nested_ends : (item : Option Item) (is : List ℕ) (u : ℕ) → list_all is_intermediate is ≡ true → is ≢ [] → is_intermediate u ≡ false → ends_escape u ≡ true → option_to_list item ≡ nested_items is u → Gives Ground item (0x1B ∷ is) u
unfolding next is_front whole
nested_ends item is u h some b c items = let e = nested-is_front is u h some ∙ b in
    record { items = rw (e, nested-whole is u h some b, c) items; holds = rw (e, nested-whole is u h some b, c) refl }

no_string : (i : ℕ) → is_intermediate i ≡ true → opens_string i ≡ false
no_string i h = grind (arith, nat_tests)

kept_nested : (is : List ℕ) → list_all is_intermediate is ≡ true → is ≢ [] → kept (0x1B ∷ is) ≡ []
unfolding kept
kept_nested [] h some = absurd (some refl)
kept_nested (i ∷ is) h some = let plain : opens_string i ≡ false = no_string i (both (is_intermediate i) (list_all is_intermediate is) h).0 in rw plain refl

pub nested_breaks : (after : State) (item : Option Item) (is : List ℕ) (u : ℕ) → list_all is_intermediate is ≡ true → is ≢ [] → is_intermediate u ≡ false → ends_escape u ≡ false → Begins after item u → Gives after item (0x1B ∷ is) u
unfolding next is_front whole
nested_breaks after item is u h some b c begins = let e = nested-is_front is u h some ∙ b in
    record { items = rw (e, nested-whole is u h some b, c, kept_nested is h some) begins.items; holds = rw (e, nested-whole is u h some b, c, kept_nested is h some) begins.holds }

pub nested_items_is : (is : List ℕ) (u : ℕ) → nested_items is u ≡ cond (is_paren is) (Charset u ∷ []) []
nested_items_is [] u = refl
nested_items_is (i ∷ []) u = refl
nested_items_is (i ∷ j ∷ is) u = refl

-- ---- what the state says, one unit on

pub append_some : (xs : List ℕ) (u : ℕ) → (xs ++ u ∷ []) ≢ []
append_some [] u = λ e. cc
append_some (x ∷ xs) u = λ e. cc

pub all-longer : (p : ℕ → Bool) (xs : List ℕ) (u : ℕ) → list_all p xs ≡ true → p u ≡ true → list_all p (xs ++ u ∷ []) ≡ true
all-longer p [] u h k = rw k refl
all-longer p (x ∷ xs) u h k = let h' = both (p x) (list_all p xs) h in rw h'.0 (all-longer p xs u h'.1 k)

pub paren-longer : (is : List ℕ) (u : ℕ) → is ≢ [] → false ≡ is_paren (is ++ u ∷ [])
paren-longer [] u some = absurd (some refl)
paren-longer (i ∷ []) u some = refl
paren-longer (i ∷ j ∷ is) u some = refl

pub nested_longer : (is : List ℕ) (u : ℕ) → list_all is_intermediate is ≡ true → is ≢ [] → is_intermediate u ≡ true → Holds (Nested false) (0x1B ∷ (is ++ u ∷ []))
nested_longer is u h some on = (is ++ u ∷ [], refl, all-longer is_intermediate is u h on, append_some is u, paren-longer is u some)

longer_few : (is : List ℕ) (u : ℕ) → is ≢ [] → false ≡ nat_lt (length (is ++ u ∷ [])) 2
longer_few [] u some = absurd (some refl)
longer_few (i ∷ is) u some = grind (arith, nat_tests, length-append)

longer_first : (is : List ℕ) (u : ℕ) → is ≢ [] → only_intermediate (is ++ u ∷ []) ≡ only_intermediate is
longer_first [] u some = absurd (some refl)
longer_first (i ∷ is) u some = refl

pub follows_longer : (single : Bool) (i : ℕ) (is : List ℕ) (u : ℕ) → Follows single i is → is_intermediate u ≡ true → Follows false i (is ++ u ∷ [])
follows_longer single i is u h on = record {
  units = all-longer is_intermediate is u h.units on;
  some = append_some is u;
  few = longer_few is u h.some;
  first = h.first ∙ sym (longer_first is u h.some);
}

pub follows_first : (single : Bool) (u : ℕ) → single ≡ true → is_intermediate u ≡ true → Follows single u (u ∷ [])
follows_first single u h on = record { units = rw on refl; some = λ e. cc; few = h; first = refl }

pub reads_none : (p : Parameters) → p.private ≡ false → Counts p [] → Reads p []
reads_none p private counts = record { units = refl; private = private; counts = counts }

pub reads_question : (p : Parameters) → p.private ≡ true → Counts p [] → Reads p (0x3F ∷ [])
reads_question p private counts = record { units = refl; private = private; counts = counts }

pub reads_one : (p : Parameters) (u : ℕ) → (u == 0x3F) ≡ false → is_parameter_unit u ≡ true → p.private ≡ false → Counts p (u ∷ []) → Reads p (u ∷ [])
reads_one p u ne on private counts = record { units = rw on refl; private = private ∙ sym ne; counts = rw ne counts }

question_longer : (first : List ℕ) (u : ℕ) → first ≢ [] → is_question (first ++ u ∷ []) ≡ is_question first
question_longer [] u some = absurd (some refl)
question_longer (v ∷ first) u some = refl

after_longer : (first : List ℕ) (u : ℕ) → first ≢ [] → after_question (first ++ u ∷ []) ≡ after_question first ++ u ∷ []
after_longer [] u some = absurd (some refl)
after_longer (v ∷ first) u some = by_test (v == 0x3F)
  where
    by_test : (b : Bool) → cond b (first ++ u ∷ []) (v ∷ (first ++ u ∷ [])) ≡ cond b first (v ∷ first) ++ u ∷ []
    by_test true = refl
    by_test false = refl

pub reads_longer : (p q : Parameters) (first : List ℕ) (u : ℕ) → first ≢ [] → Reads p first → is_parameter_unit u ≡ true → q.private ≡ p.private → Counts q (after_question first ++ u ∷ []) → Reads q (first ++ u ∷ [])
reads_longer p q first u some h on private counts = record {
  units = all-longer is_parameter_unit first u h.units on;
  private = private ∙ h.private ∙ sym (question_longer first u some);
  counts = rw (after_longer first u some) counts;
}

pub either : (a : Bool) {b : Bool} → b ≡ true → (a || b) ≡ true
either true h = refl
either false h = h

pub either_first : (a b : Bool) → a ≡ true → (a || b) ≡ true
either_first a b h = rw h refl

pub nested_item : (is : List ℕ) (u : ℕ) (paren : Bool) → paren ≡ true → paren ≡ is_paren is → Charset u ∷ [] ≡ nested_items is u
nested_item is u paren h k = sym (nested_items_is is u ∙ ap (λ b. cond b (Charset u ∷ []) []) (sym k ∙ h))

pub nested_none : (is : List ℕ) (u : ℕ) (paren : Bool) → paren ≡ false → paren ≡ is_paren is → [] ≡ nested_items is u
nested_none is u paren h k = sym (nested_items_is is u ∙ ap (λ b. cond b (Charset u ∷ []) []) (sym k ∙ h))

-- ---- the item of a control sequence

pub csi_no : (p : Parameters) (first is : List ℕ) (last : ℕ) → Reads p first → p.plain ≡ false → [] ≡ csi_items first is last
unfolding csi_items
csi_no p first is last h broken = rw (sym h.counts.plain ∙ broken) refl

pub csi_few : (first is : List ℕ) (single : Bool) (last : ℕ) → single ≡ false → single ≡ nat_lt (length is) 2 → [] ≡ csi_items first is last
unfolding csi_items
csi_few first is single last several few = rw (sym few ∙ several) (never (list_all is_digit_or_semicolon (after_question first)))
  where
    never : (b : Bool) → [] ≡ cond (b && false) (items.Csi (csi_of first is last) ∷ []) []
    never true = refl
    never false = refl

pub csi_yes : (p : Parameters) (first is : List ℕ) (single : Bool) (inter last count : ℕ) → Reads p first → p.plain ≡ true → single ≡ true → single ≡ nat_lt (length is) 2 → inter ≡ only_intermediate is → count ≡ min p.count 16
    → items.Csi (record { private = p.private; count = count; params = p.values; inter = inter; last = last }) ∷ [] ≡ csi_items first is last
unfolding csi_items
csi_yes p first is single inter last count h plain one few intermediate c =
    let k : count ≡ min 16 (length (parameters (after_question first))) = omega (arith, h.counts.count plain, c) in
    rw (sym h.counts.plain ∙ plain, sym few ∙ one, h.private, k, h.counts.values plain, intermediate) refl

-- ---- after ESC, and after nothing

pub escape_nested : (u : ℕ) (paren : Bool) → is_intermediate u ≡ true → paren ≡ (u == 0x28) → Gives (Nested paren) None (0x1B ∷ []) u
unfolding next is_front
escape_nested u paren on is_paren_unit = let bracket = no_bracket u on in record { items = rw (bracket, on) refl; holds = rw (bracket, on) (u ∷ [], refl, rw on refl, append_some [] u, is_paren_unit) }

pub ground : (after : State) (item : Option Item) (tail : List ℕ) (u : ℕ) → tail ≡ [] → Begins after item u → Gives after item tail u
unfolding next
ground after item tail u none begins = rw none (record { items = begins.items; holds = begins.holds })

pub escape_broken : (after : State) (item : Option Item) (u : ℕ) → u ≢ 0x5B → is_intermediate u ≡ false → opens_string u ≡ false → ends_escape u ≡ false → Begins after item u → Gives after item (0x1B ∷ []) u
unfolding next is_front whole kept
escape_broken after item u ne a b c begins = let bracket : (u == 0x5B) ≡ false = grind (arith, nat_tests) in
    record { items = rw (bracket, a, b, c) begins.items; holds = rw (bracket, a, b, c) begins.holds }

pub no_question : (u : ℕ) → u ≢ 0x3F → (u == 0x3F) ≡ false
no_question u h = grind (arith, nat_tests)
