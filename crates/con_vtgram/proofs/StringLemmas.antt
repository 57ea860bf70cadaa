-- Strings.
use Rattle.std.proofs.Common.{◌≡◌, ◌≢◌, ℕ, Bool, true, false, cond, ◌==◌, ◌||◌, List, [], ◌∷◌, ◌++◌, Option, Some, None, refl, sym, ap, ◌∙◌, arith, append_assoc}
use Rattle.std.specs.Prelude.{option_to_list}
use Rattle.std.specs.List.{list_all}
use Rattle.std.proofs.lemmas.Bool.Decides.{nat_tests}
use Rattle.con_units.specs.Stored.{is_control}
use Rattle.con_units.specs.Split.{next}
use Rattle.con_units.specs.Words.Split.{begun_after, begun_again, ended}
use Rattle.con_vtgram.specs.Text.{is_front, whole, kept, grammar, skip_while, front_while, is_intermediate, opens_string, cancels, stays, string_text, string_items, may_end, escape_is_front, escape_whole}
use Rattle.con_vtgram.specs.Reading.{Holds, Inside, name_of}
use Rattle.con_vtgram.specs.Step.{Begins, Gives}
use Rattle.con_vtgram.specs.declared.item.Item.{Item}
use Rattle.con_vtgram.specs.State.{State}
use Rattle.con_vtgram.specs.State as phases
use Rattle.con_vtgram.specs.declared.automaton.Name.{Name}
use Rattle.con_vtgram.specs.SequenceLaws.{skip_all, front_all}
use Rattle.con_vtgram.proofs.StepLemmas.{all-longer}

pub append_nil : (xs : List ℕ) → xs ++ [] ≡ xs
append_nil [] = refl
append_nil (x ∷ xs) = ap (λ zs. x ∷ zs) (append_nil xs)

no_bracket : (o : ℕ) → opens_string o ≡ true → (o == 0x5B) ≡ false
no_bracket o h = grind (arith, nat_tests)

no_intermediate : (o : ℕ) → opens_string o ≡ true → is_intermediate o ≡ false
no_intermediate o h = grind (arith, nat_tests)

left : (u : ℕ) (b : Bool) → may_end (cond b [] (u ∷ [])) ≡ (b || (u == 0x1B))
left u true = refl
left u false = refl

pub text-is_front : (o : ℕ) (body : List ℕ) (u : ℕ) → opens_string o ≡ true → list_all stays body ≡ true → escape_is_front (o ∷ (body ++ u ∷ [])) ≡ (stays u || (u == 0x1B))
text-is_front o body u h k = rw (no_bracket o h, no_intermediate o h, h, skip_all stays body (u ∷ []) k) (left u (stays u))

text-whole : (o : ℕ) (body : List ℕ) (u : ℕ) → opens_string o ≡ true → list_all stays body ≡ true → stays u ≡ false → escape_whole (o ∷ (body ++ u ∷ [])) ≡ cond (u == 7) (Some (string_items o body)) None
text-whole o body u h k b = rw (no_bracket o h, no_intermediate o h, h, skip_all stays body (u ∷ []) k, front_all stays body (u ∷ []) k, b, append_nil body) refl

text-kept : (o : ℕ) (body : List ℕ) → opens_string o ≡ true → list_all stays body ≡ true → kept (0x1B ∷ o ∷ body) ≡ []
unfolding kept
text-kept o body h k = let e = skip_all stays body [] k in rw (h, sym (ap (λ xs. skip_while stays xs) (append_nil body)) ∙ e) refl

pub text_goes_on : (after : State) (o : ℕ) (body : List ℕ) (u : ℕ) → opens_string o ≡ true → list_all stays body ≡ true → (stays u || (u == 0x1B)) ≡ true → Holds after (0x1B ∷ o ∷ (body ++ u ∷ [])) → Gives after None (0x1B ∷ o ∷ body) u
unfolding next is_front
text_goes_on after o body u h k on holds = let e = text-is_front o body u h k ∙ on in record { items = rw e refl; holds = rw e holds }

pub text_ends : (item : Option Item) (o : ℕ) (body : List ℕ) (u : ℕ) → opens_string o ≡ true → list_all stays body ≡ true → u ≡ 7 → option_to_list item ≡ string_items o body → Gives phases.Ground item (0x1B ∷ o ∷ body) u
unfolding next is_front whole
text_ends item o body u h k bell items = let b : stays u ≡ false = rw bell refl in let n : (stays u || (u == 0x1B)) ≡ false = rw bell refl in let y : (u == 7) ≡ true = rw bell refl in
    let e = text-is_front o body u h k ∙ n in let w = text-whole o body u h k b in
    record { items = rw (e, w, y) items; holds = rw (e, w, y) refl }

pub text_breaks : (after : State) (item : Option Item) (o : ℕ) (body : List ℕ) (u : ℕ) → opens_string o ≡ true → list_all stays body ≡ true → stays u ≡ false → (u == 0x1B) ≡ false → (u == 7) ≡ false → Begins after item u → Gives after item (0x1B ∷ o ∷ body) u
unfolding next is_front whole
text_breaks after item o body u h k b n y begins =
    let e : escape_is_front (o ∷ (body ++ u ∷ [])) ≡ false = text-is_front o body u h k ∙ rw (b, n) refl in let w = text-whole o body u h k b in
    record { items = rw (e, w, y, text-kept o body h k) begins.items; holds = rw (e, w, y, text-kept o body h k) begins.holds }

-- ---- ESC in a string

past : (body : List ℕ) (u : ℕ) → list_all stays body ≡ true → skip_while stays ((body ++ 0x1B ∷ []) ++ u ∷ []) ≡ 0x1B ∷ u ∷ []
past body u k = rw (append_assoc body (0x1B ∷ []) (u ∷ []), skip_all stays body (0x1B ∷ u ∷ []) k) refl

pub before : (body : List ℕ) (u : ℕ) → list_all stays body ≡ true → front_while stays ((body ++ 0x1B ∷ []) ++ u ∷ []) ≡ body
before body u k = rw (append_assoc body (0x1B ∷ []) (u ∷ []), front_all stays body (0x1B ∷ u ∷ []) k) (append_nil body)

escape-is_front : (o : ℕ) (body : List ℕ) (u : ℕ) → opens_string o ≡ true → list_all stays body ≡ true → escape_is_front (o ∷ ((body ++ 0x1B ∷ []) ++ u ∷ [])) ≡ false
escape-is_front o body u h k = rw (no_bracket o h, no_intermediate o h, h, past body u k) refl

escape-whole : (o : ℕ) (body : List ℕ) (u : ℕ) → opens_string o ≡ true → list_all stays body ≡ true → escape_whole (o ∷ ((body ++ 0x1B ∷ []) ++ u ∷ [])) ≡ cond (u == 0x5C) (Some (string_items o body)) None
escape-whole o body u h k = rw (no_bracket o h, no_intermediate o h, h, past body u k, before body u k) refl

escape-kept : (o : ℕ) (body : List ℕ) → opens_string o ≡ true → list_all stays body ≡ true → kept (0x1B ∷ o ∷ (body ++ 0x1B ∷ [])) ≡ 0x1B ∷ []
unfolding kept
escape-kept o body h k = rw (h, skip_all stays body (0x1B ∷ []) k) refl

pub escape_ends : (item : Option Item) (o : ℕ) (body : List ℕ) (u : ℕ) → opens_string o ≡ true → list_all stays body ≡ true → u ≡ 0x5C → option_to_list item ≡ string_items o body → Gives phases.Ground item (0x1B ∷ o ∷ (body ++ 0x1B ∷ [])) u
unfolding next is_front whole
escape_ends item o body u h k is items = let y : (u == 0x5C) ≡ true = rw is refl in
    record { items = rw (escape-is_front o body u h k, escape-whole o body u h k, y) items; holds = rw (escape-is_front o body u h k, escape-whole o body u h k, y) refl }

again_by : (u : ℕ) (b : Bool) (o : Option (List Item)) → cond b (record { items = []; tail = 0x1B ∷ u ∷ [] }) (begun_again grammar u o) ≡ cond b (record { items = []; tail = 0x1B ∷ u ∷ [] }) (ended grammar (0x1B ∷ []) u o)
unfolding kept
again_by u true o = refl
again_by u false None = refl
again_by u false (Some found) = refl

again : (u : ℕ) → begun_after grammar (0x1B ∷ []) u ≡ next grammar (0x1B ∷ []) u
unfolding next
again u = again_by u (is_front (0x1B ∷ u ∷ [])) (whole (0x1B ∷ u ∷ []))

escape_next : (o : ℕ) (body : List ℕ) (u : ℕ) → opens_string o ≡ true → list_all stays body ≡ true → (u == 0x5C) ≡ false → next grammar (0x1B ∷ o ∷ (body ++ 0x1B ∷ [])) u ≡ begun_after grammar (0x1B ∷ []) u
unfolding next is_front whole
escape_next o body u h k n = rw (escape-is_front o body u h k, escape-whole o body u h k, n, escape-kept o body h k) refl

other_than : (u n : ℕ) → u ≢ n → (u == n) ≡ false
other_than u n h = grind (arith, nat_tests)

pub escape_breaks : (after : State) (item : Option Item) (o : ℕ) (body : List ℕ) (u : ℕ) → opens_string o ≡ true → list_all stays body ≡ true → u ≢ 0x5C → Gives after item (0x1B ∷ []) u → Gives after item (0x1B ∷ o ∷ (body ++ 0x1B ∷ [])) u
escape_breaks after item o body u h k n gives = let e = escape_next o body u h k (other_than u 0x5C n) ∙ again u in record { items = rw e gives.items; holds = rw e gives.holds }

pub text_cancelled : (after : State) (item : Option Item) (o : ℕ) (body : List ℕ) (u : ℕ) → opens_string o ≡ true → list_all stays body ≡ true → cancels u ≡ true → u ≢ 7 → u ≢ 0x1B → Begins after item u → Gives after item (0x1B ∷ o ∷ body) u
text_cancelled after item o body u h k c bell escape begins = text_breaks after item o body u h k (rw (other_than u 7 bell, c) refl) (other_than u 0x1B escape) (other_than u 7 bell) begins

pub stays_is : (u : ℕ) → u ≢ 7 → u ≢ 0x1B → cancels u ≡ false → stays u ≡ true
stays_is u bell escape c = rw (other_than u 7 bell, other_than u 0x1B escape, c) refl

-- ---- titles

append_by : (b : Bool) (x : ℕ) (xs ys : List ℕ) → string_text (xs ++ ys) ≡ string_text xs ++ string_text ys → cond b (string_text (xs ++ ys)) (x ∷ string_text (xs ++ ys)) ≡ cond b (string_text xs) (x ∷ string_text xs) ++ string_text ys
append_by true x xs ys h = h
append_by false x xs ys h = ap (λ zs. x ∷ zs) h

pub string_text-append : (xs ys : List ℕ) → string_text (xs ++ ys) ≡ string_text xs ++ string_text ys
string_text-append [] ys = refl
string_text-append (x ∷ xs) ys = append_by (is_control x) x xs ys (string_text-append xs ys)

pub inside_dropped : (name : Name) (o : ℕ) (body : List ℕ) (u : ℕ) → Inside name o body → stays u ≡ true → is_control u ≡ true → Inside name o (body ++ u ∷ [])
inside_dropped name o body u h k c = record { opens = h.opens; units = all-longer stays body u h.units k; is_named = rw (string_text-append body (u ∷ []), c, append_nil (string_text body)) h.is_named }

pub inside_named : (name after : Name) (o : ℕ) (body : List ℕ) (u : ℕ) → Inside name o body → stays u ≡ true → is_control u ≡ false → after ≡ name_of o (string_text body ++ u ∷ []) → Inside after o (body ++ u ∷ [])
inside_named name after o body u h k c e = record { opens = h.opens; units = all-longer stays body u h.units k; is_named = rw (string_text-append body (u ∷ []), c) e }
