-- The text of a title is kept.
use Rattle.std.proofs.Common.{◌≡◌, ℕ, ◌<◌, ◌≤◌, Bool, true, false, cond, ◌==◌, ◌||◌, ◌&&◌, ◌⊎◌, inl, inr, List, [], ◌∷◌, ◌++◌, take, drop, length, Option, None, refl, sym, ap, ◌∙◌, arith, length-append}
use Rattle.std.specs.List.{list_all}
use Rattle.std.proofs.lemmas.List.{take_all, take-append-le, length-take}
use Rattle.con_units.specs.Stored.{is_control}
use Rattle.con_units.specs.Split.{next}
use Rattle.con_vtgram.specs.Text.{is_front, kept, grammar, front_while, opens_string, stays, string_text}
use Rattle.con_vtgram.specs.Reading.{Inside, name_of}
use Rattle.con_vtgram.specs.Spoken.{text_of}
use Rattle.con_vtgram.specs.TitleKept.{IsQuiet, Titles, is_title_name, is_title_item, pending}
use Rattle.con_vtgram.specs.declared.item.Item.{Item}
use Rattle.con_vtgram.specs.State.{State}
use Rattle.con_vtgram.specs.State as phases
use Rattle.con_vtgram.specs.declared.automaton.Name.{Name}
use Rattle.con_vtgram.specs.declared.automaton.Name.TheVariants as names
use Rattle.con_vtgram.specs.SequenceLaws.{front_all}
use Rattle.con_vtgram.proofs.StringLemmas.{append_nil, before, text-is_front, string_text-append}

pub quiet_titles : (after : State) (item : Option Item) (tail : List ℕ) (u : ℕ) (t : List ℕ) → IsQuiet after item → Titles after item tail u t
quiet_titles after item tail u t h = let p = h.outside in let i = h.none in record { keeps = λ e. absurd (let f : true ≡ false = sym e ∙ p in cc); says = λ e. absurd (let f : true ≡ false = sym e ∙ i in cc) }

text_next : (o : ℕ) (body : List ℕ) (u : ℕ) → opens_string o ≡ true → list_all stays body ≡ true → (stays u || (u == 0x1B)) ≡ true → (next grammar (0x1B ∷ o ∷ body) u).tail ≡ 0x1B ∷ o ∷ (body ++ u ∷ [])
unfolding next is_front
text_next o body u h k on = let e = text-is_front o body u h k ∙ on in rw e refl

body_before : (body : List ℕ) (u : ℕ) → list_all stays body ≡ true → stays u ≡ false → front_while stays (body ++ u ∷ []) ≡ body
body_before body u k b = rw (front_all stays body (u ∷ []) k, b) (append_nil body)

pub titles_bell : (name : Name) (item : Option Item) (o : ℕ) (body : List ℕ) (u : ℕ) (t : List ℕ) → Inside name o body → (is_title_name name ≡ true → t ≡ text_of body) → is_title_item item ≡ is_title_name name → u ≡ 7 → Titles phases.Ground item (0x1B ∷ o ∷ body) u t
titles_bell name item o body u t h kept kind bell = let b : stays u ≡ false = rw bell refl in record {
  keeps = λ e. cc;
  says = λ e. kept (sym kind ∙ e) ∙ sym (ap text_of (body_before body u h.units b));
}

control_dropped : (body : List ℕ) (u : ℕ) → is_control u ≡ true → string_text (body ++ u ∷ []) ≡ string_text body
control_dropped body u c = rw (string_text-append body (u ∷ []), c) (append_nil (string_text body))

pub titles_escape : (name : Name) (o : ℕ) (body : List ℕ) (t : List ℕ) → Inside name o body → (is_title_name name ≡ true → t ≡ text_of body) → Titles (phases.TextEscape name) None (0x1B ∷ o ∷ body) 0x1B t
titles_escape name o body t h kept = record {
  keeps = λ e. kept e ∙ sym (ap pending (text_next o body 0x1B h.opens h.units refl) ∙ ap (λ s. take 255 (drop 2 s)) (control_dropped body 0x1B refl));
  says = λ e. cc;
}

stays_first : (u : ℕ) → stays u ≡ true → (stays u || (u == 0x1B)) ≡ true
stays_first u h = rw h refl

pub titles_dropped : (name : Name) (o : ℕ) (body : List ℕ) (u : ℕ) (t : List ℕ) → Inside name o body → (is_title_name name ≡ true → t ≡ text_of body) → stays u ≡ true → is_control u ≡ true → Titles (phases.Text name) None (0x1B ∷ o ∷ body) u t
titles_dropped name o body u t h kept on c = record {
  keeps = λ e. kept e ∙ sym (ap pending (text_next o body u h.opens h.units (stays_first u on)) ∙ ap (λ s. take 255 (drop 2 s)) (control_dropped body u c));
  says = λ e. cc;
}

longer : (body : List ℕ) (u : ℕ) → is_control u ≡ false → string_text (body ++ u ∷ []) ≡ string_text body ++ u ∷ []
longer body u c = rw (string_text-append body (u ∷ []), c) refl

pub titles_named : (after : Name) (o : ℕ) (body : List ℕ) (u : ℕ) (t : List ℕ) → opens_string o ≡ true → list_all stays body ≡ true → stays u ≡ true → is_control u ≡ false → after ≡ name_of o (string_text body ++ u ∷ [])
    → (is_title_name (name_of o (string_text body ++ u ∷ [])) ≡ true → t ≡ take 255 (drop 2 (string_text body ++ u ∷ []))) → Titles (phases.Text after) None (0x1B ∷ o ∷ body) u t
titles_named after o body u t h k on c named kept = record {
  keeps = λ e. kept (sym (ap is_title_name named) ∙ e) ∙ sym (ap pending (text_next o body u h k (stays_first u on)) ∙ ap (λ s. take 255 (drop 2 s)) (longer body u c));
  says = λ e. cc;
}

pub titles_ended : (name : Name) (item : Option Item) (o : ℕ) (body : List ℕ) (u : ℕ) (t : List ℕ) → Inside name o body → (is_title_name name ≡ true → t ≡ text_of body) → is_title_item item ≡ is_title_name name → Titles phases.Ground item (0x1B ∷ o ∷ (body ++ 0x1B ∷ [])) u t
titles_ended name item o body u t h kept kind = record {
  keeps = λ e. cc;
  says = λ e. kept (sym kind ∙ e) ∙ sym (ap text_of (before body u h.units));
}

pub text_of_escape : (body : List ℕ) → text_of (body ++ 0x1B ∷ []) ≡ text_of body
text_of_escape body = ap (λ s. take 255 (drop 2 s)) (control_dropped body 0x1B refl)

-- ---- one unit on

no_title : (b : Bool) → is_title_name (cond b names.Digit names.Other) ≡ true → ⊥
no_title true e = cc
no_title false e = cc

was_digit : (x y z : Bool) → is_title_name (cond (x && (y && z)) names.Title names.Other) ≡ true → cond (x && y) names.Digit names.Other ≡ names.Digit
was_digit true true z e = refl
was_digit true false z e = cc
was_digit false y z e = cc

was_title : (b : Bool) → is_title_name (cond b names.Title names.Other) ≡ true → cond b names.Title names.Other ≡ names.Title
was_title true e = refl
was_title false e = cc

pub name_next : (name : Name) (o : ℕ) (text : List ℕ) (u : ℕ) → name ≡ name_of o text → is_title_name (name_of o (text ++ u ∷ [])) ≡ true
    → ((name ≡ names.Title) × (drop 2 (text ++ u ∷ []) ≡ drop 2 text ++ u ∷ [])) ⊎ ((name ≡ names.Digit) × (drop 2 (text ++ u ∷ []) ≡ []))
name_next name o [] u e h = absurd (no_title _ h)
name_next name o (a ∷ []) u e h = inr (e ∙ was_digit (o == 0x5D) ((a == 0x30) || (a == 0x32)) (u == 0x3B) h, refl)
name_next name o (a ∷ b ∷ us) u e h = inl (e ∙ was_title ((o == 0x5D) && (((a == 0x30) || (a == 0x32)) && (b == 0x3B))) h, refl)

pub push_some : (items text : List ℕ) (u : ℕ) → items ≡ take 255 text → length items < 255 → items ++ u ∷ [] ≡ take 255 (text ++ u ∷ [])
push_some items text u e few =
    let short : length text < 255 = omega (arith, ap length e, length-take 255 text) in
    let whole_is : take 255 text ≡ text = take_all 255 text (omega arith) in
    rw (e, whole_is) (sym (take_all 255 (text ++ u ∷ []) (omega (arith, length-append text (u ∷ [])))))

pub push_none : (items text : List ℕ) (u : ℕ) → items ≡ take 255 text → 255 ≤ length items → items ≡ take 255 (text ++ u ∷ [])
push_none items text u e many =
    let long : 255 ≤ length text = omega (arith, ap length e, length-take 255 text) in
    e ∙ sym (take-append-le 255 text (u ∷ []) long)
