-- Marks in a page of their own.
use Rattle.std.proofs.Common.{◌≡◌, ℕ, suc, ◌+◌, ◌*◌, ◌<◌, ◌≤◌, Bool, true, false, cond, not, ◌&&◌, ◌||◌, ◌==◌, List, [], ◌∷◌, ◌++◌, length, drop, arith, refl, sym, ap, ◌∙◌, get_or, drop-cons, add-one}
use Rattle.std.specs.Prelude.{fold, replicate, min, max, Option, Some, None, option_to_list}
use Rattle.std.proofs.lemmas.List.{drop_all}
use Rattle.std.proofs.lemmas.Bool.Decides.{nat_tests}
use Rattle.con_units.specs.Glyph.{Glyph, blank_in}
use Rattle.con_vtgram.specs.declared.item.Csi.{Csi}
use Rattle.con_vtgram.specs.declared.item.Item.{Item}
use Rattle.con_vtgram.specs.declared.item.Item.TheVariants as items
use Rattle.con_vtgram.specs.Pen.{attr_of, starting_pen, indexed, pen_after}
use Rattle.con_vtgram.specs.Sgr.{pen_by}
use Rattle.con_vtgram.specs.Sgr.{styled_in, styled, with_next}
use Rattle.con_vtgram.specs.State.{item_of}
use Rattle.con_vtgram.specs.declared.found.Found.{Found}
use Rattle.con_vtgram.specs.declared.found.Found.TheVariants as founds
use Rattle.con_term.specs.Page.{Page, IsPage, blank_page}
use Rattle.con_term.specs.Effect.{effect, plain_effect}
use Rattle.con_vtgram.specs.Sgr.{pen_of}
use Rattle.con_term.specs.SidesLaws.{effect-sides}
use Rattle.con_vtgram.specs.declared.pen.Pen.{Pen}
use Rattle.con_vtgram.specs.declared.pen.Layer.TheVariants.{Fore, Back}
use Rattle.con_vtgram.specs.declared.pen.Styling.{Styling}
use Rattle.con_vtgram.specs.declared.pen.ParameterRole.{ParameterRole}
use Rattle.con_vtgram.specs.declared.pen.ParameterRole.TheVariants.{Plain, Kind, Number, Skip, Over}
use Rattle.con_audit.specs.Known.{Known, ink, marked, no_marks, learned, all_learned, rests_on_cursor, tells_pen, tells_visible, tells_cursor, has_zero, is_single, final, resets}
use Rattle.con_audit.specs.Partial.{Partial, unknown}
use Rattle.con_audit.specs.Agrees.{SameCells, none, more}
use Rattle.con_audit.specs.Flags.{any_of, known_by, is_sgr, flags_after, forgotten, shade_csi, lift_csi, plain_csi, next_role}
use Rattle.con_audit.specs.declared.marking.Flags.{Flags}
use Rattle.con_audit.proofs.Near.{look, effect-alike}
use Rattle.con_audit.proofs.Tells.{effect-visible, pen_after_item, effect-pen, plain_final}

-- ---- a zero, parameter by parameter

role_of : (p : Pen) (n : ℕ) (at : ParameterRole) → (styled_in p n at).reading ≡ next_role at n
role_of p n Plain = by (n == 38) (n == 48)
  where
    by : (a b : Bool) → (cond a (with_next p (Kind Fore)) (cond b (with_next p (Kind Back)) (with_next (pen_after p n) Plain))).reading ≡ cond a (Kind Fore) (cond b (Kind Back) Plain)
    by true b = refl
    by false true = refl
    by false false = refl
role_of p n (Kind layer) = refl
role_of p n (Number layer) = refl
role_of p n (Skip k) = refl
role_of p n Over = refl

zero_same : (r q : Styling) (ns : List ℕ) → r.reading ≡ q.reading → has_zero r ns ≡ has_zero q ns
unfolding has_zero
zero_same r q [] e = refl
zero_same r q (n ∷ ns) e =
    let f : (styled r n).reading ≡ (styled q n).reading = role_of r.pen n r.reading ∙ ap (λ at. next_role at n) e ∙ sym (role_of q.pen n q.reading) in
    let g = zero_same (styled r n) (styled q n) ns f in
    ap (λ at. (is_single at && (n == 0)) || has_zero (styled r n) ns) e ∙ ap (λ b. (is_single q.reading && (n == 0)) || b) g

abbrev at : ParameterRole → Styling
at role = with_next starting_pen role

-- one parameter more, which is no such 0
pub zero_more : (role : ParameterRole) (n : ℕ) (ns : List ℕ) → (is_single role && (n == 0)) ≡ false → has_zero (at (next_role role n)) ns ≡ has_zero (at role) (n ∷ ns)
unfolding has_zero
zero_more role n ns e = rw e (zero_same (at (next_role role n)) (styled (at role) n) ns (sym (role_of starting_pen n role)))

pub zero_here : (role : ParameterRole) (n : ℕ) (ns : List ℕ) → (is_single role && (n == 0)) ≡ true → has_zero (at role) (n ∷ ns) ≡ true
unfolding has_zero
zero_here role n ns e = rw e refl

pub zero_none : (role : ParameterRole) → has_zero (at role) [] ≡ false
unfolding has_zero
zero_none role = refl

-- ---- marks go on as the page does

same-self : (ms xs : List Glyph) → length ms ≡ length xs → SameCells ms xs xs
same-self [] [] e = none
same-self [] (x ∷ xs) e = absurd (cc)
same-self (m ∷ ms) [] e = absurd (cc)
same-self (m ∷ ms) (x ∷ xs) e = more (λ s. refl) (same-self ms xs (cc))

no_sgr : (i : Item) (p : Pen) → is_sgr i ≡ false → pen_after_item i p ≡ p
no_sgr (items.Csi c) p e = by (c.inter == 0) c.private e
  where
    by : (a b : Bool) → (cond (a && not b) c.last 0 == 0x6D) ≡ false → cond a (cond b p (cond (c.last == 0x6D) (pen_of c p) p)) p ≡ p
    by true true e = refl
    by true false e = rw e refl
    by false b e = refl
no_sgr (items.Print u) p e = refl
no_sgr (items.Control u) p e = refl
no_sgr (items.Escape u) p e = refl
no_sgr (items.Charset u) p e = refl
no_sgr items.Title p e = refl

quiet_pen : (i : Item) → is_sgr i ≡ false → tells_pen i ≡ false
quiet_pen (items.Csi c) e = rw e refl
quiet_pen (items.Print u) e = refl
quiet_pen (items.Control u) e = refl
quiet_pen (items.Escape u) e = refl
quiet_pen (items.Charset u) e = refl
quiet_pen items.Title e = refl

or_false : (a b : Bool) → b ≡ false → (a || b) ≡ a
or_false true b e = refl
or_false false b e = e

module _ (s : Page) (k : Known) (i : Item) (len : length k.marks ≡ length s.cells) where
  go_on : is_sgr i ≡ false → effect (marked s k) i ≡ record (effect s i) { cells = (effect (marked s k) i).cells; pen = ink (k.pen || tells_pen i) }
  go_on e =
      let a = (effect-alike s k.marks s.cells (ink k.pen) s.pen s.visible s.visible (same-self k.marks s.cells len) (λ h. refl) i).marks in
      let v : (effect (marked s k) i).visible ≡ (effect s i).visible = effect-visible (marked s k) i ∙ sym (effect-visible s i) in
      let p : (effect (marked s k) i).pen ≡ ink (k.pen || tells_pen i) = effect-pen (marked s k) i ∙ no_sgr i (ink k.pen) e ∙ ap ink (sym (or_false k.pen (tells_pen i) (quiet_pen i e))) in
      a ∙ ap (λ x. look (effect s i) (effect (marked s k) i).cells (effect (marked s k) i).pen x) v ∙ ap (λ x. record (effect s i) { cells = (effect (marked s k) i).cells; pen = x }) p

  -- another item than SGR
  pub marks_item : is_sgr i ≡ false → cond (not k.cursor && rests_on_cursor i) (forgotten (effect (marked s k) i)) (effect (marked s k) i) ≡ marked (effect s i) (learned s k i)
  unfolding learned
  marks_item e = by (not k.cursor && rests_on_cursor i) (go_on e)
    where
      by : (b : Bool) → effect (marked s k) i ≡ record (effect s i) { cells = (effect (marked s k) i).cells; pen = ink (k.pen || tells_pen i) }
          → cond b (forgotten (effect (marked s k) i)) (effect (marked s k) i) ≡ record (effect s i) { cells = cond b (no_marks s) (effect (marked s k) i).cells; pen = ink (k.pen || tells_pen i) }
      by false g = g
      by true g =
          let d = effect-sides s i in
          ap forgotten g ∙ ap (λ n. record (effect s i) { cells = replicate n (blank_in (attr_of (ink false))); pen = ink (k.pen || tells_pen i) }) (rw (d.0, d.1) refl)

-- SGR
pen_only : (s : Page) (c : Csi) → is_sgr (items.Csi c) ≡ true → effect s (items.Csi c) ≡ record s { pen = pen_of c s.pen }
unfolding effect plain_effect
pen_only s c e = let f = plain_final c 0x6D refl e in rw (f.0, f.1, f.2) refl

ink_or : (k t : Bool) → cond (not k && t) starting_pen (ink k) ≡ ink (k || t)
ink_or true t = refl
ink_or false true = refl
ink_or false false = refl

no_rest : (c : Csi) → is_sgr (items.Csi c) ≡ true → rests_on_cursor (items.Csi c) ≡ false
no_rest c e = let l : final (items.Csi c) ≡ 0x6D = grind (arith, nat_tests) in rw l refl

pub marks_sgr : (s : Page) (k : Known) (c : Csi) → is_sgr (items.Csi c) ≡ true → record (marked s k) { pen = cond (not k.pen && resets c) starting_pen (ink k.pen) } ≡ marked (effect s (items.Csi c)) (learned s k (items.Csi c))
unfolding learned
marks_sgr s k c e =
    let a = pen_only s c e in let b = pen_only (marked s k) c e in let n = no_rest c e in
    let r : tells_pen (items.Csi c) ≡ resets c = rw e refl in
    rw (n, a, b, r) (ap (λ p. record (marked s k) { pen = p }) (ink_or k.pen (resets c)) ∙ by (not k.cursor))
  where
    by : (x : Bool) → record (marked s k) { pen = ink (k.pen || resets c) } ≡ record (marked s k) { cells = cond (x && false) (no_marks s) k.marks; pen = ink (k.pen || resets c) }
    by true = refl
    by false = refl

-- ---- all marks become unknown

drop_it : (cells : List Glyph) (n : ℕ) → length cells ≡ n → drop n cells ≡ []
drop_it cells n e = drop_all n cells (omega (arith, e))

shaded_pen : (b : Bool) → pen_by (ink b) (38 ∷ 5 ∷ 16 ∷ []) ≡ ink false
unfolding pen_by indexed
shaded_pen true = refl
shaded_pen false = refl

pub forgets : (m : Page) (b : Bool) → m.pen ≡ ink b → length m.cells ≡ m.h * m.w → m.h ≤ 256 → effect (effect m (items.Csi shade_csi)) (items.Csi lift_csi) ≡ record (forgotten m) { pen = ink false }
unfolding effect plain_effect
forgets m b p len few =
    let h : min (max 256 1) m.h ≡ m.h = omega arith in
    rw (p, shaded_pen b, h) (ap (λ cells. record m { cells = cells ++ replicate (m.h * m.w) (blank_in (attr_of (ink false))); pen = ink false }) (drop_it m.cells (m.h * m.w) len))

pub resets_marks : (m : Page) → effect m (items.Csi plain_csi) ≡ record m { pen = starting_pen }
unfolding effect plain_effect
resets_marks m = refl

-- the marks of a page of which nothing is known
abbrev pub first_marks : ℕ → ℕ → Page
first_marks w h = record (blank_page w h) { cells = no_marks (blank_page w h); pen = ink false }

pub begins : (w h : ℕ) (m n o : Page) (s : Csi) → m ≡ blank_page w h → n ≡ forgotten m → s ≡ shade_csi → o ≡ effect n (items.Csi s) → o ≡ first_marks w h
unfolding effect plain_effect pen_by indexed
begins w h m n o s e f g is = is ∙ ap (λ c. effect n (items.Csi c)) g ∙ ap (λ (x : Page). effect x (items.Csi shade_csi)) (f ∙ ap forgotten e)

pub first_tied : (w h : ℕ) (p m : Page) (f : Flags) → f.pen ≡ false → p ≡ blank_page w h → m ≡ first_marks w h → m ≡ marked p (known_by m f)
first_tied w h p m f n e is = rw (n, e, is) refl

pub first_unknown : (w h : ℕ) (p m : Page) (bytes units : List ℕ) → p ≡ blank_page w h → m ≡ first_marks w h → bytes ≡ [] → units ≡ []
    → ◌≡◌ {A = Partial} (record { terminal = record { page = p; bytes = bytes; units = units }; known = record { marks = m.cells; pen = false; visible = false; cursor = false } }) (unknown w h)
first_unknown w h p m bytes units e is b u = rw (e, is, b, u) refl

-- ---- what the code does

drop_next : (ns : List ℕ) (k n : ℕ) → n ≡ get_or ns k 0 → k < length ns → drop k ns ≡ n ∷ drop (k + 1) ns
drop_next ns k n is lt = rw (add-one k) (drop-cons ns k 0 lt ∙ ap (λ x. x ∷ drop (suc k) ns) (sym is))

pub zero_found : (ns : List ℕ) (k : ℕ) (role : ParameterRole) (n : ℕ) → n ≡ get_or ns k 0 → k < length ns → (is_single role && (n == 0)) ≡ true → has_zero (at role) (drop k ns) ≡ true
zero_found ns k role n is lt e = ap (has_zero (at role)) (drop_next ns k n is lt) ∙ zero_here role n (drop (k + 1) ns) e

pub zero_step : (ns : List ℕ) (k : ℕ) (role : ParameterRole) (n : ℕ) → n ≡ get_or ns k 0 → k < length ns → (is_single role && (n == 0)) ≡ false → has_zero (at (next_role role n)) (drop (k + 1) ns) ≡ has_zero (at role) (drop k ns)
zero_step ns k role n is lt e = zero_more role n (drop (k + 1) ns) e ∙ ap (has_zero (at role)) (sym (drop_next ns k n is lt))

pub zero_end : (ns : List ℕ) (k : ℕ) (role : ParameterRole) → length ns ≤ k → has_zero (at role) (drop k ns) ≡ false
zero_end ns k role e = ap (has_zero (at role)) (drop_all k ns e) ∙ zero_none role

shaded : (m : Page) (b : Bool) (x y : Page) (s l : Csi) → m.pen ≡ ink b → IsPage m → s ≡ shade_csi → l ≡ lift_csi → x ≡ effect m (items.Csi s) → y ≡ effect x (items.Csi l) → y ≡ record (forgotten m) { pen = ink false }
shaded m b x y s l p is e f g h =
    h ∙ ap (λ z. effect z (items.Csi l)) g ∙ ap (λ c. effect (effect m (items.Csi c)) (items.Csi l)) e ∙ ap (λ c. effect (effect m (items.Csi shade_csi)) (items.Csi c)) f ∙ forgets m b p is.cells is.height

pub forgot_unknown : (m x y : Page) (s l : Csi) (b : Bool) → b ≡ false → m.pen ≡ ink b → IsPage m → s ≡ shade_csi → l ≡ lift_csi → x ≡ effect m (items.Csi s) → y ≡ effect x (items.Csi l) → y ≡ forgotten m
forgot_unknown m x y s l b n p is e f g h = shaded m b x y s l p is e f g h ∙ ap (λ q. record (forgotten m) { pen = q }) (sym (p ∙ ap ink n))

pub forgot_known : (m x y z : Page) (s l q : Csi) (b : Bool) → b ≡ true → m.pen ≡ ink b → IsPage m → s ≡ shade_csi → l ≡ lift_csi → x ≡ effect m (items.Csi s) → y ≡ effect x (items.Csi l) → q ≡ plain_csi → z ≡ effect y (items.Csi q) → z ≡ forgotten m
forgot_known m x y z s l q b n p is e f g h i j =
    j ∙ ap (λ w. effect w (items.Csi q)) (shaded m b x y s l p is e f g h) ∙ ap (λ c. effect (record (forgotten m) { pen = ink false }) (items.Csi c)) i ∙ resets_marks (record (forgotten m) { pen = ink false })
    ∙ ap (λ q. record (forgotten m) { pen = q }) (sym (p ∙ ap ink n))

pub pen_stays : (m n : Page) (o : Option Item) (p : Pen) → m.pen ≡ p → n ≡ fold effect m (option_to_list o) → any_of is_sgr o ≡ false → n.pen ≡ p
pen_stays m n None p d e f = ap (λ (x : Page). x.pen) e ∙ d
pen_stays m n (Some i) p d e f = ap (λ (x : Page). x.pen) e ∙ effect-pen m i ∙ no_sgr i m.pen f ∙ d

and_false : (a : Bool) → (a && false) ≡ false
and_false true = refl
and_false false = refl

pub mark_other : (s m n : Page) (f : Flags) (o : Option Item) → length m.cells ≡ length s.cells → m ≡ marked s (known_by m f) → any_of is_sgr o ≡ false
    → n ≡ cond (not f.cursor && any_of rests_on_cursor o) (forgotten (fold effect m (option_to_list o))) (fold effect m (option_to_list o))
    → n ≡ marked (fold effect s (option_to_list o)) (all_learned s (known_by m f) (option_to_list o))
mark_other s m n f None len tied e is = is ∙ ap (λ b. cond b (forgotten m) m) (and_false (not f.cursor)) ∙ tied
mark_other s m n f (Some i) len tied e is =
    is ∙ ap (λ x. cond (not f.cursor && rests_on_cursor i) (forgotten (effect x i)) (effect x i)) tied ∙ marks_item s (known_by m f) i len e

pub mark_sgr : (s m n : Page) (f : Flags) (found : Found) (u : ℕ) (c : Csi) → m ≡ marked s (known_by m f) → any_of is_sgr (item_of found u c) ≡ true
    → n ≡ record m { pen = cond (not f.pen && resets c) starting_pen (ink f.pen) }
    → n ≡ marked (fold effect s (option_to_list (item_of found u c))) (all_learned s (known_by m f) (option_to_list (item_of found u c)))
mark_sgr s m n f founds.Sequence u c tied e is = is ∙ ap (λ (x : Page). record x { pen = cond (not f.pen && resets c) starting_pen (ink f.pen) }) tied ∙ marks_sgr s (known_by m f) c e
mark_sgr s m n f founds.Nothing u c tied e is = absurd (cc)
mark_sgr s m n f founds.Print u c tied e is = absurd (cc)
mark_sgr s m n f founds.Control u c tied e is = absurd (cc)
mark_sgr s m n f founds.Escape u c tied e is = absurd (cc)
mark_sgr s m n f founds.Charset u c tied e is = absurd (cc)
mark_sgr s m n f founds.Title u c tied e is = absurd (cc)

-- pages that are tied have as many cells
pub tied_length : (s m : Page) (f : Flags) → IsPage s → IsPage m → m ≡ marked s (known_by m f) → length m.cells ≡ length s.cells
tied_length s m f p q e = q.cells ∙ (let h : m.h ≡ s.h = ap (λ (x : Page). x.h) e in let w : m.w ≡ s.w = ap (λ (x : Page). x.w) e in rw (h, w) refl) ∙ sym p.cells

pub tied_pen : (s m : Page) (f : Flags) → m ≡ marked s (known_by m f) → m.pen ≡ ink f.pen
tied_pen s m f e = ap (λ (x : Page). x.pen) e

-- what is known goes on with the flags
pub known_next : (s m n : Page) (f : Flags) (o : Option Item) → n ≡ marked (fold effect s (option_to_list o)) (all_learned s (known_by m f) (option_to_list o)) → known_by n (flags_after f o) ≡ all_learned s (known_by m f) (option_to_list o)
unfolding learned
known_next s m n f None e =
    let c : n.cells ≡ m.cells = ap (λ (x : Page). x.cells) e in
    let mk : List Glyph → Bool → Bool → Bool → Known = λ ms p v x. record { marks = ms; pen = p; visible = v; cursor = x } in
    ap (λ ms. mk ms (f.pen || false) (f.visible || false) (f.cursor || false)) c ∙ ap (λ b. mk m.cells b (f.visible || false) (f.cursor || false)) (or_false f.pen false refl)
    ∙ ap (λ b. mk m.cells f.pen b (f.cursor || false)) (or_false f.visible false refl) ∙ ap (λ b. mk m.cells f.pen f.visible b) (or_false f.cursor false refl)
known_next s m n f (Some i) e = ap (λ (x : Page). let k : Known = record { marks = x.cells; pen = f.pen || tells_pen i; visible = f.visible || tells_visible i; cursor = f.cursor || tells_cursor i } in k) e

pub pen_known : (m x : Page) (c : Csi) (k t : Bool) → m.pen ≡ ink k → c ≡ plain_csi → (not k && t) ≡ true → x ≡ effect m (items.Csi c) → x ≡ record m { pen = cond (not k && t) starting_pen (ink k) }
pen_known m x c k t p e f is = is ∙ ap (λ d. effect m (items.Csi d)) e ∙ resets_marks m ∙ ap (λ b. record m { pen = cond b starting_pen (ink k) }) (sym f)

pub pen_kept : (m : Page) (k t : Bool) → m.pen ≡ ink k → (not k && t) ≡ false → m ≡ record m { pen = cond (not k && t) starting_pen (ink k) }
pen_kept m k t p f = ap (λ q. record m { pen = q }) p ∙ ap (λ b. record m { pen = cond b starting_pen (ink k) }) (sym f)
