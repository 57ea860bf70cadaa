-- What the command makes of at most two words, or of `audit` and four.
use Rattle.std.proofs.Common.{◌≡◌, ◌⊎◌, inl, inr, Bool, true, false, List, [], ◌∷◌, codes, refl, ap, sym, subst, ◌∙◌, Option, None}
use Rattle.std.specs.Prelude.{◌&&◌, if◌then◌else◌}
use Rattle.std.specs.List.{list_all}
use Rattle.std.proofs.lemmas.Bool.{and_parts}
use Rattle.std.proofs.lemmas.Slice.Eq.{bytes_eq-Decides}
use Rattle.std.specs.Str.{bytes_eq}
use Rattle.clap.specs.Words.{fault_of, subcommand_of, Text, Row, Kinds, IsAmong}
use Rattle.clap.specs.declared.error.kind.ErrorKind.{ErrorKind}
use Rattle.clap.specs.declared.error.kind.ErrorKind.TheVariants as kind
use Rattle.con_command.specs.Command.{host}
use Rattle.con_words.specs.Naming.{form_met, may_be_form}
use Rattle.con_words.specs.Words.{Asked, is_word, of_words, form_of}
use Rattle.con_words.proofs.Alone.{Reads, some_kinds, nothing_refused, type_alone, play_alone, solo_alone, gen_alone, run_alone, mirror_alone, audit_alone}
use Rattle.con_words.proofs.WithWord.{type_and_more, audit_and_one, play_taken, play_met, solo_taken, solo_met, gen_taken, gen_met, run_taken, run_met, mirror_taken, mirror_met}
use Rattle.con_words.proofs.WithFiles.{audit_taken, audit_met}
use Rattle.con_words.proofs.Other.{IsOther, other_reads, no_hyphen, named}

no_more : (w : Text) → IsOther w → of_words (w ∷ []) ≡ None
no_more w o = rw o.is_no_type refl

no_word : (w v : Text) → IsOther w → of_words (w ∷ v ∷ []) ≡ None
no_word w v o = rw (o.is_no_play, o.is_no_solo, o.is_no_gen, o.is_no_run, o.is_no_mirror) refl

abbrev ReadsBefore : List Text → Text → Type 0
ReadsBefore rest w = is_word w ≡ true → Reads (w ∷ rest)

one_word : (w : Text) → ReadsBefore [] w
one_word = named (ReadsBefore []) (λ e. inl type_alone) (λ e. inr play_alone) (λ e. inr solo_alone) (λ e. inr gen_alone) (λ e. inr run_alone) (λ e. inr mirror_alone) (λ e. inr audit_alone)
    (λ w o e. other_reads w [] (no_more w o) e o)

two_words : (v w : Text) → is_word v ≡ true → ReadsBefore (v ∷ []) w
two_words [] w i = absurd (cc)
two_words (y ∷ ys) w i = let h = no_hyphen _ i in named (ReadsBefore ((y ∷ ys) ∷ [])) (λ e. inr (some_kinds _ _ _ (type_and_more y ys h), refl))
    (λ e. inl (play_taken y ys h, play_met y ys h))
    (λ e. inl (solo_taken y ys h, solo_met y ys h))
    (λ e. inl (gen_taken y ys h, gen_met y ys h))
    (λ e. inl (run_taken y ys h, run_met y ys h))
    (λ e. inl (mirror_taken y ys h, mirror_met y ys h))
    (λ e. inr (some_kinds _ _ _ (audit_and_one y ys h), refl))
    (λ w o e. other_reads w ((y ∷ ys) ∷ []) (no_word w (y ∷ ys) o) e o) w

audit_reads : (a b c d : Text) → is_word a ≡ true → is_word b ≡ true → is_word c ≡ true → is_word d ≡ true → Reads (codes "audit" ∷ a ∷ b ∷ c ∷ d ∷ [])
audit_reads [] b c d p q r s = absurd (cc)
audit_reads (y ∷ ys) [] c d p q r s = absurd (cc)
audit_reads (y ∷ ys) (z ∷ zs) [] d p q r s = absurd (cc)
audit_reads (y ∷ ys) (z ∷ zs) (u ∷ us) [] p q r s = absurd (cc)
audit_reads (y ∷ ys) (z ∷ zs) (u ∷ us) (v ∷ vs) p q r s =
    let i = no_hyphen _ p in let j = no_hyphen _ q in let k = no_hyphen _ r in let l = no_hyphen _ s in
    inl (audit_taken y z u v ys zs us vs i j k l, audit_met y z u v ys zs us vs i j k l)

-- ---- the words before the command reads them

record AreFiles (w a b c d : Text) : Type 0 where
  name : codes "audit" ≡ w
  session : is_word a ≡ true
  link : is_word b ≡ true
  stream : is_word c ≡ true
  last : is_word d ≡ true

all_of : (t a b c d : Bool) → (t && a && b && c && d) ≡ true → (t ≡ true) × (a ≡ true) × (b ≡ true) × (c ≡ true) × (d ≡ true)
all_of true true true true true e = (refl, refl, refl, refl, refl)
all_of true true true true false e = absurd (cc)
all_of true true true false d e = absurd (cc)
all_of true true false c d e = absurd (cc)
all_of true false b c d e = absurd (cc)
all_of false a b c d e = absurd (cc)

files_are : (w a b c d : Text) → may_be_form (w ∷ a ∷ b ∷ c ∷ d ∷ []) ≡ true → AreFiles w a b c d
files_are w a b c d few =
    let p = all_of (bytes_eq w (codes "audit")) (is_word a) (is_word b) (is_word c) (is_word d) few in
    record { name = sym ((bytes_eq-Decides w (codes "audit")).0 p.0); session = p.1; link = p.2; stream = p.3; last = p.4 }

pub reads : (ws : List Text) → may_be_form ws ≡ true → Reads ws
reads [] few = inr (nothing_refused, refl)
reads (w ∷ []) few = one_word w few
reads (w ∷ v ∷ []) few = let p = and_parts (is_word w) (is_word v) few in two_words v w p.1 p.0
reads (w ∷ a ∷ b ∷ []) few = absurd (cc)
reads (w ∷ a ∷ b ∷ c ∷ []) few = absurd (cc)
reads (w ∷ a ∷ b ∷ c ∷ d ∷ []) few =
    let p = files_are w a b c d few in
    subst (λ n. Reads (n ∷ a ∷ b ∷ c ∷ d ∷ [])) p.name (audit_reads a b c d p.session p.link p.stream p.last)
reads (w ∷ a ∷ b ∷ c ∷ d ∷ e ∷ rest) few = absurd (cc)

under_all : (ws : List Text) → list_all is_word ws ≡ true → form_of ws ≡ of_words ws
under_all ws all = rw all refl

one_is : (a : Bool) → a ≡ true → (a && true) ≡ true
one_is a p = rw p refl

both_are : (a b : Bool) → (a && b) ≡ true → (a && (b && true)) ≡ true
both_are true b e = one_is b e
both_are false b e = e

four_are : (a b c d : Bool) → a ≡ true → b ≡ true → c ≡ true → d ≡ true → (a && (b && (c && (d && true)))) ≡ true
four_are a b c d p q r s = rw (p, q, r, s) refl

files_form : (a b c d : Text) → is_word a ≡ true → is_word b ≡ true → is_word c ≡ true → is_word d ≡ true
    → form_of (codes "audit" ∷ a ∷ b ∷ c ∷ d ∷ []) ≡ of_words (codes "audit" ∷ a ∷ b ∷ c ∷ d ∷ [])
files_form a b c d p q r s = under_all (codes "audit" ∷ a ∷ b ∷ c ∷ d ∷ []) (four_are (is_word a) (is_word b) (is_word c) (is_word d) p q r s)

plain_form : (ws : List Text) → may_be_form ws ≡ true → form_of ws ≡ of_words ws
plain_form [] few = refl
plain_form (w ∷ []) few = under_all (w ∷ []) (one_is _ few)
plain_form (w ∷ v ∷ []) few = under_all (w ∷ v ∷ []) (both_are _ _ few)
plain_form (w ∷ a ∷ b ∷ []) few = absurd (cc)
plain_form (w ∷ a ∷ b ∷ c ∷ []) few = absurd (cc)
plain_form (w ∷ a ∷ b ∷ c ∷ d ∷ []) few =
    let p = files_are w a b c d few in
    subst (λ n. form_of (n ∷ a ∷ b ∷ c ∷ d ∷ []) ≡ of_words (n ∷ a ∷ b ∷ c ∷ d ∷ [])) p.name (files_form a b c d p.session p.link p.stream p.last)
plain_form (w ∷ a ∷ b ∷ c ∷ d ∷ e ∷ rest) few = absurd (cc)

-- other words are no form
none_of : (b : Bool) (o : Option Asked) → b ≡ false → (if b then o else None) ≡ None
none_of b o e = rw e refl

one_not : (a : Bool) → a ≡ false → (a && true) ≡ false
one_not a p = rw p refl

two_not : (a b : Bool) → (a && b) ≡ false → (a && (b && true)) ≡ false
two_not true b e = one_not b e
two_not false b e = refl

whatever : (b : Bool) → (if b then (let n : Option Asked = None in n) else None) ≡ None
whatever true = refl
whatever false = refl

-- of five words, where the first is not `audit`, or one of the others is no word
if_another : (n t x a b c d : Bool) (o : Option Asked) → (n ≡ true → t ≡ true) → (t && a && b && c && d) ≡ false
    → (if (x && (a && (b && (c && (d && true))))) then (if n then o else None) else None) ≡ None
if_another false t x a b c d o h e = whatever _
if_another true false x a b c d o h e = let bad : false ≡ true = h refl in absurd (cc)
if_another true true x false b c d o h e = none_of _ _ (never x)
  where
    never : (x : Bool) → (x && false) ≡ false
    never true = refl
    never false = refl
if_another true true false true b c d o h e = refl
if_another true true true true false c d o h e = refl
if_another true true true true true false d o h e = refl
if_another true true true true true true false o h e = refl
if_another true true true true true true true o h e = absurd (cc)

audit_word : (w : Text) → bytes_eq (codes "audit") w ≡ true → bytes_eq w (codes "audit") ≡ true
audit_word w e = (bytes_eq-Decides w (codes "audit")).1 (sym ((bytes_eq-Decides (codes "audit") w).0 e))

pub no_form : (ws : List Text) → may_be_form ws ≡ false → form_of ws ≡ None
no_form [] e = absurd (cc)
no_form (w ∷ []) e = none_of _ _ (one_not (is_word w) e)
no_form (w ∷ v ∷ []) e = none_of _ _ (two_not (is_word w) (is_word v) e)
no_form (w ∷ a ∷ b ∷ []) e = whatever _
no_form (w ∷ a ∷ b ∷ c ∷ []) e = whatever _
no_form (w ∷ a ∷ b ∷ c ∷ d ∷ []) e = if_another (bytes_eq (codes "audit") w) (bytes_eq w (codes "audit")) (is_word w) (is_word a) (is_word b) (is_word c) (is_word d) _ (audit_word w) e
no_form (w ∷ a ∷ b ∷ c ∷ d ∷ f ∷ rest) e = whatever _

-- what the command answers
pub taken : (ws : List Text) (rows : Option (Text × List Row)) → may_be_form ws ≡ true → fault_of host ws ≡ [] → rows ≡ subcommand_of host ws → form_met rows ≡ form_of ws
taken ws rows few ok is = elim (reads ws few) [
  | inl r ↦ ap form_met is ∙ (r.1 ∙ sym (plain_form ws few))
  | inr r ↦ absurd (r.0 ok)
]

no_kind : (k : ErrorKind) (ks : Kinds) → ks ≡ [] → IsAmong k ks → ⊥
no_kind k [] e i = i
no_kind k (x ∷ ks) e i = absurd (cc)

pub refused : (ws : List Text) (k : ErrorKind) → may_be_form ws ≡ true → ¬ (k ≡ kind.OutOfMemory) → (k ≡ kind.OutOfMemory) ⊎ IsAmong k (fault_of host ws) → form_of ws ≡ None
refused ws k few some why = elim why [
  | inl e ↦ absurd (some e)
  | inr among ↦ elim (reads ws few) [
    | inl r ↦ absurd (no_kind k _ r.0 among)
    | inr r ↦ plain_form ws few ∙ r.1
  ]
]
