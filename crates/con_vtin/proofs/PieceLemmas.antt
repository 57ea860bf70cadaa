-- Pieces are keys, and the control sequences that give none.
use Rattle.std.proofs.Common.{◌≡◌, ◌≢◌, ℕ, Bool, true, false, cond, ◌==◌, ◌&&◌, List, [], ◌∷◌, ◌++◌, Option, Some, None, refl, sym, ◌∙◌}
use Rattle.std.specs.Prelude.{not, option_map, nat_le}
use Rattle.std.proofs.lemmas.List.{map-append}
use Rattle.con_units.specs.Split.{Split, begun, next}
use Rattle.con_units.specs.Words.Split.{ended, items_or_none}
use Rattle.con_records.specs.declared.record.Key.{Key}
use Rattle.con_vtin.specs.Keys.{is_front, whole, broken}
use Rattle.con_vtin.specs.Words.Keys.{grammar}
use Rattle.con_vtin.specs.Pieces.{Piece, Typed, typed, pieces_of, piece_grammar, is_control, gives_none}
use Rattle.con_vtin.specs.Words.Pieces.{ended_by, ended_piece, IsReadInPieces}
use Rattle.con_vtin.specs.Holding.{Steps, held_of, is_text, ends_keyless, ends_none}
use Rattle.con_vtin.specs.declared.unfinished.Step.{Step}
use Rattle.con_vtin.specs.declared.unfinished.Step.TheVariants as steps
use Rattle.con_vtin.proofs.Lists.{append_none, and_false, not_true, both}

begun_by : (f : Bool) (u : ℕ) (o : Option (List Key)) → let s : Split Key = cond f (record { items = []; tail = u ∷ [] }) (record { items = items_or_none o; tail = [] }) in
    ◌≡◌ {A = Split Piece} (cond f (record { items = []; tail = u ∷ [] }) (record { items = items_or_none (option_map (pieces_of (u ∷ []) false) o); tail = [] })) (record { items = typed s.items; tail = s.tail })
begun_by true u o = refl
begun_by false u None = refl
begun_by false u (Some keys) = refl

begun_pieces : (u : ℕ) → begun piece_grammar u ≡ record { items = typed (begun grammar u).items; tail = (begun grammar u).tail }
begun_pieces u = begun_by (is_front (u ∷ [])) u (whole (u ∷ []))

none_alone : (u : ℕ) → ended_by [] u ≡ None
none_alone u = rw (and_false (not (is_front (u ∷ [])))) refl

next_by : (f c : Bool) (v : ℕ) (front : List ℕ) (u : ℕ) (bytes : List ℕ) (o : Option (List Key)) → let s : Split Key = cond f (record { items = []; tail = bytes }) (ended grammar (v ∷ front) u o) in
    ◌≡◌ {A = Split Piece} (cond f (record { items = []; tail = bytes }) (ended piece_grammar (v ∷ front) u (option_map (pieces_of bytes (c && gives_none o)) o)))
    (record { items = typed s.items ++ ended_piece (cond (not f && (c && gives_none o)) (Some bytes) None); tail = s.tail })
next_by true c v front u bytes o = refl
next_by false c v front u bytes None =
    rw (and_false c, begun_pieces u, append_none (typed (broken (v ∷ front) ++ (begun grammar u).items)), map-append Typed (broken (v ∷ front)) (begun grammar u).items) refl
next_by false true v front u bytes (Some []) = refl
next_by false false v front u bytes (Some []) = refl
next_by false true v front u bytes (Some (k ∷ ks)) = rw (append_none (typed (k ∷ ks))) refl
next_by false false v front u bytes (Some (k ∷ ks)) = rw (append_none (typed (k ∷ ks))) refl

pub read_in_pieces : IsReadInPieces
unfolding next
read_in_pieces [] u = rw (none_alone u, append_none (typed (begun grammar u).items)) (begun_pieces u)
read_in_pieces (v ∷ front) u = next_by (is_front (v ∷ front ++ u ∷ [])) (is_control (v ∷ front ++ u ∷ [])) v front u (v ∷ front ++ u ∷ []) (whole (v ∷ front ++ u ∷ []))

-- ---- the reader

pub steps_end : (s : Step) (bytes : List ℕ) (b : ℕ) → Steps s bytes b → ends_none s ≡ (not (is_front (bytes ++ b ∷ [])) && gives_none (whole (bytes ++ b ∷ [])))
steps_end (steps.GoesOn phase) bytes b h = rw h.0 refl
steps_end (steps.Ends None) bytes b h = rw (h.0, h.1) refl
steps_end (steps.Ends (Some key)) bytes b h = rw (h.0, h.1) refl
steps_end steps.Breaks bytes b h = rw (h.0, h.1) refl

pub keyless_control : (s : Step) (bytes body : List ℕ) (b : ℕ) → bytes ≡ 0x1B ∷ 0x5B ∷ body → Steps s bytes b → ends_none s ≡ ends_keyless bytes b
keyless_control s bytes body b is h = steps_end s bytes b h ∙ rw is refl

pub keyless_escape : (bytes : List ℕ) (b : ℕ) → bytes ≡ 0x1B ∷ [] → false ≡ ends_keyless bytes b
unfolding is_front
keyless_escape bytes b is = rw is (by_bracket (b == 0x5B) _ _)
  where
    by_bracket : (t x : Bool) (g : Bool) → false ≡ (not (cond t true x) && (t && g))
    by_bracket true x g = refl
    by_bracket false x g = sym (and_false (not x))

pub keyless_single : (bytes : List ℕ) (b : ℕ) → bytes ≡ 0x1B ∷ 0x4F ∷ [] → false ≡ ends_keyless bytes b
keyless_single bytes b is = rw (is, and_false (not (is_front (0x1B ∷ 0x4F ∷ b ∷ [])))) refl

no_escape : (v : ℕ) (front : List ℕ) → is_text (v ∷ front) ≡ true → (v == 0x1B) ≡ false
no_escape v front h = not_true (v == 0x1B) (both (not (v == 0x1B)) (nat_le _ 2) h).0

pub none_after_text : (text : List ℕ) (b : ℕ) → is_text text ≡ true → ended_by text b ≡ None
none_after_text [] b h = none_alone b
none_after_text (v ∷ []) b h = rw (no_escape v [] h, and_false (not (is_front (v ∷ b ∷ [])))) refl
none_after_text (v ∷ a ∷ front) b h = rw (no_escape v (a ∷ front) h, and_false (not (is_front (v ∷ a ∷ front ++ b ∷ [])))) refl

pub held_some : (sequence text : List ℕ) → sequence ≢ [] → held_of sequence text ≡ sequence
held_some [] text some = absurd (some refl)
held_some (b ∷ bs) text some = refl
