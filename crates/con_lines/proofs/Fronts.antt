-- Lists that are read from the front: what was read so far, and what is left.
use Rattle.std.proofs.Common.{◌≡◌, ℕ, ◌+◌, ◌-◌, ◌<◌, ◌≤◌, List, [], ◌∷◌, ◌++◌, length, take, drop, get_or, refl, ap, sym, ◌∙◌, arith, append_assoc, append-nil, Option, Some, None, true, false}
use Rattle.std.specs.Prelude.{◌==◌}
use Rattle.std.proofs.lemmas.Bool.Decides.{nat_tests}
use Rattle.std.proofs.lemmas.List.{take_all, at_drop_more, at_drop_all}
use Rattle.con_units.specs.Attr.{plain}
use Rattle.con_units.specs.Glyph.{Glyph, cell_of}
use Rattle.con_values.specs.Cursors.{with_front}
use Rattle.serde_json.specs.Data.{Data}
use Rattle.serde_json.specs.View.{view, items_view}
use Rattle.serde_json.specs.declared.value.Value.{Value}
use Rattle.con_lines.specs.Told.{with_first, byte_told, unit_told, unhex_units, unhex_bytes, cells_from, all_in}

-- ---- whatever is read: `left` is what is left of it, `more` that without its first part, and `whole` what all of it gives

one_more : {A : Type 0} (done : List A) (x : A) (more : Option (List A)) → with_front (done ++ x ∷ []) more ≡ with_front done (with_first (Some x) more)
one_more done x None = refl
one_more done x (Some xs) = ap Some (append_assoc done (x ∷ []) xs)

goes_on : {A : Type 0} (done : List A) (x : A) (first : Option A) (left more whole : Option (List A)) → Some x ≡ first → left ≡ with_first first more
    → with_front done left ≡ whole → with_front (done ++ x ∷ []) more ≡ whole
goes_on done x first left more whole e step so_far =
    one_more done x more ∙ (ap (λ o. with_front done (with_first o more)) e ∙ (ap (with_front done) (sym step) ∙ so_far))

breaks : {A : Type 0} (done : List A) (first : Option A) (left more whole : Option (List A)) → None ≡ first → left ≡ with_first first more
    → with_front done left ≡ whole → whole ≡ None
breaks done first left more whole e step so_far = sym so_far ∙ (ap (with_front done) step ∙ sym (ap (λ o. with_front done (with_first o more)) e))

cut_off : {A : Type 0} (done : List A) (left whole : Option (List A)) → left ≡ None → with_front done left ≡ whole → whole ≡ None
cut_off done left whole nothing so_far = sym so_far ∙ ap (with_front done) nothing

all_read : {A : Type 0} (done : List A) (left whole : Option (List A)) → left ≡ Some [] → with_front done left ≡ whole → whole ≡ Some done
all_read done left whole nothing so_far = sym so_far ∙ (ap (with_front done) nothing ∙ ap Some (append-nil done))

-- ---- units of four digits

units_step : (us : List ℕ) → 4 ≤ length us
    → unhex_units us ≡ with_first (unit_told (get_or us 0 0) (get_or us 1 0) (get_or us 2 0) (get_or us 3 0))
    (unhex_units (take (length us - 4) (drop 4 us)))
units_step [] l = absurd (omega arith)
units_step (a ∷ []) l = absurd (omega arith)
units_step (a ∷ b ∷ []) l = absurd (omega arith)
units_step (a ∷ b ∷ c ∷ []) l = absurd (omega arith)
units_step (a ∷ b ∷ c ∷ d ∷ us) l =
    sym (ap (λ t. with_first (unit_told a b c d) (unhex_units t)) (take_all (length (a ∷ b ∷ c ∷ d ∷ us) - 4) us (omega arith)))

pub unit_read : (done us : List ℕ) (u : ℕ) (whole : Option (List ℕ)) → 4 ≤ length us
    → Some u ≡ unit_told (get_or us 0 0) (get_or us 1 0) (get_or us 2 0) (get_or us 3 0) → with_front done (unhex_units us) ≡ whole
    → with_front (done ++ u ∷ []) (unhex_units (take (length us - 4) (drop 4 us))) ≡ whole
unit_read done us u whole l e so_far =
    goes_on done u (unit_told (get_or us 0 0) (get_or us 1 0) (get_or us 2 0) (get_or us 3 0)) (unhex_units us)
    (unhex_units (take (length us - 4) (drop 4 us))) whole e (units_step us l) so_far

pub no_unit : (done us : List ℕ) (whole : Option (List ℕ)) → 4 ≤ length us
    → None ≡ unit_told (get_or us 0 0) (get_or us 1 0) (get_or us 2 0) (get_or us 3 0) → with_front done (unhex_units us) ≡ whole → whole ≡ None
no_unit done us whole l e so_far =
    breaks done (unit_told (get_or us 0 0) (get_or us 1 0) (get_or us 2 0) (get_or us 3 0)) (unhex_units us)
    (unhex_units (take (length us - 4) (drop 4 us))) whole e (units_step us l) so_far

pub units_read : (done us : List ℕ) (whole : Option (List ℕ)) → (length us == 0) ≡ true → with_front done (unhex_units us) ≡ whole → whole ≡ Some done
units_read done [] whole h so_far = all_read done (Some []) whole refl so_far
units_read done (u ∷ us) whole h so_far = absurd (grind (arith, nat_tests))

part_of_unit : (us : List ℕ) → length us < 4 → (length us == 0) ≡ false → unhex_units us ≡ None
part_of_unit [] l h = absurd (grind (arith, nat_tests))
part_of_unit (a ∷ []) l h = refl
part_of_unit (a ∷ b ∷ []) l h = refl
part_of_unit (a ∷ b ∷ c ∷ []) l h = refl
part_of_unit (a ∷ b ∷ c ∷ d ∷ us) l h = absurd (omega arith)

pub units_cut : (done us : List ℕ) (whole : Option (List ℕ)) → length us < 4 → (length us == 0) ≡ false → with_front done (unhex_units us) ≡ whole
    → whole ≡ None
units_cut done us whole l h so_far = cut_off done (unhex_units us) whole (part_of_unit us l h) so_far

-- ---- bytes of two digits

bytes_step : (bs : List ℕ) → 2 ≤ length bs
    → unhex_bytes bs ≡ with_first (byte_told (get_or bs 0 0) (get_or bs 1 0)) (unhex_bytes (take (length bs - 2) (drop 2 bs)))
bytes_step [] l = absurd (omega arith)
bytes_step (a ∷ []) l = absurd (omega arith)
bytes_step (a ∷ b ∷ bs) l = sym (ap (λ t. with_first (byte_told a b) (unhex_bytes t)) (take_all (length (a ∷ b ∷ bs) - 2) bs (omega arith)))

pub byte_read : (done bs : List ℕ) (b : ℕ) (whole : Option (List ℕ)) → 2 ≤ length bs → Some b ≡ byte_told (get_or bs 0 0) (get_or bs 1 0)
    → with_front done (unhex_bytes bs) ≡ whole → with_front (done ++ b ∷ []) (unhex_bytes (take (length bs - 2) (drop 2 bs))) ≡ whole
byte_read done bs b whole l e so_far =
    goes_on done b (byte_told (get_or bs 0 0) (get_or bs 1 0)) (unhex_bytes bs) (unhex_bytes (take (length bs - 2) (drop 2 bs))) whole e
    (bytes_step bs l) so_far

pub no_byte : (done bs : List ℕ) (whole : Option (List ℕ)) → 2 ≤ length bs → None ≡ byte_told (get_or bs 0 0) (get_or bs 1 0)
    → with_front done (unhex_bytes bs) ≡ whole → whole ≡ None
no_byte done bs whole l e so_far =
    breaks done (byte_told (get_or bs 0 0) (get_or bs 1 0)) (unhex_bytes bs) (unhex_bytes (take (length bs - 2) (drop 2 bs))) whole e
    (bytes_step bs l) so_far

pub bytes_read : (done bs : List ℕ) (whole : Option (List ℕ)) → (length bs == 0) ≡ true → with_front done (unhex_bytes bs) ≡ whole → whole ≡ Some done
bytes_read done [] whole h so_far = all_read done (Some []) whole refl so_far
bytes_read done (b ∷ bs) whole h so_far = absurd (grind (arith, nat_tests))

part_of_byte : (bs : List ℕ) → length bs < 2 → (length bs == 0) ≡ false → unhex_bytes bs ≡ None
part_of_byte [] l h = absurd (grind (arith, nat_tests))
part_of_byte (a ∷ []) l h = refl
part_of_byte (a ∷ b ∷ bs) l h = absurd (omega arith)

pub bytes_cut : (done bs : List ℕ) (whole : Option (List ℕ)) → length bs < 2 → (length bs == 0) ≡ false → with_front done (unhex_bytes bs) ≡ whole
    → whole ≡ None
bytes_cut done bs whole l h so_far = cut_off done (unhex_bytes bs) whole (part_of_byte bs l h) so_far

-- ---- cells of a unit and a word

cells_step : (us : List ℕ) → 2 ≤ length us
    → cells_from us ≡ with_first (Some (cell_of (get_or us 0 0) (plain (get_or us 1 0)))) (cells_from (take (length us - 2) (drop 2 us)))
cells_step [] l = absurd (omega arith)
cells_step (u ∷ []) l = absurd (omega arith)
cells_step (u ∷ w ∷ us) l = sym (ap (λ t. with_first (Some (cell_of u (plain w))) (cells_from t)) (take_all (length (u ∷ w ∷ us) - 2) us (omega arith)))

pub cell_read : (done : List Glyph) (us : List ℕ) (g : Glyph) (whole : Option (List Glyph)) → 2 ≤ length us
    → g ≡ cell_of (get_or us 0 0) (plain (get_or us 1 0)) → with_front done (cells_from us) ≡ whole
    → with_front (done ++ g ∷ []) (cells_from (take (length us - 2) (drop 2 us))) ≡ whole
cell_read done us g whole l e so_far =
    goes_on done g (Some (cell_of (get_or us 0 0) (plain (get_or us 1 0)))) (cells_from us) (cells_from (take (length us - 2) (drop 2 us))) whole
    (ap Some e) (cells_step us l) so_far

pub cells_read : (done : List Glyph) (us : List ℕ) (whole : Option (List Glyph)) → (length us == 0) ≡ true → with_front done (cells_from us) ≡ whole
    → whole ≡ Some done
cells_read done [] whole h so_far = all_read done (Some []) whole refl so_far
cells_read done (u ∷ us) whole h so_far = absurd (grind (arith, nat_tests))

part_of_cell : (us : List ℕ) → length us < 2 → (length us == 0) ≡ false → cells_from us ≡ None
part_of_cell [] l h = absurd (grind (arith, nat_tests))
part_of_cell (u ∷ []) l h = refl
part_of_cell (u ∷ w ∷ us) l h = absurd (omega arith)

pub cells_cut : (done : List Glyph) (us : List ℕ) (whole : Option (List Glyph)) → length us < 2 → (length us == 0) ≡ false
    → with_front done (cells_from us) ≡ whole → whole ≡ None
cells_cut done us whole l h so_far = cut_off done (cells_from us) whole (part_of_cell us l h) so_far

-- ---- items of an array

item_step : {A : Type 0} (f : Data → Option A) (vs : List Value) (k : ℕ) (v : Value) → k < length vs → v ≡ get_or vs k v
    → all_in f (items_view (drop k vs)) ≡ with_first (f (view v)) (all_in f (items_view (drop (k + 1) vs)))
item_step f vs k v inside is =
    at_drop_more (λ l. all_in f (items_view l)) vs k v inside ∙ ap (λ w. with_first (f (view w)) (all_in f (items_view (drop (k + 1) vs)))) (sym is)

pub item_read : {A : Type 0} (f : Data → Option A) (done : List A) (vs : List Value) (k : ℕ) (v : Value) (x : A) (whole : Option (List A))
    → k < length vs → v ≡ get_or vs k v → Some x ≡ f (view v) → with_front done (all_in f (items_view (drop k vs))) ≡ whole
    → with_front (done ++ x ∷ []) (all_in f (items_view (drop (k + 1) vs))) ≡ whole
item_read f done vs k v x whole inside is e so_far =
    goes_on done x (f (view v)) (all_in f (items_view (drop k vs))) (all_in f (items_view (drop (k + 1) vs))) whole e (item_step f vs k v inside is)
    so_far

pub no_item : {A : Type 0} (f : Data → Option A) (done : List A) (vs : List Value) (k : ℕ) (v : Value) (whole : Option (List A)) → k < length vs
    → v ≡ get_or vs k v → None ≡ f (view v) → with_front done (all_in f (items_view (drop k vs))) ≡ whole → whole ≡ None
no_item f done vs k v whole inside is e so_far =
    breaks done (f (view v)) (all_in f (items_view (drop k vs))) (all_in f (items_view (drop (k + 1) vs))) whole e (item_step f vs k v inside is)
    so_far

pub items_read : {A : Type 0} (f : Data → Option A) (done : List A) (vs : List Value) (k : ℕ) (whole : Option (List A)) → length vs ≤ k
    → with_front done (all_in f (items_view (drop k vs))) ≡ whole → whole ≡ Some done
items_read f done vs k whole past so_far =
    all_read done (all_in f (items_view (drop k vs))) whole (at_drop_all (λ l. all_in f (items_view l)) vs k past) so_far
