-- There is a reader of steps, and one only; so bytes are one document at most.
use Rattle.std.proofs.Common.{◌≡◌, refl, sym, ap, subst, ◌∙◌, ℕ, List, [], ◌∷◌, map, Bool, true, false, Option, Some, None}
use Rattle.std.specs.Prelude.{◌≢◌, ◌↔◌, codes, if◌then◌else◌, IfSome, option_map, Result}
use Rattle.std.specs.Result.{result_map_both}
use Rattle.std.proofs.lemmas.Bool.{ne_eqb}
use Rattle.std.specs.List.{AllZip}
use Rattle.con_events.specs.declared.script.Step.{Step}
use Rattle.con_events.specs.Reading.{Item, row_from, whole}
use Rattle.con_events.specs.Session.{Clients}
use Rattle.con_events.specs.Words.Table.{Row}
use Rattle.con_lines.specs.Shown.{list_of}
use Rattle.con_lines.specs.Words.Shown.{items}
use Rattle.serde_json.specs.Data.{Data, string, array, Items, item}
use Rattle.con_document.specs.declared.version.Version.{Version}
use Rattle.con_document.specs.declared.version.Version.TheVariants.{One, Two}
use Rattle.con_document.specs.Values.{arguments, written}
use Rattle.con_document.specs.Steps.{row_in_one, step_row, step_in}
use Rattle.con_document.specs.Readers.{IsWritten, Reads, step_told}
use Rattle.con_document.specs.Session.{Where, path_bytes, session_in}
use Rattle.con_document.specs.Document.{IsDocument, document_of, json_of}
use Rattle.con_document.specs.PlainLaws.{is_plain, are_plain, read_plain, session_same}
use Rattle.con_document.specs.RowLaws.{all_read, items_listed, listed, none_in_one, row_back, row_read, step_makes, steps_named}
use Rattle.con_document.specs.ArgumentLaws.{all_plain, written_back, written_reads}
use Rattle.con_document.specs.SessionLaws.{session_told, version_at}

arguments_are : (ds : List Data) → arguments (items ds) ≡ map written ds
arguments_are [] = refl
arguments_are (d ∷ ds) = ap (λ (xs : List Item). written d ∷ xs) (arguments_are ds)

-- a step, by the code's word for its version
abbrev StepOf : Version → Data → Step → Type 0
StepOf v d s = ((step_told s).0 ≡ codes "read-with" → v ≡ Two)
    × ((ds : List Data) × (d ≡ list_of (string (step_told s).0 ∷ ds)) × AllZip IsWritten (step_told s).1 ds)

-- ---- what is read is that step

one_version : (v : Version) (n : List ℕ) (xs : List Item) (s : Step) → whole (row_from (step_row v n) xs) ≡ Some s → n ≡ codes "read-with" → v ≡ Two
one_version Two n xs s e is = refl
one_version One n xs s e is =
    let read : whole (row_from (row_in_one (codes "read-with")) xs) ≡ Some s = subst (λ (m : List ℕ). whole (row_from (row_in_one m) xs) ≡ Some s) is e in
    let bad : None ≡ Some s = subst (λ (o : Option (Row Step)). whole (row_from o xs) ≡ Some s) none_in_one read in
    absurd (cc)

named_step : (v : Version) (n : List ℕ) (ds : Items) (s : Step) → are_plain ds ≡ true → whole (row_from (step_row v n) (arguments ds)) ≡ Some s
    → StepOf v (array (item (string n) ds)) s
named_step v n ds s p e =
    let seen : arguments ds ≡ map written (listed ds) = ap arguments (sym (items_listed ds)) ∙ arguments_are (listed ds) in
    let read : whole (row_from (step_row v n) (map written (listed ds))) ≡ Some s =
    subst (λ (xs : List Item). whole (row_from (step_row v n) xs) ≡ Some s) seen e in
    let told = row_read step_told written IsWritten n (step_row v n) (listed ds) (steps_named v n) (all_read written IsWritten written_reads ds p) in
    let tells = subst (λ (o : Option Step). IfSome o (λ t. ((step_told t).0 ≡ n) × AllZip IsWritten (step_told t).1 (listed ds))) read told in (
      (λ is. one_version v n (arguments ds) s e (sym tells.0 ∙ is)),
      (listed ds, (λ i. array (item (string (sym tells.0 i)) (sym (items_listed ds) i))), tells.1),
    )

is_step : (v : Version) (d : Data) (s : Step) → is_plain d ≡ true → step_in v d ≡ Some s → StepOf v d s
is_step v (array (item (string n) ds)) s p e = named_step v n ds s p e
is_step v other s p e = absurd (cc)

-- ---- and a step is read

step_back : (v : Version) (d : Data) (s : Step) → StepOf v d s → step_in v d ≡ Some s
step_back v d s t =
    let n = (step_told s).0 in
    let seen = ap (λ (xs : List Item). whole (row_from (step_row v n) xs)) (arguments_are t.1.0) in
    ap (step_in v) t.1.1 ∙ (seen ∙ row_back written IsWritten written_back s (step_told s).1 (step_row v n) t.1.0 (step_makes v s t.0) t.1.2)

-- ---- the reader

-- of values as they are read
abbrev plain_step_in : Version → Data → Option Step
plain_step_in v d = if is_plain d then step_in v d else None

kept : {A : Type 0} (b : Bool) (o : Option A) → b ≡ true → (if b then o else None) ≡ o
kept true o e = refl
kept false o e = absurd (cc)

given : {A : Type 0} (b : Bool) (o : Option A) (a : A) → (if b then o else None) ≡ Some a → (b ≡ true) × (o ≡ Some a)
given true o a e = (refl, e)
given false o a e = absurd (cc)

reads_plain : (v : Version) (d : Data) (s : Step) → (plain_step_in v d ≡ Some s) ↔ StepOf v d s
reads_plain v d s = (
  (λ e. let both = given (is_plain d) (step_in v d) s e in is_step v d s both.0 both.1),
  (λ t. kept (is_plain d) (step_in v d) (ap is_plain t.1.1 ∙ all_plain (step_told s).1 t.1.0 t.1.2) ∙ step_back v d s t),
)

no_one : (n : ℕ) → version_at n ≡ Two → n ≢ 1
no_one n e is = let bad : One ≡ Two = subst (λ (m : ℕ). version_at m ≡ Two) is e in absurd (cc)

two_is : (n : ℕ) → n ≢ 1 → version_at n ≡ Two
two_is n not = rw (ne_eqb n 1 not) refl

abbrev plain_reader : ℕ → Data → Option Step
plain_reader n d = plain_step_in (version_at n) d

reads_it : Reads plain_reader
reads_it n d s = (
  (λ e. let t = (reads_plain (version_at n) d s).0 e in ((λ is. no_one n (t.0 is)), t.1)),
  (λ t. (reads_plain (version_at n) d s).1 ((λ is. two_is n (t.0 is)), t.1)),
)

same_option : {A : Type 0} (o p : Option A) → ((a : A) → o ≡ Some a → p ≡ Some a) → ((a : A) → p ≡ Some a → o ≡ Some a) → o ≡ p
same_option None None f g = refl
same_option None (Some a) f g = g a refl
same_option (Some a) p f g = sym (f a refl)

-- there is one reader only
pub one_reader : (one other : ℕ → Data → Option Step) → Reads one → Reads other → one ≡ other
one_reader one other p q = λ i v d. same_option (one v d) (other v d) (λ s e. (q v d s).1 ((p v d s).0 e)) (λ s e. (p v d s).1 ((q v d s).0 e)) i

-- ---- documents

read_same : (o : Option Data) (r : Result Clients Where) → IfSome o (λ d. is_plain d ≡ true) → option_map (session_in step_in) o ≡ Some r
    → option_map (document_of plain_reader) o ≡ Some (result_map_both (λ s. s) path_bytes r)
read_same None r p e = absurd (cc)
read_same (Some d) r p e =
    let found : session_in step_in d ≡ r = cc in
    let same = session_same plain_step_in step_in (λ v x q. kept (is_plain x) (step_in v x) q) d p in
    let told : document_of plain_reader d ≡ result_map_both (λ s. s) path_bytes r =
    sym (session_told plain_step_in d) ∙ ap (result_map_both (λ s. s) path_bytes) (same ∙ found) in
    ap (λ (x : Result Clients (List ℕ)). Some x) told

-- what is found by the code's words is what bytes are
pub is_document : (bytes : List ℕ) (r : Result Clients Where) → option_map (session_in step_in) (json_of bytes) ≡ Some r
    → IsDocument bytes (result_map_both (λ s. s) path_bytes r)
unfolding IsDocument
is_document bytes r e = (plain_reader, reads_it, read_same (json_of bytes) r (read_plain bytes) e)

pub one_document : (bytes : List ℕ) (r q : Result Clients (List ℕ)) → IsDocument bytes r → IsDocument bytes q → r ≡ q
unfolding IsDocument
one_document bytes r q a b =
    let same = ap (λ (reader : ℕ → Data → Option Step). option_map (document_of reader) (json_of bytes)) (one_reader a.0 b.0 a.1 b.1) in
    let both : Some r ≡ Some q = sym a.2 ∙ (same ∙ b.2) in
    cc

-- bytes that are no JSON are none
pub no_document : (bytes : List ℕ) (r : Result Clients (List ℕ)) → json_of bytes ≡ None → IsDocument bytes r → ⊥
unfolding IsDocument
no_document bytes r none a = let bad : None ≡ Some r = sym (ap (option_map (document_of a.0)) none) ∙ a.2 in absurd (cc)
