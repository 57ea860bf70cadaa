-- What the command makes of words that begin with no name.
use Rattle.std.proofs.Common.{◌≡◌, inr, ℕ, Bool, true, false, nat_eq, List, [], ◌∷◌, codes, refl, subst, None}
use Rattle.std.specs.Prelude.{not}
use Rattle.std.proofs.lemmas.Slice.Eq.{bytes_eq-Decides}
use Rattle.std.specs.Str.{bytes_eq}
use Rattle.clap.specs.Words.{fault_of, Text}
use Rattle.clap.specs.declared.error.kind.ErrorKind.TheVariants as kind
use Rattle.clap.proofs.OnLiterals.{clap_on_literals}
use Rattle.con_command.specs.Command.{host}
use Rattle.con_words.specs.Words.{is_word, of_words}
use Rattle.con_words.proofs.Alone.{Reads, some_kinds}

-- none of the names
pub record IsOther (w : Text) : Type 0 where
  pub is_no_type : bytes_eq (codes "type") w ≡ false
  pub is_no_play : bytes_eq (codes "play") w ≡ false
  pub is_no_solo : bytes_eq (codes "solo") w ≡ false
  pub is_no_gen : bytes_eq (codes "gen") w ≡ false
  pub is_no_run : bytes_eq (codes "run") w ≡ false
  pub is_no_mirror : bytes_eq (codes "mirror") w ≡ false
  pub is_no_audit : bytes_eq (codes "audit") w ≡ false

other_fault : (x : ℕ) (xs : Text) (rest : List Text) → nat_eq x 45 ≡ false
    → bytes_eq (codes "type") (x ∷ xs) ≡ false → bytes_eq (codes "play") (x ∷ xs) ≡ false → bytes_eq (codes "solo") (x ∷ xs) ≡ false → bytes_eq (codes "gen") (x ∷ xs) ≡ false → bytes_eq (codes "run") (x ∷ xs) ≡ false → bytes_eq (codes "mirror") (x ∷ xs) ≡ false → bytes_eq (codes "audit") (x ∷ xs) ≡ false
    → fault_of host ((x ∷ xs) ∷ rest) ≡ kind.UnknownArgument ∷ kind.InvalidSubcommand ∷ []
unfolding clap_on_literals
other_fault x xs rest h a b c d k l m = simp (a, b, c, d, k, l, m) (simp h)

pub no_hyphen : (b : Bool) → not b ≡ true → b ≡ false
no_hyphen false e = refl
no_hyphen true e = absurd (cc)

pub other_reads : (w : Text) (rest : List Text) → of_words (w ∷ rest) ≡ None → is_word w ≡ true → IsOther w → Reads (w ∷ rest)
other_reads [] rest none few o = absurd (cc)
other_reads (x ∷ xs) rest none few o =
    inr (some_kinds _ _ _ (other_fault x xs rest (no_hyphen _ few) o.is_no_type o.is_no_play o.is_no_solo o.is_no_gen o.is_no_run o.is_no_mirror o.is_no_audit), none)

by_name : (P : Text → Type 0) (n w : Text) (b : Bool) → bytes_eq n w ≡ b → P n → (bytes_eq n w ≡ false → P w) → P w
by_name P n w true e here there = subst P ((bytes_eq-Decides n w).0 e) here
by_name P n w false e here there = there e

-- what holds of each name and of any other word holds of all words
pub named : (P : Text → Type 0) → P (codes "type") → P (codes "play") → P (codes "solo") → P (codes "gen") → P (codes "run") → P (codes "mirror") → P (codes "audit") → ((w : Text) → IsOther w → P w) → (w : Text) → P w
named P a b c d k l m other w =
    by_name P (codes "type") w _ refl a (λ not_type.
    by_name P (codes "play") w _ refl b (λ not_play.
    by_name P (codes "solo") w _ refl c (λ not_solo.
    by_name P (codes "gen") w _ refl d (λ not_gen.
    by_name P (codes "run") w _ refl k (λ not_run.
    by_name P (codes "mirror") w _ refl l (λ not_mirror.
    by_name P (codes "audit") w _ refl m (λ not_audit.
    other w (record { is_no_type = not_type; is_no_play = not_play; is_no_solo = not_solo; is_no_gen = not_gen; is_no_run = not_run; is_no_mirror = not_mirror; is_no_audit = not_audit }))))))))
