-- How the top call ends, by what the words ask for.
use Rattle.std.proofs.Common.{◌≡◌, ℕ, List, [], Option, Some, None, refl, sym, subst, ap, ◌∙◌, arith, ◌≤◌, length, codes, inl, inr}
use Rattle.con_units.specs.declared.place.Size.{Size}
use Rattle.con_outside.specs.Outside.{then_left}
use Rattle.con_outside.specs.Laws.{then_left-none}
use Rattle.con_lines.specs.Ending.{worded}
use Rattle.con_ending.specs.Ending.{Tells}
use Rattle.con_sessions.specs.Generating.{Generated}
use Rattle.con_host.specs.Hosting.{Hosted}
use Rattle.con_sessions.specs.Mirroring.{HasMirrored}
use Rattle.con_text.specs.Playing.{Played}
use Rattle.con_sessions.specs.Sessions.{HasRun, Soloed}
use Rattle.con_text.specs.Typing.{Typed}
use Rattle.con_inspect.specs.Auditing.{Audits, HasAudited}
use Rattle.con_inspect.specs.Four.{Four, four_of}
use Rattle.con_words.specs.Words.{Asked, typing, playing, running, solo, mirroring, generating, auditing}
use Rattle.con_sessions.specs.Laws.{no_generating, no_mirror, no_running, no_turns}
use Rattle.con_ending.specs.Laws.{nothing_yet}

pub no_form : (s : ℕ) (asked : Option Asked) (files : Option (List ℕ → Option (List ℕ))) (files_failed : Type 0) (racks : List (List ℕ)) (before old second before_report report : Option (List ℕ)) (failed second_failed : Type 0) → None ≡ asked → Tells s (worded 2 (codes "usage")) before_report report failed
    → Hosted s asked files files_failed racks before before old old second second before_report report failed second_failed
no_form s asked files files_failed racks before old second before_report report failed second_failed is says = record {
  usage = λ _. (refl, refl, says);
  typed = λ e. absurd (cc);
  played = λ size e. absurd (cc);
  ran = λ name e. absurd (cc);
  soloed = λ name e. absurd (cc);
  generated = λ seed e. absurd (cc);
  mirrored = λ name e. absurd (cc);
  audited = λ session link stream trace e. absurd (cc);
  second_same = λ _. refl;
}

-- there was no memory, and nothing was written
no_playing : (size : Size) (text : List ℕ) (left before : Option (List ℕ)) (failed : Type 0) → length text ≤ 16781312 → Played 9 size text left before before failed
no_playing size text left before failed few = inl (refl, refl, few)

no_typing : (text : List ℕ) (left before report : Option (List ℕ)) (failed : Type 0) → length text ≤ 16781312 → Typed 9 text left before before report report failed
no_typing text left before report failed few = inl (refl, refl, refl, few)

no_audit : (files : Option (List ℕ → Option (List ℕ))) (session link stream trace : List ℕ) (files_failed : Type 0) (before : Option (List ℕ)) (failed : Type 0) → HasAudited 9 files session link stream trace files_failed before before failed
no_audit files session link stream trace files_failed before failed = record {
  told = inl (refl, refl);
  line = λ e. let bad : 9 ≡ 0 = e in absurd (omega arith);
  run = λ e. elim e [
    | inl f ↦ let bad : 9 ≡ 0 = f in absurd (omega arith)
    | inr f ↦ let bad : 9 ≡ 6 = f in absurd (omega arith)
  ];
}

-- there was no memory for the words
pub no_words : (asked : Option Asked) (files : Option (List ℕ → Option (List ℕ))) (files_failed : Type 0) (racks : List (List ℕ)) (before old second before_report : Option (List ℕ)) (failed second_failed : Type 0) → Hosted 9 asked files files_failed racks before before old old second second before_report before_report failed second_failed
no_words asked files files_failed racks before old second before_report failed second_failed = record {
  usage = λ _. (refl, refl, inr (inr (refl, nothing_yet _ before_report)));
  typed = λ _. ([], then_left-none before, no_typing [] before old before_report failed (omega arith));
  played = λ size _. (refl, ([], then_left-none before, no_playing size [] before before_report failed (omega arith)));
  ran = λ name _. no_running files name files_failed racks before old before_report failed;
  soloed = λ name _. no_turns files name files_failed racks before old before_report failed;
  generated = λ seed _. (refl, no_generating seed old before_report failed);
  mirrored = λ name _. no_mirror files name files_failed racks before old second before_report failed second_failed;
  audited = λ session link stream trace _. (refl, refl, no_audit files session link stream trace files_failed before_report failed);
  second_same = λ _. refl;
}

pub as_typed : (s : ℕ) (asked : Option Asked) (files : Option (List ℕ → Option (List ℕ))) (files_failed : Type 0) (racks : List (List ℕ)) (before left old now second before_report report : Option (List ℕ)) (failed second_failed : Type 0) → Some typing ≡ asked
    → (text : List ℕ) × (before ≡ then_left text left) × Typed s text left old now before_report report failed → Hosted s asked files files_failed racks before left old now second second before_report report failed second_failed
as_typed s asked files files_failed racks before left old now second before_report report failed second_failed is t = record {
  usage = λ e. absurd (cc);
  typed = λ _. t;
  played = λ size e. absurd (cc);
  ran = λ name e. absurd (cc);
  soloed = λ name e. absurd (cc);
  generated = λ seed e. absurd (cc);
  mirrored = λ name e. absurd (cc);
  audited = λ session link stream trace e. absurd (cc);
  second_same = λ _. refl;
}

size_in : Option Asked → Size → Size
size_in None other = other
size_in (Some typing) other = other
size_in (Some (playing size)) other = size
size_in (Some (running name)) other = other
size_in (Some (solo name)) other = other
size_in (Some (mirroring name)) other = other
size_in (Some (generating seed)) other = other
size_in (Some (auditing session link stream trace)) other = other

name_in : Option Asked → List ℕ
name_in None = []
name_in (Some typing) = []
name_in (Some (playing size)) = []
name_in (Some (running name)) = name
name_in (Some (solo name)) = name
name_in (Some (mirroring name)) = name
name_in (Some (generating seed)) = []
name_in (Some (auditing session link stream trace)) = []

same_size : (asked : Option Asked) (a b : Size) → Some (playing a) ≡ asked → asked ≡ Some (playing b) → a ≡ b
unfolding size_in
same_size asked a b e f = ap (λ o. size_in o a) (e ∙ f)

pub same_name : (asked : Option Asked) (a b : List ℕ) → Some (solo a) ≡ asked → asked ≡ Some (solo b) → a ≡ b
unfolding name_in
same_name asked a b e f = ap name_in (e ∙ f)

pub same_run : (asked : Option Asked) (a b : List ℕ) → Some (running a) ≡ asked → asked ≡ Some (running b) → a ≡ b
unfolding name_in
same_run asked a b e f = ap name_in (e ∙ f)

pub same_mirror : (asked : Option Asked) (a b : List ℕ) → Some (mirroring a) ≡ asked → asked ≡ Some (mirroring b) → a ≡ b
unfolding name_in
same_mirror asked a b e f = ap name_in (e ∙ f)

pub as_played : (s : ℕ) (size : Size) (asked : Option Asked) (files : Option (List ℕ → Option (List ℕ))) (files_failed : Type 0) (racks : List (List ℕ)) (before left old second before_report report : Option (List ℕ)) (failed second_failed : Type 0) → Some (playing size) ≡ asked
    → (text : List ℕ) × (before ≡ then_left text left) × Played s size text left before_report report failed → Hosted s asked files files_failed racks before left old old second second before_report report failed second_failed
as_played s size asked files files_failed racks before left old second before_report report failed second_failed is t = record {
  usage = λ e. absurd (cc);
  typed = λ e. absurd (cc);
  played = λ other e. (refl, subst (λ z. (text : List ℕ) × (before ≡ then_left text left) × Played s z text left before_report report failed) (same_size asked size other is e) t);
  ran = λ name e. absurd (cc);
  soloed = λ name e. absurd (cc);
  generated = λ seed e. absurd (cc);
  mirrored = λ name e. absurd (cc);
  audited = λ session link stream trace e. absurd (cc);
  second_same = λ _. refl;
}

pub as_ran : (s : ℕ) (name : List ℕ) (asked : Option Asked) (files : Option (List ℕ → Option (List ℕ))) (files_failed : Type 0) (racks : List (List ℕ)) (before left old now second before_report report : Option (List ℕ)) (failed second_failed : Type 0) → Some (running name) ≡ asked
    → HasRun s files name files_failed racks before left old now before_report report failed → Hosted s asked files files_failed racks before left old now second second before_report report failed second_failed
as_ran s name asked files files_failed racks before left old now second before_report report failed second_failed is t = record {
  usage = λ e. absurd (cc);
  typed = λ e. absurd (cc);
  played = λ size e. absurd (cc);
  ran = λ other e. subst (λ n. HasRun s files n files_failed racks before left old now before_report report failed) (same_run asked name other is e) t;
  soloed = λ name e. absurd (cc);
  generated = λ seed e. absurd (cc);
  mirrored = λ name e. absurd (cc);
  audited = λ session link stream trace e. absurd (cc);
  second_same = λ _. refl;
}

pub as_soloed : (s : ℕ) (name : List ℕ) (asked : Option Asked) (files : Option (List ℕ → Option (List ℕ))) (files_failed : Type 0) (racks : List (List ℕ)) (before left old now second before_report report : Option (List ℕ)) (failed second_failed : Type 0) → Some (solo name) ≡ asked
    → Soloed s files name files_failed racks before left old now before_report report failed → Hosted s asked files files_failed racks before left old now second second before_report report failed second_failed
as_soloed s name asked files files_failed racks before left old now second before_report report failed second_failed is t = record {
  usage = λ e. absurd (cc);
  typed = λ e. absurd (cc);
  played = λ size e. absurd (cc);
  ran = λ name e. absurd (cc);
  soloed = λ other e. subst (λ n. Soloed s files n files_failed racks before left old now before_report report failed) (same_name asked name other is e) t;
  generated = λ seed e. absurd (cc);
  mirrored = λ name e. absurd (cc);
  audited = λ session link stream trace e. absurd (cc);
  second_same = λ _. refl;
}

pub as_mirrored : (s : ℕ) (name : List ℕ) (asked : Option Asked) (files : Option (List ℕ → Option (List ℕ))) (files_failed : Type 0) (racks : List (List ℕ)) (before left old now was written before_report report : Option (List ℕ)) (failed second_failed : Type 0) → Some (mirroring name) ≡ asked
    → HasMirrored s files name files_failed racks before left old now was written before_report report failed second_failed → Hosted s asked files files_failed racks before left old now was written before_report report failed second_failed
as_mirrored s name asked files files_failed racks before left old now was written before_report report failed second_failed is t = record {
  usage = λ e. absurd (cc);
  typed = λ e. absurd (cc);
  played = λ size e. absurd (cc);
  ran = λ name e. absurd (cc);
  soloed = λ name e. absurd (cc);
  generated = λ seed e. absurd (cc);
  mirrored = λ other e. subst (λ n. HasMirrored s files n files_failed racks before left old now was written before_report report failed second_failed) (same_mirror asked name other is e) t;
  audited = λ session link stream trace e. absurd (cc);
  second_same = λ other. absurd (other name (sym is));
}

seed_in : Option Asked → ℕ
seed_in None = 0
seed_in (Some typing) = 0
seed_in (Some (playing size)) = 0
seed_in (Some (running name)) = 0
seed_in (Some (solo name)) = 0
seed_in (Some (mirroring name)) = 0
seed_in (Some (generating seed)) = seed
seed_in (Some (auditing session link stream trace)) = 0

same_seed : (asked : Option Asked) (a b : ℕ) → Some (generating a) ≡ asked → asked ≡ Some (generating b) → a ≡ b
unfolding seed_in
same_seed asked a b e f = ap seed_in (e ∙ f)

pub as_generated : (s seed : ℕ) (asked : Option Asked) (files : Option (List ℕ → Option (List ℕ))) (files_failed : Type 0) (racks : List (List ℕ)) (before old now second before_report report : Option (List ℕ)) (failed second_failed : Type 0) → Some (generating seed) ≡ asked
    → Generated s seed old now before_report report failed → Hosted s asked files files_failed racks before before old now second second before_report report failed second_failed
as_generated s seed asked files files_failed racks before old now second before_report report failed second_failed is t = record {
  usage = λ e. absurd (cc);
  typed = λ e. absurd (cc);
  played = λ size e. absurd (cc);
  ran = λ name e. absurd (cc);
  soloed = λ name e. absurd (cc);
  generated = λ other e. (refl, subst (λ n. Generated s n old now before_report report failed) (same_seed asked seed other is e) t);
  mirrored = λ name e. absurd (cc);
  audited = λ session link stream trace e. absurd (cc);
  second_same = λ _. refl;
}

four_in : Option Asked → Four
four_in None = four_of [] [] [] []
four_in (Some typing) = four_of [] [] [] []
four_in (Some (playing size)) = four_of [] [] [] []
four_in (Some (running name)) = four_of [] [] [] []
four_in (Some (solo name)) = four_of [] [] [] []
four_in (Some (mirroring name)) = four_of [] [] [] []
four_in (Some (generating seed)) = four_of [] [] [] []
four_in (Some (auditing session link stream trace)) = four_of session link stream trace

pub same_four : (asked : Option Asked) (a b c d s l t r : List ℕ) → Some (auditing a b c d) ≡ asked → asked ≡ Some (auditing s l t r) → four_of a b c d ≡ four_of s l t r
unfolding four_in
same_four asked a b c d s l t r e f = ap four_in (e ∙ f)

pub as_audited : (status : ℕ) (a b c d : List ℕ) (asked : Option Asked) (files : Option (List ℕ → Option (List ℕ))) (files_failed : Type 0) (racks : List (List ℕ)) (before old second before_report report : Option (List ℕ)) (failed second_failed : Type 0) → Some (auditing a b c d) ≡ asked
    → HasAudited status files a b c d files_failed before_report report failed → Hosted status asked files files_failed racks before before old old second second before_report report failed second_failed
as_audited status a b c d asked files files_failed racks before old second before_report report failed second_failed is came = record {
  usage = λ e. absurd (cc);
  typed = λ e. absurd (cc);
  played = λ size e. absurd (cc);
  ran = λ name e. absurd (cc);
  soloed = λ name e. absurd (cc);
  generated = λ seed e. absurd (cc);
  mirrored = λ name e. absurd (cc);
  audited = λ s l t r e. (refl, refl, subst (λ four. Audits status files four files_failed before_report report failed) (same_four asked a b c d s l t r is e) came);
  second_same = λ _. refl;
}
