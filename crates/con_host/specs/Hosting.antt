-- What the top call does, by its words.
use Rattle.std.specs.Prelude.{◌≡◌, ◌≢◌, ℕ, List, Option, Some, None, codes}
use Rattle.con_units.specs.declared.place.Size.{Size}
use Rattle.con_outside.specs.Outside.{then_left}
use Rattle.con_lines.specs.Ending.{worded}
use Rattle.con_ending.specs.Ending.{Tells}
use Rattle.con_sessions.specs.Generating.{Generated}
use Rattle.con_sessions.specs.Mirroring.{HasMirrored}
use Rattle.con_text.specs.Playing.{Played}
use Rattle.con_sessions.specs.Sessions.{HasRun, Soloed}
use Rattle.con_text.specs.Typing.{Typed}
use Rattle.con_inspect.specs.Auditing.{HasAudited}
use Rattle.con_words.specs.Words.{Asked, typing, playing, running, solo, mirroring, generating, auditing}

-- By what the words ask for, whose statuses are those of its record: what the link had left before and after, what the terminal has, what the second
-- terminal has, and what the report has; `failed` says that the report failed, `second_failed` that the second terminal did, `files_failed` that the files did.
pub record Hosted (status : ℕ) (asked : Option Asked) (files : Option (List ℕ
    → Option (List ℕ))) (files_failed : Type 0) (racks : List (List ℕ))
    (before left old now was written before_report report : Option (List ℕ)) (failed second_failed : Type 0) : Type 0 where
  -- words that are no form: the line that says so, alone
  pub usage : asked ≡ None → (left ≡ before) × (now ≡ old) × Tells status (worded 2 (codes "usage")) before_report report failed
  pub typed : asked ≡ Some typing → (text : List ℕ) × (before ≡ then_left text left) × Typed status text left old now before_report report failed
  pub played : (size : Size) → asked ≡ Some (playing size) → (now ≡ old)
      × ((text : List ℕ) × (before ≡ then_left text left) × Played status size text left before_report report failed)
  pub ran : (name : List ℕ) → asked ≡ Some (running name) → HasRun status files name files_failed racks before left old now before_report report failed
  pub soloed : (name : List ℕ) → asked ≡ Some (solo name) → Soloed status files name files_failed racks before left old now before_report report failed
  pub generated : (seed : ℕ) → asked ≡ Some (generating seed) → (left ≡ before) × Generated status seed old now before_report report failed
  pub mirrored : (name : List ℕ) → asked ≡ Some (mirroring name)
      → HasMirrored status files name files_failed racks before left old now was written before_report report failed second_failed
  pub audited : (session link stream trace : List ℕ) → asked ≡ Some (auditing session link stream trace) → (left ≡ before) × (now ≡ old)
      × HasAudited status files session link stream trace files_failed before_report report failed
  -- by any other words nothing is written to the second terminal
  pub second_same : ((name : List ℕ) → asked ≢ Some (mirroring name)) → written ≡ was
