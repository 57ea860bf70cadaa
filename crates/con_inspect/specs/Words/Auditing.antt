-- The words of the code and of laws about Auditing, which a reader need not believe.
use Rattle.std.specs.Prelude.{◌≡◌, ℕ, List, Option, Some}
use Rattle.con_inspect.specs.Four.{Four}
use Rattle.con_inspect.specs.Auditing.{Judged, IsJudged, status_for}

-- Files that are told, and do not fail, are found to be one thing: whatever is found of them has one status.
abbrev pub OneJudgement : Type 0
OneJudgement = (find : List ℕ → Option (List ℕ)) (names : Four) (one other : Judged) → IsJudged (Some find) names ⊥ one
    → IsJudged (Some find) names ⊥ other → status_for one ≡ status_for other
