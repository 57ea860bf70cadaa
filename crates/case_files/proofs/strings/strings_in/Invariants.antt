use denote.Text.{Utf8}
use denote.Shadow.{shadow}
use Rattle.case_files.proofs.strings.strings_in.Given as goal

-- what stands before the next string is text
abbrev pub invariant-loop-pair : goal.invariant-loop-pair
invariant-loop-pair l =
    (goal.iterator-loop-pair).can_next l.pair-iterator ×
    (goal.iterator-loop-pair).is_finite l.pair-iterator ×
    shadow (Utf8 l.before)
