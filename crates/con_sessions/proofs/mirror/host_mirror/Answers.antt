use Rattle.std.proofs.Common.{refl, subst}
use Rattle.con_ending.specs.Words.Files.{Explains}
use Rattle.con_sessions.proofs.Reasons.{failed_by, no_reason}
use Rattle.con_sessions.specs.Laws.{never}
use Rattle.con_sessions.proofs.SessionLemmas.{told_alone}
use Rattle.con_sessions.proofs.mirror.host_mirror.Goals as goal

pub returns-in-Err-Told-clause-outcome : goal.returns-in-Err-Told-clause-outcome
returns-in-Err-Told-clause-outcome g c =
    let why = subst (Explains _ _ _) c.in-Err-Told.field-0-is c.in-Err-Told.ensures.told in
    told_alone _ _ _ _ _ _ _ _ _ c.in-Err-Told.last (refl, refl, refl) why c.close.ensures.tells

pub returns-in-Err-Told-clause-foretold : goal.returns-in-Err-Told-clause-foretold
returns-in-Err-Told-clause-foretold g c session bytes end is known says files link term second report =
    let why = subst (Explains _ _ _) c.in-Err-Told.field-0-is c.in-Err-Told.ensures.told in
    absurd (no_reason _ _ _ session why.0 is files why.1)

pub returns-in-Err-Told-clause-report_failed : goal.returns-in-Err-Told-clause-report_failed
returns-in-Err-Told-clause-report_failed g c =
    let why = subst (Explains _ _ _) c.in-Err-Told.field-0-is c.in-Err-Told.ensures.told in
    failed_by _ why.0 _ _ _ _ why.2 c.close.ensures.tells

pub returns-in-Err-Told-clause-link_failed : goal.returns-in-Err-Told-clause-link_failed
returns-in-Err-Told-clause-link_failed g c e =
    let why = subst (Explains _ _ _) c.in-Err-Told.field-0-is c.in-Err-Told.ensures.told in
    absurd (never 4 _ why.0 _ _ _ _ refl refl why.2 c.close.ensures.tells e)

pub returns-in-Err-Told-clause-term_failed : goal.returns-in-Err-Told-clause-term_failed
returns-in-Err-Told-clause-term_failed g c e =
    let why = subst (Explains _ _ _) c.in-Err-Told.field-0-is c.in-Err-Told.ensures.told in
    absurd (never 5 _ why.0 _ _ _ _ refl refl why.2 c.close.ensures.tells e)

pub returns-in-Err-Told-clause-second_failed : goal.returns-in-Err-Told-clause-second_failed
returns-in-Err-Told-clause-second_failed g c e =
    let why = subst (Explains _ _ _) c.in-Err-Told.field-0-is c.in-Err-Told.ensures.told in
    absurd (never 12 _ why.0 _ _ _ _ refl refl why.2 c.close.ensures.tells e)

pub returns-in-Err-Told-clause-no_frame : goal.returns-in-Err-Told-clause-no_frame
returns-in-Err-Told-clause-no_frame g c e =
    let why = subst (Explains _ _ _) c.in-Err-Told.field-0-is c.in-Err-Told.ensures.told in
    absurd (never 8 _ why.0 _ _ _ _ refl refl why.2 c.close.ensures.tells e)

pub returns-in-Err-Told-clause-too_long : goal.returns-in-Err-Told-clause-too_long
returns-in-Err-Told-clause-too_long g c e =
    let why = subst (Explains _ _ _) c.in-Err-Told.field-0-is c.in-Err-Told.ensures.told in
    absurd (never 10 _ why.0 _ _ _ _ refl refl why.2 c.close.ensures.tells e)
