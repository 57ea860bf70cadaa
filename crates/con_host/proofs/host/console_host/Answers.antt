use Rattle.std.proofs.Common.{◌≡◌, None, Some, map, string_bytes, ap, sym, subst, ◌∙◌, List, [], ℕ, arith}
use Rattle.std.specs.Prelude.{option_map}
use Rattle.con_sessions.specs.Foretold.{IsSession}
use Rattle.con_words.specs.Asked.{asked_of}
use Rattle.con_inspect.specs.Auditing.{IsComplete}
use Rattle.con_outside.specs.Outside.{Rose}
use Rattle.con_words.specs.Words.{auditing, form_of, generating, mirroring, running, solo}
use Rattle.con_host.proofs.Hosts.{as_generated, no_form, no_words, same_four, same_mirror, same_name, same_run}
use Rattle.con_host.proofs.Statuses.{done_by, done_within, generated_comes, long_by, played_comes, typed_comes}
use Rattle.con_sessions.specs.Laws.{no_usage, no_usage_of_mirror, no_usage_of_turns}
use Rattle.con_host.proofs.host.console_host.Goals as goal

pub returns-in-Ok-None-clause-outcome : goal.returns-in-Ok-None-clause-outcome
returns-in-Ok-None-clause-outcome g c =
    let none : None ≡ form_of (map string_bytes c.args.words.now) = ap (option_map asked_of) (sym c.in-Ok-None.field-0-is) ∙ c.in-Ok-None.ensures.form in
    no_form _ _ _ _ _ _ _ _ _ _ _ _ none c.refuse.ensures.tells

pub returns-in-Err-clause-outcome : goal.returns-in-Err-clause-outcome
returns-in-Err-clause-outcome g c = no_words _ _ _ _ _ _ _ _ _ _

pub returns-in-Ok-Some-Run-clause-usage : goal.returns-in-Ok-Some-Run-clause-usage
returns-in-Ok-Some-Run-clause-usage g c e = absurd (no_usage _ _ _ _ _ _ _ _ _ _ _ _ c.host_run.ensures.outcome e)

pub returns-in-Ok-Some-Solo-clause-usage : goal.returns-in-Ok-Some-Solo-clause-usage
returns-in-Ok-Some-Solo-clause-usage g c e = absurd (no_usage_of_turns _ _ _ _ _ _ _ _ _ _ _ _ c.host_solo.ensures.outcome e)

pub returns-in-Ok-Some-Mirror-clause-usage : goal.returns-in-Ok-Some-Mirror-clause-usage
returns-in-Ok-Some-Mirror-clause-usage g c e = absurd (no_usage_of_mirror _ _ _ _ _ _ _ _ _ _ _ _ _ _ _ c.host_mirror.ensures.outcome e)

pub returns-in-Ok-Some-Solo-clause-solo_foretold : goal.returns-in-Ok-Some-Solo-clause-solo_foretold
returns-in-Ok-Some-Solo-clause-solo_foretold g c name session bytes end form is known says files link term report =
    let here = c.in-Ok-Some-Solo in
    let asked : Some (solo here.name.now) ≡ form_of (map string_bytes c.args.words.now) = ap (option_map asked_of) (sym (here.field-0-is ∙ ap Some here.field-0-0-is)) ∙ here.ensures.form in
    let same = same_name (form_of (map string_bytes c.args.words.now)) here.name.now name asked form in
    c.host_solo.ensures.foretold session bytes end (subst (λ (n : List ℕ). IsSession (g.F.Files.files c.args.files.now) n session) (sym same) is) known says files link term report

pub returns-in-Ok-Some-Run-clause-run_foretold : goal.returns-in-Ok-Some-Run-clause-run_foretold
returns-in-Ok-Some-Run-clause-run_foretold g c name session bytes end form is known says files link term report =
    let here = c.in-Ok-Some-Run in
    let asked : Some (running here.name.now) ≡ form_of (map string_bytes c.args.words.now) = ap (option_map asked_of) (sym (here.field-0-is ∙ ap Some here.field-0-0-is)) ∙ here.ensures.form in
    let same = same_run (form_of (map string_bytes c.args.words.now)) here.name.now name asked form in
    c.host_run.ensures.foretold session bytes end (subst (λ (n : List ℕ). IsSession (g.F.Files.files c.args.files.now) n session) (sym same) is) known says files link term report

pub returns-in-Ok-Some-Mirror-clause-mirror_foretold : goal.returns-in-Ok-Some-Mirror-clause-mirror_foretold
returns-in-Ok-Some-Mirror-clause-mirror_foretold g c name session bytes end form is known says files link term second report =
    let here = c.in-Ok-Some-Mirror in
    let asked : Some (mirroring here.name.now) ≡ form_of (map string_bytes c.args.words.now) = ap (option_map asked_of) (sym (here.field-0-is ∙ ap Some here.field-0-0-is)) ∙ here.ensures.form in
    let same = same_mirror (form_of (map string_bytes c.args.words.now)) here.name.now name asked form in
    c.host_mirror.ensures.foretold session bytes end (subst (λ (n : List ℕ). IsSession (g.F.Files.files c.args.files.now) n session) (sym same) is) known says files link term second report

pub returns-in-Ok-Some-Mirror-clause-no_frame : goal.returns-in-Ok-Some-Mirror-clause-no_frame
returns-in-Ok-Some-Mirror-clause-no_frame g c other e =
    let here = c.in-Ok-Some-Mirror in
    let asked : Some (mirroring here.name.now) ≡ form_of (map string_bytes c.args.words.now) = ap (option_map asked_of) (sym (here.field-0-is ∙ ap Some here.field-0-0-is)) ∙ here.ensures.form in
    absurd (other here.name.now (sym asked))

pub returns-in-Ok-Some-Audit-clause-audit_complete : goal.returns-in-Ok-Some-Audit-clause-audit_complete
returns-in-Ok-Some-Audit-clause-audit_complete g c session link stream trace form =
    let here = c.in-Ok-Some-Audit in
    let asked : Some (auditing here.session.now here.link.now here.stream.now here.trace.now) ≡ form_of (map string_bytes c.args.words.now) = ap (option_map asked_of) (sym (here.field-0-is ∙ ap Some here.field-0-0-is)) ∙ here.ensures.form in
    let same = same_four (form_of (map string_bytes c.args.words.now)) here.session.now here.link.now here.stream.now here.trace.now session link stream trace asked form in
    subst (λ four. IsComplete c.host_audit.result (g.F.Files.files c.args.files.now) four (Rose (g.F.Files.faults c.args.files.now) (g.F.Files.faults c.host_audit.new.files)) (Rose (g.R.Sink.faults c.args.report.now) (g.R.Sink.faults c.host_audit.new.report))) same c.host_audit.ensures.complete

pub returns-in-Ok-Some-Type-clause-type_complete : goal.returns-in-Ok-Some-Type-clause-type_complete
returns-in-Ok-Some-Type-clause-type_complete g c form link term report =
    let came = c.host_type.ensures.outcome in
    done_within _ 4 5 came.0 _ _ came.1 (typed_comes _ came.0 _ _ _ _ _ _ came.2) (λ e. link (c.host_type.ensures.link_failed e)) (λ e. term (c.host_type.ensures.term_failed e))

pub returns-in-Ok-Some-Type-clause-too_long : goal.returns-in-Ok-Some-Type-clause-too_long
returns-in-Ok-Some-Type-clause-too_long g c e =
    let came = c.host_type.ensures.outcome in
    (came.0, came.1, long_by _ 4 5 came.0 (typed_comes _ came.0 _ _ _ _ _ _ came.2) e (omega arith) (omega arith))

pub returns-in-Ok-Some-Play-clause-play_complete : goal.returns-in-Ok-Some-Play-clause-play_complete
returns-in-Ok-Some-Play-clause-play_complete g c size form link term report =
    let came = c.host_play.ensures.outcome in
    done_within _ 4 6 came.0 _ _ came.1 (played_comes _ c.in-Ok-Some-Play.size came.0 _ _ _ _ came.2) (λ e. link (c.host_play.ensures.link_failed e)) (λ e. report (c.host_play.ensures.report_failed e))

pub returns-in-Ok-Some-Play-clause-too_long : goal.returns-in-Ok-Some-Play-clause-too_long
returns-in-Ok-Some-Play-clause-too_long g c e =
    let came = c.host_play.ensures.outcome in
    (came.0, came.1, long_by _ 4 6 came.0 (played_comes _ c.in-Ok-Some-Play.size came.0 _ _ _ _ came.2) e (omega arith) (omega arith))

pub returns-in-Ok-Some-Gen-clause-outcome : goal.returns-in-Ok-Some-Gen-clause-outcome
returns-in-Ok-Some-Gen-clause-outcome g c =
    let here = c.in-Ok-Some-Gen in
    let asked : Some (generating here.seed) ≡ form_of (map string_bytes c.args.words.now) = ap (option_map asked_of) (sym (here.field-0-is ∙ ap Some here.field-0-0-is)) ∙ here.ensures.form in
    as_generated _ here.seed _ _ _ _ _ _ _ _ _ _ _ _ asked c.host_gen.ensures.outcome

pub returns-in-Ok-Some-Gen-clause-gen_complete : goal.returns-in-Ok-Some-Gen-clause-gen_complete
returns-in-Ok-Some-Gen-clause-gen_complete g c seed form term report =
    let comes = generated_comes _ _ _ _ _ _ _ c.host_gen.ensures.outcome in
    done_by _ 5 6 [] comes (λ e. term (c.host_gen.ensures.term_failed e)) (λ e. report (c.host_gen.ensures.report_failed e)) (omega arith)
