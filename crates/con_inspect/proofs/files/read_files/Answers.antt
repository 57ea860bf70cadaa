use Rattle.std.proofs.Common.{inl, inr, refl, ◌∙◌, subst}
use Rattle.con_ending.specs.Files.{too_long}
use Rattle.con_inspect.specs.Four.{four_of}
use Rattle.con_inspect.specs.Words.Four.{IsRead}
use Rattle.con_inspect.proofs.FileLemmas.{one_long}
use Rattle.con_inspect.proofs.files.read_files.Goals as goal
use Rattle.con_inspect.proofs.files.read_files.Goals.{else-has_session-via-then-has_session+then-has_link+then-has_stream+else-has_report, else-has_session-via-then-has_session+then-has_link+else-has_stream, else-has_session-via-then-has_session+else-has_link, else-has_session-via-else-has_session}

pub returns-else-has_session-clause-told : goal.returns-else-has_session-clause-told
returns-else-has_session-clause-told g c =
    let two = c.fill.ensures.same in
    let three = c.fill-2.ensures.same ∙ two in
    let four = c.fill-3.ensures.same ∙ three in
    let link = subst (λ files. IsRead files c.args.link.now c.fill-2.new.out.items c.in-Ok-fill.value) two c.in-Ok-fill.ensures.read in
    let stream = subst (λ files. IsRead files c.args.stream.now c.fill-3.new.out.items c.in-Ok-fill-2.value) three c.in-Ok-fill-2.ensures.read in
    let report = subst (λ files. IsRead files c.args.report.now c.fill-4.new.out.items c.in-Ok-fill-3.value) four c.in-Ok-fill-3.ensures.read in
    let names = four_of c.args.session.now c.args.link.now c.args.stream.now c.args.report.now in
    let bytes = four_of c.fill.new.out.items c.fill-2.new.out.items c.fill-3.new.out.items c.fill-4.new.out.items in
    let bars =
    one_long _ names bytes ⊥ c.in-Ok.value c.in-Ok-fill.value c.in-Ok-fill-2.value c.in-Ok-fill-3.value
    c.in-Ok.ensures.read link stream report in (
      too_long,
      bars (elim c.else-has_session.branch [
        | else-has_session-via-then-has_session+then-has_link+then-has_stream+else-has_report w ↦ inr (inr (inr w.if-has_report.false))
        | else-has_session-via-then-has_session+then-has_link+else-has_stream w ↦ inr (inr (inl w.if-has_stream.false))
        | else-has_session-via-then-has_session+else-has_link w ↦ inr (inl w.if-has_link.false)
        | else-has_session-via-else-has_session w ↦ inl w.if-has_session.false
      ]),
      refl,
    )
