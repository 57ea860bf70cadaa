use Rattle.std.proofs.Common.{rules, sym, ◌∙◌, ◌≡◌, true, map, string_bytes}
use Rattle.clap.specs.Words.{kind_of}
use Rattle.con_words.specs.Naming.{may_be_form}
use Rattle.con_words.proofs.Forms.{taken, refused}
use Rattle.con_words.proofs.words.Form.of.Goals as goal

pub returns-in-Ok-clause-form : goal.returns-in-Ok-clause-form
returns-in-Ok-clause-form c =
    let few : may_be_form (map string_bytes c.args.words.now) ≡ true = search rules in
    c.form_met.ensures.form ∙ taken _ _ few c.in-Ok.ensures.kinds c.in-Ok.ensures.rows

pub returns-clause-form : goal.returns-clause-form
returns-clause-form c =
    let few : may_be_form (map string_bytes c.args.words.now) ≡ true = search rules in
    let same : c.kind.result ≡ kind_of c.in-Err.error = c.kind.ensures in
    sym (refused (map string_bytes c.args.words.now) (kind_of c.in-Err.error) few (λ e. c.is_memory.ensures.other c.if-is_memory.false (same ∙ e)) c.in-Err.ensures.kinds)

pub returns-in-Err-clause-form : goal.returns-in-Err-clause-form
returns-in-Err-clause-form c = search rules
