use Rattle.std.proofs.Common.{◌∙◌, sym}
use Rattle.std.proofs.lemmas.Bool.{false≢true}
use Rattle.con_script.specs.Places.{stands}
use Rattle.con_document.specs.Session.{path_bytes}
use Rattle.con_script.proofs.DocumentLemmas.{no_json, document_is}
use Rattle.con_script.proofs.session.read_session.Goals as goal

pub returns-in-Err-2-clause-json : goal.returns-in-Err-2-clause-json
returns-in-Err-2-clause-json c = no_json c.args.bytes.now (c.in-Err.ensures.err (λ e. false≢true (sym c.if-is_memory.false ∙ c.is_memory.ensures.1 e)))

pub returns-in-Ok-session-clause-ok : goal.returns-in-Ok-session-clause-ok
returns-in-Ok-session-clause-ok c = document_is c.args.bytes.now _ _ c.in-Ok.ensures.ok.0 c.in-Ok.ensures.ok.1 c.in-Ok-session.ensures

pub returns-in-Ok-path_of-clause-at : goal.returns-in-Ok-path_of-clause-at
returns-in-Ok-path_of-clause-at c = (path_bytes (stands c.in-Err-At.site), document_is c.args.bytes.now _ _ c.in-Ok.ensures.ok.0 c.in-Ok.ensures.ok.1 (rw c.in-Err-At.field-0-is at c.in-Err-At.ensures), c.in-Ok-path_of.ensures)
