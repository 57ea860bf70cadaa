use Rattle.std.proofs.Common.{sym, subst}
use Rattle.std.specs.Prelude.{Ok}
use Rattle.con_document.specs.Document.{IsDocument}
use Rattle.con_ending.specs.Files.{IsFile}
use Rattle.con_ending.proofs.FileLemmas.{explained_by, found_by}
use Rattle.con_ending.proofs.file.session_of.Goals as goal

pub returns-in-Ok-clause-session : goal.returns-in-Ok-clause-session
returns-in-Ok-clause-session g c =
    let file = subst (IsFile (g.F.Files.files c.args.files.now) c.args.name.now) (sym c.as_slice.ensures.value) c.in-Ok.ensures.bytes in
    found_by c.session_in.result (IsFile (g.F.Files.files c.args.files.now) c.args.name.now) (λ bytes session. IsDocument bytes (Ok session)) _ file c.session_in.ensures.session

pub returns-in-Ok-clause-told : goal.returns-in-Ok-clause-told
returns-in-Ok-clause-told g c =
    let file = subst (IsFile (g.F.Files.files c.args.files.now) c.args.name.now) (sym c.as_slice.ensures.value) c.in-Ok.ensures.bytes in
    explained_by _ _ _ _ c.session_in.result file c.session_in.ensures.told
