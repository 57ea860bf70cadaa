-- What a form asks for.
use Rattle.con_words.specs.Words.{Asked, typing, playing, running, solo, mirroring, auditing, generating}
use Rattle.con_words.specs.Words.Words.{IsWindow}
use Rattle.con_words.specs.declared.words.Form.{Form}
use Rattle.con_words.specs.declared.words.Form.TheVariants as form

-- what a form asks for
abbrev pub asked_of : Form → Asked
asked_of form.Type = typing
asked_of (form.Play size) = playing size
asked_of (form.Run name) = running name.now
asked_of (form.Solo name) = solo name.now
asked_of (form.Mirror name) = mirroring name.now
asked_of (form.Audit session link stream report) = auditing session.now link.now stream.now report.now
asked_of (form.Gen seed) = generating seed

abbrev pub IsWindowed : Form → Type 0
IsWindowed form.Type = Unit {0}
IsWindowed (form.Play size) = IsWindow size
IsWindowed (form.Run name) = Unit {0}
IsWindowed (form.Solo name) = Unit {0}
IsWindowed (form.Mirror name) = Unit {0}
IsWindowed (form.Audit session link stream report) = Unit {0}
IsWindowed (form.Gen seed) = Unit {0}
