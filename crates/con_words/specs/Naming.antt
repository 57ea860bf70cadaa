-- The form that a subcommand and its word are.
use Rattle.std.specs.Prelude.{Bool, true, false, ◌&&◌, List, [], ◌∷◌, Option, Some, None, codes, option_map, option_and_then, if◌then◌else◌}
use Rattle.std.specs.Str.{bytes_eq}
use Rattle.clap.specs.Words.{Row, Text}
use Rattle.con_command.specs.Command.{Files, Named, files_in, first_word}
use Rattle.con_words.specs.Words.{Asked, typing, playing, running, solo, mirroring, auditing, generating, is_word, number_in, size_of}

abbrev pub of_size : Option Text → Option Asked
of_size None = None
of_size (Some word) = option_map playing (size_of word)

abbrev pub of_name : Option Text → Option Asked
of_name None = None
of_name (Some word) = Some (solo word)

abbrev pub of_run : Option Text → Option Asked
of_run None = None
of_run (Some word) = Some (running word)

abbrev pub of_mirror : Option Text → Option Asked
of_mirror None = None
of_mirror (Some word) = Some (mirroring word)

abbrev pub of_number : Option Text → Option Asked
of_number None = None
of_number (Some word) = option_map generating (number_in 0 4294967295 word)

abbrev pub form_named : Named → Option Asked
form_named p =
    if bytes_eq p.0 (codes "type") then Some typing
    else if bytes_eq p.0 (codes "play") then of_size p.1
    else if bytes_eq p.0 (codes "solo") then of_name p.1
    else if bytes_eq p.0 (codes "gen") then of_number p.1
    else if bytes_eq p.0 (codes "run") then of_run p.1
    else if bytes_eq p.0 (codes "mirror") then of_mirror p.1
    else None

abbrev pub of_files : Files → Option Asked
of_files (Some session, Some link, Some stream, Some report) = Some (auditing session link stream report)
of_files _ = None

abbrev pub form_in : Text × List Row → Option Asked
form_in p = if bytes_eq p.0 (codes "audit") then of_files (files_in p.1) else form_named (first_word p)

-- what was met asks for
abbrev pub form_met : Option (Text × List Row) → Option Asked
form_met o = option_and_then form_in o

-- at most two words, or `audit` and four more, as forms have them
abbrev pub may_be_form : List Text → Bool
may_be_form [] = true
may_be_form (word ∷ []) = is_word word
may_be_form (word ∷ more ∷ []) = is_word word && is_word more
may_be_form (name ∷ session ∷ link ∷ stream ∷ report ∷ []) =
    bytes_eq name (codes "audit") && is_word session && is_word link && is_word stream && is_word report
may_be_form _ = false
