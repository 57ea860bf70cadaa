-- The command that reads the words, as the reader of command lines sees it.
use Rattle.std.specs.Prelude.{List, codes, true, Option, option_map}
use Rattle.std.specs.Borrow.{Bor}
use Rattle.clap.specs.Words.{App, Row, Text, first_of, new_app, new_rule, with_rule, with_subcommand}

-- a command that takes one word more, which has to be there
abbrev pub with_word : App → Text → App
with_word a word = with_rule a (record (new_rule word) { required = true })

-- a subcommand that takes one word
abbrev pub taking : Text → App
taking name = with_word (new_app name) (codes "word")

-- the subcommand that takes four
abbrev pub taking_files : App
taking_files = with_word (with_word (with_word (with_word (new_app (codes "audit")) (codes "session")) (codes "link")) (codes "stream")) (codes "report")

abbrev pub bare : App
bare =
    let a = new_app (codes "conpty") in record a {
      top = record a.top {
        no_binary_name = true;
        subcommand_required = true;
        disable_help_flag = true;
        disable_help_subcommand = true;
      };
    }

-- a command with one subcommand more
abbrev pub and_more : App → App → App
and_more a more = with_subcommand a more.top

abbrev pub host : App
host =
    let four = and_more (and_more (and_more (and_more bare (new_app (codes "type"))) (taking (codes "play"))) (taking (codes "solo"))) (taking (codes "gen")) in
    and_more (and_more (and_more four (taking (codes "run"))) (taking (codes "mirror"))) taking_files

-- a subcommand's name, and its word
abbrev pub Named : Type 0
Named = Text × Option Text

abbrev pub first_word : Text × List Row → Named
first_word p = (p.0, first_of (codes "word") p.1)

-- the words of a session, its link, its stream and its report
abbrev pub Files : Type 0
Files = Option Text × Option Text × Option Text × Option Text

abbrev pub text_of : Option (Bor Text) → Option Text
text_of = option_map (λ s. s.now)

abbrev pub files_shown : Option (Bor Text) × Option (Bor Text) × Option (Bor Text) × Option (Bor Text) → Files
files_shown f = (text_of f.0, text_of f.1, text_of f.2, text_of f.3)

abbrev pub files_in : List Row → Files
files_in rows = (first_of (codes "session") rows, first_of (codes "link") rows, first_of (codes "stream") rows, first_of (codes "report") rows)
