-- What it is for a history to go by rounds, and to end.
pub mod Rounds
pub mod Whole
pub mod Opens
pub mod Presence
-- What became of each record.
pub mod Fates
pub mod Answers
pub mod Texts
pub mod Remains
pub mod Once
-- What a terminal shows that plays a stream, picture by picture.
pub mod TerminalRuns
-- However bytes are cut, and what leaves the console as it is.
pub mod Cut
pub mod Settled
pub mod Unstamped
-- The same, walked as the proofs go.
pub mod RoundWords
pub mod WholeWords
pub mod Walks
pub mod AnswerWalks
pub mod TextWalks
pub mod Left
pub mod Rested
-- Laws of these words, for the crates above.
pub mod RoundLaws
pub mod PictureLaws
pub mod PresenceLaws
pub mod HandlerLaws
pub mod OpeningLaws
pub mod ShowingLaws
pub mod ClosingLaws
pub mod AlongLaws
pub mod DueLaws
-- The words of the code and of laws about these files, which a reader need not believe.
pub mod Words
