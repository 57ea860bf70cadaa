-- What a reader must believe: the console, what each call does, and one step.
pub mod State
pub mod Outcome
pub mod HandleCalls
pub mod ScreenCalls
pub mod CellCalls
pub mod ProcessCalls
pub mod Call
pub mod Serving
pub mod Closing
pub mod Signals
pub mod Reads
pub mod Terminal
pub mod Painting
pub mod Step
pub mod History
-- What it is for a history to follow a session and a link.
pub mod Along
pub mod Turns
pub mod Chain
pub mod Client
pub mod Follows
pub mod Sights
pub mod Moves
pub mod HistoryLaws
pub mod Sizes
pub mod Added
pub mod CallLaws
pub mod ProcLaws
pub mod EventLaws
pub mod SizeLaws
pub mod SameViews
pub mod FeedingLaws
-- The code's own words: calls by their names, what holds of every console, and what is promised to fit.
pub mod InputCalls
pub mod LineCalls
pub mod Pumping
pub mod Began
pub mod Opened
pub mod Rooms
pub mod Kept
pub mod Sound
pub mod Held
-- What a Paint tells beside its view.
pub mod Marks
-- Bytes of the terminal one at a time.
pub mod Feeding
-- The memory of events that are no client's.
pub mod TerminalRooms
pub mod CallRooms
pub mod ClientRooms
pub mod Fits
pub mod Numbered
-- The words of the code and of laws about these files, which a reader need not believe.
pub mod Words
