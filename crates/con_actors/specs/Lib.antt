-- A console with its history.
pub mod Desk
-- Clients and their workers.
pub mod Standing
pub mod Worker
pub mod Seats
-- A way to a console, and a client's turn there.
pub mod Door
pub mod DoorTurns
-- The terminal's side.
pub mod Sender
-- The terminal: what is played on it, and what the painter claims of it.
pub mod Runs
pub mod Painting
-- A session by turns, from its beginning on, and what it leaves behind.
pub mod Opening
pub mod Solo
pub mod Outcome
-- The same of the structs that hold handlers, as contracts say it.
pub mod Held
-- A second terminal: what it is to show, and what an outcome has of it.
pub mod Seconds
pub mod Watched
pub mod Second
-- Laws of these words, for the crates above: entries and runs,
pub mod Replying
pub mod DeskLaws
pub mod RanLaws
pub mod DeskDoor
-- a client's turns, its rack and its chain,
pub mod RackLaws
pub mod StandingLaws
pub mod StepLaws
pub mod HandlerTurns
pub mod WorkerLaws
pub mod DoorEntries
pub mod DoorEntered
pub mod DoorGoing
pub mod DeskSince
pub mod DoorExact
-- all clients in their seats,
pub mod Beginning
pub mod SeatLaws
-- the terminal's side and its link,
pub mod SenderLaws
pub mod AskLaws
pub mod LinkedLaws
pub mod LinkLaws
-- the painter, its frames and the terminal,
pub mod RunLaws
pub mod StreamLaws
pub mod PaintingLaws
pub mod CanvasLaws
pub mod PaintTurns
pub mod PaintCounts
pub mod TiedLaws
-- and a session's beginning and its end.
pub mod OpeningLaws
pub mod EndLaws
-- The words of the code and of laws about these files, which a reader need not believe.
pub mod Words
