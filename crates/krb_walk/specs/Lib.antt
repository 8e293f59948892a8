-- The terms of this crate's contracts, in ten words:
-- store: a first place, adjacent cells, and perhaps a fault after them
-- cell: takes up a width of places; live, with bytes, or free, without
-- place: where a cell begins, or the end of the last one
-- walk: goes from record to record, a step at a time; its cursor is the place where it is
-- record: a live cell; its name, kept over events, is where it was added and when; it is the live cell of its rank
-- track: the events of a run, or of joined runs, as one walk sees them
-- turn: the step of a walk that passes a record at its place
-- row: an event and the record that it gives
-- due: the rows of the live cells that the cursor passes, step by step
-- rewrite: only the live cells stay, in order, and each cursor is carried to the first that was at or after it
pub mod Phrases
pub mod Store
pub mod Stops
pub mod Ranks
pub mod Rules
pub mod ReplyContent
pub mod Changes
pub mod Events
pub mod History
pub mod Track
pub mod Due
pub mod Records
pub mod Damage
pub mod Fair
pub mod Joins
pub mod Ran
