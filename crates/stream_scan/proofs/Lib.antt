-- From one byte to all texts that go on so: what a scan tells of them.
pub mod Pieces
pub mod Outcomes
pub mod OneByte
pub mod Openness
pub mod Scans
pub mod Ends
pub mod FirstTrees
pub mod Continuations
