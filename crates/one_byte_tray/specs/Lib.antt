-- The tray of #102, with numbers of one byte, and what #104 says of both.
pub mod OneByteTray
pub mod SameAnswers
