-- A rule's target settled: what is said of the words and the note holds on; and the operands of a rule by its function
pub mod Settling
