-- What a node of a sheet is judged by: the token of a terminal, the marks of its symbols, whether its rules and conditions hold

-- What the functions that go through a sheet ask, and what their answers mean
pub mod Checked
-- What each way out of a node, of its children and of a token shows
pub mod Laws
