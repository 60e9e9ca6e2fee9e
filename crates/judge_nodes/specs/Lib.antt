-- A node's own record in a sheet
pub mod head
-- What a node of a sheet is judged by: the token of a terminal, the marks of its symbols, whether its rules and conditions hold
pub mod parts
