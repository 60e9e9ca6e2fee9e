-- House order for tables, 02 (a): what "differ only in such order or duplicates" says of two grammars, the grammar in house order, and its table
pub mod Order
-- The writer of 02 (a): "Add a writer that puts an accepted table into house order"
pub mod House
-- What 02 (a) promises of the writer: what is written, what is turned back, that tables "come out byte for byte alike", that "doing it a second time alters nothing", and that "every segment keeps its value or refusal under the written table"
pub mod HouseStatements
-- The writer on small tables, computed
mod HouseRows
