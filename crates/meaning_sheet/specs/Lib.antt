-- 02 (i): tree sheets
pub mod Sheet
-- 02 (i): the call that writes a tree's sheet: what it answers, and every byte of the buffer afterwards
pub mod SheetCalls
-- 02 (i) by example, on the grammar of words and tags
mod SheetRows
