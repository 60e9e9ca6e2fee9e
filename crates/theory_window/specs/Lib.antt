-- Whether a buffer is well kept, by tests of its parts: what the code looks at
pub mod Parts
-- Laws of lists
pub mod Lists
-- The slots as a ring: one more value, and the values of slots and the slots of values
pub mod Ring
-- The leaders: one more value, the oldest gone, the largest by a scan, and a walk from the newest
pub mod Leaders
-- Totals: of the values and of the slots, after one more value, and their size
pub mod Sums
-- A buffer is well kept exactly if it is the form of a window; what the code reads from one, and what one more value makes of it
pub mod Kept
-- The test of the values held by one walk from the newest: its start, its turns and its end
pub mod Walk
-- A well kept buffer is the form of its values: part by part, and with one more value
pub mod FormByParts
-- The window with one more value, by what one walk from the newest value has read: the value that leaves, the leaders after it, total and largest
pub mod Next
-- What the calls answer and leave, case by case
pub mod Cases
-- After an opening and any values the answer is that of the last of them by a scan; a buffer is well kept exactly if an opening and values after it leave it
pub mod Reached
-- What the calls promise beside their answers: a 42 is given exactly where it is due and changes nothing, and the cells past a window's form are untouched
pub mod Promises
-- After an opening and any list of calls the buffer holds the last values that entered, and the next call is answered by a scan of them
pub mod ScanAlways
-- The promises of 02 (k), proved: for each statement of meaning's WindowStatements, in its order, the theorem
pub mod Proved
