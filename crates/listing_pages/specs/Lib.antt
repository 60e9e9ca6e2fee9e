-- A page: the first of the lines still to come, as many as there is room for, and where the listing goes on
pub mod Pages
