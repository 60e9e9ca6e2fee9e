-- What an opening leaves in the lent cells
pub mod Opening
