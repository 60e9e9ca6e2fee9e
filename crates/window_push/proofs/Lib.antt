-- The cells written for one more value are the form of the window with it
pub mod Renewing
