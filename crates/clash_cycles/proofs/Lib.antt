-- Laws for the functions that place the values
pub mod Placing
