-- A product is tested before it is made: where one factor is near 0 it fits an i64, and where none is it is no value
pub mod Products
