-- Words written into an area one after the other, from an address on
pub mod Patch
-- A rule or a condition as words, from the bytes of its field: a tag, two bytes of length, then the body
pub mod Items
-- The fields of a production's rules and conditions, one after the other: where each begins, and a fact of the first one and of those behind it
pub mod Fields
-- The words and numbers of a production's rules and conditions, by a walk along their fields
pub mod Walk
-- The fields of a production in chains, one for each slot
pub mod Chains
-- The definitions of specs/ by the tests that the code makes
pub mod Laws
-- The walk along the fields of a production that makes chains of them, and the walk along a chain
pub mod Walks
