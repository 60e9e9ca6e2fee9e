-- Lines written one behind the other into a page
pub mod Paging
