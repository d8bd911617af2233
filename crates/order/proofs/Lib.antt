pub mod Storing
pub mod Subblocks
pub mod LeafRecords
pub mod RootRecords
pub mod LastBlock
pub mod WholeList
