pub mod Lengths
pub mod Numbers
pub mod ByteNumbers
pub mod LittleEndian
pub mod Cuts
pub mod ReadBack
