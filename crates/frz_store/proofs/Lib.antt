pub mod PutLaws
pub mod ShelfFiles
pub mod Writes
pub mod Lemmas
