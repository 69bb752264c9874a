pub mod Lemmas
mod FreeCodes
mod LocalCodes
