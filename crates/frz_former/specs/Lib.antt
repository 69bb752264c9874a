-- What contracts say of files of the former format.
pub mod OldFiles
