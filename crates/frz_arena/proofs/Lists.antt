-- Lists of arms.
pub mod Members
pub mod FirstOnes
