-- The lemmas on texts that other crates cite.
pub use Rattle.frz_words.proofs.Splitting.{length-split}
