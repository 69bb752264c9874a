-- The lemmas that the crates above cite.
pub use Rattle.frz_store.proofs.PutLaws.{grown-put, put-at, put-off, put-same}
pub use Rattle.frz_store.specs.ShelfBytes.{put_bytes}
pub use Rattle.frz_store.proofs.Writes.{
  all_written,
  begins_whole,
  grew,
  grew_part,
  later_store,
  nothing_written,
}
