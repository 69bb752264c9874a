-- The lemmas that the crates above cite.
pub use Rattle.frz_atlas.proofs.AtlasLoaded.{own_refused}
pub use Rattle.frz_atlas.proofs.Causes.{atlas_cause, atlas_later}
pub use Rattle.frz_atlas.proofs.ExactTables.{judged_exact, kept_backs, links_backs}
pub use Rattle.frz_atlas.proofs.LoadedAll.{unopened_below}
pub use Rattle.frz_atlas.proofs.OwnKinds.{as_own, leans_by, of_own, opens_own, own_kind}
pub use Rattle.frz_atlas.proofs.Several.{may_hold_some, some_helds}
pub use Rattle.frz_backs.proofs.Lemmas.{exits_over_true, lines_alone, loaded_backs, mates_within, outcomes_over, over_small, tables_decide}
pub use Rattle.frz_check.proofs.Lemmas.{many_codes, one_verdict, verdict_on, verdict_there}
