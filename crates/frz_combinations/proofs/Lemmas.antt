-- The lemmas that crates above cite.
pub use Rattle.frz_combinations.proofs.Pascals.{choose-zero, choose-one, choose-past, choose_wider, choose_some}
pub use Rattle.frz_combinations.proofs.Ranking.{place_counts, places_descend, rank-unrank, unrank-greatest}
pub use Rattle.frz_combinations.proofs.Selecting.{digit_below, selection_at-digit}
pub use Rattle.frz_combinations.proofs.Digits.{
  AreDigits-append,
  digits-value,
  digits_fit,
  product-append,
  value-digits,
  value_below,
  value_onto-append,
  value_onto-value,
}
