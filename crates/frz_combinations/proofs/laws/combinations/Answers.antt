use Rattle.std.proofs.Common.{◌≡◌, ℕ, ◌+◌, ◌-◌, ◌<◌, ◌≤◌, ◌∷◌, add-one, ap, subst, sym, ◌∙◌}
use Rattle.frz_combinations.specs.Binomials.{choose}
use Rattle.frz_combinations.specs.Combinations.{unrank}
use Rattle.frz_combinations.proofs.Ranking.{rank_below, rank_last, rank_once, rank_ordered, rank-unrank, unrank-greatest, unrank-rank}
use Rattle.frz_combinations.proofs.laws.combinations.Goals as goal

greatest : (s j r c : ℕ) → c < s → choose c (j + 1) ≤ r →
    ((x : ℕ) → c < x → x < s → r < choose x (j + 1)) →
    unrank s (j + 1) r ≡ c ∷ unrank c j (r - choose c (j + 1))
greatest s j r c h fits above =
    let one = add-one j in
    ap (λ n. unrank s n r) one
    ∙ unrank-greatest s j r c h (subst (λ n. choose c n ≤ r) one fits)
    (λ x k l. subst (λ n. r < choose x n) one (above x k l))
    ∙ ap (λ n. c ∷ unrank c j (r - choose c n)) (sym one)

pub returns : goal.returns
returns c = record {
  below = rank_below;
  last = rank_last;
  greatest = greatest;
  found_again = unrank-rank;
  each = rank-unrank;
  once = rank_once;
  ordered = rank_ordered;
}
