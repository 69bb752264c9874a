-- Words of squares that some element of a list marks, put together element by element.
use Rattle.std.proofs.Common.{◌≡◌, ℕ, ◌+◌, ◌<◌, ◌≤◌, Bool, ◌||◌, List, bit_or, get_or, length, take, ap, sym, ◌∙◌}
use Rattle.std.specs.List.{list_any}
use Rattle.std.proofs.lemmas.List.{take_all}
use Rattle.std.proofs.lemmas.List.Folds.{list_any_more}
use Rattle.frz_squares.specs.SquareSets.{has_square}
use Rattle.frz_squares.proofs.Lemmas.{has-or}
use Rattle.frz_sets.specs.declared.forbid.Forbid.{Forbid}

module _ (marks : Forbid → ℕ → Bool) (lines : List Forbid) where
  -- the word has the squares that one of the first n lines marks
  pub record AreMarked (n word : ℕ) : Type 0 where
    pub marked : (s : ℕ) → s < 64 →
        has_square word s ≡ list_any (λ (line : Forbid). marks line s) (take n lines)

  pub marked_more : (n word one : ℕ) (line : Forbid) → n < length lines →
      line ≡ get_or lines n line → AreMarked n word →
      ((s : ℕ) → s < 64 → has_square one s ≡ marks line s) → AreMarked (n + 1) (bit_or word one)
  marked_more n word one line low is h new = record {
    marked = λ s ls.
        has-or word one s ∙ ap (λ t. t || has_square one s) (h.marked s ls)
        ∙ ap (λ t. list_any (λ (x : Forbid). marks x s) (take n lines) || t)
        (new s ls ∙ ap (λ (x : Forbid). marks x s) is)
        ∙ sym (list_any_more (λ (x : Forbid). marks x s) lines n line low);
  }

  pub all_marked : (n word : ℕ) → length lines ≤ n → AreMarked n word → (s : ℕ) → s < 64 →
      has_square word s ≡ list_any (λ (line : Forbid). marks line s) lines
  all_marked n word end h s ls =
      h.marked s ls ∙ ap (list_any (λ (x : Forbid). marks x s)) (take_all n lines end)
