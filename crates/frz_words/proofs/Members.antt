-- The set of a word has exactly the squares that the word writes.
use Rattle.std.proofs.Common.{◌≡◌, ℕ, ◌<◌, List, Option, None, Some, ap, ◌∙◌}
use Rattle.std.specs.Prelude.{option_map, IfSome}
use Rattle.frz_words.specs.declared.squares.Rectangle.{Rectangle}
use Rattle.frz_words.specs.Squares.{has_square, is_covered, covered_by, items_of, set_of, squares_of, is_square_of}
use Rattle.frz_squares.proofs.Lemmas.{has-set_of}

member_case : (o : Option (List Rectangle)) (set s : ℕ) → s < 64 →
    Some set ≡ option_map (λ items. set_of (is_covered items)) o → has_square set s ≡ covered_by o s
member_case None set s l e = absurd cc
member_case (Some items) set s l e =
    let same : set ≡ set_of (is_covered items) = cc in
    ap (λ n. has_square n s) same ∙ has-set_of (is_covered items) s l

pub members : (r : Option ℕ) (word : List ℕ) → r ≡ squares_of word →
    IfSome r (λ set. (s : ℕ) → s < 64 → has_square set s ≡ is_square_of word s)
unfolding squares_of is_square_of
members None word e = tt
members (Some set) word e = λ s l. member_case (items_of word) set s l e
