-- Reading a set of squares item by item.
use Rattle.std.proofs.Common.{◌≡◌, ℕ, List, [], ◌∷◌, Option, None, Some, sym, ap, ◌∙◌, bit_or}
use Rattle.std.specs.Prelude.{map}
use Rattle.frz_words.proofs.Unions.{with_items, from_nothing}
use Rattle.frz_words.specs.Parts.{split}
use Rattle.frz_words.specs.declared.squares.Rectangle.{Rectangle}
use Rattle.frz_words.specs.Squares.{is_comma, covers, set_of, item_of, squares_of}

-- the squares of the set and of the items of what is left
unfoldable pub squares_with : ℕ → List ℕ → Option ℕ
squares_with set w = with_items set (map item_of (split is_comma w))

pub set_start : (w : List ℕ) → squares_with 0 w ≡ squares_of w
unfolding squares_of squares_with
set_start w = from_nothing (map item_of (split is_comma w))

pub set_next : (set : ℕ) (w front after : List ℕ) (i : Rectangle) →
    split is_comma w ≡ front ∷ split is_comma after → Some i ≡ item_of front →
    squares_with set w ≡ squares_with (bit_or set (set_of (covers i))) after
unfolding squares_with
set_next set w front after i e f =
    ap (λ v. with_items set (map item_of v)) e
    ∙ ap (λ o. with_items set (o ∷ map item_of (split is_comma after))) (sym f)

pub set_none : (set : ℕ) (w front : List ℕ) (vs : List (List ℕ)) → split is_comma w ≡ front ∷ vs →
    None ≡ item_of front → squares_with set w ≡ None
unfolding squares_with
set_none set w front vs e f =
    ap (λ v. with_items set (map item_of v)) e
    ∙ ap (λ o. with_items set (o ∷ map item_of vs)) (sym f)

-- an item that is none: there is no set
pub no_set : (r : Option ℕ) (set : ℕ) (word rest front : List ℕ) (vs : List (List ℕ)) → r ≡ None →
    squares_with set rest ≡ squares_of word → split is_comma rest ≡ front ∷ vs →
    None ≡ item_of front → r ≡ squares_of word
no_set r set word rest front vs n same e f = n ∙ sym (set_none set rest front vs e f) ∙ same

pub set_last : (set : ℕ) (w : List ℕ) (i : Rectangle) → split is_comma w ≡ w ∷ [] →
    Some i ≡ item_of w → squares_with set w ≡ Some (bit_or set (set_of (covers i)))
unfolding squares_with
set_last set w i e f =
    ap (λ v. with_items set (map item_of v)) e ∙ ap (λ o. with_items set (o ∷ [])) (sym f)

pub ruleset sets = (set_start, set_next, set_none, set_last)
