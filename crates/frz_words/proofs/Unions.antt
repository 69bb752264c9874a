-- The set of a word has exactly the squares of its items.
use Rattle.std.proofs.Common.{◌≡◌, ℕ, zero, suc, ◌+◌, Bool, false, ◌||◌, List, [], ◌∷◌, Option, None, Some, bit_or, refl, ap, sym, ◌∙◌}
use Rattle.std.specs.Prelude.{option_map}
use Rattle.std.specs.List.{list_any}
use Rattle.std.proofs.Math.Bool.{or_assoc, or-false}
use Rattle.frz_words.specs.Squares.{covers, with_item, all_items, is_covered}
use Rattle.frz_words.specs.declared.squares.Rectangle.{Rectangle}
use Rattle.frz_squares.specs.SquareSets.{bits_below, set_of}
use Rattle.frz_squares.proofs.Lemmas.{union, set_of-same}

-- the squares of the set, and of the items
abbrev pub with_items : ℕ → List (Option Rectangle) → Option ℕ
with_items set [] = Some set
with_items set (None ∷ is) = None
with_items set ((Some i) ∷ is) = with_items (bit_or set (set_of (covers i))) is

abbrev pub set_with : (ℕ → Bool) → Option (List Rectangle) → Option ℕ
set_with f None = None
set_with f (Some is) = Some (set_of (λ s. f s || list_any (λ i. covers i s) is))

one_more : (f : ℕ → Bool) (i : Rectangle) (o : Option (List Rectangle)) →
    set_with (λ s. f s || covers i s) o ≡ set_with f (with_item i o)
one_more f i None = refl
one_more f i (Some is) =
    ap (λ n. Some n)
    (set_of-same (λ s. (f s || covers i s) || list_any (λ j. covers j s) is)
    (λ s. f s || list_any (λ j. covers j s) (i ∷ is))
    (λ s l. or_assoc (f s) (covers i s) (list_any (λ j. covers j s) is)))

pub items_union : (f : ℕ → Bool) (is : List (Option Rectangle)) →
    with_items (set_of f) is ≡ set_with f (all_items is)
items_union f [] =
    ap (λ n. Some n) (set_of-same f (λ s. f s || false) (λ s l. sym (or-false (f s))))
items_union f (None ∷ is) = refl
items_union f ((Some i) ∷ is) =
    ap (λ n. with_items n is) (union f (covers i)) ∙ items_union (λ s. f s || covers i s) is
    ∙ one_more f i (all_items is)

none_below : (n : ℕ) → bits_below (λ s. false) n ≡ 0
none_below zero = refl
none_below (suc n) = ap (λ x. x + 0) (none_below n)

none : set_of (λ s. false) ≡ 0
unfolding set_of
none = none_below 64

start_case : (o : Option (List Rectangle)) →
    set_with (λ s. false) o ≡ option_map (λ items. set_of (is_covered items)) o
start_case None = refl
start_case (Some is) = refl

pub from_nothing : (is : List (Option Rectangle)) →
    with_items 0 is ≡ option_map (λ items. set_of (is_covered items)) (all_items is)
from_nothing is =
    ap (λ n. with_items n is) (sym none) ∙ items_union (λ s. false) is ∙ start_case (all_items is)
