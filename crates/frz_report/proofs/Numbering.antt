-- The number of the same men with Black to move, which may not be valid.
use Rattle.std.proofs.Common.{◌≡◌, sym, subst, ◌∙◌, ap, ℕ, List, true, false, ◌&&◌, Some, None, Err}
use Rattle.std.specs.Prelude.{is_ok}
use Rattle.std.specs.List.{list_all}
use Rattle.std.proofs.lemmas.Bool.{and_parts}
use Rattle.frz_board.specs.Boards.{Board}
use Rattle.frz_fide.specs.Valid.{IsValid, validity_of}
use Rattle.frz_fide.specs.declared.validity.Invalid.{Invalid}
use Rattle.frz_index.specs.Members.{HasNumber, Member, Num}
use Rattle.frz_index.specs.Membership.{are_cells, are_men_covered, is_counted, is_member, is_valid, number_of}
use Rattle.frz_index.specs.Partners.{with_black}
use Rattle.frz_index.proofs.Lemmas.{number_answer, number_there, of_member}
use Rattle.frz_sets.specs.Views.{GroupLine}

valid_part : (gs : List GroupLine) (p : Board) → is_member gs p ≡ true → is_valid p ≡ true
unfolding is_member
valid_part gs p h =
    (and_parts (is_valid p) (are_men_covered gs p && list_all (is_counted p) gs) h).0

valid_is_ok : (p : Board) → is_valid p ≡ true → is_ok (validity_of p) ≡ true
unfolding is_valid
valid_is_ok p h = (and_parts (are_cells p.cells) (is_ok (validity_of p)) h).1

not_inside : (gs : List GroupLine) (q : Board) (why : Invalid) → Err why ≡ validity_of q
    → Member gs q → ⊥
not_inside gs q why is member =
    let ok : is_ok (validity_of q) ≡ true = valid_is_ok q
    (valid_part gs q (of_member gs q member)) in
    let no : false ≡ true = ap is_ok is ∙ ok in cc

-- a position that is not valid has none
pub no_number : (gs : List GroupLine) (q : Board) (why : Invalid) → Err why ≡ validity_of q
    → None ≡ number_of gs q
no_number gs q why is =
    number_answer gs q None
    (λ h. (let no : false ≡ true = h in cc), λ member. absurd (not_inside gs q why is member)) tt

-- a position that is valid has the number that is given
pub second_number : (gs : List GroupLine) (p q : Board) (w n : ℕ) → HasNumber gs w p →
    q ≡ with_black p → IsValid q →
    ((p : Board) → HasNumber gs w p → Num gs (with_black p) ≡ n) →
    ((p : Board) → HasNumber gs w p → IsValid (with_black p) → Member gs (with_black p)) →
    Some n ≡ number_of gs q
second_number gs p q w n has is valid number member =
    let there : Member gs (with_black p) = member p has (subst IsValid is valid) in
    sym (ap (number_of gs) is ∙ number_there gs (with_black p) (of_member gs (with_black p) there)
    ∙ ap Some (number p has))
