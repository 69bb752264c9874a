-- Kinds by their numbers.
use Rattle.std.proofs.Common.{◌≡◌, true, refl, sym, ap, ◌∙◌}
use Rattle.std.proofs.lemmas.Bool.{eqb-true}
use Rattle.frz_board.specs.declared.man.Kind.{Kind}
use Rattle.frz_board.specs.declared.man.Kind.TheVariants.{King, Queen, Rook, Bishop, Knight, Pawn}
use Rattle.frz_board.specs.Men.{number_of_kind, kind_of_number}
use Rattle.frz_game.specs.TextsByMen.{same_kind}

kind_itself : (k : Kind) → same_kind k k ≡ true
kind_itself King = refl
kind_itself Queen = refl
kind_itself Rook = refl
kind_itself Bishop = refl
kind_itself Knight = refl
kind_itself Pawn = refl

pub same_kind_of : (j k : Kind) → j ≡ k → same_kind j k ≡ true
same_kind_of j k e = ap (λ (i : Kind). same_kind j i) (sym e) ∙ kind_itself j

kind_back : (k : Kind) → kind_of_number (number_of_kind k) ≡ k
kind_back King = refl
kind_back Queen = refl
kind_back Rook = refl
kind_back Bishop = refl
kind_back Knight = refl
kind_back Pawn = refl

pub same_kind_means : (j k : Kind) → same_kind j k ≡ true → j ≡ k
same_kind_means j k h =
    sym (kind_back j) ∙ ap kind_of_number (eqb-true (number_of_kind j) (number_of_kind k) h)
    ∙ kind_back k
