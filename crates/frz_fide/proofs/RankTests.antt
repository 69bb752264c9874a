-- Ranks, as tests and as facts.
use Rattle.std.proofs.Common.{◌≡◌, ℕ, ◌+◌, ◌/◌, true, false, arith}
use Rattle.std.proofs.lemmas.Bool.{eqb-true, eq-eqb, ne_eqb}
use Rattle.frz_board.specs.declared.man.Colour.{Colour}
use Rattle.frz_board.specs.declared.man.Colour.TheVariants.{White, Black}
use Rattle.frz_board.specs.Squares.{rank_of, is_forward}
use Rattle.frz_board.specs.Men.{other_of}
use Rattle.frz_board.specs.EnPassant.{is_passing_rank}
use Rattle.frz_board.specs.Attacking.{IsForward}
use Rattle.frz_fide.specs.Legal.{is_home, is_last}
use Rattle.frz_fide.specs.LegalMoves.{IsHome, IsLast, IsTwoForward}

pub two_test : (c : Colour) (a b : ℕ) → IsTwoForward c a b → is_forward c 2 a b ≡ true
two_test White a b h = eq-eqb (rank_of b) (rank_of a + 2) h
two_test Black a b h = eq-eqb (rank_of a) (rank_of b + 2) h

pub two_means : (c : Colour) (a b : ℕ) → is_forward c 2 a b ≡ true → IsTwoForward c a b
two_means White a b h = eqb-true (rank_of b) (rank_of a + 2) h
two_means Black a b h = eqb-true (rank_of a) (rank_of b + 2) h

pub home_test : (c : Colour) (s : ℕ) → IsHome c s → is_home c s ≡ true
home_test White s h = eq-eqb (rank_of s) 1 h
home_test Black s h = eq-eqb (rank_of s) 6 h

pub home_means : (c : Colour) (s : ℕ) → is_home c s ≡ true → IsHome c s
home_means White s h = eqb-true (rank_of s) 1 h
home_means Black s h = eqb-true (rank_of s) 6 h

pub last_test : (c : Colour) (s : ℕ) → IsLast c s → is_last c s ≡ true
last_test White s h = eq-eqb (rank_of s) 7 h
last_test Black s h = eq-eqb (rank_of s) 0 h

pub last_means : (c : Colour) (s : ℕ) → is_last c s ≡ true → IsLast c s
last_means White s h = eqb-true (rank_of s) 7 h
last_means Black s h = eqb-true (rank_of s) 0 h

pub not_two : (c : Colour) (a b : ℕ) → IsForward c a b → is_forward c 2 a b ≡ false
not_two White a b h = ne_eqb (rank_of b) (rank_of a + 2) (λ e. omega arith)
not_two Black a b h = ne_eqb (rank_of a) (rank_of b + 2) (λ e. omega arith)

pub advance_inner : (c : Colour) (a b : ℕ) → IsHome c a → IsTwoForward c a b → IsLast c b → ⊥
advance_inner White a b h i l = omega arith
advance_inner Black a b h i l = omega arith

pub passing_inner : (c : Colour) (b : ℕ) → is_passing_rank (other_of c) b ≡ true → IsLast c b → ⊥
passing_inner White b h l = let five = eqb-true (b / 8) 5 h in omega arith
passing_inner Black b h l = let two = eqb-true (b / 8) 2 h in omega arith
