-- The sign tells mate and check.
use Rattle.std.proofs.Common.{ℕ, ◌<◌, arith, ◌≡◌, ◌≢◌, Bool, true, false, List, [], ◌∷◌, refl, sym}
use Rattle.std.specs.Prelude.{◌↔◌}
use Rattle.frz_board.specs.Boards.{Board}
use Rattle.frz_board.specs.Moving.{Step}
use Rattle.frz_board.specs.Attacks.{is_in_check}
use Rattle.frz_fide.specs.Ends.{IsMate, IsGoing}
use Rattle.frz_fide.specs.Listing.{legal_moves_of}
use Rattle.frz_san.specs.Notation.{sign, sign_by}

no_byte : (c : ℕ) → [] ≡ c ∷ [] → ⊥
no_byte c e = absurd cc

same_byte : (a b : ℕ) → a ∷ [] ≡ b ∷ [] → a ≡ b
same_byte a b e = cc

other_byte : (a b : ℕ) → a < b → a ∷ [] ≡ b ∷ [] → ⊥
other_byte a b h e = let same = same_byte a b e in omega arith

no_move : (m : Step) (ms : List Step) → m ∷ ms ≡ [] → ⊥
no_move m ms e = absurd cc

not_false : false ≡ true → ⊥
not_false e = absurd cc

mate_by : (b : Bool) (moves : List Step) → (sign_by b moves ≡ 35 ∷ []) ↔ ((moves ≡ []) × (b ≡ true))
mate_by false moves = (λ e. absurd (no_byte 35 e), λ h. absurd (not_false h.1))
mate_by true [] = (λ e. (refl, refl), λ h. refl)
mate_by true (m ∷ ms) =
    (λ e. absurd (other_byte 35 43 (omega arith) (sym e)), λ h. absurd (no_move m ms h.0))

check_by : (b : Bool) (moves : List Step) →
    (sign_by b moves ≡ 43 ∷ []) ↔ ((moves ≢ []) × (b ≡ true))
check_by false moves = (λ e. absurd (no_byte 43 e), λ h. absurd (not_false h.1))
check_by true [] = (λ e. absurd (other_byte 35 43 (omega arith) e), λ h. absurd (h.0 refl))
check_by true (m ∷ ms) = (λ e. (no_move m ms, refl), λ h. refl)

nothing_by : (b : Bool) (moves : List Step) → (sign_by b moves ≡ []) ↔ (b ≡ false)
nothing_by false moves = (λ e. refl, λ h. refl)
nothing_by true [] = (λ e. absurd cc, λ h. absurd cc)
nothing_by true (m ∷ ms) = (λ e. absurd cc, λ h. absurd cc)

pub mate : (q : Board) → (sign q ≡ 35 ∷ []) ↔ IsMate q
unfolding sign
mate q = mate_by (is_in_check q q.turn) (legal_moves_of q)

pub check : (q : Board) → (sign q ≡ 43 ∷ []) ↔ (IsGoing q × (is_in_check q q.turn ≡ true))
unfolding sign
check q = check_by (is_in_check q q.turn) (legal_moves_of q)

pub nothing : (q : Board) → (sign q ≡ []) ↔ (is_in_check q q.turn ≡ false)
unfolding sign
nothing q = nothing_by (is_in_check q q.turn) (legal_moves_of q)
