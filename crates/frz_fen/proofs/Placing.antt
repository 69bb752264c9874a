-- The ranks of a placement, from rank 8 down.
use Rattle.std.proofs.Common.{◌≡◌, ℕ, zero, suc, ◌+◌, ◌*◌, ◌-◌, ◌<◌, Bool, true, false, List, [], ◌∷◌, ◌++◌, length, drop, reverse, Option, None, Some, refl, ap, sym, ◌∙◌, arith, append_assoc}
use Rattle.std.specs.List.{flat_map, All}
use Rattle.std.proofs.lemmas.Grind.{flat_map-append}
use Rattle.std.proofs.lemmas.List.{reverse-append, append-nil}
use Rattle.std.specs.Prelude.{◌==◌, unwrap_or, option_map, cond, replicate}
use Rattle.std.proofs.Common.{lit<}
use Rattle.std.proofs.lemmas.List.Elements.{All-append, All-cons, All-nil, All-replicate}
use Rattle.frz_board.specs.declared.man.Man.{Man}
use Rattle.frz_board.specs.Men.{cell_of_man, man_of_letter}
use Rattle.frz_board.proofs.Lemmas.{cell-small}
use Rattle.frz_fen.specs.Placement.{is_rank, rank_cells, wrong_rank, board_cells, cell_of_letter, cells_of, is_gap}

pub wrong_rank-step : (n : ℕ) (part : List ℕ) (parts : List (List ℕ)) → 0 < n →
    is_rank part ≡ true → wrong_rank n (part ∷ parts) ≡ wrong_rank (n - 1) parts
unfolding wrong_rank
wrong_rank-step zero part parts l h = absurd (omega arith)
wrong_rank-step (suc n) part parts l h = rw h (ap (λ k. wrong_rank k parts) (omega arith))

pub wrong_rank-here : (n : ℕ) (part : List ℕ) (parts : List (List ℕ)) → 0 < n →
    is_rank part ≡ false → wrong_rank n (part ∷ parts) ≡ Some n
unfolding wrong_rank
wrong_rank-here zero part parts l h = absurd (omega arith)
wrong_rank-here (suc n) part parts l h = rw h refl

pub wrong_rank-missing : (n : ℕ) → 0 < n → wrong_rank n [] ≡ Some n
unfolding wrong_rank
wrong_rank-missing zero l = absurd (omega arith)
wrong_rank-missing (suc n) l = refl

pub wrong_rank-done : wrong_rank 0 [] ≡ None
unfolding wrong_rank
wrong_rank-done = refl

pub wrong_rank-further : (parts : List (List ℕ)) → 0 < length parts → wrong_rank 0 parts ≡ Some 0
unfolding wrong_rank
wrong_rank-further [] l = absurd (omega arith)
wrong_rank-further (part ∷ parts) l = refl

pub board_cells-cons : (part : List ℕ) (parts : List (List ℕ)) →
    board_cells (part ∷ parts) ≡ board_cells parts ++ rank_cells part
board_cells-cons part parts =
    ap (flat_map rank_cells) (reverse-append (part ∷ []) parts)
    ∙ flat_map-append rank_cells (reverse parts) (part ∷ [])
    ∙ ap (λ xs. board_cells parts ++ xs) (append-nil (rank_cells part))

-- a rank is put in front of those after it
pub board_step : (all rest : List (List ℕ)) (part row old new : List ℕ) (r : ℕ) → 0 < r →
    board_cells all ≡ board_cells (part ∷ rest) ++ drop (8 * r) old → row ≡ rank_cells part →
    drop (8 * (r - 1)) new ≡ row ++ drop (8 * (r - 1) + 8) old →
    board_cells all ≡ board_cells rest ++ drop (8 * (r - 1)) new
board_step all rest part row old new r l e h k =
    let place : 8 * (r - 1) + 8 ≡ 8 * r = omega arith in
    e ∙ ap (λ xs. xs ++ drop (8 * r) old) (board_cells-cons part rest)
    ∙ append_assoc (board_cells rest) (rank_cells part) (drop (8 * r) old)
    ∙ ap (λ xs. board_cells rest ++ (xs ++ drop (8 * r) old)) (sym h)
    ∙ ap (λ n. board_cells rest ++ (row ++ drop n old)) (sym place)
    ∙ ap (λ xs. board_cells rest ++ xs) (sym k)

-- each cell that a placement stands for is empty or a man's
man_fits : (o : Option Man) → unwrap_or (option_map cell_of_man o) 1 < 13
man_fits None = lit< tt
man_fits (Some m) = cell-small m.colour m.kind

letter_fits : (b : ℕ) → unwrap_or (cell_of_letter b) 1 < 13
letter_fits b = man_fits (man_of_letter b)

byte_fits : (c : Bool) (b : ℕ) →
    All (λ x. x < 13) (cond c (replicate (b - 48) 0) (unwrap_or (cell_of_letter b) 1 ∷ []))
byte_fits true b = All-replicate (λ x. x < 13) (b - 48) 0 (lit< tt)
byte_fits false b =
    All-cons (λ x. x < 13) (unwrap_or (cell_of_letter b) 1) [] (letter_fits b)
    (All-nil (λ x. x < 13))

pub rank_fits : (part : List ℕ) → All (λ x. x < 13) (rank_cells part)
rank_fits [] = All-nil (λ x. x < 13)
rank_fits (b ∷ bs) =
    All-append (λ x. x < 13) (cells_of b) (rank_cells bs) (byte_fits (is_gap b) b) (rank_fits bs)

ranks_fit : (parts : List (List ℕ)) → All (λ x. x < 13) (flat_map rank_cells parts)
ranks_fit [] = All-nil (λ x. x < 13)
ranks_fit (part ∷ parts) =
    All-append (λ x. x < 13) (rank_cells part) (flat_map rank_cells parts) (rank_fits part)
    (ranks_fit parts)

pub board_fits : (parts : List (List ℕ)) → All (λ x. x < 13) (board_cells parts)
board_fits parts = ranks_fit (reverse parts)

pub ruleset placing = (
  wrong_rank-step,
  wrong_rank-here,
  wrong_rank-missing,
  wrong_rank-done,
  wrong_rank-further,
  board_cells-cons,
)
