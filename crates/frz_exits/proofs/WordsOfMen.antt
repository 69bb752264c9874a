-- What the word of a man tells: whether one stands on some squares, and where a king stands.
use Rattle.std.proofs.Common.{◌≡◌, ℕ, ◌^◌, ◌<◌, Bool, true, false, ◌&&◌, not, inl, inr, ap, sym, ◌∙◌, arith}
use Rattle.std.specs.Prelude.{◌==◌}
use Rattle.std.specs.List.{list_any}
use Rattle.std.proofs.lemmas.Bool.{and_left, cases_Bool}
use Rattle.frz_board.specs.declared.man.Colour.{Colour}
use Rattle.frz_board.specs.declared.man.Kind.TheVariants.{King}
use Rattle.frz_board.specs.Men.{cell_of_man}
use Rattle.frz_board.specs.Boards.{Board, has}
use Rattle.frz_fide.specs.Words.{HasNoneFrom, IsNext}
use Rattle.frz_fide.specs.Valid.{IsValid}
use Rattle.frz_fide.proofs.Lemmas.{kings_are, one_place}
use Rattle.frz_squares.specs.Squares.{squares}
use Rattle.frz_squares.specs.SquareSets.{has_square, set_of}
use Rattle.frz_squares.proofs.Lemmas.{any_square, has-set_of, no_square, set_of-from, set_of-some}

in_word : (f : ℕ → Bool) (word k : ℕ) → word ≡ set_of f → k < 64 → has_square word k ≡ f k
in_word f word k e l = ap (λ w. has_square w k) e ∙ has-set_of f k l

-- a word has a square in common with a set exactly where one passes its test and is in the set
pub common_square : (f : ℕ → Bool) (word set common : ℕ) → word ≡ set_of f → common < 2 ^ 64 →
    ((k : ℕ) → k < 64 → has_square common k ≡ (has_square word k && has_square set k)) →
    not (common == 0) ≡ list_any (λ s. f s && has_square set s) squares
common_square f word set common e small both =
    ap (λ w. not (w == 0))
    (set_of-from common (λ s. f s && has_square set s) small
    (λ k l. both k l ∙ ap (λ x. x && has_square set k) (in_word f word k e l)))
    ∙ set_of-some (λ s. f s && has_square set s)

-- an empty word: no square passes both tests
pub none_there : (f g : ℕ → Bool) (word : ℕ) → word ≡ set_of f → HasNoneFrom word 0 →
    list_any (λ s. f s && g s) squares ≡ false
none_there f g word e none =
    no_square (λ s. f s && g s)
    (λ k l. and_left (f k) (g k) (sym (in_word f word k e l) ∙ none.none k (omega arith) l))

-- a king is the only one of its side
only_king : (p : Board) (c : Colour) (s k : ℕ) → IsValid p → s < 64 → k < 64 →
    has p c King s ≡ true → has p c King k ≡ true → k ≡ s
only_king p c s k v ls lk hs hk =
    let size = v.fits.size in
    let one = kings_are p c v in
    one_place (λ x. x == cell_of_man (record { colour = c; kind = King })) p.cells k s
    (omega arith) (omega arith) (omega arith) hk hs

passes_nowhere : (p : Board) (c : Colour) (g : ℕ → Bool) (s : ℕ) → IsValid p → s < 64 →
    has p c King s ≡ true → g s ≡ false → (k : ℕ) → k < 64 → (has p c King k && g k) ≡ false
passes_nowhere p c g s v ls hs fails k lk =
    elim (cases_Bool (has p c King k)) [
      | inl t ↦ rw t (ap g (only_king p c s k v ls lk hs t) ∙ fails)
      | inr f ↦ and_left (has p c King k) (g k) f
    ]

-- so what a test says of the king of a side it says of the first square of the king's word
pub king_at : (p : Board) (c : Colour) (g : ℕ → Bool) (word s : ℕ) → IsValid p →
    word ≡ set_of (λ t. has p c King t) → IsNext word 0 s →
    g s ≡ list_any (λ t. has p c King t && g t) squares
king_at p c g word s v e next =
    let there : has p c King s ≡ true =
    sym (in_word (λ t. has p c King t) word s e next.on_board) ∙ next.there in
    elim (cases_Bool (g s)) [
      | inl t ↦ t ∙ sym (any_square (λ t. has p c King t && g t) s next.on_board
          (rw there t))
      | inr f ↦ f ∙ sym (no_square (λ t. has p c King t && g t)
          (passes_nowhere p c g s v next.on_board there f))
    ]
