-- What an exact table says of chess.
use Rattle.std.proofs.Common.{◌≡◌, ◌+◌, ◌*◌, ℕ, true, false, List, Some, sym, subst, ◌∙◌, arith}
use Rattle.std.specs.Prelude.{slice_index}
use Rattle.frz_board.specs.declared.man.Colour.{Colour}
use Rattle.frz_board.specs.Men.{other_of}
use Rattle.frz_arena.specs.declared.bound.Bound.{Bound}
use Rattle.frz_arena.specs.Plies.{WinsWithin, FailsWithin}
use Rattle.frz_arena.specs.Codes.{is_win, is_failure, code_of}
use Rattle.frz_arena.specs.Bounds.{IsBound}
use Rattle.frz_arena.specs.Chess.{mate_alone, Forces}
use Rattle.frz_arena.specs.Games.{Game, arena_of, goals_of}
use Rattle.frz_arena.specs.Exits.{TrueExits, AllNumbered}
use Rattle.frz_arena.specs.Names.{Numbering}
use Rattle.frz_arena.specs.Tables.{IsTable}
use Rattle.frz_arena.proofs.LocalCodes.ChosenCodes.{win_of}
use Rattle.frz_arena.proofs.Bounds.OneBound.{bound_wins, bound_fails}
use Rattle.frz_arena.proofs.Forcing.WinsForced.{wins_forces}
use Rattle.frz_arena.proofs.Forcing.TrueWins.{wins_mates, wins_mates_in}
use Rattle.frz_arena.proofs.Forcing.HoldsSafe.{forced_fails}

stored_win_is : {P M V : Type 0} (game : Game P M V) (side : Colour) (p : P) (n c : ℕ) →
    c ≡ 2 + 2 * n → (b : Bound) × (c ≡ code_of b) × IsBound (arena_of game) side p b →
    WinsWithin (arena_of game) side n p
stored_win_is game side p n c e b =
    (bound_wins (arena_of game) side p b.0 b.2 n).1
    (let f : code_of b.0 ≡ 2 + 2 * n = sym b.1 ∙ e in
    (subst (λ z. is_win z ≡ true) (sym f) (win_of n), omega arith))

pub stored_win : {P M V : Type 0} (game : Game P M V) (numbers : Numbering P) (side : Colour)
    (codes : List ℕ) → IsTable numbers (arena_of game) side codes → (p : P) (i n : ℕ)
    → numbers.number p ≡ Some i → slice_index codes i ≡ 2 + 2 * n
    → Forces game.chess (goals_of game side) side n p
stored_win game numbers side codes table p i n e c =
    wins_forces game side n p
    (stored_win_is game side p n (slice_index codes i) c (table.bound p i e))

-- a hold or a win fails at no number of plies
no_failure : {P M V : Type 0} (game : Game P M V) (side : Colour) (p : P) (b : Bound) →
    IsBound (arena_of game) side p b → is_failure (code_of b) ≡ false → (n : ℕ) →
    FailsWithin (arena_of game) side n p → ⊥
no_failure game side p b h k n f = let g = ((bound_fails (arena_of game) side p b h n).0 f).0 in cc

pub stored_hold : {P M V : Type 0} (game : Game P M V) → TrueExits game →
    (numbers : Numbering P) (side : Colour) (codes : List ℕ) →
    IsTable numbers (arena_of game) side codes → (p : P) (i : ℕ) → game.member p ≡ true →
    numbers.number p ≡ Some i → is_failure (slice_index codes i) ≡ false → (n : ℕ) →
    Forces game.chess mate_alone (other_of side) n p → ⊥
stored_hold game exits numbers side codes table p i m e c n f =
    let b = table.bound p i e in
    no_failure game side p b.0 b.2 (subst (λ z. is_failure z ≡ false) b.1 c) n
    (forced_fails game exits side n p m f)

-- where the exits are true, a stored win is a forced mate
pub stored_mate : {P M V : Type 0} (game : Game P M V) → TrueExits game →
    (numbers : Numbering P) (side : Colour) (codes : List ℕ) →
    IsTable numbers (arena_of game) side codes → (p : P) (i n : ℕ) → numbers.number p ≡ Some i →
    slice_index codes i ≡ 2 + 2 * n → (k : ℕ) × Forces game.chess mate_alone side k p
stored_mate game exits numbers side codes table p i n e c =
    wins_mates game exits side n p
    (stored_win_is game side p n (slice_index codes i) c (table.bound p i e))

pub stored_mate_in : {P M V : Type 0} (game : Game P M V) → TrueExits game →
    (numbers : Numbering P) (side : Colour) → AllNumbered game side → (codes : List ℕ) →
    IsTable numbers (arena_of game) side codes → (p : P) (i n : ℕ) → numbers.number p ≡ Some i →
    slice_index codes i ≡ 2 + 2 * n → Forces game.chess mate_alone side n p
stored_mate_in game exits numbers side all codes table p i n e c =
    wins_mates_in game exits side all n p
    (stored_win_is game side p n (slice_index codes i) c (table.bound p i e))
