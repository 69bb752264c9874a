-- What a side forces, told by recursion over the plies.
use Rattle.std.specs.Prelude.{◌≡◌, ◌≢◌, ◌⊎◌, ℕ, zero, suc, [], Option, Some}
use Rattle.std.specs.List.{Contains}
use Rattle.frz_board.specs.declared.man.Colour.{Colour}
use Rattle.frz_board.specs.Men.{other_of}
use Rattle.frz_arena.specs.Chess.{Chess, IsMated}

-- the side is to move, and one of its legal moves leads to a position with F
abbrev pub OwnMoveTo : {P M : Type 0} → Chess P M → Colour → (P → Type 0) → P → Type 0
OwnMoveTo {P} {M} chess side F p =
    (chess.turn p ≡ side) × ((m : M) × Contains (chess.moves p) m × F (chess.play p m))

-- the side's opponent is to move and has a legal move, and each of them leads to a position with F
abbrev pub EveryReplyTo : {P M : Type 0} → Chess P M → Colour → (P → Type 0) → P → Type 0
EveryReplyTo {P} {M} chess side F p =
    (chess.turn p ≡ other_of side) × (chess.moves p ≢ [])
    × ((m : M) → Contains (chess.moves p) m → F (chess.play p m))

-- the same as `Forces`
abbrev pub ForcesByPlies : {P M : Type 0} → Chess P M → (P → Option ℕ) → Colour → ℕ → P → Type 0
ForcesByPlies chess goal side zero p = (goal p ≡ Some 0) ⊎ IsMated chess (other_of side) p
ForcesByPlies chess goal side (suc n) p =
    ForcesByPlies chess goal side n p
    ⊎ ((goal p ≡ Some (suc n))
    ⊎ (OwnMoveTo chess side (ForcesByPlies chess goal side n) p
    ⊎ EveryReplyTo chess side (ForcesByPlies chess goal side n) p))
