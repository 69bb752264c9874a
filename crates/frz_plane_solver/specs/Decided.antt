-- Wins and failures alike, told apart by a test: is it a win?
use Rattle.std.specs.Prelude.{◌≡◌, ◌<◌, ◌+◌, ◌*◌, ℕ, Bool, true, false, List, slice_index}
use Rattle.frz_board.specs.declared.man.Colour.{Colour}
use Rattle.frz_arena.specs.declared.arm.Next.{Next}
use Rattle.frz_arena.specs.Arena.{Arena}
use Rattle.frz_arena.specs.Plies.{FailsWithin, MovesToBad, MovesToGood, WinsWithin}
use Rattle.frz_plane_game.specs.declared.target.Exits.{Exits}
use Rattle.frz_plane_game.specs.declared.target.Exits.TheVariants.{Wins, Losses}

-- the side wins within n plies, or fails within them
abbrev pub Decided : {M N V : Type 0} → Arena M N V → Colour → (win : Bool) → ℕ → N → Type 0
Decided arena side true = WinsWithin arena side
Decided arena side false = FailsWithin arena side

-- decided within n plies, and within no fewer
abbrev pub DecidedAt : {M N V : Type 0} → Arena M N V → Colour → (win : Bool) → ℕ → N → Type 0
DecidedAt arena side win n p =
    Decided arena side win n p × ((k : ℕ) → k < n → Decided arena side win k p → ⊥)

-- the next ply leads to what is good for the side, or to what is bad for it
abbrev pub MovesTo : {M N V : Type 0} → Arena M N V → Colour → (win : Bool)
    → (Next N V → Type 0) → N → Type 0
MovesTo arena side true = MovesToGood arena side
MovesTo arena side false = MovesToBad arena side

-- the exits that decide it within a ply more than n
abbrev pub worth_of : (win : Bool) → ℕ → Exits
worth_of true n = Wins n
worth_of false n = Losses

-- the code of a win or a failure within n plies
abbrev pub decided_code : (win : Bool) → ℕ → ℕ
decided_code true n = 2 + 2 * n
decided_code false n = 3 + 2 * n

-- the code is put at each number of which P holds, and nowhere else
pub record ArePut (P : ℕ → Type 0) (code : ℕ) (old new : List ℕ) : Type 0 where
  pub put : (i : ℕ) → P i → slice_index new i ≡ code
  pub kept : (i : ℕ) → (P i → ⊥) → slice_index new i ≡ slice_index old i
