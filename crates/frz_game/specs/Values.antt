-- When a value is true in chess.
use Rattle.std.specs.Prelude.{◌≡◌, ℕ, true, false}
use Rattle.std.specs.List.{Contains}
use Rattle.frz_board.specs.declared.man.Colour.TheVariants.{White, Black}
use Rattle.frz_board.specs.Boards.{Board}
use Rattle.frz_board.specs.Moving.{Step}
use Rattle.frz_fide.specs.Legal.{after}
use Rattle.frz_fide.specs.Listing.{legal_moves_of}
use Rattle.frz_sets.specs.declared.exit.Value.{Value}
use Rattle.frz_sets.specs.declared.exit.Value.TheVariants.{WhiteWins, BlackWins, Draw, WhiteHolds, BlackHolds, Unknown, WhiteWinsIn, BlackWinsIn}
use Rattle.frz_sets.specs.Views.{RuleLines}
use Rattle.frz_arena.specs.Chess.{ForcesMate, NeverForcesMate}
use Rattle.frz_game.specs.Games.{chess}
use Rattle.frz_game.specs.Numbers.{is_member}

-- who wins forces mate, within the number if there is one; who holds is never mated by force
abbrev pub IsTrueValue : Value → Board → Type 0
IsTrueValue WhiteWins q = (n : ℕ) × ForcesMate chess White n q
IsTrueValue BlackWins q = (n : ℕ) × ForcesMate chess Black n q
IsTrueValue (WhiteWinsIn c) q = ForcesMate chess White c q
IsTrueValue (BlackWinsIn c) q = ForcesMate chess Black c q
IsTrueValue WhiteHolds q = NeverForcesMate chess Black q
IsTrueValue BlackHolds q = NeverForcesMate chess White q
IsTrueValue Draw q = NeverForcesMate chess Black q × NeverForcesMate chess White q
IsTrueValue Unknown q = Unit {0}

-- the value of each position one legal move outside the set is true
abbrev pub AreTrueExits : RuleLines → (Board → Value) → Type 0
AreTrueExits rules value =
    (p : Board) (m : Step) → is_member rules.groups p ≡ true → Contains (legal_moves_of p) m →
    is_member rules.groups (after p m) ≡ false → IsTrueValue (value (after p m)) (after p m)
