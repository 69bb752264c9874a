-- What the rows of a hold say in chess.
use Rattle.std.specs.Prelude.{◌≡◌, ◌⊎◌, ℕ, not, Bool, false, List, [], map, filter, Some, None}
use Rattle.std.specs.List.{Contains}
use Rattle.frz_board.specs.declared.man.Colour.{Colour}
use Rattle.frz_board.specs.Boards.{Board}
use Rattle.frz_board.specs.Men.{other_of}
use Rattle.frz_board.specs.Moving.{Step}
use Rattle.frz_fide.specs.Legal.{after}
use Rattle.frz_fide.specs.Listing.{legal_moves_of}
use Rattle.frz_sets.specs.declared.exit.Value.{Value}
use Rattle.frz_sets.specs.Views.{RuleLines}
use Rattle.frz_arena.specs.Codes.{is_win}
use Rattle.frz_exits.specs.Forbidding.{is_free}
use Rattle.frz_game.specs.Games.{arm_at}
use Rattle.frz_game.specs.Numbers.{is_member}
use Rattle.frz_graph.specs.EntryCodes.{arm_code}
use Rattle.frz_reasons.specs.declared.denial.Denial.{Denial}

-- by these codes, and by the value of a position outside the set, the side has a win behind the
-- move
abbrev pub wins_behind : RuleLines → (Board → Value) → Colour → (codes : List ℕ) → Board → Step →
    Bool
wins_behind rules value side codes p m = is_win (arm_code side codes (arm_at rules value p m))

-- the legal moves of the opponent at the position that leave the side no win
abbrev pub denying_moves : RuleLines → (Board → Value) → Colour → (codes : List ℕ) → Board →
    List Step
denying_moves rules value side codes p =
    filter (λ m. not (wins_behind rules value side codes p m)) (legal_moves_of p)

-- how a win is denied to the side at the position: where it is to move, each of its free moves is
-- named, and a reply is legal and leaves it no win; a move without a reply leaves the set, or the
-- opponent needs none behind it, as no legal one denies the win. Where the opponent is to move, his
-- moves are named that leave the side no win
pub record AreDenials (rules : RuleLines) (value : Board → Value) (side : Colour)
    (codes : List ℕ) (p : Board) (denials : List Denial) : Type 0 where
  pub own : p.turn ≡ side →
      map (λ d. d.mv) denials ≡ filter (is_free rules side p) (legal_moves_of p)
  pub replies : (d : Denial) → Contains denials d → (reply : Step) → d.reply ≡ Some reply →
      Contains (legal_moves_of (after p d.mv)) reply
      × (wins_behind rules value side codes (after p d.mv) reply ≡ false)
  pub unanswered : p.turn ≡ side → (d : Denial) → Contains denials d → d.reply ≡ None →
      (is_member rules.groups (after p d.mv) ≡ false)
      ⊎ (denying_moves rules value side codes (after p d.mv) ≡ [])
  pub other : p.turn ≡ other_of side →
      map (λ d. d.mv) denials ≡ denying_moves rules value side codes p
