-- What the rules say of the game in which White renounces all moves but those of the rook to g1 and
-- g8.
use Rattle.std.proofs.Common.{◌≡◌, ◌≤◌, ℕ, Bool, true, false, List, [], ◌∷◌, refl, ap, ◌∙◌, arith}
use Rattle.std.specs.Prelude.{slice_index, if◌then◌else◌}
use Rattle.frz_board.specs.declared.man.Colour.{Colour}
use Rattle.frz_board.specs.declared.man.Colour.TheVariants.{White, Black}
use Rattle.frz_board.specs.declared.man.Kind.TheVariants.{Rook}
use Rattle.frz_board.specs.Boards.{Board}
use Rattle.frz_board.specs.Squares.{squares}
use Rattle.frz_sets.specs.declared.exit.Test.TheVariants.{Count}
use Rattle.frz_sets.specs.declared.exit.Value.{Value}
use Rattle.frz_sets.specs.declared.exit.Value.TheVariants.{Draw, Unknown}
use Rattle.frz_index.specs.Members.{Member, Num}
use Rattle.frz_index.proofs.Lemmas.{member_of}
use Rattle.frz_arena.specs.declared.bound.Bound.TheVariants.{Fails}
use Rattle.frz_arena.specs.Chess.{NeverForcesMate}
use Rattle.frz_arena.specs.Codes.{code_of, is_failure}
use Rattle.frz_arena.specs.WholeTruth.{NoneIsBad}
use Rattle.frz_arena.proofs.Lemmas.{one_bound, one_forces}
use Rattle.frz_graph.specs.Books.{value_by}
use Rattle.frz_graph.specs.Conditions.{conditions_hold}
use Rattle.frz_graph.specs.Values.{lag_of}
use Rattle.frz_game.specs.Bounds.{IsTableOf}
use Rattle.frz_game.specs.ExactTables.{HasNoForbid, AreDecidedOutside, IsLostOutside}
use Rattle.frz_game.specs.Games.{chess, game_of, arena_by}
use Rattle.frz_game.specs.MenAlone.{IsDrawnOutside}
use Rattle.frz_game.specs.RenouncedRook.{renounced_rook}
use Rattle.frz_game.specs.SmallLags.{HasSmallLags}
use Rattle.frz_game.specs.TextsByMen.{are_drawn_by_men, leave_dead, leave_bare, leave_minor}
use Rattle.frz_game.specs.Values.{AreTrueExits}
use Rattle.frz_game.specs.WholeSets.{IsWholeSet}
use Rattle.frz_game.proofs.Bounded.{stored_bound, table_there}
use Rattle.frz_game.proofs.DecidedExits.{drawn_decided}
use Rattle.frz_game.proofs.DrawnOutside.{drawn_true, not_bad}
use Rattle.frz_game.proofs.KingAndRook.{whole}
use Rattle.frz_game.proofs.RenouncedRook.{from_h1, from_h2, h1_inside, h2_inside, h2_mate, h2_fails}
use Rattle.frz_game.proofs.WholeSets.{whole_set_drawn}

abbrev pub rules_value : Board → Value
rules_value = value_by renounced_rook

-- the set and the exit line are those of king and rook
same_set : IsWholeSet renounced_rook
same_set = record { groups = whole.groups }

same_lines : are_drawn_by_men renounced_rook ≡ true
unfolding are_drawn_by_men leave_dead leave_bare leave_minor squares
same_lines = refl

pub drawn : IsDrawnOutside renounced_rook rules_value
drawn = whole_set_drawn renounced_rook same_set same_lines

pub exits : AreTrueExits renounced_rook rules_value
exits = drawn_true renounced_rook rules_value drawn

pub decided : AreDecidedOutside renounced_rook rules_value
decided = drawn_decided renounced_rook rules_value drawn

pub none_bad : (side : Colour) → NoneIsBad (game_of renounced_rook rules_value) side
none_bad side = not_bad renounced_rook rules_value side drawn

pub lost_outside : IsLostOutside renounced_rook rules_value White
lost_outside q x bad = absurd (none_bad White q x bad)

pub opponent_free : HasNoForbid renounced_rook Black
opponent_free = refl

pub h1_member : Member renounced_rook.groups from_h1
h1_member = member_of renounced_rook.groups from_h1 h1_inside

pub h2_member : Member renounced_rook.groups from_h2
h2_member = member_of renounced_rook.groups from_h2 h2_inside

-- where White mates Black never does
pub never_black : NeverForcesMate chess Black from_h2
never_black n f = one_forces chess White 1 n from_h2 h2_mate.forced f

-- the table that there is, and what it says of that position
small_by : (b : Bool) → lag_of (if b then Draw else Unknown) ≤ 1000
small_by true = omega arith
small_by false = omega arith

rules_lags_small : HasSmallLags rules_value
rules_lags_small q valid =
    small_by (conditions_hold q (record { negated = false; test = Count White Rook 0 0 } ∷ []))

pub table : (codes : List ℕ) × IsTableOf renounced_rook rules_value White codes
table = table_there renounced_rook rules_value rules_lags_small White

pub h2_code : slice_index table.0 (Num renounced_rook.groups from_h2) ≡ code_of (Fails 0)
h2_code =
    let stored = stored_bound renounced_rook rules_value White table.0 table.1 from_h2 h2_member in
    stored.1 ∙ ap code_of (one_bound (arena_by renounced_rook rules_value) White from_h2 stored.0
    (Fails 0) stored.2 h2_fails)

pub h2_failure :
    is_failure (slice_index table.0 (Num renounced_rook.groups from_h2)) ≡ true
h2_failure = ap is_failure h2_code
