-- Bounds of the game, and what they say of chess.
use Rattle.std.proofs.Common.{◌≡◌, ◌≤◌, ◌+◌, ◌*◌, ℕ, List}
use Rattle.std.specs.Prelude.{slice_index}
use Rattle.frz_board.specs.declared.man.Colour.{Colour}
use Rattle.frz_board.specs.Men.{other_of}
use Rattle.frz_board.specs.Boards.{Board}
use Rattle.frz_sets.specs.declared.exit.Value.{Value}
use Rattle.frz_sets.specs.Sets.{size_of}
use Rattle.frz_sets.specs.Views.{RuleLines}
use Rattle.frz_index.specs.Members.{Member, Num}
use Rattle.frz_arena.specs.declared.bound.Bound.{Bound}
use Rattle.frz_arena.specs.declared.bound.Bound.TheVariants.{Wins, Holds}
use Rattle.frz_arena.specs.Chess.{NeverForcesMate}
use Rattle.frz_arena.specs.Codes.{code_of}
use Rattle.frz_arena.specs.Tables.{IsExact}
use Rattle.frz_arena.proofs.Lemmas.{forced_fails, never_both, exact_is_table, table_is_exact, plies_small, table_exists, one_table}
use Rattle.frz_game.specs.Games.{chess, game_of, arena_by, graph_by}
use Rattle.frz_game.specs.Numbers.{numbers_by}
use Rattle.frz_game.specs.Bounds.{IsBoundAt, IsTableOf}
use Rattle.frz_game.specs.SmallLags.{HasSmallLags}
use Rattle.frz_game.specs.Values.{AreTrueExits}
use Rattle.frz_game.proofs.Graph.{numbering, lawful, lags}
use Rattle.frz_index.proofs.Lemmas.{of_member, number_there}
use Rattle.frz_game.proofs.TrueValues.{true_exits}

pub exact_table : (rules : RuleLines) (value : Board → Value) (side : Colour) (codes : List ℕ) →
    IsExact (graph_by rules value) side (size_of rules.groups) codes →
    IsTableOf rules value side codes
exact_table rules value =
    exact_is_table (numbers_by rules.groups) (arena_by rules value) (numbering rules value)
    (lawful rules value)

pub table_exact : (rules : RuleLines) (value : Board → Value) (side : Colour) (codes : List ℕ) →
    IsTableOf rules value side codes →
    IsExact (graph_by rules value) side (size_of rules.groups) codes
table_exact rules value =
    table_is_exact (numbers_by rules.groups) (arena_by rules value) (numbering rules value)
    (lawful rules value)

pub table_there : (rules : RuleLines) (value : Board → Value) → HasSmallLags value →
    (side : Colour) → (codes : List ℕ) × IsTableOf rules value side codes
table_there rules value small side =
    table_exists (numbers_by rules.groups) (arena_by rules value) (numbering rules value)
    (lawful rules value) side 1000 (lags rules value small side)

pub table_one : (rules : RuleLines) (value : Board → Value) (side : Colour)
    (codes others : List ℕ) →
    IsTableOf rules value side codes → IsTableOf rules value side others → codes ≡ others
table_one rules value side =
    one_table (numbers_by rules.groups) (arena_by rules value) (numbering rules value) side

pub plies_few : (rules : RuleLines) (value : Board → Value) → HasSmallLags value →
    (side : Colour) (codes : List ℕ) → IsTableOf rules value side codes → (i : ℕ) →
    slice_index codes i ≤ 3 + 2 * (size_of rules.groups + 1000)
plies_few rules value small side codes table =
    plies_small (numbers_by rules.groups) (arena_by rules value) (numbering rules value)
    (lawful rules value) side 1000 (lags rules value small side) codes
    (table_exact rules value side codes table)

pub stored_bound : (rules : RuleLines) (value : Board → Value) (side : Colour) (codes : List ℕ) →
    IsTableOf rules value side codes → (p : Board) → Member rules.groups p →
    (b : Bound) × (slice_index codes (Num rules.groups p) ≡ code_of b)
    × IsBoundAt rules value side p b
stored_bound rules value side codes table p m =
    table.bound p (Num rules.groups p) (number_there rules.groups p (of_member rules.groups p m))

pub bound_there : (rules : RuleLines) (value : Board → Value) → HasSmallLags value →
    (side : Colour) (p : Board) → Member rules.groups p →
    (b : Bound) × IsBoundAt rules value side p b
bound_there rules value small side p m =
    let t = table_there rules value small side in
    let b = stored_bound rules value side t.0 t.1 p m in
    (b.0, b.2)

-- a side that holds is never mated by force, where the exits are true
pub hold_safe : (rules : RuleLines) (value : Board → Value) → AreTrueExits rules value →
    (side : Colour) (p : Board) → Member rules.groups p → IsBoundAt rules value side p Holds →
    NeverForcesMate chess (other_of side) p
hold_safe rules value exits side p m b n f =
    b.1 n (forced_fails (game_of rules value) (true_exits rules value exits) side n p
    (of_member rules.groups p m) f)

pub win_safe : (rules : RuleLines) (value : Board → Value) → AreTrueExits rules value →
    (side : Colour) (k : ℕ) (p : Board) → Member rules.groups p →
    IsBoundAt rules value side p (Wins k) → NeverForcesMate chess (other_of side) p
win_safe rules value exits side k p m b n f =
    never_both (arena_by rules value) side k n p b.0
    (forced_fails (game_of rules value) (true_exits rules value exits) side n p
    (of_member rules.groups p m) f)
