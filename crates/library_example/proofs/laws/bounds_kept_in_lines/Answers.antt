use Rattle.std.proofs.Common.{◌≡◌, ℕ, List, [], Option, Some, refl, subst}
use Rattle.std.specs.Prelude.{MatchOption}
use Rattle.frz_board.specs.Boards.{Board}
use Rattle.frz_sets.specs.declared.exit.Value.{Value}
use Rattle.frz_arena.specs.WayEnds.{Wrong, Mated, Exit, Cut}
use Rattle.frz_arena.proofs.Lemmas.{right_reader}
use Rattle.frz_exits.specs.Books.{value_by}
use Rattle.frz_game.specs.Games.{arena_by, game_of, graph_by}
use Rattle.frz_game.specs.Numbers.{numbers_by, position_at}
use Rattle.frz_index.specs.Members.{Num}
use Rattle.frz_ways.specs.ChessGames.{IsGame}
use Rattle.frz_ways.specs.declared.end.TheConstants.{LINE_LIMIT}
use Rattle.frz_ways.specs.declared.opponent.Opponent.TheVariants.{Codes}
use Rattle.frz_ways.specs.Ways.{EndOfWay, GoesOn, way_player}
use Rattle.library_example.proofs.LineEnds.{ends_by}
use Rattle.library_example.proofs.KeptCodes.{code_of_bound}
use Rattle.library_example.proofs.laws.bounds_kept_in_lines.Goals as goal

pub returns : goal.returns
returns c = λ rules side codes p bound input table member is.
    let value : Board → Value = value_by rules in
    let start = Num rules.groups p in
    let kept : ℕ → List ℕ = λ k. codes in
    let player = way_player (graph_by rules value) Codes side kept in
    let line = c.one_way.ensures.there rules value Codes side kept start input in
    let plies = line.0 in
    let end = line.1 in
    let left = line.2 in
    let to : (last : EndOfWay) → end ≡ last
    → GoesOn (graph_by rules value) Codes side kept 0 input start plies last left =
    λ last e. subst
    (λ (x : EndOfWay). GoesOn (graph_by rules value) Codes side kept 0 input start plies x left) e
    line.3 in
    let at : position_at rules.groups start ≡ Some p =
    (c.membership.ensures.position rules.groups start p).1
    (record { member = member; number = refl }) in (
      plies,
      end,
      left,
      line.3,
      record {
        game = subst (λ (o : Option Board). MatchOption o (plies ≡ [])
            (λ q. IsGame rules side q plies)) at
            (c.ways_are_games.ensures.game rules value Codes side kept start input plies end left
            line.3);
        ends = ends_by rules value side codes bound start input left plies end
            (code_of_bound rules side codes table p member bound is)
            (λ q k given e. right_reader (numbers_by rules.groups) (arena_by rules value)
            (c.numbered.ensures.numbering rules value) (c.numbered.ensures.lawful rules value)
            (c.games_are_closed.ensures.game (game_of rules value)) side kept (λ n. table)
            player.opponent p start (c.membership.ensures.number rules.groups p member) input left
            plies q k given (to (Wrong q k given) e)) line.3
            (λ n won. (
              c.bounds_are_kept.ensures.won rules value Codes side kept start n input plies end left
                  won line.3,
              λ mover e. c.wins_in_lines.ensures.mate player refl input left (0, start) plies
                  mover n won (to (Mated mover) e),
              λ v e. c.wins_in_lines.ensures.exit player refl input left (0, start) plies v n won
                  (to (Exit v) e),
            ))
            (λ held. (
              c.holds_in_lines.ensures.drawn player refl input left (0, start) plies end held
                  line.3,
              λ e. c.holds_in_lines.ensures.cut player LINE_LIMIT refl input left (0, start) plies
                  held (to Cut e),
            ));
        stands = c.ways_end_in_chess.ensures rules value Codes side kept start input plies end left p
            line.3 at;
      },
    )
