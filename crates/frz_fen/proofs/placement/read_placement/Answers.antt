use Rattle.std.proofs.Common.{◌≡◌, ◌∙◌, ◌++◌, ◌*◌, ◌<◌, List, ℕ, Bor, Option, drop, sym, ap, subst, arith, Some, option_map}
use Rattle.std.specs.Prelude.{◌==◌}
use Rattle.std.specs.List.{All}
use Rattle.frz_words.proofs.Lemmas.{length-split}
use Rattle.frz_fen.specs.Placement.{ranks, ranks_left, wrong_rank, board_cells}
use Rattle.frz_fen.specs.Reading.{placed}
use Rattle.frz_fen.proofs.Placing.{wrong_rank-step, wrong_rank-further, board_step, board_fits}
use Rattle.frz_fen.proofs.placement.read_placement.Goals as goal

pub loop-rank-preserved : goal.loop-rank-preserved
loop-rank-preserved c =
    let right = c.in-Some-read_rank.ensures.right in
    let first = ap (λ (o : Option (Bor (List ℕ))). ranks_left (option_map (λ t. t.now) o))
    c.in-Some.is ∙ c.first_rank.ensures in
    record {
      few = omega arith;
      size = c.put_row.array_long;
      wrong =
          c.loop-rank.invariant.wrong
          ∙ ap (λ ps. wrong_rank c.loop-rank.rank ps) first
          ∙ wrong_rank-step c.loop-rank.rank _ _ c.loop-rank-test.true right.0;
      board =
          board_step (ranks c.args.field.now)
          (ranks_left (option_map (λ t. t.now) c.first_rank.result.1)) c.first_rank.result.0.now
          _ _ _ c.loop-rank.rank c.loop-rank-test.true
          (c.loop-rank.invariant.board
          ∙ ap (λ ps. board_cells ps ++ drop (8 * c.loop-rank.rank) c.loop-rank.cells) first)
          (c.deref.ensures.0 ∙ right.1) c.put_row.ensures;
    }

pub returns-in-None-clause-fits : goal.returns-in-None-clause-fits
returns-in-None-clause-fits c =
    let last : c.loop-rank.rank ≡ 0 = omega arith in
    let same : board_cells (ranks c.args.field.now) ≡ c.loop-rank.cells =
    c.loop-rank.invariant.board
    ∙ ap (λ (o : Option (Bor (List ℕ))). board_cells (ranks_left (option_map (λ t. t.now) o))
    ++ drop (8 * c.loop-rank.rank) c.loop-rank.cells) c.in-None.is
    ∙ ap (λ n. drop (8 * n) c.loop-rank.cells) last in
    record {
      size = c.loop-rank.invariant.size;
      men = subst (All (λ x. x < 13)) same (board_fits (ranks c.args.field.now));
    }

pub returns-in-Some-rest-clause-read : goal.returns-in-Some-rest-clause-read
returns-in-Some-rest-clause-read c =
    let last : c.loop-rank.rank ≡ 0 = omega arith in
    let further : wrong_rank 8 (ranks c.args.field.now) ≡ Some 0 =
    c.loop-rank.invariant.wrong
    ∙ ap (λ n. wrong_rank n (ranks_left (option_map (λ t. t.now) c.loop-rank.rest))) last
    ∙ ap (λ (o : Option (Bor (List ℕ))). wrong_rank 0 (ranks_left (option_map (λ t. t.now) o)))
    c.in-Some-rest.is
    ∙ wrong_rank-further (ranks c.in-Some-rest.field-0.now)
    (length-split (λ b. b == 47) c.in-Some-rest.field-0.now) in
    sym (ap (placed (ranks c.args.field.now)) further)
