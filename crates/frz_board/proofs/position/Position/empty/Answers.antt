use Rattle.std.proofs.Common.{replicate, refl, arith}
use Rattle.std.proofs.lemmas.List.{get_or-replicate}
use Rattle.frz_board.specs.Boards.{CellsFit}
use Rattle.frz_board.proofs.position.Position.empty.Goals as goal

pub invariant_of-result : goal.invariant_of-result
invariant_of-result c =
    let fits : CellsFit (replicate 64 0) =
    record { size = refl; men = λ k d l. let e = get_or-replicate 64 k 0 d l in omega arith } in
    fits
