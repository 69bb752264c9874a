use Rattle.std.proofs.Common.{◌≡◌, ◌∙◌, ◌++◌, ◌∷◌, [], ap, ℕ, List, map, arith}
use Rattle.std.proofs.lemmas.List.{take_all}
use Rattle.frz_board.specs.Boards.{Board}
use Rattle.frz_report.specs.Census.{times}
use Rattle.frz_report.specs.Exits.{class_of}
use Rattle.frz_commands_atlas.specs.declared.first_exits.FirstExit.{FirstExit}
use Rattle.frz_commands_atlas.specs.FirstExits.{row_among}
use Rattle.frz_commands_atlas.proofs.FirstExits.{listed_more}
use Rattle.frz_commands_atlas.proofs.first_exits.first_exits.Goals as goal

pub loop-position-preserved : goal.loop-position-preserved
loop-position-preserved c = λ exits kept.
    let q : Board = c.position-item.result in
    let many : c.times.result ≡ times (map class_of exits) (class_of q) =
    c.times.ensures (map class_of exits) kept.0 ∙ ap (times (map class_of exits)) c.class_of.ensures
    in
    let row : FirstExit = record { position = q; count = c.times.result } in
    c.in-Ok.ensures.items
    ∙ ap (λ (l : List FirstExit). l ++ row ∷ []) (c.loop-position.invariant exits kept)
    ∙ listed_more exits c.as_slice-firsts.result.now c.loop-position.position-index q row
    (omega arith) c.position-item.is
    (ap (λ (n : ℕ). record { position = q; count = n }) many)

pub returns : goal.returns
returns c = λ exits kept.
    c.loop-position.invariant exits kept
    ∙ ap (map (row_among exits))
    (take_all c.loop-position.position-index c.as_slice-firsts.result.now (omega arith)
    ∙ c.as_slice-firsts.ensures.value ∙ kept.1.are)
