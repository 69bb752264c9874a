use Rattle.std.proofs.Common.{◌∙◌, sym, arith}
use Rattle.frz_index.proofs.Stepping.{placed}
use Rattle.frz_index.proofs.shares.place_in.Goals as goal

pub returns-then-has_state : goal.returns-then-has_state
returns-then-has_state c =
    placed c.args.group.now c.args.chart.now c.args.man c.args.s c.kind_number.result
    c.number.result c.requires
    (let low = c.number.ensures.on_board in let e = c.number.ensures.number in omega (arith, low, e))
    (sym c.has_state.ensures ∙ c.if-has_state.true) c.kind_number.ensures.number
    c.number.ensures.number
