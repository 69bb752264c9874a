-- The queue grows at its end, from step to step.
use Rattle.std.proofs.Common.{◌∙◌, arith}
use Rattle.frz_retro.specs.Tallies.{Tally, Grows}

pub grows_on : (t u v : Tally) → Grows t u → Grows u v → Grows t v
grows_on t u v a b =
    let x = a.1 in
    let y = b.1 in
    (b.0 ∙ a.0, omega (arith, x, y), λ j l. b.2 j (omega (arith, l, x)) ∙ a.2 j l)
