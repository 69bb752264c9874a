use Rattle.std.proofs.Common.{◌≡◌, false, take}
use Rattle.std.specs.List.{All, slice_index_or}
use Rattle.frz_plane_arms.proofs.touching.men_touch.Given as goal

abbrev pub invariant-loop-arm : goal.invariant-loop-arm
invariant-loop-arm l =
    All (λ arm. slice_index_or l.marks arm.target false ≡ false) (take l.arm-index l.arms)
