use Rattle.std.proofs.Common.{inl, refl}
use Rattle.frz_arena.proofs.Ways.EachPly.{each_ply}
use Rattle.frz_arena.proofs.laws.ways.plies_keep.Goals as goal

pub returns : goal.returns
returns g c player s t p xs e = each_ply player 0 s t p xs e (inl refl)
