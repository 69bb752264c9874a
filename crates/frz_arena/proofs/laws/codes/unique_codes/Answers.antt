use Rattle.frz_arena.proofs.Bounds.OneBound.{codes_of_bounds, bounds_are_codes}
use Rattle.frz_arena.proofs.LocalCodes.UniqueCodes.{solution_is_codes, codes_meet}
use Rattle.frz_arena.proofs.laws.codes.unique_codes.Goals as goal

pub returns-clause-solution : goal.returns-clause-solution
returns-clause-solution g c arena law side entry eqs =
    codes_of_bounds arena side entry (solution_is_codes arena law side entry eqs)

pub returns-clause-codes : goal.returns-clause-codes
returns-clause-codes g c arena law side entry h =
    codes_meet arena law side entry (bounds_are_codes arena side entry h)
