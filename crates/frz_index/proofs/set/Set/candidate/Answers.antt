use Rattle.std.proofs.Common.{◌≡◌, List, arith, false, subst, true}
use Rattle.std.specs.Prelude.{MatchOption}
use Rattle.frz_sets.specs.Views.{GroupLine}
use Rattle.frz_index.specs.Candidates.{candidate}
use Rattle.frz_index.specs.FreeSquares.{is_spread}
use Rattle.frz_index.specs.Kept.{AreApart, AreNumberable, AreSoundGroups}
use Rattle.frz_index.proofs.CandidateAnswers.{candidate_answer}
use Rattle.frz_index.proofs.WholeNumbers.{Num_below}
use Rattle.frz_index.proofs.set.Set.candidate.Goals as goal

pub returns-then-i-size : goal.returns-then-i-size
returns-then-i-size c =
    candidate_answer c.args.self.now c.args.i c.candidate_in.result
    (subst AreSoundGroups c.self.view_is c.self.invariant.sound)
    (subst AreNumberable c.self.view_is c.self.invariant.numberable)
    (subst AreApart c.self.view_is c.self.invariant.apart)
    (omega (arith, c.if-i-size.true, c.size.ensures.size))
    (subst (λ (gs : List GroupLine). MatchOption c.candidate_in.result
    (is_spread gs c.args.i ≡ false)
    (λ p. (is_spread gs c.args.i ≡ true) × (p ≡ candidate gs c.args.i))) c.self.view_is
    c.candidate_in.ensures)

pub returns-else-i-size : goal.returns-else-i-size
returns-else-i-size c p m e =
    omega (arith, Num_below c.args.self.now p m, e, c.size.ensures.size, c.if-i-size.false)
