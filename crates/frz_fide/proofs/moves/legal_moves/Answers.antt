use Rattle.std.proofs.Common.{◌≡◌, ◌∙◌, sym, ap, subst, List, true}
use Rattle.std.specs.Prelude.{Contains, ◌↔◌}
use Rattle.std.specs.List.Sorted.{IsStrictlySortedBy}
use Rattle.frz_board.specs.Moving.{Step, IsStep, step_cmp}
use Rattle.frz_fide.specs.Legal.{is_legal}
use Rattle.frz_fide.specs.Listing.{legal_moves_of}
use Rattle.frz_fide.proofs.Listed.{listed, only_legal, sorted}
use Rattle.frz_fide.proofs.moves.legal_moves.Goals as goal

pub returns-clause-all : goal.returns-clause-all
returns-clause-all g c =
    subst (λ (ms : List Step). (m : Step)
    → Contains ms m ↔ (IsStep m × (is_legal c.args.p.now m ≡ true)))
    (sym (c.put_legal_moves.ensures.moves ∙ ap legal_moves_of c.of.ensures))
    (λ m. (only_legal c.args.p.now m, λ h. listed c.args.p.now m h.0 h.1))

pub returns-clause-order : goal.returns-clause-order
returns-clause-order g c =
    subst (IsStrictlySortedBy step_cmp)
    (sym (c.put_legal_moves.ensures.moves ∙ ap legal_moves_of c.of.ensures)) (sorted c.args.p.now)
