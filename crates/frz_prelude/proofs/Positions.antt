-- What is done on the position of a FEN.
use Rattle.std.proofs.Common.{◌≡◌, refl, subst, ap, ◌∙◌, ℕ, List, Result, Ok, Err}
use Rattle.frz_board.specs.Boards.{Board}
use Rattle.frz_fen.specs.declared.fault.FenFault.{FenFault}
use Rattle.frz_fen.specs.Reading.{fen_of}
use Rattle.frz_answer.specs.declared.end.End.{End}
use Rattle.frz_answer.specs.Answers.{says}
use Rattle.frz_answer.specs.World.{World}
use Rattle.frz_answer.specs.Jobs.{Job}
use Rattle.frz_answer.specs.Ends.{Ran}
use Rattle.frz_answer.specs.Lawful.{IsLawful}
use Rattle.frz_answer.proofs.Lemmas.{one_answer, said_job}
use Rattle.frz_prelude.specs.Refusals.{status_of, refusal_line, refusing_named}
use Rattle.frz_prelude.specs.declared.refused.Refused.TheVariants.{Fen}
use Rattle.frz_prelude.specs.Positions.{on_position}

-- what was done for what was read was done for the FEN
pub as_read : (job : Board → Job) (end : End) (old new : World) (fen bytes : List ℕ)
    (x : Result Board FenFault) → x ≡ fen_of bytes → bytes ≡ fen
    → Ran (on_position job x) end old new → Ran (on_position job (fen_of fen)) end old new
as_read job end old new fen bytes x read same ran =
    subst (λ (y : Result Board FenFault). Ran (on_position job y) end old new)
    (read ∙ ap fen_of same) ran

pub fen_lawful : (job : Board → Job) (x : Result Board FenFault)
    → ((p : Board) → x ≡ Ok p → IsLawful (job p)) → IsLawful (on_position job x)
fen_lawful job (Ok p) law = law p refl
fen_lawful job (Err fault) law =
    said_job (refusing_named (Fen fault))
    (λ files input. one_answer (says (status_of (Fen fault)) (refusal_line (Fen fault)) files))
    (λ _ _ _ _. tt)
