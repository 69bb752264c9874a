use Rattle.std.proofs.Common.{ℕ, List}
use Rattle.frz_fen.specs.Reading.{fen_of}
use Rattle.frz_answer.proofs.Lemmas.{as_taken}
use Rattle.frz_prelude.specs.Positions.{on_position}
use Rattle.frz_commands_chess.specs.declared.notation.Notation.TheVariants.{Algebraic}
use Rattle.frz_commands_chess.specs.Listing.{listing}
use Rattle.frz_commands_chess.proofs.listing.run_sans.Goals as goal

pub returns-in-Some : goal.returns-in-Some
returns-in-Some g c =
    λ store input. as_taken _ _ _ (λ (fen : List ℕ). on_position (listing Algebraic) (fen_of fen)) _
    _ c.in-Some.ensures (c.list_moves.ensures store input)

pub returns-in-None : goal.returns-in-None
returns-in-None g c =
    λ store input. as_taken _ _ _ (λ (fen : List ℕ). on_position (listing Algebraic) (fen_of fen)) _
    _ c.in-None.ensures (c.refuse.ensures store input _)
