use Rattle.frz_prelude.proofs.Lemmas.{as_read}
use Rattle.frz_commands_chess.specs.Listing.{listing}
use Rattle.frz_commands_chess.proofs.listing.list_moves.Goals as goal

pub returns-in-Ok : goal.returns-in-Ok
returns-in-Ok g c = λ store input. as_read (listing c.args.notation) _ _ _ _ _ _
    c.in-Ok.ensures.read c.as_bytes.ensures.value (c.list_at.ensures store input)

pub returns-in-Err : goal.returns-in-Err
returns-in-Err g c = λ store input. as_read (listing c.args.notation) _ _ _ _ _ _
    c.in-Err.ensures.read c.as_bytes.ensures.value (c.refuse_named.ensures store input _)
