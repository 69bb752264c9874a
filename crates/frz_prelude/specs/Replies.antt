-- A command that says everything at its end: its reply, and the rest of its job.
use Rattle.std.specs.Prelude.{ℕ, List, ◌++◌, Result, Ok, Err, codes, decimal}
use Rattle.frz_board.specs.Moving.{Step}
use Rattle.frz_board.specs.Texts.{text_of as move_text}
use Rattle.frz_store.specs.Told.{StoreTold, SourceTold, SinkTold}
use Rattle.frz_answer.specs.declared.status.Status.{Status}
use Rattle.frz_answer.specs.declared.status.Status.TheVariants as statuses
use Rattle.frz_answer.specs.declared.end.End.{End}
use Rattle.frz_answer.specs.World.{world}
use Rattle.frz_answer.specs.Jobs.{Job}
use Rattle.frz_answer.specs.Ends.{Ran, Said}
use Rattle.frz_bound_lines.specs.BoundLines.{bounds_text, kept_text}
use Rattle.frz_prelude.specs.Stops.{EndsBy}
use Rattle.frz_prelude.specs.WrongLines.{wrong_line}
use Rattle.frz_prelude.specs.declared.reply.Reply.{Reply}
use Rattle.frz_prelude.specs.declared.reply.Reply.TheVariants.{Moved, NoMove, Bounds, Kept, Built, Chained, Migrated, Exact, ExactOn, Wrong}
use Rattle.frz_prelude.specs.declared.stop.Stop.{Stop}

-- a move on one line, and the FEN of the position after it on the next
abbrev pub moved_lines : Step → List ℕ → List ℕ
moved_lines m fen = move_text m ++ codes "\n" ++ fen ++ codes "\n"

-- a table of so many numbers was built: by itself here, over a back table in the line below
abbrev pub built_line : ℕ → List ℕ
built_line size = codes "built " ++ decimal size ++ codes "\n"

abbrev pub chained_line : ℕ → List ℕ
chained_line size = codes "chained " ++ decimal size ++ codes "\n"

-- a table of so many numbers was rewritten
abbrev pub migrated_line : ℕ → List ℕ
migrated_line size = codes "migrated " ++ decimal size ++ codes "\n"

-- a table of so many numbers is exact: by itself here, over a back table in the line below
abbrev pub exact_line : ℕ → List ℕ
exact_line size = codes "exact " ++ decimal size ++ codes "\n"

abbrev pub exact_on_line : ℕ → ℕ → List ℕ
exact_on_line size back =
    codes "exact " ++ decimal size ++ (codes " on " ++ decimal back) ++ codes "\n"

abbrev pub reply_status : Reply → Status
reply_status (Wrong wrong) = statuses.Wrong
reply_status NoMove = statuses.NoMove
reply_status reply = statuses.Success

abbrev pub text_of : Reply → List ℕ
text_of (Moved m fen) = moved_lines m fen.bytes
text_of NoMove = codes "no move\n"
text_of (Bounds white black) = bounds_text white black
text_of (Kept white black) = kept_text white black
text_of (Built size) = built_line size
text_of (Chained size) = chained_line size
text_of (Migrated size) = migrated_line size
text_of (Exact size) = exact_line size
text_of (ExactOn size back) = exact_on_line size back
text_of (Wrong wrong) = wrong_line wrong

-- how a command ends with this reply
abbrev pub Tells : Result Reply Stop → End → SinkTold → SinkTold → Type 0
Tells (Ok reply) end old new = Said (reply_status reply) (text_of reply) end old new
Tells (Err stop) end old new = EndsBy stop end old new

-- once the reply is told, the job has been done as its contract says, whatever input and sink hold
pub record Replies (job : Job) (reply : Result Reply Stop) (old new : StoreTold)
    (before now : ℕ) : Type 0 where
  pub ran : (input : SourceTold) (out after : SinkTold) (end : End) → Tells reply end out after
      → Ran job end (world old input out before) (world new input after now)
