-- The lines that `why` writes behind the moves of a way, and behind all else where an entry is
-- wrong.
use Rattle.std.specs.Prelude.{◌≡◌, ℕ, true, List, [], ◌++◌, Option, None, Some, IfSome, codes, decimal, ⊤}
use Rattle.frz_board.specs.Boards.{Board}
use Rattle.frz_board.specs.Moving.{Step}
use Rattle.frz_fide.specs.Legal.{after, is_legal}
use Rattle.frz_fen.specs.Writing.{fen_text}
use Rattle.frz_sets.specs.declared.exit.Value.{Value}
use Rattle.frz_sets.specs.Views.{GroupLine}
use Rattle.frz_game.specs.Numbers.{position_at}
use Rattle.frz_game.specs.declared.wrong.Wrong.{Wrong as WrongEntry}
use Rattle.frz_answer.specs.declared.status.Status.{Status}
use Rattle.frz_answer.specs.declared.status.Status.TheVariants as statuses
use Rattle.frz_prelude.specs.WrongLines.{wrong_line}
use Rattle.frz_ways.specs.Texts.{exit_line}
use Rattle.frz_repairs.specs.Repairs.{repairs_text}
use Rattle.frz_reasons.specs.declared.reason.Reason.{Reason}
use Rattle.frz_reasons.specs.declared.reason.Reason.TheVariants.{Wrong, Mated, Renounced, Left}
use Rattle.frz_commands_why.specs.declared.decider.Decider.{Decider}
use Rattle.frz_commands_why.specs.declared.decider.Decider.TheVariants.{Line, Behind, NoLine}

-- which line or table decided
abbrev pub decider_line : Decider → List ℕ
decider_line (Line n) = codes "line " ++ decimal n ++ codes "\n"
decider_line (Behind k) = codes "back " ++ decimal k ++ codes "\n"
decider_line NoLine = codes "no line\n"

-- an exit: its value, its FEN, and what decided the value
abbrev pub exit_lines : Value → Board → Decider → List ℕ
exit_lines value q decider =
    exit_line value ++ ((fen_text q ++ codes "\n") ++ decider_line decider)

-- what would repair an exit by this move, where nothing decided its value
abbrev pub lack_text : Decider → Board → Step → List ℕ
lack_text NoLine p m = repairs_text p m
lack_text decider p m = []

-- the exit by a move from the position, and its repairs
abbrev pub exit_text : (Board → Decider) → Value → Step → Option Board → List ℕ
exit_text decider value m None = []
exit_text decider value m (Some p) =
    exit_lines value (after p m) (decider (after p m)) ++ lack_text (decider (after p m)) p m

-- the lines of the end of a way; where an entry is wrong, `wrong_text` tells it
abbrev pub end_text : List GroupLine → (Board → Decider) → Reason → List ℕ
end_text groups decider (Wrong w) = []
end_text groups decider Mated = codes "mate\n"
end_text groups decider Renounced = codes "renounced\n"
end_text groups decider (Left number m value) =
    exit_text decider value m (position_at groups number)

-- where the reason is an exit, the move to it is legal at the position of the number
abbrev pub LeavesLegally : List GroupLine → Reason → Type 0
LeavesLegally groups (Wrong w) = ⊤
LeavesLegally groups Mated = ⊤
LeavesLegally groups Renounced = ⊤
LeavesLegally groups (Left number m value) =
    IfSome (position_at groups number) (λ p. is_legal p m ≡ true)

-- the wrong entry at which a way ends
abbrev pub wrong_in : Reason → Option WrongEntry
wrong_in (Wrong w) = Some w
wrong_in Mated = None
wrong_in Renounced = None
wrong_in (Left number m value) = None

-- the line of a wrong entry, if one was met
abbrev pub wrong_text : Option WrongEntry → List ℕ
wrong_text None = []
wrong_text (Some w) = wrong_line w

abbrev pub status_by : Option WrongEntry → Status
status_by None = statuses.Success
status_by (Some w) = statuses.Wrong
