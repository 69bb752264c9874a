-- The lines that refuse a FEN and a rules text.
use Rattle.std.specs.Prelude.{ℕ, List, ◌++◌, codes, decimal}
use Rattle.frz_board.specs.declared.shape.Shape.{Shape}
use Rattle.frz_board.specs.declared.shape.Shape.TheVariants.{Kings, PawnRank, TooMany, EpPlace}
use Rattle.frz_fide.specs.declared.validity.Invalid.{Invalid}
use Rattle.frz_fide.specs.declared.validity.Invalid.TheVariants as invalid
use Rattle.frz_fen.specs.declared.fault.FenFault.{FenFault}
use Rattle.frz_fen.specs.declared.fault.FenFault.TheVariants as fen
use Rattle.frz_rules.specs.declared.fault.RulesCause.{RulesCause}
use Rattle.frz_rules.specs.declared.fault.RulesCause.TheVariants as rules
use Rattle.frz_rules.specs.declared.fault.RulesFault.{RulesFault}

abbrev pub shape_cause : Shape → List ℕ
shape_cause Kings = codes "invalid kings"
shape_cause PawnRank = codes "invalid pawn rank"
shape_cause TooMany = codes "invalid too many"
shape_cause EpPlace = codes "invalid ep place"

abbrev pub invalid_cause : Invalid → List ℕ
invalid_cause (invalid.Shape shape) = shape_cause shape
invalid_cause invalid.OpponentInCheck = codes "invalid opponent in check"

abbrev pub fen_cause : FenFault → List ℕ
fen_cause fen.Fields = codes "fields"
fen_cause (fen.Placement rank) = codes "placement " ++ decimal rank
fen_cause fen.Turn = codes "turn"
fen_cause fen.Castling = codes "castling"
fen_cause fen.EpSquare = codes "ep square"
fen_cause fen.Clock = codes "clock"
fen_cause (fen.Invalid why) = invalid_cause why

abbrev pub fen_line : FenFault → List ℕ
fen_line fault = codes "fen: " ++ fen_cause fault ++ codes "\n"

abbrev pub rules_cause : RulesCause → List ℕ
rules_cause rules.TooLong = codes "too long"
rules_cause rules.Header = codes "header"
rules_cause rules.UnknownLine = codes "unknown line"
rules_cause (rules.Word place) = codes "word " ++ decimal place
rules_cause rules.PawnSquare = codes "pawn square"
rules_cause rules.Count = codes "count"
rules_cause rules.KingGroup = codes "king group"
rules_cause rules.Overlap = codes "overlap"
rules_cause rules.TooManyMen = codes "too many men"
rules_cause rules.TooManyLines = codes "too many lines"
rules_cause (rules.SetTooBig numbers) = codes "set too big " ++ decimal numbers

abbrev pub rules_line : RulesFault → List ℕ
rules_line fault =
    codes "rules " ++ decimal fault.line ++ codes ": " ++ rules_cause fault.cause ++ codes "\n"
