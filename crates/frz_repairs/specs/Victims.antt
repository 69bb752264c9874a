-- The man that a move captures.
use Rattle.std.specs.Prelude.{ℕ, Bool, ◌&&◌, Option, option_map, if◌then◌else◌}
use Rattle.frz_board.specs.declared.man.Kind.TheVariants.{Pawn}
use Rattle.frz_board.specs.declared.man.Man.{Man}
use Rattle.frz_board.specs.Boards.{Board, has, man_on}
use Rattle.frz_board.specs.Moving.{Step}
use Rattle.frz_fide.specs.Legal.{beside_on_file, takes_in_passing}
use Rattle.frz_repairs.specs.declared.victim.Victim.{Victim}

-- a pawn captures en passant by the move
abbrev pub is_en_passant : Board → Step → Bool
is_en_passant p m = has p p.turn Pawn m.from && takes_in_passing p p.turn m.from m.to

-- where the man stands that the move captures, if it captures one: beside the pawn that captures en
-- passant, and else where the move goes
abbrev pub victim_square : Board → Step → ℕ
victim_square p m = if is_en_passant p m then beside_on_file m.from m.to else m.to

abbrev pub victim_at : (square : ℕ) → Man → Victim
victim_at square man = record { man = man; square = square }

-- the man that a legal move captures, and where he stands
abbrev pub victim_of : Board → Step → Option Victim
victim_of p m = option_map (victim_at (victim_square p m)) (man_on p (victim_square p m))
