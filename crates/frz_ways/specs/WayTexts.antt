-- The text of a way, whether it is a line or a session.
use Rattle.std.specs.Prelude.{ℕ, List, [], ◌∷◌, ◌++◌}
use Rattle.frz_board.specs.declared.man.Colour.{Colour}
use Rattle.frz_ways.specs.declared.opponent.Opponent.{Opponent}
use Rattle.frz_ways.specs.declared.opponent.Opponent.TheVariants as opponents
use Rattle.frz_ways.specs.SessionTexts as sessions
use Rattle.frz_ways.specs.SessionTexts.{end_text, start_line}
use Rattle.frz_ways.specs.Texts.{move_line}
use Rattle.frz_ways.specs.Ways.{WayPly, EndOfWay}

-- the text of a ply; in a line no word stands before the move
abbrev pub ply_text : Opponent → Colour → WayPly → List ℕ
ply_text opponents.Codes side x = move_line x.arm.mv
ply_text opponents.Input side x = sessions.ply_text side x

abbrev pub plies_text : Opponent → Colour → List WayPly → List ℕ
plies_text opponent side [] = []
plies_text opponent side (x ∷ plies) = ply_text opponent side x ++ plies_text opponent side plies

-- the whole text of a way from a start with this kept code
abbrev pub way_text : Opponent → Colour → ℕ → List WayPly → EndOfWay → List ℕ
way_text opponent side code plies end =
    start_line side code plies end ++ (plies_text opponent side plies ++ end_text end)
