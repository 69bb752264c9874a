-- What is known of a session that was played, by the file that
-- the store tells and some input that may be told.
use Rattle.std.proofs.Common.{sym, subst, ℕ, List, Result}
use Rattle.frz_board.specs.declared.man.Colour.{Colour}
use Rattle.frz_board.specs.Boards.{Board}
use Rattle.frz_sets.specs.declared.exit.Value.{Value}
use Rattle.frz_sets.specs.Views.{RuleLines}
use Rattle.frz_exits.specs.Books.{value_by}
use Rattle.frz_index.specs.Members.{Member, Num}
use Rattle.frz_game.specs.Games.{graph_by}
use Rattle.frz_store.specs.Told.{SourceTold}
use Rattle.frz_table.specs.Opening.{Contents}
use Rattle.frz_answer.specs.World.{Spent}
use Rattle.frz_ways.specs.Costs.{SpendsAt}
use Rattle.frz_ways.specs.declared.session_end.PlayFault.{PlayFault}
use Rattle.frz_ways.specs.declared.session_end.SessionEnd.{SessionEnd}
use Rattle.frz_ways.specs.SessionFaults.{MayHold}
use Rattle.frz_ways.specs.PlaySession.{PlayedOf, TellsSession}
use Rattle.frz_ways.specs.Reading.{Input}
use Rattle.frz_ways.specs.Sessions.{SessionPly, EndOfSession, IsSession}
use Rattle.frz_commands_line.specs.LineOf.{code_at, codes_later}
use Rattle.frz_commands_line.specs.SessionOf.{IsSessionBy, SessionComes}

-- that there is a session from each number against each input
abbrev pub SessionThere : Type 0
SessionThere = (rules : RuleLines) (value : Board → Value) (side : Colour)
    (codes : ℕ → List ℕ)
    (start : ℕ) (input : List ℕ)
    → (plies : List SessionPly) × (end : EndOfSession) × (left : Input)
    × IsSession rules value side codes start input plies end left

-- the session of which this text was written and these bytes taken, with what was spent on it
pub record SessionSo (contents : Contents) (bytes : ℕ → List ℕ) (side : Colour) (p : Board)
    (text took : List ℕ) (result : Result SessionEnd PlayFault) (source : SourceTold)
    (before now : Spent) : Type 0 where
  pub input : List ℕ
  pub may : MayHold source input
  pub plies : List SessionPly
  pub end : EndOfSession
  pub left : Input
  pub session : IsSessionBy contents bytes side p input plies end left
  pub of : PlayedOf side (code_at contents bytes side p) input took text result plies end left
  pub costs : (numbers : List ℕ) → SessionComes bytes side p input contents numbers
      → SpendsAt (graph_by contents.rules (value_by contents.rules)) 1 numbers before now

pub session_so : SessionThere → (contents : Contents) (bytes : ℕ → List ℕ) (side : Colour)
    (p : Board) (text took : List ℕ)
    (result : Result SessionEnd PlayFault) (source : SourceTold) (before now : Spent)
    → Member contents.rules.groups p
    → ((whole : List ℕ) × MayHold source whole
    × TellsSession contents.rules side (codes_later contents bytes side) p whole took text result
    before now)
    → SessionSo contents bytes side p text took result source before now
session_so there contents bytes side p text took result source before now inside tells =
    let rules = contents.rules in
    let session = there rules (value_by rules) side (codes_later contents bytes side)
    (Num rules.groups p) tells.0 in
    let so = tells.2 inside session.0 session.1 session.2 session.3 in
    let arena = graph_by rules (value_by rules) in
    record {
      input = tells.0;
      may = tells.1;
      plies = session.0;
      end = session.1;
      left = session.2;
      session = session.3;
      of = so.0;
      costs = λ numbers comes. subst (λ (z : List ℕ). SpendsAt arena 1 z before now)
          (sym comes.are) (tells.2 inside comes.plies comes.end comes.left comes.session).1;
    }
