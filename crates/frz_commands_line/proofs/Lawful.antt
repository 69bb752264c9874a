-- That `line` and `play` have one answer each, which means what it is to mean.
use Rattle.std.proofs.Common.{◌≡◌, sym, ap, subst, ◌∙◌, ℕ, List, Bool, true, false, Option, Some, None, Result, Ok, Err}
use Rattle.frz_board.specs.declared.man.Colour.{Colour}
use Rattle.frz_board.specs.Boards.{Board}
use Rattle.frz_sets.specs.declared.exit.Value.{Value}
use Rattle.frz_sets.specs.Views.{RuleLines}
use Rattle.frz_exits.specs.Books.{value_by}
use Rattle.frz_arena.specs.WayEnds.{Wrong, NoBound, Mated, Stalemated, Exit, Cut, Stopped}
use Rattle.frz_fen.specs.Reading.{fen_of}
use Rattle.frz_index.specs.Members.{Num}
use Rattle.frz_game.specs.Numbers.{is_member}
use Rattle.frz_store.specs.Files.{Files}
use Rattle.frz_table.specs.declared.fault.TableFault.{TableFault}
use Rattle.frz_table.specs.declared.kind.FileKind.TheVariants.{Plain}
use Rattle.frz_table.specs.Opening.{Contents, opened, table_format}
use Rattle.frz_answer.specs.declared.status.Status.TheVariants.{Words}
use Rattle.frz_answer.specs.declared.end.End.{End}
use Rattle.frz_answer.specs.Answers.{Answer, says}
use Rattle.frz_answer.specs.Ends.{Ran}
use Rattle.frz_answer.specs.World.{World}
use Rattle.frz_answer.specs.Jobs.{Job}
use Rattle.frz_answer.specs.Lawful.{HasOneAnswer, IsLawful}
use Rattle.frz_answer.specs.Words.{three_words_of}
use Rattle.frz_answer.proofs.Lemmas.{one_answer, said_job, taking_lawful}
use Rattle.frz_prelude.specs.Positions.{on_position}
use Rattle.frz_prelude.proofs.Lemmas.{fen_lawful}
use Rattle.frz_ways.specs.declared.opponent.Opponent.{Opponent}
use Rattle.frz_ways.specs.declared.opponent.Opponent.TheVariants as opponents
use Rattle.frz_ways.specs.declared.session_end.PlayFault.{PlayFault}
use Rattle.frz_ways.specs.declared.session_end.SessionEnd.{SessionEnd}
use Rattle.frz_ways.specs.Ends as ends
use Rattle.frz_ways.specs.Lines.{LinePly, EndOfLine, IsLine}
use Rattle.frz_ways.specs.Reading.{Input}
use Rattle.frz_ways.specs.SessionEnds.{Tells}
use Rattle.frz_ways.specs.Sessions.{SessionPly, EndOfSession, IsSession}
use Rattle.frz_commands_line.specs.Later.{from_opening, held_later}
use Rattle.frz_commands_line.specs.LineOf.{code_at, codes_later, line_answer}
use Rattle.frz_commands_line.specs.Lining.{line_words}
use Rattle.frz_commands_line.specs.Playing.{play_words}
use Rattle.frz_commands_line.specs.SessionOf.{session_answer}
use Rattle.frz_commands_line.specs.Sides.{side_of, side_line, on_side}
use Rattle.frz_commands_line.specs.WayJobs.{MeansWay, way_at, way_named, way_words}
use Rattle.frz_commands_line.specs.WayOf.{IsTold, IsToldBy, IsToldAt}
use Rattle.frz_commands_line.proofs.KnownLine.{LineThere}
use Rattle.frz_commands_line.proofs.LineMeans.{LineLaws, line_means}
use Rattle.frz_commands_line.proofs.SessionMeans.{SessionLaws, play_means}
use Rattle.frz_commands_line.proofs.SessionSeen.{SessionThere}
use Rattle.frz_commands_line.proofs.WayAnswered.{ByMember, SomeTold, some_at, some_line, some_session}

-- that there is no other line
abbrev pub LineAlone : Type 0
LineAlone = (rules : RuleLines) (value : Board → Value) (side : Colour) (codes : ℕ → List ℕ)
    (start : ℕ)
    (plies others : List LinePly) (end last : EndOfLine)
    → IsLine rules value side codes start plies end
    → IsLine rules value side codes start others last → (plies ≡ others) × (end ≡ last)

-- that there is no other session
abbrev pub SessionAlone : Type 0
SessionAlone = (rules : RuleLines) (value : Board → Value) (side : Colour)
    (codes : ℕ → List ℕ)
    (start : ℕ) (input : List ℕ) (plies others : List SessionPly) (end last : EndOfSession)
    (left rest : Input)
    → IsSession rules value side codes start input plies end left
    → IsSession rules value side codes start input others last rest → (plies ≡ others)
    × (end ≡ last) × (left ≡ rest)

-- one answer is told at the end of a session
one_told : (side : Colour) (end : EndOfSession) (a b : Result SessionEnd PlayFault)
    → Tells side end a → Tells side end b → a ≡ b
one_told side (Wrong at kept given) a b h k = h ∙ sym k
one_told side NoBound a b h k = h ∙ sym k
one_told side (Mated mover) a b h k = h ∙ sym k
one_told side (Stalemated mover) a b h k = h ∙ sym k
one_told side (Exit v) a b h k = h ∙ sym k
one_told side Cut a b h k = absurd h
one_told side (Stopped halt) a b h k = h ∙ sym k

-- there is no other answer at a position of the set
abbrev OneTold : Opponent → Type 0
OneTold opponent = (contents : Contents) (bytes : ℕ → List ℕ) (side : Colour) (p : Board)
    (files : Files) (input : List ℕ) (a b : Answer)
    → IsTold opponent contents bytes side p files input a
    → IsTold opponent contents bytes side p files input b → b ≡ a

one_lined : LineAlone → OneTold opponents.Codes
one_lined alone contents bytes side p files input a b h k =
    let code = code_at contents bytes side p in
    let same = alone contents.rules (value_by contents.rules) side (codes_later contents bytes side)
    (Num contents.rules.groups p) k.plies h.plies k.end h.end k.line h.line in
    k.told ∙ ap (λ (l : List LinePly). line_answer side code l (ends.told side k.end) files) same.0
    ∙ ap (λ (e : EndOfLine). line_answer side code h.plies (ends.told side e) files) same.1
    ∙ sym h.told

one_played : SessionAlone → OneTold opponents.Input
one_played alone contents bytes side p files input a b h k =
    let code = code_at contents bytes side p in
    let same = alone contents.rules (value_by contents.rules) side (codes_later contents bytes side)
    (Num contents.rules.groups p) input k.plies h.plies k.end h.end k.left h.left k.session
    h.session in
    let told = one_told side h.end k.answer h.answer
    (subst (λ (e : EndOfSession). Tells side e k.answer) same.1 k.tells) h.tells in
    k.told ∙ ap (λ (l : List SessionPly). session_answer side code input l k.end k.left k.answer
    files) same.0
    ∙ ap (λ (e : EndOfSession). session_answer side code input h.plies e k.left k.answer files)
    same.1
    ∙ ap (λ (l : Input). session_answer side code input h.plies h.end l k.answer files) same.2
    ∙ ap (λ (r : Result SessionEnd PlayFault). session_answer side code input h.plies h.end h.left r
    files) told ∙ sym h.told

pub side_lawful : (job : Colour → Job) (o : Option Colour) → ((side : Colour) → IsLawful (job side))
    → IsLawful (on_side job o)
side_lawful job None law =
    said_job (on_side job None) (λ files input. one_answer (says Words side_line files))
    (λ _ _ _ _. tt)
side_lawful job (Some side) law = law side

-- what its answers mean
abbrev MeansTold : Opponent → Type 0
MeansTold opponent = (later : ℕ → Files) (table : List ℕ) (side : Colour) (p : Board)
    (files : Files) (input : List ℕ) (a : Answer)
    → IsToldAt opponent later table side p files input a
    → MeansWay opponent later table side p files input a

module _ (opponent : Opponent) (some : SomeTold opponent) (one : OneTold opponent)
    (means : MeansTold opponent) (later : ℕ → Files) where
  one_by_test : (contents : Contents) (bytes : ℕ → List ℕ) (side : Colour) (p : Board)
      (files : Files) (input : List ℕ) (a b : Answer) (inside : Bool)
      → ByMember opponent contents bytes side p files input a inside
      → ByMember opponent contents bytes side p files input b inside → b ≡ a
  one_by_test contents bytes side p files input a b true h k =
      one contents bytes side p files input a b h k
  one_by_test contents bytes side p files input a b false h k = k ∙ sym h

  one_by : (x : Result Contents TableFault) (bytes : ℕ → List ℕ) (side : Colour) (p : Board)
      (files : Files) (input : List ℕ) (a b : Answer)
      → IsToldBy opponent x bytes side p files input a
      → IsToldBy opponent x bytes side p files input b → b ≡ a
  one_by (Ok contents) bytes side p files input a b h k =
      one_by_test contents bytes side p files input a b (is_member contents.rules.groups p) h k
  one_by (Err fault) bytes side p files input a b h k = k ∙ sym h

  one_at : (table : List ℕ) (side : Colour) (p : Board) (files : Files) (input : List ℕ)
      → HasOneAnswer
      (λ a. IsToldAt opponent (from_opening files later) table side p files input a)
  one_at table side p files input =
      let told = some_at opponent some side p files input (from_opening files later) table in (
        told.a,
        told.answer,
        λ b k. one_by (opened (table_format Plain) (files table))
            (held_later (from_opening files later) table) side p files input told.a b told.answer k,
      )

  at_lawful : (table : List ℕ) (side : Colour) (p : Board)
      → IsLawful (way_at opponent later table side p)
  at_lawful table side p = record {
    one = λ files input. one_at table side p files input;
    means = λ files input a are h. means (from_opening files later) table side p files input a h;
  }

  way_lawful : (words : List (List ℕ)) → IsLawful (way_words opponent later words)
  way_lawful words =
      taking_lawful (way_named opponent later) (three_words_of words)
      (λ names. side_lawful
      (λ side. on_position (way_at opponent later names.0 side) (fen_of names.1))
      (side_of names.2)
      (λ side. fen_lawful (way_at opponent later names.0 side) (fen_of names.1)
      (λ p read. at_lawful names.0 side p)))

pub line_lawful : LineThere → LineAlone → LineLaws → (later : ℕ → Files) (words : List (List ℕ))
    → IsLawful (line_words later words)
line_lawful there alone laws =
    way_lawful opponents.Codes (some_line there) (one_lined alone)
    (λ later table side p files input a h. line_means laws later table side p files input a h)

pub play_lawful : SessionThere → SessionAlone → SessionLaws → (later : ℕ → Files)
    (words : List (List ℕ)) → IsLawful (play_words later words)
play_lawful there alone laws =
    way_lawful opponents.Input (some_session there) (one_played alone)
    (λ later table side p files input a h. play_means laws later table side p files input a h)

-- what was done for some side was done for an equal one
pub as_side : (end : End) (old new : World) (job : Colour → Job) (these word : Option Colour)
    → these ≡ word → Ran (on_side job these) end old new → Ran (on_side job word) end old new
as_side end old new job these word e ran =
    subst (λ (o : Option Colour). Ran (on_side job o) end old new) e ran
