-- What `line` and `play` answer, by how their table file opens.
use Rattle.std.proofs.Common.{◌≡◌, refl, sym, subst, ℕ, List, Bool, true, false, Result, Ok, Err}
use Rattle.std.specs.Prelude.{MatchBool}
use Rattle.frz_board.specs.declared.man.Colour.{Colour}
use Rattle.frz_board.specs.Boards.{Board}
use Rattle.frz_game.specs.Games.{graph_by}
use Rattle.frz_game.specs.Numbers.{is_member}
use Rattle.frz_exits.specs.Books.{value_by}
use Rattle.frz_index.specs.Members.{Member, Num}
use Rattle.frz_index.proofs.Lemmas.{of_member}
use Rattle.frz_store.specs.Files.{Files}
use Rattle.frz_table.specs.declared.fault.TableFault.{TableFault}
use Rattle.frz_table.specs.declared.kind.FileKind.TheVariants.{Plain}
use Rattle.frz_table.specs.Opening.{Contents, opened, table_format}
use Rattle.frz_answer.specs.Answers.{Answer, says, SomeAnswer}
use Rattle.frz_prelude.specs.Refusals.{status_of, refusal_line}
use Rattle.frz_prelude.specs.declared.refused.Refused.TheVariants as refusals
use Rattle.frz_prelude.proofs.Lemmas.{some_refusal}
use Rattle.frz_ways.specs.declared.opponent.Opponent.{Opponent}
use Rattle.frz_ways.specs.declared.opponent.Opponent.TheVariants as opponents
use Rattle.frz_ways.specs.Ends as ends
use Rattle.frz_ways.specs.Reading as reading
use Rattle.frz_ways.specs.Sessions.{EndOfSession, IsSession}
use Rattle.frz_commands_line.specs.Later.{held_later}
use Rattle.frz_commands_line.specs.LineOf.{code_at, codes_later, line_answer, IsLined}
use Rattle.frz_commands_line.specs.SessionOf.{session_answer, IsPlayed}
use Rattle.frz_commands_line.specs.WayOf.{IsTold, IsToldIn, IsToldBy, IsToldAt}
use Rattle.frz_commands_line.proofs.Counting.{told_said}
use Rattle.frz_commands_line.proofs.KnownLine.{LineThere, not_member}
use Rattle.frz_commands_line.proofs.SessionSeen.{SessionThere}
use Rattle.frz_commands_line.proofs.SessionTexts.{answered_at, never_cut, session_said}

-- there is an answer at a position of the set
abbrev pub SomeTold : Opponent → Type 0
SomeTold opponent = (contents : Contents) (bytes : ℕ → List ℕ) (side : Colour) (p : Board)
    (files : Files) (input : List ℕ)
    → SomeAnswer (λ a. IsTold opponent contents bytes side p files input a)

pub some_line : LineThere → SomeTold opponents.Codes
some_line there contents bytes side p files input =
    let code = code_at contents bytes side p in
    let l = there contents.rules (value_by contents.rules) side (codes_later contents bytes side)
    (Num contents.rules.groups p) in
    let lined : IsLined contents bytes side p files
    (line_answer side code l.0 (ends.told side l.1) files) =
    record { plies = l.0; end = l.1; line = l.2; told = refl } in
    record {
      a = line_answer side code l.0 (ends.told side l.1) files;
      answer = lined;
      text = told_said side code l.0 l.1;
    }

pub some_session : SessionThere → SomeTold opponents.Input
some_session there contents bytes side p files input =
    let rules = contents.rules in
    let code = code_at contents bytes side p in
    let codes = codes_later contents bytes side in
    let start = Num rules.groups p in
    let s = there rules (value_by rules) side codes start input in
    let final = answered_at side s.1
    (λ cut. never_cut (graph_by rules (value_by rules)) side codes 0 (reading.opened input)
    start s.0 s.2
    (subst (λ (e : EndOfSession). IsSession rules (value_by rules) side codes start input s.0 e
    s.2) cut s.3)) in
    let played : IsPlayed contents bytes side p files input
    (session_answer side code input s.0 s.1 s.2 final.answer files) =
    record {
      plies = s.0;
      end = s.1;
      left = s.2;
      session = s.3;
      answer = final.answer;
      tells = final.tells;
      told = refl;
    } in
    record {
      a = session_answer side code input s.0 s.1 s.2 final.answer files;
      answer = played;
      text = session_said side code s.0 s.1 final.answer final.tells;
    }

pub some_told : LineThere → SessionThere → (opponent : Opponent) → SomeTold opponent
some_told lines sessions opponents.Codes = some_line lines
some_told lines sessions opponents.Input = some_session sessions

-- the answer at a position of the set, and at one that is outside
module _ (opponent : Opponent) (contents : Contents) (bytes : ℕ → List ℕ) (side : Colour)
    (p : Board) (files : Files) (input : List ℕ) (a : Answer) where
  abbrev pub ByMember : Bool → Type 0
  ByMember b = MatchBool b (IsTold opponent contents bytes side p files input a)
      (a ≡ says (status_of refusals.Outside) (refusal_line refusals.Outside) files)

  pub answered_inside : Member contents.rules.groups p
      → IsTold opponent contents bytes side p files input a
      → IsToldIn opponent contents bytes side p files input a
  answered_inside inside told = subst ByMember (sym (of_member contents.rules.groups p inside)) told

  pub answered_outside : (Member contents.rules.groups p → ⊥)
      → a ≡ says (status_of refusals.Outside) (refusal_line refusals.Outside) files
      → IsToldIn opponent contents bytes side p files input a
  answered_outside none e = subst ByMember (sym (not_member contents.rules.groups p none)) e

-- there is an answer at each position
module _ (opponent : Opponent) (some : SomeTold opponent) (side : Colour) (p : Board)
    (files : Files) (input : List ℕ) where
  some_by_test : (contents : Contents) (bytes : ℕ → List ℕ) (b : Bool)
      → SomeAnswer (λ a. ByMember opponent contents bytes side p files input a b)
  some_by_test contents bytes true = some contents bytes side p files input
  some_by_test contents bytes false = some_refusal refusals.Outside files

  some_by : (x : Result Contents TableFault) (bytes : ℕ → List ℕ)
      → SomeAnswer (λ a. IsToldBy opponent x bytes side p files input a)
  some_by (Ok contents) bytes = some_by_test contents bytes (is_member contents.rules.groups p)
  some_by (Err fault) bytes = some_refusal (refusals.Table fault) files

  pub some_at : (later : ℕ → Files) (table : List ℕ)
      → SomeAnswer (λ a. IsToldAt opponent later table side p files input a)
  some_at later table =
      some_by (opened (table_format Plain) (files table)) (held_later later table)
