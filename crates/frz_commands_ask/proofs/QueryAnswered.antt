-- A query of a table file that opens is answered by its position: nothing is refused but the FEN.
use Rattle.std.proofs.Common.{◌≡◌, refl, sym, ap, subst, ◌∙◌, ℕ, List, [], ◌∷◌, Option, Some, None, Result, Ok, Err}
use Rattle.frz_board.specs.Boards.{Board}
use Rattle.frz_fen.specs.declared.fault.FenFault.{FenFault}
use Rattle.frz_store.specs.Files.{Files}
use Rattle.frz_table.specs.declared.fault.TableFault.{TableFault}
use Rattle.frz_table.specs.declared.kind.FileKind.{FileKind}
use Rattle.frz_table.specs.Opening.{Contents, opened, format_for}
use Rattle.frz_answer.specs.declared.status.Status.{Status}
use Rattle.frz_answer.specs.declared.status.Status.TheVariants.{Success, Fen, Table, Outside, Missing}
use Rattle.frz_answer.specs.Statuses.{OneOf}
use Rattle.frz_answer.specs.Answers.{Answer}
use Rattle.frz_answer.specs.Jobs.{Job}
use Rattle.frz_prelude.specs.Positions.{on_position}
use Rattle.frz_commands_ask.specs.AskedFiles.{OpensAsked, TellsAskedFault}
use Rattle.frz_commands_ask.specs.Querying.{MeansStatus, querying_at}

module _ (files : Files) (input : List ℕ) (a : Answer) where
  -- the FEN is refused with its own status, or it is taken
  pub of_position : (P : Status → Type 0) → P Fen → (job : Board → Job) (x : Result Board FenFault)
      → (on_position job x).answers files input a → (on_position job x).means files input a
      → ((p : Board) → x ≡ Ok p → (job p).means files input a → P a.status) → P a.status
  of_position P refused job (Ok p) answer means taken = taken p refl means
  of_position P refused job (Err fault) answer means taken =
      subst P (sym (ap (λ (x : Answer). x.status) answer)) refused

  -- with status 0 it is taken
  pub at_position : a.status ≡ Success → (job : Board → Job) (x : Result Board FenFault)
      → (on_position job x).answers files input a → (on_position job x).means files input a
      → (p : Board) × (x ≡ Ok p) × (job p).means files input a
  at_position done job x answer means =
      of_position (λ s. s ≡ Success → (p : Board) × (x ≡ Ok p) × (job p).means files input a)
      (λ e. cc) job x answer means (λ p is meant e. (p, is, meant)) done

module _ {kind : Option FileKind} {table : List ℕ} {files : Files} {bytes : List ℕ} {contents : Contents}
    (opens : OpensAsked kind table files bytes contents) where
  -- of the file nothing is refused
  pub never_refused : {text : List ℕ} → TellsAskedFault kind table files text → ⊥
  never_refused refused =
      let same : Some refused.bytes ≡ Some bytes = sym refused.there ∙ opens.there in
      let no : ◌≡◌ {A = Result Contents TableFault} (Err refused.fault) (Ok contents) =
      sym refused.refused ∙ ap (opened (format_for kind)) same ∙ opens.opens in
      cc

  pub never_missing : files table ≡ None → ⊥
  never_missing none = let no : Some bytes ≡ None = sym opens.there ∙ none in cc

  query_status : (p : Board) (text : List ℕ) (s : Status) → MeansStatus kind table p files s text
      → OneOf s (Success ∷ Fen ∷ Outside ∷ [])
  query_status p text Success means = refl
  query_status p text Outside means = refl
  query_status p text Table means = absurd (never_refused means)
  query_status p text Missing means = absurd (never_missing means)
  query_status p text s means = absurd means

  pub query_answered : (x : Result Board FenFault) (input : List ℕ) (a : Answer)
      → (on_position (querying_at kind table) x).answers files input a
      → (on_position (querying_at kind table) x).means files input a
      → OneOf a.status (Success ∷ Fen ∷ Outside ∷ [])
  query_answered x input a answer means =
      of_position files input a (λ s. OneOf s (Success ∷ Fen ∷ Outside ∷ [])) refl
      (querying_at kind table) x answer means
      (λ p is meant. query_status p a.text a.status meant.says)
