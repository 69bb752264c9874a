-- How `query` ends where something stopped it, and that it has one answer.
use Rattle.std.proofs.Common.{◌≡◌, refl, sym, ap, subst, ℕ, ◌≤◌, List, [], ◌∷◌, Bool, true, false, Option, Some, Result, Ok, Err, if◌then◌else◌, arith}
use Rattle.std.specs.Option.{unwrap_or}
use Rattle.frz_store.specs.Files.{Files}
use Rattle.frz_board.specs.Boards.{Board}
use Rattle.frz_fen.specs.Reading.{fen_of}
use Rattle.frz_game.specs.Numbers.{is_member}
use Rattle.frz_table.specs.declared.fault.TableFault.{TableFault}
use Rattle.frz_table.specs.declared.kind.FileKind.{FileKind}
use Rattle.frz_table.specs.declared.kind.FileKind.TheVariants.{Plain, Chained}
use Rattle.frz_table.specs.Opening.{Contents, opened, format_for}
use Rattle.frz_answer.specs.declared.status.Status.TheVariants.{Success, Table, Outside, Missing}
use Rattle.frz_answer.specs.Statuses.{OneOf}
use Rattle.frz_answer.specs.Answers.{SomeAnswer}
use Rattle.frz_answer.specs.Lawful.{IsLawful}
use Rattle.frz_answer.specs.Words.{two_words_of}
use Rattle.frz_answer.specs.World.{World, Agrees}
use Rattle.frz_answer.proofs.Lemmas.{one_answer, taking_lawful}
use Rattle.frz_prelude.specs.Positions.{on_position}
use Rattle.frz_prelude.specs.Refusals.{status_of}
use Rattle.frz_prelude.specs.Stops.{Answers}
use Rattle.frz_prelude.specs.declared.refused.Refused.{Refused as Refusal}
use Rattle.frz_prelude.specs.declared.refused.Refused.TheVariants as refusals
use Rattle.frz_prelude.specs.declared.stop.Stop.{Stop}
use Rattle.frz_prelude.specs.declared.stop.Stop.TheVariants.{Refused, Fault}
use Rattle.frz_prelude.proofs.Lemmas.{fen_lawful, found_where, refusal_said, table_own, StopsWith}
use Rattle.frz_commands_ask.specs.declared.kept.KeptCodes.{KeptCodes}
use Rattle.frz_commands_ask.specs.Kept.{kept_by, kept_of, answer_by, IsKept}
use Rattle.frz_commands_ask.specs.Querying.{querying_at, querying_words, query_words, chainquery_words}
use Rattle.frz_commands_ask.proofs.QueryMeans.{query_means}

-- a position is refused as outside, or its table for its bytes
of_test : (P : Refusal → Type 0) (why : Refusal) (inside : Bool) (codes : KeptCodes)
    → (if inside then Ok codes else Err refusals.Outside) ≡ Err why → P refusals.Outside → P why
of_test P why true codes e outside = cc
of_test P why false codes e outside = let same : refusals.Outside ≡ why = cc in subst P same outside

of_kept : (P : Refusal → Type 0) (why : Refusal) (x : Result Contents TableFault) (bytes : List ℕ)
    (p : Board) → kept_by x bytes p ≡ Err why
    → P refusals.Outside → ((fault : TableFault) → P (refusals.Table fault)) → P why
of_kept P why (Ok contents) bytes p e outside refused =
    of_test P why (is_member contents.rules.groups p) _ e outside
of_kept P why (Err fault) bytes p e outside refused =
    let same : refusals.Table fault ≡ why = cc in subst P same (refused fault)

-- with a status of `query`
own_refusal : (kind : Option FileKind) (p : Board) (held : Option (List ℕ)) (why : Refusal)
    → kept_of kind p held ≡ Err why
    → OneOf (status_of why) (Success ∷ Table ∷ Outside ∷ Missing ∷ [])
own_refusal kind p held why e =
    of_kept (λ (w : Refusal). OneOf (status_of w) (Success ∷ Table ∷ Outside ∷ Missing ∷ [])) why
    (opened (format_for kind) held) (unwrap_or held []) p e refl
    (λ fault. table_own fault (Success ∷ Table ∷ Outside ∷ Missing ∷ []) refl refl)

pub own_stop : (kind : Option FileKind) (p : Board) (held : Option (List ℕ)) (stop : Stop)
    → Answers {A = KeptCodes} (Err stop) (kept_of kind p held)
    → (why : Refusal) → stop ≡ Refused why
    → OneOf (status_of why) (Success ∷ Table ∷ Outside ∷ Missing ∷ [])
own_stop kind p held stop due why is =
    own_refusal kind p held why
    (subst (λ (s : Stop). Answers {A = KeptCodes} (Err s) (kept_of kind p held)) is due)

-- some text is said
text_said : (r : Result KeptCodes Refusal) (files : Files) → (answer_by r files).text ≡ [] → ⊥
text_said (Ok codes) files = λ e. cc
text_said (Err why) files = refusal_said why

some_kept : (kind : Option FileKind) (p : Board) (table : List ℕ) (files : Files)
    → SomeAnswer (λ a. a ≡ answer_by (kept_of kind p (files table)) files)
some_kept kind p table files = record {
  a = answer_by (kept_of kind p (files table)) files;
  answer = refl;
  text = text_said (kept_of kind p (files table)) files;
}

-- where the codes were not read
pub stopped_at : (kind : Option FileKind) (table : List ℕ) (p : Board) (stop : Stop) (files : Files)
    (input : List ℕ) (old new : World)
    → IsKept kind p table (Err stop) old.store new.store → new.steps ≤ old.steps
    → Agrees old files input
    → StopsWith (querying_at kind table p) stop files input old new
stopped_at kind table p (Refused why) files input old new kept steps agrees = record {
  found = found_where (querying_at kind table p) kept.files files input old (λ e. cc) kept.agrees
      agrees;
  answer = ap (λ (r : Result KeptCodes Refusal). answer_by r kept.files) (sym kept.due);
  costs = record { steps = omega (arith, steps); calls = kept.calls; asked = kept.asked };
}
stopped_at kind table p (Fault fault) files input old new kept steps agrees = record {
  found = found_where (querying_at kind table p) kept.files files input old (λ e. cc) kept.agrees
      agrees;
  some = some_kept kind p table kept.files;
  costs = record { steps = omega (arith, steps); calls = kept.calls; asked = kept.asked };
}

querying_lawful : (kind : Option FileKind) (table : List ℕ) (p : Board)
    → IsLawful (querying_at kind table p)
querying_lawful kind table p = record {
  one = λ files input. one_answer (answer_by (kept_of kind p (files table)) files);
  means = λ files input a are h. query_means kind table p files a h;
}

querying_words_lawful : (kind : Option FileKind) (words : List (List ℕ))
    → IsLawful (querying_words kind words)
querying_words_lawful kind words =
    taking_lawful (λ (names : List ℕ × List ℕ). on_position (querying_at kind names.0)
    (fen_of names.1)) (two_words_of words)
    (λ names. fen_lawful (querying_at kind names.0) (fen_of names.1)
    (λ p read. querying_lawful kind names.0 p))

pub query_lawful : (words : List (List ℕ)) → IsLawful (query_words words)
query_lawful words = querying_words_lawful (Some Plain) words

pub chainquery_lawful : (words : List (List ℕ)) → IsLawful (chainquery_words words)
chainquery_lawful words = querying_words_lawful (Some Chained) words
