-- One call after another: what the words of a call leave of its job where it ends well, and what is
-- told then of a table that `check` found exact.
use Rattle.std.proofs.Common.{◌≡◌, refl, sym, ap, subst, ◌∙◌, ℕ, List, [], ◌∷◌, length, Bool, true, false, Option, Some, None, Ok}
use Rattle.std.specs.Prelude.{nat_lt, if◌then◌else◌}
use Rattle.frz_board.specs.Boards.{Board}
use Rattle.frz_fen.specs.Reading.{fen_of}
use Rattle.frz_index.specs.Members.{Member}
use Rattle.frz_store.specs.Bytes.{HoldsBytes}
use Rattle.frz_store.specs.Files.{Files}
use Rattle.frz_table.specs.Opening.{Contents}
use Rattle.frz_commands_verdict.specs.Links.{backs_of, value_over}
use Rattle.frz_commands_atlas.specs.Behind.{leans}
use Rattle.frz_answer.specs.declared.status.Status.{Status}
use Rattle.frz_answer.specs.declared.status.Status.TheVariants.{Success, Words, Fen, Outside}
use Rattle.frz_answer.specs.Statuses.{OneOf}
use Rattle.frz_answer.specs.Answers.{Answer}
use Rattle.frz_answer.specs.Jobs.{Job}
use Rattle.frz_answer.specs.Words.{taking, unless}
use Rattle.frz_commands_ask.specs.Meaning.{TellsBounds}
use Rattle.frz_commands_ask.specs.Querying as queries
use Rattle.frz_commands_ask.specs.Querying.{MeansQuery, TellsKept, querying_at}
use Rattle.frz_commands_ask.proofs.Lemmas.{at_position, query_answered}
use Rattle.frz_commands_atlas.specs.Names.{file_names_of, has_twice}
use Rattle.frz_commands_atlas.specs.Limits.{MOST_BACKS}
use Rattle.frz_commands_atlas.specs.AtlasHeadline.{AtlasHeadline}
use Rattle.frz_commands_atlas.specs.CheckMeans as checks
use Rattle.frz_commands_atlas.specs.CheckMeans.{MeansCheck, TellsExactOver, checking_at}
use Rattle.frz_atlas_top.specs.Calls.{check, query, Succeeds, TellsBoundsOver}
use Rattle.frz_atlas_top.specs.Commands.{job_of}
use Rattle.frz_commands_atlas.proofs.Lemmas.{check_lawful}
use Rattle.frz_atlas_top.proofs.QueriesOnce.{query_lawful}
use Rattle.frz_atlas_top.proofs.ExactTables.{exact_contents, exact_opens, exact_tables}

-- the names that words give are those words
pub these_names : (table : List ℕ) (behind : List (List ℕ)) (names : List ℕ × List (List ℕ))
    → file_names_of (table ∷ behind) ≡ Some names → names ≡ (table, behind)
these_names table behind names e = by_count (nat_lt MOST_BACKS (length behind)) e
  where
    by_count : (many : Bool) → (if many then None else Some (table, behind)) ≡ Some names
        → names ≡ (table, behind)
    by_count true e = cc
    by_count false e = cc

-- with status 0 the words are taken
module _ (files : Files) (input : List ℕ) (a : Answer) (done : a.status ≡ Success) where
  never_refused : a.status ≡ Words → ⊥
  never_refused e = let no : Words ≡ Success = sym e ∙ done in cc

  pub of_words : {A : Type 0} → (job : A → Job) (x : Option A)
      → (taking job x).answers files input a → (taking job x).means files input a
      → (words : A) × (x ≡ Some words) × (job words).answers files input a
      × (job words).means files input a
  of_words job (Some words) answer means = (words, refl, answer, means)
  of_words job None answer means =
      absurd (never_refused (ap (λ (x : Answer). x.status) answer))

  pub of_names : (job : Job) (same : Bool)
      → (unless same job).answers files input a → (unless same job).means files input a
      → (same ≡ false) × job.answers files input a × job.means files input a
  of_names job false answer means = (refl, answer, means)
  of_names job true answer means =
      absurd (never_refused (ap (λ (x : Answer). x.status) answer))

-- what `check` with status 0 means
pub check_headline : (table : List ℕ) (behind : List (List ℕ)) (files : Files) (a : Answer)
    → Succeeds (check table behind) files a → AtlasHeadline table behind files
check_headline table behind files a h =
    let words : List (List ℕ) = table ∷ behind in
    let job : List ℕ × List (List ℕ) → Job = λ names. unless (has_twice words)
    (checking_at names.0 names.1) in
    let taken = of_words files h.input a h.done job (file_names_of words) h.answer
    ((check_lawful (table ∷ behind)).means files h.input a h.bytes h.answer) in
    let names = taken.0 in
    let differ = of_names files h.input a h.done (checking_at names.0 names.1) (has_twice words)
    taken.2 taken.3 in
    let means : MeansCheck names.0 names.1 files a = differ.2 in
    let tells : TellsExactOver names.0 names.1 files a.text =
    subst (λ (s : Status). checks.MeansStatus names.0 names.1 files a s) h.done means.says in
    subst (λ (n : List ℕ × List (List ℕ)). AtlasHeadline n.0 n.1 files)
    (these_names table behind names taken.1) tells.exact

-- what `query` with status 0 tells of the codes in the file
pub query_tells_kept : (table fen : List ℕ) (files : Files) (b : Answer)
    → Succeeds (query table fen) files b
    → (p : Board) × (fen_of fen ≡ Ok p) × TellsKept None table p files b.text
query_tells_kept table fen files b h =
    let at = at_position files h.input b h.done (querying_at None table) (fen_of fen) h.answer
    ((query_lawful (table ∷ fen ∷ [])).means files h.input b h.bytes h.answer) in
    let means : MeansQuery None table at.0 files b = at.2 in (
      at.0,
      at.1,
      subst (λ (s : Status). queries.MeansStatus None table at.0 files s b.text) h.done means.says,
    )

-- over exact tables
module _ (table : List ℕ) (behind : List (List ℕ)) (files : Files) (are : HoldsBytes files)
    (exact : AtlasHeadline table behind files) (fen : List ℕ) (b : Answer) where
  pub query_tells_bounds : Succeeds (query table fen) files b
      → TellsBoundsOver table behind fen files b.text
  query_tells_bounds h =
      let at = query_tells_kept table fen files b h in
      let kept = at.2 in
      let same = exact_contents table behind files exact kept.bytes kept.contents kept.open_file in
      let bounds : TellsBounds kept.contents.rules
      (value_over (leans exact.bytes) kept.contents.rules (backs_of exact.links)) at.0 b.text =
      kept.where_exact (value_over (leans exact.bytes) kept.contents.rules (backs_of exact.links))
      (exact_tables table behind files exact kept.bytes kept.contents kept.open_file) in
      record {
        exact = exact;
        p = at.0;
        read = at.1;
        inside = subst (λ (c : Contents). Member c.rules.groups at.0) (sym same) kept.inside;
        tells = subst
            (λ (c : Contents). TellsBounds c.rules
            (value_over (leans exact.bytes) c.rules (backs_of exact.links)) at.0 b.text) (sym same) bounds;
      }

  pub queried_well : (input : List ℕ) → (job_of (query table fen)).answers files input b
      → OneOf b.status (Success ∷ Fen ∷ Outside ∷ [])
  queried_well input answer =
      query_answered (exact_opens table behind files exact) (fen_of fen) input b answer
      ((query_lawful (table ∷ fen ∷ [])).means files input b are answer)
