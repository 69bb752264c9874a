-- One call after another: what the words of a call leave of its job where it ends well, and what is
-- told then of a table that `check` or `chaincheck` found exact.
use Rattle.std.proofs.Common.{◌≡◌, refl, sym, ap, subst, ◌∙◌, ℕ, zero, suc, List, [], ◌∷◌, Bool, true, false, Option, Some, None, Result, Ok}
use Rattle.std.specs.Option.{unwrap_or}
use Rattle.frz_board.specs.declared.man.Colour.{Colour}
use Rattle.frz_board.specs.declared.man.Colour.TheVariants.{White, Black}
use Rattle.frz_board.specs.Boards.{Board}
use Rattle.frz_fen.specs.Reading.{fen_of}
use Rattle.frz_fen.specs.declared.fault.FenFault.{FenFault}
use Rattle.frz_exits.specs.Books.{value_by}
use Rattle.frz_index.specs.Members.{Member}
use Rattle.frz_store.specs.Bytes.{HoldsBytes}
use Rattle.frz_store.specs.Files.{Files}
use Rattle.frz_table.specs.declared.kind.FileKind.{FileKind}
use Rattle.frz_table.specs.declared.kind.FileKind.TheVariants.{Plain, Chained}
use Rattle.frz_table.specs.Opening.{Contents}
use Rattle.frz_check.specs.Kept.{kept_codes}
use Rattle.frz_check.specs.KeptTables.{KeepsTables}
use Rattle.frz_game.specs.Bounds.{IsTableOf}
use Rattle.frz_game.specs.Values.{AreTrueExits}
use Rattle.frz_sets.specs.Views.{RuleLines}
use Rattle.frz_sets.specs.declared.exit.Value.{Value}
use Rattle.frz_report.specs.Squeezes.{IsSqueeze, Squeeze, rank_at}
use Rattle.frz_report.specs.Zugzwangs.{IsZugzwang}
use Rattle.frz_commands_chain.specs.Books.{chain_value}
use Rattle.frz_answer.specs.declared.status.Status.{Status}
use Rattle.frz_answer.specs.declared.status.Status.TheVariants.{Success, Words, Fen, Table, Wrong, Outside, Missing, Limit}
use Rattle.frz_answer.specs.Statuses.{OneOf}
use Rattle.frz_answer.specs.Answers.{Answer}
use Rattle.frz_answer.specs.Jobs.{Job}
use Rattle.frz_answer.specs.Lawful.{IsLawful}
use Rattle.frz_answer.specs.Words.{unless}
use Rattle.frz_prelude.specs.Positions.{on_position}
use Rattle.frz_prelude.specs.TableFiles.{OpensAs, OpensAsKind, TellsTableFault}
use Rattle.frz_commands_ask.specs.AskedFiles.{OpensAsked, TellsAskedFault}
use Rattle.frz_commands_ask.specs.Meaning.{TellsBounds}
use Rattle.frz_commands_ask.specs.Querying as queries
use Rattle.frz_commands_ask.specs.Querying.{TellsKept, MeansQuery, querying_at}
use Rattle.frz_commands_ask.specs.Reporting as reports
use Rattle.frz_commands_ask.specs.Reporting.{MeansReport, TellsReport}
use Rattle.frz_commands_ask.proofs.Lemmas.{at_position, never_missing, never_refused, of_position, query_answered}
use Rattle.frz_commands_chain.specs.ChainHeadline.{ChainHeadline}
use Rattle.frz_commands_chain.specs.CheckMeans as chains
use Rattle.frz_commands_chain.specs.CheckMeans.{MeansChainCheck, TellsExactOn}
use Rattle.frz_commands_chain.proofs.Lemmas.{chain_contents, chain_tables}
use Rattle.frz_commands_line.specs.Later.{from_opening, held_later}
use Rattle.frz_commands_line.specs.LineMeaning as lines
use Rattle.frz_commands_line.specs.LineMeaning.{MeansLine, TellsLine}
use Rattle.frz_commands_line.specs.Lining.{lining_at}
use Rattle.frz_commands_line.specs.Playing.{playing_at}
use Rattle.frz_commands_line.specs.SessionMeaning as sessions
use Rattle.frz_commands_line.specs.SessionMeaning.{MeansPlay, TellsSession}
use Rattle.frz_commands_line.specs.Sides.{on_side, side_of}
use Rattle.frz_commands_table.specs.CheckMeans as checks
use Rattle.frz_commands_table.specs.CheckMeans.{MeansCheck, TellsExact}
use Rattle.frz_commands_table.specs.Headline.{Headline}
use Rattle.frz_commands_table.proofs.Lemmas.{headline_contents, headline_opens, headline_tables}
use Rattle.frz_freezer_top.specs.Commands.{job_of}
use Rattle.frz_freezer_top.specs.Calls.{check, chaincheck, chainquery, line, play, query, report, Stays, Succeeds, TellsChainedBounds, TellsTrueBounds, TellsTrueLine, TellsTrueReport, TellsTrueSession}

-- a file that opens as one kind, as a query says it and as all others do
opening_of : (kind : FileKind) (table : List ℕ) (files : Files) (bytes : List ℕ)
    (contents : Contents) → OpensAsked (Some kind) table files bytes contents
    → OpensAsKind kind table files bytes contents
opening_of kind table files bytes contents o = record { there = o.there; opens = o.opens }

asked_of : (table : List ℕ) (files : Files) (bytes : List ℕ) (contents : Contents)
    → OpensAs table files bytes contents → OpensAsked (Some Plain) table files bytes contents
asked_of table files bytes contents o = record { there = o.there; opens = o.opens }

asked_fault : (table : List ℕ) (files : Files) (text : List ℕ) → TellsTableFault table files text
    → TellsAskedFault (Some Plain) table files text
asked_fault table files text t = record {
  bytes = t.bytes;
  there = t.there;
  fault = t.fault;
  refused = t.refused;
  told = t.told;
}

-- a word is refused with its own status, or it is taken
module _ (files : Files) (input : List ℕ) (a : Answer) where
  of_side : (P : Status → Type 0) → P Words → (job : Colour → Job) (x : Option Colour)
      → (on_side job x).answers files input a → (on_side job x).means files input a
      → ((side : Colour) → x ≡ Some side → (job side).answers files input a
      → (job side).means files input a → P a.status) → P a.status
  of_side P refused job (Some side) answer means taken = taken side refl answer means
  of_side P refused job None answer means taken =
      subst P (sym (ap (λ (x : Answer). x.status) answer)) refused

  pub of_names : a.status ≡ Success → (job : Job) (same : Bool)
      → (unless same job).answers files input a → (unless same job).means files input a
      → (same ≡ false) × job.answers files input a × job.means files input a
  of_names done job false answer means = (refl, answer, means)
  of_names done job true answer means =
      let no : Words ≡ Success = sym (ap (λ (x : Answer). x.status) answer) ∙ done in cc

  -- with status 0 it is taken
  of_words : a.status ≡ Success → (job : Colour → Board → Job) (side : Option Colour)
      (x : Result Board FenFault)
      → (on_side (λ c. on_position (job c) x) side).answers files input a
      → (on_side (λ c. on_position (job c) x) side).means files input a
      → (c : Colour) × (side ≡ Some c) × (p : Board) × (x ≡ Ok p)
      × (job c p).means files input a
  of_words done job side x answer means =
      of_side (λ s. s ≡ Success → (c : Colour) × (side ≡ Some c) × (p : Board) × (x ≡ Ok p)
      × (job c p).means files input a)
      (λ e. cc) (λ c. on_position (job c) x) side answer means
      (λ c named given meant e. let at = at_position files input a e (job c) x given meant in
      (c, named, at.0, at.1, at.2)) done

-- what the law of squeezes says of one side
abbrev Zugzwangs : Colour → (Squeeze → ℕ) → (Board → Board → Type 0) → Type 0
Zugzwangs side at P = (rules : RuleLines) (value : Board → Value) → AreTrueExits rules value
    → (codes : Colour → List ℕ) → ((c : Colour) → IsTableOf rules value c (codes c))
    → (s : Squeeze) (squeeze : IsSqueeze rules.groups codes s)
    → rank_at codes side (at s) ≡ 2 → P squeeze.other s.position

-- what each call means
module _ (lawful : (later : ℕ → Files) (words : List (List ℕ))
    → IsLawful (job_of later words)) where
  pub check_headline : (later : ℕ → Files) (table : List ℕ) (files : Files) (a : Answer)
      → Succeeds later (check table) files a → Headline table files
  check_headline later table files a h =
      let means : MeansCheck table files a = (lawful later (check table)).means files h.input a
      h.bytes h.answer in
      let tells : TellsExact table files a.text =
      subst (λ (s : Status). checks.MeansStatus table files s a.text) h.done means.says in
      tells.exact

  pub chain_headline : (later : ℕ → Files) (table back : List ℕ) (files : Files) (a : Answer)
      → Succeeds later (chaincheck table back) files a → ChainHeadline table back files
  chain_headline later table back files a h =
      let means : MeansChainCheck table back files a =
      (lawful later (chaincheck table back)).means files h.input a h.bytes h.answer in
      let tells : TellsExactOn table back files a.text =
      subst (λ (s : Status). chains.MeansStatus table back files s a.text) h.done means.says in
      tells.exact

  -- over an exact table
  module _ (later : ℕ → Files) (table : List ℕ) (files : Files) (are : HoldsBytes files)
      (exact : Headline table files) (b : Answer) where
    pub queried : (fen : List ℕ) → Succeeds later (query table fen) files b
        → TellsTrueBounds table fen files b.text
    queried fen h =
        let at = at_position files h.input b h.done (querying_at (Some Plain) table) (fen_of fen)
        h.answer ((lawful later (query table fen)).means files h.input b h.bytes h.answer) in
        let means : MeansQuery (Some Plain) table at.0 files b = at.2 in
        let kept : TellsKept (Some Plain) table at.0 files b.text =
        subst (λ (s : Status). queries.MeansStatus (Some Plain) table at.0 files s b.text) h.done
        means.says in
        let open_file = opening_of Plain table files kept.bytes kept.contents kept.open_file in
        let same = headline_contents table files exact kept.bytes kept.contents open_file in
        let bounds : TellsBounds kept.contents.rules (value_by kept.contents.rules) at.0 b.text =
        kept.where_exact (value_by kept.contents.rules)
        (headline_tables table files exact kept.bytes kept.contents open_file) in
        record {
          exact = exact;
          p = at.0;
          read = at.1;
          inside = subst (λ (c : Contents). Member c.rules.groups at.0) (sym same) kept.inside;
          tells = subst (λ (c : Contents). TellsBounds c.rules (value_by c.rules) at.0 b.text)
              (sym same) bounds;
        }

    pub reported : Zugzwangs White (λ s. s.black_to_move) (λ other p. IsZugzwang White other p)
        → Zugzwangs Black (λ s. s.white_to_move) (λ other p. IsZugzwang Black p other)
        → Succeeds later (report table) files b → TellsTrueReport table files b.text
    reported white black h =
        let means : MeansReport table files b = (lawful later (report table)).means files h.input b
        h.bytes h.answer in
        let tells : TellsReport table files b.text =
        subst (λ (s : Status). reports.MeansStatus table files s b.text) h.done means.says in
        let tables = headline_tables table files exact tells.bytes tells.contents tells.open_file in
        let rules = tells.contents.rules in
        let codes = kept_codes tells.contents tells.bytes in
        record {
          tells = tells;
          bounds = tells.where_exact tables;
          white_zugzwang = λ exits. white rules (value_by rules) exits codes tables;
          black_zugzwang = λ exits. black rules (value_by rules) exits codes tables;
        }

    -- and as long as it stays
    stays_exact : (held : ℕ → Files) → Stays table files held → (bytes : List ℕ)
        (contents : Contents) → OpensAs table files bytes contents → (k : ℕ)
        → KeepsTables (value_by contents.rules) contents (held_later held table k)
    stays_exact held stays bytes contents opens k =
        let same : held_later held table k ≡ bytes =
        ap (λ (o : Option (List ℕ)). unwrap_or o []) (stays k ∙ opens.there) in
        subst (λ (l : List ℕ). KeepsTables (value_by contents.rules) contents l) (sym same)
        (headline_tables table files exact bytes contents opens)

    -- it opens, and nothing of the file is refused
    own : OpensAsked (Some Plain) table files exact.bytes
        (record { text = exact.text; rules = exact.rules })
    own = asked_of table files exact.bytes (record { text = exact.text; rules = exact.rules })
        (headline_opens table files exact)

    pub queried_well : (fen input : List ℕ) → (job_of later (query table fen)).answers files input b
        → OneOf b.status (Success ∷ Fen ∷ Outside ∷ [])
    queried_well fen input answer =
        query_answered own (fen_of fen) input b answer
        ((lawful later (query table fen)).means files input b are answer)

    report_status : (s : Status) → reports.MeansStatus table files s b.text → s ≡ Success
    report_status Success means = refl
    report_status Table means = absurd (never_refused own (asked_fault table files b.text means))
    report_status Missing means = absurd (never_missing own means)
    report_status s means = absurd means

    pub reported_well : (input : List ℕ) → (job_of later (report table)).answers files input b
        → b.status ≡ Success
    reported_well input answer =
        let means : MeansReport table files b = (lawful later (report table)).means files input b
        are answer in
        report_status b.status means.says

    module _ (stays : Stays table files later) where
      -- from the opening on
      abbrev now : ℕ → Files
      now = from_opening files later

      stays_now : Stays table files now
      stays_now zero = refl
      stays_now (suc k) = stays (suc k)

      line_status : (side : Colour) (p : Board) (s : Status)
          → lines.MeansStatus now table side p files s b.text
          → OneOf s (Success ∷ Words ∷ Fen ∷ Outside ∷ [])
      line_status side p Success means = refl
      line_status side p Outside means = refl
      line_status side p Wrong means =
          let has = means.has in
          absurd (means.not_exact (stays_exact now stays_now has.bytes has.contents has.open_file))
      line_status side p Table means = absurd (never_refused own (asked_fault table files b.text means))
      line_status side p Missing means = absurd (never_missing own means)
      line_status side p s means = absurd means

      session_status : (side : Colour) (p : Board) (input : List ℕ) (s : Status)
          → sessions.MeansStatus now table side p files input s b.text
          → OneOf s (Success ∷ Words ∷ Fen ∷ Outside ∷ Limit ∷ [])
      session_status side p input Success means = refl
      session_status side p input Outside means = refl
      session_status side p input Limit means = refl
      session_status side p input Wrong means =
          let has = means.has in
          absurd (means.not_exact (stays_exact now stays_now has.bytes has.contents has.open_file))
      session_status side p input Table means = absurd (never_refused own (asked_fault table files b.text means))
      session_status side p input Missing means = absurd (never_missing own means)
      session_status side p input s means = absurd means

      module _ (fen word : List ℕ) where
        pub lined : Succeeds later (line table fen word) files b
            → TellsTrueLine later table fen word files b.text
        lined h =
            let at = of_words files h.input b h.done (lining_at later table) (side_of word)
            (fen_of fen) h.answer
            ((lawful later (line table fen word)).means files h.input b h.bytes h.answer) in
            let means : MeansLine now table at.0 at.2 files b = at.4 in
            let tells : TellsLine now table at.0 at.2 files b.text =
            subst (λ (s : Status). lines.MeansStatus now table at.0 at.2 files s b.text) h.done
            means.says in
            let has = tells.has in
            record {
              p = at.2;
              read = at.3;
              side = at.0;
              named = at.1;
              tells = tells;
              bound = tells.where_exact
                  (stays_exact now stays_now has.bytes has.contents has.open_file);
            }

        pub lined_well : (input : List ℕ)
            → (job_of later (line table fen word)).answers files input b
            → OneOf b.status (Success ∷ Words ∷ Fen ∷ Outside ∷ [])
        lined_well input answer =
            of_side files input b (λ s. OneOf s (Success ∷ Words ∷ Fen ∷ Outside ∷ [])) refl
            (λ c. on_position (lining_at later table c) (fen_of fen)) (side_of word) answer
            ((lawful later (line table fen word)).means files input b are answer)
            (λ side named given meant.
            of_position files input b (λ s. OneOf s (Success ∷ Words ∷ Fen ∷ Outside ∷ [])) refl
            (lining_at later table side) (fen_of fen) given meant
            (λ p is means. line_status side p b.status means.says))

        pub played : (h : Succeeds later (play table fen word) files b)
            → TellsTrueSession later table fen word files h.input b.text
        played h =
            let at = of_words files h.input b h.done (playing_at later table) (side_of word)
            (fen_of fen) h.answer
            ((lawful later (play table fen word)).means files h.input b h.bytes h.answer) in
            let means : MeansPlay now table at.0 at.2 files h.input b = at.4 in
            let tells : TellsSession now table at.0 at.2 files h.input b.text =
            subst (λ (s : Status). sessions.MeansStatus now table at.0 at.2 files h.input s b.text)
            h.done means.says in
            let has = tells.has in
            let tables = stays_exact now stays_now has.bytes has.contents has.open_file in
            record {
              p = at.2;
              read = at.3;
              side = at.0;
              named = at.1;
              tells = tells;
              bound = tells.where_exact tables;
              safe = tells.safe tables;
            }

        pub played_well : (input : List ℕ)
            → (job_of later (play table fen word)).answers files input b
            → OneOf b.status (Success ∷ Words ∷ Fen ∷ Outside ∷ Limit ∷ [])
        played_well input answer =
            of_side files input b
            (λ s. OneOf s (Success ∷ Words ∷ Fen ∷ Outside ∷ Limit ∷ [])) refl
            (λ c. on_position (playing_at later table c) (fen_of fen)) (side_of word) answer
            ((lawful later (play table fen word)).means files input b are answer)
            (λ side named given meant.
            of_position files input b
            (λ s. OneOf s (Success ∷ Words ∷ Fen ∷ Outside ∷ Limit ∷ [])) refl
            (playing_at later table side) (fen_of fen) given meant
            (λ p is means. session_status side p input b.status means.says))

  -- over an exact table with a back table
  pub chain_queried : (later : ℕ → Files) (table back fen : List ℕ) (files : Files) (b : Answer)
      → ChainHeadline table back files → Succeeds later (chainquery table fen) files b
      → TellsChainedBounds table back fen files b.text
  chain_queried later table back fen files b exact h =
      let at = at_position files h.input b h.done (querying_at (Some Chained) table) (fen_of fen)
      h.answer ((lawful later (chainquery table fen)).means files h.input b h.bytes h.answer)
      in
      let means : MeansQuery (Some Chained) table at.0 files b = at.2 in
      let kept : TellsKept (Some Chained) table at.0 files b.text =
      subst (λ (s : Status). queries.MeansStatus (Some Chained) table at.0 files s b.text) h.done
      means.says in
      let open_file = opening_of Chained table files kept.bytes kept.contents kept.open_file in
      let same = chain_contents table back files exact kept.bytes kept.contents open_file in
      let bounds : TellsBounds kept.contents.rules (chain_value kept.contents.rules exact.behind)
      at.0 b.text = kept.where_exact (chain_value kept.contents.rules exact.behind)
      (chain_tables table back files exact kept.bytes kept.contents open_file) in
      record {
        exact = exact;
        p = at.0;
        read = at.1;
        inside = subst (λ (c : Contents). Member c.rules.groups at.0) (sym same) kept.inside;
        tells = subst (λ (c : Contents). TellsBounds c.rules (chain_value c.rules exact.behind) at.0
            b.text) (sym same) bounds;
      }
