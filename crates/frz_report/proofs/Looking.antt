-- What is counted and written at one more number.
use Rattle.std.proofs.Common.{◌≡◌, refl, sym, ap, subst, ◌∙◌, ℕ, ◌+◌, ◌*◌, ◌≤◌, List, ◌++◌, length, Option, Some, None, Result, Ok, Err, append-nil, length-append, arith}
use Rattle.std.specs.Prelude.{OnOk}
use Rattle.std.specs.Result.{IsErrAnd}
use Rattle.arrayvec.specs.ArrayString.{ArrayString}
use Rattle.frz_board.specs.declared.man.Colour.{Colour}
use Rattle.frz_board.specs.Boards.{Board}
use Rattle.frz_board.specs.Moving.{Step}
use Rattle.frz_sets.specs.declared.exit.Value.{Value}
use Rattle.frz_sets.specs.Views.{GroupLine, RuleLines}
use Rattle.frz_arena.specs.declared.arm.Arm.{Arm}
use Rattle.frz_index.specs.Membership.{position_at}
use Rattle.frz_game.specs.Games.{graph_by}
use Rattle.frz_store.specs.Told.{SinkTold}
use Rattle.frz_answer.specs.Texts.{TookText, FailedWithin}
use Rattle.frz_answer.proofs.Lemmas.{took_nothing}
use Rattle.frz_report.specs.declared.fault.ReportFault.{ReportFault}
use Rattle.frz_report.specs.declared.fault.ReportFault.TheVariants.{NoMemory, Output}
use Rattle.frz_report.specs.Exits.{class_of, classes_after, exits_below, positions_after, positions_below, seen_after, seen_below}
use Rattle.frz_report.specs.Squeezes.{squeeze_at, squeeze_on}
use Rattle.frz_report.specs.Walks.{Counts, KeepsFirsts, WritesSome, line_of, one_of}
use Rattle.frz_report.proofs.Walking.{few_classes, front_nothing, no_squeeze_there, none_seen_there, seen_more, seen_there, squeeze_there}

-- what holds of a fault holds of the result that passes it on
pub holds_of_known_fault : {T : Type 0} (P : Result T ReportFault → Type 0) (fault : ReportFault)
    (result : Result T ReportFault) → IsErrAnd result (λ e. e ≡ fault) → P (Err fault) → P result
holds_of_known_fault P fault (Ok x) h p = absurd h
holds_of_known_fault P fault (Err e) h p = subst (λ (f : ReportFault). P (Err f)) (sym h) p

pub weaker_holds_on_ok : {T E : Type 0} (P Q : Type 0) (r : Result T E) → (P → Q) → OnOk r P
    → OnOk r Q
weaker_holds_on_ok P Q (Ok x) f h = f h
weaker_holds_on_ok P Q (Err e) f h = tt

-- the position of a number, by a set of the rules' groups
pub position_here : (set groups : List GroupLine) (i : ℕ) (o : Option Board) → set ≡ groups
    → o ≡ position_at set i → position_at groups i ≡ o
position_here set groups i o fits e =
    ap (λ (g : List GroupLine). position_at g i) (sym fits) ∙ sym e

module _ (rules : RuleLines) (value : Board → Value) (n : ℕ) where
  abbrev exits : ℕ → List (List ℕ)
  exits k = exits_below rules value k

  module _ (p : Board) (arms : List (Arm Step ℕ Value))
      (there : position_at rules.groups n ≡ Some p)
      (are : arms ≡ (graph_by rules value).arms n) where
    seen_of_one_more : {X : Type 0} (see : Board → X)
        → seen_below see rules value n ++ seen_after see p arms ≡ seen_below see rules value (n + 1)
    seen_of_one_more {X} see =
        ap (λ (l : List (Arm Step ℕ Value)). seen_below see rules value n ++ seen_after see p l) are
        ∙ ap (λ (l : List X). seen_below see rules value n ++ l)
        (sym (seen_there see rules value n p there))
        ∙ sym (seen_more see rules value n)

    exits_of_one_more : exits n ++ classes_after p arms ≡ exits (n + 1)
    exits_of_one_more = seen_of_one_more class_of

    pub firsts_more : (entries more : List (ArrayString × ℕ)) (firsts grown : List Board)
        → ((exits : List Board) → KeepsFirsts entries firsts exits
        → KeepsFirsts more grown (exits ++ positions_after p arms))
        → KeepsFirsts entries firsts (positions_below rules value n)
        → KeepsFirsts more grown (positions_below rules value (n + 1))
    firsts_more entries more firsts grown keeps before =
        subst (KeepsFirsts more grown) (seen_of_one_more (λ q. q))
        (keeps (positions_below rules value n) before)

    pub counted_more : (entries more : List (ArrayString × ℕ))
        → ((exits : List (List ℕ)) → Counts entries exits
        → Counts more (exits ++ classes_after p arms))
        → Counts entries (exits n) → Counts more (exits (n + 1))
    counted_more entries more counts before = subst (Counts more) exits_of_one_more
        (counts (exits n) before)

    pub total_more : (before now : ℕ) → before ≡ length (exits n)
        → now ≡ before + length (classes_after p arms) → now ≡ length (exits (n + 1))
    total_more before now e h =
        h ∙ ap (λ (k : ℕ). k + length (classes_after p arms)) e
        ∙ sym (length-append (exits n) (classes_after p arms)) ∙ ap length exits_of_one_more

  pub few_with_one_more : (p : Board) (arms : List (Arm Step ℕ Value)) (before now : ℕ)
      → length arms ≤ 1024
      → before ≤ 1024 * n → now ≡ before + length (classes_after p arms) → now ≤ 1024 * (n + 1)
  few_with_one_more p arms before now few low h = let some = few_classes p arms in omega arith

  module _ (none : position_at rules.groups n ≡ None) where
    same_seen : {X : Type 0} (see : Board → X)
        → seen_below see rules value n ≡ seen_below see rules value (n + 1)
    same_seen {X} see =
        sym (append-nil (seen_below see rules value n))
        ∙ ap (λ (l : List X). seen_below see rules value n ++ l)
        (sym (none_seen_there see rules value n none)) ∙ sym (seen_more see rules value n)

    same_exits : exits n ≡ exits (n + 1)
    same_exits = same_seen class_of

    pub firsts_same : (entries : List (ArrayString × ℕ)) (firsts : List Board)
        → KeepsFirsts entries firsts (positions_below rules value n)
        → KeepsFirsts entries firsts (positions_below rules value (n + 1))
    firsts_same entries firsts h = subst (KeepsFirsts entries firsts) (same_seen (λ q. q)) h

    pub counts_same : (entries : List (ArrayString × ℕ)) → Counts entries (exits n)
        → Counts entries (exits (n + 1))
    counts_same entries h = subst (Counts entries) same_exits h

    pub total_same : (total : ℕ) → total ≡ length (exits n) → total ≡ length (exits (n + 1))
    total_same total h = h ∙ ap length same_exits

module _ (groups : List GroupLine) (codes : Colour → List ℕ) (n : ℕ) where
  -- a broken number has no squeeze
  pub nothing_here : (out : SinkTold) → position_at groups n ≡ None
      → WritesSome (Ok 0) (line_of (squeeze_at groups codes n)) (one_of (squeeze_at groups codes n))
      out out
  nothing_here out none =
      subst (λ o. WritesSome (Ok 0) (line_of o) (one_of o) out out)
      (sym (no_squeeze_there groups codes n none)) (refl, took_nothing out)

  module _ (p : Board) (there : position_at groups n ≡ Some p) (old new : SinkTold) where
    -- its squeeze was written, or the sink failed within its line
    pub written_here : (many : ℕ) → many ≡ one_of (squeeze_on groups codes n p)
        → TookText (line_of (squeeze_on groups codes n p)) old new
        → WritesSome (Ok many) (line_of (squeeze_at groups codes n))
        (one_of (squeeze_at groups codes n)) old new
    written_here many is took =
        subst (λ o. WritesSome (Ok many) (line_of o) (one_of o) old new)
        (sym (squeeze_there groups codes n p there)) (is, took)

    pub failed_here : FailedWithin (line_of (squeeze_on groups codes n p)) old new
        → WritesSome (Err Output) (line_of (squeeze_at groups codes n))
        (one_of (squeeze_at groups codes n)) old new
    failed_here failed =
        subst (λ o. WritesSome (Err Output) (line_of o) (one_of o) old new)
        (sym (squeeze_there groups codes n p there)) failed

  pub wanted_here : (out : SinkTold)
      → WritesSome (Err NoMemory) (line_of (squeeze_at groups codes n))
      (one_of (squeeze_at groups codes n)) out out
  wanted_here out = front_nothing (line_of (squeeze_at groups codes n)) out
