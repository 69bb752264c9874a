-- What the answers of `why` mean.
use Rattle.std.proofs.Common.{◌≡◌, refl, sym, ap, subst, ◌∙◌, ℕ, ◌+◌, ◌*◌, ◌-◌, ◌/◌, Bool, true, false, List, [], ◌++◌, length, Option, Some, None, Ok, append-nil, slice_index, arith}
use Rattle.std.specs.Prelude.{map, MatchBool}
use Rattle.std.proofs.lemmas.Bool.Decides.{nat_tests}
use Rattle.frz_board.specs.Boards.{Board}
use Rattle.frz_board.specs.Men.{other_of}
use Rattle.frz_board.specs.Moving.{Step}
use Rattle.frz_board.specs.declared.man.Colour.{Colour}
use Rattle.frz_sets.specs.declared.exit.Value.{Value}
use Rattle.frz_sets.specs.Views.{RuleLines}
use Rattle.frz_index.specs.Members.{Member, Num}
use Rattle.frz_index.proofs.Lemmas.{member_of, of_member, position_of}
use Rattle.frz_rules.specs.Text.{rules_of}
use Rattle.frz_arena.specs.declared.arm.Arm.{Arm}
use Rattle.frz_arena.specs.declared.bound.Bound.{Bound}
use Rattle.frz_arena.specs.declared.bound.Bound.TheVariants.{Wins, Holds, Fails}
use Rattle.frz_arena.specs.Codes.{code_of, is_failure, is_win}
use Rattle.frz_game.specs.Bounds.{IsTableOf}
use Rattle.frz_game.specs.Games.{graph_by}
use Rattle.frz_game.specs.Numbers.{is_member, position_at}
use Rattle.frz_game.specs.declared.wrong.Wrong.{Wrong as WrongEntry}
use Rattle.frz_store.specs.Files.{Files}
use Rattle.frz_table.specs.Opening.{Contents, own_format}
use Rattle.frz_table.proofs.Lemmas.{belongs}
use Rattle.frz_check.specs.Kept.{kept_codes}
use Rattle.frz_check.specs.KeptTables.{KeepsBound, KeepsTables}
use Rattle.frz_check.proofs.Lemmas.{bound_kept}
use Rattle.frz_atlas_prelude.specs.Behind.{TableBytes, backs_in, leans}
use Rattle.frz_atlas_prelude.specs.Loading.{opened_all}
use Rattle.frz_answer.specs.declared.status.Status.{Status}
use Rattle.frz_answer.specs.declared.status.Status.TheVariants as statuses
use Rattle.frz_answer.specs.Answers.{Answer, says}
use Rattle.frz_bound_lines.specs.BoundLines.{kept_line}
use Rattle.frz_prelude.specs.Refusals.{refusal_line, status_of}
use Rattle.frz_prelude.specs.declared.refused.Refused.TheVariants as refusals
use Rattle.frz_atlas_prelude.specs.OwnFiles.{OpensAsOwn}
use Rattle.frz_atlas_prelude.specs.TableRefusals.{TellsRefusal}
use Rattle.frz_atlas_prelude.proofs.Lemmas.{means_over, refusal_says}
use Rattle.frz_reasons.specs.declared.denial.Denial.{Denial}
use Rattle.frz_reasons.specs.declared.reason.Reason.{Reason}
use Rattle.frz_reasons.specs.declared.reason.Reason.TheVariants.{Wrong, Mated, Renounced, Left}
use Rattle.frz_reasons.specs.Denials.{DeniesWin}
use Rattle.frz_reasons.specs.FailingGames.{EndsAt, HasLeft, IsGameFrom, IsRight, IsSpoiled, position_behind}
use Rattle.frz_reasons.specs.FailingWays.{FailsFrom}
use Rattle.frz_reasons.specs.ReasonTexts.{denials_text, moves_text}
use Rattle.frz_commands_why.specs.declared.decider.Decider.{Decider}
use Rattle.frz_commands_why.specs.Decides.{Decides}
use Rattle.frz_commands_why.specs.Meaning.{MeansStatus, MeansWhy, Opens, TellsAll, TellsBound, TellsNone, wins as wins_told, holds as hold_told, fails as failure_told}
use Rattle.frz_commands_why.specs.Telling.{ToldAt, ToldFailure, ToldOpponent, fails, has_bound, has_none, holds, met_wrong, neither, on_way, why_text, wins}
use Rattle.frz_commands_why.specs.Texts.{end_text, status_by, wrong_in}
use Rattle.frz_commands_why.specs.WhyOf.{IsWhyAnswer, IsWhyAt, IsWhyOver, code_at, decider_behind, value_behind}
use Rattle.frz_commands_why.proofs.BestWay.{BestLaws, best_way}
use Rattle.frz_commands_why.proofs.Deciders.{decider_decides}
use Rattle.frz_commands_why.proofs.DenialsTell.{denials_are, none_wrong}

-- the laws of failing ways on which this rests
pub record WayLaws : Type 0 where
  pub moves : (rules : RuleLines) (value : Board → Value) (side : Colour) (codes : List ℕ)
      (start : ℕ) (arms : List (Arm Step ℕ Value)) (reason : Reason) (p : Board) →
      position_at rules.groups start ≡ Some p →
      FailsFrom (graph_by rules value) side codes start arms reason →
      IsGameFrom rules side p arms
  pub end : (rules : RuleLines) (value : Board → Value) (side : Colour) (codes : List ℕ)
      (start : ℕ) (arms : List (Arm Step ℕ Value)) (reason : Reason) (p : Board) →
      position_at rules.groups start ≡ Some p →
      FailsFrom (graph_by rules value) side codes start arms reason →
      EndsAt rules value side (position_behind p arms) reason
  pub length_is : (rules : RuleLines) (value : Board → Value) (side : Colour) (codes : List ℕ)
      (start n : ℕ) (arms : List (Arm Step ℕ Value)) (reason : Reason) →
      slice_index codes start ≡ 3 + 2 * n →
      FailsFrom (graph_by rules value) side codes start arms reason →
      IsRight reason → length arms ≡ n
  pub right : (rules : RuleLines) (value : Board → Value) (side : Colour) (codes : List ℕ) →
      IsTableOf rules value side codes →
      (start : ℕ) (arms : List (Arm Step ℕ Value)) (reason : Reason) →
      FailsFrom (graph_by rules value) side codes start arms reason → IsRight reason
  pub spoiled : (rules : RuleLines) (value : Board → Value) (side : Colour) (codes : List ℕ)
      (start : ℕ) (arms : List (Arm Step ℕ Value)) (reason : Reason) →
      is_failure (slice_index codes start) ≡ true →
      FailsFrom (graph_by rules value) side codes start arms reason → IsSpoiled side reason
  pub best : BestLaws

failure_plies : (c : ℕ) → is_failure c ≡ true → c ≡ 3 + 2 * ((c - 3) / 2)
failure_plies c f = grind (arith, nat_tests)

win_plies : (c : ℕ) → is_win c ≡ true → c ≡ 2 + 2 * ((c - 2) / 2)
win_plies c w = grind (arith, nat_tests)

-- no code of a bound is 0
bound_some : (b : Bound) → code_of b ≡ 0 → ⊥
bound_some (Wins n) e = omega arith
bound_some Holds e = omega arith
bound_some (Fails m) e = omega arith

empty_end_dropped : (line text : List ℕ) → line ++ (text ++ []) ≡ line ++ text
empty_end_dropped line text = ap (λ (l : List ℕ). line ++ l) (append-nil text)

wrong_is_not_right : (w : WrongEntry) → IsRight (Wrong w) → ⊥
wrong_is_not_right w h = h

module _ (laws : WayLaws) (table : List ℕ) (behind : List (List ℕ)) (side : Colour) (p : Board)
    (files : Files) (a : Answer) where
  means_so : (status : Status) (text : List ℕ) → a ≡ says status text files
      → MeansStatus table behind side p files a status → MeansWhy table behind side p files a
  means_so status text e means = record {
    same = ap (λ (x : Answer). x.files) e;
    untaken = ap (λ (x : Answer). x.taken) e;
    says = subst (λ (s : Status). MeansStatus table behind side p files a s)
        (sym (ap (λ (x : Answer). x.status) e)) means;
  }

  -- TABLE and the BACKs open, and the position is in the set
  module _ (open_all : Opens table behind files)
      (accepted : rules_of open_all.contents.text ≡ Ok open_all.contents.rules)
      (inside : Member open_all.contents.rules.groups p) where
    abbrev rules : RuleLines
    rules = open_all.contents.rules

    abbrev kept : Colour → List ℕ
    kept = kept_codes open_all.contents open_all.bytes

    abbrev value : Board → Value
    value = value_behind open_all.contents open_all.bytes open_all.tables

    abbrev decider : Board → Decider
    decider = decider_behind open_all.contents open_all.bytes open_all.tables

    abbrev number : ℕ
    number = Num rules.groups p

    abbrev code : ℕ
    code = code_at open_all.contents open_all.bytes side p

    number_gives_position : position_at rules.groups number ≡ Some p
    number_gives_position = position_of rules.groups number p
        (record { member = inside; number = refl })

    where_exact : KeepsTables value open_all.contents open_all.bytes → (q : Board)
        → Member rules.groups q
        → KeepsBound rules value side q (code_at open_all.contents open_all.bytes side q)
    where_exact exact q there = bound_kept value open_all.contents open_all.bytes exact side q there

    means_bound : a.text ≡ a.text → TellsBound open_all.contents open_all.bytes open_all.tables side
        p a.text → TellsAll table behind side p files a.text
    means_bound same bound = record {
      open_all = open_all;
      inside = inside;
      bound = bound;
      where_exact = where_exact;
    }

    means_wrong : (lines : List ℕ) (w : WrongEntry)
        → ToldAt rules value side kept decider number lines (Some w)
        → a ≡ says (status_by (Some w)) (why_text side code lines (Some w)) files
        → (KeepsTables value open_all.contents open_all.bytes → ⊥)
        → MeansWhy table behind side p files a
    means_wrong lines w told e never =
        means_so statuses.Wrong (why_text side code lines (Some w)) e (record {
          open_all = open_all;
          inside = inside;
          lines = lines;
          wrong = w;
          told = told;
          text_is = ap (λ (x : Answer). x.text) e;
          not_exact = never;
        })

    means_told : (text : List ℕ)
        → a ≡ says (status_by None) (why_text side code text None) files
        → TellsBound open_all.contents open_all.bytes open_all.tables side p a.text
        → MeansWhy table behind side p files a
    means_told text e bound =
        means_so statuses.Success (why_text side code text None) e (means_bound refl bound)

    text_is : (text : List ℕ)
        → a ≡ says (status_by None) (why_text side code text None) files
        → a.text ≡ kept_line side code ++ text
    text_is text e = ap (λ (x : Answer). x.text) e ∙ empty_end_dropped (kept_line side code) text

    -- what decided a value outside
    decided_so : (q : Board) (v : Value) → v ≡ value q
        → Decides (leans open_all.bytes) open_all.contents.text rules (backs_in open_all.tables) q v
        (decider q)
    decided_so q v is =
        subst (λ (w : Value). Decides (leans open_all.bytes) open_all.contents.text rules
        (backs_in open_all.tables) q w (decider q)) (sym is)
        (decider_decides open_all.contents.text rules accepted (leans open_all.bytes)
        (backs_in open_all.tables) q)

    decided_at : (who : Colour) (reason : Reason) (q : Board) → EndsAt rules value who q reason
        → (n : ℕ) (m : Step) (v : Value) → reason ≡ Left n m v
        → Decides (leans open_all.bytes) open_all.contents.text rules (backs_in open_all.tables) q v
        (decider q)
    decided_at who reason q ends n m v is =
        let left : HasLeft rules value n m v q =
        subst (λ (r : Reason). EndsAt rules value who q r) is ends in
        decided_so q v left.valued

    -- a side without a bound, the one that is asked about or its opponent
    module _ (who : Colour) where
      abbrev bound_code : ℕ
      bound_code = code_at open_all.contents open_all.bytes who p

      abbrev FailsSo : List (Arm Step ℕ Value) → Reason → Type 0
      FailsSo = FailsFrom (graph_by rules value) who (kept who) number

      abbrev none_text : List (Arm Step ℕ Value) → Reason → List ℕ
      none_text arms reason =
          kept_line who bound_code ++ (moves_text arms ++ end_text rules.groups decider reason)

      none_told : is_failure bound_code ≡ true → (arms : List (Arm Step ℕ Value)) (reason : Reason)
          → FailsSo arms reason → IsRight reason → (text : List ℕ) → text ≡ none_text arms reason
          → TellsNone open_all.contents open_all.bytes open_all.tables who p text
      none_told failing arms reason way right text told =
          let plies = failure_plies bound_code failing in
          let ends = laws.end rules value who (kept who) number arms reason p number_gives_position
          way in
          record {
            plies = (bound_code - 3) / 2;
            none = plies;
            arms = arms;
            reason = reason;
            way = way;
            right = right;
            many = laws.length_is rules value who (kept who) number ((bound_code - 3) / 2) arms
                reason plies way right;
            game = laws.moves rules value who (kept who) number arms reason p number_gives_position
                way;
            ends = ends;
            spoiled = laws.spoiled rules value who (kept who) number arms reason failing way;
            decided = decided_at who reason (position_behind p arms) ends;
            told = told;
            best = λ exact. best_way laws.best rules value who (kept who) (exact who) number arms
                reason failing way;
          }

      never_wrong : (arms : List (Arm Step ℕ Value)) (w : WrongEntry) → FailsSo arms (Wrong w)
          → KeepsTables value open_all.contents open_all.bytes → ⊥
      never_wrong arms w way exact =
          laws.right rules value who (kept who) (exact who) number arms (Wrong w) way

    by_reason : is_failure code ≡ true → (arms : List (Arm Step ℕ Value)) (reason : Reason)
        → FailsSo side arms reason
        → a ≡ says (status_by (wrong_in reason)) (why_text side code
        (moves_text arms ++ end_text rules.groups decider reason) (wrong_in reason)) files
        → MeansWhy table behind side p files a
    by_reason failing arms (Wrong w) way e =
        means_wrong _ w (fails failing _ _ (on_way arms (Wrong w) way)) e
        (never_wrong side arms w way)
    by_reason failing arms Mated way e =
        means_told _ e (failure_told
        (none_told side failing arms Mated way tt a.text (text_is _ e)))
    by_reason failing arms Renounced way e =
        means_told _ e (failure_told
        (none_told side failing arms Renounced way tt a.text (text_is _ e)))
    by_reason failing arms (Left n m v) way e =
        means_told _ e (failure_told
        (none_told side failing arms (Left n m v) way tt a.text (text_is _ e)))

    -- what is told of the opponent of a side that holds
    module _ (hold : code ≡ 1) (denials : List Denial)
        (denied : DeniesWin (graph_by rules value) side (kept side) number denials None) where
      abbrev Behind : List ℕ → Type 0
      Behind text = MatchBool (is_failure (bound_code (other_of side)))
          (TellsNone open_all.contents open_all.bytes open_all.tables (other_of side) p text)
          (text ≡ [])

      hold_so : (text : List ℕ) → Behind text
          → a ≡ says (status_by None) (why_text side code (denials_text denials ++ text) None) files
          → MeansWhy table behind side p files a
      hold_so text told e =
          means_told (denials_text denials ++ text) e (hold_told (record {
            hold = hold;
            denials = denials;
            rows = denials_are rules value side (kept side) number p number_gives_position denials
                None denied refl;
            behind = text;
            opponent = told;
            told = text_is (denials_text denials ++ text) e;
          }))

      none_so : is_failure (bound_code (other_of side)) ≡ true → (arms : List (Arm Step ℕ Value))
          (reason : Reason) → FailsSo (other_of side) arms reason → IsRight reason
          → Behind (none_text (other_of side) arms reason)
      none_so failing arms reason way right =
          subst (λ (b : Bool). MatchBool b
          (TellsNone open_all.contents open_all.bytes open_all.tables (other_of side) p
          (none_text (other_of side) arms reason))
          (none_text (other_of side) arms reason ≡ [])) (sym failing)
          (none_told (other_of side) failing arms reason way right _ refl)

      by_opponent : (failing : is_failure (bound_code (other_of side)) ≡ true)
          → (arms : List (Arm Step ℕ Value)) (reason : Reason)
          → FailsSo (other_of side) arms reason
          → a ≡ says (status_by (wrong_in reason)) (why_text side code
          (denials_text denials ++ none_text (other_of side) arms reason) (wrong_in reason)) files
          → MeansWhy table behind side p files a
      by_opponent failing arms (Wrong w) way e =
          means_wrong _ w (holds hold denials None denied _ _
          (has_none failing _ _ (on_way arms (Wrong w) way))) e
          (never_wrong (other_of side) arms w way)
      by_opponent failing arms Mated way e =
          hold_so _ (none_so failing arms Mated way tt) e
      by_opponent failing arms Renounced way e =
          hold_so _ (none_so failing arms Renounced way tt) e
      by_opponent failing arms (Left n m v) way e =
          hold_so _ (none_so failing arms (Left n m v) way tt) e

      by_way : is_failure (bound_code (other_of side)) ≡ true → (text : List ℕ)
          (w : Option WrongEntry)
          → ToldFailure rules value (other_of side) (kept (other_of side)) decider number text w
          → a ≡ says (status_by w) (why_text side code
          (denials_text denials ++ (kept_line (other_of side) (bound_code (other_of side)) ++ text))
          w) files
          → MeansWhy table behind side p files a
      by_way failing text w (on_way arms reason way) e = by_opponent failing arms reason way e

      bound_so : is_failure (bound_code (other_of side)) ≡ false → Behind []
      bound_so stays =
          let empty : List ℕ = [] in
          subst (λ (b : Bool). MatchBool b
          (TellsNone open_all.contents open_all.bytes open_all.tables (other_of side) p empty)
          (empty ≡ [])) (sym stays) refl

    by_hold : code ≡ 1 → (denials : List Denial) (met : Option WrongEntry)
        → DeniesWin (graph_by rules value) side (kept side) number denials met
        → (text : List ℕ) (w : Option WrongEntry)
        → ToldOpponent rules value (other_of side) (kept (other_of side)) decider number met text w
        → a ≡ says (status_by w) (why_text side code (denials_text denials ++ text) w) files
        → MeansWhy table behind side p files a
    by_hold hold denials (Some m) denied text w (met_wrong x) e =
        means_wrong _ m (holds hold denials (Some m) denied [] (Some m) (met_wrong m)) e
        (λ exact. none_wrong rules value side (kept side) number p number_gives_position
        (exact side) denials m denied)
    by_hold hold denials None denied text w (has_bound stays) e =
        hold_so hold denials denied [] (bound_so hold denials denied stays) e
    by_hold hold denials None denied text w (has_none failing t x told) e =
        by_way hold denials denied failing t x told e

    by_failure : is_failure code ≡ true → (text : List ℕ) (w : Option WrongEntry)
        → ToldFailure rules value side (kept side) decider number text w
        → a ≡ says (status_by w) (why_text side code text w) files
        → MeansWhy table behind side p files a
    by_failure failing text w (on_way arms reason way) e = by_reason failing arms reason way e

    by_told : (text : List ℕ) (w : Option WrongEntry)
        → ToldAt rules value side kept decider number text w
        → a ≡ says (status_by w) (why_text side code text w) files
        → MeansWhy table behind side p files a
    by_told text w (wins win) e =
        means_told [] e (wins_told (record {
          plies = (code - 2) / 2;
          win = win_plies code win;
          told = text_is [] e ∙ append-nil (kept_line side code);
        }))
    by_told text w (holds hold denials met denied t x told) e =
        by_hold hold denials met denied t x told e
    by_told text w (fails failing t x told) e = by_failure failing t x told e
    by_told text w (neither zero) e =
        means_wrong [] _ (neither zero) e
        (λ exact. let b = where_exact exact p inside in bound_some b.bound (sym b.is ∙ zero))

  -- TABLE and the BACKs open
  by_member : (open_all : Opens table behind files)
      → rules_of open_all.contents.text ≡ Ok open_all.contents.rules → (b : Bool)
      → is_member open_all.contents.rules.groups p ≡ b
      → MatchBool b (IsWhyAnswer open_all.contents open_all.bytes open_all.tables side p files a)
      (a ≡ says (status_of refusals.Outside) (refusal_line refusals.Outside) files)
      → MeansWhy table behind side p files a
  by_member open_all accepted true t h =
      by_told open_all accepted (member_of open_all.contents.rules.groups p t) h.text h.wrong h.told
      h.is
  by_member open_all accepted false t h =
      means_so statuses.Outside (refusal_line refusals.Outside) h (record {
        open_all = open_all;
        outside = λ member. (let no : true ≡ false =
            sym (of_member open_all.contents.rules.groups p member) ∙ t in cc);
        told = ap (λ (x : Answer). x.text) h;
      })

  opened_means : (bytes : List ℕ) (contents : Contents) (tables : List TableBytes)
      → OpensAsOwn table files bytes contents → opened_all (map files behind) ≡ Ok tables
      → IsWhyOver side p files contents bytes tables a → MeansWhy table behind side p files a
  opened_means bytes contents tables open_file are h =
      by_member (record {
        bytes = bytes;
        contents = contents;
        open_file = open_file;
        tables = tables;
        all_open = are;
      }) (belongs own_format bytes contents open_file.opens).read
      (is_member contents.rules.groups p) refl h

  refused_means : TellsRefusal table behind files a → MeansWhy table behind side p files a
  refused_means r =
      let says = refusal_says (λ s. MeansStatus table behind side p files a s) r r r in
      record { same = says.0; untaken = says.1; says = says.2 }

  pub why_means : IsWhyAt table behind side p files a → MeansWhy table behind side p files a
  why_means =
      means_over (IsWhyOver side p files) table behind files a (MeansWhy table behind side p files a)
      opened_means refused_means
