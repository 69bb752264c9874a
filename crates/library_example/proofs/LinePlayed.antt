-- What was written and answered of a line, whole or as far as the sink took it.
use Rattle.std.proofs.Common.{◌≡◌, ◌++◌, ℕ, List, [], Result, Ok, Err, append-nil, refl, sym, subst, ap, ◌∙◌}
use Rattle.frz_board.specs.declared.man.Colour.{Colour}
use Rattle.frz_board.specs.Boards.{Board}
use Rattle.frz_sets.specs.Views.{RuleLines}
use Rattle.frz_store.specs.Told.{SinkTold}
use Rattle.frz_answer.specs.Texts.{TookText}
use Rattle.frz_answer.proofs.Lemmas.{failed_before}
use Rattle.frz_index.specs.Members.{Member, Num}
use Rattle.frz_arena.specs.declared.bound.Bound.{Bound}
use Rattle.frz_arena.specs.Codes.{code_of}
use Rattle.frz_arena.specs.WayCases.{Way}
use Rattle.frz_exits.specs.Books.{value_by}
use Rattle.frz_game.specs.Bounds.{IsBoundAt, IsTableOf}
use Rattle.frz_game.specs.Games.{graph_by}
use Rattle.frz_ways.specs.declared.end.LineFault.TheVariants as faults
use Rattle.frz_ways.specs.declared.hearing.Reader.{Reader}
use Rattle.frz_ways.specs.declared.opponent.Opponent.TheVariants.{Codes}
use Rattle.frz_ways.specs.declared.session_end.PlayFault.{PlayFault}
use Rattle.frz_ways.specs.declared.session_end.PlayFault.TheVariants as plays
use Rattle.frz_ways.specs.declared.way_end.Finish.{Finish}
use Rattle.frz_ways.specs.PlayLoaded.{IsSettled, PlaysLoaded}
use Rattle.frz_ways.specs.Reading.{Input}
use Rattle.frz_ways.specs.SessionFaults.{WroteBy}
use Rattle.frz_ways.specs.WayEnds.{Finishes, IsFinishOf, ended, told}
use Rattle.frz_ways.specs.WayTexts.{way_text}
use Rattle.frz_ways.specs.Ways.{WayPly, EndOfWay, GoesOn, way_player}
use Rattle.library_example.specs.Lines.{AnswersEnd, KeepsBound, PlaysLine}
use Rattle.library_example.proofs.KeptCodes.{code_of_bound}

module _ (side : Colour) (end : EndOfWay) (text rest unread whole : List ℕ) (out taken : SinkTold)
    (is : text ++ rest ≡ whole) where
  took_whole : TookText text out taken → rest ≡ [] → TookText whole out taken
  took_whole took none =
      subst (λ (l : List ℕ). TookText l out taken)
      (sym (append-nil text) ∙ (ap (λ (l : List ℕ). text ++ l) (sym none) ∙ is)) took

  -- the whole text was written and the end answered, unless the sink failed
  line_written : (result : Result Finish PlayFault)
      → Finishes (ended result) (told side end) rest unread → IsFinishOf result Codes
      → IsSettled result → WroteBy result text out taken
      → WroteBy result whole out taken × AnswersEnd side end result
  line_written (Ok finish) finishes kind settled wrote = (took_whole wrote finishes.1, finishes.0)
  line_written (Err (plays.Line faults.Outside)) finishes kind settled wrote = absurd settled
  line_written (Err (plays.Line faults.NoBound)) finishes kind settled wrote =
      (took_whole wrote finishes.1, finishes.0)
  line_written (Err (plays.Line (faults.Wrong wrong))) finishes kind settled wrote =
      (took_whole wrote finishes.1, finishes.0)
  line_written (Err (plays.Line faults.Store)) finishes kind settled wrote = absurd settled
  line_written (Err (plays.Line faults.Output)) finishes kind settled wrote =
      (failed_before text rest whole out taken wrote is, tt)
  line_written (Err (plays.Line faults.NoMemory)) finishes kind settled wrote = absurd settled
  line_written (Err plays.Input) finishes kind settled wrote = absurd (cc)
  line_written (Err (plays.Limit limit)) finishes kind settled wrote = absurd (cc)

module _ (rules : RuleLines) (side : Colour) (codes : List ℕ)
    (table : IsTableOf rules (value_by rules) side codes) (p : Board)
    (inside : Member rules.groups p) (bound : Bound)
    (has : IsBoundAt rules (value_by rules) side p bound) where
  -- a line that keeps the bound is there, whatever is left of the input
  abbrev pub KeptLine : Type 0
  KeptLine =
      (input : Input) → (plies : List WayPly) × (end : EndOfWay) × (left : Input)
      × GoesOn (graph_by rules (value_by rules)) Codes side (λ k. codes) 0 input
      (Num rules.groups p) plies end left
      × KeepsBound rules side p bound plies end

  -- a way by recursion is one by the named cases
  abbrev pub ByCases : Type 0
  ByCases =
      (input : Input) (plies : List WayPly) (end : EndOfWay) (left : Input)
      → GoesOn (graph_by rules (value_by rules)) Codes side (λ k. codes) 0 input
      (Num rules.groups p) plies end left
      → Way (way_player (graph_by rules (value_by rules)) Codes side (λ k. codes)) 0 input
      (0, Num rules.groups p) plies end left

  -- and what is played from the position's number is that line
  pub line_played : (start : ℕ) (old new : Reader) (bytes text : List ℕ)
      (result : Result Finish PlayFault) (before now : ℕ) (out taken : SinkTold)
      → start ≡ Num rules.groups p
      → PlaysLoaded (graph_by rules (value_by rules)) Codes side codes start old new bytes text result
      before now → WroteBy result text out taken → IsFinishOf result Codes → IsSettled result
      → KeptLine → ByCases → PlaysLine rules side p bound result out taken
  line_played start old new bytes text result before now out taken number plays wrote kind settled
      kept cases =
      let input : Input = record { left = bytes ++ []; more = old.more } in
      let line = kept input in
      let plies = line.0 in
      let end = line.1 in
      let played = (subst (λ n. PlaysLoaded (graph_by rules (value_by rules)) Codes side codes n old
      new bytes text result before now) number plays [] (λ e. refl) plies end line.2 line.3).0 in
      let told = line_written side end text played.rest played.unread
      (way_text Codes side (code_of bound) plies end) out taken
      (played.begins
      ∙ ap (λ k. way_text Codes side k plies end)
      (code_of_bound rules side codes table p inside bound has)) result played.finishes kind settled
      wrote in
      record {
        plies = plies;
        end = end;
        line = record {
          codes = codes;
          table = table;
          input = input;
          left = line.2;
          goes_on = cases input plies end line.2 line.3;
        };
        keeps = line.4;
        wrote = told.0;
        answers = told.1;
      }
