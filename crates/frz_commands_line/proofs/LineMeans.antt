-- What the answers of `line` mean.
use Rattle.std.proofs.Common.{◌≡◌, inl, inr, ℕ, ◌+◌, ◌*◌, ◌≤◌, List, [], length, Ok, refl, sym, ap, subst, ◌∙◌}
use Rattle.std.specs.Prelude.{slice_index, MatchOption}
use Rattle.frz_board.specs.declared.man.Colour.{Colour}
use Rattle.frz_board.specs.Boards.{Board}
use Rattle.frz_sets.specs.declared.exit.Value.{Value}
use Rattle.frz_sets.specs.Views.{RuleLines}
use Rattle.frz_exits.specs.Books.{value_by}
use Rattle.frz_exits.specs.Values.{lag_of}
use Rattle.frz_index.specs.Members.{Member, Num}
use Rattle.frz_index.proofs.Lemmas.{position_of}
use Rattle.frz_arena.specs.Counted.{counted}
use Rattle.frz_arena.specs.WayEnds.{Wrong, NoBound, Mated, Stalemated, Exit, Cut, Stopped, EndsWon, EndsDrawn}
use Rattle.frz_game.specs.Bounds.{IsTableOf}
use Rattle.frz_game.specs.Games.{graph_by}
use Rattle.frz_game.specs.Numbers.{position_at}
use Rattle.frz_store.specs.Files.{Files}
use Rattle.frz_table.specs.Opening.{Contents}
use Rattle.frz_check.proofs.Lemmas.{bound_kept}
use Rattle.frz_answer.specs.declared.status.Status.{Status}
use Rattle.frz_answer.specs.declared.status.Status.TheVariants as statuses
use Rattle.frz_answer.specs.Answers.{Answer, says}
use Rattle.frz_prelude.specs.TableFiles.{OpensAs}
use Rattle.frz_ways.specs.declared.end.LineEnd.{LineEnd}
use Rattle.frz_ways.specs.declared.end.LineEnd.TheVariants as ends
use Rattle.frz_ways.specs.declared.end.TheConstants.{LINE_LIMIT}
use Rattle.frz_ways.specs.declared.opponent.Opponent.TheVariants.{Codes}
use Rattle.frz_ways.specs.ChessGames.{IsGame}
use Rattle.frz_ways.specs.Ends.{told}
use Rattle.frz_ways.specs.Lines.{LinePly, EndOfLine, IsLine}
use Rattle.frz_commands_line.specs.LineEnds.{end_status}
use Rattle.frz_commands_line.specs.Later.{held_later}
use Rattle.frz_commands_line.specs.LineOf.{codes_later, told_text, IsLined}
use Rattle.frz_commands_line.specs.LineMeaning.{KeepsWin, KeepsHold, HasLine, start_code, MeansStatus, MeansLine}
use Rattle.frz_commands_line.specs.WayOf.{IsToldAt}
use Rattle.frz_commands_line.proofs.Meaning.{means_by}

-- what the laws say of all lines
pub record LineLaws : Type 0 where
  pub game : (rules : RuleLines) (value : Board → Value) (side : Colour) (codes : ℕ → List ℕ)
      (start : ℕ) (plies : List LinePly) (end : EndOfLine)
      → IsLine rules value side codes start plies end
      → MatchOption (position_at rules.groups start) (plies ≡ [])
      (λ p. IsGame rules side p plies)
  pub short : (rules : RuleLines) (value : Board → Value) (side : Colour) (codes : ℕ → List ℕ)
      (start n : ℕ) (plies : List LinePly) (end : EndOfLine)
      → slice_index (codes 0) start ≡ 2 + 2 * n → IsLine rules value side codes start plies end
      → length plies ≤ n
  pub won : (rules : RuleLines) (value : Board → Value) (side : Colour) (codes : ℕ → List ℕ)
      (start n : ℕ) (plies : List LinePly) (end : EndOfLine)
      → slice_index (codes 0) start ≡ 2 + 2 * n → IsLine rules value side codes start plies end
      → EndsWon (counted (graph_by rules value)) side end
  pub mate : (rules : RuleLines) (value : Board → Value) (side mover : Colour) (codes : ℕ → List ℕ)
      (start n : ℕ) (plies : List LinePly)
      → slice_index (codes 0) start ≡ 2 + 2 * n
      → IsLine rules value side codes start plies (Mated mover) → length plies ≡ n
  pub exit : (rules : RuleLines) (value : Board → Value) (side : Colour) (codes : ℕ → List ℕ)
      (start n : ℕ) (plies : List LinePly) (v : Value)
      → slice_index (codes 0) start ≡ 2 + 2 * n → IsLine rules value side codes start plies (Exit v)
      → length plies + lag_of v ≡ n
  pub drawn : (rules : RuleLines) (value : Board → Value) (side : Colour) (codes : ℕ → List ℕ)
      (start : ℕ) (plies : List LinePly) (end : EndOfLine)
      → slice_index (codes 0) start ≡ 1 → IsLine rules value side codes start plies end
      → EndsDrawn (counted (graph_by rules value)) side end
  pub few : (rules : RuleLines) (value : Board → Value) (side : Colour) (codes : ℕ → List ℕ)
      (start : ℕ)
      (plies : List LinePly) (end : EndOfLine)
      → slice_index (codes 0) start ≡ 1 → IsLine rules value side codes start plies end
      → length plies ≤ LINE_LIMIT
  pub cut : (rules : RuleLines) (value : Board → Value) (side : Colour) (codes : ℕ → List ℕ)
      (start : ℕ)
      (plies : List LinePly)
      → slice_index (codes 0) start ≡ 1 → IsLine rules value side codes start plies Cut
      → length plies ≡ LINE_LIMIT
  pub right : (rules : RuleLines) (value : Board → Value) (side : Colour) (codes : ℕ → List ℕ)
      → ((k : ℕ) → IsTableOf rules value side (codes k))
      → (p : Board) → Member rules.groups p → (plies : List LinePly) (at : ℕ × ℕ) (kept given : ℕ)
      → IsLine rules value side codes (Num rules.groups p) plies (Wrong at kept given) → ⊥

-- from the number of a position of the set it is a game from this position
pub game_inside : (rules : RuleLines) (side : Colour) (p : Board) (plies : List LinePly)
    → Member rules.groups p → MatchOption (position_at rules.groups (Num rules.groups p))
    (plies ≡ []) (λ q. IsGame rules side q plies) → IsGame rules side p plies
game_inside rules side p plies inside h =
    subst (λ o. MatchOption o (plies ≡ []) (λ q. IsGame rules side q plies))
    (position_of rules.groups (Num rules.groups p) p (record { member = inside; number = refl })) h

module _ (laws : LineLaws) (later : ℕ → Files) (name : List ℕ) (side : Colour) (p : Board)
    (files : Files) where
  abbrev held : ℕ → List ℕ
  held = held_later later name

  -- a line from a win or a hold
  keeps_win : (has : HasLine later name side p files) (n : ℕ) → start_code has ≡ 2 + 2 * n
      → KeepsWin has.contents.rules side n has.plies has.end
  keeps_win has n e =
      let rules = has.contents.rules in
      let codes = codes_later has.contents held side in
      let start = Num rules.groups p in
      let line : EndOfLine → Type 0 = λ x. IsLine rules (value_by rules) side codes start has.plies
      x in
      record {
        few = laws.short rules (value_by rules) side codes start n has.plies has.end e has.line;
        ends = laws.won rules (value_by rules) side codes start n has.plies has.end e has.line;
        mate = λ mover is. laws.mate rules (value_by rules) side mover codes start n has.plies e
            (subst line is has.line);
        exit = λ v is. laws.exit rules (value_by rules) side codes start n has.plies v e
            (subst line is has.line);
      }

  keeps_hold : (has : HasLine later name side p files) → start_code has ≡ 1
      → KeepsHold has.contents.rules side has.plies has.end
  keeps_hold has e =
      let rules = has.contents.rules in
      let codes = codes_later has.contents held side in
      let start = Num rules.groups p in
      record {
        ends = laws.drawn rules (value_by rules) side codes start has.plies has.end e has.line;
        few = laws.few rules (value_by rules) side codes start has.plies has.end e has.line;
        cut = λ is. laws.cut rules (value_by rules) side codes start has.plies e
            (subst (λ (x : EndOfLine). IsLine rules (value_by rules) side codes start has.plies x)
            is has.line);
      }

  -- by how the line ends
  abbrev Says : HasLine later name side p files → EndOfLine → Type 0
  Says has end = MeansStatus later name side p files (end_status (told side end))
      (told_text side (start_code has) has.plies (told side end))

  own_end : (has : HasLine later name side p files) (end : EndOfLine) → has.end ≡ end
      → (last : LineEnd)
      → told side end ≡ Ok last
      → MeansStatus later name side p files statuses.Success
      (told_text side (start_code has) has.plies (told side end))
  own_end has end is last ends = record {
    has = has;
    told = ap (λ (x : EndOfLine). told_text side (start_code has) has.plies (told side x)) (sym is);
    last = last;
    ends = ap (told side) is ∙ ends;
    win = λ n e. keeps_win has n e;
    hold = λ e. keeps_hold has e;
    where_exact = λ exact. bound_kept (value_by has.contents.rules) has.contents (held 0) (exact 0)
        side p has.inside;
  }

  says_end : (has : HasLine later name side p files) (end : EndOfLine) → has.end ≡ end
      → Says has end
  says_end has (Wrong at kept given) is = record {
    has = has;
    told = ap (λ (x : EndOfLine). told_text side (start_code has) has.plies (told side x)) (sym is);
    at = at;
    kept = kept;
    given = given;
    ends = is;
    win = λ n e. keeps_win has n e;
    hold = λ e. keeps_hold has e;
    not_exact = λ exact.
        let rules = has.contents.rules in
        let codes = codes_later has.contents held side in
        laws.right rules (value_by rules) side codes (λ k. exact k side) p has.inside has.plies at
        kept given
        (subst (λ (x : EndOfLine). IsLine rules (value_by rules) side codes (Num rules.groups p)
        has.plies x) is has.line);
  }
  says_end has NoBound is =
      inr (record {
        has = has;
        told = ap (λ (x : EndOfLine). told_text side (start_code has) has.plies (told side x))
            (sym is);
        ends = is;
      })
  says_end has (Mated mover) is = own_end has (Mated mover) is ends.Mate refl
  says_end has (Stalemated mover) is = own_end has (Stalemated mover) is ends.Stalemate refl
  says_end has (Exit v) is = own_end has (Exit v) is (ends.Exit v) refl
  says_end has Cut is = own_end has Cut is ends.Cut refl
  says_end has (Stopped reason) is = elim reason [ ]

  -- an answer that is said in full, with what its status says
  means_so : (a : Answer) (status : Status) (text : List ℕ) → a ≡ says status text files
      → MeansStatus later name side p files status text → MeansLine later name side p files a
  means_so a status text e means =
      subst (λ (x : Answer). MeansLine later name side p files x) (sym e)
      (record { same = refl; untaken = refl; says = means })

  lined_means : (a : Answer) (bytes : List ℕ) (contents : Contents)
      → OpensAs name files bytes contents → Member contents.rules.groups p
      → IsLined contents held side p files a → MeansLine later name side p files a
  lined_means a bytes contents open_file inside lined =
      let has : HasLine later name side p files = record {
        bytes = bytes;
        contents = contents;
        open_file = open_file;
        inside = inside;
        plies = lined.plies;
        end = lined.end;
        line = lined.line;
        game = game_inside contents.rules side p lined.plies inside
            (laws.game contents.rules (value_by contents.rules) side
            (codes_later contents held side) (Num contents.rules.groups p) lined.plies lined.end
            lined.line);
      } in
      means_so a (end_status (told side lined.end))
      (told_text side (start_code has) lined.plies (told side lined.end)) lined.told
      (says_end has lined.end refl)

  pub line_means : (input : List ℕ) (a : Answer)
      → IsToldAt Codes later name side p files input a → MeansLine later name side p files a
  line_means input a h =
      means_by Codes later name side p files input a (MeansStatus later name side p files)
      (means_so a) (λ text e. e) (λ text e. e) (λ text e. inl e) (lined_means a) h
