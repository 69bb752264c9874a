-- What the answers of `play` mean.
use Rattle.std.proofs.Common.{◌≡◌, inl, inr, ℕ, ◌+◌, ◌-◌, ◌*◌, ◌≤◌, List, [], length, Result, Some, Ok, Err, refl, sym, ap, subst, ◌∙◌, arith}
use Rattle.std.specs.Prelude.{slice_index, slice_get, MatchOption}
use Rattle.std.specs.List.{Contains}
use Rattle.frz_board.specs.declared.man.Colour.{Colour}
use Rattle.frz_board.specs.Boards.{Board}
use Rattle.frz_board.specs.Men.{other_of}
use Rattle.frz_board.specs.Moving.{Step}
use Rattle.frz_fide.specs.Legal.{after}
use Rattle.frz_fide.specs.Listing.{legal_moves_of}
use Rattle.frz_sets.specs.declared.exit.Value.{Value}
use Rattle.frz_sets.specs.Views.{RuleLines}
use Rattle.frz_exits.specs.Books.{value_by}
use Rattle.frz_exits.specs.Values.{lag_of}
use Rattle.frz_index.specs.Members.{Member, Num}
use Rattle.frz_arena.specs.Chess.{NeverForcesMate}
use Rattle.frz_arena.specs.Counted.{counted}
use Rattle.frz_arena.specs.WayEnds.{Wrong, NoBound, Mated, Stalemated, Exit, Cut, Stopped, EndsWon, EndsHeld}
use Rattle.frz_game.specs.Bounds.{IsTableOf}
use Rattle.frz_game.specs.Games.{chess, graph_by}
use Rattle.frz_game.specs.Numbers.{position_at}
use Rattle.frz_game.specs.Values.{AreTrueExits}
use Rattle.frz_store.specs.Files.{Files}
use Rattle.frz_table.specs.Opening.{Contents}
use Rattle.frz_commands_line.specs.Later.{held_later}
use Rattle.frz_commands_line.specs.LineOf.{codes_later}
use Rattle.frz_answer.specs.declared.status.Status.{Status}
use Rattle.frz_answer.specs.Answers.{Answer, says}
use Rattle.frz_prelude.specs.TableFiles.{OpensAs}
use Rattle.frz_ways.specs.ChessGames.{IsGame}
use Rattle.frz_ways.specs.declared.end.LineFault.TheVariants as faults
use Rattle.frz_ways.specs.declared.opponent.Opponent.TheVariants as opponents
use Rattle.frz_ways.specs.declared.session_end.PlayFault.{PlayFault}
use Rattle.frz_ways.specs.declared.session_end.PlayFault.TheVariants as plays
use Rattle.frz_ways.specs.declared.session_end.SessionEnd.{SessionEnd}
use Rattle.frz_ways.specs.declared.session_end.SessionEnd.TheVariants as ends
use Rattle.frz_ways.specs.declared.hearing.Why.{Why}
use Rattle.frz_ways.specs.declared.hearing.Why.TheVariants.{Ended, Limit}
use Rattle.frz_ways.specs.SessionEnds.{why_told, Tells}
use Rattle.frz_ways.specs.Reading.{Input, Halt}
use Rattle.frz_ways.specs.Sessions.{SessionPly, EndOfSession, IsSession}
use Rattle.frz_commands_line.specs.SessionEnds.{session_status}
use Rattle.frz_commands_line.specs.SessionOf.{played_text, IsPlayed}
use Rattle.frz_commands_line.specs.SessionMeaning.{PlaysWin, PlaysHold, IsSafe, HasSession, start_code, IsExactFile, MeansStatus, MeansPlay}
use Rattle.frz_commands_line.specs.WayOf.{IsToldAt}
use Rattle.frz_check.proofs.Lemmas.{bound_kept}
use Rattle.frz_commands_line.proofs.LineMeans.{game_inside}
use Rattle.frz_commands_line.proofs.Meaning.{means_by}

-- what the laws say of all sessions
pub record SessionLaws : Type 0 where
  pub game : (rules : RuleLines) (value : Board → Value) (side : Colour) (codes : ℕ → List ℕ)
      (start : ℕ) (input : List ℕ) (plies : List SessionPly) (end : EndOfSession) (left : Input)
      → IsSession rules value side codes start input plies end left
      → MatchOption (position_at rules.groups start) (plies ≡ [])
      (λ p. IsGame rules side p plies)
  pub few : (rules : RuleLines) (value : Board → Value) (side : Colour) (codes : ℕ → List ℕ)
      (start n : ℕ) (input : List ℕ) (plies : List SessionPly) (end : EndOfSession) (left : Input)
      → slice_index (codes 0) start ≡ 2 + 2 * n
      → IsSession rules value side codes start input plies end left → length plies ≤ n
  pub won : (rules : RuleLines) (value : Board → Value) (side : Colour) (codes : ℕ → List ℕ)
      (start n : ℕ) (input : List ℕ) (plies : List SessionPly) (end : EndOfSession) (left : Input)
      → slice_index (codes 0) start ≡ 2 + 2 * n
      → IsSession rules value side codes start input plies end left
      → EndsWon (counted (graph_by rules value)) side end
  pub exit : (rules : RuleLines) (value : Board → Value) (side : Colour) (codes : ℕ → List ℕ)
      (start n : ℕ) (input : List ℕ) (plies : List SessionPly) (v : Value) (left : Input)
      → slice_index (codes 0) start ≡ 2 + 2 * n → IsSession rules value side codes start input plies
      (Exit v) left → length plies + lag_of v ≤ n
  pub held : (rules : RuleLines) (value : Board → Value) (side : Colour) (codes : ℕ → List ℕ)
      (start : ℕ) (input : List ℕ) (plies : List SessionPly) (end : EndOfSession) (left : Input)
      → slice_index (codes 0) start ≡ 1
      → IsSession rules value side codes start input plies end left
      → EndsHeld (counted (graph_by rules value)) side end
  pub right : (rules : RuleLines) (value : Board → Value) (side : Colour) (codes : ℕ → List ℕ)
      → ((k : ℕ) → IsTableOf rules value side (codes k))
      → (p : Board) → Member rules.groups p
      → (input : List ℕ) (plies : List SessionPly) (at : ℕ × ℕ) (kept given : ℕ) (left : Input)
      → IsSession rules value side codes (Num rules.groups p) input plies (Wrong at kept given)
      left → ⊥
  pub safe : (rules : RuleLines) (value : Board → Value) → AreTrueExits rules value
      → (side : Colour) (codes : ℕ → List ℕ) → ((k : ℕ) → IsTableOf rules value side (codes k))
      → (start : ℕ) (input : List ℕ) (plies : List SessionPly) (end : EndOfSession) (left : Input)
      → IsSession rules value side codes start input plies end left
      → (x : SessionPly) → Contains plies x → (p : Board) (m : Step)
      → position_at rules.groups x.from.1 ≡ Some p
      → slice_get (legal_moves_of p) x.place ≡ Some m
      → NeverForcesMate chess (other_of side) (after p m)

module _ (laws : SessionLaws) (later : ℕ → Files) (name : List ℕ) (side : Colour) (p : Board)
    (files : Files) (input : List ℕ) where
  abbrev held : ℕ → List ℕ
  held = held_later later name

  -- a session from a win or a hold
  plays_win : (has : HasSession later name side p files input) (n : ℕ) → start_code has ≡ 2 + 2 * n
      → PlaysWin has.contents.rules side n has.plies has.end
  plays_win has n e =
      let rules = has.contents.rules in
      let codes = codes_later has.contents held side in
      let start = Num rules.groups p in
      record {
        few = laws.few rules (value_by rules) side codes start n input has.plies has.end has.left e
            has.session;
        ends = laws.won rules (value_by rules) side codes start n input has.plies has.end has.left e
            has.session;
        exit = λ v is. laws.exit rules (value_by rules) side codes start n input has.plies v
            has.left e (subst
            (λ (x : EndOfSession). IsSession rules (value_by rules) side codes start input has.plies
            x has.left) is has.session);
      }

  plays_hold : (has : HasSession later name side p files input) → start_code has ≡ 1
      → PlaysHold has.contents.rules side has.end
  plays_hold has e =
      let rules = has.contents.rules in
      laws.held rules (value_by rules) side (codes_later has.contents held side)
      (Num rules.groups p) input has.plies has.end has.left e has.session

  is_safe : (has : HasSession later name side p files input) → IsExactFile has
      → AreTrueExits has.contents.rules (value_by has.contents.rules)
      → IsSafe has.contents.rules side has.plies
  is_safe has exact true_exits =
      let rules = has.contents.rules in
      laws.safe rules (value_by rules) true_exits side (codes_later has.contents held side)
      (λ k. exact k side) (Num rules.groups p) input has.plies has.end has.left has.session

  -- by how the session ends
  abbrev Says : HasSession later name side p files input → Result SessionEnd PlayFault → Type 0
  Says has answer = MeansStatus later name side p files input (session_status answer)
      (played_text side (start_code has) has.plies has.end answer)

  own_end : (has : HasSession later name side p files input) (last : SessionEnd)
      → Tells side has.end (Ok last) → Says has (Ok last)
  own_end has last tells = record {
    has = has;
    last = last;
    ends = record { tells = tells; told = refl };
    win = λ n e. plays_win has n e;
    hold = λ e. plays_hold has e;
    where_exact = λ exact. bound_kept (value_by has.contents.rules) has.contents (held 0) (exact 0)
        side p has.inside;
    safe = λ exact true_exits. is_safe has exact true_exits;
  }

  -- an answer that is told is one of these
  as_told : (has : HasSession later name side p files input)
      (answer given : Result SessionEnd PlayFault)
      → answer ≡ given → Says has given → Says has answer
  as_told has answer given e says =
      subst (λ (r : Result SessionEnd PlayFault). Says has r) (sym e) says

  tells_end : (has : HasSession later name side p files input) (end : EndOfSession)
      (answer : Result SessionEnd PlayFault) → has.end ≡ end → Tells side end answer
      → Tells side has.end answer
  tells_end has end answer is tells =
      subst (λ (x : EndOfSession). Tells side x answer) (sym is) tells

  says_why : (has : HasSession later name side p files input) (halt : Halt) (why : Why)
      → halt.why ≡ why
      → has.end ≡ Stopped halt → (answer : Result SessionEnd PlayFault) → answer ≡ why_told halt.why
      → Says has answer
  says_why has halt Ended e is answer tells =
      let given : answer ≡ Ok ends.InputEnded = tells ∙ ap why_told e in
      as_told has answer (Ok ends.InputEnded) given
      (own_end has ends.InputEnded
      (tells_end has (Stopped halt) (Ok ends.InputEnded) is (sym (ap why_told e))))
  says_why has halt (Limit limit) e is answer tells =
      let given : answer ≡ Err (plays.Limit limit) = tells ∙ ap why_told e in
      as_told has answer (Err (plays.Limit limit)) given (record {
        has = has;
        limit = limit;
        win = λ n e. plays_win has n e;
        hold = λ e. plays_hold has e;
        safe = λ one true_exits. is_safe has one true_exits;
        ends = record {
          tells = tells_end has (Stopped halt) (Err (plays.Limit limit)) is
              (sym (ap why_told e));
          told = refl;
        };
      })

  says_end : (has : HasSession later name side p files input) (end : EndOfSession) → has.end ≡ end
      → (answer : Result SessionEnd PlayFault) → Tells side end answer → Says has answer
  says_end has (Wrong at kept given) is answer tells =
      let fault : PlayFault = plays.Line
      (faults.Wrong (record { side = side; number = at.1; kept = kept; given = given })) in
      as_told has answer (Err fault) tells (record {
        has = has;
        fault = fault;
        ends = record {
          tells = tells_end has (Wrong at kept given) (Err fault) is refl;
          told = refl;
        };
        wrong = (at, kept, given, is);
        win = λ n e. plays_win has n e;
        hold = λ e. plays_hold has e;
        not_exact = λ exact.
            let rules = has.contents.rules in
            let codes = codes_later has.contents held side in
            laws.right rules (value_by rules) side codes
            (λ k. exact k side) p has.inside input has.plies at kept given has.left
            (subst (λ (x : EndOfSession). IsSession rules (value_by rules) side codes
            (Num rules.groups p) input has.plies x has.left) is has.session);
      })
  says_end has NoBound is answer tells =
      as_told has answer (Err (plays.Line faults.NoBound)) tells (inr (record {
        has = has;
        fault = plays.Line faults.NoBound;
        ends = record {
          tells = tells_end has NoBound (Err (plays.Line faults.NoBound)) is refl;
          told = refl;
        };
        no_bound = is;
      }))
  says_end has (Mated mover) is answer tells =
      as_told has answer (Ok ends.Mate) tells
      (own_end has ends.Mate (tells_end has (Mated mover) (Ok ends.Mate) is refl))
  says_end has (Stalemated mover) is answer tells = as_told has answer (Ok ends.Stalemate) tells
      (own_end has ends.Stalemate (tells_end has (Stalemated mover) (Ok ends.Stalemate) is refl))
  says_end has (Exit v) is answer tells = as_told has answer (Ok (ends.Exit v)) tells
      (own_end has (ends.Exit v) (tells_end has (Exit v) (Ok (ends.Exit v)) is refl))
  says_end has Cut is answer tells = absurd tells
  says_end has (Stopped halt) is answer tells = says_why has halt halt.why refl is answer tells

  -- an answer that is said in full, with what its status says
  means_so : (a : Answer) (status : Status) (text : List ℕ) (taken : ℕ) → taken ≤ length input
      → a ≡ record { status = status; text = text; files = files; taken = taken }
      → MeansStatus later name side p files input status text
      → MeansPlay later name side p files input a
  means_so a status text taken few e means =
      subst (λ (x : Answer). MeansPlay later name side p files input x) (sym e)
      (record { same = refl; few = few; says = means })

  played_means : (a : Answer) (bytes : List ℕ) (contents : Contents)
      → OpensAs name files bytes contents → Member contents.rules.groups p
      → IsPlayed contents held side p files input a → MeansPlay later name side p files input a
  played_means a bytes contents open_file inside played =
      let has : HasSession later name side p files input = record {
        bytes = bytes;
        contents = contents;
        open_file = open_file;
        inside = inside;
        plies = played.plies;
        end = played.end;
        left = played.left;
        session = played.session;
        game = game_inside contents.rules side p played.plies inside
            (laws.game contents.rules (value_by contents.rules) side
            (codes_later contents held side) (Num contents.rules.groups p) input played.plies
            played.end played.left played.session);
      } in
      means_so a (session_status played.answer)
      (played_text side (start_code has) played.plies played.end played.answer)
      (length input - length played.left.left) (omega arith) played.told
      (says_end has played.end refl played.answer played.tells)

  pub play_means : (a : Answer) → IsToldAt opponents.Input later name side p files input a
      → MeansPlay later name side p files input a
  play_means a h =
      means_by opponents.Input later name side p files input a
      (MeansStatus later name side p files input)
      (λ status text e means. means_so a status text 0 (omega arith) e means) (λ text e. e)
      (λ text e. e) (λ text e. inl e) (played_means a) h
