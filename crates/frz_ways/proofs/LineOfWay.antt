-- A line is the way by codes: its plies, its text and its answers are those of that way.
use Rattle.std.proofs.Common.{◌≡◌, ◌==◌, ◌++◌, nat_le, ℕ, suc, inl, inr, Bool, true, false, List, [], ◌∷◌, Option, refl, sym, subst, ap, ◌∙◌, Result, Ok, Err}
use Rattle.std.specs.Prelude.{slice_index}
use Rattle.std.specs.declared.convert.Infallible.{Infallible}
use Rattle.frz_board.specs.declared.man.Colour.{Colour}
use Rattle.frz_board.specs.Boards.{Board}
use Rattle.frz_board.specs.Men.{same_colour}
use Rattle.frz_board.specs.Moving.{Step}
use Rattle.frz_sets.specs.declared.exit.Value.{Value}
use Rattle.frz_sets.specs.Views.{RuleLines}
use Rattle.frz_store.specs.Told.{StoreTold, SourceTold, SinkTold}
use Rattle.frz_answer.specs.Answers.{IsLines}
use Rattle.frz_answer.specs.World.{Spent}
use Rattle.frz_arena.specs.declared.arm.Next.{Next}
use Rattle.frz_arena.specs.declared.arm.Next.TheVariants.{Inside, Outside}
use Rattle.frz_arena.specs.Arena.{Arena}
use Rattle.frz_arena.specs.Counted.{counted}
use Rattle.frz_arena.specs.LocalCodes.{local_code}
use Rattle.frz_arena.specs.Plies.{LeadsTo}
use Rattle.frz_arena.specs.WayEnds.{Wrong, NoBound, Mated, Stalemated, Exit, Cut, Stopped}
use Rattle.frz_arena.specs.Ways.{ByCodes, Over, Moves, IsTakenBy, IsStopBy, IsWay, stage}
use Rattle.frz_exits.specs.Books.{value_by}
use Rattle.frz_game.specs.Games.{graph_by}
use Rattle.frz_index.specs.Members.{Num}
use Rattle.frz_ways.specs.declared.due.Due.{Due}
use Rattle.frz_ways.specs.declared.due.Due.TheVariants as dues
use Rattle.frz_ways.specs.declared.end.LineEnd.{LineEnd}
use Rattle.frz_ways.specs.declared.end.LineEnd.TheVariants as lines
use Rattle.frz_ways.specs.declared.end.LineFault.{LineFault}
use Rattle.frz_ways.specs.declared.end.LineFault.TheVariants as faults
use Rattle.frz_ways.specs.declared.end.TheConstants.{LINE_LIMIT}
use Rattle.frz_ways.specs.declared.opponent.Opponent.TheVariants as opponents
use Rattle.frz_ways.specs.declared.session_end.PlayFault.{PlayFault}
use Rattle.frz_ways.specs.declared.session_end.PlayFault.TheVariants as plays
use Rattle.frz_ways.specs.declared.way_end.WayEnd.{WayEnd}
use Rattle.frz_ways.specs.declared.way_end.WayEnd.TheVariants as ends
use Rattle.frz_ways.specs.BestLine.{TellsLine}
use Rattle.frz_ways.specs.Dues.{due_by}
use Rattle.frz_ways.specs.Ends as line_ends
use Rattle.frz_ways.specs.Faults.{StoreCause, WroteBy}
use Rattle.frz_ways.specs.Kept.{MayRead}
use Rattle.frz_ways.specs.Lines.{LinePly, EndOfLine, line_player}
use Rattle.frz_ways.specs.PlayWay.{TellsWay}
use Rattle.frz_ways.specs.Reading.{Input, Halt, opened}
use Rattle.frz_ways.specs.SessionFaults as sessions
use Rattle.frz_ways.specs.SessionTexts as session_texts
use Rattle.frz_ways.specs.Texts.{move_line, plies_text, last_line, start_line, line_text}
use Rattle.frz_ways.specs.WayEnds as way_ends
use Rattle.frz_ways.specs.WayEnds.{of_line}
use Rattle.frz_ways.specs.WayTexts as way_texts
use Rattle.frz_ways.specs.Ways.{EndOfWay, WayPly, finder, way_player}
use Rattle.frz_ways.proofs.MoveChosen.{known}
use Rattle.frz_ways.proofs.Stages.{stage_told, stage_due}
use Rattle.frz_ways.proofs.WayStarts.{WroteWay}

-- the end of a line, as that of a way
abbrev pub as_way : EndOfLine → EndOfWay
as_way (Wrong p kept given) = Wrong p kept given
as_way NoBound = NoBound
as_way (Mated mover) = Mated mover
as_way (Stalemated mover) = Stalemated mover
as_way (Exit v) = Exit v
as_way Cut = Cut
as_way (Stopped reason) = elim reason [ ]

over_told : (p : ℕ × ℕ) (kept : ℕ) (due : Due) (end : EndOfLine)
    → stage_told {R = Infallible} p kept due ≡ Over end
    → stage_told {R = Halt} p kept due ≡ Over (as_way end)
over_told p kept (dues.Wrong given) end e =
    (let same : Wrong p kept given ≡ end = cc in ap (λ (z : EndOfLine). Over (as_way z)) same)
over_told p kept dues.NoBound end e =
    (let same : NoBound ≡ end = cc in ap (λ (z : EndOfLine). Over (as_way z)) same)
over_told p kept (dues.Mate m) end e =
    (let same : Mated m ≡ end = cc in ap (λ (z : EndOfLine). Over (as_way z)) same)
over_told p kept (dues.Stalemate m) end e =
    (let same : Stalemated m ≡ end = cc in ap (λ (z : EndOfLine). Over (as_way z)) same)
over_told p kept dues.Cut end e =
    (let same : Cut ≡ end = cc in ap (λ (z : EndOfLine). Over (as_way z)) same)
over_told p kept (dues.Ply m) end e = absurd (cc)

moves_told : (p : ℕ × ℕ) (kept : ℕ) (due : Due) (mover : Colour)
    → stage_told {R = Infallible} p kept due ≡ Moves mover
    → stage_told {R = Halt} p kept due ≡ Moves mover
moves_told p kept (dues.Wrong given) mover e = absurd (cc)
moves_told p kept dues.NoBound mover e = absurd (cc)
moves_told p kept (dues.Mate m) mover e = absurd (cc)
moves_told p kept (dues.Stalemate m) mover e = absurd (cc)
moves_told p kept dues.Cut mover e = absurd (cc)
moves_told p kept (dues.Ply m) mover e = (let same : m ≡ mover = cc in ap Moves same)

never_stops : (own : Bool) (p : ℕ × ℕ) (end : EndOfLine)
    → IsStopBy {S = Unit {0}} own (ByCodes LINE_LIMIT) tt p end tt → ⊥
never_stops true p end h = h
never_stops false p end h = h

module _ (arena : Arena Step ℕ Value) (side : Colour) (codes : ℕ → List ℕ) where
  -- what is due to both
  both_due : (k : ℕ) (p : ℕ × ℕ) → (due : Due)
      × (stage (line_player arena side codes) k p ≡ stage_told p (known codes p) due)
      × (stage (way_player arena opponents.Codes side codes) k p
      ≡ stage_told p (known codes p) due)
  both_due k p =
      let kept = known codes p in
      let given = local_code (counted arena) side (known codes) p in (
        due_by (k == 0) (nat_le LINE_LIMIT k) kept given (arena.node p.1),
        stage_due (line_player arena side codes) k p kept given (k == 0) (nat_le LINE_LIMIT k) refl
            refl refl refl,
        stage_due (way_player arena opponents.Codes side codes) k p kept given (k == 0)
            (nat_le LINE_LIMIT k) refl refl refl refl,
      )

  over_both : (k : ℕ) (p : ℕ × ℕ) (end : EndOfLine)
      → stage (line_player arena side codes) k p ≡ Over end
      → stage (way_player arena opponents.Codes side codes) k p ≡ Over (as_way end)
  over_both k p end e =
      let d = both_due k p in d.2 ∙ over_told p (known codes p) d.0 end (sym d.1 ∙ e)

  moves_both : (k : ℕ) (p : ℕ × ℕ) (mover : Colour)
      → stage (line_player arena side codes) k p ≡ Moves mover
      → stage (way_player arena opponents.Codes side codes) k p ≡ Moves mover
  moves_both k p mover e =
      let d = both_due k p in d.2 ∙ moves_told p (known codes p) d.0 mover (sym d.1 ∙ e)

  taken_both : (own : Bool) (x : WayPly) (u : Unit {0}) (s : Input)
      → IsTakenBy (line_player arena side codes) own (ByCodes LINE_LIMIT) tt x u
      → IsTakenBy (way_player arena opponents.Codes side codes) own
      (finder arena opponents.Codes) s x s × (u ≡ tt)
  taken_both true x u s h = ((h.0, h.1, refl), h.2)
  taken_both false x u s h = ((h.0, h.1, refl), h.2)

  leads_both : (k : ℕ) (s : Input) (u : Unit {0}) → u ≡ tt → (xs : List WayPly) (end : EndOfLine)
      → ((q : ℕ × ℕ) → IsWay (line_player arena side codes) (suc k) tt q xs end tt
      → IsWay (way_player arena opponents.Codes side codes) (suc k) s q xs (as_way end) s)
      → (next : Next (ℕ × ℕ) Value)
      → LeadsTo (λ q. IsWay (line_player arena side codes) (suc k) u q xs end tt)
      (λ v. (xs ≡ []) × (end ≡ Exit v) × (tt ≡ u)) next
      → LeadsTo
      (λ q. IsWay (way_player arena opponents.Codes side codes) (suc k) s q xs (as_way end) s)
      (λ v. (xs ≡ []) × (as_way end ≡ Exit v) × (s ≡ s)) next
  leads_both k s u e xs end ih (Inside q) h =
      ih q (subst (λ (v : Unit {0}). IsWay (line_player arena side codes) (suc k) v q xs end tt) e
      h)
  leads_both k s u e xs end ih (Outside v) h = (h.0, ap as_way h.1, refl)

  -- whatever the input is
  pub line_is_way : (k : ℕ) (s : Input) (p : ℕ × ℕ) (plies : List LinePly) (end : EndOfLine)
      → IsWay (line_player arena side codes) k tt p plies end tt
      → IsWay (way_player arena opponents.Codes side codes) k s p plies (as_way end) s
  line_is_way k s p [] end (inl w) = inl (over_both k p end w.0, refl)
  line_is_way k s p [] end (inr w) = absurd (never_stops (same_colour w.0 side) p end w.2)
  line_is_way k s p (x ∷ xs) end w =
      let taken = taken_both (same_colour x.mover side) x w.2.0 s w.2.1 in (
        w.0,
        moves_both k p x.mover w.1,
        (
          s,
          taken.0,
          leads_both k s w.2.0 taken.1 xs end (λ q h. line_is_way (suc k) s q xs end h) x.arm.next
              w.2.2,
        ),
      )

plies_are : (side : Colour) (plies : List LinePly)
    → way_texts.plies_text opponents.Codes side plies ≡ plies_text plies
plies_are side [] = refl
plies_are side (x ∷ plies) = ap (λ (l : List ℕ). move_line x.arm.mv ++ l) (plies_are side plies)

last_lines_agree : (side : Colour) (end : EndOfLine)
    → session_texts.end_text (as_way end) ≡ last_line (line_ends.told side end)
last_lines_agree side (Wrong p kept given) = refl
last_lines_agree side NoBound = refl
last_lines_agree side (Mated mover) = refl
last_lines_agree side (Stalemated mover) = refl
last_lines_agree side (Exit v) = refl
last_lines_agree side Cut = refl
last_lines_agree side (Stopped reason) = elim reason [ ]

start_is : (side : Colour) (code : ℕ) (plies : List LinePly) (end : EndOfLine)
    → session_texts.start_line side code plies (as_way end)
    ≡ start_line side code plies (line_ends.told side end)
start_is side code [] (Wrong p kept given) = refl
start_is side code [] NoBound = refl
start_is side code [] (Mated mover) = refl
start_is side code [] (Stalemated mover) = refl
start_is side code [] (Exit v) = refl
start_is side code [] Cut = refl
start_is side code [] (Stopped reason) = elim reason [ ]
start_is side code (x ∷ plies) end = refl

-- both texts agree
pub line_text_is : (side : Colour) (code : ℕ) (plies : List LinePly) (end : EndOfLine)
    → way_texts.way_text opponents.Codes side code plies (as_way end)
    ≡ line_text side code plies (line_ends.told side end)
line_text_is side code plies end =
    ap (λ (l : List ℕ). l ++ (way_texts.plies_text opponents.Codes side plies
    ++ session_texts.end_text (as_way end))) (start_is side code plies end)
    ∙ (ap (λ (l : List ℕ). start_line side code plies (line_ends.told side end)
    ++ (l ++ session_texts.end_text (as_way end))) (plies_are side plies)
    ∙ ap (λ (l : List ℕ). start_line side code plies (line_ends.told side end)
    ++ (plies_text plies ++ l)) (last_lines_agree side end))

answer_is : (side : Colour) (end : EndOfLine)
    → way_ends.told side (as_way end) ≡ of_line (line_ends.told side end)
answer_is side (Wrong p kept given) = refl
answer_is side NoBound = refl
answer_is side (Mated mover) = refl
answer_is side (Stalemated mover) = refl
answer_is side (Exit v) = refl
answer_is side Cut = refl
answer_is side (Stopped reason) = elim reason [ ]

-- the line's answer that gives this one of its way, where there is one
abbrev line_of : Result WayEnd PlayFault → Result LineEnd LineFault
line_of (Ok ends.Mate) = Ok lines.Mate
line_of (Ok ends.Stalemate) = Ok lines.Stalemate
line_of (Ok (ends.Exit v)) = Ok (lines.Exit v)
line_of (Ok ends.Cut) = Ok lines.Cut
line_of (Ok ends.InputEnded) = Err faults.Output
line_of (Err (plays.Line fault)) = Err fault
line_of (Err fault) = Err faults.Output

line_back : (r : Result LineEnd LineFault) → line_of (of_line r) ≡ r
line_back (Ok lines.Mate) = refl
line_back (Ok lines.Stalemate) = refl
line_back (Ok (lines.Exit v)) = refl
line_back (Ok lines.Cut) = refl
line_back (Err fault) = refl

same_line : (r a : Result LineEnd LineFault) → of_line r ≡ of_line a → r ≡ a
same_line r a e = sym (line_back r) ∙ (ap line_of e ∙ line_back a)

-- the position is outside to the line where it is to its way
pub outside_way : {answer : Result WayEnd PlayFault} {r : Result LineEnd LineFault}
    → answer ≡ of_line r → r ≡ Err faults.Outside → answer ≡ Err (plays.Line faults.Outside)
outside_way is e = is ∙ ap of_line e

pub outside_line : {answer : Result WayEnd PlayFault} {r : Result LineEnd LineFault}
    → answer ≡ of_line r → answer ≡ Err (plays.Line faults.Outside) → r ≡ Err faults.Outside
outside_line {r = r} is e = same_line r (Err faults.Outside) (sym is ∙ e)

unfinished_line : (answer : Result LineEnd LineFault) (rest : List ℕ)
    → way_ends.IsUnfinished (of_line answer) rest → line_ends.IsUnfinished answer rest
unfinished_line (Ok end) rest h = h
unfinished_line (Err fault) rest h = tt

finishes_line : (r answer : Result LineEnd LineFault) (rest unread : List ℕ)
    → way_ends.Finishes (of_line r) (of_line answer) rest unread
    → line_ends.Finishes r answer rest
finishes_line (Ok end) answer rest unread h = (same_line (Ok end) answer h.0, h.1)
finishes_line (Err faults.Outside) answer rest unread h = (same_line _ answer h.0, h.1)
finishes_line (Err faults.NoBound) answer rest unread h = (same_line _ answer h.0, h.1)
finishes_line (Err (faults.Wrong w)) answer rest unread h = (same_line _ answer h.0, h.1)
finishes_line (Err faults.Store) answer rest unread h = unfinished_line answer rest h
finishes_line (Err faults.NoMemory) answer rest unread h = unfinished_line answer rest h
finishes_line (Err faults.Output) answer rest unread h = tt

wrote_line : (r : Result LineEnd LineFault) (text : List ℕ) (old new : SinkTold)
    → sessions.WroteBy (of_line r) text old new → WroteBy r text old new
wrote_line (Ok end) text old new w = w
wrote_line (Err faults.Outside) text old new w = w
wrote_line (Err faults.NoBound) text old new w = w
wrote_line (Err (faults.Wrong x)) text old new w = w
wrote_line (Err faults.Store) text old new w = w
wrote_line (Err faults.Output) text old new w = w
wrote_line (Err faults.NoMemory) text old new w = w

cause_by : (r : Result LineEnd LineFault) (old new : StoreTold)
    → sessions.StoreCause (of_line r) old new → StoreCause r old new
cause_by (Ok end) old new h = h
cause_by (Err faults.Outside) old new h = h
cause_by (Err faults.NoBound) old new h = h
cause_by (Err (faults.Wrong x)) old new h = h
cause_by (Err faults.Store) old new h = h
cause_by (Err faults.Output) old new h = h
cause_by (Err faults.NoMemory) old new h = h

pub line_cause : {answer : Result WayEnd PlayFault} (r : Result LineEnd LineFault)
    (old new : StoreTold) → answer ≡ of_line r → sessions.StoreCause answer old new
    → StoreCause r old new
line_cause r old new is h =
    cause_by r old new
    (subst (λ (z : Result WayEnd PlayFault). sessions.StoreCause z old new) is h)

tells_line : (rules : RuleLines) (side : Colour) (codes : ℕ → List ℕ) (p : Board)
    (whole bytes text : List ℕ) (r : Result LineEnd LineFault) (before now : Spent)
    → TellsWay opponents.Codes rules side codes p whole bytes text (of_line r) before now
    → TellsLine rules side codes p text r before now
tells_line rules side codes p whole bytes text r before now tells = λ member plies end w.
    let s = opened whole in
    let g = tells member plies (as_way end) s
    (line_is_way (graph_by rules (value_by rules)) side codes 0 s (0, Num rules.groups p) plies end
    w) in (
      g.0.rest,
      g.0.begins
          ∙ line_text_is side (slice_index (codes 0) (Num rules.groups p)) plies end,
      finishes_line r (line_ends.told side end) g.0.rest g.0.unread
          (subst (λ (z : Result WayEnd PlayFault). way_ends.Finishes (of_line r) z g.0.rest
          g.0.unread) (answer_is side end) g.0.finishes),
      g.1,
    )

-- what was written of the line
pub line_told : (known : Option (List ℕ)) (size : ℕ) (rules : RuleLines) (side : Colour) (p : Board)
    {answer : Result WayEnd PlayFault} (r : Result LineEnd LineFault) (source left : SourceTold)
    (old new : SinkTold) (before now : Spent) → answer ≡ of_line r
    → WroteWay known size opponents.Codes rules side p answer source left old new before now
    → (text : List ℕ) × (read : ℕ → List ℕ) × IsLines text × WroteBy r text old new
    × ((k : ℕ) → MayRead known size (read k))
    × ((codes : ℕ → List ℕ) → ((k : ℕ) → codes k ≡ read k)
    → TellsLine rules side codes p text r before now)
line_told known size rules side p r source left old new before now is wrote =
    let w = subst
    (λ (z : Result WayEnd PlayFault). WroteWay known size opponents.Codes rules side p z source left
    old new before now) is wrote in (
      w.0,
      w.5.0,
      w.2,
      wrote_line r w.0 old new w.3,
      w.5.1,
      λ codes same.
          let t = w.5.2 codes same in
          tells_line rules side codes p t.0 w.1 w.0 r before now t.2,
    )
