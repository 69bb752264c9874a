-- A turn of a line: what was due, and what would have been written where the sink failed.
use Rattle.std.proofs.Common.{◌≡◌, ◌<◌, ◌++◌, ℕ, zero, suc, inl, inr, List, [], ◌∷◌, Some, length, map, Option, arith, refl, sym, subst, ap, ◌∙◌, get_or, Result, Ok, Err}
use Rattle.std.specs.Prelude.{codes, slice_get, slice_index, ⊤}
use Rattle.std.specs.Io.KnownBytes.{append_known}
use Rattle.std.specs.Result.{IsErrAnd}
use Rattle.frz_board.specs.declared.man.Colour.{Colour}
use Rattle.frz_board.specs.Men.{same_colour}
use Rattle.frz_board.specs.Moving.{Step}
use Rattle.frz_sets.specs.declared.exit.Value.{Value}
use Rattle.frz_store.specs.Told.{SourceTold, SinkTold}
use Rattle.frz_store.specs.declared.outside.StoreFault.{StoreFault}
use Rattle.frz_store.specs.declared.outside.StoreFault.TheVariants.{Failed, NoMemory}
use Rattle.frz_ways.specs.PlayLoaded.{IsSettled}
use Rattle.frz_answer.specs.Answers.{IsLines}
use Rattle.frz_answer.specs.Texts.{TookText, FailedWithin}
use Rattle.frz_answer.proofs.Lemmas.{failed_first, took_next, failed_next, lines_behind, took_nothing}
use Rattle.frz_arena.specs.declared.arm.Arm.{Arm}
use Rattle.frz_arena.specs.declared.choice.Choice.{Choice}
use Rattle.frz_arena.specs.declared.arm.Next.{Next}
use Rattle.frz_arena.specs.declared.arm.Next.TheVariants.{Inside, Outside}
use Rattle.frz_arena.specs.Arena.{Arena}
use Rattle.frz_arena.specs.Chosen.{IsFound}
use Rattle.frz_arena.specs.Choices.{has_code}
use Rattle.frz_arena.specs.Codes.{is_win}
use Rattle.frz_arena.specs.WayEnds.{Wrong, NoBound, Mated, Stalemated, Cut}
use Rattle.frz_arena.specs.Ways.{Over as OverWay}
use Rattle.frz_graph.specs.EntryCodes.{arm_code}
use Rattle.frz_graph.specs.Finite.{IsFinite}
use Rattle.frz_ways.specs.declared.due.Due.{Due}
use Rattle.frz_ways.specs.declared.due.Due.TheVariants as dues
use Rattle.frz_ways.specs.declared.end.LineFault.TheVariants as faults
use Rattle.frz_ways.specs.Faults.{fault_of}
use Rattle.frz_ways.specs.Kept.{MayRead}
use Rattle.frz_ways.specs.LineTurns as line
use Rattle.frz_ways.specs.LineTurns.{EndsHere, LineTurn}
use Rattle.frz_ways.specs.declared.way_end.WayEnd.{WayEnd}
use Rattle.frz_ways.specs.declared.way_end.WayEnd.TheVariants as ends
use Rattle.frz_ways.specs.declared.session_end.PlayFault.{PlayFault}
use Rattle.frz_ways.specs.declared.session_end.PlayFault.TheVariants as plays
use Rattle.frz_ways.specs.declared.hearing.Reader.{Reader}
use Rattle.frz_ways.specs.declared.opponent.Opponent.TheVariants as opponents
use Rattle.frz_ways.specs.declared.playing.Cursor.{Cursor}
use Rattle.frz_ways.specs.declared.playing.Turn.{Turn}
use Rattle.frz_ways.specs.declared.playing.Turn.TheVariants.{Over}
use Rattle.frz_ways.specs.WayEnds.{told, Finishes}
use Rattle.frz_ways.specs.Reading.{Input}
use Rattle.frz_ways.specs.SeenMoves.{choices_by}
use Rattle.frz_ways.specs.Ways.{WayPly, EndOfWay, GoesOn}
use Rattle.frz_ways.specs.SessionTexts.{end_text}
use Rattle.frz_ways.specs.Turns.{moved_text, opening, turn_of, own_word, due_at, Answers, HasMove, IsPlayed, wrong_at}
use Rattle.frz_ways.proofs.Choices.{found_code}
use Rattle.frz_arena.specs.Counted.{after, counted}
use Rattle.frz_arena.specs.Names.{named, named_next}
use Rattle.frz_ways.specs.Costs.{way_numbers}
use Rattle.frz_ways.proofs.Goings.{over_here, moves_by_codes}
use Rattle.frz_ways.proofs.MoveChosen.{AsksForOne, FillsLocal, arm_found, known}
use Rattle.frz_ways.proofs.Stages.{stage_told}
use Rattle.frz_ways.proofs.TurnFaulted.{opened_tail}
use Rattle.frz_ways.proofs.TurnsLeaveWays.{Stands, TailBy, turn_over, over_tail, own_tail, way_stage}
use Rattle.frz_ways.proofs.TurnWritten.{moved_lines, opening_lines}

-- a sink that was told nothing
abbrev fresh : SinkTold
fresh = record { taken = Option.None; faults = 0 }

arm_at : (arms : List (Arm Step ℕ Value)) (i : ℕ) → i < length arms → (a : Arm Step ℕ Value)
    × (slice_get arms i ≡ Some a)
arm_at [] i l = absurd (omega (arith, l))
arm_at (a ∷ arms) zero l = (a, refl)
arm_at (a ∷ arms) (suc i) l = arm_at arms i (omega (arith, l))

-- the move that the code asks for, where a ply is due
abbrev pub HasArm : Colour → Cursor → Due → List (Arm Step ℕ Value) → List ℕ → Type 0
HasArm side cursor (dues.Ply mover) arms cs =
    (place : ℕ) × (x : Choice)
    × IsFound has_code (is_win cursor.code) cursor.code
    (choices_by (same_colour mover side) arms cs) place x
    × ((a : Arm Step ℕ Value) × (slice_get arms place ≡ Some a))
HasArm side cursor due arms cs = ⊤

module _ (side : Colour) (cursor : Cursor) (arms : List (Arm Step ℕ Value)) (cs : List ℕ) where
  pub has_arm : (due : Due) → length cs ≡ length arms → HasMove side cursor due arms cs
      → HasArm side cursor due arms cs
  has_arm (dues.Wrong given) many h = tt
  has_arm dues.NoBound many h = tt
  has_arm (dues.Mate m) many h = tt
  has_arm (dues.Stalemate m) many h = tt
  has_arm dues.Cut many h = tt
  has_arm (dues.Ply m) many h =
      let below = (found_code (same_colour m side) arms cs (is_win cursor.code) cursor.code h.0 h.1
      many h.2).0 in
      (h.0, h.1, h.2, arm_at arms h.0 below)

  -- the turn that is due, and its text
  abbrev turn_due : (due : Due) → HasArm side cursor due arms cs → Result Turn PlayFault
  turn_due (dues.Wrong given) h = Err (wrong_at side cursor given)
  turn_due dues.NoBound h = Err (plays.Line faults.NoBound)
  turn_due (dues.Mate m) h = Ok (Over ends.Mate)
  turn_due (dues.Stalemate m) h = Ok (Over ends.Stalemate)
  turn_due dues.Cut h = Ok (Over ends.Cut)
  turn_due (dues.Ply m) h = Ok (turn_of h.3.0.mv h.3.0.next (get_or cs h.0 0))

  abbrev text_due : (due : Due) → HasArm side cursor due arms cs → List ℕ
  text_due (dues.Wrong given) h = []
  text_due dues.NoBound h = []
  text_due (dues.Mate m) h = codes "mate\n"
  text_due (dues.Stalemate m) h = codes "stalemate\n"
  text_due dues.Cut h = codes "cut\n"
  text_due (dues.Ply m) h = moved_text [] h.3.0

  lines_due : (due : Due) (h : HasArm side cursor due arms cs) → IsLines (text_due due h)
  lines_due (dues.Wrong given) h = inl refl
  lines_due dues.NoBound h = inl refl
  lines_due (dues.Mate m) h = inr (codes "mate", refl)
  lines_due (dues.Stalemate m) h = inr (codes "stalemate", refl)
  lines_due dues.Cut h = inr (codes "cut", refl)
  lines_due (dues.Ply m) h = moved_lines [] h.3.0

  by_turn : (turn : Turn) (text : List ℕ) (result : Result Turn PlayFault) (out taken : SinkTold)
      → Answers turn text result out taken → line.Answers (Ok turn) text result out taken
  by_turn turn text result out taken (inl a) = inl a
  by_turn turn text result out taken (inr a) = inr a

  stopped : (due result : Result Turn PlayFault) (out taken : SinkTold) → result ≡ due
      → taken ≡ out → line.Answers due [] result out taken
  stopped due result out taken is same =
      inl (is, subst (λ (z : SinkTold). TookText [] out z) (sym same) (took_nothing out))

  -- what was played is the turn that is due
  pub played_due : (due : Due) (old new : Reader) (result : Result Turn PlayFault)
      (source left : SourceTold) (out taken : SinkTold)
      → IsPlayed opponents.Codes side cursor due arms cs old new result source left out taken
      → (new ≡ old) × ((h : HasArm side cursor due arms cs)
      × line.Answers (turn_due due h) (text_due due h) result out taken)
  played_due (dues.Wrong given) old new result source left out taken h =
      (h.0.0, (tt, stopped (Err (wrong_at side cursor given)) result out taken h.1.0 h.1.1))
  played_due dues.NoBound old new result source left out taken h =
      (h.0.0, (tt, stopped (Err (plays.Line faults.NoBound)) result out taken h.1.0 h.1.1))
  played_due (dues.Mate m) old new result source left out taken h =
      (h.0.0, (tt, by_turn (Over ends.Mate) (codes "mate\n") result out taken h.1))
  played_due (dues.Stalemate m) old new result source left out taken h =
      (h.0.0, (tt, by_turn (Over ends.Stalemate) (codes "stalemate\n") result out taken h.1))
  played_due dues.Cut old new result source left out taken h =
      (h.0.0, (tt, by_turn (Over ends.Cut) (codes "cut\n") result out taken h.1))
  played_due (dues.Ply m) old new result source left out taken h =
      let p = h.1 in (
        h.0.0,
        (
          (p.0, p.1, p.2, (p.3.0, p.3.1)),
          by_turn (turn_of p.3.0.mv p.3.0.next (get_or cs p.0 0)) (moved_text [] p.3.0) result out
              taken p.3.2,
        ),
      )

-- what was due in a turn, and what was read for it
abbrev pub Lined : Option (List ℕ) → (many : ℕ) → Arena Step ℕ Value → Colour → Cursor → Reader
    → Result Turn PlayFault → SinkTold → SinkTold → Type 0
Lined known many arena side cursor reader result out taken =
    (due : Result Turn PlayFault) × (text : List ℕ) × IsLines text
    × line.Answers due text result out taken
    × ((read : List ℕ) × MayRead known many read
    × ((kept : ℕ → List ℕ) → kept (suc cursor.played) ≡ read
    → LineTurn arena side kept cursor reader due text))

-- where the store failed, the turn did not settle
pub store_unsettled : (fault : StoreFault) (result : Result Turn PlayFault)
    → IsErrAnd result (λ e. e ≡ plays.Line (fault_of fault)) → IsSettled result → ⊥
store_unsettled fault (Ok turn) h settled = absurd h
store_unsettled Failed (Err e) h settled =
    subst (λ (f : PlayFault). IsSettled {T = Turn} (Err f)) h settled
store_unsettled NoMemory (Err e) h settled =
    subst (λ (f : PlayFault). IsSettled {T = Turn} (Err f)) h settled

answers_after : (due : Result Turn PlayFault) (first text : List ℕ)
    (result : Result Turn PlayFault) (out mid taken : SinkTold) → TookText first out mid
    → line.Answers due text result mid taken → line.Answers due (first ++ text) result out taken
answers_after due first text result out mid taken t (inl a) = inl (a.0, took_next t a.1)
answers_after due first text result out mid taken t (inr a) = inr (a.0, failed_next t a.1)

module _ (one : AsksForOne) (fills : FillsLocal)
    {arena : Arena Step ℕ Value} {size : ℕ} (finite : IsFinite arena size)
    (side : Colour) (cursor : Cursor) {arms : List (Arm Step ℕ Value)}
    (cs : List ℕ) (are : arms ≡ arena.arms cursor.number) where
  abbrev IsDue : Due → Type 0
  IsDue due = due ≡ due_at arena opponents.Codes side cursor arms cs

  abbrev ReadBy : (ℕ → List ℕ) → Type 0
  ReadBy kept = cs ≡ map (arm_code side (kept (suc cursor.played))) arms

  abbrev Read : Option (List ℕ) → (many : ℕ) → Type 0
  Read known many =
      (codes : List ℕ) × MayRead known many codes × (cs ≡ map (arm_code side codes) arms)

  module _ (due : Due) (e : IsDue due) (reader : Reader) (kept : ℕ → List ℕ)
      (same : ReadBy kept) where
    stands : Stands arena opponents.Codes side kept cursor
        (stage_told (cursor.played, cursor.number) cursor.code due)
    stands = way_stage fills arena size finite opponents.Codes side cursor arms cs kept are same due e

  over_due : (due : Due) → IsDue due → (f : EndOfWay)
      → (stage_told (cursor.played, cursor.number) cursor.code due ≡ OverWay f)
      → (reader : Reader) (answer : Result WayEnd PlayFault) → Finishes answer (told side f) [] []
      → (kept : ℕ → List ℕ) → ReadBy kept
      → TailBy arena opponents.Codes side kept cursor reader reader [] (end_text f)
      (turn_over answer)
  over_due due e f over reader answer finishes kept same =
      over_tail arena opponents.Codes side kept cursor reader (end_text f) f answer
      (λ agrees. stands due e reader kept same agrees ∙ over) refl finishes

  over_empty : (due : Due) → IsDue due → (f : EndOfWay)
      → (stage_told (cursor.played, cursor.number) cursor.code due ≡ OverWay f)
      → (kept : ℕ → List ℕ) → ReadBy kept → slice_index (kept cursor.played) cursor.number ≡ cursor.code
      → (input : Input) (plies : List WayPly) (end : EndOfWay) (last : Input)
      → GoesOn arena opponents.Codes side kept cursor.played input cursor.number plies end last
      → way_numbers (Inside (cursor.played, cursor.number)) plies ≡ cursor.number ∷ []
  over_empty due e f over kept same agrees input plies end last w =
      ap (way_numbers (Inside (cursor.played, cursor.number))) (over_here arena opponents.Codes side kept cursor.played input last cursor.number plies end f w
      (way_stage fills arena size finite opponents.Codes side cursor arms cs kept are same due e agrees
      ∙ over)).0

  tail_due : (due : Due) → IsDue due → (h : HasArm side cursor due arms cs) → (reader : Reader)
      → (kept : ℕ → List ℕ) → ReadBy kept
      → TailBy arena opponents.Codes side kept cursor reader reader []
      (text_due side cursor arms cs due h) (turn_due side cursor arms cs due h)
  tail_due (dues.Wrong given) e h reader kept same =
      over_due (dues.Wrong given) e (Wrong (cursor.played, cursor.number) cursor.code given) refl
      reader (Err (wrong_at side cursor given)) (refl, refl, refl) kept same
  tail_due dues.NoBound e h reader kept same =
      over_due dues.NoBound e NoBound refl reader (Err (plays.Line faults.NoBound))
      (refl, refl, refl) kept same
  tail_due (dues.Mate m) e h reader kept same =
      over_due (dues.Mate m) e (Mated m) refl reader (Ok ends.Mate) (refl, refl, refl) kept same
  tail_due (dues.Stalemate m) e h reader kept same =
      over_due (dues.Stalemate m) e (Stalemated m) refl reader (Ok ends.Stalemate)
      (refl, refl, refl) kept same
  tail_due dues.Cut e h reader kept same =
      over_due dues.Cut e Cut refl reader (Ok ends.Cut) (refl, refl, refl) kept same
  tail_due (dues.Ply m) e h reader kept same =
      let a = h.3.0 in
      let turn = turn_of a.mv a.next (get_or cs h.0 0) in
      let text = moved_text (own_word opponents.Codes) a in
      own_tail one arena size finite opponents.Codes side m cursor reader arms cs kept refl are same
      (stands (dues.Ply m) e reader kept same) h.0 h.1 a h.2 h.3.1 (Ok turn) fresh
      (record { taken = append_known fresh.taken text; faults = 0 })
      (inl (refl, record { faults = refl; taken = refl }))

  ends_due : (due : Due) → IsDue due → (h : HasArm side cursor due arms cs)
      → (kept : ℕ → List ℕ) → ReadBy kept
      → slice_index (kept cursor.played) cursor.number ≡ cursor.code
      → EndsHere arena side kept cursor (turn_due side cursor arms cs due h)
  ends_due (dues.Wrong given) e h kept same agrees =
      over_empty (dues.Wrong given) e (Wrong (cursor.played, cursor.number) cursor.code given) refl
      kept same agrees
  ends_due dues.NoBound e h kept same agrees =
      over_empty dues.NoBound e NoBound refl kept same agrees
  ends_due (dues.Mate m) e h kept same agrees =
      over_empty (dues.Mate m) e (Mated m) refl kept same agrees
  ends_due (dues.Stalemate m) e h kept same agrees =
      over_empty (dues.Stalemate m) e (Stalemated m) refl kept same agrees
  ends_due dues.Cut e h kept same agrees = over_empty dues.Cut e Cut refl kept same agrees
  ends_due (dues.Ply m) e h kept same agrees = by_next h.3.0.next refl where
    by_next : (next : Next ℕ Value) → h.3.0.next ≡ next
        → EndsHere arena side kept cursor (Ok (turn_of h.3.0.mv next (get_or cs h.0 0)))
    by_next (Inside n) is = tt
    by_next (Outside v) is = λ input plies end last w.
        let g = moves_by_codes arena opponents.Codes side kept cursor.played input last
        cursor.number plies end m refl w
        (way_stage fills arena size finite opponents.Codes side cursor arms cs kept are same
        (dues.Ply m) e agrees) in
        let chosen =
        (arm_found arena size finite side m kept cursor.played cursor.number cursor.code arms cs
        are same agrees h.0 h.1 h.3.0 h.2 h.3.1).chosen in
        let turn : Arm Step ℕ Value → Arm Step (ℕ × ℕ) Value = named (after (suc cursor.played)) in
        let arm : g.0.first.arm ≡ turn h.3.0 =
        (one (counted arena) side (known kept) m (cursor.played, cursor.number) g.0.first.place h.0
        g.0.first.arm (turn h.3.0) g.1 chosen).1 in
        let out : g.0.first.arm.next ≡ Outside v =
        ap (λ (z : Arm Step (ℕ × ℕ) Value). z.next) arm
        ∙ ap (named_next (after (suc cursor.played))) is in
        ap (way_numbers (Inside (cursor.played, cursor.number))) g.0.are
        ∙ ap (λ (z : Next (ℕ × ℕ) Value). cursor.number ∷ way_numbers z g.0.others) out

  line_due : (known : Option (List ℕ)) (many : ℕ) → Read known many → (due : Due) → IsDue due
      → (h : HasArm side cursor due arms cs) (reader : Reader) (result : Result Turn PlayFault)
      (out taken : SinkTold)
      → line.Answers (turn_due side cursor arms cs due h)
      (opening side cursor due ++ text_due side cursor arms cs due h) result out taken
      → Lined known many arena side cursor reader result out taken
  line_due known many read due e h reader result out taken answers = (
    turn_due side cursor arms cs due h,
    opening side cursor due ++ text_due side cursor arms cs due h,
    lines_behind (opening side cursor due) (text_due side cursor arms cs due h)
        (opening_lines side cursor due) (lines_due side cursor arms cs due h),
    answers,
    (
      read.0,
      read.1,
      λ kept same.
          let by = subst (λ (z : List ℕ). cs ≡ map (arm_code side z) arms) (sym same) read.2 in
          record {
            goes = opened_tail arena opponents.Codes side kept cursor due reader reader []
                (text_due side cursor arms cs due h) (turn_due side cursor arms cs due h)
                (stands due e reader kept by) (tail_due due e h reader kept by);
            ends = λ agrees. ends_due due e h kept by agrees;
          },
    ),
  )

  -- the sink failed within the opening
  pub opening_lined : (known : Option (List ℕ)) (many : ℕ) → Read known many → (due : Due)
      → IsDue due → (h : HasArm side cursor due arms cs) (reader : Reader)
      (result : Result Turn PlayFault) (out taken : SinkTold)
      → IsErrAnd result (λ e. e ≡ plays.Line faults.Output)
      → FailedWithin (opening side cursor due) out taken
      → Lined known many arena side cursor reader result out taken
  opening_lined known many read due e h reader (Ok turn) out taken is failed = absurd is
  opening_lined known many read due e h reader (Err f) out taken is failed =
      line_due known many read due e h reader (Err f) out taken
      (inr (
        ap (λ (z : PlayFault). Err z) is,
        failed_first (text_due side cursor arms cs due h) failed,
      ))

  -- the turn that is due was played behind the opening
  pub played_lined : (known : Option (List ℕ)) (many : ℕ) → Read known many → (due : Due)
      → IsDue due → (old new : Reader) (result : Result Turn PlayFault)
      (source left : SourceTold) (out mid taken : SinkTold)
      → TookText (opening side cursor due) out mid
      → IsPlayed opponents.Codes side cursor due arms cs old new result source left mid taken
      → (new ≡ old) × Lined known many arena side cursor old result out taken
  played_lined known many read due e old new result source left out mid taken opened h =
      let p = played_due side cursor arms cs due old new result source left mid taken h in (
        p.0,
        line_due known many read due e p.1.0 old result out taken
            (answers_after (turn_due side cursor arms cs due p.1.0) (opening side cursor due)
            (text_due side cursor arms cs due p.1.0) result out mid taken opened p.1.1),
      )
