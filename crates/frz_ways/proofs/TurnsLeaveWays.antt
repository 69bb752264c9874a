-- What a turn of a way leaves: its text, its bytes, and how the way goes on.
use Rattle.std.proofs.Common.{◌≡◌, ◌==◌, ◌&&◌, ◌++◌, nat_le, ℕ, suc, inl, inr, true, false, List, [], ◌∷◌, Some, map, refl, sym, subst, ap, ◌∙◌, get_or, Result, Ok, Err, append_assoc, append-nil}
use Rattle.std.specs.Prelude.{slice_get, slice_index, codes}
use Rattle.std.proofs.lemmas.Bool.{and_right}
use Rattle.std.proofs.lemmas.Option.{slice_get-map}
use Rattle.frz_board.specs.declared.man.Colour.{Colour}
use Rattle.frz_board.specs.Men.{same_colour}
use Rattle.frz_board.specs.Moving.{Step}
use Rattle.frz_sets.specs.declared.exit.Value.{Value}
use Rattle.frz_store.specs.Told.{SourceTold, SinkTold}
use Rattle.frz_arena.specs.declared.arm.Arm.{Arm}
use Rattle.frz_arena.specs.declared.arm.Next.{Next}
use Rattle.frz_arena.specs.declared.arm.Next.TheVariants.{Inside, Outside}
use Rattle.frz_arena.specs.declared.choice.Choice.{Choice}
use Rattle.frz_arena.specs.Arena.{Arena}
use Rattle.frz_arena.specs.Chosen.{IsFound}
use Rattle.frz_arena.specs.Choices.{has_code}
use Rattle.frz_arena.specs.Codes.{is_win}
use Rattle.frz_arena.specs.Counted.{after, counted}
use Rattle.frz_arena.specs.Inputs.{Reply, Stop}
use Rattle.frz_arena.specs.LocalCodes.{node_code}
use Rattle.frz_arena.specs.Names.{named, named_next}
use Rattle.frz_arena.specs.Plies.{LeadsTo}
use Rattle.frz_arena.specs.WayEnds.{Exit, Stopped}
use Rattle.frz_arena.specs.Ways.{Stage, Over as OverWay, Moves, is_cut, stage, IsWay}
use Rattle.frz_graph.specs.EntryCodes.{arm_code}
use Rattle.frz_graph.specs.Finite.{IsFinite}
use Rattle.frz_graph.specs.FreeCodes.{free_among}
use Rattle.frz_ways.specs.declared.due.Due.{Due}
use Rattle.frz_ways.specs.SeenMoves.{choices_by}
use Rattle.frz_ways.specs.Texts.{exit_line, move_line, next_line}
use Rattle.frz_ways.proofs.MoveChosen.{AsksForOne, FillsLocal, arm_found, known, local_code_of}
use Rattle.frz_ways.proofs.Stages.{stage_told, stage_due}
use Rattle.frz_ways.specs.declared.way_end.WayEnd.{WayEnd}
use Rattle.frz_ways.specs.declared.session_end.PlayFault.{PlayFault}
use Rattle.frz_ways.specs.declared.hearing.Heard.TheVariants as heard
use Rattle.frz_ways.specs.declared.hearing.Reader.{Reader}
use Rattle.frz_ways.specs.declared.hearing.Why.{Why}
use Rattle.frz_ways.specs.declared.playing.Cursor.{Cursor}
use Rattle.frz_ways.specs.declared.playing.Turn.{Turn}
use Rattle.frz_ways.specs.declared.playing.Turn.TheVariants.{Over, Out}
use Rattle.frz_ways.specs.declared.end.TheConstants.{LINE_LIMIT}
use Rattle.frz_ways.specs.declared.opponent.Opponent.{Opponent}
use Rattle.frz_ways.specs.declared.opponent.Opponent.TheVariants as opponents
use Rattle.frz_ways.specs.WayEnds.{told, Finishes}
use Rattle.frz_ways.specs.Hearing.{EndsWith, MayFollow, Hears}
use Rattle.frz_ways.specs.Reading.{Input, Halt, reads}
use Rattle.frz_ways.specs.Ways.{WayPly, EndOfWay, finder, way_player, GoesOn}
use Rattle.frz_ways.specs.SessionTexts.{refused_text, why_line, end_text}
use Rattle.frz_ways.specs.WayTexts.{ply_text, plies_text}
use Rattle.frz_ways.specs.Turns.{moved_text, turn_of, by_codes, own_word, due_at, late_by, Answers, Leaves}
use Rattle.frz_ways.proofs.OtherStands.{code_inside}
use Rattle.frz_ways.proofs.Goings.{over_here, moves_by_codes, stops_here, replies_here, leads_front, way_front}

module _ (arena : Arena Step ℕ Value) (opponent : Opponent) (side : Colour) (kept : ℕ → List ℕ)
    (cursor : Cursor) where
  -- what is due at the cursor, in the way's words
  abbrev pub Stands : Stage (ℕ × ℕ) Value Halt → Type 0
  Stands x =
      slice_index (kept cursor.played) cursor.number ≡ cursor.code →
      stage (way_player arena opponent side kept) cursor.played (cursor.played, cursor.number) ≡ x

  -- what a text leaves of a way from here, but for the line of the start, and how it goes on
  abbrev pub LeavesText : Input → List WayPly → EndOfWay → Input → (text : List ℕ)
      → Result Turn PlayFault → Type 0
  LeavesText left plies end last text result =
      (rest : List ℕ) × (text ++ rest ≡ plies_text opponent side plies ++ end_text end)
      × Leaves arena opponent side kept cursor left plies end last rest result

  -- the text and the bytes are what the turn adds to each way from here, but for that line
  abbrev pub TailBy : (old new : Reader) → (bytes text : List ℕ) → Result Turn PlayFault → Type 0
  TailBy old new bytes text result =
      slice_index (kept cursor.played) cursor.number ≡ cursor.code →
      (left : List ℕ) → MayFollow new left →
      (plies : List WayPly) (end : EndOfWay) (last : Input) →
      GoesOn arena opponent side kept cursor.played (record { left = bytes ++ left; more = old.more })
      cursor.number plies end last →
      LeavesText (record { left = left; more = new.more }) plies end last text result

cut_by : (o : Opponent) (arena : Arena Step ℕ Value) (played entry code : ℕ) → entry ≡ code
    → is_cut (finder arena o) played entry ≡ ((code == 1) && late_by o played)
cut_by opponents.Codes arena played entry code e =
    ap (λ (c : ℕ). (c == 1) && nat_le LINE_LIMIT played) e
cut_by opponents.Input arena played entry code e = sym (and_right (code == 1) false refl)

pub way_stage : FillsLocal → (arena : Arena Step ℕ Value) (size : ℕ) → IsFinite arena size
    → (opponent : Opponent) (side : Colour) (cursor : Cursor) (arms : List (Arm Step ℕ Value))
    (cs : List ℕ) (kept : ℕ → List ℕ)
    → arms ≡ arena.arms cursor.number → cs ≡ map (arm_code side (kept (suc cursor.played))) arms
    → (due : Due)
    → due ≡ due_at arena opponent side cursor arms cs
    → Stands arena opponent side kept cursor (stage_told (cursor.played, cursor.number) cursor.code due)
way_stage fills arena size finite opponent side cursor arms cs kept are same due e = λ agrees.
    let local =
    local_code_of fills arena size finite side kept cursor.played cursor.number arms cs are same in
    let cut = cut_by opponent arena cursor.played (slice_index (kept cursor.played) cursor.number)
    cursor.code agrees in
    stage_due (way_player arena opponent side kept) cursor.played (cursor.played, cursor.number) cursor.code
    (node_code side (arena.node cursor.number) (free_among arms cs) cs) (cursor.played == 0)
    (late_by opponent cursor.played) agrees (sym local) refl cut
    ∙ ap (stage_told (cursor.played, cursor.number) cursor.code) (sym e)

-- the turn of a way that is over
abbrev pub turn_over : Result WayEnd PlayFault → Result Turn PlayFault
turn_over (Ok answer) = Ok (Over answer)
turn_over (Err fault) = Err fault

texts_regrouped : (first move plies last : List ℕ)
    → (first ++ (move ++ [])) ++ (plies ++ last) ≡ ((first ++ move) ++ plies) ++ last
texts_regrouped first move plies last = simp (append_assoc, append-nil)

joined_exit : (first move exit : List ℕ) → (first ++ (move ++ exit)) ++ [] ≡ ((first ++ move) ++ [])
    ++ exit
joined_exit first move exit = simp (append_assoc, append-nil)

module _ (arena : Arena Step ℕ Value) (opponent : Opponent) (side : Colour) (kept : ℕ → List ℕ)
    (cursor : Cursor) where
  leaves_over : (left : Input) (plies : List WayPly) (end : EndOfWay) (last : Input)
      (rest : List ℕ) (answer : Result WayEnd PlayFault) (unread : List ℕ)
      → unread ++ last.left ≡ left.left → Finishes answer (told side end) rest unread
      → Leaves arena opponent side kept cursor left plies end last rest (turn_over answer)
  leaves_over left plies end last rest (Ok answer) unread e f = (unread, e, f)
  leaves_over left plies end last rest (Err fault) unread e f = (unread, e, f)

  -- a way that is over here, or that the input stops
  whole_end : (here last : Input) (plies : List WayPly) (end f : EndOfWay) (text : List ℕ)
      (answer : Result WayEnd PlayFault) → (plies ≡ []) × (end ≡ f) × (last ≡ here)
      → text ≡ end_text f → Finishes answer (told side f) [] []
      → LeavesText arena opponent side kept cursor here plies end last text (turn_over answer)
  whole_end here last plies end f text answer o is finishes = (
    [],
    append-nil text ∙ (is
        ∙ (ap end_text (sym o.1)
        ∙ ap (λ (ys : List WayPly). plies_text opponent side ys ++ end_text end) (sym o.0))),
    leaves_over here plies end last [] answer [] (ap (λ (z : Input). z.left) o.2)
        (subst (λ (z : EndOfWay). Finishes answer (told side z) [] []) (sym o.1) finishes),
  )

  pub over_tail : (reader : Reader) (text : List ℕ) (f : EndOfWay)
      (answer : Result WayEnd PlayFault) → Stands arena opponent side kept cursor (OverWay f)
      → text ≡ end_text f → Finishes answer (told side f) [] []
      → TailBy arena opponent side kept cursor reader reader [] text (turn_over answer)
  over_tail reader text f answer stands is finishes = λ agrees left may plies end last w.
      let here : Input = record { left = left; more = reader.more } in
      whole_end here last plies end f text answer
      (over_here arena opponent side kept cursor.played here last cursor.number plies end f w
      (stands agrees)) is finishes

  -- a ply that was played, behind this front
  ply_leaves : (u last : Input) (front : List ℕ) (move : Step) (next : Next ℕ Value) (code : ℕ)
      (first : WayPly) (others : List WayPly) (end : EndOfWay)
      → ((n : ℕ) → next ≡ Inside n → slice_index (kept (suc cursor.played)) n ≡ code)
      → ply_text opponent side first ≡ front ++ move_line move
      → first.from ≡ (cursor.played, cursor.number) → first.arm.mv ≡ move
      → first.arm.next ≡ named_next (after (suc cursor.played)) next
      → LeadsTo
      (λ p. IsWay (way_player arena opponent side kept) (suc cursor.played) u p others end last)
      (λ v. (others ≡ []) × (end ≡ Exit v) × (last ≡ u))
      (named_next (after (suc cursor.played)) next)
      → LeavesText arena opponent side kept cursor u (first ∷ others) end last
      (front ++ (move_line move ++ next_line next)) (Ok (turn_of move next code))
  ply_leaves u last front move (Inside n) code first others end is same from moved to leads = (
    plies_text opponent side others ++ end_text end,
    texts_regrouped front (move_line move) (plies_text opponent side others) (end_text end)
        ∙ ap (λ (l : List ℕ). (l ++ plies_text opponent side others) ++ end_text end) (sym same),
    (is n refl, (first, others, refl, to, leads, refl)),
  )
  ply_leaves u last front move (Outside v) code first others end is same from moved to leads =
      let text = front ++ (move_line move ++ exit_line v) in
      let whole : text ++ [] ≡ (ply_text opponent side first ++ []) ++ exit_line v = (
      joined_exit front (move_line move) (exit_line v)
      ∙ ap (λ (l : List ℕ). (l ++ []) ++ exit_line v) (sym same)) in
      subst (λ (e : EndOfWay). LeavesText arena opponent side kept cursor u (first ∷ others) e last
      text (Ok (Out move v))) (sym leads.1)
      (subst (λ (ys : List WayPly). LeavesText arena opponent side kept cursor u (first ∷ ys)
      (Exit v) last text (Ok (Out move v))) (sym leads.0)
      ([], whole, (refl, (refl, leads.2, (first, refl, from, moved)))))

  -- the same where the sink failed, with the same text
  answered_leaves : (u last : Input) (plies : List WayPly) (end : EndOfWay) (text written : List ℕ)
      (turn : Turn) (result : Result Turn PlayFault) (old new : SinkTold)
      → EndsWith last.left u.left
      → LeavesText arena opponent side kept cursor u plies end last text (Ok turn)
      → Answers turn written result old new
      → LeavesText arena opponent side kept cursor u plies end last text result
  answered_leaves u last plies end text written turn result old new front h (inl a) =
      subst (λ (z : Result Turn PlayFault). LeavesText arena opponent side kept cursor u plies end
      last text z) (sym a.0) h
  answered_leaves u last plies end text written turn result old new front h (inr a) =
      subst (λ (z : Result Turn PlayFault). LeavesText arena opponent side kept cursor u plies end
      last text z) (sym a.0) (h.0, h.1, (front.0, front.1, tt))

own_text : (o : Opponent) (side mover : Colour) (x : WayPly) (move : Step) → x.mover ≡ mover
    → by_codes o (same_colour mover side) ≡ true → x.arm.mv ≡ move
    → ply_text o side x ≡ own_word o ++ move_line move
own_text opponents.Codes side mover x move m own is = ap move_line is
own_text opponents.Input side mover x move m own is =
    let c : same_colour x.mover side ≡ true = ap (λ z. same_colour z side) m ∙ own in
    rw c (ap (λ (z : Step). codes "move " ++ move_line z) is)

pub reply_text : (o : Opponent) (side mover : Colour) (x : WayPly) (move : Step) (n : ℕ)
    → x.mover ≡ mover → by_codes o (same_colour mover side) ≡ false → x.refused ≡ n
    → x.arm.mv ≡ move → ply_text o side x ≡ (refused_text n ++ codes "reply ") ++ move_line move
reply_text opponents.Codes side mover x move n m own refused is = absurd (cc)
reply_text opponents.Input side mover x move n m own refused is =
    let c : same_colour x.mover side ≡ false = ap (λ z. same_colour z side) m ∙ own in
    rw c (ap (λ (z : Step). refused_text x.refused ++ (codes "reply " ++ move_line z)) is
    ∙ (ap (λ (k : ℕ). refused_text k ++ (codes "reply " ++ move_line move)) refused
    ∙ sym (append_assoc (refused_text n) (codes "reply ") (move_line move))))

-- a ply that the codes find
pub own_tail : AsksForOne → (arena : Arena Step ℕ Value) (size : ℕ) → IsFinite arena size
    → (opponent : Opponent) (side mover : Colour) (cursor : Cursor) (reader : Reader)
    (arms : List (Arm Step ℕ Value)) (cs : List ℕ) (kept : ℕ → List ℕ)
    → by_codes opponent (same_colour mover side) ≡ true → arms ≡ arena.arms cursor.number
    → cs ≡ map (arm_code side (kept (suc cursor.played))) arms
    → Stands arena opponent side kept cursor (Moves mover)
    → (place : ℕ) (x : Choice) (a : Arm Step ℕ Value)
    → IsFound has_code (is_win cursor.code) cursor.code (choices_by (same_colour mover side) arms cs)
    place x
    → slice_get arms place ≡ Some a → (result : Result Turn PlayFault) (old new : SinkTold)
    → Answers (turn_of a.mv a.next (get_or cs place 0)) (moved_text (own_word opponent) a) result old new
    → TailBy arena opponent side kept cursor reader reader [] (moved_text (own_word opponent) a)
    result
own_tail one arena size finite opponent side mover cursor reader arms cs kept own are same stands
    place x a found there result old new answers = λ agrees left may plies end last w.
    let here : Input = record { left = left; more = reader.more } in
    let g = moves_by_codes arena opponent side kept cursor.played here last cursor.number plies end
    mover own w (stands agrees) in
    let chosen =
    (arm_found arena size finite side mover kept cursor.played cursor.number cursor.code arms cs are
    same agrees place x a found there).chosen in
    let turn : Arm Step ℕ Value → Arm Step (ℕ × ℕ) Value = named (after (suc cursor.played)) in
    let arm : g.0.first.arm ≡ turn a =
    (one (counted arena) side (known kept) mover (cursor.played, cursor.number) g.0.first.place place
    g.0.first.arm (turn a) g.1 chosen).1 in
    let leads = subst (λ (z : Arm Step (ℕ × ℕ) Value). LeadsTo
    (λ p. IsWay (way_player arena opponent side kept) (suc cursor.played) here p g.0.others end last)
    (λ v. (g.0.others ≡ []) × (end ≡ Exit v) × (last ≡ here)) z.next) arm g.0.leads in
    let text = own_text opponent side mover g.0.first a.mv g.0.moves own
    (ap (λ (z : Arm Step (ℕ × ℕ) Value). z.mv) arm) in
    let written = moved_text (own_word opponent) a in
    subst (λ (ys : List WayPly). LeavesText arena opponent side kept cursor here ys end last written
    result) (sym g.0.are)
    (answered_leaves arena opponent side kept cursor here last (g.0.first ∷ g.0.others) end
    written written (turn_of a.mv a.next (get_or cs place 0)) result old new
    (way_front arena opponent side kept cursor.played here last (cursor.played, cursor.number) plies end
    w)
    (ply_leaves arena opponent side kept cursor here last (own_word opponent) a.mv a.next
    (get_or cs place 0) g.0.first g.0.others end
    (code_inside side (kept (suc cursor.played)) arms cs same place a there) text g.0.from
    (ap (λ (z : Arm Step (ℕ × ℕ) Value). z.mv) arm)
    (ap (λ (z : Arm Step (ℕ × ℕ) Value). z.next) arm) leads) answers)

module _ (arena : Arena Step ℕ Value) (opponent : Opponent) (side mover : Colour)
    (kept : ℕ → List ℕ) (cursor : Cursor) (old new : Reader)
    (own : by_codes opponent (same_colour mover side) ≡ false)
    (stands : Stands arena opponent side kept cursor (Moves mover)) where
  -- the reply, behind the refused lines
  pub reply_tail : (arms : List (Arm Step ℕ Value)) (cs : List ℕ) → arms ≡ arena.arms cursor.number
      → cs ≡ map (arm_code side (kept (suc cursor.played))) arms
      → (source left : SourceTold) (out between taken : SinkTold) (place : ℕ)
      → (hears : Hears arms old new (Ok (heard.Reply place)) source left out between)
      → (a : Arm Step ℕ Value) → slice_get arms place ≡ Some a → (result : Result Turn PlayFault)
      → Answers (turn_of a.mv a.next (get_or cs place 0)) (moved_text (codes "reply ") a) result between
      taken → TailBy arena opponent side kept cursor old new hears.bytes
      (refused_text hears.refused ++ moved_text (codes "reply ") a) result
  reply_tail arms cs are same source left out between taken place hears a there result answers =
      λ agrees rest_in may plies end last w.
      let u : Input = record { left = rest_in; more = new.more } in
      let n = hears.refused in
      let gives : reads (arena.arms cursor.number) old.more (hears.bytes ++ rest_in) ≡ Reply n place
      u = subst (λ (z : List (Arm Step ℕ Value)). reads z old.more (hears.bytes ++ rest_in)
      ≡ Reply n place u) are (hears.heard rest_in may) in
      let r = replies_here arena opponent side kept cursor.played
      (record { left = hears.bytes ++ rest_in; more = old.more }) last u cursor.number plies end
      mover n place own w (stands agrees) gives in
      let r_there = r.there in
      let a_there : slice_get (arena.arms cursor.number) place ≡ Some a = subst
      (λ (z : List (Arm Step ℕ Value)). slice_get z place ≡ Some a) are there in
      let turn : Arm Step ℕ Value → Arm Step (ℕ × ℕ) Value = named (after (suc cursor.played)) in
      let counts = slice_get-map turn (arena.arms cursor.number) place in
      let c_there : slice_get (map turn (arena.arms cursor.number)) place ≡ Some (turn a) =
      rw (counts, a_there) refl in
      let arm : r.on.first.arm ≡ turn a = cc in
      let leads = subst (λ (z : Arm Step (ℕ × ℕ) Value). LeadsTo
      (λ p. IsWay (way_player arena opponent side kept) (suc cursor.played) u p r.on.others end last)
      (λ v. (r.on.others ≡ []) × (end ≡ Exit v) × (last ≡ u)) z.next) arm r.on.leads in
      let front = refused_text n ++ codes "reply " in
      let text = reply_text opponent side mover r.on.first a.mv n r.on.moves own r.refused_is
      (ap (λ (z : Arm Step (ℕ × ℕ) Value). z.mv) arm) in
      let ends = leads_front arena opponent side kept cursor.played u last r.on.others end
      (λ p h. way_front arena opponent side kept (suc cursor.played) u last p r.on.others end h)
      (turn a).next leads in
      let behind : front ++ (move_line a.mv ++ next_line a.next) ≡ refused_text n ++ moved_text
      (codes "reply ") a = append_assoc (refused_text n) (codes "reply ")
      (move_line a.mv ++ next_line a.next) in
      subst (λ (ys : List WayPly). LeavesText arena opponent side kept cursor u ys end last
      (refused_text n ++ moved_text (codes "reply ") a) result) (sym r.on.are)
      (subst (λ (t : List ℕ). LeavesText arena opponent side kept cursor u
      (r.on.first ∷ r.on.others) end last t result) behind
      (answered_leaves arena opponent side kept cursor u last (r.on.first ∷ r.on.others) end
      (front ++ (move_line a.mv ++ next_line a.next)) (moved_text (codes "reply ") a)
      (turn_of a.mv a.next (get_or cs place 0)) result between taken ends
      (ply_leaves arena opponent side kept cursor u last front a.mv a.next (get_or cs place 0)
      r.on.first r.on.others end
      (code_inside side (kept (suc cursor.played)) arms cs same place a there) text r.on.from
      (ap (λ (z : Arm Step (ℕ × ℕ) Value). z.mv) arm)
      (ap (λ (z : Arm Step (ℕ × ℕ) Value). z.next) arm) leads) answers))

  -- the input stops, behind them
  pub stop_tail : (arms : List (Arm Step ℕ Value)) → arms ≡ arena.arms cursor.number
      → (source left : SourceTold) (out between : SinkTold) (why : Why)
      → (hears : Hears arms old new (Ok (heard.Stop why)) source left out between)
      → (answer : Result WayEnd PlayFault)
      → Finishes answer (told side (Stopped (record { refused = hears.refused; why = why }))) [] []
      → TailBy arena opponent side kept cursor old new hears.bytes
      (refused_text hears.refused ++ why_line why) (turn_over answer)
  stop_tail arms are source left out between why hears answer finishes =
      λ agrees rest_in may plies end last w.
      let u : Input = record { left = rest_in; more = new.more } in
      let halt : Halt = record { refused = hears.refused; why = why } in
      let gives : reads (arena.arms cursor.number) old.more (hears.bytes ++ rest_in) ≡ Stop halt u =
      subst (λ (z : List (Arm Step ℕ Value)). reads z old.more (hears.bytes ++ rest_in)
      ≡ Stop halt u) are (hears.heard rest_in may) in
      whole_end arena opponent side kept cursor u last plies end (Stopped halt)
      (refused_text hears.refused ++ why_line why) answer
      (stops_here arena opponent side kept cursor.played
      (record { left = hears.bytes ++ rest_in; more = old.more }) last u cursor.number plies end
      mover halt own w (stands agrees) gives) refl finishes
