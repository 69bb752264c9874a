-- What a turn of a way leaves where the store, the input or the sink failed.
use Rattle.std.proofs.Common.{◌≡◌, ◌≢◌, ◌+◌, ◌==◌, ◌++◌, ℕ, zero, suc, ◌⊎◌, inl, inr, Bool, true, false, List, [], ◌∷◌, refl, sym, subst, ap, ◌∙◌, if◌then◌else◌, Result, Ok, Err, arith, append_assoc}
use Rattle.std.specs.Prelude.{codes}
use Rattle.frz_board.specs.declared.man.Colour.{Colour}
use Rattle.frz_board.specs.Men.{same_colour}
use Rattle.frz_board.specs.Moving.{Step}
use Rattle.frz_sets.specs.declared.exit.Value.{Value}
use Rattle.frz_store.specs.Told.{SourceTold, SinkTold}
use Rattle.frz_arena.specs.declared.arm.Arm.{Arm}
use Rattle.frz_arena.specs.Arena.{Arena}
use Rattle.frz_arena.specs.Inputs.{Answer, Reply, Stop}
use Rattle.frz_arena.specs.WayEnds.{Wrong, NoBound, Mated, Stalemated, Exit, Cut, Stopped}
use Rattle.frz_arena.specs.Ways.{IsStopBy, Over as OverWay, Moves, stage}
use Rattle.frz_bound_lines.specs.BoundLines.{kept_line}
use Rattle.frz_ways.specs.declared.due.Due.{Due}
use Rattle.frz_ways.specs.declared.due.Due.TheVariants as dues
use Rattle.frz_ways.specs.declared.end.LineFault.TheVariants as faults
use Rattle.frz_ways.specs.Texts.{move_line, value_text}
use Rattle.frz_ways.proofs.Stages.{stage_told}
use Rattle.frz_ways.specs.declared.way_end.WayEnd.{WayEnd}
use Rattle.frz_ways.specs.declared.session_end.PlayFault.{PlayFault}
use Rattle.frz_ways.specs.declared.session_end.PlayFault.TheVariants as plays
use Rattle.frz_ways.specs.declared.hearing.Reader.{Reader}
use Rattle.frz_ways.specs.declared.hearing.Why.{Why}
use Rattle.frz_ways.specs.declared.hearing.Why.TheVariants.{Ended, Limit}
use Rattle.frz_ways.specs.declared.playing.Cursor.{Cursor}
use Rattle.frz_ways.specs.declared.playing.Turn.{Turn}
use Rattle.frz_ways.specs.declared.opponent.Opponent.{Opponent}
use Rattle.frz_ways.specs.declared.opponent.Opponent.TheVariants as opponents
use Rattle.frz_ways.specs.WayEnds.{IsUnfinished, Finishes, told, told_why}
use Rattle.frz_ways.specs.Hearing.{EndsWith, MayFail, Hears, left_by, refuse}
use Rattle.frz_ways.specs.Reading.{Input, Halt, reads, refuse_one}
use Rattle.frz_ways.specs.Ways.{WayPly, EndOfWay, finder, way_player, GoesOn}
use Rattle.frz_ways.specs.SessionTexts.{refused_text, why_line, end_text, start_line}
use Rattle.frz_ways.specs.WayTexts.{ply_text, plies_text}
use Rattle.frz_ways.specs.Turns.{by_codes, opening, rest_text, GoesBy}
use Rattle.frz_ways.proofs.Goings.{over_here, stops_here, replies_here, leads_front, way_front}
use Rattle.frz_ways.proofs.Taking.{ends_on}
use Rattle.frz_ways.proofs.TurnsLeaveWays.{LeavesText, Stands, TailBy, reply_text}

behind_some : (a b : List ℕ) → b ≢ [] → a ++ b ≢ []
behind_some [] b some = some
behind_some (x ∷ a) b some = λ e. absurd (cc)

before_some : (a b : List ℕ) → a ≢ [] → a ++ b ≢ []
before_some [] b some = absurd (some refl)
before_some (x ∷ a) b some = λ e. absurd (cc)

some_why : (why : Why) → IsUnfinished (told_why why) (why_line why)
some_why Ended = λ e. absurd (cc)
some_why (Limit limit) = tt

behind_some_why : (why : Why) (front : List ℕ) → IsUnfinished (told_why why) (front ++ why_line why)
behind_some_why Ended front = behind_some front (why_line Ended) (some_why Ended)
behind_some_why (Limit limit) front = tt

-- a text that stands before the line of an end
still_unfinished : (answer : Result WayEnd PlayFault) (front text : List ℕ)
    → IsUnfinished answer text → IsUnfinished answer (front ++ text)
still_unfinished (Ok end) front text some = behind_some front text some
still_unfinished (Err fault) front text some = tt

any_unfinished : (answer : Result WayEnd PlayFault) (rest : List ℕ) → rest ≢ []
    → IsUnfinished answer rest
any_unfinished (Ok end) rest some = some
any_unfinished (Err fault) rest some = tt

-- an end that the way names has a line
tells_text : (side : Colour) (end : EndOfWay) → IsUnfinished (told side end) (end_text end)
tells_text side (Wrong number kept given) = tt
tells_text side NoBound = tt
tells_text side (Mated mover) = λ e. absurd (cc)
tells_text side (Stalemated mover) = λ e. absurd (cc)
tells_text side (Exit v) =
    before_some (codes "exit ") (value_text v ++ codes "\n") (λ e. absurd (cc))
tells_text side Cut = λ e. absurd (cc)
tells_text side (Stopped halt) = behind_some_why halt.why (refused_text halt.refused)

-- behind all of a way's text is more than nothing
pub short_text : (side : Colour) (end : EndOfWay) (start plies : List ℕ)
    → IsUnfinished (told side end) (start ++ (plies ++ end_text end))
short_text side end start plies =
    still_unfinished (told side end) start (plies ++ end_text end)
    (still_unfinished (told side end) plies (end_text end) (tells_text side end))

-- the store failed, or has no memory
pub record IsStoreFault (fault : PlayFault) : Type 0 where
  pub is : (fault ≡ plays.Line faults.Store) ⊎ (fault ≡ plays.Line faults.NoMemory)

pub short_of : (fault : PlayFault) (answer : Result WayEnd PlayFault) (rest unread : List ℕ)
    → IsStoreFault fault → IsUnfinished answer rest → Finishes (Err fault) answer rest unread
short_of fault answer rest unread is short =
    elim is.is [
      | inl e ↦ subst (λ (f : PlayFault). Finishes (Err f) answer rest unread) (sym e) short
      | inr e ↦ subst (λ (f : PlayFault). Finishes (Err f) answer rest unread) (sym e) short
    ]

-- nothing was written or taken
pub store_goes : (arena : Arena Step ℕ Value) (opponent : Opponent) (side : Colour)
    (kept : ℕ → List ℕ) (cursor : Cursor) (reader : Reader) (fault : PlayFault) → IsStoreFault fault
    → GoesBy arena opponent side kept cursor reader reader [] [] (Err fault)
store_goes arena opponent side kept cursor reader fault is = λ agrees left may plies end last w.
    let front = way_front arena opponent side kept cursor.played (record {
      left = left;
      more =
          reader.more;
    }) last
    (cursor.played, cursor.number) plies end w in
    let rest = rest_text opponent side cursor plies end in
    let short = short_text side end
    (if cursor.played == 0 then start_line side cursor.code plies end else [])
    (plies_text opponent side plies) in
    (rest, refl, (front.0, front.1, short_of fault (told side end) rest front.0 is short))

stop_is : (o : Opponent) (own : Bool) (arena : Arena Step ℕ Value) (s t : Input) (q : ℕ × ℕ)
    (e : EndOfWay) → IsStopBy own (finder arena o) s q e t → (halt : Halt) × (e ≡ Stopped halt)
stop_is opponents.Codes true arena s t q e h = absurd h
stop_is opponents.Codes false arena s t q e h = absurd h
stop_is opponents.Input true arena s t q e h = absurd h
stop_is opponents.Input false arena s t q e h = (h.0, h.1)

same_start : (b : Bool) (x y : List ℕ) → x ≡ y → (if b then x else []) ≡ (if b then y else [])
same_start b x y e = ap (λ (l : List ℕ). if b then l else []) e

nothing_both : (b : Bool) → let none : List ℕ = [] in none ≡ (if b then none else none)
nothing_both true = refl
nothing_both false = refl

module _ (arena : Arena Step ℕ Value) (opponent : Opponent) (side : Colour) (kept : ℕ → List ℕ)
    (cursor : Cursor) where
  over_start : (s last : Input) (plies : List WayPly) (end f : EndOfWay)
      → GoesOn arena opponent side kept cursor.played s cursor.number plies end last
      → stage (way_player arena opponent side kept) cursor.played (cursor.played, cursor.number) ≡ OverWay
      f
      → start_line side cursor.code [] f ≡ start_line side cursor.code plies end
  over_start s last plies end f w over =
      let o = over_here arena opponent side kept cursor.played s last cursor.number plies end f w over
      in ap (λ (e : EndOfWay). start_line side cursor.code [] e) (sym o.1)
      ∙ ap (λ (ys : List WayPly). start_line side cursor.code ys end) (sym o.0)

  moved_start : (s last : Input) (plies : List WayPly) (end : EndOfWay)
      (mover : Colour) → GoesOn arena opponent side kept cursor.played s cursor.number plies end last
      → stage (way_player arena opponent side kept) cursor.played (cursor.played, cursor.number) ≡ Moves
      mover
      → kept_line side cursor.code ≡ start_line side cursor.code plies end
  moved_start s last [] end mover (inl w) due = absurd (let h = w.0 in cc)
  moved_start s last [] end mover (inr w) due =
      let stop = stop_is opponent (same_colour w.0 side) arena s last (cursor.played, cursor.number) end
      w.2 in
      ap (λ (e : EndOfWay). start_line side cursor.code [] e) (sym stop.1)
  moved_start s last (x ∷ plies) end mover w due = refl

  -- what opens a way is the line of its start
  opening_is : (due : Due) (s last : Input) (plies : List WayPly)
      (end : EndOfWay) → GoesOn arena opponent side kept cursor.played s cursor.number plies end last
      → stage (way_player arena opponent side kept) cursor.played (cursor.played, cursor.number)
      ≡ stage_told (cursor.played, cursor.number) cursor.code due → opening side cursor due
      ≡ (if cursor.played == 0 then start_line side cursor.code plies end else [])
  opening_is (dues.Wrong given) s last plies end w stands =
      nothing_both (cursor.played == 0) ∙ same_start (cursor.played == 0) [] (start_line side cursor.code
      plies end)
      (over_start s last plies end (Wrong (cursor.played, cursor.number) cursor.code given) w stands)
  opening_is dues.NoBound s last plies end w stands =
      nothing_both (cursor.played == 0) ∙ same_start (cursor.played == 0) [] (start_line side cursor.code
      plies end) (over_start s last plies end NoBound w stands)
  opening_is (dues.Mate m) s last plies end w stands =
      same_start (cursor.played == 0) (kept_line side cursor.code) (start_line side cursor.code plies end)
      (over_start s last plies end (Mated m) w stands)
  opening_is (dues.Stalemate m) s last plies end w stands =
      same_start (cursor.played == 0) (kept_line side cursor.code) (start_line side cursor.code plies end)
      (over_start s last plies end (Stalemated m) w stands)
  opening_is dues.Cut s last plies end w stands =
      same_start (cursor.played == 0) (kept_line side cursor.code) (start_line side cursor.code plies end)
      (over_start s last plies end Cut w stands)
  opening_is (dues.Ply m) s last plies end w stands =
      same_start (cursor.played == 0) (kept_line side cursor.code) (start_line side cursor.code plies end)
      (moved_start s last plies end m w stands)

  -- the sink failed within the opening
  pub opening_failed : (due : Due) (reader : Reader)
      → Stands arena opponent side kept cursor (stage_told (cursor.played, cursor.number) cursor.code due)
      → GoesBy arena opponent side kept cursor reader reader [] (opening side cursor due)
      (Err (plays.Line faults.Output))
  opening_failed due reader stands = λ agrees left may plies end last w.
      let here : Input = record { left = left; more = reader.more } in
      let front = way_front arena opponent side kept cursor.played here last (
        cursor.played,
        cursor.number,
      ) plies end w in
      let rest = plies_text opponent side plies ++ end_text end in (
        rest,
        ap (λ (l : List ℕ). l ++ rest)
            (opening_is due here last plies end w (stands agrees)),
        (front.0, front.1, tt),
      )

  -- behind the opening
  pub opened_tail : (due : Due) (old new : Reader) (bytes text : List ℕ)
      (result : Result Turn PlayFault)
      → Stands arena opponent side kept cursor (stage_told (cursor.played, cursor.number) cursor.code due)
      → TailBy arena opponent side kept cursor old new bytes text result
      → GoesBy arena opponent side kept cursor old new bytes (opening side cursor due ++ text) result
  opened_tail due old new bytes text result stands tail =
      λ agrees left may plies end last w.
      let t = tail agrees left may plies end last w in
      let here : Input = record { left = bytes ++ left; more = old.more } in (
        t.0,
        append_assoc (opening side cursor due) text t.0
            ∙ (ap (λ (l : List ℕ). opening side cursor due ++ l) t.1
            ∙ ap (λ (l : List ℕ). l ++ (plies_text opponent side plies ++ end_text end))
            (opening_is due here last plies end w (stands agrees))),
        t.2,
      )

nothing_more : (m : ℕ) → m ≡ 0 + m
nothing_more m = omega arith

one_further : (n m : ℕ) → suc (n + m) ≡ suc n + m
one_further n m = omega arith

refuse_replies : (n m place : ℕ) (left : Input)
    → refuse n (Reply m place left) ≡ Reply (n + m) place left
refuse_replies zero m place left = ap (λ k. Reply k place left) (nothing_more m)
refuse_replies (suc n) m place left =
    ap refuse_one (refuse_replies n m place left) ∙ ap (λ k. Reply k place left) (one_further n m)

refuse_stops : (n : ℕ) (halt : Halt) (left : Input)
    → refuse n (Stop halt left) ≡ Stop (record { refused = n + halt.refused; why = halt.why }) left
refuse_stops zero halt left =
    ap (λ k. Stop (record { refused = k; why = halt.why }) left) (nothing_more halt.refused)
refuse_stops (suc n) halt left =
    ap refuse_one (refuse_stops n halt left)
    ∙ ap (λ k. Stop (record { refused = k; why = halt.why }) left) (one_further n halt.refused)

refused_twice : (n m : ℕ) → refused_text (n + m) ≡ refused_text n ++ refused_text m
refused_twice zero m = ap refused_text (sym (nothing_more m))
refused_twice (suc n) m =
    ap refused_text (sym (one_further n m)) ∙ ap (λ (l : List ℕ). codes "illegal\n" ++ l)
    (refused_twice n m)
    ∙ sym (append_assoc (codes "illegal\n") (refused_text n) (refused_text m))

finishes_failed : (fault : PlayFault) (answer : Result WayEnd PlayFault) (rest unread : List ℕ)
    → MayFail fault → IsUnfinished answer rest → Finishes (Err fault) answer rest unread
finishes_failed fault answer rest unread (inl e) short =
    subst (λ (f : PlayFault). Finishes (Err f) answer rest unread) (sym e) short
finishes_failed fault answer rest unread (inr e) short =
    subst (λ (f : PlayFault). Finishes (Err f) answer rest unread) (sym e) tt

front_of_text : (a b : List ℕ) (word move rest last : List ℕ)
    → a ++ (b ++ ((word ++ move) ++ (rest ++ last))) ≡ ((((a ++ b) ++ word) ++ move) ++ rest)
    ++ last
front_of_text a b word move rest last = simp append_assoc

module _ (arena : Arena Step ℕ Value) (opponent : Opponent) (side mover : Colour)
    (kept : ℕ → List ℕ) (cursor : Cursor) (own : by_codes opponent (same_colour mover side) ≡ false)
    (stands : Stands arena opponent side kept cursor (Moves mover))
    (fault : PlayFault) (fails : MayFail fault) where
  -- what the text still lacks where a fault stops the lines of a reply
  abbrev Lacks : (n : ℕ) (here : Input) (plies : List WayPly) (end : EndOfWay)
      (last : Input) → Type 0
  Lacks n here plies end last =
      LeavesText arena opponent side kept cursor here plies end last (refused_text n) (Err fault)

  lacks_by : (n : ℕ) (later : Answer Input Halt) (s here last : Input)
      (plies : List WayPly) (end : EndOfWay)
      → GoesOn arena opponent side kept cursor.played s cursor.number plies end last
      → stage (way_player arena opponent side kept) cursor.played (cursor.played, cursor.number) ≡ Moves
      mover
      → reads (arena.arms cursor.number) s.more s.left ≡ refuse n later
      → EndsWith (left_by later) here.left → Lacks n here plies end last
  lacks_by n (Reply m place u) s here last plies end w due gives ends =
      let r = replies_here arena opponent side kept cursor.played s last u cursor.number plies end mover
      (n + m) place own w due (gives ∙ refuse_replies n m place u) in
      let first = r.on.first in
      let others = r.on.others in
      let word = codes "reply " in
      let move = move_line first.arm.mv in
      let rest = refused_text m ++ ((word ++ move) ++ (plies_text opponent side others ++ end_text
      end)) in
      let text : ply_text opponent side first ≡ ((refused_text n ++ refused_text m) ++ word) ++ move
      =
      reply_text opponent side mover first first.arm.mv (n + m) r.on.moves own r.refused_is refl
      ∙ ap (λ (l : List ℕ). (l ++ word) ++ move) (refused_twice n m) in
      let whole : refused_text n ++ rest ≡ plies_text opponent side (first ∷ others) ++ end_text end
      =
      front_of_text (refused_text n) (refused_text m) word move (plies_text opponent side others)
      (end_text end) ∙ ap (λ (l : List ℕ). (l ++ plies_text opponent side others) ++ end_text end)
      (sym text) in
      let some : rest ≢ [] = behind_some (refused_text m)
      ((word ++ move) ++ (plies_text opponent side others ++ end_text end))
      (before_some (word ++ move) (plies_text opponent side others ++ end_text end)
      (before_some word move (λ e. absurd (cc)))) in
      let front = ends_on last.left u.left here.left
      (leads_front arena opponent side kept cursor.played u last others end
      (λ p h. way_front arena opponent side kept (suc cursor.played) u last p others end h)
      first.arm.next r.on.leads) ends in
      subst (λ (ys : List WayPly). Lacks n here ys end last) (sym r.on.are) (
        rest,
        whole,
        (
          front.0,
          front.1,
          finishes_failed fault (told side end) rest front.0 fails
              (any_unfinished (told side end) rest some),
        ),
      )
  lacks_by n (Stop halt u) s here last plies end w due gives ends =
      let all : Halt = record { refused = n + halt.refused; why = halt.why } in
      let o = stops_here arena opponent side kept cursor.played s last u cursor.number plies end mover
      all own w due (gives ∙ refuse_stops n halt u) in
      let rest = refused_text halt.refused ++ why_line halt.why in
      let whole : refused_text n ++ rest ≡ end_text (Stopped all) = sym
      (append_assoc (refused_text n) (refused_text halt.refused) (why_line halt.why))
      ∙ ap (λ (l : List ℕ). l ++ why_line halt.why) (sym (refused_twice n halt.refused)) in
      let short : IsUnfinished (told side (Stopped all)) rest = behind_some_why halt.why
      (refused_text halt.refused) in
      let front : EndsWith last.left here.left = subst (λ (z : Input). EndsWith z.left here.left)
      (sym o.2) ends in
      subst (λ (ys : List WayPly). Lacks n here ys end last) (sym o.0)
      (subst (λ (e : EndOfWay). Lacks n here [] e last) (sym o.1) (
        rest,
        whole,
        (
          front.0,
          front.1,
          finishes_failed fault (told side (Stopped all)) rest front.0 fails
              short,
        ),
      ))

  pub fault_tail : (old new : Reader) (arms : List (Arm Step ℕ Value))
      → arms ≡ arena.arms cursor.number → (source left : SourceTold) (out taken : SinkTold)
      → (hears : Hears arms old new (Err fault) source left out taken)
      → TailBy arena opponent side kept cursor old new hears.bytes (refused_text hears.refused)
      (Err fault)
  fault_tail old new arms are source left out taken hears =
      λ agrees rest_in may plies end last w.
      let h = hears.heard rest_in may in
      let gives : reads (arena.arms cursor.number) old.more (hears.bytes ++ rest_in)
      ≡ refuse hears.refused h.0 =
      subst (λ (z : List (Arm Step ℕ Value)). reads z old.more (hears.bytes ++ rest_in)
      ≡ refuse hears.refused h.0) are h.1 in
      lacks_by hears.refused h.0 (record { left = hears.bytes ++ rest_in; more = old.more })
      (record { left = rest_in; more = new.more }) last plies end w (stands agrees)
      gives h.2
