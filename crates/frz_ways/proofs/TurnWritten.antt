-- What a turn of a way wrote and took, by what was due.
use Rattle.std.proofs.Common.{◌≡◌, ◌==◌, ◌++◌, ℕ, zero, suc, inl, inr, Bool, true, false, List, [], map, Option, refl, sym, subst, ap, ◌∙◌, get_or, if◌then◌else◌, Result, Ok, Err, append-nil}
use Rattle.std.specs.Prelude.{codes}
use Rattle.std.specs.Result.{IsErrAnd}
use Rattle.frz_board.specs.declared.man.Colour.{Colour}
use Rattle.frz_board.specs.Men.{same_colour}
use Rattle.frz_board.specs.Moving.{Step}
use Rattle.frz_sets.specs.declared.exit.Value.{Value}
use Rattle.frz_store.specs.Told.{SourceTold, SinkTold}
use Rattle.frz_store.specs.declared.outside.StoreFault.{StoreFault}
use Rattle.frz_store.specs.declared.outside.StoreFault.TheVariants.{Failed, NoMemory}
use Rattle.frz_answer.specs.Answers.{IsLines}
use Rattle.frz_answer.specs.Texts.{TookText, FailedWithin}
use Rattle.frz_answer.proofs.Lemmas.{took_nothing, took_behind, failed_behind, lines_behind}
use Rattle.frz_arena.specs.declared.arm.Arm.{Arm}
use Rattle.frz_arena.specs.Arena.{Arena}
use Rattle.frz_arena.specs.WayEnds.{Wrong, NoBound, Mated, Stalemated, Cut, Stopped}
use Rattle.frz_arena.specs.Ways.{Over as OverWay}
use Rattle.frz_graph.specs.EntryCodes.{arm_code}
use Rattle.frz_graph.specs.Finite.{IsFinite}
use Rattle.frz_bound_lines.specs.BoundLines.{side_name, kept_words, kept_line}
use Rattle.frz_ways.specs.declared.due.Due.{Due}
use Rattle.frz_ways.specs.declared.due.Due.TheVariants as dues
use Rattle.frz_ways.specs.declared.end.LineFault.TheVariants as faults
use Rattle.frz_ways.specs.Faults.{fault_of}
use Rattle.frz_ways.specs.Kept.{MayRead}
use Rattle.frz_ways.proofs.CodesGathered.{any_read}
use Rattle.frz_ways.specs.Texts.{arm_text}
use Rattle.frz_ways.proofs.MoveChosen.{AsksForOne, FillsLocal}
use Rattle.frz_ways.proofs.Stages.{stage_told}
use Rattle.frz_ways.proofs.TextLines.{as_lines, ends_arm, ends_behind}
use Rattle.frz_ways.specs.declared.way_end.WayEnd.{WayEnd}
use Rattle.frz_ways.specs.declared.way_end.WayEnd.TheVariants as ends
use Rattle.frz_ways.specs.declared.session_end.PlayFault.{PlayFault}
use Rattle.frz_ways.specs.declared.session_end.PlayFault.TheVariants as plays
use Rattle.frz_ways.specs.declared.hearing.Heard.{Heard}
use Rattle.frz_ways.specs.declared.hearing.Heard.TheVariants as heard
use Rattle.frz_ways.specs.declared.hearing.Reader.{Reader}
use Rattle.frz_ways.specs.declared.hearing.Why.TheVariants.{Ended, Limit}
use Rattle.frz_ways.specs.declared.playing.Cursor.{Cursor}
use Rattle.frz_ways.specs.declared.playing.Turn.{Turn}
use Rattle.frz_ways.specs.declared.playing.Turn.TheVariants.{Over}
use Rattle.frz_ways.specs.declared.opponent.Opponent.{Opponent}
use Rattle.frz_ways.specs.WayEnds.{told, Finishes}
use Rattle.frz_ways.specs.SessionFaults.{WroteBy, TookBytes}
use Rattle.frz_ways.specs.Hearing.{StaysEnded, Hears}
use Rattle.frz_ways.specs.Ways.{EndOfWay}
use Rattle.frz_ways.specs.SessionTexts.{refused_text, end_text}
use Rattle.frz_ways.specs.Turns.{moved_text, opening, turn_of, by_codes, due_at, own_word, Answers, PlaysByCodes, PlaysPly, AfterHeard, Unread, IsPlayed, GoesBy, wrong_at}
use Rattle.frz_ways.proofs.TurnFaulted.{IsStoreFault, store_goes, opening_failed, opened_tail, fault_tail}
use Rattle.frz_ways.proofs.Taking.{took_none}
use Rattle.frz_ways.proofs.TurnsLeaveWays.{Stands, TailBy, turn_over, way_stage, over_tail, own_tail, reply_tail, stop_tail}

pub moved_lines : (word : List ℕ) (a : Arm Step ℕ Value) → IsLines (moved_text word a)
moved_lines word a = as_lines (moved_text word a) (ends_behind word (arm_text a) (ends_arm a))

refused_lines : (n : ℕ) → IsLines (refused_text n)
refused_lines zero = inl refl
refused_lines (suc n) = lines_behind (codes "illegal\n") (refused_text n)
    (inr (codes "illegal", refl)) (refused_lines n)

kept_lines : (side : Colour) (code : ℕ) → IsLines (kept_line side code)
kept_lines side code = inr (side_name side ++ kept_words code, refl)

lines_if : (b : Bool) (text : List ℕ) → IsLines text → IsLines (if b then text else [])
lines_if true text l = l
lines_if false text l = inl refl

pub opening_lines : (side : Colour) (cursor : Cursor) (due : Due) → IsLines (opening side cursor due)
opening_lines side cursor (dues.Wrong given) = inl refl
opening_lines side cursor dues.NoBound = inl refl
opening_lines side cursor (dues.Mate m) =
    lines_if (cursor.played == 0) (kept_line side cursor.code) (kept_lines side cursor.code)
opening_lines side cursor (dues.Stalemate m) =
    lines_if (cursor.played == 0) (kept_line side cursor.code) (kept_lines side cursor.code)
opening_lines side cursor dues.Cut =
    lines_if (cursor.played == 0) (kept_line side cursor.code) (kept_lines side cursor.code)
opening_lines side cursor (dues.Ply m) =
    lines_if (cursor.played == 0) (kept_line side cursor.code) (kept_lines side cursor.code)

-- a text behind one that was taken
pub wrote_after : {T : Type 0} (text more : List ℕ) (result : Result T PlayFault)
    (old mid new : SinkTold) → TookText text old mid → WroteBy result more mid new
    → WroteBy result (text ++ more) old new
wrote_after text more (Ok x) old mid new t w =
    took_behind text more (text ++ more) old mid new t refl w
wrote_after text more (Err plays.Input) old mid new t w =
    took_behind text more (text ++ more) old mid new t refl w
wrote_after text more (Err (plays.Limit l)) old mid new t w =
    took_behind text more (text ++ more) old mid new t refl w
wrote_after text more (Err (plays.Line faults.Outside)) old mid new t w =
    took_behind text more (text ++ more) old mid new t refl w
wrote_after text more (Err (plays.Line faults.NoBound)) old mid new t w =
    took_behind text more (text ++ more) old mid new t refl w
wrote_after text more (Err (plays.Line (faults.Wrong x))) old mid new t w =
    took_behind text more (text ++ more) old mid new t refl w
wrote_after text more (Err (plays.Line faults.Store)) old mid new t w =
    took_behind text more (text ++ more) old mid new t refl w
wrote_after text more (Err (plays.Line faults.Output)) old mid new t w =
    failed_behind text more (text ++ more) old mid new t refl w
wrote_after text more (Err (plays.Line faults.NoMemory)) old mid new t w =
    took_behind text more (text ++ more) old mid new t refl w

-- the same fault, whatever was to be answered
pub same_wrote : (A B : Type 0) (fault : PlayFault) (text : List ℕ) (old new : SinkTold)
    → WroteBy {T = A} (Err fault) text old new → WroteBy {T = B} (Err fault) text old new
same_wrote A B plays.Input text old new w = w
same_wrote A B (plays.Limit l) text old new w = w
same_wrote A B (plays.Line faults.Outside) text old new w = w
same_wrote A B (plays.Line faults.NoBound) text old new w = w
same_wrote A B (plays.Line (faults.Wrong x)) text old new w = w
same_wrote A B (plays.Line faults.Store) text old new w = w
same_wrote A B (plays.Line faults.Output) text old new w = w
same_wrote A B (plays.Line faults.NoMemory) text old new w = w

by_answers : (turn : Turn) (text : List ℕ) (result : Result Turn PlayFault) (old new : SinkTold)
    → Answers turn text result old new → WroteBy result text old new
by_answers turn text result old new (inl a) =
    subst (λ (z : Result Turn PlayFault). WroteBy z text old new) (sym a.0) a.1
by_answers turn text result old new (inr a) =
    subst (λ (z : Result Turn PlayFault). WroteBy z text old new) (sym a.0) a.1

-- what a turn wrote and took
abbrev pub TurnWrote : Option (List ℕ) → (size : ℕ) → Arena Step ℕ Value → Opponent → Colour
    → Cursor → (old new : Reader)
    → Result Turn PlayFault → (source left : SourceTold) → (out taken : SinkTold) → Type 0
TurnWrote known size arena opponent side cursor old new result source left out taken =
    (text bytes : List ℕ) × IsLines text × WroteBy result text out taken
    × TookBytes bytes source left
    × StaysEnded old new bytes
    × ((read : List ℕ) × MayRead known size read
    × ((kept : ℕ → List ℕ) → kept (suc cursor.played) ≡ read
    → GoesBy arena opponent side kept cursor old new bytes text result))

-- the same behind the opening
record Tail (is : (ℕ → List ℕ) → Type 0) (arena : Arena Step ℕ Value) (opponent : Opponent)
    (side : Colour) (cursor : Cursor)
    (old new : Reader) (result : Result Turn PlayFault) (source left : SourceTold)
    (out taken : SinkTold) : Type 0 where
  pub text : List ℕ
  pub bytes : List ℕ
  pub lines : IsLines text
  pub wrote : WroteBy result text out taken
  pub took : TookBytes bytes source left
  pub stays : StaysEnded old new bytes
  pub goes : (kept : ℕ → List ℕ) → is kept
      → TailBy arena opponent side kept cursor old new bytes text result

pub store_fault : (fault : StoreFault) → IsStoreFault (plays.Line (fault_of fault))
store_fault Failed = record { is = inl refl }
store_fault NoMemory = record { is = inr refl }

store_wrote : (fault : StoreFault) (out : SinkTold)
    → WroteBy {T = Turn} (Err (plays.Line (fault_of fault))) [] out out
store_wrote Failed out = took_nothing out
store_wrote NoMemory out = took_nothing out

-- the store failed before anything was written
pub stopped_by : (known : Option (List ℕ)) (size : ℕ) (arena : Arena Step ℕ Value)
    (opponent : Opponent) (side : Colour) (cursor : Cursor)
    (reader : Reader) (fault : StoreFault) (result : Result Turn PlayFault) (source : SourceTold)
    (out : SinkTold) → IsErrAnd result (λ e. e ≡ plays.Line (fault_of fault))
    → TurnWrote known size arena opponent side cursor reader reader result source source out out
stopped_by known size arena opponent side cursor reader fault (Ok turn) source out h = absurd h
stopped_by known size arena opponent side cursor reader fault (Err e) source out h =
    let any = any_read known size in
    subst (λ (f : PlayFault). TurnWrote known size arena opponent side cursor reader reader (Err f)
    source source out out) (sym h) (
      [],
      [],
      inl refl,
      store_wrote fault out,
      took_none source source refl,
      λ e. (refl, e),
      (
        any.0,
        any.1,
        λ kept same. store_goes arena opponent side kept cursor reader
            (plays.Line (fault_of fault)) (store_fault fault),
      ),
    )

module _ (one : AsksForOne) (fills : FillsLocal)
    {arena : Arena Step ℕ Value} {size : ℕ} (finite : IsFinite arena size)
    (opponent : Opponent) (side : Colour) (cursor : Cursor) {arms : List (Arm Step ℕ Value)}
    (cs : List ℕ) (are : arms ≡ arena.arms cursor.number) where
  -- these codes were read for these moves in this turn
  abbrev pub IsReadBy : (ℕ → List ℕ) → Type 0
  IsReadBy kept = cs ≡ map (arm_code side (kept (suc cursor.played))) arms

  -- they are some codes that may be read
  abbrev pub AreRead : Option (List ℕ) → (many : ℕ) → Type 0
  AreRead known many =
      (codes : List ℕ) × MayRead known many codes × (cs ≡ map (arm_code side codes) arms)

  read_by : (known : Option (List ℕ)) (many : ℕ) (read : AreRead known many) (kept : ℕ → List ℕ)
      → kept (suc cursor.played) ≡ read.0 → IsReadBy kept
  read_by known many read kept same =
      subst (λ (z : List ℕ). cs ≡ map (arm_code side z) arms) (sym same) read.2

  abbrev IsDue : Due → Type 0
  IsDue due = due ≡ due_at arena opponent side cursor arms cs

  stage_stands_as_due : (due : Due) → IsDue due → (kept : ℕ → List ℕ) → IsReadBy kept
      → Stands arena opponent side kept cursor (stage_told (cursor.played, cursor.number) cursor.code due)
  stage_stands_as_due due e kept same =
      way_stage fills arena size finite opponent side cursor arms cs kept are same due e

  -- the sink failed within the opening
  pub opening_wrote : (known : Option (List ℕ)) (many : ℕ) → AreRead known many
      → (due : Due) → IsDue due → (reader : Reader) (result : Result Turn PlayFault)
      (source : SourceTold) (out taken : SinkTold)
      → IsErrAnd result (λ e. e ≡ plays.Line faults.Output)
      → FailedWithin (opening side cursor due) out taken
      → TurnWrote known many arena opponent side cursor reader reader result source source out taken
  opening_wrote known many read due e reader (Ok turn) source out taken h failed = absurd h
  opening_wrote known many read due e reader (Err f) source out taken h failed =
      subst (λ (z : PlayFault). TurnWrote known many arena opponent side cursor reader reader (Err z)
      source source out taken) (sym h) (
        opening side cursor due,
        [],
        opening_lines side cursor due,
        failed,
        took_none source source refl,
        λ x. (refl, x),
        (
          read.0,
          read.1,
          λ kept same.
              opening_failed arena opponent side kept cursor due reader
              (stage_stands_as_due due e kept (read_by known many read kept same)),
        ),
      )

  -- a way that is over here: its text is that of its end
  over_wrote : (due : Due) → IsDue due → (f : EndOfWay)
      → (stage_told (cursor.played, cursor.number) cursor.code due ≡ OverWay f)
      → (old new : Reader) (answer : Result WayEnd PlayFault) (result : Result Turn PlayFault)
      (source left : SourceTold) (out taken : SinkTold) → Unread old new source left
      → result ≡ turn_over answer → IsLines (end_text f) → WroteBy result (end_text f) out taken
      → Finishes answer (told side f) [] []
      → Tail IsReadBy arena opponent side cursor old new result source left out taken
  over_wrote due e f stops old new answer result source left out taken unread is lines wrote
      finishes = record {
        text = end_text f;
        bytes = [];
        lines = lines;
        wrote = wrote;
        took = took_none source left (ap (λ (z : SourceTold). z.left) unread.1);
        stays = λ x. (refl, ap (λ (z : Reader). z.ended) unread.0 ∙ x);
        goes = λ kept same.
            subst (λ (z : Reader). TailBy arena opponent side kept cursor old z [] (end_text f)
            result) (sym unread.0)
            (subst (λ (z : Result Turn PlayFault). TailBy arena opponent side kept cursor old old []
            (end_text f) z) (sym is)
            (over_tail arena opponent side kept cursor old (end_text f) f answer
            (λ agrees. stage_stands_as_due due e kept same agrees ∙ stops) refl
            finishes));
      }

  -- the kept code is not the local one
  wrong_wrote : (given : ℕ) → IsDue (dues.Wrong given) → (old new : Reader)
      (result : Result Turn PlayFault) (source left : SourceTold) (out taken : SinkTold)
      → Unread old new source left → result ≡ Err (wrong_at side cursor given)
      → WroteBy result [] out taken
      → Tail IsReadBy arena opponent side cursor old new result source left out taken
  wrong_wrote given e old new result source left out taken unread is wrote = record {
    text = [];
    bytes = [];
    lines = inl refl;
    wrote = wrote;
    took = took_none source left (ap (λ (z : SourceTold). z.left) unread.1);
    stays = λ x. (refl, ap (λ (z : Reader). z.ended) unread.0 ∙ x);
    goes = λ kept same.
        subst (λ (z : Reader). TailBy arena opponent side kept cursor old z [] [] result)
        (sym unread.0)
        (subst (λ (z : Result Turn PlayFault). TailBy arena opponent side kept cursor old old []
        [] z) (sym is)
        (over_tail arena opponent side kept cursor old [] (Wrong (cursor.played, cursor.number) cursor.code
        given) (Err (wrong_at side cursor given))
        (λ agrees. stage_stands_as_due (dues.Wrong given) e kept same agrees) refl
        (refl, refl, refl)));
  }

  ends_wrote : (due : Due) → IsDue due → (f : EndOfWay)
      → (stage_told (cursor.played, cursor.number) cursor.code due ≡ OverWay f)
      → (old new : Reader) (last : WayEnd) (result : Result Turn PlayFault)
      (source left : SourceTold) (out taken : SinkTold) → Unread old new source left
      → IsLines (end_text f) → Ok last ≡ told side f
      → Answers (Over last) (end_text f) result out taken
      → Tail IsReadBy arena opponent side cursor old new result source left out taken
  ends_wrote due e f stops old new last result source left out taken unread lines tells (inl a) =
      over_wrote due e f stops old new (Ok last) result source left out taken unread a.0 lines
      (by_answers (Over last) (end_text f) result out taken (inl a)) (tells, refl, refl)
  ends_wrote due e f stops old new last result source left out taken unread lines tells (inr a) =
      over_wrote due e f stops old new (Err (plays.Line faults.Output)) result source left out taken
      unread a.0 lines (by_answers (Over last) (end_text f) result out taken (inr a)) tt

  fault_wrote_nothing : (fault : PlayFault) (result : Result Turn PlayFault) (out taken : SinkTold)
      → WroteBy {T = Turn} (Err fault) [] out out → result ≡ Err fault → taken ≡ out
      → WroteBy result [] out taken
  fault_wrote_nothing fault result out taken w e same =
      subst (λ (z : Result Turn PlayFault). WroteBy z [] out taken) (sym e)
      (subst (λ (z : SinkTold). WroteBy {T = Turn} (Err fault) [] out z) (sym same) w)

  -- what was written behind what was heard, and how the way goes on by it
  tail_with : {old new : Reader} {heard_is : Result Heard PlayFault}
      {result : Result Turn PlayFault} {source left : SourceTold} {out between taken : SinkTold}
      (hears : Hears arms old new heard_is source left out between) (text : List ℕ) → IsLines text
      → WroteBy result text out taken → ((kept : ℕ → List ℕ) → IsReadBy kept
      → TailBy arena opponent side kept cursor old new hears.bytes text result)
      → Tail IsReadBy arena opponent side cursor old new result source left out taken
  tail_with {old} {new} {result = result} hears text lines wrote goes = record {
    text = text;
    bytes = hears.bytes;
    lines = lines;
    wrote = wrote;
    took = hears.took;
    stays = hears.stays;
    goes = goes;
  }

  -- the input has ended
  ended_by : (m : Colour) → IsDue (dues.Ply m) → by_codes opponent (same_colour m side) ≡ false
      → (old new : Reader) (answer : Result WayEnd PlayFault) (result : Result Turn PlayFault)
      (source left : SourceTold) (out between taken : SinkTold)
      → (hears : Hears arms old new (Ok (heard.Stop Ended)) source left out between)
      → result ≡ turn_over answer → WroteBy result (codes "input ended\n") between taken
      → Finishes answer (told side (Stopped (record { refused = hears.refused; why = Ended }))) []
      []
      → Tail IsReadBy arena opponent side cursor old new result source left out taken
  ended_by m e own old new answer result source left out between taken hears is wrote finishes =
      let text = refused_text hears.refused ++ codes "input ended\n" in
      tail_with hears text
      (lines_behind (refused_text hears.refused) (codes "input ended\n")
      (refused_lines hears.refused) (inr (codes "input ended", refl)))
      (wrote_after (refused_text hears.refused) (codes "input ended\n") result out between taken
      hears.wrote wrote) (λ kept same.
      subst (λ (z : Result Turn PlayFault). TailBy arena opponent side kept cursor old new hears.bytes
      text z) (sym is) (stop_tail arena opponent side m kept cursor old new own
      (stage_stands_as_due (dues.Ply m) e kept same) arms are
      source left out between Ended hears answer finishes))

  ended_wrote : (m : Colour) → IsDue (dues.Ply m) → by_codes opponent (same_colour m side) ≡ false
      → (old new : Reader) (result : Result Turn PlayFault) (source left : SourceTold)
      (out between taken : SinkTold)
      → (hears : Hears arms old new (Ok (heard.Stop Ended)) source left out between)
      → Answers (Over ends.InputEnded) (codes "input ended\n") result between taken
      → Tail IsReadBy arena opponent side cursor old new result source left out taken
  ended_wrote m e own old new result source left out between taken hears (inl a) =
      ended_by m e own old new (Ok ends.InputEnded) result source left out between taken hears a.0
      (by_answers (Over ends.InputEnded) (codes "input ended\n") result between taken (inl a))
      (refl, refl, refl)
  ended_wrote m e own old new result source left out between taken hears (inr a) =
      ended_by m e own old new (Err (plays.Line faults.Output)) result source left out between taken
      hears a.0 (by_answers (Over ends.InputEnded) (codes "input ended\n") result between taken
      (inr a)) tt

  -- the reply, by what was heard
  reply_wrote : (m : Colour) → IsDue (dues.Ply m) → by_codes opponent (same_colour m side) ≡ false
      → (old new : Reader) (heard_is : Result Heard PlayFault) (result : Result Turn PlayFault)
      (source left : SourceTold) (out between taken : SinkTold)
      → Hears arms old new heard_is source left out between
      → AfterHeard arms cs heard_is result between taken
      → Tail IsReadBy arena opponent side cursor old new result source left out taken
  reply_wrote m e own old new (Ok (heard.Reply place)) result source left out between taken
      hears h =
      let text = refused_text hears.refused ++ moved_text (codes "reply ") h.0 in
      tail_with hears text
      (lines_behind (refused_text hears.refused) (moved_text (codes "reply ") h.0)
      (refused_lines hears.refused) (moved_lines (codes "reply ") h.0))
      (wrote_after (refused_text hears.refused) (moved_text (codes "reply ") h.0) result out between
      taken hears.wrote
      (by_answers (turn_of h.0.mv h.0.next (get_or cs place 0)) (moved_text (codes "reply ") h.0) result
      between taken h.2)) (λ kept same.
      reply_tail arena opponent side m kept cursor old new own
      (stage_stands_as_due (dues.Ply m) e kept same) arms cs are
      same source left out between taken place hears h.0 h.1 result h.2)
  reply_wrote m e own old new (Ok (heard.Stop Ended)) result source left out between taken hears h =
      ended_wrote m e own old new result source left out between taken hears h
  reply_wrote m e own old new (Ok (heard.Stop (Limit limit))) result source left out between taken
      hears h =
      let text = refused_text hears.refused in
      tail_with hears text (refused_lines hears.refused)
      (subst (λ (z : Result Turn PlayFault). WroteBy z text out taken) (sym h.0)
      (subst (λ (z : SinkTold). TookText text out z) (sym h.1) hears.wrote))
      (λ kept same.
      subst (λ (z : Result Turn PlayFault). TailBy arena opponent side kept cursor old new hears.bytes
      text z) (sym h.0)
      (subst (λ (t : List ℕ). TailBy arena opponent side kept cursor old new hears.bytes t
      (Err (plays.Limit limit))) (append-nil text)
      (stop_tail arena opponent side m kept cursor old new own
      (stage_stands_as_due (dues.Ply m) e kept same) arms are
      source left out between (Limit limit) hears (Err (plays.Limit limit)) (refl, refl, refl))))
  reply_wrote m e own old new (Err fault) result source left out between taken hears h =
      let text = refused_text hears.refused in
      tail_with hears text (refused_lines hears.refused)
      (subst (λ (z : Result Turn PlayFault). WroteBy z text out taken) (sym h.0)
      (subst (λ (z : SinkTold). WroteBy {T = Turn} (Err fault) text out z) (sym h.1)
      (same_wrote Heard Turn fault text out between hears.wrote)))
      (λ kept same.
      subst (λ (z : Result Turn PlayFault). TailBy arena opponent side kept cursor old new hears.bytes
      text z) (sym h.0)
      (fault_tail arena opponent side m kept cursor own
      (stage_stands_as_due (dues.Ply m) e kept same) fault
      (hears.fails fault refl) old new arms are source left out between hears))

  own_wrote : (m : Colour) → IsDue (dues.Ply m) → by_codes opponent (same_colour m side) ≡ true
      → (old new : Reader) (result : Result Turn PlayFault) (source left : SourceTold)
      (out taken : SinkTold) → Unread old new source left
      → PlaysByCodes opponent (same_colour m side) cursor arms cs result out taken
      → Tail IsReadBy arena opponent side cursor old new result source left out taken
  own_wrote m e own old new result source left out taken unread h =
      let place = h.0 in
      let a = h.3.0 in
      let text = moved_text (own_word opponent) a in
      record {
        text = text;
        bytes = [];
        lines = moved_lines (own_word opponent) a;
        wrote = by_answers (turn_of a.mv a.next (get_or cs place 0)) text result out taken h.3.2;
        took = took_none source left (ap (λ (z : SourceTold). z.left) unread.1);
        stays = λ x. (refl, ap (λ (z : Reader). z.ended) unread.0 ∙ x);
        goes = λ kept same.
            subst (λ (z : Reader). TailBy arena opponent side kept cursor old z [] text result)
            (sym unread.0)
            (own_tail one arena size finite opponent side m cursor old arms cs kept own are same
            (stage_stands_as_due (dues.Ply m) e kept same) place h.1 a h.2 h.3.1 result out taken
            h.3.2);
      }

  ply_wrote : (m : Colour) → IsDue (dues.Ply m) → (found : Bool)
      → by_codes opponent (same_colour m side) ≡ found → (old new : Reader)
      (result : Result Turn PlayFault) (source left : SourceTold) (out taken : SinkTold)
      → PlaysPly found opponent (same_colour m side) cursor arms cs old new result source left out
      taken → Tail IsReadBy arena opponent side cursor old new result source left out taken
  ply_wrote m e true own old new result source left out taken h =
      own_wrote m e own old new result source left out taken h.0 h.1
  ply_wrote m e false own old new result source left out taken h =
      reply_wrote m e own old new h.heard result source left out h.between taken h.hears h.after

  tail_wrote : (due : Due) → IsDue due → (old new : Reader) (result : Result Turn PlayFault)
      (source left : SourceTold) (out taken : SinkTold)
      → IsPlayed opponent side cursor due arms cs old new result source left out taken
      → Tail IsReadBy arena opponent side cursor old new result source left out taken
  tail_wrote (dues.Wrong given) e old new result source left out taken h =
      wrong_wrote given e old new result source left out taken h.0 h.1.0
      (fault_wrote_nothing (wrong_at side cursor given) result out taken (took_nothing out) h.1.0
      h.1.1)
  tail_wrote dues.NoBound e old new result source left out taken h =
      over_wrote dues.NoBound e NoBound refl old new (Err (plays.Line faults.NoBound))
      result source left out taken h.0 h.1.0 (inl refl)
      (fault_wrote_nothing (plays.Line faults.NoBound) result out taken (took_nothing out) h.1.0
      h.1.1)
      (refl, refl, refl)
  tail_wrote (dues.Mate m) e old new result source left out taken h =
      ends_wrote (dues.Mate m) e (Mated m) refl old new ends.Mate result source left out
      taken h.0 (inr (codes "mate", refl)) refl h.1
  tail_wrote (dues.Stalemate m) e old new result source left out taken h =
      ends_wrote (dues.Stalemate m) e (Stalemated m) refl old new ends.Stalemate result
      source left out taken h.0 (inr (codes "stalemate", refl)) refl h.1
  tail_wrote dues.Cut e old new result source left out taken h =
      ends_wrote dues.Cut e Cut refl old new ends.Cut result source left out taken h.0
      (inr (codes "cut", refl)) refl h.1
  tail_wrote (dues.Ply m) e old new result source left out taken h =
      ply_wrote m e (by_codes opponent (same_colour m side)) refl old new result source left out
      taken h

  -- what a turn wrote and took
  pub turn_wrote : (known : Option (List ℕ)) (many : ℕ) → AreRead known many
      → (due : Due) → IsDue due → (old new : Reader) (result : Result Turn PlayFault)
      (source left : SourceTold) (out mid taken : SinkTold)
      → TookText (opening side cursor due) out mid
      → IsPlayed opponent side cursor due arms cs old new result source left mid taken
      → TurnWrote known many arena opponent side cursor old new result source left out taken
  turn_wrote known many read due e old new result source left out mid taken opened h =
      let t = tail_wrote due e old new result source left mid taken h in (
        opening side cursor due ++ t.text,
        t.bytes,
        lines_behind (opening side cursor due) t.text (opening_lines side cursor due) t.lines,
        wrote_after (opening side cursor due) t.text result out mid taken opened t.wrote,
        t.took,
        t.stays,
        (
          read.0,
          read.1,
          λ kept same.
              opened_tail arena opponent side kept cursor due old new t.bytes t.text result
              (stage_stands_as_due due e kept (read_by known many read kept same))
              (t.goes kept (read_by known many read kept same)),
        ),
      )
