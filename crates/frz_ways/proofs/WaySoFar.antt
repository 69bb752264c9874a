-- A way as far as it was played.
use Rattle.std.proofs.Common.{◌≡◌, ◌==◌, ◌++◌, ℕ, suc, inl, Bool, false, List, [], ◌∷◌, Option, refl, sym, subst, ap, ◌∙◌, arith, if◌then◌else◌, Result, Ok, Err, append_assoc, ◌<◌, ◌+◌}
use Rattle.std.specs.Prelude.{slice_index, ⊤}
use Rattle.std.specs.Result.{IsErrAnd}
use Rattle.std.proofs.lemmas.Bool.Decides.{nat_tests}
use Rattle.frz_board.specs.declared.man.Colour.{Colour}
use Rattle.frz_board.specs.Moving.{Step}
use Rattle.frz_sets.specs.declared.exit.Value.{Value}
use Rattle.frz_store.specs.Files.{Files}
use Rattle.frz_store.specs.Told.{SourceTold, SinkTold}
use Rattle.frz_answer.specs.Answers.{IsLines}
use Rattle.frz_answer.specs.Texts.{TookText}
use Rattle.frz_answer.specs.World.{Spent}
use Rattle.frz_answer.proofs.Lemmas.{took_nothing, took_behind, lines_behind}
use Rattle.frz_arena.specs.declared.arm.Next.TheVariants.{Inside}
use Rattle.frz_arena.specs.Arena.{Arena}
use Rattle.frz_ways.specs.Costs.{way_numbers, SpendsAt}
use Rattle.frz_ways.specs.Kept.{MayRead}
use Rattle.frz_ways.proofs.CodesGathered.{any_read}
use Rattle.frz_ways.proofs.CodesKept.{may_before}
use Rattle.frz_ways.proofs.ReadBefore.{and_now, each_may_be_read, read_before_stays, read_now_is_now}
use Rattle.frz_ways.proofs.Spending.{came_on, nothing_spent, spends_last, spends_on}
use Rattle.frz_ways.specs.declared.way_end.Finish.{Finish}
use Rattle.frz_ways.specs.declared.way_end.Finish.TheVariants.{Here, Left}
use Rattle.frz_ways.specs.declared.way_end.WayEnd.{WayEnd}
use Rattle.frz_ways.specs.declared.session_end.PlayFault.{PlayFault}
use Rattle.frz_ways.specs.declared.hearing.Reader.{Reader}
use Rattle.frz_ways.specs.declared.playing.Cursor.{Cursor}
use Rattle.frz_ways.specs.declared.playing.Turn.{Turn}
use Rattle.frz_ways.specs.declared.playing.Turn.TheVariants.{Over, Out, On}
use Rattle.frz_ways.specs.declared.opponent.Opponent.{Opponent}
use Rattle.frz_ways.specs.PlayWay.{LeftBy, Plays}
use Rattle.frz_ways.specs.WayEnds.{ended, told, Finishes}
use Rattle.frz_ways.specs.SessionFaults.{WroteBy, TookBytes}
use Rattle.frz_ways.specs.Hearing.{MayFollow, StaysEnded}
use Rattle.frz_ways.specs.Reading.{Input}
use Rattle.frz_ways.specs.Ways.{WayPly, EndOfWay, GoesOn}
use Rattle.frz_ways.specs.SessionTexts.{end_text, start_line}
use Rattle.frz_ways.specs.WayTexts.{plies_text, way_text}
use Rattle.frz_ways.specs.Turns.{rest_text, Leaves, GoesBy}
use Rattle.frz_ways.proofs.Taking.{took_none, took_on}
use Rattle.frz_ways.proofs.TurnWritten.{wrote_after, same_wrote}

-- what is left of a way from the start, behind the text that was written and the numbers that it
-- came to
pub record IsLeft (arena : Arena Step ℕ Value) (opponent : Opponent) (side : Colour)
    (kept : ℕ → List ℕ) (start code : ℕ) (cursor : Cursor) (input : Input) (numbers text : List ℕ)
    (plies : List WayPly) (end : EndOfWay) (last : Input) : Type 0 where
  pub agrees : slice_index (kept cursor.played) cursor.number ≡ cursor.code
  pub front : List WayPly
  pub others : List WayPly
  pub whole : plies ≡ front ++ others
  pub way : GoesOn arena opponent side kept cursor.played input cursor.number others end last
  pub is : text ++ rest_text opponent side cursor others end ≡ way_text opponent side code plies end
  pub came : numbers ++ way_numbers (Inside (cursor.played, cursor.number)) others
      ≡ way_numbers (Inside (0, start)) plies

-- each way from the start against these bytes, with so many lines to read, comes by here
abbrev pub ComeBy : Arena Step ℕ Value → Opponent → Colour → (ℕ → List ℕ) → (start code : ℕ)
    → (more : ℕ) → Cursor → Reader → (numbers bytes text : List ℕ) → Type 0
ComeBy arena opponent side kept start code more cursor reader numbers bytes text =
    slice_index (kept 0) start ≡ code → (left : List ℕ) → MayFollow reader left →
    (plies : List WayPly) (end : EndOfWay) (last : Input) →
    GoesOn arena opponent side kept 0 (record { left = bytes ++ left; more = more }) start plies end
    last →
    IsLeft arena opponent side kept start code cursor (record { left = left; more = reader.more })
    numbers text plies end last

pub record SoFar (known : Option (List ℕ)) (size : ℕ) (arena : Arena Step ℕ Value)
    (opponent : Opponent) (side : Colour)
    (start code : ℕ) (first : Reader) (cursor : Cursor) (reader : Reader)
    (source left : SourceTold) (out taken : SinkTold) (before now : Spent) : Type 0 where
  pub text : List ℕ
  pub bytes : List ℕ
  pub lines : IsLines text
  pub wrote : TookText text out taken
  pub took : TookBytes bytes source left
  pub stays : StaysEnded first reader bytes
  pub numbers : List ℕ
  pub spent : SpendsAt arena 0 numbers before now
  -- what was read after each ply
  pub read : ℕ → List ℕ
  pub may : (k : ℕ) → MayRead known size (read k)
  pub comes : (kept : ℕ → List ℕ) → ((k : ℕ) → k < cursor.played → kept (suc k) ≡ read k) →
      ComeBy arena opponent side kept start code first.more cursor reader numbers bytes text

pub at_start : (known : Option (List ℕ)) (size : ℕ) (arena : Arena Step ℕ Value)
    (opponent : Opponent) (side : Colour)
    (start code : ℕ) (first : Reader) (source : SourceTold) (out : SinkTold) (now : Spent)
    → SoFar known size arena opponent side start code first
    (record { number = start; code = code; played = 0 }) first source source out out now now
at_start known size arena opponent side start code first source out now = record {
  text = [];
  bytes = [];
  lines = inl refl;
  wrote = took_nothing out;
  took = took_none source source refl;
  stays = λ e. (refl, e);
  numbers = [];
  spent = nothing_spent arena now;
  read = λ k. (any_read known size).0;
  may = λ k. (any_read known size).1;
  comes = λ kept same agrees left may plies end last w.
      record {
        agrees = agrees;
        front = [];
        others = plies;
        whole = refl;
        way = w;
        is = refl;
        came = refl;
      };
}

next_is_not_zero : (k : ℕ) → (k + 1 == 0) ≡ false
next_is_not_zero k = grind (arith, nat_tests)

follows_both : (old new : Reader) (bytes left : List ℕ) → StaysEnded old new bytes
    → MayFollow new left → MayFollow old (bytes ++ left)
follows_both old new bytes left stays may = λ e.
    let s = stays e in ap (λ (l : List ℕ). l ++ left) s.0 ∙ may s.1

-- a ply was played
after_ply : (arena : Arena Step ℕ Value) (opponent : Opponent) (side : Colour) (kept : ℕ → List ℕ)
    (start code lines : ℕ) (cursor next : Cursor) (old new : Reader)
    (numbers bytes more text written : List ℕ)
    → next.played ≡ cursor.played + 1 → StaysEnded old new more
    → ComeBy arena opponent side kept start code lines cursor old numbers bytes text
    → GoesBy arena opponent side kept cursor old new more written (Ok (On next.number next.code))
    → ComeBy arena opponent side kept start code lines next new (numbers ++ cursor.number ∷ [])
    (bytes ++ more) (text ++ written)
after_ply arena opponent side kept start code lines cursor next old new numbers bytes more text
    written e stays comes goes = λ agrees left may plies end last w.
    let v = subst (λ (l : List ℕ). GoesOn arena opponent side kept 0
    (record { left = l; more = lines }) start plies end last) (append_assoc bytes more left) w in
    let l = comes agrees (more ++ left) (follows_both old new more left stays may) plies end last
    v in
    let g = goes l.agrees left may l.others end last l.way in
    let others = g.2.1.1 in
    let here : Input = record { left = left; more = new.more } in
    let played : suc cursor.played ≡ next.played = (omega (arith, e)) in
    let later : (next.played == 0) ≡ false = subst (λ (k : ℕ). (k == 0) ≡ false) (sym e)
    (next_is_not_zero cursor.played) in
    let rest : rest_text opponent side next others end ≡ g.0 =
    ap (λ (b : Bool). (if b then start_line side next.code others end else [])
    ++ (plies_text opponent side others ++ end_text end)) later ∙ sym g.2.1.5 in
    record {
      agrees = subst (λ k. slice_index (kept k) next.number ≡ next.code) played g.2.0;
      front = l.front ++ g.2.1.0 ∷ [];
      others = others;
      whole = l.whole ∙ (ap (λ (ys : List WayPly). l.front ++ ys) g.2.1.2
          ∙ sym (append_assoc l.front (g.2.1.0 ∷ []) others));
      way = subst (λ k. GoesOn arena opponent side kept k here next.number others end last) played
          g.2.1.4;
      is = ap (λ (z : List ℕ). (text ++ written) ++ z) rest
          ∙ (append_assoc text written g.0 ∙ (ap (λ (z : List ℕ). text ++ z) g.1 ∙ l.is));
      came = subst
          (λ k. (numbers ++ cursor.number ∷ []) ++ way_numbers (Inside (k, next.number)) others
          ≡ way_numbers (Inside (0, start)) plies) played
          (came_on numbers cursor.played cursor.number (suc cursor.played, next.number) l.others others
          g.2.1.0 (way_numbers (Inside (0, start)) plies) l.came g.2.1.2 g.2.1.3);
    }

-- the turn by which a way finishes so
abbrev pub turn_at : Finish → Turn
turn_at (Here end) = Over end
turn_at (Left number move v) = Out move v

abbrev pub finishes_by : Result Finish PlayFault → Result Turn PlayFault
finishes_by (Ok finish) = Ok (turn_at finish)
finishes_by (Err fault) = Err fault

-- what leaves the set does so from this number
abbrev pub IsFrom : (number : ℕ) → Result Finish PlayFault → Type 0
IsFrom number (Ok (Left from move v)) = number ≡ from
IsFrom number result = ⊤

module _ (arena : Arena Step ℕ Value) (opponent : Opponent) (side : Colour) (kept : ℕ → List ℕ)
    (cursor : Cursor) (left : Input) (end : EndOfWay) (last : Input) (rest : List ℕ) where
  pub left_over : (plies : List WayPly) (answer : Result Finish PlayFault)
      → Leaves arena opponent side kept cursor left plies end last rest (finishes_by answer)
      → (unread : List ℕ) × (unread ++ last.left ≡ left.left)
      × Finishes (ended answer) (told side end) rest unread
  left_over plies (Ok (Here answer)) h = h
  left_over plies (Ok (Left number move v)) h = (
    [],
    ap (λ (z : Input). z.left) h.1.1,
    (ap (told side) (sym h.1.0), h.0, refl),
  )
  left_over plies (Err fault) h = h

  pub left_by : (front others plies : List WayPly) (answer : Result Finish PlayFault)
      → plies ≡ front ++ others → IsFrom cursor.number answer
      → Leaves arena opponent side kept cursor left others end last rest (finishes_by answer)
      → LeftBy answer left plies end last
  left_by front others plies (Ok (Here answer)) whole from h = tt
  left_by front others plies (Ok (Left number move v)) whole from h =
      let on = h.1.2 in (
        h.1.0,
        h.1.1,
        (
          front,
          on.0,
          whole ∙ ap (λ (ys : List WayPly). front ++ ys) on.1,
          ap (λ (p : ℕ × ℕ). p.1) on.2 ∙ from,
          on.3,
        ),
      )
  left_by front others plies (Err fault) whole from h = tt

-- the last turn
played_out : (arena : Arena Step ℕ Value) (opponent : Opponent) (side : Colour) (kept : ℕ → List ℕ)
    (start code : ℕ) (cursor : Cursor) (first old new : Reader)
    (numbers bytes more text next : List ℕ)
    (answer : Result Finish PlayFault) (before now after : Spent)
    → SpendsAt arena 0 numbers before now
    → SpendsAt arena 0 (cursor.number ∷ []) now after → StaysEnded old new more
    → IsFrom cursor.number answer
    → ComeBy arena opponent side kept start code first.more cursor old numbers bytes text
    → GoesBy arena opponent side kept cursor old new more next (finishes_by answer)
    → Plays arena opponent side kept start code first new (bytes ++ more) (text ++ next) answer
    before after
played_out arena opponent side kept start code cursor first old new numbers bytes more text next
    answer before now after b n stays from comes goes =
    λ agrees rest may plies end last w.
    let v = subst (λ (l : List ℕ). GoesOn arena opponent side kept 0
    (record { left = l; more = first.more }) start plies end last)
    (append_assoc bytes more rest) w in
    let l = comes agrees (more ++ rest) (follows_both old new more rest stays may) plies end last v
    in
    let g = goes l.agrees rest may l.others end last l.way in
    let here : Input = record { left = rest; more = new.more } in
    let o = left_over arena opponent side kept cursor here end last g.0 l.others answer g.2 in (
      record {
        rest = g.0;
        unread = o.0;
        begins = append_assoc text next g.0 ∙ (ap (λ (z : List ℕ). text ++ z) g.1 ∙ l.is);
        takes = ap (λ (z : List ℕ). (bytes ++ more) ++ z) o.1;
        finishes = o.2;
      },
      spends_last arena numbers cursor.played cursor.number l.others
          (way_numbers (Inside (0, start)) plies) before now after l.came b n,
      left_by arena opponent side kept cursor here end last g.0 l.front l.others plies answer l.whole
          from g.2,
    )

-- what a way wrote and took
abbrev pub WayWrote : Option (List ℕ) → (size : ℕ) → Arena Step ℕ Value → Opponent → Colour
    → (start code : ℕ) → (first last : Reader)
    → Result Finish PlayFault → (source left : SourceTold) → (out taken : SinkTold)
    → (before now : Spent) → Type 0
WayWrote known size arena opponent side start code first last result source left out taken before
    now =
    (text bytes : List ℕ) × IsLines text × WroteBy result text out taken
    × TookBytes bytes source left × StaysEnded first last bytes
    × ((read : ℕ → List ℕ) × ((k : ℕ) → MayRead known size (read k))
    × ((kept : ℕ → List ℕ) → ((k : ℕ) → kept (suc k) ≡ read k)
    → Plays arena opponent side kept start code first last bytes text result before now))

-- what a turn wrote and took, and what was read in it
abbrev pub TurnWrote : Option (List ℕ) → (size : ℕ) → Arena Step ℕ Value → Opponent → Colour
    → Cursor → (old new : Reader) → Result Turn PlayFault → (source left : SourceTold)
    → (out taken : SinkTold) → Type 0
TurnWrote known size arena opponent side cursor old new result source left out taken =
    (text bytes : List ℕ) × IsLines text × WroteBy result text out taken
    × TookBytes bytes source left × StaysEnded old new bytes
    × ((now : List ℕ) × MayRead known size now
    × ((kept : ℕ → List ℕ) → kept (suc cursor.played) ≡ now
    → GoesBy arena opponent side kept cursor old new bytes text result))

over_wrote : (answer : Result Finish PlayFault) (text : List ℕ) (old new : SinkTold)
    → WroteBy (finishes_by answer) text old new → WroteBy answer text old new
over_wrote (Ok answer) text old new w = w
over_wrote (Err fault) text old new w = same_wrote Turn Finish fault text old new w

-- a fault that was answered
fault_wrote : (known : Option (List ℕ)) (size : ℕ) (arena : Arena Step ℕ Value)
    (opponent : Opponent) (side : Colour) (start code : ℕ) (first last : Reader)
    (source left : SourceTold) (out taken : SinkTold) (before now : Spent)
    (fault : PlayFault) (result : Result Finish PlayFault) → IsErrAnd result (λ e. e ≡ fault)
    → WayWrote known size arena opponent side start code first last (Err fault) source left out
    taken before now
    → WayWrote known size arena opponent side start code first last result source left out taken
    before now
fault_wrote known size arena opponent side start code first last source left out taken before now
    fault (Ok end) h w =
    absurd h
fault_wrote known size arena opponent side start code first last source left out taken before now
    fault (Err e) h w =
    subst (λ (f : PlayFault). WayWrote known size arena opponent side start code first last (Err f)
    source left out taken before now) (sym h) w

pub stays_on : (first old new : Reader) (bytes more : List ℕ) → StaysEnded first old bytes
    → StaysEnded old new more → StaysEnded first new (bytes ++ more)
stays_on first old new bytes more before now = λ e.
    let b = before e in
    let n = now b.1 in
    (ap (λ (l : List ℕ). l ++ more) b.0 ∙ n.0, n.1)

-- one turn more, which left the reader so and was played by the same files
module _ (known : Option Files → Option (List ℕ)) {files now_files : Option Files} {size : ℕ}
    {arena : Arena Step ℕ Value} {opponent : Opponent} {side : Colour} {start code : ℕ}
    {first : Reader} {cursor : Cursor} {old : Reader} (new : Reader)
    {source mid : SourceTold} (left : SourceTold) {out between : SinkTold} (taken : SinkTold)
    {before now after : Spent} (same : now_files ≡ files)
    (far : SoFar (known files) size arena opponent side start code first cursor old source mid out
    between before now) (few : SpendsAt arena 0 (cursor.number ∷ []) now after) where
  abbrev Turned : Result Turn PlayFault → Type 0
  Turned result =
      TurnWrote (known now_files) size arena opponent side cursor old new result mid left between
      taken

  abbrev Wrote : Result Finish PlayFault → Type 0
  Wrote answer =
      WayWrote (known files) size arena opponent side start code first new answer source left out
      taken before after

  -- what may be read after each ply
  all_may_be_read : (read : List ℕ) → MayRead (known now_files) size read → (k : ℕ)
      → MayRead (known files) size (and_now far.read cursor.played read k)
  all_may_be_read read may =
      each_may_be_read (known files) size far.read cursor.played read far.may
      (may_before known size read same may)

  -- a ply was played
  pub next_far : {turn : Turn} {number read : ℕ} → turn ≡ On number read → Turned (Ok turn)
      → SoFar (known files) size arena opponent side start code first
      (record { number = number; code = read; played = cursor.played + 1 }) new source left out taken
      before after
  next_far {turn} {number} {read} on w =
      let there : Cursor = record { number = number; code = read; played = cursor.played + 1 } in
      let goes = w.6 in
      record {
        text = far.text ++ w.0;
        bytes = far.bytes ++ w.1;
        lines = lines_behind far.text w.0 far.lines w.2;
        wrote = took_behind far.text w.0 (far.text ++ w.0) out between taken far.wrote refl w.3;
        took = took_on far.bytes w.1 source mid left far.took w.4;
        stays = stays_on first old new far.bytes w.1 far.stays w.5;
        numbers = far.numbers ++ cursor.number ∷ [];
        spent = spends_on arena far.numbers (cursor.number ∷ []) before now after far.spent few;
        read = and_now far.read cursor.played goes.0;
        may = all_may_be_read goes.0 goes.1;
        comes = λ kept alike.
            after_ply arena opponent side kept start code first.more cursor there old new far.numbers
            far.bytes w.1 far.text w.0 refl w.5 (far.comes kept (λ k l. alike k (omega (arith, l))
            ∙ read_before_stays far.read cursor.played goes.0 k l))
            (subst (λ (t : Turn). GoesBy arena opponent side kept cursor old new w.1 w.0 (Ok t)) on
            (goes.2 kept (alike cursor.played (omega arith)
            ∙ read_now_is_now far.read cursor.played goes.0)));
      }

  last_far : (answer : Result Finish PlayFault) → IsFrom cursor.number answer
      → Turned (finishes_by answer) → Wrote answer
  last_far answer from w = let goes = w.6 in (
    far.text ++ w.0,
    far.bytes ++ w.1,
    lines_behind far.text w.0 far.lines w.2,
    wrote_after far.text w.0 answer out between taken far.wrote
        (over_wrote answer w.0 between taken w.3),
    took_on far.bytes w.1 source mid left far.took w.4,
    stays_on first old new far.bytes w.1 far.stays w.5,
    (
      and_now far.read cursor.played goes.0,
      all_may_be_read goes.0 goes.1,
      λ kept alike.
          played_out arena opponent side kept start code cursor first old new far.numbers far.bytes
          w.1 far.text w.0 answer before now after far.spent few w.5 from
          (far.comes kept (λ k l. alike k ∙ read_before_stays far.read cursor.played goes.0 k l))
          (goes.2 kept (alike cursor.played ∙ read_now_is_now far.read cursor.played goes.0)),
    ),
  )

  -- the way's end within the set
  pub over_far : {turn : Turn} {end : WayEnd} → turn ≡ Over end → Turned (Ok turn)
      → Wrote (Ok (Here end))
  over_far {turn} {end} over w =
      last_far (Ok (Here end)) tt (subst (λ (t : Turn). Turned (Ok t)) over w)

  -- its end outside
  pub out_far : {turn : Turn} {move : Step} {v : Value} → turn ≡ Out move v → Turned (Ok turn)
      → Wrote (Ok (Left cursor.number move v))
  out_far {turn} {move} {v} out w =
      last_far (Ok (Left cursor.number move v)) refl (subst (λ (t : Turn). Turned (Ok t)) out w)

  -- a fault on its way
  pub fault_far : (fault : PlayFault) (result : Result Finish PlayFault)
      → IsErrAnd result (λ e. e ≡ fault) → Turned (Err fault) → Wrote result
  fault_far fault result is w =
      fault_wrote (known files) size arena opponent side start code first new source left out taken
      before after fault result is (last_far (Err fault) tt w)
