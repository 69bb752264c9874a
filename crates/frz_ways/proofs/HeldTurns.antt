-- What a line from a hold has written and is shown of it, after its last turn.
use Rattle.std.proofs.Common.{◌≡◌, ◌<◌, ◌≤◌, ◌+◌, ◌==◌, ◌++◌, ◌⊎◌, ℕ, suc, inl, inr, Bool, true, false, List, [], ◌∷◌, Some, refl, sym, subst, ap, ◌∙◌, arith, Result, Ok, Err, append-nil, length-append, length, take_all}
use Rattle.std.specs.Prelude.{slice_index, codes}
use Rattle.std.specs.Io.KnownBytes.{append_known}
use Rattle.std.specs.List.{list_any}
use Rattle.std.specs.Result.{IsErrAnd}
use Rattle.frz_board.specs.declared.man.Colour.{Colour}
use Rattle.frz_board.specs.Men.{same_colour}
use Rattle.frz_board.specs.Moving.{Step}
use Rattle.frz_sets.specs.declared.exit.Value.{Value}
use Rattle.frz_store.specs.Outside.{Rose}
use Rattle.frz_store.specs.Told.{SinkTold}
use Rattle.frz_answer.specs.Answers.{IsLines}
use Rattle.frz_answer.specs.Texts.{TookText, FailedWithin}
use Rattle.frz_answer.proofs.Lemmas.{failed_next, lines_behind, took_next}
use Rattle.frz_arena.specs.declared.arm.Next.{Next}
use Rattle.frz_arena.specs.declared.arm.Next.TheVariants.{Inside, Outside}
use Rattle.frz_arena.specs.Arena.{Arena}
use Rattle.frz_arena.specs.Plies.{LeadsTo}
use Rattle.frz_arena.specs.WayEnds.{Exit}
use Rattle.frz_arena.specs.Ways.{IsStopBy, IsWay}
use Rattle.frz_graph.specs.Finite.{IsFinite}
use Rattle.frz_ways.specs.declared.end.LineFault.TheVariants as faults
use Rattle.frz_ways.specs.declared.end.TheConstants.{LINE_LIMIT}
use Rattle.frz_ways.specs.declared.hearing.Reader.{Reader}
use Rattle.frz_ways.specs.declared.opponent.Opponent.TheVariants as opponents
use Rattle.frz_ways.specs.declared.playing.Cursor.{Cursor}
use Rattle.frz_ways.specs.declared.session_end.PlayFault.{PlayFault}
use Rattle.frz_ways.specs.declared.session_end.PlayFault.TheVariants as plays
use Rattle.frz_ways.specs.declared.way_end.Finish.{Finish}
use Rattle.frz_ways.specs.declared.way_end.Finish.TheVariants.{Here, Left}
use Rattle.frz_ways.specs.declared.way_end.WayEnd.{WayEnd}
use Rattle.frz_ways.specs.declared.way_end.WayEnd.TheVariants as ends
use Rattle.frz_ways.specs.declared.playing.Turn.{Turn}
use Rattle.frz_ways.specs.declared.playing.Turn.TheVariants.{Over, Out, On}
use Rattle.frz_ways.specs.Turns.{Leaves, LeavesLess}
use Rattle.frz_ways.specs.LineTurns.{EndsHere, LineTurn, StaysHere}
use Rattle.frz_ways.specs.Hearing.{MayFollow}
use Rattle.frz_ways.specs.Reading.{Input}
use Rattle.frz_ways.specs.SessionFaults.{WroteBy}
use Rattle.frz_ways.specs.Shown.{PlaysShown, shown_text}
use Rattle.frz_ways.specs.WayEnds.{told}
use Rattle.frz_ways.specs.Ways.{WayPly, EndOfWay, finder, way_player}
use Rattle.frz_ways.proofs.Again.{fresh_more}
use Rattle.frz_ways.proofs.Goings.{taken_codes}
use Rattle.frz_ways.proofs.HeldLines.{HeldFar, HeldLeft, held_next, shown_again, shown_front, shown_here, steps_within}
use Rattle.frz_ways.proofs.LineTurning.{Lined}
use Rattle.frz_ways.proofs.WaySoFar.{IsFrom, finishes_by, left_by, left_over}
use Rattle.frz_ways.proofs.MoveChosen.{AsksForOne}

-- what the sink took whole is what was written, if the fault that was answered is not its own
wrote_text : (fault : PlayFault) (text whole : List ℕ) (mid out taken : SinkTold)
    {more : List ℕ} → TookText more mid taken → WroteBy {T = Turn} (Err fault) text mid taken
    → TookText whole out taken → WroteBy {T = Finish} (Err fault) whole out taken
wrote_text plays.Input text whole mid out taken took w all = all
wrote_text (plays.Limit l) text whole mid out taken took w all = all
wrote_text (plays.Line faults.Outside) text whole mid out taken took w all = all
wrote_text (plays.Line faults.NoBound) text whole mid out taken took w all = all
wrote_text (plays.Line (faults.Wrong x)) text whole mid out taken took w all = all
wrote_text (plays.Line faults.Store) text whole mid out taken took w all = all
wrote_text (plays.Line faults.Output) text whole mid out taken took w all =
    record {
      later = (let same = all.faults in omega (arith, same));
      rose = subst (λ k. Rose k taken.faults) (sym took.faults ∙ all.faults) w.rose;
      taken = (
        length whole,
        all.taken ∙ ap (append_known out.taken) (sym (take_all (length whole)
            whole (omega arith))),
      );
    }
wrote_text (plays.Line faults.NoMemory) text whole mid out taken took w all = all

-- a hold is followed by a hold, before the limit
pub hold_next : (arena : Arena Step ℕ Value) (side : Colour) (cursor : Cursor) (old new : Reader)
    (number code : ℕ) → cursor.code ≤ 1
    → LeavesLess opponents.Codes arena side cursor old new number code
    → (code ≤ 1) × (cursor.played < LINE_LIMIT)
hold_next arena side cursor old new number code small less =
    elim less.0 [
      | inl won ↦ absurd (let high = won.2 in omega (arith, high, small))
      | inr hold ↦ (hold.1, less.1 hold.0)
    ]

module _ (arena : Arena Step ℕ Value) (side : Colour) (kept : ℕ → List ℕ) where
  leads_untaken : (k : ℕ) (u t : Input) (ys : List WayPly) (e : EndOfWay)
      → ((p : ℕ × ℕ) → IsWay (way_player arena opponents.Codes side kept) k u p ys e t → t ≡ u)
      → (next : Next (ℕ × ℕ) Value)
      → LeadsTo (λ p. IsWay (way_player arena opponents.Codes side kept) k u p ys e t)
      (λ v. (ys ≡ []) × (e ≡ Exit v) × (t ≡ u)) next → t ≡ u
  leads_untaken k u t ys e later (Inside p) h = later p h
  leads_untaken k u t ys e later (Outside v) h = h.2

  -- a line takes nothing of the input
  untaken : (k : ℕ) (s t : Input) (q : ℕ × ℕ) (ys : List WayPly) (e : EndOfWay)
      → IsWay (way_player arena opponents.Codes side kept) k s q ys e t → t ≡ s
  untaken k s t q [] e (inl w) = w.1
  untaken k s t q [] e (inr w) = absurd (no_stop (same_colour w.0 side) w.2) where
    no_stop : (own : Bool) → IsStopBy own (finder arena opponents.Codes) s q e t → ⊥
    no_stop true h = h
    no_stop false h = h
  untaken k s t q (x ∷ ys) e w =
      leads_untaken (suc k) w.2.0 t ys e (λ p h. untaken (suc k) w.2.0 t p ys e h) x.arm.next w.2.2
      ∙ (taken_codes arena opponents.Codes side kept opponents.Codes (same_colour x.mover side) s
      w.2.0 x refl w.2.1).1

module _ (one : AsksForOne) {arena : Arena Step ℕ Value} {size : ℕ}
    (finite : IsFinite arena size) {side : Colour} {cs : List ℕ} {start : ℕ}
    (held : slice_index cs start ≡ 1) {cursor : Cursor} {reader : Reader} {numbers : List ℕ}
    {out mid : SinkTold} {before now : ℕ}
    (far : HeldFar arena side cs start cursor reader numbers out mid before now) where
  abbrev Shows : Result Finish PlayFault → (taken : SinkTold) → (after : ℕ) → Type 0
  Shows result taken after =
      (text : List ℕ) × IsLines text × WroteBy result text out taken
      × PlaysShown arena opponents.Codes side cs start reader reader [] text result before after

  -- the number of the cursor came before
  pub repeats : list_any (λ m. m == cursor.number) numbers ≡ true → (taken : SinkTold)
      → TookText (codes "repetition\n") mid taken → Shows (Ok (Here ends.Cut)) taken now
  repeats old taken took = (
    far.text ++ codes "repetition\n",
    lines_behind far.text (codes "repetition\n") far.lines (inr (codes "repetition", refl)),
    took_next far.wrote took,
    λ left may plies end last w.
        let here : Input = record { left = left; more = reader.more } in
        let l = far.comes left may plies end last w in
        let a = shown_again arena side cs start cursor numbers far.text far.starts one finite far.small far.count
        far.fresh old here plies end last l in
        let few = steps_within arena side cs start cursor numbers far.text far.starts here plies end last
        l in
        let spent = far.spent in (
          record {
            rest = [];
            unread = [];
            begins = append-nil (far.text ++ codes "repetition\n")
                ∙ (a.0 ∙ ap (λ c. shown_text opponents.Codes side c start plies end) (sym held));
            takes = ap (λ (i : Input). i.left)
                (untaken arena side (λ k. cs) 0 here last (0, start) plies end w);
            finishes = (ap (told side) (sym a.1), refl, refl);
          },
          omega (arith, few, spent, far.count),
          tt,
        ),
  )

  -- the sink failed while that was said
  said_in_vain : list_any (λ m. m == cursor.number) numbers ≡ true → (taken : SinkTold)
      → FailedWithin (codes "repetition\n") mid taken
      → Shows (Err (plays.Line faults.Output)) taken now
  said_in_vain old taken failed = (
    far.text ++ codes "repetition\n",
    lines_behind far.text (codes "repetition\n") far.lines (inr (codes "repetition", refl)),
    failed_next far.wrote failed,
    λ left may plies end last w.
        let here : Input = record { left = left; more = reader.more } in
        let l = far.comes left may plies end last w in
        let a = shown_again arena side cs start cursor numbers far.text far.starts one finite far.small far.count
        far.fresh old here plies end last l in
        let few = steps_within arena side cs start cursor numbers far.text far.starts here plies end last
        l in
        let spent = far.spent in (
          record {
            rest = [];
            unread = [];
            begins = append-nil (far.text ++ codes "repetition\n")
                ∙ (a.0 ∙ ap (λ c. shown_text opponents.Codes side c start plies end) (sym held));
            takes = ap (λ (i : Input). i.left)
                (untaken arena side (λ k. cs) 0 here last (0, start) plies end w);
            finishes = tt;
          },
          omega (arith, few, spent, far.count),
          tt,
        ),
  )

  pub repeats_failed : list_any (λ m. m == cursor.number) numbers ≡ true → (taken : SinkTold)
      → FailedWithin (codes "repetition\n") mid taken → (result : Result Finish PlayFault)
      → IsErrAnd result (λ e. e ≡ plays.Line faults.Output) → Shows result taken now
  repeats_failed old taken failed (Ok finish) is = absurd is
  repeats_failed old taken failed (Err fault) is =
      subst (λ (f : PlayFault). Shows (Err f) taken now) (sym is) (said_in_vain old taken failed)

  module _ (new : list_any (λ m. m == cursor.number) numbers ≡ false) (taken : SinkTold) (after : ℕ)
      (step : after ≤ now + 1) (due : Result Turn PlayFault) (more : List ℕ) (lines : IsLines more)
      (turn : LineTurn arena side (λ k. cs) cursor reader due more) where
    abbrev Stays : Type 0
    Stays = StaysHere arena side (λ k. cs) cursor

    stays_of : (answer : Result Finish PlayFault)
        → EndsHere arena side (λ k. cs) cursor (finishes_by answer) → Stays
    stays_of (Ok (Here end)) h = h
    stays_of (Ok (Left number move v)) h = h
    stays_of (Err (plays.Line (faults.Wrong wrong))) h = h
    stays_of (Err (plays.Line faults.NoBound)) h = h
    stays_of (Err (plays.Line faults.Outside)) h = absurd h
    stays_of (Err (plays.Line faults.Store)) h = absurd h
    stays_of (Err (plays.Line faults.NoMemory)) h = absurd h
    stays_of (Err (plays.Line faults.Output)) h = absurd h
    stays_of (Err plays.Input) h = absurd h
    stays_of (Err (plays.Limit limit)) h = absurd h

    -- the turn that was due was played, and is the last
    finished : (answer : Result Finish PlayFault) → IsFrom cursor.number answer
        → due ≡ finishes_by answer → TookText more mid taken
        → WroteBy answer (far.text ++ more) out taken → Shows answer taken after
    finished answer from is took wrote = (
      far.text ++ more,
      lines_behind far.text more far.lines lines,
      wrote,
      λ left may plies end last w.
          let here : Input = record { left = left; more = reader.more } in
          let l = far.comes left may plies end last w in
          let g = turn.goes l.agrees left may l.others end last l.way in
          let leaves = subst (λ (d : Result Turn PlayFault). Leaves arena opponents.Codes side
          (λ k. cs) cursor here l.others end last g.0 d) is g.2 in
          let o = left_over arena opponents.Codes side (λ k. cs) cursor here end last g.0 l.others
          answer leaves in
          let stays = stays_of answer (subst (λ (d : Result Turn PlayFault).
          EndsHere arena side (λ k. cs) cursor d) is (turn.ends l.agrees)) in
          let few = steps_within arena side cs start cursor numbers far.text far.starts here plies end
          last l in
          let spent = far.spent in (
            record {
              rest = g.0;
              unread = o.0;
              begins = shown_here arena side cs start cursor numbers far.text far.starts far.fresh new stays
                  more g.0 plies end last here l g.1
                  ∙ ap (λ c. shown_text opponents.Codes side c start plies end) (sym held);
              takes = o.1;
              finishes = o.2;
            },
            omega (arith, few, spent, far.count, step),
            left_by arena opponents.Codes side (λ k. cs) cursor here end last g.0 l.front l.others
                plies answer l.whole from leaves,
          ),
    )

    -- a turn stays at its number, or leads on
    stays_or_on : (d : Result Turn PlayFault) → EndsHere arena side (λ k. cs) cursor d
        → Stays ⊎ ((n : ℕ) × (c : ℕ) × (d ≡ Ok (On n c)))
    stays_or_on (Ok (On n c)) h = inr (n, c, refl)
    stays_or_on (Ok (Over end)) h = inl h
    stays_or_on (Ok (Out move v)) h = inl h
    stays_or_on (Err fault) h = inl (stays_of (Err fault) h)

    -- one ply more
    went_on : (n c : ℕ) → c ≤ 1 → due ≡ Ok (On n c) → TookText more mid taken
        → HeldFar arena side cs start (record { number = n; code = c; played = cursor.played + 1 })
        reader (numbers ++ cursor.number ∷ []) out taken before after
    went_on n c small is took = let spent = far.spent in record {
      starts = λ e. absurd (omega (arith, e));
      small = small;
      count = length-append numbers (cursor.number ∷ []) ∙ ap (λ k. k + 1) far.count;
      fresh = fresh_more numbers cursor.number far.fresh new;
      text = far.text ++ more;
      lines = lines_behind far.text more far.lines lines;
      wrote = took_next far.wrote took;
      spent = omega (arith, spent, step);
      comes = λ left may plies end last w.
          held_next arena side cs start cursor numbers far.text far.starts far.count reader n c more
          (subst (λ (d : Result Turn PlayFault). LineTurn arena side (λ k. cs) cursor reader d more)
          is turn) left may plies end last (far.comes left may plies end last w);
    }

    -- what was due begins what is shown
    begun : (left : List ℕ) → MayFollow reader left → (plies : List WayPly) (end : EndOfWay)
        (last : Input)
        → HeldLeft arena side cs start cursor (record { left = left; more = reader.more }) numbers
        far.text plies end last
        → (rest : List ℕ)
        × ((far.text ++ more) ++ rest ≡ shown_text opponents.Codes side 1 start plies end)
    begun left may plies end last l =
        let here : Input = record { left = left; more = reader.more } in
        let g = turn.goes l.agrees left may l.others end last l.way in
        elim (stays_or_on due (turn.ends l.agrees)) [
          | inl stays ↦ (
            g.0,
            shown_here arena side cs start cursor numbers far.text far.starts far.fresh new
                stays more g.0 plies end last here l g.1,
          )
          | inr on ↦
              shown_front arena side cs start
              (record { number = on.0; code = on.1; played = cursor.played + 1 })
              (numbers ++ cursor.number ∷ []) (far.text ++ more) (λ e. absurd (omega (arith, e)))
              (omega arith)
              (length-append numbers (cursor.number ∷ []) ∙ ap (λ k. k + 1) far.count)
              (fresh_more numbers cursor.number far.fresh new) plies end last here
              (held_next arena side cs start cursor numbers far.text far.starts far.count reader on.0 on.1
              more (subst (λ (d : Result Turn PlayFault).
              LineTurn arena side (λ k. cs) cursor reader d more) on.2 turn) left may plies end last l)
        ]

    -- the sink failed within the text that was due
    failed : FailedWithin more mid taken → Shows (Err (plays.Line faults.Output)) taken after
    failed within = (
      far.text ++ more,
      lines_behind far.text more far.lines lines,
      failed_next far.wrote within,
      λ left may plies end last w.
          let here : Input = record { left = left; more = reader.more } in
          let l = far.comes left may plies end last w in
          let b = begun left may plies end last l in
          let few = steps_within arena side cs start cursor numbers far.text far.starts here plies end
          last l in
          let spent = far.spent in (
            record {
              rest = b.0;
              unread = [];
              begins = b.1 ∙ ap (λ c. shown_text opponents.Codes side c start plies end) (sym held);
              takes = ap (λ (i : Input). i.left)
                  (untaken arena side (λ k. cs) 0 here last (0, start) plies end w);
              finishes = tt;
            },
            omega (arith, few, spent, far.count, step),
            tt,
          ),
    )

  -- the turn at a number that did not come before
  module _ (new : list_any (λ m. m == cursor.number) numbers ≡ false) (taken : SinkTold) (after : ℕ)
      (step : after ≤ now + 1) (at : Reader) (same : at ≡ reader) (many : ℕ) where
    abbrev Turned : Result Turn PlayFault → Type 0
    Turned result = Lined (Some cs) many arena side cursor at result mid taken

    turn_of_line : {result : Result Turn PlayFault} (t : Turned result)
        → LineTurn arena side (λ k. cs) cursor reader t.0 t.1
    turn_of_line t =
        subst (λ (r : Reader). LineTurn arena side (λ k. cs) cursor r t.0 t.1) same
        (t.4.2 (λ k. cs) (sym t.4.1))

    -- a turn that was answered was due, and its text was written
    due_was : {turn : Turn} (t : Turned (Ok turn)) → (t.0 ≡ Ok turn) × TookText t.1 mid taken
    due_was t =
        elim t.3 [ inl a ↦ (sym a.0, a.1) | inr a ↦ absurd (let e = a.0 in cc) ]

    ended_by : (finish : Finish) → IsFrom cursor.number (Ok finish)
        → Turned (finishes_by (Ok finish)) → Shows (Ok finish) taken after
    ended_by finish from t =
        let d = due_was t in
        finished new taken after step t.0 t.1 t.2 (turn_of_line t) (Ok finish) from d.0 d.1
        (took_next far.wrote d.1)

    pub over_shown : {turn : Turn} {end : WayEnd} → turn ≡ Over end → Turned (Ok turn)
        → Shows (Ok (Here end)) taken after
    over_shown {turn} {end} is t =
        ended_by (Here end) tt (subst (λ (u : Turn). Turned (Ok u)) is t)

    pub out_shown : {turn : Turn} {move : Step} {v : Value} → turn ≡ Out move v → Turned (Ok turn)
        → Shows (Ok (Left cursor.number move v)) taken after
    out_shown {turn} {move} {v} is t =
        ended_by (Left cursor.number move v) refl (subst (λ (u : Turn). Turned (Ok u)) is t)

    pub next_shown : {turn : Turn} {n c : ℕ} → turn ≡ On n c → c ≤ 1 → Turned (Ok turn)
        → HeldFar arena side cs start (record { number = n; code = c; played = cursor.played + 1 })
        reader (numbers ++ cursor.number ∷ []) out taken before after
    next_shown {turn} {n} {c} is small t =
        let d = due_was t in
        went_on new taken after step t.0 t.1 t.2 (turn_of_line t) n c small
        (d.0 ∙ ap (λ (u : Turn). Ok u) is) d.1

    fault_met : (fault : PlayFault) (text : List ℕ) → WroteBy {T = Turn} (Err fault) text mid taken
        → Turned (Err fault) → Shows (Err fault) taken after
    fault_met fault text wrote t =
        elim t.3 [
          | inl a ↦
              finished new taken after step t.0 t.1 t.2 (turn_of_line t) (Err fault) tt (sym a.0) a.1
              (wrote_text fault text (far.text ++ t.1) mid out taken a.1 wrote
              (took_next far.wrote a.1))
          | inr a ↦ (
              let same : fault ≡ plays.Line faults.Output = (let e = a.0 in cc) in
              subst (λ (f : PlayFault). Shows (Err f) taken after) (sym same)
              (failed new taken after step t.0 t.1 t.2 (turn_of_line t) a.1))
        ]

    -- a fault that was answered
    pub fault_shown : {fault : PlayFault} (result : Result Finish PlayFault)
        → IsErrAnd result (λ e. e ≡ fault) → (text : List ℕ)
        → WroteBy {T = Turn} (Err fault) text mid taken → Turned (Err fault)
        → Shows result taken after
    fault_shown {fault} (Ok finish) is text wrote t = absurd is
    fault_shown {fault} (Err e) is text wrote t =
        subst (λ (f : PlayFault). Shows (Err f) taken after) (sym is)
        (fault_met fault text wrote t)
