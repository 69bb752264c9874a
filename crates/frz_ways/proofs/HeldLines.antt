-- A line from a hold as far as it was played, and what is shown of it.
use Rattle.std.proofs.Common.{◌≡◌, ◌<◌, ◌≤◌, ◌+◌, ◌-◌, ◌==◌, ◌++◌, ℕ, zero, suc, inl, inr, true, false, List, [], ◌∷◌, Some, None, Option, length, take, refl, sym, subst, ap, ◌∙◌, arith, if◌then◌else◌, Ok, append_assoc, append-nil, length-append}
use Rattle.std.specs.Prelude.{slice_index, codes}
use Rattle.std.specs.List.{list_any}
use Rattle.std.proofs.Math.Seq.{take-append-add, take-append_seam, get_or-append_seam}
use Rattle.std.proofs.lemmas.List.{append_cancel_right, get_or_append_left}
use Rattle.std.proofs.lemmas.Bool.{and_right, cases_lt}
use Rattle.frz_board.specs.declared.man.Colour.{Colour}
use Rattle.frz_board.specs.Moving.{Step}
use Rattle.frz_sets.specs.declared.exit.Value.{Value}
use Rattle.frz_store.specs.Told.{SinkTold}
use Rattle.frz_answer.specs.Answers.{IsLines}
use Rattle.frz_answer.specs.Texts.{TookText}
use Rattle.frz_answer.proofs.Lemmas.{took_nothing}
use Rattle.frz_arena.specs.declared.arm.Next.TheVariants.{Inside}
use Rattle.frz_arena.specs.Arena.{Arena}
use Rattle.frz_arena.specs.Codes.{is_failure}
use Rattle.frz_arena.specs.WayEnds.{Cut}
use Rattle.frz_arena.proofs.Lemmas.{small_is_no_failure}
use Rattle.frz_bound_lines.specs.BoundLines.{kept_line}
use Rattle.frz_graph.specs.Finite.{IsFinite}
use Rattle.frz_ways.specs.declared.hearing.Reader.{Reader}
use Rattle.frz_ways.specs.declared.opponent.Opponent.TheVariants as opponents
use Rattle.frz_ways.specs.declared.playing.Cursor.{Cursor}
use Rattle.frz_ways.specs.declared.playing.Turn.TheVariants.{On}
use Rattle.frz_ways.specs.Costs.{way_numbers}
use Rattle.frz_ways.specs.Hearing.{MayFollow}
use Rattle.frz_ways.specs.LineTurns.{StaysHere, LineTurn}
use Rattle.frz_ways.specs.Reading.{Input}
use Rattle.frz_ways.specs.SessionTexts.{end_text, start_line}
use Rattle.frz_ways.specs.Shown.{first_again, held_text, shown_text}
use Rattle.frz_ways.specs.Turns.{rest_text}
use Rattle.frz_ways.specs.Ways.{WayPly, EndOfWay, GoesOn}
use Rattle.frz_ways.specs.WayTexts.{ply_text, plies_text, way_text}
use Rattle.frz_ways.proofs.Again.{AreFresh, again_is, again_later, fresh_more, fresh_none, none_again, place_of_old}
use Rattle.frz_ways.proofs.MoveChosen.{AsksForOne}
use Rattle.frz_ways.proofs.Repeating.{no_start, same_tail}
use Rattle.frz_ways.proofs.Spending.{came_on}

-- the line of the start is written before the first ply
abbrev pub opened_text : Colour → (played : ℕ) → List ℕ
opened_text side zero = []
opened_text side (suc k) = kept_line side 1

plies_more : (side : Colour) (xs ys : List WayPly) → plies_text opponents.Codes side (xs ++ ys)
    ≡ plies_text opponents.Codes side xs ++ plies_text opponents.Codes side ys
plies_more side [] ys = refl
plies_more side (x ∷ xs) ys =
    ap (λ (l : List ℕ). ply_text opponents.Codes side x ++ l) (plies_more side xs ys)
    ∙ sym (append_assoc (ply_text opponents.Codes side x) (plies_text opponents.Codes side xs)
    (plies_text opponents.Codes side ys))

-- what is left of a line from a hold, behind the numbers that it came to and its text
pub record HeldLeft (arena : Arena Step ℕ Value) (side : Colour) (codes : List ℕ) (start : ℕ)
    (cursor : Cursor) (input : Input) (numbers text : List ℕ)
    (plies : List WayPly) (end : EndOfWay) (last : Input) : Type 0 where
  pub agrees : slice_index codes cursor.number ≡ cursor.code
  pub front : List WayPly
  pub others : List WayPly
  pub whole : plies ≡ front ++ others
  pub many : length front ≡ cursor.played
  pub way : GoesOn arena opponents.Codes side (λ k. codes) cursor.played input cursor.number others
      end last
  pub is : text ≡ opened_text side cursor.played ++ plies_text opponents.Codes side front
  pub came : numbers ++ way_numbers (Inside (cursor.played, cursor.number)) others
      ≡ way_numbers (Inside (0, start)) plies
  -- the longer ways from the numbers before
  pub before : (j : ℕ) → j < length numbers → (ys : List WayPly)
      × GoesOn arena opponents.Codes side (λ k. codes) j input (slice_index numbers j) ys end last
      × (length others < length ys)

at_held_start : (arena : Arena Step ℕ Value) (side : Colour) (codes : List ℕ) (start : ℕ)
    → slice_index codes start ≡ 1 → (input : Input) (plies : List WayPly) (end : EndOfWay)
    (last : Input) → GoesOn arena opponents.Codes side (λ k. codes) 0 input start plies end last
    → HeldLeft arena side codes start (record { number = start; code = 1; played = 0 }) input [] []
    plies end last
at_held_start arena side codes start held input plies end last w = record {
  agrees = held;
  front = [];
  others = plies;
  whole = refl;
  many = refl;
  way = w;
  is = refl;
  came = refl;
  before = λ j l. absurd (omega (arith, l));
}

-- the whole text of a way, cut behind so many plies
module _ (side : Colour) (end : EndOfWay) where
  abbrev rest_after : (played code : ℕ) → List WayPly → List ℕ
  rest_after played code others =
      (if played == 0 then start_line side code others end else [])
      ++ (plies_text opponents.Codes side others ++ end_text end)

  text_whole : (played code : ℕ) → (played ≡ 0 → code ≡ 1) → (front others plies : List WayPly)
      → length front ≡ played → plies ≡ front ++ others
      → (opened_text side played ++ plies_text opponents.Codes side front)
      ++ rest_after played code others ≡ way_text opponents.Codes side 1 plies end
  text_whole zero code one [] others plies many whole =
      ap (λ c. start_line side c others end ++ (plies_text opponents.Codes side others ++ end_text end))
      (one refl)
      ∙ ap (λ (ys : List WayPly). way_text opponents.Codes side 1 ys end) (sym whole)
  text_whole zero code one (x ∷ front) others plies many whole = absurd (omega (arith, many))
  text_whole (suc k) code one [] others plies many whole = absurd (omega (arith, many))
  text_whole (suc k) code one (x ∷ front) others plies many whole =
      let f = plies_text opponents.Codes side (x ∷ front) in
      let o = plies_text opponents.Codes side others in
      ap (λ b. (kept_line side 1 ++ f) ++ ((if b then start_line side code others end else [])
      ++ (o ++ end_text end))) (no_start k)
      ∙ append_assoc (kept_line side 1) f (o ++ end_text end)
      ∙ ap (λ (l : List ℕ). kept_line side 1 ++ l) (sym (append_assoc f o (end_text end)))
      ∙ ap (λ (l : List ℕ). kept_line side 1 ++ (l ++ end_text end))
      (sym (plies_more side (x ∷ front) others))
      ∙ ap (λ (ys : List WayPly). way_text opponents.Codes side 1 ys end) (sym whole)

  -- one ply more
  text_on : (played code : ℕ) → (played ≡ 0 → code ≡ 1) → (front : List WayPly) (x : WayPly)
      (others : List WayPly) (text more : List ℕ) → length front ≡ played
      → text ≡ opened_text side played ++ plies_text opponents.Codes side front
      → more ++ (plies_text opponents.Codes side others ++ end_text end)
      ≡ rest_after played code (x ∷ others)
      → text ++ more ≡ kept_line side 1 ++ plies_text opponents.Codes side (front ++ x ∷ [])
  text_on zero code one [] x others text more many is goes =
      let p = ply_text opponents.Codes side x in
      let o = plies_text opponents.Codes side others ++ end_text end in
      let same : more ++ o ≡ (kept_line side 1 ++ (p ++ [])) ++ o =
      goes ∙ ap (λ c. kept_line side c ++ ((p ++ plies_text opponents.Codes side others)
      ++ end_text end)) (one refl)
      ∙ grouped (kept_line side 1) p (plies_text opponents.Codes side others) (end_text end) in
      ap (λ (l : List ℕ). l ++ more) is
      ∙ append_cancel_right more (kept_line side 1 ++ (p ++ [])) o same
    where
      grouped : (k p o e : List ℕ) → k ++ ((p ++ o) ++ e) ≡ (k ++ (p ++ [])) ++ (o ++ e)
      grouped k p o e = simp (append_assoc, append-nil)
  text_on zero code one (y ∷ front) x others text more many is goes = absurd (omega (arith, many))
  text_on (suc k) code one [] x others text more many is goes = absurd (omega (arith, many))
  text_on (suc k) code one (y ∷ front) x others text more many is goes =
      let p = ply_text opponents.Codes side x in
      let o = plies_text opponents.Codes side others in
      let f = plies_text opponents.Codes side (y ∷ front) in
      let same : more ≡ p = append_cancel_right more p (o ++ end_text end)
      (goes ∙ (ap (λ b. (if b then start_line side code (x ∷ others) end else [])
      ++ ((p ++ o) ++ end_text end)) (no_start k) ∙ append_assoc p o (end_text end))) in
      ap (λ (l : List ℕ). l ++ more) is
      ∙ ap (λ (l : List ℕ). (kept_line side 1 ++ f) ++ l) (same ∙ sym (append-nil p))
      ∙ append_assoc (kept_line side 1) f (p ++ [])
      ∙ ap (λ (l : List ℕ). kept_line side 1 ++ l) (sym (plies_more side (y ∷ front) (x ∷ [])))

some_numbers : (p : ℕ × ℕ) (ys : List WayPly) → 1 ≤ length (way_numbers (Inside p) ys)
some_numbers p [] = omega arith
some_numbers p (x ∷ ys) = omega arith

first_number : (p : ℕ × ℕ) (ys : List WayPly) → (more : List ℕ)
    × (way_numbers (Inside p) ys ≡ p.1 ∷ more)
first_number p [] = ([], refl)
first_number p (x ∷ ys) = (way_numbers x.arm.next ys, refl)

module _ (arena : Arena Step ℕ Value) (side : Colour) (codes_here : List ℕ) (start : ℕ)
    (cursor : Cursor) (numbers text : List ℕ) (one : cursor.played ≡ 0 → cursor.code ≡ 1) where
  abbrev Left : Input → List WayPly → EndOfWay → Input → Type 0
  Left input plies end last =
      HeldLeft arena side codes_here start cursor input numbers text plies end last

  -- at most one step more than the numbers that the line comes to
  pub steps_within : (input : Input) (plies : List WayPly) (end : EndOfWay) (last : Input)
      → Left input plies end last → length numbers + 1
      ≤ length (way_numbers (Inside (0, start)) plies)
  steps_within input plies end last l =
      let long = length-append numbers (way_numbers (Inside (cursor.played, cursor.number)) l.others)
      in
      let all = ap length l.came in
      let some = some_numbers (cursor.played, cursor.number) l.others in
      omega (arith, long, all, some)

  -- a way whose numbers are fresh is shown whole
  shown_whole : (plies : List WayPly) (end : EndOfWay)
      → AreFresh (way_numbers (Inside (0, start)) plies)
      → shown_text opponents.Codes side 1 start plies end ≡ way_text opponents.Codes side 1 plies end
  shown_whole plies end fresh =
      ap (held_text side plies end) (none_again (way_numbers (Inside (0, start)) plies) fresh)

  opened_later : (k : ℕ) → 0 < k → opened_text side k ≡ kept_line side 1
  opened_later zero l = absurd (omega (arith, l))
  opened_later (suc k) l = refl

  -- a line that repeats is cut, and is shown so
  pub shown_again : AsksForOne → {size : ℕ} → IsFinite arena size → cursor.code ≤ 1
      → length numbers ≡ cursor.played → AreFresh numbers
      → list_any (λ m. m == cursor.number) numbers ≡ true → (input : Input) (plies : List WayPly)
      (end : EndOfWay) (last : Input) → Left input plies end last
      → (text ++ codes "repetition\n" ≡ shown_text opponents.Codes side 1 start plies end)
      × (end ≡ Cut)
  shown_again only {size} finite small count fresh old input plies end last l =
      let j = place_of_old numbers cursor.number old in
      let within = j.1 in
      let first = first_number (cursor.played, cursor.number) l.others in
      let whole : way_numbers (Inside (0, start)) plies ≡ numbers ++ cursor.number ∷ first.0 =
      sym l.came ∙ ap (λ (ns : List ℕ). numbers ++ ns) first.1 in
      let again : first_again (way_numbers (Inside (0, start)) plies) ≡ Some (length numbers) =
      ap first_again whole ∙ again_is numbers cursor.number first.0 fresh old in
      let front : take (length numbers) plies ≡ l.front =
      ap (λ k. take k plies) (count ∙ sym l.many)
      ∙ (ap (take (length l.front)) l.whole ∙ take-append_seam l.front l.others) in
      let shown : shown_text opponents.Codes side 1 start plies end
      ≡ kept_line side 1 ++ (plies_text opponents.Codes side l.front ++ codes "repetition\n") =
      ap (held_text side plies end) again
      ∙ ap (λ (ys : List WayPly). kept_line side 1 ++ (plies_text opponents.Codes side ys
      ++ codes "repetition\n")) front in
      let written : text ≡ kept_line side 1 ++ plies_text opponents.Codes side l.front =
      l.is ∙ ap (λ (z : List ℕ). z ++ plies_text opponents.Codes side l.front)
      (opened_later cursor.played (omega (arith, within, count))) in
      let b = l.before j.0 j.1 in
      let there = subst (λ n. GoesOn arena opponents.Codes side (λ k. codes_here) j.0 input n b.0 end
      last) j.2 b.1 in
      let longer = b.2 in (
        ap (λ (z : List ℕ). z ++ codes "repetition\n") written
            ∙ (append_assoc (kept_line side 1) (plies_text opponents.Codes side l.front)
            (codes "repetition\n") ∙ sym shown),
        elim (same_tail only arena size finite side codes_here b.0 j.0 cursor.played cursor.number
            (omega (arith, within, count))
            (and_right (j.0 == 0) (is_failure (slice_index codes_here cursor.number))
            (ap is_failure l.agrees ∙ small_is_no_failure cursor.code small)) input last input last
            l.others end end there l.way) [
              | inl cut ↦ cut
              | inr even ↦ absurd (omega (arith, even, longer))
            ],
      )

  -- one ply more
  pub held_next : length numbers ≡ cursor.played → (reader : Reader) (n c : ℕ) (more : List ℕ)
      → LineTurn arena side (λ k. codes_here) cursor reader (Ok (On n c)) more → (left : List ℕ)
      → MayFollow reader left → (plies : List WayPly) (end : EndOfWay) (last : Input)
      → Left (record { left = left; more = reader.more }) plies end last
      → HeldLeft arena side codes_here start
      (record { number = n; code = c; played = cursor.played + 1 })
      (record { left = left; more = reader.more }) (numbers ++ cursor.number ∷ []) (text ++ more)
      plies end last
  held_next count reader n c more turn left may plies end last l =
      let g = turn.goes l.agrees left may l.others end last l.way in
      let here : Input = record { left = left; more = reader.more } in
      let first = g.2.1.0 in
      let others = g.2.1.1 in
      let on : suc cursor.played ≡ cursor.played + 1 = omega arith in
      let shorter = ap length g.2.1.2 in
      let goes : more ++ (plies_text opponents.Codes side others ++ end_text end)
      ≡ rest_after side end cursor.played cursor.code (first ∷ others) =
      ap (λ (r : List ℕ). more ++ r) (sym g.2.1.5)
      ∙ (g.1 ∙ ap (λ (ys : List WayPly). rest_after side end cursor.played cursor.code ys)
      g.2.1.2) in
      record {
        agrees = g.2.0;
        front = l.front ++ first ∷ [];
        others = others;
        whole = l.whole ∙ (ap (λ (ys : List WayPly). l.front ++ ys) g.2.1.2
            ∙ sym (append_assoc l.front (first ∷ []) others));
        many = length-append l.front (first ∷ []) ∙ ap (λ k. k + 1) l.many;
        way = subst (λ k. GoesOn arena opponents.Codes side (λ i. codes_here) k here n others end last)
            on g.2.1.4;
        is = text_on side end cursor.played cursor.code one l.front first others text more l.many
            l.is goes
            ∙ ap (λ (z : List ℕ). z ++ plies_text opponents.Codes side (l.front ++ first ∷ []))
            (sym (opened_later (cursor.played + 1) (omega arith)));
        came = subst
            (λ k. (numbers ++ cursor.number ∷ []) ++ way_numbers (Inside (k, n)) others
            ≡ way_numbers (Inside (0, start)) plies) on
            (came_on numbers cursor.played cursor.number (suc cursor.played, n) l.others others
            first (way_numbers (Inside (0, start)) plies) l.came g.2.1.2 g.2.1.3);
        before = λ j within.
            elim (cases_lt j (length numbers)) [
              | inl less ↦ (
                  let b = l.before j less in
                  let longer = b.2 in
                  let same = get_or_append_left numbers (cursor.number ∷ []) 0 j less in (
                    b.0,
                    subst (λ m. GoesOn arena opponents.Codes side (λ k. codes_here) j here m b.0 end
                        last) (sym same) b.1,
                    omega (arith, longer, shorter),
                  ))
              | inr not ↦ (
                  let long = length-append numbers (cursor.number ∷ []) in
                  let at : length numbers ≡ j = omega (arith, within, not, long) in
                  let same : slice_index (numbers ++ cursor.number ∷ []) j ≡ cursor.number =
                  ap (slice_index (numbers ++ cursor.number ∷ [])) (sym at)
                  ∙ get_or-append_seam numbers cursor.number [] 0 in (
                    l.others,
                    subst (λ m. GoesOn arena opponents.Codes side (λ k. codes_here) j here m l.others
                        end last) (sym same)
                        (subst (λ k. GoesOn arena opponents.Codes side (λ i. codes_here) k here
                        cursor.number l.others end last) (sym count ∙ at) l.way),
                    omega (arith, shorter),
                  ))
            ];
      }

  -- behind what was written comes the rest of the way's text
  rest_begins : (more rest : List ℕ) (plies : List WayPly) (end : EndOfWay) (last input : Input)
      → (l : Left input plies end last)
      → more ++ rest ≡ rest_text opponents.Codes side cursor l.others end
      → (text ++ more) ++ rest ≡ way_text opponents.Codes side 1 plies end
  rest_begins more rest plies end last input l goes =
      append_assoc text more rest
      ∙ ap (λ (z : List ℕ). text ++ z) goes
      ∙ ap (λ (z : List ℕ). z ++ rest_after side end cursor.played cursor.code l.others) l.is
      ∙ text_whole side end cursor.played cursor.code one l.front l.others plies l.many l.whole

  -- a line that comes to no other number is shown whole
  pub shown_here : AreFresh numbers → list_any (λ m. m == cursor.number) numbers ≡ false
      → StaysHere arena side (λ k. codes_here) cursor → (more rest : List ℕ)
      (plies : List WayPly) (end : EndOfWay) (last input : Input) → (l : Left input plies end last)
      → more ++ rest ≡ rest_text opponents.Codes side cursor l.others end
      → (text ++ more) ++ rest ≡ shown_text opponents.Codes side 1 start plies end
  shown_here fresh new stays more rest plies end last input l goes =
      let whole : numbers ++ cursor.number ∷ [] ≡ way_numbers (Inside (0, start)) plies =
      ap (λ (ns : List ℕ). numbers ++ ns) (sym (stays input l.others end last l.way)) ∙ l.came in
      rest_begins more rest plies end last input l goes
      ∙ sym (shown_whole plies end (subst AreFresh whole (fresh_more numbers cursor.number fresh new)))

  -- what was written of a line begins what is shown of it, while its numbers are fresh
  pub shown_front : 0 < cursor.played → length numbers ≡ cursor.played → AreFresh numbers
      → (plies : List WayPly) (end : EndOfWay) (last input : Input) → Left input plies end last
      → (rest : List ℕ) × (text ++ rest ≡ shown_text opponents.Codes side 1 start plies end)
  shown_front some count fresh plies end last input l =
      by_again (first_again (way_numbers (Inside (0, start)) plies)) refl where
        by_again : (o : Option ℕ) → first_again (way_numbers (Inside (0, start)) plies) ≡ o
            → (rest : List ℕ) × (text ++ rest ≡ shown_text opponents.Codes side 1 start plies end)
        by_again None e = (
          rest_after side end cursor.played cursor.code l.others,
          ap (λ (z : List ℕ). z ++ rest_after side end cursor.played cursor.code l.others) l.is
              ∙ (text_whole side end cursor.played cursor.code one l.front l.others plies l.many
              l.whole ∙ sym (ap (held_text side plies end) e)),
        )
        by_again (Some k) e =
            let later = again_later numbers
            (way_numbers (Inside (cursor.played, cursor.number)) l.others) k fresh
            (ap first_again l.came ∙ e) in
            let more = take (k - cursor.played) l.others in
            let many = l.many in
            let split : length l.front + (k - cursor.played) ≡ k = omega (arith, later, count, many)
            in
            let front : take k plies ≡ l.front ++ more =
            ap (λ n. take n plies) (sym split)
            ∙ (ap (take (length l.front + (k - cursor.played))) l.whole
            ∙ take-append-add l.front l.others (k - cursor.played)) in
            let f = plies_text opponents.Codes side l.front in
            let m = plies_text opponents.Codes side more in (
              m ++ codes "repetition\n",
              ap (λ (z : List ℕ). z ++ (m ++ codes "repetition\n"))
                  (l.is ∙ ap (λ (z : List ℕ). z ++ f) (opened_later cursor.played some))
                  ∙ (append_assoc (kept_line side 1) f (m ++ codes "repetition\n")
                  ∙ (ap (λ (z : List ℕ). kept_line side 1 ++ z) (sym (append_assoc f m
                  (codes "repetition\n")))
                  ∙ (ap (λ (z : List ℕ). kept_line side 1 ++ (z ++ codes "repetition\n"))
                  (sym (plies_more side l.front more))
                  ∙ (ap (λ (ys : List WayPly). kept_line side 1 ++ (plies_text opponents.Codes side ys
                  ++ codes "repetition\n")) (sym front)
                  ∙ sym (ap (held_text side plies end) e))))),
            )

-- a line from a hold as far as it was played, to a number that need not be new
pub record HeldFar (arena : Arena Step ℕ Value) (side : Colour) (codes : List ℕ) (start : ℕ)
    (cursor : Cursor) (reader : Reader) (numbers : List ℕ) (out taken : SinkTold)
    (before now : ℕ) : Type 0 where
  pub starts : cursor.played ≡ 0 → cursor.code ≡ 1
  pub small : cursor.code ≤ 1
  pub count : length numbers ≡ cursor.played
  pub fresh : AreFresh numbers
  pub text : List ℕ
  pub lines : IsLines text
  pub wrote : TookText text out taken
  pub spent : now ≤ before + cursor.played
  pub comes : (left : List ℕ) → MayFollow reader left → (plies : List WayPly) (end : EndOfWay)
      (last : Input) → GoesOn arena opponents.Codes side (λ k. codes) 0
      (record { left = left; more = reader.more }) start plies end last
      → HeldLeft arena side codes start cursor (record { left = left; more = reader.more }) numbers
      text plies end last

pub far_at_start : (arena : Arena Step ℕ Value) (side : Colour) (codes : List ℕ) (start : ℕ)
    → slice_index codes start ≡ 1 → (reader : Reader) (out : SinkTold) (now : ℕ)
    → HeldFar arena side codes start (record { number = start; code = 1; played = 0 }) reader []
    out out now now
far_at_start arena side codes start held reader out now = record {
  starts = λ e. refl;
  small = omega arith;
  count = refl;
  fresh = fresh_none;
  text = [];
  lines = inl refl;
  wrote = took_nothing out;
  spent = omega arith;
  comes = λ left may plies end last w.
      at_held_start arena side codes start held (record { left = left; more = reader.more }) plies end
      last w;
}
