-- What is due at a cursor of a way, and where a turn leads.
use Rattle.std.proofs.Common.{◌≡◌, ◌<◌, ◌≤◌, ◌==◌, ◌&&◌, ℕ, ◌⊎◌, inl, inr, Bool, true, false, List, Some, length, refl, sym, subst, ap, ◌∙◌, arith, get_or, if◌then◌else◌, Result, Ok, Err, IfOk}
use Rattle.std.specs.Prelude.{slice_get}
use Rattle.std.specs.List.{Contains}
use Rattle.std.proofs.lemmas.Option.{slice_get_within}
use Rattle.std.proofs.lemmas.Bool.{and_right}
use Rattle.std.proofs.lemmas.Bool.Decides.{nat_tests}
use Rattle.std.proofs.lemmas.Bool.{cases_Bool}
use Rattle.frz_board.specs.declared.man.Colour.{Colour}
use Rattle.frz_board.specs.declared.man.Colour.TheVariants.{White, Black}
use Rattle.frz_board.specs.Men.{same_colour, other_of}
use Rattle.frz_board.specs.Moving.{Step}
use Rattle.frz_sets.specs.declared.exit.Value.{Value}
use Rattle.frz_store.specs.Told.{SourceTold, SinkTold}
use Rattle.frz_arena.specs.declared.arm.Arm.{Arm}
use Rattle.frz_arena.specs.declared.arm.Next.{Next}
use Rattle.frz_arena.specs.declared.arm.Next.TheVariants.{Inside, Outside}
use Rattle.frz_arena.specs.declared.choice.Choice.{Choice}
use Rattle.frz_arena.specs.declared.node.Node.{Node}
use Rattle.frz_arena.specs.declared.node.Node.TheVariants as nodes
use Rattle.frz_arena.specs.Arena.{Arena, IsArm}
use Rattle.frz_arena.specs.Chosen.{IsFound}
use Rattle.frz_arena.specs.Choices.{has_code}
use Rattle.frz_arena.specs.Codes.{is_win, is_failure}
use Rattle.frz_arena.specs.LocalCodes.{node_code, other_code}
use Rattle.frz_arena.specs.Turns.{Alternates}
use Rattle.frz_arena.proofs.Lemmas.{win_and_failure}
use Rattle.frz_graph.specs.Finite.{IsFinite}
use Rattle.frz_graph.specs.FreeCodes.{free_among}
use Rattle.frz_ways.specs.declared.due.Due.{Due}
use Rattle.frz_ways.specs.declared.due.Due.TheVariants as dues
use Rattle.frz_ways.specs.Dues.{due_by, due_on}
use Rattle.frz_ways.specs.SeenMoves.{choices_by, IsNextCode}
use Rattle.frz_ways.proofs.Choices.{found_code}
use Rattle.frz_ways.proofs.MoveChosen.{placed_is_contained}
use Rattle.frz_ways.proofs.PlyDues.{PlyDue, ply_due, never_failing, still_early}
use Rattle.frz_ways.proofs.MovesOfOneNumber.{next_code_is}
use Rattle.frz_ways.specs.declared.way_end.WayEnd.TheVariants as ends
use Rattle.frz_ways.specs.declared.end.TheConstants.{LINE_LIMIT}
use Rattle.frz_ways.specs.declared.opponent.Opponent.{Opponent}
use Rattle.frz_ways.specs.declared.opponent.Opponent.TheVariants as opponents
use Rattle.frz_ways.specs.declared.session_end.PlayFault.{PlayFault}
use Rattle.frz_ways.specs.declared.hearing.Heard.{Heard}
use Rattle.frz_ways.specs.declared.hearing.Heard.TheVariants as heard
use Rattle.frz_ways.specs.declared.hearing.Reader.{Reader}
use Rattle.frz_ways.specs.declared.hearing.Why.TheVariants.{Ended, Limit}
use Rattle.frz_ways.specs.declared.playing.Cursor.{Cursor}
use Rattle.frz_ways.specs.declared.playing.Turn.{Turn}
use Rattle.frz_ways.specs.declared.playing.Turn.TheVariants.{Over}
use Rattle.frz_ways.specs.Hearing.{Hears}
use Rattle.frz_ways.specs.Turns.{turn_of, by_codes, due_at, late_by, Answers, AfterHeard, PlaysPly, IsPlayed, own_turn, session_left, LeavesLess, TurnsTo}
use Rattle.frz_ways.proofs.OtherStands.{other_stands}

either_is_result : (b : Bool) (x y z : Due) → (if b then x else y) ≡ z → (x ≡ z) ⊎ (y ≡ z)
either_is_result true x y z h = inl h
either_is_result false x y z h = inr h

cut_only_when_late : (code : ℕ) (node : Node) → due_on false code node ≡ dues.Cut → ⊥
cut_only_when_late code nodes.Broken h = absurd (cc)
cut_only_when_late code (nodes.Mate m) h = absurd (cc)
cut_only_when_late code (nodes.Stalemate m) h = absurd (cc)
cut_only_when_late code (nodes.Going m) h =
    let e : (if false then dues.Cut else dues.Ply m) ≡ dues.Cut = subst
    (λ b. (if b then dues.Cut else dues.Ply m) ≡ dues.Cut) (and_right (code == 1) false refl) h in
    absurd (cc)

-- where a way is not late, as a session never is, no cut is due
never_cut : (is_start : Bool) (code given : ℕ) (node : Node) (due : Due)
    → due ≡ due_by is_start false code given node → due ≡ dues.Cut → ⊥
never_cut is_start code given node due e cut =
    elim (either_is_result (code == given)
    (if is_start && is_failure code then dues.NoBound else due_on false code node)
    (dues.Wrong given) dues.Cut (sym e ∙ cut)) [
      | inl h ↦ elim (either_is_result (is_start && is_failure code) dues.NoBound
          (due_on false code node)
          dues.Cut h) [ inl n ↦ absurd (cc) | inr d ↦ cut_only_when_late code node d ]
      | inr h ↦ absurd (cc)
    ]

pub own_most : (side : Colour) (node : Node) → own_turn side node ≤ 1
own_most side nodes.Broken = omega arith
own_most side (nodes.Mate m) = omega arith
own_most side (nodes.Stalemate m) = omega arith
own_most side (nodes.Going m) =
    elim (cases_Bool (same_colour m side))
    [ inl t ↦ rw t (omega arith) | inr f ↦ rw f (omega arith) ]

-- where the input says a ply, it is not the side's own
input_is_not_own : (o : Opponent) (own : Bool) → by_codes o own ≡ false → own ≡ false
input_is_not_own opponents.Codes own e = absurd (cc)
input_is_not_own opponents.Input own e = e

-- only a line is cut
cut_line : (opponent : Opponent) (is_start : Bool) (played code given : ℕ) (node : Node)
    (due : Due) → due ≡ due_by is_start (late_by opponent played) code given node
    → due ≡ dues.Cut → opponent ≡ opponents.Codes
cut_line opponents.Codes is_start played code given node due e cut = refl
cut_line opponents.Input is_start played code given node due e cut =
    absurd (never_cut is_start code given node due e cut)

module _ {arena : Arena Step ℕ Value} {size : ℕ} (finite : IsFinite arena size)
    (opponent : Opponent) (side : Colour)
    (cursor : Cursor) {arms : List (Arm Step ℕ Value)} (cs : List ℕ)
    (are : arms ≡ arena.arms cursor.number) (many : length cs ≡ length arms)
    (stands : (cursor.played ≡ 0) ⊎ (is_failure cursor.code ≡ false)) where
  abbrev IsDue : Due → Type 0
  IsDue due = due ≡ due_at arena opponent side cursor arms cs

  ply_is_due : (m : Colour) → IsDue (dues.Ply m)
      → PlyDue (cursor.played == 0) (late_by opponent cursor.played) cursor.code
      (node_code side (arena.node cursor.number) (free_among arms cs) cs) (arena.node cursor.number) m
  ply_is_due m e = ply_due (cursor.played == 0) (late_by opponent cursor.played) cursor.code
      (node_code side (arena.node cursor.number) (free_among arms cs) cs) (arena.node cursor.number) m
      (sym e)

  code_agrees_with_moves : (m : Colour) → IsDue (dues.Ply m)
      → cursor.code ≡ node_code side (nodes.Going m) (free_among arms cs) cs
  code_agrees_with_moves m e = subst
      (λ (z : Node). cursor.code ≡ node_code side z (free_among arms cs) cs)
      (ply_is_due m e).goes (ply_is_due m e).agrees

  inside_size : (place : ℕ) (a : Arm Step ℕ Value) → slice_get arms place ≡ Some a → (n : ℕ)
      → a.next ≡ Inside n → n < size
  inside_size place a there n leads =
      let among : IsArm arena cursor.number a = subst (λ (z : List (Arm Step ℕ Value)). Contains z a)
      are (placed_is_contained arms place a there) in
      (finite.inside cursor.number n a among leads).0

  next_code_no_failure : (code next : ℕ) → IsNextCode code next → is_failure next ≡ false
  next_code_no_failure code next (inl h) =
      elim (cases_Bool (is_failure next))
      [ inl f ↦ absurd (win_and_failure next h.1 f) | inr f ↦ f ]
  next_code_no_failure code next (inr h) = (let l = h.1 in grind (arith, nat_tests))

  -- the code behind a ply that the codes find
  next_code : (m : Colour) → IsDue (dues.Ply m) → (place : ℕ) (x : Choice)
      → IsFound has_code (is_win cursor.code) cursor.code (choices_by (same_colour m side) arms cs)
      place x → IsNextCode cursor.code (get_or cs place 0)
  next_code m e place x found =
      let d = ply_is_due m e in
      let next = next_code_is side m cursor.code arms cs many (code_agrees_with_moves m e)
      (never_failing cursor.played cursor.code stands d.starts) place x found in
      let code = (found_code (same_colour m side) arms cs (is_win cursor.code) cursor.code place x many
      found).1 in
      subst (λ c. IsNextCode cursor.code c) code next

  -- the code behind any reply is no failure
  reply_code_stands : (m : Colour) → IsDue (dues.Ply m)
      → by_codes opponent (same_colour m side) ≡ false → (place : ℕ) (a : Arm Step ℕ Value) →
      slice_get arms place ≡ Some a
      → is_failure (get_or cs place 0) ≡ false
  reply_code_stands m e found place a there =
      let own = input_is_not_own opponent (same_colour m side) found in
      let d = ply_is_due m e in
      let within = slice_get_within arms place a there in
      let other : node_code side (nodes.Going m) (free_among arms cs) cs ≡ other_code cs =
      rw own refl in
      let whole : is_failure (other_code cs) ≡ false = subst (λ c. is_failure c ≡ false)
      (code_agrees_with_moves m e ∙ other)
      (never_failing cursor.played cursor.code stands d.starts) in
      other_stands cs place whole (omega (arith, within, many))

  same_other : (m : Colour) → same_colour m side ≡ true → same_colour (other_of m) side ≡ false
  same_other White h = others_differ side h where
    others_differ : (s : Colour) → same_colour White s ≡ true → same_colour Black s ≡ false
    others_differ White h = refl
    others_differ Black h = absurd (cc)
  same_other Black h = others_differ side h where
    others_differ : (s : Colour) → same_colour Black s ≡ true → same_colour White s ≡ false
    others_differ White h = absurd (cc)
    others_differ Black h = refl

  own_turn_counts_one : (m : Colour) (node : Node) → node ≡ nodes.Going m
      → same_colour m side ≡ true
      → own_turn side node ≡ 1
  own_turn_counts_one m node e own = rw e (rw own refl)

  other_turn_counts_none : (node : Node)
      → ((c : Colour) → node ≡ nodes.Going c → same_colour c side ≡ false)
      → own_turn side node ≡ 0
  other_turn_counts_none nodes.Broken h = refl
  other_turn_counts_none (nodes.Mate m) h = refl
  other_turn_counts_none (nodes.Stalemate m) h = refl
  other_turn_counts_none (nodes.Going m) h = (let e = h m refl in rw e refl)

  less_left_own : Alternates arena → (m : Colour) → IsDue (dues.Ply m) → same_colour m side ≡ true
      → (more place : ℕ) (a : Arm Step ℕ Value) → slice_get arms place ≡ Some a → (n : ℕ)
      → a.next ≡ Inside n → session_left arena side more n < session_left arena side more
      cursor.number
  less_left_own alternates m e own more place a there n leads =
      let d = ply_is_due m e in
      let among : Contains (arena.arms cursor.number) a = subst
      (λ (z : List (Arm Step ℕ Value)). Contains z a) are
      (placed_is_contained arms place a there) in
      let here = own_turn_counts_one m (arena.node cursor.number) d.goes own in
      let next = other_turn_counts_none (arena.node n)
      (λ c g. subst (λ z. same_colour z side ≡ false)
      (sym (alternates.turns cursor.number a m c n among leads d.goes g)) (same_other m own)) in
      omega (arith, here, next)

  left_reply : (more now : ℕ) → now < more → (n : ℕ)
      → session_left arena side now n < session_left arena side more cursor.number
  left_reply more now l n = (let h = own_most side (arena.node n) in omega (arith, l, h))

  -- a ply that the codes find leaves less to do
  less_by_codes : Alternates arena → (o : Opponent) → o ≡ opponent → (m : Colour)
      → IsDue (dues.Ply m) → by_codes o (same_colour m side) ≡ true → (old new : Reader)
      → new.more ≡ old.more → (place : ℕ) (a : Arm Step ℕ Value) → slice_get arms place ≡ Some a
      → IsNextCode cursor.code (get_or cs place 0) → (n : ℕ) → a.next ≡ Inside n
      → LeavesLess o arena side cursor old new n (get_or cs place 0)
  less_by_codes alternates opponents.Codes is m e own old new same place a there next n leads =
      let early = subst (λ (z : Opponent). ((cursor.code == 1) && late_by z cursor.played) ≡ false)
      (sym is) (ply_is_due m e).early in
      (next, still_early cursor.code cursor.played LINE_LIMIT early)
  less_by_codes alternates opponents.Input is m e own old new same place a there next n leads =
      subst (λ k. session_left arena side k n < session_left arena side old.more cursor.number)
      (sym same) (less_left_own alternates m e own old.more place a there n leads)

  -- a reply leaves less to do
  less_by_reply : (o : Opponent) (own : Bool) → by_codes o own ≡ false → (old new : Reader)
      → new.more < old.more → (n code : ℕ) → LeavesLess o arena side cursor old new n code
  less_by_reply opponents.Codes own found old new less n code = absurd (cc)
  less_by_reply opponents.Input own found old new less n code =
      left_reply old.more new.more less n

  turns_to_next : (old new : Reader) (move : Step) (next : Next ℕ Value) (code : ℕ)
      → ((n : ℕ) → next ≡ Inside n → (n < size) × (is_failure code ≡ false)
      × LeavesLess opponent arena side cursor old new n code)
      → TurnsTo arena size opponent side cursor old new (turn_of move next code)
  turns_to_next old new move (Inside n) code h = h n refl
  turns_to_next old new move (Outside v) code h = tt

  holds_if_answered : (P : Turn → Type 0) (turn : Turn) (text : List ℕ)
      (result : Result Turn PlayFault)
      (out taken : SinkTold) → P turn → Answers turn text result out taken → IfOk result P
  holds_if_answered P turn text result out taken p (inl a) =
      subst (λ (z : Result Turn PlayFault). IfOk z P) (sym a.0) p
  holds_if_answered P turn text result out taken p (inr a) =
      subst (λ (z : Result Turn PlayFault). IfOk z P) (sym a.0) tt

  holds_if_failed : (P : Turn → Type 0) (fault : PlayFault) (result : Result Turn PlayFault)
      → result ≡ Err fault → IfOk result P
  holds_if_failed P fault result e = subst (λ (z : Result Turn PlayFault). IfOk z P) (sym e) tt

  after_next : (m : Colour) → IsDue (dues.Ply m) → by_codes opponent (same_colour m side) ≡ false
      → (old new : Reader) (heard_is : Result Heard PlayFault) (source left : SourceTold)
      (out between taken : SinkTold) → Hears arms old new heard_is source left out between
      → (result : Result Turn PlayFault) → AfterHeard arms cs heard_is result between taken
      → IfOk result (TurnsTo arena size opponent side cursor old new)
  after_next m e own old new (Ok (heard.Reply place)) source left out between taken hears result h =
      holds_if_answered (TurnsTo arena size opponent side cursor old new) (turn_of h.0.mv h.0.next
      (get_or cs place 0)) _ result between taken (turns_to_next old new h.0.mv h.0.next
      (get_or cs place 0)
      (λ n leads. (
        inside_size place h.0 h.1 n leads,
        reply_code_stands m e own place h.0 h.1,
        less_by_reply opponent (same_colour m side) own old new hears.fewer n (get_or cs place 0),
      ))) h.2
  after_next m e own old new (Ok (heard.Stop Ended)) source left out between taken hears result h =
      holds_if_answered (TurnsTo arena size opponent side cursor old new) (Over ends.InputEnded) _
      result
      between taken tt h
  after_next m e own old new (Ok (heard.Stop (Limit limit))) source left out between taken hears
      result h =
      holds_if_failed (TurnsTo arena size opponent side cursor old new) _ result h.0
  after_next m e own old new (Err fault) source left out between taken hears result h =
      holds_if_failed (TurnsTo arena size opponent side cursor old new) fault result h.0

  ply_next : Alternates arena → (m : Colour) → IsDue (dues.Ply m) → (found : Bool)
      → by_codes opponent (same_colour m side) ≡ found → (old new : Reader)
      (result : Result Turn PlayFault) (source left : SourceTold) (out taken : SinkTold)
      → PlaysPly found opponent (same_colour m side) cursor arms cs old new result source left out
      taken → IfOk result (TurnsTo arena size opponent side cursor old new)
  ply_next alternates m e true own old new result source left out taken h =
      let plays = h.1 in
      let place = plays.0 in
      let a = plays.3.0 in
      let there = plays.3.1 in
      let same : new.more ≡ old.more = ap (λ (r : Reader). r.more) h.0.0 in
      let next = next_code m e place plays.1 plays.2 in
      holds_if_answered (TurnsTo arena size opponent side cursor old new)
      (turn_of a.mv a.next (get_or cs place 0)) _ result out taken
      (turns_to_next old new a.mv a.next (get_or cs place 0) (λ n leads. (
        inside_size place a there n leads,
        next_code_no_failure cursor.code (get_or cs place 0) next,
        less_by_codes alternates opponent refl m e own old new same place a there next n leads,
      ))) plays.3.2
  ply_next alternates m e false own old new result source left out taken h =
      after_next m e own old new h.heard source left out h.between taken h.hears result h.after

  -- what is cut here is a line
  pub cut_is_line : (due : Due) → IsDue due → due ≡ dues.Cut → opponent ≡ opponents.Codes
  cut_is_line due e cut =
      cut_line opponent (cursor.played == 0) cursor.played cursor.code
      (node_code side (arena.node cursor.number) (free_among arms cs) cs) (arena.node cursor.number) due
      e cut

  -- where a turn leads
  pub turn_next : Alternates arena → (due : Due) → IsDue due
      → (old new : Reader) (result : Result Turn PlayFault) (source left : SourceTold)
      (out taken : SinkTold) → IsPlayed opponent side cursor due arms cs old new result source left
      out taken
      → IfOk result (TurnsTo arena size opponent side cursor old new)
  turn_next alternates (dues.Wrong given) e old new result source left out taken h =
      holds_if_failed (TurnsTo arena size opponent side cursor old new) _ result h.1.0
  turn_next alternates dues.NoBound e old new result source left out taken h =
      holds_if_failed (TurnsTo arena size opponent side cursor old new) _ result h.1.0
  turn_next alternates (dues.Mate m) e old new result source left out taken h =
      holds_if_answered (TurnsTo arena size opponent side cursor old new) (Over ends.Mate) _ result
      out taken
      tt h.1
  turn_next alternates (dues.Stalemate m) e old new result source left out taken h =
      holds_if_answered (TurnsTo arena size opponent side cursor old new) (Over ends.Stalemate) _
      result out
      taken tt h.1
  turn_next alternates dues.Cut e old new result source left out taken h =
      holds_if_answered (TurnsTo arena size opponent side cursor old new) (Over ends.Cut) _ result
      out taken
      tt h.1
  turn_next alternates (dues.Ply m) e old new result source left out taken h =
      ply_next alternates m e (by_codes opponent (same_colour m side)) refl old new result source
      left out taken h
