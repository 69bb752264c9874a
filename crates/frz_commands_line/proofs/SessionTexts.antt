-- What the text of a session says: its plies, its end, and that it has one.
use Rattle.std.proofs.Common.{◌≡◌, refl, sym, ap, subst, ◌∙◌, ℕ, suc, ◌==◌, ◌&&◌, Bool, true, false, List, [], ◌∷◌, ◌++◌, Result, Ok, Err, inl, inr, if◌then◌else◌, append_assoc}
use Rattle.std.specs.Prelude.{codes}
use Rattle.frz_board.specs.declared.man.Colour.{Colour}
use Rattle.frz_board.specs.Men.{same_colour}
use Rattle.frz_board.specs.Moving.{Step}
use Rattle.frz_sets.specs.declared.exit.Value.{Value}
use Rattle.frz_game.specs.declared.wrong.Wrong.{Wrong as WrongEntry}
use Rattle.frz_arena.specs.declared.arm.Next.{Next}
use Rattle.frz_arena.specs.declared.arm.Next.TheVariants.{Inside, Outside}
use Rattle.frz_arena.specs.declared.node.Node.{Node}
use Rattle.frz_arena.specs.declared.node.Node.TheVariants.{Broken, Mate, Stalemate, Going}
use Rattle.frz_arena.specs.Arena.{Arena}
use Rattle.frz_arena.specs.Codes.{is_failure}
use Rattle.frz_arena.specs.LocalCodes.{local_code}
use Rattle.frz_arena.specs.Plies.{LeadsTo}
use Rattle.frz_arena.specs.WayEnds.{Wrong, NoBound, Mated, Stalemated, Exit, Cut, Stopped}
use Rattle.frz_arena.specs.Ways.{Over, stage, stage_of, IsStopBy, IsWay}
use Rattle.frz_ways.specs.declared.end.LineFault.TheVariants as faults
use Rattle.frz_ways.specs.Texts.{exit_line}
use Rattle.frz_ways.specs.declared.session_end.PlayFault.{PlayFault}
use Rattle.frz_ways.specs.declared.session_end.PlayFault.TheVariants as plays
use Rattle.frz_ways.specs.declared.session_end.SessionEnd.{SessionEnd}
use Rattle.frz_ways.specs.declared.session_end.SessionEnd.TheVariants as ends
use Rattle.frz_ways.specs.declared.hearing.Why.{Why}
use Rattle.frz_ways.specs.declared.hearing.Why.TheVariants.{Ended, Limit}
use Rattle.frz_ways.specs.declared.session_end.PlayLimit.TheVariants.{Lines, LineLength}
use Rattle.frz_ways.specs.SessionEnds.{why_told, Tells, StopsShort}
use Rattle.frz_ways.specs.Reading.{Input}
use Rattle.frz_ways.specs.Sessions.{SessionPly, EndOfSession, session_player}
use Rattle.frz_ways.specs.SessionTexts.{refused_text, plies_text, why_line, end_text, start_line}
use Rattle.frz_commands_line.specs.SessionEnds.{session_naming}
use Rattle.frz_commands_line.specs.SessionOf.{played_text}
use Rattle.frz_commands_line.proofs.Counting.{no_left, no_right}

-- no session is cut
no_cut : (node : Node) (arena : Arena Step ℕ Value) (side : Colour) (codes_of : ℕ → List ℕ) (k : ℕ)
    (p : ℕ × ℕ)
    → stage_of (session_player arena side codes_of) k p node ≡ Over Cut → ⊥
no_cut Broken arena side codes_of k p e = cc
no_cut (Mate mover) arena side codes_of k p e = cc
no_cut (Stalemate mover) arena side codes_of k p e = cc
no_cut (Going mover) arena side codes_of k p e = cc

by_tests : (agrees starts : Bool) (arena : Arena Step ℕ Value) (side : Colour)
    (codes_of : ℕ → List ℕ)
    (k : ℕ) (p : ℕ × ℕ) (kept given : ℕ) (node : Node)
    → (if agrees then
    (if starts then Over NoBound else stage_of (session_player arena side codes_of) k p node)
    else Over (Wrong p kept given)) ≡ Over Cut → ⊥
by_tests true true arena side codes_of k p kept given node e = cc
by_tests true false arena side codes_of k p kept given node e =
    no_cut node arena side codes_of k p e
by_tests false starts arena side codes_of k p kept given node e = cc

stage_goes : (arena : Arena Step ℕ Value) (side : Colour) (codes_of : ℕ → List ℕ) (k : ℕ)
    (p : ℕ × ℕ)
    → stage (session_player arena side codes_of) k p ≡ Over Cut → ⊥
stage_goes arena side codes_of k p e =
    let player = session_player arena side codes_of in
    let given = local_code player.arena side player.entry p in
    by_tests (player.entry p == given) ((k == 0) && is_failure (player.entry p)) arena side codes_of
    k p (player.entry p) given (player.arena.node p) e

no_stop : (own : Bool) (arena : Arena Step ℕ Value) (side : Colour) (codes_of : ℕ → List ℕ)
    (s : Input)
    (p : ℕ × ℕ) (t : Input)
    → IsStopBy {N = ℕ × ℕ} {V = Value} own (session_player arena side codes_of).opponent s p Cut t
    → ⊥
no_stop true arena side codes_of s p t h = h
no_stop false arena side codes_of s p t h = let e = h.1 in cc

cut_next : (next : Next (ℕ × ℕ) Value) (P : ℕ × ℕ → Type 0) (plies : List SessionPly)
    (left t : Input)
    → ((q : ℕ × ℕ) → P q → ⊥)
    → LeadsTo P (λ v. (plies ≡ []) × (◌≡◌ {A = EndOfSession} Cut (Exit v)) × (t ≡ left)) next → ⊥
cut_next (Inside q) P plies left t again w = again q w
cut_next (Outside v) P plies left t again w = let e = w.1 in cc

never_cut_at : (arena : Arena Step ℕ Value) (side : Colour) (codes_of : ℕ → List ℕ) (k : ℕ)
    (s : Input) (p : ℕ × ℕ) (plies : List SessionPly) (t : Input)
    → IsWay (session_player arena side codes_of) k s p plies Cut t → ⊥
never_cut_at arena side codes_of k s p [] t (inl h) = stage_goes arena side codes_of k p h.0
never_cut_at arena side codes_of k s p [] t (inr h) =
    no_stop (same_colour h.0 side) arena side codes_of s p t h.2
never_cut_at arena side codes_of k s p (x ∷ plies) t h =
    cut_next x.arm.next
    (λ q. IsWay (session_player arena side codes_of) (suc k) h.2.0 q plies Cut t) plies h.2.0 t
    (λ q w. never_cut_at arena side codes_of (suc k) h.2.0 q plies t w) h.2.2

pub never_cut : (arena : Arena Step ℕ Value) (side : Colour) (codes_of : ℕ → List ℕ) (k : ℕ)
    (s : Input) (p : ℕ) (plies : List SessionPly) (t : Input)
    → IsWay (session_player arena side codes_of) k s (k, p) plies Cut t → ⊥
never_cut arena side codes_of k s p plies t w =
    never_cut_at arena side codes_of k s (k, p) plies t w

-- what is answered at an end, and that it is said
pub record Answered (side : Colour) (end : EndOfSession) : Type 0 where
  pub answer : Result SessionEnd PlayFault
  pub tells : Tells side end answer
  pub said : (rest : List ℕ) → StopsShort side end rest → rest ++ session_naming answer ≡ [] → ⊥

ended_as : (side : Colour) (end : EndOfSession) (last : SessionEnd) → Tells side end (Ok last)
    → Answered side end
ended_as side end last tells =
    record {
      answer = Ok last;
      tells = tells;
      said = λ rest short e. short last tells
          (no_left rest [] e);
    }

faulted_as : (side : Colour) (end : EndOfSession) (fault : PlayFault) → Tells side end (Err fault)
    → (session_naming (Err fault) ≡ [] → ⊥) → Answered side end
faulted_as side end fault tells some = record {
  answer = Err fault;
  tells = tells;
  said = λ rest short e. some (no_right rest (session_naming (Err fault)) e);
}

by_why : (side : Colour) (refused : ℕ) (why : Why)
    → Answered side (Stopped (record { refused = refused; why = why }))
by_why side refused Ended =
    ended_as side (Stopped (record { refused = refused; why = Ended })) ends.InputEnded refl
by_why side refused (Limit Lines) =
    faulted_as side (Stopped (record { refused = refused; why = Limit Lines })) (plays.Limit Lines)
    refl (λ e. cc)
by_why side refused (Limit LineLength) =
    faulted_as side (Stopped (record { refused = refused; why = Limit LineLength }))
    (plays.Limit LineLength) refl (λ e. cc)

pub answered_at : (side : Colour) (end : EndOfSession) → (end ≡ Cut → ⊥) → Answered side end
answered_at side (Wrong at kept given) uncut =
    let w : WrongEntry = record { side = side; number = at.1; kept = kept; given = given } in
    faulted_as side (Wrong at kept given) (plays.Line (faults.Wrong w)) refl (λ e. cc)
answered_at side NoBound uncut = faulted_as side NoBound (plays.Line faults.NoBound) refl (λ e. cc)
answered_at side (Mated mover) uncut = ended_as side (Mated mover) ends.Mate refl
answered_at side (Stalemated mover) uncut = ended_as side (Stalemated mover) ends.Stalemate refl
answered_at side (Exit v) uncut = ended_as side (Exit v) (ends.Exit v) refl
answered_at side Cut uncut = absurd (uncut refl)
answered_at side (Stopped halt) uncut = by_why side halt.refused halt.why

-- the text of a session says something
last_said : (side : Colour) (end : EndOfSession) (answer : Result SessionEnd PlayFault)
    → Tells side end answer → end_text end ++ session_naming answer ≡ [] → ⊥
last_said side (Wrong at kept given) answer tells e =
    let w : WrongEntry = record { side = side; number = at.1; kept = kept; given = given } in
    let naming : session_naming (Err (plays.Line (faults.Wrong w))) ≡ [] = subst
    (λ (r : Result SessionEnd PlayFault). session_naming r ≡ []) tells
    (no_right [] (session_naming answer) e) in cc
last_said side NoBound answer tells e =
    let naming : session_naming (Err (plays.Line faults.NoBound)) ≡ [] = subst
    (λ (r : Result SessionEnd PlayFault). session_naming r ≡ []) tells
    (no_right [] (session_naming answer) e) in cc
last_said side (Mated mover) answer tells e =
    let none = no_left (codes "mate\n") (session_naming answer) e in cc
last_said side (Stalemated mover) answer tells e =
    let none = no_left (codes "stalemate\n") (session_naming answer) e in cc
last_said side (Exit v) answer tells e =
    let none : exit_line v ≡ [] = no_left (exit_line v) (session_naming answer) e in cc
last_said side Cut answer tells e = tells
last_said side (Stopped halt) answer tells e =
    by_halt halt.why tells
    (no_left (refused_text halt.refused ++ why_line halt.why) (session_naming answer) e)
    (no_right (refused_text halt.refused ++ why_line halt.why) (session_naming answer) e)
  where
    by_halt : (why : Why) → answer ≡ why_told why → refused_text halt.refused ++ why_line why ≡ []
        → session_naming answer ≡ [] → ⊥
    by_halt Ended is text naming =
        let none = no_right (refused_text halt.refused) (codes "input ended\n") text in cc
    by_halt (Limit Lines) is text naming =
        let none : session_naming (Err (plays.Limit Lines)) ≡ [] = subst
        (λ (r : Result SessionEnd PlayFault). session_naming r ≡ []) is naming in cc
    by_halt (Limit LineLength) is text naming =
        let none : session_naming (Err (plays.Limit LineLength)) ≡ [] = subst
        (λ (r : Result SessionEnd PlayFault). session_naming r ≡ []) is naming in cc

pub session_said : (side : Colour) (code : ℕ) (plies : List SessionPly) (end : EndOfSession)
    (answer : Result SessionEnd PlayFault) → Tells side end answer
    → played_text side code plies end answer ≡ [] → ⊥
session_said side code plies end answer tells e =
    let first = start_line side code plies end in
    let text = plies_text side plies in
    let same : (first ++ (text ++ end_text end)) ++ session_naming answer ≡ first
    ++ (text ++ (end_text end ++ session_naming answer)) =
    append_assoc first (text ++ end_text end) (session_naming answer)
    ∙ ap (λ (l : List ℕ). first ++ l)
    (append_assoc text (end_text end) (session_naming answer)) in
    last_said side end answer tells
    (no_right text (end_text end ++ session_naming answer)
    (no_right first (text ++ (end_text end ++ session_naming answer)) (sym same ∙ e)))
