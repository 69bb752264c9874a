-- What is due at a number as a stage of a way, and its moves as the program sees them.
use Rattle.std.proofs.Common.{◌≡◌, ◌==◌, ◌&&◌, ℕ, Bool, true, false, List, [], ◌∷◌, map, refl, sym, ap, ◌∙◌, if◌then◌else◌}
use Rattle.std.specs.Prelude.{slice_index}
use Rattle.frz_board.specs.declared.man.Colour.{Colour}
use Rattle.frz_board.specs.Men.{same_colour}
use Rattle.frz_board.specs.Moving.{Step}
use Rattle.frz_sets.specs.declared.exit.Value.{Value}
use Rattle.frz_arena.specs.declared.arm.Arm.{Arm}
use Rattle.frz_arena.specs.declared.node.Node.{Node}
use Rattle.frz_arena.specs.declared.node.Node.TheVariants as nodes
use Rattle.frz_arena.specs.Arena.{Arena}
use Rattle.frz_arena.specs.Choices.{choice_of}
use Rattle.frz_arena.specs.Codes.{is_failure}
use Rattle.frz_arena.specs.Counted.{after, counted}
use Rattle.frz_arena.specs.LocalCodes.{local_code}
use Rattle.frz_arena.specs.Names.{named}
use Rattle.frz_arena.specs.WayEnds.{Wrong, NoBound, Mated, Stalemated, Cut}
use Rattle.frz_arena.specs.Ways.{Player, Stage, Over, Moves, is_cut, stage, stage_of}
use Rattle.frz_arena.proofs.Lemmas.{counted_next}
use Rattle.frz_exits.specs.Values.{class_of, lag_of}
use Rattle.frz_graph.specs.EntryCodes.{arm_code}
use Rattle.frz_graph.proofs.Lemmas.{same_next}
use Rattle.frz_ways.specs.declared.due.Due.{Due}
use Rattle.frz_ways.specs.declared.due.Due.TheVariants as dues
use Rattle.frz_ways.specs.Dues.{due_by, due_on}
use Rattle.frz_ways.specs.SeenMoves.{choices_by}

-- the stage that what is due stands for
abbrev pub stage_told : {N R : Type 0} → (number : N) → (kept : ℕ) → Due → Stage N Value R
stage_told number kept (dues.Wrong given) = Over (Wrong number kept given)
stage_told number kept dues.NoBound = Over NoBound
stage_told number kept (dues.Mate mover) = Over (Mated mover)
stage_told number kept (dues.Stalemate mover) = Over (Stalemated mover)
stage_told number kept dues.Cut = Over Cut
stage_told number kept (dues.Ply mover) = Moves mover

told_if : {N R : Type 0} (number : N) (kept : ℕ) (b : Bool) (x y : Due)
    → stage_told {R = R} number kept (if b then x else y)
    ≡ (if b then stage_told number kept x else stage_told number kept y)
told_if number kept true x y = refl
told_if number kept false x y = refl

told_on : {M N S R : Type 0} (player : Player M N Value S R) (k : ℕ) (i : N) (kept : ℕ)
    (is_late : Bool)
    → player.entry i ≡ kept → is_cut player.opponent k (player.entry i) ≡ ((kept == 1) && is_late)
    → (node : Node) → stage_of player k i node ≡ stage_told i kept (due_on is_late kept node)
told_on player k i kept is_late e cut nodes.Broken = rw e refl
told_on player k i kept is_late e cut (nodes.Mate mover) = refl
told_on player k i kept is_late e cut (nodes.Stalemate mover) = refl
told_on {M} {N} {S} {R} player k i kept is_late e cut (nodes.Going mover) =
    rw cut (sym (told_if {R = R} i kept ((kept == 1) && is_late) dues.Cut (dues.Ply mover)))

-- what is due is the stage of any player with these codes
pub stage_due : {M N S R : Type 0} (player : Player M N Value S R) (k : ℕ) (i : N) (kept given : ℕ)
    (is_start is_late : Bool) → player.entry i ≡ kept
    → local_code player.arena player.side player.entry i ≡ given → (k == 0) ≡ is_start
    → is_cut player.opponent k (player.entry i) ≡ ((kept == 1) && is_late)
    → stage player k i ≡ stage_told i kept
    (due_by is_start is_late kept given (player.arena.node i))
stage_due {M} {N} {S} {R} player k i kept given is_start is_late e l b cut =
    let on = told_on player k i kept is_late e cut (player.arena.node i) in
    let inner : (if is_start && is_failure kept then Over NoBound else stage_of player k i
    (player.arena.node i)) ≡ stage_told {R = R} i kept
    (if is_start && is_failure kept then dues.NoBound else due_on is_late kept
    (player.arena.node i)) = (
    ap (λ (z : Stage N Value R). if is_start && is_failure kept then Over NoBound else z) on
    ∙ sym (told_if {R = R} i kept (is_start && is_failure kept) dues.NoBound
    (due_on is_late kept (player.arena.node i)))) in
    let outer : (if kept == given
    then (if is_start && is_failure kept then Over NoBound else stage_of player k i
    (player.arena.node i)) else Over (Wrong i kept given)) ≡ stage_told {R = R} i kept
    (due_by is_start is_late kept given (player.arena.node i)) = (
    ap (λ (z : Stage N Value R). if kept == given then z else Over (Wrong i kept given)) inner
    ∙ sym (told_if {R = R} i kept (kept == given)
    (if is_start && is_failure kept then dues.NoBound else due_on is_late kept
    (player.arena.node i)) (dues.Wrong given))) in
    rw (l, e, b) outer

-- the moves as the program sees them are those of the arena by the codes that are read now
pub seen_by_codes : (arena : Arena Step ℕ Value) → arena.class ≡ class_of → arena.lag ≡ lag_of
    → (side mover : Colour) (codes : ℕ → List ℕ) (k : ℕ) (arms : List (Arm Step ℕ Value))
    → choices_by (same_colour mover side) arms (map (arm_code side (codes k)) arms) ≡ map
    (choice_of (counted arena) side (λ p. slice_index (codes p.0) p.1) mover)
    (map (named (after k)) arms)
seen_by_codes arena class lag side mover codes k [] = refl
seen_by_codes arena class lag side mover codes k (a ∷ arms) =
    let code = same_next arena class lag side (codes k) a.next
    ∙ sym (counted_next arena side (λ p. slice_index (codes p.0) p.1) k a.next) in
    let rest = seen_by_codes arena class lag side mover codes k arms in
    rw (code, rest) refl
