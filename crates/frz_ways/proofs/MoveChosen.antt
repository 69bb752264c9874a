-- The move of a number that was found, as the arm that the player's code asks for.
use Rattle.std.proofs.Common.{◌≡◌, ℕ, suc, List, Some, map, refl, sym, subst, ap, ◌∙◌}
use Rattle.std.specs.Prelude.{slice_get, slice_index}
use Rattle.std.specs.List.{Contains}
use Rattle.std.proofs.lemmas.List.Elements.{All-contains_itself}
use Rattle.std.proofs.lemmas.Option.{slice_get-map, slice_get_within, get_or_from_slice_get}
use Rattle.frz_board.specs.declared.man.Colour.{Colour}
use Rattle.frz_board.specs.Men.{same_colour}
use Rattle.frz_board.specs.Moving.{Step}
use Rattle.frz_sets.specs.declared.exit.Value.{Value}
use Rattle.frz_arena.specs.declared.arm.Arm.{Arm}
use Rattle.frz_arena.specs.declared.choice.Choice.{Choice}
use Rattle.frz_arena.specs.Arena.{Arena}
use Rattle.frz_arena.specs.Choices.{has_code, choice_of}
use Rattle.frz_arena.specs.Chosen.{IsFound, IsChosen, is_candidate}
use Rattle.frz_arena.specs.Codes.{is_win}
use Rattle.frz_arena.specs.Counted.{after, counted}
use Rattle.frz_arena.specs.LocalCodes as words
use Rattle.frz_arena.specs.LocalCodes.{node_code, local_code}
use Rattle.frz_arena.specs.Names.{named}
use Rattle.frz_arena.proofs.Lemmas.{choice_is_arm, counted_local, counted_next, found_at}
use Rattle.frz_exits.specs.Values.{class_of, lag_of}
use Rattle.frz_graph.specs.EntryCodes.{arm_code}
use Rattle.frz_graph.specs.Finite.{IsFinite}
use Rattle.frz_graph.specs.FreeCodes.{free_among}
use Rattle.frz_ways.specs.SeenMoves.{choices_by}
use Rattle.frz_ways.proofs.Stages.{seen_by_codes}

pub placed_is_contained : {X : Type 0} (xs : List X) (i : ℕ) (x : X) → slice_get xs i ≡ Some x
    → Contains xs x
placed_is_contained {X} xs i x e =
    subst (λ (z : X). Contains xs z) (get_or_from_slice_get xs i x x e)
    (All-contains_itself xs i x (slice_get_within xs i x e))

-- the claim that the code asks for one move alone
abbrev pub AsksForOne : Type 0
AsksForOne = (arena : Arena Step (ℕ × ℕ) Value) (side : Colour) (entry : ℕ × ℕ → ℕ)
    (mover : Colour) (p : ℕ × ℕ) (i j : ℕ) (a b : Arm Step (ℕ × ℕ) Value)
    → IsChosen arena side entry mover p i a → IsChosen arena side entry mover p j b
    → (i ≡ j) × (a ≡ b)

-- the claim that the moves of a number and their codes give its local code
abbrev pub FillsLocal : Type 0
FillsLocal = (arena : Arena Step ℕ Value) → arena.class ≡ class_of → arena.lag ≡ lag_of
    → (side : Colour) (kept : List ℕ) (i : ℕ)
    → node_code side (arena.node i)
    (free_among (arena.arms i) (map (arm_code side kept) (arena.arms i)))
    (map (arm_code side kept) (arena.arms i)) ≡ local_code arena side (λ k. slice_index kept k) i

-- the code of a position after so many plies, as it is known then
abbrev pub known : (ℕ → List ℕ) → ℕ × ℕ → ℕ
known codes p = slice_index (codes p.0) p.1

-- the local code by the codes that are read now
pub local_code_of : FillsLocal → (arena : Arena Step ℕ Value) (size : ℕ) → IsFinite arena size
    → (side : Colour) (codes : ℕ → List ℕ) (k i : ℕ) (arms : List (Arm Step ℕ Value))
    (cs : List ℕ) → arms ≡ arena.arms i → cs ≡ map (arm_code side (codes (suc k))) arms
    → node_code side (arena.node i) (free_among arms cs) cs ≡ local_code (counted arena) side
    (known codes) (k, i)
local_code_of fills arena size finite side codes k i arms cs are same =
    let kept = codes (suc k) in
    ap (λ (z : List ℕ). node_code side (arena.node i) (free_among arms z) z) same
    ∙ (ap (λ (z : List (Arm Step ℕ Value)). node_code side (arena.node i)
    (free_among z (map (arm_code side kept) z)) (map (arm_code side kept) z)) are
    ∙ (fills arena finite.class finite.lag side kept i
    ∙ sym (counted_local arena side (known codes) k i)))

-- the move that was found is the arm that the player's code
-- asks for, and its code is the one that was read
pub record IsArmOf (arena : Arena Step ℕ Value) (side mover : Colour) (codes : ℕ → List ℕ)
    (k number place : ℕ) (a : Arm Step ℕ Value) (code : ℕ) : Type 0 where
  pub chosen : IsChosen (counted arena) side (known codes) mover (k, number) place
      (named (after (suc k)) a)
  pub is : words.next_code arena side (λ i. slice_index (codes (suc k)) i) a.next ≡ code

pub arm_found : (arena : Arena Step ℕ Value) (size : ℕ) → IsFinite arena size
    → (side mover : Colour) (codes : ℕ → List ℕ) (k number code : ℕ)
    (arms : List (Arm Step ℕ Value)) (cs : List ℕ) → arms ≡ arena.arms number
    → cs ≡ map (arm_code side (codes (suc k))) arms
    → slice_index (codes k) number ≡ code → (place : ℕ) (x : Choice) (a : Arm Step ℕ Value)
    → IsFound has_code (is_win code) code (choices_by (same_colour mover side) arms cs) place x
    → slice_get arms place ≡ Some a → IsArmOf arena side mover codes k number place a x.code
arm_found arena size finite side mover codes k number code arms cs are same agrees place x a found
    there =
    let entry : ℕ × ℕ → ℕ = known codes in
    let turn : Arm Step ℕ Value → Arm Step (ℕ × ℕ) Value = named (after (suc k)) in
    let seen = choice_of (counted arena) side entry mover in
    let counts = map turn (arena.arms number) in
    let choices : choices_by (same_colour mover side) arms cs ≡ map seen counts = (
    ap (choices_by (same_colour mover side) arms) same
    ∙ (seen_by_codes arena finite.class finite.lag side mover codes (suc k) arms
    ∙ ap (λ (z : List (Arm Step ℕ Value)). map seen (map turn z)) are)) in
    let mapped : IsFound has_code (is_win code) code (map seen counts) place x = subst
    (λ (z : List Choice). IsFound has_code (is_win code) code z place x) choices found in
    let own : IsFound has_code (is_win (entry (k, number))) (entry (k, number)) (map seen counts)
    place x = subst (λ (c : ℕ). IsFound has_code (is_win c) c (map seen counts)
    place x) (sym agrees) mapped in
    let r = choice_is_arm (counted arena) side entry mover (k, number) place x own in
    let r_there = found_at (is_candidate (counted arena) side entry mover)
    (is_win (entry (k, number))) (entry (k, number)) counts place r.0 r.1 in
    let plain : slice_get (arena.arms number) place ≡ Some a = subst
    (λ (z : List (Arm Step ℕ Value)). slice_get z place ≡ Some a) are there in
    let n = slice_get-map turn (arena.arms number) place in
    let a_there : slice_get counts place ≡ Some (turn a) = rw (n, plain) refl in
    let arm : r.0 ≡ turn a = cc in
    let x_there = found_at has_code (is_win code) code (map seen counts) place x
    mapped in
    let m = slice_get-map seen counts place in
    let image : slice_get (map seen counts) place ≡ Some (seen (turn a)) =
    rw (m, a_there) refl in
    let choice : x ≡ seen (turn a) = cc in
    record {
      chosen =
          subst (λ (z : Arm Step (ℕ × ℕ) Value). IsChosen (counted arena) side entry mover
          (k, number) place z) arm r.1;
      is = sym (counted_next arena side entry (suc k) a.next)
          ∙ sym (ap (λ (z : Choice). z.code) choice);
    }
