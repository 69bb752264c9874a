-- The moves of a number of some rules, from the legal moves of its position.
use Rattle.std.proofs.Common.{◌≡◌, ◌≢◌, ◌↔◌, ℕ, Bool, true, false, List, [], ◌∷◌, map, Some, refl, sym, ◌∙◌, ap, subst, inl, inr}
use Rattle.std.specs.List.{Contains}
use Rattle.frz_board.specs.declared.man.Colour.{Colour}
use Rattle.frz_board.specs.Boards.{Board}
use Rattle.frz_board.specs.Moving.{Step, IsStep}
use Rattle.frz_fide.specs.Legal.{is_legal, after}
use Rattle.frz_fide.specs.Listing.{legal_moves_of}
use Rattle.frz_sets.specs.declared.exit.Value.{Value}
use Rattle.frz_sets.specs.Views.{GroupLine, RuleLines}
use Rattle.frz_sets.specs.Sets.{size_of}
use Rattle.frz_arena.specs.Arena.{IsArm}
use Rattle.frz_arena.specs.Games.{node_by, next_by}
use Rattle.frz_arena.specs.Games as games
use Rattle.frz_arena.specs.Names.{node_at, arms_at, name_by, name_in, named, named_next}
use Rattle.frz_arena.specs.declared.node.Node.TheVariants.{Broken}
use Rattle.frz_arena.specs.declared.arm.Next.TheVariants.{Inside}
use Rattle.frz_arena.proofs.Lemmas.{cases_Option}
use Rattle.frz_exits.specs.Forbidding.{is_free}
use Rattle.frz_index.specs.Members.{Member, Num, HasNumber}
use Rattle.frz_game.specs.Games.{arena_by, graph_by, game_of}
use Rattle.frz_game.specs.Numbers.{is_member, number_of, position_at, numbers_by}
use Rattle.frz_unmove.specs.Pairs.{LeadsTo}
use Rattle.frz_retro.specs.Graphs.{Arm, IsMoveTo, mover_of}
use Rattle.frz_retro.specs.Shape.{In}
use Rattle.frz_retro.proofs.Laws.{contains_in, in_contains}

in_map : {X Y : Type 0} (f : X → Y) (xs : List X) (x : X) → In x xs → In (f x) (map f xs)
in_map f [] x h = absurd h
in_map f (y ∷ xs) x (inl s) = inl (ap f s)
in_map f (y ∷ xs) x (inr t) = inr (in_map f xs x t)

from_map : {X Y : Type 0} (f : X → Y) (xs : List X) (y : Y) → In y (map f xs) →
    (x : X) × In x xs × (f x ≡ y)
from_map f [] y h = absurd h
from_map f (x ∷ xs) y (inl s) = (x, inl refl, s)
from_map f (x ∷ xs) y (inr t) = let w = from_map f xs y t in (w.0, inr w.1, w.2)

mover_by : (member : Bool) (moves : List Step) (check : Bool) (turn : Colour) → member ≡ true →
    mover_of (node_by member moves check turn) ≡ Some turn
mover_by false moves check turn e = absurd (cc)
mover_by true (m ∷ moves) check turn e = refl
mover_by true [] true turn e = refl
mover_by true [] false turn e = refl

to_inside : (name : Board → ℕ) (member : Bool) (q : Board) (v : Value) → member ≡ true →
    named_next name (next_by member q v) ≡ Inside (name q)
to_inside name false q v e = absurd (cc)
to_inside name true q v e = refl

from_inside : (name : Board → ℕ) (member : Bool) (q : Board) (v : Value) (n : ℕ) →
    named_next name (next_by member q v) ≡ Inside n → (member ≡ true) × (name q ≡ n)
from_inside name false q v n e = absurd (cc)
from_inside name true q v n e = (refl, cc)

-- what is known of a set's numbers and of lists of moves
pub record Known : Type 0 where
  pub member : (groups : List GroupLine) (p : Board) → (is_member groups p ≡ true) ↔ Member groups p
  pub number : (groups : List GroupLine) (p : Board) → Member groups p →
      number_of groups p ≡ Some (Num groups p)
  pub position : (groups : List GroupLine) (i : ℕ) (p : Board) →
      (position_at groups i ≡ Some p) ↔ HasNumber groups i p
  pub listed : (p : Board) (m : Step) →
      Contains (legal_moves_of p) m ↔ (IsStep m × (is_legal p m ≡ true))

module _ (known : Known) (rules : RuleLines) (value : Board → Value) where
  name : Board → ℕ
  name = name_in (numbers_by rules.groups)

  named_by : (p : Board) → Member rules.groups p →
      name_in (numbers_by rules.groups) p ≡ Num rules.groups p
  named_by p h = ap (λ o. name_by (size_of rules.groups) o) (known.number rules.groups p h)

  -- a move of a number is a legal move of its position
  pub from_arm : (i : ℕ) (a : Arm) → IsArm (graph_by rules value) i a →
      (p : Board) × (m : Step) × HasNumber rules.groups i p × Contains (legal_moves_of p) m
      × (named (name_in (numbers_by rules.groups)) (games.arm_of (game_of rules value) p m) ≡ a)
  from_arm i a h =
      let among = in_contains ((graph_by rules value).arms i) a h in
      elim (cases_Option (position_at rules.groups i)) [
        | inl none ↦
            absurd (subst (λ o. In a
            (arms_at (arena_by rules value) (name_in (numbers_by rules.groups)) o)) none among)
        | inr p ↦
            let here = subst (λ o. In a
            (arms_at (arena_by rules value) (name_in (numbers_by rules.groups)) o)) p.1 among in
            let arm = from_map (named (name_in (numbers_by rules.groups)))
            ((arena_by rules value).arms p.0) a here in
            let move = from_map (games.arm_of (game_of rules value) p.0) (legal_moves_of p.0) arm.0
            arm.1 in (
              p.0,
              move.0,
              (known.position rules.groups i p.0).0 p.1,
              contains_in (legal_moves_of p.0) move.0 move.1,
              ap (named (name_in (numbers_by rules.groups))) move.2 ∙ arm.2,
            )
      ]

  -- and each is one
  pub to_arm : (i : ℕ) (p : Board) (m : Step) → HasNumber rules.groups i p →
      Contains (legal_moves_of p) m →
      IsArm (graph_by rules value) i
      (named (name_in (numbers_by rules.groups)) (games.arm_of (game_of rules value) p m))
  to_arm i p m h legal =
      let e = (known.position rules.groups i p).1 h in
      let arm = named (name_in (numbers_by rules.groups))
      (games.arm_of (game_of rules value) p m) in
      contains_in ((graph_by rules value).arms i) arm
      (subst (λ o. In arm (arms_at (arena_by rules value) (name_in (numbers_by rules.groups)) o))
      (sym e)
      (in_map (named (name_in (numbers_by rules.groups))) ((arena_by rules value).arms p)
      (games.arm_of (game_of rules value) p m)
      (in_map (games.arm_of (game_of rules value) p) (legal_moves_of p) m
      (in_contains (legal_moves_of p) m legal))))

  pub there : (i : ℕ) → (graph_by rules value).node i ≢ Broken →
      (p : Board) × HasNumber rules.groups i p
      × (mover_of ((graph_by rules value).node i) ≡ Some p.turn)
  there i whole = elim (cases_Option (position_at rules.groups i)) [
    | inl none ↦ absurd (whole (ap (node_at (arena_by rules value)) none))
    | inr p ↦
        let h = (known.position rules.groups i p.0).0 p.1 in (
          p.0,
          h,
          ap (λ o. mover_of (node_at (arena_by rules value) o)) p.1
              ∙ mover_by (is_member rules.groups p.0) (legal_moves_of p.0)
              ((game_of rules value).chess.in_check p.0) p.0.turn
              ((known.member rules.groups p.0).1 h.member),
        )
  ]

  pub leads_inside : (i : ℕ) (m : Step) (q : ℕ) → LeadsTo rules.groups i m q →
      IsMoveTo (graph_by rules value) i m q
  leads_inside i m q l =
      let p = l.earlier in
      let r = after p m in (
        named (name_in (numbers_by rules.groups)) (games.arm_of (game_of rules value) p m),
        to_arm i p m l.number ((known.listed p m).1 (l.step, l.legal)),
        refl,
        to_inside (name_in (numbers_by rules.groups)) (is_member rules.groups r) r (value r)
            ((known.member rules.groups r).1 l.arrives.member)
            ∙ ap Inside (named_by r l.arrives.member ∙ l.arrives.number),
      )

  pub inside_leads : (i : ℕ) (m : Step) (q : ℕ) → IsMoveTo (graph_by rules value) i m q →
      LeadsTo rules.groups i m q
  inside_leads i m q w =
      let arm = from_arm i w.0 w.1 in
      let p = arm.0 in
      let same : arm.1 ≡ m = ap (λ (a : Arm). a.mv) arm.4 ∙ w.2 in
      let r = after p arm.1 in
      let inside = from_inside (name_in (numbers_by rules.groups)) (is_member rules.groups r) r
      (value r) q (ap (λ (a : Arm). a.next) arm.4 ∙ w.3) in
      let member = (known.member rules.groups r).0 inside.0 in
      let legal = (known.listed p arm.1).0 arm.3 in
      subst (λ n. LeadsTo rules.groups i n q) same (record {
        earlier = p;
        number = arm.2;
        step = legal.0;
        legal = legal.1;
        arrives = record { member = member; number = sym (named_by r member) ∙ inside.1 };
      })

  pub free_arm : (i : ℕ) (a : Arm) → IsArm (graph_by rules value) i a →
      (p : Board) × HasNumber rules.groups i p × (a.free ≡ is_free rules p.turn p a.mv)
  free_arm i a h =
      let arm = from_arm i a h in
      (arm.0, arm.2, subst (λ (b : Arm). b.free ≡ is_free rules arm.0.turn arm.0 b.mv) arm.4 refl)
