-- A failing way over the numbers of a set is a game of chess.
use Rattle.std.proofs.Common.{◌≡◌, ◌≢◌, ℕ, inl, inr, Bool, true, false, List, [], ◌∷◌, Some, map, refl, sym, subst, ap, ◌∙◌}
use Rattle.std.specs.List.{Contains}
use Rattle.std.proofs.lemmas.Bool.{cases_Bool}
use Rattle.frz_board.specs.declared.man.Colour.{Colour}
use Rattle.frz_board.specs.Attacks.{is_in_check}
use Rattle.frz_board.specs.Boards.{Board}
use Rattle.frz_board.specs.Men.{same_colour}
use Rattle.frz_board.specs.Moving.{Step}
use Rattle.frz_fide.specs.Legal.{after}
use Rattle.frz_fide.specs.Listing.{legal_moves_of}
use Rattle.frz_sets.specs.declared.exit.Value.{Value}
use Rattle.frz_sets.specs.Views.{GroupLine, RuleLines}
use Rattle.frz_exits.specs.Forbidding.{is_free}
use Rattle.frz_index.specs.Members.{Num}
use Rattle.frz_index.proofs.Lemmas.{member_of, number_there, position_of}
use Rattle.frz_arena.specs.declared.arm.Arm.{Arm}
use Rattle.frz_arena.specs.declared.arm.Next.TheVariants.{Inside, Outside}
use Rattle.frz_arena.specs.declared.node.Node.{Node}
use Rattle.frz_arena.specs.declared.node.Node.TheVariants.{Mate, Going}
use Rattle.frz_arena.specs.Arena.{IsArm}
use Rattle.frz_arena.specs.Games.{next_by, node_by}
use Rattle.frz_arena.specs.Names.{named_next, name_in, node_at}
use Rattle.frz_arena.proofs.Lemmas.{from_mapped, first_in, later_in, in_cases, none_in_empty}
use Rattle.frz_game.specs.Games.{arena_by, graph_by, arm_at}
use Rattle.frz_game.specs.Numbers.{is_member, position_at, numbers_by}
use Rattle.frz_game.proofs.Lemmas.{arms_there}
use Rattle.frz_reasons.specs.declared.reason.Reason.{Reason}
use Rattle.frz_reasons.specs.FailingWays.{IsPlayedAt, FailsFrom, wrong, mated, renounced, leaves, goes_on}
use Rattle.frz_reasons.specs.FailingGames.{IsGameFrom, EndsAt, HasRenounced, position_behind}
use Rattle.frz_reasons.proofs.Codes.{same_side}
use Rattle.frz_reasons.proofs.MovePlayed.{candidate_is_free_and_coded, played_arm}

-- who is to move
mover_of : (b : Bool) (ms : List Step) (check : Bool) (turn mover : Colour)
    → node_by b ms check turn ≡ Going mover → (turn ≡ mover) × (ms ≢ [])
mover_of false ms check turn mover e = absurd (cc)
mover_of true (m ∷ ms) check turn mover e = (cc, λ f. cc)
mover_of true [] true turn mover e = absurd (cc)
mover_of true [] false turn mover e = absurd (cc)

-- who is mated
mated_of : (b : Bool) (ms : List Step) (check : Bool) (turn mover : Colour)
    → node_by b ms check turn ≡ Mate mover → (turn ≡ mover) × (ms ≡ []) × (check ≡ true)
mated_of false ms check turn mover e = absurd (cc)
mated_of true (m ∷ ms) check turn mover e = absurd (cc)
mated_of true [] true turn mover e = (cc, refl, refl)
mated_of true [] false turn mover e = absurd (cc)

-- where a move leads that stays in the set
next_there : (groups : List GroupLine) (q : Board) (v : Value) (to : ℕ)
    → named_next (name_in (numbers_by groups)) (next_by (is_member groups q) q v) ≡ Inside to
    → position_at groups to ≡ Some q
next_there groups q v to e = elim (cases_Bool (is_member groups q)) [
  | inl t ↦ (
      let number = number_there groups q t in
      let leads : named_next (name_in (numbers_by groups)) (next_by true q v) ≡ Inside to =
      subst (λ b. named_next (name_in (numbers_by groups)) (next_by b q v) ≡ Inside to) t e in
      let there : name_in (numbers_by groups) q ≡ to = cc in
      let named_so : name_in (numbers_by groups) q ≡ Num groups q = rw number refl in
      position_of groups to q
      (record { member = member_of groups q t; number = sym named_so ∙ there }))
  | inr f ↦ absurd (
      let leads : named_next (name_in (numbers_by groups)) (next_by false q v) ≡ Inside to =
      subst (λ b. named_next (name_in (numbers_by groups)) (next_by b q v) ≡ Inside to) f e in cc)
]

-- where a move leads that leaves the set
next_outside : (groups : List GroupLine) (q : Board) (w v : Value)
    → named_next (name_in (numbers_by groups)) (next_by (is_member groups q) q w) ≡ Outside v
    → (is_member groups q ≡ false) × (v ≡ w)
next_outside groups q w v e = elim (cases_Bool (is_member groups q)) [
  | inl t ↦ absurd (
      let leads : named_next (name_in (numbers_by groups)) (next_by true q w) ≡ Outside v =
      subst (λ b. named_next (name_in (numbers_by groups)) (next_by b q w) ≡ Outside v) t e in cc)
  | inr f ↦ (
      let leads : named_next (name_in (numbers_by groups)) (next_by false q w) ≡ Outside v =
      subst (λ b. named_next (name_in (numbers_by groups)) (next_by b q w) ≡ Outside v) f e in
      (f, cc))
]

in_mapped : {X Y : Type 0} (f : X → Y) (xs : List X) (x : X) → Contains xs x
    → Contains (map f xs) (f x)
in_mapped f [] x h = absurd (none_in_empty x h)
in_mapped f (y ∷ xs) x h =
    elim (in_cases y xs x h) [
      | inl e ↦ subst (λ z. Contains (f y ∷ map f xs) (f z)) e (first_in (f y) (map f xs))
      | inr i ↦ later_in (f y) (map f xs) (f x) (in_mapped f xs x i)
    ]

never_true_is_false : (b : Bool) → (b ≡ true → ⊥) → b ≡ false
never_true_is_false true h = absurd (h refl)
never_true_is_false false h = refl

module _ (rules : RuleLines) (value : Board → Value) (side : Colour) (codes : List ℕ) where
  -- the arm of a legal move
  arm_move : (p : Board) (m : Step) → (arm_at rules value p m).mv ≡ m
  unfolding arm_at
  arm_move p m = refl

  arm_free : (p : Board) (m : Step)
      → (arm_at rules value p m).free ≡ is_free rules p.turn p m
  unfolding arm_at
  arm_free p m = refl

  arm_inside : (p : Board) (m : Step) (to : ℕ) → (arm_at rules value p m).next ≡ Inside to
      → position_at rules.groups to ≡ Some (after p m)
  unfolding arm_at
  arm_inside p m to e = next_there rules.groups (after p m) (value (after p m)) to e

  arm_outside : (p : Board) (m : Step) (v : Value) → (arm_at rules value p m).next ≡ Outside v
      → (is_member rules.groups (after p m) ≡ false) × (v ≡ value (after p m))
  unfolding arm_at
  arm_outside p m v e = next_outside rules.groups (after p m) (value (after p m)) v e

  -- an arm of the number of a position
  record IsMade (p : Board) (a : Arm Step ℕ Value) : Type 0 where
    pub legal : Contains (legal_moves_of p) a.mv
    pub same : a ≡ arm_at rules value p a.mv

  arm_is_made : (i : ℕ) (p : Board) (a : Arm Step ℕ Value) → position_at rules.groups i ≡ Some p
      → IsArm (graph_by rules value) i a → IsMade p a
  arm_is_made i p a at h =
      let listed = subst (λ (xs : List (Arm Step ℕ Value)). Contains xs a)
      (arms_there rules value i p at) h in
      let from = from_mapped (arm_at rules value p) (legal_moves_of p) a listed in
      let move : from.0 ≡ a.mv =
      sym (arm_move p from.0) ∙ ap (λ (x : Arm Step ℕ Value). x.mv) from.2 in
      record {
        legal = subst (λ m. Contains (legal_moves_of p) m) move from.1;
        same = sym from.2 ∙ ap (λ m. arm_at rules value p m) move;
      }

  node_there : (i : ℕ) (p : Board) (node : Node) → position_at rules.groups i ≡ Some p
      → (graph_by rules value).node i ≡ node
      → node_by (is_member rules.groups p) (legal_moves_of p) (is_in_check p p.turn) p.turn ≡ node
  node_there i p node at e = sym (ap (node_at (arena_by rules value)) at) ∙ e

  -- the move that is played is free where the side moves
  free_move : (i : ℕ) (p : Board) (a : Arm Step ℕ Value) → position_at rules.groups i ≡ Some p
      → IsPlayedAt (graph_by rules value) side codes i a → IsMade p a → p.turn ≡ side
      → is_free rules side p a.mv ≡ true
  free_move i p a at played m mine =
      let turn = (mover_of (is_member rules.groups p) (legal_moves_of p) (is_in_check p p.turn)
      p.turn played.mover (node_there i p (Going played.mover) at played.turn)).0 in
      let own : same_colour played.mover side ≡ true =
      ap (λ c. same_colour c side) (sym turn ∙ mine) ∙ same_side side in
      let free = (candidate_is_free_and_coded (graph_by rules value) side codes played.mover _ a
      played.first.passes).0
      own in
      ap (λ c. is_free rules c p a.mv) (sym mine) ∙ (sym (arm_free p a.mv)
      ∙ (ap (λ (x : Arm Step ℕ Value). x.free) (sym m.same) ∙ free))

  pub game_from : (i : ℕ) (xs : List (Arm Step ℕ Value)) (e : Reason) (p : Board)
      → position_at rules.groups i ≡ Some p
      → FailsFrom (graph_by rules value) side codes i xs e → IsGameFrom rules side p xs
  game_from i xs e p at (wrong d) = tt
  game_from i xs e p at (mated c n) = tt
  game_from i xs e p at (renounced c n none) = tt
  game_from i xs e p at (leaves a v played out) =
      let m = arm_is_made i p a at (played_arm (graph_by rules value) side codes i a played) in
      (m.legal, λ mine. free_move i p a at played m mine, tt)
  game_from i xs e p at (goes_on {arms = others} a q played into rest) =
      let m = arm_is_made i p a at (played_arm (graph_by rules value) side codes i a played) in
      let there = arm_inside p a.mv q
      (sym (ap (λ (x : Arm Step ℕ Value). x.next) m.same) ∙ into) in (
        m.legal,
        λ mine. free_move i p a at played m mine,
        game_from q others e (after p a.mv) there rest,
      )

  -- none of the legal moves is free where none of the arms is
  none_free_renounces : (i : ℕ) (p : Board) → position_at rules.groups i ≡ Some p
      → (graph_by rules value).node i ≡ Going side
      → ((a : Arm Step ℕ Value) → IsArm (graph_by rules value) i a → a.free ≢ true)
      → HasRenounced rules side p
  none_free_renounces i p at n none =
      let turn = mover_of (is_member rules.groups p) (legal_moves_of p) (is_in_check p p.turn)
      p.turn side (node_there i p (Going side) at n) in
      record {
        to_move = turn.0;
        some = turn.1;
        none_free = λ m h. never_true_is_false (is_free rules side p m) (λ t.
            let listed = subst (λ (xs : List (Arm Step ℕ Value)).
            Contains xs (arm_at rules value p m)) (sym (arms_there rules value i p at))
            (in_mapped (arm_at rules value p) (legal_moves_of p) m h) in
            none (arm_at rules value p m) listed
            (arm_free p m ∙ (ap (λ c. is_free rules c p m) turn.0 ∙ t)));
      }

  pub end_at : (i : ℕ) (xs : List (Arm Step ℕ Value)) (e : Reason) (p : Board)
      → position_at rules.groups i ≡ Some p
      → FailsFrom (graph_by rules value) side codes i xs e
      → EndsAt rules value side (position_behind p xs) e
  end_at i xs e p at (wrong d) = at
  end_at i xs e p at (mated c n) =
      let m = mated_of (is_member rules.groups p) (legal_moves_of p) (is_in_check p p.turn) p.turn
      side (node_there i p (Mate side) at n) in
      record { to_move = m.0; no_move = m.1; attacked = m.2 }
  end_at i xs e p at (renounced c n none) = none_free_renounces i p at n none
  end_at i xs e p at (leaves a v played out) =
      let m = arm_is_made i p a at (played_arm (graph_by rules value) side codes i a played) in
      let left = arm_outside p a.mv v
      (sym (ap (λ (x : Arm Step ℕ Value). x.next) m.same) ∙ out) in
      record {
        from = p;
        at = at;
        legal = m.legal;
        leads = refl;
        outside = left.0;
        valued = left.1;
      }
  end_at i xs e p at (goes_on {arms = others} a q played into rest) =
      let m = arm_is_made i p a at (played_arm (graph_by rules value) side codes i a played) in
      let there = arm_inside p a.mv q
      (sym (ap (λ (x : Arm Step ℕ Value). x.next) m.same) ∙ into) in
      end_at q others e (after p a.mv) there rest
