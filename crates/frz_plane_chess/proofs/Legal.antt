-- The moves of a number are the legal steps of its position.
use Rattle.std.proofs.Common.{◌≡◌, ◌↔◌, ℕ, Bool, true, false, List, [], ◌∷◌, Some, None, map, inl, inr, refl, ap, sym, ◌∙◌, subst, if◌then◌else◌}
use Rattle.std.specs.List.{Contains}
use Rattle.std.proofs.lemmas.Bool.{cases_Bool, false_from_ne_true}
use Rattle.frz_board.specs.Boards.{Board}
use Rattle.frz_board.specs.Moving.{IsStep, Step}
use Rattle.frz_fide.specs.Legal.{after, is_legal}
use Rattle.frz_fide.specs.Listing.{legal_moves_of}
use Rattle.frz_fide.proofs.Lemmas.{listed, only_legal}
use Rattle.frz_sets.specs.declared.exit.Value.{Value}
use Rattle.frz_sets.specs.Sets.{size_of}
use Rattle.frz_sets.specs.Sound.{IsSound}
use Rattle.frz_sets.specs.Views.{RuleLines}
use Rattle.frz_exits.specs.Forbidding.{is_free}
use Rattle.frz_arena.specs.declared.arm.Arm.{Arm}
use Rattle.frz_arena.specs.declared.arm.Next.{Next}
use Rattle.frz_arena.specs.declared.arm.Next.TheVariants.{Inside, Outside}
use Rattle.frz_arena.specs.Arena.{IsArm}
use Rattle.frz_arena.specs.Games.{next_by}
use Rattle.frz_arena.specs.Names.{arms_at, name_by, name_in, named_next}
use Rattle.frz_arena.proofs.Lemmas.{cases_Option, first_in, from_mapped, in_cases, later_in, none_in_empty}
use Rattle.frz_index.specs.Members.{Member, Num}
use Rattle.frz_index.specs.Membership.{is_member, position_at}
use Rattle.frz_index.proofs.Lemmas.{member_of, number_there, position_of, position_tells}
use Rattle.frz_configurations.specs.Configurations.{IsSplit}
use Rattle.frz_king_planes.specs.Kings.{with_kings}
use Rattle.frz_kingless.specs.Boards.{IsBoardOf}
use Rattle.frz_plane_arms.specs.Arms.{MakesMember}
use Rattle.frz_game.specs.Games.{arena_by, arm_at, graph_by}
use Rattle.frz_game.specs.Numbers.{numbers_by}
use Rattle.frz_game.proofs.Lemmas.{arms_there}
use Rattle.frz_plane_game.specs.Targets.{SomeMove}
use Rattle.frz_plane_chess.specs.Steps.{HasStep, IsMove, next_at}
use Rattle.frz_plane_chess.proofs.Positions.{is_made, made, makes}

mapped_in : {X Y : Type 0} (f : X → Y) (xs : List X) (x : X) → Contains xs x →
    Contains (map f xs) (f x)
mapped_in f [] x h = absurd (none_in_empty x h)
mapped_in f (y ∷ xs) x h =
    elim (in_cases y xs x h) [
      | inl e ↦ subst (λ z. Contains (f y ∷ map f xs) (f z)) e (first_in (f y) (map f xs))
      | inr i ↦ later_in (f y) (map f xs) (f x) (mapped_in f xs x i)
    ]

-- inside, it is the number of the position
pub next_inside : (r : RuleLines) (value : Board → Value) (q : Board) →
    is_member r.groups q ≡ true → next_at r value q ≡ Inside (Num r.groups q)
unfolding next_at
next_inside r value q t =
    let pick : Bool → Next ℕ Value = λ m. if m then Inside (Num r.groups q) else Outside (value q) in
    ap pick t

pub next_outside : (r : RuleLines) (value : Board → Value) (q : Board) →
    is_member r.groups q ≡ false → next_at r value q ≡ Outside (value q)
unfolding next_at
next_outside r value q f =
    let pick : Bool → Next ℕ Value = λ m. if m then Inside (Num r.groups q) else Outside (value q) in
    ap pick f

pub is_outside : (r : RuleLines) (q : Board) → (Member r.groups q → ⊥) →
    is_member r.groups q ≡ false
is_outside r q none =
    false_from_ne_true (is_member r.groups q) (λ t. none (member_of r.groups q t))

-- where an arm leads, by the position after its step
next_is : (r : RuleLines) (value : Board → Value) (q : Board) →
    named_next (name_in (numbers_by r.groups)) (next_by (is_member r.groups q) q (value q))
    ≡ next_at r value q
next_is r value q =
    let pick : Bool → Next ℕ Value =
    λ m. named_next (name_in (numbers_by r.groups)) (next_by m q (value q)) in
    elim (cases_Bool (is_member r.groups q)) [
      | inl t ↦
          ap pick t
          ∙ ap (λ o. Inside (name_by (size_of r.groups) o)) (number_there r.groups q t)
          ∙ sym (next_inside r value q t)
      | inr f ↦ ap pick f ∙ sym (next_outside r value q f)
    ]

arm_next : (r : RuleLines) (value : Board → Value) (q : Board) (m : Step) →
    (arm_at r value q m).next ≡ next_at r value (after q m)
unfolding arm_at
arm_next r value q m = next_is r value (after q m)

arm_free : (r : RuleLines) (value : Board → Value) (q : Board) (m : Step) →
    (arm_at r value q m).free ≡ is_free r q.turn q m
unfolding arm_at
arm_free r value q m = refl

arm_is : (r : RuleLines) (value : Board → Value) (q : Board) (m : Step) (arm : Arm Step ℕ Value) →
    arm_at r value q m ≡ arm → m ≡ arm.mv
unfolding arm_at
arm_is r value q m arm e = ap (λ (x : Arm Step ℕ Value). x.mv) e

-- a move is the arm of its step
made_arm : (r : RuleLines) (value : Board → Value) (q : Board) (arm : Arm Step ℕ Value) →
    IsMove r value q arm → arm_at r value q arm.mv ≡ arm
unfolding arm_at
made_arm r value q arm h =
    ap (λ (free : Bool). let x : Arm Step ℕ Value = record {
      mv = arm.mv;
      free = free;
      next = named_next (name_in (numbers_by r.groups))
          (next_by (is_member r.groups (after q arm.mv)) (after q arm.mv) (value (after q arm.mv)));
    } in x) (sym h.free)
    ∙ ap (λ (next : Next ℕ Value). let x : Arm Step ℕ Value = record {
      mv = arm.mv;
      free = arm.free;
      next = next;
    } in x) (next_is r value (after q arm.mv) ∙ sym h.next)

move_of : (r : RuleLines) (value : Board → Value) (i : ℕ) (q : Board) →
    position_at r.groups i ≡ Some q → (arm : Arm Step ℕ Value) → IsArm (graph_by r value) i arm →
    IsStep arm.mv × (is_legal q arm.mv ≡ true) × (arm.free ≡ is_free r q.turn q arm.mv)
    × (arm.next ≡ next_at r value (after q arm.mv))
move_of r value i q at arm h =
    let among = subst (λ (xs : List (Arm Step ℕ Value)). Contains xs arm)
    (arms_there r value i q at) h in
    let from = from_mapped (arm_at r value q) (legal_moves_of q) arm among in
    let m = from.0 in
    let both = only_legal q m from.1 in
    let same = arm_is r value q m arm from.2 in
    subst (λ (n : Step). IsStep n × (is_legal q n ≡ true) × (arm.free ≡ is_free r q.turn q n)
    × (arm.next ≡ next_at r value (after q n))) same (
      both.0,
      both.1,
      sym (ap (λ (x : Arm Step ℕ Value). x.free) from.2) ∙ arm_free r value q m,
      sym (ap (λ (x : Arm Step ℕ Value). x.next) from.2) ∙ arm_next r value q m,
    )

-- the move of a step
move_with : (r : RuleLines) (value : Board → Value) (i : ℕ) (q : Board) →
    position_at r.groups i ≡ Some q → (m : Step) → IsStep m → is_legal q m ≡ true →
    IsArm (graph_by r value) i (arm_at r value q m)
move_with r value i q at m is_step legal =
    subst (λ (xs : List (Arm Step ℕ Value)). Contains xs (arm_at r value q m))
    (sym (arms_there r value i q at))
    (mapped_in (arm_at r value q) (legal_moves_of q) m (listed q m is_step legal))

-- a number with a move has a position
pub position_there : (r : RuleLines) (value : Board → Value) (i : ℕ) (arm : Arm Step ℕ Value) →
    IsArm (graph_by r value) i arm → (q : Board) × (position_at r.groups i ≡ Some q)
position_there r value i arm h =
    elim (cases_Option (position_at r.groups i)) [
      | inl none ↦ absurd (none_in_empty arm
          (subst (λ (xs : List (Arm Step ℕ Value)). Contains xs arm)
          (ap (arms_at (arena_by r value) (name_in (numbers_by r.groups))) none) h))
      | inr some ↦ some
    ]

-- a number without a position has no move
pub never_moves : (r : RuleLines) (value : Board → Value) (i : ℕ) → position_at r.groups i ≡ None →
    (only_free : Bool) (P : Next ℕ Value → Type 0) → SomeMove (graph_by r value) only_free i P → ⊥
never_moves r value i none false P s =
    let there = (position_there r value i s.0 s.1).1 in cc
never_moves r value i none true P s =
    let there = (position_there r value i s.0 s.1).1 in cc

module _ (r : RuleLines) (value : Board → Value) (p : Board) (i c a b : ℕ) (sound : IsSound r)
    (board : IsBoardOf r.groups c p) (split : IsSplit r.groups i c a b) where
  abbrev w : Board
  w = with_kings p a b

  pub found : (arm : Arm Step ℕ Value) → IsArm (graph_by r value) i arm →
      MakesMember r.groups p a b × IsMove r value w arm
  found arm h =
      let there = position_there r value i arm h in
      let number = position_tells r.groups i there.0 there.1 in
      let is = is_made r p i c a b sound board split there.0 number in
      let m = move_of r value i w (there.1 ∙ ap (λ (q : Board). Some q) is) arm h in (
        makes r p i c a b sound board split there.0 number,
        record { is_step = m.0; legal = m.1; free = m.2; next = m.3 },
      )

  pub found_by : (arm : Arm Step ℕ Value) → MakesMember r.groups p a b → IsMove r value w arm →
      IsArm (graph_by r value) i arm
  found_by arm m h =
      subst (λ (x : Arm Step ℕ Value). IsArm (graph_by r value) i x) (made_arm r value w arm h)
      (move_with r value i w (position_of r.groups i w (made r p i c a b sound board split m)) arm.mv
      h.is_step h.legal)

  step_there : (only_free : Bool) (P : Next ℕ Value → Type 0) →
      SomeMove (graph_by r value) only_free i P →
      MakesMember r.groups p a b × HasStep r value p only_free P a b
  step_there false P s =
      let f = found s.0 s.1 in (
        f.0,
        record {
          step = s.0.mv;
          is_step = f.1.is_step;
          legal = f.1.legal;
          free = λ e. absurd cc;
          leads = subst P f.1.next s.2;
        },
      )
  step_there true P s =
      let f = found s.0 s.1 in (
        f.0,
        record {
          step = s.0.mv;
          is_step = f.1.is_step;
          legal = f.1.legal;
          free = λ e. sym f.1.free ∙ s.2;
          leads = subst P f.1.next s.3;
        },
      )

  move_there : (only_free : Bool) (P : Next ℕ Value → Type 0) →
      MakesMember r.groups p a b → HasStep r value p only_free P a b →
      SomeMove (graph_by r value) only_free i P
  move_there false P m h =
      let at = position_of r.groups i w (made r p i c a b sound board split m) in (
        arm_at r value w h.step,
        move_with r value i w at h.step h.is_step h.legal,
        subst P (sym (arm_next r value w h.step)) h.leads,
      )
  move_there true P m h =
      let at = position_of r.groups i w (made r p i c a b sound board split m) in (
        arm_at r value w h.step,
        move_with r value i w at h.step h.is_step h.legal,
        arm_free r value w h.step ∙ h.free refl,
        subst P (sym (arm_next r value w h.step)) h.leads,
      )

  pub some_move : (only_free : Bool) (P : Next ℕ Value → Type 0) →
      SomeMove (graph_by r value) only_free i P
      ↔ (MakesMember r.groups p a b × HasStep r value p only_free P a b)
  some_move only_free P =
      (step_there only_free P, λ h. move_there only_free P h.0 h.1)
