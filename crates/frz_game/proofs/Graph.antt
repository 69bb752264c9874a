-- The game over numbers: its numbering, its nodes and its arms.
use Rattle.std.proofs.Common.{◌≡◌, ◌≤◌, ◌<◌, ◌^◌, ℕ, inl, inr, Bool, true, false, List, [], ◌∷◌, map, Some, None, refl, subst, ap, ◌∙◌}
use Rattle.std.specs.List.{Contains}
use Rattle.std.proofs.lemmas.Bool.{cases_Bool}
use Rattle.frz_board.specs.declared.man.Colour.{Colour}
use Rattle.frz_board.specs.Boards.{Board}
use Rattle.frz_board.specs.Moving.{Step}
use Rattle.frz_board.specs.Attacks.{is_in_check}
use Rattle.frz_fide.specs.Legal.{after}
use Rattle.frz_fide.specs.Listing.{legal_moves_of}
use Rattle.frz_fide.specs.Valid.{IsValid}
use Rattle.frz_fide.proofs.Lemmas.{valid_after}
use Rattle.frz_fide.proofs.Lemmas.{only_legal}
use Rattle.frz_sets.specs.declared.exit.Value.{Value}
use Rattle.frz_sets.specs.Sets.{size_of}
use Rattle.frz_sets.specs.Views.{GroupLine, RuleLines}
use Rattle.frz_index.proofs.Lemmas.{Num_below}
use Rattle.frz_arena.specs.declared.node.Node.TheVariants.{Broken}
use Rattle.frz_arena.specs.declared.arm.Arm.{Arm}
use Rattle.frz_arena.specs.declared.arm.Next.TheVariants.{Inside, Outside}
use Rattle.frz_arena.specs.Arena.{IsArm, IsLawful}
use Rattle.frz_arena.specs.Games as games
use Rattle.frz_arena.specs.Names.{IsNumbering, IsNumbered, named, named_next, name_by, name_in, node_at, arms_at}
use Rattle.frz_arena.specs.Plies.{LagsWithin}
use Rattle.frz_arena.proofs.Lemmas.{none_in_empty, from_mapped, game_is_lawful, numbered_is, numbers_lawful, going, inside, cases_Option}
use Rattle.frz_graph.specs.Finite.{IsFinite}
use Rattle.frz_graph.specs.Values.{lag_of}
use Rattle.frz_graph.proofs.Lemmas.{opposed}
use Rattle.frz_game.specs.Numbers.{is_member, number_of, position_at, numbers_by}
use Rattle.frz_game.specs.Games.{game_of, arena_by, graph_by, arm_at}
use Rattle.frz_game.specs.SmallLags.{HasSmallLags}
use Rattle.frz_index.proofs.Lemmas.{member_of, of_member, number_there, number_missing, number_tells, position_tells, position_of}

outside_broken : (ms : List Step) (check : Bool) (turn : Colour) (i : Bool) → i ≡ false →
    games.node_by i ms check turn ≡ Broken
outside_broken ms check turn i e = rw e refl

inside_there : (ms : List Step) (check : Bool) (turn : Colour) (i : Bool) → i ≡ true →
    games.node_by i ms check turn ≡ Broken → ⊥
inside_there ms check turn false t e = cc
inside_there (m ∷ ms) check turn true t e = cc
inside_there [] true turn true t e = cc
inside_there [] false turn true t e = cc

pub numbering : (rules : RuleLines) (value : Board → Value) →
    IsNumbering (numbers_by rules.groups) (arena_by rules value)
numbering rules value = record {
  at_number = λ p i e. (
      let t = number_tells rules.groups p i e in
      position_of rules.groups i p
      (record { member = member_of rules.groups p t.0; number = t.1 }));
  number_at = λ p i e. (
      let h = position_tells rules.groups i p e in
      number_there rules.groups p (of_member rules.groups p h.member) ∙ ap Some h.number);
  in_size = λ p i e. (
      let t = number_tells rules.groups p i e in
      subst (λ n. n < size_of rules.groups) t.1
      (Num_below rules.groups p (member_of rules.groups p t.0)));
  missing = λ p e. elim (cases_Bool (is_member rules.groups p)) [
    | inl t ↦ absurd (let k = number_there rules.groups p t in cc)
    | inr f ↦
        outside_broken (legal_moves_of p) (is_in_check p p.turn) p.turn (is_member rules.groups p) f
  ];
  there = λ p i e b. (
      let t = number_tells rules.groups p i e in
      inside_there (legal_moves_of p) (is_in_check p p.turn) p.turn (is_member rules.groups p) t.0
      b);
}

pub lawful : (rules : RuleLines) (value : Board → Value) → IsLawful (arena_by rules value)
lawful rules value = game_is_lawful (game_of rules value) opposed

pub graph_lawful : (rules : RuleLines) (value : Board → Value) → IsLawful (graph_by rules value)
graph_lawful rules value =
    numbers_lawful (numbers_by rules.groups) (arena_by rules value) (lawful rules value)

pub graph_numbered : (rules : RuleLines) (value : Board → Value) →
    IsNumbered (graph_by rules value) (size_of rules.groups)
graph_numbered rules value =
    numbered_is (numbers_by rules.groups) (arena_by rules value) (numbering rules value)

node_same : (rules : RuleLines) (value : Board → Value) (p : Board) (b : Bool) → b ≡ true →
    games.node_by b (legal_moves_of p) (is_in_check p p.turn) p.turn
    ≡ games.node_by true (legal_moves_of p) (is_in_check p p.turn) p.turn
node_same rules value p b t = rw t refl

-- what a number is
pub node_missing : (rules : RuleLines) (value : Board → Value) (i : ℕ) →
    position_at rules.groups i ≡ None → (graph_by rules value).node i ≡ Broken
node_missing rules value i e = ap (node_at (arena_by rules value)) e

pub node_there : (rules : RuleLines) (value : Board → Value) (i : ℕ) (p : Board) →
    position_at rules.groups i ≡ Some p →
    (graph_by rules value).node i
    ≡ games.node_by true (legal_moves_of p) (is_in_check p p.turn) p.turn
node_there rules value i p e =
    ap (node_at (arena_by rules value)) e
    ∙ node_same rules value p (is_member rules.groups p)
    (of_member rules.groups p (position_tells rules.groups i p e).member)

-- its moves
pub arms_missing : (rules : RuleLines) (value : Board → Value) (i : ℕ) →
    position_at rules.groups i ≡ None → (graph_by rules value).arms i ≡ []
arms_missing rules value i e =
    ap (arms_at (arena_by rules value) (name_in (numbers_by rules.groups))) e

arms_named : (rules : RuleLines) (value : Board → Value) (p : Board) (ms : List Step) →
    map (named (name_in (numbers_by rules.groups))) (map (games.arm_of (game_of rules value) p) ms)
    ≡ map (arm_at rules value p) ms
unfolding arm_at
arms_named rules value p [] = refl
arms_named rules value p (m ∷ ms) =
    ap (λ xs. named (name_in (numbers_by rules.groups)) (games.arm_of (game_of rules value) p m)
    ∷ xs) (arms_named rules value p ms)

pub arms_there : (rules : RuleLines) (value : Board → Value) (i : ℕ) (p : Board) →
    position_at rules.groups i ≡ Some p →
    (graph_by rules value).arms i ≡ map (arm_at rules value p) (legal_moves_of p)
arms_there rules value i p e =
    ap (arms_at (arena_by rules value) (name_in (numbers_by rules.groups))) e
    ∙ arms_named rules value p (legal_moves_of p)

-- where a move leads, by the number of the position after it
next_missing : (groups : List GroupLine) (q : Board) (v : Value) → number_of groups q ≡ None →
    is_member groups q ≡ false →
    named_next (name_in (numbers_by groups)) (games.next_by (is_member groups q) q v) ≡ Outside v
next_missing groups q v e f = rw f refl

pub next_outside : (groups : List GroupLine) (q : Board) (v : Value) → number_of groups q ≡ None →
    named_next (name_in (numbers_by groups)) (games.next_by (is_member groups q) q v) ≡ Outside v
next_outside groups q v e =
    elim (cases_Bool (is_member groups q)) [
      | inl t ↦ absurd (let k = number_there groups q t in cc)
      | inr f ↦ next_missing groups q v e f
    ]

pub next_inside : (groups : List GroupLine) (q : Board) (v : Value) (n : ℕ) →
    number_of groups q ≡ Some n →
    named_next (name_in (numbers_by groups)) (games.next_by (is_member groups q) q v) ≡ Inside n
next_inside groups q v n e =
    let t = (number_tells groups q n e).0 in
    ap (λ b. named_next (name_in (numbers_by groups)) (games.next_by b q v)) t
    ∙ ap (λ o. Inside (name_by (size_of groups) o)) e

-- the value of an exit is that of a valid position
next_small : (rules : RuleLines) (value : Board → Value) → HasSmallLags value → (q : Board) →
    IsValid q → (v : Value) →
    named_next (name_in (numbers_by rules.groups))
    (games.next_by (is_member rules.groups q) q (value q)) ≡ Outside v → lag_of v ≤ 1000
next_small rules value small q valid v e =
    elim (cases_Bool (is_member rules.groups q)) [
      | inl t ↦ absurd (let k = next_inside rules.groups q (value q) _
          (number_there rules.groups q t) in cc)
      | inr f ↦ (
          let k = next_outside rules.groups q (value q) (number_missing rules.groups q f) in
          let same : value q ≡ v = cc in
          subst (λ z. lag_of z ≤ 1000) same (small q valid))
    ]

arm_small : (rules : RuleLines) (value : Board → Value) → HasSmallLags value → (p : Board) →
    IsValid p → (m : Step) → Contains (legal_moves_of p) m →
    (v : Value) → (arm_at rules value p m).next ≡ Outside v → lag_of v ≤ 1000
unfolding arm_at
arm_small rules value small p valid m i v e =
    let l = only_legal p m i in
    next_small rules value small (after p m) (valid_after p m valid (l.0).to l.1) v e

-- the lags of the exits of a number are small
pub exits_small : (rules : RuleLines) (value : Board → Value) → HasSmallLags value →
    (i : ℕ) (v : Value) (a : Arm Step ℕ Value) →
    IsArm (graph_by rules value) i a → a.next ≡ Outside v → lag_of v ≤ 1000
exits_small rules value small i v a h e =
    elim (cases_Option (position_at rules.groups i)) [
      | inl none ↦
          absurd (none_in_empty a
          (subst (λ (xs : List (Arm Step ℕ Value)). Contains xs a)
          (arms_missing rules value i none) h))
      | inr there ↦ (
          let listed = subst (λ (xs : List (Arm Step ℕ Value)). Contains xs a)
          (arms_there rules value i there.0 there.1) h in
          let from = from_mapped (arm_at rules value there.0) (legal_moves_of there.0) a listed in
          arm_small rules value small there.0
          (position_tells rules.groups i there.0 there.1).member.valid from.0 from.1 v
          (ap (λ (x : Arm Step ℕ Value). x.next) from.2 ∙ e))
    ]

pub lags : (rules : RuleLines) (value : Board → Value) → HasSmallLags value → (side : Colour) →
    LagsWithin (graph_by rules value) side 1000
lags rules value small side i a v h e good = exits_small rules value small i v a h e

-- the game is finite where its set has at most 2^27 numbers
pub finite : (rules : RuleLines) (value : Board → Value) → HasSmallLags value →
    size_of rules.groups ≤ 2 ^ 27 → IsFinite (graph_by rules value) (size_of rules.groups)
finite rules value small few = record {
  lawful = graph_lawful rules value;
  numbered = graph_numbered rules value;
  going = going (game_of rules value) (numbers_by rules.groups) (numbering rules value);
  inside = inside (game_of rules value) (numbers_by rules.groups) (numbering rules value);
  lags = exits_small rules value small;
  class = refl;
  lag = refl;
  few = few;
}
