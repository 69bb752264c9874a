-- The exits of one more number.
use Rattle.std.proofs.Common.{◌≡◌, ◌+◌, ℕ, zero, suc, inl, inr, Bool, true, false, not, List, [], ◌∷◌, ◌++◌, map, All, Some, None, get_or, refl, sym, subst, ap, ◌∙◌, arith, append-nil, add-one}
use Rattle.std.specs.List.{flat_map, filter, range_with_len}
use Rattle.std.proofs.lemmas.Bool.{cases_Bool}
use Rattle.std.proofs.lemmas.Grind.{flat_map-append}
use Rattle.std.proofs.lemmas.List.Elements.{All-map, Contains-get_or}
use Rattle.frz_board.specs.Boards.{Board}
use Rattle.frz_board.specs.Moving.{Step}
use Rattle.frz_fide.specs.Legal.{after, is_legal}
use Rattle.frz_fide.specs.Listing.{legal_moves_of}
use Rattle.frz_fide.proofs.Lemmas.{only_legal}
use Rattle.frz_sets.specs.declared.exit.Value.{Value}
use Rattle.frz_sets.specs.Views.{GroupLine, RuleLines}
use Rattle.frz_index.specs.Membership.{is_member, position_at}
use Rattle.frz_arena.specs.declared.arm.Arm.{Arm}
use Rattle.frz_arena.specs.Games.{next_by}
use Rattle.frz_arena.specs.Names.{name_in, named_next}
use Rattle.frz_game.specs.Games.{arm_at, graph_by}
use Rattle.frz_game.specs.Numbers.{numbers_by}
use Rattle.frz_game.proofs.Lemmas.{arms_there}
use Rattle.frz_premises.specs.Trials.{boards_after, is_outside}
use Rattle.frz_premises.specs.WaysOut.{outside_at, outside_below, outside_on}

range_more : (a n : ℕ) → range_with_len a (suc n) ≡ range_with_len a n ++ (a + n) ∷ []
range_more a zero = ap (λ (k : ℕ). k ∷ []) (omega arith)
range_more a (suc n) =
    ap (λ (l : List ℕ). a ∷ l) (range_more (a + 1) n)
    ∙ ap (λ (k : ℕ). a ∷ (range_with_len (a + 1) n ++ k ∷ [])) (omega arith)

numbers_more : (n : ℕ) → range_with_len 0 (n + 1) ≡ range_with_len 0 n ++ n ∷ []
numbers_more n = ap (range_with_len 0) (add-one n) ∙ range_more 0 n
    ∙ ap (λ (k : ℕ). range_with_len 0 n ++ k ∷ []) (omega arith)

pub outside_more : (groups : List GroupLine) (n : ℕ) →
    outside_below groups (n + 1) ≡ outside_below groups n ++ outside_at groups n
outside_more groups n =
    ap (flat_map (outside_at groups)) (numbers_more n)
    ∙ flat_map-append (outside_at groups) (range_with_len 0 n) (n ∷ [])
    ∙ ap (λ (l : List Board). outside_below groups n ++ l) (append-nil (outside_at groups n))

-- a broken number has none
pub none_there : (groups : List GroupLine) (n : ℕ) → position_at groups n ≡ None →
    outside_below groups n ≡ outside_below groups (n + 1)
none_there groups n at =
    sym (append-nil (outside_below groups n))
    ∙ ap (λ (l : List Board). outside_below groups n ++ l) (sym (ap (outside_on groups) at))
    ∙ sym (outside_more groups n)

-- whether a move leads out
out_by : (name : Board → ℕ) (inside : Bool) (q : Board) (v : Value) →
    is_outside (named_next name (next_by inside q v)) ≡ not inside
out_by name true q v = refl
out_by name false q v = refl

module _ (rules : RuleLines) (value : Board → Value) (p : Board) where
  arm_out : (m : Step) → is_outside (arm_at rules value p m).next
      ≡ not (is_member rules.groups (after p m))
  unfolding arm_at
  arm_out m =
      out_by (name_in (numbers_by rules.groups)) (is_member rules.groups (after p m)) (after p m)
      (value (after p m))

  arm_move : (m : Step) → (arm_at rules value p m).mv ≡ m
  unfolding arm_at
  arm_move m = refl

  moves_out : (ms : List Step) → boards_after p (map (arm_at rules value p) ms)
      ≡ filter (λ q. not (is_member rules.groups q)) (map (λ m. after p m) ms)
  moves_out [] = refl
  moves_out (m ∷ ms) =
      elim (cases_Bool (is_member rules.groups (after p m))) [
        | inl inside ↦ (let gone : is_outside (arm_at rules value p m).next ≡ false =
            arm_out m ∙ ap not inside in
            rw (gone, inside) (moves_out ms))
        | inr outside ↦ (let kept : is_outside (arm_at rules value p m).next ≡ true =
            arm_out m ∙ ap not outside in
            rw (kept, outside)
            (ap (λ (s : Step). after p s
            ∷ boards_after p (map (arm_at rules value p) ms)) (arm_move m)
            ∙ ap (λ (l : List Board). after p m ∷ l) (moves_out ms)))
      ]

  arms_legal_of : (ms : List Step) → All (λ m. is_legal p m ≡ true) ms →
      All (λ a. is_legal p a.mv ≡ true) (map (arm_at rules value p) ms)
  arms_legal_of ms legal =
      All-map (λ (a : Arm Step ℕ Value). is_legal p a.mv ≡ true) (arm_at rules value p) ms
      (λ k d l. subst (λ (s : Step). is_legal p s ≡ true) (sym (arm_move (get_or ms k d)))
      (legal k d l))

all_legal : (p : Board) → All (λ m. is_legal p m ≡ true) (legal_moves_of p)
all_legal p = λ k d within.
    (only_legal p (get_or (legal_moves_of p) k d) (Contains-get_or (legal_moves_of p) k d within)).1

module _ (rules : RuleLines) (value : Board → Value) (i : ℕ) (p : Board)
    (at : position_at rules.groups i ≡ Some p) (arms : List (Arm Step ℕ Value))
    (are : arms ≡ (graph_by rules value).arms i) where
  arms_are : arms ≡ map (arm_at rules value p) (legal_moves_of p)
  arms_are = are ∙ arms_there rules value i p at

  -- the moves of a number are legal at its position
  pub arms_legal : All (λ a. is_legal p a.mv ≡ true) arms
  arms_legal =
      subst (λ (l : List (Arm Step ℕ Value)). All (λ a. is_legal p a.mv ≡ true) l) (sym arms_are)
      (arms_legal_of rules value p (legal_moves_of p) (all_legal p))

  -- and those that lead out of the set lead to its exits
  pub exits_there : outside_below rules.groups i ++ boards_after p arms
      ≡ outside_below rules.groups (i + 1)
  exits_there =
      ap (λ (l : List Board). outside_below rules.groups i ++ l)
      (ap (boards_after p) arms_are ∙ moves_out rules value p (legal_moves_of p)
      ∙ sym (ap (outside_on rules.groups) at))
      ∙ sym (outside_more rules.groups i)
