-- White mates in one, and what the bounds say where he renounces all moves but the rook's to g1 and
-- g8.
use Rattle.std.proofs.Common.{◌≡◌, ◌≢◌, ◌<◌, ℕ, zero, suc, inl, inr, Bool, true, false, not, ◌&&◌, ◌||◌, List, [], ◌∷◌, map, None, refl, sym, subst, ap, ◌∙◌, arith}
use Rattle.std.specs.Prelude.{◌==◌, if◌then◌else◌}
use Rattle.std.specs.List.{Contains}
use Rattle.std.proofs.lemmas.Bool.{eqb-true, and_parts}
use Rattle.frz_board.specs.declared.man.Colour.{Colour}
use Rattle.frz_board.specs.declared.man.Colour.TheVariants.{White, Black}
use Rattle.frz_board.specs.Attacks.{is_in_check}
use Rattle.frz_board.specs.Boards.{Board}
use Rattle.frz_board.specs.Moving.{Step}
use Rattle.frz_board.specs.Shapes.{men_of, has_kings, has_pawns_inside, has_few_men}
use Rattle.frz_board.specs.EnPassant.{has_target_in_place}
use Rattle.frz_board.specs.Squares.{squares}
use Rattle.frz_fide.specs.Legal.{after, is_legal}
use Rattle.frz_fide.specs.Listing.{legal_moves_of}
use Rattle.frz_fide.proofs.Lemmas.{listed}
use Rattle.frz_sets.specs.declared.exit.Value.{Value}
use Rattle.frz_index.specs.Membership.{is_member, is_valid, are_cells, are_men_covered, is_counted}
use Rattle.frz_arena.specs.declared.arm.Arm.{Arm}
use Rattle.frz_arena.specs.declared.bound.Bound.TheVariants.{Wins, Fails}
use Rattle.frz_arena.specs.declared.node.Node.TheVariants.{Mate, Going}
use Rattle.frz_arena.specs.Arena.{Arena, IsArm}
use Rattle.frz_arena.specs.Chess.{IsMated, Forces, mated as mated_now, at_goal, own_move, mate_alone}
use Rattle.frz_arena.specs.Games.{arm_of, next_by}
use Rattle.frz_arena.specs.Plies.{LeadsTo, WinsWithin, IsGoodExit}
use Rattle.frz_arena.specs.WholeTruth.{MatesIn}
use Rattle.frz_arena.proofs.Lemmas.{none_in_empty, first_in, from_mapped, mated_by, goes}
use Rattle.frz_graph.specs.Books.{value_by}
use Rattle.frz_graph.specs.Forbidding.{is_free, covers}
use Rattle.frz_game.specs.Bounds.{IsBoundAt}
use Rattle.frz_game.specs.Games.{chess, game_of, arena_by}
use Rattle.frz_game.specs.KingAndRook.{king_and_rook}
use Rattle.frz_game.specs.RenouncedRook.{renounced_rook}
use Rattle.frz_game.proofs.Elements.{mapped_there}
use Rattle.frz_game.proofs.MovesByTest.{quiet, has_no_pawn, each_passes, safe, is_quiet, passes}

-- White's king on b6, his rook and Black's king
abbrev cell_at : ℕ → ℕ → ℕ → ℕ
cell_at rook bare s =
    if s == 41 then 1 else (if s == rook then 3 else (if s == bare then 7 else 0))

abbrev placed : ℕ → ℕ → Colour → Board
placed rook bare turn =
    record { cells = map (cell_at rook bare) squares; turn = turn; ep = None }

-- the rook on h1 or h2 mates on h8; from h1 it may wait on g1, and mate on g8 when Black's king has
-- stepped from a8 to b8
abbrev pub from_h1 : Board
from_h1 = placed 7 56 White

abbrev pub from_h2 : Board
from_h2 = placed 15 56 White

abbrev mated : Board
mated = placed 63 56 Black

abbrev waited : Board
waited = placed 6 56 Black

abbrev stepped : Board
stepped = placed 6 57 White

abbrev mated_later : Board
mated_later = placed 62 57 Black

-- the tests, opened for computing
in_set : Board → Bool
unfolding is_member is_valid are_cells are_men_covered is_counted has_kings has_pawns_inside
    men_of has_few_men has_target_in_place squares
in_set p = is_member king_and_rook.groups p

abbrev attacked_after : Board → ℕ → ℕ → Bool
attacked_after p a b = is_in_check (after p (quiet a b)) p.turn

abbrev free_at : Board → ℕ → ℕ → Bool
free_at p a b = is_free renounced_rook p.turn p (quiet a b)

-- a list that contains nothing is empty
empty_where_none : (ms : List Step) → ((m : Step) → Contains ms m → ⊥) → ms ≡ []
empty_where_none [] none = refl
empty_where_none (m ∷ ms) none = absurd (none m (first_in m ms))

not_empty_where_one : (ms : List Step) (m : Step) → Contains ms m → ms ≢ []
not_empty_where_one ms m i e = none_in_empty m (subst (λ (xs : List Step). Contains xs m) e i)

module _ (p : Board) (none : has_no_pawn p ≡ true) where
  -- a move that leaves the king attacked is not legal
  not_attacked : (m : Step) (i : Contains (legal_moves_of p) m) →
      attacked_after p m.from m.to ≡ false
  not_attacked m i =
      sym (ap (λ (x : Step). is_in_check (after p x) p.turn) (is_quiet p m none i))
      ∙ safe p m none i

  no_move : each_passes (attacked_after p) p ≡ true → legal_moves_of p ≡ []
  no_move all =
      empty_where_none (legal_moves_of p) (λ m i. (
      let attacked = passes p m none i (attacked_after p) all in
      let no = not_attacked m i in cc))

  -- the one move that does not pass a test
  one_move : (t : ℕ → ℕ → Bool) (a b : ℕ) →
      each_passes (λ x y. t x y || (x == a && y == b)) p ≡ true → (m : Step) →
      Contains (legal_moves_of p) m → t m.from m.to ≡ false → m ≡ quiet a b
  one_move t a b all m i fails =
      let one = passes p m none i (λ x y. t x y || (x == a && y == b)) all in
      let both = and_parts (m.from == a) (m.to == b)
      (ap (λ x. x || (m.from == a && m.to == b)) (sym fails) ∙ one) in
      is_quiet p m none i ∙ ap (λ x. quiet x m.to) (eqb-true m.from a both.0)
      ∙ ap (λ y. quiet a y) (eqb-true m.to b both.1)

abbrev rules_value : Board → Value
rules_value = value_by renounced_rook

abbrev arena : Arena Step Board Value
arena = arena_by renounced_rook rules_value

abbrev arm : Board → Step → Arm Step Board Value
arm p m = arm_of (game_of renounced_rook rules_value) p m

-- what a position of the set is
goes_on : (p : Board) (m : Step) → is_member renounced_rook.groups p ≡ true →
    Contains (legal_moves_of p) m → arena.node p ≡ Going p.turn
goes_on p m inside i =
    goes (is_member renounced_rook.groups p) (legal_moves_of p) (is_in_check p p.turn) p.turn
    inside (not_empty_where_one (legal_moves_of p) m i)

-- an arm is that of a legal move
of_arm : (p : Board) (a : Arm Step Board Value) → IsArm arena p a →
    (m : Step) × Contains (legal_moves_of p) m × (arm p m ≡ a)
of_arm p a i = from_mapped (arm p) (legal_moves_of p) a i

has_arm : (p : Board) (m : Step) → Contains (legal_moves_of p) m → IsArm arena p (arm p m)
has_arm p m i = mapped_there (arm p) (legal_moves_of p) m i

-- a move to a position of the set leads inside
module _ (F : Board → Type 0) (Q : Value → Type 0) (p q : Board) (m : Step)
    (ends : after p m ≡ q) (inside : is_member renounced_rook.groups q ≡ true) where
  abbrev Leads : Board → Type 0
  Leads x = LeadsTo F Q (next_by (is_member renounced_rook.groups x) x (rules_value x))

  leads_in : F q → LeadsTo F Q (arm p m).next
  leads_in f =
      subst Leads (sym ends) (subst (λ b. LeadsTo F Q (next_by b q (rules_value q))) (sym inside) f)

  led_in : LeadsTo F Q (arm p m).next → F q
  led_in h =
      subst (λ b. LeadsTo F Q (next_by b q (rules_value q))) inside (subst Leads ends h)

-- the positions are in the set
pub h1_inside : is_member renounced_rook.groups from_h1 ≡ true
unfolding in_set
h1_inside = refl

pub h2_inside : is_member renounced_rook.groups from_h2 ≡ true
unfolding in_set
h2_inside = refl

waited_inside : is_member renounced_rook.groups waited ≡ true
unfolding in_set
waited_inside = refl

stepped_inside : is_member renounced_rook.groups stepped ≡ true
unfolding in_set
stepped_inside = refl

later_inside : is_member renounced_rook.groups mated_later ≡ true
unfolding in_set
later_inside = refl

-- the moves are legal
quiet_is_listed : (p : Board) (a b : ℕ) → a < 64 → b < 64 → is_legal p (quiet a b) ≡ true →
    Contains (legal_moves_of p) (quiet a b)
quiet_is_listed p a b la lb e = listed p (quiet a b) (record { from = la; to = lb; promo = refl }) e

h1_mates : Contains (legal_moves_of from_h1) (quiet 7 63)
unfolding is_legal squares
h1_mates = quiet_is_listed from_h1 7 63 (omega arith) (omega arith) refl

h2_mates : Contains (legal_moves_of from_h2) (quiet 15 63)
unfolding is_legal squares
h2_mates = quiet_is_listed from_h2 15 63 (omega arith) (omega arith) refl

h1_waits : Contains (legal_moves_of from_h1) (quiet 7 6)
unfolding is_legal squares
h1_waits = quiet_is_listed from_h1 7 6 (omega arith) (omega arith) refl

waited_steps : Contains (legal_moves_of waited) (quiet 56 57)
unfolding is_legal squares
waited_steps = quiet_is_listed waited 56 57 (omega arith) (omega arith) refl

stepped_mates : Contains (legal_moves_of stepped) (quiet 6 62)
unfolding is_legal squares
stepped_mates = quiet_is_listed stepped 6 62 (omega arith) (omega arith) refl

-- Black is mated on a8 and on b8
mate_there : IsMated chess Black mated
unfolding squares
mate_there = record { to_move = refl; no_move = no_move mated refl refl; attacked = refl }

later_mate : arena.node mated_later ≡ Mate Black
unfolding squares
later_mate =
    mated_by (is_member renounced_rook.groups mated_later) (legal_moves_of mated_later)
    (is_in_check mated_later Black) Black later_inside (no_move mated_later refl refl) refl

-- so White mates in one
mates_by : (p : Board) (m : Step) → p.turn ≡ White → Contains (legal_moves_of p) m →
    after p m ≡ mated → MatesIn chess White 1 p
mates_by p m turn i ends = record {
  forced = own_move m turn i
      (mated_now (subst (λ (q : Board). IsMated chess Black q) (sym ends) mate_there));
  least = λ k l f. first k l f;
}
  where
    first : (k : ℕ) → k < 1 → Forces chess mate_alone White k p → ⊥
    first zero l (at_goal e) = cc
    first zero l (mated_now w) = let t = w.to_move in cc
    first (suc k) l f = omega arith

pub h1_mate : MatesIn chess White 1 from_h1
unfolding squares
h1_mate = mates_by from_h1 (quiet 7 63) refl h1_mates refl

pub h2_mate : MatesIn chess White 1 from_h2
unfolding squares
h2_mate = mates_by from_h2 (quiet 15 63) refl h2_mates refl

-- with the rook on h2 no move is free
h2_none_free : each_passes (λ a b. not (free_at from_h2 a b)) from_h2 ≡ true
unfolding covers squares
h2_none_free = refl

-- the move of an arm is free where the arm is
free_is : (p : Board) (none : has_no_pawn p ≡ true) (a : Arm Step Board Value) (m : Step) →
    Contains (legal_moves_of p) m → arm p m ≡ a → a.free ≡ true → free_at p m.from m.to ≡ true
free_is p none a m i e free =
    sym (ap (λ (x : Step). is_free renounced_rook p.turn p x) (is_quiet p m none i))
    ∙ ap (λ (x : Arm Step Board Value). x.free) e ∙ free

pub h2_fails : IsBoundAt renounced_rook rules_value White from_h2 (Fails 0)
unfolding squares
h2_fails = (
  inr (
    goes_on from_h2 (quiet 15 63) h2_inside h2_mates,
    λ a i free. (
        let from = of_arm from_h2 a i in
        let yes = free_is from_h2 refl a from.0 from.1 from.2 free in
        let no = passes from_h2 from.0 refl from.1 (λ x y. not (free_at from_h2 x y))
        h2_none_free in
        let both : not true ≡ true = ap not (sym yes) ∙ no in cc),
  ),
  λ k l f. omega arith,
)

-- with the rook on h1 one move is free, to g1, and from there one to g8
h1_one_free : each_passes (λ a b. not (free_at from_h1 a b) || (a == 7 && b == 6)) from_h1 ≡ true
unfolding covers squares
h1_one_free = refl

waiting_free : free_at from_h1 7 6 ≡ true
unfolding covers squares
waiting_free = refl

mating_free : free_at stepped 6 62 ≡ true
unfolding covers squares
mating_free = refl

-- Black's king has one move
waited_one : each_passes (λ a b. attacked_after waited a b || (a == 56 && b == 57)) waited ≡ true
unfolding squares
waited_one = refl

waited_goes : arena.node waited ≡ Going Black
waited_goes = goes_on waited (quiet 56 57) waited_inside waited_steps

stepped_goes : arena.node stepped ≡ Going White
stepped_goes = goes_on stepped (quiet 6 62) stepped_inside stepped_mates

h1_goes : arena.node from_h1 ≡ Going White
h1_goes = goes_on from_h1 (quiet 7 6) h1_inside h1_waits

-- what each move leads to
waits_to : after from_h1 (quiet 7 6) ≡ waited
unfolding squares
waits_to = refl

steps_to : after waited (quiet 56 57) ≡ stepped
unfolding squares
steps_to = refl

mates_to : after stepped (quiet 6 62) ≡ mated_later
unfolding squares
mates_to = refl

-- the free arm of h1, and Black's one arm after it
h1_arm : (a : Arm Step Board Value) → IsArm arena from_h1 a → a.free ≡ true →
    arm from_h1 (quiet 7 6) ≡ a
unfolding squares
h1_arm a i free =
    let from = of_arm from_h1 a i in
    let yes = free_is from_h1 refl a from.0 from.1 from.2 free in
    ap (arm from_h1) (sym (one_move from_h1 refl (λ x y. not (free_at from_h1 x y)) 7 6 h1_one_free
    from.0 from.1 (ap not yes))) ∙ from.2

waited_arm : (a : Arm Step Board Value) → IsArm arena waited a → arm waited (quiet 56 57) ≡ a
unfolding squares
waited_arm a i =
    let from = of_arm waited a i in
    let alone = one_move waited refl (attacked_after waited) 56 57 waited_one from.0 from.1
    (not_attacked waited refl from.0 from.1) in
    ap (arm waited) (sym alone) ∙ from.2

abbrev WinsIn : ℕ → Board → Type 0
WinsIn n p = WinsWithin arena White n p

abbrev Ends : ℕ → Value → Type 0
Ends n v = IsGoodExit arena White n v

stepped_wins : WinsIn 1 stepped
stepped_wins =
    inr (inl (
      stepped_goes,
      (
        arm stepped (quiet 6 62),
        has_arm stepped (quiet 6 62) stepped_mates,
        mating_free,
        leads_in (WinsIn 0) (Ends 0) stepped mated_later (quiet 6 62) mates_to later_inside
            later_mate,
      ),
    ))

waited_wins : WinsIn 2 waited
waited_wins =
    let there = leads_in (WinsIn 1) (Ends 1) waited stepped (quiet 56 57) steps_to stepped_inside
    stepped_wins in
    inr (inr (
      waited_goes,
      (arm waited (quiet 56 57), has_arm waited (quiet 56 57) waited_steps, there),
      λ a i. subst (λ (x : Arm Step Board Value). LeadsTo (WinsIn 1) (Ends 1) x.next)
          (waited_arm a i) there,
    ))

h1_wins : WinsIn 3 from_h1
h1_wins =
    inr (inl (
      h1_goes,
      (
        arm from_h1 (quiet 7 6),
        has_arm from_h1 (quiet 7 6) h1_waits,
        waiting_free,
        leads_in (WinsIn 2) (Ends 2) from_h1 waited (quiet 7 6) waits_to waited_inside waited_wins,
      ),
    ))

-- and not sooner
not_stepped : WinsIn 0 stepped → ⊥
not_stepped w = let g = stepped_goes in cc

waited_not : (n : ℕ) → n < 2 → WinsIn n waited → ⊥
waited_not zero l w = let g = waited_goes in cc
waited_not (suc zero) l (inl w) = let g = waited_goes in cc
waited_not (suc zero) l (inr (inl w)) = let g = waited_goes in let h = w.0 in cc
waited_not (suc zero) l (inr (inr w)) =
    let a = w.1 in
    not_stepped (led_in (WinsIn 0) (Ends 0) waited stepped (quiet 56 57) steps_to stepped_inside
    (subst (λ (x : Arm Step Board Value). LeadsTo (WinsIn 0) (Ends 0) x.next)
    (sym (waited_arm a.0 a.1)) a.2))
waited_not (suc (suc n)) l w = omega arith

h1_not : (n : ℕ) → n < 3 → WinsIn n from_h1 → ⊥
h1_not zero l w = let g = h1_goes in cc
h1_not (suc n) l (inl w) = h1_not n (omega arith) w
h1_not (suc n) l (inr (inr w)) = let g = h1_goes in let h = w.0 in cc
h1_not (suc n) l (inr (inl w)) =
    let a = w.1 in
    waited_not n (omega arith)
    (led_in (WinsIn n) (Ends n) from_h1 waited (quiet 7 6) waits_to waited_inside
    (subst (λ (x : Arm Step Board Value). LeadsTo (WinsIn n) (Ends n) x.next)
    (sym (h1_arm a.0 a.1 a.2)) a.3))

pub h1_slower : IsBoundAt renounced_rook rules_value White from_h1 (Wins 3)
h1_slower = (h1_wins, h1_not)
