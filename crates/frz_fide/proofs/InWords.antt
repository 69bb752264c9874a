-- The tests of legal moves compute the relation of legal moves.
use Rattle.std.proofs.Common.{◌≡◌, ◌≢◌, ℕ, ◌<◌, Bool, true, false, cond, ◌&&◌, ◌||◌, not, refl, ap, sym, ◌∙◌, Option, None, Some, slice_index, slice_set, ◌⊎◌, inl, inr}
use Rattle.frz_fide.proofs.PawnsKept.{not_last}
use Rattle.std.specs.Prelude.{◌==◌, is_none, is_some, if◌then◌else◌}
use Rattle.std.proofs.lemmas.Bool.{eqb-true, eq-eqb, both_ways, false_from_ne_true, and_left, and_right, and_parts, and_from, or_cases}
use Rattle.frz_board.specs.declared.man.Colour.{Colour}
use Rattle.frz_board.specs.declared.man.Kind.{Kind}
use Rattle.frz_board.specs.declared.man.Kind.TheVariants.{King, Queen, Rook, Bishop, Knight, Pawn}
use Rattle.frz_board.specs.declared.man.Man.{Man}
use Rattle.frz_board.specs.Squares.{files_apart, ranks_apart, is_forward}
use Rattle.frz_board.specs.Men.{man_of_cell, cell_of_man, other_of, same_colour, is_man_of, is_pawn}
use Rattle.frz_board.specs.Boards.{Board, man_on, is_empty, holds, has}
use Rattle.frz_board.specs.Moving.{Step, IsStep, is_promotion}
use Rattle.frz_board.specs.Attacks.{reaches, man_reaches, pawn_reaches, is_in_check}
use Rattle.frz_board.specs.EnPassant.{has_pawn_beside, is_passing_rank, has_passed, target_stands, has_target_in_place, ahead}
use Rattle.frz_board.specs.Attacking.{Attack, Stands, IsForward}
use Rattle.frz_squares.proofs.Lemmas.{either_or, some_square, any_square}
use Rattle.frz_board.proofs.Lemmas.{cell_back}
use Rattle.frz_board.proofs.Lemmas.{test_means, means_test, forward_means, means_forward}
use Rattle.frz_fide.specs.Legal.{is_home, is_last, passed_over, beside_on_file, is_target, captures, takes_in_passing, steps, advances, goes, promotes, can_go, man_goes, arrives, after_man, after, is_legal}
use Rattle.frz_fide.specs.Checks.{Attacker, Check}
use Rattle.frz_fide.specs.Valid.{IsValid}
use Rattle.frz_fide.specs.LegalMoves.{StartsAt, IsLast, Becomes, HasEnemyBeside, moved, IsSafe, Legal, piece, capture, step, advance, en_passant}
use Rattle.frz_fide.proofs.LegalParts.{facts}
use Rattle.frz_fide.proofs.Standing.{target_is}
use Rattle.frz_fide.proofs.Colours.{own_colour}
use Rattle.frz_fide.proofs.Checking.{stands_on, stands_held, held_stands, check_means, means_check}
use Rattle.frz_fide.proofs.RankTests.{two_test, two_means, home_test, home_means, last_test, last_means, not_two, advance_inner, passing_inner}

abbrev mine : Board → Kind → Man
mine p k = record { colour = p.turn; kind = k }

-- the king is safe
safe_means : (c : Colour) (q : Board) → is_in_check q c ≡ false → (s a : ℕ) (k : Kind) → s < 64 →
    a < 64 →
    Stands q c King s → Stands q (other_of c) k a → Attack q a s → ⊥
safe_means c q h s a k ls la king man hit =
    let attacker : Attacker q (other_of c) s =
    record { from = a; on_board = la; kind = k; stands = man; attack = hit } in
    let check : Check q c =
    record { square = s; on_board = ls; king = king; attacker = attacker } in
    both_ways (is_in_check q c) h (means_check q c check)

means_safe : (c : Colour) (q : Board) →
    ((s a : ℕ) (k : Kind) → s < 64 → a < 64 → Stands q c King s → Stands q (other_of c) k a →
    Attack q a s → ⊥) →
    is_in_check q c ≡ false
means_safe c q h =
    false_from_ne_true (is_in_check q c) (λ e.
    let w = check_means q c e in
    let a = w.attacker in
    h w.square a.from a.kind w.on_board a.on_board w.king a.stands a.attack)

-- the position after a move, from its parts
abbrev built : Board → Step → Man → Bool → Option ℕ → Board
built p m man taken target = record {
  cells =
      cond taken (slice_set (slice_set (slice_set p.cells m.from 0) m.to (cell_of_man man))
      (beside_on_file m.from m.to) 0)
      (slice_set (slice_set p.cells m.from 0) m.to (cell_of_man man));
  turn = other_of p.turn;
  ep = target;
}

abbrev leaves : Board → Step → Kind → Option ℕ
leaves p m k =
    cond ((is_pawn k && advances p p.turn m.from m.to) && has_pawn_beside p (other_of p.turn) m.to)
    (Some (passed_over m.from m.to)) None

result_is : (p : Board) (m : Step) (j k : Kind) (taken : Bool) (target : Option ℕ) →
    arrives (mine p j) m.promo ≡ mine p k →
    (is_pawn j && takes_in_passing p p.turn m.from m.to) ≡ taken → leaves p m j ≡ target →
    after_man p (Some (mine p j)) m ≡ built p m (mine p k) taken target
result_is p m j k taken target a b c =
    ap (λ man. built p m man (is_pawn j && takes_in_passing p p.turn m.from m.to) (leaves p m j)) a
    ∙ ap (λ t. built p m (mine p k) t (leaves p m j)) b ∙ ap (built p m (mine p k) taken) c

no_advance : (p : Board) (m : Step) (k : Kind) →
    (is_pawn k && advances p p.turn m.from m.to) ≡ false → leaves p m k ≡ None
no_advance p m k h =
    ap (λ x. cond (x && has_pawn_beside p (other_of p.turn) m.to) (Some (passed_over m.from m.to))
    None) h

-- what a legal move of the relation gives the tests
abbrev IsPlayed : Board → Step → Board → Type 0
IsPlayed p m q = IsStep m × (is_legal p m ≡ true) × (q ≡ after p m)

played : (p : Board) (m : Step) (q r : Board) (k : Kind) → StartsAt p m k →
    goes p p.turn k m.from m.to ≡ true → promotes p.turn k m.to m.promo ≡ true →
    after_man p (Some (mine p k)) m ≡ r → q ≡ r → IsSafe p q → IsPlayed p m q
unfolding is_legal
played p m q r k b way promo e f s =
    let on : man_on p m.from ≡ Some (mine p k) = stands_on p p.turn k m.from b.stands in
    let free : holds p p.turn m.to ≡ false = false_from_ne_true (holds p p.turn m.to)
    (λ h. let w = held_stands p p.turn m.to h in b.free w.0 w.1) in
    let leads : q ≡ after p m = f ∙ sym e ∙ ap (λ o. after_man p o m) (sym on) in
    let safe : is_in_check (after p m) p.turn ≡ false = ap (λ (x : Board). is_in_check x p.turn)
    (sym leads) ∙ means_safe p.turn q s in
    let go : can_go p m ≡ true =
    ap (λ o. (is_man_of p.turn o && not (holds p p.turn m.to)) && man_goes p o m) on
    ∙ and_from _ _ (and_from (same_colour p.turn p.turn) (not (holds p p.turn m.to))
    (own_colour p.turn) (ap not free))
    (and_from (goes p p.turn k m.from m.to) (promotes p.turn k m.to m.promo) way promo) in
    (b.step, and_from (can_go p m) (not (is_in_check (after p m) p.turn)) go (ap not safe), leads)

attack_is : (p : Board) (m : Step) (k : Kind) → StartsAt p m k → Attack p m.from m.to →
    reaches p p.turn k m.from m.to ≡ true
attack_is p m k b h =
    ap (λ o. man_reaches p o m.from m.to) (sym (stands_on p p.turn k m.from b.stands))
    ∙ means_test p m.from m.to h

attack_from : (p : Board) (m : Step) (k : Kind) → StartsAt p m k →
    reaches p p.turn k m.from m.to ≡ true → Attack p m.from m.to
attack_from p m k b h =
    test_means p m.from m.to
    (ap (λ o. man_reaches p o m.from m.to) (stands_on p p.turn k m.from b.stands) ∙ h)

-- on files one apart no pawn advances, on one file none captures
not_straight : (c : Colour) (a b : ℕ) → pawn_reaches c a b ≡ true → (files_apart a b == 0) ≡ false
not_straight c a b h =
    ap (λ n. n == 0)
    (eqb-true (files_apart a b) 1 (and_parts (files_apart a b == 1) (is_forward c 1 a b) h).0)

not_aside : (c : Colour) (a b : ℕ) → files_apart a b ≡ 0 → pawn_reaches c a b ≡ false
not_aside c a b h = and_left (files_apart a b == 1) (is_forward c 1 a b) (ap (λ n. n == 1) h)

aside_no_advance : (p : Board) (c : Colour) (a b : ℕ) → pawn_reaches c a b ≡ true →
    advances p c a b ≡ false
aside_no_advance p c a b h =
    and_left (is_home c a && (files_apart a b == 0 && is_forward c 2 a b))
    (is_empty p b && is_empty p (passed_over a b))
    (and_right (is_home c a) (files_apart a b == 0 && is_forward c 2 a b)
    (and_left (files_apart a b == 0) (is_forward c 2 a b) (not_straight c a b h)))

step_no_advance : (p : Board) (c : Colour) (a b : ℕ) → IsForward c a b → advances p c a b ≡ false
step_no_advance p c a b h =
    and_left (is_home c a && (files_apart a b == 0 && is_forward c 2 a b))
    (is_empty p b && is_empty p (passed_over a b))
    (and_right (is_home c a) (files_apart a b == 0 && is_forward c 2 a b)
    (and_right (files_apart a b == 0) (is_forward c 2 a b) (not_two c a b h)))

pub straight_no_taking : (p : Board) (c : Colour) (a b : ℕ) → files_apart a b ≡ 0 →
    takes_in_passing p c a b ≡ false
straight_no_taking p c a b h = and_left (pawn_reaches c a b) (is_target p.ep b) (not_aside c a b h)

-- a target has been passed over, so nothing stands there
passed_target : (p : Board) (b : ℕ) → IsValid p → p.ep ≡ Some b →
    has_passed p (other_of p.turn) b ≡ true
unfolding has_target_in_place
passed_target p b v e =
    (and_parts (has_passed p (other_of p.turn) b)
    (has_pawn_beside p (other_of (other_of p.turn)) (ahead (other_of p.turn) b))
    (ap (target_stands p) (sym e) ∙ v.target)).0

target_ranks : (p : Board) (b : ℕ) → IsValid p → p.ep ≡ Some b →
    (is_passing_rank (other_of p.turn) b ≡ true) × (is_empty p b ≡ true)
target_ranks p b v e =
    let parts = and_parts
    (is_passing_rank (other_of p.turn) b
    && (is_empty p b && is_empty p (ahead (other_of (other_of p.turn)) b)))
    (has p (other_of p.turn) Pawn (ahead (other_of p.turn) b)) (passed_target p b v e) in
    let rank = and_parts (is_passing_rank (other_of p.turn) b)
    (is_empty p b && is_empty p (ahead (other_of (other_of p.turn)) b)) parts.0 in (
      rank.0,
      (and_parts (is_empty p b) (is_empty p (ahead (other_of (other_of p.turn)) b))
          rank.1).0,
    )

no_target : (p : Board) (c : Colour) (j : Kind) (b : ℕ) → IsValid p → Stands p c j b →
    is_target p.ep b ≡ false
no_target p c j b v h =
    false_from_ne_true (is_target p.ep b) (λ e.
    let zero = eqb-true (slice_index p.cells b) 0 (target_ranks p b v (target_is p.ep b e)).1 in
    let none = ap man_of_cell zero in
    let some = stands_on p c j b h in
    cc)

becomes_test : (p : Board) (m : Step) (k : Kind) → is_promotion m.promo ≡ true → Becomes p m k →
    (promotes p.turn Pawn m.to m.promo ≡ true) × (arrives (mine p Pawn) m.promo ≡ mine p k)
becomes_test p m k ip (inl h) =
    let inner : is_last p.turn m.to ≡ false = false_from_ne_true (is_last p.turn m.to)
    (λ e. h.0 (last_means p.turn m.to e)) in (
      ap (promotes p.turn Pawn m.to) h.1 ∙ ap (λ x. true && (if x then false else true)) inner,
      ap (arrives (mine p Pawn)) h.1 ∙ ap (mine p) (sym h.2),
    )
becomes_test p m k ip (inr h) = (
  and_from (is_promotion m.promo) (if is_last p.turn m.to then is_some m.promo else is_none m.promo)
      ip (ap (λ x. if x then is_some m.promo else is_none m.promo) (last_test p.turn m.to h.0)
      ∙ ap is_some h.1),
  ap (arrives (mine p Pawn)) h.1,
)

beside_test : (p : Board) (b : ℕ) → HasEnemyBeside p b →
    has_pawn_beside p (other_of p.turn) b ≡ true
beside_test p b (s, l, r, f, h) =
    any_square (λ s. (ranks_apart s b == 0 && files_apart s b == 1) && has p (other_of p.turn) Pawn
    s) s l
    (and_from (ranks_apart s b == 0 && files_apart s b == 1) (has p (other_of p.turn) Pawn s)
    (and_from (ranks_apart s b == 0) (files_apart s b == 1) (eq-eqb (ranks_apart s b) 0 r)
    (eq-eqb (files_apart s b) 1 f))
    (eq-eqb (slice_index p.cells s) (cell_of_man (record { colour = other_of p.turn; kind = Pawn }))
    h))

beside_means : (p : Board) (b : ℕ) → has_pawn_beside p (other_of p.turn) b ≡ true →
    HasEnemyBeside p b
beside_means p b h =
    let w = some_square (λ s. (ranks_apart s b == 0 && files_apart s b == 1)
    && has p (other_of p.turn) Pawn s) h in
    let parts = and_parts (ranks_apart w.square b == 0 && files_apart w.square b == 1)
    (has p (other_of p.turn) Pawn w.square) w.passes in
    let places = and_parts (ranks_apart w.square b == 0) (files_apart w.square b == 1) parts.0 in (
      w.square,
      w.on_board,
      eqb-true (ranks_apart w.square b) 0 places.0,
      eqb-true (files_apart w.square b) 1 places.1,
      eqb-true (slice_index p.cells w.square)
          (cell_of_man (record { colour = other_of p.turn; kind = Pawn })) parts.1,
    )

piece_goes : (p : Board) (k : Kind) (a b : ℕ) → k ≢ Pawn → reaches p p.turn k a b ≡ true →
    goes p p.turn k a b ≡ true
piece_goes p King a b n h = h
piece_goes p Queen a b n h = h
piece_goes p Rook a b n h = h
piece_goes p Bishop a b n h = h
piece_goes p Knight a b n h = h
piece_goes p Pawn a b n h = absurd (n refl)

piece_is_no_pawn : (k : Kind) → k ≢ Pawn → is_pawn k ≡ false
piece_is_no_pawn King n = refl
piece_is_no_pawn Queen n = refl
piece_is_no_pawn Rook n = refl
piece_is_no_pawn Bishop n = refl
piece_is_no_pawn Knight n = refl
piece_is_no_pawn Pawn n = absurd (n refl)

piece_promotes : (c : Colour) (k : Kind) (b : ℕ) → k ≢ Pawn → promotes c k b None ≡ true
piece_promotes c King b n = refl
piece_promotes c Queen b n = refl
piece_promotes c Rook b n = refl
piece_promotes c Bishop b n = refl
piece_promotes c Knight b n = refl
piece_promotes c Pawn b n = absurd (n refl)

officer_result : (p : Board) (m : Step) (k : Kind) → k ≢ Pawn → m.promo ≡ None →
    after_man p (Some (mine p k)) m ≡ moved p m k None
officer_result p m k n e =
    result_is p m k k false None (ap (arrives (mine p k)) e)
    (ap (λ x. x && takes_in_passing p p.turn m.from m.to) (piece_is_no_pawn k n))
    (no_advance p m k (ap (λ x. x && advances p p.turn m.from m.to) (piece_is_no_pawn k n)))

target_by : (p : Board) (m : Step) (target : Option ℕ) → advances p p.turn m.from m.to ≡ true →
    (HasEnemyBeside p m.to × (target ≡ Some (passed_over m.from m.to)))
    ⊎ ((HasEnemyBeside p m.to → ⊥) × (target ≡ None)) → leaves p m Pawn ≡ target
target_by p m target a (inl h) =
    ap (λ x. cond (x && has_pawn_beside p (other_of p.turn) m.to) (Some (passed_over m.from m.to))
    None) a
    ∙ ap (λ x. cond x (Some (passed_over m.from m.to)) None) (beside_test p m.to h.0) ∙ sym h.1
target_by p m target a (inr h) =
    ap (λ x. cond (x && has_pawn_beside p (other_of p.turn) m.to) (Some (passed_over m.from m.to))
    None) a
    ∙ ap (λ x. cond x (Some (passed_over m.from m.to)) None)
    (false_from_ne_true (has_pawn_beside p (other_of p.turn) m.to)
    (λ e. h.0 (beside_means p m.to e)))
    ∙ sym h.1

pub relation_tests : (p : Board) (m : Step) (q : Board) → IsValid p → Legal p m q → IsPlayed p m q
relation_tests p m q v (piece k b n hit promo e s) =
    played p m q (moved p m k None) k b (piece_goes p k m.from m.to n (attack_is p m k b hit))
    (ap (promotes p.turn k m.to) promo ∙ piece_promotes p.turn k m.to n)
    (officer_result p m k n promo) e s
relation_tests p m q v (capture k j b hit enemy becomes e s) =
    let reach = attack_is p m Pawn b hit in
    let promo = becomes_test p m k b.step.promo becomes in
    played p m q (moved p m k None) Pawn b
    (either_or _ _ (inl
    (either_or _ _ (inl
    (and_from (pawn_reaches p.turn m.from m.to) (holds p (other_of p.turn) m.to) reach
    (stands_held p (other_of p.turn) j m.to enemy)))))) promo.0
    (result_is p m Pawn k false None promo.1
    (and_right (pawn_reaches p.turn m.from m.to) (is_target p.ep m.to)
    (no_target p (other_of p.turn) j m.to v enemy))
    (no_advance p m Pawn (aside_no_advance p p.turn m.from m.to reach))) e s
relation_tests p m q v (step k b file rank empty becomes e s) =
    let promo = becomes_test p m k b.step.promo becomes in
    let ahead = and_from (files_apart m.from m.to == 0) (is_forward p.turn 1 m.from m.to)
    (eq-eqb (files_apart m.from m.to) 0 file) (means_forward p.turn m.from m.to rank) in
    played p m q (moved p m k None) Pawn b
    (either_or _ _ (inl
    (either_or _ _ (inr
    (and_from (files_apart m.from m.to == 0 && is_forward p.turn 1 m.from m.to) (is_empty p m.to)
    ahead (eq-eqb (slice_index p.cells m.to) 0 empty)))))) promo.0
    (result_is p m Pawn k false None promo.1 (straight_no_taking p p.turn m.from m.to file)
    (no_advance p m Pawn (step_no_advance p p.turn m.from m.to rank))) e s
relation_tests p m q v (advance target b home file ranks empty over none beside e s) =
    let promo = becomes_test p m Pawn b.step.promo
    (inl (advance_inner p.turn m.from m.to home ranks, none, refl)) in
    let line = and_from (is_home p.turn m.from)
    (files_apart m.from m.to == 0 && is_forward p.turn 2 m.from m.to)
    (home_test p.turn m.from home)
    (and_from (files_apart m.from m.to == 0) (is_forward p.turn 2 m.from m.to)
    (eq-eqb (files_apart m.from m.to) 0 file) (two_test p.turn m.from m.to ranks)) in
    let free = and_from (is_empty p m.to) (is_empty p (passed_over m.from m.to))
    (eq-eqb (slice_index p.cells m.to) 0 empty)
    (eq-eqb (slice_index p.cells (passed_over m.from m.to)) 0 over) in
    let goes_two : advances p p.turn m.from m.to ≡ true = and_from _ _ line free in
    played p m q (moved p m Pawn target) Pawn b (either_or _ _ (inr (either_or _ _ (inl goes_two))))
    promo.0
    (result_is p m Pawn Pawn false target promo.1 (straight_no_taking p p.turn m.from m.to file)
    (target_by p m target goes_two beside)) e s
relation_tests p m q v (en_passant b hit target none e s) =
    let reach = attack_is p m Pawn b hit in
    let rank = (target_ranks p m.to v target).0 in
    let promo = becomes_test p m Pawn b.step.promo
    (inl (passing_inner p.turn m.to rank, none, refl)) in
    let taking : takes_in_passing p p.turn m.from m.to ≡ true =
    and_from (pawn_reaches p.turn m.from m.to) (is_target p.ep m.to) reach
    (ap (λ o. is_target o m.to) target ∙ eq-eqb m.to m.to refl) in
    played p m q (built p m (mine p Pawn) true None) Pawn b
    (either_or _ _ (inr (either_or _ _ (inr taking)))) promo.0
    (result_is p m Pawn Pawn true None promo.1 taking
    (no_advance p m Pawn (aside_no_advance p p.turn m.from m.to reach))) e s

no_promotion : (c : Colour) (k : Kind) (b : ℕ) (promo : Option Kind) → k ≢ Pawn →
    promotes c k b promo ≡ true → promo ≡ None
no_promotion c k b None n h = refl
no_promotion c King b (Some j) n h = absurd cc
no_promotion c Queen b (Some j) n h = absurd cc
no_promotion c Rook b (Some j) n h = absurd cc
no_promotion c Bishop b (Some j) n h = absurd cc
no_promotion c Knight b (Some j) n h = absurd cc
no_promotion c Pawn b (Some j) n h = absurd (n refl)

last_then : (l : Bool) → (if l then true else false) ≡ true → l ≡ true
last_then true h = refl
last_then false h = cc

-- what a pawn becomes
becomes_by : (p : Board) (m : Step) (x : Option Kind) → m.promo ≡ x →
    promotes p.turn Pawn m.to x ≡ true → (k : Kind) × Becomes p m k
becomes_by p m None e h = (
  Pawn,
  inl (
    (λ l. both_ways (is_last p.turn m.to) (not_last (is_last p.turn m.to) h)
        (last_test p.turn m.to l)),
    e,
    refl,
  ),
)
becomes_by p m (Some k) e h =
    let last = last_then (is_last p.turn m.to)
    (and_parts (is_promotion (Some k)) (if is_last p.turn m.to then true else false) h).1 in
    (k, inr (last_means p.turn m.to last, e))

inner_none : (p : Board) (m : Step) (k : Kind) → (IsLast p.turn m.to → ⊥) → Becomes p m k →
    m.promo ≡ None
inner_none p m k n (inl h) = h.1
inner_none p m k n (inr h) = absurd (n h.0)

-- what a pawn does in one of its four ways
module _ (p : Board) (m : Step) (q : Board) (v : IsValid p) (b : StartsAt p m Pawn) (k : Kind)
    (becomes : Becomes p m k) (leads : q ≡ after_man p (Some (mine p Pawn)) m)
    (safe : IsSafe p q) where
  pawn_captures : captures p p.turn m.from m.to ≡ true → Legal p m q
  pawn_captures h =
      let parts = and_parts (pawn_reaches p.turn m.from m.to) (holds p (other_of p.turn) m.to) h in
      let enemy = held_stands p (other_of p.turn) m.to parts.1 in
      let promo = becomes_test p m k b.step.promo becomes in
      capture k enemy.0 b (attack_from p m Pawn b parts.0) enemy.1 becomes
      (leads ∙ result_is p m Pawn k false None promo.1
      (and_right (pawn_reaches p.turn m.from m.to) (is_target p.ep m.to)
      (no_target p (other_of p.turn) enemy.0 m.to v enemy.1))
      (no_advance p m Pawn (aside_no_advance p p.turn m.from m.to parts.0))) safe

  pawn_steps : steps p p.turn m.from m.to ≡ true → Legal p m q
  pawn_steps h =
      let parts = and_parts (files_apart m.from m.to == 0 && is_forward p.turn 1 m.from m.to)
      (is_empty p m.to) h in
      let way = and_parts (files_apart m.from m.to == 0) (is_forward p.turn 1 m.from m.to)
      parts.0 in
      let file = eqb-true (files_apart m.from m.to) 0 way.0 in
      let rank = forward_means p.turn m.from m.to way.1 in
      let promo = becomes_test p m k b.step.promo becomes in
      step k b file rank (eqb-true (slice_index p.cells m.to) 0 parts.1) becomes
      (leads ∙ result_is p m Pawn k false None promo.1
      (straight_no_taking p p.turn m.from m.to file)
      (no_advance p m Pawn (step_no_advance p p.turn m.from m.to rank))) safe

  target_cases : (x : Bool) → has_pawn_beside p (other_of p.turn) m.to ≡ x →
      (HasEnemyBeside p m.to
      × (cond x (Some (passed_over m.from m.to)) None ≡ Some (passed_over m.from m.to)))
      ⊎ ((HasEnemyBeside p m.to → ⊥) × (cond x (Some (passed_over m.from m.to)) None ≡ None))
  target_cases true e = inl (beside_means p m.to e, refl)
  target_cases false e =
      inr (
        (λ w. both_ways (has_pawn_beside p (other_of p.turn) m.to) e (beside_test p m.to w)),
        refl,
      )

  pawn_advances : advances p p.turn m.from m.to ≡ true → Legal p m q
  pawn_advances h =
      let parts = and_parts
      (is_home p.turn m.from
      && (files_apart m.from m.to == 0 && is_forward p.turn 2 m.from m.to))
      (is_empty p m.to && is_empty p (passed_over m.from m.to)) h in
      let line = and_parts (is_home p.turn m.from)
      (files_apart m.from m.to == 0 && is_forward p.turn 2 m.from m.to) parts.0 in
      let way = and_parts (files_apart m.from m.to == 0) (is_forward p.turn 2 m.from m.to) line.1 in
      let free = and_parts (is_empty p m.to) (is_empty p (passed_over m.from m.to)) parts.1 in
      let home = home_means p.turn m.from line.0 in
      let file = eqb-true (files_apart m.from m.to) 0 way.0 in
      let ranks = two_means p.turn m.from m.to way.1 in
      let none = inner_none p m k (advance_inner p.turn m.from m.to home ranks) becomes in
      let target : Option ℕ = cond (has_pawn_beside p (other_of p.turn) m.to)
      (Some (passed_over m.from m.to)) None in
      advance target b home file ranks (eqb-true (slice_index p.cells m.to) 0 free.0)
      (eqb-true (slice_index p.cells (passed_over m.from m.to)) 0 free.1) none
      (target_cases (has_pawn_beside p (other_of p.turn) m.to) refl)
      (leads ∙ result_is p m Pawn Pawn false target (ap (arrives (mine p Pawn)) none)
      (straight_no_taking p p.turn m.from m.to file)
      (ap (λ x. cond (x && has_pawn_beside p (other_of p.turn) m.to)
      (Some (passed_over m.from m.to)) None) h)) safe

  pawn_takes : takes_in_passing p p.turn m.from m.to ≡ true → Legal p m q
  pawn_takes h =
      let parts = and_parts (pawn_reaches p.turn m.from m.to) (is_target p.ep m.to) h in
      let target = target_is p.ep m.to parts.1 in
      let none = inner_none p m k (passing_inner p.turn m.to (target_ranks p m.to v target).0)
      becomes in
      en_passant b (attack_from p m Pawn b parts.0) target none
      (leads ∙ result_is p m Pawn Pawn true None (ap (arrives (mine p Pawn)) none) h
      (no_advance p m Pawn (aside_no_advance p p.turn m.from m.to parts.0))) safe

  pawn_legal : goes p p.turn Pawn m.from m.to ≡ true → Legal p m q
  pawn_legal h =
      elim (or_cases (captures p p.turn m.from m.to || steps p p.turn m.from m.to)
      (advances p p.turn m.from m.to || takes_in_passing p p.turn m.from m.to) h) [
        | inl w ↦ elim (or_cases (captures p p.turn m.from m.to) (steps p p.turn m.from m.to) w)
            [ inl u ↦ pawn_captures u | inr u ↦ pawn_steps u ]
        | inr w ↦ elim (or_cases (advances p p.turn m.from m.to)
            (takes_in_passing p p.turn m.from m.to) w)
            [ inl u ↦ pawn_advances u | inr u ↦ pawn_takes u ]
      ]

officer_legal : (p : Board) (m : Step) (q : Board) (k : Kind) → k ≢ Pawn → StartsAt p m k →
    reaches p p.turn k m.from m.to ≡ true → promotes p.turn k m.to m.promo ≡ true →
    q ≡ after_man p (Some (mine p k)) m → IsSafe p q → Legal p m q
officer_legal p m q k n b way promo leads safe =
    let none = no_promotion p.turn k m.to m.promo n promo in
    piece k b n (attack_from p m k b way) none (leads ∙ officer_result p m k n none) safe

kind_legal : (p : Board) (m : Step) (q : Board) (k : Kind) → IsValid p → StartsAt p m k →
    goes p p.turn k m.from m.to ≡ true → promotes p.turn k m.to m.promo ≡ true →
    q ≡ after_man p (Some (mine p k)) m → IsSafe p q → Legal p m q
kind_legal p m q King v b way promo leads safe =
    officer_legal p m q King (λ e. cc) b way promo leads safe
kind_legal p m q Queen v b way promo leads safe =
    officer_legal p m q Queen (λ e. cc) b way promo leads safe
kind_legal p m q Rook v b way promo leads safe =
    officer_legal p m q Rook (λ e. cc) b way promo leads safe
kind_legal p m q Bishop v b way promo leads safe =
    officer_legal p m q Bishop (λ e. cc) b way promo leads safe
kind_legal p m q Knight v b way promo leads safe =
    officer_legal p m q Knight (λ e. cc) b way promo leads safe
kind_legal p m q Pawn v b way promo leads safe =
    let w = becomes_by p m m.promo refl promo in pawn_legal p m q v b w.0 w.1 leads safe way

pub tests_relation : (p : Board) (m : Step) (q : Board) → IsValid p → IsPlayed p m q → Legal p m q
tests_relation p m q v (s, h, e) =
    let f = facts p m h in
    let k = f.man.kind in
    let made_of : Colour → Option Man = λ c. Some (record { colour = c; kind = k }) in
    let on : man_on p m.from ≡ Some (mine p k) = f.on ∙ ap made_of f.own in
    let b : StartsAt p m k = record {
      step = s;
      stands = cell_back (slice_index p.cells m.from) p.turn k on;
      free = λ j w. both_ways (holds p p.turn m.to) f.free (stands_held p p.turn j m.to w);
    } in
    kind_legal p m q k v b (ap (λ c. goes p c k m.from m.to) (sym f.own) ∙ f.way)
    (ap (λ c. promotes c k m.to m.promo) (sym f.own) ∙ f.promo)
    (e ∙ ap (λ o. after_man p o m) on)
    (safe_means p.turn q (ap (λ (x : Board). is_in_check x p.turn) e ∙ f.safe))
