-- A way over the numbers of a set is a game of chess.
use Rattle.std.proofs.Common.{◌≡◌, ℕ, suc, zero, length, inl, inr, Bool, true, false, List, [], ◌∷◌, Option, Some, None, map, refl, sym, subst, ap, ◌∙◌, arith}
use Rattle.std.specs.Prelude.{slice_get, MatchOption}
use Rattle.std.specs.List.{Contains}
use Rattle.std.proofs.lemmas.Bool.{cases_Bool}
use Rattle.std.proofs.lemmas.Option.{slice_get-map}
use Rattle.frz_board.specs.declared.man.Colour.{Colour}
use Rattle.frz_board.specs.Attacks.{is_in_check}
use Rattle.frz_board.specs.Boards.{Board}
use Rattle.frz_board.specs.Moving.{Step}
use Rattle.frz_fide.specs.Legal.{after}
use Rattle.frz_fide.specs.Listing.{legal_moves_of}
use Rattle.frz_sets.specs.declared.exit.Value.{Value}
use Rattle.frz_sets.specs.Views.{GroupLine, RuleLines}
use Rattle.frz_exits.specs.Forbidding.{is_free}
use Rattle.frz_index.specs.Members.{Num}
use Rattle.frz_index.proofs.Lemmas.{member_of, number_there, position_of}
use Rattle.frz_arena.specs.declared.arm.Arm.{Arm}
use Rattle.frz_arena.specs.declared.arm.Next.TheVariants.{Inside, Outside}
use Rattle.frz_arena.specs.declared.node.Node.TheVariants.{Going}
use Rattle.frz_arena.specs.Counted.{after as later, reader}
use Rattle.frz_arena.specs.Games.{next_by, node_by}
use Rattle.frz_arena.specs.Names.{named, named_next, name_in, node_at}
use Rattle.frz_arena.specs.WayEnds.{End, Exit}
use Rattle.frz_arena.specs.Ways.{Player, Opponent, IsPlyOf, IsWay}
use Rattle.frz_arena.proofs.Lemmas.{reader_moves}
use Rattle.frz_game.specs.Games.{game_of, arena_by, graph_by, arm_at}
use Rattle.frz_game.specs.Numbers.{is_member, position_at, numbers_by}
use Rattle.frz_game.proofs.Lemmas.{arms_there}
use Rattle.frz_ways.specs.ChessGames.{IsPlyFrom, IsGame, after_plies}
use Rattle.frz_ways.specs.Lines.{LinePly}
use Rattle.frz_ways.proofs.MoveChosen.{placed_is_contained}

-- who is to move
mover_of : (b : Bool) (ms : List Step) (check : Bool) (turn mover : Colour)
    → node_by b ms check turn ≡ Going mover → turn ≡ mover
mover_of false ms check turn mover e = absurd (cc)
mover_of true (m ∷ ms) check turn mover e = cc
mover_of true [] true turn mover e = absurd (cc)
mover_of true [] false turn mover e = absurd (cc)

-- where a move leads that stays in the set
next_there : (groups : List GroupLine) (k : ℕ) (q : Board) (v : Value) (to : ℕ × ℕ)
    → named_next (later k) (named_next (name_in (numbers_by groups))
    (next_by (is_member groups q) q v)) ≡ Inside to → position_at groups to.1 ≡ Some q
next_there groups k q v to e = elim (cases_Bool (is_member groups q)) [
  | inl t ↦ (
      let number = number_there groups q t in
      let leads : named_next (later k) (named_next (name_in (numbers_by groups))
      (next_by true q v)) ≡ Inside to =
      subst (λ b. named_next (later k) (named_next (name_in (numbers_by groups))
      (next_by b q v)) ≡ Inside to) t e in
      let pair : (k, name_in (numbers_by groups) q) ≡ to = cc in
      let named_so : name_in (numbers_by groups) q ≡ Num groups q = rw number refl in
      let same : Num groups q ≡ to.1 = sym named_so ∙ ap (λ (z : ℕ × ℕ). z.1) pair in
      position_of groups to.1 q
      (record { member = member_of groups q t; number = same }))
  | inr f ↦ absurd (
      let leads : named_next (later k) (named_next (name_in (numbers_by groups))
      (next_by false q v)) ≡ Inside to =
      subst (λ b. named_next (later k) (named_next (name_in (numbers_by groups))
      (next_by b q v)) ≡ Inside to) f e in cc)
]

-- where a move leads that leaves the set
next_outside : (groups : List GroupLine) (k : ℕ) (q : Board) (w v : Value)
    → named_next (later k) (named_next (name_in (numbers_by groups))
    (next_by (is_member groups q) q w)) ≡ Outside v → v ≡ w
next_outside groups k q w v e = elim (cases_Bool (is_member groups q)) [
  | inl t ↦ absurd (
      let leads : named_next (later k) (named_next (name_in (numbers_by groups))
      (next_by true q w)) ≡ Outside v =
      subst (λ b. named_next (later k) (named_next (name_in (numbers_by groups))
      (next_by b q w)) ≡ Outside v) t e in cc)
  | inr f ↦ (
      let leads : named_next (later k) (named_next (name_in (numbers_by groups))
      (next_by false q w)) ≡ Outside v =
      subst (λ b. named_next (later k) (named_next (name_in (numbers_by groups))
      (next_by b q w)) ≡ Outside v) f e in cc)
]

module _ {S R : Type 0} (rules : RuleLines) (value : Board → Value) (side : Colour)
    (codes : ℕ → List ℕ) (opponent : Opponent (ℕ × ℕ) S R) where
  abbrev pub player : Player Step (ℕ × ℕ) Value S R
  player = reader (graph_by rules value) side codes opponent

  -- the ply is that of a legal move of its number
  pub record IsMade (x : LinePly) : Type 0 where
    pub keeps : IsPlyOf player x
    pub position : Board
    pub move : Step
    pub at : position_at rules.groups x.from.1 ≡ Some position
    pub legal : slice_get (legal_moves_of position) x.place ≡ Some move
    pub free : is_free rules position.turn position move ≡ x.arm.free

  -- its arm
  pub arm_made : (p : Board) (x : LinePly) (m : Step) → position_at rules.groups x.from.1 ≡ Some p
      → slice_get (legal_moves_of p) x.place ≡ Some m → IsPlyOf player x
      → x.arm ≡ named (later (suc x.from.0)) (arm_at rules value p m)
  arm_made p x m at there keeps =
      let turn : Arm Step ℕ Value → Arm Step (ℕ × ℕ) Value = named (later (suc x.from.0)) in
      let arms = (graph_by rules value).arms x.from.1 in
      let one = slice_get-map (arm_at rules value p) (legal_moves_of p) x.place in
      let plain : slice_get (map (arm_at rules value p) (legal_moves_of p)) x.place
      ≡ Some (arm_at rules value p m) = rw (one, there) refl in
      let here : slice_get arms x.place ≡ Some (arm_at rules value p m) =
      subst (λ (z : List (Arm Step ℕ Value)). slice_get z x.place ≡ Some (arm_at rules value p m))
      (sym (arms_there rules value x.from.1 p at)) plain in
      let two = slice_get-map turn arms x.place in
      let image : slice_get (map turn arms) x.place ≡ Some (turn (arm_at rules value p m)) =
      rw (two, here) refl in
      let own = keeps.there in
      cc

  made_arm_has_move : (p : Board) (x : LinePly) (m : Step)
      → x.arm ≡ named (later (suc x.from.0)) (arm_at rules value p m) → x.arm.mv ≡ m
  unfolding arm_at
  made_arm_has_move p x m e = ap (λ (a : Arm Step (ℕ × ℕ) Value). a.mv) e

  next_made : (p : Board) (x : LinePly) (m : Step) (to : ℕ × ℕ)
      → x.arm ≡ named (later (suc x.from.0)) (arm_at rules value p m) → x.arm.next ≡ Inside to
      → position_at rules.groups to.1 ≡ Some (after p m)
  unfolding arm_at
  next_made p x m to e leads =
      next_there rules.groups (suc x.from.0) (after p m) (value (after p m)) to
      (sym (ap (λ (a : Arm Step (ℕ × ℕ) Value). a.next) e) ∙ leads)

  -- the move of a ply from a position
  pub move_made : (p : Board) (x : LinePly) → position_at rules.groups x.from.1 ≡ Some p
      → (made : IsMade x) → (made.position ≡ p) × (slice_get (legal_moves_of p) x.place
      ≡ Some made.move)
  move_made p x here made =
      let at = made.at in
      let same : made.position ≡ p = cc in
      (same, subst (λ q. slice_get (legal_moves_of q) x.place ≡ Some made.move) same made.legal)

  ply_from : (p : Board) (x : LinePly) → position_at rules.groups x.from.1 ≡ Some p → IsMade x
      → IsPlyFrom rules side p x
  ply_from p x here made =
      let there = move_made p x here made in
      let mv = made_arm_has_move p x made.move (arm_made p x made.move here there.1 made.keeps) in
      let turn = mover_of (is_member rules.groups p) (legal_moves_of p) (is_in_check p p.turn)
      p.turn x.mover (sym (ap (node_at (arena_by rules value)) here) ∙ made.keeps.goes_on) in
      record {
        here = here;
        turn = turn;
        legal = there.1 ∙ ap Some (sym mv);
        free = λ own.
            let same_freedom : is_free rules side p x.arm.mv
            ≡ is_free rules made.position.turn made.position made.move =
            ap (λ c. is_free rules c p x.arm.mv) (sym (turn ∙ own))
            ∙ (ap (λ m. is_free rules p.turn p m) mv
            ∙ ap (λ (q : Board). is_free rules q.turn q made.move) (sym there.0)) in
            same_freedom ∙ (made.free ∙ made.keeps.free own);
      }

  pub next_from : (p : Board) (x : LinePly) (to : ℕ × ℕ) → position_at rules.groups x.from.1 ≡ Some p
      → IsMade x → x.arm.next ≡ Inside to → position_at rules.groups to.1 ≡ Some (after p x.arm.mv)
  next_from p x to here made leads =
      let there = move_made p x here made in
      let arm = arm_made p x made.move here there.1 made.keeps in
      next_made p x made.move to arm leads
      ∙ ap (λ m. Some (after p m)) (sym (made_arm_has_move p x made.move arm))

  outside_made : (p : Board) (x : LinePly) (m : Step) (v : Value)
      → x.arm ≡ named (later (suc x.from.0)) (arm_at rules value p m) → x.arm.next ≡ Outside v
      → v ≡ value (after p m)
  unfolding arm_at
  outside_made p x m v e leads =
      next_outside rules.groups (suc x.from.0) (after p m) (value (after p m)) v
      (sym (ap (λ (a : Arm Step (ℕ × ℕ) Value). a.next) e) ∙ leads)

  pub value_from : (p : Board) (x : LinePly) (v : Value) → position_at rules.groups x.from.1 ≡ Some p
      → IsMade x → x.arm.next ≡ Outside v → v ≡ value (after p x.arm.mv)
  value_from p x v here made leads =
      let there = move_made p x here made in
      let arm = arm_made p x made.move here there.1 made.keeps in
      outside_made p x made.move v arm leads
      ∙ ap (λ m. value (after p m)) (sym (made_arm_has_move p x made.move arm))

  -- where the last of these plies leads outside
  exit_on : (plies : List LinePly) (p : Board) (v : Value)
      → ((i : ℕ) (x : LinePly) → slice_get plies i ≡ Some x → IsMade x)
      → ((i : ℕ) (x y : LinePly) → slice_get plies i ≡ Some x → slice_get plies (suc i) ≡ Some y
      → x.arm.next ≡ Inside y.from)
      → ((x : LinePly) → slice_get plies 0 ≡ Some x → position_at rules.groups x.from.1 ≡ Some p)
      → (last : LinePly) (i : ℕ) → suc i ≡ length plies → slice_get plies i ≡ Some last
      → last.arm.next ≡ Outside v → v ≡ value (after_plies p plies)
  exit_on [] p v each follows first last i long there out = absurd (omega (arith, long))
  exit_on (x ∷ []) p v each follows first last zero long there out =
      value_from p x v (first x refl) (each zero x refl)
      (let same : x ≡ last = cc in ap (λ (z : LinePly). z.arm.next) same ∙ out)
  exit_on (x ∷ []) p v each follows first last (suc i) long there out =
      absurd (omega (arith, long))
  exit_on (x ∷ y ∷ plies) p v each follows first last zero long there out =
      absurd (omega (arith, long))
  exit_on (x ∷ y ∷ plies) p v each follows first last (suc i) long there out =
      let here = first x refl in
      let made = each zero x refl in
      exit_on (y ∷ plies) (after p x.arm.mv) v (λ i z e. each (suc i) z e)
      (λ i z w e f. follows (suc i) z w e f)
      (λ z e. next_from p x z.from here made (follows zero x z refl e)) last i
      (omega (arith, long)) there out

  game_on : (plies : List LinePly) (p : Board)
      → ((i : ℕ) (x : LinePly) → slice_get plies i ≡ Some x → IsMade x)
      → ((i : ℕ) (x y : LinePly) → slice_get plies i ≡ Some x → slice_get plies (suc i) ≡ Some y
      → x.arm.next ≡ Inside y.from)
      → ((x : LinePly) → slice_get plies 0 ≡ Some x → position_at rules.groups x.from.1 ≡ Some p)
      → IsGame rules side p plies
  game_on [] p each follows first = tt
  game_on (x ∷ plies) p each follows first =
      let here = first x refl in
      let made = each zero x refl in (
        ply_from p x here made,
        game_on plies (after p x.arm.mv) (λ i y e. each (suc i) y e)
            (λ i y z e f. follows (suc i) y z e f)
            (λ y e. next_from p x y.from here made (follows zero x y refl e)),
      )

  -- from a number without a position there is no ply
  pub game_from : (start : ℕ) (plies : List LinePly) (o : Option Board)
      → position_at rules.groups start ≡ o
      → ((i : ℕ) (x : LinePly) → slice_get plies i ≡ Some x → IsMade x)
      → ((i : ℕ) (x y : LinePly) → slice_get plies i ≡ Some x → slice_get plies (suc i) ≡ Some y
      → x.arm.next ≡ Inside y.from)
      → ((x : LinePly) → slice_get plies 0 ≡ Some x → x.from ≡ (zero, start))
      → MatchOption o (plies ≡ []) (λ p. IsGame rules side p plies)
  game_from start [] None at each follows first = refl
  game_from start (x ∷ plies) None at each follows first =
      absurd (let own = (each zero x refl).at in
      let from = ap (λ (z : ℕ × ℕ). position_at rules.groups z.1) (first x refl) in cc)
  game_from start plies (Some p) at each follows first =
      game_on plies p each follows
      (λ x e. ap (λ (z : ℕ × ℕ). position_at rules.groups z.1) (first x e) ∙ at)

  pub each_made : (start : ℕ) (s t : S) (plies : List LinePly) (end : End (ℕ × ℕ) Value R)
      → IsWay player 0 s (0, start) plies end t
      → ((x : LinePly) → Contains plies x → IsPlyOf player x)
      → (i : ℕ) (x : LinePly) → slice_get plies i ≡ Some x → IsMade x
  each_made start s t plies end way keeps i x e =
      let in_it = placed_is_contained plies i x e in
      let r = reader_moves (game_of rules value) (numbers_by rules.groups) side codes opponent s t
      (0, start) plies end way x in_it in
      record {
        keeps = keeps x in_it;
        position = r.0;
        move = r.1;
        at = r.2;
        legal = r.3;
        free = r.4;
      }

  -- by what holds of each ply of a way, and of those that follow each other
  pub way_is_game : (start : ℕ) (s t : S) (plies : List LinePly) (end : End (ℕ × ℕ) Value R)
      → IsWay player 0 s (0, start) plies end t
      → ((x : LinePly) → Contains plies x → IsPlyOf player x)
      → ((i : ℕ) (x y : LinePly) → slice_get plies i ≡ Some x → slice_get plies (suc i) ≡ Some y
      → x.arm.next ≡ Inside y.from)
      → ((x : LinePly) → slice_get plies 0 ≡ Some x → x.from ≡ (zero, start))
      → MatchOption (position_at rules.groups start) (plies ≡ []) (λ p. IsGame rules side p plies)
  way_is_game start s t plies end way keeps follows first =
      game_from start plies (position_at rules.groups start) refl
      (each_made start s t plies end way keeps) follows first

  -- the value at its exit is that of the position behind its plies
  pub exit_told : (start : ℕ) (s t : S) (plies : List LinePly) (v : Value) (p : Board)
      → position_at rules.groups start ≡ Some p
      → IsWay player 0 s (0, start) plies (Exit v) t
      → ((x : LinePly) → Contains plies x → IsPlyOf player x)
      → ((i : ℕ) (x y : LinePly) → slice_get plies i ≡ Some x → slice_get plies (suc i) ≡ Some y
      → x.arm.next ≡ Inside y.from)
      → ((x : LinePly) → slice_get plies 0 ≡ Some x → x.from ≡ (zero, start))
      → (x : LinePly) × ((i : ℕ) × (suc i ≡ length plies) × (slice_get plies i ≡ Some x))
      × (x.arm.next ≡ Outside v) → v ≡ value (after_plies p plies)
  exit_told start s t plies v p at way keeps follows first out =
      exit_on plies p v (each_made start s t plies (Exit v) way keeps) follows
      (λ x e. ap (λ (z : ℕ × ℕ). position_at rules.groups z.1) (first x e) ∙ at)
      out.0 out.1.0 out.1.1 out.1.2 out.2
