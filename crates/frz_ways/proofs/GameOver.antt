-- How chess stands where a way over the numbers of a set is over.
use Rattle.std.proofs.Common.{◌≡◌, ℕ, suc, zero, inl, inr, Bool, true, false, List, [], ◌∷◌, Some, refl, sym, subst, ap, ◌∙◌}
use Rattle.std.specs.Prelude.{slice_get}
use Rattle.std.specs.List.{Contains}
use Rattle.frz_board.specs.declared.man.Colour.{Colour}
use Rattle.frz_board.specs.Attacks.{is_in_check}
use Rattle.frz_board.specs.Boards.{Board}
use Rattle.frz_board.specs.Men.{same_colour}
use Rattle.frz_board.specs.Moving.{Step}
use Rattle.frz_fide.specs.Legal.{after}
use Rattle.frz_fide.specs.Listing.{legal_moves_of}
use Rattle.frz_sets.specs.declared.exit.Value.{Value}
use Rattle.frz_sets.specs.Views.{GroupLine, RuleLines}
use Rattle.frz_index.specs.Members.{Member}
use Rattle.frz_index.proofs.Lemmas.{of_member}
use Rattle.frz_arena.specs.declared.arm.Arm.{Arm}
use Rattle.frz_arena.specs.declared.arm.Next.{Next}
use Rattle.frz_arena.specs.declared.arm.Next.TheVariants.{Inside, Outside}
use Rattle.frz_arena.specs.declared.node.Node.TheVariants.{Mate, Stalemate}
use Rattle.frz_arena.specs.Counted.{after as later}
use Rattle.frz_arena.specs.Games.{next_by, node_by}
use Rattle.frz_arena.specs.Names.{named, named_next, name_in, node_at}
use Rattle.frz_arena.specs.Plies.{LeadsTo}
use Rattle.frz_arena.specs.WayEnds.{Wrong, NoBound, Mated, Stalemated, Exit, Cut, Stopped}
use Rattle.frz_arena.specs.Ways.{Opponent as Finder, ByCodes, ByInput, Over, IsPlyOf, IsStopBy, IsWay, stage}
use Rattle.frz_arena.proofs.Lemmas.{StageIs, stage_is}
use Rattle.frz_game.specs.Games.{arena_by, arm_at}
use Rattle.frz_game.specs.Numbers.{is_member, numbers_by, position_at}
use Rattle.frz_ways.specs.ChessGames.{after_plies}
use Rattle.frz_ways.specs.EndsOfGames.{StandsAt}
use Rattle.frz_ways.specs.Reading.{Input, Halt}
use Rattle.frz_ways.specs.Ways.{EndOfWay}
use Rattle.frz_ways.specs.Lines.{LinePly}
use Rattle.frz_ways.proofs.GamesOfChess.{IsMade, arm_made, each_made, move_made, next_from, player, value_from}

-- what a node says of the moves, the check and the turn
mated_there : (b : Bool) (ms : List Step) (check : Bool) (turn mover : Colour)
    → node_by b ms check turn ≡ Mate mover → (turn ≡ mover) × ((ms ≡ []) × (check ≡ true))
mated_there false ms check turn mover e = absurd (cc)
mated_there true (m ∷ ms) check turn mover e = absurd (cc)
mated_there true [] true turn mover e = (cc, (refl, refl))
mated_there true [] false turn mover e = absurd (cc)

stalemated_there : (b : Bool) (ms : List Step) (check : Bool) (turn mover : Colour)
    → node_by b ms check turn ≡ Stalemate mover
    → (turn ≡ mover) × ((ms ≡ []) × (check ≡ false))
stalemated_there false ms check turn mover e = absurd (cc)
stalemated_there true (m ∷ ms) check turn mover e = absurd (cc)
stalemated_there true [] true turn mover e = absurd (cc)
stalemated_there true [] false turn mover e = (cc, (refl, refl))

-- a move that leads outside leaves the set
leaves_set : (groups : List GroupLine) (k : ℕ) (q : Board) (w v : Value)
    → named_next (later k) (named_next (name_in (numbers_by groups))
    (next_by (is_member groups q) q w)) ≡ Outside v → Member groups q → ⊥
leaves_set groups k q w v e member =
    let leads : named_next (later k) (named_next (name_in (numbers_by groups))
    (next_by true q w)) ≡ Outside v =
    subst (λ b. named_next (later k) (named_next (name_in (numbers_by groups))
    (next_by b q w)) ≡ Outside v) (of_member groups q member) e in cc

module _ (rules : RuleLines) (value : Board → Value) (side : Colour) (codes : ℕ → List ℕ)
    (opponent : Finder (ℕ × ℕ) Input Halt) where
  outside_made : (p : Board) (x : LinePly) (m : Step) (v : Value)
      → x.arm ≡ named (later (suc x.from.0)) (arm_at rules value p m) → x.arm.next ≡ Outside v
      → Member rules.groups (after p m) → ⊥
  unfolding arm_at
  outside_made p x m v e leads =
      leaves_set rules.groups (suc x.from.0) (after p m) (value (after p m)) v
      (sym (ap (λ (a : Arm Step (ℕ × ℕ) Value). a.next) e) ∙ leads)

  made_move : (p : Board) (x : LinePly) (m : Step)
      → x.arm ≡ named (later (suc x.from.0)) (arm_at rules value p m) → x.arm.mv ≡ m
  unfolding arm_at
  made_move p x m e = ap (λ (a : Arm Step (ℕ × ℕ) Value). a.mv) e

  -- the set does not have the position to which a ply leads that leaves it
  outside_from : (p : Board) (x : LinePly) (v : Value) → position_at rules.groups x.from.1 ≡ Some p
      → IsMade rules value side codes opponent x → x.arm.next ≡ Outside v
      → Member rules.groups (after p x.arm.mv) → ⊥
  outside_from p x v here made leads member =
      let there = move_made rules value side codes opponent p x here made in
      let arm = arm_made rules value side codes opponent p x made.move here there.1 made.keeps in
      outside_made p x made.move v arm leads
      (subst (λ m. Member rules.groups (after p m)) (made_move p x made.move arm) member)

  over_at : (k : ℕ) (at : ℕ × ℕ) (q : Board) (end : EndOfWay)
      → position_at rules.groups at.1 ≡ Some q
      → stage (player rules value side codes opponent) k at ≡ Over end
      → StandsAt rules value q end
  over_at k at q (Wrong w kept given) here e = tt
  over_at k at q NoBound here e = tt
  over_at k at q Cut here e = tt
  over_at k at q (Stopped halt) here e = tt
  over_at k at q (Mated mover) here e =
      elim (stage_is (player rules value side codes opponent) k at) [
        | StageIs.wrong n is ↦ absurd (cc)
        | StageIs.fails a f is ↦ absurd (cc)
        | StageIs.broken s b is ↦ absurd (cc)
        | StageIs.mated s m b is ↦ (let same : m ≡ mover = cc in
            mated_there (is_member rules.groups q) (legal_moves_of q) (is_in_check q q.turn) q.turn
            mover (sym (ap (node_at (arena_by rules value)) here) ∙ (b ∙ ap Mate same)))
        | StageIs.stale s m b is ↦ absurd (cc)
        | StageIs.cut s m b c is ↦ absurd (cc)
        | StageIs.moves s m b c is ↦ absurd (cc)
      ]
  over_at k at q (Stalemated mover) here e =
      elim (stage_is (player rules value side codes opponent) k at) [
        | StageIs.wrong n is ↦ absurd (cc)
        | StageIs.fails a f is ↦ absurd (cc)
        | StageIs.broken s b is ↦ absurd (cc)
        | StageIs.mated s m b is ↦ absurd (cc)
        | StageIs.stale s m b is ↦ (let same : m ≡ mover = cc in
            stalemated_there (is_member rules.groups q) (legal_moves_of q) (is_in_check q q.turn)
            q.turn mover (sym (ap (node_at (arena_by rules value)) here) ∙ (b ∙ ap Stalemate same)))
        | StageIs.cut s m b c is ↦ absurd (cc)
        | StageIs.moves s m b c is ↦ absurd (cc)
      ]
  over_at k at q (Exit v) here e =
      elim (stage_is (player rules value side codes opponent) k at) [
        | StageIs.wrong n is ↦ absurd (cc)
        | StageIs.fails a f is ↦ absurd (cc)
        | StageIs.broken s b is ↦ absurd (cc)
        | StageIs.mated s m b is ↦ absurd (cc)
        | StageIs.stale s m b is ↦ absurd (cc)
        | StageIs.cut s m b c is ↦ absurd (cc)
        | StageIs.moves s m b c is ↦ absurd (cc)
      ]

  -- an input that stops says nothing of the position
  stopped_at : (own : Bool) (o : Finder (ℕ × ℕ) Input Halt) (s t : Input) (at : ℕ × ℕ) (q : Board)
      (end : EndOfWay) → IsStopBy own o s at end t → StandsAt rules value q end
  stopped_at true o s t at q end h = absurd h
  stopped_at false (ByCodes most) s t at q end h = absurd h
  stopped_at false (ByInput read) s t at q end h =
      subst (λ (e : EndOfWay). StandsAt rules value q e) (sym h.1) tt

  stands_behind : (k : ℕ) (u t : Input) (q : Board) (x : LinePly) (plies : List LinePly)
      (end : EndOfWay) → position_at rules.groups x.from.1 ≡ Some q
      → IsMade rules value side codes opponent x
      → ((to : ℕ × ℕ) → position_at rules.groups to.1 ≡ Some (after q x.arm.mv)
      → IsWay (player rules value side codes opponent) (suc k) u to plies end t
      → StandsAt rules value (after_plies (after q x.arm.mv) plies) end)
      → (next : Next (ℕ × ℕ) Value) → x.arm.next ≡ next
      → LeadsTo (λ to. IsWay (player rules value side codes opponent) (suc k) u to plies end t)
      (λ v. (plies ≡ []) × (end ≡ Exit v) × (t ≡ u)) next
      → StandsAt rules value (after_plies (after q x.arm.mv) plies) end
  stands_behind k u t q x plies end here made on (Inside to) leads way =
      on to (next_from rules value side codes opponent q x to here made leads) way
  stands_behind k u t q x plies end here made on (Outside v) leads way =
      subst (λ (e : EndOfWay). StandsAt rules value (after_plies (after q x.arm.mv) plies) e)
      (sym way.1)
      (subst (λ (l : List LinePly). StandsAt rules value (after_plies (after q x.arm.mv) l) (Exit v))
      (sym way.0) (
        outside_from q x v here made leads,
        value_from rules value side codes opponent q x v here made leads,
      ))

  stands_on : (plies : List LinePly) (k : ℕ) (s t : Input) (at : ℕ × ℕ) (q : Board)
      (end : EndOfWay) → position_at rules.groups at.1 ≡ Some q
      → ((i : ℕ) (x : LinePly) → slice_get plies i ≡ Some x
      → IsMade rules value side codes opponent x)
      → IsWay (player rules value side codes opponent) k s at plies end t
      → StandsAt rules value (after_plies q plies) end
  stands_on [] k s t at q end here made (inl w) = over_at k at q end here w.0
  stands_on [] k s t at q end here made (inr w) =
      stopped_at (same_colour w.0 side) opponent s t at q end w.2
  stands_on (x ∷ plies) k s t at q end here made w =
      stands_behind k w.2.0 t q x plies end
      (ap (λ (z : ℕ × ℕ). position_at rules.groups z.1) w.0 ∙ here) (made zero x refl)
      (λ to there way. stands_on plies (suc k) w.2.0 t to (after q x.arm.mv) end there
      (λ i y e. made (suc i) y e) way) x.arm.next refl w.2.2

  pub stands_at_end : (start : ℕ) (s t : Input) (plies : List LinePly) (end : EndOfWay) (p : Board)
      → position_at rules.groups start ≡ Some p
      → IsWay (player rules value side codes opponent) 0 s (0, start) plies end t
      → ((x : LinePly) → Contains plies x → IsPlyOf (player rules value side codes opponent) x)
      → StandsAt rules value (after_plies p plies) end
  stands_at_end start s t plies end p here way keeps =
      stands_on plies 0 s t (0, start) p end here
      (each_made rules value side codes opponent start s t plies end way keeps) way
