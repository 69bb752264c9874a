-- A line has no input that could stop it.
use Rattle.std.proofs.Common.{◌≡◌, ◌==◌, ◌&&◌, refl, subst, ℕ, suc, Bool, true, false, List, [], ◌∷◌, take, Option, Some, None, Err, inl, inr, if◌then◌else◌}
use Rattle.std.specs.Prelude.{MatchOption}
use Rattle.frz_board.specs.Boards.{Board}
use Rattle.frz_board.specs.Men.{same_colour}
use Rattle.frz_board.specs.Moving.{Step}
use Rattle.frz_board.specs.declared.man.Colour.{Colour}
use Rattle.frz_sets.specs.declared.exit.Value.{Value}
use Rattle.frz_arena.specs.declared.arm.Next.{Next}
use Rattle.frz_arena.specs.declared.arm.Next.TheVariants.{Inside, Outside}
use Rattle.frz_arena.specs.declared.node.Node.{Node}
use Rattle.frz_arena.specs.declared.node.Node.TheVariants.{Broken, Mate, Stalemate, Going}
use Rattle.frz_arena.specs.Arena.{Arena}
use Rattle.frz_arena.specs.Codes.{is_failure}
use Rattle.frz_arena.specs.LocalCodes.{local_code}
use Rattle.frz_arena.specs.Plies.{LeadsTo}
use Rattle.frz_arena.specs.WayEnds.{Wrong, NoBound, Mated, Stalemated, Exit, Cut, Stopped}
use Rattle.frz_arena.specs.Ways.{Stage as Due, Over, Moves, is_cut, stage as due_at, stage_of, IsStopBy, IsWay}
use Rattle.frz_journeys.specs.Links.{Link}
use Rattle.frz_ways.specs.declared.opponent.Opponent.TheVariants.{Codes}
use Rattle.frz_ways.specs.declared.session_end.PlayFault.TheVariants as plays
use Rattle.frz_ways.specs.declared.session_end.PlayLimit.{PlayLimit}
use Rattle.frz_ways.specs.ChessGames.{after_plies}
use Rattle.frz_ways.specs.Reading.{Halt, Input}
use Rattle.frz_ways.specs.WayEnds.{told}
use Rattle.frz_ways.specs.Ways.{EndOfWay, WayPly, way_player}
use Rattle.frz_journeys.specs.declared.place.Place.{Place}
use Rattle.frz_journeys.specs.declared.place.Place.TheVariants.{Behind}
use Rattle.frz_journeys.specs.Arrivals.{Arrives}
use Rattle.frz_journeys.specs.Journeys.{Stage, IsJourney, onward}
use Rattle.frz_journeys.specs.Tables.{arena_over, codes_of}

module _ (arena : Arena Step ℕ Value) (side : Colour) (codes : ℕ → List ℕ) (halt : Halt) where
  by_cut : (cut : Bool) (mover : Colour)
      → ◌≡◌ {A = Due (ℕ × ℕ) Value Halt} (if cut then Over Cut else Moves mover)
      (Over (Stopped halt)) → ⊥
  by_cut true mover e = cc
  by_cut false mover e = cc

  by_node : (k : ℕ) (p : ℕ × ℕ) (node : Node)
      → stage_of (way_player arena Codes side codes) k p node ≡ Over (Stopped halt) → ⊥
  by_node k p Broken e = cc
  by_node k p (Mate mover) e = cc
  by_node k p (Stalemate mover) e = cc
  by_node k p (Going mover) e =
      let player = way_player arena Codes side codes in
      by_cut (is_cut player.opponent k (player.entry p)) mover e

  by_tests : (agrees starts : Bool) (k : ℕ) (p : ℕ × ℕ) (kept given : ℕ) (node : Node)
      → (if agrees then
      (if starts then Over NoBound else stage_of (way_player arena Codes side codes) k p node)
      else Over (Wrong p kept given)) ≡ Over (Stopped halt) → ⊥
  by_tests true true k p kept given node e = cc
  by_tests true false k p kept given node e = by_node k p node e
  by_tests false starts k p kept given node e = cc

  stage_goes : (k : ℕ) (p : ℕ × ℕ)
      → due_at (way_player arena Codes side codes) k p ≡ Over (Stopped halt) → ⊥
  stage_goes k p e =
      let player = way_player arena Codes side codes in
      let given = local_code player.arena side player.entry p in
      by_tests (player.entry p == given) ((k == 0) && is_failure (player.entry p)) k p
      (player.entry p) given (player.arena.node p) e

  no_stop : (own : Bool) (s : Input) (p : ℕ × ℕ) (t : Input)
      → IsStopBy {N = ℕ × ℕ} {V = Value} own (way_player arena Codes side codes).opponent s p
      (Stopped halt) t → ⊥
  no_stop true s p t h = h
  no_stop false s p t h = h

  next_goes : (next : Next (ℕ × ℕ) Value) (P : ℕ × ℕ → Type 0) (plies : List WayPly)
      (left t : Input) → ((q : ℕ × ℕ) → P q → ⊥)
      → LeadsTo P
      (λ v. (plies ≡ []) × (◌≡◌ {A = EndOfWay} (Stopped halt) (Exit v)) × (t ≡ left)) next → ⊥
  next_goes (Inside q) P plies left t again w = again q w
  next_goes (Outside v) P plies left t again w = let e = w.1 in cc

  way_goes : (k : ℕ) (s : Input) (p : ℕ × ℕ) (plies : List WayPly) (t : Input)
      → IsWay (way_player arena Codes side codes) k s p plies (Stopped halt) t → ⊥
  way_goes k s p [] t (inl h) = stage_goes k p h.0
  way_goes k s p [] t (inr h) = no_stop (same_colour h.0 side) s p t h.2
  way_goes k s p (x ∷ plies) t h =
      next_goes x.arm.next
      (λ q. IsWay (way_player arena Codes side codes) (suc k) h.2.0 q plies (Stopped halt) t) plies
      h.2.0 t (λ q w. way_goes (suc k) h.2.0 q plies t w) h.2.2

-- what is told at an end that is no stop is no limit
no_limit : (side : Colour) (limit : PlayLimit) (end : EndOfWay)
    → ((halt : Halt) → end ≡ Stopped halt → ⊥) → Err (plays.Limit limit) ≡ told side end → ⊥
no_limit side limit (Wrong at kept given) never e = cc
no_limit side limit NoBound never e = cc
no_limit side limit (Mated mover) never e = cc
no_limit side limit (Stalemated mover) never e = cc
no_limit side limit (Exit v) never e = cc
no_limit side limit Cut never e = cc
no_limit side limit (Stopped halt) never e = never halt refl

module _ (side : Colour) (limit : PlayLimit) where
  abbrev Follows : List Link → Stage → Board → Input → List Stage → Input → Option (ℕ × Link) → Type 0
  Follows before stage start mid stages left next =
      MatchOption next ((stages ≡ []) × (left ≡ mid))
      (λ n. IsJourney Codes side (take n.0 before) n.1 (Behind n.0)
      (after_plies start stage.plies) mid stages left)

  later_limited : (before : List Link) (stage : Stage) (start : Board) (mid : Input)
      (stages : List Stage) (left : Input) → (stages ≡ [] → ⊥) → (next : Option (ℕ × Link))
      → ((n : ℕ × Link) → IsJourney Codes side (take n.0 before) n.1 (Behind n.0)
      (after_plies start stage.plies) mid stages left → ⊥)
      → Follows before stage start mid stages left next → ⊥
  later_limited before stage start mid stages left some None later h = some h.0
  later_limited before stage start mid stages left some (Some n) later h = later n h

  -- a line arrives at no limit
  pub never_limited : (before : List Link) (table : Link) (place : Place) (start : Board)
      (input : Input) (stages : List Stage) (left : Input)
      → IsJourney Codes side before table place start input stages left → (at : Place)
      → Arrives side stages at (Err (plays.Limit limit)) → ⊥
  never_limited before table place start input [] left j at h = h
  never_limited before table place start input (stage ∷ []) left j at h =
      no_limit side limit stage.end
      (λ halt e. way_goes (arena_over before table) side (λ k. codes_of side table) halt 0 input
      (0, stage.number) stage.plies j.0
      (subst (λ (end : EndOfWay). IsWay
      (way_player (arena_over before table) Codes side (λ k. codes_of side table)) 0 input
      (0, stage.number) stage.plies end j.0) e j.1.way)) h.1
  never_limited before table place start input (stage ∷ next ∷ stages) left j at h =
      later_limited before stage start j.0 (next ∷ stages) left (λ e. cc)
      (onward before table start stage.plies stage.end)
      (λ n k. never_limited (take n.0 before) n.1 (Behind n.0) (after_plies start stage.plies) j.0
      (next ∷ stages) left k at h)
      j.2
