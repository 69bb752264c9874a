-- How the line by a side's table ends.
use Rattle.std.proofs.Common.{◌≡◌, ◌+◌, ◌*◌, ℕ, suc, inl, inr, Bool, true, false, List, [], ◌∷◌, refl, sym, subst, ap, ◌∙◌, length}
use Rattle.std.specs.Prelude.{slice_index}
use Rattle.frz_board.specs.declared.man.Colour.{Colour}
use Rattle.frz_board.specs.Boards.{Board}
use Rattle.frz_board.specs.Men.{same_colour}
use Rattle.frz_board.specs.Moving.{Step}
use Rattle.frz_sets.specs.declared.exit.Value.{Value}
use Rattle.frz_sets.specs.Views.{RuleLines}
use Rattle.frz_arena.specs.declared.arm.Next.{Next}
use Rattle.frz_arena.specs.declared.arm.Next.TheVariants.{Inside, Outside}
use Rattle.frz_arena.specs.declared.bound.Bound.{Bound}
use Rattle.frz_arena.specs.declared.bound.Bound.TheVariants.{Wins, Holds, Fails}
use Rattle.frz_arena.specs.Arena.{Arena}
use Rattle.frz_arena.specs.Codes.{code_of}
use Rattle.frz_arena.specs.Counted.{counted}
use Rattle.frz_arena.specs.Plies.{LeadsTo}
use Rattle.frz_arena.specs.WayEnds.{Wrong, NoBound, Mated, Stalemated, Exit, Cut, Stopped, EndsWon, EndsDrawn}
use Rattle.frz_arena.specs.Ways.{ByCodes, Over, IsStopBy, IsWay, stage}
use Rattle.frz_arena.proofs.Lemmas.{StageIs, as_failure, stage_is}
use Rattle.frz_exits.specs.Values.{lag_of}
use Rattle.frz_game.specs.Games.{graph_by}
use Rattle.frz_ways.specs.declared.end.TheConstants.{LINE_LIMIT}
use Rattle.frz_ways.specs.declared.opponent.Opponent.TheVariants.{Codes}
use Rattle.frz_ways.specs.Reading.{Input, Halt}
use Rattle.frz_ways.specs.Ways.{WayPly, EndOfWay, GoesOn, way_player}
use Rattle.library_example.specs.Lines.{EndsBy}

module _ (rules : RuleLines) (value : Board → Value) (side : Colour) (codes : List ℕ) where
  abbrev arena : Arena Step ℕ Value
  arena = graph_by rules value

  not_stopped_here : (k : ℕ) (q : ℕ × ℕ) (halt : Halt)
      → stage (way_player arena Codes side (λ n. codes)) k q ≡ Over (Stopped halt) → ⊥
  not_stopped_here k q halt e =
      elim (stage_is (way_player arena Codes side (λ n. codes)) k q) [
        | StageIs.wrong n is ↦ cc
        | StageIs.fails a f is ↦ cc
        | StageIs.broken s b is ↦ cc
        | StageIs.mated s m b is ↦ cc
        | StageIs.stale s m b is ↦ cc
        | StageIs.cut s m b c is ↦ cc
        | StageIs.moves s m b c is ↦ cc
      ]

  not_stopped_by : (own : Bool) (s t : Input) (q : ℕ × ℕ) (end : EndOfWay)
      → IsStopBy own (ByCodes LINE_LIMIT) s q end t → ⊥
  not_stopped_by true s t q end h = h
  not_stopped_by false s t q end h = h

  not_stopped_behind : (k : ℕ) (u t : Input) (plies : List WayPly) (end : EndOfWay) (halt : Halt)
      → end ≡ Stopped halt
      → ((q : ℕ × ℕ) → IsWay (way_player arena Codes side (λ n. codes)) (suc k) u q plies end t → ⊥)
      → (next : Next (ℕ × ℕ) Value)
      → LeadsTo (λ q. IsWay (way_player arena Codes side (λ n. codes)) (suc k) u q plies end t)
      (λ v. (plies ≡ []) × (end ≡ Exit v) × (t ≡ u)) next → ⊥
  not_stopped_behind k u t plies end halt is on (Inside q) h = on q h
  not_stopped_behind k u t plies end halt is on (Outside v) h = (let e = h.1 in cc)

  -- the codes find each ply, so no input stops a line
  never_stopped : (k : ℕ) (s t : Input) (q : ℕ × ℕ) (plies : List WayPly) (end : EndOfWay)
      (halt : Halt) → end ≡ Stopped halt
      → IsWay (way_player arena Codes side (λ n. codes)) k s q plies end t → ⊥
  never_stopped k s t q [] end halt is (inl w) = not_stopped_here k q halt (w.0 ∙ ap Over is)
  never_stopped k s t q [] end halt is (inr w) =
      not_stopped_by (same_colour w.0 side) s t q end w.2
  never_stopped k s t q (x ∷ plies) end halt is w =
      not_stopped_behind k w.2.0 t plies end halt is
      (λ p h. never_stopped (suc k) w.2.0 t p plies end halt is h) x.arm.next w.2.2

  over_at_start : (s t : Input) (start : ℕ) (plies : List WayPly) (end over : EndOfWay)
      → stage (way_player arena Codes side (λ n. codes)) 0 (0, start) ≡ Over over
      → GoesOn arena Codes side (λ n. codes) 0 s start plies end t → (plies ≡ []) × (end ≡ over)
  over_at_start s t start [] end over is (inl w) = (refl, (let e = w.0 in cc))
  over_at_start s t start [] end over is (inr w) = absurd (let e = w.1 in cc)
  over_at_start s t start (x ∷ plies) end over is w = absurd (let e = w.1 in cc)

  -- from a failure no line is played
  ends_failing : (m start : ℕ) (s t : Input) (plies : List WayPly) (end : EndOfWay)
      → slice_index codes start ≡ code_of (Fails m)
      → ((at : ℕ × ℕ) (kept given : ℕ) → end ≡ Wrong at kept given → ⊥)
      → GoesOn arena Codes side (λ n. codes) 0 s start plies end t
      → EndsBy side (Fails m) (length plies) end
  ends_failing m start s t plies end code right w =
      let failing = (as_failure (slice_index codes start) m code).0 in
      elim (stage_is (way_player arena Codes side (λ n. codes)) 0 (0, start)) [
        | StageIs.wrong n is ↦ absurd (right _ _ _ (over_at_start s t start plies end _ is w).1)
        | StageIs.fails a f is ↦ (let over = over_at_start s t start plies end _ is w in
            subst (λ (e : EndOfWay). EndsBy side (Fails m) (length plies) e) (sym over.1)
            (ap length over.0))
        | StageIs.broken sound b is ↦ absurd (let no = sound.starts in cc)
        | StageIs.mated sound m b is ↦ absurd (let no = sound.starts in cc)
        | StageIs.stale sound m b is ↦ absurd (let no = sound.starts in cc)
        | StageIs.cut sound m b c is ↦ absurd (let no = sound.starts in cc)
        | StageIs.moves sound m b c is ↦ absurd (let no = sound.starts in cc)
      ]

  ends_won : (n plies : ℕ) (end : EndOfWay) → EndsWon (counted arena) side end
      → ((mover : Colour) → end ≡ Mated mover → plies ≡ n)
      → ((v : Value) → end ≡ Exit v → plies + lag_of v ≡ n)
      → ((at : ℕ × ℕ) (kept given : ℕ) → end ≡ Wrong at kept given → ⊥)
      → ((halt : Halt) → end ≡ Stopped halt → ⊥) → EndsBy side (Wins n) plies end
  ends_won n plies (Wrong at kept given) won mate exit right goes =
      absurd (right at kept given refl)
  ends_won n plies NoBound won mate exit right goes = absurd won
  ends_won n plies (Mated mover) won mate exit right goes = (won, mate mover refl)
  ends_won n plies (Stalemated mover) won mate exit right goes = absurd won
  ends_won n plies (Exit v) won mate exit right goes = (won, exit v refl)
  ends_won n plies Cut won mate exit right goes = absurd won
  ends_won n plies (Stopped halt) won mate exit right goes = absurd (goes halt refl)

  ends_drawn : (plies : ℕ) (end : EndOfWay) → EndsDrawn (counted arena) side end
      → (end ≡ Cut → plies ≡ LINE_LIMIT)
      → ((at : ℕ × ℕ) (kept given : ℕ) → end ≡ Wrong at kept given → ⊥)
      → EndsBy side Holds plies end
  ends_drawn plies (Wrong at kept given) drawn cut right = absurd (right at kept given refl)
  ends_drawn plies NoBound drawn cut right = absurd drawn
  ends_drawn plies (Mated mover) drawn cut right = absurd drawn
  ends_drawn plies (Stalemated mover) drawn cut right = tt
  ends_drawn plies (Exit v) drawn cut right = drawn
  ends_drawn plies Cut drawn cut right = cut refl
  ends_drawn plies (Stopped halt) drawn cut right = absurd drawn

  -- by the side's bound at the start, and what the laws of ways say there
  pub ends_by : (bound : Bound) (start : ℕ) (s t : Input) (plies : List WayPly) (end : EndOfWay)
      → slice_index codes start ≡ code_of bound
      → ((at : ℕ × ℕ) (kept given : ℕ) → end ≡ Wrong at kept given → ⊥)
      → GoesOn arena Codes side (λ n. codes) 0 s start plies end t
      → ((n : ℕ) → slice_index codes start ≡ 2 + 2 * n → EndsWon (counted arena) side end
      × ((mover : Colour) → end ≡ Mated mover → length plies ≡ n)
      × ((v : Value) → end ≡ Exit v → length plies + lag_of v ≡ n))
      → (slice_index codes start ≡ 1 → EndsDrawn (counted arena) side end
      × (end ≡ Cut → length plies ≡ LINE_LIMIT)) → EndsBy side bound (length plies) end
  ends_by (Wins n) start s t plies end code right w wins holds =
      let won = wins n code in
      ends_won n (length plies) end won.0 won.1 won.2 right
      (λ halt e. never_stopped 0 s t (0, start) plies end halt e w)
  ends_by Holds start s t plies end code right w wins holds =
      let held = holds code in
      ends_drawn (length plies) end held.0 held.1 right
  ends_by (Fails m) start s t plies end code right w wins holds =
      ends_failing m start s t plies end code right w
