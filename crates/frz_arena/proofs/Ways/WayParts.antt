-- The parts of a way: how it ends where no ply is left, and its first ply.
use Rattle.std.proofs.Common.{◌≡◌, ◌==◌, ◌||◌, ℕ, ◌⊎◌, inl, inr, Bool, true, false, [], Some, refl, sym, ap, ◌∙◌, arith}
use Rattle.frz_board.proofs.Lemmas.{other_differs}
use Rattle.std.specs.Prelude.{slice_get, nat_le}
use Rattle.std.proofs.lemmas.Bool.{and_parts, eqb-true}
use Rattle.frz_board.specs.declared.man.Colour.{Colour}
use Rattle.frz_board.specs.Men.{other_of, same_colour}
use Rattle.frz_arena.specs.declared.node.Node.TheVariants.{Broken, Mate, Stalemate, Going}
use Rattle.frz_arena.specs.Codes.{is_win, is_failure}
use Rattle.frz_arena.specs.LocalCodes.{arm_code, local_code}
use Rattle.frz_arena.specs.Chosen.{IsChosen}
use Rattle.frz_arena.specs.WayEnds.{End, Wrong, NoBound, Mated, Stalemated, Cut, Stopped}
use Rattle.frz_arena.specs.Ways.{Player, Ply, Over, Moves, Opponent, ByCodes, ByInput, is_cut, is_line, is_by_codes, IsTakenBy, IsStopBy, IsPlyOf, stage, IsWay}
use Rattle.frz_arena.proofs.Ways.Stages as stages
use Rattle.frz_arena.proofs.Ways.Stages.{IsSound, stage_is}
use Rattle.frz_arena.proofs.Ways.FoundArms.{mover_is, itself, another, chosen_is_at, chosen_free, chosen_win, chosen_hold, any_win, any_hold, small_is_no_failure}

-- a way with no more plies, by its end
pub data EndedAt {M N V S R : Type 0} (player : Player M N V S R) (plies : ℕ) (p : N)
    (end : End N V R) : Type 0 where
  wrong : (player.entry p ≡ local_code player.arena player.side player.entry p → ⊥) →
      end ≡ Wrong p (player.entry p) (local_code player.arena player.side player.entry p) →
      EndedAt player plies p end
  fails : player.entry p ≡ local_code player.arena player.side player.entry p →
      is_failure (player.entry p) ≡ true → end ≡ NoBound → EndedAt player plies p end
  broken : IsSound player plies p → player.arena.node p ≡ Broken →
      end ≡ Wrong p (player.entry p) 0 → EndedAt player plies p end
  mated : IsSound player plies p → (mover : Colour) → player.arena.node p ≡ Mate mover →
      end ≡ Mated mover → EndedAt player plies p end
  stale : IsSound player plies p → (mover : Colour) → player.arena.node p ≡ Stalemate mover →
      end ≡ Stalemated mover → EndedAt player plies p end
  cut : IsSound player plies p → is_cut player.opponent plies (player.entry p) ≡ true → end ≡ Cut →
      EndedAt player plies p end
  stopped : is_line player.opponent ≡ false → (reason : R) → end ≡ Stopped reason →
      EndedAt player plies p end

over_is : {M N V S R : Type 0} (player : Player M N V S R) (plies : ℕ) (p : N) (end : End N V R) →
    stage player plies p ≡ Over end → EndedAt player plies p end
over_is player plies p end o =
    elim (stage_is player plies p) [
      | stages.wrong n e ↦ wrong n (cc)
      | stages.fails a f e ↦ fails a f (cc)
      | stages.broken s b e ↦ broken s b (cc)
      | stages.mated s m b e ↦ mated s m b (cc)
      | stages.stale s m b e ↦ stale s m b (cc)
      | stages.cut s m b t e ↦ cut s t (cc)
      | stages.moves s m b t e ↦ absurd (cc)
    ]

stop_is : {N V S R : Type 0} (own : Bool) (opponent : Opponent N S R) (s t : S) (p : N)
    (end : End N V R) → IsStopBy {V = V} own opponent s p end t → (is_line opponent ≡ false)
    × ((reason : R) × (end ≡ Stopped reason))
stop_is true opponent s t p end h = absurd h
stop_is false (ByCodes most) s t p end h = absurd h
stop_is false (ByInput read) s t p end h = (refl, (h.0, h.1))

pub ended : {M N V S R : Type 0} (player : Player M N V S R) (plies : ℕ) (s t : S) (p : N)
    (end : End N V R) → IsWay player plies s p [] end t → EndedAt player plies p end
ended player plies s t p end (inl h) = over_is player plies p end h.0
ended player plies s t p end (inr h) =
    let r = stop_is (same_colour h.0 player.side) player.opponent s t p end h.2 in
    stopped r.0 r.1.0 r.1.1

-- where a ply is due
pub moving : {M N V S R : Type 0} (player : Player M N V S R) (plies : ℕ) (p : N) (mover : Colour) →
    stage player plies p ≡ Moves mover →
    IsSound player plies p × (player.arena.node p ≡ Going mover)
    × (is_cut player.opponent plies (player.entry p) ≡ false)
moving {M} {N} {V} {S} {R} player plies p mover o =
    elim (stage_is player plies p) [
      | stages.wrong n e ↦ absurd (cc)
      | stages.fails a f e ↦ absurd (cc)
      | stages.broken s b e ↦ absurd (cc)
      | stages.mated s m b e ↦ absurd (cc)
      | stages.stale s m b e ↦ absurd (cc)
      | stages.cut s m b t e ↦ absurd (cc)
      | stages.moves s m b t e ↦ (let f : m ≡ mover = cc in (s, b ∙ ap Going f, t))
    ]

-- a cut is at a hold, in a line, after its plies
pub cut_is : {N S R : Type 0} (opponent : Opponent N S R) (plies c : ℕ) →
    is_cut opponent plies c ≡ true → (c ≡ 1) × (is_line opponent ≡ true)
cut_is (ByCodes most) plies c h =
    (eqb-true c 1 ((and_parts (c == 1) (nat_le most plies) h).0), refl)
cut_is (ByInput read) plies c h = absurd (cc)

-- the ply is by the codes, or the opponent's own choice
taken_by : {M N V S R : Type 0} (player : Player M N V S R) (own : Bool) (opponent : Opponent N S R)
    (s t : S) (x : Ply M N V) → IsTakenBy player own opponent s x t
    → IsChosen player.arena player.side player.entry x.mover x.from x.place x.arm
    ⊎ ((own ≡ false) × (is_line opponent ≡ false)
    × (slice_get (player.arena.arms x.from) x.place ≡ Some x.arm))
taken_by player true opponent s t x h = inl h.0
taken_by player false (ByCodes most) s t x h = inl h.0
taken_by player false (ByInput read) s t x h = inr (refl, refl, h.0)

-- the arm of a ply is there
pub arm_there : {M N V S R : Type 0} (player : Player M N V S R) (own : Bool)
    (opponent : Opponent N S R) (s t : S) (x : Ply M N V) → IsTakenBy player own opponent s x t
    → slice_get (player.arena.arms x.from) x.place ≡ Some x.arm
arm_there player own opponent s t x h =
    elim (taken_by player own opponent s t x h) [
      | inl c ↦ chosen_is_at player.arena player.side player.entry x.mover x.from x.place x.arm c
      | inr o ↦ o.2
    ]

same_of : (side mover : Colour) → mover ≡ side → same_colour mover side ≡ true
same_of side mover e =
    elim (mover_is side mover) [
      | itself m s ↦ s
      | another m s ↦ absurd (let f : other_of side ≡ side = sym m ∙ e in other_differs side f)
    ]

other_when : (side mover : Colour) → same_colour mover side ≡ false → mover ≡ other_of side
other_when side mover f = elim (mover_is side mover) [ itself m s ↦ absurd (cc) | another m s ↦ m ]

neither_of : (a b : Bool) → a ≡ false → b ≡ false → (a || b) ≡ true → ⊥
neither_of true b e f h = cc
neither_of false b e f h = cc

-- what a ply keeps
pub ply_of : {M N V S R : Type 0} (player : Player M N V S R) (s t : S) (x : Ply M N V) →
    player.entry x.from ≡ local_code player.arena player.side player.entry x.from →
    player.arena.node x.from ≡ Going x.mover →
    (is_win (player.entry x.from) ≡ true) ⊎ (player.entry x.from ≡ 1) →
    IsTakenBy player (same_colour x.mover player.side) player.opponent s x t → IsPlyOf player x
ply_of player s t x k e stands h =
    elim (taken_by player (same_colour x.mover player.side) player.opponent s t x h) [
      | inl c ↦ (
          let win = chosen_win player.arena player.side player.entry x.mover x.from x.place x.arm c
          e k in
          let holds = chosen_hold player.arena player.side player.entry x.mover x.from x.place x.arm
          c in
          record {
            agrees = k;
            stands = stands;
            goes_on = e;
            there = chosen_is_at player.arena player.side player.entry x.mover x.from x.place x.arm
                c;
            free = λ m. chosen_free player.arena player.side player.entry x.mover x.from x.place
                x.arm c (same_of player.side x.mover m);
            win = λ w. (let r = win w in (r.0, (let l = r.1 in omega (arith, l))));
            best_win = λ _ w. (win w).1;
            hold = λ h. small_is_no_failure (arm_code player.arena player.side player.entry x.arm)
                (holds h);
            best_hold = λ _ h. holds h;
          })
      | inr o ↦ (
          let f = o.0 in
          let l = o.1 in
          let other = other_when player.side x.mover f in
          let not_best : is_by_codes player x.mover ≡ true
          → ⊥ = λ b. neither_of (same_colour x.mover player.side) (is_line player.opponent) f l
          b in
          let any = e ∙ ap Going other in
          record {
            agrees = k;
            stands = stands;
            goes_on = e;
            there = o.2;
            free = λ m. absurd (let t = same_of player.side x.mover m in cc);
            win = any_win player.arena player.side player.entry x.from x.place x.arm o.2 any k;
            best_win = λ b w. absurd (not_best b);
            hold = any_hold player.arena player.side player.entry x.from x.place x.arm o.2 any k;
            best_hold = λ b h. absurd (not_best b);
          })
    ]
