-- Each line ends.
use Rattle.std.proofs.Common.{◌≡◌, ◌≤◌, ◌+◌, ◌*◌, ℕ, zero, suc, ◌⊎◌, inl, inr, Bool, true, false, List, [], ◌∷◌, refl, subst, arith}
use Rattle.std.proofs.lemmas.Bool.{or_right}
use Rattle.frz_board.specs.declared.man.Colour.{Colour}
use Rattle.frz_board.specs.Men.{same_colour}
use Rattle.frz_arena.specs.declared.node.Node.TheVariants.{Going}
use Rattle.frz_arena.specs.declared.arm.Arm.{Arm}
use Rattle.frz_arena.specs.declared.arm.Next.{Next}
use Rattle.frz_arena.specs.declared.arm.Next.TheVariants.{Inside, Outside}
use Rattle.frz_arena.specs.Arena.{IsLawful}
use Rattle.frz_arena.specs.Codes.{is_win, is_failure}
use Rattle.frz_arena.specs.LocalCodes.{arm_code, next_code}
use Rattle.frz_arena.specs.Plies.{LeadsTo}
use Rattle.frz_arena.specs.Chosen.{IsChosen}
use Rattle.frz_arena.specs.WayEnds.{End, Exit}
use Rattle.frz_arena.specs.Ways.{Player, Ply, Over, Moves, Opponent, ByCodes, ByInput, is_cut, is_line, IsTakenBy, IsPlyOf, stage, IsWay}
use Rattle.frz_arena.proofs.LocalCodes.ChosenCodes.{win_above}
use Rattle.frz_arena.proofs.Ways.FoundArms.{chosen_there}
use Rattle.frz_arena.proofs.Ways.Stages as stages
use Rattle.frz_arena.proofs.Ways.Stages.{IsSound, over_or_due}
use Rattle.frz_arena.proofs.Ways.WayParts.{ply_of}
use Rattle.frz_arena.proofs.Ways.EachPly.{stands_due, never_fails}
use Rattle.frz_arena.proofs.Ways.KeptWays.{not_yet, line_of}

-- fuel for a line: the plies of a win, or those left of a hold
pub record Fuel (most k fuel c : ℕ) : Type 0 where
  pub won : is_win c ≡ true → c ≤ 2 + 2 * fuel
  pub held : c ≡ 1 → most ≤ k + fuel

pub taken_in_line : {M N V S R : Type 0} (player : Player M N V S R) (own : Bool)
    (opponent : Opponent N S R) (most : ℕ) (s : S) (x : Ply M N V) → opponent ≡ ByCodes most
    → x.refused ≡ 0 → IsChosen player.arena player.side player.entry x.mover x.from x.place x.arm
    → IsTakenBy player own opponent s x s
taken_in_line player true opponent most s x o z h = (h, z, refl)
taken_in_line player false (ByCodes m) most s x o z h = (h, z, refl)
taken_in_line player false (ByInput read) most s x o z h = absurd (cc)

pub record Line {M N V S R : Type 0} (player : Player M N V S R) (k : ℕ) (s : S)
    (p : N) : Type 0 where
  pub plies : List (Ply M N V)
  pub end : End N V R
  pub way : IsWay player k s p plies end s

-- the end of a line behind its first ply
pub record Rest {M N V S R : Type 0} (player : Player M N V S R) (k : ℕ) (s : S)
    (y : Next N V) : Type 0 where
  pub plies : List (Ply M N V)
  pub end : End N V R
  pub way : LeadsTo (λ q. IsWay player k s q plies end s)
      (λ v. (plies ≡ []) × (end ≡ Exit v) × (s ≡ s)) y

rest_of : {M N V S R : Type 0} (player : Player M N V S R) (k : ℕ) (s : S) (y : Next N V) →
    ((q : N) → y ≡ Inside q → Line player k s q) → Rest player k s y
rest_of player k s (Inside q) ih =
    let r = ih q refl in record { plies = r.plies; end = r.end; way = r.way }
rest_of player k s (Outside v) ih = record { plies = []; end = Exit v; way = (refl, refl, refl) }

over_line : {M N V S R : Type 0} (player : Player M N V S R) (k : ℕ) (s : S) (p : N) (e : End N V R)
    → stage player k p ≡ Over e → Line player k s p
over_line player k s p e o = record { plies = []; end = e; way = inl (o, refl) }

-- less fuel is wanted after a ply
less_fuel : (most k fuel c d : ℕ) → Fuel most k (suc fuel) c → (is_win c ≡ true → d + 2 ≡ c) →
    (c ≡ 1 → d ≤ 1) → (is_win c ≡ true) ⊎ (c ≡ 1) → Fuel most (suc k) fuel d
less_fuel most k fuel c d f best holds (inl w) = record {
  won = λ _. (let a = f.won w in let b = best w in omega (arith, a, b));
  held =
      λ e. absurd (let b = best w in let o : c ≡ 3 = omega (arith, b, e) in
      let g : is_win 3 ≡ true = subst (λ z. is_win z ≡ true) o w in cc);
}
less_fuel most k fuel c d f best holds (inr h) = record {
  won = λ w. absurd (let a = holds h in let b = win_above d w in omega (arith, a, b));
  held = λ _. (let a = f.held h in omega (arith, a));
}

-- without fuel no ply is due
no_fuel : {M N V S R : Type 0} (player : Player M N V S R) (most k : ℕ) (p : N) (c d : ℕ) →
    player.opponent ≡ ByCodes most → Fuel most k 0 c →
    (is_win c ≡ true → (is_win d ≡ true) × (d + 2 ≡ c)) → is_cut player.opponent k c ≡ false →
    (is_win c ≡ true) ⊎ (c ≡ 1) → ⊥
no_fuel player most k p c d o f best no_cut (inl w) =
    let a = f.won w in let r = best w in let b = win_above d r.0 in let g = r.1 in
    omega (arith, a, b, g)
no_fuel player most k p c d o f best no_cut (inr h) =
    let a = f.held h in let l = not_yet player.opponent most k c o h no_cut in omega (arith, a, l)

-- the ply that is due
pub record Due {M N V S R : Type 0} (player : Player M N V S R) (s : S) (p : N)
    (mover : Colour) : Type 0 where
  pub place : ℕ
  pub arm : Arm M N V
  pub taken : IsTakenBy player (same_colour mover player.side) player.opponent s
      (record { from = p; place = place; arm = arm; mover = mover; refused = 0 }) s
  pub keeps : IsPlyOf player
      (record { from = p; place = place; arm = arm; mover = mover; refused = 0 })

due_in_line : {M N V S R : Type 0} (player : Player M N V S R) (most : ℕ) →
    player.opponent ≡ ByCodes most → IsLawful player.arena →
    (k : ℕ) (s : S) (p : N) (mover : Colour) → IsSound player k p →
    player.arena.node p ≡ Going mover → (k ≡ 0) ⊎ (is_failure (player.entry p) ≡ false) →
    Due player s p mover
due_in_line {M} {N} {V} player most o law k s p mover sound e start =
    let stands = stands_due player k p mover sound e start in
    let c = chosen_there player.arena law player.side player.entry mover p e sound.agrees stands in
    let x : Ply M N V = record { from = p; place = c.0; arm = c.1; mover = mover; refused = 0 } in
    let taken = taken_in_line player (same_colour mover player.side) player.opponent most s x o refl
    c.2 in
    record {
      place = c.0;
      arm = c.1;
      taken = taken;
      keeps = ply_of player s s x sound.agrees e stands taken;
    }

best_of : {M N V S R : Type 0} (player : Player M N V S R) (most : ℕ) →
    player.opponent ≡ ByCodes most → (s : S) (p : N) (mover : Colour) (x : Due player s p mover) →
    is_win (player.entry p) ≡ true →
    arm_code player.arena player.side player.entry x.arm + 2 ≡ player.entry p
best_of player most o s p mover x w =
    x.keeps.best_win
    (or_right (same_colour mover player.side) (is_line player.opponent)
    (line_of player.opponent most o)) w

held_of : {M N V S R : Type 0} (player : Player M N V S R) (most : ℕ) →
    player.opponent ≡ ByCodes most → (s : S) (p : N) (mover : Colour) (x : Due player s p mover) →
    player.entry p ≡ 1 → arm_code player.arena player.side player.entry x.arm ≤ 1
held_of player most o s p mover x h =
    x.keeps.best_hold
    (or_right (same_colour mover player.side) (is_line player.opponent)
    (line_of player.opponent most o)) h

with_ply : {M N V S R : Type 0} (player : Player M N V S R) (k : ℕ) (s : S) (p : N) (mover : Colour)
    → stage player k p ≡ Moves mover → (x : Due player s p mover) → Rest player (suc k) s x.arm.next
    → Line player k s p
with_ply player k s p mover o x r = record {
  plies = record { from = p; place = x.place; arm = x.arm; mover = mover; refused = 0 } ∷ r.plies;
  end = r.end;
  way = (refl, o, (s, x.taken, r.way));
}

pub line_there : {M N V S R : Type 0} (player : Player M N V S R) (most : ℕ) →
    player.opponent ≡ ByCodes most → IsLawful player.arena → (fuel k : ℕ) (s : S) (p : N) →
    (k ≡ 0) ⊎ (is_failure (player.entry p) ≡ false) → Fuel most k fuel (player.entry p) →
    Line player k s p
line_there {M} {N} {V} {S} {R} player most o law zero k s p start fuel =
    elim (over_or_due player k p) [
      | stages.over end e ↦ over_line player k s p end e
      | stages.due d m b t e ↦ absurd (
          let x = due_in_line player most o law k s p m d b start in
          no_fuel player most k p (player.entry p)
          (arm_code player.arena player.side player.entry x.arm) o fuel
          (λ w. ((x.keeps.win w).0, best_of player most o s p m x w)) t x.keeps.stands)
    ]
line_there {M} {N} {V} {S} {R} player most o law (suc fuel) k s p start enough =
    elim (over_or_due player k p) [
      | stages.over end e ↦ over_line player k s p end e
      | stages.due d m b t e ↦ (
          let x = due_in_line player most o law k s p m d b start in
          let less = less_fuel most k fuel (player.entry p)
          (arm_code player.arena player.side player.entry x.arm) enough
          (best_of player most o s p m x) (held_of player most o s p m x) x.keeps.stands in
          let never = never_fails player
          (record { from = p; place = x.place; arm = x.arm; mover = m; refused = 0 }) x.keeps in
          with_ply player k s p m e x (rest_of player (suc k) s x.arm.next (λ q i.
          line_there player most o law fuel (suc k) s q
          (inr (subst (λ (y : Next N V). is_failure
          (next_code player.arena player.side player.entry y) ≡ false) i never))
          (subst (λ (y : Next N V). Fuel most (suc k) fuel
          (next_code player.arena player.side player.entry y)) i less))))
    ]

-- each line has an end
pub line_ends : {M N V S R : Type 0} (player : Player M N V S R) (most : ℕ) →
    player.opponent ≡ ByCodes most → IsLawful player.arena → (s : S) (p : N) →
    (xs : List (Ply M N V)) × (e : End N V R) × IsWay player 0 s p xs e s
line_ends player most o law s p =
    let r = line_there player most o law (player.entry p + most) 0 s p (inl refl)
    (record { won = λ w. omega arith; held = λ h. omega arith }) in
    (r.plies, r.end, r.way)
