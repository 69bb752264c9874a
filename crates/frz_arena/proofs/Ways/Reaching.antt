-- A way as far as it has come: what a loop that plays it keeps.
use Rattle.std.proofs.Common.{◌≡◌, ◌≤◌, ◌<◌, ◌+◌, ◌-◌, ◌*◌, ℕ, suc, ◌⊎◌, inl, inr, true, false, List, [], ◌∷◌, ◌++◌, refl, sym, subst, append_assoc, arith, if◌then◌else◌}
use Rattle.std.proofs.lemmas.Bool.{cases_Bool, or_right}
use Rattle.frz_board.specs.declared.man.Colour.{Colour}
use Rattle.frz_board.specs.Men.{same_colour}
use Rattle.frz_arena.specs.declared.arm.Arm.{Arm}
use Rattle.frz_arena.specs.declared.arm.Next.{Next}
use Rattle.frz_arena.specs.declared.arm.Next.TheVariants.{Inside, Outside}
use Rattle.frz_arena.specs.Arena.{IsLawful}
use Rattle.frz_arena.specs.Codes.{is_win, is_failure}
use Rattle.frz_arena.specs.LocalCodes.{next_code}
use Rattle.frz_arena.specs.Plies.{LeadsTo}
use Rattle.frz_arena.specs.Chosen.{IsChosen}
use Rattle.frz_arena.specs.WayEnds.{End, Exit}
use Rattle.frz_arena.specs.Ways.{Player, Ply, Over, Moves, ByCodes, is_line, IsTaken, IsStop, IsPlyOf, stage, IsWay}
use Rattle.frz_arena.proofs.LocalCodes.ChosenCodes.{win_above}
use Rattle.frz_arena.proofs.Ways.FoundArms.{chosen_there}
use Rattle.frz_arena.proofs.Ways.WayParts.{moving, ply_of}
use Rattle.frz_arena.proofs.Ways.EachPly.{stands_due, never_fails}
use Rattle.frz_arena.proofs.Ways.KeptWays.{line_of, not_yet}

-- after the plies done the way stands at q with the input s, and however it goes on from there, it
-- is the way from the start with these plies before
pub record Reaches {M N V S R : Type 0} (player : Player M N V S R) (input : S) (start : N) (k : ℕ)
    (s : S) (q : N) : Type 0 where
  pub done : List (Ply M N V)
  pub on : (ys : List (Ply M N V)) (e : End N V R) (t : S) → IsWay player k s q ys e t →
      IsWay player 0 input start (done ++ ys) e t
  pub stands : (k ≡ 0) ⊎ (is_failure (player.entry q) ≡ false)

pub reaches_start : {M N V S R : Type 0} (player : Player M N V S R) (s : S) (p : N) →
    Reaches player s p 0 s p
reaches_start player s p = record { done = []; on = λ ys e t w. w; stands = inl refl }

pub reaches_end : {M N V S R : Type 0} (player : Player M N V S R) (input : S) (start : N) (k : ℕ)
    (s : S) (q : N) (e : End N V R) → Reaches player input start k s q → stage player k q ≡ Over e
    → (xs : List (Ply M N V)) × IsWay player 0 input start xs e s
reaches_end player input start k s q e r o = (r.done ++ [], r.on [] e s (inl (o, refl)))

pub reaches_stop : {M N V S R : Type 0} (player : Player M N V S R) (input : S) (start : N) (k : ℕ)
    (s t : S) (q : N) (e : End N V R) → Reaches player input start k s q → IsStop player k s q e t
    → (xs : List (Ply M N V)) × IsWay player 0 input start xs e t
reaches_stop player input start k s t q e r o = (r.done ++ [], r.on [] e t (inr o))

-- a ply out of the positions
pub reaches_exit : {M N V S R : Type 0} (player : Player M N V S R) (input : S) (start : N) (k : ℕ)
    (s u : S) (q : N) (x : Ply M N V) (v : V) → Reaches player input start k s q → x.from ≡ q
    → stage player k q ≡ Moves x.mover → IsTaken player s x u → x.arm.next ≡ Outside v
    → (xs : List (Ply M N V)) × IsWay player 0 input start xs (Exit v) u
reaches_exit {M} {N} {V} {S} {R} player input start k s u q x v r f o h e =
    let none : List (Ply M N V) = [] in
    let out : End N V R = Exit v in (
      r.done ++ (x ∷ none),
      r.on (x ∷ none) out u (
        f,
        o,
        (
          u,
          h,
          subst
              (λ y. LeadsTo (λ q. IsWay player (suc k) u q none out u)
              (λ w. (none ≡ []) × (out ≡ Exit w) × (u ≡ u)) y) (sym e) (refl, refl, refl),
        ),
      ),
    )

-- what a ply keeps, at the way's place
pub ply_here : {M N V S R : Type 0} (player : Player M N V S R) (input : S) (start : N) (k : ℕ)
    (s u : S) (x : Ply M N V) → Reaches player input start k s x.from
    → stage player k x.from ≡ Moves x.mover → IsTaken player s x u → IsPlyOf player x
ply_here player input start k s u x r o h =
    let m = moving player k x.from x.mover o in
    ply_of player s u x m.0.agrees m.1 (stands_due player k x.from x.mover m.0 m.1 r.stands) h

-- a ply within them
pub reaches_more : {M N V S R : Type 0} (player : Player M N V S R) (input : S) (start : N) (k : ℕ)
    (s u : S) (x : Ply M N V) (p : N) → Reaches player input start k s x.from
    → stage player k x.from ≡ Moves x.mover → IsTaken player s x u → x.arm.next ≡ Inside p
    → Reaches player input start (suc k) u p
reaches_more {M} {N} {V} {S} {R} player input start k s u x p r o h e =
    let keeps = ply_here player input start k s u x r o h in
    record {
      done = r.done ++ (x ∷ []);
      on = λ ys f t w. subst (λ zs. IsWay player 0 input start zs f t)
          (sym (append_assoc r.done (x ∷ []) ys))
          (r.on (x ∷ ys) f t (
            refl,
            o,
            (
              u,
              h,
              subst (λ y. LeadsTo (λ q. IsWay player (suc k) u q ys f t)
                  (λ v. (ys ≡ []) × (f ≡ Exit v) × (t ≡ u)) y) (sym e) w,
            ),
          ));
      stands = inr (subst (λ (y : Next N V). is_failure
          (next_code player.arena player.side player.entry y) ≡ false) e
          (never_fails player x keeps));
    }

-- a line's next code
pub next_in_line : {M N V S R : Type 0} (player : Player M N V S R) (most : ℕ) →
    player.opponent ≡ ByCodes most →
    (input : S) (start : N) (k : ℕ) (s u : S) (x : Ply M N V) (p : N) →
    Reaches player input start k s x.from → stage player k x.from ≡ Moves x.mover →
    IsTaken player s x u → x.arm.next ≡ Inside p →
    ((is_win (player.entry x.from) ≡ true) × (is_win (player.entry p) ≡ true)
    × (player.entry p + 2 ≡ player.entry x.from))
    ⊎ ((player.entry x.from ≡ 1) × (player.entry p ≤ 1) × (k < most))
next_in_line {M} {N} {V} player most b input start k s u x p r o h e =
    let keeps = ply_here player input start k s u x r o h in
    let c = or_right (same_colour x.mover player.side) (is_line player.opponent)
    (line_of player.opponent most b) in
    elim (keeps.stands) [
      | inl w ↦
          inl (
            w,
            subst (λ (y : Next N V). is_win
                (next_code player.arena player.side player.entry y) ≡ true) e (keeps.win w).0,
            subst (λ (y : Next N V). next_code player.arena player.side player.entry y + 2
                ≡ player.entry x.from) e (keeps.best_win c w),
          )
      | inr f ↦
          inr (
            f,
            subst (λ (y : Next N V). next_code player.arena player.side player.entry y ≤ 1) e
                (keeps.best_hold c f),
            not_yet player.opponent most k (player.entry x.from) b f
                (moving player k x.from x.mover o).2,
          )
    ]

-- what a line still has: its measure, and a bound of its plies
abbrev pub line_left : (most k c : ℕ) → ℕ
line_left most k c = if is_win c then c else most - k

pub record IsFew (most k c : ℕ) : Type 0 where
  pub won : is_win c ≡ true → 2 * k + c < 4294967296
  pub held : c ≤ 1 → k ≤ most

-- where a ply is due, the codes ask for one
pub chosen_here : {M N V S R : Type 0} (player : Player M N V S R) → IsLawful player.arena →
    (input : S) (start : N) (k : ℕ) (s : S) (q : N) (mover : Colour) →
    Reaches player input start k s q → stage player k q ≡ Moves mover →
    (i : ℕ) × (a : Arm M N V) × IsChosen player.arena player.side player.entry mover q i a
chosen_here player law input start k s q mover r o =
    let m = moving player k q mover o in
    chosen_there player.arena law player.side player.entry mover q m.1 m.0.agrees
    (stands_due player k q mover m.0 m.1 r.stands)

pub few_after : (most k c d : ℕ) → IsFew most k c →
    ((is_win c ≡ true) × (is_win d ≡ true) × (d + 2 ≡ c)) ⊎ ((c ≡ 1) × (d ≤ 1) × (k < most)) →
    IsFew most (suc k) d
few_after most k c d f (inl h) = record {
  won = λ _. (let a = f.won h.0 in let b = h.2 in omega (arith, a, b));
  held = λ l. absurd (let a = win_above d h.1 in omega (arith, a, l));
}
few_after most k c d f (inr h) = record {
  won = λ w. absurd (let a = win_above d w in let b = h.1 in omega (arith, a, b));
  held = λ _. (let b = h.2 in omega (arith, b));
}

no_win : (c : ℕ) → c ≤ 1 → is_win c ≡ false
no_win c l =
    elim (cases_Bool (is_win c)) [
      | inl t ↦ absurd (let h = win_above c t in omega (arith, l, h))
      | inr f ↦ f
    ]

pub left_after : (most k c d : ℕ) →
    ((is_win c ≡ true) × (is_win d ≡ true) × (d + 2 ≡ c)) ⊎ ((c ≡ 1) × (d ≤ 1) × (k < most)) →
    line_left most (suc k) d < line_left most k c
left_after most k c d (inl h) =
    let a : line_left most (suc k) d ≡ d = rw h.1 refl in
    let b : line_left most k c ≡ c = rw h.0 refl in
    let e = h.2 in
    omega (arith, a, b, e)
left_after most k c d (inr h) =
    let a : line_left most (suc k) d ≡ most - (suc k) = rw (no_win d h.1) refl in
    let b : line_left most k c ≡ most - k = rw (no_win c (let e = h.0 in omega (arith, e))) refl in
    let l = h.2 in
    omega (arith, a, b, l)

-- the count of plies still fits
pub few_fits : (most k c : ℕ) → most < 4294967295 → IsFew most k c → (is_win c ≡ true) ⊎ (c ≡ 1) →
    k + 1 < 4294967296
few_fits most k c m f (inl w) = let a = f.won w in let b = win_above c w in omega (arith, a, b)
few_fits most k c m f (inr h) = let a = f.held (omega (arith, h)) in omega (arith, a, m)
