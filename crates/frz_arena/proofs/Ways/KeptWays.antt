-- A way keeps the bound of its start.
use Rattle.std.proofs.Common.{◌≡◌, ◌≤◌, ◌<◌, ◌+◌, ◌*◌, ◌==◌, ◌&&◌, ℕ, suc, ◌⊎◌, inl, inr, Bool, true, false, List, [], ◌∷◌, length, refl, sym, subst, ap, ◌∙◌, arith}
use Rattle.std.specs.Prelude.{nat_le}
use Rattle.std.proofs.lemmas.Bool.Decides.{nat_tests}
use Rattle.std.proofs.lemmas.Bool.{or_right}
use Rattle.frz_board.specs.declared.man.Colour.{Colour}
use Rattle.frz_board.specs.Men.{other_of, same_colour}
use Rattle.frz_arena.specs.declared.class.Class.{Class}
use Rattle.frz_arena.specs.declared.class.Class.TheVariants.{Good, Safe, Bad}
use Rattle.frz_arena.specs.declared.node.Node.TheVariants.{Mate}
use Rattle.frz_arena.specs.declared.arm.Next.{Next}
use Rattle.frz_arena.specs.declared.arm.Next.TheVariants.{Inside, Outside}
use Rattle.frz_arena.specs.Codes.{is_win, is_failure, exit_code}
use Rattle.frz_arena.specs.LocalCodes.{arm_code, next_code, local_code}
use Rattle.frz_arena.specs.Plies.{LeadsTo}
use Rattle.frz_arena.specs.WayEnds.{End, Mated, Exit, Cut, EndsWon, EndsHeld, EndsDrawn}
use Rattle.frz_arena.specs.Ways.{Player, Ply, Opponent, ByCodes, ByInput, is_cut, is_line, IsPlyOf, IsWay}
use Rattle.frz_arena.proofs.LocalCodes.ChosenCodes.{win_above, failure_above, win_and_failure, win_plies, win_of}
use Rattle.frz_arena.proofs.LocalCodes.PlyCodes.{at_mated, at_mates, at_stale}
use Rattle.frz_arena.proofs.Ways.FoundArms.{mover_is, itself, another, win_is_no_failure, small_is_no_failure}
use Rattle.frz_arena.proofs.Ways.WayParts.{EndedAt, wrong, fails, broken, mated, stale, cut, stopped, ended, moving, cut_is}
use Rattle.frz_arena.proofs.Ways.EachPly.{first_ply, never_fails}

-- the code of an exit tells its class
good_exit : (c : Class) (lag : ℕ) → is_win (exit_code c lag) ≡ true →
    (c ≡ Good) × (exit_code c lag ≡ 2 + 2 * lag)
good_exit Good lag w = (refl, refl)
good_exit Safe lag w = absurd (cc)
good_exit Bad lag w = absurd (cc)

pub no_bad_exit : (c : Class) (lag : ℕ) → is_failure (exit_code c lag) ≡ false →
    (c ≡ Good) ⊎ (c ≡ Safe)
no_bad_exit Good lag f = inl refl
no_bad_exit Safe lag f = inr refl
no_bad_exit Bad lag f = absurd (cc)

safe_exit : (c : Class) (lag : ℕ) → exit_code c lag ≤ 1 → c ≡ Safe
safe_exit Good lag l = absurd (omega (arith, l))
safe_exit Safe lag l = refl
safe_exit Bad lag l = absurd (omega (arith, l))

-- a mate of the side is a failure, and one of the opponent a win at once
pub mate_code : {M N V S R : Type 0} (player : Player M N V S R) (p : N) (mover : Colour) →
    player.entry p ≡ local_code player.arena player.side player.entry p →
    player.arena.node p ≡ Mate mover →
    ((player.entry p ≡ 3) ⊎ ((mover ≡ other_of player.side) × (player.entry p ≡ 2)))
mate_code player p mover a e =
    elim (mover_is player.side mover) [
      | itself m s ↦ inl (a ∙ at_mated player.arena player.side player.entry p (e ∙ ap Mate m))
      | another m s ↦ inr (m, a ∙ at_mates player.arena player.side player.entry p (e ∙ ap Mate m))
    ]

as_win_code : (c n : ℕ) → c ≡ 2 + 2 * n → is_win c ≡ true
as_win_code c n e = subst (λ z. is_win z ≡ true) (sym e) (win_of n)

same_lag : {N V R : Type 0} {e : End N V R} (lag : V → ℕ) (v u : V) → e ≡ Exit v → e ≡ Exit u →
    lag u ≡ lag v
same_lag lag v u f g = cc

before_cut : (most k : ℕ) → ((1 == 1) && nat_le most k) ≡ false → k < most
before_cut most k f = grind (arith, nat_tests)

at_cut : (most k : ℕ) (b : Bool) → (b && nat_le most k) ≡ true → most ≤ k
at_cut most k true f = grind (arith, nat_tests)
at_cut most k false f = absurd (cc)

-- a win
pub record WonWay {M N V S R : Type 0} (player : Player M N V S R) (n : ℕ) (xs : List (Ply M N V))
    (e : End N V R) : Type 0 where
  pub few : length xs ≤ n
  pub ends : EndsWon player.arena player.side e
  pub exit : (v : V) → e ≡ Exit v → length xs + player.arena.lag v ≤ n

won_end : {M N V S R : Type 0} (player : Player M N V S R) (k : ℕ) (p : N) (e : End N V R) (n : ℕ) →
    player.entry p ≡ 2 + 2 * n → EndedAt player k p e →
    EndsWon player.arena player.side e × ((v : V) → e ≡ Exit v → ⊥)
won_end player k p e n c end =
    elim end [
      | wrong d f ↦ (subst (λ z. EndsWon player.arena player.side z) (sym f) tt, λ v g. cc)
      | fails a f g ↦ absurd (win_and_failure (player.entry p) (as_win_code (player.entry p) n c) f)
      | broken s b f ↦ (subst (λ z. EndsWon player.arena player.side z) (sym f) tt, λ v g. cc)
      | mated s m b f ↦ elim (mate_code player p m s.agrees b) [
        | inl three ↦ absurd (omega (arith, c, three))
        | inr two ↦ (subst (λ z. EndsWon player.arena player.side z) (sym f) two.0, λ v g. cc)
      ]
      | stale s m b f ↦ absurd
          (let h = s.agrees ∙ at_stale player.arena player.side player.entry p m b in
          omega (arith, c, h))
      | cut s t f ↦ absurd
          (let h = (cut_is player.opponent k (player.entry p) t).0 in omega (arith, c, h))
      | stopped l r f ↦ (subst (λ z. EndsWon player.arena player.side z) (sym f) tt, λ v g. cc)
    ]

won_after : {M N V S R : Type 0} (player : Player M N V S R) (k : ℕ) (s t : S) (x : Ply M N V)
    (xs : List (Ply M N V)) (e : End N V R) (n : ℕ)
    → ((q : N) (m : ℕ) → player.entry q ≡ 2 + 2 * m → IsWay player k s q xs e t
    → WonWay player m xs e) → (y : Next N V)
    → is_win (next_code player.arena player.side player.entry y) ≡ true
    → next_code player.arena player.side player.entry y + 2 ≤ 2 + 2 * n
    → LeadsTo (λ q. IsWay player k s q xs e t) (λ v. (xs ≡ []) × (e ≡ Exit v) × (t ≡ s)) y
    → WonWay player n (x ∷ xs) e
won_after player k s t x xs e n ih (Inside q) w l h =
    let m = win_plies (player.entry q) w in
    let r = ih q m.0 m.1 h in
    record {
      few = (let a = r.few in let b = m.1 in omega (arith, a, b, l));
      ends = r.ends;
      exit = λ v g. (let a = r.exit v g in let b = m.1 in omega (arith, a, b, l));
    }
won_after {M} {N} {V} player k s t x xs e n ih (Outside v) w l h =
    let g = good_exit (player.arena.class v player.side) (player.arena.lag v) w in
    let none : length xs ≡ 0 = ap (λ (ys : List (Ply M N V)). length ys) h.0 in
    let c = g.1 in
    record {
      few = omega (arith, none, c, l);
      ends = subst (λ z. EndsWon player.arena player.side z) (sym h.1) g.0;
      exit = λ u f. (let z : player.arena.lag u ≡ player.arena.lag v = same_lag player.arena.lag v u
          h.1 f in omega (arith, none, c, l, z));
    }

pub won_way : {M N V S R : Type 0} (player : Player M N V S R) (k : ℕ) (s t : S) (p : N)
    (xs : List (Ply M N V)) (e : End N V R) (n : ℕ) → player.entry p ≡ 2 + 2 * n
    → IsWay player k s p xs e t → WonWay player n xs e
won_way player k s t p [] e n c w =
    let r = won_end player k p e n c (ended player k s t p e w) in
    record { few = omega arith; ends = r.0; exit = λ v f. absurd (r.1 v f) }
won_way player k s t p (x ∷ xs) e n c w =
    let win = as_win_code (player.entry p) n c in
    let ply = first_ply player k s t p x xs e (inr (win_is_no_failure (player.entry p) win)) w in
    let from = sym w.0 in
    let keeps = ply.win (subst (λ q. is_win (player.entry q) ≡ true) from win) in
    let d : player.entry x.from ≡ 2 + 2 * n = ap player.entry w.0 ∙ c in
    won_after player (suc k) w.2.0 t x xs e n
    (λ q m f v. won_way player (suc k) w.2.0 t q xs e m f v) x.arm.next keeps.0
    (let l = keeps.1 in omega (arith, l, d)) w.2.2

-- a line from a win
pub record ExactWay {M N V S R : Type 0} (player : Player M N V S R) (n : ℕ) (xs : List (Ply M N V))
    (e : End N V R) : Type 0 where
  pub mate : (m : Colour) → e ≡ Mated m → length xs ≡ n
  pub exit : (v : V) → e ≡ Exit v → length xs + player.arena.lag v ≡ n

exact_end : {M N V S R : Type 0} (player : Player M N V S R) (k : ℕ) (p : N) (e : End N V R) (n : ℕ)
    → player.entry p ≡ 2 + 2 * n → EndedAt player k p e → (m : Colour) → e ≡ Mated m → 0 ≡ n
exact_end player k p e n c end m g =
    elim end [
      | wrong d f ↦ absurd (cc)
      | fails a f h ↦ absurd (cc)
      | broken s b f ↦ absurd (cc)
      | mated s m b f ↦ elim (mate_code player p m s.agrees b) [
        | inl three ↦ absurd (omega (arith, c, three))
        | inr two ↦ (let h = two.1 in omega (arith, c, h))
      ]
      | stale s m b f ↦ absurd (cc)
      | cut s t f ↦ absurd (cc)
      | stopped l r f ↦ absurd (cc)
    ]

exact_after : {M N V S R : Type 0} (player : Player M N V S R) (k : ℕ) (s t : S) (x : Ply M N V)
    (xs : List (Ply M N V)) (e : End N V R) (n : ℕ)
    → ((q : N) (m : ℕ) → player.entry q ≡ 2 + 2 * m → IsWay player k s q xs e t
    → ExactWay player m xs e) → (y : Next N V)
    → is_win (next_code player.arena player.side player.entry y) ≡ true
    → next_code player.arena player.side player.entry y + 2 ≡ 2 + 2 * n
    → LeadsTo (λ q. IsWay player k s q xs e t) (λ v. (xs ≡ []) × (e ≡ Exit v) × (t ≡ s)) y
    → ExactWay player n (x ∷ xs) e
exact_after player k s t x xs e n ih (Inside q) w l h =
    let m = win_plies (player.entry q) w in
    let r = ih q m.0 m.1 h in
    record {
      mate = λ c f. (let a = r.mate c f in let b = m.1 in omega (arith, a, b, l));
      exit = λ v g. (let a = r.exit v g in let b = m.1 in omega (arith, a, b, l));
    }
exact_after {M} {N} {V} player k s t x xs e n ih (Outside v) w l h =
    let g = good_exit (player.arena.class v player.side) (player.arena.lag v) w in
    let none : length xs ≡ 0 = ap (λ (ys : List (Ply M N V)). length ys) h.0 in
    let c = g.1 in
    let o = h.1 in
    record {
      mate = λ m f. absurd (cc);
      exit = λ u f. (let z : player.arena.lag u ≡ player.arena.lag v = same_lag player.arena.lag v u
          o f in omega (arith, none, c, l, z));
    }

pub exact_way : {M N V S R : Type 0} (player : Player M N V S R) (k : ℕ) (s t : S) (p : N)
    (xs : List (Ply M N V)) (e : End N V R) (n : ℕ) → is_line player.opponent ≡ true
    → player.entry p ≡ 2 + 2 * n → IsWay player k s p xs e t → ExactWay player n xs e
exact_way player k s t p [] e n line c w =
    let end = ended player k s t p e w in
    record {
      mate = exact_end player k p e n c end;
      exit = λ v f. absurd ((won_end player k p e n c end).1 v f);
    }
exact_way player k s t p (x ∷ xs) e n line c w =
    let win = as_win_code (player.entry p) n c in
    let ply = first_ply player k s t p x xs e (inr (win_is_no_failure (player.entry p) win)) w in
    let v = subst (λ q. is_win (player.entry q) ≡ true) (sym w.0) win in
    let best = ply.best_win
    (or_right (same_colour x.mover player.side) (is_line player.opponent) line) v in
    let d : player.entry x.from ≡ 2 + 2 * n = ap player.entry w.0 ∙ c in
    exact_after player (suc k) w.2.0 t x xs e n
    (λ q m f u. exact_way player (suc k) w.2.0 t q xs e m line f u) x.arm.next (ply.win v).0
    (best ∙ d) w.2.2

-- a hold, or a win
held_end : {M N V S R : Type 0} (player : Player M N V S R) (k : ℕ) (p : N) (e : End N V R) →
    is_failure (player.entry p) ≡ false → EndedAt player k p e → EndsHeld player.arena player.side e
held_end player k p e c end =
    elim end [
      | wrong d f ↦ subst (λ z. EndsHeld player.arena player.side z) (sym f) tt
      | fails a f g ↦ absurd (cc)
      | broken s b f ↦ subst (λ z. EndsHeld player.arena player.side z) (sym f) tt
      | mated s m b f ↦ elim (mate_code player p m s.agrees b) [
        | inl three ↦ absurd
            (let g : is_failure 3 ≡ false = subst (λ z. is_failure z ≡ false) three c in cc)
        | inr two ↦ subst (λ z. EndsHeld player.arena player.side z) (sym f) two.0
      ]
      | stale s m b f ↦ subst (λ z. EndsHeld player.arena player.side z) (sym f) tt
      | cut s t f ↦ subst (λ z. EndsHeld player.arena player.side z) (sym f) tt
      | stopped l r f ↦ subst (λ z. EndsHeld player.arena player.side z) (sym f) tt
    ]

held_after : {M N V S R : Type 0} (player : Player M N V S R) (k : ℕ) (s t : S)
    (xs : List (Ply M N V)) (e : End N V R)
    → ((q : N) → is_failure (player.entry q) ≡ false → IsWay player k s q xs e t
    → EndsHeld player.arena player.side e) → (y : Next N V)
    → is_failure (next_code player.arena player.side player.entry y) ≡ false
    → LeadsTo (λ q. IsWay player k s q xs e t) (λ v. (xs ≡ []) × (e ≡ Exit v) × (t ≡ s)) y
    → EndsHeld player.arena player.side e
held_after player k s t xs e ih (Inside q) f h = ih q f h
held_after player k s t xs e ih (Outside v) f h =
    subst (λ z. EndsHeld player.arena player.side z) (sym h.1)
    (no_bad_exit (player.arena.class v player.side) (player.arena.lag v) f)

pub held_way : {M N V S R : Type 0} (player : Player M N V S R) (k : ℕ) (s t : S) (p : N)
    (xs : List (Ply M N V)) (e : End N V R) → is_failure (player.entry p) ≡ false
    → IsWay player k s p xs e t → EndsHeld player.arena player.side e
held_way player k s t p [] e c w = held_end player k p e c (ended player k s t p e w)
held_way player k s t p (x ∷ xs) e c w =
    let ply = first_ply player k s t p x xs e (inr c) w in
    held_after player (suc k) w.2.0 t xs e (λ q f u. held_way player (suc k) w.2.0 t q xs e f u)
    x.arm.next (never_fails player x ply) w.2.2

-- a line from a hold
drawn_end : {M N V S R : Type 0} (player : Player M N V S R) (k : ℕ) (p : N) (e : End N V R) →
    is_line player.opponent ≡ true → player.entry p ≤ 1 → EndedAt player k p e →
    EndsDrawn player.arena player.side e
drawn_end player k p e line c end =
    elim end [
      | wrong d f ↦ subst (λ z. EndsDrawn player.arena player.side z) (sym f) tt
      | fails a f g ↦ absurd (let h = failure_above (player.entry p) f in omega (arith, c, h))
      | broken s b f ↦ subst (λ z. EndsDrawn player.arena player.side z) (sym f) tt
      | mated s m b f ↦ elim (mate_code player p m s.agrees b) [
        | inl three ↦ absurd (omega (arith, c, three))
        | inr two ↦ absurd (let h = two.1 in omega (arith, c, h))
      ]
      | stale s m b f ↦ subst (λ z. EndsDrawn player.arena player.side z) (sym f) tt
      | cut s t f ↦ subst (λ z. EndsDrawn player.arena player.side z) (sym f) tt
      | stopped l r f ↦ absurd (cc)
    ]

drawn_after : {M N V S R : Type 0} (player : Player M N V S R) (k : ℕ) (s t : S)
    (xs : List (Ply M N V)) (e : End N V R)
    → ((q : N) → player.entry q ≤ 1 → IsWay player k s q xs e t
    → EndsDrawn player.arena player.side e) → (y : Next N V)
    → next_code player.arena player.side player.entry y ≤ 1
    → LeadsTo (λ q. IsWay player k s q xs e t) (λ v. (xs ≡ []) × (e ≡ Exit v) × (t ≡ s)) y
    → EndsDrawn player.arena player.side e
drawn_after player k s t xs e ih (Inside q) f h = ih q f h
drawn_after player k s t xs e ih (Outside v) f h =
    subst (λ z. EndsDrawn player.arena player.side z) (sym h.1)
    (safe_exit (player.arena.class v player.side) (player.arena.lag v) f)

-- a ply of a line at a hold leads to a hold, or to code 0
holds_on : {M N V S R : Type 0} (player : Player M N V S R) (x : Ply M N V) →
    is_line player.opponent ≡ true → player.entry x.from ≤ 1 → IsPlyOf player x →
    (player.entry x.from ≡ 1) × (arm_code player.arena player.side player.entry x.arm ≤ 1)
holds_on player x line c ply =
    let one : player.entry x.from ≡ 1 = elim (ply.stands) [
      | inl w ↦ absurd (let h = win_above (player.entry x.from) w in omega (arith, c, h))
      | inr h ↦ h
    ] in (
      one,
      ply.best_hold
          (or_right (same_colour x.mover player.side) (is_line player.opponent) line) one,
    )

pub drawn_way : {M N V S R : Type 0} (player : Player M N V S R) (k : ℕ) (s t : S) (p : N)
    (xs : List (Ply M N V)) (e : End N V R) → is_line player.opponent ≡ true → player.entry p ≤ 1
    → IsWay player k s p xs e t → EndsDrawn player.arena player.side e
drawn_way player k s t p [] e line c w = drawn_end player k p e line c (ended player k s t p e w)
drawn_way player k s t p (x ∷ xs) e line c w =
    let ply = first_ply player k s t p x xs e (inr (small_is_no_failure (player.entry p) c)) w in
    drawn_after player (suc k) w.2.0 t xs e
    (λ q f u. drawn_way player (suc k) w.2.0 t q xs e line f u) x.arm.next
    (holds_on player x line (subst (λ q. player.entry q ≤ 1) (sym w.0) c) ply).1 w.2.2

-- how many plies a line from a hold has
same_most : {N S R : Type 0} (m most : ℕ)
    → (let x : Opponent N S R = ByCodes m in let y : Opponent N S R = ByCodes most in x ≡ y)
    → m ≡ most
same_most m most o = cc

pub not_yet : {N S R : Type 0} (opponent : Opponent N S R) (most k c : ℕ) →
    opponent ≡ ByCodes most → c ≡ 1 → is_cut opponent k c ≡ false → k < most
not_yet (ByCodes m) most k c o e f =
    let g : ((1 == 1) && nat_le m k) ≡ false = subst (λ z. ((z == 1) && nat_le m k) ≡ false) e f in
    let h : m ≡ most = same_most m most o in
    let l = before_cut m k g in
    omega (arith, h, l)
not_yet (ByInput read) most k c o e f = absurd (cc)

-- a line is cut no sooner than after so many plies
now_cut : {N S R : Type 0} (opponent : Opponent N S R) (most k c : ℕ) → opponent ≡ ByCodes most →
    is_cut opponent k c ≡ true → most ≤ k
now_cut opponent most k c o t = at_cut most k (c == 1) (subst (λ z. is_cut z k c ≡ true) o t)

cut_when : {M N V S R : Type 0} (player : Player M N V S R) (most k : ℕ) (p : N) (e : End N V R) →
    player.opponent ≡ ByCodes most → EndedAt player k p e → e ≡ Cut → most ≤ k
cut_when player most k p e o end g =
    elim end [
      | wrong d f ↦ absurd (cc)
      | fails a f h ↦ absurd (cc)
      | broken s b f ↦ absurd (cc)
      | mated s m b f ↦ absurd (cc)
      | stale s m b f ↦ absurd (cc)
      | cut s t f ↦ now_cut player.opponent most k (player.entry p) o t
      | stopped l r f ↦ absurd (cc)
    ]

pub line_of : {N S R : Type 0} (opponent : Opponent N S R) (most : ℕ) → opponent ≡ ByCodes most →
    is_line opponent ≡ true
line_of opponent most o = rw o refl

cut_after : {M N V S R : Type 0} (player : Player M N V S R) (most k : ℕ) (s t : S) (x : Ply M N V)
    (xs : List (Ply M N V)) (e : End N V R) → suc k ≤ most
    → ((q : N) → player.entry q ≤ 1 → IsWay player (suc k) s q xs e t → (suc k + length xs ≤ most)
    × (e ≡ Cut → suc k + length xs ≡ most)) → (y : Next N V)
    → next_code player.arena player.side player.entry y ≤ 1
    → LeadsTo (λ q. IsWay player (suc k) s q xs e t) (λ v. (xs ≡ []) × (e ≡ Exit v) × (t ≡ s)) y
    → (k + length (x ∷ xs) ≤ most) × (e ≡ Cut → k + length (x ∷ xs) ≡ most)
cut_after player most k s t x xs e l ih (Inside q) f h =
    let r = ih q f h in
    ((let a = r.0 in omega (arith, a)), λ g. (let a = r.1 g in omega (arith, a)))
cut_after {M} {N} {V} player most k s t x xs e l ih (Outside v) f h =
    let none : length xs ≡ 0 = ap (λ (ys : List (Ply M N V)). length ys) h.0 in
    let o = h.1 in
    (omega (arith, none, l), λ g. absurd (cc))

pub cut_way : {M N V S R : Type 0} (player : Player M N V S R) (most k : ℕ) (s t : S) (p : N)
    (xs : List (Ply M N V)) (e : End N V R) → player.opponent ≡ ByCodes most → k ≤ most
    → player.entry p ≤ 1 → IsWay player k s p xs e t → (k + length xs ≤ most)
    × (e ≡ Cut → k + length xs ≡ most)
cut_way player most k s t p [] e o l c w = (
  omega (arith, l),
  λ g. (let h = cut_when player most k p e o (ended player k s t p e w) g in omega (arith, l, h)),
)
cut_way player most k s t p (x ∷ xs) e o l c w =
    let ply = first_ply player k s t p x xs e (inr (small_is_no_failure (player.entry p) c)) w in
    let on = holds_on player x (line_of player.opponent most o)
    (subst (λ q. player.entry q ≤ 1) (sym w.0) c) ply in
    let one : player.entry p ≡ 1 = subst (λ q. player.entry q ≡ 1) w.0 on.0 in
    let less = not_yet player.opponent most k (player.entry p) o one
    (moving player k p x.mover w.1).2 in
    cut_after player most k w.2.0 t x xs e (omega (arith, less))
    (λ q f u. cut_way player most (suc k) w.2.0 t q xs e o (omega (arith, less)) f u) x.arm.next
    on.1 w.2.2
