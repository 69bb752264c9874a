-- How the plies of a way follow each other.
use Rattle.std.proofs.Common.{◌≡◌, ◌≤◌, ◌+◌, ℕ, zero, suc, inl, inr, true, List, [], ◌∷◌, length, Some, refl, sym, subst, ap, arith}
use Rattle.std.specs.Prelude.{slice_get}
use Rattle.frz_arena.specs.declared.arm.Next.{Next}
use Rattle.frz_arena.specs.declared.arm.Next.TheVariants.{Inside, Outside}
use Rattle.frz_arena.specs.Codes.{is_win}
use Rattle.frz_arena.specs.LocalCodes.{next_code}
use Rattle.frz_arena.specs.Plies.{LeadsTo}
use Rattle.frz_arena.specs.WayEnds.{End, Exit}
use Rattle.frz_arena.specs.Ways.{Player, Ply, is_by_codes, IsWay}
use Rattle.frz_arena.proofs.LocalCodes.ChosenCodes.{win_above}
use Rattle.frz_arena.proofs.Lists.FirstOnes.{at_in}
use Rattle.frz_arena.proofs.Ways.EachPly.{each_ply}
use Rattle.frz_arena.proofs.Ways.WayParts.{EndedAt, wrong, fails, broken, mated, stale, cut, stopped, ended}

-- the first ply is from the start
pub starts_at : {M N V S R : Type 0} (player : Player M N V S R) (k : ℕ) (s t : S) (p : N)
    (xs : List (Ply M N V)) (e : End N V R) → IsWay player k s p xs e t → (x : Ply M N V)
    → slice_get xs 0 ≡ Some x → x.from ≡ p
starts_at player k s t p [] e w x h = absurd (cc)
starts_at {M} {N} {V} player k s t p (y ∷ xs) e w x h =
    let f : y ≡ x = cc in subst (λ (z : Ply M N V). z.from ≡ p) f w.0

behind : {M N V S R : Type 0} (player : Player M N V S R) (k : ℕ) (s t : S) (xs : List (Ply M N V))
    (e : End N V R) (y : Next N V)
    → LeadsTo (λ q. IsWay player k s q xs e t) (λ v. (xs ≡ []) × (e ≡ Exit v) × (t ≡ s)) y
    → (x : Ply M N V) → slice_get xs 0 ≡ Some x → y ≡ Inside x.from
behind player k s t xs e (Inside q) h x i = ap Inside (sym (starts_at player k s t q xs e h x i))
behind player k s t xs e (Outside v) h x i =
    absurd (let f = h.0 in let g : slice_get [] 0 ≡ Some x = subst (λ ys. slice_get ys 0 ≡ Some x) f
    i in cc)

-- what a way has behind its first ply
record Behind {M N V S R : Type 0} (player : Player M N V S R) (k : ℕ) (t : S)
    (xs : List (Ply M N V)) (e : End N V R) : Type 0 where
  pub left : S
  pub start : N
  pub way : IsWay player k left start xs e t

inside : {M N V S R : Type 0} (player : Player M N V S R) (k : ℕ) (s t : S) (x : Ply M N V)
    (xs : List (Ply M N V)) (e : End N V R) (y : Next N V)
    → LeadsTo (λ q. IsWay player k s q (x ∷ xs) e t) (λ v. ((x ∷ xs) ≡ []) × (e ≡ Exit v) × (t ≡ s))
    y → Behind player k t (x ∷ xs) e
inside player k s t x xs e (Inside q) h = record { left = s; start = q; way = h }
inside player k s t x xs e (Outside v) h = absurd (let f = h.0 in cc)

-- each ply leads to the position of the next
pub follow : {M N V S R : Type 0} (player : Player M N V S R) (k : ℕ) (s t : S) (p : N)
    (xs : List (Ply M N V)) (e : End N V R) → IsWay player k s p xs e t → (i : ℕ) (x y : Ply M N V)
    → slice_get xs i ≡ Some x → slice_get xs (suc i) ≡ Some y → x.arm.next ≡ Inside y.from
follow player k s t p [] e w i x y h g = absurd (cc)
follow {M} {N} {V} player k s t p (z ∷ xs) e w zero x y h g =
    let f : z ≡ x = cc in
    subst (λ (u : Ply M N V). u.arm.next ≡ Inside y.from) f
    (behind player (suc k) w.2.0 t xs e z.arm.next w.2.2 y g)
follow player k s t p (z ∷ []) e w (suc i) x y h g = absurd (cc)
follow player k s t p (z ∷ (u ∷ xs)) e w (suc i) x y h g =
    let r = inside player (suc k) w.2.0 t u xs e z.arm.next w.2.2 in
    follow player (suc k) r.left t r.start (u ∷ xs) e r.way i x y h g

no_exit : {M N V S R : Type 0} (player : Player M N V S R) (k : ℕ) (p : N) (v : V) →
    EndedAt player k p (Exit v) → ⊥
no_exit player k p v end =
    elim end [
      | wrong d f ↦ cc
      | fails a f h ↦ cc
      | broken s b f ↦ cc
      | mated s m b f ↦ cc
      | stale s m b f ↦ cc
      | cut s t f ↦ cc
      | stopped l r f ↦ cc
    ]

last_exit : {M N V S R : Type 0} (player : Player M N V S R) (k : ℕ) (s t : S) (v : V)
    (y : Next N V) → LeadsTo (λ q. IsWay player k s q [] (Exit v) t)
    (λ w. (let xs : List (Ply M N V) = [] in xs ≡ []) × (let e : End N V R = Exit v in e ≡ Exit w)
    × (t ≡ s)) y → y ≡ Outside v
last_exit player k s t v (Inside q) h =
    absurd (no_exit player k q v (ended player k s t q (Exit v) h))
last_exit player k s t v (Outside w) h = let e = h.1 in cc

-- an exit is where the last ply leads
pub exits_last : {M N V S R : Type 0} (player : Player M N V S R) (k : ℕ) (s t : S) (p : N)
    (xs : List (Ply M N V)) (v : V) → IsWay player k s p xs (Exit v) t → (x : Ply M N V)
    × ((i : ℕ) × (suc i ≡ length xs) × (slice_get xs i ≡ Some x)) × (x.arm.next ≡ Outside v)
exits_last player k s t p [] v w = absurd (no_exit player k p v (ended player k s t p (Exit v) w))
exits_last player k s t p (z ∷ []) v w =
    (z, (zero, refl, refl), last_exit player (suc k) w.2.0 t v z.arm.next w.2.2)
exits_last player k s t p (z ∷ (u ∷ xs)) v w =
    let b = inside player (suc k) w.2.0 t u xs (Exit v) z.arm.next w.2.2 in
    let r = exits_last player (suc k) b.left t b.start (u ∷ xs) v b.way in
    (r.0, (suc r.1.0, ap suc r.1.1, r.1.2), r.2)

-- a win stays a win, of at least one ply less; a hold stays one where the codes find the ply
pub win_follows : {M N V S R : Type 0} (player : Player M N V S R) (s t : S) (p : N)
    (xs : List (Ply M N V)) (e : End N V R) → IsWay player 0 s p xs e t → (i : ℕ) (x y : Ply M N V)
    → slice_get xs i ≡ Some x → slice_get xs (suc i) ≡ Some y → is_win (player.entry x.from) ≡ true
    → (is_win (player.entry y.from) ≡ true) × (player.entry y.from + 2 ≤ player.entry x.from)
win_follows {M} {N} {V} player s t p xs e w i x y h g win =
    let ply = each_ply player 0 s t p xs e (inl refl) w x (at_in xs i x h) in
    let next = follow player 0 s t p xs e w i x y h g in
    let keeps = ply.win win in (
      subst (λ (z : Next N V). is_win (next_code player.arena player.side player.entry z) ≡ true)
          next keeps.0,
      subst
          (λ (z : Next N V). next_code player.arena player.side player.entry z + 2 ≤ player.entry
          x.from)
          next keeps.1,
    )

pub hold_follows : {M N V S R : Type 0} (player : Player M N V S R) (s t : S) (p : N)
    (xs : List (Ply M N V)) (e : End N V R) → IsWay player 0 s p xs e t → (i : ℕ) (x y : Ply M N V)
    → slice_get xs i ≡ Some x → slice_get xs (suc i) ≡ Some y → is_by_codes player x.mover ≡ true
    → player.entry x.from ≡ 1 → player.entry y.from ≡ 1
hold_follows {M} {N} {V} player s t p xs e w i x y h g best hold =
    let ply = each_ply player 0 s t p xs e (inl refl) w x (at_in xs i x h) in
    let after = each_ply player 0 s t p xs e (inl refl) w y (at_in xs (suc i) y g) in
    let next = follow player 0 s t p xs e w i x y h g in
    let small = subst (λ (z : Next N V). next_code player.arena player.side player.entry z ≤ 1) next
    (ply.best_hold best hold) in
    elim (after.stands) [
      | inl v ↦ absurd
          (let l = win_above (player.entry y.from) v in omega (arith, small, l))
      | inr o ↦ o
    ]
