-- A way is unique.
use Rattle.std.proofs.Common.{◌≡◌, ℕ, suc, inl, inr, Bool, true, false, List, [], ◌∷◌, Some, refl, sym, subst, ap, ◌∙◌}
use Rattle.std.specs.Prelude.{slice_get}
use Rattle.frz_board.specs.declared.man.Colour.{Colour}
use Rattle.frz_board.specs.Men.{same_colour}
use Rattle.frz_arena.specs.declared.arm.Arm.{Arm}
use Rattle.frz_arena.specs.declared.arm.Next.{Next}
use Rattle.frz_arena.specs.declared.arm.Next.TheVariants.{Inside, Outside}
use Rattle.frz_arena.specs.Arena.{Arena}
use Rattle.frz_arena.specs.Codes.{is_win}
use Rattle.frz_arena.specs.Plies.{LeadsTo}
use Rattle.frz_arena.specs.Chosen.{is_candidate, IsChosen}
use Rattle.frz_arena.specs.WayEnds.{End, Exit}
use Rattle.frz_arena.specs.Ways.{Player, Ply, Stage, Over, Moves, Opponent, ByCodes, ByInput, IsTakenBy, IsStopBy, IsWay}
use Rattle.frz_arena.proofs.Lists.FirstOnes.{one_found, one_at}

pub one_chosen : {M N V : Type 0} (arena : Arena M N V) (side : Colour) (entry : N → ℕ)
    (mover : Colour) (p : N) (i j : ℕ) (a b : Arm M N V) → IsChosen arena side entry mover p i a
    → IsChosen arena side entry mover p j b → (i ≡ j) × (a ≡ b)
one_chosen arena side entry mover p i j a b f h =
    one_found (is_candidate arena side entry mover) (is_win (entry p)) (entry p) (arena.arms p) i j
    a b f h

-- the choice does not depend on the ply but for its mover and position
chosen_at : {M N V : Type 0} (arena : Arena M N V) (side : Colour) (entry : N → ℕ)
    (mover turn : Colour) (p q : N) (i : ℕ) (a : Arm M N V) → mover ≡ turn → p ≡ q
    → IsChosen arena side entry mover p i a → IsChosen arena side entry turn q i a
chosen_at arena side entry mover turn p q i a e f h =
    subst (λ r. IsChosen arena side entry turn r i a) f
    (subst (λ m. IsChosen arena side entry m p i a) e h)

one_taken : {M N V S R : Type 0} (player : Player M N V S R) (own : Bool)
    (opponent : Opponent N S R) (s t u : S) (x y : Ply M N V) → x.mover ≡ y.mover → x.from ≡ y.from
    → IsTakenBy player own opponent s x t → IsTakenBy player own opponent s y u
    → (x.place ≡ y.place) × (x.arm ≡ y.arm) × (x.refused ≡ y.refused) × (t ≡ u)
one_taken player true opponent s t u x y m e a b =
    let r = one_chosen player.arena player.side player.entry y.mover y.from x.place y.place x.arm
    y.arm (chosen_at player.arena player.side player.entry x.mover y.mover x.from y.from x.place
    x.arm m e a.0) b.0 in
    (r.0, r.1, a.1 ∙ sym b.1, a.2 ∙ sym b.2)
one_taken player false (ByCodes most) s t u x y m e a b =
    let r = one_chosen player.arena player.side player.entry y.mover y.from x.place y.place x.arm
    y.arm (chosen_at player.arena player.side player.entry x.mover y.mover x.from y.from x.place
    x.arm m e a.0) b.0 in
    (r.0, r.1, a.1 ∙ sym b.1, a.2 ∙ sym b.2)
one_taken player false (ByInput read) s t u x y m e a b =
    let f = a.1 in
    let g = b.1 in
    let i : x.place ≡ y.place = cc in
    let l : t ≡ u = cc in
    let h : slice_get (player.arena.arms y.from) y.place ≡ Some x.arm = subst
    (λ k. slice_get (player.arena.arms y.from) k ≡ Some x.arm) i
    (subst (λ q. slice_get (player.arena.arms q) x.place ≡ Some x.arm) e a.0) in
    let n : x.refused ≡ y.refused = cc in
    (i, one_at (player.arena.arms y.from) y.place x.arm y.arm h b.0, n, l)

one_stop : {N V S R : Type 0} (own : Bool) (opponent : Opponent N S R) (s t u : S) (p : N)
    (e f : End N V R) → IsStopBy {V = V} own opponent s p e t
    → IsStopBy {V = V} own opponent s p f u → (e ≡ f) × (t ≡ u)
one_stop true opponent s t u p e f a b = absurd a
one_stop false (ByCodes most) s t u p e f a b = absurd a
one_stop false (ByInput read) s t u p e f a b =
    let g = a.1 in let h = b.1 in let k = a.2 in let l = b.2 in (cc, cc)

stop_or_taken : {M N V S R : Type 0} (player : Player M N V S R) (own : Bool)
    (opponent : Opponent N S R) (s t u : S) (p : N) (e : End N V R) (x : Ply M N V) → x.from ≡ p
    → IsStopBy {V = V} own opponent s p e t → IsTakenBy player own opponent s x u → ⊥
stop_or_taken player true opponent s t u p e x f a b = a
stop_or_taken player false (ByCodes most) s t u p e x f a b = a
stop_or_taken player false (ByInput read) s t u p e x f a b = let g = a.2 in let h = b.1 in cc

same_moves : {N V R : Type 0} {x : Stage N V R} (a b : Colour) → x ≡ Moves a → x ≡ Moves b → a ≡ b
same_moves a b e f = cc

ended_or_goes : {N V R : Type 0} {x : Stage N V R} (end : End N V R) (a : Colour) → x ≡ Over end →
    x ≡ Moves a → ⊥
ended_or_goes end a e f = cc

same_end : {N V R : Type 0} {x : Stage N V R} (a b : End N V R) → x ≡ Over a → x ≡ Over b → a ≡ b
same_end a b e f = cc

same_parts : {M N V : Type 0} (p q : N) (i j : ℕ) (a b : Arm M N V) (m n : Colour) (c d : ℕ) → p ≡ q
    → i ≡ j → a ≡ b → m ≡ n → c ≡ d
    → (let x : Ply M N V = record { from = p; place = i; arm = a; mover = m; refused = c } in
    let y : Ply M N V = record { from = q; place = j; arm = b; mover = n; refused = d } in x ≡ y)
same_parts p q i j a b m n c d e f g h k = cc

same_ply : {M N V : Type 0} (x y : Ply M N V) → x.from ≡ y.from → x.place ≡ y.place →
    x.arm ≡ y.arm → x.mover ≡ y.mover → x.refused ≡ y.refused → x ≡ y
same_ply {M} {N} {V} x y a b c d e =
    same_parts x.from y.from x.place y.place x.arm y.arm x.mover y.mover x.refused y.refused a b c d
    e

same_exit : {M N V S R : Type 0} (v : V) (xs ys : List (Ply M N V)) (e f : End N V R) (t u w : S) →
    (xs ≡ []) × (e ≡ Exit v) × (t ≡ w) → (ys ≡ []) × (f ≡ Exit v) × (u ≡ w) →
    (xs ≡ ys) × (e ≡ f) × (t ≡ u)
same_exit v xs ys e f t u w a b = (a.0 ∙ sym b.0, a.1 ∙ sym b.1, a.2 ∙ sym b.2)

one_after : {M N V S R : Type 0} (player : Player M N V S R) (k : ℕ) (s t u : S)
    (xs ys : List (Ply M N V)) (e f : End N V R)
    → ((p : N) → IsWay player k s p xs e t → IsWay player k s p ys f u → (xs ≡ ys) × (e ≡ f)
    × (t ≡ u)) → (x : Next N V)
    → LeadsTo (λ q. IsWay player k s q xs e t) (λ v. (xs ≡ []) × (e ≡ Exit v) × (t ≡ s)) x
    → LeadsTo (λ q. IsWay player k s q ys f u) (λ v. (ys ≡ []) × (f ≡ Exit v) × (u ≡ s)) x
    → (xs ≡ ys) × (e ≡ f) × (t ≡ u)
one_after player k s t u xs ys e f ih (Inside q) a b = ih q a b
one_after player k s t u xs ys e f ih (Outside v) a b = same_exit v xs ys e f t u s a b

pub one_way : {M N V S R : Type 0} (player : Player M N V S R) (k : ℕ) (s t u : S) (p : N)
    (xs ys : List (Ply M N V)) (e f : End N V R) → IsWay player k s p xs e t
    → IsWay player k s p ys f u → (xs ≡ ys) × (e ≡ f) × (t ≡ u)
one_way player k s t u p [] [] e f (inl a) (inl b) = (refl, same_end e f a.0 b.0, a.1 ∙ sym b.1)
one_way player k s t u p [] [] e f (inl a) (inr b) = absurd (ended_or_goes e b.0 a.0 b.1)
one_way player k s t u p [] [] e f (inr a) (inl b) = absurd (ended_or_goes f a.0 b.0 a.1)
one_way player k s t u p [] [] e f (inr a) (inr b) =
    let m = same_moves b.0 a.0 b.1 a.1 in
    let r = one_stop (same_colour a.0 player.side) player.opponent s t u p e f a.2
    (subst (λ c. IsStopBy (same_colour c player.side) player.opponent s p f u) m b.2) in
    (refl, r.0, r.1)
one_way player k s t u p [] (y ∷ ys) e f (inl a) b = absurd (ended_or_goes e y.mover a.0 b.1)
one_way player k s t u p [] (y ∷ ys) e f (inr a) b =
    let m = same_moves a.0 y.mover a.1 b.1 in
    absurd (stop_or_taken player (same_colour y.mover player.side) player.opponent s t b.2.0 p e y
    b.0 (subst (λ c. IsStopBy (same_colour c player.side) player.opponent s p e t) m a.2) b.2.1)
one_way player k s t u p (x ∷ xs) [] e f a (inl b) = absurd (ended_or_goes f x.mover b.0 a.1)
one_way player k s t u p (x ∷ xs) [] e f a (inr b) =
    let m = same_moves b.0 x.mover b.1 a.1 in
    absurd (stop_or_taken player (same_colour x.mover player.side) player.opponent s u a.2.0 p f x
    a.0 (subst (λ c. IsStopBy (same_colour c player.side) player.opponent s p f u) m b.2) a.2.1)
one_way {S = S} player k s t u p (x ∷ xs) (y ∷ ys) e f a b =
    let m = same_moves x.mover y.mover a.1 b.1 in
    let from : x.from ≡ y.from = a.0 ∙ sym b.0 in
    let r = one_taken player (same_colour x.mover player.side) player.opponent s a.2.0 b.2.0 x y m
    from a.2.1 (subst
    (λ c. IsTakenBy player (same_colour c player.side) player.opponent s y b.2.0)
    (sym m) b.2.1) in
    let go = one_after player (suc k) a.2.0 t u xs ys e f
    (λ q. one_way player (suc k) a.2.0 t u q xs ys e f) x.arm.next a.2.2
    (subst (λ c. LeadsTo (λ q. IsWay player (suc k) a.2.0 q ys f u)
    (λ v. (ys ≡ []) × (f ≡ Exit v) × (u ≡ a.2.0)) c.next) (sym r.1)
    (subst (λ (w : S). LeadsTo (λ q. IsWay player (suc k) w q ys f u)
    (λ v. (ys ≡ []) × (f ≡ Exit v) × (u ≡ w)) y.arm.next) (sym r.3) b.2.2)) in
    let z = same_ply x y from r.0 r.1 m r.2 in
    (subst (λ w. (x ∷ xs) ≡ (w ∷ ys)) z (ap (λ l. x ∷ l) go.0), go.1, go.2)
