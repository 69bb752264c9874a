-- A way by its named cases is a way by recursion over its plies.
use Rattle.std.proofs.Common.{◌≡◌, ◌||◌, ℕ, suc, inl, inr, Bool, true, false, List, [], ◌∷◌, refl, sym, subst}
use Rattle.frz_board.specs.declared.man.Colour.{Colour}
use Rattle.frz_board.specs.Men.{same_colour}
use Rattle.frz_arena.specs.declared.arm.Next.{Next}
use Rattle.frz_arena.specs.declared.arm.Next.TheVariants.{Inside, Outside}
use Rattle.frz_arena.specs.Plies.{LeadsTo}
use Rattle.frz_arena.specs.Chosen.{IsChosen}
use Rattle.frz_arena.specs.WayEnds.{End, Exit}
use Rattle.frz_arena.specs.Ways.{Player, Ply, Moves, Opponent, ByCodes, ByInput, is_line, is_by_codes, IsTakenBy, IsTaken, IsStopBy, stage, IsWay}
use Rattle.frz_arena.specs.WayCases.{Played, by_codes, by_input, Way, over, stopped, goes_on, leaves}
use Rattle.frz_arena.proofs.Ways.SessionsEnd.{taken_read, stop_read}

module _ {M N V S R : Type 0} (player : Player M N V S R) where
  -- a ply that the codes ask for
  taken_by_codes : (own : Bool) (opponent : Opponent N S R) (s t : S) (x : Ply M N V) →
      (own || is_line opponent) ≡ true →
      IsChosen player.arena player.side player.entry x.mover x.from x.place x.arm →
      x.refused ≡ 0 → t ≡ s → IsTakenBy player own opponent s x t
  taken_by_codes true opponent s t x b chosen none same = (chosen, none, same)
  taken_by_codes false (ByCodes most) s t x b chosen none same = (chosen, none, same)
  taken_by_codes false (ByInput read) s t x b chosen none same = absurd (cc)

  pub taken_is : (s t : S) (x : Ply M N V) → Played player s x t → IsTaken player s x t
  taken_is s t x (by_codes b chosen none same) =
      taken_by_codes (same_colour x.mover player.side) player.opponent s t x b chosen none same
  taken_is s t x (by_input read o theirs there replies) =
      taken_read player (same_colour x.mover player.side) player.opponent read s t x theirs o there
      replies

  played_by : (own : Bool) (opponent : Opponent N S R) (s t : S) (x : Ply M N V) →
      same_colour x.mover player.side ≡ own → player.opponent ≡ opponent →
      IsTakenBy player own opponent s x t → Played player s x t
  played_by true opponent s t x e o h =
      let b : is_by_codes player x.mover ≡ true = rw e refl in by_codes b h.0 h.1 h.2
  played_by false (ByCodes most) s t x e o h =
      let b : is_by_codes player x.mover ≡ true = rw (e, o) refl in by_codes b h.0 h.1 h.2
  played_by false (ByInput read) s t x e o h = by_input read o e h.0 h.1

  pub played_is : (s t : S) (x : Ply M N V) → IsTaken player s x t → Played player s x t
  played_is s t x h =
      played_by (same_colour x.mover player.side) player.opponent s t x refl refl h

  pub of_cases : (k : ℕ) (s t : S) (p : N) (xs : List (Ply M N V)) (e : End N V R) →
      Way player k s p xs e t → IsWay player k s p xs e t
  of_cases k s t p xs e (over o) = inl (o, refl)
  of_cases k s t p xs e (stopped mover read reason o b theirs stops) =
      inr (
        mover,
        o,
        stop_read V (same_colour mover player.side) player.opponent read s t p reason theirs b
            stops,
      )
  of_cases k s t p xs e (goes_on {xs = ys} x u q from o played next way) = (
    from,
    o,
    (
      u,
      taken_is s u x played,
      subst (λ y. LeadsTo (λ r. IsWay player (suc k) u r ys e t)
          (λ v. (ys ≡ []) × (e ≡ Exit v) × (t ≡ u)) y) (sym next)
          (of_cases (suc k) u t q ys e way),
    ),
  )
  of_cases k s t p xs e (leaves x w from o played next) =
      let none : List (Ply M N V) = [] in
      let out : End N V R = Exit w in (
        from,
        o,
        (
          t,
          taken_is s t x played,
          subst (λ y. LeadsTo (λ r. IsWay player (suc k) t r none out t)
              (λ v. (none ≡ []) × (out ≡ Exit v) × (t ≡ t)) y) (sym next) (refl, refl, refl),
        ),
      )

  stop_case : (own : Bool) (opponent : Opponent N S R) (k : ℕ) (s t : S) (p : N) (e : End N V R)
      (mover : Colour) → same_colour mover player.side ≡ own → player.opponent ≡ opponent →
      stage player k p ≡ Moves mover → IsStopBy own opponent s p e t → Way player k s p [] e t
  stop_case true opponent k s t p e mover c b o h = absurd h
  stop_case false (ByCodes most) k s t p e mover c b o h = absurd h
  stop_case false (ByInput read) k s t p e mover c b o h =
      subst (λ z. Way player k s p [] z t) (sym h.1) (stopped mover read h.0 o b c h.2)

  last_case : (k : ℕ) (s t u : S) (p : N) (x : Ply M N V) (xs : List (Ply M N V)) (e : End N V R)
      (v : V) → x.from ≡ p → stage player k p ≡ Moves x.mover → Played player s x u →
      x.arm.next ≡ Outside v → xs ≡ [] → e ≡ Exit v → t ≡ u → Way player k s p (x ∷ xs) e t
  last_case k s t u p x xs e v from o played next none out left =
      rw (none, out, left) (leaves x v from o played next)

  after_case : (k : ℕ) (s t u : S) (p : N) (x : Ply M N V) (xs : List (Ply M N V))
      (e : End N V R) → ((q : N) → IsWay player (suc k) u q xs e t
      → Way player (suc k) u q xs e t) → x.from ≡ p → stage player k p ≡ Moves x.mover →
      Played player s x u → (y : Next N V) → x.arm.next ≡ y →
      LeadsTo (λ q. IsWay player (suc k) u q xs e t) (λ v. (xs ≡ []) × (e ≡ Exit v) × (t ≡ u)) y →
      Way player k s p (x ∷ xs) e t
  after_case k s t u p x xs e ih from o played (Inside q) next h =
      goes_on x u q from o played next (ih q h)
  after_case k s t u p x xs e ih from o played (Outside v) next h =
      last_case k s t u p x xs e v from o played next h.0 h.1 h.2

  pub by_cases : (k : ℕ) (s t : S) (p : N) (xs : List (Ply M N V)) (e : End N V R) →
      IsWay player k s p xs e t → Way player k s p xs e t
  by_cases k s t p [] e (inl h) =
      subst (λ u. Way player k s p [] e u) (sym h.1) (over h.0)
  by_cases k s t p [] e (inr h) =
      stop_case (same_colour h.0 player.side) player.opponent k s t p e h.0 refl refl h.1 h.2
  by_cases k s t p (x ∷ xs) e w =
      after_case k s t w.2.0 p x xs e (λ q h. by_cases (suc k) w.2.0 t q xs e h) w.0 w.1
      (played_is s w.2.0 x w.2.1) x.arm.next refl w.2.2
