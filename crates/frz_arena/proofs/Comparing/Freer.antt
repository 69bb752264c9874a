-- Fewer restrictions, better values and a larger set never hurt.
use Rattle.std.proofs.Common.{◌≡◌, ℕ, zero, suc, inl, inr, true, false, refl, sym, subst, ap, ◌∙◌, arith}
use Rattle.std.specs.List.{Contains}
use Rattle.std.proofs.lemmas.Bool.{cases_lt}
use Rattle.frz_board.specs.declared.man.Colour.{Colour}
use Rattle.frz_board.specs.Men.{other_of}
use Rattle.frz_arena.specs.declared.node.Node.TheVariants.{Mate, Going}
use Rattle.frz_arena.specs.declared.arm.Arm.{Arm}
use Rattle.frz_arena.specs.declared.bound.Bound.{Bound}
use Rattle.frz_arena.specs.declared.bound.Bound.TheVariants.{Wins, Holds, Fails}
use Rattle.frz_arena.specs.Arena.{IsArm}
use Rattle.frz_arena.specs.Bounds.{IsBound}
use Rattle.frz_arena.specs.Chess.{Chess}
use Rattle.frz_arena.specs.Comparing.{IsNoWorse, IsAtLeast}
use Rattle.frz_arena.specs.Exits.{IsExit}
use Rattle.frz_arena.specs.Games.{Game, arm_of, arena_of}
use Rattle.frz_arena.specs.Plies.{LeadsTo, IsGoodExit, IsBadExit, WinsWithin, FailsWithin}
use Rattle.frz_arena.proofs.Lists.Members.{passes_or_none}
use Rattle.frz_arena.proofs.Plies.NeverBoth.{never_both}
use Rattle.frz_arena.proofs.Plies.NodeKinds.{good_or_bad}
use Rattle.frz_arena.proofs.Plies.Opposed.{fails_at_once}
use Rattle.frz_arena.proofs.Forcing.WinsForced.{goes, mated_by, is_mate, is_going, leads_inside, leads_by, move_of, arm_at}
use Rattle.frz_arena.proofs.Exactness.ExactWins.{an_element}

-- the second game with the chess of the first
abbrev pub over : {P M W : Type 0} → Chess P M → Game P M W → Game P M W
over chess second = record {
  chess = chess;
  member = second.member;
  free = second.free;
  value = second.value;
  class = second.class;
  lag = second.lag;
  numbered = second.numbered;
}

module _ {P M V W : Type 0} (first : Game P M V) (other : Game P M W) (side : Colour)
    (better : IsNoWorse first other side) where
  -- an arm of the first game that is good is good in the second
  good_arm : (n : ℕ) →
      ((q : P) → WinsWithin (arena_of first) side n q
      → WinsWithin (arena_of (over first.chess other)) side n q) →
      (p : P) (m : M) → first.member p ≡ true → Contains (first.chess.moves p) m →
      LeadsTo (WinsWithin (arena_of first) side n) (IsGoodExit (arena_of first) side n)
      (arm_of first p m).next →
      LeadsTo (WinsWithin (arena_of (over first.chess other)) side n)
      (IsGoodExit (arena_of (over first.chess other)) side n)
      (arm_of (over first.chess other) p m).next
  good_arm n ih p m b i h =
      let q = first.chess.play p m in
      elim (leads_by (WinsWithin (arena_of first) side n) (IsGoodExit (arena_of first) side n)
      (first.member q) q (first.value q) h) [
        | inl w ↦ leads_inside (WinsWithin (arena_of (over first.chess other)) side n)
            (IsGoodExit (arena_of (over first.chess other)) side n) (other.member q) q
            (other.value q) (λ _. ih q w.1)
            (λ o. absurd (let e = better.member q w.0 in cc))
        | inr w ↦ (
            let x : IsExit first q = record {
              from = p;
              move = m;
              begins = b;
              legal = i;
              ends = refl;
              outside = w.0;
            } in
            let g = w.1 in
            leads_inside (WinsWithin (arena_of (over first.chess other)) side n)
            (IsGoodExit (arena_of (over first.chess other)) side n) (other.member q) q
            (other.value q)
            (λ e. absurd (good_or_bad g.0 (better.larger q x e)))
            (λ o. (let k = better.good q x o g.0 in
            let l = g.1 in let s = k.1 in (k.0, omega arith))))
      ]

  pub wins_stay_won : (n : ℕ) (p : P) → WinsWithin (arena_of first) side n p →
      WinsWithin (arena_of (over first.chess other)) side n p
  wins_stay_won zero p w =
      let h = is_mate (first.member p) (first.chess.moves p) (first.chess.in_check p)
      (first.chess.turn p) (other_of side) w in
      mated_by (other.member p) (first.chess.moves p) (first.chess.in_check p)
      (first.chess.turn p) (better.member p h.0) h.1 h.2 ∙ ap Mate h.3
  wins_stay_won (suc n) p (inl w) = inl (wins_stay_won n p w)
  wins_stay_won (suc n) p (inr (inl w)) =
      let g = is_going (first.member p) (first.chess.moves p) (first.chess.in_check p)
      (first.chess.turn p) side w.0 in
      let m = move_of first p w.1.0 w.1.1 in
      let Q = LeadsTo (WinsWithin (arena_of first) side n) (IsGoodExit (arena_of first) side n) in
      let h : Q (arm_of first p m.0).next = subst (λ a. Q a.next) (sym m.2) w.1.3 in
      let f : first.free p m.0 ≡ true = ap (λ (a : Arm M P V). a.free) m.2 ∙ w.1.2 in
      inr (inl (
        goes (other.member p) (first.chess.moves p) (first.chess.in_check p)
            (first.chess.turn p) (better.member p g.0) g.1 ∙ ap Going g.2,
        (
          arm_of (over first.chess other) p m.0,
          arm_at (over first.chess other) p m.0 m.1,
          better.free p m.0 g.0 g.2 m.1 f,
          good_arm n (wins_stay_won n) p m.0 g.0 m.1 h,
        ),
      ))
  wins_stay_won (suc n) p (inr (inr w)) =
      let g = is_going (first.member p) (first.chess.moves p) (first.chess.in_check p)
      (first.chess.turn p) (other_of side) w.0 in
      let second = over first.chess other in
      let Q = LeadsTo (WinsWithin (arena_of second) side n)
      (IsGoodExit (arena_of second) side n) in
      let good : (m : M) → Contains (first.chess.moves p) m → Q (arm_of second p m).next =
      λ m i. good_arm n (wins_stay_won n) p m g.0 i (w.2 (arm_of first p m) (arm_at first p m i)) in
      let m = an_element (first.chess.moves p) g.1 in
      let each : (a : Arm M P W) → IsArm (arena_of second) p a → Q a.next =
      λ a i. (let k = move_of second p a i in subst (λ z. Q z.next) k.2 (good k.0 k.1)) in
      inr (inr (
        goes (other.member p) (first.chess.moves p) (first.chess.in_check p)
            (first.chess.turn p) (better.member p g.0) g.1 ∙ ap Going g.2,
        (arm_of second p m.0, arm_at second p m.0 m.1, good m.0 m.1),
        each,
      ))

  -- an arm that is bad in the second game is bad in the first
  bad_arm : (n : ℕ) →
      ((q : P) → first.member q ≡ true → FailsWithin (arena_of (over first.chess other)) side n q
      → FailsWithin (arena_of first) side n q) →
      (p : P) (m : M) → first.member p ≡ true → Contains (first.chess.moves p) m →
      LeadsTo (FailsWithin (arena_of (over first.chess other)) side n)
      (IsBadExit (arena_of (over first.chess other)) side)
      (arm_of (over first.chess other) p m).next →
      LeadsTo (FailsWithin (arena_of first) side n) (IsBadExit (arena_of first) side)
      (arm_of first p m).next
  bad_arm n ih p m b i h =
      let q = first.chess.play p m in
      let second = over first.chess other in
      let x : first.member q ≡ false → IsExit first q = λ o. record {
        from = p;
        move = m;
        begins = b;
        legal = i;
        ends = refl;
        outside = o;
      } in
      elim (leads_by (FailsWithin (arena_of second) side n) (IsBadExit (arena_of second) side)
      (other.member q) q (other.value q) h) [
        | inl w ↦ leads_inside (FailsWithin (arena_of first) side n)
            (IsBadExit (arena_of first) side) (first.member q) q (first.value q)
            (λ e. ih q e w.1) (λ o. better.larger q (x o) w.0)
        | inr w ↦ leads_inside (FailsWithin (arena_of first) side n)
            (IsBadExit (arena_of first) side) (first.member q) q (first.value q)
            (λ e. absurd (let k = better.member q e in let o = w.0 in cc))
            (λ o. better.bad q (x o) w.0 w.1)
      ]

  pub fails_before : (n : ℕ) (p : P) → first.member p ≡ true →
      FailsWithin (arena_of (over first.chess other)) side n p →
      FailsWithin (arena_of first) side n p
  fails_before zero p b (inl f) =
      let h = is_mate (other.member p) (first.chess.moves p) (first.chess.in_check p)
      (first.chess.turn p) side f in
      inl (mated_by (first.member p) (first.chess.moves p) (first.chess.in_check p)
      (first.chess.turn p) b h.1 h.2 ∙ ap Mate h.3)
  fails_before zero p b (inr f) =
      let g = is_going (other.member p) (first.chess.moves p) (first.chess.in_check p)
      (first.chess.turn p) side f.0 in
      inr (
        goes (first.member p) (first.chess.moves p) (first.chess.in_check p)
            (first.chess.turn p) b g.1 ∙ ap Going g.2,
        λ a i e. (
            let m = move_of first p a i in
            let free : first.free p m.0 ≡ true = ap (λ (z : Arm M P V). z.free) m.2 ∙ e in
            f.1 (arm_of (over first.chess other) p m.0)
            (arm_at (over first.chess other) p m.0 m.1)
            (better.free p m.0 b g.2 m.1 free)),
      )
  fails_before (suc n) p b (inl f) = inl (fails_before n p b f)
  fails_before (suc n) p b (inr (inl f)) =
      let second = over first.chess other in
      let g = is_going (other.member p) (first.chess.moves p) (first.chess.in_check p)
      (first.chess.turn p) (other_of side) f.0 in
      let m = move_of second p f.1.0 f.1.1 in
      let Q = LeadsTo (FailsWithin (arena_of second) side n) (IsBadExit (arena_of second) side) in
      let h : Q (arm_of second p m.0).next = subst (λ a. Q a.next) (sym m.2) f.1.2 in
      inr (inl (
        goes (first.member p) (first.chess.moves p) (first.chess.in_check p)
            (first.chess.turn p) b g.1 ∙ ap Going g.2,
        (
          arm_of first p m.0,
          arm_at first p m.0 m.1,
          bad_arm n (fails_before n) p m.0 b m.1 h,
        ),
      ))
  fails_before (suc n) p b (inr (inr f)) =
      let second = over first.chess other in
      let g = is_going (other.member p) (first.chess.moves p) (first.chess.in_check p)
      (first.chess.turn p) side f.0 in
      let going = goes (first.member p) (first.chess.moves p) (first.chess.in_check p)
      (first.chess.turn p) b g.1 ∙ ap Going g.2 in
      let Q = LeadsTo (FailsWithin (arena_of first) side n) (IsBadExit (arena_of first) side) in
      let each : (a : Arm M P V) → IsArm (arena_of first) p a → a.free ≡ true → Q a.next =
      λ a i e. (
      let m = move_of first p a i in
      let free : first.free p m.0 ≡ true = ap (λ (z : Arm M P V). z.free) m.2 ∙ e in
      subst (λ z. Q z.next) m.2
      (bad_arm n (fails_before n) p m.0 b m.1
      (f.2 (arm_of second p m.0) (arm_at second p m.0 m.1)
      (better.free p m.0 b g.2 m.1 free)))) in
      elim (passes_or_none (λ (a : Arm M P V). a.free) ((arena_of first).arms p)) [
        | inl r ↦ inr (inr (going, (r.0, r.1, r.2, each r.0 r.1 r.2), each))
        | inr none ↦ inl (fails_at_once (arena_of first) side n p (inr (going, none)))
      ]

  at_least : (p : P) → first.member p ≡ true → (b c : Bound) → IsBound (arena_of first) side p b →
      IsBound (arena_of (over first.chess other)) side p c → IsAtLeast b c
  at_least p here (Wins n) (Wins m) h k =
      elim (cases_lt n m) [
        | inl l ↦ absurd (k.1 n l (wins_stay_won n p h.0))
        | inr l ↦ l
      ]
  at_least p here (Wins n) Holds h k = absurd (k.0 n (wins_stay_won n p h.0))
  at_least p here (Wins n) (Fails m) h k =
      absurd (never_both (arena_of (over first.chess other)) side n m p (wins_stay_won n p h.0) k.0)
  at_least p here Holds (Wins m) h k = tt
  at_least p here Holds Holds h k = tt
  at_least p here Holds (Fails m) h k = absurd (h.1 m (fails_before m p here k.0))
  at_least p here (Fails n) (Wins m) h k = tt
  at_least p here (Fails n) Holds h k = tt
  at_least p here (Fails n) (Fails m) h k =
      elim (cases_lt m n) [
        | inl l ↦ absurd (h.1 m l (fails_before m p here k.0))
        | inr l ↦ l
      ]

-- the bound in a game that is no worse is at least as good, where both have equal chess
pub no_worse : {P M V W : Type 0} (first : Game P M V) (second : Game P M W) →
    first.chess ≡ second.chess → (side : Colour) → IsNoWorse first second side →
    (p : P) (b c : Bound) → first.member p ≡ true → IsBound (arena_of first) side p b →
    IsBound (arena_of second) side p c → IsAtLeast b c
no_worse {P} {M} first second same side better p b c here h k =
    at_least first second side better p here b c h
    (subst (λ (x : Chess P M). IsBound (arena_of (over x second)) side p c) (sym same) k)
