-- Both sides never force mate.
use Rattle.std.proofs.Common.{◌≡◌, ◌≢◌, ℕ, zero, suc, [], sym, subst, ◌∙◌}
use Rattle.frz_board.proofs.Lemmas.{other_differs}
use Rattle.std.specs.List.{Contains}
use Rattle.frz_board.specs.declared.man.Colour.{Colour}
use Rattle.frz_board.specs.Men.{other_of}
use Rattle.frz_arena.specs.Chess.{Chess, IsMated, Forces, mated, at_goal, later, own_move, every_reply, mate_alone}
use Rattle.frz_arena.proofs.Lists.Members.{none_in_empty}

-- no position is to move for both
two_turns : {t : Colour} (side : Colour) → t ≡ side → t ≡ other_of side → ⊥
two_turns side h k = other_differs side (sym k ∙ h)

-- a side that is mated forces nothing
no_mated_mover : {P M : Type 0} (chess : Chess P M) (side : Colour) (k : ℕ) (p : P) →
    IsMated chess (other_of side) p → Forces chess mate_alone (other_of side) k p → ⊥
no_mated_mover chess side k p w (mated h) = two_turns (other_of side) w.to_move h.to_move
no_mated_mover chess side k p w (at_goal e) = cc
no_mated_mover chess side k p w (later {n = n} f) = no_mated_mover chess side n p w f
no_mated_mover chess side k p w (own_move m t i f) =
    none_in_empty m (subst (λ xs. Contains xs m) w.no_move i)
no_mated_mover chess side k p w (every_reply t some each) = two_turns (other_of side) w.to_move t

-- where only the side, and not its opponent, forces mate after the next ply, the opponent does not
-- force it before
module _ {P M : Type 0} (chess : Chess P M) (side : Colour) (n : ℕ)
    (one : (k : ℕ) (q : P) → Forces chess mate_alone side n q →
    Forces chess mate_alone (other_of side) k q → ⊥) where
  no_after_own : (k : ℕ) (p : P) (m : M) → chess.turn p ≡ side → Contains (chess.moves p) m →
      Forces chess mate_alone side n (chess.play p m) →
      Forces chess mate_alone (other_of side) k p → ⊥
  no_after_own k p m t i g (mated h) = none_in_empty m (subst (λ xs. Contains xs m) h.no_move i)
  no_after_own k p m t i g (at_goal e) = cc
  no_after_own k p m t i g (later {n = l} f) = no_after_own l p m t i g f
  no_after_own k p m t i g (own_move o u j f) = two_turns side t u
  no_after_own k p m t i g (every_reply {n = l} u some each) = one l (chess.play p m) g (each m i)

  no_after_replies : (k : ℕ) (p : P) → chess.turn p ≡ other_of side → chess.moves p ≢ [] →
      ((m : M) → Contains (chess.moves p) m → Forces chess mate_alone side n (chess.play p m)) →
      Forces chess mate_alone (other_of side) k p → ⊥
  no_after_replies k p t some each (mated h) = some h.no_move
  no_after_replies k p t some each (at_goal e) = cc
  no_after_replies k p t some each (later {n = l} f) = no_after_replies l p t some each f
  no_after_replies k p t some each (own_move {n = l} m u i f) =
      one l (chess.play p m) (each m i) f
  no_after_replies k p t some each (every_reply u any all) = two_turns (other_of side) t u

-- both sides never force mate
pub one_forces : {P M : Type 0} (chess : Chess P M) (side : Colour) (n m : ℕ) (p : P) →
    Forces chess mate_alone side n p → Forces chess mate_alone (other_of side) m p → ⊥
one_forces chess side zero k p (mated h) g = no_mated_mover chess side k p h g
one_forces chess side zero k p (at_goal e) g = cc
one_forces chess side (suc n) k p (at_goal e) g = cc
one_forces chess side (suc n) k p (later f) g = one_forces chess side n k p f g
one_forces chess side (suc n) k p (own_move m t i f) g =
    no_after_own chess side n (one_forces chess side n) k p m t i f g
one_forces chess side (suc n) k p (every_reply t some each) g =
    no_after_replies chess side n (one_forces chess side n) k p t some each g
