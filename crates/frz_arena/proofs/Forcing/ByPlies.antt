-- What a side forces by the named cases is what it forces by recursion over the plies.
use Rattle.std.proofs.Common.{ℕ, zero, suc, inl, inr, Option}
use Rattle.frz_board.specs.declared.man.Colour.{Colour}
use Rattle.frz_arena.specs.Chess.{Chess, Forces, mated, at_goal, later, own_move, every_reply}
use Rattle.frz_arena.specs.ForcesByPlies.{ForcesByPlies}

module _ {P M : Type 0} (chess : Chess P M) (goal : P → Option ℕ) (side : Colour) where
  pub by_plies : (n : ℕ) (p : P) → Forces chess goal side n p → ForcesByPlies chess goal side n p
  by_plies zero p (mated h) = inr h
  by_plies zero p (at_goal e) = inl e
  by_plies (suc n) p (at_goal e) = inr (inl e)
  by_plies (suc n) p (later f) = inl (by_plies n p f)
  by_plies (suc n) p (own_move m t i f) =
      inr (inr (inl (t, (m, i, by_plies n (chess.play p m) f))))
  by_plies (suc n) p (every_reply t some each) =
      inr (inr (inr (t, some, λ m i. by_plies n (chess.play p m) (each m i))))

  pub of_plies : (n : ℕ) (p : P) → ForcesByPlies chess goal side n p → Forces chess goal side n p
  of_plies zero p (inl e) = at_goal e
  of_plies zero p (inr h) = mated h
  of_plies (suc n) p (inl f) = later (of_plies n p f)
  of_plies (suc n) p (inr (inl e)) = at_goal e
  of_plies (suc n) p (inr (inr (inl (t, (m, i, f))))) =
      own_move m t i (of_plies n (chess.play p m) f)
  of_plies (suc n) p (inr (inr (inr (t, some, each)))) =
      every_reply t some (λ m i. of_plies n (chess.play p m) (each m i))
