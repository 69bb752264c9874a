-- Two games over the same chess never contradict each other.
use Rattle.std.proofs.Common.{◌≡◌, ℕ, true, refl, sym, subst}
use Rattle.frz_board.specs.declared.man.Colour.{Colour}
use Rattle.frz_board.specs.Men.{other_of}
use Rattle.frz_board.proofs.Lemmas.{other_other}
use Rattle.frz_arena.specs.declared.class.Class.{Class}
use Rattle.frz_arena.specs.declared.class.Class.TheVariants.{Good, Safe, Bad}
use Rattle.frz_arena.specs.declared.bound.Bound.{Bound}
use Rattle.frz_arena.specs.declared.bound.Bound.TheVariants.{Wins, Holds, Fails}
use Rattle.frz_arena.specs.Bounds.{IsBound}
use Rattle.frz_arena.specs.Plies.{WinsWithin, FailsWithin}
use Rattle.frz_arena.specs.Chess.{Chess, ForcesMate}
use Rattle.frz_arena.specs.Exits.{TrueExits}
use Rattle.frz_arena.specs.Games.{Game, arena_of}
use Rattle.frz_arena.specs.WholeTruth.{TrueWins, TrueHolds, IsFailure}
use Rattle.frz_arena.proofs.Plies.NeverBoth.{never_both}
use Rattle.frz_arena.proofs.Forcing.OneForces.{one_forces}
use Rattle.frz_arena.proofs.Forcing.TrueWins.{true_win}
use Rattle.frz_arena.proofs.Exactness.ExactWins.{true_wins_mate}
use Rattle.frz_arena.proofs.Exactness.ExactFailures.{forced_fails_in}

pub true_wins : {P M V : Type 0} (game : Game P M V) → TrueExits game → (side : Colour) →
    TrueWins game side
true_wins game exits side q x g = true_win game exits side q x g

is_bad : (c : Class) → (c ≡ Good → ⊥) → (c ≡ Safe → ⊥) → c ≡ Bad
is_bad Good g s = absurd (g refl)
is_bad Safe g s = absurd (s refl)
is_bad Bad g s = refl

pub true_holds : {P M V : Type 0} (game : Game P M V) → TrueExits game → (side : Colour) →
    TrueHolds game side
true_holds game exits side q x f =
    is_bad (game.class (game.value q) side)
    (λ g. (let k = true_win game exits side q x g in
    one_forces game.chess side k.0 f.0 q k.1 f.1))
    (λ s. (exits q x).holds side s f.0 f.1)

module _ {P M V W : Type 0} (first : Game P M V) (second : Game P M W)
    (same : first.chess ≡ second.chess) (side : Colour) (wins : TrueWins first side)
    (holds : TrueHolds second (other_of side)) where
  pub other_fails : (n : ℕ) (p : P) → WinsWithin (arena_of first) side n p →
      second.member p ≡ true → (m : ℕ) × FailsWithin (arena_of second) (other_of side) m p
  other_fails n p w there =
      let f = true_wins_mate first side wins n p w in
      let there_too : ForcesMate second.chess side f.0 p = subst
      (λ (c : Chess P M). ForcesMate c side f.0 p) same f.1 in (
        f.0,
        forced_fails_in second (other_of side) holds f.0 p there
            (subst (λ (s : Colour). ForcesMate second.chess s f.0 p) (sym (other_other side))
            there_too),
      )

  failure_at : (p : P) (m : ℕ) → FailsWithin (arena_of second) (other_of side) m p → (c : Bound) →
      IsBound (arena_of second) (other_of side) p c → IsFailure c
  failure_at p m f (Wins k) h =
      absurd (never_both (arena_of second) (other_of side) k m p h.0 f)
  failure_at p m f Holds h = absurd (h.1 m f)
  failure_at p m f (Fails k) h = (k, refl)

  pub no_contradiction : (n : ℕ) (p : P) (c : Bound) → IsBound (arena_of first) side p (Wins n) →
      second.member p ≡ true → IsBound (arena_of second) (other_of side) p c → IsFailure c
  no_contradiction n p c b there h =
      let f = other_fails n p b.0 there in failure_at p f.0 f.1 c h
