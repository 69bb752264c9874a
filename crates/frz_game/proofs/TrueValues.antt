-- True values in the words of the arena.
use Rattle.std.proofs.Common.{◌≡◌, ℕ, true, false, subst, sym}
use Rattle.frz_board.specs.declared.man.Colour.{Colour}
use Rattle.frz_board.specs.declared.man.Colour.TheVariants.{White, Black}
use Rattle.frz_board.specs.Men.{other_of}
use Rattle.frz_board.specs.Boards.{Board}
use Rattle.frz_fide.specs.Legal.{after}
use Rattle.frz_sets.specs.declared.exit.Value.{Value}
use Rattle.frz_sets.specs.declared.exit.Value.TheVariants.{WhiteWins, BlackWins, Draw, WhiteHolds, BlackHolds, Unknown, WhiteWinsIn, BlackWinsIn}
use Rattle.frz_sets.specs.Views.{RuleLines}
use Rattle.frz_arena.specs.declared.class.Class.TheVariants.{Good, Safe}
use Rattle.frz_arena.specs.Chess.{ForcesMate, NeverForcesMate}
use Rattle.frz_arena.specs.Exits.{IsTrueAt, TrueExits}
use Rattle.frz_graph.specs.Values.{class_of, lag_of, is_numbered}
use Rattle.frz_game.specs.Games.{chess, game_of}
use Rattle.frz_game.specs.Numbers.{is_member}
use Rattle.frz_game.specs.Values.{IsTrueValue, AreTrueExits}

wins : (v : Value) (q : Board) → IsTrueValue v q → (side : Colour) → class_of v side ≡ Good →
    is_numbered v ≡ false → (n : ℕ) × ForcesMate chess side n q
wins WhiteWins q t White g f = t
wins WhiteWins q t Black g f = absurd (cc)
wins BlackWins q t White g f = absurd (cc)
wins BlackWins q t Black g f = t
wins Draw q t side g f = absurd (cc)
wins WhiteHolds q t White g f = absurd (cc)
wins WhiteHolds q t Black g f = absurd (cc)
wins BlackHolds q t White g f = absurd (cc)
wins BlackHolds q t Black g f = absurd (cc)
wins Unknown q t side g f = absurd (cc)
wins (WhiteWinsIn c) q t side g f = absurd (cc)
wins (BlackWinsIn c) q t side g f = absurd (cc)

wins_in : (v : Value) (q : Board) → IsTrueValue v q → (side : Colour) → class_of v side ≡ Good →
    is_numbered v ≡ true → ForcesMate chess side (lag_of v) q
wins_in WhiteWins q t side g n = absurd (cc)
wins_in BlackWins q t side g n = absurd (cc)
wins_in Draw q t side g n = absurd (cc)
wins_in WhiteHolds q t side g n = absurd (cc)
wins_in BlackHolds q t side g n = absurd (cc)
wins_in Unknown q t side g n = absurd (cc)
wins_in (WhiteWinsIn c) q t White g n = t
wins_in (WhiteWinsIn c) q t Black g n = absurd (cc)
wins_in (BlackWinsIn c) q t White g n = absurd (cc)
wins_in (BlackWinsIn c) q t Black g n = t

holds : (v : Value) (q : Board) → IsTrueValue v q → (side : Colour) → class_of v side ≡ Safe →
    NeverForcesMate chess (other_of side) q
holds WhiteWins q t White s = absurd (cc)
holds WhiteWins q t Black s = absurd (cc)
holds BlackWins q t White s = absurd (cc)
holds BlackWins q t Black s = absurd (cc)
holds Draw q t White s = t.0
holds Draw q t Black s = t.1
holds WhiteHolds q t White s = t
holds WhiteHolds q t Black s = absurd (cc)
holds BlackHolds q t White s = absurd (cc)
holds BlackHolds q t Black s = t
holds Unknown q t side s = absurd (cc)
holds (WhiteWinsIn c) q t White s = absurd (cc)
holds (WhiteWinsIn c) q t Black s = absurd (cc)
holds (BlackWinsIn c) q t White s = absurd (cc)
holds (BlackWinsIn c) q t Black s = absurd (cc)

pub true_value : (rules : RuleLines) (value : Board → Value) (v : Value) (q : Board) →
    IsTrueValue v q → IsTrueAt (game_of rules value) v q
true_value rules value v q t = record {
  wins = λ side g f. wins v q t side g f;
  wins_in = λ side g n. wins_in v q t side g n;
  holds = λ side s. holds v q t side s;
}

pub true_exits : (rules : RuleLines) (value : Board → Value) → AreTrueExits rules value →
    TrueExits (game_of rules value)
true_exits rules value exits q x =
    subst (λ z. IsTrueAt (game_of rules value) (value z) z) x.ends
    (true_value rules value (value (after x.from x.move)) (after x.from x.move)
    (exits x.from x.move x.begins x.legal
    (subst (λ z. is_member rules.groups z ≡ false) (sym x.ends) x.outside)))
