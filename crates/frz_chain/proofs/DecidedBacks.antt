-- A back table whose outcomes are those of chess decides the game in its set.
use Rattle.std.proofs.Common.{◌≡◌, ℕ, inl, inr, Bool, true, false, ◌&&◌, Option, refl, sym, ap, subst, ◌∙◌}
use Rattle.std.specs.Prelude.{slice_index, if◌then◌else◌}
use Rattle.std.proofs.lemmas.Bool.{and_from}
use Rattle.frz_board.specs.Boards.{Board}
use Rattle.frz_board.specs.declared.man.Colour.TheVariants.{White, Black}
use Rattle.frz_sets.specs.declared.exit.Value.{Value}
use Rattle.frz_sets.specs.declared.exit.Value.TheVariants.{WhiteWins, BlackWins, Draw, WhiteHolds, BlackHolds, Unknown, WhiteWinsIn, BlackWinsIn}
use Rattle.frz_sets.specs.Views.{RuleLines}
use Rattle.frz_exits.specs.Books.{value_by}
use Rattle.frz_index.specs.Members.{Member, Num}
use Rattle.frz_arena.specs.declared.bound.Bound.{Bound}
use Rattle.frz_arena.specs.declared.bound.Bound.TheVariants.{Wins, Holds, Fails}
use Rattle.frz_arena.specs.Codes.{code_of, is_win, is_failure}
use Rattle.frz_arena.proofs.Lemmas.{win_of, as_failure}
use Rattle.frz_game.specs.ExactTables.{HasExactOutcomes, is_decided, AreDecidedOutside}
use Rattle.frz_game.proofs.Lemmas.{stored_bound}
use Rattle.frz_chain.specs.Books.{Back, back_value, chain_value, or_else, told_at}
use Rattle.frz_chain.specs.DecidedBacks.{AreLinesOrBehind}
use Rattle.frz_chain.specs.FileOn.{IsExactBack}
use Rattle.frz_chain.specs.PairValues.{pair_value}
use Rattle.frz_chain.proofs.Told.{number_inside}

-- the values of codes of which one wins where the other fails, or both hold
decided_test : (test : Bool) (first rest : Value) → (test ≡ true → is_decided first ≡ true) →
    (test ≡ false → is_decided rest ≡ true) → is_decided (if test then first else rest) ≡ true
decided_test true first rest h k = h refl
decided_test false first rest h k = k refl

white_decided : (white black : ℕ) → is_win white ≡ true → is_failure black ≡ true →
    is_decided (pair_value white black) ≡ true
white_decided white black win fails =
    let both = and_from (is_win white) (is_failure black) win fails in
    decided_test (is_win white && is_failure black) WhiteWins _ (λ _. refl) (λ no. absurd (cc))

black_decided : (white black : ℕ) → is_failure white ≡ true → is_win black ≡ true →
    is_decided (pair_value white black) ≡ true
black_decided white black fails win =
    let both = and_from (is_failure white) (is_win black) fails win in
    decided_test (is_win white && is_failure black) WhiteWins _ (λ _. refl) (λ _.
    decided_test (is_failure white && is_win black) BlackWins _ (λ _. refl) (λ no. absurd (cc)))

hold_decided : (white black : ℕ) → white ≡ 1 → black ≡ 1 →
    is_decided (pair_value white black) ≡ true
hold_decided white black w b =
    ap (λ x. is_decided (pair_value x black)) w ∙ ap (λ x. is_decided (pair_value 1 x)) b

-- a first value that decides the game is not passed over
pub first_decides : (v second : Value) → is_decided v ≡ true → is_decided (or_else v second) ≡ true
first_decides WhiteWins second d = refl
first_decides BlackWins second d = refl
first_decides Draw second d = refl
first_decides (WhiteWinsIn n) second d = refl
first_decides (BlackWinsIn n) second d = refl
first_decides WhiteHolds second d = absurd (cc)
first_decides BlackHolds second d = absurd (cc)
first_decides Unknown second d = absurd (cc)

module _ (backs : RuleLines) (value : Board → Value) (back : Back)
    (exact : IsExactBack backs value back) (white : HasExactOutcomes backs White back.white)
    (black : HasExactOutcomes backs Black back.black) (q : Board)
    (member : Member backs.groups q) where
  codes_decide : (b : Bound) →
      slice_index back.white (Num backs.groups q) ≡ code_of b →
      is_decided (pair_value (slice_index back.white (Num backs.groups q))
      (slice_index back.black (Num backs.groups q))) ≡ true
  codes_decide (Wins n) e =
      let i = Num backs.groups q in
      let win : is_win (slice_index back.white i) ≡ true =
      subst (λ c. is_win c ≡ true) (sym e) (win_of n) in
      white_decided (slice_index back.white i) (slice_index back.black i) win
      ((black.failure q member).1 ((white.win q member).0 win))
  codes_decide Holds e =
      let i = Num backs.groups q in
      let dead = (white.hold q member).0 e in
      hold_decided (slice_index back.white i) (slice_index back.black i) e
      ((black.hold q member).1 (record { no_win = dead.no_loss; no_loss = dead.no_win }))
  codes_decide (Fails m) e =
      let i = Num backs.groups q in
      let fails : is_failure (slice_index back.white i) ≡ true =
      subst (λ c. is_failure c ≡ true) (sym e) (as_failure (code_of (Fails m)) m refl).0 in
      black_decided (slice_index back.white i) (slice_index back.black i) fails
      ((black.win q member).1 ((white.failure q member).0 fails))

  pub back_decides : is_decided (back_value back q) ≡ true
  back_decides =
      let stored = stored_bound backs value White back.white exact.white q member in
      subst (λ (o : Option ℕ). is_decided (told_at back o) ≡ true)
      (sym (number_inside backs back exact.set q member))
      (codes_decide stored.0 stored.1)

pub chain_decided : (rules backs : RuleLines) (value : Board → Value) (back : Back) →
    IsExactBack backs value back → HasExactOutcomes backs White back.white →
    HasExactOutcomes backs Black back.black → AreLinesOrBehind rules backs back →
    AreDecidedOutside rules (chain_value rules back)
chain_decided rules backs value back exact white black told q x =
    elim (told q x) [
      | inl d ↦ first_decides (value_by rules q) (back_value back q) d
      | inr b ↦ ap (λ (v : Value). is_decided (or_else v (back_value back q))) b.0
          ∙ back_decides backs value back exact white black q b.1
    ]
