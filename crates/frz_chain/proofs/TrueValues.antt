-- What an exact table tells is true where its own exits are, and so are the values of a chain.
use Rattle.std.proofs.Common.{◌≡◌, refl, sym, subst, ◌∙◌, ℕ, true, Some}
use Rattle.std.specs.Prelude.{slice_index}
use Rattle.frz_board.specs.Boards.{Board}
use Rattle.frz_board.specs.Men.{other_of}
use Rattle.frz_board.specs.declared.man.Colour.{Colour}
use Rattle.frz_board.specs.declared.man.Colour.TheVariants.{White, Black}
use Rattle.frz_fide.specs.Legal.{after}
use Rattle.frz_sets.specs.declared.exit.Value.{Value}
use Rattle.frz_sets.specs.Views.{RuleLines}
use Rattle.frz_exits.specs.Books.{value_by}
use Rattle.frz_index.specs.Members.{Member, Num}
use Rattle.frz_arena.specs.declared.bound.Bound.{Bound}
use Rattle.frz_arena.specs.declared.bound.Bound.TheVariants.{Wins, Holds, Fails}
use Rattle.frz_arena.specs.Chess.{ForcesMate, NeverForcesMate}
use Rattle.frz_arena.specs.Codes.{code_of, is_win}
use Rattle.frz_arena.proofs.Lemmas.{as_failure, codes_differ, win_and_failure}
use Rattle.frz_game.specs.Games.{chess}
use Rattle.frz_game.specs.Meaning.{Means}
use Rattle.frz_game.specs.Values.{AreTrueExits, IsTrueValue}
use Rattle.frz_game.proofs.Lemmas.{bound_means, stored_bound}
use Rattle.frz_chain.specs.Books.{Back, back_value, chain_value, told_at}
use Rattle.frz_chain.specs.FileOn.{IsExactBack}
use Rattle.frz_chain.proofs.Pairs.{holds_of_pair_value}
use Rattle.frz_chain.proofs.Told.{holds_of_back_value, holds_of_either_value}

-- a bound whose code is a win is a win
win_is : (b : Bound) (code : ℕ) → code ≡ code_of b → is_win code ≡ true → (n : ℕ) × (b ≡ Wins n)
win_is (Wins n) code e win = (n, refl)
win_is Holds code e win =
    let h : is_win 1 ≡ true = subst (λ (c : ℕ). is_win c ≡ true) e win in absurd (cc h)
win_is (Fails m) code e win = absurd (win_and_failure code win (as_failure code m e).0)

hold_is : (b : Bound) (code : ℕ) → code ≡ code_of b → code ≡ 1 → b ≡ Holds
hold_is b code e one = codes_differ b Holds (sym e ∙ one)

module _ (rules : RuleLines) (value : Board → Value) (exits : AreTrueExits rules value)
    (q : Board) where
  wins_true : (side : Colour) (b : Bound) (code : ℕ) → Means rules value side q b → code ≡ code_of b
      → is_win code ≡ true
      → (n : ℕ) × ForcesMate chess side n q
  wins_true side b code means e win =
      let is = win_is b code e win in
      (subst (λ (x : Bound). Means rules value side q x) is.1 means).mate exits

  hold_true : (side : Colour) (b : Bound) (code : ℕ) → Means rules value side q b → code ≡ code_of b
      → code ≡ 1
      → NeverForcesMate chess (other_of side) q
  hold_true side b code means e one =
      subst (λ (x : Bound). Means rules value side q x) (hold_is b code e one) means exits

-- what the table tells of a position of its set, or of another
module _ (rules : RuleLines) (value : Board → Value) (back : Back)
    (exact : IsExactBack rules value back) (exits : AreTrueExits rules value) (q : Board) where
  true_in_set : Member rules.groups q → IsTrueValue (told_at back (Some (Num rules.groups q))) q
  true_in_set member =
      let i : ℕ = Num rules.groups q in
      let white = stored_bound rules value White back.white exact.white q member in
      let black = stored_bound rules value Black back.black exact.black q member in
      let white_means = bound_means rules value White q white.0 member white.2 in
      let black_means = bound_means rules value Black q black.0 member black.2 in
      holds_of_pair_value (λ (v : Value). IsTrueValue v q) (slice_index back.white i)
      (slice_index back.black i)
      (λ win. wins_true rules value exits q White white.0 (slice_index back.white i) white_means
      white.1 win)
      (λ win. wins_true rules value exits q Black black.0 (slice_index back.black i) black_means
      black.1 win)
      (λ w b. (
        hold_true rules value exits q White white.0 (slice_index back.white i) white_means white.1
            w,
        hold_true rules value exits q Black black.0 (slice_index back.black i) black_means black.1
            b,
      ))
      (λ w. hold_true rules value exits q White white.0 (slice_index back.white i) white_means
      white.1 w)
      (λ b. hold_true rules value exits q Black black.0 (slice_index back.black i) black_means
      black.1 b)
      tt

  pub back_true : IsTrueValue (back_value back q) q
  back_true = holds_of_back_value rules back exact.set q (λ (v : Value). IsTrueValue v q) tt
      true_in_set

pub chained_true : (rules backs : RuleLines) (value : Board → Value) (back : Back)
    → IsExactBack backs value back
    → AreTrueExits rules (value_by rules) → AreTrueExits backs value
    → AreTrueExits rules (chain_value rules back)
chained_true rules backs value back exact own others p m member legal outside =
    holds_of_either_value (λ (v : Value). IsTrueValue v (after p m)) (value_by rules (after p m))
    (back_value back (after p m))
    (own p m member legal outside)
    (back_true backs value back exact others (after p m))
