-- The plies in which a win that an exact table tells mates.
use Rattle.std.proofs.Common.{◌≡◌, ◌≤◌, ◌+◌, ◌*◌, ap, subst, ◌∙◌, ℕ, true, Some, arith}
use Rattle.std.specs.Prelude.{slice_index}
use Rattle.frz_board.specs.Boards.{Board}
use Rattle.frz_board.specs.declared.man.Colour.{Colour}
use Rattle.frz_board.specs.declared.man.Colour.TheVariants.{White, Black}
use Rattle.frz_sets.specs.declared.exit.Value.{Value}
use Rattle.frz_sets.specs.declared.exit.Value.TheVariants.{Unknown}
use Rattle.frz_sets.specs.Views.{RuleLines}
use Rattle.frz_exits.specs.Books.{value_by}
use Rattle.frz_exits.specs.Values.{class_of, is_numbered, lag_of}
use Rattle.frz_index.specs.Members.{Member, Num}
use Rattle.frz_arena.specs.declared.bound.Bound.{Bound}
use Rattle.frz_arena.specs.declared.bound.Bound.TheVariants.{Wins}
use Rattle.frz_arena.specs.declared.class.Class.TheVariants.{Good}
use Rattle.frz_arena.specs.Chess.{ForcesMate, mate_alone}
use Rattle.frz_arena.specs.Codes.{code_of, is_win}
use Rattle.frz_arena.specs.Exits.{IsExit, AllNumbered}
use Rattle.frz_arena.proofs.Lemmas.{forces_later, more_wins_mate}
use Rattle.frz_game.specs.Bounds.{IsBoundAt, IsTableOf}
use Rattle.frz_game.specs.Games.{chess, game_of}
use Rattle.frz_game.specs.Values.{AreTrueExits}
use Rattle.frz_game.proofs.Lemmas.{stored_bound, true_exits, win_code}
use Rattle.frz_chain.specs.Books.{Back, back_value, told_at}
use Rattle.frz_chain.specs.ChainPlies.{back_codes, WinsWithinPlies, OwnWinsNumbered}
use Rattle.frz_chain.specs.FileOn.{IsExactBack}
use Rattle.frz_chain.proofs.Pairs.{win_told}
use Rattle.frz_chain.proofs.Told.{holds_of_back_value}

-- a value by which the side wins is a mate within so many plies more
abbrev pub Forced : Colour → ℕ → Board → Value → Type 0
Forced side most q v = class_of v side ≡ Good → ForcesMate chess side (lag_of v + most) q

-- and each value just outside the set is a mate within its own and so many more
abbrev pub ExitsForced : RuleLines → (Board → Value) → Colour → ℕ → Type 0
ExitsForced rules value side more =
    (q : Board) → IsExit (game_of rules value) q → Forced side more q (value q)

pub unknown_forced : (side : Colour) (most : ℕ) (q : Board) → Forced side most q Unknown
unknown_forced side most q good = absurd (cc)

pub forced_later : (side : Colour) (few many : ℕ) → few ≤ many → (q : Board) (v : Value)
    → Forced side few q v → Forced side many q v
forced_later side few many le q v f good =
    forces_later chess mate_alone side (lag_of v + few) (lag_of v + many) q (omega arith) (f good)

-- a true value with a number of plies is a mate within them
pub exit_forced : (rules : RuleLines) (value : Board → Value) → AreTrueExits rules value
    → (side : Colour) (most : ℕ) (q : Board) → IsExit (game_of rules value) q
    → (class_of (value q) side ≡ Good → is_numbered (value q) ≡ true)
    → Forced side most q (value q)
exit_forced rules value exits side most q x numbered good =
    forces_later chess mate_alone side (lag_of (value q)) (lag_of (value q) + most) q (omega arith)
    ((true_exits rules value exits q x).wins_in side good (numbered good))

-- by the rules' own exit lines within their numbers
pub own_forced : (rules : RuleLines) (value : Board → Value) (side : Colour)
    → AreTrueExits rules (value_by rules) → OwnWinsNumbered rules value side → (most : ℕ)
    → (q : Board) → IsExit (game_of rules value) q → Forced side most q (value_by rules q)
own_forced rules value side own numbered most q x =
    exit_forced rules (value_by rules) own side most q
    (record {
      from = x.from;
      move = x.move;
      begins = x.begins;
      legal = x.legal;
      ends = x.ends;
      outside = x.outside;
    })
    (numbered q x)

-- a win in the restricted game mates within its plies and those outside
pub win_forced : (rules : RuleLines) (value : Board → Value) (side : Colour) (more : ℕ)
    → ExitsForced rules value side more → (n : ℕ) (p : Board)
    → IsBoundAt rules value side p (Wins n) → ForcesMate chess side (n + more) p
win_forced rules value side more exits n p bound =
    more_wins_mate (game_of rules value) side more exits n p bound.0

table_of : (rules : RuleLines) (value : Board → Value) (back : Back)
    → IsExactBack rules value back → (side : Colour)
    → IsTableOf rules value side (back_codes back side)
table_of rules value back exact White = exact.white
table_of rules value back exact Black = exact.black

module _ (rules : RuleLines) (value : Board → Value) (back : Back)
    (exact : IsExactBack rules value back) (side : Colour) (more : ℕ)
    (exits : ExitsForced rules value side more) (most : ℕ)
    (short : WinsWithinPlies back side most) (q : Board) where
  code_forced : Member rules.groups q
      → is_win (slice_index (back_codes back side) (Num rules.groups q)) ≡ true
      → ForcesMate chess side (more + most) q
  code_forced member win =
      let codes = back_codes back side in
      let i = Num rules.groups q in
      let stored = stored_bound rules value side codes (table_of rules value back exact side) q
      member in
      let won = (win_code stored.0).0 (subst (λ c. is_win c ≡ true) stored.1 win) in
      let bound = subst (λ (b : Bound). IsBoundAt rules value side q b) won.1 stored.2 in
      let few = short i win in
      let code : slice_index codes i ≡ 2 + 2 * won.0 = stored.1 ∙ ap code_of won.1 in
      forces_later chess mate_alone side (won.0 + more) (more + most) q (omega arith)
      (win_forced rules value side more exits won.0 q bound)

  number_forced : Member rules.groups q
      → Forced side (more + most) q (told_at back (Some (Num rules.groups q)))
  number_forced member good =
      let i = Num rules.groups q in
      let all = more + most in
      forces_later chess mate_alone side all (lag_of (told_at back (Some i)) + all) q (omega arith)
      (code_forced member (win_told back side i good))

  -- a win that a table tells mates within the table's longest win and the plies outside
  pub table_forced : Forced side (more + most) q (back_value back q)
  table_forced =
      holds_of_back_value rules back exact.set q (Forced side (more + most) q)
      (unknown_forced side (more + most) q) number_forced

-- where each value outside has a number of plies, it mates within the table's longest win
pub back_forced : (backs : RuleLines) (value : Board → Value) (back : Back)
    → IsExactBack backs value back → AreTrueExits backs value → (side : Colour)
    → AllNumbered (game_of backs value) side → (most : ℕ) → WinsWithinPlies back side most
    → (q : Board) → Forced side most q (back_value back q)
back_forced backs value back exact exits side numbered most short q =
    forced_later side (0 + most) most (omega arith) q (back_value back q)
    (table_forced backs value back exact side 0
    (λ p x. exit_forced backs value exits side 0 p x (numbered p x)) most short q)
