-- The plies in which a win of a table mates that may lean on tables before it.
use Rattle.std.proofs.Common.{◌≡◌, ◌≤◌, ◌+◌, ◌*◌, not, ◌==◌, nat_lt, zero, suc, ℕ, inl, inr, Bool, true, false, List, [], ◌∷◌, Option, Some, None, All, get_or, refl, sym, ap, subst, ◌∙◌, arith}
use Rattle.std.specs.Prelude.{◌%◌, slice_index, if◌then◌else◌}
use Rattle.std.proofs.lemmas.Bool.{and_parts, cases_Bool, eqb-true}
use Rattle.std.proofs.lemmas.List.Elements.{All-head, All-tail}
use Rattle.frz_board.specs.Boards.{Board}
use Rattle.frz_board.specs.declared.man.Colour.{Colour}
use Rattle.frz_board.specs.declared.man.Colour.TheVariants.{White, Black}
use Rattle.frz_sets.specs.declared.exit.Value.{Value}
use Rattle.frz_sets.specs.declared.exit.Value.TheVariants.{WhiteWins, BlackWins, Unknown, WhiteWinsIn, BlackWinsIn}
use Rattle.frz_sets.specs.Views.{RuleLines}
use Rattle.frz_index.specs.Membership.{number_of}
use Rattle.frz_arena.specs.Chess.{mate_alone}
use Rattle.frz_arena.specs.Codes.{is_win}
use Rattle.frz_arena.specs.Exits.{AllNumbered}
use Rattle.frz_arena.proofs.Lemmas.{forces_later}
use Rattle.frz_exits.specs.Books.{value_by}
use Rattle.frz_exits.specs.Values.{class_of, lag_of}
use Rattle.frz_chain.specs.Games.{chess, game_of}
use Rattle.frz_chain.specs.Values.{AreTrueExits}
use Rattle.frz_chain.specs.Books as chain
use Rattle.frz_chain.specs.ChainPlies as chains
use Rattle.frz_chain.specs.PairValues.{pair_value}
use Rattle.frz_chain.proofs.Lemmas.{ExitsForced, Forced, exit_forced, table_forced, unknown_forced}
use Rattle.frz_backs.specs.declared.counts.Counts.{Counts}
use Rattle.frz_backs.specs.Books.{Back}
use Rattle.frz_backs.specs.Counts.{count_for, counts_of}
use Rattle.frz_backs.specs.FileOn.{IsExactBack}
use Rattle.frz_backs.specs.LinkPlies.{OwnWinsNumbered, WinsWithinPlies, plies_behind}
use Rattle.frz_backs.specs.Links.{own_over, value_over}
use Rattle.frz_backs.specs.Values.{atlas_value, first_value, own_value, plies_in, told_or, with_plies}
use Rattle.frz_backs.proofs.FirstValue.{first_of, holds_of_atlas_value}
use Rattle.frz_backs.proofs.Numbered.{atlas_numbered, same_exit}
use Rattle.frz_backs.proofs.Told.{black_class, holds_with_plies, white_class}
use Rattle.frz_backs.proofs.TrueTables.{AllTellTrue, over_true}

-- the table without its exit lines, which tells no plies
abbrev pub plain : Back → chain.Back
plain back = chain.back_with back.groups back.white back.black

-- each win that the table tells is a mate within so many plies
abbrev pub TellsWithin : Colour → ℕ → Back → Type 0
TellsWithin side most back = (q : Board) → Forced side most q (chain.back_value (plain back) q)

-- plies that are told of a win come on top
module _ (counts : Counts) (side : Colour) (most : ℕ) (q : Board) where
  told_later : (v win counted : Value) → Forced side most q v → v ≡ win → lag_of win ≡ 0 →
      class_of counted side ≡ class_of win side → Forced side most q counted
  told_later v win counted forced e none same good =
      let few : lag_of v ≡ 0 = ap lag_of e ∙ none in
      forces_later chess mate_alone side (lag_of v + most) (lag_of counted + most) q
      (omega (arith, few))
      (forced (ap (λ (u : Value). class_of u side) e ∙ (sym same ∙ good)))

  with_plies_forced : (white black : ℕ) (v : Value) → Forced side most q v →
      Forced side most q (with_plies counts white black v)
  with_plies_forced white black v forced =
      holds_with_plies (Forced side most q) counts white black v forced
      (λ e n. told_later v WhiteWins (WhiteWinsIn n) forced e refl (white_class side n))
      (λ e n. told_later v BlackWins (BlackWinsIn n) forced e refl (black_class side n))

  told_forced : (back : Back) (o : Option ℕ) → Forced side most q (chain.told_at (plain back) o) →
      Forced side most q (told_or counts back Unknown o)
  told_forced back None forced = forced
  told_forced back (Some i) forced =
      let white = slice_index back.white i in
      let black = slice_index back.black i in
      with_plies_forced white black (pair_value white black) forced

  first_forced : (backs : List Back) → All (TellsWithin side most) backs →
      Forced side most q (first_value counts Unknown backs q)
  first_forced backs told =
      first_of (Forced side most q) counts Unknown backs q (unknown_forced side most q)
      (λ k back l. (
      let b = get_or backs k back in told_forced b (number_of b.groups q) (told k back l q)))

-- over tables, and where the side's wins in these count
module _ (rules : RuleLines) (backs : List Back) (side : Colour)
    (own : AreTrueExits rules (own_value rules backs)) (numbered : OwnWinsNumbered rules backs side)
  where
    over_forced : (longest : ℕ) → All (TellsWithin side longest) backs →
        ExitsForced rules (atlas_value rules backs) side longest
    over_forced longest within q x =
        let y = same_exit rules (atlas_value rules backs) (own_value rules backs) q x in
        holds_of_atlas_value (Forced side longest q) rules backs q
        (exit_forced rules (own_value rules backs) own side longest q y (numbered q y))
        (first_forced (counts_of backs) side longest q backs within)

    pub counted_forced : AllTellTrue backs → count_for side backs ≡ true →
        ExitsForced rules (atlas_value rules backs) side 0
    counted_forced told count q x =
        exit_forced rules (atlas_value rules backs) (over_true rules backs told own) side 0 q x
        (atlas_numbered rules backs side count numbered q x)

    abbrev ForcedBy : ℕ → Bool → Type 0
    ForcedBy longest count =
        ExitsForced rules (atlas_value rules backs) side (if not count then longest else 0)

    either_forced : (longest : ℕ) → AllTellTrue backs → All (TellsWithin side longest) backs →
        ForcedBy longest (count_for side backs)
    either_forced longest told within =
        elim (cases_Bool (count_for side backs)) [
          | inl t ↦ subst (ForcedBy longest) (sym t) (counted_forced told t)
          | inr f ↦ subst (ForcedBy longest) (sym f) (over_forced longest within)
        ]

-- the tables before stand behind the lines of the text, or it leans on none
pub exits_forced : (leans : Bool) (rules : RuleLines) (before : List Back) (side : Colour)
    (longest : ℕ) → AllTellTrue before → All (TellsWithin side longest) before →
    AreTrueExits rules (own_over leans rules before) →
    AllNumbered (game_of rules (own_over leans rules before)) side →
    ExitsForced rules (value_over leans rules before) side (plies_behind side leans before longest)
exits_forced true rules before side longest told within own numbered =
    either_forced rules before side own numbered longest told within
exits_forced false rules before side longest told within own numbered =
    λ q x. exit_forced rules (value_by rules) own side 0 q x (numbered q x)

-- the codes of wins within so many plies
within_plies : (code most : ℕ) → is_win code ≡ true → plies_in code ≤ most → code ≤ 2 + 2 * most
within_plies code most win few =
    let even = eqb-true (code % 2) 0 (and_parts (code % 2 == 0) (nat_lt 0 code) win).0 in
    omega (arith, few, even)

wins_at : (most : ℕ) (codes : List ℕ) →
    All (λ code. is_win code ≡ true → plies_in code ≤ most) codes → (i : ℕ) →
    is_win (slice_index codes i) ≡ true → slice_index codes i ≤ 2 + 2 * most
wins_at most [] few zero win = absurd (cc)
wins_at most [] few (suc i) win = absurd (cc)
wins_at most (c ∷ codes) few zero win =
    within_plies c most win
    (All-head (λ (code : ℕ). is_win code ≡ true → plies_in code ≤ most) c codes few win)
wins_at most (c ∷ codes) few (suc i) win =
    wins_at most codes
    (All-tail (λ (code : ℕ). is_win code ≡ true → plies_in code ≤ most) c codes few) i win

wins_within : (back : Back) (side : Colour) (most : ℕ) → WinsWithinPlies back side most →
    chains.WinsWithinPlies (plain back) side most
wins_within back White most few = wins_at most back.white few
wins_within back Black most few = wins_at most back.black few

-- the wins of an exact table mate within its longest win and the plies behind it
pub table_within : (rules : RuleLines) (value : Board → Value) (back : Back) →
    IsExactBack rules value back → (side : Colour) (more : ℕ) →
    ExitsForced rules value side more → (most : ℕ) → WinsWithinPlies back side most →
    TellsWithin side (more + most) back
table_within rules value back exact side more exits most few q =
    table_forced rules value (plain back)
    (record { set = exact.set; white = exact.white; black = exact.black })
    side more exits most
    (wins_within back side most few)
    q
