-- The verdict is true in chess where the exits are true.
use Rattle.std.proofs.Common.{[], ◌∷◌, ◌++◌, ◌≡◌, ◌+◌, ◌*◌, ◌-◌, ◌/◌, ◌∙◌, ℕ, List, Bool, true, false, ap, arith, refl, subst, sym, if◌then◌else◌}
use Rattle.std.specs.Prelude.{◌==◌}
use Rattle.std.proofs.lemmas.Bool.{eqb-true}
use Rattle.frz_board.specs.declared.man.Colour.{Colour}
use Rattle.frz_board.specs.declared.man.Colour.TheVariants.{White, Black}
use Rattle.frz_board.specs.Boards.{Board}
use Rattle.frz_board.specs.Men.{other_of}
use Rattle.frz_sets.specs.declared.exit.Value.{Value}
use Rattle.frz_index.specs.Members.{Member}
use Rattle.frz_arena.specs.Chess.{NeverForcesMate}
use Rattle.frz_arena.specs.Codes.{code_of, is_win}
use Rattle.frz_game.specs.Bounds.{IsTableOf}
use Rattle.frz_arena.specs.Exits.{AllNumbered}
use Rattle.frz_game.specs.Games.{chess, game_of}
use Rattle.frz_sets.specs.Views.{ExitLine, RuleLines}
use Rattle.std.proofs.lemmas.List.{map-append}
use Rattle.frz_game.specs.Meaning.{MeansWin}
use Rattle.frz_game.specs.Values.{AreTrueExits}
use Rattle.frz_game.proofs.Lemmas.{stored_bound, table_means, win_code}
use Rattle.frz_backs.specs.declared.counts.Counts.{Counts}
use Rattle.frz_backs.specs.Books.{Back, back_codes}
use Rattle.frz_backs.specs.Counts.{counts_side, lines_count}
use Rattle.frz_backs.proofs.Lemmas.{counted_before, counted_lines, counted_side, lines_numbered, over_numbered}
use Rattle.frz_backs.specs.FileOn.{IsExactBack}
use Rattle.frz_backs.specs.Links.{Link, backs_of, value_over}
use Rattle.frz_commands_verdict.specs.declared.verdict.Verdict.TheVariants.{Draw, DoesNotLose, NotShown}
use Rattle.frz_commands_verdict.specs.VerdictMeans.{IsTrueVerdict}
use Rattle.frz_commands_verdict.specs.Verdicts.{code_at, counts_over, counts_through, held, verdict_at, won}

-- where the wins of the side give their plies, each value by which it wins does
numbered_over : (leans : Bool) (rules : RuleLines) (before : List Back) (back : Back) →
    back.exits ≡ rules.exits → (side : Colour) →
    counts_side (counts_over leans rules (before ++ (back ∷ []))) side ≡ true →
    AllNumbered (game_of rules (value_over leans rules before)) side
numbered_over true rules before back same side e =
    let both = counted_before before back side
    (counted_side (before ++ (back ∷ [])) side e) in
    over_numbered true rules before side both.0
    (subst (λ (lines : List ExitLine). lines_count side lines ≡ true) same
    (counted_lines side back both.1))
numbered_over false rules before back same White e = λ q x. lines_numbered rules White e q
numbered_over false rules before back same Black e = λ q x. lines_numbered rules Black e q

halved : (code n : ℕ) → code ≡ 2 + 2 * n → n ≡ (code - 2) / 2
halved code n e = omega (arith, e)

module _ (before : List Link) (own : Link)
    (exact : IsExactBack own.rules (value_over own.leans own.rules (backs_of before)) own.back)
    (exits : AreTrueExits own.rules (value_over own.leans own.rules (backs_of before)))
    (p : Board) (member : Member own.rules.groups p) where
  abbrev value : Board → Value
  value = value_over own.leans own.rules (backs_of before)

  table : (side : Colour) → IsTableOf own.rules value side (back_codes own.back side)
  table White = exact.white
  table Black = exact.black

  winning : (side : Colour) → is_win (code_at own side p) ≡ true
      → MeansWin own.rules value side ((code_at own side p - 2) / 2) p
  winning side win =
      let stored = stored_bound own.rules value side (back_codes own.back side) (table side) p
      member in
      let is = (win_code stored.0).0 (sym (ap is_win stored.1) ∙ win) in
      let code : code_at own side p ≡ 2 + 2 * is.0 = stored.1 ∙ ap code_of is.1 in
      subst (λ (n : ℕ). MeansWin own.rules value side n p) (halved (code_at own side p) is.0 code)
      ((table_means own.rules value side (back_codes own.back side) (table side)).win p is.0
      member code)

  holding : (side : Colour) → (code_at own side p == 1) ≡ true
      → NeverForcesMate chess (other_of side) p
  holding side one =
      (table_means own.rules value side (back_codes own.back side) (table side)).hold p member
      (eqb-true (code_at own side p) 1 one) exits

  abbrev counts : Counts
  counts = counts_through (before ++ own ∷ []) own

  numbered : (side : Colour) → counts_side counts side ≡ true
      → AllNumbered (game_of own.rules value) side
  numbered side e =
      numbered_over own.leans own.rules (backs_of before) own.back exact.lines side
      (subst (λ (bs : List Back). counts_side (counts_over own.leans own.rules bs) side ≡ true)
      (map-append (λ (l : Link). l.back) before (own ∷ [])) e)

  by_counting : (side : Colour) → is_win (code_at own side p) ≡ true → (counted : Bool)
      → counts_side counts side ≡ counted → IsTrueVerdict (won side (code_at own side p) counted) p
  by_counting side win true e =
      (winning side win).within exits (numbered side e)
  by_counting side win false e = (winning side win).mate exits

  true_win : (side : Colour) → is_win (code_at own side p) ≡ true
      → IsTrueVerdict (won side (code_at own side p) (counts_side counts side)) p
  true_win side win = by_counting side win (counts_side counts side) refl

  by_holds : (white black : Bool) → (code_at own White p == 1) ≡ white
      → (code_at own Black p == 1) ≡ black
      → IsTrueVerdict (if white then (if black then Draw else DoesNotLose White) else
      (if black then DoesNotLose Black else NotShown)) p
  by_holds true true e f = (holding Black f, holding White e)
  by_holds true false e f = holding White e
  by_holds false true e f = holding Black f
  by_holds false false e f = tt

  by_wins : (white black : Bool) → is_win (code_at own White p) ≡ white
      → is_win (code_at own Black p) ≡ black
      → IsTrueVerdict (if white then (if black then NotShown
      else won White (code_at own White p) counts.white) else
      (if black then won Black (code_at own Black p) counts.black
      else held (code_at own White p) (code_at own Black p))) p
  by_wins true true e f = tt
  by_wins true false e f = true_win White e
  by_wins false true e f = true_win Black f
  by_wins false false e f =
      by_holds (code_at own White p == 1) (code_at own Black p == 1) refl refl

  pub verdict_is_true : IsTrueVerdict (verdict_at (before ++ own ∷ []) own p) p
  verdict_is_true =
      by_wins (is_win (code_at own White p)) (is_win (code_at own Black p)) refl refl
