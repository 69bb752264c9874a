-- What the bounds of both sides say of chess, where `solve` has told them.
use Rattle.std.proofs.Common.{◌≡◌, ℕ, List, Bool, Result, true, false, Option, Some, None, Ok, Err, refl, sym, subst, ◌∙◌, codes}
use Rattle.std.specs.Bool.{MatchBool}
use Rattle.std.specs.Option.{MatchOption}
use Rattle.std.specs.Result.{MatchResult}
use Rattle.frz_store.specs.Files.{Files}
use Rattle.frz_answer.specs.declared.status.Status.{Status}
use Rattle.frz_answer.specs.declared.status.Status.TheVariants.{Success, Rules, Outside, Missing}
use Rattle.frz_answer.specs.Answers.{Answer, says}
use Rattle.frz_board.specs.declared.man.Colour.TheVariants.{White, Black}
use Rattle.frz_board.specs.Boards.{Board}
use Rattle.frz_rules.specs.declared.fault.RulesFault.{RulesFault}
use Rattle.frz_sets.specs.Views.{RuleLines}
use Rattle.frz_sets.specs.declared.exit.Value.{Value}
use Rattle.frz_rules.specs.Text.{rules_of}
use Rattle.frz_index.specs.Members.{Member}
use Rattle.frz_arena.specs.declared.bound.Bound.{Bound}
use Rattle.frz_exits.specs.Books.{value_by}
use Rattle.frz_game.specs.Numbers.{is_member}
use Rattle.frz_game.proofs.Lemmas.{bound_means, wins_alone, bound_exactly, exits_by_men, text_by_men}
use Rattle.frz_index.proofs.Lemmas.{member_of, of_member}
use Rattle.frz_bound_lines.specs.BoundLines.{bounds_text}
use Rattle.frz_prelude.specs.Causes.{rules_line}
use Rattle.frz_commands_ask.specs.Meaning.{TellsBounds, MeansStatus, MeansSolve}
use Rattle.frz_commands_ask.specs.Solving.{Solves, AreBounds, IsSolvedBy, IsSolvedIn, IsSolvedAt}

-- the bounds of a position of the set say of chess what Means states
pub tells_bounds : (r : RuleLines) (value : Board → Value) (p : Board) (white black : Bound)
    → Member r.groups p → Solves r value p white black
    → TellsBounds r value p (bounds_text white black)
tells_bounds r value p white black inside s = record {
  white = white;
  black = black;
  told = refl;
  bounds = s;
  white_means = bound_means r value White p white inside s.white_is;
  black_means = bound_means r value Black p black inside s.black_is;
  white_alone = wins_alone r value White p white black s.white_is s.black_is;
  black_alone = wins_alone r value Black p black white s.black_is s.white_is;
  white_exact = λ free. bound_exactly r value White free p inside white s.white_is;
  black_exact = λ free. bound_exactly r value Black free p inside black s.black_is;
}

module _ (rules : List ℕ) (p : Board) (files : Files) (a : Answer) where
  -- an answer that is said in full, with what its status says
  said_means : (status : Status) (text : List ℕ) → a ≡ says status text files
      → MeansStatus rules p files status text → MeansSolve rules p files a
  said_means status text e means =
      subst (λ (x : Answer). MeansSolve rules p files x) (sym e)
      (record { same = refl; untaken = refl; says = means })

  module _ (source : List ℕ) (there : files rules ≡ Some source) where
    bounds_mean : (r : RuleLines) → rules_of source ≡ Ok r → Member r.groups p
        → AreBounds r p files a → MeansSolve rules p files a
    bounds_mean r accepted inside (white, black, s, e) =
        said_means Success (bounds_text white black) e (record {
          source = source;
          there = there;
          lines = r;
          accepted = accepted;
          inside = inside;
          tells = tells_bounds r (value_by r) p white black inside s;
          true_by_men = λ men. exits_by_men r (value_by r) (text_by_men r men);
        })

    by_rules : (r : RuleLines) → rules_of source ≡ Ok r → (b : Bool) → is_member r.groups p ≡ b
        → MatchBool b (AreBounds r p files a) (a ≡ says Outside (codes "outside\n") files)
        → MeansSolve rules p files a
    by_rules r accepted true member h = bounds_mean r accepted (member_of r.groups p member) h
    by_rules r accepted false member e =
        said_means Outside (codes "outside\n") e (record {
          source = source;
          there = there;
          lines = r;
          accepted = accepted;
          outside =
              λ inside. let no : false ≡ true = sym member ∙ of_member r.groups p inside in cc;
        })

    by_text : (x : Result RuleLines RulesFault) → rules_of source ≡ x
        → MatchResult x (λ r. IsSolvedBy r p files a)
        (λ fault. a ≡ says Rules (rules_line fault) files) → MeansSolve rules p files a
    by_text (Ok r) e h = by_rules r e (is_member r.groups p) refl h
    by_text (Err fault) e h =
        said_means Rules (rules_line fault) h
        (record { source = source; there = there; fault = fault; refused = e; told = refl })

  by_file : (x : Option (List ℕ)) → files rules ≡ x
      → MatchOption x (a ≡ says Missing (codes "missing rules\n") files)
      (λ text. IsSolvedIn text p files a) → MeansSolve rules p files a
  by_file None e h = said_means Missing (codes "missing rules\n") h e
  by_file (Some source) e h = by_text source e (rules_of source) refl h

pub solve_means : (rules : List ℕ) (p : Board) (files : Files) (a : Answer)
    → IsSolvedAt p rules files a → MeansSolve rules p files a
solve_means rules p files a h = by_file rules p files a (files rules) refl h
