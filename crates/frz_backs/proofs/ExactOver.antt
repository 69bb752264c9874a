-- The outcomes that tables tell are true where theirs are those of chess, and a table over them has
-- such outcomes where each way out of its set is decided.
use Rattle.std.proofs.Common.{◌≡◌, ℕ, Bool, true, false, List, [], ◌∷◌, ◌++◌, All, refl, sym, subst}
use Rattle.std.specs.Prelude.{slice_index, if◌then◌else◌}
use Rattle.std.proofs.lemmas.List.Elements.{All-nil, All-cons, All-head, All-tail}
use Rattle.frz_board.specs.Boards.{Board}
use Rattle.frz_board.specs.declared.man.Colour.{Colour}
use Rattle.frz_fide.specs.Legal.{after}
use Rattle.frz_sets.specs.declared.exit.Value.{Value}
use Rattle.frz_sets.specs.declared.exit.Value.TheVariants.{WhiteWins, BlackWins, Draw, WhiteHolds, BlackHolds, Unknown, WhiteWinsIn, BlackWinsIn}
use Rattle.frz_sets.specs.Views.{RuleLines}
use Rattle.frz_index.specs.Members.{Member, Num}
use Rattle.frz_chain.specs.Bounds.{IsTableOf}
use Rattle.frz_chain.specs.Values.{IsTrueValue}
use Rattle.frz_chain.specs.PairValues.{pair_value}
use Rattle.frz_chain.proofs.Lemmas.{holds_of_pair_value}
use Rattle.frz_backs.specs.declared.counts.Counts.{Counts}
use Rattle.frz_backs.specs.Books.{Back}
use Rattle.frz_backs.specs.Counts.{counts_of}
use Rattle.frz_backs.specs.Decided.{HasBothOutcomes}
use Rattle.frz_backs.specs.ExactOver.{AreTrueOutcomes, HasOutcomesOver, outcome_of}
use Rattle.frz_backs.specs.Links.{AreExact, AreExactOver, Link, backs_of}
use Rattle.frz_backs.specs.Values.{atlas_value, back_value, own_value, plies_in, told_in, with_plies}
use Rattle.frz_backs.proofs.DecidedTables.{tables_decide}
use Rattle.frz_backs.proofs.FirstValue.{first_of, holds_of_atlas_value}
use Rattle.frz_backs.proofs.Outcomes.{outcomes_exact}
use Rattle.frz_backs.proofs.Told.{holds_of_back_value}

-- the outcome of a win that is told with its plies or without
white_outcome : (test : Bool) (n : ℕ) →
    outcome_of (if test then WhiteWinsIn n else WhiteWins) ≡ WhiteWins
white_outcome true n = refl
white_outcome false n = refl

black_outcome : (test : Bool) (n : ℕ) →
    outcome_of (if test then BlackWinsIn n else BlackWins) ≡ BlackWins
black_outcome true n = refl
black_outcome false n = refl

outcome_told : (counts : Counts) (white black : ℕ) (v : Value) →
    outcome_of (with_plies counts white black v) ≡ outcome_of v
outcome_told counts white black WhiteWins = white_outcome counts.white (plies_in white)
outcome_told counts white black BlackWins = black_outcome counts.black (plies_in black)
outcome_told counts white black Draw = refl
outcome_told counts white black WhiteHolds = refl
outcome_told counts white black BlackHolds = refl
outcome_told counts white black Unknown = refl
outcome_told counts white black (WhiteWinsIn n) = refl
outcome_told counts white black (BlackWinsIn n) = refl

-- the outcome that the value gives is true
abbrev IsTrueOutcome : Board → Value → Type 0
IsTrueOutcome q v = IsTrueValue (outcome_of v) q

-- what one such table tells
module _ (counts : Counts) (link : Link) (set : link.back.groups ≡ link.rules.groups)
    (outcomes : HasBothOutcomes link) (q : Board) where
  tells_in_set : Member link.rules.groups q
      → IsTrueOutcome q (told_in counts link.back (Num link.rules.groups q))
  tells_in_set member =
      let i : ℕ = Num link.rules.groups q in
      let white = outcomes.0 in
      let black = outcomes.1 in
      let w = slice_index link.back.white i in
      let b = slice_index link.back.black i in
      subst (λ (v : Value). IsTrueValue v q) (sym (outcome_told counts w b (pair_value w b)))
      (holds_of_pair_value (IsTrueOutcome q) w b
      (λ win. (white.win q member).0 win)
      (λ win. (black.win q member).0 win)
      (λ w b. (((white.hold q member).0 w).no_loss, ((black.hold q member).0 b).no_loss))
      (λ w. ((white.hold q member).0 w).no_loss)
      (λ b. ((black.hold q member).0 b).no_loss)
      tt)

  tells_there : IsTrueOutcome q (back_value counts link.back q)
  tells_there =
      holds_of_back_value link.rules link.back set q (IsTrueOutcome q) counts tt tells_in_set

-- what each of them tells
abbrev TellsOutcome : Counts → Back → Type 0
TellsOutcome counts back = (q : Board) → IsTrueOutcome q (back_value counts back q)

all_tell : (counts : Counts) (before : List Back) (links : List Link) → AreExactOver before links →
    All HasBothOutcomes links → All (TellsOutcome counts) (backs_of links)
unfolding AreExactOver
all_tell counts before [] exact outcomes = All-nil (TellsOutcome counts)
all_tell counts before (link ∷ links) exact outcomes =
    All-cons (TellsOutcome counts) link.back (backs_of links)
    (tells_there counts link exact.0.set (All-head HasBothOutcomes link links outcomes))
    (all_tell counts (before ++ (link.back ∷ [])) links exact.1
    (All-tail HasBothOutcomes link links outcomes))

pub exits_by_outcomes : (rules : RuleLines) (links : List Link) → AreExact links →
    All HasBothOutcomes links → AreTrueOutcomes rules (own_value rules (backs_of links)) →
    AreTrueOutcomes rules (atlas_value rules (backs_of links))
exits_by_outcomes rules links exact outcomes own p m member legal outside =
    let backs = backs_of links in
    let q = after p m in
    holds_of_atlas_value (IsTrueOutcome q) rules backs q
    (own p m member legal outside)
    (first_of (IsTrueOutcome q) (counts_of backs) Unknown backs q tt
    (λ k back l. all_tell (counts_of backs) [] links exact outcomes k back l q))

pub outcomes_over : (rules : RuleLines) (links : List Link) → AreExact links → (side : Colour)
    (codes : List ℕ) → IsTableOf rules (atlas_value rules (backs_of links)) side codes →
    HasOutcomesOver rules links side codes
outcomes_over rules links exact side codes table free own decided outcomes =
    outcomes_exact rules (atlas_value rules (backs_of links))
    (exits_by_outcomes rules links exact outcomes own)
    (tables_decide rules links exact outcomes decided) side codes table free
