-- That `solve` has an answer, and only one.
use Rattle.std.proofs.Common.{◌≡◌, sym, ap, ◌∙◌, ℕ, List, Bool, true, false, Option, Some, None, Result, Ok, Err, codes}
use Rattle.std.specs.Bool.{MatchBool}
use Rattle.std.specs.Option.{MatchOption}
use Rattle.std.specs.Result.{MatchResult}
use Rattle.frz_store.specs.Files.{Files}
use Rattle.frz_answer.specs.declared.status.Status.TheVariants.{Success, Rules, Outside, Missing}
use Rattle.frz_answer.specs.Answers.{Answer, says}
use Rattle.frz_answer.specs.Lawful.{HasOneAnswer, IsLawful}
use Rattle.frz_answer.specs.Words.{two_words_of}
use Rattle.frz_answer.proofs.Lemmas.{taking_lawful}
use Rattle.frz_board.specs.Boards.{Board}
use Rattle.frz_board.specs.declared.man.Colour.TheVariants.{White, Black}
use Rattle.frz_fen.specs.Reading.{fen_of}
use Rattle.frz_sets.specs.Views.{RuleLines}
use Rattle.frz_rules.specs.Text.{rules_of}
use Rattle.frz_rules.specs.declared.fault.RulesFault.{RulesFault}
use Rattle.frz_arena.specs.declared.bound.Bound.{Bound}
use Rattle.frz_arena.proofs.Lemmas.{one_bound}
use Rattle.frz_exits.specs.Books.{value_by}
use Rattle.frz_game.specs.Games.{arena_by}
use Rattle.frz_game.specs.Numbers.{is_member}
use Rattle.frz_bound_lines.specs.BoundLines.{bounds_text}
use Rattle.frz_prelude.specs.Causes.{rules_line}
use Rattle.frz_prelude.specs.Positions.{on_position}
use Rattle.frz_prelude.proofs.Lemmas.{fen_lawful}
use Rattle.frz_commands_ask.specs.Solving.{AreBounds, IsSolvedBy, IsSolvedIn, IsSolvedAt}
use Rattle.frz_commands_ask.specs.Meaning.{solving_at, solve_words}
use Rattle.frz_commands_ask.proofs.Meaning.{solve_means}
use Rattle.frz_commands_ask.proofs.SolveStages.{some_solved_at}

-- the bounds of both sides are one
one_bounds : (r : RuleLines) (p : Board) (m : Files) (a b : Answer) → AreBounds r p m a
    → AreBounds r p m b → b ≡ a
one_bounds r p m a b (white, black, s, e) (white', black', s', e') =
    let same_white : white' ≡ white = one_bound (arena_by r (value_by r)) White p white' white
    s'.white_is s.white_is in
    let same_black : black' ≡ black = one_bound (arena_by r (value_by r)) Black p black' black
    s'.black_is s.black_is in
    e' ∙ ap (λ (x : Bound). says Success (bounds_text x black') m) same_white
    ∙ ap (λ (x : Bound). says Success (bounds_text white x) m) same_black ∙ sym e

one_by : (r : RuleLines) (p : Board) (m : Files) (a b : Answer) (t : Bool)
    → MatchBool t (AreBounds r p m a) (a ≡ says Outside (codes "outside\n") m)
    → MatchBool t (AreBounds r p m b) (b ≡ says Outside (codes "outside\n") m) → b ≡ a
one_by r p m a b true h k = one_bounds r p m a b h k
one_by r p m a b false h k = k ∙ sym h

one_in : (p : Board) (m : Files) (a b : Answer) (x : Result RuleLines RulesFault)
    → MatchResult x (λ r. IsSolvedBy r p m a) (λ fault. a ≡ says Rules (rules_line fault) m)
    → MatchResult x (λ r. IsSolvedBy r p m b) (λ fault. b ≡ says Rules (rules_line fault) m) → b ≡ a
one_in p m a b (Ok r) h k = one_by r p m a b (is_member r.groups p) h k
one_in p m a b (Err fault) h k = k ∙ sym h

one_at : (p : Board) (m : Files) (a b : Answer) (x : Option (List ℕ))
    → MatchOption x (a ≡ says Missing (codes "missing rules\n") m) (λ text. IsSolvedIn text p m a)
    → MatchOption x (b ≡ says Missing (codes "missing rules\n") m) (λ text. IsSolvedIn text p m b)
    → b ≡ a
one_at p m a b None h k = k ∙ sym h
one_at p m a b (Some text) h k = one_in p m a b (rules_of text) h k

one_solved : (p : Board) (rules : List ℕ) (m : Files) → HasOneAnswer (λ a. IsSolvedAt p rules m a)
one_solved p rules m =
    let some = some_solved_at p rules m in
    (some.a, some.answer, λ b k. one_at p m some.a b (m rules) some.answer k)

solving_lawful : (rules : List ℕ) (p : Board) → IsLawful (solving_at rules p)
solving_lawful rules p =
    record {
      one = λ files input. one_solved p rules files;
      means = λ files input a are h. solve_means rules p files a h;
    }

pub solve_lawful : (words : List (List ℕ)) → IsLawful (solve_words words)
solve_lawful words =
    taking_lawful (λ (names : List ℕ × List ℕ). on_position (solving_at names.0) (fen_of names.1))
    (two_words_of words)
    (λ names. fen_lawful (solving_at names.0) (fen_of names.1) (λ p read. solving_lawful names.0 p))
