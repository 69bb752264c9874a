-- Writing the lines, one by one.
use Rattle.std.proofs.Common.{◌≡◌, refl, sym, ap, subst, ◌∙◌, ℕ, suc, ◌+◌, ◌<◌, ◌≤◌, List, [], ◌∷◌, ◌++◌, drop, length, get_or, append_assoc, append-nil, add-one}
use Rattle.std.specs.Prelude.{flat_map}
use Rattle.std.proofs.Math.Seq.{drop-cons}
use Rattle.std.proofs.lemmas.List.{drop_all}
use Rattle.frz_store.specs.Told.{SinkTold}
use Rattle.frz_answer.specs.Texts.{TookText, FailedWithin}
use Rattle.frz_answer.proofs.Lemmas.{failed_before, failed_behind, took_behind, took_nothing}
use Rattle.frz_commands_premises.specs.declared.line.Line.{Line}
use Rattle.frz_commands_premises.specs.LineTexts.{line_text}

-- what was written so far, and then the text of the other lines, is the text of all
pub record HasWritten (lines : List Line) (i : ℕ) (old now : SinkTold) : Type 0 where
  pub written : List ℕ
  pub took : TookText written old now
  pub rest : written ++ flat_map line_text (drop i lines) ≡ flat_map line_text lines

pub nothing_written : (lines : List Line) (out : SinkTold) → HasWritten lines 0 out out
nothing_written lines out = record { written = []; took = took_nothing out; rest = refl }

module _ (lines : List Line) (i : ℕ) (line : Line) (old mid new : SinkTold)
    (here : i < length lines) (is : line ≡ get_or lines i line)
    (so_far : HasWritten lines i old mid) where
  abbrev others : List ℕ
  others = flat_map line_text (drop (i + 1) lines)

  -- the lines from a place on: the one there, and the rest
  next_written : flat_map line_text (drop i lines) ≡ line_text line ++ others
  next_written =
      ap (flat_map line_text)
      (drop-cons lines i line here ∙ ap (λ (x : Line). x ∷ drop (suc i) lines) (sym is)
      ∙ ap (λ n. line ∷ drop n lines) (sym (add-one i)))

  written_and_left_are_all : so_far.written ++ (line_text line ++ others) ≡ flat_map line_text lines
  written_and_left_are_all = ap (λ (l : List ℕ). so_far.written ++ l) (sym next_written)
      ∙ so_far.rest

  -- the sink took the line
  pub more_written : TookText (line_text line) mid new → HasWritten lines (i + 1) old new
  more_written took = record {
    written = so_far.written ++ line_text line;
    took = took_behind so_far.written (line_text line) (so_far.written ++ line_text line) old mid new
        so_far.took refl took;
    rest = append_assoc so_far.written (line_text line) others ∙ written_and_left_are_all;
  }

  -- the sink failed within it
  pub cut_written : FailedWithin (line_text line) mid new
      → FailedWithin (flat_map line_text lines) old new
  cut_written failed =
      failed_before (so_far.written ++ line_text line) others (flat_map line_text lines) old new
      (failed_behind so_far.written (line_text line) (so_far.written ++ line_text line) old mid new
      so_far.took refl failed)
      (append_assoc so_far.written (line_text line) others ∙ written_and_left_are_all)

-- all lines are written
pub all_written : (lines : List Line) (i : ℕ) (old now : SinkTold) → length lines ≤ i
    → HasWritten lines i old now → TookText (flat_map line_text lines) old now
all_written lines i old now over so_far =
    let nothing : drop i lines ≡ [] = drop_all i lines over in
    subst (λ (l : List ℕ). TookText l old now)
    (sym (append-nil so_far.written)
    ∙ ap (λ (l : List Line). so_far.written ++ flat_map line_text l) (sym nothing)
    ∙ so_far.rest) so_far.took
