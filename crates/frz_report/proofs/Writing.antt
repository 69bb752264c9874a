-- A report that is written line by line.
use Rattle.std.proofs.Common.{◌≡◌, refl, sym, ap, ◌∙◌, inr, ℕ, List, [], ◌∷◌, ◌++◌, length, Ok, Err, append_assoc, append-nil, codes}
use Rattle.std.specs.Prelude.{decimal}
use Rattle.frz_board.specs.declared.man.Colour.{Colour}
use Rattle.frz_board.specs.Boards.{Board}
use Rattle.frz_sets.specs.declared.exit.Value.{Value}
use Rattle.frz_sets.specs.Sets.{size_of}
use Rattle.frz_sets.specs.Views.{RuleLines}
use Rattle.frz_store.specs.Told.{SinkTold}
use Rattle.frz_answer.specs.Answers.{IsLines}
use Rattle.frz_answer.specs.Texts.{TookText, FailedWithin}
use Rattle.frz_answer.proofs.Lemmas.{failed_before, failed_behind, took_behind, behind_said}
use Rattle.frz_report.specs.declared.fault.ReportFault.{ReportFault}
use Rattle.frz_report.specs.declared.fault.ReportFault.TheVariants.{Store, Output, NoMemory}
use Rattle.frz_report.specs.declared.fault.Totals.{Totals}
use Rattle.frz_report.specs.Exits.{exits_of}
use Rattle.frz_report.specs.Lines.{last_line}
use Rattle.frz_report.specs.Reports.{Finishes, WritesWith, WroteBy, report_with, totals_of}
use Rattle.frz_report.specs.Squeezes.{squeezes}
use Rattle.frz_report.specs.Walks.{TookFront, WritesSome, lines_below}
use Rattle.frz_report.proofs.Walking.{are_lines}

last_line_not_empty : (many exits : ℕ) → last_line many exits ≡ [] → ⊥
last_line_not_empty many exits e = cc

module _ (classes : List ℕ) (rules : RuleLines) (value : Board → Value)
    (kept : Colour → List ℕ) where
  abbrev first : List ℕ
  first = lines_below rules kept (size_of rules.groups)

  abbrev last : List ℕ
  last = last_line (length (squeezes rules.groups kept)) (length (exits_of rules value))

  abbrev whole : List ℕ
  whole = report_with classes rules value kept

  rest_not_empty : classes ++ last ≡ [] → ⊥
  rest_not_empty = behind_said classes last
      (last_line_not_empty (length (squeezes rules.groups kept)) (length (exits_of rules value)))

  -- a report is never empty
  pub report_said : whole ≡ [] → ⊥
  report_said = behind_said first (classes ++ last) rest_not_empty

  last_is_line : (many exits : ℕ) → (front : List ℕ) × (last_line many exits ≡ front ++ 10 ∷ [])
  last_is_line many exits = (
    (codes "squeezes " ++ decimal many) ++ (codes " unassigned " ++ decimal exits),
    simp append_assoc,
  )

  whole_lines : IsLines whole
  whole_lines =
      let line = last_is_line (length (squeezes rules.groups kept))
      (length (exits_of rules value)) in
      inr (
        first ++ (classes ++ line.0),
        ap (λ (l : List ℕ). first ++ (classes ++ l)) line.1 ∙ ap (λ (l : List ℕ). first ++ l)
            (sym (append_assoc classes line.0 (10 ∷ [])))
            ∙ sym (append_assoc first (classes ++ line.0) (10 ∷ [])),
      )

  parts_are_whole : (first ++ classes) ++ last ≡ whole
  parts_are_whole = append_assoc first classes last

  -- something stopped behind whole lines
  front_written : (fault : ReportFault) (old new : SinkTold)
      → ((text : List ℕ) → TookText text old new → WroteBy {T = Totals} (Err fault) text old new)
      → ((rest : List ℕ) → (rest ≡ [] → ⊥)
      → Finishes (Err fault) (totals_of rules value kept) rest)
      → TookFront first old new → WritesWith classes rules value kept (Err fault) old new
  front_written fault old new wrote finishes front = record {
    text = front.text;
    rest = front.rest ++ (classes ++ last);
    lines = front.lines;
    wrote = wrote front.text front.took;
    begins = sym (append_assoc front.text front.rest (classes ++ last))
        ∙ ap (λ (l : List ℕ). l ++ (classes ++ last)) front.begins;
    finishes = finishes (front.rest ++ (classes ++ last))
        (behind_said front.rest (classes ++ last) rest_not_empty);
  }

  -- something stopped the walk
  pub stopped_early : (fault : ReportFault) (many : ℕ) (old new : SinkTold)
      → WritesSome (Err fault) first many old new
      → WritesWith classes rules value kept (Err fault) old new
  stopped_early Output many old new failed = record {
    text = first;
    rest = classes ++ last;
    lines = are_lines rules kept (size_of rules.groups);
    wrote = failed;
    begins = refl;
    finishes = tt;
  }
  stopped_early Store many old new front =
      front_written Store old new (λ text took. took) (λ rest more. more) front
  stopped_early NoMemory many old new front =
      front_written NoMemory old new (λ text took. took) (λ rest more. more) front

  -- there was no memory for the lines of the classes
  pub stopped_behind : (old new : SinkTold) → TookText first old new
      → WritesWith classes rules value kept (Err NoMemory) old new
  stopped_behind old new took = record {
    text = first;
    rest = classes ++ last;
    lines = are_lines rules kept (size_of rules.groups);
    wrote = took;
    begins = refl;
    finishes = rest_not_empty;
  }

  failed_whole : (old new : SinkTold) → FailedWithin whole old new
      → WritesWith classes rules value kept (Err Output) old new
  failed_whole old new failed = record {
    text = whole;
    rest = [];
    lines = whole_lines;
    wrote = failed;
    begins = append-nil whole;
    finishes = tt;
  }

  module _ (old mid : SinkTold) (took : TookText first old mid) where
    -- the sink failed within the lines of the classes
    pub classes_failed : (new : SinkTold) → FailedWithin classes mid new
        → WritesWith classes rules value kept (Err Output) old new
    classes_failed new failed =
        failed_whole old new
        (failed_before (first ++ classes) last whole old new
        (failed_behind first classes (first ++ classes) old mid new took refl failed)
        parts_are_whole)

    module _ (then : SinkTold) (more : TookText classes mid then) where
      took_both : TookText (first ++ classes) old then
      took_both = took_behind first classes (first ++ classes) old mid then took refl more

      -- within the last line
      pub last_failed : (new : SinkTold) → FailedWithin last then new
          → WritesWith classes rules value kept (Err Output) old new
      last_failed new failed =
          failed_whole old new
          (failed_behind (first ++ classes) last whole old then new took_both parts_are_whole
          failed)

      -- all of it was written
      pub all_written : (new : SinkTold) (totals : Totals) → totals ≡ totals_of rules value kept
          → TookText last then new
          → WritesWith classes rules value kept (Ok totals) old new
      all_written new totals is end = record {
        text = whole;
        rest = [];
        lines = whole_lines;
        wrote = took_behind (first ++ classes) last whole old then new took_both parts_are_whole
            end;
        begins = append-nil whole;
        finishes = (is, refl);
      }
