use Rattle.std.proofs.Common.{◌∙◌, ◌++◌, ◌∷◌, [], sym, subst, ℕ, List, map}
use Rattle.std.proofs.lemmas.List.{map-append}
use Rattle.arrayvec.specs.ArrayString.{ArrayString}
use Rattle.frz_board.specs.Boards.{Board}
use Rattle.frz_report.specs.Exits.{class_of}
use Rattle.frz_report.specs.Walks.{Counts, IsFirsts, KeepsFirsts}
use Rattle.frz_report.proofs.Looking.{weaker_holds_on_ok}
use Rattle.frz_report.proofs.census.Census.note_position.Goals as goal

pub note-requires : goal.note-requires
note-requires c =
    let k = c.requires.counts in (
      k.0,
      subst (λ (es : List (ArrayString × ℕ)). Counts es k.0) (sym c.keep_first.ensures.classes) k.1,
      c.keep_first.ensures.total ∙ k.2,
      k.3,
    )

pub returns-clause-counts : goal.returns-clause-counts
returns-clause-counts c =
    let new = c.note.new.self.classes.entries in
    weaker_holds_on_ok
    ((exits : List (List ℕ)) → Counts c.keep_first.new.self.classes.entries exits
    → Counts new (exits ++ c.class_of-class.result.bytes ∷ []))
    ((exits : List (List ℕ)) → Counts c.args.self.now.classes.entries exits
    → Counts new (exits ++ class_of c.args.q.now ∷ [])) c.note.result
    (λ h exits before. subst (λ (l : List ℕ). Counts new (exits ++ l ∷ [])) c.class_of-class.ensures
    (h exits (subst (λ (es : List (ArrayString × ℕ)). Counts es exits)
    (sym c.keep_first.ensures.classes) before)))
    c.note.ensures.counts

pub returns-clause-firsts : goal.returns-clause-firsts
returns-clause-firsts c =
    let new = c.note.new.self.classes.entries in
    weaker_holds_on_ok
    ((exits : List (List ℕ)) → Counts c.keep_first.new.self.classes.entries exits
    → Counts new (exits ++ c.class_of-class.result.bytes ∷ []))
    ((exits : List Board)
    → KeepsFirsts c.args.self.now.classes.entries c.args.self.now.firsts.items exits
    → KeepsFirsts new c.note.new.self.firsts.items (exits ++ c.args.q.now ∷ [])) c.note.result
    (λ h exits before. (
      subst (Counts new) (sym (map-append class_of exits (c.args.q.now ∷ [])))
          (subst (λ (l : List ℕ). Counts new (map class_of exits ++ l ∷ []))
          c.class_of-class.ensures
          (h (map class_of exits) (subst (λ (es : List (ArrayString × ℕ)). Counts es
          (map class_of exits)) (sym c.keep_first.ensures.classes) before.0))),
      subst (λ (l : List Board). IsFirsts l (exits ++ c.args.q.now ∷ []))
          (sym c.note.ensures.firsts) (c.in_ok-keep_first.ensures.firsts exits before),
    )) c.note.ensures.counts
