use Rattle.std.proofs.Common.{◌≡◌, ◌∙◌, ◌++◌, [], ◌∷◌, ap, sym, subst, List, ℕ, true}
use Rattle.frz_board.specs.Boards.{Board}
use Rattle.frz_report.specs.Exits.{class_of, classes_after, is_open, positions_after}
use Rattle.frz_report.specs.Walks.{Counts, KeepsFirsts}
use Rattle.frz_report.proofs.Looking.{weaker_holds_on_ok}
use Rattle.frz_report.proofs.Walking.{open_one}
use Rattle.frz_report.proofs.census.Census.note_if_open.Goals as goal

pub returns-then-is_open-clause-counts : goal.returns-then-is_open-clause-counts
returns-then-is_open-clause-counts c =
    let open_exit : is_open c.args.arm.next ≡ true = cc in
    let old = c.args.self.now.classes.entries in
    let new = c.note_position.new.self.classes.entries in
    let q = c.as_position.result.now in
    let same : class_of q ∷ [] ≡ classes_after c.args.p.now (c.args.arm ∷ []) =
    ap (λ (b : Board). class_of b ∷ []) (c.as_position.ensures ∙ c.after-q.ensures.position)
    ∙ sym (open_one class_of c.args.p.now c.args.arm open_exit) in
    weaker_holds_on_ok ((exits : List (List ℕ)) → Counts old exits
    → Counts new (exits ++ class_of q ∷ []))
    ((exits : List (List ℕ)) → Counts old exits
    → Counts new (exits ++ classes_after c.args.p.now (c.args.arm ∷ []))) c.note_position.result
    (λ h exits before. subst (λ (l : List (List ℕ)). Counts new (exits ++ l)) same (h exits before))
    c.note_position.ensures.counts

pub returns-then-is_open-clause-firsts : goal.returns-then-is_open-clause-firsts
returns-then-is_open-clause-firsts c =
    let open_exit : is_open c.args.arm.next ≡ true = cc in
    let old = c.args.self.now in
    let new = c.note_position.new.self in
    let q = c.as_position.result.now in
    let same : q ∷ [] ≡ positions_after c.args.p.now (c.args.arm ∷ []) =
    ap (λ (b : Board). b ∷ []) (c.as_position.ensures ∙ c.after-q.ensures.position)
    ∙ sym (open_one (λ b. b) c.args.p.now c.args.arm open_exit) in
    weaker_holds_on_ok ((exits : List Board) → KeepsFirsts old.classes.entries old.firsts.items exits
    → KeepsFirsts new.classes.entries new.firsts.items (exits ++ q ∷ []))
    ((exits : List Board) → KeepsFirsts old.classes.entries old.firsts.items exits
    → KeepsFirsts new.classes.entries new.firsts.items
    (exits ++ positions_after c.args.p.now (c.args.arm ∷ []))) c.note_position.result
    (λ h exits before. subst (λ (l : List Board). KeepsFirsts new.classes.entries new.firsts.items
    (exits ++ l)) same (h exits before))
    c.note_position.ensures.firsts
