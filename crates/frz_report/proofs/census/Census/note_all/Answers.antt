use Rattle.std.proofs.Common.{◌≡◌, ◌∙◌, ◌+◌, ◌++◌, ◌∷◌, [], ◌≤◌, ℕ, List, ap, sym, subst, length, take, length-append, append_assoc, arith}
use Rattle.frz_board.specs.Boards.{Board}
use Rattle.frz_report.specs.Exits.{class_of, classes_after, positions_after}
use Rattle.frz_report.specs.Walks.{Counts, KeepsFirsts}
use Rattle.frz_report.proofs.Walking.{few_front, seen_step}
use Rattle.frz_report.proofs.census.Census.note_all.Goals as goal

pub note_if_open-requires-clause-counts : goal.note_if_open-requires-clause-counts
note_if_open-requires-clause-counts c =
    let k = c.requires.counts in
    let i = c.loop-arm.arm-index in
    let front : List (List ℕ) = classes_after c.args.p.now (take i c.args.arms.now) in
    let many : length (k.0 ++ front) ≡ length k.0 + length front = length-append k.0 front in
    let few : length front ≤ length c.args.arms.now = few_front c.args.p.now c.args.arms.now i
    (omega arith) in
    let small = k.3 in (
      k.0 ++ front,
      c.loop-arm.invariant.counts k.0 k.1,
      c.loop-arm.invariant.total
          ∙ ap (λ (n : ℕ). n + length front) k.2 ∙ sym many,
      omega arith,
    )

pub loop-arm-preserved : goal.loop-arm-preserved
loop-arm-preserved c =
    let p = c.args.p.now in
    let arms = c.args.arms.now in
    let i = c.loop-arm.arm-index in
    let arm = c.arm-item.result in
    let front : List (List ℕ) = classes_after p (take i arms) in
    let step : classes_after p (take (i + 1) arms) ≡ front ++ classes_after p (arm ∷ []) =
    seen_step class_of p arms i arm (omega arith) c.arm-item.is in
    record {
      total = c.in_ok-note_if_open.ensures.total
          ∙ ap (λ (n : ℕ). n + length (classes_after p (arm ∷ []))) c.loop-arm.invariant.total
          ∙ plus_assoc c.args.self.now.total (length front) (length (classes_after p (arm ∷ [])))
          ∙ ap (λ (n : ℕ). c.args.self.now.total + n)
          (sym (length-append front (classes_after p (arm ∷ []))) ∙ ap length (sym step));
      firsts = λ exits before.
          subst (KeepsFirsts c.note_if_open.new.self.classes.entries
          c.note_if_open.new.self.firsts.items)
          (append_assoc exits (positions_after p (take i arms)) (positions_after p (arm ∷ []))
          ∙ ap (λ (l : List Board). exits ++ l)
          (sym (seen_step (λ q. q) p arms i arm (omega arith) c.arm-item.is)))
          (c.in_ok-note_if_open.ensures.firsts (exits ++ positions_after p (take i arms))
          (c.loop-arm.invariant.firsts exits before));
      counts = λ exits before.
          subst (Counts c.note_if_open.new.self.classes.entries)
          (append_assoc exits front (classes_after p (arm ∷ []))
          ∙ ap (λ (l : List (List ℕ)). exits ++ l) (sym step))
          (c.in_ok-note_if_open.ensures.counts (exits ++ front)
          (c.loop-arm.invariant.counts exits before));
    }
  where
    plus_assoc : (a b c : ℕ) → a + b + c ≡ a + (b + c)
    plus_assoc a b c = omega arith
