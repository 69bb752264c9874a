-- The front of the queue, which is gone through.
use Rattle.std.proofs.Common.{◌≡◌, ℕ, zero, suc, ◌+◌, ◌<◌, ◌==◌, Bool, true, false, ◌||◌, List, get_or, refl, sym, ◌∙◌, ap, ap₂, inl, inr, arith, add-one}
use Rattle.std.proofs.lemmas.Bool.{cases_eq, or_left, or_right, or_cases, false≢true, eqb-true, eq-eqb, false_from_ne_true}
use Rattle.frz_retro.specs.Shape.{Shape, ArePreds}
use Rattle.frz_retro.specs.Work.{bar_at, done_by, Work, Coming}
use Rattle.frz_board.specs.declared.man.Colour.{Colour}
use Rattle.frz_unmove.specs.declared.preds.Pred.{Pred}
use Rattle.frz_retro.proofs.WorkFacts.{work_done}

-- the front of the queue
pub done_at : (Q : List ℕ) (h q : ℕ) → done_by Q h q ≡ true → (t : ℕ) × (t < h) × (get_or Q t 0 ≡ q)
done_at Q zero q e = absurd (false≢true e)
done_at Q (suc h) q e = elim (or_cases (get_or Q h 0 == q) (done_by Q h q) e) [
  | inl s ↦ (h, omega arith, eqb-true (get_or Q h 0) q s)
  | inr s ↦ let w = done_at Q h q s in let l = w.1 in (w.0, omega (arith, l), w.2)
]

pub done_from : (Q : List ℕ) (h t q : ℕ) → t < h → get_or Q t 0 ≡ q → done_by Q h q ≡ true
done_from Q zero t q l e = absurd (omega (arith, l))
done_from Q (suc h) t q l e = elim (cases_eq t h) [
  | inl s ↦
      or_left (get_or Q h 0 == q) (done_by Q h q)
      (eq-eqb (get_or Q h 0) q (ap (λ (x : ℕ). get_or Q x 0) (sym s) ∙ e))
  | inr n ↦ or_right (get_or Q h 0 == q) (done_by Q h q) (done_from Q h t q (omega (arith, l, n)) e)
]

pub done_by_same : (Q R : List ℕ) (h q : ℕ) → ((t : ℕ) → t < h → get_or R t 0 ≡ get_or Q t 0) →
    done_by R h q ≡ done_by Q h q
done_by_same Q R zero q e = refl
done_by_same Q R (suc h) q e =
    ap₂ (λ (x : ℕ) (b : Bool). (x == q) || b) (e h (omega arith))
    (done_by_same Q R h q (λ t l. e t (omega (arith, l))))

-- the number at this place of the queue is next
pub coming_from : {B : Shape} {side : Colour} {k mid : ℕ} {E C L Q : List ℕ} {tail : ℕ}
    {pairs : List Pred} (h : ℕ) →
    Work B side k mid (bar_at k B.size) (λ _ q. done_by Q h q) E C L Q tail → h < mid →
    ArePreds B (get_or Q h 0) pairs →
    Coming B side k mid (λ _ q. done_by Q h q) E C L Q tail (get_or Q h 0) pairs
coming_from {Q = Q} h w l p =
    let m = w.within in
    record {
      work = w;
      before = λ i. false_from_ne_true (done_by Q h (get_or Q h 0))
          (λ e. let d = done_at Q h (get_or Q h 0) e in
          let s = w.queue.once d.0 h (let x = d.1 in omega (arith, x, l, m)) (omega (arith, l, m))
          d.2 in let x = d.1 in omega (arith, s, x));
      settled = w.queue.each h (omega (arith, l, m));
      old = w.queue.old h l;
      preds = p;
    }

-- once its predecessors are gone through, the number at place h is done too
pub came : {B : Shape} {side : Colour} {k mid : ℕ} {bar : ℕ → ℕ} {E C L R : List ℕ} {tail : ℕ}
    (h : ℕ) (Q : List ℕ) →
    Work B side k mid bar (λ _ r. done_by Q h r || (get_or Q h 0 == r)) E C L R tail →
    ((t : ℕ) → t < h + 1 → get_or R t 0 ≡ get_or Q t 0) →
    Work B side k mid bar (λ _ r. done_by R (h + 1) r) E C L R tail
came {R = R} h Q w same =
    work_done w (λ i r.
    ap (λ (x : ℕ). done_by R x r) (add-one h)
    ∙ (done_by_same Q R (suc h) r (λ t l. same t (omega (arith, l))) ∙ or_comm (get_or Q h 0 == r)
    (done_by Q h r)))
  where
    or_comm : (a b : Bool) → (a || b) ≡ (b || a)
    or_comm true true = refl
    or_comm true false = refl
    or_comm false true = refl
    or_comm false false = refl
