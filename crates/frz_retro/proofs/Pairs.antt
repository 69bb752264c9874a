-- From pair to pair: what a number that is gone through has met.
use Rattle.std.proofs.Common.{◌≡◌, ◌≢◌, ℕ, zero, suc, ◌+◌, ◌*◌, ◌<◌, ◌≤◌, ◌==◌, Bool, true, false, not, ◌&&◌, ◌||◌, List, [], ◌∷◌, get_or, length, refl, sym, ◌∙◌, ap, subst, inl, inr, arith, drop}
use Rattle.std.specs.List.{list_any}
use Rattle.std.proofs.lemmas.Bool.{cases_eq, and_left, and_right, and_from, and_parts, or_left, or_right, or_from, or_cases, or_parts, eqb-true, eq-eqb, ne_eqb}
use Rattle.std.proofs.lemmas.List.{drop_more}
use Rattle.frz_retro.specs.Shape.{Shape, In, Apart, ArePreds}
use Rattle.frz_retro.specs.Work.{bar_at, done_mid, Work, Meeting, Meets, Coming}
use Rattle.frz_board.specs.declared.man.Colour.{Colour}
use Rattle.frz_arena.specs.declared.arm.Next.TheVariants.{Inside}
use Rattle.frz_unmove.specs.declared.preds.Pred.{Pred}
use Rattle.frz_retro.proofs.StateFacts.{done_same}
use Rattle.frz_retro.proofs.WorkFacts.{work_by, work_done}

-- parts of a list
pub in_drop : (n : ℕ) (xs : List Pred) (x : Pred) → In x (drop n xs) → In x xs
in_drop zero xs x h = h
in_drop (suc n) [] x h = h
in_drop (suc n) (y ∷ xs) x h = inr (in_drop n xs x h)

pub apart_drop : (n : ℕ) (xs : List Pred) → Apart (λ p r. p.number ≢ r.number) xs →
    Apart (λ p r. p.number ≢ r.number) (drop n xs)
apart_drop zero xs h = h
apart_drop (suc n) [] h = h
apart_drop (suc n) (y ∷ xs) h = apart_drop n xs h.1

pub or_false : (a b : Bool) → b ≡ false → (a || b) ≡ a
or_false true b e = refl
or_false false b e = e

mid_other : (done : ℕ → ℕ → Bool) (q : ℕ) (rest : List Pred) (i r : ℕ) → r ≢ q →
    done_mid done q rest i r ≡ done i r
mid_other done q rest i r n =
    or_false (done i r) ((q == r) && not (list_any (λ p. p.number == i) rest))
    (and_left (q == r) (not (list_any (λ p. p.number == i) rest)) (ne_eqb q r (λ e. n (sym e))))

-- before the first pair
pub through_begins : {B : Shape} {side : Colour} {k mid : ℕ} {done : ℕ → ℕ → Bool}
    {E C L Q : List ℕ} {tail q : ℕ} {pairs : List Pred} →
    Coming B side k mid done E C L Q tail q pairs →
    Work B side k mid (bar_at k B.size) (done_mid done q pairs) E C L Q tail
through_begins {done = done} {E = E} {q = q} {pairs = pairs} m =
    let w = m.work in let settled = m.settled in let old = m.old in
    work_by w
    (done_same w.state
    (λ i a r l j n. elim (cases_eq r q) [
      | inl e ↦
          let any = any_pred (λ p. p.number == i) pairs (record { number = i; mv = a.mv })
          (m.preds.whole i a j (n ∙ ap Inside e)) (eq-eqb i i refl) in
          or_false (done i r) ((q == r) && not (list_any (λ p. p.number == i) pairs))
          (and_right (q == r) (not (list_any (λ p. p.number == i) pairs)) (ap not any))
      | inr e ↦ mid_other done q pairs i r e
    ])
    (λ i r t. elim (or_cases (done i r)
    ((q == r) && not (list_any (λ p. p.number == i) pairs)) t) [
      | inl e ↦ w.state.low i r e
      | inr e ↦
          let s = eqb-true q r
          (and_parts (q == r) (not (list_any (λ p. p.number == i) pairs)) e).0 in
          let y = ap (λ (x : ℕ). get_or E x 0) s in
          (omega (arith, y, settled), omega (arith, y, old))
    ])
    (λ i r t. w.state.high i r
    (or_parts (done i r) ((q == r) && not (list_any (λ p. p.number == i) pairs)) t).0)) refl
  where
    any_pred : (test : Pred → Bool) (xs : List Pred) (p : Pred) → In p xs → test p ≡ true →
        list_any test xs ≡ true
    any_pred test [] p h e = absurd h
    any_pred test (x ∷ xs) p (inl s) e = or_left (test x) (list_any test xs) (ap test s ∙ e)
    any_pred test (x ∷ xs) p (inr t) e =
        or_right (test x) (list_any test xs) (any_pred test xs p t e)

-- at a pair: what it finds, and what it adds
pub through_meets : (done : ℕ → ℕ → Bool) (q : ℕ) (p : Pred) (rest : List Pred) →
    Apart (λ p r. p.number ≢ r.number) (p ∷ rest) → ((i : ℕ) → done i q ≡ false) →
    Meets (done_mid done q (p ∷ rest)) (done_mid done q rest) p.number q
through_meets done q p rest apart before = record {
  others =
      λ j r n. ap (λ (b : Bool). done j r || ((q == r) && not b))
      (sym (or_fore (p.number == j) (list_any (λ x. x.number == j) rest)
      (ne_eqb p.number j (λ e. n (sym e)))));
  same = λ r n. mid_other done q rest p.number r n ∙ sym (mid_other done q (p ∷ rest) p.number r n);
  now =
      or_right (done p.number q) ((q == q) && not (list_any (λ x. x.number == p.number) rest))
      (and_from (q == q) (not (list_any (λ x. x.number == p.number) rest)) (eq-eqb q q refl)
      (ap not (no_pred (λ x. x.number == p.number) rest
      (λ r i. ne_eqb r.number p.number (λ e. apart.0 r i (sym e))))));
}
  where
    or_fore : (a b : Bool) → a ≡ false → (a || b) ≡ b
    or_fore a b e = ap (λ (x : Bool). x || b) e

    no_pred : (test : Pred → Bool) (xs : List Pred) → ((x : Pred) → In x xs → test x ≡ false) →
        list_any test xs ≡ false
    no_pred test [] f = refl
    no_pred test (x ∷ xs) f =
        or_from (test x) (list_any test xs) (f x (inl refl)) (no_pred test xs (λ y i. f y (inr i)))

pub through_meeting : {B : Shape} {side : Colour} {k mid : ℕ} {E C L Q : List ℕ} {tail q : ℕ}
    {pairs : List Pred} (done : ℕ → ℕ → Bool) (p : Pred) (rest : List Pred) → ArePreds B q pairs →
    ((r : Pred) → In r (p ∷ rest) → In r pairs) → ((i : ℕ) → done i q ≡ false) → 2 ≤ get_or E q 0 →
    get_or E q 0 < 2 + 2 * k →
    Work B side k mid (bar_at k B.size) (done_mid done q (p ∷ rest)) E C L Q tail →
    Meeting B side k mid (done_mid done q (p ∷ rest)) E C L Q tail q p
through_meeting {q = q} done p rest h among before settled old w =
    let s = h.sound p (among p (inl refl)) in
    record {
      work = w;
      before = or_from (done p.number q)
          ((q == q) && not ((p.number == p.number) || list_any (λ x. x.number == p.number) rest))
          (before p.number)
          (and_right (q == q)
          (not ((p.number == p.number) || list_any (λ x. x.number == p.number) rest))
          (ap not (or_left (p.number == p.number) (list_any (λ x. x.number == p.number) rest)
          (eq-eqb p.number p.number refl))));
      settled = settled;
      old = old;
      inside = s.0;
      leads = s.1;
    }

-- after the last pair
pub through_ends : {B : Shape} {side : Colour} {k mid : ℕ} {bar : ℕ → ℕ} {more : ℕ → ℕ → Bool}
    {E C L Q : List ℕ} {tail : ℕ} (done : ℕ → ℕ → Bool) (q : ℕ) →
    Work B side k mid bar (done_mid done q []) E C L Q tail →
    ((i r : ℕ) → more i r ≡ (done i r || (q == r))) → Work B side k mid bar more E C L Q tail
through_ends done q w h =
    work_done w
    (λ i r. h i r ∙ ap (λ (b : Bool). done i r || b) (sym (and_true (q == r))))
  where
    and_true : (b : Bool) → (b && true) ≡ b
    and_true true = refl
    and_true false = refl

-- at a place among the pairs
pub through_at : {B : Shape} {side : Colour} {k mid : ℕ} {done : ℕ → ℕ → Bool} {E C L Q : List ℕ}
    {tail q : ℕ} {pairs : List Pred} {F D M R : List ℕ} {end : ℕ} (j : ℕ) (d : Pred) →
    Coming B side k mid done E C L Q tail q pairs → j < length pairs → get_or F q 0 ≡ get_or E q 0 →
    Work B side k mid (bar_at k B.size) (done_mid done q (drop j pairs)) F D M R end →
    Meeting B side k mid (done_mid done q (drop j pairs)) F D M R end q (get_or pairs j d)
through_at {B} {side} {k} {mid} {done} {E} {C} {L} {Q} {tail} {q} {pairs} {F} {D} {M} {R} {end} j d
    m l same w =
    let e = drop_more pairs j d l in
    let P : List Pred → Type 0 = λ xs. Meeting B side k mid (done_mid done q xs) F D M R end q
    (get_or pairs j d) in
    let W : List Pred → Type 0 = λ xs. Work B side k mid (bar_at k B.size) (done_mid done q xs) F D
    M R end in
    let settled = m.settled in let old = m.old in
    subst P (sym e) (through_meeting done (get_or pairs j d) (drop (j + 1) pairs) m.preds
    (λ r i. in_drop j pairs r (subst (λ xs. In r xs) (sym e) i))
    m.before (omega (arith, same, settled)) (omega (arith, same, old)) (subst W e w))

pub through_more : {B : Shape} {side : Colour} {k mid : ℕ} {done : ℕ → ℕ → Bool} {E C L Q : List ℕ}
    {tail q : ℕ} {pairs : List Pred} (j : ℕ) (d : Pred) →
    Coming B side k mid done E C L Q tail q pairs → j < length pairs →
    Meets (done_mid done q (drop j pairs)) (done_mid done q (drop (j + 1) pairs))
    (get_or pairs j d).number q
through_more {done = done} {q = q} {pairs = pairs} j d m l =
    let e = drop_more pairs j d l in
    let P : List Pred → Type 0 = λ xs. Meets (done_mid done q xs)
    (done_mid done q (drop (j + 1) pairs)) (get_or pairs j d).number q in
    subst P (sym e) (through_meets done q (get_or pairs j d) (drop (j + 1) pairs)
    (subst (λ xs. Apart (λ p r. p.number ≢ r.number) xs) e (apart_drop j pairs m.preds.once))
    m.before)
