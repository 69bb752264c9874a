-- What a meeting keeps of the lists: each way on from a pair.
use Rattle.std.proofs.Common.{◌≡◌, ◌≢◌, ℕ, ◌+◌, ◌-◌, ◌*◌, ◌<◌, ◌≤◌, ◌==◌, Bool, true, false, not, ◌||◌, List, get_or, set, length, refl, sym, ◌∙◌, ap, subst, inl, inr, arith, get_or-set_other, length-set, Some}
use Rattle.std.proofs.lemmas.Bool.{cases_eq, or_right, eq-eqb, ne_eqb}
use Rattle.frz_board.specs.Men.{same_colour}
use Rattle.frz_graph.specs.EntryCodes.{arm_code}
use Rattle.frz_retro.specs.Graphs.{Arm, mover_of}
use Rattle.frz_retro.specs.Kinds.{is_of}
use Rattle.frz_retro.specs.Shape.{Shape, IsGraph, In, counts_for}
use Rattle.frz_retro.specs.State.{IsOpen, IsSettled}
use Rattle.frz_retro.specs.Work.{bar_at, Work, Meeting, Meets}
use Rattle.frz_board.specs.declared.man.Colour.{Colour}
use Rattle.frz_arena.specs.declared.node.Node.TheVariants.{Going}
use Rattle.frz_unmove.specs.declared.preds.Pred.{Pred}
use Rattle.frz_retro.proofs.CodeFacts.{of_other}
use Rattle.frz_retro.proofs.Laws.{own_is}
use Rattle.frz_retro.proofs.Pairs.{or_false}
use Rattle.frz_retro.proofs.StateFacts.{meet_keeps}
use Rattle.frz_retro.proofs.WorkFacts.{bar_within, work_by, work_settles, read_back}
use Rattle.frz_retro.proofs.Choices.{decided_by}
use Rattle.frz_retro.proofs.OpenNumbers.{exhausted_by, met_open, one_less, uncounted_open}

-- what the graph has told of a number and a move of it
pub record Told (B : Shape) (side : Colour) (p : Pred) (own counted : Bool) : Type 0 where
  pub graph : IsGraph B
  pub own_is : (c : Colour) → B.arena.node p.number ≡ Going c → own ≡ same_colour c side
  pub counted_is : (a : Arm) → In a (B.arena.arms p.number) → a.mv ≡ p.mv →
      counted ≡ counts_for own a

pub told_from : {B : Shape} {side : Colour} {p : Pred} {own counted : Bool} {mover : Colour} →
    IsGraph B → mover_of (B.arena.node p.number) ≡ Some mover → own ≡ same_colour mover side →
    ((a : Arm) → In a (B.arena.arms p.number) → a.mv ≡ p.mv → counted ≡ counts_for own a) →
    Told B side p own counted
told_from {side = side} g moves own counted = record {
  graph = g;
  own_is = own_is side moves own;
  counted_is = counted;
}

-- an open number that does not settle by q, to which it has a counted arm
pub record Waits (own counted : Bool) (E : List ℕ) (i q : ℕ) : Type 0 where
  pub counts : counted ≡ true
  pub open_ : get_or E i 0 ≡ 1
  pub other : is_of own (get_or E q 0) ≡ false

module _ {B : Shape} {side : Colour} {k mid : ℕ} {done more : ℕ → ℕ → Bool} {E C L Q : List ℕ}
    {tail q : ℕ} {p : Pred} (m : Meeting B side k mid done E C L Q tail q p)
    (t : Meets done more p.number q) where
  -- p's number has met q: the counters but for its own stay
  meets : (D : List ℕ) → ((j : ℕ) → j ≢ p.number → get_or D j 0 ≡ get_or C j 0) →
      length D ≡ length C →
      ((c : Colour) → B.arena.node p.number ≡ Going c → get_or E p.number 0 ≡ 1
      → IsOpen (same_colour c side) side (B.arena.arms p.number) (more p.number)
      (bar_at k B.size p.number) E (get_or D p.number 0) (get_or L p.number 0))
      → Work B side k mid (bar_at k B.size) more E D L Q tail
  meets D counts long new =
      work_by m.work
      (meet_keeps p.number q m.work.state t.others
      t.same t.now m.settled m.old counts (λ c _ n x. new c n x)) long

  pub meet_settled : get_or E p.number 0 ≢ 1 →
      Work B side k mid (bar_at k B.size) more E C L Q tail
  meet_settled isnt = meets C (λ j n. refl) refl (λ c n x. absurd (isnt x))

-- after the number settled, it still is to meet q
meeting_stays : {B : Shape} {side : Colour} {k mid : ℕ} {done : ℕ → ℕ → Bool} {E C L Q : List ℕ}
    {tail q : ℕ} {p : Pred} (code : ℕ) → Meeting B side k mid done E C L Q tail q p →
    get_or E p.number 0 ≡ 1 →
    Work B side k mid (bar_at k B.size) done (set E p.number code) C L (set Q tail p.number)
    (tail + 1) → Meeting B side k mid done (set E p.number code) C L (set Q tail p.number)
    (tail + 1) q p
meeting_stays {E = E} {q = q} {p = p} code m one w =
    let settled = m.settled in
    let old = m.old in
    let same : get_or (set E p.number code) q 0 ≡ get_or E q 0 = get_or-set_other E p.number q code
    0 (λ e. let y = ap (λ (x : ℕ). get_or E x 0) e in omega (arith, y, one, settled)) in
    record {
      work = w;
      before = m.before;
      settled = omega (arith, same, settled);
      old = omega (arith, same, old);
      inside = m.inside;
      leads = m.leads;
    }

module _ {B : Shape} {side : Colour} {k mid : ℕ} {done : ℕ → ℕ → Bool} {E C L Q : List ℕ}
    {tail q : ℕ} {p : Pred} {own counted : Bool} (m : Meeting B side k mid done E C L Q tail q p)
    (told : Told B side p own counted) where
  -- A number that has an arm is going.
  going : (c : Colour) × (B.arena.node p.number ≡ Going c)
  going = told.graph.others p.number m.leads.arm m.leads.there

  counts_as : (b : Bool) → counted ≡ b → counts_for own m.leads.arm ≡ b
  counts_as b e = sym (told.counted_is m.leads.arm m.leads.there m.leads.move) ∙ e

  late : 2 * k ≤ get_or E q 0
  late = m.work.state.high p.number q m.before m.settled

  opened : get_or E p.number 0 ≡ 1 →
      IsOpen own side (B.arena.arms p.number) (done p.number) (bar_at k B.size p.number) E
      (get_or C p.number 0) (get_or L p.number 0)
  opened one =
      subst (λ w. IsOpen w side (B.arena.arms p.number) (done p.number)
      (bar_at k B.size p.number) E (get_or C p.number 0) (get_or L p.number 0))
      (sym (told.own_is going.0 going.1)) (m.work.state.going p.number going.0 m.inside going.1 one)

  -- the number has met q and stays open
  meets_open : {more : ℕ → ℕ → Bool} (D : List ℕ) → Meets done more p.number q →
      ((j : ℕ) → j ≢ p.number → get_or D j 0 ≡ get_or C j 0) → length D ≡ length C →
      (get_or E p.number 0 ≡ 1 → IsOpen own side (B.arena.arms p.number) (more p.number)
      (bar_at k B.size p.number) E (get_or D p.number 0) (get_or L p.number 0)) →
      Work B side k mid (bar_at k B.size) more E D L Q tail
  meets_open {more} D t counts long new =
      meets m t D counts long (λ c n x.
      subst (λ w. IsOpen w side (B.arena.arms p.number) (more p.number)
      (bar_at k B.size p.number) E (get_or D p.number 0) (get_or L p.number 0)) (told.own_is c n)
      (new x))

  -- the number settles by q, which it has met
  settles : {more : ℕ → ℕ → Bool} (D : List ℕ) → Meets done more p.number q →
      ((j : ℕ) → j ≢ p.number → get_or D j 0 ≡ get_or C j 0) → length D ≡ length C →
      get_or E p.number 0 ≡ 1 →
      IsSettled own (arm_code side E) (B.arena.arms p.number) (get_or E q 0 + 2) →
      Work B side k mid (bar_at k B.size) more (set E p.number (get_or E q 0 + 2)) D L
      (set Q tail p.number) (tail + 1)
  settles D t counts long one d =
      let l = late in let old = m.old in
      let w = work_settles p.number going.0 (get_or E q 0 + 2) m.work m.inside going.1 one
      (omega (arith, l)) (omega (arith, old))
      (subst (λ w. IsSettled w (arm_code side E) (B.arena.arms p.number) (get_or E q 0 + 2))
      (told.own_is going.0 going.1) d) in
      meets (meeting_stays (get_or E q 0 + 2) m one w) t D counts long (λ _ _ e.
      let y = read_back E p.number (get_or E q 0 + 2) (omega (arith, one)) in
      absurd (omega (arith, y, e)))

  pub meet_uncounted : {more : ℕ → ℕ → Bool} → Meets done more p.number q → counted ≡ false →
      Work B side k mid (bar_at k B.size) more E C L Q tail
  meet_uncounted {more} t e = meets_open C t (λ j n. refl) refl (λ one.
      uncounted_open (more p.number) m.leads.arm q (opened one) (told.graph.apart p.number)
      m.leads.there (counts_as false e) m.leads.inside t.same)

  pub meet_decides : {more : ℕ → ℕ → Bool} → Meets done more p.number q → counted ≡ true →
      get_or E p.number 0 ≡ 1 → is_of own (get_or E q 0) ≡ true →
      Work B side k mid (bar_at k B.size) more (set E p.number (get_or E q 0 + 2)) C L
      (set Q tail p.number) (tail + 1)
  meet_decides t e one kind =
      settles C t (λ j n. refl) refl one
      (inl (decided_by k m.leads.arm q (opened one) (m.work.state.high p.number)
      (bar_within k B.size p.number).0 m.leads.there (counts_as true e) m.leads.inside kind m.old))

  module _ (w : Waits own counted E p.number q) where
    other : is_of (not own) (get_or E q 0) ≡ true
    other = of_other own (get_or E q 0) m.settled w.other

    pub meet_waits : 0 < get_or C p.number 0
    meet_waits =
        let more : ℕ → Bool = λ r. done p.number r || (q == r) in
        let less = one_less own side (B.arena.arms p.number) (done p.number) more E m.leads.arm q
        (told.graph.apart p.number) m.leads.there m.leads.inside
        (λ r n. or_false (done p.number r) (q == r) (ne_eqb q r (λ e. n (sym e))))
        (counts_as true w.counts) other m.before
        (or_right (done p.number q) (q == q) (eq-eqb q q refl)) in
        let counter = (opened w.open_).counter in
        omega (arith, less, counter)

    abbrev less : List ℕ
    less = set C p.number (get_or C p.number 0 - 1)

    others : (j : ℕ) → j ≢ p.number → get_or less j 0 ≡ get_or C j 0
    others j n = get_or-set_other C p.number j (get_or C p.number 0 - 1) 0 n

    left : get_or less p.number 0 ≡ get_or C p.number 0 - 1
    left = read_back C p.number (get_or C p.number 0 - 1) meet_waits

    pub meet_less : {more : ℕ → ℕ → Bool} → Meets done more p.number q →
        (get_or less p.number 0 ≡ 0 → get_or E q 0 + 2 < get_or L p.number 0) →
        Work B side k mid (bar_at k B.size) more E less L Q tail
    meet_less {more} t later =
        let some = meet_waits in let e = left in
        meets_open less t others (length-set C p.number (get_or C p.number 0 - 1)) (λ one.
        met_open (more p.number) k m.leads.arm q (opened one) (told.graph.apart p.number)
        m.leads.there (counts_as true w.counts) m.leads.inside t.same other m.before t.now late
        (bar_within k B.size p.number).1 (get_or less p.number 0) (omega (arith, some, e)) later)

    pub meet_last : {more : ℕ → ℕ → Bool} → Meets done more p.number q →
        get_or less p.number 0 ≤ 0 → get_or L p.number 0 ≤ get_or E q 0 + 2 →
        Work B side k mid (bar_at k B.size) more (set E p.number (get_or E q 0 + 2)) less L
        (set Q tail p.number) (tail + 1)
    meet_last {more} t zero short =
        let some = meet_waits in let e = left in let old = m.old in
        let low : (r : ℕ) → more p.number r ≡ true
        → get_or E r 0 < 2 + 2 * k = λ r x. elim (cases_eq r q) [
          | inl s ↦ let y = ap (λ (z : ℕ). get_or E z 0) s in omega (arith, y, old)
          | inr s ↦ (m.work.state.low p.number r (sym (t.same r s) ∙ x)).1
        ] in
        settles less t others (length-set C p.number (get_or C p.number 0 - 1)) w.open_
        (inr (exhausted_by (more p.number) k m.leads.arm q (opened w.open_)
        (told.graph.apart p.number) m.leads.there (counts_as true w.counts) m.leads.inside t.same
        other m.before t.now low late (omega (arith, some, e, zero)) short))
