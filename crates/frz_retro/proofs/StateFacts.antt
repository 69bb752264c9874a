-- What a step of the solver keeps.
use Rattle.std.proofs.Common.{◌≡◌, ◌≢◌, ℕ, ◌+◌, ◌*◌, ◌<◌, ◌≤◌, ◌⊎◌, Bool, true, false, not, List, get_or, set, length, refl, sym, ◌∙◌, ap, ap₂, subst, inl, inr, arith, get_or-set_same, get_or-set_other}
use Rattle.std.proofs.lemmas.Bool.{cases_eq, true≢false}
use Rattle.frz_board.specs.Men.{same_colour}
use Rattle.frz_retro.specs.Kinds.{is_of}
use Rattle.frz_graph.specs.EntryCodes.{next_code, arm_code}
use Rattle.frz_retro.specs.Shape.{Shape, In, counts_for}
use Rattle.frz_retro.specs.State.{IsSettled, waits, IsOpen, State}
use Rattle.frz_board.specs.declared.man.Colour.{Colour}
use Rattle.frz_arena.specs.declared.node.Node.TheVariants.{Going}
use Rattle.frz_retro.specs.Graphs.{Next}
use Rattle.frz_arena.specs.declared.arm.Next.TheVariants.{Inside, Outside}
use Rattle.frz_retro.specs.Graphs.{Arm}
use Rattle.frz_retro.proofs.CodeFacts.{of_low}
use Rattle.frz_retro.proofs.Counting.{count_same, waits_same}

-- A settled number stays so where an arm's code changes from below 2 to one that is no better.
pub settled_stays : (own : Bool) (f g : Arm → ℕ) (arms : List Arm) (c : ℕ) →
    ((a : Arm) → In a arms → (g a ≡ f a) ⊎ ((f a < 2) × (c ≤ g a + 2))) → IsSettled own f arms c →
    IsSettled own g arms c
settled_stays own f g arms c h (inl d) =
    let same : g d.arm ≡ f d.arm = elim (h d.arm d.there) [
      | inl e ↦ e
      | inr w ↦ let l = of_low own (f d.arm) d.kind in
          absurd (omega (arith, w.0, l))
    ] in
    inl (record {
      arm = d.arm;
      there = d.there;
      counted = d.counted;
      kind = ap (is_of own) same ∙ d.kind;
      least = λ b i n k. elim (h b i) [
        | inl e ↦ let l = d.least b i n (sym (ap (is_of own) e) ∙ k) in omega (arith, l, e, same)
        | inr w ↦ let x = d.code in omega (arith, w.1, x, same)
      ];
      code = d.code ∙ ap (λ (n : ℕ). n + 2) (sym same);
    })
settled_stays own f g arms c h (inr d) =
    let same : (b : Arm) → In b arms → counts_for own b ≡ true → g b ≡ f b = λ b i n.
    elim (h b i) [
      | inl e ↦ e
      | inr w ↦ let l = of_low (not own) (f b) (d.each b i n).0 in
          absurd (omega (arith, w.0, l))
    ] in
    inr (record {
      most = d.most;
      each = λ b i n.
          let e = d.each b i n in
          let s = same b i n in
          (ap (is_of (not own)) s ∙ e.0, omega (arith, s, e.1));
      reached =
          elim d.reached [ inl e ↦ inl e | inr w ↦ inr (w.0, w.1, w.2, same w.0 w.1 w.2 ∙ w.3) ];
      code = d.code;
    })

-- An open number stays so where nothing changes at what its arms lead to.
pub open_stays : {own : Bool} {side : Colour} {arms : List Arm} {d : ℕ → Bool} {bar : ℕ}
    {E : List ℕ} {count later : ℕ} (e : ℕ → Bool) (F : List ℕ) →
    ((a : Arm) → In a arms → (q : ℕ) → a.next ≡ Inside q → (e q ≡ d q)
    × (d q ≡ true → get_or F q 0 ≡ get_or E q 0)) → IsOpen own side arms d bar E count later →
    IsOpen own side arms e bar F count later
open_stays {own} {side} {arms} {d} {bar} {E} e F h o = record {
  counter =
      o.counter
      ∙ sym (count_same (waits own d side E) (waits own e side F) arms
      (λ a i. waits_same own d e side E F a (h a i)));
  undecided =
      λ a i n q x t. let g = h a i q x in let was = sym g.0 ∙ t in ap (is_of own) (g.1 was)
      ∙ o.undecided a i n q x was;
  exits = o.exits;
  due = o.due;
  last = o.last;
}

-- what an arm's code becomes where an open number i settles
new_code : (side : Colour) (E : List ℕ) (i code c : ℕ) (n : Next) → i < length E →
    get_or E i 0 ≡ 1 → c ≤ code + 2 →
    (next_code side (set E i code) n ≡ next_code side E n)
    ⊎ ((next_code side E n < 2) × (c ≤ next_code side (set E i code) n + 2))
new_code side E i code c (Outside v) l o h = inl refl
new_code side E i code c (Inside q) l o h = elim (cases_eq q i) [
  | inl e ↦
      let s = get_or-set_same E i code 0 l in
      let t = ap (λ (x : ℕ). get_or (set E i code) x 0) e in
      let u = ap (λ (x : ℕ). get_or E x 0) e in
      inr (omega (arith, u, o), omega (arith, s, t, h))
  | inr n ↦ inl (get_or-set_other E i q code 0 n)
]

-- One open number settles with plies k.
pub settle_keeps : {B : Shape} {side : Colour} {k : ℕ} {bar : ℕ → ℕ} {done : ℕ → ℕ → Bool}
    {E C L : List ℕ} (i : ℕ) (c : Colour) (code : ℕ) → State B side k bar done E C L → i < B.size →
    i < length E → B.arena.node i ≡ Going c → get_or E i 0 ≡ 1 → 2 + 2 * k ≤ code →
    code < 4 + 2 * k → IsSettled (same_colour c side) (arm_code side E) (B.arena.arms i) code →
    State B side k bar done (set E i code) C L
settle_keeps {B} {side} {k} {bar} {done} {E} i c code s in_size in_list node one least most h =
    let F = set E i code in
    let at : get_or F i 0 ≡ code = get_or-set_same E i code 0 in_list in
    let else_ : (j : ℕ) → j ≢ i → get_or F j 0 ≡ get_or E j 0 = λ j n. get_or-set_other E i j code 0
    n in
    let cases : (j : ℕ) → ((j ≡ i) × (get_or F j 0 ≡ code) × (get_or E j 0 ≡ 1))
    ⊎ ((j ≢ i) × (get_or F j 0 ≡ get_or E j 0)) = λ j. elim (cases_eq j i) [
      | inl e ↦ inl (e, ap (λ (x : ℕ). get_or F x 0) e ∙ at, ap (λ (x : ℕ). get_or E x 0) e ∙ one)
      | inr n ↦ inr (n, else_ j n)
    ] in
    let stays : (j d : ℕ) (w : Bool) → d < 4 + 2 * k
    → IsSettled w (arm_code side E) (B.arena.arms j) d
    → IsSettled w (arm_code side F) (B.arena.arms j) d = λ j d w m t.
    settled_stays w (arm_code side E) (arm_code side F) (B.arena.arms j) d
    (λ a _. new_code side E i code d a.next in_list one (omega arith)) t in
    record {
      ends = λ j l n. elim (cases j) [
        | inl w ↦ absurd (n c (ap B.arena.node w.0 ∙ node))
        | inr w ↦ w.1 ∙ s.ends j l n
      ];
      settled = λ j d l n x. elim (cases j) [
        | inl w ↦
            let P : ℕ → Type 0 = λ y. IsSettled (same_colour d side) (arm_code side F)
            (B.arena.arms j) y in
            let D : Colour → Type 0 = λ y. IsSettled (same_colour y side) (arm_code side F)
            (B.arena.arms j) code in
            subst P (sym w.1) (subst D (same_going (sym (ap B.arena.node w.0 ∙ node) ∙ n))
            (subst (λ (y : ℕ). IsSettled (same_colour c side) (arm_code side F) (B.arena.arms y)
            code) (sym w.0) (stays i code (same_colour c side) most h)))
        | inr w ↦
            let P : ℕ → Type 0 = λ y. IsSettled (same_colour d side) (arm_code side F)
            (B.arena.arms j) y in
            subst P (sym w.1)
            (stays j (get_or E j 0) (same_colour d side) (s.most j)
            (s.settled j d l n (λ e. x (w.1 ∙ e))))
      ];
      going = λ j d l n x. elim (cases j) [
        | inl w ↦ let y = w.1 in absurd (omega (arith, y, x, least))
        | inr w ↦
            open_stays (done j) F
            (λ a _ q _. (
              refl,
              λ t. elim (cases q) [
                | inl v ↦ let y = s.low j q t in let z = v.2 in absurd (omega (arith, y.0, z))
                | inr v ↦ v.1
              ],
            ))
            (s.going j d l n (sym w.1 ∙ x))
      ];
      low = λ j q t. let y = s.low j q t in elim (cases q) [
        | inl w ↦ let z = w.2 in absurd (omega (arith, y.0, z))
        | inr w ↦ let z = w.1 in (omega (arith, z, y.0), omega (arith, z, y.1))
      ];
      high = λ j q t u. elim (cases q) [
        | inl w ↦ let z = w.1 in omega (arith, z, least)
        | inr w ↦ let z = w.1 in let y = s.high j q t (omega (arith, z, u)) in omega (arith, z, y)
      ];
      most = λ q. elim (cases q) [
        | inl w ↦ let z = w.1 in omega (arith, z, most)
        | inr w ↦ let z = w.1 in let y = s.most q in omega (arith, z, y)
      ];
    }
  where
    same_going : {c d : Colour} → Going c ≡ Going d → c ≡ d
    same_going e = cc

-- where done changes only at pairs that no arm is
pub done_same : {B : Shape} {side : Colour} {k : ℕ} {bar : ℕ → ℕ} {done more : ℕ → ℕ → Bool}
    {E C L : List ℕ} → State B side k bar done E C L →
    ((i : ℕ) (a : Arm) (q : ℕ) → i < B.size → In a (B.arena.arms i) → a.next ≡ Inside q
    → more i q ≡ done i q) →
    ((i q : ℕ) → more i q ≡ true → (2 ≤ get_or E q 0) × (get_or E q 0 < 2 + 2 * k)) →
    ((i q : ℕ) → more i q ≡ false → 2 ≤ get_or E q 0 → 2 * k ≤ get_or E q 0) →
    State B side k bar more E C L
done_same {more = more} {E = E} s h low high = record {
  ends = s.ends;
  settled = s.settled;
  going =
      λ i c l n x.
      open_stays (more i) E (λ a j q y. (h i a q l j y, λ _. refl)) (s.going i c l n x);
  low = low;
  high = high;
  most = s.most;
}

-- the number i has met q
pub meet_keeps : {B : Shape} {side : Colour} {k : ℕ} {bar : ℕ → ℕ} {done more : ℕ → ℕ → Bool}
    {E C D L : List ℕ} (i q : ℕ) → State B side k bar done E C L →
    ((j p : ℕ) → j ≢ i → more j p ≡ done j p) → ((p : ℕ) → p ≢ q → more i p ≡ done i p) →
    more i q ≡ true → 2 ≤ get_or E q 0 → get_or E q 0 < 2 + 2 * k →
    ((j : ℕ) → j ≢ i → get_or D j 0 ≡ get_or C j 0) →
    ((c : Colour) → i < B.size → B.arena.node i ≡ Going c → get_or E i 0 ≡ 1
    → IsOpen (same_colour c side) side (B.arena.arms i) (more i) (bar i) E (get_or D i 0)
    (get_or L i 0)) →
    State B side k bar more E D L
meet_keeps {B} {side} {k} {bar} {done} {more} {E} {C} {D} {L} i q s other one now two few
    counts new =
    let cases : (j p : ℕ) → (more j p ≡ done j p) ⊎ ((j ≡ i) × (p ≡ q)) =
    λ j p. elim (cases_eq j i) [
      | inl e ↦ elim (cases_eq p q) [
        | inl f ↦ inr (e, f)
        | inr n ↦ inl (ap (λ (x : ℕ). more x p) e
            ∙ (one p n ∙ ap (λ (x : ℕ). done x p) (sym e)))
      ]
      | inr n ↦ inl (other j p n)
    ] in
    record {
      ends = s.ends;
      settled = s.settled;
      going = λ j c l n x. elim (cases_eq j i) [
        | inl e ↦
            let P : ℕ → Type 0 = λ y. IsOpen (same_colour c side) side (B.arena.arms y) (more y)
            (bar y) E (get_or D y 0) (get_or L y 0) in
            subst P (sym e) (new c (subst (λ (y : ℕ). y < B.size) e l) (sym (ap B.arena.node e) ∙ n)
            (ap (λ (y : ℕ). get_or E y 0) (sym e) ∙ x))
        | inr n' ↦
            let P : ℕ → Type 0 = λ y. IsOpen (same_colour c side) side (B.arena.arms j) (more j)
            (bar j) E y (get_or L j 0) in
            subst P (sym (counts j n'))
            (open_stays (more j) E (λ a _ p _. (other j p n', λ _. refl))
            (s.going j c l n x))
      ];
      low = λ j p t. elim (cases j p) [
        | inl e ↦ s.low j p (sym e ∙ t)
        | inr w ↦
            let z = ap (λ (y : ℕ). get_or E y 0) w.1 in
            (omega (arith, z, two), omega (arith, z, few))
      ];
      high = λ j p t u. elim (cases j p) [
        | inl e ↦ s.high j p (sym e ∙ t) u
        | inr w ↦
            absurd (true≢false (sym now ∙ (ap₂ (λ (y z : ℕ). more y z) (sym w.0) (sym w.1) ∙ t)))
      ];
      most = s.most;
    }

-- the due pass of a number is later
pub bar_keeps : {B : Shape} {side : Colour} {k : ℕ} {bar higher : ℕ → ℕ} {done : ℕ → ℕ → Bool}
    {E C L : List ℕ} → State B side k bar done E C L →
    ((i : ℕ) (c : Colour) → i < B.size → B.arena.node i ≡ Going c → get_or E i 0 ≡ 1
    → (is_of (same_colour c side) (get_or L i 0) ≡ true) ⊎ (get_or C i 0 ≡ 0) → bar i ≤ get_or L i 0
    → higher i ≤ get_or L i 0) → State B side k higher done E C L
bar_keeps s h = record {
  ends = s.ends;
  settled = s.settled;
  going = λ i c l n x. let o = s.going i c l n x in record {
    counter = o.counter;
    undecided = o.undecided;
    exits = o.exits;
    due = λ e. h i c l n x (inl e) (o.due e);
    last = λ z. h i c l n x (inr z) (o.last z);
  };
  low = s.low;
  high = s.high;
  most = s.most;
}

-- the next pass
pub pass_keeps : {B : Shape} {side : Colour} {k : ℕ} {bar : ℕ → ℕ} {done : ℕ → ℕ → Bool}
    {E C L : List ℕ} → State B side k bar done E C L →
    ((i q : ℕ) → done i q ≡ false → 2 ≤ get_or E q 0 → 2 + 2 * k ≤ get_or E q 0) →
    State B side (k + 1) bar done E C L
pass_keeps s h = record {
  ends = s.ends;
  settled = s.settled;
  going = s.going;
  low = λ i q t. let y = s.low i q t in (y.0, omega (arith, y.1));
  high = λ i q t u. let y = h i q t u in omega (arith, y);
  most = λ q. let y = s.most q in omega (arith, y);
}
