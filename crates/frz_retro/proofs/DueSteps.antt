-- A number that is due in a pass, and one that is not.
use Rattle.std.proofs.Common.{◌≡◌, ◌≢◌, ℕ, ◌+◌, ◌*◌, ◌<◌, ◌≤◌, ◌⊎◌, Bool, true, not, List, get_or, set, refl, sym, ◌∙◌, ap, subst, inl, inr, arith}
use Rattle.std.proofs.lemmas.Bool.{cases_eq, cases_lt}
use Rattle.frz_board.specs.Men.{same_colour}
use Rattle.frz_retro.specs.Kinds.{is_of}
use Rattle.frz_graph.specs.EntryCodes.{arm_code}
use Rattle.frz_retro.specs.Shape.{Shape}
use Rattle.frz_retro.specs.State.{IsSettled}
use Rattle.frz_retro.specs.Work.{bar_at, Work}
use Rattle.frz_board.specs.declared.man.Colour.{Colour}
use Rattle.frz_arena.specs.declared.node.Node.TheVariants.{Going}
use Rattle.frz_retro.proofs.StateFacts.{bar_keeps}
use Rattle.frz_retro.proofs.WorkFacts.{bar_of, bar_past, bar_within, read_back, work_by, work_settles}
use Rattle.frz_retro.proofs.Choices.{due_decided, due_exhausted}

bar_more : (k i j : ℕ) → j ≢ i → bar_at k (i + 1) j ≡ bar_at k i j
bar_more k i j n = elim (cases_lt j i) [
  | inl l ↦ bar_of k (i + 1) j (omega (arith, l)) ∙ sym (bar_of k i j l)
  | inr l ↦ bar_past k (i + 1) j (omega (arith, l, n)) ∙ sym (bar_past k i j l)
]

-- a number that is not due in this pass
pub due_skips : {B : Shape} {side : Colour} {k mid : ℕ} {done : ℕ → ℕ → Bool} {E C L Q : List ℕ}
    {tail : ℕ} (i : ℕ) → Work B side k mid (bar_at k i) done E C L Q tail →
    ((c : Colour) → B.arena.node i ≡ Going c → get_or E i 0 ≡ 1
    → (is_of (same_colour c side) (get_or L i 0) ≡ true) ⊎ (get_or C i 0 ≡ 0)
    → 2 + 2 * k ≤ get_or L i 0 → 4 + 2 * k ≤ get_or L i 0) →
    Work B side k mid (bar_at k (i + 1)) done E C L Q tail
due_skips {B} {side} {k} {mid} {done} {E} {C} {L} i w h =
    work_by w
    (bar_keeps w.state
    (λ j c l n one kind b. elim (cases_eq j i) [
      | inr d ↦ let e = bar_more k i j d in omega (arith, e, b)
      | inl e ↦ let high = (bar_within k i j).0 in let low = (bar_within k (i + 1) j).1 in
          let y : 4 + 2 * k ≤ get_or L j 0 = subst (λ (x : ℕ). 4 + 2 * k ≤ get_or L x 0) (sym e)
          (h c (sym (ap B.arena.node e) ∙ n) (ap (λ (x : ℕ). get_or E x 0) (sym e) ∙ one)
          (elim kind [
            | inl y ↦ inl
                (ap (λ (x : ℕ). is_of (same_colour c side) (get_or L x 0)) (sym e) ∙ y)
            | inr y ↦ inr (ap (λ (x : ℕ). get_or C x 0) (sym e) ∙ y)
          ])
          (subst (λ (x : ℕ). 2 + 2 * k ≤ get_or L x 0) e (omega (arith, high, b)))) in
          omega (arith, low, y)
    ])) refl

-- a number whose due pass is this one
pub due_settles : {B : Shape} {side : Colour} {k mid : ℕ} {done : ℕ → ℕ → Bool} {E C L Q : List ℕ}
    {tail : ℕ} (i : ℕ) (c : Colour) → Work B side k mid (bar_at k i) done E C L Q tail →
    i < B.size → B.arena.node i ≡ Going c → get_or E i 0 ≡ 1 → 2 + 2 * k ≤ get_or L i 0 →
    get_or L i 0 < 4 + 2 * k →
    (is_of (same_colour c side) (get_or L i 0) ≡ true)
    ⊎ ((is_of (not (same_colour c side)) (get_or L i 0) ≡ true) × (get_or C i 0 ≡ 0)) →
    Work B side k mid (bar_at k (i + 1)) done (set E i (get_or L i 0)) C L (set Q tail i) (tail + 1)
due_settles {B} {side} {k} {mid} {done} {E} {C} {L} i c w l n one least most kind =
    let code = get_or L i 0 in
    let o = w.state.going i c l n one in
    let settled : IsSettled (same_colour c side) (arm_code side E) (B.arena.arms i) code =
    elim kind [
      | inl y ↦ inl (due_decided k o (w.state.high i) (bar_within k i i).0 y most)
      | inr y ↦ inr (due_exhausted k o (λ q t. (w.state.low i q t).1) y.1 y.0 least)
    ] in
    due_skips i (work_settles i c code w l n one least most settled)
    (λ d m e. let y = read_back E i code (omega (arith, one)) in
    absurd (omega (arith, y, e, least)))

-- a pass after the last due one
pub due_over : {B : Shape} {side : Colour} {k mid : ℕ} {done : ℕ → ℕ → Bool} {E C L Q : List ℕ}
    {tail : ℕ} (s : ℕ) → Work B side k mid (bar_at k 0) done E C L Q tail →
    ((i : ℕ) → i < B.size → get_or L i 0 < 2 + 2 * k) →
    Work B side k mid (bar_at k s) done E C L Q tail
due_over {k = k} s w h =
    work_by w
    (bar_keeps w.state
    (λ i c l _ _ _ b. let y = (bar_within k 0 i).0 in let z = h i l in
    absurd (omega (arith, b, y, z)))) refl
