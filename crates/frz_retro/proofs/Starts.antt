-- What a number begins with gives the state before the first pass.
use Rattle.std.proofs.Common.{◌≡◌, ◌≢◌, ℕ, ◌+◌, ◌<◌, ◌≤◌, ◌⊎◌, Bool, true, false, not, cond, nat_lt, List, [], get_or, refl, sym, ◌∙◌, ap, subst, inl, inr, arith}
use Rattle.std.proofs.lemmas.Bool.{cases_lt, lt-ltb, le-ltb, cond-true, cond-false, false≢true, true≢false}
use Rattle.frz_board.specs.Men.{same_colour}
use Rattle.frz_graph.specs.EntryCodes.{value_code}
use Rattle.frz_retro.specs.Kinds.{is_of}
use Rattle.frz_retro.specs.Shape.{Shape, end_code, how_many}
use Rattle.frz_retro.specs.State.{IsLater, is_off, waits, IsOpen, State}
use Rattle.frz_retro.specs.Beginning.{start_of, later_of, Opens, Fails, IsBegun}
use Rattle.frz_board.specs.declared.man.Colour.{Colour}
use Rattle.frz_arena.specs.declared.node.Node.{Node}
use Rattle.frz_arena.specs.declared.node.Node.TheVariants.{Broken, Mate, Stalemate, Going}
use Rattle.frz_retro.specs.Graphs.{Arm}
use Rattle.frz_retro.specs.declared.start.Start.{Start}
use Rattle.frz_retro.proofs.CodeFacts.{of_low, of_more}
use Rattle.frz_retro.proofs.Counting.{count_same, count_zero, waits_same}
use Rattle.frz_retro.proofs.Choices.{later_kind, next_cases, off_from}
use Rattle.frz_retro.proofs.Says.{Says, says}

later_says : (own : Bool) (side : Colour) (arms : List Arm) (s : Start) → Says own side arms s →
    IsLater own side arms (later_of s)
later_says own side arms s h = elim (cases_lt 0 s.least) [
  | inl l ↦
      subst (IsLater own side arms)
      (sym (cond-true (nat_lt 0 s.least) (s.least + 2) (cond (nat_lt 0 s.most) (s.most + 2) 0)
      (lt-ltb 0 s.least l)))
      (elim h.least.met [
        | inl z ↦ absurd (omega (arith, z, l))
        | inr m ↦
            let kind : is_of own (s.least + 2) ≡ true = ap (λ (x : ℕ). is_of own (x + 2)) m.6
            ∙ of_more own (value_code side m.1) m.5 in
            let low = of_low own (value_code side m.1) m.5 in let is = m.6 in
            record {
              deciding = λ a i c v x k.
                  let b = h.least.within a i c v x k in
                  (kind, omega (arith, b.1));
              settling = λ a i c v x k. inl kind;
              met = inr (m.0, m.1, m.2, m.3, m.4, low, omega (arith, is));
            }
      ])
  | inr l ↦
      subst (IsLater own side arms)
      (sym (cond-false (nat_lt 0 s.least) (s.least + 2) (cond (nat_lt 0 s.most) (s.most + 2) 0)
      (le-ltb 0 s.least l)))
      (elim (cases_lt 0 s.most) [
        | inl p ↦
            subst (IsLater own side arms)
            (sym (cond-true (nat_lt 0 s.most) (s.most + 2) 0 (lt-ltb 0 s.most p)))
            (elim h.most.met [
              | inl z ↦ absurd (omega (arith, z, p))
              | inr m ↦
                  let low = of_low (not own) (value_code side m.1) m.5 in let is = m.6 in
                  record {
                    deciding = λ a i c v x k.
                        let b = h.least.within a i c v x k in
                        absurd (omega (arith, b.0, l));
                    settling = λ a i c v x k.
                        let b = h.most.within a i c v x k in
                        inr (omega (arith, b));
                    met = inr (m.0, m.1, m.2, m.3, m.4, low, omega (arith, is));
                  }
            ])
        | inr p ↦
            subst (IsLater own side arms)
            (sym (cond-false (nat_lt 0 s.most) (s.most + 2) 0 (le-ltb 0 s.most p))) (record {
              deciding = λ a i c v x k.
                  let b = h.least.within a i c v x k in
                  absurd (omega (arith, b.0, l));
              settling = λ a i c v x k.
                  let b = h.most.within a i c v x k in
                  let low = of_low (not own) (value_code side v) k in
                  absurd (omega (arith, b, low, p));
              met = inl refl;
            })
      ])
]

-- a number with a counted arm begins open, another fails
pub opens_from : (own : Bool) (side : Colour) (arms : List Arm) (entry : ℕ) → entry ≡ 1 →
    (start_of own side arms).any ≡ true →
    Opens own side arms entry (start_of own side arms).count (later_of (start_of own side arms))
opens_from own side arms entry e y =
    let h = says own side arms in
    record {
      open_ = e;
      some = h.any y;
      counter = h.counter;
      exits = later_says own side arms
          (start_of own side arms) h;
    }

pub fails_from : (own : Bool) (side : Colour) (arms : List Arm) (entry : ℕ) → entry ≡ 3 →
    (start_of own side arms).any ≡ false → Fails own arms entry
fails_from own side arms entry e y =
    let h = says own side arms in record { fails = e; none = h.none y }

-- the state before the first pass
pub begun_state : (B : Shape) (side : Colour) (E C L : List ℕ) →
    ((i : ℕ) → i < B.size → IsBegun side (B.arena.node i) (B.arena.arms i) (get_or E i 0)
    (get_or C i 0) (get_or L i 0)) → ((q : ℕ) → get_or E q 0 < 4)
    → State B side 0 (λ _. 4) (λ _ _. false) E C L
begun_state B side E C L begun few = record {
  ends = λ i l n. ends_from (B.arena.node i) (get_or E i 0) i (begun i l) n;
  settled = λ i c l n x. elim (going_from i c l n) [
    | inl o ↦ absurd (x o.open_)
    | inr f ↦
        inr (record {
          most = 1;
          each = λ b j cb. absurd (true≢false (sym cb ∙ f.none b j));
          reached = inl refl;
          code = f.fails;
        })
  ];
  going = λ i c l n x. elim (going_from i c l n) [
    | inr f ↦ absurd (let y = f.fails in omega (arith, x, y))
    | inl o ↦ open_from (same_colour c side) i o
  ];
  low = λ i q t. absurd (false≢true t);
  high = λ i q t u. omega arith;
  most = λ q. few q;
}
  where
    ends_from : (n : Node) (e : ℕ) (i : ℕ) →
        IsBegun side n (B.arena.arms i) e (get_or C i 0) (get_or L i 0) →
        ((c : Colour) → n ≢ Going c) → e ≡ end_code side n
    ends_from Broken e i b n = b
    ends_from (Mate c) e i b n = b
    ends_from (Stalemate c) e i b n = b
    ends_from (Going c) e i b n = absurd (n c refl)

    going_from : (i : ℕ) (c : Colour) → i < B.size → B.arena.node i ≡ Going c →
        Opens (same_colour c side) side (B.arena.arms i) (get_or E i 0) (get_or C i 0)
        (get_or L i 0) ⊎ Fails (same_colour c side) (B.arena.arms i) (get_or E i 0)
    going_from i c l n =
        subst (λ (x : Node). IsBegun side x (B.arena.arms i) (get_or E i 0) (get_or C i 0)
        (get_or L i 0)) n (begun i l)

    open_from : (own : Bool) (i : ℕ) →
        Opens own side (B.arena.arms i) (get_or E i 0) (get_or C i 0) (get_or L i 0) →
        IsOpen own side (B.arena.arms i) (λ _. false) 4 E (get_or C i 0) (get_or L i 0)
    open_from own i o =
        let counter : get_or C i 0 ≡ how_many (waits own (λ _. false) side E) (B.arena.arms i) =
        o.counter ∙ sym (count_same (waits own (λ _. false) side [])
        (waits own (λ _. false) side E) (B.arena.arms i)
        (λ a _. waits_same own (λ _. false) (λ _. false) side [] E a
        (λ q _. (refl, λ t. absurd (false≢true t))))) in
        let due : is_of own (get_or L i 0) ≡ true → 4 ≤ get_or L i 0 = λ k.
        let m = later_kind own o.exits k in
        let low = of_low own (value_code side m.1) m.5 in let e = m.6 in
        omega (arith, low, e) in
        record {
          counter = counter;
          undecided = λ a j c q n t. absurd (false≢true t);
          exits = o.exits;
          due = due;
          last = λ z. let w = o.some in
              let off = off_from own (λ _. false) side E w.0 w.2
              (count_zero (waits own (λ _. false) side E) (B.arena.arms i) w.0 (sym counter ∙ z)
              w.1) in
              elim (next_cases w.0.next) [
                | inl q ↦ absurd (false≢true (sym (ap (is_off own (λ _. false) side E) q.1) ∙ off))
                | inr v ↦
                    let k = sym (ap (is_off own (λ _. false) side E) v.1) ∙ off in
                    elim (o.exits.settling w.0 w.1 w.2 v.0 v.1 k) [
                      | inl e ↦ due e
                      | inr l ↦
                          let low = of_low (not own) (value_code side v.0) k in
                          omega (arith, low, l)
                    ]
              ];
        }
