-- From pass to pass, from the first to the last.
use Rattle.std.proofs.Common.{◌≡◌, ◌≢◌, ℕ, ◌+◌, ◌*◌, ◌<◌, ◌≤◌, ◌⊎◌, Bool, List, get_or, slice_index, refl, sym, ◌∙◌, ap, inl, inr, arith, ◌^◌}
use Rattle.std.proofs.lemmas.Bool.{cases_eq, cases_lt, true≢false}
use Rattle.frz_arena.specs.LocalCodes.{local_code, node_code, free_codes, all_codes}
use Rattle.frz_retro.specs.Shape.{Shape, end_code}
use Rattle.frz_retro.specs.State.{GivesLocalCodes}
use Rattle.frz_retro.specs.Work.{bar_at, done_by, Work, Begun}
use Rattle.frz_board.specs.declared.man.Colour.{Colour}
use Rattle.frz_arena.specs.declared.node.Node.{Node}
use Rattle.frz_arena.specs.declared.node.Node.TheVariants.{Broken, Mate, Stalemate, Going}
use Rattle.frz_retro.proofs.StateFacts.{bar_keeps, pass_keeps}
use Rattle.frz_retro.proofs.WorkFacts.{bar_of, bar_past}
use Rattle.frz_retro.proofs.Starts.{begun_state}
use Rattle.frz_retro.proofs.OpenNumbers.{open_holds}
use Rattle.frz_retro.proofs.QueueFront.{done_from}

-- before the first pass
pub first_work : {B : Shape} {side : Colour} {E C L Q : List ℕ} {tail : ℕ} →
    Begun B side B.size E C L Q tail →
    Work B side 0 0 (bar_at 0 B.size) (λ _ q. done_by Q 0 q) E C L Q tail
first_work {B} {side} {E} {C} {L} b = record {
  state =
      bar_keeps (begun_state B side E C L b.begun b.few)
      (λ i c l n one kind y. let e = bar_of 0 B.size i l in omega (arith, e, y));
  queue = b.queue;
  sized = b.sized;
  passes = omega arith;
  within = omega arith;
  ended = b.ended;
}

-- The queue is no longer than the size.
pub few_passes : {B : Shape} {side : Colour} {k mid : ℕ} {bar : ℕ → ℕ} {done : ℕ → ℕ → Bool}
    {E C L Q : List ℕ} {tail : ℕ} → Work B side k mid bar done E C L Q tail →
    (mid ≤ tail) × (tail ≤ B.size)
few_passes w = let r = w.queue.room in let s = w.sized.queue in (w.within, omega (arith, r, s))

-- the next pass begins
pub pass_begins : {B : Shape} {side : Colour} {k : ℕ} {E C L Q : List ℕ} {tail : ℕ} (head : ℕ) →
    Work B side k head (bar_at k B.size) (λ _ q. done_by Q head q) E C L Q tail → k + 1 < 2 ^ 29 →
    Work B side (k + 1) tail (bar_at (k + 1) 0) (λ _ q. done_by Q head q) E C L Q tail
pass_begins {B} {side} {k} {E} {C} {L} {Q} head w few = record {
  state =
      bar_keeps (pass_keeps w.state (λ i q f h.
      let t = w.queue.found q h in
      elim (cases_lt t.0 head) [
        | inl l ↦ absurd (true≢false (sym (done_from Q head t.0 q l t.2) ∙ f))
        | inr l ↦
            let y = w.queue.young t.0 l t.1 in
            let z = ap (λ (x : ℕ). get_or E x 0) t.2 in
            omega (arith, y, z)
      ]))
      (λ i c l _ _ _ b. let e = bar_of k B.size i l in let f = bar_past (k + 1) 0 i (omega arith) in
      omega (arith, e, b, f));
  queue = record {
    room = w.queue.room;
    each = w.queue.each;
    old = λ t l. let y = w.state.most (get_or Q t 0) in omega (arith, y);
    young = λ t a b. absurd (omega (arith, a, b));
    found = w.queue.found;
    once = w.queue.once;
  };
  sized = w.sized;
  passes = few;
  within = omega arith;
  ended = w.ended;
}

pub node_cases : (n : Node) → ((c : Colour) × (n ≡ Going c)) ⊎ ((c : Colour) → n ≢ Going c)
node_cases Broken = inr (λ c e. cc)
node_cases (Mate d) = inr (λ c e. cc)
node_cases (Stalemate d) = inr (λ c e. cc)
node_cases (Going d) = inl (d, refl)

end_local : (side : Colour) (n : Node) (free all : List ℕ) → ((c : Colour) → n ≢ Going c) →
    end_code side n ≡ node_code side n free all
end_local side Broken free all h = refl
end_local side (Mate c) free all h = refl
end_local side (Stalemate c) free all h = refl
end_local side (Going c) free all h = absurd (h c refl)

-- Where all is done and no due pass is left, each entry is its local code.
pub all_local : {B : Shape} {side : Colour} {k mid : ℕ} {E C L Q : List ℕ} {tail : ℕ} (head : ℕ) →
    GivesLocalCodes B.arena side E →
    Work B side k mid (bar_at k B.size) (λ _ q. done_by Q head q) E C L Q tail → tail ≤ head →
    ((i : ℕ) → i < B.size → get_or L i 0 < 4 + 2 * k) → (i : ℕ) → i < B.size →
    get_or E i 0 ≡ local_code B.arena side (λ k. slice_index E k) i
all_local {B} {side} {k} {mid} {E} {C} {L} {Q} head gives w all none i l =
    let s = w.state in
    elim (node_cases (B.arena.node i)) [
      | inr h ↦
          s.ends i l h
          ∙ end_local side (B.arena.node i) (free_codes B.arena side (λ k. slice_index E k) i)
          (all_codes B.arena side (λ k. slice_index E k) i) h
      | inl g ↦ elim (cases_eq (get_or E i 0) 1) [
        | inr h ↦ sym (gives.settled i g.0 (get_or E i 0) g.1 (s.settled i g.0 l g.1 h))
        | inl h ↦
            h ∙ sym (gives.held i g.0 g.1
            (open_holds (s.going i g.0 l g.1 h)
            (λ q y. let t = w.queue.found q y in let x = t.1 in
            done_from Q head t.0 q (omega (arith, x, all)) t.2)
            (let b = bar_of k B.size i l in let y = none i l in omega (arith, b, y))))
      ]
    ]
