use Rattle.std.proofs.Common.{◌≡◌, ℕ, ◌+◌, ◌<◌, ◌≤◌, Bool, ◌&&◌, ap, arith, sym, ◌∙◌, inl, inr}
use Rattle.std.specs.Prelude.{◌==◌, if◌then◌else◌}
use Rattle.std.proofs.lemmas.Bool.{cases_lt}
use Rattle.std.proofs.lemmas.Bool.Decides.{eqb_tells}
use Rattle.frz_bits.specs.Words.{HasNoneFrom, IsNext}
use Rattle.frz_squares.specs.SquareSets.{has_square}
use Rattle.frz_index.specs.Room.{has_room}
use Rattle.frz_unmove.proofs.origins.with_room.Goals as goal

-- the squares below the next one, where the word is the same
-- below n, and no square of it is from n on
step_below : (old word new n s : ℕ) (room : ℕ → Bool) (r : Bool) → IsNext word n s → r ≡ room s →
    ((a : ℕ) → a < n → a < 64 → has_square old a ≡ (has_square word a && room a)) →
    ((a : ℕ) → n ≤ a → a < 64 → has_square old a ≡ has_square word a) →
    ((a : ℕ) → a < 64 → has_square new a ≡ (if a == s then r else has_square old a)) →
    (a : ℕ) → a < s + 1 → a < 64 → has_square new a ≡ (has_square word a && room a)
step_below old word new n s room r next is below above put a l low =
    elim (eqb_tells a s) [
      | inl i ↦
          put a low ∙ ap (λ b. if b then r else has_square old a) i.0 ∙ is ∙ ap room (sym i.1)
          ∙ ap (λ b. b && room a) (sym (ap (has_square word) i.1 ∙ next.there))
      | inr i ↦
          let kept : has_square new a ≡ has_square old a = put a low
          ∙ ap (λ b. if b then r else has_square old a) i.0 in
          elim (cases_lt a n) [
            | inl less ↦ kept ∙ below a less low
            | inr more ↦
                let none = next.first a more (let ne = i.1 in omega (arith, l, ne)) in
                kept ∙ above a more low ∙ none ∙ ap (λ b. b && room a) (sym none)
          ]
    ]

step_above : (old word new n s : ℕ) (r : Bool) → IsNext word n s →
    ((a : ℕ) → n ≤ a → a < 64 → has_square old a ≡ has_square word a) →
    ((a : ℕ) → a < 64 → has_square new a ≡ (if a == s then r else has_square old a)) →
    (a : ℕ) → s + 1 ≤ a → a < 64 → has_square new a ≡ has_square word a
step_above old word new n s r next above put a l low =
    elim (eqb_tells a s) [
      | inl i ↦ absurd (let same = i.1 in omega (arith, l, same))
      | inr i ↦ let from = next.from in put a low ∙ ap (λ b. if b then r else has_square old a) i.0
          ∙ above a (omega (arith, l, from)) low
    ]

pub loop-s-preserved : goal.loop-s-preserved
loop-s-preserved c =
    let next : IsNext c.args.word c.loop-s.n c.in-Some.s = c.in-Some.ensures in
    let e = c.number-n.ensures.number in
    let on = next.on_board in
    let h = c.loop-s.invariant in
    let below = step_below c.loop-s.kept c.args.word c.replaced-kept.result c.loop-s.n c.in-Some.s
    (has_room c.args.set.now c.args.p.now c.args.man) c.has_room.result next c.has_room.ensures
    h.below h.above c.replaced-kept.ensures in
    let above = step_above c.loop-s.kept c.args.word c.replaced-kept.result c.loop-s.n c.in-Some.s
    c.has_room.result next h.above c.replaced-kept.ensures in
    record {
      low = omega (arith, on, e);
      below = λ a l low. below a (omega (arith, l, e)) low;
      above = λ a l low. above a (omega (arith, l, e)) low;
    }

pub returns : goal.returns
returns c a low =
    let none : HasNoneFrom c.args.word c.loop-s.n = c.in_default.ensures in
    elim (cases_lt a c.loop-s.n) [
      | inl less ↦ c.loop-s.invariant.below a less low
      | inr more ↦
          let out = none.none a more low in
          c.loop-s.invariant.above a more low ∙ out
          ∙ ap (λ b. b && has_room c.args.set.now c.args.p.now c.args.man a) (sym out)
    ]
