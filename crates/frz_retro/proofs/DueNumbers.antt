-- Each way on from a number that may be due.
use Rattle.std.proofs.Common.{◌≡◌, ◌≢◌, ℕ, Bool, true, false, not, ◌+◌, ◌*◌, ◌<◌, ◌≤◌, List, sym, ◌∙◌, ap, arith, inl, inr, get_or, set}
use Rattle.std.proofs.lemmas.Bool.{true≢false}
use Rattle.frz_board.specs.Men.{same_colour}
use Rattle.frz_retro.specs.Kinds.{is_of}
use Rattle.frz_retro.specs.Shape.{Shape}
use Rattle.frz_retro.specs.Work.{Work, bar_at}
use Rattle.frz_board.specs.declared.man.Colour.{Colour}
use Rattle.frz_arena.specs.declared.node.Node.TheVariants.{Going}
use Rattle.frz_retro.proofs.CodeFacts.{of_other}
use Rattle.frz_retro.proofs.PassToPass.{node_cases}
use Rattle.frz_retro.proofs.DueSteps.{due_skips, due_settles}

-- an open number whose exits are due in pass k
pub record IsDue (B : Shape) (side : Colour) (k : ℕ) (E L : List ℕ) (i : ℕ) (own : Bool)
    : Type 0 where
  pub own_is : (c : Colour) → B.arena.node i ≡ Going c → own ≡ same_colour c side
  pub inside : i < B.size
  pub open_ : get_or E i 0 ≡ 1
  pub least : 2 * k + 2 ≤ get_or L i 0
  pub most : get_or L i 0 < 2 * k + 4

module _ {B : Shape} {side : Colour} {k mid : ℕ} {done : ℕ → ℕ → Bool} {E C L Q : List ℕ} {tail : ℕ}
    (i : ℕ) (w : Work B side k mid (bar_at k i) done E C L Q tail) where
  pub due_settled : get_or E i 0 ≢ 1 → Work B side k mid (bar_at k (i + 1)) done E C L Q tail
  due_settled isnt = due_skips i w (λ c n one. absurd (isnt one))

  pub due_early : get_or L i 0 < 2 * k + 2 → Work B side k mid (bar_at k (i + 1)) done E C L Q tail
  due_early l =
      due_skips i w (λ c n one kind b. absurd (omega (arith, l, b)))

  pub due_later : 2 * k + 4 ≤ get_or L i 0 → Work B side k mid (bar_at k (i + 1)) done E C L Q tail
  due_later l = due_skips i w (λ c n one kind b. omega (arith, l))

  pub due_going : i < B.size → 2 * k + 2 ≤ get_or L i 0 → (c : Colour) × (B.arena.node i ≡ Going c)
  due_going l b =
      elim (node_cases (B.arena.node i))
      [ inl g ↦ g | inr h ↦ let z = w.ended i l h in absurd (omega (arith, z, b)) ]

  module _ {own : Bool} (due : IsDue B side k E L i own) where
    pub due_kind : is_of own (get_or L i 0) ≡ true →
        Work B side k mid (bar_at k (i + 1)) done (set E i (get_or L i 0)) C L (set Q tail i)
        (tail + 1)
    due_kind kind = let g = due_going due.inside due.least in
        due_settles i g.0 w due.inside g.1 due.open_
        (let b = due.least in omega (arith, b)) (let h = due.most in omega (arith, h))
        (inl (ap (λ x. is_of x (get_or L i 0)) (sym (due.own_is g.0 g.1)) ∙ kind))

    pub due_waits : is_of own (get_or L i 0) ≡ false → 0 < get_or C i 0 →
        Work B side k mid (bar_at k (i + 1)) done E C L Q tail
    due_waits kind pos = due_skips i w (λ c n _ which _. elim which [
      | inl e ↦
          absurd (true≢false
          (sym e ∙ (ap (λ x. is_of x (get_or L i 0)) (sym (due.own_is c n)) ∙ kind)))
      | inr z ↦ absurd (omega (arith, z, pos))
    ])

    pub due_last : is_of own (get_or L i 0) ≡ false → get_or C i 0 ≤ 0 →
        Work B side k mid (bar_at k (i + 1)) done (set E i (get_or L i 0)) C L (set Q tail i)
        (tail + 1)
    due_last kind zero = let g = due_going due.inside due.least in
        let other = of_other own (get_or L i 0) (let b = due.least in omega (arith, b)) kind in
        due_settles i g.0 w due.inside g.1 due.open_
        (let b = due.least in omega (arith, b)) (let h = due.most in omega (arith, h))
        (inr (
          ap (λ x. is_of (not x) (get_or L i 0)) (sym (due.own_is g.0 g.1)) ∙ other,
          omega (arith, zero),
        ))
