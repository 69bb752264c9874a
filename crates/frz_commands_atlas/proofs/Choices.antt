-- That no group has more choices than the set has numbers.
use Rattle.std.proofs.Common.{◌≡◌, ℕ, zero, suc, ◌+◌, ◌*◌, ◌<◌, ◌≤◌, List, [], ◌∷◌, length, get_or, subst, sym, arith}
use Rattle.std.proofs.lemmas.Nat.{mul-le}
use Rattle.std.specs.Prelude.{map}
use Rattle.frz_combinations.specs.Binomials.{capped}
use Rattle.frz_combinations.specs.MixedRadix.{product}
use Rattle.frz_combinations.proofs.Lemmas.{choose_some}
use Rattle.frz_sets.specs.Views.{GroupLine}
use Rattle.frz_sets.specs.Sets.{radix_of, size_of, targets}
use Rattle.frz_sets.specs.Sound.{AreCounted, IsCounted}

-- a factor is within a product of two that are not 0
within_product : (a b : ℕ) → 0 < b → a ≤ a * b
within_product a b some = omega (arith, mul-le a 1 a b (omega arith) some)

product_within : (a b : ℕ) → 0 < a → b ≤ a * b
product_within a b some = omega (arith, mul-le 1 b a b some (omega arith))

product_more : (a b : ℕ) → 0 < a → 0 < b → 0 < a * b
product_more a b some more = omega (arith, mul-le 1 1 a b some more)

-- each group has a choice
some_choice : (g : GroupLine) → IsCounted g → 0 < radix_of g
some_choice g s =
    omega (arith, choose_some (length g.states) g.least (omega (arith, s.order, s.room)))

some_product : (groups : List GroupLine) → AreCounted groups → 0 < product (map radix_of groups)
some_product [] h = omega arith
some_product (g ∷ groups) h =
    product_more (radix_of g) (product (map radix_of groups)) (some_choice g h.0)
    (some_product groups h.1)

pub counted_at : (groups : List GroupLine) (i : ℕ) (g : GroupLine) → AreCounted groups
    → i < length groups → g ≡ get_or groups i g → IsCounted g
counted_at [] i g h here is = absurd (omega arith)
counted_at (first ∷ groups) zero g h here is = subst (λ (x : GroupLine). IsCounted x) (sym is) h.0
counted_at (first ∷ groups) (suc i) g h here is = counted_at groups i g h.1 (omega arith) is

pub few_choices : (groups : List GroupLine) (most i : ℕ) (g : GroupLine) → AreCounted groups
    → product (map radix_of groups) ≤ most → i < length groups → g ≡ get_or groups i g
    → radix_of g ≤ most
few_choices [] most i g h few here is = absurd (omega arith)
few_choices (first ∷ groups) most zero g h few here is =
    subst (λ (x : GroupLine). radix_of x ≤ most) (sym is)
    (omega (
      arith,
      within_product (radix_of first) (product (map radix_of groups))
          (some_product groups h.1),
    ))
few_choices (first ∷ groups) most (suc i) g h few here is =
    few_choices groups most i g h.1
    (omega (
      arith,
      product_within (radix_of first) (product (map radix_of groups))
          (some_choice first h.0),
    )) (omega arith) is

-- nor do all groups together have more choices than the set has numbers
pub few_products : (groups : List GroupLine) (most : ℕ) → size_of groups ≤ most
    → product (map radix_of groups) ≤ most
few_products groups most few =
    omega (
      arith,
      product_within (2 + length (targets groups)) (product (map radix_of groups))
          (omega arith),
    )

-- what fits into 64 bits is kept whole
pub kept_whole : (count most kept : ℕ) → count ≤ most → most ≤ 134217728 → kept ≡ capped count
    → kept ≡ count
kept_whole count most kept few fits is = omega (arith, is)
