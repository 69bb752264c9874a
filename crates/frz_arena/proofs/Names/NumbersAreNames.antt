-- The arena of the numbers is the same arena with numbers for names.
use Rattle.std.proofs.Common.{◌≡◌, ◌≢◌, ℕ, inl, inr, [], map, Option, Some, None, refl, sym, ap, ◌∙◌, arith}
use Rattle.frz_board.specs.declared.man.Colour.{Colour}
use Rattle.frz_arena.specs.declared.node.Node.TheVariants.{Going}
use Rattle.frz_arena.specs.Arena.{Arena, IsLawful}
use Rattle.frz_arena.specs.Names.{named, IsNaming, IsNumbered, Numbering, IsNumbering, name_by, node_at, arms_at, numbers_of, name_in}
use Rattle.frz_arena.proofs.Forcing.LawfulGame.{map_empty}
use Rattle.frz_arena.proofs.Lists.Members.{cases_Option}

-- numbers past the size are broken
pub numbered_is : {M N V : Type 0} (numbers : Numbering N) (arena : Arena M N V) →
    IsNumbering numbers arena → IsNumbered (numbers_of numbers arena) numbers.size
numbered_is numbers arena law = record {
  past = λ i h. elim (cases_Option (numbers.at i)) [
    | inl e ↦ ap (node_at arena) e
    | inr r ↦ absurd (let k = law.in_size r.0 i (law.number_at r.0 i r.1) in omega arith)
  ];
}

some_mapped : {M N V : Type 0} (arena : Arena M N V) → IsLawful arena →
    (name : N → ℕ) (o : Option N) (mover : Colour) → node_at arena o ≡ Going mover →
    arms_at arena name o ≢ []
some_mapped arena law name None mover e h = absurd (cc)
some_mapped arena law name (Some p) mover e h =
    law.goes_on p mover e (map_empty (named name) (arena.arms p) h)

pub numbers_lawful : {M N V : Type 0} (numbers : Numbering N) (arena : Arena M N V) →
    IsLawful arena → IsLawful (numbers_of numbers arena)
numbers_lawful numbers arena law = record {
  goes_on = λ i mover e. some_mapped arena law (name_in numbers) (numbers.at i) mover e;
  opposed = law.opposed;
}

pub naming_node : {M N V : Type 0} (numbers : Numbering N) (arena : Arena M N V) →
    IsNumbering numbers arena → (p : N) →
    node_at arena (numbers.at (name_by numbers.size (numbers.number p))) ≡ arena.node p
naming_node numbers arena law p =
    elim (cases_Option (numbers.number p)) [
      | inl e ↦ (
          let g = numbered_is numbers arena law in
          let b = g.past numbers.size (omega arith) in
          ap (λ o. node_at arena (numbers.at (name_by numbers.size o))) e
          ∙ (b ∙ sym (law.missing p e)))
      | inr r ↦
          ap (λ o. node_at arena (numbers.at (name_by numbers.size o))) r.1
          ∙ ap (node_at arena) (law.at_number p r.0 r.1)
    ]

naming_arms : {M N V : Type 0} (numbers : Numbering N) (arena : Arena M N V) →
    IsNumbering numbers arena → (name : N → ℕ) (p : N) (mover : Colour) →
    arena.node p ≡ Going mover →
    arms_at arena name (numbers.at (name_by numbers.size (numbers.number p)))
    ≡ map (named name) (arena.arms p)
naming_arms numbers arena law name p mover g =
    elim (cases_Option (numbers.number p)) [
      | inl e ↦ absurd (let b = law.missing p e in cc)
      | inr r ↦
          ap (λ o. arms_at arena name (numbers.at (name_by numbers.size o))) r.1
          ∙ ap (arms_at arena name) (law.at_number p r.0 r.1)
    ]

pub naming : {M N V : Type 0} (numbers : Numbering N) (arena : Arena M N V) →
    IsNumbering numbers arena → IsNaming (name_in numbers) arena (numbers_of numbers arena)
naming numbers arena law = record {
  node = naming_node numbers arena law;
  arms = naming_arms numbers arena law (name_in numbers);
  class = λ v side. refl;
  lag = λ v. refl;
}
