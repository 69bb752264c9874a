-- The parts of a number once all groups are taken.
use Rattle.std.proofs.Common.{◌≡◌, ℕ, ◌+◌, ◌*◌, ◌<◌, ◌≤◌, ◌∷◌, length, map, ap, ◌∙◌, arith, inl, inr}
use Rattle.std.proofs.Math.Nat.{add_comm}
use Rattle.std.proofs.lemmas.Bool.{cases_lt}
use Rattle.std.proofs.lemmas.Nat.{mul-le}
use Rattle.frz_board.specs.declared.man.Colour.TheVariants.{White, Black}
use Rattle.frz_combinations.specs.MixedRadix.{product, value}
use Rattle.frz_sets.specs.Sets.{radix_of, size_of, targets}
use Rattle.frz_sets.specs.Sound.{IsSound}
use Rattle.frz_sets.specs.Views.{RuleLines}
use Rattle.frz_index.proofs.Lemmas.{numberable}
use Rattle.frz_configurations.specs.Configurations.{IsSplit, configuration_count, other_digits, other_radices, others}
use Rattle.frz_configurations.specs.Joined.{IsJoined}
use Rattle.frz_configurations.specs.Parts.{IsParted}
use Rattle.frz_configurations.specs.declared.joined.Joined.{Joined}
use Rattle.frz_configurations.specs.declared.parts.Parts.{Parts}
use Rattle.frz_configurations.proofs.OtherDigits.{configuration_below, number_below}
use Rattle.frz_configurations.proofs.Ready.{others_le}

rest_below : (rest turns p v number : ℕ) → number ≡ rest * p + v → number < turns * p → rest < turns
rest_below rest turns p v number e l =
    elim (cases_lt rest turns) [
      | inl less ↦ less
      | inr more ↦ absurd (let over = mul-le turns p rest p more (omega arith) in omega arith)
    ]

-- the parts of a number that is below the size
pub record IsEnded (r : RuleLines) (number : ℕ) (x : Parts) : Type 0 where
  pub split : IsSplit r.groups number (x.configuration + x.rest * x.count) x.white x.black
  pub fits : x.configuration + x.rest * x.count < 134217728

pub ended : (r : RuleLines) (number : ℕ) (x : Parts) → IsSound r → number < size_of r.groups →
    IsParted r.groups number x → IsEnded r number x
ended r number x sound inside h =
    let gs = r.groups in
    let n = numberable r sound in
    let turns = 2 + length (targets gs) in
    let q = product (map radix_of (others gs)) in
    let below = rest_below x.rest turns (product (map radix_of gs)) (value (map radix_of gs) h.ds)
    number h.whole inside in
    let is : x.configuration + x.rest * x.count
    ≡ value (other_radices gs) (x.rest ∷ other_digits gs h.ds) =
    add_comm x.configuration (x.rest * x.count) ∙ ap (λ m. x.rest * m + x.configuration) h.count
    ∙ ap (λ m. x.rest * q + m) h.configuration in
    let split : IsSplit gs number (x.configuration + x.rest * x.count) x.white x.black = record {
      turn = x.rest;
      ds = h.ds;
      fits = (below, h.fits);
      number = h.whole;
      configuration = is;
      white = h.kings White sound.white_king;
      black = h.kings Black sound.black_king;
    } in
    let few = mul-le turns q turns (product (map radix_of gs)) (omega arith)
    (others_le gs n.groups) in
    record {
      split = split;
      fits = omega (
        arith,
        configuration_below gs number (x.configuration + x.rest * x.count) x.white x.black split,
        few,
        n.size,
      );
    }

-- the turn states times the configurations of the groups
pub counted_by : (r : RuleLines) (turns number : ℕ) (x : Parts) → IsSound r →
    turns ≡ length (targets r.groups) + 2 → IsParted r.groups number x →
    (turns * x.count ≡ configuration_count r.groups) × (turns * x.count ≤ 134217728)
counted_by r turns number x sound e h =
    let gs = r.groups in
    let n = numberable r sound in
    let q = product (map radix_of (others gs)) in
    let swap : turns ≡ 2 + length (targets gs) = omega arith in
    let is : turns * x.count ≡ (2 + length (targets gs)) * q = ap (λ m. m * x.count) swap
    ∙ ap (λ m. (2 + length (targets gs)) * m) h.count in
    let few = mul-le (2 + length (targets gs)) q (2 + length (targets gs)) (product (map radix_of gs))
    (omega arith) (others_le gs n.groups) in
    (is, omega (arith, is, few, n.size))

-- a configuration and both kings' squares, once all groups are put together
pub record IsWhole (r : RuleLines) (c a b : ℕ) (x : Joined) : Type 0 where
  pub split : IsSplit r.groups (x.number + x.rest * x.count) c a b
  pub fits : x.number + x.rest * x.count < 134217728

pub joined_whole : (r : RuleLines) (c a b : ℕ) (x : Joined) → IsSound r →
    c < configuration_count r.groups → IsJoined r.groups c a b x → IsWhole r c a b x
joined_whole r c a b x sound inside h =
    let gs = r.groups in
    let n = numberable r sound in
    let turns = 2 + length (targets gs) in
    let p = product (map radix_of gs) in
    let q = product (map radix_of (others gs)) in
    let below = rest_below x.rest turns q (value (map radix_of (others gs)) (other_digits gs h.ds)) c
    h.whole inside in
    let split : IsSplit gs (x.number + x.rest * x.count) c a b = record {
      turn = x.rest;
      ds = h.ds;
      fits = (below, h.fits);
      number = add_comm x.number (x.rest * x.count) ∙ ap (λ m. x.rest * m + x.number) h.count
          ∙ ap (λ m. x.rest * p + m) h.number;
      configuration = h.whole;
      white = h.kings White sound.white_king;
      black = h.kings Black sound.black_king;
    } in
    record {
      split = split;
      fits = omega (arith, number_below gs (x.number + x.rest * x.count) c a b split, n.size);
    }
