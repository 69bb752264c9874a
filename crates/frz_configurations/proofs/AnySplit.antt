-- Each configuration has a number with the kings on each of their squares.
use Rattle.std.proofs.Common.{◌≡◌, ℕ, suc, ◌+◌, ◌*◌, ◌/◌, ◌%◌, ◌<◌, true, Some, List, [], ◌∷◌, refl, inl, inr}
use Rattle.std.specs.List.{AllByRecursion, slice_get}
use Rattle.std.proofs.lemmas.Bool.{cases_Bool}
use Rattle.frz_board.specs.declared.man.Colour.TheVariants.{White, Black}
use Rattle.frz_sets.specs.Sets.{radix_of}
use Rattle.frz_sets.specs.Sound.{IsCounted, IsSound}
use Rattle.frz_sets.specs.Views.{GroupLine, RuleLines}
use Rattle.frz_index.proofs.Lemmas.{numberable, radix_some}
use Rattle.frz_configurations.specs.Configurations.{IsSplit, configuration_count, has_kings}
use Rattle.frz_configurations.specs.Joined.{HasKing, IsJoined, IsKingSquare, of_colour}
use Rattle.frz_configurations.specs.Parts.{AreKings}
use Rattle.frz_configurations.specs.declared.joined.Joined.{Joined}
use Rattle.frz_configurations.proofs.Ending.{joined_whole}
use Rattle.frz_configurations.proofs.PuttingTogether.{joined_king, joined_none, joined_other}
use Rattle.frz_configurations.proofs.Ready.{king_there, kings_all}

-- each group of kings has its king on his colour's square
abbrev HaveKings : List GroupLine → (a b : ℕ) → Type 0
HaveKings gs a b =
    (k : ℕ) (g : GroupLine) → slice_get gs k ≡ Some g → has_kings g ≡ true →
    AreKings g × HasKing g (of_colour g.colour a b)

record IsPut (gs : List GroupLine) (c a b : ℕ) : Type 0 where
  joined : Joined
  is : IsJoined gs c a b joined

put_together : (gs : List GroupLine) (c a b : ℕ) → AllByRecursion IsCounted gs →
    HaveKings gs a b → IsPut gs c a b
put_together [] c a b counted kings =
    let x : Joined = record { rest = c; number = 0; count = 1 } in
    record { joined = x; is = joined_none c a b x refl refl refl }
put_together (g ∷ gs) c a b counted kings =
    let later = put_together gs c a b counted.1 (λ k. kings (suc k)) in
    let x = later.joined in
    let r = radix_of g in
    elim (cases_Bool (has_kings g)) [
      | inl kingly ↦
          let mine = kings 0 g refl kingly in
          let d = mine.1.place in
          let y : Joined = record {
            rest = x.rest;
            number = x.number + d * x.count;
            count = x.count * r;
          } in
          record {
            joined = y;
            is = joined_king gs c a b g r d x y later.is kingly mine.0 refl refl refl refl mine.1.there;
          }
      | inr other ↦
          let y : Joined = record {
            rest = x.rest / r;
            number = x.number + x.rest % r * x.count;
            count = x.count * r;
          } in
          record {
            joined = y;
            is = joined_other gs c a b g r x y later.is other refl (radix_some g counted.0) refl refl
                refl;
          }
    ]

-- a number of the configuration with the kings on these squares
pub record HasSplit (gs : List GroupLine) (c a b : ℕ) : Type 0 where
  pub number : ℕ
  pub split : IsSplit gs number c a b

pub any_split : (r : RuleLines) (c a b : ℕ) → IsSound r → c < configuration_count r.groups →
    IsKingSquare r.groups White a → IsKingSquare r.groups Black b → HasSplit r.groups c a b
any_split r c a b sound inside white black =
    let gs = r.groups in
    let x = put_together gs c a b (numberable r sound).groups (λ k g e kings. (
      kings_all [] gs sound.lines.groups k g e kings,
      king_there gs k a b g e white black kings,
    )) in
    record {
      number = x.joined.number + x.joined.rest * x.joined.count;
      split = (joined_whole r c a b x.joined sound inside x.is).split;
    }
