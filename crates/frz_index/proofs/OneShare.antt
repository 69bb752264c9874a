-- A man on a square has one share at most: where a group counts him, and where none does alone.
use Rattle.std.proofs.Common.{◌≡◌, ◌≢◌, ℕ, true, false, Some, List, refl, ap, sym, subst, ◌∙◌, inl, inr}
use Rattle.std.specs.List.{slice_get}
use Rattle.std.proofs.lemmas.Bool.{cases_eq}
use Rattle.std.proofs.lemmas.Option.{same_Some}
use Rattle.frz_board.specs.Men.{cell_of_man}
use Rattle.frz_board.specs.declared.man.Man.{Man}
use Rattle.frz_sets.specs.Sets.{is_state}
use Rattle.frz_sets.specs.Views.{GroupLine}
use Rattle.frz_index.proofs.RoomForMen.{any_at, at_itself, is_at}
use Rattle.frz_index.specs.Stepping.{IsPlace, IsShare, IsSharedOnBoth}

-- the man is a state of the group where it has a place for him
state_of_place : (g : GroupLine) (man : Man) (s k : ℕ) → IsPlace g man s k →
    is_state (cell_of_man man) s g ≡ true
state_of_place g man s k h =
    any_at (is_at g.colour man s) g.states k (man.kind, s) h.1
    (ap (λ c. is_at c man s (man.kind, s)) h.0 ∙ at_itself man s man.kind refl)

pub share_once : (gs : List GroupLine) (man : Man) (s i j x y : ℕ) → IsShare gs man s i x →
    IsShare gs man s j y → i ≡ j
share_once gs man s i j x y hi hj =
    elim (cases_eq i j) [
      | inl e ↦ e
      | inr n ↦
          let off = hj.alone i hi.group n hi.there in
          let on = state_of_place hi.group man s hi.place hi.place_is in
          absurd cc
    ]

-- two shares by the same group
abbrev pub shared_on_both : (gs : List GroupLine) (man : Man) (a b i j left comes : ℕ) → i ≡ j →
    IsShare gs man a i left → IsShare gs man b j comes → IsSharedOnBoth gs man a b
shared_on_both gs man a b i j left comes same there then = record {
  group = i;
  left = left;
  comes = comes;
  there = there;
  then = subst (λ k. IsShare gs man b k comes) (sym same) then;
}

-- where one group has a share of him on both squares, his shares there are by the same group
pub same_group : (gs : List GroupLine) (man : Man) (a b i j left comes : ℕ) →
    IsSharedOnBoth gs man a b → IsShare gs man a i left → IsShare gs man b j comes → i ≡ j
same_group gs man a b i j left comes both there then =
    share_once gs man a i both.group left both.left there both.there
    ∙ share_once gs man b both.group j both.comes comes both.then then

module _ (gs : List GroupLine) (man : Man) (s i : ℕ) (g : GroupLine)
    (there : slice_get gs i ≡ Some g) where
  same : (adds : ℕ) (h : IsShare gs man s i adds) → h.group ≡ g
  same adds h = same_Some h.group g (sym h.there ∙ there)

  pub no_state_here : is_state (cell_of_man man) s g ≡ false → (adds : ℕ)
      → IsShare gs man s i adds →
      ⊥
  no_state_here off adds h =
      let on : is_state (cell_of_man man) s g ≡ true =
      subst (λ (x : GroupLine). is_state (cell_of_man man) s x ≡ true) (same adds h)
      (state_of_place h.group man s h.place h.place_is) in
      absurd cc

  pub more_than_one : g.most ≢ 1 → (adds : ℕ) → IsShare gs man s i adds → ⊥
  more_than_one n adds h = n (ap (λ (x : GroupLine). x.most) (sym (same adds h)) ∙ h.one)
