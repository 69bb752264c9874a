-- The men of one group more are put, if it is one without kings.
use Rattle.std.proofs.Common.{◌≡◌, ℕ, ◌+◌, ◌*◌, ◌/◌, ◌%◌, ◌<◌, ◌&&◌, Bool, true, false, not, cond, Some, List, ◌∷◌, drop, get_or, length, map, refl, ap, sym, ◌∙◌, subst}
use Rattle.std.specs.List.{AllByRecursion, slice_get}
use Rattle.std.proofs.Math.Nat.{mul-div_cancel_left}
use Rattle.std.proofs.lemmas.Option.{slice_get_read}
use Rattle.frz_board.specs.Boards.{Board}
use Rattle.frz_combinations.specs.MixedRadix.{digits, product}
use Rattle.frz_sets.specs.Sets.{radix_of}
use Rattle.frz_sets.specs.Sound.{IsCounted, IsSound}
use Rattle.frz_sets.specs.Views.{GroupLine, RuleLines}
use Rattle.frz_index.specs.Candidates.{put_group, put_groups}
use Rattle.frz_index.specs.FreeSquares.{are_groups_free, is_group_free}
use Rattle.frz_index.proofs.Lemmas.{all_drop, drop_read, numberable, product_some, radix_some}
use Rattle.frz_configurations.specs.Configurations.{has_kings, others}
use Rattle.frz_kingless.proofs.OtherMen.{all_others}

-- the men of these groups' digits of a number are put, and find their squares free
abbrev pub put_by : List GroupLine → ℕ → List ℕ → List ℕ
put_by gs n cells = put_groups gs (digits (map radix_of gs) n) cells

abbrev pub free_by : List GroupLine → ℕ → List ℕ → Bool
free_by gs n cells = are_groups_free gs (digits (map radix_of gs) n) cells

-- the groups without kings from index k on, and how many numbers they have
abbrev pub others_from : List GroupLine → ℕ → List GroupLine
others_from gs k = others (drop k gs)

abbrev pub weight_of : List GroupLine → ℕ → ℕ
weight_of gs k = product (map radix_of (others (drop k gs)))

-- the group at index k
pub record IsAt (gs : List GroupLine) (k : ℕ) (g : GroupLine) : Type 0 where
  pub at : slice_get gs k ≡ Some g
  pub is : drop k gs ≡ g ∷ drop (k + 1) gs
  pub counted : IsCounted g
  pub some : 0 < weight_of gs (k + 1)

pub at_index : (r : RuleLines) (k : ℕ) (g : GroupLine) → IsSound r → k < length r.groups →
    g ≡ get_or r.groups k g → IsAt r.groups k g
at_index r k g sound low read =
    let gs = r.groups in
    let is = drop_read gs k g low read in
    let counted : AllByRecursion IsCounted (g ∷ drop (k + 1) gs) =
    subst (AllByRecursion IsCounted) is (all_drop IsCounted gs k (numberable r sound).groups) in
    record {
      at = slice_get_read gs (length gs) k g refl low read;
      is = is;
      counted = counted.0;
      some = product_some (others_from gs (k + 1))
          (all_others IsCounted (drop (k + 1) gs) counted.1);
    }

-- a group of kings is passed over
pub passed : (gs : List GroupLine) (k : ℕ) (g : GroupLine) → IsAt gs k g → has_kings g ≡ true →
    others_from gs k ≡ others_from gs (k + 1)
passed gs k g a kings =
    ap others a.is
    ∙ ap (λ t. cond (not t) (g ∷ others_from gs (k + 1)) (others_from gs (k + 1))) kings

-- another is the next
pub next : (gs : List GroupLine) (k : ℕ) (g : GroupLine) → IsAt gs k g → has_kings g ≡ false →
    others_from gs k ≡ g ∷ others_from gs (k + 1)
next gs k g a none =
    ap others a.is
    ∙ ap (λ t. cond (not t) (g ∷ others_from gs (k + 1)) (others_from gs (k + 1))) none

-- the men of the groups before index k are put: the later groups have this weight, and this is left
-- of the number
pub record IsPut (gs : List GroupLine) (n : ℕ) (before : Board) (k weight rest : ℕ) (p : Board)
    : Type 0 where
  pub weight_is : weight ≡ weight_of gs k
  pub put : record p { cells = put_by (others_from gs k) rest p.cells }
      ≡ record before { cells = put_by (others gs) n before.cells }
  pub free : free_by (others_from gs k) rest p.cells ≡ free_by (others gs) n before.cells

module _ (gs : List GroupLine) (n k weight rest : ℕ) (before p : Board) (h : IsPut gs n before k weight rest p)
    (g : GroupLine) (a : IsAt gs k g) where
  -- nothing is put
  pub put_passed : has_kings g ≡ true → (weight2 rest2 : ℕ) (q : Board) → weight2 ≡ weight →
      rest2 ≡ rest → q ≡ p → IsPut gs n before (k + 1) weight2 rest2 q
  put_passed kings weight2 rest2 q weight_is rest_is q_is =
      let skip = sym (passed gs k g a kings) in
      let later = others_from gs (k + 1) in
      record {
        weight_is = weight_is ∙ h.weight_is
            ∙ sym (ap (λ xs. product (map radix_of xs)) skip);
        put = ap (λ (b : Board). record b { cells = put_by later rest2 b.cells }) q_is
            ∙ ap (λ m. record p { cells = put_by later m p.cells }) rest_is
            ∙ ap (λ xs. record p { cells = put_by xs rest p.cells }) skip
            ∙ h.put;
        free = ap (λ (b : Board). free_by later rest2 b.cells) q_is
            ∙ ap (λ m. free_by later m p.cells) rest_is
            ∙ ap (λ xs. free_by xs rest p.cells) skip
            ∙ h.free;
      }

  module _ (radix : ℕ) (none : has_kings g ≡ false) (radix_is : radix ≡ radix_of g) where
    abbrev less : ℕ
    less = weight / radix

    abbrev digit : ℕ
    digit = rest / (weight / radix)

    pub less_is : less ≡ weight_of gs (k + 1)
    less_is =
        ap (λ m. m / radix)
        (h.weight_is ∙ ap (λ xs. product (map radix_of xs)) (next gs k g a none))
        ∙ ap (λ m. (radix_of g * weight_of gs (k + 1)) / m) radix_is
        ∙ mul-div_cancel_left (weight_of gs (k + 1)) (radix_some g a.counted)

    put_step : put_by (others_from gs (k + 1)) (rest % less) (put_group g digit p.cells)
        ≡ put_by (others_from gs k) rest p.cells
    put_step =
        ap (λ w. put_by (others_from gs (k + 1)) (rest % w) (put_group g (rest / w) p.cells)) less_is
        ∙ sym (ap (λ xs. put_by xs rest p.cells) (next gs k g a none))

    free_step : (is_group_free g digit p.cells
        && free_by (others_from gs (k + 1)) (rest % less) (put_group g digit p.cells))
        ≡ free_by (others_from gs k) rest p.cells
    free_step =
        ap (λ w. is_group_free g (rest / w) p.cells
        && free_by (others_from gs (k + 1)) (rest % w) (put_group g (rest / w) p.cells)) less_is
        ∙ sym (ap (λ xs. free_by xs rest p.cells) (next gs k g a none))

    -- the group's men find their squares free: what is left is for the groups after it
    pub put_more : is_group_free g digit p.cells ≡ true → (weight2 rest2 : ℕ) (q : Board) →
        weight2 ≡ less → rest2 ≡ rest % less →
        q ≡ record p { cells = put_group g digit p.cells } →
        IsPut gs n before (k + 1) weight2 rest2 q
    put_more free weight2 rest2 q weight_is rest_is q_is =
        let later = others_from gs (k + 1) in
        let cells = put_group g digit p.cells in
        record {
          weight_is = weight_is ∙ less_is;
          put = ap (λ (b : Board). record b { cells = put_by later rest2 b.cells }) q_is
              ∙ ap (λ m. record p { cells = put_by later m cells }) rest_is
              ∙ ap (λ (xs : List ℕ). record p { cells = xs }) put_step
              ∙ h.put;
          free = ap (λ (b : Board). free_by later rest2 b.cells) q_is
              ∙ ap (λ m. free_by later m cells) rest_is
              ∙ ap (λ t. t && free_by later (rest % less) cells) (sym free)
              ∙ free_step ∙ h.free;
        }

    -- one of them finds his square taken
    pub put_stop : is_group_free g digit p.cells ≡ false →
        false ≡ free_by (others gs) n before.cells
    put_stop taken =
        ap (λ t. t && free_by (others_from gs (k + 1)) (rest % less) (put_group g digit p.cells))
        (sym taken)
        ∙ free_step ∙ h.free
