-- The fixed men may be put first, and then the loose ones.
use Rattle.std.proofs.Common.{◌≡◌, ℕ, ◌+◌, ◌-◌, ◌/◌, ◌%◌, ◌<◌, zero, suc, Bool, true, false, cond, ◌&&◌, Option, None, Some, List, [], ◌∷◌, ◌++◌, length, map, refl, ap, sym, ◌∙◌, subst, arith, inl, inr, append_assoc}
use Rattle.std.specs.List.{slice_get}
use Rattle.std.proofs.lemmas.Bool.{cases_Bool, eqb-true}
use Rattle.frz_board.proofs.Lemmas.{cell-some}
use Rattle.frz_board.specs.declared.man.Colour.{Colour}
use Rattle.frz_board.specs.declared.man.Kind.{Kind}
use Rattle.frz_board.specs.Men.{cell_of_man}
use Rattle.frz_combinations.proofs.Lemmas.{choose-past}
use Rattle.frz_combinations.specs.Binomials.{choose}
use Rattle.frz_combinations.specs.MixedRadix.{AreDigits, digits, product}
use Rattle.frz_combinations.specs.Selections.{choices, selection_at}
use Rattle.frz_sets.specs.Sets.{radix_of, targets}
use Rattle.frz_sets.specs.Sound.{AreCounted, AreStates, IsCounted}
use Rattle.frz_sets.specs.Views.{GroupLine}
use Rattle.frz_index.specs.Candidates.{candidate, no_men, put_group, put_groups, put_man, put_men}
use Rattle.frz_index.specs.FixedMen.{are_fixed_free, are_loose_free, is_fixed, is_free_if_fixed, is_free_if_loose, put_fixed, put_if_fixed, put_if_loose, put_loose}
use Rattle.frz_index.specs.FreeSquares.{are_free, are_groups_free, is_free, is_group_free, is_spread}
use Rattle.frz_index.specs.Kept.{AreApart, AreNumberable}
use Rattle.frz_index.specs.FixedBoards.{board_of_fixed}
use Rattle.frz_index.specs.TurnStates.{turn_in}
use Rattle.frz_index.proofs.GroupSteps.{product_some}
use Rattle.frz_combinations.proofs.Lemmas.{digits_fit}
use Rattle.std.proofs.lemmas.Nat.{mod_below}
use Rattle.frz_board.specs.Boards.{Board}
use Rattle.frz_index.proofs.AnyOrder.{Agree, AreMen, agree_after, agree_before, agree_itself, agree_trans, frees, frees_append, puts, puts_append, swap_all}
use Rattle.frz_index.proofs.Charting.{state_low}
use Rattle.frz_index.proofs.Filling.{length-empty, length-put_men}

-- the man of a state on its square
abbrev man_put : Colour → Option (Kind × ℕ) → List (ℕ × ℕ)
man_put c None = []
man_put c (Some state) = (state.1, cell_of_man (record { colour = c; kind = state.0 })) ∷ []

abbrev men_put : Colour → List (Kind × ℕ) → List ℕ → List (ℕ × ℕ)
men_put c states [] = []
men_put c states (k ∷ ks) = man_put c (slice_get states k) ++ men_put c states ks

abbrev group_put : GroupLine → ℕ → List (ℕ × ℕ)
group_put g d = men_put g.colour g.states (selection_at (length g.states) g.least g.most d)

abbrev all_put : List GroupLine → List ℕ → List (ℕ × ℕ)
all_put [] ds = []
all_put (g ∷ gs) [] = []
all_put (g ∷ gs) (d ∷ ds) = group_put g d ++ all_put gs ds

abbrev fixed_put : List GroupLine → List (ℕ × ℕ)
fixed_put [] = []
fixed_put (g ∷ gs) = cond (is_fixed g) (group_put g 0) [] ++ fixed_put gs

abbrev loose_put : List GroupLine → List ℕ → List (ℕ × ℕ)
loose_put [] ds = []
loose_put (g ∷ gs) [] = []
loose_put (g ∷ gs) (d ∷ ds) = cond (is_fixed g) [] (group_put g d) ++ loose_put gs ds

and_true : (a : Bool) → (a && true) ≡ a
and_true true = refl
and_true false = refl

man_is : (c : Colour) (o : Option (Kind × ℕ)) (cells : List ℕ) →
    (put_man c o cells ≡ puts (man_put c o) cells) × (is_free o cells ≡ frees (man_put c o) cells)
man_is c None cells = (refl, refl)
man_is c (Some state) cells = (refl, sym (and_true (is_free (Some state) cells)))

men_are : (c : Colour) (states : List (Kind × ℕ)) (ks cells : List ℕ) →
    (put_men c states ks cells ≡ puts (men_put c states ks) cells)
    × (are_free c states ks cells ≡ frees (men_put c states ks) cells)
men_are c states [] cells = (refl, refl)
men_are c states (k ∷ ks) cells =
    let o = slice_get states k in
    let next = put_man c o cells in
    let first = man_is c o cells in
    let rest = men_are c states ks next in (
      rest.0 ∙ ap (puts (men_put c states ks)) first.0
          ∙ sym (puts_append (man_put c o) (men_put c states ks) cells),
      ap (λ b. is_free o cells && b) rest.1
          ∙ ap (λ b. b && frees (men_put c states ks) next) first.1
          ∙ ap (λ xs. frees (man_put c o) cells && frees (men_put c states ks) xs) first.0
          ∙ sym (frees_append (man_put c o) (men_put c states ks) cells),
    )

-- what is put and found empty is told by a list
record Tells (cells put : List ℕ) (free : Bool) (es : List (ℕ × ℕ)) : Type 0 where
  put_is : put ≡ puts es cells
  free_is : free ≡ frees es cells

then_tells : (cells first put : List ℕ) (free later : Bool) (xs ys : List (ℕ × ℕ)) →
    Tells cells first free xs → Tells first put later ys →
    Tells cells put (free && later) (xs ++ ys)
then_tells cells first put free later xs ys a b = record {
  put_is = b.put_is ∙ ap (puts ys) a.put_is ∙ sym (puts_append xs ys cells);
  free_is = ap (λ t. free && t) b.free_is ∙ ap (λ t. t && frees ys first) a.free_is
      ∙ ap (λ c. frees xs cells && frees ys c) a.put_is ∙ sym (frees_append xs ys cells);
}

group_tells : (g : GroupLine) (d : ℕ) (cells : List ℕ) →
    Tells cells (put_group g d cells) (is_group_free g d cells) (group_put g d)
group_tells g d cells =
    let t = men_are g.colour g.states (selection_at (length g.states) g.least g.most d) cells in
    record { put_is = t.0; free_is = t.1 }

all_tell : (gs : List GroupLine) (ds cells : List ℕ) →
    Tells cells (put_groups gs ds cells) (are_groups_free gs ds cells) (all_put gs ds)
all_tell [] ds cells = record { put_is = refl; free_is = refl }
all_tell (g ∷ gs) [] cells = record { put_is = refl; free_is = refl }
all_tell (g ∷ gs) (d ∷ ds) cells =
    let next = put_group g d cells in
    then_tells cells next (put_groups gs ds next) (is_group_free g d cells)
    (are_groups_free gs ds next) (group_put g d) (all_put gs ds) (group_tells g d cells)
    (all_tell gs ds next)

if_fixed : (g : GroupLine) (cells : List ℕ) →
    Tells cells (put_if_fixed g cells) (is_free_if_fixed g cells) (cond (is_fixed g) (group_put g 0) [])
if_fixed g cells =
    elim (is_fixed g) as (λ b. Tells cells (cond b (put_group g 0 cells) cells)
    (cond b (is_group_free g 0 cells) true) (cond b (group_put g 0) [])) [
      | true ↦ group_tells g 0 cells
      | false ↦ record { put_is = refl; free_is = refl }
    ]

fixed_tell : (gs : List GroupLine) (cells : List ℕ) →
    Tells cells (put_fixed gs cells) (are_fixed_free gs cells) (fixed_put gs)
fixed_tell [] cells = record { put_is = refl; free_is = refl }
fixed_tell (g ∷ gs) cells =
    let next = put_if_fixed g cells in
    then_tells cells next (put_fixed gs next) (is_free_if_fixed g cells) (are_fixed_free gs next)
    (cond (is_fixed g) (group_put g 0) []) (fixed_put gs) (if_fixed g cells) (fixed_tell gs next)

if_loose : (g : GroupLine) (d : ℕ) (cells : List ℕ) →
    Tells cells (put_if_loose g d cells) (is_free_if_loose g d cells)
    (cond (is_fixed g) [] (group_put g d))
if_loose g d cells =
    elim (is_fixed g) as (λ b. Tells cells (cond b cells (put_group g d cells))
    (cond b true (is_group_free g d cells)) (cond b [] (group_put g d))) [
      | true ↦ record { put_is = refl; free_is = refl }
      | false ↦ group_tells g d cells
    ]

loose_tell : (gs : List GroupLine) (ds cells : List ℕ) →
    Tells cells (put_loose gs ds cells) (are_loose_free gs ds cells) (loose_put gs ds)
loose_tell [] ds cells = record { put_is = refl; free_is = refl }
loose_tell (g ∷ gs) [] cells = record { put_is = refl; free_is = refl }
loose_tell (g ∷ gs) (d ∷ ds) cells =
    let next = put_if_loose g d cells in
    then_tells cells next (put_loose gs ds next) (is_free_if_loose g d cells)
    (are_loose_free gs ds next) (cond (is_fixed g) [] (group_put g d)) (loose_put gs ds)
    (if_loose g d cells) (loose_tell gs ds next)

-- each is a man on a square of the board
one_on : (c : Colour) (states : List (Kind × ℕ)) (k : ℕ) (o : Option (Kind × ℕ)) →
    AreStates states → slice_get states k ≡ o → AreMen (man_put c o)
one_on c states k None sound e = tt
one_on c states k (Some state) sound e =
    (((state_low 0 states k state sound.increasing e).1, cell-some c state.0), tt)

append_men : (xs ys : List (ℕ × ℕ)) → AreMen xs → AreMen ys → AreMen (xs ++ ys)
append_men [] ys a b = b
append_men (x ∷ xs) ys a b = (a.0, append_men xs ys a.1 b)

men_on : (c : Colour) (states : List (Kind × ℕ)) (ks : List ℕ) → AreStates states →
    AreMen (men_put c states ks)
men_on c states [] sound = tt
men_on c states (k ∷ ks) sound =
    append_men (man_put c (slice_get states k)) (men_put c states ks)
    (one_on c states k (slice_get states k) sound refl) (men_on c states ks sound)

fixed_on : (gs : List GroupLine) → AreApart gs → AreMen (fixed_put gs)
fixed_on [] apart = tt
fixed_on (g ∷ gs) apart =
    let first : AreMen (cond (is_fixed g) (group_put g 0) []) =
    elim (is_fixed g) as (λ b. AreMen (cond b (group_put g 0) [])) [
      | true ↦ men_on g.colour g.states (selection_at (length g.states) g.least g.most 0)
          apart.0.states
      | false ↦ tt
    ] in
    append_men (cond (is_fixed g) (group_put g 0) []) (fixed_put gs) first (fixed_on gs apart.1)

choose_all : (n : ℕ) → choose n n ≡ 1
unfolding choose
choose_all zero = refl
choose_all (suc n) =
    let past = choose-past n (suc n) (omega arith) in
    let all = choose_all n in
    omega (arith, past, all)

-- a fixed group has one digit
one_digit : (g : GroupLine) (d : ℕ) → is_fixed g ≡ true → IsCounted g → d < radix_of g → d ≡ 0
one_digit g d fixed counted fit =
    let least = eqb-true g.least (length g.states) fixed in
    let order = counted.order in
    let room = counted.room in
    let none : g.most - g.least ≡ 0 = omega arith in
    let one : radix_of g ≡ 1 =
    ap (λ n. choices (length g.states) g.least (suc n)) none
    ∙ ap (λ l. choices (length g.states) l 1) least
    ∙ ap (λ n. n + 0) (choose_all (length g.states)) in
    omega (arith, one, fit)

-- the fixed men first, and then the loose ones
fixed_first : (gs : List GroupLine) (ds cells : List ℕ) → length cells ≡ 64 → AreApart gs →
    AreCounted gs → AreDigits (map radix_of gs) ds →
    Agree (all_put gs ds) (fixed_put gs ++ loose_put gs ds) cells
fixed_first [] ds cells size apart counted fit = agree_itself [] cells
fixed_first (g ∷ gs) [] cells size apart counted fit = absurd fit
fixed_first (g ∷ gs) (d ∷ ds) cells size apart counted fit =
    let ks = selection_at (length g.states) g.least g.most d in
    let own = group_put g d in
    let fixed = fixed_put gs in
    let loose = loose_put gs ds in
    let men = men_on g.colour g.states ks apart.0.states in
    let tells = group_tells g d cells in
    let next : length (puts own cells) ≡ 64 =
    ap length (sym tells.put_is) ∙ length-put_men g.colour g.states ks cells ∙ size in
    let first : Agree (own ++ all_put gs ds) (own ++ (fixed ++ loose)) cells =
    agree_after own (all_put gs ds) (fixed ++ loose) cells
    (fixed_first gs ds (puts own cells) next apart.1 counted.1 fit.1) in
    let grouped : Agree (own ++ all_put gs ds) ((own ++ fixed) ++ loose) cells =
    subst (λ xs. Agree (own ++ all_put gs ds) xs cells) (sym (append_assoc own fixed loose)) first in
    let Goal : Bool → Type 0 = λ b. Agree (own ++ all_put gs ds)
    ((cond b (group_put g 0) [] ++ fixed) ++ (cond b [] own ++ loose)) cells in
    elim (cases_Bool (is_fixed g)) [
      | inl e ↦
          let zero_digit = one_digit g d e counted.0 fit.0 in
          subst Goal (sym e)
          (subst (λ x. Agree (own ++ all_put gs ds) ((group_put g x ++ fixed) ++ loose) cells)
          zero_digit grouped)
      | inr e ↦
          subst Goal (sym e)
          (subst (λ xs. Agree (own ++ all_put gs ds) xs cells) (append_assoc fixed own loose)
          (agree_trans (own ++ all_put gs ds) ((own ++ fixed) ++ loose) ((fixed ++ own) ++ loose)
          cells grouped
          (agree_before (own ++ fixed) (fixed ++ own) loose cells
          (swap_all own fixed cells size men (fixed_on gs apart.1)))))
    ]

-- what finds its squares empty, and the board that it leads to, in this order
pub record Split (gs : List GroupLine) (ds cells : List ℕ) : Type 0 where
  pub free : are_groups_free gs ds cells
      ≡ (are_fixed_free gs cells && are_loose_free gs ds (put_fixed gs cells))
  pub put : are_groups_free gs ds cells ≡ true →
      put_groups gs ds cells ≡ put_loose gs ds (put_fixed gs cells)

pub split : (gs : List GroupLine) (ds cells : List ℕ) → length cells ≡ 64 → AreApart gs →
    AreCounted gs → AreDigits (map radix_of gs) ds → Split gs ds cells
split gs ds cells size apart counted fit =
    let all = all_tell gs ds cells in
    let both = then_tells cells (put_fixed gs cells) (put_loose gs ds (put_fixed gs cells))
    (are_fixed_free gs cells) (are_loose_free gs ds (put_fixed gs cells)) (fixed_put gs)
    (loose_put gs ds) (fixed_tell gs cells) (loose_tell gs ds (put_fixed gs cells)) in
    let agree = fixed_first gs ds cells size apart counted fit in
    record {
      free = all.free_is ∙ agree.free ∙ sym both.free_is;
      put = λ h. all.put_is ∙ agree.put (sym all.free_is ∙ h) ∙ sym both.put_is;
    }

module _ (gs : List GroupLine) (i : ℕ) (s : AreNumberable gs) (apart : AreApart gs) where
  abbrev whole : ℕ
  whole = product (map radix_of gs)

  abbrev ds : List ℕ
  ds = digits (map radix_of gs) (i % whole)

  parts : Split gs ds no_men
  parts =
      split gs ds no_men length-empty apart s.groups
      (digits_fit (map radix_of gs) (i % whole) (mod_below i whole (product_some gs s.groups)))

  -- two men of a number stand on one square where two fixed men do
  pub fixed_meet : are_fixed_free gs no_men ≡ false → is_spread gs i ≡ false
  fixed_meet none =
      parts.free ∙ ap (λ b. b && are_loose_free gs ds (put_fixed gs no_men)) none

  module _ (turn : Colour) (ep : Option ℕ) (rest : ℕ) (p : Board) (rest_is : rest ≡ i % whole)
      (fixed : are_fixed_free gs no_men ≡ true) (board : p ≡ board_of_fixed gs turn ep) where
    loose_is : are_loose_free gs (digits (map radix_of gs) rest) p.cells
        ≡ are_loose_free gs ds (put_fixed gs no_men)
    loose_is =
        ap (λ r. are_loose_free gs (digits (map radix_of gs) r) p.cells) rest_is
        ∙ ap (λ (b : Board). are_loose_free gs ds b.cells) board

    -- or where a loose man meets another
    pub loose_told : is_spread gs i
        ≡ are_loose_free gs (digits (map radix_of gs) rest) p.cells
    loose_told =
        parts.free ∙ ap (λ b. b && are_loose_free gs ds (put_fixed gs no_men)) fixed ∙ sym loose_is

    -- the loose men on the board of the fixed ones make the candidate
    pub candidate_made : is_spread gs i ≡ true →
        (turn, ep) ≡ turn_in (targets gs) (i / whole) →
        record p { cells = put_loose gs (digits (map radix_of gs) rest) p.cells } ≡ candidate gs i
    candidate_made spread turn_is =
        ap (λ r. record p { cells = put_loose gs (digits (map radix_of gs) r) p.cells }) rest_is
        ∙ ap (λ (b : Board). record b { cells = put_loose gs ds b.cells }) board
        ∙ ap (λ (cells : List ℕ). record (board_of_fixed gs turn ep) { cells = cells })
        (sym (parts.put spread))
        ∙ ap (λ (t : Colour × Option ℕ).
        record { cells = put_groups gs ds no_men; turn = t.0; ep = t.1 }) turn_is
