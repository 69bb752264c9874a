-- The lags of the exits of all configurations.
use Rattle.std.proofs.Common.{◌≡◌, ◌∙◌, ℕ, ◌<◌, ◌≤◌, ◌+◌, Option, None, Some, List, length, inl, inr, refl, ap, sym, subst, arith}
use Rattle.std.specs.List.{slice_get, slice_index_or}
use Rattle.std.proofs.lemmas.Bool.{cases_Bool, cases_lt}
use Rattle.std.proofs.lemmas.Option.{same_Some, slice_get_within}
use Rattle.frz_board.specs.declared.man.Colour.{Colour}
use Rattle.frz_board.specs.Boards.{Board}
use Rattle.frz_board.specs.Moving.{Step}
use Rattle.frz_fide.specs.Legal.{after}
use Rattle.frz_sets.specs.declared.exit.Value.{Value}
use Rattle.frz_sets.specs.Sets.{size_of}
use Rattle.frz_sets.specs.Sound.{IsSound}
use Rattle.frz_sets.specs.Views.{RuleLines}
use Rattle.frz_exits.specs.Values.{lag_of}
use Rattle.frz_arena.specs.declared.arm.Arm.{Arm}
use Rattle.frz_arena.specs.declared.arm.Next.TheVariants.{Outside}
use Rattle.frz_arena.specs.declared.class.Class.TheVariants.{Good}
use Rattle.frz_arena.specs.Arena.{IsArm}
use Rattle.frz_arena.specs.Plies.{LagsWithin}
use Rattle.frz_graph.specs.Finite.{IsFinite}
use Rattle.frz_exits.specs.Values.{class_of}
use Rattle.frz_index.specs.Members.{HasNumber}
use Rattle.frz_index.specs.Membership.{is_member}
use Rattle.frz_index.proofs.Lemmas.{Num_below, of_member, position_tells}
use Rattle.frz_configurations.specs.Configurations.{IsSplit, configuration_count}
use Rattle.frz_configurations.proofs.Lemmas.{configuration_below}
use Rattle.frz_king_planes.specs.Kings.{with_kings}
use Rattle.frz_plane_exits.specs.declared.exit_plane.ExitPlane.{ExitPlane}
use Rattle.frz_game.specs.Games.{graph_by}
use Rattle.frz_plane_chess.specs.Counted.{HasLagsWithin}
use Rattle.frz_plane_chess.specs.Rows.{HaveLagsWithin, IsRow, IsRowOf}
use Rattle.frz_plane_chess.specs.Spots.{spot_of}
use Rattle.frz_plane_chess.specs.declared.row.Row.{Row}
use Rattle.frz_plane_chess.proofs.Legal.{found, next_inside, next_outside, position_there}
use Rattle.frz_plane_chess.proofs.Placing.{placed}

-- a larger bound
pub lags_later : (exits : List ExitPlane) (side : Colour) (low high : ℕ) → low ≤ high →
    HasLagsWithin exits side low → HasLagsWithin exits side high
lags_later exits side low high l h v free a b exit small good =
    let within = h v free a b exit small good in omega arith

-- the lags of the first k exits
pub record HasLagsBelow (exits : List ExitPlane) (side : Colour) (k most : ℕ) : Type 0 where
  pub within : (j : ℕ) (exit : ExitPlane) → j < k → slice_get exits j ≡ Some exit →
      lag_of exit.value ≤ 1000 → class_of exit.value side ≡ Good → lag_of exit.value ≤ most

pub one_lag_more : (exits : List ExitPlane) (side : Colour) (k low lag high : ℕ) (exit : ExitPlane) →
    slice_get exits k ≡ Some exit → low ≤ high → lag ≤ high → HasLagsBelow exits side k low →
    (lag_of exit.value ≤ 1000 → class_of exit.value side ≡ Good → lag_of exit.value ≤ lag) →
    HasLagsBelow exits side (k + 1) high
one_lag_more exits side k low lag high exit at l m before here = record {
  within = λ j x below there small good. elim (cases_lt j k) [
    | inl less ↦ (let old = before.within j x less there small good in omega arith)
    | inr more ↦ (
        let same : j ≡ k = omega arith in
        let is : exit ≡ x = same_Some exit x
        (sym at ∙ sym (ap (λ (i : ℕ). slice_get exits i) same) ∙ there) in
        subst (λ (y : ExitPlane). lag_of y.value ≤ high) is
        (let new = here (subst (λ (y : ExitPlane). lag_of y.value ≤ 1000) (sym is) small)
        (subst (λ (y : ExitPlane). class_of y.value side ≡ Good) (sym is) good) in omega arith))
  ];
}

pub all_lags : (exits : List ExitPlane) (side : Colour) (k most : ℕ) → length exits ≤ k →
    HasLagsBelow exits side k most → HasLagsWithin exits side most
all_lags exits side k most end h v free a b exit small good =
    let is = exit.worth in
    subst (λ (x : Value). lag_of x ≤ most) is
    (h.within exit.place exit.exit
    (let l = slice_get_within exits exit.place exit.exit exit.there in omega arith) exit.there
    (subst (λ (x : Value). lag_of x ≤ 1000) (sym is) small)
    (subst (λ (x : Value). class_of x side ≡ Good) (sym is) good))

-- the lags of one row more
pub one_row_more : (rows : List (Option Row)) (side : Colour) (k low lag high : ℕ) (x : Option Row) →
    x ≡ slice_index_or rows k None → low ≤ high → lag ≤ high → HaveLagsWithin rows side k low →
    ((row : Row) → x ≡ Some row → HasLagsWithin row.exits.items side lag) →
    HaveLagsWithin rows side (k + 1) high
one_row_more rows side k low lag high x at l m before here c row below is =
    elim (cases_lt c k) [
      | inl less ↦ lags_later row.exits.items side low high l (before c row less is)
      | inr more ↦ (
          let same : k ≡ c = omega arith in
          lags_later row.exits.items side lag high m
          (here row (at ∙ ap (λ (i : ℕ). slice_index_or rows i None) same ∙ is)))
    ]

module _ (r : RuleLines) (value : Board → Value) (sound : IsSound r) (side : Colour) (most : ℕ)
    (i : ℕ) (arm : Arm Step ℕ Value) (v : Value) (h : IsArm (graph_by r value) i arm)
    (out : arm.next ≡ Outside v) (small : lag_of v ≤ 1000) (good : class_of v side ≡ Good) where
  -- the exit of a move is one of those of its configuration
  exit_there : (c a b : ℕ) (row : Row) (p : Board) → IsRowOf r value c row p →
      IsSplit r.groups i c a b → HasLagsWithin row.exits.items side most → lag_of v ≤ most
  exit_there c a b row p is split within =
      let both = found r value p i c a b sound is.board split arm h in
      let m = both.1 in
      let q = after (with_kings p a b) arm.mv in
      let leads = sym m.next ∙ out in
      elim (cases_Bool (is_member r.groups q)) [
        | inl t ↦ absurd (let inside = next_inside r value q t in cc)
        | inr f ↦ (
            let outside = next_outside r value q f in
            let worth : value q ≡ v = cc in
            within v arm.free a b
            (is.exits.all v arm.free a b both.0 (record {
              step = arm.mv;
              is_step = m.is_step;
              legal = m.legal;
              outside = λ n. (let t = of_member r.groups q n in cc);
              worth = worth;
              freedom = sym m.free;
            }))
            small good)
      ]

  in_row : (c a b : ℕ) (q : Board) (o : Option Row) → IsRow r value c o →
      IsSplit r.groups i c a b → HasNumber r.groups i q →
      ((row : Row) → o ≡ Some row → HasLagsWithin row.exits.items side most) → lag_of v ≤ most
  in_row c a b q None none split number within =
      absurd (none i a b split q number.member number.number)
  in_row c a b q (Some row) is split number within =
      exit_there c a b row is.0 is.1 split (within row refl)

  pub lag_within : (rows : List (Option Row)) →
      ((c : ℕ) → c < configuration_count r.groups → IsRow r value c (slice_index_or rows c None)) →
      HaveLagsWithin rows side (configuration_count r.groups) most → lag_of v ≤ most
  lag_within rows are within =
      let there = position_there r value i arm h in
      let number = position_tells r.groups i there.0 there.1 in
      let low = subst (λ (n : ℕ). n < size_of r.groups) number.number
      (Num_below r.groups there.0 number.member) in
      let s = spot_of r.groups i in
      let split = (placed r sound i low).split in
      let inside = configuration_below r.groups i s.configuration s.white s.black split in
      in_row s.configuration s.white s.black there.0 (slice_index_or rows s.configuration None)
      (are s.configuration inside) split number
      (λ row e. within s.configuration row inside e)

pub lags_are : (r : RuleLines) (value : Board → Value) (rows : List (Option Row)) (side : Colour)
    (most : ℕ) → IsSound r → IsFinite (graph_by r value) (size_of r.groups) →
    ((c : ℕ) → c < configuration_count r.groups → IsRow r value c (slice_index_or rows c None)) →
    HaveLagsWithin rows side (configuration_count r.groups) most →
    LagsWithin (graph_by r value) side most
lags_are r value rows side most sound finite are within i arm v h out good =
    lag_within r value sound side most i arm v h out (finite.lags i v arm h out) good rows are within

-- the lags of all rows
pub lags_end : (rows : List (Option Row)) (side : Colour) (k most : ℕ) → length rows ≤ k →
    HaveLagsWithin rows side k most → HaveLagsWithin rows side (length rows) most
lags_end rows side k most end h c row l e = h c row (omega arith) e
