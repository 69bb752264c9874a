-- What the rows of a position tell: where each move leads, and the bounds there.
use Rattle.std.proofs.Common.{◌≡◌, refl, sym, ap, subst, ◌∙◌, ℕ, List, ◌++◌, map, length, Bool, true, false, codes}
use Rattle.std.specs.Prelude.{All, Contains, slice_index}
use Rattle.std.proofs.lemmas.List.{length-map}
use Rattle.std.proofs.lemmas.List.Elements.{All-contains_itself, All-map, All-weaker}
use Rattle.std.proofs.lemmas.List.Sorted.{All-permutation, length_permutation}
use Rattle.frz_board.specs.declared.man.Colour.{Colour}
use Rattle.frz_board.specs.declared.man.Colour.TheVariants.{White, Black}
use Rattle.frz_board.specs.Boards.{Board}
use Rattle.frz_board.specs.Moving.{Step}
use Rattle.frz_fide.specs.Legal.{after, is_legal}
use Rattle.frz_fide.specs.Listing.{legal_moves_of}
use Rattle.frz_fide.proofs.Lemmas.{only_legal}
use Rattle.frz_sets.specs.declared.exit.Value.{Value}
use Rattle.frz_sets.specs.Sets.{size_of}
use Rattle.frz_sets.specs.Views.{RuleLines}
use Rattle.frz_index.specs.Members.{Member, Num}
use Rattle.frz_index.proofs.Lemmas.{member_of, number_there}
use Rattle.frz_arena.specs.declared.bound.Bound.{Bound}
use Rattle.frz_arena.specs.declared.arm.Arm.{Arm}
use Rattle.frz_arena.specs.declared.arm.Next.{Next}
use Rattle.frz_arena.specs.declared.arm.Next.TheVariants.{Inside}
use Rattle.frz_arena.specs.Games.{next_by}
use Rattle.frz_arena.specs.Names.{name_by, name_in, named_next}
use Rattle.frz_graph.specs.EntryCodes.{arm_code, next_code}
use Rattle.frz_game.specs.Games.{arm_at}
use Rattle.frz_game.specs.Numbers.{is_member, numbers_by}
use Rattle.frz_table.specs.Opening.{Contents}
use Rattle.frz_check.specs.Kept.{kept_codes}
use Rattle.frz_check.specs.KeptTables.{KeepsBound, KeepsTables}
use Rattle.frz_check.proofs.Lemmas.{bound_kept}
use Rattle.frz_bound_lines.specs.BoundLines.{bound_text, kept_words, side_name}
use Rattle.frz_bound_lines.proofs.BoundLines.{kept_bound}
use Rattle.frz_commands_atlas.specs.declared.rows.Row.{Row}
use Rattle.frz_commands_atlas.specs.EachMeans.{TellsBehind}
use Rattle.frz_commands_atlas.specs.MoveRows.{arms_of, row_by, rows_in}
use Rattle.frz_commands_atlas.specs.Ranked.{IsRanked}
use Rattle.frz_commands_atlas.specs.RowLines.{both_words, side_words}

-- a move that stays in the set leads to the number of the position after it
module _ (rules : RuleLines) (q : Board) (v : Value) (n : ℕ) where
  leads_to_member : (b : Bool) → is_member rules.groups q ≡ b
      → named_next (name_in (numbers_by rules.groups)) (next_by b q v) ≡ Inside n
      → Member rules.groups q × (n ≡ Num rules.groups q)
  leads_to_member true same e =
      let named : name_in (numbers_by rules.groups) q ≡ n = cc in (
        member_of rules.groups q same,
        sym named ∙ ap (name_by (size_of rules.groups)) (number_there rules.groups q same),
      )
  leads_to_member false same e = absurd (cc)

stays_at : (rules : RuleLines) (value : Board → Value) (p : Board) (m : Step) (n : ℕ)
    → (arm_at rules value p m).next ≡ Inside n
    → Member rules.groups (after p m) × (n ≡ Num rules.groups (after p m))
unfolding arm_at
stays_at rules value p m n e =
    leads_to_member rules (after p m) (value (after p m)) n (is_member rules.groups (after p m))
    refl e

arm_has_move : (rules : RuleLines) (value : Board → Value) (p : Board) (m : Step)
    → (arm_at rules value p m).mv ≡ m
unfolding arm_at
arm_has_move rules value p m = refl

-- what holds of each legal move holds of the rows in any order
in_order : (P : Row → Type 0) (rules : RuleLines) (value : Board → Value) (p : Board)
    (white black : List ℕ) (rank : Row → ℕ) (rows : List Row)
    → ((m : Step) → Contains (legal_moves_of p) m
    → P (row_by white black (arm_at rules value p m)))
    → IsRanked rank (map (row_by white black) (arms_of rules value p)) rows → All P rows
in_order P rules value p white black rank rows each ranked =
    let arm : Step → Arm Step ℕ Value = arm_at rules value p in
    All-permutation P (map (row_by white black) (arms_of rules value p)) rows ranked.same
    (All-map P (row_by white black) (arms_of rules value p)
    (All-map (λ (a : Arm Step ℕ Value). P (row_by white black a)) arm (legal_moves_of p)
    (All-weaker (Contains (legal_moves_of p)) (λ (m : Step). P (row_by white black (arm m))) each
    (legal_moves_of p) (All-contains_itself (legal_moves_of p)))))

-- the rows are of legal moves
pub legal_rows : (rules : RuleLines) (value : Board → Value) (p : Board) (white black : List ℕ)
    (rank : Row → ℕ) (rows : List Row)
    → IsRanked rank (map (row_by white black) (arms_of rules value p)) rows
    → All (λ (row : Row). is_legal p row.arm.mv ≡ true) rows
legal_rows rules value p white black rank rows ranked =
    in_order (λ (row : Row). is_legal p row.arm.mv ≡ true) rules value p white black rank rows
    (λ m listed. ap (is_legal p) (arm_has_move rules value p m) ∙ (only_legal p m listed).1)
    ranked

-- and there are as many
pub many_rows : (rules : RuleLines) (value : Board → Value) (p : Board) (white black : List ℕ)
    (rank : Row → ℕ) (rows : List Row)
    → IsRanked rank (map (row_by white black) (arms_of rules value p)) rows
    → length rows ≡ length (legal_moves_of p)
many_rows rules value p white black rank rows ranked =
    length_permutation (map (row_by white black) (arms_of rules value p)) rows ranked.same
    ∙ length-map (arms_of rules value p) (row_by white black)
    ∙ length-map (legal_moves_of p) (arm_at rules value p)

-- the words of the codes of bounds are those of the bounds
pub words_of_bounds : (w b : ℕ) (white black : Bound)
    → kept_words w ≡ bound_text white → kept_words b ≡ bound_text black
    → both_words w b ≡ (side_name White ++ bound_text white)
    ++ (codes ", " ++ (side_name Black ++ bound_text black))
words_of_bounds w b white black w_is b_is =
    ap (λ (l : List ℕ). (side_name White ++ l) ++ (codes ", " ++ side_words Black b)) w_is
    ∙ ap (λ (l : List ℕ). (side_name White ++ bound_text white)
    ++ (codes ", " ++ (side_name Black ++ l))) b_is

-- whatever values exits have in the rows
module _ (book value : Board → Value) (contents : Contents) (bytes : List ℕ) (p : Board)
    (tables : KeepsTables value contents bytes) where
  -- the code of a side behind a move that stays in the set is that of its bound
  bound_behind : (side : Colour) (m : Step) (n : ℕ)
      → (arm_at contents.rules book p m).next ≡ Inside n
      → KeepsBound contents.rules value side (after p m)
      (arm_code side (kept_codes contents bytes side)
      (arm_at contents.rules book p m))
  bound_behind side m n e =
      let to = stays_at contents.rules book p m n e in
      let kept = kept_codes contents bytes side in
      subst (λ (x : Next ℕ Value). KeepsBound contents.rules value side (after p m)
      (next_code side kept x)) (sym e)
      (subst (λ (k : ℕ). KeepsBound contents.rules value side (after p m) (slice_index kept k))
      (sym to.1) (bound_kept value contents bytes tables side (after p m) to.0))

  row_tells : (m : Step) → TellsBehind contents.rules value p
      (row_by (kept_codes contents bytes White) (kept_codes contents bytes Black)
      (arm_at contents.rules book p m))
  unfolding arm_at
  row_tells m = λ n e.
      let white = bound_behind White m n e in
      let black = bound_behind Black m n e in
      record {
        inside = (stays_at contents.rules book p m n e).0;
        white = white;
        black = black;
        told = words_of_bounds
            (arm_code White (kept_codes contents bytes White)
            (arm_at contents.rules book p m))
            (arm_code Black (kept_codes contents bytes Black)
            (arm_at contents.rules book p m)) white.bound black.bound
            (ap kept_words white.is ∙ kept_bound white.bound)
            (ap kept_words black.is ∙ kept_bound black.bound);
      }

  -- where the codes are those of the tables, the rows tell the bounds
  pub rows_tell : (rank : Row → ℕ) (rows : List Row)
      → IsRanked rank (rows_in contents bytes book p) rows
      → All (TellsBehind contents.rules value p) rows
  rows_tell rank rows ranked =
      in_order (TellsBehind contents.rules value p) contents.rules book p
      (kept_codes contents bytes White) (kept_codes contents bytes Black) rank rows
      (λ m listed. row_tells m) ranked
