-- The moved codes of a side: there are some, and only one list
-- of them; of a former file of a text they are the side's table.
use Rattle.std.proofs.Common.{◌≡◌, refl, sym, ap, subst, ◌∙◌, ℕ, ◌<◌, List, map, arith}
use Rattle.std.specs.List.{range_with_len}
use Rattle.std.proofs.lemmas.List.{ext_get_or}
use Rattle.std.proofs.lemmas.List.FromFn.{get_or-map-range_with_len, length-map-range_with_len}
use Rattle.frz_board.specs.Boards.{Board}
use Rattle.frz_board.specs.declared.man.Colour.{Colour}
use Rattle.frz_board.specs.declared.man.Colour.TheVariants.{White, Black}
use Rattle.frz_game.specs.Bounds.{IsTableOf}
use Rattle.frz_index.specs.Members.{HasNumber}
use Rattle.frz_index.specs.Membership.{position_at}
use Rattle.frz_index.specs.OldNumbers.{old_size_of}
use Rattle.frz_index.proofs.Lemmas.{Num_below, member_of, number_tells, position_of}
use Rattle.frz_sets.specs.Sets.{size_of}
use Rattle.frz_sets.specs.Views.{GroupLine, RuleLines}
use Rattle.frz_sets.specs.declared.exit.Value.{Value}
use Rattle.frz_table.specs.declared.kind.FileKind.TheVariants.{Plain}
use Rattle.frz_table.specs.Layout.{codes_at, file_of, magic_of}
use Rattle.frz_table.specs.Opening.{Contents}
use Rattle.frz_check.specs.OneFile.{IsOneFile}
use Rattle.frz_commands_table.specs.Migrated.{AreMoved, IsMigrated, former_codes, moved_code}
use Rattle.frz_commands_table.specs.MigrateMeans.{IsFormerFile}

module _ (groups : List GroupLine) (old : List ℕ) where
  some_moved : (new : List ℕ) × AreMoved groups old new
  some_moved =
      let code : ℕ → ℕ = λ i. moved_code groups old (position_at groups i) in (
        map code (range_with_len 0 (size_of groups)),
        record {
          many = length-map-range_with_len code 0 (size_of groups);
          moved = λ i below. get_or-map-range_with_len code 0 (size_of groups) i i 0 below
              (omega arith);
        },
      )

  one_moved : (new other : List ℕ) → AreMoved groups old new → AreMoved groups old other
      → other ≡ new
  one_moved new other h k =
      ext_get_or 0 other new (k.many ∙ sym h.many)
      (λ i below. let inside : i < size_of groups = subst (λ n. i < n) k.many below in
      k.moved i inside ∙ sym (h.moved i inside))

-- where the former codes are those of bounds, the moved ones are the table
table_moved : (text : List ℕ) (rules : RuleLines) (value : Board → Value) (bytes : List ℕ)
    → IsFormerFile text rules value bytes → (side : Colour) (new : List ℕ)
    → AreMoved rules.groups (codes_at side text (old_size_of rules.groups) bytes) new
    → IsTableOf rules value side new
table_moved text rules value bytes former side new h =
    let groups = rules.groups in
    let old : List ℕ = codes_at side text (old_size_of groups) bytes in
    record {
      many = h.many;
      broken = λ i below none. h.moved i below ∙ ap (moved_code groups old) none;
      bound = λ p i number.
          let tells = number_tells groups p i number in
          let has : HasNumber groups i p =
          record { member = member_of groups p tells.0; number = tells.1 } in
          let below : i < size_of groups = subst (λ n. n < size_of groups) has.number
          (Num_below groups p has.member) in
          let b = former.bound side p has.member in (
            b.0,
            h.moved i below ∙ ap (moved_code groups old) (position_of groups i p has) ∙ b.1,
            b.2,
          );
    }

module _ (contents : Contents) (bytes : List ℕ) where
  -- the rewritten file is there, and only one
  pub some_migrated : (new_bytes : List ℕ) × IsMigrated contents bytes new_bytes
  some_migrated =
      let groups = contents.rules.groups in
      let white = some_moved groups (former_codes contents bytes White) in
      let black = some_moved groups (former_codes contents bytes Black) in (
        file_of (magic_of Plain) contents.text (size_of groups) white.0 black.0,
        record {
          white = white.0;
          black = black.0;
          white_moved = white.1;
          black_moved = black.1;
          whole = refl;
        },
      )

  pub one_migrated : (new_bytes others : List ℕ) → IsMigrated contents bytes new_bytes
      → IsMigrated contents bytes others → others ≡ new_bytes
  one_migrated new_bytes others h k =
      let groups = contents.rules.groups in
      let size : ℕ = size_of groups in
      let white : k.white ≡ h.white = one_moved groups (former_codes contents bytes White) h.white
      k.white h.white_moved k.white_moved in
      let black : k.black ≡ h.black = one_moved groups (former_codes contents bytes Black) h.black
      k.black h.black_moved k.black_moved in
      k.whole ∙ ap (λ (l : List ℕ). file_of (magic_of Plain) contents.text size l k.black) white
      ∙ ap (λ (l : List ℕ). file_of (magic_of Plain) contents.text size h.white l) black
      ∙ sym h.whole

  -- of a former file of a text it is the one file of this text
  pub one_file_migrated : (value : Board → Value) (new_bytes : List ℕ)
      → IsFormerFile contents.text contents.rules value bytes
      → IsMigrated contents bytes new_bytes
      → IsOneFile (magic_of Plain) contents.text contents.rules value new_bytes
  one_file_migrated value new_bytes former h = record {
    white = h.white;
    black = h.black;
    white_table =
        table_moved contents.text contents.rules value bytes former White h.white h.white_moved;
    black_table =
        table_moved contents.text contents.rules value bytes former Black h.black h.black_moved;
    whole = h.whole;
  }
