-- The exits that are listed are the positions one legal move outside the set.
use Rattle.std.proofs.Common.{◌≡◌, ℕ, Bool, true, not, List, map, Option, Some, None, refl, sym, subst, arith}
use Rattle.std.specs.List.{Contains, range_with_len}
use Rattle.std.proofs.lemmas.Bool.{not-true, not_from_false}
use Rattle.frz_board.specs.Boards.{Board}
use Rattle.frz_board.specs.Moving.{Step}
use Rattle.frz_fide.specs.Legal.{after}
use Rattle.frz_fide.specs.Listing.{legal_moves_of}
use Rattle.frz_sets.specs.declared.exit.Value.{Value}
use Rattle.frz_sets.specs.Sets.{size_of}
use Rattle.frz_sets.specs.Views.{GroupLine, RuleLines}
use Rattle.frz_index.specs.Members.{Num}
use Rattle.frz_index.specs.Membership.{is_member, position_at}
use Rattle.frz_index.proofs.Lemmas.{member_of, of_member, position_of, position_tells, Num_below}
use Rattle.frz_arena.specs.Exits.{IsExit}
use Rattle.frz_arena.proofs.Lemmas.{none_in_empty}
use Rattle.frz_game.specs.Games.{game_of}
use Rattle.frz_premises.specs.WaysOut.{outside_after, outside_at, outside_of, outside_on}
use Rattle.frz_premises.proofs.InLists.{in_filter, in_flat_map, in_map, in_range, of_filter, of_flat_map, of_map}

-- the test by which the ways out are kept
abbrev is_out : List GroupLine → Board → Bool
is_out groups q = not (is_member groups q)

pub exits_are_listed : (rules : RuleLines) (value : Board → Value) (q : Board) →
    IsExit (game_of rules value) q → Contains (outside_of rules.groups) q
exits_are_listed rules value q x =
    let groups = rules.groups in
    let p = x.from in
    let n : ℕ = Num groups p in
    let member = member_of groups p x.begins in
    let at_p : position_at groups n ≡ Some p =
    position_of groups n p (record { member = member; number = refl }) in
    let after_p : Contains (map (λ m. after p m) (legal_moves_of p)) q =
    subst (λ (z : Board). Contains (map (λ m. after p m) (legal_moves_of p)) z) x.ends
    (in_map (λ (m : Step). after p m) (legal_moves_of p) x.move x.legal) in
    let out : Contains (outside_after groups p) q =
    in_filter (is_out groups) (map (λ m. after p m) (legal_moves_of p)) q after_p
    (not_from_false (is_member groups q) x.outside) in
    in_flat_map (outside_at groups) (range_with_len 0 (size_of groups)) n q
    (in_range 0 (size_of groups) n (omega arith) (let l = Num_below groups p member in omega arith))
    (subst (λ (o : Option Board). Contains (outside_on groups o) q) (sym at_p) out)

unlisted_on : (groups : List GroupLine) (i : ℕ) (q : Board) (o : Option Board) →
    position_at groups i ≡ o → Contains (outside_on groups o) q →
    (p : Board) × (is_member groups p ≡ true) × Contains (outside_after groups p) q
unlisted_on groups i q None e h = absurd (none_in_empty q h)
unlisted_on groups i q (Some p) e h =
    (p, of_member groups p (position_tells groups i p e).member, h)

pub listed_are_exits : (rules : RuleLines) (value : Board → Value) (q : Board) →
    Contains (outside_of rules.groups) q → IsExit (game_of rules value) q
listed_are_exits rules value q h =
    let groups = rules.groups in
    let number = of_flat_map (outside_at groups) (range_with_len 0 (size_of groups)) q h in
    let from = unlisted_on groups number.0 q (position_at groups number.0) refl number.2 in
    let p = from.0 in
    let out = of_filter (is_out groups) (map (λ m. after p m) (legal_moves_of p)) q from.2 in
    let move = of_map (λ (m : Step). after p m) (legal_moves_of p) q out.0 in
    record {
      from = p;
      move = move.0;
      begins = from.1;
      legal = move.1;
      ends = move.2;
      outside = not-true (is_member groups q) out.1;
    }
