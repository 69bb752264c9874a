-- A value that the men on the board show is true.
use Rattle.std.proofs.Common.{◌≡◌, ◌≢◌, ◌≤◌, ◌+◌, ◌==◌, ◌&&◌, ◌||◌, ℕ, inl, inr, true, false, refl, sym, subst, ap, ◌∙◌, arith}
use Rattle.std.specs.Prelude.{nat_le, if◌then◌else◌}
use Rattle.std.specs.List.{Contains}
use Rattle.std.proofs.lemmas.Bool.{and_parts, cases_Bool, eqb-true, leb-true, or_cases}
use Rattle.frz_board.specs.declared.man.Colour.{Colour}
use Rattle.frz_board.specs.declared.man.Colour.TheVariants.{White, Black}
use Rattle.frz_board.specs.declared.man.Kind.{Kind}
use Rattle.frz_board.specs.declared.man.Kind.TheVariants.{King, Queen, Rook, Bishop, Knight, Pawn}
use Rattle.frz_board.specs.Boards.{Board}
use Rattle.frz_board.specs.Shapes.{count_of}
use Rattle.frz_fide.specs.Bare.{IsBare, HasOneMinor}
use Rattle.frz_fide.specs.Valid.{IsValid}
use Rattle.frz_fide.proofs.Lemmas.{bare_by_counts, minor_by_counts, only_legal, valid_after}
use Rattle.frz_sets.specs.declared.exit.Value.{Value}
use Rattle.frz_sets.specs.declared.exit.Value.TheVariants.{WhiteWins, BlackWins, Draw, WhiteHolds, BlackHolds, Unknown, WhiteWinsIn, BlackWinsIn}
use Rattle.frz_sets.specs.Views.{RuleLines}
use Rattle.frz_index.specs.Membership.{is_member}
use Rattle.frz_index.proofs.Lemmas.{member_of}
use Rattle.frz_arena.specs.Exits.{IsExit}
use Rattle.frz_game.specs.Games.{game_of}
use Rattle.frz_game.specs.MenAlone.{HasDeadMen, IsTrueByMen}
use Rattle.frz_game.specs.Values.{IsTrueValue}
use Rattle.frz_game.proofs.Lemmas.{exits_by_men}
use Rattle.frz_premises.specs.Men.{has_dead_men, has_minors, has_no_major, has_one_minor, is_bare, men_show}

-- the counts of the men that are left out
pub record HasNoMajor (p : Board) (c : Colour) : Type 0 where
  pub queens : count_of p c Queen ≡ 0
  pub rooks : count_of p c Rook ≡ 0
  pub pawns : count_of p c Pawn ≡ 0

no_major : (p : Board) (c : Colour) → has_no_major p c ≡ true → HasNoMajor p c
no_major p c h =
    let first = and_parts (count_of p c Queen == 0)
    ((count_of p c Rook == 0) && (count_of p c Pawn == 0)) h in
    let rest = and_parts (count_of p c Rook == 0) (count_of p c Pawn == 0) first.1 in
    record {
      queens = eqb-true (count_of p c Queen) 0 first.0;
      rooks = eqb-true (count_of p c Rook) 0 rest.0;
      pawns = eqb-true (count_of p c Pawn) 0 rest.1;
    }

few_minors : (p : Board) (c : Colour) (bishops knights : ℕ)
    → has_minors p c bishops knights ≡ true
    → (count_of p c Bishop ≤ bishops) × (count_of p c Knight ≤ knights)
few_minors p c bishops knights h =
    let parts = and_parts (nat_le (count_of p c Bishop) bishops)
    (nat_le (count_of p c Knight) knights) h in
    (leb-true (count_of p c Bishop) bishops parts.0, leb-true (count_of p c Knight) knights parts.1)

king_alone : (p : Board) (c : Colour) → HasNoMajor p c → count_of p c Bishop ≤ 0 →
    count_of p c Knight ≤ 0 → (k : Kind) → k ≢ King → count_of p c k ≡ 0
king_alone p c none bishops knights King n = absurd (n refl)
king_alone p c none bishops knights Queen n = none.queens
king_alone p c none bishops knights Rook n = none.rooks
king_alone p c none bishops knights Bishop n = omega arith
king_alone p c none bishops knights Knight n = omega arith
king_alone p c none bishops knights Pawn n = none.pawns

bare : (p : Board) (c : Colour) → IsValid p → is_bare p c ≡ true → IsBare p c
unfolding is_bare
bare p c valid h =
    let parts = and_parts (has_no_major p c) (has_minors p c 0 0) h in
    let few = few_minors p c 0 0 parts.1 in
    bare_by_counts p c valid (king_alone p c (no_major p c parts.0) few.0 few.1)

minor : (p : Board) (c : Colour) → IsValid p → has_one_minor p c ≡ true → HasOneMinor p c
unfolding has_one_minor
minor p c valid h =
    let parts = and_parts (has_no_major p c) (has_minors p c 1 0 || has_minors p c 0 1) h in
    let none = no_major p c parts.0 in
    let few : count_of p c Bishop + count_of p c Knight ≤ 1 =
    elim (or_cases (has_minors p c 1 0) (has_minors p c 0 1) parts.1) [
      | inl bishop ↦ (let most = few_minors p c 1 0 bishop in omega (arith, most.0, most.1))
      | inr knight ↦ (let most = few_minors p c 0 1 knight in omega (arith, most.0, most.1))
    ] in
    minor_by_counts p c valid none.queens none.rooks none.pawns few

dead : (p : Board) → IsValid p → has_dead_men p ≡ true → HasDeadMen p
unfolding has_dead_men
dead p valid h =
    elim (or_cases (is_bare p White && has_one_minor p Black)
    (is_bare p Black && has_one_minor p White) h) [
      | inl white ↦ (let parts = and_parts (is_bare p White) (has_one_minor p Black) white in
          record {
            side = White;
            bare = bare p White valid parts.0;
            minor = minor p Black valid parts.1;
          })
      | inr black ↦ (let parts = and_parts (is_bare p Black) (has_one_minor p White) black in
          record {
            side = Black;
            bare = bare p Black valid parts.0;
            minor = minor p White valid parts.1;
          })
    ]

by_men : (v : Value) (q : Board) → IsValid q → men_show v q ≡ true → IsTrueByMen v q
by_men Draw q valid h = dead q valid h
by_men WhiteHolds q valid h = bare q Black valid h
by_men BlackHolds q valid h = bare q White valid h
by_men Unknown q valid h = tt
by_men WhiteWins q valid h = absurd (cc)
by_men BlackWins q valid h = absurd (cc)
by_men (WhiteWinsIn n) q valid h = absurd (cc)
by_men (BlackWinsIn n) q valid h = absurd (cc)

-- an exit is a valid position
pub exit_valid : (rules : RuleLines) (value : Board → Value) (q : Board) →
    IsExit (game_of rules value) q → IsValid q
exit_valid rules value q x =
    let l = only_legal x.from x.move x.legal in
    let v = (member_of rules.groups x.from x.begins).valid in
    subst IsValid x.ends (valid_after x.from x.move v l.0.to l.1)

-- the value where the men show it, and else unknown
abbrev where_shown : Value → Board → Value
where_shown v q = if men_show v q then v else Unknown

shown_by_men : (v : Value) (q : Board) → IsValid q → IsTrueByMen (where_shown v q) q
shown_by_men v q valid = elim (cases_Bool (men_show v q)) [
  | inl shown ↦ rw shown (by_men v q valid shown)
  | inr hidden ↦ rw hidden tt
]

-- at an exit a value that the men show is true
pub men_true : (rules : RuleLines) (value : Board → Value) (v : Value) (q : Board) →
    IsExit (game_of rules value) q → men_show v q ≡ true → IsTrueValue v q
men_true rules value v q x shown =
    let exits = exits_by_men rules (where_shown v)
    (λ z out. shown_by_men v z (exit_valid rules (where_shown v) z out)) in
    let there = exits x.from x.move x.begins x.legal
    (subst (λ (z : Board). is_member rules.groups z ≡ false) (sym x.ends) x.outside) in
    let here : IsTrueValue (where_shown v q) q =
    subst (λ (z : Board). IsTrueValue (where_shown v z) z) x.ends there in
    let same : where_shown v q ≡ v = rw shown refl in
    subst (λ (w : Value). IsTrueValue w q) same here
