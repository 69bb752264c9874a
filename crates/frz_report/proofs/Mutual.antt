-- Where the outcomes of both tables are those of chess, their squeezes are the mutual zugzwangs.
use Rattle.std.proofs.Common.{◌≡◌, ◌<◌, ◌≤◌, ◌==◌, ◌↔◌, ℕ, ◌⊎◌, inl, inr, List, Bool, true, false, cond, refl, sym, subst, ap, ◌∙◌, arith}
use Rattle.std.specs.Prelude.{slice_index, Contains}
use Rattle.std.proofs.lemmas.Bool.{cases_Bool, cases_lt, eqb-true}
use Rattle.frz_board.specs.declared.man.Colour.{Colour}
use Rattle.frz_board.specs.declared.man.Colour.TheVariants.{White, Black}
use Rattle.frz_board.specs.Boards.{Board}
use Rattle.frz_board.specs.Men.{other_of}
use Rattle.frz_sets.specs.Views.{RuleLines}
use Rattle.frz_index.specs.Members.{Member, Num}
use Rattle.frz_arena.specs.Chess.{NeverForcesMate}
use Rattle.frz_arena.specs.Codes.{is_failure, is_win}
use Rattle.frz_arena.specs.WholeTruth.{CanForceMate}
use Rattle.frz_arena.proofs.Lemmas.{win_and_failure}
use Rattle.frz_game.specs.ExactTables.{HasExactOutcomes}
use Rattle.frz_game.specs.Games.{chess}
use Rattle.frz_report.specs.Mutual.{IsMutual}
use Rattle.frz_report.specs.Squeezes.{Squeeze, IsSqueeze, rank_of, rank_at, squeezes}
use Rattle.frz_report.specs.Zugzwangs.{IsZugzwang}
use Rattle.frz_report.proofs.Squeezing.{squeezes_exact}

-- the rank of a code, by what the code is
rank_won : (c : ℕ) → is_win c ≡ true → rank_of c ≡ 2
rank_won c won = rw won refl

at_most_one : (b : Bool) → cond b 1 0 < 2
at_most_one true = omega arith
at_most_one false = omega arith

rank_not_won : (c : ℕ) → is_win c ≡ false → rank_of c < 2
rank_not_won c f = rw f (at_most_one (c == 1))

rank_lost : (c : ℕ) → is_failure c ≡ true → rank_of c ≡ 0
rank_lost c lost = elim (cases_Bool (is_win c)) [
  | inl t ↦ absurd (win_and_failure c t lost)
  | inr f ↦ elim (cases_Bool (c == 1)) [
    | inl one ↦ absurd (
        let fails : is_failure 1 ≡ true =
        subst (λ n. is_failure n ≡ true) (eqb-true c 1 one) lost in cc)
    | inr g ↦ rw (f, g) refl
  ]
]

rank_most : (c : ℕ) → rank_of c ≤ 2
rank_most c = elim (cases_Bool (is_win c)) [
  | inl t ↦ (let e = rank_won c t in omega arith)
  | inr f ↦ (let low = rank_not_won c f in omega arith)
]

above_or_at : (r : ℕ) → r ≤ 2 → (r ≡ 2) ⊎ (r < 2)
above_or_at r most = elim (cases_lt r 2) [
  | inl low ↦ inr low
  | inr high ↦ inl (omega arith)
]

rank_held : (c : ℕ) → c ≡ 1 → rank_of c ≡ 1
rank_held c e = rw e refl

module _ (rules : RuleLines) (codes : Colour → List ℕ)
    (exact : (side : Colour) → HasExactOutcomes rules side (codes side)) (side : Colour)
    (p : Board) (member : Member rules.groups p) (i : ℕ) (here : Num rules.groups p ≡ i) where
  abbrev code : ℕ
  code = slice_index (codes side) (Num rules.groups p)

  rank_here : rank_at codes side i ≡ rank_of code
  rank_here = ap (rank_at codes side) (sym here)

  -- where neither code says who wins, neither side forces mate
  dead_here : is_win code ≡ false → NeverForcesMate chess (other_of side) p → rank_of code ≡ 1
  dead_here f safe =
      rank_held code (((exact side).hold p member).1 (record {
        no_win = λ n mate. (let t = ((exact side).win p member).1 (n, mate) in cc);
        no_loss = safe;
      }))

  -- what chess says of the rank
  top : CanForceMate chess side p → rank_at codes side i ≡ 2
  top mate = rank_here ∙ rank_won code (((exact side).win p member).1 mate)

  below : NeverForcesMate chess side p → rank_at codes side i < 2
  below never =
      subst (λ n. n < 2) (sym rank_here) (elim (cases_Bool (is_win code)) [
        | inl t ↦ absurd (let mate = ((exact side).win p member).0 t in never mate.0 mate.1)
        | inr f ↦ rank_not_won code f
      ])

  bottom : CanForceMate chess (other_of side) p → rank_at codes side i ≡ 0
  bottom mate = rank_here ∙ rank_lost code (((exact side).failure p member).1 mate)

  above : NeverForcesMate chess (other_of side) p → 0 < rank_at codes side i
  above never =
      subst (λ n. 0 < n) (sym rank_here) (elim (cases_Bool (is_win code)) [
        | inl t ↦ (let e = rank_won code t in omega arith)
        | inr f ↦ (let e = dead_here f never in omega arith)
      ])

  -- and the rank of chess
  not_top : rank_at codes side i < 2 → NeverForcesMate chess side p
  not_top low n mate = let e = top (n, mate) in omega arith

  not_bottom : 0 < rank_at codes side i → NeverForcesMate chess (other_of side) p
  not_bottom high n mate = let e = bottom (n, mate) in omega arith

  at_top : rank_at codes side i ≡ 2 → CanForceMate chess side p
  at_top e = elim (cases_Bool (is_win code)) [
    | inl t ↦ ((exact side).win p member).0 t
    | inr f ↦ absurd (let low = rank_not_won code f in let same = rank_here in omega arith)
  ]

  at_bottom : rank_at codes side i ≡ 0 → CanForceMate chess (other_of side) p
  at_bottom e = elim (cases_Bool (is_failure code)) [
    | inl t ↦ ((exact side).failure p member).0 t
    | inr f ↦ absurd (
        let never : NeverForcesMate chess (other_of side) p =
        λ n mate. (let t = ((exact side).failure p member).1 (n, mate) in cc) in
        let high = above never in omega arith)
  ]

module _ (rules : RuleLines) (codes : Colour → List ℕ)
    (exact : (side : Colour) → HasExactOutcomes rules side (codes side)) (s : Squeeze) where
  zugzwang_of : (squeeze : IsSqueeze rules.groups codes s)
      → IsZugzwang White squeeze.other s.position ⊎ IsZugzwang Black s.position squeeze.other
  zugzwang_of squeeze =
      let first = squeeze.first_is in
      let second = squeeze.second_is in
      let worse = squeeze.white_worse in
      elim (above_or_at (rank_at codes White s.black_to_move) (rank_most (slice_index (codes White) s.black_to_move))) [
        | inl e ↦ inl (record {
          same_men = squeeze.same_men;
          their_turn = squeeze.black_second;
          my_turn = squeeze.white_first;
          forced = at_top rules codes exact White squeeze.other second.member s.black_to_move
              second.number e;
          unforced = not_top rules codes exact White s.position first.member s.white_to_move
              first.number (omega arith);
        })
        | inr low ↦ inr (record {
          same_men = sym squeeze.same_men;
          their_turn = squeeze.white_first;
          my_turn = squeeze.black_second;
          forced = at_bottom rules codes exact White s.position first.member s.white_to_move
              first.number (omega arith);
          unforced = not_bottom rules codes exact White squeeze.other second.member
              s.black_to_move second.number (omega arith);
        })
      ]

  mutual_of : IsSqueeze rules.groups codes s → IsMutual rules.groups s
  mutual_of squeeze = record {
    other = squeeze.other;
    first_is = squeeze.first_is;
    second_is = squeeze.second_is;
    no_target = squeeze.no_target;
    no_other_target = squeeze.no_other_target;
    zugzwang = zugzwang_of squeeze;
  }

  squeeze_by : (m : IsMutual rules.groups s) → m.other.cells ≡ s.position.cells
      → s.position.turn ≡ White → m.other.turn ≡ Black
      → rank_at codes White s.white_to_move < rank_at codes White s.black_to_move
      → rank_at codes Black s.black_to_move < rank_at codes Black s.white_to_move
      → IsSqueeze rules.groups codes s
  squeeze_by m men white black worse blacks = record {
    other = m.other;
    first_is = m.first_is;
    second_is = m.second_is;
    same_men = men;
    white_first = white;
    black_second = black;
    no_target = m.no_target;
    no_other_target = m.no_other_target;
    white_worse = worse;
    black_worse = blacks;
  }

  squeeze_of : IsMutual rules.groups s → IsSqueeze rules.groups codes s
  squeeze_of m =
      let first = m.first_is in
      let second = m.second_is in
      let w = s.white_to_move in
      let b = s.black_to_move in
      elim m.zugzwang [
        | inl z ↦ squeeze_by m z.same_men z.my_turn z.their_turn
            (let low = below rules codes exact White s.position first.member w first.number
            z.unforced in
            let high = top rules codes exact White m.other second.member b second.number z.forced in
            omega arith)
            (let low = bottom rules codes exact Black m.other second.member b second.number
            z.forced in
            let high = above rules codes exact Black s.position first.member w first.number
            z.unforced in
            omega arith)
        | inr z ↦ squeeze_by m (sym z.same_men) z.their_turn z.my_turn
            (let low = bottom rules codes exact White s.position first.member w first.number
            z.forced in
            let high = above rules codes exact White m.other second.member b second.number
            z.unforced in
            omega arith)
            (let low = below rules codes exact Black m.other second.member b second.number
            z.unforced in
            let high = top rules codes exact Black s.position first.member w first.number
            z.forced in
            omega arith)
      ]

  pub exactly_mutual : Contains (squeezes rules.groups codes) s ↔ IsMutual rules.groups s
  exactly_mutual =
      let listed = squeezes_exact rules.groups codes s in
      (λ h. mutual_of (listed.0 h), λ m. listed.1 (squeeze_of m))
