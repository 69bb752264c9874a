-- Each move out of the set of king and pawn against king leads into that of what the pawn becomes.
use Rattle.std.proofs.Common.{◌≡◌, ◌≢◌, ◌≤◌, ◌<◌, ◌+◌, ◌/◌, ℕ, zero, suc, ◌⊎◌, inl, inr, Bool, true, not, ◌&&◌, List, [], ◌∷◌, refl, sym, subst, ap, ◌∙◌, arith, slice_index}
use Rattle.std.specs.Prelude.{◌==◌, count_by}
use Rattle.std.specs.List.{Contains, list_any, range_with_len}
use Rattle.std.proofs.lemmas.List.{get_or_past}
use Rattle.std.proofs.lemmas.Bool.{eqb-true, eq-eqb, cases_Bool, cases_lt, and_from}
use Rattle.frz_board.specs.declared.man.Colour.{Colour}
use Rattle.frz_board.specs.declared.man.Colour.TheVariants.{White, Black}
use Rattle.frz_board.specs.declared.man.Kind.{Kind}
use Rattle.frz_board.specs.declared.man.Kind.TheVariants.{King, Queen, Rook, Bishop, Knight, Pawn}
use Rattle.frz_board.specs.Attacking.{Stands}
use Rattle.frz_board.specs.Boards.{Board, has}
use Rattle.frz_board.specs.Men.{cell_of_man}
use Rattle.frz_board.specs.Shapes.{count_of, is_end, has_pawn, has_pawns_inside}
use Rattle.frz_board.specs.Squares.{squares, rank_of}
use Rattle.frz_board.proofs.Lemmas.{cell-some}
use Rattle.frz_fide.specs.Valid.{IsValid}
use Rattle.frz_fide.proofs.Lemmas.{only_legal, stayed, moved, came, same_man, one_of, kings_are}
use Rattle.frz_sets.specs.declared.exit.Value.{Value}
use Rattle.frz_sets.specs.Sets.{has_state, is_state}
use Rattle.frz_sets.specs.Views.{GroupLine}
use Rattle.frz_index.specs.Members.{Member}
use Rattle.frz_index.specs.Places.{IsWithinCount}
use Rattle.frz_index.proofs.Lemmas.{member_of, of_member}
use Rattle.frz_arena.specs.Exits.{IsExit}
use Rattle.frz_arena.proofs.Lemmas.{none_in_empty, first_in, later_in, in_cases}
use Rattle.frz_game.specs.Games.{game_of}
use Rattle.frz_game.specs.KingAndPawn.{white_king, black_king, white_pawn, white_officer, king_and_pawn, pawn_back}
use Rattle.frz_game.specs.TextsByMen.{has_kind}
use Rattle.frz_game.proofs.Elements.{or_first, or_second, mapped_there, number_in, some_in, any_in, all_pass}
use Rattle.frz_game.proofs.MenAlone.{exit_valid}
use Rattle.frz_game.proofs.MenCounted.{number, count_cons, count_mapped, count_squares, places_counted, places_of}
use Rattle.frz_game.proofs.MenWithin.{covered, none_counted, men_within}
use Rattle.frz_game.proofs.TextsByMen.{kind_there}
use Rattle.frz_game.proofs.WholeSets.{man_at, state_in}

-- numbers of a range
below_end : (a n s : ℕ) → Contains (range_with_len a n) s → s < a + n
below_end a zero s i = absurd (none_in_empty s i)
below_end a (suc n) s i =
    elim (in_cases a (range_with_len (a + 1) n) s i) [
      | inl same ↦ omega arith
      | inr j ↦ (let l = below_end (a + 1) n s j in omega arith)
    ]

none_from : (t : ℕ → Bool) (a n : ℕ) → ((r : ℕ) → a ≤ r → t r ≡ true → ⊥) →
    count_by t (range_with_len a n) ≡ 0
none_from t a zero none = refl
none_from t a (suc n) none =
    let first = count_cons t a (range_with_len (a + 1) n) in
    let rest = none_from t (a + 1) n (λ r h e. none r (omega arith) e) in
    elim (cases_Bool (t a)) [
      | inl e ↦ absurd (none a (omega arith) e)
      | inr e ↦ (let here = ap number e in omega (arith, first, rest, here))
    ]

-- one number alone passes the test
one_passes : (t : ℕ → Bool) (a n s : ℕ) → a ≤ s → s < a + n → t s ≡ true →
    ((r : ℕ) → t r ≡ true → r ≡ s) → count_by t (range_with_len a n) ≡ 1
one_passes t a zero s h l e alone = absurd (omega arith)
one_passes t a (suc n) s h l e alone =
    let first = count_cons t a (range_with_len (a + 1) n) in
    elim (cases_lt a s) [
      | inl less ↦ (
          let rest = one_passes t (a + 1) n s (omega arith) (omega arith) e alone in
          elim (cases_Bool (t a)) [
            | inl passes ↦ absurd (let same = alone a passes in omega arith)
            | inr fails ↦ (let here = ap number fails in omega (arith, first, rest, here))
          ])
      | inr least ↦ (
          let at : a ≡ s = omega arith in
          let here = ap number (ap t at ∙ e) in
          let rest = none_from t (a + 1) n (λ r above passes. (
          let same = alone r passes in omega arith)) in
          omega (arith, first, rest, here))
    ]

-- a state of a group of the set
in_group : (groups : List GroupLine) (g : GroupLine) → Contains groups g → (k : Kind) (s : ℕ) →
    Contains g.states (k, s) →
    has_state groups (cell_of_man (record { colour = g.colour; kind = k })) s ≡ true
in_group groups g i k s listed =
    let cell = cell_of_man (record { colour = g.colour; kind = k }) in
    any_in (is_state cell s) groups g i
    (any_in (λ (st : Kind × ℕ). cell_of_man (record { colour = g.colour; kind = st.0 }) == cell
    && st.1 == s) g.states (k, s) listed
    (and_from (cell == cell) (s == s) (eq-eqb cell cell refl) (eq-eqb s s refl)))

-- the set has kings and a pawn of White
kinds_there : (c : Colour) (k : Kind) → has_kind king_and_pawn.groups c k ≡ true →
    (k ≡ King) ⊎ ((c ≡ White) × (k ≡ Pawn))
unfolding squares
kinds_there White King h = inl refl
kinds_there White Queen h = absurd (cc)
kinds_there White Rook h = absurd (cc)
kinds_there White Bishop h = absurd (cc)
kinds_there White Knight h = absurd (cc)
kinds_there White Pawn h = inr (refl, refl)
kinds_there Black King h = inl refl
kinds_there Black Queen h = absurd (cc)
kinds_there Black Rook h = absurd (cc)
kinds_there Black Bishop h = absurd (cc)
kinds_there Black Knight h = absurd (cc)
kinds_there Black Pawn h = absurd (cc)

one_pawn : (p : Board) → Member king_and_pawn.groups p → count_of p White Pawn ≤ 1
unfolding squares
one_pawn p member = men_within king_and_pawn.groups p member White Pawn

module _ (value : Board → Value) (q : Board) (x : IsExit (game_of king_and_pawn value) q) where
  begins : Member king_and_pawn.groups x.from
  begins = member_of king_and_pawn.groups x.from x.begins

  valid : IsValid q
  valid = exit_valid king_and_pawn value q x

  -- where a man beside the kings comes from: the pawn stays, or has moved
  abbrev FromPawn : ℕ → Type 0
  FromPawn s =
      (Stands x.from White Pawn s × (s ≢ x.move.from))
      ⊎ (Stands x.from White Pawn x.move.from × (s ≡ x.move.to))

  from_pawn : (c : Colour) (k : Kind) (s : ℕ) → s < 64 → Stands q c k s → k ≢ King →
      (c ≡ White) × FromPawn s
  from_pawn c k s ls h n =
      let l = only_legal x.from x.move x.legal in
      let there = subst (λ (p : Board). Stands p c k s) (sym x.ends) h in
      elim (came x.from x.move begins.valid l.0 l.1 c k s there) [
        | stayed stood ne ↦
            elim (kinds_there c k (kind_there king_and_pawn.groups x.from begins c k s ls stood)) [
              | inl king ↦ absurd (n king)
              | inr pawn ↦ (
                pawn.0,
                inl (
                  subst (λ (d : Colour). Stands x.from d Pawn s) pawn.0
                      (subst (λ (j : Kind). Stands x.from c j s) pawn.1 stood),
                  ne,
                ),
              )
            ]
        | moved j own stood w to ↦
            elim (kinds_there c j
            (kind_there king_and_pawn.groups x.from begins c j x.move.from l.0.from stood)) [
              | inl king ↦ elim w [
                | inl same ↦ absurd (n (sym same ∙ king))
                | inr pawn ↦ absurd (let e = sym king ∙ pawn in cc)
              ]
              | inr pawn ↦ (
                pawn.0,
                inr (
                  subst (λ (d : Colour). Stands x.from d Pawn x.move.from) pawn.0
                      (subst (λ (i : Kind). Stands x.from c i x.move.from) pawn.1 stood),
                  to,
                ),
              )
            ]
      ]

  -- so beside the kings one man stands at most
  same_from : (s t : ℕ) → s < 64 → t < 64 → FromPawn s → FromPawn t → s ≡ t
  same_from s t ls lt (inl a) (inl b) =
      one_of x.from White Pawn s t begins.valid (one_pawn x.from begins) ls lt a.0 b.0
  same_from s t ls lt (inl a) (inr b) =
      let l = only_legal x.from x.move x.legal in
      absurd (a.1 (one_of x.from White Pawn s x.move.from begins.valid (one_pawn x.from begins) ls
      l.0.from a.0 b.0))
  same_from s t ls lt (inr a) (inl b) =
      let l = only_legal x.from x.move x.legal in
      absurd (b.1 (one_of x.from White Pawn t x.move.from begins.valid (one_pawn x.from begins) lt
      l.0.from b.0 a.0))
  same_from s t ls lt (inr a) (inr b) = a.1 ∙ sym b.1

  alone : (j k : Kind) (s t : ℕ) → s < 64 → t < 64 → Stands q White j s → Stands q White k t →
      j ≢ King → k ≢ King → s ≡ t
  alone j k s t ls lt e f nj nk =
      same_from s t ls lt (from_pawn White j s ls e nj).1 (from_pawn White k t lt f nk).1

  on_board : (c : Colour) (k : Kind) (s : ℕ) → has q c k s ≡ true → (s < 64) × Stands q c k s
  on_board c k s h =
      let cell = cell_of_man (record { colour = c; kind = k }) in
      let stands = eqb-true (slice_index q.cells s) cell h in
      elim (cases_lt s 64) [
        | inl less ↦ (less, stands)
        | inr more ↦ absurd (
            let size = valid.fits.size in
            let none = get_or_past q.cells s 0 (omega arith) in
            let some = cell-some c k in
            omega (arith, stands, none, some))
      ]

  king_count : (g : GroupLine) → g.states ≡ white_king.states → g.least ≡ 1 → g.most ≡ 1 →
      IsWithinCount q g
  king_count g states least most =
      let places = places_of q g (King ∷ []) valid.fits.size states in
      let one = kings_are q g.colour valid in
      record {
        least = omega (arith, places, one, least);
        most = omega (arith, places, one, most);
      }

  kings_covered : (groups : List GroupLine) → Contains groups white_king →
      Contains groups black_king → (c : Colour) (s : ℕ) → s < 64 →
      has_state groups (cell_of_man (record { colour = c; kind = King })) s ≡ true
  kings_covered groups w b White s ls =
      in_group groups white_king w King s (state_in (King ∷ []) King s (first_in King []) ls)
  kings_covered groups w b Black s ls =
      in_group groups black_king b King s (state_in (King ∷ []) King s (first_in King []) ls)

  -- a man of the kind, if one stands
  abbrev Someone : Kind → Type 0
  Someone k = (s : ℕ) × (s < 64) × Stands q White k s

  someone_or_none : (k : Kind) → Someone k ⊎ (count_of q White k ≡ 0)
  unfolding squares
  someone_or_none k =
      let t : ℕ → Bool = λ s. has q White k s in
      elim (cases_Bool (list_any t (range_with_len 0 64))) [
        | inl e ↦ (let w = some_in t (range_with_len 0 64) e in
            let on = on_board White k w.0 w.2 in inl (w.0, on.0, on.1))
        | inr e ↦ (
            let counted = count_squares q White k valid.fits.size in
            let none = none_counted t 0 64 (λ s h passes. (
            let there = number_in 0 64 s (omega arith) (omega arith) in
            let yes = any_in t (range_with_len 0 64) s there passes in cc)) in
            inr (omega (arith, counted, none)))
      ]

  -- of a kind beside the kings one man stands at most
  one_at_most : (k : Kind) → k ≢ King → count_of q White k ≤ 1
  unfolding squares
  one_at_most k n =
      elim (someone_or_none k) [
        | inr none ↦ omega arith
        | inl w ↦ (
            let counted = count_squares q White k valid.fits.size in
            let f : ℕ → Bool = λ s. true in
            let few = covered f (λ (s : ℕ). s) (w.0 ∷ []) (λ s. has q White k s) 64 (λ s ls h. (
              w.0,
              first_in w.0 [],
              refl,
              alone k k w.0 s w.1 ls w.2 (on_board White k s h).1 n n,
            )) in
            let one = count_cons f w.0 [] in
            omega (arith, counted, few, one))
      ]

  -- and not of two kinds
  not_both : (j k : Kind) → j ≢ King → k ≢ King → j ≢ k →
      count_of q White j + count_of q White k ≤ 1
  not_both j k nj nk n =
      let first = one_at_most j nj in
      let second = one_at_most k nk in
      elim (someone_or_none j) [
        | inr none ↦ omega (arith, none, second)
        | inl v ↦ elim (someone_or_none k) [
          | inr none ↦ omega (arith, none, first)
          | inl w ↦ absurd (
              let at = alone j k v.0 w.0 v.1 w.1 v.2 w.2 nj nk in
              n (same_man White White j k (sym v.2 ∙ ap (λ s. slice_index q.cells s) at ∙ w.2)).1)
        ]
      ]

  abbrev officers : List Kind
  officers = Queen ∷ Rook ∷ Bishop ∷ Knight ∷ []

  officer : (k : Kind) (s : ℕ) → Contains white_officer.states (k, s) →
      has_state pawn_back.groups (cell_of_man (record { colour = White; kind = k })) s ≡ true
  officer k s listed =
      in_group pawn_back.groups white_officer
      (later_in white_king (white_officer ∷ black_king ∷ []) white_officer
      (first_in white_officer (black_king ∷ []))) k s listed

  not_black : (k : Kind) (s : ℕ) → s < 64 → Stands q Black k s → k ≢ King → ⊥
  not_black k s ls h n = let e = (from_pawn Black k s ls h n).0 in cc

  -- with no pawn left, the position is in the set of what it may become
  officer_covered : ((s : ℕ) → s < 64 → Stands q White Pawn s → ⊥) → (c : Colour) (k : Kind)
      (s : ℕ) → s < 64 → Stands q c k s →
      has_state pawn_back.groups (cell_of_man (record { colour = c; kind = k })) s ≡ true
  officer_covered gone c King s ls h =
      kings_covered pawn_back.groups (first_in white_king (white_officer ∷ black_king ∷ []))
      (later_in white_king (white_officer ∷ black_king ∷ []) black_king
      (later_in white_officer (black_king ∷ []) black_king (first_in black_king []))) c s ls
  officer_covered gone Black Queen s ls h = absurd (not_black Queen s ls h (λ e. cc))
  officer_covered gone Black Rook s ls h = absurd (not_black Rook s ls h (λ e. cc))
  officer_covered gone Black Bishop s ls h = absurd (not_black Bishop s ls h (λ e. cc))
  officer_covered gone Black Knight s ls h = absurd (not_black Knight s ls h (λ e. cc))
  officer_covered gone Black Pawn s ls h = absurd (not_black Pawn s ls h (λ e. cc))
  officer_covered gone White Pawn s ls h = absurd (gone s ls h)
  officer_covered gone White Queen s ls h =
      officer Queen s (state_in officers Queen s (first_in Queen (Rook ∷ Bishop ∷ Knight ∷ [])) ls)
  officer_covered gone White Rook s ls h =
      officer Rook s (state_in officers Rook s
      (later_in Queen (Rook ∷ Bishop ∷ Knight ∷ []) Rook (first_in Rook (Bishop ∷ Knight ∷ []))) ls)
  officer_covered gone White Bishop s ls h =
      officer Bishop s (state_in officers Bishop s
      (later_in Queen (Rook ∷ Bishop ∷ Knight ∷ []) Bishop
      (later_in Rook (Bishop ∷ Knight ∷ []) Bishop (first_in Bishop (Knight ∷ [])))) ls)
  officer_covered gone White Knight s ls h =
      officer Knight s (state_in officers Knight s
      (later_in Queen (Rook ∷ Bishop ∷ Knight ∷ []) Knight
      (later_in Rook (Bishop ∷ Knight ∷ []) Knight
      (later_in Bishop (Knight ∷ []) Knight (first_in Knight [])))) ls)

  by_man : (groups : List GroupLine) →
      ((c : Colour) (k : Kind) (s : ℕ) → s < 64 → Stands q c k s →
      has_state groups (cell_of_man (record { colour = c; kind = k })) s ≡ true) →
      (s : ℕ) → s < 64 → slice_index q.cells s ≢ 0 →
      has_state groups (slice_index q.cells s) s ≡ true
  by_man groups each s ls some =
      let size = valid.fits.size in
      let man = man_at (slice_index q.cells s) some (valid.fits.men s 0 (omega arith)) in
      subst (λ z. has_state groups z s ≡ true) (sym man.2) (each man.0 man.1 s ls man.2)

  in_back : ((s : ℕ) → s < 64 → Stands q White Pawn s → ⊥) → Member pawn_back.groups q
  in_back gone =
      let places = places_of q white_officer officers valid.fits.size refl in
      let qr = not_both Queen Rook (λ e. cc) (λ e. cc) (λ e. cc) in
      let qb = not_both Queen Bishop (λ e. cc) (λ e. cc) (λ e. cc) in
      let qn = not_both Queen Knight (λ e. cc) (λ e. cc) (λ e. cc) in
      let rb = not_both Rook Bishop (λ e. cc) (λ e. cc) (λ e. cc) in
      let rn = not_both Rook Knight (λ e. cc) (λ e. cc) (λ e. cc) in
      let bn = not_both Bishop Knight (λ e. cc) (λ e. cc) (λ e. cc) in
      record {
        valid = valid;
        men = by_man pawn_back.groups (officer_covered gone);
        counts = (
          king_count white_king refl refl refl,
          (
            record {
              least = omega arith;
              most = omega (arith, places, qr, qb, qn, rb, rn, bn);
            },
            (king_count black_king refl refl refl, tt),
          ),
        );
      }

  -- with the pawn there, the position is in the set itself
  not_end : (s : ℕ) → s < 64 → Stands q White Pawn s → is_end s ≡ true → ⊥
  unfolding has_pawns_inside squares
  not_end s ls h end =
      let cell = cell_of_man (record { colour = White; kind = Pawn }) in
      let has_it = or_first (has q White Pawn s) (has q Black Pawn s)
      (eq-eqb (slice_index q.cells s) cell h) in
      let both = and_from (is_end s) (has_pawn q s) end has_it in
      let none = all_pass (λ z. not (is_end z && has_pawn q z)) (range_with_len 0 64) s
      (number_in 0 64 s (omega arith) (omega arith)) valid.pawns in
      let no : not true ≡ true = ap not (sym both) ∙ none in
      cc

  pawn_inside : (s : ℕ) → s < 64 → Stands q White Pawn s → (8 ≤ s) × (s < 56)
  pawn_inside s ls h =
      elim (cases_lt s 8) [
        | inl low ↦ absurd (not_end s ls h (or_first (rank_of s == 0) (rank_of s == 7)
            (eq-eqb (s / 8) 0 (omega arith))))
        | inr above ↦ elim (cases_lt s 56) [
          | inl below ↦ (above, below)
          | inr high ↦ absurd (not_end s ls h (or_second (rank_of s == 0) (rank_of s == 7)
              (eq-eqb (s / 8) 7 (omega arith))))
        ]
      ]

  module _ (s : ℕ) (ls : s < 64) (pawn : Stands q White Pawn s) where
    pawn_state : Contains white_pawn.states (Pawn, s)
    pawn_state =
        let inside = pawn_inside s ls pawn in
        mapped_there (λ (z : ℕ). (Pawn, z)) (range_with_len 8 48) s
        (number_in 8 48 s inside.0 (let l = inside.1 in omega arith))

    -- a man beside the kings is the pawn
    beside : (c : Colour) (k : Kind) (t : ℕ) → t < 64 → Stands q c k t → k ≢ King →
        has_state king_and_pawn.groups (cell_of_man (record { colour = c; kind = k })) t ≡ true
    beside c k t lt h n =
        let own = (from_pawn c k t lt h n).0 in
        let mine : Stands q White k t = subst (λ (d : Colour). Stands q d k t) own h in
        let at = alone k Pawn t s lt ls mine pawn n (λ e. cc) in
        let pawn_cell = cell_of_man (record { colour = White; kind = Pawn }) in
        let cell : cell_of_man (record { colour = c; kind = k }) ≡ pawn_cell =
        sym h ∙ ap (λ z. slice_index q.cells z) at ∙ pawn in
        let there = in_group king_and_pawn.groups white_pawn
        (later_in white_king (white_pawn ∷ black_king ∷ []) white_pawn
        (first_in white_pawn (black_king ∷ []))) Pawn s pawn_state in
        subst (λ z. has_state king_and_pawn.groups z t ≡ true) (sym cell)
        (subst (λ z. has_state king_and_pawn.groups pawn_cell z ≡ true) (sym at) there)

    pawn_covered : (c : Colour) (k : Kind) (t : ℕ) → t < 64 → Stands q c k t →
        has_state king_and_pawn.groups (cell_of_man (record { colour = c; kind = k })) t ≡ true
    pawn_covered c King t lt h =
        kings_covered king_and_pawn.groups (first_in white_king (white_pawn ∷ black_king ∷ []))
        (later_in white_king (white_pawn ∷ black_king ∷ []) black_king
        (later_in white_pawn (black_king ∷ []) black_king (first_in black_king []))) c t lt
    pawn_covered c Queen t lt h = beside c Queen t lt h (λ e. cc)
    pawn_covered c Rook t lt h = beside c Rook t lt h (λ e. cc)
    pawn_covered c Bishop t lt h = beside c Bishop t lt h (λ e. cc)
    pawn_covered c Knight t lt h = beside c Knight t lt h (λ e. cc)
    pawn_covered c Pawn t lt h = beside c Pawn t lt h (λ e. cc)

    in_set : Member king_and_pawn.groups q
    in_set =
        let places = places_counted q white_pawn in
        let mapped = count_mapped (λ (st : Kind × ℕ). has q White st.0 st.1)
        (λ (z : ℕ). (Pawn, z)) (range_with_len 8 48) in
        let inside = pawn_inside s ls pawn in
        let one = one_passes (λ z. has q White Pawn z) 8 48 s inside.0
        (let l = inside.1 in omega arith)
        (eq-eqb (slice_index q.cells s) (cell_of_man (record { colour = White; kind = Pawn })) pawn)
        (λ r h. (let on = on_board White Pawn r h in
        alone Pawn Pawn r s on.0 ls on.1 pawn (λ e. cc) (λ e. cc))) in
        record {
          valid = valid;
          men = by_man king_and_pawn.groups pawn_covered;
          counts = (
            king_count white_king refl refl refl,
            (
              record {
                least = omega (arith, places, mapped, one);
                most = omega (arith, places, mapped, one);
              },
              (king_count black_king refl refl refl, tt),
            ),
          );
        }

  no_pawn_left : (s : ℕ) → s < 64 → Stands q White Pawn s → ⊥
  no_pawn_left s ls pawn =
      let inside = of_member king_and_pawn.groups q (in_set s ls pawn) in
      let outside = x.outside in cc

  pub leads_into_back : Member pawn_back.groups q
  leads_into_back = in_back no_pawn_left
