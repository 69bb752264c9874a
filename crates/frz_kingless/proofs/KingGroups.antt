-- On a board with kings each group of kings has its king, and each man a group.
use Rattle.std.proofs.Common.{◌≡◌, ◌≢◌, ℕ, ◌+◌, ◌<◌, zero, suc, Bool, true, false, not, ◌&&◌, cond, Option, None, Some, List, [], ◌∷◌, ◌++◌, length, map, slice_index, refl, ap, sym, ◌∙◌, arith, inl, inr}
use Rattle.std.specs.Prelude.{◌==◌}
use Rattle.std.specs.List.{AllByRecursion, slice_get}
use Rattle.std.proofs.lemmas.Bool.{cases_Bool, cases_eq, and_from, and_parts, eq-eqb, or_left, or_right, or_cases}
use Rattle.std.proofs.lemmas.List.Folds.{list_any_at}
use Rattle.std.proofs.lemmas.Option.{get_or_from_slice_get, same_Some, slice_get_within}
use Rattle.frz_board.specs.declared.man.Colour.{Colour}
use Rattle.frz_board.specs.declared.man.Colour.TheVariants.{White, Black}
use Rattle.frz_board.specs.declared.man.Kind.{Kind}
use Rattle.frz_board.specs.declared.man.Kind.TheVariants.{King}
use Rattle.frz_board.specs.Boards.{Board, has}
use Rattle.frz_board.specs.Men.{cell_of_man, same_colour}
use Rattle.frz_fide.specs.Valid.{IsValid}
use Rattle.frz_fide.proofs.Lemmas.{kings_are, one_place as one_man, same_side}
use Rattle.frz_combinations.specs.Combinations.{places_below}
use Rattle.frz_combinations.specs.MixedRadix.{value}
use Rattle.frz_sets.specs.Groups.{state_number}
use Rattle.frz_sets.specs.Sets.{has_state, is_state}
use Rattle.frz_sets.specs.Sound.{AreIncreasingFrom, AreSoundAfter, AreStates, IsSound}
use Rattle.frz_sets.specs.Views.{GroupLine, RuleLines}
use Rattle.frz_index.specs.Members.{HasNumber, Member, Num}
use Rattle.frz_index.specs.Places.{IsWithinCount, digit_of, places, stands}
use Rattle.frz_index.specs.TurnStates.{turn_number}
use Rattle.frz_index.proofs.Lemmas.{digits_are, turn_fits}
use Rattle.frz_configurations.specs.Configurations.{IsSplit, has_kings, king_state, other_radices, others}
use Rattle.frz_configurations.specs.Joined.{HasKing, IsKingSquare}
use Rattle.frz_configurations.proofs.Lemmas.{IsKingly, king_found, king_squares, kingly, one_number, one_place, other_digits-map, state_is}
use Rattle.frz_king_planes.specs.Kings.{are_free, king_cell, king_square, with_kings}
use Rattle.frz_king_planes.proofs.Lemmas.{crowned}
use Rattle.frz_kingless.specs.Boards.{IsBoardOf}
use Rattle.frz_kingless.proofs.OtherMen.{counted_alike, digits_alike}

none_below : (f : ℕ → Bool) (n : ℕ) → ((k : ℕ) → k < n → f k ≡ true → ⊥) → places_below f n ≡ []
none_below f zero h = refl
none_below f (suc n) h =
    let either : (t : Bool) → f n ≡ t → cond t (n ∷ places_below f n) (places_below f n) ≡ [] =
    λ t. elim t as (λ t. f n ≡ t → cond t (n ∷ places_below f n) (places_below f n) ≡ []) [
      | true ↦ λ e. absurd (h n (omega arith) e)
      | false ↦ λ e. none_below f n (λ k l. h k (omega arith))
    ] in
    either (f n) refl

-- where one place alone passes, one is listed
one_listed : (f : ℕ → Bool) (n m : ℕ) → m < n → f m ≡ true →
    ((k : ℕ) → k < n → f k ≡ true → k ≡ m) → length (places_below f n) ≡ 1
one_listed f zero m l e h = absurd (omega arith)
one_listed f (suc n) m l e h =
    let either : (t : Bool) → f n ≡ t →
    length (cond t (n ∷ places_below f n) (places_below f n)) ≡ 1 =
    λ t. elim t as (λ t. f n ≡ t →
    length (cond t (n ∷ places_below f n) (places_below f n)) ≡ 1) [
      | true ↦ λ x.
          let here = h n (omega arith) x in
          let none = none_below f n (λ k i y. let there = h k (omega arith) y in
          absurd (omega arith)) in
          ap (λ cs. length (n ∷ cs)) none
      | false ↦ λ x.
          elim (cases_eq n m) [
            | inl s ↦ absurd (let yes = ap f s ∙ e in cc)
            | inr ne ↦ one_listed f n m (omega arith) e (λ k i. h k (omega arith))
          ]
    ] in
    either (f n) refl

-- a position's king of a colour stands on one square
pub one_king : (q : Board) (c : Colour) (s t : ℕ) → IsValid q → s < 64 → t < 64 →
    has q c King s ≡ true → has q c King t ≡ true → s ≡ t
one_king q c s t v ls lt hs ht =
    let size = v.fits.size in
    let one = kings_are q c v in
    one_man (λ x. x == cell_of_man (record { colour = c; kind = King })) q.cells s t
    (omega arith) (omega arith) (omega arith) hs ht

-- the king that digits give has a state of a group
pub king_known : (c : Colour) (s : ℕ) (gs : List GroupLine) (ds : List ℕ) →
    king_state c gs ds ≡ Some (King, s) → has_state gs (king_cell c) s ≡ true
king_known c s [] ds e = absurd cc
king_known c s (g ∷ gs) [] e = absurd cc
king_known c s (g ∷ gs) (d ∷ ds) e =
    let either : (t : Bool) → (same_colour g.colour c && has_kings g) ≡ t →
    cond t (slice_get g.states d) (king_state c gs ds) ≡ Some (King, s) →
    has_state (g ∷ gs) (king_cell c) s ≡ true =
    λ t. elim t as (λ t. (same_colour g.colour c && has_kings g) ≡ t →
    cond t (slice_get g.states d) (king_state c gs ds) ≡ Some (King, s) →
    has_state (g ∷ gs) (king_cell c) s ≡ true) [
      | true ↦ λ h k.
          let colour = same_side g.colour c (and_parts (same_colour g.colour c) (has_kings g) h).0 in
          let state : Kind × ℕ = (King, s) in
          let test : Kind × ℕ → Bool = λ x.
          cell_of_man (record { colour = g.colour; kind = x.0 }) == king_cell c && x.1 == s in
          let passes : test state ≡ true =
          and_from (king_cell g.colour == king_cell c) (s == s)
          (eq-eqb (king_cell g.colour) (king_cell c) (ap king_cell colour)) (eq-eqb s s refl) in
          or_left (is_state (king_cell c) s g) (has_state gs (king_cell c) s)
          (list_any_at test g.states d state (slice_get_within g.states d state k)
          (ap test (get_or_from_slice_get g.states d state state k) ∙ passes))
      | false ↦ λ h k.
          or_right (is_state (king_cell c) s g) (has_state gs (king_cell c) s)
          (king_known c s gs ds k)
    ] in
    either (same_colour g.colour c && has_kings g) refl e

pub state_on_board : (n : ℕ) (states : List (Kind × ℕ)) (k : ℕ) (state : Kind × ℕ) →
    AreIncreasingFrom n states → slice_get states k ≡ Some state → state.1 < 64
state_on_board n [] k state h e = absurd cc
state_on_board n (x ∷ states) zero state h e =
    let square = ap (λ (y : Kind × ℕ). y.1) (same_Some x state e) in
    let on = h.1 in omega arith
state_on_board n (x ∷ states) (suc k) state h e =
    state_on_board (state_number x + 1) states k state h.2 e

-- the king that digits give is on the board
pub king_on_board : (c : Colour) (s : ℕ) (earlier gs : List GroupLine) (ds : List ℕ) →
    AreSoundAfter earlier gs → king_state c gs ds ≡ Some (King, s) → s < 64
king_on_board c s earlier [] ds sound e = absurd cc
king_on_board c s earlier (g ∷ gs) [] sound e = absurd cc
king_on_board c s earlier (g ∷ gs) (d ∷ ds) sound e =
    elim (cases_Bool (same_colour g.colour c && has_kings g)) [
      | inl h ↦ state_on_board 0 g.states d (King, s) sound.0.states.increasing
          (sym (ap (λ t. cond t (slice_get g.states d) (king_state c gs ds)) h) ∙ e)
      | inr h ↦ king_on_board c s (earlier ++ g ∷ []) gs ds sound.1
          (sym (ap (λ t. cond t (slice_get g.states d) (king_state c gs ds)) h) ∙ e)
    ]

-- what groups without kings know all groups know
pub known_too : (gs : List GroupLine) (x s : ℕ) → has_state (others gs) x s ≡ true →
    has_state gs x s ≡ true
known_too [] x s h = h
known_too (g ∷ gs) x s h =
    let either : (t : Bool) →
    has_state (cond (not t) (g ∷ others gs) (others gs)) x s ≡ true →
    has_state (g ∷ gs) x s ≡ true =
    λ t. elim t as (λ t. has_state (cond (not t) (g ∷ others gs) (others gs)) x s ≡ true →
    has_state (g ∷ gs) x s ≡ true) [
      | true ↦ λ k. or_right (is_state x s g) (has_state gs x s) (known_too gs x s k)
      | false ↦ λ k. elim (or_cases (is_state x s g) (has_state (others gs) x s) k) [
        | inl y ↦ or_left (is_state x s g) (has_state gs x s) y
        | inr y ↦ or_right (is_state x s g) (has_state gs x s) (known_too gs x s y)
      ]
    ] in
    either (has_kings g) h

-- each group of kings has the king of its colour
abbrev HaveKings : List GroupLine → (a b : ℕ) → Type 0
HaveKings gs a b =
    (k : ℕ) (g : GroupLine) → slice_get gs k ≡ Some g → has_kings g ≡ true →
    HasKing g (king_square g.colour a b)

have_kings : (gs : List GroupLine) (a b : ℕ) → IsKingSquare gs White a → IsKingSquare gs Black b →
    HaveKings gs a b
have_kings gs a b white black k g e kings = by_colour g.colour refl
  where
    by_colour : (c : Colour) → g.colour ≡ c → HasKing g (king_square c a b)
    by_colour White h = white k g e h kings
    by_colour Black h = black k g e h kings

module _ (p : Board) (a b : ℕ) (size : length p.cells ≡ 64) (la : a < 64) (lb : b < 64)
    (free : are_free p a b ≡ true) (v : IsValid (with_kings p a b)) where
  abbrev q : Board
  q = with_kings p a b

  on_board : (c : Colour) → king_square c a b < 64
  on_board White = la
  on_board Black = lb

  king_there : (c : Colour) → has q c King (king_square c a b) ≡ true
  king_there c =
      eq-eqb (slice_index q.cells (king_square c a b)) (king_cell c)
      (crowned p a b c size la lb free).own

  -- a group of kings has one man
  king_counted : (earlier : List GroupLine) (g : GroupLine) → IsKingly earlier g →
      AreStates g.states → HasKing g (king_square g.colour a b) → IsWithinCount q g
  king_counted earlier g h states king =
      let only : (k : ℕ) → k < length g.states → stands q g.colour (slice_get g.states k) ≡ true →
      k ≡ king.place = λ k l e. at_place k (slice_get g.states k) refl e in
      let one : length (places q g) ≡ 1 =
      one_listed (λ k. stands q g.colour (slice_get g.states k)) (length g.states) king.place
      (slice_get_within g.states king.place (King, king_square g.colour a b) king.there)
      (ap (stands q g.colour) king.there ∙ king_there g.colour) only in
      let least = h.least in
      let most = h.most in
      record { least = omega arith; most = omega arith }
    where
      at_place : (k : ℕ) (o : Option (Kind × ℕ)) → slice_get g.states k ≡ o →
          stands q g.colour o ≡ true → k ≡ king.place
      at_place k None e y = absurd cc
      at_place k (Some state) e y =
          let kind : state.0 ≡ King = state_is earlier g k state h e in
          let there : has q g.colour King state.1 ≡ true =
          ap (λ (j : Kind). has q g.colour j state.1) (sym kind) ∙ y in
          let same = one_king q g.colour state.1 (king_square g.colour a b) v
          (state_on_board 0 g.states k state states.increasing e) (on_board g.colour) there
          (king_there g.colour) in
          one_place g.states k king.place (King, king_square g.colour a b) states.increasing
          (e ∙ ap (λ (j : Kind). Some (j, state.1)) kind ∙ ap (λ t. Some (King, t)) same) king.there

  counted_all : (earlier gs : List GroupLine) → AreSoundAfter earlier gs →
      AllByRecursion (IsWithinCount p) (others gs) → HaveKings gs a b →
      AllByRecursion (IsWithinCount q) gs
  counted_all earlier [] sound h kings = h
  counted_all earlier (g ∷ gs) sound h kings =
      let either : (t : Bool) → has_kings g ≡ t →
      AllByRecursion (IsWithinCount p) (cond (not t) (g ∷ others gs) (others gs)) →
      AllByRecursion (IsWithinCount q) (g ∷ gs) =
      λ t. elim t as (λ t. has_kings g ≡ t →
      AllByRecursion (IsWithinCount p) (cond (not t) (g ∷ others gs) (others gs)) →
      AllByRecursion (IsWithinCount q) (g ∷ gs)) [
        | true ↦ λ e rest. (
          king_counted earlier g (kingly earlier g sound.0.king e) sound.0.states (kings 0 g refl e),
          counted_all (earlier ++ g ∷ []) gs sound.1 rest (λ k x s. kings (suc k) x s),
        )
        | false ↦ λ e rest. (
          counted_alike p a b size la lb free g e rest.0,
          counted_all (earlier ++ g ∷ []) gs sound.1 rest.1 (λ k x s. kings (suc k) x s),
        )
      ] in
      either (has_kings g) refl h

  -- groups have the kings on these squares
  module _ (r : RuleLines) (c : ℕ) (sound : IsSound r) (board : IsBoardOf r.groups c p)
      (white_known : has_state r.groups (king_cell White) a ≡ true)
      (black_known : has_state r.groups (king_cell Black) b ≡ true)
      (white : IsKingSquare r.groups White a) (black : IsKingSquare r.groups Black b) where
    man_known : (s : ℕ) → s < 64 → slice_index q.cells s ≢ 0 →
        has_state r.groups (slice_index q.cells s) s ≡ true
    man_known s l some =
        let view = crowned p a b White size la lb free in
        elim (cases_eq s a) [
          | inl e ↦ ap (λ x. has_state r.groups x s) (ap (slice_index q.cells) e ∙ view.own)
              ∙ ap (has_state r.groups (king_cell White)) e
              ∙ white_known
          | inr na ↦ elim (cases_eq s b) [
            | inl e ↦ ap (λ x. has_state r.groups x s) (ap (slice_index q.cells) e ∙ view.other)
                ∙ ap (has_state r.groups (king_cell Black)) e
                ∙ black_known
            | inr nb ↦ ap (λ x. has_state r.groups x s) (view.rest s na nb)
                ∙ known_too r.groups (slice_index p.cells s) s
                (board.men s l (λ none. some (view.rest s na nb ∙ none)))
          ]
        ]

    pub member : Member r.groups q
    member = record {
      valid = v;
      men = man_known;
      counts = counted_all [] r.groups sound.lines.groups board.counts
          (have_kings r.groups a b white black);
    }

    -- the position has a number of the configuration
    pub split_there : IsSplit r.groups (Num r.groups q) c a b
    split_there =
        let gs = r.groups in
        let turn = turn_number gs p.turn p.ep in
        record {
          turn = turn;
          ds = map (digit_of q) gs;
          fits = (turn_fits gs q member, digits_are q gs member.counts);
          number = refl;
          configuration = sym board.configuration
              ∙ ap (λ ds. value (other_radices gs) (turn ∷ ds))
              (sym (digits_alike p a b size la lb free gs) ∙ sym (other_digits-map (digit_of q) gs));
          white = king_found White q a v (king_there White) [] gs sound.lines.groups member.counts
              sound.white_king;
          black = king_found Black q b v (king_there Black) [] gs sound.lines.groups member.counts
              sound.black_king;
        }

    numbered : (i : ℕ) → IsSplit r.groups i c a b → HasNumber r.groups i q
    numbered i split = record {
      member = member;
      number = one_number r (Num r.groups q) i c a b sound split_there split;
    }

  pub has_number : (r : RuleLines) (i c : ℕ) → IsSound r → IsBoardOf r.groups c p →
      IsSplit r.groups i c a b → HasNumber r.groups i q
  has_number r i c sound board split =
      let on = king_squares r i c a b sound split in
      numbered r c sound board (king_known White a r.groups split.ds split.white)
      (king_known Black b r.groups split.ds split.black) on.0 on.1 i split
