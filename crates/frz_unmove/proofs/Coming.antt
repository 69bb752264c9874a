-- What a move to a position tells of the position before it.
use Rattle.std.proofs.Common.{slice_set, length, ◌≡◌, ◌≢◌, ℕ, ◌+◌, ◌<◌, ◌≤◌, List, refl, ap, sym, ◌∙◌, subst, Bool, true, false, ◌&&◌, arith, Option, None, Some, slice_index, ◌⊎◌, inl, inr}
use Rattle.std.specs.Prelude.{◌==◌, MatchOption, if◌then◌else◌}
use Rattle.std.specs.List.{list_any}
use Rattle.std.proofs.lemmas.Bool.Decides.{eqb_tells, nat_tests}
use Rattle.std.proofs.lemmas.Bool.{cases_Bool, eq-eqb, eqb-true, and_parts, and_from}
use Rattle.std.proofs.lemmas.Option.{same_Some}
use Rattle.frz_board.specs.declared.man.Colour.{Colour}
use Rattle.frz_board.specs.declared.man.Colour.TheVariants.{White, Black}
use Rattle.frz_board.specs.declared.man.Kind.{Kind}
use Rattle.frz_board.specs.declared.man.Kind.TheVariants.{King, Queen, Rook, Bishop, Knight, Pawn}
use Rattle.frz_board.specs.declared.man.Man.{Man}
use Rattle.frz_board.specs.Squares.{rank_of}
use Rattle.frz_board.specs.Boards.{Board, man_on, is_empty, holds, has}
use Rattle.frz_board.specs.EnPassant.{ahead, has_passed, has_pawn_beside, has_target_in_place, is_passed, is_passing_rank, target_stands}
use Rattle.frz_board.specs.Men.{cell_of_man, man_of_cell, other_of, is_man_of, same_colour}
use Rattle.frz_board.specs.Moving.{is_promotion}
use Rattle.frz_board.proofs.Lemmas.{set_at, cell_back, cell_forth, other_other}
use Rattle.frz_squares.proofs.Lemmas.{either_or}
use Rattle.frz_bits.specs.Ways.{may_go}
use Rattle.frz_fide.specs.Legal.{beside_on_file, arrives, promotes, is_last}
use Rattle.frz_fide.specs.Valid.{IsValid}
use Rattle.frz_fide.proofs.Lemmas.{cell_then}
use Rattle.frz_fide.proofs.Lemmas.{Move, facts, same_side}
use Rattle.frz_fide.proofs.Lemmas.{others_by, after_at, arrived, arrived_own, arrives_own, left}
use Rattle.frz_fide.proofs.Lemmas.{goes_somewhere}
use Rattle.frz_fide.proofs.Lemmas as kept
use Rattle.frz_sets.specs.Views.{GroupLine}
use Rattle.frz_sets.specs.Sets.{targets}
use Rattle.frz_index.specs.Candidates.{candidate}
use Rattle.frz_index.specs.Kept.{is_known}
use Rattle.frz_index.specs.Room.{has_room}
use Rattle.frz_index.proofs.Lemmas.{is_candidate, room_where, same_man, target_possible}
use Rattle.frz_unmove.specs.declared.preds.Pred.{Pred}
use Rattle.frz_unmove.specs.Earlier.{before, mover_cell, name}
use Rattle.frz_unmove.specs.Gathering.{Comes, ComesTo, taken_of, target_of, first_target, first_taken}
use Rattle.frz_unmove.proofs.Undone.{next, after_is, mover_is, undone_next, promotes_pawn}

-- a cell that is not the side's and no king of the other side is empty or one of five men
taken_by : (d : Colour) (x : ℕ) → x < 13 → is_man_of d (man_of_cell x) ≡ false →
    (x == cell_of_man (record { colour = other_of d; kind = King })) ≡ false →
    (x ≡ 0) ⊎ ((first_taken (other_of d) ≤ x) × (x < first_taken (other_of d) + 5))
taken_by White x l h k = grind (arith, nat_tests)
taken_by Black x l h k = grind (arith, nat_tests)

-- a target is one of the eight squares of its rank
pub target_place : (d : Colour) (t : ℕ) → is_passing_rank d t ≡ true →
    (first_target d ≤ t) × (t < first_target d + 8)
target_place White t h = let e = eqb-true (rank_of t) 2 h in (omega arith, omega arith)
target_place Black t h = let e = eqb-true (rank_of t) 5 h in (omega arith, omega arith)

pub first_ends : (d : Colour) → first_target d ≤ 40
first_ends White = omega arith
first_ends Black = omega arith

last_of : (l : Bool) (promo : Bool) → (promo && (if l then true else false)) ≡ true → l ≡ true
last_of true promo h = refl
last_of false true h = cc
last_of false false h = cc

promoted_last : (c : Colour) (b : ℕ) (j : Kind) → promotes c Pawn b (Some j) ≡ true →
    (is_last c b ≡ true) × (is_promotion (Some j) ≡ true)
promoted_last c b j h = (
  last_of (is_last c b) (is_promotion (Some j)) h,
  (and_parts (is_promotion (Some j)) (if is_last c b then true else false) h).0,
)

promo_by : (c : Colour) (k : Kind) (b : ℕ) (promo : Option Kind) (man : Man) →
    promotes c k b promo ≡ true → arrives (record { colour = c; kind = k }) promo ≡ man →
    (promo ≡ None) ⊎ ((promo ≡ Some man.kind)
    × ((is_last man.colour b && is_promotion (Some man.kind)) ≡ true))
promo_by c k b None man h e = inl refl
promo_by c k b (Some j) man h e =
    let pawn = promotes_pawn c k b j h in
    let last = promoted_last c b j (ap (λ l. promotes c l b (Some j)) (sym pawn) ∙ h) in
    let kind : j ≡ man.kind = ap (λ (x : Man). x.kind) e in
    let side : c ≡ man.colour = ap (λ (x : Man). x.colour) e in
    inr (
      ap Some kind,
      and_from (is_last man.colour b) (is_promotion (Some man.kind))
          (ap (λ d. is_last d b) (sym side) ∙ last.0)
          (ap (λ l. is_promotion (Some l)) (sym kind) ∙ last.1),
    )

other_two : (d : Colour) → same_colour d (other_of d) ≡ false
other_two White = refl
other_two Black = refl

no_cell : (d : Colour) (k : Kind) → (0 == cell_of_man (record { colour = d; kind = k })) ≡ false
no_cell White King = refl
no_cell White Queen = refl
no_cell White Rook = refl
no_cell White Bishop = refl
no_cell White Knight = refl
no_cell White Pawn = refl
no_cell Black King = refl
no_cell Black Queen = refl
no_cell Black Rook = refl
no_cell Black Bishop = refl
no_cell Black Knight = refl
no_cell Black Pawn = refl

-- where a man of the one side stands there is none of the other
other_man : (p : Board) (d : Colour) (k : Kind) (s : ℕ) → holds p (other_of d) s ≡ true →
    has p d k s ≡ false
other_man p d k s h =
    elim (cases_Bool (has p d k s)) [
      | inr e ↦ e
      | inl e ↦
          let cell = eqb-true (slice_index p.cells s)
          (cell_of_man (record { colour = d; kind = k })) e in
          let side : holds p (other_of d) s ≡ false =
          ap (λ w. is_man_of (other_of d) (man_of_cell w)) cell ∙ ap (is_man_of (other_of d))
          (cell_forth d k) ∙ other_two d in
          absurd (cc)
    ]

module _ (gs : List GroupLine) (q : Board) (x : Pred) (c : Comes gs q x) where
  pub v : IsValid c.earlier
  v = c.number.member.valid

  pub f : Move c.earlier x.mv
  f = facts c.earlier x.mv c.legal

  pub candidate_is : candidate gs x.number ≡ c.earlier
  candidate_is = is_candidate gs x.number c.earlier c.number

  q_is : next c.earlier x.mv v c.step.to f ≡ q
  q_is = sym (after_is c.earlier x.mv v c.step.to f) ∙ c.arrives

  pub mover_turn : other_of q.turn ≡ c.earlier.turn
  mover_turn = ap (λ (b : Board). other_of b.turn) (sym q_is) ∙ other_other c.earlier.turn

  -- its name gives back the earlier position
  pub comes_before : before q (name x.mv (taken_of gs x) (target_of gs x)) ≡ c.earlier
  comes_before =
      ap (λ (b : Board). before q (name x.mv (slice_index b.cells x.mv.to) b.ep)) candidate_is
      ∙ ap (λ b. before b (name x.mv (slice_index c.earlier.cells x.mv.to) c.earlier.ep)) (sym q_is)
      ∙ undone_next c.earlier x.mv v c.step.to f

  pub cell_is : (s : ℕ) → slice_index q.cells s ≡ cell_then c.earlier f.man x.mv s
  cell_is s =
      ap (λ (b : Board). slice_index b.cells s) (sym c.arrives)
      ∙ after_at c.earlier x.mv v c.step.to f s

  -- the mover's man stands where the move ends
  pub held : holds q (other_of q.turn) x.mv.to ≡ true
  held =
      ap (λ d. holds q d x.mv.to) mover_turn
      ∙ ap (λ cell. is_man_of c.earlier.turn (man_of_cell cell)) (cell_is x.mv.to)
      ∙ arrived_own c.earlier x.mv f

  -- and none where it begins
  pub vacated : is_empty q x.mv.from ≡ true
  vacated = eq-eqb (slice_index q.cells x.mv.from) 0 (cell_is x.mv.from ∙ left c.earlier x.mv f)

  pub mover : mover_cell q x.mv ≡ cell_of_man f.man
  mover = ap (λ b. mover_cell b x.mv) (sym q_is) ∙ mover_is c.earlier x.mv v c.step.to f

  -- the man that has moved could go so
  pub way : (man : Man) → mover_cell q x.mv ≡ cell_of_man man →
      may_go man.colour man.kind x.mv.from x.mv.to ≡ true
  way man e =
      let same = same_man f.man man (sym mover ∙ e) in
      ap (λ (w : Man). may_go w.colour w.kind x.mv.from x.mv.to) (sym same)
      ∙ goes_somewhere c.earlier f.man.colour f.man.kind x.mv.from x.mv.to f.way

  known_at : (s : ℕ) → s < 64 → is_known gs (slice_index c.earlier.cells s) s ≡ true
  known_at s l =
      elim (eqb_tells (slice_index c.earlier.cells s) 0) [
        | inl e ↦ either_or _ _ (inl e.0)
        | inr e ↦ either_or _ _ (inr (c.number.member.men s l e.1))
      ]

  -- the man may stand where it was, and so may what it took
  pub known_mover : is_known gs (mover_cell q x.mv) x.mv.from ≡ true
  known_mover =
      ap (λ cell. is_known gs cell x.mv.from)
      (mover ∙ sym (kept.mover c.earlier x.mv v c.step.to f))
      ∙ known_at x.mv.from c.step.from

  taken_is : taken_of gs x ≡ slice_index c.earlier.cells x.mv.to
  taken_is = ap (λ (b : Board). slice_index b.cells x.mv.to) candidate_is

  -- nothing was taken, or a man of one of five kinds
  pub taken_cases : (taken_of gs x ≡ 0)
      ⊎ ((first_taken q.turn ≤ taken_of gs x) × (taken_of gs x < first_taken q.turn + 5))
  taken_cases =
      let d = c.earlier.turn in
      let side : other_of d ≡ q.turn = ap other_of (sym mover_turn) ∙ other_other q.turn in
      let cell = slice_index c.earlier.cells x.mv.to in
      let small : cell < 13 = v.fits.men x.mv.to 0
      (let l = c.step.to in omega (arith, v.fits.size)) in
      let cases = taken_by d cell small f.free
      (kept.no_king_there c.earlier x.mv v c.step.to f (other_of d)) in
      subst (λ e. (taken_of gs x ≡ 0)
      ⊎ ((first_taken e ≤ taken_of gs x) × (taken_of gs x < first_taken e + 5))) side
      (subst (λ n. (n ≡ 0) ⊎ ((first_taken (other_of d) ≤ n) × (n < first_taken (other_of d) + 5)))
      (sym taken_is) cases)

  -- where the mover's man stands there is none of the other side
  none_held : (k : Kind) → has q q.turn k x.mv.to ≡ false
  none_held k = other_man q q.turn k x.mv.to held

  -- a man that stands elsewhere stood there before
  stood_there : (d : Colour) (k : Kind) (s : ℕ) → s ≢ x.mv.to → has q d k s ≡ true →
      has c.earlier d k s ≡ true
  stood_there d k s ne h =
      let test : ℕ → Bool = λ w. w == cell_of_man (record { colour = d; kind = k }) in
      elim (cases_Bool (has c.earlier d k s)) [
        | inl e ↦ e
        | inr e ↦
            let gone = others_by test (kept.takes c.earlier x.mv v c.step.to f)
            (beside_on_file x.mv.from x.mv.to) x.mv.to x.mv.from
            (cell_of_man (arrives f.man x.mv.promo)) (slice_index c.earlier.cells s) s
            (no_cell d k) e ne in
            let off : has q d k s ≡ false = ap test (cell_is s) ∙ gone in
            absurd (cc)
      ]

  -- there is room for the man that was taken
  room_taken : (man : Man) → man_of_cell (taken_of gs x) ≡ Some man → man.colour ≡ q.turn →
      has_room gs q man x.mv.to ≡ true
  room_taken man on side =
      let cell : slice_index c.earlier.cells x.mv.to ≡ cell_of_man man = sym taken_is
      ∙ cell_back (taken_of gs x) man.colour man.kind on in
      room_where gs c.earlier q man x.mv.to c.number.member c.step.to
      (record {
        stood = cell;
        gone = λ k. ap (λ d. has q d k x.mv.to) side ∙ none_held k;
        others = λ k s ne h. stood_there man.colour k s ne h;
      })

  target_is : target_of gs x ≡ c.earlier.ep
  target_is = ap (λ (b : Board). b.ep) candidate_is

  -- a target is one of the set's, on its rank
  pub target_of_set : (t : ℕ) → target_of gs x ≡ Some t →
      (list_any (λ y. t == y) (targets gs) ≡ true) × (is_passing_rank q.turn t ≡ true)
  unfolding has_target_in_place
  target_of_set t e =
      let p = c.earlier in
      let here : p.ep ≡ Some t = sym target_is ∙ e in
      let side : other_of p.turn ≡ q.turn = ap other_of (sym mover_turn) ∙ other_other q.turn in
      let stands : is_passed p (other_of p.turn) t ≡ true = ap (target_stands p) (sym here)
      ∙ v.target in
      let passed = (and_parts (has_passed p (other_of p.turn) t)
      (has_pawn_beside p (other_of (other_of p.turn)) (ahead (other_of p.turn) t)) stands).0 in
      let pawns = (and_parts
      (is_passing_rank (other_of p.turn) t
      && (is_empty p t && is_empty p (ahead (other_of (other_of p.turn)) t)))
      (has p (other_of p.turn) Pawn (ahead (other_of p.turn) t)) passed).0 in
      let rank = (and_parts (is_passing_rank (other_of p.turn) t)
      (is_empty p t && is_empty p (ahead (other_of (other_of p.turn)) t)) pawns).0 in (
        (target_possible gs p c.number.member t here).0,
        ap (λ d. is_passing_rank d t) (sym side)
            ∙ rank,
      )

  -- the man on the move's end has come as itself, or as a pawn on its last rank
  pub promo_cases : (man : Man) → man_on q x.mv.to ≡ Some man →
      (x.mv.promo ≡ None)
      ⊎ ((x.mv.promo ≡ Some man.kind)
      × ((is_last man.colour x.mv.to && is_promotion (Some man.kind)) ≡ true))
  promo_cases man on =
      let there : man_on q x.mv.to ≡ Some (arrives f.man x.mv.promo) = ap man_of_cell
      (cell_is x.mv.to ∙ arrived c.earlier x.mv f) ∙ arrives_own f.man x.mv.promo in
      promo_by f.man.colour f.man.kind x.mv.to x.mv.promo man f.promo
      (same_Some (arrives f.man x.mv.promo) man (sym there ∙ on))

-- the test of what was taken passes
taken_by_test : (gs : List GroupLine) (q : Board) (x : Pred) (c : Comes gs q x) (r : Bool) →
    (o : Option Man) → man_of_cell (taken_of gs x) ≡ o → is_man_of q.turn o ≡ true →
    MatchOption o (r ≡ false) (λ man. r ≡ has_room gs q man x.mv.to) → r ≡ true
taken_by_test gs q x c r None e side h = cc
taken_by_test gs q x c r (Some man) e side h =
    h ∙ room_taken gs q x c man e (same_side man.colour q.turn side)

pub may_be_taken : (gs : List GroupLine) (q : Board) (x : Pred) (b taken : ℕ) (r : Bool) →
    ComesTo gs q b x → taken_of gs x ≡ taken → is_man_of q.turn (man_of_cell taken) ≡ true →
    MatchOption (man_of_cell taken) (r ≡ false) (λ man. r ≡ has_room gs q man b) → r ≡ true
may_be_taken gs q x b taken r h e side test =
    taken_by_test gs q x h.0 r (man_of_cell taken) (ap man_of_cell e) side
    (subst (λ s. MatchOption (man_of_cell taken) (r ≡ false) (λ man. r ≡ has_room gs q man s))
    (sym h.1) test)

-- the position without the man that has moved
abbrev pub taken_off : Board → ℕ → Board
taken_off q s = record q { cells = slice_set q.cells s 0 }

module _ (gs : List GroupLine) (q : Board) (x : Pred) (c : Comes gs q x)
    (size : length q.cells ≡ 64) where
  taken_off_at : (s : ℕ) →
      slice_index (taken_off q x.mv.to).cells s
      ≡ (if s == x.mv.to then 0 else slice_index q.cells s)
  taken_off_at s = set_at q.cells x.mv.to 0 s (let low = c.step.to in omega (arith, size, low))

  -- once the man that has moved is taken off, a man stands
  -- where it stood before, and not where the move ends
  still_there : (d : Colour) (k : Kind) (s : ℕ) → has (taken_off q x.mv.to) d k s ≡ true →
      has c.earlier d k s ≡ true
  still_there d k s h =
      let test : ℕ → Bool = λ w. w == cell_of_man (record { colour = d; kind = k }) in
      elim (eqb_tells s x.mv.to) [
        | inl e ↦
            let off : has (taken_off q x.mv.to) d k s ≡ false = ap test
            (taken_off_at s ∙ ap (λ b. if b then 0 else slice_index q.cells s) e.0)
            ∙ no_cell d k in
            absurd (cc)
        | inr e ↦
            stood_there gs q x c d k s e.1
            (ap test (sym (taken_off_at s ∙ ap (λ b. if b then 0 else slice_index q.cells s) e.0))
            ∙ h)
      ]

  none_begins : (d : Colour) (k : Kind) → has (taken_off q x.mv.to) d k x.mv.from ≡ false
  none_begins d k =
      let test : ℕ → Bool = λ w. w == cell_of_man (record { colour = d; kind = k }) in
      let empty : slice_index q.cells x.mv.from ≡ 0 = eqb-true (slice_index q.cells x.mv.from) 0
      (vacated gs q x c) in
      elim (eqb_tells x.mv.from x.mv.to) [
        | inl e ↦
            ap test (taken_off_at x.mv.from
            ∙ ap (λ b. if b then 0 else slice_index q.cells x.mv.from) e.0)
            ∙ no_cell d k
        | inr e ↦
            ap test (taken_off_at x.mv.from
            ∙ ap (λ b. if b then 0 else slice_index q.cells x.mv.from) e.0 ∙ empty)
            ∙ no_cell d k
      ]

  -- there is room for the man where it came from
  pub room_to_begin : (man : Man) → mover_cell q x.mv ≡ cell_of_man man →
      has_room gs (taken_off q x.mv.to) man x.mv.from ≡ true
  room_to_begin man e =
      room_where gs c.earlier (taken_off q x.mv.to) man x.mv.from c.number.member c.step.from
      (record {
        stood = kept.mover c.earlier x.mv (v gs q x c) c.step.to (f gs q x c) ∙ sym (mover gs q x c)
            ∙ e;
        gone = λ k. none_begins man.colour k;
        others = λ k s ne h. still_there man.colour k s h;
      })
