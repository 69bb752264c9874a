-- The targets that may have stood before a move.
use Rattle.frz_board.proofs.Lemmas.{other_other, other_differs}
use Rattle.std.proofs.Common.{◌-◌, ◌≡◌, ℕ, ◌+◌, ◌<◌, ◌≤◌, List, refl, ap, sym, ◌∙◌, true, ◌&&◌, ◌||◌, arith, Option, None, Some, slice_index, ◌⊎◌, inl, inr}
use Rattle.std.specs.Prelude.{◌==◌}
use Rattle.std.specs.List.{list_any}
use Rattle.std.proofs.lemmas.Bool.Decides.{eqb_tells}
use Rattle.std.proofs.lemmas.Bool.{eq-eqb, eqb-true, and_parts, and_from}
use Rattle.frz_board.specs.declared.man.Colour.{Colour}
use Rattle.frz_board.specs.declared.man.Kind.TheVariants.{Pawn}
use Rattle.frz_board.specs.declared.man.Man.{Man}
use Rattle.frz_board.specs.Boards.{Board, is_empty, has}
use Rattle.frz_board.specs.EnPassant.{ahead, has_passed, has_pawn_beside, has_target_in_place, is_passed, is_passing_rank, target_stands}
use Rattle.frz_board.specs.Men.{cell_of_man, other_of, is_pawn}
use Rattle.frz_board.specs.Attacks.{pawn_reaches}
use Rattle.frz_board.specs.Moving.{Step}
use Rattle.frz_squares.proofs.Lemmas.{either_or}
use Rattle.frz_squares.specs.SquareSets.{has_square}
use Rattle.frz_fide.specs.Legal.{takes_in_passing, is_target, beside_on_file, arrives}
use Rattle.frz_fide.proofs.Lemmas.{Move}
use Rattle.frz_fide.proofs.Lemmas.{stays_by}
use Rattle.frz_fide.proofs.Lemmas as kept
use Rattle.frz_sets.specs.Views.{GroupLine}
use Rattle.frz_sets.specs.Sets.{targets}
use Rattle.frz_index.proofs.Lemmas.{same_man}
use Rattle.frz_unmove.specs.declared.preds.Pred.{Pred}
use Rattle.frz_unmove.specs.Gathering.{Comes, ComesTo, IsTargetWord, first_target, may_be_target, may_have_passed, target_key, target_of}
use Rattle.frz_unmove.proofs.Coming.{target_place, first_ends, candidate_is, cell_is, f, mover_turn, target_of_set, v}

-- a pawn of the one side is no man of the other
left_pawn : (d : Colour) (cell : ℕ) (man : Man) → other_of d ≡ man.colour
    → cell ≡ cell_of_man (record { colour = d; kind = Pawn }) → cell ≡ cell_of_man man → ⊥
left_pawn d cell man side e g =
    let same = same_man (record { colour = d; kind = Pawn }) man (sym e ∙ g) in
    other_differs d (side ∙ sym (ap (λ (w : Man). w.colour) same))

took_target : (p : Board) (m : Step) (move : Move p m) (t : ℕ) → p.ep ≡ Some t →
    (is_pawn move.man.kind && takes_in_passing p move.man.colour m.from m.to) ≡ true → t ≡ m.to
took_target p m move t here h =
    let aims = (and_parts (pawn_reaches move.man.colour m.from m.to) (is_target p.ep m.to)
    (and_parts (is_pawn move.man.kind) (takes_in_passing p move.man.colour m.from m.to)
    h).1).1 in
    eqb-true t m.to (ap (λ o. is_target o m.to) (sym here) ∙ aims)

-- the pawn that had passed over the target stands ahead of it still, unless the move took it
passed_stands : (gs : List GroupLine) (q : Board) (x : Pred) (c : Comes gs q x) (t : ℕ) →
    target_of gs x ≡ Some t →
    (has q q.turn Pawn (ahead q.turn t) || (ahead q.turn t == x.mv.to || t == x.mv.to)) ≡ true
unfolding has_target_in_place
passed_stands gs q x c t e =
    let p = c.earlier in
    let m = x.mv in
    let done = f gs q x c in
    let valid = v gs q x c in
    let here : p.ep ≡ Some t = sym (ap (λ (b : Board). b.ep) (candidate_is gs q x c)) ∙ e in
    let side : other_of p.turn ≡ q.turn = ap other_of (sym (mover_turn gs q x c))
    ∙ other_other q.turn in
    let stands : is_passed p (other_of p.turn) t ≡ true = ap (target_stands p) (sym here)
    ∙ valid.target in
    let passed = (and_parts (has_passed p (other_of p.turn) t)
    (has_pawn_beside p (other_of (other_of p.turn)) (ahead (other_of p.turn) t)) stands).0 in
    let pawn : has p (other_of p.turn) Pawn (ahead (other_of p.turn) t) ≡ true =
    (and_parts (is_passing_rank (other_of p.turn) t
    && (is_empty p t && is_empty p (ahead (other_of (other_of p.turn)) t)))
    (has p (other_of p.turn) Pawn (ahead (other_of p.turn) t)) passed).1 in
    let there : slice_index p.cells (ahead q.turn t) ≡ cell_of_man
    (record { colour = q.turn; kind = Pawn }) =
    eqb-true (slice_index p.cells (ahead q.turn t))
    (cell_of_man (record { colour = q.turn; kind = Pawn }))
    (ap (λ d. has p d Pawn (ahead d t)) (sym side) ∙ pawn) in
    elim (eqb_tells (ahead q.turn t) m.to) [
      | inl i ↦ either_or _ _ (inr (either_or _ _ (inl i.0)))
      | inr i ↦ elim (eqb_tells t m.to) [
        | inl j ↦ either_or _ _ (inr (either_or _ _ (inr j.0)))
        | inr j ↦ either_or _ _ (inl
            (let kept_there = stays_by (kept.takes p m valid c.step.to done)
            (beside_on_file m.from m.to) m.to m.from (cell_of_man (arrives done.man m.promo))
            (slice_index p.cells (ahead q.turn t)) (ahead q.turn t)
            (λ h k. j.1 (took_target p m done t here h))
            i.1
            (λ k. left_pawn q.turn (slice_index p.cells (ahead q.turn t)) done.man
            (ap other_of (sym side) ∙ other_other p.turn ∙ sym done.own) there
            (ap (slice_index p.cells) k ∙ kept.mover p m valid c.step.to done)) in
            eq-eqb (slice_index q.cells (ahead q.turn t))
            (cell_of_man (record { colour = q.turn; kind = Pawn }))
            (cell_is gs q x c (ahead q.turn t) ∙ kept_there ∙ there)))
      ]
    ]

-- an earlier target may have stood
pub stood : (gs : List GroupLine) (q : Board) (b : ℕ) (x : Pred) → ComesTo gs q b x → (t : ℕ) →
    target_of gs x ≡ Some t → may_be_target gs q b t ≡ true
stood gs q b x h t e =
    let of_set = target_of_set gs q x h.0 t e in
    and_from (list_any (λ y. t == y) (targets gs))
    (is_passing_rank q.turn t && may_have_passed q b t) of_set.0
    (and_from (is_passing_rank q.turn t) (may_have_passed q b t) of_set.1
    (ap (λ d. may_have_passed q d t) (sym h.1) ∙ passed_stands gs q x h.0 t e))

-- a target of the word is on its rank
pub target_of_word : (gs : List GroupLine) (q : Board) (b word t : ℕ) → IsTargetWord gs q b word →
    t < 64 → has_square word t ≡ true → (first_target q.turn ≤ t) × (t < first_target q.turn + 8)
target_of_word gs q b word t is low h =
    let may = sym (is t low) ∙ h in
    let rest = (and_parts (list_any (λ y. t == y) (targets gs))
    (is_passing_rank q.turn t && may_have_passed q b t) may).1 in
    target_place q.turn t (and_parts (is_passing_rank q.turn t) (may_have_passed q b t) rest).0

key_by : (gs : List GroupLine) (q : Board) (b word : ℕ) (x : Pred) → ComesTo gs q b x →
    IsTargetWord gs q b word → (o : Option ℕ) → target_of gs x ≡ o →
    (target_key o ≡ 0)
    ⊎ ((1 ≤ target_key o) × (target_key o ≤ 64) × (has_square word (target_key o - 1) ≡ true))
key_by gs q b word x h is None e = inl refl
key_by gs q b word x h is (Some t) e =
    let may = stood gs q b x h t e in
    let rest = (and_parts (list_any (λ y. t == y) (targets gs))
    (is_passing_rank q.turn t && may_have_passed q b t) may).1 in
    let place = target_place q.turn t
    (and_parts (is_passing_rank q.turn t) (may_have_passed q b t) rest).0 in
    let ends = first_ends q.turn in
    let low : t < 64 = (let high = place.1 in omega (arith, high, ends)) in
    let same : t + 1 - 1 ≡ t = omega arith in
    inr (omega arith, omega (arith, low), ap (has_square word) same ∙ is t low ∙ may)

-- an earlier target is none, or in the word
pub key_in_word : (gs : List GroupLine) (q : Board) (b word : ℕ) (x : Pred) → ComesTo gs q b x →
    IsTargetWord gs q b word →
    (target_key (target_of gs x) ≡ 0)
    ⊎ ((1 ≤ target_key (target_of gs x)) × (target_key (target_of gs x) ≤ 64)
    × (has_square word (target_key (target_of gs x) - 1) ≡ true))
key_in_word gs q b word x h is = key_by gs q b word x h is (target_of gs x) refl
