-- Where a man may have come from, and as what.
use Rattle.std.proofs.Common.{length, ◌≡◌, ℕ, ◌<◌, List, refl, ap, sym, ◌∙◌, subst, Bool, true, ◌&&◌, Option, None, Some, ◌⊎◌}
use Rattle.frz_fide.proofs.Lemmas.{same_parts}
use Rattle.frz_board.specs.declared.man.Kind.{Kind}
use Rattle.frz_board.specs.declared.man.Man.{Man}
use Rattle.frz_board.specs.Boards.{Board, man_on, is_empty}
use Rattle.frz_board.specs.Men.{cell_of_man, other_of}
use Rattle.frz_board.specs.Moving.{is_promotion}
use Rattle.std.proofs.lemmas.Bool.{and_from}
use Rattle.frz_index.specs.Kept.{is_known}
use Rattle.frz_index.specs.Room.{has_room}
use Rattle.frz_bits.proofs.Lemmas.{in_set}
use Rattle.frz_squares.specs.SquareSets.{has_square, set_of}
use Rattle.frz_bits.specs.Ways.{may_go}
use Rattle.frz_fide.specs.Legal.{is_last}
use Rattle.frz_sets.specs.Views.{GroupLine}
use Rattle.frz_unmove.specs.declared.preds.Pred.{Pred}
use Rattle.frz_unmove.specs.Earlier.{mover_cell}
use Rattle.frz_unmove.specs.Gathering.{Comes, ComesAs, ComesTo}
use Rattle.frz_unmove.proofs.Coming.{room_to_begin, known_mover, taken_off, promo_cases, vacated, way}
use Rattle.frz_unmove.proofs.Ways.{way_back}

-- a move begins on one of the origins
from_origin : (gs : List GroupLine) (q : Board) (x : Pred) (c : Comes gs q x) (man : Man)
    (word : ℕ) → mover_cell q x.mv ≡ cell_of_man man →
    ((a : ℕ) → a < 64 → may_go (other_of man.colour) man.kind x.mv.to a ≡ true → is_empty q a ≡ true
    → has_square word a ≡ true) → has_square word x.mv.from ≡ true
from_origin gs q x c man word e h =
    h x.mv.from c.step.from
    (sym (way_back man.colour man.kind x.mv.from x.mv.to) ∙ way gs q x c man e) (vacated gs q x c)

from_origin_as : (gs : List GroupLine) (q : Board) (b : ℕ) (promo : Option Kind) (x : Pred) →
    ComesAs gs q b promo x → (man : Man) (word : ℕ) →
    ((a : ℕ) → mover_cell q (record { from = a; to = b; promo = promo }) ≡ cell_of_man man) →
    ((a : ℕ) → a < 64 → may_go (other_of man.colour) man.kind b a ≡ true → is_empty q a ≡ true
    → has_square word a ≡ true) → has_square word x.mv.from ≡ true
from_origin_as gs q b promo x h man word e way_to =
    let move : x.mv ≡ record { from = x.mv.from; to = b; promo = promo } = same_parts x.mv
    (record { from = x.mv.from; to = b; promo = promo }) refl h.0.1 h.1 in
    from_origin gs q x h.0.0 man word (ap (mover_cell q) move ∙ e x.mv.from)
    (λ a l w empty. way_to a l (ap (λ t. may_go (other_of man.colour) man.kind t a) (sym h.0.1) ∙ w)
    empty)

pub promo_cases_at : (gs : List GroupLine) (q : Board) (b : ℕ) (x : Pred) → ComesTo gs q b x →
    (man : Man) → man_on q b ≡ Some man →
    (x.mv.promo ≡ None)
    ⊎ ((x.mv.promo ≡ Some man.kind)
    × ((is_last man.colour b && is_promotion (Some man.kind)) ≡ true))
promo_cases_at gs q b x h man on =
    subst (λ s. (x.mv.promo ≡ None)
    ⊎ ((x.mv.promo ≡ Some man.kind)
    × ((is_last man.colour s && is_promotion (Some man.kind)) ≡ true))) h.1
    (promo_cases gs q x h.0 man (ap (man_on q) h.1 ∙ on))

-- the words of the origins have where a move begins
in_ways : (gs : List GroupLine) (q : Board) (b : ℕ) (promo : Option Kind) (x : Pred) →
    ComesAs gs q b promo x → (man : Man) (word : ℕ) →
    ((a : ℕ) → mover_cell q (record { from = a; to = b; promo = promo }) ≡ cell_of_man man) →
    ((a : ℕ) → a < 64 →
    has_square word a ≡ (may_go (other_of man.colour) man.kind b a && is_empty q a)) →
    has_square word x.mv.from ≡ true
in_ways gs q b promo x h man word e ways =
    from_origin_as gs q b promo x h man word e (λ a l w empty. ways a l ∙ and_from _ _ w empty)

pub in_room : (gs : List GroupLine) (q : Board) (b : ℕ) (promo : Option Kind) (x : Pred) →
    ComesAs gs q b promo x → (man : Man) (word kept : ℕ) → length q.cells ≡ 64 →
    ((a : ℕ) → mover_cell q (record { from = a; to = b; promo = promo }) ≡ cell_of_man man) →
    ((a : ℕ) → a < 64 →
    has_square word a ≡ (may_go (other_of man.colour) man.kind b a && is_empty q a)) →
    ((a : ℕ) → a < 64 →
    has_square kept a ≡ (has_square word a && has_room gs (taken_off q b) man a)) →
    has_square kept x.mv.from ≡ true
in_room gs q b promo x h man word kept size e ways room =
    let move : x.mv ≡ record { from = x.mv.from; to = b; promo = promo } = same_parts x.mv
    (record { from = x.mv.from; to = b; promo = promo }) refl h.0.1 h.1 in
    let begins = room_to_begin gs q x h.0.0 size man (ap (mover_cell q) move ∙ e x.mv.from) in
    room x.mv.from h.0.0.step.from
    ∙ and_from _ _ (in_ways gs q b promo x h man word e ways)
    (ap (λ s. has_room gs (taken_off q s) man x.mv.from) (sym h.0.1) ∙ begins)

-- one of the squares on which the man may stand
abbrev pub known_on : List GroupLine → Man → ℕ → ℕ → Bool
known_on gs man squares a = has_square squares a && is_known gs (cell_of_man man) a

pub in_known : (gs : List GroupLine) (q : Board) (b : ℕ) (promo : Option Kind) (x : Pred) →
    ComesAs gs q b promo x → (man : Man) (word kept : ℕ) →
    ((a : ℕ) → mover_cell q (record { from = a; to = b; promo = promo }) ≡ cell_of_man man) →
    ((a : ℕ) → a < 64 →
    has_square word a ≡ (may_go (other_of man.colour) man.kind b a && is_empty q a)) →
    kept ≡ set_of (known_on gs man word) → has_square kept x.mv.from ≡ true
in_known gs q b promo x h man word kept e ways is =
    let move : x.mv ≡ record { from = x.mv.from; to = b; promo = promo } = same_parts x.mv
    (record { from = x.mv.from; to = b; promo = promo }) refl h.0.1 h.1 in
    in_set (known_on gs man word) kept x.mv.from is h.0.0.step.from
    ∙ and_from _ _ (in_ways gs q b promo x h man word e ways)
    (ap (λ n. is_known gs n x.mv.from) (sym (ap (mover_cell q) move ∙ e x.mv.from))
    ∙ known_mover gs q x h.0.0)
