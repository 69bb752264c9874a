-- A move whose man arrives where the set has no such man leads out of the set.
use Rattle.std.proofs.Common.{◌≡◌, ◌∙◌, ◌<◌, List, ap, arith, false, slice_index, sym, true}
use Rattle.std.specs.Prelude.{◌==◌}
use Rattle.std.proofs.lemmas.Bool.{not-true, or_right}
use Rattle.frz_board.specs.Boards.{Board}
use Rattle.frz_board.specs.Men.{cell_of_man}
use Rattle.frz_board.specs.Moving.{Step}
use Rattle.frz_board.proofs.Lemmas.{cell-some}
use Rattle.frz_fide.proofs.Lemmas.{after_at, arrived, facts}
use Rattle.frz_fide.specs.Legal.{after, arrives, is_legal}
use Rattle.frz_fide.specs.Valid.{IsValid}
use Rattle.frz_sets.specs.Sets.{has_state}
use Rattle.frz_sets.specs.Views.{GroupLine}
use Rattle.frz_index.specs.Kept.{is_known}
use Rattle.frz_index.specs.Leaving.{is_out_of_place, leaves}
use Rattle.frz_index.specs.Members.{Member}

pub outside_after : (gs : List GroupLine) (p : Board) (m : Step) → IsValid p → m.to < 64 →
    is_legal p m ≡ true → leaves gs p m ≡ true → Member gs (after p m) → ⊥
outside_after gs p m valid low legal leaving member =
    let f = facts p m legal in
    let man = arrives f.man m.promo in
    let x = cell_of_man man in
    let there : slice_index (after p m).cells m.to ≡ x =
    after_at p m valid low f m.to ∙ arrived p m f in
    let some = cell-some man.colour man.kind in
    let known : has_state gs x m.to ≡ true = sym (ap (λ c. has_state gs c m.to) there)
    ∙ member.men m.to low (λ none. omega (arith, some, there, none)) in
    let unknown : is_known gs x m.to ≡ false = not-true (is_known gs x m.to)
    (sym (ap (λ o. is_out_of_place gs o m) f.on) ∙ leaving) in
    let yes = or_right (x == 0) (has_state gs x m.to) known in
    absurd cc
