-- The number after a man has taken another one, group by group.
use Rattle.std.proofs.Common.{◌≡◌, ◌≢◌, ℕ, suc, ◌+◌, ◌-◌, ◌<◌, ◌≤◌, true, Option, List, length, slice_index, ap, sym, subst, ◌∙◌, arith}
use Rattle.std.specs.List.{AllByRecursion}
use Rattle.frz_board.specs.declared.man.Man.{Man}
use Rattle.frz_board.specs.Boards.{Board}
use Rattle.frz_board.specs.Men.{cell_of_man, other_of}
use Rattle.frz_fide.specs.Valid.{IsValid}
use Rattle.frz_sets.specs.Sets.{has_state}
use Rattle.frz_sets.specs.Sound.{AreStates}
use Rattle.frz_sets.specs.Views.{GroupLine}
use Rattle.std.proofs.Math.Nat.{add-mul}
use Rattle.frz_index.specs.Kept.{product_from}
use Rattle.frz_index.proofs.GroupSteps.{drop_end}
use Rattle.frz_index.proofs.RoomForMen.{counted_at}
use Rattle.frz_index.proofs.NumbersAfterSteps.{Member-stepped, Shifted, all_shifted, number_parts, shifted_all, sums}
use Rattle.frz_index.proofs.TakenMen.{at_others, at_taken, goes, rests, step_onto, step_there, without}
use Rattle.frz_index.specs.Members.{HasNumber, Member}
use Rattle.frz_index.specs.Places.{IsWithinCount}
use Rattle.frz_index.specs.Stepping.{IsShare, IsStep, number_after, stepped, turn_adds}
use Rattle.frz_index.specs.Taking.{IsSpare}

module _ (gs : List GroupLine) (p : Board) (man taken : Man) (a b : ℕ) (target : Option ℕ)
    (i k left comes loss : ℕ) (number : HasNumber gs i p) (la : a < 64) (lb : b < 64)
    (apart : a ≢ b) (stood : slice_index p.cells a ≡ cell_of_man man)
    (there : slice_index p.cells b ≡ cell_of_man taken)
    (valid : IsValid (stepped p man a b target)) (from : IsShare gs man a k left)
    (in_order : AreStates from.group.states) (to : IsShare gs man b k comes)
    (spare : IsSpare gs taken b loss) where
  abbrev r : Board
  r = without p b

  size : length p.cells ≡ 64
  size = number.member.valid.fits.size

  abbrev q : Board
  q = stepped r man a b target

  same : q ≡ stepped p man a b target
  same = step_onto p man a b target size la lb

  -- the taken man's group
  lost : Shifted gs p r (cell_of_man taken) b b (length gs) 0 loss
  lost =
      let share = spare.share in
      let g = share.group in
      let w = product_from gs (suc spare.group) in
      let all = shifted_all gs p r (cell_of_man taken) b b spare.group 0 (share.place + 1) g
      share.there
      (goes p taken b size lb there g share.place share.place_is share.one spare.none
      (counted_at (IsWithinCount p) gs spare.group g number.member.counts share.there))
      (λ j x n here. rests p taken b size lb there x (share.alone j x n here)
      (counted_at (IsWithinCount p) gs j x number.member.counts here)) in
      record {
        counted = all.counted;
        sum = omega (arith, all.sum, spare.loss_is, share.adds_is, add-mul share.place 1 w);
        covered = all.covered;
      }

  counts : AllByRecursion (IsWithinCount r) gs
  counts = lost.counted (subst (AllByRecursion (IsWithinCount r))
      (sym (drop_end gs (length gs) (omega arith))) tt)

  step : IsStep r man a b
  step = step_there p man taken a b size la lb apart stood there

  moved : Shifted gs r q (cell_of_man man) a b (length gs) comes left
  moved = all_shifted gs r man a b target k left comes counts step from in_order to

  men : (s : ℕ) → s < 64 → slice_index r.cells s ≢ 0 →
      has_state gs (slice_index r.cells s) s ≡ true
  men s low some =
      let other : s ≢ b = λ e. some (ap (slice_index r.cells) e ∙ at_taken p taken b size lb there)
      in
      let is = at_others p taken b size lb there s other in
      ap (λ x. has_state gs x s) is ∙ number.member.men s low (λ none. some (is ∙ none))

  after_member : Member gs q
  after_member =
      Member-stepped gs r man a b target comes left men step (subst IsValid (sym same) valid) moved

  pub after_taking :
      (left + turn_adds gs p.turn p.ep + loss ≤ i + comes + turn_adds gs (other_of p.turn) target)
      × HasNumber gs (number_after gs p.turn p.ep target i left comes - loss)
      (stepped p man a b target)
  after_taking =
      let before = number_parts gs p in
      let after = number_parts gs q in
      let is = number.number in
      let one = sums gs p r (cell_of_man taken) b b 0 loss lost in
      let two = sums gs r q (cell_of_man man) a b comes left moved in (
        omega (arith, before, one, two, is),
        subst (HasNumber gs (number_after gs p.turn p.ep target i left comes - loss)) same
            (record {
              member = after_member;
              number = omega (arith, before, after, one, two, is);
            }),
      )
