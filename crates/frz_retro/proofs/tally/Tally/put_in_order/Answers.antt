use Rattle.std.proofs.Common.{◌≡◌, ℕ, ◌-◌, List, length, slice_range, ◌∙◌, ap, sym, subst, arith}
use Rattle.std.proofs.lemmas.List.{with_items_is}
use Rattle.std.proofs.lemmas.List.Sorted.{IsNonDecreasingBy-from_sort}
use Rattle.std.proofs.lemmas.Slice.{between-put_mid}
use Rattle.std.specs.List.Sorted.{IsNonDecreasing}
use Rattle.std.specs.Vec.{with_items}
use borrow.Rule.Slice.PartMut.{mid_len, put_mid, same_len_mid}
use Rattle.frz_retro.specs.Tallies.{Tally}
use Rattle.frz_retro.proofs.tally.Tally.put_in_order.Goals as goal

-- what the queue holds from head on is what the sort left
pub returns-clause-order : goal.returns-clause-order
returns-clause-order c =
    let head = c.args.head in
    let queue = c.self.inside.queue in
    let tail = c.self.inside.tail in
    let was = c.deref_mut.result.now in
    let sorted = c.sort_unstable.new.self in
    let seen = ap (λ (t : Tally). length t.queue) c.self.view_is in
    let tails = ap (λ (t : Tally). t.tail) c.self.view_is in
    let part = c.sort_unstable.ensures.len ∙ mid_len head tail was (omega arith) in
    let now = put_mid head (tail - head) was sorted in
    let long = same_len_mid head (tail - head) was sorted c.sort_unstable.ensures.len in
    let is : slice_range (with_items queue now).items head tail ≡ sorted =
    ap (λ (l : List ℕ). slice_range l head tail) (with_items_is queue now (omega arith))
    ∙ between-put_mid head (tail - head) was sorted tail (omega arith) part in
    subst IsNonDecreasing (sym is)
    (IsNonDecreasingBy-from_sort (λ x. x) sorted c.sort_unstable.ensures.sorted)
