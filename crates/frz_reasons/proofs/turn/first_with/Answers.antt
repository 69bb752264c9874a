use Rattle.std.proofs.Common.{below_more, sym, ap, ◌∙◌, arith, get_or}
use Rattle.frz_reasons.specs.Places.{is_one}
use Rattle.frz_reasons.proofs.PlaceFacts.{not_at_this_place, place_below_length}
use Rattle.frz_reasons.proofs.turn.first_with.Goals as goal

pub loop-place-preserved : goal.loop-place-preserved
loop-place-preserved c =
    below_more _ _ c.loop-place.invariant
    (not_at_this_place c.args.own c.args.code c.args.list.now.items c.args.codes.now.items
    c.loop-place.place c.index-deref-place.result
    (c.index-deref-place.is ∙ ap (λ l. get_or l c.loop-place.place c.index-deref-place.result)
    c.deref.ensures.0)
    (ap (λ l. is_one c.args.own c.index-deref-place.result.free c.args.code
    (get_or l c.loop-place.place 0)) (sym c.deref-in-loop-place.ensures.0)
    ∙ (sym c.is_one.ensures ∙ c.if-is_one.false)))

pub returns-clause-none : goal.returns-clause-none
returns-clause-none c = λ _ j h.
    let within = place_below_length c.args.own c.args.code c.args.list.now.items
    c.args.codes.now.items j h
    in c.loop-place.invariant j (omega (arith, within)) h
