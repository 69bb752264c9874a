use Rattle.std.proofs.Common.{◌≡◌, ◌∙◌, ap, sym, Bool, true, false, ◌&&◌}
use Rattle.std.specs.List.{list_all}
use Rattle.frz_sets.specs.Views.{RuleLines}
use Rattle.frz_backs.specs.Books.{back_codes}
use Rattle.frz_backs.specs.Counts.{counts_for, is_short, lines_count}
use Rattle.frz_backs.specs.FileOn.{loaded_back}
use Rattle.frz_backs.proofs.counts.counts_for.Goals as goal

-- both parts, by the first
both_parts : (lines short result : Bool) → true ≡ lines → result ≡ short →
    result ≡ (lines && short)
both_parts true short result e h = h
both_parts false short result e h = absurd (cc)

first_part : (lines short : Bool) → false ≡ lines → false ≡ (lines && short)
first_part true short e = absurd (cc)
first_part false short e = e

pub returns-then-lines_count : goal.returns-then-lines_count
unfolding counts_for
returns-then-lines_count c =
    let back = c.args.back.now in
    let lines : true ≡ lines_count c.args.side back.table.rules.exits =
    sym c.if-lines_count.true ∙ c.lines_count.ensures
    ∙ ap (lines_count c.args.side) (c.deref.ensures.value
    ∙ ap (λ (r : RuleLines). r.exits) (c.behind-back.view_is ∙ c.rules.ensures.rules)) in
    both_parts (lines_count c.args.side back.table.rules.exits)
    (list_all is_short (back_codes (loaded_back back) c.args.side)) c.are_short.result lines
    (c.are_short.ensures ∙ ap (list_all is_short) c.codes_of.ensures)

pub returns-else-lines_count : goal.returns-else-lines_count
unfolding counts_for
returns-else-lines_count c =
    let back = c.args.back.now in
    let lines : false ≡ lines_count c.args.side back.table.rules.exits =
    sym c.if-lines_count.false ∙ c.lines_count.ensures
    ∙ ap (lines_count c.args.side) (c.deref.ensures.value
    ∙ ap (λ (r : RuleLines). r.exits) (c.behind-back.view_is ∙ c.rules.ensures.rules)) in
    c.if-lines_count.false ∙ first_part (lines_count c.args.side back.table.rules.exits)
    (list_all is_short (back_codes (loaded_back back) c.args.side)) lines
