use Rattle.std.proofs.Common.{◌≡◌, ◌∙◌, None, Some, ap, length, refl, sym}
use Rattle.std.proofs.lemmas.Option.{slice_get_read}
use Rattle.frz_index.specs.Membership.{number_of}
use Rattle.frz_index.proofs.Lemmas.{number_back}
use Rattle.frz_journeys.proofs.Finding.{none_left, table_has, table_lacks}
use Rattle.frz_journeys.proofs.onward.first_holding.Goals as goal

pub returns-in-Some : goal.returns-in-Some
returns-in-Some c =
    let tables = c.args.tables.now in
    let back = c.index-tables-place.result in
    let groups = back.table.rules.groups in
    let i = c.loop-place.place in
    let q = c.args.q.now in
    let has : number_of groups q ≡ Some c.in-Some.number =
    sym (c.in-Some.ensures.function ∙ ap (λ gs. number_of gs q) c.set.ensures) in (
      back,
      c.loop-place.invariant
          ∙ table_has tables i q back c.loop-place-test.true c.index-tables-place.is c.in-Some.number
          has,
      record {
        there = slice_get_read tables (length tables) i back refl c.loop-place-test.true
            c.index-tables-place.is;
        numbered = number_back groups q c.in-Some.number has;
      },
    )

pub loop-place-preserved : goal.loop-place-preserved
loop-place-preserved c =
    let back = c.index-tables-place.result in
    let groups = back.table.rules.groups in
    let q = c.args.q.now in
    let lacks : number_of groups q ≡ None =
    sym (sym c.in_default.is ∙ c.number_on.ensures.function
    ∙ ap (λ gs. number_of gs q) c.set.ensures) in
    c.loop-place.invariant
    ∙ table_lacks c.args.tables.now c.loop-place.place q back c.loop-place-test.true
    c.index-tables-place.is lacks

pub returns : goal.returns
returns c =
    c.loop-place.invariant
    ∙ none_left c.args.tables.now c.loop-place.place c.args.q.now c.loop-place-test.false
