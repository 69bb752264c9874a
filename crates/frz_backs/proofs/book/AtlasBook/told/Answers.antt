use Rattle.std.proofs.Common.{◌≡◌, ◌∙◌, ap, sym, Some}
use Rattle.frz_exits.specs.Books.{first_value as line_value}
use Rattle.frz_backs.specs.Codes.{codes_of}
use Rattle.frz_backs.specs.FileOn.{loaded_back}
use Rattle.frz_backs.specs.Values.{with_plies}
use Rattle.frz_backs.proofs.FirstValue.{none_left, table_has, table_lacks}
use Rattle.frz_backs.proofs.book.AtlasBook.told.Goals as goal

pub returns-in-Some : goal.returns-in-Some
returns-in-Some c =
    let self = c.args.self.now in
    let rest = line_value self.behind.now c.args.q.now in
    let back = c.back-item.result in
    let white = c.in-Some.white in
    let black = c.in-Some.black in
    let has : Some (white, black) ≡ codes_of (loaded_back back) c.args.q.now = c.in-Some.ensures in
    c.with_plies.ensures
    ∙ (ap (with_plies self.counts white black) c.pair_value.ensures
    ∙ sym (c.loop-back.invariant ∙ table_has self.counts rest self.backs.now
    c.loop-back.back-index c.args.q.now back c.loop-back-test.true c.back-item.is white black has))

pub loop-back-preserved : goal.loop-back-preserved
loop-back-preserved c =
    let self = c.args.self.now in
    c.loop-back.invariant ∙ table_lacks self.counts (line_value self.behind.now c.args.q.now)
    self.backs.now c.loop-back.back-index c.args.q.now c.back-item.result c.loop-back-test.true
    c.back-item.is (sym c.in_default.is ∙ c.codes_on.ensures)

pub returns : goal.returns
returns c =
    let self = c.args.self.now in
    c.value_of.ensures ∙ sym (c.loop-back.invariant ∙ none_left self.counts
    (line_value self.behind.now c.args.q.now) self.backs.now c.loop-back.back-index c.args.q.now
    c.loop-back-test.false)
