use Rattle.std.proofs.Common.{◌∙◌, map}
use Rattle.frz_backs.specs.Links.{backs_of}
use Rattle.frz_backs.specs.Loaded.{link_loaded}
use Rattle.frz_ways.specs.Shown.{PlaysShown}
use Rattle.frz_journeys.specs.Tables.{codes_of}
use Rattle.frz_journeys.proofs.WayByValues.{moved_leaning, moved_plain}
use Rattle.frz_journeys.proofs.stage.play_at.Goals as goal

pub returns-in-Atlas-clause-played : goal.returns-in-Atlas-clause-played
returns-in-Atlas-clause-played g c =
    let table = c.args.table.now in
    let w = c.play_by.ensures.played in (
      w.0,
      w.1,
      w.2,
      w.3,
      w.4,
      w.5,
      moved_leaning (λ arena. PlaysShown arena c.args.player.opponent c.args.player.side
          (codes_of c.args.player.side (link_loaded table)) c.args.start c.args.reader.now
          c.play_by.new.reader w.1 w.0 c.play_by.result c.args.steps.now c.play_by.new.steps)
          table.table.kind c.new-book.result.rules.now table.table.rules c.new-book.result.backs.now
          c.args.before.now c.in-Atlas.ensures
          (c.new-book.ensures.rules ∙ c.rules-rules.ensures.rules) c.new-book.ensures.backs w.6,
    )

pub returns-in_default-clause-played : goal.returns-in_default-clause-played
returns-in_default-clause-played g c =
    let table = c.args.table.now in
    let w = c.play_by-in_default.ensures.played in (
      w.0,
      w.1,
      w.2,
      w.3,
      w.4,
      w.5,
      moved_plain (λ arena. PlaysShown arena c.args.player.opponent c.args.player.side
          (codes_of c.args.player.side (link_loaded table)) c.args.start c.args.reader.now
          c.play_by-in_default.new.reader w.1 w.0 c.play_by-in_default.result c.args.steps.now
          c.play_by-in_default.new.steps)
          table.table.kind c.new-book-in_default.result.rules.now table.table.rules
          (backs_of (map link_loaded c.args.before.now))
          (λ e. c.in_default.not-Atlas (c.kind.ensures ∙ e))
          (c.new-book-in_default.ensures ∙ c.rules-rules.ensures.rules) w.6,
    )
