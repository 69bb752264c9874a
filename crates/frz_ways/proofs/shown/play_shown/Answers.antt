use Rattle.std.proofs.Common.{◌≡◌, [], inl, inr, refl, subst, sym, ap, true, ◌∙◌}
use Rattle.frz_store.specs.Told.{source_of}
use Rattle.frz_ways.specs.declared.hearing.Reader.{Reader}
use Rattle.frz_ways.proofs.InMemory.{shown_loaded, shown_unread}
use Rattle.frz_ways.proofs.Taking.{took_none}
use Rattle.frz_ways.proofs.shown.play_shown.Goals as goal

pub returns-then-entry-eq1-clause-played : goal.returns-then-entry-eq1-clause-played
returns-then-entry-eq1-clause-played g c =
    let w = c.play_held.ensures.played in
    let same = c.play_held.ensures.same in (
      w.0,
      [],
      w.1,
      w.2,
      took_none (source_of g.I.Source c.args.input.now)
          (source_of g.I.Source c.play_held.new.input)
          (ap (λ i. (source_of g.I.Source i).left) c.play_held.ensures.unread),
      λ e. (refl, subst (λ (r : Reader). r.ended ≡ true) (sym same) e),
      shown_unread (g.G.NumberedGame.arena c.args.game.now) c.in-Codes.is c.args.player.side
          (g.E.Entries.codes c.args.entries.now c.args.player.side) c.args.start c.args.reader.now
          c.play_held.new.reader same w.0 c.play_held.result c.args.steps.now c.play_held.new.steps w.3,
    )

pub returns-else-entry-eq1-clause-played : goal.returns-else-entry-eq1-clause-played
returns-else-entry-eq1-clause-played g c =
    let w = c.play_loaded.ensures.played in (
      w.0,
      w.1,
      w.2,
      w.3,
      w.4,
      w.5,
      shown_loaded (g.G.NumberedGame.arena c.args.game.now) c.args.player.opponent
          c.args.player.side (g.E.Entries.codes c.args.entries.now c.args.player.side)
          c.args.start c.args.reader.now c.play_loaded.new.reader w.1 w.0 c.play_loaded.result
          c.args.steps.now c.play_loaded.new.steps
          (inr (λ e. c.if-entry-eq1.false (c.entry.ensures ∙ e))) w.6,
    )

pub returns-in-Input-clause-played : goal.returns-in-Input-clause-played
returns-in-Input-clause-played g c =
    let w = c.play_loaded-in-Input.ensures.played in (
      w.0,
      w.1,
      w.2,
      w.3,
      w.4,
      w.5,
      shown_loaded (g.G.NumberedGame.arena c.args.game.now) c.args.player.opponent
          c.args.player.side (g.E.Entries.codes c.args.entries.now c.args.player.side)
          c.args.start c.args.reader.now c.play_loaded-in-Input.new.reader w.1 w.0
          c.play_loaded-in-Input.result c.args.steps.now c.play_loaded-in-Input.new.steps
          (inl c.in-Input.is) w.6,
    )
