use Rattle.std.proofs.Common.{◌<◌, ◌-◌, length, take, drop, arith}
use Rattle.std.proofs.lemmas.List.{length-take}
use Rattle.frz_store.specs.Told.{sink_of}
use Rattle.frz_reasons.proofs.DenialsTold.{own_failed, own_told, rest_within, taken_apart}
use Rattle.frz_reasons.proofs.hold.+write_own.Goals as goal

pub write_own-requires-in-Ok : goal.write_own-requires-in-Ok
write_own-requires-in-Ok g t c κs within =
    let arms = c.args.arms.now in
    let some = c.in-len1-up.len_at_least in
    let least = c.decreases in
    let taken = length-take (length arms - 1) (drop 1 arms) in
    let falls : length (take (length arms - 1) (drop 1 arms)) < t =
    omega (arith, some, least, taken) in (
      falls,
      (
        within.0,
        (
          within.1.0,
          (
            within.1.1.0,
            (
              within.1.1.1,
              (
                c.requires.sound,
                (
                  rest_within (g.G.NumberedGame.count c.args.game.now) arms c.requires.inside,
                  c.requires.many,
                ),
              ),
            ),
          ),
        ),
      ),
    )

pub returns-in_err-write_denial-in-Ok-clause-told :
    goal.returns-in_err-write_denial-in-Ok-clause-told
returns-in_err-write_denial-in-Ok-clause-told g t c =
    let replied = c.in-Ok.ensures.reply in
    own_failed (g.G.NumberedGame.arena c.args.game.now) c.args.side
    (g.E.Entries.codes c.args.entries.now c.args.side) c.args.arms.now _ c.arm-item.result
    (taken_apart c.args.arms.now c.arm-item.result c.in-len1-up.len_at_least c.arm-item.is)
    c.if-not-arm.false replied.0 c.in-Ok.reply replied.1 c.from_residual.result
    (sink_of g.O.Sink c.args.out.now) (sink_of g.O.Sink c.write_denial.new.out)
    c.from_residual.ensures.0 c.in_err-write_denial-in-Ok.ensures.failed

pub returns-in_ok-write_denial-in-Ok-clause-told : goal.returns-in_ok-write_denial-in-Ok-clause-told
returns-in_ok-write_denial-in-Ok-clause-told g t c =
    let replied = c.in-Ok.ensures.reply in
    own_told (g.G.NumberedGame.arena c.args.game.now) c.args.side
    (g.E.Entries.codes c.args.entries.now c.args.side) c.args.arms.now _ c.arm-item.result
    (taken_apart c.args.arms.now c.arm-item.result c.in-len1-up.len_at_least c.arm-item.is)
    c.if-not-arm.false replied.0 c.in-Ok.reply replied.1 c.write_own-in-Ok.result
    (sink_of g.O.Sink c.args.out.now) (sink_of g.O.Sink c.write_denial.new.out)
    (sink_of g.O.Sink c.write_own-in-Ok.new.out)
    c.in_ok-write_denial-in-Ok.ensures.ok c.write_own-in-Ok.ensures.told
