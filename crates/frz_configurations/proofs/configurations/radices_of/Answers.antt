use Rattle.std.proofs.Common.{◌≡◌, arith}
use Rattle.frz_sets.specs.Sets.{radix_of}
use Rattle.frz_configurations.proofs.Ready.{group_small, radices_more}
use Rattle.frz_configurations.proofs.configurations.radices_of.Goals as goal

pub radix-requires : goal.radix-requires
radix-requires c =
    (group_small c.args.groups.now c.loop-group.group-index c.group-item.result c.requires
    c.loop-group-test.true c.group-item.is).0

pub overflow_cast-radix : goal.overflow_cast-radix
overflow_cast-radix c =
    let small = (group_small c.args.groups.now c.loop-group.group-index c.group-item.result c.requires
    c.loop-group-test.true c.group-item.is).1 in
    omega (arith, c.radix.ensures)

pub loop-group-preserved : goal.loop-group-preserved
loop-group-preserved c =
    let small = (group_small c.args.groups.now c.loop-group.group-index c.group-item.result c.requires
    c.loop-group-test.true c.group-item.is).1 in
    let radix_is : c.radix.result ≡ radix_of c.group-item.result = omega (arith, c.radix.ensures) in
    radices_more c.args.groups.now c.loop-group.group-index c.radix.result c.group-item.result
    c.loop-group.radices.items c.push.new.self.items c.loop-group-test.true c.group-item.is
    c.loop-group.invariant c.in_ok-push.ensures.items radix_is
