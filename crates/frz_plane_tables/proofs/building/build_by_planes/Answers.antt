use Rattle.std.proofs.Common.{◌≡◌, arith}
use Rattle.frz_sets.specs.Sets.{size_of}
use Rattle.frz_plane_tables.proofs.building.build_by_planes.Goals as goal

pub returns-in-Some-clause-built : goal.returns-in-Some-clause-built
returns-in-Some-clause-built g c =
    let both = c.in-Some.both in
    let is = c.in-Some.ensures in
    let sized : c.len.result ≡ size_of c.args.rules.now.groups =
    omega (arith, c.len.ensures, is.white.many) in
    record {
      bytes = _;
      one_file = record {
        white = both.white.items;
        black = both.black.items;
        white_table = is.white;
        black_table = is.black;
        whole = cc (sized, c.deref.ensures.value, c.deref-in-Some.ensures.value);
      };
      written = c.write_both.ensures.written;
    }
