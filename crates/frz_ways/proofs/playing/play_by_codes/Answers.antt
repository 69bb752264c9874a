use Rattle.frz_arena.specs.Codes.{is_win}
use Rattle.frz_ways.proofs.Choices.{found_code}
use Rattle.frz_ways.proofs.playing.play_by_codes.Goals as goal

pub play_at-requires-clause-there : goal.play_at-requires-clause-there
play_at-requires-clause-there g c =
    let lists = c.args.lists.now in
    (found_code c.args.own lists.nexts.items lists.codes.items (is_win c.args.cursor.code)
    c.args.cursor.code c.place_for-place.result c.place_for-place.ensures.0 c.requires.many
    c.place_for-place.ensures.1).0

pub play_at-requires-in-Input-clause-there : goal.play_at-requires-in-Input-clause-there
play_at-requires-in-Input-clause-there g c =
    let lists = c.args.lists.now in
    (found_code c.args.own lists.nexts.items lists.codes.items (is_win c.args.cursor.code)
    c.args.cursor.code c.place_for-place.result c.place_for-place.ensures.0 c.requires.many
    c.place_for-place.ensures.1).0

pub returns-in-Codes : goal.returns-in-Codes
returns-in-Codes g c =
    rw c.in-Codes.is (
      c.place_for-place.result,
      c.place_for-place.ensures.0,
      c.place_for-place.ensures.1,
      c.play_at.ensures,
    )

pub returns-in-Input : goal.returns-in-Input
returns-in-Input g c =
    rw c.in-Input.is (
      c.place_for-place.result,
      c.place_for-place.ensures.0,
      c.place_for-place.ensures.1,
      c.play_at-in-Input.ensures,
    )
