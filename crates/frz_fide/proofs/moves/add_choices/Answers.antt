use Rattle.std.proofs.Common.{◌∙◌, ap, sym}
use Rattle.frz_board.specs.Attacks.{is_attacked}
use Rattle.frz_board.specs.Men.{other_of}
use Rattle.frz_board.specs.Moving.{Step}
use Rattle.frz_squares.specs.SquareSets.{set_of}
use Rattle.frz_fide.specs.Exposing.{without}
use Rattle.frz_fide.proofs.Choosing.{all_added, queen_fits, rook_fits, bishop_fits, knight_fits}
use Rattle.frz_fide.proofs.moves.add_choices.Goals as goal

pub returns : goal.returns
returns c =
    all_added c.args.p.now c.args.from c.args.to c.promotion.result c.promotion-2.result
    c.promotion-3.result c.promotion-4.result
    c.args.list.now.items c.add_if_safe.new.list.items c.add_if_safe-2.new.list.items
    c.add_if_safe-3.new.list.items c.add_if_safe-4.new.list.items
    c.promotion.ensures c.promotion-2.ensures c.promotion-3.ensures c.promotion-4.ensures
    c.add_if_safe.ensures c.add_if_safe-2.ensures c.add_if_safe-3.ensures c.add_if_safe-4.ensures

pub add_if_safe-requires-clause-room : goal.add_if_safe-requires-clause-room
add_if_safe-requires-clause-room c =
    queen_fits c.args.p.now c.args.from c.args.to c.promotion.result c.args.list.now.items
    c.promotion.ensures c.requires.room

pub add_if_safe-requires-2-clause-room : goal.add_if_safe-requires-2-clause-room
add_if_safe-requires-2-clause-room c =
    rook_fits c.args.p.now c.args.from c.args.to c.promotion.result c.promotion-2.result
    c.args.list.now.items c.add_if_safe.new.list.items
    c.promotion.ensures c.promotion-2.ensures c.add_if_safe.ensures c.requires.room

pub add_if_safe-requires-3-clause-room : goal.add_if_safe-requires-3-clause-room
add_if_safe-requires-3-clause-room c =
    bishop_fits c.args.p.now c.args.from c.args.to c.promotion.result c.promotion-2.result
    c.promotion-3.result
    c.args.list.now.items c.add_if_safe.new.list.items c.add_if_safe-2.new.list.items
    c.promotion.ensures c.promotion-2.ensures c.promotion-3.ensures c.add_if_safe.ensures
    c.add_if_safe-2.ensures c.requires.room

pub add_if_safe-requires-4-clause-room : goal.add_if_safe-requires-4-clause-room
add_if_safe-requires-4-clause-room c =
    knight_fits c.args.p.now c.args.from c.args.to c.promotion.result c.promotion-2.result
    c.promotion-3.result c.promotion-4.result
    c.args.list.now.items c.add_if_safe.new.list.items c.add_if_safe-2.new.list.items
    c.add_if_safe-3.new.list.items
    c.promotion.ensures c.promotion-2.ensures c.promotion-3.ensures c.promotion-4.ensures
    c.add_if_safe.ensures c.add_if_safe-2.ensures c.add_if_safe-3.ensures c.requires.room

pub add_if_safe-requires-clause-barred : goal.add_if_safe-requires-clause-barred
add_if_safe-requires-clause-barred c king =
    c.requires.barred king
    ∙ ap (λ (m : Step). set_of (λ s. is_attacked (without c.args.p.now m.from) s
    (other_of c.args.p.now.turn))) (sym c.promotion.ensures)

pub add_if_safe-requires-2-clause-barred : goal.add_if_safe-requires-2-clause-barred
add_if_safe-requires-2-clause-barred c king =
    c.requires.barred king
    ∙ ap (λ (m : Step). set_of (λ s. is_attacked (without c.args.p.now m.from) s
    (other_of c.args.p.now.turn))) (sym c.promotion-2.ensures)

pub add_if_safe-requires-3-clause-barred : goal.add_if_safe-requires-3-clause-barred
add_if_safe-requires-3-clause-barred c king =
    c.requires.barred king
    ∙ ap (λ (m : Step). set_of (λ s. is_attacked (without c.args.p.now m.from) s
    (other_of c.args.p.now.turn))) (sym c.promotion-3.ensures)

pub add_if_safe-requires-4-clause-barred : goal.add_if_safe-requires-4-clause-barred
add_if_safe-requires-4-clause-barred c king =
    c.requires.barred king
    ∙ ap (λ (m : Step). set_of (λ s. is_attacked (without c.args.p.now m.from) s
    (other_of c.args.p.now.turn))) (sym c.promotion-4.ensures)
