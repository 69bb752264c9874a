use Rattle.std.proofs.Common.{◌∙◌, ap, is_none, None}
use Rattle.std.proofs.lemmas.Bool.{and_parts}
use Rattle.frz_board.specs.declared.man.Colour.{Colour}
use Rattle.frz_board.specs.declared.man.Colour.TheVariants.{White}
use Rattle.frz_board.specs.Men.{other_of, same_colour}
use Rattle.frz_report.proofs.Squeezing.{is_white, has_none}
use Rattle.frz_report.proofs.squeeze.partner.Goals as goal

pub number_if_valid-requires : goal.number_if_valid-requires
number_if_valid-requires c =
    let p = c.args.p.now in
    let first = and_parts (same_colour p.turn White) (is_none p.ep) (cc) in
    let white = is_white p.turn first.0 in (
      p,
      c.requires,
      white,
      has_none p.ep first.1,
      c.hand_over.ensures
          ∙ ap (λ (t : Colour). record { cells = p.cells; turn = other_of t; ep = None }) white,
    )
