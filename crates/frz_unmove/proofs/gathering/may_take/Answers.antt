use Rattle.std.proofs.Common.{◌≡◌, Bool, Option, None, Some, false, refl, sym}
use Rattle.std.specs.Prelude.{MatchOption}
use Rattle.frz_board.proofs.Lemmas.{cell_back}
use Rattle.frz_board.specs.declared.man.Man.{Man}
use Rattle.frz_board.specs.Men.{man_of_cell}
use Rattle.frz_index.specs.Room.{has_room}
use Rattle.frz_unmove.proofs.gathering.may_take.Goals as goal

none_fits : (o : Option Man) (fits : Man → Bool) → ((man : Man) → o ≡ Some man → fits man ≡ false) →
    MatchOption o (false ≡ false) (λ man. false ≡ fits man)
none_fits None fits h = refl
none_fits (Some man) fits h = sym (h man refl)

pub returns-then-not-may_lack : goal.returns-then-not-may_lack
returns-then-not-may_lack c =
    none_fits (man_of_cell c.args.taken)
    (λ man. has_room c.args.set.now c.args.q.now man c.args.to)
    (λ man e. c.may_lack.ensures c.args.q.now man c.requires.member
    (cell_back c.args.taken man.colour man.kind e) c.if-not-may_lack.true)
