use Rattle.std.proofs.Common.{◌≡◌, ◌∙◌, ℕ, List, Option, Some, None, map, sym, ap, subst}
use Rattle.frz_board.specs.Boards.{Board}
use Rattle.frz_sets.specs.declared.exit.Value.TheVariants.{Unknown}
use Rattle.frz_sets.specs.Views.{GroupLine}
use Rattle.frz_index.specs.Membership.{position_at}
use Rattle.frz_index.proofs.Lemmas.{position_tells}
use Rattle.frz_backs.specs.Loaded.{link_loaded}
use Rattle.frz_premises.specs.Trials.{AreTried}
use Rattle.frz_premises.specs.WaysOut.{outside_below}
use Rattle.frz_premises.proofs.Numbering.{arms_legal, exits_there, none_there}
use Rattle.frz_premises.proofs.walk.look.Given.{Over}
use Rattle.frz_premises.proofs.walk.look.Goals as goal
use Rattle.frz_premises.proofs.walk.look.Goals.{In-Some}

-- the position of a number, by a set of the rules' groups
by_groups : (set groups : List GroupLine) (i : ℕ) (o : Option Board) → set ≡ groups →
    o ≡ position_at set i → position_at groups i ≡ o
by_groups set groups i o fits e =
    ap (λ (g : List GroupLine). position_at g i) (sym fits) ∙ sym e

there : (g : Over) (c : In-Some g)
    → position_at c.args.game.now.rules.now.groups c.args.number ≡ Some c.in-Some.p
there g c =
    by_groups c.args.game.now.set.now c.args.game.now.rules.now.groups c.args.number
    (Some c.in-Some.p) c.args.game.now.fits c.in-Some.ensures.function

pub note_all-requires-clause-valid : goal.note_all-requires-clause-valid
note_all-requires-clause-valid g c =
    (position_tells c.args.game.now.rules.now.groups c.args.number c.in-Some.p
    (there g (goal.at.note_all-requires-clause-valid g c).In-Some)).member.valid

pub note_all-requires-clause-legal : goal.note_all-requires-clause-legal
note_all-requires-clause-legal g c =
    arms_legal c.args.game.now.rules.now (λ q. Unknown) c.args.number c.in-Some.p
    (there g (goal.at.note_all-requires-clause-legal g c).In-Some) c.as_slice.result.now
    (c.as_slice.ensures.value ∙ c.nexts_by.ensures.arms)

pub note_all-requires-clause-tried : goal.note_all-requires-clause-tried
note_all-requires-clause-tried g c =
    (outside_below c.args.game.now.rules.now.groups c.args.number, c.requires.tried)

pub returns-in-Some-clause-tried : goal.returns-in-Some-clause-tried
returns-in-Some-clause-tried g c =
    let rules = c.args.game.now.rules.now in
    subst (λ (l : List Board). AreTried c.args.leans rules (map link_loaded c.args.backs.now) l
    c.note_all.new.trials)
    (exits_there rules (λ q. Unknown) c.args.number c.in-Some.p
    (there g (goal.at.returns-in-Some-clause-tried g c).In-Some) c.as_slice.result.now
    (c.as_slice.ensures.value ∙ c.nexts_by.ensures.arms))
    (c.note_all.ensures (outside_below rules.groups c.args.number) c.requires.tried)

pub returns-in_default-clause-tried : goal.returns-in_default-clause-tried
returns-in_default-clause-tried g c =
    let rules = c.args.game.now.rules.now in
    subst (λ (l : List Board). AreTried c.args.leans rules (map link_loaded c.args.backs.now) l
    c.args.trials.now)
    (none_there rules.groups c.args.number
    (by_groups c.args.game.now.set.now rules.groups c.args.number None c.args.game.now.fits
    (sym c.in_default.is ∙ c.boards_at.ensures.function)))
    c.requires.tried
