use Rattle.frz_retro.proofs.GameMoves.{Known, there, leads_inside, inside_leads, free_arm}
use Rattle.frz_retro.proofs.moves.game_moves.Goals as goal

known : (c : goal.After-all_listed) → Known
known c = record {
  member = c.membership.ensures.member;
  number = c.membership.ensures.number;
  position = c.membership.ensures.position;
  listed = c.all_listed.ensures;
}

pub returns-clause-there : goal.returns-clause-there
returns-clause-there c = there (known c)

pub returns-clause-inside : goal.returns-clause-inside
returns-clause-inside c rules value i m q =
    (leads_inside (known c) rules value i m q, inside_leads (known c) rules value i m q)

pub returns-clause-free : goal.returns-clause-free
returns-clause-free c = free_arm (known c)
