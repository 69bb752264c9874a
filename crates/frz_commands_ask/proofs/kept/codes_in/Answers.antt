use Rattle.std.proofs.Common.{refl, arith}
use Rattle.frz_board.specs.declared.man.Colour.TheVariants.{White, Black}
use Rattle.frz_index.specs.Members.{Member}
use Rattle.frz_commands_ask.proofs.KeptFiles.{inside_it, number_below, entry_kept}
use Rattle.frz_commands_ask.proofs.kept.codes_in.Given.{Over}
use Rattle.frz_commands_ask.proofs.kept.codes_in.Goals as goal
use Rattle.frz_commands_ask.proofs.kept.codes_in.Goals.{In_ok-i}

-- the position is in the set
is_member_inside : (g : Over) (c : In_ok-i g) → Member c.args.table.now.rules.groups c.args.p.now
is_member_inside g c =
    inside_it c.args.table.now c.set.result.now c.set.ensures c.args.p.now c.in_ok-i.i
    c.in_ok-i.ensures

pub entry-requires-clause-number : goal.entry-requires-clause-number
entry-requires-clause-number g c =
    number_below c.args.table.now c.set.result.now c.set.ensures c.args.p.now c.in_ok-i.i
    c.in_ok-i.ensures

pub entry-requires-2-clause-number : goal.entry-requires-2-clause-number
entry-requires-2-clause-number g c =
    number_below c.args.table.now c.set.result.now c.set.ensures c.args.p.now c.in_ok-i.i
    c.in_ok-i.ensures

pub returns-clause-kept : goal.returns-clause-kept
returns-clause-kept g c =
    let table = c.args.table.now in
    let groups = c.set.result.now in
    let told = g.S.Store.files c.args.store.now in
    record {
      inside = is_member_inside g (goal.at.returns-clause-kept g c).In_ok-i;
      white_small = omega arith;
      black_small = omega arith;
      white =
          entry_kept table groups c.set.ensures c.args.p.now c.in_ok-i.i c.in_ok-i.ensures White
          told told refl
          c.in_ok-white.white c.in_ok-white.ensures.code;
      black =
          entry_kept table groups c.set.ensures c.args.p.now c.in_ok-i.i c.in_ok-i.ensures Black
          told
          (g.S.Store.files c.entry.new.store) c.in_ok-white.ensures.quiet.unwritten.files
          c.in_ok-black.black c.in_ok-black.ensures.code;
    }

pub returns-clause-unread : goal.returns-clause-unread
returns-clause-unread g c = λ none.
    absurd (none (is_member_inside g (goal.at.returns-clause-unread g c).In_ok-i))

pub returns-in_err-white-clause-unread : goal.returns-in_err-white-clause-unread
returns-in_err-white-clause-unread g c = λ none.
    absurd (none (is_member_inside g (goal.at.returns-in_err-white-clause-unread g c).In_ok-i))

pub returns-in_err-black-clause-unread : goal.returns-in_err-black-clause-unread
returns-in_err-black-clause-unread g c = λ none.
    absurd (none (is_member_inside g (goal.at.returns-in_err-black-clause-unread g c).In_ok-i))

pub returns-clause-unasked : goal.returns-clause-unasked
returns-clause-unasked g c = λ none.
    absurd (none (is_member_inside g (goal.at.returns-clause-unasked g c).In_ok-i))

pub returns-in_err-white-clause-unasked : goal.returns-in_err-white-clause-unasked
returns-in_err-white-clause-unasked g c = λ none.
    absurd (none (is_member_inside g (goal.at.returns-in_err-white-clause-unasked g c).In_ok-i))

pub returns-in_err-black-clause-unasked : goal.returns-in_err-black-clause-unasked
returns-in_err-black-clause-unasked g c = λ none.
    absurd (none (is_member_inside g (goal.at.returns-in_err-black-clause-unasked g c).In_ok-i))
