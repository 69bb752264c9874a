-- What is wrong with a group line: the first cause.
use Rattle.std.specs.Prelude.{◌+◌, nat_le, nat_lt, List, length, Option, None, Some, if◌then◌else◌}
use Rattle.std.specs.List.{list_any}
use Rattle.frz_rules.specs.declared.fault.RulesCause.{RulesCause}
use Rattle.frz_rules.specs.declared.fault.RulesCause.TheVariants as causes
use Rattle.frz_sets.specs.declared.limits.TheConstants.{MOST_GROUPS, MOST_MEN}
use Rattle.frz_sets.specs.Views.{GroupLine}
use Rattle.frz_sets.specs.Groups.{is_end_pawn, is_bad_count, is_bad_king, overlaps, most_men_of}

-- the first cause of a group line behind the earlier ones
abbrev pub cause_of_group : List GroupLine → GroupLine → Option RulesCause
cause_of_group earlier g =
    if list_any is_end_pawn g.states then Some causes.PawnSquare else
    (if is_bad_count g then Some causes.Count else
    (if is_bad_king earlier g then Some causes.KingGroup else
    (if overlaps earlier g then Some causes.Overlap else
    (if nat_lt MOST_MEN (most_men_of earlier g.colour + g.most) then Some causes.TooManyMen else
    (if nat_le MOST_GROUPS (length earlier) then Some causes.TooManyLines else None)))))
