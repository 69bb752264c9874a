-- A group of which no cause comes is sound behind the earlier ones.
use Rattle.std.proofs.Common.{◌≡◌, ◌+◌, Bool, true, false, cond, List, length, None, Some, refl}
use Rattle.std.specs.Prelude.{nat_le, nat_lt}
use Rattle.std.specs.List.{list_any}
use Rattle.std.proofs.lemmas.Bool.{ltb-false, leb-false}
use Rattle.frz_rules.specs.declared.fault.RulesCause.TheVariants as causes
use Rattle.frz_rules.specs.Causes.{cause_of_group}
use Rattle.frz_sets.specs.Views.{GroupLine}
use Rattle.frz_sets.specs.Groups.{is_end_pawn, is_bad_count, is_bad_king, overlaps, most_men_of}
use Rattle.frz_sets.specs.Sound.{AreStates, IsSoundBehind}

no_cause : (a b c d e f : Bool) →
    cond a (Some causes.PawnSquare)
    (cond b (Some causes.Count)
    (cond c (Some causes.KingGroup)
    (cond d (Some causes.Overlap)
    (cond e (Some causes.TooManyMen) (cond f (Some causes.TooManyLines) None))))) ≡ None
    → (a ≡ false) × (b ≡ false) × (c ≡ false) × (d ≡ false) × (e ≡ false) × (f ≡ false)
no_cause true b c d e f h = absurd cc
no_cause false true c d e f h = absurd cc
no_cause false false true d e f h = absurd cc
no_cause false false false true e f h = absurd cc
no_cause false false false false true f h = absurd cc
no_cause false false false false false true h = absurd cc
no_cause false false false false false false h = (refl, refl, refl, refl, refl, refl)

pub sound_behind : (earlier : List GroupLine) (g : GroupLine) → cause_of_group earlier g ≡ None →
    AreStates g.states → IsSoundBehind earlier g
sound_behind earlier g h s =
    let p = no_cause (list_any is_end_pawn g.states) (is_bad_count g) (is_bad_king earlier g)
    (overlaps earlier g) (nat_lt 16 (most_men_of earlier g.colour + g.most))
    (nat_le 32 (length earlier)) h in
    record {
      states = s;
      no_end_pawn = p.0;
      count = p.1;
      king = p.2;
      no_overlap = p.3;
      few_men = ltb-false 16 (most_men_of earlier g.colour + g.most) p.4;
      few_groups = leb-false 32 (length earlier) p.5;
    }
