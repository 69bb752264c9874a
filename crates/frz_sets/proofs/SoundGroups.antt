-- What soundness says of each group.
use Rattle.std.proofs.Common.{◌≡◌, ◌+◌, ◌≤◌, Bool, true, false, ◌||◌, List, [], ◌∷◌, ◌++◌, length, refl, arith, length-append}
use Rattle.std.specs.Prelude.{nat_lt, ◌==◌}
use Rattle.std.proofs.lemmas.Bool.{ltb-false}
use Rattle.frz_sets.specs.Views.{GroupLine, RuleLines}
use Rattle.frz_sets.specs.Sound.{IsSoundBehind, AreSoundAfter, AreSoundLines, IsCounted, AreCounted}

neither : (a b : Bool) → (a || b) ≡ false → (a ≡ false) × (b ≡ false)
neither true b h = absurd cc
neither false b h = (refl, h)

pub counted_group : (earlier : List GroupLine) (g : GroupLine) → IsSoundBehind earlier g →
    IsCounted g
counted_group earlier g n =
    let a = neither (nat_lt g.most g.least) ((g.most == 0) || nat_lt (length g.states) g.most)
    n.count in
    let b = neither (g.most == 0) (nat_lt (length g.states) g.most) a.1 in
    record {
      order = ltb-false g.most g.least a.0;
      room = ltb-false (length g.states) g.most b.1;
      men = (let m = n.few_men in omega arith);
      few = n.states.few;
    }

counted_after : (earlier groups : List GroupLine) → AreSoundAfter earlier groups → AreCounted groups
counted_after earlier [] h = tt
counted_after earlier (g ∷ groups) h =
    (counted_group earlier g h.0, counted_after (earlier ++ g ∷ []) groups h.1)

pub counted : (r : RuleLines) → AreSoundLines r → AreCounted r.groups
counted r h = counted_after [] r.groups h.groups

-- there are at most 32 groups
few_after : (earlier groups : List GroupLine) → length earlier ≤ 32 → AreSoundAfter earlier groups →
    length earlier + length groups ≤ 32
few_after earlier [] l h = omega arith
few_after earlier (g ∷ groups) l h =
    let n = (h.0).few_groups in
    let more : length (earlier ++ g ∷ []) ≡ length earlier + 1 = length-append earlier (g ∷ []) in
    let f = few_after (earlier ++ g ∷ []) groups (omega arith) h.1 in
    omega arith

pub few_groups : (r : RuleLines) → AreSoundLines r → length r.groups ≤ 32
few_groups r h = let f = few_after [] r.groups (omega arith) h.groups in omega arith
