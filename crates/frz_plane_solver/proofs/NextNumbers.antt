-- What one ply more decides, as planes.
use Rattle.std.proofs.Common.{◌≡◌, ◌↔◌, ◌⊎◌, ◌∙◌, ◌<◌, ◌+◌, ◌&&◌, if◌then◌else◌, not, ℕ, suc, Bool, true, false, List, [], ◌∷◌, inl, inr, refl, ap, sym, subst, arith}
use Rattle.std.specs.Prelude.{⊤}
use Rattle.std.specs.List.{Contains}
use Rattle.frz_board.specs.declared.man.Colour.{Colour}
use Rattle.frz_board.specs.Men.{other_of, same_colour}
use Rattle.frz_board.specs.Moving.{Step}
use Rattle.frz_sets.specs.declared.exit.Value.{Value}
use Rattle.frz_arena.specs.declared.arm.Arm.{Arm}
use Rattle.frz_arena.specs.declared.arm.Next.{Next}
use Rattle.frz_arena.specs.declared.arm.Next.TheVariants.{Inside, Outside}
use Rattle.frz_arena.specs.declared.node.Node.{Node}
use Rattle.frz_arena.specs.declared.node.Node.TheVariants.{Mate, Going}
use Rattle.frz_arena.specs.Arena.{Arena, IsArm}
use Rattle.frz_arena.specs.Plies.{FailsWithin, LeadsTo, WinsWithin}
use Rattle.frz_arena.proofs.Lemmas.{fails_later, first_in, wins_later}
use Rattle.frz_graph.specs.Finite.{IsFinite}
use Rattle.frz_planes.specs.Planes.{IsPlaneOf, has_pair}
use Rattle.frz_plane_game.specs.Spots.{AreSpots, HasNumbers, HaveNumbers, IsTurnOf, Spots, plane_at}
use Rattle.frz_plane_game.specs.Targets.{HasWorth, LeadsInto, SomeMove}
use Rattle.frz_plane_solver.specs.Decided.{Decided, DecidedAt, MovesTo, worth_of}
use Rattle.frz_plane_solver.proofs.Moves.{going_is, is_other, is_own, other_differs}
use Rattle.frz_plane_solver.proofs.Numbers.{numbers_without, same_numbers}

-- the same moves lead there
pub moves_same : (arena : Arena Step ℕ Value) (side : Colour) (win : Bool) (L M : Next ℕ Value → Type 0)
    (i : ℕ) → ((a : Arm Step ℕ Value) → IsArm arena i a → L a.next → M a.next) →
    MovesTo arena side win L i → MovesTo arena side win M i
moves_same arena side true L M i f (inl w) = inl (w.0, (w.1.0, w.1.1, w.1.2, f w.1.0 w.1.1 w.1.3))
moves_same arena side true L M i f (inr w) =
    inr (w.0, (w.1.0, w.1.1, f w.1.0 w.1.1 w.1.2), λ a arm. f a arm (w.2 a arm))
moves_same arena side false L M i f (inl w) = inl (w.0, (w.1.0, w.1.1, f w.1.0 w.1.1 w.1.2))
moves_same arena side false L M i f (inr w) =
    inr (
      w.0,
      (w.1.0, w.1.1, w.1.2, f w.1.0 w.1.1 w.1.3),
      λ a arm free. f a arm (w.2 a arm free),
    )

abbrev pub LeadsNext : Arena Step ℕ Value → Colour → Bool → ℕ → Next ℕ Value → Type 0
LeadsNext arena side win n =
    LeadsTo (Decided arena side win n) (HasWorth arena side (worth_of win n))

-- what one ply more decides
pub next_is : (arena : Arena Step ℕ Value) (side : Colour) (win : Bool) (n i : ℕ) →
    Decided arena side win (n + 1) i
    ↔ (Decided arena side win n i ⊎ MovesTo arena side win (LeadsNext arena side win n) i)
next_is arena side true n i =
    let more : suc n ≡ n + 1 = omega arith in
    let back : n + 1 ≡ suc n = omega arith in (
      λ w. subst (λ z. WinsWithin arena side z i) back w,
      λ w. subst (λ z. WinsWithin arena side z i) more w,
    )
next_is arena side false n i =
    let more : suc n ≡ n + 1 = omega arith in
    let back : n + 1 ≡ suc n = omega arith in (
      λ w. subst (λ z. FailsWithin arena side z i) back w,
      λ w. subst (λ z. FailsWithin arena side z i) more w,
    )

decided_later : (arena : Arena Step ℕ Value) (side : Colour) (win : Bool) (k n i : ℕ) → k < n + 1 →
    Decided arena side win k i → Decided arena side win n i
decided_later arena side true k n i l w = wins_later arena side k n i (omega arith) w
decided_later arena side false k n i l w = fails_later arena side k n i (omega arith) w

-- one ply more decides what moves there, and was not decided
pub next_decided : (arena : Arena Step ℕ Value) (side : Colour) (win : Bool) (n i : ℕ) →
    (MovesTo arena side win (LeadsNext arena side win n) i × (Decided arena side win n i → ⊥))
    ↔ DecidedAt arena side win (n + 1) i
next_decided arena side win n i = (
  λ both. (
    (next_is arena side win n i).1 (inr both.0),
    λ k l d. both.1 (decided_later arena side win k n i l d),
  ),
  λ both. (
    elim ((next_is arena side win n i).0 both.0) [
      | inl d ↦ absurd (both.1 n (omega arith) d)
      | inr m ↦ m
    ],
    λ d. both.1 n (omega arith) d,
  ),
)

-- the planes of what is decided tell where a move leads
pub planes_lead : (arena : Arena Step ℕ Value) (spots : Spots) → IsFinite arena spots.numbers →
    AreSpots spots → (side : Colour) (win : Bool) (n : ℕ) (planes : List (List ℕ)) →
    HaveNumbers spots planes (Decided arena side win n) →
    (i : ℕ) (a : Arm Step ℕ Value) → IsArm arena i a → (x : Next ℕ Value) → a.next ≡ x →
    LeadsInto arena spots planes side (worth_of win n) x ↔ LeadsNext arena side win n x
planes_lead arena spots finite are side win n planes have i a arm (Inside k) e =
    let inside = (finite.inside i k a arm e).0 in
    (have (spots.at k).configuration (are.configuration k inside)).there k inside refl
planes_lead arena spots finite are side win n planes have i a arm (Outside v) e =
    ((λ w. w), λ w. w)

pub next_numbers : (arena : Arena Step ℕ Value) (spots : Spots) → IsFinite arena spots.numbers →
    AreSpots spots → (side : Colour) (win : Bool) (n : ℕ) (planes : List (List ℕ)) →
    HaveNumbers spots planes (Decided arena side win n) →
    (c : ℕ) → c < spots.configurations → (p q r : List ℕ) → q ≡ plane_at planes c →
    HasNumbers spots c p
    (MovesTo arena side win (LeadsInto arena spots planes side (worth_of win n))) →
    IsPlaneOf r (λ a b. has_pair p a b && not (has_pair q a b)) →
    HasNumbers spots c r (DecidedAt arena side win (n + 1))
next_numbers arena spots finite are side win n planes have c inside p q r same moves plane =
    let L : Next ℕ Value → Type 0 = LeadsInto arena spots planes side (worth_of win n) in
    let old : HasNumbers spots c q (Decided arena side win n) =
    subst (λ (z : List ℕ). HasNumbers spots c z (Decided arena side win n)) (sym same)
    (have c inside) in
    same_numbers spots c r
    (λ i. MovesTo arena side win L i × (Decided arena side win n i → ⊥))
    (DecidedAt arena side win (n + 1))
    (λ i l e. (
      λ both. (next_decided arena side win n i).0 (
        moves_same arena side win L (LeadsNext arena side win n) i
            (λ a arm t. (planes_lead arena spots finite are side win n planes have i a arm a.next
            refl).0 t) both.0,
        both.1,
      ),
      λ d. (let both = (next_decided arena side win n i).1 d in (
        moves_same arena side win (LeadsNext arena side win n) L i
            (λ a arm t. (planes_lead arena spots finite are side win n planes have i a arm a.next
            refl).1 t) both.0,
        both.1,
      )),
    ))
    (numbers_without spots are c p q r (MovesTo arena side win L) (Decided arena side win n) moves
    old plane)

-- what was decided, with what one ply more decides
pub all_decided : (arena : Arena Step ℕ Value) (side : Colour) (win : Bool) (n i : ℕ) →
    Decided arena side win n i ⊎ (Decided arena side win n i → ⊥) →
    (Decided arena side win n i ⊎ DecidedAt arena side win (n + 1) i)
    ↔ Decided arena side win (n + 1) i
all_decided arena side win n i either = (
  λ d. elim d [
    | inl old ↦ (next_is arena side win n i).1 (inl old)
    | inr new ↦ new.0
  ],
  λ d. elim either [
    | inl is_so ↦ inl is_so
    | inr is_not ↦ inr (d, λ k l e. is_not (decided_later arena side win k n i l e))
  ],
)

mate_is : (m : Colour) (n : Node) (c : Colour) → IsTurnOf m n → n ≡ Mate c → c ≡ m
mate_is m n c t e = let P : Node → Type 0 = IsTurnOf m in subst P e t

-- who seeks it is never decided at once
pub none_at_once : (arena : Arena Step ℕ Value) (m side : Colour) (i : ℕ) →
    IsTurnOf m (arena.node i) → (own win : Bool) → own ≡ same_colour m side →
    (if win then own else not own) ≡ true → Decided arena side win 0 i → ⊥
none_at_once arena m side i turn true true is seeks d =
    other_differs side (mate_is m (arena.node i) (other_of side) turn d ∙ is_own m side (sym is))
none_at_once arena m side i turn true false is seeks d = cc
none_at_once arena m side i turn false true is seeks d = cc
none_at_once arena m side i turn false false is seeks (inl d) =
    other_differs side
    (sym (mate_is m (arena.node i) side turn d ∙ is_other m side (sym is)))
none_at_once arena m side i turn false false is seeks (inr d) =
    other_differs side
    (sym (going_is m (arena.node i) side turn d.0 ∙ is_other m side (sym is)))

-- the opponent is decided at once where he is mated
pub other_at_once : (arena : Arena Step ℕ Value) (m side : Colour) (i : ℕ) →
    (own win : Bool) → own ≡ same_colour m side → (if win then own else not own) ≡ false →
    own ≡ false → (arena.node i ≡ Mate m) ↔ Decided arena side win 0 i
other_at_once arena m side i true true is seeks is_not = absurd cc
other_at_once arena m side i true false is seeks is_not = absurd cc
other_at_once arena m side i false true is seeks is_not =
    let same = is_other m side (sym is) in
    ((λ e. e ∙ ap Mate same), λ e. e ∙ ap Mate (sym same))
other_at_once arena m side i false false is seeks is_not = absurd cc

some_in : {X : Type 0} (xs : List X) → (xs ≡ [] → ⊥) → (x : X) × Contains xs x
some_in [] is_not = absurd (is_not refl)
some_in (x ∷ xs) is_not = (x, first_in x xs)

-- the side is decided at once where it is mated, or has moves but no free one
pub own_at_once : (arena : Arena Step ℕ Value) (size : ℕ) → IsFinite arena size →
    (m side : Colour) (i : ℕ) → IsTurnOf m (arena.node i) → (own win : Bool) →
    own ≡ same_colour m side → (if win then own else not own) ≡ false → own ≡ true →
    ((arena.node i ≡ Mate m)
    ⊎ (SomeMove arena false i (λ _. ⊤) × (SomeMove arena true i (λ _. ⊤) → ⊥)))
    ↔ Decided arena side win 0 i
own_at_once arena size finite m side i turn true true is seeks is_so = absurd cc
own_at_once arena size finite m side i turn true false is seeks is_so =
    let same = is_own m side (sym is) in (
      λ d. elim d [
        | inl e ↦ inl (e ∙ ap Mate same)
        | inr both ↦ (
            let goes = finite.going i both.0.0 both.0.1 in
            inr (
              goes.1 ∙ ap Going (going_is m (arena.node i) goes.0 turn goes.1 ∙ same),
              λ a arm free. both.1 (a, arm, free, tt),
            ))
      ],
      λ d. elim d [
        | inl e ↦ inl (e ∙ ap Mate (sym same))
        | inr both ↦ (
            let one = some_in (arena.arms i) (finite.lawful.goes_on i side both.0) in
            inr ((one.0, one.1, tt), λ s. both.1 s.0 s.1 s.2))
      ],
    )
own_at_once arena size finite m side i turn false true is seeks is_so = absurd cc
own_at_once arena size finite m side i turn false false is seeks is_so = absurd cc
