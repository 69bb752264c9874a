-- Where one ply leads, for the side and for its opponent.
use Rattle.std.proofs.Common.{◌≡◌, ◌↔◌, ◌⊎◌, ◌∙◌, ℕ, Bool, true, false, not, cond, List, inl, inr, refl, ap, sym, subst, arith}
use Rattle.std.specs.Prelude.{⊤}
use Rattle.std.specs.Bool.{IsTrue}
use Rattle.std.proofs.lemmas.Bool.{cases_Bool, cases_lt}
use Rattle.frz_board.specs.declared.man.Colour.{Colour}
use Rattle.frz_board.specs.declared.man.Colour.TheVariants.{White, Black}
use Rattle.frz_board.specs.Men.{other_of, same_colour}
use Rattle.frz_board.specs.Moving.{Step}
use Rattle.frz_sets.specs.declared.exit.Value.{Value}
use Rattle.frz_arena.specs.declared.arm.Arm.{Arm}
use Rattle.frz_arena.specs.declared.arm.Next.{Next}
use Rattle.frz_arena.specs.declared.arm.Next.TheVariants.{Inside, Outside}
use Rattle.frz_arena.specs.declared.class.Class.{Class}
use Rattle.frz_arena.specs.declared.class.Class.TheVariants.{Good, Safe, Bad}
use Rattle.frz_arena.specs.declared.node.Node.{Node}
use Rattle.frz_arena.specs.declared.node.Node.TheVariants.{Going}
use Rattle.frz_arena.specs.Arena.{Arena, IsArm}
use Rattle.frz_arena.specs.Plies.{MovesToBad, MovesToGood}
use Rattle.frz_graph.specs.Finite.{IsFinite}
use Rattle.frz_plane_game.specs.declared.target.Exits.{Exits}
use Rattle.frz_plane_game.specs.declared.target.Exits.TheVariants.{Wins, Losses}
use Rattle.frz_plane_game.specs.Spots.{IsTurnOf, Spots, has_spot}
use Rattle.frz_plane_game.specs.Targets.{LeadsInto, SomeMove}
use Rattle.frz_plane_solver.specs.Decided.{MovesTo}

good_or_not : (c : Class) → (c ≡ Good) ⊎ (c ≡ Good → ⊥)
good_or_not Good = inl refl
good_or_not Safe = inr (λ e. cc)
good_or_not Bad = inr (λ e. cc)

bad_or_not : (c : Class) → (c ≡ Bad) ⊎ (c ≡ Bad → ⊥)
bad_or_not Good = inr (λ e. cc)
bad_or_not Safe = inr (λ e. cc)
bad_or_not Bad = inl refl

-- a move leads into the target or not
pub leads_or_not : (arena : Arena Step ℕ Value) (spots : Spots) (planes : List (List ℕ))
    (side : Colour) (exits : Exits) (x : Next ℕ Value) →
    LeadsInto arena spots planes side exits x ⊎ (LeadsInto arena spots planes side exits x → ⊥)
leads_or_not arena spots planes side exits (Inside k) =
    elim (cases_Bool (has_spot planes (spots.at k)))
    [ inl is_so ↦ inl is_so | inr is_not ↦ inr (λ is_so. cc) ]
leads_or_not arena spots planes side (Wins n) (Outside v) =
    elim (good_or_not (arena.class v side)) [
      | inl good ↦ elim (cases_lt n (arena.lag v)) [
        | inl late ↦ inr (λ w. (let l = w.1 in omega arith))
        | inr soon ↦ inl (good, soon)
      ]
      | inr poor ↦ inr (λ w. poor w.0)
    ]
leads_or_not arena spots planes side Losses (Outside v) = bad_or_not (arena.class v side)

pub going_is : (m : Colour) (n : Node) (c : Colour) → IsTurnOf m n → n ≡ Going c → c ≡ m
going_is m n c t e = let P : Node → Type 0 = IsTurnOf m in subst P e t

pub other_differs : (side : Colour) → other_of side ≡ side → ⊥
other_differs White e = cc
other_differs Black e = cc

pub is_own : (m side : Colour) → same_colour m side ≡ true → m ≡ side
is_own White White e = refl
is_own White Black e = absurd cc
is_own Black White e = absurd cc
is_own Black Black e = refl

pub is_other : (m side : Colour) → same_colour m side ≡ false → m ≡ other_of side
is_other White White e = absurd cc
is_other White Black e = refl
is_other Black White e = refl
is_other Black Black e = absurd cc

-- where there is a move, the game goes on, with the mover of the configuration
mover_goes : (arena : Arena Step ℕ Value) (size : ℕ) → IsFinite arena size →
    (m c : Colour) (i : ℕ) → IsTurnOf m (arena.node i) → m ≡ c → (a : Arm Step ℕ Value) →
    IsArm arena i a → arena.node i ≡ Going c
mover_goes arena size finite m c i turn same a arm =
    let goes = finite.going i a arm in
    goes.1 ∙ ap Going (going_is m (arena.node i) goes.0 turn goes.1 ∙ same)

-- a test that is false says that P does not hold
refuted : (P : Type 0) → (P → ⊥) → IsTrue false ↔ P
refuted P is_not = ((λ t. absurd cc), λ p. absurd (is_not p))

own_good : (arena : Arena Step ℕ Value) (size : ℕ) → IsFinite arena size →
    (m side : Colour) (i : ℕ) → IsTurnOf m (arena.node i) → m ≡ side → (L : Next ℕ Value → Type 0) →
    SomeMove arena true i (λ x. IsTrue true ↔ L x) ↔ MovesToGood arena side L i
own_good arena size finite m side i turn same L = (
  λ s. inl (mover_goes arena size finite m side i turn same s.0 s.1, (s.0, s.1, s.2, s.3.0 refl)),
  λ w. elim w [
    | inl w ↦ (w.1.0, w.1.1, w.1.2, ((λ _. w.1.3), λ _. refl))
    | inr w ↦ absurd (other_differs side (going_is m (arena.node i) (other_of side) turn w.0 ∙ same))
  ],
)

other_bad : (arena : Arena Step ℕ Value) (size : ℕ) → IsFinite arena size →
    (m side : Colour) (i : ℕ) → IsTurnOf m (arena.node i) → m ≡ other_of side →
    (L : Next ℕ Value → Type 0) →
    SomeMove arena false i (λ x. IsTrue true ↔ L x) ↔ MovesToBad arena side L i
other_bad arena size finite m side i turn same L = (
  λ s. inl (
    mover_goes arena size finite m (other_of side) i turn same s.0 s.1,
    (s.0, s.1, s.2.0 refl),
  ),
  λ w. elim w [
    | inl w ↦ (w.1.0, w.1.1, ((λ _. w.1.2), λ _. refl))
    | inr w ↦ absurd (other_differs side (sym (going_is m (arena.node i) side turn w.0 ∙ same)))
  ],
)

-- some move, and none that leads elsewhere
abbrev pub EachMove : Arena Step ℕ Value → Bool → ℕ → (Next ℕ Value → Type 0) → Type 0
EachMove arena own i L =
    SomeMove arena own i (λ _. ⊤) × (SomeMove arena own i (λ x. IsTrue false ↔ L x) → ⊥)

other_good : (arena : Arena Step ℕ Value) (size : ℕ) → IsFinite arena size →
    (m side : Colour) (i : ℕ) → IsTurnOf m (arena.node i) → m ≡ other_of side →
    (L : Next ℕ Value → Type 0) → ((x : Next ℕ Value) → L x ⊎ (L x → ⊥)) →
    EachMove arena false i L ↔ MovesToGood arena side L i
other_good arena size finite m side i turn same L either = (
  λ e. (
      let each : (a : Arm Step ℕ Value) → IsArm arena i a → L a.next = λ a arm.
      elim (either a.next)
      [ inl l ↦ l | inr is_not ↦ absurd (e.1 (a, arm, refuted (L a.next) is_not)) ] in
      inr (
        mover_goes arena size finite m (other_of side) i turn same e.0.0 e.0.1,
        (e.0.0, e.0.1, each e.0.0 e.0.1),
        each,
      )),
  λ w. elim w [
    | inl w ↦ absurd (other_differs side (sym (going_is m (arena.node i) side turn w.0 ∙ same)))
    | inr w ↦ ((w.1.0, w.1.1, tt), λ s. (let f : false ≡ true = s.2.1 (w.2 s.0 s.1) in cc))
  ],
)

own_bad : (arena : Arena Step ℕ Value) (size : ℕ) → IsFinite arena size →
    (m side : Colour) (i : ℕ) → IsTurnOf m (arena.node i) → m ≡ side →
    (L : Next ℕ Value → Type 0) → ((x : Next ℕ Value) → L x ⊎ (L x → ⊥)) →
    EachMove arena true i L ↔ MovesToBad arena side L i
own_bad arena size finite m side i turn same L either = (
  λ e. (
      let each : (a : Arm Step ℕ Value) → IsArm arena i a → a.free ≡ true → L a.next = λ a arm free.
      elim (either a.next)
      [ inl l ↦ l | inr is_not ↦ absurd (e.1 (a, arm, free, refuted (L a.next) is_not)) ] in
      inr (
        mover_goes arena size finite m side i turn same e.0.0 e.0.1,
        (e.0.0, e.0.1, e.0.2, each e.0.0 e.0.1 e.0.2),
        each,
      )),
  λ w. elim w [
    | inl w ↦ absurd (other_differs side (going_is m (arena.node i) (other_of side) turn w.0 ∙ same))
    | inr w ↦ (
      (w.1.0, w.1.1, w.1.2, tt),
      λ s. (let f : false ≡ true = s.3.1 (w.2 s.0 s.1 s.2) in cc),
    )
  ],
)

-- one move of who seeks it
pub one_leads : (arena : Arena Step ℕ Value) (size : ℕ) → IsFinite arena size →
    (m side : Colour) (i : ℕ) → IsTurnOf m (arena.node i) → (L : Next ℕ Value → Type 0) →
    (own win : Bool) → own ≡ same_colour m side → cond win own (not own) ≡ true →
    SomeMove arena own i (λ x. IsTrue true ↔ L x) ↔ MovesTo arena side win L i
one_leads arena size finite m side i turn L true true is seeks =
    own_good arena size finite m side i turn (is_own m side (sym is)) L
one_leads arena size finite m side i turn L true false is seeks = absurd cc
one_leads arena size finite m side i turn L false true is seeks = absurd cc
one_leads arena size finite m side i turn L false false is seeks =
    other_bad arena size finite m side i turn (is_other m side (sym is)) L

-- each move of who shuns it
pub each_leads : (arena : Arena Step ℕ Value) (size : ℕ) → IsFinite arena size →
    (m side : Colour) (i : ℕ) → IsTurnOf m (arena.node i) → (L : Next ℕ Value → Type 0) →
    ((x : Next ℕ Value) → L x ⊎ (L x → ⊥)) →
    (own win : Bool) → own ≡ same_colour m side → cond win own (not own) ≡ false →
    EachMove arena own i L ↔ MovesTo arena side win L i
each_leads arena size finite m side i turn L either true true is seeks = absurd cc
each_leads arena size finite m side i turn L either true false is seeks =
    own_bad arena size finite m side i turn (is_own m side (sym is)) L either
each_leads arena size finite m side i turn L either false true is seeks =
    other_good arena size finite m side i turn (is_other m side (sym is)) L either
each_leads arena size finite m side i turn L either false false is seeks = absurd cc
