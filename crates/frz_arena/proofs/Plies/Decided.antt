-- Whether a side wins or fails within n plies can be decided.
use Rattle.std.proofs.Common.{◌≡◌, ◌≤◌, ◌<◌, ℕ, zero, suc, ◌⊎◌, inl, inr, Bool, true, false, List, [], ◌∷◌, refl, sym, subst, arith}
use Rattle.std.specs.List.{Contains}
use Rattle.std.proofs.lemmas.Bool.{cases_lt, cases_Bool}
use Rattle.frz_board.specs.declared.man.Colour.{Colour}
use Rattle.frz_arena.specs.declared.class.Class.{Class}
use Rattle.frz_arena.specs.declared.class.Class.TheVariants.{Good, Safe, Bad}
use Rattle.frz_board.specs.Men.{other_of}
use Rattle.frz_arena.specs.declared.node.Node.TheVariants.{Going}
use Rattle.frz_arena.specs.declared.arm.Arm.{Arm}
use Rattle.frz_arena.specs.declared.arm.Next.{Next}
use Rattle.frz_arena.specs.declared.arm.Next.TheVariants.{Inside, Outside}
use Rattle.frz_arena.specs.Arena.{Arena, IsArm, IsLawful}
use Rattle.frz_arena.specs.Plies.{LeadsTo, IsGoodExit, IsBadExit, MovesToGood, MovesToBad, IsLost, WinsWithin, FailsWithin}
use Rattle.frz_arena.proofs.Lists.Members.{none_in_empty, first_in, later_in, in_cases, passes_or_none}
use Rattle.frz_arena.proofs.Plies.NodeKinds.{one_mover, one_mate, mate_or_going}
use Rattle.frz_arena.proofs.LocalCodes.PlyCodes.{broken, mated, mates, stale, moves, waits, node_is, some_arm}

abbrev pub Decided : Type 0 → Type 0
Decided D = D ⊎ (D → ⊥)

pub some_or_none : {X : Type 0} (D : X → Type 0) → ((x : X) → Decided (D x)) → (xs : List X) →
    ((x : X) × Contains xs x × D x) ⊎ ((x : X) → Contains xs x → D x → ⊥)
some_or_none D d [] = inr (λ x i _. none_in_empty x i)
some_or_none D d (y ∷ xs) =
    elim (d y) [
      | inl h ↦ inl (y, first_in y xs, h)
      | inr n ↦ elim (some_or_none D d xs) [
        | inl r ↦ inl (r.0, later_in y xs r.0 r.1, r.2)
        | inr none ↦ inr
            (λ x i h. elim (in_cases y xs x i)
            [ inl e ↦ n (subst D (sym e) h) | inr j ↦ none x j h ])
      ]
    ]

pub each_or_not : {X : Type 0} (D : X → Type 0) → ((x : X) → Decided (D x)) → (xs : List X) →
    ((x : X) → Contains xs x → D x) ⊎ ((x : X) × Contains xs x × (D x → ⊥))
each_or_not D d [] = inl (λ x i. absurd (none_in_empty x i))
each_or_not D d (y ∷ xs) =
    elim (d y) [
      | inl h ↦ elim (each_or_not D d xs) [
        | inl all ↦ inl (λ x i. elim (in_cases y xs x i) [ inl e ↦ subst D e h | inr j ↦ all x j ])
        | inr r ↦ inr (r.0, later_in y xs r.0 r.1, r.2)
      ]
      | inr n ↦ inr (y, first_in y xs, n)
    ]

pub both_decided : {D E : Type 0} → Decided D → Decided E → Decided (D × E)
both_decided (inl d) (inl e) = inl (d, e)
both_decided (inl d) (inr n) = inr (λ h. n h.1)
both_decided (inr n) e = inr (λ h. n h.0)

is_good : (c : Class) → Decided (c ≡ Good)
is_good Good = inl refl
is_good Safe = inr (λ h. cc)
is_good Bad = inr (λ h. cc)

is_bad : (c : Class) → Decided (c ≡ Bad)
is_bad Good = inr (λ h. cc)
is_bad Safe = inr (λ h. cc)
is_bad Bad = inl refl

is_true : (b : Bool) → Decided (b ≡ true)
is_true true = inl refl
is_true false = inr (λ h. cc)

is_within : (a b : ℕ) → Decided (a ≤ b)
is_within a b = elim (cases_lt b a) [ inl h ↦ inr (λ k. omega arith) | inr h ↦ inl h ]

pub good_decided : {M N V : Type 0} (arena : Arena M N V) (side : Colour) (n : ℕ) →
    ((q : N) → Decided (WinsWithin arena side n q)) → (x : Next N V) →
    Decided (LeadsTo (WinsWithin arena side n) (IsGoodExit arena side n) x)
good_decided arena side n d (Inside q) = d q
good_decided arena side n d (Outside v) =
    both_decided (is_good (arena.class v side)) (is_within (arena.lag v) n)

pub bad_decided : {M N V : Type 0} (arena : Arena M N V) (side : Colour) (n : ℕ) →
    ((q : N) → Decided (FailsWithin arena side n q)) → (x : Next N V) →
    Decided (LeadsTo (FailsWithin arena side n) (IsBadExit arena side) x)
bad_decided arena side n d (Inside q) = d q
bad_decided arena side n d (Outside v) = is_bad (arena.class v side)

-- a free arm has P
Freely : {M N V : Type 0} → (Next N V → Type 0) → Arm M N V → Type 0
Freely P a = a.free ≡ true → P a.next

freely_decided : {M N V : Type 0} (P : Next N V → Type 0) → ((x : Next N V) → Decided (P x)) →
    (a : Arm M N V) → Decided (Freely P a)
unfolding Freely
freely_decided P d a =
    elim (cases_Bool a.free) [
      | inl t ↦ elim (d a.next) [ inl h ↦ inl (λ _. h) | inr n ↦ inr (λ h. n (h t)) ]
      | inr f ↦ inl (λ t. absurd (cc))
    ]

-- each free arm has P, or one does not
pub each_free_or_not : {M N V : Type 0} (arena : Arena M N V) (P : Next N V → Type 0) →
    ((x : Next N V) → Decided (P x)) → (p : N) →
    ((a : Arm M N V) → IsArm arena p a → a.free ≡ true → P a.next)
    ⊎ ((a : Arm M N V) × IsArm arena p a × ((a.free ≡ true → P a.next) → ⊥))
unfolding Freely
each_free_or_not {M} {N} {V} arena P d p =
    each_or_not (Freely P) (freely_decided P d) (arena.arms p)

module _ {M N V : Type 0} (arena : Arena M N V) (law : IsLawful arena) (side : Colour)
    (P : Next N V → Type 0) (d : (x : Next N V) → Decided (P x)) (p : N) where
  -- nothing moves but at a position that goes on
  still_node : ((mover : Colour) → arena.node p ≡ Going mover → ⊥) →
      Decided (MovesToGood arena side P p) × Decided (MovesToBad arena side P p)
  still_node h = (
    inr (elim [ inl w ↦ h side w.0 | inr w ↦ h (other_of side) w.0 ]),
    inr (elim [ inl w ↦ h (other_of side) w.0 | inr w ↦ h side w.0 ]),
  )

  pub moves_decided : Decided (MovesToGood arena side P p)
  moves_decided =
      elim (node_is side (arena.node p)) [
        | broken e ↦ (still_node (λ mover g. cc)).0
        | mated e ↦ (still_node (λ mover g. cc)).0
        | mates e ↦ (still_node (λ mover g. cc)).0
        | stale other e ↦ (still_node (λ mover g. cc)).0
        | moves e ↦ elim (some_or_none (λ (a : Arm M N V). (a.free ≡ true) × P a.next)
            (λ a. both_decided (is_true a.free) (d a.next)) (arena.arms p)) [
              | inl r ↦ inl (inl (e, (r.0, r.1, r.2.0, r.2.1)))
              | inr none ↦ inr
                  (elim [ inl w ↦ none w.1.0 w.1.1 (w.1.2, w.1.3) | inr w ↦ one_mover side e w.0 ])
            ]
        | waits e ↦ elim (each_or_not (λ (a : Arm M N V). P a.next) (λ a. d a.next)
            (arena.arms p)) [
              | inl all ↦ (let a = some_arm arena law p (other_of side) e in
                  inl (inr (e, (a.0, a.1, all a.0 a.1), all)))
              | inr r ↦ inr (elim [ inl w ↦ one_mover side w.0 e | inr w ↦ r.2 (w.2 r.0 r.1) ])
            ]
      ]

  pub bad_moves_decided : Decided (MovesToBad arena side P p)
  bad_moves_decided =
      elim (node_is side (arena.node p)) [
        | broken e ↦ (still_node (λ mover g. cc)).1
        | mated e ↦ (still_node (λ mover g. cc)).1
        | mates e ↦ (still_node (λ mover g. cc)).1
        | stale other e ↦ (still_node (λ mover g. cc)).1
        | waits e ↦ elim (some_or_none (λ (a : Arm M N V). P a.next) (λ a. d a.next)
            (arena.arms p)) [
              | inl r ↦ inl (inl (e, (r.0, r.1, r.2)))
              | inr none ↦ inr
                  (elim [ inl w ↦ none w.1.0 w.1.1 w.1.2 | inr w ↦ one_mover side w.0 e ])
            ]
        | moves e ↦ elim (passes_or_none (λ (a : Arm M N V). a.free) (arena.arms p)) [
          | inr none ↦ inr (elim [ inl w ↦ one_mover side e w.0 | inr w ↦ none w.1.0 w.1.1 w.1.2 ])
          | inl f ↦ elim (each_free_or_not arena P d p) [
            | inl all ↦ inl (inr (e, (f.0, f.1, f.2, all f.0 f.1 f.2), all))
            | inr r ↦ inr (elim [ inl w ↦ one_mover side e w.0 | inr w ↦ r.2 (w.2 r.0 r.1) ])
          ]
        ]
      ]

pub wins_decided : {M N V : Type 0} (arena : Arena M N V) → IsLawful arena →
    (side : Colour) (n : ℕ) (p : N) → Decided (WinsWithin arena side n p)
wins_decided arena law side zero p =
    elim (node_is side (arena.node p)) [
      | broken e ↦ inr (λ w. cc)
      | mated e ↦ inr (λ w. one_mate side e w)
      | mates e ↦ inl e
      | stale other e ↦ inr (λ w. cc)
      | moves e ↦ inr (λ w. mate_or_going (other_of side) side w e)
      | waits e ↦ inr (λ w. mate_or_going (other_of side) (other_of side) w e)
    ]
wins_decided arena law side (suc n) p =
    elim (wins_decided arena law side n p) [
      | inl w ↦ inl (inl w)
      | inr none ↦ elim (moves_decided arena law side
          (LeadsTo (WinsWithin arena side n) (IsGoodExit arena side n))
          (good_decided arena side n (wins_decided arena law side n)) p) [
            | inl m ↦ inl (inr m)
            | inr gone ↦ inr (elim [ inl w ↦ none w | inr m ↦ gone m ])
          ]
    ]

lost_decided : {M N V : Type 0} (arena : Arena M N V) (side : Colour) (p : N) →
    Decided (IsLost arena side p)
lost_decided {M} {N} {V} arena side p =
    elim (node_is side (arena.node p)) [
      | broken e ↦ inr (elim [ inl w ↦ cc | inr w ↦ (let g = w.0 in cc) ])
      | mated e ↦ inl (inl e)
      | mates e ↦ inr (elim
          [ inl w ↦ one_mate side w e | inr w ↦ mate_or_going (other_of side) side e w.0 ])
      | stale other e ↦ inr (elim [ inl w ↦ cc | inr w ↦ (let g = w.0 in cc) ])
      | waits e ↦ inr (elim
          [ inl w ↦ mate_or_going side (other_of side) w e | inr w ↦ one_mover side w.0 e ])
      | moves e ↦ elim (passes_or_none (λ (a : Arm M N V). a.free) (arena.arms p)) [
        | inl f ↦ inr (elim [ inl w ↦ mate_or_going side side w e | inr w ↦ w.1 f.0 f.1 f.2 ])
        | inr none ↦ inl (inr (e, none))
      ]
    ]

pub fails_decided : {M N V : Type 0} (arena : Arena M N V) → IsLawful arena →
    (side : Colour) (n : ℕ) (p : N) → Decided (FailsWithin arena side n p)
fails_decided arena law side zero p = lost_decided arena side p
fails_decided arena law side (suc n) p =
    elim (fails_decided arena law side n p) [
      | inl w ↦ inl (inl w)
      | inr none ↦ elim (bad_moves_decided arena law side
          (LeadsTo (FailsWithin arena side n) (IsBadExit arena side))
          (bad_decided arena side n (fails_decided arena law side n)) p) [
            | inl m ↦ inl (inr m)
            | inr gone ↦ inr (elim [ inl w ↦ none w | inr m ↦ gone m ])
          ]
    ]

-- the least number below n, or none below n
least_below : (F : ℕ → Type 0) → ((n : ℕ) → Decided (F n)) → (n : ℕ) →
    ((m : ℕ) × (m < n) × F m × ((k : ℕ) → k < m → F k → ⊥)) ⊎ ((k : ℕ) → k < n → F k → ⊥)
least_below F d zero = inr (λ k l f. omega arith)
least_below F d (suc n) =
    elim (least_below F d n) [
      | inl r ↦ inl (r.0, (let l = r.1 in omega arith), r.2, r.3)
      | inr none ↦ elim (d n) [
        | inl f ↦ inl (n, omega arith, f, none)
        | inr away ↦ inr (λ k l f. elim (cases_lt k n)
            [ inl h ↦ none k h f | inr h ↦ (let e : k ≡ n = omega arith in away (subst F e f)) ])
      ]
    ]

pub least_of : (F : ℕ → Type 0) → ((n : ℕ) → Decided (F n)) → (n : ℕ) → F n →
    (m : ℕ) × (m ≤ n) × F m × ((k : ℕ) → k < m → F k → ⊥)
least_of F d n f =
    elim (least_below F d (suc n)) [
      | inl r ↦ (r.0, (let l = r.1 in omega arith), r.2, r.3)
      | inr none ↦ absurd (none n (omega arith) f)
    ]
