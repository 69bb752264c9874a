-- The codes after a ply, and after the first.
use Rattle.std.proofs.Common.{◌≡◌, ◌⊎◌, ◌∙◌, ◌<◌, ◌≤◌, ◌+◌, ◌*◌, ℕ, Bool, true, false, List, length, slice_index, inl, inr, refl, sym, subst, arith}
use Rattle.std.proofs.lemmas.Bool.{cases_lt}
use Rattle.frz_board.specs.declared.man.Colour.{Colour}
use Rattle.frz_arena.specs.declared.node.Node.{Node}
use Rattle.frz_arena.specs.declared.node.Node.TheVariants.{Broken, Mate, Stalemate, Going}
use Rattle.frz_arena.specs.Arena.{Arena}
use Rattle.frz_arena.specs.Plies.{FailsWithin, WinsWithin}
use Rattle.frz_arena.proofs.Lemmas.{broken_never_fails, broken_never_wins, fails_later, never_both, wins_later}
use Rattle.frz_sweep.specs.Told.{AreTold, IsTold}
use Rattle.frz_plane_game.specs.Spots.{AreSpots, Spots}
use Rattle.frz_plane_solver.specs.Marks.{IsDecidedTo}
use Rattle.frz_plane_solver.specs.Walks.{IsSolvedTo}
use Rattle.frz_plane_solver.specs.declared.marked.MarkedPlanes.{MarkedPlanes}
use Rattle.frz_plane_solver.specs.Decided.{ArePut, DecidedAt}
use Rattle.frz_plane_solver.proofs.AllNumbers.{told_by_planes}
use Rattle.frz_plane_solver.proofs.Telling.{told_broken, told_failure, told_open, told_still, told_win}

-- P holds or not
abbrev pub Either : Type 0 → Type 0
Either P = P ⊎ (P → ⊥)

-- what a ply decides can be told, by what was decided before and is decided after
at_or_not : (Before After At : Type 0) → Either Before → Either After → (At → After) →
    (At → Before → ⊥) → (After → (Before → ⊥) → At) → Either At
at_or_not Before After At (inl is_so) after is not_before make = inr (λ a. not_before a is_so)
at_or_not Before After At (inr is_not) (inl is_so) is not_before make = inl (make is_so is_not)
at_or_not Before After At (inr is_not) (inr never) is not_before make = inr (λ a. never (is a))

still_of : (Before After At : Type 0) → Either Before → (After → (Before → ⊥) → At) → (At → ⊥) →
    After → Before
still_of Before After At (inl is_so) make none after = is_so
still_of Before After At (inr is_not) make none after = absurd (none (make after is_not))

wins_at : {M V : Type 0} (arena : Arena M ℕ V) (side : Colour) (n i : ℕ) →
    WinsWithin arena side (n + 1) i → (WinsWithin arena side n i → ⊥) →
    DecidedAt arena side true (n + 1) i
wins_at arena side n i w is_not = (w, λ k l v. is_not (wins_later arena side k n i (omega arith) v))

fails_at : {M V : Type 0} (arena : Arena M ℕ V) (side : Colour) (n i : ℕ) →
    FailsWithin arena side (n + 1) i → (FailsWithin arena side n i → ⊥) →
    DecidedAt arena side false (n + 1) i
fails_at arena side n i f is_not = (f, λ k l v. is_not (fails_later arena side k n i (omega arith) v))

-- a number that is decided within so many plies, and no fewer
abbrev pub IsNew : {M V : Type 0} → Arena M ℕ V → ℕ → Colour → Bool → ℕ → ℕ → Type 0
IsNew arena size side win n i = (i < size) × DecidedAt arena side win n i

-- the codes of a number after a ply
pub ply_told : {M V : Type 0} (arena : Arena M ℕ V) (size : ℕ) →
    ((i : ℕ) → size ≤ i → arena.node i ≡ Broken) → (side : Colour) (n : ℕ)
    (old mid new : List ℕ) → AreTold arena side (n + 1) old →
    ArePut (IsNew arena size side true (n + 1)) (2 + 2 * (n + 1)) old mid →
    ArePut (IsNew arena size side false (n + 1)) (3 + 2 * (n + 1)) mid new →
    ((i : ℕ) → i < size → Either (WinsWithin arena side n i)) →
    ((i : ℕ) → i < size → Either (WinsWithin arena side (n + 1) i)) →
    ((i : ℕ) → i < size → Either (FailsWithin arena side n i)) →
    ((i : ℕ) → i < size → Either (FailsWithin arena side (n + 1) i)) →
    AreTold arena side (n + 1 + 1) new
ply_told arena size past side n old mid new told wins fails w0 w1 f0 f1 i =
    elim (cases_lt i size) [
      | inr out ↦ (
          let broken = past i out in
          let same = fails.kept i (λ d. (let l = d.0 in omega arith))
          ∙ wins.kept i (λ d. (let l = d.0 in omega arith)) in
          subst (IsTold arena side (n + 1 + 1) i) (sym same)
          (told_still arena side n i (slice_index old i) (told i)
          (λ w. absurd (broken_never_wins arena side (n + 1) i broken w))
          (λ f. absurd (broken_never_fails arena side (n + 1) i broken f))))
      | inl inside ↦ elim (at_or_not _ _ (DecidedAt arena side true (n + 1) i) (w0 i inside)
          (w1 i inside) (λ a. a.0) (λ a w. a.1 n (omega arith) w) (wins_at arena side n i)) [
            | inl won ↦ (
                let same = fails.kept i (λ d. never_both arena side (n + 1) (n + 1) i won.0 d.1.0)
                ∙ wins.put i (inside, won) in
                subst (IsTold arena side (n + 1 + 1) i) (sym same)
                (told_win arena side (n + 1) i won.0 won.1))
            | inr not_won ↦ elim (at_or_not _ _ (DecidedAt arena side false (n + 1) i) (f0 i inside)
                (f1 i inside) (λ a. a.0) (λ a f. a.1 n (omega arith) f) (fails_at arena side n i)) [
                  | inl lost ↦
                      subst (IsTold arena side (n + 1 + 1) i) (sym (fails.put i (inside, lost)))
                      (told_failure arena side (n + 1) i lost.0 lost.1)
                  | inr not_lost ↦ (
                      let same = fails.kept i (λ d. not_lost d.1) ∙ wins.kept i (λ d. not_won d.1) in
                      subst (IsTold arena side (n + 1 + 1) i) (sym same)
                      (told_still arena side n i (slice_index old i) (told i)
                      (still_of _ _ _ (w0 i inside) (wins_at arena side n i) not_won)
                      (still_of _ _ _ (f0 i inside) (fails_at arena side n i) not_lost)))
                ]
          ]
    ]

broken_or_not : (n : Node) → (n ≡ Broken) ⊎ (n ≡ Broken → ⊥)
broken_or_not Broken = inl refl
broken_or_not (Mate c) = inr (λ e. cc)
broken_or_not (Stalemate c) = inr (λ e. cc)
broken_or_not (Going c) = inr (λ e. cc)

-- the codes of what is decided at once
pub first_told : {M V : Type 0} (arena : Arena M ℕ V) (size : ℕ) →
    ((i : ℕ) → size ≤ i → arena.node i ≡ Broken) → (side : Colour)
    (old free won new : List ℕ) → ((i : ℕ) → slice_index old i ≡ 0) →
    ArePut (λ i. (i < size) × (arena.node i ≡ Broken → ⊥)) 1 old free →
    ArePut (λ i. (i < size) × WinsWithin arena side 0 i) 2 free won →
    ArePut (λ i. (i < size) × FailsWithin arena side 0 i) 3 won new →
    ((i : ℕ) → i < size → Either (WinsWithin arena side 0 i)) →
    ((i : ℕ) → i < size → Either (FailsWithin arena side 0 i)) →
    AreTold arena side 1 new
first_told arena size past side old free won new zero live wins fails w f i =
    let T : ℕ → Type 0 = IsTold arena side 1 i in
    elim (cases_lt i size) [
      | inr out ↦ (
          let same = fails.kept i (λ d. (let l = d.0 in omega arith))
          ∙ (wins.kept i (λ d. (let l = d.0 in omega arith))
          ∙ (live.kept i (λ d. (let l = d.0 in omega arith)) ∙ zero i)) in
          subst T (sym same) (told_broken arena side i (past i out)))
      | inl inside ↦ elim (f i inside) [
        | inl lost ↦ subst T (sym (fails.put i (inside, lost)))
            (told_failure arena side 0 i lost (λ k l. absurd (omega arith)))
        | inr not_lost ↦ elim (w i inside) [
          | inl win ↦ subst T (sym (fails.kept i (λ d. not_lost d.1) ∙ wins.put i (inside, win)))
              (told_win arena side 0 i win (λ k l. absurd (omega arith)))
          | inr not_won ↦ elim (broken_or_not (arena.node i)) [
            | inl broken ↦
                subst T (sym (fails.kept i (λ d. not_lost d.1) ∙ (wins.kept i (λ d. not_won d.1)
                ∙ (live.kept i (λ d. d.1 broken) ∙ zero i)))) (told_broken arena side i broken)
            | inr there ↦
                subst T (sym (fails.kept i (λ d. not_lost d.1) ∙ (wins.kept i (λ d. not_won d.1)
                ∙ live.put i (inside, there)))) (told_open arena side i there not_won not_lost)
          ]
        ]
      ]
    ]

-- where a ply decides nothing, the codes stay as they are
pub same_told : {M V : Type 0} (arena : Arena M ℕ V) (side : Colour) (m : ℕ) (P Q : ℕ → Type 0)
    (one other : ℕ) (old mid new : List ℕ) → AreTold arena side m old → ArePut P one old mid →
    ArePut Q other mid new → ((i : ℕ) → P i → ⊥) → ((i : ℕ) → Q i → ⊥) →
    AreTold arena side m new
same_told arena side m P Q one other old mid new told first second no_first no_second i =
    subst (IsTold arena side m i)
    (sym (second.kept i (no_second i) ∙ first.kept i (no_first i))) (told i)

-- where it decides a number, that has a code of so many plies
pub late_win : {M V : Type 0} (arena : Arena M ℕ V) (size : ℕ) (side : Colour) (n : ℕ)
    (old mid new : List ℕ) →
    ArePut (IsNew arena size side true n) (2 + 2 * n) old mid →
    ArePut (IsNew arena size side false n) (3 + 2 * n) mid new →
    ((i : ℕ) × (i < size) × DecidedAt arena side true n i) →
    (i : ℕ) × (2 + 2 * n ≤ slice_index new i)
late_win arena size side n old mid new wins fails (i, inside, won) =
    let same = fails.kept i (λ d. never_both arena side n n i won.0 d.1.0)
    ∙ wins.put i (inside, won) in
    (i, omega arith)

pub late_failure : {M V : Type 0} (arena : Arena M ℕ V) (size : ℕ) (side : Colour) (n : ℕ)
    (mid new : List ℕ) → ArePut (IsNew arena size side false n) (3 + 2 * n) mid new →
    ((i : ℕ) × (i < size) × DecidedAt arena side false n i) →
    (i : ℕ) × (2 + 2 * n ≤ slice_index new i)
late_failure arena size side n mid new fails (i, inside, lost) =
    let same = fails.put i (inside, lost) in (i, omega arith)

-- the planes and codes after a ply
pub solved_next : {M V : Type 0} (arena : Arena M ℕ V) (spots : Spots) → AreSpots spots →
    ((i : ℕ) → spots.numbers ≤ i → arena.node i ≡ Broken) → (side : Colour) (n : ℕ)
    (won lost next_won next_lost : MarkedPlanes) (old mid new : List ℕ) →
    IsSolvedTo arena spots side n won lost old → length new ≡ spots.numbers →
    IsDecidedTo arena spots side true (n + 1) next_won →
    IsDecidedTo arena spots side false (n + 1) next_lost →
    ArePut (IsNew arena spots.numbers side true (n + 1)) (2 + 2 * (n + 1)) old mid →
    ArePut (IsNew arena spots.numbers side false (n + 1)) (3 + 2 * (n + 1)) mid new →
    IsSolvedTo arena spots side (n + 1) next_won next_lost new
solved_next arena spots are past side n won lost next_won next_lost old mid new solved many wins
    failures put_wins put_failures =
    record {
      many = many;
      wins = wins;
      failures = failures;
      told = ply_told arena spots.numbers past side n old mid new solved.told put_wins put_failures
          (told_by_planes spots are won.planes.items (WinsWithin arena side n) solved.wins.numbers)
          (told_by_planes spots are next_won.planes.items (WinsWithin arena side (n + 1)) wins.numbers)
          (told_by_planes spots are lost.planes.items (FailsWithin arena side n)
          solved.failures.numbers)
          (told_by_planes spots are next_lost.planes.items (FailsWithin arena side (n + 1))
          failures.numbers);
    }
