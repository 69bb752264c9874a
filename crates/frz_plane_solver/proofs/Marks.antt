-- Planes of which some are marked, one by one.
use Rattle.std.proofs.Common.{◌≡◌, ◌≢◌, ◌<◌, ◌∙◌, ℕ, zero, suc, Bool, true, false, cond, List, [], ◌∷◌, length, get_or, slice_set, ◌+◌, inl, inr, refl, ap, sym, subst, arith}
use Rattle.std.proofs.lemmas.Bool.{cases_Bool}
use Rattle.std.proofs.lemmas.List.{get_or-set_same, get_or-set_other, get_or_default}
use Rattle.frz_board.specs.declared.man.Colour.{Colour}
use Rattle.frz_board.specs.Moving.{Step}
use Rattle.frz_sets.specs.declared.exit.Value.{Value}
use Rattle.frz_arena.specs.Arena.{Arena}
use Rattle.frz_squares.proofs.Lemmas.{has-zero}
use Rattle.frz_planes.specs.Planes.{has_pair}
use Rattle.frz_plane_game.specs.Spots.{AreSpots, HasNumbers, HaveNumbers, Spots, plane_at}
use Rattle.frz_plane_game.specs.Targets.{is_marked}
use Rattle.frz_plane_solver.specs.Decided.{Decided, DecidedAt}
use Rattle.frz_plane_solver.specs.Marks.{MarksLast, those_marked}
use Rattle.frz_plane_solver.proofs.AllNumbers.{in_planes, told_by_planes}
use Rattle.frz_plane_solver.proofs.Filling.{same_plane}
use Rattle.frz_plane_solver.proofs.NextNumbers.{all_decided}

pub no_pair : (a b : ℕ) → has_pair [] a b ≡ false
no_pair a b = has-zero b

-- the plane of a configuration, if it is marked
pub marked_at : (marks : List Bool) (planes : List (List ℕ)) (c : ℕ) →
    plane_at (those_marked marks planes) c ≡ cond (is_marked marks c) (plane_at planes c) []
marked_at [] planes c = refl
marked_at (mark ∷ marks) [] c =
    elim (cases_Bool (is_marked (mark ∷ marks) c)) [
      | inl is_so ↦ sym (ap (λ (b : Bool). let p : List ℕ = cond b [] [] in p) is_so)
      | inr is_not ↦ sym (ap (λ (b : Bool). let p : List ℕ = cond b [] [] in p) is_not)
    ]
marked_at (true ∷ marks) (plane ∷ planes) zero = refl
marked_at (true ∷ marks) (plane ∷ planes) (suc c) = marked_at marks planes c
marked_at (false ∷ marks) (plane ∷ planes) zero = refl
marked_at (false ∷ marks) (plane ∷ planes) (suc c) = marked_at marks planes c

pub plane_there : (marks : List Bool) (planes : List (List ℕ)) (c : ℕ) →
    is_marked marks c ≡ true → plane_at (those_marked marks planes) c ≡ plane_at planes c
plane_there marks planes c is =
    marked_at marks planes c ∙ ap (λ (b : Bool). cond b (plane_at planes c) []) is

pub none_there : (marks : List Bool) (planes : List (List ℕ)) (c : ℕ) →
    is_marked marks c ≡ false → plane_at (those_marked marks planes) c ≡ []
none_there marks planes c is =
    marked_at marks planes c ∙ ap (λ (b : Bool). cond b (plane_at planes c) []) is

-- a mark, and a plane of a marked configuration, as they are read
pub mark_read : (marks : List Bool) (c : ℕ) (x : Bool) → x ≡ get_or marks c x → c < length marks →
    is_marked marks c ≡ x
mark_read marks c x e inside = sym (e ∙ get_or_default marks c x false inside)

pub plane_read : (marks : List Bool) (planes : List (List ℕ)) (c : ℕ) (x : List ℕ) →
    x ≡ get_or planes c x → c < length planes → is_marked marks c ≡ true →
    x ≡ plane_at (those_marked marks planes) c
plane_read marks planes c x e inside marked =
    e ∙ same_plane planes c x inside ∙ sym (plane_there marks planes c marked)

-- a mark that is set or taken away at one configuration
pub mark_set : (marks : List Bool) (c : ℕ) (mark : Bool) → c < length marks →
    is_marked (slice_set marks c mark) c ≡ mark
mark_set marks c mark inside = get_or-set_same marks c mark false inside

pub others_same : (marks : List Bool) (planes : List (List ℕ)) (c : ℕ) (mark : Bool)
    (plane : List ℕ) (k : ℕ) → k ≢ c →
    plane_at (those_marked (slice_set marks c mark) (slice_set planes c plane)) k
    ≡ plane_at (those_marked marks planes) k
others_same marks planes c mark plane k other =
    marked_at (slice_set marks c mark) (slice_set planes c plane) k
    ∙ ap (λ (b : Bool). cond b (plane_at (slice_set planes c plane) k) [])
    (get_or-set_other marks c k mark false other)
    ∙ ap (λ (p : List ℕ). cond (is_marked marks k) p [])
    (get_or-set_other planes c k plane [] other)
    ∙ sym (marked_at marks planes k)

pub others_kept : (marks : List Bool) (planes : List (List ℕ)) (c : ℕ) (mark : Bool)
    (k : ℕ) → k ≢ c →
    plane_at (those_marked (slice_set marks c mark) planes) k
    ≡ plane_at (those_marked marks planes) k
others_kept marks planes c mark k other =
    marked_at (slice_set marks c mark) planes k
    ∙ ap (λ (b : Bool). cond b (plane_at planes k) []) (get_or-set_other marks c k mark false other)
    ∙ sym (marked_at marks planes k)

-- where all are marked, all planes count
pub all_count : (spots : Spots) (marks : List Bool) (planes : List (List ℕ)) (P : ℕ → Type 0) →
    ((c : ℕ) → c < spots.configurations → is_marked marks c ≡ true) →
    HaveNumbers spots planes P → HaveNumbers spots (those_marked marks planes) P
all_count spots marks planes P marked have c inside =
    subst (λ (p : List ℕ). HasNumbers spots c p P)
    (sym (plane_there marks planes c (marked c inside))) (have c inside)

-- the marks of the planes that a ply adds
pub marks_last : (arena : Arena Step ℕ Value) (spots : Spots) → AreSpots spots → (side : Colour)
    (win : Bool) (n : ℕ) (planes more : List (List ℕ)) (marks : List Bool) →
    HaveNumbers spots planes (Decided arena side win n) →
    HaveNumbers spots (those_marked marks more) (DecidedAt arena side win (n + 1)) →
    MarksLast arena spots side win (n + 1) marks
marks_last arena spots are side win n planes more marks have new = record {
  before = λ i k inside same unmarked d.
      elim ((all_decided arena side win n i
      (told_by_planes spots are planes (Decided arena side win n) have i inside)).1 d) [
        | inl old ↦ (let is : n ≡ k = omega arith in
            subst (λ (z : ℕ). Decided arena side win z i) is old)
        | inr at ↦ (
            let s = spots.at i in
            let is_so = (in_planes spots are (those_marked marks more)
            (DecidedAt arena side win (n + 1)) new i inside).1 at in
            let is_not = ap (λ (p : List ℕ). has_pair p s.white s.black)
            (none_there marks more s.configuration unmarked) ∙ no_pair s.white s.black in
            absurd cc)
      ];
}

-- before the first ply
pub marks_first : (arena : Arena Step ℕ Value) (spots : Spots) (side : Colour) (win : Bool)
    (marks : List Bool) → MarksLast arena spots side win 0 marks
marks_first arena spots side win marks = record {
  before = λ i k inside same unmarked d. absurd (omega arith);
}
