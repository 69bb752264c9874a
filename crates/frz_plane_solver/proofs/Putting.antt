-- Codes put at the numbers of planes.
use Rattle.std.proofs.Common.{◌≡◌, ◌⊎◌, ◌∙◌, ◌<◌, ◌≤◌, ◌+◌, ◌*◌, ℕ, true, false, List, length, slice_index, slice_set, inl, inr, refl, ap, sym, subst, arith}
use Rattle.std.proofs.lemmas.Bool.{cases_Bool, cases_lt}
use Rattle.std.proofs.lemmas.List.{get_or-set_same, get_or-set_other}
use Rattle.std.specs.Prelude.{MatchOption, None, Option, Some, is_some}
use Rattle.frz_planes.specs.Planes.{HasNoneFrom, IsNext, has_pair, pair_number}
use Rattle.frz_plane_game.specs.Spots.{AreSpots, Spot, Spots, plane_at}
use Rattle.frz_plane_solver.specs.Decided.{ArePut}
use Rattle.frz_plane_solver.specs.Walks.{IsIn}

-- codes put at some numbers, and then at others
pub put_then : (P Q R : ℕ → Type 0) (code : ℕ) (old mid new : List ℕ) →
    ((i : ℕ) → Q i ⊎ (Q i → ⊥)) → ((i : ℕ) → R i → P i ⊎ Q i) → ((i : ℕ) → P i → R i) →
    ((i : ℕ) → Q i → R i) → ArePut P code old mid → ArePut Q code mid new → ArePut R code old new
put_then P Q R code old mid new either split left right one two = record {
  put = λ i r. elim (either i) [
    | inl q ↦ two.put i q
    | inr is_not ↦ two.kept i is_not ∙ one.put i (elim (split i r) [ inl p ↦ p | inr q ↦ absurd (is_not q) ])
  ];
  kept = λ i is_not. two.kept i (λ q. is_not (right i q)) ∙ one.kept i (λ p. is_not (left i p));
}

pub put_same : (P R : ℕ → Type 0) (code : ℕ) (old new : List ℕ) → ((i : ℕ) → R i → P i) →
    ((i : ℕ) → P i → R i) → ArePut P code old new → ArePut R code old new
put_same P R code old new back forth one = record {
  put = λ i r. one.put i (back i r);
  kept = λ i is_not. one.kept i (λ p. is_not (forth i p));
}

pub put_none : (P : ℕ → Type 0) (code : ℕ) (old : List ℕ) → ((i : ℕ) → P i → ⊥) →
    ArePut P code old old
put_none P code old is_not = record { put = λ i p. absurd (is_not i p); kept = λ i _. refl }

put_one : (k code : ℕ) (old : List ℕ) → k < length old →
    ArePut (λ i. i ≡ k) code old (slice_set old k code)
put_one k code old inside = record {
  put = λ i e. subst (λ (z : ℕ). slice_index (slice_set old k code) z ≡ code) (sym e)
      (get_or-set_same old k code 0 inside);
  kept = λ i ne. get_or-set_other old k i code 0 ne;
}

equal_or_not : (i k : ℕ) → (i ≡ k) ⊎ (i ≡ k → ⊥)
equal_or_not i k =
    elim (cases_lt i k) [
      | inl l ↦ inr (λ e. omega arith)
      | inr l ↦ elim (cases_lt k i) [
        | inl m ↦ inr (λ e. omega arith)
        | inr m ↦ inl (omega arith)
      ]
    ]

-- the number stands in the plane of the configuration
abbrev pub IsHere : Spots → ℕ → List ℕ → ℕ → Type 0
IsHere spots c plane i =
    (i < spots.numbers) × ((spots.at i).configuration ≡ c)
    × (has_pair plane (spots.at i).white (spots.at i).black ≡ true)

-- its pair has a number below this one
abbrev pub IsBefore : Spots → ℕ → List ℕ → ℕ → ℕ → Type 0
IsBefore spots c plane from i =
    IsHere spots c plane i × (pair_number (spots.at i).white (spots.at i).black < from)

one_pair : (x y a b : ℕ) → y < 64 → b < 64 → pair_number x y ≡ pair_number a b →
    (x ≡ a) × (y ≡ b)
one_pair x y a b l m e = (omega arith, omega arith)

same_spot : (s : Spot) (c a b : ℕ) → s.configuration ≡ c → s.white ≡ a → s.black ≡ b →
    s ≡ record { configuration = c; white = a; black = b }
same_spot s c a b e f g = rw (← e, ← f, ← g)

-- the number of the next pair, and no other, is added to those before
pub settle_step : (spots : Spots) → AreSpots spots → (c : ℕ) (plane : List ℕ) (code from a b k : ℕ)
    (old codes : List ℕ) →
    IsNext plane from a b → k < spots.numbers →
    spots.at k ≡ record { configuration = c; white = a; black = b } →
    k < length codes →
    ArePut (IsBefore spots c plane from) code old codes →
    ArePut (IsBefore spots c plane (64 * a + b + 1)) code old (slice_set codes k code)
settle_step spots are c plane code from a b k old codes next inside here room before =
    let configuration : (spots.at k).configuration ≡ c = ap (λ (s : Spot). s.configuration) here in
    let white : (spots.at k).white ≡ a = ap (λ (s : Spot). s.white) here in
    let black : (spots.at k).black ≡ b = ap (λ (s : Spot). s.black) here in
    let there : has_pair plane (spots.at k).white (spots.at k).black ≡ true =
    subst (λ (s : Spot). has_pair plane s.white s.black ≡ true) (sym here) next.there in
    put_then (IsBefore spots c plane from) (λ i. i ≡ k)
    (IsBefore spots c plane (64 * a + b + 1)) code old codes (slice_set codes k code)
    (λ i. equal_or_not i k)
    (λ i r. elim (cases_lt (pair_number (spots.at i).white (spots.at i).black) from) [
      | inl l ↦ inl (r.0, l)
      | inr l ↦ elim (cases_lt (pair_number (spots.at i).white (spots.at i).black)
          (pair_number a b)) [
            | inl m ↦ (
                let is_not = next.first (spots.at i).white (spots.at i).black (are.white i r.0.0)
                (are.black i r.0.0) l m in
                let is_so = r.0.2 in
                absurd cc)
            | inr m ↦ inr (same_here i r m)
          ]
    ])
    (λ i p. (p.0, (let l = p.1 in let f = next.from in omega arith)))
    (λ i e. subst (λ (z : ℕ). IsBefore spots c plane (64 * a + b + 1) z) (sym e)
    ((inside, configuration, there), omega arith))
    before (put_one k code codes room)
  where
    same_here : (i : ℕ) → IsBefore spots c plane (64 * a + b + 1) i →
        pair_number a b ≤ pair_number (spots.at i).white (spots.at i).black → i ≡ k
    same_here i r m =
        let l = r.1 in
        let e : pair_number (spots.at i).white (spots.at i).black ≡ pair_number a b = omega arith in
        let two = one_pair (spots.at i).white (spots.at i).black a b (are.black i r.0.0) next.black e
        in
        are.once i k r.0.0 inside (same_spot (spots.at i) c a b r.0.1 two.0 two.1 ∙ sym here)

-- behind the last pair all are put
pub settle_end : (spots : Spots) → AreSpots spots → (c : ℕ) (plane : List ℕ) (code from : ℕ)
    (old codes : List ℕ) → HasNoneFrom plane from →
    ArePut (IsBefore spots c plane from) code old codes →
    ArePut (IsHere spots c plane) code old codes
settle_end spots are c plane code from old codes end before =
    put_same (IsBefore spots c plane from) (IsHere spots c plane) code old codes
    (λ i h. (
      h,
      elim (cases_lt (pair_number (spots.at i).white (spots.at i).black) from) [
        | inl l ↦ l
        | inr l ↦ (
            let is_not = end.none (spots.at i).white (spots.at i).black (are.white i h.0)
            (are.black i h.0) l in
            let is_so = h.2 in
            absurd cc)
      ],
    ))
    (λ i h. h.0) before

-- the number is in the planes of the configurations before this one
abbrev pub IsInBefore : Spots → List (List ℕ) → ℕ → ℕ → Type 0
IsInBefore spots planes c i = IsIn spots planes i × ((spots.at i).configuration < c)

here_or_not : (spots : Spots) (c : ℕ) (plane : List ℕ) (i : ℕ) →
    IsHere spots c plane i ⊎ (IsHere spots c plane i → ⊥)
here_or_not spots c plane i =
    elim (cases_lt i spots.numbers) [
      | inr out ↦ inr (λ h. (let l = h.0 in omega arith))
      | inl inside ↦ elim (equal_or_not (spots.at i).configuration c) [
        | inr is_not ↦ inr (λ h. is_not h.1)
        | inl same ↦ elim (cases_Bool (has_pair plane (spots.at i).white (spots.at i).black)) [
          | inl is_so ↦ inl (inside, same, is_so)
          | inr is_not ↦ inr (λ h. (let is_so = h.2 in cc))
        ]
      ]
    ]

-- the numbers of one configuration more
pub settle_more : (spots : Spots) (planes : List (List ℕ)) (c : ℕ) (plane : List ℕ) (code : ℕ)
    (old mid new : List ℕ) → plane ≡ plane_at planes c →
    ArePut (IsInBefore spots planes c) code old mid → ArePut (IsHere spots c plane) code mid new →
    ArePut (IsInBefore spots planes (c + 1)) code old new
settle_more spots planes c plane code old mid new is before here =
    put_then (IsInBefore spots planes c) (IsHere spots c plane) (IsInBefore spots planes (c + 1))
    code old mid new (here_or_not spots c plane)
    (λ i r. elim (cases_lt (spots.at i).configuration c) [
      | inl l ↦ inl (r.0, l)
      | inr l ↦ (
          let same : (spots.at i).configuration ≡ c = (let m = r.1 in omega arith) in
          inr (
            r.0.0,
            same,
            rw is (subst
                (λ (z : ℕ). has_pair (plane_at planes z) (spots.at i).white (spots.at i).black ≡ true) same
                r.0.1),
          ))
    ])
    (λ i p. (p.0, (let l = p.1 in omega arith)))
    (λ i q. (
      (
        q.0,
        subst
            (λ (z : ℕ). has_pair (plane_at planes z) (spots.at i).white (spots.at i).black ≡ true)
            (sym q.1)
            (subst (λ (z : List ℕ). has_pair z (spots.at i).white (spots.at i).black ≡ true) is q.2),
      ),
      (let e = q.1 in omega arith),
    ))
    before here

pub settle_all_end : (spots : Spots) → AreSpots spots → (planes : List (List ℕ)) (code c : ℕ)
    (old codes : List ℕ) → spots.configurations ≤ c →
    ArePut (IsInBefore spots planes c) code old codes → ArePut (IsIn spots planes) code old codes
settle_all_end spots are planes code c old codes all before =
    put_same (IsInBefore spots planes c) (IsIn spots planes) code old codes
    (λ i h. (h, (let l = are.configuration i h.0 in omega arith))) (λ i h. h.0) before

-- the pair that was found
pub pair_there : (plane : List ℕ) (r : Option (ℕ × ℕ)) → is_some r ≡ true →
    MatchOption r (HasNoneFrom plane 0) (λ (a, b). IsNext plane 0 a b) →
    (a : ℕ) × (b : ℕ) × IsNext plane 0 a b
pair_there plane None e next = absurd cc
pair_there plane (Some (a, b)) e next = (a, b, next)

pub no_pair_there : (plane : List ℕ) (r : Option (ℕ × ℕ)) → is_some r ≡ false →
    MatchOption r (HasNoneFrom plane 0) (λ (a, b). IsNext plane 0 a b) → HasNoneFrom plane 0
no_pair_there plane None e none = none
no_pair_there plane (Some (a, b)) e next = absurd cc
