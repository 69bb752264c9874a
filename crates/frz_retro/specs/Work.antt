-- All lists of the solver together, within and between passes.
use Rattle.std.specs.Prelude.{◌≡◌, ◌≢◌, ℕ, zero, suc, ◌+◌, ◌*◌, ◌<◌, ◌≤◌, ◌^◌, Bool, true, false, not, cond, nat_lt, ◌==◌, ◌&&◌, ◌||◌, List, [], ◌∷◌, length, get_or}
use Rattle.std.specs.List.{list_any}
use Rattle.frz_retro.specs.Shape.{Shape, Leads, ArePreds}
use Rattle.frz_retro.specs.State.{State}
use Rattle.frz_retro.specs.Beginning.{IsBegun}
use Rattle.frz_board.specs.declared.man.Colour.{Colour}
use Rattle.frz_arena.specs.declared.node.Node.TheVariants.{Going}
use Rattle.frz_unmove.specs.declared.preds.Pred.{Pred}

-- how many entries are 1
abbrev pub ones : List ℕ → ℕ
ones [] = 0
ones (c ∷ cs) = cond (c == 1) 1 0 + ones cs

-- The first tail places of the queue Q hold each number that is settled as a win or a failure,
-- once. Those below mid have fewer plies than k, the others have k.
pub record Queue (k mid : ℕ) (E Q : List ℕ) (tail : ℕ) : Type 0 where
  pub room : tail + ones E ≤ length Q
  pub each : (t : ℕ) → t < tail → 2 ≤ get_or E (get_or Q t 0) 0
  pub old : (t : ℕ) → t < mid → get_or E (get_or Q t 0) 0 < 2 + 2 * k
  pub young : (t : ℕ) → mid ≤ t → t < tail → 2 + 2 * k ≤ get_or E (get_or Q t 0) 0
  pub found : (q : ℕ) → 2 ≤ get_or E q 0 → (t : ℕ) × (t < tail) × (get_or Q t 0 ≡ q)
  pub once : (s t : ℕ) → s < tail → t < tail → get_or Q s 0 ≡ get_or Q t 0 → s ≡ t

-- in pass k, where the first s numbers have been looked at: below this code the exits of number i
-- are no longer due
abbrev pub bar_at : ℕ → ℕ → ℕ → ℕ
bar_at k s i = cond (nat_lt i s) (4 + 2 * k) (2 + 2 * k)

-- whether q is among the first so many numbers of the queue
abbrev pub done_by : List ℕ → ℕ → ℕ → Bool
done_by Q zero q = false
done_by Q (suc h) q = (get_or Q h 0 == q) || done_by Q h q

-- which numbers q are done for number i: those at the front of the queue, whatever i is
abbrev pub done_in : List ℕ → ℕ → ℕ → ℕ → Bool
done_in Q h i q = done_by Q h q

-- what is done while the predecessors of q are gone through, and the pairs of rest are left
abbrev pub done_mid : (ℕ → ℕ → Bool) → ℕ → List Pred → ℕ → ℕ → Bool
done_mid done q rest i p = done i p || ((q == p) && not (list_any (λ r. r.number == i) rest))

-- each of the four lists has exactly n items
pub record Sized (n : ℕ) (E C L Q : List ℕ) : Type 0 where
  pub codes : length E ≡ n
  pub counts : length C ≡ n
  pub later : length L ≡ n
  pub queue : length Q ≡ n

pub record Work (B : Shape) (side : Colour) (k mid : ℕ) (bar : ℕ → ℕ) (done : ℕ → ℕ → Bool)
    (E C L Q : List ℕ) (tail : ℕ) : Type 0 where
  pub state : State B side k bar done E C L
  pub queue : Queue k mid E Q tail
  pub sized : Sized B.size E C L Q
  pub passes : k < 2 ^ 29
  pub within : mid ≤ tail
  pub ended : (i : ℕ) → i < B.size → ((c : Colour) → B.arena.node i ≢ Going c) → get_or L i 0 ≡ 0

-- in pass k the settled number q is about to be met by its predecessor p
pub record Meeting (B : Shape) (side : Colour) (k mid : ℕ) (done : ℕ → ℕ → Bool) (E C L Q : List ℕ)
    (tail q : ℕ) (p : Pred) : Type 0 where
  pub work : Work B side k mid (bar_at k B.size) done E C L Q tail
  pub before : done p.number q ≡ false
  pub settled : 2 ≤ get_or E q 0
  pub old : get_or E q 0 < 2 + 2 * k
  pub inside : p.number < B.size
  pub leads : Leads B p q

-- more is done, with one meeting added: i has met q
pub record Meets (done more : ℕ → ℕ → Bool) (i q : ℕ) : Type 0 where
  pub others : (j p : ℕ) → j ≢ i → more j p ≡ done j p
  pub same : (p : ℕ) → p ≢ q → more i p ≡ done i p
  pub now : more i q ≡ true

-- in pass k the settled number q is about to be met by each of its predecessors
pub record Coming (B : Shape) (side : Colour) (k mid : ℕ) (done : ℕ → ℕ → Bool) (E C L Q : List ℕ)
    (tail q : ℕ) (pairs : List Pred) : Type 0 where
  pub work : Work B side k mid (bar_at k B.size) done E C L Q tail
  pub before : (i : ℕ) → done i q ≡ false
  pub settled : 2 ≤ get_or E q 0
  pub old : get_or E q 0 < 2 + 2 * k
  pub preds : ArePreds B q pairs

-- the first n numbers have begun, and the others have the entry 1
pub record Begun (B : Shape) (side : Colour) (n : ℕ) (E C L Q : List ℕ) (tail : ℕ) : Type 0 where
  pub begun : (i : ℕ) → i < n →
      IsBegun side (B.arena.node i) (B.arena.arms i) (get_or E i 0) (get_or C i 0) (get_or L i 0)
  pub rest : (i : ℕ) → n ≤ i → i < B.size → get_or E i 0 ≡ 1
  pub ended : (i : ℕ) → i < n → ((c : Colour) → B.arena.node i ≢ Going c) → get_or L i 0 ≡ 0
  pub few : (q : ℕ) → get_or E q 0 < 4
  pub queue : Queue 0 0 E Q tail
  pub sized : Sized B.size E C L Q
