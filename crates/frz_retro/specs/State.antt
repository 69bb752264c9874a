-- What the entries, counters and due codes of the solver say in each pass.
use Rattle.std.specs.Prelude.{◌≡◌, ◌≢◌, ℕ, ◌+◌, ◌*◌, ◌<◌, ◌≤◌, ◌⊎◌, Bool, true, false, not, ◌&&◌, List, get_or, slice_index}
use Rattle.frz_board.specs.Men.{same_colour}
use Rattle.frz_board.specs.Moving.{Step}
use Rattle.frz_sets.specs.declared.exit.Value.{Value}
use Rattle.frz_arena.specs.Arena.{Arena}
use Rattle.frz_arena.specs.LocalCodes.{local_code}
use Rattle.frz_retro.specs.Kinds.{is_of}
use Rattle.frz_graph.specs.EntryCodes.{arm_code, value_code}
use Rattle.frz_retro.specs.Shape.{Shape, In, counts_for, end_code, how_many}
use Rattle.frz_board.specs.declared.man.Colour.{Colour}
use Rattle.frz_arena.specs.declared.node.Node.TheVariants.{Going}
use Rattle.frz_arena.specs.declared.arm.Next.TheVariants.{Inside, Outside}
use Rattle.frz_retro.specs.Graphs.{Arm, Next}

-- One arm decides: c is one ply beyond the least code of the deciding kind among the counted arms.
-- The deciding kind is a win where the side moves (own), and a failure where its opponent does.
pub record Decided (own : Bool) (f : Arm → ℕ) (arms : List Arm) (c : ℕ) : Type 0 where
  pub arm : Arm
  pub there : In arm arms
  pub counted : counts_for own arm ≡ true
  pub kind : is_of own (f arm) ≡ true
  pub least : (b : Arm) → In b arms → counts_for own b ≡ true → is_of own (f b) ≡ true → f arm ≤ f b
  pub code : c ≡ f arm + 2

-- No arm is left: all counted arms are of the settling kind, which is the other one, and c is one
-- ply beyond the greatest of their codes, or 3 where no arm counts.
pub record Exhausted (own : Bool) (f : Arm → ℕ) (arms : List Arm) (c : ℕ) : Type 0 where
  pub most : ℕ
  pub each : (b : Arm) → In b arms → counts_for own b ≡ true →
      (is_of (not own) (f b) ≡ true) × (f b ≤ most)
  pub reached : (most ≡ 1) ⊎ ((b : Arm) × In b arms × (counts_for own b ≡ true) × (f b ≡ most))
  pub code : c ≡ most + 2

-- no counted arm is of the deciding kind, and one is not of the settling kind
pub record Held (own : Bool) (f : Arm → ℕ) (arms : List Arm) : Type 0 where
  pub undecided : (b : Arm) → In b arms → counts_for own b ≡ true → is_of own (f b) ≡ false
  pub arm : Arm
  pub there : In arm arms
  pub counted : counts_for own arm ≡ true
  pub kind : is_of (not own) (f arm) ≡ false

abbrev pub IsSettled : Bool → (Arm → ℕ) → List Arm → ℕ → Type 0
IsSettled own f arms c = Decided own f arms c ⊎ Exhausted own f arms c

-- what the exits of a number alone give it in the end: the code that it settles with by a deciding
-- exit, else by its settling ones, or 0
pub record IsLater (own : Bool) (side : Colour) (arms : List Arm) (later : ℕ) : Type 0 where
  pub deciding : (a : Arm) → In a arms → counts_for own a ≡ true → (v : _) → a.next ≡ Outside v →
      is_of own (value_code side v) ≡ true →
      (is_of own later ≡ true) × (later ≤ value_code side v + 2)
  pub settling : (a : Arm) → In a arms → counts_for own a ≡ true → (v : _) → a.next ≡ Outside v →
      is_of (not own) (value_code side v) ≡ true →
      (is_of own later ≡ true) ⊎ (value_code side v + 2 ≤ later)
  pub met : (later ≡ 0)
      ⊎ ((a : Arm) × (v : _) × In a arms × (counts_for own a ≡ true) × (a.next ≡ Outside v)
      × (2 ≤ value_code side v) × (later ≡ value_code side v + 2))

-- whether an arm to this place is no longer waited for: an exit of the settling kind, or a number
-- of that kind that is done
abbrev pub is_off : Bool → (ℕ → Bool) → Colour → List ℕ → Next → Bool
is_off own done side E (Inside q) = done q && is_of (not own) (get_or E q 0)
is_off own done side E (Outside v) = is_of (not own) (value_code side v)

abbrev pub waits : Bool → (ℕ → Bool) → Colour → List ℕ → Arm → Bool
waits own done side E a = counts_for own a && not (is_off own done side E a.next)

-- an open number: its counter is how many arms it waits for, and its exits settle it with no code
-- below bar
pub record IsOpen (own : Bool) (side : Colour) (arms : List Arm) (done : ℕ → Bool) (bar : ℕ)
    (E : List ℕ) (count later : ℕ) : Type 0 where
  pub counter : count ≡ how_many (waits own done side E) arms
  pub undecided : (a : Arm) → In a arms → counts_for own a ≡ true → (q : ℕ) → a.next ≡ Inside q →
      done q ≡ true → is_of own (get_or E q 0) ≡ false
  pub exits : IsLater own side arms later
  pub due : is_of own later ≡ true → bar ≤ later
  pub last : count ≡ 0 → bar ≤ later

-- The lists in pass k: the entries E, the counters C, and L, what the exits alone give; done i q
-- says that i no longer waits to meet q.
pub record State (B : Shape) (side : Colour) (k : ℕ) (bar : ℕ → ℕ) (done : ℕ → ℕ → Bool)
    (E C L : List ℕ) : Type 0 where
  -- broken numbers, mates and stalemates
  pub ends : (i : ℕ) → i < B.size → ((c : Colour) → B.arena.node i ≢ Going c) →
      get_or E i 0 ≡ end_code side (B.arena.node i)
  pub settled : (i : ℕ) (c : Colour) → i < B.size → B.arena.node i ≡ Going c → get_or E i 0 ≢ 1 →
      IsSettled (same_colour c side) (arm_code side E) (B.arena.arms i) (get_or E i 0)
  pub going : (i : ℕ) (c : Colour) → i < B.size → B.arena.node i ≡ Going c → get_or E i 0 ≡ 1 →
      IsOpen (same_colour c side) side (B.arena.arms i) (done i) (bar i) E
      (get_or C i 0) (get_or L i 0)
  pub low : (i q : ℕ) → done i q ≡ true → (2 ≤ get_or E q 0) × (get_or E q 0 < 2 + 2 * k)
  pub high : (i q : ℕ) → done i q ≡ false → 2 ≤ get_or E q 0 → 2 * k ≤ get_or E q 0
  pub most : (q : ℕ) → get_or E q 0 < 4 + 2 * k

-- by these entries a settled number has its local code, and one that holds has the local code 1
pub record GivesLocalCodes (arena : Arena Step ℕ Value) (side : Colour) (E : List ℕ) : Type 0 where
  pub settled : (i : ℕ) (c : Colour) (code : ℕ) → arena.node i ≡ Going c →
      IsSettled (same_colour c side) (arm_code side E) (arena.arms i) code →
      local_code arena side (λ k. slice_index E k) i ≡ code
  pub held : (i : ℕ) (c : Colour) → arena.node i ≡ Going c →
      Held (same_colour c side) (arm_code side E) (arena.arms i) →
      local_code arena side (λ k. slice_index E k) i ≡ 1
