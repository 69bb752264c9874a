-- What the solver keeps of the numbers, as its calls see it.
use Rattle.std.specs.Prelude.{◌≡◌, ◌⊎◌, ℕ, ◌+◌, ◌-◌, ◌<◌, ◌≤◌, Bool, List, length, if◌then◌else◌, nat_le, slice_index, slice_range, slice_set}
use Rattle.frz_board.specs.declared.man.Colour.{Colour}
use Rattle.frz_board.specs.Moving.{Step}
use Rattle.frz_sets.specs.declared.exit.Value.{Value}
use Rattle.frz_arena.specs.Arena.{Arena}
use Rattle.frz_unmove.specs.declared.preds.Pred.{Pred}
use Rattle.frz_retro.specs.Shape.{shape_of}
use Rattle.frz_retro.specs.Work.{Begun, Coming, Meeting, Sized, Work, bar_at}

-- the entries, how many arms each open number waits for, what the exits give in the end, and the
-- queue with how many stand in it
pub record Tally : Type 0 where
  pub codes : List ℕ
  pub counts : List ℕ
  pub later : List ℕ
  pub queue : List ℕ
  pub tail : ℕ

-- number i begins with an entry, waits for count arms, and its exits alone give it the code later
-- in the end; where the entry settles it, it stands at the queue's end
abbrev pub begun_at : Tally → ℕ → ℕ → ℕ → ℕ → Tally
begun_at t i entry count later = record {
  codes = slice_set t.codes i entry;
  counts = slice_set t.counts i count;
  later = slice_set t.later i later;
  queue = if nat_le 2 entry then slice_set t.queue t.tail i else t.queue;
  tail = if nat_le 2 entry then t.tail + 1 else t.tail;
}

-- number i is settled by a code, and stands at the queue's end
abbrev pub settled : Tally → ℕ → ℕ → Tally
settled t i code = record {
  codes = slice_set t.codes i code;
  counts = t.counts;
  later = t.later;
  queue = slice_set t.queue t.tail i;
  tail = t.tail + 1;
}

-- number i waits for one arm less
abbrev pub counted_down : Tally → ℕ → Tally
counted_down t i = record {
  codes = t.codes;
  counts = slice_set t.counts i (slice_index t.counts i - 1);
  later = t.later;
  queue = t.queue;
  tail = t.tail;
}

-- the numbers that stand in the queue from place head on
abbrev pub queued_from : Tally → ℕ → List ℕ
queued_from t head = slice_range t.queue head t.tail

-- t becomes u: only those places of the queue change
pub record ChangesOnlyFrom (head : ℕ) (t u : Tally) : Type 0 where
  pub lists : u ≡ record t { queue = u.queue }
  pub size : length u.queue ≡ length t.queue
  pub places : (j : ℕ) → (j < head) ⊎ (t.tail ≤ j) → slice_index u.queue j ≡ slice_index t.queue j

abbrev pub HasSize : ℕ → Tally → Type 0
HasSize n t = Sized n t.codes t.counts t.later t.queue

-- the first n numbers have begun
abbrev pub HasBegun : Arena Step ℕ Value → ℕ → Colour → ℕ → Tally → Type 0
HasBegun arena size side n t =
    Begun (shape_of arena size) side n t.codes t.counts t.later t.queue t.tail

-- top is the greatest of 0 and the first n codes, and at most 2004
pub record IsGreatest (later : List ℕ) (n top : ℕ) : Type 0 where
  pub last : (i : ℕ) → i < n → slice_index later i ≤ top
  pub reached : (top ≡ 0) ⊎ ((i : ℕ) × (i < n) × (slice_index later i ≡ top))
  pub short : top ≤ 2004

-- The tally in pass k, where the exits of the first n numbers have been looked at: mid numbers
-- stood in the queue when the pass began, and done i q says that i no longer waits to meet q.
abbrev pub InPass :
    Arena Step ℕ Value → ℕ → Colour → ℕ → ℕ → ℕ → (ℕ → ℕ → Bool) → Tally → Type 0
InPass arena size side k n mid done t =
    Work (shape_of arena size) side k mid (bar_at k n) done t.codes t.counts t.later t.queue t.tail

-- the tally in pass k, for some mid and some done
abbrev pub IsInPass : Arena Step ℕ Value → ℕ → Colour → ℕ → ℕ → Tally → Type 0
IsInPass arena size side k n t =
    (mid : ℕ) × (done : ℕ → ℕ → Bool) × InPass arena size side k n mid done t

-- t becomes u: in pass k the exits of the first n numbers had been looked at, and now those of the
-- first m
abbrev pub LooksAt : Arena Step ℕ Value → ℕ → Colour → ℕ → ℕ → ℕ → Tally → Tally → Type 0
LooksAt arena size side k n m t u = (mid : ℕ) (done : ℕ → ℕ → Bool) →
    InPass arena size side k n mid done t → InPass arena size side k m mid done u

-- in pass k the settled number q is about to be met by its predecessor p
abbrev pub IsMeeting :
    Arena Step ℕ Value → ℕ → Colour → ℕ → ℕ → (ℕ → ℕ → Bool) → Tally → ℕ → Pred → Type 0
IsMeeting arena size side k mid done t q p =
    Meeting (shape_of arena size) side k mid done t.codes t.counts t.later t.queue t.tail q p

-- in pass k the settled number q is about to be met by each of its predecessors
abbrev pub AreComing :
    Arena Step ℕ Value → ℕ → Colour → ℕ → ℕ → (ℕ → ℕ → Bool) → Tally → ℕ → List Pred → Type 0
AreComing arena size side k mid done t q pairs =
    Coming (shape_of arena size) side k mid done t.codes t.counts t.later t.queue t.tail q pairs

-- From t to u what the exits give stays, and the queue grows at its end alone.
abbrev pub Grows : Tally → Tally → Type 0
Grows t u = (u.later ≡ t.later) × (t.tail ≤ u.tail)
    × ((j : ℕ) → j < t.tail → slice_index u.queue j ≡ slice_index t.queue j)
