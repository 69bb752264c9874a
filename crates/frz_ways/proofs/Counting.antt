-- How much a way may still do, and how many plies it may have.
use Rattle.std.proofs.Common.{◌≡◌, ◌≤◌, ◌<◌, ◌+◌, ◌*◌, ℕ, suc, ◌⊎◌, inl, inr, true, refl, subst, arith}
use Rattle.frz_board.specs.declared.man.Colour.{Colour}
use Rattle.frz_board.specs.Moving.{Step}
use Rattle.frz_sets.specs.declared.exit.Value.{Value}
use Rattle.frz_store.specs.Told.{StoreTold, StoreQuiet}
use Rattle.frz_arena.specs.Arena.{Arena}
use Rattle.frz_arena.specs.Codes.{is_win}
use Rattle.frz_arena.proofs.Lemmas.{IsFew, line_left, few_after, left_after}
use Rattle.frz_ways.specs.declared.end.TheConstants.{LINE_LIMIT}
use Rattle.frz_ways.specs.declared.hearing.Reader.{Reader}
use Rattle.frz_ways.specs.declared.opponent.Opponent.{Opponent}
use Rattle.frz_ways.specs.declared.opponent.Opponent.TheVariants as opponents
use Rattle.frz_ways.specs.declared.playing.Cursor.{Cursor}
use Rattle.frz_ways.specs.declared.session_end.TheConstants.{MOST_LINES}
use Rattle.frz_ways.specs.SeenMoves.{IsNextCode}
use Rattle.frz_ways.specs.Turns.{session_left, LeavesLess}
use Rattle.frz_ways.proofs.Turning.{own_most}

-- the store was not called
pub quiet_here : (store : StoreTold) → StoreQuiet store store
quiet_here store = record {
  unwritten = record { files = refl; last = refl; room = refl };
  later = record {
    asked = omega arith;
    calls = omega arith;
    faults = omega arith;
    wants = omega arith;
  };
}

-- how much a way may still do: a line by its code or its plies, a session by its lines
abbrev pub way_left : Opponent → Arena Step ℕ Value → Colour → Reader → Cursor → ℕ
way_left opponents.Codes arena side reader cursor = line_left LINE_LIMIT cursor.played cursor.code
way_left opponents.Input arena side reader cursor = session_left arena side reader.more cursor.number

-- the plies until now, with those that may follow, are few
abbrev pub HasFew : Opponent → Arena Step ℕ Value → Colour → Reader → Cursor → Type 0
HasFew opponents.Codes arena side reader cursor = IsFew LINE_LIMIT cursor.played cursor.code
HasFew opponents.Input arena side reader cursor =
    cursor.played + session_left arena side reader.more cursor.number ≤ 2 * MOST_LINES + 1

pub few_at_start : (opponent : Opponent) (arena : Arena Step ℕ Value) (side : Colour)
    (start code : ℕ) (first : Reader) → code < 4294967296 → first.more ≤ MOST_LINES
    → HasFew opponent arena side first (record { number = start; code = code; played = 0 })
few_at_start opponents.Codes arena side start code first l few =
    record { won = λ w. omega (arith, l); held = λ h. omega arith }
few_at_start opponents.Input arena side start code first l few =
    (let h = own_most side (arena.node start) in omega (arith, h, few))

next_code_counts_down : (cursor : Cursor) (code : ℕ) → IsNextCode cursor.code code
    → (cursor.code ≡ 1 → cursor.played < LINE_LIMIT)
    → ((is_win cursor.code ≡ true) × (is_win code ≡ true) × (code + 2 ≡ cursor.code))
    ⊎ ((cursor.code ≡ 1) × (code ≤ 1) × (cursor.played < LINE_LIMIT))
next_code_counts_down cursor code next early =
    elim next [ inl h ↦ inl h | inr h ↦ inr (h.0, h.1, early h.0) ]

-- at the next cursor the plies are few too
module _ (arena : Arena Step ℕ Value) (side : Colour) (cursor : Cursor) (old new : Reader)
    (number code : ℕ) where
  abbrev pub there : Cursor
  there = record { number = number; code = code; played = cursor.played + 1 }

  pub few_left_next : (o : Opponent) → LeavesLess o arena side cursor old new number code
      → HasFew o arena side old cursor → HasFew o arena side new there
  few_left_next opponents.Codes less few =
      let e : suc cursor.played ≡ cursor.played + 1 = omega arith in
      subst (λ k. IsFew LINE_LIMIT k code) e
      (few_after LINE_LIMIT cursor.played cursor.code code few
      (next_code_counts_down cursor code less.0 less.1))
  few_left_next opponents.Input less few = omega (arith, less, few)

  pub less_left_next : (o : Opponent) → LeavesLess o arena side cursor old new number code
      → way_left o arena side new there < way_left o arena side old cursor
  less_left_next opponents.Codes less =
      let e : suc cursor.played ≡ cursor.played + 1 = omega arith in
      subst (λ k. line_left LINE_LIMIT k code < line_left LINE_LIMIT cursor.played cursor.code) e
      (left_after LINE_LIMIT cursor.played cursor.code code
      (next_code_counts_down cursor code less.0 less.1))
  less_left_next opponents.Input less = less
