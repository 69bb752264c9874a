-- How many pieces a list is read or written in.
use Rattle.std.proofs.Common.{◌≡◌, ℕ, ◌+◌, ◌-◌, ◌*◌, ◌<◌, ◌≤◌, min, arith}
use Rattle.frz_table.specs.Layout.{pieces_of}

-- so many pieces were done, all of them whole while something is left
pub record ArePieces (pieces done count before now : ℕ) : Type 0 where
  pub calls : now ≤ before + pieces
  pub few : pieces * 16384 < done + 16384
  pub full : done < count → pieces * 16384 ≤ done

pub no_pieces : (count before : ℕ) → ArePieces 0 0 count before before
no_pieces count before = record { calls = omega arith; few = omega arith; full = λ h. omega arith }

pub piece_more : (pieces done here all count before mid now : ℕ)
    → ArePieces pieces done count before mid → now ≤ mid + 1 → done < count
    → here ≡ min 16384 (count - done) → all ≡ done + here
    → ArePieces (pieces + 1) all count before now
piece_more pieces done here all count before mid now h next left cut is = record {
  calls = (let c = h.calls in omega (arith, c, next));
  few = (let f = h.full left in omega (arith, f, left, cut, is));
  full = λ more. (let f = h.full left in omega (arith, f, left, cut, is, more));
}

-- no more than the count has
pub pieces_within : (pieces done count before now : ℕ) → ArePieces pieces done count before now
    → done ≤ count → now ≤ before + pieces_of count
pieces_within pieces done count before now h within =
    let c = h.calls in let f = h.few in omega (arith, c, f, within)

-- and one more while something is left
pub next_within : (pieces done count before mid now : ℕ) → ArePieces pieces done count before mid
    → done < count → now ≤ mid + 1 → now ≤ before + pieces_of count
next_within pieces done count before mid now h left next =
    let c = h.calls in let f = h.full left in omega (arith, c, f, left, next)
