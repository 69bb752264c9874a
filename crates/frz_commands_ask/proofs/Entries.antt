-- The entry of a position in a side's table is the code of its bound.
use Rattle.std.proofs.Common.{◌≡◌, ◌<◌, ℕ, List, length, sym, subst, ◌∙◌, arith}
use Rattle.std.specs.Prelude.{slice_index}
use Rattle.frz_board.specs.declared.man.Colour.{Colour}
use Rattle.frz_board.specs.Boards.{Board}
use Rattle.frz_sets.specs.Views.{RuleLines}
use Rattle.frz_index.specs.Members.{Member, Num}
use Rattle.frz_index.proofs.Lemmas.{Num_below}
use Rattle.frz_arena.specs.declared.bound.Bound.{Bound}
use Rattle.frz_arena.specs.declared.bound.Bound.TheVariants.{Wins, Holds, Fails}
use Rattle.frz_arena.specs.Codes.{code_of}
use Rattle.frz_arena.proofs.Lemmas.{codes_differ}
use Rattle.frz_exits.specs.Books.{value_by}
use Rattle.frz_game.specs.Bounds.{IsBoundAt, IsTableOf}
use Rattle.frz_game.proofs.Lemmas.{stored_bound}

-- a table by an equal book
same_book : (r b : RuleLines) → b ≡ r → (side : Colour) (codes : List ℕ)
    → IsTableOf r (value_by b) side codes → IsTableOf r (value_by r) side codes
same_book r b e side codes table =
    subst (λ (x : RuleLines). IsTableOf r (value_by x) side codes) e table

pub in_range : (r b : RuleLines) (side : Colour) (codes : List ℕ)
    → IsTableOf r (value_by b) side codes → (p : Board) → Member r.groups p → (i : ℕ)
    → i ≡ Num r.groups p → i < length codes
in_range r b side codes table p member i e = let below = Num_below r.groups p member in
    let many = table.many in omega (arith, below, many, e)

pub entry_of : (r b : RuleLines) → b ≡ r → (side : Colour) (codes : List ℕ)
    → IsTableOf r (value_by b) side codes → (p : Board) → Member r.groups p → (i : ℕ)
    → i ≡ Num r.groups p
    → (bound : Bound) × (slice_index codes i ≡ code_of bound)
    × IsBoundAt r (value_by r) side p bound
entry_of r b same side codes table p member i e =
    let stored = stored_bound r (value_by r) side codes (same_book r b same side codes table) p
    member in
    (stored.0, subst (λ (n : ℕ). slice_index codes n ≡ code_of stored.0) (sym e) stored.1, stored.2)

no_code : (b : Bound) → 0 ≡ code_of b → ⊥
no_code (Wins n) e = omega (arith, e)
no_code Holds e = omega (arith, e)
no_code (Fails m) e = omega (arith, e)

-- the entry is the code of a bound
pub some_bound : (r : RuleLines) (side : Colour) (p : Board) (code : ℕ)
    → ((bound : Bound) × (code ≡ code_of bound) × IsBoundAt r (value_by r) side p bound) → code ≡ 0
    → ⊥
some_bound r side p code entry e = no_code entry.0 (sym e ∙ entry.1)

pub is_bound : (r : RuleLines) (side : Colour) (p : Board) (code : ℕ)
    → ((bound : Bound) × (code ≡ code_of bound) × IsBoundAt r (value_by r) side p bound)
    → (b : Bound) → code_of b ≡ code → IsBoundAt r (value_by r) side p b
is_bound r side p code entry b e = subst (λ (x : Bound). IsBoundAt r (value_by r) side p x)
    (sym (codes_differ b entry.0 (e ∙ entry.1))) entry.2
