-- What holds of an arena holds of it with its plies counted.
use Rattle.std.proofs.Common.{◌≡◌, ℕ, suc, inl, inr, false, List, [], ◌∷◌, Some, map, filter, refl, sym, subst, ap, ◌∙◌}
use Rattle.std.specs.Prelude.{slice_get, slice_index, ⊤}
use Rattle.std.specs.List.{Contains}
use Rattle.frz_board.specs.declared.man.Colour.{Colour}
use Rattle.frz_board.specs.Men.{other_of}
use Rattle.frz_arena.specs.declared.node.Node.TheVariants.{Broken}
use Rattle.frz_arena.specs.declared.arm.Arm.{Arm}
use Rattle.frz_arena.specs.declared.arm.Next.{Next}
use Rattle.frz_arena.specs.declared.arm.Next.TheVariants.{Inside, Outside}
use Rattle.frz_arena.specs.Arena.{Arena, IsLawful}
use Rattle.frz_arena.specs.Chess.{Forces, mate_alone}
use Rattle.frz_arena.specs.Codes.{is_failure}
use Rattle.frz_arena.specs.Counted.{after, counted, reader}
use Rattle.frz_arena.specs.Exits.{TrueExits}
use Rattle.frz_arena.specs.Games.{Game, arena_of}
use Rattle.frz_arena.specs.LocalCodes.{arm_code, next_code, local_code, codes_of, node_code, MeetsEquations}
use Rattle.frz_arena.specs.Names.{Numbering, IsNumbering, named_next, named, numbers_of}
use Rattle.frz_arena.specs.Plies.{LeadsTo}
use Rattle.frz_arena.specs.Tables.{IsTable}
use Rattle.frz_arena.specs.Turns.{IsClosed, Alternates}
use Rattle.frz_arena.specs.WayEnds.{End, Wrong}
use Rattle.frz_arena.specs.Ways.{Ply, Opponent, IsWay}
use Rattle.frz_arena.proofs.Lists.FirstOnes.{at_in}
use Rattle.std.proofs.lemmas.Bool.{cases_Bool}
use Rattle.frz_arena.proofs.LocalCodes.PlyCodes.{from_mapped}
use Rattle.frz_arena.proofs.Names.NumbersAreNames.{numbered_is}
use Rattle.frz_arena.proofs.Tables.OneTable.{exact_meets, table_is_exact, one_table}
use Rattle.frz_arena.proofs.Ways.EachPly.{each_ply, never_fails}
use Rattle.frz_arena.proofs.Ways.FoundChoices.{from_mapped_at}
use Rattle.frz_arena.proofs.Ways.RightWays.{right_way, numbers_closed, number_there, in_set}
use Rattle.frz_arena.proofs.Ways.SafeWays.{arm_is, move_of_arm, safe_next}

-- a list with no elements that are renamed has none
empty_image : {X Y : Type 0} (f : X → Y) (xs : List X) → map f xs ≡ [] → xs ≡ []
empty_image f [] e = refl
empty_image f (x ∷ xs) e = absurd (cc)

pub counted_lawful : {M N V : Type 0} (arena : Arena M N V) → IsLawful arena →
    IsLawful (counted arena)
counted_lawful arena law = record {
  goes_on = λ p mover e none.
      law.goes_on p.1 mover e (empty_image (named (after (suc p.0))) (arena.arms p.1) none);
  opposed = law.opposed;
}

unbroken_next : {M N V : Type 0} (arena : Arena M N V) (k : ℕ) (x : Next N V) →
    LeadsTo (λ q. arena.node q ≡ Broken → ⊥) (λ v. ⊤) x →
    LeadsTo (λ (p : ℕ × N). arena.node p.1 ≡ Broken → ⊥) (λ v. ⊤) (named_next (after k) x)
unbroken_next arena k (Inside q) h = h
unbroken_next arena k (Outside v) h = tt

pub counted_closed : {M N V : Type 0} (arena : Arena M N V) → IsClosed arena →
    IsClosed (counted arena)
counted_closed {M} {N} {V} arena closed = record {
  unbroken = λ p a i.
      (let r = from_mapped (named (after (suc p.0))) (arena.arms p.1) a i in
      subst (λ (b : Arm M (ℕ × N) V). LeadsTo (λ (q : ℕ × N). arena.node q.1 ≡ Broken → ⊥)
      (λ v. ⊤) b.next) r.2
      (unbroken_next arena (suc p.0) r.0.next (closed.unbroken p.1 r.0 r.1)));
}

from_counted : {N V : Type 0} (k : ℕ) (x : Next N V) (q : ℕ × N) →
    named_next (after k) x ≡ Inside q → x ≡ Inside q.1
from_counted {N} k (Inside z) q e =
    let f : after k z ≡ q = cc in ap (λ (r : ℕ × N). Inside r.1) f
from_counted k (Outside v) q e = absurd (cc)

pub counted_turns : {M N V : Type 0} (arena : Arena M N V) → Alternates arena →
    Alternates (counted arena)
counted_turns {M} {N} {V} arena alt = record {
  turns = λ p a mover turn q i e g h.
      (let r = from_mapped (named (after (suc p.0))) (arena.arms p.1) a i in
      let to : named_next (after (suc p.0)) r.0.next ≡ Inside q =
      subst (λ (b : Arm M (ℕ × N) V). b.next ≡ Inside q) (sym r.2) e in
      alt.turns p.1 r.0 mover turn q.1 r.1 (from_counted (suc p.0) r.0.next q to) g h);
}

-- the codes of the moves are those that are known one ply on
pub counted_next : {M N V : Type 0} (arena : Arena M N V) (side : Colour) (entry : ℕ × N → ℕ)
    (k : ℕ) (x : Next N V) → next_code (counted arena) side entry (named_next (after k) x)
    ≡ next_code arena side (λ q. entry (k, q)) x
counted_next arena side entry k (Inside q) = refl
counted_next arena side entry k (Outside v) = refl

pub counted_codes : {M N V : Type 0} (arena : Arena M N V) (side : Colour) (entry : ℕ × N → ℕ)
    (k : ℕ) (arms : List (Arm M N V)) →
    codes_of (counted arena) side entry (map (named (after k)) arms)
    ≡ codes_of arena side (λ q. entry (k, q)) arms
counted_codes arena side entry k [] = refl
counted_codes arena side entry k (a ∷ arms) =
    let here = counted_next arena side entry k a.next in
    let rest = counted_codes arena side entry k arms in
    rw (here, rest) refl

counted_free : {M N V : Type 0} (k : ℕ) (arms : List (Arm M N V)) →
    filter (λ a. a.free) (map (named (after k)) arms)
    ≡ map (named (after k)) (filter (λ a. a.free) arms)
counted_free k [] = refl
counted_free k (a ∷ arms) =
    elim (cases_Bool a.free) [
      | inl t ↦ rw (t, counted_free k arms) refl
      | inr f ↦ rw (f, counted_free k arms) refl
    ]

pub counted_local : {M N V : Type 0} (arena : Arena M N V) (side : Colour) (entry : ℕ × N → ℕ)
    (k : ℕ) (p : N) → local_code (counted arena) side entry (k, p)
    ≡ local_code arena side (λ q. entry (suc k, q)) p
counted_local {M} {N} {V} arena side entry k p =
    let free = ap (codes_of (counted arena) side entry) (counted_free (suc k) (arena.arms p))
    ∙ counted_codes arena side entry (suc k) (filter (λ a. a.free) (arena.arms p)) in
    let all = counted_codes arena side entry (suc k) (arena.arms p) in
    ap (λ (z : List ℕ). node_code side (arena.node p) z
    (codes_of (counted arena) side entry (map (named (after (suc k))) (arena.arms p)))) free
    ∙ ap (λ (z : List ℕ). node_code side (arena.node p)
    (codes_of arena side (λ q. entry (suc k, q)) (filter (λ a. a.free) (arena.arms p))) z) all

-- where the codes are each time those of the table, no way ends as wrong
pub right_reader : {M N V S R : Type 0} (numbers : Numbering N) (arena : Arena M N V) →
    IsNumbering numbers arena → IsLawful arena → IsClosed arena → (side : Colour)
    (codes : ℕ → List ℕ) → ((k : ℕ) → IsTable numbers arena side (codes k)) →
    (opponent : Opponent (ℕ × ℕ) S R) (p : N) (i : ℕ) →
    numbers.number p ≡ Some i → (s t : S) (xs : List (Ply M (ℕ × ℕ) V)) (j : ℕ × ℕ)
    (kept given : ℕ) →
    IsWay (reader (numbers_of numbers arena) side codes opponent) 0 s (0, i) xs
    (Wrong j kept given) t → ⊥
right_reader numbers arena law lawful closed side codes tables opponent p i e s t xs j kept given
    w =
    let graph = numbers_of numbers arena in
    let entry : ℕ × ℕ → ℕ = λ q. slice_index (codes q.0) q.1 in
    let eqs : MeetsEquations (counted graph) side entry = λ q.
    (let same = one_table numbers arena law side (codes q.0) (codes (suc q.0)) (tables q.0)
    (tables (suc q.0)) in
    let local = exact_meets graph side numbers.size (numbered_is numbers arena law)
    (codes (suc q.0)) (table_is_exact numbers arena law lawful side (codes (suc q.0))
    (tables (suc q.0))) q.1 in
    ap (λ (z : List ℕ). slice_index z q.1) same
    ∙ (local ∙ sym (counted_local graph side entry q.0 q.1))) in
    right_way (reader graph side codes opponent)
    (counted_closed graph (numbers_closed numbers arena law closed)) eqs 0 s t (0, i) xs
    (Wrong j kept given) j kept given refl (number_there numbers arena law p i e) w

-- each ply is a legal move
pub reader_moves : {P M V S R : Type 0} (game : Game P M V) (numbers : Numbering P) (side : Colour)
    (codes : ℕ → List ℕ) (opponent : Opponent (ℕ × ℕ) S R) (s t : S) (i : ℕ × ℕ)
    (xs : List (Ply M (ℕ × ℕ) V)) (e : End (ℕ × ℕ) V R)
    → IsWay (reader (numbers_of numbers (arena_of game)) side codes opponent) 0 s i xs e t
    → (x : Ply M (ℕ × ℕ) V) → Contains xs x → (p : P) × (m : M) × (numbers.at x.from.1 ≡ Some p)
    × (slice_get (game.chess.moves p) x.place ≡ Some m) × (game.free p m ≡ x.arm.free)
reader_moves {P} {M} {V} game numbers side codes opponent s t i xs e w x h =
    let graph = numbers_of numbers (arena_of game) in
    let ply = each_ply (reader graph side codes opponent) 0 s t i xs e (inl refl) w x h in
    let b = from_mapped_at (named (after (suc x.from.0))) (graph.arms x.from.1) x.place x.arm
    ply.there (slice_get (graph.arms x.from.1) x.place) refl in
    let r = move_of_arm game numbers (numbers.at x.from.1) x.place b.0 b.1 in
    (r.0, r.1, r.2, r.3, r.4 ∙ ap (λ (c : Arm M (ℕ × ℕ) V). c.free) b.2)

-- where the exits are true and the codes are each time those of
-- the table, the opponent forces no mate after any ply
pub safe_reader : {P M V S R : Type 0} (game : Game P M V) → TrueExits game →
    (numbers : Numbering P) → IsNumbering numbers (arena_of game) → (side : Colour)
    (codes : ℕ → List ℕ) → ((k : ℕ) → IsTable numbers (arena_of game) side (codes k)) →
    (opponent : Opponent (ℕ × ℕ) S R) (s t : S) (i : ℕ × ℕ) (xs : List (Ply M (ℕ × ℕ) V))
    (e : End (ℕ × ℕ) V R) →
    IsWay (reader (numbers_of numbers (arena_of game)) side codes opponent) 0 s i xs e t →
    (x : Ply M (ℕ × ℕ) V) → Contains xs x → (p : P) (m : M) → numbers.at x.from.1 ≡ Some p →
    slice_get (game.chess.moves p) x.place ≡ Some m → (n : ℕ) →
    Forces game.chess mate_alone (other_of side) n (game.chess.play p m) → ⊥
safe_reader {P} {M} {V} game exits numbers law side codes tables opponent s t i xs e w x h p m at
    there n g =
    let graph = numbers_of numbers (arena_of game) in
    let player = reader graph side codes opponent in
    let k = suc x.from.0 in
    let ply = each_ply player 0 s t i xs e (inl refl) w x h in
    let b = from_mapped_at (named (after k)) (graph.arms x.from.1) x.place x.arm ply.there
    (slice_get (graph.arms x.from.1) x.place) refl in
    let a = arm_is game numbers x.from.1 x.place b.0 p m at b.1 there in
    let f = never_fails player x ply in
    let entry : ℕ → ℕ = λ q. slice_index (codes k) q in
    let f_b : is_failure (next_code graph side entry b.0.next) ≡ false =
    subst (λ c. is_failure c ≡ false) (counted_next graph side player.entry k b.0.next)
    (subst (λ (c : Arm M (ℕ × ℕ) V). is_failure (arm_code (counted graph) side player.entry c)
    ≡ false) (sym b.2) f) in
    let q = game.chess.play p m in
    let number = law.number_at p x.from.1 at in
    let begins = in_set (game.member p) (game.chess.moves p) (game.chess.in_check p)
    (game.chess.turn p) (law.there p x.from.1 number) in
    safe_next game exits numbers law side (codes k) (tables k) q (game.member q) refl
    (λ o. record {
      from = p;
      move = m;
      begins = begins;
      legal = at_in (game.chess.moves p) x.place m there;
      ends = refl;
      outside = o;
    })
    (subst (λ (c : Arm M ℕ V). is_failure (arm_code graph side entry c) ≡ false) a f_b)
    n g
