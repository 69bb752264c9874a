-- The legal moves of a position where the mover has no pawns, gone through by a test that computes.
use Rattle.std.proofs.Common.{◌≡◌, ◌≢◌, ℕ, inl, inr, Bool, true, false, cond, not, ◌&&◌, List, [], ◌∷◌, Some, None, slice_index, refl, sym, subst, ap, ◌∙◌}
use Rattle.std.specs.List.{Contains, filter, list_all}
use Rattle.std.proofs.lemmas.Bool.{eq-eqb, cases_Bool, and_parts, and_from}
use Rattle.frz_board.specs.declared.man.Colour.{Colour}
use Rattle.frz_board.specs.declared.man.Kind.{Kind}
use Rattle.frz_board.specs.declared.man.Kind.TheVariants.{King, Queen, Rook, Bishop, Knight, Pawn}
use Rattle.frz_board.specs.Attacking.{Stands}
use Rattle.frz_board.specs.Attacks.{attacks, man_reaches, reaches, is_in_check}
use Rattle.frz_board.specs.Boards.{Board, holds, has}
use Rattle.frz_board.specs.Men.{cell_of_man, is_man_of}
use Rattle.frz_board.specs.Moving.{Step}
use Rattle.frz_board.specs.Squares.{squares}
use Rattle.frz_board.proofs.Lemmas.{cell_back}
use Rattle.frz_fide.specs.Legal.{after, goes}
use Rattle.frz_fide.specs.Listing.{legal_moves_of}
use Rattle.frz_fide.proofs.Lemmas.{Move, facts, only_legal, own_colour}
use Rattle.frz_arena.proofs.Lemmas.{none_in_empty, in_cases}
use Rattle.frz_game.proofs.Elements.{all_pass}
use Rattle.frz_game.proofs.TextsByMen.{promotes_none}
use Rattle.frz_game.proofs.WholeSets.{square_in}

-- the move of a man that is no pawn
abbrev pub quiet : ℕ → ℕ → Step
quiet a b = record { from = a; to = b; promo = None }

-- the squares of the mover's men, and where the man of such a square may go
abbrev pub origins : Board → List ℕ
origins p = filter (λ a. holds p p.turn a) squares

abbrev pub destinations : Board → ℕ → List ℕ
destinations p a = filter (λ b. attacks p a b && not (holds p p.turn b)) squares

abbrev pub has_no_pawn : Board → Bool
has_no_pawn p = list_all (λ s. not (has p p.turn Pawn s)) squares

-- the test of each move that may be legal
abbrev pub each_passes : (ℕ → ℕ → Bool) → Board → Bool
each_passes t p = list_all (λ a. list_all (t a) (destinations p a)) (origins p)

-- what passes a filter passes a test that all that is left pass
filtered : {X : Type 0} (f t : X → Bool) (xs : List X) → list_all t (filter f xs) ≡ true → (x : X) →
    Contains xs x → f x ≡ true → t x ≡ true
filtered f t [] h x i e = absurd (none_in_empty x i)
filtered f t (y ∷ xs) h x i e =
    elim (cases_Bool (f y)) [
      | inl passes ↦ (
          let both = and_parts (t y) (list_all t (filter f xs))
          (subst (λ b. list_all t (cond b (y ∷ filter f xs) (filter f xs)) ≡ true) passes h) in
          elim (in_cases y xs x i) [
            | inl same ↦ ap t (sym same) ∙ both.0
            | inr j ↦ filtered f t xs both.1 x j e
          ])
      | inr fails ↦ (
          let rest = subst (λ b. list_all t (cond b (y ∷ filter f xs) (filter f xs)) ≡ true) fails
          h in
          elim (in_cases y xs x i) [
            | inl same ↦ absurd (let passes = ap f same ∙ e in cc)
            | inr j ↦ filtered f t xs rest x j e
          ])
    ]

way_reaches : (p : Board) (c : Colour) (k : Kind) (a b : ℕ) → k ≢ Pawn → goes p c k a b ≡ true →
    reaches p c k a b ≡ true
way_reaches p c King a b n h = h
way_reaches p c Queen a b n h = h
way_reaches p c Rook a b n h = h
way_reaches p c Bishop a b n h = h
way_reaches p c Knight a b n h = h
way_reaches p c Pawn a b n h = absurd (n refl)

module _ (p : Board) (m : Step) (none : has_no_pawn p ≡ true)
    (listed : Contains (legal_moves_of p) m) where
  parts : Move p m
  parts = let l = only_legal p m listed in facts p m l.1

  pub safe : is_in_check (after p m) p.turn ≡ false
  safe = parts.safe

  no_pawn : parts.man.kind ≢ Pawn
  no_pawn e =
      let l = only_legal p m listed in
      let f = parts in
      let stands : Stands p f.man.colour f.man.kind m.from =
      cell_back (slice_index p.cells m.from) f.man.colour f.man.kind f.on in
      let own : Stands p p.turn Pawn m.from = subst (λ (c : Colour). Stands p c Pawn m.from) f.own
      (subst (λ (k : Kind). Stands p f.man.colour k m.from) e stands) in
      let there : has p p.turn Pawn m.from ≡ true = eq-eqb (slice_index p.cells m.from)
      (cell_of_man (record { colour = p.turn; kind = Pawn })) own in
      let away = all_pass (λ s. not (has p p.turn Pawn s)) squares m.from
      (square_in m.from l.0.from) none in
      let no : not true ≡ true = ap not (sym there) ∙ away in cc

  pub is_quiet : m ≡ quiet m.from m.to
  is_quiet =
      let f = parts in
      ap (λ promo. record { from = m.from; to = m.to; promo = promo })
      (promotes_none f.man.colour f.man.kind m.to m.promo no_pawn f.promo)

  pub passes : (t : ℕ → ℕ → Bool) → each_passes t p ≡ true → t m.from m.to ≡ true
  unfolding squares
  passes t h =
      let l = only_legal p m listed in
      let f = parts in
      let of_side : Colour → Bool =
      λ c. is_man_of p.turn (Some (record { colour = c; kind = f.man.kind })) in
      let held : holds p p.turn m.from ≡ true =
      ap (is_man_of p.turn) f.on ∙ ap of_side f.own ∙ own_colour p.turn in
      let reached : attacks p m.from m.to ≡ true = ap (λ o. man_reaches p o m.from m.to) f.on
      ∙ way_reaches p f.man.colour f.man.kind m.from m.to no_pawn f.way in
      filtered (λ b. attacks p m.from b && not (holds p p.turn b)) (t m.from) squares
      (filtered (λ a. holds p p.turn a) (λ a. list_all (t a) (destinations p a)) squares h m.from
      (square_in m.from l.0.from) held) m.to (square_in m.to l.0.to)
      (and_from (attacks p m.from m.to) (not (holds p p.turn m.to)) reached (ap not f.free))
