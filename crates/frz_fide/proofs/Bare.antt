-- A bare king gives no check in a valid position, and stays bare.
use Rattle.std.proofs.Common.{◌≡◌, ◌≢◌, ℕ, ◌<◌, ◌⊎◌, inl, inr, Bool, true, false, cond, ◌&&◌, refl, ap, sym, subst, ◌∙◌, arith, max, Option, None, Some, slice_index}
use Rattle.std.specs.Prelude.{◌==◌}
use Rattle.std.proofs.lemmas.Bool.{eqb-true, both_ways, cases_Bool}
use Rattle.std.proofs.lemmas.Bool.Decides.{eqb_tells}
use Rattle.std.proofs.lemmas.Option.{same_Some}
use Rattle.frz_board.specs.declared.man.Colour.{Colour}
use Rattle.frz_board.specs.declared.man.Kind.{Kind}
use Rattle.frz_board.specs.declared.man.Kind.TheVariants.{King, Queen, Rook, Bishop, Knight, Pawn}
use Rattle.frz_board.specs.declared.man.Man.{Man}
use Rattle.frz_board.specs.Squares.{files_apart, ranks_apart}
use Rattle.frz_board.specs.Men.{cell_of_man, man_of_cell, other_of, is_pawn}
use Rattle.frz_board.specs.Boards.{Board}
use Rattle.frz_board.specs.Moving.{Step, IsStep}
use Rattle.frz_board.specs.Attacks.{is_in_check}
use Rattle.frz_board.specs.Attacking.{Attack, Stands, bishop, rook, queen, knight, pawn, king}
use Rattle.frz_board.proofs.Lemmas.{cell_back, cell_forth, cell-some, other_other}
use Rattle.frz_fide.specs.Legal.{arrives, promotes, takes_in_passing, beside_on_file, after, is_legal}
use Rattle.frz_fide.specs.Checks.{Attacker}
use Rattle.frz_fide.specs.Valid.{IsValid}
use Rattle.frz_fide.specs.Bare.{IsBare, HasOneMinor}
use Rattle.frz_fide.proofs.Cells.{cell_then}
use Rattle.frz_fide.proofs.Checking.{stands_on, check_means, means_check}
use Rattle.frz_fide.proofs.LegalParts.{Move, facts}
use Rattle.frz_fide.proofs.Standing.{after_at}

-- one man stands on a square
pub one_man : (p : Board) (c d : Colour) (j k : Kind) (s : ℕ) → Stands p c j s → Stands p d k s →
    (c ≡ d) × (j ≡ k)
one_man p c d j k s a b =
    let e = same_Some _ _ (sym (stands_on p c j s a) ∙ stands_on p d k s b) in
    (ap (λ (x : Man). x.colour) e, ap (λ (x : Man). x.kind) e)

-- a king attacks the squares beside it
pub king_attack : (p : Board) (c : Colour) (a b : ℕ) → Stands p c King a → Attack p a b →
    max (files_apart a b) (ranks_apart a b) ≡ 1
king_attack p c a b h (bishop d s l r) = absurd (let e = (one_man p c d King Bishop a h s).1 in cc)
king_attack p c a b h (rook d s l r) = absurd (let e = (one_man p c d King Rook a h s).1 in cc)
king_attack p c a b h (queen d s l r) = absurd (let e = (one_man p c d King Queen a h s).1 in cc)
king_attack p c a b h (knight d s l) = absurd (let e = (one_man p c d King Knight a h s).1 in cc)
king_attack p c a b h (pawn d s l r) = absurd (let e = (one_man p c d King Pawn a h s).1 in cc)
king_attack p c a b h (king d s l) = l

adjoining_back : (a b : ℕ) → max (files_apart a b) (ranks_apart a b) ≡ 1 →
    max (files_apart b a) (ranks_apart b a) ≡ 1
adjoining_back a b h = omega arith

-- the kings of a valid position do not stand side by side
pub kings_apart : (p : Board) → IsValid p → (s a : ℕ) → s < 64 → a < 64 →
    Stands p p.turn King s → Stands p (other_of p.turn) King a →
    max (files_apart a s) (ranks_apart a s) ≡ 1 → ⊥
kings_apart p v s a ls la h k near =
    let mine : Stands p (other_of (other_of p.turn)) King s =
    subst (λ c. Stands p c King s) (sym (other_other p.turn)) h in
    let attacker : Attacker p (other_of (other_of p.turn)) a = record {
      from = s;
      on_board = ls;
      kind = King;
      stands = mine;
      attack = king p.turn h (adjoining_back a s near);
    } in
    both_ways (is_in_check p (other_of p.turn)) v.safe
    (means_check p (other_of p.turn)
    (record { square = a; on_board = la; king = k; attacker = attacker }))

-- the king that is to move is not attacked by a bare king
pub no_bare_check : (p : Board) → IsValid p → IsBare p (other_of p.turn) →
    is_in_check p p.turn ≡ false
no_bare_check p v bare =
    elim (cases_Bool (is_in_check p p.turn)) [
      | inr h ↦ h
      | inl h ↦ absurd (
          let c = check_means p p.turn h in
          let a = c.attacker in
          let e = bare a.from a.kind a.on_board a.stands in
          let theirs : Stands p (other_of p.turn) King a.from =
          subst (λ (k : Kind). Stands p (other_of p.turn) k a.from) e a.stands in
          kings_apart p v c.square a.from c.on_board a.on_board c.king theirs
          (king_attack p (other_of p.turn) a.from c.square theirs a.attack))
    ]

-- where a man that stands on a square after a move has stood before it: there, or it has moved, and
-- was a pawn if it was not of its kind
pub data Came (p : Board) (m : Step) (c : Colour) (k : Kind) (s : ℕ) : Type 0 where
  stayed : Stands p c k s → s ≢ m.from → Came p m c k s
  moved : (j : Kind) → c ≡ p.turn → Stands p c j m.from → (j ≡ k) ⊎ (j ≡ Pawn) → s ≡ m.to →
      Came p m c k s

pub cond_cases : (t : Bool) (x y v : ℕ) → cond t x y ≡ v →
    ((t ≡ true) × (x ≡ v)) ⊎ ((t ≡ false) × (y ≡ v))
cond_cases true x y v e = inl (refl, e)
cond_cases false x y v e = inr (refl, e)

pub same_man : (c d : Colour) (j k : Kind) →
    cell_of_man (record { colour = c; kind = j }) ≡ cell_of_man (record { colour = d; kind = k }) →
    (c ≡ d) × (j ≡ k)
same_man c d j k e =
    let f = same_Some _ _ (sym (cell_forth c j) ∙ ap man_of_cell e ∙ cell_forth d k) in
    (ap (λ (x : Man). x.colour) f, ap (λ (x : Man). x.kind) f)

arrived_from : (d : Colour) (j : Kind) (promo : Option Kind) (b : ℕ) → promotes d j b promo ≡ true →
    (c : Colour) (k : Kind) →
    cell_of_man (arrives (record { colour = d; kind = j }) promo) ≡ cell_of_man
    (record { colour = c; kind = k }) →
    (d ≡ c) × ((j ≡ k) ⊎ (j ≡ Pawn))
arrived_from d j None b h c k e = let w = same_man d c j k e in (w.0, inl w.1)
arrived_from d King (Some i) b h c k e = absurd (cc)
arrived_from d Queen (Some i) b h c k e = absurd (cc)
arrived_from d Rook (Some i) b h c k e = absurd (cc)
arrived_from d Bishop (Some i) b h c k e = absurd (cc)
arrived_from d Knight (Some i) b h c k e = absurd (cc)
arrived_from d Pawn (Some i) b h c k e = ((same_man d c i k e).0, inr refl)

pub not_zero : (c : Colour) (k : Kind) → 0 ≡ cell_of_man (record { colour = c; kind = k }) → ⊥
not_zero c k e = let h = cell-some c k in omega arith

came_then : (p : Board) (m : Step) (f : Move p m) (c : Colour) (k : Kind) (s : ℕ) →
    cell_then p f.man m s ≡ cell_of_man (record { colour = c; kind = k }) → Came p m c k s
came_then p m f c k s e =
    let v = cell_of_man (record { colour = c; kind = k }) in
    let rest = cond (s == m.from) 0 (slice_index p.cells s) in
    elim (cond_cases ((is_pawn f.man.kind && takes_in_passing p f.man.colour m.from m.to)
    && (s == beside_on_file m.from m.to)) 0
    (cond (s == m.to) (cell_of_man (arrives f.man m.promo)) rest) v e) [
      | inl w ↦ absurd (not_zero c k w.1)
      | inr w ↦ elim (cond_cases (s == m.to) (cell_of_man (arrives f.man m.promo)) rest v w.1) [
        | inl u ↦ (
            let a = arrived_from f.man.colour f.man.kind m.promo m.to f.promo c k u.1 in
            let stood : Stands p f.man.colour f.man.kind m.from =
            cell_back (slice_index p.cells m.from) f.man.colour f.man.kind f.on in
            moved f.man.kind (sym a.0 ∙ f.own)
            (subst (λ (d : Colour). Stands p d f.man.kind m.from) a.0 stood) a.1
            (eqb-true s m.to u.0))
        | inr u ↦ elim (cond_cases (s == m.from) 0 (slice_index p.cells s) v u.1) [
          | inl z ↦ absurd (not_zero c k z.1)
          | inr z ↦ stayed z.1 (λ h. elim (eqb_tells s m.from) [
            | inl y ↦ (let g = y.0 in let n = z.0 in cc)
            | inr y ↦ y.1 h
          ])
        ]
      ]
    ]

pub came : (p : Board) (m : Step) → IsValid p → IsStep m → is_legal p m ≡ true →
    (c : Colour) (k : Kind) (s : ℕ) → Stands (after p m) c k s → Came p m c k s
came p m v step h c k s e =
    let f = facts p m h in
    came_then p m f c k s (sym (after_at p m v step.to f s) ∙ e)

pub stays_bare : (p : Board) (m : Step) (c : Colour) → IsValid p → IsStep m →
    is_legal p m ≡ true → IsBare p c → IsBare (after p m) c
stays_bare p m c v step h bare s k ls e =
    elim (came p m v step h c k s e) [
      | stayed stood ne ↦ bare s k ls stood
      | moved j own stood w to ↦ (
          let was = bare m.from j step.from stood in
          elim w [ inl e ↦ sym e ∙ was | inr e ↦ absurd (cc) ])
    ]

stays_king : (j k : Kind) → k ≢ King → (j ≡ k) ⊎ (j ≡ Pawn) → j ≢ King
stays_king j k n (inl e) h = n (sym e ∙ h)
stays_king j k n (inr e) h = cc

no_pawn : (k : Kind) → k ≡ Pawn → (k ≡ Bishop) ⊎ (k ≡ Knight) → ⊥
no_pawn k e (inl h) = cc
no_pawn k e (inr h) = cc

pub stays_minor : (p : Board) (m : Step) (c : Colour) → IsValid p → IsStep m →
    is_legal p m ≡ true → HasOneMinor p c → HasOneMinor (after p m) c
stays_minor p m c v step h minor = record {
  minor = λ s k ls e n. elim (came p m v step h c k s e) [
    | stayed stood ne ↦ minor.minor s k ls stood n
    | moved j own stood w to ↦ (
        let was = minor.minor m.from j step.from stood (stays_king j k n w) in
        elim w [
          | inl e ↦ subst (λ (x : Kind). (x ≡ Bishop) ⊎ (x ≡ Knight)) e was
          | inr e ↦ absurd (no_pawn j e was)
        ])
  ];
  one = λ s t j k ls lt a b nj nk. elim (came p m v step h c j s a) [
    | stayed first ne ↦ elim (came p m v step h c k t b) [
      | stayed second _ ↦ minor.one s t j k ls lt first second nj nk
      | moved i own second w to ↦ absurd (ne (minor.one s m.from j i ls step.from first second nj
          (stays_king i k nk w)))
    ]
    | moved i own first w to ↦ elim (came p m v step h c k t b) [
      | stayed second ne ↦ absurd (ne (minor.one t m.from k i lt step.from second first nk
          (stays_king i j nj w)))
      | moved _ _ _ _ there ↦ to ∙ sym there
    ]
  ];
}
