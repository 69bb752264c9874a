-- Squares that no legal move begins at or leads to, and promotions that none has.
use Rattle.std.proofs.Common.{◌≡◌, ℕ, List, [], ◌∷◌, ◌++◌, refl, ap, ◌∙◌, Bool, true, false, cond, ◌&&◌, not, filter, map, Option, None, Some}
use Rattle.std.specs.Prelude.{if◌then◌else◌}
use Rattle.std.specs.List.{flat_map}
use Rattle.std.proofs.lemmas.Bool.{and_right}
use Rattle.frz_board.specs.Attacks.{is_in_check}
use Rattle.frz_board.specs.Boards.{Board, man_on, holds}
use Rattle.frz_board.specs.Men.{is_man_of, same_colour, is_pawn}
use Rattle.frz_board.specs.Moving.{Step, is_promotion}
use Rattle.frz_board.specs.Squares.{squares}
use Rattle.frz_fide.specs.Legal.{is_legal, can_go, man_goes, goes, promotes, is_last, after}
use Rattle.frz_fide.specs.Listing.{promotions}
use Rattle.frz_fide.specs.SquareBySquare.{legal_between, legal_from, chosen}
use Rattle.frz_board.specs.declared.man.Colour.{Colour}
use Rattle.frz_board.specs.declared.man.Kind.{Kind}
use Rattle.frz_board.specs.declared.man.Kind.TheVariants.{King, Queen, Rook, Bishop, Knight, Pawn}
use Rattle.frz_board.specs.declared.man.Man.{Man}

one_test_fails : (sc n g pr s : Bool) → (n && g) ≡ false → (((sc && n) && (g && pr)) && s) ≡ false
one_test_fails true true true pr s h = cc
one_test_fails true true false pr s h = refl
one_test_fails true false g pr s h = refl
one_test_fails false n g pr s h = refl

no_promo : (sc n g pr s : Bool) → pr ≡ false → (((sc && n) && (g && pr)) && s) ≡ false
no_promo true true true true s h = cc
no_promo true true true false s h = refl
no_promo true true false pr s h = refl
no_promo true false g pr s h = refl
no_promo false n g pr s h = refl

filter_none : (t : Step → Bool) (r : Option Kind → Step) → ((k : Option Kind) → t (r k) ≡ false) →
    (ks : List (Option Kind)) → filter t (map r ks) ≡ []
filter_none t r h [] = refl
filter_none t r h (k ∷ ks) =
    ap (λ x. cond x (r k ∷ filter t (map r ks)) (filter t (map r ks))) (h k) ∙ filter_none t r h ks

must_choose : (c : Colour) (k : Kind) (b : ℕ) → (is_pawn k && is_last c b) ≡ true →
    promotes c k b None ≡ false
must_choose c Pawn b h = ap (λ x. true && (if x then false else true)) h
must_choose c King b h = cc
must_choose c Queen b h = cc
must_choose c Rook b h = cc
must_choose c Bishop b h = cc
must_choose c Knight b h = cc

cannot_choose : (c : Colour) (k : Kind) (b : ℕ) (j : Kind) → (is_pawn k && is_last c b) ≡ false →
    promotes c k b (Some j) ≡ false
cannot_choose c Pawn b j h =
    ap (λ x. is_promotion (Some j) && (if x then true else false)) h
    ∙ and_right (is_promotion (Some j)) false refl
cannot_choose c King b j h = refl
cannot_choose c Queen b j h = refl
cannot_choose c Rook b j h = refl
cannot_choose c Bishop b j h = refl
cannot_choose c Knight b j h = refl

pub promote : (c : Colour) (b : ℕ) (k : Kind) (j : Kind) → (is_pawn k && is_last c b) ≡ true →
    is_promotion (Some j) ≡ true → promotes c k b (Some j) ≡ true
promote c b Pawn j h i =
    ap (λ x. is_promotion (Some j) && (if x then true else false)) h ∙ ap (λ x. x && true) i
promote c b King j h i = cc
promote c b Queen j h i = cc
promote c b Rook j h i = cc
promote c b Bishop j h i = cc
promote c b Knight j h i = cc

pub stay : (c : Colour) (b : ℕ) (k : Kind) → (is_pawn k && is_last c b) ≡ false →
    promotes c k b None ≡ true
stay c b Pawn h = ap (λ x. true && (if x then false else true)) h
stay c b King h = refl
stay c b Queen h = refl
stay c b Rook h = refl
stay c b Bishop h = refl
stay c b Knight h = refl

all_four : (s h g q : Bool) → s ≡ true → h ≡ false → g ≡ true → q ≡ true →
    ((s && not h) && (g && q)) ≡ true
all_four s h g q hs hh hg hq = rw (hs, hh, hg, hq)

filter_some_none : (t : Step → Bool) (r : Option Kind → Step) →
    ((k : Kind) → t (r (Some k)) ≡ false) → (ks : List Kind) →
    filter t (map r (map (λ k. Some k) ks)) ≡ []
filter_some_none t r h [] = refl
filter_some_none t r h (k ∷ ks) =
    ap (λ x. cond x (r (Some k) ∷ filter t (map r (map (λ k. Some k) ks)))
    (filter t (map r (map (λ k. Some k) ks)))) (h k)
    ∙ filter_some_none t r h ks

module _ (p : Board) (a b : ℕ) (man : Man) (on : man_on p a ≡ Some man) where
  abbrev step : Option Kind → Step
  step k = record { from = a; to = b; promo = k }

  opened : (k : Option Kind) →
      is_legal p (step k)
      ≡ (((same_colour man.colour p.turn && not (holds p p.turn b))
      && (goes p man.colour man.kind a b && promotes man.colour man.kind b k))
      && not (is_in_check (after p (step k)) p.turn))
  unfolding is_legal
  opened k =
      ap (λ o. ((is_man_of p.turn o && not (holds p p.turn b)) && man_goes p o (step k))
      && not (is_in_check (after p (step k)) p.turn)) on

  -- where the man does not go
  pub no_way : (not (holds p p.turn b) && goes p man.colour man.kind a b) ≡ false →
      legal_between p a b ≡ []
  unfolding legal_between
  no_way h =
      filter_none (is_legal p) step
      (λ k. opened k ∙ one_test_fails (same_colour man.colour p.turn) (not (holds p p.turn b))
      (goes p man.colour man.kind a b) (promotes man.colour man.kind b k)
      (not (is_in_check (after p (step k)) p.turn)) h) promotions

  -- where it becomes nothing else
  pub no_choice : (is_pawn man.kind && is_last man.colour b) ≡ false →
      legal_between p a b ≡ filter (is_legal p) (record { from = a; to = b; promo = None } ∷ [])
  unfolding legal_between
  no_choice h =
      let t = is_legal p in
      let none : filter t (map step (Some Queen ∷ Some Rook ∷ Some Bishop ∷ Some Knight ∷ []))
      ≡ [] = filter_some_none t step
      (λ j. opened (Some j) ∙ no_promo (same_colour man.colour p.turn) (not (holds p p.turn b))
      (goes p man.colour man.kind a b) (promotes man.colour man.kind b (Some j))
      (not (is_in_check (after p (step (Some j))) p.turn))
      (cannot_choose man.colour man.kind b j h)) (Queen ∷ Rook ∷ Bishop ∷ Knight ∷ []) in
      ap (λ r. cond (t (step None)) (step None ∷ r) r) none

  -- where it must become something else
  pub choices : (is_pawn man.kind && is_last man.colour b) ≡ true →
      legal_between p a b ≡ chosen p a b
  unfolding legal_between chosen
  choices h =
      let t = is_legal p in
      let rest = filter t (step (Some Queen) ∷ step (Some Rook) ∷ step (Some Bishop) ∷ step
      (Some Knight) ∷ []) in
      ap (λ x. cond x (step None ∷ rest) rest)
      (opened None ∙ no_promo (same_colour man.colour p.turn) (not (holds p p.turn b))
      (goes p man.colour man.kind a b) (promotes man.colour man.kind b None)
      (not (is_in_check (after p (step None)) p.turn)) (must_choose man.colour man.kind b h))

  -- the man may go
  pub may_go : (k : Option Kind) → same_colour man.colour p.turn ≡ true → holds p p.turn b ≡ false →
      goes p man.colour man.kind a b ≡ true → promotes man.colour man.kind b k ≡ true →
      can_go p (record { from = a; to = b; promo = k }) ≡ true
  may_go k own free way promo =
      ap (λ o. (is_man_of p.turn o && not (holds p p.turn b)) && man_goes p o (step k)) on
      ∙ all_four (same_colour man.colour p.turn) (holds p p.turn b) (goes p man.colour man.kind a b)
      (promotes man.colour man.kind b k) own free way promo

  -- where it goes
  pub may_choose : (j : Kind) → same_colour man.colour p.turn ≡ true → holds p p.turn b ≡ false →
      goes p man.colour man.kind a b ≡ true → (is_pawn man.kind && is_last man.colour b) ≡ true →
      is_promotion (Some j) ≡ true → can_go p (record { from = a; to = b; promo = Some j }) ≡ true
  may_choose j own free way last fits =
      may_go (Some j) own free way (promote man.colour b man.kind j last fits)

  pub may_stay : same_colour man.colour p.turn ≡ true → holds p p.turn b ≡ false →
      goes p man.colour man.kind a b ≡ true → (is_pawn man.kind && is_last man.colour b) ≡ false →
      can_go p (record { from = a; to = b; promo = None }) ≡ true
  may_stay own free way last =
      may_go None own free way (stay man.colour b man.kind last)

-- no legal move begins where no man of the mover stands
no_man : (o : Option Man) (t : Colour) (n g s : Bool) → is_man_of t o ≡ false →
    (((is_man_of t o && n) && g) && s) ≡ false
no_man o t n g s h = ap (λ x. ((x && n) && g) && s) h

none_between : (p : Board) (a b : ℕ) → holds p p.turn a ≡ false → legal_between p a b ≡ []
unfolding legal_between is_legal
none_between p a b h =
    filter_none (is_legal p) (λ k. record { from = a; to = b; promo = k })
    (λ k. no_man (man_on p a) p.turn (not (holds p p.turn b))
    (man_goes p (man_on p a) (record { from = a; to = b; promo = k }))
    (not (is_in_check (after p (record { from = a; to = b; promo = k })) p.turn)) h) promotions

none_flat : (f : ℕ → List Step) → ((b : ℕ) → f b ≡ []) → (xs : List ℕ) → flat_map f xs ≡ []
none_flat f h [] = refl
none_flat f h (x ∷ xs) = ap (λ ys. ys ++ flat_map f xs) (h x) ∙ none_flat f h xs

pub none_here : (p : Board) (a : ℕ) → holds p p.turn a ≡ false → legal_from p a ≡ []
unfolding legal_from
none_here p a h = none_flat (λ b. legal_between p a b) (λ b. none_between p a b h) squares

pub ruleset skips = (no_way, no_choice, choices, may_choose, may_stay)
