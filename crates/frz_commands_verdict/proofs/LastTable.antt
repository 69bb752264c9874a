-- The last of several tables, and those before it.
use Rattle.std.proofs.Common.{◌≡◌, ◌-◌, ◌<◌, ◌++◌, ◌∷◌, ◌∙◌, [], ℕ, List, All, ap, append_assoc, append-nil, arith, get_or, length, refl, subst, sym}
use Rattle.std.proofs.lemmas.List.{length-append}
use Rattle.std.proofs.lemmas.List.Elements.{All-cons, All-head, All-nil, All-tail}
use Rattle.std.specs.Prelude.{Bool, true, false}
use Rattle.frz_game.specs.Values.{AreTrueExits}
use Rattle.frz_sets.specs.Views.{RuleLines}
use Rattle.frz_backs.specs.Books.{Back}
use Rattle.frz_backs.specs.FileOn.{IsExactBack}
use Rattle.frz_backs.specs.Links.{AreExact, AreExactOver, AreTrueLines, AreTrueLinesOver, Link, backs_of, own_over, value_over}
use Rattle.frz_backs.proofs.Lemmas.{link_exits_true, tables_true}
use Rattle.frz_commands_premises.proofs.Lemmas.{exact_front}

module _ {X : Type 0} where
  -- a list that is not empty has a last element
  pub has_last : (xs : List X) → 0 < length xs → (front : List X) × (x : X) × (xs ≡ front ++ x ∷ [])
  has_last [] some = absurd (omega arith)
  has_last (x ∷ []) some = ([], x, refl)
  has_last (x ∷ y ∷ more) some =
      let rest = has_last (y ∷ more) (omega arith) in
      (x ∷ rest.0, rest.1, ap (λ (l : List X). x ∷ l) rest.2)

  -- and only one
  pub same_last : (xs ys : List X) (x y : X) → xs ++ x ∷ [] ≡ ys ++ y ∷ [] → (xs ≡ ys) × (x ≡ y)
  same_last [] [] x y e = (refl, cc)
  same_last [] (b ∷ []) x y e = absurd (cc)
  same_last [] (b ∷ c ∷ ys) x y e = absurd (cc)
  same_last (a ∷ []) [] x y e = absurd (cc)
  same_last (a ∷ c ∷ xs) [] x y e = absurd (cc)
  same_last (a ∷ xs) (b ∷ ys) x y e =
      let rest : xs ++ x ∷ [] ≡ ys ++ y ∷ [] = cc in
      let first : a ≡ b = cc in
      let both = same_last xs ys x y rest in
      (ap (λ (z : X). z ∷ xs) first ∙ ap (λ (l : List X). b ∷ l) both.0, both.1)

  item_behind : (front : List X) (x d : X) → get_or (front ++ x ∷ []) (length front) d ≡ x
  item_behind [] x d = refl
  item_behind (y ∷ front) x d = item_behind front x d

  -- it stands at the last place
  pub last_item : (xs front : List X) (x y : X) → xs ≡ front ++ x ∷ []
      → y ≡ get_or xs (length xs - 1) y → y ≡ x
  last_item xs front x y e is =
      let many = ap (length {A = X}) e in
      let both = length-append front (x ∷ []) in
      let place : length xs - 1 ≡ length front = omega (arith, many, both) in
      is ∙ ap (λ (k : ℕ). get_or xs k y) place
      ∙ ap (λ (l : List X). get_or l (length front) y) e ∙ item_behind front x y

  pub none_last : (front : List X) (x : X) → [] ≡ front ++ x ∷ [] → ⊥
  none_last [] x e = cc
  none_last (y ∷ front) x e = cc

  module _ (P : X → Type 0) where
    pub all_front : (xs ys : List X) → All P (xs ++ ys) → All P xs
    all_front [] ys h = All-nil P
    all_front (x ∷ xs) ys h =
        All-cons P x xs (All-head P x (xs ++ ys) h) (all_front xs ys (All-tail P x (xs ++ ys) h))

    pub all_last : (xs : List X) (x : X) → All P (xs ++ x ∷ []) → P x
    all_last [] x h = All-head P x [] h
    all_last (y ∷ xs) x h = all_last xs x (All-tail P y (xs ++ x ∷ []) h)

-- the last table is exact over those before it
last_exact : (backs : List Back) (links : List Link) (own : Link)
    → AreExactOver backs (links ++ own ∷ [])
    → IsExactBack own.rules (value_over own.leans own.rules (backs ++ backs_of links)) own.back
unfolding AreExactOver
last_exact backs [] own h =
    subst (λ (l : List Back). IsExactBack own.rules (value_over own.leans own.rules l) own.back)
    (sym (append-nil backs)) h.0
last_exact backs (link ∷ links) own h =
    subst (λ (l : List Back). IsExactBack own.rules (value_over own.leans own.rules l) own.back)
    (append_assoc backs (link.back ∷ []) (backs_of links))
    (last_exact (backs ++ (link.back ∷ [])) links own h.1)

-- and its lines are true where it leans
last_lines : (backs : List Back) (links : List Link) (own : Link)
    → AreTrueLinesOver backs (links ++ own ∷ [])
    → AreTrueLinesOver backs links
    × AreTrueExits own.rules (own_over own.leans own.rules (backs ++ backs_of links))
unfolding AreTrueLinesOver
last_lines backs [] own h = (
  tt,
  subst (λ (l : List Back). AreTrueExits own.rules (own_over own.leans own.rules l))
      (sym (append-nil backs)) h.0,
)
last_lines backs (link ∷ links) own h =
    let rest = last_lines (backs ++ (link.back ∷ [])) links own h.1 in (
      (h.0, rest.0),
      subst (λ (l : List Back). AreTrueExits own.rules (own_over own.leans own.rules l))
          (append_assoc backs (link.back ∷ []) (backs_of links)) rest.1,
    )

module _ (before : List Link) (own : Link) (exact : AreExact (before ++ own ∷ [])) where
  pub exact_over_others :
      IsExactBack own.rules (value_over own.leans own.rules (backs_of before)) own.back
  exact_over_others = last_exact [] before own exact

  -- its exits are true where the exit lines of all texts are
  pub exits_are_true : AreTrueLines (before ++ own ∷ [])
      → AreTrueExits own.rules (value_over own.leans own.rules (backs_of before))
  exits_are_true lines =
      let parts = last_lines [] before own lines in
      link_exits_true own.leans own.rules (backs_of before)
      (tables_true before (exact_front [] before (own ∷ []) exact) parts.0) parts.1
