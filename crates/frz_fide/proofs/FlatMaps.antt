-- Lists that are joined piece by piece: a test of them all, and the same pieces made in two ways.
use Rattle.std.proofs.Common.{◌≡◌, List, [], ◌∷◌, ◌++◌, refl, ap, ◌∙◌, Bool, filter}
use Rattle.std.specs.List.{flat_map}
use Rattle.std.proofs.lemmas.List.Elements.{filter-append}

pub filter-flat_map : {X A : Type 0} (t : A → Bool) (f : X → List A) (xs : List X) →
    filter t (flat_map f xs) ≡ flat_map (λ x. filter t (f x)) xs
filter-flat_map t f [] = refl
filter-flat_map t f (x ∷ xs) =
    filter-append t (f x) (flat_map f xs) ∙ ap (λ ys. filter t (f x) ++ ys) (filter-flat_map t f xs)

pub flat_map-same : {X A : Type 0} (f g : X → List A) → ((x : X) → f x ≡ g x) → (xs : List X) →
    flat_map f xs ≡ flat_map g xs
flat_map-same f g h [] = refl
flat_map-same f g h (x ∷ xs) =
    ap (λ ys. ys ++ flat_map f xs) (h x) ∙ ap (λ ys. g x ++ ys) (flat_map-same f g h xs)
