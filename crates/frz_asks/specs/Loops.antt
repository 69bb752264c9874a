-- A calculation again and again, and one for each element of a list.
use Rattle.std.specs.Prelude.{ℕ, zero, suc, List, [], ◌∷◌, Result, Ok}
use Rattle.frz_asks.specs.Trees.{Asks, gives, bind, bind_ok}

-- one step after another, so many of them
unfoldable pub repeated : {A : Type 0} → ℕ → (A → Asks A) → A → Asks A
repeated zero f a = gives a
repeated (suc k) f a = bind (repeated k f a) f

-- one step for each element, up to the first that refuses
unfoldable pub folded : {A X E : Type 0} → (A → X → Asks (Result A E)) → A → List X
    → Asks (Result A E)
folded f a [] = gives (Ok a)
folded f a (x ∷ xs) = bind_ok (f a x) (λ b. folded f b xs)
