-- Names that are put into files, once and twice.
use Rattle.std.specs.Prelude.{◌≢◌}
use Rattle.std.proofs.Common.{◌≡◌, refl, sym, ap, ◌∙◌, ℕ, List, [], ◌++◌, Some, Bool, true, false, cond, unwrap_or}
use Rattle.std.specs.Str.{bytes_eq}
use Rattle.std.proofs.lemmas.Slice.Eq.{bytes_eq-Decides}
use Rattle.std.proofs.lemmas.Bool.{false_from_ne_true}
use Rattle.frz_store.specs.Files.{Files, put, bytes_at, grown}

-- of two choices by one test the first counts
cond_twice : {A : Type 0} (b : Bool) (x y z : A) → cond b x (cond b y z) ≡ cond b x z
cond_twice true x y z = refl
cond_twice false x y z = refl

-- of two puts of one name the second counts
pub put-put : (m : Files) (n v w : List ℕ) → put (put m n v) n w ≡ put m n w
unfolding put
put-put m n v w = λ i q. cond_twice (bytes_eq n q) (Some w) (Some v) (m q) i

-- at a name that equals the one that was put
pub put-at : (m : Files) (n v q : List ℕ) → bytes_eq n q ≡ true → put m n v q ≡ Some v
unfolding put
put-at m n v q e = ap (λ b. cond b (Some v) (m q)) e

-- at any other name
pub put-off : (m : Files) (n v q : List ℕ) → bytes_eq n q ≡ false → put m n v q ≡ m q
unfolding put
put-off m n v q e = ap (λ b. cond b (Some v) (m q)) e

-- at the name itself
pub put-same : (m : Files) (n v : List ℕ) → put m n v n ≡ Some v
put-same m n v = put-at m n v n ((bytes_eq-Decides n n).1 refl)

-- at a name that differs
pub put-other : (m : Files) (n v q : List ℕ) → n ≢ q → put m n v q ≡ m q
put-other m n v q differs =
    put-off m n v q (false_from_ne_true (bytes_eq n q) (λ e. differs ((bytes_eq-Decides n q).0 e)))

-- a file that was put and then grew
pub grown-put : (m : Files) (n v piece : List ℕ)
    → grown (Some n) piece (put m n v) ≡ put m n (v ++ piece)
grown-put m n v piece = put-put m n v (bytes_at (put m n v) n ++ piece)
    ∙ ap (λ o. put m n (unwrap_or o [] ++ piece)) (put-same m n v)

-- choices by tests that exclude each other, in either order
swap_at : {A : Type 0} (a b : Bool) (x y z : A) → (a ≡ true → b ≡ true → ⊥)
    → cond b y (cond a x z) ≡ cond a x (cond b y z)
swap_at true true x y z h = absurd (h refl refl)
swap_at true false x y z h = refl
swap_at false true x y z h = refl
swap_at false false x y z h = refl

-- two names that differ may be put in either order
pub put-swap : (m : Files) (n k v w : List ℕ) → (n ≡ k → ⊥)
    → put (put m n v) k w ≡ put (put m k w) n v
unfolding put
put-swap m n k v w differs = λ i q.
    swap_at (bytes_eq n q) (bytes_eq k q) (Some v) (Some w) (m q)
    (λ a b. differs ((bytes_eq-Decides n q).0 a ∙ sym ((bytes_eq-Decides k q).0 b))) i
