-- The steps of loops: what `repeated` and `folded` need.
use Rattle.std.proofs.Common.{◌≡◌, refl, sym, ap, subst, ◌∙◌, ℕ, zero, suc, ◌+◌, ◌<◌, List, [], ◌∷◌, ◌++◌, length, take, drop, get_or, Bool, true, false, cond, Result, Ok, Err, arith, add-one}
use Rattle.std.proofs.Math.Seq.{take-suc, drop-cons}
use Rattle.std.proofs.lemmas.List.{take-append-drop}
use Rattle.frz_store.specs.Files.{Files}
use Rattle.frz_store.specs.Told.{StoreTold}
use Rattle.frz_store.specs.declared.outside.StoreFault.{StoreFault}
use Rattle.frz_asks.specs.Trees.{Asks, gives, asks, bind, bind_ok, if_ok, over, answer_in, calls_over, bytes_over}
use Rattle.frz_asks.specs.Runs.{Stop, came, halted, stop_end, Run}
use Rattle.frz_asks.specs.Loops.{repeated, folded}
use Rattle.frz_asks.proofs.Binding.{run_none, run_on, halt_first, stop_first, ok_on}

-- what is given over files, of a calculation and then the next
pub over-bind : {A B : Type 0} (m : Files) (p : Asks A) (f : A → Asks B)
    → over m (bind p f) ≡ over m (f (over m p))
unfolding over bind
over-bind m (gives a) f = refl
over-bind m (asks e k) f = over-bind m (k (answer_in m e)) f

pub calls-bind : {A B : Type 0} (m : Files) (p : Asks A) (f : A → Asks B)
    → calls_over m (bind p f) ≡ calls_over m p + calls_over m (f (over m p))
unfolding over bind calls_over
calls-bind m (gives a) f = omega arith
calls-bind m (asks e k) f = let h = calls-bind m (k (answer_in m e)) f in omega (arith, h)

pub bytes-bind : {A B : Type 0} (m : Files) (p : Asks A) (f : A → Asks B)
    → bytes_over m (bind p f) ≡ bytes_over m p + bytes_over m (f (over m p))
unfolding over bind bytes_over
bytes-bind m (gives a) f = omega arith
bytes-bind m (asks e k) f = let h = bytes-bind m (k (answer_in m e)) f in omega (arith, h)

pub bind-assoc : {A B C : Type 0} (p : Asks A) (f : A → Asks B) (g : B → Asks C)
    → bind (bind p f) g ≡ bind p (λ a. bind (f a) g)
unfolding bind
bind-assoc (gives a) f g = refl
bind-assoc (asks e k) f g = λ i. asks e (λ x. bind-assoc (k x) f g i)

if_ok_on : {A B C E : Type 0} (f : A → Asks (Result B E)) (g : B → Asks (Result C E)) (r : Result A E)
    → bind (if_ok f r) (if_ok g) ≡ if_ok (λ a. bind_ok (f a) g) r
unfolding bind if_ok bind_ok
if_ok_on f g (Ok a) = refl
if_ok_on f g (Err e) = refl

pub bind_ok-assoc : {A B C E : Type 0} (p : Asks (Result A E)) (f : A → Asks (Result B E))
    (g : B → Asks (Result C E)) → bind_ok (bind_ok p f) g ≡ bind_ok p (λ a. bind_ok (f a) g)
unfolding bind_ok
bind_ok-assoc p f g = bind-assoc p (if_ok f) (if_ok g) ∙ (λ i. bind p (λ r. if_ok_on f g r i))

ok_unit : {A B E : Type 0} (a : A) (f : A → Asks (Result B E)) → bind_ok (gives (Ok a)) f ≡ f a
unfolding bind_ok bind if_ok
ok_unit a f = refl

pub folded-append : {A X E : Type 0} (f : A → X → Asks (Result A E)) (a : A) (xs ys : List X)
    → folded f a (xs ++ ys) ≡ bind_ok (folded f a xs) (λ b. folded f b ys)
unfolding folded
folded-append f a [] ys = sym (ok_unit a (λ b. folded f b ys))
folded-append f a (x ∷ xs) ys =
    (λ i. bind_ok (f a x) (λ b. folded-append f b xs ys i))
    ∙ sym (bind_ok-assoc (f a x) (λ b. folded f b xs) (λ b. folded f b ys))

ok_none : {A E : Type 0} (p : Asks (Result A E)) → bind_ok p (λ a. gives (Ok a)) ≡ p
unfolding bind_ok bind if_ok
ok_none (gives (Ok a)) = refl
ok_none (gives (Err e)) = refl
ok_none (asks e k) = λ i. asks e (λ x. ok_none (k x) i)

one_more : {A X E : Type 0} (f : A → X → Asks (Result A E)) (a : A) (x : X)
    → folded f a (x ∷ []) ≡ f a x
unfolding folded
one_more f a x = ok_none (f a x)

-- a loop over a list, at an index: nothing was done yet, one more step was, or it stops the loop
pub fold_none : {A X E : Type 0} (f : A → X → Asks (Result A E)) (a : A) (xs : List X)
    (store : StoreTold) → Run (folded f a (take 0 xs)) (came (Ok a)) store store
unfolding folded
fold_none f a xs store = run_none (Ok a) store

pub fold_more : {A X E : Type 0} (f : A → X → Asks (Result A E)) (a b c : A) (xs : List X) (i : ℕ)
    (d : X) (old mid new : StoreTold) → i < length xs
    → Run (folded f a (take i xs)) (came (Ok b)) old mid → Run (f b (get_or xs i d)) (came (Ok c)) mid new
    → Run (folded f a (take (i + 1) xs)) (came (Ok c)) old new
fold_more f a b c xs i d old mid new within h k =
    let x = get_or xs i d in
    let split : folded f a (take (i + 1) xs) ≡ bind_ok (folded f a (take i xs)) (λ b. f b x) =
    ap (λ n. folded f a (take n xs)) (add-one i) ∙ ap (folded f a) (take-suc xs i d within)
    ∙ folded-append f a (take i xs) (x ∷ []) ∙ (λ j. bind_ok (folded f a (take i xs)) (λ b. one_more f b x j)) in
    subst (λ p. Run p (came (Ok c)) old new) (sym split) (ok_on (λ b. f b x) h k)

pub fold_stop : {A X E : Type 0} (f : A → X → Asks (Result A E)) (a b : A) (xs : List X) (i : ℕ)
    (d : X) (stop : Stop E) (old mid new : StoreTold) → i < length xs
    → Run (folded f a (take i xs)) (came (Ok b)) old mid
    → Run (f b (get_or xs i d)) (stop_end {A = A} stop) mid new
    → Run (folded f a xs) (stop_end {A = A} stop) old new
unfolding folded
fold_stop {A = A} f a b xs i d stop old mid new within h k =
    let x = get_or xs i d in
    let rest = drop (suc i) xs in
    let split : folded f a xs ≡ bind_ok (folded f a (take i xs)) (λ b. folded f b (x ∷ rest)) =
    ap (folded f a) (sym (take-append-drop i xs) ∙ ap (λ (l : _). take i xs ++ l) (drop-cons xs i d within))
    ∙ folded-append f a (take i xs) (x ∷ rest) in
    subst (λ p. Run p (stop_end {A = A} stop) old new) (sym split)
    (ok_on (λ b. folded f b (x ∷ rest)) h (stop_first stop (λ b. folded f b rest) k))

-- a loop that counts
pub repeat_none : {A : Type 0} (f : A → Asks A) (a : A) (store : StoreTold)
    → Run (repeated 0 f a) (came a) store store
unfolding repeated
repeat_none f a store = run_none a store

pub repeat_more : {A : Type 0} (f : A → Asks A) (a b c : A) (k : ℕ) (old mid new : StoreTold)
    → Run (repeated k f a) (came b) old mid → Run (f b) (came c) mid new
    → Run (repeated (k + 1) f a) (came c) old new
unfolding repeated
repeat_more f a b c k old mid new h n =
    subst (λ j. Run (repeated j f a) (came c) old new) (sym (add-one k)) (run_on f h n)

-- where a step is halted, so is the whole
pub repeat_stop : {A : Type 0} (f : A → Asks A) (a b : A) (k n : ℕ) (h : StoreFault)
    (old mid new : StoreTold) → Run (repeated k f a) (came b) old mid → Run (f b) (halted h) mid new
    → Run (repeated (suc (n + k)) f a) (halted h) old new
unfolding repeated
repeat_stop f a b k zero h old mid new r s =
    let same : zero + k ≡ k = omega arith in
    subst (λ j. Run (repeated (suc j) f a) (halted h) old new) (sym same) (run_on f r s)
repeat_stop f a b k (suc n) h old mid new r s =
    let same : suc n + k ≡ suc (n + k) = omega arith in
    subst (λ j. Run (repeated (suc j) f a) (halted h) old new) (sym same)
    (halt_first f (repeat_stop f a b k n h old mid new r s))

-- what is given over files, by a test, and where the first may refuse
pub over-if : {A : Type 0} (m : Files) (b : Bool) (p q : Asks A)
    → over m (cond b p q) ≡ cond b (over m p) (over m q)
over-if m true p q = refl
over-if m false p q = refl

unfoldable pub then_ok : {A B E : Type 0} → (A → Result B E) → Result A E → Result B E
then_ok f (Ok a) = f a
then_ok f (Err e) = Err e

over_if_ok : {A B E : Type 0} (m : Files) (f : A → Asks (Result B E)) (r : Result A E)
    → over m (if_ok f r) ≡ then_ok (λ a. over m (f a)) r
unfolding over if_ok then_ok
over_if_ok m f (Ok a) = refl
over_if_ok m f (Err e) = refl

pub over-bind_ok : {A B E : Type 0} (m : Files) (p : Asks (Result A E)) (f : A → Asks (Result B E))
    → over m (bind_ok p f) ≡ then_ok (λ a. over m (f a)) (over m p)
unfolding bind_ok
over-bind_ok m p f = over-bind m p (if_ok f) ∙ over_if_ok m f (over m p)
