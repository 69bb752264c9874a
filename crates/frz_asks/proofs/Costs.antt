-- What a calculation gives over files, and within which calls and bytes, step by step.
use Rattle.std.proofs.Common.{◌≡◌, refl, sym, subst, ℕ, ◌+◌, ◌≤◌, Bool, true, false, cond, List, Option, Result, Ok, Err, arith}
use Rattle.frz_store.specs.Files.{Files}
use Rattle.frz_asks.specs.Trees.{Asks, gives, ask_size, ask_bytes, with_memory, bind, bind_ok, if_ok, over, calls_over, bytes_over, size_in, bytes_in, MayWant}
use Rattle.frz_asks.proofs.Loops.{bind-assoc}

-- behind so many calls and bytes it gives this, comes to no more of both than these, and if it may
-- want memory, this holds
pub record Costs {A : Type 0} (m : Files) (p : Asks A) (a : A) (before all asked most : ℕ)
    (Wants : Type 0) : Type 0 where
  pub gives : over m p ≡ a
  pub calls : before + calls_over m p ≤ all
  pub bytes : asked + bytes_over m p ≤ most
  pub wants : MayWant m p → Wants

module _ {m : Files} {c all b most : ℕ} {W : Type 0} where
  pub cost_none : {A : Type 0} (a : A) → c ≤ all → b ≤ most → Costs m (gives a) a c all b most W
  unfolding over calls_over bytes_over MayWant
  cost_none a few short = record {
    gives = refl;
    calls = omega (arith, few);
    bytes = omega (arith, short);
    wants = λ h. absurd h;
  }

  pub cost_size : {A : Type 0} {a : A} (name : List ℕ) (f : Option ℕ → Asks A)
      → Costs m (f (size_in m name)) a (c + 1) all b most W
      → Costs m (bind (ask_size name) f) a c all b most W
  unfolding over calls_over bytes_over MayWant bind ask_size
  cost_size name f h = record {
    gives = h.gives;
    calls = (let k = h.calls in omega (arith, k));
    bytes = (let k = h.bytes in omega (arith, k));
    wants = h.wants;
  }

  pub cost_bytes : {A : Type 0} {a : A} (name : List ℕ) (at count : ℕ) (f : List ℕ → Asks A)
      → Costs m (f (bytes_in m name at count)) a (c + 1) all (b + count) most W
      → Costs m (bind (ask_bytes name at count) f) a c all b most W
  unfolding over calls_over bytes_over MayWant bind ask_bytes
  cost_bytes name at count f h = record {
    gives = h.gives;
    calls = (let k = h.calls in omega (arith, k));
    bytes = (let k = h.bytes in omega (arith, k));
    wants = h.wants;
  }

  pub cost_memory : {A : Type 0} {a : A} (p : Asks A) → W → Costs m p a c all b most W
      → Costs m (with_memory p) a c all b most W
  unfolding over calls_over bytes_over MayWant with_memory
  cost_memory p w h = record {
    gives = h.gives;
    calls = (let k = h.calls in omega (arith, k));
    bytes = (let k = h.bytes in omega (arith, k));
    wants = λ x. w;
  }

  -- by a test
  pub cost_if : {A : Type 0} {a z : A} {all_else : ℕ} (t : Bool) (p q : Asks A)
      → (t ≡ true → Costs m p a c all b most W) → (t ≡ false → Costs m q z c all_else b most W)
      → Costs m (cond t p q) (cond t a z) c (cond t all all_else) b most W
  cost_if true p q h k = h refl
  cost_if false p q h k = k refl

  -- the first of these, and then the next if it does not refuse
  pub cost_first : {A B X E : Type 0} {a : Result B E} (p : Asks X) (g : X → Asks (Result A E))
      (f : A → Asks (Result B E)) → Costs m (bind p (λ x. bind_ok (g x) f)) a c all b most W
      → Costs m (bind_ok (bind p g) f) a c all b most W
  unfolding bind_ok
  cost_first {a = a} p g f h =
      subst (λ q. Costs m q a c all b most W) (sym (bind-assoc p g (if_ok f))) h

  pub cost_if_first : {A B E : Type 0} {a z : Result B E} {all_else : ℕ} (t : Bool)
      (p q : Asks (Result A E)) (f : A → Asks (Result B E))
      → (t ≡ true → Costs m (bind_ok p f) a c all b most W)
      → (t ≡ false → Costs m (bind_ok q f) z c all_else b most W)
      → Costs m (bind_ok (cond t p q) f) (cond t a z) c (cond t all all_else) b most W
  cost_if_first true p q f h k = h refl
  cost_if_first false p q f h k = k refl

  pub cost_refused : {A B E : Type 0} (e : E) (f : A → Asks (Result B E)) → c ≤ all → b ≤ most
      → Costs m (bind_ok (gives (Err e)) f) (Err e) c all b most W
  unfolding bind_ok bind if_ok
  cost_refused e f few short = cost_none (Err e) few short

  pub cost_came : {A B E : Type 0} {z : Result B E} (a : A) (f : A → Asks (Result B E))
      → Costs m (f a) z c all b most W → Costs m (bind_ok (gives (Ok a)) f) z c all b most W
  unfolding bind_ok bind if_ok
  cost_came a f h = h

  pub cost_memory_first : {A B E : Type 0} {a : Result B E} (p : Asks (Result A E))
      (f : A → Asks (Result B E)) → W → Costs m (bind_ok p f) a c all b most W
      → Costs m (bind_ok (with_memory p) f) a c all b most W
  unfolding over calls_over bytes_over MayWant with_memory bind_ok bind
  cost_memory_first p f w h = record {
    gives = h.gives;
    calls = (let k = h.calls in omega (arith, k));
    bytes = (let k = h.bytes in omega (arith, k));
    wants = λ x. w;
  }
