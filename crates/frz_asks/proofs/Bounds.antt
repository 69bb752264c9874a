-- Calculations that ask no more than so many calls and bytes, whatever is answered, and what is so
-- of all that they give.
use Rattle.std.proofs.Common.{◌≡◌, ap, subst, ◌∙◌, ℕ, ◌+◌, ◌-◌, ◌≤◌, List, [], ◌∷◌, length, Option, arith}
use Rattle.std.specs.Prelude.{⊤}
use Rattle.frz_store.specs.Files.{Files}
use Rattle.frz_store.specs.Told.{StoreTold}
use Rattle.frz_asks.specs.Runs.{End, came, halted, EndsAt, Run}
use Rattle.frz_asks.specs.Tidy.{IsLong}
use Rattle.frz_asks.specs.Traces.{Fits, Trace, calls_in, bytes_asked, next_calls, next_bytes}
use Rattle.frz_asks.specs.Trees.{Question, file_size, file_bytes, memory, Answer, Asks, gives, asks, ask_bytes, with_memory, bind, calls_of, bytes_of}

-- so many calls and bytes at most
unfoldable pub Bounded : {A : Type 0} → (calls bytes : ℕ) → Asks A → (A → Type 0) → Type 0
Bounded c b (gives a) R = R a
Bounded c b (asks e k) R = (calls_of e ≤ c) × (bytes_of e ≤ b)
    × ((x : Answer e) → IsLong e x → Bounded (c - calls_of e) (b - bytes_of e) (k x) R)

pub bounded_more : {A : Type 0} (c b d e : ℕ) (p : Asks A) (R : A → Type 0) → c ≤ d → b ≤ e
    → Bounded c b p R → Bounded d e p R
unfolding Bounded
bounded_more c b d e (gives a) R few short h = h
bounded_more c b d e (asks q k) R few short h = (
  (let i = h.0 in omega (arith, i, few)),
  (let i = h.1 in omega (arith, i, short)),
  λ x long. bounded_more (c - calls_of q) (b - bytes_of q) (d - calls_of q) (e - bytes_of q) (k x) R
      (omega (arith, few)) (omega (arith, short)) (h.2 x long),
)

pub bounded_bind : {A B : Type 0} (c b d e : ℕ) (p : Asks A) (f : A → Asks B) (R : A → Type 0)
    (Q : B → Type 0) → Bounded c b p R → ((a : A) → R a → Bounded d e (f a) Q)
    → Bounded (c + d) (b + e) (bind p f) Q
unfolding Bounded bind
bounded_bind c b d e (gives a) f R Q h k =
    bounded_more d e (c + d) (b + e) (f a) Q (omega arith) (omega arith) (k a h)
bounded_bind c b d e (asks q g) f R Q h k =
    let few = h.0 in let short = h.1 in (
      omega (arith, few),
      omega (arith, short),
      λ x long. bounded_more (c - calls_of q + d) (b - bytes_of q + e) (c + d - calls_of q)
          (b + e - bytes_of q) (bind (g x) f) Q (omega (arith, few)) (omega (arith, short))
          (bounded_bind (c - calls_of q) (b - bytes_of q) d e (g x) f R Q (h.2 x long) k),
    )

pub bounded_bytes : (name : List ℕ) (at count : ℕ)
    → Bounded 1 count (ask_bytes name at count) (λ l. length l ≡ count)
unfolding Bounded ask_bytes
bounded_bytes name at count = (omega arith, omega arith, λ l long. long)

pub bounded_memory : {A : Type 0} (c b : ℕ) (p : Asks A) (R : A → Type 0) → Bounded c b p R
    → Bounded c b (with_memory p) R
unfolding Bounded with_memory
bounded_memory c b p R h =
    (omega arith, omega arith, λ x long. bounded_more c b (c - 0) (b - 0) p R (omega arith) (omega arith) h)

long_enough : (told : Option Files) (e : Question) (x : Answer e) → Fits told e x → IsLong e x
long_enough told (file_size name) x h = tt
long_enough told (file_bytes name at count) x h = h.long
long_enough told memory x h = tt

record Kept {A : Type 0} (c b : ℕ) (s : List Question) (q : Asks A) (R : A → Type 0) : Type 0 where
  calls : calls_in s + next_calls q ≤ c
  asked : bytes_asked s + next_bytes q ≤ b
  end : (a : A) → q ≡ gives a → R a

kept_none : {A : Type 0} (c b : ℕ) (p q : Asks A) (R : A → Type 0) → p ≡ q → Bounded c b p R
    → Kept c b [] q R
unfolding Bounded calls_in bytes_asked next_calls next_bytes
kept_none c b (gives a) q R same h = record {
  calls = (let n = ap next_calls same in omega (arith, n));
  asked = (let n = ap next_bytes same in omega (arith, n));
  end = λ x e. subst (λ y. Bounded c b y R) (same ∙ e) h;
}
kept_none c b (asks e k) q R same h = record {
  calls = (let n = ap next_calls same in let i = h.0 in omega (arith, n, i));
  asked = (let n = ap next_bytes same in let i = h.1 in omega (arith, n, i));
  end = λ x e. subst (λ y. Bounded c b y R) (same ∙ e) h;
}

kept : {A : Type 0} (told : Option Files) (c b : ℕ) (s : List Question) (p q : Asks A)
    (R : A → Type 0) → Trace told s p q → Bounded c b p R → Kept c b s q R
unfolding Trace Bounded calls_in bytes_asked
kept told c b [] p q R t h = kept_none c b p q R t h
kept told c b (e ∷ s) (gives a) q R t h = absurd t
kept told c b (e ∷ s) (asks d k) q R t h =
    let rest = kept told (c - calls_of d) (b - bytes_of d) s (k t.answer) q R t.next
    (h.2 t.answer (long_enough told d t.answer t.fits)) in record {
      calls = (let i = h.0 in let r = rest.calls in let n = ap calls_of t.same in omega (arith, i, r, n));
      asked = (let i = h.1 in let r = rest.asked in let n = ap bytes_of t.same in omega (arith, i, r, n));
      end = rest.end;
    }

abbrev pub AllGiven : {A : Type 0} → (A → Type 0) → End A → Type 0
AllGiven R (came a) = R a
AllGiven R (halted h) = ⊤

pub record Within {A : Type 0} (calls bytes : ℕ) (end : End A) (R : A → Type 0)
    (old new : StoreTold) : Type 0 where
  pub few_calls : new.calls ≤ old.calls + calls
  pub few_bytes : new.asked ≤ old.asked + bytes
  pub given : AllGiven R end

end_given : {A : Type 0} (end : End A) (R : A → Type 0) (q : Asks A) (old new : StoreTold)
    → ((a : A) → q ≡ gives a → R a) → EndsAt q end old new → AllGiven R end
end_given (came a) R q old new f e = f a e.0
end_given (halted h) R q old new f e = tt

pub ran_within : {A : Type 0} (c b : ℕ) (p : Asks A) (end : End A) (R : A → Type 0)
    (old new : StoreTold) → Bounded c b p R → Run p end old new → Within c b end R old new
ran_within c b p end R old new h run =
    let k = kept old.files c b run.seen p run.rest R run.trace h in record {
      few_calls = (let i = k.calls in let j = run.calls in omega (arith, i, j));
      few_bytes = (let i = k.asked in let j = run.asked in omega (arith, i, j));
      given = end_given end R run.rest old new k.end run.ends;
    }
