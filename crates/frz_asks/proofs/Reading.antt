-- Calculations that ask for one name: what each step says is so of the next, and they are tidy.
use Rattle.std.proofs.Common.{◌≡◌, refl, sym, ap, subst, ◌∙◌, ℕ, ◌+◌, Bool, true, false, cond, List, length, Option, Result, Ok, Err}
use Rattle.std.specs.Str.{bytes_eq}
use Rattle.std.proofs.lemmas.Slice.Eq.{bytes_eq-Decides}
use Rattle.frz_asks.specs.Trees.{Question, file_size, file_bytes, memory, Answer, Asks, gives, asks, ask_size, ask_bytes, with_memory, bind, bind_ok, if_ok}
use Rattle.frz_asks.specs.Tidy.{Mark, unasked, by_size, Marks, noted, IsBehind, gone_on, MayAsk, marked, MayAskOne, marked_one, Tidy, Reads}

pub reads_bind : {A B : Type 0} (name : List ℕ) (s : Mark) (p : Asks A) (f : A → Asks B)
    (R : A → Mark → Type 0) (Q : B → Mark → Type 0) → Reads name s p R
    → ((a : A) (t : Mark) → R a t → Reads name t (f a) Q) → Reads name s (bind p f) Q
unfolding Reads bind
reads_bind name s (gives a) f R Q h k = k a s h
reads_bind name s (asks e g) f R Q h k =
    (h.0, λ x long. reads_bind name (marked_one s e x) (g x) f R Q (h.1 x long) k)

pub reads_size : (name : List ℕ) → Reads name unasked (ask_size name) (λ n t. t ≡ by_size n)
unfolding Reads ask_size
reads_size name = ((refl, refl), λ n long. refl)

pub reads_bytes : (name : List ℕ) (s : Mark) (at count : ℕ) → IsBehind s at count
    → Reads name s (ask_bytes name at count) (λ l t. (length l ≡ count) × (t ≡ gone_on s (at + count)))
unfolding Reads ask_bytes
reads_bytes name s at count h = ((refl, h), λ l long. (long, refl))

noted_here : (s : Marks) (q name : List ℕ) (v : Mark) → q ≡ name → noted s q v name ≡ v
unfolding noted
noted_here s q name v e = ap (λ (b : Bool). cond b v (s name)) ((bytes_eq-Decides q name).1 e)

noted_off : (s : Marks) (q name x : List ℕ) (v : Mark) → q ≡ name → bytes_eq name x ≡ false
    → noted s q v x ≡ s x
unfolding noted
noted_off s q name x v e h =
    ap (λ (l : List ℕ). cond (bytes_eq l x) v (s x)) e ∙ ap (λ (b : Bool). cond b v (s x)) h

-- a question for this name may be asked, and any other name is then as it was before
may_ask : (name : List ℕ) (s : Mark) (K : Marks) (e : Question) → K name ≡ s → MayAskOne name s e
    → MayAsk K e
may_ask name s K (file_size q) e h = ap K h.0 ∙ e ∙ h.1
may_ask name s K (file_bytes q at count) e h =
    subst (λ x. IsBehind x at count) (sym (ap K h.0 ∙ e)) h.1
may_ask name s K memory e h = tt

mark_here : (name : List ℕ) (s : Mark) (K : Marks) (e : Question) (x : Answer e) → K name ≡ s
    → MayAskOne name s e → marked K e x name ≡ marked_one s e x
mark_here name s K (file_size q) n e h = noted_here K q name (by_size n) h.0
mark_here name s K (file_bytes q at count) l e h =
    noted_here K q name (gone_on (K q) (at + count)) h.0
    ∙ ap (λ x. gone_on x (at + count)) (ap K h.0 ∙ e)
mark_here name s K memory x e h = e

mark_off : (name y : List ℕ) (s : Mark) (K : Marks) (e : Question) (x : Answer e)
    → MayAskOne name s e → bytes_eq name y ≡ false → marked K e x y ≡ K y
mark_off name y s K (file_size q) n h o = noted_off K q name y (by_size n) h.0 o
mark_off name y s K (file_bytes q at count) l h o =
    noted_off K q name y (gone_on (K q) (at + count)) h.0 o
mark_off name y s K memory x h o = refl

pub tidy_bind : {A B : Type 0} (name : List ℕ) (s : Mark) (p : Asks A) (f : A → Asks B)
    (R : A → Mark → Type 0) (K : Marks) → K name ≡ s → Reads name s p R
    → ((a : A) (t : Mark) (L : Marks) → R a t → L name ≡ t
    → ((x : List ℕ) → bytes_eq name x ≡ false → L x ≡ K x) → Tidy L (f a))
    → Tidy K (bind p f)
unfolding Reads bind Tidy
tidy_bind name s (gives a) f R K e h k = k a s K h e (λ x o. refl)
tidy_bind name s (asks q g) f R K e h k = (
  may_ask name s K q e h.0,
  λ x long. tidy_bind name (marked_one s q x) (g x) f R (marked K q x)
      (mark_here name s K q x e h.0) (h.1 x long)
      (λ a t L r is others. k a t L r is
      (λ y o. others y o ∙ mark_off name y s K q x h.0 o)),
)

whole : {A : Type 0} (name : List ℕ) (s : Mark) (p : Asks A) (R : A → Mark → Type 0) (K : Marks)
    → K name ≡ s → Reads name s p R → Tidy K p
unfolding Reads Tidy
whole name s (gives a) R K e h = tt
whole name s (asks q g) R K e h = (
  may_ask name s K q e h.0,
  λ x long. whole name (marked_one s q x) (g x) R (marked K q x) (mark_here name s K q x e h.0)
      (h.1 x long),
)

-- a calculation that asks for one name alone
pub tidy_one : {A : Type 0} (name : List ℕ) (p : Asks A) (R : A → Mark → Type 0)
    → Reads name unasked p R → Tidy (λ x. unasked) p
tidy_one name p R h = whole name unasked p R (λ x. unasked) refl h

-- the steps of such a calculation
pub size_then : {B : Type 0} (name : List ℕ) (f : Option ℕ → Asks B) (Q : B → Mark → Type 0)
    → ((n : Option ℕ) → Reads name (by_size n) (f n) Q)
    → Reads name unasked (bind (ask_size name) f) Q
unfolding Reads bind ask_size
size_then name f Q k = ((refl, refl), λ n long. k n)

pub bytes_then : {B : Type 0} (name : List ℕ) (s : Mark) (at count : ℕ) (f : List ℕ → Asks B)
    (Q : B → Mark → Type 0) → IsBehind s at count
    → ((l : List ℕ) → length l ≡ count → Reads name (gone_on s (at + count)) (f l) Q)
    → Reads name s (bind (ask_bytes name at count) f) Q
unfolding Reads bind ask_bytes
bytes_then name s at count f Q h k = ((refl, h), k)

pub none_then : {A : Type 0} (name : List ℕ) (s : Mark) (a : A) (Q : A → Mark → Type 0) → Q a s
    → Reads name s (gives a) Q
unfolding Reads
none_then name s a Q h = h

pub memory_then : {A : Type 0} (name : List ℕ) (s : Mark) (p : Asks A) (Q : A → Mark → Type 0)
    → Reads name s p Q → Reads name s (with_memory p) Q
unfolding Reads with_memory
memory_then name s p Q h = ((tt, tt), λ x long. h)

pub either_then : {A : Type 0} (name : List ℕ) (s : Mark) (b : Bool) (p q : Asks A)
    (Q : A → Mark → Type 0) → (b ≡ true → Reads name s p Q) → (b ≡ false → Reads name s q Q)
    → Reads name s (cond b p q) Q
either_then name s true p q Q h k = h refl
either_then name s false p q Q h k = k refl

if_ok_reads : {A B E : Type 0} (name : List ℕ) (t : Mark) (f : A → Asks (Result B E))
    (R : Result A E → Mark → Type 0) (Q : Result B E → Mark → Type 0)
    → ((a : A) (t : Mark) → R (Ok a) t → Reads name t (f a) Q)
    → ((e : E) (t : Mark) → R (Err e) t → Q (Err e) t) → (r : Result A E) → R r t
    → Reads name t (if_ok f r) Q
unfolding Reads if_ok
if_ok_reads name t f R Q k e (Ok a) h = k a t h
if_ok_reads name t f R Q k e (Err x) h = e x t h

pub ok_then : {A B E : Type 0} (name : List ℕ) (s : Mark) (p : Asks (Result A E))
    (f : A → Asks (Result B E)) (R : Result A E → Mark → Type 0) (Q : Result B E → Mark → Type 0)
    → Reads name s p R → ((a : A) (t : Mark) → R (Ok a) t → Reads name t (f a) Q)
    → ((e : E) (t : Mark) → R (Err e) t → Q (Err e) t) → Reads name s (bind_ok p f) Q
unfolding bind_ok
ok_then name s p f R Q h k e =
    reads_bind name s p (if_ok f) R Q h (λ r t i. if_ok_reads name t f R Q k e r i)
