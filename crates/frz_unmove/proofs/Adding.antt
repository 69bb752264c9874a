-- Adding to a list those of some kind, each once.
use Rattle.std.proofs.Common.{◌≡◌, ℕ, zero, suc, Some, ◌+◌, ◌<◌, ◌≤◌, List, [], ◌∷◌, ◌++◌, length, refl, ap, sym, ◌∙◌, subst, arith, append-nil, append_assoc, length-append, ◌⊎◌, inl, inr}
use Rattle.std.specs.Prelude.{Contains}
use Rattle.std.specs.List.{slice_get}
use Rattle.std.proofs.lemmas.Option.{same_Some, slice_get_within, get_or_from_slice_get}
use Rattle.std.proofs.lemmas.Bool.{cases_lt}
use Rattle.std.proofs.lemmas.List.Elements.{Contains-append_left, Contains-append_right, Contains-append_cases, Contains-push, Contains-push_cases}
use Rattle.frz_unmove.specs.Adding.{Once, Adds}

-- the empty list has no element
in_none : {A : Type 0} (x : A) → Contains {X = A} [] x → ⊥
in_none x c = let l = c.1 in omega (arith, l)

in_one : {A : Type 0} (y x : A) → Contains (y ∷ []) x → y ≡ x
in_one y x c =
    elim (Contains-push_cases [] y x c) [
      | inl n ↦ absurd (in_none x n)
      | inr e ↦ e
    ]

once_both : {A : Type 0} (xs ys : List A) → Once xs → Once ys →
    ((x : A) → Contains xs x → Contains ys x → ⊥) → Once (xs ++ ys)
once_both [] ys hx hy apart = hy
once_both (x ∷ xs) ys hx hy apart = (
  λ c. elim (Contains-append_cases xs ys x c) [
    | inl l ↦ hx.0 l
    | inr r ↦ apart x (zero, omega arith, refl) r
  ],
  once_both xs ys hx.1 hy (λ z l r. apart z (Contains-append_right (x ∷ []) xs z l) r),
)

-- what stands at a place of a list is in it
pub at_place : {A : Type 0} (xs : List A) (k : ℕ) (x : A) → slice_get xs k ≡ Some x → Contains xs x
at_place xs k x e = (k, slice_get_within xs k x e, get_or_from_slice_get xs k x x e)

-- where no item has P, nothing is added
pub adds_none : {A : Type 0} (P : A → Type 0) (old : List A) (n : ℕ) → ((x : A) → P x → ⊥) →
    Adds P old old n
adds_none P old n none = record {
  more = [];
  is = sym (append-nil old);
  only = λ x c. absurd (in_none x c);
  all = λ x h. absurd (none x h);
  once = tt;
  few = omega arith;
}

-- where one item alone has P, it is added
pub adds_one : {A : Type 0} (P : A → Type 0) (old new : List A) (y : A) → new ≡ old ++ y ∷ [] →
    P y → ((x : A) → P x → x ≡ y) → Adds P old new 1
adds_one P old new y e h same = record {
  more = y ∷ [];
  is = e;
  only = λ x c. subst P (in_one y x c) h;
  all = λ x p. subst (λ z. Contains (y ∷ []) z) (sym (same x p)) (Contains-push [] y);
  once = (λ c. in_none y c, tt);
  few = omega arith;
}

-- the items of two kinds are added, one kind after the other
pub adds_both : {A : Type 0} (P Q R : A → Type 0) (old mid new : List A) (a b n : ℕ) →
    Adds P old mid a → Adds Q mid new b → a + b ≤ n →
    ((x : A) → P x → Q x → ⊥) → ((x : A) → P x → R x) → ((x : A) → Q x → R x)
    → ((x : A) → R x → P x ⊎ Q x) → Adds R old new n
adds_both P Q R old mid new a b n f g room apart left right cases = record {
  more = f.more ++ g.more;
  is = g.is ∙ ap (λ xs. xs ++ g.more) f.is ∙ append_assoc old f.more g.more;
  only = λ x c. elim (Contains-append_cases f.more g.more x c) [
    | inl l ↦ left x (f.only x l)
    | inr r ↦ right x (g.only x r)
  ];
  all = λ x h. elim (cases x h) [
    | inl l ↦ Contains-append_left f.more g.more x (f.all x l)
    | inr r ↦ Contains-append_right f.more g.more x (g.all x r)
  ];
  once = once_both f.more g.more f.once g.once (λ x l r. apart x (f.only x l) (g.only x r));
  few = (let sum = length-append f.more g.more in let l = f.few in let r = g.few in omega arith);
}

-- two kinds with the same items: what adds the one adds the other
pub adds_same : {A : Type 0} (P R : A → Type 0) (old new : List A) (a n : ℕ) → Adds P old new a →
    a ≤ n → ((x : A) → P x → R x) → ((x : A) → R x → P x) → Adds R old new n
adds_same P R old new a n f room left back = record {
  more = f.more;
  is = f.is;
  only = λ x c. left x (f.only x c);
  all = λ x h. f.all x (back x h);
  once = f.once;
  few = (let l = f.few in omega arith);
}

pub adds_room : {A : Type 0} (P : A → Type 0) (old new : List A) (n : ℕ) → Adds P old new n →
    length new ≤ length old + n
adds_room P old new n f =
    let e = ap length f.is in let sum = length-append old f.more in let l = f.few in omega arith

-- a walk over the keys of what is added
module _ {A : Type 0} (P : A → Type 0) (key : A → ℕ) where
  -- those whose key the walk has passed
  abbrev pub Below : ℕ → A → Type 0
  Below n x = P x × (key x < n)

  -- none between n and s has a key: the walk goes on behind s
  pub walk_next : (old cur new : List A) (n s t a b c : ℕ) → Adds (Below n) old cur a →
      Adds (λ x. P x × (key x ≡ s)) cur new b → a + b ≤ c → n ≤ s → t ≡ s + 1 →
      ((x : A) → P x → n ≤ key x → key x < s → ⊥) → Adds (Below t) old new c
  walk_next old cur new n s t a b c f g room le next gap =
      adds_both (Below n) (λ x. P x × (key x ≡ s)) (Below t) old cur new a b c f g room
      (λ x h k. let l = h.1 in let e = k.1 in omega (arith, l, e))
      (λ x h. (h.0, (let l = h.1 in omega (arith, l, next))))
      (λ x k. (k.0, (let e = k.1 in omega (arith, e, next))))
      (λ x h. elim (cases_lt (key x) n) [
        | inl l ↦ inl (h.0, l)
        | inr l ↦ elim (cases_lt (key x) s) [
          | inl m ↦ absurd (gap x h.0 l m)
          | inr m ↦ inr (h.0, (let u = h.1 in omega (arith, u, next)))
        ]
      ])

  -- the first key alone, and none up to n
  pub walk_first : (old new : List A) (s n a c : ℕ) → Adds (λ x. P x × (key x ≡ s)) old new a →
      a ≤ c → s < n → ((x : A) → P x → (key x ≡ s) ⊎ (n ≤ key x)) → Adds (Below n) old new c
  walk_first old new s n a c f room l gap =
      adds_same (λ x. P x × (key x ≡ s)) (Below n) old new a c f room
      (λ x h. (h.0, (let e = h.1 in omega (arith, e))))
      (λ x h. elim (gap x h.0) [
        | inl e ↦ (h.0, e)
        | inr m ↦ absurd (let u = h.1 in omega (arith, m, u))
      ])

  pub walk_end : (old new : List A) (n a b : ℕ) → Adds (Below n) old new a → a ≤ b →
      ((x : A) → P x → n ≤ key x → ⊥) → Adds P old new b
  walk_end old new n a b f room none =
      adds_same (Below n) P old new a b f room
      (λ x h. h.0)
      (λ x h. elim (cases_lt (key x) n) [
        | inl l ↦ (h, l)
        | inr l ↦ absurd (none x h l)
      ])

-- a list in which none stands twice has each at one place
pub once_place : {A : Type 0} (xs : List A) → Once xs → (k l : ℕ) (x : A) →
    slice_get xs k ≡ Some x → slice_get xs l ≡ Some x → k ≡ l
once_place [] o k l x e f = absurd (cc)
once_place (y ∷ xs) o zero zero x e f = refl
once_place (y ∷ xs) o zero (suc l) x e f =
    absurd (o.0 (subst (Contains xs) (sym (same_Some y x e)) (at_place xs l x f)))
once_place (y ∷ xs) o (suc k) zero x e f =
    absurd (o.0 (subst (Contains xs) (sym (same_Some y x f)) (at_place xs k x e)))
once_place (y ∷ xs) o (suc k) (suc l) x e f = ap suc (once_place xs o.1 k l x e f)
