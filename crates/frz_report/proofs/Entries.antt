-- The entries of a census, and the entry of one more class.
use Rattle.std.proofs.Common.{◌≡◌, refl, sym, ap, subst, ◌∙◌, ℕ, ◌+◌, List, [], ◌∷◌, ◌++◌, map, Bool, true, false, cond, ◌||◌, if◌then◌else◌, Option, Some, length, ◌≤◌, arith}
use Rattle.std.specs.Option.{unwrap_or}
use Rattle.std.specs.List.{IsDistinct, list_any}
use Rattle.std.specs.Map.{lookup}
use Rattle.std.proofs.lemmas.List.Sums.{count_by-le-length}
use Rattle.std.specs.Str.{bytes_eq}
use Rattle.arrayvec.specs.ArrayString.{ArrayString}
use Rattle.indexmap.specs.IndexMap.{insert_entry}
use Rattle.frz_report.specs.Census.{firsts, times, census}
use Rattle.frz_report.specs.Walks.{Counts, lettered}
use Rattle.frz_report.proofs.Censuses.{Class, Differs, any_firsts, class_itself, equality_is_symmetric, firsts_distinct, firsts_more, once, same_class, times_more, times_none}

-- classes with a number each
abbrev pub tally : (Class → ℕ) → List Class → List (Class × ℕ)
tally f ks = map (λ c. (c, f c)) ks

-- the number of a class that stands there, and 0 for another
pub looked_up : (f : Class → ℕ) (x : Class) (ks : List Class)
    → unwrap_or (lookup (bytes_eq x) (tally f ks)) 0 ≡ cond (list_any (bytes_eq x) ks) (f x) 0
looked_up f x [] = refl
looked_up f x (c ∷ ks) = found_here_or_later (bytes_eq x c) refl (looked_up f x ks)
  where
    found_here_or_later : (b : Bool) → bytes_eq x c ≡ b
        → unwrap_or (lookup (bytes_eq x) (tally f ks)) 0 ≡ cond
        (list_any (bytes_eq x) ks) (f x) 0
        → unwrap_or (cond (bytes_eq x c) (Some (f c)) (lookup (bytes_eq x) (tally f ks))) 0 ≡ cond
        (bytes_eq x c || list_any (bytes_eq x) ks) (f x) 0
    found_here_or_later true e rest =
        ap (λ (b : Bool). unwrap_or (cond b (Some (f c)) (lookup (bytes_eq x) (tally f ks))) 0) e
        ∙ ap f (sym (same_class x c e))
        ∙ sym (ap (λ (b : Bool). cond (b || list_any (bytes_eq x) ks) (f x) 0) e)
    found_here_or_later false e rest =
        ap (λ (b : Bool). unwrap_or (cond b (Some (f c)) (lookup (bytes_eq x) (tally f ks))) 0) e
        ∙ rest
        ∙ sym (ap (λ (b : Bool). cond (b || list_any (bytes_eq x) ks) (f x) 0) e)

-- how often a class was met, by its entry
pub times_looked_up : (cs : List Class) (x : Class) → unwrap_or (lookup (bytes_eq x) (census cs)) 0
    ≡ times cs x
times_looked_up cs x = looked_up (times cs) x (firsts cs) ∙ ap (λ (b : Bool). cond b (times cs x) 0)
    (any_firsts x cs) ∙ times_met_or_not (list_any (bytes_eq x) cs) refl
  where
    times_met_or_not : (b : Bool) → list_any (bytes_eq x) cs ≡ b
        → cond (list_any (bytes_eq x) cs) (times cs x) 0 ≡ times cs x
    times_met_or_not true e = ap (λ (b : Bool). cond b (times cs x) 0) e
    times_met_or_not false e = ap (λ (b : Bool). cond b (times cs x) 0) e ∙ sym (times_none cs x e)

module _ (f g : Class → ℕ) (x : Class) (more : (c : Class) → g c ≡ f c + once (bytes_eq c x)) where
  other_count_stays : (c : Class) → bytes_eq x c ≡ false → g c ≡ f c
  other_count_stays c apart = more c
      ∙ ap (λ (b : Bool). f c + once b) (equality_is_symmetric x c false apart) ∙ omega arith

  same_count_rises : (c : Class) → bytes_eq x c ≡ true → g c ≡ f x + 1
  same_count_rises c same = more c
      ∙ ap (λ (b : Bool). f c + once b) (equality_is_symmetric x c true same)
      ∙ ap (λ (d : Class). f d + 1) (sym (same_class x c same))

  others_kept : (ks : List Class) → Differs x ks → tally f ks ≡ tally g ks
  others_kept [] h = refl
  others_kept (c ∷ ks) h = ap (λ (n : ℕ). (c, n) ∷ tally f ks) (sym (other_count_stays c h.0))
      ∙ ap (λ (l : List (Class × ℕ)). (c, g c) ∷ l) (others_kept ks h.1)

  -- a new class goes last
  new_entry : (ks : List Class) → Differs x ks → insert_entry bytes_eq (tally f ks) x (f x + 1)
      ≡ tally g (ks ++ x ∷ [])
  new_entry [] h = ap (λ (n : ℕ). (x, n) ∷ []) (sym (same_count_rises x (class_itself x)))
  new_entry (c ∷ ks) h =
      ap (λ (b : Bool). if b then (c, f x + 1) ∷ tally f ks else (c, f c) ∷ insert_entry bytes_eq
      (tally f ks) x (f x + 1)) h.0
      ∙ ap (λ (n : ℕ). (c, n) ∷ insert_entry bytes_eq (tally f ks) x (f x + 1))
      (sym (other_count_stays c h.0))
      ∙ ap (λ (l : List (Class × ℕ)). (c, g c) ∷ l) (new_entry ks h.1)

  -- what differs from an equal one differs
  differs_too : (c : Class) (ks : List Class) → bytes_eq x c ≡ true → Differs c ks → Differs x ks
  differs_too c ks e h = subst (λ (d : Class). Differs d ks) (sym (same_class x c e)) h

  -- one that is there keeps its place
  old_entry : (ks : List Class) → IsDistinct bytes_eq ks → list_any (bytes_eq x) ks ≡ true
      → insert_entry bytes_eq (tally f ks) x (f x + 1) ≡ tally g ks
  unfolding IsDistinct
  old_entry [] apart there = cc
  old_entry (c ∷ ks) apart there =
      entry_here_or_later (bytes_eq x c) refl there (old_entry ks apart.1)
    where
      entry_here_or_later : (b : Bool) → bytes_eq x c ≡ b → (b || list_any (bytes_eq x) ks) ≡ true
          → (list_any (bytes_eq x) ks ≡ true → insert_entry bytes_eq (tally f ks) x (f x + 1)
          ≡ tally g ks)
          → (if bytes_eq x c then (c, f x + 1) ∷ tally f ks else (c, f c) ∷ insert_entry bytes_eq
          (tally f ks) x (f x + 1)) ≡ (c, g c) ∷ tally g ks
      entry_here_or_later true e here rest =
          ap (λ (b : Bool). if b then (c, f x + 1) ∷ tally f ks
          else (c, f c) ∷ insert_entry bytes_eq (tally f ks) x (f x + 1)) e
          ∙ ap (λ (n : ℕ). (c, n) ∷ tally f ks) (sym (same_count_rises c e))
          ∙ ap (λ (l : List (Class × ℕ)). (c, g c) ∷ l)
          (others_kept ks (differs_too c ks e apart.0))
      entry_here_or_later false e later rest =
          ap (λ (b : Bool). if b then (c, f x + 1) ∷ tally f ks
          else (c, f c) ∷ insert_entry bytes_eq (tally f ks) x (f x + 1)) e
          ∙ ap (λ (n : ℕ). (c, n) ∷ insert_entry bytes_eq (tally f ks) x (f x + 1))
          (sym (other_count_stays c e))
          ∙ ap (λ (l : List (Class × ℕ)). (c, g c) ∷ l) (rest later)

-- none of these is equal to it
none_found_all_differ : (x : Class) (ks : List Class) → list_any (bytes_eq x) ks ≡ false
    → Differs x ks
none_found_all_differ x [] h = tt
none_found_all_differ x (c ∷ ks) h = differs_from_all (bytes_eq x c) refl h
    (none_found_all_differ x ks)
  where
    differs_from_all : (b : Bool) → bytes_eq x c ≡ b → (b || list_any (bytes_eq x) ks) ≡ false
        → (list_any (bytes_eq x) ks ≡ false → Differs x ks) → Differs x (c ∷ ks)
    differs_from_all true e h rest = cc
    differs_from_all false e h rest = (e, rest h)

-- one more class in a census
pub census_more : (cs : List Class) (x : Class)
    → insert_entry bytes_eq (census cs) x (times cs x + 1) ≡ census (cs ++ x ∷ [])
census_more cs x = census_met_or_not (list_any (bytes_eq x) cs) refl
  where
    counted_once_more : (c : Class) → times (cs ++ x ∷ []) c ≡ times cs c + once (bytes_eq c x)
    counted_once_more c = times_more cs x c

    census_met_or_not : (b : Bool) → list_any (bytes_eq x) cs ≡ b
        → insert_entry bytes_eq (census cs) x (times cs x + 1) ≡ census (cs ++ x ∷ [])
    census_met_or_not true e =
        let same : firsts (cs ++ x ∷ []) ≡ firsts cs = firsts_more cs x
        ∙ ap (λ (b : Bool). cond b (firsts cs) (firsts cs ++ x ∷ [])) e in
        old_entry (times cs) (times (cs ++ x ∷ [])) x counted_once_more (firsts cs)
        (firsts_distinct cs)
        (any_firsts x cs ∙ e) ∙ sym (ap (tally (times (cs ++ x ∷ []))) same)
    census_met_or_not false e =
        let last : firsts (cs ++ x ∷ []) ≡ firsts cs ++ x ∷ [] = firsts_more cs x
        ∙ ap (λ (b : Bool). cond b (firsts cs) (firsts cs ++ x ∷ [])) e in
        new_entry (times cs) (times (cs ++ x ∷ [])) x counted_once_more (firsts cs)
        (none_found_all_differ x (firsts cs) (any_firsts x cs ∙ e))
        ∙ sym (ap (tally (times (cs ++ x ∷ []))) last)

-- keys are equal where their letters are
abbrev pub eq_letters : ArrayString → ArrayString → Bool
eq_letters k e = bytes_eq k.bytes e.bytes

pub lettered_lookup : (k : ArrayString) (es : List (ArrayString × ℕ))
    → lookup (eq_letters k) es ≡ lookup (bytes_eq k.bytes) (lettered es)
lettered_lookup k [] = refl
lettered_lookup k (e ∷ es) =
    ap (λ (o : Option ℕ). cond (bytes_eq k.bytes e.0.bytes) (Some e.1) o) (lettered_lookup k es)

pub lettered_insert : (k : ArrayString) (v : ℕ) (es : List (ArrayString × ℕ))
    → lettered (insert_entry eq_letters es k v) ≡ insert_entry bytes_eq (lettered es) k.bytes v
lettered_insert k v [] = refl
lettered_insert k v (e ∷ es) =
    insert_here_or_later (bytes_eq k.bytes e.0.bytes) (lettered_insert k v es)
  where
    insert_here_or_later : (b : Bool)
        → lettered (insert_entry eq_letters es k v) ≡ insert_entry bytes_eq (lettered es) k.bytes v
        → lettered (if b then (e.0, v) ∷ es else e ∷ insert_entry eq_letters es k v)
        ≡ (if b then (e.0.bytes, v) ∷ lettered es else (e.0.bytes, e.1) ∷ insert_entry bytes_eq
        (lettered es) k.bytes v)
    insert_here_or_later true rest = refl
    insert_here_or_later false rest = ap (λ (l : List (Class × ℕ)). (e.0.bytes, e.1) ∷ l) rest

-- the entry that was found for a class says how often it was met
pub found_times : (exits : List Class) (k : ArrayString) (es : List (ArrayString × ℕ))
    → Counts es exits → unwrap_or (lookup (eq_letters k) es) 0 ≡ times exits k.bytes
found_times exits k es counts =
    ap (λ (o : Option ℕ). unwrap_or o 0) (lettered_lookup k es)
    ∙ ap (λ (l : List (Class × ℕ)). unwrap_or (lookup (bytes_eq k.bytes) l) 0) counts
    ∙ times_looked_up exits k.bytes

-- with one more, the entries count one exit more
pub counts_more : (exits : List Class) (k : ArrayString) (v : ℕ) (es : List (ArrayString × ℕ))
    → Counts es exits → v ≡ times exits k.bytes + 1
    → Counts (insert_entry eq_letters es k v) (exits ++ k.bytes ∷ [])
counts_more exits k v es counts is =
    lettered_insert k v es ∙ ap (λ (l : List (Class × ℕ)). insert_entry bytes_eq l k.bytes v) counts
    ∙ ap (λ (n : ℕ). insert_entry bytes_eq (census exits) k.bytes n) is ∙ census_more exits k.bytes

-- no class occurs more often than there are exits
pub few_times : (exits : List Class) (c : Class) → times exits c ≤ length exits
few_times exits c = count_by-le-length (bytes_eq c) exits
