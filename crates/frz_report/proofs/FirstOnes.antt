-- The first ones of each class, and one more.
use Rattle.std.proofs.Common.{◌≡◌, refl, sym, ap, ◌∙◌, ◌+◌, ◌<◌, List, [], ◌∷◌, ◌++◌, map, Bool, true, false, cond, ◌||◌, arith, inl, inr}
use Rattle.std.specs.List.{list_any}
use Rattle.std.specs.Str.{bytes_eq}
use Rattle.std.proofs.lemmas.Bool.{cases_Bool}
use Rattle.std.proofs.lemmas.List.Elements.{All-push}
use Rattle.std.proofs.lemmas.List.Sums.{sum_by-cons}
use Rattle.frz_board.specs.Boards.{Board}
use Rattle.frz_fide.specs.Valid.{IsValid}
use Rattle.frz_report.specs.Census.{firsts_by, times}
use Rattle.frz_report.specs.Exits.{class_of}
use Rattle.frz_report.specs.Walks.{IsFirsts}
use Rattle.frz_report.proofs.Censuses.{Class, firsts_by_more, times_none}

-- a class that occurs no time is not met
none_met : (cs : List Class) (c : Class) → times cs c ≡ 0 → list_any (bytes_eq c) cs ≡ false
none_met [] c h = refl
none_met (d ∷ cs) c h =
    none_here_or_later (bytes_eq c d)
    (sym (sum_by-cons (λ (e : Class). cond (bytes_eq c e) 1 0) d cs) ∙ h) (none_met cs c)
  where
    none_here_or_later : (b : Bool) → cond b 1 0 + times cs c ≡ 0
        → (times cs c ≡ 0 → list_any (bytes_eq c) cs ≡ false) → (b || list_any (bytes_eq c) cs) ≡ false
    none_here_or_later true h rest = absurd (omega arith)
    none_here_or_later false h rest = rest (omega arith)

some_met : (cs : List Class) (c : Class) → 0 < times cs c → list_any (bytes_eq c) cs ≡ true
some_met cs c h =
    elim (cases_Bool (list_any (bytes_eq c) cs)) [
      | inl met ↦ met
      | inr not_met ↦ (let none = times_none cs c not_met in absurd (omega arith))
    ]

any_mapped : {X : Type 0} (f : X → Class) (c : Class) (xs : List X)
    → list_any (bytes_eq c) (map f xs) ≡ list_any (λ x. bytes_eq c (f x)) xs
any_mapped f c [] = refl
any_mapped f c (x ∷ xs) = ap (λ (b : Bool). bytes_eq c (f x) || b) (any_mapped f c xs)

module _ (kept exits : List Board) (q : Board) (before : IsFirsts kept exits) where
  more : (b : Bool) → list_any (bytes_eq (class_of q)) (map class_of exits) ≡ b
      → firsts_by class_of (exits ++ q ∷ [])
      ≡ cond b (firsts_by class_of exits) (firsts_by class_of exits ++ q ∷ [])
  more b e =
      firsts_by_more class_of exits q
      ∙ ap (λ (b : Bool). cond b (firsts_by class_of exits) (firsts_by class_of exits ++ q ∷ []))
      (sym (any_mapped class_of (class_of q) exits) ∙ e)

  -- of a class that was met the first one stays
  pub firsts_stay : 0 < times (map class_of exits) (class_of q) → IsFirsts kept (exits ++ q ∷ [])
  firsts_stay h = record {
    are = before.are ∙ sym (more true (some_met (map class_of exits) (class_of q) h));
    valid = before.valid;
  }

  -- the first one of a new class goes last
  pub firsts_grow : times (map class_of exits) (class_of q) ≡ 0 → IsValid q
      → IsFirsts (kept ++ q ∷ []) (exits ++ q ∷ [])
  firsts_grow h valid = record {
    are = ap (λ (l : List Board). l ++ q ∷ []) before.are
        ∙ sym (more false (none_met (map class_of exits) (class_of q) h));
    valid = All-push IsValid kept q before.valid valid;
  }
