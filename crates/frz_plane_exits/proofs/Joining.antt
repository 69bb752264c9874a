-- Pairs added one set after another.
use Rattle.std.proofs.Common.{ℕ, ◌<◌, Bool, List, ◌⊎◌, inl, inr}
use Rattle.frz_sets.specs.declared.exit.Value.{Value}
use Rattle.frz_plane_exits.specs.Adding.{Adds, Pairs}
use Rattle.frz_plane_exits.specs.declared.exit_plane.ExitPlane.{ExitPlane}

-- each pair of the first is one of the second
abbrev pub AreAmong : Pairs → Pairs → Type 0
AreAmong P Q =
    (v : Value) (f : Bool) (a b : ℕ) → a < 64 → b < 64 → P v f a b → Q v f a b

module _ (P : Pairs) where
  -- without such a pair nothing changes
  pub nothing : (xs : List ExitPlane) →
      ((v : Value) (f : Bool) (a b : ℕ) → a < 64 → b < 64 → P v f a b → ⊥) → Adds xs xs P
  nothing xs none = record {
    kept = λ v f a b la lb h. h;
    added = λ v f a b la lb h. absurd (none v f a b la lb h);
    only = λ v f a b la lb h. inl h;
  }

  -- the same pairs in other words
  pub alike : (Q : Pairs) (xs ys : List ExitPlane) → Adds xs ys P → AreAmong P Q → AreAmong Q P →
      Adds xs ys Q
  alike Q xs ys h forth back = record {
    kept = h.kept;
    added = λ v f a b la lb q. h.added v f a b la lb (back v f a b la lb q);
    only = λ v f a b la lb k.
        elim (h.only v f a b la lb k) [
          | inl old ↦ inl old
          | inr new ↦ inr (forth v f a b la lb new)
        ];
  }

  -- first these, then those
  pub both : (Q R : Pairs) (xs ys zs : List ExitPlane) → Adds xs ys P → Adds ys zs Q →
      AreAmong P R → AreAmong Q R →
      ((v : Value) (f : Bool) (a b : ℕ) → a < 64 → b < 64 → R v f a b → P v f a b ⊎ Q v f a b) →
      Adds xs zs R
  both Q R xs ys zs g h first second either = record {
    kept = λ v f a b la lb k. h.kept v f a b la lb (g.kept v f a b la lb k);
    added = λ v f a b la lb k.
        elim (either v f a b la lb k) [
          | inl p ↦ h.kept v f a b la lb (g.added v f a b la lb p)
          | inr q ↦ h.added v f a b la lb q
        ];
    only = λ v f a b la lb k.
        elim (h.only v f a b la lb k) [
          | inl before ↦ elim (g.only v f a b la lb before) [
            | inl old ↦ inl old
            | inr p ↦ inr (first v f a b la lb p)
          ]
          | inr q ↦ inr (second v f a b la lb q)
        ];
  }
