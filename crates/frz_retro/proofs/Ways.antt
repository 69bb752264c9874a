-- The ways of an arm: what it adds to what the arms say.
use Rattle.std.proofs.Common.{◌≡◌, ℕ, ◌+◌, Bool, true, false, not, cond, max, refl, sym, ap, subst, inl, inr}
use Rattle.std.proofs.lemmas.Bool.{cases_Bool, cond-true, cond-false}
use Rattle.frz_graph.specs.EntryCodes.{value_code}
use Rattle.frz_retro.specs.Kinds.{is_of}
use Rattle.frz_retro.specs.Shape.{counts_for, lesser}
use Rattle.frz_retro.specs.Beginning.{after_next, after_arm}
use Rattle.frz_board.specs.declared.man.Colour.{Colour}
use Rattle.frz_sets.specs.declared.exit.Value.{Value}
use Rattle.frz_arena.specs.declared.arm.Next.TheVariants.{Inside, Outside}
use Rattle.frz_retro.specs.Graphs.{Arm}
use Rattle.frz_retro.specs.declared.start.Start.{Start}
use Rattle.frz_retro.proofs.Choices.{next_cases}

-- the ways of an arm
pub data Way (own : Bool) (side : Colour) (a : Arm) (s t : Start) : Type 0 where
  Skips : counts_for own a ≡ false → t ≡ s → Way own side a s t
  Enters : (q : ℕ) → counts_for own a ≡ true → a.next ≡ Inside q → t.any ≡ true →
      t.count ≡ s.count + 1 → t.least ≡ s.least → t.most ≡ s.most → Way own side a s t
  Decides : (v : Value) → counts_for own a ≡ true → a.next ≡ Outside v →
      is_of own (value_code side v) ≡ true → t.any ≡ true → t.count ≡ s.count + 1 →
      t.least ≡ lesser (value_code side v) s.least → t.most ≡ s.most → Way own side a s t
  Settles : (v : Value) → counts_for own a ≡ true → a.next ≡ Outside v →
      is_of (not own) (value_code side v) ≡ true → t.any ≡ true → t.count ≡ s.count →
      t.least ≡ s.least → t.most ≡ max (value_code side v) s.most → Way own side a s t
  Holds : (v : Value) → counts_for own a ≡ true → a.next ≡ Outside v →
      is_of own (value_code side v) ≡ false → is_of (not own) (value_code side v) ≡ false →
      t.any ≡ true → t.count ≡ s.count + 1 → t.least ≡ s.least → t.most ≡ s.most →
      Way own side a s t

abbrev one_more : Bool → Start → ℕ → Start
one_more own s c =
    record { any = true; count = s.count + 1; least = lesser c s.least; most = s.most }

abbrev settled_more : Start → ℕ → Start
settled_more s c = record { any = true; count = s.count; least = s.least; most = max c s.most }

abbrev held_more : Start → Start
held_more s = record { any = true; count = s.count + 1; least = s.least; most = s.most }

abbrev pub others : Bool → Start → ℕ → Start
others own s c = cond (is_of (not own) c) (settled_more s c) (held_more s)

pub way : (own : Bool) (side : Colour) (a : Arm) (s : Start)
    → Way own side a s (after_arm own side s a)
way own side a s = elim (cases_Bool (counts_for own a)) [
  | inr f ↦ Skips f (cond-false (counts_for own a) (after_next own side s a.next) s f)
  | inl t ↦ let P : Start → Type 0 = λ x. Way own side a s x in
      subst P (sym (cond-true (counts_for own a) (after_next own side s a.next) s t))
      (elim (next_cases a.next) [
        | inl q ↦
            let e = ap (after_next own side s) q.1 in
            subst P (sym e) (Enters q.0 t q.1 refl refl refl refl)
        | inr v ↦
            let e = ap (after_next own side s) v.1 in
            subst P (sym e) (elim (cases_Bool (is_of own (value_code side v.0))) [
              | inl k ↦
                  subst P (sym (cond-true (is_of own (value_code side v.0))
                  (one_more own s (value_code side v.0)) (others own s (value_code side v.0)) k))
                  (Decides v.0 t v.1 k refl refl refl refl)
              | inr k ↦ subst P
                  (sym (cond-false (is_of own (value_code side v.0))
                  (one_more own s (value_code side v.0)) (others own s (value_code side v.0)) k))
                  (elim (cases_Bool (is_of (not own) (value_code side v.0))) [
                    | inl j ↦
                        subst P (sym (cond-true (is_of (not own) (value_code side v.0))
                        (settled_more s (value_code side v.0)) (held_more s) j))
                        (Settles v.0 t v.1 j refl refl refl refl)
                    | inr j ↦
                        subst P (sym (cond-false (is_of (not own) (value_code side v.0))
                        (settled_more s (value_code side v.0)) (held_more s) j))
                        (Holds v.0 t v.1 k j refl refl refl refl)
                  ])
            ])
      ])
]
