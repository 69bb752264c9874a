use Rattle.std.proofs.Common.{◌≡◌, ◌++◌, ◌+◌, ◌∙◌, ◌/◌, ◌%◌, List, Option, Some, [], ◌∷◌, ap, arith, inl, inr, length, length-append, subst, sym, ℕ}
use Rattle.std.specs.List.{slice_get}
use Rattle.std.proofs.lemmas.Bool.{cases_lt}
use Rattle.std.proofs.lemmas.Option.{same_Some, slice_get_within}
use Rattle.frz_board.specs.Men.{man_of_cell}
use Rattle.frz_board.specs.declared.man.Man.{Man}
use Rattle.frz_index.proofs.Charting.{get_before, get_last}
use Rattle.frz_index.specs.Shares.{IsShareOf}
use Rattle.frz_index.specs.declared.shares.Share.{Share}
use Rattle.frz_index.proofs.shares.shares_of.Goals as goal

-- what holds of each share, and of the next one, holds of each of all
next : (P : ℕ → Man → Option Share → Type 0) (shares : List (Option Share)) (o : Option Share) →
    ((k : ℕ) (man : Man) (x : Option Share) → slice_get shares k ≡ Some x →
    man_of_cell (k / 64) ≡ Some man → P k man x) →
    ((man : Man) → man_of_cell (length shares / 64) ≡ Some man → P (length shares) man o) →
    (k : ℕ) (man : Man) (x : Option Share) → slice_get (shares ++ o ∷ []) k ≡ Some x →
    man_of_cell (k / 64) ≡ Some man → P k man x
next P shares o each here k man x e is =
    elim (cases_lt k (length shares)) [
      | inl less ↦ each k man x (sym (get_before shares (o ∷ []) k less) ∙ e) is
      | inr more ↦
          let low = slice_get_within (shares ++ o ∷ []) k x e in
          let long = length-append shares (o ∷ []) in
          let last : length shares ≡ k = omega (arith, low, long, more) in
          let same : o ≡ x = same_Some o x
          (sym (get_last shares o) ∙ ap (slice_get (shares ++ o ∷ [])) last ∙ e) in
          subst (λ n. P n man x) last
          (subst (P (length shares) man) same (here man (ap (λ n. man_of_cell (n / 64)) last ∙ is)))
    ]

pub loop-i-preserved : goal.loop-i-preserved
loop-i-preserved c =
    let shares = c.loop-i.shares.items in
    let o = c.share_of_cell.result in
    let now : c.push.new.self.items ≡ shares ++ o ∷ [] = c.in_ok-push.ensures.items in
    let size = c.loop-i.invariant.size in
    record {
      size = ap length now ∙ length-append shares (o ∷ []) ∙ ap (λ n. n + 1) size;
      each = λ k man x e is.
          next (λ n m y. IsShareOf c.args.groups.now m (n % 64) y) shares o
          c.loop-i.invariant.each
          (λ m there.
          subst (λ n. IsShareOf c.args.groups.now m (n % 64) o) (sym size)
          (c.share_of_cell.ensures m (ap (λ n. man_of_cell (n / 64)) (sym size) ∙ there)))
          k man x (ap (λ xs. slice_get xs k) (sym now) ∙ e) is;
    }
