-- The whole list of the moves to a number.
use Rattle.std.proofs.Common.{◌≡◌, ℕ, List, [], ◌++◌, true, Some, ap, sym, ◌∙◌, subst, ◌↔◌}
use Rattle.std.specs.Prelude.{Contains}
use Rattle.std.specs.List.{slice_get}
use Rattle.frz_board.specs.Boards.{Board}
use Rattle.frz_board.specs.Moving.{Step}
use Rattle.frz_fide.specs.Legal.{is_legal, after}
use Rattle.frz_fide.proofs.Lemmas.{same_move}
use Rattle.frz_sets.specs.Views.{GroupLine}
use Rattle.frz_index.specs.Candidates.{candidate}
use Rattle.frz_index.specs.Members.{HasNumber}
use Rattle.frz_index.proofs.Lemmas.{is_candidate}
use Rattle.frz_unmove.specs.declared.preds.Pred.{Pred}
use Rattle.frz_unmove.specs.Pairs.{LeadsTo, HaveDifferentNumbers}
use Rattle.frz_unmove.specs.Adding.{Adds}
use Rattle.frz_unmove.specs.Gathering.{Comes}
use Rattle.frz_unmove.proofs.Adding.{at_place, once_place}

comes_so_leads : (gs : List GroupLine) (q : ℕ) (b : Board) → HasNumber gs q b → (i : ℕ) (m : Step)
    → Comes gs b (record { number = i; mv = m }) → LeadsTo gs i m q
comes_so_leads gs q b h i m c = record {
  earlier = c.earlier;
  number = c.number;
  step = c.step;
  legal = c.legal;
  arrives = subst (HasNumber gs q) (sym c.arrives) h;
}

leads_so_comes : (gs : List GroupLine) (q : ℕ) (b : Board) → HasNumber gs q b → (i : ℕ) (m : Step)
    → LeadsTo gs i m q → Comes gs b (record { number = i; mv = m })
leads_so_comes gs q b h i m l = record {
  earlier = l.earlier;
  number = l.number;
  step = l.step;
  legal = l.legal;
  arrives = sym (is_candidate gs q (after l.earlier m) l.arrives) ∙ is_candidate gs q b h;
}

-- two moves that lead from the position of one number to one position are the same move
same_pred : (gs : List GroupLine) (b : Board) (x y : Pred) → Comes gs b x → Comes gs b y →
    x.number ≡ y.number → x ≡ y
same_pred gs b x y c d e =
    let same : d.earlier ≡ c.earlier = sym (is_candidate gs y.number d.earlier d.number)
    ∙ ap (candidate gs) (sym e) ∙ is_candidate gs x.number c.earlier c.number in
    let legal : is_legal c.earlier y.mv ≡ true = ap (λ p. is_legal p y.mv) (sym same) ∙ d.legal in
    let there : after c.earlier x.mv ≡ after c.earlier y.mv = c.arrives ∙ sym d.arrives
    ∙ ap (λ p. after p y.mv) same in
    let move : x.mv ≡ y.mv = same_move c.earlier x.mv y.mv c.number.member.valid c.step d.step
    c.legal legal there in
    let made : ℕ → Step → Pred = λ n m. record { number = n; mv = m } in
    ap (λ n. made n x.mv) e ∙ ap (made y.number) move

module _ (gs : List GroupLine) (q : ℕ) (b : Board) (h : HasNumber gs q b) (old new : List Pred)
    (n : ℕ) (none : old ≡ []) (f : Adds (Comes gs b) old new n) where
  new_is : new ≡ f.more
  new_is = f.is ∙ ap (λ xs. xs ++ f.more) none

  pub all_listed : (i : ℕ) (m : Step) → Contains new (record { number = i; mv = m }) ↔ LeadsTo gs i
      m q
  all_listed i m = (
    λ k. comes_so_leads gs q b h i m
        (f.only (record { number = i; mv = m })
        (subst (λ xs. Contains xs (record { number = i; mv = m })) new_is k)),
    λ l. subst (λ xs. Contains xs (record { number = i; mv = m })) (sym new_is)
        (f.all (record { number = i; mv = m }) (leads_so_comes gs q b h i m l)),
  )

  pub different_numbers : HaveDifferentNumbers new
  different_numbers k l x y ex ey e =
      let here : slice_get f.more k ≡ Some x = subst (λ xs. slice_get xs k ≡ Some x) new_is ex in
      let there : slice_get f.more l ≡ Some y = subst (λ xs. slice_get xs l ≡ Some y) new_is ey in
      let same = same_pred gs b x y (f.only x (at_place f.more k x here))
      (f.only y (at_place f.more l y there)) e in
      once_place f.more f.once k l y (subst (λ z. slice_get f.more k ≡ Some z) same here) there
