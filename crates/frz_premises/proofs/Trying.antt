-- What is known of the exit lines after one more exit.
use Rattle.std.proofs.Common.{◌≡◌, ◌≢◌, ◌+◌, ◌<◌, ℕ, zero, suc, inl, inr, ◌⊎◌, Bool, true, false, not, ◌&&◌, List, [], ◌∷◌, ◌++◌, map, length, replicate, ◌||◌, is_some, set, Option, Some, None, Vec, Global, get_or, refl, sym, subst, ap, ap₂, ◌∙◌, arith, cond, append-nil, zero-add, take, Result, Ok, Err, IfOk}
use Rattle.std.specs.Prelude.{find, slice_get}
use Rattle.std.specs.List.{enumerate_from, filter, list_any, position_from}
use Rattle.std.specs.Option.{option_or}
use Rattle.std.proofs.lemmas.Bool.{cases_eq, cases_lt, eq-eqb, ne_eqb}
use Rattle.std.proofs.lemmas.List.{ext_get_or, get_or_append_left, get_or_push, get_or_read, map-append, same_lists, take_more, get_or-map, get_or-set_same, get_or-set_other, length-map, length-replicate, length-set}
use Rattle.std.proofs.lemmas.List.Elements.{filter-append}
use Rattle.std.proofs.lemmas.List.FromFn.{get_or-enumerate_from, length-enumerate_from}
use Rattle.std.proofs.lemmas.List.Folds.{find-append, list_all-append}
use Rattle.frz_board.specs.Boards.{Board}
use Rattle.frz_board.specs.Moving.{Step}
use Rattle.frz_fide.specs.Legal.{after}
use Rattle.frz_arena.specs.declared.arm.Arm.{Arm}
use Rattle.frz_arena.specs.declared.arm.Next.{Next}
use Rattle.frz_arena.specs.declared.arm.Next.TheVariants.{Outside}
use Rattle.frz_sets.specs.declared.exit.Value.{Value}
use Rattle.frz_sets.specs.declared.exit.Value.TheVariants.{Unknown}
use Rattle.frz_sets.specs.Views.{ExitLine, RuleLines}
use Rattle.frz_exits.specs.Values.{is_unknown}
use Rattle.frz_backs.specs.Links.{Link, backs_of}
use Rattle.frz_backs.specs.BackTable.{BackTable}
use Rattle.frz_premises.specs.declared.basis.Basis.{Basis}
use Rattle.frz_premises.specs.declared.trial.Trial.{Trial}
use Rattle.frz_premises.specs.declared.basis.Basis.TheVariants.{AsksNothing, ByMen}
use Rattle.frz_premises.specs.Bases.{asked_of, bases_of, basis_at, basis_of, by_asked, by_need, by_tables}
use Rattle.frz_backs.specs.Lines.{line_over}
use Rattle.frz_backs.proofs.Lemmas.{line_gives}
use Rattle.std.proofs.lemmas.Option.{slice_get_within}
use Rattle.frz_premises.specs.Deciding.{decided_by, decides, is_place}
use Rattle.frz_backs.specs.Loaded.{link_loaded}
use Rattle.frz_premises.specs.Men.{men_show}
use Rattle.frz_premises.specs.Saying.{none_says, says_as_much, says_at_each}
use Rattle.frz_premises.specs.Trials.{AreTried, IsHeard, IsTried, boards_after, is_outside, is_some_there}

some_there_with_more : (qs : List Board) (q : Board) → is_some_there (qs ++ q ∷ []) ≡ true
some_there_with_more [] q = refl
some_there_with_more (x ∷ qs) q = refl

and_true : (b : Bool) → (b && true) ≡ b
and_true true = refl
and_true false = refl

-- the exits at which the men do not show the value, after one more
not_asked : (v : Value) (qs : List Board) (q : Board) → men_show v q ≡ true →
    asked_of v (qs ++ q ∷ []) ≡ asked_of v qs
not_asked v qs q shown =
    filter-append (λ (z : Board). not (men_show v z)) qs (q ∷ [])
    ∙ ap (λ (l : List Board). asked_of v qs ++ l) (rw shown refl)
    ∙ append-nil (asked_of v qs)

one_asked : (v : Value) (qs : List Board) (q : Board) → men_show v q ≡ false →
    asked_of v (qs ++ q ∷ []) ≡ asked_of v qs ++ q ∷ []
one_asked v qs q hidden =
    filter-append (λ (z : Board). not (men_show v z)) qs (q ∷ [])
    ∙ ap (λ (l : List Board). asked_of v qs ++ l) (rw hidden refl)

-- the first exit that needs belief, after one more
module _ (links : List Link) (v : Value) (qs : List Board) (q : Board) where
  pub need_stays : (first : Board) → Some first ≡ find (none_says links v) qs →
      Some first ≡ find (none_says links v) (qs ++ q ∷ [])
  need_stays first e =
      ap (λ o. option_or o (find (none_says links v) (q ∷ []))) e
      ∙ sym (find-append (none_says links v) qs (q ∷ []))

  need_more : None ≡ find (none_says links v) qs →
      find (none_says links v) (qs ++ q ∷ []) ≡ find (none_says links v) (q ∷ [])
  need_more e =
      find-append (none_says links v) qs (q ∷ [])
      ∙ sym (ap (λ o. option_or o (find (none_says links v) (q ∷ []))) e)

  pub none_needs : None ≡ find (none_says links v) qs →
      true ≡ list_any (λ link. says_as_much v link q) links →
      None ≡ find (none_says links v) (qs ++ q ∷ [])
  none_needs e said =
      let told : none_says links v q ≡ false = ap not (sym said) in
      sym (need_more e ∙ (rw told refl))

  pub this_needs : None ≡ find (none_says links v) qs →
      false ≡ list_any (λ link. says_as_much v link q) links →
      Some q ≡ find (none_says links v) (qs ++ q ∷ [])
  this_needs e said =
      let told : none_says links v q ≡ true = ap not (sym said) in
      sym (need_more e ∙ (rw told refl))

-- which tables said as much at each exit, after one more
says_with_one_more : (v : Value) (qs : List Board) (q : Board) (link : Link) →
    says_at_each v (qs ++ q ∷ []) link ≡ (says_at_each v qs link && says_as_much v link q)
says_with_one_more v qs q link =
    list_all-append (says_as_much v link) qs (q ∷ [])
    ∙ ap (λ b. says_at_each v qs link && b) (and_true (says_as_much v link q))

pub says_more : (v : Value) (qs : List Board) (q : Board) (backs : List BackTable)
    (old new : List Bool) → length new ≡ length backs →
    old ≡ map (says_at_each v qs) (map link_loaded backs) →
    ((k : ℕ) (back : BackTable) → k < length backs → get_or new k false
    ≡ (get_or old k false && says_as_much v (link_loaded (get_or backs k back)) q)) →
    new ≡ map (says_at_each v (qs ++ q ∷ [])) (map link_loaded backs)
says_more v qs q [] old [] many was heard = refl
says_more v qs q [] old (b ∷ new) many was heard = absurd (omega arith)
says_more v qs q (first ∷ backs) old new many was heard =
    let all = first ∷ backs in
    let links = map link_loaded all in
    ext_get_or false new (map (says_at_each v (qs ++ q ∷ [])) links)
    (many ∙ sym (length-map links (says_at_each v (qs ++ q ∷ []))
    ∙ length-map all link_loaded))
    (λ i l. (
    let here : i < length all = omega arith in
    let there : i < length links = omega (arith, length-map all link_loaded) in
    let link = get_or links i (link_loaded first) in
    let is : link ≡ link_loaded (get_or all i first) =
    get_or-map link_loaded all i first (link_loaded first) here in
    heard i first here
    ∙ ap₂ ◌&&◌ (ap (λ (bs : List Bool). get_or bs i false) was
    ∙ get_or-map (says_at_each v qs) links i (link_loaded first) false there)
    (ap (λ (k : Link). says_as_much v k q) (sym is))
    ∙ sym (says_with_one_more v qs q link)
    ∙ sym (get_or-map (says_at_each v (qs ++ q ∷ [])) links i (link_loaded first) false there)))

-- one exit noted for a line
any_mapped : {X Y : Type 0} (f : Y → Bool) (g : X → Y) (xs : List X) →
    list_any (λ x. f (g x)) xs ≡ list_any f (map g xs)
any_mapped f g [] = refl
any_mapped f g (x ∷ xs) = ap (λ b. f (g x) || b) (any_mapped f g xs)

pub none_by : {X : Type 0} (o : Option X) (r : Bool) → is_some o ≡ not r → r ≡ true → o ≡ None
none_by None r h e = refl
none_by (Some x) r h e = absurd (let k : true ≡ false = h ∙ ap not e in cc)

pub some_by : {X : Type 0} (o : Option X) (r : Bool) → is_some o ≡ not r → r ≡ false →
    (x : X) × (o ≡ Some x)
some_by None r h e = absurd (let k : false ≡ true = h ∙ ap not e in cc)
some_by (Some x) r h e = (x, refl)

module _ (backs : List BackTable) (line : ExitLine) (qs : List Board) (q : Board)
    (old new : Trial) where
  -- after an exit that needs belief nothing is heard
  pub stays_heard : IsHeard (map link_loaded backs) line qs old → (first : Board) →
      old.need ≡ Some first → new.need ≡ old.need →
      IsHeard (map link_loaded backs) line (qs ++ q ∷ []) new
  stays_heard heard first some same = record {
    need = same ∙ some ∙ need_stays (map link_loaded backs) line.value qs q first
        (sym some ∙ heard.need);
    says = λ none. absurd (let e : None ≡ Some first = sym none ∙ (same ∙ some) in cc);
  }

  module _ (v : Value) (is : line.value ≡ v) (heard : IsHeard (map link_loaded backs) line qs old)
      (none : old.need ≡ None) where
    -- some table says as much
    pub said_heard : new.need ≡ old.need →
        true ≡ list_any (λ back. says_as_much v (link_loaded back) q) backs →
        length new.says.items ≡ length backs →
        ((k : ℕ) (back : BackTable) → k < length backs → get_or new.says.items k false
        ≡ (get_or old.says.items k false
        && says_as_much v (link_loaded (get_or backs k back)) q)) →
        IsHeard (map link_loaded backs) line (qs ++ q ∷ []) new
    said_heard same told many each =
        let P : Value → Type 0 = λ x. true ≡ list_any (λ back. says_as_much x (link_loaded back) q)
        backs in
        let Q : Value → Type 0 = λ x. (k : ℕ) (back : BackTable) → k < length backs →
        get_or new.says.items k false ≡ (get_or old.says.items k false
        && says_as_much x (link_loaded (get_or backs k back)) q) in
        record {
          need = same ∙ none ∙ none_needs (map link_loaded backs) line.value qs q
              (sym none ∙ heard.need)
              (subst P (sym is) told
              ∙ any_mapped (λ link. says_as_much line.value link q) link_loaded backs);
          says = λ still. says_more line.value qs q backs old.says.items new.says.items many
              (heard.says none) (subst Q (sym is) each);
        }

    -- none does
    pub needs_here : new.need ≡ Some q →
        false ≡ list_any (λ back. says_as_much v (link_loaded back) q) backs →
        IsHeard (map link_loaded backs) line (qs ++ q ∷ []) new
    needs_here here told =
        let P : Value → Type 0 = λ x. false ≡ list_any
        (λ back. says_as_much x (link_loaded back) q) backs in
        record {
          need = here ∙ this_needs (map link_loaded backs) line.value qs q
              (sym none ∙ heard.need)
              (subst P (sym is) told
              ∙ any_mapped (λ link. says_as_much line.value link q) link_loaded backs);
          says = λ still. absurd (let e : None ≡ Some q = sym still ∙ here in cc);
        }

-- after an exit at which the men show the value
pub shown_trial_is_tried : (links : List Link) (line : ExitLine) (qs : List Board) (q : Board)
    (old new : Trial) → IsTried links line qs old → new.value ≡ old.value →
    new.has_exits ≡ true → new.is_asked ≡ old.is_asked → new.need ≡ old.need →
    new.says ≡ old.says → men_show old.value q ≡ true → IsTried links line (qs ++ q ∷ []) new
shown_trial_is_tried links line qs q old new tried value some asked need says shown =
    let here : men_show line.value q ≡ true = ap (λ v. men_show v q) (sym tried.value) ∙ shown in
    let same = not_asked line.value qs q here in
    record {
      value = value ∙ tried.value;
      has_exits = some ∙ sym (some_there_with_more qs q);
      is_asked = asked ∙ (tried.is_asked ∙ ap is_some_there (sym same));
      many = ap (λ (b : Vec Bool Global). length b.items) says ∙ tried.many;
      heard = subst (λ (l : List Board). IsHeard links line l new) (sym same) (record {
        need = need ∙ tried.heard.need;
        says = λ none. ap (λ (b : Vec Bool Global). b.items) says
            ∙ tried.heard.says (sym need ∙ none);
      });
    }

-- after an exit at which they do not
pub asked_trial_is_tried : (links : List Link) (line : ExitLine) (qs : List Board) (q : Board)
    (old new : Trial) → IsTried links line qs old → new.value ≡ old.value →
    new.has_exits ≡ true → new.is_asked ≡ true → length new.says.items ≡ length links →
    men_show old.value q ≡ false →
    IsHeard links line (asked_of line.value qs ++ q ∷ []) new → IsTried links line (qs ++ q ∷ []) new
asked_trial_is_tried links line qs q old new tried value some asked many hidden heard =
    let here : men_show line.value q ≡ false = ap (λ v. men_show v q) (sym tried.value) ∙ hidden in
    let more = one_asked line.value qs q here in
    record {
      value = value ∙ tried.value;
      has_exits = some ∙ sym (some_there_with_more qs q);
      is_asked = asked ∙ sym (ap is_some_there more
          ∙ some_there_with_more (asked_of line.value qs) q);
      many = many;
      heard = subst (λ (l : List Board). IsHeard links line l new) (sym more) heard;
    }

-- before the first exit each table has said as much at each
all_said : (v : Value) (links : List Link) →
    replicate (length links) true ≡ map (says_at_each v []) links
all_said v [] = refl
all_said v (link ∷ links) = ap (λ bs. true ∷ bs) (all_said v links)

pub new_trial_is_tried : (links : List Link) (line : ExitLine) (new : Trial) (tables : ℕ) →
    length links ≡ tables → new.value ≡ line.value → new.has_exits ≡ false →
    new.is_asked ≡ false → new.need ≡ None → new.says.items ≡ replicate tables true →
    IsTried links line [] new
new_trial_is_tried links line new tables e value none unasked need all =
    let said : new.says.items ≡ replicate (length links) true =
    all ∙ ap (λ n. replicate n true) (sym e) in
    record {
      value = value;
      has_exits = none;
      is_asked = unasked;
      many = ap length said ∙ length-replicate (length links) true;
      heard = record {
        need = need;
        says = λ m. said ∙ all_said line.value links;
      };
    }

-- what a line rests on by what is known of it
first_mapped : (f : Link → Bool) (n : ℕ) (links : List Link) →
    position_from (λ said. said) n (map f links) ≡ position_from f n links
first_mapped f n [] = refl
first_mapped f n (link ∷ links) =
    ap (cond (f link) (Some n)) (first_mapped f (n + 1) links)

need_agrees_with_tables : (links : List Link) (line : ExitLine) (qs : List Board) (trial : Trial)
    (place : Option ℕ) → IsHeard links line qs trial →
    place ≡ position_from (λ said. said) 0 trial.says.items →
    by_need trial.need place ≡ by_tables links line.value qs
need_agrees_with_tables links line qs trial place heard at = by_cases trial.need refl
  where
    tables_agree_with_need : by_tables links line.value qs
        ≡ by_need trial.need (position_from (says_at_each line.value qs) 0 links)
    tables_agree_with_need = ap
        (λ o. by_need o (position_from (says_at_each line.value qs) 0 links))
        (sym heard.need)

    by_cases : (o : Option Board) → trial.need ≡ o →
        by_need trial.need place ≡ by_tables links line.value qs
    by_cases (Some q) e =
        ap (λ o. by_need o place) e
        ∙ sym (tables_agree_with_need
        ∙ ap (λ o. by_need o (position_from (says_at_each line.value qs) 0 links)) e)
    by_cases None e =
        ap (by_need trial.need)
        (at ∙ ap (position_from (λ said. said) 0) (heard.says e)
        ∙ first_mapped (says_at_each line.value qs) 0 links)
        ∙ sym tables_agree_with_need

-- where some exit is asked of the tables
pub basis_by : (links : List Link) (line : ExitLine) (qs : List Board) (trial : Trial)
    (place : Option ℕ) → IsTried links line qs trial → trial.is_asked ≡ true →
    place ≡ position_from (λ said. said) 0 trial.says.items →
    by_need trial.need place ≡ by_asked links line.value (asked_of line.value qs)
basis_by links line qs trial place tried asked at = by_list (asked_of line.value qs) refl
  where
    by_list : (l : List Board) → asked_of line.value qs ≡ l →
        by_need trial.need place ≡ by_asked links line.value (asked_of line.value qs)
    by_list [] e =
        absurd (let none : true ≡ false = sym asked ∙ (tried.is_asked ∙ ap is_some_there e) in cc)
    by_list (first ∷ more) e =
        need_agrees_with_tables links line (asked_of line.value qs) trial place tried.heard at
        ∙ ap (by_tables links line.value) e ∙ ap (by_asked links line.value) (sym e)

-- where none is, the men show the value at each
pub basis_by_men : (links : List Link) (line : ExitLine) (qs : List Board) (trial : Trial) →
    IsTried links line qs trial → trial.is_asked ≡ false →
    ByMen ≡ by_asked links line.value (asked_of line.value qs)
basis_by_men links line qs trial tried none = by_list (asked_of line.value qs) refl
  where
    by_list : (l : List Board) → asked_of line.value qs ≡ l →
        ByMen ≡ by_asked links line.value (asked_of line.value qs)
    by_list [] e = ap (by_asked links line.value) (sym e)
    by_list (first ∷ more) e =
        absurd (let some : false ≡ true = sym none ∙ (tried.is_asked ∙ ap is_some_there e) in cc)

-- what a line rests on that has decided some exit, or none
pub basis_with : (links : List Link) (line : ExitLine) (qs : List Board) (trial : Trial) →
    IsTried links line qs trial → trial.has_exits ≡ true → is_unknown line.value ≡ false →
    by_asked links line.value (asked_of line.value qs) ≡ basis_at links line.value qs
basis_with links line [] trial tried some known =
    absurd (let none : true ≡ false = sym some ∙ tried.has_exits in cc)
basis_with links line (q ∷ qs) trial tried some known = rw known refl

pub basis_without : (links : List Link) (line : ExitLine) (qs : List Board) (trial : Trial) →
    IsTried links line qs trial → trial.has_exits ≡ false →
    AsksNothing ≡ basis_at links line.value qs
basis_without links line [] trial tried none = refl
basis_without links line (q ∷ qs) trial tried none =
    absurd (let some : false ≡ true = sym none ∙ tried.has_exits in cc)

pub basis_unknown : (links : List Link) (line : ExitLine) (qs : List Board) →
    is_unknown line.value ≡ true → AsksNothing ≡ basis_at links line.value qs
basis_unknown links line [] unknown = refl
basis_unknown links line (q ∷ qs) unknown = rw unknown refl

-- the lines after one more exit
module _ (leans : Bool) (rules : RuleLines) (links : List Link) where
  more_decided : (k : ℕ) (qs : List Board) (q : Board) →
      decided_by leans rules links k (qs ++ q ∷ [])
      ≡ decided_by leans rules links k qs ++ decided_by leans rules links k (q ∷ [])
  more_decided k qs q = filter-append (decides leans rules links k) qs (q ∷ [])

  this_decides : (i : ℕ) (qs : List Board) (q : Board) →
      Some i ≡ line_over leans rules (backs_of links) q →
      decided_by leans rules links i (qs ++ q ∷ []) ≡ decided_by leans rules links i qs ++ q ∷ []
  this_decides i qs q at =
      let d : decides leans rules links i q ≡ true = sym (ap (is_place i) at) ∙ eq-eqb i i refl in
      more_decided i qs q
      ∙ ap (λ (l : List Board). decided_by leans rules links i qs ++ l) (rw d refl)

  others_stay : (k : ℕ) (qs : List Board) (q : Board) →
      decides leans rules links k q ≡ false →
      decided_by leans rules links k qs ≡ decided_by leans rules links k (qs ++ q ∷ [])
  others_stay k qs q d =
      sym (more_decided k qs q
      ∙ ap (λ (l : List Board). decided_by leans rules links k qs ++ l) (rw d refl)
      ∙ append-nil (decided_by leans rules links k qs))

  -- the place of the line that decides it is one of a line
  pub place_below : (q : Board) (i : ℕ) → Some i ≡ line_over leans rules (backs_of links) q →
      (line : ExitLine) × (i < length rules.exits)
  place_below q i at =
      let given = line_gives leans rules (backs_of links) q i (sym at) in
      (given.0, slice_get_within rules.exits i given.0 given.1.there)

module _ (leans : Bool) (rules : RuleLines) (links : List Link) (qs : List Board) (q : Board)
    (trials : List Trial) (tried : AreTried leans rules links qs trials) where
  -- no line decides it
  pub none_decides : None ≡ line_over leans rules (backs_of links) q →
      AreTried leans rules links (qs ++ q ∷ []) trials
  none_decides at = record {
    many = tried.many;
    each = λ k line trial l.
        subst (λ (l : List Board). IsTried links (get_or rules.exits k line) l
        (get_or trials k trial))
        (others_stay leans rules links k qs q (sym (ap (is_place k) at)))
        (tried.each k line trial l);
  }

  -- the line at this place decides it
  module _ (i : ℕ) (at : Some i ≡ line_over leans rules (backs_of links) q) (t : Trial)
      (here : (line : ExitLine) →
      IsTried links (get_or rules.exits i line)
      (decided_by leans rules links i qs ++ q ∷ []) t) where
    no_other_line_decides : (k : ℕ) → k ≢ i → decides leans rules links k q ≡ false
    no_other_line_decides k apart = sym (ap (is_place k) at) ∙ ne_eqb i k (λ e. apart (sym e))

    by_place : (k : ℕ) (line : ExitLine) (trial : Trial) → k < length (set trials i t) →
        (k ≡ i) ⊎ (k ≡ i → ⊥) →
        IsTried links (get_or rules.exits k line)
        (decided_by leans rules links k (qs ++ q ∷ [])) (get_or (set trials i t) k trial)
    by_place k line trial l (inl same) =
        let P : ℕ → Type 0 = λ j. IsTried links (get_or rules.exits j line)
        (decided_by leans rules links j (qs ++ q ∷ [])) (get_or (set trials i t) j trial) in
        let many = length-set trials i t in
        let inside : i < length trials = omega arith in
        subst P (sym same)
        (subst (λ (x : Trial). IsTried links (get_or rules.exits i line)
        (decided_by leans rules links i (qs ++ q ∷ [])) x)
        (sym (get_or-set_same trials i t trial inside))
        (subst (λ (ds : List Board). IsTried links (get_or rules.exits i line) ds t)
        (sym (this_decides leans rules links i qs q at)) (here line)))
    by_place k line trial l (inr apart) =
        let many = length-set trials i t in
        let inside : k < length trials = omega arith in
        subst (λ (x : Trial). IsTried links (get_or rules.exits k line)
        (decided_by leans rules links k (qs ++ q ∷ [])) x)
        (sym (get_or-set_other trials i k t trial apart))
        (subst (λ (ds : List Board). IsTried links (get_or rules.exits k line) ds
        (get_or trials k trial))
        (others_stay leans rules links k qs q (no_other_line_decides k apart))
        (tried.each k line trial inside))

    pub one_decides : AreTried leans rules links (qs ++ q ∷ []) (set trials i t)
    one_decides = record {
      many = length-set trials i t ∙ tried.many;
      each = λ k line trial l. by_place k line trial l (cases_eq k i);
    }

-- the moves of a position, one by one
boards_append : (p : Board) (arms more : List (Arm Step ℕ Value)) →
    boards_after p (arms ++ more) ≡ boards_after p arms ++ boards_after p more
boards_append p arms more =
    ap (map (λ (a : Arm Step ℕ Value). after p a.mv))
    (filter-append (λ (a : Arm Step ℕ Value). is_outside a.next) arms more)
    ∙ map-append (λ (a : Arm Step ℕ Value). after p a.mv)
    (filter (λ (a : Arm Step ℕ Value). is_outside a.next) arms)
    (filter (λ (a : Arm Step ℕ Value). is_outside a.next) more)

pub boards_step : (p : Board) (arms : List (Arm Step ℕ Value)) (i : ℕ) (a : Arm Step ℕ Value) →
    i < length arms → a ≡ get_or arms i a →
    boards_after p (take (i + 1) arms) ≡ boards_after p (take i arms) ++ boards_after p (a ∷ [])
boards_step p arms i a within is =
    ap (boards_after p) (take_more arms i a within)
    ∙ boards_append p (take i arms) (get_or arms i a ∷ [])
    ∙ ap (λ (x : Arm Step ℕ Value). boards_after p (take i arms) ++ boards_after p (x ∷ []))
    (sym is)

pub out_one : (p : Board) (a : Arm Step ℕ Value) (v : Value) → a.next ≡ Outside v →
    boards_after p (a ∷ []) ≡ after p a.mv ∷ []
out_one p a v e = ap (λ (n : Next ℕ Value). map (λ (x : Arm Step ℕ Value). after p x.mv)
    (cond (is_outside n) (a ∷ []) [])) e

-- the lines, one by one
pub begun_more : (P : ExitLine → Trial → Type 0) (lines : List ExitLine) (trials : List Trial)
    (i : ℕ) (line : ExitLine) (t : Trial) → i < length lines → line ≡ get_or lines i line →
    length trials ≡ i →
    ((k : ℕ) (l : ExitLine) (x : Trial) → k < i → P (get_or lines k l) (get_or trials k x)) →
    P line t → (k : ℕ) (l : ExitLine) (x : Trial) → k < i + 1 →
    P (get_or lines k l) (get_or (trials ++ t ∷ []) k x)
begun_more P lines trials i line t within is many before this k l x less =
    elim (cases_lt k i) [
      | inl low ↦ subst (λ (z : Trial). P (get_or lines k l) z)
          (sym (get_or_append_left trials (t ∷ []) x k (omega arith))) (before k l x low)
      | inr top ↦ (let same : i ≡ k = omega arith in
          subst (λ (j : ℕ). P (get_or lines j l) (get_or (trials ++ t ∷ []) j x)) same
          (subst (λ (z : Trial). P (get_or lines i l) z)
          (sym (get_or_push trials t x i many))
          (subst (λ (z : ExitLine). P z t) (get_or_read lines i line within is l) this)))
    ]

pub all_begun : (lines : List ExitLine) (leans : Bool) (rules : RuleLines) (links : List Link)
    (trials : List Trial) → rules.exits ≡ lines → length trials ≡ length lines →
    ((k : ℕ) (line : ExitLine) (trial : Trial) → k < length lines →
    IsTried links (get_or lines k line) [] (get_or trials k trial)) →
    AreTried leans rules links [] trials
all_begun lines leans rules links trials same_lines many each =
    let long = ap length same_lines in
    record {
      many = many ∙ sym long;
      each = λ k line trial l.
          subst (λ (ls : List ExitLine). IsTried links (get_or ls k line) []
          (get_or trials k trial)) (sym same_lines)
          (each k line trial (omega arith));
    }

-- what the lines rest on, one by one
pub based_more : (F : ℕ → Basis) (bases : List Basis) (i : ℕ) (b : Basis) →
    length bases ≡ i → ((k : ℕ) (x : Basis) → k < i → get_or bases k x ≡ F k) → b ≡ F i →
    (k : ℕ) (x : Basis) → k < i + 1 → get_or (bases ++ b ∷ []) k x ≡ F k
based_more F bases i b many before this k x less =
    elim (cases_lt k i) [
      | inl low ↦ get_or_append_left bases (b ∷ []) x k (omega arith) ∙ before k x low
      | inr top ↦ (let same : i ≡ k = omega arith in
          subst (λ (j : ℕ). get_or (bases ++ b ∷ []) j x ≡ F j) same
          (get_or_push bases b x i many ∙ this))
    ]

abbrev no_line : ExitLine
no_line = record { value = Unknown; conds = [] }

pub all_based : (leans : Bool) (rules : RuleLines) (links : List Link) (bases : List Basis) →
    length bases ≡ length rules.exits →
    ((k : ℕ) (line : ExitLine) (x : Basis) → k < length rules.exits →
    get_or bases k x ≡ basis_of leans rules links k (get_or rules.exits k line)) →
    bases ≡ bases_of leans rules links
unfolding bases_of
all_based leans rules links bases many each =
    let f : ℕ × ExitLine → Basis = λ e. basis_of leans rules links e.0 e.1 in
    let numbered = enumerate_from 0 rules.exits in
    let long : length numbered ≡ length rules.exits = length-enumerate_from 0 rules.exits in
    same_lists bases (map f numbered) (many ∙ sym (length-map numbered f ∙ long))
    (λ k d l. (
    let low : k < length rules.exits = omega arith in
    let inside : k < length numbered = omega arith in
    each k no_line d low
    ∙ sym (get_or-map f numbered k (0, no_line) d inside
    ∙ ap f (get_or-enumerate_from 0 rules.exits k (0, no_line) low)
    ∙ ap (λ (j : ℕ). basis_of leans rules links j (get_or rules.exits k no_line)) (zero-add k))))

-- there is one for each line
pub many_bases : (leans : Bool) (rules : RuleLines) (links : List Link) →
    length (bases_of leans rules links) ≡ length rules.exits
unfolding bases_of
many_bases leans rules links =
    let f : ℕ × ExitLine → Basis = λ e. basis_of leans rules links e.0 e.1 in
    length-map (enumerate_from 0 rules.exits) f ∙ length-enumerate_from 0 rules.exits

-- the value of a result, weakened
pub weaker_holds_if_ok : {T E : Type 0} (P Q : T → Type 0) (r : Result T E)
    → ((x : T) → P x → Q x) →
    IfOk r P → IfOk r Q
weaker_holds_if_ok P Q (Ok x) f h = f x h
weaker_holds_if_ok P Q (Err e) f h = tt
