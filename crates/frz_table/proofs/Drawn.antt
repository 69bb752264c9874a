-- What a run of opening says in words of files that a name may hold.
use Rattle.std.proofs.Common.{◌≡◌, inl, inr, refl, sym, ap, subst, ◌∙◌, ℕ, ◌+◌, ◌≤◌, nat_lt, Bool, true, false, cond, List, [], length, take, Option, Some, None, Result, Ok, Err, IfOk, IfSome, arith}
use Rattle.std.specs.Option.{IsSomeAnd, option_map, unwrap_or}
use Rattle.std.specs.Prelude.{◌⊎◌, IfErr}
use Rattle.std.specs.Result.{IsErrOf}
use Rattle.std.specs.Str.{bytes_eq}
use Rattle.frz_asks.proofs.Lemmas.{ran_over}
use Rattle.frz_asks.specs.Over.{GivesOver, RanOver}
use Rattle.frz_asks.specs.Runs.{halted, stop_end, end_of, Run}
use Rattle.frz_asks.specs.Trees.{over, MayWant}
use Rattle.frz_rules.specs.declared.fault.RulesFault.{RulesFault}
use Rattle.frz_sets.specs.Views.{RuleLines}
use Rattle.frz_store.specs.Bytes.{AreBytes, MayBeHeld}
use Rattle.frz_store.specs.Files.{Files, bytes_at}
use Rattle.frz_store.specs.Outside.{Rose}
use Rattle.frz_store.specs.Told.{StoreTold}
use Rattle.frz_store.specs.declared.outside.StoreFault.TheVariants as store
use Rattle.frz_table.specs.Asking.{opening}
use Rattle.frz_table.specs.Faults.{IsOutside, stop_of}
use Rattle.frz_table.specs.Layout.{due_magic, kind_begun, magic_of}
use Rattle.frz_table.specs.Opening.{Contents, Format, IsOfKind, Refuses, contents_of, format_for, opened, opening_calls, calls_by_rules, kept_length, kept_text}
use Rattle.frz_table.specs.Possible.{MayHold, MayOpen, MayRefuse}
use Rattle.frz_table.specs.Steps.{Refines}
use Rattle.frz_table.specs.Tables.{Begins, Carries, Holds, IsFileOf, IsTableFile, Table, table_size}
use Rattle.frz_table.specs.declared.fault.TableFault.{TableFault}
use Rattle.frz_table.specs.declared.fault.TableFault.TheVariants.{Missing, Magic, Other, Truncated, Extra, Rules, Size, Failed, NoMemory}
use Rattle.frz_table.specs.declared.kind.FileKind.{FileKind}
use Rattle.frz_table.proofs.Belonging.{belongs}
use Rattle.frz_table.proofs.HeldFiles.{text_kept}
use Rattle.frz_table.proofs.OpeningOver.{WantsDue, most_asked, open_costs}
use Rattle.frz_table.proofs.Order.{open_tidy}
use Rattle.frz_table.proofs.Stops.{Sort, failed, of_file, sort, wanted}

-- what is so of files that agree with what is told is so of what is told
agreeing : (told : Option Files) (m : Files) (Q : Files → Type 0) → MayBeHeld told m → Q m
    → IfSome told Q
agreeing None m Q h q = tt
agreeing (Some files) m Q h q = subst Q (sym h) q

may_hold : (told : Option Files) (m : Files) (name : List ℕ) (held : Option (List ℕ))
    → MayBeHeld told m → m name ≡ held → MayHold told name held
may_hold None m name held h e = subst (λ (o : Option (List ℕ)). IfSome o AreBytes) e (h name)
may_hold (Some files) m name held h e = ap (λ (f : Files). f name) h ∙ e

pub outside_refuses : (given : Result Contents TableFault) (fault : TableFault) → IsOutside fault
    → Refuses given fault
outside_refuses given Missing h = absurd h
outside_refuses given Magic h = absurd h
outside_refuses given (Other o) h = absurd h
outside_refuses given (Truncated a b) h = absurd h
outside_refuses given (Extra a b) h = absurd h
outside_refuses given (Rules f) h = absurd h
outside_refuses given (Size a b) h = absurd h
outside_refuses given Failed h = tt
outside_refuses given NoMemory h = tt

refuses_as : (given : Result Contents TableFault) (fault : TableFault) → given ≡ Err fault
    → Refuses given fault
refuses_as given Missing h = h
refuses_as given Magic h = h
refuses_as given (Other o) h = h
refuses_as given (Truncated a b) h = h
refuses_as given (Extra a b) h = h
refuses_as given (Rules f) h = h
refuses_as given (Size a b) h = h
refuses_as given Failed h = tt
refuses_as given NoMemory h = tt

-- five calls at most
most_both : (b : Bool) (x y n : ℕ) → x ≤ n → y ≤ n → cond b x y ≤ n
most_both true x y n h k = h
most_both false x y n h k = k

rules_calls : (read : Result RuleLines RulesFault) → calls_by_rules read ≤ 5
rules_calls (Err fault) = omega arith
rules_calls (Ok rules) = omega arith

most_calls : (format : Format) (held : Option (List ℕ)) → opening_calls format held ≤ 5
unfolding opening_calls
most_calls format None = omega arith
most_calls format (Some bytes) =
    most_both (nat_lt (length bytes) 16) _ _ 5 (omega arith)
    (most_both (bytes_eq (take 8 bytes) (format.magic (take 8 bytes))) _ _ 5
    (most_both (nat_lt 65536 (kept_length bytes)) _ _ 5 (omega arith)
    (most_both (nat_lt (length bytes) (16 + kept_length bytes)) _ _ 5 (omega arith)
    (rules_calls (format.read (kept_text bytes))))) (omega arith))

-- the bytes are a file of these contents
abbrev pub IsFileBy : Format → Contents → List ℕ → Type 0
IsFileBy format contents bytes =
    IsTableFile (format.magic (take 8 bytes)) contents.text (format.size contents.rules) bytes

module _ (format : Format) (refines : Refines format) (name : List ℕ) {T : Type 0}
    (view : T → Contents) (old new : StoreTold) where
  abbrev Ran : Result T TableFault → Type 0
  Ran r = Run (opening format name) (end_of stop_of view r) old new

  abbrev Files_of : Result T TableFault → Type 0
  Files_of r = RanOver (opening format name) (end_of stop_of view r) old new

  all : (r : Result T TableFault) → Ran r → Files_of r
  all r run = ran_over (opening format name) (end_of stop_of view r) old new (open_tidy format name) run

  given : (m : Files) → over m (opening format name) ≡ opened format (m name)
  given m = (open_costs m format name refines).gives

  -- it opens
  opens : (t : T) (h : Files_of (Ok t)) → opened format (h.m name) ≡ Ok (view t)
  opens t h = sym (given h.m) ∙ h.gives

  pub opened_by : (r : Result T TableFault) → Run (opening format name) (end_of stop_of view r) old new
      → IfOk r (λ t. IfSome old.files (λ m. opened format (m name) ≡ Ok (view t)))
  opened_by (Err f) run = tt
  opened_by (Ok t) run =
      let h = all (Ok t) run in
      agreeing old.files h.m (λ m. opened format (m name) ≡ Ok (view t)) h.held (opens t h)

  pub may_open_by : (r : Result T TableFault) → Run (opening format name) (end_of stop_of view r) old new
      → IfOk r (λ t. MayOpen format old.files name (view t))
  unfolding opened
  may_open_by (Err f) run = tt
  may_open_by (Ok t) run = by_held (h.m name) refl (opens t h)
    where
      h : Files_of (Ok t)
      h = all (Ok t) run

      by_held : (held : Option (List ℕ)) → h.m name ≡ held → opened format held ≡ Ok (view t)
          → MayOpen format old.files name (view t)
      by_held None e k = absurd cc
      by_held (Some bytes) e k =
          record { bytes = bytes; may = may_hold old.files h.m name (Some bytes) h.held e; opens = k }

  -- it is refused
  refuses_over : (f : TableFault) (m : Files)
      → GivesOver m (opening format name) (stop_end {A = Contents} (stop_of f))
      → Refuses (opened format (m name)) f
  refuses_over f m h = by_sort (sort f)
    where
      by_sort : Sort f → Refuses (opened format (m name)) f
      by_sort (of_file s) =
          let gives : over m (opening format name) ≡ Err f =
          subst (λ x. GivesOver m (opening format name) (stop_end {A = Contents} x)) s.stops h in
          refuses_as (opened format (m name)) f (sym (given m) ∙ gives)
      by_sort (failed e) = outside_refuses _ f (subst IsOutside (sym e) tt)
      by_sort (wanted e) = outside_refuses _ f (subst IsOutside (sym e) tt)

  pub refused_by : (r : Result T TableFault) → Run (opening format name) (end_of stop_of view r) old new
      → IfErr r (λ f. IfSome old.files (λ m. Refuses (opened format (m name)) f))
  refused_by (Ok t) run = tt
  refused_by (Err f) run =
      let h = all (Err f) run in
      agreeing old.files h.m (λ m. Refuses (opened format (m name)) f) h.held (refuses_over f h.m h.gives)

  few_asked : (r : Result T TableFault) (h : Files_of r)
      → new.asked ≤ old.asked + most_asked (h.m name)
  few_asked r h =
      let a = h.asked in let b = (open_costs h.m format name refines).bytes in omega (arith, a, b)

  few_calls : (r : Result T TableFault) (h : Files_of r)
      → new.calls ≤ old.calls + opening_calls format (h.m name)
  few_calls r h =
      let a = h.calls in let b = (open_costs h.m format name refines).calls in omega (arith, a, b)

  pub may_refuse_by : (r : Result T TableFault) → Run (opening format name) (end_of stop_of view r) old new
      → IfErr r (MayRefuse format name old new)
  may_refuse_by (Ok t) run = tt
  may_refuse_by (Err f) run =
      let h = all (Err f) run in record {
        held = h.m name;
        may = may_hold old.files h.m name (h.m name) h.held refl;
        refuses = refuses_over f h.m h.gives;
        asked = (let a = few_asked (Err f) h in omega (arith, a));
        calls = few_calls (Err f) h;
      }

  -- the costs
  pub asked_by : (r : Result T TableFault) → Run (opening format name) (end_of stop_of view r) old new
      → IfOk r (λ t. new.asked ≤ old.asked + (16 + length (view t).text))
  unfolding opened
  asked_by (Err f) run = tt
  asked_by (Ok t) run = by_held (h.m name) (opens t h) (few_asked (Ok t) h)
    where
      h : Files_of (Ok t)
      h = all (Ok t) run

      by_held : (held : Option (List ℕ)) → opened format held ≡ Ok (view t)
          → new.asked ≤ old.asked + most_asked held
          → new.asked ≤ old.asked + (16 + length (view t).text)
      by_held None k few = absurd cc
      by_held (Some bytes) k few =
          let same = text_kept (format.magic (take 8 bytes)) (view t).text (format.size (view t).rules) bytes
          (belongs format bytes (view t) k).file in
          let long = ap (length {A = ℕ}) same in omega (arith, few, long)

  pub asked_told_by : (r : Result T TableFault) → Run (opening format name) (end_of stop_of view r) old new
      → IfSome old.files (λ m. new.asked ≤ old.asked + (16 + length (kept_text (bytes_at m name))))
  asked_told_by r run =
      let h = all r run in
      agreeing old.files h.m (λ m. new.asked ≤ old.asked + (16 + length (kept_text (bytes_at m name))))
      h.held (let a = few_asked r h in omega (arith, a))

  pub asked_bound_by : (r : Result T TableFault) → Run (opening format name) (end_of stop_of view r) old new
      → new.asked ≤ old.asked + (16 + 65536)
  asked_bound_by r run = let h = all r run in let a = few_asked r h in omega (arith, a)

  pub calls_by : (r : Result T TableFault) → Run (opening format name) (end_of stop_of view r) old new
      → new.calls ≤ old.calls + 5
  calls_by r run =
      let h = all r run in let a = few_calls r h in let b = most_calls format (h.m name) in
      omega (arith, a, b)

  -- a store that tells holds a file of the table
  pub carried_by : (r : Result T TableFault) → Run (opening format name) (end_of stop_of view r) old new
      → IfOk r (λ t. Holds new.files name (IsFileBy format (view t)))
  unfolding opened
  carried_by (Err f) run = tt
  carried_by (Ok t) run =
      subst (λ o. Holds o name P) (sym run.quiet.unwritten.files)
      (agreeing old.files h.m (λ m. IsSomeAnd (m name) P) h.held (by_held (h.m name) (opens t h)))
    where
      P : List ℕ → Type 0
      P = IsFileBy format (view t)

      h : Files_of (Ok t)
      h = all (Ok t) run

      by_held : (held : Option (List ℕ)) → opened format held ≡ Ok (view t) → IsSomeAnd held P
      by_held None k = absurd cc
      by_held (Some bytes) k = (belongs format bytes (view t) k).file

  -- where memory was wanted
  pub memory_by : (r : Result T TableFault) → Run (opening format name) (end_of stop_of view r) old new
      → IsErrOf r NoMemory → Rose old.wants new.wants ⊎ Holds old.files name (WantsDue format)
  memory_by (Ok t) run is = absurd cc
  memory_by (Err f) run is = wanted_by h.wants
    where
      e : f ≡ NoMemory
      e = cc

      h : RanOver (opening format name) (halted store.NoMemory) old new
      h = ran_over (opening format name) (halted store.NoMemory) old new (open_tidy format name)
          (subst (λ x. Run (opening format name) (stop_end {A = Contents} (stop_of x)) old new) e run)

      wanted_by : Rose old.wants new.wants ⊎ MayWant h.m (opening format name)
          → Rose old.wants new.wants ⊎ Holds old.files name (WantsDue format)
      wanted_by (inl k) = inl k
      wanted_by (inr k) =
          inr (agreeing old.files h.m (λ m. IsSomeAnd (m name) (WantsDue format)) h.held
          ((open_costs h.m format name refines).wants k))

-- the magic that was due is that of the kind as which it was opened
due_is : (asked : Option FileKind) (front bytes : List ℕ) (kind : FileKind) → take 8 bytes ≡ front
    → kind ≡ unwrap_or asked (kind_begun front)
    → due_magic (option_map magic_of asked) (take 8 bytes) ≡ magic_of kind
due_is (Some k) front bytes kind e is = ap magic_of (sym is)
due_is None front bytes kind e is =
    ap (λ (l : List ℕ). magic_of (kind_begun l)) e ∙ ap magic_of (sym is)

-- the table is the one of that name and kind
pub carries_table : (asked : Option FileKind) (name : List ℕ) (old files : Option Files)
    (r : Result Table TableFault) → files ≡ old
    → IfOk r (λ t. Holds files name (IsFileBy (format_for asked) (contents_of t)))
    → IfOk r (λ t. t.name ≡ name) → IfOk r (λ t. IsOfKind old name asked t.kind)
    → IfOk r (Carries files)
carries_table asked name old files (Err f) same h n k = tt
carries_table asked name old files (Ok t) same h n k =
    subst (λ (q : List ℕ). Holds files q (IsFileOf t)) (sym n)
    (by_told files h (subst (λ (o : Option Files). Begins o name k.front) (sym same) k.begins))
  where
    by_held : (held : Option (List ℕ)) → IsSomeAnd held (IsFileBy (format_for asked) (contents_of t))
        → take 8 (unwrap_or held []) ≡ k.front → IsSomeAnd held (IsFileOf t)
    by_held None h b = absurd h
    by_held (Some bytes) h b =
        subst (λ (l : List ℕ). IsTableFile l t.text (table_size t) bytes)
        (due_is asked k.front bytes t.kind b k.is) h

    by_told : (o : Option Files) → Holds o name (IsFileBy (format_for asked) (contents_of t))
        → Begins o name k.front → Holds o name (IsFileOf t)
    by_told None h b = tt
    by_told (Some m) h b = by_held (m name) h b
