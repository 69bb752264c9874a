-- One run, and then the next: all that a `?` needs.
use Rattle.std.proofs.Common.{◌≡◌, inl, inr, refl, ap, subst, ◌∙◌, ℕ, [], ◌∷◌, ◌++◌, Result, Ok, Err, arith}
use Rattle.std.specs.Prelude.{◌⊎◌}
use Rattle.frz_store.specs.Outside.{Rose}
use Rattle.frz_store.specs.Told.{StoreTold, StoreQuiet, StoreFine}
use Rattle.frz_store.specs.declared.outside.StoreFault.{StoreFault}
use Rattle.frz_store.specs.declared.outside.StoreFault.TheVariants.{Failed, NoMemory}
use Rattle.frz_store.proofs.Lemmas.{later_store}
use Rattle.frz_asks.specs.Trees.{Asks, gives, memory, with_memory, bind, bind_ok, if_ok}
use Rattle.frz_asks.specs.Traces.{Trace, calls_in, bytes_asked, next_calls, next_bytes, WantsMemory}
use Rattle.frz_asks.specs.Runs.{End, Stop, came, halted, refused, stopped, stop_end, EndsAt, Run}
use Rattle.frz_asks.proofs.Traces.{trace_bind, trace_on, calls_in-append, bytes_asked-append, next_bind, next_bytes_bind, wants_bind}

quiet_none : (store : StoreTold) → StoreQuiet store store
quiet_none store = record {
  unwritten = record { files = refl; last = refl; room = refl };
  later = record { asked = omega arith; calls = omega arith; faults = omega arith; wants = omega arith };
}

pub quiet_on : (old mid new : StoreTold) → StoreQuiet old mid → StoreQuiet mid new
    → StoreQuiet old new
quiet_on old mid new h k = record {
  unwritten = record {
    files = k.unwritten.files ∙ h.unwritten.files;
    last = k.unwritten.last ∙ h.unwritten.last;
    room = k.unwritten.room ∙ h.unwritten.room;
  };
  later = later_store old mid new h.later k.later;
}

-- nothing was asked
pub run_none : {A : Type 0} (a : A) (store : StoreTold) → Run (gives a) (came a) store store
unfolding Trace calls_in bytes_asked
run_none a store = record {
  seen = [];
  rest = gives a;
  trace = refl;
  ends = (refl, record { faults = refl; wants = refl });
  quiet = quiet_none store;
  calls = omega arith;
  asked = omega arith;
}

-- there was no memory
pub no_memory : {A : Type 0} (p : Asks A) (store : StoreTold)
    → Run (with_memory p) (halted NoMemory) store store
unfolding with_memory Trace calls_in bytes_asked WantsMemory
no_memory p store = record {
  seen = [];
  rest = with_memory p;
  trace = refl;
  ends = inr refl;
  quiet = quiet_none store;
  calls = omega arith;
  asked = omega arith;
}

-- or there was
pub memory_on : {A : Type 0} {p : Asks A} {end : End A} {old new : StoreTold} → Run p end old new
    → Run (with_memory p) end old new
unfolding with_memory Trace calls_in bytes_asked
memory_on r = record {
  seen = memory ∷ r.seen;
  rest = r.rest;
  trace = record { same = refl; answer = tt; fits = tt; next = r.trace };
  ends = r.ends;
  quiet = r.quiet;
  calls = (let a = r.calls in omega (arith, a));
  asked = (let a = r.asked in omega (arith, a));
}

wanted_bind : {A B : Type 0} (p : Asks A) (f : A → Asks B) (old new : ℕ)
    → Rose old new ⊎ WantsMemory p → Rose old new ⊎ WantsMemory (bind p f)
wanted_bind p f old new (inl h) = inl h
wanted_bind p f old new (inr h) = inr (wants_bind p f h)

ends_bind : {A B : Type 0} (p : Asks A) (f : A → Asks B) (h : StoreFault) (old new : StoreTold)
    → EndsAt p (halted h) old new → EndsAt (bind p f) (halted h) old new
ends_bind p f Failed old new e = e
ends_bind p f NoMemory old new e = wanted_bind p f old.wants new.wants e

-- the first was halted
pub halt_first : {A B : Type 0} {p : Asks A} {h : StoreFault} {old new : StoreTold}
    (f : A → Asks B) → Run p (halted h) old new → Run (bind p f) (halted h) old new
halt_first {p = p} {h = h} {old = old} {new = new} f r = record {
  seen = r.seen;
  rest = bind r.rest f;
  trace = trace_bind old.files r.seen p r.rest f r.trace;
  ends = ends_bind r.rest f h old new r.ends;
  quiet = r.quiet;
  calls = (let a = r.calls in let b = next_bind r.rest f in omega (arith, a, b));
  asked = (let a = r.asked in let b = next_bytes_bind r.rest f in omega (arith, a, b));
}

wanted_on : {A : Type 0} (p : Asks A) (old mid new : ℕ) → mid ≡ old → Rose mid new ⊎ WantsMemory p
    → Rose old new ⊎ WantsMemory p
wanted_on p old mid new same (inl h) = inl (subst (λ n. Rose n new) same h)
wanted_on p old mid new same (inr h) = inr h

ends_on : {A : Type 0} (p : Asks A) (end : End A) (old mid new : StoreTold) → StoreFine old mid
    → EndsAt p end mid new → EndsAt p end old new
ends_on p (came a) old mid new f e = (
  e.0,
  record {
    faults = e.1.faults ∙ f.faults;
    wants = e.1.wants ∙ f.wants;
  },
)
ends_on p (halted Failed) old mid new f e = subst (λ n. Rose n new.faults) f.faults e
ends_on p (halted NoMemory) old mid new f e = wanted_on p old.wants mid.wants new.wants f.wants e

-- the first was not, and then the next was run
pub run_on : {A B : Type 0} {p : Asks A} {a : A} {end : End B} {old mid new : StoreTold}
    (f : A → Asks B) → Run p (came a) old mid → Run (f a) end mid new → Run (bind p f) end old new
unfolding bind next_calls next_bytes
run_on {p = p} {a = a} {end = end} {old = old} {mid = mid} {new = new} f r k =
    let first : Trace old.files r.seen (bind p f) (f a) =
    subst (λ x. Trace old.files r.seen (bind p f) (bind x f)) r.ends.0
    (trace_bind old.files r.seen p r.rest f r.trace) in
    let next : Trace old.files k.seen (f a) k.rest =
    subst (λ x. Trace x k.seen (f a) k.rest) r.quiet.unwritten.files k.trace in
    let none : next_calls r.rest ≡ 0 = ap next_calls r.ends.0 in
    let no_bytes : next_bytes r.rest ≡ 0 = ap next_bytes r.ends.0 in record {
      seen = r.seen ++ k.seen;
      rest = k.rest;
      trace = trace_on old.files r.seen k.seen (bind p f) (f a) k.rest first next;
      ends = ends_on k.rest end old mid new r.ends.1 k.ends;
      quiet = quiet_on old mid new r.quiet k.quiet;
      calls = (let x = r.calls in let y = k.calls in
          omega (arith, x, y, none, calls_in-append r.seen k.seen));
      asked = (let x = r.asked in let y = k.asked in
          omega (arith, x, y, no_bytes, bytes_asked-append r.seen k.seen));
    }

-- the first was refused or halted
pub stop_first : {A B E : Type 0} {p : Asks (Result A E)} {old new : StoreTold} (stop : Stop E)
    (f : A → Asks (Result B E)) → Run p (stop_end {A = A} stop) old new
    → Run (bind_ok p f) (stop_end {A = B} stop) old new
unfolding bind_ok if_ok
stop_first (refused e) f r = run_on (if_ok f) r (run_none (Err e) _)
stop_first (stopped h) f r = halt_first (if_ok f) r

-- or neither
pub ok_on : {A B E : Type 0} {p : Asks (Result A E)} {a : A} {end : End (Result B E)}
    {old mid new : StoreTold} (f : A → Asks (Result B E)) → Run p (came (Ok a)) old mid
    → Run (f a) end mid new → Run (bind_ok p f) end old new
unfolding bind_ok if_ok
ok_on f r k = run_on (if_ok f) r k
