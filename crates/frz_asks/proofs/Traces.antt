-- One trace behind another, and what a trace says of files that are told.
use Rattle.std.proofs.Common.{◌≡◌, refl, sym, ap, subst, ◌∙◌, ◌+◌, List, [], ◌∷◌, ◌++◌, ◌≤◌, Option, Some, arith}
use Rattle.frz_store.specs.Files.{Files}
use Rattle.frz_asks.specs.Trees.{Question, file_size, file_bytes, memory, Answer, Asks, gives, asks, bind, over, answer_in, calls_of, bytes_of, calls_over, bytes_over, MayWant}
use Rattle.frz_asks.specs.Traces.{Fits, Trace, calls_in, bytes_asked, next_calls, next_bytes, WantsMemory}

-- a trace of a calculation is one of what it is bound to
pub trace_bind : {A B : Type 0} (told : Option Files) (s : List Question) (p q : Asks A)
    (f : A → Asks B) → Trace told s p q → Trace told s (bind p f) (bind q f)
unfolding Trace bind
trace_bind told [] p q f h = ap (λ x. bind x f) h
trace_bind told (e ∷ s) (gives a) q f h = absurd h
trace_bind told (e ∷ s) (asks d k) q f h = record {
  same = h.same;
  answer = h.answer;
  fits = h.fits;
  next = trace_bind told s (k h.answer) q f h.next;
}

pub trace_on : {A : Type 0} (told : Option Files) (s t : List Question) (p q r : Asks A)
    → Trace told s p q → Trace told t q r → Trace told (s ++ t) p r
unfolding Trace
trace_on told [] t p q r h k = subst (λ x. Trace told t x r) (sym h) k
trace_on told (e ∷ s) t (gives a) q r h k = absurd h
trace_on told (e ∷ s) t (asks d f) q r h k = record {
  same = h.same;
  answer = h.answer;
  fits = h.fits;
  next = trace_on told s t (f h.answer) q r h.next k;
}

pub calls_in-append : (s t : List Question) → calls_in (s ++ t) ≡ calls_in s + calls_in t
unfolding calls_in
calls_in-append [] t = omega arith
calls_in-append (e ∷ s) t = let h = calls_in-append s t in omega (arith, h)

pub bytes_asked-append : (s t : List Question)
    → bytes_asked (s ++ t) ≡ bytes_asked s + bytes_asked t
unfolding bytes_asked
bytes_asked-append [] t = omega arith
bytes_asked-append (e ∷ s) t = let h = bytes_asked-append s t in omega (arith, h)

-- what is told fixes the answer
pub answer_told : (m : Files) (e : Question) (x : Answer e) → Fits (Some m) e x → x ≡ answer_in m e
answer_told m (file_size name) x h = h.so
answer_told m (file_bytes name at count) x h = h.so
answer_told m memory x h = refl

-- what is left of a calculation gives over told files what all of it gives, and takes the rest of
-- its calls and bytes
pub record Told {A : Type 0} (m : Files) (s : List Question) (p q : Asks A) : Type 0 where
  pub gives : over m p ≡ over m q
  pub calls : calls_over m p ≡ calls_in s + calls_over m q
  pub asked : bytes_over m p ≡ bytes_asked s + bytes_over m q

pub told_trace : {A : Type 0} (m : Files) (s : List Question) (p q : Asks A)
    → Trace (Some m) s p q → Told m s p q
unfolding Trace over calls_over bytes_over calls_in bytes_asked
told_trace m [] p q h = record {
  gives = ap (over m) h;
  calls = (let e = ap (calls_over m) h in omega (arith, e));
  asked = (let e = ap (bytes_over m) h in omega (arith, e));
}
told_trace m (e ∷ s) (gives a) q h = absurd h
told_trace m (e ∷ s) (asks d k) q h =
    let same : h.answer ≡ answer_in m d = answer_told m d h.answer h.fits in
    let rest = told_trace m s (k h.answer) q h.next in record {
      gives = ap (λ x. over m (k x)) (sym same) ∙ rest.gives;
      calls = (let c = ap (λ x. calls_over m (k x)) same in let r = rest.calls in
          let n = ap calls_of h.same in omega (arith, c, r, n));
      asked = (let c = ap (λ x. bytes_over m (k x)) same in let r = rest.asked in
          let n = ap bytes_of h.same in omega (arith, c, r, n));
    }

-- a question that is open is asked of any files
pub next_within : {A : Type 0} (m : Files) (p : Asks A) → next_calls p ≤ calls_over m p
unfolding next_calls calls_over
next_within m (gives a) = omega arith
next_within m (asks e k) = omega arith

pub next_bytes_within : {A : Type 0} (m : Files) (p : Asks A) → next_bytes p ≤ bytes_over m p
unfolding next_bytes bytes_over
next_bytes_within m (gives a) = omega arith
next_bytes_within m (asks e k) = omega arith

pub next_bind : {A B : Type 0} (p : Asks A) (f : A → Asks B) → next_calls p ≤ next_calls (bind p f)
unfolding next_calls bind
next_bind (gives a) f = omega arith
next_bind (asks e k) f = omega arith

pub next_bytes_bind : {A B : Type 0} (p : Asks A) (f : A → Asks B)
    → next_bytes p ≤ next_bytes (bind p f)
unfolding next_bytes bind
next_bytes_bind (gives a) f = omega arith
next_bytes_bind (asks e k) f = omega arith

pub wants_bind : {A B : Type 0} (p : Asks A) (f : A → Asks B) → WantsMemory p
    → WantsMemory (bind p f)
unfolding WantsMemory bind
wants_bind (gives a) f h = absurd h
wants_bind (asks e k) f h = h

-- memory that is wanted at the end of a trace may be wanted from its start
wants_here : {A : Type 0} (m : Files) (e : Question) (k : Answer e → Asks A) → e ≡ memory
    → MayWant m (asks e k)
unfolding MayWant
wants_here m (file_size name) k h = absurd cc
wants_here m (file_bytes name at count) k h = absurd cc
wants_here m memory k h = tt

wants_next : {A : Type 0} (m : Files) (e : Question) (k : Answer e → Asks A)
    → MayWant m (k (answer_in m e)) → MayWant m (asks e k)
unfolding MayWant
wants_next m (file_size name) k h = h
wants_next m (file_bytes name at count) k h = h
wants_next m memory k h = tt

wanting : {A : Type 0} (m : Files) (p : Asks A) → WantsMemory p → MayWant m p
unfolding WantsMemory
wanting m (gives a) h = absurd h
wanting m (asks e k) h = wants_here m e k h

pub wants_told : {A : Type 0} (m : Files) (s : List Question) (p q : Asks A)
    → Trace (Some m) s p q → WantsMemory q → MayWant m p
unfolding Trace
wants_told m [] p q h w = subst (MayWant m) (sym h) (wanting m q w)
wants_told m (e ∷ s) (gives a) q h w = absurd h
wants_told m (e ∷ s) (asks d k) q h w =
    wants_next m d k (subst (λ x. MayWant m (k x)) (answer_told m d h.answer h.fits)
    (wants_told m s (k h.answer) q h.next w))
